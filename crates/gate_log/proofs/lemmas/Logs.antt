-- Bytes stand for one state at most, or break at one offset.
use Rattle.std.proofs.Common.{◌≡◌, ◌≢◌, ℕ, ◌+◌, ◌≤◌, List, [], ◌∷◌, ◌++◌, length, take, drop, Option, Some, None, refl, sym, ap, subst, ◌∙◌, append_assoc, arith, inl, inr, length-append}
use Rattle.std.specs.List.{flat_map}
use Rattle.std.proofs.lemmas.Bool.{cases_lt}
use Rattle.std.proofs.lemmas.List.{append-nil, take_at, drop_at}
use Rattle.std.proofs.lemmas.List.Concat.{flat_map-cons, flat_map-append}
use Rattle.bk_disk.specs.Disk.{Follows}
use Rattle.gate_log.specs.Gates.{IsShut}
use Rattle.gate_log.specs.Grammars.{Grammar, IsReader}
use Rattle.gate_log.specs.Logs.{Leads, opened, IsFront, Stands, EndsBadly, BreaksAt, IsBad, SameOrFirst, Keeps}

abbrev some : {A : Type 0} → A → Option A
some x = Some x

pub some_is : {A : Type 0} (x y : A) → some x ≡ some y → x ≡ y
some_is x y e = cc

pub none_is : {A : Type 0} (x : A) → None ≡ some x → ⊥
none_is x e = cc

module _ {R S : Type 0} (g : Grammar R S) where
  pub leads-push : (s : S) (rs : List R) (t : S) (r : R) → Leads g s rs t → g.is_record r → g.is_legal t r → Leads g s (rs ++ r ∷ []) (g.after t r)
  leads-push s [] t r leads is legal = (is, subst (λ (n : S). g.is_legal n r) (sym leads) legal, ap (λ (n : S). g.after n r) leads)
  leads-push s (q ∷ rs) t r leads is legal = (leads.0, leads.1, leads-push (g.after s q) rs t r leads.2 is legal)

  pub front-push : (front : List ℕ) (s : S) (r : R) → IsFront g front s → g.is_record r → g.is_legal s r → IsFront g (front ++ opened g r) (g.after s r)
  front-push front s r f is legal = record {
    records = f.records ++ r ∷ [];
    spelled = ap (λ (b : List ℕ). b ++ opened g r) f.spelled ∙ append_assoc g.name (flat_map (opened g) f.records) (opened g r)
        ∙ ap (λ (b : List ℕ). g.name ++ b)
        (sym (flat_map-append (opened g) f.records (r ∷ []) ∙ ap (λ (b : List ℕ). flat_map (opened g) f.records ++ b)
        (flat_map-cons (opened g) r [] ∙ append-nil (opened g r))));
    leads = leads-push g.first f.records s r f.leads is legal;
  }

  pub first_front : IsFront g g.name g.first
  first_front = record { records = []; spelled = sym (append-nil g.name); leads = refl }

  no_records : (rs : List R) (s : S) → length (g.name ++ flat_map (opened g) rs) ≤ length g.name → Leads g g.first rs s → s ≡ g.first
  no_records [] s short leads = sym leads
  no_records (r ∷ rs) s short leads =
      absurd (omega (arith, short, length-append g.name (flat_map (opened g) (r ∷ rs)), ap (λ (b : List ℕ). length b) (flat_map-cons (opened g) r rs)))

  -- a front with a closed gate behind it stands for its state
  pub shut_stands : (front bytes : List ℕ) (s : S) → IsFront g front s → IsShut front bytes → Stands g bytes s
  shut_stands front bytes s f shut = elim (cases_lt (length g.name + 1) (length bytes)) [
    | inl long ↦ inr (long, (front, f, shut))
    | inr short ↦ (
        let size : length bytes ≡ length front + length (shut.byte ∷ shut.rest) =
        ap (λ (b : List ℕ). length b) shut.whole ∙ length-append front (shut.byte ∷ shut.rest) in
        let whole : length (g.name ++ flat_map (opened g) f.records) ≡ length front = ap (λ (b : List ℕ). length b) (sym f.spelled) in
        inl (short, no_records f.records s (omega (arith, size, whole, short)) f.leads))
  ]

  -- the first record and what comes behind it
  unrolled : (r : R) (rs : List R) (x : List ℕ) → flat_map (opened g) (r ∷ rs) ++ x ≡ 1 ∷ (g.spelling r ++ (flat_map (opened g) rs ++ x))
  unrolled r rs x = ap (λ (b : List ℕ). b ++ x) (flat_map-cons (opened g) r rs) ∙ append_assoc (opened g r) (flat_map (opened g) rs) x

  -- the name, and what comes behind it
  front_name : (front x bytes : List ℕ) (s : S) → bytes ≡ front ++ x → IsFront g front s → take (length g.name) bytes ≡ g.name
  front_name front x bytes s whole f =
      ap (λ (b : List ℕ). take (length g.name) b) (whole ∙ ap (λ (b : List ℕ). b ++ x) f.spelled ∙ append_assoc g.name (flat_map (opened g) f.records) x)
      ∙ take_at g.name (flat_map (opened g) f.records ++ x) (length g.name) refl

  behind_name : (front x bytes : List ℕ) (s : S) → bytes ≡ front ++ x → (f : IsFront g front s)
      → drop (length g.name) bytes ≡ flat_map (opened g) f.records ++ x
  behind_name front x bytes s whole f =
      ap (λ (b : List ℕ). drop (length g.name) b) (whole ∙ ap (λ (b : List ℕ). b ++ x) f.spelled ∙ append_assoc g.name (flat_map (opened g) f.records) x)
      ∙ drop_at g.name (flat_map (opened g) f.records ++ x) (length g.name) refl

  -- a record that may follow stands where a file was said to break
  no_break : (s : S) (rest : List ℕ) (r : R) (x : List ℕ) → EndsBadly g s rest → rest ≡ 1 ∷ (g.spelling r ++ x) → g.is_record r → g.is_legal s r → ⊥
  no_break s [] r x ends e is legal = absurd cc
  no_break s (gate ∷ rest) r x ends e is legal = ends.1 r x is legal (ap (λ (b : List ℕ). drop 1 b) e)

  -- ---- what a reader shows: each record is spelled in one way

  module _ (read : List ℕ → Option (R × List ℕ)) (reader : IsReader g read) where
    same_first : (r q : R) (x y : List ℕ) → g.is_record r → g.is_record q → 1 ∷ (g.spelling r ++ x) ≡ 1 ∷ (g.spelling q ++ y) → (r ≡ q) × (x ≡ y)
    same_first r q x y is_r is_q e =
        let pair : (r, x) ≡ (q, y) = some_is (r, x) (q, y) (sym (reader.again r x is_r) ∙ ap read (ap (λ (b : List ℕ). drop 1 b) e) ∙ reader.again q y is_q) in
        (ap (λ (p : R × List ℕ). p.0) pair, ap (λ (p : R × List ℕ). p.1) pair)

    same_log : (rs qs : List R) (s t u : S) (b h : ℕ) (x y : List ℕ) → b ≢ 1 → h ≢ 1 → flat_map (opened g) rs ++ b ∷ x ≡ flat_map (opened g) qs ++ h ∷ y
        → Leads g s rs t → Leads g s qs u → t ≡ u
    same_log [] [] s t u b h x y shut_b shut_h e leads_t leads_u = sym leads_t ∙ leads_u
    same_log [] (q ∷ qs) s t u b h x y shut_b shut_h e leads_t leads_u =
        let f : b ∷ x ≡ 1 ∷ (g.spelling q ++ (flat_map (opened g) qs ++ h ∷ y)) = e ∙ unrolled q qs (h ∷ y) in
        let open_gate : b ≡ 1 = cc in
        absurd (shut_b open_gate)
    same_log (r ∷ rs) [] s t u b h x y shut_b shut_h e leads_t leads_u =
        let f : h ∷ y ≡ 1 ∷ (g.spelling r ++ (flat_map (opened g) rs ++ b ∷ x)) = sym e ∙ unrolled r rs (b ∷ x) in
        let open_gate : h ≡ 1 = cc in
        absurd (shut_h open_gate)
    same_log (r ∷ rs) (q ∷ qs) s t u b h x y shut_b shut_h e leads_t leads_u =
        let same = same_first r q (flat_map (opened g) rs ++ b ∷ x) (flat_map (opened g) qs ++ h ∷ y) leads_t.0 leads_u.0
        (sym (unrolled r rs (b ∷ x)) ∙ e ∙ unrolled q qs (h ∷ y)) in
        same_log rs qs (g.after s r) t u b h x y shut_b shut_h same.1 leads_t.2 (subst (λ (k : R). Leads g (g.after s k) qs u) (sym same.0) leads_u.2)

    pub shut_once : (bytes front back : List ℕ) (s t : S) → IsFront g front s → IsShut front bytes → IsFront g back t → IsShut back bytes → s ≡ t
    shut_once bytes front back s t f a h b =
        same_log f.records h.records g.first s t a.byte b.byte a.rest b.rest a.closed b.closed
        (sym (behind_name front (a.byte ∷ a.rest) bytes s a.whole f) ∙ behind_name back (b.byte ∷ b.rest) bytes t b.whole h) f.leads h.leads

    pub stands_once : (bytes : List ℕ) (s t : S) → Stands g bytes s → Stands g bytes t → s ≡ t
    stands_once bytes s t (inl a) (inl b) = a.1 ∙ sym b.1
    stands_once bytes s t (inl a) (inr b) = absurd (omega (arith, a.0, b.0))
    stands_once bytes s t (inr a) (inl b) = absurd (omega (arith, a.0, b.0))
    stands_once bytes s t (inr a) (inr b) = shut_once bytes a.1.0 b.1.0 s t a.1.1 a.1.2 b.1.1 b.1.2

    closed_clash : (rs qs : List R) (s t u : S) (b : ℕ) (x rest : List ℕ) → b ≢ 1 → flat_map (opened g) rs ++ b ∷ x ≡ flat_map (opened g) qs ++ rest
        → Leads g s rs t → Leads g s qs u → EndsBadly g u rest → ⊥
    closed_clash [] [] s t u b x [] shut e leads_t leads_u ends = absurd cc
    closed_clash [] [] s t u b x (h ∷ rest) shut e leads_t leads_u ends = let same : b ≡ h = cc in shut (same ∙ ends.0)
    closed_clash [] (q ∷ qs) s t u b x rest shut e leads_t leads_u ends =
        let f : b ∷ x ≡ 1 ∷ (g.spelling q ++ (flat_map (opened g) qs ++ rest)) = e ∙ unrolled q qs rest in
        let open_gate : b ≡ 1 = cc in
        shut open_gate
    closed_clash (r ∷ rs) [] s t u b x rest shut e leads_t leads_u ends =
        no_break u rest r (flat_map (opened g) rs ++ b ∷ x) ends (sym e ∙ unrolled r rs (b ∷ x)) leads_t.0 (subst (λ (k : S). g.is_legal k r) leads_u leads_t.1)
    closed_clash (r ∷ rs) (q ∷ qs) s t u b x rest shut e leads_t leads_u ends =
        let same = same_first r q (flat_map (opened g) rs ++ b ∷ x) (flat_map (opened g) qs ++ rest) leads_t.0 leads_u.0
        (sym (unrolled r rs (b ∷ x)) ∙ e ∙ unrolled q qs rest) in
        closed_clash rs qs (g.after s r) t u b x rest shut same.1 leads_t.2 (subst (λ (k : R). Leads g (g.after s k) qs u) (sym same.0) leads_u.2) ends

    same_break : (rs qs : List R) (s t u : S) (x y : List ℕ) → flat_map (opened g) rs ++ x ≡ flat_map (opened g) qs ++ y → Leads g s rs t → Leads g s qs u
        → EndsBadly g t x → EndsBadly g u y → x ≡ y
    same_break [] [] s t u x y e leads_t leads_u bad_t bad_u = e
    same_break [] (q ∷ qs) s t u x y e leads_t leads_u bad_t bad_u =
        absurd (no_break t x q (flat_map (opened g) qs ++ y) bad_t (e ∙ unrolled q qs y) leads_u.0 (subst (λ (k : S). g.is_legal k q) leads_t leads_u.1))
    same_break (r ∷ rs) [] s t u x y e leads_t leads_u bad_t bad_u =
        absurd (no_break u y r (flat_map (opened g) rs ++ x) bad_u (sym e ∙ unrolled r rs x) leads_t.0 (subst (λ (k : S). g.is_legal k r) leads_u leads_t.1))
    same_break (r ∷ rs) (q ∷ qs) s t u x y e leads_t leads_u bad_t bad_u =
        let same = same_first r q (flat_map (opened g) rs ++ x) (flat_map (opened g) qs ++ y) leads_t.0 leads_u.0
        (sym (unrolled r rs x) ∙ e ∙ unrolled q qs y) in
        same_break rs qs (g.after s r) t u x y same.1 leads_t.2 (subst (λ (k : R). Leads g (g.after s k) qs u) (sym same.0) leads_u.2) bad_t bad_u

    pub shut_unbroken : (bytes front : List ℕ) (s : S) (at : ℕ) → IsFront g front s → IsShut front bytes → BreaksAt g bytes at → ⊥
    shut_unbroken bytes front s at f shut b =
        closed_clash f.records b.is_front.records g.first s b.state shut.byte shut.rest b.rest shut.closed
        (sym (behind_name front (shut.byte ∷ shut.rest) bytes s shut.whole f) ∙ behind_name b.front b.rest bytes b.state b.whole b.is_front)
        f.leads b.is_front.leads b.ends

    pub stands_unbroken : (bytes : List ℕ) (s : S) (at : ℕ) → Stands g bytes s → IsBad g bytes at → ⊥
    stands_unbroken bytes s at (inl short) bad = absurd (omega (arith, short.0, bad.long))
    stands_unbroken bytes s at (inr h) bad = elim bad.broken [
      | inl name ↦ name.0 (front_name h.1.0 (h.1.2.byte ∷ h.1.2.rest) bytes s h.1.2.whole h.1.1)
      | inr b ↦ shut_unbroken bytes h.1.0 s at h.1.1 h.1.2 b
    ]

    pub breaks_once : (bytes : List ℕ) (at here : ℕ) → BreaksAt g bytes at → BreaksAt g bytes here → at ≡ here
    breaks_once bytes at here a b =
        let rests = same_break a.is_front.records b.is_front.records g.first a.state b.state a.rest b.rest
        (sym (behind_name a.front a.rest bytes a.state a.whole a.is_front) ∙ behind_name b.front b.rest bytes b.state b.whole b.is_front)
        a.is_front.leads b.is_front.leads a.ends b.ends in
        omega (
          arith,
          ap (λ (x : List ℕ). length x) rests,
          ap (λ (x : List ℕ). length x)
              (sym a.whole ∙ b.whole),
          length-append a.front a.rest,
          length-append b.front b.rest,
          a.place,
          b.place,
        )

    pub bad_once : (bytes : List ℕ) (at here : ℕ) → IsBad g bytes at → IsBad g bytes here → at ≡ here
    bad_once bytes at here a b = elim a.broken [
      | inl x ↦ elim b.broken [
        | inl y ↦ x.1 ∙ sym y.1
        | inr y ↦ absurd (x.0 (front_name y.front y.rest bytes y.state y.whole y.is_front))
      ]
      | inr x ↦ elim b.broken [
        | inl y ↦ absurd (y.0 (front_name x.front x.rest bytes x.state x.whole x.is_front))
        | inr y ↦ breaks_once bytes at here x y
      ]
    ]

    keeps : (old new : List ℕ) → SameOrFirst g old new → Keeps g old new
    keeps old new (inl same) = record { states = λ s stands. subst (λ (b : List ℕ). Stands g b s) (sym same) stands; bytes = λ at bad. same }
    keeps old new (inr none) =
        record {
          states = λ s stands. subst (λ (t : S). Stands g new t) (stands_once old g.first s none.0 stands) none.1;
          bytes =
              λ at bad. absurd (stands_unbroken old g.first at none.0 bad);
        }

    pub all_keep : (old new : List ℕ → Type 0) → Follows (SameOrFirst g) old new → Follows (Keeps g) old new
    all_keep old new follows c left =
        let from = follows c left in
        (from.0, from.1, keeps from.0 c from.2)
