-- A field that is read is the field that was written, and what was written is read again.
use Rattle.std.proofs.Common.{◌≡◌, ◌⊎◌, ℕ, zero, suc, ◌+◌, ◌^◌, ◌<◌, ◌≤◌, Bool, true, false, cond, ltb, eqb, List, [], ◌∷◌, ◌++◌, length, take, drop, Option, Some, None, refl, sym, ap, subst, ◌∙◌, append_assoc, arith, inl, inr}
use Rattle.std.specs.Prelude.{IsTrue}
use Rattle.std.specs.List.{flat_map, AllByRecursion}
use Rattle.std.specs.Int.{Width, w16, w32, w64, byte_len, from_be_bytes, to_be_bytes}
use Rattle.std.proofs.lemmas.Bool.{cases_lt, ltb-false, le-ltb, eqb-true}
use Rattle.std.proofs.lemmas.List.{take_at, drop_at, take-append-drop, length-append, length-take, get_or-drop, get_or-take, get_or_past, append-nil, nil_from_length}
use Rattle.std.proofs.lemmas.List.Concat.{flat_map-cons}
use Rattle.std.proofs.lemmas.Nat.{be_bytes_2, be_bytes_4, be_bytes_8, from_be_bytes-to_be_bytes_2, from_be_bytes-to_be_bytes_4, from_be_bytes-to_be_bytes_8}
use Rattle.std.proofs.Common.{get_or}
use Rattle.byte_fields.specs.Fields.{◌>>=◌, Field, ◌then◌, ◌&◌, ◌giving◌, ◌if_it◌, ◌holding◌, whole, all_if, bytes_at, number_at, code_at, many}

-- ---- bytes

abbrev pub IsBytes : List ℕ → Type 0
IsBytes bytes = (i : ℕ) → get_or bytes i 0 < 256

pub IsBytes-drop : (n : ℕ) (bytes : List ℕ) → IsBytes bytes → IsBytes (drop n bytes)
IsBytes-drop n bytes h i = rw get_or-drop (h (n + i))

pub IsBytes-take : (n : ℕ) (bytes : List ℕ) → IsBytes bytes → IsBytes (take n bytes)
IsBytes-take n bytes h i =
    elim (cases_lt i n) [
      | inl lt ↦ rw (get_or-take n bytes i 0 lt) (h i)
      | inr le ↦ rw (get_or_past (take n bytes) i 0 (omega (arith, length-take n bytes))) (omega arith)
    ]

pub IsBytes-rest : (b : ℕ) (bytes : List ℕ) → IsBytes (b ∷ bytes) → IsBytes bytes
IsBytes-rest b bytes h i = h (suc i)

-- ---- steps of reading

pub some_is : {A : Type 0} (x y : A) → Some x ≡ Some y → x ≡ y
some_is x y e = cc

-- the value of a step that gave one
pub bind_some : {A B : Type 0} (o : Option A) (f : A → Option B) (y : B) → (o >>= f) ≡ Some y → (x : A) × (o ≡ Some x) × (f x ≡ Some y)
bind_some (Some x) f y e = (x, refl, e)
bind_some None f y e = absurd cc

-- a test that stopped nothing
pub guard_some : {A : Type 0} (b : Bool) (x y : A) → cond b None (Some x) ≡ Some y → (b ≡ false) × (x ≡ y)
guard_some true x y e = absurd cc
guard_some false x y e = (refl, cc)

pub pass_some : {A : Type 0} (b : Bool) (x y : A) → cond b (Some x) None ≡ Some y → (b ≡ true) × (x ≡ y)
pass_some true x y e = (refl, cc)
pass_some false x y e = absurd cc

-- what was taken from the front
pub record Takes (bytes text rest : List ℕ) : Type 0 where
  pub parts : bytes ≡ text ++ rest
  pub rest_fits : IsBytes rest

pub Takes-then : (a x b y c : List ℕ) → Takes a x b → Takes b y c → Takes a (x ++ y) c
Takes-then a x b y c p q = record { parts = p.parts ∙ ap (λ (t : List ℕ). x ++ t) q.parts ∙ sym (append_assoc x y c); rest_fits = q.rest_fits }

-- ---- fields

-- the field reads what these values are spelled by, and nothing else
pub record IsField {A : Type 0} (Is : A → Type 0) (spell : A → List ℕ) (field : Field A) : Type 0 where
  pub takes : (bytes : List ℕ) (x : A × List ℕ) → IsBytes bytes → field bytes ≡ Some x → Takes bytes (spell x.0) x.1 × Is x.0
  pub again : (a : A) (rest : List ℕ) → Is a → field (spell a ++ rest) ≡ Some (a, rest)

pub record IsWhole {A : Type 0} (Is : A → Type 0) (spell : A → List ℕ) (read : List ℕ → Option A) : Type 0 where
  pub takes : (bytes : List ℕ) (a : A) → IsBytes bytes → read bytes ≡ Some a → (bytes ≡ spell a) × Is a
  pub again : (a : A) → Is a → read (spell a) ≡ Some a

pub is_then : {A B : Type 0} (IsA : A → Type 0) (IsB : A → B → Type 0) (sa : A → List ℕ) (sb : B → List ℕ) (fa : Field A) (fb : A → Field B)
    → IsField IsA sa fa → ((a : A) → IsField (IsB a) sb (fb a)) → IsField (λ (x : A × B). IsA x.0 × IsB x.0 x.1) (λ (x : A × B). sa x.0 ++ sb x.1) (fa then fb)
is_then {A = A} {B = B} IsA IsB sa sb fa fb p q = record {
  takes = λ bytes x fits e.
      let a = bind_some (fa bytes) (λ a. fb a.0 a.1 >>= λ b. Some ((a.0, b.0), b.1)) x e in
      let b = bind_some (fb a.0.0 a.0.1) (λ b. Some ((a.0.0, b.0), b.1)) x a.2 in
      let t = p.takes bytes a.0 fits a.1 in
      let u = (q a.0.0).takes a.0.1 b.0 t.0.rest_fits b.1 in
      let made : (A × B) × List ℕ = ((a.0.0, b.0.0), b.0.1) in
      subst (λ (y : (A × B) × List ℕ). Takes bytes (sa y.0.0 ++ sb y.0.1) y.1 × (IsA y.0.0 × IsB y.0.0 y.0.1)) (some_is made x b.2)
      (Takes-then bytes (sa a.0.0) a.0.1 (sb b.0.0) b.0.1 t.0 u.0, (t.1, u.1));
  again = λ x rest is.
      ap (fa then fb) (append_assoc (sa x.0) (sb x.1) rest) ∙ rw (p.again x.0 (sb x.1 ++ rest) is.0, (q x.0).again x.1 rest is.1) refl;
}

pub is_both : {A B : Type 0} {IsA : A → Type 0} {IsB : B → Type 0} {sa : A → List ℕ} {sb : B → List ℕ} {fa : Field A} {fb : Field B}
    → IsField IsA sa fa → IsField IsB sb fb → IsField (λ (x : A × B). IsA x.0 × IsB x.1) (λ (x : A × B). sa x.0 ++ sb x.1) (fa & fb)
is_both {A = A} {B = B} {IsA = IsA} {IsB = IsB} {sa = sa} {sb = sb} {fa = fa} {fb = fb} p q =
    let r = is_then IsA (λ (a : A). IsB) sa sb fa (λ (a : A). fb) p (λ a. q) in
    record { takes = r.takes; again = r.again }

pub is_giving : {A B : Type 0} {IsA : A → Type 0} (IsB : B → Type 0) {sa : A → List ℕ} (sb : B → List ℕ) {fa : Field A} (make : A → B)
    → IsField IsA sa fa → ((a : A) → IsA a → (sa a ≡ sb (make a)) × IsB (make a)) → ((b : B) → IsB b → (a : A) × (make a ≡ b) × IsA a)
    → IsField IsB sb (fa giving make)
is_giving {A = A} {B = B} {IsA = IsA} IsB {sa = sa} sb {fa = fa} make p forth back = record {
  takes = λ bytes x fits e.
      let a = bind_some (fa bytes) (λ a. Some (make a.0, a.1)) x e in
      let t = p.takes bytes a.0 fits a.1 in
      let f = forth a.0.0 t.1 in
      let made : B × List ℕ = (make a.0.0, a.0.1) in
      subst (λ (y : B × List ℕ). Takes bytes (sb y.0) y.1 × IsB y.0) (some_is made x a.2)
      (subst (λ (s : List ℕ). Takes bytes s a.0.1) f.0 t.0, f.1);
  again = λ b rest is.
      let a = back b is in
      let same : sb b ≡ sa a.0 = ap sb (sym a.1) ∙ sym (forth a.0 a.2).0 in
      ap (λ (s : List ℕ). (fa giving make) (s ++ rest)) same ∙ rw (p.again a.0 rest a.2) (ap (λ (y : B). Some (y, rest)) a.1);
}

-- bytes in the middle of bytes
inner_fits : (front text rest bytes : List ℕ) → bytes ≡ (front ++ text) ++ rest → IsBytes bytes → IsBytes text
inner_fits front text rest bytes whole fits =
    let behind : drop (length front) bytes ≡ text ++ rest = ap (λ (l : List ℕ). drop (length front) l) (whole ∙ append_assoc front text rest)
    ∙ drop_at front (text ++ rest) (length front) refl in
    let is : take (length text) (drop (length front) bytes) ≡ text = ap (λ (l : List ℕ). take (length text) l) behind ∙ take_at text rest (length text) refl in
    subst IsBytes is (IsBytes-take (length text) (drop (length front) bytes) (IsBytes-drop (length front) bytes fits))

-- a field that is all of the bytes within another
pub is_holding : {A : Type 0} {IsText : List ℕ → Type 0} {Is : A → Type 0} (front : List ℕ → List ℕ) {spell : A → List ℕ} {outer : Field (List ℕ)}
    {inner : Field A}
    → IsField IsText (λ (t : List ℕ). front t ++ t) outer → IsField Is spell inner
    → IsField (λ (a : A). IsText (spell a) × Is a) (λ (a : A). front (spell a) ++ spell a) (outer holding inner)
is_holding {A = A} {IsText = IsText} {Is = Is} front {spell = spell} {outer = outer} {inner = inner} p q = record {
  takes = λ bytes x fits e.
      let o = bind_some (outer bytes) (λ text. inner text.0 >>= λ a. cond (eqb (length a.1) 0) (Some (a.0, text.1)) None) x e in
      let i = bind_some (inner o.0.0) (λ a. cond (eqb (length a.1) 0) (Some (a.0, o.0.1)) None) x o.2 in
      let g = pass_some (eqb (length i.0.1) 0) (i.0.0, o.0.1) x i.2 in
      let t = p.takes bytes o.0 fits o.1 in
      let u = q.takes o.0.0 i.0 (inner_fits (front o.0.0) o.0.0 o.0.1 bytes t.0.parts fits) i.1 in
      let nothing : i.0.1 ≡ [] = nil_from_length i.0.1 (eqb-true _ _ g.0) in
      let text : o.0.0 ≡ spell i.0.0 = u.0.parts ∙ ap (λ (l : List ℕ). spell i.0.0 ++ l) nothing ∙ append-nil (spell i.0.0) in
      subst (λ (y : A × List ℕ). Takes bytes (front (spell y.0) ++ spell y.0) y.1 × (IsText (spell y.0) × Is y.0)) g.1
      (subst (λ (s : List ℕ). Takes bytes (front s ++ s) o.0.1) text t.0, (subst IsText text t.1, u.1));
  again = λ a rest is.
      let alone : inner (spell a) ≡ Some (a, []) = ap inner (sym (append-nil (spell a))) ∙ q.again a [] is.1 in
      rw (p.again (spell a) rest is.0, alone) refl;
}

pub is_tested : {A : Type 0} {IsA : A → Type 0} (IsB : A → Type 0) {sa : A → List ℕ} {fa : Field A} (test : A → Bool)
    → IsField IsA sa fa → ((a : A) → IsA a → test a ≡ true → IsB a) → ((a : A) → IsB a → IsA a × (test a ≡ true))
    → IsField IsB sa (fa if_it test)
is_tested {A = A} {IsA = IsA} IsB {sa = sa} {fa = fa} test p forth back = record {
  takes = λ bytes x fits e.
      let a = bind_some (fa bytes) (λ a. cond (test a.0) (Some a) None) x e in
      let g = pass_some (test a.0.0) a.0 x a.2 in
      let t = p.takes bytes a.0 fits a.1 in
      subst (λ (y : A × List ℕ). Takes bytes (sa y.0) y.1 × IsB y.0) g.1 (t.0, forth a.0.0 t.1 g.0);
  again = λ a rest is.
      let b = back a is in
      rw (p.again a rest b.0, b.1) refl;
}

pub is_whole : {A : Type 0} {Is : A → Type 0} {spell : A → List ℕ} {field : Field A} → IsField Is spell field → IsWhole Is spell (whole field)
is_whole {A = A} {Is = Is} {spell = spell} {field = field} p = record {
  takes = λ bytes a fits e.
      let x = bind_some (field bytes) (λ x. cond (eqb (length x.1) 0) (Some x.0) None) a e in
      let g = pass_some (eqb (length x.0.1) 0) x.0.0 a x.2 in
      let t = p.takes bytes x.0 fits x.1 in
      let nothing : x.0.1 ≡ [] = nil_from_length x.0.1 (eqb-true _ _ g.0) in
      let parts : bytes ≡ spell x.0.0 = t.0.parts ∙ ap (λ (l : List ℕ). spell x.0.0 ++ l) nothing ∙ append-nil (spell x.0.0) in
      subst (λ (b : A). (bytes ≡ spell b) × Is b) g.1 (parts, t.1);
  again = λ a is. ap (whole field) (sym (append-nil (spell a))) ∙ rw (p.again a [] is) refl;
}

pub is_all : (test : List ℕ → Bool) → IsWhole (λ bytes. IsTrue (test bytes)) (λ bytes. bytes) (all_if test)
is_all test = record {
  takes = λ bytes a fits e. let g = pass_some (test bytes) bytes a e in (g.1, subst (λ (t : List ℕ). test t ≡ true) g.1 g.0);
  again = λ a is. rw is refl;
}

-- ---- bytes and numbers

pub is_bytes : (n : ℕ) → IsField (λ (t : List ℕ). length t ≡ n) (λ (t : List ℕ). t) (bytes_at n)
unfolding bytes_at
is_bytes n = record {
  takes = λ bytes x fits e.
      let g = guard_some (ltb (length bytes) n) (take n bytes, drop n bytes) x e in
      let long : n ≤ length bytes = ltb-false _ _ g.0 in
      let len : length (take n bytes) ≡ n = omega (arith, length-take n bytes) in
      subst (λ (y : List ℕ × List ℕ). Takes bytes y.0 y.1 × (length y.0 ≡ n)) g.1
      (record { parts = sym (take-append-drop n bytes); rest_fits = IsBytes-drop n bytes fits }, len);
  again = λ a rest is.
      let long : ltb (length (a ++ rest)) n ≡ false = le-ltb _ _ (omega (arith, length-append a rest)) in
      rw (long, take_at a rest n is, drop_at a rest n is) refl;
}

pub record IsWide (w : Width) (limit : ℕ) : Type 0 where
  pub len : (n : ℕ) → length (to_be_bytes w n) ≡ byte_len w
  pub back : (bytes : List ℕ) → length bytes ≡ byte_len w → IsBytes bytes → to_be_bytes w (from_be_bytes w bytes) ≡ bytes
  pub again : (n : ℕ) → n < limit → from_be_bytes w (to_be_bytes w n) ≡ n
  pub below : (bytes : List ℕ) → IsBytes bytes → from_be_bytes w bytes < limit

pub wide16 : IsWide w16 (2 ^ 16)
wide16 = record {
  len = λ n. refl;
  back = λ bytes len fits. be_bytes_2 bytes _ len fits refl;
  again = λ n lt. from_be_bytes-to_be_bytes_2 n lt;
  below = λ bytes fits. omega (arith, fits 0, fits 1);
}

pub wide32 : IsWide w32 (2 ^ 32)
wide32 = record {
  len = λ n. refl;
  back = λ bytes len fits. be_bytes_4 bytes _ len fits refl;
  again = λ n lt. from_be_bytes-to_be_bytes_4 n lt;
  below = λ bytes fits. omega (arith, fits 0, fits 1, fits 2, fits 3);
}

pub wide64 : IsWide w64 (2 ^ 64)
wide64 = record {
  len = λ n. refl;
  back = λ bytes len fits. be_bytes_8 bytes _ len fits refl;
  again = λ n lt. from_be_bytes-to_be_bytes_8 n lt;
  below = λ bytes fits. omega (arith, fits 0, fits 1, fits 2, fits 3, fits 4, fits 5, fits 6, fits 7);
}

pub is_number : (w : Width) (limit : ℕ) → IsWide w limit → IsField (λ (n : ℕ). n < limit) (λ (n : ℕ). to_be_bytes w n) (number_at w)
unfolding number_at bytes_at
is_number w limit wide = record {
  takes = λ bytes x fits e.
      let a = bind_some (bytes_at (byte_len w) bytes) (λ a. Some (from_be_bytes w a.0, a.1)) x e in
      let g = guard_some (ltb (length bytes) (byte_len w)) (take (byte_len w) bytes, drop (byte_len w) bytes) a.0 a.1 in
      let long : byte_len w ≤ length bytes = ltb-false _ _ g.0 in
      let front : List ℕ = take (byte_len w) bytes in
      let front_fits : IsBytes front = IsBytes-take (byte_len w) bytes fits in
      let len : length front ≡ byte_len w = omega (arith, length-take (byte_len w) bytes) in
      let parts : bytes ≡ to_be_bytes w (from_be_bytes w front) ++ drop (byte_len w) bytes =
      sym (take-append-drop (byte_len w) bytes) ∙ ap (λ (t : List ℕ). t ++ drop (byte_len w) bytes) (sym (wide.back front len front_fits)) in
      let first : Takes bytes (to_be_bytes w (from_be_bytes w front)) (drop (byte_len w) bytes) × (from_be_bytes w front < limit) =
      (record { parts = parts; rest_fits = IsBytes-drop (byte_len w) bytes fits }, wide.below front front_fits) in
      let second = subst (λ (y : List ℕ × List ℕ). Takes bytes (to_be_bytes w (from_be_bytes w y.0)) y.1 × (from_be_bytes w y.0 < limit)) g.1 first in
      subst (λ (y : ℕ × List ℕ). Takes bytes (to_be_bytes w y.0) y.1 × (y.0 < limit)) (some_is (from_be_bytes w a.0.0, a.0.1) x a.2) second;
  again = λ n rest lt.
      let len = wide.len n in
      let long : ltb (length (to_be_bytes w n ++ rest)) (byte_len w) ≡ false = le-ltb _ _ (omega (arith, length-append (to_be_bytes w n) rest)) in
      rw (long, take_at (to_be_bytes w n) rest (byte_len w) len, drop_at (to_be_bytes w n) rest (byte_len w) len, wide.again n lt) refl;
}

-- ---- a choice by a byte

pub chosen : {A : Type 0} (b : Bool) (x y z : A) → cond b x y ≡ z → ((b ≡ true) × (x ≡ z)) ⊎ ((b ≡ false) × (y ≡ z))
chosen true x y z e = inl (refl, e)
chosen false x y z e = inr (refl, e)

pub none_is : {A : Type 0} (x : A) → None ≡ Some x → ⊥
none_is x e = cc

-- a byte stands for a value, and each value has one byte
pub record IsCode {A : Type 0} (Is : A → Type 0) (code : A → ℕ) (meaning : ℕ → Option A) : Type 0 where
  pub takes : (b : ℕ) (a : A) → b < 256 → meaning b ≡ Some a → (b ≡ code a) × Is a
  pub again : (a : A) → Is a → meaning (code a) ≡ Some a

pub is_code : {A : Type 0} {Is : A → Type 0} {code : A → ℕ} {meaning : ℕ → Option A} → IsCode Is code meaning
    → IsField Is (λ (a : A). code a ∷ []) (code_at meaning)
is_code {A = A} {Is = Is} {code = code} {meaning = meaning} p = record {
  takes = λ bytes x fits e. elim bytes as (λ (bs : List ℕ). IsBytes bs → code_at meaning bs ≡ Some x → Takes bs (code x.0 ∷ []) x.1 × Is x.0) [
    | [] ↦ λ fits e. absurd cc
    | b ∷ rest ↦ λ fits e.
        let a = bind_some (meaning b) (λ a. Some (a, rest)) x e in
        let t = p.takes b a.0 (fits 0) a.1 in
        subst (λ (y : A × List ℕ). Takes (b ∷ rest) (code y.0 ∷ []) y.1 × Is y.0) (some_is (a.0, rest) x a.2)
        (record { parts = ap (λ (k : ℕ). k ∷ rest) t.0; rest_fits = IsBytes-rest b rest fits }, t.1)
  ] fits e;
  again = λ a rest is. rw (p.again a is) refl;
}

-- one more byte that stands for a value
pub code_first : {A : Type 0} (P : A → Type 0) (k n : ℕ) (a x : A) (other : Option A) → (k ≡ n → P a) → (other ≡ Some x → P x)
    → cond (eqb k n) (Some a) other ≡ Some x → P x
code_first P k n a x other here there e =
    elim (eqb k n) as (λ (b : Bool). eqb k n ≡ b → cond b (Some a) other ≡ Some x → P x) [
      | true ↦ λ is e. subst P (some_is a x e) (here (eqb-true k n is))
      | false ↦ λ is e. there e
    ] refl e

-- ---- so many fields of one kind

many_takes : {A : Type 0} {Is : A → Type 0} {spell : A → List ℕ} {field : Field A} → IsField Is spell field → (n : ℕ) (bytes : List ℕ) (x : List A × List ℕ)
    → IsBytes bytes → many field n bytes ≡ Some x → Takes bytes (flat_map spell x.0) x.1 × ((length x.0 ≡ n) × AllByRecursion Is x.0)
unfolding many
many_takes {A = A} {Is = Is} {spell = spell} {field = field} p zero bytes x fits e =
    subst (λ (y : List A × List ℕ). Takes bytes (flat_map spell y.0) y.1 × ((length y.0 ≡ 0) × AllByRecursion Is y.0)) (some_is ([], bytes) x e)
    (record { parts = refl; rest_fits = fits }, (refl, tt))
many_takes {A = A} {Is = Is} {spell = spell} {field = field} p (suc n) bytes x fits e =
    let a = bind_some (field bytes) (λ first. many field n first.1 >>= λ others. Some (first.0 ∷ others.0, others.1)) x e in
    let b = bind_some (many field n a.0.1) (λ others. Some (a.0.0 ∷ others.0, others.1)) x a.2 in
    let first = p.takes bytes a.0 fits a.1 in
    let second = many_takes p n a.0.1 b.0 first.0.rest_fits b.1 in
    let both = Takes-then bytes (spell a.0.0) a.0.1 (flat_map spell b.0.0) b.0.1 first.0 second.0 in
    let made : List A × List ℕ = (a.0.0 ∷ b.0.0, b.0.1) in
    subst (λ (y : List A × List ℕ). Takes bytes (flat_map spell y.0) y.1 × ((length y.0 ≡ suc n) × AllByRecursion Is y.0)) (some_is made x b.2)
    (rw flat_map-cons both, (ap suc second.1.0, (first.1, second.1.1)))

many_again : {A : Type 0} {Is : A → Type 0} {spell : A → List ℕ} {field : Field A} → IsField Is spell field → (xs : List A) (rest : List ℕ)
    → AllByRecursion Is xs → many field (length xs) (flat_map spell xs ++ rest) ≡ Some (xs, rest)
unfolding many
many_again p [] rest all = refl
many_again {A = A} {Is = Is} {spell = spell} {field = field} p (x ∷ xs) rest all =
    let regrouped : flat_map spell (x ∷ xs) ++ rest ≡ spell x ++ (flat_map spell xs ++ rest) =
    ap (λ (l : List ℕ). l ++ rest) (flat_map-cons spell x xs) ∙ append_assoc (spell x) (flat_map spell xs) rest in
    ap (many field (suc (length xs))) regrouped ∙ rw (p.again x (flat_map spell xs ++ rest) all.0, many_again p xs rest all.1) refl

pub is_many : {A : Type 0} {Is : A → Type 0} {spell : A → List ℕ} {field : Field A} → IsField Is spell field → (n : ℕ)
    → IsField (λ (xs : List A). (length xs ≡ n) × AllByRecursion Is xs) (λ (xs : List A). flat_map spell xs) (many field n)
is_many {A = A} {Is = Is} {spell = spell} {field = field} p n = record {
  takes = many_takes p n;
  again = λ xs rest is. subst (λ (k : ℕ). many field k (flat_map spell xs ++ rest) ≡ Some (xs, rest)) is.0 (many_again p xs rest is.1);
}
