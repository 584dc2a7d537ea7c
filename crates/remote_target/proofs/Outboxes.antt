-- Lists of calls in an outbox.
use Rattle.std.proofs.Common.{◌≡◌, ℕ, ◌⊎◌, inl, inr, ⊎_elim, Bool, true, false, ◌&&◌, ◌||◌, cond, true≢false, is_none, map, List, [], ◌∷◌, ◌++◌, Option, Some, Contains, refl, sym, ap, subst, ◌∙◌}
use Rattle.std.specs.Str.{bytes_eq}
use Rattle.std.proofs.lemmas.List.Elements.{Contains-append_left, Contains-push_cases}
use Rattle.remote_target.specs.declared.call.CallAnswer.{CallAnswer}
use Rattle.remote_target.specs.declared.call.CallOutcome.{CallOutcome}
use Rattle.remote_target.specs.Once.{Entry, Stands, is_collected, settled}
use Rattle.remote_target.proofs.Lists.{contains_none, contains_cases, contains_map, of_map}
use Rattle.remote_target.proofs.Executions.{is_same, same_bytes}

abbrev pub entry : List ℕ → List ℕ → Option CallOutcome → Entry
entry tid text outcome = record { tid = tid; text = text; outcome = outcome }

-- an identifier has one text
abbrev pub HasOneText : List Entry → Type 0
HasOneText outbox = (tid text other : List ℕ) → Stands outbox tid text → Stands outbox tid other → text ≡ other

-- ---- a call more

any_in : (b c : Bool) → c ≡ true → (b || c) ≡ true
any_in true c h = refl
any_in false c h = h

pub collected_there : (outbox : List Entry) (e : Entry) (tid : List ℕ) → Contains outbox e → e.tid ≡ tid → is_collected tid outbox ≡ true
collected_there [] e tid h same = absurd (contains_none e h)
collected_there (y ∷ ys) e tid h same =
    ⊎_elim (λ is. ap (λ b. b || is_collected tid ys) (is_same y.tid tid (ap (λ (z : Entry). z.tid) is ∙ same)))
    (λ at. any_in (bytes_eq y.tid tid) (is_collected tid ys) (collected_there ys e tid at same)) (contains_cases y ys e h)

pub stands_more : (outbox : List Entry) (e : Entry) (tid text : List ℕ) → Stands outbox tid text → Stands (outbox ++ e ∷ []) tid text
stands_more outbox e tid text h = (h.0, Contains-append_left outbox (e ∷ []) _ h.1)

pub stands_cases : (outbox : List Entry) (e : Entry) (tid text : List ℕ) → Stands (outbox ++ e ∷ []) tid text → Stands outbox tid text
    ⊎ ((e.tid ≡ tid) × (e.text ≡ text))
stands_cases outbox e tid text h =
    ⊎_elim (λ old. inl (h.0, old)) (λ is. inr (ap (λ (z : Entry). z.tid) is, ap (λ (z : Entry). z.text) is))
    (Contains-push_cases outbox e (entry tid text h.0) h.1)

apart : (outbox : List Entry) (tid other text : List ℕ) → is_collected tid outbox ≡ false → Stands outbox other text → tid ≡ other → ⊥
apart outbox tid other text fresh h same = true≢false (sym (collected_there outbox (entry other text h.0) tid h.1 (sym same)) ∙ fresh)

pub one_text_more : (outbox : List Entry) (e : Entry) → is_collected e.tid outbox ≡ false → HasOneText outbox → HasOneText (outbox ++ e ∷ [])
one_text_more outbox e fresh one tid text other a b =
    ⊎_elim (λ old. ⊎_elim (λ older. one tid text other old older) (λ is. absurd (apart outbox e.tid tid text fresh old is.0))
    (stands_cases outbox e tid other b))
    (λ is. ⊎_elim (λ older. absurd (apart outbox e.tid tid other fresh older is.0)) (λ too. sym is.1 ∙ too.1) (stands_cases outbox e tid other b))
    (stands_cases outbox e tid text a)

-- ---- an answer

stands_if : (b : Bool) (outbox : List Entry) (tid text : List ℕ) (a : CallOutcome) (o : Option CallOutcome)
    → Contains outbox (cond b (entry tid text (Some a)) (entry tid text o)) → Stands outbox tid text
stands_if true outbox tid text a o h = (Some a, h)
stands_if false outbox tid text a o h = (o, h)

pub stands_settled : (outbox : List Entry) (g : CallAnswer) (tid text : List ℕ) → Stands outbox tid text → Stands (map (settled g) outbox) tid text
stands_settled outbox g tid text h =
    stands_if (bytes_eq tid g.tid && is_none h.0) (map (settled g) outbox) tid text g.outcome h.0 (contains_map (settled g) outbox (entry tid text h.0) h.1)

call_if : (b : Bool) (e z : Entry) (a : CallOutcome) → cond b (entry e.tid e.text (Some a)) e ≡ z → (e.tid ≡ z.tid) × (e.text ≡ z.text)
call_if true e z a h = (ap (λ (x : Entry). x.tid) h, ap (λ (x : Entry). x.text) h)
call_if false e z a h = (ap (λ (x : Entry). x.tid) h, ap (λ (x : Entry). x.text) h)

pub stood_before : (outbox : List Entry) (g : CallAnswer) (tid text : List ℕ) → Stands (map (settled g) outbox) tid text → Stands outbox tid text
stood_before outbox g tid text h =
    let r = of_map (settled g) outbox (entry tid text h.0) h.1 in
    let e = r.0 in
    let same = call_if (bytes_eq e.tid g.tid && is_none e.outcome) e (entry tid text h.0) g.outcome r.2 in
    let whole : e ≡ entry tid text e.outcome = λ k. record { tid = same.0 k; text = same.1 k; outcome = e.outcome } in
    (e.outcome, subst (λ z. Contains outbox z) whole r.1)

pub one_text_settled : (outbox : List Entry) (g : CallAnswer) → HasOneText outbox → HasOneText (map (settled g) outbox)
one_text_settled outbox g one tid text other a b = one tid text other (stood_before outbox g tid text a) (stood_before outbox g tid other b)

first_of : (a b : Bool) → (a && b) ≡ true → a ≡ true
first_of true b h = refl
first_of false b h = cc

outcome_if : (b : Bool) (outbox : List Entry) (g : CallAnswer) (e : Entry) (tid text : List ℕ) (o : CallOutcome) → (b ≡ true → e.tid ≡ g.tid)
    → Contains outbox e
    → cond b (entry e.tid e.text (Some g.outcome)) e ≡ entry tid text (Some o) → Contains outbox (entry tid text (Some o)) ⊎ ((g.tid ≡ tid) × (g.outcome ≡ o))
outcome_if true outbox g e tid text o same h is =
    let first = ap (λ (z : Entry). z.tid) is in
    let last = ap (λ (z : Entry). z.outcome) is in
    inr (sym (same refl) ∙ first, cc)
outcome_if false outbox g e tid text o same h is = inl (subst (λ z. Contains outbox z) is h)

-- an outcome in the outbox was there, or is the answer's
pub outcome_cases : (outbox : List Entry) (g : CallAnswer) (tid text : List ℕ) (o : CallOutcome) → Contains (map (settled g) outbox) (entry tid text (Some o))
    → Contains outbox (entry tid text (Some o)) ⊎ ((g.tid ≡ tid) × (g.outcome ≡ o))
outcome_cases outbox g tid text o h =
    let r = of_map (settled g) outbox (entry tid text (Some o)) h in
    let e = r.0 in
    outcome_if (bytes_eq e.tid g.tid && is_none e.outcome) outbox g e tid text o
    (λ both. same_bytes e.tid g.tid (first_of (bytes_eq e.tid g.tid) (is_none e.outcome) both)) r.1 r.2
