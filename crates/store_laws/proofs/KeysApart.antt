-- No two units of a lawful ledger have one key.
use Rattle.std.proofs.Common.{◌≡◌, ⊎_elim, Bool, true, false, not, cond, ◌&&◌, List, [], ◌∷◌, ◌++◌, map, Option, Some, None, Contains, refl, sym, ap, subst, ◌∙◌}
use Rattle.enq_base.specs.Owners.{same_unit}
use Rattle.enq_base.specs.declared.owner.UnitKey.{UnitKey}
use Rattle.enq_base.specs.declared.unit.Status.{Status}
use Rattle.update_records.specs.declared.records.Mark.{Mark}
use Rattle.update_records.specs.declared.records.MarkKind.{MarkKind}
use Rattle.update_records.specs.declared.records.MarkKind.TheVariants.{Num, Rec, V1, Bad1, Again1, V2, Bad2, Again2, Gone}
use Rattle.update_records.specs.declared.records.Unit.{Unit as UnitOfWork}
use Rattle.update_records.specs.Ledger.{recorded}
use Rattle.update_records.specs.Marks.{draws_alone, has_no_v2, is_rec, may_follow, status_of, unit_at, IsLegalAfter}
use Rattle.record_laws.proofs.Status.{NoneOf, none_of, not_rec, one_unit, unit_refl}
use Rattle.store_reading.proofs.lemmas.BooksStand.{first_recorded, keys_after}
use Rattle.store_reading.proofs.lemmas.Elements.{contains_cases, contains_here, contains_map, contains_none, contains_there}

-- ---- keys of the recorded units

-- each key is another than all later ones
abbrev pub KeysApart : List UnitKey → Type 0
KeysApart [] = Unit {0}
KeysApart (key ∷ keys) = (Contains keys key → ⊥) × KeysApart keys

rec_is : (kind : MarkKind) → is_rec kind ≡ true → kind ≡ Rec
rec_is Rec h = refl
rec_is (Num numbers) h = cc
rec_is V1 h = cc
rec_is (Bad1 index reason) h = cc
rec_is Again1 h = cc
rec_is V2 h = cc
rec_is (Bad2 index reason) h = cc
rec_is Again2 h = cc
rec_is Gone h = cc

fresh : (s : Option Status) (kind : MarkKind) → may_follow s kind ≡ true → is_rec kind ≡ true → s ≡ None
fresh None kind h is = refl
fresh (Some s) kind h is = let odd : true ≡ false = sym is ∙ not_rec s kind h in cc

front_none : (key : UnitKey) (xs : List Mark) (m : Mark) → NoneOf key (xs ++ m ∷ []) → NoneOf key xs
front_none key [] m h = tt
front_none key (x ∷ xs) m h = (h.0, front_none key xs m h.1)

last_none : (key : UnitKey) (xs : List Mark) (m : Mark) → NoneOf key (xs ++ m ∷ []) → (same_unit m.unit key && not (draws_alone m.kind)) ≡ false
last_none key [] m h = h.0
last_none key (x ∷ xs) m h = last_none key xs m h.1

after_cases : (b : Bool) (unit key : UnitKey) (keys : List UnitKey) (R : Type 0) → Contains (keys_after b unit keys) key → (b ≡ true → unit ≡ key → R)
    → (Contains keys key → R) → R
after_cases true unit key keys R h here there = ⊎_elim (λ e. here refl e) there (contains_cases unit keys key h)
after_cases false unit key keys R h here there = there h

-- no mark before gave a status to a unit whose recording comes
none_before : (units : List UnitOfWork) (before marks : List Mark) (key : UnitKey) → IsLegalAfter units before marks → Contains (recorded marks) key
    → NoneOf key before
none_before units before [] key h at = absurd (contains_none key at)
none_before units before (m ∷ marks) key h at =
    after_cases (is_rec m.kind) m.unit key (recorded marks) (NoneOf key before) (subst (λ keys. Contains keys key) (first_recorded m marks) at)
    (λ is same. subst (λ k. NoneOf k before) same (none_of (has_no_v2 units m.unit) m.unit before (fresh (status_of units before m.unit) m.kind h.0 is)))
    (λ there. front_none key before m (none_before units (before ++ m ∷ []) marks key h.1 there))

apart_first : (b : Bool) (key : UnitKey) (keys : List UnitKey) → (b ≡ true → Contains keys key → ⊥) → KeysApart keys → KeysApart (keys_after b key keys)
apart_first true key keys h rest = (h refl, rest)
apart_first false key keys h rest = rest

recorded_once : (before : List Mark) (m : Mark) → is_rec m.kind ≡ true → NoneOf m.unit (before ++ m ∷ []) → ⊥
recorded_once before m is none =
    let last : (same_unit m.unit m.unit && not (draws_alone m.kind)) ≡ false = last_none m.unit before m none in
    let odd : true ≡ false = sym (ap (λ b. b && true) (unit_refl m.unit))
    ∙ ap (λ (k : MarkKind). same_unit m.unit m.unit && not (draws_alone k)) (sym (rec_is m.kind is)) ∙ last in cc

-- each unit is recorded once
pub recorded_apart : (units : List UnitOfWork) (before marks : List Mark) → IsLegalAfter units before marks → KeysApart (recorded marks)
recorded_apart units before [] h = tt
recorded_apart units before (m ∷ marks) h =
    subst KeysApart (sym (first_recorded m marks))
    (apart_first (is_rec m.kind) m.unit (recorded marks) (λ is at. recorded_once before m is (none_before units (before ++ m ∷ []) marks m.unit h.1 at))
    (recorded_apart units (before ++ m ∷ []) marks h.1))

-- ---- units with such keys

abbrev pub keys_of : List UnitOfWork → List UnitKey
keys_of units = map (λ (unit : UnitOfWork). unit.key) units

same_key : (a b : UnitKey) → a ≡ b → same_unit a b ≡ true
same_key a b e = subst (λ c. same_unit a c ≡ true) e (unit_refl a)

-- a unit is found by its key
pub unit_found : (units : List UnitOfWork) (unit : UnitOfWork) → KeysApart (keys_of units) → Contains units unit → unit_at units unit.key ≡ Some unit
unit_found [] unit apart h = absurd (contains_none unit h)
unit_found (u ∷ units) unit apart h = ⊎_elim
    (λ e. ap (λ b. cond b (Some u) (unit_at units unit.key)) (same_key u.key unit.key (ap (λ (x : UnitOfWork). x.key) e)) ∙ ap (λ (x : UnitOfWork). Some x) e)
    (λ there.
    elim (same_unit u.key unit.key) as (λ b. same_unit u.key unit.key ≡ b → cond b (Some u) (unit_at units unit.key) ≡ Some unit) [
      | true ↦ λ is. absurd
          (apart.0 (subst (λ k. Contains (keys_of units) k) (sym (one_unit u.key unit.key is)) (contains_map (λ (x : UnitOfWork). x.key) units unit there)))
      | false ↦ λ is. unit_found units unit apart.1 there
    ] refl)
    (contains_cases u units unit h)

pub one_unit_of : (units : List UnitOfWork) (u v : UnitOfWork) → KeysApart (keys_of units) → Contains units u → Contains units v → u.key ≡ v.key → u ≡ v
one_unit_of units u v apart in_u in_v same =
    let both : Some u ≡ Some v = sym (unit_found units u apart in_u) ∙ ap (unit_at units) same ∙ unit_found units v apart in_v in cc

-- what is found is one of the units, and has the key
pub found_unit : (units : List UnitOfWork) (key : UnitKey) (unit : UnitOfWork) → unit_at units key ≡ Some unit → Contains units unit × (unit.key ≡ key)
found_unit [] key unit h = cc
found_unit (u ∷ units) key unit h =
    elim (same_unit u.key key)
    as (λ b. same_unit u.key key ≡ b → cond b (Some u) (unit_at units key) ≡ Some unit → Contains (u ∷ units) unit × (unit.key ≡ key)) [
      | true ↦ λ is at. let e : u ≡ unit = cc in
          (subst (λ x. Contains (u ∷ units) x) e (contains_here u units), ap (λ (x : UnitOfWork). x.key) (sym e) ∙ one_unit u.key key is)
      | false ↦ λ is at. let r = found_unit units key unit at in (contains_there u units unit r.0, r.1)
    ] refl h
