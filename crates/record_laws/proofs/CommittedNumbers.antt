-- The numbers that are committed, with one mark or one unit more.
use Rattle.std.proofs.Common.{◌≡◌, ℕ, false, not, ◌&&◌, List, [], ◌∷◌, ◌++◌, None, refl, sym, ap, ◌∙◌, append_assoc}
use Rattle.std.specs.Option.{option_map_or}
use Rattle.std.proofs.lemmas.List.{append-nil}
use Rattle.enq_base.specs.Owners.{same_unit}
use Rattle.enq_base.specs.declared.owner.UnitKey.{UnitKey}
use Rattle.update_records.specs.Business.{numbers_in, numbers_of}
use Rattle.update_records.specs.Marks.{unit_at, draws_alone}
use Rattle.update_records.specs.declared.records.Mark.{Mark}
use Rattle.update_records.specs.declared.records.MarkKind.{MarkKind}
use Rattle.update_records.specs.declared.records.MarkKind.TheVariants.{Num, Rec, V1, Bad1, Again1, V2, Bad2, Again2, Gone}
use Rattle.update_records.specs.declared.records.Unit.{Unit as UnitOfWork}
use Rattle.record_laws.proofs.Books.{plain}
use Rattle.record_laws.proofs.Status.{NoneOf, unit_other, flip, unit_new}

other_numbers : (units : List UnitOfWork) (u : UnitOfWork) (seq : ℕ) (key : UnitKey) (kind : MarkKind) → (same_unit key u.key && not (draws_alone kind)) ≡ false
    → numbers_in (units ++ u ∷ []) (record { seq = seq; unit = key; kind = kind }) ≡ numbers_in units (record { seq = seq; unit = key; kind = kind })
other_numbers units u seq key Rec h = ap (λ o. option_map_or (λ (x : UnitOfWork). x.numbers) o [])
    (unit_other units u key (flip u.key key (plain (same_unit key u.key) h)))
other_numbers units u seq key V1 h = refl
other_numbers units u seq key V2 h = refl
other_numbers units u seq key (Num numbers) h = refl
other_numbers units u seq key (Bad1 i r) h = refl
other_numbers units u seq key (Bad2 i r) h = refl
other_numbers units u seq key Again1 h = refl
other_numbers units u seq key Again2 h = refl
other_numbers units u seq key Gone h = refl

pub numbers_grow : (units : List UnitOfWork) (u : UnitOfWork) (marks : List Mark) → NoneOf u.key marks
    → numbers_of (units ++ u ∷ []) marks ≡ numbers_of units marks
numbers_grow units u [] none = refl
numbers_grow units u (m ∷ marks) none = ap (λ n. n ++ numbers_of (units ++ u ∷ []) marks) (other_numbers units u m.seq m.unit m.kind none.0)
    ∙ ap (λ r. numbers_in units m ++ r) (numbers_grow units u marks none.1)

pub numbers_push : (units : List UnitOfWork) (marks : List Mark) (m : Mark) → numbers_of units (marks ++ m ∷ []) ≡ numbers_of units marks ++ numbers_in units m
numbers_push units [] m = append-nil (numbers_in units m)
numbers_push units (x ∷ marks) m = ap (λ r. numbers_in units x ++ r) (numbers_push units marks m)
    ∙ sym (append_assoc (numbers_in units x) (numbers_of units marks) (numbers_in units m))

-- a mark that draws nothing leaves the numbers
pub numbers_same : (units : List UnitOfWork) (marks : List Mark) (m : Mark) → numbers_in units m ≡ []
    → numbers_of units (marks ++ m ∷ []) ≡ numbers_of units marks
numbers_same units marks m h = numbers_push units marks m ∙ ap (λ n. numbers_of units marks ++ n) h ∙ append-nil (numbers_of units marks)

-- a unit's numbers come last when it is recorded
pub numbers_recorded : (units : List UnitOfWork) (unit : UnitOfWork) (marks : List Mark) (seq : ℕ) → NoneOf unit.key marks → unit_at units unit.key ≡ None
    → numbers_of (units ++ unit ∷ []) (marks ++ (record { seq = seq; unit = unit.key; kind = Rec }) ∷ []) ≡ numbers_of units marks ++ unit.numbers
numbers_recorded units unit marks seq none absent =
    numbers_push (units ++ unit ∷ []) marks (record { seq = seq; unit = unit.key; kind = Rec })
    ∙ ap (λ n. n ++ numbers_in (units ++ unit ∷ []) (record { seq = seq; unit = unit.key; kind = Rec })) (numbers_grow units unit marks none)
    ∙ ap (λ o. numbers_of units marks ++ option_map_or (λ (x : UnitOfWork). x.numbers) o []) (unit_new units unit absent)

pub draws_nothing : (units : List UnitOfWork) (seq : ℕ) (key : UnitKey) (kind : MarkKind) → draws_alone kind ≡ false → (kind ≡ Rec → ⊥)
    → numbers_in units (record { seq = seq; unit = key; kind = kind }) ≡ []
draws_nothing units seq key (Num numbers) h k = cc
draws_nothing units seq key Rec h k = absurd (k refl)
draws_nothing units seq key V1 h k = refl
draws_nothing units seq key (Bad1 i r) h k = refl
draws_nothing units seq key Again1 h k = refl
draws_nothing units seq key V2 h k = refl
draws_nothing units seq key (Bad2 i r) h k = refl
draws_nothing units seq key Again2 h k = refl
draws_nothing units seq key Gone h k = refl
