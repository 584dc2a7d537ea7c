-- How the shared words are printed.
use Rattle.std.specs.Prelude.{ℕ, List, ◌∷◌, ◌++◌, codes, decimal}
use Rattle.enq_base.specs.declared.owner.UnitKey.{UnitKey}
use Rattle.enq_base.specs.declared.owner.Owner.{Owner}
use Rattle.enq_base.specs.declared.owner.Owner.TheVariants.{Dlg, Upd}
use Rattle.enq_base.specs.declared.unit.Status.{Status}
use Rattle.enq_base.specs.declared.unit.Status.TheVariants as status
use Rattle.enq_base.specs.declared.unit.Reason.{Reason}
use Rattle.enq_base.specs.declared.unit.Reason.TheVariants.{Duplicate, Missing, NotNumber, Overflow}

-- a part, a space, and what follows
infixr 5 ◌␣◌
abbrev pub ◌␣◌ : List ℕ → List ℕ → List ℕ
part ␣ rest = part ++ 32 ∷ rest

abbrev pub unit_text : UnitKey → List ℕ
unit_text u = decimal u.start ++ 46 ∷ (decimal u.session ++ 46 ∷ decimal u.luw)

abbrev pub owner_text : Owner → List ℕ
owner_text (Dlg start session) = codes "D" ++ (decimal start ++ 46 ∷ decimal session)
owner_text (Upd u) = codes "U" ++ unit_text u

abbrev pub reason_text : Reason → List ℕ
reason_text Duplicate = codes "DUPLICATE"
reason_text Missing = codes "MISSING"
reason_text NotNumber = codes "NOT_NUMBER"
reason_text Overflow = codes "OVERFLOW"

abbrev pub status_text : Status → List ℕ
status_text status.Open = codes "OPEN"
status_text status.Posted = codes "POSTED"
status_text status.Bad = codes "BAD"
status_text status.Closed = codes "CLOSED"
status_text status.Bad2 = codes "BAD2"
status_text status.Cancelled = codes "CANCELLED"
