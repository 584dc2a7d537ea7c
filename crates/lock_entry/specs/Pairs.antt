-- The two owners of a session, and which owners are related.
use Rattle.std.specs.Prelude.{Bool, false, ◌&&◌, ◌||◌, nat_eq, IsTrue}
use Rattle.enq_base.specs.Owners.{same_owner}
use Rattle.enq_base.specs.declared.owner.Owner.{Owner}
use Rattle.enq_base.specs.declared.owner.Owner.TheVariants.{Dlg, Upd}
use Rattle.lock_entry.specs.declared.entry.Asker.{Asker}

-- the dialogue owner of a session, and the update owner of one of its units
abbrev pub of_one_session : (dialogue update : Owner) → Bool
of_one_session (Dlg start session) (Upd unit) = nat_eq start unit.start && nat_eq session unit.session
of_one_session (Dlg start session) (Dlg start' session') = false
of_one_session (Upd unit) owner = false

-- the asker is such a pair
abbrev pub IsPair : Asker → Type 0
IsPair asker = IsTrue (of_one_session asker.dialogue asker.update)

-- whether the owner is one of the asker's two
abbrev pub in_pair : Asker → Owner → Bool
in_pair asker owner = same_owner owner asker.dialogue || same_owner owner asker.update

-- the owners are equal, or one is the dialogue owner of a session and the other the update owner of one of its units
abbrev pub are_related : Owner → Owner → Bool
are_related a b = same_owner a b || (of_one_session a b || of_one_session b a)

abbrev pub IsRelated : Owner → Owner → Type 0
IsRelated a b = IsTrue (are_related a b)
