-- The entries of some units in a table that stood.
use Rattle.std.specs.Prelude.{◌≡◌, List, IsTrue, map}
use Rattle.std.specs.List.{All, filter}
use Rattle.enq_base.specs.declared.owner.Owner.{Owner}
use Rattle.enq_base.specs.declared.owner.Owner.TheVariants.{Upd}
use Rattle.lock_entry.specs.Names.{is_of}
use Rattle.lock_entry.specs.Sound.{IsSound}
use Rattle.lock_entry.specs.declared.entry.Entry.{Entry}
use Rattle.lock_entry.specs.declared.entry.UnitLocks.{UnitLocks}
use Rattle.lock_laws.specs.Orders.{are_distinct}

abbrev pub owner_of : UnitLocks → Owner
owner_of u = Upd u.unit

-- these are what a sound table had of these units, in whichever order the units come, each of them once
pub record AreHeld (table : List Entry) (units : List UnitLocks) : Type 0 where
  pub sound : IsSound table
  pub distinct : IsTrue (are_distinct (map owner_of units))
  pub entries : All (λ (u : UnitLocks). u.entries ≡ filter (is_of (owner_of u)) table) units
