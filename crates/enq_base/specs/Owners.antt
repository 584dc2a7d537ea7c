-- When two owners are one.
use Rattle.std.specs.Prelude.{Bool, false, ◌&&◌, nat_eq}
use Rattle.enq_base.specs.declared.owner.UnitKey.{UnitKey}
use Rattle.enq_base.specs.declared.owner.Owner.{Owner}
use Rattle.enq_base.specs.declared.owner.Owner.TheVariants.{Dlg, Upd}

abbrev pub same_unit : UnitKey → UnitKey → Bool
same_unit u v = (nat_eq u.start v.start && nat_eq u.session v.session) && nat_eq u.luw v.luw

abbrev pub same_owner : Owner → Owner → Bool
same_owner (Dlg start session) (Dlg start' session') = nat_eq start start' && nat_eq session session'
same_owner (Upd u) (Upd v) = same_unit u v
same_owner (Dlg start session) (Upd v) = false
same_owner (Upd u) (Dlg start session) = false
