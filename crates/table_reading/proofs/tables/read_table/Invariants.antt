use Rattle.std.proofs.Common.{◌≡◌, [], IfSome}
use Rattle.std.specs.Option.{is_some}
use Rattle.keeper_api.specs.Keeping.{IsWithin, Stays}
use Rattle.keeper_api.specs.Rows.{RiseFrom}
use Rattle.table_reading.specs.Tables.{rows_in}
use Rattle.table_reading.proofs.lemmas.Pages.{IsFront}
use Rattle.table_reading.proofs.tables.read_table.Given as goal

abbrev pub invariant-loop : goal.invariant-loop
invariant-loop g l = record {
  stays : Stays g.K.Keeper.held g.K.Keeper.is_open g.K.Keeper.has_room l.fn.keeper l.keeper;
  told : is_some (g.K.Keeper.held l.keeper) ≡ is_some (g.K.Keeper.held l.fn.keeper);
  crash : IsWithin (g.K.Keeper.may_leave l.keeper) (g.K.Keeper.may_leave l.fn.keeper);
  count : g.K.Keeper.faults l.keeper ≡ g.K.Keeper.faults l.fn.keeper;
  rise : RiseFrom [] l.all.items;
  front : IfSome (g.K.Keeper.held l.fn.keeper) (λ rows. IsFront l.all.items (rows_in rows l.table));
}
