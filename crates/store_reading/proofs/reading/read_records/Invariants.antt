use Rattle.std.proofs.Common.{◌≡◌, IfSome, length}
use Rattle.std.specs.Option.{is_some}
use Rattle.keeper_api.specs.Keeping.{IsWithin, Stays}
use Rattle.store_reading.specs.Told.{AreReadBelow, SpellBelow}
use Rattle.store_reading.proofs.reading.read_records.Given as goal

abbrev pub invariant-loop-table : goal.invariant-loop-table
invariant-loop-table g l = record {
  stays : Stays g.K.Keeper.held g.K.Keeper.is_open g.K.Keeper.has_room l.fn.keeper l.keeper;
  told : is_some (g.K.Keeper.held l.keeper) ≡ is_some (g.K.Keeper.held l.fn.keeper);
  crash : IsWithin (g.K.Keeper.may_leave l.keeper) (g.K.Keeper.may_leave l.fn.keeper);
  count : g.K.Keeper.faults l.keeper ≡ g.K.Keeper.faults l.fn.keeper;
  tables : length l.tables.items ≡ l.table;
  read : AreReadBelow l.table l.tables.items;
  spelled : IfSome (g.K.Keeper.held l.fn.keeper) (λ rows. SpellBelow l.table rows l.tables.items);
}
