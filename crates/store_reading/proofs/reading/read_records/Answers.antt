use Rattle.std.proofs.Common.{◌≡◌, ℕ, ◌+◌, ◌++◌, ◌∷◌, [], length, length-append, ap, ◌∙◌}
use Rattle.store_reading.proofs.Causes.{cause_on, stays_on, unless_failed}
use Rattle.store_reading.proofs.Stores.{all_read, all_tables, bad_row, read_more, tables_more}
use Rattle.store_reading.proofs.reading.read_records.Goals as goal

pub loop-table-preserved : goal.loop-table-preserved
loop-table-preserved g c =
    let pushed : c.push.new.self.items ≡ c.loop-table.tables.items ++ c.in-Ok.records.items ∷ [] =
    c.in_ok-push-in-Ok.ensures.items ∙ ap (λ x. c.loop-table.tables.items ++ x ∷ []) c.from_vec.ensures in
    let long : length (c.loop-table.tables.items ++ c.in-Ok.records.items ∷ []) ≡ length c.loop-table.tables.items + 1 =
    length-append c.loop-table.tables.items (c.in-Ok.records.items ∷ []) in
    record {
      stays = stays_on _ _ _ _ _ _ c.loop-table.invariant.stays c.in-Ok.ensures.stays;
      told = c.records_of.ensures.told ∙ c.loop-table.invariant.told;
      crash = λ left h. c.loop-table.invariant.crash left (c.records_of.ensures.crash left h);
      count = c.in-Ok.ensures.cause.quiet ∙ c.loop-table.invariant.count;
      tables = ap length pushed ∙ long ∙ ap (λ n. n + 1) c.loop-table.invariant.tables;
      read = read_more c.loop-table.table c.loop-table.tables.items c.push.new.self.items c.in-Ok.records.items c.loop-table.invariant.tables pushed
          c.loop-table.invariant.read c.in-Ok.ensures.read;
      spelled = tables_more (g.K.Keeper.held c.args.keeper.now) (g.K.Keeper.held c.loop-table.keeper) c.loop-table.table c.loop-table.tables.items
          c.push.new.self.items c.in-Ok.records.items
          c.loop-table.invariant.stays.rows c.loop-table.invariant.tables pushed c.loop-table.invariant.spelled c.in-Ok.ensures.records;
    }

pub returns-in-Err-clause-fault : goal.returns-in-Err-clause-fault
returns-in-Err-clause-fault g c =
    bad_row (g.K.Keeper.held c.args.keeper.now) (g.K.Keeper.held c.loop-table.keeper) c.loop-table.table c.loop-table.tables.items c.in-Err.fault
    c.loop-table.invariant.stays.rows c.loop-table-test.true c.loop-table.invariant.spelled c.in-Err.ensures.bad

pub returns-in-Err-clause-stays : goal.returns-in-Err-clause-stays
returns-in-Err-clause-stays g c = unless_failed ℕ ℕ _ _ c.in-Err.fault (stays_on _ _ _ _ _ _ c.loop-table.invariant.stays) c.in-Err.ensures.stays

pub returns-in-Err-clause-cause : goal.returns-in-Err-clause-cause
returns-in-Err-clause-cause g c = cause_on _ _ _ c.in-Err.fault c.loop-table.invariant.count c.in-Err.ensures.cause

pub returns-clause-records : goal.returns-clause-records
returns-clause-records g c = all_tables (g.K.Keeper.held c.args.keeper.now) c.loop-table.table c.loop-table.tables.items c.loop-table-test.false
    c.loop-table.invariant.spelled

pub returns-clause-read : goal.returns-clause-read
returns-clause-read g c = all_read c.loop-table.table c.loop-table.tables.items c.loop-table-test.false c.loop-table.invariant.read
