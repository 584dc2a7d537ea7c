use Rattle.std.proofs.Common.{◌≡◌, ℕ}
use Rattle.store_reading.specs.Told.{IsFirstBad}
use Rattle.table_reading.specs.Tables.{rows_in}
use Rattle.store_reading.proofs.Causes.{decoded_bad, decoded_cause, decoded_read, decoded_records, decoded_stays, decoded_untold, fault_cause, fault_not_bad, fault_not_bad_in, fault_stays}
use Rattle.store_reading.proofs.reading.records_of.Goals as goal

pub returns-in-Err-clause-bad : goal.returns-in-Err-clause-bad
returns-in-Err-clause-bad g c = fault_not_bad_in _ (λ rows t row. (t ≡ c.args.table) × IsFirstBad c.args.table (rows_in rows c.args.table) row) c.in-Err.fault
    c.fault_of.result c.fault_of.ensures

pub returns-in-Err-clause-untold_bad : goal.returns-in-Err-clause-untold_bad
returns-in-Err-clause-untold_bad g c = fault_not_bad _ c.in-Err.fault c.fault_of.result c.fault_of.ensures

pub returns-in-Err-clause-stays : goal.returns-in-Err-clause-stays
returns-in-Err-clause-stays g c = fault_stays ℕ ℕ _ c.in-Err.fault c.fault_of.result c.fault_of.ensures c.in-Err.ensures.stays

pub returns-in-Err-clause-cause : goal.returns-in-Err-clause-cause
returns-in-Err-clause-cause g c = fault_cause _ _ c.in-Err.fault c.fault_of.result c.fault_of.ensures c.in-Err.ensures.cause

pub returns-clause-records : goal.returns-clause-records
returns-clause-records g c = decoded_records _ c.args.table _ c.as_slice.result.now c.decode_rows.result c.as_slice.ensures.value c.in-Ok.ensures.rows
    c.decode_rows.ensures.records

pub returns-clause-read : goal.returns-clause-read
returns-clause-read g c = decoded_read c.args.table _ c.as_slice.result.now c.decode_rows.result c.as_slice.ensures.value c.in-Ok.ensures.rise
    c.decode_rows.ensures.records

pub returns-clause-bad : goal.returns-clause-bad
returns-clause-bad g c = decoded_bad _ c.args.table _ c.as_slice.result.now c.decode_rows.result c.as_slice.ensures.value c.in-Ok.ensures.rows
    c.decode_rows.ensures.bad

pub returns-clause-untold_bad : goal.returns-clause-untold_bad
returns-clause-untold_bad g c = decoded_untold c.args.table c.as_slice.result.now c.decode_rows.result c.requires.own c.decode_rows.ensures.bad

pub returns-clause-stays : goal.returns-clause-stays
returns-clause-stays g c = decoded_stays _ c.decode_rows.result c.in-Ok.ensures.stays

pub returns-clause-cause : goal.returns-clause-cause
returns-clause-cause g c = decoded_cause _ _ c.decode_rows.result c.in-Ok.ensures.cause.quiet c.decode_rows.ensures.quiet
