-- What the keys tell of a unit is what its rows tell.
use Rattle.std.proofs.Common.{◌≡◌, ℕ, Bool, true, false, not, ◌&&◌, ◌||◌, nat_eq, List, ap, ◌∙◌}
use Rattle.std.specs.HashMap.{HashMap}
use Rattle.std.specs.HashSet.{HashSet, contains}
use Rattle.std.specs.List.{list_all, range_with_len}
use Rattle.enq_base.specs.declared.owner.UnitKey.{UnitKey}
use Rattle.update_records.specs.declared.stored.Record.{Record}
use Rattle.enq_base.specs.Ids.{id_of, same_id}
use Rattle.store_reading.specs.Standings.{lists_part, lists_parts, lists_rows, looks_whole, AreRows, IsIndex}
use Rattle.store_reading.specs.Units.{counts_at, has_distinct_locks, has_few, has_part, has_parts, has_row, has_rows, is_whole}
use Rattle.store_reading.specs.declared.counts.Counts.{Counts}
use Rattle.store_reading.specs.declared.row_id.RowId.{RowId}
use Rattle.enq_base.specs.declared.unit_id.UnitId.{UnitId}

rows_same : {S : Type 0} (rows : HashSet RowId S) (records : List Record) → AreRows rows records → (key : UnitKey) (part n : ℕ)
    → lists_rows rows key part n ≡ has_rows records key part n
rows_same rows records known key part n = ap (λ test. list_all test (range_with_len 1 n)) (λ i m. known key part m i)

part_same : {S : Type 0} (modules steps : HashSet RowId S) (module_rows step_rows : List Record) → AreRows modules module_rows → AreRows steps step_rows
    → (key : UnitKey) (part n : ℕ) → lists_part modules steps key part n ≡ has_part module_rows step_rows key part n
part_same modules steps module_rows step_rows in_modules in_steps key part n =
    ap (λ b. nat_eq n 0 || (b && lists_rows steps key part n)) (in_modules key part n)
    ∙ ap (λ b. nat_eq n 0 || (has_row module_rows key part n && b)) (rows_same steps step_rows in_steps key part n)

not_twice : (b c : Bool) → b ≡ not c → not b ≡ c
not_twice b true is = ap not is
not_twice b false is = ap not is

pub whole_same : {S T U : Type 0} (counts : HashMap UnitId Counts S) (modules steps locks : HashSet RowId T) (twins : HashSet UnitId U)
    (headers module_rows step_rows lock_rows : List Record)
    → IsIndex counts modules steps locks twins headers module_rows step_rows lock_rows → (key : UnitKey)
    → looks_whole counts modules steps locks twins key ≡ is_whole headers module_rows step_rows lock_rows key
whole_same counts modules steps locks twins headers module_rows step_rows lock_rows index key =
    let c = counts_at headers key in
    let doubled = not (contains same_id twins (id_of key)) in
    ap (λ (x : Counts). has_few x && (lists_parts modules steps key x && (lists_rows locks key 0 x.locks && doubled))) (index.counted key)
    ∙ ap (λ b. has_few c && ((b && lists_part modules steps key 2 c.v2) && (lists_rows locks key 0 c.locks && doubled)))
    (part_same modules steps module_rows step_rows index.in_modules index.in_steps key 1 c.v1)
    ∙ ap (λ b. has_few c && ((has_part module_rows step_rows key 1 c.v1 && b) && (lists_rows locks key 0 c.locks && doubled)))
    (part_same modules steps module_rows step_rows index.in_modules index.in_steps key 2 c.v2)
    ∙ ap (λ b. has_few c && (has_parts module_rows step_rows key c && (b && doubled))) (rows_same locks lock_rows index.in_locks key 0 c.locks)
    ∙ ap (λ b. has_few c && (has_parts module_rows step_rows key c && (has_rows lock_rows key 0 c.locks && b)))
    (not_twice (contains same_id twins (id_of key)) (has_distinct_locks headers lock_rows key) (index.doubled key))
