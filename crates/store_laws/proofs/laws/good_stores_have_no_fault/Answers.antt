use Rattle.std.proofs.Common.{inl, inr}
use Rattle.store_reading.specs.Stores.{store_fault}
use Rattle.store_laws.proofs.Faultfree.{good_rules_kept, not_both}
use Rattle.store_laws.proofs.LedgerRows.{good_rows_spelled}
use Rattle.store_laws.proofs.laws.good_stores_have_no_fault.Goals as goal

pub returns-clause-grammar : goal.returns-clause-grammar
returns-clause-grammar c = good_rows_spelled

pub returns-clause-rules : goal.returns-clause-rules
returns-clause-rules c = λ rows records good all. good_rules_kept rows records good all

pub returns-clause-bad : goal.returns-clause-bad
returns-clause-bad c = λ rows table row bad good. elim bad as (λ _. ⊥) [
  | inl outside ↦ good_rows_spelled rows good table row outside
  | inr first ↦ not_both (store_fault first.0) (record { table = table; row = row }) (good_rules_kept rows first.0 good first.1) first.2
]
