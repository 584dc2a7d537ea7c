use Rattle.std.proofs.Common.{◌-◌, ◌<◌, length, take, drop, arith, ap, subst, sym, ◌∙◌, length-drop}
use Rattle.std.proofs.lemmas.Bool.{eqb-false, eqb-true}
use Rattle.std.proofs.lemmas.List.{take_all}
use Rattle.gate_log.specs.Grammars.{IsBytes}
use Rattle.gate_log.specs.Logs.{IsReadUpTo}
use Rattle.gate_log.proofs.lemmas.Scan.{starts, goes_on, shorter, no_record, illegal_record, closed_gate, place, breaks, no_gate}
use Rattle.keeper_api.specs.Batch.{changed}
use Rattle.byte_fields.specs.declared.fault.ReadFault.{ReadFault}
use Rattle.byte_fields.specs.Fields.{Fails}
use Rattle.keeper_wal.specs.Journal.{grammar, IsLegal}
use Rattle.keeper_wal.specs.Reading.{batch_at}
use Rattle.keeper_wal.proofs.Records.{batch_reader}
use Rattle.keeper_wal.proofs.journal.read_journal.Goals as goal

pub loop-behind-init : goal.loop-behind-init
loop-behind-init c =
    let bytes = c.args.bytes.now in
    subst (λ l. IsReadUpTo grammar bytes (take (length bytes - 8) (drop 8 bytes)) l) (sym (ap (λ v. v.rows) c.new-rows.ensures))
    (rw (take_all (length bytes - 8) (drop 8 bytes) (omega (arith, length-drop 8 bytes))) (starts grammar bytes (c.has_name.ensures.0 c.if-not-has_name.false)))

pub loop-behind-preserved : goal.loop-behind-preserved
loop-behind-preserved c =
    let bytes = c.args.bytes.now in
    let fits : IsBytes bytes = λ i. omega (arith, c.type_inv.bytes i) in
    let legal = subst IsLegal c.deref.ensures.value (c.in_ok-is_legal-in-Ok.ensures.0 c.if-not-branch.false) in
    subst (λ m. IsReadUpTo grammar bytes c.in-Ok.after.now m)
    (sym (c.in_ok-make_batch-in-Ok.ensures ∙ ap (λ b. changed b c.loop-behind.rows.rows) c.deref-in-Ok.ensures.value))
    (goes_on grammar batch_at batch_reader bytes c.loop-behind.rest.now c.loop-behind.rows.rows c.loop-behind.invariant c.in-Some.behind.now
    c.in-Some.ensures.open_gate fits c.in-Ok.batch.items c.in-Ok.after.now c.in-Ok.ensures legal)

pub loop-behind-smaller : goal.loop-behind-smaller
loop-behind-smaller c =
    let bytes = c.args.bytes.now in
    let fits : IsBytes bytes = λ i. omega (arith, c.type_inv.bytes i) in
    shorter grammar batch_at batch_reader bytes c.loop-behind.rest.now c.loop-behind.rows.rows c.loop-behind.invariant c.in-Some.behind.now
    c.in-Some.ensures.open_gate fits c.in-Ok.batch.items c.in-Ok.after.now c.in-Ok.ensures

pub returns-in-Err-Bad-clause-bad : goal.returns-in-Err-Bad-clause-bad
returns-in-Err-Bad-clause-bad c =
    let bytes = c.args.bytes.now in
    let none = subst (λ (f : ReadFault). Fails f (batch_at c.in-Some.behind.now)) c.in-Err-Bad.field-0-is c.in-Err-Bad.ensures in
    no_record grammar batch_at batch_reader bytes c.loop-behind.rest.now c.loop-behind.rows.rows c.loop-behind.invariant c.in-Some.behind.now
    c.in-Some.ensures.open_gate c.requires none

pub returns-then-not-branch-clause-bad : goal.returns-then-not-branch-clause-bad
returns-then-not-branch-clause-bad c =
    let bytes = c.args.bytes.now in
    illegal_record grammar batch_at batch_reader bytes c.loop-behind.rest.now c.loop-behind.rows.rows c.loop-behind.invariant c.in-Some.behind.now
    c.in-Some.ensures.open_gate c.requires c.in-Ok.batch.items c.in-Ok.after.now c.in-Ok.ensures
    (λ legal. let passes = c.in_ok-is_legal-in-Ok.ensures.1 (subst IsLegal (sym c.deref.ensures.value) legal) in let fails = c.if-not-branch.true in cc)

pub returns-then-is_empty-clause-bad : goal.returns-then-is_empty-clause-bad
returns-then-is_empty-clause-bad c =
    let rest = c.loop-behind.rest.now in
    let l = c.loop-behind.rows.rows in
    breaks grammar c.args.bytes.now rest l c.loop-behind.invariant c.requires
    (no_gate grammar l rest (eqb-true (length rest) 0 (sym c.is_empty.ensures ∙ c.if-is_empty.true)))

pub returns-clause-shut : goal.returns-clause-shut
returns-clause-shut c =
    let bytes = c.args.bytes.now in
    let rest = c.loop-behind.rest.now in
    let l = c.loop-behind.rows.rows in
    let upto = c.loop-behind.invariant in
    let not_empty = eqb-false (length rest) 0 (sym c.is_empty.ensures ∙ c.if-is_empty.false) in
    let some : 0 < length rest = omega arith in
    record {
      front = upto.front;
      is_front = upto.is_front;
      shut = closed_gate grammar bytes rest l upto some c.in_default.ensures.closed;
      place = place grammar bytes rest l upto;
    }
