use Rattle.std.proofs.Common.{◌≡◌, ap, subst, sym, arith}
use Rattle.gate_log.specs.Grammars.{IsBytes}
use Rattle.backup_file.specs.Lists.{AreUnits, lists_behind}
use Rattle.backup_file.specs.ReadLogs.{IfBad, IsReadAll, NoneWithin}
use Rattle.backup_file.proofs.ReadLogs.{less_rest, read_further, read_none, read_stopped}
use Rattle.backup_file.proofs.log_records.read_on.Goals as goal

pub loop-behind-init : goal.loop-behind-init
loop-behind-init c = record {
  read = read_none c.args.most c.args.bytes.now c.args.so_far.now.records.items c.requires.none;
  units = subst (AreUnits c.args.so_far.now.units.keys) (sym (ap lists_behind c.requires.none)) c.requires.units;
}

pub loop-behind-preserved : goal.loop-behind-preserved
loop-behind-preserved c =
    let bytes = c.args.bytes.now in
    let fits : IsBytes bytes = λ i. omega (arith, c.type_inv.bytes i) in
    record {
      read = read_further c.args.most bytes c.loop-behind.rest.now c.in-Some.behind.now c.in-Ok.after.now c.loop-behind.so_far.records.items
          c.read_next.new.so_far.records.items c.loop-behind.invariant.read c.in-Some.ensures.open_gate fits c.in-Ok.ensures.read;
      units = c.in-Ok.ensures.units;
    }

pub loop-behind-smaller : goal.loop-behind-smaller
loop-behind-smaller c =
    let bytes = c.args.bytes.now in
    let fits : IsBytes bytes = λ i. omega (arith, c.type_inv.bytes i) in
    less_rest c.args.most bytes c.loop-behind.rest.now c.in-Some.behind.now c.in-Ok.after.now c.loop-behind.so_far.records.items
    c.read_next.new.so_far.records.items c.loop-behind.invariant.read c.in-Some.ensures.open_gate fits c.in-Ok.ensures.read

pub returns-in-Err-Bad-clause-read : goal.returns-in-Err-Bad-clause-read
returns-in-Err-Bad-clause-read c =
    let old = c.loop-behind.so_far.records.items in
    let none = subst (IfBad (NoneWithin c.args.most c.in-Some.behind.now old)) c.in-Err-Bad.field-0-is c.in-Err-Bad.ensures.bad in
    let kept = subst (IfBad (c.read_next.new.so_far.records.items ≡ old)) c.in-Err-Bad.field-0-is c.in-Err-Bad.ensures.kept in
    subst (IsReadAll c.args.most c.args.bytes.now c.loop-behind.rest.now) (sym kept)
    (read_stopped c.args.most c.args.bytes.now c.loop-behind.rest.now c.in-Some.behind.now old c.loop-behind.invariant.read c.in-Some.ensures.open_gate none)

pub returns-in-Err-Bad-clause-units : goal.returns-in-Err-Bad-clause-units
returns-in-Err-Bad-clause-units c =
    subst (IfBad (AreUnits c.read_next.new.so_far.units.keys (lists_behind c.read_next.new.so_far.records.items))) c.in-Err-Bad.field-0-is
    c.in-Err-Bad.ensures.kept_units

pub returns-clause-read : goal.returns-clause-read
returns-clause-read c = record {
  so_far = c.loop-behind.invariant.read;
  ends = λ behind open_gate step rest is legal. c.in_default.ensures.closed behind open_gate;
}
