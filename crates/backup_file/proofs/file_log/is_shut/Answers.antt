use Rattle.std.proofs.Common.{◌<◌, ◌∙◌, arith, inl, inr, length, sym}
use Rattle.std.proofs.lemmas.Bool.{eqb-false, eqb-true}
use Rattle.std.proofs.lemmas.List.{nil_from_length}
use Rattle.backup_file.proofs.ReadVersions.{shut_here}
use Rattle.backup_file.proofs.file_log.is_shut.Goals as goal

pub returns-then-is_empty : goal.returns-then-is_empty
returns-then-is_empty c = inl (nil_from_length c.args.rest.now (eqb-true (length c.args.rest.now) 0 (sym c.is_empty.ensures ∙ c.if-is_empty.true)))

pub returns-in-Some : goal.returns-in-Some
returns-in-Some c = inr (c.in-Some._behind.now, c.in-Some.ensures.open_gate)

pub returns-in-None : goal.returns-in-None
returns-in-None c =
    let not_empty = eqb-false (length c.args.rest.now) 0 (sym c.is_empty.ensures ∙ c.if-is_empty.false) in
    let some : 0 < length c.args.rest.now = omega arith in
    shut_here c.args.rest.now some c.in-None.ensures.closed
