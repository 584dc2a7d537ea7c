use Rattle.std.proofs.Common.{None, subst, sym}
use Rattle.std.specs.List.{All}
use Rattle.backup_file.specs.Handing.{IsList}
use Rattle.backup_file.specs.ReadLogs.{IsReadAs, IsReadBehind}
use Rattle.backup_file.proofs.Migrated.{read_second}
use Rattle.backup_file.proofs.plan.plan_for.Goals as goal

pub plan_at-requires-clause-read : goal.plan_at-requires-clause-read
plan_at-requires-clause-read c =
    let f = c.args.found in
    subst (λ l. IsReadBehind c.in-Some.known c.args.bytes.now f.gate f.compact l) (sym c.as_slice.ensures.value)
    (subst (λ place. IsReadAs c.args.bytes.now place f.gate f.compact f.lists.items) c.in-Some.is c.requires.read)

pub plan_at-requires-clause-lists : goal.plan_at-requires-clause-lists
plan_at-requires-clause-lists c = subst (All IsList) (sym c.as_slice.ensures.value) c.requires.lists

pub returns-clause-none : goal.returns-clause-none
returns-clause-none c = λ l second.
    let f = c.args.found in
    let read = subst (λ place. IsReadAs c.args.bytes.now place f.gate f.compact f.lists.items) c.in-None.is c.requires.read in
    let some = read_second c.args.bytes.now None f.gate f.compact f.lists.items l read second in
    absurd cc
