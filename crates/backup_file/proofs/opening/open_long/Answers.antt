use Rattle.std.proofs.Common.{subst}
use Rattle.std.proofs.lemmas.Result.{IfOk-weaker}
use Rattle.backup_file.specs.File.{IsNoOlder, IsWornOut}
use Rattle.std.specs.Prelude.{IsSome}
use Rattle.backup_file.specs.ReadLogs.{IsReadAs}
use Rattle.backup_file.proofs.Migrated.{first_at_rest, opened_read, stands_left, stands_read}
use Rattle.backup_file.proofs.opening.open_long.Goals as goal

pub returns-in-Some-clause-at_rest : goal.returns-in-Some-clause-at_rest
returns-in-Some-clause-at_rest g c = λ t read only fits.
    let disk = c.args.disk.now in
    let f = c.args.found in
    opened_read (g.D.Disk.reads disk) (g.D.Disk.may_leave disk) f.gate f.compact f.lists.items only fits c.in-Some._known
    (subst (λ place. IsReadAs (g.D.Disk.reads disk) place f.gate f.compact f.lists.items) c.in-Some.is read)

pub returns-in-Some-clause-images : goal.returns-in-Some-clause-images
returns-in-Some-clause-images g c = λ t read only fits.
    let disk = c.args.disk.now in
    let f = c.args.found in
    stands_left (g.D.Disk.reads disk) (g.D.Disk.may_leave disk) f.lists.items only
    (stands_read (g.D.Disk.reads disk) f.place f.gate f.compact f.lists.items read)

pub returns-in-None-clause-at_rest : goal.returns-in-None-clause-at_rest
returns-in-None-clause-at_rest g c = λ t read only fits.
    let disk = c.args.disk.now in
    let f = c.args.found in
    let is = subst (λ place. IsReadAs (g.D.Disk.reads disk) place f.gate f.compact f.lists.items) c.in-None.is read in
    c.open_first.ensures.migrated t is.front is.is_front
    (first_at_rest (g.D.Disk.reads disk) (g.D.Disk.may_leave disk) f.gate f.compact f.lists.items only fits is)

pub returns-in-None-clause-images : goal.returns-in-None-clause-images
returns-in-None-clause-images g c = λ t read only fits.
    let disk = c.args.disk.now in
    let f = c.args.found in
    let is = subst (λ place. IsReadAs (g.D.Disk.reads disk) place f.gate f.compact f.lists.items) c.in-None.is read in
    c.open_first.ensures.images t is.front is.is_front
    (first_at_rest (g.D.Disk.reads disk) (g.D.Disk.may_leave disk) f.gate f.compact f.lists.items only fits is)

pub returns-in-None-clause-stays : goal.returns-in-None-clause-stays
returns-in-None-clause-stays g c = λ t some. let none = subst (λ place. IsSome place) c.in-None.is some in absurd cc

pub returns-in-Some-clause-worn : goal.returns-in-Some-clause-worn
returns-in-Some-clause-worn g c = λ t read only fits worn. worn

pub returns-in-None-clause-worn : goal.returns-in-None-clause-worn
returns-in-None-clause-worn g c = λ t read only fits.
    let disk = c.args.disk.now in
    let f = c.args.found in
    let now = g.D.Disk.reads c.open_first.new.disk in
    let is = subst (λ place. IsReadAs (g.D.Disk.reads disk) place f.gate f.compact f.lists.items) c.in-None.is read in
    IfOk-weaker c.open_first.result (λ _. IsWornOut now → ⊥) (λ _. IsNoOlder (g.D.Disk.reads disk) now) (λ o none worn. absurd (none worn))
    (c.open_first.ensures.young t is.front is.is_front
    (first_at_rest (g.D.Disk.reads disk) (g.D.Disk.may_leave disk) f.gate f.compact f.lists.items only fits is))
