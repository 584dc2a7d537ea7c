use Rattle.std.proofs.Common.{◌≡◌, ◌≤◌, ◌-◌, drop, length, ap, sym, subst, ◌∙◌, true≢false, arith}
use Rattle.std.specs.List.{filter}
use Rattle.std.proofs.lemmas.Bool.{eqb-true}
use Rattle.lock_entry.specs.Names.{is_of}
use Rattle.enq_server.proofs.Changed.{back_last, back_same, back_sizes, own_few}
use Rattle.enq_server.proofs.server.stays_so.Goals as goal

pub returns-then-is_empty-clause-other : goal.returns-then-is_empty-clause-other
returns-then-is_empty-clause-other g c = λ off some same.
    let none = eqb-true (length c.args.own.now) 0 (sym c.is_empty.ensures ∙ c.if-is_empty.true) in
    let sizes = back_sizes (g.T.LockStore.table c.args.table.now).entries c.args.own.now c.args.entries.now c.args.asker.now.update c.requires.own same in
    omega (arith, none, sizes, some)

pub returns-then-own-entries-clause-other : goal.returns-then-own-entries-clause-other
returns-then-own-entries-clause-other g c = λ off some same.
    c.if-own-entries.true
    (back_sizes (g.T.LockStore.table c.args.table.now).entries c.args.own.now c.args.entries.now c.args.asker.now.update c.requires.own same)

pub ends_with-requires : goal.ends_with-requires
ends_with-requires g c =
    let es = (g.T.LockStore.table c.args.table.now).entries in
    let few = own_few es c.args.own.now c.args.asker.now.update c.requires.own in
    let all : length c.as_slice.result.now ≡ length es = ap length (c.as_slice.ensures.value ∙ c.in_ok-list.ensures.entries) in
    omega (arith, few, all, c.if-own-entries.false)

pub returns-clause-same : goal.returns-clause-same
returns-clause-same g c = λ ends.
    let es = (g.T.LockStore.table c.args.table.now).entries in
    let list = c.as_slice.ensures.value ∙ c.in_ok-list.ensures.entries in
    back_same es c.args.own.now c.args.entries.now c.args.asker.now.update c.requires.own c.if-own-entries.false c.requires.entries.owners
    (subst (λ xs. drop (length xs - length c.args.entries.now) xs ≡ c.args.entries.now) list (c.ends_with.ensures.0 ends))

pub returns-clause-other : goal.returns-clause-other
returns-clause-other g c = λ off some same.
    let es = (g.T.LockStore.table c.args.table.now).entries in
    let list = c.as_slice.ensures.value ∙ c.in_ok-list.ensures.entries in
    true≢false (sym (c.ends_with.ensures.1
    (subst (λ xs. drop (length xs - length c.args.entries.now) xs ≡ c.args.entries.now) (sym list)
    (back_last es c.args.entries.now c.args.asker.now.update same))) ∙ off)
