use Rattle.std.proofs.Common.{◌≡◌, Ok, map, sym, ap, ◌∙◌}
use Rattle.lock_entry.specs.Names.{halves}
use Rattle.lock_entry.specs.Granting.{asked, is_over}
use Rattle.lock_entry.specs.Table.{Table}
use Rattle.lock_laws.proofs.GrantSound.{IsTable-asked}
use Rattle.lock_table.specs.Halves.{half_at, names_of}
use Rattle.lock_table.proofs.HalfLists.{names_of-half_at, granted_is}
use Rattle.lock_table.proofs.list_table.ListTableLockStore.ask.Goals as goal

pub grant-requires-clause-halves : goal.grant-requires-clause-halves
grant-requires-clause-halves c =
    let es = c.self.inside.entries.items in
    let is : c.as_slice-2.result.now ≡ map (half_at es) (halves c.args.asker.now c.args.requests.now) =
    c.as_slice-2.ensures.value ∙ rw c.as_slice.ensures.value at c.in_ok-plan.ensures.halves in
    is ∙ ap (map (half_at es)) (sym (ap names_of is ∙ names_of-half_at es (halves c.args.asker.now c.args.requests.now)))

pub grant-requires-clause-counts : goal.grant-requires-clause-counts
grant-requires-clause-counts c =
    let es = c.self.inside.entries.items in
    let is : c.as_slice-2.result.now ≡ map (half_at es) (halves c.args.asker.now c.args.requests.now) =
    c.as_slice-2.ensures.value ∙ rw c.as_slice.ensures.value at c.in_ok-plan.ensures.halves in
    ap (is_over es) (ap names_of is ∙ names_of-half_at es (halves c.args.asker.now c.args.requests.now))
    ∙ rw c.as_slice.ensures.value at c.in_ok-plan.ensures.counts

pub returns-clause-granted : goal.returns-clause-granted
returns-clause-granted c =
    let t : Table = record { entries = c.self.inside.entries.items; limit = c.self.inside.limit } in
    let is : c.as_slice-2.result.now ≡ map (half_at t.entries) (halves c.args.asker.now c.args.requests.now) =
    c.as_slice-2.ensures.value ∙ rw c.as_slice.ensures.value at c.in_ok-plan.ensures.halves in
    let done : asked t c.args.asker.now c.args.user.now c.args.requests.now ≡ Ok c.grant.new.entries.items =
    granted_is t c.args.asker.now c.args.user.now c.args.requests.now c.as_slice-2.result.now c.in_ok-plan.plan.added.items c.as_slice-3.result.now
    c.grant.new.entries.items
    is c.as_slice-3.ensures.value c.in_ok-grant.ensures.granted (rw c.as_slice.ensures.value at c.in_ok-plan.ensures.granted) in
    ap (λ s. asked s c.args.asker.now c.args.user.now c.args.requests.now) (sym c.self.view_is) ∙ done

pub invariant_of-self-2 : goal.invariant_of-self-2
invariant_of-self-2 c =
    let t : Table = record { entries = c.self.inside.entries.items; limit = c.self.inside.limit } in
    let is : c.as_slice-2.result.now ≡ map (half_at t.entries) (halves c.args.asker.now c.args.requests.now) =
    c.as_slice-2.ensures.value ∙ rw c.as_slice.ensures.value at c.in_ok-plan.ensures.halves in
    let done : asked t c.args.asker.now c.args.user.now c.args.requests.now ≡ Ok c.grant.new.entries.items =
    granted_is t c.args.asker.now c.args.user.now c.args.requests.now c.as_slice-2.result.now c.in_ok-plan.plan.added.items c.as_slice-3.result.now
    c.grant.new.entries.items
    is c.as_slice-3.ensures.value c.in_ok-grant.ensures.granted (rw c.as_slice.ensures.value at c.in_ok-plan.ensures.granted) in
    IsTable-asked t c.args.asker.now c.args.user.now c.args.requests.now c.self.invariant c.requires c.grant.new.entries.items done

pub returns-clause-good : goal.returns-clause-good
returns-clause-good c = invariant_of-self-2 c
