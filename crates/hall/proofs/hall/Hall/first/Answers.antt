use Rattle.std.proofs.Common.{◌≡◌, [], false, ◌∙◌, None, refl, sym, subst, is_some}
use Rattle.enq_base.specs.declared.condition.Condition.TheVariants.{Up}
use Rattle.hall_laws.proofs.starting.FirstState.{first_kept}
use Rattle.hall_model.specs.Kept.{IsKept}
use Rattle.hall_calls.specs.Serving.{with_calls}
use Rattle.hall_model.specs.State.{State, state_of}
use Rattle.ledger_steps.specs.Levels.{first_ranges, intervals_of}
use Rattle.hall.proofs.hall.Hall.first.Goals as goal

pub invariant_of-result : goal.invariant_of-result
invariant_of-result g c =
    let told = is_some (g.K.Keeper.held c.args.books.keeper) in
    let link = is_some (g.L.Link.applied c.args.locks.replica.link) in
    let table = c.args.locks.table in
    let orders = c.args.begins.tables.orders.items in
    let past = c.args.begins.tables.past.items in
    let intervals = intervals_of c.args.ranges in
    let state : State = state_of told link false false Up [] 1 orders table [] c.args.begins.limits.max_locks c.args.begins.limits.max_marks
    (first_ranges c.args.books.ledger.levels intervals) c.args.books.ledger None None None past in
    let is : with_calls c.first.result.state past ≡ state =
    (λ i. with_calls (c.first.ensures.state i) past)
    ∙ (λ i. state_of told link false false Up [] 1 (sym c.requires.orders i)
    (sym c.requires.locks i) [] c.args.begins.limits.max_locks c.args.begins.limits.max_marks
    (first_ranges c.args.books.ledger.levels intervals) c.args.books.ledger None None None past) in (
      c.requires.room,
      subst IsKept (sym is)
          (first_kept told link table c.args.begins.limits.max_locks c.args.begins.limits.max_marks intervals c.args.books.ledger [] orders past
          c.requires.limited
          (record { good = c.requires.intervals; fit = c.requires.fits }) c.requires.sound c.requires.good c.requires.locks refl c.requires.orders
          c.requires.past),
    )

pub returns-clause-state : goal.returns-clause-state
returns-clause-state g c = λ i. with_calls (c.first.ensures.state i) (c.requires.past i)
