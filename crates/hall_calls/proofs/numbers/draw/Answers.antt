use Rattle.std.proofs.Common.{refl, sym, ap, ◌∙◌, subst, arith}
use Rattle.number_ranges.specs.declared.interval.Code.{Code}
use Rattle.posting.specs.BooksView.{BooksView}
use Rattle.hall_model.specs.declared.command.Command.TheVariants as command
use Rattle.hall_model.specs.declared.command.Reply.TheVariants as reply
use Rattle.hall_calls.specs.declared.units.Written.TheVariants.{Answered}
use Rattle.hall_model.specs.Acts.{IsAct}
use Rattle.hall_calls.specs.Storing.{EndsAs}
use Rattle.hall_calls.proofs.verdicts.EachCall.{at_state}
use Rattle.hall_calls.proofs.verdicts.NumberCalls.{buffered_so, draws_buffered, draws_plain, draws_unraised, plain_of}
use Rattle.hall_calls.proofs.ending.AfterStop.{untouched_keeps}
use Rattle.hall_calls.proofs.verdicts.NextDraws.{draw_still, next_high, next_is, next_low, next_room, next_stored}
use Rattle.hall_calls.proofs.ending.OverStore.{quiet_ends}
use Rattle.hall_calls.proofs.numbers.draw.Goals as goal
use Rattle.hall_calls.proofs.numbers.draw.Goals.{then-draw-gt0+in_default, else-draw-gt0}

pub returns-in-Err-clause-store : goal.returns-in-Err-clause-store
returns-in-Err-clause-store g c =
    quiet_ends g.K.Keeper.held g.K.Keeper.is_open g.K.Keeper.may_leave g.K.Keeper.faults g.met.K.Keeper.settled c.args.books.now c.requires.usable
    (reply.Refused c.in-Err.refusal) c.in-Err.ensures.quiet
    (λ k. untouched_keeps g.K.Keeper.held g.K.Keeper.may_leave k c.in-Err.refusal)

pub raise-requires-clause-store : goal.raise-requires-clause-store
raise-requires-clause-store g c =
    next_stored c.args.sessions.now c.args.ranges.now c.args.books.now.ledger c.requires.drawn c.args.call.now.session.now c.args.call.now.object.now
    c.args.call.now.nr c.in-Ok.draw.interval
    c.in-Ok.draw.number c.in-Ok.draw.level c.in-Ok.draw.draws.items c.in-Ok.ensures.draw
    (buffered_so _ c.if-draw-gt0.true)

pub returns-in-Err-raise-clause-act : goal.returns-in-Err-raise-clause-act
returns-in-Err-raise-clause-act g c s e f l room =
    draws_unraised s c.args.sessions.now c.args.ranges.now c.args.books.now.ledger c.args.call.now.session.now c.args.call.now.object.now c.args.call.now.nr
    (record { own_sessions = e; own_ranges = f; own_ledger = l }) room c.in-Ok.draw.interval c.in-Ok.draw.number c.in-Ok.draw.level c.in-Ok.draw.draws.items
    c.in-Ok.ensures.draw
    (buffered_so _ c.if-draw-gt0.true) c.in-Err-raise.failed c.in-Err-raise.ensures.fault c.raise.new.books.ledger c.in-Err-raise.ensures.kept

pub hand_out-requires : goal.hand_out-requires
hand_out-requires g c =
    next_room c.args.sessions.now c.args.ranges.now c.args.books.now.ledger c.requires.drawn c.args.call.now.session.now c.args.call.now.object.now
    c.args.call.now.nr c.in-Ok.draw.interval
    c.in-Ok.draw.number c.in-Ok.draw.level c.in-Ok.draw.draws.items c.in-Ok.ensures.draw
    (buffered_so _ c.if-draw-gt0.true)

pub code-requires-clause-interval : goal.code-requires-clause-interval
code-requires-clause-interval g c =
    next_is c.args.sessions.now c.args.ranges.now c.args.books.now.ledger c.requires.drawn c.args.call.now.session.now c.args.call.now.object.now
    c.args.call.now.nr c.in-Ok.draw.interval
    c.in-Ok.draw.number c.in-Ok.draw.level c.in-Ok.draw.draws.items c.in-Ok.ensures.draw

pub code-requires-clause-low : goal.code-requires-clause-low
code-requires-clause-low g c =
    next_low c.args.sessions.now c.args.ranges.now c.args.books.now.ledger c.requires.drawn c.args.call.now.session.now c.args.call.now.object.now
    c.args.call.now.nr c.in-Ok.draw.interval
    c.in-Ok.draw.number c.in-Ok.draw.level c.in-Ok.draw.draws.items c.in-Ok.ensures.draw

pub returns-clause-act : goal.returns-clause-act
returns-clause-act g c s e f l room =
    let i = c.in-Ok.draw.interval in
    let number = c.in-Ok.draw.number in
    let here = c.if-draw-gt0 in
    let call = command.Number c.args.call.now.session.now c.args.call.now.object.now c.args.call.now.nr in
    let is = next_is c.args.sessions.now c.args.ranges.now c.args.books.now.ledger c.requires.drawn c.args.call.now.session.now c.args.call.now.object.now
    c.args.call.now.nr
    c.in-Ok.draw.interval c.in-Ok.draw.number c.in-Ok.draw.level c.in-Ok.draw.draws.items c.in-Ok.ensures.draw in
    let within = next_high c.args.sessions.now c.args.ranges.now c.args.books.now.ledger c.requires.drawn c.args.call.now.session.now c.args.call.now.object.now
    c.args.call.now.nr
    c.in-Ok.draw.interval c.in-Ok.draw.number c.in-Ok.draw.level c.in-Ok.draw.draws.items c.in-Ok.ensures.draw in
    subst (λ (k : Code). IsAct s call (record s { sessions = c.set_draws.new.self; ranges = here.ranges; stored = here.books.ledger }) (reply.Number number k))
    (sym c.code.ensures)
    (elim here.branch [
      | then-draw-gt0+in_default w ↦
          draws_buffered s c.args.sessions.now c.args.ranges.now c.args.books.now.ledger c.args.call.now.session.now c.args.call.now.object.now
          c.args.call.now.nr
          (record { own_sessions = e; own_ranges = f; own_ledger = l }) room c.in-Ok.draw.interval c.in-Ok.draw.number c.in-Ok.draw.level
          c.in-Ok.draw.draws.items c.in-Ok.ensures.draw
          (buffered_so _ w.if-draw-gt0.true) is.within within c.set_draws.new.self here.ranges here.books.ledger c.set_draws.ensures
          (w.ranges-is ∙ w.hand_out.ensures) (ap (λ (b : BooksView g.row.K.Denot). b.ledger) w.books-is ∙ w.in_default.ensures.ledger)
      | else-draw-gt0 w ↦
          let none = w.if-draw-gt0.false in
          at_state _ _ _ _ _
          (λ k. record s {
            sessions = c.set_draws.new.self;
            ranges = sym w.ranges-is k;
            stored =
                ap (λ (b : BooksView g.row.K.Denot). b.ledger) (sym w.books-is) k;
          })
          (draws_plain s c.args.sessions.now c.args.ranges.now c.args.books.now.ledger c.args.call.now.session.now c.args.call.now.object.now c.args.call.now.nr
          (record { own_sessions = e; own_ranges = f; own_ledger = l }) room c.in-Ok.draw.interval c.in-Ok.draw.number c.in-Ok.draw.level
          c.in-Ok.draw.draws.items c.in-Ok.ensures.draw
          (plain_of _ (omega (arith, none))) c.set_draws.new.self c.set_draws.ensures)
    ])

pub returns-clause-store : goal.returns-clause-store
returns-clause-store g c =
    let answer = reply.Number c.in-Ok.draw.number c.code.result in
    elim c.if-draw-gt0.branch [
      | then-draw-gt0+in_default w ↦
          let done = w.in_default.ensures.done in
          subst (λ b. EndsAs g.K.Keeper.held g.K.Keeper.is_open g.K.Keeper.may_leave g.K.Keeper.faults c.args.books.now b (Answered answer)) (sym w.books-is)
          (record { ledger = tt; usable = done.usable; told = done.told; left = done.left; cause = done.cause; kept = tt })
      | else-draw-gt0 w ↦
          subst (λ b. EndsAs g.K.Keeper.held g.K.Keeper.is_open g.K.Keeper.may_leave g.K.Keeper.faults c.args.books.now b (Answered answer)) (sym w.books-is)
          (quiet_ends g.K.Keeper.held g.K.Keeper.is_open g.K.Keeper.may_leave g.K.Keeper.faults g.met.K.Keeper.settled c.args.books.now c.requires.usable answer
          (λ n. refl) (λ k. tt))
    ]

pub returns-in-Err-raise-clause-keeper : goal.returns-in-Err-raise-clause-keeper
returns-in-Err-raise-clause-keeper g c s e l off =
    c.raise.ensures.still
    (draw_still c.args.sessions.now c.args.ranges.now c.args.books.now.ledger c.args.call.now.session.now c.args.call.now.object.now c.args.call.now.nr
    c.in-Ok.draw.interval
    c.in-Ok.draw.number c.in-Ok.draw.level c.in-Ok.draw.draws.items c.in-Ok.ensures.draw
    (buffered_so _ c.if-draw-gt0.true) s e l off)

pub returns-clause-keeper : goal.returns-clause-keeper
returns-clause-keeper g c s e l off =
    elim c.if-draw-gt0.branch [
      | then-draw-gt0+in_default w ↦
          ap (λ (b : BooksView g.row.K.Denot). b.keeper) w.books-is
          ∙ w.raise.ensures.still
          (draw_still c.args.sessions.now c.args.ranges.now c.args.books.now.ledger c.args.call.now.session.now c.args.call.now.object.now c.args.call.now.nr
          c.in-Ok.draw.interval
          c.in-Ok.draw.number c.in-Ok.draw.level c.in-Ok.draw.draws.items c.in-Ok.ensures.draw
          (buffered_so _ w.if-draw-gt0.true) s e l off)
      | else-draw-gt0 w ↦ ap (λ (b : BooksView g.row.K.Denot). b.keeper) w.books-is
    ]
