use Rattle.std.proofs.Common.{◌<◌, List, All, length, ap, subst, sym, ◌∙◌}
use mathlib.Core.List.{IsPrefix}
use Rattle.turn_lock.specs.declared.view.View.{View}
use Rattle.turn_lock.specs.Rule.{SeatState, own_entries}
use Rattle.seat_sums.proofs.lemmas.Beginnings.{front_is_short}
use Rattle.seat_sums.proofs.lemmas.Entries.{below_higher}
use Rattle.turn_lock.proofs.Keeps.{call_steps}
use Rattle.turn_lock.proofs.Entries.{own_called, own_called_below}
use Rattle.turn_lock.proofs.lock.TurnLock.with.Goals as goal

pub invariant_of-pass-clause-own_seen : goal.invariant_of-pass-clause-own_seen
invariant_of-pass-clause-own_seen g c =
    let E : Type 0 = g.row.S-Entry.Denot in
    let before : List E = g.S.History.past c.enter-state.result in
    let after : List E = g.S.History.past c.act-answer.new.state in
    let v = c.args.pass.now.seat.me.0 in
    let view = call_steps c.take_ticket-ticket.result before after c.args.pass.now.seat.me _ _ _ c.take_ticket-ticket.ensures.waits c.enter-state.ensures.took
    c.leave.ensures.gave in
    let seen : IsPrefix v.seen before = subst (λ (m : SeatState g.row.S.Denot E). IsPrefix m.0.seen before) c.take_ticket-ticket.ensures.waits
    c.enter-state.ensures.seen in
    subst (λ (u : View E). All (λ k. k < length u.seen) u.own) (sym view)
    (own_called_below v.seen before after v.own c.args.pass.now.own_seen seen c.act-answer.ensures.grows)

pub returns-clause-ran : goal.returns-clause-ran
returns-clause-ran g c =
    let E : Type 0 = g.row.S-Entry.Denot in
    let before : List E = g.S.History.past c.enter-state.result in
    let after : List E = g.S.History.past c.act-answer.new.state in
    let v = c.args.pass.now.seat.me.0 in
    let view = call_steps c.take_ticket-ticket.result before after c.args.pass.now.seat.me _ _ _ c.take_ticket-ticket.ensures.waits c.enter-state.ensures.took
    c.leave.ensures.gave in
    let seen : IsPrefix v.seen before = subst (λ (m : SeatState g.row.S.Denot E). IsPrefix m.0.seen before) c.take_ticket-ticket.ensures.waits
    c.enter-state.ensures.seen in record {
      before = c.enter-state.result;
      after = c.act-answer.new.state;
      ran = c.act-answer.ensures.does;
      began = seen;
      grew = c.act-answer.ensures.grows;
      behind = below_higher (length v.seen) (length before) v.own (front_is_short v.seen before seen) c.args.pass.now.own_seen;
      knows = view;
      own = ap own_entries view ∙ own_called v.seen before after v.own c.args.pass.now.own_seen seen c.act-answer.ensures.grows;
    }
