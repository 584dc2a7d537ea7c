use Rattle.std.proofs.Common.{ap, subst, sym, ◌∙◌}
use mathlib.Core.List.{IsPrefix}
use Rattle.turn_lock.specs.declared.view.View.{View}
use Rattle.turn_lock.specs.Rule.{SeatState, own_entries, Stands}
use Rattle.turn_lock.proofs.Entries.{both_entries, both_stand}
use Rattle.turn_lock.proofs.lock.TurnLock.join.Goals as goal

pub returns-clause-entries : goal.returns-clause-entries
returns-clause-entries g c =
    let E : Type 0 = g.row.S-Entry.Denot in
    let view = ap (λ (m : SeatState g.row.S.Denot E). m.0) c.glue.ensures.both in
    ap own_entries view ∙ both_entries c.args.a.seat.me.0 c.args.b.seat.me.0 c.args.a.own_seen c.args.b.own_seen
    (subst (λ (u : View E). IsPrefix u.shorter u.seen) view c.glue.ensures.learned.1)

pub returns-clause-places : goal.returns-clause-places
returns-clause-places g c =
    let E : Type 0 = g.row.S-Entry.Denot in
    let view = ap (λ (m : SeatState g.row.S.Denot E). m.0) c.glue.ensures.both in
    let a = c.args.a.seat.me.0 in
    let b = c.args.b.seat.me.0 in
    subst (λ (u : View E). Stands u.seen a × Stands u.seen b) (sym view)
    (both_stand a b c.args.a.own_seen c.args.b.own_seen (subst (λ (u : View E). IsPrefix u.shorter u.seen) view c.glue.ensures.learned.1))
