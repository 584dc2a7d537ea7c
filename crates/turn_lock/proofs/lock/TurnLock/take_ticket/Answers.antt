use Rattle.std.proofs.Common.{◌<◌, arith, ap, subst, sym, ◌∙◌}
use Rattle.turn_lock.specs.Rule.{SeatState}
use Rattle.turn_lock.proofs.Keeps.{tickets_allowed}
use Rattle.turn_lock.proofs.lock.TurnLock.take_ticket.Goals as goal

pub compare_exchange-found-requires : goal.compare_exchange-found-requires
compare_exchange-found-requires g c =
    let inv = c.loop.invariant in (
      inv.2 ∙ c.requires.own,
      omega (arith, c.args.self.now.sized.0),
      tickets_allowed _ _ _ _ _ _ (omega arith)
          (ap (λ (m : SeatState g.row.S.Denot g.row.S-Entry.Denot). m.0.turn) inv.3 ∙ c.requires.rests.0)
          (subst (λ (m : SeatState g.row.S.Denot g.row.S-Entry.Denot). 0 < m.0.parts) (sym inv.3) c.requires.rests.1),
    )
