use Rattle.std.proofs.Common.{ℕ, ◌<◌, ◌≡◌, List, [], ◌∷◌, arith, ap, subst, sym, ◌∙◌, Option, Some}
use mathlib.Core.List.{IsPrefix}
use Rattle.atomic_table.specs.Table.{rest}
use Rattle.turn_lock.specs.Rule.{SeatState}
use Rattle.turn_lock.proofs.Keeps.{gives_allowed}
use Rattle.turn_lock.proofs.lock.TurnLock.leave.Goals as goal

pub fetch_add-requires : goal.fetch_add-requires
fetch_add-requires g c =
    let S : Type 0 = g.row.S.Denot in
    let E : Type 0 = g.row.S-Entry.Denot in
    let put = c.exchange.ensures in
    let view : c.exchange.new.seat.me.0 ≡ c.args.seat.now.me.0 = ap (λ (m : SeatState S E). m.0) put.3 in
    let slot : c.exchange.new.seat.me.1 ≡ (0, Some c.args.state) ∷ [] =
    ap (λ (m : SeatState S E). m.1) put.3 ∙ ap (λ (l : List (ℕ × Option S)). (0, Some c.args.state) ∷ rest l) c.requires.holds.2 in (
      put.0 ∙ c.requires.own,
      omega (arith, c.args.self.now.sized.0),
      gives_allowed _ _ _ _ c.requires.holds.0 c.args.state _
          (ap (λ (m : SeatState S E). m.0.turn) put.3 ∙ c.requires.holds.1)
          slot
          (subst (λ (m : SeatState S E). 0 < m.0.parts) (sym put.3) c.requires.some_part)
          (subst (λ (m : SeatState S E). IsPrefix m.0.seen (g.S.History.past c.args.state)) (sym put.3) c.requires.grows),
    )
