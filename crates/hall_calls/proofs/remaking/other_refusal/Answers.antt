use Rattle.std.proofs.Common.{◌≡◌, inl, inr, true, refl, subst}
use Rattle.std.specs.List.{list_all}
use Rattle.ledger_steps.specs.Levels.{IsFirstUnfit, fits, intervals_of}
use Rattle.hall_calls.proofs.remaking.other_refusal.Goals as goal

pub returns-in-Some : goal.returns-in-Some
returns-in-Some c =
    let intervals = intervals_of c.args.ranges.now in
    inl (c.in-Some.row, subst (λ rows. IsFirstUnfit intervals rows c.in-Some.row) c.intervals.ensures c.in-Some.ensures.row, refl)

pub returns-in-None : goal.returns-in-None
returns-in-None c =
    let intervals = intervals_of c.args.ranges.now in
    inr (subst (λ rows. list_all (fits intervals) rows ≡ true) c.intervals.ensures c.in-None.ensures.none, refl)
