use Rattle.std.proofs.Common.{◌<◌, length, All, List, [], ◌∷◌, ◌++◌, Option, Some, sym, ap, subst, ◌∙◌}
use Rattle.atomic_table.specs.Table.{opening}
use Rattle.turn_lock.specs.Rule.{Kept, SeatState, opener, own_entries}
use Rattle.turn_lock.proofs.Entries.{opener_entries}
use Rattle.turn_lock.proofs.Keeps.{opens, opener_below}
use Rattle.turn_lock.proofs.lock.TurnLock.new.Goals as goal

pub new-requires : goal.new-requires
new-requires g c =
    let S : Type 0 = g.row.S.Denot in
    let past = g.S.History.past in
    let one = c.push_reserved.ensures.items ∙ ap (λ (l : List (Option S)). l ++ Some c.args.state ∷ []) c.in-Ok.ensures.items in
    subst (λ (u : List (Option S) × S). Kept past c.args.parts (opening (0 ∷ 0 ∷ []) u.0 (opener c.args.parts (past u.1))))
    (λ i. (sym one i, sym c.of.ensures i))
    (opens past c.args.parts c.args.state c.requires)

pub invariant_of-result-in-Ok-new-clause-own_seen : goal.invariant_of-result-in-Ok-new-clause-own_seen
invariant_of-result-in-Ok-new-clause-own_seen g c =
    let E : Type 0 = g.row.S-Entry.Denot in
    let log : List E = g.S.History.past c.of.result.value in
    subst (λ (m : SeatState g.row.S.Denot E). All (λ k. k < length m.0.seen) m.0.own) (sym c.in-Ok-new.ensures.ok.4) (opener_below c.args.parts log)

pub returns-in-Ok-new-clause-own : goal.returns-in-Ok-new-clause-own
returns-in-Ok-new-clause-own g c =
    let E : Type 0 = g.row.S-Entry.Denot in
    ap (λ (m : SeatState g.row.S.Denot E). own_entries m.0) c.in-Ok-new.ensures.ok.4
    ∙ (opener_entries c.args.parts (g.S.History.past c.of.result.value) ∙ ap g.S.History.past c.of.ensures)
