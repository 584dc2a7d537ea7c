use Rattle.std.proofs.Common.{◌≡◌, ◌++◌, ◌∷◌, [], true, ap, sym, subst, ◌∙◌}
use Rattle.std.specs.HashSet.{contains}
use Rattle.enq_base.specs.Ids.{id_of, same_id}
use Rattle.store_reading.specs.Rules.{is_right_mark, may_mark}
use Rattle.store_reading.specs.Standings.{AreStatuses}
use Rattle.store_reading.proofs.lemmas.Statuses.{statuses_more}
use Rattle.store_reading.proofs.mark_rule.follow.Goals as goal

pub returns : goal.returns
returns c = λ headers marks second statuses.
    let m = c.in-Mark.mark in
    let right : true ≡ may_mark c.args.start _ m = sym c.if-not-may_mark.false ∙ c.may_mark.ensures
    ∙ ap (λ s. may_mark c.args.start s m) (c.status_of.ensures ∙ statuses m.unit) in
    let has : c.contains.result ≡ contains same_id c.args.second.now (id_of m.unit) =
    c.contains.ensures ∙ ap (contains same_id c.args.second.now) c.id_of.ensures in
    subst (λ r. (true ≡ is_right_mark c.args.start headers marks r) × (true ≡ true → AreStatuses c.note.new.statuses headers (marks ++ r ∷ [])))
    (sym c.in-Mark.is) (
      right,
      λ _. statuses_more c.args.second.now c.args.statuses.now c.note.new.statuses headers marks m c.contains.result second statuses has
          c.in_ok-note.ensures,
    )
