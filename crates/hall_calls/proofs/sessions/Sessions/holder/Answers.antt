use Rattle.std.proofs.Common.{ap, ◌∙◌, rules, tests}
use Rattle.std.specs.List.{find}
use Rattle.std.proofs.lemmas.Iterator.Consumers.{YieldsList-from_rest}
use Rattle.std.proofs.lemmas.Iterator.Search.{find_from_yields_List}
use Rattle.indexmap.specs.IndexMap.{values}
use Rattle.hall_model.specs.Numbers.{holds}
use Rattle.hall_calls.proofs.RangesShown.{plain_holder}
use Rattle.hall_calls.proofs.sessions.Sessions.holder.Goals as goal

pub returns : goal.returns
returns c =
    find_from_yields_List (holds c.args.interval.now) _ _ c.find.result c.find.ensures.ran
    (YieldsList-from_rest (values c.self.inside.by_name) c.values-sessions.ensures.rest)
    (λ x b q k. search (rules, tests))
    ∙ ap (find (holds c.args.interval.now)) c.self.view_is
    ∙ plain_holder c.args.self.now c.args.interval.now c.if-interval-gt0.false
