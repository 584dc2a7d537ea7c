use Rattle.std.proofs.Common.{◌≡◌, sym, subst}
use Rattle.std.specs.List.{All}
use Rattle.std.proofs.lemmas.Result.{IfOk-weaker}
use Rattle.ledger_steps.specs.Views.{TellsRefusal, views_of}
use Rattle.hall_calls.proofs.present.Present.units.Goals as goal

pub returns-in-Up-clause-refused : goal.returns-in-Up-clause-refused
returns-in-Up-clause-refused g c =
    let ledger = c.self.inside.books.ledger in
    IfOk-weaker c.views.result (λ views. views.items ≡ views_of ledger) (λ views. All TellsRefusal views.items)
    (λ views same. subst (All TellsRefusal) (sym same) (c.views_tell_refusals.ensures.refused ledger)) c.views.ensures
