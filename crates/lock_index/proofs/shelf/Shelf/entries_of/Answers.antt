use Rattle.std.proofs.Common.{◌≡◌, ◌∙◌, ap, sym, nat_eq, filter}
use Rattle.std.specs.List.{list_any}
use Rattle.std.proofs.lemmas.Result.{IfOk-weaker}
use Rattle.lock_index.specs.Keys.{has_key}
use Rattle.lock_index.specs.Slots.{live, on_some, slot_at}
use Rattle.lock_index.proofs.shelf.Shelf.entries_of.Goals as goal

pub returns : goal.returns
returns c =
    let q = has_key c.args.key.now in
    let slots : c.as_slice.result.now ≡ c.self.inside.slots.items = c.as_slice.ensures.value in
    IfOk-weaker c.entries_at.result _ _
    (λ v h.
    h q c.members.ensures.distinct
    (λ j. ap (list_any (nat_eq j)) c.members.ensures.members ∙ c.self.invariant.shown.exact c.args.key.now j c.requires
    ∙ ap (λ ss. on_some q (slot_at ss j)) (sym slots))
    ∙ ap (λ ss. filter q (live ss)) (slots ∙ c.self.view_is))
    c.entries_at.ensures
