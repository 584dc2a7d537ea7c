use Rattle.std.proofs.Common.{◌≡◌, Option, Some, None, length, refl, sym, ap, ◌∙◌, subst}
use Rattle.std.specs.Prelude.{Err}
use Rattle.std.specs.Global.{Vec}
use Rattle.std.proofs.lemmas.Option.{slice_get_read}
use Rattle.enq_base.specs.declared.refusal.Refusal.TheVariants as refusal
use Rattle.lock_entry.proofs.lemmas.Places.{position-find_none, position-find_some}
use Rattle.lock_entry.specs.declared.entry.Asked.{Asked}
use Rattle.lock_objects.specs.Objects.{Object}
use Rattle.script_runner.specs.Answers.{IsGivenBy}
use Rattle.script_runner.specs.Lines.{arguments_at, asked_at, is_object_called, object_at}
use Rattle.script_runner.proofs.requests.asked_at.Goals as goal

pub returns-in_default : goal.returns-in_default
returns-in_default c =
    let values = c.args.values.now in
    let none = position-find_none (is_object_called c.args.object.now) c.args.objects.now (sym c.place_of.ensures.place ∙ c.in_default.is) in
    ap (λ (o : Option Object). elim o [ None ↦ Err refusal.UnknownObject | Some x ↦ arguments_at x values c.args.mode ]) none

pub returns : goal.returns
returns c =
    let values = c.args.values.now in
    let test = is_object_called c.args.object.now in
    let objects = c.args.objects.now in
    let o = c.index-objects-place.result in
    let at = sym c.place_of.ensures.place ∙ c.in-Some.is in
    let found : object_at objects c.args.object.now ≡ Some o =
    position-find_some test objects c.in-Some.place at ∙ slice_get_read objects
    (length objects) c.in-Some.place o refl c.in-Some.ensures.within c.index-objects-place.is in
    let rule : asked_at objects c.args.object.now c.args.mode values ≡ arguments_at o values c.args.mode =
    ap (λ (o : Option Object). elim o [ None ↦ Err refusal.UnknownObject | Some x ↦ arguments_at x values c.args.mode ]) found in
    subst (λ r. IsGivenBy (λ (v : Vec Asked). v.items) r c.arguments_at.result) (sym rule) c.arguments_at.ensures
