use Rattle.std.proofs.Common.{length, refl, sym, ◌∙◌}
use Rattle.std.specs.Str.{bytes_eq}
use Rattle.std.proofs.lemmas.Option.{slice_get_read}
use Rattle.lock_entry.proofs.lemmas.Places.{position-find_none, position-find_some}
use Rattle.lock_objects.specs.declared.value.FieldValue.{FieldValue}
use Rattle.lock_objects.proofs.argument.value_named.Goals as goal

pub returns-in-Some : goal.returns-in-Some
returns-in-Some c =
    let vs = c.args.values.now in
    let found = position-find_some (λ (v : FieldValue). bytes_eq v.field c.args.name.now) vs c.in-Some.place (sym c.in-Some.ensures.place) in
    sym (found ∙ slice_get_read vs (length vs) c.in-Some.place c.index-values-place.result refl c.in-Some.ensures.within c.index-values-place.is)

pub returns-in-None : goal.returns-in-None
returns-in-None c = sym (position-find_none (λ (v : FieldValue). bytes_eq v.field c.args.name.now) c.args.values.now (sym c.in-None.ensures.place))
