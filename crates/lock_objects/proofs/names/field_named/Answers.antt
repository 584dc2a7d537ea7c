use Rattle.std.proofs.Common.{length, refl, sym, ◌∙◌}
use Rattle.std.specs.Str.{bytes_eq}
use Rattle.std.proofs.lemmas.Option.{slice_get_read}
use Rattle.lock_entry.proofs.lemmas.Places.{position-find_none, position-find_some}
use Rattle.lock_objects.specs.declared.field.Field.{Field}
use Rattle.lock_objects.proofs.names.field_named.Goals as goal

pub returns-in-Some : goal.returns-in-Some
returns-in-Some c =
    let fs = c.args.fields.now in
    let found = position-find_some (λ (f : Field). bytes_eq f.name c.args.name.now) fs c.in-Some.place (sym c.in-Some.ensures.place) in
    sym (found ∙ slice_get_read fs (length fs) c.in-Some.place c.index-fields-place.result refl c.in-Some.ensures.within c.index-fields-place.is)

pub returns-in-None : goal.returns-in-None
returns-in-None c = sym (position-find_none (λ (f : Field). bytes_eq f.name c.args.name.now) c.args.fields.now (sym c.in-None.ensures.place))
