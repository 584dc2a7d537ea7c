use Rattle.std.proofs.Common.{ℕ, List, length, refl, sym, ◌∙◌, not}
use Rattle.std.specs.Prelude.{is_some}
use Rattle.std.proofs.lemmas.Option.{slice_get_read}
use Rattle.lock_entry.proofs.lemmas.Places.{position-find_none, position-find_some}
use Rattle.lock_objects.specs.Objects.{field_named}
use Rattle.lock_objects.proofs.names.first_unknown.Goals as goal

pub returns-in-Some : goal.returns-in-Some
returns-in-Some c =
    let ns = c.args.names.now in
    let found = position-find_some (λ (n : List ℕ). not (is_some (field_named c.args.fields.now n))) ns c.in-Some.place (sym c.in-Some.ensures.place) in
    sym (found ∙ slice_get_read ns (length ns) c.in-Some.place c.index-names-place.result refl c.in-Some.ensures.within c.index-names-place.is)

pub returns-in-None : goal.returns-in-None
returns-in-None c = sym (position-find_none (λ (n : List ℕ). not (is_some (field_named c.args.fields.now n))) c.args.names.now (sym c.in-None.ensures.place))
