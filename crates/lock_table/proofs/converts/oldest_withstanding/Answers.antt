use Rattle.std.proofs.Common.{length, refl, sym, ◌∙◌}
use Rattle.std.proofs.lemmas.Option.{slice_get_read}
use Rattle.lock_entry.specs.Converting.{withstands}
use Rattle.lock_entry.proofs.lemmas.Places.{position-find_none, position-find_some}
use Rattle.lock_table.proofs.converts.oldest_withstanding.Goals as goal

pub returns-in-Some : goal.returns-in-Some
returns-in-Some c =
    let es = c.args.entries.now in
    let found = position-find_some (withstands c.args.asker.now c.args.asked.now) es c.in-Some.place (sym c.in-Some.ensures.place) in
    sym (found ∙ slice_get_read es (length es) c.in-Some.place c.index-entries-place.result refl c.in-Some.ensures.within c.index-entries-place.is)

pub returns-in-None : goal.returns-in-None
returns-in-None c = sym (position-find_none (withstands c.args.asker.now c.args.asked.now) c.args.entries.now (sym c.in-None.ensures.place))
