use Rattle.std.proofs.Common.{◌≡◌, length, Some, None, refl, sym, ap, ◌∙◌}
use Rattle.std.specs.List.{find, position}
use Rattle.std.specs.Option.{option_map_or}
use Rattle.std.proofs.lemmas.Option.{slice_get_read}
use Rattle.lock_entry.specs.declared.entry.Entry.{Entry}
use Rattle.lock_entry.specs.Names.{has_name, count_at}
use Rattle.lock_entry.proofs.lemmas.Places.{position-Some, position-find_some, position-find_none}
use Rattle.lock_table.proofs.halves.half_of.Goals as goal

pub returns-in-Some : goal.returns-in-Some
returns-in-Some c =
    let es = c.args.entries.now in
    let n = c.args.name in
    let e = c.index-entries-i.result in
    let place : position (has_name n) es ≡ Some c.in-Some.i = sym c.requires ∙ c.in-Some.is in
    let within = (position-Some (has_name n) es c.in-Some.i place).1 in
    let found : find (has_name n) es ≡ Some e = position-find_some (has_name n) es c.in-Some.i place
    ∙ slice_get_read es (length es) c.in-Some.i e refl within c.index-entries-i.is in
    let count : count_at es n ≡ e.count = ap (λ o. option_map_or (λ (x : Entry). x.count) o 0) found in
    let k = ap (λ (x : Entry). x.count) (sym c.index-entries-i.is) in
    λ i. record { name = n; place = sym place i; count = (k ∙ sym count) i }

pub returns-in-None : goal.returns-in-None
returns-in-None c =
    let es = c.args.entries.now in
    let n = c.args.name in
    let none : position (has_name n) es ≡ None = sym c.requires ∙ c.in-None.is in
    let count : count_at es n ≡ 0 = ap (λ o. option_map_or (λ (x : Entry). x.count) o 0) (position-find_none (has_name n) es none) in
    λ i. record { name = n; place = c.requires i; count = sym count i }
