use Rattle.std.proofs.Common.{ℕ, ◌+◌, ◌<◌, ◌^◌, ◌∷◌, ◌++◌, [], List, true, length, ap, arith, refl, ◌∙◌}
use Rattle.backup_file.specs.declared.handed.Handed.{Handed}
use Rattle.backup_file.specs.Slots.{first_slots, slots_record}
use Rattle.backup_file.specs.File.{compact}
use Rattle.backup_file.specs.Migrating.{first_place}
use Rattle.backup_file.proofs.Migrated.{migrated_front, migrated_now, migrating_left, text_parts, unmigrated_left}
use Rattle.backup_file.proofs.lemmas.Generations.{rest_shut, young}
use Rattle.backup_file.proofs.opening.open_first.Goals as goal

low : (gate : ℕ) → gate + 1 + 0 < 2 ^ 63 → gate + 40 < 2 ^ 64
low gate fits = omega (arith, fits)

pub add_record-requires : goal.add_record-requires
add_record-requires g c = omega (arith, ap (λ (b : List ℕ). length b) c.as_slice-2.ensures.value, c.in-Ok.ensures.some)

pub returns-in_default-clause-images : goal.returns-in_default-clause-images
returns-in_default-clause-images g c = λ t front is rest.
    let disk = c.args.disk.now in
    unmigrated_left front c.args.gate c.args.lists.items (g.D.Disk.reads disk) (g.D.Disk.may_leave disk) is rest (low c.args.gate rest.fits)

pub returns-in-Ok-add_record-clause-images : goal.returns-in-Ok-add_record-clause-images
returns-in-Ok-add_record-clause-images g c = λ t front is rest image left.
    let disk = c.args.disk.now in
    let l = c.args.lists.items in
    let gate = c.args.gate in
    let text = c.as_slice-2.ensures.value ∙ c.in-Ok.ensures.spelled (low gate rest.fits)
    ∙ ap (λ (k : List Handed). 1 ∷ (slots_record (first_slots gate) ++ (compact k ++ 0 ∷ []))) c.as_slice.ensures.value in
    migrating_left front gate l (g.D.Disk.reads disk) (g.D.Disk.may_leave disk) is rest (low gate rest.fits) image
    (c.add_record.ensures.images t front (slots_record (first_slots gate) ++ compact l) rest (text_parts gate l c.as_slice-2.result.now text) image left)

pub returns-in-Ok-add_record-clause-migrated : goal.returns-in-Ok-add_record-clause-migrated
returns-in-Ok-add_record-clause-migrated g c = λ t front is rest.
    let disk = c.args.disk.now in
    let l = c.args.lists.items in
    let gate = c.args.gate in
    let text = c.as_slice-2.ensures.value ∙ c.in-Ok.ensures.spelled (low gate rest.fits)
    ∙ ap (λ (k : List Handed). 1 ∷ (slots_record (first_slots gate) ++ (compact k ++ 0 ∷ []))) c.as_slice.ensures.value in
    migrated_now front gate l (g.D.Disk.reads disk) (g.D.Disk.may_leave disk) is rest (low gate rest.fits) c.in-Ok-add_record.next
    (g.D.Disk.reads c.add_record.new.disk) (g.D.Disk.may_leave c.add_record.new.disk) true
    (c.in-Ok-add_record.ensures.added t front (slots_record (first_slots gate) ++ compact l) rest (text_parts gate l c.as_slice-2.result.now text))

pub returns-clause-images : goal.returns-clause-images
returns-clause-images g c = λ t front is rest image left.
    let disk = c.args.disk.now in
    let l = c.args.lists.items in
    let gate = c.args.gate in
    let text = c.as_slice-2.ensures.value ∙ c.in-Ok.ensures.spelled (low gate rest.fits)
    ∙ ap (λ (k : List Handed). 1 ∷ (slots_record (first_slots gate) ++ (compact k ++ 0 ∷ []))) c.as_slice.ensures.value in
    migrating_left front gate l (g.D.Disk.reads disk) (g.D.Disk.may_leave disk) is rest (low gate rest.fits) image
    (c.add_record.ensures.images t front (slots_record (first_slots gate) ++ compact l) rest (text_parts gate l c.as_slice-2.result.now text) image left)

pub returns-in-Ok-add_record-clause-young : goal.returns-in-Ok-add_record-clause-young
returns-in-Ok-add_record-clause-young g c = λ t front is rest.
    let l = c.args.lists.items in
    let gate = c.args.gate in
    let body : List ℕ = slots_record (first_slots gate) ++ compact l in
    let text = c.as_slice-2.ensures.value ∙ c.in-Ok.ensures.spelled (low gate rest.fits)
    ∙ ap (λ (k : List Handed). 1 ∷ (slots_record (first_slots gate) ++ (compact k ++ 0 ∷ []))) c.as_slice.ensures.value in
    let new = g.D.Disk.reads c.add_record.new.disk in
    let at_rest = c.in-Ok-add_record.ensures.added t front body rest (text_parts gate l c.as_slice-2.result.now text) in
    young (first_place gate) (front ++ 1 ∷ body) new l (migrated_front front gate l is rest.place (low gate rest.fits)).0
    (rest_shut new (g.D.Disk.may_leave c.add_record.new.disk) c.in-Ok-add_record.next (front ++ 1 ∷ body) at_rest) refl

pub returns-in-Ok-add_record-clause-grown : goal.returns-in-Ok-add_record-clause-grown
returns-in-Ok-add_record-clause-grown g c = λ t front byte whole place few.
    let text = c.as_slice-2.ensures.value ∙ c.in-Ok.ensures.spelled few
    ∙ ap (λ (k : List Handed). 1 ∷ (slots_record (first_slots c.args.gate) ++ (compact k ++ 0 ∷ []))) c.as_slice.ensures.value in
    c.in-Ok-add_record.ensures.grown t front byte whole place ∙ ap (λ (b : List ℕ). front ++ b) text
