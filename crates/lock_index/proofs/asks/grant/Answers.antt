use Rattle.std.proofs.Common.{◌≡◌, ◌∙◌, ◌++◌, Ok, map, sym, ap, List}
use Rattle.lock_entry.specs.declared.entry.Entry.{Entry}
use Rattle.lock_entry.specs.Names.{halves, has_distinct_names}
use Rattle.lock_entry.specs.Granting.{granted, new_names}
use Rattle.lock_entry.specs.Table.{Table, IsTable, with_entries}
use Rattle.lock_laws.proofs.GrantSound.{IsTable-asked}
use Rattle.lock_index.specs.Granted.{blank_entry, all_risen}
use Rattle.lock_index.specs.Slots.{live}
use Rattle.lock_index.proofs.Names.{small-granted, distinct-risen, risen-granted}
use Rattle.lock_index.proofs.asks.grant.Goals as goal

pub raise_all-requires-clause-small : goal.raise_all-requires-clause-small
raise_all-requires-clause-small c =
    let es = live c.args.shelf.now in
    let user = c.args.user.now in
    let nn = new_names es (halves c.args.asker.now c.args.requests.now) in
    let appended : live c.append.new.shelf ≡ es ++ map (blank_entry user) nn =
    c.in_ok-append.ensures.added ∙ ap (λ (l : List Entry). es ++ l) (c.as_slice.ensures.value ∙ c.in_ok-plan.ensures.added) in
    rw appended (small-granted es user nn c.requires.sound.sound.counts)

pub raise_all-requires-clause-distinct : goal.raise_all-requires-clause-distinct
raise_all-requires-clause-distinct c =
    let t : Table = record { entries = live c.args.shelf.now; limit = c.args.limit } in
    let es = t.entries in
    let user = c.args.user.now in
    let names = halves c.args.asker.now c.args.requests.now in
    let appended : live c.append.new.shelf ≡ es ++ map (blank_entry user) (new_names es names) =
    c.in_ok-append.ensures.added ∙ ap (λ (l : List Entry). es ++ l) (c.as_slice.ensures.value ∙ c.in_ok-plan.ensures.added) in
    let good : IsTable (with_entries t (granted es user names)) = IsTable-asked t c.args.asker.now user c.args.requests.now c.requires.sound c.requires.pair
    (granted es user names) c.in_ok-plan.ensures.granted in
    ap has_distinct_names appended ∙ sym (distinct-risen names (es ++ map (blank_entry user) (new_names es names)))
    ∙ ap has_distinct_names (risen-granted es user names good.sound.counts) ∙ good.sound.names

pub returns-clause-granted : goal.returns-clause-granted
returns-clause-granted c =
    let t : Table = record { entries = live c.args.shelf.now; limit = c.args.limit } in
    let es = t.entries in
    let user = c.args.user.now in
    let names = halves c.args.asker.now c.args.requests.now in
    let appended : live c.append.new.shelf ≡ es ++ map (blank_entry user) (new_names es names) =
    c.in_ok-append.ensures.added ∙ ap (λ (l : List Entry). es ++ l) (c.as_slice.ensures.value ∙ c.in_ok-plan.ensures.added) in
    let good : IsTable (with_entries t (granted es user names)) = IsTable-asked t c.args.asker.now user c.args.requests.now c.requires.sound c.requires.pair
    (granted es user names) c.in_ok-plan.ensures.granted in
    let after : live c.raise_all.new.shelf ≡ granted es user names =
    c.raise_all.ensures ∙ ap (λ ns. map (all_risen ns) (live c.append.new.shelf)) (c.as_slice-2.ensures.value ∙ c.in_ok-plan.ensures.names)
    ∙ ap (map (all_risen names)) appended ∙ risen-granted es user names good.sound.counts in
    c.in_ok-plan.ensures.granted ∙ ap (λ (l : List Entry). Ok l) (sym after)

pub returns-clause-sound : goal.returns-clause-sound
returns-clause-sound c =
    let t : Table = record { entries = live c.args.shelf.now; limit = c.args.limit } in
    let es = t.entries in
    let user = c.args.user.now in
    let names = halves c.args.asker.now c.args.requests.now in
    let appended : live c.append.new.shelf ≡ es ++ map (blank_entry user) (new_names es names) =
    c.in_ok-append.ensures.added ∙ ap (λ (l : List Entry). es ++ l) (c.as_slice.ensures.value ∙ c.in_ok-plan.ensures.added) in
    let good : IsTable (with_entries t (granted es user names)) = IsTable-asked t c.args.asker.now user c.args.requests.now c.requires.sound c.requires.pair
    (granted es user names) c.in_ok-plan.ensures.granted in
    let after : live c.raise_all.new.shelf ≡ granted es user names =
    c.raise_all.ensures ∙ ap (λ ns. map (all_risen ns) (live c.append.new.shelf)) (c.as_slice-2.ensures.value ∙ c.in_ok-plan.ensures.names)
    ∙ ap (map (all_risen names)) appended ∙ risen-granted es user names good.sound.counts in
    rw after good
