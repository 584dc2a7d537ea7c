use Rattle.std.proofs.Common.{◌≡◌, Some, None, true, false, length, map, sym, ap, ◌∙◌}
use Rattle.std.specs.List.{find}
use Rattle.std.proofs.lemmas.List.{length-map}
use Rattle.mode_rules.specs.declared.Mode.TheVariants.{E, O}
use Rattle.lock_entry.specs.declared.entry.LockName.{LockName}
use Rattle.lock_entry.specs.Names.{has_name, stands}
use Rattle.lock_entry.specs.Freeing.{without}
use Rattle.lock_entry.specs.Turning.{name_at, joined, made_exclusive}
use Rattle.lock_entry.proofs.lemmas.Places.{write_back}
use Rattle.lock_entry.proofs.lemmas.Turns.{turned-none, turned-joined, turned-made}
use Rattle.lock_entry.proofs.list.turn.Goals as goal

pub returns-in_default : goal.returns-in_default
returns-in_default c =
    let es = c.args.entries.now.items in
    let none : find (has_name (name_at O c.args.owner.now c.args.table.now c.args.pattern.now)) es ≡ None =
    rw (c.as_slice.ensures.value, c.name_at-optimistic.ensures) at (sym c.find_entry.ensures ∙ c.in_default.is) in
    turned-none es c.args.owner.now c.args.table.now c.args.pattern.now none

pub returns-then-stands : goal.returns-then-stands
returns-then-stands c =
    let es = c.args.entries.now.items in
    let kept = c.drop_entry.new.entries.items in
    let o = c.in-Some.entry in
    let found : find (has_name (name_at O c.args.owner.now c.args.table.now c.args.pattern.now)) es ≡ Some o =
    rw (c.as_slice.ensures.value, c.name_at-optimistic.ensures) at (sym c.in-Some.ensures) in
    let twin : stands es (name_at E c.args.owner.now c.args.table.now c.args.pattern.now) ≡ true =
    rw (c.as_slice-2.ensures.value, c.name_at-exclusive.ensures) at (sym c.stands.ensures ∙ c.if-stands.true) in
    let f = joined c.name_at-exclusive.result o in
    let new : c.add_counts.new.entries ≡ map f kept = c.add_counts.ensures ∙ ap (map f) c.as_mut_slice.ensures.value in
    let full : length kept ≡ c.drop_entry.new.entries.len = sym (ap length c.as_mut_slice.ensures.value) ∙ c.as_mut_slice.ensures.len in
    write_back c.drop_entry.new.entries.len kept c.add_counts.new.entries (ap length new ∙ length-map kept f) full
    ∙ new
    ∙ ap (map f) (c.drop_entry.ensures ∙ ap (without es) c.name_at-optimistic.ensures)
    ∙ ap (λ (n : LockName). map (joined n o) (without es (name_at O c.args.owner.now c.args.table.now c.args.pattern.now))) c.name_at-exclusive.ensures
    ∙ turned-joined es c.args.owner.now c.args.table.now c.args.pattern.now o found twin

pub returns-else-stands : goal.returns-else-stands
returns-else-stands c =
    let es = c.args.entries.now.items in
    let o = c.in-Some.entry in
    let found : find (has_name (name_at O c.args.owner.now c.args.table.now c.args.pattern.now)) es ≡ Some o =
    rw (c.as_slice.ensures.value, c.name_at-optimistic.ensures) at (sym c.in-Some.ensures) in
    let alone : stands es (name_at E c.args.owner.now c.args.table.now c.args.pattern.now) ≡ false =
    rw (c.as_slice-2.ensures.value, c.name_at-exclusive.ensures) at (sym c.stands.ensures ∙ c.if-stands.false) in
    let f = made_exclusive c.name_at-optimistic.result in
    let new : c.set_exclusive.new.entries ≡ map f es = c.set_exclusive.ensures ∙ ap (map f) c.as_mut_slice-else-stands.ensures.value in
    let full : length es ≡ c.args.entries.now.len = sym (ap length c.as_mut_slice-else-stands.ensures.value) ∙ c.as_mut_slice-else-stands.ensures.len in
    write_back c.args.entries.now.len es c.set_exclusive.new.entries (ap length new ∙ length-map es f) full
    ∙ new
    ∙ ap (λ (n : LockName). map (made_exclusive n) es) c.name_at-optimistic.ensures
    ∙ turned-made es c.args.owner.now c.args.table.now c.args.pattern.now o found alone
