use Rattle.std.proofs.Common.{◌≡◌, ◌∙◌, ap, sym, set, Some, Bool, true, false, cond, map}
use Rattle.mode_rules.specs.declared.Mode.TheVariants.{E, O}
use Rattle.lock_entry.specs.declared.entry.LockName.{LockName}
use Rattle.lock_entry.specs.Names.{has_name, has_distinct_names, stands}
use Rattle.lock_entry.specs.Freeing.{without}
use Rattle.lock_entry.specs.Turning.{joined, made_exclusive, name_at}
use Rattle.lock_entry.proofs.lemmas.Lists.{find-none_from}
use Rattle.lock_entry.proofs.lemmas.Turns.{turned-none, turned-joined, turned-made}
use Rattle.lock_index.specs.Slots.{live, IsFirst}
use Rattle.lock_index.proofs.Changed.{find-first, mapped-first, without-first}
use Rattle.lock_index.proofs.Turned.{distinct-joined, distinct-made, distinct-without, made-other, named-mode}
use Rattle.lock_index.proofs.changes.turn.Goals as goal

pub returns-in_default-clause-turned : goal.returns-in_default-clause-turned
returns-in_default-clause-turned c =
    let es = live c.args.shelf.now in
    let a = c.args.asked.now in
    let none : stands es (name_at O c.args.owner.now a.table a.pattern) ≡ false = rw c.name_in-optimistic.ensures at c.in_default.ensures.none in
    turned-none es c.args.owner.now a.table a.pattern (find-none_from (has_name (name_at O c.args.owner.now a.table a.pattern)) es none)

pub join-requires : goal.join-requires
join-requires c =
    let es = live c.args.shelf.now in
    let n = c.name_in-optimistic.result in
    ap (λ ss. has_distinct_names (live ss)) c.clear.ensures
    ∙ ap has_distinct_names (without-first n c.args.shelf.now c.in-Some.place c.in-Some.entry c.requires c.in-Some.ensures.some)
    ∙ distinct-without n es c.requires

pub returns-then-stands-clause-turned : goal.returns-then-stands-clause-turned
returns-then-stands-clause-turned c =
    let es = live c.args.shelf.now in
    let a = c.args.asked.now in
    let o = c.in-Some.entry in
    let optimistic = name_at O c.args.owner.now a.table a.pattern in
    let exclusive = name_at E c.args.owner.now a.table a.pattern in
    let first : IsFirst (has_name optimistic) c.args.shelf.now c.in-Some.place o = rw c.name_in-optimistic.ensures at c.in-Some.ensures.some in
    let twin : stands es exclusive ≡ true = rw c.name_in-exclusive.ensures at (sym c.stands.ensures ∙ c.if-stands.true) in
    c.join.ensures
    ∙ ap (λ ss. map (joined c.name_in-exclusive.result o) (live ss)) c.clear.ensures
    ∙ ap (map (joined c.name_in-exclusive.result o)) (without-first optimistic c.args.shelf.now c.in-Some.place o c.requires first)
    ∙ ap (λ (n : LockName). map (joined n o) (without es optimistic)) c.name_in-exclusive.ensures
    ∙ turned-joined es c.args.owner.now a.table a.pattern o (find-first (has_name optimistic) c.args.shelf.now c.in-Some.place o first) twin

pub returns-then-stands-clause-distinct : goal.returns-then-stands-clause-distinct
returns-then-stands-clause-distinct c =
    let n = c.name_in-optimistic.result in
    ap has_distinct_names c.join.ensures
    ∙ distinct-joined c.name_in-exclusive.result c.in-Some.entry (live c.clear.new.self)
    (ap (λ ss. has_distinct_names (live ss)) c.clear.ensures
    ∙ ap has_distinct_names (without-first n c.args.shelf.now c.in-Some.place c.in-Some.entry c.requires c.in-Some.ensures.some)
    ∙ distinct-without n (live c.args.shelf.now) c.requires)

pub make_exclusive-requires-clause-optimistic : goal.make_exclusive-requires-clause-optimistic
make_exclusive-requires-clause-optimistic c =
    named-mode c.name_in-optimistic.result c.in-Some.entry c.in-Some.ensures.some.passes ∙ ap (λ (n : LockName). n.asked.mode) c.name_in-optimistic.ensures

pub returns-else-stands-clause-turned : goal.returns-else-stands-clause-turned
returns-else-stands-clause-turned c =
    let es = live c.args.shelf.now in
    let a = c.args.asked.now in
    let o = c.in-Some.entry in
    let optimistic = name_at O c.args.owner.now a.table a.pattern in
    let exclusive = name_at E c.args.owner.now a.table a.pattern in
    let first : IsFirst (has_name optimistic) c.args.shelf.now c.in-Some.place o = rw c.name_in-optimistic.ensures at c.in-Some.ensures.some in
    let alone : stands es exclusive ≡ false = rw c.name_in-exclusive.ensures at (sym c.stands.ensures ∙ c.if-stands.false) in
    ap live c.make_exclusive.ensures
    ∙ ap (λ (b : Bool). live (set c.args.shelf.now c.in-Some.place (Some (cond b (record o { mode = E }) o)))) (sym first.passes)
    ∙ mapped-first optimistic (made_exclusive optimistic) (made-other optimistic) c.args.shelf.now c.in-Some.place o c.requires first
    ∙ turned-made es c.args.owner.now a.table a.pattern o (find-first (has_name optimistic) c.args.shelf.now c.in-Some.place o first) alone

pub returns-else-stands-clause-distinct : goal.returns-else-stands-clause-distinct
returns-else-stands-clause-distinct c =
    let es = live c.args.shelf.now in
    let a = c.args.asked.now in
    let o = c.in-Some.entry in
    let optimistic = name_at O c.args.owner.now a.table a.pattern in
    let exclusive = name_at E c.args.owner.now a.table a.pattern in
    let first : IsFirst (has_name optimistic) c.args.shelf.now c.in-Some.place o = rw c.name_in-optimistic.ensures at c.in-Some.ensures.some in
    let alone : stands es exclusive ≡ false = rw c.name_in-exclusive.ensures at (sym c.stands.ensures ∙ c.if-stands.false) in
    ap (λ ss. has_distinct_names (live ss)) c.make_exclusive.ensures
    ∙ ap (λ (b : Bool). has_distinct_names (live (set c.args.shelf.now c.in-Some.place (Some (cond b (record o { mode = E }) o))))) (sym first.passes)
    ∙ ap has_distinct_names (mapped-first optimistic (made_exclusive optimistic) (made-other optimistic) c.args.shelf.now c.in-Some.place o c.requires first)
    ∙ distinct-made c.args.owner.now a.table a.pattern es c.requires alone
