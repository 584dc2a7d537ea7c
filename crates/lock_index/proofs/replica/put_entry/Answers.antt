use Rattle.std.proofs.Common.{◌≡◌, ◌∙◌, ◌++◌, ◌∷◌, [], ap, List, true, false}
use Rattle.std.specs.Prelude.{Result, Ok, Err, OnOk, OnErr}
use Rattle.lock_entry.specs.declared.entry.Entry.{Entry}
use Rattle.lock_entry.specs.Names.{has_distinct_names, has_name, name_of, stands}
use Rattle.lock_index.specs.Slots.{live, IsFirst}
use Rattle.lock_index.proofs.Shipped.{distinct-instead, distinct-pushed, instead-first, put-first}
use Rattle.lock_index.proofs.replica.put_entry.Goals as goal

pub returns-in-Some-clause-done : goal.returns-in-Some-clause-done
returns-in-Some-clause-done c =
    let e = c.args.entry.now in
    let first : IsFirst (has_name (name_of e)) c.args.shelf.now c.in-Some.place c.in-Some.standing = rw c.name.ensures at c.in-Some.ensures.some in
    ap live c.rewrite.ensures ∙ put-first e c.in-Some.standing c.args.shelf.now c.in-Some.place c.requires first

pub returns-in-Some-clause-distinct : goal.returns-in-Some-clause-distinct
returns-in-Some-clause-distinct c =
    let e = c.args.entry.now in
    let first : IsFirst (has_name (name_of e)) c.args.shelf.now c.in-Some.place c.in-Some.standing = rw c.name.ensures at c.in-Some.ensures.some in
    ap has_distinct_names (ap live c.rewrite.ensures ∙ instead-first e c.in-Some.standing c.args.shelf.now c.in-Some.place c.requires first)
    ∙ distinct-instead e (live c.args.shelf.now) c.requires

after : {T E : Type 0} (r : Result T E) (e : Entry) (old new : List Entry) → OnOk r (new ≡ old ++ e ∷ []) → OnErr r (new ≡ old) → has_distinct_names old ≡ true
    → has_distinct_names (old ++ e ∷ []) ≡ true → has_distinct_names new ≡ true
after (Ok x) e old new put same h k = ap has_distinct_names put ∙ k
after (Err x) e old new put same h k = ap has_distinct_names same ∙ h

pub returns-in-None-clause-distinct : goal.returns-in-None-clause-distinct
returns-in-None-clause-distinct c =
    let e = c.args.entry.now in
    let old = live c.args.shelf.now in
    let none : stands old (name_of e) ≡ false = rw c.name.ensures at c.in-None.ensures.none in
    after c.append.result e old (live c.append.new.shelf) c.append.ensures.added c.append.ensures.unchanged c.requires (distinct-pushed e old c.requires none)
