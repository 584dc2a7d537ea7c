use Rattle.std.proofs.Common.{◌≡◌, ◌+◌, ◌∙◌, ◌++◌, ◌∷◌, [], ap, sym, take, List, true, false}
use Rattle.std.proofs.lemmas.List.{take_more}
use Rattle.lock_entry.specs.declared.entry.Entry.{Entry}
use Rattle.lock_entry.specs.Names.{has_distinct_names, name_of, stands}
use Rattle.lock_index.specs.Slots.{live}
use Rattle.lock_index.proofs.Live.{live-push}
use Rattle.lock_index.proofs.Shipped.{distinct-pushed, twice}
use Rattle.lock_index.proofs.replica.put_distinct.Goals as goal

pub loop-entry-preserved : goal.loop-entry-preserved
loop-entry-preserved c =
    let i = c.loop-entry.entry-index in
    let es = c.args.entries.now in
    let e = c.entry-item.result in
    let longer : take i es ++ e ∷ [] ≡ take (i + 1) es =
    sym (take_more es i e c.loop-entry-test.true ∙ ap (λ (x : Entry). take i es ++ x ∷ []) (sym c.entry-item.is)) in
    let none : stands (take i es) (name_of e) ≡ false = rw c.name.ensures at (rw c.loop-entry.invariant.0 at (sym c.stands.ensures ∙ c.if-stands.false)) in (
      ap live c.in_ok-push.ensures.pushed ∙ live-push c.loop-entry.shelf e ∙ ap (λ (l : List Entry). l ++ e ∷ []) c.loop-entry.invariant.0 ∙ longer,
      ap has_distinct_names (sym longer) ∙ distinct-pushed e (take i es) c.loop-entry.invariant.1 none,
    )

pub returns-then-stands-clause-twice : goal.returns-then-stands-clause-twice
returns-then-stands-clause-twice c =
    let i = c.loop-entry.entry-index in
    let es = c.args.entries.now in
    let e = c.entry-item.result in
    let there : stands (take i es) (name_of e) ≡ true = rw c.name.ensures at (rw c.loop-entry.invariant.0 at (sym c.stands.ensures ∙ c.if-stands.true)) in
    λ _. twice es i e c.loop-entry-test.true c.entry-item.is there
