use Rattle.std.proofs.Common.{◌≡◌, ◌+◌, ◌∙◌, ◌++◌, ◌∷◌, [], List, ap, sym, take}
use Rattle.std.proofs.lemmas.List.{take_more}
use Rattle.std.proofs.lemmas.List.Sums.{fold-append}
use Rattle.lock_entry.specs.Freeing.{replace_first}
use Rattle.lock_entry.specs.Names.{same_asked}
use Rattle.lock_entry.specs.declared.entry.Asked.{Asked}
use Rattle.coverage.specs.Lacks.{without}
use Rattle.coverage.specs.Tallies.{covering}
use Rattle.coverage.proofs.Tallied.{step_moved}
use Rattle.coverage.proofs.locks.take_away.Goals as goal

pub loop-asked-preserved : goal.loop-asked-preserved
loop-asked-preserved c =
    let i = c.loop-asked.asked-index in
    let es = c.args.named.now in
    let e = c.asked-item.result in
    let held = c.args.held.now.items in
    let takes : List Asked → Asked → List Asked = λ left a. replace_first (same_asked a) (λ b. []) left in
    let longer : take i es ++ e ∷ [] ≡ take (i + 1) es =
    sym (take_more es i e c.loop-asked-test.true ∙ ap (λ (x : Asked). take i es ++ x ∷ []) (sym c.asked-item.is)) in (
      c.in_ok-take_one.ensures.left ∙ ap (λ (l : List Asked). takes l e) c.loop-asked.invariant.0 ∙ sym (fold-append takes held (take i es) (e ∷ []))
          ∙ ap (without held) longer,
      λ w. step_moved (covering w held) (covering w c.loop-asked.held.items) (covering w c.take_one.new.held.items) (covering w c.loop-asked.freed.items)
          (covering w c.take_one.new.freed.items) (c.loop-asked.invariant.1 w) (c.in_ok-take_one.ensures.freed w),
    )
