use Rattle.std.proofs.Common.{◌≡◌, ◌||◌, List, false, true, sym, ap, ◌∙◌}
use Rattle.std.specs.List.{list_any}
use Rattle.lock_entry.specs.Freeing.{has_unhanded}
use Rattle.lock_entry.specs.Pairs.{in_pair}
use Rattle.lock_entry.specs.declared.entry.Asker.{Asker}
use Rattle.lock_entry.specs.declared.entry.Entry.{Entry}
use Rattle.hall_model.specs.State.{unhanded}
use Rattle.hall_calls.proofs.restarting.LostLocks.{either_has}
use Rattle.hall_calls.proofs.sessions.has_own_lock.Goals as goal

whole : (asker pair : Asker) (es : List Entry) → asker ≡ pair
    → (has_unhanded asker.dialogue es || has_unhanded asker.update es) ≡ list_any (λ (e : Entry). in_pair pair e.owner) (unhanded es)
whole asker pair es is = either_has asker es ∙ ap (λ (p : Asker). list_any (λ (e : Entry). in_pair p e.owner) (unhanded es)) is

pub returns-then-has_unhanded : goal.returns-then-has_unhanded
returns-then-has_unhanded g c =
    let es = c.args.locks.now.table.entries in
    let pair = c.pair_of-pair.result in
    let own : has_unhanded pair.dialogue es ≡ true = sym c.has_unhanded.ensures ∙ c.if-has_unhanded.true in
    c.if-has_unhanded.true ∙ ap (λ b. b || has_unhanded pair.update es) (sym own) ∙ whole pair _ es c.pair_of-pair.ensures

pub returns-else-has_unhanded : goal.returns-else-has_unhanded
returns-else-has_unhanded g c =
    let es = c.args.locks.now.table.entries in
    let pair = c.pair_of-pair.result in
    let own : has_unhanded pair.dialogue es ≡ false = sym c.has_unhanded.ensures ∙ c.if-has_unhanded.false in
    c.has_unhanded-else-has_unhanded.ensures ∙ ap (λ b. b || has_unhanded pair.update es) (sym own) ∙ whole pair _ es c.pair_of-pair.ensures
