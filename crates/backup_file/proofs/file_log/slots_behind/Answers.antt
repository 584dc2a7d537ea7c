use Rattle.std.proofs.Common.{◌≡◌, ℕ, List, drop, ap, subst, sym, ◌∙◌}
use Rattle.std.proofs.lemmas.Option.{IfSome_then}
use Rattle.backup_file.specs.Slots.{AreSlots}
use Rattle.backup_file.proofs.SlotBytes.{none_then}
use Rattle.backup_file.proofs.file_log.slots_behind.Goals as goal

pub returns-clause-some : goal.returns-clause-some
returns-clause-some c = IfSome_then c.slots_of.result c.slots_of.ensures.some (λ s at. (c.in-Some.behind.now, c.in-Some.ensures.open_gate, at))

pub returns-clause-none : goal.returns-clause-none
returns-clause-none c = none_then c.slots_of.result c.slots_of.ensures.none (λ none s there.
    let same : there.0 ≡ c.in-Some.behind.now = ap (λ (b : List ℕ). drop 1 b) (sym there.1 ∙ c.in-Some.ensures.open_gate) in
    none s (subst (λ b. AreSlots b s) same there.2))
