use Rattle.std.proofs.Common.{◌≡◌, ◌∙◌, ap, sym}
use Rattle.lock_entry.specs.Argument.{meets}
use Rattle.lock_index.proofs.Candidates.{meets-refl}
use Rattle.lock_index.proofs.search.patterns_meet.Goals as goal

pub returns-then-is : goal.returns-then-is
returns-then-is c =
    let same : c.args.a.now ≡ c.args.b.now = c.is.ensures.0 c.if-is.true in
    c.if-is.true ∙ sym (ap (λ p. meets p c.args.b.now) same ∙ meets-refl c.args.b.now)
