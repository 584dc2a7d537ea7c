use Rattle.std.proofs.Common.{sym, ◌∙◌, subst}
use Rattle.cover_cmd.specs.Covering.{Covers}
use Rattle.enq_cmd.proofs.SafeScripts.{safe_told}
use Rattle.enq_cmd.proofs.covering.cover_site.Goals as goal

pub returns-clause-safe : goal.returns-clause-safe
returns-clause-safe g c done document told land gives bytes source before was is =
    safe_told _ _ _ _ _ _ _ _ _ _ _ document bytes before land c.covered_are_safe.ensures.safe told gives source was is
    (subst (Covers _ _ _ _ _ _ _ _ _ _ _) (sym c.left_alone.ensures.why ∙ done) c.write_cover-why.ensures.covered)
