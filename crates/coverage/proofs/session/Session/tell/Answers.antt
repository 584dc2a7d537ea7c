use Rattle.std.proofs.Common.{◌≡◌, ◌∙◌, Bool, true, List, ap, cond, sym}
use Rattle.coverage.specs.declared.tally.Tally.{Tally}
use Rattle.coverage.specs.Lacks.{commits}
use Rattle.coverage.specs.Tallies.{told_tallies, watches_of}
use Rattle.coverage.specs.Walked.{SessionView, told, told_on}
use Rattle.coverage.proofs.Tallied.{told_right}
use Rattle.coverage.proofs.session.Session.tell.Goals as goal

pub returns-then-commits : goal.returns-then-commits
returns-then-commits c =
    let st = c.self.inside.holding in
    let ts = c.self.inside.tallies.items in
    let l = c.args.line.now in
    let found = c.args.found.now.items in
    let yes : commits st l ≡ true = sym c.commits.ensures ∙ c.if-commits.true in
    c.tell_all.ensures
    ∙ ap (λ (xs : List Tally). told_tallies xs found) c.as_slice.ensures.value
    ∙ told_right st ts found c.self.invariant
    ∙ ap (λ (b : Bool). cond b (told st.held (watches_of ts) found) found) (sym yes)
    ∙ ap (λ (v : SessionView). told_on v l found) c.self.view_is
