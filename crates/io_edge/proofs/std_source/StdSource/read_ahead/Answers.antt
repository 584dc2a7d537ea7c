use Rattle.std.proofs.Common.{ap, ◌∙◌, length, take, arith}
use Rattle.std.proofs.lemmas.List.{length-drop, length-take}
use Rattle.io_edge.proofs.std_source.StdSource.read_ahead.Goals as goal

pub returns-then-self-clause-end : goal.returns-then-self-clause-end
returns-then-self-clause-end g c =
    let s = c.self.inside in
    let ahead = ap (λ v. length v.ahead) c.self.view_is in
    let left = length-drop s.start (take s.end s.buffer) in
    let filled = length-take s.end s.buffer in
    λ none. absurd (omega (arith, c.self.ranges, c.self.told, ahead ∙ ap length none, left, filled))
