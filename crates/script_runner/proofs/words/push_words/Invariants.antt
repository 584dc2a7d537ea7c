use Rattle.std.proofs.Common.{◌≡◌, ◌++◌, drop, map}
use Rattle.script_runner.specs.Texts.{spaced}
use Rattle.script_runner.proofs.words.push_words.Given as goal

abbrev pub invariant-loop-word : goal.invariant-loop-word
invariant-loop-word l =
    l.text.items ++ spaced (map (λ word. word.now) (drop l.word-index l.words)) ≡ l.initial.text.items ++ spaced (map (λ word. word.now) l.words)
