use Rattle.std.proofs.Common.{◌≡◌, ◌++◌, Some, take}
use Rattle.thread_runner.specs.Answers.{full_said}
use Rattle.thread_runner.proofs.answers.say_full.Given as goal

abbrev pub invariant-loop-numbered : goal.invariant-loop-numbered
invariant-loop-numbered l = l.all.items ≡ l.initial.all.items ++ full_said (take l.numbered-index l.lines) l.who (Some l.full_at)
