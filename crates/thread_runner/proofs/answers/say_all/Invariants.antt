use Rattle.std.proofs.Common.{◌≡◌, ◌++◌, length}
use Rattle.thread_runner.specs.Answers.{answers_in}
use Rattle.thread_runner.specs.Writing.{AllSaid}
use Rattle.thread_runner.proofs.answers.say_all.Given as goal

abbrev pub invariant-loop-deed : goal.invariant-loop-deed
invariant-loop-deed l = record {
  said : l.all.items ++ answers_in l.lines l.deeds.items ≡ answers_in l.lines l.fn.deeds.items;
  whole : AllSaid l.deeds.items → AllSaid l.fn.deeds.items;
}

abbrev pub decreases-loop-deed : goal.decreases-loop-deed
decreases-loop-deed l = length l.deeds.items
