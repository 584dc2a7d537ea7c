use Rattle.std.proofs.Common.{arith, length-append}
use Rattle.script_runner.proofs.Spaces.{word_fits, word_more, word_step}
use Rattle.script_runner.proofs.words.push_words.Goals as goal

pub push_word-requires : goal.push_word-requires
push_word-requires c =
    word_fits _ _ _ _ (word_step _ _ _ c.args.words.now c.loop-word.word-index _ c.loop-word-test.true c.loop-word.invariant)
    (omega (arith, length-append c.args.text.now.items, c.requires))

pub loop-word-preserved : goal.loop-word-preserved
loop-word-preserved c =
    word_more _ _ _ _ _ c.push_word.ensures (word_step _ _ _ c.args.words.now c.loop-word.word-index _ c.loop-word-test.true c.loop-word.invariant)
