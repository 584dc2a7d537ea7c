use Rattle.std.proofs.Common.{rules, arith}
use Rattle.std.proofs.lemmas.Grind.{common_steps}
use Rattle.enq_base.specs.Number.{number_of}
use Rattle.enq_base.proofs.lemmas.Numbers.{parsed_number, numeral_utf8}
use Rattle.enq_base.proofs.number.number_in.Goals as goal

pub returns-then-not-is_numeral : goal.returns-then-not-is_numeral
unfolding number_of
returns-then-not-is_numeral c = search rules

pub returns-in_err-ok : goal.returns-in_err-ok
returns-in_err-ok c = let u = numeral_utf8 c.args.text.now (search rules) in grind (arith, common_steps)

pub returns : goal.returns
returns c = let p = parsed_number c.args.text.now c.parse.result (search rules) in grind (arith, common_steps, p)
