use Rattle.script_runner.specs.World.{setting}
use Rattle.script_runner.proofs.Filled.{effect_changes, effect_declined, effect_too_much}
use Rattle.script_runner.proofs.preparing.effect.Goals as goal

pub returns-in-Err : goal.returns-in-Err
returns-in-Err c = λ objects.
    effect_declined (setting objects c.args.sides.now.items) c.args.session c.args.part c.args.verb c.args.table c.args.key.now c.args.text.now
    c.in-Some.side.now.side c.in-Err.refusal c.requires.nothing c.in-Some.ensures c.in-Err.ensures

pub returns-in-Ok-register : goal.returns-in-Ok-register
returns-in-Ok-register c = λ objects.
    effect_changes (setting objects c.args.sides.now.items) c.args.session c.args.part c.args.verb c.args.table c.args.key.now c.args.text.now
    c.in-Some.side.now.side c.in-Ok.effect c.requires.nothing c.in-Some.ensures c.in-Ok.ensures c.register.new.self.items c.in-Ok-register.ensures.given

pub returns-in-Err-register : goal.returns-in-Err-register
returns-in-Err-register c = λ objects.
    effect_too_much (setting objects c.args.sides.now.items) c.args.session c.args.part c.args.verb c.args.table c.args.key.now c.args.text.now
    c.in-Some.side.now.side c.in-Ok.effect c.requires.nothing c.in-Some.ensures c.in-Ok.ensures c.register.new.self.items c.in-Err-register.refusal
    c.in-Err-register.ensures.given c.in-Err-register.ensures.unchanged
