use Rattle.std.proofs.Common.{sym}
use Rattle.script_runner.specs.declared.preparing.Prepared.TheVariants.{Changed}
use Rattle.script_actors.proofs.LineSteps.{followed_kept, followed_settled, may_follow}
use Rattle.script_actors.proofs.actor.follow.Goals as goal

pub returns-then-keeps_side : goal.returns-then-keeps_side
returns-then-keeps_side c = followed_kept c.args.line.now c.args.reply.now c.args.sides.now.items (sym c.if-keeps_side.ensures)

pub settle-requires : goal.settle-requires
settle-requires c = may_follow c.args.line.now c.args.reply.now Changed c.args.sides.now c.requires (sym c.if-keeps_side.ensures)

pub returns : goal.returns
returns c = followed_settled c.args.line.now c.args.reply.now c.args.sides.now.items c.settle.new.sides.items (sym c.if-keeps_side.ensures) c.settle.ensures
