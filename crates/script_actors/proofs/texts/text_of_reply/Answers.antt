use Rattle.script_actors.specs.Texts.{reply_text}
use Rattle.script_actors.proofs.ReplyTexts.{copied, none_fits, written_reply}
use Rattle.script_actors.proofs.texts.text_of_reply.Goals as goal

pub push_reply-requires : goal.push_reply-requires
push_reply-requires c = none_fits c.new-text.result.items c.new-text.ensures

pub returns : goal.returns
returns c =
    copied c.copy_of.result c.behind_space.result.now (reply_text c.args.reply.now) c.copy_of.ensures
    (c.behind_space.ensures (reply_text c.args.reply.now)
    (written_reply c.new-text.result.items c.push_reply.new.text.items c.as_slice.result.now c.args.reply.now c.new-text.ensures c.push_reply.ensures.text
    c.as_slice.ensures.value))
