-- The text of a reply by itself.
use Rattle.std.specs.Prelude.{ℕ, List}
use Rattle.std.specs.List.{join_with_byte}
use Rattle.hall_model.specs.declared.command.Reply.{Reply}
use Rattle.script_runner.specs.Texts.{reply_words}

-- its words with a space between
abbrev pub reply_text : Reply → List ℕ
reply_text r = join_with_byte 32 (reply_words r)
