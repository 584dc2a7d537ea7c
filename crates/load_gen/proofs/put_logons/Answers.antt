use Rattle.std.proofs.Common.{◌++◌, sym, ap, ◌∙◌, string_bytes}
use Rattle.load_gen.proofs.Scripts.{logons_text}
use Rattle.load_gen.proofs.put_logons.Goals as goal

pub returns : goal.returns
returns c = c.in_ok-push_str.ensures.bytes ∙ ap (λ t. string_bytes c.args.text.now ++ t) (sym logons_text)
