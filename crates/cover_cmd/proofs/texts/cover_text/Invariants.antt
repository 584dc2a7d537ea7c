use Rattle.std.proofs.Common.{◌≡◌, take}
use Rattle.std.specs.List.{flat_map}
use Rattle.cover_cmd.specs.Texts.{lack_line}
use Rattle.cover_cmd.proofs.texts.cover_text.Given as goal

abbrev pub invariant-loop-lack : goal.invariant-loop-lack
invariant-loop-lack l = l.text.items ≡ flat_map lack_line (take l.lack-index l.lacks)
