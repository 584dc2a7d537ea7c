use Rattle.std.proofs.Common.{rules}
use Rattle.toml.specs.View.{view}
use Rattle.landscape.specs.Seen.{seen_parts}
use Rattle.landscape.proofs.Widths.{widths_of}
use Rattle.landscape.proofs.object.read_object.Goals as goal

pub new-requires : goal.new-requires
new-requires c = let p = c.in_ok-name.field-0 in widths_of (view c.args.value.now) (seen_parts p) (search rules)
