use Rattle.std.proofs.Common.{rules}
use Rattle.whole_script.proofs.Adding.{notes_full, notes_known, notes_new}
use Rattle.whole_script.proofs.script.note_name.Goals as goal

pub returns-then-is_among : goal.returns-then-is_among
returns-then-is_among c = record { notes = notes_known c.args.number c.args.name.now c.args.names.now.items (search rules) }

pub returns-then-len-ge-NAMES : goal.returns-then-len-ge-NAMES
returns-then-len-ge-NAMES c = record { notes = notes_full c.args.number c.args.name.now c.args.names.now.items (search rules) (search rules) }

pub returns-in-Ok : goal.returns-in-Ok
returns-in-Ok c = record { notes = notes_new c.args.number c.args.name.now c.args.names.now.items _ (search rules) (search rules) c.in-Ok.ensures.items }
