use Rattle.lock_entry.proofs.lemmas.Naming.{is_bytes_eq}
use Rattle.lock_objects.proofs.names.is_name.Goals as goal

pub returns : goal.returns
returns c = is_bytes_eq c.is.result c.args.a.now c.args.b.now c.is.ensures
