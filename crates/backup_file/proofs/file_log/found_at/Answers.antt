use Rattle.std.proofs.Common.{length, ap, subst, sym, ◌∙◌}
use Rattle.std.specs.List.{All}
use Rattle.backup_file.specs.Handing.{IsList}
use Rattle.backup_file.specs.Lists.{AreUnits}
use Rattle.backup_file.specs.ReadLogs.{IsReadAs}
use Rattle.backup_file.proofs.Sizes.{vec_size}
use Rattle.backup_file.proofs.file_log.found_at.Goals as goal

pub returns-in-Ok-clause-read : goal.returns-in-Ok-clause-read
returns-in-Ok-clause-read c =
    subst (λ l. IsReadAs c.args.bytes.now c.args.place c.args.gate c.are_as_many-compact.result l) (sym c.in-Ok.ensures)
    (c.requires.read c.are_as_many-compact.result
    (λ told. ap length (sym c.in-Ok.ensures) ∙ c.are_as_many-compact.ensures.as_many told ∙ c.len-count.ensures ∙ vec_size c.args.so_far.records)
    (λ off same. c.are_as_many-compact.ensures.others off
    (ap length c.in-Ok.ensures ∙ same ∙ sym (c.len-count.ensures ∙ vec_size c.args.so_far.records))))

pub returns-in-Ok-clause-units : goal.returns-in-Ok-clause-units
returns-in-Ok-clause-units c = subst (AreUnits c.args.so_far.units.keys) (sym c.in-Ok.ensures) c.requires.units

pub returns-in-Ok-clause-lists : goal.returns-in-Ok-clause-lists
returns-in-Ok-clause-lists c = subst (All IsList) (sym c.in-Ok.ensures) c.requires.lists
