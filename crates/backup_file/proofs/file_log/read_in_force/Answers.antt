use Rattle.std.proofs.Common.{inl, inr, refl, ap, subst}
use Rattle.backup_file.specs.declared.places.Slot.{Slot}
use Rattle.backup_file.specs.File.{IsOutside}
use Rattle.backup_file.proofs.file_log.read_in_force.Goals as goal

pub returns-in_default-clause-bad : goal.returns-in_default-clause-bad
returns-in_default-clause-bad c = inr
    (record {
      gate = c.args.gate;
      slots = c.args.slots.now;
      has = c.requires.has;
      ends = inl (c.in_default.ensures.none, refl);
    })

pub returns-then-is_outside-clause-bad : goal.returns-then-is_outside-clause-bad
returns-then-is_outside-clause-bad c =
    let start = ap (λ (x : Slot). x.start) c.slot_in-start.ensures in
    inr
    (record {
      gate = c.args.gate;
      slots = c.args.slots.now;
      has = c.requires.has;
      ends = inr (
        c.in-Some.which,
        c.in-Some.ensures.some,
        inl (subst (IsOutside c.args.bytes.now c.args.gate) start (c.is_outside.ensures.outside c.if-is_outside.true), c.slot_at.ensures),
      );
    })
