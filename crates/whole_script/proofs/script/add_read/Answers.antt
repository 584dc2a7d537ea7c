use Rattle.std.proofs.Common.{ap, refl, sym, ◌∙◌}
use Rattle.whole_script.specs.Lines.{is_blank}
use Rattle.whole_script.proofs.Adding.{adds_blank, adds_line, not_noted}
use Rattle.whole_script.proofs.script.add_read.Goals as goal

pub returns-then-is_blank : goal.returns-then-is_blank
returns-then-is_blank c = record {
  adds = adds_blank c.args.number c.args.line c.args.script.now
      (sym (ap (λ d. is_blank d) c.doer_of-doer.ensures) ∙ sym c.is_blank.ensures ∙ c.if-is_blank.true);
}

pub returns-in-Err : goal.returns-in-Err
returns-in-Err c = record {
  adds = not_noted c.args.number c.args.line c.doer_of-doer.result c.args.script.now c.in-Err.why c.doer_of-doer.ensures c.in-Err.ensures.notes;
}

pub returns-in-Ok : goal.returns-in-Ok
returns-in-Ok c = record {
  adds = adds_line c.args.number c.args.line c.doer_of-doer.result c.args.script.now _ c.note_doer.new.names.items c.doer_of-doer.ensures
      (sym c.is_blank.ensures ∙ c.if-is_blank.false) c.requires.part c.in_default.ensures.notes refl c.in-Ok.ensures;
}
