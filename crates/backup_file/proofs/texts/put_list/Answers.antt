use Rattle.std.proofs.Common.{◌≡◌, ℕ, ◌++◌, List, ap, ◌∙◌}
use Rattle.gate_log.specs.Logs.{opened}
use Rattle.backup_file.specs.declared.handed.Handed.{Handed}
use Rattle.backup_file.specs.declared.handed.Record.TheVariants.{Hand}
use Rattle.backup_file.specs.File.{log_grammar}
use Rattle.backup_file.specs.Handing.{handed_of}
use Rattle.backup_file.proofs.Compacts.{handable_again, handed_again}
use Rattle.backup_file.proofs.texts.put_list.Goals as goal

pub hand_record-requires : goal.hand_record-requires
hand_record-requires c = rw c.as_slice.ensures (handable_again c.args.handed.now c.requires)

pub returns : goal.returns
returns c =
    let h : Handed = c.args.handed.now in
    let same : handed_of h.unit c.as_slice.result.now ≡ h = ap (λ es. handed_of h.unit es) c.as_slice.ensures ∙ handed_again h c.requires in
    c.in_ok-extend_from_slice.ensures.items
    ∙ ap (λ (b : List ℕ). c.args.out.now.items ++ b)
    (c.deref.ensures.value ∙ c.in_ok-text.ensures.spelled ∙ ap (λ (k : Handed). opened log_grammar (Hand k)) same)
