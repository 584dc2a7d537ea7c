use Rattle.std.proofs.Common.{◌≡◌, ◌-◌, List, [], ◌∷◌, ◌++◌, length, reverse, take, ap, sym, ◌∙◌, arith, append_assoc, append-nil, length-append}
use Rattle.std.specs.List.{fold}
use Rattle.backup_file.specs.Lists.{after, is_known}
use Rattle.backup_file.specs.declared.handed.Record.{Record}
use Rattle.backup_file.proofs.ReadBack.{hands_stand}
use Rattle.backup_file.proofs.lists.lists_of.Goals as goal

pub loop-step-init : goal.loop-step-init
loop-step-init c = record {
  later = [];
  whole = sym (append-nil c.args.records.items);
  touched = λ u. ap (is_known u) c.new-seen.ensures.empty;
  listed = ap reverse c.new-lists.ensures.items;
}

pub loop-step-preserved : goal.loop-step-preserved
loop-step-preserved c =
    let back = c.loop-step.invariant in
    let step : Record = c.in-Some.step in
    let left : List Record = c.pop.new.self.items in
    let was : c.loop-step.records.items ≡ left ++ step ∷ [] = c.in-Some.ensures.items in
    let more = c.in_ok-read_back.ensures back.later back.touched back.listed in
    record {
      later = step ∷ back.later;
      whole = back.whole ∙ ap (λ rs. rs ++ back.later) was ∙ append_assoc left (step ∷ []) back.later;
      touched = more.0;
      listed = more.1;
    }

pub loop-step-smaller : goal.loop-step-smaller
loop-step-smaller c =
    let step : Record = c.in-Some.step in
    let left : List Record = c.pop.new.self.items in
    let was : c.loop-step.records.items ≡ left ++ step ∷ [] = c.in-Some.ensures.items in
    omega (arith, ap length was, length-append left (step ∷ []))

pub returns : goal.returns
returns c =
    let back = c.loop-step.invariant in
    let h = c.in_default.ensures in
    let none : c.loop-step.records.items ≡ [] = h.items ∙ ap (λ rs. rs ++ []) (h.rest ∙ ap (λ n. take (n - 1) c.loop-step.records.items) h.cases.0) in
    c.reverse.ensures.items ∙ back.listed ∙ sym (hands_stand back.later) ∙ ap (fold after []) (sym (back.whole ∙ ap (λ rs. rs ++ back.later) none))
