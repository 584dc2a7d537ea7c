use Rattle.std.proofs.Common.{ℕ, arith, subst, ◌∙◌}
use Rattle.backup_file.specs.Compacting.{IsFree}
use Rattle.backup_file.proofs.Planned.{compact_leads, done_compact, done_last, gate_low, not_done, slots_low}
use Rattle.backup_file.proofs.Sizes.{vec_few, vec_size}
use Rattle.backup_file.proofs.plan.plan_at.Goals as goal

pub returns-then-compact-clause-none : goal.returns-then-compact-clause-none
returns-then-compact-clause-none c =
    done_compact c.args.place.now c.args.bytes.now c.args.gate c.args.compact c.args.lists.now c.requires.read c.if-compact.true

pub returns-then-is_last-clause-none : goal.returns-then-is_last-clause-none
returns-then-is_last-clause-none c =
    done_last c.args.place.now c.args.bytes.now c.args.gate c.args.compact c.args.lists.now c.requires.read (c.is_last.ensures.last c.if-is_last.true)

pub place_for-at-requires-clause-slots : goal.place_for-at-requires-clause-slots
place_for-at-requires-clause-slots c = omega
    (arith, slots_low c.args.place.now c.args.bytes.now c.args.gate c.args.compact c.args.lists.now c.requires.read, c.requires.short)

pub place_for-at-requires-clause-few : goal.place_for-at-requires-clause-few
place_for-at-requires-clause-few c = omega
    (arith, gate_low c.args.place.now c.args.bytes.now c.args.gate c.args.compact c.args.lists.now c.requires.read, c.requires.short)

pub place_for-at-requires-clause-small : goal.place_for-at-requires-clause-small
place_for-at-requires-clause-small c = omega (arith, c.len-size.ensures, vec_size c.in_ok-text.text, vec_few c.in_ok-text.text)

pub returns-clause-some : goal.returns-clause-some
returns-clause-some c =
    let is = c.requires.read in
    record {
      lists = c.args.lists.now;
      front = is.front;
      is_front = is.is_front;
      shut = is.shut;
      place = is.place;
      text = c.in_ok-text.ensures;
      leads = compact_leads c.args.place.now c.args.bytes.now c.args.gate c.args.compact c.args.lists.now is c.requires.lists;
      carried = record {
        low = omega (arith, slots_low c.args.place.now c.args.bytes.now c.args.gate c.args.compact c.args.lists.now is, c.requires.short);
        young = c.is_last.ensures.young c.if-is_last.false;
        free = subst (λ (n : ℕ). IsFree c.args.place.now c.args.gate c.place_for-at.result n)
            (c.len-size.ensures ∙ vec_size c.in_ok-text.text) c.place_for-at.ensures.free;
        short = omega (arith, c.place_for-at.ensures.short, c.len-size.ensures, vec_size c.in_ok-text.text);
      };
      needed = not_done c.args.place.now c.args.bytes.now c.args.gate c.args.compact c.args.lists.now is c.if-compact.false
          (c.is_last.ensures.young c.if-is_last.false);
      fits = omega (arith, gate_low c.args.place.now c.args.bytes.now c.args.gate c.args.compact c.args.lists.now is, c.requires.short);
    }
