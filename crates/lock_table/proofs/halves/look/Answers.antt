use Rattle.std.proofs.Common.{◌≡◌, ◌+◌, ℕ, cond, take, Option, Some, None, true, false, sym, ap, ◌∙◌}
use Rattle.std.specs.List.{find, position}
use Rattle.std.specs.Option.{option_or}
use Rattle.lock_entry.specs.declared.entry.Entry.{Entry}
use Rattle.lock_entry.specs.declared.entry.LockName.{LockName}
use Rattle.lock_entry.specs.Names.{has_name}
use Rattle.lock_entry.specs.Barring.{bars}
use Rattle.lock_entry.proofs.lemmas.Places.{position-more, find-more, find-front}
use Rattle.lock_table.proofs.halves.look.Goals as goal

pub loop-i-preserved : goal.loop-i-preserved
loop-i-preserved c =
    let es = c.args.entries.now in
    let i = c.loop-i.i in
    let e = c.index-entries-i.result in
    let dialogue : LockName = record { owner = c.args.asker.now.dialogue; asked = c.args.asked.now } in
    let update : LockName = record { owner = c.args.asker.now.update; asked = c.args.asked.now } in
    let p = bars c.args.asker.now c.args.asked.now in
    let calm : p e ≡ false = sym c.bars.ensures.test ∙ c.if-bars.false in
    record {
      free =
          find-more p es i e c.loop-i-test.true c.index-entries-i.is
          ∙ ap (λ b. option_or (find p (take i es)) (cond b (Some e) None)) calm
          ∙ ap (λ (o : Option Entry). option_or o None) c.loop-i.invariant.free;
      dialogue_at =
          c.earlier-places.ensures
          ∙ ap (λ b. option_or c.loop-i.places.dialogue (cond b (Some i) None)) c.has_name.ensures
          ∙ ap (λ (o : Option ℕ). option_or o (cond (has_name dialogue e) (Some i) None)) c.loop-i.invariant.dialogue_at
          ∙ sym (position-more (has_name dialogue) es i e c.loop-i-test.true c.index-entries-i.is);
      update_at =
          c.earlier-places-in-loop-i.ensures
          ∙ ap (λ b. option_or c.loop-i.places.update (cond b (Some i) None)) c.has_name-in-loop-i.ensures
          ∙ ap (λ (o : Option ℕ). option_or o (cond (has_name update e) (Some i) None)) c.loop-i.invariant.update_at
          ∙ sym (position-more (has_name update) es i e c.loop-i-test.true c.index-entries-i.is);
    }

pub returns-then-bars-clause-barred : goal.returns-then-bars-clause-barred
returns-then-bars-clause-barred c =
    let es = c.args.entries.now in
    let i = c.loop-i.i in
    let e = c.index-entries-i.result in
    let p = bars c.args.asker.now c.args.asked.now in
    let bar : p e ≡ true = sym c.bars.ensures.test ∙ c.if-bars.true in
    find-front p es (i + 1) e
    (find-more p es i e c.loop-i-test.true c.index-entries-i.is
    ∙ ap (λ b. option_or (find p (take i es)) (cond b (Some e) None)) bar
    ∙ ap (λ (o : Option Entry). option_or o (Some e)) c.loop-i.invariant.free)
