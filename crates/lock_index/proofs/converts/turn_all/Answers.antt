use Rattle.std.proofs.Common.{◌≡◌, ◌≤◌, ◌+◌, ◌++◌, [], ◌∷◌, List, length, take, refl, sym, ap, ◌∙◌, arith}
use Rattle.std.proofs.lemmas.Bool.{and_right}
use Rattle.std.proofs.lemmas.List.{take_all, take_more}
use Rattle.lock_entry.specs.declared.entry.Asked.{Asked}
use Rattle.lock_entry.specs.declared.entry.Entry.{Entry}
use Rattle.lock_entry.specs.Pairs.{in_pair}
use Rattle.lock_entry.specs.Turning.{turned, is_at}
use Rattle.lock_entry.specs.Converting.{turns}
use Rattle.lock_laws.proofs.TurnTests.{turned-push, turned-nothing}
use Rattle.lock_index.specs.Slots.{live}
use Rattle.lock_index.proofs.converts.turn_all.Goals as goal

pub loop-a-init : goal.loop-a-init
loop-a-init c = record {
  turned = sym (turned-nothing (turns c.args.asker.now []) (λ e. and_right (in_pair c.args.asker.now e.owner) _ refl) (live c.args.shelf.now));
  distinct = c.requires;
}

pub loop-a-preserved : goal.loop-a-preserved
loop-a-preserved c =
    let es = live c.args.shelf.now in
    let asker = c.args.asker.now in
    let i = c.loop-a.a-index in
    let a = c.a-item.result in
    let longer : take i c.args.asked.now ++ a ∷ [] ≡ take (i + 1) c.args.asked.now =
    sym (take_more c.args.asked.now i a c.loop-a-test.true ∙ ap (λ (k : Asked). take i c.args.asked.now ++ k ∷ []) (sym c.a-item.is)) in
    record {
      turned =
          c.turn-in-loop-a.ensures.turned
          ∙ ap (λ (xs : List Entry). turned xs (is_at asker.update a.table a.pattern))
          (c.turn.ensures.turned ∙ ap (λ (xs : List Entry). turned xs (is_at asker.dialogue a.table a.pattern)) c.loop-a.invariant.turned)
          ∙ turned-push es asker (take i c.args.asked.now) a
          ∙ ap (λ ks. turned es (turns asker ks)) longer;
      distinct = c.turn-in-loop-a.ensures.distinct;
    }

pub returns : goal.returns
returns c =
    let all : length c.args.asked.now ≤ c.loop-a.a-index = omega arith in
    c.loop-a.invariant.turned ∙ ap (λ ks. turned (live c.args.shelf.now) (turns c.args.asker.now ks)) (take_all c.loop-a.a-index c.args.asked.now all)
