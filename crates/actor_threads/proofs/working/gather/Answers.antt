use Rattle.std.proofs.Common.{rules, List, refl, sym, ap, ◌≡◌, ◌+◌, ◌++◌, ◌∷◌, [], ◌∙◌, arith, subst, length, map, append-nil, length-append}
use Rattle.std.specs.List.{AllByRecursion}
use Rattle.std.proofs.lemmas.List.{map-append}
use Rattle.std.proofs.lemmas.List.Sorted.{IsPermutation-refl}
use mathlib.Core.List.{IsPrefix}
use Rattle.hall_model.specs.declared.command.PastEntry.{PastEntry}
use Rattle.turn_lock.specs.declared.view.View.{View}
use Rattle.gauges.specs.declared.board.GaugePass.{GaugePass}
use Rattle.turn_lock.specs.Passes.{known}
use Rattle.turn_lock.specs.Rule.{own_entries}
use Rattle.turn_desks.specs.Watching.{IsReaderAt}
use Rattle.turn_desks.proofs.lemmas.Places.{all_more}
use Rattle.actor_threads.specs.Working.{AreDeeds}
use Rattle.actor_threads.specs.declared.actor.Actor.{Actor}
use Rattle.actor_threads.specs.declared.actor.Deed.{Deed}
use Rattle.actor_threads.proofs.Gathered.{AllSeen, all_stand, moved_last, moved_over, no_seats, seats_pushed, seen_later}
use Rattle.actor_threads.proofs.working.gather.Goals as goal

pub loop-actor-init : goal.loop-actor-init
loop-actor-init g c = record {
  own = c.requires.own;
  parts = refl;
  entries = IsPermutation-refl _;
  joined = ([], sym (append-nil _), tt, c.requires.none.0);
  room = omega (arith, ap length c.requires.none.0, c.requires.room.0);
  glances = ap (map (λ (d : Deed). d.glanced.value)) c.requires.none.0 ∙ sym c.requires.none.1;
  readers = subst (AllByRecursion (IsReaderAt g.N.LockName.board)) (sym c.requires.none.1) tt;
  place = omega (arith, ap length c.requires.none.1, c.requires.room.1);
  seats = no_seats g.S.Serving.stocks _ _ c.requires.none.0 c.requires.none.2;
  space = omega (arith, ap length c.requires.none.2, c.requires.room.2);
}

pub join-pass-requires : goal.join-pass-requires
join-pass-requires g c =
    record { own = (c.loop-actor.invariant.own, ap (λ p. p.seat.table_id) c.retire-retired.ensures.pass ∙ (c.in-Some.actor.desk.caller.own ∙ sym c.requires.lock)) }

pub loop-actor-preserved : goal.loop-actor-preserved
loop-actor-preserved g c =
    let X : Type 0 = Actor g.row.N.Denot g.row.S.Denot g.row.R.Denot g.row.G.Denot g.N.LockName g.S.Serving g.S.History in
    let actor : X = c.in-Some.actor in
    let rest : List X = c.pop.new.self.items in
    let was : c.loop-actor.actors.items ≡ rest ++ actor ∷ [] = c.in-Some.ensures.items in
    let inv = c.loop-actor.invariant in
    let out = c.retire-retired.ensures.pass in
    let join = c.join-pass.ensures in
    let view : (known c.join-pass.result).parts ≡ (known c.loop-actor.pass).parts + (known c.retire-retired.result.pass).parts =
    ap (λ (v : View PastEntry). v.parts) join.both in
    let one : (known c.retire-retired.result.pass).parts ≡ 1 = ap (λ p. (known p).parts) out ∙ actor.desk.caller.one in
    let long : length c.loop-actor.actors.items ≡ length rest + 1 = ap length was ∙ length-append rest (actor ∷ []) in
    let so_far = inv.parts in
    let deed : Deed = c.retire-retired.result.deed in
    let glance : GaugePass = c.retire-retired.result.glance in
    let glanced : Deed → GaugePass = λ d. d.glanced.value in
    record {
      own = join.own;
      parts = omega arith;
      entries = moved_over _ _ _ rest c.loop-actor.actors.items actor was
          (join.entries ∙ ap (λ p. own_entries (known c.loop-actor.pass) ++ own_entries (known p)) out) inv.entries;
      joined = (
        actor ∷ inv.joined.0,
        moved_last _ rest _ inv.joined.0 actor inv.joined.1 was,
        (subst (λ p. IsPrefix (known p).seen (known c.join-pass.result).seen) out join.begins.1, seen_later _ _ inv.joined.0 join.begins.0 inv.joined.2),
        (c.loop-actor.left.deeds.items, deed, c.push_reserved.ensures.items, c.retire-retired.ensures.deed, inv.joined.3),
      );
      room = omega (
        arith,
        long,
        c.push_reserved.ensures.capacity,
        ap length c.push_reserved.ensures.items,
        length-append c.loop-actor.left.deeds.items (deed ∷ []),
        inv.room,
      );
      glances =
          ap (map glanced) c.push_reserved.ensures.items ∙ map-append glanced c.loop-actor.left.deeds.items (deed ∷ [])
          ∙ (λ i. inv.glances i ++ c.retire-retired.ensures.glance i ∷ []) ∙ sym c.push_reserved-in-Some.ensures.items;
      readers =
          subst (AllByRecursion (IsReaderAt g.N.LockName.board)) (sym c.push_reserved-in-Some.ensures.items)
          (all_more (IsReaderAt g.N.LockName.board) c.loop-actor.left.glances.items (glance ∷ []) inv.readers (c.retire-retired.ensures.own, tt));
      place = omega (
        arith,
        long,
        c.push_reserved-in-Some.ensures.capacity,
        ap length c.push_reserved-in-Some.ensures.items,
        length-append c.loop-actor.left.glances.items (glance ∷ []),
        inv.place,
      );
      seats = seats_pushed g.S.Serving.stocks _ _ c.loop-actor.left.deeds.items c.loop-actor.left.seats.items deed c.retire-retired.result.seats
          c.push_reserved.ensures.items c.push_reserved-in-Some-2.ensures.items inv.seats c.retire-retired.ensures.seats;
      space = omega (
        arith,
        long,
        c.push_reserved-in-Some-2.ensures.capacity,
        ap length c.push_reserved-in-Some-2.ensures.items,
        length-append c.loop-actor.left.seats.items (c.retire-retired.result.seats ∷ []),
        inv.space,
      );
    }

pub returns-clause-seen : goal.returns-clause-seen
returns-clause-seen g c =
    let inv = c.loop-actor.invariant in
    let none : c.loop-actor.actors.items ≡ [] = search rules in
    let all : c.args.actors.items ≡ inv.joined.0 = inv.joined.1 ∙ ap (λ l. l ++ inv.joined.0) none in
    subst (AllSeen (known c.loop-actor.pass).seen) (sym all) inv.joined.2

pub returns-clause-deeds : goal.returns-clause-deeds
returns-clause-deeds g c =
    let inv = c.loop-actor.invariant in
    let none : c.loop-actor.actors.items ≡ [] = search rules in
    let all : c.args.actors.items ≡ inv.joined.0 = inv.joined.1 ∙ ap (λ l. l ++ inv.joined.0) none in
    subst (λ l. AreDeeds l c.loop-actor.left.deeds.items) (sym all) inv.joined.3

pub returns-clause-stand : goal.returns-clause-stand
returns-clause-stand g c = all_stand c.args.actors.items
