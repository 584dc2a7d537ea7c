use Rattle.std.proofs.Common.{rules, refl, sym, ap, ◌≡◌, ◌++◌, ◌∷◌, [], ◌∙◌, List, append-nil, append_assoc, subst}
use Rattle.std.specs.List.{AllByRecursion}
use Rattle.gauges.specs.Boards.{seen, told, IsReaderOf}
use Rattle.gauges.specs.declared.board.GaugePass.{GaugePass}
use Rattle.turn_desks.specs.Watching.{StandIn}
use Rattle.turn_desks.proofs.lemmas.Places.{all_front, all_last}
use Rattle.turn_desks.proofs.shown_hall.join_all.Goals as goal

pub loop-pass-init : goal.loop-pass-init
loop-pass-init c = record { own = c.requires.own; same = refl; readers = c.requires.readers; joined = ([], sym (append-nil _), tt) }

pub join-requires : goal.join-requires
join-requires c = record {
  own = (
    c.loop-pass.invariant.own,
    all_last (IsReaderOf c.args.gauges.now) c.pop.new.self.items c.in-Some.pass
        (subst (AllByRecursion (IsReaderOf c.args.gauges.now)) c.in-Some.ensures.items c.loop-pass.invariant.readers),
  );
}

pub loop-pass-preserved : goal.loop-pass-preserved
loop-pass-preserved c =
    let rest : List GaugePass = c.pop.new.self.items in
    let pass : GaugePass = c.in-Some.pass in
    let was : c.loop-pass.passes.items ≡ rest ++ pass ∷ [] = c.in-Some.ensures.items in
    let inv = c.loop-pass.invariant in
    let join = c.join.ensures in
    record {
      own = join.own;
      same = join.told.0 ∙ inv.same;
      readers =
          all_front (IsReaderOf c.args.gauges.now) rest (pass ∷ [])
          (subst (AllByRecursion (IsReaderOf c.args.gauges.now)) was inv.readers);
      joined = (
        pass ∷ inv.joined.0,
        inv.joined.1 ∙ (ap (λ l. l ++ inv.joined.0) was ∙ append_assoc rest (pass ∷ []) inv.joined.0),
        (subst (λ ws. StandIn ws (seen pass)) inv.same join.seen, inv.joined.2),
      );
    }

pub returns : goal.returns
returns c =
    let inv = c.loop-pass.invariant in
    let none : c.loop-pass.passes.items ≡ [] = search rules in
    let all : c.args.passes.items ≡ inv.joined.0 = inv.joined.1 ∙ ap (λ l. l ++ inv.joined.0) none in
    record { seen = subst (AllByRecursion (λ (p : GaugePass). StandIn (told c.args.writer) (seen p))) (sym all) inv.joined.2 }
