use Rattle.std.proofs.Common.{rules, ◌≡◌, List, arith, ap, sym, refl, ◌∙◌, subst, length, length-append, map, [], ◌∷◌, ◌++◌, append_assoc, append-nil}
use Rattle.std.specs.List.{AllByRecursion}
use Rattle.hall_model.specs.declared.command.Who.{Who}
use Rattle.thread_runner.specs.Hiring.{AreHired}
use Rattle.thread_runner.specs.Kits.{IsKitFor}
use Rattle.thread_runner.proofs.Crews.{hired_last}
use Rattle.thread_runner.proofs.hiring.hire_all.Goals as goal

pub loop-kit-init : goal.loop-kit-init
loop-kit-init g c = record {
  own = c.requires.own;
  looks = c.requires.looks;
  parts = c.requires.parts;
  fresh = c.requires.fresh;
  hired = ([], refl, c.requires.none);
  kits = c.requires.kits;
  room = omega (arith, ap length c.requires.none, c.requires.room);
}

pub loop-kit-preserved : goal.loop-kit-preserved
loop-kit-preserved g c =
    let inv = c.loop-kit.invariant in
    let hire = c.hire-rest.ensures in
    let push = c.push_reserved.ensures in
    let kit = c.in-Some.kit in
    let rest = c.pop_front.new.self.items in
    let stocks = g.S.Serving.stocks in
    let intervals = g.N.LockName.intervals in
    let lines = c.args.lines.now in
    let was : c.loop-kit.kits.items ≡ kit ∷ rest = c.in-Some.ensures.items in
    let long = ap length was in
    let each = subst (AllByRecursion (IsKitFor intervals stocks lines)) was inv.kits in
    record {
      own = hire.own;
      looks = hire.looks;
      parts = omega (arith, hire.parts, inv.parts, long);
      fresh = hire.fresh;
      hired = (
        inv.hired.0 ++ kit.who ∷ [],
        inv.hired.1 ∙ (λ i. inv.hired.0 ++ map (λ k. k.who) (was i)) ∙ sym (append_assoc inv.hired.0 (kit.who ∷ []) (map (λ k. k.who) rest)),
        subst (AreHired stocks intervals lines (inv.hired.0 ++ kit.who ∷ [])) (sym push.items)
            (hired_last stocks intervals lines inv.hired.0 c.loop-kit.actors.items kit.who c.hire-rest.result.2 inv.hired.2 hire.hired),
      );
      kits = each.1;
      room = omega (arith, ap length push.items, length-append c.loop-kit.actors.items (c.hire-rest.result.2 ∷ []), push.capacity, inv.room, long);
    }
