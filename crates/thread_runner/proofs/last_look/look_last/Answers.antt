use Rattle.std.proofs.Common.{suc, inl, take, drop, sym, subst, ◌≡◌, true}
use Rattle.thread_runner.specs.Looking.{LooksOnce, is_resting}
use Rattle.thread_runner.proofs.Stood.{set_at, split_at}
use Rattle.thread_runner.proofs.last_look.look_last.Goals as goal

pub returns-in-Some-clause-looked : goal.returns-in-Some-clause-looked
returns-in-Some-clause-looked g c =
    let deeds = c.args.deeds.now in
    let place = c.in-Some.place in
    let deed = c.index-deeds-place.result in
    let found = c.in-Some.ensures.found in
    inl (record {
      front = take place deeds;
      back = drop (suc place) deeds;
      deed = deed;
      deed_now = c.look_once.new.deed;
      was = split_at deeds place deed found.0 c.index-deeds-place.is;
      is = set_at deeds place c.look_once.new.deed found.0;
      rested = subst (λ d. is_resting d ≡ true) (sym c.index-deeds-place.is) (found.1 deed);
      looks =
          subst (λ d. LooksOnce c.args.served.hall.state c.look_once.result.0.hall.state d c.look_once.new.deed) (sym c.index-deeds-place.is)
          c.look_once.ensures.looked;
    })
