-- What all actors have done, from their threads to the last look.
use Rattle.std.proofs.Common.{◌≡◌, inl, inr, ℕ, Bool, true, false, List, [], ◌∷◌, ◌++◌, reverse, refl, sym, ap, ◌∙◌, subst, arith, length, ◌≤◌}
use Rattle.std.proofs.lemmas.Bool.Decides.{nat_tests}
use Rattle.std.proofs.Math.Bridge.{le_prop}
use Rattle.std.proofs.Math.Logic.{∥∥₁_elim, ∥∥₁_map₂}
use Rattle.std.specs.Prelude.{◌||◌, map, nat_eq, IsTrue}
use Rattle.std.specs.List.{AllByRecursion, list_any}
use Rattle.std.specs.List.Sorted.{IsPermutation}
use Rattle.std.proofs.lemmas.List.Sorted.{IsPermutation-sym, IsPermutation-trans}
use Rattle.hall_model.specs.Recall.{Made, calls_of, state_after}
use Rattle.hall_model.specs.State.{State}
use Rattle.hall_model.specs.declared.command.PastEntry.{PastEntry}
use Rattle.hall_model.specs.declared.command.Who.{Who}
use Rattle.hall_model.specs.declared.command.Who.TheVariants as caller
use Rattle.script_actors.specs.Actors.{Land}
use Rattle.number_ranges.specs.declared.interval.Interval.{Interval}
use Rattle.order_laws.specs.Behind.{IsFresh}
use Rattle.order_workers.specs.Orders.{DidWork}
use Rattle.script_actors.specs.Doers.{is_same}
use Rattle.script_actors.specs.declared.drawing.Drawing.{Drawing}
use Rattle.script_actors.specs.declared.line.NumberedLine.{NumberedLine}
use Rattle.actor_threads.specs.Last.{looked}
use Rattle.actor_threads.specs.declared.actor.Deed.{Deed}
use Rattle.gauges.specs.declared.board.GaugePass.{GaugePass}
use Rattle.caller_laws.specs.Callers.{AreAmong, AreDistinct, AreTheirs}
use Rattle.caller_laws.specs.Doing.{Did, IsThread, LeadsAlone, Looked, Thread, entries_of}
use Rattle.turn_desks.specs.Led.{Counts, IsLed}
use Rattle.turn_desks.specs.Stocks.{StockFact}
use Rattle.turn_lock.specs.declared.view.View.{View}
use Rattle.turn_lock.specs.Rule.{own_entries}
use Rattle.thread_runner.specs.Acting.{AreSmall, HasActed, HasWorker}
use Rattle.thread_runner.specs.Hiring.{AreDone, AreKept, HasGathered, callers_in, glance_of}
use Rattle.thread_runner.specs.Looking.{LooksLast, stood}
use Rattle.thread_runner.specs.Stocking.{Cover, DeedsDraw, drawn_in_deeds}
use Rattle.thread_runner.proofs.Called.{DrewLaw, none_at}
use Rattle.thread_runner.proofs.Called.{NoneLaw as NumbersLaw}
use Rattle.thread_runner.proofs.Done.{done_by, led_theirs}
use Rattle.thread_runner.proofs.Looks.{Goes, OthersStay, alone, done_behind}
use Rattle.thread_runner.proofs.Room.{drawn_few}
use Rattle.thread_runner.proofs.Shown.{PassesSaw, seen_by, seen_then}
use Rattle.thread_runner.proofs.Worked.{NoneLaw, RestsLaw, leaves_none}

-- ---- what the laws of callers say

abbrev pub EachLaw : {S : Type 0} → (S → List PastEntry) → Type 0
EachLaw past =
    (land : Land) (lines : List NumberedLine) (log : List PastEntry) (threads : List Thread) → AreTheirs log → AreDistinct (callers_in threads)
    → IsPermutation log (entries_of threads) → AllByRecursion (IsThread past land lines log) threads
    → AllByRecursion (λ (t : Thread). Did land lines log t.who t.left t.now.full_at) threads

abbrev pub AmongLaw : {S : Type 0} → (S → List PastEntry) → Type 0
AmongLaw past =
    (land : Land) (lines : List NumberedLine) (log : List PastEntry) (threads : List Thread) → AreTheirs log
    → IsPermutation log (entries_of threads) → AllByRecursion (IsThread past land lines log) threads → AreAmong (callers_in threads) log

abbrev pub StillAmong : Type 0
StillAmong = (callers : List Who) (w : ℕ) (rests : Bool) (k l : Looked) → AreTheirs l.past → DidWork LeadsAlone w rests k l
    → IsTrue (list_any (λ (x : Who). is_same x (caller.Worker w)) callers) → AreAmong callers k.past → AreAmong callers l.past

-- ---- the worker that looks last is one of the callers

abbrev who_in : List Deed → List Who
who_in deeds = map (λ (d : Deed). d.who) deeds

nat_eq_itself : (n : ℕ) → nat_eq n n ≡ true
nat_eq_itself n = grind (arith, nat_tests)

or_with : (a b : Bool) → b ≡ true → (a || b) ≡ true
or_with true b h = refl
or_with false b h = h

one_of : (w : ℕ) (front back : List Deed) (d : Deed) → d.who ≡ caller.Worker w
    → list_any (λ (x : Who). is_same x (caller.Worker w)) (who_in (front ++ d ∷ back)) ≡ true
one_of w [] back d e =
    ap (λ (y : Who). is_same y (caller.Worker w) || list_any (λ (x : Who). is_same x (caller.Worker w)) (who_in back)) e
    ∙ ap (λ b. b || list_any (λ (x : Who). is_same x (caller.Worker w)) (who_in back)) (nat_eq_itself w)
one_of w (x ∷ front) back d e =
    or_with (is_same x.who (caller.Worker w)) (list_any (λ (y : Who). is_same y (caller.Worker w)) (who_in (front ++ d ∷ back))) (one_of w front back d e)

module _ {S : Type 0} (past : S → List PastEntry) (each : EachLaw past) (all_among : AmongLaw past) (goes : Goes) (others : OthersStay) (still : StillAmong)
    (rests : RestsLaw) (none_waits : NoneLaw) (none_called : NumbersLaw) (land : Land) (lines : List NumberedLine) (callers : List Who)
    (told tells linked : Bool) (first : State) (before : Counts) (fresh : IsFresh first) (none : first.past ≡ [])
    (distinct : AreDistinct callers) (some : HasWorker callers) (small : AreSmall callers) where
  -- behind the joins
  done_at : (s : State) (v : View PastEntry) (deeds : List Deed) → AreTheirs s.past → v.seen ≡ s.past → IsPermutation s.past (own_entries v)
      → HasGathered past land lines callers v deeds → AreDone land lines callers s.past deeds × AreAmong callers s.past
  done_at s v deeds theirs seen own g =
      let order : IsPermutation s.past (entries_of g.threads) =
      IsPermutation-trans s.past (own_entries v) (entries_of g.threads) own (IsPermutation-sym (entries_of g.threads) (own_entries v) g.entries) in
      let stand : AllByRecursion (IsThread past land lines s.past) g.threads =
      subst (λ l. AllByRecursion (IsThread past land lines l) g.threads) seen g.each in
      let kept : AreKept s.past g.threads deeds = subst (λ l. AreKept l g.threads deeds) seen g.kept in
      let did = each land lines s.past g.threads theirs (subst AreDistinct g.who distinct) order stand in (
        subst (λ ws. AreDone land lines ws s.past deeds) (sym g.who) (done_by land lines s.past g.threads deeds kept did),
        subst (λ ws. AreAmong ws s.past) (sym g.who) (all_among land lines s.past g.threads theirs order stand),
      )

  -- and behind the last look
  done_then : (s t : State) (deeds now : List Deed) → AreTheirs t.past → LooksLast s t deeds now
      → AreDone land lines callers s.past deeds × AreAmong callers s.past → AreDone land lines callers t.past now × AreAmong callers t.past
  done_then s t deeds now theirs (inl o) h = (
    done_behind goes others land lines s t theirs callers deeds now distinct o h.0,
    still callers o.looks.worker o.deed_now.rests (looked (stood s o.deed)) (looked (stood t o.deed_now)) theirs
        (alone o.looks.worker o.deed_now.rests (stood s o.deed) (stood t o.deed_now) o.looks.work)
        (ap (list_any (λ (x : Who). is_same x (caller.Worker o.looks.worker))) (sym h.0.who ∙ ap who_in o.was)
        ∙ one_of o.looks.worker o.front o.back o.deed o.looks.who) h.1,
  )
  done_then s t deeds now theirs (inr n) h = (
    subst (λ ds. AreDone land lines callers t.past ds) (sym n.2) (subst (λ (x : State). AreDone land lines callers x.past deeds) (sym n.1) h.0),
    subst (λ (x : State). AreAmong callers x.past) (sym n.1) h.1,
  )

  pub acted_by : (s t : State) (at_s at_t : Counts) (v : View PastEntry) (deeds now : List Deed) (passes : List GaugePass) (drawn : List Drawing)
      → DeedsDraw land first t now drawn
      → IsLed told tells linked first before s at_s → IsLed told tells linked first before t at_t → v.seen ≡ s.past
      → IsPermutation s.past (own_entries v) → LooksLast s t deeds now → reverse (map glance_of deeds) ≡ passes
      → HasGathered past land lines callers v deeds → PassesSaw first s passes → HasActed land lines callers first t now drawn
  acted_by s t at_s at_t v deeds now passes drawn numbers led_s led_t seen own looks glances g saw =
      let theirs : AreTheirs t.past = led_theirs told tells linked first before t at_t led_t in
      let all = done_then s t deeds now theirs looks (done_at s v deeds (led_theirs told tells linked first before s at_s led_s) seen own g) in
      record {
        among = all.1;
        done = all.0;
        worked =
            leaves_none rests none_waits land lines told tells linked first before s t at_s at_t callers deeds now fresh none led_s led_t theirs all.1 all.0
            some small looks;
        looked = seen_then first s t deeds now looks (seen_by first s deeds passes glances saw);
        plain = none_at none_called land lines t.past now theirs all.0.did (subst (λ ws. AreAmong ws t.past) (sym all.0.who) all.1);
        numbers = numbers;
      }

  abbrev LedTo : State → Counts → Type 0
  LedTo s now = IsLed told tells linked first before s now

  both : (s t : State) (at_s at_t : Counts) → ∥ LedTo s at_s ∥₁ → ∥ LedTo t at_t ∥₁ → ∥ LedTo s at_s × LedTo t at_t ∥₁
  both s t at_s at_t a b = ∥∥₁_map₂ a b (λ x y. (x, y))

  abbrev Gathered : State → View PastEntry → List Deed → List GaugePass → Type 0
  Gathered s v deeds passes = HasGathered past land lines callers v deeds × PassesSaw first s passes

  both_of : {A B : Type 0} → ∥ A ∥₁ → ∥ B ∥₁ → ∥ A × B ∥₁
  both_of a b = ∥∥₁_map₂ a b (λ x y. (x, y))

  joined : (s : State) (v : View PastEntry) (deeds : List Deed) (passes : List GaugePass) → ∥ HasGathered past land lines callers v deeds ∥₁
      → ∥ PassesSaw first s passes ∥₁ → ∥ Gathered s v deeds passes ∥₁
  joined s v deeds passes a b = ∥∥₁_map₂ a b (λ x y. (x, y))

  pub acted_merely : (s t : State) (at_s at_t : Counts) (v : View PastEntry) (deeds now : List Deed) (passes : List GaugePass) (drawn : List Drawing)
      → ∥ DeedsDraw land first t now drawn ∥₁ → ∥ LedTo s at_s ∥₁
      → ∥ LedTo t at_t ∥₁ → v.seen ≡ s.past → IsPermutation s.past (own_entries v) → LooksLast s t deeds now
      → reverse (map glance_of deeds) ≡ passes → ∥ HasGathered past land lines callers v deeds ∥₁ → ∥ PassesSaw first s passes ∥₁
      → ∥ HasActed land lines callers first t now drawn ∥₁
  acted_merely s t at_s at_t v deeds now passes drawn numbers a b seen own looks glances h saw =
      ∥∥₁_map₂ (both_of numbers (joined s v deeds passes h saw)) (both s t at_s at_t a b)
      (λ g l. acted_by s t at_s at_t v deeds now passes drawn g.0 l.0 l.1 seen own looks glances g.1.0 g.1.1)

  -- there is room for all numbers
  pub room_merely : DrewLaw → (s : State) (at_s : Counts) (v : View PastEntry) (deeds : List Deed) → ∥ LedTo s at_s ∥₁ → v.seen ≡ s.past
      → IsPermutation s.past (own_entries v) → ∥ HasGathered past land lines callers v deeds ∥₁ → length (drawn_in_deeds deeds) ≤ length lines
  room_merely drew s at_s v deeds led seen own g =
      ∥∥₁_elim (both_of led g) le_prop (λ p.
      let d = done_at s v deeds (led_theirs told tells linked first before s at_s p.0) seen own p.1 in
      drawn_few drew land lines s.past deeds d.0.did (subst AreDistinct (sym d.0.who) distinct))

-- where no call was made nothing changed
pub unbegun : (told tells linked : Bool) (first : State) (before : Counts) (s : State) (now : Counts) → IsLed told tells linked first before s now → s.past ≡ []
    → s ≡ first
unbegun told tells linked first before s now led none =
    led.state ∙ ap (state_after first) (none_made led.made (sym led.calls ∙ none))
  where
    none_made : (made : List Made) → calls_of made ≡ [] → made ≡ []
    none_made [] h = refl
    none_made (m ∷ made) h = cc

-- the same stocks and lines
pub covered : (is : List Interval) (facts others : List StockFact) (lines rest : List NumberedLine) → facts ≡ others → lines ≡ rest
    → Cover is facts lines → Cover is others rest
covered is facts others lines rest same kept h = subst (λ fs. Cover is fs rest) same (subst (λ ls. Cover is facts ls) kept h)
