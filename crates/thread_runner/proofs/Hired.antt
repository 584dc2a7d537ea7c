-- The actors that were hired have worked, and their passes are one.
use Rattle.std.proofs.Common.{◌≡◌, ℕ, suc, ◌+◌, ◌<◌, ◌≤◌, List, [], ◌∷◌, ◌++◌, length, refl, sym, ap, ◌∙◌, subst, arith, length-append}
use Rattle.std.proofs.Math.Logic.{∥∥₁_map, ∥∥₁_map₂}
use Rattle.std.specs.Prelude.{reverse, slice_index_or}
use Rattle.std.proofs.lemmas.List.{reverse-append}
use Rattle.std.specs.List.{AllByRecursion}
use Rattle.std.specs.List.Sorted.{IsPermutation}
use mathlib.Core.List.{IsPrefix}
use Rattle.hall_model.specs.declared.command.PastEntry.{PastEntry}
use Rattle.hall_model.specs.declared.command.Who.{Who}
use Rattle.script_actors.specs.Actors.{Land}
use Rattle.script_actors.specs.declared.line.NumberedLine.{NumberedLine}
use Rattle.actor_threads.specs.declared.actor.Actor.{Actor}
use Rattle.actor_threads.specs.declared.actor.Deed.{Deed}
use Rattle.actor_threads.specs.Working.{AreDeeds, HasWorked, IsDeedOf, entries_in, known_to, left_by}
use Rattle.caller_laws.specs.Doing.{DidAs, IsThread, Thread, entries_of}
use Rattle.gauges.specs.Boards.{seen}
use Rattle.number_ranges.specs.declared.interval.Interval.{Interval}
use Rattle.turn_desks.specs.Parts.{IsPart}
use Rattle.turn_desks.specs.Stocks.{StockFact}
use Rattle.turn_desks.specs.declared.names.LockName.{Ghosts as Names}
use Rattle.turn_desks.specs.declared.serving.Serving.{Ghosts as Stocks}
use Rattle.turn_lock.specs.declared.history.History.{Ghosts}
use Rattle.turn_lock.specs.declared.view.View.{View}
use Rattle.turn_lock.specs.Passes.{known}
use Rattle.turn_lock.specs.Rule.{own_entries}
use Rattle.thread_runner.specs.Hiring.{AreHired, AreKept, HasGathered, IsLong, callers_in, left_of}

-- what merely holds of each merely holds of all
pub all_merely : {X : Type 0} (P : X → Type 0) (xs : List X) → AllByRecursion (λ (x : X). ∥ P x ∥₁) xs → ∥ AllByRecursion P xs ∥₁
all_merely P [] h = ∣ tt ∣₁
all_merely P (x ∷ xs) h = ∥∥₁_map₂ h.0 (all_merely P xs h.1) (λ a b. (a, b))

prefix_long : (xs ys : List PastEntry) → IsPrefix xs ys → 262144 ≤ length xs → 262144 ≤ length ys
prefix_long xs ys p h =
    let a : length (xs ++ p.0) ≡ length ys = ap length p.1 in
    let b = length-append xs p.0 in
    omega (arith, a, b, h)

module _ {N S R G : Type 0} {n : Names N} {s : Stocks S} {g : Ghosts S PastEntry} where
  abbrev SeenIn : List PastEntry → Actor N S R G n s g → Type 0
  SeenIn log a = IsPrefix (known a.desk.caller.pass).seen log

  abbrev Stands : Actor N S R G n s g → Type 0
  Stands a = IsPart (own_entries (known a.desk.caller.pass)) (known a.desk.caller.pass).seen

  module _ (past : S → List PastEntry) (land : Land) (lines : List NumberedLine) where
    -- each of them did its work
    abbrev pub AllWorked : List (Actor N S R G n s g) → List (Actor N S R G n s g) → Type 0
    AllWorked [] [] = Unit {0}
    AllWorked [] (y ∷ ys) = ⊥
    AllWorked (x ∷ xs) [] = ⊥
    AllWorked (x ∷ xs) (y ∷ ys) = HasWorked past land lines x y × AllWorked xs ys

    pub worked_by : (xs ys : List (Actor N S R G n s g)) → length ys ≡ length xs
        → ((i : ℕ) (d : Actor N S R G n s g) → i < length xs → HasWorked past land lines (slice_index_or xs i d) (slice_index_or ys i d)) → AllWorked xs ys
    worked_by [] [] e h = tt
    worked_by [] (y ∷ ys) e h = absurd (omega (arith, e))
    worked_by (x ∷ xs) [] e h = absurd (omega (arith, e))
    worked_by (x ∷ xs) (y ∷ ys) e h = (h 0 x (omega arith), worked_by xs ys (omega (arith, e)) (λ i d lt. h (suc i) d (omega (arith, lt))))

    abbrev thread : Actor N S R G n s g → Actor N S R G n s g → Thread
    thread x y = record { who = y.who; left = left_by y; began = known_to x; now = known_to y }

    abbrev pub threads_by : List (Actor N S R G n s g) → List (Actor N S R G n s g) → List Thread
    threads_by [] ys = []
    threads_by (x ∷ xs) [] = []
    threads_by (x ∷ xs) (y ∷ ys) = thread x y ∷ threads_by xs ys

    pub callers_by : (stocks : List StockFact) (intervals : List Interval) (callers : List Who) (xs ys : List (Actor N S R G n s g))
        → AreHired stocks intervals lines callers xs → AllWorked xs ys → callers ≡ callers_in (threads_by xs ys)
    callers_by stocks intervals [] [] ys h w = refl
    callers_by stocks intervals [] (x ∷ xs) ys h w = absurd (cc)
    callers_by stocks intervals (c ∷ callers) [] ys h w = absurd h
    callers_by stocks intervals (c ∷ callers) (x ∷ xs) [] h w = absurd w
    callers_by stocks intervals (c ∷ callers) (x ∷ xs) (y ∷ ys) h w =
        (λ i. (sym h.0.who ∙ sym w.0.who) i ∷ callers_by stocks intervals callers xs ys h.1 w.1 i)

    pub entries_by : (xs ys : List (Actor N S R G n s g)) → AllWorked xs ys → entries_of (threads_by xs ys) ≡ entries_in ys
    entries_by [] [] w = refl
    entries_by [] (y ∷ ys) w = absurd w
    entries_by (x ∷ xs) [] w = absurd w
    entries_by (x ∷ xs) (y ∷ ys) w = ap (λ l. own_entries (known y.desk.caller.pass) ++ l) (entries_by xs ys w.1)

    pub each_by : (stocks : List StockFact) (intervals : List Interval) (callers : List Who) (xs ys : List (Actor N S R G n s g)) (log : List PastEntry)
        → AreHired stocks intervals lines callers xs → AllWorked xs ys
        → AllByRecursion (SeenIn log) ys → AllByRecursion Stands ys → AllByRecursion (IsThread past land lines log) (threads_by xs ys)
    each_by stocks intervals callers [] ys log h w seen stand = tt
    each_by stocks intervals callers (x ∷ xs) [] log h w seen stand = tt
    each_by stocks intervals [] (x ∷ xs) (y ∷ ys) log h w seen stand = absurd (cc)
    each_by stocks intervals (c ∷ callers) (x ∷ xs) (y ∷ ys) log h w seen stand = (
      record {
        did = subst (λ who. DidAs past land lines who (left_by y) (known_to x) (known_to y)) (sym w.0.who) w.0.did;
        fresh = h.0.fresh.none;
        none_full = h.0.none_full;
        part = stand.0;
        begins = seen.0;
      },
      each_by stocks intervals callers xs ys log h.1 w.1 seen.1 stand.1,
    )

    left_same : (d : Deed) (y : Actor N S R G n s g) → IsDeedOf y d → left_of d ≡ left_by y
    left_same d y k = λ i. record { said = k.said i; drawn = k.drawn i; rests = k.rests i; looks = seen (k.glanced i) }

    pub kept_by : (xs ys : List (Actor N S R G n s g)) (log : List PastEntry) (deeds : List Deed) → AllWorked xs ys → AllByRecursion (SeenIn log) ys
        → AreDeeds ys deeds → AreKept log (threads_by xs ys) (reverse deeds)
    kept_by [] [] log deeds w seen d = subst (λ l. AreKept log [] (reverse l)) (sym d) tt
    kept_by [] (y ∷ ys) log deeds w seen d = absurd w
    kept_by (x ∷ xs) [] log deeds w seen d = absurd w
    kept_by (x ∷ xs) (y ∷ ys) log deeds w seen d =
        let k = d.3 in
        subst (AreKept log (threads_by (x ∷ xs) (y ∷ ys))) (sym (ap reverse d.2 ∙ reverse-append d.0 (d.1 ∷ []))) (
          record {
            who = k.who;
            left = left_same d.1 y k;
            full_at = k.full_at;
            long = λ yes. prefix_long (known y.desk.caller.pass).seen log seen.0 (k.full yes);
          },
          kept_by xs ys log d.0 w.1 seen.1 d.4,
        )

    pub long_by : (ys : List (Actor N S R G n s g)) (log : List PastEntry) (deeds : List Deed) → AllByRecursion (SeenIn log) ys → AreDeeds ys deeds
        → AllByRecursion (IsLong log) (reverse deeds)
    long_by [] log deeds seen d = subst (λ l. AllByRecursion (IsLong log) (reverse l)) (sym d) tt
    long_by (y ∷ ys) log deeds seen d =
        subst (AllByRecursion (IsLong log)) (sym (ap reverse d.2 ∙ reverse-append d.0 (d.1 ∷ [])))
        (λ yes. prefix_long (known y.desk.caller.pass).seen log seen.0 (d.3.full yes), long_by ys log d.0 seen.1 d.4)

    -- what is gathered of them
    pub gathered_by : (stocks : List StockFact) (intervals : List Interval) (callers : List Who) (xs ys : List (Actor N S R G n s g)) (own : List PastEntry) (v : View PastEntry) (deeds : List Deed)
        → AreHired stocks intervals lines callers xs → AllWorked xs ys → own ≡ [] → IsPermutation (own ++ entries_in ys) (own_entries v)
        → AllByRecursion (SeenIn v.seen) ys → AllByRecursion (λ (a : Actor N S R G n s g). ∥ Stands a ∥₁) ys → AreDeeds ys deeds
        → ∥ HasGathered past land lines callers v (reverse deeds) ∥₁
    gathered_by stocks intervals callers xs ys own v deeds h w none entries seen stand d =
        ∥∥₁_map (all_merely Stands ys stand) (λ all. record {
          threads = threads_by xs ys;
          who = callers_by stocks intervals callers xs ys h w;
          each = each_by stocks intervals callers xs ys v.seen h w seen all;
          entries = subst (λ l. IsPermutation l (own_entries v)) (ap (λ o. o ++ entries_in ys) none ∙ sym (entries_by xs ys w)) entries;
          kept = kept_by xs ys v.seen deeds w seen d;
        })
