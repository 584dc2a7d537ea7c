-- Each step keeps the rule of the lock.
use Rattle.std.proofs.Common.{◌≡◌, ◌≢◌, ◌⊎◌, inl, inr, ℕ, zero, suc, ◌+◌, ◌-◌, ◌%◌, ◌<◌, ◌≤◌, ◌==◌, ltb, Bool, true, false, if◌then◌else◌, List, [], ◌∷◌, ◌++◌}
use Rattle.std.proofs.Common.{length, All, set, slice_index, Option, Some, None, sym, refl, ap, subst, ⊎_elim, ◌∙◌, arith, eq-eqb, ne_eqb}
use Rattle.std.specs.List.{sum_by}
use Rattle.std.proofs.lemmas.List.Sums.{sum_by_push, sum_by-cons}
use Rattle.std.proofs.lemmas.List.Elements.{All-append}
use Rattle.std.proofs.lemmas.Bool.{ltb-true, ltb-false}
use Rattle.std.proofs.lemmas.Bool.Decides.{nat_tests}
use mathlib.Core.Logic.{dite}
use mathlib.Core.Option.{none, some, some-ne-none, some-injective}
use mathlib.Core.List.{IsPrefix}
use native.Mathlib.Decide.{ℕ_discrete}
use lib.ListN.{get_elem?}
use prog.Atomic.{either}
use Rattle.atomic_table.specs.Table.{State, step, keeps, takes, gives, put_back, rest, Allows, Splits, Joins, opening, Final, Seen}
use Rattle.atomic_table.proofs.Lists.{set_again}
use Rattle.seat_sums.specs.Sums.{times, one_if}
use Rattle.seat_sums.proofs.lemmas.Totals.{total_set, total_at, total_whole, total_only, total_lt, each_set, each_snoc, was_there, times_append, below_next, one_if_le, one_if_below, below_one_if}
use Rattle.turn_lock.specs.declared.view.View.{View}
use Rattle.turn_lock.specs.declared.view.Turn.{Turn}
use Rattle.turn_lock.specs.declared.view.Turn.TheVariants.{Rests, Waits, Holds}
use Rattle.turn_lock.specs.Rule.{has_ticket, ticket_of, is_holding, numbers, TurnFits, Fits, IsHome, IsOut, Kept, opener, spent, waits, took, gave, called}
use Rattle.turn_lock.specs.Rule.{own_entries, Stands, kept_of, given_of, longer_of, both_of, SeatState, Tickets, Looks, Gives, Learns}
use Rattle.seat_sums.proofs.lemmas.Beginnings.{whole_is_front, front_of_front, fronts_agree, front_is_all, front_is_short}
use Rattle.turn_lock.proofs.Entries.{each_number, whole_own, own_stands}
use Rattle.std.specs.List.Sorted.{IsPermutation}
use Rattle.seat_sums.proofs.lemmas.Entries.{below_none, below_higher}
use Rattle.turn_lock.proofs.Places.{numbers_times, numbers_below, stands_below}

-- what a view counts for
abbrev holds_one : {E : Type 0} → View E → ℕ
holds_one v = one_if (is_holding v.turn)

module _ {E : Type 0} where
  waits_fits : (serving : ℕ) (log : List E) (t : ℕ) (v : View E) → 0 < v.parts → Fits serving log v → Fits serving log (waits t v)
  waits_fits serving log t v some_part f = record { seen = f.seen; shorter = f.shorter; own = f.own; turn = tt; spent = λ z. absurd (omega arith) }

  took_fits : (serving : ℕ) (log now : List E) (t : ℕ) (v : View E) → 0 < v.parts → t ≡ serving → now ≡ log → Fits serving log v
      → Fits serving log (took t now v)
  took_fits serving log now t v some_part served same f = record {
    seen = subst (λ (l : List E). IsPrefix l log) (sym same) (whole_is_front log);
    shorter = subst (λ (l : List E). IsPrefix v.shorter l) (sym same) (front_of_front v.shorter v.seen log f.shorter f.seen);
    own = below_higher (length v.seen) (length now) v.own
        (let le = front_is_short v.seen log f.seen in let e : length now ≡ length log = ap length same in omega arith) f.own;
    turn = (served, same);
    spent = λ z. absurd (omega arith);
  }

  gave_fits : (serving next : ℕ) (log now : List E) (v : View E) → 0 < v.parts → IsPrefix v.seen now → Fits serving log v → Fits next now (gave now v)
  gave_fits serving next log now v some_part grows f = let le = front_is_short v.seen now grows in record {
    seen = whole_is_front now;
    shorter = front_of_front v.shorter v.seen now f.shorter grows;
    own = All-append (λ k. k < length now) v.own (numbers (length v.seen) (length now - length v.seen))
        (below_higher (length v.seen) (length now) v.own le f.own)
        (numbers_below (length v.seen) (length now - length v.seen) (length now) (omega arith));
    turn = tt;
    spent = λ z. absurd (omega arith);
  }

  turn_stays : (serving next : ℕ) (log now seen : List E) (z : Turn) → one_if (is_holding z) ≡ 0 → TurnFits serving log seen z → TurnFits next now seen z
  turn_stays serving next log now seen Rests none_held t = tt
  turn_stays serving next log now seen (Waits k) none_held t = tt
  turn_stays serving next log now seen (Holds k) none_held t = absurd (omega arith)

  other_fits : (serving next : ℕ) (log now : List E) (u : View E) → holds_one u ≡ 0 → IsPrefix log now → Fits serving log u → Fits next now u
  other_fits serving next log now u none_held grows f = record {
    seen = front_of_front u.seen log now f.seen grows;
    shorter = f.shorter;
    own = f.own;
    turn = turn_stays serving next log now u.seen u.turn none_held f.turn;
    spent = f.spent;
  }

  rests_fits : (serving : ℕ) (log seen : List E) (z : Turn) → z ≡ Rests → TurnFits serving log seen z
  rests_fits serving log seen z is = subst (TurnFits serving log seen) (sym is) tt

  -- who holds the state has the ticket that is served
  holds_ticket : (serving : ℕ) (log seen : List E) (z : Turn) → TurnFits serving log seen z → one_if (is_holding z) ≤ one_if (has_ticket serving z)
  holds_ticket serving log seen Rests t = omega arith
  holds_ticket serving log seen (Waits k) t = omega arith
  holds_ticket serving log seen (Holds k) t = let e = t.0 in let one : one_if (serving == k) ≡ 1 = grind (arith, nat_tests) in omega arith

  spent_fits : (serving : ℕ) (log : List E) → Fits serving log spent
  spent_fits serving log = record { seen = (log, refl); shorter = ([], refl); own = below_none 0; turn = tt; spent = λ _. (refl, refl) }

  longer_if : (xs ys log : List E) (b : Bool) → ltb (length xs) (length ys) ≡ b → IsPrefix xs log → IsPrefix ys log
      → IsPrefix (if b then ys else xs) log × IsPrefix (if b then xs else ys) (if b then ys else xs) × (length xs ≤ length (if b then ys else xs))
      × (length ys ≤ length (if b then ys else xs))
  longer_if xs ys log true is p q = let lt = ltb-true (length xs) (length ys) is in (q, fronts_agree xs ys log p q (omega arith), omega arith, omega arith)
  longer_if xs ys log false is p q = let le = ltb-false (length xs) (length ys) is in (p, fronts_agree ys xs log q p (omega arith), omega arith, omega arith)

  both_fits : (serving : ℕ) (log : List E) (v w : View E) → 0 < v.parts → v.turn ≡ Rests → Fits serving log v → Fits serving log w
      → Fits serving log (both_of v w)
  both_fits serving log v w some_part rests f g =
      let l = longer_if v.seen w.seen log (ltb (length v.seen) (length w.seen)) refl f.seen g.seen in
      let seen : List E = longer_of v.seen w.seen in record {
        seen = l.0;
        shorter = l.1;
        own = All-append (λ k. k < length seen) v.own w.own (below_higher (length v.seen) (length seen) v.own l.2 f.own)
            (below_higher (length w.seen) (length seen) w.own l.3 g.own);
        turn = rests_fits serving log seen v.turn rests;
        spent = λ z. absurd (omega arith);
      }

module _ {S E : Type 0} (past : S → List E) (all : ℕ) where
  -- the rule reads the state's lists alone
  unchanged : (s : State (Option S) (View E)) (ws : List ℕ) (vs : List (View E)) → ws ≡ s.words → vs ≡ s.views → Kept past all s
      → Kept past all record { words = ws; homes = s.homes; views = vs }
  unchanged s ws vs w v k = subst (λ (x : List ℕ × List (View E)). Kept past all record { words = x.0; homes = s.homes; views = x.1 })
      (λ i. (sym w i, sym v i)) k

  same_place : (log : List E) (s : State (Option S) (View E)) (ws : List ℕ) (vs : List (View E)) → sum_by holds_one vs ≡ sum_by holds_one s.views
      → IsHome past log s ⊎ IsOut s
      → IsHome past log record { words = ws; homes = s.homes; views = vs } ⊎ IsOut record { words = ws; homes = s.homes; views = vs }
  same_place log s ws vs e p = ⊎_elim (λ (h : IsHome past log s). inl (h.0, h.1, h.2, e ∙ h.3)) (λ (o : IsOut s). inr (o.0, e ∙ o.1)) p

  pub tickets_allowed : (slots id old : ℕ) (me : SeatState S E) → old + 1 < 18446744073709551616 → me.0.turn ≡ Rests → 0 < me.0.parts
      → Allows (Kept past all) slots id me 0 (λ n. either (n == old) (old + 1) n) (Tickets (step slots 0 old (old + 1) none) me)
  tickets_allowed slots id old me fit rests some_part s k _ at _ =
      let v = me.0 in
      let found = slice_index s.words 0 in
      let here : found ≡ k.next = ap (λ (ws : List ℕ). slice_index ws 0) k.words in
      let word = either (found == old) (old + 1) found in
      dite (ℕ_discrete found old)
      (λ hit.
      let w = waits found v in
      let up : word ≡ k.next + 1 = ap (λ (b : Bool). either b (old + 1) found) (eq-eqb found old hit) ∙ (omega arith) in
      let idle : (t : ℕ) → one_if (has_ticket t v.turn) ≡ 0 = λ t. ap (λ (z : Turn). one_if (has_ticket t z)) rests in
      let free : holds_one v ≡ 0 = ap (λ (z : Turn). one_if (is_holding z)) rests in (
        w,
        keeps,
        tt,
        record {
          next = k.next + 1;
          serving = k.serving;
          log = k.log;
          words = ap (λ (ws : List ℕ). set ws 0 word) k.words ∙ ap (λ (n : ℕ). n ∷ k.serving ∷ []) up;
          room = omega arith;
          tickets = λ t.
              let was = k.tickets t in
              let change = total_set (λ (u : View E). one_if (has_ticket t u.turn)) s.views id v w at in
              let none_mine = idle t in
              let same : one_if (t == found) ≡ one_if (t == k.next) = ap (λ (n : ℕ). one_if (t == n)) here in
              omega (arith, below_next t k.next);
          place = same_place k.log s (set s.words 0 word) (set s.views id w) (let change = total_set holds_one s.views id v w at in omega arith) k.place;
          parts = let was = k.parts in let change = total_set (λ (u : View E). u.parts) s.views id v w at in omega arith;
          own = λ q. let was = k.own q in let change = total_set (λ (u : View E). times q u.own) s.views id v w at in omega arith;
          each = each_set (λ _. Fits k.serving k.log) s.views id w (waits_fits k.serving k.log found v some_part (k.each id v at))
              (λ j u _ there. k.each j u there);
        },
        ((λ _. refl), λ ne. absurd (ne hit)),
      ))
      (λ miss. (
        v,
        keeps,
        tt,
        unchanged s (set s.words 0 word) (set s.views id v)
            (let e : word ≡ found = ap (λ (b : Bool). either b (old + 1) found) (ne_eqb found old miss) in
            let literal : set s.words 0 found ≡ s.words = ap (λ (ws : List ℕ). set ws 0 (slice_index ws 0)) k.words ∙ sym k.words in
            ap (λ (n : ℕ). set s.words 0 n) e ∙ literal)
            (set_again s.views id v at) k,
        ((λ e. absurd (miss e)), λ _. refl),
      ))

  pub looks_allowed : (slots id t : ℕ) (me : SeatState S E) → me.0.turn ≡ Waits t → 0 < me.0.parts
      → Allows (Kept past all) slots id me 1 (λ n. n) (Looks past (step slots 1 0 0 none) me)
  looks_allowed slots id t me is some_part s k _ at _ =
      let v = me.0 in
      let found = slice_index s.words 1 in
      let here : found ≡ k.serving = ap (λ (ws : List ℕ). slice_index ws 1) k.words in
      let words_same : set s.words 1 found ≡ k.next ∷ k.serving ∷ [] = ap (λ (ws : List ℕ). set ws 1 (slice_index ws 1)) k.words in
      let mine : ticket_of v.turn ≡ t = ap ticket_of is in
      let free : holds_one v ≡ 0 = ap (λ (z : Turn). one_if (is_holding z)) is in
      let fits = k.each id v at in
      dite (ℕ_discrete found (ticket_of v.turn))
      (λ hit. ⊎_elim
      (λ (h : IsHome past k.log s).
      let x = h.0 in
      let w = took found (past x) v in (
        w,
        takes 0 (Some x),
        ap (λ (hs : List (mathlib.Core.Option.Option (Option S))). get_elem? hs 0) h.1,
        record {
          next = k.next;
          serving = k.serving;
          log = k.log;
          words = words_same;
          room = k.room;
          tickets = λ q.
              let was = k.tickets q in
              let change = total_set (λ (u : View E). one_if (has_ticket q u.turn)) s.views id v w at in
              let before : one_if (has_ticket q v.turn) ≡ one_if (q == t) = ap (λ (z : Turn). one_if (has_ticket q z)) is in
              let after : one_if (q == found) ≡ one_if (q == t) = ap (λ (n : ℕ). one_if (q == n)) (hit ∙ mine) in
              omega arith;
          place = inr (
            ap (λ (hs : List (mathlib.Core.Option.Option (Option S))). set hs 0 none) h.1,
            (let change = total_set holds_one s.views id v w at in let none_held = h.3 in omega arith),
          );
          parts = let was = k.parts in let change = total_set (λ (u : View E). u.parts) s.views id v w at in omega arith;
          own = λ q. let was = k.own q in let change = total_set (λ (u : View E). times q u.own) s.views id v w at in omega arith;
          each = each_set (λ _. Fits k.serving k.log) s.views id w (took_fits k.serving k.log (past x) found v some_part here h.2 fits)
              (λ j u _ there. k.each j u there);
        },
        ((λ _. (x, refl, subst (λ (l : List E). IsPrefix v.seen l) (sym h.2) fits.seen)), λ ne. absurd (ne hit)),
      ))
      (λ (o : IsOut s).
      let asked : one_if (has_ticket k.serving v.turn) ≡ one_if (k.serving == t) = ap (λ (z : Turn). one_if (has_ticket k.serving z)) is in
      let same : k.serving ≡ t = sym here ∙ (hit ∙ mine) in
      let one : one_if (k.serving == t) ≡ 1 = grind (arith, nat_tests) in
      let fewer : sum_by holds_one s.views < sum_by (λ (u : View E). one_if (has_ticket k.serving u.turn)) s.views =
      total_lt holds_one (λ (u : View E). one_if (has_ticket k.serving u.turn)) s.views id v at (omega arith)
      (λ j u there. holds_ticket k.serving k.log u.seen u.turn (k.each j u there).turn) in
      let most = one_if_le (ltb k.serving k.next) in
      let all_once = k.tickets k.serving in
      let held = o.1 in
      absurd (omega arith))
      k.place)
      (λ miss. (
        v,
        keeps,
        tt,
        unchanged s (set s.words 1 found) (set s.views id v) (words_same ∙ sym k.words) (set_again s.views id v at) k,
        ((λ e. absurd (miss e)), λ _. refl),
      ))

  pub gives_allowed : (slots id t : ℕ) (x : S) (me : SeatState S E) → me.0.turn ≡ Holds t → me.1 ≡ (0, Some x) ∷ [] → 0 < me.0.parts
      → IsPrefix me.0.seen (past x)
      → Allows (Kept past all) slots id me 1 (λ n. (n + 1) % 18446744073709551616) (Gives past (step slots 1 1 0 none) me)
  gives_allowed slots id t x me is has some_part grows s k _ at _ =
      let v = me.0 in
      let found = slice_index s.words 1 in
      let here : found ≡ k.serving = ap (λ (ws : List ℕ). slice_index ws 1) k.words in
      let fits = k.each id v at in
      let mine = subst (TurnFits k.serving k.log v.seen) is fits.turn in
      let served : t ≡ k.serving = mine.0 in
      let whole : v.seen ≡ k.log = mine.1 in
      let held : holds_one v ≡ 1 = ap (λ (z : Turn). one_if (is_holding z)) is in
      let asked : (q : ℕ) → one_if (has_ticket q v.turn) ≡ one_if (q == k.serving) =
      λ q. ap (λ (z : Turn). one_if (has_ticket q z)) is ∙ ap (λ (n : ℕ). one_if (q == n)) served in
      let here_open : k.serving < k.next =
      one_if_below k.serving k.next
      (let one : one_if (k.serving == k.serving) ≡ 1 = grind (arith, nat_tests) in
      let low = total_at (λ (u : View E). one_if (has_ticket k.serving u.turn)) s.views id v at in
      let all_once = k.tickets k.serving in
      let mine_once = asked k.serving in
      omega arith) in
      let room = k.room in
      let up : (found + 1) % 18446744073709551616 ≡ k.serving + 1 = omega arith in
      let w = gave (past x) v in
      let one_more = length (past x) - length v.seen in
      let longer : length v.seen + one_more ≡ length (past x) = let le = front_is_short v.seen (past x) grows in omega arith in
      let grown : IsPrefix k.log (past x) = subst (λ (l : List E). IsPrefix l (past x)) whole grows in
      ⊎_elim
      (λ (h : IsHome past k.log s). absurd (let low = total_at holds_one s.views id v at in let none_held = h.3 in omega arith))
      (λ (o : IsOut s).
      let alone : sum_by holds_one s.views ≡ holds_one v = o.1 ∙ sym held in (
        w,
        gives,
        tt,
        record {
          next = k.next;
          serving = k.serving + 1;
          log = past x;
          words = ap (λ (ws : List ℕ). set ws 1 ((found + 1) % 18446744073709551616)) k.words ∙ ap (λ (n : ℕ). k.next ∷ n ∷ []) up;
          room = k.room;
          tickets = λ q.
              let was = k.tickets q in
              let change = total_set (λ (u : View E). one_if (has_ticket q u.turn)) s.views id v w at in
              let before = asked q in
              omega (arith, below_next q k.serving);
          place = inl (
            x,
            ap (put_back s.homes) has ∙ ap (λ (hs : List (mathlib.Core.Option.Option (Option S))). set hs 0 (some (Some x))) o.0,
            refl,
            (let change = total_set holds_one s.views id v w at in let one = o.1 in omega arith),
          );
          parts = let was = k.parts in let change = total_set (λ (u : View E). u.parts) s.views id v w at in omega arith;
          own = λ q.
              let was = k.own q in
              let change = total_set (λ (u : View E). times q u.own) s.views id v w at in
              let more = times_append q v.own (numbers (length v.seen) one_more) in
              let these = numbers_times q (length v.seen) one_more in
              let before : one_if (ltb q (length v.seen)) ≡ one_if (ltb q (length k.log)) = ap (λ (l : List E). one_if (ltb q (length l))) whole in
              let after : one_if (ltb q (length v.seen + one_more)) ≡ one_if (ltb q (length (past x))) = ap (λ (n : ℕ). one_if (ltb q n)) longer in
              omega arith;
          each = each_set (λ _. Fits (k.serving + 1) (past x)) s.views id w (gave_fits k.serving (k.serving + 1) k.log (past x) v some_part grows fits)
              (λ j u ne there. other_fits k.serving (k.serving + 1) k.log (past x) u (total_whole holds_one s.views id v at alone j u ne there) grown
              (k.each j u there));
        },
        (λ y has'.
            let pair : (0, Some x) ≡ (0, Some y) = cc (sym has ∙ has') in
            let value : Some x ≡ Some y = ap (λ (p : ℕ × Option S). p.1) pair in
            let same : x ≡ y = cc (value) in
            let empty : rest me.1 ≡ [] = ap rest has in
            λ i. (gave (past (same i)) v, empty i)),
      ))
      k.place

  pub cuts_allowed : (given id : ℕ) (v : View E) → 0 < given → given < v.parts → Splits {S = Option S} (Kept past all) id v (kept_of given v) (given_of given v)
  cuts_allowed given id v some_part fewer s k at =
      let l = kept_of given v in
      let r = given_of given v in
      let mine = k.each id v at in
      let views = set s.views id l in record {
        next = k.next;
        serving = k.serving;
        log = k.log;
        words = k.words;
        room = k.room;
        tickets = λ t.
            let was = k.tickets t in
            let change = total_set (λ (u : View E). one_if (has_ticket t u.turn)) s.views id v l at in
            let more = sum_by_push (λ (u : View E). one_if (has_ticket t u.turn)) views r in omega arith;
        place = same_place k.log s s.words (views ++ r ∷ [])
            (let change = total_set holds_one s.views id v l at in let more = sum_by_push holds_one views r in omega arith) k.place;
        parts =
            let was = k.parts in
            let change = total_set (λ (u : View E). u.parts) s.views id v l at in
            let more = sum_by_push (λ (u : View E). u.parts) views r in omega arith;
        own = λ q.
            let was = k.own q in
            let change = total_set (λ (u : View E). times q u.own) s.views id v l at in
            let more = sum_by_push (λ (u : View E). times q u.own) views r in omega arith;
        each = each_snoc (Fits k.serving k.log) views r
            record { seen = mine.seen; shorter = (v.seen, refl); own = below_none (length v.seen); turn = tt; spent = λ z. absurd (omega arith) }
            (each_set (λ _. Fits k.serving k.log) s.views id l
            record { seen = mine.seen; shorter = mine.shorter; own = mine.own; turn = mine.turn; spent = λ z. absurd (omega arith) }
            (λ j u _ there. k.each j u there));
      }

  pub glues_allowed : (id : ℕ) (v : View E) (other : ℕ) (w : View E) → 0 < v.parts → v.turn ≡ Rests → w.turn ≡ Rests
      → Joins {S = Option S} (Kept past all) id v other w (both_of v w) spent
  glues_allowed id v other w some_part rests rests' s k at ne there =
      let b = both_of v w in
      let views = set s.views id b in
      let was_at = was_there s.views id other b w ne there in
      let idle : (t : ℕ) → one_if (has_ticket t w.turn) ≡ 0 = λ t. ap (λ (z : Turn). one_if (has_ticket t z)) rests' in
      let free : holds_one w ≡ 0 = ap (λ (z : Turn). one_if (is_holding z)) rests' in record {
        next = k.next;
        serving = k.serving;
        log = k.log;
        words = k.words;
        room = k.room;
        tickets = λ t.
            let was = k.tickets t in
            let one = total_set (λ (u : View E). one_if (has_ticket t u.turn)) s.views id v b at in
            let two = total_set (λ (u : View E). one_if (has_ticket t u.turn)) views other w spent there in
            let none_there = idle t in omega arith;
        place = same_place k.log s s.words (set views other spent)
            (let one = total_set holds_one s.views id v b at in let two = total_set holds_one views other w spent there in omega arith) k.place;
        parts =
            let was = k.parts in
            let one = total_set (λ (u : View E). u.parts) s.views id v b at in
            let two = total_set (λ (u : View E). u.parts) views other w spent there in omega arith;
        own = λ q.
            let was = k.own q in
            let one = total_set (λ (u : View E). times q u.own) s.views id v b at in
            let two = total_set (λ (u : View E). times q u.own) views other w spent there in
            omega (arith, times_append q v.own w.own);
        each = each_set (λ _. Fits k.serving k.log) views other spent (spent_fits k.serving k.log)
            (λ j u _ e. each_set (λ _. Fits k.serving k.log) s.views id b
            (both_fits k.serving k.log v w some_part rests (k.each id v at) (k.each other w was_at)) (λ i y _ e'. k.each i y e') j u e);
      }

  pub learns_allowed : (slots id said : ℕ) (me : SeatState S E) → said ≡ all
      → Allows (Kept past all) slots id me 0 (λ n. n) (Learns said (step slots 0 0 0 none) me)
  learns_allowed slots id said me told s k _ at _ =
      let v = me.0 in
      let mine = k.each id v at in (
        v,
        keeps,
        tt,
        unchanged s (set s.words 0 (slice_index s.words 0)) (set s.views id v)
            (ap (λ (ws : List ℕ). set ws 0 (slice_index ws 0)) k.words ∙ sym k.words) (set_again s.views id v at) k,
        (
          refl,
          (let low : v.parts ≤ sum_by (λ (u : View E). u.parts) s.views = total_at (λ (u : View E). u.parts) s.views id v at in let sum = k.parts in
              omega arith),
          mine.shorter,
          (λ q. let low = total_at (λ (u : View E). times q u.own) s.views id v at in let once = k.own q in let few = one_if_le (ltb q (length k.log)) in
              omega arith),
          mine.own,
        ),
      )

  -- the rule holds where the first pass has all parts, and the state's entries are its own
  pub opens : (x : S) → 0 < all → Kept past all (opening (0 ∷ 0 ∷ []) (Some x ∷ []) (opener all (past x)))
  opens x some_part =
      let v = opener all (past x) in record {
        next = 0;
        serving = 0;
        log = past x;
        words = refl;
        room = omega arith;
        tickets = λ t. omega (arith, sum_by-cons (λ (u : View E). one_if (has_ticket t u.turn)) v []);
        place = inl (x, refl, refl, omega (arith, sum_by-cons holds_one v []));
        parts = omega (arith, sum_by-cons (λ (u : View E). u.parts) v []);
        own = λ q.
            let these = numbers_times q 0 (length (past x)) in
            let none_below : one_if (ltb q 0) ≡ 0 = grind (arith, nat_tests) in
            let all_of : one_if (ltb q (0 + length (past x))) ≡ one_if (ltb q (length (past x))) = ap (λ (n : ℕ). one_if (ltb q n)) (omega arith) in
            omega (arith, sum_by-cons (λ (u : View E). times q u.own) v []);
        each = one;
      }
    where
      one : (j : ℕ) (u : View E) → get_elem? (opener all (past x) ∷ []) j ≡ some u → Fits 0 (past x) u
      one zero u there = subst (Fits 0 (past x)) (some-injective (opener all (past x)) u there)
          record {
            seen = whole_is_front (past x);
            shorter = (past x, refl);
            own = numbers_below 0 (length (past x)) (length (past x)) (omega arith);
            turn =
                tt;
            spent = λ z. absurd (omega arith);
          }
      one (suc j) u there = absurd (some-ne-none u (sym there))

  -- who has all parts knows the state that is left: it saw the whole history, and each place of it is its own, once
  pub closes : (id : ℕ) (v : View E) (ws : List ℕ) (xs : List (Option S)) → v.turn ≡ Rests → v.parts ≡ all → Final (Seen (Kept past all) id v) ws xs
      → (x : S) × (get_elem? xs 0 ≡ some (Some x)) × (v.seen ≡ past x) × ((q : ℕ) → times q v.own ≡ one_if (ltb q (length (past x))))
  closes id v ws xs rests whole final =
      let s = final.0 in
      let k = final.1.0 in
      let at = final.1.1 in
      let alone : sum_by (λ (u : View E). u.parts) s.views ≡ v.parts = k.parts ∙ sym whole in
      let idle : (j : ℕ) (u : View E) → j ≢ id → get_elem? s.views j ≡ some u → (u.turn ≡ Rests) × (u.own ≡ []) =
      λ j u ne there. (k.each j u there).spent (total_whole (λ (u : View E). u.parts) s.views id v at alone j u ne there) in
      let free : holds_one v ≡ 0 = ap (λ (z : Turn). one_if (is_holding z)) rests in
      let none_held : sum_by holds_one s.views ≡ 0 =
      total_only holds_one s.views id v at (λ j u ne there. ap (λ (z : Turn). one_if (is_holding z)) (idle j u ne there).0) ∙ free in
      let mine : (q : ℕ) → times q v.own ≡ one_if (ltb q (length k.log)) =
      λ q. sym (total_only (λ (u : View E). times q u.own) s.views id v at (λ j u ne there. ap (times q) (idle j u ne there).1)) ∙ k.own q in
      let fits = k.each id v at in
      let long : length k.log ≤ length v.seen = reaches (length k.log) (length v.seen) v.own fits.own mine in
      let saw : v.seen ≡ k.log = front_is_all v.seen k.log fits.seen long in
      ⊎_elim
      (λ (h : IsHome past k.log s). (
        h.0,
        final.4 0 (Some h.0) (ap (λ (hs : List (mathlib.Core.Option.Option (Option S))). get_elem? hs 0) h.1),
        saw ∙ sym h.2,
        (λ q. mine q ∙ ap (λ (l : List E). one_if (ltb q (length l))) (sym h.2)),
      ))
      (λ (o : IsOut s). absurd (let one = o.1 in omega arith))
      k.place
    where
      reaches : (n high : ℕ) (own : List ℕ) → All (λ q. q < high) own → ((q : ℕ) → times q own ≡ one_if (ltb q n)) → n ≤ high
      reaches zero high own below each_once = omega arith
      reaches (suc n) high own below each_once = let h = stands_below n high own below
          (let e = each_once n in let one = below_one_if n (suc n) (omega arith) in omega arith) in omega arith

  -- the same, where the number of parts was told
  pub cuts_told : (given said id : ℕ) (v : View E) → said ≡ given → 0 < given → given < v.parts
      → Splits {S = Option S} (Kept past all) id v (kept_of said v) (given_of said v)
  cuts_told given said id v told some_part fewer = subst (λ (n : ℕ). Splits {S = Option S} (Kept past all) id v (kept_of n v) (given_of n v)) (sym told)
      (cuts_allowed given id v some_part fewer)

  -- what is found in the slot at the end is the state
  pub closes_some : (id : ℕ) (v : View E) (ws : List ℕ) (xs : List (Option S)) → v.turn ≡ Rests → v.parts ≡ all → Final (Seen (Kept past all) id v) ws xs
      → (y : Option S) → get_elem? xs 0 ≡ some y → (x : S) × (y ≡ Some x)
  closes_some id v ws xs rests whole final y there =
      let last = closes id v ws xs rests whole final in (last.0, some-injective y (Some last.0) (sym there ∙ last.1))

  pub closes_as : (id : ℕ) (v : View E) (ws : List ℕ) (xs : List (Option S)) → v.turn ≡ Rests → v.parts ≡ all → Final (Seen (Kept past all) id v) ws xs
      → All (λ k. k < length v.seen) v.own
      → (y : Option S) → get_elem? xs 0 ≡ some y → (z : S) → y ≡ Some z
      → (v.seen ≡ past z) × IsPermutation (past z) (own_entries v) × IsPermutation (numbers 0 (length (past z))) v.own × Stands (past z) v
  closes_as id v ws xs rests whole final below y there z is =
      let last = closes id v ws xs rests whole final in
      let e : Some last.0 ≡ Some z = sym (some-injective y (Some last.0) (sym there ∙ last.1)) ∙ is in
      let same : last.0 ≡ z = cc (e) in
      let saw : v.seen ≡ past last.0 = last.2 in
      let each_once : (q : ℕ) → times q v.own ≡ one_if (ltb q (length v.seen)) = λ q. last.3 q ∙ ap (λ (l : List E). one_if (ltb q (length l))) (sym saw) in
      let now : v.seen ≡ past z = saw ∙ ap past same in
      let places : IsPermutation (numbers 0 (length v.seen)) v.own = each_number (length v.seen) v.own each_once in (
        now,
        subst (λ (l : List E). IsPermutation l (own_entries v)) now (whole_own v.seen v.own below places),
        subst (λ (l : List E). IsPermutation (numbers 0 (length l)) v.own) now places,
        own_stands v (past z) below (subst (IsPrefix v.seen) now (whole_is_front v.seen)),
      )

-- the steps of one call
pub call_steps : {S E : Type 0} (t : ℕ) (before after : List E) (m₀ m₁ m₂ m₃ : SeatState S E) → m₁ ≡ (waits t m₀.0, m₀.1)
    → m₂ ≡ (took t before m₁.0, (0, None) ∷ []) → m₃ ≡ (gave after m₂.0, [])
    → m₃.0 ≡ called before after m₀.0
call_steps {S} {E} t before after m₀ m₁ m₂ m₃ a b c =
    ap (λ (m : SeatState S E). m.0) c ∙ (ap (λ (m : SeatState S E). gave after m.0) b ∙ ap (λ (m : SeatState S E). gave after (took t before m.0)) a)

pub opener_below : {E : Type 0} (parts : ℕ) (log : List E) → All (λ k. k < length log) (opener parts log).own
opener_below parts log = numbers_below 0 (length log) (length log) (omega arith)
