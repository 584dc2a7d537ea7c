-- Each step keeps the rule of a stock.
use Rattle.std.proofs.Common.{◌≡◌, ◌⊎◌, inl, inr, ℕ, zero, suc, ◌+◌, ◌%◌, ◌<◌, ◌≤◌, ◌==◌, max, leb, ltb, Bool, true, false, true≢false, ◌&&◌, ◌||◌, List, []}
use Rattle.std.proofs.Common.{◌∷◌, ◌++◌, if◌then◌else◌, All, length, get_or, set, slice_index, sym, refl, ap, subst, ⊎_elim, ◌∙◌, arith, le_refl}
use Rattle.std.specs.List.{sum_by}
use Rattle.std.proofs.lemmas.List.Sums.{sum_by_push}
use Rattle.std.proofs.lemmas.List.Elements.{All-push, All-append}
use Rattle.std.proofs.lemmas.Bool.{ltb-true}
use Rattle.std.proofs.lemmas.Bool.Decides.{nat_tests}
use mathlib.Core.Logic.{dite}
use native.Mathlib.Decide.{ℕ_discrete}
use mathlib.Core.Option.{none}
use Rattle.atomic_table.specs.Table.{State, Me, step, keeps, Allows, Splits, Joins}
use Rattle.seat_sums.specs.Sums.{times, one_if}
use Rattle.seat_sums.proofs.lemmas.Totals.{total_le, total_set, total_at, total_two, total_whole, each_set, each_snoc, was_there, times_cons, times_push}
use Rattle.seat_sums.proofs.lemmas.Totals.{times_append, below_next, one_if_le, one_if_true, one_if_below}
use Rattle.seat_sums.proofs.lemmas.Entries.{below_none, below_higher}
use Rattle.number_stock.specs.declared.hand.Hand.{Hand}
use Rattle.number_stock.specs.Rule.{Fits, Kept, spent, drew, saw, raised, kept_of, given_of, rest_of, unused_of, leads, both_of, IsKnown, Draws, Looks, Raises, Learns}

drew_fits : (limit ticket : ℕ) (v : Hand) → Fits limit v → Fits limit (drew ticket v)
drew_fits limit ticket v f = record {
  seen = f.seen;
  set = f.set;
  led = f.led;
  below = f.below;
  low = f.low;
  own = λ t. omega (arith, f.own t, times_push t v.tickets ticket);
}

below_cons : (high x : ℕ) (xs : List ℕ) → x < high → All (λ t. t < high) xs → All (λ t. t < high) (x ∷ xs)
below_cons high x xs lt all = go
  where
    go : (k d : ℕ) → k < length (x ∷ xs) → get_or (x ∷ xs) k d < high
    go zero d l = lt
    go (suc k) d l = all k d (omega arith)

-- where each number that stands in a list is below a bound, the list is
below_all : (high : ℕ) (xs : List ℕ) → ((t : ℕ) → 0 < times t xs → t < high) → All (λ t. t < high) xs
below_all high [] stands = below_none high
below_all high (x ∷ xs) stands =
    below_cons high x xs
    (stands x (let one : one_if (x == x) ≡ 1 = grind (arith, nat_tests) in omega (arith, times_cons x x xs)))
    (below_all high xs (λ t some. stands t (omega (arith, times_cons t x xs))))

one_if_lt2 : (t n : ℕ) → one_if (ltb t n) < 2
one_if_lt2 t n = let h = one_if_le (ltb t n) in omega arith

saw_fits_if : (limit ticket : ℕ) (v : Hand) (b : Bool) → ltb ticket limit ≡ b → Fits limit v → times ticket v.answered < times ticket v.tickets
    → Fits limit record {
      draws = v.draws;
      tickets = v.tickets;
      answered = if b then v.answered ++ ticket ∷ [] else v.answered;
      drawn = if b then v.drawn ++ ticket ∷ [] else v.drawn;
      limit = limit;
      looks =
          v.looks + 1;
      raises = v.raises;
      right_leads = v.right_leads;
    }
saw_fits_if limit ticket v true is f open_yet = record {
  seen = le_refl limit;
  set = λ _. refl;
  led = f.led;
  below = All-push (λ t. t < limit) v.answered ticket (below_higher v.limit limit v.answered f.seen f.below) (ltb-true ticket limit is);
  low = All-push (λ t. t < limit) v.drawn ticket (below_higher v.limit limit v.drawn f.seen f.low) (ltb-true ticket limit is);
  own = λ t. own_more t;
}
  where
    own_more : (t : ℕ) → times t (v.answered ++ ticket ∷ []) ≤ times t v.tickets
    own_more t = dite (ℕ_discrete t ticket)
        (λ e. subst (λ n. times n (v.answered ++ ticket ∷ []) ≤ times n v.tickets) (sym e)
        (let p = times_push ticket v.answered ticket in let one = one_if_le (ticket == ticket) in omega arith))
        (λ ne. let p = times_push t v.answered ticket in let zero : one_if (t == ticket) ≡ 0 = grind (arith, nat_tests) in let was = f.own t in omega arith)
saw_fits_if limit ticket v false is f open_yet = record {
  seen = le_refl limit;
  set = λ _. refl;
  led = f.led;
  below = below_higher v.limit limit v.answered f.seen f.below;
  low = below_higher v.limit limit v.drawn f.seen f.low;
  own = f.own;
}

-- a ticket that is answered is remembered
more_drawn : (t ticket : ℕ) (b : Bool) (drawn answered : List ℕ)
    → times t (if b then drawn ++ ticket ∷ [] else drawn) + times t answered ≡ times t drawn + times t (if b then answered ++ ticket ∷ [] else answered)
more_drawn t ticket true drawn answered = omega (arith, times_push t drawn ticket, times_push t answered ticket)
more_drawn t ticket false drawn answered = refl

saw_fits : (limit found ticket : ℕ) (v : Hand) → found ≡ limit → Fits limit v → times ticket v.answered < times ticket v.tickets
    → Fits limit (saw ticket found v)
saw_fits limit found ticket v here f open_yet = subst (λ n. Fits limit (saw ticket n v)) (sym here)
    (saw_fits_if limit ticket v (ltb ticket limit) refl f open_yet)

one_if_or : (a b : Bool) → one_if a + one_if b ≤ 1 → one_if (a || b) ≡ one_if a + one_if b
one_if_or true true h = absurd (omega arith)
one_if_or true false h = refl
one_if_or false b h = omega arith

or_true : (a b : Bool) → (a || b) ≡ true → (a ≡ true) ⊎ (b ≡ true)
or_true true b e = inl refl
or_true false b e = inr e

leads_if : (b : Bool) (low high : ℕ) → (b ≡ true → low ≤ high) → (if b then leb low high else true) ≡ true
leads_if true low high le = let h = le refl in grind (arith, nat_tests)
leads_if false low high le = refl

-- the seat with the right set the present limit, and no other saw a higher one
fits_leads : (limit : ℕ) (v w : Hand) → Fits limit v → Fits limit w → leads v w ≡ true
fits_leads limit v w f g = leads_if v.raises w.limit v.limit (λ yes. let e = f.set yes in let le = g.seen in omega arith)

both_true : (a b : Bool) → a ≡ true → b ≡ true → (a && b) ≡ true
both_true a b x y = rw (x, y) refl

both_fits : (limit : ℕ) (v w : Hand) → Fits limit v → Fits limit w → Fits limit (both_of v w)
both_fits limit v w f g = let f₀ = f.seen in let g₀ = g.seen in record {
  seen = omega arith;
  set = λ yes. ⊎_elim (λ a. let e = f.set a in omega arith) (λ b. let e = g.set b in omega arith) (or_true v.raises w.raises yes);
  led = both_true (leads v w) (leads w v) (fits_leads limit v w f g) (fits_leads limit w v g f);
  below = All-append (λ t. t < max v.limit w.limit) v.answered w.answered
      (below_higher v.limit (max v.limit w.limit) v.answered (omega arith) f.below)
      (below_higher w.limit (max v.limit w.limit) w.answered (omega arith) g.below);
  low = All-append (λ t. t < max v.limit w.limit) v.drawn w.drawn
      (below_higher v.limit (max v.limit w.limit) v.drawn (omega arith) f.low)
      (below_higher w.limit (max v.limit w.limit) w.drawn (omega arith) g.low);
  own = λ t. let a = f.own t in let b = g.own t in omega (arith, times_append t v.answered w.answered, times_append t v.tickets w.tickets);
}

spent_fits : (limit : ℕ) → Fits limit spent
spent_fits limit = record {
  seen = omega arith;
  set = λ yes. absurd (true≢false (sym yes));
  led = refl;
  below = below_none 0;
  low = below_none 0;
  own = λ t. omega arith;
}

module _ {S : Type 0} where
  word_0 : (s : State S Hand) (n l : ℕ) → s.words ≡ n ∷ l ∷ [] → slice_index s.words 0 ≡ n
  word_0 s n l e = ap (λ (ws : List ℕ). slice_index ws 0) e

  word_1 : (s : State S Hand) (n l : ℕ) → s.words ≡ n ∷ l ∷ [] → slice_index s.words 1 ≡ l
  word_1 s n l e = ap (λ (ws : List ℕ). slice_index ws 1) e

  pub draws_allowed : (draws slots id : ℕ) (me : Me S Hand) → draws < 18446744073709551616 → 0 < me.0.draws
      → Allows (Kept draws) slots id me 0 (λ n. (n + 1) % 18446744073709551616) (Draws (step slots 0 1 0 none) me)
  draws_allowed draws slots id me fit left s k _ at _ =
      let v = me.0 in
      let found = slice_index s.words 0 in
      let here : found ≡ k.next = word_0 s k.next k.limit k.words in
      let w = drew found v in
      let room : v.draws ≤ sum_by (λ (u : Hand). u.draws) s.views = total_at (λ (u : Hand). u.draws) s.views id v at in
      let all = k.draws_left in
      let up : (found + 1) % 18446744073709551616 ≡ k.next + 1 = omega arith in (
        w,
        keeps,
        tt,
        record {
          next = k.next + 1;
          limit = k.limit;
          words = ap (λ (ws : List ℕ). set ws 0 ((found + 1) % 18446744073709551616)) k.words ∙ ap (λ (n : ℕ). n ∷ k.limit ∷ []) up;
          tickets = λ t.
              let was = k.tickets t in
              let change = total_set (λ (u : Hand). times t u.tickets) s.views id v w at in
              let more = times_push t v.tickets found in
              let same : one_if (t == found) ≡ one_if (t == k.next) = ap (λ (n : ℕ). one_if (t == n)) here in
              omega (arith, below_next t k.next);
          draws_left = let change = total_set (λ (u : Hand). u.draws) s.views id v w at in omega arith;
          one_raises = let change = total_set (λ (u : Hand). one_if u.raises) s.views id v w at in let was = k.one_raises in omega arith;
          remembered = λ t.
              let was = k.remembered t in
              let one = total_set (λ (u : Hand). times t u.drawn) s.views id v w at in
              let two = total_set (λ (u : Hand). times t u.answered) s.views id v w at in omega arith;
          each = each_set (λ _. Fits k.limit) s.views id w (drew_fits k.limit found v (k.each id v at)) (λ j u _ there. k.each j u there);
        },
        (
          refl,
          (
            (let low = total_at (λ (u : Hand). times found u.tickets) s.views id v at in let were = k.tickets found in
                let past : one_if (ltb found k.next) ≡ 0 = grind (arith, nat_tests) in omega arith),
            below_all found v.tickets
                (λ t some. let low = total_at (λ (u : Hand). times t u.tickets) s.views id v at in let were = k.tickets t in let lt =
                one_if_below t k.next (omega arith) in omega arith),
          ),
          (let own = (k.each id v at).own found in let one : one_if (found == found) ≡ 1 = grind (arith, nat_tests) in
              omega (arith, times_push found v.tickets found)),
        ),
      )

  pub looks_allowed : (draws ticket slots id : ℕ) (me : Me S Hand) → times ticket me.0.answered < times ticket me.0.tickets
      → Allows (Kept draws) slots id me 1 (λ n. n) (Looks draws ticket (step slots 1 0 0 none) me)
  looks_allowed draws ticket slots id me open_yet s k _ at _ =
      let v = me.0 in
      let found = slice_index s.words 1 in
      let here : found ≡ k.limit = word_1 s k.next k.limit k.words in
      let w = saw ticket found v in
      let fits = k.each id v at in
      let one : times ticket v.tickets ≤ sum_by (λ (u : Hand). times ticket u.tickets) s.views =
      total_at (λ (u : Hand). times ticket u.tickets) s.views id v at in
      let low : ticket < k.next = one_if_below ticket k.next (let all = k.tickets ticket in omega arith) in
      let all = k.draws_left in (
        w,
        keeps,
        tt,
        record {
          next = k.next;
          limit = k.limit;
          words = ap (λ (ws : List ℕ). set ws 1 (slice_index ws 1)) k.words;
          tickets = λ t. let was = k.tickets t in let change = total_set (λ (u : Hand). times t u.tickets) s.views id v w at in omega arith;
          draws_left = let change = total_set (λ (u : Hand). u.draws) s.views id v w at in omega arith;
          one_raises = let change = total_set (λ (u : Hand). one_if u.raises) s.views id v w at in let was = k.one_raises in omega arith;
          remembered = λ t.
              let was = k.remembered t in
              let one = total_set (λ (u : Hand). times t u.drawn) s.views id v w at in
              let two = total_set (λ (u : Hand). times t u.answered) s.views id v w at in
              omega (arith, more_drawn t ticket (ltb ticket found) v.drawn v.answered);
          each = each_set (λ _. Fits k.limit) s.views id w (saw_fits k.limit found ticket v here fits open_yet) (λ j u _ there. k.each j u there);
        },
        (refl, (let low = fits.seen in omega arith), (λ yes. here ∙ sym (fits.set yes)), omega arith),
      )

  pub raises_allowed : (draws limit slots id : ℕ) (me : Me S Hand) → me.0.raises ≡ true
      → Allows (Kept draws) slots id me 1 (λ n. max n limit) (Raises (step slots 1 limit 0 none) me)
  raises_allowed draws limit slots id me may s k _ at _ =
      let v = me.0 in
      let found = slice_index s.words 1 in
      let here : found ≡ k.limit = word_1 s k.next k.limit k.words in
      let w = raised limit v in
      let mine = k.each id v at in
      let set_last : v.limit ≡ k.limit = mine.set may in
      let now : ℕ = max k.limit limit in
      let only : sum_by (λ (u : Hand). one_if u.raises) s.views ≡ one_if v.raises = k.one_raises ∙ sym (one_if_true v.raises may) in (
        w,
        keeps,
        tt,
        record {
          next = k.next;
          limit = now;
          words = ap (λ (ws : List ℕ). set ws 1 (max (slice_index ws 1) limit)) k.words;
          tickets = λ t. let was = k.tickets t in let change = total_set (λ (u : Hand). times t u.tickets) s.views id v w at in omega arith;
          draws_left = let change = total_set (λ (u : Hand). u.draws) s.views id v w at in let was = k.draws_left in omega arith;
          one_raises = let change = total_set (λ (u : Hand). one_if u.raises) s.views id v w at in let was = k.one_raises in omega arith;
          remembered = λ t.
              let was = k.remembered t in
              let one = total_set (λ (u : Hand). times t u.drawn) s.views id v w at in
              let two = total_set (λ (u : Hand). times t u.answered) s.views id v w at in omega arith;
          each = each_set (λ _. Fits now) s.views id w
              record {
                seen = omega arith;
                set = λ _. ap (λ (n : ℕ). max n limit) set_last;
                led = mine.led;
                below = below_higher v.limit (max v.limit limit) v.answered (omega arith) mine.below;
                low = below_higher v.limit (max v.limit limit) v.drawn (omega arith) mine.low;
                own = mine.own;
              }
              (λ j u ne there.
              let f = k.each j u there in
              let none_there : one_if u.raises ≡ 0 = total_whole (λ (x : Hand). one_if x.raises) s.views id v at only j u ne there in
              record {
                seen = (let low = f.seen in omega arith);
                set = λ yes. absurd (let one = one_if_true u.raises yes in omega arith);
                led = f.led;
                below =
                    f.below;
                low = f.low;
                own = f.own;
              });
        },
        refl,
      )

  pub learns_allowed : (draws slots id : ℕ) (me : Me S Hand) → Allows (Kept draws) slots id me 0 (λ n. n) (Learns draws (step slots 0 0 0 none) me)
  learns_allowed draws slots id me s k _ at _ =
      let v = me.0 in
      let mine = k.each id v at in (
        v,
        keeps,
        tt,
        record {
          next = k.next;
          limit = k.limit;
          words = ap (λ (ws : List ℕ). set ws 0 (slice_index ws 0)) k.words;
          tickets = λ t. let was = k.tickets t in let change = total_set (λ (u : Hand). times t u.tickets) s.views id v v at in omega arith;
          draws_left = let change = total_set (λ (u : Hand). u.draws) s.views id v v at in let was = k.draws_left in omega arith;
          one_raises = let change = total_set (λ (u : Hand). one_if u.raises) s.views id v v at in let was = k.one_raises in omega arith;
          remembered = λ t.
              let was = k.remembered t in
              let one = total_set (λ (u : Hand). times t u.drawn) s.views id v v at in
              let two = total_set (λ (u : Hand). times t u.answered) s.views id v v at in omega arith;
          each = each_set (λ _. Fits k.limit) s.views id v mine (λ j u _ there. k.each j u there);
        },
        (
          refl,
          (let low : v.draws ≤ sum_by (λ (u : Hand). u.draws) s.views = total_at (λ (u : Hand). u.draws) s.views id v at in let all = k.draws_left in
              omega arith),
          (λ t. let low = total_at (λ (u : Hand). times t u.tickets) s.views id v at in let all = k.tickets t in let few = one_if_lt2 t k.next in omega arith),
          (λ t. let own = mine.own t in let low = total_at (λ (u : Hand). times t u.tickets) s.views id v at in let all = k.tickets t in let few =
              one_if_lt2 t k.next in omega arith),
          mine.below,
          mine.led,
          (
            (λ t.
                let low = total_at (λ (u : Hand). times t u.drawn) s.views id v at in
                let same = k.remembered t in
                let few = total_le (λ (u : Hand). times t u.answered) (λ (u : Hand). times t u.tickets) s.views (λ j u there. (k.each j u there).own t) in
                let all = k.tickets t in
                let one = one_if_lt2 t k.next in omega arith),
            mine.low,
          ),
        ),
      )

  pub cuts_allowed : (draws given id : ℕ) (v : Hand) → given ≤ v.draws → Splits {S = S} (Kept draws) id v (kept_of given v) (given_of given v)
  cuts_allowed draws given id v enough s k at =
      let l = kept_of given v in
      let r = given_of given v in
      let mine = k.each id v at in
      let views = set s.views id l in record {
        next = k.next;
        limit = k.limit;
        words = k.words;
        tickets = λ t.
            let was = k.tickets t in
            let change = total_set (λ (u : Hand). times t u.tickets) s.views id v l at in
            let more = sum_by_push (λ (u : Hand). times t u.tickets) views r in omega arith;
        draws_left =
            let was = k.draws_left in
            let change = total_set (λ (u : Hand). u.draws) s.views id v l at in
            let more = sum_by_push (λ (u : Hand). u.draws) views r in omega arith;
        one_raises =
            let was = k.one_raises in
            let change = total_set (λ (u : Hand). one_if u.raises) s.views id v l at in
            let more = sum_by_push (λ (u : Hand). one_if u.raises) views r in omega arith;
        remembered = λ t.
            let was = k.remembered t in
            let one = total_set (λ (u : Hand). times t u.drawn) s.views id v l at in
            let two = total_set (λ (u : Hand). times t u.answered) s.views id v l at in
            let more = sum_by_push (λ (u : Hand). times t u.drawn) views r in
            let also = sum_by_push (λ (u : Hand). times t u.answered) views r in omega arith;
        each = each_snoc (Fits k.limit) views r
            record {
              seen = mine.seen;
              set = λ yes. absurd (true≢false (sym yes));
              led = refl;
              below = below_none v.limit;
              low = below_none v.limit;
              own =
                  λ t. omega arith;
            }
            (each_set (λ _. Fits k.limit) s.views id l
            record { seen = mine.seen; set = mine.set; led = mine.led; below = mine.below; low = mine.low; own = mine.own }
            (λ j u _ there. k.each j u there));
      }

  pub yields_allowed : (draws id : ℕ) (v : Hand) → Splits {S = S} (Kept draws) id v (rest_of v) (unused_of v)
  yields_allowed draws id v s k at =
      let l = rest_of v in
      let r = unused_of v in
      let mine = k.each id v at in
      let views = set s.views id l in record {
        next = k.next;
        limit = k.limit;
        words = k.words;
        tickets = λ t.
            let was = k.tickets t in
            let change = total_set (λ (u : Hand). times t u.tickets) s.views id v l at in
            let more = sum_by_push (λ (u : Hand). times t u.tickets) views r in omega arith;
        draws_left =
            let was = k.draws_left in
            let change = total_set (λ (u : Hand). u.draws) s.views id v l at in
            let more = sum_by_push (λ (u : Hand). u.draws) views r in omega arith;
        one_raises =
            let was = k.one_raises in
            let change = total_set (λ (u : Hand). one_if u.raises) s.views id v l at in
            let more = sum_by_push (λ (u : Hand). one_if u.raises) views r in omega arith;
        remembered = λ t.
            let was = k.remembered t in
            let one = total_set (λ (u : Hand). times t u.drawn) s.views id v l at in
            let two = total_set (λ (u : Hand). times t u.answered) s.views id v l at in
            let more = sum_by_push (λ (u : Hand). times t u.drawn) views r in
            let also = sum_by_push (λ (u : Hand). times t u.answered) views r in omega arith;
        each = each_snoc (Fits k.limit) views r
            record {
              seen = mine.seen;
              set = λ yes. absurd (true≢false (sym yes));
              led = refl;
              below = below_none v.limit;
              low = mine.low;
              own =
                  λ t. omega arith;
            }
            (each_set (λ _. Fits k.limit) s.views id l
            record { seen = mine.seen; set = mine.set; led = mine.led; below = mine.below; low = below_none v.limit; own = mine.own }
            (λ j u _ there. k.each j u there));
      }

  pub glues_allowed : (draws id : ℕ) (v : Hand) (other : ℕ) (w : Hand) → Joins {S = S} (Kept draws) id v other w (both_of v w) spent
  glues_allowed draws id v other w s k at ne there =
      let b = both_of v w in
      let views = set s.views id b in
      let was_at = was_there s.views id other b w ne there in record {
        next = k.next;
        limit = k.limit;
        words = k.words;
        tickets = λ t.
            let was = k.tickets t in
            let one = total_set (λ (u : Hand). times t u.tickets) s.views id v b at in
            let two = total_set (λ (u : Hand). times t u.tickets) views other w spent there in
            omega (arith, times_append t v.tickets w.tickets);
        draws_left =
            let was = k.draws_left in
            let one = total_set (λ (u : Hand). u.draws) s.views id v b at in
            let two = total_set (λ (u : Hand). u.draws) views other w spent there in omega arith;
        one_raises =
            let was = k.one_raises in
            let few = total_two (λ (u : Hand). one_if u.raises) s.views id other v w ne at was_at in
            let one = total_set (λ (u : Hand). one_if u.raises) s.views id v b at in
            let two = total_set (λ (u : Hand). one_if u.raises) views other w spent there in
            omega (arith, one_if_or v.raises w.raises (omega arith));
        remembered = λ t.
            let was = k.remembered t in
            let one = total_set (λ (u : Hand). times t u.drawn) s.views id v b at in
            let two = total_set (λ (u : Hand). times t u.drawn) views other w spent there in
            let three = total_set (λ (u : Hand). times t u.answered) s.views id v b at in
            let four = total_set (λ (u : Hand). times t u.answered) views other w spent there in
            omega (arith, times_append t v.drawn w.drawn, times_append t v.answered w.answered);
        each = each_set (λ _. Fits k.limit) views other spent (spent_fits k.limit)
            (λ j u _ e. each_set (λ _. Fits k.limit) s.views id b (both_fits k.limit v w (k.each id v at) (k.each other w was_at))
            (λ i y _ e'. k.each i y e') j u e);
      }

  -- the same, where the numbers were told
  pub looks_told : (draws said ticket told slots id : ℕ) (me : Me S Hand) → told ≡ ticket → said ≡ draws
      → times ticket me.0.answered < times ticket me.0.tickets
      → Allows (Kept draws) slots id me 1 (λ n. n) (Looks said told (step slots 1 0 0 none) me)
  looks_told draws said ticket told slots id me t d open_yet =
      subst (λ (x : ℕ × ℕ). Allows (Kept draws) slots id me 1 (λ n. n) (Looks x.0 x.1 (step slots 1 0 0 none) me)) (λ i. (sym d i, sym t i))
      (looks_allowed draws ticket slots id me open_yet)

  pub learns_told : (draws said slots id : ℕ) (me : Me S Hand) → said ≡ draws
      → Allows (Kept draws) slots id me 0 (λ n. n) (Learns said (step slots 0 0 0 none) me)
  learns_told draws said slots id me d = subst (λ (n : ℕ). Allows (Kept draws) slots id me 0 (λ n. n) (Learns n (step slots 0 0 0 none) me)) (sym d)
      (learns_allowed draws slots id me)

leads_limit : (v w : Hand) → leads v w ≡ true → v.raises ≡ true → max v.limit w.limit ≡ v.limit
leads_limit v w h may = let le : leb w.limit v.limit ≡ true = sym (ap (λ (b : Bool). if b then leb w.limit v.limit else true) may) ∙ h in
    grind (arith, nat_tests)

both_left : (a b : Bool) → (a && b) ≡ true → a ≡ true
both_left true b e = refl
both_left false b e = e

both_right : (a b : Bool) → (a && b) ≡ true → b ≡ true
both_right true b e = e
both_right false b e = absurd (true≢false (sym e))

-- a seat with the right to raise keeps its limit where it is joined
pub joined_limit : (v w u : Hand) → u ≡ both_of v w → u.right_leads ≡ true → IsKnown u.limit v × IsKnown u.limit w
joined_limit v w u is led =
    let both : (leads v w && leads w v) ≡ true = sym (ap (λ (x : Hand). x.right_leads) is) ∙ led in
    let limit : u.limit ≡ max v.limit w.limit = ap (λ (x : Hand). x.limit) is in (
      (λ yes. limit ∙ leads_limit v w (both_left (leads v w) (leads w v) both) yes),
      (λ yes. let h = leads_limit w v (both_right (leads v w) (leads w v) both) yes in omega arith),
    )
