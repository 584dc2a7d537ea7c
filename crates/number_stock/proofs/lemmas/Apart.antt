-- A seat that two were joined into may be taken apart again, and a seat is told of a limit.
use Rattle.std.proofs.Common.{◌≡◌, ℕ, ◌+◌, ◌-◌, ◌<◌, max, Bool, true, false, true≢false, ◌||◌, List, [], ◌∷◌, ◌++◌, suc, All, set, slice_index, refl, sym, ap, subst, ◌∙◌, arith, append-nil}
use Rattle.std.proofs.lemmas.List.{get_or_append_left, length-append}
use Rattle.std.proofs.lemmas.List.Sums.{sum_by_push}
use mathlib.Core.Option.{none}
use Rattle.atomic_table.specs.Table.{Me, step, keeps, Allows, Splits}
use Rattle.seat_sums.specs.Sums.{times, one_if}
use Rattle.seat_sums.proofs.lemmas.Totals.{total_set, each_set, each_snoc, times_append}
use Rattle.number_stock.specs.declared.hand.Hand.{Hand}
use Rattle.number_stock.specs.Rule.{Fits, Kept, IsJoined, IsKnown, IsSame, Owns, OwnsAnswers, both_of, given_of, heard, kept_of, parted, rest_of, unused_of}

-- what is so of the answers of a joined seat is so of each one's
pub all_front : (P : ℕ → Type 0) (xs ys : List ℕ) → All P (xs ++ ys) → All P xs
all_front P xs ys h = λ k d lt. subst P (get_or_append_left xs ys d k lt) (h k d (omega (arith, lt, length-append xs ys)))

pub all_back : (P : ℕ → Type 0) (xs ys : List ℕ) → All P (xs ++ ys) → All P ys
all_back P [] ys h = h
all_back P (x ∷ xs) ys h = all_back P xs ys (λ k d lt. h (suc k) d (omega arith))

right_stays : (a b c : Bool) → a ≡ (b || c) → c ≡ false → a ≡ b
right_stays a true c is off = is
right_stays a false c is off = is ∙ off

parted_fits : (limit : ℕ) (v u : Hand) → OwnsAnswers v → All (λ t. t < u.limit) v.answered → All (λ t. t < u.limit) v.drawn
    → (v.raises ≡ true → u.raises ≡ true) → Fits limit u → Fits limit (parted v u)
parted_fits limit v u owns below low right f = record { seen = f.seen; set = λ yes. f.set (right yes); led = refl; below = below; low = low; own = owns }

module _ {S : Type 0} where
  pub parts_allowed : (draws id : ℕ) (v w u : Hand) → IsJoined v w u → Splits {S = S} (Kept draws) id u (parted v u) (parted w u)
  parts_allowed draws id v w u j s k at =
      let l = parted v u in
      let r = parted w u in
      let mine = k.each id u at in
      let views = set s.views id l in
      let below : All (λ t. t < u.limit) (v.answered ++ w.answered) = subst (All (λ t. t < u.limit)) j.answered mine.below in
      let low : All (λ t. t < u.limit) (v.drawn ++ w.drawn) = subst (All (λ t. t < u.limit)) j.drawn mine.low in
      let right : u.raises ≡ v.raises = right_stays u.raises v.raises w.raises j.raises j.second in record {
        next = k.next;
        limit = k.limit;
        words = k.words;
        tickets = λ t.
            let was = k.tickets t in
            let change = total_set (λ (x : Hand). times t x.tickets) s.views id u l at in
            let more = sum_by_push (λ (x : Hand). times t x.tickets) views r in
            let whole : times t u.tickets ≡ times t v.tickets + times t w.tickets = ap (times t) j.tickets ∙ times_append t v.tickets w.tickets in
            omega arith;
        draws_left =
            let was = k.draws_left in
            let change = total_set (λ (x : Hand). x.draws) s.views id u l at in
            let more = sum_by_push (λ (x : Hand). x.draws) views r in
            let whole = j.draws in omega arith;
        one_raises =
            let was = k.one_raises in
            let change = total_set (λ (x : Hand). one_if x.raises) s.views id u l at in
            let more = sum_by_push (λ (x : Hand). one_if x.raises) views r in
            let first : one_if u.raises ≡ one_if v.raises = ap one_if right in
            let second : one_if w.raises ≡ 0 = ap one_if j.second in omega arith;
        remembered = λ t.
            let was = k.remembered t in
            let one = total_set (λ (x : Hand). times t x.drawn) s.views id u l at in
            let two = total_set (λ (x : Hand). times t x.answered) s.views id u l at in
            let more = sum_by_push (λ (x : Hand). times t x.drawn) views r in
            let also = sum_by_push (λ (x : Hand). times t x.answered) views r in
            let whole : times t u.drawn ≡ times t v.drawn + times t w.drawn = ap (times t) j.drawn ∙ times_append t v.drawn w.drawn in
            let both : times t u.answered ≡ times t v.answered + times t w.answered = ap (times t) j.answered ∙ times_append t v.answered w.answered in
            omega arith;
        each = each_snoc (Fits k.limit) views r
            (parted_fits k.limit w u j.owns.1 (all_back (λ t. t < u.limit) v.answered w.answered below)
            (all_back (λ t. t < u.limit) v.drawn w.drawn low) (λ yes. absurd (true≢false (sym yes ∙ j.second))) mine)
            (each_set (λ _. Fits k.limit) s.views id l
            (parted_fits k.limit v u j.owns.0 (all_front (λ t. t < u.limit) v.answered w.answered below)
            (all_front (λ t. t < u.limit) v.drawn w.drawn low) (λ yes. right ∙ yes) mine)
            (λ j u _ there. k.each j u there));
      }

  pub owns_allowed : (draws slots id : ℕ) (me : Me S Hand) → Allows (Kept draws) slots id me 0 (λ n. n) (Owns (step slots 0 0 0 none) me)
  owns_allowed draws slots id me s k _ at _ =
      let v = me.0 in
      let mine = k.each id v at in (
        v,
        keeps,
        tt,
        record {
          next = k.next;
          limit = k.limit;
          words = ap (λ (ws : List ℕ). set ws 0 (slice_index ws 0)) k.words;
          tickets = λ t. let was = k.tickets t in let change = total_set (λ (u : Hand). times t u.tickets) s.views id v v at in omega arith;
          draws_left = let change = total_set (λ (u : Hand). u.draws) s.views id v v at in let was = k.draws_left in omega arith;
          one_raises = let change = total_set (λ (u : Hand). one_if u.raises) s.views id v v at in let was = k.one_raises in omega arith;
          remembered = λ t.
              let was = k.remembered t in
              let one = total_set (λ (u : Hand). times t u.drawn) s.views id v v at in
              let two = total_set (λ (u : Hand). times t u.answered) s.views id v v at in omega arith;
          each = each_set (λ _. Fits k.limit) s.views id v mine (λ j u _ there. k.each j u there);
        },
        (refl, mine.own),
      )

minus_none : (n : ℕ) → n - 0 ≡ n
minus_none n = omega arith

plus_none : (n : ℕ) → n + 0 ≡ n
plus_none n = omega arith

or_none : (b : Bool) → (b || false) ≡ b
or_none true = refl
or_none false = refl

-- a seat that gives no draw away is as it was
pub kept_none : (v : Hand) → kept_of 0 v ≡ v
kept_none v = λ i. record {
  draws = minus_none v.draws i;
  tickets = v.tickets;
  answered = v.answered;
  drawn = v.drawn;
  limit = v.limit;
  looks = v.looks;
  raises = v.raises;
  right_leads =
      v.right_leads;
}

-- a seat that takes none in learns the limit alone
pub heard_is : (from to u : Hand) → u ≡ both_of to (given_of 0 from) → u.right_leads ≡ true → u ≡ heard from.limit to
heard_is from to u is led =
    let whole : (both_of to (given_of 0 from)).right_leads ≡ true = sym (ap (λ (x : Hand). x.right_leads) is) ∙ led in
    is
    ∙ (λ i. record {
      draws = plus_none to.draws i;
      tickets = append-nil to.tickets i;
      answered = append-nil to.answered i;
      drawn = append-nil to.drawn i;
      limit = max to.limit from.limit;
      looks = plus_none to.looks i;
      raises = or_none to.raises i;
      right_leads = whole i;
    })

-- what `join` says of two seats, of which each has answered none but its own tickets
pub was_joined : (v w u : Hand) → u ≡ both_of v w → w.raises ≡ false → OwnsAnswers v → OwnsAnswers w → IsJoined v w u
was_joined v w u is second first_owns second_owns = record {
  draws = ap (λ (x : Hand). x.draws) is;
  tickets = ap (λ (x : Hand). x.tickets) is;
  answered = ap (λ (x : Hand). x.answered) is;
  drawn = ap (λ (x : Hand). x.drawn) is;
  raises = ap (λ (x : Hand). x.raises) is;
  second = second;
  owns = (first_owns, second_owns);
}

-- a seat that was compared is as it was, but for the limit that it knows
pub first_same : (v w u : Hand) → u ≡ both_of v w → IsKnown u.limit v → IsSame v (parted v u)
first_same v w u is known = record {
  draws = refl;
  tickets = refl;
  answered = refl;
  drawn = refl;
  raises = refl;
  limit = let limit : u.limit ≡ max v.limit w.limit = ap (λ (x : Hand). x.limit) is in omega (arith, limit);
  known = known;
}

pub second_same : (v u : Hand) → v.raises ≡ false → IsSame v (both_of (unused_of v) (parted (rest_of v) u))
second_same v u plain = record {
  draws = plus_none v.draws;
  tickets = refl;
  answered = refl;
  drawn = append-nil v.drawn;
  raises = refl;
  limit = omega arith;
  known = λ yes. absurd (true≢false (sym yes ∙ plain));
}
