-- Each step keeps the rule of the gauges.
use Rattle.std.proofs.Common.{◌≡◌, ◌≢◌, ℕ, zero, suc, ◌+◌, ◌%◌, ◌<◌, ◌≤◌, true, false, true≢false, List, [], ◌∷◌, ◌++◌, length, All, set, slice_index}
use Rattle.std.proofs.Common.{slice_get, Some, sym, refl, ap, subst, ◌∙◌, arith, le_refl, length-append, length-set}
use Rattle.std.specs.List.{sum_by}
use Rattle.std.proofs.lemmas.List.Sums.{sum_by_push, sum_by-cons}
use Rattle.std.proofs.lemmas.List.Elements.{All-push}
use Rattle.std.proofs.lemmas.List.Sorted.{IsNonDecreasingBy-short}
use Rattle.std.proofs.lemmas.Option.{slice_get_within}
use mathlib.Core.Logic.{dite}
use mathlib.Core.Option.{none, some, some-ne-none, some-injective}
use mathlib.Core.List.{IsPrefix}
use native.Mathlib.Decide.{ℕ_discrete}
use lib.ListN.{get_elem?}
use Rattle.atomic_table.specs.Table.{State, Me, step, keeps, Allows, Splits, Joins, opening}
use Rattle.enq_base.specs.declared.condition.Readings.{Readings}
use Rattle.seat_sums.specs.Entries.{entries_at}
use Rattle.seat_sums.specs.Sums.{one_if}
use Rattle.seat_sums.proofs.lemmas.Beginnings.{front_is_all}
use Rattle.seat_sums.proofs.lemmas.Entries.{below_higher, entries_longer, same_there}
use Rattle.seat_sums.proofs.lemmas.Totals.{total_set, total_whole, total_only, total_le, each_set, each_snoc, was_there, one_if_true}
use Rattle.gauges.specs.declared.watch.Watch.{Watch}
use Rattle.gauges.specs.Rule.{words_of, Fits, Kept, opener, writer_of, reader_of, took_in, spent, found_so_far, looked, begun, published, Starts, Reads, Looks}
use Rattle.gauges.specs.Rule.{Repeats, Begins, Writes, Publishes, Notes, Learns}
use Rattle.gauges.proofs.Views.{half_one, writes_one, half_few, set_same, read_more, write_more, words_injective, last_there, lower_pasts, found_fits}
use Rattle.gauges.proofs.Views.{looked_fits, rises, rewritten, told_more, shown_later, writer_fits, reader_fits, spent_fits, took_in_fits}

past_at : (rs : List Readings) (k high : ℕ) (r : Readings) → All (λ x. x.past ≤ high) rs → slice_get rs k ≡ Some r → r.past ≤ high
past_at [] k high r all there = absurd (cc (there))
past_at (x ∷ xs) zero high r all there = let same : x ≡ r = cc (there) in subst (λ (y : Readings). y.past ≤ high) same (all 0 x (omega arith))
past_at (x ∷ xs) (suc k) high r all there = past_at xs k high r (λ j d lt. all (suc j) d (omega arith)) there

module _ {S : Type 0} where
  -- a step that changes one view alone
  quiet : (s : State S Watch) (ws : List ℕ) (id : ℕ) (v w : Watch) (k : Kept s) → ws ≡ s.words → get_elem? s.views id ≡ some v → w.writes ≡ v.writes
      → w.halfway ≡ v.halfway
      → Fits k.sequence k.words k.told k.place k.shown w → Kept record { words = ws; homes = s.homes; views = set s.views id w }
  quiet s ws id v w k same at e e' f =
      let half : half_one w ≡ half_one v = ap one_if e' in
      let right : writes_one w ≡ writes_one v = ap one_if e in
      let halves : sum_by half_one (set s.views id w) ≡ sum_by half_one s.views = (let change = total_set half_one s.views id v w at in omega arith) in record {
        sequence = k.sequence;
        words = k.words;
        told = k.told;
        place = k.place;
        shown = k.shown;
        turns = k.turns;
        words_are = same ∙ k.words_are;
        five = k.five;
        parity = k.parity ∙ ap (λ (n : ℕ). k.turns + k.turns + n) (sym halves);
        one_writes = let was = k.one_writes in let change = total_set writes_one s.views id v w at in omega arith;
        stands = k.stands;
        whole = λ z. k.whole (sym halves ∙ z);
        each = each_set (λ _. Fits k.sequence k.words k.told k.place k.shown) s.views id w f (λ j u _ there. k.each j u there);
      }

  -- at most one is halfway
  few_halves : (s : State S Watch) (k : Kept s) → sum_by half_one s.views ≤ 1
  few_halves s k = let le = total_le half_one writes_one s.views (λ j u there. half_few u.halfway u.writes (λ yes. ((k.each j u there).half yes).0)) in
      let one = k.one_writes in omega arith

  -- besides the one that publishes none is halfway, and none publishes
  others_rest : (s : State S Watch) (k : Kept s) (id : ℕ) (v : Watch) → v.writes ≡ true → get_elem? s.views id ≡ some v → (j : ℕ) (u : Watch) → j ≢ id
      → get_elem? s.views j ≡ some u → (half_one u ≡ 0) × (writes_one u ≡ 0)
  others_rest s k id v may at j u ne there =
      let alone : sum_by writes_one s.views ≡ writes_one v = k.one_writes ∙ sym (one_if_true v.writes may) in
      let quiet_one : writes_one u ≡ 0 = total_whole writes_one s.views id v at alone j u ne there in
      let le = half_few u.halfway u.writes (λ yes. ((k.each j u there).half yes).0) in
      (omega arith, quiet_one)

  only_half : (s : State S Watch) (k : Kept s) (id : ℕ) (v : Watch) → v.writes ≡ true → get_elem? s.views id ≡ some v → sum_by half_one s.views ≡ half_one v
  only_half s k id v may at = total_only half_one s.views id v at (λ j u ne there. (others_rest s k id v may at j u ne there).0)

  pub starts_allowed : (slots id : ℕ) (me : Me S Watch) → me.0.halfway ≡ false → Allows Kept slots id me 0 (λ n. n) (Starts (step slots 0 0 0 none) me)
  starts_allowed slots id me rests s k _ at _ =
      let v = me.0 in
      let found = slice_index s.words 0 in
      let here : found ≡ k.sequence = ap (λ (ws : List ℕ). slice_index ws 0) k.words_are in
      let w = found_so_far found [] v in
      let f = found_fits k.sequence k.words k.told k.place k.shown v found [] rests (omega arith) (λ _. here) (λ n e e'. (k.words, refl)) (k.each id v at) in
      (w, keeps, tt, quiet s (set s.words 0 found) id v w k (set_same s.words 0) at refl refl f, refl)

  pub reads_allowed : (slots id j : ℕ) (me : Me S Watch) → me.0.halfway ≡ false → length me.0.words + 1 ≡ j → j ≤ 5
      → Allows Kept slots id me j (λ n. n) (Reads (step slots j 0 0 none) me)
  reads_allowed slots id j me rests next few s k _ at _ =
      let v = me.0 in
      let fits = k.each id v at in
      let found = slice_index s.words j in
      let index : j ≡ suc (length v.words) = omega arith in
      let here : found ≡ slice_index k.words (length v.words) = ap (λ (ws : List ℕ). slice_index ws j) k.words_are
      ∙ ap (λ (i : ℕ). slice_index (k.sequence ∷ k.words) i) index in
      let ws = v.words ++ found ∷ [] in
      let w = found_so_far v.sequence ws v in
      let five = k.five in
      let read : (n : ℕ) → v.sequence ≡ n + n → k.sequence ≡ v.sequence → IsPrefix ws k.words =
      λ n e e'. subst (λ (x : ℕ). IsPrefix (v.words ++ x ∷ []) k.words) (sym here) (read_more v.words k.words (fits.read n e e') (omega arith)) in
      let f = found_fits k.sequence k.words k.told k.place k.shown v v.sequence ws rests fits.known (λ yes. (fits.writer yes).counts) read fits in
      (w, keeps, tt, quiet s (set s.words j found) id v w k (set_same s.words j) at refl refl f, refl)

  pub looks_allowed : (slots id n : ℕ) (me : Me S Watch) → me.0.looks ≡ true → me.0.writes ≡ false → me.0.halfway ≡ false → me.0.sequence ≡ n + n
      → length me.0.words ≡ 5
      → Allows Kept slots id me 0 (λ n. n) (Looks (step slots 0 0 0 none) me)
  looks_allowed slots id n me looks reads rests even all s k _ at _ =
      let v = me.0 in
      let fits = k.each id v at in
      let found = slice_index s.words 0 in
      let here : found ≡ k.sequence = ap (λ (ws : List ℕ). slice_index ws 0) k.words_are in
      dite (ℕ_discrete found v.sequence)
      (λ hit.
      let still : k.sequence ≡ v.sequence = sym here ∙ hit in
      let few = few_halves s k in
      let odd = k.parity in
      let none_half : sum_by half_one s.views ≡ 0 = omega arith in
      let five = k.five in
      let same : v.words ≡ k.words = front_is_all v.words k.words (fits.read n even still) (omega arith) in
      let o = fits.older looks in
      let w = looked k.shown k.place v in
      let f = looked_fits k.sequence k.words k.told k.place k.shown v k.shown k.place looks reads rests k.stands (le_refl k.place)
      (le_refl k.shown.past) o.before o.low fits in (
        w,
        keeps,
        tt,
        quiet s (set s.words 0 found) id v w k (set_same s.words 0) at refl refl f.0,
        ((λ _. (k.shown, k.place, same ∙ k.whole none_half, refl, f.1)), λ ne. absurd (ne hit)),
      ))
      (λ miss. (v, keeps, tt, quiet s (set s.words 0 found) id v v k (set_same s.words 0) at refl refl fits, ((λ e. absurd (miss e)), λ _. refl)))

  pub repeats_allowed : (slots id : ℕ) (me : Me S Watch) → me.0.looks ≡ true → me.0.writes ≡ false → me.0.halfway ≡ false
      → Allows Kept slots id me 0 (λ n. n) (Repeats (step slots 0 0 0 none) me)
  repeats_allowed slots id me looks reads rests s k _ at _ =
      let v = me.0 in
      let fits = k.each id v at in
      let o = fits.older looks in
      let w = looked v.latest v.place v in
      let f = looked_fits k.sequence k.words k.told k.place k.shown v v.latest v.place looks reads rests o.here o.before o.low (le_refl v.place)
      (le_refl v.latest.past) fits in
      (w, keeps, tt, quiet s (set s.words 0 (slice_index s.words 0)) id v w k (set_same s.words 0) at refl refl f.0, (refl, f.1))

  pub begins_allowed : (slots id : ℕ) (me : Me S Watch) → me.0.writes ≡ true → me.0.halfway ≡ false → me.0.sequence + 1 < 18446744073709551616
      → Allows Kept slots id me 0 (λ n. (n + 1) % 18446744073709551616) (Begins (step slots 0 1 0 none) me)
  begins_allowed slots id me may rests room s k _ at _ =
      let v = me.0 in
      let fits = k.each id v at in
      let mine = fits.writer may in
      let counts = mine.counts in
      let found = slice_index s.words 0 in
      let here : found ≡ k.sequence = ap (λ (ws : List ℕ). slice_index ws 0) k.words_are in
      let up : (found + 1) % 18446744073709551616 ≡ k.sequence + 1 = omega arith in
      let w = begun (v.sequence + 1) v in
      let none_half : half_one v ≡ 0 = ap one_if rests in
      let change = total_set half_one s.views id v w at in
      let odd = k.parity in (
        w,
        keeps,
        tt,
        record {
          sequence = k.sequence + 1;
          words = k.words;
          told = k.told;
          place = k.place;
          shown = k.shown;
          turns = k.turns;
          words_are = ap (λ (ws : List ℕ). set ws 0 ((found + 1) % 18446744073709551616)) k.words_are ∙ ap (λ (n : ℕ). n ∷ k.words) up;
          five = k.five;
          parity = omega arith;
          one_writes = let was = k.one_writes in let right = total_set writes_one s.views id v w at in omega arith;
          stands = k.stands;
          whole = λ z. absurd (omega arith);
          each = each_set (λ _. Fits (k.sequence + 1) k.words k.told k.place k.shown) s.views id w
              record {
                writer = λ _. record { knows = mine.knows; top = mine.top; counts = omega arith };
                half = λ _. (may, (k.words, refl));
                known = omega arith;
                read = λ n e e'. (k.words, refl);
                older = fits.older;
                seen = fits.seen;
                placed = fits.placed;
                order = fits.order;
              }
              (λ j u ne there. let r = others_rest s k id v may at j u ne there in
              rises k.sequence (k.sequence + 1) k.words k.told k.place k.shown u (omega arith) r.0 r.1 (k.each j u there));
        },
        refl,
      )

  pub writes_allowed : (slots id j n : ℕ) (me : Me S Watch) → me.0.writes ≡ true → me.0.halfway ≡ true → length me.0.words + 1 ≡ j → j ≤ 5
      → Allows Kept slots id me j (λ _. n) (λ _. Writes (step slots j n 0 none) me n)
  writes_allowed slots id j n me may half next few s k _ at _ =
      let v = me.0 in
      let fits = k.each id v at in
      let mine = fits.writer may in
      let index : j ≡ suc (length v.words) = omega arith in
      let new : List ℕ = set k.words (length v.words) n in
      let w = found_so_far v.sequence (v.words ++ n ∷ []) v in
      let one : half_one v ≡ 1 = one_if_true v.halfway half in
      let sum = only_half s k id v may at in
      let change = total_set half_one s.views id v w at in
      let parity = k.parity in
      let five = k.five in
      let odd : (m : ℕ) → k.sequence ≢ m + m = λ m e. omega arith in
      let counts = mine.counts in (
        w,
        keeps,
        tt,
        record {
          sequence = k.sequence;
          words = new;
          told = k.told;
          place = k.place;
          shown = k.shown;
          turns = k.turns;
          words_are = ap (λ (ws : List ℕ). set ws j n) k.words_are ∙ ap (λ (i : ℕ). set (k.sequence ∷ k.words) i n) index;
          five = length-set k.words (length v.words) n ∙ k.five;
          parity = omega arith;
          one_writes = let was = k.one_writes in let right = total_set writes_one s.views id v w at in omega arith;
          stands = k.stands;
          whole = λ z. absurd (omega arith);
          each = each_set (λ _. Fits k.sequence new k.told k.place k.shown) s.views id w
              record {
                writer = λ _. record { knows = mine.knows; top = mine.top; counts = mine.counts };
                half = λ yes. (may, write_more v.words k.words n (fits.half half).1 (omega arith));
                known = fits.known;
                read = λ m e e'. absurd (odd m (e' ∙ e));
                older = fits.older;
                seen = fits.seen;
                placed = fits.placed;
                order = fits.order;
              }
              (λ j u ne there. let r = others_rest s k id v may at j u ne there in
              rewritten k.sequence k.words new k.told k.place k.shown u r.0 odd (k.each j u there));
        },
        refl,
      )

  pub publishes_allowed : (slots id : ℕ) (y : Readings) (me : Me S Watch) → me.0.writes ≡ true → me.0.halfway ≡ true → me.0.looks ≡ false
      → me.0.words ≡ words_of y → me.0.latest.past ≤ y.past
      → me.0.sequence + 1 < 18446744073709551616
      → Allows Kept slots id me 0 (λ n. (n + 1) % 18446744073709551616) (Publishes (step slots 0 1 0 none) me)
  publishes_allowed slots id y me may half no_looks is risen room s k _ at _ =
      let v = me.0 in
      let fits = k.each id v at in
      let mine = fits.writer may in
      let counts = mine.counts in
      let found = slice_index s.words 0 in
      let here : found ≡ k.sequence = ap (λ (ws : List ℕ). slice_index ws 0) k.words_are in
      let up : (found + 1) % 18446744073709551616 ≡ k.sequence + 1 = omega arith in
      let next = v.sequence + 1 in
      let w = published y next false v in
      let one : half_one v ≡ 1 = one_if_true v.halfway half in
      let sum = only_half s k id v may at in
      let change = total_set half_one s.views id v w at in
      let parity = k.parity in
      let five = k.five in
      let long : length v.words ≡ 5 = ap length is in
      let written : k.words ≡ words_of y = sym (front_is_all v.words k.words (fits.half half).1 (omega arith)) ∙ is in
      let told : List Readings = k.told ++ y ∷ [] in
      let more : length told ≡ length k.told + 1 = length-append k.told (y ∷ []) in
      let within = slice_get_within k.told k.place k.shown k.stands in
      let low : k.shown.past ≤ y.past = (let h = past_at k.told k.place v.latest.past k.shown mine.top k.stands in omega arith) in (
        w,
        keeps,
        tt,
        record {
          sequence = k.sequence + 1;
          words = k.words;
          told = told;
          place = length k.told;
          shown = y;
          turns = k.turns + 1;
          words_are = ap (λ (ws : List ℕ). set ws 0 ((found + 1) % 18446744073709551616)) k.words_are ∙ ap (λ (n : ℕ). n ∷ k.words) up;
          five = k.five;
          parity = omega arith;
          one_writes = let was = k.one_writes in let right = total_set writes_one s.views id v w at in omega arith;
          stands = last_there k.told y;
          whole = λ _. written;
          each = each_set (λ _. Fits (k.sequence + 1) k.words told (length k.told) y) s.views id w
              record {
                writer = λ _. record {
                  knows = ap (λ (l : List Readings). l ++ y ∷ []) mine.knows;
                  top = All-push (λ r. r.past ≤ y.past) k.told y (lower_pasts v.latest.past y.past k.told risen mine.top) (le_refl y.past);
                  counts = omega arith;
                };
                half = λ no. absurd (true≢false (sym no));
                known = omega arith;
                read = λ n e e'. (k.words, refl);
                older = λ yes. absurd (true≢false (sym yes ∙ no_looks));
                seen = fits.seen ∙ sym (entries_longer k.told told v.places (y ∷ [], refl) fits.placed);
                placed = below_higher (length k.told) (length told) v.places (omega arith) fits.placed;
                order = fits.order;
              }
              (λ j u ne there.
              let r = others_rest s k id v may at j u ne there in
              rises k.sequence (k.sequence + 1) k.words told (length k.told) y u (omega arith) r.0 r.1
              (shown_later k.sequence k.words told k.place k.shown (length k.told) y u (omega arith) low
              (told_more k.sequence k.words k.told k.place k.shown u y r.1 (k.each j u there))));
        },
        (λ r e. ap (λ (x : Readings). (published x next false v, me.1)) (words_injective y r (sym is ∙ e))),
      )

  pub notes_allowed : (slots id : ℕ) (y : Readings) (me : Me S Watch) → me.0.writes ≡ true → me.0.halfway ≡ true → me.0.looks ≡ false → me.0.words ≡ words_of y
      → me.0.latest.past ≤ y.past
      → Allows Kept slots id me 0 (λ n. n) (Notes (step slots 0 0 0 none) me)
  notes_allowed slots id y me may half no_looks is risen s k _ at _ =
      let v = me.0 in
      let fits = k.each id v at in
      let mine = fits.writer may in
      let w = published y v.sequence v.halfway v in
      let one : half_one v ≡ 1 = one_if_true v.halfway half in
      let sum = only_half s k id v may at in
      let change = total_set half_one s.views id v w at in
      let parity = k.parity in
      let told : List Readings = k.told ++ y ∷ [] in
      let more : length told ≡ length k.told + 1 = length-append k.told (y ∷ []) in
      let within = slice_get_within k.told k.place k.shown k.stands in (
        w,
        keeps,
        tt,
        record {
          sequence = k.sequence;
          words = k.words;
          told = told;
          place = k.place;
          shown = k.shown;
          turns = k.turns;
          words_are = set_same s.words 0 ∙ k.words_are;
          five = k.five;
          parity = omega arith;
          one_writes = let was = k.one_writes in let right = total_set writes_one s.views id v w at in omega arith;
          stands = same_there k.told told k.place (y ∷ [], refl) within ∙ k.stands;
          whole = λ z. absurd (omega arith);
          each = each_set (λ _. Fits k.sequence k.words told k.place k.shown) s.views id w
              record {
                writer = λ _. record {
                  knows = ap (λ (l : List Readings). l ++ y ∷ []) mine.knows;
                  top = All-push (λ r. r.past ≤ y.past) k.told y (lower_pasts v.latest.past y.past k.told risen mine.top) (le_refl y.past);
                  counts = mine.counts;
                };
                half = λ _. (may, (k.words, refl));
                known = fits.known;
                read = λ n e e'. (k.words, refl);
                older = λ yes. absurd (true≢false (sym yes ∙ no_looks));
                seen = fits.seen ∙ sym (entries_longer k.told told v.places (y ∷ [], refl) fits.placed);
                placed = below_higher (length k.told) (length told) v.places (omega arith) fits.placed;
                order = fits.order;
              }
              (λ j u ne there. let r = others_rest s k id v may at j u ne there in
              told_more k.sequence k.words k.told k.place k.shown u y r.1 (k.each j u there));
        },
        (λ r e. ap (λ (x : Readings). (published x v.sequence v.halfway v, me.1)) (words_injective y r (sym is ∙ e))),
      )

  pub learns_allowed : (slots id : ℕ) (me : Me S Watch) → me.0.writes ≡ true → Allows Kept slots id me 0 (λ n. n) (Learns (step slots 0 0 0 none) me)
  learns_allowed slots id me may s k _ at _ =
      let v = me.0 in
      let fits = k.each id v at in (
        v,
        keeps,
        tt,
        quiet s (set s.words 0 (slice_index s.words 0)) id v v k (set_same s.words 0) at refl refl fits,
        (refl, fits.seen ∙ ap (λ (l : List Readings). entries_at l v.places) (sym (fits.writer may).knows), fits.order),
      )

  splits_as : (id : ℕ) (v l : Watch) → v.looks ≡ true → l.writes ≡ v.writes → l.halfway ≡ v.halfway
      → ((q : ℕ) (words : List ℕ) (told : List Readings) (place : ℕ) (shown : Readings) → Fits q words told place shown v → Fits q words told place shown l)
      → Splits {S = S} Kept id v l (reader_of v)
  splits_as id v l looks e e' left s k at =
      let r = reader_of v in
      let fits = k.each id v at in
      let views = set s.views id l in
      let same : writes_one l ≡ writes_one v = ap one_if e in
      let same' : half_one l ≡ half_one v = ap one_if e' in
      let halves : sum_by half_one (views ++ r ∷ []) ≡ sum_by half_one s.views =
      (let change = total_set half_one s.views id v l at in let more = sum_by_push half_one views r in omega arith) in record {
        sequence = k.sequence;
        words = k.words;
        told = k.told;
        place = k.place;
        shown = k.shown;
        turns = k.turns;
        words_are = k.words_are;
        five = k.five;
        parity = k.parity ∙ ap (λ (n : ℕ). k.turns + k.turns + n) (sym halves);
        one_writes = let was = k.one_writes in let change = total_set writes_one s.views id v l at in let more = sum_by_push writes_one views r in omega arith;
        stands = k.stands;
        whole = λ z. k.whole (sym halves ∙ z);
        each = each_snoc (Fits k.sequence k.words k.told k.place k.shown) views r (reader_fits k.sequence k.words k.told k.place k.shown v looks fits)
            (each_set (λ _. Fits k.sequence k.words k.told k.place k.shown) s.views id l (left k.sequence k.words k.told k.place k.shown fits)
            (λ j u _ there. k.each j u there));
      }

  pub parts_allowed : (id : ℕ) (v : Watch) → v.looks ≡ true → Splits {S = S} Kept id v (writer_of v) (reader_of v)
  parts_allowed id v looks = splits_as id v (writer_of v) looks refl refl (λ q words told place shown f. writer_fits q words told place shown v f)

  pub twice_allowed : (id : ℕ) (v : Watch) → v.looks ≡ true → Splits {S = S} Kept id v v (reader_of v)
  twice_allowed id v looks = splits_as id v v looks refl refl (λ q words told place shown f. f)

  pub takes_allowed : (id : ℕ) (v : Watch) (other : ℕ) (w : Watch) → v.looks ≡ false → w.writes ≡ false → w.halfway ≡ false
      → Joins {S = S} Kept id v other w (took_in v w) spent
  takes_allowed id v other w no_looks reads rests s k at ne there =
      let b = took_in v w in
      let views = set s.views id b in
      let was_at = was_there s.views id other b w ne there in
      let none_writes : writes_one w ≡ 0 = ap one_if reads in
      let none_half : half_one w ≡ 0 = ap one_if rests in
      let halves : sum_by half_one (set views other spent) ≡ sum_by half_one s.views =
      (let one = total_set half_one s.views id v b at in let two = total_set half_one views other w spent there in omega arith) in record {
        sequence = k.sequence;
        words = k.words;
        told = k.told;
        place = k.place;
        shown = k.shown;
        turns = k.turns;
        words_are = k.words_are;
        five = k.five;
        parity = k.parity ∙ ap (λ (n : ℕ). k.turns + k.turns + n) (sym halves);
        one_writes = let was = k.one_writes in let one = total_set writes_one s.views id v b at in let two = total_set writes_one views other w spent there in
            omega arith;
        stands = k.stands;
        whole = λ z. k.whole (sym halves ∙ z);
        each = each_set (λ _. Fits k.sequence k.words k.told k.place k.shown) views other spent (spent_fits k.sequence k.words k.told k.place k.shown)
            (λ j u _ e. each_set (λ _. Fits k.sequence k.words k.told k.place k.shown) s.views id b
            (took_in_fits k.sequence k.words k.told k.place k.shown v w no_looks (k.each id v at) (k.each other w was_at))
            (λ i y _ e'. k.each i y e') j u e);
      }

  -- the rule holds at the start
  pub opens : (homes : List S) (r : Readings) → Kept {S = S} (opening (0 ∷ r.past ∷ r.waiting ∷ r.posted ∷ r.locks ∷ r.condition ∷ []) homes (opener r))
  opens homes r = record {
    sequence = 0;
    words = words_of r;
    told = r ∷ [];
    place = 0;
    shown = r;
    turns = 0;
    words_are = refl;
    five = refl;
    parity = omega (arith, sum_by-cons half_one (opener r) []);
    one_writes = omega (arith, sum_by-cons writes_one (opener r) []);
    stands = refl;
    whole = λ _. refl;
    each = one;
  }
    where
      one : (j : ℕ) (u : Watch) → get_elem? (opener r ∷ []) j ≡ some u → Fits 0 (words_of r) (r ∷ []) 0 r u
      one zero u there = subst (Fits 0 (words_of r) (r ∷ []) 0 r) (some-injective (opener r) u there)
          record {
            writer = λ _. record { knows = refl; top = All-push (λ x. x.past ≤ r.past) [] r (λ k d lt. absurd (omega arith)) (le_refl r.past); counts = refl };
            half = λ no. absurd (true≢false (sym no));
            known = omega arith;
            read = λ k e e'. (words_of r, refl);
            older = λ _. record {
              here = refl;
              before = omega arith;
              low = le_refl r.past;
              behind = λ k d lt. absurd (omega arith);
              pasts =
                  λ k d lt. absurd (omega arith);
            };
            seen = refl;
            placed = λ k d lt. absurd (omega arith);
            order = IsNonDecreasingBy-short (λ n. n) [] (omega arith);
          }
      one (suc j) u there = absurd (some-ne-none u (sym there))
