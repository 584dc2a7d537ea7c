-- What a hall has shown, and one call more.
use Rattle.std.proofs.Common.{◌≡◌, ℕ, zero, suc, ◌-◌, ◌+◌, ◌≤◌, Bool, true, false, List, [], ◌∷◌, ◌++◌, append-nil, length, length-append, map, take, refl, sym, ap, ◌∙◌, subst, arith}
use Rattle.std.specs.Prelude.{if◌then◌else◌}
use Rattle.std.specs.List.{AllByRecursion}
use Rattle.std.proofs.lemmas.List.{map-append}
use Rattle.std.proofs.lemmas.List.Sorted.{IsNonDecreasingBy-push, IsNonDecreasingBy-short}
use Rattle.std.proofs.lemmas.List.Sums.{fold-append}
use mathlib.Core.List.{IsPrefix}
use Rattle.enq_base.specs.declared.condition.Readings.{Readings}
use Rattle.hall_model.specs.Devices.{DeviceOutcome, IsAllowed}
use Rattle.hall_model.specs.History.{IsStep, Served, after_of, is_unrecorded, past_entry, served, step, takes_flight, with_entry}
use Rattle.hall_model.specs.Recall.{AreModelAnswers, IsModelAnswer, Made, calls_of, recalled, state_after}
use Rattle.hall_model.specs.State.{State}
use Rattle.hall_model.specs.Views.{readings_of}
use Rattle.hall_model.specs.declared.command.Command.{Command}
use Rattle.hall_model.specs.declared.command.PastEntry.{PastEntry}
use Rattle.hall_model.specs.declared.command.Reply.{Reply}
use Rattle.hall_laws.proofs.keeping.Unchanged.{served-past}
use Rattle.hall_laws.proofs.histories.NotedSteps.{AnswersFrom, IsTold, answers_before, told-answers}
use Rattle.hall_calls.proofs.lemmas.Replies.{unnoted_same}
use Rattle.seat_sums.specs.Entries.{entries_at}
use Rattle.turn_desks.specs.Watching.{HasShown, StandIn, readings_behind}
use Rattle.turn_desks.proofs.Led.{answers_more}
use Rattle.turn_desks.proofs.lemmas.Places.{all_entries, all_more, all_placed, all_told, entries_map, rising_entries, rising_placed, rising_told}

either : (P : Type 0) (b : Bool) → (b ≡ true → P) → (b ≡ false → P) → P
either P true f g = f refl
either P false f g = g refl

-- ---- a history that goes on

-- calls that led somewhere lead on to this state
abbrev GoOn : State → List Made → State → Type 0
GoOn first made t = (more : List Made) × (t.past ≡ calls_of (made ++ more)) × AreModelAnswers first (made ++ more) × (t ≡ state_after first (made ++ more))

module _ (first s : State) (made : List Made) (calls : s.past ≡ calls_of made) (answers : AreModelAnswers first made) (state : s ≡ state_after first made)
    (o : DeviceOutcome) (n : ℕ) (c : Command) (allowed : IsAllowed o s c) where
  abbrev done : Served
  done = served o s c

  abbrev entered : Served
  entered = record (served o s c) { state = with_entry n c (takes_flight o) (served o s c) }

  abbrev the_call : Made
  the_call = record { call = past_entry n c (takes_flight o) done; outcome = o }

  on_noted : is_unrecorded done.reply ≡ false → GoOn first made (step o s n c).state
  on_noted on =
      let stepped : step o s n c ≡ entered = ap (λ b. if b then done else entered) on in
      let answer : IsModelAnswer s the_call = record {
        who = refl;
        reply = ap (λ (x : Served). x.reply) stepped;
        after = sym (ap (λ (x : Served). after_of (takes_flight o) x.state) stepped);
        allowed = allowed;
      } in
      let leads : state_after first (made ++ the_call ∷ []) ≡ (step o s n c).state =
      fold-append recalled first made (the_call ∷ []) ∙ ap (λ x. recalled x the_call) (sym state) in
      let past : entered.state.past ≡ calls_of (made ++ the_call ∷ []) =
      ap (λ es. es ++ the_call.call ∷ []) (served-past o s c ∙ calls) ∙ sym (map-append (λ (x : Made). x.call) made (the_call ∷ [])) in
      let noted : (step o s n c).state.past ≡ calls_of (made ++ the_call ∷ []) = ap (λ (x : Served). x.state.past) stepped ∙ past in
      let from : AnswersFrom first (made ++ the_call ∷ []) =
      answers_more first made the_call (answers_before first made made [] answers (sym (append-nil made)))
      (subst (λ x. IsModelAnswer x the_call) state answer) in
      let all : IsTold first (step o s n c).state = record { made = made ++ the_call ∷ []; calls = noted; answers = from; state = sym leads } in
      (the_call ∷ [], noted, told-answers first (step o s n c).state all, sym leads)

  -- a call that isn't kept changes nothing
  on_unnoted : is_unrecorded done.reply ≡ true → GoOn first made (step o s n c).state
  on_unnoted off =
      let stepped : step o s n c ≡ done = ap (λ b. if b then done else entered) off in
      let same : (step o s n c).state ≡ s = ap (λ (x : Served). x.state) stepped ∙ unnoted_same o s c allowed.possible.lost off in
      let none : made ≡ made ++ [] = sym (append-nil made) in
      ([], ap (λ (x : State). x.past) same ∙ calls ∙ ap calls_of none, subst (AreModelAnswers first) none answers, same ∙ state ∙ ap (state_after first) none)

  on_step : GoOn first made (step o s n c).state
  on_step = either (GoOn first made (step o s n c).state) (is_unrecorded done.reply) on_unnoted on_noted

on_call : (first s t : State) (made : List Made) (n : ℕ) (c : Command) (r : Reply) → s.past ≡ calls_of made → AreModelAnswers first made
    → s ≡ state_after first made → IsStep s t n c r → GoOn first made t
on_call first s t made n c r calls answers state h =
    let same : t ≡ (step h.outcome s n c).state = ap (λ (x : Served). x.state) h.same in
    subst (GoOn first made) (sym same) (on_step first s made calls answers state h.outcome n c h.allowed)

-- ---- what was shown

take_front : {X : Type 0} (xs ys : List X) (n : ℕ) → n ≤ length xs → take n xs ≡ take n (xs ++ ys)
take_front xs ys zero le = refl
take_front [] ys (suc n) le = absurd (omega (arith, le))
take_front (x ∷ xs) ys (suc n) le = ap (λ l. x ∷ l) (take_front xs ys n (omega (arith, le)))

take_whole : {X : Type 0} (xs : List X) → xs ≡ take (length xs) xs
take_whole [] = refl
take_whole (x ∷ xs) = ap (λ l. x ∷ l) (take_whole xs)

same_behind : (first : State) (made more : List Made) (places : List ℕ) → AllByRecursion (λ (n : ℕ). n ≤ length made) places
    → map (readings_behind first made) places ≡ map (readings_behind first (made ++ more)) places
same_behind first made more [] h = refl
same_behind first made more (n ∷ places) h =
    λ i. readings_of (state_after first (take_front made more n h.0 i)) ∷ same_behind first made more places h.1 i

-- a history that goes on has shown what it had shown
pub shown_on : (first s t : State) (n : ℕ) (c : Command) (r : Reply) (shown : List Readings) → IsStep s t n c r → HasShown first s shown
    → HasShown first t shown
shown_on first s t n c r shown served_so h =
    let on = on_call first s t h.made n c r h.calls h.answers h.state served_so in
    record {
      made = h.made ++ on.0;
      calls = on.1;
      answers = on.2;
      state = on.3;
      places = h.places;
      order = h.order;
      within = λ k d lt. let le = h.within k d lt in let more = length-append h.made on.0 in omega (arith, le, more);
      are = h.are ∙ same_behind first h.made on.0 h.places (all_told (λ (m : ℕ). m ≤ length h.made) h.places h.within);
    }

-- and what its state counts, shown last
pub shown_more : (first s : State) (shown : List Readings) → HasShown first s shown → HasShown first s (shown ++ readings_of s ∷ [])
shown_more first s shown h =
    let last : ℕ = length h.made in
    let now : readings_of s ≡ readings_behind first h.made last = ap readings_of (h.state ∙ ap (state_after first) (take_whole h.made)) in
    record {
      made = h.made;
      calls = h.calls;
      answers = h.answers;
      state = h.state;
      places = h.places ++ last ∷ [];
      order = IsNonDecreasingBy-push (λ n. n) h.places last h.order (λ d lt. h.within (length h.places - 1) d (omega (arith, lt)));
      within =
          all_placed (λ (m : ℕ). m ≤ last) (h.places ++ last ∷ [])
          (all_more (λ (m : ℕ). m ≤ last) h.places (last ∷ []) (all_told (λ (m : ℕ). m ≤ last) h.places h.within) (omega arith, tt));
      are =
          (λ i. h.are i ++ now i ∷ []) ∙ sym (map-append (readings_behind first h.made) h.places (last ∷ []));
    }

-- one turn
pub shown_turn : (first s t : State) (n : ℕ) (c : Command) (r : Reply) (shown : List Readings) → IsStep s t n c r → HasShown first s shown
    → HasShown first t (shown ++ readings_of t ∷ [])
shown_turn first s t n c r shown served_so h = shown_more first t shown (shown_on first s t n c r shown served_so h)

-- before the first call
pub shown_first : (first : State) → first.past ≡ [] → HasShown first first (readings_of first ∷ [])
shown_first first none = record {
  made = [];
  calls = none;
  answers = told-answers first first (record { made = []; calls = none; answers = tt; state = refl });
  state = refl;
  places = 0 ∷ [];
  order = IsNonDecreasingBy-short (λ n. n) (0 ∷ []) (omega arith);
  within = all_placed (λ (m : ℕ). m ≤ 0) (0 ∷ []) (omega arith, tt);
  are = refl;
}

pub shown_at_first : (first s : State) (shown : List Readings) → s ≡ first → s.past ≡ [] → shown ≡ readings_of s ∷ [] → ∥ HasShown first s shown ∥₁
shown_at_first first s shown at none is =
    ∣ subst (HasShown first s) (sym is) (subst (λ x. HasShown x s (readings_of s ∷ [])) at (shown_first s none)) ∣₁

-- what stands in what was shown, in order, was shown so
pub shown_there : (first s : State) (told seen : List Readings) → HasShown first s told → StandIn told seen → HasShown first s seen
shown_there first s told seen h there =
    let f : ℕ → Readings = readings_behind first h.made in
    let places : List ℕ = entries_at h.places there.0 in
    record {
      made = h.made;
      calls = h.calls;
      answers = h.answers;
      state = h.state;
      places = entries_at h.places there.0;
      order = rising_placed places (rising_entries h.places (rising_told h.places h.order) there.0 (rising_told there.0 there.1));
      within =
          all_placed (λ (m : ℕ). m ≤ length h.made) places
          (all_entries (λ (m : ℕ). m ≤ length h.made) h.places (all_told (λ (m : ℕ). m ≤ length h.made) h.places h.within) there.0);
      are = there.2 ∙ (ap (λ l. entries_at l there.0) h.are ∙ entries_map f h.places there.0);
    }

pub grown : (xs ys : List PastEntry) → IsPrefix xs ys → length xs ≤ length ys
grown xs ys p =
    let n : length ys ≡ length xs + length p.0 = ap length (sym p.1) ∙ length-append xs p.0 in
    omega (arith, n)
