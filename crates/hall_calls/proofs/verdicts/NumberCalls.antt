-- Draws and reservations come to what their commands' verdicts say.
use Rattle.std.proofs.Common.{◌≡◌, ℕ, ◌+◌, ◌-◌, ◌≤◌, ◌<◌, Bool, true, false, true≢false, not, List, [], ◌∷◌, length, map, refl, sym, ap, ◌∙◌, subst, arith}
use Rattle.std.specs.Prelude.{◌&&◌, IsTrue, Option, Some, None, Result, Err, IfErr, nat_eq, nat_le, nat_lt, if◌then◌else◌}
use Rattle.std.specs.List.{find}
use Rattle.std.specs.Int.{div_ceil}
use Rattle.std.specs.Option.{option_map, option_map_or}
use Rattle.std.proofs.lemmas.Bool.Decides.{nat_tests}
use Rattle.enq_base.specs.declared.refusal.Refusal.{Refusal}
use Rattle.enq_base.specs.declared.refusal.Refusal.TheVariants as refusal
use Rattle.enq_base.specs.declared.unit.Num.{Num}
use Rattle.lock_entry.proofs.lemmas.Naming.{bytes_eq-same}
use Rattle.number_ranges.specs.Intervals.{block_level, code_of, is_buffered, level_with, with_level}
use Rattle.number_ranges.specs.declared.interval.Interval.{Interval}
use Rattle.ledger_steps.specs.Intervals.{with_intervals}
use Rattle.draw_laws.proofs.Drawing.{range_found}
use Rattle.ledger_steps.specs.Drawn.{drawn_of, handed_out, handed_out_of, num_of, stored_as}
use Rattle.ledger_steps.specs.Levels.{name_of, present, range_at}
use Rattle.ledger_steps.specs.declared.range.NumberRange.{NumberRange}
use Rattle.update_records.specs.Ledger.{Ledger}
use Rattle.update_records.specs.declared.stored.StoredInterval.{StoredInterval}
use Rattle.hall_model.specs.declared.command.Command.{Command}
use Rattle.hall_model.specs.declared.command.Command.TheVariants as command
use Rattle.hall_model.specs.declared.command.Reply.TheVariants as reply
use Rattle.hall_model.specs.declared.command.Session.{Session}
use Rattle.hall_calls.specs.declared.units.Written.{Written}
use Rattle.hall_calls.specs.declared.units.Written.TheVariants.{Answered, Failed, Unfiled}
use Rattle.hall_model.specs.Acts.{Admits, IsAct}
use Rattle.hall_calls.specs.Written.{IsWritten}
use Rattle.hall_model.specs.Calls.{OfSession, Draws, Reserves}
use Rattle.hall_model.specs.Devices.{is_past_level, uses_store}
use Rattle.ledger_steps.specs.Steps.{after_step}
use Rattle.hall_model.specs.History.{doubted}
use Rattle.hall_model.specs.Numbers.{IsNextDraw, IsNextReserve, drawn, level_for, next_number, other_holder, raised_by, raised_to}
use Rattle.hall_model.specs.Sessions.{is_called, session_at, with_draw, with_session}
use Rattle.hall_model.specs.State.{State}
use Rattle.hall_model.specs.Step.{Verdict, Refuses, Leaves, called, draw, drawing, found_in, giving, own_verdict, reserve, reserving}
use Rattle.hall_calls.specs.Storing.{IsRaiseFault}
use Rattle.hall_calls.proofs.verdicts.EachCall.{at_state, fails, found_at, is_wanting, knows_no_session, leaves_as, refuses}
use Rattle.model_laws.proofs.BlockLevels.{blocks}
use Rattle.model_laws.proofs.FoundSessions.{found_name}

-- ---- sessions

-- two changes that make the same of the session of this name
same_change : (name : List ℕ) (f g : Session → Session) (xs : List Session) (x : Session) → session_at xs name ≡ Some x → f x ≡ g x
    → with_session name f xs ≡ with_session name g xs
same_change name f g [] x at same = refl
same_change name f g (y ∷ ys) x at same =
    elim (is_called name y)
    as (λ b. (if b then Some y else find (is_called name) ys) ≡ Some x
    → (if b then f y ∷ ys else y ∷ with_session name f ys) ≡ (if b then g y ∷ ys else y ∷ with_session name g ys)) [
      | true ↦ λ e. let is : y ≡ x = cc in ap (λ z. z ∷ ys) (ap f is ∙ same ∙ ap g (sym is))
      | false ↦ λ e. ap (λ zs. y ∷ zs) (same_change name f g ys x e same)
    ] at

pub own_name : (sessions : List Session) (name : List ℕ) (x : Session) → session_at sessions name ≡ Some x → x.name ≡ name
own_name sessions name x at = bytes_eq-same _ _ (found_name name sessions x at)

-- ---- levels

same_number : (m n : ℕ) → m ≡ n → nat_eq m n ≡ true
same_number m n h = grind (arith, nat_tests)

higher : (m n : ℕ) → n < m → nat_eq m n ≡ false
higher m n h = grind (arith, nat_tests)

past : (m n : ℕ) → nat_le m n ≡ false → n < m
past m n h = grind (arith, nat_tests)

is_past : (m n : ℕ) → nat_le m n ≡ false → nat_lt n m ≡ true
is_past m n h = grind (arith, nat_tests)

abbrev row_at : Interval → ℕ → StoredInterval
row_at i level = stored_as (with_level level i)

-- the level that reserves a number stands above the present one where that doesn't reach the number
pub raised_same : (i : Interval) (upto : ℕ) (ledger : Ledger) → is_buffered i ≡ true → i.level ≤ i.to → upto ≤ i.to
    → raised_by i (level_for i upto) ledger ≡ raised_to i upto ledger
raised_same i upto ledger buffered begun within =
    let block = blocks i upto buffered begun within in
    ap (λ b. raised_by i (if b then block_level i upto else i.level) ledger) buffered
    ∙ elim (nat_le upto i.level)
    as (λ b. nat_le upto i.level ≡ b → raised_by i (block_level i upto)
    ledger ≡ (if b then ledger else with_intervals (row_at i (block_level i upto) ∷ []) ledger)) [
      | true ↦ λ e.
          let same : block_level i upto ≡ i.level = ap (λ b. if b then i.level else level_with i (div_ceil (upto - i.level) i.buffer)) e in
          ap (λ b. if b then ledger else with_intervals (row_at i (block_level i upto) ∷ []) ledger) (same_number (block_level i upto) i.level same)
      | false ↦ λ e.
          let above : i.level < block_level i upto = lower_still _ _ _ (past upto i.level e) block.reached in
          ap (λ b. if b then ledger else with_intervals (row_at i (block_level i upto) ∷ []) ledger) (higher (block_level i upto) i.level above)
    ] refl
  where
    lower_still : (a b c : ℕ) → a < b → b ≤ c → a < c
    lower_still a b c h k = omega (arith, h, k)

-- a level that has to be raised doesn't reach the number
pub unreached : (i : Interval) (upto : ℕ) → is_buffered i ≡ true → nat_eq (level_for i upto) i.level ≡ false → nat_le upto i.level ≡ false
unreached i upto buffered differs =
    elim (nat_le upto i.level) as (λ b. nat_le upto i.level ≡ b → b ≡ false) [
      | true ↦ λ e.
          let same : level_for i upto ≡ i.level = ap (λ b. if b then block_level i upto else i.level) buffered
          ∙ ap (λ b. if b then i.level else level_with i (div_ceil (upto - i.level) i.buffer)) e in
          absurd (true≢false (sym (same_number (level_for i upto) i.level same) ∙ differs))
      | false ↦ λ e. refl
    ] refl

-- ---- a call over what the hall holds

pub record IsCallAt (s : State) (sessions : List Session) (ranges : List NumberRange) (ledger : Ledger) : Type 0 where
  pub own_sessions : s.sessions ≡ sessions
  pub own_ranges : s.ranges ≡ ranges
  pub own_ledger : s.stored ≡ ledger

-- what is asked of an error of a result that is one
pub if_err : {X E : Type 0} (r : Result X E) (P : E → Type 0) (e : E) → r ≡ Err e → P e → IfErr r P
if_err r P e is h = subst (λ o. IfErr o P) (sym is) h

-- a refusal to draw, over what the hall holds
abbrev pub RefusesDraw : List Session → List NumberRange → Ledger → List ℕ → List ℕ → List ℕ → Refusal → Type 0
RefusesDraw sessions ranges ledger name object nr r =
    (s : State) → s.sessions ≡ sessions → s.ranges ≡ ranges → s.stored ≡ ledger → Admits s (command.Number name object nr)
    → IsAct s (command.Number name object nr) s (reply.Refused r)

abbrev pub RefusesReserve : List Session → List NumberRange → Ledger → List ℕ → List ℕ → List ℕ → ℕ → Refusal → Type 0
RefusesReserve sessions ranges ledger name object nr upto r =
    (s : State) → s.sessions ≡ sessions → s.ranges ≡ ranges → s.stored ≡ ledger → Admits s (command.Reserve name object nr upto)
    → IsAct s (command.Reserve name object nr upto) s (reply.Refused r)

-- by how many numbers are reserved at a time
pub plain_of : (n : ℕ) → n ≡ 0 → nat_lt 0 n ≡ false
plain_of n h = grind (arith, nat_tests)

pub buffered_of : (n : ℕ) → (n ≡ 0 → ⊥) → nat_lt 0 n ≡ true
buffered_of n h = grind (arith, nat_tests)

pub buffered_so : (n : ℕ) → 0 < n → nat_lt 0 n ≡ true
buffered_so n h = grind (arith, nat_tests)

pub at_least : (n : ℕ) → 64 ≤ n → nat_le 64 n ≡ true
at_least n h = grind (arith, nat_tests)

pub at_most : (n : ℕ) → n < 64 → nat_le 64 n ≡ false
at_most n h = grind (arith, nat_tests)

pub none_mapped : {X Y : Type 0} (f : X → Y) (o : Option X) → option_map f o ≡ None → o ≡ None
none_mapped f None e = refl
none_mapped f (Some x) e = cc

module _ (s : State) (sessions : List Session) (ranges : List NumberRange) (ledger : Ledger) (name object nr : List ℕ)
    (at : IsCallAt s sessions ranges ledger) where
  -- the range of a name is the state's
  ranged : (o : Option NumberRange) → range_at ranges object nr ≡ o → range_at s.ranges object nr ≡ o
  ranged o h = ap (λ rs. range_at rs object nr) at.own_ranges ∙ h

  leveled : (r : NumberRange) (i : Interval) → i ≡ present ledger.levels r.interval → present s.stored.levels r.interval ≡ i
  leveled r i is = ap (λ (l : Ledger). present l.levels r.interval) at.own_ledger ∙ sym is

  abbrev same_state : State
  same_state = record s { sessions = sessions; ranges = ranges; stored = ledger }

  is_same : s ≡ same_state
  is_same k = record s { sessions = at.own_sessions k; ranges = at.own_ranges k; stored = at.own_ledger k }

  -- ---- draws

  module _ (room : Admits s (command.Number name object nr)) where
    abbrev draws_call : Command
    draws_call = command.Number name object nr

    abbrev by_range : Session → Option NumberRange → Verdict
    by_range x o = elim o [ None ↦ Refuses refusal.IntervalNotFound | Some r ↦ drawing s x r (present s.stored.levels r.interval) ]

    abbrev decided : Session → NumberRange → Interval → Bool → Option Session → Verdict
    decided x r i many holder =
        if many then Refuses refusal.UnitTooLarge else elim holder [ Some y ↦ Refuses (refusal.IntervalBusy y.name) | None ↦ giving s x i (next_number r i x) ]

    own_draw : (x : Session) → session_at sessions name ≡ Some x → own_verdict (found_in s) s (OfSession name (Draws object nr)) ≡ draw s x object nr
    own_draw x found = ap (called (found_in s) s (Draws object nr)) (found_at s sessions name (Some x) at.own_sessions found)

    of_range : (x : Session) (r : NumberRange) (i : Interval) (many : Bool) (holder : Option Session) → session_at sessions name ≡ Some x
        → range_at ranges object nr ≡ Some r → i ≡ present ledger.levels r.interval
        → nat_le 64 (length x.draws) ≡ many → other_holder sessions name i ≡ holder
        → own_verdict (found_in s) s (OfSession name (Draws object nr)) ≡ decided x r i many holder
    of_range x r i many holder found chosen is few free =
        let own : x.name ≡ name = own_name sessions name x found in
        let free' : other_holder s.sessions x.name i ≡ holder = (λ k. other_holder (at.own_sessions k) (own k) i) ∙ free in
        own_draw x found ∙ ap (by_range x) (ranged (Some r) chosen) ∙ ap (drawing s x r) (leveled r i is) ∙ (λ k. decided x r i (few k) (free' k))

    pub draws_unknown : (r : Refusal) → session_at sessions name ≡ None → r ≡ refusal.UnknownSession → IsAct s draws_call s (reply.Refused r)
    draws_unknown r none is =
        subst (λ x. IsAct s draws_call s (reply.Refused x)) (sym is)
        (knows_no_session s sessions name (Draws object nr) draws_call refl at.own_sessions room none)

    pub draws_nowhere : (x : Session) → session_at sessions name ≡ Some x → range_at ranges object nr ≡ None
        → IsAct s draws_call s (reply.Refused refusal.IntervalNotFound)
    draws_nowhere x found none = refuses s draws_call refusal.IntervalNotFound room (own_draw x found ∙ ap (by_range x) (ranged None none))

    pub draws_too_many : (x : Session) (r : NumberRange) → session_at sessions name ≡ Some x → range_at ranges object nr ≡ Some r
        → nat_le 64 (length x.draws) ≡ true → IsAct s draws_call s (reply.Refused refusal.UnitTooLarge)
    draws_too_many x r found chosen many =
        refuses s draws_call refusal.UnitTooLarge room (of_range x r (present ledger.levels r.interval) true _ found chosen refl many refl)

    pub draws_busy : (x : Session) (r : NumberRange) (i : Interval) (holder : List ℕ) → session_at sessions name ≡ Some x → range_at ranges object nr ≡ Some r
        → i ≡ present ledger.levels r.interval → nat_le 64 (length x.draws) ≡ false
        → option_map (λ (y : Session). y.name) (other_holder sessions name i) ≡ Some holder → IsAct s draws_call s (reply.Refused (refusal.IntervalBusy holder))
    draws_busy x r i holder found chosen is few held =
        elim (other_holder sessions name i)
        as (λ o. other_holder sessions name i ≡ o → option_map (λ (y : Session). y.name) o ≡ Some holder
        → IsAct s draws_call s (reply.Refused (refusal.IntervalBusy holder))) [
          | None ↦ λ e h. cc
          | Some y ↦ λ e h.
              let same : y.name ≡ holder = cc in
              subst (λ n. IsAct s draws_call s (reply.Refused (refusal.IntervalBusy n))) same
              (refuses s draws_call (refusal.IntervalBusy y.name) room (of_range x r i false (Some y) found chosen is few e))
        ] refl held

    pub draws_over : (x : Session) (r : NumberRange) (i : Interval) → session_at sessions name ≡ Some x → range_at ranges object nr ≡ Some r
        → i ≡ present ledger.levels r.interval → nat_le 64 (length x.draws) ≡ false
        → option_map (λ (y : Session). y.name) (other_holder sessions name i) ≡ None → nat_lt i.to (next_number r i x) ≡ true
        → IsAct s draws_call s (reply.Refused (refusal.IntervalOverflow i.to))
    draws_over x r i found chosen is few free over =
        refuses s draws_call (refusal.IntervalOverflow i.to) room
        (of_range x r i false None found chosen is few (none_mapped _ (other_holder sessions name i) free)
        ∙ ap (λ b. if b then Refuses (refusal.IntervalOverflow i.to) else Leaves (drawn s x i (next_number r i x))
        (reply.Number (next_number r i x) (code_of i (next_number r i x)))) over)

    pub draws_wanting : (x : Session) → session_at sessions name ≡ Some x → IsAct s draws_call s (reply.Refused refusal.NoMemory)
    draws_wanting x found = is_wanting s draws_call room.served refl

    module _ (i : Interval) (number level : ℕ) (draws : List Num) (d : IsNextDraw sessions ranges ledger.levels name object nr i number level draws) where
      leaves_number : own_verdict (found_in s) s (OfSession name (Draws object nr)) ≡ Leaves (drawn s d.session i number)
          (reply.Number number (code_of i number))
      leaves_number =
          of_range d.session d.range i false None d.found d.chosen d.interval d.few d.free ∙ ap (giving s d.session i) (sym d.next)
          ∙ ap (λ b. if b then Refuses (refusal.IntervalOverflow i.to) else Leaves (drawn s d.session i number) (reply.Number number (code_of i number)))
          d.within

      -- the sessions with the number
      with_number : (after : List Session) → after ≡ with_session name (λ (x : Session). record x { draws = draws }) sessions
          → with_session d.session.name (with_draw (num_of i number)) s.sessions ≡ after
      with_number after is =
          (λ k. with_session (own_name sessions name d.session d.found k) (with_draw (num_of i number)) (at.own_sessions k))
          ∙ same_change name (with_draw (num_of i number)) (λ x. record x { draws = draws }) sessions d.session d.found
          (ap (λ ns. record d.session { draws = ns }) (sym d.drawn)) ∙ sym is

      pub draws_plain : is_buffered i ≡ false → (after : List Session) → after ≡ with_session name (λ (x : Session). record x { draws = draws }) sessions
          → IsAct s draws_call (record s { sessions = after; ranges = ranges; stored = ledger }) (reply.Number number (code_of i number))
      draws_plain plain after is =
          let e = with_number after is in
          let taken : State = record s { sessions = with_session d.session.name (with_draw (num_of i number)) s.sessions } in
          at_state _ _ (drawn s d.session i number) _ _
          (ap (λ b. if b then record taken { ranges = handed_out i taken.ranges; stored = raised_to i number taken.stored } else taken) plain
          ∙ (λ k. record s { sessions = e k; ranges = at.own_ranges k; stored = at.own_ledger k }))
          (leaves_as s draws_call (drawn s d.session i number) _ tt room leaves_number)

      named_so : name_of i ≡ (object, nr)
      named_so = ap name_of d.interval ∙ (range_found ranges object nr d.range d.chosen).name

      pub draws_buffered : is_buffered i ≡ true → i.level ≤ i.to → number ≤ i.to → (after : List Session) (left : List NumberRange) (new : Ledger)
          → after ≡ with_session name (λ (x : Session). record x { draws = draws }) sessions
          → left ≡ map (handed_out_of object nr) ranges → new ≡ raised_by i level ledger
          → IsAct s draws_call (record s { sessions = after; ranges = left; stored = new }) (reply.Number number (code_of i number))
      draws_buffered buffered begun within after left new is handed raised =
          let e = with_number after is in
          let f : handed_out i s.ranges ≡ left = (λ k. map (handed_out_of (named_so k).0 (named_so k).1) (at.own_ranges k)) ∙ sym handed in
          let g : raised_to i number s.stored ≡ new = ap (raised_to i number) at.own_ledger ∙ sym (raised_same i number ledger buffered begun within)
          ∙ ap (λ l. raised_by i l ledger) (sym d.reserved) ∙ sym raised in
          let taken : State = record s { sessions = with_session d.session.name (with_draw (num_of i number)) s.sessions } in
          at_state _ _ (drawn s d.session i number) _ _
          (ap (λ b. if b then record taken { ranges = handed_out i taken.ranges; stored = raised_to i number taken.stored } else taken) buffered
          ∙ (λ k. record s { sessions = e k; ranges = f k; stored = g k }))
          (leaves_as s draws_call (drawn s d.session i number) _ tt room leaves_number)

      pub draws_in_doubt : is_buffered i ≡ true → nat_eq level i.level ≡ false
          → IsAct s draws_call (doubted s (OfSession name (Draws object nr)) None (Some (with_intervals (row_at i level ∷ []) s.stored)))
          (reply.Refused refusal.StoreFault)
      draws_in_doubt buffered differs =
          let far : nat_le number i.level ≡ false = unreached i number buffered (ap (λ l. nat_eq l i.level) (sym d.reserved) ∙ differs) in
          let next : number ≡ d.range.next = d.next ∙ ap (λ b. if b then d.range.next else i.level + drawn_of i d.session.draws + 1) buffered in
          let row : block_level i number ≡ level = ap (λ b. if b then block_level i number else i.level) (sym buffered) ∙ sym d.reserved in
          let taken : State = record s { sessions = with_session d.session.name (with_draw (num_of i number)) s.sessions } in
          let levels : (drawn s d.session i number).stored ≡ with_intervals (row_at i level ∷ []) s.stored =
          ap (λ b. (if b then record taken { ranges = handed_out i taken.ranges; stored = raised_to i number taken.stored } else taken).stored) buffered
          ∙ ap (λ b. if b then s.stored else with_intervals (row_at i (block_level i number) ∷ []) s.stored) far
          ∙ ap (λ l. with_intervals (row_at i l ∷ []) s.stored) row in
          let here : present s.stored.levels d.range.interval ≡ i = leveled d.range i d.interval in
          let same : is_buffered d.range.interval ≡ true = ap is_buffered (sym d.interval) ∙ buffered in
          let uses : IsTrue (uses_store s (OfSession name (Draws object nr))) =
          subst (λ o. IsTrue (option_map_or (λ (r : NumberRange). is_buffered r.interval && is_past_level s r r.next) o false))
          (sym (ranged (Some d.range) d.chosen))
          (ap (λ b. b && is_past_level s d.range d.range.next) same ∙ ap (λ (j : Interval). nat_lt j.level d.range.next) here ∙ ap (nat_lt i.level) (sym next)
          ∙ is_past number i.level far) in
          subst (λ (l : Ledger). IsAct s draws_call (doubted s (OfSession name (Draws object nr)) None (Some l)) (reply.Refused refusal.StoreFault)) levels
          (fails s draws_call (drawn s d.session i number) _ room leaves_number uses refl)

      -- a level that wasn't raised
      pub draws_unraised : is_buffered i ≡ true → (w : Written) → IsRaiseFault i level w → (new : Ledger) → new ≡ ledger
          → IsWritten s draws_call (record s { sessions = sessions; ranges = ranges; stored = new }) w
      draws_unraised buffered (Answered r) h new kept =
          subst (λ x. IsAct s draws_call (record s { sessions = sessions; ranges = ranges; stored = new }) x) (sym h)
          (subst (λ l. IsAct s draws_call (record s { sessions = sessions; ranges = ranges; stored = l }) (reply.Refused refusal.NoMemory)) (sym kept)
          (at_state _ _ s _ _ is_same (draws_wanting d.session d.found)))
      draws_unraised buffered (Failed change) h new kept =
          subst (λ x. IsAct s draws_call (doubted s (OfSession name (Draws object nr)) None (option_map (after_step s.stored) x))
          (reply.Refused refusal.StoreFault)) (sym h.0) (draws_in_doubt buffered h.1)
      draws_unraised buffered Unfiled h new kept = absurd h

  -- ---- reservations

  module _ (upto : ℕ) (room : Admits s (command.Reserve name object nr upto)) where
    abbrev reserves_call : Command
    reserves_call = command.Reserve name object nr upto

    abbrev reserve_by : Option NumberRange → Verdict
    reserve_by o = elim o [ None ↦ Refuses refusal.IntervalNotFound | Some r ↦ reserving s (present s.stored.levels r.interval) upto ]

    own_reserve : (x : Session) → session_at sessions name ≡ Some x → own_verdict (found_in s) s
        (OfSession name (Reserves object nr upto)) ≡ reserve s object nr upto
    own_reserve x found = ap (called (found_in s) s (Reserves object nr upto)) (found_at s sessions name (Some x) at.own_sessions found)

    reserve_as : (x : Session) (r : NumberRange) (i : Interval) → session_at sessions name ≡ Some x → range_at ranges object nr ≡ Some r
        → i ≡ present ledger.levels r.interval
        → own_verdict (found_in s) s (OfSession name (Reserves object nr upto)) ≡ reserving s i upto
    reserve_as x r i found chosen is = own_reserve x found ∙ ap reserve_by (ranged (Some r) chosen) ∙ ap (λ j. reserving s j upto) (leveled r i is)

    pub reserves_unknown : (r : Refusal) → session_at sessions name ≡ None → r ≡ refusal.UnknownSession → IsAct s reserves_call s (reply.Refused r)
    reserves_unknown r none is =
        subst (λ x. IsAct s reserves_call s (reply.Refused x)) (sym is)
        (knows_no_session s sessions name (Reserves object nr upto) reserves_call refl at.own_sessions room none)

    pub reserves_nowhere : (x : Session) → session_at sessions name ≡ Some x → range_at ranges object nr ≡ None
        → IsAct s reserves_call s (reply.Refused refusal.IntervalNotFound)
    reserves_nowhere x found none = refuses s reserves_call refusal.IntervalNotFound room (own_reserve x found ∙ ap reserve_by (ranged None none))

    -- the tests of a reservation, decided
    abbrev decided_reserve : Interval → Bool → Bool → Verdict
    decided_reserve i buffered over =
        if not buffered then Refuses refusal.IntervalNotFound else if over then Refuses (refusal.IntervalOverflow i.to)
        else Leaves (record s { stored = raised_to i upto s.stored }) (reply.Level (block_level i upto))

    pub reserves_plain : (x : Session) (r : NumberRange) (i : Interval) → session_at sessions name ≡ Some x → range_at ranges object nr ≡ Some r
        → i ≡ present ledger.levels r.interval → is_buffered i ≡ false
        → IsAct s reserves_call s (reply.Refused refusal.IntervalNotFound)
    reserves_plain x r i found chosen is plain =
        refuses s reserves_call refusal.IntervalNotFound room (reserve_as x r i found chosen is ∙ ap (λ b. decided_reserve i b (nat_lt i.to upto)) plain)

    pub reserves_over : (x : Session) (r : NumberRange) (i : Interval) → session_at sessions name ≡ Some x → range_at ranges object nr ≡ Some r
        → i ≡ present ledger.levels r.interval → is_buffered i ≡ true → nat_lt i.to upto ≡ true
        → IsAct s reserves_call s (reply.Refused (refusal.IntervalOverflow i.to))
    reserves_over x r i found chosen is buffered over =
        refuses s reserves_call (refusal.IntervalOverflow i.to) room (reserve_as x r i found chosen is ∙ (λ k. decided_reserve i (buffered k) (over k)))

    module _ (i : Interval) (level : ℕ) (d : IsNextReserve sessions ranges ledger.levels name object nr upto i level) where
      leaves_level : own_verdict (found_in s) s (OfSession name (Reserves object nr upto)) ≡ Leaves (record s { stored = raised_to i upto s.stored })
          (reply.Level (block_level i upto))
      leaves_level = reserve_as d.session d.range i d.found d.chosen d.interval ∙ (λ k. decided_reserve i (d.buffered k) (d.within k))

      is_block : block_level i upto ≡ level
      is_block = ap (λ b. if b then block_level i upto else i.level) (sym d.buffered) ∙ sym d.reserved

      pub reserves : i.level ≤ i.to → upto ≤ i.to → (new : Ledger) → new ≡ raised_by i level ledger
          → IsAct s reserves_call (record s { stored = new }) (reply.Level level)
      reserves begun within new raised =
          let g : raised_to i upto s.stored ≡ new = ap (raised_to i upto) at.own_ledger ∙ sym (raised_same i upto ledger d.buffered begun within)
          ∙ ap (λ l. raised_by i l ledger) (sym d.reserved) ∙ sym raised in
          subst (λ n. IsAct s reserves_call (record s { stored = new }) (reply.Level n)) is_block
          (at_state _ _ (record s { stored = raised_to i upto s.stored }) _ _ (λ k. record s { stored = g k })
          (leaves_as s reserves_call (record s { stored = raised_to i upto s.stored }) _ tt room leaves_level))

      pub reserves_in_doubt : nat_eq level i.level ≡ false → IsAct s reserves_call
          (doubted s (OfSession name (Reserves object nr upto)) None (Some (with_intervals (row_at i level ∷ []) s.stored))) (reply.Refused refusal.StoreFault)
      reserves_in_doubt differs =
          let far : nat_le upto i.level ≡ false = unreached i upto d.buffered (ap (λ l. nat_eq l i.level) (sym d.reserved) ∙ differs) in
          let levels : raised_to i upto s.stored ≡ with_intervals (row_at i level ∷ []) s.stored =
          ap (λ b. if b then s.stored else with_intervals (row_at i (block_level i upto) ∷ []) s.stored) far
          ∙ ap (λ l. with_intervals (row_at i l ∷ []) s.stored) is_block in
          let uses : IsTrue (uses_store s (OfSession name (Reserves object nr upto))) =
          subst (λ o. IsTrue (option_map_or (λ r. is_past_level s r upto) o false)) (sym (ranged (Some d.range) d.chosen))
          (ap (λ (j : Interval). nat_lt j.level upto) (leveled d.range i d.interval) ∙ is_past upto i.level far) in
          subst (λ (l : Ledger). IsAct s reserves_call (doubted s (OfSession name (Reserves object nr upto)) None (Some l)) (reply.Refused refusal.StoreFault))
          levels
          (fails s reserves_call (record s { stored = raised_to i upto s.stored }) _ room leaves_level uses refl)

      pub reserves_unraised : (w : Written) → IsRaiseFault i level w → (new : Ledger) → new ≡ ledger → IsWritten s reserves_call (record s { stored = new }) w
      reserves_unraised (Answered r) h new kept =
          subst (λ x. IsAct s reserves_call (record s { stored = new }) x) (sym h)
          (at_state _ _ s _ _ (λ k. record s { stored = (at.own_ledger ∙ sym kept) k })
          (is_wanting s reserves_call room.served refl))
      reserves_unraised (Failed change) h new kept =
          subst (λ x. IsAct s reserves_call (doubted s (OfSession name (Reserves object nr upto)) None (option_map (after_step s.stored) x))
          (reply.Refused refusal.StoreFault)) (sym h.0) (reserves_in_doubt h.1)
      reserves_unraised Unfiled h new kept = absurd h
