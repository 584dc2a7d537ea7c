-- Numbers that an actor draws: what a line asks, what is known of them behind a call or a drawing, and how many are left.
use Rattle.std.proofs.Common.{◌≡◌, ℕ, ◌+◌, ◌<◌, ◌≤◌, Bool, true, false, true≢false, List, [], ◌∷◌, ◌++◌, cond, refl, sym, ap, subst, ◌∙◌, arith}
use Rattle.std.specs.Prelude.{Contains, IfSome, count_by, MatchBool, Option, Some, None, fold, is_some, min, nat_le, if◌then◌else◌}
use Rattle.std.specs.List.{find}
use Rattle.std.proofs.lemmas.List.Sums.{fold-append, sum_by-cons}
use Rattle.std.proofs.lemmas.Bool.Decides.{nat_tests}
use Rattle.draw_laws.proofs.IntervalNames.{contains_first, contains_more, named_is}
use Rattle.enq_base.specs.declared.refusal.Refusal.{Refusal}
use Rattle.enq_base.specs.declared.refusal.Refusal.TheVariants as refusal
use Rattle.enq_base.specs.declared.unit.Num.{Num}
use Rattle.hall_model.specs.History.{is_unrecorded}
use Rattle.hall_model.specs.declared.command.Command.{Command}
use Rattle.hall_model.specs.declared.command.Command.TheVariants as command
use Rattle.hall_model.specs.declared.command.Reply.{Reply}
use Rattle.hall_model.specs.declared.command.Reply.TheVariants as reply
use Rattle.hall_model.specs.declared.command.Who.{Who}
use Rattle.ledger_steps.specs.Levels.{intervals_of, range_at}
use Rattle.ledger_steps.specs.declared.range.NumberRange.{NumberRange}
use Rattle.number_ranges.specs.Intervals.{is_buffered, is_named}
use Rattle.number_ranges.specs.declared.interval.Interval.{Interval}
use Rattle.script_actors.specs.Actors.{HasEnough, MayAskIn, TakesOne, is_number_of, lines_of_actor, numbers_asked}
use Rattle.script_actors.specs.Carried.{CanDraw, IsNumberWanted, IsWanted, Knows, LeavesFor, MayMake, TakesFor}
use Rattle.script_actors.specs.Doers.{is_done_by}
use Rattle.script_actors.specs.Drawings.{Asking, Called, Declined, DeskEntry, Drawing, Draws, Drew, Makes, asking, capped, count_behind, count_left, drawing_at}
use Rattle.script_actors.specs.Drawings.{ends_unit, interval_at, is_number, number_in, one_number, settles, settling_of, stock_behind, stock_left, stock_of}
use Rattle.script_actors.specs.Drawings.{uncommitted, with_called, with_stock}
use Rattle.script_actors.specs.declared.asking.Wanted.{Wanted}
use Rattle.script_actors.specs.declared.asking.Wanted.TheVariants as wanted
use Rattle.script_actors.specs.declared.line.NumberedLine.{NumberedLine}
use Rattle.script_actors.specs.declared.uncommitted.Settling.{Settling}
use Rattle.script_actors.specs.declared.uncommitted.Settling.TheVariants as settling

-- ---- an interval that is found by its name

pub found_named : (intervals : List Interval) (object nr : List ℕ) (i : Interval) → interval_at intervals object nr ≡ Some i → is_named object nr i ≡ true
found_named [] object nr i h = absurd (true≢false (sym (ap is_some h)))
found_named (x ∷ intervals) object nr i h =
    elim (is_named object nr x)
    as (λ b. is_named object nr x ≡ b → cond b (Some x) (interval_at intervals object nr) ≡ Some i → is_named object nr i ≡ true) [
      | true ↦ λ e is. let same : x ≡ i = cc in subst (λ (y : Interval). is_named object nr y ≡ true) same e
      | false ↦ λ e is. found_named intervals object nr i is
    ] refl h

pub found_there : (intervals : List Interval) (object nr : List ℕ) (i : Interval) → interval_at intervals object nr ≡ Some i → Contains intervals i
found_there [] object nr i h = absurd (true≢false (sym (ap is_some h)))
found_there (x ∷ intervals) object nr i h =
    elim (is_named object nr x)
    as (λ b. cond b (Some x) (interval_at intervals object nr) ≡ Some i → Contains (x ∷ intervals) i) [
      | true ↦ λ is. let same : x ≡ i = cc in subst (λ (y : Interval). Contains (x ∷ intervals) y) same (contains_first intervals x)
      | false ↦ λ is. contains_more intervals x i (found_there intervals object nr i is)
    ] h

-- the interval has the name that it was found by
pub found_object : (intervals : List Interval) (object nr : List ℕ) (i : Interval) → interval_at intervals object nr ≡ Some i → i.object ≡ object
found_object intervals object nr i h = ap (λ (n : List ℕ × List ℕ). n.0) (named_is object nr i (found_named intervals object nr i h))

pub found_nr : (intervals : List Interval) (object nr : List ℕ) (i : Interval) → interval_at intervals object nr ≡ Some i → i.nr ≡ nr
found_nr intervals object nr i h = ap (λ (n : List ℕ × List ℕ). n.1) (named_is object nr i (found_named intervals object nr i h))

-- ranges are found as their intervals are
pub no_range : (ranges : List NumberRange) (object nr : List ℕ) → range_at ranges object nr ≡ None → interval_at (intervals_of ranges) object nr ≡ None
no_range [] object nr h = refl
no_range (r ∷ ranges) object nr h =
    elim (is_named object nr r.interval)
    as (λ b. cond b (Some r) (range_at ranges object nr) ≡ None → cond b (Some r.interval) (interval_at (intervals_of ranges) object nr) ≡ None) [
      | true ↦ λ is. absurd (true≢false (ap is_some is))
      | false ↦ λ is. no_range ranges object nr is
    ] h

pub range_found : (ranges : List NumberRange) (object nr : List ℕ) (found : NumberRange) → range_at ranges object nr ≡ Some found
    → interval_at (intervals_of ranges) object nr ≡ Some found.interval
range_found [] object nr found h = absurd (true≢false (sym (ap is_some h)))
range_found (r ∷ ranges) object nr found h =
    elim (is_named object nr r.interval)
    as (λ b. cond b (Some r) (range_at ranges object nr) ≡ Some found
    → cond b (Some r.interval) (interval_at (intervals_of ranges) object nr) ≡ Some found.interval) [
      | true ↦ λ is. let same : r ≡ found = cc in ap (λ (x : NumberRange). Some x.interval) same
      | false ↦ λ is. range_found ranges object nr found is
    ] h

-- ---- what a line asks of its desk

abbrev unmade : Asking → Command
unmade (Makes c) = c
unmade a = command.Kill

abbrev is_made : Asking → Bool
is_made (Makes c) = true
is_made a = false

not_made : {P : Type 0} (a : Asking) (c : Command) → is_made a ≡ false → a ≡ Makes c → P
not_made a c off is = absurd (true≢false (sym (ap is_made is) ∙ off))

-- a number that is called for is of no interval with a buffer
plain_number : (count : ℕ) (s object nr : List ℕ) (found : Option Interval) (made : Command)
    → drawing_at count (command.Number s object nr) found ≡ Makes made
    → (command.Number s object nr ≡ made) × IfSome found (λ i. is_buffered i ≡ false)
plain_number count s object nr None made is = (ap unmade is, tt)
plain_number count s object nr (Some i) made is =
    elim (nat_le 64 count)
    as (λ b. (if b then Declined refusal.UnitTooLarge else if is_buffered i then Draws i else Makes (command.Number s object nr)) ≡ Makes made
    → (command.Number s object nr ≡ made) × (is_buffered i ≡ false)) [
      | true ↦ λ e. not_made (Declined refusal.UnitTooLarge) made refl e
      | false ↦ λ e.
          elim (is_buffered i)
          as (λ b. is_buffered i ≡ b → (if b then Draws i else Makes (command.Number s object nr)) ≡ Makes made
          → (command.Number s object nr ≡ made) × (is_buffered i ≡ false)) [
            | true ↦ λ buffered f. not_made (Draws i) made refl f
            | false ↦ λ plain f. (ap unmade f, plain)
          ] refl e
    ] is

-- a call that a line asks for may be made
pub may_ask : (intervals : List Interval) (entries : List DeskEntry) (c made : Command) → asking intervals entries c ≡ Makes made
    → MayAskIn intervals entries made
may_ask intervals entries (command.Number s object nr) made is =
    let plain = plain_number (uncommitted entries) s object nr (interval_at intervals object nr) made is in
    subst (MayAskIn intervals entries) plain.0 plain.1
may_ask intervals entries (command.Commit s parts stock) made is = subst (MayAskIn intervals entries) (ap unmade is) refl
may_ask intervals entries _ made is = subst (MayAskIn intervals entries) (ap unmade is) tt

-- a full unit by its capped count
full_capped : (count n : ℕ) (b : Bool) → count ≡ capped n → b ≡ nat_le 64 count → nat_le 64 n ≡ b
full_capped count n b is test =
    let held : count ≡ min n 64 = is in
    let same : nat_le 64 (min n 64) ≡ nat_le 64 n = grind (arith, nat_tests) in sym same ∙ sym (ap (nat_le 64) held) ∙ sym test

module _ (intervals : List Interval) (entries : List DeskEntry) (object nr : List ℕ) where
  abbrev number_by : List ℕ → Command
  number_by s = command.Number s object nr

  abbrev by_number : List ℕ → Option Interval → Asking
  by_number s found = drawing_at (uncommitted entries) (number_by s) found

  abbrev by_room : List ℕ → Interval → Bool → Asking
  by_room s i b = if b then Declined refusal.UnitTooLarge else if is_buffered i then Draws i else Makes (number_by s)

  abbrev by_buffer : List ℕ → Interval → Bool → Asking
  by_buffer s i b = if b then Draws i else Makes (number_by s)

  pub number_unknown : interval_at intervals object nr ≡ None → IsNumberWanted intervals entries object nr wanted.Call
  number_unknown none = λ s. ap (by_number s) none

  pub number_too_many : (i : Interval) (stock : List Num) (count : ℕ) → interval_at intervals object nr ≡ Some i → true ≡ nat_le 64 count
      → Knows entries stock count → IsNumberWanted intervals entries object nr wanted.TooMany
  number_too_many i stock count there full knows = λ s.
      ap (by_number s) there ∙ ap (by_room s i) (full_capped count (uncommitted entries) true knows.1 full)

  not_full : (i : Interval) (stock : List Num) (count : ℕ) → interval_at intervals object nr ≡ Some i → false ≡ nat_le 64 count
      → Knows entries stock count → (s : List ℕ) → asking intervals entries (number_by s) ≡ by_buffer s i (is_buffered i)
  not_full i stock count there free knows s =
      ap (by_number s) there ∙ ap (by_room s i) (full_capped count (uncommitted entries) false knows.1 free)

  pub number_plain : (i : Interval) (stock : List Num) (count : ℕ) → interval_at intervals object nr ≡ Some i → false ≡ nat_le 64 count
      → is_buffered i ≡ false → Knows entries stock count → IsNumberWanted intervals entries object nr wanted.Call
  number_plain i stock count there free plain knows = λ s. not_full i stock count there free knows s ∙ ap (by_buffer s i) plain

  pub number_drawn : (i : Interval) (stock : List Num) (count : ℕ) → interval_at intervals object nr ≡ Some i → false ≡ nat_le 64 count
      → is_buffered i ≡ true → Knows entries stock count → IsNumberWanted intervals entries object nr wanted.Number
  number_drawn i stock count there free buffered knows = λ s. record {
    interval = i;
    asks = not_full i stock count there free knows s ∙ ap (by_buffer s i) buffered;
    found = there;
    buffered = buffered;
  }

pub no_buffer : (i : Interval) → i.buffer ≡ 0 → is_buffered i ≡ false
no_buffer i h = grind (arith, nat_tests)

pub some_buffer : (i : Interval) → (i.buffer ≡ 0 → ⊥) → is_buffered i ≡ true
some_buffer i h = grind (arith, nat_tests)

-- ---- how many draws are left

count_more_if : (p : NumberedLine → Bool) (l : NumberedLine) (rest : List NumberedLine) (b : Bool)
    → count_by p (cond b (l ∷ rest) rest) ≡ count_by p (cond b (l ∷ []) []) + count_by p rest
count_more_if p l rest true =
    let whole = sum_by-cons (λ (x : NumberedLine). cond (p x) 1 0) l rest in
    let one = sum_by-cons (λ (x : NumberedLine). cond (p x) 1 0) l [] in
    let none : count_by p [] ≡ 0 = refl in omega (arith, whole, one, none)
count_more_if p l rest false = let none : count_by p [] ≡ 0 = refl in omega (arith, none)

-- the lines of an actor that ask for numbers of an interval, with one line more
count_line : (w : Who) (l : NumberedLine) (later : List NumberedLine) (i : Interval)
    → numbers_asked i w (l ∷ later) ≡ numbers_asked i w (l ∷ []) + numbers_asked i w later
count_line w l later i = count_more_if (λ (x : NumberedLine). is_number_of i x.line) l (lines_of_actor w later) (is_done_by w l.line)

-- enough for all lines is enough for the first
pub enough_first : (intervals : List Interval) (w : Who) (l : NumberedLine) (later : List NumberedLine) (left : Interval → ℕ)
    → HasEnough intervals w (l ∷ later) left → HasEnough intervals w (l ∷ []) left
enough_first intervals w l later left enough = λ i there buffered.
    let all = enough i there buffered in
    let parts = count_line w l later i in omega (arith, all, parts)

-- and behind it for the others
pub enough_later : (intervals : List Interval) (w : Who) (l : NumberedLine) (later : List NumberedLine) (left left_now : Interval → ℕ)
    → HasEnough intervals w (l ∷ later) left → LeavesFor w l left left_now → HasEnough intervals w later left_now
enough_later intervals w l later left left_now enough leaves = λ i there buffered.
    let all = enough i there buffered in
    let parts = count_line w l later i in
    let rest = leaves i in omega (arith, all, parts, rest)

pub leaves_all : (w : Who) (l : NumberedLine) (left left_now : Interval → ℕ) → left_now ≡ left → LeavesFor w l left left_now
leaves_all w l left left_now same = λ i. let is : left_now i ≡ left i = ap (λ (f : Interval → ℕ). f i) same in omega (arith, is)

pub leaves_one : (intervals : List Interval) (w : Who) (l : NumberedLine) (s object nr : List ℕ) (left left_now : Interval → ℕ)
    → MayMake intervals w l left (command.Number s object nr) → TakesOne object nr left left_now → LeavesFor w l left left_now
leaves_one intervals w l s object nr left left_now may takes = λ i.
    elim (is_named object nr i)
    as (λ b. is_named object nr i ≡ b → MatchBool b (left i ≤ left_now i + 1) (left_now i ≡ left i)
    → left i ≤ left_now i + numbers_asked i w (l ∷ [])) [
      | true ↦ λ named h. let one = may.1 i named in omega (arith, one, h)
      | false ↦ λ apart h. omega (arith, h)
    ] refl (takes i)

-- ---- what is found for a call

abbrev is_call : Wanted → Bool
is_call wanted.Call = true
is_call w = false

pub no_call : {P : Type 0} (w : Wanted) → is_call w ≡ false → w ≡ wanted.Call → P
no_call w off is = absurd (true≢false (sym (ap is_call is) ∙ off))

module _ (intervals : List Interval) (w : Who) (l : NumberedLine) (entries : List DeskEntry) (left : Interval → ℕ) where
  -- the call that is made has the numbers that were drawn
  pub wanted_call : (c : Command) → IsWanted intervals entries c wanted.Call → asking intervals entries c ≡ Makes (with_stock (stock_of entries) c)
  wanted_call (command.Number s object nr) h = h s
  wanted_call (command.Commit s parts stock) h = refl
  wanted_call _ h = refl

  pub can_draw : (c : Command) → IsWanted intervals entries c wanted.Number → MayMake intervals w l left c → CanDraw intervals left c
  can_draw (command.Number s object nr) h may =
      let d = h s in record { interval = d.interval; found = d.found; buffered = d.buffered; one = may.0 d.interval d.found d.buffered }
  can_draw _ h may = no_call wanted.Number refl h

  pub draw_leaves : (c : Command) (left_now : Interval → ℕ) → IsWanted intervals entries c wanted.Number → MayMake intervals w l left c
      → TakesFor left left_now c → LeavesFor w l left left_now
  draw_leaves (command.Number s object nr) left_now h may takes = leaves_one intervals w l s object nr left left_now may takes
  draw_leaves _ left_now h may takes = no_call wanted.Number refl h

-- ---- what is known behind a call

plus_none : (n : ℕ) → n + 0 ≡ n
plus_none n = omega arith

pub counted_none : (n : ℕ) (s : Settling) (r : Reply) (count : ℕ) → true ≡ ends_unit s r → count ≡ 0 → count ≡ capped (count_left n s r)
counted_none n s r count ends zero = zero ∙ ap (λ b. capped (if b then 0 else n + one_number r)) ends

pub counted_one : (n : ℕ) (s : Settling) (r : Reply) (count : ℕ) → false ≡ ends_unit s r → true ≡ is_number r → count ≡ capped (n + 1)
    → count ≡ capped (count_left n s r)
counted_one n s r count goes number more =
    more ∙ ap (λ b. capped (n + (if b then 1 else 0))) number ∙ ap (λ b. capped (if b then 0 else n + one_number r)) goes

pub counted_same : (n : ℕ) (s : Settling) (r : Reply) (count : ℕ) → false ≡ ends_unit s r → false ≡ is_number r → count ≡ capped n
    → count ≡ capped (count_left n s r)
counted_same n s r count goes number same =
    same ∙ sym (ap capped (plus_none n)) ∙ ap (λ b. capped (n + (if b then 1 else 0))) number ∙ ap (λ b. capped (if b then 0 else n + one_number r)) goes

pub counted_drawn : (n : ℕ) (r : Reply) (count : ℕ) → one_number r ≡ 0 → count ≡ capped n → count ≡ capped (n + one_number r)
counted_drawn n r count none same = same ∙ sym (ap capped (plus_none n)) ∙ ap (λ k. capped (n + k)) (sym none)

-- a reply that the history doesn't keep leaves what was drawn
record IsQuiet (s : Settling) (r : Reply) : Type 0 where
  pub stock : settles s r ≡ false
  pub count : ends_unit s r ≡ false
  pub none : one_number r ≡ 0

quiet : (s : Settling) (r : Reply) → is_unrecorded r ≡ true → IsQuiet s r
quiet settling.Commits (reply.Refused refusal.LogFull) h = record { stock = refl; count = refl; none = refl }
quiet settling.GivesUp (reply.Refused refusal.LogFull) h = record { stock = refl; count = refl; none = refl }
quiet settling.Neither (reply.Refused refusal.LogFull) h = record { stock = refl; count = refl; none = refl }
quiet settling.Commits (reply.Refused refusal.Idle) h = record { stock = refl; count = refl; none = refl }
quiet settling.GivesUp (reply.Refused refusal.Idle) h = record { stock = refl; count = refl; none = refl }
quiet settling.Neither (reply.Refused refusal.Idle) h = record { stock = refl; count = refl; none = refl }
quiet s _ h = absurd (true≢false (sym h))

stock_more : (entries : List DeskEntry) (e : DeskEntry) → stock_of (entries ++ e ∷ []) ≡ stock_behind (stock_of entries) e
stock_more entries e = fold-append stock_behind [] entries (e ∷ [])

count_more : (entries : List DeskEntry) (e : DeskEntry) → uncommitted (entries ++ e ∷ []) ≡ count_behind (uncommitted entries) e
count_more entries e = fold-append count_behind 0 entries (e ∷ [])

module _ (entries : List DeskEntry) (n : ℕ) (c : Command) (r : Reply) (stock : List Num) (count : ℕ) (stock_now : List Num) (count_now : ℕ) where
  call_noted : Knows entries stock count → stock_now ≡ stock_left stock (settling_of c) r
      → count_now ≡ capped (count_left (uncommitted entries) (settling_of c) r)
      → Knows (entries ++ Called (record { line = n; command = c; reply = r }) ∷ []) stock_now count_now
  call_noted knows left counted =
      let e = Called (record { line = n; command = c; reply = r }) in
      (left ∙ ap (λ xs. stock_left xs (settling_of c) r) knows.0 ∙ sym (stock_more entries e), counted ∙ sym (ap capped (count_more entries e)))

  call_unnoted : is_unrecorded r ≡ true → Knows entries stock count → stock_now ≡ stock_left stock (settling_of c) r
      → count_now ≡ capped (count_left (uncommitted entries) (settling_of c) r) → Knows entries stock_now count_now
  call_unnoted unkept knows left counted =
      let q = quiet (settling_of c) r unkept in (
        left ∙ ap (λ b. if b then [] else stock) q.stock ∙ knows.0,
        counted
            ∙ ap (λ b. capped (if b then 0 else uncommitted entries + one_number r)) q.count
            ∙ ap (λ k. capped (uncommitted entries + k)) q.none
            ∙ ap capped (plus_none (uncommitted entries)),
      )

  pub knows_call : Knows entries stock count → stock_now ≡ stock_left stock (settling_of c) r
      → ((k : ℕ) → count ≡ capped k → count_now ≡ capped (count_left k (settling_of c) r))
      → Knows (with_called entries n c r) stock_now count_now
  knows_call knows left counted =
      elim (is_unrecorded r)
      as (λ b. is_unrecorded r ≡ b
      → Knows (if b then entries else entries ++ Called (record { line = n; command = c; reply = r }) ∷ []) stock_now count_now) [
        | true ↦ λ e. call_unnoted e knows left (counted (uncommitted entries) knows.1)
        | false ↦ λ e. call_noted knows left (counted (uncommitted entries) knows.1)
      ] refl

pub knows_drawing : (entries : List DeskEntry) (d : Drawing) (object nr : List ℕ) (r : Reply) (stock : List Num) (count : ℕ)
    (stock_now : List Num) (count_now : ℕ)
    → Knows entries stock count → d.object ≡ object → d.nr ≡ nr → d.reply ≡ r → stock_now ≡ stock ++ number_in object nr r
    → ((k : ℕ) → count ≡ capped k → count_now ≡ capped (k + one_number r))
    → Knows (entries ++ Drew d ∷ []) stock_now count_now
knows_drawing entries d object nr r stock count stock_now count_now knows named numbered is more counted = (
  more
      ∙ ap (λ xs. xs ++ number_in object nr r) knows.0
      ∙ (λ k. stock_of entries ++ number_in (sym named k) (sym numbered k) (sym is k))
      ∙ sym (stock_more entries (Drew d)),
  counted (uncommitted entries) knows.1 ∙ ap (λ x. capped (uncommitted entries + one_number x)) (sym is) ∙ sym (ap capped (count_more entries (Drew d))),
)

-- before any call nothing is known to be drawn
pub knows_none : (entries : List DeskEntry) (stock : List Num) (count : ℕ) → entries ≡ [] → stock ≡ [] → count ≡ 0 → Knows entries stock count
knows_none entries stock count none empty zero = subst (λ (es : List DeskEntry). Knows es stock count) (sym none) (empty, zero)
