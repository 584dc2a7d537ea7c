-- All sessions together draw no more numbers than there are lines.
use Rattle.std.proofs.Common.{◌≡◌, inl, inr, ℕ, suc, ◌+◌, ◌≤◌, Bool, true, false, true≢false, cond, List, [], ◌∷◌, length, map, refl, sym, ap, ◌∙◌, arith, length-append}
use Rattle.std.specs.List.{AllByRecursion, filter}
use Rattle.enq_base.specs.declared.unit.Num.{Num}
use Rattle.hall_model.specs.declared.command.Reply.{Reply}
use Rattle.hall_model.specs.declared.command.Reply.TheVariants as reply
use Rattle.hall_model.specs.declared.command.PastEntry.{PastEntry}
use Rattle.hall_model.specs.declared.command.Who.{Who}
use Rattle.hall_model.specs.declared.command.Who.TheVariants as caller
use Rattle.script_actors.specs.Actors.{Land, lines_of_actor}
use Rattle.script_actors.specs.Doers.{doer_of, is_actor, is_done_by, is_same}
use Rattle.script_actors.specs.Drawings.{drawn_at, drawn_in, number_in}
use Rattle.script_actors.specs.declared.line.Doer.{Doer}
use Rattle.script_actors.specs.declared.line.Doer.TheVariants as doer
use Rattle.script_actors.specs.declared.line.NumberedLine.{NumberedLine}
use Rattle.turn_desks.specs.Parts.{IsPart}
use Rattle.caller_laws.specs.Callers.{AreDistinct}
use Rattle.caller_laws.specs.Doing.{Did, Left}
use Rattle.caller_laws.specs.Numbers.{DrewNumbers, LineDraw, drawings_of}
use Rattle.caller_laws.proofs.Meanings.{same_caller}
use Rattle.actor_threads.specs.declared.actor.Deed.{Deed}
use Rattle.thread_runner.specs.Hiring.{DidDeed, left_of}
use Rattle.thread_runner.specs.Numbers.{drawn_by}
use Rattle.thread_runner.specs.Stocking.{drawn_in_deeds}
use Rattle.thread_runner.proofs.Called.{DrewLaw}

-- ---- of one session

map_long : {V W : Type 0} (f : V → W) (vs : List V) → length (map f vs) ≡ length vs
map_long f [] = refl
map_long f (v ∷ vs) = ap suc (map_long f vs)

part_long : {X : Type 0} (xs ys : List X) → IsPart xs ys → length xs ≤ length ys
part_long [] ys h = omega arith
part_long (x ∷ xs) [] h = absurd h
part_long (x ∷ xs) (y ∷ ys) (inl h) = let rest = part_long xs ys h.1 in omega (arith, rest)
part_long (x ∷ xs) (y ∷ ys) (inr h) = let rest = part_long (x ∷ xs) ys h in omega (arith, rest)

one_number : (object nr : List ℕ) (r : Reply) → length (number_in object nr r) ≤ 1
one_number object nr (reply.Number n code) = omega arith
one_number object nr r = omega arith

drawings_long : (draws : List LineDraw) → length (drawn_in (drawings_of draws)) ≤ length draws
drawings_long [] = omega arith
drawings_long (x ∷ draws) =
    let d = x.drawing in
    let own : List Num = number_in d.object d.nr d.reply in
    let one = one_number d.object d.nr d.reply in
    let long : length (map (drawn_at d.line) own) ≡ length own = map_long (drawn_at d.line) own in
    let both = length-append (map (drawn_at d.line) own) (drawn_in (drawings_of draws)) in
    let rest = drawings_long draws in
    omega (arith, one, long, both, rest)

session_long : (land : Land) (lines : List NumberedLine) (past : List PastEntry) (session : List ℕ) (left : Left)
    → DrewNumbers land.intervals lines past session left → length left.drawn ≤ length (lines_of_actor (caller.Session session) lines)
session_long land lines past session left h =
    let few = drawings_long h.draws in
    let same = ap length h.drawn in
    let long : length (map (λ (x : LineDraw). x.line) h.draws) ≡ length h.draws = map_long (λ (x : LineDraw). x.line) h.draws in
    let part = part_long (map (λ (x : LineDraw). x.line) h.draws) (lines_of_actor (caller.Session session) lines) h.order in
    omega (arith, few, same, long, part)

-- ---- of callers that aren't the same

abbrev one : Bool → ℕ
one b = cond b 1 0

abbrev owned : List Who → NumberedLine → ℕ
owned [] l = 0
owned (w ∷ ws) l = one (is_done_by w l.line) + owned ws l

abbrev lengths : List Who → List NumberedLine → ℕ
lengths [] lines = 0
lengths (w ∷ ws) lines = length (lines_of_actor w lines) + lengths ws lines

lengths_none : (ws : List Who) → lengths ws [] ≡ 0
lengths_none [] = refl
lengths_none (w ∷ ws) = let rest = lengths_none ws in omega (arith, rest)

filter_long : (p : NumberedLine → Bool) (l : NumberedLine) (ls : List NumberedLine) → length (filter p (l ∷ ls)) ≡ one (p l) + length (filter p ls)
filter_long p l ls = by (p l)
  where
    by : (b : Bool) → length (cond b (l ∷ filter p ls) (filter p ls)) ≡ one b + length (filter p ls)
    by true = omega arith
    by false = omega arith

lengths_more : (ws : List Who) (l : NumberedLine) (ls : List NumberedLine) → lengths ws (l ∷ ls) ≡ owned ws l + lengths ws ls
lengths_more [] l ls = refl
lengths_more (w ∷ ws) l ls =
    let own : length (lines_of_actor w (l ∷ ls)) ≡ one (is_done_by w l.line) + length (lines_of_actor w ls) =
    filter_long (λ (x : NumberedLine). is_done_by w x.line) l ls in
    let rest = lengths_more ws l ls in
    omega (arith, own, rest)

-- a doer's line is no other's
no_other : (w x : Who) (ws : List Who) → is_same w x ≡ true → AllByRecursion (λ (y : Who). is_same w y ≡ false) ws
    → AllByRecursion (λ (y : Who). is_same y x ≡ false) ws
no_other w x [] own h = tt
no_other w x (y ∷ ws) own h = (by (is_same y x) refl, no_other w x ws own h.1)
  where
    by : (b : Bool) → is_same y x ≡ b → is_same y x ≡ false
    by true e = absurd (true≢false (sym own ∙ ap (λ z. is_same w z) (sym (same_caller y x e)) ∙ h.0))
    by false e = e

none_owned : (d : Doer) (x : Who) (ws : List Who) (l : NumberedLine) → doer_of l.line ≡ doer.Actor x → AllByRecursion (λ (y : Who). is_same y x ≡ false) ws
    → owned ws l ≡ 0
none_owned d x [] l e h = refl
none_owned d x (y ∷ ws) l e h =
    let off : is_done_by y l.line ≡ false = ap (is_actor y) e ∙ h.0 in
    let own : one (is_done_by y l.line) ≡ 0 = ap one off in
    let rest = none_owned d x ws l e h.1 in
    omega (arith, own, rest)

not_actor : (ws : List Who) (l : NumberedLine) → ((w : Who) → is_done_by w l.line ≡ false) → owned ws l ≡ 0
not_actor [] l h = refl
not_actor (w ∷ ws) l h =
    let own : one (is_done_by w l.line) ≡ 0 = ap one (h w) in
    let rest = not_actor ws l h in
    omega (arith, own, rest)

one_owner : (x : Who) (ws : List Who) (l : NumberedLine) → doer_of l.line ≡ doer.Actor x → AreDistinct ws → owned ws l ≤ 1
one_owner x [] l e h = omega arith
one_owner x (w ∷ ws) l e h = by (is_same w x) refl (one_owner x ws l e h.1)
  where
    by : (b : Bool) → is_same w x ≡ b → owned ws l ≤ 1 → owned (w ∷ ws) l ≤ 1
    by true own later =
        let mine : one (is_done_by w l.line) ≡ 1 = ap one (ap (is_actor w) e ∙ own) in
        let rest = none_owned (doer.Actor x) x ws l e (no_other w x ws own h.0) in
        omega (arith, mine, rest)
    by false off later =
        let none : one (is_done_by w l.line) ≡ 0 = ap one (ap (is_actor w) e ∙ off) in
        omega (arith, none, later)

at_most_one : (ws : List Who) (l : NumberedLine) → AreDistinct ws → owned ws l ≤ 1
at_most_one ws l h = by (doer_of l.line) refl
  where
    none : (d : Doer) → doer_of l.line ≡ d → ((w : Who) → is_actor w d ≡ false) → owned ws l ≤ 1
    none d e off = let z = not_actor ws l (λ w. ap (is_actor w) e ∙ off w) in omega (arith, z)

    by : (d : Doer) → doer_of l.line ≡ d → owned ws l ≤ 1
    by (doer.Actor x) e = one_owner x ws l e h
    by doer.Worker e = none doer.Worker e (λ w. refl)
    by doer.Monitor e = none doer.Monitor e (λ w. refl)
    by doer.Nobody e = none doer.Nobody e (λ w. refl)

lengths_few : (ws : List Who) (lines : List NumberedLine) → AreDistinct ws → lengths ws lines ≤ length lines
lengths_few ws [] h = let z = lengths_none ws in omega (arith, z)
lengths_few ws (l ∷ ls) h =
    let more = lengths_more ws l ls in
    let first = at_most_one ws l h in
    let rest = lengths_few ws ls h in
    omega (arith, more, first, rest)

-- ---- of all deeds

module _ (drew : DrewLaw) (land : Land) (lines : List NumberedLine) (past : List PastEntry) where
  deed_long : (d : Deed) (w : Who) → d.who ≡ w → Did land lines past w (left_of d) d.full_at → length (drawn_by w (left_of d)) ≤ length (lines_of_actor w lines)
  deed_long d (caller.Session s) e h = session_long land lines past s (left_of d) (drew land lines past s (left_of d) d.full_at h)
  deed_long d w e h = omega arith

  deeds_long : (ds : List Deed) → AllByRecursion (DidDeed land lines past) ds
      → length (drawn_in_deeds ds) ≤ lengths (map (λ (d : Deed). d.who) ds) lines
  deeds_long [] h = omega arith
  deeds_long (d ∷ ds) h =
      let own = deed_long d d.who refl h.0.did in
      let rest = deeds_long ds h.1 in
      let both = length-append (drawn_by d.who (left_of d)) (drawn_in_deeds ds) in
      omega (arith, own, rest, both)

  pub drawn_few : (ds : List Deed) → AllByRecursion (DidDeed land lines past) ds → AreDistinct (map (λ (d : Deed). d.who) ds)
      → length (drawn_in_deeds ds) ≤ length lines
  drawn_few ds h distinct =
      let a = deeds_long ds h in
      let b = lengths_few (map (λ (d : Deed). d.who) ds) lines distinct in
      omega (arith, a, b)
