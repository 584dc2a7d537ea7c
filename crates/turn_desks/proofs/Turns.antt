-- What a turn does to a pass whose entries stand in order.
use Rattle.std.proofs.Common.{◌≡◌, ℕ, ◌+◌, Bool, true, false, ◌≤◌, List, [], ◌∷◌, ◌++◌, drop, length, map, refl, sym, ap, ◌∙◌, subst, append-nil, arith, length-append}
use Rattle.std.proofs.Math.Logic.{∥∥₁_map}
use Rattle.std.proofs.lemmas.List.{map-append}
use Rattle.std.specs.Prelude.{if◌then◌else◌, Option, Some, is_some, IsTrue}
use mathlib.Core.List.{IsPrefix}
use Rattle.hall_model.specs.History.{is_unrecorded}
use Rattle.hall_model.specs.declared.command.Command.{Command}
use Rattle.hall_model.specs.declared.command.PastEntry.{PastEntry}
use Rattle.hall_model.specs.declared.command.Reply.{Reply}
use Rattle.turn_lock.specs.declared.view.View.{View}
use Rattle.turn_lock.specs.Passes.{IsTurn}
use Rattle.turn_lock.specs.Rule.{own_entries}
use Rattle.script_actors.specs.Actors.{full_after, is_full}
use Rattle.script_actors.specs.Drawings.{DeskCall, desk_call, with_call}
use Rattle.order_laws.specs.Behind.{up_after}
use Rattle.turn_desks.specs.Asking.{Asks, IsAsked}
use Rattle.turn_desks.specs.Parts.{IsPart}
use Rattle.turn_desks.proofs.lemmas.Parts.{part_turned}

module _ {S : Type 0} (past : S → List PastEntry) where
  -- the entries of a pass stand in order in what it has seen
  pub part_kept : (does : S → S → Type 0) (v w : View PastEntry) → IsTurn past does v w → ∥ IsPart (own_entries v) v.seen ∥₁
      → ∥ IsPart (own_entries w) w.seen ∥₁
  part_kept does v w t part =
      ∥∥₁_map part (λ h.
      let more = part_turned (own_entries v) v.seen (past t.before) (past t.after) t.began t.grew h in
      subst (λ l. IsPart l w.seen) (sym t.own)
      (subst (λ (x : View PastEntry). IsPart (own_entries v ++ drop (length (past t.before)) (past t.after)) x.seen) (sym t.knows) more))

  -- a turn of which less is told
  pub turn_of : (does less : S → S → Type 0) (v w : View PastEntry) → ((x y : S) → does x y → less x y) → IsTurn past does v w → IsTurn past less v w
  turn_of does less v w tells t = record {
    before = t.before;
    after = t.after;
    ran = tells t.before t.after t.ran;
    began = t.began;
    grew = t.grew;
    behind = t.behind;
    knows = t.knows;
    own = t.own;
  }

  dropped : (front rest : List PastEntry) → drop (length front) (front ++ rest) ≡ rest
  dropped [] rest = refl
  dropped (x ∷ xs) rest = dropped xs rest

  cancel : (xs ys zs : List DeskCall) → xs ++ ys ≡ xs ++ zs → ys ≡ zs
  cancel [] ys zs h = h
  cancel (x ∷ xs) ys zs h = cancel xs ys zs (ap (λ l. drop 1 l) h)

  -- what was added is one call, or none
  added_by : (xs ys : List DeskCall) (n : ℕ) (c : Command) (r : Reply) (more : List DeskCall) → xs ++ more ≡ with_call xs n c r
      → ys ++ more ≡ with_call ys n c r
  added_by xs ys n c r more h = go (is_unrecorded r) refl
    where
      the_call : DeskCall
      the_call = record { line = n; command = c; reply = r }

      go : (b : Bool) → is_unrecorded r ≡ b → ys ++ more ≡ with_call ys n c r
      go true e =
          let none : more ≡ [] = cancel xs more [] (h ∙ ap (λ b. if b then xs else xs ++ the_call ∷ []) e ∙ sym (append-nil xs)) in
          ap (λ l. ys ++ l) none ∙ append-nil ys ∙ sym (ap (λ b. if b then ys else ys ++ the_call ∷ []) e)
      go false e =
          let one : more ≡ the_call ∷ [] = cancel xs more (the_call ∷ []) (h ∙ ap (λ b. if b then xs else xs ++ the_call ∷ []) e) in
          ap (λ l. ys ++ l) one ∙ sym (ap (λ b. if b then ys else ys ++ the_call ∷ []) e)

  -- the pass's own entries grow as the history does
  pub told_turn : (n : ℕ) (c : Command) (r : Reply) (does : S → S → Type 0) (v w : View PastEntry)
      → ((x y : S) → does x y → map desk_call (past y) ≡ with_call (map desk_call (past x)) n c r) → IsTurn past does v w
      → map desk_call (own_entries w) ≡ with_call (map desk_call (own_entries v)) n c r
  told_turn n c r does v w told t =
      let rest : List PastEntry = t.grew.0 in
      let grown : past t.before ++ rest ≡ past t.after = t.grew.1 in
      let added : drop (length (past t.before)) (past t.after) ≡ rest = ap (drop (length (past t.before))) (sym grown) ∙ dropped (past t.before) rest in
      let step : map desk_call (past t.before) ++ map desk_call rest ≡ with_call (map desk_call (past t.before)) n c r =
      sym (map-append desk_call (past t.before) rest) ∙ ap (map desk_call) grown ∙ told t.before t.after t.ran in
      ap (map desk_call) (t.own ∙ ap (λ l. own_entries v ++ l) added) ∙ map-append desk_call (own_entries v) rest
      ∙ added_by (map desk_call (past t.before)) (map desk_call (own_entries v)) n c r (map desk_call rest) step

  -- what a turn that asks the server comes to
  pub asked_turn : (n : ℕ) (c : Command) (r : Reply) (up : Bool) (v w : View PastEntry) → IsTurn past (Asks past n c r up) v w → IsAsked past n c r up v w
  asked_turn n c r up v w t = record {
    turn = t;
    own = told_turn n c r (Asks past n c r up) v w (λ x y h. h.0) t;
    seen = t.ran.1 ∙ ap (λ (x : View PastEntry). up_after x.seen) (sym t.knows);
    full = λ yes. subst (λ (x : View PastEntry). 262144 ≤ length x.seen) (sym t.knows) (t.ran.2 yes);
    posts = t.ran.3;
  }

  -- its pass has as many parts as before
  pub same_parts : (does : S → S → Type 0) (v w : View PastEntry) → IsTurn past does v w → w.parts ≡ v.parts
  same_parts does v w t = ap (λ (x : View PastEntry). x.parts) t.knows

  grown : (xs ys : List PastEntry) → IsPrefix xs ys → length xs ≤ length ys
  grown xs ys p =
      let n : length ys ≡ length xs + length p.0 = ap length (sym p.1) ∙ length-append xs p.0 in
      omega (arith, n)

  -- what a pass has seen gets no shorter
  seen_grows : (does : S → S → Type 0) (v w : View PastEntry) → IsTurn past does v w → length v.seen ≤ length w.seen
  seen_grows does v w t =
      let one = grown v.seen (past t.before) t.began in
      let two = grown (past t.before) (past t.after) t.grew in
      let knows : length w.seen ≡ length (past t.after) = ap (λ (x : View PastEntry). length x.seen) t.knows in
      omega (arith, one, two, knows)

  either : (P : Type 0) (b : Bool) → (b ≡ true → P) → (b ≡ false → P) → P
  either P true f g = f refl
  either P false f g = g refl

  -- where a call found the history full, the pass has seen one that is as long as it may be
  pub full_kept : (m n : ℕ) (c : Command) (r : Reply) (up : Bool) (v w : View PastEntry) (before : Option ℕ) → IsAsked past m c r up v w
      → (IsTrue (is_some before) → 262144 ≤ length v.seen) → IsTrue (is_some (full_after before n r)) → 262144 ≤ length w.seen
  full_kept m n c r up v w before asked was now =
      either (262144 ≤ length w.seen) (is_full r) asked.full
      (λ off. let same : full_after before n r ≡ before = ap (λ b. if b then Some n else before) off in
      let had : 262144 ≤ length v.seen = was (subst (λ o. IsTrue (is_some o)) same now) in
      let more = seen_grows (Asks past m c r up) v w asked.turn in
      omega (arith, had, more))
