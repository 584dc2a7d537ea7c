-- What a desk did, with one call or one drawing more.
use Rattle.std.proofs.Common.{◌≡◌, ℕ, zero, suc, ◌+◌, ◌<◌, ◌≤◌, Bool, true, false, List, [], ◌∷◌, ◌++◌, append-nil, append_assoc, drop, length, length-append, map, take, refl, sym, ap, ◌∙◌, arith}
use Rattle.std.specs.Prelude.{if◌then◌else◌, nat_lt, Option, Some, None, slice_get}
use Rattle.std.proofs.lemmas.Bool.Decides.{nat_tests}
use Rattle.std.proofs.lemmas.List.{map-append}
use Rattle.hall_model.specs.declared.command.Command.{Command}
use Rattle.hall_model.specs.declared.command.Reply.{Reply}
use Rattle.hall_model.specs.History.{is_unrecorded}
use Rattle.script_actors.specs.Drawings.{Called, DeskCall, DeskEntry, Drawing, Drew, calls_in, calls_of, number_in, with_call, with_called}
use Rattle.turn_desks.specs.Draws.{call_made}
use Rattle.turn_desks.specs.Weaving.{Noted, drawing_of, made_behind, made_for, numbers_in, numbers_of, numbers_told, woven}

module _ {X : Type 0} where
  take_front : (xs ys : List X) (n : ℕ) → n ≤ length xs → take n (xs ++ ys) ≡ take n xs
  take_front xs ys zero le = refl
  take_front [] ys (suc n) le = absurd (omega (arith, le))
  take_front (x ∷ xs) ys (suc n) le = ap (λ l. x ∷ l) (take_front xs ys n (omega (arith, le)))

  drop_front : (xs ys : List X) (n : ℕ) → n ≤ length xs → drop n (xs ++ ys) ≡ drop n xs ++ ys
  drop_front xs ys zero le = refl
  drop_front [] ys (suc n) le = absurd (omega (arith, le))
  drop_front (x ∷ xs) ys (suc n) le = drop_front xs ys n (omega (arith, le))

  get_front : (xs ys : List X) (n : ℕ) → n < length xs → slice_get (xs ++ ys) n ≡ slice_get xs n
  get_front [] ys n lt = absurd (omega (arith, lt))
  get_front (x ∷ xs) ys zero lt = refl
  get_front (x ∷ xs) ys (suc n) lt = get_front xs ys n (omega (arith, lt))

  take_whole : (xs : List X) → take (length xs) xs ≡ xs
  take_whole [] = refl
  take_whole (x ∷ xs) = ap (λ l. x ∷ l) (take_whole xs)

  drop_whole : (xs : List X) → drop (length xs) xs ≡ []
  drop_whole [] = refl
  drop_whole (x ∷ xs) = drop_whole xs

  get_last : (xs : List X) (x : X) → slice_get (xs ++ x ∷ []) (length xs) ≡ Some x
  get_last [] x = refl
  get_last (y ∷ xs) x = get_last xs x

either : (P : Type 0) (b : Bool) → (b ≡ true → P) → (b ≡ false → P) → P
either P true f g = f refl
either P false f g = g refl

is_less : (m n : ℕ) → nat_lt m n ≡ true → m < n
is_less m n h = grind (arith, nat_tests)

less_is : (m n : ℕ) → m < n → nat_lt m n ≡ true
less_is m n h = grind (arith, nat_tests)

not_less : (n : ℕ) → nat_lt n n ≡ false
not_less n = grind (arith, nat_tests)

-- ---- one call more

same_made : (n : Noted) (calls : List DeskCall) (c : DeskCall) → n.behind ≤ length calls → made_for n (calls ++ c ∷ []) ≡ made_for n calls
same_made n calls c within =
    either (made_for n (calls ++ c ∷ []) ≡ made_for n calls) (nat_lt n.before n.behind)
    (λ on. let less = is_less n.before n.behind on in
    ap (λ o. if nat_lt n.before n.behind then o else None) (get_front calls (c ∷ []) n.before (omega (arith, less, within))))
    (λ off. ap (λ b. if b then slice_get (calls ++ c ∷ []) n.before else None) off ∙ sym (ap (λ b. if b then slice_get calls n.before else None) off))

pub called_more : (ns : List Noted) (calls : List DeskCall) (c : DeskCall) → made_behind ns ≤ length calls
    → woven ns (calls ++ c ∷ []) ≡ woven ns calls ++ Called c ∷ []
called_more [] calls c within = map-append Called calls (c ∷ [])
called_more (n ∷ earlier) calls c within =
    let front = take_front calls (c ∷ []) n.before (omega (arith, within)) in
    let back = ap (map Called) (drop_front calls (c ∷ []) n.behind (omega (arith, within))) ∙ map-append Called (drop n.behind calls) (c ∷ []) in
    let made = same_made n calls c (omega (arith, within)) in
    let drawn : Option DeskCall → Drawing = λ o. record { line = n.line; object = n.object; nr = n.nr; reservation = o; reply = n.reply } in
    (λ i. woven earlier (front i) ++ (Drew (drawn (made i)) ∷ back i))
    ∙ sym (append_assoc (woven earlier (take n.before calls)) (Drew (drawing_of n calls) ∷ map Called (drop n.behind calls)) (Called c ∷ []))

-- the same where the history may keep none
pub with_one : (ns : List Noted) (calls now : List DeskCall) (n : ℕ) (c : Command) (r : Reply) → made_behind ns ≤ length calls → now ≡ with_call calls n c r
    → woven ns now ≡ with_called (woven ns calls) n c r
with_one ns calls now n c r within is =
    let one : DeskCall = record { line = n; command = c; reply = r } in
    ap (woven ns) is
    ∙ (elim (is_unrecorded r) as (λ b. woven ns (if b then calls else calls ++ one ∷ []) ≡ (if b then woven ns calls else woven ns calls ++ Called one ∷ [])) [
      | true ↦ refl
      | false ↦ called_more ns calls one within
    ])

pub no_fewer : (calls now : List DeskCall) (n : ℕ) (c : Command) (r : Reply) → now ≡ with_call calls n c r → length calls ≤ length now
no_fewer calls now n c r is =
    let one : DeskCall = record { line = n; command = c; reply = r } in
    let at : length now ≡ length (with_call calls n c r) = ap length is in
    let most : length calls ≤ length (with_call calls n c r) =
    elim (is_unrecorded r) as (λ b. length calls ≤ length (if b then calls else calls ++ one ∷ [])) [
      | true ↦ omega arith
      | false ↦ omega (arith, length-append calls (one ∷ []))
    ] in
    omega (arith, at, most)

-- ---- one drawing more

made_so : (n : Noted) (calls now : List DeskCall) (o : Option DeskCall) → now ≡ calls ++ call_made o → n.before ≡ length calls → n.behind ≡ length now
    → (take n.before now ≡ calls) × (made_for n now ≡ o) × (drop n.behind now ≡ [])
made_so n calls now None is before behind =
    let same : now ≡ calls = is ∙ append-nil calls in
    let at : n.before ≡ length now = before ∙ sym (ap length same) in (
      ap (λ k. take k now) at ∙ (take_whole now ∙ same),
      (ap (λ (x : ℕ × ℕ). if nat_lt x.0 x.1 then slice_get now n.before else None) (λ i. (at i, behind i))
          ∙ ap (λ b. if b then slice_get now n.before else None) (not_less (length now))),
      ap (λ k. drop k now) behind ∙ drop_whole now,
    )
made_so n calls now (Some c) is before behind =
    let long : length now ≡ length calls + 1 = ap length is ∙ length-append calls (c ∷ []) in
    let less : n.before < n.behind = omega (arith, before, behind, long) in (
      ap (take n.before) is ∙ (ap (λ k. take k (calls ++ c ∷ [])) before ∙ (take_front calls (c ∷ []) (length calls) (omega arith) ∙ take_whole calls)),
      ap (λ b. if b then slice_get now n.before else None) (less_is n.before n.behind less)
          ∙ (ap (λ (x : List DeskCall). slice_get x n.before) is ∙ (ap (slice_get (calls ++ c ∷ [])) before ∙ get_last calls c)),
      ap (λ k. drop k now) behind ∙ drop_whole now,
    )

pub drawn_more : (n : Noted) (ns : List Noted) (calls now : List DeskCall) (o : Option DeskCall) → now ≡ calls ++ call_made o → n.before ≡ length calls
    → n.behind ≡ length now
    → woven (n ∷ ns) now ≡ woven ns calls ++ Drew (record { line = n.line; object = n.object; nr = n.nr; reservation = o; reply = n.reply }) ∷ []
drawn_more n ns calls now o is before behind =
    let made = made_so n calls now o is before behind in
    λ i. woven ns (made.0 i) ++ (Drew (record { line = n.line; object = n.object; nr = n.nr; reservation = made.1 i; reply = n.reply }) ∷ map Called (made.2 i))

-- ---- what is among it

pub calls_append : (es fs : List DeskEntry) → calls_in (es ++ fs) ≡ calls_in es ++ calls_in fs
calls_append [] fs = refl
calls_append (e ∷ es) fs = ap (λ l. calls_of e ++ l) (calls_append es fs) ∙ sym (append_assoc (calls_of e) (calls_in es) (calls_in fs))

pub numbers_append : (es fs : List DeskEntry) → numbers_in (es ++ fs) ≡ numbers_in es ++ numbers_in fs
numbers_append [] fs = refl
numbers_append (e ∷ es) fs = ap (λ l. numbers_of e ++ l) (numbers_append es fs) ∙ sym (append_assoc (numbers_of e) (numbers_in es) (numbers_in fs))

pub told_append : (ns ms : List Noted) → numbers_told (ns ++ ms) ≡ numbers_told ns ++ numbers_told ms
told_append [] ms = refl
told_append (n ∷ ns) ms =
    ap (λ l. number_in n.object n.nr n.reply ++ l) (told_append ns ms)
    ∙ sym (append_assoc (number_in n.object n.nr n.reply) (numbers_told ns) (numbers_told ms))

pub calls_with : (es : List DeskEntry) (n : ℕ) (c : Command) (r : Reply) → calls_in (with_called es n c r) ≡ with_call (calls_in es) n c r
calls_with es n c r =
    let one : DeskCall = record { line = n; command = c; reply = r } in
    elim (is_unrecorded r) as (λ b. calls_in (if b then es else es ++ Called one ∷ []) ≡ (if b then calls_in es else calls_in es ++ one ∷ [])) [
      | true ↦ refl
      | false ↦ calls_append es (Called one ∷ [])
    ]

pub numbers_with : (es : List DeskEntry) (n : ℕ) (c : Command) (r : Reply) → numbers_in (with_called es n c r) ≡ numbers_in es
numbers_with es n c r =
    let one : DeskCall = record { line = n; command = c; reply = r } in
    elim (is_unrecorded r) as (λ b. numbers_in (if b then es else es ++ Called one ∷ []) ≡ numbers_in es) [
      | true ↦ refl
      | false ↦ numbers_append es (Called one ∷ []) ∙ append-nil (numbers_in es)
    ]
