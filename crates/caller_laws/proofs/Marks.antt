-- A history with a mark at each call of one caller.
use Rattle.std.proofs.Common.{◌≡◌, ℕ, suc, ◌≤◌, Bool, true, false, true≢false, List, [], ◌∷◌, ◌++◌, length, map, refl, sym, ap, ◌∙◌, subst, arith}
use Rattle.std.proofs.Common.{append_assoc, append-nil, map-id}
use Rattle.std.proofs.lemmas.List.{map-append}
use Rattle.std.specs.List.{AllByRecursion, filter}
use Rattle.std.specs.Prelude.{if◌then◌else◌}
use mathlib.Core.List.{IsPrefix}
use Rattle.hall_model.specs.History.{is_unrecorded}
use Rattle.hall_model.specs.declared.command.Command.{Command}
use Rattle.hall_model.specs.declared.command.PastEntry.{PastEntry}
use Rattle.hall_model.specs.declared.command.Reply.{Reply}
use Rattle.order_laws.specs.Behind.{up_after}
use Rattle.order_workers.specs.Orders.{Made}
use Rattle.script_actors.specs.Drawings.{DeskCall, desk_call, with_call}
use Rattle.caller_laws.specs.Seen.{AreSeen, IsEntryOf, Kept, Nothing, Others, Unkept}

pub record Mark : Type 0 where
  pub entry : PastEntry
  pub own : Bool

abbrev pub entry : Mark → PastEntry
entry m = m.entry

abbrev pub is_own : Mark → Bool
is_own m = m.own

abbrev pub other : PastEntry → Mark
other e = record { entry = e; own = false }

abbrev pub mine : PastEntry → Mark
mine e = record { entry = e; own = true }

-- the marked calls
abbrev pub owned : List Mark → List PastEntry
owned [] = []
owned (m ∷ ms) = if m.own then m.entry ∷ owned ms else owned ms

-- what a pass knows, as marks: the history that it has seen, and which calls are its own
pub record IsMarked (seen own : List PastEntry) (marks : List Mark) : Type 0 where
  pub entries : map entry marks ≡ seen
  pub marked : owned marks ≡ own

entries_of : (f : PastEntry → Mark) → ((e : PastEntry) → entry (f e) ≡ e) → (es : List PastEntry) → map entry (map f es) ≡ es
entries_of f is [] = refl
entries_of f is (e ∷ es) = λ i. is e i ∷ entries_of f is es i

owned_split : (b : Bool) (e : PastEntry) (all xs ys : List PastEntry) → all ≡ xs ++ ys
    → (if b then e ∷ all else all) ≡ (if b then e ∷ xs else xs) ++ ys
owned_split true e all xs ys h = ap (λ l. e ∷ l) h
owned_split false e all xs ys h = h

owned-append : (xs ys : List Mark) → owned (xs ++ ys) ≡ owned xs ++ owned ys
owned-append [] ys = refl
owned-append (x ∷ xs) ys = owned_split x.own x.entry (owned (xs ++ ys)) (owned xs) (owned ys) (owned-append xs ys)

owned_others : (es : List PastEntry) → owned (map other es) ≡ []
owned_others [] = refl
owned_others (e ∷ es) = owned_others es

owned_mine : (es : List PastEntry) → owned (map mine es) ≡ es
owned_mine [] = refl
owned_mine (e ∷ es) = ap (λ l. e ∷ l) (owned_mine es)

-- calls of others behind
others_marked : (seen extra own : List PastEntry) (marks : List Mark) → IsMarked seen own marks → IsMarked (seen ++ extra) own (marks ++ map other extra)
others_marked seen extra own marks h = record {
  entries = map-append entry marks (map other extra) ∙ (λ i. h.entries i ++ entries_of other (λ e. refl) extra i);
  marked = owned-append marks (map other extra) ∙ ap (λ l. owned marks ++ l) (owned_others extra) ∙ append-nil (owned marks) ∙ h.marked;
}

-- own calls behind
mine_marked : (seen added own : List PastEntry) (marks : List Mark) → IsMarked seen own marks
    → IsMarked (seen ++ added) (own ++ added) (marks ++ map mine added)
mine_marked seen added own marks h = record {
  entries = map-append entry marks (map mine added) ∙ (λ i. h.entries i ++ entries_of mine (λ e. refl) added i);
  marked = owned-append marks (map mine added) ∙ (λ i. h.marked i ++ owned_mine added i);
}

seen_others : (extra : List PastEntry) (marks : List Mark) (calls : List Made) → AreSeen entry is_own marks calls
    → AreSeen entry is_own (marks ++ map other extra) calls
seen_others [] marks calls h = subst (λ l. AreSeen entry is_own l calls) (sym (append-nil marks)) h
seen_others (e ∷ extra) marks calls h =
    subst (λ l. AreSeen entry is_own l calls) (append_assoc marks (other e ∷ []) (map other extra))
    (seen_others extra (marks ++ other e ∷ []) calls (Others marks calls (other e) h refl))

-- ---- one call more

cancel : {A : Type 0} (xs ys zs : List A) → xs ++ ys ≡ xs ++ zs → ys ≡ zs
cancel [] ys zs h = h
cancel (x ∷ xs) ys zs h = cancel xs ys zs (ap (λ l. tail l) h)
  where
    tail : {A : Type 0} → List A → List A
    tail [] = []
    tail (y ∷ ys) = ys

none_mapped : (es : List PastEntry) → map desk_call es ≡ [] → es ≡ []
none_mapped [] h = refl
none_mapped (e ∷ es) h = cc

-- one call was added, or none
pub record IsAdded (m : Made) (added : List PastEntry) : Type 0 where
  pub kept : is_unrecorded m.reply ≡ false → (e : PastEntry) × (added ≡ e ∷ []) × IsEntryOf e m
  pub unkept : is_unrecorded m.reply ≡ true → added ≡ []

one_mapped : (m : Made) (es : List PastEntry) → map desk_call es ≡ record { line = 0; command = m.command; reply = m.reply } ∷ []
    → (e : PastEntry) × (es ≡ e ∷ []) × IsEntryOf e m
one_mapped m [] h = cc
one_mapped m (e ∷ []) h = (e, refl, record { line = ap head_line h; command = ap head_command h; reply = ap head_reply h })
  where
    head_line : List DeskCall → ℕ
    head_line [] = 0
    head_line (d ∷ ds) = d.line

    head_command : List DeskCall → Command
    head_command [] = m.command
    head_command (d ∷ ds) = d.command

    head_reply : List DeskCall → Reply
    head_reply [] = m.reply
    head_reply (d ∷ ds) = d.reply
one_mapped m (e ∷ f ∷ es) h = cc

pub added_by : (m : Made) (before added : List PastEntry)
    → map desk_call (before ++ added) ≡ with_call (map desk_call before) 0 m.command m.reply → IsAdded m added
added_by m before added told = record {
  kept = λ on.
      one_mapped m added
      (cancel (map desk_call before) (map desk_call added) (the_call ∷ []) (sym (map-append desk_call before added) ∙ told ∙ ap by on));
  unkept = λ off.
      none_mapped added
      (cancel (map desk_call before) (map desk_call added) []
      (sym (map-append desk_call before added) ∙ told ∙ ap by off ∙ sym (append-nil (map desk_call before))));
}
  where
    the_call : DeskCall
    the_call = record { line = 0; command = m.command; reply = m.reply }

    by : Bool → List DeskCall
    by b = if b then map desk_call before else map desk_call before ++ the_call ∷ []

-- ---- one turn

-- a pass has taken one turn: others' calls came before it, and what was added is its own
pub record IsOwnTurn (m : Made) (seen now own own_now : List PastEntry) : Type 0 where
  pub before : List PastEntry
  pub began : IsPrefix seen before
  pub added : List PastEntry
  pub grew : before ++ added ≡ now
  pub told : map desk_call now ≡ with_call (map desk_call before) 0 m.command m.reply
  pub up : m.is_up ≡ up_after now
  pub grown : own_now ≡ own ++ added

-- a worker that has seen these calls has seen one more behind its turn
pub record Marked (seen own : List PastEntry) (calls : List Made) : Type 0 where
  pub marks : List Mark
  pub fits : IsMarked seen own marks
  pub shows : AreSeen entry is_own marks calls

seen_added : (m : Made) (before added : List PastEntry) (marks : List Mark) (calls : List Made) → map entry marks ≡ before → IsAdded m added
    → m.is_up ≡ up_after (before ++ added) → AreSeen entry is_own marks calls → AreSeen entry is_own (marks ++ map mine added) (calls ++ m ∷ [])
seen_added m before added marks calls same a up h = go (is_unrecorded m.reply) refl
  where
    go : (b : Bool) → is_unrecorded m.reply ≡ b → AreSeen entry is_own (marks ++ map mine added) (calls ++ m ∷ [])
    go true off =
        let none : added ≡ [] = a.unkept off in
        let here : m.is_up ≡ up_after (map entry marks) =
        up ∙ ap up_after (ap (λ l. before ++ l) none ∙ append-nil before ∙ sym same) in
        subst (λ l. AreSeen entry is_own l (calls ++ m ∷ [])) (sym (ap (λ l. marks ++ map mine l) none ∙ append-nil marks)) (Unkept marks calls m h off here)
    go false on =
        let k = a.kept on in
        let here : m.is_up ≡ up_after (map entry (marks ++ mine k.0 ∷ [])) =
        up ∙ ap up_after ((λ i. sym same i ++ k.1 i) ∙ sym (map-append entry marks (mine k.0 ∷ []))) in
        subst (λ l. AreSeen entry is_own (marks ++ map mine l) (calls ++ m ∷ [])) (sym k.1) (Kept marks calls (mine k.0) m h refl k.2 on here)

pub marked_more : (m : Made) (seen now own own_now : List PastEntry) (calls : List Made) → Marked seen own calls → IsOwnTurn m seen now own own_now
    → Marked now own_now (calls ++ m ∷ [])
marked_more m seen now own own_now calls h t =
    let extra = t.began.0 in
    let marks = h.marks ++ map other extra in
    let front : IsMarked t.before own marks = subst (λ l. IsMarked l own marks) t.began.1 (others_marked seen extra own h.marks h.fits) in
    record {
      marks = marks ++ map mine t.added;
      fits = subst (λ l. IsMarked l own_now (marks ++ map mine t.added)) t.grew
          (subst (λ l. IsMarked (t.before ++ t.added) l (marks ++ map mine t.added)) (sym t.grown) (mine_marked t.before t.added own marks front));
      shows = seen_added m t.before t.added marks calls front.entries (added_by m t.before t.added (ap (map desk_call) t.grew ∙ t.told))
          (t.up ∙ ap up_after (sym t.grew)) (seen_others extra h.marks calls h.shows);
    }

-- before its first call a pass has no entry of its own
pub marked_first : (seen : List PastEntry) → Marked seen [] []
marked_first seen = record {
  marks = map other seen;
  fits = others_marked [] seen [] [] (record { entries = refl; marked = refl });
  shows = seen_others seen [] [] Nothing;
}

-- of a longer history whose later calls are others'
pub marked_longer : (seen extra own : List PastEntry) (calls : List Made) → Marked seen own calls → Marked (seen ++ extra) own calls
marked_longer seen extra own calls h = record {
  marks = h.marks ++ map other extra;
  fits = others_marked seen extra own h.marks h.fits;
  shows = seen_others extra h.marks calls h.shows;
}

-- ---- marks that tell the caller

-- each mark says whether the caller is this one
abbrev pub AreRight : (PastEntry → Bool) → List Mark → Type 0
AreRight by [] = Unit {0}
AreRight by (m ∷ ms) = (m.own ≡ by m.entry) × AreRight by ms

right_front : (by : PastEntry → Bool) (xs ys : List Mark) → AreRight by (xs ++ ys) → AreRight by xs
right_front by [] ys h = tt
right_front by (x ∷ xs) ys h = (h.0, right_front by xs ys h.1)

right_last : (by : PastEntry → Bool) (xs : List Mark) (m : Mark) → AreRight by (xs ++ m ∷ []) → m.own ≡ by m.entry
right_last by [] m h = h.0
right_last by (x ∷ xs) m h = right_last by xs m h.1

-- by such marks the calls were seen in the history itself
seen_by : (by : PastEntry → Bool) (marks : List Mark) (calls : List Made) → AreRight by marks → AreSeen entry is_own marks calls
    → AreSeen (λ (e : PastEntry). e) by (map entry marks) calls
seen_by by marks calls right Nothing = Nothing
seen_by by marks calls right (Others past calls' e h his) =
    subst (λ l. AreSeen (λ (x : PastEntry). x) by l calls') (sym (map-append entry past (e ∷ [])))
    (Others (map entry past) calls' e.entry (seen_by by past calls' (right_front by past (e ∷ []) right) h) (sym (right_last by past e right) ∙ his))
seen_by by marks calls right (Kept past calls' e m h owned is on up) =
    subst (λ l. AreSeen (λ (x : PastEntry). x) by l (calls' ++ m ∷ [])) (sym (map-append entry past (e ∷ [])))
    (Kept (map entry past) calls' e.entry m (seen_by by past calls' (right_front by past (e ∷ []) right) h) (sym (right_last by past e right) ∙ owned) is on
    (up ∙ ap up_after (map-append entry past (e ∷ []) ∙ sym (map-id (map entry past ++ e.entry ∷ [])))))
seen_by by marks calls right (Unkept past calls' m h off up) =
    Unkept (map entry past) calls' m (seen_by by past calls' right h) off (up ∙ ap up_after (sym (map-id (map entry past))))

-- ---- as many marks as calls of the caller

own_split : (P : PastEntry → Type 0) (b : Bool) (e : PastEntry) (own : List PastEntry) → AllByRecursion P (if b then e ∷ own else own)
    → (b ≡ true → P e) × AllByRecursion P own
own_split P true e own h = ((λ is. h.0), h.1)
own_split P false e own h = ((λ is. absurd (true≢false (sym is))), h)

short_step : (b c : Bool) (e : PastEntry) (own all : List PastEntry) → (b ≡ true → c ≡ true) → length own ≤ length all
    → length (if b then e ∷ own else own) ≤ length (if c then e ∷ all else all)
short_step true true e own all f h = let more : suc (length own) ≤ suc (length all) = omega (arith, h) in more
short_step true false e own all f h = absurd (true≢false (sym (f refl)))
short_step false true e own all f h = let more : length own ≤ suc (length all) = omega (arith, h) in more
short_step false false e own all f h = h

-- where each marked call is the caller's there are no more marks than calls of the caller
owned_short : (by : PastEntry → Bool) (ms : List Mark) → AllByRecursion (λ e. by e ≡ true) (owned ms) → length (owned ms) ≤ length (filter by (map entry ms))
owned_short by [] h = omega arith
owned_short by (m ∷ ms) h =
    let parts = own_split (λ e. by e ≡ true) m.own m.entry (owned ms) h in
    short_step m.own (by m.entry) m.entry (owned ms) (filter by (map entry ms)) parts.0 (owned_short by ms parts.1)

right_step : (b c : Bool) (e : PastEntry) (own all : List PastEntry) → (b ≡ true → c ≡ true) → length own ≤ length all
    → length (if c then e ∷ all else all) ≤ length (if b then e ∷ own else own) → (b ≡ c) × (length all ≤ length own)
right_step true true e own all f h few = let less : suc (length all) ≤ suc (length own) = few in (refl, omega (arith, less))
right_step true false e own all f h few = absurd (true≢false (sym (f refl)))
right_step false true e own all f h few = let less : suc (length all) ≤ length own = few in absurd (omega (arith, h, less))
right_step false false e own all f h few = (refl, few)

-- and where there are as many, the marks are right
are_right : (by : PastEntry → Bool) (ms : List Mark) → AllByRecursion (λ e. by e ≡ true) (owned ms)
    → length (filter by (map entry ms)) ≤ length (owned ms) → AreRight by ms
are_right by [] h few = tt
are_right by (m ∷ ms) h few =
    let parts = own_split (λ e. by e ≡ true) m.own m.entry (owned ms) h in
    let step = right_step m.own (by m.entry) m.entry (owned ms) (filter by (map entry ms)) parts.0 (owned_short by ms parts.1) few in
    (step.0, are_right by ms parts.1 step.1)

-- Where a worker's own entries are all that one caller has in the history, the history has the worker's calls by that caller.
pub marked_seen : (by : PastEntry → Bool) (log own : List PastEntry) (calls : List Made) → Marked log own calls → AllByRecursion (λ e. by e ≡ true) own
    → filter by log ≡ own → AreSeen (λ (e : PastEntry). e) by log calls
marked_seen by log own calls h all same =
    let theirs : AllByRecursion (λ e. by e ≡ true) (owned h.marks) = subst (AllByRecursion (λ e. by e ≡ true)) (sym h.fits.marked) all in
    let count : length (filter by (map entry h.marks)) ≡ length (owned h.marks) =
    ap (λ l. length (filter by l)) h.fits.entries ∙ ap length (same ∙ sym h.fits.marked) in
    subst (λ l. AreSeen (λ (e : PastEntry). e) by l calls) h.fits.entries
    (seen_by by h.marks calls (are_right by h.marks theirs (omega (arith, count))) h.shows)
