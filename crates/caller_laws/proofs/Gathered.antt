-- What each thread made of a history that is what all of them made.
use Rattle.std.proofs.Common.{◌≡◌, Bool, true, false, List, [], ◌∷◌, ◌++◌, map, refl, sym, ap, ◌∙◌, subst, append_assoc}
use Rattle.std.proofs.lemmas.List.Elements.{All-from_recursion, recursion_from_All}
use Rattle.std.proofs.lemmas.List.Sorted.{All-permutation, IsPermutation-sym}
use Rattle.std.specs.Prelude.{◌||◌, IsTrue, None}
use Rattle.std.specs.List.{AllByRecursion, list_any}
use Rattle.std.specs.List.Sorted.{IsPermutation}
use mathlib.Core.List.{IsPrefix}
use Rattle.hall_model.specs.declared.command.PastEntry.{PastEntry}
use Rattle.hall_model.specs.declared.command.Who.{Who}
use Rattle.hall_model.specs.declared.command.Who.TheVariants as caller
use Rattle.script_actors.specs.Actors.{Land}
use Rattle.script_actors.specs.Doers.{is_same}
use Rattle.script_actors.specs.Drawings.{desk_call}
use Rattle.script_actors.specs.declared.line.NumberedLine.{NumberedLine}
use Rattle.turn_desks.specs.Parts.{IsPart}
use Rattle.turn_desks.proofs.lemmas.Parts.{own_are_filter, part_of_longer}
use Rattle.turn_lock.specs.Rule.{own_entries}
use Rattle.caller_laws.specs.Callers.{AreAmong, AreDistinct, AreTheirs, entries_by, is_by}
use Rattle.caller_laws.specs.Doing.{Did, DidAs, DidAtDesk, DidLines, IsThread, Known, LeadsTurn, Left, LinesDid, Thread, desk_known, entries_of}
use Rattle.caller_laws.proofs.Everywhere.{IsOf, all_append, all_weaker, apart_turned, are_of, by_other, by_own, none_of}
use Rattle.caller_laws.proofs.Loops.{leads_full, leads_posts}
use Rattle.caller_laws.proofs.Marks.{Marked, marked_longer, marked_seen}
use Rattle.caller_laws.proofs.OwnCalls.{LinesAreOwn, fresh_desk, leads_marked, thread_entries}

-- ---- whose the entries are

-- what a thread made stands in the history, in order, and is its own
pub record IsOwner (log : List PastEntry) (t : Thread) : Type 0 where
  pub part : IsPart (own_entries t.now.view) log
  pub own : AllByRecursion (IsOf t.who) (own_entries t.now.view)

abbrev NoneBy : Who → List PastEntry → Type 0
NoneBy w es = AllByRecursion (λ (e : PastEntry). is_by w e ≡ false) es

none_other : (log : List PastEntry) (w : Who) (t : Thread) → is_same w t.who ≡ false → IsOwner log t → NoneBy w (own_entries t.now.view)
none_other log w t apart h = all_weaker (IsOf t.who) (λ e. is_by w e ≡ false) (by_other w t.who apart) (own_entries t.now.view) h.own

-- the later threads made none of an earlier one's
none_later : (log : List PastEntry) (w : Who) (ts : List Thread) → AllByRecursion (λ (x : Who). is_same w x ≡ false) (map (λ (t : Thread). t.who) ts)
    → AllByRecursion (IsOwner log) ts → NoneBy w (entries_of ts)
none_later log w [] apart h = tt
none_later log w (t ∷ ts) apart h =
    all_append (λ e. is_by w e ≡ false) (own_entries t.now.view) (entries_of ts) (none_other log w t apart.0 h.0) (none_later log w ts apart.1 h.1)

-- and the earlier ones none of a later one's
none_earlier : (log front : List PastEntry) (t : Thread) (ts : List Thread) → IsOwner log t
    → AllByRecursion (λ (x : Who). is_same t.who x ≡ false) (map (λ (t : Thread). t.who) ts) → AllByRecursion (λ (x : Thread). NoneBy x.who front) ts
    → AllByRecursion (λ (x : Thread). NoneBy x.who (front ++ own_entries t.now.view)) ts
none_earlier log front t [] own apart h = tt
none_earlier log front t (x ∷ ts) own apart h =
    let both = all_append (λ e. is_by x.who e ≡ false) front (own_entries t.now.view) h.0 (none_other log x.who t (apart_turned t.who x.who apart.0) own) in
    (both, none_earlier log front t ts own apart.1 h.1)

abbrev IsAll : List PastEntry → Thread → Type 0
IsAll log t = entries_by t.who log ≡ own_entries t.now.view

-- what the history has of a thread's caller is what the thread made
all_own : (log front : List PastEntry) (ts : List Thread) → IsPermutation log (front ++ entries_of ts) → AreDistinct (map (λ (t : Thread). t.who) ts)
    → AllByRecursion (IsOwner log) ts → AllByRecursion (λ (t : Thread). NoneBy t.who front) ts → AllByRecursion (IsAll log) ts
all_own log front [] same apart own before = tt
all_own log front (t ∷ ts) same apart own before =
    let mine = own_entries t.now.view in
    let by = is_by t.who in
    let all : AllByRecursion (λ (e : PastEntry). by e ≡ true) mine = all_weaker (IsOf t.who) (λ e. by e ≡ true) (by_own t.who) mine own.0.own in
    let one : IsAll log t =
    own_are_filter by mine front (entries_of ts) log own.0.part (are_of by mine all) (none_of by front before.0)
    (none_of by (entries_of ts) (none_later log t.who ts apart.0 own.1)) same in
    let later : IsPermutation log ((front ++ mine) ++ entries_of ts) = subst (IsPermutation log) (sym (append_assoc front mine (entries_of ts))) same in
    (one, all_own log (front ++ mine) ts later apart.1 own.1 (none_earlier log front t ts own.0 apart.0 before.1))

none_before : (ts : List Thread) → AllByRecursion (λ (t : Thread). NoneBy t.who []) ts
none_before [] = tt
none_before (t ∷ ts) = (tt, none_before ts)

-- ---- what each did

module _ {S : Type 0} (past : S → List PastEntry) (land : Land) (lines : List NumberedLine) (log : List PastEntry) where
  lines_did : (w : Who) (left : Left) (k l : Known) → DidAtDesk land lines w left k l → k.full_at ≡ None → entries_by w log ≡ own_entries l.view
      → LinesDid land lines log w left l.full_at
  lines_did w left k l h full same = record {
    entries = l.entries;
    did = subst (λ v. DidLines land lines w left.said v (desk_known l)) (fresh_desk past k h.fresh full) h.did;
    calls = h.calls ∙ ap (map desk_call) (sym same);
    drawn = h.drawn;
  }

  thread_did : (who : Who) (left : Left) (k l : Known) → DidAs past land lines who left k l → k.view.own ≡ [] → k.full_at ≡ None
      → IsPrefix l.view.seen log → AllByRecursion (IsOf who) (own_entries l.view) → entries_by who log ≡ own_entries l.view
      → Did land lines log who left l.full_at
  thread_did (caller.Worker w) left k l did none full begins own same = record {
    calls = did.0;
    seen = marked_seen (is_by (caller.Worker w)) log (own_entries l.view) did.0
        (subst (λ es. Marked es (own_entries l.view) did.0) begins.1
        (marked_longer l.view.seen begins.0 (own_entries l.view) did.0 (leads_marked past k l did.0 did.1 none)))
        (all_weaker (IsOf (caller.Worker w)) (λ e. is_by (caller.Worker w) e ≡ true) (by_own (caller.Worker w)) (own_entries l.view) own) same;
    ended = did.2;
    full = λ is. (leads_full (λ (x : Known). x.full_at) (LeadsTurn past) (λ x m y h. h.full_at) k l did.0 did.1 is).0;
    posts = leads_posts (LeadsTurn past) (λ x m y h. h.asked.posts) k l did.0 did.1;
  }
  thread_did (caller.Session s) left k l did none full begins own same = lines_did (caller.Session s) left k l did full same
  thread_did caller.Admin left k l did none full begins own same = lines_did caller.Admin left k l did full same

  owners : LinesAreOwn → AreTheirs log → (ts : List Thread) → AllByRecursion (IsThread past land lines log) ts → AllByRecursion (IsOwner log) ts
  owners whose theirs =
      all_weaker (IsThread past land lines log) (IsOwner log)
      (λ t h. record {
        part = part_of_longer (own_entries t.now.view) t.now.view.seen log h.begins h.part;
        own = thread_entries past whose land lines log t theirs h;
      })

  all_did : (ts : List Thread) → AllByRecursion (IsThread past land lines log) ts → AllByRecursion (IsOwner log) ts → AllByRecursion (IsAll log) ts
      → AllByRecursion (λ (t : Thread). Did land lines log t.who t.left t.now.full_at) ts
  all_did [] h own all = tt
  all_did (t ∷ ts) h own all =
      (thread_did t.who t.left t.began t.now h.0.did h.0.fresh h.0.none_full h.0.begins own.0.own all.0, all_did ts h.1 own.1 all.1)

pub each_did : LinesAreOwn → {S : Type 0} (past : S → List PastEntry) (land : Land) (lines : List NumberedLine)
    (log : List PastEntry) (threads : List Thread) → AreTheirs log → AreDistinct (map (λ (t : Thread). t.who) threads)
    → IsPermutation log (entries_of threads) → AllByRecursion (IsThread past land lines log) threads
    → AllByRecursion (λ (t : Thread). Did land lines log t.who t.left t.now.full_at) threads
each_did whose past land lines log threads theirs distinct same h =
    let own = owners past land lines log whose theirs threads h in
    all_did past land lines log threads h own (all_own log [] threads same distinct own (none_before threads))

-- ---- and nobody else

abbrev IsAmong : List Who → PastEntry → Type 0
IsAmong callers e = IsTrue (list_any (λ (w : Who). is_by w e) callers)

or_later : (a b : Bool) → b ≡ true → (a || b) ≡ true
or_later true b h = refl
or_later false b h = h

among_threads : (log : List PastEntry) (ts : List Thread) → AllByRecursion (IsOwner log) ts
    → AllByRecursion (IsAmong (map (λ (t : Thread). t.who) ts)) (entries_of ts)
among_threads log [] h = tt
among_threads log (t ∷ ts) h =
    let later = map (λ (x : Thread). x.who) ts in
    all_append (IsAmong (t.who ∷ later)) (own_entries t.now.view) (entries_of ts)
    (all_weaker (IsOf t.who) (IsAmong (t.who ∷ later)) (λ e is. ap (λ b. b || list_any (λ (w : Who). is_by w e) later) (by_own t.who e is))
    (own_entries t.now.view) h.0.own)
    (all_weaker (IsAmong later) (IsAmong (t.who ∷ later)) (λ e is. or_later (is_by t.who e) (list_any (λ (w : Who). is_by w e) later) is)
    (entries_of ts) (among_threads log ts h.1))

pub all_among : LinesAreOwn → {S : Type 0} (past : S → List PastEntry) (land : Land) (lines : List NumberedLine)
    (log : List PastEntry) (threads : List Thread) → AreTheirs log
    → IsPermutation log (entries_of threads) → AllByRecursion (IsThread past land lines log) threads
    → AreAmong (map (λ (t : Thread). t.who) threads) log
all_among whose past land lines log threads theirs same h =
    let P = IsAmong (map (λ (t : Thread). t.who) threads) in
    let made = among_threads log threads (owners past land lines log whose theirs threads h) in
    recursion_from_All P log
    (All-permutation P (entries_of threads) log (IsPermutation-sym log (entries_of threads) same) (All-from_recursion P (entries_of threads) made))
