-- A worker that goes on alone behind a history.
use Rattle.std.proofs.Common.{◌≡◌, ℕ, Bool, true, false, List, [], ◌∷◌, ◌++◌, map, map-id, refl, sym, ap, ◌∙◌, subst, append_assoc, append-nil}
use Rattle.std.proofs.lemmas.List.Elements.{filter-append}
use Rattle.std.specs.Prelude.{IsTrue, Option}
use Rattle.std.specs.List.{AllByRecursion, filter, list_any}
use Rattle.hall_model.specs.Calls.{who_of}
use Rattle.hall_model.specs.History.{is_unrecorded}
use Rattle.hall_model.specs.declared.command.PastEntry.{PastEntry}
use Rattle.hall_model.specs.declared.command.Who.{Who}
use Rattle.hall_model.specs.declared.command.Who.TheVariants as caller
use Rattle.order_laws.specs.Behind.{up_after}
use Rattle.order_workers.specs.Orders.{DidWork, Leads, Made, Stays, Then}
use Rattle.script_actors.specs.Actors.{Land, is_full}
use Rattle.script_actors.specs.Doers.{is_same}
use Rattle.script_actors.specs.Drawings.{desk_call}
use Rattle.script_actors.specs.declared.line.NumberedLine.{NumberedLine}
use Rattle.turn_desks.proofs.lemmas.Parts.{filter_none}
use Rattle.caller_laws.specs.Callers.{AreAmong, AreTheirs, entries_by, is_by}
use Rattle.caller_laws.specs.Doing.{Did, LeadsAlone, Left, LinesDid, Looked, WorkerDid, is_idle_post}
use Rattle.caller_laws.specs.Seen.{AreSeen, Kept, Others, Unkept}
use Rattle.caller_laws.proofs.Everywhere.{IsOf, Says, all_append, all_back, all_of_prefix, all_weaker, apart_turned, by_other, by_own, none_of}
use Rattle.caller_laws.proofs.Loops.{IsMadeBy, leads_full, leads_posts, made_front, made_last, work_more, work_theirs}
use Rattle.caller_laws.proofs.Marks.{IsAdded, added_by}

-- ---- one call

-- what one call of a worker adds, which is the worker's
record IsMore (w : ℕ) (k : Looked) (m : Made) (l : Looked) : Type 0 where
  pub added : List PastEntry
  pub grew : l.past ≡ k.past ++ added
  pub is : IsAdded m added
  pub own : AllByRecursion (IsOf (caller.Worker w)) added

more_by : (w : ℕ) (k l : Looked) (m : Made) → AreTheirs l.past → IsMadeBy w m → LeadsAlone k m l → IsMore w k m l
more_by w k l m theirs made h =
    let added = h.grew.0 in
    let is : IsAdded m added = added_by m k.past added (ap (map desk_call) h.grew.1 ∙ h.told) in
    let says : AllByRecursion Says added = all_back Says k.past added (subst AreTheirs (sym h.grew.1) theirs) in
    record { added = added; grew = sym h.grew.1; is = is; own = theirs_all (is_unrecorded m.reply) refl added is says }
  where
    theirs_all : (b : Bool) → is_unrecorded m.reply ≡ b → (es : List PastEntry) → IsAdded m es → AllByRecursion Says es
        → AllByRecursion (IsOf (caller.Worker w)) es
    theirs_all true off es is says = subst (AllByRecursion (IsOf (caller.Worker w))) (sym (is.unkept off)) tt
    theirs_all false on es is says =
        let kept = is.kept on in
        let told : AllByRecursion Says (kept.0 ∷ []) = subst (AllByRecursion Says) kept.1 says in
        subst (AllByRecursion (IsOf (caller.Worker w))) (sym kept.1) (told.0 ∙ ap who_of kept.2.command ∙ made, tt)

abbrev SeenBy : Who → List PastEntry → List Made → Type 0
SeenBy w = AreSeen (λ (e : PastEntry). e) (is_by w)

seen_more : (w : ℕ) (k l : Looked) (m : Made) (calls : List Made) → LeadsAlone k m l → IsMore w k m l → SeenBy (caller.Worker w) k.past calls
    → SeenBy (caller.Worker w) l.past (calls ++ m ∷ [])
seen_more w k l m calls h more seen = go (is_unrecorded m.reply) refl
  where
    go : (b : Bool) → is_unrecorded m.reply ≡ b → SeenBy (caller.Worker w) l.past (calls ++ m ∷ [])
    go true off =
        let same : l.past ≡ k.past = more.grew ∙ ap (λ es. k.past ++ es) (more.is.unkept off) ∙ append-nil k.past in
        subst (λ es. SeenBy (caller.Worker w) es (calls ++ m ∷ [])) (sym same)
        (Unkept k.past calls m seen off (h.up ∙ ap up_after (same ∙ sym (map-id k.past))))
    go false on =
        let kept = more.is.kept on in
        let same : l.past ≡ k.past ++ kept.0 ∷ [] = more.grew ∙ ap (λ es. k.past ++ es) kept.1 in
        let own : AllByRecursion (IsOf (caller.Worker w)) (kept.0 ∷ []) = subst (AllByRecursion (IsOf (caller.Worker w))) kept.1 more.own in
        subst (λ es. SeenBy (caller.Worker w) es (calls ++ m ∷ [])) (sym same)
        (Kept k.past calls kept.0 m seen (by_own (caller.Worker w) kept.0 own.0) kept.2 on
        (h.up ∙ ap up_after (same ∙ sym (map-id (k.past ++ kept.0 ∷ [])))))

-- ---- all of them

alone_seen : (w : ℕ) (before : List Made) (k l : Looked) (calls : List Made) → Leads LeadsAlone k calls l → AreTheirs l.past
    → AllByRecursion (IsMadeBy w) calls → SeenBy (caller.Worker w) k.past before → SeenBy (caller.Worker w) l.past (before ++ calls)
alone_seen w before k l calls (Stays x) theirs made seen = subst (SeenBy (caller.Worker w) x.past) (sym (append-nil before)) seen
alone_seen w before k l calls (Then x y z cs m g one) theirs made seen =
    let front = alone_seen w before x y cs g (all_of_prefix Says y.past z.past one.grew theirs) (made_front w cs m made) seen in
    subst (SeenBy (caller.Worker w) z.past) (append_assoc before cs (m ∷ []))
    (seen_more w y z m (before ++ cs) one (more_by w y z m theirs (made_last w cs m made) one) front)

-- what all of a worker's calls add is the worker's
record Grows (w : ℕ) (k l : Looked) : Type 0 where
  pub added : List PastEntry
  pub grew : l.past ≡ k.past ++ added
  pub own : AllByRecursion (IsOf (caller.Worker w)) added

alone_grows : (w : ℕ) (k l : Looked) (calls : List Made) → Leads LeadsAlone k calls l → AreTheirs l.past → AllByRecursion (IsMadeBy w) calls → Grows w k l
alone_grows w k l calls (Stays x) theirs made = record { added = []; grew = sym (append-nil x.past); own = tt }
alone_grows w k l calls (Then x y z cs m g one) theirs made =
    let front = alone_grows w x y cs g (all_of_prefix Says y.past z.past one.grew theirs) (made_front w cs m made) in
    let more = more_by w y z m theirs (made_last w cs m made) one in
    record {
      added = front.added ++ more.added;
      grew = more.grew ∙ ap (λ es. es ++ more.added) front.grew ∙ append_assoc x.past front.added more.added;
      own = all_append (IsOf (caller.Worker w)) front.added more.added front.own more.own;
    }

grows : (w : ℕ) (rests : Bool) (k l : Looked) → AreTheirs l.past → DidWork LeadsAlone w rests k l → Grows w k l
grows w rests k l theirs did = alone_grows w k l did.0 did.1 theirs (work_theirs w rests did.0 did.2)

pub goes_on : (w : ℕ) (rests : Bool) (k l : Looked) → AreTheirs l.past → WorkerDid k.past w true k.full_at
    → DidWork LeadsAlone w rests k l → WorkerDid l.past w rests l.full_at
goes_on w rests k l theirs h did = record {
  calls = h.calls ++ did.0;
  seen = alone_seen w h.calls k l did.0 did.1 theirs (work_theirs w rests did.0 did.2) h.seen;
  ended = work_more w rests h.calls did.0 h.ended.goes did.2;
  full = λ is.
      let later = leads_full (λ (x : Looked). x.full_at) LeadsAlone (λ x m y one. one.full_at) k l did.0 did.1 is in
      all_append (λ (m : Made). is_full m.reply ≡ false) h.calls did.0 (h.full later.1) later.0;
  posts =
      all_append (λ (m : Made). is_idle_post m ≡ false) h.calls did.0 h.posts (leads_posts LeadsAlone (λ x m y one. one.posts) k l did.0 did.1);
}

-- ---- others

seen_others : (w : Who) (past added : List PastEntry) (calls : List Made) → AllByRecursion (λ (e : PastEntry). is_by w e ≡ false) added → SeenBy w past calls
    → SeenBy w (past ++ added) calls
seen_others w past [] calls none seen = subst (λ es. SeenBy w es calls) (sym (append-nil past)) seen
seen_others w past (e ∷ added) calls none seen =
    subst (λ es. SeenBy w es calls) (append_assoc past (e ∷ []) added)
    (seen_others w (past ++ e ∷ []) added calls none.1 (Others past calls e seen none.0))

same_entries : (w : Who) (past added : List PastEntry) → AllByRecursion (λ (e : PastEntry). is_by w e ≡ false) added
    → entries_by w past ≡ entries_by w (past ++ added)
same_entries w past added none =
    sym (filter-append (is_by w) past added
    ∙ ap (λ es. filter (is_by w) past ++ es) (filter_none (is_by w) added (none_of (is_by w) added none))
    ∙ append-nil (filter (is_by w) past))

lines_stay : (land : Land) (lines : List NumberedLine) (who : Who) (left : Left) (full_at : Option ℕ) (past added : List PastEntry)
    → AllByRecursion (λ (e : PastEntry). is_by who e ≡ false) added → LinesDid land lines past who left full_at
    → LinesDid land lines (past ++ added) who left full_at
lines_stay land lines who left full_at past added none h =
    record { entries = h.entries; did = h.did; calls = h.calls ∙ ap (map desk_call) (same_entries who past added none); drawn = h.drawn }

did_stays : (land : Land) (lines : List NumberedLine) (who : Who) (left : Left) (full_at : Option ℕ) (past added : List PastEntry)
    → AllByRecursion (λ (e : PastEntry). is_by who e ≡ false) added → Did land lines past who left full_at
    → Did land lines (past ++ added) who left full_at
did_stays land lines (caller.Worker x) left full_at past added none h =
    record { calls = h.calls; seen = seen_others (caller.Worker x) past added h.calls none h.seen; ended = h.ended; full = h.full; posts = h.posts }
did_stays land lines (caller.Session s) left full_at past added none h =
    lines_stay land lines (caller.Session s) left full_at past added none h
did_stays land lines caller.Admin left full_at past added none h = lines_stay land lines caller.Admin left full_at past added none h

pub others_stay : (land : Land) (lines : List NumberedLine) (w : ℕ) (rests : Bool) (k l : Looked) (who : Who) (left : Left) (full_at : Option ℕ)
    → AreTheirs l.past → DidWork LeadsAlone w rests k l → is_same (caller.Worker w) who ≡ false → Did land lines k.past who left full_at
    → Did land lines l.past who left full_at
others_stay land lines w rests k l who left full_at theirs did apart h =
    let more = grows w rests k l theirs did in
    let none : AllByRecursion (λ (e : PastEntry). is_by who e ≡ false) more.added =
    all_weaker (IsOf (caller.Worker w)) (λ e. is_by who e ≡ false) (by_other who (caller.Worker w) (apart_turned (caller.Worker w) who apart))
    more.added more.own in
    subst (λ es. Did land lines es who left full_at) (sym more.grew) (did_stays land lines who left full_at k.past more.added none h)

pub among_still : (callers : List Who) (w : ℕ) (rests : Bool) (k l : Looked) → AreTheirs l.past → DidWork LeadsAlone w rests k l
    → IsTrue (list_any (λ (x : Who). is_same x (caller.Worker w)) callers) → AreAmong callers k.past → AreAmong callers l.past
among_still callers w rests k l theirs did one h =
    let more = grows w rests k l theirs did in
    let P : PastEntry → Type 0 = λ e. IsTrue (list_any (λ (x : Who). is_by x e) callers) in
    let own : AllByRecursion P more.added =
    all_weaker (IsOf (caller.Worker w)) P (λ e is. ap (λ (y : Who). list_any (λ (x : Who). is_same x y) callers) is ∙ one) more.added more.own in
    subst (AllByRecursion P) (sym more.grew) (all_append P k.past more.added h own)
