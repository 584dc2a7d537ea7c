-- Each call keeps that the handed locks of the table are those of the open units.
use Rattle.std.proofs.Common.{◌≡◌, ℕ, Bool, true, false, not, List, [], ◌∷◌, ◌++◌, map, fold, cond, refl, sym, ap, ◌∙◌, subst}
use Rattle.std.specs.Prelude.{if◌then◌else◌, nat_le, ◌-◌, Option, Some, None, Ok}
use Rattle.std.specs.List.{AllByRecursion, filter, find, list_all}
use Rattle.std.specs.Option.{option_map_or}
use Rattle.std.proofs.lemmas.List.{append-nil}
use Rattle.std.proofs.lemmas.List.Elements.{filter-append}
use Rattle.enq_base.specs.Owners.{same_owner, same_unit}
use Rattle.enq_base.specs.declared.owner.Owner.{Owner}
use Rattle.enq_base.specs.declared.owner.Owner.TheVariants.{Dlg, Upd}
use Rattle.enq_base.specs.declared.owner.UnitKey.{UnitKey}
use Rattle.enq_base.specs.declared.unit.Num.{Num}
use Rattle.enq_base.specs.declared.unit.Parts.{Parts}
use Rattle.enq_base.specs.declared.unit.Reason.{Reason}
use Rattle.enq_base.specs.declared.unit.Status.{Status}
use Rattle.enq_base.specs.declared.unit.Status.TheVariants.{Open, Posted, Bad, Closed, Bad2 as BadSecond, Cancelled}
use Rattle.lock_entry.proofs.lemmas.Naming.{same_owner-same}
use Rattle.lock_entry.specs.Converting.{Conversion, conversion, converted, gives_way, turns}
use Rattle.lock_entry.specs.Freeing.{flagged, freed, freed_owner, handed_over, lowered, without_optimistic}
use Rattle.lock_entry.specs.Granting.{asked, granted, new_entry, new_names, raised}
use Rattle.lock_entry.specs.Names.{halves, has_name, is_of, stands}
use Rattle.lock_entry.specs.Turning.{name_in, turned, turned_by, turned_entry, with_count_of}
use Rattle.lock_entry.specs.declared.entry.Asked.{Asked}
use Rattle.lock_entry.specs.declared.entry.Asker.{Asker}
use Rattle.lock_entry.specs.declared.entry.Entry.{Entry}
use Rattle.lock_entry.specs.declared.entry.LockName.{LockName}
use Rattle.lock_entry.specs.declared.entry.Request.{Request}
use Rattle.mode_rules.specs.declared.Mode.{Mode}
use Rattle.mode_rules.specs.declared.Mode.TheVariants.{S, E, X, O}
use Rattle.number_ranges.specs.Intervals.{block_level, is_buffered, with_level}
use Rattle.number_ranges.specs.declared.interval.Interval.{Interval}
use Rattle.ledger_steps.specs.Intervals.{with_levels}
use Rattle.ledger_steps.specs.Posts.{WaitsFor, entries_of, kind_for}
use Rattle.ledger_steps.specs.Steps.{IsOpenUnit}
use Rattle.ledger_steps.specs.declared.step.Outcome.{Outcome}
use Rattle.ledger_steps.specs.declared.step.Outcome.TheVariants as outcome
use Rattle.ledger_steps.specs.Drawn.{handed_out, num_of, settled_rows, stored_as}
use Rattle.ledger_steps.specs.Levels.{present}
use Rattle.record_laws.proofs.Status.{flip, one_unit, unit_new, unit_other}
use Rattle.update_records.specs.Growing.{with_mark, with_unit}
use Rattle.update_records.specs.Ledger.{Ledger, Levels}
use Rattle.update_records.specs.Marks.{given, has_no_v2, unit_at}
use Rattle.update_records.specs.declared.records.Mark.{Mark}
use Rattle.update_records.specs.declared.records.MarkKind.{MarkKind}
use Rattle.update_records.specs.declared.records.MarkKind.TheVariants as mark
use Rattle.update_records.specs.declared.records.Unit.{Unit as UnitOfWork}
use Rattle.hall_model.specs.declared.command.Session.{Session}
use Rattle.hall_model.specs.Calls.{Call, is_of_server}
use Rattle.hall_model.specs.History.{judged}
use Rattle.hall_model.specs.Kept.{HasGoodLocks, HasItsUser, HasSoundLocks, IsSteady, OfLock, is_firm}
use Rattle.hall_model.specs.Numbers.{drawn, next_number, raised_to}
use Rattle.hall_model.specs.OpenUnits.{HasItsLocks, HoldsOpenUnits, IsOpenIfHanded, IsOpenOwner}
use Rattle.hall_model.specs.Orders.{order_of}
use Rattle.hall_model.specs.Sessions.{owners_of, pair_of, session_at, unit_key, with_draw, with_session}
use Rattle.hall_model.specs.State.{State}
use Rattle.hall_model.specs.Step.{Found, Verdict, committed, freed_all, locks_behind, locks_without, lowered as names_lowered, numbered, unit_of}
use Rattle.hall_laws.proofs.keeping.SessionsAlike.{HaveOneStatus, with_others}
use Rattle.model_laws.proofs.ByCall.{OfEach}
use Rattle.model_laws.proofs.HandedLocks.{handed_as_stood}
use Rattle.model_laws.proofs.NotedCalls.{of_server}
use Rattle.model_laws.proofs.PartOrders.{held_for}
use Rattle.hall_laws.proofs.keeping.UnitsToCome.{open_unheard}
use Rattle.model_laws.proofs.OtherStatuses.{apart_by, apart_by_status, marked_other, numbers_leave, recorded_open, recorded_other, status_in, status_marked}
use Rattle.model_laws.proofs.LockLists.{allowed, asked_allows, converted_allows, filter_source}
use Rattle.model_laws.proofs.EachLock.{every_at, every_by, may_be_readmitted, recorded_here, stored_firm, every_append, every_filter, every_map, every_more}
use Rattle.hall_laws.proofs.keeping.Owners.{stored_owner}
use Rattle.hall_laws.proofs.histories.OwnLocks.{IsOther, filter_all, halves_of_others, none_of_others, none_stay, its_conversion, its_freed, its_freed_owner, its_granted, its_handed_over}
use Rattle.model_laws.proofs.Resubmissions.{readmitted_is, table_in}
use Rattle.hall_laws.proofs.histories.LockUsers.{OnSome, every_replaced, every_turned}
use Rattle.ledger_steps.specs.declared.part.Part.{Part}
use Rattle.ledger_steps.specs.Parts.{is_first}

by_unit : (P : Type 0) (key other : UnitKey) → (key ≡ other → P) → (same_unit key other ≡ false → P) → P
by_unit P key other f g =
    elim (same_unit key other) as (λ b. same_unit key other ≡ b → P) [ true ↦ λ same. f (one_unit key other same) | false ↦ λ apart. g apart ] refl

-- ---- whose the handed locks are

module _ (ledger : Ledger) where
  abbrev IsRight : Entry → Type 0
  IsRight = IsOpenIfHanded ledger

  right_lowered : (e : Entry) → IsRight e → AllByRecursion IsRight (lowered e)
  right_lowered e h =
      elim (nat_le e.count 1) as (λ b. AllByRecursion IsRight (cond b [] (record e { count = e.count - 1 } ∷ []))) [ true ↦ tt | false ↦ (h, tt) ]

  right_freed : (es : List Entry) (names : List LockName) → AllByRecursion IsRight es → AllByRecursion IsRight (fold freed es names)
  right_freed es [] h = h
  right_freed es (n ∷ ns) h = right_freed (freed es n) ns (every_replaced IsRight (has_name n) lowered right_lowered es h)

  right_freed_owner : (es : List Entry) (owner : Owner) → AllByRecursion IsRight es → AllByRecursion IsRight (freed_owner es owner)
  right_freed_owner es owner h = every_filter IsRight (λ e. not (is_of owner e)) es h

  -- a new lock isn't handed
  right_new : (user : List ℕ) (names ns : List LockName) → AllByRecursion IsRight (map (new_entry user names) ns)
  right_new user names [] = tt
  right_new user names (n ∷ ns) = ((λ handed. absurd (cc)), right_new user names ns)

  right_granted : (es : List Entry) (user : List ℕ) (names : List LockName) → AllByRecursion IsRight es → AllByRecursion IsRight (granted es user names)
  right_granted es user names h =
      every_append IsRight (map (raised names) es) (map (new_entry user names) (new_names es names))
      (every_map IsRight IsRight (raised names) (λ e k. k) es h) (right_new user names (new_names es names))

  right_by_mode : (m : Mode) (es : List Entry) (e : Entry) → IsRight e → OnSome IsRight (turned_by m es e)
  right_by_mode S es e h = h
  right_by_mode X es e h = h
  right_by_mode E es e h =
      elim (find (has_name (name_in O e)) es) as (λ o. OnSome IsRight (Some (option_map_or (with_count_of e) o e))) [ None ↦ h | Some o ↦ h ]
  right_by_mode O es e h =
      elim (stands es (name_in E e)) as (λ b. OnSome IsRight (cond b None (Some (record e { mode = E })))) [ true ↦ tt | false ↦ h ]

  right_turned : (test : Entry → Bool) (es : List Entry) (e : Entry) → IsRight e → OnSome IsRight (turned_entry test es e)
  right_turned test es e h =
      elim (test e) as (λ b. OnSome IsRight (cond b (turned_by e.mode es e) (Some e))) [ true ↦ right_by_mode e.mode es e h | false ↦ h ]

  right_conversion : (es : List Entry) (asker : Asker) (wanted : List Asked) → AllByRecursion IsRight es
      → AllByRecursion IsRight (conversion es asker wanted).entries
  right_conversion es asker wanted h =
      let test = turns asker wanted in
      every_filter IsRight (λ e. not (gives_way asker wanted e)) (turned es test) (every_turned IsRight (turned_entry test es) (right_turned test es) es h)

-- ---- other locks, over the same ledger

-- the locks of each open unit stay the same list
abbrev KeepsOpen : Ledger → List Entry → List Entry → Type 0
KeepsOpen ledger es after = (unit : UnitKey) → IsOpenUnit ledger unit → filter (is_of (Upd unit)) after ≡ filter (is_of (Upd unit)) es

over-held : (ledger : Ledger) (es after : List Entry) → KeepsOpen ledger es after → AllByRecursion (IsOpenIfHanded ledger) after
    → HoldsOpenUnits es ledger → HoldsOpenUnits after ledger
over-held ledger es after same right h = record { units = λ unit waits. same unit waits ∙ h.units unit waits; handed = right }

-- nothing is recorded of the session's open unit
abbrev IsNew : State → Session → Type 0
IsNew s x = status_in s.stored (unit_key s.stored.start x) ≡ None

-- it is another than those that wait
other_update : (s : State) (x : Session) (unit : UnitKey) → IsNew s x → IsOpenUnit s.stored unit → same_unit unit (unit_key s.stored.start x) ≡ false
other_update s x unit new waits = apart_by_status s.stored unit (unit_key s.stored.start x) Open waits new

update_of_other : (s : State) (x : Session) (unit : UnitKey) → IsNew s x → IsOpenUnit s.stored unit → IsOther (Upd unit) (pair_of s.stored.start x).update
update_of_other s x unit new waits = flip (unit_key s.stored.start x) unit (other_update s x unit new waits)

abbrev Holds : State → List Entry → Type 0
Holds s es = HoldsOpenUnits es s.stored

granted-held : (s : State) (x : Session) (rs : List Request) (locks : List Entry) → IsNew s x
    → asked (table_in s) (pair_of s.stored.start x) x.user rs ≡ Ok locks → Holds s s.locks → Holds s locks
granted-held s x rs locks new e h =
    let pair = pair_of s.stored.start x in
    let names = halves pair rs in
    allowed (Holds s) _ locks
    (asked_allows (Holds s) (table_in s) pair x.user rs
    (over-held s.stored s.locks (granted s.locks x.user names)
    (λ unit waits. its_granted (Upd unit) s.locks x.user names (halves_of_others (Upd unit) pair rs refl (update_of_other s x unit new waits)))
    (right_granted s.stored s.locks x.user names h.handed) h)) e

lowered-held : (s : State) (x : Session) (rs : List Request) → IsNew s x → Holds s s.locks → Holds s (names_lowered s x rs).locks
lowered-held s x rs new h =
    let pair = pair_of s.stored.start x in
    let names = halves pair rs in
    over-held s.stored s.locks (fold freed s.locks names)
    (λ unit waits. its_freed (Upd unit) s.locks names (halves_of_others (Upd unit) pair rs refl (update_of_other s x unit new waits)))
    (right_freed s.stored s.locks names h.handed) h

-- the locks of the session's open unit go
update-held : (s : State) (x : Session) (es : List Entry) → IsNew s x → Holds s es → Holds s (freed_owner es (pair_of s.stored.start x).update)
update-held s x es new h =
    let update = (pair_of s.stored.start x).update in
    over-held s.stored es (freed_owner es update)
    (λ unit waits. its_freed_owner (Upd unit) update es (other_update s x unit new waits))
    (right_freed_owner s.stored es update h.handed) h

dialogue-held : (s : State) (x : Session) (es : List Entry) → Holds s es → Holds s (freed_owner es (pair_of s.stored.start x).dialogue)
dialogue-held s x es h =
    let dialogue = (pair_of s.stored.start x).dialogue in
    over-held s.stored es (freed_owner es dialogue)
    (λ unit waits. its_freed_owner (Upd unit) dialogue es refl)
    (right_freed_owner s.stored es dialogue h.handed) h

freed-held : (s : State) (x : Session) → IsNew s x → Holds s s.locks → Holds s (freed_all s x).locks
freed-held s x new h = update-held s x (freed_owner s.locks (pair_of s.stored.start x).dialogue) new (dialogue-held s x s.locks h)

-- locks that are stored with a unit are never optimistic
converted-held : (s : State) (x : Session) (wanted : List Asked) (c : Conversion) → IsNew s x → AllByRecursion HasGoodLocks s.stored.units
    → converted s.locks (pair_of s.stored.start x) wanted ≡ Ok c → Holds s s.locks → Holds s c.entries
converted-held s x wanted c new good e h =
    let pair = pair_of s.stored.start x in
    let Q : Conversion → Type 0 = λ t. Holds s t.entries in
    allowed Q _ c
    (converted_allows Q s.locks pair wanted
    (over-held s.stored s.locks (conversion s.locks pair wanted).entries
    (λ unit waits.
    its_conversion (Upd unit) s.locks pair wanted (other_update s x unit new waits)
    (subst (λ es. list_all is_firm es ≡ true) (sym (h.units unit waits)) (stored_firm s.stored.units unit good)))
    (right_conversion s.stored s.locks pair wanted h.handed) h)) e

-- ---- the same locks, over a ledger with other levels and with marks by which each unit has the same status

keeps_open : (ledger after : Ledger) (owner : Owner) → ((unit : UnitKey) → IsOpenUnit ledger unit → IsOpenUnit after unit) → IsOpenOwner ledger owner
    → IsOpenOwner after owner
keeps_open ledger after (Dlg start session) keeps h = absurd h
keeps_open ledger after (Upd unit) keeps h = keeps unit h

pub beside-held : (ledger : Ledger) (levels : Levels) (marks : List Mark) (es : List Entry) → HaveOneStatus ledger marks → HoldsOpenUnits es ledger
    → HoldsOpenUnits es (with_others ledger levels marks)
beside-held ledger levels marks es same h =
    let after = with_others ledger levels marks in
    let stays : (e : Entry) → IsOpenIfHanded ledger e → IsOpenIfHanded after e =
    λ e right handed. keeps_open ledger after e.owner (λ unit waits. same unit ∙ waits) (right handed) in
    record {
      units = λ unit waits. h.units unit (sym (same unit) ∙ waits);
      handed = every_more (IsOpenIfHanded ledger) (IsOpenIfHanded after) stays es h.handed;
    }

pub raised-held : (ledger : Ledger) (i : Interval) (upto : ℕ) (es : List Entry) → HoldsOpenUnits es ledger → HoldsOpenUnits es (raised_to i upto ledger)
raised-held ledger i upto es h =
    let levels = with_levels (stored_as (with_level (block_level i upto) i) ∷ []) ledger.levels in
    elim (nat_le upto i.level) as (λ b. HoldsOpenUnits es (if b then ledger else with_others ledger levels ledger.marks)) [
      | true ↦ h
      | false ↦ beside-held ledger levels ledger.marks es (λ key. refl) h
    ]

abbrev HoldsIn : State → Type 0
HoldsIn s = HoldsOpenUnits s.locks s.stored

pub drawn-held : (s : State) (x : Session) (i : Interval) (number : ℕ) → HoldsIn s → HoldsIn (drawn s x i number)
drawn-held s x i number h =
    let t : State = record s { sessions = with_session x.name (with_draw (num_of i number)) s.sessions } in
    elim (is_buffered i) as (λ b. HoldsIn (if b then record t { ranges = handed_out i t.ranges; stored = raised_to i number t.stored } else t)) [
      | true ↦ raised-held s.stored i number s.locks h
      | false ↦ h
    ]

pub numbered-held : (s : State) (x : Session) (numbers : List Num) → HoldsIn s → HoldsIn (numbered s x numbers)
numbered-held s x numbers h =
    let key = unit_key s.stored.start x in
    let levels = with_levels (settled_rows s.stored.levels s.ranges numbers) s.stored.levels in
    beside-held s.stored levels (with_mark s.stored key (mark.Num numbers)).marks s.locks (λ other. numbers_leave s.stored key other numbers) h

-- ---- a unit that is recorded

right_flagged : (ledger : Ledger) (unit : UnitOfWork) (e : Entry) → status_in ledger unit.key ≡ None → IsOpenIfHanded ledger e
    → IsOpenIfHanded (with_unit ledger unit) (flagged (Upd unit.key) e)
right_flagged ledger unit e fresh h =
    let after = with_unit ledger unit in
    elim (is_of (Upd unit.key) e) as (λ b. is_of (Upd unit.key) e ≡ b → IsOpenIfHanded after (cond b (record e { handed = true }) e)) [
      | true ↦ λ own handed. subst (IsOpenOwner after) (sym (same_owner-same e.owner (Upd unit.key) own)) (recorded_here ledger unit)
      | false ↦ λ other handed. keeps_open ledger after e.owner (λ key waits. recorded_open ledger unit key fresh waits) (h handed)
    ] refl

stored_here : (units : List UnitOfWork) (unit : UnitOfWork) → unit_at units unit.key ≡ None → entries_of (units ++ unit ∷ []) unit.key ≡ unit.entries
stored_here units unit none = ap (λ o. option_map_or (λ (u : UnitOfWork). u.entries) o []) (unit_new units unit none)

stored_other : (units : List UnitOfWork) (unit : UnitOfWork) (key : UnitKey) → same_unit unit.key key ≡ false
    → entries_of (units ++ unit ∷ []) key ≡ entries_of units key
stored_other units unit key apart = ap (λ o. option_map_or (λ (u : UnitOfWork). u.entries) o []) (unit_other units unit key apart)

-- with the locks that are handed over to it
recorded-held : (ledger : Ledger) (unit : UnitOfWork) (es : List Entry) → status_in ledger unit.key ≡ None → unit_at ledger.units unit.key ≡ None
    → unit.entries ≡ filter (is_of (Upd unit.key)) (handed_over es unit.key) → HoldsOpenUnits es ledger
    → HoldsOpenUnits (handed_over es unit.key) (with_unit ledger unit)
recorded-held ledger unit es fresh none is h =
    let after = with_unit ledger unit in
    let locks = handed_over es unit.key in
    record {
      units = λ key waits. by_unit (HasItsLocks locks after key) unit.key key
          (λ same. subst (HasItsLocks locks after) same (sym is ∙ sym (stored_here ledger.units unit none)))
          (λ apart.
          its_handed_over (Upd key) unit.key es (flip key unit.key apart)
          ∙ h.units key (sym (recorded_other ledger unit key fresh apart) ∙ waits)
          ∙ sym (stored_other ledger.units unit key apart));
      handed = every_map (IsOpenIfHanded ledger) (IsOpenIfHanded after) (flagged (Upd unit.key)) (λ e right. right_flagged ledger unit e fresh right)
          (without_optimistic es (Upd unit.key)) (every_filter (IsOpenIfHanded ledger) _ es h.handed);
    }

committed-held : (s : State) (name : List ℕ) (x : Session) (parts : Parts) (numbers : List Num) → session_at s.sessions name ≡ Some x → IsNew s x
    → unit_at s.stored.units (unit_key s.stored.start x) ≡ None → AllByRecursion (OfLock (HasItsUser s.stored.start s.sessions)) s.locks → HoldsIn s
    → HoldsIn (committed s x parts numbers)
committed-held s name x parts numbers at new none users h =
    let unit = unit_of s.stored.start s.locks x parts numbers in
    let after = with_unit s.stored unit in
    beside-held after (with_levels (settled_rows s.stored.levels s.ranges numbers) s.stored.levels) after.marks (handed_over s.locks unit.key) (λ key. refl)
    (recorded-held s.stored unit s.locks new none (handed_as_stood s.locks s.sessions name s.stored.start x at users) h)

-- ---- a mark

-- what is wanted of the locks behind it
marked-held : (ledger : Ledger) (key : UnitKey) (kind : MarkKind) (es after : List Entry)
    → ((unit : UnitKey) → same_unit key unit ≡ false → filter (is_of (Upd unit)) after ≡ filter (is_of (Upd unit)) es)
    → (IsOpenUnit (with_mark ledger key kind) key → HasItsLocks after ledger key)
    → AllByRecursion (IsOpenIfHanded (with_mark ledger key kind)) after → HoldsOpenUnits es ledger → HoldsOpenUnits after (with_mark ledger key kind)
marked-held ledger key kind es after others own right h =
    let now = with_mark ledger key kind in
    record {
      units = λ unit waits. by_unit (HasItsLocks after now unit) key unit
          (λ same. subst (HasItsLocks after now) same (own (subst (IsOpenUnit now) (sym same) waits)))
          (λ apart. others unit apart ∙ h.units unit (sym (marked_other ledger key unit kind apart) ∙ waits));
      handed = right;
    }

-- a mark behind which the unit doesn't wait for its V1 part
abbrev Ends : MarkKind → Type 0
Ends kind = (b : Bool) (before : Option Status) → given b kind before ≡ Some Open → ⊥

v1-ends : Ends mark.V1
v1-ends true before h = cc
v1-ends false before h = cc

bad1-ends : (index : ℕ) (reason : Reason) → Ends (mark.Bad1 index reason)
bad1-ends index reason b before h = cc

v2-ends : Ends mark.V2
v2-ends b before h = cc

bad2-ends : (index : ℕ) (reason : Reason) → Ends (mark.Bad2 index reason)
bad2-ends index reason b before h = cc

pub again2-ends : Ends mark.Again2
again2-ends b before h = cc

gone-ends : Ends mark.Gone
gone-ends b before h = cc

not_open : (ledger : Ledger) (key : UnitKey) (kind : MarkKind) → Ends kind → IsOpenUnit (with_mark ledger key kind) key → ⊥
not_open ledger key kind ends waits = ends (has_no_v2 ledger.units key) (status_in ledger key) (sym (status_marked ledger key kind) ∙ waits)

other_open : (ledger : Ledger) (key : UnitKey) (kind : MarkKind) (owner : Owner) → same_owner owner (Upd key) ≡ false → IsOpenOwner ledger owner
    → IsOpenOwner (with_mark ledger key kind) owner
other_open ledger key kind (Dlg start session) apart h = absurd h
other_open ledger key kind (Upd unit) apart h = marked_other ledger key unit kind (flip key unit apart) ∙ h

no_more : (b : Bool) → not b ≡ true → b ≡ false
no_more true h = cc
no_more false h = refl

right_others : (ledger : Ledger) (key : UnitKey) (kind : MarkKind) (es : List Entry) → AllByRecursion (IsOpenIfHanded ledger) es
    → AllByRecursion (IsOpenIfHanded (with_mark ledger key kind)) (freed_owner es (Upd key))
right_others ledger key kind es h =
    every_by (IsOpenIfHanded (with_mark ledger key kind)) (freed_owner es (Upd key))
    (λ e k.
    let stood = filter_source (λ x. not (is_of (Upd key) x)) es e k in λ handed.
    other_open ledger key kind e.owner (no_more (is_of (Upd key) e) stood.1) (every_at (IsOpenIfHanded ledger) es e h stood.0 handed))

-- the locks of a unit go with the mark that ends its V1 part
ended-held : (ledger : Ledger) (key : UnitKey) (kind : MarkKind) (es : List Entry) → Ends kind → HoldsOpenUnits es ledger
    → HoldsOpenUnits (freed_owner es (Upd key)) (with_mark ledger key kind)
ended-held ledger key kind es ends h =
    marked-held ledger key kind es (freed_owner es (Upd key))
    (λ unit apart. its_freed_owner (Upd unit) (Upd key) es (flip unit key apart))
    (λ waits. absurd (not_open ledger key kind ends waits))
    (right_others ledger key kind es h.handed) h

open_by_status : (ledger : Ledger) (key : UnitKey) (kind : MarkKind) (status : Status) (owner : Owner) → status_in ledger key ≡ Some status
    → (status ≡ Open → ⊥) → IsOpenOwner ledger owner → IsOpenOwner (with_mark ledger key kind) owner
open_by_status ledger key kind status owner here closed h =
    let after = with_mark ledger key kind in
    keeps_open ledger after owner (λ unit waits. marked_other ledger key unit kind (apart_by ledger key unit status Open here waits closed) ∙ waits) h

-- one that didn't wait for its V1 part, and doesn't behind the mark, has none that were handed over
pub unopened-held : (ledger : Ledger) (key : UnitKey) (kind : MarkKind) (status : Status) (es : List Entry) → status_in ledger key ≡ Some status
    → (status ≡ Open → ⊥) → Ends kind → HoldsOpenUnits es ledger → HoldsOpenUnits es (with_mark ledger key kind)
unopened-held ledger key kind status es here closed ends h =
    let after = with_mark ledger key kind in
    let stays : (e : Entry) → IsOpenIfHanded ledger e → IsOpenIfHanded after e =
    λ e right handed. open_by_status ledger key kind status e.owner here closed (right handed) in
    marked-held ledger key kind es es
    (λ unit apart. refl)
    (λ waits. absurd (not_open ledger key kind ends waits))
    (every_more (IsOpenIfHanded ledger) (IsOpenIfHanded after) stays es h.handed) h

-- the stored locks of a unit that waits again stand behind those of others
reopened-held : (ledger : Ledger) (key : UnitKey) (es : List Entry) → AllByRecursion HasGoodLocks ledger.units → HoldsOpenUnits es ledger
    → HoldsOpenUnits (freed_owner es (Upd key) ++ entries_of ledger.units key) (with_mark ledger key mark.Again1)
reopened-held ledger key es good h =
    let after = with_mark ledger key mark.Again1 in
    let others = freed_owner es (Upd key) in
    let back = entries_of ledger.units key in
    let own : list_all (is_of (Upd key)) back ≡ true = (may_be_readmitted ledger.units key good).owners in
    let waits : IsOpenUnit after key = status_marked ledger key mark.Again1 in
    marked-held ledger key mark.Again1 es (others ++ back)
    (λ unit apart.
    filter-append (is_of (Upd unit)) others back
    ∙ ap (λ ys. filter (is_of (Upd unit)) others ++ ys) (none_of_others (Upd unit) (Upd key) back apart own)
    ∙ append-nil (filter (is_of (Upd unit)) others)
    ∙ its_freed_owner (Upd unit) (Upd key) es (flip unit key apart))
    (λ now.
    filter-append (is_of (Upd key)) others back
    ∙ ap (λ ys. ys ++ filter (is_of (Upd key)) back) (none_stay (Upd key) es)
    ∙ filter_all (is_of (Upd key)) back own)
    (every_append (IsOpenIfHanded after) others back (right_others ledger key mark.Again1 es h.handed)
    (every_by (IsOpenIfHanded after) back (λ e k handed. subst (IsOpenOwner after) (sym (stored_owner ledger.units key e good k)) waits)))
    h

-- ---- a part that is posted

posted_closed : Posted ≡ Open → ⊥
posted_closed e = cc

abbrev HoldsBy : List Entry → Ledger → UnitKey → MarkKind → MarkKind → Bool → Type 0
HoldsBy es ledger unit one two first =
    status_in ledger unit ≡ Some (if first then Open else Posted)
    → HoldsOpenUnits (if first then freed_owner es (Upd unit) else es) (with_mark ledger unit (if first then one else two))

pub posted-held : (part : Part) (ledger : Ledger) (unit : UnitKey) (o : Outcome) (es : List Entry) → WaitsFor part ledger unit → HoldsOpenUnits es ledger
    → HoldsOpenUnits (locks_behind part es unit) (with_mark ledger unit (kind_for part o))
posted-held part ledger unit outcome.Done es waits h =
    elim (is_first part) as (HoldsBy es ledger unit mark.V1 mark.V2) [
      | true ↦ λ w. ended-held ledger unit mark.V1 es v1-ends h
      | false ↦ λ w. unopened-held ledger unit mark.V2 Posted es w posted_closed v2-ends h
    ] waits
posted-held part ledger unit (outcome.Refused index reason) es waits h =
    elim (is_first part) as (HoldsBy es ledger unit (mark.Bad1 index reason) (mark.Bad2 index reason)) [
      | true ↦ λ w. ended-held ledger unit (mark.Bad1 index reason) es (bad1-ends index reason) h
      | false ↦ λ w. unopened-held ledger unit (mark.Bad2 index reason) Posted es w posted_closed (bad2-ends index reason) h
    ] waits

-- ---- a unit that is cancelled

pub cancelled-held : (ledger : Ledger) (unit : UnitKey) (status : Status) (es : List Entry) → status_in ledger unit ≡ Some status
    → HoldsOpenUnits es ledger → HoldsOpenUnits (locks_without status es unit) (with_mark ledger unit mark.Gone)
cancelled-held ledger unit Open es here h = ended-held ledger unit mark.Gone es gone-ends h
cancelled-held ledger unit Posted es here h = unopened-held ledger unit mark.Gone Posted es here (λ e. cc) gone-ends h
cancelled-held ledger unit Bad es here h = unopened-held ledger unit mark.Gone Bad es here (λ e. cc) gone-ends h
cancelled-held ledger unit Closed es here h = unopened-held ledger unit mark.Gone Closed es here (λ e. cc) gone-ends h
cancelled-held ledger unit BadSecond es here h = unopened-held ledger unit mark.Gone BadSecond es here (λ e. cc) gone-ends h
cancelled-held ledger unit Cancelled es here h = unopened-held ledger unit mark.Gone Cancelled es here (λ e. cc) gone-ends h

-- ---- all calls

reopens-held : (s : State) (unit : UnitKey) (es : List Entry) → es ≡ freed_owner s.locks (Upd unit) ++ entries_of s.stored.units unit
    → AllByRecursion HasGoodLocks s.stored.units → HoldsIn s → HoldsOpenUnits es (with_mark s.stored unit mark.Again1)
reopens-held s unit es is good h = subst (λ xs. HoldsOpenUnits xs (with_mark s.stored unit mark.Again1)) (sym is) (reopened-held s.stored unit s.locks good h)

-- what each call leaves of it, but for those that end a lock server or bring one
abbrev pub HoldsAfter : State → Call → Verdict → Type 0
HoldsAfter s call v = is_of_server call ≡ false → HoldsOpenUnits (judged s v).state.locks (judged s v).state.stored

pub held_call : (found : Found) (s : State) → IsSteady s → HasSoundLocks s → AllByRecursion (OfLock (HasItsUser s.stored.start s.sessions)) s.locks
    → HoldsOpenUnits s.locks s.stored → OfEach (HoldsAfter s) found s
held_call found s steady sound users h = record {
  refuses = λ call r plain off. h;
  enters = λ name user free off. h;
  logs_off = λ name x at off. freed-held s x (open_unheard s name x at steady.fresh) h;
  grants = λ name x rs locks at e off. granted-held s x rs locks (open_unheard s name x at steady.fresh) e h;
  lowers = λ name x rs at off. lowered-held s x rs (open_unheard s name x at steady.fresh) h;
  frees = λ name x at off. freed-held s x (open_unheard s name x at steady.fresh) h;
  converts = λ name x wanted c at e off. converted-held s x wanted c (open_unheard s name x at steady.fresh) sound.stored e h;
  draws = λ name x object nr r at can off.
      let i = present s.stored.levels r.interval in
      drawn-held s x i (next_number r i x) h;
  reserves = λ name x object nr upto r at can off. raised-held s.stored (present s.stored.levels r.interval) upto s.locks h;
  reads = λ name x table key at off. h;
  commits_nothing = λ name x parts stock at off. h;
  commits_numbers = λ name x parts stock at off. numbered-held s x (x.draws ++ stock) h;
  commits = λ name x parts stock at off.
      let new = open_unheard s name x at steady.fresh in
      committed-held s name x parts (x.draws ++ stock) at new (steady.marked (unit_key s.stored.start x) new) users h;
  rolls_back = λ name x at off. update-held s x s.locks (open_unheard s name x at steady.fresh) h;
  takes = λ worker part unit free e off. h;
  posts = λ worker part unit e off.
      posted-held part s.stored unit (found.part part unit) s.locks (held_for part s.stored (order_of s.orders worker) unit e).1 h;
  drops = λ worker unit e off. h;
  kills = λ up off. of_server off;
  fails_over = λ can off. of_server off;
  strays = λ first second none off. of_server off;
  attaches = λ up off. h;
  restarts = λ was off. of_server off;
  cancels = λ unit status can off. cancelled-held s.stored unit status s.locks can.recorded h;
  reopens = λ unit es here stand off.
      reopens-held s unit es (readmitted_is (table_in s) (owners_of unit) (entries_of s.stored.units unit) es stand) sound.stored h;
  reposts = λ unit here off. unopened-held s.stored unit mark.Again2 BadSecond s.locks here (λ e. cc) again2-ends h;
}
