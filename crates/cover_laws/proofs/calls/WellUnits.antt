-- Units whose rows their locks cover, through a quiet call; and the unit that effects of a part are of.
use Rattle.std.proofs.Common.{◌≡◌, ◌⊎◌, inl, inr, ℕ, Bool, true, false, List, [], ◌∷◌, ◌++◌, refl, sym, ap, ◌∙◌, subst}
use Rattle.std.specs.Prelude.{Contains, if◌then◌else◌, Some, None}
use Rattle.std.specs.Option.{option_map_or}
use Rattle.enq_base.specs.declared.owner.UnitKey.{UnitKey}
use Rattle.enq_base.specs.declared.unit.Num.{Num}
use Rattle.enq_base.specs.declared.unit.Parts.{Parts}
use Rattle.enq_base.specs.declared.unit.Status.{Status}
use Rattle.enq_base.specs.declared.unit.Status.TheVariants as status
use Rattle.lock_objects.specs.Objects.{Object}
use Rattle.ledger_steps.specs.Posts.{status_for}
use Rattle.record_laws.proofs.Status.{flip}
use Rattle.update_records.specs.Growing.{with_mark, with_unit}
use Rattle.update_records.specs.Ledger.{Ledger}
use Rattle.update_records.specs.Marks.{unit_at}
use Rattle.update_records.specs.declared.records.MarkKind.{MarkKind}
use Rattle.update_records.specs.declared.records.MarkKind.TheVariants as mark
use Rattle.update_records.specs.declared.records.Unit.{Unit as UnitOfWork}
use Rattle.hall_laws.proofs.keeping.UnitsToCome.{open_unheard}
use Rattle.model_laws.proofs.EachLock.{every_by, found_unit}
use Rattle.model_laws.proofs.LockLists.{Among, among_from, contains_from}
use Rattle.model_laws.proofs.OtherStatuses.{apart_by, apart_by_status, marked_other, numbers_leave, recorded_other, status_in}
use Rattle.hall_model.specs.Calls.{Call, OfSession, Commits, call_of}
use Rattle.hall_model.specs.Devices.{found_by}
use Rattle.hall_model.specs.Kept.{IsSteady}
use Rattle.hall_model.specs.Recall.{Made}
use Rattle.hall_model.specs.Sessions.{session_at, unit_key}
use Rattle.hall_model.specs.State.{State}
use Rattle.hall_model.specs.Step.{Found, may_cancel, unit_of}
use Rattle.hall_model.specs.declared.command.Command.{Command}
use Rattle.hall_model.specs.declared.command.Command.TheVariants as command
use Rattle.hall_model.specs.declared.command.Reply.{Reply}
use Rattle.hall_model.specs.declared.command.Session.{Session}
use Rattle.cover_laws.proofs.calls.MarkedCalls.{OfMarks, by_marks}
use Rattle.cover_laws.proofs.calls.QuietCalls.{by_stored, none_in_flight}
use Rattle.cover_laws.proofs.needed.HallNeeded.{AreWell, FirstPartsStand, IsWell, SecondPartsStand, WellStays}
use Rattle.cover_laws.specs.Histories.{IsCommitBy, IsDone}
use Rattle.ledger_steps.specs.declared.part.Part.{Part}
use Rattle.ledger_steps.specs.Parts.{is_first}

-- ---- units that are done with

abbrev is_end : Status → Bool
is_end status.Closed = true
is_end status.Cancelled = true
is_end other = false

ends_differ : (a b : Status) → is_end a ≡ false → is_end b ≡ true → a ≡ b → ⊥
ends_differ a b off on e = let no : false ≡ true = sym off ∙ ap is_end e ∙ on in cc

done_on : (before after : Ledger) (unit : UnitKey)
    → ((was : Status) → is_end was ≡ true → status_in before unit ≡ Some was → status_in after unit ≡ Some was) → IsDone before unit → IsDone after unit
done_on before after unit more (inl here) = inl (more status.Closed refl here)
done_on before after unit more (inr here) = inr (more status.Cancelled refl here)

-- a mark of a unit that isn't done with
done_marked : (ledger : Ledger) (key unit : UnitKey) (kind : MarkKind) (now : Status) → status_in ledger key ≡ Some now → is_end now ≡ false
    → IsDone ledger unit → IsDone (with_mark ledger key kind) unit
done_marked ledger key unit kind now here off =
    done_on ledger (with_mark ledger key kind) unit
    (λ was on there. marked_other ledger key unit kind (apart_by ledger key unit now was here there (ends_differ now was off on)) ∙ there)

done_recorded : (ledger : Ledger) (recorded : UnitOfWork) (unit : UnitKey) → status_in ledger recorded.key ≡ None → IsDone ledger unit
    → IsDone (with_unit ledger recorded) unit
done_recorded ledger recorded unit new =
    done_on ledger (with_unit ledger recorded) unit
    (λ was on there.
    recorded_other ledger recorded unit new (flip recorded.key unit (apart_by_status ledger unit recorded.key was there new)) ∙ there)

done_numbers : (ledger : Ledger) (key unit : UnitKey) (numbers : List Num) → IsDone ledger unit → IsDone (with_mark ledger key (mark.Num numbers)) unit
done_numbers ledger key unit numbers =
    done_on ledger (with_mark ledger key (mark.Num numbers)) unit (λ was on there. numbers_leave ledger key unit numbers ∙ there)

waits_off : (part : Part) → is_end (status_for part) ≡ false
waits_off part = elim (is_first part) as (λ b. is_end (if b then status.Open else status.Posted) ≡ false) [ true ↦ refl | false ↦ refl ]

may_off : (was : Status) → may_cancel was ≡ true → is_end was ≡ false
may_off status.Open may = refl
may_off status.Posted may = refl
may_off status.Bad may = refl
may_off status.Closed may = cc
may_off status.Bad2 may = refl
may_off status.Cancelled may = cc

-- ---- units that stay well

among_push : {X : Type 0} (xs : List X) (y x : X) → Among (xs ++ y ∷ []) x → Among xs x ⊎ (y ≡ x)
among_push [] y x (inl e) = inr e
among_push [] y x (inr k) = absurd k
among_push (z ∷ xs) y x (inl e) = inl (inl e)
among_push (z ∷ xs) y x (inr k) = elim (among_push xs y x k) as (λ _. Among (z ∷ xs) x ⊎ (y ≡ x)) [ inl h ↦ inl (inr h) | inr e ↦ inr e ]

-- the commit that a call is
commit_called : (c : Command) (name : List ℕ) (parts : Parts) (stock : List Num) → OfSession name (Commits parts stock) ≡ call_of c
    → c ≡ command.Commit name parts stock
commit_called (command.Commit other p q) name parts stock e = cc
commit_called _ name parts stock e = cc

module _ (objects : List Object) (guarded : List ℕ → Bool) where
  abbrev Well : Ledger → Type 0
  Well ledger = AreWell objects guarded ledger

  first_on : (before after : Ledger) (u : UnitOfWork) → (IsDone before u.key → IsDone after u.key)
      → IsDone before u.key ⊎ IsWell objects guarded u → IsDone after u.key ⊎ IsWell objects guarded u
  first_on before after u more (inl done) = inl (more done)
  first_on before after u more (inr well) = inr well

  marked_well : (ledger : Ledger) (key : UnitKey) (kind : MarkKind) (now : Status) → status_in ledger key ≡ Some now → is_end now ≡ false
      → Well ledger → Well (with_mark ledger key kind)
  marked_well ledger key kind now here off h u k =
      first_on ledger (with_mark ledger key kind) u (done_marked ledger key u.key kind now here off) (h u k)

  recorded_well : (ledger : Ledger) (recorded : UnitOfWork) → status_in ledger recorded.key ≡ None → IsWell objects guarded recorded → Well ledger
      → Well (with_unit ledger recorded)
  recorded_well ledger recorded new well h u k =
      let after = with_unit ledger recorded in
      elim (among_push ledger.units recorded u (among_from (ledger.units ++ recorded ∷ []) u k))
      as (λ _. IsDone after u.key ⊎ IsWell objects guarded u) [
        | inl old ↦ first_on ledger after u (done_recorded ledger recorded u.key new) (h u (contains_from ledger.units u old))
        | inr e ↦ inr (subst (IsWell objects guarded) e well)
      ]

  abbrev WellBehind : Made → Call → Ledger → Reply → Type 0
  WellBehind m call ledger r = call ≡ call_of m.call.command → r ≡ m.call.reply → Well ledger

  -- each unit that the call commits is well
  abbrev CommitsWell : State → Made → Type 0
  CommitsWell s m =
      (name : List ℕ) (unit : UnitKey) (x : Session) (numbers : List Num) (c : IsCommitBy name unit m.call)
      → session_at s.sessions name ≡ Some x → IsWell objects guarded (unit_of s.stored.start s.locks x c.parts numbers)

  well_on : (found : Found) (s : State) (m : Made) → IsSteady s → Well s.stored → CommitsWell s m → OfMarks (WellBehind m) found s
  well_on found s m steady h commits = record {
    none = λ call levels r plain is told u k. h u k;
    numbers = λ call key numbers levels is told u k.
        first_on s.stored (with_mark s.stored key (mark.Num numbers)) u (done_numbers s.stored key u.key numbers) (h u k);
    records = λ name x parts stock levels at is told.
        let key = unit_key s.stored.start x in
        let numbers = x.draws ++ stock in
        let commit : IsCommitBy name key m.call = record {
          parts = parts;
          stock = stock;
          commits = commit_called m.call.command name parts stock is;
          answered = sym told;
        } in
        recorded_well s.stored (unit_of s.stored.start s.locks x parts numbers) (open_unheard s name x at steady.fresh)
        (commits name key x numbers commit at) h;
    posts = λ worker part key waits is told. marked_well s.stored key _ (status_for part) waits (waits_off part) h;
    cancels = λ key was here may is told. marked_well s.stored key mark.Gone was here (may_off was may) h;
    reopens = λ key here is told. marked_well s.stored key mark.Again1 status.Bad here refl h;
    reposts = λ key here is told. marked_well s.stored key mark.Again2 status.Bad2 here refl h;
  }

pub well_stays : WellStays
well_stays objects guarded s m quiet h commits =
    let call = call_of m.call.command in
    let found = found_by m.outcome.reading s in
    let P : Ledger → Reply → Type 0 = λ ledger r. r ≡ m.call.reply → AreWell objects guarded ledger in
    by_stored P s m quiet (λ r told. h)
    (by_marks (WellBehind objects guarded m) found s (none_in_flight s m quiet) (well_on objects guarded found s m quiet.reached.steady h commits) call refl)
    refl

-- ---- the unit of an effect

unit_found : (units : List UnitOfWork) (key : UnitKey) (u : UnitOfWork) → unit_at units key ≡ Some u → Among units u × (u.key ≡ key)
unit_found units key u at = found_unit (Among units) units key u at (every_by (Among units) units (λ x k. k))

-- a unit of this key is recorded, of which this holds
abbrev OneOf : Ledger → UnitKey → (UnitOfWork → Type 0) → Type 0
OneOf ledger key Q = (u : UnitOfWork) × (Contains ledger.units u × ((u.key ≡ key) × Q u))

pub first_parts_stand : FirstPartsStand
first_parts_stand ledger unit e k =
    elim (unit_at ledger.units unit)
    as (λ o. unit_at ledger.units unit ≡ o → Contains (option_map_or (λ (u : UnitOfWork). u.parts.v1) o []) e
    → OneOf ledger unit (λ u. Contains u.parts.v1 e × (option_map_or (λ (x : UnitOfWork). x.entries) o [] ≡ u.entries))) [
      | None ↦ λ at c. absurd (among_from [] e c)
      | Some u ↦ λ at c. let found = unit_found ledger.units unit u at in (u, (contains_from ledger.units u found.0, (found.1, (c, refl))))
    ] refl k

pub second_parts_stand : SecondPartsStand
second_parts_stand ledger unit e k =
    elim (unit_at ledger.units unit)
    as (λ o. unit_at ledger.units unit ≡ o → Contains (option_map_or (λ (u : UnitOfWork). u.parts.v2) o []) e
    → OneOf ledger unit (λ u. Contains u.parts.v2 e)) [
      | None ↦ λ at c. absurd (among_from [] e c)
      | Some u ↦ λ at c. let found = unit_found ledger.units unit u at in (u, (contains_from ledger.units u found.0, (found.1, c)))
    ] refl k
