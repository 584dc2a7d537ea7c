-- A row stays as it was while a unit that isn't posted yet has an exclusive lock that covers it.
use Rattle.std.proofs.Common.{◌≡◌, ◌≢◌, inl, inr, ℕ, true, false, List, [], ◌∷◌, ◌++◌, refl, sym, ap, ◌∙◌, subst}
use Rattle.std.proofs.lemmas.Bool.{and_parts, both_ways, false_from_ne_true, or_parts}
use Rattle.std.proofs.lemmas.List.Folds.{Any-from_list_any}
use Rattle.std.specs.Prelude.{Contains, IsTrue, Some}
use Rattle.std.specs.List.{list_any}
use Rattle.std.specs.Str.{bytes_eq}
use Rattle.enq_base.specs.declared.condition.Condition.TheVariants.{Up}
use Rattle.enq_base.specs.declared.owner.Owner.TheVariants.{Upd}
use Rattle.enq_base.specs.declared.owner.UnitKey.{UnitKey}
use Rattle.enq_base.specs.declared.unit.Effect.{Effect}
use Rattle.enq_base.specs.declared.unit.Status.{Status}
use Rattle.enq_base.specs.declared.unit.Status.TheVariants.{Open, Posted, Closed, Cancelled}
use Rattle.lock_entry.proofs.lemmas.Naming.{bytes_eq-same, same_owner-refl}
use Rattle.lock_entry.specs.Names.{asked_of, is_of}
use Rattle.lock_entry.specs.declared.entry.Entry.{Entry}
use Rattle.lock_objects.specs.Objects.{Object}
use Rattle.ledger_steps.specs.Posts.{entries_of}
use Rattle.ledger_steps.specs.Steps.{IsOpenUnit}
use Rattle.update_records.specs.Ledger.{Ledger}
use Rattle.update_records.specs.Marks.{status_of, v1_of, v2_of}
use Rattle.hall_model.specs.OpenUnits.{HoldsOpenUnits}
use Rattle.hall_model.specs.Recall.{Made, recalled, state_after}
use Rattle.hall_model.specs.State.{State}
use Rattle.hall_model.specs.Step.{row_in}
use Rattle.hall_model.specs.declared.command.Reply.{Reply}
use Rattle.hall_model.specs.declared.command.Reply.TheVariants as reply
use Rattle.coverage.specs.Lacks.{Numbered, is_guarded, lacks}
use Rattle.coverage.specs.Locks.{covers}
use Rattle.cover_laws.proofs.Lists.{contains_all}
use Rattle.cover_laws.proofs.calls.QuietCalls.{held_up}
use Rattle.cover_laws.proofs.theorem.WellHistories.{GoesWell, next_well}
use Rattle.cover_laws.proofs.needed.AllNeeded.{AllNeeded}
use Rattle.cover_laws.proofs.needed.CoverageNeeded.{IsGiven}
use Rattle.cover_laws.proofs.needed.HallNeeded.{AreWell, IsQuiet, IsReached, effects_posted, names_row}
use Rattle.cover_laws.specs.Histories.{IsDone, NoneSettles, settles}
use Rattle.cover_laws.proofs.needed.LocksNeeded.{IsCoveredIn}

-- the unit has an exclusive lock on the row, one that may be asked for
pub record IsShielded (objects : List Object) (s : State) (unit : UnitKey) (table key : List ℕ) : Type 0 where
  pub lock : IsCoveredIn s.locks (Upd unit) table key
  pub given : IsGiven objects (asked_of lock.lock)

-- it has while there is a lock server
abbrev pub Shields : List Object → State → UnitKey → (table key : List ℕ) → Type 0
Shields objects s unit table key = s.condition ≡ Up → IsShielded objects s unit table key

-- ---- units that wait

not_done : (ledger : Ledger) (unit : UnitKey) (status : Status) → status_of ledger.units ledger.marks unit ≡ Some status → status ≢ Closed → status ≢ Cancelled
    → IsDone ledger unit → ⊥
not_done ledger unit status is open_still kept (inl e) = open_still (let both : Some status ≡ Some Closed = sym is ∙ e in cc)
not_done ledger unit status is open_still kept (inr e) = kept (let both : Some status ≡ Some Cancelled = sym is ∙ e in cc)

-- the locks that are stored with a unit that waits for its V1 part stand in the table
pub stored_stand : (s : State) (unit : UnitKey) (x : Entry) → IsReached s → s.condition ≡ Up → IsOpenUnit s.stored unit
    → Contains (entries_of s.stored.units unit) x → Contains s.locks x
stored_stand s unit x reached up waits is =
    let held : HoldsOpenUnits s.locks s.stored = held_up s reached up in
    contains_all (is_of (Upd unit)) s.locks x (subst (λ xs. Contains xs x) (sym (held.units unit waits)) is)

covered_table : (table key : List ℕ) (x : Entry) → IsTrue (covers table key (asked_of x)) → x.table ≡ table
covered_table table key x fits = bytes_eq-same x.table table (and_parts _ _ (and_parts _ _ fits).0).0

settles_itself : (unit : UnitKey) → settles unit (reply.Posted unit) ≡ true
settles_itself unit = same_owner-refl (Upd unit)

-- an effect that names the row
record IsEffectOn (effects : List Effect) (table key : List ℕ) : Type 0 where
  effect : Effect
  is : Contains effects effect
  table_is : effect.table ≡ table
  key_is : effect.key ≡ key

effect_on : (effects : List Effect) (table key : List ℕ) → list_any (names_row table key) effects ≡ true → IsEffectOn effects table key
effect_on effects table key hit =
    let found = Any-from_list_any (names_row table key) effects hit in
    let parts = and_parts (bytes_eq found.1.table table) (bytes_eq found.1.key key) found.4 in
    record {
      effect = found.1;
      is = (found.0, found.2, found.3);
      table_is = bytes_eq-same found.1.table table parts.0;
      key_is = bytes_eq-same found.1.key key parts.1;
    }

-- ---- calls

module _ (all : AllNeeded) (objects : List Object) (lines : List Numbered) (clean : lacks objects lines ≡ []) (unit : UnitKey) (table key : List ℕ)
    (guarded : is_guarded lines table ≡ true) where
  -- no V1 part of another unit changes the row
  firsts_miss : (s : State) (m : Made) (other : UnitKey) → IsQuiet s m → AreWell objects (is_guarded lines) s.stored → Shields objects s unit table key
      → settles unit m.call.reply ≡ false → m.call.reply ≡ reply.Posted other → list_any (names_row table key) (v1_of s.stored.units other) ≡ true → ⊥
  firsts_miss s m other quiet well shields unsettled posted hit =
      let on = effect_on (v1_of s.stored.units other) table key hit in
      let at = all.first_parts_stand s.stored other on.effect on.is in
      let u = at.0 in
      let same : u.key ≡ other = at.1.1.0 in
      let waits = all.first_parts_wait s m other quiet (ap (settles other) posted ∙ settles_itself other) in
      elim (well u at.1.0) [
        | inl done ↦ not_done s.stored other Open waits.waits (λ e. cc) (λ e. cc) (subst (IsDone s.stored) same done)
        | inr good ↦
            let theirs = good.first on.effect at.1.1.1.0 (ap (is_guarded lines) on.table_is ∙ guarded) in
            let mine = shields waits.up in
            let lock = theirs.0.lock in
            let stored : Contains (entries_of s.stored.units other) lock = subst (λ xs. Contains xs lock) (sym at.1.1.1.1) theirs.0.stands in
            let other_lock : IsCoveredIn s.locks (Upd other) table key = record {
              lock = lock;
              stands = stored_stand s other lock quiet.reached waits.up waits.waits stored;
              owned = theirs.0.owned ∙ ap Upd same;
              exclusive = theirs.0.exclusive;
              fits =
                  ap (λ t. covers t key (asked_of lock)) (sym on.table_is)
                  ∙ ap (λ k. covers on.effect.table k (asked_of lock)) (sym on.key_is)
                  ∙ theirs.0.fits;
            } in
            let tables : mine.lock.lock.table ≡ lock.table =
            covered_table table key mine.lock.lock mine.lock.fits ∙ sym (covered_table table key lock other_lock.fits) in
            let even = all.held_is_even objects lines mine.given.0 theirs.1.0 (asked_of mine.lock.lock) (asked_of lock) clean mine.given.1 theirs.1.1 tables in
            let one : unit ≡ other = all.one_covers s.locks unit other table key mine.lock other_lock quiet.reached.sound.table.sound even in
            both_ways (settles unit m.call.reply) unsettled (ap (settles unit) (posted ∙ ap reply.Posted (sym one)) ∙ settles_itself unit)
      ]

  -- and no V2 part
  seconds_miss : (s : State) (m : Made) (other : UnitKey) → IsQuiet s m → AreWell objects (is_guarded lines) s.stored
      → m.call.reply ≡ reply.Closed other → list_any (names_row table key) (v2_of s.stored.units other) ≡ true → ⊥
  seconds_miss s m other quiet well posted hit =
      let on = effect_on (v2_of s.stored.units other) table key hit in
      let at = all.second_parts_stand s.stored other on.effect on.is in
      let same : at.0.key ≡ other = at.1.1.0 in
      elim (well at.0 at.1.0) [
        | inl done ↦ not_done s.stored other Posted (all.second_parts_follow s m other quiet posted) (λ e. cc) (λ e. cc) (subst (IsDone s.stored) same done)
        | inr good ↦ both_ways (is_guarded lines table) (ap (is_guarded lines) (sym on.table_is) ∙ good.second on.effect at.1.1.1) guarded
      ]

  none_named : (s : State) (m : Made) → IsQuiet s m → AreWell objects (is_guarded lines) s.stored → Shields objects s unit table key
      → settles unit m.call.reply ≡ false → (r : Reply) → m.call.reply ≡ r → list_any (names_row table key) (effects_posted s.stored r) ≡ false
  none_named s m quiet well shields unsettled (reply.Posted other) is =
      false_from_ne_true _ (λ hit. firsts_miss s m other quiet well shields unsettled is hit)
  none_named s m quiet well shields unsettled (reply.Closed other) is = false_from_ne_true _ (λ hit. seconds_miss s m other quiet well is hit)
  none_named s m quiet well shields unsettled r is = refl

  -- a call leaves the row
  row_stays : (s : State) (m : Made) → IsQuiet s m → AreWell objects (is_guarded lines) s.stored → Shields objects s unit table key
      → settles unit m.call.reply ≡ false → row_in (recalled s m).stored table key ≡ row_in s.stored table key
  row_stays s m quiet well shields unsettled = all.rows_stay s m table key quiet (none_named s m quiet well shields unsettled m.call.reply refl)

  -- and so do some
  pub rows_stand : (s : State) (ms rest : List Made) → GoesWell all objects lines clean s (ms ++ rest)
      → ((before after : List Made) → ms ≡ before ++ after → Shields objects (state_after s before) unit table key)
      → NoneSettles unit ms → row_in (state_after s ms).stored table key ≡ row_in s.stored table key
  rows_stand s [] rest h shields none = refl
  rows_stand s (m ∷ ms) rest h shields none =
      let parts = or_parts (settles unit m.call.reply) (list_any (λ (x : Made). settles unit x.call.reply) ms) none in
      rows_stand (recalled s m) ms rest (next_well all objects lines clean s m (ms ++ rest) h)
      (λ before after e. shields (m ∷ before) after (ap (λ xs. m ∷ xs) e)) parts.1
      ∙ row_stays s m h.quiet.0 h.well (shields [] (m ∷ ms) refl) parts.0
