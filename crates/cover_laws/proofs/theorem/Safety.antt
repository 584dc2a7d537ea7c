-- Scripts whose reads and writes are covered are safe.
use Rattle.std.proofs.Common.{◌≡◌, ℕ, Bool, false, List, [], ◌∷◌, ◌++◌, append_assoc, refl, sym, ap, ◌∙◌, subst}
use Rattle.std.proofs.lemmas.Bool.{or_parts}
use Rattle.std.proofs.lemmas.List.{append-nil}
use Rattle.std.proofs.lemmas.List.Folds.{list_any-append}
use Rattle.std.proofs.lemmas.List.Sums.{fold-append}
use Rattle.std.specs.Prelude.{IsTrue, Option}
use Rattle.std.specs.List.{list_any}
use Rattle.enq_base.specs.declared.owner.UnitKey.{UnitKey}
use Rattle.lock_objects.specs.Objects.{Object}
use Rattle.hall_model.specs.Recall.{Made, recalled, state_after}
use Rattle.hall_model.specs.State.{State}
use Rattle.hall_model.specs.Step.{row_in}
use Rattle.hall_model.specs.declared.command.Reply.{Reply}
use Rattle.hall_model.specs.declared.command.Reply.TheVariants as reply
use Rattle.ledger_steps.specs.Steps.{IsOpenUnit}
use Rattle.coverage.specs.Lacks.{Numbered, lacks}
use Rattle.cover_laws.proofs.theorem.MeantHistories.{reached_now}
use Rattle.cover_laws.proofs.calls.QuietCalls.{quiet_left, quiet_right}
use Rattle.cover_laws.proofs.theorem.Shields.{Shields, rows_stand}
use Rattle.cover_laws.proofs.theorem.Watches.{CoversIn, covers_in, handed_shields, open_shields, waits_between}
use Rattle.cover_laws.proofs.theorem.WellHistories.{GoesWell, first_well, goes_well, next_well}
use Rattle.cover_laws.proofs.needed.AllNeeded.{AllNeeded}
use Rattle.cover_laws.proofs.needed.HallNeeded.{AreQuiet, IsQuiet, IsReached, Records, WaitsOn, effects_posted, names_row}
use Rattle.cover_laws.specs.Histories.{IsCommitBy, IsReadOf, NoneSettles, settles}
use Rattle.cover_laws.specs.Safe.{IsWithin, KeepsReads, Safe}

-- an answer that posts nothing names no row
unnamed : (s : State) (m : Made) (x : Reply) (table key : List ℕ) → m.call.reply ≡ x → effects_posted s.stored x ≡ []
    → list_any (names_row table key) (effects_posted s.stored m.call.reply) ≡ false
unnamed s m x table key is none =
    ap (λ r. list_any (names_row table key) (effects_posted s.stored r)) is ∙ ap (list_any (names_row table key)) none

module _ (all : AllNeeded) (objects : List Object) (lines : List Numbered) (clean : lacks objects lines ≡ []) where
  -- behind the COMMIT the unit has a lock that covers the row, until a call settles it
  waiting_shields : (s t : State) (waiting later : List Made) (d : Made) (name : List ℕ) (unit : UnitKey) (table key : List ℕ)
      → CoversIn objects lines s name unit table key → Records s t name unit → AreQuiet t (waiting ++ d ∷ later) → IsTrue (settles unit d.call.reply)
      → (ms rest : List Made) → waiting ≡ ms ++ rest → Shields objects (state_after t ms) unit table key
  waiting_shields s t waiting later d name unit table key covers records quiet settled ms rest e =
      let quiet_d : IsQuiet (state_after t waiting) d = (quiet_right t waiting (d ∷ later) quiet).0 in
      let waits = (all.first_parts_wait (state_after t waiting) d unit quiet_d settled).waits in
      let on : WaitsOn t (state_after t ms) unit =
      waits_between all t ms rest unit (subst (λ xs. AreQuiet t xs) e (quiet_left t waiting (d ∷ later) quiet)) records.waits
      (subst (λ xs. IsOpenUnit (state_after t xs).stored unit) e waits) in
      let parts : AreQuiet t (ms ++ (rest ++ d ∷ later)) =
      subst (λ xs. AreQuiet t xs) (ap (λ xs. xs ++ d ∷ later) e ∙ append_assoc ms rest (d ∷ later)) quiet in
      let reached : IsReached (state_after t ms) = reached_now (state_after t ms) rest later d (quiet_right t ms (rest ++ d ∷ later) parts) in
      handed_shields all objects lines clean s (state_after t ms) name records.session.user unit table key covers records.up reached on.waits
      (on.entries ∙ records.entries)

  -- the row stands from the reading to the call that settles the unit
  read_stands : (s : State) (between waiting later : List Made) (r c d : Made) (name : List ℕ) (unit : UnitKey) (table key : List ℕ)
      (text : Option (List ℕ)) → GoesWell all objects lines clean s (r ∷ (between ++ c ∷ (waiting ++ d ∷ later)))
      → IsReadOf s name unit table key text r.call → IsCommitBy name unit c.call → NoneSettles unit between → NoneSettles unit waiting
      → IsTrue (settles unit d.call.reply)
      → row_in (state_after (recalled (state_after (recalled s r) between) c) waiting).stored table key ≡ text
  read_stands s between waiting later r c d name unit table key text h read commit none_between none_waiting settled =
      let behind : State = recalled s r in
      let at : State = state_after behind between in
      let end : State = recalled at c in
      let calls : List Made = waiting ++ d ∷ later in
      let h_behind : GoesWell all objects lines clean behind (between ++ c ∷ calls) = next_well all objects lines clean s r (between ++ c ∷ calls) h in
      let h_at : GoesWell all objects lines clean at (c ∷ calls) = goes_well all objects lines clean behind between (c ∷ calls) h_behind in
      let h_end : GoesWell all objects lines clean end calls = next_well all objects lines clean at c calls h_at in
      let covers : (ms rest : List Made) → between ≡ ms ++ rest → CoversIn objects lines (state_after behind ms) name unit table key = λ ms rest e.
      covers_in all objects lines clean s ms rest calls r c name unit table key
      (subst (λ xs. GoesWell all objects lines clean s (r ∷ xs)) (ap (λ xs. xs ++ c ∷ calls) e ∙ append_assoc ms rest (c ∷ calls)) h)
      read.open_then read.asks commit in
      let covers_at : CoversIn objects lines at name unit table key = covers between [] (sym (append-nil between)) in
      let records : Records at end name unit = all.commits_record at c name unit h_at.quiet.0 commit in
      rows_stand all objects lines clean unit table key covers_at.guarded end waiting (d ∷ later) h_end
      (waiting_shields at end waiting later d name unit table key covers_at records h_end.quiet settled) none_waiting
      ∙ all.rows_stay at c table key h_at.quiet.0 (unnamed at c (reply.Unit unit) table key commit.answered refl)
      ∙ rows_stand all objects lines clean unit table key covers_at.guarded behind between (c ∷ calls) h_behind
      (λ ms rest e. open_shields all objects lines clean (state_after behind ms) name unit table key (covers ms rest e)) none_between
      ∙ all.rows_stay s r table key h.quiet.0 (unnamed s r (reply.Row text) table key read.answered refl)
      ∙ all.reads_tell s r name table key text h.quiet.0 read.asks read.answered

  keeps_reads : (first : State) (made : List Made) → IsWithin objects lines first made → KeepsReads first made
  keeps_reads first made within earlier between waiting later r c d name unit table key text whole read commit none settled =
      let s : State = state_after first earlier in
      let s1 : State = recalled s r in
      let calls : List Made = r ∷ (between ++ c ∷ (waiting ++ d ∷ later)) in
      let h : GoesWell all objects lines clean s calls =
      goes_well all objects lines clean first earlier calls
      (subst (λ ms. GoesWell all objects lines clean first ms) whole (first_well all objects lines clean first made within)) in
      let unsettled : Made → Bool = λ m. settles unit m.call.reply in
      let parts = or_parts (list_any unsettled between) (list_any unsettled (c ∷ waiting)) (sym (list_any-append unsettled between (c ∷ waiting)) ∙ none) in
      let leads : state_after first (earlier ++ r ∷ (between ++ c ∷ waiting)) ≡ state_after (recalled (state_after s1 between) c) waiting =
      fold-append recalled first earlier (r ∷ (between ++ c ∷ waiting)) ∙ fold-append recalled s1 between (c ∷ waiting) in
      ap (λ (t : State). row_in t.stored table key) leads
      ∙ read_stands s between waiting later r c d name unit table key text h read commit parts.0
      (or_parts (unsettled c) (list_any unsettled waiting) parts.1).1 settled

pub covered_are_safe : AllNeeded → (objects : List Object) (lines : List Numbered) → lacks objects lines ≡ [] → Safe objects lines
covered_are_safe all objects lines clean = keeps_reads all objects lines clean
