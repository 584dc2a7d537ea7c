-- A call that isn't answered that a device isn't good leaves a history without such an answer.
use Rattle.std.proofs.Common.{◌≡◌, ℕ, zero, suc, ◌-◌, Bool, true, false, List, [], ◌∷◌, ◌++◌, refl, sym, ap, ◌∙◌, subst}
use Rattle.std.specs.Prelude.{◌||◌, not, IsTrue, Option, Some, None}
use Rattle.std.specs.List.{list_any, slice_get}
use Rattle.std.specs.Option.{option_map}
use Rattle.std.proofs.lemmas.List.Folds.{list_any-append}
use Rattle.enq_base.specs.Causes.{Rose}
use Rattle.enq_base.specs.declared.refusal.Refusal.TheVariants as refusal
use Rattle.model_laws.proofs.NotedCalls.{by_noting}
use Rattle.hall_laws.proofs.keeping.Unchanged.{served-past}
use Rattle.hall_model.specs.Devices.{DeviceOutcome}
use Rattle.hall_model.specs.History.{IsStep, Served, past_entry, served, step, takes_flight}
use Rattle.hall_model.specs.State.{State, is_honest}
use Rattle.hall_model.specs.declared.command.Command.{Command}
use Rattle.hall_model.specs.declared.command.PastEntry.{PastEntry}
use Rattle.hall_model.specs.declared.command.Reply.{Reply}
use Rattle.hall_model.specs.declared.command.Reply.TheVariants as reply
use Rattle.hall_calls.specs.Serving.{HasLinkCause}
use Rattle.hall_model.specs.Unsound.{is_unsound_file, is_unsound_store}
use Rattle.script_runner.specs.Faults.{NoneTells, NoneUnsound, NoneUnsoundStore, answer_at, is_link_fault}
use Rattle.script_runner.specs.Replay.{MeetsBad}

neither : (a b : Bool) → a ≡ false → b ≡ false → (a || (b || false)) ≡ false
neither true b h k = h
neither false true h k = k
neither false false h k = refl

module _ (tells : Reply → Bool) where
  -- one call more
  one_more : (past : List PastEntry) (e : PastEntry) → NoneTells tells past → tells e.reply ≡ false → NoneTells tells (past ++ e ∷ [])
  one_more past e none sound =
      list_any-append (λ (x : PastEntry). tells x.reply) past (e ∷ [])
      ∙ neither (list_any (λ (x : PastEntry). tells x.reply) past) (tells e.reply) none sound

  abbrev KeepsSound : State → Served → Type 0
  KeepsSound s r = tells r.reply ≡ false → NoneTells tells s.past → NoneTells tells r.state.past

  noted_sound : (o : DeviceOutcome) (s : State) (n : ℕ) (c : Command) → KeepsSound s (step o s n c)
  noted_sound o s n c =
      let r = served o s c in
      let same = served-past o s c in
      let taken = takes_flight o in
      by_noting (KeepsSound s) n c taken r
      (λ sound none. subst (NoneTells tells) (sym same) none)
      (λ sound none. one_more r.state.past (past_entry n c taken r) (subst (NoneTells tells) (sym same) none) sound)

  pub step_sound : (s t : State) (n : ℕ) (c : Command) (r : Reply) → IsStep s t n c r → tells r ≡ false → NoneTells tells s.past → NoneTells tells t.past
  step_sound s t n c r h sound none = subst (KeepsSound s) (sym h.same) (noted_sound h.outcome s n c) sound none

-- ---- the answer of one call

first_sound : (a b : Bool) → (a || b) ≡ false → a ≡ false
first_sound true b h = h
first_sound false b h = refl

rest_sound : (a b : Bool) → (a || b) ≡ false → b ≡ false
rest_sound true b h = absurd (cc)
rest_sound false b h = h

same_reply : (a b : Reply) → ◌≡◌ {A = Option Reply} (Some a) (Some b) → a ≡ b
same_reply a b e = cc

no_reply : (r : Reply) → ◌≡◌ {A = Option Reply} None (Some r) → ⊥
no_reply r e = cc

module _ (tells : Reply → Bool) where
  found_sound : (past : List PastEntry) (i : ℕ) (r : Reply) → NoneTells tells past → option_map (λ (e : PastEntry). e.reply) (slice_get past i) ≡ Some r
      → tells r ≡ false
  found_sound [] i r none found = absurd (no_reply r found)
  found_sound (e ∷ past) zero r none found = sym (ap tells (same_reply e.reply r found))
      ∙ first_sound (tells e.reply) (list_any (λ (x : PastEntry). tells x.reply) past) none
  found_sound (e ∷ past) (suc i) r none found = found_sound past i r (rest_sound (tells e.reply) (list_any (λ (x : PastEntry). tells x.reply) past) none) found

  -- no call of such a history is answered so
  pub answer_sound : (past : List PastEntry) (k : ℕ) (r : Reply) → NoneTells tells past → answer_at past k ≡ Some r → tells r ≡ false
  answer_sound past k r none found = found_sound past (k - 1) r none found

neither_so : (a b : Bool) → a ≡ false → b ≡ false → IsTrue (a || b) → ⊥
neither_so true b off none on = cc
neither_so false true off none on = cc
neither_so false false off none on = cc

-- where no call found a device that isn't good, none of a run did
pub never_met : (before now : State) → NoneUnsound now.past → NoneUnsoundStore now.past → MeetsBad before now → ⊥
never_met before now files stores h =
    neither_so (is_unsound_file h.answer) (is_unsound_store h.answer) (answer_sound is_unsound_file now.past h.call h.answer files h.answered)
    (answer_sound is_unsound_store now.past h.call h.answer stores h.answered) h.unsound

-- where the link tells its list the locks can be told from the calls
pub told_honest : (s : State) → s.link_told ≡ true → IsTrue (is_honest s)
told_honest s told = ap (λ b. b || not s.taken_over) told

-- that the link failed isn't answered where its count stood still
pub no_link_fault : (f g : ℕ) (r : Reply) → HasLinkCause f g r → (Rose f g → ⊥) → is_link_fault r ≡ false
no_link_fault f g (reply.Refused refusal.LinkFault) rose quiet = absurd (quiet rose)
no_link_fault f g _ rose quiet = refl
