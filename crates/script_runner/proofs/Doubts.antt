-- The server comes to be in doubt only by a line in which the store fails, or the disk of the backup file, or in which no lock
-- server could be made anew. A restart may end the doubt.
use Rattle.std.proofs.Common.{◌≡◌, ◌⊎◌, inl, inr, ℕ, zero, suc, ◌+◌, ◌-◌, ◌≤◌, ◌<◌, Bool, true, false, List, [], ◌∷◌, ◌++◌, append_assoc, length, refl, sym, ap, ◌∙◌, subst, arith}
use Rattle.std.specs.Prelude.{◌||◌, fold, IsTrue, Option, Some, None, is_some}
use Rattle.std.specs.List.{list_any, slice_get}
use Rattle.std.specs.Option.{option_map, option_map_or}
use Rattle.std.proofs.lemmas.List.{append-nil, length-append}
use Rattle.enq_base.specs.Causes.{Rose}
use Rattle.enq_base.specs.declared.condition.BackupBad.{BackupBad}
use Rattle.enq_base.specs.declared.condition.Bad.{Bad}
use Rattle.enq_base.specs.declared.condition.Bad.TheVariants as bad
use Rattle.enq_base.specs.declared.condition.Condition.{Condition}
use Rattle.enq_base.specs.declared.condition.Condition.TheVariants.{Up, NoServer, Doubt}
use Rattle.enq_base.specs.declared.refusal.Refusal.{Refusal}
use Rattle.enq_base.specs.declared.refusal.Refusal.TheVariants as refusal
use Rattle.model_laws.proofs.ByCall.{by_stock}
use Rattle.hall_laws.proofs.keeping.Unchanged.{Becomes, step_becomes, step_begins}
use Rattle.hall_model.specs.Calls.{call_of}
use Rattle.hall_model.specs.declared.command.Command.{Command}
use Rattle.hall_model.specs.declared.command.PastEntry.{PastEntry}
use Rattle.hall_model.specs.declared.command.Reply.{Reply}
use Rattle.hall_model.specs.declared.command.Reply.TheVariants as reply
use Rattle.hall_model.specs.Devices.{AllWell, BackupFails, DeviceOutcome, Event, FindsBad, FindsBadStore, LinkFails, MeetsWant, NotRemade, Reading, RemakeFault}
use Rattle.hall_model.specs.Devices.{StoreFails, Wanting, all_well, fault_told, found_by, is_file_failure, is_store_failure}
use Rattle.hall_model.specs.History.{doubted, in_flight_after, losing, noted, refused, step}
use Rattle.hall_calls.specs.Leaving.{HasCounted}
use Rattle.hall_model.specs.Recall.{HasBegun}
use Rattle.hall_model.specs.State.{State, doubt_in}
use Rattle.hall_model.specs.Step.{call_verdict}
use Rattle.script_lang.specs.Memory.{holds_lists}
use Rattle.script_lang.specs.declared.script_line.ScriptLine.{ScriptLine}
use Rattle.script_runner.specs.declared.runner.Why.{Why}
use Rattle.script_runner.specs.declared.runner.Why.TheVariants.{BackupFault, BadBackup, BadStore, NoMemory, StoreFault}
use Rattle.script_runner.specs.Faults.{answer_at, is_unsound, tells_other}
use Rattle.script_runner.specs.Lines.{Meaning, Silent, Shows, Calls, Declines, Changes, line_in, meaning, settled}
use Rattle.script_runner.specs.Replay.{HasBadCause, HasDoubtCause, IsDoubted, IsDoubtedBy, IsFoundBad, MeetsBad, Replays, Seen, doubt_of}
use Rattle.script_runner.specs.Run.{AreAllowed, CallMayHave, LineMayHave, LineOutcome, MayHave, NoRoom, Called, Turn, Turned, Progress, after_turn, answered}
use Rattle.script_runner.specs.Run.{begun, does, file_fails, next, run, said, store_fails}
use Rattle.script_runner.specs.World.{World, setting_of, world}
use Rattle.script_runner.proofs.Counted.{all_counted, file_fails_in, store_fails_in}
use Rattle.script_runner.proofs.lemmas.MadeCalls.{file_lines, store_lines}
use Rattle.script_runner.proofs.TurnLemmas.{answered-world}

or_with : (a b : Bool) → b ≡ true → (a || b) ≡ true
or_with true b h = refl
or_with false b h = h

pub or_left : (a b : Bool) → (a || b) ≡ false → a ≡ false
or_left true b h = h
or_left false b h = refl

pub or_right : (a b : Bool) → (a || b) ≡ false → b ≡ false
or_right true b h = absurd (cc)
or_right false b h = h

or_first : (a b : Bool) → a ≡ true → (a || b) ≡ true
or_first a b h = ap (λ x. x || b) h

or_none : (a b : Bool) → a ≡ false → b ≡ false → (a || b) ≡ false
or_none true b h k = h
or_none false b h k = k

-- ---- lines in which no lock server could be made anew

abbrev pub is_unmade : Event → Bool
is_unmade AllWell = false
is_unmade Wanting = false
is_unmade StoreFails = false
is_unmade BackupFails = false
is_unmade LinkFails = false
is_unmade (NotRemade fault) = true

abbrev pub unmade : LineOutcome → Bool
unmade NoRoom = false
unmade (Called outcome) = is_unmade outcome.event

abbrev pub unmade_in : Turn → Bool
unmade_in t = unmade t.outcome

-- ---- the call in which a device failed, in the history

found_first : (past more : List PastEntry) (i : ℕ) → i < length past → slice_get (past ++ more) i ≡ slice_get past i
found_first [] more i within = absurd (omega (arith, within))
found_first (e ∷ past) more zero within = refl
found_first (e ∷ past) more (suc i) within = found_first past more i (omega (arith, within))

found_last : (past : List PastEntry) (e : PastEntry) → slice_get (past ++ e ∷ []) (length past) ≡ Some e
found_last [] e = refl
found_last (x ∷ past) e = found_last past e

place_of : (n : ℕ) → n + 1 - 1 ≡ n
place_of n = omega arith

abbrev answer_of : Option PastEntry → Option Reply
answer_of o = option_map (λ (e : PastEntry). e.reply) o

call_at : (past : List PastEntry) (n : ℕ) → answer_at past (n + 1) ≡ answer_of (slice_get past n)
call_at past n = ap (λ i. answer_of (slice_get past i)) (place_of n)

-- a history that goes on tells its calls as before
told_again : (past later : List PastEntry) (n : ℕ) → HasBegun past later → n < length past → answer_at later (n + 1) ≡ answer_at past (n + 1)
told_again past later n begun within =
    ap (λ p. answer_at p (n + 1)) begun.1 ∙ call_at (past ++ begun.0) n ∙ ap answer_of (found_first past begun.0 n within) ∙ sym (call_at past n)

last_call : (past : List PastEntry) (e : PastEntry) → answer_at (past ++ e ∷ []) (length past + 1) ≡ Some e.reply
last_call past e = call_at (past ++ e ∷ []) (length past) ∙ ap answer_of (found_last past e)

longer : (past : List PastEntry) (e : PastEntry) → length past < length (past ++ e ∷ [])
longer past e = omega (arith, length-append past (e ∷ []))

no_answer : (r : Reply) → ◌≡◌ {A = Option Reply} None (Some r) → ⊥
no_answer r e = cc

-- a history that goes on answers its calls as before
answered_again : (past more : List PastEntry) (i : ℕ) (r : Reply) → answer_of (slice_get past i) ≡ Some r → answer_of (slice_get (past ++ more) i) ≡ Some r
answered_again [] more i r is = absurd (no_answer r is)
answered_again (e ∷ past) more zero r is = is
answered_again (e ∷ past) more (suc i) r is = answered_again past more i r is

-- why a call was answered so in which the server came to be in doubt
abbrev pub IsDoubtAnswer : (store file : Bool) → Option Reply → Type 0
IsDoubtAnswer store file answer =
    (IsTrue store × (answer ≡ Some (reply.Refused refusal.StoreFault)))
    ⊎ ((IsTrue file × (answer ≡ Some (reply.Refused refusal.BackupFault)))
    ⊎ ((fault : RemakeFault) × (answer ≡ Some (reply.Refused (fault_told fault)))))

-- the server is in doubt since a call behind these, as the history tells
pub record IsFailed (store file : Bool) (earlier : ℕ) (now : State) : Type 0 where
  pub place : ℕ
  pub doubt : now.condition ≡ Doubt (place + 1)
  pub later : earlier ≤ place
  pub within : place < length now.past
  pub answer : IsDoubtAnswer store file (answer_at now.past (place + 1))

-- the doubt is as it was, or was ended by a restart
abbrev pub StaysOrEnds : State → State → Type 0
StaysOrEnds before now = (doubt_of now ≡ doubt_of before) ⊎ (doubt_of now ≡ None)

abbrev pub StaysOrFails : (store file : Bool) → State → State → Type 0
StaysOrFails store file before now = StaysOrEnds before now ⊎ IsFailed store file (length before.past) now

-- each lock server that a restart wanted was made anew, or a call found a device that isn't good
abbrev pub MadeOrBad : Bool → State → State → Type 0
MadeOrBad unmade before now = (unmade ≡ false) ⊎ MeetsBad before now

-- the history goes on, the doubt stays as it was or is ended unless a device fails, and lock servers are made anew unless a
-- device isn't good
pub record GoesTo (store file unmade : Bool) (before now : State) : Type 0 where
  pub begun : HasBegun before.past now.past
  pub doubt : StaysOrFails store file before now
  pub made : MadeOrBad unmade before now

answer_by : (a b d e : Bool) (x y : Option Reply) → y ≡ x → (IsTrue a → IsTrue b) → (IsTrue d → IsTrue e) → IsDoubtAnswer a d x → IsDoubtAnswer b e y
answer_by a b d e x y same store file (inl h) = inl (store h.0, same ∙ h.1)
answer_by a b d e x y same store file (inr (inl h)) = inr (inl (file h.0, same ∙ h.1))
answer_by a b d e x y same store file (inr (inr h)) = inr (inr (h.0, same ∙ h.1))

begun_on : (a b c : List PastEntry) → HasBegun a b → HasBegun b c → HasBegun a c
begun_on a b c h k = (h.0 ++ k.0, k.1 ∙ ap (λ p. p ++ k.0) h.1 ∙ append_assoc a h.0 k.0)

grown : (past later : List PastEntry) → HasBegun past later → length past ≤ length later
grown past later begun = omega (arith, ap length begun.1 ∙ length-append past begun.0)

same_number : (a b : ℕ) → ◌≡◌ {A = Option ℕ} (Some a) (Some b) → a ≡ b
same_number a b e = cc

in_doubt : (c : Condition) (k : ℕ) → doubt_in c ≡ Some k → c ≡ Doubt k
in_doubt Up k e = absurd (cc)
in_doubt NoServer k e = absurd (cc)
in_doubt (Doubt j) k e = ap Doubt (same_number j k e)

-- nothing fails
stays_so : (store file : Bool) (before now : State) → now ≡ before → GoesTo store file false before now
stays_so store file before now is =
    record { begun = ([], ap (λ (s : State). s.past) is ∙ sym (append-nil before.past)); doubt = inl (inl (ap doubt_of is)); made = inl refl }

failed_before : (a b d e : Bool) (from : ℕ) (mid now : State) → HasBegun mid.past now.past → doubt_of now ≡ doubt_of mid → IsFailed a d from mid
    → IsFailed (a || b) (d || e) from now
failed_before a b d e from mid now begun same h = record {
  place = h.place;
  doubt = in_doubt now.condition (h.place + 1) (same ∙ ap doubt_in h.doubt);
  later = h.later;
  within = within_more mid.past now.past begun h.place h.within;
  answer = answer_by a (a || b) d (d || e) _ _ (told_again mid.past now.past h.place begun h.within) (or_first a b) (or_first d e) h.answer;
}
  where
    within_more : (past later : List PastEntry) → HasBegun past later → (k : ℕ) → k < length past → k < length later
    within_more past later begun k within = omega (arith, within, grown past later begun)

failed_behind : (a b d e : Bool) (from mid : ℕ) (now : State) → from ≤ mid → IsFailed b e mid now → IsFailed (a || b) (d || e) from now
failed_behind a b d e from mid now first h = record {
  place = h.place;
  doubt = h.doubt;
  later = omega (arith, first, h.later);
  within = h.within;
  answer = answer_by b (a || b) e (d || e) _ _ refl (or_with a b) (or_with d e) h.answer;
}

-- a device that wasn't good is told by a history that goes on
bad_before : (s t u : State) → HasBegun t.past u.past → MeetsBad s t → MeetsBad s u
bad_before s t u begun h = record {
  call = h.call;
  later = h.later;
  answer = h.answer;
  answered = ap (λ p. answer_at p h.call) begun.1 ∙ answered_again t.past begun.0 (h.call - 1) h.answer h.answered;
  unsound = h.unsound;
}

bad_behind : (s t u : State) → length s.past ≤ length t.past → MeetsBad t u → MeetsBad s u
bad_behind s t u first h = record { call = h.call; later = omega (arith, first, h.later); answer = h.answer; answered = h.answered; unsound = h.unsound }

-- one stretch behind another
ends_on : (s t u : State) → StaysOrEnds s t → StaysOrEnds t u → StaysOrEnds s u
ends_on s t u first (inr ended) = inr ended
ends_on s t u (inl same) (inl after) = inl (after ∙ same)
ends_on s t u (inr ended) (inl after) = inr (after ∙ ended)

-- a doubt that a failure left stands as it was, or is ended
failed_then : (a b d e : Bool) (s t u : State) → HasBegun t.past u.past → StaysOrEnds t u → IsFailed a d (length s.past) t → StaysOrFails (a || b) (d || e) s u
failed_then a b d e s t u begun (inl after) failed = inr (failed_before a b d e (length s.past) t u begun after failed)
failed_then a b d e s t u begun (inr ended) failed = inl (inr ended)

doubt_on : (a b d e : Bool) (s t u : State) → HasBegun s.past t.past → HasBegun t.past u.past → StaysOrFails a d s t → StaysOrFails b e t u
    → StaysOrFails (a || b) (d || e) s u
doubt_on a b d e s t u begun more first (inr failed) = inr (failed_behind a b d e (length s.past) (length t.past) u (grown s.past t.past begun) failed)
doubt_on a b d e s t u begun more (inl first) (inl after) = inl (ends_on s t u first after)
doubt_on a b d e s t u begun more (inr failed) (inl after) = failed_then a b d e s t u more after failed

made_on : (m n : Bool) (s t u : State) → HasBegun s.past t.past → HasBegun t.past u.past → MadeOrBad m s t → MadeOrBad n t u → MadeOrBad (m || n) s u
made_on m n s t u begun more (inr met) after = inr (bad_before s t u more met)
made_on m n s t u begun more (inl first) (inl after) = inl (or_none m n first after)
made_on m n s t u begun more (inl first) (inr met) = inr (bad_behind s t u (grown s.past t.past begun) met)

goes_far : (a b d e m n : Bool) (s t u : State) → GoesTo a d m s t → GoesTo b e n t u → GoesTo (a || b) (d || e) (m || n) s u
goes_far a b d e m n s t u h k = record {
  begun = begun_on s.past t.past u.past h.begun k.begun;
  doubt = doubt_on a b d e s t u h.begun k.begun h.doubt k.doubt;
  made = made_on m n s t u h.begun k.begun h.made k.made;
}

-- ---- one call

no_failure : (s t : State) → Becomes false s.condition t.condition → StaysOrEnds s t
no_failure s t (inl same) = inl same
no_failure s t (inr (inl up)) = inr (ap doubt_in up)
no_failure s t (inr (inr h)) = absurd (let wrong : false ≡ true = h.0 in cc)

-- the store fails
store_failed : (reading : Reading) (lost : Bool) (s : State) (n : ℕ) (c : Command)
    → IsFailed true false (length s.past) (step (record { event = StoreFails; reading = reading; lost = lost }) s n c).state
store_failed reading lost s n c =
    let in_flight = in_flight_after s (call_of c) (call_verdict (found_by reading s) s (call_of c)) in
    by_stock (λ call t. IsFailed true false (length s.past) (noted n c false (losing lost (refused (doubted t call None in_flight) refusal.StoreFault))).state)
    s
    (λ name parts stock. record { place = length s.past; doubt = refl; later = omega arith; within = longer s.past _; answer = inl (refl, last_call s.past _) })
    (λ call. record { place = length s.past; doubt = refl; later = omega arith; within = longer s.past _; answer = inl (refl, last_call s.past _) })
    (call_of c)

-- no lock server could be made anew
not_remade : (g : Reading) (lost : Bool) (s : State) (n : ℕ) (c : Command) (fault : RemakeFault)
    → IsFailed false false (length s.past) (step (record { event = NotRemade fault; reading = g; lost = lost }) s n c).state
not_remade g lost s n c MeetsWant = record {
  place = length s.past;
  doubt = refl;
  later = omega arith;
  within = longer s.past _;
  answer = inr (inr (MeetsWant, last_call s.past _));
}
not_remade g lost s n c (FindsBad place) = record {
  place = length s.past;
  doubt = refl;
  later = omega arith;
  within = longer s.past _;
  answer = inr (inr (FindsBad place, last_call s.past _));
}
not_remade g lost s n c (FindsBadStore table row) = record {
  place = length s.past;
  doubt = refl;
  later = omega arith;
  within = longer s.past _;
  answer = inr (inr (FindsBadStore table row, last_call s.past _));
}

step_doubt : (o : DeviceOutcome) (s : State) (n : ℕ) (c : Command) → StaysOrFails (is_store_failure o.event) (is_file_failure o.event) s (step o s n c).state
step_doubt o s n c =
    let well : DeviceOutcome = record { event = AllWell; reading = o.reading; lost = o.lost } in
    let wanting : DeviceOutcome = record { event = Wanting; reading = o.reading; lost = o.lost } in
    let unlinked : DeviceOutcome = record { event = LinkFails; reading = o.reading; lost = o.lost } in
    elim o.event as (λ e. StaysOrFails (is_store_failure e) (is_file_failure e) s (step (record { event = e; reading = o.reading; lost = o.lost }) s n c).state) [
      | AllWell ↦ inl (no_failure s (step well s n c).state (step_becomes well s n c))
      | Wanting ↦ inl (no_failure s (step wanting s n c).state (step_becomes wanting s n c))
      | StoreFails ↦ inr (store_failed o.reading o.lost s n c)
      | BackupFails ↦ inr
          (record { place = length s.past; doubt = refl; later = omega arith; within = longer s.past _; answer = inr (inl (refl, last_call s.past _)) })
      | LinkFails ↦ inl (no_failure s (step unlinked s n c).state (step_becomes unlinked s n c))
      | NotRemade fault ↦ inr (not_remade o.reading o.lost s n c fault)
    ]

-- a run that goes on behind a lock server that couldn't be made anew didn't meet want of memory, so a device isn't good
finds_bad : (w : World) (g : Reading) (lost : Bool) (s : State) (n : ℕ) (c : Command) (fault : RemakeFault)
    → (answered w n (step (record { event = NotRemade fault; reading = g; lost = lost }) s n c).reply).stop ≡ None
    → MeetsBad s (step (record { event = NotRemade fault; reading = g; lost = lost }) s n c).state
finds_bad w g lost s n c MeetsWant goes = absurd (let wrong : ◌≡◌ {A = Option Why} (Some NoMemory) None = goes in cc)
finds_bad w g lost s n c (FindsBad place) goes =
    record {
      call = length s.past + 1;
      later = omega arith;
      answer = reply.Refused (refusal.Unsound (bad.Backup place));
      answered =
          last_call s.past _;
      unsound = refl;
    }
finds_bad w g lost s n c (FindsBadStore table row) goes =
    record {
      call = length s.past + 1;
      later = omega arith;
      answer = reply.Refused (refusal.Unsound (bad.Store table row));
      answered =
          last_call s.past _;
      unsound = refl;
    }

step_made : (w : World) (o : DeviceOutcome) (s : State) (n : ℕ) (c : Command) → (answered w n (step o s n c).reply).stop ≡ None
    → MadeOrBad (is_unmade o.event) s (step o s n c).state
step_made w o s n c =
    elim o.event as (λ e. (answered w n (step (record { event = e; reading = o.reading; lost = o.lost }) s n c).reply).stop ≡ None
    → MadeOrBad (is_unmade e) s (step (record { event = e; reading = o.reading; lost = o.lost }) s n c).state) [
      | AllWell ↦ λ goes. inl refl
      | Wanting ↦ λ goes. inl refl
      | StoreFails ↦ λ goes. inl refl
      | BackupFails ↦ λ goes. inl refl
      | LinkFails ↦ λ goes. inl refl
      | NotRemade fault ↦ λ goes. inr (finds_bad w o.reading o.lost s n c fault goes)
    ]

-- where the run goes on behind it
step_goes : (w : World) (o : DeviceOutcome) (s : State) (n : ℕ) (c : Command) → (answered w n (step o s n c).reply).stop ≡ None
    → GoesTo (is_store_failure o.event) (is_file_failure o.event) (is_unmade o.event) s (step o s n c).state
step_goes w o s n c goes = record { begun = step_begins o s n c; doubt = step_doubt o s n c; made = step_made w o s n c goes }

-- ---- a line, and lines

-- a line behind which the run goes on
abbrev LineGoes : LineOutcome → World → Turned → Type 0
LineGoes outcome w t = t.stop ≡ None → GoesTo (store_fails outcome) (file_fails outcome) (unmade outcome) w.hall t.world.hall

-- where there is no call, nothing fails
quiet_goes : (d : DeviceOutcome) (before now : State) → d ≡ all_well → now ≡ before
    → GoesTo (is_store_failure d.event) (is_file_failure d.event) (is_unmade d.event) before now
quiet_goes d before now quiet is =
    subst (λ (x : DeviceOutcome). GoesTo (is_store_failure x.event) (is_file_failure x.event) (is_unmade x.event) before now) (sym quiet)
    (stays_so false false before now is)

does_goes : (w : World) (n : ℕ) (l : ScriptLine) (d : DeviceOutcome) (m : Meaning) → CallMayHave w d m → LineGoes (Called d) w (does w n l d m)
does_goes w n l d Silent may goes = quiet_goes d w.hall w.hall may refl
does_goes w n l d (Shows m) may goes = quiet_goes d w.hall w.hall may refl
does_goes w n l d (Calls c) may goes =
    let r = step d w.hall n c in
    let after = world w.objects r.state (settled l r.reply w.sides) in
    subst (λ (x : World). GoesTo (store_fails (Called d)) (file_fails (Called d)) (unmade (Called d)) w.hall x.hall) (sym (answered-world after n r.reply))
    (step_goes after d w.hall n c goes)
does_goes w n l d (Declines r) may goes = quiet_goes d w.hall _ may (ap (λ (x : World). x.hall) (answered-world w n (reply.Refused r)))
does_goes w n l d (Changes sides) may goes = quiet_goes d w.hall w.hall may refl

said_goes : (w : World) (n : ℕ) (lists : Bool) (known : Option ScriptLine) (outcome : LineOutcome) → MayHave w lists known outcome
    → LineGoes outcome w (said w n known outcome)
said_goes w n lists known NoRoom may goes = stays_so _ _ w.hall w.hall refl
said_goes w n lists None (Called d) may goes = quiet_goes d w.hall w.hall may refl
said_goes w n lists (Some l) (Called d) may goes = does_goes w n l d (meaning (setting_of w) l) may goes

pub stopped : (p : Progress) (t : Turn) (o : Option Why) → p.stop ≡ o → (after_turn o p t).stop ≡ None → o ≡ None
stopped p t None e h = refl
stopped p t (Some why) e h = sym e ∙ h

-- a run that goes on to its end hadn't ended before
pub run_stops : (p : Progress) (turns : List Turn) → (fold next p turns).stop ≡ None → p.stop ≡ None
run_stops p [] h = h
run_stops p (t ∷ ts) h = stopped p t p.stop refl (run_stops (next p t) ts h)

next_goes : (p : Progress) (t : Turn) → p.stop ≡ None → (next p t).stop ≡ None → LineMayHave p.world t.line t.outcome
    → GoesTo (store_fails_in t) (file_fails_in t) (unmade_in t) p.world.hall (next p t).world.hall
next_goes p t began goes may =
    subst (λ o. (after_turn o p t).stop ≡ None → GoesTo (store_fails_in t) (file_fails_in t) (unmade_in t) p.world.hall (after_turn o p t).world.hall)
    (sym began)
    (said_goes p.world (p.number + 1) (holds_lists t.line) (line_in t.line) t.outcome may) goes

run_goes : (p : Progress) (turns : List Turn) → (fold next p turns).stop ≡ None → AreAllowed p turns
    → GoesTo (list_any store_fails_in turns) (list_any file_fails_in turns) (list_any unmade_in turns) p.world.hall (fold next p turns).world.hall
run_goes p [] ends allowed = stays_so false false p.world.hall p.world.hall refl
run_goes p (t ∷ ts) ends allowed =
    goes_far _ _ _ _ _ _ _ _ _ (next_goes p t (run_stops p (t ∷ ts) ends) (run_stops (next p t) ts ends) allowed.0) (run_goes (next p t) ts ends allowed.1)

-- ---- the doubt behind a run

-- how a run that went on to its end left the doubt
abbrev pub RunStays : World → List Turn → Type 0
RunStays w turns = StaysOrFails (list_any store_fails_in turns) (list_any file_fails_in turns) w.hall (run w turns).world.hall

pub run_stays_or_fails : (w : World) (turns : List Turn) → (run w turns).stop ≡ None → AreAllowed (begun w) turns → RunStays w turns
run_stays_or_fails w turns ends allowed = (run_goes (begun w) turns ends allowed).doubt

-- and its lock servers
pub run_made : (w : World) (turns : List Turn) → (run w turns).stop ≡ None → AreAllowed (begun w) turns
    → MadeOrBad (list_any unmade_in turns) w.hall (run w turns).world.hall
run_made w turns ends allowed = (run_goes (begun w) turns ends allowed).made

never_so : (b : Bool) → b ≡ false → IsTrue b → ⊥
never_so true off on = cc
never_so false off on = cc

rose_where : (fails : Bool) (f g : ℕ) → IsTrue fails → HasCounted fails f g → Rose f g
rose_where true f g on h = h.1
rose_where false f g on h = absurd (cc)

differ : (b : Bool) → b ≡ true → b ≡ false → ⊥
differ b on off = let wrong : true ≡ false = sym on ∙ off in cc

abbrev refused_so : Refusal → Option Reply
refused_so r = Some (reply.Refused r)

-- the call since which the server is in doubt, by its number
record IsCall (store file : Bool) (earlier : ℕ) (now : State) (k : ℕ) : Type 0 where
  answer : IsDoubtAnswer store file (answer_at now.past k)
  later : earlier < k

call_in : (store file : Bool) (earlier : ℕ) (now : State) (k : ℕ) → IsFailed store file earlier now → doubt_of now ≡ Some k → IsCall store file earlier now k
call_in store file earlier now k h doubt =
    let number : h.place + 1 ≡ k = same_number (h.place + 1) k (sym (ap doubt_in h.doubt) ∙ doubt) in
    record {
      answer = subst (λ n. IsDoubtAnswer store file (answer_at now.past n)) number h.answer;
      later = omega (arith, number, h.later);
    }

-- ---- what the call's answer tells

remake_told : (fault : RemakeFault) → tells_other (reply.Refused (fault_told fault)) ≡ true
remake_told MeetsWant = refl
remake_told (FindsBad place) = refl
remake_told (FindsBadStore table row) = refl

told_other : (o : Option Reply) (r : Refusal) → o ≡ refused_so r → tells_other (reply.Refused r) ≡ true → option_map_or tells_other o false ≡ false → ⊥
told_other o r is other off = differ (option_map_or tells_other o false) (ap (λ x. option_map_or tells_other x false) is ∙ other) off

of_store : (store file : Bool) (o : Option Reply) → IsDoubtAnswer store file o → option_map_or tells_other o false ≡ false → IsTrue store
of_store store file o (inl h) off = h.0
of_store store file o (inr (inl h)) off = absurd (told_other o refusal.BackupFault h.1 refl off)
of_store store file o (inr (inr h)) off = absurd (told_other o (fault_told h.0) h.1 (remake_told h.0) off)

store_not_file : refused_so refusal.StoreFault ≡ refused_so refusal.BackupFault → ⊥
store_not_file e = cc

remake_not_file : (fault : RemakeFault) → refused_so (fault_told fault) ≡ refused_so refusal.BackupFault → ⊥
remake_not_file MeetsWant e = cc
remake_not_file (FindsBad place) e = cc
remake_not_file (FindsBadStore table row) e = cc

of_file : (store file : Bool) (o : Option Reply) → IsDoubtAnswer store file o → o ≡ refused_so refusal.BackupFault → IsTrue file
of_file store file o (inl h) is = absurd (store_not_file (sym h.1 ∙ is))
of_file store file o (inr (inl h)) is = h.0
of_file store file o (inr (inr h)) is = absurd (remake_not_file h.0 (sym h.1 ∙ is))

-- ---- by how the run ends

none_is_some : (k : ℕ) → ◌≡◌ {A = Option ℕ} None (Some k) → ⊥
none_is_some k e = cc

-- a doubt that no device of the run brought was there before
stays_in_doubt : (before now : State) (k : ℕ) → StaysOrEnds before now → doubt_of now ≡ Some k → doubt_of before ≡ Some k
stays_in_doubt before now k (inl same) doubt = sym same ∙ doubt
stays_in_doubt before now k (inr ended) doubt = absurd (none_is_some k (sym ended ∙ doubt))

pub stays_stored : (store file : Bool) (before now : State) (k : ℕ) → StaysOrFails store file before now → store ≡ false → doubt_of now ≡ Some k
    → option_map_or tells_other (answer_at now.past k) false ≡ false → doubt_of before ≡ Some k
stays_stored store file before now k (inl stays) off doubt tells = stays_in_doubt before now k stays doubt
stays_stored store file before now k (inr failed) off doubt tells =
    absurd (never_so store off (of_store store file _ (call_in store file (length before.past) now k failed doubt).answer tells))

pub stays_filed : (store file : Bool) (before now : State) (k : ℕ) → StaysOrFails store file before now → file ≡ false → IsDoubted now k refusal.BackupFault
    → doubt_of before ≡ Some k
stays_filed store file before now k (inl stays) off doubt = stays_in_doubt before now k stays doubt.0
stays_filed store file before now k (inr failed) off doubt =
    absurd (never_so file off (of_file store file _ (call_in store file (length before.past) now k failed doubt.0).answer doubt.1))

pub stays_or_found : (store file : Bool) (before now : State) (place : Bad) → StaysOrFails store file before now → IsDoubtedBy now (refusal.Unsound place)
    → HasBadCause before now place
stays_or_found store file before now place (inl stays) doubt = inl (ap is_some (stays_in_doubt before now doubt.0 stays doubt.1.0))
stays_or_found store file before now place (inr failed) doubt =
    inr (record { call = doubt.0; doubted = doubt.1; later = (call_in store file (length before.past) now doubt.0 failed doubt.1.0).later })

-- the call that found it is one of the run
pub found_met : (before now : State) (place : Bad) → is_unsound (reply.Refused (refusal.Unsound place)) ≡ true → IsFoundBad before now place
    → MeetsBad before now
found_met before now place unsound h =
    record { call = h.call; later = h.later; answer = reply.Refused (refusal.Unsound place); answered = h.doubted.1; unsound = unsound }

-- ---- a run that ends in doubt

some_call : (earlier k : ℕ) → earlier < k → 0 < k
some_call earlier k h = omega (arith, h)

store_case : (store file : Bool) (before now : State) (k f g : ℕ) → StaysOrFails store file before now → doubt_of now ≡ Some k
    → option_map_or tells_other (answer_at now.past k) false ≡ false → HasCounted store f g → HasDoubtCause before k f g
store_case store file before now k f g (inl stays) doubt tells counted = inl (stays_in_doubt before now k stays doubt)
store_case store file before now k f g (inr failed) doubt tells counted =
    let call = call_in store file (length before.past) now k failed doubt in
    inr (some_call (length before.past) k call.later, rose_where store f g (of_store store file _ call.answer tells) counted)

file_case : (store file : Bool) (before now : State) (k f g : ℕ) → StaysOrFails store file before now → IsDoubted now k refusal.BackupFault
    → HasCounted file f g → HasDoubtCause before k f g
file_case store file before now k f g (inl stays) doubt counted = inl (stays_in_doubt before now k stays doubt.0)
file_case store file before now k f g (inr failed) doubt counted =
    let call = call_in store file (length before.past) now k failed doubt.0 in
    inr (some_call (length before.past) k call.later, rose_where file f g (of_file store file _ call.answer doubt.1) counted)

pub store_cause : (before after : World) (turns : List Turn) (old new : Seen) (why : Why) (k : ℕ) → Replays before after turns old new why
    → why ≡ StoreFault k → HasDoubtCause before.hall k old.store_faults new.store_faults
store_cause before after turns old new why k h is =
    let ended = subst (λ w. Replays before after turns old new w) is h in
    store_case _ _ before.hall (run before turns).world.hall k _ _
    (run_stays_or_fails before turns ended.end.0.2 ended.allowed) ended.end.1 ended.end.2
    (all_counted store_fails_in turns _ _ (store_lines before turns _ _ ended.allowed ended.done ended.store))

pub file_cause : (before after : World) (turns : List Turn) (old new : Seen) (why : Why) (k : ℕ) → Replays before after turns old new why
    → why ≡ BackupFault k → HasDoubtCause before.hall k old.file_faults new.file_faults
file_cause before after turns old new why k h is =
    let ended = subst (λ w. Replays before after turns old new w) is h in
    file_case _ _ before.hall (run before turns).world.hall k _ _ (run_stays_or_fails before turns ended.end.0.2 ended.allowed) ended.end.1
    (all_counted file_fails_in turns _ _ (file_lines before turns _ _ ended.allowed ended.done ended.file))

pub bad_store_cause : (before after : World) (turns : List Turn) (old new : Seen) (why : Why) (table row : ℕ) → Replays before after turns old new why
    → why ≡ BadStore table row → HasBadCause before.hall after.hall (bad.Store table row)
bad_store_cause before after turns old new why table row h is =
    let ended = subst (λ w. Replays before after turns old new w) is h in
    subst (λ (w : World). HasBadCause before.hall w.hall (bad.Store table row)) (sym ended.world)
    (stays_or_found _ _ before.hall (run before turns).world.hall (bad.Store table row)
    (run_stays_or_fails before turns ended.end.0.2 ended.allowed) ended.end.1)

pub bad_backup_cause : (before after : World) (turns : List Turn) (old new : Seen) (why : Why) (place : BackupBad) → Replays before after turns old new why
    → why ≡ BadBackup place → HasBadCause before.hall after.hall (bad.Backup place)
bad_backup_cause before after turns old new why place h is =
    let ended = subst (λ w. Replays before after turns old new w) is h in
    subst (λ (w : World). HasBadCause before.hall w.hall (bad.Backup place)) (sym ended.world)
    (stays_or_found _ _ before.hall (run before turns).world.hall (bad.Backup place)
    (run_stays_or_fails before turns ended.end.0.2 ended.allowed) ended.end.1)
