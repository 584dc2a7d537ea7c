-- Faults of keepers, as ends of a run.
use Rattle.std.specs.Global.{Vec}
use Rattle.std.proofs.Common.{◌≡◌, ℕ, inl, inr, Bool, true, false, List, [], ◌∷◌, Option, Some, None, option_map, IfSome, Result, Ok, Err, IfOk, IfErr, OnOk, refl, sym, ap, subst, ◌∙◌}
use Rattle.keeper_api.specs.Batch.{changed, held_after}
use Rattle.keeper_api.specs.Keeping.{HasFaultCause, IsBeforeOrAfter, IsOnly, Stays, UnlessFailed}
use Rattle.keeper_api.specs.Rows.{Rows}
use Rattle.keeper_api.specs.declared.fault.KeepFault.{KeepFault}
use Rattle.keeper_api.specs.declared.fault.KeepFault.TheVariants as keep
use Rattle.keeper_api.specs.declared.rows.Change.{Change}
use Rattle.keeper_api.specs.declared.rows.Row.{Row}
use Rattle.table_reading.specs.Tables.{rows_in}
use Rattle.remote_target.specs.declared.call.CallOutcome.{CallOutcome}
use Rattle.remote_sending.specs.declared.fault.SendFault.{SendFault}
use Rattle.remote_sending.specs.declared.fault.SendFault.TheVariants as fault
use Rattle.remote_sending.specs.declared.outbox.OutboxCall.{OutboxCall}
use Rattle.remote_sending.specs.declared.sending.TrfcWhy.{TrfcWhy}
use Rattle.remote_sending.specs.declared.sending.TrfcWhy.TheVariants.{Done, BadWords, SinkFault, SystemFault, OutboxFault, BadRow, NoMemory}
use Rattle.remote_sending.specs.Outbox.{first_bad, first_bad_from, outbox_change, with_call}
use Rattle.remote_sending.specs.Growing.{AreCallsOf}
use Rattle.remote_sending.specs.Sends.{IsOutboxEnd, IsKeeperEnd, IsRowsEnd, IsSystemEnd, OnBadRow, RisesIf, UnlessOutboxFault, ended_as, is_outbox_fault}
use Rattle.remote_sending.specs.Sends.{is_system_fault, outbox_fault, system_fault, why_behind}
use Rattle.remote_sending.proofs.Reading.{bad_read_at, calls_read}
use Rattle.remote_sending.proofs.Spelled.{Spell}

-- ---- a commit

held_stored : (held : Option Rows) (tid text : List ℕ) (o : Option CallOutcome)
    → held_after (outbox_change tid text o ∷ []) held ≡ option_map (with_call tid text o) held
held_stored None tid text o = refl
held_stored (Some rows) tid text o = refl

pub stored_done : (r : Result Unit KeepFault) (held new : Option Rows) (batch : List Change) (tid text : List ℕ) (o : Option CallOutcome)
    → batch ≡ outbox_change tid text o ∷ []
    → OnOk r (new ≡ held_after batch held) → OnOk r (new ≡ option_map (with_call tid text o) held)
stored_done (Ok u) held new batch tid text o is h = h ∙ ap (λ b. held_after b held) is ∙ held_stored held tid text o
stored_done (Err e) held new batch tid text o is h = tt

pub stored_either : (held : Option Rows) (may : Rows → Type 0) (batch : List Change) (tid text : List ℕ) (o : Option CallOutcome)
    → batch ≡ outbox_change tid text o ∷ []
    → IfSome held (λ rows. (left : Rows) → may left → IsBeforeOrAfter rows (changed batch rows) left)
    → IfSome held (λ rows. (left : Rows) → may left → IsBeforeOrAfter rows (with_call tid text o rows) left)
stored_either None may batch tid text o is h = tt
stored_either (Some rows) may batch tid text o is h = λ left at. subst (λ b. IsBeforeOrAfter rows (changed b rows) left) is (h left at)

pub nothing_stored : (held : Option Rows) (may : Rows → Type 0) (tid text : List ℕ) (o : Option CallOutcome) → IfSome held (λ rows. IsOnly rows may)
    → IfSome held (λ rows. (left : Rows) → may left → IsBeforeOrAfter rows (with_call tid text o rows) left)
nothing_stored None may tid text o only = tt
nothing_stored (Some rows) may tid text o only = λ left at. inl (only.alone left at)

-- ---- a keeper's fault

pub outbox_no_bad : (e : KeepFault) (f : SendFault) (P : ℕ → ℕ → Type 0) → f ≡ outbox_fault e → OnBadRow (why_behind f) P
outbox_no_bad keep.Failed f P is = subst (λ f. OnBadRow (why_behind f) P) (sym is) tt
outbox_no_bad keep.NoMemory f P is = subst (λ f. OnBadRow (why_behind f) P) (sym is) tt

pub outbox_stays : (T : Type 0) (e : KeepFault) (f : SendFault) (P : Type 0) → f ≡ outbox_fault e → UnlessFailed {T = T} (Err e) P
    → UnlessOutboxFault (why_behind f) P
outbox_stays T keep.Failed f P is h = subst (λ f. UnlessOutboxFault (why_behind f) P) (sym is) tt
outbox_stays T keep.NoMemory f P is h = subst (λ f. UnlessOutboxFault (why_behind f) P) (sym is) h

pub outbox_rises : {T : Type 0} (e : KeepFault) (f : SendFault) (before now : ℕ) → f ≡ outbox_fault e → HasFaultCause {T = T} before now (Err e)
    → RisesIf (is_outbox_fault (why_behind f)) before now
outbox_rises keep.Failed f before now is h = subst (λ f. RisesIf (is_outbox_fault (why_behind f)) before now) (sym is) h.failed
outbox_rises keep.NoMemory f before now is h = subst (λ f. RisesIf (is_outbox_fault (why_behind f)) before now) (sym is) h.quiet

pub outbox_ends : (e : KeepFault) (f : SendFault) → f ≡ outbox_fault e → IsOutboxEnd (why_behind f)
outbox_ends keep.Failed f is = subst (λ f. IsOutboxEnd (why_behind f)) (sym is) tt
outbox_ends keep.NoMemory f is = subst (λ f. IsOutboxEnd (why_behind f)) (sym is) tt

pub keeper_ends : (e : KeepFault) (f : SendFault) → f ≡ outbox_fault e → IsKeeperEnd (why_behind f)
keeper_ends keep.Failed f is = subst (λ f. IsKeeperEnd (why_behind f)) (sym is) tt
keeper_ends keep.NoMemory f is = subst (λ f. IsKeeperEnd (why_behind f)) (sym is) tt

pub system_rises : {T : Type 0} (e : KeepFault) (f : SendFault) (before now : ℕ) → f ≡ system_fault e → HasFaultCause {T = T} before now (Err e)
    → RisesIf (is_system_fault (why_behind f)) before now
system_rises keep.Failed f before now is h = subst (λ f. RisesIf (is_system_fault (why_behind f)) before now) (sym is) h.failed
system_rises keep.NoMemory f before now is h = subst (λ f. RisesIf (is_system_fault (why_behind f)) before now) (sym is) h.quiet

pub system_ends : (e : KeepFault) (f : SendFault) → f ≡ system_fault e → IsSystemEnd (why_behind f)
system_ends keep.Failed f is = subst (λ f. IsSystemEnd (why_behind f)) (sym is) tt
system_ends keep.NoMemory f is = subst (λ f. IsSystemEnd (why_behind f)) (sym is) tt

-- ---- rows that were read

pub unless_outbox : (why : TrfcWhy) (P : Type 0) → P → UnlessOutboxFault why P
unless_outbox Done P h = h
unless_outbox BadWords P h = h
unless_outbox SinkFault P h = h
unless_outbox SystemFault P h = h
unless_outbox OutboxFault P h = tt
unless_outbox (BadRow table row) P h = h
unless_outbox NoMemory P h = h

pub rows_calm : (why : TrfcWhy) (before now : ℕ) → IsRowsEnd why → now ≡ before → RisesIf (is_outbox_fault why) before now
rows_calm Done before now h same = same
rows_calm BadWords before now h same = absurd h
rows_calm SinkFault before now h same = absurd h
rows_calm SystemFault before now h same = absurd h
rows_calm OutboxFault before now h same = absurd h
rows_calm (BadRow table row) before now h same = same
rows_calm NoMemory before now h same = same

pub rows_end : (why : TrfcWhy) → IsRowsEnd why → IsOutboxEnd why
rows_end Done h = tt
rows_end BadWords h = absurd h
rows_end SinkFault h = absurd h
rows_end SystemFault h = absurd h
rows_end OutboxFault h = tt
rows_end (BadRow table row) h = tt
rows_end NoMemory h = tt

pub all_calls_read : (r : Result (Vec OutboxCall) SendFault) (held : Option Rows) (rows slice : List Row) → slice ≡ rows → IfSome held (λ h. rows ≡ rows_in h 0)
    → IfOk r (λ calls. Spell slice calls.items) → IfOk r (λ calls. IfSome held (λ h. AreCallsOf h calls.items))
all_calls_read (Ok calls) held rows slice same all h = calls_read held rows slice calls.items same all h
all_calls_read (Err e) held rows slice same all h = tt

bad_row_read : (why : TrfcWhy) (held : Option Rows) (rows slice : List Row) → slice ≡ rows → IfSome held (λ h. rows ≡ rows_in h 0)
    → OnBadRow why (λ table row. (table ≡ 0) × (first_bad_from 1 slice ≡ Some row))
    → OnBadRow why (λ table row. (table ≡ 0) × IfSome held (λ h. first_bad h ≡ Some row))
bad_row_read Done held rows slice same all h = tt
bad_row_read BadWords held rows slice same all h = tt
bad_row_read SinkFault held rows slice same all h = tt
bad_row_read SystemFault held rows slice same all h = tt
bad_row_read OutboxFault held rows slice same all h = tt
bad_row_read (BadRow table row) held rows slice same all h = (h.0, bad_read_at held rows slice row same all h.1)
bad_row_read NoMemory held rows slice same all h = tt

pub bad_read_told : (why : TrfcWhy) (held : Option Rows) (rows slice : List Row) → slice ≡ rows → IfSome held (λ h. rows ≡ rows_in h 0)
    → OnBadRow why (λ table row. (table ≡ 0) × (first_bad_from 1 slice ≡ Some row))
    → OnBadRow why (λ table row. (table ≡ 0) × IfSome held (λ h. first_bad h ≡ Some row))
bad_read_told why held rows slice same all h = bad_row_read why held rows slice same all h

-- what was read is held still
pub kept_calls : (r : Result (Vec OutboxCall) SendFault) (K : Type 0) (held : K → Option Rows) (is_open : K → Type 0) (has_room : K → List Change → Type 0)
    (old new : K)
    → UnlessOutboxFault (ended_as r) (Stays held is_open has_room old new) → IfOk r (λ calls. IfSome (held old) (λ h. AreCallsOf h calls.items))
    → IfOk r (λ calls. IfSome (held new) (λ h. AreCallsOf h calls.items))
kept_calls (Ok calls) K held is_open has_room old new stays h = subst (λ (m : Option Rows). IfSome m (λ h. AreCallsOf h calls.items)) (sym stays.rows) h
kept_calls (Err e) K held is_open has_room old new stays h = tt
