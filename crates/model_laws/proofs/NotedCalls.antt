-- What no call but some does, and what is put into the history.
use Rattle.std.proofs.Common.{◌≡◌, ℕ, Bool, true, false, refl, sym}
use Rattle.std.proofs.lemmas.Bool.{false≢true}
use Rattle.std.specs.Prelude.{if◌then◌else◌}
use Rattle.hall_model.specs.Calls.{Kills, FailsOver, Restarts, Attaches, Cancels, Resubmits, Call, LogsOn, OfSession, OfWorker, OfAdmin, restarts}
use Rattle.hall_model.specs.Devices.{MayRead, Reading, AsKnown, Shows, Reopens, Hands}
use Rattle.hall_model.specs.History.{Served, finds_flight, is_unrecorded, noted, with_entry}
use Rattle.hall_model.specs.State.{State}
use Rattle.hall_model.specs.declared.command.Command.{Command}

pub of_server : {P : Type 0} → true ≡ false → P
of_server e = absurd (false≢true (sym e))

-- what holds of a call and of its entry in the history holds of the step
pub by_noting : (Q : Served → Type 0) (line : ℕ) (c : Command) (taken : Bool) (r : Served) → Q r → Q (record r { state = with_entry line c taken r })
    → Q (noted line c taken r)
by_noting Q line c taken r off on =
    elim (is_unrecorded r.reply) as (λ b. Q (if b then r else record r { state = with_entry line c taken r })) [ true ↦ off | false ↦ on ]

-- only a restart reads the store anew
pub reads_anew : (taken : Bool) (s : State) (call : Call) → restarts call ≡ false → MayRead (Reopens taken) s call → ⊥
reads_anew taken s (LogsOn name user) off may = may
reads_anew taken s (OfSession name call) off may = may
reads_anew taken s (OfWorker worker call) off may = may
reads_anew taken s (OfAdmin Kills) off may = may
reads_anew taken s (OfAdmin FailsOver) off may = may
reads_anew taken s (OfAdmin Attaches) off may = may
reads_anew taken s (OfAdmin Restarts) off may = of_server off
reads_anew taken s (OfAdmin (Cancels unit)) off may = may
reads_anew taken s (OfAdmin (Resubmits unit)) off may = may

pub finds_none : (reading : Reading) (s : State) (call : Call) → restarts call ≡ false → MayRead reading s call → finds_flight reading ≡ false
finds_none AsKnown s call off may = refl
finds_none (Shows text) s call off may = refl
finds_none (Reopens taken) s call off may = absurd (reads_anew taken s call off may)
finds_none (Hands list) s call off may = refl

pub full_or : (P : Type 0) (b : Bool) → (b ≡ true → P) → (b ≡ false → P) → P
full_or P true f g = f refl
full_or P false f g = g refl
