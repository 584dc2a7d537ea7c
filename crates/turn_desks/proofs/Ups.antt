-- Whether the server is up, as the last call of its history tells it.
use Rattle.std.proofs.Common.{◌≡◌, ℕ, Bool, true, false, List, [], ◌∷◌, ◌++◌, refl, sym, ap, ◌∙◌, subst}
use Rattle.std.specs.Prelude.{if◌then◌else◌}
use Rattle.std.proofs.lemmas.List.Sums.{fold-append}
use Rattle.enq_base.specs.declared.condition.Condition.TheVariants.{Up}
use Rattle.hall_model.specs.Devices.{DeviceOutcome, IsAllowed}
use Rattle.hall_model.specs.History.{IsStep, Served, is_unrecorded, past_entry, served, step, takes_flight, with_entry}
use Rattle.hall_model.specs.State.{State}
use Rattle.hall_model.specs.declared.command.Command.{Command}
use Rattle.hall_model.specs.declared.command.PastEntry.{PastEntry}
use Rattle.hall_model.specs.declared.command.Reply.{Reply}
use Rattle.hall_calls.proofs.lemmas.Replies.{unnoted_same}
use Rattle.order_laws.specs.Behind.{is_up, up_after}

-- the history tells whether the server is up
abbrev TellsUp : State → Type 0
TellsUp s = is_up s.condition ≡ up_after s.past

-- it does before the first call
pub up_first : (s : State) → s.past ≡ [] → s.condition ≡ Up → is_up s.condition ≡ up_after s.past
up_first s none up = ap is_up up ∙ sym (ap up_after none)

up_more : (past : List PastEntry) (e : PastEntry) → up_after (past ++ e ∷ []) ≡ is_up e.after.condition
up_more past e = fold-append (λ (up : Bool) (x : PastEntry). is_up x.after.condition) true past (e ∷ [])

either : (P : Type 0) (b : Bool) → (b ≡ true → P) → (b ≡ false → P) → P
either P true f g = f refl
either P false f g = g refl

stepped_up : (o : DeviceOutcome) (s : State) (n : ℕ) (c : Command) → IsAllowed o s c → TellsUp s → TellsUp (step o s n c).state
stepped_up o s n c allowed h =
    let r = served o s c in
    let entered : Served = record r { state = with_entry n c (takes_flight o) r } in
    either (TellsUp (step o s n c).state) (is_unrecorded r.reply)
    (λ off. let stepped : step o s n c ≡ r = ap (λ b. if b then r else entered) off in
    let same : (step o s n c).state ≡ s = ap (λ (x : Served). x.state) stepped ∙ unnoted_same o s c allowed.possible.lost off in
    subst TellsUp (sym same) h)
    (λ on. let stepped : step o s n c ≡ entered = ap (λ b. if b then r else entered) on in
    subst (λ (x : Served). TellsUp x.state) (sym stepped) (sym (up_more r.state.past (past_entry n c (takes_flight o) r))))

-- and behind one call more
pub up_step : (s t : State) (n : ℕ) (c : Command) (r : Reply) → IsStep s t n c r → is_up s.condition ≡ up_after s.past → is_up t.condition ≡ up_after t.past
up_step s t n c r h up = subst (λ (x : Served). TellsUp x.state) (sym h.same) (stepped_up h.outcome s n c h.allowed up)
