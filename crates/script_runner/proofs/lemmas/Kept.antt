-- The counts of the link, and the replica that follows, call by call.
use Rattle.std.proofs.Common.{◌≡◌, inl, inr, ℕ, ◌≤◌, Bool, true, false, List, [], ◌∷◌, ◌++◌, refl, sym, ap, ◌∙◌, subst, arith}
use Rattle.std.specs.Prelude.{if◌then◌else◌, Option}
use Rattle.enq_base.specs.declared.refusal.Refusal.TheVariants as refusal
use Rattle.enq_server.specs.Replica.{IsLater, ReplicaView}
use Rattle.hall_laws.proofs.keeping.Unchanged.{served-past}
use Rattle.hall_calls.proofs.lemmas.Replies.{unnoted_same}
use Rattle.hall_model.specs.Calls.{call_of, renews_replica}
use Rattle.hall_model.specs.Devices.{DeviceOutcome, IsAllowed}
use Rattle.hall_model.specs.History.{IsStep, Served, is_unrecorded, past_entry, served, step, takes_flight, with_entry}
use Rattle.hall_calls.specs.Serving.{HasLinkCause, LosesOnly}
use Rattle.hall_model.specs.State.{State}
use Rattle.hall_model.specs.declared.command.Command.{Command}
use Rattle.hall_model.specs.declared.command.PastEntry.{PastEntry}
use Rattle.hall_model.specs.declared.command.Reply.{Reply}
use Rattle.hall_model.specs.declared.command.Reply.TheVariants as reply
use Rattle.lock_entry.specs.declared.entry.Entry.{Entry}
use Rattle.script_runner.proofs.Counted.{rose_from}
use Rattle.script_runner.specs.Replicas.{AreLater, CountsLink, CountsLinkEach, GoesOnLinked, HasLinked, LinkCounts, OneRose, follows_behind, link_counts}

-- ---- counts

pub same_counts : (a : LinkCounts) → AreLater a a
same_counts a = record { faults = omega arith; refusals = omega arith }

later_on : (a b c : LinkCounts) → AreLater a b → AreLater b c → AreLater a c
later_on a b c h k = record { faults = omega (arith, h.faults, k.faults); refusals = omega (arith, h.refusals, k.refusals) }

pub later_counts : {L : Type 0} (applied : L → Option (List Entry)) (faults refusals : L → ℕ) (old new : ReplicaView L)
    → IsLater applied faults refusals old new → AreLater (link_counts faults refusals old.link) (link_counts faults refusals new.link)
later_counts applied faults refusals old new h = record { faults = h.faults_later; refusals = h.refusals_later }

one_from : (a b c : LinkCounts) → AreLater a b → OneRose b c → OneRose a c
one_from a b c h (inl rose) = inl (rose_from a.faults b.faults c.faults h.faults rose)
one_from a b c h (inr rose) = inr (rose_from a.refusals b.refusals c.refusals h.refusals rose)

cause_from : (a b c : ℕ) (r : Reply) → a ≤ b → HasLinkCause b c r → HasLinkCause a c r
cause_from a b c (reply.Refused refusal.LinkFault) h rose = rose_from a b c h rose
cause_from a b c _ h cause = tt

-- what holds of a call from some counts on holds from earlier ones on
counts_from : (attached : Bool) (e : PastEntry) (a b c : LinkCounts) → AreLater a b → CountsLink attached e b c → CountsLink attached e a c
counts_from attached e a b c h k = record {
  later = later_on a b c h k.later;
  failed = cause_from a.faults b.faults c.faults e.reply h.faults k.failed;
  lost = λ lost. one_from a b c h (k.lost lost);
}

-- counts may rise behind the last of them
each_later : (attached : Bool) (past : List PastEntry) (a b c : LinkCounts) → CountsLinkEach attached past a b → AreLater b c → CountsLinkEach attached past a c
each_later attached [] a b c h k = later_on a b c h k
each_later attached (e ∷ past) a b c h k = (h.0, (h.1.0, each_later e.after.attached past h.0 b c h.1.1 k))

each_more : (attached : Bool) (past : List PastEntry) (e : PastEntry) (a b c : LinkCounts) → CountsLinkEach attached past a b
    → CountsLink (follows_behind attached past) e b c → CountsLinkEach attached (past ++ e ∷ []) a c
each_more attached [] e a b c h k = (c, (counts_from attached e a b c h k, same_counts c))
each_more attached (x ∷ past) e a b c h k = (h.0, (h.1.0, each_more x.after.attached past e h.0 b c h.1.1 k))

behind_last : (attached : Bool) (past : List PastEntry) (e : PastEntry) → follows_behind attached (past ++ e ∷ []) ≡ e.after.attached
behind_last attached [] e = refl
behind_last attached (x ∷ past) e = behind_last x.after.attached past e

-- ---- one call more

either : (P : Type 0) (b : Bool) → (b ≡ true → P) → (b ≡ false → P) → P
either P true f g = f refl
either P false f g = g refl

-- a replica that followed is lost between these states only where a count rose
abbrev Loses : Command → State → State → LinkCounts → LinkCounts → Type 0
Loses c s t a b = renews_replica (call_of c) ≡ false → LosesOnly a.faults b.faults a.refusals b.refusals s t

module _ (s : State) (o : DeviceOutcome) (n : ℕ) (c : Command) (a b : LinkCounts) (allowed : IsAllowed o s c) (later : AreLater a b)
    (attached : Bool) (first : LinkCounts) (h : HasLinked attached first s a) where
  abbrev made : Served
  made = served o s c

  abbrev entered : Served
  entered = record (served o s c) { state = with_entry n c (takes_flight o) (served o s c) }

  noted_step : HasLinkCause a.faults b.faults entered.reply → Loses c s entered.state a b → HasLinked attached first entered.state b
  noted_step cause loses =
      let e = past_entry n c (takes_flight o) made in
      let counts : CountsLink (follows_behind attached s.past) e a b = record {
        later = later;
        failed = cause;
        lost = λ lost. loses lost.other (sym h.follows ∙ lost.before) lost.now lost.calm;
      } in
      record {
        counted =
            subst (λ past. CountsLinkEach attached (past ++ e ∷ []) first b) (sym (served-past o s c))
            (each_more attached s.past e first a b h.counted counts);
        follows = behind_last attached made.state.past e;
      }

  linked_step : HasLinkCause a.faults b.faults (step o s n c).reply → Loses c s (step o s n c).state a b → HasLinked attached first (step o s n c).state b
  linked_step cause loses =
      either (HasLinked attached first (step o s n c).state b) (is_unrecorded made.reply)
      (λ off. let stepped : step o s n c ≡ made = ap (λ x. if x then made else entered) off in
      let same : (step o s n c).state ≡ s = ap (λ (x : Served). x.state) stepped ∙ unnoted_same o s c allowed.possible.lost off in
      subst (λ t. HasLinked attached first t b) (sym same)
      (record { counted = each_later attached s.past first a b h.counted later; follows = h.follows }))
      (λ on. let stepped : step o s n c ≡ entered = ap (λ x. if x then made else entered) on in
      subst (λ (x : Served). HasLinked attached first x.state b) (sym stepped)
      (noted_step (subst (λ (x : Served). HasLinkCause a.faults b.faults x.reply) stepped cause) (subst (λ (x : Served). Loses c s x.state a b) stepped loses)))

pub linked_call : (s t : State) (n : ℕ) (c : Command) (r : Reply) (a b : LinkCounts) → IsStep s t n c r → AreLater a b → HasLinkCause a.faults b.faults r
    → Loses c s t a b → GoesOnLinked s t a b
linked_call s t n c r a b h later cause loses attached first before =
    let same : t ≡ (step h.outcome s n c).state = ap (λ (x : Served). x.state) h.same in
    let told : r ≡ (step h.outcome s n c).reply = ap (λ (x : Served). x.reply) h.same in
    subst (λ x. HasLinked attached first x b) (sym same)
    (linked_step s h.outcome n c a b h.allowed later attached first before (subst (HasLinkCause a.faults b.faults) told cause)
    (subst (λ x. Loses c s x a b) same loses))
