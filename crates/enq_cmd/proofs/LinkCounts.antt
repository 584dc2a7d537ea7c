-- The counts of a link, call by call, can be found where it is known that there are some.
use Rattle.std.proofs.Common.{◌≡◌, ◌⊎◌, inl, inr, ℕ, zero, suc, ◌≤◌, ◌<◌, Bool, true, false, List, [], ◌∷◌, refl, subst, arith}
use Rattle.std.proofs.Math.Bool.{Bool-set}
use Rattle.std.proofs.Math.Logic.{∥∥₁_elim}
use Rattle.std.proofs.lemmas.Bool.{cases_lt}
use Rattle.enq_base.specs.Causes.{Rose, one_more}
use Rattle.enq_base.specs.declared.refusal.Refusal.TheVariants as refusal
use Rattle.hall_calls.specs.Serving.{HasLinkCause}
use Rattle.hall_model.specs.Calls.{call_of, renews_replica}
use Rattle.hall_model.specs.Devices.{is_doubt}
use Rattle.hall_model.specs.declared.command.PastEntry.{PastEntry}
use Rattle.hall_model.specs.declared.command.Reply.{Reply}
use Rattle.hall_model.specs.declared.command.Reply.TheVariants as reply
use Rattle.script_runner.specs.Faults.{NoneTells, is_link_fault}
use Rattle.script_runner.specs.Replicas.{AreLater, CountsLink, CountsLinkEach, IsLost, LinkCounts}

-- ---- what can be decided

abbrev pub Decided : Type 0 → Type 0
Decided P = P ⊎ (P → ⊥)

-- what holds of none doesn't hold
pub never : {P : Type 0} → ∥ P ∥₁ → (P → ⊥) → ⊥
never h none = let wrong : true ≡ false = ∥∥₁_elim h (Bool-set true false) (λ p. absurd (none p)) in absurd cc

-- what can be decided holds where it isn't said how
pub by_deciding : {P : Type 0} → Decided P → ∥ P ∥₁ → P
by_deciding (inl is) h = is
by_deciding (inr not) h = absurd (never h not)

as_decided : {P Q : Type 0} → Decided P → (P → Q) → (Q → P) → Decided Q
as_decided (inl is) to from = inl (to is)
as_decided (inr not) to from = inr (λ q. not (from q))

both : {P Q : Type 0} → Decided P → Decided Q → Decided (P × Q)
both (inl p) (inl q) = inl (p, q)
both (inl p) (inr none) = inr (λ h. none h.1)
both (inr none) q = inr (λ h. none h.0)

one_of : {P Q : Type 0} → Decided P → Decided Q → Decided (P ⊎ Q)
one_of (inl p) q = inl (inl p)
one_of (inr none) (inl q) = inl (inr q)
one_of {P} {Q} (inr none) (inr neither) = inr (λ h. elim h [ inl p ↦ none p | inr q ↦ neither q ])

where_so : {P Q : Type 0} → Decided P → Decided Q → Decided (P → Q)
where_so p (inl q) = inl (λ h. q)
where_so (inl p) (inr none) = inr (λ f. none (f p))
where_so (inr not) (inr none) = inl (λ h. absurd (not h))

at_most : (a b : ℕ) → Decided (a ≤ b)
at_most a b = elim (cases_lt b a) [ inl more ↦ inr (λ h. omega (arith, more, h)) | inr few ↦ inl few ]

is_true : (b : Bool) → Decided (b ≡ true)
is_true true = inl refl
is_true false = inr (λ e. absurd cc)

is_false : (b : Bool) → Decided (b ≡ false)
is_false true = inr (λ e. absurd cc)
is_false false = inl refl

-- ---- a number below another

last_or : (P : ℕ → Type 0) (n k : ℕ) → n < suc k → (P k → ⊥) → ((m : ℕ) → m < k → P m → ⊥) → P n → ⊥
last_or P n k low miss none h =
    elim (cases_lt n k) [
      | inl less ↦ none n less h
      | inr more ↦ let same : n ≡ k = omega (arith, low, more) in miss (subst P same h)
    ]

below : (P : ℕ → Type 0) → ((n : ℕ) → Decided (P n)) → (k : ℕ) → ((n : ℕ) × P n) ⊎ ((n : ℕ) → n < k → P n → ⊥)
below P test zero = inr (λ n low h. omega (arith, low))
below P test (suc k) =
    elim (test k) [
      | inl is ↦ inl (k, is)
      | inr miss ↦ elim (below P test k) [ inl found ↦ inl found | inr none ↦ inr (λ n low h. last_or P n k low miss none h) ]
    ]

some_below : (P : ℕ → Type 0) → ((n : ℕ) → Decided (P n)) → (k : ℕ) → ((n : ℕ) → P n → n ≤ k) → Decided ((n : ℕ) × P n)
some_below P test k bound =
    elim (below P test (suc k)) [
      | inl found ↦ inl found
      | inr none ↦ inr (λ h. none h.0 (omega (arith, bound h.0 h.1)) h.1)
    ]

-- ---- the counts of one call

later : (a b : LinkCounts) → Decided (AreLater a b)
later a b = as_decided (both (at_most a.faults b.faults) (at_most a.refusals b.refusals)) (λ h. record { faults = h.0; refusals = h.1 })
    (λ h. (h.faults, h.refusals))

cause : (a b : ℕ) (r : Reply) → Decided (HasLinkCause a b r)
cause a b (reply.Refused refusal.LinkFault) = at_most (one_more a) b
cause a b _ = inl tt

lost : (attached : Bool) (e : PastEntry) → Decided (IsLost attached e)
lost attached e =
    as_decided (both (is_true attached)
    (both (is_false e.after.attached) (both (is_false (renews_replica (call_of e.command))) (is_false (is_doubt e.after.condition)))))
    (λ h. record { before = h.0; now = h.1.0; other = h.1.1.0; calm = h.1.1.1 }) (λ h. (h.before, (h.now, (h.other, h.calm))))

of_call : (attached : Bool) (e : PastEntry) (a b : LinkCounts) → Decided (CountsLink attached e a b)
of_call attached e a b =
    as_decided (both (later a b) (both (cause a.faults b.faults e.reply)
    (where_so (lost attached e) (one_of (at_most (one_more a.faults) b.faults) (at_most (one_more a.refusals) b.refusals)))))
    (λ h. record { later = h.0; failed = h.1.0; lost = h.1.1 }) (λ h. (h.later, (h.failed, h.lost)))

-- ---- those of all calls

pub counts_later : (attached : Bool) (past : List PastEntry) (a b : LinkCounts) → CountsLinkEach attached past a b → AreLater a b
counts_later attached [] a b h = h
counts_later attached (e ∷ past) a b h =
    let rest = counts_later e.after.attached past h.0 b h.1.1 in
    record { faults = omega (arith, h.1.0.later.faults, rest.faults); refusals = omega (arith, h.1.0.later.refusals, rest.refusals) }

abbrev counts : ℕ → ℕ → LinkCounts
counts faults refusals = record { faults = faults; refusals = refusals }

-- the counts between a call and those behind it
abbrev Between : Bool → PastEntry → List PastEntry → (a b : LinkCounts) → ℕ → ℕ → Type 0
Between attached e past a b f r = CountsLink attached e a (counts f r) × CountsLinkEach e.after.attached past (counts f r) b

each : (past : List PastEntry) (attached : Bool) (a b : LinkCounts) → Decided (CountsLinkEach attached past a b)
each [] attached a b = later a b
each (e ∷ past) attached a b =
    as_decided
    (some_below (λ f. (r : ℕ) × Between attached e past a b f r)
    (λ f. some_below (Between attached e past a b f) (λ r. both (of_call attached e a (counts f r)) (each past e.after.attached (counts f r) b)) b.refusals
    (λ r h. (counts_later e.after.attached past (counts f r) b h.1).refusals))
    b.faults
    (λ f h. (counts_later e.after.attached past (counts f h.0) b h.1.1).faults))
    (λ h. (counts h.0 h.1.0, (h.1.1.0, h.1.1.1)))
    (λ h. (h.0.faults, (h.0.refusals, (h.1.0, h.1.1))))

pub counts_found : (attached : Bool) (past : List PastEntry) (a b : LinkCounts) → ∥ CountsLinkEach attached past a b ∥₁ → CountsLinkEach attached past a b
counts_found attached past a b h = by_deciding (each past attached a b) h

-- ---- a link that didn't fail

quiet_reply : (a b : ℕ) (r : Reply) → HasLinkCause a b r → (Rose a b → ⊥) → is_link_fault r ≡ false
quiet_reply a b (reply.Refused refusal.LinkFault) h quiet = absurd (quiet h)
quiet_reply a b _ h quiet = refl

quiet_first : (a b c : ℕ) → b ≤ c → (Rose a c → ⊥) → Rose a b → ⊥
quiet_first a b c more quiet rose = quiet (omega arith)

quiet_rest : (a b c : ℕ) → a ≤ b → (Rose a c → ⊥) → Rose b c → ⊥
quiet_rest a b c more quiet rose = quiet (omega arith)

-- where its count didn't rise no call was answered that it did
pub quiet_each : (attached : Bool) (past : List PastEntry) (a b : LinkCounts) → CountsLinkEach attached past a b → (Rose a.faults b.faults → ⊥)
    → NoneTells is_link_fault past
quiet_each attached [] a b h quiet = refl
quiet_each attached (e ∷ past) a b h quiet =
    let behind = counts_later e.after.attached past h.0 b h.1.1 in
    rw (quiet_reply a.faults h.0.faults e.reply h.1.0.failed (quiet_first a.faults h.0.faults b.faults behind.faults quiet))
    (quiet_each e.after.attached past h.0 b h.1.1 (quiet_rest a.faults h.0.faults b.faults h.1.0.later.faults quiet))
