use Rattle.std.proofs.Common.{◌≡◌, ◌⊎◌, inl, inr, ℕ, ◌+◌, ◌<◌, length, refl, sym, ap, subst}
use Rattle.std.specs.Prelude.{◌↔◌, Result, Ok, Err, IfErr, IsErrOf}
use Rattle.enq_base.specs.declared.refusal.Refusal.{Refusal}
use Rattle.enq_base.specs.declared.refusal.Refusal.TheVariants as refusal
use Rattle.lock_collector.specs.declared.collector.CollectFault.{CollectFault}
use Rattle.lock_collector.specs.declared.collector.CollectFault.TheVariants.{Full, NoMemory}
use Rattle.dialogue_session.specs.Private.{DialogueView, refused}
use Rattle.dialogue_session.proofs.dialogue.Dialogue.collect.Goals as goal

-- the container's answer tells that it would be too full, and so does the session's
told : (n : ℕ) (answer : Result Unit CollectFault) → (64 < n) ↔ IsErrOf answer (Full 64) → IfErr answer (λ f. (f ≡ Full 64) ⊎ (f ≡ NoMemory))
    → (64 < n) ↔ IsErrOf (refused answer) refusal.ContainerFull
told n (Ok done) full fault = (λ h. let e = full.0 h in absurd (cc), λ e. absurd (cc))
told n (Err (Full most)) full (inl e) = (λ h. refl, λ h. full.1 (ap Err e))
told n (Err (Full most)) full (inr e) = absurd (cc)
told n (Err NoMemory) full fault = (λ h. let e = full.0 h in absurd (cc), λ e. absurd (cc))

pub returns-clause-full : goal.returns-clause-full
returns-clause-full c =
    let n = length c.args.requests.now in
    let by_answer = told (length c.self.inside.collector + n) c.add.result c.add.ensures.full c.add.ensures.fault in
    subst (λ (d : DialogueView). (64 < length d.side.container + n) ↔ IsErrOf c.refused.result refusal.ContainerFull) c.self.view_is
    (subst (λ (r : Result Unit Refusal). (64 < length c.self.inside.collector + n) ↔ IsErrOf r refusal.ContainerFull) (sym c.refused.ensures) by_answer)
