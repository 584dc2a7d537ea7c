-- Calls behind calls, and orders behind orders.
use Rattle.std.proofs.Common.{◌≡◌, ℕ, Bool, true, false, List, [], ◌∷◌, ◌++◌, refl, sym, subst, append_assoc, append-nil}
use Rattle.hall_model.specs.declared.command.Command.{Command}
use Rattle.hall_model.specs.declared.command.Command.TheVariants as command
use Rattle.order_workers.specs.Orders.{Made, made, Leads, Stays, Then, Goes, Begins, Does, Turns, Untaken, Drops, LastDone}
use Rattle.hall_model.specs.Calls.{post_of, take_of}
use Rattle.order_workers.specs.Orders.{DidOrder, DidTaken, DidWork, is_idle, is_order, is_refused, other}
use Rattle.order_workers.specs.declared.desk.Look.{Look}
use Rattle.order_workers.specs.declared.worker.Order.{Order}
use Rattle.order_workers.specs.declared.worker.Order.TheVariants.{Done, Idle, Refused}
use Rattle.ledger_steps.specs.declared.part.Part.{Part}
use Rattle.ledger_steps.specs.declared.part.Part.TheVariants.{V1, V2}

pub apart : (b : Bool) → b ≡ true → b ≡ false → ⊥
apart true h k = cc
apart false h k = cc

module _ {K : Type 0} (leads : K → Made → K → Type 0) where
  leads_one : (k l : K) (m : Made) → leads k m l → Leads leads k (m ∷ []) l
  leads_one k l m h = Then k k l [] m (Stays k) h

  leads_more : (k l n : K) (xs ys : List Made) → Leads leads k xs l → Leads leads l ys n → Leads leads k (xs ++ ys) n
  leads_more k l n xs ys h (Stays x) = subst (λ cs. Leads leads k cs n) (sym (append-nil xs)) h
  leads_more k l n xs ys h (Then x m y cs c g one) =
      subst (λ all. Leads leads k all n) (append_assoc xs cs (c ∷ [])) (Then k m n (xs ++ cs) c (leads_more k l m xs cs h g) one)

  -- a take that gives no order, and isn't idle with the server up
  pub take_refused : (w : ℕ) (part : Part) (k l : K) (c : Command) (look : Look) → c ≡ take_of part w → leads k (made c look) l
      → is_order look.reply ≡ false → (is_idle look.reply ≡ true → look.is_up ≡ true → ⊥) → DidOrder leads w part k l Refused
  take_refused w part k l c look at h is idle =
      (made c look ∷ [], leads_one k l (made c look) h, Untaken (made c look) at is (λ i. idle i.1 i.2))

  pub take_idle : (w : ℕ) (part : Part) (k l : K) (c : Command) (look : Look) → c ≡ take_of part w → leads k (made c look) l
      → is_idle look.reply ≡ true → look.is_up ≡ true → DidOrder leads w part k l (Idle look.past)
  take_idle w part k l c look at h is up = (made c look, leads_one k l (made c look) h, (at, is, up))

  -- a take that gave an order, and what came of it
  pub taken_then : (w : ℕ) (part : Part) (k l n : K) (c : Command) (look : Look) (o : Order) → c ≡ take_of part w → leads k (made c look) l
      → is_order look.reply ≡ true → DidTaken leads w part l n o → DidOrder leads w part k n o
  taken_then w part k l n c look Done at h is d =
      (made c look, d.0, leads_more k l n _ _ (leads_one k l (made c look) h) d.1, (at, is), d.2, d.3)
  taken_then w part k l n c look (Idle past) at h is d = absurd d
  taken_then w part k l n c look Refused at h is d =
      (made c look ∷ d.0, leads_more k l n _ _ (leads_one k l (made c look) h) d.1, d.2 (made c look) (at, is))

  -- an order that is done, and the server is up
  pub post_done : (w : ℕ) (part : Part) (k l : K) (c : Command) (look : Look) → c ≡ post_of part w → leads k (made c look) l
      → is_refused look.reply ≡ false → look.is_up ≡ true → DidTaken leads w part k l Done
  post_done w part k l c look at h is up = (made c look, leads_one k l (made c look) h, (at, is), up)

  -- one that is done, and the server isn't up
  pub post_last : (w : ℕ) (part : Part) (k l : K) (c : Command) (look : Look) → c ≡ post_of part w → leads k (made c look) l
      → is_refused look.reply ≡ false → look.is_up ≡ false → DidTaken leads w part k l Refused
  post_last w part k l c look at h is down =
      (made c look ∷ [], leads_one k l (made c look) h, λ take t. LastDone take (made c look) t (at, is) down)

  -- one that is refused, and dropped
  pub post_refused : (w : ℕ) (part : Part) (k l n : K) (c : Command) (look last : Look) → c ≡ post_of part w → leads k (made c look) l
      → leads l (made (command.DropOrder w) last) n → is_refused look.reply ≡ true → DidTaken leads w part k n Refused
  post_refused w part k l n c look last at h d is =
      let post = made c look in
      let drop = made (command.DropOrder w) last in
      (post ∷ drop ∷ [], Then k l n (post ∷ []) drop (leads_one k l post h) d, λ take t. Drops take post drop t at is refl)

  -- what a worker that is to go on has done
  abbrev pub HasGone : ℕ → Part → K → K → Type 0
  HasGone w part k l = (calls : List Made) × Leads leads k calls l × Goes w calls part

  pub gone_nowhere : (w : ℕ) (k : K) → HasGone w V1 k k
  gone_nowhere w k = ([], Stays k, Begins)

  pub gone_done : (w : ℕ) (part : Part) (k l n : K) → HasGone w part k l → DidOrder leads w part l n Done → HasGone w part k n
  gone_done w part k l n h d =
      (h.0 ++ d.0 ∷ d.1 ∷ [], leads_more k l n _ _ h.1 d.2, Does h.0 part d.0 d.1 h.2 d.3 d.4 d.5)

  pub gone_idle : (w : ℕ) (part next : Part) (past : ℕ) (k l n : K) → other part ≡ next → HasGone w part k l → DidOrder leads w part l n (Idle past)
      → HasGone w next k n
  gone_idle w part next past k l n turn h d =
      subst (λ p. HasGone w p k n) turn (h.0 ++ d.0 ∷ [], leads_more k l n _ _ h.1 d.1, Turns h.0 part d.0 h.2 d.2)

  pub works_stopped : (w : ℕ) (part : Part) (k l n : K) → HasGone w part k l → DidOrder leads w part l n Refused → DidWork leads w false k n
  works_stopped w part k l n h d =
      (h.0 ++ d.0, leads_more k l n _ _ h.1 d.1, record { done = h.0; last = d.0; part = part; goes = h.2; ends = d.2; all = refl })

  rested : (w past : ℕ) (k l n : K) → HasGone w V2 k l → DidOrder leads w V2 l n (Idle past) → DidWork leads w true k n
  rested w past k l n h d =
      (h.0 ++ d.0 ∷ [], leads_more k l n _ _ h.1 d.1, record { goes = Turns h.0 V2 d.0 h.2 d.2; before = h.0; take = d.0; all = refl; idle = d.2 })

  pub works_rested : (w : ℕ) (part : Part) (past : ℕ) (k l n : K) → part ≡ V2 → HasGone w part k l → DidOrder leads w part l n (Idle past)
      → DidWork leads w true k n
  works_rested w part past k l n is h d =
      rested w past k l n (subst (λ p. HasGone w p k l) is h) (subst (λ p. DidOrder leads w p l n (Idle past)) is d)
