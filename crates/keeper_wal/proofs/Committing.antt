-- What a batch that is added makes of a journal.
use Rattle.std.proofs.Common.{◌≡◌, ◌⊎◌, ℕ, ◌≤◌, Bool, true, false, List, [], ◌∷◌, ◌++◌, length, refl, sym, subst, ◌∙◌, arith, inl, inr}
use Rattle.std.specs.Prelude.{IsTrue, IfSome}
use Rattle.gate_log.specs.Gates.{IsShut, IsAtRest}
use Rattle.gate_log.proofs.lemmas.Logs.{front-push, shut_stands}
use Rattle.keeper_api.specs.Batch.{changed}
use Rattle.keeper_api.specs.Keeping.{IsBeforeOrAfter, AreBothLeft}
use Rattle.keeper_api.specs.Rows.{Rows}
use Rattle.keeper_api.specs.declared.rows.Change.{Change}
use Rattle.keeper_wal.specs.Journal.{Stands, IsFront, IsLegal, grammar}
use Rattle.keeper_wal.specs.Spelling.{spelling}
use Rattle.keeper_wal.specs.Wal.{WalView, told, if_told, only_rows, Leaves, IsOnHand, IsReady, IsOpen, HasRoom, text_of}

has_text : (batch : List Change) → 1 ≤ length (text_of batch) → (text_of batch ≡ 1 ∷ (spelling batch ++ 0 ∷ [])) × (1 ≤ length batch)
has_text [] some = absurd (omega (arith, some))
has_text (c ∷ cs) some = (refl, omega arith)

module _ {D : Type 0} (reads : D → List ℕ) (images : D → List ℕ → Type 0) (k : WalView D) (batch : List Change) (room : HasRoom k batch)
    (some : 1 ≤ length k.text) where
  -- the text is the batch between its gates
  pub spelled : k.text ≡ 1 ∷ (spelling batch ++ 0 ∷ [])
  spelled = room.text ∙ (has_text batch (subst (λ (t : List ℕ). 1 ≤ length t) room.text some)).0

  legal : IsLegal batch
  legal = record { some = (has_text batch (subst (λ (t : List ℕ). 1 ≤ length t) room.text some)).1; is_batch = room.is_batch }

  next_front : (front : List ℕ) → IsFront front k.rows → IsFront (front ++ 1 ∷ spelling batch) (changed batch k.rows)
  next_front front is_front = front-push grammar front k.rows batch is_front room.is_record legal

  pub either : (ready : IsReady reads images k) (c : List ℕ) → IsShut ready.front c ⊎ IsShut (ready.front ++ 1 ∷ spelling batch) c → Stands c k.rows
      ⊎ Stands c (changed batch k.rows)
  either ready c (inl shut) = inl (shut_stands grammar ready.front c k.rows ready.is_front shut)
  either ready c (inr shut) =
      inr (shut_stands grammar (ready.front ++ 1 ∷ spelling batch) c (changed batch k.rows) (next_front ready.front ready.is_front) shut)

  -- the keeper after the batch is ready
  pub ready_after : (ready : IsReady reads images k) (new : WalView D) → new.rows ≡ k.made
      → IsAtRest (reads new.disk) (images new.disk) new.gate (ready.front ++ 1 ∷ spelling batch) → IsReady reads images new
  ready_after ready new made rest = record {
    front = ready.front ++ 1 ∷ spelling batch;
    is_front = subst (IsFront (ready.front ++ 1 ∷ spelling batch)) (sym (made ∙ room.made)) (next_front ready.front ready.is_front);
    at_rest = rest;
  }

-- what a crash leaves of a keeper that remembers the disk as it is, where each image stands for the rows before a batch or
-- after it, and so do those on hand
pub before_or_after : {D : Type 0} (tells : Bool) (images : D → List ℕ → Type 0) (batch : List Change) (rows : Rows) (new : WalView D) → new.since ≡ new.disk
    → ((left : Rows) → IsOnHand new left → IsBeforeOrAfter rows (changed batch rows) left)
    → (IsTrue tells → (c : List ℕ) → images new.disk c → Stands c rows ⊎ Stands c (changed batch rows))
    → IfSome (told tells rows) (λ held. (left : Rows) → Leaves tells images new left → IsBeforeOrAfter held (changed batch held) left)
before_or_after tells images batch rows new since on_hand either = if_told tells rows
    (λ held. (left : Rows) → Leaves tells images new left → IsBeforeOrAfter held (changed batch held) left) (λ t left leaves.
    elim (leaves t) [
      | inl c ↦ elim (either t c.0 (subst (λ d. images d c.0) since c.1)) [
        | inl before ↦ inl (sym (c.2 rows before))
        | inr after ↦ inr (sym (c.2 (changed batch rows) after))
      ]
      | inr hand ↦ on_hand left hand
    ])

-- what is on hand behind a commit that failed
pub failed_hand : {D : Type 0} (batch : List Change) (rows made : Rows) (new : WalView D) → made ≡ changed batch rows → new.rows ≡ rows → new.made ≡ made
    → (left : Rows) → IsOnHand new left → IsBeforeOrAfter rows (changed batch rows) left
failed_hand batch rows made new is same waits left (inl held) = inl (held ∙ same)
failed_hand batch rows made new is same waits left (inr doubt) = inr (doubt.1 ∙ waits ∙ is)

pub both_left : {D : Type 0} (tells : Bool) (images : D → List ℕ → Type 0) (batch : List Change) (rows made : Rows) (new : WalView D)
    → made ≡ changed batch rows → new.rows ≡ rows → new.made ≡ made → new.in_doubt ≡ true
    → IfSome (told tells rows) (λ held. AreBothLeft held (changed batch held) (Leaves tells images new))
both_left tells images batch rows made new is same waits doubt = if_told tells rows (λ held. AreBothLeft held (changed batch held) (Leaves tells images new))
    (λ t. record {
      before_left = λ t. inr (inl (sym same));
      after_left = λ t. inr (inr (doubt, sym (waits ∙ is)));
    })

-- what is on hand behind a commit that went well
pub done_hand : {D : Type 0} (batch : List Change) (rows : Rows) (new : WalView D) → new.rows ≡ changed batch rows → new.in_doubt ≡ false → (left : Rows)
    → IsOnHand new left → IsBeforeOrAfter rows (changed batch rows) left
done_hand batch rows new is sure left (inl held) = inr (held ∙ is)
done_hand batch rows new is sure left (inr doubt) = let h = doubt.0 in absurd cc

-- an open keeper that does nothing leaves the rows before
pub unchanged_leaves : {D : Type 0} (tells : Bool) (reads : D → List ℕ) (images : D → List ℕ → Type 0) (batch : List Change) (k : WalView D)
    → IsOpen tells reads images k
    → IfSome (told tells k.rows) (λ held. (left : Rows) → Leaves tells images k left → IsBeforeOrAfter held (changed batch held) left)
unchanged_leaves tells reads images batch k is =
    if_told tells k.rows (λ held. (left : Rows) → Leaves tells images k left → IsBeforeOrAfter held (changed batch held) left)
    (λ t left leaves. inl ((only_rows tells reads images k is t).alone left leaves))
