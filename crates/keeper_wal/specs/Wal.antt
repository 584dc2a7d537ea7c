-- What a keeper over a journal keeps.
use Rattle.std.specs.Prelude.{◌≡◌, ◌⊎◌, ℕ, ◌+◌, ◌≤◌, ◌^◌, Bool, true, false, List, [], ◌∷◌, ◌++◌, length, refl, IsTrue}
use Rattle.std.specs.Prelude.{IfSome, Option, Some, None}
use Rattle.std.proofs.Common.{sym, inl, inr}
use Rattle.bk_disk.specs.Disk.{Follows}
use Rattle.enq_base.specs.Causes.{one_more}
use Rattle.keeper_api.specs.Batch.{changed, IsBatch}
use Rattle.keeper_api.specs.Keeping.{IsOnly}
use Rattle.keeper_api.specs.Rows.{Rows}
use Rattle.keeper_api.specs.declared.rows.Change.{Change}
use Rattle.keeper_wal.specs.Journal.{StandsForNoOther, SameRows, AllStandFor}
use Rattle.keeper_wal.specs.Opening.{IsOpened}
use Rattle.keeper_wal.specs.Spelling.{spelling, IsRecord}

-- the disk, the disk as it was left by the last commit or the last opening that went well, where the closed gate
-- stands, the rows, which before the first opening are those that stand on the disk, the rows that the waiting batch
-- would make, that batch as the journal will have it, how many calls the keeper failed itself, where the journal broke
-- as it was last read, whether it was ever opened, whether the last commit failed and nothing was opened since, and
-- whether calls are allowed
pub record WalView (D : Type 0) : Type 0 where
  pub disk : D
  pub since : D
  pub gate : ℕ
  pub rows : Rows
  pub made : Rows
  pub text : List ℕ
  pub faults : ℕ
  pub bad : Option ℕ
  pub is_known : Bool
  pub in_doubt : Bool
  pub is_open : Bool

-- the rows in memory, once they were read from the disk, and before that those on it
abbrev pub known : Bool → (in_memory on_disk : Rows) → Rows
known true in_memory on_disk = in_memory
known false in_memory on_disk = on_disk

-- the rows, where the disk tells what it holds
abbrev pub told : Bool → Rows → Option Rows
told true rows = Some rows
told false rows = None

-- the faults of the disk and the keeper's own
abbrev pub all_faults : {D : Type 0} → (D → ℕ) → WalView D → ℕ
all_faults faults k = faults k.disk + k.faults

-- the rows that are held, or where the last commit failed those that it would have made
abbrev pub IsOnHand : {D : Type 0} → WalView D → Rows → Type 0
IsOnHand k left = (left ≡ k.rows) ⊎ (IsTrue k.in_doubt × (left ≡ k.made))

-- Where the disk tells what it holds, an image stands for these rows, or they are on hand. One that stands for nothing
-- may leave any rows. It is an image of the disk as the last call that went well left it, since an opening may end for
-- want of memory behind a sync, and then leaves what could be left before.
abbrev pub Leaves : {D : Type 0} → Bool → (D → List ℕ → Type 0) → WalView D → Rows → Type 0
Leaves tells images k left = IsTrue tells → ((c : List ℕ) × images k.since c × StandsForNoOther c left)
    ⊎ IsOnHand k left

-- each image stands for what one of the remembered disk stands for
abbrev pub IsRemembered : {D : Type 0} → Bool → (D → List ℕ → Type 0) → D → D → Type 0
IsRemembered tells images since disk = IsTrue tells → Follows SameRows (images since) (images disk)

-- the journal, as read and in every image, stands for the rows, and may be written
abbrev pub IsReady : {D : Type 0} → (D → List ℕ) → (D → List ℕ → Type 0) → WalView D → Type 0
IsReady reads images k = IsOpened (reads k.disk) (images k.disk) k.gate k.rows

-- calls are allowed, and each image stands for the rows
pub record IsOpen {D : Type 0} (tells : Bool) (reads : D → List ℕ) (images : D → List ℕ → Type 0)
    (k : WalView D) : Type 0 where
  pub opened : k.is_open ≡ true
  pub was_read : k.is_known ≡ true
  pub sure : k.in_doubt ≡ false
  pub ready : IsTrue tells → IsReady reads images k
  pub stand : IsTrue tells → AllStandFor k.rows (images k.since)

-- what holds of the rows where they are told
pub if_told : (tells : Bool) (rows : Rows) (P : Rows → Type 0) → (IsTrue tells → P rows) → IfSome (told tells rows) P
if_told true rows P h = h refl
if_told false rows P h = tt

not_sure : {A : Type 0} (doubt : Bool) → doubt ≡ false → IsTrue doubt → A
not_sure true e h = cc
not_sure false e h = cc

-- a crash leaves the rows of an open keeper and no others
pub only_rows : {D : Type 0} (tells : Bool) (reads : D → List ℕ) (images : D → List ℕ → Type 0) (k : WalView D)
    → IsOpen tells reads images k → IsTrue tells → IsOnly k.rows (Leaves tells images k)
only_rows tells reads images k is t = record {
  itself = λ t. inr (inl refl);
  alone = λ left leaves. elim (leaves t) [
    | inl image ↦ sym (image.2 k.rows (is.stand t image.0 image.1))
    | inr (inl same) ↦ same
    | inr (inr made) ↦ not_sure k.in_doubt is.sure made.0
  ];
}

pub settled_rows : {D : Type 0} (tells : Bool) (reads : D → List ℕ) (images : D → List ℕ → Type 0) (k : WalView D)
    → IsOpen tells reads images k → IfSome (told tells k.rows) (λ rows. IsOnly rows (Leaves tells images k))
settled_rows tells reads images k is = if_told tells k.rows (λ rows. IsOnly rows (Leaves tells images k))
    (only_rows tells reads images k is)

pub held_rows_left : {D : Type 0} (tells : Bool) (images : D → List ℕ → Type 0) (k : WalView D)
    → IfSome (told tells k.rows) (λ rows. Leaves tells images k rows)
held_rows_left tells images k = if_told tells k.rows (λ rows. Leaves tells images k rows) (λ told t. inr (inl refl))

-- an open gate, the batch and a closed gate; nothing for a batch without changes
abbrev pub text_of : List Change → List ℕ
text_of [] = []
text_of (change ∷ changes) = 1 ∷ (spelling (change ∷ changes) ++ 0 ∷ [])

-- a batch waits, with the rows that it makes and its text
pub record HasRoom {D : Type 0} (k : WalView D) (batch : List Change) : Type 0 where
  pub made : k.made ≡ changed batch k.rows
  pub text : k.text ≡ text_of batch
  pub is_batch : IsBatch batch
  pub is_record : IsRecord batch

-- the journal has no place for the batch that waits
abbrev pub IsFull : {D : Type 0} → WalView D → Type 0
IsFull k = (1 ≤ length k.text) × (2 ^ 63 ≤ k.gate + length k.text)

-- one fault more where an offset is told
abbrev pub count_bad : Option ℕ → ℕ → ℕ
count_bad None count = count
count_bad (Some at) count = one_more count
