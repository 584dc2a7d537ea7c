-- What a crash leaves of an open journal.
use Rattle.std.proofs.Common.{◌≡◌, ℕ, Bool, true, false, List, sym, subst}
use Rattle.std.specs.Prelude.{IsTrue}
use Rattle.gate_log.proofs.lemmas.Logs.{shut_stands, stands_once}
use Rattle.keeper_api.specs.Rows.{Rows}
use Rattle.keeper_wal.specs.Journal.{Stands, StandsForNoOther, AllStandFor, grammar}
use Rattle.keeper_wal.specs.Opening.{IsOpened}
use Rattle.keeper_wal.specs.Reading.{batch_at}
use Rattle.keeper_wal.specs.Wal.{WalView, IsReady, IsOpen}
use Rattle.keeper_wal.proofs.Records.{batch_reader}

-- bytes stand for one set of rows at most
pub one_rows : (bytes : List ℕ) (rows others : Rows) → Stands bytes rows → Stands bytes others → rows ≡ others
one_rows = stands_once grammar batch_at batch_reader

pub no_other : (bytes : List ℕ) (rows : Rows) → Stands bytes rows → StandsForNoOther bytes rows
no_other bytes rows stands others other = one_rows bytes others rows other stands

-- an opened journal stands for its rows
pub opened_stands : (bytes : List ℕ) (images : List ℕ → Type 0) (gate : ℕ) (rows : Rows) → IsOpened bytes images gate rows → Stands bytes rows
opened_stands bytes images gate rows o =
    shut_stands grammar o.front bytes rows o.is_front
    (record { byte = o.at_rest.byte; rest = o.at_rest.more; whole = o.at_rest.whole; closed = o.at_rest.closed })

-- and so does each image
pub image_stands : (bytes : List ℕ) (images : List ℕ → Type 0) (gate : ℕ) (rows : Rows) → IsOpened bytes images gate rows → (c : List ℕ) → images c
    → Stands c rows
image_stands bytes images gate rows o c left = subst (λ b. Stands b rows) (sym (o.at_rest.durable c left)) (opened_stands bytes images gate rows o)

-- a keeper whose journal is opened, and which remembers the disk as it is
pub is_open : {D : Type 0} (tells : Bool) (reads : D → List ℕ) (images : D → List ℕ → Type 0) (k : WalView D) → k.is_open ≡ true → k.is_known ≡ true
    → k.in_doubt ≡ false → k.since ≡ k.disk → (IsTrue tells → IsReady reads images k) → IsOpen tells reads images k
is_open tells reads images k opened was_read sure since ready = record {
  opened = opened;
  was_read = was_read;
  sure = sure;
  ready = ready;
  stand = λ t. subst (λ d. AllStandFor k.rows (images d)) (sym since) (image_stands (reads k.disk) (images k.disk) k.gate k.rows (ready t));
}
