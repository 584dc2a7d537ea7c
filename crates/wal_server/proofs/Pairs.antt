-- What is said of the rows that a stop may leave, said of the images of two disks.
use Rattle.std.proofs.Common.{ℕ, Bool, true, false, List, Option, refl, inl, inr}
use Rattle.std.specs.Prelude.{IsTrue, is_some}
use Rattle.enq_cmd.specs.Loading.{HasLoaded}
use Rattle.enq_cmd.specs.Main.{AreServed, HasLandscape, IsUnopened, SiteFound, SiteLeft, first_state}
use Rattle.enq_cmd.specs.Running.{HasThreads}
use Rattle.gate_log.specs.Grammars.{IsBytes}
use Rattle.hall_model.specs.Recall.{Made, state_after}
use Rattle.hall_model.specs.declared.command.PastEntry.{PastEntry}
use Rattle.keeper_api.specs.Rows.{Rows}
use Rattle.keeper_wal.specs.Journal.{Stands, IsBad}
use Rattle.keeper_wal.specs.Wal.{told}
use Rattle.keeper_wal.proofs.lemmas.Meaning.{meaning}
use Rattle.landscape.specs.declared.landscape.Landscape.{Landscape}
use Rattle.posting.specs.Reopening.{HasStood}
use Rattle.script_actors.specs.declared.drawing.Drawing.{Drawing}
use Rattle.script_runner.specs.Replay.{Seen}
use Rattle.script_runner.specs.Replicas.{LinkCounts}
use Rattle.script_runner.specs.declared.runner.Why.{Why}
use Rattle.update_records.specs.Ledger.{Ledger}
use Rattle.wal_server.specs.Pairs.{HasLoadedPairs, HasPairs, HasThreadPairs, RemainsUnopened, SurviveAll}
use Rattle.wal_server.proofs.Broken.{not_all}

pub told_some : (tells : Bool) (rows : Rows) → IsTrue tells → IsTrue (is_some (told tells rows))
told_some true rows t = refl
told_some false rows t = absurd cc

-- bytes that don't break stand for rows
whole_bytes : (bytes : List ℕ) → ((at : ℕ) → IsBad bytes at → ⊥) → IsBytes bytes → (rows : Rows) × Stands bytes rows
whole_bytes bytes unbroken fits = elim (meaning bytes fits) [
  | inl rows ↦ rows
  | inr bad ↦ absurd (unbroken bad.0 bad.1)
]

-- what a journal stands for could be left
stood : {after : Rows → Type 0} (journal : List ℕ) → ((rows : Rows) → Stands journal rows → after rows) → (ledger : Ledger) → HasStood (Stands journal) ledger
    → HasStood after ledger
stood journal stands ledger h = (h.0, stands h.0 h.1, h.2)

module _ {site : SiteFound} {site_now : SiteLeft} {past : List PastEntry} (is_told : IsTrue site.told) (is_tells : IsTrue site.tells)
    (journals : List ℕ → Type 0) (stands : (journal : List ℕ) → journals journal → (rows : Rows) → Stands journal rows → site_now.rows rows)
    (breaks : (journal : List ℕ) → journals journal → (at : ℕ) → IsBad journal at → (rows : Rows) → site_now.rows rows) where
  of_served : {land : Landscape} {old new : Seen} {stored : Ledger} {made : List Made} → AreServed land site site_now old new stored made past
      → SurviveAll journals site_now.images (state_after (first_state land site.told site.linked stored) made)
  of_served s journal backup left filed =
      let unbroken : (at : ℕ) → IsBad journal at → ⊥ = λ at bad. not_all _ (λ rows. s.left is_told rows (breaks journal left at bad rows)) in
      record {
        unbroken = unbroken;
        whole = whole_bytes journal unbroken;
        rows = λ rows is. s.left is_told rows (stands journal left rows is);
        lists = s.handed is_tells backup filed;
        opens = λ honest ledger h. s.opens is_told is_tells honest backup filed ledger (stood journal (stands journal left) ledger h);
        next = λ ledger h. s.next is_told ledger (h.0, stood journal (stands journal left) h.0 h.1, h.2);
      }

  of_unopened : {D L : Type 0} {disk disk_now : D} {link link_now : L} {old new : Seen} {why : Why}
      → IsUnopened site site_now disk disk_now link link_now old new past why
      → RemainsUnopened site site_now disk disk_now link link_now old new past why journals
  of_unopened u = record { unopened = u; rows = λ journal left rows is. u.left is_told rows (stands journal left rows is) }

  pub of_landscape : {D L : Type 0} {left : Option (List ℕ)} {disk disk_now : D} {link link_now : L} {old new : Seen} {why : Why}
      → HasLandscape left site site_now disk disk_now link link_now old new past why
      → HasPairs left site site_now disk disk_now link link_now old new past why journals
  of_landscape h = record {
    land = h.land;
    read = h.read;
    serves = elim h.serves [
      | inl s ↦ inl (record { served = s; pairs = of_served s.promises })
      | inr u ↦ inr (of_unopened u)
    ];
  }

  pub of_load : {D L : Type 0} {n : ℕ} {left : Option (List ℕ)} {disk disk_now : D} {link link_now : L} {old new : Seen} {why : Why}
      → HasLoaded n left site site_now disk disk_now link link_now old new past why
      → HasLoadedPairs n left site site_now disk disk_now link link_now old new past why journals
  of_load h = record {
    land = h.land;
    read = h.read;
    loads = elim h.loads [
      | inl l ↦ inl (record { loaded = l; pairs = of_served l.served.promises })
      | inr u ↦ inr (of_unopened u)
    ];
  }

  pub of_threads : {D L : Type 0} {workers : ℕ} {left : Option (List ℕ)} {disk disk_now : D} {link link_now : L} {old new : Seen}
      {counts counts_now : LinkCounts} {drawn : List Drawing} {why : Why}
      → HasThreads workers left site site_now disk disk_now link link_now old new counts counts_now past drawn why
      → HasThreadPairs workers left site site_now disk disk_now link link_now old new counts counts_now past drawn why journals
  of_threads h = record {
    land = h.land;
    read = h.read;
    serves = elim h.serves [
      | inl s ↦ inl (record { served = s; pairs = of_served s.promises })
      | inr u ↦ inr (of_unopened u.0, u.1)
    ];
  }
