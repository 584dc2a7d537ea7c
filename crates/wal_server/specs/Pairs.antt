-- What a stop leaves on both disks: that of the journal, and that of the backup file.
use Rattle.std.specs.Prelude.{◌≡◌, ◌⊎◌, ℕ, Bool, true, List, [], Option, IsTrue}
use Rattle.enq_cmd.specs.Loading.{IsLoaded}
use Rattle.enq_cmd.specs.Running.{IsServedByThreads}
use Rattle.enq_cmd.specs.Main.{HasHanded, IsGoodFile, IsNextOf, IsRead, IsServed, IsUnopened, MayRemain, SurvivesStop}
use Rattle.enq_cmd.specs.Main.{SiteFound, SiteLeft, first_state, found_in, left_in, made_from}
use Rattle.gate_log.specs.Grammars.{IsBytes}
use Rattle.hall_model.specs.Recall.{state_after}
use Rattle.hall_model.specs.State.{State, is_honest}
use Rattle.hall_model.specs.declared.command.PastEntry.{PastEntry}
use Rattle.keeper_api.specs.Rows.{Rows}
use Rattle.keeper_wal.specs.Journal.{Stands, IsBad}
use Rattle.keeper_wal.specs.Wal.{Leaves, WalView, told}
use Rattle.landscape.specs.declared.landscape.Landscape.{Landscape}
use Rattle.ledger_steps.specs.Starts.{IsRaised}
use Rattle.lock_entry.specs.declared.entry.Entry.{Entry}
use Rattle.posting.specs.Reopening.{HasStood}
use Rattle.script_actors.specs.declared.drawing.Drawing.{Drawing}
use Rattle.script_runner.specs.Replay.{Seen}
use Rattle.script_runner.specs.Replicas.{LinkCounts}
use Rattle.script_runner.specs.declared.runner.Why.{Why}
use Rattle.update_records.specs.Ledger.{Ledger}

-- what is found in a site with a journal, and what is left of it
abbrev pub journal_found : {E D L : Type 0} → (tells : Bool) (leaves : E → List ℕ → Type 0) (file_tells : Bool)
    (reads : D → List ℕ) (images : D → List ℕ → Type 0) (applied : L → Option (List Entry)) → WalView E → D → L
    → SiteFound
journal_found tells leaves file_tells reads images applied journal disk link =
    found_in (λ (k : WalView _). told tells k.rows) (Leaves tells leaves) file_tells reads images applied journal disk
    link

abbrev pub journal_left : {E D L : Type 0} → (tells : Bool) (leaves : E → List ℕ → Type 0)
    (images : D → List ℕ → Type 0)
    (applied : L → Option (List Entry)) → WalView E → D → L → SiteLeft
journal_left tells leaves images applied journal disk link =
    left_in (Leaves tells leaves) images applied journal disk link

-- A journal and a backup file that a stop has left of a state.
pub record SurvivesPair (journal backup : List ℕ) (s : State) : Type 0 where
  -- the journal doesn't break, and where it is made of bytes it stands for rows
  pub unbroken : (at : ℕ) → IsBad journal at → ⊥
  pub whole : IsBytes journal → (rows : Rows) × Stands journal rows
  -- they are rows of the state, with or without the change in flight, and the lists of the backup file are those of its
  -- locks
  pub rows : (rows : Rows) → Stands journal rows → SurvivesStop rows s
  pub lists : HasHanded backup s
  -- a new start over both finds no place of the backup file bad, where the locks can be told from the calls, and begins
  -- with what the state leaves
  pub opens : IsTrue (is_honest s) → IsGoodFile (Stands journal) backup
  pub next : (ledger : Ledger) → IsRaised (HasStood (Stands journal)) true ledger → IsNextOf s ledger

-- so is each pair of images
abbrev pub SurviveAll : (journals backups : List ℕ → Type 0) → State → Type 0
SurviveAll journals backups s = (journal backup : List ℕ) → journals journal → backups backup
    → SurvivesPair journal backup s

-- what a program does that opens its store and its backup file, with each pair of images that a stop may leave then
pub record ServesPairs (land : Landscape) (site : SiteFound) (site_now : SiteLeft) (old new : Seen)
    (past : List PastEntry)
    (why : Why) (journals : List ℕ → Type 0) : Type 0 where
  pub served : IsServed land site site_now old new past why
  pub pairs : SurviveAll journals site_now.images
      (state_after (first_state land site.told site.linked served.stored)
      (made_from land site.told site.linked served.stored served.turns))

-- the same where the script is made from a number
pub record LoadsPairs (n : ℕ) (land : Landscape) (site : SiteFound) (site_now : SiteLeft) (old new : Seen)
    (past : List PastEntry) (why : Why) (journals : List ℕ → Type 0) : Type 0 where
  pub loaded : IsLoaded n land site site_now old new past why
  pub pairs : SurviveAll journals site_now.images
      (state_after (first_state land site.told site.linked loaded.served.stored)
      (made_from land site.told site.linked loaded.served.stored loaded.served.turns))

-- the same where the script is done by threads
pub record ThreadsPairs (land : Landscape) (workers : ℕ) (site : SiteFound) (site_now : SiteLeft) (old new : Seen)
    (counts counts_now : LinkCounts) (past : List PastEntry) (drawn : List Drawing) (why : Why)
    (journals : List ℕ → Type 0) : Type 0 where
  pub served : IsServedByThreads land workers site site_now old new counts counts_now past drawn why
  pub pairs : SurviveAll journals site_now.images
      (state_after (first_state land site.told site.linked served.stored) served.made)

-- what a program does that doesn't open its store: each journal that a stop may leave then stands for rows that might
-- have been left before, or for those with the number of the start that wasn't made, and of the backup file just what
-- is said is left
pub record RemainsUnopened {D L : Type 0} (site : SiteFound) (site_now : SiteLeft) (disk disk_now : D)
    (link link_now : L)
    (old new : Seen) (past : List PastEntry) (why : Why) (journals : List ℕ → Type 0) : Type 0 where
  pub unopened : IsUnopened site site_now disk disk_now link link_now old new past why
  pub rows : (journal : List ℕ) → journals journal → (rows : Rows) → Stands journal rows → MayRemain why site.rows rows

-- what a program does that has read its landscape
pub record HasPairs {D L : Type 0} (left : Option (List ℕ)) (site : SiteFound) (site_now : SiteLeft) (disk disk_now : D)
    (link link_now : L) (old new : Seen) (past : List PastEntry) (why : Why) (journals : List ℕ → Type 0) : Type 0 where
  pub land : Landscape
  pub read : IsRead left land
  pub serves : ServesPairs land site site_now old new past why journals
      ⊎ RemainsUnopened site site_now disk disk_now link link_now old new past why journals

-- and is to do the script of n units
pub record HasLoadedPairs {D L : Type 0} (n : ℕ) (left : Option (List ℕ)) (site : SiteFound) (site_now : SiteLeft)
    (disk disk_now : D) (link link_now : L) (old new : Seen) (past : List PastEntry) (why : Why)
    (journals : List ℕ → Type 0) : Type 0 where
  pub land : Landscape
  pub read : IsRead left land
  pub loads : LoadsPairs n land site site_now old new past why journals
      ⊎ RemainsUnopened site site_now disk disk_now link link_now old new past why journals

-- and has the script done by threads
pub record HasThreadPairs {D L : Type 0} (workers : ℕ) (left : Option (List ℕ)) (site : SiteFound) (site_now : SiteLeft)
    (disk disk_now : D) (link link_now : L) (old new : Seen) (counts counts_now : LinkCounts) (past : List PastEntry)
    (drawn : List Drawing) (why : Why) (journals : List ℕ → Type 0) : Type 0 where
  pub land : Landscape
  pub read : IsRead left land
  pub serves : ThreadsPairs land workers site site_now old new counts counts_now past drawn why journals
      ⊎ (RemainsUnopened site site_now disk disk_now link link_now old new past why journals × (drawn ≡ []))
