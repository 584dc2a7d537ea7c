-- The script that is read, done by threads.
use Rattle.std.specs.Prelude.{◌≡◌, ◌⊎◌, false, ℕ, List, [], length, Option}
use Rattle.hall_model.specs.Recall.{Made, state_after}
use Rattle.hall_model.specs.declared.command.PastEntry.{PastEntry}
use Rattle.keeper_api.specs.Rows.{Rows}
use Rattle.landscape.specs.declared.landscape.Landscape.{Landscape}
use Rattle.script_actors.specs.declared.drawing.Drawing.{Drawing}
use Rattle.script_runner.specs.Replay.{Seen}
use Rattle.script_runner.specs.Replicas.{CountsLinkEach, LinkCounts}
use Rattle.script_runner.specs.declared.runner.Why.{Why}
use Rattle.script_runner.specs.declared.runner.Why.TheVariants.{LogFull}
use Rattle.thread_runner.specs.Threads.{RunsThreads}
use Rattle.update_records.specs.Ledger.{Ledger}
use Rattle.enq_cmd.specs.Main.{AreServed, EndsComplete, IsRead, IsUnopened, SiteFound, SiteLeft, first_state}
use Rattle.enq_cmd.specs.Words.{NamesWork, cover_words, replay_words}
use Rattle.enq_cmd.specs.declared.words.Work.TheVariants.{Runs}

-- words by which a script is done by threads
abbrev pub RunsWords : List (List ℕ) → Type 0
RunsWords words = (n : ℕ) × NamesWork words (Runs n)

-- words by which a script is read
abbrev pub ReadsScript : List (List ℕ) → Type 0
ReadsScript words = (words ≡ replay_words) ⊎ ((words ≡ cover_words) ⊎ RunsWords words)

-- What a program does that opens its store and its backup file, and has the script done by threads: all their calls are
-- one history, of which all is promised that is promised of a script that is done line by line.
pub record IsServedByThreads (land : Landscape) (workers : ℕ) (site : SiteFound) (site_now : SiteLeft) (old new : Seen)
    (counts counts_now : LinkCounts) (past : List PastEntry) (drawn : List Drawing) (why : Why) : Type 0 where
  -- what the store has when the server begins
  pub stored : Ledger
  -- the calls of the history
  pub made : List Made
  pub promises : AreServed land site site_now old new stored made past
  -- it is that of the state to which they lead
  pub history : (state_after (first_state land site.told site.linked stored) made).past ≡ past
  -- who made them, what was drawn from stocks, what is read and written, and why it ends
  pub runs : RunsThreads land.objects workers (first_state land site.told site.linked stored)
      (state_after (first_state land site.told site.linked stored) made) drawn old new why
  -- the counts of the link, call by call
  pub link : CountsLinkEach false past counts counts_now

-- What a program does that has read its landscape: it has the script done by threads, or doesn't open its store.
pub record HasThreads {D L : Type 0} (workers : ℕ) (left : Option (List ℕ)) (site : SiteFound) (site_now : SiteLeft)
    (disk disk_now : D) (link link_now : L) (old new : Seen) (counts counts_now : LinkCounts) (past : List PastEntry)
    (drawn : List Drawing) (why : Why) : Type 0 where
  pub land : Landscape
  pub read : IsRead left land
  pub serves : IsServedByThreads land workers site site_now old new counts counts_now past drawn why
      ⊎ (IsUnopened site site_now disk disk_now link link_now old new past why × (drawn ≡ []))

-- the script was done to its end, or memory was wanting, or the store has no next start, or the history is full
abbrev pub EndsInRun : (Rows → Type 0) → List PastEntry → Why → Type 0
EndsInRun before past why = EndsComplete before why ⊎ ((why ≡ LogFull) × (length past ≡ 262144))
