-- A disk in memory, whose calls fail where they are told to.
use Rattle.std.specs.Prelude.{◌≡◌, ◌⊎◌, ℕ, List, [], ◌∷◌, ◌++◌, length, Bool, nat_eq, IsTrue}
use Rattle.std.specs.List.{list_any}
use Rattle.enq_base.specs.Causes.{one_more}
use Rattle.bk_disk.specs.Disk.{written, resized}
use Rattle.bk_disk.specs.Images.{IsImage, all_filled}
use Rattle.bk_disk.specs.declared.change.Change.{Change}
use Rattle.bk_disk.specs.declared.change.Change.TheVariants.{Write, Resize}

-- the bytes as read, the bytes after the last sync and what was done since, the numbers of the calls that fail, how
-- many calls were made, how many of them failed, and how many of those found no room
pub record MemView : Type 0 where
  pub reads : List ℕ
  pub synced : List ℕ
  pub changes : List Change
  pub fails : List ℕ
  pub calls : ℕ
  pub faults : ℕ
  pub refused : ℕ

-- all bytes are synced, and no call was made
abbrev pub fresh : List ℕ → List ℕ → MemView
fresh bytes fails =
    record { reads = bytes; synced = bytes; changes = []; fails = fails; calls = 0; faults = 0; refused = 0 }

-- what a crash may leave
abbrev pub MayBeLeft : MemView → List ℕ → Type 0
MayBeLeft m image = IsImage m.reads m.synced m.changes image

-- what a crash leaves with one byte in all places that were written since the last sync
abbrev pub mem_filled : ℕ → MemView → List ℕ
mem_filled byte m = all_filled byte m.synced m.changes

-- whether the next call stands in the list of those that fail
abbrev pub call_fails : MemView → Bool
call_fails m = list_any (λ k. nat_eq k (one_more m.calls)) m.fails

abbrev pub IsNextListed : MemView → Type 0
IsNextListed m = IsTrue (call_fails m)

abbrev pub called : MemView → MemView
called m = record m { calls = one_more m.calls }

-- after a change that no sync has followed yet
abbrev pub changed : MemView → Change → List ℕ → MemView
changed m c bytes = record m { reads = bytes; changes = m.changes ++ c ∷ [] }

abbrev pub after_write : MemView → ℕ → List ℕ → MemView
after_write m at from = changed (called m) (Write at (length from)) (written m.reads at from)

abbrev pub after_cut : MemView → ℕ → MemView
after_cut m to = changed (called m) (Resize to) (resized m.reads to)

abbrev pub after_sync : MemView → MemView
after_sync m = record (called m) { synced = m.reads; changes = [] }

-- a fault
abbrev pub failed_now : MemView → MemView
failed_now m = record m { faults = one_more m.faults }

-- a fault since no room was found
abbrev pub refused_now : MemView → MemView
refused_now m = record m { faults = one_more m.faults; refused = one_more m.refused }

-- a change that failed: a read doesn't show it, and a crash may leave some of it
abbrev pub failed_change : MemView → Change → MemView
failed_change m c = record m { changes = m.changes ++ c ∷ []; faults = one_more m.faults }

-- after a call that failed by the list
abbrev pub after_listed : MemView → MemView
after_listed m = failed_now (called m)

-- after a call that found no room
abbrev pub after_refused : MemView → MemView
after_refused m = refused_now (called m)

-- a call without a change failed by the list, or else since it found no room
abbrev pub FailsCall : MemView → MemView → Type 0
FailsCall old new = (IsNextListed old × (new ≡ after_listed old)) ⊎ (¬ IsNextListed old × (new ≡ after_refused old))

-- a change failed since it found no room, or by the list
abbrev pub FailsChange : Change → MemView → MemView → Type 0
FailsChange c old new = (new ≡ after_refused old) ⊎ (IsNextListed old × (new ≡ failed_change (called old) c))
