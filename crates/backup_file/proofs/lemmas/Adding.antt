-- A record that is added to a file leads it to other lists.
use Rattle.std.proofs.Common.{◌≡◌, ◌⊎◌, ℕ, ◌+◌, Bool, true, false, List, ◌∷◌, ◌++◌, Result, Ok, Err, inl, inr, refl, sym, ap, subst, ◌∙◌, append_assoc, arith}
use Rattle.bk_disk.specs.Disk.{Only}
use Rattle.gate_log.specs.Gates.{IsShut, IsAtRest}
use Rattle.gate_log.proofs.lemmas.Logs.{front-push}
use Rattle.backup_file.specs.declared.handed.Handed.{Handed}
use Rattle.backup_file.specs.declared.handed.Record.{Record}
use Rattle.backup_file.specs.declared.places.Place.{Place}
use Rattle.backup_file.specs.Spelling.{spelling, IsRecord}
use Rattle.backup_file.specs.declared.fault.WriteFault.{WriteFault}
use Rattle.backup_file.specs.declared.fault.WriteFault.TheVariants.{Failed, NoMemory}
use Rattle.backup_file.specs.Backup.{BackupView, HasWriteCause, IsReady, IsSame, UnlessFailed}
use Rattle.backup_file.specs.Plans.{IsDone, IsLeftCompact, IsShortened}
use Rattle.backup_file.specs.Lists.{AreUnits, IsLegal, after}
use Rattle.backup_file.specs.File.{IsCompact, IsNoOlder, IsFront, IsFrontAt, IsVersion2, Stands, log_grammar}
use Rattle.backup_file.specs.Migrating.{IsOpenedAs}
use Rattle.backup_file.proofs.Compacts.{within_log}
use Rattle.backup_file.proofs.lemmas.Generations.{no_older, rest_shut}

never_both : (b : Bool) → b ≡ true → b ≡ false → ⊥
never_both true told e = cc
never_both false told e = cc

-- the log in force goes on with the record
pub next_front : (p : Place) (front : List ℕ) (l : List Handed) (r : Record) → IsFrontAt p front l → IsRecord r → IsLegal l r
    → IsFrontAt p (front ++ 1 ∷ spelling r) (after l r)
next_front p front l r f is legal = record {
  head = f.head;
  gap = f.gap;
  log = f.log ++ 1 ∷ spelling r;
  parts = ap (λ (b : List ℕ). b ++ 1 ∷ spelling r) f.parts ∙ append_assoc f.head (f.gap ++ f.log) (1 ∷ spelling r)
      ∙ ap (λ (b : List ℕ). f.head ++ b) (append_assoc f.gap f.log (1 ∷ spelling r));
  slotted = f.slotted;
  force = f.force;
  starts = f.starts;
  is_log = front-push log_grammar f.log l r f.is_log is (legal, within_log r is);
}

shut_stands : (front c : List ℕ) (l : List Handed) → IsFront front l → IsShut front c → Stands c l
shut_stands front c l f shut = inr (record { place = f.0; front = front; is_front = f.1; shut = shut })

module _ (l : List Handed) (r : Record) (front : List ℕ) (is_front : IsFront front l) (is : IsRecord r) (legal : IsLegal l r) where
  pub more_front : IsFront (front ++ 1 ∷ spelling r) (after l r)
  more_front = (is_front.0, next_front is_front.0 front l r is_front.1 is legal)

  pub either : (c : List ℕ) → IsShut front c ⊎ IsShut (front ++ 1 ∷ spelling r) c → Stands c l ⊎ Stands c (after l r)
  either c (inl shut) = inl (shut_stands front c l is_front shut)
  either c (inr shut) = inr (shut_stands (front ++ 1 ∷ spelling r) c (after l r) more_front shut)

-- a file at rest stands for its lists
pub rest_stands : (l : List Handed) (front bytes : List ℕ) (images : List ℕ → Type 0) (gate : ℕ) → IsFront front l → IsAtRest bytes images gate front
    → Stands bytes l
rest_stands l front bytes images gate f rest = shut_stands front bytes l f
    (record { byte = rest.byte; rest = rest.more; whole = rest.whole; closed = rest.closed })

-- a file that was at rest and got a record is ready for the lists after it
pub ready_after : {D : Type 0} (reads : D → List ℕ) (may_leave : D → List ℕ → Type 0) (l : List Handed) (r : Record) (front : List ℕ) → IsFront front l
    → IsRecord r → IsLegal l r → (b : BackupView D) → IsAtRest (reads b.disk) (may_leave b.disk) b.gate (front ++ 1 ∷ spelling r) → AreUnits b.units (after l r)
    → b.compact ≡ false → IsReady reads may_leave b (after l r)
ready_after reads may_leave l r front is_front is legal b rest units unknown =
    let next = more_front l r front is_front is legal in
    record {
      stands = rest_stands (after l r) (front ++ 1 ∷ spelling r) (reads b.disk) (may_leave b.disk) b.gate next rest;
      front = front ++ 1 ∷ spelling r;
      is_front = next;
      at_rest = rest;
      units = units;
      compact = λ told. absurd (never_both b.compact told unknown);
    }

-- the same file is ready too
pub ready_same : {D : Type 0} (reads : D → List ℕ) (may_leave : D → List ℕ → Type 0) (l : List Handed) (old new : BackupView D) → IsSame old new
    → IsReady reads may_leave old l → IsReady reads may_leave new l
ready_same reads may_leave l old new same ready = record {
  stands = subst (λ d. Stands (reads d) l) (sym same.disk) ready.stands;
  front = ready.front;
  is_front = ready.is_front;
  at_rest = subst (λ g. IsAtRest (reads new.disk) (may_leave new.disk) g ready.front) (sym same.gate)
      (subst (λ d. IsAtRest (reads d) (may_leave d) old.gate ready.front) (sym same.disk) ready.at_rest);
  units = λ u. same.units u ∙ ready.units u;
  compact = λ told. ready.compact (sym same.compact ∙ told);
}

-- and has the same generation in force
pub worn_after : (l : List Handed) (r : Record) (front : List ℕ) → IsFront front l → IsRecord r → IsLegal l r → (old new : List ℕ)
    (images left : List ℕ → Type 0) (gate next : ℕ) → IsAtRest old images gate front → IsAtRest new left next (front ++ 1 ∷ spelling r) → IsNoOlder old new
worn_after l r front is_front is legal old new images left gate next was rest =
    no_older is_front.0 front (front ++ 1 ∷ spelling r) old new l (after l r) is_front.1 (next_front is_front.0 front l r is_front.1 is legal)
    (rest_shut old images gate front was) (rest_shut new left next (front ++ 1 ∷ spelling r) rest)

-- ---- after a compaction

module _ {D : Type 0} (reads : D → List ℕ) (may_leave : D → List ℕ → Type 0) (l : List Handed) (old : BackupView D)
    (ready : IsReady reads may_leave old l) where
  pub ready_version : IsVersion2 (reads old.disk) l
  ready_version =
      let rest = ready.at_rest in
      record {
        place = ready.is_front.0;
        front = ready.front;
        is_front = ready.is_front.1;
        shut = record { byte = rest.byte; rest = rest.more; whole = rest.whole; closed = rest.closed };
      }

  -- its log is known to have one hand of each list
  pub done_before : old.compact ≡ true → IsLeftCompact (reads old.disk) (reads old.disk) l
  unfolding ready_version
  done_before told = inl (record { version = ready_version; same = ready.compact told })

module _ {D : Type 0} (reads : D → List ℕ) (may_leave : D → List ℕ → Type 0) (l : List Handed) (old new : BackupView D) (ready : IsReady reads may_leave old l)
    (units : new.units ≡ old.units) where
  -- the file was read, and nothing else was done
  pub ready_read : reads new.disk ≡ reads old.disk → Only (reads new.disk) (may_leave new.disk) → new.gate ≡ old.gate → new.compact ≡ old.compact
      → IsReady reads may_leave new l
  ready_read same only gate compact =
      let rest = ready.at_rest in
      record {
        stands = subst (λ b. Stands b l) (sym same) ready.stands;
        front = ready.front;
        is_front = ready.is_front;
        at_rest = record {
          byte = rest.byte;
          more = rest.more;
          whole = same ∙ rest.whole;
          closed = rest.closed;
          place = rest.place ∙ sym gate;
          fits = omega (arith, rest.fits, gate);
          durable = only;
        };
        units = subst (λ us. AreUnits us l) (sym units) ready.units;
        compact = λ told. ready.compact (sym compact ∙ told);
      }

  -- its log was written anew
  pub ready_compacted : (gate : ℕ) → new.gate ≡ gate → IsOpenedAs (reads new.disk) (may_leave new.disk) gate true l → IsReady reads may_leave new l
  ready_compacted gate is opened =
      let rest = subst (λ n. IsAtRest (reads new.disk) (may_leave new.disk) n opened.front) (sym is) opened.at_rest in
      record {
        stands = rest_stands l opened.front (reads new.disk) (may_leave new.disk) new.gate (opened.place, opened.is_front) rest;
        front = opened.front;
        is_front = (opened.place, opened.is_front);
        at_rest = rest;
        units = subst (λ us. AreUnits us l) (sym units) ready.units;
        compact = λ told. opened.same refl;
      }

pub compact_done : (bytes : List ℕ) (images : List ℕ → Type 0) (gate : ℕ) (l : List Handed) → IsOpenedAs bytes images gate true l → IsCompact bytes l
compact_done bytes images gate l opened =
    let rest = opened.at_rest in
    record {
      version = record {
        place = opened.place;
        front = opened.front;
        is_front = opened.is_front;
        shut = record { byte = rest.byte; rest = rest.more; whole = rest.whole; closed = rest.closed };
      };
      same = opened.same refl;
    }

pub nothing_done : (before now : List ℕ) (l : List Handed) → now ≡ before → IsDone before l → IsLeftCompact before now l
nothing_done before now l same (inl is) = inl (subst (λ b. IsCompact b l) (sym same) is)
nothing_done before now l same (inr worn) = inr (same, worn)

pub left_shortened : (first before now : List ℕ) (l : List Handed) → IsNoOlder first before → IsLeftCompact before now l → IsShortened first now l
left_shortened first before now l older (inl is) = inl is
left_shortened first before now l older (inr is) = inr (older is.1)

-- a crash leaves the same of it
pub same_left : {D : Type 0} (reads : D → List ℕ) (may_leave : D → List ℕ → Type 0) (l : List Handed) (old new : BackupView D) → IsSame old new
    → IsReady reads may_leave old l → (image : List ℕ) → may_leave new.disk image → Stands image l
same_left reads may_leave l old new same ready image left =
    subst (λ b. Stands b l) (sym (ready.at_rest.durable image (subst (λ d. may_leave d image) same.disk left))) ready.stands

-- ---- the count of faults

still : {T : Type 0} (P : Type 0) (r : Result T WriteFault) → P → UnlessFailed r P
still P (Ok x) p = p
still P (Err Failed) p = tt
still P (Err NoMemory) p = p

-- it stands still where the disk didn't fail
pub no_fault : {T : Type 0} (before now : ℕ) (r : Result T WriteFault) → now ≡ before → (r ≡ Err Failed → ⊥) → HasWriteCause before now r
no_fault before now r same none =
    record { later = omega (arith, same); failed = λ failed. absurd (none failed); quiet = still (now ≡ before) r same }

pub written : {T : Type 0} (r : Result T WriteFault) (x : T) → r ≡ Ok x → r ≡ Err Failed → ⊥
written r x is failed = cc

pub without_memory : {T : Type 0} (r : Result T WriteFault) → r ≡ Err NoMemory → r ≡ Err Failed → ⊥
without_memory r is failed = cc
