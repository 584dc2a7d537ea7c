-- What a crash leaves of a journal that is opened.
use Rattle.std.proofs.Common.{◌≡◌, ◌+◌, ◌≤◌, ◌∷◌, ◌∙◌, Bool, List, ℕ, length, refl, sym, ap, subst, arith, inl, inr, length-append}
use Rattle.std.specs.Prelude.{IsTrue, Result, Ok, Err, IsErrOf}
use Rattle.bk_disk.specs.Disk.{FitsDisk, Follows, Only}
use Rattle.gate_log.specs.Gates.{AreShort}
use Rattle.gate_log.specs.Logs.{SameOrFirst}
use Rattle.keeper_api.specs.Keeping.{IsWithin}
use Rattle.keeper_api.specs.Rows.{Rows}
use Rattle.keeper_wal.specs.Journal.{AllStand, AllStandFor, IsLong, IsShort, SameRows, Stands, grammar}
use Rattle.keeper_wal.specs.Opening.{HasJournalCause, IsOpened, IsRead, OnBad, UnlessFailed}
use Rattle.keeper_wal.specs.declared.fault.JournalFault.{JournalFault}
use Rattle.keeper_wal.specs.declared.fault.JournalFault.TheVariants.{Failed, Bad, NoMemory}
use Rattle.keeper_wal.specs.Wal.{WalView, Leaves, IsRemembered, IsOpen, only_rows}
use Rattle.keeper_wal.proofs.Settling.{one_rows, no_other}

same : (old new : List ℕ) → SameOrFirst grammar old new → SameRows old new
same old new (inl is) rows = (subst (λ b. Stands b rows) (sym is), subst (λ b. Stands b rows) is)
same old new (inr none) rows = (
  λ stands. subst (Stands new) (one_rows old grammar.first rows none.0 stands) none.1,
  λ stands. subst (Stands old) (one_rows new grammar.first rows none.1 stands) none.0,
)

same_twice : (a b c : List ℕ) → SameRows a b → SameRows b c → SameRows a c
same_twice a b c first second rows = (λ stands. (second rows).0 ((first rows).0 stands), λ stands. (first rows).1 ((second rows).1 stands))

pub alike : (c : List ℕ) → SameRows c c
alike c rows = (λ stands. stands, λ stands. stands)

-- ---- a short journal

pub not_both : {P : Type 0} (bytes : List ℕ) → IsShort bytes → IsLong bytes → P
not_both bytes short long = absurd (omega (arith, short, long))

-- all that a crash may leave of it is short
pub all_short : (bytes read : List ℕ) (images : List ℕ → Type 0) → IsShort bytes → read ≡ bytes → Only read images → AreShort 9 images
all_short bytes read images short same only image left = subst (λ b. length b ≤ 9) (sym (only image left ∙ same)) short

-- each image behind it stands for no rows, as it does
pub from_short : (bytes : List ℕ) (before now : List ℕ → Type 0) → before bytes → IsShort bytes → AreShort 9 now → Follows SameRows before now
from_short bytes before now was short all image left = (bytes, was, same bytes image (inr (inl (short, refl), inl (all image left, refl))))

-- ---- a long one

pub stands_read : (bytes was : List ℕ) (gate : ℕ) (rows : Rows) → bytes ≡ was → IsLong bytes → IsRead bytes gate rows → Stands was rows
stands_read bytes was gate rows same long is = subst (λ b. Stands b rows) same (inr (long, (is.front, is.is_front, is.shut)))

pub opened_read : (bytes read : List ℕ) (images : List ℕ → Type 0) (gate : ℕ) (rows : Rows) → bytes ≡ read → FitsDisk read → Only read images
    → IsRead bytes gate rows → IsOpened read images gate rows
opened_read bytes read images gate rows same fits only is =
    let shut = is.shut in
    let size : length read ≡ length is.front + length (shut.byte ∷ shut.rest) =
    ap length (sym same ∙ shut.whole) ∙ length-append is.front (shut.byte ∷ shut.rest) in
    record {
      front = is.front;
      is_front = is.is_front;
      at_rest = record {
        byte = shut.byte;
        more = shut.rest;
        whole = sym same ∙ shut.whole;
        closed = shut.closed;
        place = is.place;
        fits = omega (arith, size, is.place, fits);
        durable = only;
      };
    }

pub on_bad : (P Q : ℕ → Type 0) → ((at : ℕ) → P at → Q at) → (fault : JournalFault) → OnBad P fault → OnBad Q fault
on_bad P Q more Failed h = tt
on_bad P Q more (Bad at) h = more at h
on_bad P Q more NoMemory h = tt

-- ---- the count of faults

still : {T : Type 0} (P : Type 0) (r : Result T JournalFault) → P → UnlessFailed r P
still P (Ok x) p = p
still P (Err Failed) p = tt
still P (Err (Bad at)) p = p
still P (Err NoMemory) p = p

pub no_fault : {T : Type 0} (before now : ℕ) (r : Result T JournalFault) → now ≡ before → (IsErrOf r Failed → ⊥) → HasJournalCause before now r
no_fault before now r same none =
    record { later = omega (arith, same); failed = λ failed. absurd (none failed); quiet = still (now ≡ before) r same }

-- ---- what is remembered

-- the remembered disk is told of through each step
pub remembered : (since old new : List ℕ → Type 0) → Follows SameRows since old → Follows SameRows old new → Follows SameRows since new
remembered since old new is follows c left =
    let from = follows c left in
    let first = is from.0 from.1 in
    (first.0, first.1, same_twice first.0 from.0 c first.2 from.2)

-- each image stands for rows where each did
pub all_stand : (old new : List ℕ → Type 0) → Follows SameRows old new → AllStand old → AllStand new
all_stand old new follows stand c left =
    let from = follows c left in
    let rows = stand from.0 from.1 in
    (rows.0, (from.2 rows.0).0 rows.1)

module _ {D : Type 0} (tells : Bool) (images : D → List ℕ → Type 0) (k : WalView D) (is : IsRemembered tells images k.since k.disk) where
  -- the rows for which an image stands may be left
  pub stands_left : (c : List ℕ) → images k.disk c → (rows : Rows) → Stands c rows → Leaves tells images k rows
  stands_left c left rows stands t = let from = is t c left in inl (from.0, from.1, no_other from.0 rows ((from.2 rows).1 stands))

  -- and any rows where an image stands for nothing
  pub nothing_left : (c : List ℕ) → images k.disk c → ((others : Rows) → Stands c others → ⊥) → (rows : Rows) → Leaves tells images k rows
  nothing_left c left none rows t = let from = is t c left in inl (from.0, from.1, λ others stands. absurd (none others ((from.2 others).0 stands)))

  -- and those for which the bytes stand
  pub found_left : (reads : D → List ℕ) → ((disk : D) → IsTrue tells → images disk (reads disk)) → (rows : Rows) → (IsTrue tells → Stands (reads k.disk) rows)
      → Leaves tells images k rows
  found_left reads left rows stands t = stands_left (reads k.disk) (left k.disk t) rows (stands t) t

-- an open keeper whose rows might be left leaves nothing new
pub within : {D : Type 0} (tells : Bool) (reads : D → List ℕ) (images : D → List ℕ → Type 0) (old new : WalView D) → IsOpen tells reads images new
    → Leaves tells images old new.rows → IsWithin (Leaves tells images new) (Leaves tells images old)
within tells reads images old new is found left leaves = λ t. subst (Leaves tells images old)
    (sym ((only_rows tells reads images new is t).alone left leaves)) found t

-- another batch may wait
pub with_rows : {D : Type 0} (tells : Bool) (reads : D → List ℕ) (images : D → List ℕ → Type 0) {k : WalView D} → IsOpen tells reads images k
    → (rows made : Rows) (text : List ℕ) → rows ≡ k.rows
    → IsOpen tells reads images (record k { rows = rows; made = made; text = text })
with_rows tells reads images {k = k} is rows made text same = record {
  opened = is.opened;
  was_read = is.was_read;
  sure = is.sure;
  ready = λ t. subst (IsOpened (reads k.disk) (images k.disk) k.gate) (sym same) (is.ready t);
  stand = λ t. subst (λ r. AllStandFor r (images k.since)) (sym same) (is.stand t);
}
