-- What a call leaves, by the answer that is made of its own.
use Rattle.std.proofs.Common.{◌≡◌, ℕ, ◌<◌, List, [], Option, Some, None, IfSome, Result, Ok, Err, IfOk, IfErr, Vec, Global, sym, subst, ◌∙◌, arith}
use Rattle.keeper_api.specs.declared.fault.KeepFault.{KeepFault}
use Rattle.keeper_api.specs.declared.fault.KeepFault.TheVariants as keep
use Rattle.keeper_api.specs.declared.rows.Change.{Change}
use Rattle.keeper_api.specs.declared.rows.Row.{Row}
use Rattle.keeper_api.specs.Keeping as keeping
use Rattle.keeper_api.specs.Keeping.{HasFaultCause, Stays}
use Rattle.keeper_api.specs.Rows.{Rows, RiseFrom}
use Rattle.update_records.specs.declared.stored.Record.{Record}
use Rattle.store_reading.specs.Faults.{reading_fault, HasReadingCause, MayBeFault, OnBad, OnFailed, UnlessFailed}
use Rattle.table_reading.specs.Tables.{rows_in}
use Rattle.store_reading.specs.Told.{IsFirstBad, IsTableRead, SpellEach}
use Rattle.store_reading.specs.declared.fault.ReadingFault.{ReadingFault}
use Rattle.store_reading.specs.declared.fault.ReadingFault.TheVariants.{Failed, Bad, NoMemory}

-- ---- a fault of the keeper, handed on

pub fault_cause : {T U : Type 0} (before now : ℕ) (fault : KeepFault) (e : ReadingFault) → e ≡ reading_fault fault
    → HasFaultCause {T = T} before now (Err fault) → HasReadingCause {T = U} before now (Err e)
fault_cause {T} {U} before now keep.Failed e is h =
    subst (λ e. HasReadingCause {T = U} before now (Err e)) (sym is) (record { later = h.later; failed = h.failed; quiet = tt })
fault_cause {T} {U} before now keep.NoMemory e is h =
    subst (λ e. HasReadingCause {T = U} before now (Err e)) (sym is) (record { later = h.later; failed = tt; quiet = h.quiet })

pub fault_stays : (T U : Type 0) (P : Type 0) (fault : KeepFault) (e : ReadingFault) → e ≡ reading_fault fault → keeping.UnlessFailed {T = T} (Err fault) P
    → UnlessFailed {T = U} (Err e) P
fault_stays T U P keep.Failed e is h = subst (λ e. UnlessFailed {T = U} (Err e) P) (sym is) tt
fault_stays T U P keep.NoMemory e is h = subst (λ e. UnlessFailed {T = U} (Err e) P) (sym is) h

pub fault_not_bad : (P : ℕ → ℕ → Type 0) (fault : KeepFault) (e : ReadingFault) → e ≡ reading_fault fault → OnBad e P
fault_not_bad P keep.Failed e is = subst (λ e. OnBad e P) (sym is) tt
fault_not_bad P keep.NoMemory e is = subst (λ e. OnBad e P) (sym is) tt

pub fault_not_bad_in : (held : Option Rows) (P : Rows → ℕ → ℕ → Type 0) (fault : KeepFault) (e : ReadingFault) → e ≡ reading_fault fault
    → IfSome held (λ rows. OnBad e (P rows))
fault_not_bad_in None P fault e is = tt
fault_not_bad_in (Some rows) P fault e is = fault_not_bad (P rows) fault e is

-- ---- rows that were read, decoded

abbrev Decoded : Type 0
Decoded = Result (Vec Record Global) ReadingFault

pub decoded_records : (held : Option Rows) (table : ℕ) (items slice : List Row) (r : Decoded) → slice ≡ items → IfSome held (λ rows. items ≡ rows_in rows table)
    → IfOk r (λ records. SpellEach table slice records.items) → IfOk r (λ records. IfSome held (λ rows. SpellEach table (rows_in rows table) records.items))
decoded_records held table items slice (Err e) same read each = tt
decoded_records None table items slice (Ok records) same read each = tt
decoded_records (Some rows) table items slice (Ok records) same read each = subst (λ xs. SpellEach table xs records.items) (same ∙ read) each

pub decoded_read : (table : ℕ) (items slice : List Row) (r : Decoded) → slice ≡ items → RiseFrom [] items
    → IfOk r (λ records. SpellEach table slice records.items) → IfOk r (λ records. IsTableRead table records.items)
decoded_read table items slice (Err e) same rise each = tt
decoded_read table items slice (Ok records) same rise each = (slice, subst (RiseFrom []) (sym same) rise, each)

pub decoded_bad : (held : Option Rows) (table : ℕ) (items slice : List Row) (r : Decoded) → slice ≡ items → IfSome held (λ rows. items ≡ rows_in rows table)
    → IfErr r (λ fault. OnBad fault (λ t row. (t ≡ table) × IsFirstBad table slice row))
    → IfErr r (λ fault. IfSome held (λ rows. OnBad fault (λ t row. (t ≡ table) × IsFirstBad table (rows_in rows table) row)))
decoded_bad held table items slice (Ok records) same read bad = tt
decoded_bad None table items slice (Err e) same read bad = tt
decoded_bad (Some rows) table items slice (Err e) same read bad = subst (λ xs. OnBad e (λ t row. (t ≡ table) × IsFirstBad table xs row)) (same ∙ read) bad

may_be_bad : (table : ℕ) (rows : List Row) (fault : ReadingFault) → table < 8 → OnBad fault (λ t row. (t ≡ table) × IsFirstBad table rows row)
    → MayBeFault fault
may_be_bad table rows Failed own bad = tt
may_be_bad table rows NoMemory own bad = tt
may_be_bad table rows (Bad t row) own bad = (omega (arith, bad.0), omega (arith, bad.1.counted))

pub decoded_untold : (table : ℕ) (rows : List Row) (r : Decoded) → table < 8 → IfErr r (λ fault. OnBad fault (λ t row. (t ≡ table) × IsFirstBad table rows row))
    → IfErr r MayBeFault
decoded_untold table rows (Ok records) own bad = tt
decoded_untold table rows (Err e) own bad = may_be_bad table rows e own bad

pub decoded_stays : (P : Type 0) (r : Decoded) → P → UnlessFailed r P
decoded_stays P (Ok records) p = p
decoded_stays P (Err Failed) p = tt
decoded_stays P (Err (Bad t row)) p = p
decoded_stays P (Err NoMemory) p = p

pub decoded_cause : (before now : ℕ) (r : Decoded) → now ≡ before → OnFailed r ⊥ → HasReadingCause before now r
decoded_cause before now (Ok records) same quiet = record { later = omega arith; failed = tt; quiet = same }
decoded_cause before now (Err Failed) same quiet = absurd quiet
decoded_cause before now (Err (Bad t row)) same quiet = record { later = omega arith; failed = tt; quiet = same }
decoded_cause before now (Err NoMemory) same quiet = record { later = omega arith; failed = tt; quiet = same }

-- ---- one call after others

pub stays_on : {K : Type 0} (held : K → Option Rows) (is_open : K → Type 0) (has_room : K → List Change → Type 0) (old mid new : K)
    → Stays held is_open has_room old mid → Stays held is_open has_room mid new → Stays held is_open has_room old new
stays_on held is_open has_room old mid new first second = record {
  rows = second.rows ∙ first.rows;
  opened = second.opened;
  room = λ batch h. second.room batch (first.room batch h);
}

pub unless_failed : (T U : Type 0) (P Q : Type 0) (e : ReadingFault) → (P → Q) → UnlessFailed {T = T} (Err e) P → UnlessFailed {T = U} (Err e) Q
unless_failed T U P Q Failed f h = tt
unless_failed T U P Q (Bad t row) f h = f h
unless_failed T U P Q NoMemory f h = f h

pub cause_on : {T U : Type 0} (before mid now : ℕ) (e : ReadingFault) → mid ≡ before → HasReadingCause {T = T} mid now (Err e)
    → HasReadingCause {T = U} before now (Err e)
cause_on {T} {U} before mid now Failed same h = subst (λ n. HasReadingCause {T = U} n now (Err Failed)) same
    (record { later = h.later; failed = h.failed; quiet = tt })
cause_on {T} {U} before mid now (Bad t row) same h = subst (λ n. HasReadingCause {T = U} n now (Err (Bad t row))) same
    (record { later = h.later; failed = tt; quiet = h.quiet })
cause_on {T} {U} before mid now NoMemory same h = subst (λ n. HasReadingCause {T = U} n now (Err NoMemory)) same
    (record { later = h.later; failed = tt; quiet = h.quiet })
