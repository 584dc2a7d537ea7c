-- What a ledger that a store may stand for has.
use Rattle.std.proofs.Common.{◌≡◌, ◌⊎◌, inl, inr, Bool, true, Option, None, Some, IfSome, sym, subst}
use Rattle.std.specs.Option.{is_some}
use Rattle.keeper_api.specs.Keeping.{IsWithin}
use Rattle.keeper_api.specs.Rows.{Rows}
use Rattle.update_records.specs.Ledger.{Ledger, StandFor}
use Rattle.posting.specs.Opening.{IsRaiseFault, OnBad, OnRefused}
use Rattle.ledger_steps.specs.Starts.{raised, IsRaised}
use Rattle.posting.specs.Reopening.{HasStood, IsOpeningFault, MayBeLeftBy}
use Rattle.posting.specs.BooksView.{IsUsable, BooksView}
use Rattle.posting.specs.declared.opening.BooksFault.{BooksFault}
use Rattle.posting.specs.declared.opening.BooksFault.TheVariants.{StoreFault, BadStore, NoStart, NoMemory}

-- ---- an opened store

on_told : (told held : Option Rows) (P : Type 0) → is_some told ≡ is_some held → IfSome held (λ _. P) → IfSome told (λ _. P)
on_told None held P same h = tt
on_told (Some rows) (Some other) P same h = h
on_told (Some rows) None P same h = cc

stand_alone : (held : Option Rows) (before : Rows → Type 0) (ledger opened : Ledger) → opened ≡ ledger
    → IfSome held (λ rows. before rows × StandFor rows ledger) → IfSome held (λ rows. StandFor rows opened)
stand_alone None before ledger opened is h = tt
stand_alone (Some rows) before ledger opened is h = subst (StandFor rows) (sym is) h.1

pub opened_usable : {K : Type 0} (held : K → Option Rows) (is_open : K → Type 0) (before : Rows → Type 0) (ledger : Ledger) (shelf : BooksView K)
    → is_open shelf.keeper → shelf.ledger ≡ ledger
    → IfSome (held shelf.keeper) (λ rows. before rows × StandFor rows ledger) → IsUsable held is_open shelf
opened_usable held is_open before ledger shelf opened is h =
    record { opened = opened; stands = stand_alone (held shelf.keeper) before ledger shelf.ledger is h }

stood : (held : Option Rows) (before : Rows → Type 0) (raise : Bool) (ledger opened : Ledger) → opened ≡ raised raise ledger
    → IfSome held (λ rows. before rows × StandFor rows ledger)
    → IfSome held (λ _. IsRaised (HasStood before) raise opened)
stood None before raise ledger opened is h = tt
stood (Some rows) before raise ledger opened is h = (ledger, (rows, h.0, h.1), is)

pub stood_now : (told held : Option Rows) (before : Rows → Type 0) (raise : Bool) (ledger opened : Ledger) → is_some told ≡ is_some held
    → opened ≡ raised raise ledger
    → IfSome held (λ rows. before rows × StandFor rows ledger) → IfSome told (λ _. IsRaised (HasStood before) raise opened)
stood_now told held before raise ledger opened same is h = on_told told held (IsRaised (HasStood before) raise opened) same
    (stood held before raise ledger opened is h)

left_alone : (held : Option Rows) (before middle may_leave : Rows → Type 0) (raise : Bool) (ledger opened : Ledger) → raise ≡ true → opened ≡ ledger
    → IsWithin middle before
    → IfSome held (λ rows. before rows × StandFor rows ledger) → IfSome held
    (λ _. (left : Rows) → may_leave left → middle left ⊎ StandFor left (raised true opened))
    → IfSome held (λ _. (left : Rows) → may_leave left → MayBeLeftBy before raise left)
left_alone None before middle may_leave raise ledger opened on is within stands h = tt
left_alone (Some rows) before middle may_leave raise ledger opened on is within stands h =
    λ left may. elim (h left may) as (λ _. MayBeLeftBy before raise left) [
      | inl was ↦ inl (within left was)
      | inr now ↦ inr (on, ledger, (rows, stands.0, stands.1), subst (λ l. StandFor left (raised true l)) is now)
    ]

pub left_by : (told held : Option Rows) (before middle may_leave : Rows → Type 0) (raise : Bool) (ledger opened : Ledger) → is_some told ≡ is_some held
    → raise ≡ true → opened ≡ ledger → IsWithin middle before
    → IfSome held (λ rows. before rows × StandFor rows ledger) → IfSome held
    (λ _. (left : Rows) → may_leave left → middle left ⊎ StandFor left (raised true opened))
    → IfSome told (λ _. (left : Rows) → may_leave left → MayBeLeftBy before raise left)
left_by told held before middle may_leave raise ledger opened same on is within stands h =
    on_told told held ((left : Rows) → may_leave left → MayBeLeftBy before raise left) same
    (left_alone held before middle may_leave raise ledger opened on is within stands h)

last_start : (held : Option Rows) (before : Rows → Type 0) (raise : Bool) (ledger opened : Ledger) → raise ≡ true → opened ≡ ledger → opened.start ≡ 4294967295
    → IfSome held (λ rows. before rows × StandFor rows ledger)
    → IfSome held (λ rows. IsOpeningFault raise rows NoStart)
last_start None before raise ledger opened on is last h = tt
last_start (Some rows) before raise ledger opened on is last h = (on, ledger, h.1, subst (λ (l : Ledger). l.start ≡ 4294967295) is last)

pub any_fault : (now : Option Rows) (raise : Bool) → IfSome now (λ rows. IsOpeningFault raise rows StoreFault)
    × IfSome now (λ rows. IsOpeningFault raise rows NoMemory)
any_fault None raise = (tt, tt)
any_fault (Some rows) raise = (tt, tt)

pub raise_fault : (now held : Option Rows) (before : Rows → Type 0) (raise : Bool) (ledger opened : Ledger) (fault : BooksFault) → raise ≡ true
    → opened ≡ ledger → IsRaiseFault opened fault → OnRefused fault (now ≡ held)
    → IfSome held (λ rows. before rows × StandFor rows ledger) → IfSome now (λ rows. IsOpeningFault raise rows fault)
raise_fault now held before raise ledger opened StoreFault on is why rows h = (any_fault now raise).0
raise_fault now held before raise ledger opened (BadStore table row) on is why rows h = absurd why
raise_fault now held before raise ledger opened NoStart on is why rows h =
    subst (λ o. IfSome o (λ rows. IsOpeningFault raise rows NoStart)) (sym rows) (last_start held before raise ledger opened on is why h)
raise_fault now held before raise ledger opened NoMemory on is why rows h = (any_fault now raise).1

pub found_here : (held : Option Rows) (before : Rows → Type 0) (ledger : Ledger) → IfSome held (λ rows. before rows × StandFor rows ledger) → IfSome held before
found_here None before ledger h = tt
found_here (Some rows) before ledger h = h.0

-- where the rows of a store at the last start come from
pub raise_found : (now held : Option Rows) (before : Rows → Type 0) (ledger opened : Ledger) (fault : BooksFault) → IsRaiseFault opened fault
    → OnRefused fault (now ≡ held)
    → IfSome held (λ rows. before rows × StandFor rows ledger) → OnBad fault (IfSome now before)
raise_found now held before ledger opened StoreFault why rows h = tt
raise_found now held before ledger opened (BadStore table row) why rows h = absurd why
raise_found now held before ledger opened NoStart why rows h = subst (λ o. IfSome o before) (sym rows) (found_here held before ledger h)
raise_found now held before ledger opened NoMemory why rows h = tt
