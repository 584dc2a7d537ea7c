-- In a hall that was just opened no worker has an order.
use Rattle.std.proofs.Common.{◌≡◌, Bool, ℕ, zero, suc, List, replicate, None, refl, sym, subst}
use Rattle.hall_model.specs.Orders.{order_of}
use Rattle.hall_model.specs.State.{State, opened}
use Rattle.number_ranges.specs.declared.interval.Interval.{Interval}
use Rattle.order_laws.specs.Behind.{NoneHasOrder}
use Rattle.update_records.specs.Ledger.{Ledger}

no_order : (n w : ℕ) → order_of (replicate n None) w ≡ None
no_order zero w = refl
no_order (suc n) zero = refl
no_order (suc n) (suc w) = no_order n w

pub none_has_order : (max_locks mark_limit : ℕ) (intervals : List Interval) (told linked : Bool) (stored : Ledger) (s : State)
    → s ≡ opened max_locks mark_limit intervals told linked stored → NoneHasOrder s
none_has_order max_locks mark_limit intervals told linked stored s is = subst NoneHasOrder (sym is) (λ worker few. no_order 256 worker)
