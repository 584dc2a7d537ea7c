-- What holds of the books for which rows stand.
use Rattle.std.proofs.Common.{◌≡◌, ◌⊎◌, inl, inr, [], refl, sym, subst}
use Rattle.keeper_api.specs.Rows.{Rows}
use Rattle.posting.proofs.lemmas.HeldRows.{holds}
use Rattle.posting.proofs.lemmas.LedgerNumbers.{sound_numbers}
use Rattle.update_records.specs.Ledger.{IsLawful, Ledger, StandFor, no_ledger}
use Rattle.ledger_laws.specs.Books.{AreBooksRight, HoldBooks}
use Rattle.ledger_laws.proofs.Counts.{each_once}
use Rattle.ledger_laws.proofs.Behind.{in_turn}

none_right : AreBooksRight no_ledger
none_right = record { once = each_once [] [] tt; turn = in_turn [] [] tt; applied = tt; numbers = sound_numbers no_ledger (inl refl) }

right : (ledger : Ledger) → (ledger ≡ no_ledger) ⊎ IsLawful ledger → AreBooksRight ledger
right ledger known = elim known [
  | inl none ↦ subst AreBooksRight (sym none) none_right
  | inr law ↦ record {
    once = each_once ledger.units ledger.marks law.legal;
    turn = in_turn ledger.units ledger.marks law.legal;
    applied = law.right;
    numbers = sound_numbers ledger (inr law);
  }
]

pub books_right : (rows : Rows) (ledger : Ledger) → StandFor rows ledger → AreBooksRight ledger
books_right rows ledger h = right ledger h.lawful

pub holds_books : (rows : Rows) (ledger : Ledger) → StandFor rows ledger → HoldBooks rows ledger
holds_books rows ledger h = holds rows ledger h
