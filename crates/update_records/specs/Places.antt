-- What the row of a record is named by.
use Rattle.std.specs.Prelude.{ℕ, List}
use Rattle.enq_base.specs.declared.owner.UnitKey.{UnitKey}
use Rattle.update_records.specs.declared.stored.Record.{Record}
use Rattle.update_records.specs.declared.stored.Record.TheVariants as rec

pub data Place : Type 0 where
  OfStart : Place
  OfUnit : UnitKey → Place
  OfPart : UnitKey → ℕ → Place
  OfStep : UnitKey → ℕ → ℕ → Place
  OfMark : ℕ → Place
  OfLevel : List ℕ → List ℕ → Place
  OfBusiness : List ℕ → List ℕ → Place
  OfLock : UnitKey → ℕ → Place

abbrev pub place_of : Record → Place
place_of (rec.Meta start marks) = OfStart
place_of (rec.Header unit user v1 v2 locks numbers) = OfUnit unit
place_of (rec.Module unit part count) = OfPart unit part
place_of (rec.Step unit part index effect) = OfStep unit part index
place_of (rec.Mark m) = OfMark m.seq
place_of (rec.Level object nr from to level buffered) = OfLevel object nr
place_of (rec.Business table key text) = OfBusiness table key
place_of (rec.Lock unit index table mode count pattern) = OfLock unit index
