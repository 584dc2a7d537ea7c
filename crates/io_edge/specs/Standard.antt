-- Sources and sinks over readers and writers of std.
use Rattle.std.specs.Prelude.{ℕ, List}

-- what a source over a reader shows: the reader, the bytes that were read ahead from it,
-- and how many calls failed
pub record ReaderView (R : Type 0) : Type 0 where
  pub reader : R
  pub ahead : List ℕ
  pub faults : ℕ

-- what a sink over a writer shows: the writer, and how many calls failed
pub record WriterView (W : Type 0) : Type 0 where
  pub writer : W
  pub faults : ℕ
