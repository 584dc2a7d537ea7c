-- Sources and sinks in memory, whose calls fail where they are told to.
use Rattle.std.specs.Prelude.{◌≡◌, ◌⊎◌, ℕ, List, ◌++◌, drop, Contains}
use Rattle.enq_base.specs.Causes.{one_more}

-- what a source in memory shows: the bytes that are left, the numbers of the calls that fail,
-- how many calls were made, and how many of them failed
pub record SourceView : Type 0 where
  pub left : List ℕ
  pub fails : List ℕ
  pub calls : ℕ
  pub faults : ℕ

-- what a sink in memory shows: the bytes that were written, the numbers of the calls that fail,
-- how many calls were made, how many of them failed, and how many of those found no memory
pub record SinkView : Type 0 where
  pub written : List ℕ
  pub fails : List ℕ
  pub calls : ℕ
  pub faults : ℕ
  pub refused : ℕ

-- the call after so many calls stands in the list of those that fail
abbrev pub IsNextListed : List ℕ → ℕ → Type 0
IsNextListed fails calls = Contains fails (one_more calls)

-- a source after a call that gave its first n bytes
abbrev pub after_read : SourceView → ℕ → SourceView
after_read s n = record s { left = drop n s.left; calls = one_more s.calls }

-- a source after a call that failed
abbrev pub after_failed_read : SourceView → SourceView
after_failed_read s = record s { calls = one_more s.calls; faults = one_more s.faults }

-- a sink after a call that wrote these bytes
abbrev pub after_write : SinkView → List ℕ → SinkView
after_write s bytes = record s { written = s.written ++ bytes; calls = one_more s.calls }

-- a sink after a call that failed by the list
abbrev pub after_listed_write : SinkView → SinkView
after_listed_write s = record s { calls = one_more s.calls; faults = one_more s.faults }

-- a sink after a call that found no memory
abbrev pub after_refused_write : SinkView → SinkView
after_refused_write s =
    record s { calls = one_more s.calls; faults = one_more s.faults; refused = one_more s.refused }

-- a write failed by the list, or else since it found no memory
abbrev pub FailsWrite : SinkView → SinkView → Type 0
FailsWrite old new =
    (IsNextListed old.fails old.calls × (new ≡ after_listed_write old))
    ⊎ (¬ IsNextListed old.fails old.calls × (new ≡ after_refused_write old))
