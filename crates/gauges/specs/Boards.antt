-- What clauses say of gauges, their writer and their passes.
use Rattle.std.specs.Prelude.{◌≡◌, List}
use Rattle.enq_base.specs.declared.condition.Readings.{Readings}
use Rattle.gauges.specs.declared.board.GaugePass.{GaugePass}
use Rattle.gauges.specs.declared.board.GaugeWriter.{GaugeWriter}
use Rattle.gauges.specs.declared.board.Gauges.{Gauges}

-- all that the writer published, the latest last
abbrev pub told : GaugeWriter → List Readings
told w = w.seat.me.0.told

-- the last of it
abbrev pub latest : GaugeWriter → Readings
latest w = w.seat.me.0.latest

-- what the pass's looks gave
abbrev pub seen : GaugePass → List Readings
seen p = p.seat.me.0.seen

abbrev pub IsWriterOf : Gauges → GaugeWriter → Type 0
IsWriterOf gauges w = w.seat.table_id ≡ gauges.table.shared.table_id

abbrev pub IsReaderOf : Gauges → GaugePass → Type 0
IsReaderOf gauges p = p.seat.table_id ≡ gauges.table.shared.table_id
