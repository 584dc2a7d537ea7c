-- What the code's own records stand for.
use Rattle.lock_objects.specs.Objects.{Object}
use Rattle.landscape.specs.Ranges.{RangeShape}
use Rattle.landscape.specs.declared.object.Parts.{Parts}
use Rattle.landscape.specs.declared.range.RangeShape.{RangeShape as Shape}

abbrev pub seen : Shape → RangeShape
seen s = record {
  object = s.object.now;
  nr = s.nr.now;
  from = s.from;
  to = s.to;
  buffer = s.buffer;
  percent =
      s.percent;
}

abbrev pub seen_parts : Parts → Object
seen_parts p = record { name = p.name; fields = p.fields.items; tables = p.tables.items }
