use Rattle.std.proofs.Common.{◌≡◌, ◌<◌, length, get_or, ap, sym, subst, ◌∙◌}
use Rattle.std.specs.Global.{Vec}
use Rattle.std.specs.HashMap.{get}
use Rattle.std.specs.List.{find}
use Rattle.enq_base.specs.Ids.{same_id}
use Rattle.update_records.specs.declared.records.Unit.{Unit as UnitOfWork}
use Rattle.std.specs.Option.{option_map}
use Rattle.store_reading.specs.Stores.{is_header, unit_in, user_told}
use Rattle.store_reading.specs.Told.{records_in}
use Rattle.store_reading.proofs.lemmas.Gathers.{no_user, recorded_at, units_more, units_same}
use Rattle.store_reading.proofs.units.units_in.Goals as goal
use Rattle.store_reading.proofs.units.units_in.Goals.{in-Some+in-Some-copied+in_ok-unit_for+in_ok-push, in_default}

pub unreachable-requires : goal.unreachable-requires
unreachable-requires c =
    let records = c.args.records.now in
    let i = c.loop-stored.stored-index in
    let marks = c.table-stored-items.ensures in
    let low : i < length (records_in records 4) = subst (λ xs. i < length xs) marks c.loop-stored-test.true in
    let is : c.stored-item.result ≡ get_or (records_in records 4) i c.stored-item.result =
    subst (λ xs. c.stored-item.result ≡ get_or xs i c.stored-item.result) marks c.stored-item.is in
    let some = c.requires.headers c.in-Some.key
    (recorded_at (records_in records 4) i c.stored-item.result c.in-Some.key low is (sym c.key_in.ensures ∙ c.in-Some.is)) in
    no_user (find (is_header c.in-Some.key) (records_in records 1)) some
    (ap (λ hs. option_map user_told (find (is_header c.in-Some.key) hs)) (sym c.table-headers.ensures) ∙ sym (c.in_ok-told.ensures.users c.in-Some.key)
    ∙ ap (get same_id c.in_ok-told.told.users) (sym c.id_of.ensures) ∙ sym c.get.ensures.value ∙ sym c.copied.ensures ∙ c.in_default-copied.is)

pub loop-stored-preserved : goal.loop-stored-preserved
loop-stored-preserved c =
    let records = c.args.records.now in
    let i = c.loop-stored.stored-index in
    let marks = c.table-stored-items.ensures in
    let low : i < length (records_in records 4) = subst (λ xs. i < length xs) marks c.loop-stored-test.true in
    let is : c.stored-item.result ≡ get_or (records_in records 4) i c.stored-item.result =
    subst (λ xs. c.stored-item.result ≡ get_or xs i c.stored-item.result) marks c.stored-item.is in
    let f = unit_in (records_in records 1) (records_in records 3) (records_in records 7) in
    elim c.match-key_in.branch [
      | in-Some+in-Some-copied+in_ok-unit_for+in_ok-push w ↦
          let key = w.in-Some.key in
          let made : w.in_ok-unit_for.field-0 ≡ f key =
          w.in_ok-unit_for.ensures c.table.result.now c.table-2.result.now c.in_ok-told.ensures
          ∙ ap (λ hs. unit_in hs c.table.result.now c.table-2.result.now key) c.table-headers.ensures
          ∙ ap (λ steps. unit_in (records_in records 1) steps c.table-2.result.now key) c.table.ensures
          ∙ ap (λ locks. unit_in (records_in records 1) (records_in records 3) locks key) c.table-2.ensures in
          ap (λ (units : Vec UnitOfWork). units.items) w.units-is
          ∙ units_more f (records_in records 4) i c.stored-item.result key w.in_ok-unit_for.field-0 c.loop-stored.units.items w.push.new.self.items low is
          (sym c.key_in.ensures ∙ w.in-Some.is)
          made w.in_ok-push.ensures.items c.loop-stored.invariant
      | in_default w ↦
          ap (λ (units : Vec UnitOfWork). units.items) w.units-is
          ∙ units_same f (records_in records 4) i c.stored-item.result c.loop-stored.units.items low is
          (sym c.key_in.ensures ∙ w.in_default.is) c.loop-stored.invariant
    ]
