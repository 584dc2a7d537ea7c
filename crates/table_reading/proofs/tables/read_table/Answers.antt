use Rattle.std.proofs.Common.{◌<◌, [], length, IfSome, refl, ap, sym, subst, ◌∙◌, arith}
use Rattle.keeper_api.specs.Rows.{RiseFrom}
use Rattle.table_reading.specs.Tables.{last_key, rows_in}
use Rattle.table_reading.proofs.lemmas.Pages.{IsFront, all_rows, more_rows, no_front, rise_append}
use Rattle.table_reading.proofs.tables.read_table.Goals as goal

pub loop-init : goal.loop-init
loop-init g c = record {
  stays = record { rows = refl; opened = c.requires; room = λ batch h. h };
  told = refl;
  crash = λ left h. h;
  count = refl;
  rise = subst (RiseFrom []) (sym c.new-all.ensures.items) tt;
  front = subst (λ xs. IfSome (g.K.Keeper.held c.args.keeper.now) (λ rows. IsFront xs (rows_in rows c.args.table))) (sym c.new-all.ensures.items)
      (no_front (g.K.Keeper.held c.args.keeper.now) c.args.table);
}

pub loop-preserved : goal.loop-preserved
loop-preserved g c = record {
  stays = record {
    rows = c.in_ok-page.ensures.stays.rows ∙ c.loop.invariant.stays.rows;
    opened = c.in_ok-page.ensures.stays.opened;
    room = λ batch h. c.in_ok-page.ensures.stays.room batch (c.loop.invariant.stays.room batch h);
  };
  told = c.page.ensures.told ∙ c.loop.invariant.told;
  crash = λ left h. c.loop.invariant.crash left (c.page.ensures.crash left h);
  count = c.in_ok-page.ensures.cause.quiet ∙ c.loop.invariant.count;
  rise = subst (RiseFrom []) (sym c.in_ok-append.ensures.items) (rise_append [] c.loop.all.items c.in_ok-page.page.items c.loop.invariant.rise
      (subst (λ k. RiseFrom k c.in_ok-page.page.items) (c.last_key.ensures ∙ ap (last_key []) c.as_slice.ensures.value) c.in_ok-page.ensures.shape.rise));
  front = more_rows (g.K.Keeper.held c.args.keeper.now) (g.K.Keeper.held c.loop.keeper) c.args.table 1000 c.last_key.result.now c.loop.all.items
      c.in_ok-page.page.items c.append.new.self.items
      c.loop.invariant.stays.rows (c.last_key.ensures ∙ ap (last_key []) c.as_slice.ensures.value) c.in_ok-append.ensures.items c.loop.invariant.front
      c.in_ok-page.ensures.rows;
}

pub returns-then-is_last-clause-rows : goal.returns-then-is_last-clause-rows
returns-then-is_last-clause-rows g c =
    let short : length c.in_ok-page.page.items < 1000 = omega arith in
    all_rows (g.K.Keeper.held c.args.keeper.now) (g.K.Keeper.held c.loop.keeper) c.args.table 1000 c.last_key.result.now c.loop.all.items
    c.in_ok-page.page.items c.append.new.self.items
    c.loop.invariant.stays.rows (c.last_key.ensures ∙ ap (last_key []) c.as_slice.ensures.value) c.in_ok-append.ensures.items short c.loop.invariant.front
    c.in_ok-page.ensures.rows

pub returns-then-is_last-clause-rise : goal.returns-then-is_last-clause-rise
returns-then-is_last-clause-rise g c =
    subst (RiseFrom []) (sym c.in_ok-append.ensures.items) (rise_append [] c.loop.all.items c.in_ok-page.page.items c.loop.invariant.rise
    (subst (λ k. RiseFrom k c.in_ok-page.page.items) (c.last_key.ensures ∙ ap (last_key []) c.as_slice.ensures.value) c.in_ok-page.ensures.shape.rise))
