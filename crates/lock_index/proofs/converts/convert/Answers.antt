use Rattle.std.proofs.Common.{◌∙◌, ap, sym, subst, not, nat_eq, filter, Bool}
use Rattle.std.specs.List.{IsDistinct, list_any}
use Rattle.lock_entry.specs.declared.entry.Entry.{Entry}
use Rattle.lock_entry.specs.Converting.{gives_way, turns}
use Rattle.lock_entry.specs.Names.{has_distinct_names, names_differ}
use Rattle.lock_entry.specs.Turning.{turned}
use Rattle.lock_entry.proofs.lemmas.Lists.{all_pairs-filter}
use Rattle.lock_index.specs.Slots.{live, on_some, slot_at}
use Rattle.lock_index.proofs.Cleared.{live-cleared}
use Rattle.lock_index.proofs.Conversions.{turned-kept}
use Rattle.lock_index.proofs.converts.convert.Goals as goal

pub turn_all-requires : goal.turn_all-requires
turn_all-requires c =
    let q : Entry → Bool = gives_way c.args.asker.now c.args.asked.now in
    ap has_distinct_names
    (live-cleared q c.args.shelf.now c.clear_places.new.shelf c.as_slice-2.result.now c.clear_places.ensures.long c.clear_places.ensures.cleared
    (λ j. ap (list_any (nat_eq j)) c.as_slice-2.ensures.keys ∙ c.in_ok-places.ensures j))
    ∙ all_pairs-filter names_differ (λ e. not (q e)) (live c.args.shelf.now) c.requires

pub returns-clause-after : goal.returns-clause-after
returns-clause-after c =
    let q : Entry → Bool = gives_way c.args.asker.now c.args.asked.now in
    c.turn_all.ensures
    ∙ ap (λ es. turned es (turns c.args.asker.now c.args.asked.now))
    (live-cleared q c.args.shelf.now c.clear_places.new.shelf c.as_slice-2.result.now c.clear_places.ensures.long c.clear_places.ensures.cleared
    (λ j. ap (list_any (nat_eq j)) c.as_slice-2.ensures.keys ∙ c.in_ok-places.ensures j))
    ∙ turned-kept (live c.args.shelf.now) c.args.asker.now c.args.asked.now

pub returns-clause-removed : goal.returns-clause-removed
returns-clause-removed c =
    let q : Entry → Bool = gives_way c.args.asker.now c.args.asked.now in
    c.in_ok-removed.ensures q (subst (λ ks. IsDistinct nat_eq ks) (sym c.as_slice.ensures.keys) c.as_slice.ensures.unique)
    (λ j. ap (list_any (nat_eq j)) c.as_slice.ensures.keys ∙ c.in_ok-places.ensures j ∙ ap (λ ss. on_some q (slot_at ss j)) (sym c.slots.ensures))
    ∙ ap (λ ss. filter q (live ss)) c.slots.ensures
