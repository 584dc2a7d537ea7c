use Rattle.std.proofs.Common.{◌≡◌, ◌≤◌, ◌++◌, drop, length, not, take, ap, sym, subst, ◌∙◌}
use Rattle.std.specs.List.{filter}
use Rattle.std.proofs.Math.Seq.{take-append_seam}
use Rattle.enq_base.specs.declared.owner.Owner.TheVariants.{Upd}
use Rattle.mode_rules.specs.Modes.{same_mode}
use Rattle.mode_rules.specs.declared.Mode.TheVariants.{O}
use Rattle.lock_laws.proofs.OwnEntries.{filter-filter}
use Rattle.lock_entry.specs.Names.{is_of}
use Rattle.lock_entry.specs.declared.entry.Entry.{Entry}
use Rattle.backup_file.specs.Handing.{IsHandable}
use Rattle.enq_server.specs.Server.{lasting, of_user, table_of}
use Rattle.enq_server.proofs.Lasting.{lasting_handable, length-user, user_handable}
use Rattle.enq_server.proofs.server.lasting.Goals as goal

pub returns-clause-entries : goal.returns-clause-entries
returns-clause-entries g c =
    let new = c.put_under.new.entries in
    let full : c.drop_optimistic.new.entries.len ≡ length new =
    sym (ap length c.put_under.ensures ∙ length-user c.args.user.now c.as_mut_slice.result.now ∙ c.as_mut_slice.ensures.len) in
    ap (λ n. take n (new ++ drop (length new) c.drop_optimistic.new.entries.items)) full
    ∙ take-append_seam new (drop (length new) c.drop_optimistic.new.entries.items)
    ∙ c.put_under.ensures
    ∙ ap (of_user c.args.user.now)
    (c.as_mut_slice.ensures.value
    ∙ c.drop_optimistic.ensures
    ∙ ap (filter (λ (e : Entry). not (same_mode e.mode O))) c.in_ok-entries.ensures
    ∙ filter-filter (is_of (Upd c.args.unit.now)) (λ (e : Entry). not (same_mode e.mode O)) (table_of g.T.LockStore.table c.args.table.now).entries)

pub returns-clause-handable : goal.returns-clause-handable
returns-clause-handable g c = λ some.
    let are = returns-clause-entries g c in
    let table = (table_of g.T.LockStore.table c.args.table.now).entries in
    let own = lasting c.args.unit.now table in
    subst (IsHandable c.args.unit.now) (sym are)
    (user_handable c.args.unit.now c.args.user.now own
    (lasting_handable c.args.unit.now table c.requires.sound (subst (λ n. 1 ≤ n) (ap length are ∙ length-user c.args.user.now own) some)))
