use Rattle.std.proofs.Common.{◌≡◌, ℕ, List, Option, ap, inl, refl, subst, sym, ◌∙◌}
use Rattle.std.specs.Prelude.{IfSome}
use Rattle.backup_file.specs.declared.handed.Handed.{Handed}
use Rattle.backup_file.specs.Backup.{BackupView, IsReady}
use Rattle.backup_file.specs.Plans.{IsCompacted, IsDone, IsLeftCompact}
use Rattle.backup_file.proofs.lemmas.Adding.{compact_done, done_before, nothing_done, ready_compacted, ready_read, ready_version}
use Rattle.backup_file.proofs.backup.Backup.compact.Goals as goal

-- ---- its log has one hand of each list

pub returns-then-self-clause-done : goal.returns-then-self-clause-done
returns-then-self-clause-done g c = λ t l ready.
    done_before g.D.Disk.reads g.D.Disk.may_leave l c.args.self.now ready (sym (ap (λ b. b.compact) c.self.view_is) ∙ c.if-self.true)

pub returns-then-self-clause-still : goal.returns-then-self-clause-still
returns-then-self-clause-still g c = λ t l ready is. refl

-- ---- it was written anew

pub returns-in-Ok-Some-clause-still : goal.returns-in-Ok-Some-clause-still
returns-in-Ok-Some-clause-still g c = λ t l ready is.
    let was = g.D.Disk.reads c.self.inside.disk in
    let needed = subst (λ (r : Option ℕ). IfSome r (λ _. (k : List Handed) → IsDone was k → ⊥)) c.in-Ok-Some.field-0-is (c.in-Ok-Some.ensures.needed t) in
    absurd (needed l (subst (λ (b : BackupView g.row.D.Denot). IsDone (g.D.Disk.reads b.disk) l) (sym c.self.view_is) is))

pub returns-in-Ok-Some-clause-ready : goal.returns-in-Ok-Some-clause-ready
returns-in-Ok-Some-clause-ready g c = λ t l ready.
    let was = subst (λ (b : BackupView g.row.D.Denot). IsReady g.D.Disk.reads g.D.Disk.may_leave b l) (sym c.self.view_is) ready in
    let disk = c.compact_log.new.disk in
    let opened = subst
    (λ (r : Option ℕ). IsCompacted (g.D.Disk.reads c.self.inside.disk) (g.D.Disk.reads disk) (g.D.Disk.may_leave disk) l r)
    c.in-Ok-Some.field-0-is
    (c.in-Ok-Some.ensures.done t l (ready_version g.D.Disk.reads g.D.Disk.may_leave l _ was) was.at_rest.durable) in
    ready_compacted g.D.Disk.reads g.D.Disk.may_leave l _ _ was refl c.in-Ok-Some.gate refl opened

pub returns-in-Ok-Some-clause-done : goal.returns-in-Ok-Some-clause-done
returns-in-Ok-Some-clause-done g c = λ t l ready.
    let was = subst (λ (b : BackupView g.row.D.Denot). IsReady g.D.Disk.reads g.D.Disk.may_leave b l) (sym c.self.view_is) ready in
    let disk = c.compact_log.new.disk in
    let opened = subst
    (λ (r : Option ℕ). IsCompacted (g.D.Disk.reads c.self.inside.disk) (g.D.Disk.reads disk) (g.D.Disk.may_leave disk) l r)
    c.in-Ok-Some.field-0-is
    (c.in-Ok-Some.ensures.done t l (ready_version g.D.Disk.reads g.D.Disk.may_leave l _ was) was.at_rest.durable) in
    inl (compact_done (g.D.Disk.reads disk) (g.D.Disk.may_leave disk) c.in-Ok-Some.gate l opened)

-- ---- nothing was to be done

pub returns-in-Ok-None-clause-still : goal.returns-in-Ok-None-clause-still
returns-in-Ok-None-clause-still g c = λ t l ready is.
    let was = subst (λ (b : BackupView g.row.D.Denot). IsReady g.D.Disk.reads g.D.Disk.may_leave b l) (sym c.self.view_is) ready in
    let disk = c.compact_log.new.disk in
    let stays = subst
    (λ (r : Option ℕ). IsCompacted (g.D.Disk.reads c.self.inside.disk) (g.D.Disk.reads disk) (g.D.Disk.may_leave disk) l r)
    c.in-Ok-None.field-0-is
    (c.in-Ok-None.ensures.done t l (ready_version g.D.Disk.reads g.D.Disk.may_leave l _ was) was.at_rest.durable) in
    subst (λ (b : BackupView g.row.D.Denot). g.D.Disk.reads disk ≡ g.D.Disk.reads b.disk) c.self.view_is stays.0

pub returns-in-Ok-None-clause-ready : goal.returns-in-Ok-None-clause-ready
returns-in-Ok-None-clause-ready g c = λ t l ready.
    let was = subst (λ (b : BackupView g.row.D.Denot). IsReady g.D.Disk.reads g.D.Disk.may_leave b l) (sym c.self.view_is) ready in
    let disk = c.compact_log.new.disk in
    let stays = subst
    (λ (r : Option ℕ). IsCompacted (g.D.Disk.reads c.self.inside.disk) (g.D.Disk.reads disk) (g.D.Disk.may_leave disk) l r)
    c.in-Ok-None.field-0-is
    (c.in-Ok-None.ensures.done t l (ready_version g.D.Disk.reads g.D.Disk.may_leave l _ was) was.at_rest.durable) in
    ready_read g.D.Disk.reads g.D.Disk.may_leave l _ _ was refl stays.0 stays.1 refl refl

pub returns-in-Ok-None-clause-done : goal.returns-in-Ok-None-clause-done
returns-in-Ok-None-clause-done g c = λ t l ready.
    let was = subst (λ (b : BackupView g.row.D.Denot). IsReady g.D.Disk.reads g.D.Disk.may_leave b l) (sym c.self.view_is) ready in
    let disk = c.compact_log.new.disk in
    let stays = subst
    (λ (r : Option ℕ). IsCompacted (g.D.Disk.reads c.self.inside.disk) (g.D.Disk.reads disk) (g.D.Disk.may_leave disk) l r)
    c.in-Ok-None.field-0-is
    (c.in-Ok-None.ensures.done t l (ready_version g.D.Disk.reads g.D.Disk.may_leave l _ was) was.at_rest.durable) in
    subst (λ (b : BackupView g.row.D.Denot). IsLeftCompact (g.D.Disk.reads b.disk) (g.D.Disk.reads disk) l) c.self.view_is
    (nothing_done (g.D.Disk.reads c.self.inside.disk) (g.D.Disk.reads disk) l stays.0 stays.2)
