use Rattle.std.proofs.Common.{◌≡◌, ◌+◌, ◌∷◌, [], ap, length, arith, length-append, subst}
use Rattle.backup_file.specs.Compacting.{IsRewritten, next_place}
use Rattle.backup_file.specs.File.{compact}
use Rattle.backup_file.proofs.lemmas.Slotted.{newer_names, next_force, next_starts}
use Rattle.backup_file.proofs.compacting.rewrite.Goals as goal

pub returns-in_err-lay_log-clause-images : goal.returns-in_err-lay_log-clause-images
returns-in_err-lay_log-clause-images g c = λ t front l is rest spelled leads. c.lay_log.ensures.images t front l is rest

pub returns-in_err-turn_slots-clause-images : goal.returns-in_err-turn_slots-clause-images
returns-in_err-turn_slots-clause-images g c = λ t front l is rest spelled leads.
    let both = c.in_ok-lay_log.ensures.laid t front l is rest spelled leads in
    c.turn_slots.ensures.images t both.rest l both.laid both.names
    (newer_names c.args.place.now c.args.at both.rest (compact l) both.offset l both.names both.has both.starts)

pub returns-in_err-cut_log-clause-images : goal.returns-in_err-cut_log-clause-images
returns-in_err-cut_log-clause-images g c = λ t front l is rest spelled leads.
    let p = c.args.place.now in
    let both = c.in_ok-lay_log.ensures.laid t front l is rest spelled leads in
    let newer = newer_names p c.args.at both.rest (compact l) both.offset l both.names both.has both.starts in
    let size : length c.args.text.now ≡ length (compact l) + 1 = omega (arith, ap length spelled, length-append (compact l) (0 ∷ [])) in
    let ends : c.args.at + length c.args.text.now ≡ p.gate + 40 + both.offset + length (compact l) + 1 = omega (arith, size, both.starts) in
    c.cut_log.ensures.images t (next_place p c.args.at) both.rest l both.offset
    (c.in_ok-turn_slots.ensures.turned t both.rest l both.laid both.names newer) (next_force p c.args.at both.names.force) both.has
    (next_starts p c.args.at both.offset both.starts) ends

pub returns-clause-images : goal.returns-clause-images
returns-clause-images g c = λ t front l is rest spelled leads.
    let p = c.args.place.now in
    let both = c.in_ok-lay_log.ensures.laid t front l is rest spelled leads in
    let newer = newer_names p c.args.at both.rest (compact l) both.offset l both.names both.has both.starts in
    let size : length c.args.text.now ≡ length (compact l) + 1 = omega (arith, ap length spelled, length-append (compact l) (0 ∷ [])) in
    let ends : c.args.at + length c.args.text.now ≡ p.gate + 40 + both.offset + length (compact l) + 1 = omega (arith, size, both.starts) in
    c.cut_log.ensures.images t (next_place p c.args.at) both.rest l both.offset
    (c.in_ok-turn_slots.ensures.turned t both.rest l both.laid both.names newer) (next_force p c.args.at both.names.force) both.has
    (next_starts p c.args.at both.offset both.starts) ends

pub returns-clause-rewritten : goal.returns-clause-rewritten
returns-clause-rewritten g c = λ t front l is rest spelled leads.
    let p = c.args.place.now in
    let both = c.in_ok-lay_log.ensures.laid t front l is rest spelled leads in
    let newer = newer_names p c.args.at both.rest (compact l) both.offset l both.names both.has both.starts in
    let size : length c.args.text.now ≡ length (compact l) + 1 = omega (arith, ap length spelled, length-append (compact l) (0 ∷ [])) in
    let ends : c.args.at + length c.args.text.now ≡ p.gate + 40 + both.offset + length (compact l) + 1 = omega (arith, size, both.starts) in
    subst (λ n. IsRewritten (next_place p c.args.at) (n + length (compact l)) l (g.D.Disk.reads c.cut_log.new.disk) (g.D.Disk.may_leave c.cut_log.new.disk))
    both.starts
    (c.in_ok-cut_log.ensures.cut t (next_place p c.args.at) both.rest l both.offset
    (c.in_ok-turn_slots.ensures.turned t both.rest l both.laid both.names newer) (next_force p c.args.at both.names.force) both.has
    (next_starts p c.args.at both.offset both.starts) ends)
