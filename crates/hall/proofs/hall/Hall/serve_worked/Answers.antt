use Rattle.std.proofs.Common.{◌≡◌, [], ◌∷◌, ◌++◌, true, false, IsTrue, is_some, refl, sym, ◌∙◌, subst, rules}
use Rattle.hall_calls.proofs.lemmas.WithHistory.{given_noted, unrecorded_same}
use Rattle.hall_laws.proofs.keeping.InFlight.{kept_call}
use Rattle.hall_laws.proofs.keeping.Unchanged.{noted_step}
use Rattle.hall_calls.proofs.lemmas.GoodFiles.{given_sound}
use Rattle.hall.proofs.KeptReplicas.{loses_only}
use Rattle.hall_calls.proofs.lemmas.Replies.{given_telling}
use Rattle.hall_model.specs.History.{IsStep, entry_of}
use Rattle.hall_model.specs.Kept.{IsKept}
use Rattle.hall_model.specs.Calls.{call_of, renews_replica}
use Rattle.hall_model.specs.State.{is_honest}
use Rattle.hall_calls.specs.Serving.{LosesOnly, with_calls}
use Rattle.hall_calls.specs.View.{View}
use Rattle.hall_model.specs.Stocks.{MayCall}
use Rattle.hall_model.specs.Unsound.{is_unsound_file, is_unsound_replica}
use Rattle.hall.proofs.hall.Hall.serve_worked.Goals as goal

pub invariant_of-self : goal.invariant_of-self
invariant_of-self g c =
    let past = c.self.inside.past.items in
    let s = with_calls c.self.inside.present.state past in
    let after = with_calls c.serve-answer.new.self.state past in
    let off = sym c.is_unrecorded.ensures ∙ c.if-is_unrecorded.true in (
      c.self.invariant.0,
      subst IsKept (sym (unrecorded_same s c.args.command after c.serve-answer.result.reply c.serve-answer.ensures.call.act off))
          c.self.invariant.1,
    )

pub invariant_of-self-2 : goal.invariant_of-self-2
invariant_of-self-2 g c =
    let past = c.self.inside.past.items in
    let s = with_calls c.self.inside.present.state past in
    let after = with_calls c.serve-answer.new.self.state past in
    let given = c.told_twice-noted.result.1 in
    let on = sym c.is_unrecorded.ensures ∙ c.if-is_unrecorded.false in
    let asked : MayCall s (call_of c.args.command) = subst (λ (v : View g.row.K.Denot g.row.D.Denot g.row.L.Denot). MayCall v.state (call_of c.args.command))
    (sym c.self.view_is) c.requires in
    let act = given_telling s c.args.command c.serve-answer.result.taken after c.serve-answer.result.reply given c.told_twice-noted.ensures.given
    c.serve-answer.ensures.call in
    let noted = c.note.ensures.noted ∙ (λ i. past ++ entry_of c.args.line c.args.command (c.told_twice-noted.ensures.twice i) (c.after-after.ensures i) ∷ []) in (
      search rules,
      subst (λ p. IsKept (with_calls c.serve-answer.new.self.state p)) (sym noted)
          (kept_call s c.args.line c.args.command c.serve-answer.result.taken after given asked c.self.invariant.1 (c.serve-answer.ensures.room on) act.act),
    )

pub returns-clause-step : goal.returns-clause-step
returns-clause-step g c =
    let past = c.self.inside.past.items in
    let s = with_calls c.self.inside.present.state past in
    let after = with_calls c.serve-answer.new.self.state past in
    let given = c.told_twice-noted.result.1 in
    let on = sym c.is_unrecorded.ensures ∙ c.if-is_unrecorded.false in
    let asked : MayCall s (call_of c.args.command) = subst (λ (v : View g.row.K.Denot g.row.D.Denot g.row.L.Denot). MayCall v.state (call_of c.args.command))
    (sym c.self.view_is) c.requires in
    let act = given_telling s c.args.command c.serve-answer.result.taken after c.serve-answer.result.reply given c.told_twice-noted.ensures.given
    c.serve-answer.ensures.call in
    let noted = c.note.ensures.noted ∙ (λ i. past ++ entry_of c.args.line c.args.command (c.told_twice-noted.ensures.twice i) (c.after-after.ensures i) ∷ []) in
    subst (λ v. IsStep v.state (with_calls c.serve-answer.new.self.state c.note.new.past.items) c.args.line c.args.command given) c.self.view_is
    (subst (λ p. IsStep s (with_calls c.serve-answer.new.self.state p) c.args.line c.args.command given) (sym noted)
    (noted_step s c.args.line c.args.command c.serve-answer.result.taken after given asked act
    (given_noted c.serve-answer.result.reply given c.told_twice-noted.ensures.given on)))

pub returns-clause-good_file : goal.returns-clause-good_file
returns-clause-good_file g c =
    subst (λ (v : View g.row.K.Denot g.row.D.Denot g.row.L.Denot). IsTrue g.D.Disk.tells → IsTrue (is_honest v.state)
    → is_unsound_file c.told_twice-noted.result.1 ≡ false) c.self.view_is
    (λ yes honest. given_sound is_unsound_file c.serve-answer.result.reply c.told_twice-noted.result.1 refl c.told_twice-noted.ensures.given
    (c.serve-answer.ensures.good_file yes honest))

pub returns-clause-linked : goal.returns-clause-linked
returns-clause-linked g c =
    subst (λ (v : View g.row.K.Denot g.row.D.Denot g.row.L.Denot). v.state.link_told ≡ is_some (g.L.Link.applied v.replica.link)) c.self.view_is
    c.read_invariant.ensures.link

pub returns-clause-good_replica : goal.returns-clause-good_replica
returns-clause-good_replica g c =
    subst (λ (v : View g.row.K.Denot g.row.D.Denot g.row.L.Denot). is_some (g.L.Link.applied v.replica.link) ≡ true
    → is_unsound_replica c.told_twice-noted.result.1 ≡ false) c.self.view_is
    (λ yes. given_sound is_unsound_replica c.serve-answer.result.reply c.told_twice-noted.result.1 refl c.told_twice-noted.ensures.given
    (c.serve-answer.ensures.good_replica yes))

pub returns-clause-lost : goal.returns-clause-lost
returns-clause-lost g c =
    let faults = g.L.Link.faults in
    let refusals = g.L.Link.refusals in
    let now = c.serve-answer.new.self in
    let after = with_calls now.state c.note.new.past.items in
    subst (λ (v : View g.row.K.Denot g.row.D.Denot g.row.L.Denot). renews_replica (call_of c.args.command) ≡ false
    → LosesOnly (faults v.replica.link) (faults now.replica.link) (refusals v.replica.link) (refusals now.replica.link) v.state after) c.self.view_is
    (λ other. loses_only g.L.Link.applied faults refusals c.self.inside.present.replica now.replica
    (with_calls c.self.inside.present.state c.self.inside.past.items) after
    c.read_invariant.ensures.attached c.read_invariant-2.ensures.attached (c.serve-answer.ensures.replica other))
