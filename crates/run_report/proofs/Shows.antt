-- What monitors show, one behind another, and the report with it.
use Rattle.std.proofs.Common.{◌≡◌, ℕ, ◌+◌, ◌≤◌, ◌<◌, List, [], ◌∷◌, ◌++◌, Result, Ok, Err, length, drop, get_or, refl, sym, ap, ◌∙◌, subst, arith}
use Rattle.std.proofs.lemmas.List.{at_drop_all, at_drop_more}
use Rattle.std.specs.Prelude.{Option}
use Rattle.std.specs.Io.KnownBytes.{Appends}
use Rattle.enq_base.specs.Causes.{Rose}
use Rattle.hall_model.specs.State.{State}
use Rattle.hall_model.specs.declared.command.PastEntry.{PastEntry}
use Rattle.io_edge.proofs.lemmas.Knowns.{appends_more, appends_none}
use Rattle.script_actors.specs.declared.actor.Said.{Said}
use Rattle.script_actors.specs.declared.line.NumberedLine.{NumberedLine}
use Rattle.script_runner.specs.Lines.{line_kind}
use Rattle.script_runner.specs.Turns.{IsShown}
use Rattle.script_runner.specs.declared.runner.Why.{Why}
use Rattle.script_runner.specs.declared.runner.Why.TheVariants.{NoMemory, SinkFault}
use Rattle.run_report.specs.Report.{HasPut, HasShown, HasShownLine, HasWritten, ShowsAll, past_text, said_text, shown_text, shows_text}
use Rattle.run_report.proofs.Puts.{first_more, first_part, put_as}

line_more : (a b c : Option (List ℕ)) (n m k : ℕ) (l : NumberedLine) (ls : List NumberedLine) (s : State) (r : Result Unit Why)
    → Appends a b (shown_text l.number (line_kind l.line) s) → m ≡ n → ShowsAll b c m k ls s r → ShowsAll a c n k (l ∷ ls) s r
line_more a b c n m k l ls s (Ok u) h q g = (appends_more a b c (shown_text l.number (line_kind l.line) s) (shows_text ls s) h g.0, g.1 ∙ q)
line_more a b c n m k l ls s (Err SinkFault) h q g =
    (first_more a b c (shown_text l.number (line_kind l.line) s) (shows_text ls s) h g.0, subst (λ x. Rose x k) q g.1)
line_more a b c n m k l ls s (Err NoMemory) h q g =
    (l ∷ g.0, g.1, ap (λ t. l ∷ t) g.2, appends_more a b c (shown_text l.number (line_kind l.line) s) (shows_text g.0 s) h g.3, g.4 ∙ q)
line_more a b c n m k l ls s (Err _) h q g = absurd g

line_part : (a b : Option (List ℕ)) (n m : ℕ) (l : NumberedLine) (ls : List NumberedLine) (s : State) (why : Why)
    → IsShown a b n m (shown_text l.number (line_kind l.line) s) (Err why) → ShowsAll a b n m (l ∷ ls) s (Err why)
line_part a b n m l ls s SinkFault h = (first_part a b (shown_text l.number (line_kind l.line) s) (shows_text ls s) h.0, h.1)
line_part a b n m l ls s NoMemory h = ([], l ∷ ls, refl, h.0, h.1)
line_part a b n m l ls s _ h = absurd h

-- Behind the first lines, whatever shows the others shows all.
pub record GoesShowing (first old : Option (List ℕ)) (faults before : ℕ) (all rest : List NumberedLine) (s : State) : Type 0 where
  pub on : (new : Option (List ℕ)) (now : ℕ) (r : Result Unit Why) → ShowsAll old new before now rest s r → ShowsAll first new faults now all s r
  pub later : faults ≤ before

pub shows_first : (a : Option (List ℕ)) (n : ℕ) (all : List NumberedLine) (s : State) → GoesShowing a a n n all all s
shows_first a n all s = record { on = λ new now r h. h; later = omega arith }

rest_of : (ls : List NumberedLine) (i : ℕ) (l : NumberedLine) → i < length ls → l ≡ get_or ls i l → drop i ls ≡ l ∷ drop (i + 1) ls
rest_of ls i l h is = at_drop_more (λ x. x) ls i l h ∙ ap (λ x. x ∷ drop (i + 1) ls) (sym is)

pub shows_more : (a b c : Option (List ℕ)) (n m k : ℕ) (all ls : List NumberedLine) (i : ℕ) (l : NumberedLine) (s : State) (u : Unit)
    → i < length ls → l ≡ get_or ls i l
    → GoesShowing a b n m all (drop i ls) s → HasShownLine b c m k l s (Ok u) → GoesShowing a c n k all (drop (i + 1) ls) s
shows_more a b c n m k all ls i l s u h is g p =
    let now_at = subst (λ rest. GoesShowing a b n m all rest s) (rest_of ls i l h is) g in
    record {
      on = λ new now r f. now_at.on new now r (line_more b c new m k now l (drop (i + 1) ls) s r p.shown.0 p.shown.1 f);
      later = omega (arith, g.later, p.later);
    }

pub shows_failed : (a b c : Option (List ℕ)) (n m k : ℕ) (all ls : List NumberedLine) (i : ℕ) (l : NumberedLine) (s : State) (why : Why)
    → i < length ls → l ≡ get_or ls i l
    → GoesShowing a b n m all (drop i ls) s → HasShownLine b c m k l s (Err why) → HasShown a c n k all s (Err why)
shows_failed a b c n m k all ls i l s why h is g p =
    let now_at = subst (λ rest. GoesShowing a b n m all rest s) (rest_of ls i l h is) g in
    record { shown = now_at.on c k (Err why) (line_part b c m k l (drop (i + 1) ls) s why p.shown); later = omega (arith, g.later, p.later) }

pub shows_whole : (a b : Option (List ℕ)) (n m : ℕ) (all ls : List NumberedLine) (i : ℕ) (s : State) (u : Unit) → length ls ≤ i
    → GoesShowing a b n m all (drop i ls) s → HasShown a b n m all s (Ok u)
shows_whole a b n m all ls i s u h g =
    let now_at = subst (λ rest. GoesShowing a b n m all rest s) (at_drop_all (λ x. x) ls i h) g in
    record { shown = now_at.on b m (Ok u) (appends_none b, refl); later = g.later }

-- ---- the report

-- the history that was written is that of the state
pub of_state : {E : Type 0} (a b : Option (List ℕ)) (n m : ℕ) (s : State) (past : List PastEntry) (said : List Said) (r : Result Unit E) → past ≡ s.past
    → HasPut {E = E} a b n m (past_text 0 past ++ said_text said) r → HasPut a b n m (past_text 0 s.past ++ said_text said) r
of_state a b n m s past said r is h = put_as a b n m _ _ r (ap (λ p. past_text 0 p ++ said_text said) is) h

pub reports : {E : Type 0} (a b c : Option (List ℕ)) (n m k : ℕ) (lines : List NumberedLine) (s : State) (said : List Said) (u : Unit) (r : Result Unit Why)
    → HasPut {E = E} a b n m (past_text 0 s.past ++ said_text said) (Ok u) → HasShown b c m k lines s r → HasWritten a c n k lines s said r
reports a b c n m k lines s said u (Ok v) h g =
    (appends_more a b c (past_text 0 s.past ++ said_text said) (shows_text lines s) h.ok g.shown.0, g.shown.1 ∙ h.cause.quiet)
reports a b c n m k lines s said u (Err SinkFault) h g =
    (first_more a b c (past_text 0 s.past ++ said_text said) (shows_text lines s) h.ok g.shown.0, subst (λ x. Rose x k) h.cause.quiet g.shown.1)
reports a b c n m k lines s said u (Err NoMemory) h g =
    let r = g.shown in
    (r.0, r.1, r.2, appends_more a b c (past_text 0 s.past ++ said_text said) (shows_text r.0 s) h.ok r.3, r.4 ∙ h.cause.quiet)
reports a b c n m k lines s said u (Err _) h g = absurd g.shown

pub reports_part : {E : Type 0} (a b : Option (List ℕ)) (n m : ℕ) (lines : List NumberedLine) (s : State) (said : List Said) (e : E)
    → HasPut a b n m (past_text 0 s.past ++ said_text said) (Err e) → HasWritten a b n m lines s said (Err SinkFault)
reports_part a b n m lines s said e h =
    (first_part a b (past_text 0 s.past ++ said_text said) (shows_text lines s) h.err, h.cause.failed)
