-- What is so of the call that a line means.
use Rattle.std.proofs.Common.{◌≡◌, ℕ, true, false, List, [], refl, sym, ap, true≢false}
use Rattle.std.specs.Prelude.{Result, Ok, Err, is_some, if◌then◌else◌}
use Rattle.std.proofs.lemmas.Bool.{eqb-true}
use Rattle.std.proofs.lemmas.Slice.Eq.{bytes_eq-Decides}
use Rattle.dialogue_session.specs.Filling.{filled}
use Rattle.dialogue_session.specs.Private.{Private}
use Rattle.dialogue_session.specs.declared.variables.Variable.{Variable}
use Rattle.enq_base.specs.declared.owner.Scope.{Scope}
use Rattle.enq_base.specs.declared.refusal.Refusal.{Refusal}
use Rattle.enq_base.specs.declared.refusal.Refusal.TheVariants as refusal
use Rattle.enq_base.specs.declared.unit.Deed.{Deed}
use Rattle.enq_base.specs.declared.unit.Deed.TheVariants as deed
use Rattle.enq_base.specs.declared.unit.Effect.{Effect}
use Rattle.hall_model.specs.Calls.{who_of}
use Rattle.hall_model.specs.declared.command.Command.{Command}
use Rattle.hall_model.specs.declared.command.Command.TheVariants as command
use Rattle.hall_model.specs.declared.command.Who.{Who}
use Rattle.hall_model.specs.declared.command.Who.TheVariants as who
use Rattle.lock_entry.specs.declared.entry.Asked.{Asked}
use Rattle.lock_entry.specs.declared.entry.Request.{Request}
use Rattle.mode_rules.specs.declared.Mode.{Mode}
use Rattle.mode_rules.specs.declared.Mode.TheVariants as mode
use Rattle.script_actors.specs.Doers.{is_done_by, is_same}
use Rattle.script_lang.specs.declared.script_line.RawValue.{RawValue}
use Rattle.script_lang.specs.declared.script_line.ScriptLine.{ScriptLine}
use Rattle.script_lang.specs.declared.script_line.ScriptLine.TheVariants as line
use Rattle.script_runner.specs.Lines.{Silent, Shows, Calls, Declines, Changes, Meaning, and_next, asking, collected, collecting, effect_of, key_in, key_with}
use Rattle.script_runner.specs.Lines.{meaning, number_in, of_session, reading, registered, registering, requesting, text_in, then_deed, unless_refused}
use Rattle.script_runner.specs.Lines.{with_asked, with_requested}
use Rattle.script_runner.specs.Sides.{side_of, variables_of}
use Rattle.script_runner.specs.World.{Setting}

pub same_caller : (a b : Who) → is_same a b ≡ true → a ≡ b
same_caller (who.Session a) (who.Session b) h = ap who.Session ((bytes_eq-Decides a b).0 h)
same_caller (who.Worker a) (who.Worker b) h = ap who.Worker (eqb-true a b h)
same_caller who.Admin who.Admin h = refl
same_caller a b h = absurd (true≢false (sym h))

-- where it is a call, this holds of it
abbrev pub Holds : (Command → Type 0) → Meaning → Type 0
Holds P (Calls c) = P c
Holds P Silent = Unit {0}
Holds P (Shows monitor) = Unit {0}
Holds P (Declines r) = Unit {0}
Holds P (Changes sides) = Unit {0}

pub holds_all : (P : Command → Type 0) → ((c : Command) → P c) → (m : Meaning) → Holds P m
holds_all P all (Calls c) = all c
holds_all P all Silent = tt
holds_all P all (Shows monitor) = tt
holds_all P all (Declines r) = tt
holds_all P all (Changes sides) = tt

pub holds_more : (P Q : Command → Type 0) → ((c : Command) → P c → Q c) → (m : Meaning) → Holds P m → Holds Q m
holds_more P Q f (Calls c) h = f c h
holds_more P Q f Silent h = tt
holds_more P Q f (Shows monitor) h = tt
holds_more P Q f (Declines r) h = tt
holds_more P Q f (Changes sides) h = tt

of_one : (P : Command → Type 0) (sides : List Private) (s : List ℕ) (m : Meaning) → Holds P m → Holds P (of_session sides s m)
of_one P sides s m h = elim (is_some (side_of sides s)) as (λ b. Holds P (if b then m else Declines refusal.UnknownSession)) [ true ↦ h | false ↦ tt ]

of_result : {X : Type 0} (P : Command → Type 0) (r : Result X Refusal) (next : X → Meaning) → ((x : X) → Holds P (next x)) → Holds P (unless_refused r next)
of_result P (Ok x) next h = h x
of_result P (Err r) next h = tt

of_change : (P : Command → Type 0) (r : Result (List Private) Refusal) → Holds P (unless_refused r Changes)
of_change P r = of_result P r Changes (λ sides. tt)

of_requested : (x : Setting) (P : Command → Type 0) (s object : List ℕ) (m : Mode) (scope : Scope) (values : List RawValue) (next : List Request → Meaning)
    → ((rs : List Request) → Holds P (next rs)) → Holds P (with_requested x s object m scope values next)
of_requested x P s object m scope values next h =
    let made = requesting (variables_of x.sides s) x.objects object m scope values in
    of_one P x.sides s (unless_refused made next) (of_result P made next h)

of_asked : (x : Setting) (P : Command → Type 0) (s object : List ℕ) (m : Mode) (values : List RawValue) (next : List Asked → Meaning)
    → ((asked : List Asked) → Holds P (next asked)) → Holds P (with_asked x s object m values next)
of_asked x P s object m values next h =
    let made = asking (variables_of x.sides s) x.objects object m values in
    of_one P x.sides s (unless_refused made next) (of_result P made next h)

-- the effect of a line, with what it does
abbrev effect_doing : List Variable → (List ℕ → Result Deed Refusal) → List ℕ → List ℕ → List ℕ → Result Effect Refusal
effect_doing variables doing table key text =
    and_next (filled variables key) (λ k. and_next (filled variables text) (λ t. effect_of table (key_in k) (doing t)))

of_effect : (x : Setting) (P : Command → Type 0) (s : List ℕ) (part : ℕ) (doing : List ℕ → Result Deed Refusal) (table key text : List ℕ)
    → Holds P (of_session x.sides s (unless_refused (effect_doing (variables_of x.sides s) doing table key text) (registering x.sides s part)))
of_effect x P s part doing table key text =
    let made = effect_doing (variables_of x.sides s) doing table key text in
    of_one P x.sides s (unless_refused made (registering x.sides s part))
    (of_result P made (registering x.sides s part) (λ e. of_change P (registered x.sides s part e)))

of_reading : (x : Setting) (P : Command → Type 0) (s table key : List ℕ) → ((k : List ℕ) → P (command.Read s table k)) → Holds P (reading x s table key)
of_reading x P s table key own =
    let made = key_with (variables_of x.sides s) key in
    let next : List ℕ → Meaning = λ k. Calls (command.Read s table k) in
    of_one P x.sides s (unless_refused made next) (of_result P made next (λ k. own k))

-- ---- whose it is

abbrev pub IsCallOf : Who → Command → Type 0
IsCallOf w c = who_of c ≡ w

-- a line that a caller does comes to no other's call
pub line_is_of : (x : Setting) (w : Who) (l : ScriptLine) → is_done_by w l ≡ true → Holds (IsCallOf w) (meaning x l)
line_is_of x w line.Blank h = tt
line_is_of x w line.Sm12 h = tt
line_is_of x w line.Sm13 h = tt
line_is_of x w line.Snro h = tt
line_is_of x w line.Audit h = tt
line_is_of x w (line.Logon s user) h = sym (same_caller w (who.Session s) h)
line_is_of x w (line.Logoff s) h = of_one (IsCallOf w) x.sides s _ (sym (same_caller w (who.Session s) h))
line_is_of x w (line.DeqAll s) h = of_one (IsCallOf w) x.sides s _ (sym (same_caller w (who.Session s) h))
line_is_of x w (line.Flush s) h = of_one (IsCallOf w) x.sides s _ (sym (same_caller w (who.Session s) h))
line_is_of x w (line.Reset s) h = of_one (IsCallOf w) x.sides s _ tt
line_is_of x w (line.Rollback s) h = of_one (IsCallOf w) x.sides s _ (sym (same_caller w (who.Session s) h))
line_is_of x w (line.Commit s) h = of_one (IsCallOf w) x.sides s _ (sym (same_caller w (who.Session s) h))
line_is_of x w (line.Enq s object m scope values) h =
    of_requested x (IsCallOf w) s object m scope values (λ rs. Calls (command.Ask s rs)) (λ rs. sym (same_caller w (who.Session s) h))
line_is_of x w (line.Deq s object m scope values) h =
    of_requested x (IsCallOf w) s object m scope values (λ rs. Calls (command.Free s rs)) (λ rs. sym (same_caller w (who.Session s) h))
line_is_of x w (line.Collect s object m scope values) h =
    of_requested x (IsCallOf w) s object m scope values (collecting x.sides s) (λ rs. of_change (IsCallOf w) (collected x.sides s rs))
line_is_of x w (line.Convert s object values) h =
    of_asked x (IsCallOf w) s object mode.O values (λ asked. Calls (command.Convert s asked)) (λ asked. sym (same_caller w (who.Session s) h))
line_is_of x w (line.Num s object nr variable) h = of_one (IsCallOf w) x.sides s _ (sym (same_caller w (who.Session s) h))
line_is_of x w (line.Read s table key variable) h = of_reading x (IsCallOf w) s table key (λ k. sym (same_caller w (who.Session s) h))
line_is_of x w (line.Put s part table key text) h = of_effect x (IsCallOf w) s part (λ t. then_deed deed.Put (text_in t)) table key text
line_is_of x w (line.Ins s part table key text) h = of_effect x (IsCallOf w) s part (λ t. then_deed deed.Ins (text_in t)) table key text
line_is_of x w (line.Del s part table key) h = of_effect x (IsCallOf w) s part (λ t. Ok deed.Del) table key []
line_is_of x w (line.Add s part table key number) h = of_effect x (IsCallOf w) s part (λ t. then_deed deed.Add (number_in t)) table key number
line_is_of x w (line.Take1 worker) h = absurd (true≢false (sym h))
line_is_of x w (line.Do1 worker) h = absurd (true≢false (sym h))
line_is_of x w (line.Take2 worker) h = absurd (true≢false (sym h))
line_is_of x w (line.Do2 worker) h = absurd (true≢false (sym h))
line_is_of x w (line.DropOrder worker) h = absurd (true≢false (sym h))
line_is_of x w line.Kill h = sym (same_caller w who.Admin h)
line_is_of x w line.FailOver h = sym (same_caller w who.Admin h)
line_is_of x w line.Restart h = sym (same_caller w who.Admin h)
line_is_of x w line.Attach h = sym (same_caller w who.Admin h)
line_is_of x w (line.Cancel unit) h = sym (same_caller w who.Admin h)
line_is_of x w (line.Resubmit unit) h = sym (same_caller w who.Admin h)

-- ---- which line it is of

-- a call for a number is of a line that asks for one, and no line reserves numbers
abbrev pub IsFrom : ScriptLine → Command → Type 0
IsFrom l (command.Number s object nr) = (variable : List ℕ) × (l ≡ line.Num s object nr variable)
IsFrom l (command.Reserve s object nr upto) = ⊥
IsFrom l c = Unit {0}

pub line_is_from : (x : Setting) (l : ScriptLine) → Holds (IsFrom l) (meaning x l)
line_is_from x line.Blank = tt
line_is_from x line.Sm12 = tt
line_is_from x line.Sm13 = tt
line_is_from x line.Snro = tt
line_is_from x line.Audit = tt
line_is_from x (line.Logon s user) = tt
line_is_from x (line.Logoff s) = of_one (IsFrom (line.Logoff s)) x.sides s _ tt
line_is_from x (line.DeqAll s) = of_one (IsFrom (line.DeqAll s)) x.sides s _ tt
line_is_from x (line.Flush s) = of_one (IsFrom (line.Flush s)) x.sides s _ tt
line_is_from x (line.Reset s) = of_one (IsFrom (line.Reset s)) x.sides s _ tt
line_is_from x (line.Rollback s) = of_one (IsFrom (line.Rollback s)) x.sides s _ tt
line_is_from x (line.Commit s) = of_one (IsFrom (line.Commit s)) x.sides s _ tt
line_is_from x (line.Enq s object m scope values) =
    of_requested x (IsFrom (line.Enq s object m scope values)) s object m scope values (λ rs. Calls (command.Ask s rs)) (λ rs. tt)
line_is_from x (line.Deq s object m scope values) =
    of_requested x (IsFrom (line.Deq s object m scope values)) s object m scope values (λ rs. Calls (command.Free s rs)) (λ rs. tt)
line_is_from x (line.Collect s object m scope values) =
    of_requested x (IsFrom (line.Collect s object m scope values)) s object m scope values (collecting x.sides s)
    (λ rs. of_change (IsFrom (line.Collect s object m scope values)) (collected x.sides s rs))
line_is_from x (line.Convert s object values) =
    of_asked x (IsFrom (line.Convert s object values)) s object mode.O values (λ asked. Calls (command.Convert s asked)) (λ asked. tt)
line_is_from x (line.Num s object nr variable) = of_one (IsFrom (line.Num s object nr variable)) x.sides s _ (variable, refl)
line_is_from x (line.Read s table key variable) = of_reading x (IsFrom (line.Read s table key variable)) s table key (λ k. tt)
line_is_from x (line.Put s part table key text) = of_effect x (IsFrom (line.Put s part table key text)) s part (λ t. then_deed deed.Put (text_in t)) table key text
line_is_from x (line.Ins s part table key text) = of_effect x (IsFrom (line.Ins s part table key text)) s part (λ t. then_deed deed.Ins (text_in t)) table key text
line_is_from x (line.Del s part table key) = of_effect x (IsFrom (line.Del s part table key)) s part (λ t. Ok deed.Del) table key []
line_is_from x (line.Add s part table key number) = of_effect x (IsFrom (line.Add s part table key number)) s part (λ t. then_deed deed.Add (number_in t)) table key number
line_is_from x (line.Take1 worker) = tt
line_is_from x (line.Do1 worker) = tt
line_is_from x (line.Take2 worker) = tt
line_is_from x (line.Do2 worker) = tt
line_is_from x (line.DropOrder worker) = tt
line_is_from x line.Kill = tt
line_is_from x line.FailOver = tt
line_is_from x line.Restart = tt
line_is_from x line.Attach = tt
line_is_from x (line.Cancel unit) = tt
line_is_from x (line.Resubmit unit) = tt
