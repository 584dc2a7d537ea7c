-- What one line adds.
use Rattle.std.proofs.Common.{◌≡◌, ℕ, zero, suc, ◌≤◌, ◌<◌, List, [], ◌∷◌, ◌++◌, length, refl, sym, ap, ◌∙◌, subst, arith, true, false, true≢false}
use Rattle.std.specs.Prelude.{Option, Some, None, Result, Ok, Err, ◌||◌, nat_lt, if◌then◌else◌}
use Rattle.std.proofs.lemmas.Bool.{le-ltb, lt-ltb}
use Rattle.std.proofs.lemmas.List.{append-nil}
use Rattle.std.proofs.lemmas.List.Sums.{fold-append}
use Rattle.hall_model.specs.declared.command.Who.TheVariants as who
use Rattle.script_actors.specs.Doers.{doer_of}
use Rattle.script_actors.specs.declared.line.Doer.{Doer}
use Rattle.script_actors.specs.declared.line.Doer.TheVariants as doer
use Rattle.script_actors.specs.declared.line.NumberedLine.{NumberedLine}
use Rattle.script_lang.specs.Parts.{IsPart}
use Rattle.script_lang.specs.Reading.{line_of}
use Rattle.script_lang.specs.Spelling.{IsReading}
use Rattle.script_lang.specs.declared.script_line.ScriptLine.{ScriptLine}
use Rattle.script_lang.specs.declared.script_line.ScriptLine.TheVariants as line
use Rattle.script_runner.specs.Lines.{line_in}
use Rattle.script_runner.specs.Preparing.{has_part, is_part}
use Rattle.script_runner.specs.declared.runner.Why.{Why}
use Rattle.script_runner.specs.declared.runner.Why.TheVariants.{BadLine}
use Rattle.whole_script.specs.Adding.{Adds, Notes, Refuses}
use Rattle.whole_script.specs.Lines.{HaveParts, is_among, is_blank, is_runnable, may_come, names_in, naming, with_name}
use Rattle.whole_script.specs.declared.script.Script.{Script}

-- what a line's bytes are read as
pub known_by : (bytes : List ℕ) (known : Option ScriptLine) → line_of bytes ≡ known → line_in bytes ≡ known
unfolding line_in
known_by bytes known is = is

one_or_two : (part : ℕ) → IsPart part → is_part part ≡ true
one_or_two zero h = absurd (omega (arith, h.0))
one_or_two (suc zero) h = refl
one_or_two (suc (suc zero)) h = refl
one_or_two (suc (suc (suc n))) h = absurd (omega (arith, h.1))

-- an effect's part is one of the two
pub reads_part : (bytes : List ℕ) (l : ScriptLine) → IsReading bytes l → has_part l ≡ true
reads_part bytes (line.Put s part table key text) h = one_or_two part h.0.1
reads_part bytes (line.Ins s part table key text) h = one_or_two part h.0.1
reads_part bytes (line.Del s part table key) h = one_or_two part h.0.1
reads_part bytes (line.Add s part table key number) h = one_or_two part h.0.1
reads_part bytes _ h = refl

parts_push : (lines : List NumberedLine) (l : NumberedLine) → has_part l.line ≡ true → HaveParts lines → HaveParts (lines ++ l ∷ [])
parts_push [] l part h = (part, tt)
parts_push (x ∷ lines) l part h = (h.0, parts_push lines l part h.1)

-- what is said of a line is said of its bytes
pub adds_known : (n : ℕ) (bytes : List ℕ) (l : Option ScriptLine) (old new : Script) (r : Result Unit Why) → line_of bytes ≡ l → Adds n l old new r
    → Adds n (line_in bytes) old new r
adds_known n bytes l old new r is h = subst (λ o. Adds n o old new r) (sym (known_by bytes l is)) h

pub adds_bad : (n : ℕ) (bytes : List ℕ) (script : Script) → line_of bytes ≡ None → Adds n (line_in bytes) script script (Err (BadLine n))
adds_bad n bytes script is = adds_known n bytes None script script (Err (BadLine n)) is (refl, refl)

blank_comes : (names : List (List ℕ)) (d : Doer) → is_blank d ≡ true → may_come names d ≡ true
blank_comes names doer.Nobody h = refl
blank_comes names doer.Monitor h = refl
blank_comes names doer.Worker h = absurd (true≢false (sym h))
blank_comes names (doer.Actor w) h = absurd (true≢false (sym h))

-- a blank line adds nothing
pub adds_blank : (n : ℕ) (l : ScriptLine) (script : Script) → is_blank (doer_of l) ≡ true → Adds n (Some l) script script (Ok tt)
adds_blank n l script blank =
    let first : NumberedLine = record { number = n; line = l } in
    record {
      runnable = blank_comes script.names.items (doer_of l) blank;
      lines = sym (append-nil script.lines.items) ∙ ap (λ b. script.lines.items ++ (if b then [] else first ∷ [])) (sym blank);
      names = λ h. h;
      parts = λ h. h;
    }

-- a line that isn't noted isn't added
pub not_noted : (n : ℕ) (l : ScriptLine) (d : Doer) (old : Script) (why : Why) → d ≡ doer_of l → Refuses n (may_come old.names.items d) why
    → Refuses n (is_runnable old.names.items (Some l)) why
not_noted n l d old why is h = subst (λ x. Refuses n (may_come old.names.items x) why) is h

-- another line stands behind those before it
pub adds_line : (n : ℕ) (l : ScriptLine) (d : Doer) (old new : Script) (names : List (List ℕ)) → d ≡ doer_of l → is_blank d ≡ false
    → has_part l ≡ true → Notes n d old.names.items names (Ok tt) → new.names.items ≡ names
    → new.lines.items ≡ old.lines.items ++ record { number = n; line = l } ∷ [] → Adds n (Some l) old new (Ok tt)
adds_line n l d old new names is apart part noted same lines =
    let first : NumberedLine = record { number = n; line = l } in
    let noted : Notes n (doer_of l) old.names.items names (Ok tt) = subst (λ x. Notes n x old.names.items names (Ok tt)) is noted in
    let put = sym (fold-append naming [] old.lines.items (first ∷ [])) in
    record {
      runnable = noted.0;
      lines = lines ∙ ap (λ b. old.lines.items ++ (if b then [] else first ∷ [])) (sym (sym (ap (λ x. is_blank x) is) ∙ apart));
      names = λ h. same ∙ noted.1 ∙ ap (λ x. with_name x (doer_of l)) h ∙ put ∙ ap (λ x. names_in x) (sym lines);
      parts = λ h. subst (λ x. HaveParts x) (sym lines) (parts_push old.lines.items first part h);
    }

-- ---- a session's name

abbrev session : List ℕ → Doer
session s = doer.Actor (who.Session s)

pub notes_known : (n : ℕ) (s : List ℕ) (names : List (List ℕ)) → is_among s names ≡ true → Notes n (session s) names names (Ok tt)
notes_known n s names known =
    (ap (λ b. b || nat_lt (length names) 64) known, ap (λ b. if b then names else names ++ s ∷ []) (sym known))

pub notes_full : (n : ℕ) (s : List ℕ) (names : List (List ℕ)) → is_among s names ≡ false → 64 ≤ length names
    → Notes n (session s) names names (Err (BadLine n))
notes_full n s names new full = (refl, ap (λ b. b || nat_lt (length names) 64) new ∙ le-ltb (length names) 64 full)

pub notes_new : (n : ℕ) (s : List ℕ) (names more : List (List ℕ)) → is_among s names ≡ false → length names < 64 → more ≡ names ++ s ∷ []
    → Notes n (session s) names more (Ok tt)
notes_new n s names more new room put =
    (ap (λ b. b || nat_lt (length names) 64) new ∙ lt-ltb (length names) 64 room, put ∙ ap (λ b. if b then names else names ++ s ∷ []) (sym new))
