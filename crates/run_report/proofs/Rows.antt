-- The lines of a list, one by one.
use Rattle.std.proofs.Common.{◌≡◌, ℕ, ◌+◌, ◌≤◌, ◌<◌, List, [], ◌∷◌, ◌++◌, Ok, Err, length, drop, get_or, sym, ap, ◌∙◌, subst}
use Rattle.std.proofs.lemmas.List.{at_drop_all, at_drop_more}
use Rattle.std.specs.Prelude.{Option, decimal}
use Rattle.hall_model.specs.declared.command.PastEntry.{PastEntry}
use Rattle.script_actors.specs.declared.actor.Said.{Said}
use Rattle.script_runner.specs.Texts.{reply_words, spaced}
use Rattle.run_report.specs.Report.{HasPut, entry_end, entry_head, entry_line, past_text, said_line, said_text, who_text}
use Rattle.run_report.proofs.Puts.{GoesOn, goes_more, goes_part, goes_whole}
use Rattle.std.proofs.Common.{append_assoc}

-- ---- one line in two parts

in_two : (d x y w n : List ℕ) → (d ++ (x ++ (y ++ []))) ++ (w ++ n) ≡ (d ++ (x ++ (y ++ w))) ++ n
in_two d x y w n =
    sym (append_assoc (d ++ (x ++ (y ++ []))) w n)
    ∙ ap (λ l. l ++ n) (append_assoc d (x ++ (y ++ [])) w ∙ ap (λ l. d ++ l) (append_assoc x (y ++ []) w ∙ ap (λ l. x ++ l) (append_assoc y [] w)))

entry_parts : (k : ℕ) (e : PastEntry) → entry_head k e ++ entry_end e ≡ entry_line k e
entry_parts k e = in_two (decimal k) (32 ∷ who_text e.who) (32 ∷ decimal e.line) (spaced (reply_words e.reply)) (10 ∷ [])

pub entry_whole : (k : ℕ) (e : PastEntry) (head end : List ℕ) → head ≡ entry_head k e → end ≡ entry_end e → head ++ end ≡ entry_line k e
entry_whole k e head end h q = ap (λ l. l ++ end) h ∙ ap (λ l. entry_head k e ++ l) q ∙ entry_parts k e

behind_space : (d t n : List ℕ) → (d ++ 32 ∷ []) ++ (t ++ n) ≡ (d ++ 32 ∷ t) ++ n
behind_space d t n = sym (append_assoc (d ++ 32 ∷ []) t n) ∙ ap (λ l. l ++ n) (append_assoc d (32 ∷ []) t)

pub said_whole_line : (s : Said) (head text : List ℕ) → head ≡ decimal s.line ++ 32 ∷ [] → text ≡ s.text → head ++ (text ++ 10 ∷ []) ≡ said_line s
said_whole_line s head text h q =
    ap (λ l. l ++ (text ++ 10 ∷ [])) h ∙ behind_space (decimal s.line) text (10 ∷ []) ∙ ap (λ t. (decimal s.line ++ 32 ∷ t) ++ 10 ∷ []) q

-- ---- the next line

past_step : (es : List PastEntry) (i : ℕ) (e : PastEntry) → i < length es → e ≡ get_or es i e
    → past_text i (drop i es) ≡ entry_line (i + 1) e ++ past_text (i + 1) (drop (i + 1) es)
past_step es i e h is =
    at_drop_more (past_text i) es i e h ∙ ap (λ x. entry_line (i + 1) x ++ past_text (i + 1) (drop (i + 1) es)) (sym is)

said_step : (ss : List Said) (i : ℕ) (s : Said) → i < length ss → s ≡ get_or ss i s → said_text (drop i ss) ≡ said_line s ++ said_text (drop (i + 1) ss)
said_step ss i s h is = at_drop_more said_text ss i s h ∙ ap (λ x. said_line x ++ said_text (drop (i + 1) ss)) (sym is)

pub past_more : {E F : Type 0} (a b c : Option (List ℕ)) (n m k : ℕ) (all : List ℕ) (es : List PastEntry) (i : ℕ) (e : PastEntry) (u : Unit)
    → i < length es → e ≡ get_or es i e
    → GoesOn E a b n m all (past_text i (drop i es)) → HasPut {E = F} b c m k (entry_line (i + 1) e) (Ok u)
    → GoesOn E a c n k all (past_text (i + 1) (drop (i + 1) es))
past_more {E = E} a b c n m k all es i e u h is g p =
    goes_more a b c n m k all (entry_line (i + 1) e) (past_text (i + 1) (drop (i + 1) es)) u (subst (GoesOn E a b n m all) (past_step es i e h is) g) p

pub past_failed : {E F : Type 0} (a b c : Option (List ℕ)) (n m k : ℕ) (all : List ℕ) (es : List PastEntry) (i : ℕ) (e : PastEntry) (x : F) (y : E)
    → i < length es → e ≡ get_or es i e
    → GoesOn E a b n m all (past_text i (drop i es)) → HasPut b c m k (entry_line (i + 1) e) (Err x) → HasPut a c n k all (Err y)
past_failed {E = E} a b c n m k all es i e x y h is g p =
    goes_part a b c n m k all (entry_line (i + 1) e) (past_text (i + 1) (drop (i + 1) es)) x y (subst (GoesOn E a b n m all) (past_step es i e h is) g) p

pub past_whole : {E : Type 0} (a b : Option (List ℕ)) (n m : ℕ) (all : List ℕ) (es : List PastEntry) (i : ℕ) (u : Unit) → length es ≤ i
    → GoesOn E a b n m all (past_text i (drop i es)) → HasPut {E = E} a b n m all (Ok u)
past_whole {E = E} a b n m all es i u h g = goes_whole a b n m all u (subst (GoesOn E a b n m all) (at_drop_all (past_text i) es i h) g)

pub said_more : {E F : Type 0} (a b c : Option (List ℕ)) (n m k : ℕ) (all : List ℕ) (ss : List Said) (i : ℕ) (s : Said) (u : Unit) → i < length ss
    → s ≡ get_or ss i s
    → GoesOn E a b n m all (said_text (drop i ss)) → HasPut {E = F} b c m k (said_line s) (Ok u) → GoesOn E a c n k all (said_text (drop (i + 1) ss))
said_more {E = E} a b c n m k all ss i s u h is g p =
    goes_more a b c n m k all (said_line s) (said_text (drop (i + 1) ss)) u (subst (GoesOn E a b n m all) (said_step ss i s h is) g) p

pub said_failed : {E F : Type 0} (a b c : Option (List ℕ)) (n m k : ℕ) (all : List ℕ) (ss : List Said) (i : ℕ) (s : Said) (x : F) (y : E)
    → i < length ss → s ≡ get_or ss i s
    → GoesOn E a b n m all (said_text (drop i ss)) → HasPut b c m k (said_line s) (Err x) → HasPut a c n k all (Err y)
said_failed {E = E} a b c n m k all ss i s x y h is g p =
    goes_part a b c n m k all (said_line s) (said_text (drop (i + 1) ss)) x y (subst (GoesOn E a b n m all) (said_step ss i s h is) g) p

pub said_whole : {E : Type 0} (a b : Option (List ℕ)) (n m : ℕ) (all : List ℕ) (ss : List Said) (i : ℕ) (u : Unit) → length ss ≤ i
    → GoesOn E a b n m all (said_text (drop i ss)) → HasPut {E = E} a b n m all (Ok u)
said_whole {E = E} a b n m all ss i u h g = goes_whole a b n m all u (subst (GoesOn E a b n m all) (at_drop_all said_text ss i h) g)
