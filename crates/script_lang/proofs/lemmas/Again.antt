-- What is spelled so is read.
use Rattle.std.proofs.Common.{◌≡◌, ℕ, suc, zero, ◌<◌, ◌≤◌, ◌^◌, Bool, true, not, List, [], ◌∷◌, ◌++◌, refl, ap, ◌∙◌, Some, arith, codes, decimal}
use Rattle.std.specs.Prelude.{IsTrue, nat_eq}
use Rattle.std.specs.List.{list_all}
use Rattle.std.proofs.lemmas.Bool.{and_parts, and_from, le-leb, leb-true, ne_eqb}
use Rattle.std.proofs.lemmas.Bool.Decides.{nat_tests}
use Rattle.std.proofs.lemmas.Fmt.{digits_decimal}
use Rattle.std.proofs.lemmas.List.{append-nil}
use Rattle.enq_base.specs.Cut.{cut, is_free}
use Rattle.enq_base.specs.Grammar.{is_name_byte, is_digit, is_key_byte}
use Rattle.enq_base.specs.Number.{◌>>=◌}
use Rattle.enq_base.specs.Text.{◌␣◌}
use Rattle.enq_base.specs.declared.owner.Scope.{Scope}
use Rattle.enq_base.specs.declared.owner.Scope.TheVariants as scope
use Rattle.enq_base.proofs.lemmas.Cuts.{cut_again, cut_none}
use Rattle.enq_base.proofs.lemmas.Numbers.{count_again, digits_model, unit_key_again}
use Rattle.mode_rules.specs.Modes.{mode_text}
use Rattle.mode_rules.specs.declared.Mode.{Mode}
use Rattle.mode_rules.specs.declared.Mode.TheVariants as mode
use Rattle.script_lang.specs.Parts.{is_raw, is_rest, is_nr, AreValues, IsName, IsPart, IsRaw, IsValue, IsWorker}
use Rattle.script_lang.specs.Reading.{act_line, admin_line, effect_line, key_and, line_of, number_line, object_and_values, request_of, row_line, session_line}
use Rattle.script_lang.specs.Reading.{update_line, value_of, values_in, verb_line, with_values, worker_line, worker_of}
use Rattle.script_lang.specs.Spelling.{IsLine, Spells, part_text, request_text, scope_text, value_text, values_text, worker_text}
use Rattle.script_lang.specs.Words.{change_of, mode_of, monitor_line, order_line, plain_line, scope_of, server_line, unit_line, verb_of}
use Rattle.script_lang.specs.declared.script_line.RawValue.{RawValue}
use Rattle.script_lang.specs.declared.script_line.ScriptLine.{ScriptLine}
use Rattle.script_lang.specs.declared.script_line.ScriptLine.TheVariants as line
use Rattle.script_lang.specs.declared.words.Change.{Change}
use Rattle.script_lang.specs.declared.words.Change.TheVariants as change
use Rattle.script_lang.specs.declared.words.Verb.{Verb}
use Rattle.script_lang.specs.declared.words.Verb.TheVariants as verb
use Rattle.script_lang.proofs.Spelled.{change_text, verb_text}
use Rattle.script_lang.proofs.ValueLists.{values_in-last, values_in-more}

-- ---- bytes that don't stand in parts

list_all-weaker : (p q : ℕ → Bool) → ((b : ℕ) → p b ≡ true → q b ≡ true) → (bs : List ℕ) → list_all p bs ≡ true → list_all q bs ≡ true
list_all-weaker p q h [] e = refl
list_all-weaker p q h (b ∷ bs) e = let t = and_parts (p b) (list_all p bs) e in and_from _ _ (h b t.0) (list_all-weaker p q h bs t.1)

list_all-append : (p : ℕ → Bool) (xs ys : List ℕ) → list_all p xs ≡ true → list_all p ys ≡ true → list_all p (xs ++ ys) ≡ true
list_all-append p [] ys h k = k
list_all-append p (x ∷ xs) ys h k = let t = and_parts (p x) (list_all p xs) h in and_from _ _ t.0 (list_all-append p xs ys t.1 k)

name_bytes : (s : List ℕ) → IsName s → list_all is_name_byte s ≡ true
name_bytes [] h = cc
name_bytes (b ∷ bs) h = (and_parts _ _ (and_parts _ _ h).0).1

raw_bytes : (s : List ℕ) → IsRaw s → list_all is_key_byte s ≡ true
raw_bytes [] h = cc
raw_bytes (b ∷ bs) h = h

name_byte_spaceless : (b : ℕ) → is_name_byte b ≡ true → not (nat_eq b 32) ≡ true
name_byte_spaceless b h = grind (arith, nat_tests)

name_byte_equalless : (b : ℕ) → is_name_byte b ≡ true → not (nat_eq b 61) ≡ true
name_byte_equalless b h = grind (arith, nat_tests)

key_byte_spaceless : (b : ℕ) → is_key_byte b ≡ true → not (nat_eq b 32) ≡ true
key_byte_spaceless b h = grind (arith, nat_tests)

digit_spaceless : (b : ℕ) → is_digit b ≡ true → not (nat_eq b 32) ≡ true
digit_spaceless b h = grind (arith, nat_tests)

name_spaceless : (s : List ℕ) → IsName s → is_free 32 s ≡ true
name_spaceless s h = list_all-weaker is_name_byte (λ b. not (nat_eq b 32)) name_byte_spaceless s (name_bytes s h)

raw_spaceless : (s : List ℕ) → IsRaw s → is_free 32 s ≡ true
raw_spaceless s h = list_all-weaker is_key_byte (λ b. not (nat_eq b 32)) key_byte_spaceless s (raw_bytes s h)

nr_spaceless : (nr : List ℕ) → IsTrue (is_nr nr) → is_free 32 nr ≡ true
nr_spaceless (a ∷ b ∷ []) h = let p = and_parts _ _ h in and_from _ _ (digit_spaceless a p.0) (and_from _ _ (digit_spaceless b p.1) refl)
nr_spaceless _ h = cc

decimal_spaceless : (n : ℕ) → n < 2 ^ 64 → is_free 32 (decimal n) ≡ true
decimal_spaceless n h = list_all-weaker is_digit (λ b. not (nat_eq b 32)) digit_spaceless (decimal n) (digits_decimal digits_model n h)

-- ---- parts

worker_again : (w : ℕ) → IsWorker w → worker_of (decimal w) ≡ Some w
unfolding worker_of
worker_again w h = let small = le-leb w 64 h.1 in rw (count_again w (h.0, omega arith), small) refl

mode_cut : (m : Mode) (rest : List ℕ) → cut 32 (mode_text m ␣ rest) ≡ Some (mode_text m, rest)
unfolding cut
mode_cut mode.S rest = refl
mode_cut mode.E rest = refl
mode_cut mode.X rest = refl
mode_cut mode.O rest = refl

mode_again : (m : Mode) → mode_of (mode_text m) ≡ Some m
unfolding mode_of
mode_again mode.S = refl
mode_again mode.E = refl
mode_again mode.X = refl
mode_again mode.O = refl

scope_free : (s : Scope) → is_free 32 (scope_text s) ≡ true
scope_free scope.One = refl
scope_free scope.Two = refl
scope_free scope.Three = refl

scope_again : (s : Scope) → scope_of (scope_text s) ≡ Some s
unfolding scope_of
scope_again scope.One = refl
scope_again scope.Two = refl
scope_again scope.Three = refl

change_cut : (c : Change) (t : List ℕ) → cut 32 (change_text c ␣ t) ≡ Some (change_text c, t)
unfolding cut
change_cut change.Put t = refl
change_cut change.Ins t = refl
change_cut change.Del t = refl
change_cut change.Add t = refl

change_again : (c : Change) → change_of (change_text c) ≡ Some c
unfolding change_of
change_again change.Put = refl
change_again change.Ins = refl
change_again change.Del = refl
change_again change.Add = refl

-- ---- values

value_again : (v : RawValue) → IsValue v → value_of (value_text v) ≡ Some v
unfolding value_of
value_again v h =
    let c = cut_again 61 v.field v.raw (list_all-weaker is_name_byte (λ b. not (nat_eq b 61)) name_byte_equalless v.field (name_bytes v.field h.0)) in
    rw (c, h.0, h.1) refl

value_spaceless : (v : RawValue) → IsValue v → is_free 32 (value_text v) ≡ true
value_spaceless v h =
    list_all-append (λ b. not (nat_eq b 32)) v.field (61 ∷ v.raw) (name_spaceless v.field h.0)
    (list_all-weaker is_key_byte (λ b. not (nat_eq b 32)) key_byte_spaceless v.raw h.1)

values_again : (v : RawValue) (vs : List RawValue) → IsValue v → AreValues vs → values_in (value_text v ++ values_text vs) ≡ Some (v ∷ vs)
values_again v [] h k =
    ap values_in (append-nil (value_text v)) ∙ values_in-last (value_text v) (cut_none 32 (value_text v) (value_spaceless v h))
    ∙ ap (λ o. o >>= λ v. Some (v ∷ [])) (value_again v h)
values_again v (w ∷ ws) h k =
    values_in-more (value_text v ++ values_text (w ∷ ws)) (value_text v) (value_text w ++ values_text ws)
    (cut_again 32 (value_text v) (value_text w ++ values_text ws) (value_spaceless v h))
    ∙ rw (value_again v h, values_again w ws k.0 k.1) refl

with_values_again : (part : List ℕ) (vs : List RawValue) → is_free 32 part ≡ true → AreValues vs → with_values (part ++ values_text vs) ≡ Some (part, vs)
unfolding with_values
with_values_again part [] h k = ap with_values (append-nil part) ∙ rw (with_values, cut_none 32 part h) refl
with_values_again part (v ∷ vs) h k = rw (with_values, cut_again 32 part (value_text v ++ values_text vs) h, values_again v vs k.0 k.1) refl

object_again : (o : List ℕ) (vs : List RawValue) → IsName o → AreValues vs → object_and_values (o ++ values_text vs) ≡ Some (o, vs)
unfolding object_and_values
object_again o vs h k = rw (with_values_again o vs (name_spaceless o h) k, h) refl

request_again : (o : List ℕ) (m : Mode) (s : Scope) (vs : List RawValue) → IsName o → AreValues vs
    → request_of (request_text o m s vs) ≡ Some (record { object = o; mode = m; scope = s; values = vs })
unfolding request_of
request_again o m s vs h k =
    rw (
      cut_again 32 o (mode_text m ␣ (scope_text s ++ values_text vs)) (name_spaceless o h),
      h,
      mode_cut m
          (scope_text s ++ values_text vs),
      mode_again m,
      with_values_again (scope_text s) vs (scope_free s) k,
      scope_again s,
    ) refl

key_and_again : (test : List ℕ → Bool) (key rest : List ℕ) → IsRaw key → test rest ≡ true → key_and test (key ␣ rest) ≡ Some (key, rest)
unfolding key_and
key_and_again test key rest h k = rw (cut_again 32 key rest (raw_spaceless key h), h, k) refl

-- ---- lines

-- a name stands for a session
session_again : (s act : List ℕ) → IsName s → line_of (s ␣ act) ≡ session_line s act
unfolding line_of act_line
session_again [] act h = cc
session_again (b ∷ bs) act h =
    let low : 65 ≤ b = leb-true _ _ (and_parts _ _ (and_parts _ _ (and_parts _ _ h).0).0).0 in
    let hash = ne_eqb b 35 (λ e. absurd (omega arith)) in
    let at = ne_eqb b 64 (λ e. absurd (omega arith)) in
    let bang = ne_eqb b 33 (λ e. absurd (omega arith)) in
    let query = ne_eqb b 63 (λ e. absurd (omega arith)) in
    rw (hash, cut_again 32 (b ∷ bs) act (name_spaceless (b ∷ bs) h), at, bang, query, h) refl

-- an effect behind its part
part_again : (s : List ℕ) (part : ℕ) (act : List ℕ) → IsPart part → session_line s (part_text part ␣ act) ≡ update_line s part act
unfolding session_line cut verb_of verb_line
part_again s zero act h = absurd (omega arith)
part_again s (suc zero) act h = refl
part_again s (suc (suc zero)) act h = refl
part_again s (suc (suc (suc n))) act h = absurd (omega arith)

worker_line_again : (w : ℕ) (act : List ℕ) → IsWorker w → line_of (worker_text w ␣ act) ≡ order_line w act
unfolding line_of act_line worker_line
worker_line_again w act h = rw (cut_again 32 (64 ∷ decimal w) act (decimal_spaceless w (omega arith)), worker_again w h) refl

verb_again : (s : List ℕ) (v : Verb) (t : List ℕ) → session_line s (verb_text v ␣ t) ≡ verb_line s v t
unfolding session_line cut verb_of
verb_again s verb.Logon t = refl
verb_again s verb.Enq t = refl
verb_again s verb.Deq t = refl
verb_again s verb.Collect t = refl
verb_again s verb.Convert t = refl
verb_again s verb.Num t = refl
verb_again s verb.Read t = refl
verb_again s verb.V1 t = refl
verb_again s verb.V2 t = refl

act_again : (s : List ℕ) (v : Verb) (t : List ℕ) → IsName s → line_of (s ␣ verb_text v ␣ t) ≡ verb_line s v t
act_again s v t h = session_again s (verb_text v ␣ t) h ∙ verb_again s v t

effect_again : (s : List ℕ) (part : ℕ) (c : Change) (table t : List ℕ) → IsName s → IsPart part → IsName table
    → line_of (s ␣ part_text part ␣ change_text c ␣ table ␣ t) ≡ effect_line s part c table t
unfolding update_line
effect_again s part c table t h p q =
    session_again s (part_text part ␣ change_text c ␣ table ␣ t) h ∙ part_again s part (change_text c ␣ table ␣ t) p
    ∙ rw (change_cut c (table ␣ t), change_again c, cut_again 32 table t (name_spaceless table q), q) refl

number_again : (s o nr v : List ℕ) → IsName o → IsTrue (is_nr nr) → IsName v → number_line s (o ␣ nr ␣ v) ≡ Some (line.Num s o nr v)
unfolding number_line
number_again s o nr v h k q = rw (cut_again 32 o (nr ␣ v) (name_spaceless o h), h, cut_again 32 nr v (nr_spaceless nr k), k, q) refl

row_again : (s t k v : List ℕ) → IsName t → IsRaw k → IsName v → row_line s (t ␣ k ␣ v) ≡ Some (line.Read s t k v)
unfolding row_line
row_again s t k v h r q = rw (cut_again 32 t (k ␣ v) (name_spaceless t h), h, cut_again 32 k v (raw_spaceless k r), q, r) refl

-- a well formed line is read from its spelling
pub line_again : (l : ScriptLine) (bytes : List ℕ) → IsLine l → Spells bytes l → line_of bytes ≡ Some l
unfolding session_line cut plain_line verb_line effect_line order_line server_line monitor_line admin_line unit_line line_of act_line
line_again line.Blank bytes h e = rw e refl
line_again (line.Logoff s) bytes h e = ap line_of e ∙ session_again s (codes "LOGOFF") h
line_again (line.DeqAll s) bytes h e = ap line_of e ∙ session_again s (codes "DEQ_ALL") h
line_again (line.Flush s) bytes h e = ap line_of e ∙ session_again s (codes "FLUSH") h
line_again (line.Reset s) bytes h e = ap line_of e ∙ session_again s (codes "RESET") h
line_again (line.Commit s) bytes h e = ap line_of e ∙ session_again s (codes "COMMIT") h
line_again (line.Rollback s) bytes h e = ap line_of e ∙ session_again s (codes "ROLLBACK") h
line_again (line.Logon s user) bytes h e = ap line_of e ∙ act_again s verb.Logon user h.0 ∙ rw h.1 refl
line_again (line.Enq s o m c vs) bytes h e =
    ap line_of e ∙ act_again s verb.Enq (request_text o m c vs) h.0 ∙ ap (λ r. r >>= λ w. Some (line.Enq s w.object w.mode w.scope w.values))
    (request_again o m c vs h.1 h.2)
line_again (line.Deq s o m c vs) bytes h e =
    ap line_of e ∙ act_again s verb.Deq (request_text o m c vs) h.0 ∙ ap (λ r. r >>= λ w. Some (line.Deq s w.object w.mode w.scope w.values))
    (request_again o m c vs h.1 h.2)
line_again (line.Collect s o m c vs) bytes h e =
    ap line_of e ∙ act_again s verb.Collect (request_text o m c vs) h.0 ∙ ap (λ r. r >>= λ w. Some (line.Collect s w.object w.mode w.scope w.values))
    (request_again o m c vs h.1 h.2)
line_again (line.Convert s o vs) bytes h e =
    ap line_of e ∙ act_again s verb.Convert (o ++ values_text vs) h.0 ∙ ap (λ r. r >>= λ o. Some (line.Convert s o.0 o.1)) (object_again o vs h.1 h.2)
line_again (line.Num s o nr v) bytes h e = ap line_of e ∙ act_again s verb.Num (o ␣ nr ␣ v) h.0 ∙ number_again s o nr v h.1 h.2 h.3
line_again (line.Read s t k v) bytes h e = ap line_of e ∙ act_again s verb.Read (t ␣ k ␣ v) h.0 ∙ row_again s t k v h.1 h.2 h.3
line_again (line.Put s p t k x) bytes h e = ap line_of e ∙ effect_again s p change.Put t (k ␣ x) h.0 h.1 h.2 ∙ rw (key_and_again is_rest k x h.3 h.4) refl
line_again (line.Ins s p t k x) bytes h e = ap line_of e ∙ effect_again s p change.Ins t (k ␣ x) h.0 h.1 h.2 ∙ rw (key_and_again is_rest k x h.3 h.4) refl
line_again (line.Add s p t k x) bytes h e = ap line_of e ∙ effect_again s p change.Add t (k ␣ x) h.0 h.1 h.2 ∙ rw (key_and_again is_raw k x h.3 h.4) refl
line_again (line.Del s p t k) bytes h e = ap line_of e ∙ effect_again s p change.Del t k h.0 h.1 h.2 ∙ rw h.3 refl
line_again (line.Take1 w) bytes h e = ap line_of e ∙ worker_line_again w (codes "TAKE1") h
line_again (line.Do1 w) bytes h e = ap line_of e ∙ worker_line_again w (codes "DO1") h
line_again (line.Take2 w) bytes h e = ap line_of e ∙ worker_line_again w (codes "TAKE2") h
line_again (line.Do2 w) bytes h e = ap line_of e ∙ worker_line_again w (codes "DO2") h
line_again (line.DropOrder w) bytes h e = ap line_of e ∙ worker_line_again w (codes "DROP") h
line_again line.Kill bytes h e = ap line_of e
line_again line.FailOver bytes h e = ap line_of e
line_again line.Restart bytes h e = ap line_of e
line_again line.Attach bytes h e = ap line_of e
line_again line.Sm12 bytes h e = ap line_of e
line_again line.Sm13 bytes h e = ap line_of e
line_again line.Snro bytes h e = ap line_of e
line_again line.Audit bytes h e = ap line_of e
line_again (line.Cancel u) bytes h e = ap line_of e ∙ rw (unit_key_again u h) refl
line_again (line.Resubmit u) bytes h e = ap line_of e ∙ rw (unit_key_again u h) refl
