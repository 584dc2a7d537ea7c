-- What is read is spelled so.
use Rattle.std.proofs.Common.{◌≡◌, ℕ, List, [], ◌∷◌, ◌++◌, map, length, refl, sym, ap, ◌∙◌, subst, Option, Some, option_map, arith, codes, decimal, lit≤}
use Rattle.std.specs.Prelude.{Bool, true, IfSome, nat_eq, nat_le}
use Rattle.std.specs.List.{list_all, slice_split, join_with_byte}
use Rattle.std.specs.Str.{bytes_eq}
use Rattle.std.proofs.lemmas.Bool.{cond_both, leb-true, eqb-true}
use Rattle.std.proofs.lemmas.Slice.Eq.{bytes_eq-Decides}
use Rattle.std.proofs.lemmas.List.{append-nil}
use Rattle.std.proofs.lemmas.List.Splits.{join_with_byte-slice_split, length-slice_split}
use Rattle.enq_base.specs.Grammar.{is_name, is_key_byte}
use Rattle.enq_base.specs.Number.{◌>>=◌, count_of, unit_key_of, IsUnitKey}
use Rattle.enq_base.specs.Text.{◌␣◌, unit_text}
use Rattle.enq_base.specs.declared.owner.UnitKey.{UnitKey}
use Rattle.enq_base.proofs.lemmas.Numbers.{count_if, unit_key_if}
use Rattle.mode_rules.specs.Modes.{mode_text}
use Rattle.script_lang.specs.Parts.{is_raw, is_rest, is_nr, is_blank, IsName, IsRaw, IsValue, AreValues, IsPart, IsWorker}
use Rattle.script_lang.specs.Reading.{act_line, admin_line, effect_line, key_and, line_of, number_line, object_and_values, request_of, row_line, session_line}
use Rattle.script_lang.specs.Reading.{update_line, value_of, values_in, values_of, verb_line, with_values, worker_line, worker_of}
use Rattle.script_lang.specs.Spelling.{IsLine, Spells, part_text, request_text, scope_text, spelling, value_text, values_text, worker_text}
use Rattle.script_lang.specs.Words.{change_of, changes, mode_of, modes, monitor_line, monitor_lines, order_line, order_lines, plain_line, plain_lines, scope_of}
use Rattle.script_lang.specs.Words.{scopes, server_line, server_lines, unit_line, unit_lines, verb_of, verbs}
use Rattle.script_lang.specs.declared.request.Request.{Request}
use Rattle.script_lang.specs.declared.script_line.RawValue.{RawValue}
use Rattle.script_lang.specs.declared.script_line.ScriptLine.{ScriptLine}
use Rattle.script_lang.specs.declared.script_line.ScriptLine.TheVariants as line
use Rattle.script_lang.specs.declared.words.Change.{Change}
use Rattle.script_lang.specs.declared.words.Change.TheVariants as change
use Rattle.script_lang.specs.declared.words.Verb.{Verb}
use Rattle.script_lang.specs.declared.words.Verb.TheVariants as verb
use Rattle.script_lang.proofs.Steps.{bind_if, by_cut, cut_then, map_if, named_if, pass_then, test_then, weaker_if}

-- the line is well formed, and the bytes are its spelling
abbrev pub IsRead : List ℕ → ScriptLine → Type 0
IsRead bytes l = IsLine l × (bytes ≡ spelling l)

-- ---- parts

worker_if : (t : List ℕ) → IfSome (worker_of t) (λ w. IsWorker w × (t ≡ decimal w))
unfolding worker_of
worker_if t = bind_if _ _ (count_of t) (count_if t)
    (λ n h. test_then (nat_le n 64) (Some n) (λ w. IsWorker w × (t ≡ decimal w)) (λ e. ((h.0.0, leb-true _ _ e), h.1)))

mode_if : (t : List ℕ) → IfSome (mode_of t) (λ m. t ≡ mode_text m)
unfolding mode_of
mode_if t = named_if (λ t m. t ≡ mode_text m) modes t (refl, (refl, (refl, (refl, tt))))

scope_if : (t : List ℕ) → IfSome (scope_of t) (λ m. t ≡ scope_text m)
unfolding scope_of
scope_if t = named_if (λ t m. t ≡ scope_text m) scopes t (refl, (refl, (refl, tt)))

abbrev pub verb_text : Verb → List ℕ
verb_text verb.Logon = codes "LOGON"
verb_text verb.Enq = codes "ENQ"
verb_text verb.Deq = codes "DEQ"
verb_text verb.Collect = codes "COLLECT"
verb_text verb.Convert = codes "CONVERT"
verb_text verb.Num = codes "NUM"
verb_text verb.Read = codes "READ"
verb_text verb.V1 = codes "V1"
verb_text verb.V2 = codes "V2"

pub verb_if : (t : List ℕ) → IfSome (verb_of t) (λ v. t ≡ verb_text v)
unfolding verb_of
verb_if t = named_if (λ t v. t ≡ verb_text v) verbs t (refl, (refl, (refl, (refl, (refl, (refl, (refl, (refl, (refl, tt)))))))))

abbrev pub change_text : Change → List ℕ
change_text change.Put = codes "PUT"
change_text change.Ins = codes "INS"
change_text change.Del = codes "DEL"
change_text change.Add = codes "ADD"

change_if : (t : List ℕ) → IfSome (change_of t) (λ c. t ≡ change_text c)
unfolding change_of
change_if t = named_if (λ t c. t ≡ change_text c) changes t (refl, (refl, (refl, (refl, tt))))

-- ---- values

value_if : (t : List ℕ) → IfSome (value_of t) (λ v. IsValue v × (t ≡ value_text v))
unfolding value_of
value_if t = cut_then 61 t _ _
    (λ a ha. pass_then is_name a.0 _ _
    (λ hn. test_then (list_all is_key_byte a.1) (Some (record { field = a.0; raw = a.1 })) (λ v. IsValue v × (t ≡ value_text v)) (λ hr. ((hn, hr), ha.whole))))

values_if : (ps : List (List ℕ)) → IfSome (values_of ps) (λ vs. AreValues vs × (ps ≡ map value_text vs))
unfolding values_of
values_if [] = (tt, refl)
values_if (p ∷ ps) = bind_if _ _ (value_of p) (value_if p) (λ v hv. bind_if _ _ (values_of ps) (values_if ps) (λ vs hvs. ((hv.0, hvs.0), cc)))

join-values : (v : RawValue) (vs : List RawValue) → 32 ∷ join_with_byte 32 (map value_text (v ∷ vs)) ≡ values_text (v ∷ vs)
join-values v [] = ap (λ (x : List ℕ). 32 ∷ x) (sym (append-nil (value_text v)))
join-values v (w ∷ ws) = ap (λ (x : List ℕ). 32 ∷ (value_text v ++ x)) (join-values w ws)

joined_values : (t : List ℕ) (vs : List RawValue) → slice_split (λ b. nat_eq b 32) t ≡ map value_text vs → 32 ∷ t ≡ values_text vs
joined_values t [] e = absurd (omega (arith, length-slice_split (λ b. nat_eq b 32) t, ap length e))
joined_values t (v ∷ vs) e = ap (λ (x : List ℕ). 32 ∷ x) (sym (join_with_byte-slice_split 32 t) ∙ ap (join_with_byte 32) e) ∙ join-values v vs

values_in_if : (t : List ℕ) → IfSome (values_in t) (λ vs. AreValues vs × (32 ∷ t ≡ values_text vs))
unfolding values_in
values_in_if t = weaker_if _ _ (values_of (slice_split (λ b. nat_eq b 32) t)) (values_if (slice_split (λ b. nat_eq b 32) t))
    (λ vs h. (h.0, joined_values t vs h.1))

abbrev HasValues : List ℕ → List ℕ × List RawValue → Type 0
HasValues t h = AreValues h.1 × (t ≡ h.0 ++ values_text h.1)

with_values_if : (t : List ℕ) → IfSome (with_values t) (HasValues t)
unfolding with_values
with_values_if t =
    by_cut t (HasValues t) (Some (t, [])) (λ c. option_map (λ (vs : List RawValue). (c.0, vs)) (values_in c.1)) (tt, sym (append-nil t))
    (λ c h. map_if (λ (vs : List RawValue). (c.0, vs)) (HasValues t) (values_in c.1) (values_in_if c.1)
    (λ vs q. (q.0, h.whole ∙ ap (λ (x : List ℕ). c.0 ++ x) q.1)))

object_if : (t : List ℕ) → IfSome (object_and_values t) (λ o. IsName o.0 × AreValues o.1 × (t ≡ o.0 ++ values_text o.1))
unfolding object_and_values
object_if t = bind_if _ _ (with_values t) (with_values_if t) (λ h p. pass_then is_name h.0 _ _ (λ q. (q, p.0, p.1)))

abbrev IsRequest : List ℕ → Request → Type 0
IsRequest t r = IsName r.object × AreValues r.values × (t ≡ request_text r.object r.mode r.scope r.values)

request_if : (t : List ℕ) → IfSome (request_of t) (IsRequest t)
unfolding request_of
request_if t =
    cut_then 32 t _ _ (λ a ha. pass_then is_name a.0 _ _ (λ ho. cut_then 32 a.1 _ _ (λ b hb. bind_if _ _ (mode_of b.0) (mode_if b.0) (λ m hm.
    bind_if _ _ (with_values b.1) (with_values_if b.1) (λ h hv. bind_if _ _ (scope_of h.0) (scope_if h.0) (λ s hs. (ho, hv.0, cc)))))))

-- ---- lines

plain_if : (s act : List ℕ) → IsName s → IfSome (plain_line s act) (IsRead (s ␣ act))
unfolding plain_line
plain_if s act h = named_if (λ t l. IsRead (s ␣ t) l) (plain_lines s) act ((h, refl), ((h, refl), ((h, refl), ((h, refl), ((h, refl), ((h, refl), tt))))))

monitor_if : (act : List ℕ) → IfSome (monitor_line act) (IsRead (codes "?" ␣ act))
unfolding monitor_line
monitor_if act = named_if (λ t l. IsRead (codes "?" ␣ t) l) monitor_lines act ((tt, refl), ((tt, refl), ((tt, refl), ((tt, refl), tt))))

server_if : (act : List ℕ) → IfSome (server_line act) (IsRead (codes "!" ␣ act))
unfolding server_line
server_if act = named_if (λ t l. IsRead (codes "!" ␣ t) l) server_lines act ((tt, refl), ((tt, refl), ((tt, refl), ((tt, refl), tt))))

order_if : (worker : ℕ) (act : List ℕ) → IsWorker worker → IfSome (order_line worker act) (IsRead (worker_text worker ␣ act))
unfolding order_line
order_if worker act h = named_if (λ t l. IsRead (worker_text worker ␣ t) l) (order_lines worker) act
    ((h, refl), ((h, refl), ((h, refl), ((h, refl), ((h, refl), tt)))))

unit_line_if : (unit : UnitKey) (act : List ℕ) → IsUnitKey unit → IfSome (unit_line unit act) (IsRead (codes "!" ␣ act ␣ unit_text unit))
unfolding unit_line
unit_line_if unit act h = named_if (λ t l. IsRead (codes "!" ␣ t ␣ unit_text unit) l) (unit_lines unit) act ((h, refl), ((h, refl), tt))

number_if : (s t : List ℕ) → IsName s → IfSome (number_line s t) (IsRead (s ␣ codes "NUM" ␣ t))
unfolding number_line
number_if s t h =
    cut_then 32 t _ _
    (λ a ha. pass_then is_name a.0 _ _
    (λ ho. cut_then 32 a.1 _ _ (λ b hb. pass_then is_nr b.0 _ _ (λ hn. pass_then is_name b.1 _ _ (λ hv. ((h, ho, hn, hv), cc))))))

row_if : (s t : List ℕ) → IsName s → IfSome (row_line s t) (IsRead (s ␣ codes "READ" ␣ t))
unfolding row_line
row_if s t h =
    cut_then 32 t _ _
    (λ a ha. pass_then is_name a.0 _ _
    (λ ht. cut_then 32 a.1 _ _ (λ b hb. pass_then is_name b.1 _ _ (λ hv. pass_then is_raw b.0 _ _ (λ hk. ((h, ht, hk, hv), cc))))))

-- a key and what stands behind it, which passes a test
abbrev IsKeyAnd : (List ℕ → Bool) → List ℕ → List ℕ × List ℕ → Type 0
IsKeyAnd test t h = IsRaw h.0 × (test h.1 ≡ true) × (t ≡ h.0 ␣ h.1)

key_and_if : (test : List ℕ → Bool) (t : List ℕ) → IfSome (key_and test t) (IsKeyAnd test t)
unfolding key_and
key_and_if test t = cut_then 32 t _ _ (λ a ha. pass_then is_raw a.0 _ _ (λ hk. pass_then test a.1 _ _ (λ ht. (hk, ht, ha.whole))))

effect_if : (s : List ℕ) (part : ℕ) (c : Change) (table t : List ℕ) → IsName s → IsPart part → IsName table
    → IfSome (effect_line s part c table t) (IsRead (s ␣ part_text part ␣ change_text c ␣ table ␣ t))
unfolding effect_line
effect_if s part change.Put table t h p q = bind_if _ _ (key_and is_rest t) (key_and_if is_rest t) (λ x k. ((h, p, q, k.0, k.1), cc))
effect_if s part change.Ins table t h p q = bind_if _ _ (key_and is_rest t) (key_and_if is_rest t) (λ x k. ((h, p, q, k.0, k.1), cc))
effect_if s part change.Del table t h p q = pass_then is_raw t _ _ (λ a. ((h, p, q, a), refl))
effect_if s part change.Add table t h p q = bind_if _ _ (key_and is_raw t) (key_and_if is_raw t) (λ x k. ((h, p, q, k.0, k.1), cc))

update_if : (s : List ℕ) (part : ℕ) (t : List ℕ) → IsName s → IsPart part → IfSome (update_line s part t) (IsRead (s ␣ part_text part ␣ t))
unfolding update_line
update_if s part t h p =
    cut_then 32 t _ _ (λ a ha. bind_if _ _ (change_of a.0) (change_if a.0) (λ c hc. cut_then 32 a.1 _ _ (λ b hb. pass_then is_name b.0 _ _ (λ q.
    let e : t ≡ change_text c ␣ b.0 ␣ b.1 = cc in
    subst (λ t. IfSome (effect_line s part c b.0 b.1) (IsRead (s ␣ part_text part ␣ t))) (sym e) (effect_if s part c b.0 b.1 h p q)))))

verb_line_if : (s : List ℕ) (v : Verb) (t : List ℕ) → IsName s → IfSome (verb_line s v t) (IsRead (s ␣ verb_text v ␣ t))
unfolding verb_line
verb_line_if s verb.Logon t h = pass_then is_name t _ _ (λ u. ((h, u), refl))
verb_line_if s verb.Enq t h = bind_if _ _ (request_of t) (request_if t) (λ w p. ((h, p.0, p.1), cc))
verb_line_if s verb.Deq t h = bind_if _ _ (request_of t) (request_if t) (λ w p. ((h, p.0, p.1), cc))
verb_line_if s verb.Collect t h = bind_if _ _ (request_of t) (request_if t) (λ w p. ((h, p.0, p.1), cc))
verb_line_if s verb.Convert t h = bind_if _ _ (object_and_values t) (object_if t) (λ o p. ((h, p.0, p.1), cc))
verb_line_if s verb.Num t h = number_if s t h
verb_line_if s verb.Read t h = row_if s t h
verb_line_if s verb.V1 t h = update_if s 1 t h (lit≤ tt, lit≤ tt)
verb_line_if s verb.V2 t h = update_if s 2 t h (lit≤ tt, lit≤ tt)

session_if : (s act : List ℕ) → IsName s → IfSome (session_line s act) (IsRead (s ␣ act))
unfolding session_line
session_if s act h =
    by_cut act (IsRead (s ␣ act)) (plain_line s act) (λ x. verb_of x.0 >>= λ v. verb_line s v x.1) (plain_if s act h)
    (λ a ha. bind_if _ _ (verb_of a.0) (verb_if a.0) (λ v hv.
    let e : act ≡ verb_text v ␣ a.1 = cc in
    subst (λ t. IfSome (verb_line s v a.1) (IsRead (s ␣ t))) (sym e) (verb_line_if s v a.1 h)))

admin_if : (act : List ℕ) → IfSome (admin_line act) (IsRead (codes "!" ␣ act))
unfolding admin_line
admin_if act =
    by_cut act (IsRead (codes "!" ␣ act)) (server_line act) (λ x. unit_key_of x.1 >>= λ unit. unit_line unit x.0) (server_if act)
    (λ a ha. bind_if _ _ (unit_key_of a.1) (unit_key_if a.1) (λ unit hu.
    let e : act ≡ a.0 ␣ unit_text unit = cc in
    subst (λ t. IfSome (unit_line unit a.0) (IsRead (codes "!" ␣ t))) (sym e) (unit_line_if unit a.0 hu.0)))

worker_line_if : (number act : List ℕ) → IfSome (worker_line number act) (IsRead ((64 ∷ number) ␣ act))
unfolding worker_line
worker_line_if number act =
    bind_if _ _ (worker_of number) (worker_if number) (λ w h. subst (λ n. IfSome (order_line w act) (IsRead ((64 ∷ n) ␣ act))) (sym h.1) (order_if w act h.0))

act_if : (who act : List ℕ) → IfSome (act_line who act) (IsRead (who ␣ act))
unfolding act_line
act_if [] act = tt
act_if (b ∷ bs) act =
    let P : Option ScriptLine → Type 0 = λ o. IfSome o (IsRead ((b ∷ bs) ␣ act)) in
    cond_both (nat_eq b 64) _ _ P (λ e. subst (λ c. IfSome (worker_line bs act) (IsRead ((c ∷ bs) ␣ act))) (sym (eqb-true b 64 e)) (worker_line_if bs act))
    (λ _. cond_both (bytes_eq (b ∷ bs) (codes "!")) _ _ P
    (λ e. subst (λ w. IfSome (admin_line act) (IsRead (w ␣ act))) (sym ((bytes_eq-Decides (b ∷ bs) (codes "!")).0 e)) (admin_if act))
    (λ _. cond_both (bytes_eq (b ∷ bs) (codes "?")) _ _ P
    (λ e. subst (λ w. IfSome (monitor_line act) (IsRead (w ␣ act))) (sym ((bytes_eq-Decides (b ∷ bs) (codes "?")).0 e)) (monitor_if act))
    (λ _. pass_then is_name (b ∷ bs) _ _ (λ h. session_if (b ∷ bs) act h))))

spells_from : (bytes : List ℕ) (l : ScriptLine) → bytes ≡ spelling l → Spells bytes l
spells_from bytes line.Blank e = rw e refl
spells_from bytes l e = e

-- what is read is well formed, and spelled so
pub line_if : (bytes : List ℕ) → IfSome (line_of bytes) (λ l. IsLine l × Spells bytes l)
unfolding line_of
line_if bytes =
    let P : Option ScriptLine → Type 0 = λ o. IfSome o (λ l. IsLine l × Spells bytes l) in
    cond_both (is_blank bytes) _ _ P (λ e. (tt, e))
    (λ _. cut_then 32 bytes _ _ (λ a ha. weaker_if _ _ (act_line a.0 a.1) (act_if a.0 a.1) (λ l h. (h.0, spells_from bytes l (ha.whole ∙ h.1)))))
