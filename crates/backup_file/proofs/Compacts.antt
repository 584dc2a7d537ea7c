-- Logs that have one hand of each list, and no other record.
use Rattle.std.proofs.Common.{◌≡◌, ℕ, ◌+◌, ◌<◌, Bool, true, false, not, cond, ◌||◌, ◌&&◌, List, [], ◌∷◌, ◌++◌, get_or, length, map, take, refl, sym, ap, subst, ◌∙◌, append_assoc, append-nil, arith}
use Rattle.std.specs.Prelude.{nat_le}
use Rattle.std.specs.List.{All, AllByRecursion, flat_map}
use Rattle.std.proofs.lemmas.Bool.{le-leb, leb-true}
use Rattle.std.proofs.lemmas.List.{take_more}
use Rattle.std.proofs.lemmas.List.Concat.{flat_map-append, flat_map-cons}
use Rattle.std.proofs.lemmas.List.Elements.{All-from_recursion, recursion_from_All}
use Rattle.enq_base.specs.Owners.{same_unit}
use Rattle.enq_base.specs.declared.owner.UnitKey.{UnitKey}
use Rattle.lock_entry.specs.declared.entry.Entry.{Entry}
use Rattle.gate_log.specs.Logs as logs
use Rattle.backup_file.specs.declared.handed.Handed.{Handed}
use Rattle.backup_file.specs.declared.handed.Record.{Record}
use Rattle.backup_file.specs.declared.handed.Record.TheVariants.{Hand, Free}
use Rattle.backup_file.specs.Handing.{IsHandable, IsList, MayBeHanded, as_handed, handed_of}
use Rattle.backup_file.specs.Lists.{HaveEntries, after, has_unit, without}
use Rattle.backup_file.specs.Spelling.{IsLock, IsRecord, user_of}
use Rattle.backup_file.specs.File.{IsWithin, MayFollow, are_within, compact, grammar_of, log_grammar}
use Rattle.backup_file.proofs.Fields.{both_true}
use Rattle.backup_file.proofs.lemmas.Units.{flipped, has-push, has-without, itself}

-- ---- the lists that records lead to: each may be in a record, and each unit has one

abbrev pub AreApart : List Handed → Type 0
AreApart [] = Unit {0}
AreApart (h ∷ l) = (has_unit h.unit l ≡ false) × AreApart l

abbrev AreLists : List Handed → Type 0
AreLists l = AllByRecursion IsList l

kept : (u : UnitKey) (l : List Handed) → AreLists l → AreLists (without u l)
kept u [] h = tt
kept u (x ∷ l) h =
    let rest = kept u l h.1 in
    elim (same_unit x.unit u) as (λ b. AreLists (cond (not b) (x ∷ without u l) (without u l))) [ true ↦ rest | false ↦ (h.0, rest) ]

one_more : (l : List Handed) (x : Handed) → AreLists l → IsList x → AreLists (l ++ x ∷ [])
one_more [] x h k = (k, tt)
one_more (y ∷ l) x h k = (h.0, one_more l x h.1 k)

no_unit : (s b : Bool) → b ≡ false → (not s && b) ≡ false
no_unit true b h = refl
no_unit false b h = h

apart_without : (u : UnitKey) (l : List Handed) → AreApart l → AreApart (without u l)
apart_without u [] h = tt
apart_without u (x ∷ l) h =
    let rest = apart_without u l h.1 in
    elim (same_unit x.unit u) as (λ b. AreApart (cond (not b) (x ∷ without u l) (without u l))) [
      | true ↦ rest
      | false ↦ (has-without x.unit u l ∙ no_unit (same_unit u x.unit) (has_unit x.unit l) h.0, rest)
    ]

neither : (a b : Bool) → a ≡ false → b ≡ false → (a || b) ≡ false
neither a b h k = ap (λ t. t || b) h ∙ k

first_false : (a b : Bool) → (a || b) ≡ false → a ≡ false
first_false true b h = h
first_false false b h = refl

second_false : (a b : Bool) → (a || b) ≡ false → b ≡ false
second_false true b h = cc
second_false false b h = h

apart_push : (l : List Handed) (x : Handed) → AreApart l → has_unit x.unit l ≡ false → AreApart (l ++ x ∷ [])
apart_push [] x h none = (refl, tt)
apart_push (y ∷ l) x h none = (
  has-push y.unit l x
      ∙ neither (same_unit x.unit y.unit) (has_unit y.unit l)
      (flipped x.unit y.unit ∙ first_false (same_unit y.unit x.unit) (has_unit x.unit l) none) h.0,
  apart_push l x h.1 (second_false (same_unit y.unit x.unit) (has_unit x.unit l) none),
)

apart_after : (l : List Handed) (r : Record) → AreApart l → AreApart (after l r)
apart_after l (Hand h) apart = apart_push (without h.unit l) h (apart_without h.unit l apart)
    (has-without h.unit h.unit l ∙ ap (λ s. not s && has_unit h.unit l) (itself h.unit))
apart_after l (Free u) apart = apart_without u l apart

lists_after : (most : ℕ) (l : List Handed) (r : Record) → AreLists l → IsRecord r → MayFollow most l r → AreLists (after l r)
lists_after most l (Hand h) all is legal = one_more (without h.unit l) h (kept h.unit l all) (record { is_record = is; distinct = legal.0 })
lists_after most l (Free u) all is legal = kept u l all

led : (name : List ℕ) (most : ℕ) (l : List Handed) (rs : List Record) (m : List Handed) → logs.Leads (grammar_of name most) l rs m → AreLists l → AreApart l
    → AreLists m × AreApart m
led name most l [] m leads all apart = (subst (λ (k : List Handed). AreLists k) leads all, subst (λ (k : List Handed). AreApart k) leads apart)
led name most l (r ∷ rs) m leads all apart =
    led name most (after l r) rs m leads.2 (lists_after most l r all leads.0 leads.1) (apart_after l r apart)

pub led_lists : (name : List ℕ) (most : ℕ) (rs : List Record) (l : List Handed) → logs.Leads (grammar_of name most) [] rs l → All IsList l
led_lists name most rs l leads = All-from_recursion IsList l (led name most [] rs l leads tt tt).0

pub led_apart : (name : List ℕ) (most : ℕ) (rs : List Record) (l : List Handed) → logs.Leads (grammar_of name most) [] rs l → AreApart l
led_apart name most rs l leads = (led name most [] rs l leads tt tt).1

-- ---- a hand of each of them leads to them again

within_entries : (unit : UnitKey) (user : List ℕ) (es : List Entry) → AllByRecursion (IsLock unit user) es → are_within 255 es ≡ true
within_entries unit user [] locks = refl
within_entries unit user (e ∷ es) locks =
    let fits = leb-true (length e.pattern) 255 (both_true _ (nat_le (length e.pattern) 255) locks.0.patterned).1 in
    ap (λ b. b && are_within 255 es) (le-leb (length e.pattern) 255 (omega (arith, fits))) ∙ within_entries unit user es locks.1

-- the arguments of a record are short enough for the log in force
pub within_log : (r : Record) → IsRecord r → IsWithin 255 r
within_log (Hand h) is = within_entries h.unit (user_of h.entries) h.entries is.held.locks
within_log (Free u) is = tt

stays_whole : (b : Bool) (h : Handed) (xs ys : List Handed) → b ≡ false → ys ≡ xs → cond (not b) (h ∷ ys) ys ≡ h ∷ xs
stays_whole true h xs ys e same = cc
stays_whole false h xs ys e same = ap (λ (r : List Handed). h ∷ r) same

absent : (u : UnitKey) (l : List Handed) → has_unit u l ≡ false → without u l ≡ l
absent u [] h = refl
absent u (x ∷ l) h = stays_whole (same_unit x.unit u) x l (without u l) (first_false (same_unit x.unit u) (has_unit u l) h)
    (absent u l (second_false (same_unit x.unit u) (has_unit u l) h))

has_more : (u : UnitKey) (p : List Handed) (h : Handed) (l : List Handed) → has_unit u (p ++ h ∷ l) ≡ false → same_unit h.unit u ≡ false
has_more u [] h l none = first_false (same_unit h.unit u) (has_unit u l) none
has_more u (x ∷ p) h l none = has_more u p h l (second_false (same_unit x.unit u) (has_unit u (p ++ h ∷ l)) none)

-- the next list's unit has none before
new_unit : (p : List Handed) (h : Handed) (l : List Handed) → AreApart (p ++ h ∷ l) → has_unit h.unit p ≡ false
new_unit [] h l apart = refl
new_unit (x ∷ p) h l apart = neither (same_unit x.unit h.unit) (has_unit h.unit p) (flipped x.unit h.unit ∙ has_more x.unit p h l apart.0)
    (new_unit p h l apart.1)

leads_on : (p l : List Handed) → AreApart (p ++ l) → AreLists l → logs.Leads log_grammar p (map Hand l) (p ++ l)
leads_on p [] apart all = sym (append-nil p)
leads_on p (h ∷ l) apart all =
    let next : after p (Hand h) ≡ p ++ h ∷ [] = ap (λ (k : List Handed). k ++ h ∷ []) (absent h.unit p (new_unit p h l apart)) in
    let whole : (p ++ h ∷ []) ++ l ≡ p ++ h ∷ l = append_assoc p (h ∷ []) l in (
      all.0.is_record,
      (all.0.distinct, within_log (Hand h) all.0.is_record),
      subst (λ (k : List Handed). logs.Leads log_grammar k (map Hand l) (p ++ h ∷ l)) (sym next)
          (subst (λ (k : List Handed). logs.Leads log_grammar (p ++ h ∷ []) (map Hand l) k) whole
          (leads_on (p ++ h ∷ []) l (subst (λ (k : List Handed). AreApart k) (sym whole) apart) all.1)),
    )

pub hands_spelled : (hs : List Handed) → flat_map (logs.opened log_grammar) (map Hand hs) ≡ compact hs
hands_spelled [] = refl
hands_spelled (h ∷ hs) =
    flat_map-cons (logs.opened log_grammar) (Hand h) (map Hand hs)
    ∙ ap (λ (b : List ℕ). logs.opened log_grammar (Hand h) ++ b) (hands_spelled hs)
    ∙ sym (flat_map-cons (λ (k : Handed). logs.opened log_grammar (Hand k)) h hs)

pub compact_front : (l : List Handed) → AreApart l → All IsList l → logs.IsFront log_grammar (compact l) l
compact_front l apart all = record {
  records = map Hand l;
  spelled = sym (hands_spelled l);
  leads = leads_on [] l apart (recursion_from_All IsList l all);
}

-- ---- a list that was read is handed over as it is

same_lock : (user : List ℕ) (unit : UnitKey) (e : Entry) → IsLock unit user e → as_handed user e ≡ e
same_lock user unit e lock =
    ap (λ (u : List ℕ). record { owner = e.owner; user = u; table = e.table; pattern = e.pattern; mode = e.mode; count = e.count; handed = true })
    (sym lock.used)
    ∙ ap (λ (b : Bool). record { owner = e.owner; user = e.user; table = e.table; pattern = e.pattern; mode = e.mode; count = e.count; handed = b })
    (sym lock.is_handed)

same_locks : (user : List ℕ) (unit : UnitKey) (es : List Entry) → AllByRecursion (IsLock unit user) es → map (as_handed user) es ≡ es
same_locks user unit [] locks = refl
same_locks user unit (e ∷ es) locks = λ i. same_lock user unit e locks.0 i ∷ same_locks user unit es locks.1 i

pub handed_again : (h : Handed) → IsList h → handed_of h.unit h.entries ≡ h
handed_again h is = ap (λ (es : List Entry). record { unit = h.unit; entries = es })
    (same_locks (user_of h.entries) h.unit h.entries is.is_record.held.locks)

may_be_handed : (user : List ℕ) (unit : UnitKey) (es : List Entry) → AllByRecursion (IsLock unit user) es → AllByRecursion (MayBeHanded unit) es
may_be_handed user unit [] locks = tt
may_be_handed user unit (e ∷ es) locks = (
  record { owned = locks.0.owned; lasting = locks.0.lasting; counted = locks.0.counted; countable = locks.0.countable },
  may_be_handed user unit es locks.1,
)

pub handable_again : (h : Handed) → IsList h → IsHandable h.unit h.entries
handable_again h is = record {
  some = is.is_record.held.some;
  each = may_be_handed (user_of h.entries) h.unit h.entries is.is_record.held.locks;
  distinct = is.distinct;
}

-- ---- each list has an entry

have_entries : (l : List Handed) → AllByRecursion IsList l → AllByRecursion (λ (h : Handed). 0 < length h.entries) l
have_entries [] all = tt
have_entries (h ∷ l) all = (all.0.is_record.held.some, have_entries l all.1)

pub lists_have : (l : List Handed) → All IsList l → HaveEntries l
lists_have l all = All-from_recursion (λ (h : Handed). 0 < length h.entries) l (have_entries l (recursion_from_All IsList l all))

-- ---- one list more

pub compact_more : (lists : List Handed) (i : ℕ) (h : Handed) → i < length lists → h ≡ get_or lists i h
    → compact (take i lists) ++ logs.opened log_grammar (Hand h) ≡ compact (take (i + 1) lists)
compact_more lists i h low is =
    ap (λ (b : List ℕ). compact (take i lists) ++ b)
    (sym (flat_map-cons (λ (k : Handed). logs.opened log_grammar (Hand k)) h [] ∙ append-nil (logs.opened log_grammar (Hand h))))
    ∙ sym (flat_map-append (λ (k : Handed). logs.opened log_grammar (Hand k)) (take i lists) (h ∷ []))
    ∙ ap (λ (k : List Handed). compact k) (ap (λ (k : Handed). take i lists ++ k ∷ []) is ∙ sym (take_more lists i h low))
