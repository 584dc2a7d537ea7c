-- Counts of what lines ask for, one line more, and sums and seats place by place.
use Rattle.std.proofs.Common.{◌≡◌, ℕ, zero, suc, ◌+◌, ◌<◌, Bool, true, false, cond, List, [], ◌∷◌, ◌++◌, take, length, map, refl, sym, ap, ◌∙◌, arith, slice_set, if◌then◌else◌}
use Rattle.std.proofs.lemmas.List.{map-append, take_more}
use Rattle.std.specs.Prelude.{◌||◌, count_by, slice_index_or}
use Rattle.std.specs.List.{filter}
use Rattle.draw_laws.proofs.Counting.{count_append}
use Rattle.hall_model.specs.declared.command.Who.{Who}
use Rattle.number_ranges.specs.Intervals.{is_named}
use Rattle.number_ranges.specs.declared.interval.Interval.{Interval}
use Rattle.script_actors.specs.Actors.{is_number_of, lines_of_actor, numbers_asked}
use Rattle.script_actors.specs.Doers.{is_done_by}
use Rattle.script_actors.specs.declared.line.NumberedLine.{NumberedLine}
use Rattle.script_lang.specs.declared.script_line.ScriptLine.{ScriptLine}
use Rattle.script_lang.specs.declared.script_line.ScriptLine.TheVariants as line
use Rattle.turn_desks.specs.Stocks.{StockFact, fact_of, is_of_stock}
use Rattle.turn_desks.specs.declared.stocks.IntervalStock.{IntervalStock}
use Rattle.thread_runner.specs.Stocking.{asked_of, bumped, bumped_for}

-- ---- one more, place by place

-- the first so many places of a list of counts, one more of each stock of this name
abbrev pub bumped_to : ℕ → List StockFact → List ℕ → List ℕ → List ℕ → List ℕ
bumped_to zero facts object nr counts = counts
bumped_to (suc k) [] object nr counts = counts
bumped_to (suc k) (f ∷ fs) object nr [] = []
bumped_to (suc k) (f ∷ fs) object nr (n ∷ ns) = (if is_named object nr f.interval then n + 1 else n) ∷ bumped_to k fs object nr ns

pub bumped_end : (facts : List StockFact) (object nr counts : List ℕ) → length counts ≡ length facts
    → bumped_to (length facts) facts object nr counts ≡ bumped facts object nr counts
bumped_end [] object nr [] long = refl
bumped_end [] object nr (n ∷ ns) long = absurd (omega (arith, long))
bumped_end (f ∷ fs) object nr [] long = refl
bumped_end (f ∷ fs) object nr (n ∷ ns) long =
    ap (λ l. (if is_named object nr f.interval then n + 1 else n) ∷ l) (bumped_end fs object nr ns (omega (arith, long)))

pub bumped_long : (k : ℕ) (facts : List StockFact) (object nr counts : List ℕ) → length (bumped_to k facts object nr counts) ≡ length counts
bumped_long zero facts object nr counts = refl
bumped_long (suc k) [] object nr counts = refl
bumped_long (suc k) (f ∷ fs) object nr [] = refl
bumped_long (suc k) (f ∷ fs) object nr (n ∷ ns) = ap suc (bumped_long k fs object nr ns)

pub bumped_yes : (k : ℕ) (facts : List StockFact) (object nr counts : List ℕ) (d : StockFact) (e m : ℕ) → k < length facts → k < length counts
    → is_named object nr (slice_index_or facts k d).interval ≡ true → m ≡ slice_index_or (bumped_to k facts object nr counts) k e + 1
    → slice_set (bumped_to k facts object nr counts) k m ≡ bumped_to (suc k) facts object nr counts
bumped_yes zero [] object nr counts d e m low less named is = absurd (omega (arith, low))
bumped_yes zero (f ∷ fs) object nr [] d e m low less named is = absurd (omega (arith, less))
bumped_yes zero (f ∷ fs) object nr (n ∷ ns) d e m low less named is =
    (λ i. is i ∷ ns) ∙ (λ i. (if sym named i then n + 1 else n) ∷ ns)
bumped_yes (suc k) [] object nr counts d e m low less named is = absurd (omega (arith, low))
bumped_yes (suc k) (f ∷ fs) object nr [] d e m low less named is = absurd (omega (arith, less))
bumped_yes (suc k) (f ∷ fs) object nr (n ∷ ns) d e m low less named is =
    ap (λ l. (if is_named object nr f.interval then n + 1 else n) ∷ l)
    (bumped_yes k fs object nr ns d e m (omega (arith, low)) (omega (arith, less)) named is)

pub bumped_no : (k : ℕ) (facts : List StockFact) (object nr counts : List ℕ) (d : StockFact) → k < length facts
    → is_named object nr (slice_index_or facts k d).interval ≡ false → bumped_to k facts object nr counts ≡ bumped_to (suc k) facts object nr counts
bumped_no zero [] object nr counts d low named = absurd (omega (arith, low))
bumped_no zero (f ∷ fs) object nr [] d low named = refl
bumped_no zero (f ∷ fs) object nr (n ∷ ns) d low named = λ i. (if sym named i then n + 1 else n) ∷ ns
bumped_no (suc k) [] object nr counts d low named = absurd (omega (arith, low))
bumped_no (suc k) (f ∷ fs) object nr [] d low named = refl
bumped_no (suc k) (f ∷ fs) object nr (n ∷ ns) d low named =
    ap (λ l. (if is_named object nr f.interval then n + 1 else n) ∷ l) (bumped_no k fs object nr ns d (omega (arith, low)) named)

-- ---- one line more

filter_append : {X : Type 0} (p : X → Bool) (xs ys : List X) → filter p (xs ++ ys) ≡ filter p xs ++ filter p ys
filter_append p [] ys = refl
filter_append p (x ∷ xs) ys = by (p x) (filter_append p xs ys)
  where
    by : (b : Bool) → filter p (xs ++ ys) ≡ filter p xs ++ filter p ys
        → cond b (x ∷ filter p (xs ++ ys)) (filter p (xs ++ ys)) ≡ cond b (x ∷ filter p xs) (filter p xs) ++ filter p ys
    by true rest = ap (λ l. x ∷ l) rest
    by false rest = rest

asked_last : (i : Interval) (w : Who) (lines : List NumberedLine) (l : NumberedLine)
    → numbers_asked i w (lines ++ l ∷ []) ≡ numbers_asked i w lines + numbers_asked i w (l ∷ [])
asked_last i w lines l =
    ap (count_by (λ (x : NumberedLine). is_number_of i x.line)) (filter_append (λ (x : NumberedLine). is_done_by w x.line) lines (l ∷ []))
    ∙ count_append (λ (x : NumberedLine). is_number_of i x.line) (lines_of_actor w lines) (lines_of_actor w (l ∷ []))

one_asked : (i : Interval) (w : Who) (l : NumberedLine) → is_done_by w l.line ≡ true
    → numbers_asked i w (l ∷ []) ≡ (if is_number_of i l.line then 1 else 0)
one_asked i w l own =
    ap (λ b. count_by (λ (x : NumberedLine). is_number_of i x.line) (cond b (l ∷ []) [])) own ∙ by (is_number_of i l.line) refl
  where
    by : (b : Bool) → is_number_of i l.line ≡ b → count_by (λ (x : NumberedLine). is_number_of i x.line) (l ∷ []) ≡ (if is_number_of i l.line then 1 else 0)
    by true on = rw on refl
    by false off = rw off refl

none_more : (i : Interval) (w : Who) (l : NumberedLine) → is_done_by w l.line ≡ false → numbers_asked i w (l ∷ []) ≡ 0
none_more i w l off = ap (λ b. count_by (λ (x : NumberedLine). is_number_of i x.line) (cond b (l ∷ []) [])) off

pub asked_other : (facts : List StockFact) (w : Who) (lines : List NumberedLine) (l : NumberedLine) → is_done_by w l.line ≡ false
    → asked_of facts w (lines ++ l ∷ []) ≡ asked_of facts w lines
asked_other [] w lines l off = refl
asked_other (f ∷ fs) w lines l off =
    let one : numbers_asked f.interval w (lines ++ l ∷ []) ≡ numbers_asked f.interval w lines =
    (let last = asked_last f.interval w lines l in let none = none_more f.interval w l off in omega (arith, last, none)) in
    λ k. one k ∷ asked_other fs w lines l off k

pub asked_own : (facts : List StockFact) (w : Who) (lines : List NumberedLine) (l : NumberedLine) → is_done_by w l.line ≡ true
    → asked_of facts w (lines ++ l ∷ []) ≡ bumped_for facts l.line (asked_of facts w lines)
asked_own facts w lines l own = by l.line refl
  where
    more : (i : Interval) (n : ℕ) → (if is_number_of i l.line then 1 else 0) ≡ n → numbers_asked i w (lines ++ l ∷ []) ≡ numbers_asked i w lines + n
    more i n e = let last = asked_last i w lines l in let one = one_asked i w l own in omega (arith, last, one, e)

    add : (b : Bool) (n : ℕ) → n + (if b then 1 else 0) ≡ (if b then n + 1 else n)
    add true n = refl
    add false n = omega arith

    num : (s object nr variable : List ℕ) → l.line ≡ line.Num s object nr variable → (fs : List StockFact)
        → asked_of fs w (lines ++ l ∷ []) ≡ bumped fs object nr (asked_of fs w lines)
    num s object nr variable e [] = refl
    num s object nr variable e (f ∷ fs) =
        let n = numbers_asked f.interval w lines in
        let one : numbers_asked f.interval w (lines ++ l ∷ []) ≡ (if is_named object nr f.interval then n + 1 else n) =
        more f.interval (if is_named object nr f.interval then 1 else 0) (ap (λ x. if is_number_of f.interval x then 1 else 0) e)
        ∙ add (is_named object nr f.interval) n in
        λ k. one k ∷ num s object nr variable e fs k

    plain : (fs : List StockFact) → ((i : Interval) → is_number_of i l.line ≡ false) → asked_of fs w (lines ++ l ∷ []) ≡ asked_of fs w lines
    plain [] off = refl
    plain (f ∷ fs) off =
        let one : numbers_asked f.interval w (lines ++ l ∷ []) ≡ numbers_asked f.interval w lines =
        (let m = more f.interval 0 (ap (λ b. if b then 1 else 0) (off f.interval)) in omega (arith, m)) in
        λ k. one k ∷ plain fs off k

    by : (x : ScriptLine) → l.line ≡ x → asked_of facts w (lines ++ l ∷ []) ≡ bumped_for facts l.line (asked_of facts w lines)
    by (line.Num s object nr variable) e =
        num s object nr variable e facts ∙ ap (λ x. bumped_for facts x (asked_of facts w lines)) (sym e)
    by x e = plain facts (λ i. ap (is_number_of i) e) ∙ ap (λ y. bumped_for facts y (asked_of facts w lines)) (sym e)

-- no line yet
pub asked_none : (facts : List StockFact) (w : Who) → asked_of facts w [] ≡ map (λ f. 0) facts
asked_none [] w = refl
asked_none (f ∷ fs) w = ap (λ l. 0 ∷ l) (asked_none fs w)

pub asked_long : (facts : List StockFact) (w : Who) (lines : List NumberedLine) → length (asked_of facts w lines) ≡ length facts
asked_long [] w lines = refl
asked_long (f ∷ fs) w lines = ap suc (asked_long fs w lines)

pub zeros_more : (facts : List StockFact) (k : ℕ) (d : StockFact) → k < length facts
    → map {B = ℕ} (λ f. 0) (take (k + 1) facts) ≡ map (λ f. 0) (take k facts) ++ 0 ∷ []
zeros_more facts k d less =
    ap (map {B = ℕ} (λ f. 0)) (take_more facts k d less) ∙ map-append {B = ℕ} (λ f. 0) (take k facts) (slice_index_or facts k d ∷ [])

-- ---- facts of stocks

pub facts_long : (stocks : List IntervalStock) → length (map fact_of stocks) ≡ length stocks
facts_long [] = refl
facts_long (s ∷ stocks) = ap suc (facts_long stocks)

pub facts_at : (stocks : List IntervalStock) (k : ℕ) (s : IntervalStock) → k < length stocks → s ≡ slice_index_or stocks k s
    → slice_index_or (map fact_of stocks) k (fact_of s) ≡ fact_of s
facts_at [] k s less is = absurd (omega (arith, less))
facts_at (x ∷ stocks) zero s less is = ap fact_of (sym is)
facts_at (x ∷ stocks) (suc k) s less is = facts_at stocks k s (omega (arith, less)) is

-- ---- a stock of a name, place by place

pub stock_there : (stocks : List IntervalStock) (object nr : List ℕ) (k : ℕ) (s : IntervalStock) → k < length stocks → s ≡ slice_index_or stocks k s
    → is_named object nr s.interval ≡ true → is_of_stock (map fact_of stocks) object nr ≡ true
stock_there [] object nr k s less is named = absurd (omega (arith, less))
stock_there (x ∷ stocks) object nr zero s less is named =
    λ i. (ap (λ (y : IntervalStock). is_named object nr y.interval) (sym is) ∙ named) i || is_of_stock (map fact_of stocks) object nr
stock_there (x ∷ stocks) object nr (suc k) s less is named =
    by (is_named object nr x.interval) (stock_there stocks object nr k s (omega (arith, less)) is named)
  where
    by : (b : Bool) → is_of_stock (map fact_of stocks) object nr ≡ true → (b || is_of_stock (map fact_of stocks) object nr) ≡ true
    by true h = refl
    by false h = h
