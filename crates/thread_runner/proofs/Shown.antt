-- What actors saw at the gauges was shown there on the way to the end.
use Rattle.std.proofs.Common.{◌≡◌, inl, inr, List, [], ◌∷◌, ◌++◌, map, reverse, refl, sym, ap, ◌∙◌, subst}
use Rattle.std.specs.List.{AllByRecursion}
use Rattle.std.proofs.lemmas.List.{map-append, reverse-append, reverse-reverse}
use Rattle.enq_base.specs.declared.condition.Readings.{Readings}
use Rattle.gauges.specs.Boards.{seen}
use Rattle.gauges.specs.declared.board.GaugePass.{GaugePass}
use Rattle.hall_model.specs.State.{State}
use Rattle.order_workers.specs.Orders.{Leads, Made, Stays, Then}
use Rattle.actor_threads.specs.Last.{LeadsServed, Stood}
use Rattle.actor_threads.specs.declared.actor.Deed.{Deed}
use Rattle.turn_desks.specs.Watching.{HasShown}
use Rattle.turn_desks.proofs.lemmas.Watched.{shown_on}
use Rattle.thread_runner.specs.Acting.{HaveSeen}
use Rattle.thread_runner.specs.Hiring.{glance_of, looks_of}
use Rattle.thread_runner.specs.Looking.{LooksLast, OneLooks, stood}
use Rattle.thread_runner.proofs.Done.{all_append, all_back, all_front, all_later}

-- ---- lists

map_reverse : {X Y : Type 0} (f : X → Y) (xs : List X) → map f (reverse xs) ≡ reverse (map f xs)
map_reverse f [] = refl
map_reverse f (x ∷ xs) =
    ap (map f) (reverse-append (x ∷ []) xs) ∙ map-append f (reverse xs) (x ∷ []) ∙ ap (λ l. l ++ f x ∷ []) (map_reverse f xs)
    ∙ sym (reverse-append (f x ∷ []) (map f xs))

-- turned twice
pub turned_back : {X Y : Type 0} (f : X → Y) (xs : List X) → reverse (map f (reverse xs)) ≡ map f xs
turned_back f xs = ap reverse (map_reverse f xs) ∙ reverse-reverse (map f xs)

all_reverse : {X : Type 0} (P : X → Type 0) (xs : List X) → AllByRecursion P xs → AllByRecursion P (reverse xs)
all_reverse P [] h = tt
all_reverse P (x ∷ xs) h =
    subst (AllByRecursion P) (sym (reverse-append (x ∷ []) xs)) (all_append P (reverse xs) (x ∷ []) (all_reverse P xs h.1) (h.0, tt))

all_mapped : {X Y : Type 0} (f : X → Y) (P : Y → Type 0) (xs : List X) → AllByRecursion P (map f xs) → AllByRecursion (λ (x : X). P (f x)) xs
all_mapped f P [] h = tt
all_mapped f P (x ∷ xs) h = (h.0, all_mapped f P xs h.1)

-- ---- what was seen

-- by each of these passes
abbrev pub PassesSaw : State → State → List GaugePass → Type 0
PassesSaw first s passes = AllByRecursion (λ (p : GaugePass). HasShown first s (seen p)) passes

pub seen_by : (first s : State) (deeds : List Deed) (passes : List GaugePass) → reverse (map glance_of deeds) ≡ passes → PassesSaw first s passes
    → HaveSeen first s deeds
seen_by first s deeds passes at h =
    let turned : PassesSaw first s (reverse (reverse (map glance_of deeds))) =
    all_reverse (λ (p : GaugePass). HasShown first s (seen p)) (reverse (map glance_of deeds)) (subst (PassesSaw first s) (sym at) h) in
    all_mapped glance_of (λ (p : GaugePass). HasShown first s (seen p)) deeds (subst (PassesSaw first s) (reverse-reverse (map glance_of deeds)) turned)

-- a worker that went on alone
shown_led : (first : State) (shown : List Readings) (k l : Stood) (calls : List Made) → Leads LeadsServed k calls l → HasShown first k.state shown
    → HasShown first l.state shown
shown_led first shown k l calls (Stays x) h = h
shown_led first shown k l calls (Then x m y cs c done more) h =
    shown_on first m.state l.state 0 c.command c.reply shown more.step (shown_led first shown k m cs done h)

abbrev Saw : State → State → Deed → Type 0
Saw first s d = HasShown first s (looks_of d)

seen_behind : (first s t : State) (deeds now : List Deed) → OneLooks s t deeds now → HaveSeen first s deeds → HaveSeen first t now
seen_behind first s t deeds now o h =
    let later : (d : Deed) → Saw first s d → Saw first t d = λ d k.
    shown_led first (looks_of d) (stood s o.deed) (stood t o.deed_now) o.looks.work.0 o.looks.work.1 k in
    let all : AllByRecursion (Saw first s) (o.front ++ o.deed ∷ o.back) = subst (AllByRecursion (Saw first s)) o.was h in
    let behind : AllByRecursion (Saw first s) (o.deed ∷ o.back) = all_back (Saw first s) o.front (o.deed ∷ o.back) all in
    let same : looks_of o.deed ≡ looks_of o.deed_now = sym (λ i. seen (o.looks.glanced i).value) in
    subst (AllByRecursion (Saw first t)) (sym o.is)
    (all_append (Saw first t) o.front (o.deed_now ∷ o.back)
    (all_later (Saw first s) (Saw first t) later o.front (all_front (Saw first s) o.front (o.deed ∷ o.back) all)) (
      subst (HasShown first t) same (later o.deed behind.0),
      all_later (Saw first s) (Saw first t) later o.back behind.1,
    ))

-- behind the last look
pub seen_then : (first s t : State) (deeds now : List Deed) → LooksLast s t deeds now → HaveSeen first s deeds → HaveSeen first t now
seen_then first s t deeds now (inl o) h = seen_behind first s t deeds now o h
seen_then first s t deeds now (inr n) h =
    subst (HaveSeen first t) (sym n.2) (subst (λ (x : State). HaveSeen first x deeds) (sym n.1) h)
