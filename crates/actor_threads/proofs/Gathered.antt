-- The entries of all actors, one more moved over, and what each of them had seen.
use Rattle.std.proofs.Common.{◌≡◌, List, [], ◌∷◌, ◌++◌, map, sym, ap, ◌∙◌, subst, append_assoc, append-nil}
use Rattle.std.specs.List.{AllByRecursion}
use Rattle.std.specs.Global.{Vec}
use Rattle.std.proofs.lemmas.List.{map-append}
use Rattle.std.specs.List.Sorted.{IsPermutation}
use Rattle.std.proofs.lemmas.List.Sorted.{IsPermutation-append_comm, IsPermutation-append_right, IsPermutation-trans}
use mathlib.Core.List.{IsPrefix}
use Rattle.hall_model.specs.declared.command.PastEntry.{PastEntry}
use Rattle.actor_threads.specs.declared.actor.Actor.{Actor}
use Rattle.number_stock.specs.declared.seat.StockSeat.{StockSeat}
use Rattle.actor_threads.specs.declared.actor.Deed.{Deed}
use Rattle.actor_threads.specs.Working.{AllSeats, AreSeatsOf, entries_in}
use Rattle.turn_desks.specs.Parts.{IsPart}
use Rattle.turn_desks.specs.Stocks.{StockFact}
use Rattle.turn_desks.specs.declared.names.LockName.{Ghosts as Names}
use Rattle.turn_desks.specs.declared.serving.Serving.{Ghosts as Stocks}
use Rattle.turn_lock.specs.declared.history.History.{Ghosts}
use Rattle.turn_lock.specs.Passes.{known}
use Rattle.turn_lock.specs.Rule.{own_entries}

pub prefix_on : {E : Type 0} (xs ys zs : List E) → IsPrefix xs ys → IsPrefix ys zs → IsPrefix xs zs
prefix_on xs ys zs p q = (p.0 ++ q.0, sym (append_assoc xs p.0 q.0) ∙ (ap (λ l. l ++ q.0) p.1 ∙ q.1))

pub all_later : {X : Type 0} (P Q : X → Type 0) → ((x : X) → P x → Q x) → (xs : List X) → AllByRecursion P xs → AllByRecursion Q xs
all_later P Q h [] all = tt
all_later P Q h (x ∷ xs) all = (h x all.0, all_later P Q h xs all.1)

pub seats_more : (stocks : List StockFact) (ds : List Deed) (xs : List (List StockSeat)) (d : Deed) (x : List StockSeat) → AllSeats stocks ds xs
    → AreSeatsOf stocks d x → AllSeats stocks (ds ++ d ∷ []) (xs ++ x ∷ [])
seats_more stocks [] [] d x h one = (one, tt)
seats_more stocks [] (y ∷ xs) d x h one = absurd h
seats_more stocks (e ∷ ds) [] d x h one = absurd h
seats_more stocks (e ∷ ds) (y ∷ xs) d x h one = (h.0, seats_more stocks ds xs d x h.1 one)

pub no_seats : (stocks : List StockFact) (ds : List Deed) (vs : List (Vec StockSeat)) → ds ≡ [] → vs ≡ [] → AllSeats stocks ds (map (λ v. v.items) vs)
no_seats stocks ds vs none empty =
    subst (λ (l : List Deed). AllSeats stocks l (map (λ v. v.items) vs)) (sym none)
    (subst (λ (l : List (Vec StockSeat)). AllSeats stocks [] (map (λ v. v.items) l)) (sym empty) tt)

pub seats_pushed : (stocks : List StockFact) (ds_now : List Deed) (vs_now : List (Vec StockSeat)) (ds : List Deed) (vs : List (Vec StockSeat)) (d : Deed)
    (v : Vec StockSeat) → ds_now ≡ ds ++ d ∷ [] → vs_now ≡ vs ++ v ∷ [] → AllSeats stocks ds (map (λ x. x.items) vs) → AreSeatsOf stocks d v.items
    → AllSeats stocks ds_now (map (λ x. x.items) vs_now)
seats_pushed stocks ds_now vs_now ds vs d v more push h one =
    subst (λ (l : List Deed). AllSeats stocks l (map (λ x. x.items) vs_now)) (sym more)
    (subst (AllSeats stocks (ds ++ d ∷ [])) (sym (ap (map (λ x. x.items)) push ∙ map-append (λ x. x.items) vs (v ∷ [])))
    (seats_more stocks ds (map (λ x. x.items) vs) d v.items h one))

pub moved_last : {X : Type 0} (all rest was done : List X) (a : X) → all ≡ was ++ done → was ≡ rest ++ a ∷ [] → all ≡ rest ++ a ∷ done
moved_last all rest was done a h e = h ∙ (ap (λ l. l ++ done) e ∙ append_assoc rest (a ∷ []) done)

module _ {N S R G : Type 0} {n : Names N} {s : Stocks S} {g : Ghosts S PastEntry} where
  abbrev pub own_of : Actor N S R G n s g → List PastEntry
  own_of a = own_entries (known a.desk.caller.pass)

  entries_last : (xs : List (Actor N S R G n s g)) (a : Actor N S R G n s g) → entries_in (xs ++ a ∷ []) ≡ entries_in xs ++ own_of a
  entries_last [] a = append-nil (own_of a)
  entries_last (x ∷ xs) a = ap (λ l. own_of x ++ l) (entries_last xs a) ∙ sym (append_assoc (own_of x) (entries_in xs) (own_of a))

  pub moved_over : (all own new : List PastEntry) (rest was : List (Actor N S R G n s g)) (a : Actor N S R G n s g)
      → was ≡ rest ++ a ∷ [] → new ≡ own ++ own_of a → IsPermutation all (own ++ entries_in was) → IsPermutation all (new ++ entries_in rest)
  moved_over all own new rest was a e k h =
      let split : own ++ entries_in was ≡ own ++ (entries_in rest ++ own_of a) = ap (λ l. own ++ l) (ap entries_in e ∙ entries_last rest a) in
      let turned : IsPermutation (own ++ (entries_in rest ++ own_of a)) (own ++ (own_of a ++ entries_in rest)) =
      IsPermutation-append_right own (entries_in rest ++ own_of a) (own_of a ++ entries_in rest) (IsPermutation-append_comm (entries_in rest) (own_of a)) in
      let joined : own ++ (own_of a ++ entries_in rest) ≡ new ++ entries_in rest =
      sym (append_assoc own (own_of a) (entries_in rest)) ∙ ap (λ l. l ++ entries_in rest) (sym k) in
      subst (IsPermutation all) joined
      (IsPermutation-trans all (own ++ (entries_in rest ++ own_of a)) (own ++ (own_of a ++ entries_in rest)) (subst (IsPermutation all) split h) turned)

  -- what each of these had seen begins this history
  abbrev pub AllSeen : List PastEntry → List (Actor N S R G n s g) → Type 0
  AllSeen log actors = AllByRecursion (λ (a : Actor N S R G n s g). IsPrefix (known a.desk.caller.pass).seen log) actors

  pub seen_later : (log more : List PastEntry) (actors : List (Actor N S R G n s g)) → IsPrefix log more → AllSeen log actors → AllSeen more actors
  seen_later log more actors p all =
      all_later (λ (a : Actor N S R G n s g). IsPrefix (known a.desk.caller.pass).seen log) (λ (a : Actor N S R G n s g). IsPrefix (known a.desk.caller.pass).seen more)
      (λ a h. prefix_on (known a.desk.caller.pass).seen log more h p) actors all

  -- what each of them did stands in order in what it had seen
  pub all_stand : (actors : List (Actor N S R G n s g))
      → AllByRecursion (λ (a : Actor N S R G n s g). ∥ IsPart (own_entries (known a.desk.caller.pass)) (known a.desk.caller.pass).seen ∥₁) actors
  all_stand [] = tt
  all_stand (a ∷ rest) = (a.desk.caller.part, all_stand rest)
