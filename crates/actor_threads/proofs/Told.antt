-- The numbers of an actor's notes, and those of what its desk did.
use Rattle.std.proofs.Common.{◌≡◌, ◌+◌, ◌<◌, ℕ, List, [], ◌∷◌, ◌++◌, drop, length, map, reverse, take, refl, sym, ap, ◌∙◌, append-nil, append_assoc}
use Rattle.std.proofs.lemmas.List.{map-append, reverse-append, reverse-reverse, take_more}
use Rattle.std.specs.Prelude.{Option, Some, None, slice_index_or}
use Rattle.enq_base.specs.declared.unit.Num.{Num}
use Rattle.hall_model.specs.declared.command.PastEntry.{PastEntry}
use Rattle.hall_model.specs.declared.command.Reply.{Reply}
use Rattle.hall_model.specs.declared.command.Reply.TheVariants as reply
use Rattle.script_actors.specs.Drawings.{Called, DeskCall, Drew, drawn_at, drawn_in, number_in}
use Rattle.script_actors.specs.declared.drawing.Drawing.{Drawing}
use Rattle.caller_laws.proofs.Drawn.{drawn_join}
use Rattle.turn_desks.specs.Stocks.{number_told}
use Rattle.turn_desks.specs.Weaving.{Noted, drawing_of, noted, numbers_told, woven}
use Rattle.turn_desks.specs.declared.noting.Note.{Note}
use Rattle.turn_lock.specs.declared.history.History.{Ghosts}
use Rattle.turn_lock.specs.Rule.{own_entries}
use Rattle.turn_lock.specs.declared.view.View.{View}
use Rattle.actor_threads.specs.Working.{drawn_told}

abbrev told_by : Noted → List Drawing
told_by n = map (drawn_at n.line) (number_in n.object n.nr n.reply)

called_none : (calls : List DeskCall) → drawn_in (map Called calls) ≡ []
called_none [] = refl
called_none (c ∷ calls) = called_none calls

pub told_append : (xs ys : List Noted) → drawn_told (xs ++ ys) ≡ drawn_told xs ++ drawn_told ys
told_append [] ys = refl
told_append (x ∷ xs) ys = ap (λ l. told_by x ++ l) (told_append xs ys) ∙ sym (append_assoc (told_by x) (drawn_told xs) (drawn_told ys))

-- what is woven has drawn what was noted
told_woven : (ms : List Noted) (calls : List DeskCall) → drawn_in (woven ms calls) ≡ drawn_told (reverse ms)
told_woven [] calls = called_none calls
told_woven (n ∷ earlier) calls =
    drawn_join (woven earlier (take n.before calls)) (Drew (drawing_of n calls) ∷ map Called (drop n.behind calls))
    ∙ (λ i. told_woven earlier (take n.before calls) i ++ (told_by n ++ called_none (drop n.behind calls) i))
    ∙ sym (ap drawn_told (reverse-append (n ∷ []) earlier) ∙ told_append (reverse earlier) (n ∷ []))

pub told_desk : (ns : List Noted) (calls : List DeskCall) → drawn_told ns ≡ drawn_in (woven (reverse ns) calls)
told_desk ns calls = sym (told_woven (reverse ns) calls ∙ ap drawn_told (reverse-reverse ns))

-- the numbers alone
nums_back : (line : ℕ) (nums : List Num) → map (λ (d : Drawing). d.num) (map (drawn_at line) nums) ≡ nums
nums_back line [] = refl
nums_back line (n ∷ nums) = ap (λ l. n ∷ l) (nums_back line nums)

pub nums_told : (ns : List Noted) → map (λ (d : Drawing). d.num) (drawn_told ns) ≡ numbers_told ns
nums_told [] = refl
nums_told (n ∷ ns) =
    map-append (λ (d : Drawing). d.num) (told_by n) (drawn_told ns)
    ∙ (λ i. nums_back n.line (number_in n.object n.nr n.reply) i ++ nums_told ns i)

-- what a reply tells is the number that was drawn
pub none_told : (object nr : List ℕ) (r : Reply) → number_told r ≡ None → number_in object nr r ≡ []
none_told object nr (reply.Number n code) h = absurd (let wrong : ◌≡◌ {A = Option ℕ} (Some n) None = h in cc)
none_told object nr _ h = refl

pub one_told : (object nr : List ℕ) (r : Reply) (k : ℕ) → number_told r ≡ Some k
    → number_in object nr r ≡ record { object = object; nr = nr; number = k } ∷ []
one_told object nr (reply.Number n code) k h =
    ap (λ m. record { object = object; nr = nr; number = m } ∷ []) (let same : n ≡ k = some_same n k h in same)
  where
    some_same : (x y : ℕ) → Some x ≡ Some y → x ≡ y
    some_same x y e = ap (λ (o : Option ℕ). elim o [ None ↦ x | Some z ↦ z ]) e
one_told object nr _ k h = absurd (let wrong : ◌≡◌ {A = Option ℕ} None (Some k) = h in cc)

-- before any call and any drawing nothing was done
pub none_seen : (v : View PastEntry) → v.own ≡ [] → own_entries v ≡ []
none_seen v none = ap (λ (own : List ℕ). own_entries (record v { own = own })) none

-- one note more
module _ {S : Type 0} {g : Ghosts S PastEntry} where
  pub told_more : (ns : List (Note S g)) (i : ℕ) (n : Note S g) → i < length ns → n ≡ slice_index_or ns i n → (k : List Num)
      → number_in n.object n.nr n.reply.value ≡ k
      → drawn_told (map noted (take (i + 1) ns)) ≡ drawn_told (map noted (take i ns)) ++ map (drawn_at n.line) k
  told_more ns i n less is k e =
      ap (λ l. drawn_told (map noted l)) (take_more ns i n less ∙ ap (λ x. take i ns ++ x ∷ []) (sym is))
      ∙ ap drawn_told (map-append noted (take i ns) (n ∷ []))
      ∙ told_append (map noted (take i ns)) (noted n ∷ [])
      ∙ ap (λ l. drawn_told (map noted (take i ns)) ++ l) (append-nil (told_by (noted n)) ∙ ap (map (drawn_at n.line)) e)
