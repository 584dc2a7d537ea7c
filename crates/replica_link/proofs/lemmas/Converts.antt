-- Turns and drops that follow a conversion.
use Rattle.std.proofs.Common.{◌≡◌, Bool, true, false, not, ◌&&◌, List, [], ◌∷◌, ◌++◌, map, Option, Some, None, refl, sym, ap, ◌∙◌, inl, inr, append_assoc}
use Rattle.std.specs.List.{filter, filter_map, flat_map, find, list_any, cons_option}
use Rattle.std.specs.Option.{option_map_or}
use Rattle.std.proofs.lemmas.Bool.{false≢true, cases_Bool}
use Rattle.std.proofs.lemmas.List.{append-nil}
use Rattle.mode_rules.specs.declared.Mode.{Mode}
use Rattle.mode_rules.specs.declared.Mode.TheVariants.{S, E, X, O}
use Rattle.mode_rules.specs.Modes.{same_mode}
use Rattle.lock_entry.specs.declared.entry.Asked.{Asked}
use Rattle.lock_entry.specs.declared.entry.Asker.{Asker}
use Rattle.lock_entry.specs.declared.entry.Entry.{Entry}
use Rattle.lock_entry.specs.declared.entry.LockName.{LockName}
use Rattle.lock_entry.specs.Names.{has_name, stands}
use Rattle.lock_entry.specs.Pairs.{in_pair}
use Rattle.lock_entry.specs.Barring.{places_meet}
use Rattle.lock_entry.specs.Turning.{name_in, with_count_of, turned_by, turned_entry, turned}
use Rattle.lock_entry.specs.Converting.{turns, gives_way, conversion}
use Rattle.lock_laws.proofs.TurnTests.{turned-push, turned-nothing}
use Rattle.replica_link.specs.Operations.{after_ops}
use Rattle.replica_link.specs.Shipping.{drop_of, turn_ops, converted_ops}
use Rattle.replica_link.proofs.lemmas.Drops.{after_ops-append, named_in, IsNameTest, AreNamed, own_names, drops_leave}

and_false : (b : Bool) → (b && false) ≡ false
and_false true = refl
and_false false = refl

-- the turns of further arguments
turns_more : (t : List Entry) (asker : Asker) (done rest : List Asked) → after_ops (turned t (turns asker done)) (flat_map (turn_ops asker) rest) ≡ turned t
    (turns asker (done ++ rest))
turns_more t asker done [] = ap (λ ks. turned t (turns asker ks)) (sym (append-nil done))
turns_more t asker done (a ∷ rest) =
    ap (λ (s : List Entry). after_ops s (flat_map (turn_ops asker) rest)) (turned-push t asker done a)
    ∙ turns_more t asker (done ++ a ∷ []) rest
    ∙ ap (λ ks. turned t (turns asker ks)) (append_assoc done (a ∷ []) rest)

turns_all : (t : List Entry) (asker : Asker) (asked : List Asked) → after_ops t (flat_map (turn_ops asker) asked) ≡ turned t (turns asker asked)
turns_all t asker asked =
    ap (λ (s : List Entry). after_ops s (flat_map (turn_ops asker) asked)) (sym (turned-nothing (turns asker []) (λ e. and_false (in_pair asker e.owner)) t))
    ∙ turns_more t asker [] asked

-- an entry keeps its owner where it turns
turned_by-owner : (m : Mode) (t : List Entry) (x y : Entry) → turned_by m t x ≡ Some y → x.owner ≡ y.owner
turned_by-owner S t x y h = let s : x ≡ y = cc in ap (λ z. z.owner) s
turned_by-owner X t x y h = let s : x ≡ y = cc in ap (λ z. z.owner) s
turned_by-owner E t x y h = joins (find (has_name (name_in O x)) t) h
  where
    joins : (o : Option Entry) → Some (option_map_or (with_count_of x) o x) ≡ Some y → x.owner ≡ y.owner
    joins None e = let s : x ≡ y = cc in ap (λ z. z.owner) s
    joins (Some o) e = let s : with_count_of x o ≡ y = cc in ap (λ z. z.owner) s
turned_by-owner O t x y h =
    elim (cases_Bool (stands t (name_in E x))) [
      | inl twin ↦ absurd (let k = rw twin at h in cc)
      | inr alone ↦ let k = rw alone at h in let s : record x { mode = E } ≡ y = cc in ap (λ z. z.owner) s
    ]

module _ (asker : Asker) (asked : List Asked) (t : List Entry) where
  abbrev way : Entry → Bool
  way e = gives_way asker asked e

  -- what gives way has not turned
  stays : (b : Bool) (x y : Entry) → turns asker asked x ≡ b → turned_entry (turns asker asked) t x ≡ Some y → way y ≡ true → x ≡ y
  stays false x y turning h gives = let k = rw turning at h in cc
  stays true x y turning h gives =
      let k : turned_by x.mode t x ≡ Some y = rw turning at h in
      let inside : in_pair asker x.owner ≡ true = first (in_pair asker x.owner) _ turning in
      let also : in_pair asker y.owner ≡ true = ap (in_pair asker) (sym (turned_by-owner x.mode t x y k)) ∙ inside in
      absurd (false≢true
      (sym (ap (λ b. not b && (same_mode y.mode O && list_any (places_meet (record { table = y.table; pattern = y.pattern; mode = y.mode })) asked)) also)
      ∙ gives))
    where
      first : (a b : Bool) → (a && b) ≡ true → a ≡ true
      first true b h = refl
      first false b h = h

  turned_names : (from xs : List Entry) → AreNamed way from xs → AreNamed way from (filter_map (turned_entry (turns asker asked) t) xs)
  turned_names from [] all = tt
  turned_names from (x ∷ xs) all = step (turned_entry (turns asker asked) t x) refl (turned_names from xs all.1)
    where
      step : (o : Option Entry) → turned_entry (turns asker asked) t x ≡ o → AreNamed way from (filter_map (turned_entry (turns asker asked) t) xs)
          → AreNamed way from (cons_option o (filter_map (turned_entry (turns asker asked) t) xs))
      step None h rest = rest
      step (Some y) h rest =
          (λ gives. let same = stays (turns asker asked x) x y refl h gives in ap (named_in (filter way from)) (sym same) ∙ all.0 (ap way same ∙ gives), rest)

  way-IsNameTest : IsNameTest way
  way-IsNameTest = record {
    same =
        λ a b e. ap (λ (n : LockName). not (in_pair asker n.owner) && (same_mode n.asked.mode O && list_any (places_meet n.asked) asked)) e;
  }

  pub converted_ops-conversion : after_ops t (converted_ops asker asked (conversion t asker asked).removed) ≡ (conversion t asker asked).entries
  converted_ops-conversion =
      after_ops-append t (flat_map (turn_ops asker) asked) (map drop_of (filter way t))
      ∙ ap (λ (s : List Entry). after_ops s (map drop_of (filter way t))) (turns_all t asker asked)
      ∙ drops_leave way way-IsNameTest t (turned t (turns asker asked)) (turned_names t t (own_names way t))
