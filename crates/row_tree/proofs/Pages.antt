-- The rows of a table behind a key, as a page reads them.
use Rattle.std.proofs.Common.{◌≡◌, true, false, cond, not, ◌&&◌, IsTrue, ℕ, List, [], ◌∷◌, ◌++◌, map, take, Result, Ok, Err, IfOk, Option, Some, None, refl, sym, ap, ◌∙◌, subst}
use Rattle.std.proofs.Common.{append-nil}
use Rattle.std.proofs.lemmas.Bool.{eqb-true}
use Rattle.std.specs.List.{filter}
use Rattle.std.specs.BTreeMap.Range.{range_contains, is_past_end}
use Rattle.std.specs.Ordering.{nat_cmp, is_lt, ordering_then}
use Rattle.std.specs.Cmp.Lexicographic.{slice_cmp}
use Rattle.std.specs.Cmp.{nat_cmp_total, tied_itself}
use Rattle.std.specs.declared.ops.Bound.{Bound}
use Rattle.std.specs.declared.ops.Bound.TheVariants.{Excluded}
use Rattle.keeper_api.specs.Rows.{Rows, Spot, is_behind, is_below, row_of, page_of, IsPage}
use Rattle.keeper_api.specs.declared.rows.Row.{Row}
use Rattle.sorted_rows.proofs.lemmas.Places.{first_true, second_true}
use Rattle.sorted_rows.proofs.lemmas.Rise.{is_page}
use Rattle.sorted_rows.proofs.lemmas.Views.{view_page}
use Rattle.row_tree.specs.Keys.{spot, key_at, key_cmp}
use Rattle.row_tree.specs.Places.{Entry, Place, with_value, held, behind, rows_of, AreInOrder}
use Rattle.row_tree.proofs.Held.{sorted_held}
use Rattle.row_tree.specs.declared.row_key.RowKey.{RowKey}

-- one place before others
pub behind_first : (table : ℕ) (after : List ℕ) (s : Spot) (v : Option (List ℕ)) (es : List Entry)
    → behind table after (with_value s v es) ≡ behind table after (with_value s v []) ++ behind table after es
behind_first table after s None es = refl
behind_first table after s (Some v) es =
    elim (is_behind table after (s, v))
    as (λ b. map row_of (cond b ((s, v) ∷ filter (is_behind table after) es) (filter (is_behind table after) es)) ≡ map row_of
    (cond b ((s, v) ∷ []) []) ++ behind table after es) [ true ↦ refl | false ↦ refl ]

module _ (table : ℕ) (after : List ℕ) (hi : Bound RowKey) (inside : (key : List ℕ) → is_past_end key_cmp hi (key_at (table, key)) ≡ false) where
  between : (k : RowKey) → k.table ≡ table → IsTrue (is_below after k.key) → IsTrue (range_contains key_cmp (Excluded (key_at (table, after))) hi k)
  between k same low =
      subst (λ t. IsTrue (is_lt (ordering_then (nat_cmp table t) (slice_cmp nat_cmp after k.key)) && not (is_past_end key_cmp hi (key_at (t, k.key)))))
      (sym same)
      (ap (λ r. is_lt (ordering_then r (slice_cmp nat_cmp after k.key)) && not (is_past_end key_cmp hi (key_at (table, k.key))))
      (tied_itself nat_cmp_total table)
      ∙ ap (λ b. b && not (is_past_end key_cmp hi (key_at (table, k.key)))) low
      ∙ ap not (inside k.key))

  not_behind : (k : RowKey) (v : List ℕ) → range_contains key_cmp (Excluded (key_at (table, after))) hi k ≡ false → is_behind table after (spot k, v) ≡ false
  not_behind k v out =
      elim (is_behind table after (spot k, v)) as (λ b. is_behind table after (spot k, v) ≡ b → b ≡ false) [
        | true ↦ λ e. sym (between k (eqb-true _ _ (first_true _ _ e)) (second_true _ _ e)) ∙ out
        | false ↦ λ e. refl
      ] refl

  none_of : (k : RowKey) (v : Option (List ℕ)) → range_contains key_cmp (Excluded (key_at (table, after))) hi k ≡ false
      → behind table after (with_value (spot k) v []) ≡ []
  none_of k None out = refl
  none_of k (Some v) out = ap (λ b. map row_of (cond b ((spot k, v) ∷ []) [])) (not_behind k v out)

  -- the places of the range have all of them
  pub behind_between : (ps : List Place) → behind table after (held (filter (λ p. range_contains key_cmp (Excluded (key_at (table, after))) hi p.0) ps))
      ≡ behind table after (held ps)
  behind_between [] = refl
  behind_between (p ∷ ps) =
      let inner = filter (λ (q : Place). range_contains key_cmp (Excluded (key_at (table, after))) hi q.0) ps in
      elim (range_contains key_cmp (Excluded (key_at (table, after))) hi p.0)
      as (λ b. range_contains key_cmp (Excluded (key_at (table, after))) hi p.0 ≡ b
      → behind table after (held (cond b (p ∷ inner) inner)) ≡ behind table after (held (p ∷ ps))) [
        | true ↦ λ e.
            behind_first table after (spot p.0) p.1 (held inner)
            ∙ ap (λ rows. behind table after (with_value (spot p.0) p.1 []) ++ rows) (behind_between ps)
            ∙ sym (behind_first table after (spot p.0) p.1 (held ps))
        | false ↦ λ e.
            behind_between ps
            ∙ ap (λ (rows : List Row). rows ++ behind table after (held ps)) (sym (none_of p.0 p.1 e))
            ∙ sym (behind_first table after (spot p.0) p.1 (held ps))
      ] refl

pub added : (items pushed : List Row) (table : ℕ) (after : List ℕ) (s : Spot) (place : Option (List ℕ)) (v key value : List ℕ) → place ≡ Some v
    → is_behind table after (s, v) ≡ true → key ≡ s.1 → value ≡ v
    → pushed ≡ items ++ record { key = key; value = value } ∷ [] → pushed ≡ items ++ behind table after (with_value s place [])
added items pushed table after s place v key value is passes same_key same_value push =
    push
    ∙ (λ i. items ++ record { key = same_key i; value = same_value i } ∷ [])
    ∙ ap (λ b. items ++ map row_of (cond b ((s, v) ∷ []) [])) (sym passes)
    ∙ ap (λ p. items ++ behind table after (with_value s p [])) (sym is)

pub skipped : (items : List Row) (table : ℕ) (after : List ℕ) (s : Spot) (place : Option (List ℕ)) (v : List ℕ) → place ≡ Some v
    → is_behind table after (s, v) ≡ false → items ≡ items ++ behind table after (with_value s place [])
skipped items table after s place v is fails =
    sym (append-nil items)
    ∙ ap (λ b. items ++ map row_of (cond b ((s, v) ∷ []) [])) (sym fails)
    ∙ ap (λ p. items ++ behind table after (with_value s p [])) (sym is)

-- what a value gives where there is one
pub if_ok : {A E : Type 0} (P Q : A → Type 0) → ((x : A) → P x → Q x) → (r : Result A E) → IfOk r P → IfOk r Q
if_ok P Q f (Ok x) h = f x h
if_ok P Q f (Err e) h = tt

module _ {A E : Type 0} (items : A → List Row) (r : Result A E) (ps : List Place) (rows : Rows) (table : ℕ) (after : List ℕ) (n : ℕ) (order : AreInOrder ps)
    (is : rows_of ps ≡ rows) (read : IfOk r (λ page. items page ≡ take n (behind table after (held ps)))) where
  pub paged : IfOk r (λ page. items page ≡ page_of rows table after n)
  paged = if_ok (λ page. items page ≡ take n (behind table after (held ps))) (λ page. items page ≡ page_of rows table after n)
      (λ page h. h ∙ view_page (held ps) table after n (sorted_held ps order) ∙ ap (λ all. page_of all table after n) is) r read

  pub page_shape : IfOk r (λ page. IsPage after n (items page))
  page_shape = if_ok (λ page. items page ≡ take n (behind table after (held ps))) (λ page. IsPage after n (items page))
      (λ page h. subst (IsPage after n) (sym h) (is_page table after n (held ps) (sorted_held ps order))) r read
