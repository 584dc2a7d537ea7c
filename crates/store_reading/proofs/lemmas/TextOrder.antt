-- Names of business rows in the order of their keys in table 6.
use Rattle.std.proofs.Common.{◌≡◌, ℕ, Bool, true, false, ◌&&◌, cond, List, [], ◌∷◌, ◌++◌, length, Option, Decides, if◌then◌else◌, refl, sym, ap, subst, ◌∙◌, arith}
use Rattle.std.specs.BTreeMap as tree
use Rattle.std.specs.Cmp.{Equal-is, eq_by_cmp_equiv}
use Rattle.std.specs.Cmp.Lexicographic.{slice_cmp}
use Rattle.std.specs.FinMap.{nat_cmp-IsAntisymmetric, slice_cmp-IsAntisymmetric}
use Rattle.std.specs.Ordering.{eq_by_cmp, nat_cmp, ordering_then}
use Rattle.std.specs.Str.{bytes_eq}
use Rattle.std.proofs.lemmas.Slice.Eq.{bytes_eq-Decides}
use Rattle.std.proofs.lemmas.Bool.Decides.{same_from_decides}
use Rattle.module_effects.specs.Rows.{RowName}
use Rattle.module_effects.specs.Spots.{is_at, row_at}
use Rattle.module_effects.specs.declared.spot.Spot.{Spot}
use Rattle.module_effects.proofs.lemmas.Tables.{is_at-Decides}
use Rattle.update_records.specs.RecordRows.{row_name}
use Rattle.update_records.specs.declared.stored.Record.{Record}
use Rattle.update_records.specs.declared.stored.Record.TheVariants as rec
use Rattle.record_laws.proofs.Keyed.{unname, unname_name}
use Rattle.store_reading.specs.Ids.{text_cmp, text_id}
use Rattle.store_reading.specs.Posting.{text_row}
use Rattle.store_reading.specs.Posts.{is_business}
use Rattle.store_reading.specs.Sameness.{texts_total}
use Rattle.store_reading.specs.declared.text_id.TextId.{TextId}
use Rattle.std.specs.declared.cmp.Ordering.{Ordering}
use Rattle.std.specs.declared.cmp.Ordering.TheVariants.{Less, Equal, Greater}

then_assoc : (a b c : Ordering) → ordering_then a (ordering_then b c) ≡ ordering_then (ordering_then a b) c
then_assoc Less b c = refl
then_assoc Equal b c = refl
then_assoc Greater b c = refl

cmp_behind : (xs ys k l : List ℕ) → length xs ≡ length ys → slice_cmp nat_cmp (xs ++ k) (ys ++ l) ≡ ordering_then (slice_cmp nat_cmp xs ys)
    (slice_cmp nat_cmp k l)
cmp_behind [] [] k l h = refl
cmp_behind [] (y ∷ ys) k l h = absurd (omega arith)
cmp_behind (x ∷ xs) [] k l h = absurd (omega arith)
cmp_behind (x ∷ xs) (y ∷ ys) k l h =
    ap (ordering_then (nat_cmp x y)) (cmp_behind xs ys k l (omega arith)) ∙ then_assoc (nat_cmp x y) (slice_cmp nat_cmp xs ys) (slice_cmp nat_cmp k l)

pub name_cmp : (a b k l : List ℕ)
    → ordering_then (ordering_then (nat_cmp (length a) (length b)) (slice_cmp nat_cmp a b)) (slice_cmp nat_cmp k l) ≡ ordering_then
    (nat_cmp (length a) (length b)) (slice_cmp nat_cmp (a ++ k) (b ++ l))
name_cmp a b k l =
    elim (nat_cmp (length a) (length b))
    as (λ o. nat_cmp (length a) (length b) ≡ o → ordering_then (ordering_then o (slice_cmp nat_cmp a b)) (slice_cmp nat_cmp k l) ≡ ordering_then o
    (slice_cmp nat_cmp (a ++ k) (b ++ l))) [
      | Less ↦ λ is. refl
      | Equal ↦ λ is. sym (cmp_behind a b k l (nat_cmp-IsAntisymmetric (length a) (length b) is))
      | Greater ↦ λ is. refl
    ] refl

-- ---- one name

same_name : (a b : RowName) → row_name a ≡ row_name b → a ≡ b
same_name a b e = sym (unname_name a) ∙ ap unname e ∙ unname_name b

text-Decides : (a b : RowName) → Decides (eq_by_cmp text_cmp (text_id a) (text_id b)) (b ≡ a)
text-Decides a b = (
  λ t. sym (same_name a b (slice_cmp-IsAntisymmetric nat_cmp-IsAntisymmetric (row_name a) (row_name b) ((Equal-is (text_cmp (text_id a) (text_id b))).0 t))),
  λ e. subst (λ r. eq_by_cmp text_cmp (text_id a) (text_id r) ≡ true) (sym e) ((eq_by_cmp_equiv texts_total).refl (text_id a)),
)

-- what is put at the name of a spot is found there alone
pub put_there : (spot : Spot) (id : TextId) (text : Option (List ℕ)) (old : Option (List ℕ)) (name : RowName) → id ≡ text_id (row_at spot) → text ≡ spot.text
    → cond (tree.is_at (text_cmp id) (text_id name)) text old ≡ (if is_at name spot then spot.text else old)
put_there spot id text old name at is =
    ap (λ t. cond (tree.is_at (text_cmp id) (text_id name)) t old) is
    ∙ ap (λ a. cond (eq_by_cmp text_cmp a (text_id name)) spot.text old) at
    ∙ ap (λ b. cond b spot.text old) (same_from_decides _ _ (text-Decides (row_at spot) name) (is_at-Decides name spot))

same_names : (a b : RowName) → bytes_eq (row_name a) (row_name b) ≡ eq_by_cmp text_cmp (text_id a) (text_id b)
same_names a b =
    let named = bytes_eq-Decides (row_name a) (row_name b) in
    let texts = text-Decides a b in
    same_from_decides _ _ named (λ t. ap row_name (sym (texts.0 t)), λ e. texts.1 (sym (same_name a b e)))

-- a business record is the row of a text where its name is the text's, and its text is the same
is_text : (id : TextId) (text : List ℕ) (r : Record) (table key told : List ℕ) → r ≡ rec.Business table key told
    → is_business (text_row (id, text)) r ≡ (eq_by_cmp text_cmp id (text_id (table, key)) && bytes_eq text told)
is_text id text r table key told is = ap (is_business (text_row (id, text))) is ∙ ap (λ b. b && bytes_eq text told) (same_names (id.table, id.key) (table, key))

pub named_row : (id : TextId) (text : List ℕ) (r : Record) (table key told : List ℕ) (b : Bool) → r ≡ rec.Business table key told
    → b ≡ eq_by_cmp text_cmp id (text_id (table, key)) → b ≡ true
    → bytes_eq text told ≡ is_business (text_row (id, text)) r
named_row id text r table key told b is named passes = sym (is_text id text r table key told is ∙ ap (λ t. t && bytes_eq text told) (sym named ∙ passes))

pub other_row : (id : TextId) (text : List ℕ) (r : Record) (table key told : List ℕ) (b : Bool) → r ≡ rec.Business table key told
    → b ≡ eq_by_cmp text_cmp id (text_id (table, key)) → b ≡ false
    → b ≡ is_business (text_row (id, text)) r
other_row id text r table key told b is named fails = fails ∙ sym (is_text id text r table key told is ∙ ap (λ t. t && bytes_eq text told) (sym named ∙ fails))
