-- The answers of the grant rule and of readmission, by their tests, and what an answer Ok says of the tests before it.
use Rattle.std.proofs.Common.{◌≡◌, ℕ, ◌++◌, true, false, length, map, List, Option, Some, None, Result, Ok, Err, inl, inr, refl}
use Rattle.std.proofs.lemmas.Bool.{cases_Bool}
use Rattle.lock_entry.specs.declared.entry.Asker.{Asker}
use Rattle.lock_entry.specs.declared.entry.Entry.{Entry}
use Rattle.lock_entry.specs.declared.entry.Request.{Request}
use Rattle.lock_entry.specs.declared.fault.AskFault.{AskFault}
use Rattle.lock_entry.specs.declared.fault.AskFault.TheVariants.{Foreign, Full, Count}
use Rattle.lock_entry.specs.Names.{asked_of, halves}
use Rattle.lock_entry.specs.Freeing.{freed_owner}
use Rattle.lock_entry.specs.Table.{Table}
use Rattle.lock_entry.specs.Granting.{asked, readmitted, first_bar, new_names, newcomers, granted, is_full, is_over, unless_barred, unless_full}

pub unless_barred-Ok : {X : Type 0} (o : Option Entry) (r : Result X AskFault) (x : X) → unless_barred o r ≡ Ok x → (o ≡ None) × (r ≡ Ok x)
unless_barred-Ok None r x h = (refl, h)
unless_barred-Ok (Some e) r x h = absurd (cc)

pub unless_full-Ok : {X : Type 0} (t : Table) (n : ℕ) (r : Result X AskFault) (x : X) → unless_full t n r ≡ Ok x → (is_full t n ≡ false) × (r ≡ Ok x)
unless_full-Ok t n r x h =
    elim (cases_Bool (is_full t n)) [
      | inl e ↦ absurd (let k = rw e at h in cc)
      | inr e ↦ (e, rw e at h)
    ]

-- The answers of the grant rule, by the tests that lead to them.
module _ (t : Table) (asker : Asker) (user : List ℕ) (rs : List Request) where
  pub asked-Foreign : (e : Entry) → first_bar t.entries asker (map (λ r. r.asked) rs) ≡ Some e → asked t asker user rs ≡ Err (Foreign e)
  unfolding asked
  asked-Foreign e h = rw h refl

  pub asked-Full : first_bar t.entries asker (map (λ r. r.asked) rs) ≡ None → is_full t (length (new_names t.entries (halves asker rs))) ≡ true
      → asked t asker user rs ≡ Err (Full (length t.entries) t.limit)
  unfolding asked
  asked-Full h f = rw (h, f) refl

  pub asked-Count : first_bar t.entries asker (map (λ r. r.asked) rs) ≡ None → is_full t (length (new_names t.entries (halves asker rs))) ≡ false
      → is_over t.entries (halves asker rs) ≡ true → asked t asker user rs ≡ Err Count
  unfolding asked
  asked-Count h f o = rw (h, f, o) refl

  pub asked-Ok : first_bar t.entries asker (map (λ r. r.asked) rs) ≡ None → is_full t (length (new_names t.entries (halves asker rs))) ≡ false
      → is_over t.entries (halves asker rs) ≡ false → asked t asker user rs ≡ Ok (granted t.entries user (halves asker rs))
  unfolding asked
  asked-Ok h f o = rw (h, f, o) refl

-- The answers of a readmission.
module _ (t : Table) (asker : Asker) (given : List Entry) where
  pub readmitted-Foreign : (e : Entry) → first_bar t.entries asker (map asked_of given) ≡ Some e → readmitted t asker given ≡ Err (Foreign e)
  unfolding readmitted
  readmitted-Foreign e h = rw h refl

  pub readmitted-Full : first_bar t.entries asker (map asked_of given) ≡ None → is_full t (length (newcomers t.entries given)) ≡ true
      → readmitted t asker given ≡ Err (Full (length t.entries) t.limit)
  unfolding readmitted
  readmitted-Full h f = rw (h, f) refl

  pub readmitted-Ok : first_bar t.entries asker (map asked_of given) ≡ None → is_full t (length (newcomers t.entries given)) ≡ false
      → readmitted t asker given ≡ Ok (freed_owner t.entries asker.update ++ given)
  unfolding readmitted
  readmitted-Ok h f = rw (h, f) refl
