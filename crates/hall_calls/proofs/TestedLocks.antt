-- Locks that may stand together, told by a test.
use Rattle.std.proofs.Common.{◌≡◌, Bool, true, false, List, refl}
use Rattle.std.specs.Prelude.{◌&&◌}
use Rattle.std.specs.List.{list_all}
use Rattle.std.proofs.lemmas.Bool.{and_parts}
use Rattle.lock_entry.specs.Names.{has_distinct_names}
use Rattle.lock_entry.specs.Sound.{IsSound, has_count, has_no_conflict}
use Rattle.lock_entry.specs.declared.entry.Entry.{Entry}
use Rattle.hall_model.specs.Step.{is_sound}

pub sound_of : (list : List Entry) → IsSound list → is_sound list ≡ true
sound_of list h = λ i. h.names i && (h.counts i && h.conflicts i)

pub sound_by : (list : List Entry) → is_sound list ≡ true → IsSound list
sound_by list h =
    let both = and_parts (has_distinct_names list) (list_all has_count list && has_no_conflict list) h in
    let rest = and_parts (list_all has_count list) (has_no_conflict list) both.1 in
    record { names = both.0; counts = rest.0; conflicts = rest.1 }

by_test : (b : Bool) → (b ≡ true → ⊥) → b ≡ false
by_test true never = absurd (never refl)
by_test false never = refl

pub not_sound : (list : List Entry) → (IsSound list → ⊥) → is_sound list ≡ false
not_sound list never = by_test (is_sound list) (λ h. never (sound_by list h))
