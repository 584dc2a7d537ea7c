-- The two owners of a pair are related, so what one of them is granted conflicts with nothing of the pair.
use Rattle.std.proofs.Common.{◌≡◌, true, false, not, ◌∙◌, ap, inl, inr}
use Rattle.std.proofs.lemmas.Bool.{cases_Bool, and_parts, and_from, and_left, or_cases, or_left, or_right, not-true, not_from_false, not_from_true}
use Rattle.enq_base.specs.declared.owner.Owner.{Owner}
use Rattle.enq_base.specs.Owners.{same_owner}
use Rattle.mode_rules.specs.Modes.{modes_clash}
use Rattle.lock_entry.specs.declared.entry.Asker.{Asker}
use Rattle.lock_entry.specs.declared.entry.Entry.{Entry}
use Rattle.lock_entry.specs.Names.{asked_of, names_differ}
use Rattle.lock_entry.specs.Pairs.{IsPair, in_pair, of_one_session, are_related}
use Rattle.lock_entry.specs.Barring.{bars, places_meet, modes_bar}
use Rattle.lock_entry.specs.Sound.{in_conflict, are_apart}
use Rattle.lock_entry.proofs.lemmas.Naming.{same_owner-refl, same_owner-same}

-- two owners of one pair are related
pub pair-related : (asker : Asker) (a b : Owner) → IsPair asker → in_pair asker a ≡ true → in_pair asker b ≡ true → are_related a b ≡ true
pair-related asker a b p ha hb =
    elim (or_cases (same_owner a asker.dialogue) (same_owner a asker.update) ha) [
      | inl ad ↦ from_dialogue (same_owner-same a asker.dialogue ad)
      | inr au ↦ from_update (same_owner-same a asker.update au)
    ]
  where
    both : (x y : Owner) → a ≡ x → b ≡ y → are_related x y ≡ true → are_related a b ≡ true
    both x y ax by' h = ap (λ (o : Owner). are_related o b) ax ∙ ap (are_related x) by' ∙ h

    from_dialogue : a ≡ asker.dialogue → are_related a b ≡ true
    from_dialogue ax =
        elim (or_cases (same_owner b asker.dialogue) (same_owner b asker.update) hb) [
          | inl bd ↦ both asker.dialogue asker.dialogue ax (same_owner-same b asker.dialogue bd) (or_left _ _ (same_owner-refl asker.dialogue))
          | inr bu ↦ both asker.dialogue asker.update ax (same_owner-same b asker.update bu)
              (or_right (same_owner asker.dialogue asker.update) _ (or_left _ _ p))
        ]

    from_update : a ≡ asker.update → are_related a b ≡ true
    from_update ax =
        elim (or_cases (same_owner b asker.dialogue) (same_owner b asker.update) hb) [
          | inl bd ↦ both asker.update asker.dialogue ax (same_owner-same b asker.dialogue bd)
              (or_right (same_owner asker.update asker.dialogue) _ (or_right (of_one_session asker.update asker.dialogue) _ p))
          | inr bu ↦ both asker.update asker.update ax (same_owner-same b asker.update bu) (or_left _ _ (same_owner-refl asker.update))
        ]

-- entries of related owners aren't in conflict
pub related-calm : (a b : Entry) → are_related a.owner b.owner ≡ true → in_conflict a b ≡ false
related-calm a b r = and_left (not (are_related a.owner b.owner)) _ (not_from_true (are_related a.owner b.owner) r)

pub apart-from : (a b : Entry) → names_differ a b ≡ true → in_conflict a b ≡ false → are_apart a b ≡ true
apart-from a b n c = and_from (names_differ a b) (not (in_conflict a b)) n (not_from_false (in_conflict a b) c)

-- an entry that doesn't bar isn't in conflict with what an owner of the pair is granted
pub conflict-unbarred : (asker : Asker) (e f : Entry) → IsPair asker → in_pair asker f.owner ≡ true → bars asker (asked_of f) e ≡ false
    → in_conflict e f ≡ false
conflict-unbarred asker e f p hf free =
    elim (cases_Bool (in_conflict e f)) [
      | inr none ↦ none
      | inl some ↦
          let parts = and_parts (not (are_related e.owner f.owner)) _ some in
          let meeting = and_parts (places_meet (asked_of e) (asked_of f)) (modes_clash e.mode f.mode) parts.1 in
          elim (cases_Bool (in_pair asker e.owner)) [
            | inl within ↦ absurd (let r = pair-related asker e.owner f.owner p within hf in let u = not-true _ parts.0 in cc)
            | inr outside ↦
                let clash : modes_bar (in_pair asker e.owner) e.mode f.mode ≡ true = rw outside meeting.1 in
                absurd (let bar : bars asker (asked_of f) e ≡ true = and_from (places_meet (asked_of e) (asked_of f))
                (modes_bar (in_pair asker e.owner) e.mode f.mode) meeting.0 clash in cc)
          ]
    ]
