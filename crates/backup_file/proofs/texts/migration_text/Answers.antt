use Rattle.std.proofs.Common.{ℕ, ◌∷◌, ◌++◌, [], List, length, length-append, arith, ap, ◌∙◌}
use Rattle.backup_file.specs.declared.places.Slots.{Slots}
use Rattle.backup_file.specs.Slots.{first_slots, slot_bytes}
use Rattle.backup_file.specs.File.{compact}
use Rattle.backup_file.proofs.texts.migration_text.Goals as goal

pub returns-clause-spelled : goal.returns-clause-spelled
returns-clause-spelled c = λ few.
    let log : List ℕ = compact c.args.lists.now ++ 0 ∷ [] in
    let one = c.bytes_of_slot.ensures ∙ ap (λ (s : Slots). slot_bytes s.one) (c.first_place-place.ensures.slots few) in
    let two = c.bytes_of_slot-2.ensures ∙ ap (λ (s : Slots). slot_bytes s.two) (c.first_place-place.ensures.slots few) in
    let head = c.in_ok-extend_from_slice.ensures.items ∙ ap (λ (b : List ℕ). b ++ (1 ∷ 3 ∷ 0 ∷ 0 ∷ 0 ∷ 34 ∷ [])) c.new-out.ensures.items in
    let first = c.in_ok-extend_from_slice-2.ensures.items ∙ ap (λ (b : List ℕ). b ++ c.bytes_of_slot.result) head
    ∙ ap (λ (b : List ℕ). (1 ∷ 3 ∷ 0 ∷ 0 ∷ 0 ∷ 34 ∷ []) ++ b) one in
    let second = c.in_ok-extend_from_slice-3.ensures.items ∙ ap (λ (b : List ℕ). b ++ c.bytes_of_slot-2.result) first
    ∙ ap (λ (b : List ℕ). ((1 ∷ 3 ∷ 0 ∷ 0 ∷ 0 ∷ 34 ∷ []) ++ slot_bytes (first_slots c.args.gate).one) ++ b) two in
    c.in_ok-put_log.ensures ∙ ap (λ (b : List ℕ). b ++ log) second

pub returns-clause-some : goal.returns-clause-some
returns-clause-some c =
    let log : List ℕ = compact c.args.lists.now ++ 0 ∷ [] in
    let head : List ℕ = 1 ∷ 3 ∷ 0 ∷ 0 ∷ 0 ∷ 34 ∷ [] in
    let one = c.bytes_of_slot.result in
    let two = c.bytes_of_slot-2.result in
    let first = c.in_ok-extend_from_slice.ensures.items ∙ ap (λ (b : List ℕ). b ++ head) c.new-out.ensures.items in
    let second = c.in_ok-extend_from_slice-2.ensures.items ∙ ap (λ (b : List ℕ). b ++ one) first in
    let third = c.in_ok-extend_from_slice-3.ensures.items ∙ ap (λ (b : List ℕ). b ++ two) second in
    omega (
      arith,
      ap (λ (b : List ℕ). length b) (c.in_ok-put_log.ensures ∙ ap (λ (b : List ℕ). b ++ log) third),
      length-append ((head ++ one) ++ two) log,
      length-append (head ++ one) two,
      length-append head one,
    )
