-- The answers to a conversion, by the tests that lead to them.
use Rattle.std.proofs.Common.{◌≡◌, List, true, false, Some, None, Ok, Err, sym, refl}
use Rattle.lock_entry.specs.declared.entry.Asked.{Asked}
use Rattle.lock_entry.specs.declared.entry.Asker.{Asker}
use Rattle.lock_entry.specs.declared.entry.Entry.{Entry}
use Rattle.lock_entry.specs.declared.fault.AskFault.TheVariants.{Foreign, Count, Lost}
use Rattle.lock_entry.specs.Converting.{converted, conversion, is_lost, first_withstanding, sum_exceeds}

module _ (es : List Entry) (asker : Asker) (asked : List Asked) where
  pub converted-Lost : true ≡ is_lost es asker asked → converted es asker asked ≡ Err Lost
  unfolding converted
  converted-Lost h = rw (sym h) refl

  pub converted-Foreign : (e : Entry) → false ≡ is_lost es asker asked → Some e ≡ first_withstanding es asker asked → converted es asker asked ≡ Err (Foreign e)
  unfolding converted
  converted-Foreign e h f = rw (sym h, sym f) refl

  pub converted-Count : false ≡ is_lost es asker asked → None ≡ first_withstanding es asker asked → true ≡ sum_exceeds es asker asked
      → converted es asker asked ≡ Err Count
  unfolding converted
  converted-Count h f o = rw (sym h, sym f, sym o) refl

  pub converted-Ok : false ≡ is_lost es asker asked → None ≡ first_withstanding es asker asked → false ≡ sum_exceeds es asker asked
      → converted es asker asked ≡ Ok (conversion es asker asked)
  unfolding converted
  converted-Ok h f o = rw (sym h, sym f, sym o) refl
