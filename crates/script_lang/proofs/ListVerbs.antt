-- The verbs behind which lists stand.
use Rattle.std.proofs.Common.{◌≡◌, ℕ, false, List, refl, Option, Some, None, sym, subst}
use Rattle.std.specs.Prelude.{IfSome, IsTrue}
use Rattle.std.specs.List.{list_any}
use Rattle.std.specs.Str.{bytes_eq}
use Rattle.std.proofs.lemmas.Option.{same_Some, none-some}
use Rattle.enq_base.specs.Cut.{cut}
use Rattle.script_lang.specs.Memory.{begins_with_list_verb, list_verbs, takes_lists}
use Rattle.script_lang.specs.Words.{verb_of}
use Rattle.script_lang.specs.declared.words.Verb.{Verb}
use Rattle.script_lang.specs.declared.words.Verb.TheVariants as verb
use Rattle.script_lang.proofs.Spelled.{verb_if, verb_text}

listed : (v : Verb) → IsTrue (takes_lists v) → IsTrue (list_any (λ verb. bytes_eq (verb_text v) verb) list_verbs)
listed verb.Logon h = cc
listed verb.Enq h = refl
listed verb.Deq h = refl
listed verb.Collect h = refl
listed verb.Convert h = refl
listed verb.Num h = cc
listed verb.Read h = refl
listed verb.V1 h = refl
listed verb.V2 h = refl

spelled_at : (o : Option Verb) (v : Verb) (text : List ℕ) → IfSome o (λ v. text ≡ verb_text v) → o ≡ Some v → text ≡ verb_text v
spelled_at None v text h e = absurd (none-some v e)
spelled_at (Some w) v text h e = subst (λ v. text ≡ verb_text v) (same_Some w v e) h

-- a word that names a verb with lists is among the words of such verbs
pub word_listed : (text : List ℕ) (v : Verb) → verb_of text ≡ Some v → IsTrue (takes_lists v) → IsTrue (list_any (λ verb. bytes_eq text verb) list_verbs)
word_listed text v e h =
    subst (λ t. IsTrue (list_any (λ verb. bytes_eq t verb) list_verbs)) (sym (spelled_at (verb_of text) v text (verb_if text) e)) (listed v h)

-- so an act that begins with it begins with such a word
pub begins_so : (act word rest : List ℕ) (v : Verb) → Some (word, rest) ≡ cut 32 act → verb_of word ≡ Some v → IsTrue (takes_lists v)
    → IsTrue (begins_with_list_verb act)
begins_so act word rest v e n h =
    subst (λ o. IsTrue (elim o [ None ↦ false | Some c ↦ list_any (λ verb. bytes_eq c.0 verb) list_verbs ])) e (word_listed word v n h)
