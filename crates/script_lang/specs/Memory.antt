-- Which lines hold lists, and so take memory.
use Rattle.std.specs.Prelude.{ℕ, Bool, true, false, ◌&&◌, List, [], ◌∷◌, codes, Some, None}
use Rattle.std.specs.List.{list_any}
use Rattle.std.specs.Str.{bytes_eq}
use Rattle.enq_base.specs.Cut.{cut}
use Rattle.enq_base.specs.Grammar.{is_name}
use Rattle.script_lang.specs.declared.words.Verb.{Verb}
use Rattle.script_lang.specs.declared.words.Verb.TheVariants as verb

-- the verbs with values, a key, a text or an added number behind them
abbrev pub list_verbs : List (List ℕ)
list_verbs = codes "ENQ" ∷ codes "DEQ" ∷ codes "COLLECT" ∷ codes "CONVERT" ∷ codes "READ" ∷ codes "V1" ∷ codes "V2" ∷ []

-- such a verb stands first, and more behind it
abbrev pub begins_with_list_verb : List ℕ → Bool
begins_with_list_verb act =
    elim (cut 32 act) [ None ↦ false | Some c ↦ list_any (λ verb. bytes_eq (c.0) verb) list_verbs ]

-- who stands first is a session, and acts with such a verb
abbrev pub acts_on_lists : List ℕ → List ℕ → Bool
acts_on_lists who act = is_name who && begins_with_list_verb act

-- a session's line with such a verb
abbrev pub holds_lists : List ℕ → Bool
holds_lists bytes = elim (cut 32 bytes) [ None ↦ false | Some c ↦ acts_on_lists (c.0) (c.1) ]

-- whether lists stand behind the verb
abbrev pub takes_lists : Verb → Bool
takes_lists verb.Logon = false
takes_lists verb.Enq = true
takes_lists verb.Deq = true
takes_lists verb.Collect = true
takes_lists verb.Convert = true
takes_lists verb.Num = false
takes_lists verb.Read = true
takes_lists verb.V1 = true
takes_lists verb.V2 = true
