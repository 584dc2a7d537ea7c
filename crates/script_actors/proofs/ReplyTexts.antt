-- The words of a reply, with and without a space in front.
use Rattle.std.proofs.Common.{◌≡◌, ◌≤◌, ℕ, false, List, [], ◌∷◌, ◌++◌, length, arith, refl, sym, ap, ◌∙◌, subst, append-nil}
use Rattle.std.specs.Prelude.{nat_eq, IfOk, Result, None, Some}
use Rattle.std.specs.List.{join_with_byte}
use Rattle.enq_base.specs.declared.refusal.Refusal.{Refusal}
use Rattle.enq_base.specs.declared.refusal.Refusal.TheVariants as refusal
use Rattle.hall_model.specs.declared.command.Reply.{Reply}
use Rattle.hall_model.specs.declared.command.Reply.TheVariants as reply
use Rattle.script_runner.specs.Texts.{refusal_words, reply_words, spaced}
use Rattle.script_actors.specs.Texts.{reply_text}

spaced_more : (word : List ℕ) (words : List (List ℕ)) → spaced (word ∷ words) ≡ 32 ∷ join_with_byte 32 (word ∷ words)
spaced_more word [] = ap (λ text. 32 ∷ text) (append-nil word)
spaced_more word (next ∷ words) = ap (λ text. 32 ∷ word ++ text) (spaced_more next words)

spaced_words : (words : List (List ℕ)) → nat_eq (length words) 0 ≡ false → spaced words ≡ 32 ∷ join_with_byte 32 words
spaced_words [] some = absurd (cc)
spaced_words (word ∷ words) some = spaced_more word words

refusal_some : (x : Refusal) → nat_eq (length (refusal_words x)) 0 ≡ false
refusal_some refusal.Idle = refl
refusal_some _ = refl

reply_some : (r : Reply) → nat_eq (length (reply_words r)) 0 ≡ false
reply_some (reply.Row None) = refl
reply_some (reply.Row (Some text)) = refl
reply_some (reply.Refused x) = refusal_some x
reply_some _ = refl

-- a reply that is written into nothing has a space in front
pub written_reply : (old now text : List ℕ) (r : Reply) → old ≡ [] → now ≡ old ++ spaced (reply_words r) → text ≡ now → text ≡ 32 ∷ reply_text r
written_reply old now text r none is same = same ∙ is ∙ ap (λ xs. xs ++ spaced (reply_words r)) none ∙ spaced_words (reply_words r) (reply_some r)

pub none_fits : (old : List ℕ) → old ≡ [] → length old ≤ 20
none_fits old none = subst (λ (xs : List ℕ). length xs ≤ 20) (sym none) (omega arith)

pub behind_first : (text rest given : List ℕ) (first : ℕ) → text ≡ first ∷ rest → text ≡ 32 ∷ given → rest ≡ given
behind_first text rest given first is space =
    let same : first ∷ rest ≡ 32 ∷ given = sym is ∙ space in
    cc

pub behind_nothing : (text given : List ℕ) → length text ≡ 0 → text ≡ 32 ∷ given → text ≡ given
behind_nothing [] given none space = absurd (cc)
behind_nothing (b ∷ text) given none space = absurd (cc)

pub copied : {E : Type 0} (r : Result (List ℕ) E) (bytes text : List ℕ) → IfOk r (λ (copy : List ℕ). copy ≡ bytes) → bytes ≡ text
    → IfOk r (λ (copy : List ℕ). copy ≡ text)
copied r bytes text h same = subst (λ (xs : List ℕ). IfOk r (λ (copy : List ℕ). copy ≡ xs)) same h
