-- The entries of each unit, as lists and the file's spelling have them.
use Rattle.std.proofs.Common.{◌≡◌, inl, inr, ℕ, ◌≤◌, Bool, true, false, not, cond, List, [], ◌∷◌, ◌++◌, map, length, if◌then◌else◌, refl, sym, ap, ◌∙◌}
use Rattle.std.specs.List.{All, filter}
use Rattle.std.proofs.lemmas.Bool.{cases_Bool}
use Rattle.std.proofs.lemmas.List.Elements.{All-head, All-tail}
use Rattle.enq_base.specs.Owners.{same_unit}
use Rattle.enq_base.specs.declared.owner.Owner.TheVariants.{Upd}
use Rattle.enq_base.specs.declared.owner.UnitKey.{UnitKey}
use Rattle.mode_rules.specs.declared.Mode.TheVariants.{O}
use Rattle.mode_rules.specs.Modes.{same_mode}
use Rattle.lock_entry.specs.Freeing.{handed_over}
use Rattle.lock_entry.specs.Names.{is_of}
use Rattle.lock_entry.specs.declared.entry.Entry.{Entry}
use Rattle.lock_entry.specs.declared.entry.UnitLocks.{UnitLocks}
use Rattle.backup_file.specs.Handing.{as_handed, handed_of}
use Rattle.backup_file.specs.Lists.{after, without}
use Rattle.backup_file.specs.Spelling.{user_of}
use Rattle.backup_file.specs.declared.handed.Handed.{Handed}
use Rattle.backup_file.specs.declared.handed.Record.TheVariants.{Hand}
use Rattle.enq_server.specs.Recovery.{entries_of, is_one_of, lists_among}
use Rattle.enq_server.specs.Server.{lasting, with_list}
use Rattle.enq_server.proofs.Lasting.{listed}
use Rattle.backup_file.proofs.lemmas.Units.{flipped, same_key}

-- ---- one user

user_of-all : (user : List ℕ) (es : List Entry) → All (λ (e : Entry). e.user ≡ user) es → map (as_handed (user_of es)) es ≡ map (as_handed user) es
user_of-all user [] all = refl
user_of-all user (e ∷ es) all = ap (λ u. map (as_handed u) (e ∷ es)) (All-head (λ (x : Entry). x.user ≡ user) e es all)

own_user : (user : List ℕ) (e : Entry) → e.user ≡ user → as_handed user e ≡ record e { handed = true }
own_user user e is = ap (λ u. as_handed u e) (sym is)

handed_alike : (unit : UnitKey) (user : List ℕ) (table : List Entry) → All (λ (e : Entry). e.user ≡ user) (lasting unit table)
    → map (as_handed user) (lasting unit table) ≡ filter (is_of (Upd unit)) (handed_over table unit)
handed_alike unit user [] all = refl
handed_alike unit user (e ∷ table) all =
    elim (cases_Bool (is_of (Upd unit) e)) [
      | inr other ↦ rw (other, other, other) (handed_alike unit user table (rw other at all))
      | inl own ↦
          elim (cases_Bool (same_mode e.mode O)) [
            | inl optimistic ↦ rw (own, optimistic) (handed_alike unit user table (rw (own, optimistic) at all))
            | inr lasts ↦
                let both : All (λ (x : Entry). x.user ≡ user) (e ∷ lasting unit table) = rw (own, lasts) at all in
                rw (own, lasts, own, own)
                (λ i. own_user user e (All-head (λ (x : Entry). x.user ≡ user) e (lasting unit table) both) i
                ∷ handed_alike unit user table (All-tail (λ (x : Entry). x.user ≡ user) e (lasting unit table) both) i)
          ]
    ]

pub handed_as_kept : (unit : UnitKey) (user : List ℕ) (table : List Entry) → All (λ (e : Entry). e.user ≡ user) (lasting unit table)
    → (handed_of unit (lasting unit table)).entries ≡ filter (is_of (Upd unit)) (handed_over table unit)
handed_as_kept unit user table all = user_of-all user (lasting unit table) all ∙ handed_alike unit user table all

flag_stays : (e : Entry) → e.handed ≡ true → record e { handed = true } ≡ e
flag_stays e is = λ i. record e { handed = sym is i }

returned_alike : (user : List ℕ) (es : List Entry) → All (λ (e : Entry). e.user ≡ user) es → All (λ (e : Entry). e.handed ≡ true) es
    → map (as_handed user) es ≡ es
returned_alike user [] all flags = refl
returned_alike user (e ∷ es) all flags =
    let here = own_user user e (All-head (λ (x : Entry). x.user ≡ user) e es all) ∙ flag_stays e (All-head (λ (x : Entry). x.handed ≡ true) e es flags) in
    let rest = returned_alike user es (All-tail (λ (x : Entry). x.user ≡ user) e es all) (All-tail (λ (x : Entry). x.handed ≡ true) e es flags) in
    λ i. here i ∷ rest i

pub returned_as_kept : (unit : UnitKey) (user : List ℕ) (es : List Entry) → All (λ (e : Entry). e.user ≡ user) es → All (λ (e : Entry). e.handed ≡ true) es
    → (handed_of unit es).entries ≡ es
returned_as_kept unit user es all flags = user_of-all user es all ∙ returned_alike user es all flags

-- ---- the entries of each unit

chosen : (b : Bool) (xs ys : List Entry) → b ≡ true → (if b then xs else ys) ≡ xs
chosen true xs ys h = refl
chosen false xs ys h = cc

others : (b : Bool) (xs ys : List Entry) → b ≡ false → (if b then xs else ys) ≡ ys
others true xs ys h = cc
others false xs ys h = refl

pub entries-without : (l : List Handed) (unit other : UnitKey) → entries_of (without unit l) other ≡ (if same_unit unit other then [] else entries_of l other)
entries-without [] unit other =
    elim (cases_Bool (same_unit unit other)) [
      | inl same ↦ sym (chosen (same_unit unit other) [] [] same)
      | inr apart ↦ sym (others (same_unit unit other) [] [] apart)
    ]
entries-without (h ∷ l) unit other =
    let rest = entries-without l unit other in
    elim (cases_Bool (same_unit h.unit unit)) [
      | inl gone ↦
          ap (λ b. entries_of (cond (not b) (h ∷ without unit l) (without unit l)) other) gone
          ∙ rest
          ∙ (elim (cases_Bool (same_unit unit other)) [
            | inl same ↦ chosen (same_unit unit other) [] (entries_of l other) same ∙ sym (chosen (same_unit unit other) [] (entries_of (h ∷ l) other) same)
            | inr apart ↦
                let away : same_unit h.unit other ≡ false = ap (λ k. same_unit k other) (same_key h.unit unit gone) ∙ apart in
                others (same_unit unit other) [] (entries_of l other) apart
                ∙ sym (others (same_unit h.unit other) h.entries (entries_of l other) away)
                ∙ sym (others (same_unit unit other) [] (entries_of (h ∷ l) other) apart)
          ])
      | inr kept ↦
          ap (λ b. entries_of (cond (not b) (h ∷ without unit l) (without unit l)) other) kept
          ∙ (elim (cases_Bool (same_unit h.unit other)) [
            | inl own ↦
                let away : same_unit unit other ≡ false = flipped unit other ∙ ap (λ k. same_unit k unit) (sym (same_key h.unit other own)) ∙ kept in
                chosen (same_unit h.unit other) h.entries (entries_of (without unit l) other) own
                ∙ sym (chosen (same_unit h.unit other) h.entries (entries_of l other) own)
                ∙ sym (others (same_unit unit other) [] (entries_of (h ∷ l) other) away)
            | inr apart ↦
                others (same_unit h.unit other) h.entries (entries_of (without unit l) other) apart
                ∙ rest
                ∙ ap (λ es. if same_unit unit other then [] else es) (sym (others (same_unit h.unit other) h.entries (entries_of l other) apart))
          ])
    ]

push_other : (l : List Handed) (h : Handed) (other : UnitKey) → same_unit h.unit other ≡ false → entries_of (l ++ h ∷ []) other ≡ entries_of l other
push_other [] h other apart = others (same_unit h.unit other) h.entries [] apart
push_other (g ∷ l) h other apart = ap (λ es. if same_unit g.unit other then g.entries else es) (push_other l h other apart)

push_own : (l : List Handed) (h : Handed) (other : UnitKey) → same_unit h.unit other ≡ true → entries_of (without h.unit l ++ h ∷ []) other ≡ h.entries
push_own [] h other own = chosen (same_unit h.unit other) h.entries [] own
push_own (g ∷ l) h other own =
    elim (cases_Bool (same_unit g.unit h.unit)) [
      | inl gone ↦ ap (λ b. entries_of (cond (not b) (g ∷ without h.unit l) (without h.unit l) ++ h ∷ []) other) gone ∙ push_own l h other own
      | inr kept ↦
          let away : same_unit g.unit other ≡ false = ap (same_unit g.unit) (sym (same_key h.unit other own)) ∙ kept in
          ap (λ b. entries_of (cond (not b) (g ∷ without h.unit l) (without h.unit l) ++ h ∷ []) other) kept
          ∙ others (same_unit g.unit other) g.entries (entries_of (without h.unit l ++ h ∷ []) other) away
          ∙ push_own l h other own
    ]

after_hand : (l : List Handed) (h : Handed) (other : UnitKey) → entries_of
    (after l (Hand h)) other ≡ (if same_unit h.unit other then h.entries else entries_of l other)
after_hand l h other =
    elim (cases_Bool (same_unit h.unit other)) [
      | inl own ↦ push_own l h other own ∙ sym (chosen (same_unit h.unit other) h.entries (entries_of l other) own)
      | inr apart ↦
          push_other (without h.unit l) h other apart
          ∙ entries-without l h.unit other
          ∙ others (same_unit h.unit other) [] (entries_of l other) apart
          ∙ sym (others (same_unit h.unit other) h.entries (entries_of l other) apart)
    ]

pub entries-with : (l : List Handed) (unit other : UnitKey) (es : List Entry) → 1 ≤ length es
    → entries_of (with_list unit es l) other ≡ (if same_unit unit other then (handed_of unit es).entries else entries_of l other)
entries-with l unit other es some = ap (λ m. entries_of m other) (listed unit es l some) ∙ after_hand l (handed_of unit es) other

pub entries-among : (l : List Handed) (units : List UnitLocks) (other : UnitKey)
    → entries_of (lists_among units l) other ≡ (if is_one_of units other then entries_of l other else [])
entries-among [] units other =
    elim (cases_Bool (is_one_of units other)) [
      | inl own ↦ sym (chosen (is_one_of units other) [] [] own)
      | inr apart ↦ sym (others (is_one_of units other) [] [] apart)
    ]
entries-among (h ∷ l) units other =
    let rest = entries-among l units other in
    elim (cases_Bool (is_one_of units h.unit)) [
      | inl kept ↦
          ap (λ b. entries_of (cond b (h ∷ lists_among units l) (lists_among units l)) other) kept
          ∙ (elim (cases_Bool (same_unit h.unit other)) [
            | inl own ↦
                let known : is_one_of units other ≡ true = ap (is_one_of units) (sym (same_key h.unit other own)) ∙ kept in
                chosen (same_unit h.unit other) h.entries (entries_of (lists_among units l) other) own
                ∙ sym (chosen (same_unit h.unit other) h.entries (entries_of l other) own)
                ∙ sym (chosen (is_one_of units other) (entries_of (h ∷ l) other) [] known)
            | inr apart ↦
                others (same_unit h.unit other) h.entries (entries_of (lists_among units l) other) apart
                ∙ rest
                ∙ ap (λ es. if is_one_of units other then es else []) (sym (others (same_unit h.unit other) h.entries (entries_of l other) apart))
          ])
      | inr gone ↦
          ap (λ b. entries_of (cond b (h ∷ lists_among units l) (lists_among units l)) other) gone
          ∙ rest
          ∙ (elim (cases_Bool (same_unit h.unit other)) [
            | inl own ↦
                let unknown : is_one_of units other ≡ false = ap (is_one_of units) (sym (same_key h.unit other own)) ∙ gone in
                others (is_one_of units other) (entries_of l other) [] unknown ∙ sym (others (is_one_of units other) (entries_of (h ∷ l) other) [] unknown)
            | inr apart ↦ ap (λ es. if is_one_of units other then es else []) (sym (others (same_unit h.unit other) h.entries (entries_of l other) apart))
          ])
    ]
