-- A record that is read is the record that was written, and what was written is read again.
use Rattle.std.proofs.Common.{◌≡◌, ℕ, ◌^◌, ◌<◌, ◌≤◌, Bool, true, false, ◌&&◌, cond, ltb, eqb, leb, List, [], ◌∷◌, ◌++◌, length, take, drop, Some, None, refl}
use Rattle.std.proofs.Common.{sym, ap, subst, ◌∙◌, append_assoc, arith, inl, inr}
use Rattle.std.specs.Prelude.{IsTrue}
use Rattle.std.specs.List.{flat_map, AllByRecursion}
use Rattle.std.specs.Int.{w16, w32, to_be_bytes}
use Rattle.std.proofs.lemmas.Bool.{ltb-false, le-ltb, leb-true, le-leb, eqb-true}
use Rattle.std.proofs.lemmas.List.{take_at, drop_at, take-append-drop, length-append, length-take, append-nil, nil_from_length}
use Rattle.enq_base.specs.Grammar.{is_name, is_pattern}
use Rattle.enq_base.specs.declared.owner.UnitKey.{UnitKey}
use Rattle.enq_base.specs.declared.owner.Owner.TheVariants.{Upd}
use Rattle.mode_rules.specs.Modes.{mode_number}
use Rattle.mode_rules.specs.declared.Mode.{Mode}
use Rattle.lock_entry.specs.declared.entry.Entry.{Entry}
use Rattle.backup_file.specs.declared.handed.Handed.{Handed}
use Rattle.backup_file.specs.declared.handed.Record.{Record}
use Rattle.backup_file.specs.declared.handed.Record.TheVariants.{Hand, Free}
use Rattle.backup_file.specs.Spelling.{unit_bytes, short, entry_bytes, user_of, hand_bytes, kind_byte, payload, spelling, IsUnit, IsLock, IsHand, HasPayload, IsRecord}
use Rattle.backup_file.specs.Reading.{short_at, unit_at, mode_at, count_at, entry_at, hand_of, free_of, payload_of, record_at}
use Rattle.byte_fields.specs.Fields.{◌>>=◌, many, number_at}
use Rattle.byte_fields.proofs.lemmas.FieldLaws.{IsBytes-take, IsBytes-drop, IsBytes-rest, IsField, Takes, Takes-then, bind_some, pass_some, chosen, some_is, none_is, is_many, wide32}
use Rattle.gate_log.specs.Grammars.{IsBytes}
use Rattle.backup_file.proofs.Fields.{both_true, number_takes, number_again, short_takes, short_again, mode_takes, mode_again, count_takes, count_again, unit_takes, unit_again}

-- ---- entries

made_entry : UnitKey → List ℕ → List ℕ → Mode → ℕ → List ℕ → Entry
unfolding entry_at
made_entry unit user table mode count pattern =
    record { owner = Upd unit; user = user; table = table; pattern = pattern; mode = mode; count = count; handed = true }

entry_takes : (unit : UnitKey) (user bytes : List ℕ) (x : Entry × List ℕ) → IsBytes bytes → entry_at unit user bytes ≡ Some x
    → Takes bytes (entry_bytes x.0) x.1 × IsLock unit user x.0
unfolding entry_at
entry_takes unit user bytes x fits e =
    let made : List ℕ → Mode → ℕ → List ℕ → Entry = λ table mode count pattern.
    record { owner = Upd unit; user = user; table = table; pattern = pattern; mode = mode; count = count; handed = true } in
    let a = bind_some (short_at is_name bytes)
    (λ table. mode_at table.1 >>= λ mode. count_at mode.1 >>= λ count. short_at is_pattern count.1 >>= λ pattern. Some
    (made table.0 mode.0 count.0 pattern.0, pattern.1)) x e in
    let b = bind_some (mode_at a.0.1)
    (λ mode. count_at mode.1 >>= λ count. short_at is_pattern count.1 >>= λ pattern. Some (made a.0.0 mode.0 count.0 pattern.0, pattern.1)) x a.2 in
    let c = bind_some (count_at b.0.1) (λ count. short_at is_pattern count.1 >>= λ pattern. Some (made a.0.0 b.0.0 count.0 pattern.0, pattern.1)) x b.2 in
    let d = bind_some (short_at is_pattern c.0.1) (λ pattern. Some (made a.0.0 b.0.0 c.0.0 pattern.0, pattern.1)) x c.2 in
    let t0 = short_takes is_name bytes a.0.0 a.0.1 fits a.1 in
    let t1 = mode_takes a.0.1 b.0.0 b.0.1 t0.0.rest_fits b.1 in
    let t2 = count_takes b.0.1 c.0.0 c.0.1 t1.0.rest_fits c.1 in
    let t3 = short_takes is_pattern c.0.1 d.0.0 d.0.1 t2.0.rest_fits d.1 in
    let t12 = Takes-then a.0.1 (mode_number b.0.0 ∷ []) b.0.1 (to_be_bytes w16 c.0.0) c.0.1 t1.0 t2.0 in
    let t02 = Takes-then bytes (short a.0.0) a.0.1 (mode_number b.0.0 ∷ to_be_bytes w16 c.0.0) c.0.1 t0.0 t12 in
    let t03 = Takes-then bytes (short a.0.0 ++ (mode_number b.0.0 ∷ to_be_bytes w16 c.0.0)) c.0.1 (short d.0.0) d.0.1 t02 t3.0 in
    let whole : Entry × List ℕ = (made a.0.0 b.0.0 c.0.0 d.0.0, d.0.1) in
    let lock : IsLock unit user whole.0 =
    record { owned = refl; used = refl; is_handed = refl; named = t0.1; lasting = t1.1; counted = t2.1; countable = t2.2; patterned = t3.1 } in
    subst (λ (y : Entry × List ℕ). Takes bytes (entry_bytes y.0) y.1 × IsLock unit user y.0) (some_is whole x d.2) (t03, lock)

-- an entry whose owner, user and flag are known
same_entry : (unit : UnitKey) (user : List ℕ) (e : Entry) → IsLock unit user e
    → ◌≡◌ {A = Entry} (record { owner = Upd unit; user = user; table = e.table; pattern = e.pattern; mode = e.mode; count = e.count; handed = true }) e
same_entry unit user e lock =
    ap (λ o. record { owner = o; user = user; table = e.table; pattern = e.pattern; mode = e.mode; count = e.count; handed = true }) (sym lock.owned)
    ∙ ap (λ (u : List ℕ). record { owner = e.owner; user = u; table = e.table; pattern = e.pattern; mode = e.mode; count = e.count; handed = true })
    (sym lock.used)
    ∙ ap (λ (h : Bool). record { owner = e.owner; user = e.user; table = e.table; pattern = e.pattern; mode = e.mode; count = e.count; handed = h })
    (sym lock.is_handed)

entry_again : (unit : UnitKey) (user : List ℕ) (e : Entry) (rest : List ℕ) → IsLock unit user e → entry_at unit user (entry_bytes e ++ rest) ≡ Some (e, rest)
unfolding entry_at
entry_again unit user e rest lock =
    let tail : List ℕ = short e.pattern ++ rest in
    let regrouped : entry_bytes e ++ rest ≡ short e.table ++ (mode_number e.mode ∷ (to_be_bytes w16 e.count ++ tail)) =
    append_assoc (short e.table ++ (mode_number e.mode ∷ to_be_bytes w16 e.count)) (short e.pattern) rest
    ∙ append_assoc (short e.table) (mode_number e.mode ∷ to_be_bytes w16 e.count) tail in
    ap (entry_at unit user) regrouped
    ∙ rw (
      short_again is_name e.table (mode_number e.mode ∷ (to_be_bytes w16 e.count ++ tail)) lock.named,
      mode_again e.mode
          (to_be_bytes w16 e.count ++ tail) lock.lasting,
      count_again e.count tail lock.counted lock.countable,
      short_again is_pattern e.pattern rest
          lock.patterned,
    ) (ap (λ (x : Entry). Some (x, rest)) (same_entry unit user e lock))

is_entry : (unit : UnitKey) (user : List ℕ) → IsField (IsLock unit user) entry_bytes (entry_at unit user)
is_entry unit user = record { takes = entry_takes unit user; again = entry_again unit user }

entries_take : (unit : UnitKey) (user : List ℕ) (n : ℕ) (bytes : List ℕ) (x : List Entry × List ℕ) → IsBytes bytes → many (entry_at unit user) n bytes ≡ Some x
    → Takes bytes (flat_map entry_bytes x.0) x.1 × (length x.0 ≡ n) × AllByRecursion (IsLock unit user) x.0
entries_take unit user n bytes x fits e = let t = (is_many (is_entry unit user) n).takes bytes x fits e in (t.0, t.1.0, t.1.1)

entries_again : (unit : UnitKey) (user : List ℕ) (es : List Entry) (rest : List ℕ) → AllByRecursion (IsLock unit user) es
    → many (entry_at unit user) (length es) (flat_map entry_bytes es ++ rest) ≡ Some (es, rest)
entries_again unit user es rest locks = (is_many (is_entry unit user) (length es)).again es rest (refl, locks)

user_of-locks : (unit : UnitKey) (user : List ℕ) (es : List Entry) → 0 < length es → AllByRecursion (IsLock unit user) es → user_of es ≡ user
user_of-locks unit user [] some locks = absurd (omega arith)
user_of-locks unit user (e ∷ es) some locks = locks.0.used

-- ---- payloads

hand_takes : (bytes : List ℕ) (r : Record) → IsBytes bytes → hand_of bytes ≡ Some r → (h : Handed) × (r ≡ Hand h) × (bytes ≡ hand_bytes h) × IsHand h
unfolding hand_of
hand_takes bytes r fits e =
    let made : UnitKey → List Entry → Record = λ unit entries. Hand (record { unit = unit; entries = entries }) in
    let a = bind_some (unit_at bytes)
    (λ unit. short_at is_name unit.1 >>= λ user. number_at w32 user.1 >>= λ n. many (entry_at unit.0 user.0) n.0 n.1 >>= λ entries. cond
    (leb 1 n.0 && eqb (length entries.1) 0) (Some (made unit.0 entries.0)) None) r e in
    let b = bind_some (short_at is_name a.0.1)
    (λ user. number_at w32 user.1 >>= λ n. many (entry_at a.0.0 user.0) n.0 n.1 >>= λ entries. cond (leb 1 n.0 && eqb (length entries.1) 0)
    (Some (made a.0.0 entries.0)) None) r a.2 in
    let c = bind_some (number_at w32 b.0.1)
    (λ n. many (entry_at a.0.0 b.0.0) n.0 n.1 >>= λ entries. cond (leb 1 n.0 && eqb (length entries.1) 0) (Some (made a.0.0 entries.0)) None) r b.2 in
    let d = bind_some (many (entry_at a.0.0 b.0.0) c.0.0 c.0.1) (λ entries. cond (leb 1 c.0.0 && eqb (length entries.1) 0) (Some (made a.0.0 entries.0)) None) r
    c.2 in
    let g = pass_some (leb 1 c.0.0 && eqb (length d.0.1) 0) (made a.0.0 d.0.0) r d.2 in
    let tests = both_true (leb 1 c.0.0) (eqb (length d.0.1) 0) g.0 in
    let t0 = unit_takes bytes a.0.0 a.0.1 fits a.1 in
    let t1 = short_takes is_name a.0.1 b.0.0 b.0.1 t0.0.rest_fits b.1 in
    let t2 = number_takes w32 (2 ^ 32) wide32 b.0.1 c.0.0 c.0.1 t1.0.rest_fits c.1 in
    let t3 = entries_take a.0.0 b.0.0 c.0.0 c.0.1 d.0 t2.0.rest_fits d.1 in
    let unit : UnitKey = a.0.0 in
    let es : List Entry = d.0.0 in
    let nothing : d.0.1 ≡ [] = nil_from_length d.0.1 (eqb-true _ _ tests.1) in
    let some : 0 < length es = omega (arith, leb-true 1 c.0.0 tests.0, t3.1) in
    let user-is : user_of es ≡ b.0.0 = user_of-locks unit b.0.0 es some t3.2 in
    let t01 = Takes-then bytes (unit_bytes unit) a.0.1 (short b.0.0) b.0.1 t0.0 t1.0 in
    let t02 = Takes-then bytes (unit_bytes unit ++ short b.0.0) b.0.1 (to_be_bytes w32 c.0.0) c.0.1 t01 t2.0 in
    let t03 = (Takes-then bytes (unit_bytes unit ++ short b.0.0 ++ to_be_bytes w32 c.0.0) c.0.1 (flat_map entry_bytes es) d.0.1 t02 t3.0).parts in
    let whole : bytes ≡ unit_bytes unit ++ short b.0.0 ++ to_be_bytes w32 c.0.0 ++ flat_map entry_bytes es =
    t03 ∙ ap (λ (l : List ℕ). (unit_bytes unit ++ short b.0.0 ++ to_be_bytes w32 c.0.0 ++ flat_map entry_bytes es) ++ l) nothing
    ∙ append-nil (unit_bytes unit ++ short b.0.0 ++ to_be_bytes w32 c.0.0 ++ flat_map entry_bytes es) in
    let named : bytes ≡ hand_bytes (record { unit = unit; entries = es }) =
    whole ∙ ap (λ (u : List ℕ). unit_bytes unit ++ short u ++ to_be_bytes w32 c.0.0 ++ flat_map entry_bytes es) (sym user-is)
    ∙ ap (λ (k : ℕ). unit_bytes unit ++ short (user_of es) ++ to_be_bytes w32 k ++ flat_map entry_bytes es) (sym t3.1) in (
      record { unit = unit; entries = es },
      sym g.1,
      named,
      record {
        keyed = t0.1;
        used = subst (λ (u : List ℕ). IsTrue (is_name u)) (sym user-is) t1.1;
        some = some;
        few = omega (arith, t3.1, t2.1);
        locks = subst (λ (u : List ℕ). AllByRecursion (IsLock unit u) es) (sym user-is) t3.2;
      },
    )

hand_again : (h : Handed) → IsHand h → hand_of (hand_bytes h) ≡ Some (Hand h)
unfolding hand_of
hand_again h is =
    let es : List Entry = h.entries in
    let user : List ℕ = user_of es in
    let regrouped : hand_bytes h ≡ unit_bytes h.unit ++ (short user ++ (to_be_bytes w32 (length es) ++ flat_map entry_bytes es)) =
    append_assoc (unit_bytes h.unit ++ short user) (to_be_bytes w32 (length es)) (flat_map entry_bytes es)
    ∙ append_assoc (unit_bytes h.unit) (short user) (to_be_bytes w32 (length es) ++ flat_map entry_bytes es) in
    let last : many (entry_at h.unit user) (length es) (flat_map entry_bytes es) ≡ Some (es, []) =
    ap (many (entry_at h.unit user) (length es)) (sym (append-nil (flat_map entry_bytes es))) ∙ entries_again h.unit user es [] is.locks in
    ap hand_of regrouped
    ∙ rw (
      unit_again h.unit (short user ++ (to_be_bytes w32 (length es) ++ flat_map entry_bytes es)) is.keyed,
      short_again is_name user
          (to_be_bytes w32 (length es) ++ flat_map entry_bytes es) is.used,
      number_again w32 (2 ^ 32) wide32 (length es)
          (flat_map entry_bytes es) is.few,
      last,
      le-leb 1 (length es) is.some,
    ) refl

free_takes : (bytes : List ℕ) (r : Record) → IsBytes bytes → free_of bytes ≡ Some r → (u : UnitKey) × (r ≡ Free u) × (bytes ≡ unit_bytes u) × IsUnit u
unfolding free_of
free_takes bytes r fits e =
    let a = bind_some (unit_at bytes) (λ unit. cond (eqb (length unit.1) 0) (Some (Free unit.0)) None) r e in
    let g = pass_some (eqb (length a.0.1) 0) (Free a.0.0) r a.2 in
    let t = unit_takes bytes a.0.0 a.0.1 fits a.1 in
    let nothing : a.0.1 ≡ [] = nil_from_length a.0.1 (eqb-true _ _ g.0) in
    (a.0.0, sym g.1, t.0.parts ∙ ap (λ (l : List ℕ). unit_bytes a.0.0 ++ l) nothing ∙ append-nil (unit_bytes a.0.0), t.1)

free_again : (u : UnitKey) → IsUnit u → free_of (unit_bytes u) ≡ Some (Free u)
unfolding free_of
free_again u is =
    ap free_of (sym (append-nil (unit_bytes u))) ∙ rw (unit_again u [] is) refl

payload_takes : (kind : ℕ) (bytes : List ℕ) (r : Record) → IsBytes bytes → payload_of kind bytes ≡ Some r → (kind ≡ kind_byte r) × (bytes ≡ payload r)
    × HasPayload r
unfolding payload_of
payload_takes kind bytes r fits e =
    let Q : Record → Type 0 = λ s. (kind ≡ kind_byte s) × (bytes ≡ payload s) × HasPayload s in
    elim (chosen (eqb kind 1) (hand_of bytes) (cond (eqb kind 2) (free_of bytes) None) (Some r) e) [
      | inl h ↦ (let t = hand_takes bytes r fits h.1 in subst Q (sym t.1) (eqb-true kind 1 h.0, t.2, t.3))
      | inr h ↦ elim (chosen (eqb kind 2) (free_of bytes) None (Some r) h.1) [
        | inl k ↦ (let t = free_takes bytes r fits k.1 in subst Q (sym t.1) (eqb-true kind 2 k.0, t.2, t.3))
        | inr k ↦ absurd (none_is r k.1)
      ]
    ]

payload_again : (r : Record) → HasPayload r → payload_of (kind_byte r) (payload r) ≡ Some r
unfolding payload_of
payload_again (Hand h) is = hand_again h is
payload_again (Free u) is = free_again u is

-- ---- records

pub record_takes : (bytes : List ℕ) (r : Record) (rest : List ℕ) → IsBytes bytes → record_at bytes ≡ Some (r, rest) → Takes bytes (spelling r) rest × IsRecord r
unfolding record_at
record_takes [] r rest fits e = absurd cc
record_takes (kind ∷ more) r rest fits e =
    let a = bind_some (number_at w32 more) (λ n. cond (ltb (length n.1) n.0) None (payload_of kind (take n.0 n.1) >>= λ s. Some (s, drop n.0 n.1)))
    (r, rest) e in
    let len : ℕ = a.0.0 in
    let body : List ℕ = a.0.1 in
    let t0 = number_takes w32 (2 ^ 32) wide32 more len body (IsBytes-rest kind more fits) a.1 in
    elim (chosen (ltb (length body) len) None (payload_of kind (take len body) >>= λ s. Some (s, drop len body)) (Some (r, rest)) a.2) [
      | inl h ↦ absurd (none_is (r, rest) h.1)
      | inr h ↦ (
          let b = bind_some (payload_of kind (take len body)) (λ s. Some (s, drop len body)) (r, rest) h.1 in
          let long : len ≤ length body = ltb-false _ _ h.0 in
          let p = payload_takes kind (take len body) b.0 (IsBytes-take len body t0.0.rest_fits) b.1 in
          let size : length (payload b.0) ≡ len = ap (λ (l : List ℕ). length l) (sym p.1) ∙ omega (arith, length-take len body) in
          let parts : kind ∷ more ≡ spelling b.0 ++ drop len body =
          ap (λ (l : List ℕ). kind ∷ l)
          (t0.0.parts ∙ ap (λ (l : List ℕ). to_be_bytes w32 len ++ l) (sym (take-append-drop len body))
          ∙ sym (append_assoc (to_be_bytes w32 len) (take len body) (drop len body)))
          ∙ ap (λ (k : ℕ). k ∷ ((to_be_bytes w32 len ++ take len body) ++ drop len body)) p.0
          ∙ ap (λ (l : List ℕ). kind_byte b.0 ∷ ((to_be_bytes w32 len ++ l) ++ drop len body)) p.1
          ∙ ap (λ (k : ℕ). kind_byte b.0 ∷ ((to_be_bytes w32 k ++ payload b.0) ++ drop len body)) (sym size) in
          subst (λ (q : Record × List ℕ). Takes (kind ∷ more) (spelling q.0) q.1 × IsRecord q.0) (some_is (b.0, drop len body) (r, rest) b.2)
          (record { parts = parts; rest_fits = IsBytes-drop len body t0.0.rest_fits }, record { held = p.2; fits = omega (arith, size, t0.1) }))
    ]

pub record_again : (r : Record) (rest : List ℕ) → IsRecord r → record_at (spelling r ++ rest) ≡ Some (r, rest)
unfolding record_at
record_again r rest is =
    let body : List ℕ = payload r in
    let regrouped : spelling r ++ rest ≡ kind_byte r ∷ (to_be_bytes w32 (length body) ++ (body ++ rest)) =
    ap (λ (l : List ℕ). kind_byte r ∷ l) (append_assoc (to_be_bytes w32 (length body)) body rest) in
    let long : ltb (length (body ++ rest)) (length body) ≡ false = le-ltb _ _ (omega (arith, length-append body rest)) in
    ap record_at regrouped
    ∙ rw (
      number_again w32 (2 ^ 32) wide32 (length body) (body ++ rest) is.fits,
      long,
      take_at body rest (length body) refl,
      drop_at body rest
          (length body) refl,
      payload_again r is.held,
    ) refl
