-- What the bytes of a file of either version are read as.
use Rattle.std.proofs.Common.{◌≡◌, ◌≢◌, ℕ, ◌+◌, ◌-◌, ◌<◌, ◌≤◌, Bool, true, false, not, cond, List, [], ◌∷◌, ◌++◌, length, map, take, drop, refl, sym, ap, subst}
use Rattle.std.proofs.Common.{◌∙◌, append_assoc, arith, inl, inr, length-append}
use Rattle.std.specs.List.{flat_map, fold}
use Rattle.std.proofs.lemmas.List.{take-append-drop, length-take, append-nil}
use Rattle.std.proofs.lemmas.List.Concat.{flat_map-cons}
use Rattle.enq_base.specs.Owners.{same_unit}
use Rattle.enq_base.specs.declared.owner.UnitKey.{UnitKey}
use Rattle.gate_log.specs.Gates.{IsShut}
use Rattle.gate_log.specs.Logs as logs
use Rattle.backup_file.specs.declared.handed.Handed.{Handed}
use Rattle.backup_file.specs.declared.handed.Record.{Record}
use Rattle.backup_file.specs.declared.handed.Record.TheVariants.{Hand, Free}
use Rattle.backup_file.specs.declared.places.Place.{Place}
use Rattle.backup_file.specs.declared.places.Slots.{Slots}
use Rattle.backup_file.specs.File.{BreaksBehind, HasSlots, IsBad, IsLong, compact, front_grammar, grammar_of, log_grammar, name}
use Rattle.backup_file.specs.Lists.{after, lists_behind, without}
use Rattle.backup_file.specs.ReadLogs.{AreBehindGate, IsEnd, IsReadAll, IsReadBehind, IsReadFirst, IsReadSoFar}
use Rattle.backup_file.specs.Reading.{record_at}
use Rattle.backup_file.specs.Slots.{IsInForce, slot_in, slots_head}
use Rattle.backup_file.proofs.Compacts.{hands_spelled}
use Rattle.backup_file.proofs.lemmas.Counts.{compact_count}
use Rattle.backup_file.proofs.lemmas.Meaning.{head_size, same_parts}
use Rattle.backup_file.proofs.lemmas.Records.{record_again}

-- the same records lead a log with a name so far
leads_named : (first : List ℕ) (most : ℕ) (rs : List Record) (s t : List Handed) → logs.Leads (grammar_of [] most) s rs t
    → logs.Leads (grammar_of first most) s rs t
leads_named first most [] s t leads = leads
leads_named first most (r ∷ rs) s t leads = (leads.0, leads.1, leads_named first most rs (after s r) t leads.2)

-- the name changes no record's spelling
spelled_alike : (first : List ℕ) (most : ℕ) (rs : List Record) → flat_map (logs.opened log_grammar) rs ≡ flat_map (logs.opened (grammar_of first most)) rs
spelled_alike first most [] = refl
spelled_alike first most (r ∷ rs) =
    flat_map-cons (logs.opened log_grammar) r rs
    ∙ ap (λ (b : List ℕ). logs.opened log_grammar r ++ b) (spelled_alike first most rs)
    ∙ sym (flat_map-cons (logs.opened (grammar_of first most)) r rs)

pub front_named : (name : List ℕ) (most : ℕ) (bytes rest : List ℕ) (records : List Record) → (so_far : IsReadSoFar most bytes rest records)
    → logs.IsFront (grammar_of name most) (name ++ so_far.front) (lists_behind records)
front_named name most bytes rest records so_far = record {
  records = records;
  spelled = ap (λ (b : List ℕ). name ++ b) (so_far.spelled ∙ spelled_alike name most records);
  leads = leads_named name most records [] (lists_behind records) so_far.leads;
}

-- a closed gate stands there
pub shut_here : (rest : List ℕ) → 0 < length rest → ((behind : List ℕ) → rest ≡ 1 ∷ behind → ⊥) → IsShut [] rest
shut_here [] some shut = absurd (omega (arith, some))
shut_here (gate ∷ more) some shut = record { byte = gate; rest = more; whole = refl; closed = λ e. shut more (ap (λ (b : ℕ). b ∷ more) e) }

-- what ends a log that no record goes on
ends_badly : (g_name : List ℕ) (most : ℕ) (bytes rest : List ℕ) (records : List Record) → IsReadAll most bytes rest records → IsEnd false rest
    → logs.EndsBadly (grammar_of g_name most) (lists_behind records) rest
ends_badly g_name most bytes rest records all (inl none) = subst (logs.EndsBadly (grammar_of g_name most) (lists_behind records)) (sym none) tt
ends_badly g_name most bytes rest records all (inr (behind, open_gate)) =
    subst (logs.EndsBadly (grammar_of g_name most) (lists_behind records)) (sym open_gate)
    (refl, λ r more is legal same. all.ends behind open_gate r more (ap record_at same ∙ record_again r more is) legal)

-- ---- the front log

module _ (bytes rest : List ℕ) (records : List Record) (named : take 8 bytes ≡ name) (all : IsReadAll 150 (drop 8 bytes) rest records) where
  front_whole : bytes ≡ (name ++ all.so_far.front) ++ rest
  front_whole =
      sym (take-append-drop 8 bytes) ∙ ap (λ (l : List ℕ). l ++ drop 8 bytes) named ∙ ap (λ (l : List ℕ). name ++ l) all.so_far.whole
      ∙ sym (append_assoc name all.so_far.front rest)

  is_front : logs.IsFront front_grammar (name ++ all.so_far.front) (lists_behind records)
  is_front = front_named name 150 (drop 8 bytes) rest records all.so_far

  front_size : length (name ++ all.so_far.front) ≡ length bytes - length rest
  front_size = omega (arith, ap (λ (b : List ℕ). length b) front_whole, length-append (name ++ all.so_far.front) rest)

  pub read_first : IsEnd true rest → IsReadFirst bytes (length bytes - length rest) (lists_behind records)
  read_first shut = record {
    front = name ++ all.so_far.front;
    is_front = is_front;
    shut = record {
      byte = shut.byte;
      rest = shut.rest;
      whole = front_whole ∙ ap (λ (l : List ℕ). (name ++ all.so_far.front) ++ l) shut.whole;
      closed = shut.closed;
    };
    place = front_size;
  }

  pub slots_there : (s : Slots) → AreBehindGate rest s → HasSlots bytes (length bytes - length rest) s
  slots_there s there =
      let at = there.2 in
      let front : List ℕ = name ++ all.so_far.front in
      record {
        head = front ++ 1 ∷ (slots_head ++ (at.one ++ at.two));
        rest = at.rest;
        whole = front_whole ∙ ap (λ (l : List ℕ). front ++ l) (there.1 ∙ ap (λ (l : List ℕ). 1 ∷ l) at.parts)
            ∙ ap (λ (l : List ℕ). front ++ 1 ∷ (slots_head ++ l)) (sym (append_assoc at.one at.two at.rest))
            ∙ sym (append_assoc front (1 ∷ (slots_head ++ (at.one ++ at.two))) at.rest);
        slotted = record {
          front = front;
          lists = lists_behind records;
          is_front = is_front;
          place = front_size;
          one = at.one;
          two = at.two;
          spelled = refl;
          first = at.first;
          second = at.second;
        };
      }

  pub room_there : (s : Slots) → AreBehindGate rest s → (length bytes - length rest) + 40 ≤ length bytes
  room_there s there =
      let has = slots_there s there in
      omega (
        arith,
        ap (λ (b : List ℕ). length b) has.whole,
        length-append has.head has.rest,
        head_size (length bytes - length rest) s has.head has.slotted,
      )

  -- slots in the file would stand just there
  slots_back : (s : Slots) → HasSlots bytes (length bytes - length rest) s → AreBehindGate rest s
  slots_back s has =
      let sl = has.slotted in
      let tail : List ℕ = slots_head ++ ((sl.one ++ sl.two) ++ has.rest) in
      let whole : bytes ≡ sl.front ++ 1 ∷ tail =
      has.whole ∙ ap (λ (l : List ℕ). l ++ has.rest) sl.spelled ∙ append_assoc sl.front (1 ∷ (slots_head ++ (sl.one ++ sl.two))) has.rest in
      let parts = same_parts (name ++ all.so_far.front) sl.front rest (1 ∷ tail) (sym front_whole ∙ whole) (front_size ∙ sym sl.place) in (
        tail,
        parts.1,
        record {
          one = sl.one;
          two = sl.two;
          rest = has.rest;
          parts = ap (λ (l : List ℕ). slots_head ++ l) (append_assoc sl.one sl.two has.rest);
          first = sl.first;
          second = sl.second;
        },
      )

  pub front_bad : IsLong bytes → IsEnd false rest → ((s : Slots) → AreBehindGate rest s → ⊥) → IsBad bytes (length bytes - length rest)
  front_bad long ends none = inl (
    record {
      long = long;
      broken = inr
          (record {
            front = name ++ all.so_far.front;
            state = lists_behind records;
            rest = rest;
            whole = front_whole;
            place = front_size;
            is_front = is_front;
            ends = ends_badly name 150 (drop 8 bytes) rest records all ends;
          });
    },
    λ s has. none s (slots_back s has),
  )

-- ---- logs of hands alone

fewer : (u : UnitKey) (l : List Handed) → length (without u l) ≤ length l
fewer u [] = (let none : 0 ≤ 0 = omega arith in none)
fewer u (h ∷ l) =
    let gone : length (without u l) ≤ length (h ∷ l) = omega (arith, fewer u l) in
    let left : length (h ∷ without u l) ≤ length (h ∷ l) = omega (arith, fewer u l) in
    elim (same_unit h.unit u) as (λ b. length (cond (not b) (h ∷ without u l) (without u l)) ≤ length (h ∷ l)) [ true ↦ gone | false ↦ left ]

all_stay : (u : UnitKey) (l : List Handed) → length (without u l) ≡ length l → without u l ≡ l
all_stay u [] same = refl
all_stay u (h ∷ l) same =
    let none : length (without u l) ≡ length (h ∷ l) → without u l ≡ h ∷ l = λ e. absurd (omega (arith, fewer u l, e)) in
    let some : length (h ∷ without u l) ≡ length (h ∷ l) → h ∷ without u l ≡ h ∷ l = λ e.
    ap (λ (r : List Handed). h ∷ r) (all_stay u l (omega (arith, e))) in
    elim (same_unit h.unit u) as (λ b. length (cond (not b) (h ∷ without u l) (without u l)) ≡ length (h ∷ l)
    → cond (not b) (h ∷ without u l) (without u l) ≡ h ∷ l) [ true ↦ none | false ↦ some ] same

no_more : (l : List Handed) (r : Record) → length (after l r) ≤ length l + 1
no_more l (Hand h) =
    let more : length (without h.unit l ++ h ∷ []) ≤ length l + 1 = omega (arith, length-append (without h.unit l) (h ∷ []), fewer h.unit l) in more
no_more l (Free u) = let more : length (without u l) ≤ length l + 1 = omega (arith, fewer u l) in more

few : (rs : List Record) (l : List Handed) → length (fold after l rs) ≤ length l + length rs
few [] l = let all : length l ≤ length l + 0 = omega arith in all
few (r ∷ rs) l = let all : length (fold after (after l r) rs) ≤ length l + length (r ∷ rs) = omega (arith, few rs (after l r), no_more l r) in all

-- where as many lists stand as there are records, each is a hand of one of them
pub all_hands : (rs : List Record) (l : List Handed) → length (fold after l rs) ≡ length l + length rs → (hs : List Handed) × (rs ≡ map Hand hs)
    × (fold after l rs ≡ l ++ hs)
all_hands [] l full = ([], refl, sym (append-nil l))
all_hands (Free u ∷ rs) l full =
    let all : length (fold after (without u l) rs) ≡ length l + length (Free u ∷ rs) = full in
    absurd (omega (arith, all, few rs (without u l), fewer u l))
all_hands (Hand h ∷ rs) l full =
    let next : List Handed = without h.unit l ++ h ∷ [] in
    let size : length next ≡ length (without h.unit l) + 1 = omega (arith, length-append (without h.unit l) (h ∷ [])) in
    let all : length (fold after next rs) ≡ length l + length (Hand h ∷ rs) = full in
    let stay : without h.unit l ≡ l = all_stay h.unit l (omega (arith, all, few rs next, size, fewer h.unit l)) in
    let rest = all_hands rs next (omega (arith, all, size, ap (λ (k : List Handed). length k) stay)) in (
      h ∷ rest.0,
      ap (λ (k : List Record). Hand h ∷ k) rest.1,
      rest.2 ∙ ap (λ (k : List Handed). (k ++ h ∷ []) ++ rest.0) stay ∙ append_assoc l (h ∷ []) rest.0,
    )

pub compact_read : (records : List Record) → length (lists_behind records) ≡ length records
    → flat_map (logs.opened log_grammar) records ≡ compact (lists_behind records)
compact_read records full =
    let none : List Handed = [] in
    let counted : length (fold after none records) ≡ length none + length records = omega (arith, full) in
    let all = all_hands records none counted in
    ap (λ (rs : List Record). flat_map (logs.opened log_grammar) rs) all.1 ∙ hands_spelled all.0 ∙ sym (ap (λ (l : List Handed). compact l) all.2)

-- ---- the log in force

module _ (bytes : List ℕ) (p : Place) (start : ℕ) (has : HasSlots bytes p.gate p.slots) (force : IsInForce p.slots p.which)
    (named : start ≡ (slot_in p.slots p.which).start) (from : p.gate + 40 ≤ start) (within : start < length bytes)
    (rest : List ℕ) (records : List Record) (all : IsReadAll 255 (drop start bytes) rest records) where
  abbrev gap : List ℕ
  gap = take (start - (p.gate + 40)) has.rest

  sized : length has.head ≡ p.gate + 40
  sized = head_size p.gate p.slots has.head has.slotted

  behind_size : length bytes ≡ p.gate + 40 + length has.rest
  behind_size = omega (arith, ap (λ (b : List ℕ). length b) has.whole, length-append has.head has.rest, sized)

  gap_size : p.gate + 40 + length gap ≡ start
  gap_size = omega (arith, length-take (start - (p.gate + 40)) has.rest, behind_size, from, within)

  whole : bytes ≡ (has.head ++ gap) ++ drop (start - (p.gate + 40)) has.rest
  whole = has.whole ∙ ap (λ (l : List ℕ). has.head ++ l) (sym (take-append-drop (start - (p.gate + 40)) has.rest))
      ∙ sym (append_assoc has.head gap (drop (start - (p.gate + 40)) has.rest))

  log_whole : bytes ≡ (has.head ++ gap) ++ drop start bytes
  log_whole =
      let size : length (has.head ++ gap) ≡ start = omega (arith, length-append has.head gap, sized, gap_size) in
      let begins = same_parts (take start bytes) (has.head ++ gap) (drop start bytes) (drop (start - (p.gate + 40)) has.rest)
      (take-append-drop start bytes ∙ whole) (omega (arith, length-take start bytes, within, size)) in
      whole ∙ ap (λ (l : List ℕ). (has.head ++ gap) ++ l) (sym begins.1)

  log_parts : bytes ≡ (has.head ++ (gap ++ all.so_far.front)) ++ rest
  log_parts =
      log_whole ∙ ap (λ (l : List ℕ). (has.head ++ gap) ++ l) all.so_far.whole
      ∙ sym (append_assoc (has.head ++ gap) all.so_far.front rest)
      ∙ ap (λ (l : List ℕ). l ++ rest) (append_assoc has.head gap all.so_far.front)

  log_size : length (has.head ++ (gap ++ all.so_far.front)) ≡ length bytes - length rest
  log_size = omega (arith, ap (λ (b : List ℕ). length b) log_parts, length-append (has.head ++ (gap ++ all.so_far.front)) rest)

  pub read_behind : (lists : List Handed) (is_compact : Bool) → lists ≡ lists_behind records
      → (is_compact ≡ true → length lists ≡ length records) → (is_compact ≡ false → length lists ≢ length records) → IsEnd true rest
      → IsReadBehind p bytes (length bytes - length rest) is_compact lists
  read_behind lists is_compact are counted uncounted shut =
      subst (IsReadBehind p bytes (length bytes - length rest) is_compact) (sym are)
      (record {
        front = has.head ++ (gap ++ all.so_far.front);
        is_front = record {
          head = has.head;
          gap = gap;
          log = all.so_far.front;
          parts = refl;
          slotted = has.slotted;
          force = force;
          starts = gap_size ∙ named;
          is_log = front_named [] 255 (drop start bytes) rest records all.so_far;
        };
        shut = record {
          byte = shut.byte;
          rest = shut.rest;
          whole = log_parts ∙ ap (λ (l : List ℕ). (has.head ++ (gap ++ all.so_far.front)) ++ l) shut.whole;
          closed = shut.closed;
        };
        place = log_size;
        compact = λ told. all.so_far.spelled ∙ compact_read records (ap (λ (l : List Handed). length l) (sym are) ∙ counted told);
        loose = λ off is. uncounted off
            (ap (λ (l : List Handed). length l) are
            ∙ sym (compact_count bytes (lists_behind records) is p.gate p.slots p.which has force start named rest records all.so_far shut));
      })

  pub log_bad : IsEnd false rest → IsBad bytes (length bytes - length rest)
  log_bad ends = inr
      (record {
        gate = p.gate;
        slots = p.slots;
        has = has;
        ends = inr (
          p.which,
          force,
          inr
              (subst (λ n. BreaksBehind bytes p.gate n (length bytes - length rest)) named
              (record {
                from = from;
                within = within;
                into = length all.so_far.front;
                breaks = record {
                  front = all.so_far.front;
                  state = lists_behind records;
                  rest = rest;
                  whole = all.so_far.whole;
                  place = refl;
                  is_front = front_named [] 255 (drop start bytes) rest records all.so_far;
                  ends = ends_badly [] 255 (drop start bytes) rest records all ends;
                };
                place = omega (
                  arith,
                  log_size,
                  length-append has.head (gap ++ all.so_far.front),
                  length-append gap all.so_far.front,
                  sized,
                  gap_size,
                );
              })),
        );
      })
