-- What the first and the last step of a compaction leave: a log beside the one in force, and a file that is cut.
use Rattle.std.proofs.Common.{◌≡◌, ℕ, ◌+◌, ◌-◌, ◌≤◌, List, [], ◌∷◌, ◌++◌, length, take, drop, refl, sym, ap, subst, ◌∙◌, append_assoc, arith, inl, inr, length-append}
use Rattle.std.proofs.lemmas.List.{take-append-drop, length-take}
use Rattle.bk_disk.specs.Disk.{written, resized, Torn, Cut, FitsDisk, Follows, Only}
use Rattle.gate_log.specs.Gates.{IsAtRest}
use Rattle.gate_log.specs.Logs as logs
use Rattle.gate_log.proofs.Parts.{cut_behind, resized_at, torn_behind, torn_inside, written_behind, written_inside}
use Rattle.backup_file.specs.Compacting.{HasBoth, HasLog, IsFree, IsLaid, IsRewritten, NamesLog}
use Rattle.backup_file.specs.declared.handed.Handed.{Handed}
use Rattle.backup_file.specs.declared.places.Place.{Place}
use Rattle.backup_file.specs.Slots.{IsInForce, slot_in}
use Rattle.backup_file.specs.File.{IsFrontAt, Stands, compact, log_grammar}
use Rattle.backup_file.proofs.Compacted.{from_only}
use Rattle.backup_file.proofs.lemmas.Meaning.{head_size}
use Rattle.backup_file.proofs.lemmas.Slotted.{laid_stands}

module _ (p : Place) (gate : ℕ) (front : List ℕ) (l : List Handed) (bytes : List ℕ) (images : List ℕ → Type 0) (f : IsFrontAt p front l)
    (r : IsAtRest bytes images gate front) where
  abbrev tail : List ℕ
  tail = r.byte ∷ r.more

  sized : length f.head ≡ p.gate + 40
  sized = head_size p.gate p.slots f.head f.slotted

  front_size : gate ≡ p.gate + 40 + length f.gap + length f.log
  front_size = omega (
    arith,
    r.place,
    ap (λ (b : List ℕ). length b) f.parts,
    length-append f.head (f.gap ++ f.log),
    length-append f.gap f.log,
    sized,
  )

  all_parts : bytes ≡ f.head ++ (f.gap ++ (f.log ++ tail))
  all_parts = r.whole ∙ ap (λ (b : List ℕ). b ++ tail) f.parts ∙ append_assoc f.head (f.gap ++ f.log) tail
      ∙ ap (λ (b : List ℕ). f.head ++ b) (append_assoc f.gap f.log tail)

  -- the log in force, behind as many bytes and with anything behind its closed gate
  still_has : (gap more : List ℕ) → length gap ≡ length f.gap → HasLog (gap ++ (f.log ++ r.byte ∷ more)) (length f.gap) f.log l
  still_has gap more same = record { before = gap; byte = r.byte; more = more; parts = refl; sized = same; is_log = f.is_log; closed = r.closed }

  stands_with : (gap more c : List ℕ) → length gap ≡ length f.gap → c ≡ f.head ++ (gap ++ (f.log ++ r.byte ∷ more)) → Stands c l
  stands_with gap more c same whole =
      inr (laid_stands p.gate p.slots p.which f.head (gap ++ (f.log ++ r.byte ∷ more)) f.log c (length f.gap) l f.slotted f.force f.starts
      (still_has gap more same) whole)

  names_with : (gap more : List ℕ) → length gap ≡ length f.gap → NamesLog p (gap ++ (f.log ++ r.byte ∷ more)) l
  names_with gap more same = record { force = f.force; log = f.log; offset = length f.gap; has = still_has gap more same; starts = f.starts }

  -- ---- right behind the slots

  module _ (size : ℕ) (fits : p.gate + 40 + size ≤ (slot_in p.slots p.which).start) where
    abbrev first : List ℕ
    first = take size f.gap

    abbrev second : List ℕ
    second = drop size f.gap

    room : size ≤ length f.gap
    room = omega (arith, fits, f.starts)

    first_size : length first ≡ size
    first_size = omega (arith, length-take size f.gap, room)

    gap_parts : f.gap ≡ first ++ second
    gap_parts = sym (take-append-drop size f.gap)

    gap_size : (k : List ℕ) → length k ≡ size → length (k ++ second) ≡ length f.gap
    gap_size k same =
        omega (
          arith,
          length-append k second,
          length-append first second,
          ap (λ (b : List ℕ). length b) gap_parts,
          first_size,
          same,
        )

    cut_parts : bytes ≡ f.head ++ (first ++ (second ++ (f.log ++ tail)))
    cut_parts = all_parts ∙ ap (λ (b : List ℕ). f.head ++ (b ++ (f.log ++ tail))) gap_parts
        ∙ ap (λ (b : List ℕ). f.head ++ b) (append_assoc first second (f.log ++ tail))

    within_torn : (c : List ℕ) → Torn (p.gate + 40) size bytes c → Stands c l
    within_torn c torn =
        let t = torn_inside f.head first (second ++ (f.log ++ tail)) bytes cut_parts (p.gate + 40) size sized first_size c torn in
        stands_with (t.0 ++ second) r.more c (gap_size t.0 t.2)
        (t.1 ∙ ap (λ (b : List ℕ). f.head ++ b) (sym (append_assoc t.0 second (f.log ++ tail))))

    within_written : (text new : List ℕ) (left : List ℕ → Type 0) → length text ≡ size → text ≡ compact l ++ 0 ∷ [] → logs.IsFront log_grammar (compact l) l
        → new ≡ written bytes (p.gate + 40) text → Only new left → HasBoth p (p.gate + 40) l new left
    within_written text new left same spelled leads is only =
        let whole : new ≡ f.head ++ (text ++ (second ++ (f.log ++ tail))) =
        is ∙ written_inside f.head first (second ++ (f.log ++ tail)) bytes cut_parts (p.gate + 40) size sized first_size text same in
        record {
          rest = (text ++ second) ++ (f.log ++ tail);
          laid = record {
            head = f.head;
            whole = whole ∙ ap (λ (b : List ℕ). f.head ++ b) (sym (append_assoc text second (f.log ++ tail)));
            slotted = f.slotted;
            durable = only;
          };
          names = names_with (text ++ second) r.more (gap_size text same);
          offset = 0;
          has = record {
            before = [];
            byte = 0;
            more = second ++ (f.log ++ tail);
            parts = append_assoc text second (f.log ++ tail) ∙ ap (λ (b : List ℕ). b ++ (second ++ (f.log ++ tail))) spelled
                ∙ append_assoc (compact l) (0 ∷ []) (second ++ (f.log ++ tail));
            sized = refl;
            is_log = leads;
            closed = λ e. cc;
          };
          starts = omega arith;
        }

  -- ---- behind the closed gate

  gate_front : bytes ≡ (f.head ++ (f.gap ++ (f.log ++ r.byte ∷ []))) ++ r.more
  gate_front =
      all_parts ∙ ap (λ (b : List ℕ). f.head ++ (f.gap ++ b)) (sym (append_assoc f.log (r.byte ∷ []) r.more))
      ∙ ap (λ (b : List ℕ). f.head ++ b) (sym (append_assoc f.gap (f.log ++ r.byte ∷ []) r.more))
      ∙ sym (append_assoc f.head (f.gap ++ (f.log ++ r.byte ∷ [])) r.more)

  gate_place : length (f.head ++ (f.gap ++ (f.log ++ r.byte ∷ []))) ≡ gate + 1
  gate_place = omega (
    arith,
    length-append f.head (f.gap ++ (f.log ++ r.byte ∷ [])),
    length-append f.gap (f.log ++ r.byte ∷ []),
    length-append f.log (r.byte ∷ []),
    sized,
    front_size,
  )

  regrouped : (more : List ℕ) → (f.head ++ (f.gap ++ (f.log ++ r.byte ∷ []))) ++ more ≡ f.head ++ (f.gap ++ (f.log ++ r.byte ∷ more))
  regrouped more =
      append_assoc f.head (f.gap ++ (f.log ++ r.byte ∷ [])) more
      ∙ ap (λ (b : List ℕ). f.head ++ b) (append_assoc f.gap (f.log ++ r.byte ∷ []) more)
      ∙ ap (λ (b : List ℕ). f.head ++ (f.gap ++ b)) (append_assoc f.log (r.byte ∷ []) more)

  behind_torn : (size : ℕ) (c : List ℕ) → Torn (gate + 1) size bytes c → Stands c l
  behind_torn size c torn =
      stands_with f.gap (drop (gate + 1) c) c refl
      (torn_behind (f.head ++ (f.gap ++ (f.log ++ r.byte ∷ []))) r.more bytes gate_front (gate + 1) gate_place size c torn ∙ regrouped (drop (gate + 1) c))

  behind_written : (text new : List ℕ) (left : List ℕ → Type 0) → text ≡ compact l ++ 0 ∷ [] → logs.IsFront log_grammar (compact l) l
      → new ≡ written bytes (gate + 1) text → Only new left → HasBoth p (gate + 1) l new left
  behind_written text new left spelled leads is only =
      let more : List ℕ = drop (gate + 1 + length text) bytes in
      let whole : new ≡ f.head ++ (f.gap ++ (f.log ++ r.byte ∷ (text ++ more))) =
      is ∙ written_behind (f.head ++ (f.gap ++ (f.log ++ r.byte ∷ []))) r.more bytes gate_front (gate + 1) gate_place text ∙ regrouped (text ++ more) in
      record {
        rest = f.gap ++ (f.log ++ r.byte ∷ (text ++ more));
        laid = record { head = f.head; whole = whole; slotted = f.slotted; durable = only };
        names = names_with f.gap (text ++ more) refl;
        offset = length f.gap + length f.log + 1;
        has = record {
          before = f.gap ++ (f.log ++ r.byte ∷ []);
          byte = 0;
          more = more;
          parts = ap (λ (b : List ℕ). f.gap ++ (f.log ++ r.byte ∷ (b ++ more))) spelled
              ∙ ap (λ (b : List ℕ). f.gap ++ (f.log ++ r.byte ∷ b)) (append_assoc (compact l) (0 ∷ []) more)
              ∙ ap (λ (b : List ℕ). f.gap ++ b) (sym (append_assoc f.log (r.byte ∷ []) (compact l ++ 0 ∷ more)))
              ∙ sym (append_assoc f.gap (f.log ++ r.byte ∷ []) (compact l ++ 0 ∷ more));
          sized = omega (arith, length-append f.gap (f.log ++ r.byte ∷ []), length-append f.log (r.byte ∷ []));
          is_log = leads;
          closed = λ e. cc;
        };
        starts = omega (arith, front_size);
      }

  -- ---- either

  pub laying_left : (at size : ℕ) → IsFree p gate at size → (now : List ℕ → Type 0) → Follows (Torn at size) images now → (c : List ℕ) → now c → Stands c l
  laying_left at size (inl free) now follows c left =
      within_torn size (omega (arith, free.0, free.1)) c
      (subst (λ n. Torn n size bytes c) free.0 (from_only (Torn at size) bytes images now r.durable follows c left))
  laying_left at size (inr behind) now follows c left =
      behind_torn size c (subst (λ n. Torn n size bytes c) behind (from_only (Torn at size) bytes images now r.durable follows c left))

  pub laid_both : (at : ℕ) (text new : List ℕ) (left : List ℕ → Type 0) → IsFree p gate at (length text) → text ≡ compact l ++ 0 ∷ []
      → logs.IsFront log_grammar (compact l) l → new ≡ written bytes at text → Only new left → HasBoth p at l new left
  laid_both at text new left (inl free) spelled leads is only =
      subst (λ n. HasBoth p n l new left) (sym free.0)
      (within_written (length text) (omega (arith, free.0, free.1)) text new left refl spelled leads
      (subst (λ n. new ≡ written bytes n text) free.0 is) only)
  laid_both at text new left (inr behind) spelled leads is only =
      subst (λ n. HasBoth p n l new left) (sym behind)
      (behind_written text new left spelled leads (subst (λ n. new ≡ written bytes n text) behind is) only)

-- ---- the cut

module _ (p : Place) (rest : List ℕ) (l : List Handed) (offset : ℕ) (bytes : List ℕ) (images : List ℕ → Type 0) (laid : IsLaid p.gate p.slots rest bytes images)
    (force : IsInForce p.slots p.which) (has : HasLog rest offset (compact l) l) (starts : p.gate + 40 + offset ≡ (slot_in p.slots p.which).start)
    (end : ℕ) (ends : end ≡ p.gate + 40 + offset + length (compact l) + 1) where
  abbrev kept : List ℕ
  kept = laid.head ++ (has.before ++ (compact l ++ has.byte ∷ []))

  kept_parts : bytes ≡ kept ++ has.more
  kept_parts =
      laid.whole ∙ ap (λ (b : List ℕ). laid.head ++ b) has.parts
      ∙ ap (λ (b : List ℕ). laid.head ++ (has.before ++ b)) (sym (append_assoc (compact l) (has.byte ∷ []) has.more))
      ∙ ap (λ (b : List ℕ). laid.head ++ b) (sym (append_assoc has.before (compact l ++ has.byte ∷ []) has.more))
      ∙ sym (append_assoc laid.head (has.before ++ (compact l ++ has.byte ∷ [])) has.more)

  kept_size : length kept ≡ end
  kept_size = omega (
    arith,
    length-append laid.head (has.before ++ (compact l ++ has.byte ∷ [])),
    length-append has.before (compact l ++ has.byte ∷ []),
    length-append (compact l) (has.byte ∷ []),
    head_size p.gate p.slots laid.head laid.slotted,
    has.sized,
    ends,
  )

  behind_kept : (more : List ℕ) → kept ++ more ≡ laid.head ++ (has.before ++ (compact l ++ has.byte ∷ more))
  behind_kept more =
      append_assoc laid.head (has.before ++ (compact l ++ has.byte ∷ [])) more
      ∙ ap (λ (b : List ℕ). laid.head ++ b) (append_assoc has.before (compact l ++ has.byte ∷ []) more)
      ∙ ap (λ (b : List ℕ). laid.head ++ (has.before ++ b)) (append_assoc (compact l) (has.byte ∷ []) more)

  has_with : (more : List ℕ) → HasLog (has.before ++ (compact l ++ has.byte ∷ more)) offset (compact l) l
  has_with more =
      record { before = has.before; byte = has.byte; more = more; parts = refl; sized = has.sized; is_log = has.is_log; closed = has.closed }

  pub cutting_left : (now : List ℕ → Type 0) → Follows (Cut end) images now → (c : List ℕ) → now c → Stands c l
  cutting_left now follows c left =
      let cut = from_only (Cut end) bytes images now laid.durable follows c left in
      inr (laid_stands p.gate p.slots p.which laid.head (has.before ++ (compact l ++ has.byte ∷ drop end c)) (compact l) c offset l laid.slotted force starts
      (has_with (drop end c)) (cut_behind kept has.more bytes kept_parts end kept_size c cut ∙ behind_kept (drop end c)))

  pub cut_now : (new : List ℕ) (left : List ℕ → Type 0) → new ≡ resized bytes end → FitsDisk new → Only new left
      → IsRewritten p (p.gate + 40 + offset + length (compact l)) l new left
  cut_now new left is short only =
      let whole : new ≡ kept = is ∙ resized_at kept has.more bytes kept_parts end kept_size in
      record {
        front = laid.head ++ (has.before ++ compact l);
        is_front = record {
          head = laid.head;
          gap = has.before;
          log = compact l;
          parts = refl;
          slotted = laid.slotted;
          force = force;
          starts = ap (λ (n : ℕ). p.gate + 40 + n) has.sized ∙ starts;
          is_log = has.is_log;
        };
        same = refl;
        at_rest = record {
          byte = has.byte;
          more = [];
          whole = whole ∙ ap (λ (b : List ℕ). laid.head ++ b) (sym (append_assoc has.before (compact l) (has.byte ∷ [])))
              ∙ sym (append_assoc laid.head (has.before ++ compact l) (has.byte ∷ []));
          closed = has.closed;
          place = omega (
            arith,
            length-append laid.head (has.before ++ compact l),
            length-append has.before (compact l),
            head_size p.gate p.slots laid.head laid.slotted,
            has.sized,
          );
          fits = omega (arith, ap (λ (b : List ℕ). length b) whole, kept_size, ends, short);
          durable = only;
        };
      }
