-- Reading the records of a log one after the other, as far as they go.
use Rattle.std.proofs.Common.{◌≡◌, ℕ, ◌-◌, ◌<◌, List, [], ◌∷◌, ◌++◌, length, drop, Some, refl, sym, ap, subst, ◌∙◌, append_assoc, append-nil, arith, length-append}
use Rattle.std.specs.List.{flat_map, fold}
use Rattle.std.proofs.lemmas.List.Concat.{flat_map-append, flat_map-cons}
use Rattle.std.proofs.lemmas.List.Sums.{fold-append}
use Rattle.byte_fields.specs.declared.fault.ReadFault.{ReadFault}
use Rattle.byte_fields.specs.declared.fault.ReadFault.TheVariants.{NoMemory, Bad}
use Rattle.gate_log.specs.Grammars.{IsBytes}
use Rattle.gate_log.specs.Logs as logs
use Rattle.gate_log.proofs.lemmas.Logs.{leads-push, none_is, some_is}
use Rattle.gate_log.proofs.lemmas.Scan.{bytes-rest, rest_fits}
use Rattle.backup_file.specs.declared.handed.Handed.{Handed}
use Rattle.backup_file.specs.declared.handed.Record.{Record}
use Rattle.backup_file.specs.File.{MayFollow, grammar_of, log_grammar}
use Rattle.backup_file.specs.Lists.{after, lists_behind}
use Rattle.byte_fields.specs.Fields.{Fails}
use Rattle.backup_file.specs.Reading.{record_at}
use Rattle.backup_file.specs.ReadLogs.{IfBad, IsReadAll, IsReadSoFar, IsReadWithin, NoneWithin}
use Rattle.backup_file.specs.Spelling.{spelling}
use Rattle.backup_file.proofs.lemmas.Records.{record_takes}

pub noted_after : (old : List Record) (step : Record) (new : List Record) → new ≡ old ++ step ∷ [] → lists_behind new ≡ after (lists_behind old) step
noted_after old step new is = ap (fold after []) is ∙ fold-append after [] old (step ∷ [])

-- ---- no record follows

pub fails_within : (most : ℕ) (behind : List ℕ) (old : List Record) (fault : ReadFault) → Fails fault (record_at behind)
    → IfBad (NoneWithin most behind old) fault
fails_within most behind old NoMemory fails = tt
fails_within most behind old Bad fails = λ step rest is legal. none_is (step, rest) (sym fails ∙ is)

pub illegal_within : (most : ℕ) (behind : List ℕ) (old : List Record) (step : Record) (next : List ℕ) → record_at behind ≡ Some (step, next)
    → (MayFollow most (lists_behind old) step → ⊥) → NoneWithin most behind old
illegal_within most behind old step next is illegal = λ other rest also legal.
    let pair = some_is (step, next) (other, rest) (sym is ∙ also) in
    illegal (subst (MayFollow most (lists_behind old)) (sym (ap (λ (p : Record × List ℕ). p.0) pair)) legal)

pub if_bad : (P : Type 0) (fault : ReadFault) → P → IfBad P fault
if_bad P NoMemory p = tt
if_bad P Bad p = p

-- ---- one follows

pub read_none : (most : ℕ) (bytes : List ℕ) (records : List Record) → records ≡ [] → IsReadSoFar most bytes bytes records
read_none most bytes records none = subst (IsReadSoFar most bytes bytes) (sym none)
    (record { front = []; whole = refl; spelled = refl; leads = refl })

module _ (most : ℕ) (bytes rest behind next : List ℕ) (old new : List Record) (so_far : IsReadSoFar most bytes rest old) (open_gate : rest ≡ 1 ∷ behind)
    (fits : IsBytes bytes) (is : IsReadWithin most behind next old new) where
  taken : (behind ≡ spelling is.step ++ next) × (length next < length rest)
  taken =
      let behind_fits : IsBytes behind = bytes-rest 1 behind (subst IsBytes open_gate (rest_fits so_far.front rest bytes so_far.whole fits)) in
      let t = record_takes behind is.step next behind_fits is.read in (
        t.0.parts,
        omega (
          arith,
          ap (λ (b : List ℕ). length b) open_gate,
          ap (λ (b : List ℕ). length b) t.0.parts,
          length-append (spelling is.step) next,
        ),
      )

  pub less_rest : length next < length rest
  less_rest = taken.1

  pub read_further : IsReadSoFar most bytes next new
  read_further =
      let behind_fits : IsBytes behind = bytes-rest 1 behind (subst IsBytes open_gate (rest_fits so_far.front rest bytes so_far.whole fits)) in
      let t = record_takes behind is.step next behind_fits is.read in
      subst (IsReadSoFar most bytes next) (sym is.noted)
      (record {
        front = so_far.front ++ logs.opened log_grammar is.step;
        whole = so_far.whole ∙ ap (λ (b : List ℕ). so_far.front ++ b) (open_gate ∙ ap (λ (b : List ℕ). 1 ∷ b) t.0.parts)
            ∙ sym (append_assoc so_far.front (logs.opened log_grammar is.step) next);
        spelled = ap (λ (b : List ℕ). b ++ logs.opened log_grammar is.step) so_far.spelled
            ∙ sym (flat_map-append (logs.opened log_grammar) old (is.step ∷ [])
            ∙ ap (λ (b : List ℕ). flat_map (logs.opened log_grammar) old ++ b)
            (flat_map-cons (logs.opened log_grammar) is.step [] ∙ append-nil (logs.opened log_grammar is.step)));
        leads = subst (λ (k : List Handed). logs.Leads (grammar_of [] most) [] (old ++ is.step ∷ []) k)
            (sym (noted_after old is.step (old ++ is.step ∷ []) refl))
            (leads-push (grammar_of [] most) [] old (lists_behind old) is.step so_far.leads t.1 is.legal);
      })

-- ---- all were read

pub read_stopped : (most : ℕ) (bytes rest behind : List ℕ) (old : List Record) → IsReadSoFar most bytes rest old → rest ≡ 1 ∷ behind
    → NoneWithin most behind old → IsReadAll most bytes rest old
read_stopped most bytes rest behind old so_far open_gate none = record {
  so_far = so_far;
  ends = λ other also. subst (λ (b : List ℕ). NoneWithin most b old) (ap (λ (b : List ℕ). drop 1 b) (sym open_gate ∙ also)) none;
}
