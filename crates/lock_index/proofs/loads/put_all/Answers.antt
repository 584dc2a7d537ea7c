use Rattle.std.proofs.Common.{◌≡◌, ◌∙◌, ◌+◌, ◌<◌, ◌++◌, ◌∷◌, [], ℕ, List, sym, ap, length, take, map, Some, Option, true, arith}
use Rattle.std.proofs.lemmas.List.{take_all, take_more, map-append, length-take-le}
use Rattle.lock_entry.specs.declared.entry.Entry.{Entry}
use Rattle.lock_entry.specs.Sound.{first_clash, stands_with, first_against}
use Rattle.lock_laws.proofs.Loads.{clash_after-stop, clash_after-go, first_clash-unsound}
use Rattle.lock_index.specs.Slots.{live}
use Rattle.lock_index.proofs.Changed.{live-some}
use Rattle.lock_index.proofs.Filters.{stands-stop, stands-go}
use Rattle.lock_index.proofs.loads.put_all.Goals as goal

pub returns-in-Some-clause-fault : goal.returns-in-Some-clause-fault
returns-in-Some-clause-fault c =
    let es = c.args.entries.now in
    let i = c.loop-i.i in
    let e = c.index-entries-i.result in
    let below : i < length es = omega arith in
    let long : length (take i es) ≡ i = length-take-le i es (omega arith) in
    let s = stands-stop (stands_with (take i es) e) c.in-Some.first (first_against (take i es) e)
    (c.in-Some.ensures (take i es) c.loop-i.invariant.shelved long) in
    let clash : first_clash es ≡ Some (c.in-Some.first, i + 1) =
    c.loop-i.invariant.clash ∙ clash_after-stop es i e below c.index-entries-i.is s.0 ∙ ap (λ (n : ℕ). Some (n, i + 1)) (sym s.1) in
    (first_clash-unsound es (c.in-Some.first, i + 1) clash, clash)

pub loop-i-preserved : goal.loop-i-preserved
loop-i-preserved c =
    let es = c.args.entries.now in
    let i = c.loop-i.i in
    let e = c.index-entries-i.result in
    let below : i < length es = omega arith in
    let long : length (take i es) ≡ i = length-take-le i es (omega arith) in
    let yes' : stands_with (take i es) e ≡ true = stands-go (stands_with (take i es) e) (first_against (take i es) e)
    (c.in-None.ensures (take i es) c.loop-i.invariant.shelved long) in
    let longer : take i es ++ e ∷ [] ≡ take (i + 1) es = sym (take_more es i e below ∙ ap (λ (k : Entry). take i es ++ k ∷ []) (sym c.index-entries-i.is)) in
    record {
      shelved =
          c.in-Ok.ensures.pushed ∙ ap (λ (ss : List (Option Entry)). ss ++ Some e ∷ []) c.loop-i.invariant.shelved
          ∙ sym (map-append (λ (x : Entry). Some x) (take i es) (e ∷ [])) ∙ ap (map (λ (x : Entry). Some x)) longer;
      clash = c.loop-i.invariant.clash ∙ clash_after-go es i e below c.index-entries-i.is yes';
    }

pub returns-clause-entries : goal.returns-clause-entries
returns-clause-entries c =
    let es = c.args.entries.now in
    ap live c.loop-i.invariant.shelved ∙ live-some (take c.loop-i.i es) ∙ take_all c.loop-i.i es c.loop-i-test.false
