-- What is shipped where a table changes brings its replica to the changed table.
use Rattle.std.proofs.Common.{◌≡◌, ℕ, Bool, true, false, cond, List, ◌++◌, Option, Some, None, Result, Ok, Err, map, length, refl, sym, ap, ◌∙◌}
use Rattle.std.specs.List.{filter, flat_map}
use Rattle.lock_entry.specs.Converting.{Conversion, conversion, converted, first_withstanding, is_lost, sum_exceeds}
use Rattle.lock_entry.specs.Freeing.{freed_owner}
use Rattle.lock_entry.specs.Granting.{asked, granted, first_bar, is_full, is_over, new_names, readmitted, unless_barred, unless_full}
use Rattle.lock_entry.specs.Names.{halves, is_of}
use Rattle.lock_entry.specs.Sound.{ReadmitsOnly}
use Rattle.lock_entry.specs.Table.{IsTable, Table}
use Rattle.lock_entry.specs.declared.entry.Asked.{Asked}
use Rattle.lock_entry.specs.declared.entry.Asker.{Asker}
use Rattle.lock_entry.specs.declared.entry.Entry.{Entry}
use Rattle.lock_entry.specs.declared.entry.Request.{Request}
use Rattle.lock_entry.specs.declared.fault.AskFault.{AskFault}
use Rattle.lock_entry.specs.declared.fault.AskFault.TheVariants as ask
use Rattle.replica_link.specs.Operations.{after_ops}
use Rattle.replica_link.specs.Shipping.{drop_of, granted_ops, owner_ops, turn_ops}
use Rattle.replica_link.specs.declared.operation.TableOp.TheVariants.{Put}
use Rattle.replica_link.proofs.lemmas.Converts.{converted_ops-conversion}
use Rattle.replica_link.proofs.lemmas.Drops.{after_ops-append}
use Rattle.replica_link.proofs.lemmas.Grants.{granted_ops-granted, readmitted_ops-readmitted}

unbarred : {X : Type 0} (b : Option Entry) (r : Result X AskFault) (x : X) → unless_barred b r ≡ Ok x → r ≡ Ok x
unbarred None r x h = h
unbarred (Some e) r x h = absurd (cc)

passed : {X : Type 0} (b : Bool) (f : AskFault) (r : Result X AskFault) (x : X) → cond b (Err f) r ≡ Ok x → r ≡ Ok x
passed true f r x h = absurd (cc)
passed false f r x h = h

same_Ok : {X : Type 0} (r : Result X AskFault) (x y : X) → r ≡ Ok x → r ≡ Ok y → x ≡ y
same_Ok (Ok z) x y a b = let one : z ≡ x = cc in let two : z ≡ y = cc in sym one ∙ two
same_Ok (Err f) x y a b = absurd (cc)

pub granted_is : (t : Table) (asker : Asker) (user : List ℕ) (requests : List Request) (es : List Entry) → asked t asker user requests ≡ Ok es
    → es ≡ granted t.entries user (halves asker requests)
unfolding asked
granted_is t asker user requests es h =
    let names = halves asker requests in
    let g = granted t.entries user names in
    let counted : Result (List Entry) AskFault = cond (is_over t.entries names) (Err ask.Count) (Ok g) in
    let added = length (new_names t.entries names) in
    sym (same_Ok (Ok g) g es refl
    (passed (is_over t.entries names) ask.Count (Ok g) es
    (passed (is_full t added) (ask.Full (length t.entries) t.limit) counted es
    (unbarred (first_bar t.entries asker (map (λ (r : Request). r.asked) requests)) (unless_full t added counted) es h))))

pub granted_at : (t : Table) (asker : Asker) (user : List ℕ) (requests : List Request) (es : List Entry) → IsTable t → asked t asker user requests ≡ Ok es
    → after_ops t.entries (granted_ops es (halves asker requests)) ≡ es
granted_at t asker user requests es good h =
    let is = granted_is t asker user requests es h in
    ap (λ x. after_ops t.entries (granted_ops x (halves asker requests))) is ∙ granted_ops-granted t.entries user (halves asker requests) good.sound.names
    ∙ sym is

pub readmitted_is : (t : Table) (asker : Asker) (given es : List Entry) → readmitted t asker given ≡ Ok es → es ≡ freed_owner t.entries asker.update ++ given
unfolding readmitted
readmitted_is t asker given es h =
    let g = freed_owner t.entries asker.update ++ given in
    sym (same_Ok (Ok g) g es refl (passed _ _ _ _ (unbarred _ _ _ h)))

pub readmitted_at : (t : Table) (asker : Asker) (own given es : List Entry) → IsTable t → ReadmitsOnly asker given → own ≡ filter (is_of asker.update) t.entries
    → readmitted t asker given ≡ Ok es → after_ops (after_ops t.entries (map drop_of own)) (map Put given) ≡ es
readmitted_at t asker own given es good only is h =
    ap (λ xs. after_ops (after_ops t.entries (map drop_of xs)) (map Put given)) is
    ∙ sym (after_ops-append t.entries (owner_ops t.entries asker.update) (map Put given))
    ∙ readmitted_ops-readmitted t.entries asker given good.sound.names only
    ∙ sym (readmitted_is t asker given es h)

pub converted_is : (es : List Entry) (asker : Asker) (asked : List Asked) (r : Conversion) → converted es asker asked ≡ Ok r → conversion es asker asked ≡ r
unfolding converted
converted_is es asker asked r h =
    let g = conversion es asker asked in
    let counted : Result Conversion AskFault = cond (sum_exceeds es asker asked) (Err ask.Count) (Ok g) in
    same_Ok (Ok g) g r refl
    (passed (sum_exceeds es asker asked) ask.Count (Ok g) r
    (unbarred (first_withstanding es asker asked) counted r
    (passed (is_lost es asker asked) ask.Lost (unless_barred (first_withstanding es asker asked) counted) r h)))

pub converted_at : (es : List Entry) (asker : Asker) (asked : List Asked) (r : Conversion) → converted es asker asked ≡ Ok r
    → after_ops (after_ops es (flat_map (turn_ops asker) asked)) (map drop_of r.removed) ≡ r.entries
converted_at es asker asked r h =
    let is = converted_is es asker asked r h in
    ap (λ x. after_ops (after_ops es (flat_map (turn_ops asker) asked)) (map drop_of x.removed)) (sym is)
    ∙ sym (after_ops-append es (flat_map (turn_ops asker) asked) (map drop_of (conversion es asker asked).removed))
    ∙ converted_ops-conversion asker asked es
    ∙ ap (λ x. x.entries) is
