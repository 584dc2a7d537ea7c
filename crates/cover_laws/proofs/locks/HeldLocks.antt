-- The locks that an owner was granted stay with it, but for those that it frees.
use Rattle.std.proofs.Common.{◌≡◌, ℕ, ◌+◌, ◌-◌, ◌≤◌, true, not, List, ◌++◌, length, map, fold, sym, ap, ◌∙◌, arith, inl, inr}
use Rattle.std.specs.Prelude.{Ok}
use Rattle.std.proofs.lemmas.Bool.{cases_Bool, not_from_false}
use Rattle.enq_base.specs.Owners.{same_owner}
use Rattle.enq_base.specs.declared.owner.Owner.{Owner}
use Rattle.lock_entry.specs.Freeing.{freed, freed_owner, handed_over}
use Rattle.lock_entry.specs.Granting.{asked, first_bar, granted, is_over, new_names}
use Rattle.lock_entry.specs.Names.{count_at, halves, has_name, is_of, name_of, named, times}
use Rattle.lock_entry.specs.Table.{Table}
use Rattle.lock_entry.specs.declared.entry.Asked.{Asked}
use Rattle.lock_entry.specs.declared.entry.Asker.{Asker}
use Rattle.lock_entry.specs.declared.entry.Entry.{Entry}
use Rattle.lock_entry.specs.declared.entry.LockName.{LockName}
use Rattle.lock_entry.specs.declared.entry.Request.{Request}
use Rattle.lock_entry.specs.declared.fault.AskFault.TheVariants.{Count}
use Rattle.lock_laws.proofs.Grants.{unless_barred-Ok, unless_full-Ok}
use Rattle.lock_entry.proofs.lemmas.Naming.{same_name-same, same_owner-sym}
use Rattle.coverage.specs.Lacks.{without}
use Rattle.coverage.specs.Locks.{is_exclusive}
use Rattle.cover_laws.proofs.needed.LocksNeeded.{AreExclusive, AskingAdds, AskingLeaves, ConvertingLeaves, FreeingLeaves, HandingLeaves, Holds}
use Rattle.cover_laws.proofs.needed.LocksNeeded.{OthersFreeingLeaves, OwnerFreeingLeaves, often, update_asked}
use Rattle.cover_laws.proofs.locks.ConvertedLocks.{count-converted, exclusive-firm, passed-Ok}
use Rattle.cover_laws.proofs.locks.LockCounts.{count-filter, count-freed_all, count-granted, count-handed}
use Rattle.cover_laws.proofs.locks.OftenAsked.{often-append, often-lenient, often-without, times-other, times-update}

-- ---- grants

asked-granted : (t : Table) (asker : Asker) (user : List ℕ) (requests : List Request) (locks : List Entry)
    → asked t asker user requests ≡ Ok locks → granted t.entries user (halves asker requests) ≡ locks
unfolding asked
asked-granted t asker user requests locks h =
    let names = halves asker requests in
    let free = unless_barred-Ok (first_bar t.entries asker (map (λ (r : Request). r.asked) requests)) _ locks h in
    let fits = unless_full-Ok t (length (new_names t.entries names)) _ locks free.1 in
    let ok = (passed-Ok (is_over t.entries names) Count (Ok (granted t.entries user names)) locks fits.1).1 in
    cc

count-asked : (t : Table) (asker : Asker) (user : List ℕ) (requests : List Request) (locks : List Entry) (n : LockName)
    → asked t asker user requests ≡ Ok locks → count_at locks n ≡ count_at t.entries n + times (halves asker requests) n
count-asked t asker user requests locks n h =
    ap (λ (es : List Entry). count_at es n) (sym (asked-granted t asker user requests locks h))
    ∙ count-granted t.entries user (halves asker requests) n

pub asking_adds : AskingAdds
asking_adds t asker user requests locks held added apart ok holds few = λ (a : Asked).
    let n = named asker.update a in
    let names = halves asker requests in
    let before : often held a ≤ count_at t.entries n = holds a in
    let within : often added a ≤ often (update_asked requests) a = few a in
    let both : often (held ++ added) a ≡ often held a + often added a = often-append held added a in
    let halved : times names n ≡ often (update_asked requests) a = times-update asker a apart requests in
    let risen : count_at locks n ≡ count_at t.entries n + times names n = count-asked t asker user requests locks n ok in
    omega arith

pub asking_leaves : AskingLeaves
asking_leaves t asker user requests locks owner held ok holds = λ (a : Asked).
    let n = named owner a in
    let before : often held a ≤ count_at t.entries n = holds a in
    let risen : count_at locks n ≡ count_at t.entries n + times (halves asker requests) n = count-asked t asker user requests locks n ok in
    omega arith

-- ---- freeing

pub freeing_leaves : FreeingLeaves
freeing_leaves locks asker requests held apart holds = λ (a : Asked).
    let n = named asker.update a in
    let names = halves asker requests in
    let before : often held a ≤ count_at locks n = holds a in
    let named_by = update_asked requests in
    let left : often (without held named_by) a ≡ often held a - often named_by a = often-without named_by held a in
    let halved : times names n ≡ often named_by a = times-update asker a apart requests in
    let lowered : count_at locks n ≤ count_at (fold freed locks names) n + times names n = count-freed_all names locks n in
    omega arith

pub others_freeing_leaves : OthersFreeingLeaves
others_freeing_leaves locks asker requests owner held first second holds = λ (a : Asked).
    let n = named owner a in
    let names = halves asker requests in
    let before : often held a ≤ count_at locks n = holds a in
    let none : times names n ≡ 0 = times-other asker owner a first second requests in
    let lowered : count_at locks n ≤ count_at (fold freed locks names) n + times names n = count-freed_all names locks n in
    omega arith

pub owner_freeing_leaves : OwnerFreeingLeaves
owner_freeing_leaves locks other owner held apart holds = λ (a : Asked).
    let n = named owner a in
    let before : often held a ≤ count_at locks n = holds a in
    let spares : (e : Entry) → has_name n e ≡ true → not (is_of other e) ≡ true =
    λ e h.
    let own : owner ≡ e.owner = ap (λ (m : LockName). m.owner) (same_name-same n (name_of e) h) in
    not_from_false (is_of other e) (ap (λ (o : Owner). same_owner o other) (sym own) ∙ same_owner-sym owner other ∙ apart) in
    let same : count_at (freed_owner locks other) n ≡ count_at locks n = count-filter n (λ e. not (is_of other e)) spares locks in
    omega arith

-- ---- exclusive locks

-- what leaves the counts of exclusive locks leaves the owner exclusive ones
holds-exclusive : (before after : List Entry) (owner : Owner) (held : List Asked) → AreExclusive held
    → ((a : Asked) → is_exclusive a.mode ≡ true → count_at before (named owner a) ≤ count_at after (named owner a))
    → Holds before owner held → Holds after owner held
holds-exclusive before after owner held firm keeps holds = λ (a : Asked).
    elim (cases_Bool (is_exclusive a.mode)) [
      | inl exclusive ↦
          let n = named owner a in
          let stood : often held a ≤ count_at before n = holds a in
          let kept : count_at before n ≤ count_at after n = keeps a exclusive in
          omega arith
      | inr lenient ↦ let none : often held a ≡ 0 = often-lenient held a firm lenient in omega arith
    ]

pub converting_leaves : ConvertingLeaves
converting_leaves locks asker asked c owner held ok firm holds =
    holds-exclusive locks c.entries owner held firm (λ a h. count-converted locks asker asked c (named owner a) h ok) holds

pub handing_leaves : HandingLeaves
handing_leaves locks unit owner held firm holds =
    holds-exclusive locks (handed_over locks unit) owner held firm
    (λ a h.
    let n = named owner a in
    let same : count_at (handed_over locks unit) n ≡ count_at locks n = count-handed locks unit n (exclusive-firm a.mode h) in
    omega arith)
    holds
