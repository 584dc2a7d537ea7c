-- One text behind another, and what is left where the sink fails.
use Rattle.std.proofs.Common.{◌≡◌, ℕ, zero, suc, List, [], ◌∷◌, ◌++◌, Result, Ok, Err, take, refl, ap, subst, arith}
use Rattle.std.specs.Prelude.{Option}
use Rattle.std.specs.Io.KnownBytes.{Appends}
use Rattle.enq_base.specs.Causes.{HasCause}
use Rattle.io_edge.specs.Known.{AppendsFirst}
use Rattle.io_edge.proofs.lemmas.Knowns.{appends_more, appends_none}
use Rattle.run_report.specs.Report.{HasPut}

-- the first bytes of a list begin a longer one too
taken_of_more : (n : ℕ) (xs ys : List ℕ) → (m : ℕ) × (take n xs ≡ take m (xs ++ ys))
taken_of_more zero xs ys = (0, refl)
taken_of_more (suc n) [] ys = (0, refl)
taken_of_more (suc n) (x ∷ xs) ys =
    let r = taken_of_more n xs ys in
    (suc r.0, ap (λ l. x ∷ l) r.1)

taken_behind : (xs ys : List ℕ) (n : ℕ) → (m : ℕ) × (xs ++ take n ys ≡ take m (xs ++ ys))
taken_behind [] ys n = (n, refl)
taken_behind (x ∷ xs) ys n =
    let r = taken_behind xs ys n in
    (suc r.0, ap (λ l. x ∷ l) r.1)

pub first_part : (a b : Option (List ℕ)) (xs ys : List ℕ) → AppendsFirst a b xs → AppendsFirst a b (xs ++ ys)
first_part a b xs ys h =
    let r = taken_of_more h.0 xs ys in
    (r.0, subst (Appends a b) r.1 h.1)

pub first_more : (a b c : Option (List ℕ)) (xs ys : List ℕ) → Appends a b xs → AppendsFirst b c ys → AppendsFirst a c (xs ++ ys)
first_more a b c xs ys h k =
    let r = taken_behind xs ys k.0 in
    (r.0, subst (Appends a c) r.1 (appends_more a b c xs (take k.0 ys) h k.1))

pub put_none : {E : Type 0} (a : Option (List ℕ)) (n : ℕ) (u : Unit) → HasPut {E = E} a a n n [] (Ok u)
put_none a n u = record { ok = appends_none a; err = tt; cause = record { later = omega arith; failed = tt; quiet = refl } }

pub put_more : {E F : Type 0} (a b c : Option (List ℕ)) (n m k : ℕ) (xs ys : List ℕ) (u : Unit) (r : Result Unit F)
    → HasPut {E = E} a b n m xs (Ok u) → HasPut b c m k ys r → HasPut a c n k (xs ++ ys) r
put_more {F = F} a b c n m k xs ys u (Ok v) h g =
    record { ok = appends_more a b c xs ys h.ok g.ok; err = tt; cause = subst (λ x. HasCause {T = Unit} {E = F} x k (Ok v)) h.cause.quiet g.cause }
put_more {F = F} a b c n m k xs ys u (Err e) h g =
    record { ok = tt; err = first_more a b c xs ys h.ok g.err; cause = subst (λ x. HasCause {T = Unit} {E = F} x k (Err e)) h.cause.quiet g.cause }

pub put_part : {E F : Type 0} (a b : Option (List ℕ)) (n m : ℕ) (xs ys : List ℕ) (e : E) (x : F)
    → HasPut a b n m xs (Err e) → HasPut a b n m (xs ++ ys) (Err x)
put_part a b n m xs ys e x h =
    record { ok = tt; err = first_part a b xs ys h.err; cause = record { later = h.cause.later; failed = h.cause.failed; quiet = tt } }

-- the same text, said in another way
pub put_as : {E : Type 0} (a b : Option (List ℕ)) (n m : ℕ) (xs ys : List ℕ) (r : Result Unit E) → xs ≡ ys → HasPut {E = E} a b n m xs r → HasPut a b n m ys r
put_as {E = E} a b n m xs ys r same h = subst (λ l. HasPut {E = E} a b n m l r) same h

-- Behind the first part of a text, whatever puts its rest puts the whole.
pub record GoesOn (E : Type 0) (first old : Option (List ℕ)) (faults before : ℕ) (all rest : List ℕ) : Type 0 where
  pub on : (new : Option (List ℕ)) (now : ℕ) (r : Result Unit E) → HasPut old new before now rest r → HasPut first new faults now all r

pub goes_first : {E : Type 0} (a : Option (List ℕ)) (n : ℕ) (all : List ℕ) → GoesOn E a a n n all all
goes_first a n all = record { on = λ new now r h. h }

pub goes_more : {E F : Type 0} (a b c : Option (List ℕ)) (n m k : ℕ) (all xs rest : List ℕ) (u : Unit)
    → GoesOn E a b n m all (xs ++ rest) → HasPut {E = F} b c m k xs (Ok u) → GoesOn E a c n k all rest
goes_more a b c n m k all xs rest u h p = record { on = λ new now r g. h.on new now r (put_more b c new m k now xs rest u r p g) }

pub goes_part : {E F : Type 0} (a b c : Option (List ℕ)) (n m k : ℕ) (all xs rest : List ℕ) (e : F) (x : E)
    → GoesOn E a b n m all (xs ++ rest) → HasPut b c m k xs (Err e) → HasPut a c n k all (Err x)
goes_part a b c n m k all xs rest e x h p = h.on c k (Err x) (put_part b c m k xs rest e x p)

pub goes_whole : {E : Type 0} (a b : Option (List ℕ)) (n m : ℕ) (all : List ℕ) (u : Unit) → GoesOn E a b n m all [] → HasPut {E = E} a b n m all (Ok u)
goes_whole a b n m all u h = h.on b m (Ok u) (put_none b m u)
