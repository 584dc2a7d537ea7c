-- A worker's calls at a desk, as another view of it has them.
use Rattle.std.proofs.Common.{ℕ, Bool, List}
use Rattle.order_workers.specs.Orders.{DidWork, Leads, Made, Stays, Then}

module _ {K L : Type 0} (f : K → L) (p : K → Made → K → Type 0) (q : L → Made → L → Type 0) (h : (k : K) (m : Made) (l : K) → p k m l → q (f k) m (f l)) where
  leads_seen : (k l : K) (calls : List Made) → Leads p k calls l → Leads q (f k) calls (f l)
  leads_seen k l calls (Stays x) = Stays (f k)
  leads_seen k l calls (Then x m y cs c done more) = Then (f k) (f m) (f l) cs c (leads_seen k m cs done) (h m c l more)

  pub work_seen : (w : ℕ) (rests : Bool) (k l : K) → DidWork p w rests k l → DidWork q w rests (f k) (f l)
  work_seen w rests k l d = (d.0, leads_seen k l d.0 d.1, d.2)
