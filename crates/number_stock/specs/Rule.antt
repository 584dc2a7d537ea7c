-- The rule of a stock, and what each step tells.
use Rattle.std.specs.Prelude.{◌≡◌, ℕ, ◌+◌, ◌-◌, ◌<◌, ◌≤◌, max, Bool, true, false, ◌&&◌, ◌||◌, leb, ltb, List, [], ◌∷◌}
use Rattle.std.specs.Prelude.{◌++◌}
use Rattle.std.specs.Prelude.{if◌then◌else◌, All}
use Rattle.std.specs.List.{sum_by}
use mathlib.Core.Option.{some}
use lib.ListN.{get_elem?}
use Rattle.atomic_table.specs.Table.{State, Me, Step}
use Rattle.seat_sums.specs.Sums.{times, one_if, IsDistinct}
use Rattle.number_stock.specs.declared.hand.Hand.{Hand}

-- What a seat knows of the limit: it is no less than the one that this seat saw last, and the seat with the right to
-- raise set the present one, so it led where it was joined. Each answered ticket lies below it, also one that was
-- handed over, and is one of the seat's own, answered once
pub record Fits (limit : ℕ) (v : Hand) : Type 0 where
  pub seen : v.limit ≤ limit
  pub set : v.raises ≡ true → v.limit ≡ limit
  pub led : v.right_leads ≡ true
  pub below : All (λ t. t < v.limit) v.answered
  pub low : All (λ t. t < v.limit) v.drawn
  pub own : (t : ℕ) → times t v.answered ≤ times t v.tickets

-- The tickets that the seats have drawn are those below the next one, each once. With the draws that are left they are
-- all draws. One seat may raise the limit. What is answered is remembered at one seat
pub record Kept {S : Type 0} (draws : ℕ) (s : State S Hand) : Type 0 where
  pub next : ℕ
  pub limit : ℕ
  pub words : s.words ≡ next ∷ limit ∷ []
  pub tickets : (t : ℕ) → sum_by (λ v. times t v.tickets) s.views ≡ one_if (ltb t next)
  pub draws_left : next + sum_by (λ v. v.draws) s.views ≡ draws
  pub one_raises : sum_by (λ v. one_if v.raises) s.views ≡ 1
  pub remembered : (t : ℕ) → sum_by (λ v. times t v.drawn) s.views ≡ sum_by (λ v. times t v.answered) s.views
  pub each : (seat : ℕ) (v : Hand) → get_elem? s.views seat ≡ some v → Fits limit v

abbrev pub opener : ℕ → ℕ → Hand
opener draws limit =
    record {
      draws = draws;
      tickets = [];
      answered = [];
      drawn = [];
      limit = limit;
      looks = 0;
      raises = true;
      right_leads = true;
    }

abbrev pub spent : Hand
spent = record {
  draws = 0;
  tickets = [];
  answered = [];
  drawn = [];
  limit = 0;
  looks = 0;
  raises = false;
  right_leads = true;
}

-- one draw is used for the ticket
abbrev pub drew : ℕ → Hand → Hand
drew ticket v = record {
  draws = v.draws - 1;
  tickets = v.tickets ++ ticket ∷ [];
  answered = v.answered;
  drawn = v.drawn;
  limit =
      v.limit;
  looks = v.looks;
  raises = v.raises;
  right_leads = v.right_leads;
}

-- the limit was loaded once more, and the ticket is answered if it lies below
abbrev pub saw : ℕ → ℕ → Hand → Hand
saw ticket limit v =
    record {
      draws = v.draws;
      tickets = v.tickets;
      answered =
          if ltb ticket limit then v.answered ++ ticket ∷ [] else v.answered;
      drawn = if ltb ticket limit then v.drawn ++ ticket ∷ [] else v.drawn;
      limit = limit;
      looks = v.looks + 1;
      raises =
          v.raises;
      right_leads = v.right_leads;
    }

abbrev pub raised : ℕ → Hand → Hand
raised limit v = record {
  draws = v.draws;
  tickets = v.tickets;
  answered = v.answered;
  drawn = v.drawn;
  limit =
      max v.limit limit;
  looks = v.looks;
  raises = v.raises;
  right_leads = v.right_leads;
}

-- a seat that gives away this many draws, and the new seat that has them
abbrev pub kept_of : ℕ → Hand → Hand
kept_of draws v =
    record {
      draws = v.draws - draws;
      tickets = v.tickets;
      answered = v.answered;
      drawn = v.drawn;
      limit = v.limit;
      looks =
          v.looks;
      raises = v.raises;
      right_leads = v.right_leads;
    }

abbrev pub given_of : ℕ → Hand → Hand
given_of draws v =
    record {
      draws = draws;
      tickets = [];
      answered = [];
      drawn = [];
      limit = v.limit;
      looks = 0;
      raises = false;
      right_leads =
          true;
    }

-- what a seat keeps that hands over all but its draws: these, and what it remembers
abbrev pub unused_of : Hand → Hand
unused_of v = record {
  draws = v.draws;
  tickets = [];
  answered = [];
  drawn = v.drawn;
  limit = v.limit;
  looks = 0;
  raises = false;
  right_leads = true;
}

-- what it hands over
abbrev pub rest_of : Hand → Hand
rest_of v = record {
  draws = 0;
  tickets = v.tickets;
  answered = v.answered;
  drawn = [];
  limit = v.limit;
  looks = v.looks;
  raises =
      v.raises;
  right_leads = v.right_leads;
}

-- a seat with the right to raise knows as high a limit as the other
abbrev pub leads : Hand → Hand → Bool
leads v w = if v.raises then leb w.limit v.limit else true

abbrev pub both_of : Hand → Hand → Hand
both_of v w = record {
  draws = v.draws + w.draws;
  tickets = v.tickets ++ w.tickets;
  answered =
      v.answered ++ w.answered;
  drawn = v.drawn ++ w.drawn;
  limit = max v.limit w.limit;
  looks = v.looks + w.looks;
  raises =
      v.raises || w.raises;
  right_leads = leads v w && leads w v;
}

-- what it has answered are tickets of its own
abbrev pub OwnsAnswers : Hand → Type 0
OwnsAnswers v = (t : ℕ) → times t v.answered ≤ times t v.tickets

-- Two seats were joined into this one, the second without the right to raise. What it has learned of the limit since
-- isn't told.
pub record IsJoined (v w u : Hand) : Type 0 where
  pub draws : u.draws ≡ v.draws + w.draws
  pub tickets : u.tickets ≡ v.tickets ++ w.tickets
  pub answered : u.answered ≡ v.answered ++ w.answered
  pub drawn : u.drawn ≡ v.drawn ++ w.drawn
  pub raises : u.raises ≡ (v.raises || w.raises)
  pub second : w.raises ≡ false
  pub owns : OwnsAnswers v × OwnsAnswers w

-- one of them again, with the limit that both knew
abbrev pub parted : Hand → Hand → Hand
parted v u = record {
  draws = v.draws;
  tickets = v.tickets;
  answered = v.answered;
  drawn = v.drawn;
  limit = u.limit;
  looks = v.looks;
  raises =
      v.raises;
  right_leads = true;
}

-- the seat is as it was, and may know a higher limit
pub record IsSame (v w : Hand) : Type 0 where
  pub draws : w.draws ≡ v.draws
  pub tickets : w.tickets ≡ v.tickets
  pub answered : w.answered ≡ v.answered
  pub drawn : w.drawn ≡ v.drawn
  pub raises : w.raises ≡ v.raises
  pub limit : v.limit ≤ w.limit
  pub known : v.raises ≡ true → w.limit ≡ v.limit

-- none of these tickets is there twice, and all lie below the limit
abbrev pub AreOnce : ℕ → List ℕ → Type 0
AreOnce limit tickets = IsDistinct tickets × All (λ t. t < limit) tickets

-- the seat was told of a limit
abbrev pub heard : ℕ → Hand → Hand
heard limit v = record {
  draws = v.draws;
  tickets = v.tickets;
  answered = v.answered;
  drawn = v.drawn;
  limit = max v.limit limit;
  looks = v.looks;
  raises =
      v.raises;
  right_leads = true;
}

-- the seat never had the ticket: all that it has had lie before it
abbrev pub IsNew : ℕ → Hand → Type 0
IsNew ticket v = (times ticket v.tickets ≡ 0) × All (λ t. t < ticket) v.tickets

-- a seat with the right to raise knew the limit that was found
abbrev pub IsKnown : ℕ → Hand → Type 0
IsKnown limit v = v.raises ≡ true → limit ≡ v.limit

-- the seat drew the ticket, and it wasn't answered yet
abbrev pub IsUnanswered : ℕ → Hand → Type 0
IsUnanswered ticket v = times ticket v.answered < times ticket v.tickets

module _ {S : Type 0} where
  -- the ticket is new, and not answered yet
  abbrev pub Draws : Step S → Me S Hand → ℕ → Me S Hand → Type 0
  Draws st m ticket w = (w ≡ (drew ticket m.0, m.1)) × IsNew ticket m.0 × IsUnanswered ticket (drew ticket m.0)

  -- the ticket of this seat is answered if it lies below the limit that was found
  abbrev pub Looks : ℕ → ℕ → Step S → Me S Hand → ℕ → Me S Hand → Type 0
  Looks draws ticket st m found w = (w ≡ (saw ticket found m.0, m.1)) × (m.0.limit ≤ found) × IsKnown found m.0
      × (ticket < draws)

  abbrev pub Raises : Step S → Me S Hand → ℕ → Me S Hand → Type 0
  Raises st m found w = w ≡ (raised st.first m.0, m.1)

  abbrev pub Learns : ℕ → Step S → Me S Hand → ℕ → Me S Hand → Type 0
  Learns draws st m found w = (w ≡ m) × (w.0.draws ≤ draws) × IsDistinct w.0.tickets × IsDistinct w.0.answered
      × All (λ t. t < w.0.limit) w.0.answered × (w.0.right_leads ≡ true) × AreOnce w.0.limit w.0.drawn

  abbrev pub Owns : Step S → Me S Hand → ℕ → Me S Hand → Type 0
  Owns st m found w = (w ≡ m) × OwnsAnswers w.0
