-- That there are histories of scripts that lack nothing, in which a unit reads, is committed and is posted.
use Rattle.std.specs.Prelude.{◌≡◌, ℕ, List, [], ◌∷◌, ◌++◌, Option, IsTrue}
use Rattle.enq_base.specs.declared.owner.UnitKey.{UnitKey}
use Rattle.lock_objects.specs.Objects.{Object}
use Rattle.hall_model.specs.Recall.{Made, state_after}
use Rattle.hall_model.specs.State.{State}
use Rattle.coverage.specs.Lacks.{Numbered, lacks}
use Rattle.cover_laws.specs.Histories.{IsCommitBy, IsReadOf, NoneSettles, settles}
use Rattle.cover_laws.specs.Safe.{IsWithin}

-- a session reads a row, commits the unit, and a post settles it
pub record ReadsAndPosts (first : State) (made : List Made) : Type 0 where
  pub earlier : List Made
  pub between : List Made
  pub waiting : List Made
  pub later : List Made
  pub reading : Made
  pub commit : Made
  pub post : Made
  pub name : List ℕ
  pub unit : UnitKey
  pub table : List ℕ
  pub key : List ℕ
  pub text : Option (List ℕ)
  pub whole : made ≡ earlier ++ reading ∷ (between ++ commit ∷ (waiting ++ post ∷ later))
  pub reads : IsReadOf (state_after first earlier) name unit table key text reading.call
  pub commits : IsCommitBy name unit commit.call
  pub waits : NoneSettles unit (between ++ commit ∷ waiting)
  pub settled : IsTrue (settles unit post.call.reply)

-- such a script with a history
pub record CoveredHistory : Type 0 where
  pub objects : List Object
  pub lines : List Numbered
  pub first : State
  pub made : List Made
  pub covered : lacks objects lines ≡ []
  pub within : IsWithin objects lines first made
  pub posted : ReadsAndPosts first made
