-- What one worker saw of a history that others write too.
use Rattle.std.specs.Prelude.{◌≡◌, Bool, true, false, List, [], ◌∷◌, ◌++◌, map}
use Rattle.hall_model.specs.History.{is_unrecorded}
use Rattle.hall_model.specs.declared.command.PastEntry.{PastEntry}
use Rattle.order_laws.specs.Behind.{up_after}
use Rattle.order_workers.specs.Orders.{Made}

-- the history has this call
pub record IsEntryOf (e : PastEntry) (m : Made) : Type 0 where
  pub line : e.line ≡ 0
  pub command : e.command ≡ m.command
  pub reply : e.reply ≡ m.reply

module _ {E : Type 0} (entry : E → PastEntry) (is_own : E → Bool) where
  -- A history in which some calls are the worker's own, and the calls that it made, in order: a call that the history
  -- keeps is its next own entry; one that it doesn't keep leaves none. Each saw whether the server was up behind it.
  pub data AreSeen : List E → List Made → Type 0 where
    Nothing : AreSeen [] []
    Others : (past : List E) (calls : List Made) (e : E) → AreSeen past calls → is_own e ≡ false
        → AreSeen (past ++ e ∷ []) calls
    Kept : (past : List E) (calls : List Made) (e : E) (m : Made) → AreSeen past calls → is_own e ≡ true
        → IsEntryOf (entry e) m
        → is_unrecorded m.reply ≡ false → m.is_up ≡ up_after (map entry (past ++ e ∷ []))
        → AreSeen (past ++ e ∷ []) (calls ++ m ∷ [])
    Unkept : (past : List E) (calls : List Made) (m : Made) → AreSeen past calls → is_unrecorded m.reply ≡ true
        → m.is_up ≡ up_after (map entry past) → AreSeen past (calls ++ m ∷ [])
