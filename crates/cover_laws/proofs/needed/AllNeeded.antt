-- All that the last proof rests on.
use Rattle.cover_laws.proofs.needed.CoverageNeeded.{ReadsAreCovered, EffectsAreCovered, FreesArePlain, ReadsGuard, HeldIsExclusive, HeldIsEven}
use Rattle.cover_laws.proofs.needed.HallNeeded.{RowsStay, ReadsTell, FirstPartsWait, SecondPartsFollow, PastStays, OpenStays, CommitsRecord, WellStays}
use Rattle.cover_laws.proofs.needed.HallNeeded.{FirstPartsStand, SecondPartsStand, UnitsStayOpen, EndsAreSeen, RepliesFit, LogsAreSeen, OthersLeaveOn}
use Rattle.cover_laws.proofs.needed.HallNeeded.{LogonsBegin}
use Rattle.cover_laws.proofs.needed.HoldingNeeded.{OwnCallsHold, OtherCallsHold}
use Rattle.cover_laws.proofs.needed.LinesNeeded.{PlacesGoOn, FirstPlaces, ReadsAreLines, CommitsAreLines}
use Rattle.cover_laws.proofs.needed.LocksNeeded.{HeldCovers, HandingCovers, OneCovers}

pub record AllNeeded : Type 0 where
  pub reads_are_covered : ReadsAreCovered
  pub effects_are_covered : EffectsAreCovered
  pub frees_are_plain : FreesArePlain
  pub reads_guard : ReadsGuard
  pub held_is_exclusive : HeldIsExclusive
  pub held_is_even : HeldIsEven
  pub rows_stay : RowsStay
  pub reads_tell : ReadsTell
  pub first_parts_wait : FirstPartsWait
  pub second_parts_follow : SecondPartsFollow
  pub past_stays : PastStays
  pub open_stays : OpenStays
  pub commits_record : CommitsRecord
  pub well_stays : WellStays
  pub first_parts_stand : FirstPartsStand
  pub second_parts_stand : SecondPartsStand
  pub units_stay_open : UnitsStayOpen
  pub ends_are_seen : EndsAreSeen
  pub replies_fit : RepliesFit
  pub logs_are_seen : LogsAreSeen
  pub others_leave_on : OthersLeaveOn
  pub logons_begin : LogonsBegin
  pub own_calls_hold : OwnCallsHold
  pub other_calls_hold : OtherCallsHold
  pub places_go_on : PlacesGoOn
  pub first_places : FirstPlaces
  pub reads_are_lines : ReadsAreLines
  pub commits_are_lines : CommitsAreLines
  pub held_covers : HeldCovers
  pub handing_covers : HandingCovers
  pub one_covers : OneCovers
