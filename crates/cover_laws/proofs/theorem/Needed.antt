-- All that the theorem rests on, together.
use Rattle.cover_laws.proofs.needed.AllNeeded.{AllNeeded}
use Rattle.cover_laws.proofs.script.CoveredEffects.{effects_are_covered}
use Rattle.cover_laws.proofs.script.CoveredReads.{reads_are_covered, reads_guard}
use Rattle.cover_laws.proofs.locks.CoveredRows.{handing_covers, held_covers, one_covers}
use Rattle.cover_laws.proofs.sessions.EndedUnits.{ends_are_seen}
use Rattle.cover_laws.proofs.script.EvenLengths.{held_is_even}
use Rattle.cover_laws.proofs.script.ExclusiveHeld.{held_is_exclusive}
use Rattle.cover_laws.proofs.calls.FittingReplies.{replies_fit}
use Rattle.cover_laws.proofs.locks.HeldLocks.{asking_adds, asking_leaves, converting_leaves, freeing_leaves, handing_leaves, others_freeing_leaves, owner_freeing_leaves}
use Rattle.cover_laws.proofs.sessions.LoggedSessions.{logons_begin, logs_are_seen, others_leave_on}
use Rattle.cover_laws.proofs.sessions.OpenSessions.{units_stay_open}
use Rattle.cover_laws.proofs.holding.OthersHolding.{other_calls_hold}
use Rattle.cover_laws.proofs.lines.OwnPlaces.{places_go_on}
use Rattle.cover_laws.proofs.lines.RegisteredEffects.{first_places}
use Rattle.cover_laws.proofs.lines.RowLines.{commits_are_lines, reads_are_lines}
use Rattle.cover_laws.proofs.holding.OwnHolding.{own_calls_hold}
use Rattle.cover_laws.proofs.script.PlainFrees.{frees_are_plain}
use Rattle.cover_laws.proofs.calls.PostedRows.{reads_tell, rows_stay}
use Rattle.cover_laws.proofs.calls.WaitingUnits.{commits_record, first_parts_wait, open_stays, past_stays, second_parts_follow}
use Rattle.cover_laws.proofs.calls.WellUnits.{first_parts_stand, second_parts_stand, well_stays}

pub needed : AllNeeded
needed = record {
  reads_are_covered = reads_are_covered;
  effects_are_covered = effects_are_covered;
  frees_are_plain = frees_are_plain;
  reads_guard = reads_guard;
  held_is_exclusive = held_is_exclusive;
  held_is_even = held_is_even;
  rows_stay = rows_stay;
  reads_tell = reads_tell;
  first_parts_wait = first_parts_wait;
  second_parts_follow = second_parts_follow;
  past_stays = past_stays;
  open_stays = open_stays;
  commits_record = commits_record;
  well_stays = well_stays;
  first_parts_stand = first_parts_stand;
  second_parts_stand = second_parts_stand;
  units_stay_open = units_stay_open;
  ends_are_seen = ends_are_seen;
  replies_fit = replies_fit;
  logs_are_seen = logs_are_seen;
  others_leave_on = others_leave_on;
  logons_begin = logons_begin;
  own_calls_hold = own_calls_hold asking_adds freeing_leaves converting_leaves;
  other_calls_hold = other_calls_hold asking_leaves others_freeing_leaves owner_freeing_leaves converting_leaves handing_leaves;
  places_go_on = places_go_on;
  first_places = first_places;
  reads_are_lines = reads_are_lines;
  commits_are_lines = commits_are_lines;
  held_covers = held_covers;
  handing_covers = handing_covers;
  one_covers = one_covers;
}
