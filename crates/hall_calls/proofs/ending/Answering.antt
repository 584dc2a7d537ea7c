-- All that a call does, where it is served and where it isn't.
use Rattle.std.proofs.Common.{◌≡◌, ℕ, Bool, true, false, List, is_some, refl, sym, ◌∙◌, subst}
use Rattle.std.specs.Prelude.{IsTrue, Option, Some, None}
use Rattle.enq_server.proofs.lemmas.Replicas.{keeps_none}
use Rattle.keeper_api.specs.Rows.{Rows}
use Rattle.lock_entry.specs.Table.{IsTable}
use Rattle.lock_entry.specs.declared.entry.Entry.{Entry}
use Rattle.enq_base.specs.declared.refusal.Refusal.{Refusal}
use Rattle.hall_model.specs.Acts.{IsTelling}
use Rattle.hall_model.specs.Calls.{call_of, fails_over, renews_replica, restarts}
use Rattle.hall_model.specs.State.{State, is_honest}
use Rattle.hall_model.specs.Step.{unavailable}
use Rattle.hall_model.specs.Unsound.{is_unsound_file, is_unsound_store}
use Rattle.hall_model.specs.declared.command.Answer.{Answer}
use Rattle.hall_model.specs.declared.command.Command.{Command}
use Rattle.hall_model.specs.declared.command.PastEntry.{PastEntry}
use Rattle.hall_model.specs.declared.command.Reply.{Reply}
use Rattle.hall_model.specs.declared.command.Reply.TheVariants as reply
use Rattle.hall_calls.specs.Serving.{Follows, IsAnswered, Serves, with_calls}
use Rattle.hall_calls.specs.View.{View}
use Rattle.hall_calls.proofs.HistoryRoom.{has_room}
use Rattle.hall_calls.proofs.lemmas.WithHistory.{file_cause, file_kept, not_barred, refused_file, refused_room, refused_store, refused_telling, same_as_filed}
use Rattle.hall_calls.proofs.lemmas.WithHistory.{same_keeper, shut_plain, store_caused, store_kept, store_told, store_within}
use Rattle.hall_calls.proofs.replica.EachCall.{any_link, plain_link, refused_over}
use Rattle.hall_calls.proofs.replica.ToldLists.{good_replica}
use Rattle.hall_calls.proofs.lemmas.GoodFiles.{file_sound, others_sound, refused_sound, store_sound}
use Rattle.hall_calls.proofs.verdicts.FoundChange.{tells_none}

module _ {K D L : Type 0} {held : K → Option Rows} {may_leave : K → Rows → Type 0} {faults : K → ℕ} {tells : Bool} {disk_faults : D → ℕ}
    {gives : L → List Entry} {applied : L → Option (List Entry)} {link_faults refusals : L → ℕ} where
  -- by another name
  pub answered_as : {old new : View K D L} {past : List PastEntry} {c d : Command} {a : Answer} → c ≡ d
      → IsAnswered held may_leave faults tells disk_faults gives applied link_faults refusals old new past d a
      → IsAnswered held may_leave faults tells disk_faults gives applied link_faults refusals old new past c a
  answered_as {old = old} {new = new} {past = past} {a = a} is answered =
      subst (λ (x : Command). IsAnswered held may_leave faults tells disk_faults gives applied link_faults refusals old new past x a) (sym is) answered

  -- a call that isn't served
  pub refused_answered : (v : View K D L) (past : List PastEntry) (c : Command) (r : Refusal) → unavailable (with_calls v.state past) (call_of c) ≡ Some r
      → IsTable (record { entries = v.state.locks; limit = v.state.limit }) → v.state.link_told ≡ is_some (applied v.replica.link)
      → IsAnswered held may_leave faults tells disk_faults gives applied link_faults refusals v v past c (record { reply = reply.Refused r; taken = false })
  refused_answered v past c r shut table link =
      let s : State = with_calls v.state past in
      let telling = refused_telling s c r shut in
      let wrote = refused_store held may_leave faults v.keeper s (call_of c) r shut in
      let filed = refused_file disk_faults v.file s (call_of c) r shut in
      let sound = refused_sound s (call_of c) r shut in
      let plain = shut_plain s (call_of c) r shut in
      let keeps = keeps_none applied link_faults refusals v.replica in
      record {
        call = telling;
        told = refl;
        store_cause = wrote.cause;
        store = λ off. wrote.kept;
        reread = λ on rows may. may;
        keeper = λ off. refl;
        file_cause = filed.cause;
        file = λ off. filed.kept;
        unfiled = λ off. refl;
        link = any_link applied link_faults refusals v.replica v.replica false keeps;
        replica = λ off. keeps;
        over = refused_over (fails_over (call_of c)) v.state.locks (gives v.replica.link) r plain;
        link_cause = plain_link r (link_faults v.replica.link) (link_faults v.replica.link) plain;
        room = refused_room s (call_of c) r shut;
        good_file = λ yes honest. file_sound (reply.Refused r) sound;
        good_store = λ yes. store_sound (reply.Refused r) sound;
        good_replica = λ yes. good_replica s c s (reply.Refused r) table (link ∙ yes) telling.act;
      }

  -- a call that is served, by what it tells of a change in flight, of the file and of the store
  pub served_answered : {old new : View K D L} {past : List PastEntry} {c : Command} {a : Answer}
      → Serves held may_leave faults disk_faults gives applied link_faults refusals old new past c a.reply
      → unavailable (with_calls old.state past) (call_of c) ≡ None
      → IsTable (record { entries = old.state.locks; limit = old.state.limit }) → old.state.link_told ≡ is_some (applied old.replica.link)
      → IsTelling (with_calls old.state past) c a.taken (with_calls new.state past) a.reply
      → (IsTrue tells → IsTrue (is_honest old.state) → is_unsound_file a.reply ≡ false)
      → (is_some (held old.keeper) ≡ true → is_unsound_store a.reply ≡ false)
      → IsAnswered held may_leave faults tells disk_faults gives applied link_faults refusals old new past c a
  served_answered {old = old} {new = new} {past = past} {c = c} {a = a} served free table link telling good_file good_store =
      let s : State = with_calls old.state past in
      let after : State = with_calls new.state past in
      record {
        call = telling;
        told = store_told held may_leave faults old.keeper new.keeper s c a.reply served.store;
        store_cause = store_caused held may_leave faults old.keeper new.keeper s c a.reply served.store after served.call;
        store = store_kept held may_leave faults old.keeper new.keeper s c a.reply served.store;
        reread = store_within held may_leave faults old.keeper new.keeper s c a.reply served.store;
        keeper = same_keeper held may_leave faults old.keeper new.keeper s c a.reply served.store;
        file_cause = file_cause disk_faults old.file new.file s c after a.reply served.call served.file;
        file = file_kept disk_faults old.file new.file s c after a.reply served.call served.file;
        unfiled = same_as_filed disk_faults old.file new.file c a.reply served.file;
        link = any_link applied link_faults refusals old.replica new.replica (renews_replica (call_of c)) served.replica;
        replica = λ off. subst (λ b. Follows applied link_faults refusals b old.replica new.replica) off served.replica;
        over = served.over;
        link_cause = served.link;
        room = λ noted. has_room s (call_of c) (not_barred s (call_of c) free);
        good_file = good_file;
        good_store = good_store;
        good_replica = λ yes. good_replica s c after a.reply table (link ∙ yes) served.call;
      }

  -- any other than a restart tells of no such change
  pub other_answered : {old new : View K D L} {past : List PastEntry} {c : Command} {r : Reply}
      → Serves held may_leave faults disk_faults gives applied link_faults refusals old new past c r
      → unavailable (with_calls old.state past) (call_of c) ≡ None
      → IsTable (record { entries = old.state.locks; limit = old.state.limit }) → old.state.link_told ≡ is_some (applied old.replica.link)
      → restarts (call_of c) ≡ false
      → IsAnswered held may_leave faults tells disk_faults gives applied link_faults refusals old new past c (record { reply = r; taken = false })
  other_answered {old = old} {new = new} {past = past} {c = c} {r = r} served free table link off =
      let s : State = with_calls old.state past in
      let after : State = with_calls new.state past in
      let sound = others_sound s c after r served.call off in
      served_answered served free table link (tells_none s c after r served.call off) (λ yes honest. file_sound r sound) (λ yes. store_sound r sound)
