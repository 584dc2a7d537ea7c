use Rattle.hall_calls.proofs.present.Present.serve.Goals as goal

pub returns : goal.returns
returns g c =
    let e = c.answer.ensures in
    record {
      call = e.call;
      told = e.told;
      store_cause = e.store_cause;
      store = e.store;
      reread = e.reread;
      keeper = e.keeper;
      file_cause = e.file_cause;
      file = e.file;
      unfiled = e.unfiled;
      link = e.link;
      replica = e.replica;
      over = e.over;
      link_cause = e.link_cause;
      room = e.room;
      good_file = e.good_file;
      good_store = e.good_store;
      good_replica = e.good_replica;
    }
