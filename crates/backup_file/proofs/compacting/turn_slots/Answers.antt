use Rattle.backup_file.proofs.compacting.turn_slots.Goals as goal

pub returns-in_err-shut_slot-clause-images : goal.returns-in_err-shut_slot-clause-images
returns-in_err-shut_slot-clause-images g c = λ t rest l laid names newer. c.shut_slot.ensures.images t rest l laid names

pub returns-in_err-fill_slot-clause-images : goal.returns-in_err-fill_slot-clause-images
returns-in_err-fill_slot-clause-images g c = λ t rest l laid names newer.
    c.fill_slot.ensures.images t rest l (c.in_ok-shut_slot.ensures.shut t rest l laid names) names

pub returns-in_err-open_slot-clause-images : goal.returns-in_err-open_slot-clause-images
returns-in_err-open_slot-clause-images g c = λ t rest l laid names newer.
    c.open_slot.ensures.images t rest l (c.in_ok-fill_slot.ensures.filled t rest l (c.in_ok-shut_slot.ensures.shut t rest l laid names) names) names newer

pub returns-clause-images : goal.returns-clause-images
returns-clause-images g c = λ t rest l laid names newer.
    c.open_slot.ensures.images t rest l (c.in_ok-fill_slot.ensures.filled t rest l (c.in_ok-shut_slot.ensures.shut t rest l laid names) names) names newer

pub returns-clause-turned : goal.returns-clause-turned
returns-clause-turned g c = λ t rest l laid names newer.
    c.in_ok-open_slot.ensures.opened t rest l (c.in_ok-fill_slot.ensures.filled t rest l (c.in_ok-shut_slot.ensures.shut t rest l laid names) names) names newer
