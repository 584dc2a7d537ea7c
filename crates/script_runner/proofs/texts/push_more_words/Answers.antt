use Rattle.std.proofs.Common.{[], ◌∷◌, ◌++◌, ◌∙◌, ap, codes, decimal}
use Rattle.script_runner.specs.Texts.{spaced}
use Rattle.script_runner.proofs.texts.push_more_words.Goals as goal

pub returns-in-IntervalBusy-clause-text : goal.returns-in-IntervalBusy-clause-text
returns-in-IntervalBusy-clause-text c =
    rw c.in-IntervalBusy.is (c.push_words.ensures ∙ (λ i. c.args.text.now.items ++ spaced (codes "INTERVAL_BUSY" ∷ c.bytes.ensures.same i ∷ [])))

pub returns-in-IntervalOverflow-clause-text : goal.returns-in-IntervalOverflow-clause-text
returns-in-IntervalOverflow-clause-text c = rw c.in-IntervalOverflow.is c.push_counted-in-IntervalOverflow.ensures.text

pub returns-in-WorkerBusy-clause-text : goal.returns-in-WorkerBusy-clause-text
returns-in-WorkerBusy-clause-text c =
    rw c.in-WorkerBusy.is
    (c.push_words-in-WorkerBusy.ensures
    ∙ (λ i. c.args.text.now.items ++ spaced (codes "WORKER_BUSY" ∷ (c.as_slice.ensures.value ∙ c.unit_text.ensures.text) i ∷ [])))

pub returns-in-BadArgument-clause-text : goal.returns-in-BadArgument-clause-text
returns-in-BadArgument-clause-text c =
    rw c.in-BadArgument.is
    (c.push_words-in-BadArgument.ensures ∙ (λ i. c.args.text.now.items ++ spaced (codes "BAD_ARGUMENT" ∷ c.kind_text.ensures.text i ∷ [])))

pub returns-in-ContainerFull-clause-text : goal.returns-in-ContainerFull-clause-text
returns-in-ContainerFull-clause-text c = rw c.in-ContainerFull.is c.push_words-in-ContainerFull.ensures

pub returns-in-UnknownVariable-clause-text : goal.returns-in-UnknownVariable-clause-text
returns-in-UnknownVariable-clause-text c =
    rw c.in-UnknownVariable.is
    (c.push_words-in-UnknownVariable.ensures
    ∙ (λ i. c.args.text.now.items ++ spaced (codes "UNKNOWN_VARIABLE" ∷ c.bytes-in-UnknownVariable.ensures.same i ∷ [])))

pub returns-in-SessionsFull-clause-text : goal.returns-in-SessionsFull-clause-text
returns-in-SessionsFull-clause-text c = rw c.in-SessionsFull.is c.push_words-in-SessionsFull.ensures

pub returns-in-UnitClaimed-clause-text : goal.returns-in-UnitClaimed-clause-text
returns-in-UnitClaimed-clause-text c =
    rw c.in-UnitClaimed.is
    (c.push_counted-in-UnitClaimed.ensures.text ∙ ap (λ n. c.args.text.now.items ++ spaced (codes "UNIT_CLAIMED" ∷ decimal n ∷ []))
    c.from-in-UnitClaimed.ensures)
