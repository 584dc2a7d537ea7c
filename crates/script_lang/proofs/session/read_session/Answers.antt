use Rattle.std.proofs.Common.{◌≡◌, Some, rules}
use Rattle.script_lang.specs.Words.{verb_of}
use Rattle.script_lang.proofs.ListVerbs.{begins_so}
use Rattle.script_lang.proofs.session.read_session.Goals as goal

pub returns-in_ok-verb-in-Some-clause-no_memory : goal.returns-in_ok-verb-in-Some-clause-no_memory
returns-in_ok-verb-in-Some-clause-no_memory c =
    let named : verb_of c.in-Some.verb.now ≡ Some c.in_ok-verb-in-Some.verb = search rules in
    λ e. begins_so c.args.text.now c.in-Some.verb.now c.in-Some.rest.now c.in_ok-verb-in-Some.verb c.in-Some.ensures.cut named
    (c.read_verb_line.ensures.no_memory e)
