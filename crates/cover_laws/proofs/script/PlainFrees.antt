-- A DEQ of a script that lacks nothing has no variable.
use Rattle.script_lang.specs.declared.script_line.ScriptLine.{ScriptLine}
use Rattle.script_lang.specs.declared.script_line.ScriptLine.TheVariants as line
use Rattle.coverage.specs.Faults.{is_wrong_request}
use Rattle.coverage.specs.Lacks.{Numbered, is_guarded}
use Rattle.coverage.specs.Locks.{any_dollar}
use Rattle.cover_laws.proofs.needed.CoverageNeeded.{FreesArePlain}
use Rattle.cover_laws.proofs.script.Findings.{by_itself, none_found}
use Rattle.cover_laws.proofs.script.OwnLines.{place_among}

pub frees_are_plain : FreesArePlain
frees_are_plain os lines s object m scope values clean among =
    let free : ScriptLine = line.Deq s object m scope values in
    let p = (place_among s lines free among).place in
    let there : Numbered = (p.number, free) in
    by_itself (is_guarded lines) p.number (is_wrong_request os object values) (any_dollar values) _
    (none_found os lines clean p.before there p.after p.splits)
