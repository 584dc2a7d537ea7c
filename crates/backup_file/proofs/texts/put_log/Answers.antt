use Rattle.std.proofs.Common.{ℕ, ◌∷◌, ◌++◌, [], List, ap, append_assoc, arith, subst, sym, take, ◌∙◌}
use Rattle.std.proofs.lemmas.List.{take_all}
use Rattle.std.proofs.lemmas.List.Elements.{All-get_or}
use Rattle.gate_log.specs.Logs.{opened}
use Rattle.backup_file.specs.declared.handed.Handed.{Handed}
use Rattle.backup_file.specs.declared.handed.Record.TheVariants.{Hand}
use Rattle.backup_file.specs.File.{compact, log_grammar}
use Rattle.backup_file.specs.Handing.{IsList}
use Rattle.backup_file.proofs.Compacts.{compact_more}
use Rattle.backup_file.proofs.texts.put_log.Goals as goal

pub put_list-requires : goal.put_list-requires
put_list-requires c =
    subst IsList (sym c.handed-item.is)
    (All-get_or IsList c.args.lists.now c.loop-handed.handed-index c.handed-item.result c.loop-handed-test.true c.requires)

pub loop-handed-preserved : goal.loop-handed-preserved
loop-handed-preserved c =
    let first : List ℕ = c.args.out.now.items in
    let lists = c.args.lists.now in
    let i = c.loop-handed.handed-index in
    let h : Handed = c.handed-item.result in
    c.in_ok-put_list.ensures
    ∙ ap (λ (b : List ℕ). b ++ opened log_grammar (Hand h)) c.loop-handed.invariant
    ∙ append_assoc first (compact (take i lists)) (opened log_grammar (Hand h))
    ∙ ap (λ (b : List ℕ). first ++ b) (compact_more lists i h c.loop-handed-test.true c.handed-item.is)

pub returns : goal.returns
returns c =
    let first : List ℕ = c.args.out.now.items in
    let lists = c.args.lists.now in
    let i = c.loop-handed.handed-index in
    c.in_ok-push.ensures.items
    ∙ ap (λ (b : List ℕ). b ++ 0 ∷ [])
    (c.loop-handed.invariant ∙ ap (λ (ls : List Handed). first ++ compact ls) (take_all i lists (omega (arith, c.loop-handed-test.false))))
    ∙ append_assoc first (compact lists) (0 ∷ [])
