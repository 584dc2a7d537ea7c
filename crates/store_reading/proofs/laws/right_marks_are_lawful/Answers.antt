use Rattle.std.proofs.Common.{[], ◌+◌, length}
use Rattle.store_reading.specs.Rules.{has_number, is_right_mark}
use Rattle.store_reading.proofs.lemmas.Legal.{all_right, legal_from, no_wrong_unit, numbered, under_from}
use Rattle.store_reading.proofs.laws.right_marks_are_lawful.Goals as goal

pub returns-clause-numbered : goal.returns-clause-numbered
returns-clause-numbered c = λ marks h. numbered marks (all_right (λ before. has_number (length before + 1)) 4 [] marks h)

pub returns-clause-under : goal.returns-clause-under
returns-clause-under c = λ start headers modules steps marks locks each h whole.
    under_from start headers modules steps locks [] marks each (all_right (is_right_mark start headers) 4 [] marks h)
    (no_wrong_unit headers modules steps marks locks whole)

pub returns-clause-legal : goal.returns-clause-legal
returns-clause-legal c = λ start headers marks units same h. legal_from start headers units [] marks same (all_right (is_right_mark start headers) 4 [] marks h)
