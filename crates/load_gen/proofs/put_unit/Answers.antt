use Rattle.std.proofs.Common.{◌≡◌, ◌++◌, string_bytes, subst}
use Rattle.load_gen.specs.Script.{commit_line, header_line, item_line, line_text, lines_by, lock_line, number_line, statistics_line, text_of, work_lines}
use Rattle.load_gen.proofs.Scripts.{in_turn, weaker_ok}
use Rattle.load_gen.proofs.put_unit.Goals as goal

pub returns : goal.returns
returns c =
    let k = c.args.unit in
    let s = c.session_of-session.result in
    let end = string_bytes c.put_work.new.text in
    let work = text_of work_lines in
    let commit = line_text (commit_line s) ++ work in
    let statistics = line_text (statistics_line s) ++ commit in
    let item = line_text (item_line s k) ++ statistics in
    let header = line_text (header_line s k) ++ item in
    let number = line_text (number_line s) ++ header in
    weaker_ok c.put_work.result
    (λ h. subst (λ x. end ≡ string_bytes c.args.text.now ++ text_of (lines_by x k)) c.session_of-session.ensures
    (in_turn (string_bytes c.args.text.now) (string_bytes c.put_lock.new.text) end (line_text (lock_line s k)) number c.in_ok-put_lock.ensures
    (in_turn (string_bytes c.put_lock.new.text) (string_bytes c.put_number.new.text) end (line_text (number_line s)) header c.in_ok-put_number.ensures
    (in_turn (string_bytes c.put_number.new.text) (string_bytes c.put_header.new.text) end (line_text (header_line s k)) item c.in_ok-put_header.ensures
    (in_turn (string_bytes c.put_header.new.text) (string_bytes c.put_item.new.text) end (line_text (item_line s k)) statistics c.in_ok-put_item.ensures
    (in_turn (string_bytes c.put_item.new.text) (string_bytes c.put_statistics.new.text) end
    (line_text (statistics_line s)) commit c.in_ok-put_statistics.ensures
    (in_turn (string_bytes c.put_statistics.new.text) (string_bytes c.put_commit.new.text) end
    (line_text (commit_line s)) work c.in_ok-put_commit.ensures h)))))))
    c.put_work.ensures
