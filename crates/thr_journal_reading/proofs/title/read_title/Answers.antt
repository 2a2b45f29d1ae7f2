use Rattle.std.proofs.Common.{rules, ◌≡◌, true, sym}
use Rattle.thr_journals.specs.Faults.{parts_of, is_title}
use Rattle.thr_journal_reading.proofs.CutLaws.{some_part}
use Rattle.thr_journal_reading.proofs.TitleLaws.{both_lines}
use Rattle.thr_journal_reading.proofs.title.read_title.Goals as goal

pub returns-in-Some-workers_in-clause-faultless : goal.returns-in-Some-workers_in-clause-faultless
returns-in-Some-workers_in-clause-faultless c =
    let titled : is_title c.in-Some.title.now ≡ true = search rules in
    let part = some_part c.in-Some-next_line.rest.now in
    both_lines (parts_of c.args.bytes.now) (parts_of c.in-Some.behind.now) c.in-Some.title.now c.in-Some-next_line.line.now (parts_of c.in-Some-next_line.rest.now) c.in-Some-workers_in.workers
    (record { whole = c.in-Some.ensures.parts; next = c.in-Some-next_line.line.now; others = parts_of c.in-Some-next_line.rest.now; some = c.in-Some-next_line.ensures.parts })
    (record { whole = c.in-Some-next_line.ensures.parts; next = part.0; others = part.1; some = part.2 }) titled (sym c.in-Some-workers_in.ensures)
