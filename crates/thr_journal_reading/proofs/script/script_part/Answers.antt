use Rattle.std.proofs.Common.{rules, ◌≡◌, ◌∷◌, [], true, false, drop, sym, ◌∙◌}
use Rattle.std.specs.Prelude.{codes}
use Rattle.std.specs.Str.{bytes_eq}
use Rattle.thr_journals.specs.Faults.{parts_of, script_text, script_faults}
use Rattle.thr_journal_reading.proofs.CutLaws.{some_part}
use Rattle.thr_journal_reading.proofs.PartLaws.{no_history_end, no_history, script_there, cut_off}
use Rattle.thr_journal_reading.proofs.script.script_part.Goals as goal

pub returns-in_err-history-clause-part : goal.returns-in_err-history-clause-part
returns-in_err-history-clause-part c =
    let gone : script_faults (parts_of c.args.rest.now) ≡ (3, 2) ∷ [] =
    no_history_end (parts_of c.args.rest.now) (parts_of c.in_ok-line.lines.now) c.in_ok-line.line.now c.in_ok-after.after.now c.in_ok-size.size c.in_ok-line.ensures.parts (sym c.in_ok-size.ensures)
    (sym c.in_ok-after.ensures.parts ∙ c.in_err-history.ensures.parts) in
    search rules

pub returns-then-ne-clause-part : goal.returns-then-ne-clause-part
returns-then-ne-clause-part c =
    let other : bytes_eq c.in_ok-history.history.now (codes "history") ≡ false = search rules in
    no_history (parts_of c.args.rest.now) (parts_of c.in_ok-line.lines.now) (parts_of c.in_ok-history.behind.now) c.in_ok-line.line.now c.in_ok-history.history.now c.in_ok-size.size c.in_ok-line.ensures.parts
    (sym c.in_ok-size.ensures) (sym c.in_ok-after.ensures.parts ∙ c.in_ok-history.ensures.parts) other

pub returns-clause-part : goal.returns-clause-part
returns-clause-part c =
    let same : bytes_eq c.in_ok-history.history.now (codes "history") ≡ true = search rules in
    let part = some_part c.in_ok-history.behind.now in
    script_there (parts_of c.args.rest.now) (parts_of c.in_ok-line.lines.now) (parts_of c.in_ok-history.behind.now) part.1 c.in_ok-line.line.now c.in_ok-history.history.now part.0 _ c.in_ok-size.size
    c.in_ok-line.ensures.parts (sym c.in_ok-size.ensures) (sym c.in_ok-after.ensures.parts ∙ c.in_ok-history.ensures.parts) part.2 same
    (sym (cut_off c.in_ok-line.lines.now (script_text c.in_ok-size.size (parts_of c.in_ok-line.lines.now)) c.in_ok-after.after.now c.in_ok-after.ensures.whole))
