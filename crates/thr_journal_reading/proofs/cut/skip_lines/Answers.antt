use Rattle.std.proofs.Common.{rules, ◌≡◌, ◌≤◌, ◌<◌, ◌+◌, ◌∷◌, length, drop, ◌∙◌, arith}
use Rattle.thr_journals.specs.Faults.{parts_of}
use Rattle.thr_journal_reading.proofs.CutLaws.{one_past, one_text, too_few}
use Rattle.thr_journal_reading.proofs.cut.skip_lines.Goals as goal

pub returns-in_err-behind-clause-parts : goal.returns-in_err-behind-clause-parts
returns-in_err-behind-clause-parts c =
    let lt : c.lines.done < c.args.count = search rules in
    let few : length (parts_of c.args.text.now) ≤ c.args.count =
    too_few (parts_of c.args.text.now) c.lines.rest.now c.lines.done c.args.count (c.lines.invariant.parts ∙ c.in_err-behind.ensures.parts) lt in
    search rules

pub lines-preserved : goal.lines-preserved
lines-preserved c =
    let l = c.in_ok-behind.field-0-0.now in
    let behind = c.in_ok-behind.behind.now in
    let lt : c.lines.done < c.args.count = search rules in
    let cut : drop c.lines.done (parts_of c.args.text.now) ≡ l ∷ parts_of behind = c.lines.invariant.parts ∙ c.in_ok-behind.ensures.parts in
    record {
      parts = (one_past (parts_of c.args.text.now) (parts_of behind) l c.lines.done cut).0;
      whole = one_text (parts_of c.args.text.now) (parts_of behind) l behind c.lines.rest.now c.args.text.now c.lines.done cut c.lines.invariant.whole c.in_ok-behind.ensures.whole;
      room = omega (arith, c.in_ok-behind.ensures.less, c.lines.invariant.room);
      within = omega (arith, lt);
    }
