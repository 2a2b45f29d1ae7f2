use Rattle.std.proofs.Common.{◌≡◌, true, false, sym, refl, ap, ◌∙◌, arith}
use Rattle.std.specs.Prelude.{Bool}
use Rattle.std.specs.Str.Lines.{lines}
use Rattle.std.proofs.lemmas.Result.{err_from_is_err_and}
use Rattle.thr_text.specs.Reading.{scan_faults}
use Rattle.thr_forms.proofs.LineScans.{stops_by_words, stops_by_form, goes_on, keeps_on, counts_on, nothing_at_end, header_at_end, kept_at_end}
use Rattle.thr_forms.proofs.scan.read_lines.Goals as goal

pub returns-in_err-words-clause-fault : goal.returns-in_err-words-clause-fault
returns-in_err-words-clause-fault c =
    let p = err_from_is_err_and c.from_residual.result c.from_residual.ensures.1 in
    rw (p.1, p.2) (stops_by_words c.in_err-words.field-0.0 c.loop-line.at c.loop-line.seen c.in-Some.line.now _ _ _ c.in-Some.ensures.lines c.in_err-words.ensures.fault c.loop-line.invariant.faults)

pub returns-in_err-seen-clause-fault : goal.returns-in_err-seen-clause-fault
returns-in_err-seen-clause-fault c =
    let p = err_from_is_err_and c.from_residual-in_err-seen.result c.from_residual-in_err-seen.ensures.1 in
    let w = c.in_ok-words.ensures.words in
    rw (p.1, p.2) (stops_by_form c.in_err-seen.field-0.0 c.loop-line.at c.loop-line.seen c.in-Some.line.now c.in_ok-words.words _ _ _ c.in-Some.ensures.lines w.0 w.1 c.in_err-seen.ensures.fault c.loop-line.invariant.faults)

pub loop-line-preserved : goal.loop-line-preserved
loop-line-preserved c =
    let l = c.loop-line in
    let w = c.in_ok-words.ensures.words in
    let k = c.in_ok-seen.ensures in
    record {
      faults = goes_on l.at l.seen _ c.in-Some.line.now c.in_ok-words.words _ _ _ c.in-Some.ensures.lines w.0 w.1 k.faults k.seen l.invariant.faults;
      kept = keeps_on l.kept.items _ l.at l.seen _ c.in-Some.line.now c.in_ok-words.words _ _ _ c.in-Some.ensures.lines w.1 k.kept k.seen l.invariant.kept;
      count = counts_on l.at _ c.in-Some.line.now _ _ c.in-Some.ensures.lines l.invariant.count;
      room = omega (arith, c.in-Some.ensures.less);
    }

pub returns-then-not-seen-clause-fault : goal.returns-then-not-seen-clause-fault
returns-then-not-seen-clause-fault c =
    let l = c.loop-line in
    let none : l.seen ≡ false = cc in
    let so_far : scan_faults l.at false (lines l.rest.now) ≡ scan_faults 1 false (lines c.args.bytes.now) = ap (λ (b : Bool). scan_faults l.at b (lines l.rest.now)) (sym none) ∙ l.invariant.faults in
    rw (c.refused.ensures, header_at_end l.at (lines l.rest.now) _ c.in_default.ensures.lines so_far) refl

pub returns-clause-plain : goal.returns-clause-plain
returns-clause-plain c =
    let l = c.loop-line in
    let some : l.seen ≡ true = cc in
    let so_far : scan_faults l.at true (lines l.rest.now) ≡ scan_faults 1 false (lines c.args.bytes.now) = ap (λ (b : Bool). scan_faults l.at b (lines l.rest.now)) (sym some) ∙ l.invariant.faults in
    nothing_at_end l.at (lines l.rest.now) _ c.in_default.ensures.lines so_far

pub returns-clause-lines : goal.returns-clause-lines
returns-clause-lines c = kept_at_end c.loop-line.kept.items c.loop-line.at c.loop-line.seen (lines c.loop-line.rest.now) _ c.in_default.ensures.lines c.loop-line.invariant.kept
