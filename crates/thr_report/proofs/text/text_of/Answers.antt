use Rattle.std.proofs.Common.{◌++◌, ◌∙◌}
use Rattle.thr_verdict.specs.Report.{mutex_lines}
use Rattle.thr_report.specs.Reports.{counts_in}
use Rattle.thr_report.proofs.EightLines.{text_steps}
use Rattle.thr_report.proofs.text.text_of.Goals as goal

pub returns : goal.returns
returns c =
    text_steps c.args.s.now.names (counts_in c.args.r.now) c.args.r.now.stop c.new-out.result.items c.add_counts.new.out.items c.add_mutexes.new.out.items c.add_stop.new.out.items c.new-out.ensures.items
    c.in_ok-add_counts.ensures (c.in_ok-add_mutexes.ensures ∙ (λ i. c.add_counts.new.out.items ++ mutex_lines (c.as_slice.ensures i) (c.as_slice-2.ensures i))) c.in_ok-add_stop.ensures
