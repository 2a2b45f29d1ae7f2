use Rattle.std.proofs.Common.{sym, ◌∙◌}
use Rattle.thr_stack.specs.Sights.{shared_of}
use Rattle.thr_frames.specs.Stacks.{remainder_of, setting_of}
use Rattle.thr_asking.specs.Asking.{listed_values}
use Rattle.thr_asking.proofs.AskedLaws.{lacks, asks}
use Rattle.thr_asking.proofs.asking.asked.Goals as goal

pub returns-then-lacks_frames-clause-values : goal.returns-then-lacks_frames-clause-values
returns-then-lacks_frames-clause-values c =
    let s = c.args.lines.now in
    let k = c.args.stack.now in
    lacks (setting_of s k) (shared_of c.args.env.now.shared.now) c.args.call.now (remainder_of s k) (sym (c.lacks_frames.ensures s) ∙ c.if-lacks_frames.true)

pub returns-clause-values : goal.returns-clause-values
returns-clause-values c =
    let s = c.args.lines.now in
    let k = c.args.stack.now in
    asks (setting_of s k) (shared_of c.args.env.now.shared.now) c.args.call.now (remainder_of s k) (listed_values c.values_of.result) (sym (c.lacks_frames.ensures s) ∙ c.if-lacks_frames.false) c.values_of.ensures
