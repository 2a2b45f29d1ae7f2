use Rattle.std.proofs.Common.{subst}
use Rattle.thr_stack.specs.FrameLists.{AtOnce}
use Rattle.thr_frames.proofs.RunLaws.{stays_quiet, stays_undone, goes_out, out_lines, out_counted, out_once}
use Rattle.thr_frames.proofs.run.go_outward.Goals as goal

pub returns-in_default-clause-makes : goal.returns-in_default-clause-makes
returns-in_default-clause-makes c = stays_quiet c.args.lines.now c.args.context.now c.args.notes.now c.requires.good c.in_default.is

pub returns-then-at_once-clause-makes : goal.returns-then-at_once-clause-makes
returns-then-at_once-clause-makes c =
    let k = c.args.context.now in
    stays_undone c.args.lines.now k c.in-Some.u c.args.notes.now c.requires.good c.in-Some.is (subst (AtOnce k.frames.items) c.if-at_once.true c.at_once.ensures)

pub returns-clause-makes : goal.returns-clause-makes
returns-clause-makes c =
    let k = c.args.context.now in
    goes_out c.args.lines.now k c.settle.new.context c.in-Some.u c.args.notes.now c.settle.new.notes c.in-Some.is (subst (AtOnce k.frames.items) c.if-at_once.false c.at_once.ensures) c.settle.ensures

pub returns-clause-lines : goal.returns-clause-lines
returns-clause-lines c = out_lines c.args.lines.now c.args.context.now c.settle.new.context c.args.notes.now c.settle.new.notes (returns-clause-makes c)

pub returns-clause-counted : goal.returns-clause-counted
returns-clause-counted c = out_counted c.args.lines.now c.args.context.now c.settle.new.context c.args.notes.now c.settle.new.notes (returns-clause-makes c)

pub returns-clause-once : goal.returns-clause-once
returns-clause-once c = out_once c.args.lines.now c.args.context.now c.settle.new.context c.args.notes.now c.settle.new.notes (returns-clause-makes c)
