use Rattle.std.proofs.Common.{◌∙◌, ap, length}
use Rattle.thr_frames.specs.Stacks.{StackView, remainder_of}
use Rattle.thr_frames.proofs.ReplyCounts.{reply_items, reply_lines}
use Rattle.thr_frames.proofs.stack.Stack.give.Goals as goal

pub returns-clause-lines : goal.returns-clause-lines
returns-clause-lines c = reply_lines c.args.lines.now c.self.inside.context c.give.new.context c.args.reply.now c.args.notes.now c.give.new.notes c.give.ensures.replied

pub returns-clause-as_many : goal.returns-clause-as_many
returns-clause-as_many c =
    reply_items c.args.lines.now c.self.inside.context c.give.new.context c.args.reply.now c.args.notes.now c.give.new.notes c.give.ensures.replied
    ∙ ap (λ (k : StackView). length (remainder_of c.args.lines.now k).items) c.self.view_is
