use Rattle.std.proofs.Common.{ap, sym, ◌∙◌}
use Rattle.thr_model.specs.States.{with_writes}
use Rattle.thr_frames.specs.Stacks.{remainder_of}
use Rattle.thr_turns.proofs.ReplyLaws.{stores-are}
use Rattle.thr_turns.proofs.StoreLaws.{replies-fit}
use Rattle.thr_turns.proofs.replies.take_reply.Goals as goal

pub put_all-requires-clause-first : goal.put_all-requires-clause-first
put_all-requires-clause-first c =
    let s = c.args.lines.now in
    (replies-fit s (remainder_of s c.args.stack.now) c.args.reply c.next_call.result c.give-writes.result.first c.give-writes.result.second (c.names_are_of_their_kinds.ensures.line s c.requires.formed) (c.lines_and_names_are_few.ensures.below s c.requires.formed)
    (c.lines_and_names_are_few.ensures.names s c.requires.formed) c.next_call.ensures c.give-writes.ensures.first c.give-writes.ensures.second).0

pub put_all-requires-clause-second : goal.put_all-requires-clause-second
put_all-requires-clause-second c =
    let s = c.args.lines.now in
    (replies-fit s (remainder_of s c.args.stack.now) c.args.reply c.next_call.result c.give-writes.result.first c.give-writes.result.second (c.names_are_of_their_kinds.ensures.line s c.requires.formed) (c.lines_and_names_are_few.ensures.below s c.requires.formed)
    (c.lines_and_names_are_few.ensures.names s c.requires.formed) c.next_call.ensures c.give-writes.ensures.first c.give-writes.ensures.second).1

pub returns-clause-stored : goal.returns-clause-stored
returns-clause-stored c =
    c.put_all.ensures ∙ ap (with_writes c.args.workings.now.shared) (c.give-writes.ensures.writes ∙ sym (stores-are (remainder_of c.args.lines.now c.args.stack.now) c.args.reply))
