use Rattle.std.proofs.Common.{◌++◌, ap, length, ◌∙◌, arith}
use Rattle.thr_model.specs.Calls.{Gifts}
use Rattle.thr_model.specs.Turns.{gift_lines}
use Rattle.thr_services.specs.Answers.{listed}
use Rattle.thr_frames.specs.Stacks.{remainder_of}
use Rattle.thr_turns.proofs.NameLaws.{next-fits}
use Rattle.thr_turns.proofs.AnswerLaws.{answer-gives}
use Rattle.thr_turns.proofs.CallLaws.{call-step}
use Rattle.thr_turns.proofs.calls.answer_call.Goals as goal

pub answer-answer-requires-clause-fit : goal.answer-answer-requires-clause-fit
answer-answer-requires-clause-fit c =
    let s = c.args.lines.now in
    next-fits s (remainder_of s c.args.stack.now) c.args.call.now (c.names_are_of_their_kinds.ensures.line s c.requires.formed) (c.lines_and_names_are_few.ensures.below s c.requires.formed) (c.lines_and_names_are_few.ensures.names s c.requires.formed) c.requires.next

pub write_gifts-requires : goal.write_gifts-requires
write_gifts-requires c =
    omega (
      arith,
      c.requires.room,
      ap length c.given.ensures,
      c.write.ensures.len,
      c.write.ensures.capacity,
      answer-gives c.args.lines.now c.args.workings.now.services c.answer-answer.new.self c.answer-answer.result c.answer-answer.new.gifts c.args.t c.args.call.now (listed c.args.ns) c.answer-answer.ensures.answered c.requires.seats,
    )

pub go_on-requires-clause-room : goal.go_on-requires-clause-room
go_on-requires-clause-room c =
    omega (
      arith,
      c.requires.room,
      ap length c.given.ensures,
      c.write.ensures.len,
      c.write.ensures.capacity,
      c.write_gifts.ensures.len,
      c.write_gifts.ensures.capacity,
      answer-gives c.args.lines.now c.args.workings.now.services c.answer-answer.new.self c.answer-answer.result c.answer-answer.new.gifts c.args.t c.args.call.now (listed c.args.ns) c.answer-answer.ensures.answered c.requires.seats,
    )

pub returns-clause-steps : goal.returns-clause-steps
returns-clause-steps c =
    let s = c.args.lines.now in
    call-step s c.args.t c.args.workings.now.services c.answer-answer.new.self _ c.args.workings.now.shared _ c.args.stack.now _ c.args.workings.now.entries.items c.write.new.entries.items c.write_gifts.new.entries.items _ c.args.call.now (listed c.args.ns) c.answer-answer.result _ c.call_line.result _
    (c.named_routines_are_there.ensures.created s c.requires.formed) c.requires.next c.answer-answer.ensures.answered c.go_on.ensures.services c.call_line.ensures c.write.ensures.items
    (c.write_gifts.ensures.items ∙ ap (λ (gs : Gifts). c.write.new.entries.items ++ gift_lines gs) c.given.ensures) c.go_on.ensures.moved c.go_on.ensures.stored c.left_by.ensures

pub returns-clause-keeps : goal.returns-clause-keeps
returns-clause-keeps c = record {
  few = omega (
    arith,
    ap length c.given.ensures,
    c.write.ensures.len,
    c.write_gifts.ensures.len,
    c.go_on.ensures.keeps.few,
    answer-gives c.args.lines.now c.args.workings.now.services c.answer-answer.new.self c.answer-answer.result c.answer-answer.new.gifts c.args.t c.args.call.now (listed c.args.ns) c.answer-answer.ensures.answered c.requires.seats,
  );
  capacity = c.go_on.ensures.keeps.capacity ∙ c.write_gifts.ensures.capacity ∙ c.write.ensures.capacity;
  interface = c.go_on.ensures.keeps.interface;
}
