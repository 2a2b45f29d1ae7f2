use Rattle.std.proofs.Common.{◌∷◌, [], ap, sym, ◌∙◌, arith, length, length-append}
use Rattle.thr_values.specs.declared.history.What.TheVariants as what
use Rattle.thr_stack.specs.Standing.{remainder_of}
use Rattle.thr_frames.proofs.CallLaws.{can_call}
use Rattle.thr_frames.proofs.RunLaws.{ready_scopes, ready_unwindings, counted_then, counted_more, makes_quiet, quiet_lines, quiet_counted, quiet_once, not_undone, not_done, pass_undoes, pass_once, pass_shared, pass_point, pass_quiet, pass_paused}
use Rattle.thr_frames.proofs.run.pass.Goals as goal

pub step-requires-clause-ready : goal.step-requires-clause-ready
step-requires-clause-ready c =
    let s = c.args.lines.now in
    let old = c.args.context.now in
    let mid = c.advance.new.context in
    let made = c.advance.ensures.makes in
    let some = c.in-Quiet.ensures.2 in
    record {
      stands = record { good = made.good; line = c.advance.ensures.line some; some = some };
      scopes = omega (arith, ready_scopes s old mid c.args.notes.now c.advance.new.notes made, c.requires.numbers.scopes);
      unwindings = omega (arith, ready_unwindings s old mid c.args.notes.now c.advance.new.notes made, c.requires.numbers.unwindings);
      room = omega (arith, c.advance.ensures.lines, c.requires.room);
    }

pub step-requires-clause-calls : goal.step-requires-clause-calls
step-requires-clause-calls c = can_call c.args.lines.now c.requires.calls

pub returns-in-Undoes-clause-passed : goal.returns-in-Undoes-clause-passed
returns-in-Undoes-clause-passed c = pass_undoes _ _ _ _ _ _ c.advance.ensures.makes c.in-Undoes.ensures

pub returns-in-Undoes-clause-once : goal.returns-in-Undoes-clause-once
returns-in-Undoes-clause-once c all = absurd (not_undone c.args.lines.now c.advance.new.context c.in-Undoes.ensures (c.advance.ensures.once all))

pub returns-else-deliverable-clause-passed : goal.returns-else-deliverable-clause-passed
returns-else-deliverable-clause-passed c = pass_once _ _ _ _ _ _ c.advance.ensures.makes c.in-EndsOnce.ensures (sym c.deliverable.ensures ∙ c.if-deliverable.false)

pub returns-else-deliverable-clause-once : goal.returns-else-deliverable-clause-once
returns-else-deliverable-clause-once c all = absurd (not_done c.args.lines.now c.advance.new.context c.in-EndsOnce.ensures (c.advance.ensures.once all))

pub returns-else-deliverable-2-clause-passed : goal.returns-else-deliverable-2-clause-passed
returns-else-deliverable-2-clause-passed c = pass_shared _ _ _ _ _ _ c.advance.ensures.makes c.in-Shared.ensures (sym c.deliverable-in-Shared.ensures ∙ c.if-deliverable-2.false)

pub returns-else-deliverable-3-clause-passed : goal.returns-else-deliverable-3-clause-passed
returns-else-deliverable-3-clause-passed c = pass_point _ _ _ _ _ _ c.advance.ensures.makes c.in-Point.ensures (sym c.deliverable-in-Point.ensures ∙ c.if-deliverable-3.false)

pub returns-then-asynchronous-clause-passed : goal.returns-then-asynchronous-clause-passed
returns-then-asynchronous-clause-passed c =
    let s = c.args.lines.now in
    let mid = c.advance.new.context in
    let new = c.step.new.context in
    pass_paused s c.args.mode c.args.context.now mid c.args.notes.now c.advance.new.notes c.advance.ensures.makes c.in-Quiet.ensures new c.step.new.notes
    (sym c.deliverable-in-Quiet.ensures ∙ c.if-deliverable-4.false) (makes_quiet s mid new c.advance.new.notes c.step.new.notes c.step.ensures.steps)
    c.push-then-asynchronous.new.self (sym c.asynchronous.ensures ∙ c.if-asynchronous.true) c.push-then-asynchronous.ensures

pub returns-then-asynchronous-clause-lines : goal.returns-then-asynchronous-clause-lines
returns-then-asynchronous-clause-lines c =
    let n = quiet_lines c.args.lines.now c.advance.new.context c.step.new.context c.advance.new.notes c.step.new.notes c.step.ensures.steps in
    omega (arith, n, c.advance.ensures.lines, ap length c.push-then-asynchronous.ensures, length-append c.step.new.notes (what.Pause ∷ []))

pub returns-then-asynchronous-clause-counted : goal.returns-then-asynchronous-clause-counted
returns-then-asynchronous-clause-counted c =
    let s = c.args.lines.now in
    let old = c.args.context.now in
    let mid = c.advance.new.context in
    let new = c.step.new.context in
    let n = quiet_counted s mid new c.advance.new.notes c.step.new.notes c.step.ensures.steps in
    counted_more (remainder_of s old) (remainder_of s new) c.args.notes.now c.step.new.notes c.push-then-asynchronous.new.self
    (counted_then (remainder_of s old) (remainder_of s mid) (remainder_of s new) c.args.notes.now c.advance.new.notes c.step.new.notes c.advance.ensures.counted n) c.push-then-asynchronous.ensures

pub returns-then-asynchronous-clause-once : goal.returns-then-asynchronous-clause-once
returns-then-asynchronous-clause-once c all =
    (quiet_once c.args.lines.now c.advance.new.context c.step.new.context c.advance.new.notes c.step.new.notes c.step.ensures.steps (c.advance.ensures.once all), tt)

pub returns-else-asynchronous-clause-passed : goal.returns-else-asynchronous-clause-passed
returns-else-asynchronous-clause-passed c =
    let s = c.args.lines.now in
    let mid = c.advance.new.context in
    let new = c.step.new.context in
    pass_quiet s c.args.mode c.args.context.now mid c.args.notes.now c.advance.new.notes c.advance.ensures.makes c.in-Quiet.ensures new c.step.new.notes
    (sym c.deliverable-in-Quiet.ensures ∙ c.if-deliverable-4.false) (makes_quiet s mid new c.advance.new.notes c.step.new.notes c.step.ensures.steps)
    (sym c.asynchronous.ensures ∙ c.if-asynchronous.false)

pub returns-else-asynchronous-clause-goes : goal.returns-else-asynchronous-clause-goes
returns-else-asynchronous-clause-goes c =
    let n = quiet_lines c.args.lines.now c.advance.new.context c.step.new.context c.advance.new.notes c.step.new.notes c.step.ensures.steps in
    omega (arith, n, c.advance.ensures.lines)

pub returns-else-asynchronous-clause-lines : goal.returns-else-asynchronous-clause-lines
returns-else-asynchronous-clause-lines c = omega (arith, returns-else-asynchronous-clause-goes c)

pub returns-else-asynchronous-clause-counted : goal.returns-else-asynchronous-clause-counted
returns-else-asynchronous-clause-counted c =
    let s = c.args.lines.now in
    let old = c.args.context.now in
    let mid = c.advance.new.context in
    let new = c.step.new.context in
    let n = quiet_counted s mid new c.advance.new.notes c.step.new.notes c.step.ensures.steps in
    counted_then (remainder_of s old) (remainder_of s mid) (remainder_of s new) c.args.notes.now c.advance.new.notes c.step.new.notes c.advance.ensures.counted n

pub returns-else-asynchronous-clause-once : goal.returns-else-asynchronous-clause-once
returns-else-asynchronous-clause-once c all =
    (quiet_once c.args.lines.now c.advance.new.context c.step.new.context c.advance.new.notes c.step.new.notes c.step.ensures.steps (c.advance.ensures.once all), tt)
