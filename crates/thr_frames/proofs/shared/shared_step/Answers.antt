use Rattle.std.proofs.Common.{◌≡◌, ◌≢◌, [], IfSome, sym, rules, refl, Some, None, Option, ℤ}
use Rattle.thr_values.specs.declared.number.NameId.{NameId}
use Rattle.thr_remainder.specs.Remainders.{place_in}
use Rattle.thr_remainder.specs.Steps.{write_at}
use Rattle.thr_stack.specs.Sights.{shared_of}
use Rattle.thr_stack.specs.Standing.{remainder_of, setting_of}
use Rattle.thr_frames.specs.Stacks.{IsSet}
use Rattle.thr_frames.proofs.CallLaws.{can_call}
use Rattle.thr_frames.proofs.SharedLaws.{makes_shared, writes_shared, makes_none, writes_none, shared_once, sets_shared}
use Rattle.thr_frames.proofs.shared.shared_step.Goals as goal

pub returns-then-is_empty-clause-steps : goal.returns-then-is_empty-clause-steps
returns-then-is_empty-clause-steps c = makes_none c.args.lines.now c.args.context.now (shared_of c.args.shared.now) (c.if-is_empty.ensures.0 refl) c.args.notes.now c.requires.good

pub returns-then-is_empty-clause-written : goal.returns-then-is_empty-clause-written
returns-then-is_empty-clause-written c = sym (writes_none c.args.lines.now c.args.context.now (shared_of c.args.shared.now) (c.if-is_empty.ensures.0 refl))

pub step-requires-clause-calls : goal.step-requires-clause-calls
step-requires-clause-calls c = can_call c.args.lines.now c.requires.calls

pub returns-clause-steps : goal.returns-clause-steps
returns-clause-steps c = makes_shared c.args.lines.now c.args.context.now c.go_to_step.new.context c.step.new.context c.args.notes.now c.step.new.notes c.go_to_step.ensures (shared_of c.args.shared.now) c.step.ensures.steps

pub returns-clause-written : goal.returns-clause-written
returns-clause-written c = writes_shared c.args.lines.now c.args.context.now c.go_to_step.new.context c.step.new.context c.args.notes.now c.step.new.notes c.go_to_step.ensures (shared_of c.args.shared.now) c.step.result c.step.ensures.written

pub returns-clause-set : goal.returns-clause-set
returns-clause-set c = by c.step.result c.step.ensures.written
  where
    by : (o : Option (NameId × ℤ)) → o ≡ write_at (setting_of c.args.lines.now c.go_to_step.new.context) (shared_of c.args.shared.now) (place_in (remainder_of c.args.lines.now c.go_to_step.new.context).items) (remainder_of c.args.lines.now c.go_to_step.new.context) →
        IfSome o (λ w. IsSet c.args.lines.now w.0)
    by None e = tt
    by (Some w) e =
        let k = c.go_to_step.new.context in
        let some : k.frames.items ≢ [] = search rules in
        let h = c.go_to_step.ensures.line some in
        sets_shared c.args.lines.now k (shared_of c.args.shared.now) w some h.line h.place (sym e)

pub returns-clause-once : goal.returns-clause-once
returns-clause-once c = shared_once c.args.lines.now (shared_of c.args.shared.now) c.args.context.now c.step.new.context c.args.notes.now c.step.new.notes (returns-clause-steps c)
