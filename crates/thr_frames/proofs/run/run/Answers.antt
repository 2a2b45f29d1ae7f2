use Rattle.std.proofs.Common.{◌≡◌, ◌∙◌, ◌-◌, ◌+◌, suc, arith}
use Rattle.thr_stack.specs.Standing.{remainder_of}
use Rattle.thr_frames.proofs.RunLaws.{counted_then, run_ends, run_goes, run_pauses}
use Rattle.thr_frames.proofs.run.run.Goals as goal

pub returns-in-Some-clause-ran : goal.returns-in-Some-clause-ran
returns-in-Some-clause-ran c =
    let i = c.loop-i.invariant in
    let e : 64 - c.loop-i.i ≡ suc (64 - (c.loop-i.i + 1)) = omega (arith, c.loop-i-test.true) in
    run_ends c.args.lines.now c.args.mode c.args.context.now c.loop-i.context c.pass.new.context c.loop-i.notes c.pass.new.notes (64 - c.loop-i.i) i.setting i.run (64 - (c.loop-i.i + 1)) e c.in-Some.stopped c.in-Some.ensures.passed

pub loop-i-preserved : goal.loop-i-preserved
loop-i-preserved c =
    let i = c.loop-i.invariant in
    let s = c.args.lines.now in
    let first = c.args.context.now in
    let e : 64 - c.loop-i.i ≡ suc (64 - (c.loop-i.i + 1)) = omega (arith, c.loop-i-test.true) in
    let p = c.in_default.ensures in
    record {
      good = p.passed.good;
      room = omega (arith, i.room, p.goes);
      counted = counted_then (remainder_of s first) (remainder_of s c.loop-i.context) (remainder_of s c.pass.new.context) c.args.notes.now c.loop-i.notes c.pass.new.notes i.counted p.counted;
      once = λ all. (p.once (i.once all)).0;
      setting = p.passed.setting ∙ i.setting;
      run = run_goes s c.args.mode first c.loop-i.context c.pass.new.context c.loop-i.notes c.pass.new.notes (64 - c.loop-i.i) i.setting i.run (64 - (c.loop-i.i + 1)) e p.passed;
    }

pub returns-clause-ran : goal.returns-clause-ran
returns-clause-ran c =
    let i = c.loop-i.invariant in
    let e : 64 - c.loop-i.i ≡ 0 = omega (arith, c.loop-i-test.false) in
    run_pauses c.args.lines.now c.args.mode c.args.context.now c.loop-i.context c.loop-i.context c.loop-i.notes c.push.new.self (64 - c.loop-i.i) i.setting i.run e i.good c.push.ensures
