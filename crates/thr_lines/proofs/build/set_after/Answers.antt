use Rattle.std.proofs.Common.{take}
use Rattle.std.proofs.lemmas.List.{length-take-le}
use Rattle.thr_lines.proofs.Builds.{settling_first, settling_part, settling_more, settling_last}
use Rattle.thr_lines.proofs.build.set_after.Goals as goal

pub set_after-place-requires : goal.set_after-place-requires
set_after-place-requires c =
    let front = take c.args.half c.args.rows.now in
    settling_part front c.loop-i.rows c.args.half c.loop-i.place c.loop-i.i c.args.after c.args.clauses.now (length-take-le c.args.half c.args.rows.now c.requires.within) c.loop-i-test.true c.loop-i.invariant

pub returns : goal.returns
returns c = settling_last (take c.args.half c.args.rows.now) c.loop-i.rows c.args.half c.loop-i.place c.loop-i.i c.args.after c.args.clauses.now c.loop-i-test.false c.loop-i.invariant

pub loop-i-init : goal.loop-i-init
loop-i-init c = settling_first (take c.args.half c.args.rows.now) c.args.rows.now c.args.half c.args.after c.args.clauses.now c.requires.made

pub loop-i-preserved : goal.loop-i-preserved
loop-i-preserved c =
    let front = take c.args.half c.args.rows.now in
    settling_more front c.loop-i.rows c.args.half c.loop-i.place c.loop-i.i c.args.after c.args.clauses.now c.set_after-place.new.self c.set_after-place.result
    (length-take-le c.args.half c.args.rows.now c.requires.within) c.loop-i-test.true c.loop-i.invariant c.set_after-place.ensures.rows c.set_after-place.ensures.next
