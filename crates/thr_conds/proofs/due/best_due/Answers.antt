use Rattle.std.proofs.Common.{◌≡◌, ◌∙◌, sym, arith, Some, None, to_z, of_z, w64}
use Rattle.std.proofs.lemmas.Int.{to_z-of_z}
use Rattle.thr_conds.proofs.DueLaws.{due_none, due_taken, due_passed, best_found}
use Rattle.thr_conds.proofs.due.best_due.Goals as goal

pub loop-i-init : goal.loop-i-init
loop-i-init c = record { within = omega arith; best = due_none c.args.rows.now _ c.args.waits.now _ (omega arith) }

pub loop-i-preserved-in-Some : goal.loop-i-preserved-in-Some
loop-i-preserved-in-Some c = record {
  within = omega arith;
  best = due_taken c.args.rows.now _ c.args.waits.now c.loop-i.i _ c.in-Some.seat c.loop-i.found c.better.result c.loop-i-test.true c.loop-i.invariant.within
      c.in-Some.ensures c.loop-i.invariant.best c.better.ensures;
}

pub loop-i-preserved : goal.loop-i-preserved
loop-i-preserved c = record {
  within = omega arith;
  best = due_passed c.args.rows.now _ c.args.waits.now c.loop-i.i _ c.loop-i.found c.loop-i-test.true c.loop-i.invariant.within c.in_default.ensures c.loop-i.invariant.best;
}

pub returns-in-None : goal.returns-in-None
returns-in-None c =
    let back : to_z w64 (of_z w64 c.args.now) ≡ c.args.now = to_z-of_z w64 c.args.now c.ranges.now in
    best_found c.args.rows.now _ c.args.now c.args.waits.now c.loop-i.i None back (omega arith) c.requires.waits_rise c.requires.seats_rise (sym c.in-None.is ∙ c.loop-i.invariant.best)

pub returns-in-Some-found : goal.returns-in-Some-found
returns-in-Some-found c =
    let back : to_z w64 (of_z w64 c.args.now) ≡ c.args.now = to_z-of_z w64 c.args.now c.ranges.now in
    best_found c.args.rows.now _ c.args.now c.args.waits.now c.loop-i.i (Some c.in-Some-found.entry) back (omega arith) c.requires.waits_rise c.requires.seats_rise
    (sym c.in-Some-found.is ∙ c.loop-i.invariant.best)
