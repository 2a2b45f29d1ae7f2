use Rattle.std.proofs.Common.{◌≡◌, ◌≤◌, ◌-◌, length, take, drop, arith, rules}
use Rattle.std.proofs.lemmas.Grind.{common_steps}
use Rattle.std.proofs.lemmas.List.{take-take}
use Rattle.thr_wire.proofs.Pieces.{gained-on}
use Rattle.thr_wire.proofs.whole.write_all.Goals as goal

pub loop-at-preserved : goal.loop-at-preserved
loop-at-preserved g c =
    let le : c.in-Ok.n ≤ length c.args.bytes.now - c.loop-at.at = grind (arith, common_steps) in
    let same : take c.in-Ok.n (take (length c.args.bytes.now - c.loop-at.at) (drop c.loop-at.at c.args.bytes.now)) ≡ take c.in-Ok.n (drop c.loop-at.at c.args.bytes.now) = take-take _ _ _ le in
    record {
      within = search rules;
      gained = gained-on _ _ _ c.args.bytes.now c.loop-at.at c.in-Ok.n c.loop-at.invariant.gained (rw same at c.in-Ok.ensures.bytes);
      later = search rules;
      quiet = search rules;
    }
