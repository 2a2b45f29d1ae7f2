use Rattle.std.proofs.Common.{◌≡◌, ℕ, ◌<◌, length, get_or, take}
use Rattle.thr_report.specs.Counting.{times}
use Rattle.thr_report.proofs.counting.gains.Given as goal

abbrev pub invariant-loop-entry : goal.invariant-loop-entry
invariant-loop-entry l = record {
  len : length l.table.items ≡ l.count;
  each : (k : ℕ) → k < l.count → get_or l.table.items k 0 ≡ times (take l.entry-index l.entries) k;
}
