use Rattle.std.proofs.Common.{◌≡◌, ◌-◌, ◌≤◌, length, drop}
use Rattle.std.specs.List.{filter}
use Rattle.thr_parts.specs.Rows.{place_in}
use Rattle.thr_parts.specs.Dispatch.{first}
use Rattle.thr_rows.proofs.waits.first_in.Given as goal

abbrev pub invariant-loop-i : goal.invariant-loop-i
invariant-loop-i l = record {
  within : l.i ≤ length l.queue.items;
  passed : first (filter (λ e. place_in l.row e.1.place) l.queue.items) ≡ first (filter (λ e. place_in l.row e.1.place) (drop l.i l.queue.items));
}

abbrev pub decreases-loop-i : goal.decreases-loop-i
decreases-loop-i l = length l.queue.items - l.i
