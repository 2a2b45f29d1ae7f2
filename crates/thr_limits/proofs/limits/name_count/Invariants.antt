use Rattle.std.proofs.Common.{◌≡◌, ◌≤◌, length, take}
use Rattle.std.specs.List.{filter}
use Rattle.thr_limits.specs.Limits.{has_name}
use Rattle.thr_limits.proofs.limits.name_count.Given as goal

abbrev pub invariant-loop-item : goal.invariant-loop-item
invariant-loop-item l = (l.count ≡ length (filter has_name (take l.item-index l.items))) × (l.count ≤ l.item-index)
