use Rattle.std.proofs.Common.{◌≡◌, ◌+◌, ◌≤◌, length, map, drop}
use Rattle.thr_syntax.specs.Lines.{joined, item_lines}
use Rattle.thr_limits.specs.Capped.{capped}
use Rattle.thr_limits.proofs.limits.items_count.Given as goal

abbrev pub invariant-loop-item : goal.invariant-loop-item
invariant-loop-item l = (capped (l.count + length (joined (map item_lines (drop l.item-index l.items)))) ≡ capped (length (joined (map item_lines l.items)))) × (l.count ≤ 4294967295)
