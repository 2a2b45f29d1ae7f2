use Rattle.std.proofs.Common.{length, map}
use Rattle.thr_syntax.specs.Lines.{joined, item_lines}
use Rattle.thr_limits.specs.Capped.{capped}
use Rattle.thr_limits.proofs.CountLaws.{count_end}
use Rattle.thr_limits.proofs.limits.items_count.Goals as goal

pub returns : goal.returns
returns c =
    count_end item_lines c.args.items.now c.loop-item.item-index c.loop-item.count (capped (length (joined (map item_lines c.args.items.now))))
    c.loop-item-test.false c.loop-item.invariant.1 c.loop-item.invariant.0
