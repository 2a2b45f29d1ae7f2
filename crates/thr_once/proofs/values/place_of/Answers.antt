use Rattle.std.proofs.Common.{rules}
use Rattle.std.proofs.lemmas.List.Sorted.{IsPartitionPoint-from_clause}
use Rattle.thr_once.specs.Values.{comes_before}
use Rattle.thr_once.proofs.OrderLaws.{parted, place_is}
use Rattle.thr_once.proofs.values.place_of.Goals as goal

pub returns : goal.returns
returns c =
    let k = c.args.k.0 in
    let t = c.args.t.0 in
    place_is k t c.args.values.now c.partition_point.result c.requires.known c.requires.ordered c.partition_point.ensures.bound
    (IsPartitionPoint-from_clause (comes_before k t) c.args.values.now c.partition_point.result c.partition_point.ensures.partitioned (parted k t c.args.values.now c.requires.known c.requires.ordered) (λ a r f' k. search rules))
