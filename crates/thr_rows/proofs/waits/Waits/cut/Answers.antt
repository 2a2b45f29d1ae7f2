use Rattle.std.proofs.Common.{◌≡◌, ◌<◌, ◌↔◌, ◌∙◌, ap, subst, arith, rules, length, deque_len, deque_items}
use Rattle.std.specs.List.{remove}
use Rattle.std.specs.Option.{IsSome}
use Rattle.thr_parts.specs.declared.row.Seat.{Seat}
use Rattle.thr_parts.specs.Tables.{Table, cut}
use Rattle.thr_rows.specs.Waits.{is_queue, table_of}
use Rattle.thr_rows.proofs.WaitLaws.{left_after, queue_without, table_without}
use Rattle.thr_rows.proofs.waits.Waits.cut.Goals as goal

pub invariant_of-self : goal.invariant_of-self
invariant_of-self c =
    let same : deque_len c.self.inside.queue ≡ length c.self.inside.queue.items = search rules in
    let there : IsSome c.remove.result ↔ (c.place_of-place.result < length c.self.inside.queue.items) =
    subst (λ n. IsSome c.remove.result ↔ (c.place_of-place.result < n)) same c.remove.ensures.variant in
    let left : c.remove.new.self.items ≡ remove c.self.inside.queue.items c.place_of-place.result =
    left_after deque_items c.remove.result c.self.inside.queue c.remove.new.self c.place_of-place.result c.args.t.0 c.place_of-place.ensures c.remove.ensures.items c.remove.ensures.unchanged there in (
      ap is_queue left ∙ queue_without c.args.t.0 c.place_of-place.result c.self.inside.queue.items c.place_of-place.ensures c.self.invariant.0,
      omega (arith, c.remove.ensures.capacity, c.self.invariant.1),
    )

pub returns : goal.returns
returns c =
    let same : deque_len c.self.inside.queue ≡ length c.self.inside.queue.items = search rules in
    let there : IsSome c.remove.result ↔ (c.place_of-place.result < length c.self.inside.queue.items) =
    subst (λ n. IsSome c.remove.result ↔ (c.place_of-place.result < n)) same c.remove.ensures.variant in
    let left : c.remove.new.self.items ≡ remove c.self.inside.queue.items c.place_of-place.result =
    left_after deque_items c.remove.result c.self.inside.queue c.remove.new.self c.place_of-place.result c.args.t.0 c.place_of-place.ensures c.remove.ensures.items c.remove.ensures.unchanged there in
    ap table_of left ∙ table_without c.args.t.0 c.place_of-place.result c.self.inside.queue.items c.place_of-place.ensures c.self.invariant.0
    ∙ ap (λ (m : Table Seat). cut m c.args.t.0) c.self.view_is
