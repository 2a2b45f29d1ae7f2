use Rattle.std.proofs.Common.{◌≡◌, ◌<◌, ◌≤◌, ◌∙◌, ap, sym, subst, arith, rules, length, false, deque_len, deque_capacity}
use Rattle.std.specs.List.{insert}
use Rattle.thr_parts.specs.declared.row.Seat.{Seat}
use Rattle.thr_parts.specs.Tables.{Table, has, put}
use Rattle.thr_parts.specs.Rows.{most}
use Rattle.thr_rows.specs.Waits.{is_queue, table_of}
use Rattle.thr_rows.proofs.WaitLaws.{table_length, fresh_in_queue, done_unless, queue_inserted, table_inserted}
use Rattle.thr_rows.proofs.waits.Waits.add.Goals as goal

pub joined : (c : goal.After-insert) → c.insert.new.self.items ≡ insert c.self.inside.queue.items c.place_for-place.result (c.args.t.0, c.args.seat)
joined c =
    let same : deque_len c.self.inside.queue ≡ length c.self.inside.queue.items = search rules in
    let fewer : length (table_of c.self.inside.queue.items) < most = subst (λ (m : Table Seat). length m < most) (sym c.self.view_is) c.requires.room in
    let long : length (table_of c.self.inside.queue.items) ≡ length c.self.inside.queue.items = table_length c.self.inside.queue.items c.self.invariant.0 in
    done_unless c.insert.result _ (deque_capacity c.self.inside.queue ≤ deque_len c.self.inside.queue) c.insert.ensures.items c.insert.ensures.full
    (λ full. omega (arith, same, fewer, long, full, c.self.invariant.1))

pub invariant_of-self : goal.invariant_of-self
invariant_of-self c =
    let fresh : has c.self.inside.queue.items c.args.t.0 ≡ false =
    fresh_in_queue c.self.inside.queue.items c.args.t.0 (subst (λ (m : Table Seat). has m c.args.t.0 ≡ false) (sym c.self.view_is) c.requires.fresh) in (
      ap is_queue (joined c)
          ∙ queue_inserted c.self.inside.queue.items c.place_for-place.result (c.args.t.0, c.args.seat) c.place_for-place.ensures.within c.self.invariant.0 fresh c.place_for-place.ensures.after c.place_for-place.ensures.before,
      omega (arith, c.insert.ensures.capacity, c.self.invariant.1),
    )

pub returns : goal.returns
returns c =
    let fresh : has c.self.inside.queue.items c.args.t.0 ≡ false =
    fresh_in_queue c.self.inside.queue.items c.args.t.0 (subst (λ (m : Table Seat). has m c.args.t.0 ≡ false) (sym c.self.view_is) c.requires.fresh) in
    ap table_of (joined c) ∙ table_inserted c.self.inside.queue.items c.place_for-place.result (c.args.t.0, c.args.seat) fresh
    ∙ ap (λ (m : Table Seat). put m c.args.t.0 c.args.seat) c.self.view_is
