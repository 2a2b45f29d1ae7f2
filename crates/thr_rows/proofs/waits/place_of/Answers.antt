use Rattle.std.proofs.Common.{◌≡◌, ◌<◌, ◌∙◌, ap, sym, arith, rules, length, deque_len, ℕ}
use Rattle.thr_parts.specs.declared.row.Seat.{Seat}
use Rattle.thr_rows.proofs.WaitLaws.{spot_here, spot_later, spot_nowhere}
use Rattle.thr_rows.proofs.waits.place_of.Goals as goal

pub returns-then-index-t : goal.returns-then-index-t
returns-then-index-t c =
    let same : deque_len c.args.queue.now ≡ length c.args.queue.now.items = search rules in
    spot_here c.args.t c.loop-i.i c.args.queue.now.items c.index.result.now (omega (arith, same, c.loop-i-test.true, c.len.ensures))
    (sym (ap (λ (e : ℕ × Seat). e.0) c.index.ensures) ∙ c.if-index-t.true) c.loop-i.invariant.so_far

pub loop-i-preserved : goal.loop-i-preserved
loop-i-preserved c =
    let same : deque_len c.args.queue.now ≡ length c.args.queue.now.items = search rules in
    let within : c.loop-i.i < length c.args.queue.now.items = omega (arith, same, c.loop-i-test.true, c.len.ensures) in
    record {
      within = omega (arith, within);
      so_far = spot_later c.args.t c.loop-i.i c.args.queue.now.items c.index.result.now within
          (λ h. c.if-index-t.false (ap (λ (e : ℕ × Seat). e.0) c.index.ensures ∙ h)) c.loop-i.invariant.so_far;
    }

pub returns : goal.returns
returns c =
    let same : deque_len c.args.queue.now ≡ length c.args.queue.now.items = search rules in
    spot_nowhere c.args.t c.loop-i.i c.args.queue.now.items (omega (arith, same, c.loop-i-test.false, c.len.ensures)) c.loop-i.invariant.so_far
