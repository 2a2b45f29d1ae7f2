use Rattle.std.proofs.Common.{◌≡◌, ◌≤◌, ◌∙◌, ap, sym, arith, rules, length, deque_len, ℕ}
use Rattle.std.proofs.lemmas.List.{drop_all}
use Rattle.thr_parts.specs.declared.row.Seat.{Seat}
use Rattle.thr_rows.specs.Waits.{leaves_first, leads}
use Rattle.thr_rows.proofs.WaitLaws.{leads_empty, leads_more}
use Rattle.thr_rows.proofs.waits.place_for.Goals as goal

pub loop-i-init : goal.loop-i-init
loop-i-init c =
    let same : deque_len c.args.queue.now ≡ length c.args.queue.now.items = search rules in
    let past : length c.args.queue.now.items ≤ c.len-i.result = omega (arith, same, c.len-i.ensures) in
    record {
      within = omega (arith, same, c.len-i.ensures);
      after = ap (leads c.args.entry) (drop_all c.len-i.result c.args.queue.now.items past) ∙ leads_empty c.args.entry;
    }

pub loop-i-preserved : goal.loop-i-preserved
loop-i-preserved c = record {
  within = omega (arith, c.loop-i.invariant.within);
  after = leads_more c.args.entry c.args.queue.now.items c.loop-i.i c.index.result.now c.loop-i-test.true c.loop-i.invariant.within
      (ap (λ (e : ℕ × Seat). leaves_first c.args.entry e) (sym c.index.ensures) ∙ sym c.leaves_first.ensures ∙ c.if-not-leaves_first.false) c.loop-i.invariant.after;
}
