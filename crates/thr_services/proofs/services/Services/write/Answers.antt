use Rattle.std.proofs.Common.{◌+◌, ◌^◌, ◌<◌, ◌≡◌, ◌∙◌, ap, ℤ, to_z, of_z, w64, sym, subst}
use Rattle.std.proofs.lemmas.Int.{to_z-of_z}
use Rattle.thr_parts.specs.Pipes.{write}
use Rattle.thr_services.specs.contracts.services.Services.{the_view}
use Rattle.thr_services.specs.Views.{ServicesView}
use Rattle.thr_values.specs.declared.reply.Reply.TheVariants as reply
use Rattle.thr_services.specs.declared.debt.Debt.TheVariants as debt
use Rattle.thr_services.specs.Ready.{OwersStand, debts_woken}
use Rattle.thr_services.proofs.PipeCalls.{write_can, write_is}
use Rattle.thr_services.proofs.services.Services.write.Goals as goal

pub wake-requires : goal.wake-requires
wake-requires c =
    let back : to_z w64 (of_z w64 c.args.item) ≡ c.args.item = to_z-of_z w64 c.args.item c.ranges.item in
    let owers : OwersStand c.self.inside.debts c.self.inside.rows = subst (λ (v : ServicesView). OwersStand v.debts v.rows) (sym c.self.view_is) c.requires.owers in
    let arrival : c.self.inside.rows.next_arrival + 1 < 2 ^ 64 = subst (λ (v : ServicesView). v.rows.next_arrival + 1 < 2 ^ 64) (sym c.self.view_is) c.requires.arrival in
    record {
      can = write_can (the_view c.self.inside) c.args.p c.args.item c.args.t _ _ _ _ _ (c.write-said.ensures ∙ ap (λ (n : ℤ). write c.self.inside.pipes c.self.inside.rows c.args.p n c.args.t c.rank-rank.result) back) (record { seats = c.len-seats.ensures.rises; debts = c.len-debts.ensures.rises; within = c.len-seats.ensures.within; owers = owers }) arrival;
    }

pub returns : goal.returns
returns c =
    let back : to_z w64 (of_z w64 c.args.item) ≡ c.args.item = to_z-of_z w64 c.args.item c.ranges.item in
    write_is (the_view c.self.inside) _ c.args.p c.args.item c.args.t _ _ _ _ _ _ _ _ c.rank-rank.ensures (c.write-said.ensures ∙ ap (λ (n : ℤ). write c.self.inside.pipes c.self.inside.rows c.args.p n c.args.t c.rank-rank.result) back) c.wake.ensures.rows (c.wake.ensures.debts ∙ ap (λ (n : ℤ). debts_woken c.self.inside.debts (debt.Return (reply.Value n)) c.write-said.result.1) back) c.self.view_is c.plain.ensures
