use Rattle.std.proofs.Common.{◌+◌, ◌^◌, ◌<◌, sym, subst}
use Rattle.thr_services.specs.contracts.services.Services.{the_view}
use Rattle.thr_services.specs.Views.{ServicesView}
use Rattle.thr_services.specs.Ready.{OwersStand}
use Rattle.thr_services.proofs.PipeCalls.{read_can, read_is}
use Rattle.thr_services.proofs.services.Services.read.Goals as goal

pub wake-requires : goal.wake-requires
wake-requires c =
    let owers : OwersStand c.self.inside.debts c.self.inside.rows = subst (λ (v : ServicesView). OwersStand v.debts v.rows) (sym c.self.view_is) c.requires.owers in
    let arrival : c.self.inside.rows.next_arrival + 1 < 2 ^ 64 = subst (λ (v : ServicesView). v.rows.next_arrival + 1 < 2 ^ 64) (sym c.self.view_is) c.requires.arrival in
    record {
      can = read_can (the_view c.self.inside) c.args.p c.args.t _ _ _ _ _ c.read-said.ensures (record { seats = c.len-seats.ensures.rises; debts = c.len-debts.ensures.rises; within = c.len-seats.ensures.within; owers = owers }) arrival;
    }

pub returns : goal.returns
returns c = read_is (the_view c.self.inside) _ c.args.p c.args.t _ _ _ _ _ _ _ _ c.rank-rank.ensures c.read-said.ensures c.wake.ensures.rows c.wake.ensures.debts c.self.view_is c.plain.ensures
