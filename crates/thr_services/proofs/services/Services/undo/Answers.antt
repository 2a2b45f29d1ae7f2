use Rattle.std.proofs.Common.{◌+◌, ◌^◌, ◌<◌, sym, subst}
use Rattle.thr_services.specs.contracts.services.Services.{the_view}
use Rattle.thr_services.specs.Views.{ServicesView}
use Rattle.thr_services.specs.Ready.{OwersStand}
use Rattle.thr_services.proofs.TurnLaws.{runner_can, handed}
use Rattle.thr_services.proofs.services.Services.undo.Goals as goal

pub put-requires-clause-room : goal.put-requires-clause-room
put-requires-clause-room c =
    let owers : OwersStand c.self.inside.debts c.self.inside.rows = subst (λ (v : ServicesView). OwersStand v.debts v.rows) (sym c.self.view_is) c.requires.owers in
    let arrival : c.self.inside.rows.next_arrival + 1 < 2 ^ 64 = subst (λ (v : ServicesView). v.rows.next_arrival + 1 < 2 ^ 64) (sym c.self.view_is) c.requires.arrival in
    (runner_can (the_view c.self.inside) c.args.o _ _ c.in-Some.t c.in-Some.ensures.call
    (record { seats = c.len-seats.ensures.rises; debts = c.len-debts.ensures.rises; within = c.len-seats.ensures.within; owers = owers }) arrival).seat

pub owe-requires : goal.owe-requires
owe-requires c =
    let owers : OwersStand c.self.inside.debts c.self.inside.rows = subst (λ (v : ServicesView). OwersStand v.debts v.rows) (sym c.self.view_is) c.requires.owers in
    let arrival : c.self.inside.rows.next_arrival + 1 < 2 ^ 64 = subst (λ (v : ServicesView). v.rows.next_arrival + 1 < 2 ^ 64) (sym c.self.view_is) c.requires.arrival in
    record {
      room = (runner_can (the_view c.self.inside) c.args.o _ _ c.in-Some.t c.in-Some.ensures.call
          (record { seats = c.len-seats.ensures.rises; debts = c.len-debts.ensures.rises; within = c.len-seats.ensures.within; owers = owers }) arrival).place;
    }

pub returns-in-Some : goal.returns-in-Some
returns-in-Some c =
    handed (the_view c.self.inside) c.args.self.now c.args.o c.undone-runner.new.self _ _ _ c.in-Some.t _ c.in-Some.ensures.call c.rank.ensures c.put.ensures c.owe.ensures c.self.view_is
