use Rattle.std.proofs.Common.{◌+◌, ◌^◌, ◌<◌, sym, subst}
use Rattle.thr_services.specs.contracts.services.Services.{the_view}
use Rattle.thr_services.specs.Views.{ServicesView}
use Rattle.thr_services.specs.Ready.{OwersStand}
use Rattle.thr_services.specs.Cancelling.{MutexesFit}
use Rattle.thr_services.proofs.SignalCalls.{took, signal_can, signal_fits, signal_is}
use Rattle.thr_services.proofs.services.Services.cond_signal.Goals as goal

pub resume-gets-requires-clause-known : goal.resume-gets-requires-clause-known
resume-gets-requires-clause-known c =
    let fit : MutexesFit c.self.inside.conds = subst (λ (v : ServicesView). MutexesFit v.conds) (sym c.self.view_is) c.requires.fit in
    signal_fits (the_view c.self.inside) c.args.c _ _ _ _ _ (took (the_view c.self.inside) c.args.c _ _ _ _ _ _ c.signal-said.ensures c.in-Some.is) fit

pub resume-gets-requires-clause-room : goal.resume-gets-requires-clause-room
resume-gets-requires-clause-room c =
    let owers : OwersStand c.self.inside.debts c.self.inside.rows = subst (λ (v : ServicesView). OwersStand v.debts v.rows) (sym c.self.view_is) c.requires.owers in
    let arrival : c.self.inside.rows.next_arrival + 1 < 2 ^ 64 = subst (λ (v : ServicesView). v.rows.next_arrival + 1 < 2 ^ 64) (sym c.self.view_is) c.requires.arrival in
    (signal_can (the_view c.self.inside) c.args.c _ _ _ _ _ (took (the_view c.self.inside) c.args.c _ _ _ _ _ _ c.signal-said.ensures c.in-Some.is)
    (record { seats = c.len-seats.ensures.rises; debts = c.len-debts.ensures.rises; within = c.len-seats.ensures.within; owers = owers }) arrival).seat

pub owe-requires : goal.owe-requires
owe-requires c =
    let owers : OwersStand c.self.inside.debts c.self.inside.rows = subst (λ (v : ServicesView). OwersStand v.debts v.rows) (sym c.self.view_is) c.requires.owers in
    let arrival : c.self.inside.rows.next_arrival + 1 < 2 ^ 64 = subst (λ (v : ServicesView). v.rows.next_arrival + 1 < 2 ^ 64) (sym c.self.view_is) c.requires.arrival in
    record {
      room = (signal_can (the_view c.self.inside) c.args.c _ _ _ _ _ (took (the_view c.self.inside) c.args.c _ _ _ _ _ _ c.signal-said.ensures c.in-Some.is)
          (record { seats = c.len-seats.ensures.rises; debts = c.len-debts.ensures.rises; within = c.len-seats.ensures.within; owers = owers }) arrival).place;
    }

pub returns-in-Some : goal.returns-in-Some
returns-in-Some c =
    signal_is (the_view c.self.inside) _ c.args.c _ _ _ _ _ _ c.in-Some.w c.in-Some.m _ _ _ _ _ (took (the_view c.self.inside) c.args.c _ _ _ _ _ _ c.signal-said.ensures c.in-Some.is)
    c.resume-gets.ensures c.rank-rank.ensures c.owe.ensures (record { same = c.self.view_is; answer = c.plain-in-Some.ensures; gifts = c.note.ensures; nothing = c.requires.gifts })
