use Rattle.std.proofs.Common.{◌+◌, ◌^◌, ◌<◌, sym, subst}
use Rattle.thr_services.specs.contracts.services.Services.{the_view}
use Rattle.thr_services.specs.Views.{ServicesView}
use Rattle.thr_services.specs.Ready.{OwersStand}
use Rattle.thr_services.proofs.GivenLaws.{unlock_is, unlock_can}
use Rattle.thr_services.proofs.services.Services.unlock.Goals as goal

pub give-requires : goal.give-requires
give-requires c =
    let owers : OwersStand c.self.inside.debts c.self.inside.rows = subst (λ (v : ServicesView). OwersStand v.debts v.rows) (sym c.self.view_is) c.requires.owers in
    let arrival : c.self.inside.rows.next_arrival + 1 < 2 ^ 64 = subst (λ (v : ServicesView). v.rows.next_arrival + 1 < 2 ^ 64) (sym c.self.view_is) c.requires.arrival in
    record {
      can = unlock_can (the_view c.self.inside) c.args.m c.args.t _ _ _ _ c.unlock-reply.ensures (record { seats = c.len-seats.ensures.rises; debts = c.len-debts.ensures.rises; within = c.len-seats.ensures.within; owers = owers }) arrival;
    }

pub returns : goal.returns
returns c =
    unlock_is (the_view c.self.inside) _ c.args.m c.args.t _ _ _ _ _ _ _ _ _ c.unlock-reply.ensures c.give.ensures.rows c.give.ensures.debts
    (record { same = c.self.view_is; answer = c.plain.ensures; gifts = c.note.ensures; nothing = c.requires.gifts })
