use Rattle.std.proofs.Common.{◌≡◌, ◌∙◌, ◌+◌, ◌^◌, ◌<◌, ℤ, to_z, of_z, w64, ap, sym, subst}
use Rattle.std.proofs.lemmas.Int.{to_z-of_z}
use Rattle.thr_parts.specs.Cancels.{is_point, cancel}
use Rattle.thr_services.specs.contracts.services.Services.{the_view}
use Rattle.thr_services.specs.Views.{ServicesView}
use Rattle.thr_services.specs.Ready.{OwersStand}
use Rattle.thr_services.proofs.CancelCalls.{cancel_can, cancel_wakes}
use Rattle.thr_services.proofs.services.Services.cancel_named.Goals as goal

pub resume-gets-requires-clause-room : goal.resume-gets-requires-clause-room
resume-gets-requires-clause-room c =
    let back : to_z w64 (of_z w64 c.args.target) ≡ c.args.target = to_z-of_z w64 c.args.target c.ranges.target in
    let owers : OwersStand c.self.inside.debts c.self.inside.rows = subst (λ (v : ServicesView). OwersStand v.debts v.rows) (sym c.self.view_is) c.requires.owers in
    let arrival : c.self.inside.rows.next_arrival + 1 < 2 ^ 64 = subst (λ (v : ServicesView). v.rows.next_arrival + 1 < 2 ^ 64) (sym c.self.view_is) c.requires.arrival in
    (cancel_can (the_view c.self.inside) c.args.target c.args.t _ _ _ _ (c.cancel-said.ensures ∙ ap (λ (n : ℤ). cancel c.self.inside.threads n c.is_point-at_point.result) back)
    (sym c.if-not-is_wakes.ensures) (c.is_point-at_point.ensures ∙ ap is_point c.row_of.ensures) c.leave-m.ensures.rows
    (record { seats = c.len-seats.ensures.rises; debts = c.len-debts.ensures.rises; within = c.len-seats.ensures.within; owers = owers }) arrival).seat

pub owe-requires : goal.owe-requires
owe-requires c =
    let back : to_z w64 (of_z w64 c.args.target) ≡ c.args.target = to_z-of_z w64 c.args.target c.ranges.target in
    let owers : OwersStand c.self.inside.debts c.self.inside.rows = subst (λ (v : ServicesView). OwersStand v.debts v.rows) (sym c.self.view_is) c.requires.owers in
    let arrival : c.self.inside.rows.next_arrival + 1 < 2 ^ 64 = subst (λ (v : ServicesView). v.rows.next_arrival + 1 < 2 ^ 64) (sym c.self.view_is) c.requires.arrival in
    record {
      room = (cancel_can (the_view c.self.inside) c.args.target c.args.t _ _ _ _ (c.cancel-said.ensures ∙ ap (λ (n : ℤ). cancel c.self.inside.threads n c.is_point-at_point.result) back)
          (sym c.if-not-is_wakes.ensures) (c.is_point-at_point.ensures ∙ ap is_point c.row_of.ensures) c.leave-m.ensures.rows
          (record { seats = c.len-seats.ensures.rises; debts = c.len-debts.ensures.rises; within = c.len-seats.ensures.within; owers = owers }) arrival).place;
    }

pub returns : goal.returns
returns c =
    let back : to_z w64 (of_z w64 c.args.target) ≡ c.args.target = to_z-of_z w64 c.args.target c.ranges.target in
    cancel_wakes (the_view c.self.inside) _ c.args.target c.args.t _ _ _ _ _ _ _ _ _ _ _ _ _ _ _ c.requires.number
    (c.cancel-said.ensures ∙ ap (λ (n : ℤ). cancel c.self.inside.threads n c.is_point-at_point.result) back)
    (c.is_point-at_point.ensures ∙ ap is_point c.row_of.ensures) (sym c.if-not-is_wakes.ensures)
    (record { conds = c.leave-m.ensures.conds; pipes = c.leave-m.ensures.pipes; rows = c.leave-m.ensures.rows; mutex = c.leave-m.ensures.mutex; ranked = c.rank-rank.ensures; back = c.resume-gets.ensures })
    c.owe.ensures (record { same = c.self.view_is; answer = c.plain-2.ensures; gifts = c.note.ensures; nothing = c.requires.gifts })
