use Rattle.std.proofs.Common.{◌≡◌, true, ◌+◌, ◌^◌, ◌<◌, None, sym, subst, ap, ◌∙◌}
use Rattle.thr_parts.specs.Rows.{has_room}
use Rattle.thr_parts.specs.Conditions.{wait, wait_reply}
use Rattle.thr_model.specs.States.{rank_of}
use Rattle.thr_services.specs.contracts.services.Services.{the_view}
use Rattle.thr_services.specs.Views.{ServicesView}
use Rattle.thr_services.specs.Ready.{OwersStand}
use Rattle.thr_services.proofs.WaitCalls.{wait_can, wait_is}
use Rattle.thr_services.proofs.services.Services.cond_wait.Goals as goal

pub give-requires : goal.give-requires
give-requires c =
    let owers : OwersStand c.self.inside.debts c.self.inside.rows = subst (λ (v : ServicesView). OwersStand v.debts v.rows) (sym c.self.view_is) c.requires.owers in
    let arrival : c.self.inside.rows.next_arrival + 2 < 2 ^ 64 = subst (λ (v : ServicesView). v.rows.next_arrival + 2 < 2 ^ 64) (sym c.self.view_is) c.requires.arrival in
    let room : has_room c.self.inside.rows c.args.t ≡ true = subst (λ (v : ServicesView). has_room v.rows c.args.t ≡ true) (sym c.self.view_is) c.requires.room in
    record {
      can = wait_can (the_view c.self.inside) c.args.c c.args.m None c.args.t _ (wait_reply c.self.inside.conds c.self.inside.locks c.args.c c.args.m c.args.t) _ _ _ _ _ c.wait-said.ensures (record { seats = c.len-seats.ensures.rises; debts = c.len-debts.ensures.rises; within = c.len-seats.ensures.within; owers = owers }) room arrival;
    }

pub returns : goal.returns
returns c =
    wait_is (the_view c.self.inside) _ c.args.m (λ st. wait st.conds st.locks st.rows c.args.c c.args.m c.args.t (rank_of st c.args.t)) _ _ _ _ _ _ _ _ _ _
    (λ remainders shared. c.wait-said.ensures ∙ ap (wait c.self.inside.conds c.self.inside.locks c.self.inside.rows c.args.c c.args.m c.args.t) c.rank-rank.ensures)
    c.give.ensures.rows c.give.ensures.debts (record { same = c.self.view_is; answer = c.plain.ensures; gifts = c.note.ensures; nothing = c.requires.gifts })
