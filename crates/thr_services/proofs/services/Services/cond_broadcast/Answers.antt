use Rattle.std.proofs.Common.{◌≡◌, false, refl, sym, subst}
use Rattle.thr_parts.specs.Tables.{has}
use Rattle.thr_services.specs.contracts.services.Services.{the_view}
use Rattle.thr_services.specs.Views.{ServicesView}
use Rattle.thr_services.proofs.BroadcastCalls.{broadcast_is, not_made}
use Rattle.thr_services.proofs.services.Services.cond_broadcast.Goals as goal

pub returns-then-not-is_made : goal.returns-then-not-is_made
returns-then-not-is_made c =
    not_made c.args.self.now c.args.self.now c.args.c c.plain.result c.args.gifts.now
    (subst (λ (v : ServicesView). has v.conds.made c.args.c.0 ≡ false) c.self.view_is (sym c.if-not-is_made.ensures)) refl c.plain.ensures c.requires.gifts

pub returns : goal.returns
returns c =
    broadcast_is (the_view c.self.inside) _ c.args.c _ _ _ _ _ _ (sym c.if-not-is_made.ensures)
    (record { conds_are = c.wake_all.ensures.conds; locks_are = c.wake_all.ensures.locks; rows_are = c.wake_all.ensures.rows; debts_are = c.wake_all.ensures.debts; gifts_are = c.wake_all.ensures.gifts }) c.self.view_is c.plain-2.ensures
