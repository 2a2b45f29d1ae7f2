use Rattle.std.proofs.Common.{to_z, of_z, w64}
use Rattle.std.proofs.lemmas.Int.{to_z-of_z}
use Rattle.thr_services.specs.contracts.services.Services.{the_view}
use Rattle.thr_services.proofs.ClockLaws.{clock_is}
use Rattle.thr_services.proofs.services.Services.move_clock.Goals as goal

pub returns : goal.returns
returns c =
    clock_is (the_view c.self.inside) c.args.self.now c.args.now _ _ _ _ _ _ (to_z-of_z w64 c.args.now c.ranges.now)
    (record { conds_are = c.expire_all.ensures.conds; locks_are = c.expire_all.ensures.locks; rows_are = c.expire_all.ensures.rows; debts_are = c.expire_all.ensures.debts; gifts_are = c.expire_all.ensures.gifts }) c.self.view_is
