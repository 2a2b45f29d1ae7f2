use Rattle.std.proofs.Common.{sym}
use Rattle.thr_services.specs.contracts.services.Services.{the_view}
use Rattle.thr_services.proofs.CloseCalls.{close_is}
use Rattle.thr_services.proofs.services.Services.close.Goals as goal

pub returns : goal.returns
returns c =
    close_is (the_view c.self.inside) _ c.args.p _ _ _ _ _ _ _ c.close-said.ensures (sym c.if-not-is_done.ensures)
    (record { readers = c.free_row.ensures.rows; eof = c.free_row.ensures.debts; writers = c.free_row-2.ensures.rows; epipe = c.free_row-2.ensures.debts }) c.self.view_is c.plain-2.ensures
