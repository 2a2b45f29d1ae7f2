use Rattle.thr_services.specs.contracts.services.Services.{the_view}
use Rattle.thr_services.proofs.TurnLaws.{completed}
use Rattle.thr_services.proofs.services.Services.complete.Goals as goal

pub returns : goal.returns
returns c = completed (the_view c.self.inside) c.args.self.now c.args.o c.done.new.self _ _ c.done.ensures.call c.free_row.ensures.rows c.free_row.ensures.debts c.self.view_is
