use Rattle.thr_services.specs.contracts.services.Services.{the_view}
use Rattle.thr_services.proofs.DispatchLaws.{none_taken}
use Rattle.thr_services.proofs.services.Services.dispatch.Goals as goal

pub returns-clause-none : goal.returns-clause-none
returns-clause-none c = none_taken (the_view c.self.inside) c.args.self.now c.args.p _ _ c.dispatch.ensures c.self.view_is
