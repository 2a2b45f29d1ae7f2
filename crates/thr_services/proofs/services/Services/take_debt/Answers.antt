use Rattle.thr_services.specs.contracts.services.Services.{the_view}
use Rattle.thr_services.proofs.TurnLaws.{debt_is, debt_taken}
use Rattle.thr_services.proofs.services.Services.take_debt.Goals as goal

pub returns-clause-debt : goal.returns-clause-debt
returns-clause-debt c = debt_is (the_view c.self.inside) c.args.self.now c.args.t _ c.get-debt.ensures c.self.view_is

pub returns-clause-state : goal.returns-clause-state
returns-clause-state c = debt_taken (the_view c.self.inside) c.args.self.now c.args.t _ c.clear.ensures c.self.view_is
