use Rattle.thr_ports.proofs.Finallys.{routed_begin, legal_begin}
use Rattle.thr_ports.proofs.laws.finally_bodies_begin_inner_first.Goals as goal

pub returns-clause-legal : goal.returns-clause-legal
returns-clause-legal c = legal_begin

pub returns-clause-lines : goal.returns-clause-lines
returns-clause-lines c = routed_begin
