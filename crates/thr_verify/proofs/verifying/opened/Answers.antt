use Rattle.thr_verify.proofs.Openings.{all_left}
use Rattle.thr_verify.proofs.verifying.opened.Goals as goal

pub returns-clause-left : goal.returns-clause-left
returns-clause-left c = all_left c.args.j.now c.in_ok-script.script c.in_ok-script.ensures c.new.result c.new.ensures
