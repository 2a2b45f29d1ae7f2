use Rattle.thr_comparing.proofs.Told.{all_told}
use Rattle.thr_comparing.proofs.text.verdict_text.Goals as goal

pub returns-in-Ok-clause-defined : goal.returns-in-Ok-clause-defined
returns-in-Ok-clause-defined c = all_told c.args.v.now c.in-Ok.text.items c.in-Ok.ensures
