use Rattle.std.proofs.Common.{ap}
use Rattle.thr_once.specs.Views.{KeysView}
use Rattle.thr_once.proofs.CallLaws.{its_made}
use Rattle.thr_once.proofs.keys.Keys.next_call.Goals as goal

pub returns-clause-made : goal.returns-clause-made
returns-clause-made c = its_made c.self.inside.made c.self.inside.values.items c.args.self.now.keys c.next_in.result (ap (λ (v : KeysView). v.keys) c.self.view_is) c.next_in.ensures.made
