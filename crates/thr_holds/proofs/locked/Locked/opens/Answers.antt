use Rattle.std.proofs.Common.{◌∙◌, ap, sym}
use Rattle.thr_machine.specs.Views.{BookView}
use Rattle.thr_holds.proofs.Stops.{stopped-over, stopped-cause}
use Rattle.thr_holds.proofs.locked.Locked.opens.Goals as goal

pub invariant_of-self : goal.invariant_of-self
invariant_of-self g c = record {
  over = stopped-over c.args.self.now.book c.stop.new.self c.in-Some.why g.N.Naming.script g.N.Naming.workers c.stop.ensures c.args.self.now.over;
  counted = c.args.self.now.counted ∙ sym (ap (λ (b : BookView). b.turns) c.stop.ensures);
  cause = stopped-cause c.args.self.now.book c.stop.new.self c.in-Some.why (sym c.in-Some.ensures.value) c.stop.ensures;
}
