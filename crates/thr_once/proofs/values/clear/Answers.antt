use Rattle.std.proofs.Common.{◌∙◌, ap, sym, subst}
use Rattle.thr_once.specs.Values.{by_place, AreOrdered}
use Rattle.thr_once.proofs.OrderLaws.{removed_is, ordered_removed, missed_is}
use Rattle.thr_once.proofs.values.clear.Goals as goal

pub returns-in-Ok-clause-values : goal.returns-in-Ok-clause-values
returns-in-Ok-clause-values c =
    let stands = rw c.deref.ensures.value at c.in-Ok.ensures.stands in
    ap by_place c.remove.ensures.items ∙ removed_is c.args.k.0 c.args.t.0 c.args.values.now.items c.in-Ok.i c.requires.ordered stands.0 stands.2

pub returns-in-Ok-clause-ordered : goal.returns-in-Ok-clause-ordered
returns-in-Ok-clause-ordered c =
    let stands = rw c.deref.ensures.value at c.in-Ok.ensures.stands in
    subst AreOrdered (sym c.remove.ensures.items) (ordered_removed c.args.k.0 c.args.t.0 c.args.values.now.items c.in-Ok.i c.requires.ordered stands.0 stands.2)

pub returns-in-Err-clause-values : goal.returns-in-Err-clause-values
returns-in-Err-clause-values c =
    let misses = rw c.deref.ensures.value at c.in-Err.ensures.misses in
    missed_is c.args.k.0 c.args.t.0 c.args.values.now.items c.requires.ordered misses.2
