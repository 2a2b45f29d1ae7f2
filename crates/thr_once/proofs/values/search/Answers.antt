use Rattle.std.proofs.Common.{sym, ◌∙◌}
use Rattle.thr_once.proofs.OrderLaws.{stands_there, stands_not, ends_before, place_in}
use Rattle.thr_once.proofs.values.search.Goals as goal

pub returns-then-i-values-clause-misses : goal.returns-then-i-values-clause-misses
returns-then-i-values-clause-misses c =
    let e = c.place_of-i.ensures in
    (e, place_in c.args.k.0 c.args.t.0 c.args.values.now _ e, ends_before c.args.k.0 c.args.t.0 c.args.values.now c.place_of-i.result e c.if-i-values.true)

pub returns-then-is_of-clause-stands : goal.returns-then-is_of-clause-stands
returns-then-is_of-clause-stands c =
    let e = c.place_of-i.ensures in
    (e, c.if-i-values.false, stands_there c.args.k.0 c.args.t.0 c.args.values.now c.place_of-i.result _ c.requires.known c.requires.ordered e c.if-i-values.false (sym c.is_of.ensures ∙ c.if-is_of.true))

pub returns-clause-misses : goal.returns-clause-misses
returns-clause-misses c =
    let e = c.place_of-i.ensures in
    (e, place_in c.args.k.0 c.args.t.0 c.args.values.now _ e, stands_not c.args.k.0 c.args.t.0 c.args.values.now c.place_of-i.result _ c.requires.known c.requires.ordered e c.if-i-values.false (sym c.is_of.ensures ∙ c.if-is_of.false))
