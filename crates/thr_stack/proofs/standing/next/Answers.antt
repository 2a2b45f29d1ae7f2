use Rattle.std.proofs.Common.{◌∙◌, sym, subst, refl}
use Rattle.thr_stack.specs.FrameLists.{AtOnce}
use Rattle.thr_stack.proofs.NextLaws.{under_some, under_none, next_undoes, goes_outward, next_none}
use Rattle.thr_stack.proofs.standing.next.Goals as goal

pub returns-then-at_once : goal.returns-then-at_once
returns-then-at_once c =
    let k = c.args.context.now in
    let u = under_some k.under_way (sym c.is_some.ensures ∙ c.if-is_some.true) in
    next_undoes c.args.lines.now k u.0 u.1 (subst (AtOnce k.frames.items) c.if-at_once.true c.at_once.ensures)

pub returns-else-at_once : goal.returns-else-at_once
returns-else-at_once c =
    let k = c.args.context.now in
    let u = under_some k.under_way (sym c.is_some.ensures ∙ c.if-is_some.true) in
    (_, goes_outward c.args.lines.now k u.0 u.1 (subst (AtOnce k.frames.items) c.if-at_once.false c.at_once.ensures))

pub returns-then-is_empty : goal.returns-then-is_empty
returns-then-is_empty c =
    let k = c.args.context.now in
    next_none c.args.lines.now k (under_none k.under_way (sym c.is_some.ensures ∙ c.if-is_some.false)) (c.if-is_empty.ensures.0 refl)
