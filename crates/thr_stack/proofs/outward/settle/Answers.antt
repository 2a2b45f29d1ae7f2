use Rattle.std.proofs.Common.{◌≡◌, ◌∙◌, ap, sym, subst, ◌∷◌, [], ◌++◌, None, arith, w64}
use Rattle.std.proofs.lemmas.Int.{to_z-of_z, ints}
use mir.Val.{SFits, to_z, of_z}
use Rattle.thr_values.specs.declared.history.What.TheVariants as what
use Rattle.thr_stack.specs.Unwinds.{GoesOut}
use Rattle.thr_stack.proofs.Unwinds.{out_begins, out_undoes, out_loses, out_bottom}
use Rattle.thr_stack.proofs.outward.settle.Goals as goal

pub returns-in-Begins : goal.returns-in-Begins
returns-in-Begins c =
    out_begins _ c.args.u c.args.context.now c.out.context c.args.notes.now c.out.invariant.dropped c.in-Some.frame c.pop.new.self c.in-Some.ensures.some c.pop.ensures.size c.in-Some.ensures.calls c.in-Begins.kind c.in-Begins.line c.in-Begins.what c.push.new.self _
    c.in-Begins.ensures c.push.ensures (c.push-in-Begins.ensures ∙ ap (λ a. a ++ c.in-Begins.what ∷ []) c.out.invariant.notes)

pub returns-in-Undoes : goal.returns-in-Undoes
returns-in-Undoes c =
    let moved = out_undoes c.args.lines.now c.args.u c.args.context.now c.out.context c.args.notes.now c.out.invariant.dropped c.in-Some.frame c.pop.new.self c.in-Some.ensures.some c.pop.ensures.size c.in-Some.ensures.calls c.push-in-Undoes.new.self c.in-Undoes.ensures c.push-in-Undoes.ensures in
    subst (λ a. GoesOut c.args.lines.now c.args.u c.args.context.now (record c.out.context { frames = c.push-in-Undoes.new.self }) c.args.notes.now a) (sym c.out.invariant.notes) moved

pub returns-in-Loses : goal.returns-in-Loses
returns-in-Loses c =
    out_loses _ c.args.u c.args.context.now c.out.context c.args.notes.now c.out.invariant.dropped c.in-Some.frame c.pop.new.self c.in-Some.ensures.some c.pop.ensures.size c.in-Some.ensures.calls c.in-Loses.what _
    c.in-Loses.ensures (c.push-in-Loses.ensures ∙ ap (λ a. a ++ c.in-Loses.what ∷ []) c.out.invariant.notes)

pub returns : goal.returns
returns c =
    let v = c.left_value-context.result in
    let fits : SFits w64 v = search (arith, ints) in
    let back : to_z w64 (of_z w64 v) ≡ v = to_z-of_z w64 v fits in
    let moved = out_bottom c.args.lines.now c.args.u c.args.context.now c.out.context c.args.notes.now c.out.invariant.dropped _ v c.pop.new.self c.in_default.ensures.none.0 c.in_default.ensures.none.1 c.left_value-context.ensures
    (c.push-2.ensures ∙ ap (λ m. c.out.notes ++ what.Bottom c.args.u.number m ∷ []) (ap (λ z. to_z w64 (of_z w64 z)) back ∙ back) ∙ ap (λ a. a ++ what.Bottom c.args.u.number v ∷ []) c.out.invariant.notes) in
    subst (λ m. GoesOut c.args.lines.now c.args.u c.args.context.now (record c.out.context { frames = c.pop.new.self; under_way = None; value = m }) c.args.notes.now c.push-2.new.self) (sym back) moved
