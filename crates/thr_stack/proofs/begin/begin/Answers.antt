use Rattle.std.proofs.Common.{◌≡◌, ◌+◌, ℤ, None, subst, arith, w64}
use Rattle.std.proofs.lemmas.Int.{to_z-of_z, ints}
use mir.Val.{SFits, to_z, of_z}
use Rattle.thr_stack.specs.Statements.{IsEntered}
use Rattle.thr_stack.proofs.Begins.{begun, close_is, scope_no_call}
use Rattle.thr_stack.proofs.begin.begin.Goals as goal

pub push-requires-clause-no_call : goal.push-requires-clause-no_call
push-requires-clause-no_call c = scope_no_call c.args.kind c.requires.kind

pub returns : goal.returns
returns c =
    let s = c.args.lines.now in
    let k = c.args.context.now in
    let n = c.args.n in
    let close = c.in-Some.start.close.0 in
    let fits : SFits w64 n = search (arith, ints) in
    let back : to_z w64 (of_z w64 n) ≡ n = to_z-of_z w64 n fits in
    let entered = subst (λ (m : ℤ). IsEntered s c.args.routine None close m (record k { frames = c.push.new.self; scopes = k.scopes + 1 }) c.enter_routine.new.context) back c.enter_routine.ensures in
    begun s k c.requires.good c.args.kind c.requires.kind c.args.routine n c.enter_routine.new.context c.push.new.self close c.args.what c.args.notes.now c.push-2.new.self
    c.push.ensures entered (close_is s c.args.routine c.in-Some.start entered.entry c.in-Some.ensures.body entered.routine) c.push-2.ensures
