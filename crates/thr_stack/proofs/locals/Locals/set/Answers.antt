use Rattle.std.proofs.Common.{◌≡◌, refl, arith, w64}
use Rattle.std.proofs.lemmas.Int.{to_z-of_z, ints}
use mir.Val.{SFits, to_z, of_z}
use Rattle.thr_stack.proofs.FitLaws.{set_is}
use Rattle.thr_stack.proofs.locals.Locals.set.Goals as goal

pub returns-then-at-len : goal.returns-then-at-len
returns-then-at-len c =
    let n = c.args.n in
    let fits : SFits w64 n = search (arith, ints) in
    let back : to_z w64 (of_z w64 n) ≡ n = to_z-of_z w64 n fits in
    set_is c.self.inside.values.items c.self.inside.first c.self.inside.most c.args.p _ _ n c.args.self.now c.self.view_is refl back
