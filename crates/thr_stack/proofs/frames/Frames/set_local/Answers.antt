use Rattle.std.proofs.Common.{◌≡◌, ℤ, reverse, ◌∙◌, ap, sym, subst, arith, w64}
use Rattle.std.proofs.lemmas.Int.{to_z-of_z, ints}
use mir.Val.{SFits, to_z, of_z}
use Rattle.thr_stack.specs.LocalLists.{LocalsView, FitsAll}
use Rattle.thr_stack.proofs.FitLaws.{changed, fits_set, has_set}
use Rattle.thr_stack.proofs.frames.Frames.set_local.Goals as goal

pub invariant_of-self : goal.invariant_of-self
invariant_of-self c =
    let frames = reverse c.self.inside.frames.items in
    let l = c.self.inside.locals in
    let h = c.self.invariant in
    (h.0, h.1, h.2, omega (arith, h.3, ap (λ (x : LocalsView). x.most) c.set.ensures), subst (λ (x : LocalsView). FitsAll x frames) (sym c.set.ensures) (fits_set c.args.p (to_z w64 (of_z w64 c.args.n)) l frames h.4))

pub returns : goal.returns
returns c =
    let n = c.args.n in
    let l = c.self.inside.locals in
    let fits : SFits w64 n = search (arith, ints) in
    let back : to_z w64 (of_z w64 n) ≡ n = to_z-of_z w64 n fits in
    has_set c.self.inside.frames.items l c.set.new.self c.self.inside.size c.self.inside.most c.args.p n c.args.self.now c.self.view_is (c.set.ensures ∙ ap (λ (m : ℤ). changed c.args.p m l) back)
