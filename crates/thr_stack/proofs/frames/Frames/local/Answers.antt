use Rattle.std.proofs.Common.{◌≡◌, ℤ, List, pos, slice_get, unwrap_or, reverse, ◌∙◌, ap, sym, arith, w64}
use Rattle.std.proofs.lemmas.Int.{to_z-of_z, ints}
use mir.Val.{SFits, to_z, of_z}
use Rattle.thr_stack.specs.FrameLists.{FramesView, innermost}
use Rattle.thr_stack.proofs.FitLaws.{innermost_is}
use Rattle.thr_stack.proofs.frames.Frames.local.Goals as goal

pub returns : goal.returns
returns c =
    let n = c.get.result in
    let fits : SFits w64 n = search (arith, ints) in
    let back : to_z w64 (of_z w64 n) ≡ n = to_z-of_z w64 n fits in
    back ∙ c.get.ensures ∙ ap (λ (here : List ℤ). unwrap_or (slice_get here c.args.p) (pos 0)) (sym (innermost_is c.self.inside.locals (reverse c.self.inside.frames.items) c.self.invariant.4))
    ∙ ap (λ (f : FramesView). unwrap_or (slice_get (innermost f.calls) c.args.p) (pos 0)) c.self.view_is
