use Rattle.std.proofs.Common.{length, reverse, ap, arith}
use Rattle.thr_stack.specs.FrameLists.{FramesView}
use Rattle.thr_stack.proofs.FitLaws.{fits_few, fits_room}
use Rattle.thr_stack.proofs.frames.Frames.call.Goals as goal

pub overflow_cast-kind : goal.overflow_cast-kind
overflow_cast-kind c = omega (arith, c.count.ensures, fits_few c.self.inside.locals (reverse c.self.inside.frames.items) c.self.invariant.4)

pub open-requires : goal.open-requires
open-requires c =
    let h = c.self.invariant in
    omega (arith, fits_room c.self.inside.locals (reverse c.self.inside.frames.items) h.4, h.1, h.3, c.requires.room, ap (λ (f : FramesView). length f.items) c.self.view_is, ap (λ (f : FramesView). f.size) c.self.view_is)
