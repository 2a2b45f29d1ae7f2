-- Ends of once blocks.
use Rattle.std.specs.Prelude.{◌≡◌, ℕ, ◌∷◌}
use Rattle.thr_values.specs.declared.number.NameId.{NameId}
use Rattle.thr_stack.specs.declared.frame.Kind.TheVariants as kind
use Rattle.thr_stack.specs.declared.frame.Frame.{Frame}
use Rattle.thr_stack.specs.declared.context.Context.{Context}
use Rattle.thr_stack.specs.FrameLists.{below}

-- The innermost frame is off, which was that of this once block, with this scope (docs/machine.md, "Once blocks").
pub record HasLeft (old new : Context) (scope : ℕ) (block : NameId) : Type 0 where
  pub frame : Frame
  pub routine : NameId
  pub items : old.frames.items ≡ frame ∷ new.frames.items
  pub is_once : frame.kind ≡ kind.Once scope block routine
  pub calls : new.frames.calls ≡ below old.frames.calls frame.kind
  pub size : new.frames.size ≡ old.frames.size
  pub same : new ≡ record old { frames = new.frames; line = frame.back }
