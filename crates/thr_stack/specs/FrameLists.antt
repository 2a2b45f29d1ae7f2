-- The frames of a stack, the innermost first.
use Rattle.std.specs.Prelude.{◌≡◌, ℕ, ℤ, List, [], ◌∷◌, slice_set, Bool, true, false, Option}
use Rattle.thr_values.specs.declared.exception.Exc.{Exc}
use Rattle.thr_values.specs.declared.number.NameId.{NameId}
use Rattle.thr_values.specs.Exceptions.{cancel_e}
use Rattle.thr_remainder.specs.Starts.{first_locals}
use Rattle.thr_stack.specs.declared.frame.Frame.{Frame}
use Rattle.thr_stack.specs.declared.frame.Kind.{Kind}
use Rattle.thr_stack.specs.declared.frame.Kind.TheVariants as kind

-- The frames, the locals of each call, the innermost first, how many frames fit, and for how many there is memory (docs/machine.md,
-- "Frames").
pub record FramesView : Type 0 where
  pub items : List Frame
  pub calls : List (List ℤ)
  pub size : ℕ
  pub most : ℕ

-- What a frame has caught, or else what was caught outside; a call asks no further (docs/machine.md, "Handlers").
abbrev pub caught_or : Kind → Exc → Exc
caught_or (kind.Call place count) outer = cancel_e
caught_or (kind.Catch scope caught) outer = caught
caught_or (kind.Try scope first) outer = outer
caught_or (kind.Finally scope pending) outer = outer
caught_or (kind.Once scope block routine) outer = outer
caught_or (kind.Barrier scope key routine) outer = outer

-- What `this` and `reraise` mean where these are the frames (docs/machine.md, "Handlers").
abbrev pub caught_among : List Frame → Exc
caught_among [] = cancel_e
caught_among (f ∷ frames) = caught_or f.kind (caught_among frames)

-- The innermost frame is a once block's, or isn't (docs/machine.md, "Once blocks").
abbrev pub AtOnce : List Frame → Bool → Type 0
AtOnce frames true = (f : Frame) × (fs : List Frame) × (scope : ℕ) × (block : NameId) × (routine : NameId) × (frames ≡ f ∷ fs) × (f.kind ≡ kind.Once scope block routine)
AtOnce frames false = (f : Frame) (fs : List Frame) → frames ≡ f ∷ fs → (scope : ℕ) (block routine : NameId) → f.kind ≡ kind.Once scope block routine → ⊥

-- ---- locals of calls

-- The frame is no call's (docs/machine.md, "Frames").
abbrev pub IsNoCall : Kind → Type 0
IsNoCall (kind.Call place count) = ⊥
IsNoCall (kind.Try scope first) = Unit {0}
IsNoCall (kind.Catch scope caught) = Unit {0}
IsNoCall (kind.Finally scope pending) = Unit {0}
IsNoCall (kind.Once scope block routine) = Unit {0}
IsNoCall (kind.Barrier scope key routine) = Unit {0}

-- The parameter and locals of the innermost call (docs/machine.md, "Routines").
abbrev pub innermost : List (List ℤ) → List ℤ
innermost [] = []
innermost (locals ∷ calls) = locals

-- The locals of the calls outside the innermost (docs/machine.md, "Routines").
abbrev pub outside : List (List ℤ) → List (List ℤ)
outside [] = []
outside (locals ∷ calls) = calls

-- The locals below a frame: a call takes its own off (docs/machine.md, "Routines").
abbrev pub below : List (List ℤ) → Kind → List (List ℤ)
below calls (kind.Call place count) = outside calls
below calls (kind.Try scope first) = calls
below calls (kind.Catch scope caught) = calls
below calls (kind.Finally scope pending) = calls
below calls (kind.Once scope block routine) = calls
below calls (kind.Barrier scope key routine) = calls

-- Locals where the one at this place of the innermost call has this value (docs/machine.md, "Routines").
abbrev pub set_in : List (List ℤ) → ℕ → ℤ → List (List ℤ)
set_in [] p n = []
set_in (locals ∷ calls) p n = slice_set locals p n ∷ calls

-- The frame of a call stands inside all others, and its routine has so many locals and this argument. Where it stands alone there
-- were no locals (docs/machine.md, "Routines").
pub record HasCalled (place : Option ℕ) (back count : ℕ) (n : ℤ) (old new : FramesView) : Type 0 where
  pub callers : ℕ
  pub alone : old.items ≡ [] → old.calls ≡ []
  pub same : new ≡ record old { items = record { kind = kind.Call place callers; back = back } ∷ old.items; calls = first_locals count n ∷ old.calls }
