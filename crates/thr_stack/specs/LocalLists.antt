-- The values of the parameters and locals of calls, in the order in which the calls were made.
use Rattle.std.specs.Prelude.{◌≡◌, ℕ, ◌-◌, ◌≤◌, ℤ, List, [], ◌∷◌, length, take, drop}
use Rattle.thr_stack.specs.declared.frame.Frame.{Frame}
use Rattle.thr_stack.specs.declared.frame.Kind.{Kind}
use Rattle.thr_stack.specs.declared.frame.Kind.TheVariants as kind

-- The values of the innermost call, those of the calls outside it, and for how many there is memory (docs/machine.md, "Routines").
pub record LocalsView : Type 0 where
  pub here : List ℤ
  pub outer : List ℤ
  pub most : ℕ

-- The innermost call is over, and the one outside it has so many values (docs/machine.md, "Routines").
abbrev pub closed : ℕ → LocalsView → LocalsView
closed count l = record l { here = drop (length l.outer - count) l.outer; outer = take (length l.outer - count) l.outer }

-- The values below a frame: a call takes its own off, and tells how many are its caller's (docs/machine.md, "Routines").
abbrev pub under : Kind → LocalsView → LocalsView
under (kind.Call place count) l = closed count l
under (kind.Try scope first) l = l
under (kind.Catch scope caught) l = l
under (kind.Finally scope pending) l = l
under (kind.Once scope block routine) l = l
under (kind.Barrier scope key routine) l = l

-- The values of a call before those of the calls outside it (docs/machine.md, "Routines").
abbrev pub opened : Kind → List ℤ → List (List ℤ) → List (List ℤ)
opened (kind.Call place count) here calls = here ∷ calls
opened (kind.Try scope first) here calls = calls
opened (kind.Catch scope caught) here calls = calls
opened (kind.Finally scope pending) here calls = calls
opened (kind.Once scope block routine) here calls = calls
opened (kind.Barrier scope key routine) here calls = calls

-- The values call by call, the innermost first (docs/machine.md, "Routines").
abbrev pub calls_of : LocalsView → List Frame → List (List ℤ)
calls_of l [] = []
calls_of l (f ∷ frames) = opened f.kind l.here (calls_of (under f.kind l) frames)

-- A call has at most 16 values, and those of its caller are there (docs/script.md, "Faults").
abbrev pub FitsCall : Kind → LocalsView → Type 0
FitsCall (kind.Call place count) l = (length l.here ≤ 16) × (count ≤ length l.outer)
FitsCall _ l = Unit {0}

-- The same of each frame, and there are no other values (docs/machine.md, "Routines").
abbrev pub FitsAll : LocalsView → List Frame → Type 0
FitsAll l [] = (l.here ≡ []) × (l.outer ≡ [])
FitsAll l (f ∷ frames) = FitsCall f.kind l × FitsAll (under f.kind l) frames
