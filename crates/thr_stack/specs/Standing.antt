-- What a context stands for: what is left to do, given the script whose lines it stands on (docs/machine.md, "What is left to do").
use Rattle.std.specs.Prelude.{◌≡◌, ◌≢◌, ℕ, ◌+◌, ◌<◌, ◌≤◌, ◌^◌, ℤ, List, [], ◌∷◌, ◌++◌, length, Bool, true, false, Option, Some, None}
use Rattle.thr_values.specs.declared.number.NameId.{NameId}
use Rattle.thr_values.specs.declared.history.What.{What}
use Rattle.thr_syntax.specs.declared.expr.Expr.{Expr}
use Rattle.thr_syntax.specs.declared.form.Form.{Form}
use Rattle.thr_syntax.specs.declared.form.Form.TheVariants as form
use Rattle.thr_syntax.specs.declared.tree.Script.{Script}
use Rattle.thr_remainder.specs.declared.unwinding.Cause.{Cause}
use Rattle.thr_remainder.specs.Places.{Placed, nothing, Handler, Catches, Finally}
use Rattle.thr_remainder.specs.Declarations.{routine_of}
use Rattle.thr_remainder.specs.Declarations as declarations
use Rattle.thr_remainder.specs.Remainders.{Item, Role, Calling, Trying, Catching, Finishing, Doing, Barrier, Setting, Remainder, Move, place_in}
use Rattle.thr_remainder.specs.Expressions.{SharedValues}
use Rattle.thr_remainder.specs.Steps.{step_at}
use Rattle.thr_lines.specs.Layout.{line_at, last_line}
use Rattle.thr_lines.specs.AtLines.{EndsTryBody}
use Rattle.thr_stack.specs.declared.frame.Kind.{Kind}
use Rattle.thr_stack.specs.declared.frame.Kind.TheVariants as kind
use Rattle.thr_stack.specs.declared.frame.Frame.{Frame}
use Rattle.thr_stack.specs.declared.context.Context.{Context}
use Rattle.thr_stack.specs.FrameLists.{innermost, below, set_in}

-- ---- items

-- The item that a frame is, where these are the locals of the calls (docs/machine.md, "What is left to do").
abbrev pub role_of : Script → List (List ℤ) → Kind → Role
role_of s calls (kind.Call place count) = Calling (innermost calls) place
role_of s calls (kind.Try scope first) = Trying scope (line_at s first).ways
role_of s calls (kind.Catch scope caught) = Catching scope caught
role_of s calls (kind.Finally scope pending) = Finishing scope pending
role_of s calls (kind.Once scope block routine) = Doing scope block routine
role_of s calls (kind.Barrier scope key routine) = Barrier scope key routine

-- Frames as items: the innermost goes on at this line, and these are the locals of the calls (docs/machine.md, "What is left to do").
abbrev pub items_of : Script → ℕ → List (List ℤ) → List Frame → List Item
items_of s line calls [] = []
items_of s line calls (f ∷ frames) =
    record { role = role_of s calls f.kind; inside = (line_at s line).left } ∷ items_of s f.back (below calls f.kind) frames

-- What a context stands for (docs/machine.md, "What is left to do").
abbrev pub remainder_of : Script → Context → Remainder
remainder_of s k = record {
  items = items_of s k.line k.frames.calls k.frames.items;
  under_way = k.under_way;
  value = k.value;
  err = k.err;
  scopes = k.scopes;
  unwindings = k.unwindings;
}

-- What stays while a thread runs (docs/machine.md, "Frames").
abbrev pub setting_of : Script → Context → Setting
setting_of s k = record { script = s; me = k.me; size = k.frames.size }

-- ---- lines

-- The line is one of the script's (docs/machine.md, "The lines of a script").
abbrev pub IsLine : Script → ℕ → Type 0
IsLine s l = (1 ≤ l) × (l ≤ last_line s)

-- The clauses of a try begin at a line that ends a body of it.
abbrev pub IsKind : Script → Kind → Type 0
IsKind s (kind.Try scope first) = IsLine s first × EndsTryBody (line_at s first).row.form
IsKind s _ = Unit {0}

-- Each line of the frames is one of the script, and below the outermost frame there are no locals (docs/machine.md,
-- "Routines").
abbrev pub AreFrames : Script → ℕ → List (List ℤ) → List Frame → Type 0
AreFrames s line calls [] = calls ≡ []
AreFrames s line calls (f ∷ frames) = IsLine s line × IsKind s f.kind × AreFrames s f.back (below calls f.kind) frames

-- The context stands on the lines of this script.
abbrev pub IsGood : Script → Context → Type 0
IsGood s k = AreFrames s k.line k.frames.calls k.frames.items

-- The same, and a frame is left.
pub record Stands (s : Script) (k : Context) : Type 0 where
  pub good : IsGood s k
  pub line : IsLine s k.line
  pub some : k.frames.items ≢ []

-- The same, and there is room for one number more of each kind and for one more line.
pub record IsReady (s : Script) (k : Context) (notes : List What) : Type 0 where
  pub stands : Stands s k
  pub scopes : k.scopes + 1 < 2 ^ 64
  pub unwindings : k.unwindings + 1 < 2 ^ 64
  pub room : length notes < 136

-- ---- steps

-- A step was made from the old context to the new one, and its lines written (docs/machine.md, "Quiet steps").
pub record Makes (s : Script) (move : Move) (old new : Context) (before after : List What) : Type 0 where
  pub to : remainder_of s new ≡ move.to
  pub lines : after ≡ before ++ move.lines
  pub setting : setting_of s new ≡ setting_of s old
  pub good : IsGood s new

-- The step at the innermost place was made; a shared one tells of its value, and sees these values of shared variables
-- (docs/machine.md, "Shared statements").
abbrev pub Steps : Script → (tells : Bool) → SharedValues → (old new : Context) → (before after : List What) → Type 0
Steps s tells shared old new before after =
    Makes s (step_at (setting_of s old) tells shared (place_in (remainder_of s old).items) (remainder_of s old)) old new before after

-- The same of a step that depends on neither.
abbrev pub StepsAnyhow : Script → (old new : Context) → (before after : List What) → Type 0
StepsAnyhow s old new before after = (tells : Bool) (shared : SharedValues) → Steps s tells shared old new before after

-- ---- routines

-- A routine that can be called: it is declared, and has at most 16 locals (docs/script.md, "Faults").
pub record IsRoutine (s : Script) (name : NameId) : Type 0 where
  pub entry : declarations.Entry
  pub declared : routine_of s name ≡ Some entry
  pub few : entry.locals ≤ 16

-- Each routine that a line calls can be called (docs/script.md, "Names").
abbrev pub CanCall : Script → Type 0
CanCall s = (l : ℕ) (name : NameId) (e : Expr) (place : Option ℕ) → (line_at s l).row.form ≡ form.Call name e place → IsRoutine s name

-- ---- parts of steps

-- The context where the next unwinding is under way for this cause (docs/machine.md, "Unwindings").
abbrev pub set_out : Cause → Context → Context
set_out cause k = record k { under_way = Some (record { number = k.unwindings + 1; cause = cause }); unwindings = k.unwindings + 1 }

-- Locals where the one of the innermost call at the place for it has this value (docs/machine.md, "Routines").
abbrev pub stored_calls : Option ℕ → ℤ → List (List ℤ) → List (List ℤ)
stored_calls None n calls = calls
stored_calls (Some p) n calls = set_in calls p n

-- The kept value once a call above these frames has returned (docs/machine.md, "Routines").
abbrev pub kept_by : List Frame → ℤ → ℤ → ℤ
kept_by [] n v = n
kept_by (f ∷ frames) n v = v

-- A try whose clauses begin at this line has a FINALLY body, which begins below it, or has catch clauses (docs/machine.md,
-- "Handlers").
abbrev pub Ends : Script → ℕ → Bool → Type 0
Ends s first true = IsLine s (first + 1) × ((line_at s first).ways ≡ Finally (line_at s (first + 1)).left)
Ends s first false = (handlers : List Handler) × ((line_at s first).ways ≡ Catches handlers)

-- A line where a step stands: a statement, or the line that closes a body which has nothing left (docs/machine.md, "The lines of
-- a script").
abbrev pub IsPlace : Script → ℕ → Form → Type 0
IsPlace s l form.Else = ⊥
IsPlace s l (form.Routine name parameter) = ⊥
IsPlace s l (form.Local name) = ⊥
IsPlace s l form.End = (line_at s l).left ≡ nothing l
IsPlace s l _ = Unit {0}

-- The line of the first statement that is left of a body, or the line that closes it (docs/machine.md, "The next step").
abbrev pub first_line : List Placed → ℕ → ℕ
first_line [] close = close
first_line (p ∷ todo) close = p.line
