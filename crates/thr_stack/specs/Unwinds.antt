-- How unwindings go outward over frames.
use Rattle.std.specs.Prelude.{◌≡◌, ℕ, ◌+◌, ℤ, List, Option, Some, None}
use Rattle.thr_values.specs.declared.number.NameId.{NameId}
use Rattle.thr_values.specs.declared.exception.Exc.{Exc}
use Rattle.thr_values.specs.declared.history.What.{What}
use Rattle.thr_syntax.specs.declared.tree.Script.{Script}
use Rattle.thr_remainder.specs.declared.unwinding.Unwinding.{Unwinding}
use Rattle.thr_remainder.specs.Places.{Handler, Catches}
use Rattle.thr_remainder.specs.Outward.{first_catch, Drops, Begins, Undoes, Loses, meeting, outward_from, outward}
use Rattle.thr_lines.specs.Layout.{line_at}
use Rattle.thr_stack.specs.declared.frame.Kind.{Kind}
use Rattle.thr_stack.specs.declared.frame.Met.{Met}
use Rattle.thr_stack.specs.declared.frame.Met.TheVariants as met
use Rattle.thr_stack.specs.declared.context.Context.{Context}
use Rattle.thr_stack.specs.FrameLists.{IsNoCall, below}
use Rattle.thr_stack.specs.Standing.{IsLine, IsKind, AreFrames, Makes, role_of, items_of, setting_of, remainder_of}

-- The clause at this line is the first of the try that catches, or none does, or the try has no catch clauses.
pub record Catching (s : Script) (x : Exc) (first line : ℕ) : Type 0 where
  pub inside : IsLine s (line + 1)
  pub handlers : List Handler
  pub ways : (line_at s first).ways ≡ Catches handlers
  pub names : Option NameId
  pub first_is : first_catch s x handlers ≡ Some (record { line = line; names = names; body = (line_at s (line + 1)).left })

pub record NoCatch (s : Script) (x : Exc) (first : ℕ) : Type 0 where
  pub handlers : List Handler
  pub ways : (line_at s first).ways ≡ Catches handlers
  pub first_is : first_catch s x handlers ≡ None

-- An unwinding went outward until it ended or came to a once block.
abbrev pub GoesOut : Script → Unwinding → (old new : Context) → (before after : List What) → Type 0
GoesOut s u old new before after = Makes s (outward (setting_of s old) u (remainder_of s old)) old new before after

-- What an unwinding does at a frame is what it does at the item that the frame is.
abbrev pub Meets : Script → Kind → Unwinding → Met → Type 0
Meets s k u met.Drops = (calls : List (List ℤ)) → meeting s (role_of s calls k) u ≡ Drops
Meets s k u (met.Begins new line w) =
    ((calls : List (List ℤ)) → meeting s (role_of s calls k) u ≡ Begins (role_of s calls new) (line_at s line).left w) × IsLine s line × IsKind s new
    × ((calls : List (List ℤ)) → below calls k ≡ calls) × IsNoCall new
Meets s k u met.Undoes = ((calls : List (List ℤ)) → meeting s (role_of s calls k) u ≡ Undoes) × IsNoCall k
Meets s k u (met.Loses w) = ((calls : List (List ℤ)) → meeting s (role_of s calls k) u ≡ Loses w) × ((calls : List (List ℤ)) → below calls k ≡ calls)

-- So far the unwinding has dropped frames.
pub record HasDropped (s : Script) (u : Unwinding) (old now : Context) : Type 0 where
  pub same : now ≡ record old { frames = now.frames; line = now.line }
  pub size : now.frames.size ≡ old.frames.size
  pub good : AreFrames s now.line now.frames.calls now.frames.items
  pub goes : outward_from s u (items_of s now.line now.frames.calls now.frames.items) (remainder_of s old) ≡ outward_from s u (remainder_of s old).items (remainder_of s old)
