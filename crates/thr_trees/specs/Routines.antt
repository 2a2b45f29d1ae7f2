-- Routines that a script has (docs/script.md, "Lines").
use Rattle.std.specs.Prelude.{◌≡◌, ℕ, ◌≤◌, List, position, unwrap_or, Some}
use Rattle.std.specs.Str.{bytes_eq}
use Rattle.thr_values.specs.declared.number.NameId.{NameId}
use Rattle.thr_syntax.specs.declared.tree.Script.{Script}
use Rattle.thr_remainder.specs.Declarations.{Entry, routine_of}

-- The name is that of a routine, which has at least a parameter and, with it, at most 16 locals (docs/script.md, "Faults", F18).
pub record IsRoutine (s : Script) (name : NameId) : Type 0 where
  pub entry : Entry
  pub declared : routine_of s name ≡ Some entry
  pub some : 1 ≤ entry.locals
  pub few : entry.locals ≤ 16

-- The first name of a script that has this text (docs/script.md, "Names").
abbrev pub name_with : Script → List ℕ → NameId
name_with s text = record { 0 = unwrap_or (position (λ name. bytes_eq name text) s.names) 0 }
