-- Routines that run in a scope of their own.
use Rattle.std.specs.Prelude.{ℤ, List}
use Rattle.thr_values.specs.declared.number.NameId.{NameId}
use Rattle.thr_values.specs.declared.history.What.{What}
use Rattle.thr_syntax.specs.declared.tree.Script.{Script}
use Rattle.thr_remainder.specs.Declarations.{entry_of}
use Rattle.thr_remainder.specs.Starts.{begins}
use Rattle.thr_stack.specs.declared.frame.Kind.{Kind}
use Rattle.thr_stack.specs.declared.frame.Kind.TheVariants as kind
use Rattle.thr_stack.specs.declared.context.Context.{Context}
use Rattle.thr_stack.specs.Standing.{Makes, role_of, remainder_of}

-- The frame is that of a once block or of a key (docs/machine.md, "What is left to do").
abbrev pub IsScope : Kind → Type 0
IsScope (kind.Once scope block routine) = Unit {0}
IsScope (kind.Barrier scope key routine) = Unit {0}
IsScope _ = ⊥

-- A scope of this kind was opened, in which this routine runs with this argument (docs/machine.md, "Once blocks" and "Keys").
abbrev pub Begins : Script → Kind → NameId → ℤ → What → (old new : Context) → (before after : List What) → Type 0
Begins s x routine n line old new before after = Makes s (begins (entry_of s routine) (role_of s old.frames.calls x) n line (remainder_of s old)) old new before after
