-- What a thread asks with, as lists (docs/machine.md, "Calls").
use Rattle.std.specs.Prelude.{List, [], ◌∷◌, Result, Ok, Err}
use Rattle.thr_values.specs.declared.exception.Exc.{Exc}
use Rattle.thr_syntax.specs.declared.expr.Expr.{Expr}
use Rattle.thr_remainder.specs.Replies.{Values}
use Rattle.thr_services.specs.declared.answer.Numbers.{Numbers}
use Rattle.thr_services.specs.Answers.{listed}
use Rattle.thr_asking.specs.declared.expressions.Expressions.{Expressions}
use Rattle.thr_asking.specs.declared.expressions.Expressions.TheVariants as expressions

-- The expressions of a call, in their order (docs/script.md, "Calls").
abbrev pub listed_expressions : Expressions → List Expr
listed_expressions expressions.Nothing = []
listed_expressions (expressions.One e) = e.now ∷ []
listed_expressions (expressions.Two e f) = e.now ∷ f.now ∷ []

-- The values of a call's expressions in their order, or the exception that is raised in its place (docs/machine.md, "Calls").
abbrev pub listed_values : Result Numbers Exc → Values
listed_values (Ok ns) = Ok (listed ns)
listed_values (Err x) = Err x
