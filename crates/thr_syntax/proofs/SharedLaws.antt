-- Whether a shared variable stands in an expression, by the expression's form.
use Rattle.std.proofs.Common.{◌≡◌, ◌||◌, ap, ◌∙◌}
use Rattle.std.specs.List.{list_any}
use Rattle.std.proofs.lemmas.List.Folds.{list_any-append}
use Rattle.thr_syntax.specs.declared.expr.Op.{Op}
use Rattle.thr_syntax.specs.declared.expr.Expr.{Expr, Two, Not}
use Rattle.thr_syntax.specs.Shared.{variables_of, variables_step, is_shared_variable}
use Rattle.thr_syntax.proofs.FoldLaws.{each_expr-Two, each_expr-Not, each_expr-out}

pub reads_shared-Two : (op : Op) (a b : Expr) → list_any is_shared_variable (variables_of (Two op a b)) ≡ (list_any is_shared_variable (variables_of a) || list_any is_shared_variable (variables_of b))
reads_shared-Two op a b = ap (list_any is_shared_variable) (each_expr-Two variables_step op a b) ∙ list_any-append is_shared_variable (variables_of a) (variables_of b)

pub reads_shared-Not : (a : Expr) → list_any is_shared_variable (variables_of (Not a)) ≡ list_any is_shared_variable (variables_of a)
reads_shared-Not a = ap (list_any is_shared_variable) (each_expr-Not variables_step a)

pub ruleset reads_shared_laws = (reads_shared-Two, reads_shared-Not, each_expr-out)
