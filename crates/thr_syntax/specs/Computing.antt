-- The words that a definition over trees made by their variants unfolds to compute.
use Rattle.thr_syntax.specs.declared.expr.Expr.TheBlock.{shape-the_row-Expr-0, hidden-the_row-Expr-0, shown-the_row-Expr-0}
use Rattle.thr_syntax.specs.declared.tree.Stmt.TheBlock.{shape-the_row-Stmt-0, hidden-the_row-Stmt-0, shown-the_row-Stmt-0, shape-the_row-Clause-1, hidden-the_row-Clause-1, shown-the_row-Clause-1}

unfoldable pub tree_words : Unit {0}
unfolding shape-the_row-Expr-0 hidden-the_row-Expr-0 shown-the_row-Expr-0 shape-the_row-Stmt-0 hidden-the_row-Stmt-0 shown-the_row-Stmt-0 shape-the_row-Clause-1 hidden-the_row-Clause-1 shown-the_row-Clause-1 denote.Hole.Carrier.hidden denote.Hole.Carrier.shown
tree_words = tt
