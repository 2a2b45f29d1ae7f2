-- The line of a statement that sets a variable is the statement's own.
use Rattle.std.proofs.Common.{◌≡◌, ℕ, [], ◌∷◌, None, Some, sym, ap, ◌∙◌}
use Rattle.thr_syntax.specs.declared.expr.Var.{Var}
use Rattle.thr_syntax.specs.declared.expr.Expr.{Expr}
use Rattle.thr_syntax.specs.declared.form.Form.{Form}
use Rattle.thr_syntax.specs.declared.form.Form.TheVariants as form
use Rattle.thr_syntax.specs.declared.tree.Stmt.{Stmt, Say, If, While, TryCatch, TryFinally, Raise, Reraise, Call, Return, Exit, Dce}
use Rattle.thr_syntax.specs.Lines.{stmt_lines, stmt_step, clause_step}
use Rattle.thr_syntax.proofs.FoldLaws.{each_stmt-Set}
use Rattle.thr_syntax.proofs.TreeInduction.{StmtCases, stmt_induction}
use Rattle.thr_remainder.specs.Places.{Left}
use Rattle.thr_remainder.specs.Acts.{Act, Sets, act_of}
use Rattle.thr_remainder.proofs.ActLaws.{act_of-Set, act_of-Say, act_of-If, act_of-While, act_of-TryCatch, act_of-TryFinally, act_of-Raise, act_of-Reraise, act_of-Call, act_of-Return, act_of-Exit, act_of-Dce}

-- The statement whose act sets a variable has that line.
abbrev IsSetLine : Stmt → Type 0
IsSetLine x = (line : ℕ) (rest : Left) (v : Var) (e : Expr) → act_of line x rest ≡ Sets v e → stmt_lines x ≡ form.Set v e ∷ []

other : (x : Stmt) (line : ℕ) (rest : Left) (v : Var) (e : Expr) (a : Act) → act_of line x rest ≡ a → act_of line x rest ≡ Sets v e → (a ≡ Sets v e → ⊥) → stmt_lines x ≡ form.Set v e ∷ []
other x line rest v e a f is n = absurd (n (sym f ∙ is))

same_set : (v w : Var) (e f : Expr) → Sets v e ≡ Sets w f → form.Set v e ≡ form.Set w f
same_set v w e f is = cc

cases : StmtCases IsSetLine (λ body. Unit {0}) (λ clauses. Unit {0})
cases = record {
  set = λ w f line rest v e is. each_stmt-Set stmt_step clause_step w f ∙ ap (λ (x : Form). x ∷ []) (same_set w v f e (sym (act_of-Set line rest w f) ∙ is));
  say = λ f line rest v e is. other (Say f) line rest v e _ (act_of-Say line rest f) is (λ i. absurd (cc));
  if_alone = λ f body b line rest v e is. other (If f body None) line rest v e _ (act_of-If line rest f body None) is (λ i. absurd (cc));
  if_else = λ f body more b c line rest v e is. other (If f body (Some more)) line rest v e _ (act_of-If line rest f body (Some more)) is (λ i. absurd (cc));
  while = λ f body b line rest v e is. other (While f body) line rest v e _ (act_of-While line rest f body) is (λ i. absurd (cc));
  try_catch = λ body clauses b c line rest v e is. other (TryCatch body clauses) line rest v e _ (act_of-TryCatch line rest body clauses) is (λ i. absurd (cc));
  try_finally = λ body final b c line rest v e is. other (TryFinally body final) line rest v e _ (act_of-TryFinally line rest body final) is (λ i. absurd (cc));
  raise = λ name line rest v e is. other (Raise name) line rest v e _ (act_of-Raise line rest name) is (λ i. absurd (cc));
  reraise = λ line rest v e is. other Reraise line rest v e _ (act_of-Reraise line rest) is (λ i. absurd (cc));
  call = λ name f place line rest v e is. other (Call name f place) line rest v e _ (act_of-Call line rest name f place) is (λ i. absurd (cc));
  return = λ f line rest v e is. other (Return f) line rest v e _ (act_of-Return line rest f) is (λ i. absurd (cc));
  exit = λ f line rest v e is. other (Exit f) line rest v e _ (act_of-Exit line rest f) is (λ i. absurd (cc));
  dce = λ call line rest v e is. other (Dce call) line rest v e _ (act_of-Dce line rest call) is (λ i. absurd (cc));
  body_end = tt;
  body_more = λ s body a b. tt;
  clauses_end = tt;
  clauses_more = λ c clauses a b. tt;
}

pub set_line : (x : Stmt) → IsSetLine x
set_line = stmt_induction IsSetLine (λ body. Unit {0}) (λ clauses. Unit {0}) cases
