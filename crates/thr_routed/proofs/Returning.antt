-- Where tries have no returns, what is left inside of scopes has none.
use Rattle.std.proofs.Common.{◌≡◌, ℕ, ◌+◌, List, [], ◌∷◌, ◌++◌, Some, None, sym, subst}
use Rattle.thr_syntax.specs.declared.expr.Expr.{Expr}
use Rattle.thr_syntax.specs.declared.form.Form.{Form}
use Rattle.thr_syntax.specs.declared.form.Form.TheVariants as form
use Rattle.thr_syntax.specs.declared.tree.Clause.{Clause}
use Rattle.thr_syntax.specs.declared.tree.Stmt.{Stmt, Set, Say, If, While, TryCatch, TryFinally, Raise, Reraise, Call, Return, Exit, Dce}
use Rattle.thr_syntax.specs.declared.tree.Script.{Script}
use Rattle.thr_syntax.specs.Lines.{stmt_lines, body_lines, stmt_step, clause_step, lines_of}
use Rattle.thr_syntax.proofs.FoldLaws.{each_stmt-If, each_stmt-While, each_stmt-TryCatch, each_stmt-TryFinally, each_stmt-Return}
use Rattle.thr_syntax.proofs.TreeInduction.{StmtCases, stmt_induction}
use Rattle.thr_remainder.specs.Places.{Placed, Left, Handler, Ways, Catches, Finally, placed, size, body_size, body_then, stmt_then, body_at, handlers_at}
use Rattle.thr_remainder.specs.Acts.{Act, Chooses, Repeats, Tries, Returns, act_of}
use Rattle.thr_remainder.specs.Standing.{StandAt}
use Rattle.thr_remainder.proofs.ActLaws.{act_of-Set, act_of-Say, act_of-If, act_of-While, act_of-TryCatch, act_of-TryFinally, act_of-Raise, act_of-Reraise, act_of-Call, act_of-Return, act_of-Exit, act_of-Dce}
use Rattle.thr_remainder.proofs.SizeLaws.{clauses_lines}
use Rattle.thr_routed.specs.Returns.{NoReturns, TriesHaveNoReturns}

-- ---- lines

pub first_none : (xs ys : List Form) → NoReturns (xs ++ ys) → NoReturns xs
first_none [] ys h = tt
first_none (x ∷ xs) ys h = (h.0, first_none xs ys h.1)

pub last_none : (xs ys : List Form) → NoReturns (xs ++ ys) → NoReturns ys
last_none [] ys h = h
last_none (x ∷ xs) ys h = last_none xs ys h.1

-- ---- what is left

abbrev pub AreClean : List Placed → Type 0
AreClean [] = Unit {0}
AreClean (p ∷ todo) = NoReturns (stmt_lines p.stmt) × AreClean todo

-- What is left of a body has no return.
abbrev pub IsClean : Left → Type 0
IsClean left = AreClean left.todo

abbrev pub CleanHandlers : List Handler → Type 0
CleanHandlers [] = Unit {0}
CleanHandlers (h ∷ handlers) = IsClean h.body × CleanHandlers handlers

abbrev pub CleanWays : Ways → Type 0
CleanWays (Catches handlers) = CleanHandlers handlers
CleanWays (Finally body) = IsClean body

placed_clean : (line : ℕ) (body : List Stmt) → NoReturns (body_lines body) → AreClean (placed line body)
placed_clean line [] h = tt
placed_clean line (s ∷ body) h = (first_none (stmt_lines s) (body_lines body) h, placed_clean (line + size s) body (last_none (stmt_lines s) (body_lines body) h))

then_clean : (todo rest : List Placed) → AreClean todo → AreClean rest → AreClean (todo ++ rest)
then_clean [] rest h k = k
then_clean (p ∷ todo) rest h k = (h.0, then_clean todo rest h.1 k)

-- A body that the line below it closes.
alone_clean : (line : ℕ) (body : List Stmt) → NoReturns (body_lines body) → IsClean (body_at line body)
alone_clean line body h = then_clean (placed line body) [] (placed_clean line body h) tt

handlers_clean : (clauses : List Clause) (line : ℕ) → NoReturns (clauses_lines clauses) → CleanHandlers (handlers_at line clauses)
handlers_clean [] line h = tt
handlers_clean (c ∷ clauses) line h =
    (alone_clean (line + 1) c.body (first_none (body_lines c.body) (clauses_lines clauses) h.1), handlers_clean clauses (line + 1 + body_size c.body) (last_none (body_lines c.body) (clauses_lines clauses) h.1))

-- ---- acts

-- A try leaves nothing that has a return.
abbrev pub IsCleanTry : Act → Type 0
IsCleanTry (Tries body ways) = IsClean body × CleanWays ways
IsCleanTry _ = Unit {0}

-- The act is no return and leaves nothing that has one.
abbrev pub IsCleanAct : Act → Type 0
IsCleanAct (Chooses e body other) = IsClean body × IsClean other
IsCleanAct (Repeats e again) = IsClean again
IsCleanAct (Tries body ways) = IsClean body × CleanWays ways
IsCleanAct (Returns e) = ⊥
IsCleanAct _ = Unit {0}

catching_clean : (line : ℕ) (body : List Stmt) (clauses : List Clause) → NoReturns (stmt_lines (TryCatch body clauses)) → IsClean (body_at (line + 1) body) × CleanWays (Catches (handlers_at (line + 1 + body_size body) clauses))
catching_clean line body clauses h =
    let inside : NoReturns (form.Try ∷ (body_lines body ++ (clauses_lines clauses ++ form.Endtry ∷ []))) = subst NoReturns (each_stmt-TryCatch stmt_step clause_step body clauses) h in
    let rest : List Form = clauses_lines clauses ++ form.Endtry ∷ [] in
    (alone_clean (line + 1) body (first_none (body_lines body) rest inside.1), handlers_clean clauses (line + 1 + body_size body) (first_none (clauses_lines clauses) (form.Endtry ∷ []) (last_none (body_lines body) rest inside.1)))

finishing_clean : (line : ℕ) (body final : List Stmt) → NoReturns (stmt_lines (TryFinally body final)) → IsClean (body_at (line + 1) body) × CleanWays (Finally (body_at (line + 1 + body_size body + 1) final))
finishing_clean line body final h =
    let rest : List Form = form.Finally ∷ (body_lines final ++ form.Endtry ∷ []) in
    let inside : NoReturns (form.Try ∷ (body_lines body ++ rest)) = subst NoReturns (each_stmt-TryFinally stmt_step clause_step body final) h in
    let below : NoReturns rest = last_none (body_lines body) rest inside.1 in
    (alone_clean (line + 1) body (first_none (body_lines body) rest inside.1), alone_clean (line + 1 + body_size body + 1) final (first_none (body_lines final) (form.Endtry ∷ []) below.1))

abbrev ActClean : Stmt → Type 0
ActClean s = (line : ℕ) (rest : Left) → NoReturns (stmt_lines s) → IsClean rest → IsCleanAct (act_of line s rest)

plain_clean : (line : ℕ) (s : Stmt) (rest : Left) (a : Act) → act_of line s rest ≡ a → IsCleanAct a → IsCleanAct (act_of line s rest)
plain_clean line s rest a e k = subst IsCleanAct (sym e) k

body_clean : (line : ℕ) (body : List Stmt) (rest : Left) → NoReturns (body_lines body) → IsClean rest → IsClean (body_then line body rest)
body_clean line body rest h k = then_clean (placed line body) rest.todo (placed_clean line body h) k

if_alone_clean : (e : Expr) (body : List Stmt) → ActClean (If e body None)
if_alone_clean e body line rest h k =
    let inside : NoReturns (form.If e ∷ (body_lines body ++ form.End ∷ [])) = subst NoReturns (each_stmt-If stmt_step clause_step e body None) h in
    plain_clean line (If e body None) rest _ (act_of-If line rest e body None) (body_clean (line + 1) body rest (first_none (body_lines body) (form.End ∷ []) inside.1) k, k)

if_else_clean : (e : Expr) (body other : List Stmt) → ActClean (If e body (Some other))
if_else_clean e body other line rest h k =
    let more : List Form = form.Else ∷ (body_lines other ++ form.End ∷ []) in
    let inside : NoReturns (form.If e ∷ (body_lines body ++ more)) = subst NoReturns (each_stmt-If stmt_step clause_step e body (Some other)) h in
    let below : NoReturns more = last_none (body_lines body) more inside.1 in
    plain_clean line (If e body (Some other)) rest _ (act_of-If line rest e body (Some other)) (
      body_clean (line + 1) body rest (first_none (body_lines body) more inside.1) k,
      body_clean (line + 1 + body_size body + 1) other rest (first_none (body_lines other) (form.End ∷ []) below.1) k,
    )

while_clean : (e : Expr) (body : List Stmt) → ActClean (While e body)
while_clean e body line rest h k =
    let inside : NoReturns (form.While e ∷ (body_lines body ++ form.End ∷ [])) = subst NoReturns (each_stmt-While stmt_step clause_step e body) h in
    plain_clean line (While e body) rest _ (act_of-While line rest e body) (body_clean (line + 1) body (stmt_then line (While e body) rest) (first_none (body_lines body) (form.End ∷ []) inside.1) (h, k))

return_clean : (e : Expr) → ActClean (Return e)
return_clean e line rest h k = (let inside : NoReturns (form.Return e ∷ []) = subst NoReturns (each_stmt-Return stmt_step clause_step e) h in absurd inside.0)

clean_cases : StmtCases ActClean (λ body. Unit {0}) (λ clauses. Unit {0})
clean_cases = record {
  set = λ v e line rest h k. plain_clean line (Set v e) rest _ (act_of-Set line rest v e) tt;
  say = λ e line rest h k. plain_clean line (Say e) rest _ (act_of-Say line rest e) tt;
  if_alone = λ e body b. if_alone_clean e body;
  if_else = λ e body other b c. if_else_clean e body other;
  while = λ e body b. while_clean e body;
  try_catch = λ body clauses b c line rest h k. plain_clean line (TryCatch body clauses) rest _ (act_of-TryCatch line rest body clauses) (catching_clean line body clauses h);
  try_finally = λ body final b c line rest h k. plain_clean line (TryFinally body final) rest _ (act_of-TryFinally line rest body final) (finishing_clean line body final h);
  raise = λ name line rest h k. plain_clean line (Raise name) rest _ (act_of-Raise line rest name) tt;
  reraise = λ line rest h k. plain_clean line Reraise rest _ (act_of-Reraise line rest) tt;
  call = λ name e place line rest h k. plain_clean line (Call name e place) rest _ (act_of-Call line rest name e place) tt;
  return = λ e. return_clean e;
  exit = λ e line rest h k. plain_clean line (Exit e) rest _ (act_of-Exit line rest e) tt;
  dce = λ call line rest h k. plain_clean line (Dce call) rest _ (act_of-Dce line rest call) tt;
  body_end = tt;
  body_more = λ s body a b. tt;
  clauses_end = tt;
  clauses_more = λ c clauses a b. tt;
}

pub acts_clean : (s : Stmt) → ActClean s
acts_clean = stmt_induction ActClean (λ body. Unit {0}) (λ clauses. Unit {0}) clean_cases

-- ---- tries of the script

module _ (s : Script) (tries : TriesHaveNoReturns s) where
  abbrev TryClean : Stmt → Type 0
  TryClean stmt = (line : ℕ) (rest : Left) → StandAt (lines_of s) line (stmt_lines stmt) → IsCleanTry (act_of line stmt rest)

  plain_try : (line : ℕ) (stmt : Stmt) (rest : Left) (a : Act) → act_of line stmt rest ≡ a → IsCleanTry a → IsCleanTry (act_of line stmt rest)
  plain_try line stmt rest a e k = subst IsCleanTry (sym e) k

  try_cases : StmtCases TryClean (λ body. Unit {0}) (λ clauses. Unit {0})
  try_cases = record {
    set = λ v e line rest h. plain_try line (Set v e) rest _ (act_of-Set line rest v e) tt;
    say = λ e line rest h. plain_try line (Say e) rest _ (act_of-Say line rest e) tt;
    if_alone = λ e body b line rest h. plain_try line (If e body None) rest _ (act_of-If line rest e body None) tt;
    if_else = λ e body other b c line rest h. plain_try line (If e body (Some other)) rest _ (act_of-If line rest e body (Some other)) tt;
    while = λ e body b line rest h. plain_try line (While e body) rest _ (act_of-While line rest e body) tt;
    try_catch = λ body clauses b c line rest h. plain_try line (TryCatch body clauses) rest _ (act_of-TryCatch line rest body clauses) (catching_clean line body clauses (tries.catching body clauses line h));
    try_finally = λ body final b c line rest h. plain_try line (TryFinally body final) rest _ (act_of-TryFinally line rest body final) (finishing_clean line body final (tries.finishing body final line h));
    raise = λ name line rest h. plain_try line (Raise name) rest _ (act_of-Raise line rest name) tt;
    reraise = λ line rest h. plain_try line Reraise rest _ (act_of-Reraise line rest) tt;
    call = λ name e place line rest h. plain_try line (Call name e place) rest _ (act_of-Call line rest name e place) tt;
    return = λ e line rest h. plain_try line (Return e) rest _ (act_of-Return line rest e) tt;
    exit = λ e line rest h. plain_try line (Exit e) rest _ (act_of-Exit line rest e) tt;
    dce = λ call line rest h. plain_try line (Dce call) rest _ (act_of-Dce line rest call) tt;
    body_end = tt;
    body_more = λ s body a b. tt;
    clauses_end = tt;
    clauses_more = λ c clauses a b. tt;
  }

  pub tries_clean : (stmt : Stmt) → TryClean stmt
  tries_clean = stmt_induction TryClean (λ body. Unit {0}) (λ clauses. Unit {0}) try_cases
