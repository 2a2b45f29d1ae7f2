-- The names of a statement that is next are of the kinds that their places ask.
use Rattle.std.proofs.Common.{◌≡◌, ℕ, ◌-◌, List, [], ◌∷◌, Some, None, refl, sym, subst}
use Rattle.thr_syntax.specs.declared.form.Form.{Form}
use Rattle.thr_syntax.specs.declared.tree.Script.{Script}
use Rattle.thr_syntax.specs.declared.tree.Stmt.{Stmt, Set, Say, If, While, TryCatch, TryFinally, Raise, Reraise, Call, Return, Exit, Dce}
use Rattle.thr_syntax.specs.Lines.{lines_of, stmt_lines, stmt_step, clause_step}
use Rattle.thr_syntax.proofs.FoldLaws.{each_stmt-Raise, each_stmt-Dce}
use Rattle.thr_syntax.proofs.TreeInduction.{StmtCases, stmt_induction}
use Rattle.thr_text.specs.declared.object.Object.TheVariants as object
use Rattle.thr_text.specs.Reading.{Formed}
use Rattle.thr_trees.specs.Names.{Asked, named_in, named_in_call, AreOfKinds, IsNamed, locals_at}
use Rattle.thr_trees.proofs.LinesNamed.{standing_is_named}
use Rattle.thr_remainder.specs.Places.{Left}
use Rattle.thr_remainder.specs.Acts.{Act, Raises, Asks, act_of}
use Rattle.thr_remainder.specs.Remainders.{Spot, act_at}
use Rattle.thr_remainder.specs.Standing.{StandAt}
use Rattle.thr_remainder.proofs.ActLaws.{act_of-Set, act_of-Say, act_of-If, act_of-While, act_of-TryCatch, act_of-TryFinally, act_of-Raise, act_of-Reraise, act_of-Call, act_of-Return, act_of-Exit, act_of-Dce}
use Rattle.thr_answers.proofs.StepsStand.{IsSpot}

-- The exception that an act raises, or the names of the call that it makes, with their kinds.
abbrev pub act_names : Act → List Asked
act_names (Raises name) = (name, object.Exception) ∷ []
act_names (Asks call) = named_in_call call
act_names _ = []

-- Where the lines of a statement stand in the script, the names of what it does first are of their kinds.
abbrev Tells : Script → Stmt → Type 0
Tells s x = (line : ℕ) (rest : Left) → StandAt (lines_of s) line (stmt_lines x) → AreOfKinds s (act_names (act_of line x rest))

module _ (s : Script) (formed : Formed s) where
  silent : (x : Stmt) (line : ℕ) (rest : Left) (a : Act) → act_of line x rest ≡ a → act_names a ≡ [] → AreOfKinds s (act_names (act_of line x rest))
  silent x line rest a e none = subst (λ (b : Act). AreOfKinds s (act_names b)) (sym e) (subst (AreOfKinds s) (sym none) tt)

  told : (x : Stmt) (line : ℕ) (rest : Left) (f : Form) (a : Act) → stmt_lines x ≡ f ∷ [] → act_of line x rest ≡ a → act_names a ≡ named_in f → StandAt (lines_of s) line (stmt_lines x)
      → AreOfKinds s (act_names (act_of line x rest))
  told x line rest f a e i same at =
      let own : StandAt (lines_of s) line (f ∷ []) = subst (StandAt (lines_of s) line) e at in
      let names : IsNamed s (locals_at s (line - 1)) f = standing_is_named s formed line f [] own in
      subst (λ (b : Act). AreOfKinds s (act_names b)) (sym i) (subst (AreOfKinds s) (sym same) names.named)

  cases : StmtCases (Tells s) (λ body. Unit {0}) (λ clauses. Unit {0})
  cases = record {
    set = λ v e line rest at. silent (Set v e) line rest _ (act_of-Set line rest v e) refl;
    say = λ e line rest at. silent (Say e) line rest _ (act_of-Say line rest e) refl;
    if_alone = λ e body b line rest at. silent (If e body None) line rest _ (act_of-If line rest e body None) refl;
    if_else = λ e body more b c line rest at. silent (If e body (Some more)) line rest _ (act_of-If line rest e body (Some more)) refl;
    while = λ e body b line rest at. silent (While e body) line rest _ (act_of-While line rest e body) refl;
    try_catch = λ body clauses b c line rest at. silent (TryCatch body clauses) line rest _ (act_of-TryCatch line rest body clauses) refl;
    try_finally = λ body final b c line rest at. silent (TryFinally body final) line rest _ (act_of-TryFinally line rest body final) refl;
    raise = λ name line rest at. told (Raise name) line rest _ _ (each_stmt-Raise stmt_step clause_step name) (act_of-Raise line rest name) refl at;
    reraise = λ line rest at. silent Reraise line rest _ (act_of-Reraise line rest) refl;
    call = λ name e place line rest at. silent (Call name e place) line rest _ (act_of-Call line rest name e place) refl;
    return = λ e line rest at. silent (Return e) line rest _ (act_of-Return line rest e) refl;
    exit = λ e line rest at. silent (Exit e) line rest _ (act_of-Exit line rest e) refl;
    dce = λ call line rest at. told (Dce call) line rest _ _ (each_stmt-Dce stmt_step clause_step call) (act_of-Dce line rest call) refl at;
    body_end = tt;
    body_more = λ s body a b. tt;
    clauses_end = tt;
    clauses_more = λ c clauses a b. tt;
  }

  tells : (x : Stmt) → Tells s x
  tells = stmt_induction (Tells s) (λ body. Unit {0}) (λ clauses. Unit {0}) cases

  -- The names of the statement that is next.
  pub spot_named : (h : Spot) → IsSpot (lines_of s) h → AreOfKinds s (act_names (act_at h))
  spot_named h stands = tells h.stmt h.line h.rest stands.here
