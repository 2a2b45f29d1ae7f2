-- The lines of the script tell the ways of each try.
use Rattle.std.proofs.Common.{◌≡◌, ℕ, zero, suc, ◌+◌, Bool, true, false, List, [], ◌∷◌, ◌++◌, length, length-append, drop, Option, Some, None, refl, sym, ap, ◌∙◌, arith, subst, append_assoc, if◌then◌else◌}
use Rattle.std.specs.List.{find}
use Rattle.std.specs.Prelude.{ℤ}
use Rattle.thr_values.specs.declared.number.NameId.{NameId}
use Rattle.thr_syntax.specs.declared.form.Form.{Form}
use Rattle.thr_syntax.specs.declared.form.Form.TheVariants as form
use Rattle.thr_syntax.specs.declared.tree.Clause.{Clause}
use Rattle.thr_syntax.specs.declared.tree.Stmt.{Stmt, Set, Say, If, While, TryCatch, TryFinally, Raise, Reraise, Call, Return, Exit, Dce}
use Rattle.thr_syntax.specs.declared.tree.Script.{Script}
use Rattle.thr_syntax.specs.Lines.{stmt_lines, body_lines, stmt_step, clause_step, clause_form, lines_of}
use Rattle.thr_syntax.proofs.FoldLaws.{each_stmt-Set, each_stmt-Say, each_stmt-If, each_stmt-While, each_stmt-TryCatch, each_stmt-TryFinally, each_stmt-Raise, each_stmt-Reraise, each_stmt-Call, each_stmt-Return, each_stmt-Exit, each_stmt-Dce}
use Rattle.thr_syntax.proofs.TreeInduction.{StmtCases, stmt_induction, body_induction}
use Rattle.thr_remainder.specs.declared.unwinding.Cause.{Cause}
use Rattle.thr_remainder.specs.declared.unwinding.Cause.TheVariants.{Raised, Exit}
use Rattle.thr_remainder.specs.Places.{Left, Handler, Catches, Finally, body_size, body_at, handlers_at}
use Rattle.thr_remainder.proofs.SizeLaws.{clauses_lines}
use Rattle.thr_remainder.specs.Acts.{Act, act_of}
use Rattle.thr_remainder.specs.Standing.{StandAt}
use Rattle.thr_remainder.specs.Outward.{first_catch}
use Rattle.thr_remainder.proofs.ActLaws.{act_of-Set, act_of-Say, act_of-If, act_of-While, act_of-TryCatch, act_of-TryFinally, act_of-Raise, act_of-Reraise, act_of-Call, act_of-Return, act_of-Exit, act_of-Dce}
use Rattle.thr_laws.specs.Handlers.{clauses_below, clauses_at, takes}
use Rattle.thr_laws.specs.Routes.{Carried, at_clause}
use Rattle.thr_laws.specs.Routes as routes
use Rattle.thr_remainder.specs.Outward.{catches}
use Rattle.thr_values.specs.declared.exception.Exc.{Exc}
use Rattle.thr_routed.specs.Courses.{at_handler, at_ways, HasClauses}
use Rattle.thr_routed.specs.Reaching.{TellsWays}
use Rattle.thr_laws.specs.Handlers as laws

-- Reading clauses passes these lines.
abbrev pub Passes : List Form → Type 0
Passes lines = (inside line : ℕ) (more : List Form) → clauses_below inside line (lines ++ more) ≡ clauses_below inside (line + length lines) more

-- The same inside a further try.
abbrev pub PassesInside : List Form → Type 0
PassesInside lines = (inside line : ℕ) (more : List Form) → clauses_below (suc inside) line (lines ++ more) ≡ clauses_below (suc inside) (line + length lines) more

passes_none : Passes []
passes_none inside line more = ap (λ n. clauses_below inside n more) (omega arith)

passes_both : (xs ys : List Form) → Passes xs → Passes ys → Passes (xs ++ ys)
passes_both xs ys h k inside line more =
    ap (clauses_below inside line) (append_assoc xs ys more) ∙ h inside line (ys ++ more) ∙ k inside (line + length xs) more ∙ ap (λ n. clauses_below inside n more) (omega (arith, length-append xs ys))

passes_inside : (xs : List Form) → Passes xs → PassesInside xs
passes_inside xs h inside = h (suc inside)

inside_both : (xs ys : List Form) → PassesInside xs → PassesInside ys → PassesInside (xs ++ ys)
inside_both xs ys h k inside line more =
    ap (clauses_below (suc inside) line) (append_assoc xs ys more) ∙ h inside line (ys ++ more) ∙ k inside (line + length xs) more ∙ ap (λ n. clauses_below (suc inside) n more) (omega (arith, length-append xs ys))

-- A line that is passed by.
IsPlainForm : Form → Type 0
IsPlainForm f = (inside line : ℕ) (more : List Form) → clauses_below inside line (f ∷ more) ≡ clauses_below inside (line + 1) more

passes_one : (f : Form) → IsPlainForm f → Passes (f ∷ [])
unfolding IsPlainForm
passes_one f h inside line more = h inside line more

passes_next : (f : Form) (xs : List Form) → IsPlainForm f → Passes xs → Passes (f ∷ xs)
passes_next f xs h k = passes_both (f ∷ []) xs (passes_one f h) k

passes_try : (xs : List Form) → PassesInside xs → Passes (form.Try ∷ (xs ++ form.Endtry ∷ []))
passes_try xs h inside line more =
    ap (λ n. clauses_below n (line + 1) ((xs ++ form.Endtry ∷ []) ++ more)) (more_inside inside)
    ∙ ap (clauses_below (suc inside) (line + 1)) (append_assoc xs (form.Endtry ∷ []) more)
    ∙ h inside (line + 1) (form.Endtry ∷ more)
    ∙ ap (λ n. clauses_below inside n more) (omega (arith, length-append xs (form.Endtry ∷ [])))
  where
    more_inside : (n : ℕ) → n + 1 ≡ suc n
    more_inside n = omega arith

plain : (f : Form) → ((line : ℕ) (more : List Form) → clauses_below 0 line (f ∷ more) ≡ clauses_below 0 (line + 1) more)
    → ((inside line : ℕ) (more : List Form) → clauses_below (suc inside) line (f ∷ more) ≡ clauses_below (suc inside) (line + 1) more) → IsPlainForm f
unfolding IsPlainForm
plain f h k zero line more = h line more
plain f h k (suc inside) line more = k inside line more

abbrev PassesStmt : Stmt → Type 0
PassesStmt s = Passes (stmt_lines s)

abbrev PassesBody : List Stmt → Type 0
PassesBody body = Passes (body_lines body)

abbrev PassesClauses : List Clause → Type 0
PassesClauses clauses = PassesInside (clauses_lines clauses)

same_passes : (xs ys : List Form) → xs ≡ ys → Passes ys → Passes xs
same_passes xs ys e h = subst Passes (sym e) h

clause_inside : (names : Option NameId) → PassesInside (clause_form names ∷ [])
clause_inside None inside line more = refl
clause_inside (Some x) inside line more = refl

finally_inside : PassesInside (form.Finally ∷ [])
finally_inside inside line more = refl

cases : StmtCases PassesStmt PassesBody PassesClauses
cases = record {
  set = λ v e. same_passes _ _ (each_stmt-Set stmt_step clause_step v e) (passes_one (form.Set v e) (plain (form.Set v e) (λ l m. refl) (λ i l m. refl)));
  say = λ e. same_passes _ _ (each_stmt-Say stmt_step clause_step e) (passes_one (form.Say e) (plain (form.Say e) (λ l m. refl) (λ i l m. refl)));
  if_alone = λ e body b. same_passes _ _ (each_stmt-If stmt_step clause_step e body None)
      (passes_next (form.If e) _ (plain _ (λ l m. refl) (λ i l m. refl)) (passes_both (body_lines body) (form.End ∷ []) b (passes_one form.End (plain _ (λ l m. refl) (λ i l m. refl)))));
  if_else = λ e body other b c. same_passes _ _ (each_stmt-If stmt_step clause_step e body (Some other))
      (passes_next (form.If e) _ (plain _ (λ l m. refl) (λ i l m. refl)) (passes_both (body_lines body) (form.Else ∷ (body_lines other ++ form.End ∷ [])) b
      (passes_next form.Else _ (plain _ (λ l m. refl) (λ i l m. refl)) (passes_both (body_lines other) (form.End ∷ []) c (passes_one form.End (plain _ (λ l m. refl) (λ i l m. refl)))))));
  while = λ e body b. same_passes _ _ (each_stmt-While stmt_step clause_step e body)
      (passes_next (form.While e) _ (plain _ (λ l m. refl) (λ i l m. refl)) (passes_both (body_lines body) (form.End ∷ []) b (passes_one form.End (plain _ (λ l m. refl) (λ i l m. refl)))));
  try_catch = λ body clauses b c. same_passes _ _ (each_stmt-TryCatch stmt_step clause_step body clauses ∙ ap (λ l. form.Try ∷ l) (sym (append_assoc (body_lines body) (clauses_lines clauses) (form.Endtry ∷ []))))
      (passes_try (body_lines body ++ clauses_lines clauses) (inside_both (body_lines body) (clauses_lines clauses) (passes_inside (body_lines body) b) c));
  try_finally = λ body final b c. same_passes _ _ (each_stmt-TryFinally stmt_step clause_step body final ∙ ap (λ l. form.Try ∷ l) (sym (append_assoc (body_lines body) (form.Finally ∷ body_lines final) (form.Endtry ∷ []))))
      (passes_try (body_lines body ++ form.Finally ∷ body_lines final) (inside_both (body_lines body) (form.Finally ∷ body_lines final) (passes_inside (body_lines body) b)
      (inside_both (form.Finally ∷ []) (body_lines final) finally_inside (passes_inside (body_lines final) c))));
  raise = λ name. same_passes _ _ (each_stmt-Raise stmt_step clause_step name) (passes_one (form.Raise name) (plain (form.Raise name) (λ l m. refl) (λ i l m. refl)));
  reraise = same_passes _ _ (each_stmt-Reraise stmt_step clause_step) (passes_one (form.Reraise) (plain (form.Reraise) (λ l m. refl) (λ i l m. refl)));
  call = λ name e v. same_passes _ _ (each_stmt-Call stmt_step clause_step name e v) (passes_one (form.Call name e v) (plain (form.Call name e v) (λ l m. refl) (λ i l m. refl)));
  return = λ e. same_passes _ _ (each_stmt-Return stmt_step clause_step e) (passes_one (form.Return e) (plain (form.Return e) (λ l m. refl) (λ i l m. refl)));
  exit = λ e. same_passes _ _ (each_stmt-Exit stmt_step clause_step e) (passes_one (form.Exit e) (plain (form.Exit e) (λ l m. refl) (λ i l m. refl)));
  dce = λ call. same_passes _ _ (each_stmt-Dce stmt_step clause_step call) (passes_one (form.Dce call) (plain (form.Dce call) (λ l m. refl) (λ i l m. refl)));
  body_end = passes_none;
  body_more = λ s body a b. passes_both (stmt_lines s) (body_lines body) a b;
  clauses_end = passes_inside [] passes_none;
  clauses_more = λ c clauses b k. inside_both (clause_form c.names ∷ body_lines c.body) (clauses_lines clauses) (inside_both (clause_form c.names ∷ []) (body_lines c.body) (clause_inside c.names) (passes_inside (body_lines c.body) b)) k;
}

-- Reading the clauses of a try passes the bodies inside it.
pub body_passes : (body : List Stmt) → Passes (body_lines body)
body_passes = body_induction PassesStmt PassesBody PassesClauses cases

-- ---- the clauses of a try

abbrev clause_of : ℕ → Option NameId → laws.Clause
clause_of line (Some x) = laws.Catch line x
clause_of line None = laws.CatchAll line

-- The clauses that the handlers stand for.
abbrev clauses_of : List Handler → List laws.Clause
clauses_of [] = []
clauses_of (h ∷ handlers) = clause_of h.line h.names ∷ clauses_of handlers

clause_read : (names : Option NameId) (line : ℕ) (more : List Form) → clauses_below 0 line (clause_form names ∷ more) ≡ clause_of line names ∷ clauses_below 0 (line + 1) more
clause_read None line more = refl
clause_read (Some x) line more = refl

pub clauses_read : (clauses : List Clause) (line : ℕ) (more : List Form) → clauses_below 0 line (clauses_lines clauses ++ form.Endtry ∷ more) ≡ clauses_of (handlers_at line clauses)
unfolding body_size
clauses_read [] line more = refl
clauses_read (c ∷ clauses) line more =
    clause_read c.names line ((body_lines c.body ++ clauses_lines clauses) ++ form.Endtry ∷ more)
    ∙ ap (λ l. clause_of line c.names ∷ l)
    (ap (clauses_below 0 (line + 1)) (append_assoc (body_lines c.body) (clauses_lines clauses) (form.Endtry ∷ more)) ∙ body_passes c.body 0 (line + 1) (clauses_lines clauses ++ form.Endtry ∷ more)
    ∙ clauses_read clauses (line + 1 + length (body_lines c.body)) more)

-- ---- the lines below a try

drop_past : (above : List Form) (f : Form) (rest : List Form) → drop (length above + 1) (above ++ f ∷ rest) ≡ rest
drop_past [] f rest = ap (λ n. drop n (f ∷ rest)) one
  where
    one : 0 + 1 ≡ suc zero
    one = omega arith
drop_past (x ∷ above) f rest = ap (λ n. drop n (x ∷ (above ++ f ∷ rest))) (longer (length above)) ∙ drop_past above f rest
  where
    longer : (n : ℕ) → suc n + 1 ≡ suc (n + 1)
    longer n = omega arith

below_try : (s : Script) (line : ℕ) (xs : List Form) (h : StandAt (lines_of s) line (form.Try ∷ xs)) → drop line (lines_of s) ≡ xs ++ h.below
below_try s line xs h = ap (λ n. drop n (lines_of s)) h.place ∙ ap (drop (length h.above + 1)) h.parts ∙ drop_past h.above form.Try (xs ++ h.below)

-- ---- routes

module _ (s : Script) where
  first_or : (b : Bool) (scope line : ℕ) (names : Option NameId) (h : Handler) (f : Option laws.Clause) (g : Option Handler) (rest : List Carried) → at_clause scope (Some (clause_of h.line names)) rest ≡ at_handler scope (Some h) rest
      → at_clause scope f rest ≡ at_handler scope g rest → at_clause scope (if b then Some (clause_of h.line names) else f) rest ≡ at_handler scope (if b then Some h else g) rest
  first_or true scope line names h f g rest e k = e
  first_or false scope line names h f g rest e k = k

  one_handler : (scope line : ℕ) (names : Option NameId) (rest : List Carried) (h : Handler) → h.line ≡ line → at_clause scope (Some (clause_of line names)) rest ≡ at_handler scope (Some h) rest
  one_handler scope line None rest h e = ap (λ n. routes.Catches scope n ∷ []) (sym e)
  one_handler scope line (Some x) rest h e = ap (λ n. routes.Catches scope n ∷ []) (sym e)

  names_found : (names : Option NameId) (x : Exc) (scope : ℕ) (h : Handler) (f : Option laws.Clause) (g : Option Handler) (rest : List Carried) → at_clause scope f rest ≡ at_handler scope g rest
      → at_clause scope (if takes s (Raised x) (clause_of h.line names) then Some (clause_of h.line names) else f) rest ≡ at_handler scope (if catches s x names then Some h else g) rest
  names_found None x scope h f g rest k = first_or true scope h.line None h f g rest (one_handler scope h.line None rest h refl) k
  names_found (Some name) x scope h f g rest k = first_or (catches s x (Some name)) scope h.line (Some name) h f g rest (one_handler scope h.line (Some name) rest h refl) k

  found_raised : (x : Exc) (scope : ℕ) (handlers : List Handler) (rest : List Carried) → at_clause scope (find (takes s (Raised x)) (clauses_of handlers)) rest ≡ at_handler scope (first_catch s x handlers) rest
  found_raised x scope [] rest = refl
  found_raised x scope (h ∷ handlers) rest = names_found h.names x scope h (find (takes s (Raised x)) (clauses_of handlers)) (first_catch s x handlers) rest (found_raised x scope handlers rest)

  not_found : (v : ℤ) (names : Option NameId) (line : ℕ) (f : Option laws.Clause) → (if takes s (Exit v) (clause_of line names) then Some (clause_of line names) else f) ≡ f
  not_found v None line f = refl
  not_found v (Some x) line f = refl

  found_exit : (v : ℤ) (handlers : List Handler) → find (takes s (Exit v)) (clauses_of handlers) ≡ None
  found_exit v [] = refl
  found_exit v (h ∷ handlers) = not_found v h.names h.line (find (takes s (Exit v)) (clauses_of handlers)) ∙ found_exit v handlers

  found_by : (cause : Cause) (scope : ℕ) (handlers : List Handler) (rest : List Carried) → at_clause scope (find (takes s cause) (clauses_of handlers)) rest ≡ at_ways s scope (Catches handlers) cause rest
  found_by (Raised x) scope handlers rest = found_raised x scope handlers rest
  found_by (Exit v) scope handlers rest = ap (λ o. at_clause scope o rest) (found_exit v handlers)

  catch_ways : (line : ℕ) (handlers : List Handler) → clauses_at s line ≡ clauses_of handlers → HasClauses s line (Catches handlers)
  catch_ways line handlers e scope cause rest = ap (λ l. at_clause scope (find (takes s cause) l) rest) e ∙ found_by cause scope handlers rest

  finally_by : (cause : Cause) (more : List laws.Clause) → find (takes s cause) (laws.Finally ∷ more) ≡ Some laws.Finally
  finally_by (Raised x) more = refl
  finally_by (Exit v) more = refl

  finally_ways : (line : ℕ) (body : Left) (more : List laws.Clause) → clauses_at s line ≡ laws.Finally ∷ more → HasClauses s line (Finally body)
  finally_ways line body more e scope cause rest = ap (λ l. at_clause scope (find (takes s cause) l) rest) e ∙ ap (λ o. at_clause scope o rest) (finally_by cause more)

  abbrev Tells : Stmt → Type 0
  Tells stmt = (line : ℕ) (rest : Left) → StandAt (lines_of s) line (stmt_lines stmt) → TellsWays s line (act_of line stmt rest)

  plain_tells : (line : ℕ) (stmt : Stmt) (rest : Left) (a : Act) → act_of line stmt rest ≡ a → TellsWays s line a → TellsWays s line (act_of line stmt rest)
  plain_tells line stmt rest a e k = subst (TellsWays s line) (sym e) k

  try_catch_tells : (body : List Stmt) (clauses : List Clause) → Tells (TryCatch body clauses)
  unfolding body_size
  try_catch_tells body clauses line rest h =
      let inside : StandAt (lines_of s) line (form.Try ∷ (body_lines body ++ (clauses_lines clauses ++ form.Endtry ∷ []))) = subst (StandAt (lines_of s) line) (each_stmt-TryCatch stmt_step clause_step body clauses) h in
      let xs : List Form = body_lines body ++ (clauses_lines clauses ++ form.Endtry ∷ []) in
      subst (TellsWays s line) (sym (act_of-TryCatch line rest body clauses))
      (catch_ways line (handlers_at (line + 1 + length (body_lines body)) clauses)
      (ap (clauses_below 0 (line + 1)) (below_try s line xs inside ∙ append_assoc (body_lines body) (clauses_lines clauses ++ form.Endtry ∷ []) inside.below)
      ∙ body_passes body 0 (line + 1) ((clauses_lines clauses ++ form.Endtry ∷ []) ++ inside.below)
      ∙ ap (clauses_below 0 (line + 1 + length (body_lines body))) (append_assoc (clauses_lines clauses) (form.Endtry ∷ []) inside.below)
      ∙ clauses_read clauses (line + 1 + length (body_lines body)) inside.below))

  try_finally_tells : (body final : List Stmt) → Tells (TryFinally body final)
  try_finally_tells body final line rest h =
      let ys : List Form = form.Finally ∷ (body_lines final ++ form.Endtry ∷ []) in
      let inside : StandAt (lines_of s) line (form.Try ∷ (body_lines body ++ ys)) = subst (StandAt (lines_of s) line) (each_stmt-TryFinally stmt_step clause_step body final) h in
      subst (TellsWays s line) (sym (act_of-TryFinally line rest body final))
      (finally_ways line (body_at (line + 1 + body_size body + 1) final) (clauses_below 0 (line + 1 + length (body_lines body) + 1) ((body_lines final ++ form.Endtry ∷ []) ++ inside.below))
      (ap (clauses_below 0 (line + 1)) (below_try s line (body_lines body ++ ys) inside ∙ append_assoc (body_lines body) ys inside.below) ∙ body_passes body 0 (line + 1) (ys ++ inside.below)))

  tell_cases : StmtCases Tells (λ body. Unit {0}) (λ clauses. Unit {0})
  tell_cases = record {
    set = λ v e line rest h. plain_tells line (Set v e) rest _ (act_of-Set line rest v e) tt;
    say = λ e line rest h. plain_tells line (Say e) rest _ (act_of-Say line rest e) tt;
    if_alone = λ e body b line rest h. plain_tells line (If e body None) rest _ (act_of-If line rest e body None) tt;
    if_else = λ e body other b c line rest h. plain_tells line (If e body (Some other)) rest _ (act_of-If line rest e body (Some other)) tt;
    while = λ e body b line rest h. plain_tells line (While e body) rest _ (act_of-While line rest e body) tt;
    try_catch = λ body clauses b c. try_catch_tells body clauses;
    try_finally = λ body final b c. try_finally_tells body final;
    raise = λ name line rest h. plain_tells line (Raise name) rest _ (act_of-Raise line rest name) tt;
    reraise = λ line rest h. plain_tells line Reraise rest _ (act_of-Reraise line rest) tt;
    call = λ name e place line rest h. plain_tells line (Call name e place) rest _ (act_of-Call line rest name e place) tt;
    return = λ e line rest h. plain_tells line (Return e) rest _ (act_of-Return line rest e) tt;
    exit = λ e line rest h. plain_tells line (Exit e) rest _ (act_of-Exit line rest e) tt;
    dce = λ call line rest h. plain_tells line (Dce call) rest _ (act_of-Dce line rest call) tt;
    body_end = tt;
    body_more = λ s body a b. tt;
    clauses_end = tt;
    clauses_more = λ c clauses a b. tt;
  }

  pub tries_tell : (stmt : Stmt) (line : ℕ) (rest : Left) → StandAt (lines_of s) line (stmt_lines stmt) → TellsWays s line (act_of line stmt rest)
  tries_tell = stmt_induction Tells (λ body. Unit {0}) (λ clauses. Unit {0}) tell_cases
