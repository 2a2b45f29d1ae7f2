-- The numbers that are written in a script have 64 bits with a sign, wherever a statement or a declaration has them.
use Rattle.std.proofs.Common.{◌≡◌, ℕ, ◌+◌, ◌≤◌, ℤ, Bool, true, false, List, [], ◌∷◌, ◌++◌, map, length, length-append, Option, Some, None, sym, ap, subst, arith}
use Rattle.std.specs.Prelude.{if◌then◌else◌, nat_lt, unwrap_or}
use Rattle.std.specs.Option.{option_or}
use Rattle.thr_values.specs.declared.number.NameId.{NameId}
use Rattle.thr_values.specs.declared.exception.Exc.{Exc}
use Rattle.thr_values.specs.declared.exception.Exc.TheVariants.{Address, Status}
use Rattle.thr_syntax.specs.declared.form.Form.{Form}
use Rattle.thr_syntax.specs.declared.tree.Item.{Item}
use Rattle.thr_syntax.specs.declared.tree.Item.TheVariants as item
use Rattle.thr_syntax.specs.declared.tree.Script.{Script}
use Rattle.thr_syntax.specs.declared.tree.Stmt.{Stmt, Set, Say, If, While, TryCatch, TryFinally, Raise, Reraise, Call, Return, Exit, Dce}
use Rattle.thr_syntax.specs.Lines.{joined, item_lines, lines_of, stmt_lines, stmt_step, clause_step}
use Rattle.thr_syntax.proofs.FoldLaws.{each_stmt-Set, each_stmt-Say, each_stmt-If, each_stmt-While, each_stmt-TryCatch, each_stmt-TryFinally, each_stmt-Raise, each_stmt-Reraise, each_stmt-Call, each_stmt-Return, each_stmt-Exit, each_stmt-Dce}
use Rattle.thr_syntax.proofs.TreeInduction.{StmtCases, stmt_induction}
use Rattle.thr_text.specs.Numbers.{expr_numbers, call_numbers, AreSigned, HaveNumbers}
use Rattle.thr_text.specs.Reading.{Formed}
use Rattle.thr_remainder.specs.Places.{Left}
use Rattle.thr_remainder.specs.Acts.{Act, Sets, Says, Chooses, Repeats, Calls, Returns, Exits, Asks, act_of}
use Rattle.thr_remainder.specs.Declarations.{is_same_name, exception_here, exception_in, exception_of, exception_value}
use Rattle.thr_remainder.specs.Remainders.{Spot, act_at}
use Rattle.thr_remainder.specs.Standing.{StandAt}
use Rattle.thr_remainder.proofs.ActLaws.{act_of-Set, act_of-Say, act_of-If, act_of-While, act_of-TryCatch, act_of-TryFinally, act_of-Raise, act_of-Reraise, act_of-Call, act_of-Return, act_of-Exit, act_of-Dce}
use Rattle.thr_parts.proofs.EachLaws.{Each, IfThere, each_none, each_put}
use Rattle.thr_model.specs.States.{declared_values}
use Rattle.thr_answers.proofs.StepsStand.{IsSpot}
use Rattle.thr_sizes.proofs.Values.{Fits, ExcFits, signed_fits}

-- ---- lines

front_numbers : (fs gs : List Form) → HaveNumbers (fs ++ gs) → HaveNumbers fs
front_numbers [] gs h = tt
front_numbers (f ∷ fs) gs h = (h.0, front_numbers fs gs h.1)

behind_numbers : (fs gs : List Form) → HaveNumbers (fs ++ gs) → HaveNumbers gs
behind_numbers [] gs h = h
behind_numbers (f ∷ fs) gs h = behind_numbers fs gs h.1

standing_numbers : (text : List Form) (line : ℕ) (fs : List Form) → StandAt text line fs → HaveNumbers text → HaveNumbers fs
standing_numbers text line fs at h = front_numbers fs at.below (behind_numbers at.above (fs ++ at.below) (subst HaveNumbers at.parts h))

-- A line where something stands is one of the text's, or the one after them.
pub standing_low : (text : List Form) (line : ℕ) (fs : List Form) → StandAt text line fs → line ≤ length text + 1
standing_low text line fs at =
    let whole : length text ≡ length (at.above ++ (fs ++ at.below)) = ap length at.parts in
    let place = at.place in
    omega (arith, place, whole, length-append at.above (fs ++ at.below))

-- ---- statements

-- The numbers in the expressions of an act.
abbrev pub act_numbers : Act → List ℤ
act_numbers (Sets v e) = expr_numbers e
act_numbers (Says e) = expr_numbers e
act_numbers (Chooses e body other) = expr_numbers e
act_numbers (Repeats e again) = expr_numbers e
act_numbers (Calls routine e place) = expr_numbers e
act_numbers (Returns e) = expr_numbers e
act_numbers (Exits e) = expr_numbers e
act_numbers (Asks call) = call_numbers call
act_numbers _ = []

-- The numbers of what a statement does first stand in its lines.
abbrev Tells : Stmt → Type 0
Tells x = (line : ℕ) (rest : Left) → HaveNumbers (stmt_lines x) → AreSigned (act_numbers (act_of line x rest))

told : (x : Stmt) (line : ℕ) (rest : Left) (fs : List Form) (a : Act) → stmt_lines x ≡ fs → act_of line x rest ≡ a → (HaveNumbers fs → AreSigned (act_numbers a)) → HaveNumbers (stmt_lines x)
    → AreSigned (act_numbers (act_of line x rest))
told x line rest fs a e i tells h = subst (λ (b : Act). AreSigned (act_numbers b)) (sym i) (tells (subst HaveNumbers e h))

cases : StmtCases Tells (λ body. Unit {0}) (λ clauses. Unit {0})
cases = record {
  set = λ v e line rest. told (Set v e) line rest _ _ (each_stmt-Set stmt_step clause_step v e) (act_of-Set line rest v e) (λ k. k.0);
  say = λ e line rest. told (Say e) line rest _ _ (each_stmt-Say stmt_step clause_step e) (act_of-Say line rest e) (λ k. k.0);
  if_alone = λ e body b line rest. told (If e body None) line rest _ _ (each_stmt-If stmt_step clause_step e body None) (act_of-If line rest e body None) (λ k. k.0);
  if_else = λ e body more b c line rest.
      told (If e body (Some more)) line rest _ _ (each_stmt-If stmt_step clause_step e body (Some more)) (act_of-If line rest e body (Some more)) (λ k. k.0);
  while = λ e body b line rest. told (While e body) line rest _ _ (each_stmt-While stmt_step clause_step e body) (act_of-While line rest e body) (λ k. k.0);
  try_catch = λ body clauses b c line rest.
      told (TryCatch body clauses) line rest _ _ (each_stmt-TryCatch stmt_step clause_step body clauses) (act_of-TryCatch line rest body clauses) (λ k. tt);
  try_finally = λ body final b c line rest.
      told (TryFinally body final) line rest _ _ (each_stmt-TryFinally stmt_step clause_step body final) (act_of-TryFinally line rest body final) (λ k. tt);
  raise = λ name line rest. told (Raise name) line rest _ _ (each_stmt-Raise stmt_step clause_step name) (act_of-Raise line rest name) (λ k. tt);
  reraise = λ line rest. told Reraise line rest _ _ (each_stmt-Reraise stmt_step clause_step) (act_of-Reraise line rest) (λ k. tt);
  call = λ name e place line rest. told (Call name e place) line rest _ _ (each_stmt-Call stmt_step clause_step name e place) (act_of-Call line rest name e place) (λ k. k.0);
  return = λ e line rest. told (Return e) line rest _ _ (each_stmt-Return stmt_step clause_step e) (act_of-Return line rest e) (λ k. k.0);
  exit = λ e line rest. told (Exit e) line rest _ _ (each_stmt-Exit stmt_step clause_step e) (act_of-Exit line rest e) (λ k. k.0);
  dce = λ call line rest. told (Dce call) line rest _ _ (each_stmt-Dce stmt_step clause_step call) (act_of-Dce line rest call) (λ k. k.0);
  body_end = tt;
  body_more = λ s body a b. tt;
  clauses_end = tt;
  clauses_more = λ c clauses a b. tt;
}

tells : (x : Stmt) → Tells x
tells = stmt_induction Tells (λ body. Unit {0}) (λ clauses. Unit {0}) cases

-- The numbers of the statement that is next.
pub spot_numbers : (s : Script) → Formed s → (h : Spot) → IsSpot (lines_of s) h → AreSigned (act_numbers (act_at h))
spot_numbers s formed h stands = tells h.stmt h.line h.rest (standing_numbers (lines_of s) h.line (stmt_lines h.stmt) stands.here formed.numbers)

-- ---- declarations

either_there : (b : Bool) (x : Exc) → ExcFits x → IfThere ExcFits (if b then Some x else None)
either_there true x h = h
either_there false x h = tt

here_fits : (i : Item) (x : NameId) → HaveNumbers (item_lines i) → IfThere ExcFits (exception_here i x)
here_fits (item.Exception name) x h = either_there (is_same_name name x) (Address x) tt
here_fits (item.Status name n) x h = either_there (is_same_name name x) (Status n) (signed_fits n h.0.0)
here_fits _ x h = tt

or_there : (o p : Option Exc) → IfThere ExcFits o → IfThere ExcFits p → IfThere ExcFits (option_or o p)
or_there None p h k = k
or_there (Some x) p h k = h

among_fit : (items : List Item) (x : NameId) → HaveNumbers (joined (map item_lines items)) → IfThere ExcFits (exception_in items x)
among_fit [] x h = tt
among_fit (i ∷ items) x h =
    or_there (exception_here i x) (exception_in items x) (here_fits i x (front_numbers (item_lines i) (joined (map item_lines items)) h))
    (among_fit items x (behind_numbers (item_lines i) (joined (map item_lines items)) h))

found_fits : (b : Bool) (x : NameId) (o : Option Exc) → IfThere ExcFits o → ExcFits (unwrap_or (if b then Some (Address x) else o) (Address x))
found_fits true x o h = tt
found_fits false x None h = tt
found_fits false x (Some y) h = h

-- What a name stands for fits.
pub exceptions_fit : (s : Script) → Formed s → (x : NameId) → ExcFits (exception_value s x)
unfolding exception_of
exceptions_fit s formed x = found_fits (nat_lt x.0 10) x (exception_in s.items x) (among_fit s.items x formed.numbers.1)

one_shared : (i : Item) (items : List Item) → HaveNumbers (item_lines i) → Each Fits (declared_values items) → Each Fits (declared_values (i ∷ items))
unfolding declared_values
one_shared (item.Shared name n) items h more = each_put Fits (declared_values items) name.0 n (signed_fits n h.0.0) more
one_shared _ items h more = more

shared_fit : (items : List Item) → HaveNumbers (joined (map item_lines items)) → Each Fits (declared_values items)
unfolding declared_values
shared_fit [] h = each_none Fits
shared_fit (i ∷ items) h =
    one_shared i items (front_numbers (item_lines i) (joined (map item_lines items)) h) (shared_fit items (behind_numbers (item_lines i) (joined (map item_lines items)) h))

-- The values that shared variables are declared with fit.
pub declared_fit : (s : Script) → Formed s → Each Fits (declared_values s.items)
declared_fit s formed = shared_fit s.items formed.numbers.1
