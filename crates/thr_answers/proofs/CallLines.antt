-- The line of a call is one of its statement.
use Rattle.std.proofs.Common.{◌≡◌, ℕ, zero, suc, ◌+◌, ◌==◌, ℤ, Bool, true, false, List, [], ◌∷◌, ◌++◌, length, take, replicate, Some, None, Ok, Err, arith, refl, sym, ap, ◌∙◌}
use Rattle.std.proofs.lemmas.Bool.{eq-eqb}
use Rattle.std.specs.Prelude.{if◌then◌else◌, slice_get, nat_eq}
use Rattle.std.specs.Cmp.Lexicographic.{pointwise}
use Rattle.thr_values.specs.declared.call.Arg.{Arg}
use Rattle.thr_values.specs.declared.call.Arg.TheVariants as arg
use Rattle.thr_values.specs.declared.exception.Exc.{Exc}
use Rattle.thr_values.specs.declared.history.What.TheVariants as what
use Rattle.thr_values.specs.declared.reply.Reply.{Reply}
use Rattle.thr_values.specs.Words.{call_word}
use Rattle.thr_syntax.specs.declared.expr.Expr.{Expr}
use Rattle.thr_syntax.specs.declared.form.Form.{Form}
use Rattle.thr_syntax.specs.declared.form.Form.TheVariants as form
use Rattle.thr_syntax.specs.declared.dce.DceCall.{DceCall}
use Rattle.thr_syntax.specs.declared.dce.DceCall.TheVariants as dce
use Rattle.thr_syntax.specs.declared.tree.Script.{Script}
use Rattle.thr_syntax.specs.declared.tree.Stmt.{Stmt, Set, Say, If, While, TryCatch, TryFinally, Raise, Reraise, Call, Return, Exit}
use Rattle.thr_syntax.specs.Lines.{stmt_lines, stmt_step, clause_step, lines_of}
use Rattle.thr_syntax.proofs.FoldLaws.{each_stmt-Dce}
use Rattle.thr_syntax.proofs.TreeInduction.{StmtCases, stmt_induction}
use Rattle.thr_remainder.specs.Places.{Left}
use Rattle.thr_remainder.specs.Acts.{Act, Asks, act_of}
use Rattle.thr_remainder.specs.Remainders.{Setting, Remainder, has_room}
use Rattle.thr_remainder.specs.Expressions.{SharedValues, value_of}
use Rattle.thr_remainder.specs.Calls.{Part, Name, Word, shape_of, expressions_in, expressions_of, filled, arguments}
use Rattle.thr_remainder.specs.Calls as calls
use Rattle.thr_remainder.specs.Expressions as expressions
use Rattle.thr_remainder.specs.Replies.{Values, value_then, values_of, needs_two_frames, asked}
use Rattle.thr_remainder.specs.Standing.{StandAt}
use Rattle.thr_remainder.proofs.ActLaws.{act_of-Set, act_of-Say, act_of-If, act_of-While, act_of-TryCatch, act_of-TryFinally, act_of-Raise, act_of-Reraise, act_of-Call, act_of-Return, act_of-Exit, act_of-Dce}
use Rattle.thr_laws.specs.CallsOnce.{is_absent, are_arguments, is_same_word, is_of_shape, is_of_form, form_at, is_of_line}
use Rattle.thr_laws.proofs.ReadingLaws.{and_both}

-- ---- values of a call's expressions

-- There are as many values as expressions.
abbrev pub AreValues : DceCall → List ℤ → Type 0
AreValues call ns = length (expressions_of call) ≡ length ns

then_values : (v : expressions.Value) (vs : Values) (es : List Expr) (ns : List ℤ) → ((ms : List ℤ) → vs ≡ Ok ms → length es ≡ length ms) → value_then v vs ≡ Ok ns → suc (length es) ≡ length ns
then_values (Err x) vs es ns h e = absurd (cc)
then_values (Ok n) (Err x) es ns h e = absurd (cc)
then_values (Ok n) (Ok ms) es [] h e = absurd (cc)
then_values (Ok n) (Ok ms) es (k ∷ ks) h e = ap suc (h ms refl) ∙ sames (n ∷ ms) (k ∷ ks) e
  where
    length_of : Values → ℕ
    length_of (Ok xs) = length xs
    length_of (Err x) = 0

    sames : (xs ys : List ℤ) → (let a : Values = Ok xs in a ≡ Ok ys) → length xs ≡ length ys
    sames xs ys e = ap length_of e

all_values : (g : Setting) (shared : SharedValues) (r : Remainder) (es : List Expr) (ns : List ℤ) → values_of g shared r es ≡ Ok ns → length es ≡ length ns
all_values g shared r [] [] e = refl
all_values g shared r [] (n ∷ ns) e = absurd (cc)
all_values g shared r (x ∷ es) ns e = then_values (value_of g shared r x) (values_of g shared r es) es ns (all_values g shared r es) e

either_values : (a b : Bool) (vs : Values) (x : Exc) (ns : List ℤ) → (if a then (if b then vs else Err x) else vs) ≡ Ok ns → vs ≡ Ok ns
either_values true true vs x ns e = e
either_values true false vs x ns e = absurd (cc)
either_values false b vs x ns e = e

pub asked_values : (g : Setting) (shared : SharedValues) (call : DceCall) (r : Remainder) (ns : List ℤ) → asked g shared call r ≡ Ok ns → AreValues call ns
unfolding asked
asked_values g shared call r ns e = all_values g shared r (expressions_of call) ns (either_values (needs_two_frames call) (has_room g r 2) (values_of g shared r (expressions_of call)) _ ns e)

-- ---- arguments

abbrev AllAbsent : List Arg → Type 0
AllAbsent [] = Unit {0}
AllAbsent (a ∷ args) = (is_absent a ≡ true) × AllAbsent args

-- There are at most so many parts.
abbrev IsShort : ℕ → List Part → Type 0
IsShort n [] = Unit {0}
IsShort zero (p ∷ parts) = ⊥
IsShort (suc n) (p ∷ parts) = IsShort n parts

absent_fit : (n : ℕ) (rest : List Arg) → AllAbsent rest → are_arguments [] (take n rest) ≡ true
absent_fit zero rest h = refl
absent_fit (suc n) [] h = refl
absent_fit (suc n) (a ∷ rest) h = and_both (is_absent a) (are_arguments [] (take n rest)) h.0 (absent_fit n rest h.1)

same_number : (n : ℕ) → (n == n) ≡ true
same_number n = eq-eqb n n refl

one_less : (n : ℕ) (ns : List ℤ) (m : ℤ) → suc n ≡ length (m ∷ ns) → n ≡ length ns
one_less n ns m e = omega (arith, e)

arguments_fit : (n : ℕ) (parts : List Part) (ns : List ℤ) (rest : List Arg) → IsShort n parts → length (expressions_in parts) ≡ length ns → AllAbsent rest → are_arguments parts (take n (filled parts ns ++ rest)) ≡ true
arguments_fit n [] ns rest s e h = absent_fit n rest h
arguments_fit zero (p ∷ parts) ns rest s e h = absurd s
arguments_fit (suc n) (Name name ∷ parts) ns rest s e h = and_both (name.0 == name.0) (are_arguments parts (take n (filled parts ns ++ rest))) (same_number name.0) (arguments_fit n parts ns rest s e h)
arguments_fit (suc n) (Word place ∷ parts) ns rest s e h = and_both (place == place) (are_arguments parts (take n (filled parts ns ++ rest))) (same_number place) (arguments_fit n parts ns rest s e h)
arguments_fit (suc n) (calls.Value x ∷ parts) [] rest s e h = absurd (cc)
arguments_fit (suc n) (calls.Value x ∷ parts) (m ∷ ns) rest s e h = arguments_fit n parts ns rest s (one_less (length (expressions_in parts)) ns m e) h

short : (call : DceCall) → IsShort 4 (shape_of call).parts
unfolding shape_of
short (dce.AttrCreate n) = tt
short _ = tt

same_words : (xs : List ℕ) → pointwise nat_eq xs xs ≡ true
same_words [] = refl
same_words (x ∷ xs) = and_both (nat_eq x x) (pointwise nat_eq xs xs) (same_number x) (same_words xs)

pub call_of_shape : (call : DceCall) (ns : List ℤ) (y : Reply) → AreValues call ns → is_of_shape (shape_of call) (what.Call (shape_of call).word (arguments call ns) y) ≡ true
call_of_shape call ns y e =
    and_both (is_same_word (shape_of call).word (shape_of call).word) (are_arguments (shape_of call).parts (arguments call ns)) (same_words (call_word (shape_of call).word))
    (arguments_fit 4 (shape_of call).parts ns (replicate 4 arg.Nothing) (short call) e (refl, (refl, (refl, (refl, tt)))))

-- ---- the statement's line

-- The statement whose act is a call has the line of the call.
abbrev IsCallLine : Stmt → Type 0
IsCallLine x = (line : ℕ) (rest : Left) (call : DceCall) → act_of line x rest ≡ Asks call → stmt_lines x ≡ form.Dce call ∷ []

other : (x : Stmt) (line : ℕ) (rest : Left) (call : DceCall) (a : Act) → act_of line x rest ≡ a → act_of line x rest ≡ Asks call → (a ≡ Asks call → ⊥) → stmt_lines x ≡ form.Dce call ∷ []
other x line rest call a e f n = absurd (n (sym e ∙ f))

same_call : (a b : DceCall) → Asks a ≡ Asks b → a ≡ b
same_call a b e = cc

cases : StmtCases IsCallLine (λ body. Unit {0}) (λ clauses. Unit {0})
cases = record {
  set = λ v e line rest call f. other (Set v e) line rest call _ (act_of-Set line rest v e) f (λ i. absurd (cc));
  say = λ e line rest call f. other (Say e) line rest call _ (act_of-Say line rest e) f (λ i. absurd (cc));
  if_alone = λ e body b line rest call f. other (If e body None) line rest call _ (act_of-If line rest e body None) f (λ i. absurd (cc));
  if_else = λ e body more b c line rest call f. other (If e body (Some more)) line rest call _ (act_of-If line rest e body (Some more)) f (λ i. absurd (cc));
  while = λ e body b line rest call f. other (While e body) line rest call _ (act_of-While line rest e body) f (λ i. absurd (cc));
  try_catch = λ body clauses b c line rest call f. other (TryCatch body clauses) line rest call _ (act_of-TryCatch line rest body clauses) f (λ i. absurd (cc));
  try_finally = λ body final b c line rest call f. other (TryFinally body final) line rest call _ (act_of-TryFinally line rest body final) f (λ i. absurd (cc));
  raise = λ name line rest call f. other (Raise name) line rest call _ (act_of-Raise line rest name) f (λ i. absurd (cc));
  reraise = λ line rest call f. other Reraise line rest call _ (act_of-Reraise line rest) f (λ i. absurd (cc));
  call = λ name e place line rest call f. other (Call name e place) line rest call _ (act_of-Call line rest name e place) f (λ i. absurd (cc));
  return = λ e line rest call f. other (Return e) line rest call _ (act_of-Return line rest e) f (λ i. absurd (cc));
  exit = λ e line rest call f. other (Exit e) line rest call _ (act_of-Exit line rest e) f (λ i. absurd (cc));
  dce = λ made line rest call f. each_stmt-Dce stmt_step clause_step made ∙ ap (λ c. form.Dce c ∷ []) (same_call made call (sym (act_of-Dce line rest made) ∙ f));
  body_end = tt;
  body_more = λ s body a b. tt;
  clauses_end = tt;
  clauses_more = λ c clauses a b. tt;
}

call_line : (x : Stmt) → IsCallLine x
call_line = stmt_induction IsCallLine (λ body. Unit {0}) (λ clauses. Unit {0}) cases

get_within : (above : List Form) (x : Form) (below : List Form) → slice_get (above ++ x ∷ below) (length above) ≡ Some x
get_within [] x below = refl
get_within (a ∷ above) x below = get_within above x below

form_by : (s : Script) (line n : ℕ) → line ≡ suc n → form_at s line ≡ slice_get (lines_of s) n
form_by s line n e = ap (form_at s) e

next_number : (n : ℕ) → n + 1 ≡ suc n
next_number n = omega arith

-- The call that stands at a line is the form there.
pub stands_as : (s : Script) (line : ℕ) (x : Stmt) (rest : Left) (call : DceCall) → StandAt (lines_of s) line (stmt_lines x) → act_of line x rest ≡ Asks call → form_at s line ≡ Some (form.Dce call)
stands_as s line x rest call h e =
    form_by s line (length h.above) (h.place ∙ next_number (length h.above))
    ∙ ap (λ fs. slice_get fs (length h.above)) (h.parts ∙ ap (λ ls. h.above ++ (ls ++ h.below)) (call_line x line rest call e))
    ∙ get_within h.above (form.Dce call) h.below

-- So the call's line is one of that line of the script.
pub call_of_line : (s : Script) (line : ℕ) (x : Stmt) (rest : Left) (call : DceCall) (ns : List ℤ) (y : Reply) → StandAt (lines_of s) line (stmt_lines x) → act_of line x rest ≡ Asks call → AreValues call ns
    → is_of_line s line (what.Call (shape_of call).word (arguments call ns) y) ≡ true
call_of_line s line x rest call ns y h e v = ap (λ o. is_of_form o (what.Call (shape_of call).word (arguments call ns) y)) (stands_as s line x rest call h e) ∙ call_of_shape call ns y v
