-- Words after spaces, and the lines that they make.
use Rattle.std.proofs.Common.{◌≡◌, ℕ, ℤ, List, [], ◌∷◌, ◌++◌, refl, ap, sym, ◌∙◌, append_assoc, append-nil}
use Rattle.std.specs.Prelude.{codes}
use Rattle.std.specs.List.{join_with_byte}
use Rattle.std.specs.Fmt.{signed_decimal}
use Rattle.std.proofs.lemmas.Grind.{flat_map-append}
use Rattle.thr_syntax.specs.declared.expr.ExcRef.{ExcRef}
use Rattle.thr_syntax.specs.declared.expr.Op.{Op}
use Rattle.thr_syntax.specs.declared.expr.Var as variable
use Rattle.thr_syntax.specs.declared.expr.Expr.{Expr, Num, Var, Me, Err, Two, Not, GetStatus, Matches}
use Rattle.thr_syntax.specs.Spelling.{Scope, expr_step, expr_words, variable_of, exception_of, operator_word}
use Rattle.thr_syntax.specs.Canon.{line}
use Rattle.thr_syntax.proofs.FoldLaws.{each_expr-Num, each_expr-Var, each_expr-Me, each_expr-Err, each_expr-Two, each_expr-Not, each_expr-GetStatus, each_expr-Matches}
use Rattle.thr_grammar.specs.Printing.{spaced}

pub spaced-append : (a b : List (List ℕ)) → spaced (a ++ b) ≡ spaced a ++ spaced b
spaced-append a b = flat_map-append (λ (w : List ℕ). 32 ∷ w) a b

pub spaced-1 : (a : List ℕ) → spaced (a ∷ []) ≡ 32 ∷ a
spaced-1 a = ap (λ t. 32 ∷ t) (append-nil a)

-- ---- appending, step by step

pub then : (out m new a b : List ℕ) → m ≡ out ++ a → new ≡ m ++ b → new ≡ out ++ (a ++ b)
then out m new a b first second = second ∙ ap (λ t. t ++ b) first ∙ append_assoc out a b

pub then_words : (out m new : List ℕ) (a b : List (List ℕ)) → m ≡ out ++ spaced a → new ≡ m ++ spaced b → new ≡ out ++ spaced (a ++ b)
then_words out m new a b first second = then out m new (spaced a) (spaced b) first second ∙ ap (λ t. out ++ t) (sym (spaced-append a b))

-- ---- lines

join-spaced : (w : List ℕ) (ws : List (List ℕ)) → join_with_byte 32 (w ∷ ws) ≡ w ++ spaced ws
join-spaced w [] = sym (append-nil w)
join-spaced w (x ∷ ws) = ap (λ t. w ++ (32 ∷ t)) (join-spaced x ws)

pub line-spaced : (w : List ℕ) (ws : List (List ℕ)) → line (w ∷ ws) ≡ w ++ (spaced ws ++ 10 ∷ [])
line-spaced w ws = ap (λ t. t ++ 10 ∷ []) (join-spaced w ws) ∙ append_assoc w (spaced ws) (10 ∷ [])

-- A first word, the others and the end make the line.
pub whole_line : (out m0 m1 new w : List ℕ) (ws : List (List ℕ)) → m0 ≡ out ++ w → m1 ≡ m0 ++ spaced ws → new ≡ m1 ++ 10 ∷ [] → new ≡ out ++ line (w ∷ ws)
whole_line out m0 m1 new w ws first others end =
    then out m0 new w (spaced ws ++ 10 ∷ []) first (then m0 m1 new (spaced ws) (10 ∷ []) others end) ∙ ap (λ t. out ++ t) (sym (line-spaced w ws))

pub bare_line : (out m0 new w : List ℕ) → m0 ≡ out ++ w → new ≡ m0 ++ 10 ∷ [] → new ≡ out ++ line (w ∷ [])
bare_line out m0 new w first end = then out m0 new w (10 ∷ []) first end

-- ---- expressions

pub adds-Num : (scope : Scope) (out new : List ℕ) (e : Expr) (n : ℤ) → e ≡ Num n → new ≡ out ++ spaced (signed_decimal n ∷ []) → new ≡ out ++ spaced (expr_words scope e)
adds-Num scope out new e n is adds = adds ∙ ap (λ t. out ++ spaced t) (sym (ap (expr_words scope) is ∙ each_expr-Num (expr_step scope) n))

pub adds-Var : (scope : Scope) (out new : List ℕ) (e : Expr) (v : variable.Var) → e ≡ Var v → new ≡ out ++ spaced (variable_of scope v ∷ []) → new ≡ out ++ spaced (expr_words scope e)
adds-Var scope out new e v is adds = adds ∙ ap (λ t. out ++ spaced t) (sym (ap (expr_words scope) is ∙ each_expr-Var (expr_step scope) v))

pub adds-Me : (scope : Scope) (out new : List ℕ) (e : Expr) → e ≡ Me → new ≡ out ++ spaced (codes "self" ∷ []) → new ≡ out ++ spaced (expr_words scope e)
adds-Me scope out new e is adds = adds ∙ ap (λ t. out ++ spaced t) (sym (ap (expr_words scope) is ∙ each_expr-Me (expr_step scope)))

pub adds-Err : (scope : Scope) (out new : List ℕ) (e : Expr) → e ≡ Err → new ≡ out ++ spaced (codes "err" ∷ []) → new ≡ out ++ spaced (expr_words scope e)
adds-Err scope out new e is adds = adds ∙ ap (λ t. out ++ spaced t) (sym (ap (expr_words scope) is ∙ each_expr-Err (expr_step scope)))

pub adds-Two : (scope : Scope) (out m0 m1 new w : List ℕ) (e a b : Expr) (op : Op) → e ≡ Two op a b → w ≡ operator_word op → m0 ≡ out ++ spaced (w ∷ []) → m1 ≡ m0 ++ spaced (expr_words scope a) → new ≡ m1 ++ spaced (expr_words scope b) → new ≡ out ++ spaced (expr_words scope e)
adds-Two scope out m0 m1 new w e a b op is word first second third =
    then_words out m0 new (w ∷ []) (expr_words scope a ++ expr_words scope b) first (then_words m0 m1 new (expr_words scope a) (expr_words scope b) second third)
    ∙ ap (λ t. out ++ spaced (t ∷ (expr_words scope a ++ expr_words scope b))) word
    ∙ ap (λ t. out ++ spaced t) (sym (ap (expr_words scope) is ∙ each_expr-Two (expr_step scope) op a b))

pub adds-Not : (scope : Scope) (out m0 new : List ℕ) (e a : Expr) → e ≡ Not a → m0 ≡ out ++ spaced (codes "not" ∷ []) → new ≡ m0 ++ spaced (expr_words scope a) → new ≡ out ++ spaced (expr_words scope e)
adds-Not scope out m0 new e a is first second =
    then_words out m0 new (codes "not" ∷ []) (expr_words scope a) first second
    ∙ ap (λ t. out ++ spaced t) (sym (ap (expr_words scope) is ∙ each_expr-Not (expr_step scope) a))

pub adds-GetStatus : (scope : Scope) (out m0 new w : List ℕ) (e : Expr) (x : ExcRef) → e ≡ GetStatus x → w ≡ exception_of scope x → m0 ≡ out ++ spaced (codes "exc_get_status" ∷ []) → new ≡ m0 ++ spaced (w ∷ []) → new ≡ out ++ spaced (expr_words scope e)
adds-GetStatus scope out m0 new w e x is word first second =
    then_words out m0 new (codes "exc_get_status" ∷ []) (w ∷ []) first second
    ∙ ap (λ t. out ++ spaced (codes "exc_get_status" ∷ t ∷ [])) word
    ∙ ap (λ t. out ++ spaced t) (sym (ap (expr_words scope) is ∙ each_expr-GetStatus (expr_step scope) x))

pub adds-Matches : (scope : Scope) (out m0 m1 new v w : List ℕ) (e : Expr) (x y : ExcRef) → e ≡ Matches x y → v ≡ exception_of scope x → w ≡ exception_of scope y → m0 ≡ out ++ spaced (codes "exc_matches" ∷ []) → m1 ≡ m0 ++ spaced (v ∷ []) → new ≡ m1 ++ spaced (w ∷ []) → new ≡ out ++ spaced (expr_words scope e)
adds-Matches scope out m0 m1 new v w e x y is word other first second third =
    then_words out m0 new (codes "exc_matches" ∷ []) (v ∷ w ∷ []) first (then_words m0 m1 new (v ∷ []) (w ∷ []) second third)
    ∙ (λ i. out ++ spaced (codes "exc_matches" ∷ word i ∷ other i ∷ []))
    ∙ ap (λ t. out ++ spaced t) (sym (ap (expr_words scope) is ∙ each_expr-Matches (expr_step scope) x y))

pub ruleset line_laws = (line-spaced, spaced-append, append_assoc)
