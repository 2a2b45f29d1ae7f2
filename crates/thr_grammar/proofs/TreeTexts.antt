-- The text of lines, statement by statement.
use Rattle.std.proofs.Common.{◌≡◌, ℕ, List, [], ◌∷◌, ◌++◌, map, Some, None, refl, ap, sym, ◌∙◌, append_assoc, append-nil, take, length, get_or, drop, arith, length-drop, drop-cons, ◌<◌, ◌≤◌, ◌+◌, ◌-◌}
use Rattle.std.specs.Prelude.{codes}
use Rattle.thr_values.specs.declared.number.NameId.{NameId}
use Rattle.std.proofs.lemmas.List.{map-append, take_more, take_all}
use Rattle.thr_syntax.specs.declared.expr.Expr.{Expr}
use Rattle.thr_syntax.specs.declared.form.Form.{Form}
use Rattle.thr_syntax.specs.declared.form.Form.TheVariants as form
use Rattle.thr_syntax.specs.declared.tree.Clause.{Clause}
use Rattle.thr_syntax.specs.declared.tree.Stmt.{Stmt, If, While, TryCatch, TryFinally}
use Rattle.thr_syntax.specs.declared.tree.Item.{Item}
use Rattle.thr_syntax.specs.declared.tree.Routine.{Routine}
use Rattle.thr_syntax.specs.declared.tree.Script.{Script}
use Rattle.thr_syntax.specs.Lines.{head_lines, routine_lines, item_lines, joined, clause_form, stmt_step, clause_step, stmt_lines, body_lines}
use Rattle.thr_syntax.specs.Spelling.{Scope, form_words}
use Rattle.thr_syntax.specs.Canon.{line, canon, scope_in, item_words}
use Rattle.thr_syntax.proofs.FoldLaws.{each_stmt-If, each_stmt-While, each_stmt-TryCatch, each_stmt-TryFinally}
use Rattle.thr_grammar.specs.Printing.{lines_text, clauses_lines, locals_text, items_text}
use Rattle.thr_grammar.proofs.SpacedLaws.{then}

pub joined-append : {A : Type 0} (xs ys : List (List A)) → joined (xs ++ ys) ≡ joined xs ++ joined ys
joined-append [] ys = refl
joined-append (x ∷ xs) ys = ap (λ t. x ++ t) (joined-append xs ys) ∙ sym (append_assoc x (joined xs) (joined ys))

pub text-append : (scope : Scope) (a b : List Form) → lines_text scope (a ++ b) ≡ lines_text scope a ++ lines_text scope b
text-append scope a b = ap joined (map-append (λ (f : Form). line (form_words scope f)) a b) ∙ joined-append (map (λ (f : Form). line (form_words scope f)) a) (map (λ (f : Form). line (form_words scope f)) b)

pub text-one : (scope : Scope) (f : Form) → lines_text scope (f ∷ []) ≡ line (form_words scope f)
text-one scope f = append-nil (line (form_words scope f))

-- ---- appending, step by step

pub then_lines : (scope : Scope) (out m new : List ℕ) (a b : List Form) → m ≡ out ++ lines_text scope a → new ≡ m ++ lines_text scope b → new ≡ out ++ lines_text scope (a ++ b)
then_lines scope out m new a b first second = then out m new (lines_text scope a) (lines_text scope b) first second ∙ ap (λ t. out ++ t) (sym (text-append scope a b))

pub one_line : (scope : Scope) (out new : List ℕ) (f : Form) → new ≡ out ++ line (form_words scope f) → new ≡ out ++ lines_text scope (f ∷ [])
one_line scope out new f adds = adds ∙ ap (λ t. out ++ t) (sym (text-one scope f))

pub then_line : (scope : Scope) (out m new : List ℕ) (a : List Form) (f : Form) → m ≡ out ++ lines_text scope a → new ≡ m ++ line (form_words scope f) → new ≡ out ++ lines_text scope (a ++ f ∷ [])
then_line scope out m new a f first second = then_lines scope out m new a (f ∷ []) first (one_line scope m new f second)

pub line_then : (scope : Scope) (out m new : List ℕ) (f : Form) (a : List Form) → m ≡ out ++ line (form_words scope f) → new ≡ m ++ lines_text scope a → new ≡ out ++ lines_text scope (f ∷ a)
line_then scope out m new f a first second = then_lines scope out m new (f ∷ []) a (one_line scope out m f first) second

-- ---- statements

-- A statement of one line.
pub adds-one : (scope : Scope) (out new : List ℕ) (s : Stmt) (f : Form) → stmt_lines s ≡ f ∷ [] → new ≡ out ++ line (form_words scope f) → new ≡ out ++ lines_text scope (stmt_lines s)
adds-one scope out new s f is adds = one_line scope out new f adds ∙ ap (λ t. out ++ lines_text scope t) (sym is)

pub adds-If : (scope : Scope) (out m0 m1 new : List ℕ) (s : Stmt) (e : Expr) (body : List Stmt) → s ≡ If e body None
    → m0 ≡ out ++ line (form_words scope (form.If e)) → m1 ≡ m0 ++ lines_text scope (body_lines body) → new ≡ m1 ++ line (form_words scope form.End)
    → new ≡ out ++ lines_text scope (stmt_lines s)
adds-If scope out m0 m1 new s e body is first second third =
    line_then scope out m0 new (form.If e) (body_lines body ++ form.End ∷ []) first (then_line scope m0 m1 new (body_lines body) form.End second third)
    ∙ ap (λ t. out ++ lines_text scope t) (sym (ap stmt_lines is ∙ each_stmt-If stmt_step clause_step e body None))

pub adds-If-else : (scope : Scope) (out m0 m1 m2 m3 new : List ℕ) (s : Stmt) (e : Expr) (body other : List Stmt) → s ≡ If e body (Some other)
    → m0 ≡ out ++ line (form_words scope (form.If e)) → m1 ≡ m0 ++ lines_text scope (body_lines body) → m2 ≡ m1 ++ line (form_words scope form.Else)
    → m3 ≡ m2 ++ lines_text scope (body_lines other) → new ≡ m3 ++ line (form_words scope form.End)
    → new ≡ out ++ lines_text scope (stmt_lines s)
adds-If-else scope out m0 m1 m2 m3 new s e body other is first second third fourth fifth =
    line_then scope out m0 new (form.If e) (body_lines body ++ (form.Else ∷ (body_lines other ++ form.End ∷ []))) first
    (then_lines scope m0 m1 new (body_lines body) (form.Else ∷ (body_lines other ++ form.End ∷ [])) second
    (line_then scope m1 m2 new form.Else (body_lines other ++ form.End ∷ []) third
    (then_line scope m2 m3 new (body_lines other) form.End fourth fifth)))
    ∙ ap (λ t. out ++ lines_text scope t) (sym (ap stmt_lines is ∙ each_stmt-If stmt_step clause_step e body (Some other)))

pub adds-While : (scope : Scope) (out m0 m1 new : List ℕ) (s : Stmt) (e : Expr) (body : List Stmt) → s ≡ While e body
    → m0 ≡ out ++ line (form_words scope (form.While e)) → m1 ≡ m0 ++ lines_text scope (body_lines body) → new ≡ m1 ++ line (form_words scope form.End)
    → new ≡ out ++ lines_text scope (stmt_lines s)
adds-While scope out m0 m1 new s e body is first second third =
    line_then scope out m0 new (form.While e) (body_lines body ++ form.End ∷ []) first (then_line scope m0 m1 new (body_lines body) form.End second third)
    ∙ ap (λ t. out ++ lines_text scope t) (sym (ap stmt_lines is ∙ each_stmt-While stmt_step clause_step e body))

pub adds-TryCatch : (scope : Scope) (out m0 m1 m2 new : List ℕ) (s : Stmt) (body : List Stmt) (clauses : List Clause) → s ≡ TryCatch body clauses
    → m0 ≡ out ++ line (form_words scope form.Try) → m1 ≡ m0 ++ lines_text scope (body_lines body) → m2 ≡ m1 ++ lines_text scope (clauses_lines clauses)
    → new ≡ m2 ++ line (form_words scope form.Endtry)
    → new ≡ out ++ lines_text scope (stmt_lines s)
adds-TryCatch scope out m0 m1 m2 new s body clauses is first second third fourth =
    line_then scope out m0 new form.Try (body_lines body ++ (clauses_lines clauses ++ form.Endtry ∷ [])) first
    (then_lines scope m0 m1 new (body_lines body) (clauses_lines clauses ++ form.Endtry ∷ []) second
    (then_line scope m1 m2 new (clauses_lines clauses) form.Endtry third fourth))
    ∙ ap (λ t. out ++ lines_text scope t) (sym (ap stmt_lines is ∙ each_stmt-TryCatch stmt_step clause_step body clauses))

pub adds-TryFinally : (scope : Scope) (out m0 m1 m2 m3 new : List ℕ) (s : Stmt) (body final : List Stmt) → s ≡ TryFinally body final
    → m0 ≡ out ++ line (form_words scope form.Try) → m1 ≡ m0 ++ lines_text scope (body_lines body) → m2 ≡ m1 ++ line (form_words scope form.Finally)
    → m3 ≡ m2 ++ lines_text scope (body_lines final) → new ≡ m3 ++ line (form_words scope form.Endtry)
    → new ≡ out ++ lines_text scope (stmt_lines s)
adds-TryFinally scope out m0 m1 m2 m3 new s body final is first second third fourth fifth =
    line_then scope out m0 new form.Try (body_lines body ++ (form.Finally ∷ (body_lines final ++ form.Endtry ∷ []))) first
    (then_lines scope m0 m1 new (body_lines body) (form.Finally ∷ (body_lines final ++ form.Endtry ∷ [])) second
    (line_then scope m1 m2 new form.Finally (body_lines final ++ form.Endtry ∷ []) third
    (then_line scope m2 m3 new (body_lines final) form.Endtry fourth fifth)))
    ∙ ap (λ t. out ++ lines_text scope t) (sym (ap stmt_lines is ∙ each_stmt-TryFinally stmt_step clause_step body final))

-- The lines of a body that is the same.
pub of_body : (scope : Scope) (m new : List ℕ) (b body : List Stmt) → new ≡ m ++ lines_text scope (body_lines b) → b ≡ body → new ≡ m ++ lines_text scope (body_lines body)
of_body scope m new b body adds is = adds ∙ ap (λ t. m ++ lines_text scope (body_lines t)) is

pub of_clauses : (scope : Scope) (m new : List ℕ) (b clauses : List Clause) → new ≡ m ++ lines_text scope (clauses_lines b) → b ≡ clauses → new ≡ m ++ lines_text scope (clauses_lines clauses)
of_clauses scope m new b clauses adds is = adds ∙ ap (λ t. m ++ lines_text scope (clauses_lines t)) is

-- ---- lists of statements and of clauses

pub joined-map-more : {X A : Type 0} (f : X → List A) (xs : List X) (x : X) → joined (map f (xs ++ x ∷ [])) ≡ joined (map f xs) ++ f x
joined-map-more f xs x = ap joined (map-append f xs (x ∷ [])) ∙ joined-append (map f xs) (map f (x ∷ [])) ∙ ap (λ t. joined (map f xs) ++ t) (append-nil (f x))

more_lines : {X : Type 0} (scope : Scope) (f : X → List Form) (out m new : List ℕ) (xs : List X) (i : ℕ) (x : X) → i < length xs → x ≡ get_or xs i x
    → m ≡ out ++ lines_text scope (joined (map f (take i xs))) → new ≡ m ++ lines_text scope (f x) → new ≡ out ++ lines_text scope (joined (map f (take (i + 1) xs)))
more_lines scope f out m new xs i x small is before adds =
    then_lines scope out m new (joined (map f (take i xs))) (f x) before adds
    ∙ ap (λ t. out ++ lines_text scope t) (sym (ap (λ ys. joined (map f ys)) (take_more xs i x small ∙ ap (λ y. take i xs ++ y ∷ []) (sym is)) ∙ joined-map-more f (take i xs) x))

pub more_body : (scope : Scope) (out m new : List ℕ) (body : List Stmt) (i : ℕ) (s : Stmt) → i < length body → s ≡ get_or body i s
    → m ≡ out ++ lines_text scope (body_lines (take i body)) → new ≡ m ++ lines_text scope (stmt_lines s) → new ≡ out ++ lines_text scope (body_lines (take (i + 1) body))
more_body scope out m new body i s small is before adds = more_lines scope stmt_lines out m new body i s small is before adds

pub more_clauses : (scope : Scope) (out m m0 new : List ℕ) (clauses : List Clause) (i : ℕ) (c : Clause) → i < length clauses → c ≡ get_or clauses i c
    → m ≡ out ++ lines_text scope (clauses_lines (take i clauses)) → m0 ≡ m ++ line (form_words scope (clause_form c.names)) → new ≡ m0 ++ lines_text scope (body_lines c.body)
    → new ≡ out ++ lines_text scope (clauses_lines (take (i + 1) clauses))
more_clauses scope out m m0 new clauses i c small is before first second =
    more_lines scope (λ (d : Clause). clause_form d.names ∷ body_lines d.body) out m new clauses i c small is before (line_then scope m m0 new (clause_form c.names) (body_lines c.body) first second)

pub ruleset text_laws = (text-one)

-- ---- declarations

pub locals-text : (scope : Scope) (locals : List (List ℕ)) → lines_text scope (map (λ (n : List ℕ). form.Local n) locals) ≡ locals_text locals
locals-text scope [] = refl
locals-text scope (n ∷ locals) = ap (λ t. line (codes "local" ∷ n ∷ []) ++ t) (locals-text scope locals)

-- Lines that are added one element at a time.
pub more_text : {X : Type 0} (f : X → List ℕ) (out m new : List ℕ) (xs : List X) (i : ℕ) (x : X) → i < length xs → x ≡ get_or xs i x
    → m ≡ out ++ joined (map f (take i xs)) → new ≡ m ++ f x → new ≡ out ++ joined (map f (take (i + 1) xs))
more_text f out m new xs i x small is before adds =
    then out m new (joined (map f (take i xs))) (f x) before adds
    ∙ ap (λ t. out ++ t) (sym (ap (λ ys. joined (map f ys)) (take_more xs i x small ∙ ap (λ y. take i xs ++ y ∷ []) (sym is)) ∙ joined-map-more f (take i xs) x))

-- A list that isn't empty, by its first element and a slice of the others.
pub first_and_others : (all : List (List ℕ)) (p : List ℕ) → 1 ≤ length all → p ≡ get_or all 0 p → all ≡ p ∷ take (length all - 1) (drop 1 all)
first_and_others all p some is =
    let others : take (length all - 1) (drop 1 all) ≡ drop 1 all = take_all (length all - 1) (drop 1 all) (omega (arith, length-drop 1 all)) in
    drop-cons all 0 p (omega (arith, some)) ∙ sym (λ i. is i ∷ others i)

pub adds-head : (scope : Scope) (out m new : List ℕ) (name : NameId) (all locals : List (List ℕ)) (parameter : List ℕ) → all ≡ parameter ∷ locals
    → m ≡ out ++ line (form_words scope (form.Routine name parameter)) → new ≡ m ++ locals_text locals → new ≡ out ++ lines_text scope (head_lines name all)
adds-head scope out m new name all locals parameter is first second =
    line_then scope out m new (form.Routine name parameter) (map (λ (n : List ℕ). form.Local n) locals) first (second ∙ ap (λ t. m ++ t) (sym (locals-text scope locals)))
    ∙ ap (λ t. out ++ lines_text scope (head_lines name t)) (sym is)

pub adds-routine : (scope : Scope) (out m0 m1 new : List ℕ) (r : Routine) → m0 ≡ out ++ lines_text scope (head_lines r.name r.locals) → m1 ≡ m0 ++ lines_text scope (body_lines r.body)
    → new ≡ m1 ++ line (form_words scope form.End) → new ≡ out ++ lines_text scope (routine_lines r)
adds-routine scope out m0 m1 new r first second third =
    then_lines scope out m0 new (head_lines r.name r.locals) (body_lines r.body ++ form.End ∷ []) first (then_line scope m0 m1 new (body_lines r.body) form.End second third)

-- ---- the whole

words-text : (scope : Scope) (fs : List Form) → joined (map line (map (form_words scope) fs)) ≡ lines_text scope fs
words-text scope [] = refl
words-text scope (f ∷ fs) = ap (λ t. line (form_words scope f) ++ t) (words-text scope fs)

items-words : (names : List (List ℕ)) (items : List Item) → joined (map line (joined (map (item_words names) items))) ≡ items_text names items
items-words names [] = refl
items-words names (i ∷ items) =
    ap joined (map-append line (item_words names i) (joined (map (item_words names) items)))
    ∙ joined-append (map line (item_words names i)) (map line (joined (map (item_words names) items)))
    ∙ (λ k. words-text (scope_in names i) (item_lines i) k ++ items-words names items k)

pub canon-text : (s : Script) (empty m new : List ℕ) → empty ≡ [] → m ≡ empty ++ codes "dcethr 1\n" → new ≡ m ++ items_text s.names s.items → new ≡ canon s
canon-text s empty m new none first second =
    second ∙ ap (λ t. t ++ items_text s.names s.items) (first ∙ ap (λ t. t ++ codes "dcethr 1\n") none) ∙ ap (λ t. codes "dcethr 1\n" ++ t) (sym (items-words s.names s.items))
