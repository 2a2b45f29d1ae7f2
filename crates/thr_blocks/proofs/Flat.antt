-- What a half-built script stands for: the lines that it was built from, and the blocks that are open.
use Rattle.std.proofs.Common.{◌≡◌, List, [], ◌∷◌, ◌++◌, map, Option, Some, None, refl, sym, ap, ◌∙◌, append_assoc}
use Rattle.std.proofs.lemmas.List.{append-nil}
use Rattle.thr_values.specs.declared.number.NameId.{NameId}
use Rattle.thr_syntax.specs.declared.form.Form.{Form}
use Rattle.thr_syntax.specs.declared.form.Form.TheVariants as form
use Rattle.thr_syntax.specs.declared.tree.Clause.{Clause}
use Rattle.thr_syntax.specs.declared.tree.Stmt.{Stmt}
use Rattle.thr_syntax.specs.declared.tree.Item.{Item}
use Rattle.thr_syntax.specs.Lines.{joined, stmt_step, clause_form, clause_step, stmt_lines, body_lines, head_lines, item_lines}
use Rattle.thr_syntax.proofs.FoldLaws.{each_clause, each_stmt-If, each_stmt-While, each_stmt-TryCatch, each_stmt-TryFinally}
use Rattle.thr_text.specs.declared.block.Block.{Block}
use Rattle.thr_text.specs.declared.block.Block.TheVariants.{Locals, Statements, Then, Otherwise, Loop, TryBody, CatchBody, CatchAllBody, FinallyBody}
use Rattle.thr_blocks.specs.declared.frame.Opener.{Opener}
use Rattle.thr_blocks.specs.declared.frame.Opener.TheVariants as opener
use Rattle.thr_blocks.specs.declared.frame.Frame.{Frame}
use Rattle.thr_blocks.specs.declared.frame.OpenRoutine.{OpenRoutine}
use Rattle.thr_blocks.specs.Build.{Building, clause, closed, HasParameter}

-- ---- lines

abbrev pub clause_lines : Clause → List Form
clause_lines c = each_clause stmt_step clause_step c

abbrev pub clauses_lines : List Clause → List Form
clauses_lines clauses = joined (map clause_lines clauses)

abbrev pub items_lines : List Item → List Form
items_lines all = joined (map item_lines all)

-- The lines of an open block before those of its last part.
abbrev pub opener_lines : Opener → List Form
opener_lines (opener.If e) = form.If e ∷ []
opener_lines (opener.Else e first) = form.If e ∷ (body_lines first ++ form.Else ∷ [])
opener_lines (opener.While e) = form.While e ∷ []
opener_lines opener.Try = form.Try ∷ []
opener_lines (opener.Catch first clauses names) = form.Try ∷ (body_lines first ++ (clauses_lines clauses ++ clause_form names ∷ []))
opener_lines (opener.Finally first) = form.Try ∷ (body_lines first ++ form.Finally ∷ [])

abbrev pub closer : Opener → Form
closer (opener.If e) = form.End
closer (opener.Else e first) = form.End
closer (opener.While e) = form.End
closer opener.Try = form.Endtry
closer (opener.Catch first clauses names) = form.Endtry
closer (opener.Finally first) = form.Endtry

-- The lines of the blocks around, and then these.
abbrev pub frames_lines : List Frame → List Form → List Form
frames_lines [] inner = inner
frames_lines (f ∷ fs) inner = frames_lines fs (body_lines f.outer ++ (opener_lines f.opener ++ inner))

abbrev pub routine_with : OpenRoutine → List Frame → List Form → List Form
routine_with r fs inner = head_lines r.name r.locals ++ frames_lines fs inner

abbrev pub open_lines : Option OpenRoutine → List Form
open_lines None = []
open_lines (Some r) = routine_with r r.frames (body_lines r.body)

abbrev pub half_lines : Building → List Form
half_lines h = items_lines h.0 ++ open_lines h.1

-- ---- blocks

abbrev pub catching : Option NameId → Block
catching None = CatchAllBody
catching (Some x) = CatchBody

abbrev pub block_of : Opener → Block
block_of (opener.If e) = Then
block_of (opener.Else e first) = Otherwise
block_of (opener.While e) = Loop
block_of opener.Try = TryBody
block_of (opener.Catch first clauses names) = catching names
block_of (opener.Finally first) = FinallyBody

-- The blocks around, in each of which a statement has begun.
abbrev pub outer_blocks : List Frame → List Block
outer_blocks [] = Statements ∷ []
outer_blocks (f ∷ fs) = block_of f.opener ∷ outer_blocks fs

abbrev pub routine_block : List Stmt → Block
routine_block [] = Locals
routine_block (s ∷ body) = Statements

abbrev pub open_blocks : List Stmt → List Frame → List Block
open_blocks body [] = routine_block body ∷ []
open_blocks body (f ∷ fs) = outer_blocks (f ∷ fs)

abbrev pub blocks_of : Option OpenRoutine → List Block
blocks_of None = []
blocks_of (Some r) = open_blocks r.body r.frames

-- ---- an open routine has its parameter

abbrev pub IsNamed : Option OpenRoutine → Type 0
IsNamed None = Unit {0}
IsNamed (Some r) = HasParameter r.locals

-- ---- lines that are put behind others

pub joined_push : {X : Type 0} (f : X → List Form) (xs : List X) (x : X) → joined (map f (xs ++ x ∷ [])) ≡ joined (map f xs) ++ f x
joined_push f [] x = append-nil (f x)
joined_push f (y ∷ xs) x = ap (λ (zs : List Form). f y ++ zs) (joined_push f xs x) ∙ sym (append_assoc (f y) (joined (map f xs)) (f x))

pub frames_push : (fs : List Frame) (xs ys : List Form) → frames_lines fs (xs ++ ys) ≡ frames_lines fs xs ++ ys
frames_push [] xs ys = refl
frames_push (f ∷ fs) xs ys =
    ap (λ (zs : List Form). frames_lines fs (body_lines f.outer ++ zs)) (sym (append_assoc (opener_lines f.opener) xs ys))
    ∙ ap (frames_lines fs) (sym (append_assoc (body_lines f.outer) (opener_lines f.opener ++ xs) ys))
    ∙ frames_push fs (body_lines f.outer ++ (opener_lines f.opener ++ xs)) ys

abbrev pub half_with : List Item → OpenRoutine → List Frame → List Form → List Form
half_with done r fs inner = items_lines done ++ routine_with r fs inner

pub half_push : (done : List Item) (r : OpenRoutine) (fs : List Frame) (xs ys : List Form) → half_with done r fs (xs ++ ys) ≡ half_with done r fs xs ++ ys
half_push done r fs xs ys =
    ap (λ (zs : List Form). items_lines done ++ (head_lines r.name r.locals ++ zs)) (frames_push fs xs ys)
    ∙ ap (λ (zs : List Form). items_lines done ++ zs) (sym (append_assoc (head_lines r.name r.locals) (frames_lines fs xs) ys))
    ∙ sym (append_assoc (items_lines done) (routine_with r fs xs) ys)

-- ---- a block that is closed, and one whose next clause begins

two_parts : (a b : List Form) (x : Form) (c : List Form) → a ++ x ∷ (b ++ c) ≡ (a ++ x ∷ []) ++ (b ++ c)
two_parts a b x c = sym (append_assoc a (x ∷ []) (b ++ c))

last_clause : (a b c d : List Form) (x : Form) → a ++ ((b ++ x ∷ c) ++ d) ≡ (a ++ (b ++ x ∷ [])) ++ (c ++ d)
last_clause a b c d x =
    ap (λ (zs : List Form). a ++ zs) (append_assoc b (x ∷ c) d ∙ sym (append_assoc b (x ∷ []) (c ++ d)))
    ∙ sym (append_assoc a (b ++ x ∷ []) (c ++ d))

pub closed_lines : (o : Opener) (body : List Stmt) → stmt_lines (closed o body) ≡ opener_lines o ++ (body_lines body ++ closer o ∷ [])
closed_lines (opener.If e) body = each_stmt-If stmt_step clause_step e body None
closed_lines (opener.Else e first) body =
    each_stmt-If stmt_step clause_step e first (Some body) ∙ ap (λ (zs : List Form). form.If e ∷ zs) (two_parts (body_lines first) (body_lines body) form.Else (form.End ∷ []))
closed_lines (opener.While e) body = each_stmt-While stmt_step clause_step e body
closed_lines opener.Try body = each_stmt-TryCatch stmt_step clause_step body []
closed_lines (opener.Catch first clauses names) body =
    each_stmt-TryCatch stmt_step clause_step first (clauses ++ clause names body ∷ [])
    ∙ ap (λ (zs : List Form). form.Try ∷ (body_lines first ++ (zs ++ form.Endtry ∷ []))) (joined_push clause_lines clauses (clause names body))
    ∙ ap (λ (zs : List Form). form.Try ∷ zs) (last_clause (body_lines first) (clauses_lines clauses) (body_lines body) (form.Endtry ∷ []) (clause_form names))
closed_lines (opener.Finally first) body =
    each_stmt-TryFinally stmt_step clause_step first body ∙ ap (λ (zs : List Form). form.Try ∷ zs) (two_parts (body_lines first) (body_lines body) form.Finally (form.Endtry ∷ []))

pub clause_after : (first : List Stmt) (clauses : List Clause) (before names : Option NameId) (body : List Stmt)
    → opener_lines (opener.Catch first (clauses ++ clause before body ∷ []) names) ≡ (opener_lines (opener.Catch first clauses before) ++ body_lines body) ++ clause_form names ∷ []
clause_after first clauses before names body =
    ap (λ (zs : List Form). form.Try ∷ (body_lines first ++ (zs ++ clause_form names ∷ []))) (joined_push clause_lines clauses (clause before body))
    ∙ ap (λ (zs : List Form). form.Try ∷ zs) (last_clause (body_lines first) (clauses_lines clauses) (body_lines body) (clause_form names ∷ []) (clause_form before))
    ∙ ap (λ (zs : List Form). form.Try ∷ zs) (sym (append_assoc (body_lines first ++ (clauses_lines clauses ++ clause_form before ∷ [])) (body_lines body) (clause_form names ∷ [])))
