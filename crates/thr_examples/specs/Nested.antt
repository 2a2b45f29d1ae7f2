-- Trees from the lines of a script, which are read from the last upward.
use Rattle.std.specs.Prelude.{ℕ, List, [], ◌∷◌, drop, Option, Some, None}
use Rattle.thr_values.specs.declared.number.NameId.{NameId}
use Rattle.thr_syntax.specs.declared.form.Form.{Form}
use Rattle.thr_syntax.specs.declared.form.Form.TheVariants as form
use Rattle.thr_syntax.specs.declared.tree.Clause.{Clause}
use Rattle.thr_syntax.specs.declared.tree.Stmt.{Stmt}
use Rattle.thr_syntax.specs.declared.tree.Stmt.TheVariants as stmt
use Rattle.thr_syntax.specs.declared.tree.Item.{Item}
use Rattle.thr_syntax.specs.declared.tree.Item.TheVariants as item

-- What stands below a line in its block: the statements of its part, and the parts behind that one, an `else`, clauses or a
-- `finally`.
pub record Block : Type 0 where
  pub body : List Stmt
  pub other : Option (List Stmt)
  pub clauses : List Clause
  pub final : Option (List Stmt)

-- What stands below a line: whole declarations, the locals of its routine, and its blocks from the innermost outward.
pub record Below : Type 0 where
  pub items : List Item
  pub locals : List (List ℕ)
  pub blocks : List Block

abbrev pub nothing_below : Below
nothing_below = record { items = []; locals = []; blocks = [] }

abbrev pub block_end : Block
block_end = record { body = []; other = None; clauses = []; final = None }

abbrev pub with_blocks : Below → List Block → Below
with_blocks b blocks = record { items = b.items; locals = b.locals; blocks = blocks }

abbrev pub with_item : Below → Item → Below
with_item b i = record { items = i ∷ b.items; locals = b.locals; blocks = b.blocks }

-- ---- statements

abbrev pub before_body : Stmt → Block → Block
before_body s b = record { body = s ∷ b.body; other = b.other; clauses = b.clauses; final = b.final }

abbrev pub before_blocks : Stmt → List Block → List Block
before_blocks s [] = []
before_blocks s (b ∷ bs) = before_body s b ∷ bs

abbrev pub with_stmt : Below → Stmt → Below
with_stmt b s = with_blocks b (before_blocks s b.blocks)

-- ---- blocks

-- The innermost block becomes this one.
abbrev pub changed : (Block → Block) → List Block → List Block
changed change [] = []
changed change (b ∷ bs) = change b ∷ bs

-- The innermost block is whole, and this statement of the next.
abbrev pub opened : (Block → Stmt) → List Block → List Block
opened whole [] = []
opened whole (b ∷ bs) = before_blocks (whole b) bs

abbrev pub at_else : Block → Block
at_else b = record { body = []; other = Some b.body; clauses = []; final = None }

abbrev pub at_finally : Block → Block
at_finally b = record { body = []; other = None; clauses = []; final = Some b.body }

abbrev pub at_clause : Option NameId → Block → Block
at_clause names b = record { body = []; other = None; clauses = record { names = names; body = b.body } ∷ b.clauses; final = None }

abbrev pub tried : List Stmt → List Clause → Option (List Stmt) → Stmt
tried body clauses None = stmt.TryCatch body clauses
tried body clauses (Some final) = stmt.TryFinally body final

abbrev pub body_of : List Block → List Stmt
body_of [] = []
body_of (b ∷ bs) = b.body

abbrev pub with_routine : Below → NameId → List ℕ → Below
with_routine b name parameter = record {
  items = item.Routine (record { name = name; locals = parameter ∷ b.locals; body = body_of b.blocks }) ∷ b.items;
  locals = [];
  blocks = drop 1 b.blocks;
}

-- ---- lines

-- What stands below the line above this one.
unfoldable pub with_line : Form → Below → Below
with_line form.Header b = b
with_line (form.Interface i) b = with_item b (item.Interface i)
with_line (form.Limit n) b = with_item b (item.Limit n)
with_line (form.Shared name n) b = with_item b (item.Shared name n)
with_line (form.Exception name) b = with_item b (item.Exception name)
with_line (form.Status name n) b = with_item b (item.Status name n)
with_line (form.Mutex name) b = with_item b (item.Mutex name)
with_line (form.MutexAttr name) b = with_item b (item.MutexAttr name)
with_line (form.Cond name) b = with_item b (item.Cond name)
with_line (form.Attr name) b = with_item b (item.Attr name)
with_line (form.Key name) b = with_item b (item.Key name)
with_line (form.Once name) b = with_item b (item.Once name)
with_line (form.Pipe name n) b = with_item b (item.Pipe name n)
with_line (form.Routine name parameter) b = with_routine b name parameter
with_line (form.Local name) b = record { items = b.items; locals = name ∷ b.locals; blocks = b.blocks }
with_line (form.Set v e) b = with_stmt b (stmt.Set v e)
with_line (form.Say e) b = with_stmt b (stmt.Say e)
with_line (form.If e) b = with_blocks b (opened (λ x. stmt.If e x.body x.other) b.blocks)
with_line form.Else b = with_blocks b (changed at_else b.blocks)
with_line (form.While e) b = with_blocks b (opened (λ x. stmt.While e x.body) b.blocks)
with_line form.Try b = with_blocks b (opened (λ x. tried x.body x.clauses x.final) b.blocks)
with_line (form.Catch x) b = with_blocks b (changed (at_clause (Some x)) b.blocks)
with_line form.CatchAll b = with_blocks b (changed (at_clause None) b.blocks)
with_line form.Finally b = with_blocks b (changed at_finally b.blocks)
with_line form.Endtry b = with_blocks b (block_end ∷ b.blocks)
with_line (form.Raise x) b = with_stmt b (stmt.Raise x)
with_line form.Reraise b = with_stmt b stmt.Reraise
with_line (form.Call r e v) b = with_stmt b (stmt.Call r e v)
with_line (form.Return e) b = with_stmt b (stmt.Return e)
with_line (form.Exit e) b = with_stmt b (stmt.Exit e)
with_line (form.Dce call) b = with_stmt b (stmt.Dce call)
with_line form.End b = with_blocks b (block_end ∷ b.blocks)

unfoldable pub below : List Form → Below
below [] = nothing_below
below (f ∷ fs) = with_line f (below fs)
