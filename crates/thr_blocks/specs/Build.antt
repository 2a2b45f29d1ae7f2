-- Trees from the lines of a script: the declarations that are whole, and the routine that is open, its blocks from the
-- innermost outward.
use Rattle.std.specs.Prelude.{ℕ, Bool, true, false, List, [], ◌∷◌, ◌++◌, fold, reverse, Option, Some, None}
use Rattle.thr_values.specs.declared.number.NameId.{NameId}
use Rattle.thr_syntax.specs.declared.form.Form.{Form}
use Rattle.thr_syntax.specs.declared.form.Form.TheVariants as form
use Rattle.thr_syntax.specs.declared.tree.Clause.{Clause}
use Rattle.thr_syntax.specs.declared.tree.Stmt.{Stmt}
use Rattle.thr_syntax.specs.declared.tree.Stmt.TheVariants as stmt
use Rattle.thr_syntax.specs.declared.tree.Item.{Item}
use Rattle.thr_syntax.specs.declared.tree.Item.TheVariants as item
use Rattle.thr_blocks.specs.declared.frame.Opener.{Opener}
use Rattle.thr_blocks.specs.declared.frame.Opener.TheVariants as opener
use Rattle.thr_blocks.specs.declared.frame.Frame.{Frame}
use Rattle.thr_blocks.specs.declared.frame.OpenRoutine.{OpenRoutine}
use Rattle.thr_blocks.specs.declared.frame.Part.{Part}
use Rattle.thr_blocks.specs.declared.frame.Part.TheVariants as part

abbrev pub Building : Type 0
Building = List Item × Option OpenRoutine

abbrev pub frame : Opener → List Stmt → Frame
frame o outer = record { opener = o; outer = outer }

abbrev pub clause : Option NameId → List Stmt → Clause
clause names body = record { names = names; body = body }

-- An open routine with other locals, another body and other frames.
abbrev pub with_parts : OpenRoutine → List (List ℕ) → List Stmt → List Frame → OpenRoutine
with_parts r locals body frames = record { name = r.name; locals = locals; body = body; frames = frames }

abbrev pub begun_routine : NameId → List ℕ → OpenRoutine
begun_routine name parameter = record { name = name; locals = parameter ∷ []; body = []; frames = [] }

-- The statement that a block is when its last part ends.
abbrev pub closed : Opener → List Stmt → Stmt
closed (opener.If e) body = stmt.If e body None
closed (opener.Else e first) body = stmt.If e first (Some body)
closed (opener.While e) body = stmt.While e body
closed opener.Try body = stmt.TryCatch body []
closed (opener.Catch first clauses names) body = stmt.TryCatch first (clauses ++ clause names body ∷ [])
closed (opener.Finally first) body = stmt.TryFinally first body

abbrev pub whole : OpenRoutine → Item
whole r = item.Routine (record { name = r.name; locals = r.locals; body = r.body })

-- The next part of a block, whose part so far has this body. A block without such a part stays.
abbrev pub at_else : Opener → List Stmt → Opener
at_else (opener.If e) body = opener.Else e body
at_else o body = o

abbrev pub at_clause : Option NameId → Opener → List Stmt → Opener
at_clause names opener.Try body = opener.Catch body [] names
at_clause names (opener.Catch first clauses before) body = opener.Catch first (clauses ++ clause before body ∷ []) names
at_clause names o body = o

abbrev pub at_finally : Opener → List Stmt → Opener
at_finally opener.Try body = opener.Finally body
at_finally o body = o

-- The innermost block, or else the routine, ends.
abbrev pub block_closed : List Item → OpenRoutine → List Frame → Building
block_closed done r [] = (done ++ whole r ∷ [], None)
block_closed done r (f ∷ fs) = (done, Some (with_parts r r.locals (f.outer ++ closed f.opener r.body ∷ []) fs))

abbrev pub next_part : Part → Opener → List Stmt → Opener
next_part part.Else o body = at_else o body
next_part (part.Catch names) o body = at_clause names o body
next_part part.Finally o body = at_finally o body

-- The next part of the innermost block begins.
abbrev pub next_part_begun : Part → OpenRoutine → List Frame → OpenRoutine
next_part_begun p r [] = r
next_part_begun p r (f ∷ fs) = with_parts r r.locals [] (frame (next_part p f.opener r.body) f.outer ∷ fs)

abbrev pub with_stmt : OpenRoutine → Stmt → OpenRoutine
with_stmt r s = with_parts r r.locals (r.body ++ s ∷ []) r.frames

abbrev pub with_block : OpenRoutine → Opener → OpenRoutine
with_block r o = with_parts r r.locals [] (frame o r.body ∷ r.frames)

-- A line outside every routine. One that has no place there is passed over.
unfoldable pub put_outside : List Item → Form → Building
put_outside done (form.Interface i) = (done ++ item.Interface i ∷ [], None)
put_outside done (form.Limit n) = (done ++ item.Limit n ∷ [], None)
put_outside done (form.Shared name n) = (done ++ item.Shared name n ∷ [], None)
put_outside done (form.Exception name) = (done ++ item.Exception name ∷ [], None)
put_outside done (form.Status name n) = (done ++ item.Status name n ∷ [], None)
put_outside done (form.Mutex name) = (done ++ item.Mutex name ∷ [], None)
put_outside done (form.MutexAttr name) = (done ++ item.MutexAttr name ∷ [], None)
put_outside done (form.Cond name) = (done ++ item.Cond name ∷ [], None)
put_outside done (form.Attr name) = (done ++ item.Attr name ∷ [], None)
put_outside done (form.Key name) = (done ++ item.Key name ∷ [], None)
put_outside done (form.Once name) = (done ++ item.Once name ∷ [], None)
put_outside done (form.Pipe name n) = (done ++ item.Pipe name n ∷ [], None)
put_outside done (form.Routine name parameter) = (done, Some (begun_routine name parameter))
put_outside done _ = (done, None)

-- A line in a routine. One that has no place there is passed over.
unfoldable pub put_inside : List Item → OpenRoutine → Form → Building
put_inside done r (form.Local name) = (done, Some (with_parts r (r.locals ++ name ∷ []) r.body r.frames))
put_inside done r (form.Set v e) = (done, Some (with_stmt r (stmt.Set v e)))
put_inside done r (form.Say e) = (done, Some (with_stmt r (stmt.Say e)))
put_inside done r (form.If e) = (done, Some (with_block r (opener.If e)))
put_inside done r form.Else = (done, Some (next_part_begun part.Else r r.frames))
put_inside done r (form.While e) = (done, Some (with_block r (opener.While e)))
put_inside done r form.Try = (done, Some (with_block r opener.Try))
put_inside done r (form.Catch x) = (done, Some (next_part_begun (part.Catch (Some x)) r r.frames))
put_inside done r form.CatchAll = (done, Some (next_part_begun (part.Catch None) r r.frames))
put_inside done r form.Finally = (done, Some (next_part_begun part.Finally r r.frames))
put_inside done r form.Endtry = block_closed done r r.frames
put_inside done r (form.Raise x) = (done, Some (with_stmt r (stmt.Raise x)))
put_inside done r form.Reraise = (done, Some (with_stmt r stmt.Reraise))
put_inside done r (form.Call name e v) = (done, Some (with_stmt r (stmt.Call name e v)))
put_inside done r (form.Return e) = (done, Some (with_stmt r (stmt.Return e)))
put_inside done r (form.Exit e) = (done, Some (with_stmt r (stmt.Exit e)))
put_inside done r (form.Dce call) = (done, Some (with_stmt r (stmt.Dce call)))
put_inside done r form.End = block_closed done r r.frames
put_inside done r _ = (done, Some r)

abbrev pub put_at : List Item → Option OpenRoutine → Form → Building
put_at done None f = put_outside done f
put_at done (Some r) f = put_inside done r f

abbrev pub put : Building → Form → Building
put h f = put_at h.0 h.1 f

abbrev pub built : List Form → Building
built forms = fold put ([], None) forms

-- ---- the code's list of frames has the innermost last

abbrev pub reversed_routine : OpenRoutine → OpenRoutine
reversed_routine r = with_parts r r.locals r.body (reverse r.frames)

abbrev pub reversed : Option OpenRoutine → Option OpenRoutine
reversed None = None
reversed (Some r) = Some (reversed_routine r)

-- What is open after a line in a routine, which may have ended it.
abbrev pub left_open : Bool → OpenRoutine → Option OpenRoutine
left_open true r = None
left_open false r = Some (reversed_routine r)

-- ---- lines

-- A line of its own, and not the first line of a text.
abbrev pub is_own : Form → Bool
is_own form.Header = false
is_own _ = true

-- A routine's first local is its parameter.
abbrev pub HasParameter : List (List ℕ) → Type 0
HasParameter [] = ⊥
HasParameter (parameter ∷ locals) = Unit {0}
