-- Which lines can stand in which blocks (docs/script.md, "Blocks" and "Faults").
use Rattle.std.specs.Prelude.{◌≡◌, ℕ, Bool, true, false, ◌&&◌, not, List, [], ◌∷◌, ◌++◌, codes, Option, Some, None}
use Rattle.std.specs.List.{list_any}
use Rattle.thr_syntax.specs.declared.form.Form.{Form}
use Rattle.thr_syntax.specs.declared.form.Form.TheVariants as form
use Rattle.thr_text.specs.declared.word.Word.{Word}
use Rattle.thr_text.specs.declared.head.Head.{Head}
use Rattle.thr_text.specs.declared.head.Head.TheVariants as head
use Rattle.thr_text.specs.declared.block.Shape.{Shape}
use Rattle.thr_text.specs.declared.block.Shape.TheVariants.{Declares, OpensRoutine, DeclaresLocal, IsPlain, OpensIf, BeginsElse, OpensWhile, OpensTry, BeginsCatch, BeginsCatchAll, BeginsFinally, ClosesTry, Closes, Returns, Reraises}
use Rattle.thr_text.specs.declared.block.Block.{Block}
use Rattle.thr_text.specs.declared.block.Block.TheVariants.{Locals, Statements, Then, Otherwise, Loop, TryBody, CatchBody, CatchAllBody, FinallyBody}
use Rattle.thr_text.specs.Faults.{when}
use Rattle.thr_text.specs.Slots.{is_one_of, head_of_line}

unfoldable pub shape_of : Head → Shape
shape_of head.Interface = Declares
shape_of head.Limit = Declares
shape_of head.Shared = Declares
shape_of head.Exception = Declares
shape_of head.Status = Declares
shape_of head.Mutex = Declares
shape_of head.Mutexattr = Declares
shape_of head.Cond = Declares
shape_of head.Attr = Declares
shape_of head.Key = Declares
shape_of head.Once = Declares
shape_of head.Pipe = Declares
shape_of head.Routine = OpensRoutine
shape_of head.Local = DeclaresLocal
shape_of head.Set = IsPlain
shape_of head.Say = IsPlain
shape_of head.If = OpensIf
shape_of head.Else = BeginsElse
shape_of head.While = OpensWhile
shape_of head.Try = OpensTry
shape_of head.Catch = BeginsCatch
shape_of head.CatchAll = BeginsCatchAll
shape_of head.Finally = BeginsFinally
shape_of head.Endtry = ClosesTry
shape_of head.Raise = IsPlain
shape_of head.Reraise = Reraises
shape_of head.Call = IsPlain
shape_of head.Return = Returns
shape_of head.Exit = IsPlain
shape_of head.End = Closes
shape_of (head.Dce c) = IsPlain

-- The same of a line of a script, whose names are resolved. The first line has no head; it stands where declarations do.
unfoldable pub form_shape : Form → Shape
form_shape form.Header = Declares
form_shape (form.Interface i) = Declares
form_shape (form.Limit n) = Declares
form_shape (form.Shared name n) = Declares
form_shape (form.Exception name) = Declares
form_shape (form.Status name n) = Declares
form_shape (form.Mutex name) = Declares
form_shape (form.MutexAttr name) = Declares
form_shape (form.Cond name) = Declares
form_shape (form.Attr name) = Declares
form_shape (form.Key name) = Declares
form_shape (form.Once name) = Declares
form_shape (form.Pipe name n) = Declares
form_shape (form.Routine name parameter) = OpensRoutine
form_shape (form.Local name) = DeclaresLocal
form_shape (form.Set v e) = IsPlain
form_shape (form.Say e) = IsPlain
form_shape (form.If e) = OpensIf
form_shape form.Else = BeginsElse
form_shape (form.While e) = OpensWhile
form_shape form.Try = OpensTry
form_shape (form.Catch x) = BeginsCatch
form_shape form.CatchAll = BeginsCatchAll
form_shape form.Finally = BeginsFinally
form_shape form.Endtry = ClosesTry
form_shape (form.Raise x) = IsPlain
form_shape form.Reraise = Reraises
form_shape (form.Call r e v) = IsPlain
form_shape (form.Return e) = Returns
form_shape (form.Exit e) = IsPlain
form_shape (form.Dce call) = IsPlain
form_shape form.End = Closes

abbrev pub is_try : Block → Bool
is_try Locals = false
is_try Statements = false
is_try Then = false
is_try Otherwise = false
is_try Loop = false
is_try TryBody = true
is_try CatchBody = true
is_try CatchAllBody = true
is_try FinallyBody = true

abbrev pub is_catch : Block → Bool
is_catch CatchBody = true
is_catch CatchAllBody = true
is_catch Locals = false
is_catch Statements = false
is_catch Then = false
is_catch Otherwise = false
is_catch Loop = false
is_catch TryBody = false
is_catch FinallyBody = false

-- ---- the faults of a line below these open blocks, the innermost first

-- F8: a declaration or a routine stands inside a routine.
abbrev pub is_inside : List Block → Shape → Bool
is_inside [] shape = false
is_inside (b ∷ bs) Declares = true
is_inside (b ∷ bs) OpensRoutine = true
is_inside (b ∷ bs) _ = false

-- The line has its place in the innermost block, as far as F9 goes.
abbrev pub has_place : Block → Shape → Bool
has_place Locals DeclaresLocal = true
has_place b DeclaresLocal = false
has_place Then BeginsElse = true
has_place b BeginsElse = false
has_place b BeginsCatch = is_try b
has_place b BeginsCatchAll = is_try b
has_place b BeginsFinally = is_try b
has_place b ClosesTry = is_try b
has_place b Closes = not (is_try b)
has_place b _ = true

-- F9: outside every routine, or without a place in the innermost block.
abbrev pub is_outside : List Block → Shape → Bool
is_outside [] Declares = false
is_outside [] OpensRoutine = false
is_outside [] shape = true
is_outside (b ∷ bs) shape = not (has_place b shape)

-- F10: a clause that catches, after `catch_all`.
abbrev pub is_after_catch_all : List Block → Shape → Bool
is_after_catch_all (CatchAllBody ∷ bs) BeginsCatch = true
is_after_catch_all (CatchAllBody ∷ bs) BeginsCatchAll = true
is_after_catch_all _ _ = false

-- F11: `finally` after a clause, or a clause after `finally`.
abbrev pub is_beside_finally : List Block → Shape → Bool
is_beside_finally (CatchBody ∷ bs) BeginsFinally = true
is_beside_finally (CatchAllBody ∷ bs) BeginsFinally = true
is_beside_finally (FinallyBody ∷ bs) BeginsFinally = true
is_beside_finally (FinallyBody ∷ bs) BeginsCatch = true
is_beside_finally (FinallyBody ∷ bs) BeginsCatchAll = true
is_beside_finally _ _ = false

-- F12: `endtry` of a try without a clause.
abbrev pub is_without_clause : List Block → Shape → Bool
is_without_clause (TryBody ∷ bs) ClosesTry = true
is_without_clause _ _ = false

-- F13: `return` between a try and its `endtry`.
abbrev pub leaves_a_try : List Block → Shape → Bool
leaves_a_try bs Returns = list_any is_try bs
leaves_a_try bs _ = false

-- F14: `reraise`, or `this`, outside every catch body.
abbrev pub means_caught : Shape → Bool → Bool
means_caught Reraises this = true
means_caught _ this = this

abbrev pub is_uncaught : List Block → Shape → Bool → Bool
is_uncaught bs shape this = means_caught shape this && not (list_any is_catch bs)

-- The faults F8 to F14 of a line, in rising order; `this` says that the word `this` stands in it.
unfoldable pub misfits : List Block → Shape → Bool → List ℕ
misfits bs shape this =
    when (is_inside bs shape) 8
    ++ (when (is_outside bs shape) 9
    ++ (when (is_after_catch_all bs shape) 10
    ++ (when (is_beside_finally bs shape) 11
    ++ (when (is_without_clause bs shape) 12
    ++ (when (leaves_a_try bs shape) 13
    ++ when (is_uncaught bs shape this) 14)))))

-- ---- the blocks below a line

-- A routine has a statement from now on.
abbrev pub begun : List Block → List Block
begun (Locals ∷ bs) = Statements ∷ bs
begun bs = bs

abbrev pub tail_of : List Block → List Block
tail_of [] = []
tail_of (b ∷ bs) = bs

-- The blocks that are open below a line that has its place.
unfoldable pub blocks_below : List Block → Shape → List Block
blocks_below bs Declares = bs
blocks_below bs OpensRoutine = Locals ∷ bs
blocks_below bs DeclaresLocal = bs
blocks_below bs IsPlain = begun bs
blocks_below bs OpensIf = Then ∷ begun bs
blocks_below bs BeginsElse = Otherwise ∷ tail_of bs
blocks_below bs OpensWhile = Loop ∷ begun bs
blocks_below bs OpensTry = TryBody ∷ begun bs
blocks_below bs BeginsCatch = CatchBody ∷ tail_of bs
blocks_below bs BeginsCatchAll = CatchAllBody ∷ tail_of bs
blocks_below bs BeginsFinally = FinallyBody ∷ tail_of bs
blocks_below bs ClosesTry = tail_of bs
blocks_below bs Closes = tail_of bs
blocks_below bs Returns = begun bs
blocks_below bs Reraises = begun bs

-- The faults F8 to F12 of a line: those of `return`, `reraise` and `this` don't touch how blocks nest.
abbrev pub nesting_faults : List Block → Shape → List ℕ
nesting_faults bs shape =
    when (is_inside bs shape) 8
    ++ (when (is_outside bs shape) 9
    ++ (when (is_after_catch_all bs shape) 10
    ++ (when (is_beside_finally bs shape) 11
    ++ when (is_without_clause bs shape) 12)))

-- No line of these has one of the faults F8 to F12 below these open blocks, and no block is left open.
abbrev pub Nest : List Block → List Shape → Type 0
Nest bs [] = bs ≡ []
Nest bs (shape ∷ shapes) = (nesting_faults bs shape ≡ []) × Nest (blocks_below bs shape) shapes

-- ---- lines

-- A line of a text that has a form: its number in the text and its words.
abbrev pub Line : Type 0
Line = ℕ × List Word

abbrev pub shape_at : Option Head → Shape
shape_at None = IsPlain
shape_at (Some h) = shape_of h

abbrev pub shape_of_line : List Word → Shape
shape_of_line words = shape_at (head_of_line words)

abbrev pub mentions_this : List Word → Bool
mentions_this words = list_any (is_one_of (codes "this" ∷ [])) words

-- Each of these faults, at this line.
abbrev pub at_line : ℕ → List ℕ → List (ℕ × ℕ)
at_line line [] = []
at_line line (n ∷ ns) = (line, n) ∷ at_line line ns

abbrev pub is_open : List Block → Bool
is_open [] = false
is_open (b ∷ bs) = true

-- The faults of the second pass as lines with numbers, below these open blocks, where the line after the last is `end`. Only
-- the first of them counts, so what follows a faulty line is free.
unfoldable pub block_faults : ℕ → List Block → List Line → List (ℕ × ℕ)
block_faults end bs [] = at_line end (when (is_open bs) 8)
block_faults end bs (l ∷ ls) =
    at_line l.0 (misfits bs (shape_of_line l.1) (mentions_this l.1)) ++ block_faults end (blocks_below bs (shape_of_line l.1)) ls
