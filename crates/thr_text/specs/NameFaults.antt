-- Faults of names and limits (docs/script.md, "Faults").
use Rattle.std.specs.Prelude.{ℕ, ℤ, pos, ◌+◌, ◌-◌, ◌==◌, Bool, true, false, ◌&&◌, ◌||◌, not, nat_lt, nat_le, List, [], ◌∷◌, ◌++◌, length, map, codes, if◌then◌else◌, is_some, Option, Some, None}
use Rattle.std.specs.List.{list_any}
use Rattle.std.specs.Ordering.{int_cmp, is_lt}
use Rattle.thr_text.specs.declared.word.Word.{Word}
use Rattle.thr_text.specs.declared.word.Word.TheVariants.{Num, Name}
use Rattle.thr_text.specs.declared.object.Object as kinds
use Rattle.thr_text.specs.declared.object.Object.TheVariants as object
use Rattle.thr_text.specs.declared.head.Head.{Head}
use Rattle.thr_text.specs.declared.head.Head.TheVariants as head
use Rattle.thr_text.specs.declared.head.Slot.{Slot}
use Rattle.thr_text.specs.declared.head.Slot.TheVariants.{Number, Fixed, Declared, Parameter, Local, Object, ObjectOr, Variable, Receiver, Exception, Expression}
use Rattle.thr_text.specs.Faults.{when}
use Rattle.thr_text.specs.Slots.{is_a_name, head_of_line}
use Rattle.thr_text.specs.declared.block.Shape.{Shape}
use Rattle.thr_text.specs.declared.block.Shape.TheVariants.{OpensRoutine, OpensIf, OpensWhile, OpensTry, Closes, ClosesTry}
use Rattle.thr_text.specs.Blocks.{Line, shape_of_line, at_line}
use Rattle.thr_text.specs.Tables.{Placed, Entry, placed_in, rest_of, declared_in, declarations, entries_of, kind_in, is_among}

-- ---- the parameter and the locals in force

abbrev pub name_of_word : Word → List (List ℕ)
name_of_word (Name text) = text ∷ []
name_of_word _ = []

-- The names of the words at these places, where the place is that of a parameter or of a local.
abbrev pub own_at : Slot → Word → List (List ℕ)
own_at Parameter w = name_of_word w
own_at Local w = name_of_word w
own_at _ w = []

abbrev pub own_in_all : List Placed → List (List ℕ)
own_in_all [] = []
own_in_all (x ∷ xs) = own_at x.0 x.1 ++ own_in_all xs

abbrev pub own_in : List Word → List (List ℕ)
own_in words = own_in_all (placed_in words)

-- A routine's line begins anew; a local's line adds.
abbrev pub locals_on : Option Head → List (List ℕ) → List (List ℕ) → List (List ℕ)
locals_on (Some head.Routine) locals own = own
locals_on _ locals own = locals ++ own

-- The parameter and the locals that are in force below a line.
abbrev pub locals_below : List (List ℕ) → List Word → List (List ℕ)
locals_below locals words = locals_on (head_of_line words) locals (own_in words)

-- ---- what a name stands for

-- A name is a parameter or local, the name of something of a kind, or nothing.
pub data Sense : Type 0 where
  Own : Sense
  Known : kinds.Object → Sense
  Unknown : Sense

abbrev pub sense_of_kind : Option kinds.Object → Sense
sense_of_kind None = Unknown
sense_of_kind (Some kind) = Known kind

abbrev pub sense_of : List Entry → List (List ℕ) → List ℕ → Sense
sense_of entries locals name = if is_among locals name then Own else sense_of_kind (kind_in entries name)

abbrev pub is_unknown : Sense → Bool
is_unknown Unknown = true
is_unknown Own = false
is_unknown (Known kind) = false

abbrev pub same_kind : kinds.Object → kinds.Object → Bool
same_kind object.Shared object.Shared = true
same_kind object.Exception object.Exception = true
same_kind object.Mutex object.Mutex = true
same_kind object.Mutexattr object.Mutexattr = true
same_kind object.Cond object.Cond = true
same_kind object.Attr object.Attr = true
same_kind object.Key object.Key = true
same_kind object.Once object.Once = true
same_kind object.Pipe object.Pipe = true
same_kind object.Routine object.Routine = true
same_kind _ _ = false

abbrev pub is_of_kind : kinds.Object → Sense → Bool
is_of_kind kind Own = false
is_of_kind kind (Known k) = same_kind kind k
is_of_kind kind Unknown = false

abbrev pub is_own : Sense → Bool
is_own Own = true
is_own (Known k) = false
is_own Unknown = false

-- The places at which a name means what is declared elsewhere.
abbrev pub refers : Slot → Bool
refers Number = false
refers (Fixed c) = false
refers (Declared kind) = false
refers Parameter = false
refers Local = false
refers (Object kind) = true
refers (ObjectOr kind) = true
refers Variable = true
refers Receiver = true
refers Exception = true
refers Expression = true

-- What stands for the name is of the kind that its place asks.
abbrev pub suits : Slot → Sense → Bool
suits (Object kind) sense = is_of_kind kind sense
suits (ObjectOr kind) sense = is_of_kind kind sense
suits Variable sense = is_own sense || is_of_kind object.Shared sense
suits Receiver sense = is_own sense
suits Exception sense = is_of_kind object.Exception sense
suits Expression sense = is_own sense || is_of_kind object.Shared sense
suits _ sense = true

-- ---- F16 and F17: names that mean what is declared elsewhere

abbrev pub test_name : (Sense → Bool) → List Entry → List (List ℕ) → Word → Bool
test_name test entries locals (Name text) = test (sense_of entries locals text)
test_name test entries locals _ = false

-- The word is a name that refers, and isn't declared.
abbrev pub is_undeclared : List Entry → List (List ℕ) → Placed → Bool
is_undeclared entries locals x = (refers x.0 && is_a_name x.1) && test_name is_unknown entries locals x.1

-- The word is a name that refers, and doesn't stand for what its place asks.
abbrev pub is_misused : List Entry → List (List ℕ) → Placed → Bool
is_misused entries locals x = (refers x.0 && is_a_name x.1) && test_name (λ s. not (suits x.0 s)) entries locals x.1

-- ---- F15: names that are declared again

-- The word declares a name that is declared above, or a parameter or local that has the name of anything declared in the
-- text, of its routine's parameter or of an earlier local.
abbrev pub is_again_at : Slot → List ℕ → List Entry → List Entry → List (List ℕ) → Bool
is_again_at (Declared kind) name whole above locals = is_some (kind_in above name)
is_again_at Parameter name whole above locals = is_some (kind_in whole name)
is_again_at Local name whole above locals = is_some (kind_in whole name) || is_among locals name
is_again_at _ name whole above locals = false

abbrev pub is_again_word : Slot → Word → List Entry → List Entry → List (List ℕ) → Bool
is_again_word p (Name text) whole above locals = is_again_at p text whole above locals
is_again_word p _ whole above locals = false

abbrev pub same_line : Option Head → Option Head → Bool
same_line (Some head.Interface) (Some head.Interface) = true
same_line (Some head.Limit) (Some head.Limit) = true
same_line _ _ = false

-- An `interface` or `limit` line after an earlier one.
abbrev pub is_second : List (List Word) → List Word → Bool
is_second above words = list_any (λ l. same_line (head_of_line l) (head_of_line words)) above

-- ---- F18: limits

abbrev pub is_within : ℤ → ℕ → ℕ → Bool
is_within n low high = not (is_lt (int_cmp n (pos low))) && not (is_lt (int_cmp (pos high) n))

-- The number of a `limit` or `pipe` line is out of range.
abbrev pub is_out_of_range : Option Head → List Word → Bool
is_out_of_range (Some head.Limit) (Num n ∷ []) = not (is_within n 1 1000000)
is_out_of_range (Some head.Pipe) (Name text ∷ Num n ∷ []) = not (is_within n 1 4096)
is_out_of_range _ ws = false

-- How many blocks are open below a line.
abbrev pub depth_below : ℕ → Shape → ℕ
depth_below depth OpensRoutine = depth + 1
depth_below depth OpensIf = depth + 1
depth_below depth OpensWhile = depth + 1
depth_below depth OpensTry = depth + 1
depth_below depth Closes = depth - 1
depth_below depth ClosesTry = depth - 1
depth_below depth _ = depth

-- What stands above a line: the lines, the parameter and the locals in force, and how many blocks are open.
pub record Above : Type 0 where
  pub lines : List (List Word)
  pub locals : List (List ℕ)
  pub depth : ℕ

abbrev pub nothing_above : Above
nothing_above = record { lines = []; locals = []; depth = 0 }

abbrev pub above_next : Above → List Word → Above
above_next above words = record {
  lines = above.lines ++ words ∷ [];
  locals = locals_below above.locals words;
  depth = depth_below above.depth (shape_of_line words);
}

-- The line passes a limit: the range of a number, 1,000 declared names, depth 32 with the routine at depth 1, or 16 locals
-- with the parameter.
abbrev pub passes_limit : Above → List Word → Bool
passes_limit above words =
    is_out_of_range (head_of_line words) (rest_of words)
    || ((nat_lt 0 (length (declared_in words)) && nat_le 1000 (length (declarations above.lines)))
    || (nat_lt 32 (depth_below above.depth (shape_of_line words))
    || nat_lt 16 (length (locals_below above.locals words))))

-- The faults F15 to F18 of a line, where these are all lines and what stands above it, in rising order.
unfoldable pub name_misfits : List (List Word) → Above → List Word → List ℕ
name_misfits whole above words =
    when (list_any (λ x. is_again_word x.0 x.1 (entries_of whole) (entries_of above.lines) above.locals) (placed_in words) || is_second above.lines words) 15
    ++ (when (list_any (is_undeclared (entries_of whole) (locals_below above.locals words)) (placed_in words)) 16
    ++ (when (list_any (is_misused (entries_of whole) (locals_below above.locals words)) (placed_in words)) 17
    ++ when (passes_limit above words) 18))

-- ---- the whole text

-- The name `main` is that of a routine.
abbrev pub has_main : List (List Word) → Bool
has_main lines = is_of_kind object.Routine (sense_of_kind (kind_in (entries_of lines) (codes "main")))

unfoldable pub lines_faults : List (List Word) → Above → List Line → List (ℕ × ℕ)
lines_faults whole above [] = []
lines_faults whole above (l ∷ ls) = at_line l.0 (name_misfits whole above l.1) ++ lines_faults whole (above_next above l.1) ls

-- A fault at line 20,001, in its place among these.
unfoldable pub with_last_line : List (ℕ × ℕ) → List (ℕ × ℕ)
with_last_line [] = (20001, 18) ∷ []
with_last_line (f ∷ fs) = if nat_lt f.0 20001 || ((f.0 == 20001) && nat_lt f.1 18) then f ∷ with_last_line fs else (20001, 18) ∷ f ∷ fs

abbrev pub words_in : List Line → List (List Word)
words_in lines = map (λ l. l.1) lines

abbrev pub own_faults : ℕ → List Line → List (ℕ × ℕ)
own_faults end lines = lines_faults (words_in lines) nothing_above lines ++ at_line end (when (not (has_main (words_in lines))) 18)

-- The faults of the third pass as lines with numbers, the first of them first, where the line after the last is `end`. A text
-- of more than 20,000 lines has one at line 20,001, whatever stands there.
unfoldable pub name_faults : ℕ → List Line → List (ℕ × ℕ)
name_faults end lines = if nat_le end 20001 then own_faults end lines else with_last_line (own_faults end lines)
