-- The table of names, and the third pass as a walk over the lines.
use Rattle.std.specs.Prelude.{ℕ, ℤ, ◌+◌, ◌==◌, Bool, true, false, not, ◌&&◌, ◌||◌, nat_lt, nat_le, List, [], ◌∷◌, ◌++◌, length, if◌then◌else◌, Option, Some, None}
use Rattle.std.specs.List.{list_any}
use Rattle.thr_text.specs.declared.word.Word.{Word}
use Rattle.thr_text.specs.declared.word.Word.TheVariants.{Num, Name}
use Rattle.thr_text.specs.declared.head.Head.{Head}
use Rattle.thr_text.specs.declared.head.Head.TheVariants as head
use Rattle.thr_text.specs.declared.fault.Place.{Place}
use Rattle.thr_text.specs.Slots.{head_of_line}
use Rattle.thr_text.specs.Blocks.{Line, shape_of_line}
use Rattle.thr_text.specs.Tables.{Entry, Placed, placed_in, rest_of, declared_in, entries_of, is_declared}
use Rattle.thr_text.specs.NameFaults.{locals_below, depth_below, is_again_word, is_undeclared, is_misused, is_within, is_out_of_range}
use Rattle.thr_text.specs.NameFaults.{Sense as Meant, Own, Known, Unknown}
use Rattle.thr_naming.specs.declared.sense.Sense.{Sense}
use Rattle.thr_naming.specs.declared.sense.Sense.TheVariants as sense
use Rattle.thr_naming.specs.declared.context.Context.{Context}

-- ---- the table of names

-- A name that is there already keeps its place and its kind.
abbrev pub with_entry : List Entry → Entry → List Entry
with_entry table e = if is_declared table e.0 then table else table ++ e ∷ []

-- The names of the table and then those of the entries, each once.
unfoldable pub noted : List Entry → List Entry → List Entry
noted table [] = table
noted table (e ∷ es) = noted (with_entry table e) es

-- The built-in exceptions and the names that lines declare, in the order of their first declarations, each with the kind that
-- this gives it.
abbrev pub table_of : List (List Word) → List Entry
table_of lines = noted [] (entries_of lines)

abbrev pub is_short : List ℕ → Bool
is_short text = nat_lt 0 (length text) && nat_le (length text) 24

-- ---- what a name stands for

abbrev pub meant : Sense → Meant
meant sense.Own = Own
meant (sense.Known kind) = Known kind
meant sense.Unknown = Unknown

-- The word is a name that refers, and is undeclared or misused.
abbrev pub is_misnamed : List Entry → List (List ℕ) → Placed → Bool
is_misnamed whole locals x = is_undeclared whole locals x || is_misused whole locals x

-- ---- a line

-- The number of a `limit` line, and of a `pipe` line, after the first word.
abbrev pub limit_number : List Word → Option ℤ
limit_number (Num n ∷ []) = Some n
limit_number _ = None

abbrev pub pipe_number : List Word → Option ℤ
pipe_number (Name text ∷ Num n ∷ []) = Some n
pipe_number _ = None

abbrev pub is_beyond_range : Option ℤ → ℕ → Bool
is_beyond_range None high = false
is_beyond_range (Some n) high = not (is_within n 1 high)

abbrev pub is_interface : Option Head → Bool
is_interface (Some head.Interface) = true
is_interface _ = false

abbrev pub is_limit : Option Head → Bool
is_limit (Some head.Limit) = true
is_limit _ = false

-- A further `interface` or `limit` line.
abbrev pub is_further : Context → Option Head → Bool
is_further c h = (is_interface h && c.has_interface) || (is_limit h && c.has_limit)

abbrev pub start : Context
start = record { names = table_of []; locals = []; depth = 0; count = 0; has_interface = false; has_limit = false }

-- What stands above the next line.
unfoldable pub after : Context → List Word → Context
after c words = record {
  names = noted c.names (declared_in words);
  locals = locals_below c.locals words;
  depth = depth_below c.depth (shape_of_line words);
  count = c.count + length (declared_in words);
  has_interface = c.has_interface || is_interface (head_of_line words);
  has_limit = c.has_limit || is_limit (head_of_line words);
}

abbrev pub is_again : List Entry → Context → List Word → Bool
is_again whole c words = list_any (λ x. is_again_word x.0 x.1 whole c.names c.locals) (placed_in words) || is_further c (head_of_line words)

abbrev pub is_beyond : Context → List Word → Bool
is_beyond c words =
    is_out_of_range (head_of_line words) (rest_of words)
    || ((nat_lt 0 (length (declared_in words)) && nat_le 1000 c.count)
    || (nat_lt 32 (depth_below c.depth (shape_of_line words))
    || nat_lt 16 (length (locals_below c.locals words))))

abbrev pub or_else : Bool → ℕ → Option ℕ → Option ℕ
or_else true n rest = Some n
or_else false n rest = rest

-- The first of F15, F16, F17 and F18 that there is.
abbrev pub least : Bool → Bool → Bool → Bool → Option ℕ
least again undeclared misused beyond = or_else again 15 (or_else undeclared 16 (or_else misused 17 (or_else beyond 18 None)))

-- The least fault of a line, where the text declares these names.
unfoldable pub misfit : List Entry → Context → List Word → Option ℕ
misfit whole c words =
    least (is_again whole c words)
    (list_any (is_undeclared whole (locals_below c.locals words)) (placed_in words))
    (list_any (is_misused whole (locals_below c.locals words)) (placed_in words))
    (is_beyond c words)

-- ---- the lines

abbrev pub at_or : ℕ → Option ℕ → Option (ℕ × ℕ) → Option (ℕ × ℕ)
at_or line None rest = rest
at_or line (Some n) rest = Some (line, n)

-- The first fault of lines below these.
unfoldable pub first_misfit : List Entry → Context → List Line → Option (ℕ × ℕ)
first_misfit whole c [] = None
first_misfit whole c (l ∷ ls) = at_or l.0 (misfit whole c l.1) (first_misfit whole (after c l.1) ls)

-- And that of a text without a routine `main`.
abbrev pub or_no_main : ℕ → Bool → Option (ℕ × ℕ) → Option (ℕ × ℕ)
or_no_main end has (Some f) = Some f
or_no_main end true None = None
or_no_main end false None = Some (end, 18)

abbrev pub not_after_last : Option (ℕ × ℕ) → ℕ × ℕ
not_after_last None = (20001, 18)
not_after_last (Some f) = if nat_lt f.0 20001 || ((f.0 == 20001) && nat_lt f.1 18) then f else (20001, 18)

-- And that of a text of more than 20,000 lines.
abbrev pub or_too_long : ℕ → Option (ℕ × ℕ) → Option (ℕ × ℕ)
or_too_long end fault = if nat_le end 20001 then fault else Some (not_after_last fault)

abbrev pub place_of : Option Place → Option (ℕ × ℕ)
place_of None = None
place_of (Some place) = Some (place.line, place.number)
