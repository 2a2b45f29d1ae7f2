-- The limits of a script (docs/script.md, "Faults", F18), on its tree and its canonical text.
use Rattle.std.specs.Prelude.{ℕ, ◌+◌, max, Bool, true, false, ◌&&◌, nat_le, List, [], ◌∷◌, map, filter, length, Option, Some, None}
use Rattle.std.specs.List.{list_all, join_with_byte}
use Rattle.thr_syntax.specs.declared.tree.Stmt.{Stmt}
use Rattle.thr_syntax.specs.declared.tree.Stmt.TheOpen.{Stmt-F, Clause-F}
use Rattle.thr_syntax.specs.declared.tree.Stmt.TheOpen as one_stmt
use Rattle.thr_syntax.specs.declared.tree.Item.{Item}
use Rattle.thr_syntax.specs.declared.tree.Item.TheVariants as item
use Rattle.thr_syntax.specs.declared.tree.Routine.{Routine}
use Rattle.thr_syntax.specs.declared.tree.Script.{Script}
use Rattle.thr_syntax.specs.Folds.{each_stmt}
use Rattle.thr_syntax.specs.Canon.{script_words}

-- ---- lines

-- At most 20,000 lines.
abbrev pub has_few_lines : Script → Bool
has_few_lines s = nat_le (length (script_words s)) 20000

-- At most 24 words and, without its end, 240 bytes.
abbrev pub is_short_line : List (List ℕ) → Bool
is_short_line words = nat_le (length words) 24 && nat_le (length (join_with_byte 32 words)) 240

abbrev pub has_short_lines : Script → Bool
has_short_lines s = list_all is_short_line (script_words s)

-- ---- names

-- The declaration has a name.
abbrev pub has_name : Item → Bool
has_name (item.Interface i) = false
has_name (item.Limit n) = false
has_name _ = true

-- At most 1,000 declared names.
abbrev pub has_few_names : Script → Bool
has_few_names s = nat_le (length (filter has_name s.items)) 1000

-- ---- blocks

-- The greatest of these numbers, 0 where there is none.
abbrev pub greatest : List ℕ → ℕ
greatest [] = 0
greatest (n ∷ ns) = max n (greatest ns)

abbrev pub else_depth : Option (List ℕ) → ℕ
else_depth None = 0
else_depth (Some body) = greatest body

-- How many blocks a statement opens in one another, from those that each statement and clause in it opens.
abbrev pub depth_step : Stmt-F ℕ ℕ → ℕ
depth_step (one_stmt.If e body other) = 1 + max (greatest body) (else_depth other)
depth_step (one_stmt.While e body) = 1 + greatest body
depth_step (one_stmt.TryCatch body clauses) = 1 + max (greatest body) (greatest clauses)
depth_step (one_stmt.TryFinally body final) = 1 + max (greatest body) (greatest final)
depth_step _ = 0

abbrev pub clause_depth_step : Clause-F ℕ ℕ → ℕ
clause_depth_step c = greatest c.body

abbrev pub stmt_depth : Stmt → ℕ
stmt_depth = each_stmt depth_step clause_depth_step

-- The routine itself is a block, at depth 1.
abbrev pub routine_depth : Routine → ℕ
routine_depth r = 1 + greatest (map stmt_depth r.body)

-- Blocks are at most 32 deep.
abbrev pub is_shallow : Item → Bool
is_shallow (item.Routine r) = nat_le (routine_depth r) 32
is_shallow _ = true

-- ---- locals and numbers

-- A routine has at most 16 locals, its parameter among them.
abbrev pub has_few_locals : Item → Bool
has_few_locals (item.Routine r) = nat_le (length r.locals) 16
has_few_locals _ = true

-- The number of a `limit` is from 1 to 1000000, that of a `pipe` from 1 to 4096.
abbrev pub is_in_range : Item → Bool
is_in_range (item.Limit n) = nat_le 1 n && nat_le n 1000000
is_in_range (item.Pipe name n) = nat_le 1 n && nat_le n 4096
is_in_range _ = true

-- ---- scripts

-- The script keeps each limit.
abbrev pub within_limits : Script → Bool
within_limits s =
    list_all is_shallow s.items
    && (list_all has_few_locals s.items
    && (list_all is_in_range s.items
    && (has_few_names s
    && (has_few_lines s
    && has_short_lines s))))
