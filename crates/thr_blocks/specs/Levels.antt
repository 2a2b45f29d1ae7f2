-- Open blocks with what is open around them.
use Rattle.std.specs.Prelude.{◌≡◌, ℕ, List, [], ◌∷◌, map, Option, Some, None}
use Rattle.std.specs.List.{list_any}
use Rattle.thr_text.specs.declared.block.Block.{Block}
use Rattle.thr_text.specs.Blocks.{Line, is_try, is_catch, misfits, shape_of_line, mentions_this}
use Rattle.thr_blocks.specs.declared.level.Level.{Level}

abbrev pub blocks_in : List Level → List Block
blocks_in levels = map (λ l. l.block) levels

-- Each of these levels, the innermost first, says what is open at it or around it.
abbrev pub AreKept : List Level → Type 0
AreKept [] = Unit {0}
AreKept (l ∷ ls) = (l.in_try ≡ list_any is_try (blocks_in (l ∷ ls))) × (l.in_catch ≡ list_any is_catch (blocks_in (l ∷ ls))) × AreKept ls

abbrev pub innermost_of : List Block → Option Block
innermost_of [] = None
innermost_of (b ∷ bs) = Some b

-- The faults F8 to F14 of a line below these open blocks.
abbrev pub line_misfits : List Block → Line → List ℕ
line_misfits bs l = misfits bs (shape_of_line l.1) (mentions_this l.1)
