-- Which line of a text is the first that isn't well placed (docs/script.md, "Blocks").
use Rattle.std.specs.Prelude.{◌≡◌, ℕ, false, List, [], ◌∷◌, ◌++◌, ⊤}
use Rattle.thr_text.specs.declared.block.Block.{Block}
use Rattle.thr_text.specs.Blocks.{Line, blocks_below, shape_of_line, mentions_this, leaves_a_try, is_uncaught}
use Rattle.thr_blocks.specs.Levels.{line_misfits}

-- The blocks that are open below these lines.
abbrev pub open_below : List Block → List Line → List Block
open_below bs [] = bs
open_below bs (l ∷ ls) = open_below (blocks_below bs (shape_of_line l.1)) ls

-- Each of these lines has its place where it stands, below these open blocks.
abbrev pub AreWellPlaced : List Block → List Line → Type 0
AreWellPlaced bs [] = ⊤
AreWellPlaced bs (l ∷ ls) = (line_misfits bs l ≡ []) × AreWellPlaced (blocks_below bs (shape_of_line l.1)) ls

-- All lines above this one are well placed and it isn't; this is the least number that says why.
pub record IsFirstMisplaced (bs : List Block) (lines : List Line) (f : ℕ × ℕ) : Type 0 where
  pub above : List Line
  pub line : Line
  pub below : List Line
  pub greater : List ℕ
  pub split : lines ≡ above ++ line ∷ below
  pub placed : AreWellPlaced bs above
  pub misplaced : line_misfits (open_below bs above) line ≡ f.1 ∷ greater
  pub at : f.0 ≡ line.0

-- All lines are well placed and a block is left open, at the line after the last.
pub record IsLeftOpen (end : ℕ) (bs : List Block) (lines : List Line) (f : ℕ × ℕ) : Type 0 where
  pub placed : AreWellPlaced bs lines
  pub innermost : Block
  pub outer : List Block
  pub open_ : open_below bs lines ≡ innermost ∷ outer
  pub at : f ≡ (end, 8)

-- No `return` stands between a try and its `endtry`, and `reraise` and `this` stand in bodies that catch.
abbrev pub KeepExceptions : List Block → List Line → Type 0
KeepExceptions bs [] = ⊤
KeepExceptions bs (l ∷ ls) =
    (leaves_a_try bs (shape_of_line l.1) ≡ false)
    × (is_uncaught bs (shape_of_line l.1) (mentions_this l.1) ≡ false)
    × KeepExceptions (blocks_below bs (shape_of_line l.1)) ls
