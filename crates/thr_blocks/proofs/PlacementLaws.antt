-- The first fault of the second pass is that of the first line that isn't well placed.
use Rattle.std.proofs.Common.{◌≡◌, ◌⊎◌, inl, inr, ℕ, List, [], ◌∷◌, ◌++◌, refl, ap, sym, ◌∙◌}
use Rattle.std.specs.Prelude.{Some}
use Rattle.thr_text.specs.declared.block.Block.{Block}
use Rattle.thr_text.specs.Faults.{first_of}
use Rattle.thr_text.specs.Blocks.{Line, blocks_below, shape_of_line, at_line, block_faults}
use Rattle.thr_blocks.specs.Levels.{line_misfits}
use Rattle.thr_blocks.specs.Placement.{open_below, AreWellPlaced, IsFirstMisplaced, IsLeftOpen}

abbrev below_line : List Block → Line → List Block
below_line bs l = blocks_below bs (shape_of_line l.1)

-- a line's own faults, and those below it
faults_step : (end : ℕ) (bs : List Block) (l : Line) (ls : List Line) → block_faults end bs (l ∷ ls) ≡ at_line l.0 (line_misfits bs l) ++ block_faults end (below_line bs l) ls
unfolding block_faults
faults_step end bs l ls = refl

misplaced_first : (end : ℕ) (bs : List Block) (l : Line) (ls : List Line) (n : ℕ) (more : List ℕ) → line_misfits bs l ≡ n ∷ more → first_of (block_faults end bs (l ∷ ls)) ≡ Some (l.0, n)
misplaced_first end bs l ls n more e = rw (faults_step end bs l ls, e) refl

placed_first : (end : ℕ) (bs : List Block) (l : Line) (ls : List Line) → line_misfits bs l ≡ [] → block_faults end bs (l ∷ ls) ≡ block_faults end (below_line bs l) ls
placed_first end bs l ls e = rw (faults_step end bs l ls, e) refl

pub comes_at_line : (end : ℕ) (bs : List Block) (above : List Line) (l : Line) (below : List Line) (n : ℕ) (more : List ℕ) → AreWellPlaced bs above → line_misfits (open_below bs above) l ≡ n ∷ more
    → first_of (block_faults end bs (above ++ l ∷ below)) ≡ Some (l.0, n)
comes_at_line end bs [] l below n more placed e = misplaced_first end bs l below n more e
comes_at_line end bs (x ∷ above) l below n more placed e =
    ap first_of (placed_first end bs x (above ++ l ∷ below) placed.0) ∙ comes_at_line end (below_line bs x) above l below n more placed.1 e

same_fault : (a : ℕ) (f : ℕ × ℕ) → f.0 ≡ a → (let o : ℕ × ℕ = (a, f.1) in o) ≡ f
same_fault a f e = ap (λ (x : ℕ). (let o : ℕ × ℕ = (x, f.1) in o)) (sym e)

pub first_misplaced_comes : (end : ℕ) (bs : List Block) (lines : List Line) (f : ℕ × ℕ) → IsFirstMisplaced bs lines f → first_of (block_faults end bs lines) ≡ Some f
first_misplaced_comes end bs lines f m =
    ap (λ (ls : List Line). first_of (block_faults end bs ls)) m.split
    ∙ comes_at_line end bs m.above m.line m.below f.1 m.greater m.placed m.misplaced
    ∙ ap Some (same_fault m.line.0 f m.at)

placed_all : (end : ℕ) (bs : List Block) (lines : List Line) → AreWellPlaced bs lines → block_faults end bs lines ≡ block_faults end (open_below bs lines) []
placed_all end bs [] placed = refl
placed_all end bs (l ∷ ls) placed = placed_first end bs l ls placed.0 ∙ placed_all end (below_line bs l) ls placed.1

open_first : (end : ℕ) (b : Block) (bs : List Block) → first_of (block_faults end (b ∷ bs) []) ≡ Some (end, 8)
unfolding block_faults
open_first end b bs = refl

pub left_open_comes : (end : ℕ) (bs : List Block) (lines : List Line) (f : ℕ × ℕ) → IsLeftOpen end bs lines f → first_of (block_faults end bs lines) ≡ Some f
left_open_comes end bs lines f o =
    ap first_of (placed_all end bs lines o.placed)
    ∙ ap (λ (x : List Block). first_of (block_faults end x [])) o.open_
    ∙ open_first end o.innermost o.outer
    ∙ ap Some (sym o.at)

-- ---- the other way

abbrev Told : ℕ → List Block → List Line → ℕ × ℕ → Type 0
Told end bs lines f = IsFirstMisplaced bs lines f ⊎ IsLeftOpen end bs lines f

end_told : (end : ℕ) (bs : List Block) (f : ℕ × ℕ) → first_of (block_faults end bs []) ≡ Some f → Told end bs [] f
unfolding block_faults
end_told end [] f e = absurd (cc)
end_told end (b ∷ bs) f e = inr (record { placed = tt; innermost = b; outer = bs; open_ = refl; at = cc })

line_told : (bs : List Block) (l : Line) (ls : List Line) (n : ℕ) (more : List ℕ) (f : ℕ × ℕ) → line_misfits bs l ≡ n ∷ more → (let o : ℕ × ℕ = (l.0, n) in o) ≡ f → IsFirstMisplaced bs (l ∷ ls) f
line_told bs l ls n more f e is =
    record { above = []; line = l; below = ls; greater = more; split = refl; placed = tt; misplaced = e ∙ ap (λ (x : ℕ × ℕ). x.1 ∷ more) is; at = ap (λ (x : ℕ × ℕ). x.0) (sym is) }

later_told : (end : ℕ) (bs : List Block) (l : Line) (ls : List Line) (f : ℕ × ℕ) → line_misfits bs l ≡ [] → Told end (below_line bs l) ls f → Told end bs (l ∷ ls) f
later_told end bs l ls f e (inl m) =
    inl (record { above = l ∷ m.above; line = m.line; below = m.below; greater = m.greater; split = ap (λ (x : List Line). l ∷ x) m.split; placed = (e, m.placed); misplaced = m.misplaced; at = m.at })
later_told end bs l ls f e (inr o) = inr (record { placed = (e, o.placed); innermost = o.innermost; outer = o.outer; open_ = o.open_; at = o.at })

some_is : (a b : ℕ × ℕ) → Some a ≡ Some b → a ≡ b
some_is a b e = cc

by_misfits : (end : ℕ) (bs : List Block) (l : Line) (ls : List Line) (f : ℕ × ℕ) (ms : List ℕ) → line_misfits bs l ≡ ms → first_of (block_faults end bs (l ∷ ls)) ≡ Some f
    → (first_of (block_faults end (below_line bs l) ls) ≡ Some f → Told end (below_line bs l) ls f) → Told end bs (l ∷ ls) f
by_misfits end bs l ls f [] is e below = later_told end bs l ls f is (below (ap first_of (sym (placed_first end bs l ls is)) ∙ e))
by_misfits end bs l ls f (n ∷ more) is e below = inl (line_told bs l ls n more f is (some_is (l.0, n) f (sym (misplaced_first end bs l ls n more is) ∙ e)))

pub fault_told : (end : ℕ) (bs : List Block) (lines : List Line) (f : ℕ × ℕ) → first_of (block_faults end bs lines) ≡ Some f → Told end bs lines f
fault_told end bs [] f e = end_told end bs f e
fault_told end bs (l ∷ ls) f e = by_misfits end bs l ls f (line_misfits bs l) refl e (fault_told end (below_line bs l) ls f)
