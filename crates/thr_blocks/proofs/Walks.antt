-- One line more of the second pass.
use Rattle.std.proofs.Common.{◌≡◌, ℕ, ◌+◌, ◌<◌, ◌≤◌, List, [], ◌∷◌, ◌++◌, length, get_or, drop, subst, sym, ap, ◌∙◌}
use Rattle.std.proofs.lemmas.List.{at_drop_more, at_drop_all}
use Rattle.thr_text.specs.declared.block.Block.{Block}
use Rattle.thr_text.specs.declared.fault.ParseFault.{ParseFault}
use Rattle.thr_text.specs.declared.fault.ParseFault.TheVariants.{Refused, NoMemory}
use Rattle.thr_text.specs.Refusals.{IsFirst}
use Rattle.thr_text.specs.Blocks.{Line, blocks_below, shape_of_line, at_line, block_faults}
use Rattle.thr_blocks.specs.Levels.{line_misfits}

abbrev Rest : ℕ → List Block → List Line → Line → List (ℕ × ℕ)
Rest end bs ls l = block_faults end (blocks_below bs (shape_of_line l.1)) ls

next_line : (end : ℕ) (bs : List Block) (ls : List Line) (i : ℕ) (l : Line) → i < length ls → l ≡ get_or ls i l
    → block_faults end bs (drop i ls) ≡ at_line l.0 (line_misfits bs l) ++ Rest end bs (drop (i + 1) ls) l
unfolding block_faults
next_line end bs ls i l lt is = at_drop_more (block_faults end bs) ls i l lt ∙ ap (λ (x : Line). block_faults end bs (x ∷ drop (i + 1) ls)) (sym is)

first_more : (e : ParseFault) (xs ys : List (ℕ × ℕ)) → IsFirst e xs → IsFirst e (xs ++ ys)
first_more NoMemory xs ys h = tt
first_more (Refused p) [] ys h = absurd cc
first_more (Refused p) (x ∷ xs) ys h = h

-- A line without a fault is passed.
pub walks_on : (end : ℕ) (bs below : List Block) (ls : List Line) (i : ℕ) (l : Line) (all : List (ℕ × ℕ)) → i < length ls → l ≡ get_or ls i l
    → line_misfits bs l ≡ [] → below ≡ blocks_below bs (shape_of_line l.1) → block_faults end bs (drop i ls) ≡ all → block_faults end below (drop (i + 1) ls) ≡ all
walks_on end bs below ls i l all lt is good next so_far =
    ap (λ (x : List Block). block_faults end x (drop (i + 1) ls)) next
    ∙ ap (λ (x : List ℕ). at_line l.0 x ++ Rest end bs (drop (i + 1) ls) l) (sym good)
    ∙ sym (next_line end bs ls i l lt is) ∙ so_far

-- A line with a fault has the first of all.
pub walk_stops : (e : ParseFault) (end : ℕ) (bs : List Block) (ls : List Line) (i : ℕ) (l : Line) (all : List (ℕ × ℕ)) → i < length ls → l ≡ get_or ls i l
    → IsFirst e (at_line l.0 (line_misfits bs l)) → block_faults end bs (drop i ls) ≡ all → IsFirst e all
walk_stops e end bs ls i l all lt is first so_far =
    subst (IsFirst e) (sym (next_line end bs ls i l lt is) ∙ so_far) (first_more e (at_line l.0 (line_misfits bs l)) (Rest end bs (drop (i + 1) ls) l) first)

pub walk_ends : (end : ℕ) (bs : List Block) (ls : List Line) (i : ℕ) (all : List (ℕ × ℕ)) → length ls ≤ i → block_faults end bs (drop i ls) ≡ all → block_faults end bs [] ≡ all
walk_ends end bs ls i all le so_far = sym (at_drop_all (block_faults end bs) ls i le) ∙ so_far
