-- The faults of blocks, of names and of limits depend on the words of the lines alone.
use Rattle.std.proofs.Common.{◌≡◌, ℕ, ◌<◌, ◌≤◌, Bool, true, false, List, [], ◌∷◌, ◌++◌, refl, ap, sym, ◌∙◌, subst, arith}
use Rattle.std.specs.Prelude.{nat_le}
use Rattle.std.proofs.lemmas.Bool.Decides.{nat_tests}
use Rattle.thr_text.specs.declared.word.Word.{Word}
use Rattle.thr_text.specs.declared.block.Block.{Block}
use Rattle.thr_text.specs.Faults.{when}
use Rattle.thr_text.specs.Blocks.{Line, at_line, misfits, shape_of_line, mentions_this, blocks_below, is_open, block_faults}
use Rattle.thr_text.specs.NameFaults.{nothing_above, has_main, words_in, own_faults, name_faults}
use Rattle.thr_naming.specs.Misnamed.{AreWellNamed}
use Rattle.thr_naming.proofs.EntryLaws.{nil_left, nil_right, none_at, last_is_there}
use Rattle.thr_naming.proofs.MisnamedLaws.{own_parts, own_from_parts, short_text, long_text}

-- ---- names and limits

abbrev AreNamed : List (List Word) → Type 0
AreNamed ws = AreWellNamed ws nothing_above ws

pub own_renumbered : (end other : ℕ) (lines more : List Line) → words_in lines ≡ words_in more → own_faults end lines ≡ [] → own_faults other more ≡ []
own_renumbered end other lines more same none =
    let parts = own_parts end lines none in
    own_from_parts other more (subst AreNamed same parts.0) (sym (ap has_main same) ∙ parts.1)

pub short_names : (end : ℕ) (lines : List Line) → end ≤ 20001 → own_faults end lines ≡ [] → name_faults end lines ≡ []
short_names end lines le none = short_text end lines le ∙ none

pub names_are_short : (end : ℕ) (lines : List Line) → name_faults end lines ≡ [] → (end ≤ 20001) × (own_faults end lines ≡ [])
names_are_short end lines none = by (nat_le end 20001) refl
  where
    by : (b : Bool) → nat_le end 20001 ≡ b → (end ≤ 20001) × (own_faults end lines ≡ [])
    by true is = let le : end ≤ 20001 = grind (arith, nat_tests, is) in (le, sym (short_text end lines le) ∙ none)
    by false is = let lt : 20001 < end = grind (arith, nat_tests, is) in absurd (last_is_there (own_faults end lines) (sym (long_text end lines lt) ∙ none))

-- ---- blocks

open_elsewhere : (end other : ℕ) (b : Bool) → at_line end (when b 8) ≡ [] → at_line other (when b 8) ≡ []
open_elsewhere end other true e = absurd cc
open_elsewhere end other false e = refl

first_word : {X : Type 0} (x y : X) (xs ys : List X) → x ∷ xs ≡ y ∷ ys → x ≡ y
first_word x y xs ys e = cc

words_behind : {X : Type 0} (x y : X) (xs ys : List X) → x ∷ xs ≡ y ∷ ys → xs ≡ ys
words_behind x y xs ys e = cc

pub blocks_renumbered : (end other : ℕ) (bs : List Block) (lines more : List Line) → words_in lines ≡ words_in more → block_faults end bs lines ≡ [] → block_faults other bs more ≡ []
unfolding block_faults
blocks_renumbered end other bs [] [] same none = open_elsewhere end other (is_open bs) none
blocks_renumbered end other bs [] (m ∷ more) same none = absurd cc
blocks_renumbered end other bs (l ∷ ls) [] same none = absurd cc
blocks_renumbered end other bs (l ∷ ls) (m ∷ more) same none =
    let here : l.1 ≡ m.1 = first_word l.1 m.1 (words_in ls) (words_in more) same in
    let own : List Word → List ℕ = λ ws. misfits bs (shape_of_line ws) (mentions_this ws) in
    let below : List Word → List Block = λ ws. blocks_below bs (shape_of_line ws) in
    let fine : own m.1 ≡ [] = ap own (sym here) ∙ none_at l.0 (own l.1) (nil_left (at_line l.0 (own l.1)) (block_faults end (below l.1) ls) none) in
    let rest : block_faults other (below m.1) more ≡ [] =
    ap (λ (ws : List Word). block_faults other (below ws) more) (sym here)
    ∙ blocks_renumbered end other (below l.1) ls more (words_behind l.1 m.1 (words_in ls) (words_in more) same) (nil_right (at_line l.0 (own l.1)) (block_faults end (below l.1) ls) none) in
    ap (λ (ns : List ℕ). at_line m.0 ns ++ block_faults other (below m.1) more) fine ∙ rest
