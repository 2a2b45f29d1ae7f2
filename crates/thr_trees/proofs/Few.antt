-- A script that keeps the rules has few lines, and blocks that nest and are shallow.
use Rattle.std.proofs.Common.{◌≡◌, ℕ, zero, suc, ◌≤◌, Bool, true, false, List, [], ◌∷◌, length, slice_get, Some, refl, sym, ap, subst, ◌∙◌, arith}
use Rattle.std.specs.Prelude.{◌&&◌, nat_le}
use Rattle.std.specs.List.{list_all}
use Rattle.std.proofs.lemmas.Bool.Decides.{nat_tests}
use Rattle.thr_syntax.specs.declared.tree.Item.{Item}
use Rattle.thr_syntax.specs.declared.tree.Item.TheVariants as item
use Rattle.thr_syntax.specs.declared.tree.Routine.{Routine}
use Rattle.thr_syntax.specs.declared.tree.Script.{Script}
use Rattle.thr_syntax.specs.Canon.{script_words}
use Rattle.thr_syntax.specs.Lines.{lines_of}
use Rattle.thr_syntax.proofs.LineLaws.{each_line_once}
use Rattle.thr_text.specs.Reading.{Formed}
use Rattle.thr_blocks.specs.Trees.{item_nests}
use Rattle.thr_limits.specs.Limits.{routine_depth, is_shallow, has_few_locals, is_in_range, has_few_names, has_few_lines, has_short_lines}
use Rattle.thr_limits.proofs.FormedLimits.{formed_within}
use Rattle.thr_trees.proofs.KindsAgree.{formed_nest}

fifth : (a b c d e f : Bool) → (a && (b && (c && (d && (e && f))))) ≡ true → e ≡ true
fifth true true true true true f h = refl
fifth true true true true false f h = absurd cc
fifth true true true false e f h = absurd cc
fifth true true false d e f h = absurd cc
fifth true false c d e f h = absurd cc
fifth false b c d e f h = absurd cc

at_most : (n : ℕ) → nat_le n 20000 ≡ true → n ≤ 20000
at_most n e = grind (arith, nat_tests)

pub few_lines : (s : Script) → Formed s → length (lines_of s) ≤ 20000
few_lines s h =
    subst (λ (n : ℕ). n ≤ 20000) (each_line_once s)
    (at_most (length (script_words s))
    (fifth (list_all is_shallow s.items) (list_all has_few_locals s.items) (list_all is_in_range s.items) (has_few_names s) (has_few_lines s) (has_short_lines s) (formed_within s h)))

-- ---- what holds of each declaration

both : (a b : Bool) → (a && b) ≡ true → (a ≡ true) × (b ≡ true)
both true b e = (refl, e)
both false b e = absurd cc

each_item : (test : Item → Bool) (items : List Item) (place : ℕ) (i : Item) → list_all test items ≡ true → slice_get items place ≡ Some i → test i ≡ true
each_item test [] place i h is = absurd cc
each_item test (x ∷ items) zero i h is = let same : x ≡ i = cc in sym (ap test same) ∙ (both (test x) (list_all test items) h).0
each_item test (x ∷ items) (suc place) i h is = each_item test items place i (both (test x) (list_all test items) h).1 is

pub items_nest : (s : Script) → Formed s → (place : ℕ) (i : Item) → slice_get s.items place ≡ Some i → item_nests i ≡ true
items_nest s h place i is = each_item item_nests s.items place i (formed_nest s h) is

few_deep : (n : ℕ) → nat_le n 32 ≡ true → n ≤ 32
few_deep n e = grind (arith, nat_tests)

pub routines_shallow : (s : Script) → Formed s → (place : ℕ) (r : Routine) → slice_get s.items place ≡ Some (item.Routine r) → routine_depth r ≤ 32
routines_shallow s h place r is =
    let rest : Bool = list_all has_few_locals s.items && (list_all is_in_range s.items && (has_few_names s && (has_few_lines s && has_short_lines s))) in
    few_deep (routine_depth r) (each_item is_shallow s.items place (item.Routine r) (both (list_all is_shallow s.items) rest (formed_within s h)).0 is)
