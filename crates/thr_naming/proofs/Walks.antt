-- One line more of the walk over the lines.
use Rattle.std.proofs.Common.{◌≡◌, ℕ, ◌+◌, ◌<◌, ◌≤◌, List, ◌∷◌, length, get_or, drop, Option, Some, None, sym, ap, ◌∙◌}
use Rattle.std.proofs.lemmas.List.{at_drop_more, at_drop_all}
use Rattle.thr_text.specs.Blocks.{Line}
use Rattle.thr_text.specs.Tables.{Entry}
use Rattle.thr_naming.specs.declared.context.Context.{Context}
use Rattle.thr_naming.specs.Judging.{after, misfit, at_or, first_misfit}

walk_more : (whole : List Entry) (c : Context) (ls : List Line) (i : ℕ) (l : Line) → i < length ls → l ≡ get_or ls i l
    → first_misfit whole c (drop i ls) ≡ at_or l.0 (misfit whole c l.1) (first_misfit whole (after c l.1) (drop (i + 1) ls))
unfolding first_misfit
walk_more whole c ls i l lt is = at_drop_more (first_misfit whole c) ls i l lt ∙ ap (λ (x : Line). first_misfit whole c (x ∷ drop (i + 1) ls)) (sym is)

pub walks_on : (whole : List Entry) (c next : Context) (ls : List Line) (i : ℕ) (l : Line) (all : Option (ℕ × ℕ)) → i < length ls → l ≡ get_or ls i l
    → None ≡ misfit whole c l.1 → next ≡ after c l.1 → first_misfit whole c (drop i ls) ≡ all → first_misfit whole next (drop (i + 1) ls) ≡ all
walks_on whole c next ls i l all lt is none n so_far =
    ap (λ (x : Context). first_misfit whole x (drop (i + 1) ls)) n
    ∙ ap (λ (o : Option ℕ). at_or l.0 o (first_misfit whole (after c l.1) (drop (i + 1) ls))) none
    ∙ sym (walk_more whole c ls i l lt is) ∙ so_far

pub walk_stops : (whole : List Entry) (c : Context) (ls : List Line) (i : ℕ) (l : Line) (all : Option (ℕ × ℕ)) (n : ℕ) → i < length ls → l ≡ get_or ls i l
    → Some n ≡ misfit whole c l.1 → first_misfit whole c (drop i ls) ≡ all → Some (l.0, n) ≡ all
walk_stops whole c ls i l all n lt is some so_far =
    ap (λ (o : Option ℕ). at_or l.0 o (first_misfit whole (after c l.1) (drop (i + 1) ls))) some
    ∙ sym (walk_more whole c ls i l lt is) ∙ so_far

pub walk_ends : (whole : List Entry) (c : Context) (ls : List Line) (i : ℕ) (all : Option (ℕ × ℕ)) → length ls ≤ i → first_misfit whole c (drop i ls) ≡ all → None ≡ all
unfolding first_misfit
walk_ends whole c ls i all le so_far = sym (at_drop_all (first_misfit whole c) ls i le) ∙ so_far
