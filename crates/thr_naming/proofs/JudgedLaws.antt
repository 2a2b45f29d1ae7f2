-- The least fault of a line.
use Rattle.std.proofs.Common.{◌≡◌, Bool, List, length, map, Option, Some, refl, sym, ap, ◌∙◌}
use Rattle.std.specs.Prelude.{◌||◌, ◌&&◌, nat_lt, nat_le}
use Rattle.std.specs.List.{list_any}
use Rattle.thr_text.specs.declared.word.Word.{Word}
use Rattle.thr_text.specs.declared.head.Head.{Head}
use Rattle.thr_text.specs.Slots.{head_of_line, slots_of}
use Rattle.thr_text.specs.Blocks.{shape_of_line}
use Rattle.thr_text.specs.Tables.{Entry, Placed, placed, placed_after, placed_in, rest_of, declared_in}
use Rattle.thr_text.specs.NameFaults.{is_again_word, is_undeclared, is_misused, is_out_of_range, locals_below, depth_below}
use Rattle.thr_naming.specs.declared.context.Context.{Context}
use Rattle.thr_naming.specs.declared.places.Placed.{Placed as AtPlace}
use Rattle.thr_naming.specs.Judging.{is_further, is_again, after, least, misfit}
use Rattle.thr_naming.specs.Placing.{seen}
use Rattle.thr_naming.proofs.Lists.{any_map}

placed_are : (words : List Word) (h : Head) (ps : List Placed) → head_of_line words ≡ Some h → ps ≡ placed (slots_of h) (rest_of words) → ps ≡ placed_in words
placed_are words h ps is e = e ∙ ap (λ (o : Option Head). placed_after o (rest_of words)) (sym is)

any_seen : (p : Placed → Bool) (xs : List AtPlace) (words : List Word) (h : Head) → head_of_line words ≡ Some h → map seen xs ≡ placed (slots_of h) (rest_of words)
    → list_any (λ x. p (seen x)) xs ≡ list_any p (placed_in words)
any_seen p xs words h is e = sym (any_map p seen xs) ∙ ap (list_any p) (placed_are words h (map seen xs) is e)

pub judged : (whole : List Entry) (c next : Context) (words rest : List Word) (h : Head) (xs : List AtPlace) (again undeclared misused outside more full : Bool)
    → head_of_line words ≡ Some h → rest ≡ rest_of words → map seen xs ≡ placed (slots_of h) rest → next ≡ after c words
    → again ≡ (list_any (λ x. is_again_word (seen x).0 (seen x).1 whole c.names c.locals) xs || is_further c (Some h))
    → undeclared ≡ list_any (λ x. is_undeclared whole next.locals (seen x)) xs
    → misused ≡ list_any (λ x. is_misused whole next.locals (seen x)) xs
    → outside ≡ is_out_of_range (Some h) rest
    → more ≡ (nat_lt 0 (length (declared_in words)) && nat_le 1000 c.count)
    → full ≡ (nat_lt 32 next.depth || nat_lt 16 (length next.locals))
    → least again undeclared misused (outside || (more || full)) ≡ misfit whole c words
unfolding misfit after
judged whole c next words rest h xs again undeclared misused outside more full is r e n ai ui mi oi mo fu =
    let at : map seen xs ≡ placed (slots_of h) (rest_of words) = e ∙ ap (placed (slots_of h)) r in
    let a : again ≡ is_again whole c words =
    ai ∙ ap (λ (b : Bool). b || is_further c (Some h)) (any_seen (λ x. is_again_word x.0 x.1 whole c.names c.locals) xs words h is at)
    ∙ ap (λ (o : Option Head). list_any (λ x. is_again_word x.0 x.1 whole c.names c.locals) (placed_in words) || is_further c o) (sym is) in
    let u : undeclared ≡ list_any (is_undeclared whole (locals_below c.locals words)) (placed_in words) =
    ui ∙ any_seen (is_undeclared whole next.locals) xs words h is at ∙ ap (λ (x : Context). list_any (is_undeclared whole x.locals) (placed_in words)) n in
    let m : misused ≡ list_any (is_misused whole (locals_below c.locals words)) (placed_in words) =
    mi ∙ any_seen (is_misused whole next.locals) xs words h is at ∙ ap (λ (x : Context). list_any (is_misused whole x.locals) (placed_in words)) n in
    let o : outside ≡ is_out_of_range (head_of_line words) (rest_of words) =
    oi ∙ ap (λ (ws : List Word). is_out_of_range (Some h) ws) r ∙ ap (λ (x : Option Head). is_out_of_range x (rest_of words)) (sym is) in
    let f : full ≡ (nat_lt 32 (depth_below c.depth (shape_of_line words)) || nat_lt 16 (length (locals_below c.locals words))) =
    fu ∙ ap (λ (x : Context). nat_lt 32 x.depth || nat_lt 16 (length x.locals)) n in
    rw (a, u, m, o, mo, f) refl
