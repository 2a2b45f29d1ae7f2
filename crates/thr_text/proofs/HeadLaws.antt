-- First words, looked for one after the other.
use Rattle.std.proofs.Common.{◌≡◌, ℕ, ◌+◌, ◌<◌, ◌≤◌, cond, List, [], length, map, get_or, drop, Some, None, refl, ap, arith}
use Rattle.std.proofs.lemmas.List.{at_drop_more, at_drop_all, get_or_past, get_or-map, length-map}
use Rattle.std.specs.Str.{bytes_eq}
use Rattle.thr_text.specs.declared.head.Head.{Head}
use Rattle.thr_text.specs.Heads.{head_in, head_word}
use Rattle.thr_text.specs.Groups.{head_in_group}

pub head_step : (hs : List Head) (w : List ℕ) (i : ℕ) (d : Head) → i < length hs → head_in (drop i hs) w ≡ cond (bytes_eq w (head_word (get_or hs i d))) (Some (get_or hs i d)) (head_in (drop (i + 1) hs) w)
unfolding head_in
head_step hs w i d lt = at_drop_more (λ xs. head_in xs w) hs i d lt

pub head_end : (hs : List Head) (w : List ℕ) (i : ℕ) → length hs ≤ i → head_in (drop i hs) w ≡ None
unfolding head_in
head_end hs w i le = at_drop_all (λ xs. head_in xs w) hs i le

-- ---- in groups

pub in_no_group : {X : Type 0} (groups : List X) (read : X → List Head) (w : List ℕ) → length groups ≤ length w → head_in_group (map read groups) w ≡ None
unfolding head_in head_in_group
in_no_group groups read w le = let past : get_or (map read groups) (length w) [] ≡ [] = get_or_past (map read groups) (length w) [] (omega (arith, length-map groups read)) in rw past refl

pub in_group_at : {X : Type 0} (groups : List X) (read : X → List Head) (w : List ℕ) (d : X) → length w < length groups → head_in_group (map read groups) w ≡ head_in (read (get_or groups (length w) d)) w
unfolding head_in_group
in_group_at groups read w d lt = ap (λ (hs : List Head). head_in hs w) (get_or-map read groups (length w) d [] lt)
