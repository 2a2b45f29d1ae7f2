-- One more word in its slot.
use Rattle.std.proofs.Common.{◌≡◌, ℕ, ◌+◌, ◌<◌, ◌≤◌, List, [], ◌∷◌, ◌++◌, length, get_or, drop, refl, sym, ap, ◌∙◌, append_assoc}
use Rattle.std.proofs.lemmas.List.{at_drop_more, at_drop_all, append-nil}
use Rattle.thr_text.specs.declared.word.Word.{Word}
use Rattle.thr_text.specs.declared.head.Slot.{Slot}
use Rattle.thr_text.specs.Slots.{slots_behind}
use Rattle.thr_text.specs.Tables.{Placed, placed}

pub placed_more : (done all : List Placed) (slots next : List Slot) (p : Slot) (ws : List Word) (i : ℕ) (w : Word)
    → i < length ws → w ≡ get_or ws i w → slots ≡ p ∷ next → done ++ placed slots (drop i ws) ≡ all
    → (done ++ (p, w) ∷ []) ++ placed (slots_behind p w ++ next) (drop (i + 1) ws) ≡ all
unfolding placed
placed_more done all slots next p ws i w lt is opened so_far =
    append_assoc done ((p, w) ∷ []) (placed (slots_behind p w ++ next) (drop (i + 1) ws))
    ∙ sym (ap (λ (xs : List Placed). done ++ xs) (at_drop_more (placed slots) ws i w lt ∙ ap (λ (x : Word). placed slots (x ∷ drop (i + 1) ws)) (sym is) ∙ ap (λ (ps : List Slot). placed ps (w ∷ drop (i + 1) ws)) opened))
    ∙ so_far

no_slots : (ws : List Word) → placed [] ws ≡ []
unfolding placed
no_slots [] = refl
no_slots (w ∷ ws) = refl

pub placed_stops : (done all : List Placed) (slots : List Slot) (ws : List Word) → slots ≡ [] → done ++ placed slots ws ≡ all → done ≡ all
placed_stops done all slots ws none so_far =
    sym (append-nil done) ∙ ap (λ (xs : List Placed). done ++ xs) (sym (no_slots ws) ∙ ap (λ (ps : List Slot). placed ps ws) (sym none)) ∙ so_far

pub placed_ends : (done all : List Placed) (slots : List Slot) (ws : List Word) (i : ℕ) → length ws ≤ i → done ++ placed slots (drop i ws) ≡ all → done ≡ all
unfolding placed
placed_ends done all slots ws i le so_far =
    sym (append-nil done) ∙ ap (λ (xs : List Placed). done ++ xs) (sym (at_drop_all (placed slots) ws i le)) ∙ so_far
