-- The lines of made scripts, word by word.
use Rattle.std.proofs.Common.{◌≡◌, ℕ, zero, suc, ◌<◌, pos, Bool, true, false, ◌&&◌, List, [], ◌∷◌, codes, refl, ap, ◌∙◌, arith, inl, inr}
use Rattle.std.specs.Prelude.{◌⊎◌}
use Rattle.thr_text.specs.declared.word.Word.{Word}
use Rattle.thr_text.specs.declared.word.Word.TheVariants.{Num, Name, Mark}
use Rattle.thr_text.specs.Computing.{text_words}
use Rattle.thr_text.specs.Lexing.{line_text}
use Rattle.thr_text.specs.Faults.{word_faults}
use Rattle.thr_text.specs.Names.{is_name}
use Rattle.thr_verdict.specs.Made.{worker_text}

-- ---- tests that are computed for each number below a bound

unfoldable pub all_below : (ℕ → Bool) → ℕ → Bool
all_below p zero = true
all_below p (suc n) = p n && all_below p n

pub both : (a b : Bool) → (a && b) ≡ true → (a ≡ true) × (b ≡ true)
both true b e = (refl, e)
both false b e = absurd cc

pub holds_below : (p : ℕ → Bool) (n k : ℕ) → all_below p n ≡ true → k < n → p k ≡ true
unfolding all_below
holds_below p zero k e h = absurd (omega arith)
holds_below p (suc n) k e h = elim (split k n h) [
  | inl same ↦ ap p same ∙ (both (p n) (all_below p n) e).0
  | inr less ↦ holds_below p n k (both (p n) (all_below p n) e).1 less
]
  where
    split : (k n : ℕ) → k < suc n → (k ≡ n) ⊎ (k < n)
    split k n h = grind (arith)

pub is_empty : List ℕ → Bool
is_empty [] = true
is_empty (x ∷ xs) = false

-- ---- the words of lines

abbrev pub name : List ℕ → Word
name text = Name text

abbrev pub number : ℕ → Word
number n = Num (pos n)

abbrev pub routine_line : List ℕ → List Word
routine_line w = Name (codes "routine") ∷ Name w ∷ Name (codes "a") ∷ []

abbrev pub create_line : List ℕ → List Word
create_line w = Name (codes "pthread_create") ∷ Name (codes "v") ∷ Name (codes "default") ∷ Name w ∷ number 0 ∷ []

abbrev pub while_line : List ℕ → ℕ → List Word
while_line o n = Name (codes "while") ∷ Mark o ∷ Name (codes "i") ∷ number n ∷ []

abbrev pub add_line : List ℕ → ℕ → List Word
add_line v n = Name (codes "set") ∷ Name v ∷ Mark (codes "+") ∷ Name v ∷ number n ∷ []

-- ---- what is computed of the names of workers

test_worker : ℕ → Bool
test_worker i = is_name (worker_text i) && (is_empty (word_faults (line_text (routine_line (worker_text i)))) && is_empty (word_faults (line_text (create_line (worker_text i)))))

tested_workers : all_below test_worker 65 ≡ true
unfolding all_below test_worker is_empty text_words
tested_workers = refl

pub named_well : (i : ℕ) → i < 65 → is_name (worker_text i) ≡ true
unfolding test_worker
named_well i h =
    (both (is_name (worker_text i)) (is_empty (word_faults (line_text (routine_line (worker_text i)))) && is_empty (word_faults (line_text (create_line (worker_text i))))) (holds_below test_worker 65 i tested_workers h)).0

nothing : (xs : List ℕ) → is_empty xs ≡ true → xs ≡ []
unfolding is_empty
nothing [] e = refl
nothing (x ∷ xs) e = absurd cc

abbrev test_lines : ℕ → Bool × Bool
test_lines i = (is_empty (word_faults (line_text (routine_line (worker_text i)))), is_empty (word_faults (line_text (create_line (worker_text i)))))

pub routine_short : (i : ℕ) → i < 65 → word_faults (line_text (routine_line (worker_text i))) ≡ []
unfolding test_worker
routine_short i h =
    let t = test_lines i in
    nothing (word_faults (line_text (routine_line (worker_text i)))) (both t.0 t.1 (both (is_name (worker_text i)) (t.0 && t.1) (holds_below test_worker 65 i tested_workers h)).1).0

pub create_short : (i : ℕ) → i < 65 → word_faults (line_text (create_line (worker_text i))) ≡ []
unfolding test_worker
create_short i h =
    let t = test_lines i in
    nothing (word_faults (line_text (create_line (worker_text i)))) (both t.0 t.1 (both (is_name (worker_text i)) (t.0 && t.1) (holds_below test_worker 65 i tested_workers h)).1).1

-- ---- what is computed of numbers

test_number : ℕ → Bool
test_number n =
    is_empty (word_faults (line_text (while_line (codes "<") n)))
    && (is_empty (word_faults (line_text (while_line (codes "<=") n))) && is_empty (word_faults (line_text (add_line (codes "total") n))))

tested_numbers : all_below test_number 501 ≡ true
unfolding all_below test_number is_empty text_words
tested_numbers = refl

abbrev test_parts : ℕ → Bool × Bool × Bool
test_parts n =
    (is_empty (word_faults (line_text (while_line (codes "<") n))), is_empty (word_faults (line_text (while_line (codes "<=") n))), is_empty (word_faults (line_text (add_line (codes "total") n))))

number_tested : (n : ℕ) → n < 501 → ((test_parts n).0 && ((test_parts n).1 && (test_parts n).2)) ≡ true
unfolding test_number
number_tested n h = holds_below test_number 501 n tested_numbers h

pub less_short : (n : ℕ) → n < 501 → word_faults (line_text (while_line (codes "<") n)) ≡ []
less_short n h = let t = test_parts n in nothing (word_faults (line_text (while_line (codes "<") n))) (both t.0 (t.1 && t.2) (number_tested n h)).0

pub at_most_short : (n : ℕ) → n < 501 → word_faults (line_text (while_line (codes "<=") n)) ≡ []
at_most_short n h =
    let t = test_parts n in nothing (word_faults (line_text (while_line (codes "<=") n))) (both t.1 t.2 (both t.0 (t.1 && t.2) (number_tested n h)).1).0

pub total_short : (n : ℕ) → n < 501 → word_faults (line_text (add_line (codes "total") n)) ≡ []
total_short n h =
    let t = test_parts n in nothing (word_faults (line_text (add_line (codes "total") n))) (both t.1 t.2 (both t.0 (t.1 && t.2) (number_tested n h)).1).1
