-- The first two lines of a journal.
use Rattle.std.proofs.Common.{◌≡◌, ℕ, Bool, true, false, List, [], ◌∷◌, ◌++◌, drop, Option, Some, None, refl, sym, ap, ◌∙◌}
use Rattle.std.specs.Prelude.{not, is_none}
use Rattle.thr_text.specs.Faults.{first_of}
use Rattle.thr_journals.specs.Faults.{Fault, fault_if, is_title, workers_in, title_faults, workers_faults}
use Rattle.thr_journals.specs.Reading.{line_at}

-- The parts are a line and these others, one at least.
pub record Follow (parts : List (List ℕ)) (l : List ℕ) (more : List (List ℕ)) : Type 0 where
  pub whole : parts ≡ l ∷ more
  pub next : List ℕ
  pub others : List (List ℕ)
  pub some : more ≡ next ∷ others

pub no_line : (parts : List (List ℕ)) (tail : List ℕ) → parts ≡ tail ∷ [] → first_of (title_faults parts) ≡ Some (1, 1)
no_line parts tail e = rw e refl

title_told : (parts : List (List ℕ)) (l : List ℕ) (more : List (List ℕ)) → Follow parts l more → title_faults parts ≡ fault_if (not (is_title l)) 1 1 ++ workers_faults more
title_told parts l more f = ap title_faults (f.whole ∙ ap (λ (ls : List (List ℕ)). l ∷ ls) f.some) ∙ ap (λ (ls : List (List ℕ)). fault_if (not (is_title l)) 1 1 ++ workers_faults ls) (sym f.some)

pub no_title : (parts : List (List ℕ)) (l : List ℕ) (more : List (List ℕ)) → Follow parts l more → is_title l ≡ false → first_of (title_faults parts) ≡ Some (1, 1)
no_title parts l more f e = ap first_of (title_told parts l more f) ∙ rw e refl

pub no_second : (parts : List (List ℕ)) (l tail : List ℕ) → Follow parts l (tail ∷ []) → is_title l ≡ true → first_of (title_faults parts) ≡ Some (2, 1)
no_second parts l tail f e = ap first_of (title_told parts l (tail ∷ []) f) ∙ rw e refl

second_told : (l : List ℕ) (parts more : List (List ℕ)) → Follow parts l more → workers_faults parts ≡ fault_if (is_none (workers_in l)) 2 1
second_told l parts more f = ap workers_faults (f.whole ∙ ap (λ (ls : List (List ℕ)). l ∷ ls) f.some)

pub no_workers : (parts seconds : List (List ℕ)) (l second : List ℕ) (more : List (List ℕ)) → Follow parts l seconds → Follow seconds second more → is_title l ≡ true → workers_in second ≡ None
    → first_of (title_faults parts) ≡ Some (2, 1)
no_workers parts seconds l second more f g e none = ap first_of (title_told parts l seconds f ∙ ap (λ (fs : List Fault). fault_if (not (is_title l)) 1 1 ++ fs) (second_told second seconds more g)) ∙ rw (e, none) refl

pub both_lines : (parts seconds : List (List ℕ)) (l second : List ℕ) (more : List (List ℕ)) (n : ℕ) → Follow parts l seconds → Follow seconds second more → is_title l ≡ true → workers_in second ≡ Some n
    → title_faults parts ≡ []
both_lines parts seconds l second more n f g e some = title_told parts l seconds f ∙ ap (λ (fs : List Fault). fault_if (not (is_title l)) 1 1 ++ fs) (second_told second seconds more g) ∙ rw (e, some) refl

pub second_line : (parts seconds : List (List ℕ)) (l second : List ℕ) (more : List (List ℕ)) → parts ≡ l ∷ seconds → seconds ≡ second ∷ more → (line_at parts 1 ≡ second) × (more ≡ drop 2 parts)
second_line parts seconds l second more e f = let all : parts ≡ l ∷ second ∷ more = e ∙ ap (λ (ls : List (List ℕ)). l ∷ ls) f in (ap (λ (ls : List (List ℕ)). line_at ls 1) all, sym (ap (drop 2) all))
