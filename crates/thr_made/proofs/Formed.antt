-- Made scripts keep the rules.
use Rattle.std.proofs.Common.{◌≡◌, ℕ, zero, suc, ◌+◌, ◌*◌, ◌≤◌, List, [], ◌∷◌, ◌++◌, map, length, codes, refl, sym, ap, ◌∙◌, subst, arith}
use Rattle.std.proofs.lemmas.List.{map-append}
use Rattle.thr_values.specs.Exceptions.{builtin_names}
use Rattle.thr_text.specs.declared.word.Word.{Word}
use Rattle.thr_text.specs.Tables.{Entry, declarations}
use Rattle.thr_text.specs.Blocks.{block_faults}
use Rattle.thr_text.specs.NameFaults.{name_faults}
use Rattle.thr_text.specs.Reading.{Formed, HaveForms, numbered_lines}
use Rattle.thr_verdict.specs.Made.{made, made_names, worker_text, numbers_from}
use Rattle.thr_made.proofs.Tables.{workers_from, main_entry}
use Rattle.thr_made.proofs.Lines.{main_lines, main_rest, made_lines, workers_above, creates_above, made_lines_nest}
use Rattle.thr_made.proofs.Whole.{made_declarations, made_names_well}
use Rattle.thr_made.proofs.Own.{made_own_lines}
use Rattle.thr_made.proofs.Forms.{made_forms, made_numbers}

-- ---- names

worker_names : (i count : ℕ) → map (λ (e : Entry). e.0) (workers_from i count) ≡ map worker_text (numbers_from i count)
unfolding numbers_from
worker_names i zero = refl
worker_names i (suc count) = ap (λ (r : List (List ℕ)). worker_text i ∷ r) (worker_names (i + 1) count)

names_declared : (n threads : ℕ) → made_names threads ≡ builtin_names ++ map (λ (e : Entry). e.0) (declarations (made_lines n threads))
names_declared n threads =
    sym (ap (λ (es : List Entry). builtin_names ++ map (λ (e : Entry). e.0) es) (made_declarations n threads)
    ∙ ap (λ (r : List (List ℕ)). builtin_names ++ codes "m" ∷ codes "odd" ∷ codes "total" ∷ codes "caught" ∷ r)
    (map-append (λ (e : Entry). e.0) (workers_from 1 threads) (main_entry ∷ [])
    ∙ ap (λ (r : List (List ℕ)). r ++ codes "main" ∷ []) (worker_names 1 threads)))

-- ---- how many lines there are

workers_count : (n i count : ℕ) (rest : List (List Word)) → length (workers_above n i count rest) ≡ 19 * count + length rest
unfolding workers_above
workers_count n i zero rest = omega arith
workers_count n i (suc count) rest =
    let e : length (workers_above n (i + 1) count rest) ≡ 19 * count + length rest = workers_count n (i + 1) count rest in
    omega (arith, e)

creates_count : (i count : ℕ) (rest : List (List Word)) → length (creates_above i count rest) ≡ count + length rest
unfolding creates_above
creates_count i zero rest = omega arith
creates_count i (suc count) rest =
    let e : length (creates_above (i + 1) count rest) ≡ count + length rest = creates_count (i + 1) count rest in
    omega (arith, e)

few_lines : (n threads : ℕ) → threads ≤ 64 → length (made_lines n threads) + 2 ≤ 20001
few_lines n threads few =
    let a : length (workers_above n 1 threads (main_lines threads)) ≡ 19 * threads + length (main_lines threads) = workers_count n 1 threads (main_lines threads) in
    let b : length (creates_above 1 threads (main_rest (threads + 1))) ≡ threads + 7 = creates_count 1 threads (main_rest (threads + 1)) in
    omega (arith, a, b, few)

-- ---- the rules

-- What the rules ask of a script's own lines.
record Rules (table : List (List ℕ)) (lines : List (List Word)) : Type 0 where
  pub names : table ≡ builtin_names ++ map (λ (e : Entry). e.0) (declarations lines)
  pub forms : HaveForms lines
  pub blocks : block_faults (length lines + 2) [] (numbered_lines 2 lines) ≡ []
  pub names_and_limits : name_faults (length lines + 2) (numbered_lines 2 lines) ≡ []

made_rules : (n threads : ℕ) → threads ≤ 64 → Rules (made_names threads) (made_lines n threads)
made_rules n threads few = record {
  names = names_declared n threads;
  forms = made_forms n threads few;
  blocks = made_lines_nest (length (made_lines n threads) + 2) n threads 2;
  names_and_limits = made_names_well n threads (length (made_lines n threads) + 2) few (few_lines n threads few);
}

pub made_formed : (n threads : ℕ) → threads ≤ 64 → Formed (made n threads)
made_formed n threads few =
    let r = subst (Rules (made_names threads)) (sym (made_own_lines n threads few)) (made_rules n threads few) in
    record { names = r.names; numbers = made_numbers n threads few; forms = r.forms; blocks = r.blocks; names_and_limits = r.names_and_limits }
