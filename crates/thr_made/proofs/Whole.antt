-- The names of made scripts, and that their lines have no fault of names and limits.
use Rattle.std.proofs.Common.{◌≡◌, ℕ, zero, suc, ◌+◌, ◌≤◌, true, false, List, [], ◌∷◌, ◌++◌, map, length, nat_le, codes, Option, Some, None, refl, sym, ap, ◌∙◌, subst, arith}
use Rattle.std.specs.Str.{bytes_eq}
use Rattle.std.proofs.lemmas.Bool.Decides.{nat_tests}
use Rattle.thr_values.specs.Words.{call_word}
use Rattle.thr_values.specs.Exceptions.{builtin_names}
use Rattle.thr_text.specs.declared.word.Word.{Word}
use Rattle.thr_text.specs.declared.object.Object as kinds
use Rattle.thr_text.specs.declared.object.Object.TheVariants as object
use Rattle.thr_text.specs.Computing.{text_words}
use Rattle.thr_text.specs.Heads.{head_word, all_heads, head_in, head_of}
use Rattle.thr_text.specs.Slots.{call_slots, slots_of}
use Rattle.thr_text.specs.Reading.{numbered_lines}
use Rattle.thr_text.specs.Tables.{Entry, builtin_entry, placed, kind_in, entries_of, declarations}
use Rattle.thr_text.specs.NameFaults.{has_main, is_of_kind, sense_of_kind, words_in, nothing_above, lines_faults, name_faults}
use Rattle.thr_verdict.specs.Made.{worker_text, numbers_from, rounds, share}
use Rattle.thr_made.proofs.Words.{named_well}
use Rattle.thr_made.proofs.Tables.{base, worker_entry, workers_from, main_entry, kind_behind, kind_before, new_worker, no_worker, not_yet, is_worker}
use Rattle.thr_made.proofs.Lines.{top_lines, worker_lines, main_lines, main_rest, made_lines, workers_above, creates_above}
use Rattle.thr_made.proofs.Clean.{Clean}
use Rattle.thr_made.proofs.Workers.{Known, clean_worker}
use Rattle.thr_made.proofs.Main.{AreOfWorkers, clean_main}

-- ---- what the lines declare

abbrev pub top_entries : List Entry
top_entries = (codes "m", object.Mutex) ∷ (codes "odd", object.Exception) ∷ (codes "total", object.Shared) ∷ (codes "caught", object.Shared) ∷ []

declared_worker : (w : List ℕ) (r q : ℕ) (rest : List (List Word)) → declarations (worker_lines w r q ++ rest) ≡ (w, object.Routine) ∷ declarations rest
unfolding declarations call_word head_word all_heads head_in head_of call_slots slots_of placed
declared_worker w r q rest = refl

declared_workers : (n i count : ℕ) (rest : List (List Word)) → declarations (workers_above n i count rest) ≡ workers_from i count ++ declarations rest
unfolding workers_above numbers_from
declared_workers n i zero rest = refl
declared_workers n i (suc count) rest =
    declared_worker (worker_text i) (rounds n i) (share n i) (workers_above n (i + 1) count rest)
    ∙ ap (λ (es : List Entry). worker_entry i ∷ es) (declared_workers n (i + 1) count rest)

declared_creates : (i count : ℕ) (rest : List (List Word)) → declarations (creates_above i count rest) ≡ declarations rest
unfolding creates_above declarations call_word head_word all_heads head_in head_of call_slots slots_of placed
declared_creates i zero rest = refl
declared_creates i (suc count) rest = declared_creates (i + 1) count rest

declared_rest : (z : ℕ) → declarations (main_rest z) ≡ []
unfolding declarations call_word head_word all_heads head_in head_of call_slots slots_of placed
declared_rest z = refl

declared_main : (threads : ℕ) → declarations (main_lines threads) ≡ main_entry ∷ []
unfolding declarations call_word head_word all_heads head_in head_of call_slots slots_of placed
declared_main threads =
    ap (λ (es : List Entry). main_entry ∷ es) (declared_creates 1 threads (main_rest (threads + 1)) ∙ declared_rest (threads + 1))

declared_top : (rest : List (List Word)) → declarations (top_lines ++ rest) ≡ top_entries ++ declarations rest
unfolding declarations call_word head_word all_heads head_in head_of call_slots slots_of placed
declared_top rest = refl

-- What the lines of a made script declare, in its order.
pub made_declarations : (n threads : ℕ) → declarations (made_lines n threads) ≡ top_entries ++ (workers_from 1 threads ++ main_entry ∷ [])
made_declarations n threads =
    declared_top (workers_above n 1 threads (main_lines threads))
    ∙ ap (λ (es : List Entry). top_entries ++ es)
    (declared_workers n 1 threads (main_lines threads) ∙ ap (λ (es : List Entry). workers_from 1 threads ++ es) (declared_main threads))

made_entries : (n threads : ℕ) → entries_of (made_lines n threads) ≡ base ++ (workers_from 1 threads ++ main_entry ∷ [])
made_entries n threads = ap (λ (es : List Entry). map builtin_entry builtin_names ++ es) (made_declarations n threads)

-- ---- what names stand for

module _ (n threads : ℕ) where
  abbrev whole : List (List Word)
  whole = made_lines n threads

  in_base : (x : List ℕ) (k : kinds.Object) → kind_in base x ≡ Some k → kind_in (entries_of whole) x ≡ Some k
  in_base x k h = ap (λ (es : List Entry). kind_in es x) (made_entries n threads) ∙ kind_before base (workers_from 1 threads ++ main_entry ∷ []) x k h

  past_workers : (x : List ℕ) → kind_in base x ≡ None → ((k : ℕ) → bytes_eq x (worker_text k) ≡ false) → kind_in (entries_of whole) x ≡ kind_in (main_entry ∷ []) x
  past_workers x h o =
      ap (λ (es : List Entry). kind_in es x) (made_entries n threads)
      ∙ kind_behind base (workers_from 1 threads ++ main_entry ∷ []) x h
      ∙ kind_behind (workers_from 1 threads) (main_entry ∷ []) x (no_worker x o 1 threads)

  pub known : Known whole
  unfolding kind_in
  known = record {
    m = in_base (codes "m") object.Mutex refl;
    odd = in_base (codes "odd") object.Exception refl;
    total = in_base (codes "total") object.Shared refl;
    caught = in_base (codes "caught") object.Shared refl;
    a = past_workers (codes "a") refl (λ k. refl);
    i = past_workers (codes "i") refl (λ k. refl);
    v = past_workers (codes "v") refl (λ k. refl);
  }

  main_is_there : kind_in (entries_of whole) (codes "main") ≡ Some object.Routine
  unfolding kind_in
  main_is_there = past_workers (codes "main") refl (λ k. refl)

  pub of_workers : threads ≤ 64 → AreOfWorkers whole 1 threads
  of_workers few k a b = record {
    name = named_well k (omega (arith, few, b));
    other = refl;
    kind =
        ap (λ (es : List Entry). kind_in es (worker_text k)) (made_entries n threads)
        ∙ kind_behind base (workers_from 1 threads ++ main_entry ∷ []) (worker_text k) (new_worker k (omega (arith, few, b)))
        ∙ kind_before (workers_from 1 threads) (main_entry ∷ []) (worker_text k) object.Routine (is_worker 1 threads k a b (omega (arith, few, b)));
  }

-- ---- the lines of workers and of `main`

entry_count : (i count : ℕ) → length (workers_from i count) ≡ count
unfolding numbers_from
entry_count i zero = refl
entry_count i (suc count) = rw (entry_count (i + 1) count) (omega arith)

workers_last : (i count : ℕ) → workers_from i count ++ worker_entry (i + count) ∷ [] ≡ workers_from i (suc count)
unfolding numbers_from
workers_last i zero = ap (λ (k : ℕ). worker_entry k ∷ []) (omega arith)
workers_last i (suc count) =
    let e : i + suc count ≡ (i + 1) + count = omega arith in
    ap (λ (es : List Entry). worker_entry i ∷ es) (ap (λ (k : ℕ). workers_from (i + 1) count ++ worker_entry k ∷ []) e ∙ workers_last (i + 1) count)

not_many : (k : ℕ) → k ≤ 64 → nat_le 1000 (suc (suc (suc (suc k)))) ≡ false
not_many k h = grind (arith, nat_tests)

few_entries : (j : ℕ) → j ≤ 64 → nat_le 1000 (length (top_entries ++ workers_from 1 j)) ≡ false
few_entries j h = rw (entry_count 1 j) (not_many j h)

abbrev Everywhere : List (List Word) → List Entry → List (List Word) → Type 0
Everywhere whole declared rest = (locals : List (List ℕ)) → Clean whole locals 0 declared rest

clean_workers : (whole : List (List Word)) (k : Known whole) (n j count : ℕ) (rest : List (List Word)) → j + count ≤ 64 → Everywhere whole (top_entries ++ workers_from 1 (j + count)) rest
    → Everywhere whole (top_entries ++ workers_from 1 j) (workers_above n (1 + j) count rest)
unfolding workers_above
clean_workers whole k n j zero rest few h locals =
    let e : j + 0 ≡ j = omega arith in
    subst (λ (c : ℕ). Clean whole locals 0 (top_entries ++ workers_from 1 c) rest) e (h locals)
clean_workers whole k n j (suc count) rest few h locals =
    let e : j + suc count ≡ (j + 1) + count = omega arith in
    let one : suc j ≡ j + 1 = omega arith in
    let below : Everywhere whole (top_entries ++ workers_from 1 (j + 1)) (workers_above n (1 + (j + 1)) count rest) =
    clean_workers whole k n (j + 1) count rest (omega (arith, few)) (subst (λ (c : ℕ). Everywhere whole (top_entries ++ workers_from 1 c) rest) e h) in
    let next : 1 + (j + 1) ≡ (1 + j) + 1 = omega arith in
    clean_worker whole k (top_entries ++ workers_from 1 j) (worker_text (1 + j)) (rounds n (1 + j)) (share n (1 + j)) (workers_above n ((1 + j) + 1) count rest) locals
    (kind_behind base (workers_from 1 j) (worker_text (1 + j)) (new_worker (1 + j) (omega (arith, few))) ∙ not_yet 1 j (1 + j) (omega arith) (omega (arith, few)))
    (few_entries j (omega (arith, few)))
    (subst (λ (es : List Entry). Clean whole (codes "a" ∷ codes "i" ∷ []) 0 (top_entries ++ es) (workers_above n ((1 + j) + 1) count rest)) (sym (workers_last 1 j ∙ ap (workers_from 1) one))
    (subst (λ (m : ℕ). Clean whole (codes "a" ∷ codes "i" ∷ []) 0 (top_entries ++ workers_from 1 (j + 1)) (workers_above n m count rest)) next (below (codes "a" ∷ codes "i" ∷ []))))

-- The lines below the first declarations.
clean_below : (n threads : ℕ) → threads ≤ 64 → Clean (made_lines n threads) [] 0 top_entries (workers_above n 1 threads (main_lines threads))
unfolding kind_in numbers_from
clean_below n threads few =
    let all : 0 + threads ≡ threads = omega arith in
    clean_workers (made_lines n threads) (known n threads) n 0 threads (main_lines threads) (omega (arith, few))
    (subst (λ (c : ℕ). Everywhere (made_lines n threads) (top_entries ++ workers_from 1 c) (main_lines threads)) (sym all)
    (λ locals. clean_main (made_lines n threads) (known n threads) (top_entries ++ workers_from 1 threads) locals threads
    (kind_behind base (workers_from 1 threads) (codes "main") refl ∙ no_worker (codes "main") (λ k. refl) 1 threads)
    (few_entries threads few) (of_workers n threads few)))
    []

clean_top : (all rest : List (List Word)) → Clean all [] 0 top_entries rest → lines_faults all nothing_above (numbered_lines 2 (top_lines ++ rest)) ≡ []
unfolding text_words
clean_top all rest h = h _ top_lines refl

words_again : (at : ℕ) (ls : List (List Word)) → words_in (numbered_lines at ls) ≡ ls
unfolding numbered_lines
words_again at [] = refl
words_again at (l ∷ ls) = ap (λ (r : List (List Word)). l ∷ r) (words_again (at + 1) ls)

main_is_declared : (n threads : ℕ) → has_main (made_lines n threads) ≡ true
main_is_declared n threads = ap (λ (k : Option kinds.Object). is_of_kind object.Routine (sense_of_kind k)) (main_is_there n threads)

-- A made script's own lines have no fault of names and limits.
pub made_names_well : (n threads end : ℕ) → threads ≤ 64 → end ≤ 20001 → name_faults end (numbered_lines 2 (made_lines n threads)) ≡ []
unfolding name_faults
made_names_well n threads end few short =
    let within : nat_le end 20001 ≡ true = grind (arith, nat_tests) in
    let same : words_in (numbered_lines 2 (made_lines n threads)) ≡ made_lines n threads = words_again 2 (made_lines n threads) in
    rw (within, same, main_is_declared n threads, clean_top (made_lines n threads) (workers_above n 1 threads (main_lines threads)) (clean_below n threads few)) refl
