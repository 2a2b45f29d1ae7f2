-- The lines of made scripts have forms and their numbers 64 bits.
use Rattle.std.proofs.Common.{◌≡◌, ℕ, zero, suc, ◌+◌, ◌<◌, ◌≤◌, pos, List, [], ◌∷◌, ◌++◌, map, None, true, refl, arith}
use Rattle.std.specs.Prelude.{FitsSigned}
use Rattle.std.specs.Int.{w64}
use Rattle.thr_syntax.specs.declared.tree.Item.{Item}
use Rattle.thr_syntax.specs.declared.tree.Stmt.{Stmt}
use Rattle.thr_syntax.specs.declared.form.Form.{Form}
use Rattle.thr_syntax.specs.declared.form.Form.TheVariants as form
use Rattle.thr_syntax.specs.Computing.{tree_words}
use Rattle.thr_syntax.specs.Folds.{each_expr, each_stmt}
use Rattle.thr_syntax.specs.Lines.{joined, body_lines, item_lines, lines_of}
use Rattle.thr_text.specs.declared.word.Word.{Word}
use Rattle.thr_text.specs.Computing.{text_words}
use Rattle.thr_text.specs.Names.{is_name}
use Rattle.thr_text.specs.Slots.{form_fault}
use Rattle.thr_text.specs.Numbers.{HaveNumbers}
use Rattle.thr_text.specs.Reading.{HaveForms}
use Rattle.thr_verdict.specs.Made.{made, worker_text, worker_routine, main_routine, create_worker, join_workers, numbers_from, rounds, share}
use Rattle.thr_made.proofs.Words.{routine_line, create_line, named_well, routine_short, create_short, less_short, at_most_short, total_short}
use Rattle.thr_made.proofs.Lines.{top_lines, worker_lines, main_head, main_rest, main_lines, made_lines, workers_above, creates_above}

-- ---- forms

routine_formed : (w : List ℕ) → is_name w ≡ true → form_fault (routine_line w) ≡ None
unfolding text_words
routine_formed w n = rw n refl

create_formed : (w : List ℕ) → is_name w ≡ true → form_fault (create_line w) ≡ None
unfolding text_words
create_formed w n = rw n refl

worker_formed : (i r q : ℕ) (rest : List (List Word)) → i < 65 → r < 501 → q < 501 → HaveForms rest → HaveForms (worker_lines (worker_text i) r q ++ rest)
unfolding text_words
worker_formed i r q rest few a b h = ((
  routine_formed (worker_text i) (named_well i few),
  routine_short i few,
  (
    refl,
    refl,
    (
      refl,
      refl,
      (
        refl,
        less_short r a,
        (
          refl,
          refl,
          (
            refl,
            refl,
            (
              refl,
              total_short q b,
              (
                refl,
                refl,
                (
                  refl,
                  refl,
                  (
                    refl,
                    refl,
                    (
                      refl,
                      refl,
                      (
                        refl,
                        refl,
                        (
                          refl,
                          refl,
                          (
                            refl,
                            refl,
                            (
                              refl,
                              refl,
                              (
                                refl,
                                refl,
                                (
                                  refl,
                                  refl,
                                  (
                                    refl,
                                    refl,
                                    (refl, refl, h),
                                  ),
                                ),
                              ),
                            ),
                          ),
                        ),
                      ),
                    ),
                  ),
                ),
              ),
            ),
          ),
        ),
      ),
    ),
  ),
)
    )

workers_formed : (n i count : ℕ) (rest : List (List Word)) → i + count ≤ 65 → HaveForms rest → HaveForms (workers_above n i count rest)
unfolding workers_above
workers_formed n i zero rest few h = h
workers_formed n i (suc count) rest few h =
    worker_formed i (rounds n i) (share n i) (workers_above n (i + 1) count rest) (omega (arith, few)) (omega arith) (omega arith) (workers_formed n (i + 1) count rest (omega (arith, few)) h)

creates_formed : (i count : ℕ) (rest : List (List Word)) → i + count ≤ 65 → HaveForms rest → HaveForms (creates_above i count rest)
unfolding creates_above
creates_formed i zero rest few h = h
creates_formed i (suc count) rest few h =
    (create_formed (worker_text i) (named_well i (omega (arith, few))), create_short i (omega (arith, few)), creates_formed (i + 1) count rest (omega (arith, few)) h)

rest_formed : (z : ℕ) → z < 501 → HaveForms (main_rest z)
unfolding text_words
rest_formed z h = (refl, refl, (refl, at_most_short z h, (refl, refl, (refl, refl, (refl, refl, (refl, refl, (refl, refl, tt)))))))

head_formed : (rest : List (List Word)) → HaveForms rest → HaveForms (main_head ++ rest)
unfolding text_words
head_formed rest h = (refl, refl, (refl, refl, (refl, refl, (refl, refl, h))))

top_formed : (rest : List (List Word)) → HaveForms rest → HaveForms (top_lines ++ rest)
unfolding text_words
top_formed rest h = (refl, refl, (refl, refl, (refl, refl, (refl, refl, (refl, refl, h)))))

pub made_forms : (n threads : ℕ) → threads ≤ 64 → HaveForms (made_lines n threads)
made_forms n threads few =
    top_formed (workers_above n 1 threads (main_lines threads))
    (workers_formed n 1 threads (main_lines threads) (omega (arith, few))
    (head_formed (creates_above 1 threads (main_rest (threads + 1)))
    (creates_formed 1 threads (main_rest (threads + 1)) (omega (arith, few)) (rest_formed (threads + 1) (omega (arith, few))))))

-- ---- numbers

fits : (n : ℕ) → n < 2000000 → FitsSigned w64 (pos n)
fits n h = omega (arith, h)

numbers_both : (xs ys : List Form) → HaveNumbers xs → HaveNumbers ys → HaveNumbers (xs ++ ys)
numbers_both [] ys a b = b
numbers_both (x ∷ xs) ys a b = (a.0, numbers_both xs ys a.1 b)

worker_numbers : (i r q : ℕ) → r < 501 → q < 501 → HaveNumbers (item_lines (worker_routine i r q))
unfolding tree_words each_expr each_stmt
worker_numbers i r q a b =
    let f0 = fits 0 (omega arith) in
    let f1 = fits 1 (omega arith) in
    (tt, (tt, ((f0, tt), ((fits r (omega (arith, a)), tt), (tt, (tt, ((fits q (omega (arith, b)), tt), (tt, ((fits 7 (omega arith), (f0, tt)), (tt, (tt, (tt, (tt, ((f1, tt), (tt, (tt, ((f1, tt), (tt, (tt, tt)))))))))))))))))))

workers_numbers : (n i count : ℕ) (items : List Item) → HaveNumbers (joined (map item_lines items)) → HaveNumbers (joined (map item_lines (map (λ k. worker_routine k (rounds n k) (share n k)) (numbers_from i count) ++ items)))
unfolding numbers_from
workers_numbers n i zero items h = h
workers_numbers n i (suc count) items h =
    numbers_both (item_lines (worker_routine i (rounds n i) (share n i))) (joined (map item_lines (map (λ k. worker_routine k (rounds n k) (share n k)) (numbers_from (i + 1) count) ++ items)))
    (worker_numbers i (rounds n i) (share n i) (omega arith) (omega arith)) (workers_numbers n (i + 1) count items h)

creates_numbers : (i count : ℕ) (stmts : List Stmt) (fs : List Form) → HaveNumbers (body_lines stmts ++ fs) → HaveNumbers (body_lines (map create_worker (numbers_from i count) ++ stmts) ++ fs)
unfolding numbers_from tree_words each_expr each_stmt
creates_numbers i zero stmts fs h = h
creates_numbers i (suc count) stmts fs h = ((fits 0 (omega arith), tt), creates_numbers (i + 1) count stmts fs h)

rest_numbers : (threads : ℕ) → threads ≤ 64 → HaveNumbers (body_lines (join_workers threads) ++ form.End ∷ [])
unfolding tree_words each_expr each_stmt
rest_numbers threads few = ((fits 2 (omega arith), tt), ((fits (threads + 1) (omega (arith, few)), tt), (tt, (tt, ((fits 1 (omega arith), tt), (tt, (tt, tt)))))))

main_numbers : (threads : ℕ) → threads ≤ 64 → HaveNumbers (item_lines (main_routine threads))
unfolding tree_words each_expr each_stmt
main_numbers threads few = (tt, (tt, (tt, (tt, creates_numbers 1 threads (join_workers threads) (form.End ∷ []) (rest_numbers threads few)))))

pub made_numbers : (n threads : ℕ) → threads ≤ 64 → HaveNumbers (lines_of (made n threads))
made_numbers n threads few = (
  tt,
  (
    (fits 1000000 (omega arith), tt),
    (
      tt,
      (
        tt,
        (
          (fits 0 (omega arith), tt),
          (
            (fits 0 (omega arith), tt),
            workers_numbers n 1 threads (main_routine threads ∷ []) (numbers_both (item_lines (main_routine threads)) [] (main_numbers threads few) tt),
          ),
        ),
      ),
    ),
  ),
)
