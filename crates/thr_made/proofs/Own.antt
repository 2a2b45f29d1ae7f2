-- The own lines of made scripts, word by word.
use Rattle.std.proofs.Common.{◌≡◌, ℕ, zero, suc, ◌+◌, ◌-◌, ◌<◌, ◌≤◌, pos, List, [], ◌∷◌, ◌++◌, map, codes, refl, sym, ap, ◌∙◌, arith, append_assoc, append-nil, drop}
use Rattle.std.proofs.lemmas.List.{map-append}
use Rattle.std.specs.Fmt.{decimal, signed_decimal}
use Rattle.thr_values.specs.Exceptions.{builtin_names}
use Rattle.thr_values.specs.Words.{call_word}
use Rattle.thr_syntax.specs.declared.tree.Item.{Item}
use Rattle.thr_syntax.specs.Computing.{tree_words}
use Rattle.thr_syntax.specs.Folds.{each_expr, each_stmt}
use Rattle.thr_syntax.specs.declared.form.Form.{Form}
use Rattle.thr_syntax.specs.declared.form.Form.TheVariants as form
use Rattle.thr_syntax.specs.declared.tree.Stmt.{Stmt}
use Rattle.thr_syntax.specs.Lines.{joined, stmt_lines, body_lines}
use Rattle.thr_syntax.specs.Spelling.{Scope, name_at, form_words}
use Rattle.thr_syntax.specs.Canon.{item_words, script_words}
use Rattle.thr_text.specs.declared.word.Word.{Word}
use Rattle.thr_text.specs.declared.word.Word.TheVariants.{Num, Name}
use Rattle.thr_text.specs.Names.{has_name_form}
use Rattle.thr_text.specs.Lexing.{word_of, has_number_form, magnitude}
use Rattle.thr_text.specs.Reading.{own_lines}
use Rattle.thr_resolving.proofs.AgainWords.{number_word, name_word}
use Rattle.thr_verdict.specs.Made.{made, made_names, worker_text, worker_routine, main_routine, create_worker, join_workers, numbers_from, rounds, share}
use Rattle.thr_made.proofs.Words.{named_well, create_line}
use Rattle.thr_made.proofs.Lines.{top_lines, worker_lines, main_head, main_rest, main_lines, made_lines, workers_above, creates_above}

abbrev as_words : List (List (List ℕ)) → List (List Word)
as_words = map (map word_of)

abbrev lines_in : List (List ℕ) → List Item → List (List Word)
lines_in names items = as_words (joined (map (item_words names) items))

number_is : (n : ℕ) → n < 1000000 → word_of (signed_decimal (pos n)) ≡ Num (pos n)
number_is n h = number_word (pos n) (omega (arith, h))

-- The texts of the words of a worker's lines, where its number of rounds and its share have these texts.
worker_texts : (w r q none one seven : List ℕ) → List (List (List ℕ))
worker_texts w r q none one seven =
    (codes "routine" ∷ w ∷ codes "a" ∷ [])
    ∷ (codes "local" ∷ codes "i" ∷ [])
    ∷ (codes "set" ∷ codes "i" ∷ none ∷ [])
    ∷ (codes "while" ∷ codes "<" ∷ codes "i" ∷ r ∷ [])
    ∷ (codes "try" ∷ [])
    ∷ (codes "pthread_mutex_lock" ∷ codes "m" ∷ [])
    ∷ (codes "set" ∷ codes "total" ∷ codes "+" ∷ codes "total" ∷ q ∷ [])
    ∷ (codes "pthread_mutex_unlock" ∷ codes "m" ∷ [])
    ∷ (codes "if" ∷ codes "==" ∷ codes "%" ∷ codes "i" ∷ seven ∷ none ∷ [])
    ∷ (codes "raise" ∷ codes "odd" ∷ [])
    ∷ (codes "end" ∷ [])
    ∷ (codes "catch" ∷ codes "odd" ∷ [])
    ∷ (codes "pthread_mutex_lock" ∷ codes "m" ∷ [])
    ∷ (codes "set" ∷ codes "caught" ∷ codes "+" ∷ codes "caught" ∷ one ∷ [])
    ∷ (codes "pthread_mutex_unlock" ∷ codes "m" ∷ [])
    ∷ (codes "endtry" ∷ [])
    ∷ (codes "set" ∷ codes "i" ∷ codes "+" ∷ codes "i" ∷ one ∷ [])
    ∷ (codes "end" ∷ [])
    ∷ (codes "end" ∷ [])
    ∷ []

worker_spelled : (threads i r q : ℕ) → name_at (made_names threads) (13 + i) ≡ worker_text i
    → item_words (made_names threads) (worker_routine i r q) ≡ worker_texts (worker_text i) (signed_decimal (pos r)) (signed_decimal (pos q)) (signed_decimal (pos 0)) (signed_decimal (pos 1)) (signed_decimal (pos 7))
unfolding worker_texts tree_words each_expr each_stmt call_word
worker_spelled threads i r q named = rw named refl

worker_words : (w a b z o t : List ℕ) (r q : ℕ) → word_of w ≡ Name w → word_of a ≡ Num (pos r) → word_of b ≡ Num (pos q) → word_of z ≡ Num (pos 0) → word_of o ≡ Num (pos 1) → word_of t ≡ Num (pos 7)
    → as_words (worker_texts w a b z o t) ≡ worker_lines w r q
unfolding worker_texts word_of has_number_form has_name_form magnitude
worker_words w a b z o t r q n e f g h k = rw (n, e, f, g, h, k) refl

both_parts : (xs ys : List (List (List ℕ))) → as_words (xs ++ ys) ≡ as_words xs ++ as_words ys
both_parts xs ys = map-append (map word_of) xs ys

-- The lines of a worker above those of other declarations.
worker_own : (threads i r q : ℕ) (items : List Item) → name_at (made_names threads) (13 + i) ≡ worker_text i → i < 65 → r < 1000000 → q < 1000000
    → lines_in (made_names threads) (worker_routine i r q ∷ items) ≡ worker_lines (worker_text i) r q ++ lines_in (made_names threads) items
worker_own threads i r q items named few a b =
    both_parts (item_words (made_names threads) (worker_routine i r q)) (joined (map (item_words (made_names threads)) items))
    ∙ ap (λ (ls : List (List Word)). ls ++ lines_in (made_names threads) items)
    (ap as_words (worker_spelled threads i r q named)
    ∙ worker_words (worker_text i) (signed_decimal (pos r)) (signed_decimal (pos q)) (signed_decimal (pos 0)) (signed_decimal (pos 1)) (signed_decimal (pos 7)) r q
    (name_word (worker_text i) (named_well i few)) (number_is r a) (number_is q b) (number_is 0 (omega arith)) (number_is 1 (omega arith)) (number_is 7 (omega arith)))

-- ---- names by their places

nth_worker : (i count k : ℕ) (rest : List (List ℕ)) → k < count → name_at (map worker_text (numbers_from i count) ++ rest) k ≡ worker_text (i + k)
unfolding numbers_from
nth_worker i zero k rest h = absurd (omega arith)
nth_worker i (suc count) zero rest h = ap worker_text (omega arith)
nth_worker i (suc count) (suc k) rest h =
    let e : (i + 1) + k ≡ i + suc k = omega arith in
    nth_worker (i + 1) count k rest (omega arith) ∙ ap worker_text e

past_workers : (i count : ℕ) (x : List ℕ) → name_at (map worker_text (numbers_from i count) ++ x ∷ []) count ≡ x
unfolding numbers_from
past_workers i zero x = refl
past_workers i (suc count) x = past_workers (i + 1) count x

-- Past the names that stand above the workers.
past_fourteen : (names : List (List ℕ)) (k : ℕ) → name_at (builtin_names ++ codes "m" ∷ codes "odd" ∷ codes "total" ∷ codes "caught" ∷ names) (suc (suc (suc (suc (suc (suc (suc (suc (suc (suc (suc (suc (suc (suc k)))))))))))))) ≡ name_at names k
past_fourteen names k = refl

worker_named : (threads i : ℕ) → 1 ≤ i → i ≤ threads → name_at (made_names threads) (13 + i) ≡ worker_text i
worker_named threads i a b =
    let e : 13 + i ≡ suc (suc (suc (suc (suc (suc (suc (suc (suc (suc (suc (suc (suc (suc (i - 1)))))))))))))) = omega (arith, a) in
    let f : 1 + (i - 1) ≡ i = omega (arith, a) in
    ap (name_at (made_names threads)) e
    ∙ past_fourteen (map worker_text (numbers_from 1 threads) ++ codes "main" ∷ []) (i - 1)
    ∙ nth_worker 1 threads (i - 1) (codes "main" ∷ []) (omega (arith, a, b)) ∙ ap worker_text f

main_named : (threads : ℕ) → name_at (made_names threads) (14 + threads) ≡ codes "main"
main_named threads =
    let e : 14 + threads ≡ suc (suc (suc (suc (suc (suc (suc (suc (suc (suc (suc (suc (suc (suc threads))))))))))))) = omega arith in
    ap (name_at (made_names threads)) e
    ∙ past_fourteen (map worker_text (numbers_from 1 threads) ++ codes "main" ∷ []) threads
    ∙ past_workers 1 threads (codes "main")

-- ---- all lines

rounds_few : (n i : ℕ) → rounds n i < 1000000
rounds_few n i = omega arith

share_few : (n i : ℕ) → share n i < 1000000
share_few n i = omega arith

workers_own : (n threads i count : ℕ) (items : List Item) → 1 ≤ i → i + count ≤ threads + 1 → threads ≤ 64
    → lines_in (made_names threads) (map (λ k. worker_routine k (rounds n k) (share n k)) (numbers_from i count) ++ items)
    ≡ workers_above n i count (lines_in (made_names threads) items)
unfolding numbers_from workers_above
workers_own n threads i zero items a b few = refl
workers_own n threads i (suc count) items a b few =
    worker_own threads i (rounds n i) (share n i) (map (λ k. worker_routine k (rounds n k) (share n k)) (numbers_from (i + 1) count) ++ items)
    (worker_named threads i a (omega (arith, b))) (omega (arith, b, few)) (rounds_few n i) (share_few n i)
    ∙ ap (λ (ls : List (List Word)). worker_lines (worker_text i) (rounds n i) (share n i) ++ ls)
    (workers_own n threads (i + 1) count items (omega arith) (omega (arith, b)) few)

-- ---- `main`

create_texts : (w none : List ℕ) → List (List ℕ)
create_texts w none = codes "pthread_create" ∷ codes "v" ∷ codes "default" ∷ w ∷ none ∷ []

head_texts : List (List (List ℕ))
head_texts =
    (codes "routine" ∷ codes "main" ∷ codes "a" ∷ [])
    ∷ (codes "local" ∷ codes "i" ∷ [])
    ∷ (codes "local" ∷ codes "v" ∷ [])
    ∷ (codes "pthread_mutex_init" ∷ codes "m" ∷ codes "default" ∷ [])
    ∷ []

rest_texts : (z one two : List ℕ) → List (List (List ℕ))
rest_texts z one two =
    (codes "set" ∷ codes "i" ∷ two ∷ [])
    ∷ (codes "while" ∷ codes "<=" ∷ codes "i" ∷ z ∷ [])
    ∷ (codes "pthread_join" ∷ codes "i" ∷ codes "v" ∷ [])
    ∷ (codes "pthread_detach" ∷ codes "i" ∷ [])
    ∷ (codes "set" ∷ codes "i" ∷ codes "+" ∷ codes "i" ∷ one ∷ [])
    ∷ (codes "end" ∷ [])
    ∷ (codes "end" ∷ [])
    ∷ []

head_words : as_words head_texts ≡ main_head
unfolding head_texts word_of has_number_form has_name_form magnitude
head_words = refl

rest_words : (z one two : List ℕ) (n : ℕ) → word_of z ≡ Num (pos n) → word_of one ≡ Num (pos 1) → word_of two ≡ Num (pos 2) → as_words (rest_texts z one two) ≡ main_rest n
unfolding rest_texts word_of has_number_form has_name_form magnitude
rest_words z one two n a b c = rw (a, b, c) refl

create_words : (w none : List ℕ) → word_of w ≡ Name w → word_of none ≡ Num (pos 0) → map word_of (create_texts w none) ≡ create_line w
unfolding create_texts word_of has_number_form has_name_form magnitude
create_words w none a b = rw (a, b) refl

abbrev main_scope : ℕ → Scope
main_scope threads = record { names = made_names threads; locals = codes "a" ∷ codes "i" ∷ codes "v" ∷ [] }

create_spelled : (threads i : ℕ) → name_at (made_names threads) (13 + i) ≡ worker_text i
    → map (form_words (main_scope threads)) (stmt_lines (create_worker i)) ≡ create_texts (worker_text i) (signed_decimal (pos 0)) ∷ []
unfolding create_texts tree_words each_expr each_stmt call_word
create_spelled threads i named = rw named refl

spelled_parts : (scope : Scope) (xs ys : List Form) → map (form_words scope) (xs ++ ys) ≡ map (form_words scope) xs ++ map (form_words scope) ys
spelled_parts scope xs ys = map-append (form_words scope) xs ys

creates_own : (threads i count : ℕ) (fs : List Form) → 1 ≤ i → i + count ≤ threads + 1 → threads ≤ 64
    → as_words (map (form_words (main_scope threads)) (body_lines (map create_worker (numbers_from i count)) ++ fs)) ≡ creates_above i count (as_words (map (form_words (main_scope threads)) fs))
unfolding numbers_from creates_above
creates_own threads i zero fs a b few = refl
creates_own threads i (suc count) fs a b few =
    let more : List Form = body_lines (map create_worker (numbers_from (i + 1) count)) in
    ap (λ (ls : List Form). as_words (map (form_words (main_scope threads)) ls)) (append_assoc (stmt_lines (create_worker i)) more fs)
    ∙ ap as_words (spelled_parts (main_scope threads) (stmt_lines (create_worker i)) (more ++ fs))
    ∙ both_parts (map (form_words (main_scope threads)) (stmt_lines (create_worker i))) (map (form_words (main_scope threads)) (more ++ fs))
    ∙ ap (λ (ls : List (List (List ℕ))). as_words ls ++ as_words (map (form_words (main_scope threads)) (more ++ fs))) (create_spelled threads i (worker_named threads i a (omega (arith, b))))
    ∙ ap (λ (l : List Word). l ∷ as_words (map (form_words (main_scope threads)) (more ++ fs)))
    (create_words (worker_text i) (signed_decimal (pos 0)) (name_word (worker_text i) (named_well i (omega (arith, b, few)))) (number_is 0 (omega arith)))
    ∙ ap (λ (ls : List (List Word)). create_line (worker_text i) ∷ ls) (creates_own threads (i + 1) count fs (omega arith) (omega (arith, b)) few)

body_parts : (xs ys : List Stmt) → body_lines (xs ++ ys) ≡ body_lines xs ++ body_lines ys
body_parts [] ys = refl
body_parts (x ∷ xs) ys = ap (λ (ls : List Form). stmt_lines x ++ ls) (body_parts xs ys) ∙ sym (append_assoc (stmt_lines x) (body_lines xs) (body_lines ys))

rest_forms : ℕ → List Form
rest_forms threads = body_lines (join_workers threads) ++ form.End ∷ []

main_forms : ℕ → List Form
main_forms threads = body_lines (map create_worker (numbers_from 1 threads) ++ join_workers threads) ++ form.End ∷ []

main_forms_are : (threads : ℕ) → main_forms threads ≡ body_lines (map create_worker (numbers_from 1 threads)) ++ rest_forms threads
unfolding main_forms rest_forms
main_forms_are threads =
    ap (λ (ls : List Form). ls ++ form.End ∷ []) (body_parts (map create_worker (numbers_from 1 threads)) (join_workers threads))
    ∙ append_assoc (body_lines (map create_worker (numbers_from 1 threads))) (body_lines (join_workers threads)) (form.End ∷ [])

main_spelled : (threads : ℕ) → name_at (made_names threads) (14 + threads) ≡ codes "main"
    → item_words (made_names threads) (main_routine threads) ≡ head_texts ++ map (form_words (main_scope threads)) (main_forms threads)
unfolding main_forms head_texts tree_words each_expr each_stmt call_word
main_spelled threads named = rw named refl

rest_spelled : (threads : ℕ) → map (form_words (main_scope threads)) (rest_forms threads) ≡ rest_texts (signed_decimal (pos (threads + 1))) (signed_decimal (pos 1)) (signed_decimal (pos 2))
unfolding rest_forms rest_texts tree_words each_expr each_stmt call_word
rest_spelled threads = refl

main_own : (threads : ℕ) → threads ≤ 64 → lines_in (made_names threads) (main_routine threads ∷ []) ≡ main_lines threads
main_own threads few =
    let forms : List Form = main_forms threads in
    let scope : Scope = main_scope threads in
    ap as_words (append-nil (item_words (made_names threads) (main_routine threads)) ∙ main_spelled threads (main_named threads))
    ∙ both_parts head_texts (map (form_words scope) forms)
    ∙ ap (λ (ls : List (List Word)). ls ++ as_words (map (form_words scope) forms)) head_words
    ∙ ap (λ (fs : List Form). main_head ++ as_words (map (form_words scope) fs)) (main_forms_are threads)
    ∙ ap (λ (ls : List (List Word)). main_head ++ ls)
    (creates_own threads 1 threads (rest_forms threads) (omega arith) (omega arith) few
    ∙ ap (creates_above 1 threads)
    (ap as_words (rest_spelled threads)
    ∙ rest_words (signed_decimal (pos (threads + 1))) (signed_decimal (pos 1)) (signed_decimal (pos 2)) (threads + 1)
    (number_is (threads + 1) (omega (arith, few))) (number_is 1 (omega arith)) (number_is 2 (omega arith))))

-- ---- all lines

top_texts : (most zero_text : List ℕ) → List (List (List ℕ))
top_texts most none =
    (codes "limit" ∷ most ∷ [])
    ∷ (codes "mutex" ∷ codes "m" ∷ [])
    ∷ (codes "exception" ∷ codes "odd" ∷ [])
    ∷ (codes "shared" ∷ codes "total" ∷ none ∷ [])
    ∷ (codes "shared" ∷ codes "caught" ∷ none ∷ [])
    ∷ []

top_words : (most none : List ℕ) → word_of most ≡ Num (pos 1000000) → word_of none ≡ Num (pos 0) → as_words (top_texts most none) ≡ top_lines
unfolding top_texts word_of has_number_form has_name_form magnitude
top_words most none a b = rw (a, b) refl

top_spelled : (n threads : ℕ)
    → drop 1 (script_words (made n threads))
    ≡ top_texts (decimal 1000000) (signed_decimal (pos 0)) ++ joined (map (item_words (made_names threads)) (map (λ k. worker_routine k (rounds n k) (share n k)) (numbers_from 1 threads) ++ main_routine threads ∷ []))
unfolding top_texts
top_spelled n threads = refl

-- The own lines of a made script.
pub made_own_lines : (n threads : ℕ) → threads ≤ 64 → own_lines (made n threads) ≡ made_lines n threads
made_own_lines n threads few =
    let most : word_of (decimal 1000000) ≡ Num (pos 1000000) = number_word (pos 1000000) (omega arith) in
    ap as_words (top_spelled n threads)
    ∙ both_parts (top_texts (decimal 1000000) (signed_decimal (pos 0))) (joined (map (item_words (made_names threads)) (map (λ k. worker_routine k (rounds n k) (share n k)) (numbers_from 1 threads) ++ main_routine threads ∷ [])))
    ∙ ap (λ (ls : List (List Word)). ls ++ lines_in (made_names threads) (map (λ k. worker_routine k (rounds n k) (share n k)) (numbers_from 1 threads) ++ main_routine threads ∷ []))
    (top_words (decimal 1000000) (signed_decimal (pos 0)) most (number_is 0 (omega arith)))
    ∙ ap (λ (ls : List (List Word)). top_lines ++ ls)
    (workers_own n threads 1 threads (main_routine threads ∷ []) (omega arith) (omega arith) few
    ∙ ap (workers_above n 1 threads) (main_own threads few))
