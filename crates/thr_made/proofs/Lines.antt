-- The lines of made scripts, and that they nest.
use Rattle.std.proofs.Common.{◌≡◌, ℕ, zero, suc, ◌+◌, List, [], ◌∷◌, ◌++◌, codes, refl}
use Rattle.thr_text.specs.declared.word.Word.{Word}
use Rattle.thr_text.specs.declared.word.Word.TheVariants.{Name, Mark}
use Rattle.thr_text.specs.declared.block.Block.{Block}
use Rattle.thr_text.specs.declared.block.Block.TheVariants.{Statements}
use Rattle.thr_text.specs.Computing.{text_words}
use Rattle.thr_text.specs.Blocks.{block_faults}
use Rattle.thr_text.specs.Reading.{numbered_lines}
use Rattle.thr_verdict.specs.Made.{worker_text, rounds, share}
use Rattle.thr_made.proofs.Words.{number, routine_line, create_line, while_line, add_line}

abbrev pub word : List ℕ → List Word
word text = Name text ∷ []

abbrev pub named : List ℕ → List ℕ → List Word
named head x = Name head ∷ Name x ∷ []

-- The lines of a worker of this name, with so many rounds and this share.
abbrev pub worker_lines : List ℕ → ℕ → ℕ → List (List Word)
worker_lines w r q =
    routine_line w
    ∷ named (codes "local") (codes "i")
    ∷ (Name (codes "set") ∷ Name (codes "i") ∷ number 0 ∷ [])
    ∷ while_line (codes "<") r
    ∷ word (codes "try")
    ∷ named (codes "pthread_mutex_lock") (codes "m")
    ∷ add_line (codes "total") q
    ∷ named (codes "pthread_mutex_unlock") (codes "m")
    ∷ (Name (codes "if") ∷ Mark (codes "==") ∷ Mark (codes "%") ∷ Name (codes "i") ∷ number 7 ∷ number 0 ∷ [])
    ∷ named (codes "raise") (codes "odd")
    ∷ word (codes "end")
    ∷ named (codes "catch") (codes "odd")
    ∷ named (codes "pthread_mutex_lock") (codes "m")
    ∷ add_line (codes "caught") 1
    ∷ named (codes "pthread_mutex_unlock") (codes "m")
    ∷ word (codes "endtry")
    ∷ add_line (codes "i") 1
    ∷ word (codes "end")
    ∷ word (codes "end")
    ∷ []

-- The lines that stand above all routines, but for the first.
abbrev pub top_lines : List (List Word)
top_lines =
    (Name (codes "limit") ∷ number 1000000 ∷ [])
    ∷ named (codes "mutex") (codes "m")
    ∷ named (codes "exception") (codes "odd")
    ∷ (Name (codes "shared") ∷ Name (codes "total") ∷ number 0 ∷ [])
    ∷ (Name (codes "shared") ∷ Name (codes "caught") ∷ number 0 ∷ [])
    ∷ []

-- The lines of `main` above those that make the threads.
abbrev pub main_head : List (List Word)
main_head =
    routine_line (codes "main")
    ∷ named (codes "local") (codes "i")
    ∷ named (codes "local") (codes "v")
    ∷ (Name (codes "pthread_mutex_init") ∷ Name (codes "m") ∷ Name (codes "default") ∷ [])
    ∷ []

-- Those below.
abbrev pub main_rest : ℕ → List (List Word)
main_rest z =
    (Name (codes "set") ∷ Name (codes "i") ∷ number 2 ∷ [])
    ∷ while_line (codes "<=") z
    ∷ (Name (codes "pthread_join") ∷ Name (codes "i") ∷ Name (codes "v") ∷ [])
    ∷ (Name (codes "pthread_detach") ∷ Name (codes "i") ∷ [])
    ∷ add_line (codes "i") 1
    ∷ word (codes "end")
    ∷ word (codes "end")
    ∷ []

-- The lines of so many workers from this one on, above other lines.
unfoldable pub workers_above : ℕ → ℕ → ℕ → List (List Word) → List (List Word)
workers_above n i zero rest = rest
workers_above n i (suc count) rest = worker_lines (worker_text i) (rounds n i) (share n i) ++ workers_above n (i + 1) count rest

-- The lines that make the threads of so many workers from this one on, above other lines.
unfoldable pub creates_above : ℕ → ℕ → List (List Word) → List (List Word)
creates_above i zero rest = rest
creates_above i (suc count) rest = create_line (worker_text i) ∷ creates_above (i + 1) count rest

abbrev pub main_lines : ℕ → List (List Word)
main_lines threads = main_head ++ creates_above 1 threads (main_rest (threads + 1))

-- All lines but the first.
abbrev pub made_lines : ℕ → ℕ → List (List Word)
made_lines n threads = top_lines ++ workers_above n 1 threads (main_lines threads)

-- ---- blocks

abbrev pub AreNested : ℕ → List Block → List (List Word) → Type 0
AreNested end bs lines = (at : ℕ) → block_faults end bs (numbered_lines at lines) ≡ []

pub nested_top : (end : ℕ) (rest : List (List Word)) → AreNested end [] rest → AreNested end [] (top_lines ++ rest)
unfolding text_words
nested_top end rest h at = h _

pub nested_worker : (end : ℕ) (i r q : ℕ) (rest : List (List Word)) → AreNested end [] rest → AreNested end [] (worker_lines (worker_text i) r q ++ rest)
unfolding text_words
nested_worker end i r q rest h at = h _

nested_create : (end i : ℕ) (rest : List (List Word)) → AreNested end (Statements ∷ []) rest → AreNested end (Statements ∷ []) (create_line (worker_text i) ∷ rest)
unfolding text_words
nested_create end i rest h at = h _

nested_creates : (end i count : ℕ) (rest : List (List Word)) → AreNested end (Statements ∷ []) rest → AreNested end (Statements ∷ []) (creates_above i count rest)
unfolding creates_above
nested_creates end i zero rest h = h
nested_creates end i (suc count) rest h = nested_create end i (creates_above (i + 1) count rest) (nested_creates end (i + 1) count rest h)

nested_head : (end : ℕ) (rest : List (List Word)) → AreNested end (Statements ∷ []) rest → AreNested end [] (main_head ++ rest)
unfolding text_words
nested_head end rest h at = h _

nested_rest : (end z : ℕ) → AreNested end (Statements ∷ []) (main_rest z)
unfolding text_words
nested_rest end z at = refl

nested_workers : (end n i count : ℕ) (rest : List (List Word)) → AreNested end [] rest → AreNested end [] (workers_above n i count rest)
unfolding workers_above
nested_workers end n i zero rest h = h
nested_workers end n i (suc count) rest h =
    nested_worker end i (rounds n i) (share n i) (workers_above n (i + 1) count rest) (nested_workers end n (i + 1) count rest h)

-- The lines of a made script nest.
pub made_lines_nest : (end n threads : ℕ) → AreNested end [] (made_lines n threads)
made_lines_nest end n threads =
    nested_top end (workers_above n 1 threads (main_lines threads))
    (nested_workers end n 1 threads (main_lines threads)
    (nested_head end (creates_above 1 threads (main_rest (threads + 1))) (nested_creates end 1 threads (main_rest (threads + 1)) (nested_rest end (threads + 1)))))
