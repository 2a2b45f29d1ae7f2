-- Lines in which the second pass finds no fault nest.
use Rattle.std.proofs.Common.{◌≡◌, ℕ, Bool, true, false, List, [], ◌∷◌, ◌++◌, map, refl, ap}
use Rattle.thr_text.specs.declared.block.Block.{Block}
use Rattle.thr_text.specs.declared.block.Shape.{Shape}
use Rattle.thr_text.specs.Faults.{when}
use Rattle.thr_text.specs.Blocks.{Line, is_inside, is_outside, is_after_catch_all, is_beside_finally, is_without_clause, leaves_a_try, is_uncaught, misfits, nesting_faults, blocks_below, shape_of_line, mentions_this, at_line, is_open, block_faults, Nest}
use Rattle.thr_blocks.specs.Placement.{KeepExceptions}

first_nil : {A : Type 0} (xs ys : List A) → xs ++ ys ≡ [] → xs ≡ []
first_nil [] ys e = refl
first_nil (x ∷ xs) ys e = absurd cc

second_nil : {A : Type 0} (xs ys : List A) → xs ++ ys ≡ [] → ys ≡ []
second_nil [] ys e = e
second_nil (x ∷ xs) ys e = absurd cc

none_at : (line : ℕ) (ns : List ℕ) → at_line line ns ≡ [] → ns ≡ []
none_at line [] e = refl
none_at line (n ∷ ns) e = absurd cc

first_five : (a b c d e f g : List ℕ) → a ++ (b ++ (c ++ (d ++ (e ++ (f ++ g))))) ≡ [] → a ++ (b ++ (c ++ (d ++ e))) ≡ []
first_five [] [] [] [] [] f g h = refl
first_five [] [] [] [] (x ∷ e) f g h = absurd cc
first_five [] [] [] (x ∷ d) e f g h = absurd cc
first_five [] [] (x ∷ c) d e f g h = absurd cc
first_five [] (x ∷ b) c d e f g h = absurd cc
first_five (x ∷ a) b c d e f g h = absurd cc

no_misfit : (bs : List Block) (shape : Shape) (this : Bool) → misfits bs shape this ≡ [] → nesting_faults bs shape ≡ []
unfolding misfits
no_misfit bs shape this h =
    first_five (when (is_inside bs shape) 8) (when (is_outside bs shape) 9) (when (is_after_catch_all bs shape) 10) (when (is_beside_finally bs shape) 11) (when (is_without_clause bs shape) 12)
    (when (leaves_a_try bs shape) 13) (when (is_uncaught bs shape this) 14) h

all_closed : (end : ℕ) (bs : List Block) → at_line end (when (is_open bs) 8) ≡ [] → bs ≡ []
all_closed end [] h = refl
all_closed end (b ∷ bs) h = absurd cc

nest_below : (end : ℕ) (bs : List Block) (ls : List Line) → block_faults end bs ls ≡ [] → Nest bs (map (λ l. shape_of_line l.1) ls)
unfolding block_faults
nest_below end bs [] h = all_closed end bs h
nest_below end bs (l ∷ ls) h =
    let own : List (ℕ × ℕ) = at_line l.0 (misfits bs (shape_of_line l.1) (mentions_this l.1)) in
    let rest : List (ℕ × ℕ) = block_faults end (blocks_below bs (shape_of_line l.1)) ls in (
      no_misfit bs (shape_of_line l.1) (mentions_this l.1) (none_at l.0 (misfits bs (shape_of_line l.1) (mentions_this l.1)) (first_nil own rest h)),
      nest_below end (blocks_below bs (shape_of_line l.1)) ls (second_nil own rest h),
    )

pub faultless : (end : ℕ) (ls : List Line) → block_faults end [] ls ≡ [] → Nest [] (map (λ l. shape_of_line l.1) ls)
faultless end ls h = nest_below end [] ls h

-- ---- the other two faults, and the other way

last_two : (a b c d e f g : List ℕ) → a ++ (b ++ (c ++ (d ++ (e ++ (f ++ g))))) ≡ [] → (f ≡ []) × (g ≡ [])
last_two [] [] [] [] [] f g h = (first_nil f g h, second_nil f g h)
last_two [] [] [] [] (x ∷ e) f g h = absurd cc
last_two [] [] [] (x ∷ d) e f g h = absurd cc
last_two [] [] (x ∷ c) d e f g h = absurd cc
last_two [] (x ∷ b) c d e f g h = absurd cc
last_two (x ∷ a) b c d e f g h = absurd cc

not_when : (b : Bool) (n : ℕ) → when b n ≡ [] → b ≡ false
not_when true n e = absurd cc
not_when false n e = refl

all_seven : (a b c d e f g : List ℕ) → a ++ (b ++ (c ++ (d ++ e))) ≡ [] → f ≡ [] → g ≡ [] → a ++ (b ++ (c ++ (d ++ (e ++ (f ++ g))))) ≡ []
all_seven [] [] [] [] [] [] [] h i j = refl
all_seven [] [] [] [] [] [] (x ∷ g) h i j = absurd cc
all_seven [] [] [] [] [] (x ∷ f) g h i j = absurd cc
all_seven [] [] [] [] (x ∷ e) f g h i j = absurd cc
all_seven [] [] [] (x ∷ d) e f g h i j = absurd cc
all_seven [] [] (x ∷ c) d e f g h i j = absurd cc
all_seven [] (x ∷ b) c d e f g h i j = absurd cc
all_seven (x ∷ a) b c d e f g h i j = absurd cc

keeps : (bs : List Block) (shape : Shape) (this : Bool) → misfits bs shape this ≡ [] → (leaves_a_try bs shape ≡ false) × (is_uncaught bs shape this ≡ false)
unfolding misfits
keeps bs shape this h =
    let two = last_two (when (is_inside bs shape) 8) (when (is_outside bs shape) 9) (when (is_after_catch_all bs shape) 10) (when (is_beside_finally bs shape) 11) (when (is_without_clause bs shape) 12)
    (when (leaves_a_try bs shape) 13) (when (is_uncaught bs shape this) 14) h in
    (not_when (leaves_a_try bs shape) 13 two.0, not_when (is_uncaught bs shape this) 14 two.1)

when_false : (b : Bool) (n : ℕ) → b ≡ false → when b n ≡ []
when_false true n e = absurd cc
when_false false n e = refl

fits : (bs : List Block) (shape : Shape) (this : Bool) → nesting_faults bs shape ≡ [] → leaves_a_try bs shape ≡ false → is_uncaught bs shape this ≡ false → misfits bs shape this ≡ []
unfolding misfits
fits bs shape this h leaves uncaught =
    all_seven (when (is_inside bs shape) 8) (when (is_outside bs shape) 9) (when (is_after_catch_all bs shape) 10) (when (is_beside_finally bs shape) 11) (when (is_without_clause bs shape) 12)
    (when (leaves_a_try bs shape) 13) (when (is_uncaught bs shape this) 14) h (when_false (leaves_a_try bs shape) 13 leaves) (when_false (is_uncaught bs shape this) 14 uncaught)

pub keep_below : (end : ℕ) (bs : List Block) (ls : List Line) → block_faults end bs ls ≡ [] → KeepExceptions bs ls
unfolding block_faults
keep_below end bs [] h = tt
keep_below end bs (l ∷ ls) h =
    let own : List (ℕ × ℕ) = at_line l.0 (misfits bs (shape_of_line l.1) (mentions_this l.1)) in
    let rest : List (ℕ × ℕ) = block_faults end (blocks_below bs (shape_of_line l.1)) ls in
    let k = keeps bs (shape_of_line l.1) (mentions_this l.1) (none_at l.0 (misfits bs (shape_of_line l.1) (mentions_this l.1)) (first_nil own rest h)) in
    (k.0, k.1, keep_below end (blocks_below bs (shape_of_line l.1)) ls (second_nil own rest h))

pub faultless_below : (end : ℕ) (bs : List Block) (ls : List Line) → Nest bs (map (λ l. shape_of_line l.1) ls) → KeepExceptions bs ls → block_faults end bs ls ≡ []
unfolding block_faults
faultless_below end bs [] n k = ap (λ (x : List Block). at_line end (when (is_open x) 8)) n
faultless_below end bs (l ∷ ls) n k =
    let none = fits bs (shape_of_line l.1) (mentions_this l.1) n.0 k.0 k.1 in
    let more = faultless_below end (blocks_below bs (shape_of_line l.1)) ls n.1 k.2 in
    rw (none, more) refl
