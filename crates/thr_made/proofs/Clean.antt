-- Lines without a fault of names and limits.
use Rattle.std.proofs.Common.{◌≡◌, ℕ, ◌+◌, false, List, [], ◌∷◌, ◌++◌, Option, Some, None, refl, sym, ap, ◌∙◌, append_assoc, append-nil}
use Rattle.std.specs.List.{list_any}
use Rattle.thr_text.specs.declared.word.Word.{Word}
use Rattle.thr_text.specs.declared.head.Head.{Head}
use Rattle.thr_text.specs.declared.head.Head.TheVariants as head
use Rattle.thr_text.specs.Slots.{head_of_line}
use Rattle.thr_text.specs.Blocks.{shape_of_line}
use Rattle.thr_text.specs.Reading.{numbered_lines}
use Rattle.thr_text.specs.Tables.{Entry, placed_in, declared_in, declarations, entries_of}
use Rattle.thr_text.specs.NameFaults.{Above, same_line, is_second, is_again_word, is_undeclared, is_misused, locals_below, depth_below, passes_limit, name_misfits, lines_faults}

-- ---- what stands above

pub declared_parts : (xs ys : List (List Word)) → declarations (xs ++ ys) ≡ declarations xs ++ declarations ys
unfolding declarations
declared_parts [] ys = refl
declared_parts (l ∷ xs) ys = rw (declared_parts xs ys) (sym (append_assoc (declared_in l) (declarations xs) (declarations ys)))

declared_below : (xs : List (List Word)) (l : List Word) → declarations (xs ++ l ∷ []) ≡ declarations xs ++ (declared_in l ++ [])
unfolding declarations
declared_below xs l = declared_parts xs (l ∷ [])

-- ---- a line that is no second one of its kind

no_second_line : (h : Head) → same_line (Some head.Interface) (Some h) ≡ false → same_line (Some head.Limit) (Some h) ≡ false → (o : Option Head) → same_line o (Some h) ≡ false
no_second_line h a b None = refl
no_second_line h a b (Some head.Interface) = a
no_second_line h a b (Some head.Limit) = b
no_second_line h a b (Some head.Shared) = refl
no_second_line h a b (Some head.Exception) = refl
no_second_line h a b (Some head.Status) = refl
no_second_line h a b (Some head.Mutex) = refl
no_second_line h a b (Some head.Mutexattr) = refl
no_second_line h a b (Some head.Cond) = refl
no_second_line h a b (Some head.Attr) = refl
no_second_line h a b (Some head.Key) = refl
no_second_line h a b (Some head.Once) = refl
no_second_line h a b (Some head.Pipe) = refl
no_second_line h a b (Some head.Routine) = refl
no_second_line h a b (Some head.Local) = refl
no_second_line h a b (Some head.Set) = refl
no_second_line h a b (Some head.Say) = refl
no_second_line h a b (Some head.If) = refl
no_second_line h a b (Some head.Else) = refl
no_second_line h a b (Some head.While) = refl
no_second_line h a b (Some head.Try) = refl
no_second_line h a b (Some head.Catch) = refl
no_second_line h a b (Some head.CatchAll) = refl
no_second_line h a b (Some head.Finally) = refl
no_second_line h a b (Some head.Endtry) = refl
no_second_line h a b (Some head.Raise) = refl
no_second_line h a b (Some head.Reraise) = refl
no_second_line h a b (Some head.Call) = refl
no_second_line h a b (Some head.Return) = refl
no_second_line h a b (Some head.Exit) = refl
no_second_line h a b (Some head.End) = refl
no_second_line h a b (Some (head.Dce c)) = refl

pub no_second : (h : Head) → same_line (Some head.Interface) (Some h) ≡ false → same_line (Some head.Limit) (Some h) ≡ false → (o : Option Head) → o ≡ Some h → (ls : List (List Word)) → list_any (λ l. same_line (head_of_line l) o) ls ≡ false
no_second h a b o e [] = refl
no_second h a b o e (l ∷ ls) =
    rw (ap (same_line (head_of_line l)) e ∙ no_second_line h a b (head_of_line l), no_second h a b o e ls) refl

-- ---- a line without a fault

pub record HasNoFault (whole : List (List Word)) (above : Above) (words : List Word) : Type 0 where
  pub again : list_any (λ x. is_again_word x.0 x.1 (entries_of whole) (entries_of above.lines) above.locals) (placed_in words) ≡ false
  pub second : is_second above.lines words ≡ false
  pub declared : list_any (is_undeclared (entries_of whole) (locals_below above.locals words)) (placed_in words) ≡ false
  pub used : list_any (is_misused (entries_of whole) (locals_below above.locals words)) (placed_in words) ≡ false
  pub within : passes_limit above words ≡ false

no_misfit : (whole : List (List Word)) (above : Above) (words : List Word) → HasNoFault whole above words → name_misfits whole above words ≡ []
unfolding name_misfits
no_misfit whole above words h = rw (h.again, h.second, h.declared, h.used, h.within) refl

-- No line of these has a fault, below lines that declare these names, where these locals are in force and so many blocks are open.
abbrev pub Clean : List (List Word) → List (List ℕ) → ℕ → List Entry → List (List Word) → Type 0
Clean whole locals depth declared lines =
    (at : ℕ) (above : List (List Word)) → declarations above ≡ declared → lines_faults whole (record { lines = above; locals = locals; depth = depth }) (numbered_lines at lines) ≡ []

pub clean_end : (whole : List (List Word)) (locals : List (List ℕ)) (depth : ℕ) (declared : List Entry) → Clean whole locals depth declared []
unfolding lines_faults numbered_lines
clean_end whole locals depth declared at above e = refl

pub clean_line : (whole : List (List Word)) (locals : List (List ℕ)) (depth : ℕ) (declared : List Entry) (words : List Word) (rest : List (List Word))
    → ((above : List (List Word)) → declarations above ≡ declared → HasNoFault whole (record { lines = above; locals = locals; depth = depth }) words)
    → Clean whole (locals_below locals words) (depth_below depth (shape_of_line words)) (declared ++ (declared_in words ++ [])) rest
    → Clean whole locals depth declared (words ∷ rest)
unfolding lines_faults numbered_lines
clean_line whole locals depth declared words rest none below at above e =
    rw (no_misfit whole (record { lines = above; locals = locals; depth = depth }) words (none above e))
    (below (at + 1) (above ++ words ∷ []) (declared_below above words ∙ ap (λ (d : List Entry). d ++ (declared_in words ++ [])) e))

-- A line that declares nothing.
pub clean_plain : (whole : List (List Word)) (locals : List (List ℕ)) (depth : ℕ) (declared : List Entry) (words : List Word) (rest : List (List Word)) → declared_in words ≡ []
    → ((above : List (List Word)) → HasNoFault whole (record { lines = above; locals = locals; depth = depth }) words)
    → Clean whole (locals_below locals words) (depth_below depth (shape_of_line words)) declared rest
    → Clean whole locals depth declared (words ∷ rest)
clean_plain whole locals depth declared words rest no_name none below =
    clean_line whole locals depth declared words rest (λ above e. none above)
    (λ at above e. below at above (e ∙ (ap (λ (d : List Entry). declared ++ (d ++ [])) no_name ∙ append-nil declared)))
