-- The loops over the words, the slots and the lines.
use Rattle.std.proofs.Common.{◌≡◌, ℕ, ◌+◌, ◌-◌, ◌<◌, ◌≤◌, List, [], ◌∷◌, ◌++◌, length, get_or, drop, Option, sym, ap, ◌∙◌, append_assoc, arith}
use Rattle.std.proofs.lemmas.List.{at_drop_more, at_drop_all, append-nil}
use Rattle.thr_syntax.specs.Spelling.{Scope}
use Rattle.thr_syntax.specs.declared.form.Form.{Form}
use Rattle.thr_text.specs.declared.word.Word.{Word}
use Rattle.thr_text.specs.declared.head.Slot.{Slot}
use Rattle.thr_text.specs.Faults.{first_of}
use Rattle.thr_text.specs.Blocks.{Line}
use Rattle.thr_text.specs.NameFaults.{locals_below, words_in}
use Rattle.thr_resolving.specs.declared.value.Value.{Value}
use Rattle.thr_resolving.specs.Resolving.{Piece, with_word, pieces_of, after_first, value_in, values_in, scope_of, resolved, resolved_lines}

pub no_words : (scope : Scope) (ws : List Word) → [] ≡ pieces_of scope (drop (length ws) ws)
unfolding pieces_of
no_words scope ws = sym (at_drop_all (pieces_of scope) ws (length ws) (omega arith))

one_word : (scope : Scope) (ws : List Word) (i left : ℕ) (w : Word) → left ≡ i + 1 → i < length ws → w ≡ get_or ws i w
    → with_word scope w (pieces_of scope (drop left ws)) ≡ pieces_of scope (drop i ws)
unfolding pieces_of
one_word scope ws i left w next lt is =
    ap (λ (n : ℕ). with_word scope w (pieces_of scope (drop n ws))) next
    ∙ ap (λ (x : Word). with_word scope x (pieces_of scope (drop (i + 1) ws))) is
    ∙ sym (at_drop_more (pieces_of scope) ws i w lt)

-- One more word, from the right.
pub word_more : (scope : Scope) (ws : List Word) (left : ℕ) (w : Word) (ps : List Piece) → 0 < left → left ≤ length ws
    → w ≡ get_or ws (left - 1) w → ps ≡ pieces_of scope (drop left ws) → with_word scope w ps ≡ pieces_of scope (drop (left - 1) ws)
word_more scope ws left w ps some within is so_far =
    ap (with_word scope w) so_far ∙ one_word scope ws (left - 1) left w (omega (arith, some)) (omega (arith, some, within)) is

-- One more slot, which takes a piece.
pub slot_more : (scope : Scope) (done all : List Value) (slots : List Slot) (i : ℕ) (d s : Slot) (o : Option Piece) (v : Value) (ps next : List Piece)
    → i < length slots → s ≡ get_or slots i d → o ≡ first_of ps → next ≡ after_first ps → v ≡ value_in scope s o
    → done ++ values_in scope (drop i slots) ps ≡ all → (done ++ v ∷ []) ++ values_in scope (drop (i + 1) slots) next ≡ all
unfolding values_in
slot_more scope done all slots i d s o v ps next lt is first rest made so_far =
    append_assoc done (v ∷ []) (values_in scope (drop (i + 1) slots) next)
    ∙ ap (λ (vs : List Value). done ++ vs)
    (ap (λ (x : Value). x ∷ values_in scope (drop (i + 1) slots) next) (made ∙ ap (value_in scope s) first)
    ∙ ap (λ (qs : List Piece). value_in scope s (first_of ps) ∷ values_in scope (drop (i + 1) slots) qs) rest
    ∙ ap (λ (x : Slot). value_in scope x (first_of ps) ∷ values_in scope (drop (i + 1) slots) (after_first ps)) is
    ∙ sym (at_drop_more (λ xs. values_in scope xs ps) slots i d lt))
    ∙ so_far

pub slots_end : (scope : Scope) (done all : List Value) (slots : List Slot) (i : ℕ) (ps : List Piece) → length slots ≤ i
    → done ++ values_in scope (drop i slots) ps ≡ all → done ≡ all
unfolding values_in
slots_end scope done all slots i ps le so_far =
    sym (append-nil done) ∙ ap (λ (vs : List Value). done ++ vs) (sym (at_drop_all (λ xs. values_in scope xs ps) slots i le)) ∙ so_far

-- One more line, below these locals.
pub line_more : (names before below locals : List (List ℕ)) (done all : List Form) (ls : List Line) (i : ℕ) (l : Line) (f : Form)
    → i < length ls → l ≡ get_or ls i l → below ≡ locals_below before l.1 → locals ≡ below → f ≡ resolved (scope_of names locals) l.1
    → done ++ resolved_lines names before (words_in (drop i ls)) ≡ all
    → (done ++ f ∷ []) ++ resolved_lines names below (words_in (drop (i + 1) ls)) ≡ all
unfolding resolved_lines
line_more names before below locals done all ls i l f lt is passed given made so_far =
    append_assoc done (f ∷ []) (resolved_lines names below (words_in (drop (i + 1) ls)))
    ∙ ap (λ (fs : List Form). done ++ fs)
    (ap (λ (x : Form). x ∷ resolved_lines names below (words_in (drop (i + 1) ls))) (made ∙ ap (λ (own : List (List ℕ)). resolved (scope_of names own) l.1) given)
    ∙ ap (λ (own : List (List ℕ)). resolved (scope_of names own) l.1 ∷ resolved_lines names own (words_in (drop (i + 1) ls))) passed
    ∙ ap (λ (x : Line). resolved_lines names before (words_in (x ∷ drop (i + 1) ls))) is
    ∙ sym (at_drop_more (λ xs. resolved_lines names before (words_in xs)) ls i l lt))
    ∙ so_far

pub lines_end : (names before : List (List ℕ)) (done all : List Form) (ls : List Line) (i : ℕ) → length ls ≤ i
    → done ++ resolved_lines names before (words_in (drop i ls)) ≡ all → done ≡ all
unfolding resolved_lines
lines_end names before done all ls i le so_far =
    sym (append-nil done) ∙ ap (λ (fs : List Form). done ++ fs) (sym (at_drop_all (λ xs. resolved_lines names before (words_in xs)) ls i le)) ∙ so_far
