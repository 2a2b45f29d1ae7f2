-- No line of a script that keeps the rules has `reraise` or `this` outside of every catch body.
use Rattle.std.proofs.Common.{◌≡◌, ℕ, zero, suc, ◌+◌, Bool, true, false, List, [], ◌∷◌, ◌++◌, map, length, slice_get, Some, refl, sym, ap, subst, ◌∙◌, inl, inr}
use Rattle.std.specs.Prelude.{◌⊎◌, ◌&&◌, ◌||◌, not, codes}
use Rattle.std.specs.List.{list_all, list_any}
use Rattle.std.proofs.lemmas.List.{map-append}
use Rattle.thr_syntax.specs.declared.expr.ExcRef.{ExcRef}
use Rattle.thr_syntax.specs.declared.expr.ExcRef.TheVariants.{Named, This}
use Rattle.thr_syntax.specs.declared.expr.Expr.{Expr}
use Rattle.thr_syntax.specs.declared.expr.Expr.TheVariants as expr
use Rattle.thr_syntax.specs.declared.form.Form.{Form}
use Rattle.thr_syntax.specs.declared.tree.Item.{Item}
use Rattle.thr_syntax.specs.declared.tree.Script.{Script}
use Rattle.thr_syntax.specs.Canon.{scope_in, item_words}
use Rattle.thr_syntax.specs.Lines.{joined, item_lines, lines_of}
use Rattle.thr_syntax.specs.Spelling.{Scope, exception_of, operator_word, expr_step, expr_words, form_words}
use Rattle.thr_syntax.proofs.FoldLaws.{each_expr-Num, each_expr-Var, each_expr-Me, each_expr-Err, each_expr-Two, each_expr-Not, each_expr-GetStatus, each_expr-Matches}
use Rattle.thr_syntax.proofs.TreeInduction.{expr_induction}
use Rattle.thr_text.specs.declared.block.Block.{Block}
use Rattle.thr_text.specs.declared.block.Shape.{Shape}
use Rattle.thr_text.specs.declared.block.Shape.TheVariants.{Reraises}
use Rattle.thr_text.specs.declared.head.Slot.{Slot}
use Rattle.thr_text.specs.declared.word.Word.{Word}
use Rattle.thr_text.specs.Blocks.{form_shape, is_catch, is_uncaught, blocks_below, shape_of_line, mentions_this}
use Rattle.thr_text.specs.Heads.{head_word}
use Rattle.thr_text.specs.Lexing.{has_number_form, word_of}
use Rattle.thr_text.specs.Names.{has_name_form}
use Rattle.thr_text.specs.Reading.{Formed, own_lines, numbered_lines}
use Rattle.thr_text.specs.Slots.{is_one_of, slots_of}
use Rattle.thr_blocks.specs.Build.{is_own}
use Rattle.thr_blocks.specs.Placement.{KeepExceptions}
use Rattle.thr_blocks.proofs.FaultlessLaws.{keep_below}
use Rattle.thr_resolving.specs.declared.value.Value.{Value}
use Rattle.thr_resolving.specs.declared.value.Value.TheVariants as value
use Rattle.thr_resolving.proofs.AgainLines.{line_shape}
use Rattle.thr_resolving.proofs.FormTables.{IsOwn, spelled, values_fit}
use Rattle.thr_resolving.proofs.Parts.{form_head, form_values, words_at, words_in_slots, AreIn}
use Rattle.thr_reading.proofs.OneScript.{tree_lines}
use Rattle.thr_reading.proofs.OwnLaws.{item_own, no_header}
use Rattle.thr_trees.specs.Caught.{is_this, asks_caught, line_asks_caught, open_from, open_above, uses_caught}
use Rattle.thr_trees.specs.Names.{exceptions_step, exceptions_of, exceptions_in}
use Rattle.thr_trees.proofs.NamedLines.{exceptions_in_same}
use Rattle.thr_trees.proofs.SlotFacts.{exceptions_at, exceptions_in_all}

-- ---- where `this` is among the exceptions it is among the words

-- The word `this` stands among the words of these texts.
abbrev has_this : List (List ℕ) → Bool
has_this ts = mentions_this (map word_of ts)

-- Where `this` is among the exceptions it is among the words.
abbrev IsSpelled : List ExcRef → List (List ℕ) → Type 0
IsSpelled xs ts = asks_caught xs ≡ true → has_this ts ≡ true

either : (a b : Bool) → (a || b) ≡ true → (a ≡ true) ⊎ (b ≡ true)
either true b e = inl refl
either false b e = inr e

or_left : (a b : Bool) → a ≡ true → (a || b) ≡ true
or_left a b e = rw e refl

or_right : (a b : Bool) → b ≡ true → (a || b) ≡ true
or_right true b e = refl
or_right false b e = e

any_append : {A : Type 0} (p : A → Bool) (xs ys : List A) → list_any p (xs ++ ys) ≡ (list_any p xs || list_any p ys)
any_append p [] ys = refl
any_append p (x ∷ xs) ys = ap (λ (b : Bool). p x || b) (any_append p xs ys) ∙ grouped (p x) (list_any p xs) (list_any p ys)
  where
    grouped : (a b c : Bool) → (a || (b || c)) ≡ ((a || b) || c)
    grouped true b c = refl
    grouped false b c = refl

this_append : (ts us : List (List ℕ)) → has_this (ts ++ us) ≡ (has_this ts || has_this us)
this_append ts us = ap mentions_this (map-append word_of ts us) ∙ any_append (is_one_of (codes "this" ∷ [])) (map word_of ts) (map word_of us)

spelled_append : (xs ys : List ExcRef) (ts us : List (List ℕ)) → IsSpelled xs ts → IsSpelled ys us → IsSpelled (xs ++ ys) (ts ++ us)
spelled_append xs ys ts us h k e =
    this_append ts us ∙ elim (either (asks_caught xs) (asks_caught ys) (sym (any_append is_this xs ys) ∙ e)) [
      | inl a ↦ or_left (has_this ts) (has_this us) (h a)
      | inr b ↦ or_right (has_this ts) (has_this us) (k b)
    ]

spelled_behind : (t : List ℕ) (xs : List ExcRef) (ts : List (List ℕ)) → IsSpelled xs ts → IsSpelled xs (t ∷ ts)
spelled_behind t xs ts h e = or_right (is_one_of (codes "this" ∷ []) (word_of t)) (has_this ts) (h e)

nothing_spelled : (ts : List (List ℕ)) → IsSpelled [] ts
nothing_spelled ts e = absurd cc

this_word : has_this (codes "this" ∷ []) ≡ true
unfolding word_of has_number_form has_name_form
this_word = refl

exception_spelled : (scope : Scope) (x : ExcRef) → IsSpelled (x ∷ []) (exception_of scope x ∷ [])
exception_spelled scope This e = this_word
exception_spelled scope (Named x) e = absurd cc

as_spelled : (scope : Scope) (e : Expr) (xs : List ExcRef) (ts : List (List ℕ)) → exceptions_of e ≡ xs → expr_words scope e ≡ ts → IsSpelled xs ts → IsSpelled (exceptions_of e) (expr_words scope e)
as_spelled scope e xs ts x t h = rw (x, t) h

two_exceptions : (scope : Scope) (x y : ExcRef) → IsSpelled (x ∷ y ∷ []) (exception_of scope x ∷ exception_of scope y ∷ [])
two_exceptions scope x y = spelled_append (x ∷ []) (y ∷ []) (exception_of scope x ∷ []) (exception_of scope y ∷ []) (exception_spelled scope x) (exception_spelled scope y)

expr_spelled : (scope : Scope) (e : Expr) → IsSpelled (exceptions_of e) (expr_words scope e)
expr_spelled scope = expr_induction (λ (e : Expr). IsSpelled (exceptions_of e) (expr_words scope e)) (record {
  num = λ n. as_spelled scope (expr.Num n) [] (expr_words scope (expr.Num n)) (each_expr-Num exceptions_step n) refl (nothing_spelled _);
  var = λ v. as_spelled scope (expr.Var v) [] (expr_words scope (expr.Var v)) (each_expr-Var exceptions_step v) refl (nothing_spelled _);
  me = as_spelled scope expr.Me [] (expr_words scope expr.Me) (each_expr-Me exceptions_step) refl (nothing_spelled _);
  err = as_spelled scope expr.Err [] (expr_words scope expr.Err) (each_expr-Err exceptions_step) refl (nothing_spelled _);
  two = λ o a b h k. as_spelled scope (expr.Two o a b) (exceptions_of a ++ exceptions_of b) (operator_word o ∷ (expr_words scope a ++ expr_words scope b)) (each_expr-Two exceptions_step o a b) (each_expr-Two (expr_step scope) o a b)
      (spelled_behind (operator_word o) (exceptions_of a ++ exceptions_of b) (expr_words scope a ++ expr_words scope b) (spelled_append (exceptions_of a) (exceptions_of b) (expr_words scope a) (expr_words scope b) h k));
  negation = λ a h. as_spelled scope (expr.Not a) (exceptions_of a) (codes "not" ∷ expr_words scope a) (each_expr-Not exceptions_step a) (each_expr-Not (expr_step scope) a) (spelled_behind (codes "not") (exceptions_of a) (expr_words scope a) h);
  get_status = λ x. as_spelled scope (expr.GetStatus x) (x ∷ []) (codes "exc_get_status" ∷ exception_of scope x ∷ []) (each_expr-GetStatus exceptions_step x) (each_expr-GetStatus (expr_step scope) x)
      (spelled_behind (codes "exc_get_status") (x ∷ []) (exception_of scope x ∷ []) (exception_spelled scope x));
  matches = λ x y. as_spelled scope (expr.Matches x y) (x ∷ y ∷ []) (codes "exc_matches" ∷ exception_of scope x ∷ exception_of scope y ∷ []) (each_expr-Matches exceptions_step x y) (each_expr-Matches (expr_step scope) x y)
      (spelled_behind (codes "exc_matches") (x ∷ y ∷ []) (exception_of scope x ∷ exception_of scope y ∷ []) (two_exceptions scope x y));
})

value_spelled : (scope : Scope) (s : Slot) (v : Value) → IsSpelled (exceptions_at v) (words_at scope s v)
value_spelled scope s (value.Expression e) = expr_spelled scope e
value_spelled scope s v = nothing_spelled (words_at scope s v)

values_spelled : (scope : Scope) (slots : List Slot) (vs : List Value) → AreIn slots vs → IsSpelled (exceptions_in_all vs) (words_in_slots scope slots vs)
unfolding words_in_slots
values_spelled scope [] [] fit = nothing_spelled []
values_spelled scope [] (v ∷ vs) fit = absurd fit
values_spelled scope (s ∷ slots) [] fit = absurd fit
values_spelled scope (s ∷ slots) (v ∷ vs) fit = spelled_append (exceptions_at v) (exceptions_in_all vs) (words_at scope s v) (words_in_slots scope slots vs) (value_spelled scope s v) (values_spelled scope slots vs fit.1)

line_spelled : (scope : Scope) (f : Form) → IsOwn f → IsSpelled (exceptions_in f) (form_words scope f)
line_spelled scope f own =
    subst (λ (ts : List (List ℕ)). IsSpelled (exceptions_in f) ts) (sym (spelled scope f own))
    (spelled_behind (head_word (form_head f)) (exceptions_in f) (words_in_slots scope (slots_of (form_head f)) (form_values f))
    (subst (λ (xs : List ExcRef). IsSpelled xs (words_in_slots scope (slots_of (form_head f)) (form_values f))) (sym (exceptions_in_same f)) (values_spelled scope (slots_of (form_head f)) (form_values f) (values_fit f own))))

-- ---- lines below their open blocks

-- Each line of these that means what is caught stands in a catch body, below these open blocks.
abbrev pub AreCaught : List Block → List Form → Type 0
AreCaught bs [] = Unit {0}
AreCaught bs (f ∷ fs) = (is_uncaught bs (form_shape f) (line_asks_caught f) ≡ false) × AreCaught (blocks_below bs (form_shape f)) fs

-- The same of the words of lines.
abbrev WordsCaught : List Block → List (List Word) → Type 0
WordsCaught bs [] = Unit {0}
WordsCaught bs (l ∷ ls) = (is_uncaught bs (shape_of_line l) (mentions_this l) ≡ false) × WordsCaught (blocks_below bs (shape_of_line l)) ls

of_numbered : (at : ℕ) (bs : List Block) (ls : List (List Word)) → KeepExceptions bs (numbered_lines at ls) → WordsCaught bs ls
unfolding numbered_lines
of_numbered at bs [] h = tt
of_numbered at bs (l ∷ ls) h = (h.1, of_numbered (at + 1) (blocks_below bs (shape_of_line l)) ls h.2)

fewer : (bs : List Block) (shape : Shape) (asks mentions : Bool) → (asks ≡ true → mentions ≡ true) → is_uncaught bs shape mentions ≡ false → is_uncaught bs shape asks ≡ false
fewer bs shape true mentions h e = subst (λ (b : Bool). is_uncaught bs shape b ≡ false) (h refl) e
fewer bs shape false true h e = less bs shape e
  where
    less : (bs : List Block) (shape : Shape) → is_uncaught bs shape true ≡ false → is_uncaught bs shape false ≡ false
    less bs Reraises e = e
    less bs shape e = refl
fewer bs shape false false h e = e

lines_caught : (scope : Scope) (bs : List Block) (fs : List Form) (rest : List (List Word)) (more : List Form) → list_all is_own fs ≡ true
    → ((cs : List Block) → WordsCaught cs rest → AreCaught cs more) → WordsCaught bs (map (map word_of) (map (form_words scope) fs) ++ rest) → AreCaught bs (fs ++ more)
lines_caught scope bs [] rest more own next h = next bs h
lines_caught scope bs (f ∷ fs) rest more own next h =
    let p = both (is_own f) (list_all is_own fs) own in
    let o : IsOwn f = no_header f p.0 in
    let l : List Word = map word_of (form_words scope f) in
    let shape : shape_of_line l ≡ form_shape f = sym (line_shape scope f o) in
    let here : is_uncaught bs (form_shape f) (mentions_this l) ≡ false = subst (λ (x : Shape). is_uncaught bs x (mentions_this l) ≡ false) shape h.0 in
    let below : WordsCaught (blocks_below bs (form_shape f)) (map (map word_of) (map (form_words scope) fs) ++ rest) =
    subst (λ (x : Shape). WordsCaught (blocks_below bs x) (map (map word_of) (map (form_words scope) fs) ++ rest)) shape h.1 in
    (fewer bs (form_shape f) (line_asks_caught f) (mentions_this l) (line_spelled scope f o) here, lines_caught scope (blocks_below bs (form_shape f)) fs rest more p.1 next below)
  where
    both : (a b : Bool) → (a && b) ≡ true → (a ≡ true) × (b ≡ true)
    both true b e = (refl, e)
    both false b e = absurd cc

items_caught : (names : List (List ℕ)) (bs : List Block) (items : List Item) → WordsCaught bs (map (map word_of) (joined (map (item_words names) items))) → AreCaught bs (joined (map item_lines items))
items_caught names bs [] h = tt
items_caught names bs (i ∷ items) h =
    let rest : List (List (List ℕ)) = joined (map (item_words names) items) in
    lines_caught (scope_in names i) bs (item_lines i) (map (map word_of) rest) (joined (map item_lines items)) (item_own i) (λ cs k. items_caught names cs items k)
    (subst (WordsCaught bs) (map-append (map word_of) (item_words names i) rest) h)

pub script_caught : (s : Script) → Formed s → AreCaught [] (tree_lines s)
script_caught s h = items_caught s.names [] s.items (of_numbered 2 [] (own_lines s) (keep_below (length (own_lines s) + 2) [] (numbered_lines 2 (own_lines s)) h.blocks))

-- ---- the line at a place

in_catch : (means inside : Bool) → (means && not inside) ≡ false → means ≡ true → inside ≡ true
in_catch true true e m = refl
in_catch true false e m = absurd cc
in_catch false inside e m = absurd cc

line_at : (bs : List Block) (fs : List Form) (k : ℕ) (f : Form) → AreCaught bs fs → slice_get fs k ≡ Some f → uses_caught f ≡ true → list_any is_catch (open_from bs fs k) ≡ true
line_at bs [] k f h is uses = absurd cc
line_at bs (x ∷ fs) zero f h is uses =
    let same : f ≡ x = cc in
    in_catch (uses_caught x) (list_any is_catch bs) h.0 (subst (λ (y : Form). uses_caught y ≡ true) same uses)
line_at bs (x ∷ fs) (suc k) f h is uses = line_at (blocks_below bs (form_shape x)) fs k f h.1 is uses

pub lines_in_catch : (s : Script) → Formed s → (k : ℕ) (f : Form) → slice_get (lines_of s) k ≡ Some f → uses_caught f ≡ true → list_any is_catch (open_above s k) ≡ true
unfolding form_shape blocks_below
lines_in_catch s h k f is uses = line_at [] (lines_of s) k f (refl, script_caught s h) is uses
