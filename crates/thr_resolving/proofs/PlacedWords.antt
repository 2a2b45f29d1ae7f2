-- The names in the words of a line without faults are declared, and of the kinds that their places ask.
use Rattle.std.proofs.Common.{◌≡◌, ℕ, Bool, true, false, List, [], ◌∷◌, ◌++◌, Option, Some, None, is_some, refl, sym, ap, ◌∙◌, append_assoc}
use Rattle.std.specs.Prelude.{◌&&◌, not, if◌then◌else◌}
use Rattle.std.specs.List.{list_any, list_all}
use Rattle.std.proofs.lemmas.Bool.{and_parts, or_parts}
use Rattle.std.proofs.lemmas.List.Folds.{list_all-append}
use Rattle.thr_text.specs.declared.word.Word.{Word}
use Rattle.thr_text.specs.declared.word.Word.TheVariants.{Name}
use Rattle.thr_text.specs.declared.object.Object as kinds
use Rattle.thr_text.specs.declared.head.Slot.{Slot}
use Rattle.thr_text.specs.declared.head.Slot.TheVariants.{Exception, Expression}
use Rattle.thr_text.specs.Slots.{is_a_name, operands_of, slots_behind}
use Rattle.thr_text.specs.Grammar.{Term, Atom, Negation, Operation, Status, Match, term_words, IsTerm}
use Rattle.thr_text.specs.Lexing.{AreOfLine}
use Rattle.thr_text.specs.NameFaults.{Sense, Own, sense_of_kind, sense_of, is_unknown, is_of_kind, is_own, refers, suits, is_undeclared, is_misused}
use Rattle.thr_text.specs.Tables.{Placed, placed, Entry, declared_at, declared_in_all, kind_in, is_among, is_declared}
use Rattle.thr_text.proofs.FormLaws.{binary_opens, not_opens, status_opens, match_opens, atom_opens}

-- ---- the words of an expression with their places

abbrev pub term_placed : Term → List Placed
term_placed (Atom w) = (Expression, w) ∷ []
term_placed (Negation w t) = (Expression, w) ∷ term_placed t
term_placed (Operation w t u) = (Expression, w) ∷ (term_placed t ++ term_placed u)
term_placed (Status w x) = (Expression, w) ∷ (Exception, x) ∷ []
term_placed (Match w x y) = (Expression, w) ∷ (Exception, x) ∷ (Exception, y) ∷ []

opened : (w : Word) (os slots : List Slot) (ws : List Word) → operands_of w ≡ os → placed (Expression ∷ slots) (w ∷ ws) ≡ (Expression, w) ∷ placed (os ++ slots) ws
unfolding placed
opened w os slots ws e = ap (λ (xs : List Slot). (Expression, w) ∷ placed (xs ++ slots) ws) e

pub placed_one : (s : Slot) (w : Word) (slots : List Slot) (ws : List Word) → slots_behind s w ≡ [] → placed (s ∷ slots) (w ∷ ws) ≡ (s, w) ∷ placed slots ws
unfolding placed
placed_one s w slots ws e = ap (λ (xs : List Slot). (s, w) ∷ placed (xs ++ slots) ws) e

pub placed_term : (t : Term) → IsTerm t → (slots : List Slot) (rest : List Word) → placed (Expression ∷ slots) (term_words t ++ rest) ≡ term_placed t ++ placed slots rest
placed_term (Atom w) h slots rest = opened w [] slots rest (atom_opens w h)
placed_term (Negation w t) h slots rest =
    opened w (Expression ∷ []) slots (term_words t ++ rest) (not_opens w h.0) ∙ ap (λ (xs : List Placed). (Expression, w) ∷ xs) (placed_term t h.1 slots rest)
placed_term (Operation w t u) h slots rest =
    ap (λ (xs : List Word). placed (Expression ∷ slots) (w ∷ xs)) (append_assoc (term_words t) (term_words u) rest)
    ∙ opened w (Expression ∷ Expression ∷ []) slots (term_words t ++ (term_words u ++ rest)) (binary_opens w h.0)
    ∙ ap (λ (xs : List Placed). (Expression, w) ∷ xs) (
    placed_term t h.1 (Expression ∷ slots) (term_words u ++ rest)
    ∙ ap (λ (xs : List Placed). term_placed t ++ xs) (placed_term u h.2 slots rest)
    ∙ sym (append_assoc (term_placed t) (term_placed u) (placed slots rest))
    )
placed_term (Status w x) h slots rest =
    opened w (Exception ∷ []) slots (x ∷ rest) (status_opens w h.0) ∙ ap (λ (xs : List Placed). (Expression, w) ∷ xs) (placed_one Exception x slots rest refl)
placed_term (Match w x y) h slots rest =
    opened w (Exception ∷ Exception ∷ []) slots (x ∷ y ∷ rest) (match_opens w h.0)
    ∙ ap (λ (xs : List Placed). (Expression, w) ∷ xs) (
    placed_one Exception x (Exception ∷ slots) (y ∷ rest) refl ∙ ap (λ (xs : List Placed). (Exception, x) ∷ xs) (placed_one Exception y slots rest refl)
    )

-- ---- words without faults of names

pub record IsGood (entries : List Entry) (locals : List (List ℕ)) (s : Slot) (w : Word) : Type 0 where
  pub declares : list_all (λ e. is_declared entries e.0) (declared_at s w) ≡ true
  pub declared : is_undeclared entries locals (s, w) ≡ false
  pub suited : is_misused entries locals (s, w) ≡ false

abbrev pub AreGood : List Entry → List (List ℕ) → List Placed → Type 0
AreGood entries locals [] = Unit {0}
AreGood entries locals (x ∷ xs) = IsGood entries locals x.0 x.1 × AreGood entries locals xs

pub good_words : (entries : List Entry) (locals : List (List ℕ)) (xs : List Placed) → list_all (λ e. is_declared entries e.0) (declared_in_all xs) ≡ true
    → list_any (is_undeclared entries locals) xs ≡ false → list_any (is_misused entries locals) xs ≡ false → AreGood entries locals xs
good_words entries locals [] d u m = tt
good_words entries locals (x ∷ xs) d u m =
    let ds = and_parts (list_all (λ e. is_declared entries e.0) (declared_at x.0 x.1)) (list_all (λ e. is_declared entries e.0) (declared_in_all xs))
    (sym (list_all-append (λ e. is_declared entries e.0) (declared_at x.0 x.1) (declared_in_all xs)) ∙ d) in
    let us = or_parts (is_undeclared entries locals x) (list_any (is_undeclared entries locals) xs) u in
    let ms = or_parts (is_misused entries locals x) (list_any (is_misused entries locals) xs) m in
    (record { declares = ds.0; declared = us.0; suited = ms.0 }, good_words entries locals xs ds.1 us.1 ms.1)

pub good_append : (entries : List Entry) (locals : List (List ℕ)) (xs ys : List Placed) → AreGood entries locals (xs ++ ys) → AreGood entries locals xs × AreGood entries locals ys
good_append entries locals [] ys h = (tt, h)
good_append entries locals (x ∷ xs) ys h = let more = good_append entries locals xs ys h.1 in ((h.0, more.0), more.1)

pub of_line_append : (ws vs : List Word) → AreOfLine (ws ++ vs) → AreOfLine ws × AreOfLine vs
of_line_append [] vs h = (tt, h)
of_line_append (w ∷ ws) vs h = let more = of_line_append ws vs h.1 in ((h.0, more.0), more.1)

-- ---- what stands for a name

abbrev pub sense_here : Bool → Option kinds.Object → Sense
sense_here own kind = if own then Own else sense_of_kind kind

known_declared : (own : Bool) (o : Option kinds.Object) → own ≡ false → is_unknown (sense_here own o) ≡ false → is_some o ≡ true
known_declared true o e h = absurd cc
known_declared false None e h = absurd cc
known_declared false (Some kind) e h = refl

kind_declared : (k : kinds.Object) (own : Bool) (o : Option kinds.Object) → is_of_kind k (sense_here own o) ≡ true → is_some o ≡ true
kind_declared k true o h = absurd cc
kind_declared k false None h = absurd cc
kind_declared k false (Some kind) h = refl

own_here : (own : Bool) (o : Option kinds.Object) → is_own (sense_here own o) ≡ true → own ≡ true
own_here true o h = refl
own_here false None h = absurd cc
own_here false (Some kind) h = absurd cc

both_test : (a b c : Bool) → a ≡ true → b ≡ true → ((a && b) && c) ≡ false → c ≡ false
both_test a b c e f h = rw (e, f) at h

not_false : (b : Bool) → not b ≡ false → b ≡ true
not_false true e = refl
not_false false e = absurd cc

-- The name isn't undeclared, and what stands for it suits its place.
pub name_known : (entries : List Entry) (locals : List (List ℕ)) (s : Slot) (text : List ℕ) → refers s ≡ true → is_a_name (Name text) ≡ true → IsGood entries locals s (Name text)
    → is_unknown (sense_of entries locals text) ≡ false
name_known entries locals s text r n good = both_test (refers s) (is_a_name (Name text)) (is_unknown (sense_of entries locals text)) r n good.declared

pub name_suits : (entries : List Entry) (locals : List (List ℕ)) (s : Slot) (text : List ℕ) → refers s ≡ true → is_a_name (Name text) ≡ true → IsGood entries locals s (Name text)
    → suits s (sense_of entries locals text) ≡ true
name_suits entries locals s text r n good =
    not_false (suits s (sense_of entries locals text)) (both_test (refers s) (is_a_name (Name text)) (not (suits s (sense_of entries locals text))) r n good.suited)

pub known_is_declared : (entries : List Entry) (locals : List (List ℕ)) (text : List ℕ) → is_among locals text ≡ false → is_unknown (sense_of entries locals text) ≡ false → is_declared entries text ≡ true
known_is_declared entries locals text e h = known_declared (is_among locals text) (kind_in entries text) e h

pub kind_is_declared : (entries : List Entry) (locals : List (List ℕ)) (k : kinds.Object) (text : List ℕ) → is_of_kind k (sense_of entries locals text) ≡ true → is_declared entries text ≡ true
kind_is_declared entries locals k text h = kind_declared k (is_among locals text) (kind_in entries text) h

pub own_is_among : (entries : List Entry) (locals : List (List ℕ)) (text : List ℕ) → is_own (sense_of entries locals text) ≡ true → is_among locals text ≡ true
own_is_among entries locals text h = own_here (is_among locals text) (kind_in entries text) h
