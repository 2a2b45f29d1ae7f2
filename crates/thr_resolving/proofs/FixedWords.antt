-- A word of a line that has a fixed text is the word of that text.
use Rattle.std.proofs.Common.{◌≡◌, ℕ, Bool, true, false, cond, List, [], ◌∷◌, map, refl, sym, ap, ◌∙◌, inl, inr}
use Rattle.std.specs.Prelude.{◌||◌, codes}
use Rattle.std.specs.Str.{bytes_eq}
use Rattle.std.proofs.lemmas.Bool.{cases_Bool}
use Rattle.std.proofs.lemmas.Slice.Eq.{bytes_eq-Decides}
use Rattle.thr_values.specs.Words.{policy_words, policy_word, kind_words, kind_word, inherit_words, inherit_word, cancel_words, cancel_word}
use Rattle.thr_values.specs.declared.reply.Kind.TheVariants.{Fast, Recursive, Nonrecursive}
use Rattle.thr_values.specs.declared.scheduling.Policy.TheVariants.{Fifo, Rr, Fg, Bg}
use Rattle.thr_syntax.specs.Spelling.{operator_word, interface_word}
use Rattle.thr_text.specs.declared.word.Word.{Word}
use Rattle.thr_text.specs.declared.word.Word.TheVariants.{Num, Name, Mark}
use Rattle.thr_text.specs.Lexing.{word_of, word_text, IsOfLine}
use Rattle.thr_text.specs.Slots.{is_one_of, binary_words}
use Rattle.thr_lexer.proofs.Canon.{inked, texts_again, line_again}
use Rattle.thr_resolving.specs.Resolving.{all_operators, operator_among, operator_in, interface_in, policy_among, policy_in, kind_among, kind_in}

-- ---- a word and its text

first_same : (x y : Word) (xs ys : List Word) → x ∷ xs ≡ y ∷ ys → x ≡ y
first_same x y xs ys e = cc

pub word_again : (w : Word) → IsOfLine w → word_of (word_text w) ≡ w
word_again w h = first_same (word_of (word_text w)) w [] [] (ap (map word_of) (sym (texts_again (word_text w ∷ []) (inked (w ∷ []) (h, tt)))) ∙ line_again (w ∷ []) (h, tt))

-- The word has just this text.
abbrev pub is_text : List ℕ → Word → Bool
is_text text w = is_one_of (text ∷ []) w

or_end : (a : Bool) → (a || false) ≡ true → a ≡ true
or_end true e = refl
or_end false e = e

pub text_same : (text : List ℕ) (w : Word) → is_text text w ≡ true → text ≡ word_text w
text_same text (Num n) e = absurd cc
text_same text (Name t) e = sym ((bytes_eq-Decides t text).0 (or_end (bytes_eq t text) e))
text_same text (Mark t) e = sym ((bytes_eq-Decides t text).0 (or_end (bytes_eq t text) e))

pub text_again : (text : List ℕ) (w : Word) → is_text text w ≡ true → IsOfLine w → word_of text ≡ w
text_again text w e h = ap word_of (text_same text w e) ∙ word_again w h

-- ---- tables of words

none_of : (w : Word) → is_one_of [] w ≡ false
none_of (Num n) = refl
none_of (Name t) = refl
none_of (Mark t) = refl

or_second : (a b : Bool) → (a || b) ≡ true → (a || false) ≡ false → b ≡ true
or_second true b e f = absurd cc
or_second false b e f = e

pub other_text : (text : List ℕ) (texts : List (List ℕ)) (w : Word) → is_one_of (text ∷ texts) w ≡ true → is_text text w ≡ false → is_one_of texts w ≡ true
other_text text texts (Num n) e f = absurd cc
other_text text texts (Name t) e f = or_second (bytes_eq t text) (is_one_of texts (Name t)) e f
other_text text texts (Mark t) e f = or_second (bytes_eq t text) (is_one_of texts (Mark t)) e f

-- The first of these whose word it is.
text_picked : {A : Type 0} (text : A → List ℕ) (pick : List A → Word → A) → ((x : A) (xs : List A) (w : Word) → pick (x ∷ xs) w ≡ cond (is_text (text x) w) x (pick xs w))
    → (xs : List A) (w : Word) → is_one_of (map text xs) w ≡ true → is_text (text (pick xs w)) w ≡ true
text_picked text pick step [] w e = absurd (let s : false ≡ true = sym (none_of w) ∙ e in cc)
text_picked text pick step (x ∷ xs) w e = rw (step x xs w) elim (cases_Bool (is_text (text x) w)) [
  | inl is ↦ rw is is
  | inr other ↦ rw other (text_picked text pick step xs w (other_text (text x) (map text xs) w e other))
]

pub operator_again : (w : Word) → is_one_of binary_words w ≡ true → IsOfLine w → word_of (operator_word (operator_in w)) ≡ w
operator_again w e h = text_again (operator_word (operator_in w)) w (text_picked operator_word operator_among (λ x xs v. refl) all_operators w e) h

pub policy_again : (w : Word) → is_one_of policy_words w ≡ true → IsOfLine w → word_of (policy_word (policy_in w)) ≡ w
policy_again w e h = text_again (policy_word (policy_in w)) w (text_picked policy_word policy_among (λ x xs v. refl) (Fifo ∷ Rr ∷ Fg ∷ Bg ∷ []) w e) h

pub kind_again : (w : Word) → is_one_of kind_words w ≡ true → IsOfLine w → word_of (kind_word (kind_in w)) ≡ w
kind_again w e h = text_again (kind_word (kind_in w)) w (text_picked kind_word kind_among (λ x xs v. refl) (Fast ∷ Recursive ∷ Nonrecursive ∷ []) w e) h

-- One of two words.
pub interface_again : (w : Word) → is_one_of (codes "exc" ∷ codes "status" ∷ []) w ≡ true → IsOfLine w → word_of (interface_word (interface_in w)) ≡ w
interface_again w e h = elim (cases_Bool (is_text (codes "exc") w)) [
  | inl is ↦ rw is (text_again (codes "exc") w is h)
  | inr other ↦ rw other (text_again (codes "status") w (other_text (codes "exc") (codes "status" ∷ []) w e other) h)
]

pub inherit_again : (w : Word) → is_one_of inherit_words w ≡ true → IsOfLine w → word_of (inherit_word (is_text (codes "PTHREAD_INHERIT_SCHED") w)) ≡ w
inherit_again w e h = elim (cases_Bool (is_text (codes "PTHREAD_INHERIT_SCHED") w)) [
  | inl is ↦ rw is (text_again (codes "PTHREAD_INHERIT_SCHED") w is h)
  | inr other ↦ rw other (text_again (codes "PTHREAD_DEFAULT_SCHED") w (other_text (codes "PTHREAD_INHERIT_SCHED") (codes "PTHREAD_DEFAULT_SCHED" ∷ []) w e other) h)
]

pub cancel_again : (w : Word) → is_one_of cancel_words w ≡ true → IsOfLine w → word_of (cancel_word (is_text (codes "CANCEL_ON") w)) ≡ w
cancel_again w e h = elim (cases_Bool (is_text (codes "CANCEL_ON") w)) [
  | inl is ↦ rw is (text_again (codes "CANCEL_ON") w is h)
  | inr other ↦ rw other (text_again (codes "CANCEL_OFF") w (other_text (codes "CANCEL_ON") (codes "CANCEL_OFF" ∷ []) w e other) h)
]
