-- Places are read as they are printed.
use Rattle.std.proofs.Common.{◌≡◌, ℕ, ◌<◌, ◌≤◌, ◌^◌, Bool, true, false, List, [], ◌∷◌, ◌++◌, length, Option, Some, None, refl, sym, ap, subst, ◌∙◌, append_assoc, append-nil, arith}
use Rattle.std.specs.Prelude.{ℤ, codes, ◌==◌}
use Rattle.std.specs.Option.{option_map, option_and_then}
use Rattle.std.specs.Fmt.{decimal, signed_decimal}
use Rattle.std.proofs.lemmas.Bool.Decides.{nat_tests}
use Rattle.std.proofs.lemmas.Option.{cond_some}
use Rattle.thr_values.specs.declared.number.Line.{Line}
use Rattle.thr_values.specs.declared.number.Tid.{Tid}
use Rattle.thr_text.specs.Journals.{thread_word}
use Rattle.thr_journals.specs.Numbers.{number_in, short_in, long_in, value_in}
use Rattle.thr_journals.specs.Fields.{Field, word_as, both, alone, if_whole, lettered, line_in, thread_in, count, value, place, thread}
use Rattle.thr_journal_laws.specs.Numbers.{IsBetween, HasSixtyFourBits}
use Rattle.thr_journal_laws.specs.Places.{IsReadAsPrinted, IsLong, IsPlace, IsThread}
use Rattle.thr_journal_laws.proofs.Shortest.{map_some, number_taken, number_again, value_taken, value_again}

-- ---- one word

pub word_read : {A : Type 0} (read : List ℕ → Option A) (text : A → List ℕ) (Fits : A → Type 0) → ((w : List ℕ) (a : A) → read w ≡ Some a → (w ≡ text a) × Fits a)
    → ((a : A) → Fits a → read (text a) ≡ Some a) → IsReadAsPrinted (word_as read) (λ a. text a ∷ []) Fits
word_read {A} read text Fits taken again = record { taken = word_taken; again = word_again }
  where
    word_taken : (ws : List (List ℕ)) (x : A × List (List ℕ)) → word_as read ws ≡ Some x → (ws ≡ (text x.0 ∷ []) ++ x.1) × Fits x.0
    word_taken [] x e = absurd cc
    word_taken (w ∷ ws) x e =
        let m = map_some (λ (a : A). (a, ws)) (read w) x e in
        let t = taken w m.0 m.1 in
        subst (λ (y : A × List (List ℕ)). (w ∷ ws ≡ (text y.0 ∷ []) ++ y.1) × Fits y.0) m.2 (ap (λ (v : List ℕ). v ∷ ws) t.0, t.1)

    word_again : (a : A) (rest : List (List ℕ)) → Fits a → word_as read ((text a ∷ []) ++ rest) ≡ Some (a, rest)
    word_again a rest fits = rw (again a fits) refl

-- ---- two places, and all of the words

pub then_some : {A B : Type 0} (f : A → Option B) (o : Option A) (b : B) → option_and_then f o ≡ Some b → (a : A) × (o ≡ Some a) × (f a ≡ Some b)
then_some f None b e = absurd cc
then_some f (Some a) b e = (a, refl, e)

pub both_read : {A B : Type 0} (f : Field A) (g : Field B) (p : A → List (List ℕ)) (q : B → List (List ℕ)) (P : A → Type 0) (Q : B → Type 0)
    → IsReadAsPrinted f p P → IsReadAsPrinted g q Q → IsReadAsPrinted (both f g) (λ x. p x.0 ++ q x.1) (λ x. P x.0 × Q x.1)
both_read {A} {B} f g p q P Q first second = record { taken = both_taken; again = both_again }
  where
    both_taken : (ws : List (List ℕ)) (x : (A × B) × List (List ℕ)) → both f g ws ≡ Some x → (ws ≡ (p x.0.0 ++ q x.0.1) ++ x.1) × (P x.0.0 × Q x.0.1)
    both_taken ws x e =
        let a = then_some (λ (y : A × List (List ℕ)). option_map (λ (z : B × List (List ℕ)). ((y.0, z.0), z.1)) (g y.1)) (f ws) x e in
        let b = map_some (λ (z : B × List (List ℕ)). ((a.0.0, z.0), z.1)) (g a.0.1) x a.2 in
        let s = first.taken ws a.0 a.1 in
        let t = second.taken a.0.1 b.0 b.1 in
        subst (λ (y : (A × B) × List (List ℕ)). (ws ≡ (p y.0.0 ++ q y.0.1) ++ y.1) × (P y.0.0 × Q y.0.1)) b.2
        (s.0 ∙ ap (λ (rest : List (List ℕ)). p a.0.0 ++ rest) t.0 ∙ sym (append_assoc (p a.0.0) (q b.0.0) b.0.1), (s.1, t.1))

    both_again : (x : A × B) (rest : List (List ℕ)) → P x.0 × Q x.1 → both f g ((p x.0 ++ q x.1) ++ rest) ≡ Some (x, rest)
    both_again x rest fits =
        ap (both f g) (append_assoc (p x.0) (q x.1) rest) ∙ rw (first.again x.0 (q x.1 ++ rest) fits.0, second.again x.1 rest fits.1) refl

no_word : (ws : List (List ℕ)) → (length ws == 0) ≡ true → ws ≡ []
no_word [] e = refl
no_word (w ∷ ws) e = absurd (grind (arith, nat_tests))

pub alone_taken : {A : Type 0} (f : Field A) (p : A → List (List ℕ)) (P : A → Type 0) → IsReadAsPrinted f p P → (ws : List (List ℕ)) (a : A) → alone f ws ≡ Some a → (ws ≡ p a) × P a
alone_taken {A} f p P r ws a e =
    let t = then_some if_whole (f ws) a e in
    let s = r.taken ws t.0 t.1 in
    let w = cond_some (length t.0.1 == 0) t.0.0 a t.2 in
    subst (λ (y : A). (ws ≡ p y) × P y) w.1 (s.0 ∙ ap (λ (rest : List (List ℕ)). p t.0.0 ++ rest) (no_word t.0.1 w.0) ∙ append-nil (p t.0.0), s.1)

pub alone_again : {A : Type 0} (f : Field A) (p : A → List (List ℕ)) (P : A → Type 0) → IsReadAsPrinted f p P → (a : A) → P a → alone f (p a) ≡ Some a
alone_again f p P r a fits = ap (alone f) (sym (append-nil (p a))) ∙ rw (r.again a [] fits) refl

-- ---- numbers

pub count_read : IsReadAsPrinted count (λ n. decimal n ∷ []) IsLong
count_read = word_read long_in decimal IsLong
    (λ w n e. let t = number_taken 0 18446744073709551615 n w (omega arith) e in let high = t.1.high in (t.0, omega (arith, high)))
    (λ n fits. number_again 0 18446744073709551615 n (omega arith) (record { low = omega arith; high = omega (arith, fits) }))

pub value_read : IsReadAsPrinted value (λ z. signed_decimal z ∷ []) HasSixtyFourBits
value_read = word_read value_in signed_decimal HasSixtyFourBits value_taken value_again

pub short_taken : (w : List ℕ) (n : ℕ) → short_in w ≡ Some n → (w ≡ decimal n) × (n < 2 ^ 32)
short_taken w n e = let t = number_taken 0 4294967295 n w (omega arith) e in let high = t.1.high in (t.0, omega (arith, high))

pub short_again : (n : ℕ) → n < 2 ^ 32 → short_in (decimal n) ≡ Some n
short_again n fits = number_again 0 4294967295 n (omega arith) (record { low = omega arith; high = omega (arith, fits) })

line_taken : (w : List ℕ) (l : Line) → line_in w ≡ Some l → (w ≡ decimal l.0) × IsPlace l
line_taken w l e =
    let m = map_some (λ (n : ℕ). let made : Line = record { 0 = n } in made) (short_in w) l e in
    let t = short_taken w m.0 m.1 in
    subst (λ (y : Line). (w ≡ decimal y.0) × IsPlace y) m.2 t

pub place_read : IsReadAsPrinted place (λ l. decimal l.0 ∷ []) IsPlace
place_read = word_read line_in (λ l. decimal l.0) IsPlace line_taken (λ l fits. rw (short_again l.0 fits) refl)

-- ---- threads

is_letter : (b letter : ℕ) → (b == letter) ≡ true → b ≡ letter
is_letter b letter e = grind (arith, nat_tests)

letter_by : (b letter : ℕ) (w : List ℕ) (n : ℕ) (test : Bool) → (b == letter) ≡ test → lettered letter (b ∷ w) ≡ Some n → (b ∷ w ≡ letter ∷ decimal n) × (n < 2 ^ 32)
letter_by b letter w n true same e =
    let t = short_taken w n (rw same at e) in
    (ap (λ (c : ℕ). c ∷ w) (is_letter b letter same) ∙ ap (λ (rest : List ℕ). letter ∷ rest) t.0, t.1)
letter_by b letter w n false same e = absurd (let none : None ≡ Some n = rw same at e in cc)

pub lettered_taken : (letter : ℕ) (w : List ℕ) (n : ℕ) → lettered letter w ≡ Some n → (w ≡ letter ∷ decimal n) × (n < 2 ^ 32)
lettered_taken letter [] n e = absurd cc
lettered_taken letter (b ∷ w) n e = letter_by b letter w n (b == letter) refl e

same_letter : (letter : ℕ) → (letter == letter) ≡ true
same_letter letter = grind (arith, nat_tests)

pub lettered_again : (letter n : ℕ) → n < 2 ^ 32 → lettered letter (letter ∷ decimal n) ≡ Some n
lettered_again letter n fits = rw (same_letter letter, short_again n fits) refl

thread_taken : (w : List ℕ) (t : Tid) → thread_in w ≡ Some t → (w ≡ thread_word t) × IsThread t
thread_taken w t e =
    let m = map_some (λ (n : ℕ). let made : Tid = record { 0 = n } in made) (lettered 116 w) t e in
    let s = lettered_taken 116 w m.0 m.1 in
    subst (λ (y : Tid). (w ≡ thread_word y) × IsThread y) m.2 s

pub thread_read : IsReadAsPrinted thread (λ t. thread_word t ∷ []) IsThread
thread_read = word_read thread_in thread_word IsThread thread_taken (λ t fits. rw (lettered_again 116 t.0 fits) refl)
