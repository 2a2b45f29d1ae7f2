-- Something for each worker, added one by one.
use Rattle.std.proofs.Common.{◌≡◌, ℕ, suc, ◌+◌, ◌-◌, ◌≤◌, List, [], ◌∷◌, ◌++◌, map, refl, sym, ◌∙◌, ap, append_assoc, append-nil, arith}
use Rattle.thr_verdict.specs.Made.{numbers_from}

-- One more is added.
pub one_more : {A : Type 0} (f : ℕ → A) (i threads : ℕ) (all new whole : List A) (x : A) → i ≤ threads → x ≡ f i → new ≡ all ++ x ∷ []
    → all ++ map f (numbers_from i (threads + 1 - i)) ≡ whole → new ++ map f (numbers_from (i + 1) (threads + 1 - (i + 1))) ≡ whole
unfolding numbers_from
one_more f i threads all new whole x low is push so =
    let count : threads + 1 - i ≡ suc (threads + 1 - (i + 1)) = omega arith in
    ap (λ l. l ++ map f (numbers_from (i + 1) (threads + 1 - (i + 1)))) (push ∙ ap (λ y. all ++ y ∷ []) is)
    ∙ append_assoc all (f i ∷ []) (map f (numbers_from (i + 1) (threads + 1 - (i + 1))))
    ∙ sym (ap (λ k. all ++ map f (numbers_from i k)) count)
    ∙ so

-- None is left.
pub none_left : {A : Type 0} (f : ℕ → A) (i threads : ℕ) (all whole : List A) → threads + 1 ≤ i → all ++ map f (numbers_from i (threads + 1 - i)) ≡ whole → all ≡ whole
unfolding numbers_from
none_left f i threads all whole high so =
    let none : threads + 1 - i ≡ 0 = omega arith in sym (append-nil all) ∙ sym (ap (λ k. all ++ map f (numbers_from i k)) none) ∙ so

-- ---- five, one after another

in_a_row : {A : Type 0} (o : List A) (a b c d e : A) → ((((o ++ a ∷ []) ++ b ∷ []) ++ c ∷ []) ++ d ∷ []) ++ e ∷ [] ≡ o ++ a ∷ b ∷ c ∷ d ∷ e ∷ []
in_a_row o a b c d e = simp append_assoc

pub five_more : {A : Type 0} (o p q r s t : List A) (a b c d e : A) → p ≡ o ++ a ∷ [] → q ≡ p ++ b ∷ [] → r ≡ q ++ c ∷ [] → s ≡ r ++ d ∷ [] → t ≡ s ++ e ∷ [] → t ≡ o ++ a ∷ b ∷ c ∷ d ∷ e ∷ []
five_more o p q r s t a b c d e hp hq hr hs ht = rw (ht, hs, hr, hq, hp) (in_a_row o a b c d e)
