-- The earliest time of several waits, found one by one from the last on.
use Rattle.std.proofs.Common.{◌≡◌, ℕ, ◌+◌, ◌-◌, ◌<◌, ◌≤◌, get_or, drop, [], ◌∷◌, length, Option, None, refl, sym, arith, ◌∙◌, ap, ℤ}
use Rattle.std.proofs.lemmas.List.{drop_more, drop_all}
use Rattle.thr_parts.specs.declared.wait.Wait.{Wait}
use Rattle.thr_parts.specs.Tables.{Table}
use Rattle.thr_parts.specs.Conditions.{time_of}
use Rattle.thr_parts.specs.Expiry.{sooner, earliest_in}

none_earliest : earliest_in [] ≡ None
unfolding earliest_in
none_earliest = refl

earliest_cons : (e : ℕ × Wait) (es : Table Wait) → earliest_in (e ∷ es) ≡ sooner (time_of e.1) (earliest_in es)
unfolding earliest_in
earliest_cons e es = refl

pub earliest_whole : (xs : Table Wait) (i : ℕ) → length xs ≤ i → None ≡ earliest_in (drop i xs)
earliest_whole xs i h = sym (ap earliest_in (drop_all i xs h) ∙ none_earliest)

pub earliest_more : (xs : Table Wait) (i : ℕ) (d : ℕ × Wait) (found r : Option ℤ) → 0 < i → i ≤ length xs → found ≡ earliest_in (drop i xs)
    → r ≡ sooner (time_of (get_or xs (i - 1) d).1) found → r ≡ earliest_in (drop (i - 1) xs)
earliest_more xs i d found r a b ih e =
    let n : (i - 1) + 1 ≡ i = omega arith in
    let x : ℕ × Wait = get_or xs (i - 1) d in
    e ∙ sym (ap earliest_in (drop_more xs (i - 1) d (omega arith) ∙ ap (λ k. x ∷ drop k xs) n) ∙ earliest_cons x (drop i xs) ∙ ap (sooner (time_of x.1)) (sym ih))
