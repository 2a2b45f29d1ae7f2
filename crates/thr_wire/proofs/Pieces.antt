-- Bytes that move in pieces.
use Rattle.std.proofs.Common.{◌≡◌, ◌≤◌, ◌+◌, ◌<◌, ◌-◌, [], ◌++◌, List, ℕ, length, take, drop, min, sym, ◌∙◌, ap, arith, length-append, length-drop, append_assoc, take-add}
use Rattle.std.proofs.lemmas.List.{take-append-le, take-append-drop, take-take, drop-drop, length-take-le}
use Rattle.std.proofs.lemmas.Grind.{common_steps}
use Rattle.std.specs.Prelude.{Option, Some, None, IfSome}
use Rattle.thr_wire.specs.Bytes.{TookAtMost, TookMoreThan}
use Rattle.std.specs.Io.KnownBytes.{Appends, Consumes}

-- a piece that was copied from the front of what is left
pub piece-taken : (bytes buf piece : List ℕ) (at n : ℕ) → n ≤ length (drop at bytes) → piece ≡ take n (drop at bytes) → drop at bytes ≡ take n (piece ++ drop n buf) ++ drop (at + n) bytes
piece-taken bytes buf piece at n h e =
    let len : length (take n (drop at bytes)) ≡ n = length-take-le n (drop at bytes) h in
    let le : n ≤ length (take n (drop at bytes)) = omega arith in
    rw e (sym (ap (λ x. x ++ drop (at + n) bytes) (take-append-le n (take n (drop at bytes)) (drop n buf) le ∙ take-take n n (drop at bytes) (omega arith))
    ∙ ap (λ x. take n (drop at bytes) ++ x) (sym (drop-drop n at bytes)) ∙ take-append-drop n (drop at bytes)))

pub empty-by-length : (xs : List ℕ) → length xs ≡ 0 → xs ≡ []
empty-by-length xs h = grind (arith, common_steps)

-- what was left is empty where a read of a place with room took nothing
pub none-left : (bytes : List ℕ) (at room : ℕ) → min (length bytes - at) room ≡ 0 → 0 < room → drop (at + 0) bytes ≡ []
none-left bytes at room e h = empty-by-length _ (omega (arith, length-drop (at + 0) bytes))

-- two pieces that were gained one after the other
pub gained-on : (old mid new : Option (List ℕ)) (bytes : List ℕ) (at n : ℕ) → Appends old mid (take at bytes) → Appends mid new (take n (drop at bytes)) → Appends old new (take (at + n) bytes)
gained-on None mid new bytes at n a b = tt
gained-on (Some xs) (Some ys) (Some zs) bytes at n a b =
    rw (b, a) (append_assoc xs (take at bytes) (take n (drop at bytes)) ∙ ap (λ t. xs ++ t) (sym (take-add at n bytes)))
gained-on (Some xs) (Some ys) None bytes at n a b = b
gained-on (Some xs) None new bytes at n a b = absurd a

pub piece-length : (bytes buf : List ℕ) (n most : ℕ) → length bytes + n ≤ most → length (bytes ++ take n buf) ≤ most
piece-length bytes buf n most h = grind (arith, common_steps)

-- how many bytes were taken, from what was taken
pub taken-at-most : (most : ℕ) (before now : Option (List ℕ)) (bytes : List ℕ) → Consumes before now bytes → length bytes ≤ most → TookAtMost most before now
taken-at-most most None now bytes t h = tt
taken-at-most most (Some x) None bytes t h = absurd t
taken-at-most most (Some x) (Some y) bytes t h = omega (arith, ap length t, length-append bytes y)

pub taken-no-more : (P : Type 0) (most : ℕ) (before now : Option (List ℕ)) (bytes : List ℕ) → Consumes before now bytes → length bytes ≤ most → IfSome before (λ b. TookMoreThan most b now → P)
taken-no-more P most None now bytes t h = tt
taken-no-more P most (Some x) None bytes t h = absurd t
taken-no-more P most (Some x) (Some y) bytes t h = λ more. absurd (omega (arith, ap length t, length-append bytes y))
