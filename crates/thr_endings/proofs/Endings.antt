-- How commands end, and what is told of their input.
use Rattle.std.proofs.Common.{◌≡◌, ◌<◌, ℕ, List, [], length, refl, sym, subst, arith, append-nil, inl, inr}
use Rattle.std.specs.Prelude.{◌⊎◌, Option, Some, None, IfSome}
use Rattle.std.specs.Io.KnownBytes.{Appends}
use Rattle.thr_wire.specs.Bytes.{TookMoreThan, TookAll}
use Rattle.thr_endings.specs.Endings.{Ends, Gives, answered, unread, whole}

pub gains-nothing : (o : Option (List ℕ)) → Appends o o []
gains-nothing None = tt
gains-nothing (Some xs) = sym (append-nil xs)

-- ---- nothing is written

pub ends-no-memory : (Answers : ℕ → List ℕ → Type 0) (old : Option (List ℕ)) → Answers 5 [] → Ends Answers old old 5
ends-no-memory Answers old none = answered 5 [] none (whole refl (gains-nothing old))

pub ends-unread : (Answers : ℕ → List ℕ → Type 0) (old : Option (List ℕ)) → Ends Answers old old 3
ends-unread Answers old = unread refl (gains-nothing old)

pub gives-no-memory : (Answers : ℕ → List ℕ → Type 0) (old : Option (List ℕ)) → Answers 5 [] → Gives Answers old old 5
gives-no-memory Answers old none = record { wanted = 5; written = []; answers = none; writes = whole refl (gains-nothing old) }

-- What ends with some answers ends with more.
pub ends-so : (Some-of All-of : ℕ → List ℕ → Type 0) (old new : Option (List ℕ)) (status : ℕ) → ((w : ℕ) (t : List ℕ) → Some-of w t → All-of w t) → Ends Some-of old new status → Ends All-of old new status
ends-so Some-of All-of old new status more (unread e a) = unread e a
ends-so Some-of All-of old new status more (answered w t r x) = answered w t (more w t r) x

-- ---- the bytes that were left

-- What holds of the bytes that were read holds of those that were left, where they are told.
pub told-all : (left now : Option (List ℕ)) (bytes : List ℕ) (P : List ℕ → Type 0) → TookAll left now bytes → P bytes → IfSome left P
told-all None now bytes P t p = tt
told-all (Some before) (Some now) bytes P t p = subst P (sym t.0) p
told-all (Some before) None bytes P t p = absurd t

pub told-any : (left : Option (List ℕ)) (P : List ℕ → Type 0) → ((input : List ℕ) → P input) → IfSome left P
told-any None P p = tt
told-any (Some before) P p = p before

-- What follows from what holds of the bytes that were left holds of them, too.
pub told-more : (left : Option (List ℕ)) (P Q : List ℕ → Type 0) → ((input : List ℕ) → P input → Q input) → IfSome left P → IfSome left Q
told-more None P Q more p = tt
told-more (Some before) P Q more p = more before p

-- Where more than the limit was taken, more was left.
pub told-long : (most : ℕ) (left now : Option (List ℕ)) (P : List ℕ → Type 0) → IfSome left (λ before. TookMoreThan most before now) → ((input : List ℕ) → most < length input → P input) → IfSome left P
told-long most None now P t p = tt
told-long most (Some before) None P t p = absurd t
told-long most (Some before) (Some now) P t p = p before (omega (arith, t))

-- What holds anyway holds where more than the limit was taken, too.
pub told-anyway : (most : ℕ) (left now : Option (List ℕ)) (P : Type 0) → P → IfSome left (λ before. TookMoreThan most before now → P)
told-anyway most None now P p = tt
told-anyway most (Some before) now P p = λ more. p

-- ---- statuses

-- One of three statuses, where the third is ruled out.
pub finishes-well : (status wanted : ℕ) → (status ≡ wanted) ⊎ ((status ≡ 5) ⊎ (status ≡ 4)) → (status ≡ 4 → ⊥) → (status ≡ wanted) ⊎ (status ≡ 5)
finishes-well status wanted (inl e) never = inl e
finishes-well status wanted (inr (inl e)) never = inr e
finishes-well status wanted (inr (inr e)) never = absurd (never e)
