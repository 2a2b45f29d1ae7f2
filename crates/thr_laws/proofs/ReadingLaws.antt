-- Tests that run along the lines, and over the items of a list.
use Rattle.std.proofs.Common.{◌≡◌, Bool, true, false, ◌&&◌, ◌||◌, List, [], ◌∷◌, refl, sym}
use Rattle.std.proofs.lemmas.Bool.{false≢true}
use Rattle.std.specs.List.{list_all}
use Rattle.thr_laws.specs.Lines.{fits, implies}

-- ---- truth values

pub both : (a b : Bool) → (a && b) ≡ true → (a ≡ true) × (b ≡ true)
both true b e = (refl, e)
both false b e = absurd (false≢true e)

pub and_both : (a b : Bool) → a ≡ true → b ≡ true → (a && b) ≡ true
and_both true b e f = f
and_both false b e f = e

pub neither : (a b : Bool) → (a || b) ≡ false → (a ≡ false) × (b ≡ false)
neither true b e = absurd (false≢true (sym e))
neither false b e = (refl, e)

pub implied_by_false : (a b : Bool) → implies (a && false) b ≡ true
implied_by_false true b = refl
implied_by_false false b = refl

-- ---- lists

-- What holds of each item passes.
pub each_passes : {A : Type 0} (p : A → Bool) → ((x : A) → p x ≡ true) → (xs : List A) → list_all p xs ≡ true
each_passes p h [] = refl
each_passes p h (x ∷ xs) = and_both (p x) (list_all p xs) (h x) (each_passes p h xs)

-- P holds of each line.
abbrev pub AllLines : {B : Type 0} → (B → Type 0) → List B → Type 0
AllLines P [] = Unit {0}
AllLines P (b ∷ bs) = P b × AllLines P bs

-- ---- along the lines

-- A test that lines of a kind pass, as long as something is known that they keep.
pub fits_keeping : {A B : Type 0} (next : A → B → A) (test : A → B → Bool) (Inv : A → Type 0) (P : B → Type 0)
    → ((a : A) (b : B) → Inv a → P b → Inv (next a b)) → ((a : A) (b : B) → Inv a → P b → test a b ≡ true)
    → (a : A) (bs : List B) → Inv a → AllLines P bs → fits next test a bs ≡ true
fits_keeping next test Inv P keeps passes a [] i ps = refl
fits_keeping next test Inv P keeps passes a (b ∷ bs) i ps =
    and_both (test a b) (fits next test (next a b) bs) (passes a b i ps.0) (fits_keeping next test Inv P keeps passes (next a b) bs (keeps a b i ps.0) ps.1)

-- A test that lines of a kind always pass.
pub fits_always : {A B : Type 0} (next : A → B → A) (test : A → B → Bool) (P : B → Type 0)
    → ((a : A) (b : B) → P b → test a b ≡ true) → (a : A) (bs : List B) → AllLines P bs → fits next test a bs ≡ true
fits_always next test P passes a [] ps = refl
fits_always next test P passes a (b ∷ bs) ps =
    and_both (test a b) (fits next test (next a b) bs) (passes a b ps.0) (fits_always next test P passes (next a b) bs ps.1)
