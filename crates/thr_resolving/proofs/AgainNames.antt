-- A spelled name is resolved to what it names.
use Rattle.std.proofs.Common.{◌≡◌, ℕ, zero, suc, ◌<◌, Bool, true, false, List, [], ◌∷◌, length, refl, ap, subst, ◌∙◌, inl, inr, Option, arith}
use Rattle.std.specs.Prelude.{◌⊎◌, ◌||◌, nat_lt, unwrap_or}
use Rattle.std.specs.List.{list_all, list_any}
use Rattle.std.specs.Str.{bytes_eq}
use Rattle.std.proofs.lemmas.Bool.{cases_Bool, or_parts}
use Rattle.std.proofs.lemmas.Bool.Decides.{nat_tests}
use Rattle.std.proofs.lemmas.Slice.Eq.{bytes_eq-Decides}
use Rattle.thr_values.specs.declared.number.NameId.{NameId}
use Rattle.thr_syntax.specs.declared.expr.Var.{Var}
use Rattle.thr_syntax.specs.declared.expr.Var.TheVariants.{Local, Shared}
use Rattle.thr_syntax.specs.Spelling.{Scope, name_at, name_of, local_of, variable_of}
use Rattle.thr_text.specs.declared.word.Word.{Word}
use Rattle.thr_text.specs.declared.word.Word.TheVariants.{Name, Mark}
use Rattle.thr_text.specs.Names.{is_name}
use Rattle.thr_text.specs.Lexing.{word_of}
use Rattle.thr_text.specs.Tables.{is_among}
use Rattle.thr_naming.specs.Ids.{id_at}
use Rattle.thr_lexer.proofs.Canon.{and_both}
use Rattle.thr_resolving.specs.Resolving.{no_id, place_at, id_in, place_in, is_local, variable_in}
use Rattle.thr_resolving.specs.Scopes.{IsScope}
use Rattle.thr_resolving.proofs.AgainWords.{IsProper, name_word, name_proper, nothing_word}

-- The name at a place among these.
pub record IsKnown (names : List (List ℕ)) (place : ℕ) : Type 0 where
  pub below : place < length names
  pub name : is_name (name_at names place) ≡ true

known_or_none : (names : List (List ℕ)) (place : ℕ) → list_all is_name names ≡ true → IsKnown names place ⊎ (name_at names place ≡ [])
known_or_none [] place e = inr refl
known_or_none (n ∷ names) zero e = inl (record { below = omega arith; name = (and_both (is_name n) (list_all is_name names) e).0 })
known_or_none (n ∷ names) (suc place) e = elim (known_or_none names place (and_both (is_name n) (list_all is_name names) e).1) [
  | inl k ↦ inl (record { below = let b = k.below in omega (arith, b); name = k.name })
  | inr none ↦ inr none
]

-- A word that passes a test, which the word of no text fails, is that of a name.
pub known : (test : Word → Bool) → test (Mark []) ≡ false → (names : List (List ℕ)) (place : ℕ) → list_all is_name names ≡ true
    → test (word_of (name_at names place)) ≡ true → IsKnown names place
known test fails names place e passes = elim (known_or_none names place e) [
  | inl k ↦ k
  | inr none ↦ absurd (let p : test (Mark []) ≡ true = subst (λ (w : Word). test w ≡ true) (ap word_of none ∙ nothing_word) passes in cc)
]

pub known_word : (names : List (List ℕ)) (place : ℕ) → IsKnown names place → word_of (name_at names place) ≡ Name (name_at names place)
known_word names place k = name_word (name_at names place) k.name

pub known_proper : (names : List (List ℕ)) (place : ℕ) → IsKnown names place → IsProper (name_at names place)
known_proper names place k = name_proper (name_at names place) k.name

-- ---- what is declared for the whole script

pub id_again : (scope : Scope) (id : NameId) → IsScope scope → IsKnown scope.names id.0 → id_in scope (word_of (name_of scope id)) ≡ id
id_again scope id s k =
    let below : nat_lt id.0 65536 ≡ true = grind (arith, nat_tests, k.below, s.few) in
    rw (known_word scope.names id.0 k) (ap (λ (o : Option ℕ). unwrap_or (id_at o) no_id) (s.distinct id.0 k.below) ∙ rw below refl)

-- ---- the parameter and the locals

place_again : (scope : Scope) (place : ℕ) → IsScope scope → IsKnown scope.locals place → place_in scope (word_of (local_of scope place)) ≡ place
place_again scope place s k =
    let below : nat_lt place 256 ≡ true = grind (arith, nat_tests, k.below, s.few_locals) in
    rw (known_word scope.locals place k) (ap place_at (s.distinct_locals place k.below) ∙ rw below refl)

is_among_at : (names : List (List ℕ)) (place : ℕ) → place < length names → is_among names (name_at names place) ≡ true
is_among_at [] place lt = absurd (omega (arith, lt))
is_among_at (n ∷ names) zero lt = rw ((bytes_eq-Decides n n).1 refl) refl
is_among_at (n ∷ names) (suc place) lt = or_true (bytes_eq (name_at names place) n) (is_among names (name_at names place)) (is_among_at names place (omega (arith, lt)))
  where
    or_true : (a b : Bool) → b ≡ true → (a || b) ≡ true
    or_true true b e = refl
    or_true false b e = e

among_apart : (names locals : List (List ℕ)) → list_any (is_among names) locals ≡ false → (text : List ℕ) → is_among names text ≡ true → is_among locals text ≡ false
among_apart names [] e text h = refl
among_apart names (l ∷ locals) e text h =
    let p = or_parts (is_among names l) (list_any (is_among names) locals) e in
    elim (cases_Bool (bytes_eq text l)) [
      | inl same ↦ absurd (let x : is_among names l ≡ true = subst (λ (t : List ℕ). is_among names t ≡ true) ((bytes_eq-Decides text l).0 same) h in cc (x, p.0))
      | inr other ↦ rw other (among_apart names locals p.1 text h)
    ]

-- ---- variables and exceptions

local_again : (scope : Scope) (place : ℕ) → IsScope scope → IsKnown scope.locals place → variable_in scope (word_of (local_of scope place)) ≡ Local place
local_again scope place s k =
    let local : is_local scope (word_of (local_of scope place)) ≡ true = rw (known_word scope.locals place k) (is_among_at scope.locals place k.below) in
    rw local (ap Local (place_again scope place s k))

shared_again : (scope : Scope) (id : NameId) → IsScope scope → IsKnown scope.names id.0 → variable_in scope (word_of (name_of scope id)) ≡ Shared id
shared_again scope id s k =
    let other : is_local scope (word_of (name_of scope id)) ≡ false = rw (known_word scope.names id.0 k) (among_apart scope.names scope.locals s.apart (name_of scope id) (is_among_at scope.names id.0 k.below)) in
    rw other (ap Shared (id_again scope id s k))

-- The word of a variable, where it isn't that of no text.
pub record IsVariable (scope : Scope) (v : Var) : Type 0 where
  pub name : is_name (variable_of scope v) ≡ true
  pub again : variable_in scope (word_of (variable_of scope v)) ≡ v

pub variable_again : (test : Word → Bool) → test (Mark []) ≡ false → (scope : Scope) (v : Var) → IsScope scope → test (word_of (variable_of scope v)) ≡ true → IsVariable scope v
variable_again test fails scope (Local place) s passes =
    let k = known test fails scope.locals place s.locals passes in
    record { name = k.name; again = local_again scope place s k }
variable_again test fails scope (Shared id) s passes =
    let k = known test fails scope.names id.0 s.names passes in
    record { name = k.name; again = shared_again scope id s k }

pub place_found : (test : Word → Bool) → test (Mark []) ≡ false → (scope : Scope) (place : ℕ) → IsScope scope → test (word_of (local_of scope place)) ≡ true
    → (is_name (local_of scope place) ≡ true) × (place_in scope (word_of (local_of scope place)) ≡ place)
place_found test fails scope place s passes =
    let k = known test fails scope.locals place s.locals passes in
    (k.name, place_again scope place s k)

pub id_found : (test : Word → Bool) → test (Mark []) ≡ false → (scope : Scope) (id : NameId) → IsScope scope → test (word_of (name_of scope id)) ≡ true
    → (is_name (name_of scope id) ≡ true) × (id_in scope (word_of (name_of scope id)) ≡ id)
id_found test fails scope id s passes =
    let k = known test fails scope.names id.0 s.names passes in
    (k.name, id_again scope id s k)
