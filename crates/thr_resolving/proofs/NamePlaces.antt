-- A name that is declared is found, and stands at the place where it is found.
use Rattle.std.proofs.Common.{◌≡◌, ℕ, ◌<◌, ◌≤◌, Bool, true, false, cond, List, [], ◌∷◌, length, get_or, position, Option, Some, is_some, refl, sym, ap, ◌∙◌, inl, inr, arith}
use Rattle.std.specs.Prelude.{◌||◌, nat_lt, unwrap_or}
use Rattle.std.specs.List.{list_any, position_or_len}
use Rattle.std.specs.Map.{keys_of}
use Rattle.std.specs.Str.{bytes_eq}
use Rattle.std.proofs.lemmas.Bool.{cases_Bool}
use Rattle.std.proofs.lemmas.Bool.Decides.{nat_tests}
use Rattle.std.proofs.lemmas.Grind.{common_steps}
use Rattle.std.proofs.lemmas.List.Quantifiers.{position-Some}
use Rattle.std.proofs.lemmas.Map.Entries.{length-keys_of}
use Rattle.std.proofs.lemmas.Option.{unwrap_or-slice_get}
use Rattle.std.proofs.lemmas.Slice.Eq.{bytes_eq-Decides}
use Rattle.thr_syntax.specs.Spelling.{name_at}
use Rattle.thr_text.specs.declared.object.Object as kinds
use Rattle.thr_text.specs.Tables.{Entry, kind_in, is_among, is_declared}
use Rattle.thr_naming.specs.Ids.{id_at}
use Rattle.thr_resolving.specs.Resolving.{no_id, id_of, place_at, place_of}

-- ---- the place of a name

some_place : {X : Type 0} (p : X → Bool) (xs : List X) → list_any p xs ≡ true → position_or_len p xs < length xs
some_place p [] e = absurd cc
some_place p (x ∷ xs) e = elim (cases_Bool (p x)) [
  | inl is ↦ rw is (omega arith)
  | inr other ↦ let more = some_place p xs (rw other at e) in rw other (omega arith)
]

some_position : {X : Type 0} (p : X → Bool) (xs : List X) → list_any p xs ≡ true → (i : ℕ) × (position p xs ≡ Some i)
some_position p xs e = let small = some_place p xs e in (position_or_len p xs, grind (arith, common_steps))

pub record IsFound (names : List (List ℕ)) (text : List ℕ) : Type 0 where
  pub place : ℕ
  pub at : position (bytes_eq text) names ≡ Some place
  pub inside : place < length names
  pub same : name_at names place ≡ text

pub found : (names : List (List ℕ)) (text : List ℕ) → is_among names text ≡ true → IsFound names text
found names text e =
    let some = some_position (bytes_eq text) names e in
    let is = position-Some (bytes_eq text) names some.0 [] some.1 in
    record {
      place = some.0;
      at = some.1;
      inside = is.0;
      same = unwrap_or-slice_get names some.0 [] ∙ sym ((bytes_eq-Decides text (get_or names some.0 [])).0 is.1);
    }

-- ---- as an id, and as a place among parameter and locals

id_small : (n : ℕ) → n < 65536 → (unwrap_or (id_at (Some n)) no_id).0 ≡ n
id_small n small = let test : nat_lt n 65536 ≡ true = grind (arith, nat_tests) in rw test refl

pub id_found : (names : List (List ℕ)) (text : List ℕ) → length names ≤ 65536 → is_among names text ≡ true → name_at names (id_of names text).0 ≡ text
id_found names text few e =
    let is = found names text e in
    ap (λ (o : Option ℕ). name_at names (unwrap_or (id_at o) no_id).0) is.at
    ∙ ap (name_at names) (id_small is.place (omega (arith, is.inside)))
    ∙ is.same

place_small : (n : ℕ) → n < 256 → place_at (Some n) ≡ n
place_small n small = let test : nat_lt n 256 ≡ true = grind (arith, nat_tests) in rw test refl

pub place_found : (locals : List (List ℕ)) (text : List ℕ) → length locals ≤ 16 → is_among locals text ≡ true → name_at locals (place_of locals text) ≡ text
place_found locals text few e =
    let is = found locals text e in
    ap (λ (o : Option ℕ). name_at locals (place_at o)) is.at
    ∙ ap (name_at locals) (place_small is.place (omega (arith, is.inside)))
    ∙ is.same

-- ---- entries and their names

declared_step : (b : Bool) (kind : kinds.Object) (more : Option kinds.Object) → is_some (cond b (Some kind) more) ≡ (b || is_some more)
declared_step true kind more = refl
declared_step false kind more = refl

pub declared_among : (entries : List Entry) (text : List ℕ) → is_declared entries text ≡ is_among (keys_of entries) text
unfolding kind_in
declared_among [] text = refl
declared_among (e ∷ es) text =
    declared_step (bytes_eq text e.0) e.1 (kind_in es text) ∙ ap (λ (b : Bool). bytes_eq text e.0 || b) (declared_among es text)

pub entry_found : (entries : List Entry) (text : List ℕ) → length entries ≤ 65536 → is_declared entries text ≡ true → name_at (keys_of entries) (id_of (keys_of entries) text).0 ≡ text
entry_found entries text few e = id_found (keys_of entries) text (omega (arith, length-keys_of entries)) (sym (declared_among entries text) ∙ e)
