-- The place of a name among the names of a script, and its kind.
use Rattle.std.proofs.Common.{◌≡◌, ◌<◌, ◌≤◌, ℕ, suc, Bool, true, false, cond, List, [], ◌∷◌, map, length, slice_get, get_or, Some, None, refl, sym, ap, ◌∙◌, arith}
use Rattle.std.specs.Prelude.{position, nat_lt}
use Rattle.std.specs.List.{position_or_len, find}
use Rattle.std.specs.Option.{option_map}
use Rattle.std.specs.Map.{keys_of}
use Rattle.std.specs.Str.{bytes_eq}
use Rattle.std.proofs.lemmas.Bool.Decides.{nat_tests}
use Rattle.std.proofs.lemmas.List.{length-map}
use Rattle.std.proofs.lemmas.List.Folds.{find_at}
use Rattle.std.proofs.lemmas.Option.{cond_some, slice_get-get_or, slice_get_past}
use Rattle.thr_text.specs.Tables.{kind_in}
use Rattle.thr_journal_lines.specs.declared.names.Known.{Known}
use Rattle.thr_journal_lines.specs.Known.{entries_in}

place_by : (p : List ℕ → Bool) (k : Known) (ks : List Known) (b : Bool) → p k.name ≡ b → position_or_len p (keys_of (entries_in ks)) ≡ position_or_len (λ (x : Known). p x.name) ks
    → position_or_len p (keys_of (entries_in (k ∷ ks))) ≡ position_or_len (λ (x : Known). p x.name) (k ∷ ks)
place_by p k ks true e more = rw e refl
place_by p k ks false e more = rw e (omega (arith, more))

place_or_end : (p : List ℕ → Bool) (ks : List Known) → position_or_len p (keys_of (entries_in ks)) ≡ position_or_len (λ (x : Known). p x.name) ks
place_or_end p [] = refl
place_or_end p (k ∷ ks) = place_by p k ks (p k.name) refl (place_or_end p ks)

as_many : (ks : List Known) → length (keys_of (entries_in ks)) ≡ length ks
as_many [] = refl
as_many (k ∷ ks) = ap suc (as_many ks)

pub position_keys : (p : List ℕ → Bool) (ks : List Known) → position p (keys_of (entries_in ks)) ≡ position (λ (x : Known). p x.name) ks
position_keys p ks = ap (λ (m : ℕ). cond (nat_lt m (length (keys_of (entries_in ks)))) (Some m) None) (place_or_end p ks) ∙ ap (λ (n : ℕ). cond (nat_lt (position_or_len (λ (x : Known). p x.name) ks) n) (Some (position_or_len (λ (x : Known). p x.name) ks)) None) (as_many ks)

-- ---- kinds

kind_by : (text : List ℕ) (k : Known) (ks : List Known) (b : Bool) → bytes_eq text k.name ≡ b → kind_in (entries_in ks) text ≡ option_map (λ (x : Known). x.kind) (find (λ (x : Known). bytes_eq text x.name) ks)
    → kind_in (entries_in (k ∷ ks)) text ≡ option_map (λ (x : Known). x.kind) (find (λ (x : Known). bytes_eq text x.name) (k ∷ ks))
unfolding kind_in
kind_by text k ks true e more = rw e refl
kind_by text k ks false e more = rw e more

kind_found : (text : List ℕ) (ks : List Known) → kind_in (entries_in ks) text ≡ option_map (λ (x : Known). x.kind) (find (λ (x : Known). bytes_eq text x.name) ks)
unfolding kind_in
kind_found text [] = refl
kind_found text (k ∷ ks) = kind_by text k ks (bytes_eq text k.name) refl (kind_found text ks)

kind_at_place : (text : List ℕ) (ks : List Known) → kind_in (entries_in ks) text ≡ option_map (λ (x : Known). x.kind) (slice_get ks (position_or_len (λ (x : Known). bytes_eq text x.name) ks))
kind_at_place text ks = kind_found text ks ∙ ap (option_map (λ (x : Known). x.kind)) (find_at (λ (x : Known). bytes_eq text x.name) ks)

-- The kind of a name that has a place.
pub kind_there : (text : List ℕ) (ks : List Known) (n : ℕ) (k : Known) → Some n ≡ position (λ (x : Known). bytes_eq text x.name) ks → n < length ks → Some (get_or ks n k).kind ≡ kind_in (entries_in ks) text
kind_there text ks n k e lt = sym (kind_at_place text ks ∙ ap (λ (i : ℕ). option_map (λ (x : Known). x.kind) (slice_get ks i)) same ∙ ap (option_map (λ (x : Known). x.kind)) (slice_get-get_or ks n k lt))
  where
    place : ℕ
    place = position_or_len (λ (x : Known). bytes_eq text x.name) ks

    same : place ≡ n
    same = (cond_some (nat_lt place (length ks)) place n (sym e)).1

no_place : (b : Bool) (n : ℕ) → None ≡ cond b (Some n) None → b ≡ false
no_place true n e = absurd cc
no_place false n e = refl

not_within : (n m : ℕ) → nat_lt n m ≡ false → m ≤ n
not_within n m e = grind (arith, nat_tests)

-- A name that has no place has no kind.
pub no_kind : (text : List ℕ) (ks : List Known) → None ≡ position (λ (x : Known). bytes_eq text x.name) ks → None ≡ kind_in (entries_in ks) text
no_kind text ks e = sym (kind_at_place text ks ∙ ap (option_map (λ (x : Known). x.kind)) (slice_get_past ks place (not_within place (length ks) (no_place (nat_lt place (length ks)) place e))))
  where
    place : ℕ
    place = position_or_len (λ (x : Known). bytes_eq text x.name) ks

-- ---- fixed words

word_by : {A : Type 0} (p : List ℕ → Bool) (f : A → List ℕ) (x : A) (xs : List A) (b : Bool) → p (f x) ≡ b → position_or_len p (map f xs) ≡ position_or_len (λ (y : A). p (f y)) xs
    → position_or_len p (map f (x ∷ xs)) ≡ position_or_len (λ (y : A). p (f y)) (x ∷ xs)
word_by p f x xs true e more = rw e refl
word_by p f x xs false e more = rw e (omega (arith, more))

word_or_end : {A : Type 0} (p : List ℕ → Bool) (f : A → List ℕ) (xs : List A) → position_or_len p (map f xs) ≡ position_or_len (λ (y : A). p (f y)) xs
word_or_end p f [] = refl
word_or_end p f (x ∷ xs) = word_by p f x xs (p (f x)) refl (word_or_end p f xs)

pub position_map : {A : Type 0} (p : List ℕ → Bool) (f : A → List ℕ) (xs : List A) → position p (map f xs) ≡ position (λ (y : A). p (f y)) xs
position_map p f xs =
    ap (λ (m : ℕ). cond (nat_lt m (length (map f xs))) (Some m) None) (word_or_end p f xs)
    ∙ ap (λ (n : ℕ). cond (nat_lt (position_or_len (λ (y : _). p (f y)) xs) n) (Some (position_or_len (λ (y : _). p (f y)) xs)) None) (length-map xs f)
