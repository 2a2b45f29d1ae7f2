-- Names of which each is new are found at their own places.
use Rattle.std.proofs.Common.{◌≡◌, ℕ, zero, suc, ◌<◌, ◌≤◌, Bool, true, false, List, [], ◌∷◌, ◌++◌, length, get_or, Option, Some, refl, ap, sym, ◌∙◌, subst, is_some, position, length-append, arith}
use Rattle.std.specs.Prelude.{◌||◌, nat_lt, if◌then◌else◌}
use Rattle.std.specs.List.{list_any, position_or_len}
use Rattle.std.specs.Map.{keys_of}
use Rattle.std.specs.Str.{bytes_eq}
use Rattle.std.proofs.lemmas.Bool.Decides.{nat_tests}
use Rattle.std.proofs.lemmas.List.{append-nil, get_or_append_left, map-append}
use Rattle.std.proofs.lemmas.List.Folds.{list_any_at}
use Rattle.std.proofs.lemmas.List.Quantifiers.{position-Some}
use Rattle.std.proofs.lemmas.List.Sums.{position_or_len_is}
use Rattle.std.proofs.lemmas.Option.{unwrap_or-slice_get}
use Rattle.std.proofs.lemmas.Slice.Eq.{bytes_eq-Decides}
use Rattle.std.proofs.Math.Seq.{get_or-append_seam}
use Rattle.thr_values.specs.Exceptions.{builtin_names}
use Rattle.thr_syntax.specs.Spelling.{name_at}
use Rattle.thr_text.specs.declared.object.Object as kinds
use Rattle.thr_text.specs.Tables.{Entry, kind_in, is_among, is_declared}
use Rattle.thr_resolving.specs.Scopes.{AreDistinct}

-- ---- one name more

name_got : (names : List (List ℕ)) (i : ℕ) → name_at names i ≡ get_or names i []
name_got names i = unwrap_or-slice_get names i []

placed_at : (p : List ℕ → Bool) (names : List (List ℕ)) (i : ℕ) → i < length names → ((k : ℕ) → k < i → p (get_or names k []) ≡ false) → p (get_or names i []) ≡ true → position p names ≡ Some i
placed_at p names i lt before here =
    let at : position_or_len p names ≡ i = position_or_len_is p names i [] (omega (arith, lt)) before (λ l. here) in
    let in_it : nat_lt i (length names) ≡ true = grind (arith, nat_tests) in
    rw at (rw in_it refl)

not_at : (p : List ℕ → Bool) (names : List (List ℕ)) (k : ℕ) → list_any p names ≡ false → k < length names → p (get_or names k []) ≡ false
not_at p names k none lt = by (p (get_or names k [])) refl
  where
    by : (b : Bool) → p (get_or names k []) ≡ b → p (get_or names k []) ≡ false
    by true is = let some : list_any p names ≡ true = list_any_at p names k [] lt is in absurd cc
    by false is = is

itself : (name : List ℕ) → bytes_eq name name ≡ true
itself name = (bytes_eq-Decides name name).1 refl

pub distinct_more : (names : List (List ℕ)) (name : List ℕ) → AreDistinct names → is_among names name ≡ false → AreDistinct (names ++ name ∷ [])
distinct_more names name distinct new i lt = by (nat_lt i (length names)) refl
  where
    kept : (k : ℕ) → k < length names → get_or (names ++ name ∷ []) k [] ≡ get_or names k []
    kept k within = get_or_append_left names (name ∷ []) [] k within

    by : (b : Bool) → nat_lt i (length names) ≡ b → position (bytes_eq (name_at (names ++ name ∷ []) i)) (names ++ name ∷ []) ≡ Some i
    by true is =
        let within : i < length names = grind (arith, nat_tests, is) in
        let same : name_at (names ++ name ∷ []) i ≡ name_at names i = name_got (names ++ name ∷ []) i ∙ kept i within ∙ sym (name_got names i) in
        let test : List ℕ → Bool = bytes_eq (name_at names i) in
        let found = position-Some test names i [] (distinct i within) in
        ap (λ (n : List ℕ). position (bytes_eq n) (names ++ name ∷ [])) same
        ∙ placed_at test (names ++ name ∷ []) i lt (λ k below. ap test (kept k (omega (arith, below, within))) ∙ found.2 k below) (ap test (kept i within) ∙ found.1)
    by false is =
        let past : length names ≤ i = grind (arith, nat_tests, is) in
        let last : i ≡ length names = omega (arith, past, lt, length-append names (name ∷ [])) in
        let got : get_or (names ++ name ∷ []) i [] ≡ name = ap (λ (k : ℕ). get_or (names ++ name ∷ []) k []) last ∙ get_or-append_seam names name [] [] in
        ap (λ (n : List ℕ). position (bytes_eq n) (names ++ name ∷ [])) (name_got (names ++ name ∷ []) i ∙ got)
        ∙ placed_at (bytes_eq name) (names ++ name ∷ []) i lt
        (λ k below. let within : k < length names = omega (arith, below, last) in ap (bytes_eq name) (kept k within) ∙ not_at (bytes_eq name) names k new within)
        (ap (bytes_eq name) got ∙ itself name)

pub distinct_none : AreDistinct []
distinct_none i lt = absurd (omega (arith, lt))

pub distinct_own : (names own : List (List ℕ)) → AreDistinct names → length own ≤ 1 → list_any (is_among names) own ≡ false → AreDistinct (names ++ own)
distinct_own names [] distinct few new = subst AreDistinct (sym (append-nil names)) distinct
distinct_own names (n ∷ []) distinct few new = distinct_more names n distinct (or_false (is_among names n) new)
  where
    or_false : (b : Bool) → (b || false) ≡ false → b ≡ false
    or_false true h = absurd cc
    or_false false h = refl
distinct_own names (n ∷ m ∷ own) distinct few new = absurd (omega (arith, few))

pub distinct_alone : (own : List (List ℕ)) → length own ≤ 1 → AreDistinct own
distinct_alone [] few = distinct_none
distinct_alone (n ∷ []) few = distinct_more [] n distinct_none refl
distinct_alone (n ∷ m ∷ own) few = absurd (omega (arith, few))

-- ---- entries

either_way : (b : Bool) (k : kinds.Object) (o : Option kinds.Object) (c : Bool) → c ≡ is_some o → (b || c) ≡ is_some (if b then Some k else o)
either_way true k o c e = refl
either_way false k o c e = e

pub among_keys : (es : List Entry) (name : List ℕ) → is_among (keys_of es) name ≡ is_declared es name
unfolding kind_in
among_keys [] name = refl
among_keys (e ∷ es) name = either_way (bytes_eq name e.0) e.1 (kind_in es name) (is_among (keys_of es) name) (among_keys es name)

pub distinct_entries : (es ds : List Entry) → AreDistinct (keys_of es) → length ds ≤ 1 → ((d : Entry) (rest : List Entry) → ds ≡ d ∷ rest → is_declared es d.0 ≡ false) → AreDistinct (keys_of (es ++ ds))
distinct_entries es [] distinct few new = subst (λ (all : List Entry). AreDistinct (keys_of all)) (sym (append-nil es)) distinct
distinct_entries es (d ∷ []) distinct few new =
    subst AreDistinct (sym (map-append (λ (e : Entry). e.0) es (d ∷ []))) (distinct_more (keys_of es) d.0 distinct (among_keys es d.0 ∙ new d [] refl))
distinct_entries es (d ∷ e ∷ ds) distinct few new = absurd (omega (arith, few))

-- ---- the built-in names

pub distinct_builtin : AreDistinct builtin_names
distinct_builtin zero lt = refl
distinct_builtin (suc zero) lt = refl
distinct_builtin (suc (suc zero)) lt = refl
distinct_builtin (suc (suc (suc zero))) lt = refl
distinct_builtin (suc (suc (suc (suc zero)))) lt = refl
distinct_builtin (suc (suc (suc (suc (suc zero))))) lt = refl
distinct_builtin (suc (suc (suc (suc (suc (suc zero)))))) lt = refl
distinct_builtin (suc (suc (suc (suc (suc (suc (suc zero))))))) lt = refl
distinct_builtin (suc (suc (suc (suc (suc (suc (suc (suc zero)))))))) lt = refl
distinct_builtin (suc (suc (suc (suc (suc (suc (suc (suc (suc zero))))))))) lt = refl
distinct_builtin (suc (suc (suc (suc (suc (suc (suc (suc (suc (suc i)))))))))) lt = absurd (omega (arith, lt))
