-- The arguments of a call's line are told from their words.
use Rattle.std.proofs.Common.{◌≡◌, ℕ, ℤ, pos, negsuc, zero, suc, ◌<◌, ◌≤◌, ◌^◌, Bool, true, false, List, [], ◌∷◌, ◌++◌, length, ◌⊎◌, inl, inr, refl, sym, ◌∙◌, ap, arith}
use Rattle.std.specs.Prelude.{◌==◌, ◌&&◌, nat_lt, nat_le, codes}
use Rattle.std.specs.List.{list_all}
use Rattle.std.specs.Fmt.{decimal, signed_decimal}
use Rattle.std.proofs.lemmas.Bool.{and_parts, false≢true}
use Rattle.std.proofs.lemmas.Bool.Decides.{nat_tests}
use Rattle.std.proofs.lemmas.Fmt.{decimal_nonempty}
use Rattle.thr_values.specs.Words.{policy_words, kind_words, inherit_words, cancel_words}
use Rattle.thr_values.specs.declared.number.NameId.{NameId}
use Rattle.thr_values.specs.declared.call.CallWord.{CallWord}
use Rattle.thr_values.specs.declared.call.CallWord.TheVariants as call
use Rattle.thr_values.specs.declared.call.Arg.{Arg}
use Rattle.thr_values.specs.declared.call.Arg.TheVariants as arg
use Rattle.thr_syntax.specs.declared.tree.Script.{Script}
use Rattle.thr_syntax.specs.Spelling.{name_at}
use Rattle.thr_text.specs.declared.head.Slot.{Slot}
use Rattle.thr_text.specs.declared.head.Slot.TheVariants.{Fixed, Object, ObjectOr, Expression}
use Rattle.thr_text.specs.declared.object.Object as kinds
use Rattle.thr_text.specs.Names.{reserved_words, is_reserved, is_name}
use Rattle.thr_text.specs.Slots.{call_slots, choice_words}
use Rattle.thr_text.specs.Journals.{name_word, fixed_words, arg_words, args_words}
use Rattle.thr_text.specs.Reading.{Formed}
use Rattle.thr_resolving.specs.Scopes.{AreDistinct}
use Rattle.thr_trees.specs.Kinds.{is_name_of}
use Rattle.thr_trees.proofs.Places.{same_place}
use Rattle.thr_verdict.specs.Places.{fits_signed, places_of, suits, is_absent, fill, have_their_form}
use Rattle.thr_exactness.specs.Arguments.{stand_in_front}
use Rattle.thr_exactness.proofs.Decimals.{signed_one}
use Rattle.thr_exactness.proofs.FormedNames.{IsNameOrNone, are_names, name_or_none, none_behind, starts_with_letter, name_starts, name_some, not_reserved, known_name, same_name}
use Rattle.thr_exactness.proofs.LineKinds.{number_starts}

-- ---- the fixed words of calls

policies_distinct : AreDistinct policy_words
policies_distinct zero h = refl
policies_distinct (suc zero) h = refl
policies_distinct (suc (suc zero)) h = refl
policies_distinct (suc (suc (suc zero))) h = refl
policies_distinct (suc (suc (suc (suc n)))) h = absurd (omega (arith, h))

kinds_distinct : AreDistinct kind_words
kinds_distinct zero h = refl
kinds_distinct (suc zero) h = refl
kinds_distinct (suc (suc zero)) h = refl
kinds_distinct (suc (suc (suc n))) h = absurd (omega (arith, h))

inherits_distinct : AreDistinct inherit_words
inherits_distinct zero h = refl
inherits_distinct (suc zero) h = refl
inherits_distinct (suc (suc n)) h = absurd (omega (arith, h))

cancels_distinct : AreDistinct cancel_words
cancels_distinct zero h = refl
cancels_distinct (suc zero) h = refl
cancels_distinct (suc (suc n)) h = absurd (omega (arith, h))

default_distinct : AreDistinct (codes "default" ∷ [])
default_distinct zero h = refl
default_distinct (suc n) h = absurd (omega (arith, h))

none_distinct : AreDistinct (codes "none" ∷ [])
none_distinct zero h = refl
none_distinct (suc n) h = absurd (omega (arith, h))

nothing_distinct : AreDistinct []
nothing_distinct n h = absurd (omega (arith, h))

fixed_distinct : (c : CallWord) → AreDistinct (fixed_words c)
fixed_distinct call.AttrSetsched = policies_distinct
fixed_distinct call.AttrSetinheritsched = inherits_distinct
fixed_distinct call.Create = default_distinct
fixed_distinct call.Setcancel = cancels_distinct
fixed_distinct call.Setasynccancel = cancels_distinct
fixed_distinct call.Setscheduler = policies_distinct
fixed_distinct call.MutexattrSetkindNp = kinds_distinct
fixed_distinct call.MutexInit = default_distinct
fixed_distinct call.Keycreate = none_distinct
fixed_distinct _ = nothing_distinct

-- The word is reserved, and begins with a letter.
abbrev is_fixed : List ℕ → Bool
is_fixed w = is_reserved w && starts_with_letter w

fixed_are : (c : CallWord) → list_all is_fixed (fixed_words c) ≡ true
unfolding is_reserved reserved_words
fixed_are call.AttrSetsched = refl
fixed_are call.AttrSetinheritsched = refl
fixed_are call.Create = refl
fixed_are call.Setcancel = refl
fixed_are call.Setasynccancel = refl
fixed_are call.Setscheduler = refl
fixed_are call.MutexattrSetkindNp = refl
fixed_are call.MutexInit = refl
fixed_are call.Keycreate = refl
fixed_are _ = refl

all_at : (ws : List (List ℕ)) (k : ℕ) → list_all is_fixed ws ≡ true → k < length ws → is_fixed (name_at ws k) ≡ true
all_at [] k h less = absurd (omega (arith, less))
all_at (w ∷ ws) zero h less = (and_parts (is_fixed w) (list_all is_fixed ws) h).0
all_at (w ∷ ws) (suc k) h less = all_at ws k (and_parts (is_fixed w) (list_all is_fixed ws) h).1 (omega (arith, less))

below : (x y : ℕ) → nat_lt x y ≡ true → x < y
below x y f = grind (arith, nat_tests)

-- A word of the call is fixed, or there is none at the place.
fixed_or_none : (ws : List (List ℕ)) (k : ℕ) → list_all is_fixed ws ≡ true → (is_fixed (name_at ws k) ≡ true) ⊎ (name_at ws k ≡ [])
fixed_or_none ws k h = by (nat_lt k (length ws)) refl
  where
    by : (b : Bool) → nat_lt k (length ws) ≡ b → (is_fixed (name_at ws k) ≡ true) ⊎ (name_at ws k ≡ [])
    by true e = inl (all_at ws k h (below k (length ws) e))
    by false e = inr (none_behind ws k e)

-- ---- places

-- The word of a place is one of the call's fixed words.
abbrev slot_fits : CallWord → Slot → Bool
slot_fits c (Fixed choice) = nat_le (length (choice_words choice)) (length (fixed_words c))
slot_fits c (ObjectOr kind) = nat_lt 0 (length (fixed_words c))
slot_fits c _ = true

places_fit : (c : CallWord) → list_all (slot_fits c) (places_of c) ≡ true
unfolding call_slots
places_fit call.AttrCreate = refl
places_fit call.AttrDelete = refl
places_fit call.AttrSetsched = refl
places_fit call.AttrSetprio = refl
places_fit call.AttrSetinheritsched = refl
places_fit call.AttrSetstacksize = refl
places_fit call.Create = refl
places_fit call.Join = refl
places_fit call.Detach = refl
places_fit call.Yield = refl
places_fit call.Cancel = refl
places_fit call.Testcancel = refl
places_fit call.Setcancel = refl
places_fit call.Setasynccancel = refl
places_fit call.Setprio = refl
places_fit call.Getprio = refl
places_fit call.Setscheduler = refl
places_fit call.Getscheduler = refl
places_fit call.DelayNp = refl
places_fit call.GetExpirationNp = refl
places_fit call.MutexattrCreate = refl
places_fit call.MutexattrSetkindNp = refl
places_fit call.MutexattrDelete = refl
places_fit call.MutexInit = refl
places_fit call.MutexDestroy = refl
places_fit call.MutexLock = refl
places_fit call.MutexTrylock = refl
places_fit call.MutexUnlock = refl
places_fit call.LockGlobalNp = refl
places_fit call.UnlockGlobalNp = refl
places_fit call.CondInit = refl
places_fit call.CondDestroy = refl
places_fit call.CondWait = refl
places_fit call.CondTimedwait = refl
places_fit call.CondSignal = refl
places_fit call.CondBroadcast = refl
places_fit call.Once = refl
places_fit call.Keycreate = refl
places_fit call.Setspecific = refl
places_fit call.Getspecific = refl
places_fit call.Read = refl
places_fit call.Write = refl
places_fit call.Close = refl

-- ---- words that clash

no_words : (w : List ℕ) (ws : List (List ℕ)) → (let l : List (List ℕ) = [] in l) ≡ w ∷ ws → ⊥
no_words w ws e = cc

one_word : (v w : List ℕ) → (let l : List (List ℕ) = v ∷ [] in l) ≡ w ∷ [] → v ≡ w
one_word v w e = cc

letters_clash : (v w : List ℕ) → starts_with_letter v ≡ false → starts_with_letter w ≡ true → v ≡ w → ⊥
letters_clash v w f g e = false≢true (sym f ∙ ap starts_with_letter e ∙ g)

none_starts : (t : List ℕ) → t ≡ [] → starts_with_letter t ≡ false
none_starts t e = ap starts_with_letter e

some_number : (v : ℤ) → fits_signed v ≡ true → signed_decimal v ≡ [] → ⊥
some_number (pos n) h e =
    let some : 0 < length (decimal n) = decimal_nonempty n (few n h) in
    let none : length (decimal n) ≡ 0 = ap length e in omega (arith, some, none)
  where
    few : (n : ℕ) → nat_lt n 9223372036854775808 ≡ true → n < 2 ^ 64
    few n h = let less : n < 9223372036854775808 = grind (arith, nat_tests) in omega arith
some_number (negsuc n) h e = absurd (cc)

pub nothing_suits : (s : Script) (p : Slot) → suits s p arg.Nothing ≡ true → ⊥
nothing_suits s Expression h = cc
nothing_suits s _ h = cc

module _ (s : Script) (f : Formed s) (c : CallWord) where
  -- The words of an argument.
  abbrev words : Arg → List (List ℕ)
  words a = arg_words s.names c a

  fixed_at : (k : ℕ) → (is_fixed (name_at (fixed_words c) k) ≡ true) ⊎ (name_at (fixed_words c) k ≡ [])
  fixed_at k = fixed_or_none (fixed_words c) k (fixed_are c)

  named : (m : NameId) → IsNameOrNone (name_word s.names m)
  named m = name_or_none s.names m.0 (are_names s f)

  -- ---- a name

  no_fixed_name : (w t : List ℕ) → is_name t ≡ true → (is_fixed w ≡ true) ⊎ (w ≡ []) → w ≡ t → ⊥
  no_fixed_name w t h (inl x) e = not_reserved t w h (and_parts (is_reserved w) (starts_with_letter w) x).0 (sym e)
  no_fixed_name w t h (inr x) e = name_some t h (sym e ∙ x)

  name_told : (kind : kinds.Object) (a : Arg) (n : NameId) → is_name_of s kind n ≡ true → words a ≡ name_word s.names n ∷ [] → a ≡ arg.Name n
  name_told kind arg.Nothing n h e = absurd (no_words (name_word s.names n) [] e)
  name_told kind (arg.Name m) n h e = ap arg.Name (same_name s f kind m n h (one_word (name_word s.names m) (name_word s.names n) e))
  name_told kind (arg.Num v) n h e =
      absurd (letters_clash (signed_decimal v) (name_word s.names n) (number_starts v) (name_starts (name_word s.names n) (known_name s f kind n h)) (one_word (signed_decimal v) (name_word s.names n) e))
  name_told kind (arg.Word k) n h e =
      absurd (no_fixed_name (name_at (fixed_words c) k) (name_word s.names n) (known_name s f kind n h) (fixed_at k) (one_word (name_at (fixed_words c) k) (name_word s.names n) e))

  -- ---- a number

  no_name_number : (t : List ℕ) (v : ℤ) → fits_signed v ≡ true → IsNameOrNone t → t ≡ signed_decimal v → ⊥
  no_name_number t v h (inl x) e = letters_clash (signed_decimal v) t (number_starts v) (name_starts t x) (sym e)
  no_name_number t v h (inr x) e = some_number v h (sym e ∙ x)

  no_word_number : (w : List ℕ) (v : ℤ) → fits_signed v ≡ true → (is_fixed w ≡ true) ⊎ (w ≡ []) → w ≡ signed_decimal v → ⊥
  no_word_number w v h (inl x) e = letters_clash (signed_decimal v) w (number_starts v) (and_parts (is_reserved w) (starts_with_letter w) x).1 (sym e)
  no_word_number w v h (inr x) e = some_number v h (sym e ∙ x)

  number_told : (a : Arg) (v : ℤ) → fits_signed v ≡ true → words a ≡ signed_decimal v ∷ [] → a ≡ arg.Num v
  number_told arg.Nothing v h e = absurd (no_words (signed_decimal v) [] e)
  number_told (arg.Name m) v h e = absurd (no_name_number (name_word s.names m) v h (named m) (one_word (name_word s.names m) (signed_decimal v) e))
  number_told (arg.Num w) v h e = ap arg.Num (signed_one w v h (one_word (signed_decimal w) (signed_decimal v) e))
  number_told (arg.Word k) v h e = absurd (no_word_number (name_at (fixed_words c) k) v h (fixed_at k) (one_word (name_at (fixed_words c) k) (signed_decimal v) e))

  -- ---- a fixed word

  no_name_word : (t w : List ℕ) → is_fixed w ≡ true → IsNameOrNone t → t ≡ w → ⊥
  no_name_word t w h (inl x) e = not_reserved t w x (and_parts (is_reserved w) (starts_with_letter w) h).0 e
  no_name_word t w h (inr x) e = letters_clash t w (none_starts t x) (and_parts (is_reserved w) (starts_with_letter w) h).1 e

  same_word : (j k : ℕ) → k < length (fixed_words c) → name_at (fixed_words c) j ≡ name_at (fixed_words c) k → j ≡ k
  same_word j k less e = by (nat_lt j (length (fixed_words c))) refl
    where
      by : (b : Bool) → nat_lt j (length (fixed_words c)) ≡ b → j ≡ k
      by true low = same_place (fixed_words c) j k (fixed_distinct c) (below j (length (fixed_words c)) low) less e
      by false high =
          absurd (letters_clash (name_at (fixed_words c) j) (name_at (fixed_words c) k) (none_starts (name_at (fixed_words c) j) (none_behind (fixed_words c) j high))
          (and_parts (is_reserved (name_at (fixed_words c) k)) (starts_with_letter (name_at (fixed_words c) k)) (all_at (fixed_words c) k (fixed_are c) less)).1 e)

  word_told : (a : Arg) (k : ℕ) → k < length (fixed_words c) → words a ≡ name_at (fixed_words c) k ∷ [] → a ≡ arg.Word k
  word_told arg.Nothing k h e = absurd (no_words (name_at (fixed_words c) k) [] e)
  word_told (arg.Name m) k h e =
      absurd (no_name_word (name_word s.names m) (name_at (fixed_words c) k) (all_at (fixed_words c) k (fixed_are c) h) (named m) (one_word (name_word s.names m) (name_at (fixed_words c) k) e))
  word_told (arg.Num v) k h e =
      absurd (letters_clash (signed_decimal v) (name_at (fixed_words c) k) (number_starts v)
      (and_parts (is_reserved (name_at (fixed_words c) k)) (starts_with_letter (name_at (fixed_words c) k)) (all_at (fixed_words c) k (fixed_are c) h)).1 (one_word (signed_decimal v) (name_at (fixed_words c) k) e))
  word_told (arg.Word j) k h e = ap arg.Word (same_word j k h (one_word (name_at (fixed_words c) j) (name_at (fixed_words c) k) e))

  -- ---- an argument at its place

  zeroth : (k m : ℕ) → (k == 0) ≡ true → nat_lt 0 m ≡ true → k < m
  zeroth k m e h = let z : k ≡ 0 = grind (arith, nat_tests) in let less : 0 < m = grind (arith, nat_tests) in omega arith

  within : (k n m : ℕ) → nat_lt k n ≡ true → nat_le n m ≡ true → k < m
  within k n m e h = let less : k < n = grind (arith, nat_tests) in let le : n ≤ m = grind (arith, nat_tests) in omega arith

  -- An argument that suits its place is told by its word.
  argument_told : (p : Slot) (a b : Arg) → slot_fits c p ≡ true → suits s p b ≡ true → words a ≡ words b → a ≡ b
  argument_told (Object kind) a (arg.Name n) fits h e = name_told kind a n h e
  argument_told (ObjectOr kind) a (arg.Name n) fits h e = name_told kind a n h e
  argument_told (ObjectOr kind) a (arg.Word k) fits h e = word_told a k (zeroth k (length (fixed_words c)) h fits) e
  argument_told (Fixed choice) a (arg.Word k) fits h e = word_told a k (within k (length (choice_words choice)) (length (fixed_words c)) h fits) e
  argument_told Expression a (arg.Num v) fits h e = number_told a v h e
  argument_told _ a _ fits h e = absurd (cc)

  -- ---- all arguments

  none_said : (args : List Arg) → list_all is_absent args ≡ true → args_words s.names c args ≡ []
  none_said [] h = refl
  none_said (arg.Nothing ∷ args) h = none_said args h
  none_said (arg.Name n ∷ args) h = absurd (cc)
  none_said (arg.Num v ∷ args) h = absurd (cc)
  none_said (arg.Word k ∷ args) h = absurd (cc)

  all_absent : (args : List Arg) → args_words s.names c args ≡ [] → list_all is_absent args ≡ true
  all_absent [] e = refl
  all_absent (arg.Nothing ∷ args) e = all_absent args e
  all_absent (arg.Name n ∷ args) e = absurd (no_words (name_word s.names n) (args_words s.names c args) (sym e))
  all_absent (arg.Num v ∷ args) e = absurd (no_words (signed_decimal v) (args_words s.names c args) (sym e))
  all_absent (arg.Word k ∷ args) e = absurd (no_words (name_at (fixed_words c) k) (args_words s.names c args) (sym e))

  absent_same : (as' bs : List Arg) → list_all is_absent as' ≡ true → list_all is_absent bs ≡ true → length as' ≡ length bs → as' ≡ bs
  absent_same [] [] h k e = refl
  absent_same [] (b ∷ bs) h k e = absurd (omega (arith, e))
  absent_same (a ∷ as') [] h k e = absurd (omega (arith, e))
  absent_same (arg.Nothing ∷ as') (arg.Nothing ∷ bs) h k e = ap (λ (xs : List Arg). arg.Nothing ∷ xs) (absent_same as' bs h k (omega (arith, e)))
  absent_same (arg.Nothing ∷ as') (arg.Name n ∷ bs) h k e = absurd (cc)
  absent_same (arg.Nothing ∷ as') (arg.Num n ∷ bs) h k e = absurd (cc)
  absent_same (arg.Nothing ∷ as') (arg.Word n ∷ bs) h k e = absurd (cc)
  absent_same (arg.Name n ∷ as') (b ∷ bs) h k e = absurd (cc)
  absent_same (arg.Num n ∷ as') (b ∷ bs) h k e = absurd (cc)
  absent_same (arg.Word n ∷ as') (b ∷ bs) h k e = absurd (cc)

  -- The one word of an argument that is there.
  abbrev word : Arg → List ℕ
  word arg.Nothing = []
  word (arg.Name n) = name_word s.names n
  word (arg.Num v) = signed_decimal v
  word (arg.Word k) = name_at (fixed_words c) k

  suited_word : (p : Slot) (b : Arg) → suits s p b ≡ true → words b ≡ word b ∷ []
  suited_word p arg.Nothing h = absurd (nothing_suits s p h)
  suited_word p (arg.Name n) h = refl
  suited_word p (arg.Num v) h = refl
  suited_word p (arg.Word k) h = refl

  heads : (v w : List ℕ) (vs ws : List (List ℕ)) → v ∷ vs ≡ w ∷ ws → (v ≡ w) × (vs ≡ ws)
  heads v w vs ws e = (cc, cc)

  both_same : (a b : Arg) (as' bs : List Arg) → a ≡ b → as' ≡ bs → a ∷ as' ≡ b ∷ bs
  both_same a b as' bs e g = cc

  first_by : (p : Slot) (a : Arg) (as' : List Arg) (b : Arg) (bs : List Arg) → slot_fits c p ≡ true → suits s p b ≡ true → words a ≡ word a ∷ [] → stand_in_front as' ≡ true
      → (stand_in_front as' ≡ true → args_words s.names c as' ≡ args_words s.names c bs → as' ≡ bs) → word a ∷ args_words s.names c as' ≡ args_words s.names c (b ∷ bs) → a ∷ as' ≡ b ∷ bs
  first_by p a as' b bs fit suit one front more e =
      let right : args_words s.names c (b ∷ bs) ≡ word b ∷ args_words s.names c bs = ap (λ (ws : List (List ℕ)). ws ++ args_words s.names c bs) (suited_word p b suit) in
      let x : (word a ≡ word b) × (args_words s.names c as' ≡ args_words s.names c bs) = heads (word a) (word b) (args_words s.names c as') (args_words s.names c bs) (e ∙ right) in
      both_same a b as' bs (argument_told p a b fit suit (one ∙ ap (λ (w : List ℕ). w ∷ []) x.0 ∙ sym (suited_word p b suit))) (more front x.1)

  argument_by : (p : Slot) (a : Arg) (as' : List Arg) (b : Arg) (bs : List Arg) → slot_fits c p ≡ true → suits s p b ≡ true → stand_in_front (a ∷ as') ≡ true
      → (stand_in_front as' ≡ true → args_words s.names c as' ≡ args_words s.names c bs → as' ≡ bs) → args_words s.names c (a ∷ as') ≡ args_words s.names c (b ∷ bs) → a ∷ as' ≡ b ∷ bs
  argument_by p arg.Nothing as' b bs fit suit front more e =
      absurd (no_words (word b) (args_words s.names c bs) (sym (none_said as' front) ∙ e ∙ ap (λ (ws : List (List ℕ)). ws ++ args_words s.names c bs) (suited_word p b suit)))
  argument_by p (arg.Name n) as' b bs fit suit front more e = first_by p (arg.Name n) as' b bs fit suit refl front more e
  argument_by p (arg.Num v) as' b bs fit suit front more e = first_by p (arg.Num v) as' b bs fit suit refl front more e
  argument_by p (arg.Word k) as' b bs fit suit front more e = first_by p (arg.Word k) as' b bs fit suit refl front more e

  one_by_one : (places : List Slot) (as' bs : List Arg) → list_all (slot_fits c) places ≡ true → fill s places bs ≡ true → stand_in_front as' ≡ true → length as' ≡ length bs
      → args_words s.names c as' ≡ args_words s.names c bs → as' ≡ bs
  one_by_one [] as' bs fits h front len e = absent_same as' bs (all_absent as' (e ∙ none_said bs h)) h len
  one_by_one (p ∷ places) as' [] fits h front len e = absurd (cc)
  one_by_one (p ∷ places) [] (b ∷ bs) fits h front len e = absurd (omega (arith, len))
  one_by_one (p ∷ places) (a ∷ as') (b ∷ bs) fits h front len e =
      let fit : (slot_fits c p ≡ true) × (list_all (slot_fits c) places ≡ true) = and_parts (slot_fits c p) (list_all (slot_fits c) places) fits in
      let suit : (suits s p b ≡ true) × (fill s places bs ≡ true) = and_parts (suits s p b) (fill s places bs) h in
      argument_by p a as' b bs fit.0 suit.0 front (λ g k. one_by_one places as' bs fit.1 suit.1 g (omega (arith, len)) k) e

  four : (args : List Arg) → (length args == 4) ≡ true → length args ≡ 4
  four args e = grind (arith, nat_tests)

  -- Arguments that have the form of their places are told by their words, where the others stand in front.
  pub same_arguments : (as' bs : List Arg) → ((length as' == 4) && stand_in_front as') ≡ true → have_their_form s c bs ≡ true → args_words s.names c as' ≡ args_words s.names c bs → as' ≡ bs
  same_arguments as' bs front h e =
      let x = and_parts (length as' == 4) (stand_in_front as') front in
      let y = and_parts (length bs == 4) (fill s (places_of c) bs) h in
      one_by_one (places_of c) as' bs (places_fit c) y.1 x.1 (four as' x.0 ∙ sym (four bs y.0)) e
