-- The arguments of a call's line have the form of their places.
use Rattle.std.proofs.Common.{◌≡◌, ℕ, zero, suc, ℤ, pos, negsuc, Bool, true, false, List, [], ◌∷◌, ◌++◌, take, replicate, length, Some, None, refl, subst, arith}
use Rattle.std.specs.Prelude.{◌==◌, nat_lt}
use Rattle.std.specs.List.{list_all}
use Rattle.thr_laws.proofs.ReadingLaws.{and_both}
use Rattle.thr_values.specs.declared.number.NameId.{NameId}
use Rattle.thr_values.specs.declared.call.Arg.{Arg}
use Rattle.thr_values.specs.declared.call.Arg.TheVariants as arg
use Rattle.thr_values.specs.declared.call.CallWord.{CallWord}
use Rattle.thr_values.specs.declared.scheduling.Policy.{Policy}
use Rattle.thr_values.specs.declared.scheduling.Policy.TheVariants.{Fifo, Rr, Fg, Bg}
use Rattle.thr_values.specs.declared.reply.Kind.{Kind}
use Rattle.thr_values.specs.declared.reply.Kind.TheVariants.{Fast, Recursive, Nonrecursive}
use Rattle.thr_values.specs.Words.{policy_words, inherit_words, cancel_words, kind_words}
use Rattle.thr_syntax.specs.declared.dce.DceCall.{DceCall}
use Rattle.thr_syntax.specs.declared.dce.DceCall.TheVariants as dce
use Rattle.thr_syntax.specs.declared.tree.Script.{Script}
use Rattle.thr_text.specs.declared.head.Slot.{Slot}
use Rattle.thr_text.specs.declared.head.Slot.TheVariants.{Fixed, Object, ObjectOr, Expression}
use Rattle.thr_text.specs.Slots.{call_slots, choice_words}
use Rattle.thr_trees.specs.Kinds.{is_name_of}
use Rattle.thr_trees.specs.Names.{named_in_call, AreOfKinds}
use Rattle.thr_remainder.specs.Calls.{Part, Name, Value, Word, policy_place, kind_place, first_place, shape_of, expressions_in, filled, arguments}
use Rattle.thr_answers.proofs.CallLines.{AreValues}
use Rattle.thr_verdict.specs.Places.{fits_signed, places_of, suits, is_absent, fill, have_their_form}
use Rattle.thr_sizes.proofs.Values.{Fits, AllFit}
use Rattle.thr_formed.proofs.Named.{CallNamed}

-- ---- numbers

pub signed : (n : ℤ) → Fits n → fits_signed n ≡ true
signed (pos n) h = h
signed (negsuc n) h = h

abbrev ArgFits : Arg → Type 0
ArgFits (arg.Num n) = Fits n
ArgFits _ = Unit {0}

-- The numbers among the arguments fit.
abbrev pub ArgsFit : List Arg → Type 0
ArgsFit [] = Unit {0}
ArgsFit (a ∷ args) = ArgFits a × ArgsFit args

filled_fit : (parts : List Part) (ns : List ℤ) (rest : List Arg) → AllFit ns → ArgsFit rest → ArgsFit (filled parts ns ++ rest)
filled_fit [] ns rest h i = i
filled_fit (Name name ∷ parts) ns rest h i = (tt, filled_fit parts ns rest h i)
filled_fit (Word place ∷ parts) ns rest h i = (tt, filled_fit parts ns rest h i)
filled_fit (Value e ∷ parts) (n ∷ ns) rest h i = (h.0, filled_fit parts ns rest h.1 i)
filled_fit (Value e ∷ parts) [] rest h i = (tt, filled_fit parts [] rest tt i)

taken_fit : (k : ℕ) (args : List Arg) → ArgsFit args → ArgsFit (take k args)
taken_fit zero args h = tt
taken_fit (suc k) [] h = tt
taken_fit (suc k) (a ∷ args) h = (h.0, taken_fit k args h.1)

pub arguments_fit : (call : DceCall) (ns : List ℤ) → AllFit ns → ArgsFit (arguments call ns)
arguments_fit call ns h =
    taken_fit 4 (filled (shape_of call).parts ns ++ replicate 4 arg.Nothing) (filled_fit (shape_of call).parts ns (replicate 4 arg.Nothing) h (tt, (tt, (tt, (tt, tt)))))

-- ---- the parts of a call at their places

-- What a statement has at a place suits it.
abbrev PartSuits : Script → Part → Slot → Type 0
PartSuits s (Name name) (Object kind) = is_name_of s kind name ≡ true
PartSuits s (Name name) (ObjectOr kind) = is_name_of s kind name ≡ true
PartSuits s (Word place) (ObjectOr kind) = (place == 0) ≡ true
PartSuits s (Word place) (Fixed choice) = nat_lt place (length (choice_words choice)) ≡ true
PartSuits s (Value e) Expression = Unit {0}
PartSuits s _ _ = ⊥

-- At most so many parts suit these places, one each.
abbrev PartsSuit : Script → ℕ → List Part → List Slot → Type 0
PartsSuit s k [] [] = Unit {0}
PartsSuit s k [] (q ∷ places) = ⊥
PartsSuit s zero (p ∷ parts) places = ⊥
PartsSuit s (suc k) (p ∷ parts) [] = ⊥
PartsSuit s (suc k) (p ∷ parts) (q ∷ places) = PartSuits s p q × PartsSuit s k parts places

low_policy : (policy : Policy) → nat_lt (policy_place policy) (length policy_words) ≡ true
low_policy Fifo = refl
low_policy Rr = refl
low_policy Fg = refl
low_policy Bg = refl

low_kind : (kind : Kind) → nat_lt (kind_place kind) (length kind_words) ≡ true
low_kind Fast = refl
low_kind Recursive = refl
low_kind Nonrecursive = refl

low_inherit : (b : Bool) → nat_lt (first_place b) (length inherit_words) ≡ true
low_inherit true = refl
low_inherit false = refl

low_cancel : (b : Bool) → nat_lt (first_place b) (length cancel_words) ≡ true
low_cancel true = refl
low_cancel false = refl

parts_suit : (s : Script) (call : DceCall) → AreOfKinds s (named_in_call call) → PartsSuit s 4 (shape_of call).parts (places_of (shape_of call).word)
unfolding shape_of call_slots
parts_suit s (dce.AttrCreate n) h = (h.0, tt)
parts_suit s (dce.AttrDelete n) h = (h.0, tt)
parts_suit s (dce.AttrSetsched n policy) h = (h.0, (low_policy policy, tt))
parts_suit s (dce.AttrSetprio n e) h = (h.0, (tt, tt))
parts_suit s (dce.AttrSetinheritsched n inherits) h = (h.0, (low_inherit inherits, tt))
parts_suit s (dce.AttrSetstacksize n e) h = (h.0, (tt, tt))
parts_suit s (dce.Create v None n e) h = (refl, (h.0, (tt, tt)))
parts_suit s (dce.Create v (Some a) n e) h = (h.0, (h.1.0, (tt, tt)))
parts_suit s (dce.Join e v) h = (tt, tt)
parts_suit s (dce.Detach e) h = (tt, tt)
parts_suit s dce.Yield h = tt
parts_suit s (dce.Cancel e) h = (tt, tt)
parts_suit s dce.Testcancel h = tt
parts_suit s (dce.Setcancel on v) h = (low_cancel on, tt)
parts_suit s (dce.Setasynccancel on v) h = (low_cancel on, tt)
parts_suit s (dce.Setprio e f v) h = (tt, (tt, tt))
parts_suit s (dce.Getprio e v) h = (tt, tt)
parts_suit s (dce.Setscheduler e policy f v) h = (tt, (low_policy policy, (tt, tt)))
parts_suit s (dce.Getscheduler e v) h = (tt, tt)
parts_suit s (dce.DelayNp e) h = (tt, tt)
parts_suit s (dce.GetExpirationNp e v) h = (tt, tt)
parts_suit s (dce.MutexattrCreate n) h = (h.0, tt)
parts_suit s (dce.MutexattrSetkindNp n kind) h = (h.0, (low_kind kind, tt))
parts_suit s (dce.MutexattrDelete n) h = (h.0, tt)
parts_suit s (dce.MutexInit n None) h = (h.0, (refl, tt))
parts_suit s (dce.MutexInit n (Some a)) h = (h.0, (h.1.0, tt))
parts_suit s (dce.MutexDestroy n) h = (h.0, tt)
parts_suit s (dce.MutexLock n) h = (h.0, tt)
parts_suit s (dce.MutexTrylock n v) h = (h.0, tt)
parts_suit s (dce.MutexUnlock n) h = (h.0, tt)
parts_suit s dce.LockGlobalNp h = tt
parts_suit s dce.UnlockGlobalNp h = tt
parts_suit s (dce.CondInit n) h = (h.0, tt)
parts_suit s (dce.CondDestroy n) h = (h.0, tt)
parts_suit s (dce.CondWait c m) h = (h.0, (h.1.0, tt))
parts_suit s (dce.CondTimedwait c m e) h = (h.0, (h.1.0, (tt, tt)))
parts_suit s (dce.CondSignal n) h = (h.0, tt)
parts_suit s (dce.CondBroadcast n) h = (h.0, tt)
parts_suit s (dce.Once block routine) h = (h.0, (h.1.0, tt))
parts_suit s (dce.Keycreate n None) h = (h.0, (refl, tt))
parts_suit s (dce.Keycreate n (Some d)) h = (h.0, (h.1.0, tt))
parts_suit s (dce.Setspecific n e) h = (h.0, (tt, tt))
parts_suit s (dce.Getspecific n v) h = (h.0, tt)
parts_suit s (dce.Read n v w) h = (h.0, tt)
parts_suit s (dce.Write n e) h = (h.0, (tt, tt))
parts_suit s (dce.Close n) h = (h.0, tt)

-- ---- arguments at their places

abbrev AllAbsent : List Arg → Type 0
AllAbsent [] = Unit {0}
AllAbsent (a ∷ args) = (is_absent a ≡ true) × AllAbsent args

absent_taken : (k : ℕ) (rest : List Arg) → AllAbsent rest → list_all is_absent (take k rest) ≡ true
absent_taken zero rest h = refl
absent_taken (suc k) [] h = refl
absent_taken (suc k) (a ∷ rest) h = and_both (is_absent a) (list_all is_absent (take k rest)) h.0 (absent_taken k rest h.1)

module _ (s : Script) where
  name_suits : (name : NameId) (q : Slot) → PartSuits s (Name name) q → suits s q (arg.Name name) ≡ true
  name_suits name (Object kind) h = h
  name_suits name (ObjectOr kind) h = h
  name_suits name _ h = absurd h

  word_suits : (place : ℕ) (q : Slot) → PartSuits s (Word place) q → suits s q (arg.Word place) ≡ true
  word_suits place (ObjectOr kind) h = h
  word_suits place (Fixed choice) h = h
  word_suits place _ h = absurd h

  value_suits : (e : _) (n : ℤ) (q : Slot) → PartSuits s (Value e) q → Fits n → suits s q (arg.Num n) ≡ true
  value_suits e n Expression h f = signed n f
  value_suits e n _ h f = absurd h

  one_less : (m : ℕ) (ns : List ℤ) (n : ℤ) → suc m ≡ length (n ∷ ns) → m ≡ length ns
  one_less m ns n e = omega (arith, e)

  fill_parts : (k : ℕ) (parts : List Part) (places : List Slot) (ns : List ℤ) (rest : List Arg) → PartsSuit s k parts places → length (expressions_in parts) ≡ length ns → AllAbsent rest
      → ArgsFit (take k (filled parts ns ++ rest)) → fill s places (take k (filled parts ns ++ rest)) ≡ true
  fill_parts k [] [] ns rest u e a f = absent_taken k rest a
  fill_parts k [] (q ∷ places) ns rest u e a f = absurd u
  fill_parts zero (p ∷ parts) places ns rest u e a f = absurd u
  fill_parts (suc k) (p ∷ parts) [] ns rest u e a f = absurd u
  fill_parts (suc k) (Name name ∷ parts) (q ∷ places) ns rest u e a f =
      and_both (suits s q (arg.Name name)) (fill s places (take k (filled parts ns ++ rest))) (name_suits name q u.0) (fill_parts k parts places ns rest u.1 e a f.1)
  fill_parts (suc k) (Word place ∷ parts) (q ∷ places) ns rest u e a f =
      and_both (suits s q (arg.Word place)) (fill s places (take k (filled parts ns ++ rest))) (word_suits place q u.0) (fill_parts k parts places ns rest u.1 e a f.1)
  fill_parts (suc k) (Value x ∷ parts) (q ∷ places) [] rest u e a f = absurd (cc)
  fill_parts (suc k) (Value x ∷ parts) (q ∷ places) (n ∷ ns) rest u e a f =
      and_both (suits s q (arg.Num n)) (fill s places (take k (filled parts ns ++ rest))) (value_suits x n q u.0 f.0)
      (fill_parts k parts places ns rest u.1 (one_less (length (expressions_in parts)) ns n e) a f.1)

  four : (args : List Arg) → (length (take 4 (args ++ replicate 4 arg.Nothing)) == 4) ≡ true
  four [] = refl
  four (a ∷ []) = refl
  four (a ∷ b ∷ []) = refl
  four (a ∷ b ∷ c ∷ []) = refl
  four (a ∷ b ∷ c ∷ d ∷ rest) = refl

  own_form : (call : DceCall) (ns : List ℤ) → AreValues call ns → AreOfKinds s (named_in_call call) → ArgsFit (arguments call ns) → have_their_form s (shape_of call).word (arguments call ns) ≡ true
  own_form call ns are names f =
      and_both (length (arguments call ns) == 4) (fill s (places_of (shape_of call).word) (arguments call ns)) (four (filled (shape_of call).parts ns))
      (fill_parts 4 (shape_of call).parts (places_of (shape_of call).word) ns (replicate 4 arg.Nothing) (parts_suit s call names) are (refl, (refl, (refl, (refl, tt)))) f)

  -- The arguments of the line of such a call, whose numbers fit.
  pub call_formed : (c : CallWord) (args : List Arg) → CallNamed s c args → ArgsFit args → have_their_form s c args ≡ true
  call_formed c args h =
      subst (λ (a : List Arg). ArgsFit a → have_their_form s c a ≡ true) h.are_arguments
      (subst (λ (w : CallWord). ArgsFit (arguments h.call h.values) → have_their_form s w (arguments h.call h.values) ≡ true) h.is_word (own_form h.call h.values h.are_values h.names))
