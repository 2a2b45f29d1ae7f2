-- Calls are read as they are printed.
use Rattle.std.proofs.Common.{◌≡◌, ℕ, zero, suc, ◌+◌, ◌-◌, ◌<◌, ◌≤◌, Bool, true, false, cond, List, [], ◌∷◌, ◌++◌, length, length-append, Option, Some, None, refl, sym, ap, subst, ◌∙◌, append_assoc, append-nil, arith}
use Rattle.std.specs.Prelude.{ℤ, codes, ◌&&◌, ◌==◌, nat_lt, replicate, slice_get, unwrap_or, position, if◌then◌else◌}
use Rattle.std.specs.List.{filter, list_all}
use Rattle.std.specs.Option.{option_map, option_and_then}
use Rattle.std.specs.Str.{bytes_eq}
use Rattle.std.specs.Fmt.{signed_decimal}
use Rattle.std.proofs.lemmas.Bool.Decides.{nat_tests}
use Rattle.std.proofs.lemmas.Slice.Eq.{bytes_eq-Decides}
use Rattle.thr_values.specs.Words.{policy_words, kind_words, inherit_words, cancel_words, call_word}
use Rattle.thr_values.specs.declared.number.NameId.{NameId}
use Rattle.thr_values.specs.declared.call.CallWord.{CallWord}
use Rattle.thr_values.specs.declared.call.CallWord.TheVariants as call
use Rattle.thr_values.specs.declared.call.Arg.{Arg}
use Rattle.thr_values.specs.declared.call.Arg.TheVariants as arg
use Rattle.thr_values.specs.declared.reply.Reply.{Reply}
use Rattle.thr_values.specs.declared.history.What.{What}
use Rattle.thr_values.specs.declared.history.What.TheVariants as what
use Rattle.thr_syntax.specs.declared.tree.Script.{Script}
use Rattle.thr_text.specs.declared.head.Choice.{Choice}
use Rattle.thr_text.specs.declared.head.Choice.TheVariants as choice
use Rattle.thr_text.specs.declared.head.Slot.{Slot}
use Rattle.thr_text.specs.declared.head.Slot.TheVariants.{Number, Fixed, Declared, Parameter, Local, Object, ObjectOr, Variable, Receiver, Exception, Expression}
use Rattle.thr_text.specs.declared.object.Object as kinds
use Rattle.thr_text.specs.declared.object.Object.TheVariants as object
use Rattle.thr_text.specs.Names.{is_name, has_name_form, is_reserved, reserved_words}
use Rattle.thr_text.specs.Slots.{call_slots, choice_words, absent_word}
use Rattle.thr_text.specs.Reading.{Formed}
use Rattle.thr_text.specs.Journals.{name_word, reply_word, fixed_words, arg_words, args_words, what_words}
use Rattle.thr_trees.specs.Kinds.{is_name_of}
use Rattle.thr_verdict.specs.Places.{fits_signed, has_argument, places_of, suits, is_absent, fill, have_their_form}
use Rattle.thr_verdict.specs.FormedJournals.{is_formed_reply, is_formed_what}
use Rattle.thr_journals.specs.Numbers.{value_in}
use Rattle.thr_journals.specs.Fields.{Field, word_as, both, alone, name_in, equals_reply}
use Rattle.thr_journals.specs.Lines.{fixed_in, argument_in, arguments, takes_argument, call_places, four, called}
use Rattle.thr_journal_laws.specs.Places.{IsReadAsPrinted}
use Rattle.thr_journal_laws.proofs.Shortest.{and_both, map_some}
use Rattle.thr_journal_laws.proofs.PlaceLaws.{both_read, alone_taken, alone_again, then_some}
use Rattle.thr_journal_laws.proofs.NameLaws.{names_in, name_taken, name_again, name_form, other_word, found_there, less_is}
use Rattle.thr_journal_laws.proofs.FormedPlaces.{reply_formed, value_word_taken, value_word_again}
use Rattle.thr_journal_laws.proofs.SaidLaws.{IsSaid, all_both}

-- ---- the fixed words of a call are those of its places

abbrev Agrees : CallWord → Slot → Type 0
Agrees c (Fixed choice) = fixed_words c ≡ choice_words choice
Agrees c (ObjectOr kind) = fixed_words c ≡ absent_word kind ∷ []
Agrees c _ = Unit {0}

abbrev AllAgree : CallWord → List Slot → Type 0
AllAgree c [] = Unit {0}
AllAgree c (p ∷ places) = Agrees c p × AllAgree c places

agree : (c : CallWord) → AllAgree c (call_places c)
unfolding call_slots
agree call.AttrCreate = (tt, tt)
agree call.AttrDelete = (tt, tt)
agree call.AttrSetsched = (tt, (refl, tt))
agree call.AttrSetprio = (tt, (tt, tt))
agree call.AttrSetinheritsched = (tt, (refl, tt))
agree call.AttrSetstacksize = (tt, (tt, tt))
agree call.Create = (refl, (tt, (tt, tt)))
agree call.Join = (tt, tt)
agree call.Detach = (tt, tt)
agree call.Yield = tt
agree call.Cancel = (tt, tt)
agree call.Testcancel = tt
agree call.Setcancel = (refl, tt)
agree call.Setasynccancel = (refl, tt)
agree call.Setprio = (tt, (tt, tt))
agree call.Getprio = (tt, tt)
agree call.Setscheduler = (tt, (refl, (tt, tt)))
agree call.Getscheduler = (tt, tt)
agree call.DelayNp = (tt, tt)
agree call.GetExpirationNp = (tt, tt)
agree call.MutexattrCreate = (tt, tt)
agree call.MutexattrSetkindNp = (tt, (refl, tt))
agree call.MutexattrDelete = (tt, tt)
agree call.MutexInit = (tt, (refl, tt))
agree call.MutexDestroy = (tt, tt)
agree call.MutexLock = (tt, tt)
agree call.MutexTrylock = (tt, tt)
agree call.MutexUnlock = (tt, tt)
agree call.LockGlobalNp = tt
agree call.UnlockGlobalNp = tt
agree call.CondInit = (tt, tt)
agree call.CondDestroy = (tt, tt)
agree call.CondWait = (tt, (tt, tt))
agree call.CondTimedwait = (tt, (tt, (tt, tt)))
agree call.CondSignal = (tt, tt)
agree call.CondBroadcast = (tt, tt)
agree call.Once = (tt, (tt, tt))
agree call.Keycreate = (tt, (refl, tt))
agree call.Setspecific = (tt, (tt, tt))
agree call.Getspecific = (tt, tt)
agree call.Read = (tt, tt)
agree call.Write = (tt, (tt, tt))
agree call.Close = (tt, tt)

few_places : (c : CallWord) → length (call_places c) ≤ 4
unfolding call_slots
few_places call.AttrCreate = omega arith
few_places call.AttrDelete = omega arith
few_places call.AttrSetsched = omega arith
few_places call.AttrSetprio = omega arith
few_places call.AttrSetinheritsched = omega arith
few_places call.AttrSetstacksize = omega arith
few_places call.Create = omega arith
few_places call.Join = omega arith
few_places call.Detach = omega arith
few_places call.Yield = omega arith
few_places call.Cancel = omega arith
few_places call.Testcancel = omega arith
few_places call.Setcancel = omega arith
few_places call.Setasynccancel = omega arith
few_places call.Setprio = omega arith
few_places call.Getprio = omega arith
few_places call.Setscheduler = omega arith
few_places call.Getscheduler = omega arith
few_places call.DelayNp = omega arith
few_places call.GetExpirationNp = omega arith
few_places call.MutexattrCreate = omega arith
few_places call.MutexattrSetkindNp = omega arith
few_places call.MutexattrDelete = omega arith
few_places call.MutexInit = omega arith
few_places call.MutexDestroy = omega arith
few_places call.MutexLock = omega arith
few_places call.MutexTrylock = omega arith
few_places call.MutexUnlock = omega arith
few_places call.LockGlobalNp = omega arith
few_places call.UnlockGlobalNp = omega arith
few_places call.CondInit = omega arith
few_places call.CondDestroy = omega arith
few_places call.CondWait = omega arith
few_places call.CondTimedwait = omega arith
few_places call.CondSignal = omega arith
few_places call.CondBroadcast = omega arith
few_places call.Once = omega arith
few_places call.Keycreate = omega arith
few_places call.Setspecific = omega arith
few_places call.Getspecific = omega arith
few_places call.Read = omega arith
few_places call.Write = omega arith
few_places call.Close = omega arith

same_test : (p : Slot) → has_argument p ≡ takes_argument p
same_test Number = refl
same_test (Fixed choice) = refl
same_test (Declared kind) = refl
same_test Parameter = refl
same_test Local = refl
same_test (Object kind) = refl
same_test (ObjectOr kind) = refl
same_test Variable = refl
same_test Receiver = refl
same_test Exception = refl
same_test Expression = refl

same_filter : (places : List Slot) → filter has_argument places ≡ filter takes_argument places
same_filter [] = refl
same_filter (p ∷ places) = rw (same_test p, same_filter places) refl

same_places : (c : CallWord) → places_of c ≡ call_places c
same_places c = same_filter (call_slots c)

-- ---- one argument

abbrev IsArgument : Script → CallWord → Slot → List ℕ → Arg → Type 0
IsArgument s c p w a = (w ∷ [] ≡ arg_words s.names c a) × (suits s p a ≡ true)

alone_word : (v w : List ℕ) → v ≡ w → v ∷ [] ≡ w ∷ []
alone_word v w e = ap (λ (x : List ℕ). x ∷ []) e

named_taken : (s : Script) → Formed s → (c : CallWord) (kind : kinds.Object) (w : List ℕ) (a : Arg) → option_map arg.Name (name_in (names_in s) kind w) ≡ Some a
    → (id : NameId) × (arg.Name id ≡ a) × (w ≡ name_word s.names id) × (is_name_of s kind id ≡ true)
named_taken s h c kind w a e =
    let m = map_some arg.Name (name_in (names_in s) kind w) a e in
    let t = name_taken s h kind w m.0 m.1 in
    (m.0, m.2, t.0, t.1)

or_taken : (s : Script) → Formed s → (c : CallWord) (kind : kinds.Object) (w : List ℕ) (a : Arg) (b : Bool) → fixed_words c ≡ absent_word kind ∷ [] → bytes_eq w (absent_word kind) ≡ b
    → argument_in (names_in s) (ObjectOr kind) w ≡ Some a → IsArgument s c (ObjectOr kind) w a
or_taken s h c kind w a true fixed absent e =
    let is : arg.Word 0 ≡ a = some_same (rw absent at e) in
    subst (IsArgument s c (ObjectOr kind) w) is
    (alone_word w _ ((bytes_eq-Decides w (absent_word kind)).0 absent ∙ sym (ap (λ (ws : List (List ℕ)). unwrap_or (slice_get ws 0) []) fixed)), refl)
  where
    some_same : {x y : Arg} → Some x ≡ Some y → x ≡ y
    some_same e = cc
or_taken s h c kind w a false fixed other e =
    let t = named_taken s h c kind w a (rw other at e) in
    subst (IsArgument s c (ObjectOr kind) w) t.1 (alone_word w (name_word s.names t.0) t.2, t.3)

argument_taken : (s : Script) → Formed s → (c : CallWord) (p : Slot) → Agrees c p → (w : List ℕ) (a : Arg) → argument_in (names_in s) p w ≡ Some a → IsArgument s c p w a
argument_taken s h c (Object kind) agrees w a e =
    let t = named_taken s h c kind w a e in
    subst (IsArgument s c (Object kind) w) t.1 (alone_word w (name_word s.names t.0) t.2, t.3)
argument_taken s h c (ObjectOr kind) agrees w a e = or_taken s h c kind w a (bytes_eq w (absent_word kind)) agrees refl e
argument_taken s h c (Fixed ch) agrees w a e =
    let m = map_some arg.Word (position (bytes_eq w) (choice_words ch)) a e in
    let t = found_there w (choice_words ch) m.0 m.1 in
    subst (IsArgument s c (Fixed ch) w) m.2
    (alone_word w _ (t.1 ∙ sym (ap (λ (ws : List (List ℕ)). unwrap_or (slice_get ws m.0) []) agrees)), less_is m.0 (length (choice_words ch)) t.0)
argument_taken s h c Expression agrees w a e =
    let m = map_some arg.Num (value_in w) a e in
    let t = value_word_taken w m.0 m.1 in
    subst (IsArgument s c Expression w) m.2 (alone_word w _ t.0, t.1)
argument_taken s h c Number agrees w a e = absurd cc
argument_taken s h c (Declared kind) agrees w a e = absurd cc
argument_taken s h c Parameter agrees w a e = absurd cc
argument_taken s h c Local agrees w a e = absurd cc
argument_taken s h c Variable agrees w a e = absurd cc
argument_taken s h c Receiver agrees w a e = absurd cc
argument_taken s h c Exception agrees w a e = absurd cc

-- An argument that suits its place is one word, which is read as it.
abbrev IsRead : Script → CallWord → Slot → Arg → Type 0
IsRead s c p a = (w : List ℕ) × (arg_words s.names c a ≡ w ∷ []) × (argument_in (names_in s) p w ≡ Some a)

absent_is_reserved : (kind : kinds.Object) → is_name (absent_word kind) ≡ false
unfolding has_name_form is_reserved reserved_words
absent_is_reserved object.Shared = refl
absent_is_reserved object.Exception = refl
absent_is_reserved object.Mutex = refl
absent_is_reserved object.Mutexattr = refl
absent_is_reserved object.Cond = refl
absent_is_reserved object.Attr = refl
absent_is_reserved object.Key = refl
absent_is_reserved object.Once = refl
absent_is_reserved object.Pipe = refl
absent_is_reserved object.Routine = refl

object_again : (s : Script) → Formed s → (c : CallWord) (kind : kinds.Object) (a : Arg) → suits s (Object kind) a ≡ true → IsRead s c (Object kind) a
object_again s h c kind (arg.Name id) e = (name_word s.names id, refl, ap (option_map arg.Name) (name_again s h kind id e))
object_again s h c kind arg.Nothing e = absurd cc
object_again s h c kind (arg.Num n) e = absurd cc
object_again s h c kind (arg.Word place) e = absurd cc

is_zero : (n : ℕ) → (n == 0) ≡ true → n ≡ 0
is_zero n e = grind (arith, nat_tests)

or_again : (s : Script) → Formed s → (c : CallWord) (kind : kinds.Object) → fixed_words c ≡ absent_word kind ∷ [] → (a : Arg) → suits s (ObjectOr kind) a ≡ true → IsRead s c (ObjectOr kind) a
or_again s h c kind fixed (arg.Name id) e =
    (name_word s.names id, refl, rw (other_word (name_word s.names id) (absent_word kind) (name_form s h kind id e) (absent_is_reserved kind), name_again s h kind id e) refl)
or_again s h c kind fixed (arg.Word place) e = (
  absent_word kind,
  alone_word _ _ (ap (λ (n : ℕ). unwrap_or (slice_get (fixed_words c) n) []) (is_zero place e) ∙ ap (λ (ws : List (List ℕ)). unwrap_or (slice_get ws 0) []) fixed),
  rw ((bytes_eq-Decides (absent_word kind) (absent_word kind)).1 refl) (ap (λ (n : ℕ). Some (arg.Word n)) (sym (is_zero place e))),
)
or_again s h c kind fixed arg.Nothing e = absurd cc
or_again s h c kind fixed (arg.Num n) e = absurd cc

too_far : {A : Type 0} (n k : ℕ) → nat_lt n k ≡ true → k ≤ n → A
too_far n k e le = absurd (by e)
  where
    by : nat_lt n k ≡ true → ⊥
    by e = grind (arith, nat_tests)

choice_again : (ch : Choice) (place : ℕ) → nat_lt place (length (choice_words ch)) ≡ true → position (bytes_eq (unwrap_or (slice_get (choice_words ch) place) [])) (choice_words ch) ≡ Some place
choice_again choice.Interface zero e = refl
choice_again choice.Interface (suc zero) e = refl
choice_again choice.Interface (suc (suc n)) e = too_far (suc (suc n)) 2 e (omega arith)
choice_again choice.Policy zero e = refl
choice_again choice.Policy (suc zero) e = refl
choice_again choice.Policy (suc (suc zero)) e = refl
choice_again choice.Policy (suc (suc (suc zero))) e = refl
choice_again choice.Policy (suc (suc (suc (suc n)))) e = too_far (suc (suc (suc (suc n)))) 4 e (omega arith)
choice_again choice.Inherit zero e = refl
choice_again choice.Inherit (suc zero) e = refl
choice_again choice.Inherit (suc (suc n)) e = too_far (suc (suc n)) 2 e (omega arith)
choice_again choice.Cancel zero e = refl
choice_again choice.Cancel (suc zero) e = refl
choice_again choice.Cancel (suc (suc n)) e = too_far (suc (suc n)) 2 e (omega arith)
choice_again choice.MutexKind zero e = refl
choice_again choice.MutexKind (suc zero) e = refl
choice_again choice.MutexKind (suc (suc zero)) e = refl
choice_again choice.MutexKind (suc (suc (suc n))) e = too_far (suc (suc (suc n))) 3 e (omega arith)

fixed_again : (s : Script) (c : CallWord) (ch : Choice) → fixed_words c ≡ choice_words ch → (a : Arg) → suits s (Fixed ch) a ≡ true → IsRead s c (Fixed ch) a
fixed_again s c ch fixed (arg.Word place) e =
    (unwrap_or (slice_get (choice_words ch) place) [], alone_word _ _ (ap (λ (ws : List (List ℕ)). unwrap_or (slice_get ws place) []) fixed), ap (option_map arg.Word) (choice_again ch place e))
fixed_again s c ch fixed arg.Nothing e = absurd cc
fixed_again s c ch fixed (arg.Name id) e = absurd cc
fixed_again s c ch fixed (arg.Num n) e = absurd cc

number_again : (s : Script) (c : CallWord) (a : Arg) → suits s Expression a ≡ true → IsRead s c Expression a
number_again s c (arg.Num n) e = (signed_decimal n, refl, ap (option_map arg.Num) (value_word_again n e))
number_again s c arg.Nothing e = absurd cc
number_again s c (arg.Name id) e = absurd cc
number_again s c (arg.Word place) e = absurd cc

argument_again : (s : Script) → Formed s → (c : CallWord) (p : Slot) → Agrees c p → (a : Arg) → suits s p a ≡ true → IsRead s c p a
argument_again s h c (Object kind) agrees a e = object_again s h c kind a e
argument_again s h c (ObjectOr kind) agrees a e = or_again s h c kind agrees a e
argument_again s h c (Fixed ch) agrees a e = fixed_again s c ch agrees a e
argument_again s h c Expression agrees a e = number_again s c a e
argument_again s h c Number agrees a e = absurd cc
argument_again s h c (Declared kind) agrees a e = absurd cc
argument_again s h c Parameter agrees a e = absurd cc
argument_again s h c Local agrees a e = absurd cc
argument_again s h c Variable agrees a e = absurd cc
argument_again s h c Receiver agrees a e = absurd cc
argument_again s h c Exception agrees a e = absurd cc

-- ---- all arguments

-- Each place has an argument that suits it, and there is no other.
abbrev Suit : Script → List Slot → List Arg → Type 0
Suit s [] [] = Unit {0}
Suit s [] (a ∷ args) = ⊥
Suit s (p ∷ places) [] = ⊥
Suit s (p ∷ places) (a ∷ args) = (suits s p a ≡ true) × Suit s places args

abbrev AreArguments : Script → CallWord → List Slot → List (List ℕ) → List Arg × List (List ℕ) → Type 0
AreArguments s c places ws x = (ws ≡ args_words s.names c x.0 ++ x.1) × Suit s places x.0

arguments_taken : (s : Script) → Formed s → (c : CallWord) (places : List Slot) → AllAgree c places → (ws : List (List ℕ)) (x : List Arg × List (List ℕ)) → arguments (names_in s) places ws ≡ Some x
    → AreArguments s c places ws x
unfolding arguments
arguments_taken s h c [] agrees ws x e = subst (AreArguments s c [] ws) (some_same e) (refl, tt)
  where
    some_same : {x y : List Arg × List (List ℕ)} → Some x ≡ Some y → x ≡ y
    some_same e = cc
arguments_taken s h c (p ∷ places) agrees [] x e = absurd cc
arguments_taken s h c (p ∷ places) agrees (w ∷ ws) x e =
    let first = then_some (λ (y : Arg × List (List ℕ)). option_map (λ (z : List Arg × List (List ℕ)). (y.0 ∷ z.0, z.1)) (arguments (names_in s) places y.1)) (word_as (argument_in (names_in s) p) (w ∷ ws)) x e in
    let one = map_some (λ (a : Arg). (a, ws)) (argument_in (names_in s) p w) first.0 first.1 in
    let rest = map_some (λ (z : List Arg × List (List ℕ)). (first.0.0 ∷ z.0, z.1)) (arguments (names_in s) places first.0.1) x first.2 in
    let left : first.0.1 ≡ ws = sym (ap (λ (y : Arg × List (List ℕ)). y.1) one.2) in
    let is : one.0 ≡ first.0.0 = ap (λ (y : Arg × List (List ℕ)). y.0) one.2 in
    let a = argument_taken s h c p agrees.0 w one.0 one.1 in
    let here : IsArgument s c p w first.0.0 = subst (IsArgument s c p w) is a in
    let more = arguments_taken s h c places agrees.1 ws rest.0 (ap (arguments (names_in s) places) (sym left) ∙ rest.1) in
    subst (AreArguments s c (p ∷ places) (w ∷ ws)) rest.2 (
      ap (λ (vs : List (List ℕ)). w ∷ vs) more.0 ∙ ap (λ (vs : List (List ℕ)). vs ++ (args_words s.names c rest.0.0 ++ rest.0.1)) here.0
          ∙ sym (append_assoc (arg_words s.names c first.0.0) (args_words s.names c rest.0.0) rest.0.1),
      (here.1, more.1),
    )

arguments_again : (s : Script) → Formed s → (c : CallWord) (places : List Slot) → AllAgree c places → (args : List Arg) (rest : List (List ℕ)) → Suit s places args
    → arguments (names_in s) places (args_words s.names c args ++ rest) ≡ Some (args, rest)
unfolding arguments
arguments_again s h c [] agrees [] rest suit = refl
arguments_again s h c [] agrees (a ∷ args) rest suit = absurd suit
arguments_again s h c (p ∷ places) agrees [] rest suit = absurd suit
arguments_again s h c (p ∷ places) agrees (a ∷ args) rest suit =
    let one = argument_again s h c p agrees.0 a suit.0 in
    let more = arguments_again s h c places agrees.1 args rest suit.1 in
    ap (λ (vs : List (List ℕ)). arguments (names_in s) (p ∷ places) ((vs ++ args_words s.names c args) ++ rest)) one.1
    ∙ rw (one.2, more) refl

arguments_read : (s : Script) → Formed s → (c : CallWord) → IsReadAsPrinted (arguments (names_in s) (call_places c)) (args_words s.names c) (Suit s (call_places c))
arguments_read s h c = record {
  taken = arguments_taken s h c (call_places c) (agree c);
  again = arguments_again s h c (call_places c) (agree c);
}

-- ---- the four arguments of a call's line

abbrev nothings : ℕ → List Arg
nothings n = replicate n arg.Nothing

no_words : (names : List (List ℕ)) (c : CallWord) (args more : List Arg) → list_all is_absent more ≡ true → args_words names c (args ++ more) ≡ args_words names c args
no_words names c [] [] h = refl
no_words names c [] (arg.Nothing ∷ more) h = no_words names c [] more h
no_words names c [] (arg.Name id ∷ more) h = absurd cc
no_words names c [] (arg.Num n ∷ more) h = absurd cc
no_words names c [] (arg.Word place ∷ more) h = absurd cc
no_words names c (a ∷ args) more h = ap (λ (ws : List (List ℕ)). arg_words names c a ++ ws) (no_words names c args more h)

all_absent : (n : ℕ) → list_all is_absent (nothings n) ≡ true
all_absent zero = refl
all_absent (suc n) = all_absent n

fills : (s : Script) (places : List Slot) (args more : List Arg) → Suit s places args → list_all is_absent more ≡ true → fill s places (args ++ more) ≡ true
fills s [] [] more suit h = h
fills s [] (a ∷ args) more suit h = absurd suit
fills s (p ∷ places) [] more suit h = absurd suit
fills s (p ∷ places) (a ∷ args) more suit h = all_both (suits s p a) (fill s places (args ++ more)) suit.0 (fills s places args more suit.1 h)

as_many : (s : Script) (places : List Slot) (args : List Arg) → Suit s places args → length args ≡ length places
as_many s [] [] suit = refl
as_many s [] (a ∷ args) suit = absurd suit
as_many s (p ∷ places) [] suit = absurd suit
as_many s (p ∷ places) (a ∷ args) suit = ap suc (as_many s places args suit.1)

length_nothings : (n : ℕ) → length (nothings n) ≡ n
length_nothings zero = refl
length_nothings (suc n) = ap suc (length_nothings n)

is_four : (n : ℕ) → n ≡ 4 → (n == 4) ≡ true
is_four n e = grind (arith, nat_tests)

four_is : (n : ℕ) → (n == 4) ≡ true → n ≡ 4
four_is n e = grind (arith, nat_tests)

four_formed : (s : Script) (c : CallWord) (args : List Arg) → Suit s (call_places c) args → have_their_form s c (four args) ≡ true
four_formed s c args suit =
    let n = as_many s (call_places c) args suit in
    let few = few_places c in
    let more = nothings (4 - length args) in
    let all : length (four args) ≡ 4 = let sum = length-append args more in let m = length_nothings (4 - length args) in omega (arith, n, few, sum, m) in
    all_both (length (four args) == 4) (fill s (places_of c) (four args)) (is_four (length (four args)) all)
    (ap (λ (places : List Slot). fill s places (four args)) (same_places c) ∙ fills s (call_places c) args more suit (all_absent (4 - length args)))

four_words : (names : List (List ℕ)) (c : CallWord) (args : List Arg) → args_words names c (four args) ≡ args_words names c args
four_words names c args = no_words names c args (nothings (4 - length args)) (all_absent (4 - length args))

-- Arguments that fill places are ones that suit them, and nothing behind them.
record Filled (s : Script) (places : List Slot) (args : List Arg) : Type 0 where
  pub front : List Arg
  pub more : List Arg
  pub whole : args ≡ front ++ more
  pub absent : list_all is_absent more ≡ true
  pub suit : Suit s places front

filled : (s : Script) (places : List Slot) (args : List Arg) → fill s places args ≡ true → Filled s places args
filled s [] args e = record { front = []; more = args; whole = refl; absent = e; suit = tt }
filled s (p ∷ places) [] e = absurd cc
filled s (p ∷ places) (a ∷ args) e =
    let two = and_both (suits s p a) (fill s places args) e in
    let f = filled s places args two.1 in
    record { front = a ∷ f.front; more = f.more; whole = ap (λ (xs : List Arg). a ∷ xs) f.whole; absent = f.absent; suit = (two.0, f.suit) }

only_nothing : (more : List Arg) → list_all is_absent more ≡ true → more ≡ nothings (length more)
only_nothing [] h = refl
only_nothing (arg.Nothing ∷ more) h = ap (λ (xs : List Arg). arg.Nothing ∷ xs) (only_nothing more h)
only_nothing (arg.Name id ∷ more) h = absurd cc
only_nothing (arg.Num n ∷ more) h = absurd cc
only_nothing (arg.Word place ∷ more) h = absurd cc

-- ---- a call's line

abbrev CallPrint : Script → CallWord → List Arg × Reply → List (List ℕ)
CallPrint s c x = args_words s.names c x.0 ++ codes "=" ∷ reply_word x.1 ∷ []

abbrev CallFits : Script → CallWord → List Arg × Reply → Type 0
CallFits s c x = Suit s (call_places c) x.0 × (is_formed_reply x.1 ≡ true)

call_read : (s : Script) → Formed s → (c : CallWord) → IsReadAsPrinted (both (arguments (names_in s) (call_places c)) equals_reply) (CallPrint s c) (CallFits s c)
call_read s h c = both_read (arguments (names_in s) (call_places c)) equals_reply (args_words s.names c) (λ r. codes "=" ∷ reply_word r ∷ []) (Suit s (call_places c)) (λ r. is_formed_reply r ≡ true) (arguments_read s h c) reply_formed

pub called_taken : (s : Script) → Formed s → (c : CallWord) (ws : List (List ℕ)) (w : What) → called (names_in s) c ws ≡ Some w → IsSaid s (call_word c ∷ ws) w
unfolding is_formed_what
called_taken s h c ws w e =
    let make : List Arg × Reply → What = λ x. what.Call c (four x.0) x.1 in
    let m = map_some make (alone (both (arguments (names_in s) (call_places c)) equals_reply) ws) w e in
    let t = alone_taken (both (arguments (names_in s) (call_places c)) equals_reply) (CallPrint s c) (CallFits s c) (call_read s h c) ws m.0 m.1 in
    subst (IsSaid s (call_word c ∷ ws)) m.2 (
      ap (λ (vs : List (List ℕ)). call_word c ∷ vs) (t.0 ∙ ap (λ (vs : List (List ℕ)). vs ++ codes "=" ∷ reply_word m.0.1 ∷ []) (sym (four_words s.names c m.0.0))),
      all_both (have_their_form s c (four m.0.0)) (is_formed_reply m.0.1) (four_formed s c m.0.0 t.1.0) t.1.1,
      refl,
    )

pub called_again : (s : Script) → Formed s → (c : CallWord) (args : List Arg) (r : Reply) → is_formed_what s (what.Call c args r) ≡ true
    → called (names_in s) c (args_words s.names c args ++ codes "=" ∷ reply_word r ∷ []) ≡ Some (what.Call c args r)
unfolding is_formed_what
called_again s h c args r e =
    let two = and_both (have_their_form s c args) (is_formed_reply r) e in
    let form = and_both (length args == 4) (fill s (places_of c) args) two.0 in
    let f = filled s (call_places c) args (sym (ap (λ (places : List Slot). fill s places args) (same_places c)) ∙ form.1) in
    let make : List Arg × Reply → What = λ x. what.Call c (four x.0) x.1 in
    let size : length args ≡ 4 = four_is (length args) form.0 in
    let parts : length args ≡ length (f.front ++ f.more) = ap length f.whole in
    let left : length f.more ≡ 4 - length f.front = let sum = length-append f.front f.more in omega (arith, size, parts, sum) in
    let whole : four f.front ≡ args = sym (f.whole ∙ ap (λ (xs : List Arg). f.front ++ xs) (only_nothing f.more f.absent ∙ ap nothings left)) in
    let words : args_words s.names c args ≡ args_words s.names c f.front = ap (args_words s.names c) f.whole ∙ no_words s.names c f.front f.more f.absent in
    ap (λ (vs : List (List ℕ)). called (names_in s) c (vs ++ codes "=" ∷ reply_word r ∷ [])) words
    ∙ ap (option_map make) (alone_again (both (arguments (names_in s) (call_places c)) equals_reply) (CallPrint s c) (CallFits s c) (call_read s h c) (f.front, r) (f.suit, two.1))
    ∙ ap (λ (xs : List Arg). Some (what.Call c xs r)) whole
