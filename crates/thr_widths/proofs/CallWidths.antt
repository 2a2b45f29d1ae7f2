-- How many bytes a call's words take.
use Rattle.std.proofs.Common.{◌≡◌, ℕ, zero, suc, ◌+◌, ◌≤◌, Bool, true, false, List, [], ◌∷◌, length, refl, arith, if◌then◌else◌}
use Rattle.std.specs.Prelude.{nat_le, slice_get, unwrap_or}
use Rattle.std.specs.List.{list_all}
use Rattle.std.proofs.lemmas.Bool.{leb-true, and_parts, false≢true}
use Rattle.thr_values.specs.Words.{call_word}
use Rattle.thr_values.specs.declared.call.CallWord.{CallWord}
use Rattle.thr_values.specs.declared.call.CallWord.TheVariants as word
use Rattle.thr_values.specs.declared.call.Arg.{Arg}
use Rattle.thr_values.specs.declared.call.Arg.TheVariants as arg
use Rattle.thr_values.specs.declared.reply.Effect.{Effect}
use Rattle.thr_values.specs.declared.reply.Effect.TheVariants as effect
use Rattle.thr_values.specs.declared.reply.Reply.{Reply}
use Rattle.thr_values.specs.declared.reply.Reply.TheVariants as reply
use Rattle.thr_syntax.specs.declared.tree.Script.{Script}
use Rattle.thr_text.specs.Journals.{effect_word, reply_word, fixed_words, arg_words, args_words}
use Rattle.thr_text.specs.Slots.{call_slots}
use Rattle.thr_text.specs.declared.head.Slot.{Slot}
use Rattle.thr_text.specs.declared.head.Slot.TheVariants.{Object, ObjectOr, Fixed, Expression}
use Rattle.thr_verdict.specs.Places.{places_of, suits, is_absent, fill}
use Rattle.thr_verdict.specs.FormedJournals.{is_formed_reply}
use Rattle.thr_widths.specs.Replies.{takes_a_value}
use Rattle.thr_widths.proofs.LineWidths.{width, width_append, short_signed}
use Rattle.thr_widths.proofs.NameWidths.{AreShort, short_at}

-- ---- fixed words

abbrev is_fixed_short : List ℕ → Bool
is_fixed_short word = nat_le (length word) 21

fixed_all : (c : CallWord) → list_all is_fixed_short (fixed_words c) ≡ true
fixed_all word.AttrSetsched = refl
fixed_all word.AttrSetinheritsched = refl
fixed_all word.Create = refl
fixed_all word.Setcancel = refl
fixed_all word.Setasynccancel = refl
fixed_all word.Setscheduler = refl
fixed_all word.MutexattrSetkindNp = refl
fixed_all word.MutexInit = refl
fixed_all word.Keycreate = refl
fixed_all _ = refl

one_of : (words : List (List ℕ)) (place : ℕ) → list_all is_fixed_short words ≡ true → length (unwrap_or (slice_get words place) []) ≤ 21
one_of [] place h = omega arith
one_of (w ∷ words) zero h = leb-true (length w) 21 (and_parts _ _ h).0
one_of (w ∷ words) (suc place) h = one_of words place (and_parts _ _ h).1

pub fixed_short : (c : CallWord) (place : ℕ) → length (unwrap_or (slice_get (fixed_words c) place) []) ≤ 21
fixed_short c place = one_of (fixed_words c) place (fixed_all c)

-- ---- arguments

-- What an argument takes at most at its place, with a space.
abbrev pub room : Slot → ℕ
room (Object kind) = 25
room (ObjectOr kind) = 25
room (Fixed choice) = 22
room Expression = 21
room _ = 0

abbrev pub rooms : List Slot → ℕ
rooms [] = 0
rooms (p ∷ places) = room p + rooms places

argument_short : (s : Script) (c : CallWord) (p : Slot) (a : Arg) → AreShort s.names → suits s p a ≡ true → width (arg_words s.names c a) ≤ room p
argument_short s c (Object kind) (arg.Name name) short h = let named = short_at s.names name.0 short in omega (arith, named)
argument_short s c (ObjectOr kind) (arg.Name name) short h = let named = short_at s.names name.0 short in omega (arith, named)
argument_short s c (ObjectOr kind) (arg.Word place) short h = let fixed = fixed_short c place in omega (arith, fixed)
argument_short s c (Fixed choice) (arg.Word place) short h = let fixed = fixed_short c place in omega (arith, fixed)
argument_short s c Expression (arg.Num n) short h = let number = short_signed n h in omega (arith, number)
argument_short s c _ a short h = absurd (false≢true h)

none_left : (s : Script) (c : CallWord) (args : List Arg) → list_all is_absent args ≡ true → args_words s.names c args ≡ []
none_left s c [] h = refl
none_left s c (arg.Nothing ∷ args) h = none_left s c args h
none_left s c (arg.Name name ∷ args) h = absurd (false≢true h)
none_left s c (arg.Num n ∷ args) h = absurd (false≢true h)
none_left s c (arg.Word place ∷ args) h = absurd (false≢true h)

pub arguments_short : (s : Script) (c : CallWord) (places : List Slot) (args : List Arg) → AreShort s.names → fill s places args ≡ true
    → width (args_words s.names c args) ≤ rooms places
arguments_short s c [] args short h = let none = none_left s c args h in rw none (omega arith)
arguments_short s c (p ∷ places) [] short h = absurd (false≢true h)
arguments_short s c (p ∷ places) (a ∷ args) short h =
    let b = and_parts (suits s p a) (fill s places args) h in
    omega (arith, width_append (arg_words s.names c a) (args_words s.names c args), argument_short s c p a short b.0, arguments_short s c places args short b.1)

-- ---- words of calls

-- What a call's word and its arguments take at most.
abbrev pub most : CallWord → ℕ
most c = length (call_word c) + 1 + rooms (places_of c)

-- What any of them takes, and any that has a variable for the reply.
abbrev pub greatest : Bool → ℕ
greatest true = 86
greatest false = 94

pub call_fits : (c : CallWord) → nat_le (most c) (greatest (takes_a_value c)) ≡ true
unfolding call_word call_slots
call_fits word.AttrCreate = refl
call_fits word.AttrDelete = refl
call_fits word.AttrSetsched = refl
call_fits word.AttrSetprio = refl
call_fits word.AttrSetinheritsched = refl
call_fits word.AttrSetstacksize = refl
call_fits word.Create = refl
call_fits word.Join = refl
call_fits word.Detach = refl
call_fits word.Yield = refl
call_fits word.Cancel = refl
call_fits word.Testcancel = refl
call_fits word.Setcancel = refl
call_fits word.Setasynccancel = refl
call_fits word.Setprio = refl
call_fits word.Getprio = refl
call_fits word.Setscheduler = refl
call_fits word.Getscheduler = refl
call_fits word.DelayNp = refl
call_fits word.GetExpirationNp = refl
call_fits word.MutexattrCreate = refl
call_fits word.MutexattrSetkindNp = refl
call_fits word.MutexattrDelete = refl
call_fits word.MutexInit = refl
call_fits word.MutexDestroy = refl
call_fits word.MutexLock = refl
call_fits word.MutexTrylock = refl
call_fits word.MutexUnlock = refl
call_fits word.LockGlobalNp = refl
call_fits word.UnlockGlobalNp = refl
call_fits word.CondInit = refl
call_fits word.CondDestroy = refl
call_fits word.CondWait = refl
call_fits word.CondTimedwait = refl
call_fits word.CondSignal = refl
call_fits word.CondBroadcast = refl
call_fits word.Once = refl
call_fits word.Keycreate = refl
call_fits word.Setspecific = refl
call_fits word.Getspecific = refl
call_fits word.Read = refl
call_fits word.Write = refl
call_fits word.Close = refl

-- ---- replies

-- What a reply's word takes at most.
abbrev pub reply_room : Reply → ℕ
reply_room (reply.Value n) = 20
reply_room _ = 7

effect_short : (e : Effect) → length (effect_word e) ≤ 7
effect_short effect.Ended = omega arith
effect_short effect.Merged = omega arith
effect_short effect.Pending = omega arith
effect_short effect.Wakes = omega arith

pub reply_short : (r : Reply) → is_formed_reply r ≡ true → length (reply_word r) ≤ reply_room r
reply_short (reply.Value n) h = short_signed n h
reply_short (reply.Effect e) h = effect_short e
reply_short reply.Done h = omega arith
reply_short _ h = omega arith

pub any_room : (r : Reply) → reply_room r ≤ 20
any_room (reply.Value n) = omega arith
any_room _ = omega arith
