-- The words of a line have no blank and no line feed, so that a text is cut into them again.
use Rattle.std.proofs.Common.{◌≡◌, ℕ, zero, suc, ◌<◌, ◌≤◌, ◌^◌, Bool, true, false, List, [], ◌∷◌, ◌++◌, length, Option, Some, None, refl, sym, ap, subst, ◌∙◌, arith}
use Rattle.std.specs.Prelude.{ℤ, pos, negsuc, codes, not, ◌&&◌, ◌||◌, ◌==◌, nat_lt, nat_le, slice_get, unwrap_or}
use Rattle.std.specs.List.{list_all, slice_split, join_with_byte, onto_first}
use Rattle.std.specs.Fmt.{decimal, signed_decimal}
use Rattle.std.specs.Char.{is_ascii_digit}
use Rattle.std.proofs.lemmas.Bool.Decides.{nat_tests}
use Rattle.std.proofs.lemmas.Fmt.{digits_decimal}
use Rattle.std.proofs.lemmas.List.Splits.{slice_split-cons_no, slice_split-cons_yes}
use Rattle.thr_values.specs.Words.{call_word, policy_words, kind_words, inherit_words, cancel_words}
use Rattle.thr_values.specs.declared.number.NameId.{NameId}
use Rattle.thr_values.specs.declared.number.Tid.{Tid}
use Rattle.thr_values.specs.declared.exception.Exc.{Exc}
use Rattle.thr_values.specs.declared.exception.Exc.TheVariants.{Address, Status}
use Rattle.thr_values.specs.declared.call.CallWord.{CallWord}
use Rattle.thr_values.specs.declared.call.CallWord.TheVariants as call
use Rattle.thr_values.specs.declared.call.Arg.{Arg}
use Rattle.thr_values.specs.declared.call.Arg.TheVariants as arg
use Rattle.thr_values.specs.declared.reply.Effect.TheVariants as effect
use Rattle.thr_values.specs.declared.reply.Reply.{Reply}
use Rattle.thr_values.specs.declared.reply.Reply.TheVariants as reply
use Rattle.thr_values.specs.declared.history.Who.{Who}
use Rattle.thr_values.specs.declared.history.Who.TheVariants as who
use Rattle.thr_values.specs.declared.history.What.{What}
use Rattle.thr_values.specs.declared.history.What.TheVariants as what
use Rattle.thr_values.specs.declared.event.Stop.{Stop}
use Rattle.thr_values.specs.declared.event.Stop.TheVariants as stops
use Rattle.thr_syntax.specs.declared.tree.Script.{Script}
use Rattle.thr_syntax.specs.Spelling.{name_at}
use Rattle.thr_text.specs.declared.head.Slot.{Slot}
use Rattle.thr_text.specs.declared.head.Slot.TheVariants.{Number, Fixed, Declared, Parameter, Local, Object, ObjectOr, Variable, Receiver, Exception, Expression}
use Rattle.thr_text.specs.Names.{is_letter_or_digit, has_name_form, is_name}
use Rattle.thr_text.specs.Reading.{Formed, own_lines}
use Rattle.thr_text.specs.Journals.{name_word, thread_word, exception_words, reply_word, fixed_words, arg_words, args_words, gift_word, what_words, who_word, stop_words}
use Rattle.thr_reading.proofs.NamesStand.{forms_have_no_fault, entries_are_names}
use Rattle.thr_trees.proofs.KindsAgree.{has_names}
use Rattle.thr_verdict.specs.Places.{fits_32, fits_64, fits_signed, places_of, suits, is_absent, fill, have_their_form}
use Rattle.thr_verdict.specs.FormedJournals.{is_formed_reply, is_formed_exception, is_formed_what, is_formed_stop}
use Rattle.thr_journal_laws.proofs.Shortest.{and_both, own}
use Rattle.thr_journal_laws.proofs.FormedPlaces.{long_is, short_is}

-- ---- bytes and words

-- A byte that is no blank and no line feed.
abbrev pub is_clean : ℕ → Bool
is_clean b = not (b == 32) && not (b == 10)

abbrev pub IsClean : List ℕ → Type 0
IsClean w = list_all is_clean w ≡ true

abbrev pub AllClean : List (List ℕ) → Type 0
AllClean [] = Unit {0}
AllClean (w ∷ ws) = IsClean w × AllClean ws

pub clean_append : (xs ys : List (List ℕ)) → AllClean xs → AllClean ys → AllClean (xs ++ ys)
clean_append [] ys a b = b
clean_append (x ∷ xs) ys a b = (a.0, clean_append xs ys a.1 b)

-- ---- a text is cut into its words

split_clean : (p : ℕ → Bool) (end : ℕ) (w rest : List ℕ) → ((b : ℕ) → is_clean b ≡ true → p b ≡ false) → p end ≡ true → IsClean w → slice_split p (w ++ end ∷ rest) ≡ w ∷ slice_split p rest
split_clean p end [] rest other ends h = slice_split-cons_yes p end rest ends
split_clean p end (b ∷ w) rest other ends h =
    let two = and_both (is_clean b) (list_all is_clean w) h in
    slice_split-cons_no p b (w ++ end ∷ rest) (other b two.0) ∙ ap (onto_first b) (split_clean p end w rest other ends two.1)

whole_clean : (p : ℕ → Bool) (w : List ℕ) → ((b : ℕ) → is_clean b ≡ true → p b ≡ false) → IsClean w → slice_split p w ≡ w ∷ []
whole_clean p [] other h = refl
whole_clean p (b ∷ w) other h =
    let two = and_both (is_clean b) (list_all is_clean w) h in
    slice_split-cons_no p b w (other b two.0) ∙ ap (onto_first b) (whole_clean p w other two.1)

no_space : (b : ℕ) → is_clean b ≡ true → (b == 32) ≡ false
no_space b h = grind (arith, nat_tests)

pub words_again : (w : List ℕ) (ws : List (List ℕ)) → AllClean (w ∷ ws) → slice_split (λ b. b == 32) (join_with_byte 32 (w ∷ ws)) ≡ w ∷ ws
words_again w [] h = whole_clean (λ b. b == 32) w no_space h.0
words_again w (v ∷ ws) h =
    split_clean (λ b. b == 32) 32 w (join_with_byte 32 (v ∷ ws)) no_space refl h.0 ∙ ap (λ (us : List (List ℕ)). w ∷ us) (words_again v ws h.1)

-- a line of such words has no line feed
abbrev HasNoEnd : List ℕ → Type 0
HasNoEnd w = list_all (λ b. not (b == 10)) w ≡ true

clean_has_none : (w : List ℕ) → IsClean w → HasNoEnd w
clean_has_none [] h = refl
clean_has_none (b ∷ w) h =
    let two = and_both (is_clean b) (list_all is_clean w) h in
    both_true (not (b == 10)) (list_all (λ c. not (c == 10)) w) (no_end b two.0) (clean_has_none w two.1)
  where
    no_end : (b : ℕ) → is_clean b ≡ true → not (b == 10) ≡ true
    no_end b h = grind (arith, nat_tests)

    both_true : (a c : Bool) → a ≡ true → c ≡ true → (a && c) ≡ true
    both_true true c e f = f
    both_true false c e f = absurd cc

append_no_end : (xs ys : List ℕ) → HasNoEnd xs → HasNoEnd ys → HasNoEnd (xs ++ ys)
append_no_end [] ys a b = b
append_no_end (x ∷ xs) ys a b =
    let two = and_both (not (x == 10)) (list_all (λ c. not (c == 10)) xs) a in
    both_true (not (x == 10)) (list_all (λ c. not (c == 10)) (xs ++ ys)) two.0 (append_no_end xs ys two.1 b)
  where
    both_true : (a c : Bool) → a ≡ true → c ≡ true → (a && c) ≡ true
    both_true true c e f = f
    both_true false c e f = absurd cc

pub line_no_end : (ws : List (List ℕ)) → AllClean ws → list_all (λ b. not (b == 10)) (join_with_byte 32 ws) ≡ true
line_no_end [] h = refl
line_no_end (w ∷ []) h = clean_has_none w h.0
line_no_end (w ∷ v ∷ ws) h = append_no_end w (32 ∷ join_with_byte 32 (v ∷ ws)) (clean_has_none w h.0) (line_no_end (v ∷ ws) h.1)

pub cut_line : (l rest : List ℕ) → list_all (λ b. not (b == 10)) l ≡ true → slice_split (λ b. b == 10) (l ++ 10 ∷ rest) ≡ l ∷ slice_split (λ b. b == 10) rest
cut_line [] rest h = slice_split-cons_yes (λ b. b == 10) 10 rest refl
cut_line (b ∷ l) rest h =
    let two = and_both (not (b == 10)) (list_all (λ c. not (c == 10)) l) h in
    slice_split-cons_no (λ c. c == 10) b (l ++ 10 ∷ rest) (isnt b two.0) ∙ ap (onto_first b) (cut_line l rest two.1)
  where
    isnt : (b : ℕ) → not (b == 10) ≡ true → (b == 10) ≡ false
    isnt b e = grind (arith, nat_tests)

-- ---- numbers

digit_clean : (b : ℕ) → is_ascii_digit b ≡ true → is_clean b ≡ true
digit_clean b e = grind (arith, nat_tests)

all_clean : (test : ℕ → Bool) (bs : List ℕ) → ((b : ℕ) → test b ≡ true → is_clean b ≡ true) → list_all test bs ≡ true → IsClean bs
all_clean test [] each h = refl
all_clean test (b ∷ bs) each h =
    let two = and_both (test b) (list_all test bs) h in
    both_true (is_clean b) (list_all is_clean bs) (each b two.0) (all_clean test bs each two.1)
  where
    both_true : (a c : Bool) → a ≡ true → c ≡ true → (a && c) ≡ true
    both_true true c e f = f
    both_true false c e f = absurd cc

pub decimal_clean : (n : ℕ) → n < 2 ^ 64 → IsClean (decimal n)
decimal_clean n small = all_clean is_ascii_digit (decimal n) digit_clean (digits_decimal own n small)

pub long_clean : (n : ℕ) → fits_64 n ≡ true → IsClean (decimal n)
long_clean n e = decimal_clean n (long_is n e)

pub short_clean : (n : ℕ) → fits_32 n ≡ true → IsClean (decimal n)
short_clean n e = decimal_clean n (let small = short_is n e in omega (arith, small))

signed_clean : (z : ℤ) → fits_signed z ≡ true → IsClean (signed_decimal z)
signed_clean (pos n) e = decimal_clean n (small n e)
  where
    small : (n : ℕ) → nat_lt n 9223372036854775808 ≡ true → n < 2 ^ 64
    small n e = grind (arith, nat_tests)
signed_clean (negsuc n) e = decimal_clean (suc n) (small n e)
  where
    small : (n : ℕ) → nat_lt n 9223372036854775808 ≡ true → suc n < 2 ^ 64
    small n e = grind (arith, nat_tests)

-- ---- names

letter_clean : (b : ℕ) → is_letter_or_digit b ≡ true → is_clean b ≡ true
letter_clean b e = grind (arith, nat_tests)

name_clean : (w : List ℕ) → is_name w ≡ true → IsClean w
unfolding has_name_form
name_clean w e = all_clean is_letter_or_digit w letter_clean (and_both _ (list_all is_letter_or_digit w) (and_both _ _ e).0).1

names_clean_at : (names : List (List ℕ)) (i : ℕ) → list_all is_name names ≡ true → IsClean (name_at names i)
names_clean_at [] i h = refl
names_clean_at (n ∷ names) zero h = name_clean n (and_both (is_name n) (list_all is_name names) h).0
names_clean_at (n ∷ names) (suc i) h = names_clean_at names i (and_both (is_name n) (list_all is_name names) h).1

pub script_names_clean : (s : Script) → Formed s → (id : NameId) → IsClean (name_word s.names id)
script_names_clean s h id =
    let all : list_all is_name s.names ≡ true = ap (list_all is_name) (sym (has_names s h).keys) ∙ entries_are_names (own_lines s) (forms_have_no_fault (own_lines s) h.forms) in
    names_clean_at s.names id.0 all

-- ---- fixed words

reply_clean : (r : Reply) → is_formed_reply r ≡ true → IsClean (reply_word r)
reply_clean (reply.Value z) e = signed_clean z e
reply_clean reply.Done e = refl
reply_clean reply.Eof e = refl
reply_clean (reply.Effect effect.Ended) e = refl
reply_clean (reply.Effect effect.Merged) e = refl
reply_clean (reply.Effect effect.Pending) e = refl
reply_clean (reply.Effect effect.Wakes) e = refl
reply_clean reply.Blocks e = refl
reply_clean reply.Einval e = refl
reply_clean reply.Eperm e = refl
reply_clean reply.Edeadlk e = refl
reply_clean reply.Ebusy e = refl
reply_clean reply.Esrch e = refl
reply_clean reply.Eagain e = refl
reply_clean reply.Epipe e = refl

call_clean : (c : CallWord) → IsClean (call_word c)
unfolding call_word
call_clean call.AttrCreate = refl
call_clean call.AttrDelete = refl
call_clean call.AttrSetsched = refl
call_clean call.AttrSetprio = refl
call_clean call.AttrSetinheritsched = refl
call_clean call.AttrSetstacksize = refl
call_clean call.Create = refl
call_clean call.Join = refl
call_clean call.Detach = refl
call_clean call.Yield = refl
call_clean call.Cancel = refl
call_clean call.Testcancel = refl
call_clean call.Setcancel = refl
call_clean call.Setasynccancel = refl
call_clean call.Setprio = refl
call_clean call.Getprio = refl
call_clean call.Setscheduler = refl
call_clean call.Getscheduler = refl
call_clean call.DelayNp = refl
call_clean call.GetExpirationNp = refl
call_clean call.MutexattrCreate = refl
call_clean call.MutexattrSetkindNp = refl
call_clean call.MutexattrDelete = refl
call_clean call.MutexInit = refl
call_clean call.MutexDestroy = refl
call_clean call.MutexLock = refl
call_clean call.MutexTrylock = refl
call_clean call.MutexUnlock = refl
call_clean call.LockGlobalNp = refl
call_clean call.UnlockGlobalNp = refl
call_clean call.CondInit = refl
call_clean call.CondDestroy = refl
call_clean call.CondWait = refl
call_clean call.CondTimedwait = refl
call_clean call.CondSignal = refl
call_clean call.CondBroadcast = refl
call_clean call.Once = refl
call_clean call.Keycreate = refl
call_clean call.Setspecific = refl
call_clean call.Getspecific = refl
call_clean call.Read = refl
call_clean call.Write = refl
call_clean call.Close = refl

fixed_clean : (c : CallWord) → AllClean (fixed_words c)
fixed_clean call.AttrCreate = tt
fixed_clean call.AttrDelete = tt
fixed_clean call.AttrSetsched = (refl, (refl, (refl, (refl, tt))))
fixed_clean call.AttrSetprio = tt
fixed_clean call.AttrSetinheritsched = (refl, (refl, tt))
fixed_clean call.AttrSetstacksize = tt
fixed_clean call.Create = (refl, tt)
fixed_clean call.Join = tt
fixed_clean call.Detach = tt
fixed_clean call.Yield = tt
fixed_clean call.Cancel = tt
fixed_clean call.Testcancel = tt
fixed_clean call.Setcancel = (refl, (refl, tt))
fixed_clean call.Setasynccancel = (refl, (refl, tt))
fixed_clean call.Setprio = tt
fixed_clean call.Getprio = tt
fixed_clean call.Setscheduler = (refl, (refl, (refl, (refl, tt))))
fixed_clean call.Getscheduler = tt
fixed_clean call.DelayNp = tt
fixed_clean call.GetExpirationNp = tt
fixed_clean call.MutexattrCreate = tt
fixed_clean call.MutexattrSetkindNp = (refl, (refl, (refl, tt)))
fixed_clean call.MutexattrDelete = tt
fixed_clean call.MutexInit = (refl, tt)
fixed_clean call.MutexDestroy = tt
fixed_clean call.MutexLock = tt
fixed_clean call.MutexTrylock = tt
fixed_clean call.MutexUnlock = tt
fixed_clean call.LockGlobalNp = tt
fixed_clean call.UnlockGlobalNp = tt
fixed_clean call.CondInit = tt
fixed_clean call.CondDestroy = tt
fixed_clean call.CondWait = tt
fixed_clean call.CondTimedwait = tt
fixed_clean call.CondSignal = tt
fixed_clean call.CondBroadcast = tt
fixed_clean call.Once = tt
fixed_clean call.Keycreate = (refl, tt)
fixed_clean call.Setspecific = tt
fixed_clean call.Getspecific = tt
fixed_clean call.Read = tt
fixed_clean call.Write = tt
fixed_clean call.Close = tt

clean_at : (ws : List (List ℕ)) (i : ℕ) → AllClean ws → IsClean (unwrap_or (slice_get ws i) [])
clean_at [] i h = refl
clean_at (w ∷ ws) zero h = h.0
clean_at (w ∷ ws) (suc i) h = clean_at ws i h.1

-- ---- arguments

argument_clean : (s : Script) → Formed s → (c : CallWord) (p : Slot) (a : Arg) → suits s p a ≡ true → AllClean (arg_words s.names c a)
argument_clean s h c p arg.Nothing e = tt
argument_clean s h c p (arg.Name id) e = (script_names_clean s h id, tt)
argument_clean s h c p (arg.Word place) e = (clean_at (fixed_words c) place (fixed_clean c), tt)
argument_clean s h c p (arg.Num n) e = (signed_clean n (number_suits p n e), tt)
  where
    number_suits : (p : Slot) (n : ℤ) → suits s p (arg.Num n) ≡ true → fits_signed n ≡ true
    number_suits Expression n e = e
    number_suits Number n e = absurd cc
    number_suits (Fixed ch) n e = absurd cc
    number_suits (Declared kind) n e = absurd cc
    number_suits Parameter n e = absurd cc
    number_suits Local n e = absurd cc
    number_suits (Object kind) n e = absurd cc
    number_suits (ObjectOr kind) n e = absurd cc
    number_suits Variable n e = absurd cc
    number_suits Receiver n e = absurd cc
    number_suits Exception n e = absurd cc

absent_clean : (names : List (List ℕ)) (c : CallWord) (args : List Arg) → list_all is_absent args ≡ true → AllClean (args_words names c args)
absent_clean names c [] h = tt
absent_clean names c (arg.Nothing ∷ args) h = absent_clean names c args h
absent_clean names c (arg.Name id ∷ args) h = absurd cc
absent_clean names c (arg.Num n ∷ args) h = absurd cc
absent_clean names c (arg.Word place ∷ args) h = absurd cc

arguments_clean : (s : Script) → Formed s → (c : CallWord) (places : List Slot) (args : List Arg) → fill s places args ≡ true → AllClean (args_words s.names c args)
arguments_clean s h c [] args e = absent_clean s.names c args e
arguments_clean s h c (p ∷ places) [] e = absurd cc
arguments_clean s h c (p ∷ places) (a ∷ args) e =
    let two = and_both (suits s p a) (fill s places args) e in
    clean_append (arg_words s.names c a) (args_words s.names c args) (argument_clean s h c p a two.0) (arguments_clean s h c places args two.1)

-- ---- what lines say

exception_clean : (s : Script) → Formed s → (x : Exc) → is_formed_exception s x ≡ true → AllClean (exception_words s.names x)
exception_clean s h (Address id) e = (script_names_clean s h id, tt)
exception_clean s h (Status z) e = (refl, (signed_clean z e, tt))

gift_clean : (s : Script) → Formed s → (m : Option NameId) → IsClean (gift_word s.names m)
gift_clean s h None = refl
gift_clean s h (Some id) = script_names_clean s h id

thread_clean : (t : Tid) → fits_32 t.0 ≡ true → IsClean (thread_word t)
thread_clean t e = short_clean t.0 e

pub what_clean : (s : Script) → Formed s → (w : What) → is_formed_what s w ≡ true → AllClean (what_words s.names w)
unfolding is_formed_what
what_clean s h (what.Run t) e = (refl, (thread_clean t e, tt))
what_clean s h (what.Clock z) e = (signed_clean z e, tt)
what_clean s h (what.Call c args r) e =
    let two = and_both (have_their_form s c args) (is_formed_reply r) e in
    (call_clean c, clean_append (args_words s.names c args) (codes "=" ∷ reply_word r ∷ []) (arguments_clean s h c (places_of c) args (and_both (length args == 4) (fill s (places_of c) args) two.0).1) (refl, (reply_clean r two.1, tt)))
what_clean s h (what.Ret r) e = (refl, (refl, (reply_clean r e, tt)))
what_clean s h (what.Gift m) e = (refl, (gift_clean s h m, tt))
what_clean s h (what.Say z) e = (refl, (signed_clean z e, tt))
what_clean s h (what.Set l z) e = let two = and_both (fits_32 l.0) (fits_signed z) e in (refl, (short_clean l.0 two.0, (signed_clean z two.1, tt)))
what_clean s h (what.If l z) e = let two = and_both (fits_32 l.0) (fits_signed z) e in (refl, (short_clean l.0 two.0, (signed_clean z two.1, tt)))
what_clean s h (what.While l z) e = let two = and_both (fits_32 l.0) (fits_signed z) e in (refl, (short_clean l.0 two.0, (signed_clean z two.1, tt)))
what_clean s h (what.CallAt l z) e = let two = and_both (fits_32 l.0) (fits_signed z) e in (refl, (short_clean l.0 two.0, (signed_clean z two.1, tt)))
what_clean s h (what.Return l z) e = let two = and_both (fits_32 l.0) (fits_signed z) e in (refl, (short_clean l.0 two.0, (signed_clean z two.1, tt)))
what_clean s h (what.Raise n x) e = let two = and_both (fits_64 n) (is_formed_exception s x) e in (refl, (long_clean n two.0, exception_clean s h x two.1))
what_clean s h (what.Reraise n x) e = let two = and_both (fits_64 n) (is_formed_exception s x) e in (refl, (long_clean n two.0, exception_clean s h x two.1))
what_clean s h (what.Deliver n l) e = let two = and_both (fits_64 n) (fits_32 l.0) e in (refl, (long_clean n two.0, (short_clean l.0 two.1, tt)))
what_clean s h (what.Try n l) e = let two = and_both (fits_64 n) (fits_32 l.0) e in (refl, (long_clean n two.0, (short_clean l.0 two.1, tt)))
what_clean s h (what.Exit n z) e = let two = and_both (fits_64 n) (fits_signed z) e in (refl, (long_clean n two.0, (signed_clean z two.1, tt)))
what_clean s h (what.Bottom n z) e = let two = and_both (fits_64 n) (fits_signed z) e in (refl, (long_clean n two.0, (signed_clean z two.1, tt)))
what_clean s h (what.Endtry n) e = (refl, (long_clean n e, tt))
what_clean s h (what.Endcatch n) e = (refl, (long_clean n e, tt))
what_clean s h (what.Endfin n) e = (refl, (long_clean n e, tt))
what_clean s h (what.Done n) e = (refl, (long_clean n e, tt))
what_clean s h (what.Enddes n) e = (refl, (long_clean n e, tt))
what_clean s h (what.Finally n m) e = let two = and_both (fits_64 n) (fits_64 m) e in (refl, (long_clean n two.0, (long_clean m two.1, tt)))
what_clean s h (what.Undone n m) e = let two = and_both (fits_64 n) (fits_64 m) e in (refl, (long_clean n two.0, (long_clean m two.1, tt)))
what_clean s h (what.Lost n m) e = let two = and_both (fits_64 n) (fits_64 m) e in (refl, (long_clean n two.0, (long_clean m two.1, tt)))
what_clean s h (what.Catch n m l) e =
    let two = and_both (fits_64 n) (fits_64 m && fits_32 l.0) e in
    let more = and_both (fits_64 m) (fits_32 l.0) two.1 in
    (refl, (long_clean n two.0, (long_clean m more.0, (short_clean l.0 more.1, tt))))
what_clean s h (what.Once n id) e = let two = and_both (fits_64 n) _ e in (refl, (long_clean n two.0, (script_names_clean s h id, tt)))
what_clean s h (what.Destroy n id z) e =
    let two = and_both (fits_64 n) _ e in
    let more = and_both _ (fits_signed z) two.1 in
    (refl, (long_clean n two.0, (script_names_clean s h id, (signed_clean z more.1, tt))))
what_clean s h what.Pause e = (refl, tt)
what_clean s h (what.End z) e = (refl, (signed_clean z e, tt))

pub proc_clean : (p : ℕ) → fits_32 p ≡ true → IsClean (who_word (who.Proc p))
proc_clean p e = short_clean p e

pub thread_who_clean : (t : Tid) → fits_32 t.0 ≡ true → IsClean (who_word (who.Thread t))
thread_who_clean t e = thread_clean t e

pub stop_clean : (st : Stop) → is_formed_stop st ≡ true → AllClean (stop_words st)
stop_clean stops.Finished e = (refl, (refl, tt))
stop_clean (stops.Deadlock n t) e = let two = and_both (fits_32 n) (fits_32 t.0) e in (refl, (refl, (short_clean n two.0, (thread_clean t two.1, tt))))
stop_clean stops.Limit e = (refl, (refl, tt))
stop_clean stops.Memory e = (refl, (refl, tt))
