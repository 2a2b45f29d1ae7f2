-- The places of a line, read as they are printed, where what stands there has the form that a formed journal asks for.
use Rattle.std.proofs.Common.{◌≡◌, ℕ, ◌<◌, ◌^◌, Bool, true, false, cond, List, [], ◌∷◌, ◌++◌, length, Option, Some, None, refl, sym, ap, subst, ◌∙◌, arith}
use Rattle.std.specs.Prelude.{ℤ, pos, negsuc, codes, nat_lt, ◌&&◌, if◌then◌else◌}
use Rattle.std.specs.List.{find}
use Rattle.std.specs.Option.{option_map, option_or}
use Rattle.std.specs.Str.{bytes_eq}
use Rattle.std.specs.Fmt.{decimal, signed_decimal}
use Rattle.std.proofs.lemmas.Bool.Decides.{nat_tests}
use Rattle.std.proofs.lemmas.Slice.Eq.{bytes_eq-Decides}
use Rattle.thr_values.specs.declared.number.NameId.{NameId}
use Rattle.thr_values.specs.declared.number.Line.{Line}
use Rattle.thr_values.specs.declared.number.Tid.{Tid}
use Rattle.thr_values.specs.declared.exception.Exc.{Exc}
use Rattle.thr_values.specs.declared.exception.Exc.TheVariants.{Address, Status}
use Rattle.thr_values.specs.declared.reply.Effect.{Effect}
use Rattle.thr_values.specs.declared.reply.Effect.TheVariants as effect
use Rattle.thr_values.specs.declared.reply.Reply.{Reply}
use Rattle.thr_values.specs.declared.reply.Reply.TheVariants as reply
use Rattle.thr_syntax.specs.declared.tree.Script.{Script}
use Rattle.thr_text.specs.declared.object.Object.TheVariants as object
use Rattle.thr_text.specs.Names.{is_name, has_name_form, is_reserved, reserved_words}
use Rattle.thr_text.specs.Reading.{Formed}
use Rattle.thr_text.specs.Journals.{name_word, thread_word, exception_words, gift_word, reply_word}
use Rattle.thr_verdict.specs.Places.{fits_32, fits_64, fits_signed}
use Rattle.thr_verdict.specs.FormedJournals.{is_formed_reply, is_formed_exception, is_formed_gift}
use Rattle.thr_journals.specs.Numbers.{is_shortest, number_of, short_in, value_in}
use Rattle.thr_journals.specs.Fields.{Field, word_as, both, name_in, gift_in, exception, fixed_replies, fixed_reply_in, reply_in, equals_reply, count, value, place, thread}
use Rattle.thr_journal_laws.specs.Numbers.{HasSixtyFourBits}
use Rattle.thr_journal_laws.specs.Places.{IsReadAsPrinted, IsLong, IsPlace, IsThread}
use Rattle.thr_journal_laws.proofs.Shortest.{map_some, value_taken, value_again}
use Rattle.thr_journal_laws.proofs.PlaceLaws.{short_taken, short_again, word_read, count_read, value_read, place_read, thread_read}
use Rattle.thr_journal_laws.proofs.NameLaws.{names_in, name_taken, name_again, name_form, other_word}

-- What fits may be said in other words.
refit : {A : Type 0} (f : Field A) (p : A → List (List ℕ)) (P Q : A → Type 0) → ((a : A) → P a → Q a) → ((a : A) → Q a → P a) → IsReadAsPrinted f p P → IsReadAsPrinted f p Q
refit f p P Q to from r = record {
  taken = λ ws x e. let t = r.taken ws x e in (t.0, to x.0 t.1);
  again = λ a rest fits. r.again a rest (from a fits);
}

-- ---- numbers

is_long : (n : ℕ) → n < 2 ^ 64 → fits_64 n ≡ true
is_long n e = grind (arith, nat_tests)

pub long_is : (n : ℕ) → fits_64 n ≡ true → n < 2 ^ 64
long_is n e = grind (arith, nat_tests)

pub is_short : (n : ℕ) → n < 2 ^ 32 → fits_32 n ≡ true
is_short n e = grind (arith, nat_tests)

pub short_is : (n : ℕ) → fits_32 n ≡ true → n < 2 ^ 32
short_is n e = grind (arith, nat_tests)

is_signed : (z : ℤ) → HasSixtyFourBits z → fits_signed z ≡ true
is_signed (pos n) e = below_limit n e
  where
    below_limit : (n : ℕ) → n < 2 ^ 63 → nat_lt n 9223372036854775808 ≡ true
    below_limit n e = grind (arith, nat_tests)
is_signed (negsuc n) e = below_limit n e
  where
    below_limit : (n : ℕ) → n < 2 ^ 63 → nat_lt n 9223372036854775808 ≡ true
    below_limit n e = grind (arith, nat_tests)

signed_is : (z : ℤ) → fits_signed z ≡ true → HasSixtyFourBits z
signed_is (pos n) e = under_limit n e
  where
    under_limit : (n : ℕ) → nat_lt n 9223372036854775808 ≡ true → n < 2 ^ 63
    under_limit n e = grind (arith, nat_tests)
signed_is (negsuc n) e = under_limit n e
  where
    under_limit : (n : ℕ) → nat_lt n 9223372036854775808 ≡ true → n < 2 ^ 63
    under_limit n e = grind (arith, nat_tests)

pub count_formed : IsReadAsPrinted count (λ n. decimal n ∷ []) (λ n. fits_64 n ≡ true)
count_formed = refit count (λ n. decimal n ∷ []) IsLong (λ n. fits_64 n ≡ true) is_long long_is count_read

pub value_formed : IsReadAsPrinted value (λ z. signed_decimal z ∷ []) (λ z. fits_signed z ≡ true)
value_formed = refit value (λ z. signed_decimal z ∷ []) HasSixtyFourBits (λ z. fits_signed z ≡ true) is_signed signed_is value_read

pub place_formed : IsReadAsPrinted place (λ l. decimal l.0 ∷ []) (λ l. fits_32 l.0 ≡ true)
place_formed = refit place (λ l. decimal l.0 ∷ []) IsPlace (λ l. fits_32 l.0 ≡ true) (λ l. is_short l.0) (λ l. short_is l.0) place_read

pub thread_formed : IsReadAsPrinted thread (λ t. thread_word t ∷ []) (λ t. fits_32 t.0 ≡ true)
thread_formed = refit thread (λ t. thread_word t ∷ []) IsThread (λ t. fits_32 t.0 ≡ true) (λ t. is_short t.0) (λ t. short_is t.0) thread_read

pub short_formed : IsReadAsPrinted (word_as short_in) (λ n. decimal n ∷ []) (λ n. fits_32 n ≡ true)
short_formed = word_read short_in decimal (λ n. fits_32 n ≡ true) (λ w n e. let t = short_taken w n e in (t.0, is_short n t.1)) (λ n e. short_again n (short_is n e))

pub value_word_taken : (w : List ℕ) (z : ℤ) → value_in w ≡ Some z → (w ≡ signed_decimal z) × (fits_signed z ≡ true)
value_word_taken w z e = let t = value_taken w z e in (t.0, is_signed z t.1)

pub value_word_again : (z : ℤ) → fits_signed z ≡ true → value_in (signed_decimal z) ≡ Some z
value_word_again z fits = value_again z (signed_is z fits)

-- ---- gifts and exceptions

status_reserved : is_name (codes "status") ≡ false
unfolding has_name_form is_reserved reserved_words
status_reserved = refl

global_reserved : is_name (codes "global") ≡ false
unfolding has_name_form is_reserved reserved_words
global_reserved = refl

gift_by : (s : Script) → Formed s → (w : List ℕ) (m : Option NameId) (b : Bool) → bytes_eq w (codes "global") ≡ b → gift_in (names_in s) w ≡ Some m → (w ≡ gift_word s.names m) × (is_formed_gift s m ≡ true)
gift_by s h w m true global e =
    let none : None ≡ m = some_same (rw global at e) in
    subst (λ (x : Option NameId). (w ≡ gift_word s.names x) × (is_formed_gift s x ≡ true)) none ((bytes_eq-Decides w (codes "global")).0 global, refl)
  where
    some_same : {a b : Option NameId} → Some a ≡ Some b → a ≡ b
    some_same e = cc
gift_by s h w m false other e =
    let found = map_some Some (name_in (names_in s) object.Mutex w) m (rw other at e) in
    subst (λ (x : Option NameId). (w ≡ gift_word s.names x) × (is_formed_gift s x ≡ true)) found.2 (name_taken s h object.Mutex w found.0 found.1)

gift_again : (s : Script) → Formed s → (m : Option NameId) → is_formed_gift s m ≡ true → gift_in (names_in s) (gift_word s.names m) ≡ Some m
gift_again s h None e = refl
gift_again s h (Some id) e =
    rw (other_word (name_word s.names id) (codes "global") (name_form s h object.Mutex id e) global_reserved, name_again s h object.Mutex id e) refl

pub gift_formed : (s : Script) → Formed s → IsReadAsPrinted (word_as (gift_in (names_in s))) (λ m. gift_word s.names m ∷ []) (λ m. is_formed_gift s m ≡ true)
gift_formed s h = word_read (gift_in (names_in s)) (gift_word s.names) (λ m. is_formed_gift s m ≡ true) (λ w m e. gift_by s h w m (bytes_eq w (codes "global")) refl e) (gift_again s h)

abbrev IsException : (s : Script) (ws : List (List ℕ)) → Exc × List (List ℕ) → Type 0
IsException s ws x = (ws ≡ exception_words s.names x.0 ++ x.1) × (is_formed_exception s x.0 ≡ true)

exception_by : (s : Script) → Formed s → (w : List ℕ) (ws : List (List ℕ)) (x : Exc × List (List ℕ)) (b : Bool) → bytes_eq w (codes "status") ≡ b → exception (names_in s) (w ∷ ws) ≡ Some x
    → IsException s (w ∷ ws) x
exception_by s h w ws x true status e =
    let m = map_some (λ (y : ℤ × List (List ℕ)). (Status y.0, y.1)) (value ws) x (rw status at e) in
    let t = value_formed.taken ws m.0 m.1 in
    subst (IsException s (w ∷ ws)) m.2 (ap (λ (v : List ℕ). v ∷ ws) ((bytes_eq-Decides w (codes "status")).0 status) ∙ ap (λ (vs : List (List ℕ)). codes "status" ∷ vs) t.0, t.1)
exception_by s h w ws x false other e =
    let m = map_some (λ (id : NameId). (Address id, ws)) (name_in (names_in s) object.Exception w) x (rw other at e) in
    let t = name_taken s h object.Exception w m.0 m.1 in
    subst (IsException s (w ∷ ws)) m.2 (ap (λ (v : List ℕ). v ∷ ws) t.0, t.1)

exception_taken : (s : Script) → Formed s → (ws : List (List ℕ)) (x : Exc × List (List ℕ)) → exception (names_in s) ws ≡ Some x → IsException s ws x
exception_taken s h [] x e = absurd cc
exception_taken s h (w ∷ ws) x e = exception_by s h w ws x (bytes_eq w (codes "status")) refl e

exception_again : (s : Script) → Formed s → (x : Exc) (rest : List (List ℕ)) → is_formed_exception s x ≡ true → exception (names_in s) (exception_words s.names x ++ rest) ≡ Some (x, rest)
exception_again s h (Address id) rest e =
    rw (other_word (name_word s.names id) (codes "status") (name_form s h object.Exception id e) status_reserved, name_again s h object.Exception id e) refl
exception_again s h (Status z) rest e = ap (option_map (λ (y : ℤ × List (List ℕ)). (Status y.0, y.1))) (value_formed.again z rest e)

pub exception_formed : (s : Script) → Formed s → IsReadAsPrinted (exception (names_in s)) (exception_words s.names) (λ x. is_formed_exception s x ≡ true)
exception_formed s h = record { taken = exception_taken s h; again = exception_again s h }

-- ---- replies

-- These replies have a word of their own, which is no number.
abbrev AreWords : List Reply → Type 0
AreWords [] = Unit {0}
AreWords (r ∷ rs) = (is_formed_reply r ≡ true) × (value_in (reply_word r) ≡ None) × AreWords rs

all_words : AreWords fixed_replies
unfolding is_shortest number_of
all_words =
    (refl, refl, (refl, refl, (refl, refl, (refl, refl, (refl, refl, (refl, refl, (refl, refl, (refl, refl, (refl, refl, (refl, refl, (refl, refl, (refl, refl, (refl, refl, (refl, refl, tt))))))))))))))

abbrev IsFixed : List ℕ → Reply → Type 0
IsFixed text r = (text ≡ reply_word r) × (is_formed_reply r ≡ true)

fixed_by : (text : List ℕ) (x r : Reply) (more : Option Reply) (b : Bool) → bytes_eq text (reply_word x) ≡ b → is_formed_reply x ≡ true → (more ≡ Some r → IsFixed text r) → cond b (Some x) more ≡ Some r → IsFixed text r
fixed_by text x r more true same formed rest f = let here : x ≡ r = cc in subst (IsFixed text) here ((bytes_eq-Decides text (reply_word x)).0 same, formed)
fixed_by text x r more false other formed rest f = rest f

fixed_taken : (text : List ℕ) (rs : List Reply) (r : Reply) → AreWords rs → find (λ x. bytes_eq text (reply_word x)) rs ≡ Some r → IsFixed text r
fixed_taken text [] r h e = absurd cc
fixed_taken text (x ∷ rs) r h e = fixed_by text x r (find (λ y. bytes_eq text (reply_word y)) rs) (bytes_eq text (reply_word x)) refl h.0 (fixed_taken text rs r h.2) e

-- a number is none of these words
clash : (o : Option ℤ) (z : ℤ) → o ≡ Some z → o ≡ None → ⊥
clash o z a b = cc

no_word_by : (text : List ℕ) (z : ℤ) (x : Reply) (more : Option Reply) (b : Bool) → bytes_eq text (reply_word x) ≡ b → value_in (reply_word x) ≡ None → value_in text ≡ Some z → more ≡ None → cond b (Some x) more ≡ None
no_word_by text z x more true same none e rest = absurd (clash (value_in text) z e (ap value_in ((bytes_eq-Decides text (reply_word x)).0 same) ∙ none))
no_word_by text z x more false other none e rest = rest

no_word : (text : List ℕ) (z : ℤ) (rs : List Reply) → AreWords rs → value_in text ≡ Some z → find (λ x. bytes_eq text (reply_word x)) rs ≡ None
no_word text z [] h e = refl
no_word text z (x ∷ rs) h e = no_word_by text z x (find (λ y. bytes_eq text (reply_word y)) rs) (bytes_eq text (reply_word x)) refl h.1 e (no_word text z rs h.2 e)

abbrev IsReply : List ℕ → Reply → Type 0
IsReply w r = (w ≡ reply_word r) × (is_formed_reply r ≡ true)

reply_by : (w : List ℕ) (r : Reply) (o : Option Reply) → fixed_reply_in w ≡ o → reply_in w ≡ Some r → IsReply w r
reply_by w r (Some x) fixed e = let here : x ≡ r = some_same (rw fixed at e) in subst (IsReply w) here (fixed_taken w fixed_replies x all_words fixed)
  where
    some_same : {a b : Reply} → Some a ≡ Some b → a ≡ b
    some_same e = cc
reply_by w r None none e =
    let m = map_some reply.Value (value_in w) r (rw none at e) in
    subst (IsReply w) m.2 (value_word_taken w m.0 m.1)

reply_again : (r : Reply) → is_formed_reply r ≡ true → reply_in (reply_word r) ≡ Some r
reply_again (reply.Value z) fits =
    let number = value_word_again z fits in
    rw (no_word (signed_decimal z) z fixed_replies all_words number, number) refl
reply_again reply.Done fits = refl
reply_again reply.Eof fits = refl
reply_again (reply.Effect effect.Ended) fits = refl
reply_again (reply.Effect effect.Merged) fits = refl
reply_again (reply.Effect effect.Pending) fits = refl
reply_again (reply.Effect effect.Wakes) fits = refl
reply_again reply.Blocks fits = refl
reply_again reply.Einval fits = refl
reply_again reply.Eperm fits = refl
reply_again reply.Edeadlk fits = refl
reply_again reply.Ebusy fits = refl
reply_again reply.Esrch fits = refl
reply_again reply.Eagain fits = refl
reply_again reply.Epipe fits = refl

reply_alone : IsReadAsPrinted (word_as reply_in) (λ r. reply_word r ∷ []) (λ r. is_formed_reply r ≡ true)
reply_alone = word_read reply_in reply_word (λ r. is_formed_reply r ≡ true) (λ w r e. reply_by w r (fixed_reply_in w) refl e) reply_again

abbrev IsEqualsReply : List (List ℕ) → Reply × List (List ℕ) → Type 0
IsEqualsReply ws x = (ws ≡ codes "=" ∷ reply_word x.0 ∷ x.1) × (is_formed_reply x.0 ≡ true)

equals_by : (w : List ℕ) (ws : List (List ℕ)) (x : Reply × List (List ℕ)) (b : Bool) → bytes_eq w (codes "=") ≡ b → equals_reply (w ∷ ws) ≡ Some x → IsEqualsReply (w ∷ ws) x
equals_by w ws x true same e =
    let t = reply_alone.taken ws x (rw same at e) in
    (ap (λ (v : List ℕ). v ∷ ws) ((bytes_eq-Decides w (codes "=")).0 same) ∙ ap (λ (vs : List (List ℕ)). codes "=" ∷ vs) t.0, t.1)
equals_by w ws x false other e = absurd (let none : None ≡ Some x = rw other at e in cc)

equals_taken : (ws : List (List ℕ)) (x : Reply × List (List ℕ)) → equals_reply ws ≡ Some x → IsEqualsReply ws x
equals_taken [] x e = absurd cc
equals_taken (w ∷ ws) x e = equals_by w ws x (bytes_eq w (codes "=")) refl e

pub reply_formed : IsReadAsPrinted equals_reply (λ r. codes "=" ∷ reply_word r ∷ []) (λ r. is_formed_reply r ≡ true)
reply_formed = record { taken = equals_taken; again = λ r rest fits. reply_alone.again r rest fits }
