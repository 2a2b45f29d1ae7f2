-- Replies, exceptions, gifts and whose lines they are, told from their words.
use Rattle.std.proofs.Common.{◌≡◌, ℕ, ℤ, ◌^◌, ◌<◌, Bool, true, false, List, [], ◌∷◌, ◌++◌, Option, Some, None, inl, inr, refl, sym, ◌∙◌, ap, arith}
use Rattle.std.specs.Prelude.{codes, ◌==◌, if◌then◌else◌}
use Rattle.std.specs.Str.{bytes_eq}
use Rattle.std.specs.Fmt.{decimal, signed_decimal}
use Rattle.std.proofs.lemmas.Bool.{false≢true}
use Rattle.std.proofs.lemmas.Bool.Decides.{nat_tests}
use Rattle.thr_values.specs.declared.number.NameId.{NameId}
use Rattle.thr_values.specs.declared.number.Tid.{Tid}
use Rattle.thr_values.specs.declared.exception.Exc.{Exc}
use Rattle.thr_values.specs.declared.exception.Exc.TheVariants.{Address, Status}
use Rattle.thr_values.specs.declared.reply.Effect.TheVariants as effect
use Rattle.thr_values.specs.declared.reply.Reply.{Reply}
use Rattle.thr_values.specs.declared.reply.Reply.TheVariants as reply
use Rattle.thr_values.specs.declared.history.Who.{Who}
use Rattle.thr_values.specs.declared.history.Who.TheVariants as who
use Rattle.thr_syntax.specs.declared.tree.Script.{Script}
use Rattle.thr_text.specs.declared.object.Object.TheVariants as object
use Rattle.thr_text.specs.Names.{reserved_words, is_reserved}
use Rattle.thr_text.specs.Journals.{name_word, exception_words, reply_word, gift_word, who_word}
use Rattle.thr_text.specs.Reading.{Formed}
use Rattle.thr_verdict.specs.Places.{fits_32}
use Rattle.thr_verdict.specs.FormedJournals.{is_formed_reply, is_formed_exception, is_formed_gift}
use Rattle.thr_exactness.proofs.Decimals.{decimal_one, signed_one}
use Rattle.thr_exactness.proofs.FormedNames.{IsNameOrNone, name_or_none, are_names, starts_with_letter, not_reserved, known_name, same_name}
use Rattle.thr_exactness.proofs.LineKinds.{number_starts}

-- ---- replies

abbrev fixed_replies : List (List ℕ × Reply)
fixed_replies =
    (codes "ok", reply.Done) ∷ (codes "eof", reply.Eof) ∷ (codes "ended", reply.Effect effect.Ended) ∷ (codes "merged", reply.Effect effect.Merged)
    ∷ (codes "pending", reply.Effect effect.Pending) ∷ (codes "wakes", reply.Effect effect.Wakes) ∷ (codes "blocks", reply.Blocks) ∷ (codes "EINVAL", reply.Einval)
    ∷ (codes "EPERM", reply.Eperm) ∷ (codes "EDEADLK", reply.Edeadlk) ∷ (codes "EBUSY", reply.Ebusy) ∷ (codes "ESRCH", reply.Esrch) ∷ (codes "EAGAIN", reply.Eagain)
    ∷ (codes "EPIPE", reply.Epipe) ∷ []

abbrev reply_among : List (List ℕ × Reply) → List ℕ → Option Reply
reply_among [] w = None
reply_among (e ∷ es) w = if bytes_eq w e.0 then Some e.1 else reply_among es w

-- The reply that has this word, numbers apart.
abbrev reply_told : List ℕ → Option Reply
reply_told w = if starts_with_letter w then reply_among fixed_replies w else None

abbrev but_number : Reply → Option Reply
but_number (reply.Value n) = None
but_number r = Some r

no_reply : (w : List ℕ) → starts_with_letter w ≡ false → reply_told w ≡ None
no_reply w e = ap (λ (b : Bool). (if b then reply_among fixed_replies w else None)) e

replies_told : (r : Reply) → reply_told (reply_word r) ≡ but_number r
replies_told reply.Done = refl
replies_told (reply.Value n) = no_reply (signed_decimal n) (number_starts n)
replies_told reply.Eof = refl
replies_told (reply.Effect effect.Ended) = refl
replies_told (reply.Effect effect.Merged) = refl
replies_told (reply.Effect effect.Pending) = refl
replies_told (reply.Effect effect.Wakes) = refl
replies_told reply.Blocks = refl
replies_told reply.Einval = refl
replies_told reply.Eperm = refl
replies_told reply.Edeadlk = refl
replies_told reply.Ebusy = refl
replies_told reply.Esrch = refl
replies_told reply.Eagain = refl
replies_told reply.Epipe = refl

-- A reply, where it is no number, and else this one.
value_or : (a : Reply) (n : ℤ) → but_number a ≡ None → (m : ℤ) × (a ≡ reply.Value m)
value_or (reply.Value m) n e = (m, refl)
value_or _ n e = absurd (cc)

same_fixed : (a b : Reply) → but_number a ≡ Some b → a ≡ b
same_fixed (reply.Value m) b e = absurd (cc)
same_fixed reply.Done b e = cc
same_fixed reply.Eof b e = cc
same_fixed (reply.Effect x) b e = cc
same_fixed reply.Blocks b e = cc
same_fixed reply.Einval b e = cc
same_fixed reply.Eperm b e = cc
same_fixed reply.Edeadlk b e = cc
same_fixed reply.Ebusy b e = cc
same_fixed reply.Esrch b e = cc
same_fixed reply.Eagain b e = cc
same_fixed reply.Epipe b e = cc

both_told : (a b : Reply) → reply_word a ≡ reply_word b → but_number a ≡ but_number b
both_told a b e = sym (replies_told a) ∙ ap reply_told e ∙ replies_told b

number_by : (a : Reply) (n m : ℤ) → is_formed_reply (reply.Value n) ≡ true → a ≡ reply.Value m → reply_word a ≡ signed_decimal n → a ≡ reply.Value n
number_by a n m h is e = is ∙ ap reply.Value (signed_one m n h (ap reply_word (sym is) ∙ e))

-- A reply whose number is of its type is told by its word.
pub same_reply : (a b : Reply) → is_formed_reply b ≡ true → reply_word a ≡ reply_word b → a ≡ b
same_reply a (reply.Value n) h e = let x : (m : ℤ) × (a ≡ reply.Value m) = value_or a n (both_told a (reply.Value n) e) in number_by a n x.0 h x.1 e
same_reply a reply.Done h e = same_fixed a reply.Done (both_told a reply.Done e)
same_reply a reply.Eof h e = same_fixed a reply.Eof (both_told a reply.Eof e)
same_reply a (reply.Effect x) h e = same_fixed a (reply.Effect x) (both_told a (reply.Effect x) e)
same_reply a reply.Blocks h e = same_fixed a reply.Blocks (both_told a reply.Blocks e)
same_reply a reply.Einval h e = same_fixed a reply.Einval (both_told a reply.Einval e)
same_reply a reply.Eperm h e = same_fixed a reply.Eperm (both_told a reply.Eperm e)
same_reply a reply.Edeadlk h e = same_fixed a reply.Edeadlk (both_told a reply.Edeadlk e)
same_reply a reply.Ebusy h e = same_fixed a reply.Ebusy (both_told a reply.Ebusy e)
same_reply a reply.Esrch h e = same_fixed a reply.Esrch (both_told a reply.Esrch e)
same_reply a reply.Eagain h e = same_fixed a reply.Eagain (both_told a reply.Eagain e)
same_reply a reply.Epipe h e = same_fixed a reply.Epipe (both_told a reply.Epipe e)

-- ---- exceptions and gifts

first_same : (a b : List ℕ) → (let l : List (List ℕ) = a ∷ [] in l) ≡ b ∷ [] → a ≡ b
first_same a b e = cc

second_same : (w a b : List ℕ) → (let l : List (List ℕ) = w ∷ a ∷ [] in l) ≡ w ∷ b ∷ [] → a ≡ b
second_same w a b e = cc

one_or_two : (a w b : List ℕ) → (let l : List (List ℕ) = a ∷ [] in l) ≡ w ∷ b ∷ [] → ⊥
one_or_two a w b e = cc

pub same_exception : (s : Script) → Formed s → (a b : Exc) → is_formed_exception s b ≡ true → exception_words s.names a ≡ exception_words s.names b → a ≡ b
same_exception s f (Address m) (Address n) h e = ap Address (same_name s f object.Exception m n h (first_same (name_word s.names m) (name_word s.names n) e))
same_exception s f (Address m) (Status n) h e = absurd (one_or_two (name_word s.names m) (codes "status") (signed_decimal n) e)
same_exception s f (Status m) (Address n) h e = absurd (one_or_two (name_word s.names n) (codes "status") (signed_decimal m) (sym e))
same_exception s f (Status m) (Status n) h e = ap Status (signed_one m n h (second_same (codes "status") (signed_decimal m) (signed_decimal n) e))

global_reserved : is_reserved (codes "global") ≡ true
unfolding is_reserved reserved_words
global_reserved = refl

no_global : (t : List ℕ) → IsNameOrNone t → t ≡ codes "global" → ⊥
no_global t (inl h) e = not_reserved t (codes "global") h global_reserved e
no_global t (inr n) e = absurd (none (sym n ∙ e))
  where
    none : [] ≡ codes "global" → ⊥
    none e = cc

pub same_gift : (s : Script) → Formed s → (a b : Option NameId) → is_formed_gift s b ≡ true → gift_word s.names a ≡ gift_word s.names b → a ≡ b
same_gift s f None None h e = refl
same_gift s f None (Some n) h e = absurd (not_reserved (name_word s.names n) (codes "global") (known_name s f object.Mutex n h) global_reserved (sym e))
same_gift s f (Some m) None h e = absurd (no_global (name_word s.names m) (name_or_none s.names m.0 (are_names s f)) e)
same_gift s f (Some m) (Some n) h e = ap Some (same_name s f object.Mutex m n h e)

-- ---- whose line it is

-- The number in it is of its type.
abbrev pub is_formed_who : Who → Bool
is_formed_who (who.Proc p) = fits_32 p
is_formed_who (who.Thread t) = fits_32 t.0
is_formed_who who.Clock = true

tail_same : (x : ℕ) (a b : List ℕ) → (let l : List ℕ = x ∷ a in l) ≡ x ∷ b → a ≡ b
tail_same x a b e = cc

below_32 : (n : ℕ) → fits_32 n ≡ true → n < 2 ^ 64
below_32 n e = let h : n < 4294967296 = grind (arith, nat_tests) in omega arith

same_tid : (a b : Tid) → a.0 ≡ b.0 → a ≡ b
same_tid a b e = λ i. record { 0 = e i }

-- Whether the word begins with this letter.
abbrev begins : ℕ → List ℕ → Bool
begins b [] = false
begins b (x ∷ xs) = x == b

clash : (b : ℕ) (v w : List ℕ) → begins b v ≡ true → begins b w ≡ false → v ≡ w → ⊥
clash b v w h k e = false≢true (sym k ∙ ap (begins b) (sym e) ∙ h)

pub same_thread : (a b : Tid) → fits_32 b.0 ≡ true → (let t : List ℕ = codes "t" ++ decimal a.0 in t) ≡ codes "t" ++ decimal b.0 → a ≡ b
same_thread a b h e = same_tid a b (decimal_one a.0 b.0 (below_32 b.0 h) (tail_same 116 (decimal a.0) (decimal b.0) e))

pub same_who : (a b : Who) → is_formed_who b ≡ true → who_word a ≡ who_word b → a ≡ b
same_who (who.Proc p) (who.Proc q) h e = ap who.Proc (decimal_one p q (below_32 q h) (tail_same 112 (decimal p) (decimal q) e))
same_who (who.Proc p) (who.Thread t) h e = absurd (clash 112 (who_word (who.Proc p)) (who_word (who.Thread t)) refl refl e)
same_who (who.Proc p) who.Clock h e = absurd (clash 112 (who_word (who.Proc p)) (who_word who.Clock) refl refl e)
same_who (who.Thread t) (who.Proc p) h e = absurd (clash 116 (who_word (who.Thread t)) (who_word (who.Proc p)) refl refl e)
same_who (who.Thread t) (who.Thread u) h e = ap who.Thread (same_thread t u h e)
same_who (who.Thread t) who.Clock h e = absurd (clash 116 (who_word (who.Thread t)) (who_word who.Clock) refl refl e)
same_who who.Clock (who.Proc p) h e = absurd (clash 99 (who_word who.Clock) (who_word (who.Proc p)) refl refl e)
same_who who.Clock (who.Thread t) h e = absurd (clash 99 (who_word who.Clock) (who_word (who.Thread t)) refl refl e)
same_who who.Clock who.Clock h e = refl
