-- No space stands in a word of a line.
use Rattle.std.proofs.Common.{◌≡◌, ℕ, ℤ, pos, negsuc, suc, Bool, true, false, List, [], ◌∷◌, ◌++◌, Option, Some, None, refl, unwrap_or, slice_get, zero, arith}
use Rattle.std.specs.List.{list_all}
use Rattle.std.specs.Fmt.{decimal, signed_decimal}
use Rattle.std.proofs.lemmas.Bool.{and_parts}
use Rattle.std.proofs.lemmas.Bool.Decides.{nat_tests}
use Rattle.std.specs.Prelude.{◌==◌, not, codes}
use Rattle.thr_values.specs.Words.{call_word}
use Rattle.thr_values.specs.declared.number.NameId.{NameId}
use Rattle.thr_values.specs.declared.number.Tid.{Tid}
use Rattle.thr_values.specs.declared.number.Line.{Line}
use Rattle.thr_values.specs.declared.exception.Exc.{Exc}
use Rattle.thr_values.specs.declared.exception.Exc.TheVariants.{Address, Status}
use Rattle.thr_values.specs.declared.reply.Effect.TheVariants as effect
use Rattle.thr_values.specs.declared.reply.Reply.{Reply}
use Rattle.thr_values.specs.declared.reply.Reply.TheVariants as reply
use Rattle.thr_values.specs.declared.call.CallWord.{CallWord}
use Rattle.thr_values.specs.declared.call.CallWord.TheVariants as call
use Rattle.thr_values.specs.declared.call.Arg.{Arg}
use Rattle.thr_values.specs.declared.call.Arg.TheVariants as arg
use Rattle.thr_values.specs.declared.history.What.{What}
use Rattle.thr_values.specs.declared.history.What.TheVariants as what
use Rattle.thr_values.specs.declared.history.Who.{Who}
use Rattle.thr_values.specs.declared.history.Who.TheVariants as who
use Rattle.thr_text.specs.Names.{is_name}
use Rattle.thr_text.specs.Journals.{Names, name_word, exception_words, reply_word, fixed_words, arg_words, args_words, gift_word, at_line, what_words, who_word}
use Rattle.thr_exactness.proofs.Decimals.{is_digit, all_digits}
use Rattle.thr_exactness.proofs.Joins.{is_no_space, HasNoSpace, HaveNoSpace}
use Rattle.thr_exactness.proofs.FormedNames.{all_weaker, name_or_none, name_no_space}

digit_no_space : (b : ℕ) → is_digit b ≡ true → is_no_space b ≡ true
digit_no_space b h = by (b == 32) refl
  where
    by : (c : Bool) → (b == 32) ≡ c → not c ≡ true
    by false e = refl
    by true e = absurd (clash b h e)
      where
        clash : (b : ℕ) → is_digit b ≡ true → (b == 32) ≡ true → ⊥
        clash b h e = grind (arith, nat_tests)

pub spaceless : (n : ℕ) → HasNoSpace (decimal n)
spaceless n = all_weaker is_digit is_no_space digit_no_space (decimal n) (all_digits n)

signed_spaceless : (n : ℤ) → HasNoSpace (signed_decimal n)
signed_spaceless (pos n) = spaceless n
signed_spaceless (negsuc n) = spaceless (suc n)

thread_spaceless : (t : Tid) → HasNoSpace (who_word (who.Thread t))
thread_spaceless t = spaceless t.0

pub who_spaceless : (w : Who) → HasNoSpace (who_word w)
who_spaceless (who.Proc p) = spaceless p
who_spaceless (who.Thread t) = thread_spaceless t
who_spaceless who.Clock = refl

reply_spaceless : (r : Reply) → HasNoSpace (reply_word r)
reply_spaceless reply.Done = refl
reply_spaceless (reply.Value n) = signed_spaceless n
reply_spaceless reply.Eof = refl
reply_spaceless (reply.Effect effect.Ended) = refl
reply_spaceless (reply.Effect effect.Merged) = refl
reply_spaceless (reply.Effect effect.Pending) = refl
reply_spaceless (reply.Effect effect.Wakes) = refl
reply_spaceless reply.Blocks = refl
reply_spaceless reply.Einval = refl
reply_spaceless reply.Eperm = refl
reply_spaceless reply.Edeadlk = refl
reply_spaceless reply.Ebusy = refl
reply_spaceless reply.Esrch = refl
reply_spaceless reply.Eagain = refl
reply_spaceless reply.Epipe = refl

-- ---- calls

call_spaceless : (c : CallWord) → HasNoSpace (call_word c)
unfolding call_word
call_spaceless call.AttrCreate = refl
call_spaceless call.AttrDelete = refl
call_spaceless call.AttrSetsched = refl
call_spaceless call.AttrSetprio = refl
call_spaceless call.AttrSetinheritsched = refl
call_spaceless call.AttrSetstacksize = refl
call_spaceless call.Create = refl
call_spaceless call.Join = refl
call_spaceless call.Detach = refl
call_spaceless call.Yield = refl
call_spaceless call.Cancel = refl
call_spaceless call.Testcancel = refl
call_spaceless call.Setcancel = refl
call_spaceless call.Setasynccancel = refl
call_spaceless call.Setprio = refl
call_spaceless call.Getprio = refl
call_spaceless call.Setscheduler = refl
call_spaceless call.Getscheduler = refl
call_spaceless call.DelayNp = refl
call_spaceless call.GetExpirationNp = refl
call_spaceless call.MutexattrCreate = refl
call_spaceless call.MutexattrSetkindNp = refl
call_spaceless call.MutexattrDelete = refl
call_spaceless call.MutexInit = refl
call_spaceless call.MutexDestroy = refl
call_spaceless call.MutexLock = refl
call_spaceless call.MutexTrylock = refl
call_spaceless call.MutexUnlock = refl
call_spaceless call.LockGlobalNp = refl
call_spaceless call.UnlockGlobalNp = refl
call_spaceless call.CondInit = refl
call_spaceless call.CondDestroy = refl
call_spaceless call.CondWait = refl
call_spaceless call.CondTimedwait = refl
call_spaceless call.CondSignal = refl
call_spaceless call.CondBroadcast = refl
call_spaceless call.Once = refl
call_spaceless call.Keycreate = refl
call_spaceless call.Setspecific = refl
call_spaceless call.Getspecific = refl
call_spaceless call.Read = refl
call_spaceless call.Write = refl
call_spaceless call.Close = refl

abbrev all_spaceless : List (List ℕ) → Bool
all_spaceless ws = list_all (λ w. list_all is_no_space w) ws

fixed_spaceless : (c : CallWord) → all_spaceless (fixed_words c) ≡ true
fixed_spaceless call.AttrSetsched = refl
fixed_spaceless call.AttrSetinheritsched = refl
fixed_spaceless call.Create = refl
fixed_spaceless call.Setcancel = refl
fixed_spaceless call.Setasynccancel = refl
fixed_spaceless call.Setscheduler = refl
fixed_spaceless call.MutexattrSetkindNp = refl
fixed_spaceless call.MutexInit = refl
fixed_spaceless call.Keycreate = refl
fixed_spaceless _ = refl

spaceless_at : (ws : List (List ℕ)) (k : ℕ) → all_spaceless ws ≡ true → HasNoSpace (unwrap_or (slice_get ws k) [])
spaceless_at [] k h = refl
spaceless_at (w ∷ ws) zero h = (and_parts (list_all is_no_space w) (all_spaceless ws) h).0
spaceless_at (w ∷ ws) (suc k) h = spaceless_at ws k (and_parts (list_all is_no_space w) (all_spaceless ws) h).1

join_spaceless : (ws vs : List (List ℕ)) → HaveNoSpace ws → HaveNoSpace vs → HaveNoSpace (ws ++ vs)
join_spaceless [] vs h k = k
join_spaceless (w ∷ ws) vs h k = (h.0, join_spaceless ws vs h.1 k)

module _ (names : Names) (all : list_all is_name names ≡ true) where
  named_spaceless : (n : NameId) → HasNoSpace (name_word names n)
  named_spaceless n = name_no_space (name_word names n) (name_or_none names n.0 all)

  arg_spaceless : (c : CallWord) (a : Arg) → HaveNoSpace (arg_words names c a)
  arg_spaceless c arg.Nothing = tt
  arg_spaceless c (arg.Name n) = (named_spaceless n, tt)
  arg_spaceless c (arg.Num n) = (signed_spaceless n, tt)
  arg_spaceless c (arg.Word k) = (spaceless_at (fixed_words c) k (fixed_spaceless c), tt)

  args_spaceless : (c : CallWord) (args : List Arg) → HaveNoSpace (args_words names c args)
  args_spaceless c [] = tt
  args_spaceless c (a ∷ args) = join_spaceless (arg_words names c a) (args_words names c args) (arg_spaceless c a) (args_spaceless c args)

  exception_spaceless : (x : Exc) → HaveNoSpace (exception_words names x)
  exception_spaceless (Address n) = (named_spaceless n, tt)
  exception_spaceless (Status n) = (refl, (signed_spaceless n, tt))

  gift_spaceless : (m : Option NameId) → HasNoSpace (gift_word names m)
  gift_spaceless None = refl
  gift_spaceless (Some n) = named_spaceless n

  at_line_spaceless : (w : List ℕ) (l : Line) (n : ℤ) → HasNoSpace w → HaveNoSpace (at_line w l n)
  at_line_spaceless w l n h = (h, (spaceless l.0, (signed_spaceless n, tt)))

  pub what_spaceless : (w : What) → HaveNoSpace (what_words names w)
  what_spaceless (what.Run t) = (refl, (thread_spaceless t, tt))
  what_spaceless (what.Clock v) = (signed_spaceless v, tt)
  what_spaceless (what.Call c args r) = (call_spaceless c, join_spaceless (args_words names c args) (codes "=" ∷ reply_word r ∷ []) (args_spaceless c args) (refl, (reply_spaceless r, tt)))
  what_spaceless (what.Ret r) = (refl, (refl, (reply_spaceless r, tt)))
  what_spaceless (what.Gift m) = (refl, (gift_spaceless m, tt))
  what_spaceless (what.Say v) = (refl, (signed_spaceless v, tt))
  what_spaceless (what.Set l v) = at_line_spaceless (codes "set") l v refl
  what_spaceless (what.If l v) = at_line_spaceless (codes "if") l v refl
  what_spaceless (what.While l v) = at_line_spaceless (codes "while") l v refl
  what_spaceless (what.CallAt l v) = at_line_spaceless (codes "call") l v refl
  what_spaceless (what.Return l v) = at_line_spaceless (codes "return") l v refl
  what_spaceless (what.Raise o x) = (refl, (spaceless o, exception_spaceless x))
  what_spaceless (what.Reraise o x) = (refl, (spaceless o, exception_spaceless x))
  what_spaceless (what.Deliver o l) = (refl, (spaceless o, (spaceless l.0, tt)))
  what_spaceless (what.Exit o v) = (refl, (spaceless o, (signed_spaceless v, tt)))
  what_spaceless (what.Try o l) = (refl, (spaceless o, (spaceless l.0, tt)))
  what_spaceless (what.Endtry o) = (refl, (spaceless o, tt))
  what_spaceless (what.Catch o n l) = (refl, (spaceless o, (spaceless n, (spaceless l.0, tt))))
  what_spaceless (what.Endcatch o) = (refl, (spaceless o, tt))
  what_spaceless (what.Finally o n) = (refl, (spaceless o, (spaceless n, tt)))
  what_spaceless (what.Endfin o) = (refl, (spaceless o, tt))
  what_spaceless (what.Once o name) = (refl, (spaceless o, (named_spaceless name, tt)))
  what_spaceless (what.Done o) = (refl, (spaceless o, tt))
  what_spaceless (what.Undone o n) = (refl, (spaceless o, (spaceless n, tt)))
  what_spaceless (what.Destroy o name v) = (refl, (spaceless o, (named_spaceless name, (signed_spaceless v, tt))))
  what_spaceless (what.Enddes o) = (refl, (spaceless o, tt))
  what_spaceless (what.Lost o n) = (refl, (spaceless o, (spaceless n, tt)))
  what_spaceless (what.Bottom o v) = (refl, (spaceless o, (signed_spaceless v, tt)))
  what_spaceless what.Pause = (refl, tt)
  what_spaceless (what.End v) = (refl, (signed_spaceless v, tt))
