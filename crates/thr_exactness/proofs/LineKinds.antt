-- Lines by their kinds: the first word of what a line says tells its kind, and a line is what its kind and its fields make.
use Rattle.std.proofs.Common.{◌≡◌, ℕ, ℤ, pos, negsuc, arith, Bool, true, false, List, [], ◌∷◌, Option, Some, None, refl, sym, ◌∙◌, ap, unwrap_or}
use Rattle.std.specs.Prelude.{codes, if◌then◌else◌}
use Rattle.std.specs.List.{list_all}
use Rattle.std.specs.Str.{bytes_eq}
use Rattle.std.specs.Fmt.{decimal, signed_decimal}
use Rattle.std.proofs.lemmas.Bool.{and_parts}
use Rattle.std.proofs.lemmas.Bool.Decides.{nat_tests}
use Rattle.thr_values.specs.Words.{call_word}
use Rattle.thr_values.specs.declared.number.NameId.{NameId}
use Rattle.thr_values.specs.declared.number.Line.{Line}
use Rattle.thr_values.specs.declared.exception.Exc.{Exc}
use Rattle.thr_values.specs.declared.exception.Exc.TheVariants.{Status}
use Rattle.thr_values.specs.declared.reply.Reply.{Reply}
use Rattle.thr_values.specs.declared.reply.Reply.TheVariants as reply
use Rattle.thr_values.specs.declared.call.CallWord.{CallWord}
use Rattle.thr_values.specs.declared.call.CallWord.TheVariants as call
use Rattle.thr_values.specs.declared.call.Arg.{Arg}
use Rattle.thr_values.specs.declared.history.What.{What}
use Rattle.thr_values.specs.declared.history.What.TheVariants as what
use Rattle.thr_text.specs.Names.{is_letter}
use Rattle.thr_text.specs.Journals.{Names, what_words}
use Rattle.thr_exactness.proofs.Decimals.{is_digit, all_digits}
use Rattle.thr_exactness.proofs.FormedNames.{starts_with_letter}

-- The kind of a line.
pub data Kind : Type 0 where
  Run : Kind
  Clock : Kind
  Call : CallWord → Kind
  Ret : Kind
  Gift : Kind
  Say : Kind
  Set : Kind
  If : Kind
  While : Kind
  CallAt : Kind
  Return : Kind
  Raise : Kind
  Reraise : Kind
  Deliver : Kind
  Exit : Kind
  Try : Kind
  Endtry : Kind
  Catch : Kind
  Endcatch : Kind
  Finally : Kind
  Endfin : Kind
  Once : Kind
  Done : Kind
  Undone : Kind
  Destroy : Kind
  Enddes : Kind
  Lost : Kind
  Bottom : Kind
  Pause : Kind
  End : Kind

-- What a line of some kind says beside its kind.
pub record Fields : Type 0 where
  pub count : ℕ
  pub number : ℕ
  pub line : Line
  pub value : ℤ
  pub exception : Exc
  pub name : NameId
  pub args : List Arg
  pub reply : Reply
  pub gift : Option NameId

abbrev nothing_said : Fields
nothing_said = record {
  count = 0;
  number = 0;
  line = record { 0 = 0 };
  value = pos 0;
  exception = Status (pos 0);
  name = record { 0 = 0 };
  args = [];
  reply = reply.Done;
  gift = None;
}

abbrev pub kind_of : What → Kind
kind_of (what.Run t) = Run
kind_of (what.Clock v) = Clock
kind_of (what.Call c args r) = Call c
kind_of (what.Ret r) = Ret
kind_of (what.Gift m) = Gift
kind_of (what.Say v) = Say
kind_of (what.Set l v) = Set
kind_of (what.If l v) = If
kind_of (what.While l v) = While
kind_of (what.CallAt l v) = CallAt
kind_of (what.Return l v) = Return
kind_of (what.Raise o x) = Raise
kind_of (what.Reraise o x) = Reraise
kind_of (what.Deliver o l) = Deliver
kind_of (what.Exit o v) = Exit
kind_of (what.Try o l) = Try
kind_of (what.Endtry o) = Endtry
kind_of (what.Catch o n l) = Catch
kind_of (what.Endcatch o) = Endcatch
kind_of (what.Finally o n) = Finally
kind_of (what.Endfin o) = Endfin
kind_of (what.Once o name) = Once
kind_of (what.Done o) = Done
kind_of (what.Undone o n) = Undone
kind_of (what.Destroy o name v) = Destroy
kind_of (what.Enddes o) = Enddes
kind_of (what.Lost o n) = Lost
kind_of (what.Bottom o v) = Bottom
kind_of what.Pause = Pause
kind_of (what.End v) = End

abbrev pub fields_of : What → Fields
fields_of (what.Run t) = record nothing_said { count = t.0 }
fields_of (what.Clock v) = record nothing_said { value = v }
fields_of (what.Call c args r) = record nothing_said { args = args; reply = r }
fields_of (what.Ret r) = record nothing_said { reply = r }
fields_of (what.Gift m) = record nothing_said { gift = m }
fields_of (what.Say v) = record nothing_said { value = v }
fields_of (what.Set l v) = record nothing_said { line = l; value = v }
fields_of (what.If l v) = record nothing_said { line = l; value = v }
fields_of (what.While l v) = record nothing_said { line = l; value = v }
fields_of (what.CallAt l v) = record nothing_said { line = l; value = v }
fields_of (what.Return l v) = record nothing_said { line = l; value = v }
fields_of (what.Raise o x) = record nothing_said { count = o; exception = x }
fields_of (what.Reraise o x) = record nothing_said { count = o; exception = x }
fields_of (what.Deliver o l) = record nothing_said { count = o; line = l }
fields_of (what.Exit o v) = record nothing_said { count = o; value = v }
fields_of (what.Try o l) = record nothing_said { count = o; line = l }
fields_of (what.Endtry o) = record nothing_said { count = o }
fields_of (what.Catch o n l) = record nothing_said { count = o; number = n; line = l }
fields_of (what.Endcatch o) = record nothing_said { count = o }
fields_of (what.Finally o n) = record nothing_said { count = o; number = n }
fields_of (what.Endfin o) = record nothing_said { count = o }
fields_of (what.Once o name) = record nothing_said { count = o; name = name }
fields_of (what.Done o) = record nothing_said { count = o }
fields_of (what.Undone o n) = record nothing_said { count = o; number = n }
fields_of (what.Destroy o name v) = record nothing_said { count = o; name = name; value = v }
fields_of (what.Enddes o) = record nothing_said { count = o }
fields_of (what.Lost o n) = record nothing_said { count = o; number = n }
fields_of (what.Bottom o v) = record nothing_said { count = o; value = v }
fields_of what.Pause = nothing_said
fields_of (what.End v) = record nothing_said { value = v }

-- The line of this kind with these fields.
abbrev pub build : Kind → Fields → What
build Run f = what.Run (record { 0 = f.count })
build Clock f = what.Clock f.value
build (Call c) f = what.Call c f.args f.reply
build Ret f = what.Ret f.reply
build Gift f = what.Gift f.gift
build Say f = what.Say f.value
build Set f = what.Set f.line f.value
build If f = what.If f.line f.value
build While f = what.While f.line f.value
build CallAt f = what.CallAt f.line f.value
build Return f = what.Return f.line f.value
build Raise f = what.Raise f.count f.exception
build Reraise f = what.Reraise f.count f.exception
build Deliver f = what.Deliver f.count f.line
build Exit f = what.Exit f.count f.value
build Try f = what.Try f.count f.line
build Endtry f = what.Endtry f.count
build Catch f = what.Catch f.count f.number f.line
build Endcatch f = what.Endcatch f.count
build Finally f = what.Finally f.count f.number
build Endfin f = what.Endfin f.count
build Once f = what.Once f.count f.name
build Done f = what.Done f.count
build Undone f = what.Undone f.count f.number
build Destroy f = what.Destroy f.count f.name f.value
build Enddes f = what.Enddes f.count
build Lost f = what.Lost f.count f.number
build Bottom f = what.Bottom f.count f.value
build Pause f = what.Pause
build End f = what.End f.value

built : (w : What) → build (kind_of w) (fields_of w) ≡ w
built (what.Run t) = refl
built (what.Clock v) = refl
built (what.Call c args r) = refl
built (what.Ret r) = refl
built (what.Gift m) = refl
built (what.Say v) = refl
built (what.Set l v) = refl
built (what.If l v) = refl
built (what.While l v) = refl
built (what.CallAt l v) = refl
built (what.Return l v) = refl
built (what.Raise o x) = refl
built (what.Reraise o x) = refl
built (what.Deliver o l) = refl
built (what.Exit o v) = refl
built (what.Try o l) = refl
built (what.Endtry o) = refl
built (what.Catch o n l) = refl
built (what.Endcatch o) = refl
built (what.Finally o n) = refl
built (what.Endfin o) = refl
built (what.Once o name) = refl
built (what.Done o) = refl
built (what.Undone o n) = refl
built (what.Destroy o name v) = refl
built (what.Enddes o) = refl
built (what.Lost o n) = refl
built (what.Bottom o v) = refl
built what.Pause = refl
built (what.End v) = refl

pub like : (m : What) (k : Kind) → kind_of m ≡ k → m ≡ build k (fields_of m)
like m k e = sym (built m) ∙ ap (λ (j : Kind). build j (fields_of m)) e

-- ---- the first word

-- The first words of lines, moves of the clock apart, each with its kind.
abbrev first_words : List (List ℕ × Kind)
first_words =
    (codes "run", Run)
    ∷ (codes "ret", Ret)
    ∷ (codes "gift", Gift)
    ∷ (codes "say", Say)
    ∷ (codes "set", Set)
    ∷ (codes "if", If)
    ∷ (codes "while", While)
    ∷ (codes "call", CallAt)
    ∷ (codes "return", Return)
    ∷ (codes "raise", Raise)
    ∷ (codes "reraise", Reraise)
    ∷ (codes "deliver", Deliver)
    ∷ (codes "exit", Exit)
    ∷ (codes "try", Try)
    ∷ (codes "endtry", Endtry)
    ∷ (codes "catch", Catch)
    ∷ (codes "endcatch", Endcatch)
    ∷ (codes "finally", Finally)
    ∷ (codes "endfin", Endfin)
    ∷ (codes "once", Once)
    ∷ (codes "done", Done)
    ∷ (codes "undone", Undone)
    ∷ (codes "destroy", Destroy)
    ∷ (codes "enddes", Enddes)
    ∷ (codes "lost", Lost)
    ∷ (codes "bottom", Bottom)
    ∷ (codes "pause", Pause)
    ∷ (codes "end", End)
    ∷ (codes "pthread_attr_create", Call call.AttrCreate)
    ∷ (codes "pthread_attr_delete", Call call.AttrDelete)
    ∷ (codes "pthread_attr_setsched", Call call.AttrSetsched)
    ∷ (codes "pthread_attr_setprio", Call call.AttrSetprio)
    ∷ (codes "pthread_attr_setinheritsched", Call call.AttrSetinheritsched)
    ∷ (codes "pthread_attr_setstacksize", Call call.AttrSetstacksize)
    ∷ (codes "pthread_create", Call call.Create)
    ∷ (codes "pthread_join", Call call.Join)
    ∷ (codes "pthread_detach", Call call.Detach)
    ∷ (codes "pthread_yield", Call call.Yield)
    ∷ (codes "pthread_cancel", Call call.Cancel)
    ∷ (codes "pthread_testcancel", Call call.Testcancel)
    ∷ (codes "pthread_setcancel", Call call.Setcancel)
    ∷ (codes "pthread_setasynccancel", Call call.Setasynccancel)
    ∷ (codes "pthread_setprio", Call call.Setprio)
    ∷ (codes "pthread_getprio", Call call.Getprio)
    ∷ (codes "pthread_setscheduler", Call call.Setscheduler)
    ∷ (codes "pthread_getscheduler", Call call.Getscheduler)
    ∷ (codes "pthread_delay_np", Call call.DelayNp)
    ∷ (codes "pthread_get_expiration_np", Call call.GetExpirationNp)
    ∷ (codes "pthread_mutexattr_create", Call call.MutexattrCreate)
    ∷ (codes "pthread_mutexattr_setkind_np", Call call.MutexattrSetkindNp)
    ∷ (codes "pthread_mutexattr_delete", Call call.MutexattrDelete)
    ∷ (codes "pthread_mutex_init", Call call.MutexInit)
    ∷ (codes "pthread_mutex_destroy", Call call.MutexDestroy)
    ∷ (codes "pthread_mutex_lock", Call call.MutexLock)
    ∷ (codes "pthread_mutex_trylock", Call call.MutexTrylock)
    ∷ (codes "pthread_mutex_unlock", Call call.MutexUnlock)
    ∷ (codes "pthread_lock_global_np", Call call.LockGlobalNp)
    ∷ (codes "pthread_unlock_global_np", Call call.UnlockGlobalNp)
    ∷ (codes "pthread_cond_init", Call call.CondInit)
    ∷ (codes "pthread_cond_destroy", Call call.CondDestroy)
    ∷ (codes "pthread_cond_wait", Call call.CondWait)
    ∷ (codes "pthread_cond_timedwait", Call call.CondTimedwait)
    ∷ (codes "pthread_cond_signal", Call call.CondSignal)
    ∷ (codes "pthread_cond_broadcast", Call call.CondBroadcast)
    ∷ (codes "pthread_once", Call call.Once)
    ∷ (codes "pthread_keycreate", Call call.Keycreate)
    ∷ (codes "pthread_setspecific", Call call.Setspecific)
    ∷ (codes "pthread_getspecific", Call call.Getspecific)
    ∷ (codes "read", Call call.Read)
    ∷ (codes "write", Call call.Write)
    ∷ (codes "close", Call call.Close)
    ∷ []

abbrev kind_among : List (List ℕ × Kind) → List ℕ → Option Kind
kind_among [] w = None
kind_among (e ∷ es) w = if bytes_eq w e.0 then Some e.1 else kind_among es w

-- The kind of which lines have this first word; those of moves of the clock begin with a number.
abbrev kind_told : List ℕ → Option Kind
kind_told w = if starts_with_letter w then kind_among first_words w else None

abbrev but_clock : Kind → Option Kind
but_clock Clock = None
but_clock k = Some k

abbrev pub first_of : List (List ℕ) → List ℕ
first_of [] = []
first_of (w ∷ ws) = w

call_told : (c : CallWord) → kind_told (call_word c) ≡ Some (Call c)
unfolding call_word
call_told call.AttrCreate = refl
call_told call.AttrDelete = refl
call_told call.AttrSetsched = refl
call_told call.AttrSetprio = refl
call_told call.AttrSetinheritsched = refl
call_told call.AttrSetstacksize = refl
call_told call.Create = refl
call_told call.Join = refl
call_told call.Detach = refl
call_told call.Yield = refl
call_told call.Cancel = refl
call_told call.Testcancel = refl
call_told call.Setcancel = refl
call_told call.Setasynccancel = refl
call_told call.Setprio = refl
call_told call.Getprio = refl
call_told call.Setscheduler = refl
call_told call.Getscheduler = refl
call_told call.DelayNp = refl
call_told call.GetExpirationNp = refl
call_told call.MutexattrCreate = refl
call_told call.MutexattrSetkindNp = refl
call_told call.MutexattrDelete = refl
call_told call.MutexInit = refl
call_told call.MutexDestroy = refl
call_told call.MutexLock = refl
call_told call.MutexTrylock = refl
call_told call.MutexUnlock = refl
call_told call.LockGlobalNp = refl
call_told call.UnlockGlobalNp = refl
call_told call.CondInit = refl
call_told call.CondDestroy = refl
call_told call.CondWait = refl
call_told call.CondTimedwait = refl
call_told call.CondSignal = refl
call_told call.CondBroadcast = refl
call_told call.Once = refl
call_told call.Keycreate = refl
call_told call.Setspecific = refl
call_told call.Getspecific = refl
call_told call.Read = refl
call_told call.Write = refl
call_told call.Close = refl

digit_no_letter : (b : ℕ) → is_digit b ≡ true → is_letter b ≡ false
digit_no_letter b h = by (is_letter b) refl
  where
    by : (c : Bool) → is_letter b ≡ c → c ≡ false
    by false e = refl
    by true e = absurd (clash b h e)
      where
        clash : (b : ℕ) → is_digit b ≡ true → is_letter b ≡ true → ⊥
        clash b h e = grind (arith, nat_tests)

digits_start : (w : List ℕ) → list_all is_digit w ≡ true → starts_with_letter w ≡ false
digits_start [] h = refl
digits_start (b ∷ w) h = digit_no_letter b (and_parts (is_digit b) (list_all is_digit w) h).0

pub number_starts : (n : ℤ) → starts_with_letter (signed_decimal n) ≡ false
number_starts (pos n) = digits_start (decimal n) (all_digits n)
number_starts (negsuc n) = refl

none_told : (w : List ℕ) → starts_with_letter w ≡ false → kind_told w ≡ None
none_told w e = ap (λ (b : Bool). (if b then kind_among first_words w else None)) e

told : (names : Names) (w : What) → kind_told (first_of (what_words names w)) ≡ but_clock (kind_of w)
told names (what.Run t) = refl
told names (what.Clock v) = none_told (signed_decimal v) (number_starts v)
told names (what.Call c args r) = call_told c
told names (what.Ret r) = refl
told names (what.Gift m) = refl
told names (what.Say v) = refl
told names (what.Set l v) = refl
told names (what.If l v) = refl
told names (what.While l v) = refl
told names (what.CallAt l v) = refl
told names (what.Return l v) = refl
told names (what.Raise o x) = refl
told names (what.Reraise o x) = refl
told names (what.Deliver o l) = refl
told names (what.Exit o v) = refl
told names (what.Try o l) = refl
told names (what.Endtry o) = refl
told names (what.Catch o n l) = refl
told names (what.Endcatch o) = refl
told names (what.Finally o n) = refl
told names (what.Endfin o) = refl
told names (what.Once o name) = refl
told names (what.Done o) = refl
told names (what.Undone o n) = refl
told names (what.Destroy o name v) = refl
told names (what.Enddes o) = refl
told names (what.Lost o n) = refl
told names (what.Bottom o v) = refl
told names what.Pause = refl
told names (what.End v) = refl

clock_or : (k : Kind) → unwrap_or (but_clock k) Clock ≡ k
clock_or Clock = refl
clock_or _ = refl

-- What two lines say that have the same first word is of the same kind.
pub same_kind : (names : Names) (m e : What) → what_words names m ≡ what_words names e → kind_of m ≡ kind_of e
same_kind names m e same =
    sym (clock_or (kind_of m))
    ∙ ap (λ (o : Option Kind). unwrap_or o Clock) (sym (told names m) ∙ ap (λ (ws : List (List ℕ)). kind_told (first_of ws)) same ∙ told names e)
    ∙ clock_or (kind_of e)
