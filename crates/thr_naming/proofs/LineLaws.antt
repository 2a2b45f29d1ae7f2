-- What a line declares, and its parameter or local.
use Rattle.std.proofs.Common.{◌≡◌, Bool, true, false, List, [], ◌∷◌, ◌++◌, Option, Some, refl, ap, ◌∙◌, slice_get}
use Rattle.std.specs.Prelude.{◌&&◌, if◌then◌else◌}
use Rattle.std.specs.List.{list_all}
use Rattle.std.proofs.lemmas.List.{append-nil}
use Rattle.thr_values.specs.declared.call.CallWord.{CallWord}
use Rattle.thr_values.specs.declared.call.CallWord.TheVariants as call
use Rattle.thr_text.specs.declared.word.Word.{Word}
use Rattle.thr_text.specs.declared.word.Word.TheVariants.{Num, Name, Mark}
use Rattle.thr_text.specs.declared.head.Head.{Head}
use Rattle.thr_text.specs.declared.head.Head.TheVariants as head
use Rattle.thr_text.specs.declared.head.Slot.{Slot}
use Rattle.thr_text.specs.declared.head.Slot.TheVariants.{Number, Fixed, Declared, Parameter, Local, Object, ObjectOr, Variable, Receiver, Exception, Expression}
use Rattle.thr_text.specs.Slots.{slots_behind, call_slots, slots_of, head_of_line}
use Rattle.thr_text.specs.Tables.{placed, placed_after, declared_at, declared_in_all, declared_in}
use Rattle.thr_text.specs.NameFaults.{own_at, own_in_all, own_in, name_of_word}
use Rattle.thr_naming.specs.Placing.{first_kind, entry_by, own_place, name_by, name_at_place}

-- ---- slots that a word opens

module _ (q : Slot → Bool) (qe : q Expression ≡ true) (qx : q Exception ≡ true) where
  opened_by : (a b c d : Bool) (slots : List Slot) → list_all q slots ≡ true
      → list_all q ((if a then Expression ∷ Expression ∷ [] else (if b then Expression ∷ [] else (if c then Exception ∷ [] else (if d then Exception ∷ Exception ∷ [] else [])))) ++ slots) ≡ true
  opened_by true b c d slots h = rw (qe, h) refl
  opened_by false true c d slots h = rw (qe, h) refl
  opened_by false false true d slots h = rw (qx, h) refl
  opened_by false false false true slots h = rw (qx, h) refl
  opened_by false false false false slots h = h

  opened : (p : Slot) (w : Word) (slots : List Slot) → list_all q slots ≡ true → list_all q (slots_behind p w ++ slots) ≡ true
  opened Number w slots h = h
  opened (Fixed c) w slots h = h
  opened (Declared kind) w slots h = h
  opened Parameter w slots h = h
  opened Local w slots h = h
  opened (Object kind) w slots h = h
  opened (ObjectOr kind) w slots h = h
  opened Variable w slots h = h
  opened Receiver w slots h = h
  opened Exception w slots h = h
  opened Expression w slots h = opened_by _ _ _ _ slots h

both : (a b : Bool) → (a && b) ≡ true → (a ≡ true) × (b ≡ true)
both true b h = (refl, h)
both false b h = absurd cc

-- ---- the name that is declared for the whole script

abbrev declares_none : Slot → Bool
declares_none Number = true
declares_none (Fixed c) = true
declares_none (Declared kind) = false
declares_none Parameter = true
declares_none Local = true
declares_none (Object kind) = true
declares_none (ObjectOr kind) = true
declares_none Variable = true
declares_none Receiver = true
declares_none Exception = true
declares_none Expression = true

no_entry : (p : Slot) (w : Word) → declares_none p ≡ true → declared_at p w ≡ []
no_entry Number w h = refl
no_entry (Fixed c) w h = refl
no_entry (Declared kind) w h = absurd cc
no_entry Parameter w h = refl
no_entry Local w h = refl
no_entry (Object kind) w h = refl
no_entry (ObjectOr kind) w h = refl
no_entry Variable w h = refl
no_entry Receiver w h = refl
no_entry Exception w h = refl
no_entry Expression w h = refl

none_declared : (slots : List Slot) (ws : List Word) → list_all declares_none slots ≡ true → declared_in_all (placed slots ws) ≡ []
unfolding placed
none_declared slots [] h = refl
none_declared [] (w ∷ ws) h = refl
none_declared (p ∷ slots) (w ∷ ws) h =
    let s = both (declares_none p) (list_all declares_none slots) h in
    rw (no_entry p w s.0) (none_declared (slots_behind p w ++ slots) ws (opened declares_none refl refl p w slots s.1))

entry_at : (p : Slot) (w : Word) → declared_at p w ≡ entry_by (first_kind (p ∷ [])) (name_at_place (Some w))
entry_at Number w = refl
entry_at (Fixed c) w = refl
entry_at (Declared kind) (Num n) = refl
entry_at (Declared kind) (Name text) = refl
entry_at (Declared kind) (Mark text) = refl
entry_at Parameter w = refl
entry_at Local w = refl
entry_at (Object kind) w = refl
entry_at (ObjectOr kind) w = refl
entry_at Variable w = refl
entry_at Receiver w = refl
entry_at Exception w = refl
entry_at Expression w = refl

no_entry_by : (p : Slot) → [] ≡ entry_by (first_kind (p ∷ [])) []
no_entry_by Number = refl
no_entry_by (Fixed c) = refl
no_entry_by (Declared kind) = refl
no_entry_by Parameter = refl
no_entry_by Local = refl
no_entry_by (Object kind) = refl
no_entry_by (ObjectOr kind) = refl
no_entry_by Variable = refl
no_entry_by Receiver = refl
no_entry_by Exception = refl
no_entry_by Expression = refl

first_alone : (p : Slot) (slots : List Slot) → first_kind (p ∷ slots) ≡ first_kind (p ∷ [])
first_alone Number slots = refl
first_alone (Fixed c) slots = refl
first_alone (Declared kind) slots = refl
first_alone Parameter slots = refl
first_alone Local slots = refl
first_alone (Object kind) slots = refl
first_alone (ObjectOr kind) slots = refl
first_alone Variable slots = refl
first_alone Receiver slots = refl
first_alone Exception slots = refl
first_alone Expression slots = refl

one_declared : (p : Slot) (slots : List Slot) (ws : List Word) → list_all declares_none slots ≡ true → declared_in_all (placed (p ∷ slots) ws) ≡ entry_by (first_kind (p ∷ slots)) (name_at_place (slice_get ws 0))
unfolding placed
one_declared p slots [] h = rw (first_alone p slots) (no_entry_by p)
one_declared p slots (w ∷ ws) h =
    rw (first_alone p slots, none_declared (slots_behind p w ++ slots) ws (opened declares_none refl refl p w slots h))
    (append-nil (declared_at p w) ∙ entry_at p w)

no_slots_declare : (ws : List Word) → declared_in_all (placed [] ws) ≡ []
no_slots_declare ws = none_declared [] ws refl

abbrev tail_of : List Slot → List Slot
tail_of [] = []
tail_of (p ∷ slots) = slots

call_tail : (c : CallWord) → list_all declares_none (tail_of (call_slots c)) ≡ true
unfolding call_slots
call_tail call.AttrCreate = refl
call_tail call.AttrDelete = refl
call_tail call.AttrSetsched = refl
call_tail call.AttrSetprio = refl
call_tail call.AttrSetinheritsched = refl
call_tail call.AttrSetstacksize = refl
call_tail call.Create = refl
call_tail call.Join = refl
call_tail call.Detach = refl
call_tail call.Yield = refl
call_tail call.Cancel = refl
call_tail call.Testcancel = refl
call_tail call.Setcancel = refl
call_tail call.Setasynccancel = refl
call_tail call.Setprio = refl
call_tail call.Getprio = refl
call_tail call.Setscheduler = refl
call_tail call.Getscheduler = refl
call_tail call.DelayNp = refl
call_tail call.GetExpirationNp = refl
call_tail call.MutexattrCreate = refl
call_tail call.MutexattrSetkindNp = refl
call_tail call.MutexattrDelete = refl
call_tail call.MutexInit = refl
call_tail call.MutexDestroy = refl
call_tail call.MutexLock = refl
call_tail call.MutexTrylock = refl
call_tail call.MutexUnlock = refl
call_tail call.LockGlobalNp = refl
call_tail call.UnlockGlobalNp = refl
call_tail call.CondInit = refl
call_tail call.CondDestroy = refl
call_tail call.CondWait = refl
call_tail call.CondTimedwait = refl
call_tail call.CondSignal = refl
call_tail call.CondBroadcast = refl
call_tail call.Once = refl
call_tail call.Keycreate = refl
call_tail call.Setspecific = refl
call_tail call.Getspecific = refl
call_tail call.Read = refl
call_tail call.Write = refl
call_tail call.Close = refl

head_tail : (h : Head) → list_all declares_none (tail_of (slots_of h)) ≡ true
unfolding slots_of
head_tail head.Interface = refl
head_tail head.Limit = refl
head_tail head.Shared = refl
head_tail head.Exception = refl
head_tail head.Status = refl
head_tail head.Mutex = refl
head_tail head.Mutexattr = refl
head_tail head.Cond = refl
head_tail head.Attr = refl
head_tail head.Key = refl
head_tail head.Once = refl
head_tail head.Pipe = refl
head_tail head.Routine = refl
head_tail head.Local = refl
head_tail head.Set = refl
head_tail head.Say = refl
head_tail head.If = refl
head_tail head.Else = refl
head_tail head.While = refl
head_tail head.Try = refl
head_tail head.Catch = refl
head_tail head.CatchAll = refl
head_tail head.Finally = refl
head_tail head.Endtry = refl
head_tail head.Raise = refl
head_tail head.Reraise = refl
head_tail head.Call = refl
head_tail head.Return = refl
head_tail head.Exit = refl
head_tail head.End = refl
head_tail (head.Dce c) = call_tail c

by_slots : (slots : List Slot) (ws : List Word) → list_all declares_none (tail_of slots) ≡ true → declared_in_all (placed slots ws) ≡ entry_by (first_kind slots) (name_at_place (slice_get ws 0))
by_slots [] ws h = none_declared [] ws refl
by_slots (p ∷ slots) ws h = one_declared p slots ws h

pub declared_law : (words : List Word) (h : Head) → head_of_line words ≡ Some h → declared_in words ≡ entry_by (first_kind (slots_of h)) (name_at_place (slice_get words 1))
declared_law [] h is = absurd cc
declared_law (w ∷ ws) h is = ap (λ (o : Option Head). declared_in_all (placed_after o ws)) is ∙ by_slots (slots_of h) ws (head_tail h)

-- ---- the parameter or local

abbrev owns_none : Slot → Bool
owns_none Number = true
owns_none (Fixed c) = true
owns_none (Declared kind) = true
owns_none Parameter = false
owns_none Local = false
owns_none (Object kind) = true
owns_none (ObjectOr kind) = true
owns_none Variable = true
owns_none Receiver = true
owns_none Exception = true
owns_none Expression = true

no_own : (p : Slot) (w : Word) → owns_none p ≡ true → own_at p w ≡ []
no_own Number w h = refl
no_own (Fixed c) w h = refl
no_own (Declared kind) w h = refl
no_own Parameter w h = absurd cc
no_own Local w h = absurd cc
no_own (Object kind) w h = refl
no_own (ObjectOr kind) w h = refl
no_own Variable w h = refl
no_own Receiver w h = refl
no_own Exception w h = refl
no_own Expression w h = refl

none_own : (slots : List Slot) (ws : List Word) → list_all owns_none slots ≡ true → own_in_all (placed slots ws) ≡ []
unfolding placed
none_own slots [] h = refl
none_own [] (w ∷ ws) h = refl
none_own (p ∷ slots) (w ∷ ws) h =
    let s = both (owns_none p) (list_all owns_none slots) h in
    rw (no_own p w s.0) (none_own (slots_behind p w ++ slots) ws (opened owns_none refl refl p w slots s.1))

call_owns : (c : CallWord) → list_all owns_none (call_slots c) ≡ true
unfolding call_slots
call_owns call.AttrCreate = refl
call_owns call.AttrDelete = refl
call_owns call.AttrSetsched = refl
call_owns call.AttrSetprio = refl
call_owns call.AttrSetinheritsched = refl
call_owns call.AttrSetstacksize = refl
call_owns call.Create = refl
call_owns call.Join = refl
call_owns call.Detach = refl
call_owns call.Yield = refl
call_owns call.Cancel = refl
call_owns call.Testcancel = refl
call_owns call.Setcancel = refl
call_owns call.Setasynccancel = refl
call_owns call.Setprio = refl
call_owns call.Getprio = refl
call_owns call.Setscheduler = refl
call_owns call.Getscheduler = refl
call_owns call.DelayNp = refl
call_owns call.GetExpirationNp = refl
call_owns call.MutexattrCreate = refl
call_owns call.MutexattrSetkindNp = refl
call_owns call.MutexattrDelete = refl
call_owns call.MutexInit = refl
call_owns call.MutexDestroy = refl
call_owns call.MutexLock = refl
call_owns call.MutexTrylock = refl
call_owns call.MutexUnlock = refl
call_owns call.LockGlobalNp = refl
call_owns call.UnlockGlobalNp = refl
call_owns call.CondInit = refl
call_owns call.CondDestroy = refl
call_owns call.CondWait = refl
call_owns call.CondTimedwait = refl
call_owns call.CondSignal = refl
call_owns call.CondBroadcast = refl
call_owns call.Once = refl
call_owns call.Keycreate = refl
call_owns call.Setspecific = refl
call_owns call.Getspecific = refl
call_owns call.Read = refl
call_owns call.Write = refl
call_owns call.Close = refl

of_routine : (kind : _) (ws : List Word) → own_in_all (placed (Declared kind ∷ Parameter ∷ []) ws) ≡ name_at_place (slice_get ws 1)
unfolding placed
of_routine kind [] = refl
of_routine kind (w ∷ []) = refl
of_routine kind (w ∷ v ∷ []) = append-nil (name_of_word v)
of_routine kind (w ∷ v ∷ u ∷ ws) = append-nil (name_of_word v)

of_local : (ws : List Word) → own_in_all (placed (Local ∷ []) ws) ≡ name_at_place (slice_get ws 0)
unfolding placed
of_local [] = refl
of_local (w ∷ []) = append-nil (name_of_word w)
of_local (w ∷ v ∷ ws) = append-nil (name_of_word w)

own_by_head : (h : Head) (w : Word) (ws : List Word) → own_in_all (placed (slots_of h) ws) ≡ name_by (own_place h) (w ∷ ws)
unfolding slots_of
own_by_head head.Interface w ws = none_own (slots_of head.Interface) ws refl
own_by_head head.Limit w ws = none_own (slots_of head.Limit) ws refl
own_by_head head.Shared w ws = none_own (slots_of head.Shared) ws refl
own_by_head head.Exception w ws = none_own (slots_of head.Exception) ws refl
own_by_head head.Status w ws = none_own (slots_of head.Status) ws refl
own_by_head head.Mutex w ws = none_own (slots_of head.Mutex) ws refl
own_by_head head.Mutexattr w ws = none_own (slots_of head.Mutexattr) ws refl
own_by_head head.Cond w ws = none_own (slots_of head.Cond) ws refl
own_by_head head.Attr w ws = none_own (slots_of head.Attr) ws refl
own_by_head head.Key w ws = none_own (slots_of head.Key) ws refl
own_by_head head.Once w ws = none_own (slots_of head.Once) ws refl
own_by_head head.Pipe w ws = none_own (slots_of head.Pipe) ws refl
own_by_head head.Routine w ws = of_routine _ ws
own_by_head head.Local w ws = of_local ws
own_by_head head.Set w ws = none_own (slots_of head.Set) ws refl
own_by_head head.Say w ws = none_own (slots_of head.Say) ws refl
own_by_head head.If w ws = none_own (slots_of head.If) ws refl
own_by_head head.Else w ws = none_own (slots_of head.Else) ws refl
own_by_head head.While w ws = none_own (slots_of head.While) ws refl
own_by_head head.Try w ws = none_own (slots_of head.Try) ws refl
own_by_head head.Catch w ws = none_own (slots_of head.Catch) ws refl
own_by_head head.CatchAll w ws = none_own (slots_of head.CatchAll) ws refl
own_by_head head.Finally w ws = none_own (slots_of head.Finally) ws refl
own_by_head head.Endtry w ws = none_own (slots_of head.Endtry) ws refl
own_by_head head.Raise w ws = none_own (slots_of head.Raise) ws refl
own_by_head head.Reraise w ws = none_own (slots_of head.Reraise) ws refl
own_by_head head.Call w ws = none_own (slots_of head.Call) ws refl
own_by_head head.Return w ws = none_own (slots_of head.Return) ws refl
own_by_head head.Exit w ws = none_own (slots_of head.Exit) ws refl
own_by_head head.End w ws = none_own (slots_of head.End) ws refl
own_by_head (head.Dce c) w ws = none_own (call_slots c) ws (call_owns c)

pub own_law : (words : List Word) (h : Head) → head_of_line words ≡ Some h → own_in words ≡ name_by (own_place h) words
own_law [] h is = absurd cc
own_law (w ∷ ws) h is = ap (λ (o : Option Head). own_in_all (placed_after o ws)) is ∙ own_by_head h w ws
