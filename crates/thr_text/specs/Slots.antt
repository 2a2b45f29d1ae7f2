-- The slots of a line, read from the left (docs/script.md, "Lines" and "Faults").
use Rattle.std.specs.Ordering.{int_eq}
use Rattle.std.specs.Prelude.{ℕ, pos, Bool, true, false, ◌&&◌, ◌||◌, List, [], ◌∷◌, ◌++◌, codes, if◌then◌else◌, Option, Some, None}
use Rattle.std.specs.List.{list_any}
use Rattle.std.specs.Str.{bytes_eq}
use Rattle.thr_values.specs.Words.{policy_words, inherit_words, cancel_words, kind_words}
use Rattle.thr_values.specs.declared.call.CallWord.{CallWord}
use Rattle.thr_values.specs.declared.call.CallWord.TheVariants as call
use Rattle.thr_text.specs.declared.word.Word.{Word}
use Rattle.thr_text.specs.declared.word.Word.TheVariants.{Num, Name, Mark}
use Rattle.thr_text.specs.declared.object.Object as kinds
use Rattle.thr_text.specs.declared.object.Object.TheVariants as object
use Rattle.thr_text.specs.declared.head.Head.{Head}
use Rattle.thr_text.specs.declared.head.Head.TheVariants as head
use Rattle.thr_text.specs.declared.head.Choice.{Choice}
use Rattle.thr_text.specs.declared.head.Choice.TheVariants as choice
use Rattle.thr_text.specs.declared.head.Slot.{Slot}
use Rattle.thr_text.specs.declared.head.Slot.TheVariants.{Number, Fixed, Declared, Parameter, Local, Object, ObjectOr, Variable, Receiver, Exception, Expression}
use Rattle.thr_text.specs.Names.{is_name}
use Rattle.thr_text.specs.Heads.{head_of}

-- The slots after the word of a call.
unfoldable pub call_slots : CallWord → List Slot
call_slots call.AttrCreate = Object object.Attr ∷ []
call_slots call.AttrDelete = Object object.Attr ∷ []
call_slots call.AttrSetsched = Object object.Attr ∷ Fixed choice.Policy ∷ []
call_slots call.AttrSetprio = Object object.Attr ∷ Expression ∷ []
call_slots call.AttrSetinheritsched = Object object.Attr ∷ Fixed choice.Inherit ∷ []
call_slots call.AttrSetstacksize = Object object.Attr ∷ Expression ∷ []
call_slots call.Create = Variable ∷ ObjectOr object.Attr ∷ Object object.Routine ∷ Expression ∷ []
call_slots call.Join = Expression ∷ Variable ∷ []
call_slots call.Detach = Expression ∷ []
call_slots call.Yield = []
call_slots call.Cancel = Expression ∷ []
call_slots call.Testcancel = []
call_slots call.Setcancel = Fixed choice.Cancel ∷ Variable ∷ []
call_slots call.Setasynccancel = Fixed choice.Cancel ∷ Variable ∷ []
call_slots call.Setprio = Expression ∷ Expression ∷ Variable ∷ []
call_slots call.Getprio = Expression ∷ Variable ∷ []
call_slots call.Setscheduler = Expression ∷ Fixed choice.Policy ∷ Expression ∷ Variable ∷ []
call_slots call.Getscheduler = Expression ∷ Variable ∷ []
call_slots call.DelayNp = Expression ∷ []
call_slots call.GetExpirationNp = Expression ∷ Variable ∷ []
call_slots call.MutexattrCreate = Object object.Mutexattr ∷ []
call_slots call.MutexattrSetkindNp = Object object.Mutexattr ∷ Fixed choice.MutexKind ∷ []
call_slots call.MutexattrDelete = Object object.Mutexattr ∷ []
call_slots call.MutexInit = Object object.Mutex ∷ ObjectOr object.Mutexattr ∷ []
call_slots call.MutexDestroy = Object object.Mutex ∷ []
call_slots call.MutexLock = Object object.Mutex ∷ []
call_slots call.MutexTrylock = Object object.Mutex ∷ Variable ∷ []
call_slots call.MutexUnlock = Object object.Mutex ∷ []
call_slots call.LockGlobalNp = []
call_slots call.UnlockGlobalNp = []
call_slots call.CondInit = Object object.Cond ∷ []
call_slots call.CondDestroy = Object object.Cond ∷ []
call_slots call.CondWait = Object object.Cond ∷ Object object.Mutex ∷ []
call_slots call.CondTimedwait = Object object.Cond ∷ Object object.Mutex ∷ Expression ∷ []
call_slots call.CondSignal = Object object.Cond ∷ []
call_slots call.CondBroadcast = Object object.Cond ∷ []
call_slots call.Once = Object object.Once ∷ Object object.Routine ∷ []
call_slots call.Keycreate = Object object.Key ∷ ObjectOr object.Routine ∷ []
call_slots call.Setspecific = Object object.Key ∷ Expression ∷ []
call_slots call.Getspecific = Object object.Key ∷ Variable ∷ []
call_slots call.Read = Object object.Pipe ∷ Variable ∷ Variable ∷ []
call_slots call.Write = Object object.Pipe ∷ Expression ∷ []
call_slots call.Close = Object object.Pipe ∷ []

-- The slots after the first word of a line.
unfoldable pub slots_of : Head → List Slot
slots_of head.Interface = Fixed choice.Interface ∷ []
slots_of head.Limit = Number ∷ []
slots_of head.Shared = Declared object.Shared ∷ Number ∷ []
slots_of head.Exception = Declared object.Exception ∷ []
slots_of head.Status = Declared object.Exception ∷ Number ∷ []
slots_of head.Mutex = Declared object.Mutex ∷ []
slots_of head.Mutexattr = Declared object.Mutexattr ∷ []
slots_of head.Cond = Declared object.Cond ∷ []
slots_of head.Attr = Declared object.Attr ∷ []
slots_of head.Key = Declared object.Key ∷ []
slots_of head.Once = Declared object.Once ∷ []
slots_of head.Pipe = Declared object.Pipe ∷ Number ∷ []
slots_of head.Routine = Declared object.Routine ∷ Parameter ∷ []
slots_of head.Local = Local ∷ []
slots_of head.Set = Variable ∷ Expression ∷ []
slots_of head.Say = Expression ∷ []
slots_of head.If = Expression ∷ []
slots_of head.Else = []
slots_of head.While = Expression ∷ []
slots_of head.Try = []
slots_of head.Catch = Object object.Exception ∷ []
slots_of head.CatchAll = []
slots_of head.Finally = []
slots_of head.Endtry = []
slots_of head.Raise = Object object.Exception ∷ []
slots_of head.Reraise = []
slots_of head.Call = Object object.Routine ∷ Expression ∷ Receiver ∷ []
slots_of head.Return = Expression ∷ []
slots_of head.Exit = Expression ∷ []
slots_of head.End = []
slots_of (head.Dce c) = call_slots c

-- ---- what can stand at a place

abbrev pub choice_words : Choice → List (List ℕ)
choice_words choice.Interface = codes "exc" ∷ codes "status" ∷ []
choice_words choice.Policy = policy_words
choice_words choice.Inherit = inherit_words
choice_words choice.Cancel = cancel_words
choice_words choice.MutexKind = kind_words

-- The word that says that there is no object of this kind.
abbrev pub absent_word : kinds.Object → List ℕ
absent_word object.Routine = codes "none"
absent_word _ = codes "default"

-- The text of a word that is no number.
abbrev pub text_of : Word → Option (List ℕ)
text_of (Num n) = None
text_of (Name text) = Some text
text_of (Mark text) = Some text

-- The word is one of these.
abbrev pub is_one_of : List (List ℕ) → Word → Bool
is_one_of texts (Num n) = false
is_one_of texts (Name text) = list_any (λ t. bytes_eq text t) texts
is_one_of texts (Mark text) = list_any (λ t. bytes_eq text t) texts

abbrev pub is_a_name : Word → Bool
is_a_name (Num n) = false
is_a_name (Name text) = is_name text
is_a_name (Mark text) = false

abbrev pub is_a_number : Word → Bool
is_a_number (Num n) = true
is_a_number (Name text) = false
is_a_number (Mark text) = false

-- The operators of two operands.
abbrev pub binary_words : List (List ℕ)
binary_words =
    codes "+" ∷ codes "-" ∷ codes "*" ∷ codes "/" ∷ codes "%" ∷ codes "==" ∷ codes "!=" ∷ codes "<" ∷ codes "<=" ∷ codes ">" ∷ codes ">=" ∷ codes "and" ∷ codes "or" ∷ []

-- The words of an expression that are no operands of their own.
abbrev pub expression_words : List (List ℕ)
expression_words = codes "self" ∷ codes "err" ∷ codes "not" ∷ codes "exc_get_status" ∷ codes "exc_matches" ∷ binary_words

abbrev pub can_stand : Slot → Word → Bool
can_stand Number w = is_a_number w
can_stand (Fixed c) w = is_one_of (choice_words c) w
can_stand (Declared k) w = is_a_name w
can_stand Parameter w = is_a_name w
can_stand Local w = is_a_name w
can_stand (Object k) w = is_a_name w
can_stand (ObjectOr k) w = is_a_name w || is_one_of (absent_word k ∷ []) w
can_stand Variable w = is_a_name w
can_stand Receiver w = is_a_name w
can_stand Exception w = is_a_name w || is_one_of (codes "this" ∷ []) w
can_stand Expression w = is_a_number w || (is_a_name w || is_one_of expression_words w)

-- The operands that a word of an expression wants.
abbrev pub operands_of : Word → List Slot
operands_of w =
    if is_one_of binary_words w then Expression ∷ Expression ∷ []
    else (if is_one_of (codes "not" ∷ []) w then Expression ∷ []
    else (if is_one_of (codes "exc_get_status" ∷ []) w then Exception ∷ []
    else (if is_one_of (codes "exc_matches" ∷ []) w then Exception ∷ Exception ∷ [] else [])))

-- The slots that a word opens at its place, before those that were there.
abbrev pub slots_behind : Slot → Word → List Slot
slots_behind Expression w = operands_of w
slots_behind _ w = []

-- ---- a line

-- A line may end where these slots are left: none, or only one that may stay empty.
abbrev pub may_end : List Slot → Bool
may_end [] = true
may_end (Receiver ∷ []) = true
may_end _ = false

-- The fault of the words at these slots: F6 where one can't stand at its place, F7 where one is wanted or too many.
unfoldable pub misplaced : List Slot → List Word → Option ℕ
misplaced slots [] = if may_end slots then None else Some 7
misplaced [] (w ∷ ws) = Some 7
misplaced (p ∷ slots) (w ∷ ws) = if can_stand p w then misplaced (slots_behind p w ++ slots) ws else Some 6

abbrev pub head_at : Option (List ℕ) → Option Head
head_at None = None
head_at (Some text) = head_of text

-- What a line is, by its first word.
abbrev pub head_of_line : List Word → Option Head
head_of_line [] = None
head_of_line (w ∷ ws) = head_at (text_of w)

abbrev pub fault_after : Option Head → List Word → Option ℕ
fault_after None ws = Some 6
fault_after (Some h) ws = misplaced (slots_of h) ws

-- The fault F6 or F7 of a line that has words and isn't the first.
abbrev pub form_fault : List Word → Option ℕ
form_fault [] = None
form_fault (w ∷ ws) = fault_after (head_at (text_of w)) ws

-- The first line.
abbrev pub is_header : List Word → Bool
is_header (Name text ∷ Num n ∷ []) = bytes_eq text (codes "dcethr") && int_eq n (pos 1)
is_header _ = false
