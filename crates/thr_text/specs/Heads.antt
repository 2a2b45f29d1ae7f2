-- The first words of lines (docs/script.md, "Lines").
use Rattle.std.specs.Prelude.{ℕ, List, [], ◌∷◌, codes, if◌then◌else◌, Option, Some, None}
use Rattle.std.specs.Str.{bytes_eq}
use Rattle.thr_values.specs.Words.{call_word}
use Rattle.thr_values.specs.declared.call.CallWord.TheVariants as call
use Rattle.thr_text.specs.declared.head.Head.{Head}
use Rattle.thr_text.specs.declared.head.Head.TheVariants as head

unfoldable pub head_word : Head → List ℕ
head_word head.Interface = codes "interface"
head_word head.Limit = codes "limit"
head_word head.Shared = codes "shared"
head_word head.Exception = codes "exception"
head_word head.Status = codes "status"
head_word head.Mutex = codes "mutex"
head_word head.Mutexattr = codes "mutexattr"
head_word head.Cond = codes "cond"
head_word head.Attr = codes "attr"
head_word head.Key = codes "key"
head_word head.Once = codes "once"
head_word head.Pipe = codes "pipe"
head_word head.Routine = codes "routine"
head_word head.Local = codes "local"
head_word head.Set = codes "set"
head_word head.Say = codes "say"
head_word head.If = codes "if"
head_word head.Else = codes "else"
head_word head.While = codes "while"
head_word head.Try = codes "try"
head_word head.Catch = codes "catch"
head_word head.CatchAll = codes "catch_all"
head_word head.Finally = codes "finally"
head_word head.Endtry = codes "endtry"
head_word head.Raise = codes "raise"
head_word head.Reraise = codes "reraise"
head_word head.Call = codes "call"
head_word head.Return = codes "return"
head_word head.Exit = codes "pthread_exit"
head_word head.End = codes "end"
head_word (head.Dce c) = call_word c

unfoldable pub all_heads : List Head
all_heads =
    head.Interface ∷ head.Limit ∷ head.Shared ∷ head.Exception ∷ head.Status ∷
    head.Mutex ∷ head.Mutexattr ∷ head.Cond ∷ head.Attr ∷ head.Key ∷
    head.Once ∷ head.Pipe ∷ head.Routine ∷ head.Local ∷ head.Set ∷
    head.Say ∷ head.If ∷ head.Else ∷ head.While ∷ head.Try ∷
    head.Catch ∷ head.CatchAll ∷ head.Finally ∷ head.Endtry ∷ head.Raise ∷
    head.Reraise ∷ head.Call ∷ head.Return ∷ head.Exit ∷ head.End ∷
    head.Dce call.AttrCreate ∷ head.Dce call.AttrDelete ∷ head.Dce call.AttrSetsched ∷ head.Dce call.AttrSetprio ∷ head.Dce call.AttrSetinheritsched ∷
    head.Dce call.AttrSetstacksize ∷ head.Dce call.Create ∷ head.Dce call.Join ∷ head.Dce call.Detach ∷ head.Dce call.Yield ∷
    head.Dce call.Cancel ∷ head.Dce call.Testcancel ∷ head.Dce call.Setcancel ∷ head.Dce call.Setasynccancel ∷ head.Dce call.Setprio ∷
    head.Dce call.Getprio ∷ head.Dce call.Setscheduler ∷ head.Dce call.Getscheduler ∷ head.Dce call.DelayNp ∷ head.Dce call.GetExpirationNp ∷
    head.Dce call.MutexattrCreate ∷ head.Dce call.MutexattrSetkindNp ∷ head.Dce call.MutexattrDelete ∷ head.Dce call.MutexInit ∷ head.Dce call.MutexDestroy ∷
    head.Dce call.MutexLock ∷ head.Dce call.MutexTrylock ∷ head.Dce call.MutexUnlock ∷ head.Dce call.LockGlobalNp ∷ head.Dce call.UnlockGlobalNp ∷
    head.Dce call.CondInit ∷ head.Dce call.CondDestroy ∷ head.Dce call.CondWait ∷ head.Dce call.CondTimedwait ∷ head.Dce call.CondSignal ∷
    head.Dce call.CondBroadcast ∷ head.Dce call.Once ∷ head.Dce call.Keycreate ∷ head.Dce call.Setspecific ∷ head.Dce call.Getspecific ∷
    head.Dce call.Read ∷ head.Dce call.Write ∷ head.Dce call.Close ∷ []

-- The first of these heads that has this word.
unfoldable pub head_in : List Head → List ℕ → Option Head
head_in [] text = None
head_in (h ∷ hs) text = if bytes_eq text (head_word h) then Some h else head_in hs text

unfoldable pub head_of : List ℕ → Option Head
head_of text = head_in all_heads text
