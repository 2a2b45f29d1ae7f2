-- Call lines that the laws read as lines of their thread alone (docs/laws.md, "Plain lines").
use Rattle.std.specs.Prelude.{◌≡◌, ℕ, Bool, true, false, not, ◌&&◌, ◌||◌, List, Option, Some, None}
use Rattle.thr_values.specs.declared.call.CallWord.{CallWord}
use Rattle.thr_values.specs.declared.call.CallWord.TheVariants as word
use Rattle.thr_values.specs.declared.history.What.{What}
use Rattle.thr_values.specs.declared.history.What.TheVariants as what
use Rattle.thr_remainder.specs.Calls.{is_point}
use Rattle.thr_values.specs.declared.reply.Kind.{Kind}
use Rattle.thr_syntax.specs.declared.tree.Script.{Script}
use Rattle.thr_laws.specs.Lines.{line_but_gift, is_blocks, is_waiting_call, is_return, is_delivery, is_end}
use Rattle.thr_laws.specs.Scopes.{Open, opened_after}
use Rattle.thr_laws.specs.Routes.{carried, carried_by}
use Rattle.thr_laws.specs.Routed.{made_by, ends_finally, is_pause, goes_on_from}
use Rattle.thr_laws.specs.Owners.{Lock, Nothing, use_of, Cells, cells_after, kind_after}
use Rattle.thr_laws.specs.Known.{Known, cancel_of, general_after, asynchronous_after}
use Rattle.thr_laws.specs.CancelLaw.{is_point_line, is_waiting_point, is_owed_or_outward, is_of_return, is_wait_with}
use Rattle.thr_laws.specs.CallsOnce.{names_its_statement}

-- A call on a mutex, on a mutex attribute cell or on the global lock.
abbrev pub is_on_mutex : CallWord → Bool
is_on_mutex word.MutexattrCreate = true
is_on_mutex word.MutexattrSetkindNp = true
is_on_mutex word.MutexattrDelete = true
is_on_mutex word.MutexInit = true
is_on_mutex word.MutexDestroy = true
is_on_mutex word.MutexLock = true
is_on_mutex word.MutexTrylock = true
is_on_mutex word.MutexUnlock = true
is_on_mutex word.LockGlobalNp = true
is_on_mutex word.UnlockGlobalNp = true
is_on_mutex _ = false

-- A call that cancels, or that sets a cancelability.
abbrev pub is_on_cancels : CallWord → Bool
is_on_cancels word.Cancel = true
is_on_cancels word.Setcancel = true
is_on_cancels word.Setasynccancel = true
is_on_cancels _ = false

-- The call is neither a point nor on a mutex nor on cancels.
abbrev pub is_plain_call : CallWord → Bool
is_plain_call call = not (is_point call || is_on_mutex call || is_on_cancels call)

-- The line is a plain call line: a plain call that doesn't block (docs/laws.md, "Plain lines").
abbrev pub is_plain : What → Bool
is_plain (what.Call call args r) = is_plain_call call && not (is_blocks r)
is_plain _ = false

-- Each reading of a line that the laws have finds in this one only that its thread does something by it (docs/laws.md, "Plain lines").
pub record IsReadAsPlain (w : What) : Type 0 where
  pub own : line_but_gift true w ≡ Some w
  pub scopes : (scopes : List Open) → opened_after scopes w ≡ scopes
  pub making : made_by w ≡ None
  pub carrying : carried w ≡ None
  pub carrying_one : (n : ℕ) → carried_by n w ≡ None
  pub leaving_finally : (scope : ℕ) → ends_finally scope w ≡ false
  pub pausing : is_pause w ≡ false
  pub going_on : (n : ℕ) (scopes : List Open) → goes_on_from n scopes w ≡ None
  pub using_lock : use_of w ≡ Nothing
  pub cells : (cells : Cells) → cells_after w cells ≡ cells
  pub kind : (lock : Lock) (cells : Cells) (kind : Kind) → kind_after lock w cells kind ≡ kind
  pub cancel : (t : ℕ) → cancel_of t w ≡ None
  pub general : (on : Bool) → general_after (Some w) on ≡ on
  pub asynchronous : (on : Bool) → asynchronous_after (Some w) on ≡ on
  pub waiting : is_waiting_call w ≡ false
  pub point : is_point_line w ≡ false
  pub waiting_point : is_waiting_point w ≡ false
  pub waiting_with : (lock : Lock) → is_wait_with lock w ≡ false
  pub owed_or_outward : is_owed_or_outward w ≡ false
  pub of_return : (s : Script) (last earlier : Option What) → is_of_return s last earlier w ≡ false
  pub before_step : (s : Script) (earlier : Option What) (next : What) → is_of_return s (Some w) earlier next ≡ false
  pub statement : (s : Script) (k : Known) → names_its_statement s k (Some w) ≡ true
  pub returning : is_return w ≡ false
  pub delivering : is_delivery w ≡ false
  pub ending : is_end w ≡ false
