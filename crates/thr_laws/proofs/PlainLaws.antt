-- Plain lines are read as lines of their thread alone.
use Rattle.std.proofs.Common.{◌≡◌, ℕ, Bool, true, false, not, ◌&&◌, ◌||◌, List, Option, Some, None, refl, ap, sym}
use Rattle.std.proofs.lemmas.Bool.{false≢true}
use Rattle.thr_values.specs.declared.call.Arg.{Arg}
use Rattle.thr_values.specs.declared.call.CallWord.{CallWord}
use Rattle.thr_values.specs.declared.call.CallWord.TheVariants as word
use Rattle.thr_values.specs.declared.history.What.{What}
use Rattle.thr_values.specs.declared.history.What.TheVariants as what
use Rattle.thr_values.specs.declared.reply.Kind.{Kind}
use Rattle.thr_values.specs.declared.reply.Reply.{Reply}
use Rattle.thr_values.specs.declared.reply.Reply.TheVariants as reply
use Rattle.thr_syntax.specs.declared.tree.Script.{Script}
use Rattle.thr_remainder.specs.Calls.{is_point}
use Rattle.thr_laws.specs.Lines.{is_blocks}
use Rattle.thr_laws.specs.Owners.{Lock, Nothing, use_done, use_valued, use_by_call, Cells, cells_done, cells_after, kind_done, kind_after}
use Rattle.thr_laws.specs.Known.{cancel_by, general_by, asynchronous_by}
use Rattle.thr_laws.specs.CancelLaw.{gives_up, is_of_answer, is_of_return}
use Rattle.thr_laws.specs.Plain.{is_on_mutex, is_on_cancels, is_plain_call, is_plain, IsReadAsPlain}
use Rattle.thr_laws.proofs.ReadingLaws.{both}

done : (call : CallWord) (args : List Arg) → is_plain_call call ≡ true → use_done call args ≡ Nothing
done word.MutexLock args h = absurd (false≢true h)
done word.MutexUnlock args h = absurd (false≢true h)
done word.LockGlobalNp args h = absurd (false≢true h)
done word.UnlockGlobalNp args h = absurd (false≢true h)
done _ args h = refl

valued : (b : Bool) (call : CallWord) (args : List Arg) → is_plain_call call ≡ true → use_valued b call args ≡ Nothing
valued b word.MutexTrylock args h = absurd (false≢true h)
valued b _ args h = refl

no_use : (r : Reply) (call : CallWord) (args : List Arg) → is_plain_call call ≡ true → not (is_blocks r) ≡ true → use_by_call r call args ≡ Nothing
no_use reply.Done call args h n = done call args h
no_use (reply.Value v) call args h n = valued _ call args h
no_use reply.Blocks call args h n = absurd (false≢true n)
no_use _ call args h n = refl

no_cell : (call : CallWord) (args : List Arg) (cells : Cells) → is_plain_call call ≡ true → cells_done call args cells ≡ cells
no_cell word.MutexattrCreate args cells h = absurd (false≢true h)
no_cell word.MutexattrSetkindNp args cells h = absurd (false≢true h)
no_cell _ args cells h = refl

no_kind : (lock : Lock) (call : CallWord) (args : List Arg) (cells : Cells) (kind : Kind) → is_plain_call call ≡ true → kind_done lock call args cells kind ≡ kind
no_kind None call args cells kind h = refl
no_kind (Some m) word.MutexInit args cells kind h = absurd (false≢true h)
no_kind (Some m) _ args cells kind h = refl

no_cell_after : (r : Reply) (call : CallWord) (args : List Arg) (cells : Cells) → is_plain_call call ≡ true → cells_after (what.Call call args r) cells ≡ cells
no_cell_after reply.Done call args cells h = no_cell call args cells h
no_cell_after _ call args cells h = refl

no_kind_after : (r : Reply) (lock : Lock) (call : CallWord) (args : List Arg) (cells : Cells) (kind : Kind) → is_plain_call call ≡ true
    → kind_after lock (what.Call call args r) cells kind ≡ kind
no_kind_after reply.Done lock call args cells kind h = no_kind lock call args cells kind h
no_kind_after _ lock call args cells kind h = refl

no_cancel : (t : ℕ) (call : CallWord) (args : List Arg) (r : Reply) → is_plain_call call ≡ true → cancel_by t call args r ≡ None
no_cancel t word.Cancel args r h = absurd (false≢true h)
no_cancel t _ args r h = refl

no_general : (call : CallWord) (args : List Arg) (on : Bool) → is_plain_call call ≡ true → general_by call args on ≡ on
no_general word.Setcancel args on h = absurd (false≢true h)
no_general _ args on h = refl

no_asynchronous : (call : CallWord) (args : List Arg) (on : Bool) → is_plain_call call ≡ true → asynchronous_by call args on ≡ on
no_asynchronous word.Setasynccancel args on h = absurd (false≢true h)
no_asynchronous _ args on h = refl

opposite : (b : Bool) → not b ≡ true → b ≡ false
opposite true e = absurd (false≢true e)
opposite false e = refl

no_point : (a b c : Bool) → not (a || b || c) ≡ true → a ≡ false
no_point true true c e = absurd (false≢true e)
no_point true false c e = absurd (false≢true e)
no_point false b c e = refl

-- A call line isn't of the step of any return.
no_answer : (s : Script) (r b : Reply) (answered : Option What) (call : CallWord) (args : List Arg) → is_of_answer s r answered (what.Call call args b) ≡ false
no_answer s r b (Some (what.Call other given x)) call args = refl
no_answer s r b _ call args = refl

no_return : (s : Script) (b : Reply) (last earlier : Option What) (call : CallWord) (args : List Arg) → is_of_return s last earlier (what.Call call args b) ≡ false
no_return s b (Some (what.Ret r)) earlier call args = no_answer s r b earlier call args
no_return s b _ earlier call args = refl

neither_holds : (a b : Bool) → a ≡ false → (a && b) ≡ false
neither_holds true b e = absurd (false≢true (sym e))
neither_holds false b e = refl

plain_call : (call : CallWord) (args : List Arg) (r : Reply) → is_plain_call call ≡ true → not (is_blocks r) ≡ true → IsReadAsPlain (what.Call call args r)
plain_call call args r h n = record {
  own = refl;
  scopes = λ scopes. refl;
  making = refl;
  carrying = refl;
  carrying_one = λ n. refl;
  leaving_finally = λ scope. refl;
  pausing = refl;
  going_on = λ n scopes. refl;
  using_lock = no_use r call args h n;
  cells = λ cells. no_cell_after r call args cells h;
  kind = λ lock cells kind. no_kind_after r lock call args cells kind h;
  cancel = λ t. no_cancel t call args r h;
  general = λ on. no_general call args on h;
  asynchronous = λ on. no_asynchronous call args on h;
  waiting = opposite (is_blocks r) n;
  point = no_point (is_point call) (is_on_mutex call) (is_on_cancels call) h;
  waiting_point = neither_holds (is_point call) (is_blocks r) (no_point (is_point call) (is_on_mutex call) (is_on_cancels call) h);
  waiting_with = λ lock. ap (gives_up lock) (no_use r call args h n);
  owed_or_outward = refl;
  of_return = λ s last earlier. no_return s r last earlier call args;
  before_step = λ s earlier next. refl;
  statement = λ s k. refl;
  returning = refl;
  delivering = refl;
  ending = refl;
}

pub plain_is_read_so : (w : What) → is_plain w ≡ true → IsReadAsPlain w
plain_is_read_so (what.Call call args r) h =
    let b = both (is_plain_call call) (not (is_blocks r)) h in plain_call call args r b.0 b.1
plain_is_read_so _ h = absurd (false≢true h)
