-- What a report counts, and its text (docs/journal.md, "The report").
use Rattle.std.specs.Prelude.{ℕ, ◌+◌, ◌==◌, Bool, true, false, ◌&&◌, ℤ, pos, negsuc, List, [], ◌∷◌, ◌++◌, length, map, codes, Some}
use Rattle.std.specs.List.{filter}
use Rattle.std.specs.Fmt.{decimal}
use Rattle.thr_values.specs.declared.number.NameId.{NameId}
use Rattle.thr_values.specs.declared.reply.Reply.{Reply}
use Rattle.thr_values.specs.declared.reply.Reply.TheVariants as reply
use Rattle.thr_values.specs.declared.call.CallWord.{CallWord}
use Rattle.thr_values.specs.declared.call.CallWord.TheVariants as call
use Rattle.thr_values.specs.declared.call.Arg.{Arg}
use Rattle.thr_values.specs.declared.call.Arg.TheVariants as arg
use Rattle.thr_values.specs.declared.history.What.{What}
use Rattle.thr_values.specs.declared.history.What.TheVariants as what
use Rattle.thr_values.specs.declared.history.Entry.{Entry}
use Rattle.thr_values.specs.declared.event.Stop.{Stop}
use Rattle.thr_syntax.specs.declared.tree.Item.{Item}
use Rattle.thr_syntax.specs.declared.tree.Item.TheVariants as item
use Rattle.thr_syntax.specs.declared.tree.Script.{Script}
use Rattle.thr_syntax.specs.Canon.{line}
use Rattle.thr_text.specs.Journals.{Names, name_word, stop_words}

-- ---- replies

-- The reply is `ok`.
abbrev pub is_ok_reply : Reply → Bool
is_ok_reply reply.Done = true
is_ok_reply _ = false

-- The reply is a number.
abbrev pub is_number : Reply → Bool
is_number (reply.Value n) = true
is_number _ = false

-- The number is 1.
abbrev pub is_one : ℤ → Bool
is_one (pos n) = n == 1
is_one (negsuc n) = false

-- The reply is the number 1.
abbrev pub is_one_reply : Reply → Bool
is_one_reply (reply.Value n) = is_one n
is_one_reply _ = false

-- The reply is `blocks`.
abbrev pub is_blocks_reply : Reply → Bool
is_blocks_reply reply.Blocks = true
is_blocks_reply _ = false

-- ---- lines that are counted

-- The call creates a thread where it replies a number.
abbrev pub is_create : CallWord → Bool
is_create call.Create = true
is_create _ = false

-- A thread is created: a create line with a number.
abbrev pub is_creation : What → Bool
is_creation (what.Call c args r) = is_create c && is_number r
is_creation _ = false

-- A thread ends.
abbrev pub is_end : What → Bool
is_end (what.End v) = true
is_end _ = false

-- A call of the thread service. The line of a return is none, nor is that of the statement `call`.
abbrev pub is_call : What → Bool
is_call (what.Call c args r) = true
is_call _ = false

-- A call that blocks.
abbrev pub is_blocking_call : What → Bool
is_blocking_call (what.Call c args r) = is_blocks_reply r
is_blocking_call _ = false

-- An exception begins to unwind by `raise` or `reraise` or by an error.
abbrev pub is_raise : What → Bool
is_raise (what.Raise n x) = true
is_raise (what.Reraise n x) = true
is_raise _ = false

-- A cancel is delivered.
abbrev pub is_delivery : What → Bool
is_delivery (what.Deliver n l) = true
is_delivery _ = false

-- A clause catches.
abbrev pub is_catch : What → Bool
is_catch (what.Catch s n l) = true
is_catch _ = false

-- The first argument of a call is this name.
abbrev pub is_first : NameId → List Arg → Bool
is_first m (arg.Name n ∷ args) = m.0 == n.0
is_first m _ = false

-- A call with this reply gets the mutex that it names: a lock with `ok`, or a trylock with 1.
abbrev pub gets : CallWord → Reply → Bool
gets call.MutexLock r = is_ok_reply r
gets call.MutexTrylock r = is_one_reply r
gets _ r = false

-- A thread gets this mutex: by a lock, by a trylock or as a gift.
abbrev pub acquires : NameId → What → Bool
acquires m (what.Call c args r) = gets c r && is_first m args
acquires m (what.Gift (Some n)) = m.0 == n.0
acquires m _ = false

-- How many lines pass a test.
abbrev pub how_many : (What → Bool) → List Entry → ℕ
how_many test entries = length (filter (λ e. test e.what) entries)

-- ---- counts

-- The mutexes that are declared, in their order.
abbrev pub mutexes_in : List Item → List NameId
mutexes_in [] = []
mutexes_in (item.Mutex m ∷ items) = m ∷ mutexes_in items
mutexes_in (_ ∷ items) = mutexes_in items

-- What a report counts; for each mutex how often a thread got it (docs/journal.md, "The report").
pub record Counts : Type 0 where
  pub lines : ℕ
  pub threads : ℕ
  pub ended : ℕ
  pub calls : ℕ
  pub blocked : ℕ
  pub raised : ℕ
  pub delivered : ℕ
  pub caught : ℕ
  pub acquired : List (NameId × ℕ)

-- A mutex, and how often a thread got it in a history.
abbrev pub times_acquired : List Entry → NameId → NameId × ℕ
times_acquired entries m = (m, how_many (acquires m) entries)

-- The counts of a history: the first thread counts among the threads (docs/journal.md, "The report").
abbrev pub counts : Script → List Entry → Counts
counts s entries = record {
  lines = length entries;
  threads = 1 + how_many is_creation entries;
  ended = how_many is_end entries;
  calls = how_many is_call entries;
  blocked = how_many is_blocking_call entries;
  raised = how_many is_raise entries;
  delivered = how_many is_delivery entries;
  caught = how_many is_catch entries;
  acquired = map (times_acquired entries) (mutexes_in s.items);
}

-- ---- the text

-- A line of a word and a number.
abbrev pub count_line : List ℕ → ℕ → List ℕ
count_line word n = line (word ∷ decimal n ∷ [])

-- A line for each mutex.
abbrev pub mutex_lines : Names → List (NameId × ℕ) → List ℕ
mutex_lines names [] = []
mutex_lines names (e ∷ es) = line (codes "mutex" ∷ name_word names e.0 ∷ decimal e.1 ∷ []) ++ mutex_lines names es

-- Counts as lines, and the stop line below them (docs/journal.md, "The report").
unfoldable pub counts_text : Names → Counts → Stop → List ℕ
counts_text names c stop =
    count_line (codes "lines") c.lines
    ++ (count_line (codes "threads") c.threads
    ++ (count_line (codes "ended") c.ended
    ++ (count_line (codes "calls") c.calls
    ++ (count_line (codes "blocked") c.blocked
    ++ (count_line (codes "raised") c.raised
    ++ (count_line (codes "delivered") c.delivered
    ++ (count_line (codes "caught") c.caught
    ++ (mutex_lines names c.acquired
    ++ line (stop_words stop)))))))))

-- The report of a history of this script that stopped so (docs/journal.md, "The report").
abbrev pub report_text : Script → List Entry → Stop → List ℕ
report_text s entries stop = counts_text s.names (counts s entries) stop
