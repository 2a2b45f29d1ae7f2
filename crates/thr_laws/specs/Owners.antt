-- The owners of mutexes and of the global lock, told by the lines (docs/laws.md, "Owners").
use Rattle.std.specs.Prelude.{◌≡◌, ℕ, zero, suc, ◌+◌, ◌==◌, pos, Bool, true, false, not, ◌&&◌, ◌||◌, is_none, List, [], ◌∷◌, if◌then◌else◌, Option, Some, None}
use Rattle.std.specs.List.{fold}
use Rattle.std.specs.Ordering.{int_eq}
use Rattle.thr_values.specs.declared.number.NameId.{NameId}
use Rattle.thr_values.specs.declared.call.Arg.{Arg}
use Rattle.thr_values.specs.declared.call.Arg.TheVariants as arg
use Rattle.thr_values.specs.declared.call.CallWord.{CallWord}
use Rattle.thr_values.specs.declared.call.CallWord.TheVariants as word
use Rattle.thr_values.specs.declared.history.Who.{Who}
use Rattle.thr_values.specs.declared.history.Who.TheVariants as who
use Rattle.thr_values.specs.declared.history.What.{What}
use Rattle.thr_values.specs.declared.history.What.TheVariants as what
use Rattle.thr_values.specs.declared.history.Entry.{Entry}
use Rattle.thr_values.specs.declared.reply.Kind.{Kind}
use Rattle.thr_values.specs.declared.reply.Kind.TheVariants.{Fast, Recursive, Nonrecursive}
use Rattle.thr_values.specs.declared.reply.Reply.{Reply}
use Rattle.thr_values.specs.declared.reply.Reply.TheVariants as reply
use Rattle.thr_laws.specs.Lines.{fits}

-- ---- names

-- A mutex by its name, or the global lock where there is none.
abbrev pub Lock : Type 0
Lock = Option NameId

-- The two are the same mutex, or are both the global lock (docs/laws.md, "Owners").
abbrev pub is_same_lock : Lock → Lock → Bool
is_same_lock None None = true
is_same_lock (Some m) (Some n) = m.0 == n.0
is_same_lock _ _ = false

-- ---- what lines do with a lock

-- What a line does with a lock: it is locked, also by `trylock`, given, unlocked, or given up by a wait on a condition
-- (docs/laws.md, "Owners").
pub data Use : Type 0 where
  Locks : (lock : Lock) → Use
  Gives : (lock : Lock) → Use
  Unlocks : (lock : Lock) → Use
  GivesUp : (lock : Lock) → Use
  Nothing : Use

-- This use of a lock, where it is made, and else none (docs/laws.md, "Owners").
abbrev pub used_if : Bool → Use → Use
used_if true u = u
used_if false u = Nothing

-- The calls that reply `ok`.
abbrev pub use_done : CallWord → List Arg → Use
use_done word.MutexLock (arg.Name m ∷ args) = Locks (Some m)
use_done word.MutexUnlock (arg.Name m ∷ args) = Unlocks (Some m)
use_done word.LockGlobalNp args = Locks None
use_done word.UnlockGlobalNp args = Unlocks None
use_done _ args = Nothing

-- A call that replies a number.
abbrev pub use_valued : Bool → CallWord → List Arg → Use
use_valued is_one word.MutexTrylock (arg.Name m ∷ args) = used_if is_one (Locks (Some m))
use_valued is_one _ args = Nothing

-- The calls that block.
abbrev pub use_blocked : CallWord → List Arg → Use
use_blocked word.CondWait (c ∷ arg.Name m ∷ args) = GivesUp (Some m)
use_blocked word.CondTimedwait (c ∷ arg.Name m ∷ args) = GivesUp (Some m)
use_blocked _ args = Nothing

-- What a call with this reply does with a lock (docs/laws.md, "Owners").
abbrev pub use_by_call : Reply → CallWord → List Arg → Use
use_by_call reply.Done call args = use_done call args
use_by_call (reply.Value n) call args = use_valued (int_eq n (pos 1)) call args
use_by_call reply.Blocks call args = use_blocked call args
use_by_call _ call args = Nothing

-- What a line does with a lock (docs/laws.md, "Owners").
abbrev pub use_of : What → Use
use_of (what.Call call args r) = use_by_call r call args
use_of (what.Gift lock) = Gives lock
use_of _ = Nothing

-- ---- kinds

-- The kinds of attribute cells by their names, the newest first.
abbrev pub Cells : Type 0
Cells = List (ℕ × Kind)

-- The kind of a cell. What was never made is fast.
abbrev pub kind_in : Cells → ℕ → Kind
kind_in [] cell = Fast
kind_in (c ∷ cells) cell = if c.0 == cell then c.1 else kind_in cells cell

-- The kind that a fixed word names, by its place: fast, recursive, nonrecursive (docs/journal.md, "Calls").
abbrev pub kind_word : ℕ → Kind
kind_word zero = Fast
kind_word (suc zero) = Recursive
kind_word (suc (suc n)) = Nonrecursive

-- The kinds of attribute cells after this call, which replied `ok` (docs/laws.md, "Owners").
abbrev pub cells_done : CallWord → List Arg → Cells → Cells
cells_done word.MutexattrCreate (arg.Name cell ∷ args) cells = (cell.0, Fast) ∷ cells
cells_done word.MutexattrSetkindNp (arg.Name cell ∷ arg.Word place ∷ args) cells = (cell.0, kind_word place) ∷ cells
cells_done _ args cells = cells

-- The kind that an attribute cell or `default` gives.
abbrev pub kind_by : Cells → Arg → Kind
kind_by cells (arg.Name cell) = kind_in cells cell.0
kind_by cells _ = Fast

-- The kind of a lock after this call, which replied `ok` (docs/laws.md, "Owners").
abbrev pub kind_done : Lock → CallWord → List Arg → Cells → Kind → Kind
kind_done (Some m) word.MutexInit (arg.Name n ∷ cell ∷ args) cells kind = if n.0 == m.0 then kind_by cells cell else kind
kind_done _ _ args cells kind = kind

-- The kinds of cells after a line: a cell is fast when it is made, until a kind is set.
abbrev pub cells_after : What → Cells → Cells
cells_after (what.Call call args reply.Done) cells = cells_done call args cells
cells_after _ cells = cells

-- The kind of a lock after a line: that of its last `pthread_mutex_init`, by the cell as it was then. The global lock is recursive
-- (docs/laws.md, "Owners").
abbrev pub kind_after : Lock → What → Cells → Kind → Kind
kind_after lock (what.Call call args reply.Done) cells kind = kind_done lock call args cells kind
kind_after lock _ cells kind = kind

-- The kind of a lock before the first line: recursive for the global lock, fast for a mutex (docs/laws.md, "Owners").
abbrev pub first_kind : Lock → Kind
first_kind None = Recursive
first_kind (Some m) = Fast

-- The kind is recursive (docs/laws.md, "Owners").
abbrev pub is_recursive : Kind → Bool
is_recursive Recursive = true
is_recursive _ = false

-- ---- owners

-- Who owns a lock, and how often it is locked (docs/laws.md, "Owners").
pub record Owner : Type 0 where
  pub thread : ℕ
  pub depth : ℕ

-- This thread owns it, locked so often (docs/laws.md, "Owners").
abbrev pub owned : ℕ → ℕ → Option Owner
owned t depth = Some (record { thread = t; depth = depth })

-- There is an owner, and it is this thread (docs/laws.md, "Owners").
abbrev pub is_owner : ℕ → Option Owner → Bool
is_owner t None = false
is_owner t (Some o) = o.thread == t

-- It is locked once more by this thread.
abbrev pub locked_by : ℕ → Option Owner → Option Owner
locked_by t None = owned t 1
locked_by t (Some o) = if o.thread == t then owned t (o.depth + 1) else owned t 1

-- It is locked once less. At depth 0 it has no owner.
abbrev pub depth_left : ℕ → ℕ → Option Owner
depth_left t zero = None
depth_left t (suc zero) = None
depth_left t (suc (suc depth)) = owned t (suc depth)

-- The owner after one lock is taken away (docs/laws.md, "Owners").
abbrev pub unlocked : Option Owner → Option Owner
unlocked None = None
unlocked (Some o) = depth_left o.thread o.depth

-- The owner after a use, where that is of this lock, and else the owner before it (docs/laws.md, "Owners").
abbrev pub owner_if : Bool → Option Owner → Option Owner → Option Owner
owner_if true after before = after
owner_if false after before = before

-- The owner of a lock after what a thread does (docs/laws.md, "Owners").
abbrev pub owner_after : Lock → ℕ → Use → Option Owner → Option Owner
owner_after lock t (Locks m) owner = owner_if (is_same_lock m lock) (locked_by t owner) owner
owner_after lock t (Gives m) owner = owner_if (is_same_lock m lock) (owned t 1) owner
owner_after lock t (Unlocks m) owner = owner_if (is_same_lock m lock) (unlocked owner) owner
owner_after lock t (GivesUp m) owner = owner_if (is_same_lock m lock) None owner
owner_after lock t Nothing owner = owner

-- ---- along the lines

-- What is known of a lock: the kinds of attribute cells, its own kind, and its owner (docs/laws.md, "Owners").
pub record Held : Type 0 where
  pub cells : Cells
  pub kind : Kind
  pub owner : Option Owner

-- What is known of a lock before the first line: nobody owns it (docs/laws.md, "Owners").
abbrev pub at_first : Lock → Held
at_first lock = record { cells = []; kind = first_kind lock; owner = None }

-- The owner of a lock after a line, which changes it only where it is one of a thread (docs/laws.md, "Owners").
abbrev pub owner_by : Lock → Who → What → Option Owner → Option Owner
owner_by lock (who.Thread t) w owner = owner_after lock t.0 (use_of w) owner
owner_by lock _ w owner = owner

-- What is known of a lock after a line.
abbrev pub held_after : Lock → Held → Entry → Held
held_after lock h e = record {
  cells = cells_after e.what h.cells;
  kind = kind_after lock e.what h.cells h.kind;
  owner = owner_by lock e.who e.what h.owner;
}

-- The owner and the depth of a lock after these lines (docs/laws.md, "Owners").
abbrev pub owner : List Entry → Lock → Option Owner
owner entries lock = (fold (held_after lock) (at_first lock) entries).owner

-- ---- the law

-- Where the two are the same lock, this holds (docs/laws.md, "Owners").
abbrev pub if_same : Lock → Lock → Bool → Bool
if_same m lock fits = not (is_same_lock m lock) || fits

-- The thread may do this with the lock: one that is locked or given has no owner, or is recursive and locked by its owner; one
-- that is unlocked or given up has the thread as its owner (docs/laws.md, "Owners").
abbrev pub may_use : Lock → Kind → Option Owner → ℕ → Use → Bool
may_use lock kind owner t (Locks m) = if_same m lock (is_none owner || (is_recursive kind && is_owner t owner))
may_use lock kind owner t (Gives m) = if_same m lock (is_none owner)
may_use lock kind owner t (Unlocks m) = if_same m lock (is_owner t owner)
may_use lock kind owner t (GivesUp m) = if_same m lock (is_owner t owner)
may_use lock kind owner t Nothing = true

-- Where the line is one of a thread, the thread may do this with the lock (docs/laws.md, "Owners").
abbrev pub may_use_by : Lock → Held → Who → What → Bool
may_use_by lock h (who.Thread t) w = may_use lock h.kind h.owner t.0 (use_of w)
may_use_by lock h _ w = true

-- No line gives the lock a second owner, and none frees it but its owner's (docs/laws.md, "Owners").
abbrev pub has_one_owner : Lock → List Entry → Bool
has_one_owner lock entries = fits (held_after lock) (λ h e. may_use_by lock h e.who e.what) (at_first lock) entries

-- No mutex has two owners, nor has the global lock (docs/laws.md, "Owners").
pub record OneOwner (entries : List Entry) : Type 0 where
  pub one : (lock : Lock) → has_one_owner lock entries ≡ true
