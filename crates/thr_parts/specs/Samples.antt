-- Small states for the worked examples.
use Rattle.std.specs.Prelude.{ℕ, zero, suc, ◌+◌, Bool, true, ℤ, pos, List, [], ◌∷◌, map, Option, Some, None}
use Rattle.thr_values.specs.declared.number.NameId.{NameId}
use Rattle.thr_values.specs.declared.reply.Kind.{Kind}
use Rattle.thr_values.specs.declared.scheduling.Policy.{Policy}
use Rattle.thr_parts.specs.declared.mutex.Mutex.{Mutex}
use Rattle.thr_parts.specs.declared.row.RowId.{RowId}
use Rattle.thr_parts.specs.declared.row.Place.TheVariants.{Runs, Stands}
use Rattle.thr_parts.specs.declared.row.Seat.{Seat}
use Rattle.thr_values.specs.declared.scheduling.Policy.TheVariants.{Fg}
use Rattle.thr_values.specs.declared.scheduling.Mode.{Mode}
use Rattle.thr_parts.specs.declared.once.OnceBlock.{OnceBlock}
use Rattle.thr_parts.specs.declared.pipe.Writing.{Writing}
use Rattle.thr_parts.specs.declared.thread.Attr.{Attr}
use Rattle.thr_parts.specs.declared.thread.Thread.{Thread}
use Rattle.thr_parts.specs.declared.wait.Wait.{Wait}
use Rattle.thr_parts.specs.Tables.{Table, none}
use Rattle.thr_parts.specs.Rows.{Rows, thread}
use Rattle.thr_parts.specs.Threads.{Threads, new_thread}
use Rattle.thr_parts.specs.Mutexes.{Locks}
use Rattle.thr_parts.specs.Conditions.{Conds}
use Rattle.thr_parts.specs.Keys.{Key, Onces}
use Rattle.thr_parts.specs.Pipes.{Pipes}

abbrev pub name : ℕ → NameId
name n = record { 0 = n }

-- ---- rows

abbrev pub running_at : ℕ → ℕ → ℕ → Seat
running_at p rank slice = record { rank = rank; place = Runs p slice }

abbrev pub standing_in : RowId → ℕ → ℕ → Seat
standing_in r rank arrival = record { rank = rank; place = Stands r arrival }

-- The next arrival, and the seats.
abbrev pub rows : ℕ → Table Seat → Rows
rows next seats = record { seats = seats; next_arrival = next }

-- Thread 1 runs, and the next arrival is 3.
abbrev pub alone : Rows
alone = rows 3 ((1, running_at 0 116 8) ∷ [])

-- ---- threads

abbrev pub threads : Table Thread → ℕ → Threads
threads records next = record { records = records; next = next; attrs = none }

-- A thread under SCHED_FG_NP with priority 16, in this mode.
abbrev pub in_mode : ℕ → Mode → Thread
in_mode t m = record (new_thread (thread t) Fg 16 256) { mode = m }

abbrev pub mode : Bool → Bool → Bool → Mode
mode pending general asynchronous = record { pending = pending; general = general; asynchronous = asynchronous }

abbrev pub ended_thread : ℕ → ℤ → Thread
ended_thread t value = record (new_thread (thread t) Fg 16 256) { ended = Some value }

abbrev pub detached_thread : ℕ → Thread
detached_thread t = record (new_thread (thread t) Fg 16 256) { detached = true }

-- The first thread, and attribute cell 30 made so.
abbrev pub with_cell : Attr → Threads
with_cell a = record { records = (1, new_thread (thread 1) Fg 16 256) ∷ []; next = 2; attrs = (30, a) ∷ [] }

abbrev pub cell : Policy → ℕ → Bool → ℕ → Attr
cell p prio inherits frames = record { policy = p; prio = prio; inherits = inherits; frames = frames }

-- Records of so many threads under a policy, from this number on.
unfoldable pub many_records : ℕ → ℕ → Policy → Table Thread
many_records zero t p = []
many_records (suc n) t p = (t, new_thread (thread t) p 16 256) ∷ many_records n (t + 1) p

-- ---- mutexes and conditions

abbrev pub free : Kind → Mutex
free kind = record { kind = kind; held = None }

abbrev pub held : Kind → ℕ → ℕ → Mutex
held kind t depth = record { kind = kind; held = Some (record { owner = thread t; depth = depth }) }

-- The locks with these mutexes alone.
abbrev pub locks : Table Mutex → Locks
locks mutexes = record { kinds = none; mutexes = mutexes; global = None }

-- The locks with these attribute cells alone.
abbrev pub kinds : Table Kind → Locks
kinds cells = record { kinds = cells; mutexes = none; global = None }

-- The locks with the global lock alone, so often locked by this thread.
abbrev pub global : ℕ → ℕ → Locks
global t depth = record { kinds = none; mutexes = none; global = Some (record { owner = thread t; depth = depth }) }

-- Conditions that are made, with nobody waiting.
abbrev pub made : List ℕ → Conds
made names = record { made = map (λ n. (n, tt)) names; waits = none }

-- Conditions 20 and 21 are made, and these threads wait.
abbrev pub conds : Table Wait → Conds
conds waits = record { made = (20, tt) ∷ (21, tt) ∷ []; waits = waits }

-- ---- pipes

-- Pipe 40 with this capacity and these items, open or not, and these threads waiting as writers.
abbrev pub pipes : ℕ → Bool → List ℤ → Table Writing → Pipes
pipes capacity is_open items writing = record {
  pipes = (40, record { capacity = capacity; is_open = is_open; items = items }) ∷ [];
  writing = writing;
}

-- A wait as a writer of pipe 40.
abbrev pub writer : ℕ → Writing
writer v = record { pipe = name 40; item = pos v }

-- ---- once blocks and keys

abbrev pub blocks : Table OnceBlock → Onces
blocks states = record { blocks = states; keys = none }

abbrev pub keys : Table Key → Onces
keys made = record { blocks = none; keys = made }

abbrev pub key : Option NameId → Table ℤ → Key
key destructor values = record { destructor = destructor; values = values }
