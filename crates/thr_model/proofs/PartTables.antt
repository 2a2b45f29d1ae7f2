-- What a call does to a part of the state leaves the numbers of its tables in order.
use Rattle.std.proofs.Common.{ℕ, ℤ, pos, Bool, true, false, List, [], ◌∷◌, Option, Some, None, refl}
use Rattle.std.specs.Prelude.{if◌then◌else◌, is_some}
use Rattle.std.specs.Option.{option_map}
use Rattle.thr_values.specs.declared.number.NameId.{NameId}
use Rattle.thr_values.specs.declared.number.Tid.{Tid}
use Rattle.thr_values.specs.declared.reply.Kind.{Kind}
use Rattle.thr_values.specs.declared.scheduling.Mode.{Mode}
use Rattle.thr_syntax.specs.declared.tree.Item.{Item}
use Rattle.thr_syntax.specs.declared.tree.Item.TheVariants as item
use Rattle.thr_parts.specs.declared.mutex.Mutex.{Mutex}
use Rattle.thr_parts.specs.declared.pipe.Writing.{Writing}
use Rattle.thr_parts.specs.declared.thread.Attr.{Attr}
use Rattle.thr_parts.specs.declared.thread.Thread.{Thread}
use Rattle.thr_parts.specs.declared.wait.Wait.{Wait}
use Rattle.thr_parts.specs.Tables.{Table, none, get, put, put_if, cut, keep_if, IsCanonical}
use Rattle.thr_parts.specs.Rows.{Rows}
use Rattle.thr_parts.specs.Threads.{Threads, first_threads, record_of, record_at, with_records, with_attrs, create, detach, records_detached, records_ended, set_ended, as_detached, as_ended}
use Rattle.thr_parts.specs.Scheduling.{attr_create, attr_delete}
use Rattle.thr_parts.specs.Cancels.{set_mode, cancel}
use Rattle.thr_parts.specs.Mutexes.{Locks, mutexattr_create, mutexattr_delete, setkind, init, destroy, mutex_at, mutexes_with, with_mutex}
use Rattle.thr_parts.specs.Locking.{as_taken, lock_reply, lock, unlock_reply, as_unlocked, unlock}
use Rattle.thr_parts.specs.Replies.{is_done}
use Rattle.thr_parts.specs.Conditions.{Conds, cond_init, cond_destroy}
use Rattle.thr_parts.specs.Waking.{waits_without, without_wait, pull_out, resume, mutex_with, wake_all}
use Rattle.thr_parts.specs.Keys.{Key, Onces, with_keys, new_key, keycreate, as_valued, is_zero, setspecific, DestructorCall, keys_called, next_destructor}
use Rattle.thr_parts.specs.OnceBlocks.{blocks_undone, enter, done, undone}
use Rattle.thr_parts.specs.Pipes.{Pipe, Pipes, declared_pipes, first_pipes, writing_without, read, write}
use Rattle.thr_parts.specs.Closing.{close, close_out, writing_elsewhere}
use Rattle.thr_parts.specs.Closing as closing
use Rattle.thr_parts.proofs.EachLaws.{Each, IfThere, each_put_if, if_there}
use Rattle.thr_parts.proofs.TableLaws.{canonical_none, canonical_put, canonical_cut, canonical_put_if, canonical_cut_if}
use Rattle.thr_parts.proofs.EntryLaws.{canonical_filter}

-- ---- threads

pub record AreThreads (ths : Threads) : Type 0 where
  pub records : IsCanonical ths.records
  pub attrs : IsCanonical ths.attrs

pub first_are : AreThreads first_threads
first_are = record { records = canonical_put none 1 _ (canonical_none Thread); attrs = canonical_none Attr }

pub put_records : (ths : Threads) (k : ℕ) (o : Option Thread) → AreThreads ths → AreThreads (with_records ths (put_if ths.records k o))
put_records ths k o h = record { records = canonical_put_if ths.records k o h.records; attrs = h.attrs }

pub put_attrs : (ths : Threads) (k : ℕ) (o : Option Attr) → AreThreads ths → AreThreads (with_attrs ths (put_if ths.attrs k o))
put_attrs ths k o h = record { records = h.records; attrs = canonical_put_if ths.attrs k o h.attrs }

pub attr_create_are : (ths : Threads) (a : NameId) → AreThreads ths → AreThreads (attr_create ths a).threads
attr_create_are ths a h = put_attrs ths a.0 _ h

pub attr_delete_are : (ths : Threads) (a : NameId) → AreThreads ths → AreThreads (attr_delete ths a).threads
attr_delete_are ths a h = record { records = h.records; attrs = canonical_cut_if _ ths.attrs a.0 h.attrs }

pub create_are : (ths : Threads) (t : Tid) (a : Option NameId) → AreThreads ths → AreThreads (create ths t a).threads
create_are ths t a h = record { records = canonical_put_if ths.records ths.next _ h.records; attrs = h.attrs }

detached_if : (ths : Threads) (k : ℕ) (th : Thread) (b c : Bool) → AreThreads ths
    → AreThreads (with_records ths (if b then ths.records else (if c then cut ths.records k else put ths.records k (as_detached th))))
detached_if ths k th true c h = h
detached_if ths k th false true h = record { records = canonical_cut ths.records k h.records; attrs = h.attrs }
detached_if ths k th false false h = record { records = canonical_put ths.records k _ h.records; attrs = h.attrs }

detached_by : (ths : Threads) (target : ℤ) (o : Option Thread) → AreThreads ths → AreThreads (with_records ths (records_detached ths target o))
detached_by ths target None h = h
detached_by ths target (Some th) h = detached_if ths _ th th.detached (is_some th.ended) h

pub detach_are : (ths : Threads) (target : ℤ) → AreThreads ths → AreThreads (detach ths target).threads
detach_are ths target h = detached_by ths target (record_of ths target) h

ended_if : (ths : Threads) (k : ℕ) (v : ℤ) (th : Thread) (b : Bool) → AreThreads ths
    → AreThreads (with_records ths (if b then cut ths.records k else put ths.records k (as_ended v th)))
ended_if ths k v th true h = record { records = canonical_cut ths.records k h.records; attrs = h.attrs }
ended_if ths k v th false h = record { records = canonical_put ths.records k _ h.records; attrs = h.attrs }

ended_by : (ths : Threads) (t : Tid) (v : ℤ) (o : Option Thread) → AreThreads ths → AreThreads (with_records ths (records_ended ths t v o))
ended_by ths t v None h = h
ended_by ths t v (Some th) h = ended_if ths t.0 v th th.detached h

pub set_ended_are : (ths : Threads) (t : Tid) (v : ℤ) → AreThreads ths → AreThreads (set_ended ths t v)
set_ended_are ths t v h = ended_by ths t v (record_at ths t) h

pub set_mode_are : (ths : Threads) (t : Tid) (m : Mode) → AreThreads ths → AreThreads (set_mode ths t m)
set_mode_are ths t m h = put_records ths t.0 _ h

pub cancel_are : (ths : Threads) (target : ℤ) (b : Bool) → AreThreads ths → AreThreads (cancel ths target b).threads
cancel_are ths target b h = put_records ths _ _ h

-- ---- mutexes and the global lock

pub record AreLocks (ls : Locks) : Type 0 where
  pub kinds : IsCanonical ls.kinds
  pub mutexes : IsCanonical ls.mutexes

pub mutexattr_create_are : (ls : Locks) (a : NameId) → AreLocks ls → AreLocks (mutexattr_create ls a).locks
mutexattr_create_are ls a h = record { kinds = canonical_put_if ls.kinds a.0 _ h.kinds; mutexes = h.mutexes }

pub mutexattr_delete_are : (ls : Locks) (a : NameId) → AreLocks ls → AreLocks (mutexattr_delete ls a).locks
mutexattr_delete_are ls a h = record { kinds = canonical_cut_if _ ls.kinds a.0 h.kinds; mutexes = h.mutexes }

pub setkind_are : (ls : Locks) (a : NameId) (kind : Kind) → AreLocks ls → AreLocks (setkind ls a kind).locks
setkind_are ls a kind h = record { kinds = canonical_put_if ls.kinds a.0 _ h.kinds; mutexes = h.mutexes }

pub init_are : (ls : Locks) (m : NameId) (a : Option NameId) → AreLocks ls → AreLocks (init ls m a).locks
init_are ls m a h = record { kinds = h.kinds; mutexes = canonical_put_if ls.mutexes m.0 _ h.mutexes }

pub destroy_are : (ls : Locks) (rs : Rows) (m : NameId) (waits_with : Bool) → AreLocks ls → AreLocks (destroy ls rs m waits_with).locks
destroy_are ls rs m waits_with h = record { kinds = h.kinds; mutexes = canonical_cut_if _ ls.mutexes m.0 h.mutexes }

mutexes_are : (mutexes : Table Mutex) (m : Option NameId) (o : Option Mutex) → IsCanonical mutexes → IsCanonical (mutexes_with mutexes m o)
mutexes_are mutexes None o h = h
mutexes_are mutexes (Some m) None h = h
mutexes_are mutexes (Some m) (Some x) h = canonical_put mutexes m.0 x h

pub with_mutex_are : (ls : Locks) (m : Option NameId) (o : Option Mutex) → AreLocks ls → AreLocks (with_mutex ls m o)
with_mutex_are ls m o h = record { kinds = h.kinds; mutexes = mutexes_are ls.mutexes m o h.mutexes }

pub lock_are : (ls : Locks) (rs : Rows) (m : Option NameId) (t : Tid) (rank : ℕ) → AreLocks ls → AreLocks (lock ls rs m t rank).locks
lock_are ls rs m t rank h = with_mutex_are ls m (keep_if (is_done (lock_reply (mutex_at ls m) t)) (option_map (as_taken t) (mutex_at ls m))) h

pub unlock_are : (ls : Locks) (rs : Rows) (m : Option NameId) (t : Tid) → AreLocks ls → AreLocks (unlock ls rs m t).locks
unlock_are ls rs m t h = with_mutex_are ls m (keep_if (is_done (unlock_reply (mutex_at ls m) t)) (option_map (as_unlocked (unlock ls rs m t).given) (mutex_at ls m))) h

pub resume_are : (rank : Tid → ℕ) (ls : Locks) (rs : Rows) (t : Tid) (m : Option NameId) → AreLocks ls → AreLocks (resume rank ls rs t m).locks
resume_are rank ls rs t None h = h
resume_are rank ls rs t (Some m) h = with_mutex_are ls (Some m) _ h

pub wake_all_locks : (rank : Tid → ℕ) (cs : Conds) (ls : Locks) (rs : Rows) (ts : List Tid) → AreLocks ls → AreLocks (wake_all rank cs ls rs ts).locks
unfolding wake_all
wake_all_locks rank cs ls rs [] h = h
wake_all_locks rank cs ls rs (t ∷ ts) h =
    let rows : Rows = (pull_out cs rs t).rows in
    wake_all_locks rank (pull_out cs rs t).conds (resume rank ls rows t (mutex_with cs t)).locks (resume rank ls rows t (mutex_with cs t)).rows ts
    (resume_are rank ls rows t (mutex_with cs t) h)

-- ---- conditions

pub record AreConds (cs : Conds) : Type 0 where
  pub made : IsCanonical cs.made
  pub waits : IsCanonical cs.waits

pub cond_init_are : (cs : Conds) (c : NameId) → AreConds cs → AreConds (cond_init cs c).conds
cond_init_are cs c h = record { made = canonical_put_if cs.made c.0 _ h.made; waits = h.waits }

pub cond_destroy_are : (cs : Conds) (c : NameId) → AreConds cs → AreConds (cond_destroy cs c).conds
cond_destroy_are cs c h = record { made = canonical_cut_if _ cs.made c.0 h.made; waits = h.waits }

pub waits_are : (cs : Conds) (k : ℕ) (o : Option Wait) → AreConds cs → (let after : Conds = record { made = cs.made; waits = put_if cs.waits k o } in AreConds after)
waits_are cs k o h = record { made = h.made; waits = canonical_put_if cs.waits k o h.waits }

without_are : (waits : Table Wait) (o : Option Tid) → IsCanonical waits → IsCanonical (waits_without waits o)
without_are waits None h = h
without_are waits (Some t) h = canonical_cut waits t.0 h

pub without_wait_are : (cs : Conds) (o : Option Tid) → AreConds cs → AreConds (without_wait cs o)
without_wait_are cs o h = record { made = h.made; waits = without_are cs.waits o h.waits }

pub wake_all_conds : (rank : Tid → ℕ) (cs : Conds) (ls : Locks) (rs : Rows) (ts : List Tid) → AreConds cs → AreConds (wake_all rank cs ls rs ts).conds
unfolding wake_all
wake_all_conds rank cs ls rs [] h = h
wake_all_conds rank cs ls rs (t ∷ ts) h =
    let rows : Rows = (pull_out cs rs t).rows in
    wake_all_conds rank (pull_out cs rs t).conds (resume rank ls rows t (mutex_with cs t)).locks (resume rank ls rows t (mutex_with cs t)).rows ts
    (without_wait_are cs _ h)

-- ---- once blocks and keys

-- The numbers rise in the values of the key.
abbrev pub IsValued : Key → Type 0
IsValued key = IsCanonical key.values

pub record AreOnces (os : Onces) : Type 0 where
  pub blocks : IsCanonical os.blocks
  pub keys : IsCanonical os.keys
  pub values : Each IsValued os.keys

put_keys : (os : Onces) (n : ℕ) (o : Option Key) → IfThere IsValued o → AreOnces os → AreOnces (with_keys os (put_if os.keys n o))
put_keys os n o here h = record { blocks = h.blocks; keys = canonical_put_if os.keys n o h.keys; values = each_put_if IsValued os.keys n o here h.values }

new_valued : (b : Bool) (destructor : Option NameId) → IfThere IsValued (keep_if b (Some (new_key destructor)))
new_valued true destructor = canonical_none ℤ
new_valued false destructor = tt

pub keycreate_are : (os : Onces) (k : NameId) (destructor : Option NameId) → AreOnces os → AreOnces (keycreate os k destructor).onces
keycreate_are os k destructor h = put_keys os k.0 _ (new_valued _ destructor) h

value_if : (b : Bool) (values : Table ℤ) (k : ℕ) (v : ℤ) → IsCanonical values → IsCanonical (if b then cut values k else put values k v)
value_if true values k v h = canonical_cut values k h
value_if false values k v h = canonical_put values k v h

value_at : (t : Tid) (v : ℤ) (o : Option Key) → IfThere IsValued o → IfThere IsValued (option_map (as_valued t v) o)
value_at t v None h = tt
value_at t v (Some x) h = value_if (is_zero v) x.values t.0 v h

pub setspecific_are : (os : Onces) (k : NameId) (t : Tid) (v : ℤ) → AreOnces os → AreOnces (setspecific os k t v).onces
setspecific_are os k t v h = put_keys os k.0 (option_map (as_valued t v) (get os.keys k.0)) (value_at t v (get os.keys k.0) (if_there IsValued os.keys k.0 (get os.keys k.0) refl h.values)) h

called_are : (os : Onces) (t : Tid) (c : Option DestructorCall) → AreOnces os → AreOnces (with_keys os (keys_called os.keys t c))
called_are os t None h = h
called_are os t (Some c) h = put_keys os c.0.0 (option_map (as_valued t (pos 0)) (get os.keys c.0.0)) (value_at t (pos 0) (get os.keys c.0.0) (if_there IsValued os.keys c.0.0 (get os.keys c.0.0) refl h.values)) h

pub next_destructor_are : (os : Onces) (t : Tid) → AreOnces os → AreOnces (next_destructor os t).onces
next_destructor_are os t h = called_are os t _ h

pub enter_are : (os : Onces) (rs : Rows) (o : NameId) (t : Tid) (rank : ℕ) → AreOnces os → AreOnces (enter os rs o t rank).onces
enter_are os rs o t rank h = record { blocks = canonical_put_if os.blocks o.0 _ h.blocks; keys = h.keys; values = h.values }

pub done_are : (os : Onces) (o : NameId) → AreOnces os → AreOnces (done os o)
done_are os o h = record { blocks = canonical_put os.blocks o.0 _ h.blocks; keys = h.keys; values = h.values }

undone_by : (os : Onces) (o : NameId) (next : Option Tid) → AreOnces os → IsCanonical (blocks_undone os.blocks o next)
undone_by os o None h = canonical_cut os.blocks o.0 h.blocks
undone_by os o (Some t) h = canonical_put os.blocks o.0 _ h.blocks

pub undone_are : (os : Onces) (rs : Rows) (o : NameId) → AreOnces os → AreOnces (undone os rs o).onces
undone_are os rs o h = record { blocks = undone_by os o _ h; keys = h.keys; values = h.values }

-- ---- pipes

pub record ArePipes (ps : Pipes) : Type 0 where
  pub pipes : IsCanonical ps.pipes
  pub writing : IsCanonical ps.writing

declared_are : (items : List Item) → IsCanonical (declared_pipes items)
unfolding declared_pipes
declared_are [] = canonical_none Pipe
declared_are (item.Pipe p capacity ∷ items) = canonical_put (declared_pipes items) p.0 _ (declared_are items)
declared_are (_ ∷ items) = declared_are items

pub first_pipes_are : (items : List Item) → ArePipes (first_pipes items)
first_pipes_are items = record { pipes = declared_are items; writing = canonical_none Writing }

writing_are : (writing : Table Writing) (o : Option Tid) → IsCanonical writing → IsCanonical (writing_without writing o)
writing_are writing None h = h
writing_are writing (Some t) h = canonical_cut writing t.0 h

pub read_are : (ps : Pipes) (rs : Rows) (p : NameId) (t : Tid) (rank : ℕ) → ArePipes ps → ArePipes (read ps rs p t rank).pipes
read_are ps rs p t rank h = record { pipes = canonical_put_if ps.pipes p.0 _ h.pipes; writing = writing_are ps.writing _ h.writing }

pub write_are : (ps : Pipes) (rs : Rows) (p : NameId) (v : ℤ) (t : Tid) (rank : ℕ) → ArePipes ps → ArePipes (write ps rs p v t rank).pipes
write_are ps rs p v t rank h = record { pipes = canonical_put_if ps.pipes p.0 _ h.pipes; writing = canonical_put_if ps.writing t.0 _ h.writing }

elsewhere_are : (b : Bool) (writing : Table Writing) (p : NameId) → IsCanonical writing → IsCanonical (if b then writing_elsewhere writing p else writing)
unfolding writing_elsewhere
elsewhere_are true writing p h = canonical_filter _ writing h
elsewhere_are false writing p h = h

pub close_are : (ps : Pipes) (p : NameId) → ArePipes ps → ArePipes (close ps p).pipes
close_are ps p h = record { pipes = canonical_put_if ps.pipes p.0 _ h.pipes; writing = elsewhere_are _ ps.writing p h.writing }

pub pull_out_are : (ps : Pipes) (rs : Rows) (t : Tid) → ArePipes ps → ArePipes (closing.pull_out ps rs t).pipes
pull_out_are ps rs t h = record { pipes = h.pipes; writing = writing_are ps.writing _ h.writing }
