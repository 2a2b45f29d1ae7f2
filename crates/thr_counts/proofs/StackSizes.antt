-- In every history the stack of each thread has one of the sizes that can be set.
use Rattle.std.proofs.Common.{◌≡◌, ℕ, ◌≤◌, ℤ, pos, negsuc, Bool, true, false, Option, Some, None, refl, sym, subst, arith}
use Rattle.std.specs.Prelude.{if◌then◌else◌, is_some, IfSome}
use Rattle.std.specs.Option.{option_map}
use Rattle.thr_values.specs.declared.number.NameId.{NameId}
use Rattle.thr_values.specs.declared.number.Tid.{Tid}
use Rattle.thr_syntax.specs.declared.tree.Script.{Script}
use Rattle.thr_parts.specs.declared.thread.Attr.{Attr}
use Rattle.thr_parts.specs.declared.thread.Thread.{Thread}
use Rattle.thr_parts.specs.Tables.{none, get, put, cut, keep_if}
use Rattle.thr_parts.specs.Replies.{is_value}
use Rattle.thr_parts.specs.Threads.{Threads, first_threads, natural, record_of, record_at, attr_at, create, created_by, as_detached, records_detached, as_ended, records_ended}
use Rattle.thr_parts.proofs.EachLaws.{Each, IfThere, each_none, each_put, each_put_if, each_cut, if_there}
use Rattle.thr_model.specs.Histories.{Execution, History, opened, then_event}
use Rattle.thr_counts.proofs.ThreadsMade.{IsRightCell, new_right, AfterCalls, threads_made}

-- The stack has such a size.
abbrev pub IsRight : Thread → Type 0
IsRight th = (16 ≤ th.frames) × (th.frames ≤ 1024)

-- So have the stacks of all threads, and those that attribute cells say.
pub record AreSized (ths : Threads) : Type 0 where
  pub records : Each IsRight ths.records
  pub attrs : Each IsRightCell ths.attrs

same_frames : (a b : ℕ) → a ≡ b → (16 ≤ b) × (b ≤ 1024) → (16 ≤ a) × (a ≤ 1024)
same_frames a b e h = subst (λ (n : ℕ). (16 ≤ n) × (n ≤ 1024)) (sym e) h

changed_size : (b : Bool) (change : Thread → Thread) (o : Option Thread) → ((th : Thread) → (change th).frames ≡ th.frames) → IfThere IsRight o → IfThere IsRight (keep_if b (option_map change o))
changed_size true change None same h = tt
changed_size true change (Some th) same h = same_frames (change th).frames th.frames (same th) h
changed_size false change o same h = tt

named : (ths : Threads) (target : ℤ) → Each IsRight ths.records → IfThere IsRight (record_of ths target)
named ths (pos n) h = if_there IsRight ths.records n (get ths.records n) refl h
named ths (negsuc n) h = tt

-- ---- create

cell_size : (ths : Threads) (a : Option NameId) → Each IsRightCell ths.attrs → IfThere IsRightCell (attr_at ths a)
cell_size ths None h = new_right
cell_size ths (Some a) h = if_there IsRightCell ths.attrs a.0 (get ths.attrs a.0) refl h

created_size : (b : Bool) (t : ℕ) (maker : Option Thread) (a : Option Attr) → IfThere IsRightCell a → IfThere IsRight (keep_if b (option_map (created_by t maker) a))
created_size true t maker None h = tt
created_size true t maker (Some a) h = h
created_size false t maker a h = tt

-- ---- detach and end

detached_if : (ths : Threads) (k : ℕ) (th : Thread) (is_detached is_over : Bool) → IsRight th → Each IsRight ths.records
    → Each IsRight (if is_detached then ths.records else (if is_over then cut ths.records k else put ths.records k (as_detached th)))
detached_if ths k th true is_over right h = h
detached_if ths k th false true right h = each_cut IsRight ths.records k h
detached_if ths k th false false right h = each_put IsRight ths.records k (as_detached th) right h

detached_size : (ths : Threads) (target : ℤ) (o : Option Thread) → IfThere IsRight o → Each IsRight ths.records → Each IsRight (records_detached ths target o)
detached_size ths target None right h = h
detached_size ths target (Some th) right h = detached_if ths (natural target) th th.detached (is_some th.ended) right h

ended_if : (ths : Threads) (t : Tid) (value : ℤ) (th : Thread) (is_detached : Bool) → IsRight th → Each IsRight ths.records
    → Each IsRight (if is_detached then cut ths.records t.0 else put ths.records t.0 (as_ended value th))
ended_if ths t value th true right h = each_cut IsRight ths.records t.0 h
ended_if ths t value th false right h = each_put IsRight ths.records t.0 (as_ended value th) right h

ended_size : (ths : Threads) (t : Tid) (value : ℤ) (o : Option Thread) → IfThere IsRight o → Each IsRight ths.records → Each IsRight (records_ended ths t value o)
ended_size ths t value None right h = h
ended_size ths t value (Some th) right h = ended_if ths t value th th.detached right h

-- ---- histories

sizes_after : (base : Threads) (t : Tid) → AreSized base → AfterCalls base t (λ ths left. AreSized ths)
sizes_after base t h = record {
  same = λ left. h;
  cells = λ attrs right left. record { records = h.records; attrs = right h.attrs };
  changes = λ target b change frames ended left. record {
    records = each_put_if IsRight base.records (natural target) _ (changed_size b change (record_of base target) frames (named base target h.records)) h.records;
    attrs = h.attrs;
  };
  creates = λ a left. record {
    records = each_put_if IsRight base.records base.next _ (created_size (is_value (create base t a).reply) base.next (record_at base t) (attr_at base a) (cell_size base a h.attrs)) h.records;
    attrs = h.attrs;
  };
  detaches = λ target left. record { records = detached_size base target (record_of base target) (named base target h.records) h.records; attrs = h.attrs };
  ends = λ value left. record { records = ended_size base t value (record_at base t) (if_there IsRight base.records t.0 (record_at base t) refl h.records) h.records; attrs = h.attrs };
}

first_size : AreSized first_threads
first_size = record { records = each_put IsRight none 1 _ (omega arith, omega arith) (each_none IsRight); attrs = each_none IsRightCell }

pub sizes : {s : Script} {n : ℕ} {x : Execution} → History s n x → AreSized x.state.threads
sizes opened = first_size
sizes {s} {n} (then_event {x} h open_ e made m) = threads_made (λ ths left. AreSized ths) s n x.state e made (λ t. sizes_after x.state.threads t (sizes h)) m

size_at : (o : Option Thread) → IfThere IsRight o → IfSome o (λ th. (16 ≤ th.frames) × (th.frames ≤ 1024))
size_at None h = tt
size_at (Some th) h = h

pub stack_sizes : (s : Script) (n : ℕ) (x : Execution) → History s n x → (t : ℕ) → IfSome (get x.state.threads.records t) (λ th. (16 ≤ th.frames) × (th.frames ≤ 1024))
stack_sizes s n x h t = size_at (get x.state.threads.records t) (if_there IsRight x.state.threads.records t (get x.state.threads.records t) refl (sizes h).records)
