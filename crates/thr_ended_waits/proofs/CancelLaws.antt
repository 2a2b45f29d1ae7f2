-- What a cancel does to a wait, by what the calls on conditions and pipes answer.
use Rattle.std.proofs.Common.{◌≡◌, ℕ, Bool, true, false, [], Option, Some, None, refl, sym, ◌∙◌, ap}
use Rattle.std.specs.Option.{option_map, option_and_then, is_some, unwrap_or}
use Rattle.thr_values.specs.declared.number.Tid.{Tid}
use Rattle.thr_values.specs.declared.number.NameId.{NameId}
use Rattle.thr_parts.specs.declared.row.RowId.{RowId}
use Rattle.thr_parts.specs.declared.row.RowId.TheVariants as row
use Rattle.thr_parts.specs.declared.wait.Wait.{Wait}
use Rattle.thr_parts.specs.Tables.{keep_if}
use Rattle.thr_parts.specs.Rows.{Rows, row_of}
use Rattle.thr_parts.specs.Moves.{take_out, take_out_if, put_in_row}
use Rattle.thr_parts.specs.Mutexes.{Locks}
use Rattle.thr_parts.specs.Locking.{Regained, regain}
use Rattle.thr_parts.specs.Conditions.{Conds, wait_of, mutex_of}
use Rattle.thr_parts.specs.Waking.{without_wait, some_if, LeftWait, mutex_with, resume, gift_of}
use Rattle.thr_parts.specs.Waking as conditions
use Rattle.thr_parts.specs.Pipes.{Pipes, writing_without}
use Rattle.thr_parts.specs.Closing.{is_pipe_row, LeftPipe}
use Rattle.thr_parts.specs.Closing as pipes
use Rattle.thr_parts.specs.CancelledWaits.{Cancelled, cancel_wait}
use Rattle.thr_conds.specs.Agreement.{waiting_row, if_waiting, WaitsAgree}

-- What a cancel does where the thread has this mutex or none, a wait by the conditions or none, and one at a pipe or none.
abbrev ends : Option NameId → (waits writes : Bool) → (Tid → ℕ) → Conds → Pipes → Locks → Rows → Tid → Cancelled
ends m waits writes rank cs ps ls rs t =
    let o : Regained = resume rank ls (take_out rs t).rows t m in record {
      conds = without_wait cs (some_if waits t);
      pipes = record { pipes = ps.pipes; writing = writing_without ps.writing (keep_if writes (Some t)) };
      locks = o.locks;
      rows = o.rows;
      gifts = gift_of t m o.gets;
    }

ends_as : (m : Option NameId) (waits writes : Bool) (rank : Tid → ℕ) (cs : Conds) (ps : Pipes) (ls : Locks) (rs : Rows) (t : Tid) → mutex_with cs t ≡ m → is_some (wait_of cs t) ≡ waits
    → is_pipe_row (row_of rs t) ≡ writes → cancel_wait rank cs ps ls rs t ≡ ends m waits writes rank cs ps ls rs t
ends_as m waits writes rank cs ps ls rs t e f g =
    ap (λ (o : Option NameId). ends o (is_some (wait_of cs t)) (is_pipe_row (row_of rs t)) rank cs ps ls rs t) e
    ∙ ap (λ (b : Bool). ends m b (is_pipe_row (row_of rs t)) rank cs ps ls rs t) f
    ∙ ap (λ (b : Bool). ends m waits b rank cs ps ls rs t) g

-- ---- what the answers tell

same_some : {A : Type 0} (x y : A) → Some x ≡ Some y → x ≡ y
same_some x y e = ap (λ o. unwrap_or o x) e

left_mutex : (w : Option Wait) (m : Option NameId) → option_map mutex_of w ≡ Some m → option_and_then mutex_of w ≡ m
left_mutex None m e = absurd (cc)
left_mutex (Some w) m e = same_some (mutex_of w) m e

left_wait : (w : Option Wait) (m : Option NameId) → option_map mutex_of w ≡ Some m → is_some w ≡ true
left_wait None m e = absurd (cc)
left_wait (Some w) m e = refl

left_none : (w : Option Wait) → option_map mutex_of w ≡ None → w ≡ None
left_none None e = refl
left_none (Some w) e = absurd (cc)

no_pipe_row : (r : Option RowId) → is_some (if_waiting r) ≡ true → is_pipe_row r ≡ false
no_pipe_row None e = absurd (cc)
no_pipe_row (Some row.Ready) e = absurd (cc)
no_pipe_row (Some (row.Mutex m)) e = absurd (cc)
no_pipe_row (Some row.Global) e = absurd (cc)
no_pipe_row (Some (row.Cond c)) e = refl
no_pipe_row (Some (row.Join t)) e = absurd (cc)
no_pipe_row (Some (row.Once o)) e = absurd (cc)
no_pipe_row (Some (row.Reader p)) e = absurd (cc)
no_pipe_row (Some (row.Writer p)) e = absurd (cc)
no_pipe_row (Some row.Time) e = refl

mapped : {A B : Type 0} (f : A → B) (o : Option A) → is_some (option_map f o) ≡ is_some o
mapped f None = refl
mapped f (Some x) = refl

-- A thread that waits on a condition or for a time stands in no row of a pipe.
waits_at_no_pipe : (cs : Conds) (rs : Rows) (t : Tid) → WaitsAgree cs rs → is_some (wait_of cs t) ≡ true → is_pipe_row (row_of rs t) ≡ false
waits_at_no_pipe cs rs t h is = no_pipe_row (row_of rs t) (ap is_some (sym (h.same t)) ∙ mapped waiting_row (wait_of cs t) ∙ is)

stood_there : (b : Bool) (t : Tid) → is_some (keep_if b (Some t)) ≡ b
stood_there true t = refl
stood_there false t = refl

-- ---- each wait

-- What the calls make of a thread that is pulled out of its wait and comes to its mutex.
abbrev regained : Bool → (Tid → ℕ) → Conds → Pipes → Locks → Rows → Tid → NameId → Cancelled
regained waits rank cs ps ls rs t m =
    let o : Regained = regain ls (take_out_if rs (some_if waits t)) m t (rank t) in record {
      conds = without_wait cs (some_if waits t);
      pipes = ps;
      locks = o.locks;
      rows = o.rows;
      gifts = gift_of t (Some m) o.gets;
    }

pub on_condition : (rank : Tid → ℕ) (cs : Conds) (ps : Pipes) (ls : Locks) (rs : Rows) (t : Tid) (m : NameId) → WaitsAgree cs rs → (conditions.pull_out cs rs t).left ≡ Some (Some m)
    → cancel_wait rank cs ps ls rs t ≡ record {
      conds = (conditions.pull_out cs rs t).conds;
      pipes = ps;
      locks = (regain ls (conditions.pull_out cs rs t).rows m t (rank t)).locks;
      rows = (regain ls (conditions.pull_out cs rs t).rows m t (rank t)).rows;
      gifts = gift_of t (Some m) (regain ls (conditions.pull_out cs rs t).rows m t (rank t)).gets;
    }
on_condition rank cs ps ls rs t m h e =
    let waits : is_some (wait_of cs t) ≡ true = left_wait (wait_of cs t) (Some m) e in
    ends_as (Some m) true false rank cs ps ls rs t (left_mutex (wait_of cs t) (Some m) e) waits (waits_at_no_pipe cs rs t h waits)
    ∙ sym (ap (λ (b : Bool). regained b rank cs ps ls rs t m) waits)

-- What the calls make of a thread that is pulled out of its wait and is ready.
abbrev made_ready : Bool → (Tid → ℕ) → Conds → Pipes → Locks → Rows → Tid → Cancelled
made_ready waits rank cs ps ls rs t = record {
  conds = without_wait cs (some_if waits t);
  pipes = ps;
  locks = ls;
  rows = put_in_row (take_out_if rs (some_if waits t)) row.Ready t (rank t);
  gifts = [];
}

pub for_time : (rank : Tid → ℕ) (cs : Conds) (ps : Pipes) (ls : Locks) (rs : Rows) (t : Tid) → WaitsAgree cs rs → (conditions.pull_out cs rs t).left ≡ Some None
    → cancel_wait rank cs ps ls rs t ≡ record {
      conds = (conditions.pull_out cs rs t).conds;
      pipes = ps;
      locks = ls;
      rows = put_in_row (conditions.pull_out cs rs t).rows row.Ready t (rank t);
      gifts = [];
    }
for_time rank cs ps ls rs t h e =
    let waits : is_some (wait_of cs t) ≡ true = left_wait (wait_of cs t) None e in
    ends_as None true false rank cs ps ls rs t (left_mutex (wait_of cs t) None e) waits (waits_at_no_pipe cs rs t h waits)
    ∙ sym (ap (λ (b : Bool). made_ready b rank cs ps ls rs t) waits)

-- ---- no wait by the conditions

-- What a call does to a thread with this wait or none.
abbrev pulled : Option Wait → Conds → Rows → Tid → LeftWait
pulled w cs rs t = record { conds = without_wait cs (some_if (is_some w) t); rows = take_out_if rs (some_if (is_some w) t); left = option_map mutex_of w }

pub no_wait : (cs : Conds) (rs : Rows) (t : Tid) → (conditions.pull_out cs rs t).left ≡ None → conditions.pull_out cs rs t ≡ record { conds = cs; rows = rs; left = None }
no_wait cs rs t e = ap (λ (w : Option Wait). pulled w cs rs t) (left_none (wait_of cs t) e)

-- What the calls make of a thread that is pulled out of its wait at a pipe and is ready.
abbrev let_go : Bool → (Tid → ℕ) → Conds → Pipes → Locks → Rows → Tid → Cancelled
let_go writes rank cs ps ls rs t = record {
  conds = cs;
  pipes = record { pipes = ps.pipes; writing = writing_without ps.writing (keep_if writes (Some t)) };
  locks = ls;
  rows = put_in_row (take_out_if rs (keep_if writes (Some t))) row.Ready t (rank t);
  gifts = [];
}

pub at_pipe : (rank : Tid → ℕ) (cs : Conds) (ps : Pipes) (ls : Locks) (rs : Rows) (t : Tid) → (conditions.pull_out cs rs t).left ≡ None → (pipes.pull_out ps rs t).stood ≡ true
    → cancel_wait rank cs ps ls rs t ≡ record {
      conds = cs;
      pipes = (pipes.pull_out ps rs t).pipes;
      locks = ls;
      rows = put_in_row (pipes.pull_out ps rs t).rows row.Ready t (rank t);
      gifts = [];
    }
at_pipe rank cs ps ls rs t e f =
    let alone : wait_of cs t ≡ None = left_none (wait_of cs t) e in
    let writes : is_pipe_row (row_of rs t) ≡ true = sym (stood_there (is_pipe_row (row_of rs t)) t) ∙ f in
    ends_as None false true rank cs ps ls rs t (ap (option_and_then mutex_of) alone) (ap is_some alone) writes ∙ sym (ap (λ (b : Bool). let_go b rank cs ps ls rs t) writes)

-- What a call does to a thread that stands in the row of a pipe or doesn't.
abbrev pulled_pipe : Bool → Pipes → Rows → Tid → LeftPipe
pulled_pipe b ps rs t = record {
  pipes = record { pipes = ps.pipes; writing = writing_without ps.writing (keep_if b (Some t)) };
  rows = take_out_if rs (keep_if b (Some t));
  stood = is_some (keep_if b (Some t));
}

pub no_pipe : (ps : Pipes) (rs : Rows) (t : Tid) → (pipes.pull_out ps rs t).stood ≡ false → pipes.pull_out ps rs t ≡ record { pipes = ps; rows = rs; stood = false }
no_pipe ps rs t f = ap (λ (b : Bool). pulled_pipe b ps rs t) (sym (stood_there (is_pipe_row (row_of rs t)) t) ∙ f)

pub elsewhere : (rank : Tid → ℕ) (cs : Conds) (ps : Pipes) (ls : Locks) (rs : Rows) (t : Tid) → (conditions.pull_out cs rs t).left ≡ None → (pipes.pull_out ps rs t).stood ≡ false
    → cancel_wait rank cs ps ls rs t ≡ record {
      conds = cs;
      pipes = ps;
      locks = ls;
      rows = put_in_row (take_out rs t).rows row.Ready t (rank t);
      gifts = [];
    }
elsewhere rank cs ps ls rs t e f =
    let alone : wait_of cs t ≡ None = left_none (wait_of cs t) e in
    ends_as None false false rank cs ps ls rs t (ap (option_and_then mutex_of) alone) (ap is_some alone) (sym (stood_there (is_pipe_row (row_of rs t)) t) ∙ f)
