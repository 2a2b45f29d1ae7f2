-- Conditions and rows agree on who waits after each call where they did before.
use Rattle.std.proofs.Common.{◌≡◌, ℕ, ℤ, ◌+ℤ◌, Bool, true, false, List, [], ◌∷◌, Option, Some, None, refl, ◌∙◌, ap}
use Rattle.std.specs.Option.{is_some}
use Rattle.thr_values.specs.declared.number.Tid.{Tid}
use Rattle.thr_values.specs.declared.number.NameId.{NameId}
use Rattle.thr_values.specs.declared.reply.Reply.{Reply}
use Rattle.thr_parts.specs.declared.row.RowId.{RowId}
use Rattle.thr_parts.specs.declared.row.RowId.TheVariants as row
use Rattle.thr_parts.specs.declared.wait.Wait.{Wait}
use Rattle.thr_parts.specs.declared.wait.Wait.TheVariants.{Cond, Delay}
use Rattle.thr_parts.specs.Tables.{put_if, keep_if, has, IsCanonical}
use Rattle.thr_parts.specs.Replies.{is_blocks, is_value}
use Rattle.thr_parts.specs.Rows.{Rows, row_of, best_of, number_in, best}
use Rattle.thr_parts.specs.Moves.{take_out, take_out_if, block_if}
use Rattle.thr_parts.specs.Mutexes.{Locks, waiters_row}
use Rattle.thr_parts.specs.Locking.{lock, unlock, give_up, regain}
use Rattle.thr_parts.specs.Conditions.{Conds, cond_init, cond_destroy, wait_of, wait, timedwait, begin_wait, delay, delay_reply}
use Rattle.thr_parts.specs.Waking.{without_wait, some_if, thread_in, mutex_with, next_waiter, take_next, signal, pull_out, resume, wake_all}
use Rattle.thr_parts.specs.Expiry.{due, expire}
use Rattle.thr_parts.specs.Keys.{Onces}
use Rattle.thr_parts.specs.OnceBlocks.{enter, undone}
use Rattle.thr_parts.specs.Pipes.{Pipes, pipe_at, read, write}
use Rattle.thr_parts.specs.Closing.{is_pipe_row, free_if, close_out}
use Rattle.thr_parts.specs.Closing as pipes
use Rattle.thr_parts.specs.CancelledWaits.{cancel_wait}
use Rattle.thr_parts.proofs.MoveLaws.{canonical_block_if}
use Rattle.thr_parts.proofs.PartLaws.{canonical_free_row}
use Rattle.thr_rows.proofs.AgreementLaws.{Agree, from_kept, gone}
use Rattle.thr_rows.proofs.AgreementLaws as rows
use Rattle.thr_rows.proofs.AgreedCalls as calls
use Rattle.thr_conds.specs.Agreement.{waiting_row, if_waiting, WaitsAgree}
use Rattle.thr_conds.proofs.KeepLaws.{wait_rows, are_other, agree_in, agree_of, no_wait, agree_take_out}
use Rattle.thr_conds.proofs.TakingLaws.{next_by, first_by, some_wait, first_waits}

-- ---- made and not made

pub agree_init : (cs : Conds) (rs : Rows) (c : NameId) → WaitsAgree cs rs → WaitsAgree (cond_init cs c).conds rs
agree_init cs rs c h = record { same = h.same }

pub agree_destroy : (cs : Conds) (rs : Rows) (c : NameId) → WaitsAgree cs rs → WaitsAgree (cond_destroy cs c).conds rs
agree_destroy cs rs c h = record { same = h.same }

-- ---- waits that begin

abbrev begun_if : Bool → Conds → Wait → Tid → Conds
begun_if b cs w t = record { made = cs.made; waits = put_if cs.waits t.0 (keep_if b (Some w)) }

agree_begun_if : (b : Bool) (cs : Conds) (rs : Rows) (w : Wait) (t : Tid) (rank : ℕ) → WaitsAgree cs rs → WaitsAgree (begun_if b cs w t) (block_if b rs (waiting_row w) t rank)
agree_begun_if b cs rs w t rank h =
    agree_of (begun_if b cs w t) (block_if b rs (waiting_row w) t rank) (rows.agree_begun_if wait_rows b cs.waits rs w t rank (agree_in cs rs h))

agree_begin : (cs : Conds) (ls : Locks) (rs : Rows) (c m : NameId) (until : Option ℤ) (t : Tid) (rank : ℕ) (said : Reply) → IsCanonical rs.seats → WaitsAgree cs rs
    → WaitsAgree (begin_wait cs ls rs c m until t rank said).conds (begin_wait cs ls rs c m until t rank said).rows
agree_begin cs ls rs c m until t rank said h agrees =
    let begun : Conds = begun_if (is_blocks said) cs (Cond c m until) t in
    let waiting : Rows = block_if (is_blocks said) rs (row.Cond c) t rank in
    agree_of (begin_wait cs ls rs c m until t rank said).conds (begin_wait cs ls rs c m until t rank said).rows
    (rows.agree_take_best wait_rows (is_blocks said) begun.waits waiting (row.Mutex m) (canonical_block_if (is_blocks said) rs (row.Cond c) t rank h)
    (agree_in begun waiting (agree_begun_if (is_blocks said) cs rs (Cond c m until) t rank agrees)) refl)

pub agree_wait : (cs : Conds) (ls : Locks) (rs : Rows) (c m : NameId) (t : Tid) (rank : ℕ) → IsCanonical rs.seats → WaitsAgree cs rs
    → WaitsAgree (wait cs ls rs c m t rank).conds (wait cs ls rs c m t rank).rows
agree_wait cs ls rs c m t rank h agrees = agree_begin cs ls rs c m None t rank (wait cs ls rs c m t rank).reply h agrees

pub agree_timedwait : (cs : Conds) (ls : Locks) (rs : Rows) (c m : NameId) (until now : ℤ) (t : Tid) (rank : ℕ) → IsCanonical rs.seats → WaitsAgree cs rs
    → WaitsAgree (timedwait cs ls rs c m until now t rank).conds (timedwait cs ls rs c m until now t rank).rows
agree_timedwait cs ls rs c m until now t rank h agrees = agree_begin cs ls rs c m (Some until) t rank (timedwait cs ls rs c m until now t rank).reply h agrees

pub agree_delay : (cs : Conds) (rs : Rows) (ticks now : ℤ) (t : Tid) (rank : ℕ) → WaitsAgree cs rs → WaitsAgree (delay cs rs ticks now t rank).conds (delay cs rs ticks now t rank).rows
agree_delay cs rs ticks now t rank agrees = agree_begun_if (is_blocks (delay_reply ticks now)) cs rs (Delay (now +ℤ ticks)) t rank agrees

-- The thread that is given the mutex of a wait that begins has no wait.
begun_given_waits_not : (cs : Conds) (ls : Locks) (rs : Rows) (c m : NameId) (until : Option ℤ) (t : Tid) (rank : ℕ) (said : Reply) (u : Tid) → IsCanonical rs.seats → WaitsAgree cs rs
    → (begin_wait cs ls rs c m until t rank said).given ≡ Some u → wait_of (begin_wait cs ls rs c m until t rank said).conds u ≡ None
begun_given_waits_not cs ls rs c m until t rank said u h agrees e =
    let begun : Conds = begun_if (is_blocks said) cs (Cond c m until) t in
    let waiting : Rows = block_if (is_blocks said) rs (row.Cond c) t rank in
    rows.best_waits_not wait_rows begun.waits waiting (row.Mutex m) u (canonical_block_if (is_blocks said) rs (row.Cond c) t rank h)
    (agree_in begun waiting (agree_begun_if (is_blocks said) cs rs (Cond c m until) t rank agrees)) refl (from_kept (is_blocks said) (best waiting (row.Mutex m)) u e)

pub given_waits_not : (cs : Conds) (ls : Locks) (rs : Rows) (c m : NameId) (t : Tid) (rank : ℕ) (u : Tid) → IsCanonical rs.seats → WaitsAgree cs rs → (wait cs ls rs c m t rank).given ≡ Some u
    → wait_of (wait cs ls rs c m t rank).conds u ≡ None
given_waits_not cs ls rs c m t rank u h agrees e = begun_given_waits_not cs ls rs c m None t rank (wait cs ls rs c m t rank).reply u h agrees e

pub timed_given_waits_not : (cs : Conds) (ls : Locks) (rs : Rows) (c m : NameId) (until now : ℤ) (t : Tid) (rank : ℕ) (u : Tid) → IsCanonical rs.seats → WaitsAgree cs rs
    → (timedwait cs ls rs c m until now t rank).given ≡ Some u → wait_of (timedwait cs ls rs c m until now t rank).conds u ≡ None
timed_given_waits_not cs ls rs c m until now t rank u h agrees e =
    begun_given_waits_not cs ls rs c m (Some until) t rank (timedwait cs ls rs c m until now t rank).reply u h agrees e

-- ---- waits that end

-- A thread that has a wait leaves it, and its row.
agree_taken : (cs : Conds) (rs : Rows) (t : Tid) → WaitsAgree cs rs → is_some (wait_of cs t) ≡ true → WaitsAgree (without_wait cs (Some t)) (take_out_if rs (Some t))
agree_taken cs rs t h is =
    let agrees : Agree wait_rows cs.waits rs = agree_in cs rs h in
    agree_of (without_wait cs (Some t)) (take_out_if rs (Some t)) (rows.agree_left wait_rows cs.waits rs t agrees (rows.waits_in_row wait_rows cs.waits rs t agrees is))

agree_unchanged : (cs : Conds) (rs : Rows) → WaitsAgree cs rs → WaitsAgree (without_wait cs None) (take_out_if rs None)
agree_unchanged cs rs h = record { same = h.same }

pub agree_regain : (cs : Conds) (ls : Locks) (rs : Rows) (m : NameId) (t : Tid) (rank : ℕ) → WaitsAgree cs rs → wait_of cs t ≡ None → WaitsAgree cs (regain ls rs m t rank).rows
agree_regain cs ls rs m t rank h alone = agree_of cs (regain ls rs m t rank).rows (calls.agree_regain wait_rows cs.waits ls rs m t rank are_other (agree_in cs rs h) alone)

pub agree_resume : (rank : Tid → ℕ) (cs : Conds) (ls : Locks) (rs : Rows) (t : Tid) (m : Option NameId) → WaitsAgree cs rs → wait_of cs t ≡ None → WaitsAgree cs (resume rank ls rs t m).rows
agree_resume rank cs ls rs t m h alone = agree_of cs (resume rank ls rs t m).rows (calls.agree_resume wait_rows cs.waits rank ls rs t m are_other (agree_in cs rs h) alone)

agree_out_if : (cs : Conds) (rs : Rows) (t : Tid) (b : Bool) → is_some (wait_of cs t) ≡ b → WaitsAgree cs rs → WaitsAgree (without_wait cs (some_if b t)) (take_out_if rs (some_if b t))
agree_out_if cs rs t true is h = agree_taken cs rs t h is
agree_out_if cs rs t false is h = agree_unchanged cs rs h

pub agree_pull_out : (cs : Conds) (rs : Rows) (t : Tid) → WaitsAgree cs rs → WaitsAgree (pull_out cs rs t).conds (pull_out cs rs t).rows
agree_pull_out cs rs t h = agree_out_if cs rs t (is_some (wait_of cs t)) refl h

nothing : {A : Type 0} (o : Option A) → is_some o ≡ false → o ≡ None
nothing None e = refl
nothing (Some x) e = absurd (cc)

gone_if : (cs : Conds) (t : Tid) (b : Bool) → is_some (wait_of cs t) ≡ b → wait_of (without_wait cs (some_if b t)) t ≡ None
gone_if cs t true is = gone cs.waits t.0
gone_if cs t false is = nothing (wait_of cs t) is

pub pulled_out : (cs : Conds) (rs : Rows) (t : Tid) → wait_of (pull_out cs rs t).conds t ≡ None
pulled_out cs rs t = gone_if cs t (is_some (wait_of cs t)) refl

pub agree_wake_all : (rank : Tid → ℕ) (cs : Conds) (ls : Locks) (rs : Rows) (ts : List Tid) → WaitsAgree cs rs → WaitsAgree (wake_all rank cs ls rs ts).conds (wake_all rank cs ls rs ts).rows
unfolding wake_all
agree_wake_all rank cs ls rs [] h = h
agree_wake_all rank cs ls rs (t ∷ ts) h =
    agree_wake_all rank (pull_out cs rs t).conds (resume rank ls (pull_out cs rs t).rows t (mutex_with cs t)).locks (resume rank ls (pull_out cs rs t).rows t (mutex_with cs t)).rows ts
    (agree_resume rank (pull_out cs rs t).conds ls (pull_out cs rs t).rows t (mutex_with cs t) (agree_pull_out cs rs t h) (pulled_out cs rs t))

-- ---- waiters that are taken

-- The thread that is there has a wait, and leaves it.
agree_taken_if : (cs : Conds) (rs : Rows) (o : Option Tid) → WaitsAgree cs rs → ((t : Tid) → o ≡ Some t → is_some (wait_of cs t) ≡ true) → WaitsAgree (without_wait cs o) (take_out_if rs o)
agree_taken_if cs rs None h waits = agree_unchanged cs rs h
agree_taken_if cs rs (Some t) h waits = agree_taken cs rs t h (waits t refl)

pair_of : {A : Type 0} (o : Option (Tid × A)) (t : Tid) → thread_in o ≡ Some t → (x : A) × (o ≡ Some (t, x))
pair_of None t e = absurd (cc)
pair_of (Some p) t e = (p.1, pair_is p t (cc))
  where
    pair_is : {A : Type 0} (p : Tid × A) (t : Tid) → p.0 ≡ t → Some p ≡ (let o : Option (Tid × A) = Some (t, p.1) in o)
    pair_is {A} p t e = ap (λ (u : Tid). let o : Option (Tid × A) = Some (u, p.1) in o) e

next_waits : (cs : Conds) (rs : Rows) (c : NameId) (t : Tid) → thread_in (next_waiter cs rs c) ≡ Some t → is_some (wait_of cs t) ≡ true
next_waits cs rs c t e =
    let p : (m : NameId) × (next_waiter cs rs c ≡ Some (t, m)) = pair_of (next_waiter cs rs c) t e in
    some_wait (wait_of cs t) p.0 (next_by cs rs c t p.0 (best rs (row.Cond c)) refl p.1).mutex

pub agree_take_next : (cs : Conds) (rs : Rows) (c : NameId) → WaitsAgree cs rs → WaitsAgree (take_next cs rs c).conds (take_next cs rs c).rows
agree_take_next cs rs c h = agree_taken_if cs rs (thread_in (next_waiter cs rs c)) h (next_waits cs rs c)

kept_thread : {A : Type 0} (b : Bool) (o : Option (Tid × A)) (t : Tid) → thread_in (keep_if b o) ≡ Some t → thread_in o ≡ Some t
kept_thread true o t e = e
kept_thread false o t e = absurd (cc)

pub agree_signal : (cs : Conds) (rs : Rows) (c : NameId) → WaitsAgree cs rs → WaitsAgree (signal cs rs c).conds (signal cs rs c).rows
agree_signal cs rs c h =
    agree_taken_if cs rs (thread_in (keep_if (has cs.made c.0) (next_waiter cs rs c))) h (λ t e. next_waits cs rs c t (kept_thread (has cs.made c.0) (next_waiter cs rs c) t e))

pub agree_expire : (cs : Conds) (rs : Rows) (now : ℤ) → IsCanonical rs.seats → WaitsAgree cs rs → WaitsAgree (expire cs rs now).conds (expire cs rs now).rows
agree_expire cs rs now h agrees =
    agree_taken_if cs rs (number_in (best_of (due cs rs now))) agrees (λ t e. first_waits cs rs now t (best_of (due cs rs now)) h refl e)

-- The one that was taken waits no more.
pub taken_next_waits_not : (cs : Conds) (rs : Rows) (c : NameId) (t : Tid) (m : NameId) → (take_next cs rs c).waiter ≡ Some (t, m) → wait_of (take_next cs rs c).conds t ≡ None
taken_next_waits_not cs rs c t m e = ap (λ (o : Option (Tid × NameId)). wait_of (without_wait cs (thread_in o)) t) e ∙ gone cs.waits t.0

pub signalled_waits_not : (cs : Conds) (rs : Rows) (c : NameId) (t : Tid) (m : NameId) → (signal cs rs c).waiter ≡ Some (t, m) → wait_of (signal cs rs c).conds t ≡ None
signalled_waits_not cs rs c t m e = ap (λ (o : Option (Tid × NameId)). wait_of (without_wait cs (thread_in o)) t) e ∙ gone cs.waits t.0

pub expired_waits_not : (cs : Conds) (rs : Rows) (now : ℤ) (t : Tid) (m : Option NameId) → (expire cs rs now).who ≡ Some (t, m) → wait_of (expire cs rs now).conds t ≡ None
expired_waits_not cs rs now t m e =
    ap (λ (o : Option Tid). wait_of (without_wait cs o) t) (first_by cs rs now t m (number_in (best_of (due cs rs now))) refl e).best ∙ gone cs.waits t.0

-- ---- calls on other objects

pub agree_lock : (cs : Conds) (ls : Locks) (rs : Rows) (m : Option NameId) (t : Tid) (rank : ℕ) → WaitsAgree cs rs → wait_of cs t ≡ None → WaitsAgree cs (lock ls rs m t rank).rows
agree_lock cs ls rs m t rank h alone = agree_of cs (lock ls rs m t rank).rows (calls.agree_lock wait_rows cs.waits ls rs m t rank are_other (agree_in cs rs h) alone)

pub agree_unlock : (cs : Conds) (ls : Locks) (rs : Rows) (m : Option NameId) (t : Tid) → IsCanonical rs.seats → WaitsAgree cs rs → WaitsAgree cs (unlock ls rs m t).rows
agree_unlock cs ls rs m t h agrees = agree_of cs (unlock ls rs m t).rows (calls.agree_unlock wait_rows cs.waits ls rs m t are_other h (agree_in cs rs agrees))

pub agree_give_up : (cs : Conds) (ls : Locks) (rs : Rows) (m : Option NameId) → IsCanonical rs.seats → WaitsAgree cs rs → WaitsAgree cs (give_up ls rs m).rows
agree_give_up cs ls rs m h agrees = agree_of cs (give_up ls rs m).rows (rows.agree_take_best wait_rows true cs.waits rs (waiters_row m) h (agree_in cs rs agrees) (are_other.lock m))

pub agree_enter : (cs : Conds) (os : Onces) (rs : Rows) (o : NameId) (t : Tid) (rank : ℕ) → WaitsAgree cs rs → wait_of cs t ≡ None → WaitsAgree cs (enter os rs o t rank).rows
agree_enter cs os rs o t rank h alone = agree_of cs (enter os rs o t rank).rows (calls.agree_enter wait_rows cs.waits os rs o t rank are_other (agree_in cs rs h) alone)

pub agree_undone : (cs : Conds) (os : Onces) (rs : Rows) (o : NameId) → IsCanonical rs.seats → WaitsAgree cs rs → WaitsAgree cs (undone os rs o).rows
agree_undone cs os rs o h agrees = agree_of cs (undone os rs o).rows (calls.agree_undone wait_rows cs.waits os rs o are_other h (agree_in cs rs agrees))

pub agree_read : (cs : Conds) (ps : Pipes) (rs : Rows) (p : NameId) (t : Tid) (rank : ℕ) → IsCanonical rs.seats → WaitsAgree cs rs → wait_of cs t ≡ None → WaitsAgree cs (read ps rs p t rank).rows
agree_read cs ps rs p t rank h agrees alone =
    let said : Reply = (read ps rs p t rank).reply in
    let before : Agree wait_rows cs.waits rs = agree_in cs rs agrees in
    agree_of cs (read ps rs p t rank).rows
    (rows.agree_take_out_if wait_rows cs.waits (block_if (is_blocks said) rs (row.Reader p) t rank) (read ps rs p t rank).relieved
    (rows.agree_block_if wait_rows (is_blocks said) cs.waits rs (row.Reader p) t rank before alone refl)
    (λ u e. rows.best_waits_not wait_rows cs.waits rs (row.Writer p) u h before refl (from_kept (is_value said) (best rs (row.Writer p)) u e)))

pub agree_write : (cs : Conds) (ps : Pipes) (rs : Rows) (p : NameId) (v : ℤ) (t : Tid) (rank : ℕ) → IsCanonical rs.seats → WaitsAgree cs rs → wait_of cs t ≡ None
    → WaitsAgree cs (write ps rs p v t rank).rows
agree_write cs ps rs p v t rank h agrees alone =
    agree_of cs (write ps rs p v t rank).rows
    (rows.agree_block_if wait_rows (is_blocks (write ps rs p v t rank).reply) cs.waits (take_out_if rs (write ps rs p v t rank).reader) (row.Writer p) t rank
    (rows.agree_take_best wait_rows (pipe_at ps p).is_open cs.waits rs (row.Reader p) h (agree_in cs rs agrees) refl) alone refl)

canonical_free_if : (b : Bool) (rank : Tid → ℕ) (rs : Rows) (r : RowId) → IsCanonical rs.seats → IsCanonical (free_if b rank rs r).rows.seats
canonical_free_if true rank rs r h = canonical_free_row rank rs r h
canonical_free_if false rank rs r h = h

pub agree_close_out : (rank : Tid → ℕ) (cs : Conds) (ps : Pipes) (rs : Rows) (p : NameId) → IsCanonical rs.seats → WaitsAgree cs rs → WaitsAgree cs (close_out rank ps rs p).rows
agree_close_out rank cs ps rs p h agrees =
    let opened : Bool = (pipe_at ps p).is_open in
    agree_of cs (close_out rank ps rs p).rows
    (rows.agree_free_if wait_rows opened rank cs.waits (free_if opened rank rs (row.Reader p)).rows (row.Writer p) (canonical_free_if opened rank rs (row.Reader p) h)
    (rows.agree_free_if wait_rows opened rank cs.waits rs (row.Reader p) h (agree_in cs rs agrees) refl) refl)

in_pipe_row : (r : Option RowId) → is_pipe_row r ≡ true → if_waiting r ≡ None
in_pipe_row None e = refl
in_pipe_row (Some row.Ready) e = refl
in_pipe_row (Some (row.Mutex m)) e = refl
in_pipe_row (Some row.Global) e = refl
in_pipe_row (Some (row.Cond c)) e = absurd (cc)
in_pipe_row (Some (row.Join t)) e = refl
in_pipe_row (Some (row.Once o)) e = refl
in_pipe_row (Some (row.Reader p)) e = refl
in_pipe_row (Some (row.Writer p)) e = refl
in_pipe_row (Some row.Time) e = absurd (cc)

out_of_pipe_if : (cs : Conds) (rs : Rows) (t : Tid) (b : Bool) → is_pipe_row (row_of rs t) ≡ b → WaitsAgree cs rs → WaitsAgree cs (take_out_if rs (keep_if b (Some t)))
out_of_pipe_if cs rs t true is h =
    let after : WaitsAgree cs (take_out rs t).rows = agree_take_out cs rs t h (no_wait cs rs t h (in_pipe_row (row_of rs t) is)) in record { same = after.same }
out_of_pipe_if cs rs t false is h = record { same = h.same }

pub agree_out_of_pipe : (cs : Conds) (ps : Pipes) (rs : Rows) (t : Tid) → WaitsAgree cs rs → WaitsAgree cs (pipes.pull_out ps rs t).rows
agree_out_of_pipe cs ps rs t h = out_of_pipe_if cs rs t (is_pipe_row (row_of rs t)) refl h

agree_cancelled : (cs : Conds) (rs : Rows) (t : Tid) (b : Bool) → is_some (wait_of cs t) ≡ b → WaitsAgree cs rs → WaitsAgree (without_wait cs (some_if b t)) (take_out rs t).rows
agree_cancelled cs rs t true is h = agree_taken cs rs t h is
agree_cancelled cs rs t false is h =
    agree_of (without_wait cs None) (take_out rs t).rows (rows.agree_take_out wait_rows cs.waits rs t (agree_in cs rs h) (nothing (wait_of cs t) is))

pub agree_cancel_wait : (rank : Tid → ℕ) (cs : Conds) (ps : Pipes) (ls : Locks) (rs : Rows) (t : Tid) → WaitsAgree cs rs
    → WaitsAgree (cancel_wait rank cs ps ls rs t).conds (cancel_wait rank cs ps ls rs t).rows
agree_cancel_wait rank cs ps ls rs t h =
    agree_resume rank (pull_out cs rs t).conds ls (take_out rs t).rows t (mutex_with cs t) (agree_cancelled cs rs t (is_some (wait_of cs t)) refl h) (pulled_out cs rs t)
