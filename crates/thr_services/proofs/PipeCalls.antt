-- Reads and writes.
use Rattle.std.proofs.Common.{◌≡◌, ℕ, ℤ, ◌+◌, ◌^◌, ◌<◌, Bool, true, false, not, ◌||◌, cond, [], Option, Some, None, IfSome, refl, sym, ◌∙◌, ap}
use Rattle.thr_values.specs.declared.number.Tid.{Tid}
use Rattle.thr_values.specs.declared.number.NameId.{NameId}
use Rattle.thr_values.specs.declared.reply.Reply.{Reply}
use Rattle.thr_values.specs.declared.reply.Reply.TheVariants as reply
use Rattle.thr_parts.specs.declared.row.RowId.TheVariants as row
use Rattle.thr_parts.specs.Tables.{Table, keep_if}
use Rattle.thr_parts.specs.Replies.{is_blocks, is_value}
use Rattle.thr_parts.specs.Rows.{Rows, best}
use Rattle.thr_parts.specs.Moves.{take_out_if, block_if}
use Rattle.thr_parts.specs.Threads.{rank_at}
use Rattle.thr_parts.specs.Pipes.{Pipe, Pipes, ReadReply, WriteReply, pipe_at, read_reply, write_reply, has_room, read, write}
use Rattle.thr_model.specs.States.{State, rank_of}
use Rattle.thr_model.specs.Calls.{Answered, reads, writes}
use Rattle.thr_services.specs.declared.answer.Answer.{Answer}
use Rattle.thr_services.specs.declared.debt.Debt.{Debt}
use Rattle.thr_services.specs.declared.debt.Debt.TheVariants as debt
use Rattle.thr_services.specs.Views.{ServicesView, state_with}
use Rattle.thr_services.specs.Ready.{rows_given, debts_woken, CanBeReady}
use Rattle.thr_services.specs.Answers.{plain, Answers}
use Rattle.thr_services.proofs.SeatLaws.{taken_can, kept_true, not_blocked}
use Rattle.thr_services.proofs.GivenLaws.{HasPlaces, as_answered, woken_is, placed}

value_waits_not : (y : Reply) → is_value y ≡ true → is_blocks y ≡ false
value_waits_not (reply.Value n) e = refl
value_waits_not reply.Blocks e = absurd (cc)
value_waits_not _ e = refl

-- The writer whose item enters can be ready.
pub read_can : (v : ServicesView) (p : NameId) (t : Tid) (rank : ℕ) (y : Reply) (ps : Pipes) (rs : Rows) (g : Option Tid)
    → (let o : ReadReply = record { reply = y; pipes = ps; rows = rs; relieved = g } in o) ≡ read v.pipes v.rows p t rank
    → HasPlaces v → v.rows.next_arrival + 1 < 2 ^ 64 → IfSome g (CanBeReady rs v.debts)
read_can v p t rank y ps rs None e h arrival = tt
read_can v p t rank y ps rs (Some w) e h arrival =
    let said : Reply = read_reply (pipe_at v.pipes p).items (pipe_at v.pipes p).is_open in
    let writer : Option Tid = keep_if (is_value said) (best v.rows (row.Writer p)) in
    let given : Some w ≡ writer = ap (λ (o : ReadReply). o.relieved) e in
    let left : rs ≡ take_out_if (block_if (is_blocks said) v.rows (row.Reader p) t rank) writer = ap (λ (o : ReadReply). o.rows) e in
    taken_can v.debts v.rows rs (row.Writer p) (is_value said) (Some w) given
    (left ∙ ap (λ (x : Rows). take_out_if x writer) (not_blocked (is_blocks said) v.rows (row.Reader p) t rank (value_waits_not said (kept_true (is_value said) (best v.rows (row.Writer p)) w given)))
    ∙ ap (take_out_if v.rows) (sym given)) h.seats h.debts h.owers h.within arrival

pub read_is : (old w : ServicesView) (p : NameId) (t : Tid) (rank : ℕ) (y : Reply) (ps : Pipes) (rs rs' : Rows) (debts' : Table Debt) (g : Option Tid) (a : Answer)
    → rank ≡ rank_at old.threads t → (let o : ReadReply = record { reply = y; pipes = ps; rows = rs; relieved = g } in o) ≡ read old.pipes old.rows p t rank
    → rs' ≡ rows_given (rank_at old.threads) rs g → debts' ≡ debts_woken old.debts (debt.Return reply.Done) g → old ≡ w → a ≡ plain y
    → Answers w (record old { pipes = ps; rows = rs'; debts = debts' }) a [] (λ s st. reads st (read st.pipes st.rows p t (rank_of st t)))
read_is old w p t rank y ps rs rs' debts' g a ranked e rows debts same answer =
    as_answered (λ s st. reads st (read st.pipes st.rows p t (rank_of st t))) old w (record old { pipes = ps; rows = rs'; debts = debts' }) (plain y) a [] [] [] (λ s remainders shared.
    sym (ap (reads (state_with old remainders shared)) (e ∙ ap (read old.pipes old.rows p t) ranked))
    ∙ ap (λ (st : State). let o : Answered = record { reply = y; state = st; gifts = []; runs = false } in o)
    (woken_is (record old { pipes = ps }) remainders shared rs reply.Done g ∙ placed (record old { pipes = ps }) remainders shared _ rs' _ debts' rows debts))
    (record { same = same; answer = answer; gifts = refl; nothing = refl })

handed_by : (b full : Bool) → is_blocks (cond (not b) reply.Epipe (cond (true || full) reply.Done reply.Blocks)) ≡ false
handed_by true full = refl
handed_by false full = refl

-- The reader that is given the item can be ready.
pub write_can : (v : ServicesView) (p : NameId) (n : ℤ) (t : Tid) (rank : ℕ) (y : Reply) (ps : Pipes) (rs : Rows) (g : Option Tid)
    → (let o : WriteReply = record { reply = y; pipes = ps; rows = rs; reader = g } in o) ≡ write v.pipes v.rows p n t rank
    → HasPlaces v → v.rows.next_arrival + 1 < 2 ^ 64 → IfSome g (CanBeReady rs v.debts)
write_can v p n t rank y ps rs None e h arrival = tt
write_can v p n t rank y ps rs (Some w) e h arrival =
    let x : Pipe = pipe_at v.pipes p in
    let reader : Option Tid = keep_if x.is_open (best v.rows (row.Reader p)) in
    let given : Some w ≡ reader = ap (λ (o : WriteReply). o.reader) e in
    let left : rs ≡ block_if (is_blocks (write_reply x reader)) (take_out_if v.rows reader) (row.Writer p) t rank = ap (λ (o : WriteReply). o.rows) e in
    let said : is_blocks (write_reply x reader) ≡ false = ap (λ (o : Option Tid). is_blocks (write_reply x o)) (sym given) ∙ handed_by x.is_open (has_room x) in
    taken_can v.debts v.rows rs (row.Reader p) x.is_open (Some w) given
    (left ∙ not_blocked (is_blocks (write_reply x reader)) (take_out_if v.rows reader) (row.Writer p) t rank said ∙ ap (take_out_if v.rows) (sym given)) h.seats h.debts h.owers h.within arrival

pub write_is : (old w : ServicesView) (p : NameId) (n : ℤ) (t : Tid) (rank : ℕ) (y : Reply) (ps : Pipes) (rs rs' : Rows) (debts' : Table Debt) (g : Option Tid) (a : Answer)
    → rank ≡ rank_at old.threads t → (let o : WriteReply = record { reply = y; pipes = ps; rows = rs; reader = g } in o) ≡ write old.pipes old.rows p n t rank
    → rs' ≡ rows_given (rank_at old.threads) rs g → debts' ≡ debts_woken old.debts (debt.Return (reply.Value n)) g → old ≡ w → a ≡ plain y
    → Answers w (record old { pipes = ps; rows = rs'; debts = debts' }) a [] (λ s st. writes st n (write st.pipes st.rows p n t (rank_of st t)))
write_is old w p n t rank y ps rs rs' debts' g a ranked e rows debts same answer =
    as_answered (λ s st. writes st n (write st.pipes st.rows p n t (rank_of st t))) old w (record old { pipes = ps; rows = rs'; debts = debts' }) (plain y) a [] [] [] (λ s remainders shared.
    sym (ap (writes (state_with old remainders shared) n) (e ∙ ap (write old.pipes old.rows p n t) ranked))
    ∙ ap (λ (st : State). let o : Answered = record { reply = y; state = st; gifts = []; runs = false } in o)
    (woken_is (record old { pipes = ps }) remainders shared rs (reply.Value n) g ∙ placed (record old { pipes = ps }) remainders shared _ rs' _ debts' rows debts))
    (record { same = same; answer = answer; gifts = refl; nothing = refl })
