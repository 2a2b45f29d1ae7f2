-- Pipes that are closed with their waiters.
use Rattle.std.proofs.Common.{◌≡◌, true, false, [], refl, sym, ◌∙◌, ap}
use Rattle.thr_values.specs.declared.number.NameId.{NameId}
use Rattle.thr_values.specs.declared.reply.Reply.{Reply}
use Rattle.thr_values.specs.declared.reply.Reply.TheVariants as reply
use Rattle.thr_parts.specs.declared.row.RowId.TheVariants as row
use Rattle.thr_parts.specs.Tables.{Table}
use Rattle.thr_parts.specs.Replies.{is_done}
use Rattle.thr_parts.specs.Rows.{Rows}
use Rattle.thr_parts.specs.Moves.{Freed, free_row}
use Rattle.thr_parts.specs.Threads.{rank_at}
use Rattle.thr_parts.specs.Pipes.{Pipes}
use Rattle.thr_parts.specs.Closing.{PipesReply, Closed, close, close_out}
use Rattle.thr_pipes.proofs.ClosingLaws.{closed_then_freed}
use Rattle.thr_model.specs.States.{State, rank_of, all_owe}
use Rattle.thr_model.specs.States as states
use Rattle.thr_model.specs.Calls.{Answered, closes}
use Rattle.thr_services.specs.declared.answer.Answer.{Answer}
use Rattle.thr_services.specs.declared.debt.Debt.{Debt}
use Rattle.thr_services.specs.declared.debt.Debt.TheVariants as debt
use Rattle.thr_services.specs.Views.{ServicesView, all_owed, state_with}
use Rattle.thr_services.specs.Ready.{debts_all}
use Rattle.thr_services.specs.Answers.{plain, Answers}
use Rattle.thr_services.proofs.DebtLaws.{all_owe_is}
use Rattle.thr_services.proofs.GivenLaws.{as_answered}

abbrev closed_with : Reply → Pipes → Freed → Freed → Closed
closed_with y ps readers writers = record { reply = y; pipes = ps; rows = writers.rows; readers = readers.woken; writers = writers.woken }

-- What is freed after the pipe is closed.
pub record HasFreed (old : ServicesView) (p : NameId) (rs new : Rows) (owed debts' : Table Debt) : Type 0 where
  pub readers : rs ≡ (free_row (rank_at old.threads) old.rows (row.Reader p)).rows
  pub eof : owed ≡ debts_all old.debts (debt.Return reply.Eof) (free_row (rank_at old.threads) old.rows (row.Reader p)).woken
  pub writers : new ≡ (free_row (rank_at old.threads) rs (row.Writer p)).rows
  pub epipe : debts' ≡ debts_all owed (debt.Return reply.Epipe) (free_row (rank_at old.threads) rs (row.Writer p)).woken

owed_is : (old : ServicesView) (p : NameId) (rs new : Rows) (owed debts' : Table Debt) → HasFreed old p rs new owed debts'
    → all_owe (all_owe (all_owed old.debts) (states.Return reply.Eof) (free_row (rank_at old.threads) old.rows (row.Reader p)).woken) (states.Return reply.Epipe) (free_row (rank_at old.threads) rs (row.Writer p)).woken
    ≡ all_owed debts'
owed_is old p rs new owed debts' h =
    ap (λ (m : Table states.Debt). all_owe m (states.Return reply.Epipe) (free_row (rank_at old.threads) rs (row.Writer p)).woken)
    (all_owe_is old.debts (debt.Return reply.Eof) (free_row (rank_at old.threads) old.rows (row.Reader p)).woken ∙ ap all_owed (sym h.eof))
    ∙ all_owe_is owed (debt.Return reply.Epipe) (free_row (rank_at old.threads) rs (row.Writer p)).woken ∙ ap all_owed (sym h.epipe)

pub close_is : (old w : ServicesView) (p : NameId) (y : Reply) (ps : Pipes) (rs new : Rows) (owed debts' : Table Debt) (a : Answer)
    → (let o : PipesReply = record { reply = y; pipes = ps } in o) ≡ close old.pipes p → is_done y ≡ true → HasFreed old p rs new owed debts' → old ≡ w → a ≡ plain y
    → Answers w (record old { pipes = ps; rows = new; debts = debts' }) a [] (λ s st. closes st (close_out (rank_of st) st.pipes st.rows p))
close_is old w p y ps rs new owed debts' a e is h same answer =
    let readers : Freed = free_row (rank_at old.threads) old.rows (row.Reader p) in
    let done : is_done (close old.pipes p).reply ≡ true = sym (ap (λ (o : PipesReply). is_done o.reply) e) ∙ is in
    let said : close_out (rank_at old.threads) old.pipes old.rows p ≡ closed_with y ps readers (free_row (rank_at old.threads) rs (row.Writer p)) =
    closed_then_freed (rank_at old.threads) old.pipes old.rows p done
    ∙ sym (ap (λ (o : PipesReply). closed_with o.reply o.pipes readers (free_row (rank_at old.threads) readers.rows (row.Writer p))) e)
    ∙ ap (λ (x : Rows). closed_with y ps readers (free_row (rank_at old.threads) x (row.Writer p))) (sym h.readers) in
    as_answered (λ s st. closes st (close_out (rank_of st) st.pipes st.rows p)) old w (record old { pipes = ps; rows = new; debts = debts' }) (plain y) a [] [] [] (λ s remainders shared.
    ap (closes (state_with old remainders shared)) said
    ∙ ap (λ (d : Table states.Debt). let o : Answered = record { reply = y; state = record (state_with old remainders shared) { pipes = ps; rows = (free_row (rank_at old.threads) rs (row.Writer p)).rows; debts = d }; gifts = []; runs = false } in o)
    (owed_is old p rs new owed debts' h)
    ∙ ap (λ (x : Rows). let o : Answered = record { reply = y; state = record (state_with old remainders shared) { pipes = ps; rows = x; debts = all_owed debts' }; gifts = []; runs = false } in o) (sym h.writers))
    (record { same = same; answer = answer; gifts = refl; nothing = refl })
