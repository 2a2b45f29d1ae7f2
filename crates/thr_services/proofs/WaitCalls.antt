-- Waits on conditions that begin.
use Rattle.std.proofs.Common.{◌≡◌, ℕ, ℤ, ◌+◌, ◌^◌, ◌<◌, Option, Some, IfSome, true, false, sym, ◌∙◌, ap}
use Rattle.thr_values.specs.declared.number.Tid.{Tid}
use Rattle.thr_values.specs.declared.number.NameId.{NameId}
use Rattle.thr_values.specs.declared.reply.Reply.{Reply}
use Rattle.thr_parts.specs.declared.row.RowId.TheVariants as row
use Rattle.thr_remainder.specs.Remainders.{Remainder}
use Rattle.thr_parts.specs.Tables.{Table}
use Rattle.thr_parts.specs.Replies.{is_blocks}
use Rattle.thr_parts.specs.Rows.{Rows, has_room}
use Rattle.thr_parts.specs.Moves.{take_out_if, block_if}
use Rattle.thr_parts.specs.Threads.{rank_at}
use Rattle.thr_parts.specs.Mutexes.{Locks}
use Rattle.thr_parts.specs.Conditions.{Conds, Waited, begin_wait}
use Rattle.thr_parts.proofs.MoveLaws.{canonical_block_if}
use Rattle.thr_model.specs.States.{State}
use Rattle.thr_model.specs.Calls.{Gifts, Answered, gifts_of, waits}
use Rattle.thr_services.specs.declared.answer.Answer.{Answer}
use Rattle.thr_services.specs.declared.debt.Debt.{Debt}
use Rattle.thr_services.specs.Views.{ServicesView, state_with}
use Rattle.thr_services.specs.Ready.{rows_given, debts_given, CanBeReady}
use Rattle.thr_services.specs.Answers.{plain, Answers}
use Rattle.thr_services.proofs.SeatLaws.{taken_can, owers_blocked, within_blocked, arrival_blocked}
use Rattle.thr_services.proofs.GivenLaws.{HasPlaces, IsAnswer, as_answered, given_is, placed}

-- The next owner of the mutex can be ready.
pub wait_can : (v : ServicesView) (c m : NameId) (until : Option ℤ) (t : Tid) (rank : ℕ) (said y : Reply) (cs : Conds) (ls : Locks) (rs : Rows) (g : Option Tid)
    → (let o : Waited = record { reply = y; conds = cs; locks = ls; rows = rs; given = g } in o) ≡ begin_wait v.conds v.locks v.rows c m until t rank said
    → HasPlaces v → has_room v.rows t ≡ true → v.rows.next_arrival + 2 < 2 ^ 64 → IfSome g (CanBeReady rs v.debts)
wait_can v c m until t rank said y cs ls rs g e h room arrival =
    let waiting : Rows = block_if (is_blocks said) v.rows (row.Cond c) t rank in
    let given : g ≡ _ = ap (λ (o : Waited). o.given) e in
    taken_can v.debts waiting rs (row.Mutex m) (is_blocks said) g given (ap (λ (o : Waited). o.rows) e ∙ ap (take_out_if waiting) (sym given))
    (canonical_block_if (is_blocks said) v.rows (row.Cond c) t rank h.seats) h.debts (owers_blocked v.debts (is_blocks said) v.rows (row.Cond c) t rank h.owers)
    (within_blocked (is_blocks said) v.rows (row.Cond c) t rank room h.seats h.within) (arrival_blocked (is_blocks said) v.rows (row.Cond c) t rank arrival)

-- A wait, by what it does to a state.
pub wait_is : (old w : ServicesView) (m : NameId) (does : State → Waited) (y : Reply) (cs : Conds) (ls : Locks) (rs rs' : Rows) (debts' : Table Debt) (g : Option Tid) (a : Answer) (before after : Gifts)
    → ((remainders : Table Remainder) (shared : Table ℤ) → (let o : Waited = record { reply = y; conds = cs; locks = ls; rows = rs; given = g } in o) ≡ does (state_with old remainders shared))
    → rs' ≡ rows_given (rank_at old.threads) rs g → debts' ≡ debts_given old.debts g → IsAnswer old w a before after (plain y) (gifts_of g (Some m))
    → Answers w (record old { conds = cs; locks = ls; rows = rs'; debts = debts' }) a after (λ s st. waits st m (does st))
wait_is old w m does y cs ls rs rs' debts' g a before after e rows debts h =
    as_answered (λ s st. waits st m (does st)) old w (record old { conds = cs; locks = ls; rows = rs'; debts = debts' }) (plain y) a before after (gifts_of g (Some m)) (λ s remainders shared.
    sym (ap (waits (state_with old remainders shared) m) (e remainders shared))
    ∙ ap (λ (st : State). let o : Answered = record { reply = y; state = st; gifts = gifts_of g (Some m); runs = false } in o)
    (given_is (record old { conds = cs; locks = ls }) remainders shared rs g ∙ placed (record old { conds = cs; locks = ls }) remainders shared _ rs' _ debts' rows debts)) h
