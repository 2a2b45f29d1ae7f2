-- The state where threads were given a mutex or woken.
use Rattle.std.proofs.Common.{◌≡◌, ℤ, [], ◌++◌, Option, Some, None, IfSome, ◌+◌, ◌^◌, ◌<◌, ◌≤◌, length, ◌&&◌, false, refl, sym, ◌∙◌, ap, subst}
use Rattle.thr_values.specs.declared.number.Tid.{Tid}
use Rattle.thr_values.specs.declared.number.NameId.{NameId}
use Rattle.thr_values.specs.declared.reply.Reply.{Reply}
use Rattle.thr_values.specs.declared.reply.Reply.TheVariants as reply
use Rattle.thr_syntax.specs.declared.tree.Script.{Script}
use Rattle.thr_remainder.specs.Remainders.{Remainder}
use Rattle.thr_parts.specs.Tables.{Table, IsCanonical}
use Rattle.thr_parts.specs.Rows.{Rows, most}
use Rattle.thr_parts.specs.Moves.{make_ready, take_out_if}
use Rattle.thr_parts.specs.Threads.{rank_at}
use Rattle.thr_parts.specs.Mutexes.{Locks}
use Rattle.thr_parts.specs.Mutexes.{mutex_at, waiters_row, owner}
use Rattle.thr_parts.specs.Replies.{is_done}
use Rattle.thr_parts.specs.Locking.{Unlocked, unlock, unlock_reply, is_last}
use Rattle.thr_model.specs.States.{State}
use Rattle.thr_model.specs.States as states
use Rattle.thr_model.specs.Calls.{Gifts, Answered, given_state, woken_state, gifts_of, unlocks}
use Rattle.thr_services.specs.declared.answer.Answer.{Answer}
use Rattle.thr_services.specs.declared.debt.Debt.{Debt}
use Rattle.thr_services.specs.declared.debt.Debt.TheVariants as debt
use Rattle.thr_services.specs.Views.{ServicesView, state_with}
use Rattle.thr_services.specs.Ready.{rows_given, debts_given, debts_woken, OwersStand, CanBeReady}
use Rattle.thr_services.specs.Answers.{plain, Answers}
use Rattle.thr_services.proofs.DebtLaws.{put_owed, keep_owed}
use Rattle.thr_services.proofs.SeatLaws.{taken_can}

-- The service where these rows and debts are.
abbrev pub with_ready : ServicesView → Rows → Table Debt → ServicesView
with_ready v rs debts = record v { rows = rs; debts = debts }

pub given_is : (v : ServicesView) (remainders : Table Remainder) (shared : Table ℤ) (rs : Rows) (g : Option Tid)
    → given_state (state_with v remainders shared) rs g
    ≡ state_with (with_ready v (rows_given (rank_at v.threads) rs g) (debts_given v.debts g)) remainders shared
given_is v remainders shared rs None = refl
given_is v remainders shared rs (Some t) =
    ap (λ (debts : Table states.Debt). record (state_with v remainders shared) { rows = make_ready (rank_at v.threads) rs t; debts = debts }) (keep_owed v.debts (debt.Return reply.Done) t)

pub woken_is : (v : ServicesView) (remainders : Table Remainder) (shared : Table ℤ) (rs : Rows) (y : Reply) (g : Option Tid)
    → woken_state (state_with v remainders shared) rs y g
    ≡ state_with (with_ready v (rows_given (rank_at v.threads) rs g) (debts_woken v.debts (debt.Return y) g)) remainders shared
woken_is v remainders shared rs y None = refl
woken_is v remainders shared rs y (Some t) =
    ap (λ (debts : Table states.Debt). record (state_with v remainders shared) { rows = make_ready (rank_at v.threads) rs t; debts = debts }) (put_owed v.debts t.0 (debt.Return y))

-- The answer is this reply, of the service that is this one, and this is what was given where nothing was before.
pub record IsAnswer (old w : ServicesView) (a : Answer) (before after : Gifts) (p : Answer) (given : Gifts) : Type 0 where
  pub same : old ≡ w
  pub answer : a ≡ p
  pub gifts : after ≡ before ++ given
  pub nothing : before ≡ []

pub as_answered : (word : Script → State → Answered) (old w new : ServicesView) (p a : Answer) (before after given : Gifts) → Answers old new p given word → IsAnswer old w a before after p given
    → Answers w new a after word
as_answered word old w new p a before after given h is =
    subst (λ (v : ServicesView). Answers v new a after word) is.same
    (subst (λ (x : Answer). Answers old new x after word) (sym is.answer) (subst (λ (l : Gifts). Answers old new p l word) (sym (is.gifts ∙ ap (λ (l : Gifts). l ++ given) is.nothing)) h))

-- An unlock.
unlock_as : (old : ServicesView) (m : Option NameId) (t : Tid) (y : Reply) (ls : Locks) (rs rs' : Rows) (debts' : Table Debt) (g : Option Tid)
    → (let o : Unlocked = record { reply = y; locks = ls; rows = rs; given = g } in o) ≡ unlock old.locks old.rows m t
    → rs' ≡ rows_given (rank_at old.threads) rs g → debts' ≡ debts_given old.debts g
    → Answers old (record old { locks = ls; rows = rs'; debts = debts' }) (plain y) (gifts_of g m) (λ s st. unlocks st m (unlock st.locks st.rows m t))
unlock_as old m t y ls rs rs' debts' g e rows debts s remainders shared =
    sym (ap (unlocks (state_with old remainders shared) m) e)
    ∙ ap (λ (st : State). let o : Answered = record { reply = y; state = st; gifts = gifts_of g m; runs = false } in o)
    (given_is (record old { locks = ls }) remainders shared rs g
    ∙ ap (λ (v : ServicesView). state_with v remainders shared) (ap (with_ready (record old { locks = ls }) _) (sym debts) ∙ ap (λ (x : Rows). with_ready (record old { locks = ls }) x debts') (sym rows)))

pub unlock_is : (old w : ServicesView) (m : Option NameId) (t : Tid) (y : Reply) (ls : Locks) (rs rs' : Rows) (debts' : Table Debt) (g : Option Tid) (a : Answer) (before after : Gifts)
    → (let o : Unlocked = record { reply = y; locks = ls; rows = rs; given = g } in o) ≡ unlock old.locks old.rows m t
    → rs' ≡ rows_given (rank_at old.threads) rs g → debts' ≡ debts_given old.debts g → IsAnswer old w a before after (plain y) (gifts_of g m)
    → Answers w (record old { locks = ls; rows = rs'; debts = debts' }) a after (λ s st. unlocks st m (unlock st.locks st.rows m t))
unlock_is old w m t y ls rs rs' debts' g a before after e rows debts h =
    as_answered (λ s st. unlocks st m (unlock st.locks st.rows m t)) old w (record old { locks = ls; rows = rs'; debts = debts' }) (plain y) a before after (gifts_of g m) (unlock_as old m t y ls rs rs' debts' g e rows debts) h

-- What asks that threads can become ready: the seats and debts rise, there is room, and those that owe something stand.
pub record HasPlaces (v : ServicesView) : Type 0 where
  pub seats : IsCanonical v.rows.seats
  pub debts : IsCanonical v.debts
  pub within : length v.rows.seats ≤ most
  pub owers : OwersStand v.debts v.rows

-- The next owner of a mutex can be ready.
pub unlock_can : (v : ServicesView) (m : Option NameId) (t : Tid) (y : Reply) (ls : Locks) (rs : Rows) (g : Option Tid)
    → (let o : Unlocked = record { reply = y; locks = ls; rows = rs; given = g } in o) ≡ unlock v.locks v.rows m t
    → HasPlaces v → v.rows.next_arrival + 1 < 2 ^ 64 → IfSome g (CanBeReady rs v.debts)
unlock_can v m t y ls rs g e h arrival =
    let given : g ≡ _ = ap (λ (o : Unlocked). o.given) e in
    taken_can v.debts v.rows rs (waiters_row m) (is_done (unlock_reply (mutex_at v.locks m) t) && is_last (owner v.locks m)) g given
    (ap (λ (o : Unlocked). o.rows) e ∙ ap (take_out_if v.rows) (sym given)) h.seats h.debts h.owers h.within arrival

-- The state with these rows and debts, where they are the same.
pub placed : (mid : ServicesView) (remainders : Table Remainder) (shared : Table ℤ) (rs rs' : Rows) (debts debts' : Table Debt) → rs' ≡ rs → debts' ≡ debts
    → state_with (with_ready mid rs debts) remainders shared ≡ state_with (with_ready mid rs' debts') remainders shared
placed mid remainders shared rs rs' debts debts' rows owed =
    ap (λ (x : Rows). state_with (with_ready mid x debts) remainders shared) (sym rows) ∙ ap (λ (x : Table Debt). state_with (with_ready mid rs' x) remainders shared) (sym owed)
