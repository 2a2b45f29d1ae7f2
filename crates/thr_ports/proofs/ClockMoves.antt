-- The clock's moves: waits on conditions whose time comes, and what their threads then owe.
use Rattle.std.proofs.Common.{◌≡◌, ℕ, ℤ, Bool, true, false, ◌&&◌, ◌||◌, cond, eqb, List, [], ◌∷◌, Option, Some, None, refl, sym, ap, ◌∙◌, subst}
use Rattle.std.proofs.lemmas.Bool.{false≢true}
use Rattle.std.specs.Prelude.{if◌then◌else◌, is_some}
use Rattle.std.specs.Option.{option_map, option_and_then}
use Rattle.std.specs.List.{filter, list_any}
use Rattle.thr_values.specs.declared.number.NameId.{NameId}
use Rattle.thr_values.specs.declared.number.Tid.{Tid}
use Rattle.thr_values.specs.declared.reply.Reply.TheVariants as reply
use Rattle.thr_parts.specs.declared.row.RowId.{RowId}
use Rattle.thr_parts.specs.declared.row.RowId.TheVariants as row
use Rattle.thr_parts.specs.declared.row.Seat.{Seat}
use Rattle.thr_parts.specs.declared.wait.Wait.{Wait}
use Rattle.thr_parts.specs.declared.wait.Wait.TheVariants.{Cond, Delay}
use Rattle.thr_parts.specs.Tables.{get, IsCanonical}
use Rattle.thr_parts.specs.Rows.{Rows, Seated, thread, row_at, is_before, placed, in_order, numbers_of, is_among}
use Rattle.thr_parts.specs.Conditions.{Conds, time_of, mutex_of}
use Rattle.thr_parts.specs.Expiry.{due, due_first, is_due, has_come}
use Rattle.thr_parts.proofs.EntryLaws.{get_cons, get_empty, get_filter, pass, pass_none, pass_some}
use Rattle.thr_conds.specs.Agreement.{waiting_row, if_waiting, WaitsAgree}
use Rattle.thr_model.specs.States.{State, Debt, Return, Delivery, rank_of}
use Rattle.thr_model.specs.Events.{due_debt, clock_line, clock_to}
use Rattle.thr_laws.specs.Lines.{implies}
use Rattle.thr_laws.proofs.ReadingLaws.{and_both}
use Rattle.thr_cancels.proofs.Seats.{is_calm}
use Rattle.thr_cancels.proofs.Owed.{woken_are}
use Rattle.thr_reacquired.proofs.OnceEach.{once_due}
use Rattle.thr_ports.specs.Signals.{Waiter, Elsewhere, StandsOn, SignalCame, TimeCame, CancelCame, after_other, waiter_after, has_left, waits_rightly}
use Rattle.thr_ports.specs.Signals as signals
use Rattle.thr_ports.proofs.Marking.{mark, Reads, reads_idle, gifts_idle, always_implied}
use Rattle.thr_ports.proofs.Resting.{standing, none_some, Knows, Rests, rests_on}
use Rattle.thr_ports.proofs.WokenWaits.{woken_calm, others_calm, woken_wait, others_wait, due_keep, woken_owes}

-- ---- who is due

any_by : (p : ℕ × Seat → Bool) (e f : ℕ × Seat) (fs gs : Seated) (b : Bool) → list_any p gs ≡ (p e || list_any p fs) → list_any p (if b then e ∷ f ∷ fs else f ∷ gs) ≡ (p e || (p f || list_any p fs))
any_by p e f fs gs true h = refl
any_by p e f fs gs false h = ap (λ b. p f || b) h ∙ swapped (p f) (p e) (list_any p fs)
  where
    swapped : (a b c : Bool) → (a || (b || c)) ≡ (b || (a || c))
    swapped true true c = refl
    swapped true false c = refl
    swapped false true c = refl
    swapped false false c = refl

any_placed : (p : ℕ × Seat → Bool) (e : ℕ × Seat) (es : Seated) → list_any p (placed e es) ≡ (p e || list_any p es)
unfolding placed
any_placed p e [] = refl
any_placed p e (f ∷ fs) = any_by p e f fs (placed e fs) (is_before e.1 f.1) (any_placed p e fs)

any_in_order : (p : ℕ × Seat → Bool) (es : Seated) → list_any p (in_order es) ≡ list_any p es
unfolding in_order
any_in_order p [] = refl
any_in_order p (e ∷ es) = any_placed p e (in_order es) ∙ ap (λ b. p e || b) (any_in_order p es)

any_number : (n : ℕ) (es : Seated) → is_among (thread n) (numbers_of es) ≡ list_any (λ (e : ℕ × Seat). eqb e.0 n) es
any_number n [] = refl
any_number n (e ∷ es) = ap (λ b. eqb e.0 n || b) (any_number n es)

some_cond : (b : Bool) (v : Seat) (o : Option Seat) → is_some (cond b (Some v) o) ≡ (b || is_some o)
some_cond true v o = refl
some_cond false v o = refl

any_get : (n : ℕ) (es : Seated) → list_any (λ (e : ℕ × Seat). eqb e.0 n) es ≡ is_some (get es n)
any_get n [] = sym (ap is_some (get_empty n))
any_get n (e ∷ es) = ap (λ b. eqb e.0 n || b) (any_get n es) ∙ sym (ap is_some (get_cons e es n) ∙ some_cond (eqb e.0 n) e.1 (get es n))

among_is_due : (cs : Conds) (rs : Rows) (now : ℤ) (u : ℕ) → is_among (thread u) (due_first cs rs now) ≡ is_some (get (due cs rs now) u)
among_is_due cs rs now u = any_number u (in_order (due cs rs now)) ∙ any_in_order (λ (e : ℕ × Seat). eqb e.0 u) (due cs rs now) ∙ any_get u (due cs rs now)

due_is : (cs : Conds) (rs : Rows) (now : ℤ) → due cs rs now ≡ filter (λ (e : ℕ × Seat). is_due cs now e.0) rs.seats
unfolding due
due_is cs rs now = refl

some_passes : (cs : Conds) (now : ℤ) (u : ℕ) (o : Option Seat) → is_some (pass (λ (e : ℕ × Seat). is_due cs now e.0) u o) ≡ (is_due cs now u && is_some o)
some_passes cs now u None = ap is_some (pass_none (λ (e : ℕ × Seat). is_due cs now e.0) u) ∙ no_right (is_due cs now u)
  where
    no_right : (a : Bool) → false ≡ (a && false)
    no_right true = refl
    no_right false = refl
some_passes cs now u (Some v) = ap is_some (pass_some (λ (e : ℕ × Seat). is_due cs now e.0) u v) ∙ kept_if (is_due cs now u)
  where
    kept_if : (a : Bool) → is_some (cond a (Some v) None) ≡ (a && true)
    kept_if true = refl
    kept_if false = refl

-- Those whose time has come are those whose wait has it, and who have a seat.
due_those : (cs : Conds) (rs : Rows) (now : ℤ) (u : ℕ) → IsCanonical rs.seats → is_among (thread u) (due_first cs rs now) ≡ (is_due cs now u && is_some (get rs.seats u))
due_those cs rs now u h =
    among_is_due cs rs now u ∙ ap (λ (m : Seated). is_some (get m u)) (due_is cs rs now)
    ∙ ap is_some (get_filter (λ (e : ℕ × Seat). is_due cs now e.0) u rs.seats h) ∙ some_passes cs now u (get rs.seats u)

-- ---- by what the lines tell

has_row : (o : Option Wait) (x : Option Seat) → option_map waiting_row o ≡ if_waiting (row_at x) → is_some o ≡ true → is_some x ≡ true
has_row None x e i = absurd (false≢true i)
has_row (Some y) None e i = absurd (cc)
has_row (Some y) (Some s) e i = refl

abbrev until_of : Waiter → Option ℤ
until_of (StandsOn c until) = until
until_of _ = None

-- The wait that the state keeps is due where the one is that the lines tell.
told_due : (o : Option Wait) (c : NameId) (until : Option ℤ) (now : ℤ) → standing o ≡ StandsOn c until → has_come now (option_and_then time_of o) ≡ has_come now until
told_due None c until now e = absurd (cc)
told_due (Some (Delay t)) c until now e = absurd (cc)
told_due (Some (Cond d m t)) c until now e = ap (λ (x : Waiter). has_come now (until_of x)) e

due_until : (c : NameId) (until : Option ℤ) (now : ℤ) → signals.is_due (Some now) (StandsOn c until) ≡ has_come now until
due_until c None now = refl
due_until c (Some t) now = refl

with_mutex : (o : Option Wait) (c : NameId) (until : Option ℤ) → standing o ≡ StandsOn c until → due_debt (option_and_then mutex_of o) ≡ Return reply.Eagain
with_mutex None c until e = absurd (cc)
with_mutex (Some (Delay t)) c until e = absurd (cc)
with_mutex (Some (Cond d m t)) c until e = refl

waits_some : (o : Option Wait) (c : NameId) (until : Option ℤ) → standing o ≡ StandsOn c until → is_some o ≡ true
waits_some None c until e = absurd (cc)
waits_some (Some x) c until e = refl

-- A thread that is calm waits neither on a condition nor for a time.
calm_no_wait : (o : Option Wait) (r : Option RowId) → option_map waiting_row o ≡ if_waiting r → is_calm r ≡ true → o ≡ None
calm_no_wait None r e c = refl
calm_no_wait (Some x) None e c = absurd (cc)
calm_no_wait (Some x) (Some row.Ready) e c = absurd (cc)
calm_no_wait (Some x) (Some (row.Mutex m)) e c = absurd (cc)
calm_no_wait (Some x) (Some row.Global) e c = absurd (cc)
calm_no_wait (Some x) (Some (row.Cond d)) e c = absurd (false≢true c)
calm_no_wait (Some x) (Some (row.Join t)) e c = absurd (false≢true c)
calm_no_wait (Some x) (Some (row.Once o)) e c = absurd (false≢true c)
calm_no_wait (Some x) (Some (row.Reader p)) e c = absurd (false≢true c)
calm_no_wait (Some x) (Some (row.Writer p)) e c = absurd (false≢true c)
calm_no_wait (Some x) (Some row.Time) e c = absurd (false≢true c)

module _ (u : ℕ) (st : State) (now : ℤ) (sorted : IsCanonical st.rows.seats) (agree : WaitsAgree st.conds st.rows) where
  abbrev ts : List Tid
  ts = due_first st.conds st.rows now

  abbrev pub after : State
  after = (clock_to st now).state

  rests : (is_among (thread u) ts ≡ true → ⊥) → Rests u st after
  rests n = record {
    waits = ap standing (others_wait u (rank_of st) st.conds st.locks st.rows ts n);
    owes = λ d o. (
      due_keep u (rank_of st) _ st.debts d (λ i. n (subst (λ (l : List Tid). is_among (thread u) l ≡ true) (woken_are (rank_of st) st.conds st.locks st.rows ts) i)) o.0,
      others_calm u (rank_of st) st.conds st.locks st.rows ts n o.1,
    );
  }

  -- One whose time comes.
  comes : (c : NameId) (until : Option ℤ) → standing (get st.conds.waits u) ≡ StandsOn c until → has_come now until ≡ true → Knows u TimeCame after
  comes c until e d =
      let there : is_some (get st.rows.seats u) ≡ true = has_row (get st.conds.waits u) (get st.rows.seats u) (agree.same (thread u)) (waits_some (get st.conds.waits u) c until e) in
      let i : is_among (thread u) ts ≡ true =
      due_those st.conds st.rows now u sorted ∙ ap (λ b. b && is_some (get st.rows.seats u)) (told_due (get st.conds.waits u) c until now e ∙ d) ∙ there in record {
        waits = ap standing (woken_wait u (rank_of st) st.conds st.locks st.rows ts i);
        owes = λ x f. (
          woken_owes u (rank_of st) st.conds st.locks st.rows ts st.debts (once_due u st.conds st.rows now sorted) i
              ∙ ap (λ (y : Debt). let o : Option Debt = Some y in o) (with_mutex (get st.conds.waits u) c until e) ∙ f,
          woken_calm u (rank_of st) st.conds st.locks st.rows ts i,
        );
      }

  -- One that stands on a condition and whose time doesn't come.
  not_due : (c : NameId) (until : Option ℤ) → standing (get st.conds.waits u) ≡ StandsOn c until → has_come now until ≡ false → is_among (thread u) ts ≡ true → ⊥
  not_due c until e d i =
      false≢true (sym (due_those st.conds st.rows now u sorted ∙ ap (λ b. b && is_some (get st.rows.seats u)) (told_due (get st.conds.waits u) c until now e ∙ d)) ∙ i)

  -- One that is calm.
  calm_not_due : is_calm (row_at (get st.rows.seats u)) ≡ true → is_among (thread u) ts ≡ true → ⊥
  calm_not_due c i =
      false≢true (sym (due_those st.conds st.rows now u sorted
      ∙ ap (λ (o : Option Wait). has_come now (option_and_then time_of o) && is_some (get st.rows.seats u)) (calm_no_wait (get st.conds.waits u) (row_at (get st.rows.seats u)) (agree.same (thread u)) c)) ∙ i)

  -- One that waits nowhere on a condition: perhaps for a time.
  elsewhere : standing (get st.conds.waits u) ≡ Elsewhere → Knows u Elsewhere after
  elsewhere e = record { waits = by (is_among (thread u) ts) refl; owes = λ d f. absurd (none_some d f) }
    where
      by : (b : Bool) → is_among (thread u) ts ≡ b → standing (get after.conds.waits u) ≡ Elsewhere
      by true i = ap standing (woken_wait u (rank_of st) st.conds st.locks st.rows ts i)
      by false i = ap standing (others_wait u (rank_of st) st.conds st.locks st.rows ts (λ f. false≢true (sym i ∙ f))) ∙ e

  standing_by : (c : NameId) (until : Option ℤ) (b : Bool) → signals.is_due (Some now) (StandsOn c until) ≡ b → Knows u (StandsOn c until) st → Knows u (after_other (StandsOn c until) false b false) after
  standing_by c until true d k = comes c until k.waits (sym (due_until c until now) ∙ d)
  standing_by c until false d k = rests_on u (StandsOn c until) st after (rests (not_due c until k.waits (sym (due_until c until now) ∙ d))) k

  -- What has come of the wait.
  clock_knows : (w : Waiter) → Knows u w st → Knows u (after_other w false (signals.is_due (Some now) w) false) after
  clock_knows Elsewhere k = elsewhere k.waits
  clock_knows (StandsOn c until) k = standing_by c until (signals.is_due (Some now) (StandsOn c until)) refl k
  clock_knows SignalCame k = rests_on u SignalCame st after (rests (calm_not_due (k.owes (Return reply.Done) refl).1)) k
  clock_knows TimeCame k = rests_on u TimeCame st after (rests (calm_not_due (k.owes (Return reply.Eagain) refl).1)) k
  clock_knows CancelCame k = rests_on u CancelCame st after (rests (calm_not_due (k.owes Delivery refl).1)) k

  clock_passes : (w : Waiter) → waits_rightly u w (mark st (clock_line now)) ≡ true
  clock_passes w = and_both (implies (has_left w) true) true (always_implied (has_left w)) refl

  -- A move of the clock.
  pub clock_reads : (w : Waiter) → Knows u w st → Reads u st (λ v. Knows u v after) w (clock_to st now).lines
  clock_reads w k = (clock_passes w, reads_idle u st (λ v. Knows u v after) (waiter_after u w (mark st (clock_line now))) _ (gifts_idle u _) (clock_knows w k))
