-- The lines of calls that create a thread, set a cancelability or cancel a thread.
use Rattle.std.proofs.Common.{◌≡◌, ℕ, suc, ℤ, Bool, true, false, eqb, List, ◌∷◌, Option, Some, None, refl, sym, ◌∙◌, ap, subst}
use Rattle.std.proofs.lemmas.Bool.{eqb-true, false≢true}
use Rattle.std.specs.Prelude.{is_some, is_none, nat_lt}
use Rattle.std.specs.Option.{option_map}
use Rattle.thr_values.specs.declared.number.NameId.{NameId}
use Rattle.thr_values.specs.declared.number.Tid.{Tid}
use Rattle.thr_values.specs.declared.call.Arg.{Arg}
use Rattle.thr_values.specs.declared.call.CallWord.{CallWord}
use Rattle.thr_values.specs.declared.call.CallWord.TheVariants as word
use Rattle.thr_values.specs.declared.call.Arg.TheVariants as arg
use Rattle.thr_parts.specs.declared.thread.Attr.{Attr}
use Rattle.thr_parts.proofs.EntryLaws.{itself}
use Rattle.thr_cancels.proofs.Owed as owed
use Rattle.thr_cancels.proofs.Owed.{owes_delivery}
use Rattle.thr_values.specs.declared.reply.Reply.{Reply}
use Rattle.thr_values.specs.declared.scheduling.Mode.{Mode}
use Rattle.thr_values.specs.declared.history.What.{What}
use Rattle.thr_values.specs.declared.history.What.TheVariants as what
use Rattle.thr_syntax.specs.declared.expr.Var.{Var}
use Rattle.thr_syntax.specs.declared.expr.Expr.{Expr}
use Rattle.thr_syntax.specs.declared.dce.DceCall.{DceCall}
use Rattle.thr_syntax.specs.declared.dce.DceCall.TheVariants as dce
use Rattle.thr_syntax.specs.declared.tree.Script.{Script}
use Rattle.thr_remainder.specs.Calls.{shape_of, arguments, is_point, first_place}
use Rattle.thr_parts.specs.declared.row.Seat.{Seat}
use Rattle.thr_parts.specs.declared.thread.Thread.{Thread}
use Rattle.thr_parts.specs.Tables.{get, put_if}
use Rattle.thr_parts.specs.Replies.{is_blocks, is_value}
use Rattle.thr_parts.specs.Rows.{Rows, thread, row_at}
use Rattle.thr_parts.specs.Threads as threads
use Rattle.thr_parts.specs.Threads.{Threads, ThreadsReply, natural, record_at, rank_at}
use Rattle.thr_parts.specs.Cancels as cancels
use Rattle.thr_parts.specs.Cancels.{mode_in, mode_at, with_mode, set_mode}
use Rattle.thr_laws.specs.Lines.{own_line}
use Rattle.thr_laws.specs.Known.{Known, cancel_of, is_on, known_with, known_after}
use Rattle.thr_laws.specs.CancelLaw.{delivers_outstanding, has_effect, passes_no_point, delivers_when_woken}
use Rattle.thr_model.specs.States.{State}
use Rattle.thr_model.specs.Calls.{answered, ready_if}
use Rattle.thr_model.specs.Turns.{thread_line}
use Rattle.thr_cancels.proofs.Seats as seats
use Rattle.thr_cancels.proofs.Seats.{IsMoved, is_calm, calm_no_point, same_row, cancel_wait_moves, is_calm_row}
use Rattle.thr_cancels.proofs.CallSeats.{waits_there, ready_by}
use Rattle.thr_cancels.proofs.CallOwed.{IsLeft}
use Rattle.thr_cancels.proofs.Records as records
use Rattle.thr_cancels.proofs.Records.{with_new, with_new_recorded, new_record, not_yet, IsNewRecord, put_core_here, put_core_other, core_of, IsRecorded, Core, core, is_alive, changes_records, answered_recorded}
use Rattle.thr_cancels.proofs.CallLines.{IsNoMark, CallTold, other_call, own_call_fine, told_by, IsAsking, sets_one}
use Rattle.thr_cancels.proofs.Agreement.{recorded_known, cancelled_alive, and_true, or_false, new_not_alive, Matches, KnownBy, KnowsOf, IsPassed, IsRunning, nothing_new, by_itself, by_another, and_false}

pub matches_some : (k : Known) (a : Option Core) (m : Bool) (c : Core) → KnownBy k a m → a ≡ Some c → Matches k c
matches_some k a true c h e = subst (λ (x : Option Core). KnownBy k x true) e h
matches_some k a false c h e = absurd (subst (λ (x : Option Core). KnownBy k x false) e h)

pub made_some : (k : Known) (a : Option Core) (m : Bool) (c : Core) → KnownBy k a m → a ≡ Some c → m ≡ true
made_some k a true c h e = refl
made_some k a false c h e = absurd (subst (λ (x : Option Core). KnownBy k x false) e h)

pub known_some : (k : Known) (a : Option Core) (m : Bool) (c : Core) → a ≡ Some c → m ≡ true → Matches k c → KnownBy k a m
known_some k a m c e f h = subst (λ (x : Option Core). KnownBy k x m) (sym e) (subst (λ (x : Bool). KnownBy k (Some c) x) (sym f) h)

pub core_alive : (a : Option Core) → is_alive a ≡ true → (c : Core) × (a ≡ Some c)
core_alive None e = absurd (false≢true e)
core_alive (Some c) e = (c, refl)

-- ---- create

apart_moved : (t next u : ℕ) (waits : Bool) (a b : Option Seat) → eqb next u ≡ false → IsMoved t next u waits a b → IsMoved t (suc u) u waits a b
apart_moved t next u waits a b e (seats.same f) = seats.same f
apart_moved t next u waits a b e (seats.woken f g) = seats.woken f g
apart_moved t next u waits a b e (seats.stopped f g) = seats.stopped f g
apart_moved t next u waits a b e (seats.created f g) = absurd (false≢true (sym e ∙ f))

new_point : (t next u : ℕ) (waits : Bool) (a b : Option Seat) → eqb t u ≡ false → IsMoved t next u waits a b → cancels.is_point (row_at b) ≡ true → cancels.is_point (row_at a) ≡ true
new_point t next u waits a b e (seats.same f) p = sym (ap cancels.is_point (same_row a b f)) ∙ p
new_point t next u waits a b e (seats.woken f g) p = absurd (false≢true (sym (calm_no_point (row_at b) g) ∙ p))
new_point t next u waits a b e (seats.stopped f g) p = absurd (false≢true (sym e ∙ f))
new_point t next u waits a b e (seats.created f g) p = absurd (false≢true (sym (calm_no_point (row_at b) g) ∙ p))

-- A thread was created, or not.
record HasNew (t u : ℕ) (waits b : Bool) (o : Option Thread) (st st' : State) : Type 0 where
  moved : IsMoved t st.threads.next u waits (get st.rows.seats u) (get st'.rows.seats u)
  left : IsLeft t u st st'
  same_debts : get st'.debts u ≡ get st.debts u
  recorded : IsRecorded u st.threads st'.threads
  here : eqb st.threads.next u ≡ true → b ≡ true → is_alive (core (get st'.threads.records u)) ≡ true
  nobody : b ≡ false → get st'.rows.seats u ≡ get st.rows.seats u

new_knows : (t u : ℕ) (waits : Bool) (o : Option Thread) (k : Known) (st st' : State) → eqb t u ≡ false → eqb st.threads.next u ≡ true → HasNew t u waits true o st st' → KnowsOf u k st → KnowsOf u k st'
new_knows t u waits o k st st' apart next n h =
    let dead : is_alive (core (get st.threads.records u)) ≡ false = new_not_alive k (core (get st.threads.records u)) (nat_lt u st.threads.next) (not_yet st.threads.next u next) h.recorded in
    let off : (owes_delivery (get st'.debts u) ≡ true → ⊥) =
    λ e. false≢true (sym dead ∙ cancelled_alive (core (get st.threads.records u)) (h.cancelled (sym (ap owes_delivery n.same_debts) ∙ e))) in record {
      recorded = recorded_known u k st st' n.recorded h.recorded;
      seated = λ e. n.here next refl;
      cancelled = λ e. absurd (off e);
      calm = λ e. absurd (off e);
      free = λ e. absurd (off e);
      woken = λ e. ap owes_delivery n.same_debts ∙ h.woken e;
      waiting = λ e. h.waiting (new_point t st.threads.next u waits _ _ apart n.moved e);
    }

create_passed : (t u : ℕ) (waits b : Bool) (o : Option Thread) (st st' : State) → eqb st.threads.next u ≡ false → HasNew t u waits b o st st' → IsPassed t u waits st st'
create_passed t u waits b o st st' e n = record { moved = apart_moved t st.threads.next u waits _ _ e n.moved; left = n.left; recorded = n.recorded }

nobody_passed : (t u : ℕ) (waits : Bool) (o : Option Thread) (st st' : State) → HasNew t u waits false o st st' → IsPassed t u waits st st'
nobody_passed t u waits o st st' n = record { moved = seats.same (ap seats.stance (n.nobody refl)); left = n.left; recorded = n.recorded }

alive_made : (k : Known) (st : State) (u : ℕ) → KnowsOf u k st → is_some (get st.rows.seats u) ≡ true → eqb st.threads.next u ≡ true → ⊥
alive_made k st u h there next =
    false≢true (sym (new_not_alive k (core (get st.threads.records u)) (nat_lt u st.threads.next) (not_yet st.threads.next u next) h.recorded) ∙ h.seated there)

known_none : (t : Tid) (u : ℕ) (k : Known) (w : What) (blocks : Bool) (st st' : State) → eqb t.0 u ≡ false → IsNoMark u k w None → KnowsOf u k st' → CallTold t.0 u k (thread_line t w) blocks st'
known_none t u k w blocks st st' apart m h =
    let own : own_line u (thread_line t w) ≡ None = by_another u t w apart in record {
      fine = record {
        outstanding = ap (delivers_outstanding k) own;
        effects = ap (has_effect k) m.cancel ∙ m.effects;
        points = ap (passes_no_point k) own;
        woken = ap (delivers_when_woken k) own;
      };
      knows = subst (λ (l : Known). KnowsOf u l st') (sym (ap (λ o. known_with k o (cancel_of u w)) own ∙ ap (λ x. known_with k None x) m.cancel ∙ nothing_new k)) h;
      runs = λ e. absurd (false≢true (sym apart ∙ e));
    }

created_told : (t : Tid) (u : ℕ) (k : Known) (call : DceCall) (args : List Arg) (y : Reply) (o : Option Thread) (st st' : State) (b next self : Bool) → eqb st.threads.next u ≡ next → eqb t.0 u ≡ self
    → sets_one call ≡ false → IsNoMark u k (what.Call (shape_of call).word args y) None → HasNew t.0 u (waits_there call y) b o st st' → IsAsking t.0 u k st call → KnowsOf u k st
    → CallTold t.0 u k (thread_line t (what.Call (shape_of call).word args y)) (is_blocks y) st'
created_told t u k call args y o st st' false next self e f sets m n asks h =
    told_by t u k call args y None st st' (eqb t.0 u) refl sets m (nobody_passed t.0 u (waits_there call y) o st st' n) asks h
created_told t u k call args y o st st' true false self e f sets m n asks h =
    told_by t u k call args y None st st' (eqb t.0 u) refl sets m (create_passed t.0 u (waits_there call y) true o st st' e n) asks h
created_told t u k call args y o st st' true true true e f sets m n asks h = absurd (alive_made k st u h (asks.there f) e)
created_told t u k call args y o st st' true true false e f sets m n asks h =
    known_none t u k _ (is_blocks y) st st' f m (new_knows t.0 u (waits_there call y) o k st st' f e n h)

new_alive : (ths : Threads) (u : ℕ) (o : Option Thread) → eqb ths.next u ≡ true → IsNewRecord o → is_alive (core (get (put_if ths.records ths.next o) u)) ≡ true
new_alive ths u None e n = absurd n
new_alive ths u (Some th) e n = ap is_alive (put_core_here ths.records ths.next u th e) ∙ ap (λ (c : Core). is_none c.ended) n

new_here : (ths : Threads) (u : ℕ) (b : Bool) (o : Option Thread) → (b ≡ true → IsNewRecord o) → eqb ths.next u ≡ true → b ≡ true → is_alive (core (get (with_new ths b o).records u)) ≡ true
new_here ths u true o n e f = new_alive ths u o e (n refl)
new_here ths u false o n e f = absurd (false≢true f)

none_ready : (b : Bool) (rank : Tid → ℕ) (rs : Rows) (t : Tid) (u : ℕ) → b ≡ false → get (ready_if b rank rs t).seats u ≡ get rs.seats u
none_ready true rank rs t u e = absurd (false≢true (sym e))
none_ready false rank rs t u e = refl

no_mark_create : (u : ℕ) (k : Known) (v : Var) (a : Option NameId) (routine : NameId) (e : Expr) (args : List Arg) (y : Reply) → IsNoMark u k (what.Call (shape_of (dce.Create v a routine e)).word args y) None
unfolding shape_of
no_mark_create u k v a routine e args y = record { cancel = refl; delivers = refl; wakes = refl; effects = refl }

pub create_told : (s : Script) (st : State) (t : Tid) (v : Var) (a : Option NameId) (routine : NameId) (e : Expr) (ns : List ℤ) (u : ℕ) (k : Known) → IsAsking t.0 u k st (dce.Create v a routine e) → KnowsOf u k st
    → (let call : DceCall = dce.Create v a routine e in CallTold t.0 u k (thread_line t (what.Call (shape_of call).word (arguments call ns) (answered s st t call ns).reply)) (is_blocks (answered s st t call ns).reply) (answered s st t call ns).state)
unfolding answered
create_told s st t v a routine e ns u k asks h =
    let call : DceCall = dce.Create v a routine e in
    let o : ThreadsReply = threads.create st.threads t a in
    let attr : Option Attr = threads.attr_at st.threads a in
    let made : Option Thread = option_map (threads.created_by st.threads.next (record_at st.threads t)) attr in
    let b : Bool = is_value o.reply in
    let fits : (b ≡ true → IsNewRecord made) = new_record st.threads (record_at st.threads t) attr in
    created_told t u k call (arguments call ns) o.reply made st (answered s st t call ns).state b (eqb st.threads.next u) (eqb t.0 u) refl refl refl
    (no_mark_create u k v a routine e (arguments call ns) o.reply)
    (record {
      moved = ready_by t.0 st.threads.next u (waits_there call o.reply) b (rank_at o.threads) st.rows (eqb st.threads.next u) refl;
      left = record { debts = owed.stays refl; waits = λ _ x. x };
      same_debts = refl;
      recorded = with_new_recorded st.threads u b (eqb st.threads.next u) made refl fits;
      here = new_here st.threads u b made fits;
      nobody = none_ready b (rank_at o.threads) st.rows (thread st.threads.next) u;
    })
    asks h

-- ---- cancelabilities

-- The state where a thread has this mode.
abbrev pub with_mode_of : State → Tid → Mode → State
with_mode_of st t m = record st { threads = set_mode st.threads t m }

mode_other : (m : Mode) (ths : Threads) (t : ℕ) (u : ℕ) (o : Option Thread) → eqb t u ≡ false → core (get (put_if ths.records t (option_map (with_mode m) o)) u) ≡ core (get ths.records u)
mode_other m ths t u None e = refl
mode_other m ths t u (Some th) e = put_core_other ths.records t u (with_mode m th) e

abbrev pub core_with : Mode → Core → Core
core_with m c = record { mode = m; ended = c.ended }

core_in : Core → Option Core → Core
core_in d None = d
core_in d (Some c) = c

mode_here : (m : Mode) (ths : Threads) (t : ℕ) (c : Core) (o : Option Thread) → get ths.records t ≡ o → core o ≡ Some c → core (get (put_if ths.records t (option_map (with_mode m) o)) t) ≡ Some (core_with m c)
unfolding core_in
mode_here m ths t c None e f = absurd (cc)
mode_here m ths t c (Some th) e f = put_core_here ths.records t t (with_mode m th) (itself t) ∙ ap (λ (x : Option Core). let y : Option Core = Some (core_with m (core_in c x)) in y) f

pub mode_is : (c : Core) (o : Option Thread) → core o ≡ Some c → mode_in o ≡ c.mode
unfolding core_in
mode_is c None f = absurd (cc)
mode_is c (Some th) f = ap (λ (x : Option Core). (core_in c x).mode) f

pub mode_passed : (st : State) (t : Tid) (u : ℕ) (waits : Bool) (m : Mode) → eqb t.0 u ≡ false → IsPassed t.0 u waits st (with_mode_of st t m)
mode_passed st t u waits m e = record {
  moved = seats.same refl;
  left = record { debts = owed.stays refl; waits = λ _ x. x };
  recorded = records.stays (mode_other m st.threads t.0 u (record_at st.threads t) e) refl;
}

-- The thread itself has another mode, which is known.
pub mode_running : (st : State) (t : Tid) (k : Known) (l : Known) (m : Mode) → is_alive (core (get st.threads.records t.0)) ≡ true → KnownBy k (core (get st.threads.records t.0)) (nat_lt t.0 st.threads.next)
    → owes_delivery (get st.debts t.0) ≡ false → cancels.is_point (row_at (get st.rows.seats t.0)) ≡ false
    → ((c : Core) → core (get st.threads.records t.0) ≡ Some c → Matches k c → Matches l (core_with m c)) → l.woken ≡ false → IsRunning t.0 l (with_mode_of st t m)
mode_running st t k l m alive h owes runs f q =
    let x : (c : Core) × (core (get st.threads.records t.0) ≡ Some c) = core_alive (core (get st.threads.records t.0)) alive in
    let now : core (get (with_mode_of st t m).threads.records t.0) ≡ Some (core_with m x.0) = mode_here m st.threads t.0 x.0 (record_at st.threads t) refl x.1 in record {
      knows = record {
        recorded = known_some l _ (nat_lt t.0 st.threads.next) (core_with m x.0) now (made_some k _ (nat_lt t.0 st.threads.next) x.0 h x.1) (f x.0 x.1 (matches_some k _ (nat_lt t.0 st.threads.next) x.0 h x.1));
        seated = λ e. ap is_alive now ∙ sym (ap is_alive x.1) ∙ alive;
        cancelled = λ e. absurd (false≢true (sym owes ∙ e));
        calm = λ e. absurd (false≢true (sym owes ∙ e));
        free = λ e. absurd (false≢true (sym owes ∙ e));
        woken = λ e. absurd (false≢true (sym q ∙ e));
        waiting = λ e. absurd (false≢true (sym runs ∙ e));
      };
      quiet = q;
      owes = owes;
      runs = runs;
    }

abbrev pub one_word : Bool → List Arg → List Arg
one_word on args = arg.Word (first_place on) ∷ args

general_set : (st : State) (t : Tid) (k : Known) (on : Bool) (args : List Arg) (y : Reply) (c : Core) → core (get st.threads.records t.0) ≡ Some c → Matches k c
    → Matches (known_with k (Some (what.Call word.Setcancel (one_word on args) y)) None) (core_with (record (mode_at st.threads t) { general = on }) c)
general_set st t k on args y c e m = record {
  outstanding = and_true k.outstanding ∙ m.outstanding ∙ ap (λ (x : Mode). x.pending) (sym (mode_is c (record_at st.threads t) e));
  general = is_first on;
  asynchronous = m.asynchronous ∙ ap (λ (x : Mode). x.asynchronous) (sym (mode_is c (record_at st.threads t) e));
  ended = or_false k.ended ∙ m.ended;
}
  where
    is_first : (b : Bool) → is_on (first_place b) ≡ b
    is_first true = refl
    is_first false = refl

asynchronous_set : (st : State) (t : Tid) (k : Known) (on : Bool) (args : List Arg) (y : Reply) (c : Core) → core (get st.threads.records t.0) ≡ Some c → Matches k c
    → Matches (known_with k (Some (what.Call word.Setasynccancel (one_word on args) y)) None) (core_with (record (mode_at st.threads t) { asynchronous = on }) c)
asynchronous_set st t k on args y c e m = record {
  outstanding = and_true k.outstanding ∙ m.outstanding ∙ ap (λ (x : Mode). x.pending) (sym (mode_is c (record_at st.threads t) e));
  general = m.general ∙ ap (λ (x : Mode). x.general) (sym (mode_is c (record_at st.threads t) e));
  asynchronous = is_first on;
  ended = or_false k.ended ∙ m.ended;
}
  where
    is_first : (b : Bool) → is_on (first_place b) ≡ b
    is_first true = refl
    is_first false = refl

-- A thread's own line of such a call.
set_told : (t : Tid) (k : Known) (word : CallWord) (args : List Arg) (y : Reply) (st : State) (m : Mode) → cancel_of t.0 (what.Call word args y) ≡ None → is_point word ≡ false
    → is_some (get st.rows.seats t.0) ≡ true → ((c : Core) → core (get st.threads.records t.0) ≡ Some c → Matches k c → Matches (known_with k (Some (what.Call word args y)) None) (core_with m c))
    → IsRunning t.0 k st → CallTold t.0 t.0 k (thread_line t (what.Call word args y)) false (with_mode_of st t m)
set_told t k word args y st m none no_point there f h =
    let w : What = what.Call word args y in
    let running : IsRunning t.0 (known_after t.0 k (thread_line t w)) (with_mode_of st t m) =
    subst (λ (l : Known). IsRunning t.0 l (with_mode_of st t m))
    (sym (ap (λ o. known_with k o (cancel_of t.0 w)) (by_itself t.0 t w (itself t.0)) ∙ ap (λ x. known_with k (Some w) x) none))
    (mode_running st t k (known_with k (Some w) None) m (h.knows.seated there) h.knows.recorded h.owes h.runs f (and_false k.woken)) in record {
      fine = own_call_fine t t.0 k word args y (itself t.0) (ap (has_effect k) none) h.quiet (λ p. absurd (false≢true (sym no_point ∙ p)));
      knows = running.knows;
      runs = λ _ _. running;
    }

pub setcancel_told : (t : Tid) (u : ℕ) (k : Known) (on self : Bool) (args : List Arg) (y : Reply) (st : State) → eqb t.0 u ≡ self → (self ≡ true → is_some (get st.rows.seats u) ≡ true) → (self ≡ true → IsRunning u k st) → KnowsOf u k st
    → CallTold t.0 u k (thread_line t (what.Call word.Setcancel (one_word on args) y)) false (with_mode_of st t (record (mode_at st.threads t) { general = on }))
setcancel_told t u k on false args y st e there runs h =
    other_call t u false false k _ None st _ e (record { cancel = refl; delivers = refl; wakes = refl; effects = refl }) (mode_passed st t u false _ e) h
setcancel_told t u k on true args y st e there runs h =
    subst (λ (q : ℕ). (is_some (get st.rows.seats q) ≡ true) → IsRunning q k st → CallTold t.0 q k (thread_line t (what.Call word.Setcancel (one_word on args) y)) false (with_mode_of st t (record (mode_at st.threads t) { general = on })))
    (eqb-true t.0 u e) (λ here r. set_told t k word.Setcancel (one_word on args) y st _ refl refl here (general_set st t k on args y) r) (there refl) (runs refl)

pub setasync_told : (t : Tid) (u : ℕ) (k : Known) (on self : Bool) (args : List Arg) (y : Reply) (st : State) → eqb t.0 u ≡ self → (self ≡ true → is_some (get st.rows.seats u) ≡ true) → (self ≡ true → IsRunning u k st) → KnowsOf u k st
    → CallTold t.0 u k (thread_line t (what.Call word.Setasynccancel (one_word on args) y)) false (with_mode_of st t (record (mode_at st.threads t) { asynchronous = on }))
setasync_told t u k on false args y st e there runs h =
    other_call t u false false k _ None st _ e (record { cancel = refl; delivers = refl; wakes = refl; effects = refl }) (mode_passed st t u false _ e) h
setasync_told t u k on true args y st e there runs h =
    subst (λ (q : ℕ). (is_some (get st.rows.seats q) ≡ true) → IsRunning q k st → CallTold t.0 q k (thread_line t (what.Call word.Setasynccancel (one_word on args) y)) false (with_mode_of st t (record (mode_at st.threads t) { asynchronous = on })))
    (eqb-true t.0 u e) (λ here r. set_told t k word.Setasynccancel (one_word on args) y st _ refl refl here (asynchronous_set st t k on args y) r) (there refl) (runs refl)
