-- What the lines tell of a thread agrees with what the state keeps of it.
use Rattle.std.proofs.Common.{◌≡◌, ℕ, suc, Bool, true, false, not, ◌&&◌, ◌||◌, eqb, List, [], ◌∷◌, ◌++◌, map, Option, Some, None, refl, sym, ◌∙◌, ap, subst, arith}
use Rattle.std.proofs.lemmas.Bool.{false≢true}
use Rattle.std.proofs.lemmas.Bool.Decides.{nat_tests}
use Rattle.std.specs.Prelude.{is_some, is_none, nat_lt}
use Rattle.std.specs.List.{list_all, fold}
use Rattle.thr_values.specs.declared.number.Tid.{Tid}
use Rattle.thr_values.specs.declared.history.What.{What}
use Rattle.thr_values.specs.declared.history.What.TheVariants as what
use Rattle.thr_values.specs.declared.history.Entry.{Entry}
use Rattle.thr_parts.specs.declared.row.Seat.{Seat}
use Rattle.thr_parts.specs.declared.wait.Wait.{Wait}
use Rattle.thr_parts.specs.Tables.{get}
use Rattle.thr_parts.specs.Rows.{row_at}
use Rattle.thr_parts.specs.Cancels as cancels
use Rattle.thr_laws.specs.Lines.{implies, line_but_gift, own_line, is_delivery, is_end, is_some_line}
use Rattle.thr_laws.specs.Known.{Known, cancel_of, general_after, asynchronous_after, known_with, known_after}
use Rattle.thr_laws.specs.CancelLaw.{is_point_line, is_waiting_point, can_deliver, delivers_outstanding, has_effect, passes_no_point, delivers_when_woken}
use Rattle.thr_model.specs.States.{State, Debt}
use Rattle.thr_model.specs.Turns.{thread_line}
use Rattle.thr_cancels.proofs.Seats as seats
use Rattle.thr_cancels.proofs.Seats.{IsMoved, is_calm, same_row, same_some, calm_no_point}
use Rattle.thr_cancels.proofs.Owed as owed
use Rattle.thr_cancels.proofs.Owed.{owes_delivery, is_bound, IsOwed}
use Rattle.thr_cancels.proofs.CallOwed.{IsLeft}
use Rattle.thr_cancels.proofs.Records as records
use Rattle.thr_cancels.proofs.Records.{Core, core, is_alive, new_core, IsRecorded}
use Rattle.thr_cancels.proofs.InnerLines.{is_inner, AreInner}

-- ---- the agreement

-- What is known of a thread is what its record says.
pub record Matches (k : Known) (c : Core) : Type 0 where
  pub outstanding : k.outstanding ≡ c.mode.pending
  pub general : k.general ≡ c.mode.general
  pub asynchronous : k.asynchronous ≡ c.mode.asynchronous
  pub ended : k.ended ≡ is_some c.ended

-- The same of a record that may be gone, and of a thread that isn't created yet.
abbrev pub KnownBy : Known → Option Core → (made : Bool) → Type 0
KnownBy k None true = Unit {0}
KnownBy k None false = Matches k new_core
KnownBy k (Some c) true = Matches k c
KnownBy k (Some c) false = ⊥

-- A cancel of the thread is pending and can be delivered, and it has not ended.
abbrev pub is_cancelled : Option Core → Bool
is_cancelled None = false
is_cancelled (Some c) = is_none c.ended && (c.mode.pending && c.mode.general)

-- What is known of a thread agrees with its record, its seat, what it owes and its wait.
pub record Knows (k : Known) (c : Option Core) (made : Bool) (o : Option Seat) (d : Option Debt) (w : Option Wait) : Type 0 where
  pub recorded : KnownBy k c made
  pub seated : is_some o ≡ true → is_alive c ≡ true
  pub cancelled : owes_delivery d ≡ true → is_cancelled c ≡ true
  pub calm : owes_delivery d ≡ true → is_calm (row_at o) ≡ true
  pub free : owes_delivery d ≡ true → w ≡ None
  pub woken : k.woken ≡ true → owes_delivery d ≡ true
  pub waiting : cancels.is_point (row_at o) ≡ true → is_some_line is_waiting_point k.last ≡ true

-- The same in a state.
abbrev pub KnowsOf : ℕ → Known → State → Type 0
KnowsOf u k st = Knows k (core (get st.threads.records u)) (nat_lt u st.threads.next) (get st.rows.seats u) (get st.debts u) (get st.conds.waits u)

-- ---- lines that pass

-- The line passes the tests of the law, by what is known of the thread before it.
pub record IsFine (u : ℕ) (k : Known) (e : Entry) : Type 0 where
  pub outstanding : delivers_outstanding k (own_line u e) ≡ true
  pub effects : has_effect k (cancel_of u e.what) ≡ true
  pub points : passes_no_point k (own_line u e) ≡ true
  pub woken : delivers_when_woken k (own_line u e) ≡ true

-- Each line passes, and P holds of what is known after the last.
abbrev pub Told : ℕ → (Known → Type 0) → Known → List Entry → Type 0
Told u P k [] = P k
Told u P k (e ∷ es) = IsFine u k e × Told u P (known_after u k e) es

pub told_then : (u : ℕ) (P Q : Known → Type 0) → ((k : Known) → P k → Q k) → (k : Known) (es : List Entry) → Told u P k es → Told u Q k es
told_then u P Q f k [] h = f k h
told_then u P Q f k (e ∷ es) h = (h.0, told_then u P Q f (known_after u k e) es h.1)

pub told_append : (u : ℕ) (P : Known → Type 0) (k : Known) (es fs : List Entry) → Told u (λ l. Told u P l fs) k es → Told u P k (es ++ fs)
told_append u P k [] fs h = h
told_append u P k (e ∷ es) fs h = (h.0, told_append u P (known_after u k e) es fs h.1)

pub told_end : (u : ℕ) (P : Known → Type 0) (k : Known) (es : List Entry) → Told u P k es → P (fold (known_after u) k es)
told_end u P k [] h = h
told_end u P k (e ∷ es) h = told_end u P (known_after u k e) es h.1

-- ---- lines that tell nothing of the thread

pub and_true : (b : Bool) → (b && true) ≡ b
and_true true = refl
and_true false = refl

pub and_false : (b : Bool) → (b && false) ≡ false
and_false true = refl
and_false false = refl

pub or_false : (b : Bool) → (b || false) ≡ b
or_false true = refl
or_false false = refl

with_three : Known → Bool → Bool → Bool → Known
with_three k x y z = record { outstanding = x; general = k.general; asynchronous = k.asynchronous; ended = y; last = k.last; earlier = k.earlier; woken = z }

pub nothing_new : (k : Known) → known_with k None None ≡ k
unfolding with_three
nothing_new k =
    ap (λ x. with_three k x (k.ended || false) (k.woken && true)) (and_true k.outstanding)
    ∙ ap (λ y. with_three k k.outstanding y (k.woken && true)) (or_false k.ended)
    ∙ ap (λ z. with_three k k.outstanding k.ended z) (and_true k.woken)

-- The line is none of the thread and cancels it not.
pub record IsAway (u : ℕ) (e : Entry) : Type 0 where
  pub own : own_line u e ≡ None
  pub cancel : cancel_of u e.what ≡ None

known_away : (u : ℕ) (k : Known) (e : Entry) → IsAway u e → known_after u k e ≡ k
known_away u k e a = ap (λ own. known_with k own (cancel_of u e.what)) a.own ∙ ap (λ r. known_with k None r) a.cancel ∙ nothing_new k

away_fine : (u : ℕ) (k : Known) (e : Entry) → IsAway u e → IsFine u k e
away_fine u k e a = record {
  outstanding = ap (delivers_outstanding k) a.own;
  effects = ap (has_effect k) a.cancel;
  points = ap (passes_no_point k) a.own;
  woken = ap (delivers_when_woken k) a.own;
}

abbrev pub AllAway : ℕ → List Entry → Type 0
AllAway u [] = Unit {0}
AllAway u (e ∷ es) = IsAway u e × AllAway u es

pub away_append : (u : ℕ) (es fs : List Entry) → AllAway u es → AllAway u fs → AllAway u (es ++ fs)
away_append u [] fs h i = i
away_append u (e ∷ es) fs h i = (h.0, away_append u es fs h.1 i)

pub told_away : (u : ℕ) (P : Known → Type 0) (k : Known) (es : List Entry) → AllAway u es → P k → Told u P k es
told_away u P k [] a h = h
told_away u P k (e ∷ es) a h =
    (away_fine u k e a.0, subst (λ (l : Known). Told u P l es) (sym (known_away u k e a.0)) (told_away u P k es a.1 h))

-- ---- a thread's own lines

-- What an inner line tells.
record IsTold (u : ℕ) (w : What) : Type 0 where
  own : line_but_gift true w ≡ Some w
  delivery : is_delivery w ≡ false
  point : is_point_line w ≡ false
  end : is_end w ≡ false
  cancel : cancel_of u w ≡ None
  general : (b : Bool) → general_after (Some w) b ≡ b
  asynchronous : (b : Bool) → asynchronous_after (Some w) b ≡ b

inner_told : (u : ℕ) (w : What) → is_inner w ≡ true → IsTold u w
inner_told u (what.Call word args r) e = absurd (false≢true e)
inner_told u (what.Deliver n line) e = absurd (false≢true e)
inner_told u (what.End v) e = absurd (false≢true e)
inner_told u (what.Gift m) e = absurd (false≢true e)
inner_told u _ e = record { own = refl; delivery = refl; point = refl; end = refl; cancel = refl; general = λ b. refl; asynchronous = λ b. refl }

pub by_itself : (u : ℕ) (t : Tid) (w : What) → eqb t.0 u ≡ true → own_line u (thread_line t w) ≡ line_but_gift true w
by_itself u t w e = ap (λ b. line_but_gift b w) e

pub by_another : (u : ℕ) (t : Tid) (w : What) → eqb t.0 u ≡ false → own_line u (thread_line t w) ≡ None
by_another u t w e = ap (λ b. line_but_gift b w) e

pub implied_false : (a b : Bool) → a ≡ false → implies a b ≡ true
implied_false true b e = absurd (false≢true (sym e))
implied_false false b e = refl

-- After an own line that delivers nothing, ends nothing and sets nothing.
matches_own : (k : Known) (w : What) (c : Core) → is_delivery w ≡ false → is_end w ≡ false → ((b : Bool) → general_after (Some w) b ≡ b) → ((b : Bool) → asynchronous_after (Some w) b ≡ b)
    → Matches k c → Matches (known_with k (Some w) None) c
matches_own k w c d e g a m = record {
  outstanding = ap (λ b. k.outstanding && not b) d ∙ and_true k.outstanding ∙ m.outstanding;
  general = g k.general ∙ m.general;
  asynchronous = a k.asynchronous ∙ m.asynchronous;
  ended = ap (λ b. k.ended || b) e ∙ or_false k.ended ∙ m.ended;
}

pub known_own : (k : Known) (w : What) (c : Option Core) (made : Bool) → is_delivery w ≡ false → is_end w ≡ false → ((b : Bool) → general_after (Some w) b ≡ b) → ((b : Bool) → asynchronous_after (Some w) b ≡ b)
    → KnownBy k c made → KnownBy (known_with k (Some w) None) c made
known_own k w None true d e g a m = tt
known_own k w None false d e g a m = matches_own k w new_core d e g a m
known_own k w (Some c) true d e g a m = matches_own k w c d e g a m
known_own k w (Some c) false d e g a m = m

-- A thread whose turn it is, which owes nothing: it runs and wasn't woken.
pub record IsRunning (u : ℕ) (k : Known) (st : State) : Type 0 where
  pub knows : KnowsOf u k st
  pub quiet : k.woken ≡ false
  pub owes : owes_delivery (get st.debts u) ≡ false
  pub runs : cancels.is_point (row_at (get st.rows.seats u)) ≡ false

inner_known : (u : ℕ) (k : Known) (st : State) (w : What) → IsTold u w → IsRunning u k st → IsRunning u (known_with k (Some w) None) st
inner_known u k st w i h = record {
  knows = record {
    recorded = known_own k w (core (get st.threads.records u)) (nat_lt u st.threads.next) i.delivery i.end i.general i.asynchronous h.knows.recorded;
    seated = h.knows.seated;
    cancelled = h.knows.cancelled;
    calm = h.knows.calm;
    free = h.knows.free;
    woken = λ e. absurd (false≢true (sym (and_false k.woken) ∙ e));
    waiting = λ e. absurd (false≢true (sym h.runs ∙ e));
  };
  quiet = and_false k.woken;
  owes = h.owes;
  runs = h.runs;
}

own_after : (u : ℕ) (k : Known) (t : Tid) (w : What) → IsTold u w → eqb t.0 u ≡ true → known_after u k (thread_line t w) ≡ known_with k (Some w) None
own_after u k t w i e = ap (λ own. known_with k own (cancel_of u w)) (by_itself u t w e ∙ i.own) ∙ ap (λ r. known_with k (Some w) r) i.cancel

inner_fine : (u : ℕ) (k : Known) (t : Tid) (w : What) → IsTold u w → eqb t.0 u ≡ true → k.woken ≡ false → IsFine u k (thread_line t w)
inner_fine u k t w i e q =
    let own : own_line u (thread_line t w) ≡ Some w = by_itself u t w e ∙ i.own in record {
      outstanding = ap (delivers_outstanding k) own ∙ implied_false (is_delivery w) (can_deliver k) i.delivery;
      effects = ap (has_effect k) i.cancel;
      points = ap (passes_no_point k) own ∙ implied_false (is_point_line w) (not (can_deliver k)) i.point;
      woken = ap (delivers_when_woken k) own ∙ implied_false k.woken (is_delivery w) q;
    }

pub head_and : (a b : Bool) → (a && b) ≡ true → (a ≡ true) × (b ≡ true)
head_and true b e = (refl, e)
head_and false b e = absurd (false≢true e)

-- Inner lines of the thread whose turn it is.
pub told_inner : (u : ℕ) (t : Tid) (st : State) (ws : List What) → eqb t.0 u ≡ true → AreInner ws → (k : Known) → IsRunning u k st → Told u (λ l. IsRunning u l st) k (map (thread_line t) ws)
told_inner u t st [] e inner k h = h
told_inner u t st (w ∷ ws) e inner k h =
    let both : (is_inner w ≡ true) × (list_all is_inner ws ≡ true) = head_and (is_inner w) (list_all is_inner ws) inner in
    let i : IsTold u w = inner_told u w both.0 in (
      inner_fine u k t w i e h.quiet,
      subst (λ (l : Known). Told u (λ m. IsRunning u m st) l (map (thread_line t) ws)) (sym (own_after u k t w i e))
          (told_inner u t st ws e both.1 (known_with k (Some w) None) (inner_known u k st w i h)),
    )

-- Lines of another thread that are no calls.
abbrev is_call_line : What → Bool
is_call_line (what.Call word args r) = true
is_call_line _ = false

no_call_away : (u : ℕ) (w : What) → is_call_line w ≡ false → cancel_of u w ≡ None
no_call_away u (what.Call word args r) e = absurd (false≢true (sym e))
no_call_away u _ e = refl

pub away_line : (u : ℕ) (t : Tid) (w : What) → eqb t.0 u ≡ false → is_call_line w ≡ false → IsAway u (thread_line t w)
away_line u t w e c = record { own = by_another u t w e; cancel = no_call_away u w c }

pub away_inner : (u : ℕ) (t : Tid) (ws : List What) → eqb t.0 u ≡ false → AreInner ws → AllAway u (map (thread_line t) ws)
away_inner u t [] e inner = tt
away_inner u t (w ∷ ws) e inner =
    let both : (is_inner w ≡ true) × (list_all is_inner ws ≡ true) = head_and (is_inner w) (list_all is_inner ws) inner in
    (record { own = by_another u t w e; cancel = (inner_told u w both.0).cancel }, away_inner u t ws e both.1)

-- ---- what an event passes over

-- What becomes of a thread in a turn of this one that doesn't cancel it.
pub record IsPassed (t u : ℕ) (waits : Bool) (st st' : State) : Type 0 where
  pub moved : IsMoved t (suc u) u waits (get st.rows.seats u) (get st'.rows.seats u)
  pub left : IsLeft t u st st'
  pub recorded : IsRecorded u st.threads st'.threads

pub never_next : (u : ℕ) → eqb (suc u) u ≡ true → ⊥
never_next u e = grind (arith, nat_tests)

known_recorded : (k : Known) (a b : Option Core) (m n : Bool) → b ≡ a → n ≡ m → KnownBy k a m → KnownBy k b n
known_recorded k a b m n e f h = subst (λ (x : Option Core). KnownBy k x n) (sym e) (subst (λ (x : Bool). KnownBy k a x) (sym f) h)

gone_known : (k : Known) (c : Core) (a b : Option Core) (m n : Bool) → a ≡ Some c → b ≡ None → n ≡ m → KnownBy k a m → KnownBy k b n
gone_known k c a b true n e f g h = subst (λ (x : Option Core). KnownBy k x n) (sym f) (subst (λ (x : Bool). KnownBy k None x) (sym g) tt)
gone_known k c a b false n e f g h = absurd (subst (λ (x : Option Core). KnownBy k x false) e h)

new_known : (k : Known) (a b : Option Core) (m n : Bool) → m ≡ false → b ≡ Some new_core → n ≡ true → KnownBy k a m → KnownBy k b n
new_known k None b false n e f g h = subst (λ (x : Option Core). KnownBy k x n) (sym f) (subst (λ (x : Bool). KnownBy k (Some new_core) x) (sym g) h)
new_known k (Some c) b false n e f g h = absurd h
new_known k a b true n e f g h = absurd (false≢true (sym e))

pub recorded_known : (u : ℕ) (k : Known) (st st' : State) → IsRecorded u st.threads st'.threads
    → KnownBy k (core (get st.threads.records u)) (nat_lt u st.threads.next) → KnownBy k (core (get st'.threads.records u)) (nat_lt u st'.threads.next)
recorded_known u k st st' (records.stays e f) h = known_recorded k _ _ (nat_lt u st.threads.next) (nat_lt u st'.threads.next) e f h
recorded_known u k st st' (records.reclaimed c e over f g) h = gone_known k c _ _ (nat_lt u st.threads.next) (nat_lt u st'.threads.next) e f g h
recorded_known u k st st' (records.created e f g) h = new_known k (core (get st.threads.records u)) _ (nat_lt u st.threads.next) (nat_lt u st'.threads.next) e f g h

pub new_not_alive : (k : Known) (a : Option Core) (m : Bool) → m ≡ false → KnownBy k a m → is_alive a ≡ false
new_not_alive k None false e h = refl
new_not_alive k (Some c) false e h = absurd h
new_not_alive k a true e h = absurd (false≢true (sym e))

-- A thread that is alive stays so.
pub stays_alive : (u : ℕ) (k : Known) (st st' : State) → IsRecorded u st.threads st'.threads → KnownBy k (core (get st.threads.records u)) (nat_lt u st.threads.next)
    → is_alive (core (get st.threads.records u)) ≡ true → core (get st'.threads.records u) ≡ core (get st.threads.records u)
stays_alive u k st st' (records.stays e f) h alive = e
stays_alive u k st st' (records.reclaimed c e over f g) h alive = absurd (false≢true (sym over ∙ sym (ap is_alive e) ∙ alive))
stays_alive u k st st' (records.created e f g) h alive = absurd (false≢true (sym (new_not_alive k _ (nat_lt u st.threads.next) e h) ∙ alive))

pub cancelled_alive : (c : Option Core) → is_cancelled c ≡ true → is_alive c ≡ true
cancelled_alive None e = absurd (false≢true e)
cancelled_alive (Some c) e = (head_and (is_none c.ended) (c.mode.pending && c.mode.general) e).0

moved_some : (t u : ℕ) (waits : Bool) (a b : Option Seat) → IsMoved t (suc u) u waits a b → eqb t u ≡ false → is_some b ≡ true → is_some a ≡ true
moved_some t u waits a b (seats.same e) other s = sym (same_some a b e) ∙ s
moved_some t u waits a b (seats.woken e k) other s = e
moved_some t u waits a b (seats.stopped e k) other s = absurd (false≢true (sym other ∙ e))
moved_some t u waits a b (seats.created e k) other s = absurd (never_next u e)

moved_calm : (t u : ℕ) (waits : Bool) (a b : Option Seat) → IsMoved t (suc u) u waits a b → eqb t u ≡ false → is_calm (row_at a) ≡ true → is_calm (row_at b) ≡ true
moved_calm t u waits a b (seats.same e) other s = ap is_calm (same_row a b e) ∙ s
moved_calm t u waits a b (seats.woken e k) other s = k
moved_calm t u waits a b (seats.stopped e k) other s = absurd (false≢true (sym other ∙ e))
moved_calm t u waits a b (seats.created e k) other s = absurd (never_next u e)

moved_point : (t u : ℕ) (waits : Bool) (a b : Option Seat) → IsMoved t (suc u) u waits a b → eqb t u ≡ false → cancels.is_point (row_at b) ≡ true → cancels.is_point (row_at a) ≡ true
moved_point t u waits a b (seats.same e) other s = sym (ap cancels.is_point (same_row a b e)) ∙ s
moved_point t u waits a b (seats.woken e k) other s = absurd (false≢true (sym (calm_no_point (row_at b) k) ∙ s))
moved_point t u waits a b (seats.stopped e k) other s = absurd (false≢true (sym other ∙ e))
moved_point t u waits a b (seats.created e k) other s = absurd (never_next u e)

owed_before : (a b : Option Debt) (o : Option Seat) (w : Option Wait) → IsOwed a b o w → owes_delivery b ≡ true → owes_delivery a ≡ true
owed_before a b o w (owed.stays e) f = sym (ap owes_delivery e) ∙ f
owed_before a b o w (owed.freed e k) f = absurd (false≢true (sym e ∙ f))

bound_is : (a : Option Debt) (o : Option Seat) (w : Option Wait) → owes_delivery a ≡ true → is_calm (row_at o) ≡ true → w ≡ None → is_bound a o w ≡ true
bound_is a o w e f g = ap (λ b. b && (is_calm (row_at o) && is_none w)) e ∙ ap (λ b. b && is_none w) f ∙ ap is_none g

owed_after : (a b : Option Debt) (o : Option Seat) (w : Option Wait) → IsOwed a b o w → is_bound a o w ≡ true → owes_delivery a ≡ true → owes_delivery b ≡ true
owed_after a b o w (owed.stays e) f g = ap owes_delivery e ∙ g
owed_after a b o w (owed.freed e k) f g = absurd (false≢true (sym k ∙ f))

pub passes_others : (t u : ℕ) (waits : Bool) (k : Known) (st st' : State) → eqb t u ≡ false → IsPassed t u waits st st' → KnowsOf u k st → KnowsOf u k st'
passes_others t u waits k st st' other p h =
    let d : (owes_delivery (get st'.debts u) ≡ true → owes_delivery (get st.debts u) ≡ true) = owed_before _ _ _ _ p.left.debts in record {
      recorded = recorded_known u k st st' p.recorded h.recorded;
      seated = λ e.
          let alive : is_alive (core (get st.threads.records u)) ≡ true = h.seated (moved_some t u waits _ _ p.moved other e) in
          ap is_alive (stays_alive u k st st' p.recorded h.recorded alive) ∙ alive;
      cancelled = λ e. ap is_cancelled (stays_alive u k st st' p.recorded h.recorded (cancelled_alive _ (h.cancelled (d e)))) ∙ h.cancelled (d e);
      calm = λ e. moved_calm t u waits _ _ p.moved other (h.calm (d e));
      free = λ e. p.left.waits other (h.free (d e));
      woken = λ e. let f : owes_delivery (get st.debts u) ≡ true = h.woken e in owed_after _ _ _ _ p.left.debts (bound_is _ _ _ f (h.calm f) (h.free f)) f;
      waiting = λ e. h.waiting (moved_point t u waits _ _ p.moved other e);
    }

self_some : (t u : ℕ) (waits : Bool) (a b : Option Seat) → IsMoved t (suc u) u waits a b → is_some a ≡ true → is_some b ≡ true → is_some a ≡ true
self_some t u waits a b m s e = s

self_point : (t u : ℕ) (waits : Bool) (a b : Option Seat) → IsMoved t (suc u) u waits a b → cancels.is_point (row_at a) ≡ false → cancels.is_point (row_at b) ≡ true → waits ≡ true
self_point t u waits a b (seats.same e) s f = absurd (false≢true (sym s ∙ sym (ap cancels.is_point (same_row a b e)) ∙ f))
self_point t u waits a b (seats.woken e k) s f = absurd (false≢true (sym (calm_no_point (row_at b) k) ∙ f))
self_point t u waits a b (seats.stopped e k) s f = k f
self_point t u waits a b (seats.created e k) s f = absurd (never_next u e)

pub owed_not : (a b : Option Debt) (o : Option Seat) (w : Option Wait) → IsOwed a b o w → owes_delivery a ≡ false → owes_delivery b ≡ false
owed_not a b o w (owed.stays e) f = ap owes_delivery e ∙ f
owed_not a b o w (owed.freed e k) f = e

not_true : (b : Bool) → (b ≡ true → ⊥) → b ≡ false
not_true true f = absurd (f refl)
not_true false f = refl

-- The thread itself, which was there, after a step that may have made it wait.
pub passes_itself : (t u : ℕ) (waits : Bool) (k : Known) (st st' : State) → IsPassed t u waits st st' → is_some (get st.rows.seats u) ≡ true → (waits ≡ true → is_some_line is_waiting_point k.last ≡ true)
    → IsRunning u k st → KnowsOf u k st'
passes_itself t u waits k st st' p there w h =
    let off : owes_delivery (get st'.debts u) ≡ false = owed_not _ _ _ _ p.left.debts h.owes in record {
      recorded = recorded_known u k st st' p.recorded h.knows.recorded;
      seated = λ e.
          let alive : is_alive (core (get st.threads.records u)) ≡ true = h.knows.seated there in ap is_alive (stays_alive u k st st' p.recorded h.knows.recorded alive) ∙ alive;
      cancelled = λ e. absurd (false≢true (sym off ∙ e));
      calm = λ e. absurd (false≢true (sym off ∙ e));
      free = λ e. absurd (false≢true (sym off ∙ e));
      woken = λ e. absurd (false≢true (sym h.quiet ∙ e));
      waiting = λ e. w (self_point t u waits _ _ p.moved h.runs e);
    }

pub still_running : (t u : ℕ) (k : Known) (st st' : State) → IsPassed t u false st st' → is_some (get st.rows.seats u) ≡ true → IsRunning u k st → IsRunning u k st'
still_running t u k st st' p there h = record {
  knows = passes_itself t u false k st st' p there (λ e. absurd (false≢true e)) h;
  quiet = h.quiet;
  owes = owed_not _ _ _ _ p.left.debts h.owes;
  runs = not_true _ (λ e. false≢true (self_point t u false _ _ p.moved h.runs e));
}
