-- Lines with the waiters that signals take in a state, read along one thread.
use Rattle.std.proofs.Common.{◌≡◌, ℕ, ◌==◌, Bool, true, false, ◌||◌, List, [], ◌∷◌, ◌++◌, map, Option, Some, None, refl, sym, ap, ◌∙◌, subst}
use Rattle.std.specs.List.{fold, list_all}
use Rattle.std.specs.Option.{option_map}
use Rattle.std.proofs.lemmas.Bool.{false≢true}
use Rattle.thr_values.specs.declared.number.NameId.{NameId}
use Rattle.thr_values.specs.declared.number.Tid.{Tid}
use Rattle.thr_values.specs.declared.history.Entry.{Entry}
use Rattle.thr_values.specs.declared.history.What.{What}
use Rattle.thr_values.specs.declared.history.What.TheVariants as what
use Rattle.thr_parts.specs.Waking.{signal}
use Rattle.thr_laws.specs.Lines.{fits, implies, line_but_gift, own_line}
use Rattle.thr_laws.specs.Known.{cancel_of, is_wakes}
use Rattle.thr_laws.proofs.ReadingLaws.{both, and_both, AllLines}
use Rattle.thr_model.specs.States.{State}
use Rattle.thr_model.specs.Calls.{Gifts}
use Rattle.thr_model.specs.Turns.{thread_line, gift_lines}
use Rattle.thr_cancels.proofs.InnerLines.{is_inner, AreInner}
use Rattle.thr_ports.specs.Signals.{Waiter, Elsewhere, Marked, entries_of, signalled_in, notified_in, time_in, is_notified, is_due, after_other, is_taken, after_own, after_line, waiter_after, takes_a_waiter, has_left, stays_pending, goes_on, goes_on_with, waits_rightly}

-- The waiter that a signal on the condition that is there takes in this state.
abbrev pub taken_in : State → (signalled : Option NameId) → Option ℕ
taken_in st None = None
taken_in st (Some c) = option_map (λ (w : Tid × NameId). w.0.0) (signal st.conds st.rows c).waiter

-- The line with the waiter that it takes in this state.
abbrev pub mark : State → Entry → Marked
mark st e = record { entry = e; takes = taken_in st (signalled_in e.what) }

abbrev pub marked : State → List Entry → List Marked
marked st es = map (mark st) es

pub marked_entries : (st : State) (es : List Entry) → entries_of (marked st es) ≡ es
marked_entries st [] = refl
marked_entries st (e ∷ es) = ap (λ l. e ∷ l) (marked_entries st es)

-- Each of these lines passes, and this holds of what has come of the thread's wait after them.
abbrev pub Reads : ℕ → State → (Waiter → Type 0) → Waiter → List Entry → Type 0
Reads u st P w [] = P w
Reads u st P w (e ∷ es) = (waits_rightly u w (mark st e) ≡ true) × Reads u st P (waiter_after u w (mark st e)) es

pub reads_then : (u : ℕ) (st : State) (P Q : Waiter → Type 0) → ((w : Waiter) → P w → Q w) → (w : Waiter) (es : List Entry) → Reads u st P w es → Reads u st Q w es
reads_then u st P Q f w [] h = f w h
reads_then u st P Q f w (e ∷ es) h = (h.0, reads_then u st P Q f (waiter_after u w (mark st e)) es h.1)

pub reads_append : (u : ℕ) (st : State) (P : Waiter → Type 0) (w : Waiter) (es fs : List Entry) → Reads u st (λ v. Reads u st P v fs) w es → Reads u st P w (es ++ fs)
reads_append u st P w [] fs h = h
reads_append u st P w (e ∷ es) fs h = (h.0, reads_append u st P (waiter_after u w (mark st e)) es fs h.1)

-- ---- lines by which nothing comes

-- The thread does nothing in the line, and no signal, broadcast, time or cancel of the thread comes by it.
pub record IsIdle (u : ℕ) (e : Entry) : Type 0 where
  pub own : own_line u e ≡ None
  pub cancel : cancel_of u e.what ≡ None
  pub signal : signalled_in e.what ≡ None
  pub broadcast : notified_in e.what ≡ None
  pub time : time_in e.who e.what ≡ None

abbrev pub AllIdle : ℕ → List Entry → Type 0
AllIdle u es = AllLines (IsIdle u) es

taken_none : (st : State) (signalled : Option NameId) → signalled ≡ None → taken_in st signalled ≡ None
taken_none st signalled e = ap (taken_in st) e

after_nothing : (w : Waiter) (comes due wakes : Bool) → comes ≡ false → due ≡ false → wakes ≡ false → after_other w comes due wakes ≡ w
after_nothing w comes due wakes a b c = ap (λ x. after_other w x due wakes) a ∙ ap (λ x. after_other w false x wakes) b ∙ ap (λ x. after_other w false false x) c

pub idle_after : (u : ℕ) (st : State) (w : Waiter) (e : Entry) → IsIdle u e → waiter_after u w (mark st e) ≡ w
idle_after u st w e i =
    ap (after_line u w (mark st e)) i.own
    ∙ after_nothing w (is_taken u (taken_in st (signalled_in e.what)) || is_notified (notified_in e.what) w) (is_due (time_in e.who e.what) w) (is_wakes (cancel_of u e.what))
    (ap (λ o. is_taken u (taken_in st o) || is_notified (notified_in e.what) w) i.signal ∙ ap (λ o. is_notified o w) i.broadcast)
    (ap (λ o. is_due o w) i.time) (ap is_wakes i.cancel)

pub always_implied : (b : Bool) → implies b true ≡ true
always_implied true = refl
always_implied false = refl

pub idle_passes : (u : ℕ) (st : State) (w : Waiter) (e : Entry) → IsIdle u e → waits_rightly u w (mark st e) ≡ true
idle_passes u st w e i =
    and_both (takes_a_waiter u w (signalled_in e.what) (taken_in st (signalled_in e.what))) _
    (ap (λ o. takes_a_waiter u w o (taken_in st o)) i.signal)
    (and_both (implies (has_left w) (stays_pending (cancel_of u e.what))) (goes_on w (own_line u e))
    (ap (λ o. implies (has_left w) (stays_pending o)) i.cancel ∙ always_implied (has_left w)) (ap (goes_on w) i.own))

pub reads_idle : (u : ℕ) (st : State) (P : Waiter → Type 0) (w : Waiter) (es : List Entry) → AllIdle u es → P w → Reads u st P w es
reads_idle u st P w [] i h = h
reads_idle u st P w (e ∷ es) i h =
    (idle_passes u st w e i.0, subst (λ v. Reads u st P v es) (sym (idle_after u st w e i.0)) (reads_idle u st P w es i.1 h))

-- ---- kinds of lines

-- A call, whatever its reply.
abbrev pub is_call_line : What → Bool
is_call_line (what.Call call args r) = true
is_call_line _ = false

pub record SaysNothing (u : ℕ) (w : What) : Type 0 where
  pub cancel : cancel_of u w ≡ None
  pub signal : signalled_in w ≡ None
  pub broadcast : notified_in w ≡ None

-- A line that is no call says nothing of waits.
pub no_call_says : (u : ℕ) (w : What) → is_call_line w ≡ false → SaysNothing u w
no_call_says u (what.Call call args r) e = absurd (false≢true (sym e))
no_call_says u _ e = record { cancel = refl; signal = refl; broadcast = refl }

inner_no_call : (w : What) → is_inner w ≡ true → is_call_line w ≡ false
inner_no_call (what.Call call args r) e = absurd (false≢true e)
inner_no_call _ e = refl

pub by_another : (u : ℕ) (t : Tid) (w : What) → (t.0 == u) ≡ false → own_line u (thread_line t w) ≡ None
by_another u t w e = ap (λ b. line_but_gift b w) e

-- A line of another thread that says nothing of waits.
pub away_idle : (u : ℕ) (t : Tid) (w : What) → (t.0 == u) ≡ false → SaysNothing u w → IsIdle u (thread_line t w)
away_idle u t w e s = record { own = by_another u t w e; cancel = s.cancel; signal = s.signal; broadcast = s.broadcast; time = refl }

pub inner_idle : (u : ℕ) (t : Tid) (ws : List What) → (t.0 == u) ≡ false → AreInner ws → AllIdle u (map (thread_line t) ws)
inner_idle u t [] e inner = tt
inner_idle u t (w ∷ ws) e inner =
    let b = both (is_inner w) (list_all is_inner ws) inner in
    (away_idle u t w e (no_call_says u w (inner_no_call w b.0)), inner_idle u t ws e b.1)

pub gifts_idle : (u : ℕ) (gs : Gifts) → AllIdle u (gift_lines gs)
gifts_idle u [] = tt
gifts_idle u (g ∷ gs) = (record { own = gift (g.0.0 == u); cancel = refl; signal = refl; broadcast = refl; time = refl }, gifts_idle u gs)
  where
    gift : (b : Bool) → line_but_gift b (what.Gift g.1) ≡ None
    gift true = refl
    gift false = refl

pub idle_append : (u : ℕ) (xs ys : List Entry) → AllIdle u xs → AllIdle u ys → AllIdle u (xs ++ ys)
idle_append u [] ys h k = k
idle_append u (x ∷ xs) ys h k = (h.0, idle_append u xs ys h.1 k)

-- ---- lines of the thread itself

own_no_call : (w : What) → is_call_line w ≡ false → after_own w ≡ Elsewhere
own_no_call (what.Call call args r) e = absurd (false≢true (sym e))
own_no_call _ e = refl

-- An own line that is no call comes rightly where the thread may go on with it, and then it waits nowhere.
pub own_passes : (u : ℕ) (st : State) (t : Tid) (w : Waiter) (x : What) → own_line u (thread_line t x) ≡ Some x → SaysNothing u x → goes_on_with w x ≡ true → waits_rightly u w (mark st (thread_line t x)) ≡ true
own_passes u st t w x own s g =
    and_both (takes_a_waiter u w (signalled_in x) (taken_in st (signalled_in x))) _
    (ap (λ o. takes_a_waiter u w o (taken_in st o)) s.signal)
    (and_both (implies (has_left w) (stays_pending (cancel_of u x))) (goes_on w (own_line u (thread_line t x)))
    (ap (λ o. implies (has_left w) (stays_pending o)) s.cancel ∙ always_implied (has_left w)) (ap (goes_on w) own ∙ g))

pub own_after : (u : ℕ) (st : State) (t : Tid) (w : Waiter) (x : What) → own_line u (thread_line t x) ≡ Some x → is_call_line x ≡ false → waiter_after u w (mark st (thread_line t x)) ≡ Elsewhere
own_after u st t w x own n = ap (after_line u w (mark st (thread_line t x))) own ∙ own_no_call x n

inner_own : (u : ℕ) (t : Tid) (w : What) → (t.0 == u) ≡ true → is_inner w ≡ true → own_line u (thread_line t w) ≡ Some w
inner_own u t w e i = ap (λ b. line_but_gift b w) e ∙ no_gift w i
  where
    no_gift : (w : What) → is_inner w ≡ true → line_but_gift true w ≡ Some w
    no_gift (what.Gift m) i = absurd (false≢true i)
    no_gift _ i = refl

-- Its inner lines leave it waiting nowhere.
pub reads_inner : (u : ℕ) (st : State) (t : Tid) (P : Waiter → Type 0) (ws : List What) → (t.0 == u) ≡ true → AreInner ws → P Elsewhere → Reads u st P Elsewhere (map (thread_line t) ws)
reads_inner u st t P [] e inner h = h
reads_inner u st t P (w ∷ ws) e inner h =
    let b = both (is_inner w) (list_all is_inner ws) inner in
    let own = inner_own u t w e b.0 in
    let n = inner_no_call w b.0 in (
      own_passes u st t Elsewhere w own (no_call_says u w n) refl,
      subst (λ v. Reads u st P v (map (thread_line t) ws)) (sym (own_after u st t Elsewhere w own n)) (reads_inner u st t P ws e b.1 h),
    )

-- ---- all lines of a history

pub reads_fit : (u : ℕ) (st : State) (P : Waiter → Type 0) (w : Waiter) (es : List Entry) → Reads u st P w es
    → (fits (waiter_after u) (waits_rightly u) w (marked st es) ≡ true) × P (fold (waiter_after u) w (marked st es))
reads_fit u st P w [] h = (refl, h)
reads_fit u st P w (e ∷ es) h =
    let rest = reads_fit u st P (waiter_after u w (mark st e)) es h.1 in
    (and_both (waits_rightly u w (mark st e)) (fits (waiter_after u) (waits_rightly u) (waiter_after u w (mark st e)) (marked st es)) h.0 rest.0, rest.1)

pub fits_append : (u : ℕ) (w : Waiter) (xs ys : List Marked) → fits (waiter_after u) (waits_rightly u) w xs ≡ true
    → fits (waiter_after u) (waits_rightly u) (fold (waiter_after u) w xs) ys ≡ true → fits (waiter_after u) (waits_rightly u) w (xs ++ ys) ≡ true
fits_append u w [] ys h k = k
fits_append u w (x ∷ xs) ys h k =
    let b = both (waits_rightly u w x) (fits (waiter_after u) (waits_rightly u) (waiter_after u w x) xs) h in
    and_both (waits_rightly u w x) (fits (waiter_after u) (waits_rightly u) (waiter_after u w x) (xs ++ ys)) b.0 (fits_append u (waiter_after u w x) xs ys b.1 k)
