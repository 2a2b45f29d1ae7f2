-- The line of a call.
use Rattle.std.proofs.Common.{◌≡◌, ℕ, ℤ, Bool, true, false, not, ◌&&◌, ◌||◌, eqb, List, Option, Some, None, refl, sym, ◌∙◌, ap, subst}
use Rattle.std.proofs.lemmas.Bool.{false≢true}
use Rattle.std.specs.Prelude.{is_some, is_none, nat_lt}
use Rattle.thr_values.specs.declared.number.Tid.{Tid}
use Rattle.thr_values.specs.declared.call.Arg.{Arg}
use Rattle.thr_values.specs.declared.call.CallWord.{CallWord}
use Rattle.thr_values.specs.declared.reply.Reply.{Reply}
use Rattle.thr_values.specs.declared.history.What.{What}
use Rattle.thr_values.specs.declared.history.What.TheVariants as what
use Rattle.thr_values.specs.declared.history.Entry.{Entry}
use Rattle.thr_syntax.specs.declared.dce.DceCall.{DceCall}
use Rattle.thr_syntax.specs.declared.dce.DceCall.TheVariants as dce
use Rattle.thr_syntax.specs.declared.tree.Script.{Script}
use Rattle.thr_remainder.specs.Calls.{shape_of, arguments, is_point}
use Rattle.thr_parts.specs.Tables.{get, IsCanonical}
use Rattle.thr_parts.specs.Replies.{is_blocks}
use Rattle.thr_laws.specs.Lines.{implies, own_line, is_some_line, is_delivery}
use Rattle.thr_laws.specs.Known.{Known, cancel_of, cancel_by, is_to_deliver, is_wakes, general_by, asynchronous_by, known_with, known_after}
use Rattle.thr_laws.specs.CancelLaw.{can_deliver, delivers_outstanding, has_effect, passes_no_point, delivers_when_woken}
use Rattle.thr_model.specs.States.{State}
use Rattle.thr_model.specs.Calls.{answered}
use Rattle.thr_model.specs.Turns.{thread_line}
use Rattle.thr_cancels.proofs.CallSeats.{waits_there, creates_one, answered_moves}
use Rattle.thr_cancels.proofs.CallOwed.{cancels_one, answered_left}
use Rattle.thr_cancels.proofs.Records.{core, changes_records, answered_recorded}
use Rattle.thr_cancels.proofs.Agreement.{KnowsOf, IsFine, IsPassed, IsRunning, known_own, implied_false, passes_others, passes_itself, still_running, nothing_new, by_itself, by_another, and_false}

-- What the line tells of cancels of the thread: none, or one that is not to be delivered.
pub record IsNoMark (u : ℕ) (k : Known) (w : What) (r : Option Reply) : Type 0 where
  pub cancel : cancel_of u w ≡ r
  pub delivers : is_to_deliver r ≡ false
  pub wakes : is_wakes r ≡ false
  pub effects : has_effect k r ≡ true

-- The line passes, and what is known after it agrees with the state after the call. Where the thread itself asked and doesn't
-- wait, it still runs.
pub record CallTold (t u : ℕ) (k : Known) (e : Entry) (blocks : Bool) (st' : State) : Type 0 where
  pub fine : IsFine u k e
  pub knows : KnowsOf u (known_after u k e) st'
  pub runs : eqb t u ≡ true → blocks ≡ false → IsRunning u (known_after u k e) st'

with_marks : Known → Option What → Bool → Bool → Known
with_marks k own d w = record (known_with k own None) { outstanding = d || (k.outstanding && not (is_some_line is_delivery own)); woken = w || (k.woken && is_none own) }

no_mark : (k : Known) (own : Option What) (r : Option Reply) → is_to_deliver r ≡ false → is_wakes r ≡ false → known_with k own r ≡ known_with k own None
unfolding with_marks
no_mark k own r d w = ap (λ x. with_marks k own x (is_wakes r)) d ∙ ap (λ x. with_marks k own false x) w

-- A call of another thread.
pub other_call : (t : Tid) (u : ℕ) (waits blocks : Bool) (k : Known) (w : What) (r : Option Reply) (st st' : State) → eqb t.0 u ≡ false → IsNoMark u k w r → IsPassed t.0 u waits st st' → KnowsOf u k st
    → CallTold t.0 u k (thread_line t w) blocks st'
other_call t u waits blocks k w r st st' other m p h =
    let own : own_line u (thread_line t w) ≡ None = by_another u t w other in record {
      fine = record {
        outstanding = ap (delivers_outstanding k) own;
        effects = ap (has_effect k) m.cancel ∙ m.effects;
        points = ap (passes_no_point k) own;
        woken = ap (delivers_when_woken k) own;
      };
      knows = subst (λ (l : Known). KnowsOf u l st')
          (sym (ap (λ o. known_with k o (cancel_of u w)) own ∙ ap (λ x. known_with k None x) m.cancel ∙ no_mark k None r m.delivers m.wakes ∙ nothing_new k))
          (passes_others t.0 u waits k st st' other p h);
      runs = λ e. absurd (false≢true (sym other ∙ e));
    }

-- A call of the thread itself that sets no cancelability.
pub record IsOwnCall (u : ℕ) (k : Known) (w : What) (word : CallWord) (args : List Arg) (y : Reply) : Type 0 where
  pub line : w ≡ what.Call word args y
  pub general : (b : Bool) → general_by word args b ≡ b
  pub asynchronous : (b : Bool) → asynchronous_by word args b ≡ b
  pub point : is_point word ≡ true → can_deliver k ≡ false

swapped : (a b : Bool) → (a && b) ≡ true → (b && a) ≡ true
swapped true true e = refl
swapped true false e = e
swapped false b e = absurd (false≢true e)

implied : (a b : Bool) → (a ≡ true → b ≡ false) → implies a (not b) ≡ true
implied true true f = absurd (false≢true (sym (f refl)))
implied true false f = refl
implied false b f = refl

called_running : (u : ℕ) (k : Known) (st : State) (word : CallWord) (args : List Arg) (y : Reply) → ((b : Bool) → general_by word args b ≡ b) → ((b : Bool) → asynchronous_by word args b ≡ b) → IsRunning u k st
    → IsRunning u (known_with k (Some (what.Call word args y)) None) st
called_running u k st word args y g a h = record {
  knows = record {
    recorded = known_own k (what.Call word args y) (core (get st.threads.records u)) (nat_lt u st.threads.next) refl refl g a h.knows.recorded;
    seated = h.knows.seated;
    cancelled = h.knows.cancelled;
    calm = h.knows.calm;
    free = h.knows.free;
    woken = λ e. absurd (false≢true (sym (and_false k.woken) ∙ e));
    waiting = λ e. absurd (false≢true (sym h.runs ∙ e));
  };
  quiet = and_false k.woken;
  owes = h.owes;
  runs = h.runs;
}

blocks_not : (word : CallWord) (y : Reply) → is_blocks y ≡ false → (is_blocks y && is_point word) ≡ false
blocks_not word y e = ap (λ b. b && is_point word) e

pub own_call_fine : (t : Tid) (u : ℕ) (k : Known) (word : CallWord) (args : List Arg) (y : Reply) → eqb t.0 u ≡ true → has_effect k (cancel_of u (what.Call word args y)) ≡ true → k.woken ≡ false
    → (is_point word ≡ true → can_deliver k ≡ false) → IsFine u k (thread_line t (what.Call word args y))
own_call_fine t u k word args y e f q p =
    let own : own_line u (thread_line t (what.Call word args y)) ≡ Some (what.Call word args y) = by_itself u t (what.Call word args y) e in record {
      outstanding = ap (delivers_outstanding k) own;
      effects = f;
      points = ap (passes_no_point k) own ∙ implied (is_point word) (can_deliver k) p;
      woken = ap (delivers_when_woken k) own ∙ implied_false k.woken false q;
    }

pub own_call : (t : Tid) (u : ℕ) (k : Known) (word : CallWord) (args : List Arg) (y : Reply) (r : Option Reply) (st st' : State) → eqb t.0 u ≡ true → IsNoMark u k (what.Call word args y) r
    → ((b : Bool) → general_by word args b ≡ b) → ((b : Bool) → asynchronous_by word args b ≡ b) → (is_point word ≡ true → can_deliver k ≡ false)
    → IsPassed t.0 u (is_blocks y && is_point word) st st' → is_some (get st.rows.seats u) ≡ true → IsRunning u k st → CallTold t.0 u k (thread_line t (what.Call word args y)) (is_blocks y) st'
own_call t u k word args y r st st' e m g a p passed there h =
    let w : What = what.Call word args y in
    let own : own_line u (thread_line t w) ≡ Some w = by_itself u t w e in
    let after : known_after u k (thread_line t w) ≡ known_with k (Some w) None =
    ap (λ o. known_with k o (cancel_of u w)) own ∙ ap (λ x. known_with k (Some w) x) m.cancel ∙ no_mark k (Some w) r m.delivers m.wakes in
    let running : IsRunning u (known_with k (Some w) None) st = called_running u k st word args y g a h in record {
      fine = own_call_fine t u k word args y e (ap (has_effect k) m.cancel ∙ m.effects) h.quiet p;
      knows = subst (λ (l : Known). KnowsOf u l st') (sym after)
          (passes_itself t.0 u (is_blocks y && is_point word) (known_with k (Some w) None) st st' passed there (λ f. swapped (is_blocks y) (is_point word) f) running);
      runs = λ _ off. subst (λ (l : Known). IsRunning u l st') (sym after)
          (still_running t.0 u (known_with k (Some w) None) st st' (subst (λ (x : Bool). IsPassed t.0 u x st st') (blocks_not word y off) passed) there running);
    }

-- ---- calls that do nothing special

abbrev pub sets_one : DceCall → Bool
sets_one (dce.Setcancel on v) = true
sets_one (dce.Setasynccancel on v) = true
sets_one _ = false

pub cancels_nobody : (u : ℕ) (call : DceCall) (args : List Arg) (y : Reply) → cancels_one call ≡ false → cancel_by u (shape_of call).word args y ≡ None
unfolding shape_of
cancels_nobody u (dce.Cancel e) args y k = absurd (false≢true (sym k))
cancels_nobody u _ args y k = refl

pub sets_no_general : (call : DceCall) (args : List Arg) → sets_one call ≡ false → (b : Bool) → general_by (shape_of call).word args b ≡ b
unfolding shape_of
sets_no_general (dce.Setcancel on v) args k b = absurd (false≢true (sym k))
sets_no_general (dce.Setasynccancel on v) args k b = absurd (false≢true (sym k))
sets_no_general _ args k b = refl

pub sets_no_asynchronous : (call : DceCall) (args : List Arg) → sets_one call ≡ false → (b : Bool) → asynchronous_by (shape_of call).word args b ≡ b
unfolding shape_of
sets_no_asynchronous (dce.Setcancel on v) args k b = absurd (false≢true (sym k))
sets_no_asynchronous (dce.Setasynccancel on v) args k b = absurd (false≢true (sym k))
sets_no_asynchronous _ args k b = refl

no_mark_is : (u : ℕ) (k : Known) (call : DceCall) (args : List Arg) (y : Reply) → cancels_one call ≡ false → IsNoMark u k (what.Call (shape_of call).word args y) None
no_mark_is u k call args y e = record { cancel = cancels_nobody u call args y e; delivers = refl; wakes = refl; effects = refl }

pub passed_by : (s : Script) (st : State) (t : Tid) (call : DceCall) (ns : List ℤ) (u : ℕ) → creates_one call ≡ false → cancels_one call ≡ false → changes_records call ≡ false → IsCanonical st.rows.seats
    → IsPassed t.0 u (waits_there call (answered s st t call ns).reply) st (answered s st t call ns).state
passed_by s st t call ns u a b c h = record { moved = answered_moves s st t call ns u a h; left = answered_left s st t call ns u b h; recorded = answered_recorded s st t call ns u c }

-- Where the thread itself asks, it runs, and at a point it has no cancel to deliver.
pub record IsAsking (t u : ℕ) (k : Known) (st : State) (call : DceCall) : Type 0 where
  pub there : eqb t u ≡ true → is_some (get st.rows.seats u) ≡ true
  pub runs : eqb t u ≡ true → IsRunning u k st
  pub point : eqb t u ≡ true → is_point (shape_of call).word ≡ true → can_deliver k ≡ false

pub told_by : (t : Tid) (u : ℕ) (k : Known) (call : DceCall) (args : List Arg) (y : Reply) (r : Option Reply) (st st' : State) (b : Bool) → eqb t.0 u ≡ b → sets_one call ≡ false
    → IsNoMark u k (what.Call (shape_of call).word args y) r → IsPassed t.0 u (waits_there call y) st st' → IsAsking t.0 u k st call → KnowsOf u k st
    → CallTold t.0 u k (thread_line t (what.Call (shape_of call).word args y)) (is_blocks y) st'
told_by t u k call args y r st st' false e sets m p asks h = other_call t u (waits_there call y) (is_blocks y) k _ r st st' e m p h
told_by t u k call args y r st st' true e sets m p asks h =
    own_call t u k (shape_of call).word args y r st st' e m (sets_no_general call args sets) (sets_no_asynchronous call args sets) (asks.point e) p (asks.there e) (asks.runs e)

pub plain_told : (s : Script) (st : State) (t : Tid) (call : DceCall) (ns : List ℤ) (u : ℕ) (k : Known) → creates_one call ≡ false → cancels_one call ≡ false → changes_records call ≡ false → sets_one call ≡ false
    → IsCanonical st.rows.seats → IsAsking t.0 u k st call → KnowsOf u k st
    → CallTold t.0 u k (thread_line t (what.Call (shape_of call).word (arguments call ns) (answered s st t call ns).reply)) (is_blocks (answered s st t call ns).reply) (answered s st t call ns).state
plain_told s st t call ns u k a b c d canonical asks h =
    told_by t u k call (arguments call ns) (answered s st t call ns).reply None st (answered s st t call ns).state (eqb t.0 u) refl d (no_mark_is u k call (arguments call ns) (answered s st t call ns).reply b)
    (passed_by s st t call ns u a b c canonical) asks h
