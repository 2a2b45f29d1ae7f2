-- The lines of a history fix its events, whatever the number of processors.
use Rattle.std.proofs.Common.{◌≡◌, ℕ, ◌+◌, List, [], ◌∷◌, ◌++◌, reverse, Bool, true, false, Option, Some, None, refl, sym, ◌∙◌, ap, subst}
use Rattle.std.specs.Prelude.{if◌then◌else◌, nat_lt}
use Rattle.std.specs.Option.{unwrap_or}
use Rattle.std.proofs.lemmas.List.{append_assoc, append-nil, append_cancel_left, reverse-append, reverse-reverse}
use Rattle.thr_values.specs.declared.number.Tid.{Tid}
use Rattle.thr_values.specs.declared.event.Event.{Event}
use Rattle.thr_values.specs.declared.event.Event.TheVariants as event
use Rattle.thr_values.specs.declared.history.Who.{Who}
use Rattle.thr_values.specs.declared.history.Who.TheVariants as who
use Rattle.thr_values.specs.declared.history.Entry.{Entry}
use Rattle.thr_syntax.specs.declared.tree.Script.{Script}
use Rattle.thr_parts.specs.Tables.{IsCanonical}
use Rattle.thr_parts.specs.Rows.{Rows}
use Rattle.thr_parts.specs.Dispatch.{running}
use Rattle.thr_parts.proofs.RunningLaws.{one_processor}
use Rattle.thr_model.specs.States.{State, opening}
use Rattle.thr_model.specs.Turns.{Made}
use Rattle.thr_model.specs.Events.{dispatch_of, made_by}
use Rattle.thr_model.specs.Histories.{Execution, at_opening, History, opened, then_event, turn_count}
use Rattle.thr_model.proofs.RowsKept.{history_canonical, made_canonical}
use Rattle.thr_model.proofs.FirstLines.{IsOf, Names, made_names}

-- ---- the first line names one event

-- Whose the first line is, of lines with more behind them.
first_of : (w : Who) (lines more : List Entry) → IsOf w lines → IsOf w (lines ++ more)
first_of w [] more h = absurd h
first_of w (l ∷ ls) more h = h

same_first : (v w : Who) (lines : List Entry) → IsOf v lines → IsOf w lines → v ≡ w
same_first v w [] h i = absurd h
same_first v w (l ∷ ls) h i = sym h ∙ i

no_line : (w : Who) → IsOf w [] → ⊥
no_line w h = h

processor_in : Who → ℕ → ℕ
processor_in (who.Proc p) d = p
processor_in (who.Thread t) d = d
processor_in who.Clock d = d

same_processor : (p q : ℕ) → who.Proc p ≡ who.Proc q → p ≡ q
unfolding processor_in
same_processor p q e = ap (λ w. processor_in w p) e

thread_in : Who → Tid → Tid
thread_in (who.Proc p) d = d
thread_in (who.Thread t) d = t
thread_in who.Clock d = d

same_thread : (t u : Tid) → who.Thread t ≡ who.Thread u → t ≡ u
unfolding thread_in
same_thread t u e = ap (λ w. thread_in w t) e

more_names : (rs : Rows) (e : Event) (lines more : List Entry) → Names rs e lines → Names rs e (lines ++ more)
more_names rs (event.Dispatch p) lines more h = first_of (who.Proc p) lines more h
more_names rs (event.Turn p) lines more h = (h.0, h.1, first_of (who.Thread h.0) lines more h.2)
more_names rs event.Clock lines more h = first_of who.Clock lines more h

same_turn : (rs : Rows) (p q : ℕ) (t u : Tid) → IsCanonical rs.seats → running rs p ≡ Some t → running rs q ≡ Some u → t ≡ u → p ≡ q
same_turn rs p q t u c e f same = one_processor rs p q u c (e ∙ ap Some same) f

-- The same first line names the same event.
named : (rs : Rows) (e f : Event) (lines : List Entry) → IsCanonical rs.seats → Names rs e lines → Names rs f lines → e ≡ f
named rs (event.Dispatch p) (event.Dispatch q) lines c a b = ap event.Dispatch (same_processor p q (same_first (who.Proc p) (who.Proc q) lines a b))
named rs (event.Dispatch p) (event.Turn q) lines c a b = let e : who.Proc p ≡ who.Thread b.0 = same_first (who.Proc p) (who.Thread b.0) lines a b.2 in absurd (cc e)
named rs (event.Dispatch p) event.Clock lines c a b = let e : who.Proc p ≡ who.Clock = same_first (who.Proc p) who.Clock lines a b in absurd (cc e)
named rs (event.Turn p) (event.Dispatch q) lines c a b = let e : who.Thread a.0 ≡ who.Proc q = same_first (who.Thread a.0) (who.Proc q) lines a.2 b in absurd (cc e)
named rs (event.Turn p) (event.Turn q) lines c a b = ap event.Turn (same_turn rs p q a.0 b.0 c a.1 b.1 (same_thread a.0 b.0 (same_first (who.Thread a.0) (who.Thread b.0) lines a.2 b.2)))
named rs (event.Turn p) event.Clock lines c a b = let e : who.Thread a.0 ≡ who.Clock = same_first (who.Thread a.0) who.Clock lines a.2 b in absurd (cc e)
named rs event.Clock (event.Dispatch q) lines c a b = let e : who.Clock ≡ who.Proc q = same_first who.Clock (who.Proc q) lines a b in absurd (cc e)
named rs event.Clock (event.Turn q) lines c a b = let e : who.Clock ≡ who.Thread b.0 = same_first who.Clock (who.Thread b.0) lines a b.2 in absurd (cc e)
named rs event.Clock event.Clock lines c a b = refl

none_named : (rs : Rows) (e : Event) → Names rs e [] → ⊥
none_named rs (event.Dispatch p) h = h
none_named rs (event.Turn p) h = h.2
none_named rs event.Clock h = h

-- ---- the events from the first one on

-- From this state these events, the oldest first, make these lines and come to that state.
data Goes (s : Script) (n : ℕ) : State → List Event → List Entry → State → Type 0 where
  rests : {st : State} → Goes s n st [] [] st
  goes : {st to : State} {events : List Event} {rest : List Entry} (e : Event) (made : Made) → made_by s n st e ≡ Some made → Goes s n made.state events rest to
      → Goes s n st (e ∷ events) (made.lines ++ rest) to

-- One event more.
goes_on : (s : Script) (n : ℕ) {st to : State} {events : List Event} {lines : List Entry} → Goes s n st events lines to → (e : Event) (made : Made) → made_by s n to e ≡ Some made
    → Goes s n st (events ++ e ∷ []) (lines ++ made.lines) made.state
goes_on s n {st} rests e made m = subst (λ (ls : List Entry). Goes s n st (e ∷ []) ls made.state) (append-nil made.lines) (goes e made m rests)
goes_on s n {st} (goes {events = events} {rest = rest} f first k g) e made m =
    subst (λ (ls : List Entry). Goes s n st (f ∷ (events ++ e ∷ [])) ls made.state) (sym (append_assoc first.lines rest made.lines)) (goes f first k (goes_on s n g e made m))

-- A history goes through its events, the oldest first.
history_goes : {s : Script} {n : ℕ} {x : Execution} → History s n x → Goes s n (opening s) (reverse x.events) x.entries x.state
history_goes opened = rests
history_goes {s} {n} (then_event {x} h open_ e made m) =
    subst (λ (es : List Event). Goes s n (opening s) es (x.entries ++ made.lines) made.state) (sym (reverse-append (e ∷ []) x.events)) (goes_on s n (history_goes h) e made m)

-- ---- two histories

record IsSame (events events' : List Event) (to to' : State) : Type 0 where
  same_events : events ≡ events'
  same_state : to ≡ to'

never_empty : (s : Script) (n : ℕ) (st : State) (e : Event) (made : Made) (rest : List Entry) → made_by s n st e ≡ Some made → [] ≡ made.lines ++ rest → ⊥
never_empty s n st e made rest m same = none_named st.rows e (subst (Names st.rows e) (sym same) (more_names st.rows e made.lines rest (made_names s n st e made m)))

made_if : (b : Bool) (o : Option Made) (made : Made) → (if b then o else None) ≡ Some made → o ≡ Some made
made_if true o made e = e
made_if false o made e = absurd (cc)

-- What an event makes is the same on any number of processors.
made_alike : (s : Script) (n n' : ℕ) (st : State) (e : Event) (a b : Made) → made_by s n st e ≡ Some a → made_by s n' st e ≡ Some b → Some a ≡ Some b
unfolding made_by
made_alike s n n' st (event.Dispatch p) a b m k = sym (made_if (nat_lt p n) (dispatch_of st p) a m) ∙ made_if (nat_lt p n') (dispatch_of st p) b k
made_alike s n n' st (event.Turn p) a b m k = sym m ∙ k
made_alike s n n' st event.Clock a b m k = sym m ∙ k

same_made : (s : Script) (n n' : ℕ) (st : State) (e f : Event) (a b : Made) → e ≡ f → made_by s n st e ≡ Some a → made_by s n' st f ≡ Some b → a ≡ b
same_made s n n' st e f a b same m k = ap (λ o. unwrap_or o a) (made_alike s n n' st f a b (subst (λ (x : Event). made_by s n st x ≡ Some a) same m) k)

same_goes : (s : Script) (n n' : ℕ) {st to to' : State} {events events' : List Event} {lines lines' : List Entry} → IsCanonical st.rows.seats → Goes s n st events lines to
    → Goes s n' st events' lines' to' → lines ≡ lines' → IsSame events events' to to'
same_goes s n n' {st} c rests rests same = record { same_events = refl; same_state = refl }
same_goes s n n' {st} c rests (goes {rest = rest} f b k g) same = absurd (never_empty s n' st f b rest k same)
same_goes s n n' {st} c (goes {rest = rest} e a m g) rests same = absurd (never_empty s n st e a rest m (sym same))
same_goes s n n' {st} {to} {to'} c (goes {events = es} {rest = rest} e a m g) (goes {events = fs} {rest = rest'} f b k h) same =
    let event_ : e ≡ f =
    named st.rows e f (b.lines ++ rest') c (subst (Names st.rows e) same (more_names st.rows e a.lines rest (made_names s n st e a m))) (more_names st.rows f b.lines rest' (made_names s n' st f b k)) in
    let made_ : a ≡ b = same_made s n n' st e f a b event_ m k in
    let again : Goes s n b.state es rest to = subst (λ (x : Made). Goes s n x.state es rest to) made_ g in
    let tail : rest ≡ rest' = append_cancel_left b.lines rest rest' (ap (λ (x : Made). x.lines ++ rest) (sym made_) ∙ same) in
    let behind : IsSame es fs to to' = same_goes s n n' (made_canonical s n' st f b c k) again h tail in
    record { same_events = cc (event_, behind.same_events); same_state = behind.same_state }

turns_in : List Event → ℕ
turns_in [] = 0
turns_in (e ∷ events) = turns_in events + turn_count e

history_turns : {s : Script} {n : ℕ} {x : Execution} → History s n x → x.turns ≡ turns_in x.events
unfolding turns_in
history_turns opened = refl
history_turns (then_event h open_ e made m) = ap (λ t. t + turn_count e) (history_turns h)

abbrev execution_from : State → List Event → List Entry → ℕ → Execution
execution_from st events entries turns = record { state = st; events = events; entries = entries; turns = turns }

same_from : (st st' : State) (es es' : List Event) (ls ls' : List Entry) (k k' : ℕ) → st ≡ st' → es ≡ es' → ls ≡ ls' → k ≡ k' → execution_from st es ls k ≡ execution_from st' es' ls' k'
same_from st st' es es' ls ls' k k' e f g h = cc (e, f, g, h)

same_execution : (x x' : Execution) → x.state ≡ x'.state → x.events ≡ x'.events → x.entries ≡ x'.entries → x.turns ≡ x'.turns → x ≡ x'
same_execution x x' e f g h = same_from x.state x'.state x.events x'.events x.entries x'.entries x.turns x'.turns e f g h

-- Histories with the same lines have the same events, come to the same state, and have as many turns.
pub same-history : (s : Script) (n n' : ℕ) (x x' : Execution) → History s n x → History s n' x' → x.entries ≡ x'.entries → x ≡ x'
same-history s n n' x x' h h' same =
    let start : History s n (at_opening s) = opened in
    let both : IsSame (reverse x.events) (reverse x'.events) x.state x'.state = same_goes s n n' (history_canonical start) (history_goes h) (history_goes h') same in
    let events_ : x.events ≡ x'.events = sym (reverse-reverse x.events) ∙ ap reverse both.same_events ∙ reverse-reverse x'.events in
    same_execution x x' both.same_state events_ same (history_turns h ∙ ap turns_in events_ ∙ sym (history_turns h'))
