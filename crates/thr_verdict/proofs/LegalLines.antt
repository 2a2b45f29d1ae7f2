-- A legal history has no wrong line: each of its events is the one that its first line names, and makes the lines that stand there.
use Rattle.std.proofs.Common.{◌≡◌, ℕ, suc, ◌+◌, ◌-◌, ◌≤◌, Bool, true, false, ◌&&◌, if◌then◌else◌, List, [], ◌∷◌, ◌++◌, length, Option, Some, None, is_some, Ok, option_map, option_and_then, refl, sym, ◌∙◌, ap, subst, arith, true≢false, append_assoc, append-nil, length-append, zero-le, zero-add}
use Rattle.std.proofs.lemmas.Bool.Decides.{nat_tests}
use Rattle.std.proofs.lemmas.Slice.Eq.{bytes_eq-Decides}
use Rattle.thr_values.specs.declared.number.Tid.{Tid}
use Rattle.thr_values.specs.declared.event.Event.{Event}
use Rattle.thr_values.specs.declared.event.Event.TheVariants as event
use Rattle.thr_values.specs.declared.event.Stop.{Stop}
use Rattle.thr_values.specs.declared.event.Stop.TheVariants as stops
use Rattle.thr_values.specs.declared.history.Entry.{Entry}
use Rattle.thr_syntax.specs.declared.tree.Script.{Script}
use Rattle.thr_syntax.specs.declared.journal.Journal.{Journal}
use Rattle.thr_text.specs.Journals as journals
use Rattle.thr_text.specs.Journals.{numbered_line}
use Rattle.thr_parts.specs.declared.row.Place.{Place}
use Rattle.thr_parts.specs.declared.row.Place.TheVariants.{Runs, Stands}
use Rattle.thr_parts.specs.declared.row.Seat.{Seat}
use Rattle.thr_parts.specs.Tables.{IsCanonical}
use Rattle.thr_parts.specs.Rows.{Rows}
use Rattle.thr_parts.specs.Dispatch.{runs_on, running}
use Rattle.thr_parts.proofs.EntryLaws.{itself}
use Rattle.thr_parts.proofs.RunningLaws.{HasProcessor, running_seat}
use Rattle.thr_model.specs.States.{State, opening}
use Rattle.thr_model.specs.Turns.{Made}
use Rattle.thr_model.specs.Events.{made_by}
use Rattle.thr_model.specs.Histories.{Execution, History, opened, then_event, StopsWith, Legal, stop_at}
use Rattle.thr_model.proofs.RowsKept.{history_canonical}
use Rattle.thr_model.proofs.FirstLines.{Names, made_names}
use Rattle.thr_verdict.specs.Verdicts.{Differs, differs_at}
use Rattle.thr_verdict.specs.FirstWrong.{Wrong, processor_at, processor_of, event_of, made_at, is_same_line, lines_after, is_same_stop, goes_on, after_event, at_boundary, wrong_in, wrong_of, first_wrong}

-- ---- the event of a line

processor_found : (p : ℕ) (l : Place) → runs_on p l ≡ true → processor_at l ≡ Some p
processor_found p (Runs q slice) h = let same : q ≡ p = grind (arith, nat_tests) in ap Some same
processor_found p (Stands r arrival) h = absurd (cc)

-- The thread of a processor runs on that one.
thread_found : (rs : Rows) (p : ℕ) (t : Tid) → IsCanonical rs.seats → running rs p ≡ Some t → processor_of rs t ≡ Some p
thread_found rs p t c is =
    let x : (s : Seat) × HasProcessor rs p t.0 s = running_seat rs p t c is in
    ap (λ (o : Option Seat). option_and_then (λ (seat : Seat). processor_at seat.place) o) x.1.at ∙ processor_found p x.0.place x.1.runs

-- The first line of an event names it.
event_found : (st : State) (e : Event) (l : Entry) (ls : List Entry) → IsCanonical st.rows.seats → Names st.rows e (l ∷ ls) → event_of st l.who ≡ Some e
event_found st (event.Dispatch p) l ls c h = ap (event_of st) h
event_found st (event.Turn p) l ls c h = ap (event_of st) h.2 ∙ ap (option_map event.Turn) (thread_found st.rows p h.0 c h.1)
event_found st event.Clock l ls c h = ap (event_of st) h

made_found : (s : Script) (n : ℕ) (st : State) (e : Event) (made : Made) (l : Entry) (ls : List Entry) → IsCanonical st.rows.seats → Names st.rows e (l ∷ ls) → made_by s n st e ≡ Some made
    → made_at s n st l.who ≡ Some made
made_found s n st e made l ls c h is = ap (λ (o : Option Event). option_and_then (made_by s n st) o) (event_found st e l ls c h) ∙ is

no_line : (rs : Rows) (e : Event) → Names rs e [] → ⊥
no_line rs (event.Dispatch p) h = h
no_line rs (event.Turn p) h = h.2
no_line rs event.Clock h = h

pub some_line : (rs : Rows) (e : Event) (lines : List Entry) → Names rs e lines → 1 ≤ length lines
some_line rs e [] h = absurd (no_line rs e h)
some_line rs e (l ∷ ls) h = grind (arith)

-- ---- lines and stops that are the same

if_true : {A : Type 0} (b : Bool) (x y : A) → b ≡ true → (if b then x else y) ≡ x
if_true true x y h = refl
if_true false x y h = absurd (cc)

same_line : (names : journals.Names) (e : Entry) → is_same_line names e e ≡ true
same_line names e = (bytes_eq-Decides (numbered_line names 0 e) (numbered_line names 0 e)).1 refl

-- The lines of an event that stand there are all right.
lines_stand : (names : journals.Names) (count : ℕ) (lines rest : List Entry) → lines_after names count lines (lines ++ rest) ≡ Ok rest
lines_stand names count [] rest = refl
lines_stand names count (l ∷ ls) rest = if_true (is_same_line names l l) (lines_after names (count + 1) ls (ls ++ rest)) _ (same_line names l) ∙ lines_stand names (count + 1) ls rest

both : (a b : Bool) → a ≡ true → b ≡ true → (a && b) ≡ true
both true b h i = i
both false b h i = absurd (cc)

same_stop : (x : Stop) → is_same_stop x x ≡ true
same_stop stops.Finished = refl
same_stop (stops.Deadlock n t) = both _ _ (itself n) (itself t.0)
same_stop stops.Limit = refl
same_stop stops.Memory = refl

-- ---- one event

event_goes_on : (more : ℕ → State → List Entry → Option Wrong) (s : Script) (n : ℕ) (stop : Stop) (count : ℕ) (st : State) (e : Event) (made : Made) (lines rest : List Entry)
    → made.lines ≡ lines → IsCanonical st.rows.seats → Names st.rows e lines → made_by s n st e ≡ Some made
    → at_boundary more s n stop None count st (lines ++ rest) ≡ more (count + length made.lines) made.state rest
event_goes_on more s n stop count st e made [] rest same c h is = absurd (no_line st.rows e h)
event_goes_on more s n stop count st e made (l ∷ ls) rest same c h is =
    ap (after_event more s.names count (l ∷ (ls ++ rest))) (made_found s n st e made l ls c h is)
    ∙ ap (goes_on more count made)
    (subst (λ (lines : List Entry). lines_after s.names count lines (l ∷ (ls ++ rest)) ≡ Ok rest) (sym same) (lines_stand s.names count (l ∷ ls) rest))

-- Before an event and after it the same is wrong first.
event_checked : (k : ℕ) (s : Script) (n : ℕ) (stop : Stop) (count : ℕ) (st : State) (e : Event) (made : Made) (rest : List Entry) → IsCanonical st.rows.seats → stop_at s st count ≡ None
    → made_by s n st e ≡ Some made → wrong_in (suc k) s n stop count st (made.lines ++ rest) ≡ wrong_in k s n stop (count + length made.lines) made.state rest
unfolding wrong_in
event_checked k s n stop count st e made rest c open_ is =
    ap (λ (o : Option Stop). at_boundary (wrong_in k s n stop) s n stop o count st (made.lines ++ rest)) open_
    ∙ event_goes_on (wrong_in k s n stop) s n stop count st e made made.lines rest refl c (made_names s n st e made is) is

-- ---- histories

-- What is wrong first in the lines of a history and more is what is wrong first in those from its state on.
history_checked : {s : Script} {n : ℕ} {x : Execution} (stop : Stop) → History s n x → (k : ℕ) (rest : List Entry)
    → wrong_in (length x.events + k) s n stop 0 (opening s) (x.entries ++ rest) ≡ wrong_in k s n stop (length x.entries) x.state rest
history_checked {s} {n} stop opened k rest = ap (λ f. wrong_in f s n stop 0 (opening s) rest) (zero-add k)
history_checked {s} {n} stop (then_event {x} h open_ e made is) k rest =
    let room : length (e ∷ x.events) + k ≡ length x.events + suc k = grind (arith) in
    ap (λ f. wrong_in f s n stop 0 (opening s) ((x.entries ++ made.lines) ++ rest)) room
    ∙ ap (wrong_in (length x.events + suc k) s n stop 0 (opening s)) (append_assoc x.entries made.lines rest)
    ∙ history_checked stop h (suc k) (made.lines ++ rest)
    ∙ event_checked k s n stop (length x.entries) x.state e made rest (history_canonical h) open_ is
    ∙ ap (λ count. wrong_in k s n stop count made.state rest) (sym (length-append x.entries made.lines))

-- A history has no more events than lines.
no_more_events : {s : Script} {n : ℕ} {x : Execution} → History s n x → length x.events ≤ length x.entries
no_more_events opened = zero-le
no_more_events {s} {n} (then_event {x} h open_ e made is) =
    let before : length x.events ≤ length x.entries = no_more_events h in
    let one : 1 ≤ length made.lines = some_line x.state.rows e made.lines (made_names s n x.state e made is) in
    let sum : suc (length x.events) ≤ length x.entries + length made.lines = grind (arith) in
    subst (λ count. suc (length x.events) ≤ count) (sym (length-append x.entries made.lines)) sum

stop_is_right : (more : ℕ → State → List Entry → Option Wrong) (s : Script) (n : ℕ) (stop : Stop) (holds : Option Stop) (count : ℕ) (st : State) → StopsWith holds stop
    → at_boundary more s n stop holds count st [] ≡ None
stop_is_right more s n stop None count st h = if_true (is_same_stop stops.Memory stop) None _ (ap (is_same_stop stops.Memory) h)
stop_is_right more s n stop (Some holds) count st h = if_true (is_same_stop holds stop) None _ (ap (is_same_stop holds) h ∙ same_stop holds)

end_checked : (k : ℕ) (s : Script) (n : ℕ) (stop : Stop) (count : ℕ) (st : State) → StopsWith (stop_at s st count) stop → wrong_in (suc k) s n stop count st [] ≡ None
unfolding wrong_in
end_checked k s n stop count st h = stop_is_right (wrong_in k s n stop) s n stop (stop_at s st count) count st h

-- No place of a history that stops is wrong.
none_wrong_of : (s : Script) (n : ℕ) (x : Execution) (stop : Stop) → History s n x → StopsWith (stop_at s x.state (length x.entries)) stop → wrong_of s n x.entries stop ≡ None
none_wrong_of s n x stop h stops =
    let fits : length x.events ≤ length x.entries = no_more_events h in
    let left : ℕ = length x.entries - length x.events in
    let room : length x.entries + 1 ≡ length x.events + suc (length x.entries - length x.events) = grind (arith) in
    ap (λ f. wrong_in f s n stop 0 (opening s) x.entries) room
    ∙ ap (wrong_in (length x.events + suc left) s n stop 0 (opening s)) (sym (append-nil x.entries))
    ∙ history_checked stop h (suc left) []
    ∙ end_checked left s n stop (length x.entries) x.state stops

-- No place of a legal history is wrong.
pub none_wrong : (s : Script) (n : ℕ) (entries : List Entry) (stop : Stop) → Legal s n entries stop → wrong_of s n entries stop ≡ None
none_wrong s n entries stop l =
    let stops : StopsWith (stop_at s l.execution.state (length l.execution.entries)) stop = subst (λ (es : List Entry). StopsWith (stop_at s l.execution.state (length es)) stop) (sym l.lines) l.stops in
    subst (λ (es : List Entry). wrong_of s n es stop ≡ None) l.lines (none_wrong_of s n l.execution stop l.history stops)

-- So no line of its journal differs.
pub no_line_differs : (j : Journal) → Legal j.script j.workers j.entries j.stop → first_wrong j ≡ None
no_line_differs j l = ap (option_map (λ (w : Wrong). differs_at j.script j.entries j.stop w.place w.right)) (none_wrong j.script j.workers j.entries j.stop l)

-- Where a place is wrong the history isn't legal.
pub not_legal : (s : Script) (n : ℕ) (entries : List Entry) (stop : Stop) → is_some (wrong_of s n entries stop) ≡ true → Legal s n entries stop → ⊥
not_legal s n entries stop h l = true≢false (sym h ∙ ap is_some (none_wrong s n entries stop l))

-- Where a line differs it isn't.
pub differs_not_legal : (j : Journal) (d : Differs) → first_wrong j ≡ Some d → Legal j.script j.workers j.entries j.stop → ⊥
differs_not_legal j d h l = true≢false (ap is_some (sym h ∙ no_line_differs j l))
