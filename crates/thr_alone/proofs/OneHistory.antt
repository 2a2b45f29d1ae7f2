-- On one processor a history goes one way, up to its stop.
use Rattle.std.proofs.Common.{◌≡◌, ℕ, ◌+◌, ◌<◌, Bool, true, false, ltb, List, length, Option, Some, None, refl, sym, ◌∙◌, ap, subst, arith, inl, inr}
use Rattle.std.proofs.lemmas.Bool.Decides.{nat_tests}
use Rattle.std.specs.Prelude.{◌⊎◌, ◌≢◌}
use Rattle.thr_values.specs.declared.event.Event.{Event}
use Rattle.thr_values.specs.declared.event.Stop.{Stop}
use Rattle.thr_values.specs.declared.event.Stop.TheVariants as stops
use Rattle.thr_values.specs.declared.history.Entry.{Entry}
use Rattle.thr_syntax.specs.declared.tree.Script.{Script}
use Rattle.thr_model.specs.States.{State}
use Rattle.thr_model.specs.Turns.{Made}
use Rattle.thr_model.specs.Events.{made_by}
use Rattle.thr_model.specs.Histories.{Execution, after_event, History, opened, then_event, stop_at, StopsWith, Legal}
use Rattle.thr_alone.specs.Only.{IsOnlyHistory}

-- After a history of one processor at most one event is legal.
abbrev pub OneEvent : Script → Type 0
OneEvent s = (x : Execution) (e f : Event) (a b : Made) → History s 1 x → made_by s 1 x.state e ≡ Some a → made_by s 1 x.state f ≡ Some b → e ≡ f

-- ---- histories of as many events

same-made : (s : Script) (st : State) (e f : Event) (a b : Made) → e ≡ f → made_by s 1 st e ≡ Some a → made_by s 1 st f ≡ Some b → a ≡ b
same-made s st e f a b same m n = cc (same, m, n)

same-after : (x y : Execution) (e f : Event) (a b : Made) → x ≡ y → e ≡ f → a ≡ b → after_event x e a ≡ after_event y f b
same-after x y e f a b before event made = cc (before, event, made)

same-history : {s : Script} {x y : Execution} → OneEvent s → History s 1 x → History s 1 y → length x.events ≡ length y.events → x ≡ y
same-history one opened opened same = refl
same-history one opened (then_event k held f b n) same = absurd (omega arith)
same-history one (then_event h held e a m) opened same = absurd (omega arith)
same-history {s} one (then_event {x} h open_ e a m) (then_event {x = y} k held f b n) same =
    let before : x ≡ y = same-history one h k (omega arith) in
    let there : made_by s 1 x.state f ≡ Some b = subst (λ (z : Execution). made_by s 1 z.state f ≡ Some b) (sym before) n in
    let event : e ≡ f = one x e f a b h m there in
    same-after x y e f a b before event (same-made s x.state e f a b event m there)

-- ---- a stop ends the history

-- A history of so many events, after which no stop holds.
record GoesOnAt (s : Script) (count : ℕ) : Type 0 where
  execution : Execution
  history : History s 1 execution
  events : length execution.events ≡ count
  open_ : stop_at s execution.state (length execution.entries) ≡ None

below-or-at : (b : Bool) (q p : ℕ) → ltb q p ≡ b → q < p + 1 → (q < p) ⊎ (q ≡ p)
below-or-at true q p e h = inl (grind (arith, nat_tests))
below-or-at false q p e h = inr (grind (arith, nat_tests))

on-the-way-or-last : {s : Script} {x : Execution} → History s 1 x → stop_at s x.state (length x.entries) ≡ None → (count : ℕ) → (count < length x.events → GoesOnAt s count)
    → (count < length x.events) ⊎ (count ≡ length x.events) → GoesOnAt s count
on-the-way-or-last h open_ count earlier (inl less) = earlier less
on-the-way-or-last {s} {x} h open_ count earlier (inr same) = record { execution = x; history = h; events = sym same; open_ = open_ }

-- Where a history has more events than that, it went on there.
on-the-way : {s : Script} {x : Execution} → History s 1 x → (count : ℕ) → count < length x.events → GoesOnAt s count
on-the-way opened count less = absurd (omega arith)
on-the-way (then_event {x} h open_ e made m) count less =
    on-the-way-or-last h open_ count (λ earlier. on-the-way h count earlier) (below-or-at (ltb count (length x.events)) count (length x.events) refl (omega arith))

goes-on : (o : Option Stop) (stop : Stop) → o ≡ Some stop → o ≡ None → ⊥
goes-on o stop is none = absurd (cc)

-- A history goes no further than one that a stop ends.
no-further : {s : Script} {x y : Execution} (stop : Stop) → OneEvent s → History s 1 x → stop_at s x.state (length x.entries) ≡ Some stop → History s 1 y → length x.events < length y.events → ⊥
no-further {s} {x} stop one h ends k less =
    let way : GoesOnAt s (length x.events) = on-the-way k (length x.events) less in
    let same : x ≡ way.execution = same-history one h way.history (sym way.events) in
    goes-on (stop_at s x.state (length x.entries)) stop ends (subst (λ (z : Execution). stop_at s z.state (length z.entries) ≡ None) (sym same) way.open_)

-- ---- one history

holds : (o : Option Stop) (stop : Stop) → StopsWith o stop → stop ≢ stops.Memory → o ≡ Some stop
holds None stop is not = absurd (not is)
holds (Some why) stop is not = cc (is)

neither : (a b : Bool) (n m : ℕ) → ltb n m ≡ a → ltb m n ≡ b → (n < m → ⊥) → (m < n → ⊥) → n ≡ m
neither true b n m e f less more = absurd (less (grind (arith, nat_tests)))
neither false true n m e f less more = absurd (more (grind (arith, nat_tests)))
neither false false n m e f less more = grind (arith, nat_tests)

same-length : (n m : ℕ) → (n < m → ⊥) → (m < n → ⊥) → n ≡ m
same-length n m less more = neither (ltb n m) (ltb m n) n m refl refl less more

same-stop : (o : Option Stop) (a b : Stop) → o ≡ Some a → o ≡ Some b → a ≡ b
same-stop o a b e f = cc (e, f)

-- Of two legal histories that stop not for want of memory, lines and stop are the same.
pub one-history : (s : Script) → OneEvent s → (entries : List Entry) (stop : Stop) → Legal s 1 entries stop → stop ≢ stops.Memory → IsOnlyHistory s entries stop
one-history s one entries stop legal cause = λ others end other because.
    let x : Execution = legal.execution in
    let y : Execution = other.execution in
    let ends : stop_at s x.state (length x.entries) ≡ Some stop =
    holds (stop_at s x.state (length x.entries)) stop (subst (λ (ls : List Entry). StopsWith (stop_at s x.state (length ls)) stop) (sym legal.lines) legal.stops) cause in
    let there : stop_at s y.state (length y.entries) ≡ Some end =
    holds (stop_at s y.state (length y.entries)) end (subst (λ (ls : List Entry). StopsWith (stop_at s y.state (length ls)) end) (sym other.lines) other.stops) because in
    let same : y ≡ x =
    same-history one other.history legal.history (same-length (length y.events) (length x.events) (no-further end one other.history there legal.history) (no-further stop one legal.history ends other.history)) in (
      sym other.lines ∙ ap (λ (z : Execution). z.entries) same ∙ legal.lines,
      same-stop (stop_at s x.state (length x.entries)) end stop (subst (λ (z : Execution). stop_at s z.state (length z.entries) ≡ Some end) same there) ends,
    )
