-- The event that the who of a line names is the one that the book makes.
use Rattle.std.proofs.Common.{◌≡◌, ℕ, ◌<◌, true, Option, Some, None, refl, sym, ◌∙◌, ap, rules, arith}
use Rattle.std.proofs.lemmas.Bool.Decides.{nat_tests}
use Rattle.std.specs.Prelude.{◌==◌, IsSome}
use Rattle.std.specs.Option.{option_and_then}
use Rattle.thr_values.specs.declared.number.Tid.{Tid}
use Rattle.thr_syntax.specs.declared.tree.Script.{Script}
use Rattle.thr_parts.specs.declared.row.Place.{Place}
use Rattle.thr_parts.specs.declared.row.Place.TheVariants.{Runs, Stands}
use Rattle.thr_parts.specs.declared.row.Seat.{Seat}
use Rattle.thr_parts.specs.Tables.{IsCanonical, get}
use Rattle.thr_parts.specs.Rows.{Rows, seat_of}
use Rattle.thr_parts.specs.Dispatch.{runs_on, running}
use Rattle.thr_parts.proofs.RunningLaws.{HasProcessor, running_seat}
use Rattle.thr_model.specs.Canonical.{IsCanonicalState}
use Rattle.thr_model.specs.Histories.{Execution, History}
use Rattle.thr_verdict.specs.FirstWrong.{processor_at, processor_of}
use Rattle.thr_machine.specs.Views.{BookView}
use Rattle.thr_machine.specs.Books.{IsReached}

-- ---- the processor of a thread

processor_found : (p : ℕ) (l : Place) → runs_on p l ≡ true → processor_at l ≡ Some p
processor_found p (Runs q slice) h = let same : q ≡ p = grind (arith, nat_tests) in ap Some same
processor_found p (Stands r arrival) h = absurd (cc)

-- The thread of a processor runs on that one.
found : (rs : Rows) (p : ℕ) (t u : Tid) → IsCanonical rs.seats → running rs p ≡ Some u → u.0 ≡ t.0 → processor_of rs t ≡ Some p
found rs p t u c is same =
    let x : (s : Seat) × HasProcessor rs p u.0 s = running_seat rs p u c is in
    let at : get rs.seats t.0 ≡ Some x.0 = ap (get rs.seats) (sym same) ∙ x.1.at in
    ap (λ (o : Option Seat). option_and_then (λ (seat : Seat). processor_at seat.place) o) at ∙ processor_found p x.0.place x.1.runs

-- In every history the seats are in the order of their threads.
abbrev pub AreCanonical : Type 0
AreCanonical = (s : Script) (n : ℕ) (x : Execution) → History s n x → IsCanonicalState x.state

pub found_there : (b : BookView) → IsReached b → AreCanonical → (p : ℕ) (t : Tid) → running b.state.rows p ≡ Some t → Some p ≡ processor_of b.state.rows t
found_there b r law p t is =
    let c : IsCanonicalState b.state = law b.script b.workers (record { state = b.state; events = r.events; entries = b.entries; turns = b.turns }) r.history in
    sym (found b.state.rows p t t c.seats is refl)

some_is : (q p : ℕ) → (let o : Option ℕ = Some q in o) ≡ Some p → q ≡ p
some_is q p e = cc

is_it : (p q : ℕ) → q ≡ p → (p == q) ≡ true
is_it p q e = grind (arith, nat_tests)

on_it : (l : Place) (p : ℕ) → processor_at l ≡ Some p → runs_on p l ≡ true
on_it (Runs q slice) p e = is_it p q (some_is q p e)
on_it (Stands r arrival) p e = absurd (cc)

-- In every history a processor has one thread at most.
abbrev pub OneThread : Type 0
OneThread = (s : Script) (n : ℕ) (x : Execution) → History s n x → (p : ℕ) (t : Tid) (seat : Seat) → seat_of x.state.rows t ≡ Some seat → runs_on p seat.place ≡ true → (running x.state.rows p ≡ Some t) × (p < n)

-- The processor has this thread, and is there.
pub record RunsThere (b : BookView) (p : ℕ) (t : Tid) : Type 0 where
  pub runs : running b.state.rows p ≡ Some t
  pub there : p < b.workers

runs_at : (b : BookView) → IsReached b → OneThread → (p : ℕ) (t : Tid) (o : Option Seat) → seat_of b.state.rows t ≡ o → option_and_then (λ (seat : Seat). processor_at seat.place) o ≡ Some p → RunsThere b p t
runs_at b r law p t None at e = absurd (cc)
runs_at b r law p t (Some seat) at e =
    let x = law b.script b.workers (record { state = b.state; events = r.events; entries = b.entries; turns = b.turns }) r.history p t seat at (on_it seat.place p e) in
    record { runs = x.0; there = x.1 }

pub runs_there : (b : BookView) → IsReached b → OneThread → (p : ℕ) (t : Tid) → processor_of b.state.rows t ≡ Some p → RunsThere b p t
runs_there b r law p t e = runs_at b r law p t (seat_of b.state.rows t) refl e

some_if : (o : Option Tid) (t : Tid) → o ≡ Some t → IsSome o
some_if (Some u) t e = search rules
some_if None t e = absurd (cc)

-- The processor of a thread has one.
pub has_some : (b : BookView) → IsReached b → OneThread → (p : ℕ) (t : Tid) → processor_of b.state.rows t ≡ Some p → IsSome (running b.state.rows p)
has_some b r law p t e = some_if (running b.state.rows p) t (runs_there b r law p t e).runs

none_by : (b : BookView) → IsReached b → OneThread → (n : ℕ) (t : Tid) → n ≡ b.workers → ((q : ℕ) → q < n → running b.state.rows q ≡ Some t → ⊥) → (o : Option ℕ) → processor_of b.state.rows t ≡ o → o ≡ None
none_by b r law n t w none None e = refl
none_by b r law n t w none (Some p) e =
    let x : RunsThere b p t = runs_there b r law p t e in
    let less : p < b.workers = x.there in
    let there : p < n = omega (arith, w, less) in absurd (none p there x.runs)

-- Where no processor has the thread it runs on none.
pub nowhere : (b : BookView) → IsReached b → OneThread → (n : ℕ) (t : Tid) → n ≡ b.workers → ((q : ℕ) → q < n → running b.state.rows q ≡ Some t → ⊥) → processor_of b.state.rows t ≡ None
nowhere b r law n t w none = none_by b r law n t w none (processor_of b.state.rows t) refl
