-- The lines of each thread of a legal history are a course.
use Rattle.std.proofs.Common.{ℕ, List, Option, Some, None}
use Rattle.std.specs.Option.{option_map}
use Rattle.thr_values.specs.declared.event.Stop.{Stop}
use Rattle.thr_values.specs.declared.history.What.{What}
use Rattle.thr_values.specs.declared.history.Entry.{Entry}
use Rattle.thr_syntax.specs.declared.tree.Script.{Script}
use Rattle.thr_text.specs.Reading.{Formed}
use Rattle.thr_remainder.specs.Remainders.{Remainder}
use Rattle.thr_parts.specs.Tables.{get}
use Rattle.thr_laws.specs.Lines.{lines_of_thread}
use Rattle.thr_model.specs.Histories.{Execution, History, Legal}
use Rattle.thr_model.proofs.Legality.{of-legal}
use Rattle.thr_routed.specs.Courses.{Outline, outline, Course, HasClauses}
use Rattle.thr_routed.specs.Reaching.{ReturnsLeaveNoScope, IsRight}
use Rattle.thr_routed.proofs.Reading.{IsLife}
use Rattle.thr_routed.proofs.ReturnSteps.{returns_leave_none}
use Rattle.thr_routed.proofs.Standing.{right_ways}
use Rattle.thr_routed.proofs.StaySound.{history_lives}
use Rattle.thr_routed.proofs.Tries.{tries_clean}

life_course : (s : Script) (right : IsRight s (HasClauses s) ⊥) (next u : ℕ) (o : Option Remainder) (lines : List What) → IsLife s (HasClauses s) ⊥ right next u o lines
    → Course s (HasClauses s) ⊥ (option_map outline o) lines
life_course s right next u None lines h = h.0
life_course s right next u (Some r) lines h = h.0

-- The lines of each thread are a course.
abbrev AreCourses : Script → List Entry → Type 0
AreCourses s entries = (t : ℕ) → (o : Option Outline) × Course s (HasClauses s) ⊥ o (lines_of_thread t entries)

history_courses : (s : Script) → IsRight s (HasClauses s) ⊥ → {n : ℕ} (x : Execution) → History s n x → AreCourses s x.entries
history_courses s right x h t = (
  option_map outline (get x.state.remainders t),
  life_course s right x.state.threads.next t (get x.state.remainders t) (lines_of_thread t x.entries) (history_lives s (HasClauses s) ⊥ right h t),
)

pub legal_courses : (s : Script) (n : ℕ) (entries : List Entry) (stop : Stop) → Formed s → Legal s n entries stop → AreCourses s entries
legal_courses s n entries stop formed legal =
    let leaves : ReturnsLeaveNoScope s = returns_leave_none s (tries_clean s formed) in of-legal (AreCourses s) (λ x h. history_courses s (right_ways s leaves) x h) legal
