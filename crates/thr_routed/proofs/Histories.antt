-- The unwindings of each history take their routes.
use Rattle.std.proofs.Common.{◌≡◌, ℕ, Bool, true, false, List, Option, Some, None}
use Rattle.std.specs.Option.{option_map}
use Rattle.thr_values.specs.declared.event.Stop.{Stop}
use Rattle.thr_values.specs.declared.history.What.{What}
use Rattle.thr_values.specs.declared.history.Entry.{Entry}
use Rattle.thr_syntax.specs.declared.tree.Script.{Script}
use Rattle.thr_remainder.specs.Places.{Ways}
use Rattle.thr_remainder.specs.Acts.{Act, Tries, Returns}
use Rattle.thr_remainder.specs.Remainders.{Remainder, Role, Place, At, act_at, place_in, is_call}
use Rattle.thr_parts.specs.Tables.{get}
use Rattle.thr_laws.specs.Lines.{lines_of_thread}
use Rattle.thr_laws.specs.Routed.{numbers_count_up, only_made_are_carried, Routed}
use Rattle.thr_model.specs.Histories.{Execution, History, Legal}
use Rattle.thr_model.proofs.Legality.{of-legal}
use Rattle.thr_routed.specs.Courses.{Outline, outline, Course, HasClauses}
use Rattle.thr_routed.specs.Reaching.{IsRightReturn, IsRightAct, IsRightAt, IsRight, AnyWays, ReturnsLeaveNoScope}
use Rattle.thr_routed.specs.Sound.{StaysSound}
use Rattle.thr_routed.proofs.Numbers.{course_numbered, course_made}
use Rattle.thr_routed.proofs.Kept.{course_kept}
use Rattle.thr_routed.proofs.Straight.{course_straight}
use Rattle.thr_routed.proofs.Fates.{course_whole}
use Rattle.thr_routed.proofs.Reading.{IsLife}
use Rattle.thr_routed.proofs.Standing.{right_ways}
use Rattle.thr_routed.proofs.StaySound.{history_lives, histories_sound}

any_return : (b : Bool) → IsRightReturn (Unit {0}) b
any_return true = tt
any_return false = tt

any_act : (line : ℕ) (role : Role) (act : Act) → IsRightAct AnyWays (Unit {0}) line role act
any_act line role (Tries body ways) = tt
any_act line role (Returns e) = any_return (is_call role)
any_act line role _ = tt

any_place : (p : Place) → IsRightAt AnyWays (Unit {0}) p
any_place (At h) = any_act h.line h.role (act_at h)
any_place _ = tt

any_right : (s : Script) → IsRight s AnyWays (Unit {0})
any_right s = record { at = λ r h. any_place (place_in r.items) }

life_course : (s : Script) (HasWays : ℕ → Ways → Type 0) (MayReturn : Type 0) (right : IsRight s HasWays MayReturn) (next u : ℕ) (o : Option Remainder) (lines : List What) → IsLife s HasWays MayReturn right next u o lines
    → Course s HasWays MayReturn (option_map outline o) lines
life_course s HasWays MayReturn right next u None lines h = h.0
life_course s HasWays MayReturn right next u (Some r) lines h = h.0

-- What the lines of a thread are a course of.
abbrev AreCourses : (s : Script) → (ℕ → Ways → Type 0) → Type 0 → List Entry → Type 0
AreCourses s HasWays MayReturn entries = (t : ℕ) → (o : Option Outline) × Course s HasWays MayReturn o (lines_of_thread t entries)

history_courses : (s : Script) (HasWays : ℕ → Ways → Type 0) (MayReturn : Type 0) → IsRight s HasWays MayReturn → {n : ℕ} (x : Execution) → History s n x → AreCourses s HasWays MayReturn x.entries
history_courses s HasWays MayReturn right x h t = (
  option_map outline (get x.state.remainders t),
  life_course s HasWays MayReturn right x.state.threads.next t (get x.state.remainders t) (lines_of_thread t x.entries) (history_lives s HasWays MayReturn right h t),
)

legal_courses : (s : Script) (HasWays : ℕ → Ways → Type 0) (MayReturn : Type 0) → IsRight s HasWays MayReturn → (n : ℕ) (entries : List Entry) (stop : Stop) → Legal s n entries stop
    → AreCourses s HasWays MayReturn entries
legal_courses s HasWays MayReturn right n entries stop legal = of-legal (AreCourses s HasWays MayReturn) (λ x h. history_courses s HasWays MayReturn right x h) legal

pub legal_numbered : (s : Script) (n : ℕ) (entries : List Entry) (stop : Stop) → Legal s n entries stop → (t : ℕ) → (numbers_count_up (lines_of_thread t entries) ≡ true) × (only_made_are_carried (lines_of_thread t entries) ≡ true)
legal_numbered s n entries stop legal t =
    let c = legal_courses s AnyWays (Unit {0}) (any_right s) n entries stop legal t in (
      course_numbered s AnyWays (Unit {0}) c.0 (lines_of_thread t entries) c.1,
      course_made s AnyWays (Unit {0}) c.0 (lines_of_thread t entries) c.1,
    )

pub legal_routed : (s : Script) (n : ℕ) (entries : List Entry) (stop : Stop) → ReturnsLeaveNoScope s → Legal s n entries stop → Routed s entries
legal_routed s n entries stop right legal =
    let c = legal_courses s (HasClauses s) ⊥ (right_ways s right) n entries stop legal in record {
      numbered = λ t. course_numbered s (HasClauses s) ⊥ (c t).0 (lines_of_thread t entries) (c t).1;
      made = λ t. course_made s (HasClauses s) ⊥ (c t).0 (lines_of_thread t entries) (c t).1;
      kept = λ t. course_kept s (c t).0 (lines_of_thread t entries) (c t).1;
      whole = λ t. course_whole s (c t).0 (lines_of_thread t entries) (c t).1;
      straight = λ t. course_straight s (c t).0 (lines_of_thread t entries) (c t).1;
    }

-- Every history stays sound.
pub stays_sound : (s : Script) (n : ℕ) → StaysSound s n
stays_sound s n = histories_sound s AnyWays (Unit {0}) (any_right s) n
