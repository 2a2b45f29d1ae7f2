-- Where tries have no returns, no return that a thread comes to leaves a scope.
use Rattle.std.proofs.Common.{◌≡◌, ℕ, ℤ, pos, Bool, true, false, List, [], ◌∷◌, Option, Some, None, Ok, Err, subst, if◌then◌else◌}
use Rattle.thr_values.specs.declared.exception.Exc.{Exc}
use Rattle.thr_values.specs.declared.reply.Reply.{Reply}
use Rattle.thr_syntax.specs.declared.expr.Var.{Var}
use Rattle.thr_syntax.specs.declared.expr.Var.TheVariants.{Local, Shared}
use Rattle.thr_syntax.specs.declared.tree.Script.{Script}
use Rattle.thr_syntax.specs.Lines.{stmt_lines, lines_of}
use Rattle.thr_remainder.specs.declared.unwinding.Cause.{Cause}
use Rattle.thr_remainder.specs.declared.unwinding.Cause.TheVariants.{Raised, Exit}
use Rattle.thr_remainder.specs.declared.unwinding.Unwinding.{Unwinding}
use Rattle.thr_remainder.specs.Places.{Placed, Left, Handler, Ways, Catches, Finally, stmt_then}
use Rattle.thr_remainder.specs.Acts.{Act, Sets, Says, Chooses, Repeats, Tries, Raises, RaisesAgain, Calls, Returns, Exits, Asks}
use Rattle.thr_remainder.specs.Remainders.{Item, Role, Calling, Trying, Catching, Finishing, Doing, Barrier, Setting, Remainder, Move, Spot, Place, Nowhere, AtEnd, At, place_in, place_inside, act_at, passed, role_with, is_call, with_local, has_room}
use Rattle.thr_remainder.specs.Expressions.{Value, SharedValues, none_shared, is_true, value_of}
use Rattle.thr_remainder.specs.Steps.{stored, place_for, variable_set, or_raised, made, ended, step_at, quiet, shared_step}
use Rattle.thr_remainder.specs.Outward.{Meeting, Drops, Begins, Undoes, Loses, meeting, catches, at_try, caught_by, first_catch, met, outward_from, outward}
use Rattle.thr_remainder.specs.Replies.{stored_in, raised_if, replied_by, replied_at, replied, raised_by}
use Rattle.thr_remainder.specs.Calls.{stores}
use Rattle.thr_answers.specs.Standing.{StandsIn}
use Rattle.thr_answers.proofs.StepsStand.{IsPlace, place_stands}
use Rattle.thr_routed.specs.Reaching.{Reached, freshly, quietly, by_shared_step, outwardly, by_undoing, by_reply, by_raise, by_delivery, by_once, by_destructor, AnyWays, IsRightAct, IsRightAt, ReturnsLeaveNoScope}
use Rattle.thr_routed.specs.Returns.{NoReturns, TriesHaveNoReturns}
use Rattle.thr_routed.proofs.Standing.{reached_stands}
use Rattle.thr_routed.proofs.Returning.{IsClean, CleanHandlers, CleanWays, IsCleanTry, IsCleanAct, acts_clean, tries_clean}

-- ---- items

-- What is left inside an item of this role has no return, unless it is a call.
abbrev InRole : Role → Left → Type 0
InRole (Calling locals place) left = Unit {0}
InRole (Trying scope ways) left = IsClean left × CleanWays ways
InRole (Catching scope caught) left = IsClean left
InRole (Finishing scope pending) left = IsClean left
InRole (Doing scope block routine) left = IsClean left
InRole (Barrier scope key routine) left = IsClean left

abbrev CleanItems : List Item → Type 0
CleanItems [] = Unit {0}
CleanItems (i ∷ items) = InRole i.role i.inside × CleanItems items

-- Another thing is left, which has no return where the first has none.
in_role : (role : Role) (left other : Left) → (IsClean left → IsClean other) → InRole role left → InRole role other
in_role (Calling locals place) left other f h = tt
in_role (Trying scope ways) left other f h = (f h.0, h.1)
in_role (Catching scope caught) left other f h = f h
in_role (Finishing scope pending) left other f h = f h
in_role (Doing scope block routine) left other f h = f h
in_role (Barrier scope key routine) left other f h = f h

role_keeps : (p : ℕ) (v : ℤ) (role : Role) (left : Left) → InRole role left → InRole (role_with p v role) left
role_keeps p v (Calling locals place) left h = h
role_keeps p v (Trying scope ways) left h = h
role_keeps p v (Catching scope caught) left h = h
role_keeps p v (Finishing scope pending) left h = h
role_keeps p v (Doing scope block routine) left h = h
role_keeps p v (Barrier scope key routine) left h = h

either_items : (b : Bool) (xs ys : List Item) → CleanItems xs → CleanItems ys → CleanItems (if b then xs else ys)
either_items true xs ys h k = h
either_items false xs ys h k = k

local_keeps : (p : ℕ) (v : ℤ) (items : List Item) → CleanItems items → CleanItems (with_local p v items)
local_keeps p v [] h = tt
local_keeps p v (i ∷ items) h = (role_keeps p v i.role i.inside h.0, either_items (is_call i.role) items (with_local p v items) h.1 (local_keeps p v items h.1))

variable_keeps : (v : Var) (x : ℤ) (items : List Item) → CleanItems items → CleanItems (variable_set v x items)
variable_keeps (Local p) x items h = local_keeps p x items h
variable_keeps (Shared name) x items h = h

stored_keeps : (place : Option ℕ) (x : ℤ) (items : List Item) → CleanItems items → CleanItems (stored place x items)
stored_keeps None x items h = h
stored_keeps (Some p) x items h = local_keeps p x items h

stores_keep : (stores : List (Var × ℤ)) (items : List Item) → CleanItems items → CleanItems (stored_in stores items)
stores_keep [] items h = h
stores_keep ((Local p, x) ∷ stores) items h = stores_keep stores (with_local p x items) (local_keeps p x items h)
stores_keep ((Shared name, x) ∷ stores) items h = stores_keep stores items h

-- ---- places

-- The statement that is next.
record CleanSpot (h : Spot) : Type 0 where
  here : InRole h.role (stmt_then h.line h.stmt h.rest)
  outer : CleanItems h.outer

abbrev CleanPlace : Place → Type 0
CleanPlace Nowhere = Unit {0}
CleanPlace (AtEnd close role outer) = (left : Left) × InRole role left × CleanItems outer
CleanPlace (At h) = CleanSpot h

inside_clean : (todo : List Placed) (close : ℕ) (role : Role) (outer : List Item) → InRole role (record { todo = todo; close = close }) → CleanItems outer → CleanPlace (place_inside todo close role outer)
inside_clean [] close role outer h o = (record { todo = []; close = close }, h, o)
inside_clean (p ∷ todo) close role outer h o = record { here = h; outer = o }

place_clean : (items : List Item) → CleanItems items → CleanPlace (place_in items)
place_clean [] h = tt
place_clean (i ∷ outer) h = inside_clean i.inside.todo i.inside.close i.role outer h.0 h.1

passed_clean : (h : Spot) → CleanSpot h → CleanItems (passed h)
passed_clean h k = (in_role h.role (stmt_then h.line h.stmt h.rest) h.rest (λ c. c.1) k.here, k.outer)

-- ---- steps

abbrev CleanLeft : Remainder → Type 0
CleanLeft r = CleanItems r.items

either_clean : (b : Bool) (m o : Move) → CleanLeft m.to → CleanLeft o.to → CleanLeft (if b then m else o).to
either_clean true m o h k = h
either_clean false m o h k = k

valued_clean : (value : Value) (step : ℤ → Move) (r : Remainder) → ((n : ℤ) → CleanLeft (step n).to) → CleanLeft r → CleanLeft (or_raised value step r).to
valued_clean (Ok n) step r h k = h n
valued_clean (Err x) step r h k = k

either_left : (b : Bool) (x y : Left) → IsClean x → IsClean y → IsClean (if b then x else y)
either_left true x y h k = h
either_left false x y h k = k

module _ (g : Setting) (tells : Bool) (shared : SharedValues) (h : Spot) (r : Remainder) (has : CleanLeft r) (spot : CleanSpot h) where
  made_clean : (act : Act) → (NoReturns (stmt_lines h.stmt) → IsClean h.rest → IsCleanAct act) → IsCleanTry act → CleanLeft (made g tells shared act h r).to
  made_clean (Sets v e) f a = valued_clean (value_of g shared r e) _ r (λ n. variable_keeps v n (passed h) (passed_clean h spot)) has
  made_clean (Says e) f a = valued_clean (value_of g shared r e) _ r (λ n. passed_clean h spot) has
  made_clean (Chooses e body other) f a =
      valued_clean (value_of g shared r e) _ r (λ n. (in_role h.role (stmt_then h.line h.stmt h.rest) (if is_true n then body else other) (λ c. (let k : IsClean body × IsClean other = f c.0 c.1 in either_left (is_true n) body other k.0 k.1)) spot.here, spot.outer)) has
  made_clean (Repeats e again) f a =
      valued_clean (value_of g shared r e) _ r (λ n. (in_role h.role (stmt_then h.line h.stmt h.rest) (if is_true n then again else h.rest) (λ c. either_left (is_true n) again h.rest (f c.0 c.1) c.1) spot.here, spot.outer)) has
  made_clean (Tries body ways) f a = either_clean (has_room g r 1) _ _ (a, passed_clean h spot) has
  made_clean (Raises name) f a = has
  made_clean RaisesAgain f a = has
  made_clean (Calls routine e place) f a = either_clean (has_room g r 1) _ _ (valued_clean (value_of g shared r e) _ r (λ n. (tt, passed_clean h spot)) has) has
  made_clean (Returns e) f a = valued_clean (value_of g shared r e) _ r (λ n. stored_keeps (place_for h.role) n h.outer spot.outer) has
  made_clean (Exits e) f a = valued_clean (value_of g shared r e) _ r (λ n. has) has
  made_clean (Asks call) f a = has

ended_clean : (role : Role) (left : Left) (outer : List Item) (r : Remainder) → InRole role left → CleanItems outer → CleanLeft (ended role outer r).to
ended_clean (Calling locals place) left outer r h o = stored_keeps place (pos 0) outer o
ended_clean (Trying scope (Catches handlers)) left outer r h o = o
ended_clean (Trying scope (Finally body)) left outer r h o = (h.1, o)
ended_clean (Catching scope caught) left outer r h o = o
ended_clean (Finishing scope pending) left outer r h o = o
ended_clean (Doing scope block routine) left outer r h o = o
ended_clean (Barrier scope key routine) left outer r h o = o

-- ---- unwindings

abbrev CleanCaught : Option Handler → Type 0
CleanCaught None = Unit {0}
CleanCaught (Some c) = IsClean c.body

caught_if : (b : Bool) (c : Handler) (o : Option Handler) → IsClean c.body → CleanCaught o → CleanCaught (if b then Some c else o)
caught_if true c o h k = h
caught_if false c o h k = k

first_clean : (s : Script) (x : Exc) (handlers : List Handler) → CleanHandlers handlers → CleanCaught (first_catch s x handlers)
first_clean s x [] h = tt
first_clean s x (c ∷ handlers) h = caught_if (catches s x c.names) c (first_catch s x handlers) h.0 (first_clean s x handlers h.1)

abbrev CleanMeeting : Meeting → Type 0
CleanMeeting (Begins role body line) = InRole role body
CleanMeeting _ = Unit {0}

caught_clean : (scope n : ℕ) (x : Exc) (c : Option Handler) → CleanCaught c → CleanMeeting (caught_by scope n x c)
caught_clean scope n x None h = tt
caught_clean scope n x (Some c) h = h

try_clean : (s : Script) (scope : ℕ) (ways : Ways) (u : Unwinding) (cause : Cause) → CleanWays ways → CleanMeeting (at_try s scope ways u cause)
try_clean s scope (Finally body) u cause h = h
try_clean s scope (Catches clauses) u (Raised x) h = caught_clean scope u.number x (first_catch s x clauses) (first_clean s x clauses h)
try_clean s scope (Catches clauses) u (Exit v) h = tt

meeting_clean : (s : Script) (role : Role) (left : Left) (u : Unwinding) → InRole role left → CleanMeeting (meeting s role u)
meeting_clean s (Calling locals place) left u h = tt
meeting_clean s (Trying scope ways) left u h = try_clean s scope ways u u.cause h.1
meeting_clean s (Catching scope caught) left u h = tt
meeting_clean s (Finishing scope pending) left u h = tt
meeting_clean s (Doing scope block routine) left u h = tt
meeting_clean s (Barrier scope key routine) left u h = tt

met_clean : (meets : Meeting) (i : Item) (outer : List Item) (r : Remainder) (further : Move) → CleanMeeting meets → CleanItems (i ∷ outer) → CleanItems further.to.items → CleanItems (met meets i outer r further).to.items
met_clean Drops i outer r further m h k = k
met_clean (Begins role body line) i outer r further m h k = (m, h.1)
met_clean Undoes i outer r further m h k = h
met_clean (Loses line) i outer r further m h k = h.1

outward_clean : (s : Script) (u : Unwinding) (items : List Item) (r : Remainder) → CleanItems items → CleanItems (outward_from s u items r).to.items
outward_clean s u [] r h = tt
outward_clean s u (i ∷ outer) r h = met_clean (meeting s i.role u) i outer r (outward_from s u outer r) (meeting_clean s i.role i.inside u h.0) h (outward_clean s u outer r h.1)

outward_keeps : (g : Setting) (u : Unwinding) (r : Remainder) → CleanLeft r → CleanLeft (outward g u r).to
unfolding outward
outward_keeps g u r h = outward_clean g.script u r.items r h

-- ---- replies

raised_if_clean : (x : Option Exc) (r : Remainder) → CleanLeft r → CleanLeft (raised_if x r).to
raised_if_clean None r h = h
raised_if_clean (Some x) r h = h

replied_by_clean : (g : Setting) (act : Act) (h : Spot) (r : Remainder) (y : Reply) → CleanLeft r → CleanSpot h → CleanLeft (replied_by g act h r y).to
replied_by_clean g (Asks call) h r y has spot = raised_if_clean (raised_by _ call y) _ (stores_keep (stores call y) (passed h) (passed_clean h spot))
replied_by_clean g _ h r y has spot = has

replied_at_clean : (g : Setting) (place : Place) (r : Remainder) (y : Reply) → CleanLeft r → CleanPlace place → CleanLeft (replied_at g place r y).to
replied_at_clean g Nowhere r y has here = has
replied_at_clean g (AtEnd close role outer) r y has here = has
replied_at_clean g (At h) r y has here = replied_by_clean g (act_at h) h r y has here

replied_keeps : (g : Setting) (y : Reply) (r : Remainder) → CleanLeft r → CleanLeft (replied g y r).to
unfolding replied
replied_keeps g y r has = replied_at_clean g (place_in r.items) r y has (place_clean r.items has)

-- ---- what can be reached

undone_clean : (items outer : List Item) (i : Item) → items ≡ i ∷ outer → CleanItems items → CleanItems outer
undone_clean items outer i e h = (let k : CleanItems (i ∷ outer) = subst CleanItems e h in k.1)

module _ (s : Script) (tries : TriesHaveNoReturns s) where
  step_clean : (g : Setting) (tells : Bool) (shared : SharedValues) (place : Place) (r : Remainder) → CleanLeft r → CleanPlace place → IsPlace (lines_of s) place → CleanLeft (step_at g tells shared place r).to
  step_clean g tells shared Nowhere r has here stands = has
  step_clean g tells shared (AtEnd close role outer) r has here stands = ended_clean role here.0 outer r here.1 here.2
  step_clean g tells shared (At h) r has here stands = made_clean g tells shared h r has here (act_at h) (λ n k. acts_clean h.stmt h.line h.rest n k) (tries_clean s tries h.stmt h.line h.rest stands.here)

  quiet_clean : (g : Setting) (r : Remainder) → CleanLeft r → StandsIn s r → CleanLeft (quiet g r).to
  unfolding quiet
  quiet_clean g r has h = step_clean g false none_shared (place_in r.items) r has (place_clean r.items has) (place_stands (lines_of s) r.items h.items)

  shared_clean : (g : Setting) (shared : SharedValues) (r : Remainder) → CleanLeft r → StandsIn s r → CleanLeft (shared_step g shared r).to
  unfolding shared_step
  shared_clean g shared r has h = step_clean g true shared (place_in r.items) r has (place_clean r.items has) (place_stands (lines_of s) r.items h.items)

  reached_clean : (r : Remainder) → Reached s r → CleanLeft r
  reached_clean m (freshly routine n) = (tt, tt)
  reached_clean m (quietly g r e h) = quiet_clean g r (reached_clean r h) (reached_stands s r h)
  reached_clean m (by_shared_step g shared r e h) = shared_clean g shared r (reached_clean r h) (reached_stands s r h)
  reached_clean m (outwardly g u r e h under) = outward_keeps g u r (reached_clean r h)
  reached_clean m (by_undoing scope u i outer r e h) = undone_clean r.items outer i e (reached_clean r h)
  reached_clean m (by_reply g y r e h) = replied_keeps g y r (reached_clean r h)
  reached_clean m (by_raise x r h) = reached_clean r h
  reached_clean m (by_delivery r h) = reached_clean r h
  reached_clean m (by_once g block routine r e h) = (tt, (tt, reached_clean r h))
  reached_clean m (by_destructor g key routine n r e h) = (tt, (tt, reached_clean r h))

  return_right : (line : ℕ) (role : Role) (left : Left) (act : Act) → (IsClean left → IsCleanAct act) → InRole role left → IsRightAct AnyWays ⊥ line role act
  return_right line (Calling locals place) left (Returns e) f h = tt
  return_right line (Trying scope ways) left (Returns e) f h = f h.0
  return_right line (Catching scope caught) left (Returns e) f h = f h
  return_right line (Finishing scope pending) left (Returns e) f h = f h
  return_right line (Doing scope block routine) left (Returns e) f h = f h
  return_right line (Barrier scope key routine) left (Returns e) f h = f h
  return_right line role left (Tries body ways) f h = tt
  return_right line role left (Sets v e) f h = tt
  return_right line role left (Says e) f h = tt
  return_right line role left (Chooses e body other) f h = tt
  return_right line role left (Repeats e again) f h = tt
  return_right line role left (Raises name) f h = tt
  return_right line role left RaisesAgain f h = tt
  return_right line role left (Calls routine e place) f h = tt
  return_right line role left (Exits e) f h = tt
  return_right line role left (Asks call) f h = tt

  place_right : (p : Place) → CleanPlace p → IsRightAt AnyWays ⊥ p
  place_right Nowhere h = tt
  place_right (AtEnd close role outer) h = tt
  place_right (At x) h = return_right x.line x.role (stmt_then x.line x.stmt x.rest) (act_at x) (λ c. acts_clean x.stmt x.line x.rest c.0 c.1) h.here

  -- Its returns leave no scope.
  pub returns_leave_none : ReturnsLeaveNoScope s
  returns_leave_none = record { at = λ r h. place_right (place_in r.items) (place_clean r.items (reached_clean r h)) }
