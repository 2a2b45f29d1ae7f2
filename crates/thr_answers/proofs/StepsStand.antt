-- What is left stands at its lines after each step of a thread.
use Rattle.std.proofs.Common.{◌≡◌, ℕ, ◌+◌, ℤ, pos, Bool, true, false, List, [], ◌∷◌, Option, Some, None, Ok, Err, refl, if◌then◌else◌}
use Rattle.std.specs.Prelude.{unwrap_or}
use Rattle.thr_values.specs.declared.number.NameId.{NameId}
use Rattle.thr_values.specs.declared.exception.Exc.{Exc}
use Rattle.thr_values.specs.declared.history.What.{What}
use Rattle.thr_values.specs.declared.history.What.TheVariants as what
use Rattle.thr_values.specs.declared.reply.Reply.{Reply}
use Rattle.thr_syntax.specs.declared.expr.Var.{Var}
use Rattle.thr_syntax.specs.declared.expr.Var.TheVariants.{Local, Shared}
use Rattle.thr_syntax.specs.declared.form.Form.{Form}
use Rattle.thr_syntax.specs.declared.tree.Script.{Script}
use Rattle.thr_syntax.specs.Lines.{stmt_lines, lines_of}
use Rattle.thr_remainder.specs.declared.unwinding.Cause.{Cause}
use Rattle.thr_remainder.specs.declared.unwinding.Cause.TheVariants.{Raised, Exit}
use Rattle.thr_remainder.specs.declared.unwinding.Unwinding.{Unwinding}
use Rattle.thr_remainder.specs.Places.{Placed, Left, Handler, Ways, Catches, Finally, nothing}
use Rattle.thr_remainder.specs.Acts.{Act, Sets, Says, Chooses, Repeats, Tries, Raises, RaisesAgain, Calls, Returns, Exits, Asks}
use Rattle.thr_remainder.specs.Declarations.{Entry, routine_of, no_entry, entry_of}
use Rattle.thr_remainder.specs.Remainders.{Item, Role, Calling, Trying, Catching, Finishing, Doing, Barrier, Setting, Remainder, Move, Spot, Place, Nowhere, AtEnd, At, place_in, place_inside, act_at, passed, role_with, is_call, with_local, has_room}
use Rattle.thr_remainder.specs.Expressions.{Value, SharedValues, none_shared, is_true, value_of}
use Rattle.thr_remainder.specs.Starts.{fresh, begins, begins_once, begins_destructor}
use Rattle.thr_remainder.specs.Steps.{stored, place_for, variable_set, or_raised, made, ended, step_at, quiet, shared_step}
use Rattle.thr_remainder.specs.Outward.{Meeting, Drops, Begins, Undoes, Loses, meeting, catches, at_try, caught_by, first_catch, met, outward_from, outward}
use Rattle.thr_remainder.specs.Replies.{stored_in, raised_if, replied_by, replied_at, replied, raised_by}
use Rattle.thr_remainder.specs.Calls.{stores}
use Rattle.thr_remainder.specs.Standing.{StandAt, IsLeft, AreHandlers, AreWays, IsAct}
use Rattle.thr_remainder.proofs.StandingLaws.{acts_stand, routines_stand}
use Rattle.thr_answers.specs.Standing.{IsLeftIn, stands, absent, IsRole, AreItems, StandsIn}

module _ (text : List Form) where
  -- ---- lists of items

  role_keeps : (p : ℕ) (v : ℤ) (role : Role) → IsRole text role → IsRole text (role_with p v role)
  role_keeps p v (Calling locals place) h = h
  role_keeps p v (Trying scope ways) h = h
  role_keeps p v (Catching scope caught) h = h
  role_keeps p v (Finishing scope pending) h = h
  role_keeps p v (Doing scope block routine) h = h
  role_keeps p v (Barrier scope key routine) h = h

  either_items : (b : Bool) (xs ys : List Item) → AreItems text xs → AreItems text ys → AreItems text (if b then xs else ys)
  either_items true xs ys h k = h
  either_items false xs ys h k = k

  pub local_keeps : (p : ℕ) (v : ℤ) (items : List Item) → AreItems text items → AreItems text (with_local p v items)
  local_keeps p v [] h = tt
  local_keeps p v (i ∷ items) h =
      (role_keeps p v i.role h.0, h.1, either_items (is_call i.role) items (with_local p v items) h.2 (local_keeps p v items h.2))

  pub variable_keeps : (v : Var) (x : ℤ) (items : List Item) → AreItems text items → AreItems text (variable_set v x items)
  variable_keeps (Local p) x items h = local_keeps p x items h
  variable_keeps (Shared name) x items h = h

  pub stored_keeps : (place : Option ℕ) (x : ℤ) (items : List Item) → AreItems text items → AreItems text (stored place x items)
  stored_keeps None x items h = h
  stored_keeps (Some p) x items h = local_keeps p x items h

  pub stores_keep : (stores : List (Var × ℤ)) (items : List Item) → AreItems text items → AreItems text (stored_in stores items)
  stores_keep [] items h = h
  stores_keep ((Local p, x) ∷ stores) items h = stores_keep stores (with_local p x items) (local_keeps p x items h)
  stores_keep ((Shared name, x) ∷ stores) items h = stores_keep stores items h

  -- ---- places

  -- The statement stands at its line, and what is left after it stands at its lines.
  pub record IsSpot (h : Spot) : Type 0 where
    pub here : StandAt text h.line (stmt_lines h.stmt)
    pub rest : IsLeft text h.rest
    pub role : IsRole text h.role
    pub outer : AreItems text h.outer

  abbrev pub IsPlace : Place → Type 0
  IsPlace Nowhere = Unit {0}
  IsPlace (AtEnd close role outer) = IsRole text role × AreItems text outer
  IsPlace (At h) = IsSpot h

  place_inside_stands : (todo : List Placed) (close : ℕ) (role : Role) (outer : List Item) → (let left : Left = record { todo = todo; close = close } in IsLeftIn text left) → IsRole text role → AreItems text outer → IsPlace (place_inside todo close role outer)
  place_inside_stands [] close role outer h r o = (r, o)
  place_inside_stands (p ∷ todo) close role outer (stands h) r o = record { here = h.todo.0; rest = record { todo = h.todo.1; close = h.close }; role = r; outer = o }
  place_inside_stands (p ∷ todo) close role outer (absent e f) r o = absurd (cc)

  pub place_stands : (items : List Item) → AreItems text items → IsPlace (place_in items)
  place_stands [] h = tt
  place_stands (i ∷ outer) h = place_inside_stands i.inside.todo i.inside.close i.role outer h.1 h.0 h.2

  pub spot_act : (h : Spot) → IsSpot h → IsAct text (act_at h)
  spot_act h k = acts_stand text h.stmt h.line h.rest k.here k.rest

  pub passed_stand : (h : Spot) → IsSpot h → AreItems text (passed h)
  passed_stand h k = (k.role, stands k.rest, k.outer)

  pub either_left : (b : Bool) (x y : Left) → IsLeft text x → IsLeft text y → IsLeft text (if b then x else y)
  either_left true x y h k = h
  either_left false x y h k = k

  -- ---- clauses

  -- The clause that is there leaves a body that stands at its lines.
  abbrev pub IsCaught : Option Handler → Type 0
  IsCaught None = Unit {0}
  IsCaught (Some c) = IsLeft text c.body

  caught_if : (b : Bool) (c : Handler) (o : Option Handler) → IsLeft text c.body → IsCaught o → IsCaught (if b then Some c else o)
  caught_if true c o h k = h
  caught_if false c o h k = k

  pub first_stands : (s : Script) (x : Exc) (handlers : List Handler) → AreHandlers text handlers → IsCaught (first_catch s x handlers)
  first_stands s x [] h = tt
  first_stands s x (c ∷ handlers) h = caught_if (catches s x c.names) c (first_catch s x handlers) h.1 (first_stands s x handlers h.2)

  -- ---- unwindings

  -- A body that begins in an item's place stands at its lines.
  abbrev pub IsMeeting : Meeting → Type 0
  IsMeeting Drops = Unit {0}
  IsMeeting (Begins role body line) = IsRole text role × IsLeft text body
  IsMeeting Undoes = Unit {0}
  IsMeeting (Loses line) = Unit {0}

  caught_stands : (scope n : ℕ) (x : Exc) (c : Option Handler) → IsCaught c → IsMeeting (caught_by scope n x c)
  caught_stands scope n x None h = tt
  caught_stands scope n x (Some c) h = (tt, h)

  try_stands : (s : Script) (scope : ℕ) (ways : Ways) (u : Unwinding) (cause : Cause) → AreWays text ways → IsMeeting (at_try s scope ways u cause)
  try_stands s scope (Finally body) u cause h = (tt, h)
  try_stands s scope (Catches clauses) u (Raised x) h = caught_stands scope u.number x (first_catch s x clauses) (first_stands s x clauses h)
  try_stands s scope (Catches clauses) u (Exit v) h = tt

  meeting_stands : (s : Script) (role : Role) (u : Unwinding) → IsRole text role → IsMeeting (meeting s role u)
  meeting_stands s (Calling locals place) u h = tt
  meeting_stands s (Trying scope ways) u h = try_stands s scope ways u u.cause h
  meeting_stands s (Catching scope caught) u h = tt
  meeting_stands s (Finishing scope pending) u h = tt
  meeting_stands s (Doing scope block routine) u h = tt
  meeting_stands s (Barrier scope key routine) u h = tt

  met_stands : (meets : Meeting) (i : Item) (outer : List Item) (r : Remainder) (further : Move) → IsMeeting meets → AreItems text (i ∷ outer) → AreItems text further.to.items → AreItems text (met meets i outer r further).to.items
  met_stands Drops i outer r further m h k = k
  met_stands (Begins role body line) i outer r further m h k = (m.0, stands m.1, h.2)
  met_stands Undoes i outer r further m h k = h
  met_stands (Loses line) i outer r further m h k = h.2

  pub outward_stands : (s : Script) (u : Unwinding) (items : List Item) (r : Remainder) → AreItems text items → AreItems text (outward_from s u items r).to.items
  outward_stands s u [] r h = tt
  outward_stands s u (i ∷ outer) r h =
      met_stands (meeting s i.role u) i outer r (outward_from s u outer r) (meeting_stands s i.role u h.0) h (outward_stands s u outer r h.2)

-- ---- routines

found_stands : (s : Script) (name : NameId) (found : Option Entry) → routine_of s name ≡ found → IsLeftIn (lines_of s) (unwrap_or found no_entry).body
found_stands s name None e = absent refl refl
found_stands s name (Some entry) e = stands (routines_stand s name entry e)

pub entry_stands : (s : Script) (name : NameId) → IsLeftIn (lines_of s) (entry_of s name).body
entry_stands s name = found_stands s name (routine_of s name) refl

nothing_stands : (text : List Form) (body : Left) → IsLeftIn text body → IsLeftIn text (nothing body.close)
nothing_stands text body (stands h) = stands (record { todo = tt; close = h.close })
nothing_stands text body (absent e f) = absent refl f

pub fresh_stands : (s : Script) (routine : NameId) (n : ℤ) → StandsIn s (fresh s routine n)
fresh_stands s routine n = record { items = (tt, entry_stands s routine, tt) }

begins_stand : (s : Script) (routine : NameId) (role : Role) (n : ℤ) (line : What) (r : Remainder) → IsRole (lines_of s) role → StandsIn s r → StandsIn s (begins (entry_of s routine) role n line r).to
begins_stand s routine role n line r i h = record { items = (tt, entry_stands s routine, (i, nothing_stands (lines_of s) (entry_of s routine).body (entry_stands s routine), h.items)) }

pub once_keeps : (g : Setting) (block routine : NameId) (r : Remainder) → StandsIn g.script r → StandsIn g.script (begins_once g block routine r).to
once_keeps g block routine r h = begins_stand g.script routine (Doing (r.scopes + 1) block routine) (pos 0) (what.Once (r.scopes + 1) block) r tt h

pub destructor_keeps : (g : Setting) (key routine : NameId) (n : ℤ) (r : Remainder) → StandsIn g.script r → StandsIn g.script (begins_destructor g key routine n r).to
destructor_keeps g key routine n r h = begins_stand g.script routine (Barrier (r.scopes + 1) key routine) n (what.Destroy (r.scopes + 1) key n) r tt h

-- ---- steps

either_keeps : (s : Script) (b : Bool) (m o : Move) → StandsIn s m.to → StandsIn s o.to → StandsIn s (if b then m else o).to
either_keeps s true m o h k = h
either_keeps s false m o h k = k

valued_keeps : (s : Script) (value : Value) (step : ℤ → Move) (r : Remainder) → ((n : ℤ) → StandsIn s (step n).to) → StandsIn s r → StandsIn s (or_raised value step r).to
valued_keeps s (Ok n) step r h k = h n
valued_keeps s (Err x) step r h k = record { items = k.items }

module _ (g : Setting) (tells : Bool) (shared : SharedValues) (h : Spot) (r : Remainder) (has : StandsIn g.script r) (spot : IsSpot (lines_of g.script) h) where
  made_keeps : (act : Act) → IsAct (lines_of g.script) act → StandsIn g.script (made g tells shared act h r).to
  made_keeps (Sets v e) a = valued_keeps g.script (value_of g shared r e) _ r (λ n. record { items = variable_keeps (lines_of g.script) v n (passed h) (passed_stand (lines_of g.script) h spot) }) has
  made_keeps (Says e) a = valued_keeps g.script (value_of g shared r e) _ r (λ n. record { items = passed_stand (lines_of g.script) h spot }) has
  made_keeps (Chooses e body other) a = valued_keeps g.script (value_of g shared r e) _ r (λ n. record { items = (spot.role, stands (either_left (lines_of g.script) (is_true n) body other a.0 a.1), spot.outer) }) has
  made_keeps (Repeats e again) a = valued_keeps g.script (value_of g shared r e) _ r (λ n. record { items = (spot.role, stands (either_left (lines_of g.script) (is_true n) again h.rest a spot.rest), spot.outer) }) has
  made_keeps (Tries body ways) a = either_keeps g.script (has_room g r 1) _ _ (record { items = (a.1, stands a.0, passed_stand (lines_of g.script) h spot) }) (record { items = has.items })
  made_keeps (Raises name) a = record { items = has.items }
  made_keeps RaisesAgain a = record { items = has.items }
  made_keeps (Calls routine e place) a = either_keeps g.script (has_room g r 1) _ _ (valued_keeps g.script (value_of g shared r e) _ r (λ n. record { items = (tt, entry_stands g.script routine, passed_stand (lines_of g.script) h spot) }) has) (record { items = has.items })
  made_keeps (Returns e) a = valued_keeps g.script (value_of g shared r e) _ r (λ n. record { items = stored_keeps (lines_of g.script) (place_for h.role) n h.outer spot.outer }) has
  made_keeps (Exits e) a = valued_keeps g.script (value_of g shared r e) _ r (λ n. record { items = has.items }) has
  made_keeps (Asks call) a = record { items = has.items }

ended_keeps : (s : Script) (role : Role) (outer : List Item) (r : Remainder) → IsRole (lines_of s) role × AreItems (lines_of s) outer → StandsIn s (ended role outer r).to
ended_keeps s (Calling locals place) outer r h = record { items = stored_keeps (lines_of s) place (pos 0) outer h.1 }
ended_keeps s (Trying scope (Catches handlers)) outer r h = record { items = h.1 }
ended_keeps s (Trying scope (Finally body)) outer r h = record { items = (tt, stands h.0, h.1) }
ended_keeps s (Catching scope caught) outer r h = record { items = h.1 }
ended_keeps s (Finishing scope pending) outer r h = record { items = h.1 }
ended_keeps s (Doing scope block routine) outer r h = record { items = h.1 }
ended_keeps s (Barrier scope key routine) outer r h = record { items = h.1 }

step_keeps : (g : Setting) (tells : Bool) (shared : SharedValues) (place : Place) (r : Remainder) → StandsIn g.script r → IsPlace (lines_of g.script) place → StandsIn g.script (step_at g tells shared place r).to
step_keeps g tells shared Nowhere r has here = record { items = has.items }
step_keeps g tells shared (AtEnd close role outer) r has here = ended_keeps g.script role outer r here
step_keeps g tells shared (At h) r has here = made_keeps g tells shared h r has here (act_at h) (spot_act (lines_of g.script) h here)

pub quiet_keeps : (g : Setting) (r : Remainder) → StandsIn g.script r → StandsIn g.script (quiet g r).to
unfolding quiet
quiet_keeps g r has = step_keeps g false none_shared (place_in r.items) r has (place_stands (lines_of g.script) r.items has.items)

pub shared_keeps : (g : Setting) (shared : SharedValues) (r : Remainder) → StandsIn g.script r → StandsIn g.script (shared_step g shared r).to
unfolding shared_step
shared_keeps g shared r has = step_keeps g true shared (place_in r.items) r has (place_stands (lines_of g.script) r.items has.items)

pub outward_keeps : (g : Setting) (u : Unwinding) (r : Remainder) → StandsIn g.script r → StandsIn g.script (outward g u r).to
unfolding outward
outward_keeps g u r has = record { items = outward_stands (lines_of g.script) g.script u r.items r has.items }

-- ---- replies

raised_if_keeps : (s : Script) (x : Option Exc) (r : Remainder) → StandsIn s r → StandsIn s (raised_if x r).to
raised_if_keeps s None r has = has
raised_if_keeps s (Some x) r has = record { items = has.items }

replied_by_keeps : (g : Setting) (act : Act) (h : Spot) (r : Remainder) (y : Reply) → StandsIn g.script r → IsSpot (lines_of g.script) h → StandsIn g.script (replied_by g act h r y).to
replied_by_keeps g (Asks call) h r y has here = raised_if_keeps g.script (raised_by _ call y) _ (record { items = stores_keep (lines_of g.script) (stores call y) (passed h) (passed_stand (lines_of g.script) h here) })
replied_by_keeps g (Sets v e) h r y has here = has
replied_by_keeps g (Says e) h r y has here = has
replied_by_keeps g (Chooses e body other) h r y has here = has
replied_by_keeps g (Repeats e again) h r y has here = has
replied_by_keeps g (Tries body ways) h r y has here = has
replied_by_keeps g (Raises name) h r y has here = has
replied_by_keeps g RaisesAgain h r y has here = has
replied_by_keeps g (Calls routine e place) h r y has here = has
replied_by_keeps g (Returns e) h r y has here = has
replied_by_keeps g (Exits e) h r y has here = has

replied_at_keeps : (g : Setting) (place : Place) (r : Remainder) (y : Reply) → StandsIn g.script r → IsPlace (lines_of g.script) place → StandsIn g.script (replied_at g place r y).to
replied_at_keeps g Nowhere r y has here = has
replied_at_keeps g (AtEnd close role outer) r y has here = has
replied_at_keeps g (At h) r y has here = replied_by_keeps g (act_at h) h r y has here

pub replied_keeps : (g : Setting) (y : Reply) (r : Remainder) → StandsIn g.script r → StandsIn g.script (replied g y r).to
unfolding replied
replied_keeps g y r has = replied_at_keeps g (place_in r.items) r y has (place_stands (lines_of g.script) r.items has.items)
