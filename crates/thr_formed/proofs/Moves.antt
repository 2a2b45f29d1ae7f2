-- What each step of a thread leaves, and its lines, with exceptions of the script and names of their kinds.
use Rattle.std.proofs.Common.{◌≡◌, ℕ, ◌+◌, true, ℤ, pos, Bool, false, List, [], ◌∷◌, Option, Some, None, Ok, Err, refl}
use Rattle.std.specs.Prelude.{if◌then◌else◌, unwrap_or}
use Rattle.thr_values.specs.Exceptions.{cancel_e, stackovf_e}
use Rattle.thr_values.specs.Replies.{errno_of}
use Rattle.thr_values.specs.declared.number.NameId.{NameId}
use Rattle.thr_values.specs.declared.exception.Exc.{Exc}
use Rattle.thr_values.specs.declared.history.What.{What}
use Rattle.thr_values.specs.declared.history.What.TheVariants as what
use Rattle.thr_values.specs.declared.reply.Reply.{Reply}
use Rattle.thr_syntax.specs.declared.expr.Var.{Var}
use Rattle.thr_syntax.specs.declared.expr.Var.TheVariants.{Local, Shared}
use Rattle.thr_syntax.specs.declared.tree.Script.{Script}
use Rattle.thr_syntax.specs.Lines.{lines_of}
use Rattle.thr_text.specs.declared.object.Object.TheVariants as object
use Rattle.thr_text.specs.Reading.{Formed}
use Rattle.thr_trees.specs.Kinds.{is_name_of}
use Rattle.thr_trees.specs.Names.{AreOfKinds}
use Rattle.thr_remainder.specs.declared.unwinding.Cause.{Cause}
use Rattle.thr_remainder.specs.declared.unwinding.Cause.TheVariants.{Raised, Exit}
use Rattle.thr_remainder.specs.declared.unwinding.Unwinding.{Unwinding}
use Rattle.thr_remainder.specs.Places.{Placed, Left, Handler, Ways, Catches, Finally}
use Rattle.thr_remainder.specs.Acts.{Act, Sets, Says, Chooses, Repeats, Tries, Raises, RaisesAgain, Calls, Returns, Exits, Asks}
use Rattle.thr_remainder.specs.Declarations.{Entry, interface_of, entry_of, exception_value}
use Rattle.thr_remainder.specs.Remainders.{Item, Role, Calling, Trying, Catching, Finishing, Doing, Barrier, Setting, Remainder, Move, Spot, Place, Nowhere, AtEnd, At, place_in, place_inside, act_at, passed, caught_or, caught_in, has_room, role_with, is_call, with_local}
use Rattle.thr_remainder.specs.Expressions.{Value, SharedValues, none_shared, value_of}
use Rattle.thr_remainder.specs.Starts.{at, still, sets_out, raised, raised_again, exited, line_of_next, delivered, fresh, tries, begins, begins_once, begins_destructor}
use Rattle.thr_remainder.specs.Steps.{stored, kept, place_for, variable_set, items_after, kept_after, after, told, valued, or_raised, made, ended, step_at, quiet, shared_step}
use Rattle.thr_remainder.specs.Outward.{Meeting, Drops, Begins, Undoes, Loses, meeting, at_try, caught_by, first_catch, met, outward_from, outward, undone}
use Rattle.thr_remainder.specs.Calls.{stores}
use Rattle.thr_remainder.specs.Replies.{raised_by, stored_in, raised_if, replied_by, replied_at, replied}
use Rattle.thr_parts.proofs.EachLaws.{IfThere}
use Rattle.thr_answers.specs.Standing.{StandsIn}
use Rattle.thr_answers.proofs.StepsStand.{IsPlace, place_stands}
use Rattle.thr_formed.proofs.Named.{ExcNamed, CauseNamed, UnwindingNamed, RoleNamed, ItemsNamed, LeftNamed, LineNamed, LinesNamed, MoveNamed}
use Rattle.thr_formed.proofs.Statements.{act_names, spot_named}
use Rattle.thr_formed.proofs.Faults.{ValueNamed, value_named, raised_by_named, exception_named}

module _ (s : Script) where
  -- ---- items

  role_set : (p : ℕ) (n : ℤ) (role : Role) → RoleNamed s role → RoleNamed s (role_with p n role)
  role_set p n (Calling locals place) h = tt
  role_set p n (Trying scope ways) h = tt
  role_set p n (Catching scope caught) h = h
  role_set p n (Finishing scope pending) h = h
  role_set p n (Doing scope block routine) h = tt
  role_set p n (Barrier scope key routine) h = tt

  either_items : (b : Bool) (xs ys : List Item) → ItemsNamed s xs → ItemsNamed s ys → ItemsNamed s (if b then xs else ys)
  either_items true xs ys h i = h
  either_items false xs ys h i = i

  local_set : (p : ℕ) (n : ℤ) (items : List Item) → ItemsNamed s items → ItemsNamed s (with_local p n items)
  local_set p n [] h = tt
  local_set p n (x ∷ items) h = (role_set p n x.role h.0, either_items (is_call x.role) items (with_local p n items) h.1 (local_set p n items h.1))

  role_caught : (role : Role) (outer : Exc) → RoleNamed s role → ExcNamed s outer → ExcNamed s (caught_or role outer)
  role_caught (Calling locals place) outer r h = refl
  role_caught (Catching scope caught) outer r h = r
  role_caught _ outer r h = h

  caught_named : (items : List Item) → ItemsNamed s items → ExcNamed s (caught_in items)
  caught_named [] h = refl
  caught_named (i ∷ items) h = role_caught i.role (caught_in items) h.0 (caught_named items h.1)

  -- The innermost item and those outside it are such.
  abbrev PlaceNamed : Place → Type 0
  PlaceNamed Nowhere = Unit {0}
  PlaceNamed (AtEnd close role outer) = RoleNamed s role × ItemsNamed s outer
  PlaceNamed (At h) = RoleNamed s h.role × ItemsNamed s h.outer

  inside_named : (todo : List Placed) (close : ℕ) (role : Role) (outer : List Item) → RoleNamed s role → ItemsNamed s outer → PlaceNamed (place_inside todo close role outer)
  inside_named [] close role outer h i = (h, i)
  inside_named (p ∷ todo) close role outer h i = (h, i)

  place_named : (items : List Item) → ItemsNamed s items → PlaceNamed (place_in items)
  place_named [] h = tt
  place_named (i ∷ outer) h = inside_named i.inside.todo i.inside.close i.role outer h.0 h.1

  -- ---- unwindings that set out

  set_out : (cause : Cause) (line : ℕ → What) (r : Remainder) → LeftNamed s r → CauseNamed s cause → ((n : ℕ) → LineNamed s (line n)) → MoveNamed s (sets_out cause line r)
  set_out cause line r h c says = record { to = record { items = h.items; under = c }; lines = (says (r.unwindings + 1), tt) }

  pub raised_named : (x : Exc) (r : Remainder) → LeftNamed s r → ExcNamed s x → MoveNamed s (raised x r)
  raised_named x r h e = set_out (Raised x) (λ n. what.Raise n x) r h e (λ n. e)

  again_named : (x : Exc) (r : Remainder) → LeftNamed s r → ExcNamed s x → MoveNamed s (raised_again x r)
  again_named x r h e = set_out (Raised x) (λ n. what.Reraise n x) r h e (λ n. e)

  exited_named : (v : ℤ) (r : Remainder) → LeftNamed s r → MoveNamed s (exited v r)
  exited_named v r h = set_out (Exit v) (λ n. what.Exit n v) r h tt (λ n. tt)

  pub delivered_named : (r : Remainder) → LeftNamed s r → MoveNamed s (delivered r)
  delivered_named r h = set_out (Raised cancel_e) (λ n. what.Deliver n (at (unwrap_or (line_of_next r) 0))) r h refl (λ n. tt)

  pub still_named : (r : Remainder) → LeftNamed s r → MoveNamed s (still r)
  still_named r h = record { to = h; lines = tt }

  -- The same but for these items and this value that is kept, and with these lines.
  with_items : (r : Remainder) (items : List Item) (v : ℤ) (lines : List What) → LeftNamed s r → ItemsNamed s items → LinesNamed s lines
      → (let m : Move = record { to = record r { items = items; value = v }; lines = lines } in MoveNamed s m)
  with_items r items v lines h i l = record { to = record { items = i; under = h.under }; lines = l }

  -- ---- frames

  pub fresh_named : (other : Script) (routine : NameId) (n : ℤ) → LeftNamed s (fresh other routine n)
  fresh_named other routine n = record { items = (tt, tt); under = tt }

  begins_named : (entry : Entry) (role : Role) (n : ℤ) (line : What) (r : Remainder) → LeftNamed s r → RoleNamed s role → LineNamed s line → MoveNamed s (begins entry role n line r)
  begins_named entry role n line r h i l = record { to = record { items = (tt, (i, h.items)); under = h.under }; lines = (l, tt) }

  pub once_named : (g : Setting) (block routine : NameId) (r : Remainder) → is_name_of s object.Once block ≡ true → LeftNamed s r → MoveNamed s (begins_once g block routine r)
  once_named g block routine r k h = begins_named (entry_of g.script routine) (Doing (r.scopes + 1) block routine) (pos 0) (what.Once (r.scopes + 1) block) r h tt k

  pub destructor_named : (g : Setting) (key routine : NameId) (n : ℤ) (r : Remainder) → is_name_of s object.Key key ≡ true → LeftNamed s r → MoveNamed s (begins_destructor g key routine n r)
  destructor_named g key routine n r k h = begins_named (entry_of g.script routine) (Barrier (r.scopes + 1) key routine) n (what.Destroy (r.scopes + 1) key n) r h tt k

  -- ---- statements

  stored_named : (place : Option ℕ) (n : ℤ) (items : List Item) → ItemsNamed s items → ItemsNamed s (stored place n items)
  stored_named None n items i = i
  stored_named (Some p) n items i = local_set p n items i

  variable_named : (v : Var) (n : ℤ) (items : List Item) → ItemsNamed s items → ItemsNamed s (variable_set v n items)
  variable_named (Local p) n items i = local_set p n items i
  variable_named (Shared name) n items i = i

  valued_named : (value : Value) (step : ℤ → Move) (r : Remainder) → LeftNamed s r → ValueNamed s value → ((n : ℤ) → MoveNamed s (step n)) → MoveNamed s (or_raised value step r)
  valued_named (Ok n) step r h v f = f n
  valued_named (Err x) step r h v f = raised_named x r h v

  either_named : (b : Bool) (m o : Move) → MoveNamed s m → MoveNamed s o → MoveNamed s (if b then m else o)
  either_named true m o h i = h
  either_named false m o h i = i

  either_lines : (b : Bool) (ws : List What) → LinesNamed s ws → LinesNamed s (if b then ws else [])
  either_lines true ws h = h
  either_lines false ws h = tt

  told_named : (act : Act) (line : ℕ) (n : ℤ) → LinesNamed s (told act line n)
  told_named (Sets v e) line n = (tt, tt)
  told_named (Says e) line n = (tt, tt)
  told_named (Chooses e body other) line n = (tt, tt)
  told_named (Repeats e again) line n = (tt, tt)
  told_named (Calls routine e place) line n = (tt, tt)
  told_named (Returns e) line n = (tt, tt)
  told_named _ line n = tt

  -- ---- ends

  ended_named : (role : Role) (outer : List Item) (r : Remainder) → LeftNamed s r → RoleNamed s role × ItemsNamed s outer → MoveNamed s (ended role outer r)
  ended_named (Calling locals place) outer r h i = with_items r (stored place (pos 0) outer) (kept outer (pos 0) r.value) [] h (stored_named place (pos 0) outer i.1) tt
  ended_named (Trying scope (Catches handlers)) outer r h i = with_items r outer r.value (what.Endtry scope ∷ []) h i.1 (tt, tt)
  ended_named (Trying scope (Finally body)) outer r h i =
      with_items r (record { role = Finishing scope None; inside = body } ∷ outer) r.value (what.Finally scope 0 ∷ []) h (tt, i.1) (tt, tt)
  ended_named (Catching scope caught) outer r h i = with_items r outer r.value (what.Endcatch scope ∷ []) h i.1 (tt, tt)
  ended_named (Finishing scope pending) outer r h i =
      with_items (record r { under_way = pending }) outer r.value (what.Endfin scope ∷ []) (record { items = h.items; under = i.0 }) i.1 (tt, tt)
  ended_named (Doing scope block routine) outer r h i = with_items r outer r.value (what.Done scope ∷ []) h i.1 (tt, tt)
  ended_named (Barrier scope key routine) outer r h i = with_items r outer r.value (what.Enddes scope ∷ []) h i.1 (tt, tt)

  -- ---- unwindings

  abbrev MeetingNamed : Meeting → Type 0
  MeetingNamed Drops = Unit {0}
  MeetingNamed (Begins role body line) = RoleNamed s role × LineNamed s line
  MeetingNamed Undoes = Unit {0}
  MeetingNamed (Loses line) = LineNamed s line

  module _ (other : Script) where
    caught_there : (scope n : ℕ) (x : Exc) (c : Option Handler) → ExcNamed s x → MeetingNamed (caught_by scope n x c)
    caught_there scope n x None e = tt
    caught_there scope n x (Some c) e = (e, tt)

    try_named : (scope : ℕ) (ways : Ways) (u : Unwinding) (cause : Cause) → UnwindingNamed s u → CauseNamed s cause → MeetingNamed (at_try other scope ways u cause)
    try_named scope (Finally body) u cause h c = (h, tt)
    try_named scope (Catches clauses) u (Raised x) h c = caught_there scope u.number x (first_catch other x clauses) c
    try_named scope (Catches clauses) u (Exit v) h c = tt

    meeting_named : (role : Role) (u : Unwinding) → UnwindingNamed s u → MeetingNamed (meeting other role u)
    meeting_named (Calling locals place) u h = tt
    meeting_named (Trying scope ways) u h = try_named scope ways u u.cause h h
    meeting_named (Catching scope caught) u h = tt
    meeting_named (Finishing scope pending) u h = tt
    meeting_named (Doing scope block routine) u h = tt
    meeting_named (Barrier scope key routine) u h = tt

    met_named : (meets : Meeting) (i : Item) (outer : List Item) (r : Remainder) (further : Move) → LeftNamed s r → MeetingNamed meets → ItemsNamed s (i ∷ outer) → MoveNamed s further → MoveNamed s (met meets i outer r further)
    met_named Drops i outer r further h m is f = f
    met_named (Begins role body line) i outer r further h m is f = record { to = record { items = (m.0, is.1); under = tt }; lines = (m.1, tt) }
    met_named Undoes i outer r further h m is f = record { to = record { items = is; under = h.under }; lines = tt }
    met_named (Loses line) i outer r further h m is f = record { to = record { items = is.1; under = tt }; lines = (m, tt) }

    outward_from_named : (u : Unwinding) (items : List Item) (r : Remainder) → UnwindingNamed s u → LeftNamed s r → ItemsNamed s items → MoveNamed s (outward_from other u items r)
    outward_from_named u [] r w h i = record { to = record { items = tt; under = tt }; lines = (tt, tt) }
    outward_from_named u (x ∷ outer) r w h i =
        met_named (meeting other x.role u) x outer r (outward_from other u outer r) h (meeting_named x.role u w) i (outward_from_named u outer r w h i.1)

  pub outward_named : (g : Setting) (u : Unwinding) (r : Remainder) → UnwindingNamed s u → LeftNamed s r → MoveNamed s (outward g u r)
  unfolding outward
  outward_named g u r w h = outward_from_named g.script u r.items r w h h.items

  pub undone_named : (scope : ℕ) (u : Unwinding) (outer : List Item) (r : Remainder) → ItemsNamed s outer → LeftNamed s r → MoveNamed s (undone scope u outer r)
  undone_named scope u outer r i h = record { to = record { items = i; under = h.under }; lines = (tt, tt) }

  -- ---- replies

  stores_named : (xs : List (Var × ℤ)) (items : List Item) → ItemsNamed s items → ItemsNamed s (stored_in xs items)
  stores_named [] items h = h
  stores_named ((Local p, n) ∷ xs) items h = stores_named xs (with_local p n items) (local_set p n items h)
  stores_named ((Shared name, n) ∷ xs) items h = stores_named xs items h

  raises_named : (o : Option Exc) (r : Remainder) → LeftNamed s r → IfThere (ExcNamed s) o → MoveNamed s (raised_if o r)
  raises_named None r h e = still_named r h
  raises_named (Some x) r h e = raised_named x r h e

  replied_by_named : (g : Setting) (act : Act) (h : Spot) (r : Remainder) (y : Reply) → LeftNamed s r → RoleNamed s h.role × ItemsNamed s h.outer → MoveNamed s (replied_by g act h r y)
  replied_by_named g (Asks call) h r y has place =
      raises_named (raised_by (interface_of g.script) call y) (record r { items = stored_in (stores call y) (passed h); err = errno_of y })
      (record { items = stores_named (stores call y) (passed h) place; under = has.under }) (raised_by_named s (interface_of g.script) call y)
  replied_by_named g _ h r y has place = still_named r has

  replied_at_named : (g : Setting) (p : Place) (r : Remainder) (y : Reply) → LeftNamed s r → PlaceNamed p → MoveNamed s (replied_at g p r y)
  replied_at_named g (At h) r y has place = replied_by_named g (act_at h) h r y has place
  replied_at_named g _ r y has place = still_named r has

  pub replied_named : (g : Setting) (y : Reply) (r : Remainder) → LeftNamed s r → MoveNamed s (replied g y r)
  unfolding replied
  replied_named g y r has = replied_at_named g (place_in r.items) r y has (place_named r.items has.items)

-- ---- steps of a thread of the script

module _ (g : Setting) (formed : Formed g.script) (tells : Bool) (shared : SharedValues) (r : Remainder) (has : LeftNamed g.script r) where
  module _ (h : Spot) (place : RoleNamed g.script h.role × ItemsNamed g.script h.outer) where
    items_after_named : (act : Act) (n : ℤ) → ItemsNamed g.script (items_after g act n h)
    items_after_named (Sets v e) n = variable_named g.script v n (passed h) place
    items_after_named (Says e) n = place
    items_after_named (Chooses e body other) n = place
    items_after_named (Repeats e again) n = place
    items_after_named (Tries body ways) n = place
    items_after_named (Raises name) n = place
    items_after_named RaisesAgain n = place
    items_after_named (Calls routine e to) n = (tt, place)
    items_after_named (Returns e) n = stored_named g.script (place_for h.role) n h.outer place.1
    items_after_named (Exits e) n = place
    items_after_named (Asks call) n = place

    after_named : (act : Act) (n : ℤ) → (let m : Move = record { to = after g act n h r; lines = if tells then told act h.line n else [] } in MoveNamed g.script m)
    after_named act n =
        with_items g.script r (items_after g act n h) (kept_after act n h.outer r.value) (if tells then told act h.line n else []) has (items_after_named act n)
        (either_lines g.script tells (told act h.line n) (told_named g.script act h.line n))

    tries_named : (body : Left) (ways : Ways) → MoveNamed g.script (tries body ways h r)
    tries_named body ways = record { to = record { items = (tt, place); under = has.under }; lines = (tt, tt) }

    made_named : (act : Act) → AreOfKinds g.script (act_names act) → MoveNamed g.script (made g tells shared act h r)
    made_named (Sets v e) names = valued_named g.script (value_of g shared r e) _ r has (value_named g.script g shared r e) (after_named (Sets v e))
    made_named (Says e) names = valued_named g.script (value_of g shared r e) _ r has (value_named g.script g shared r e) (after_named (Says e))
    made_named (Chooses e body other) names = valued_named g.script (value_of g shared r e) _ r has (value_named g.script g shared r e) (after_named (Chooses e body other))
    made_named (Repeats e again) names = valued_named g.script (value_of g shared r e) _ r has (value_named g.script g shared r e) (after_named (Repeats e again))
    made_named (Tries body ways) names = either_named g.script (has_room g r 1) _ _ (tries_named body ways) (raised_named g.script stackovf_e r has refl)
    made_named (Raises name) names = raised_named g.script (exception_value g.script name) r has (exception_named g.script name names.0)
    made_named RaisesAgain names = again_named g.script (caught_in r.items) r has (caught_named g.script r.items has.items)
    made_named (Calls routine e to) names =
        either_named g.script (has_room g r 1) _ _
        (valued_named g.script (value_of g shared r e) (valued g tells (Calls routine e to) h r) r has (value_named g.script g shared r e) (after_named (Calls routine e to)))
        (raised_named g.script stackovf_e r has refl)
    made_named (Returns e) names = valued_named g.script (value_of g shared r e) _ r has (value_named g.script g shared r e) (after_named (Returns e))
    made_named (Exits e) names = valued_named g.script (value_of g shared r e) _ r has (value_named g.script g shared r e) (λ n. exited_named g.script n r has)
    made_named (Asks call) names = still_named g.script r has

  step_named : (p : Place) → IsPlace (lines_of g.script) p → PlaceNamed g.script p → MoveNamed g.script (step_at g tells shared p r)
  step_named Nowhere stand place = still_named g.script r has
  step_named (AtEnd close role outer) stand place = ended_named g.script role outer r has place
  step_named (At h) stand place = made_named h place (act_at h) (spot_named g.script formed h stand)

pub quiet_named : (g : Setting) (r : Remainder) → Formed g.script → StandsIn g.script r → LeftNamed g.script r → MoveNamed g.script (quiet g r)
unfolding quiet
quiet_named g r formed stand has =
    step_named g formed false none_shared r has (place_in r.items) (place_stands (lines_of g.script) r.items stand.items) (place_named g.script r.items has.items)

pub shared_named : (g : Setting) (shared : SharedValues) (r : Remainder) → Formed g.script → StandsIn g.script r → LeftNamed g.script r → MoveNamed g.script (shared_step g shared r)
unfolding shared_step
shared_named g shared r formed stand has =
    step_named g formed true shared r has (place_in r.items) (place_stands (lines_of g.script) r.items stand.items) (place_named g.script r.items has.items)
