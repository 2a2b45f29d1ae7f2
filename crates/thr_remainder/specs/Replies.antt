-- A thread's part of a call: what it raises before it asks, and what it does with the reply (docs/machine.md, "Replies").
use Rattle.std.specs.Prelude.{ℤ, List, [], ◌∷◌, Bool, true, false, ◌&&◌, if◌then◌else◌, Option, Some, None, Result, Ok, Err}
use Rattle.thr_values.specs.declared.number.NameId.{NameId}
use Rattle.thr_values.specs.declared.exception.Exc.{Exc}
use Rattle.thr_values.specs.declared.reply.Reply.{Reply}
use Rattle.thr_values.specs.declared.reply.Reply.TheVariants as reply
use Rattle.thr_values.specs.Exceptions.{stackovf_e}
use Rattle.thr_values.specs.Replies.{errno_of, error_exc_of}
use Rattle.thr_syntax.specs.declared.expr.Var.{Var}
use Rattle.thr_syntax.specs.declared.expr.Var.TheVariants.{Local, Shared}
use Rattle.thr_syntax.specs.declared.expr.Expr.{Expr}
use Rattle.thr_syntax.specs.declared.dce.DceCall.{DceCall}
use Rattle.thr_syntax.specs.declared.dce.DceCall.TheVariants as dce
use Rattle.thr_syntax.specs.declared.tree.Interface.{Interface}
use Rattle.thr_syntax.specs.declared.tree.Interface.TheVariants as interface
use Rattle.thr_remainder.specs.Acts.{Act, Asks}
use Rattle.thr_remainder.specs.Declarations.{interface_of}
use Rattle.thr_remainder.specs.Remainders.{Item, Setting, Remainder, Move, Spot, Place, At, place_in, act_at, passed, with_local, has_room}
use Rattle.thr_remainder.specs.Expressions.{Value, SharedValues, value_of}
use Rattle.thr_remainder.specs.Starts.{still, raised}
use Rattle.thr_remainder.specs.Calls.{expressions_of, stores}

-- ---- before the reply

-- The values of a call's expressions, or the exception that is raised in its place (docs/machine.md, "Calls").
abbrev pub Values : Type 0
Values = Result (List ℤ) Exc

-- A value before others, or the first fault from the left (docs/machine.md, "Calls").
abbrev pub value_then : Value → Values → Values
value_then (Err x) ns = Err x
value_then (Ok n) (Err x) = Err x
value_then (Ok n) (Ok ns) = Ok (n ∷ ns)

-- The values of expressions from the left, or the first fault.
abbrev pub values_of : Setting → SharedValues → Remainder → List Expr → Values
values_of g shared r [] = Ok []
values_of g shared r (e ∷ es) = value_then (value_of g shared r e) (values_of g shared r es)

-- The call is `pthread_once` (docs/machine.md, "Frames").
abbrev pub needs_two_frames : DceCall → Bool
needs_two_frames (dce.Once block routine) = true
needs_two_frames _ = false

-- The values with which a call asks, or what is raised in its place: `pthread_once` needs two free frames, which are asked for
-- first (docs/machine.md, "Replies").
unfoldable pub asked : Setting → SharedValues → DceCall → Remainder → Values
asked g shared call r =
    if needs_two_frames call then (if has_room g r 2 then values_of g shared r (expressions_of call) else Err stackovf_e)
    else values_of g shared r (expressions_of call)

-- ---- the reply

-- The call is `pthread_cond_timedwait` (docs/machine.md, "Errors").
abbrev pub is_timed_wait : DceCall → Bool
is_timed_wait (dce.CondTimedwait c m e) = true
is_timed_wait _ = false

-- The reply is EAGAIN (docs/machine.md, "Errors").
abbrev pub is_eagain : Reply → Bool
is_eagain reply.Eagain = true
is_eagain _ = false

-- The exception of an error in the interface `exc`; the interface `status` raises none (docs/machine.md, "Errors").
abbrev pub raised_in : Interface → Reply → Option Exc
raised_in interface.Exc r = error_exc_of r
raised_in interface.Status r = None

-- The exception that the reply of a call raises, if it raises one: a timed wait whose time is past raises nothing
-- (docs/machine.md, "Errors").
abbrev pub raised_by : Interface → DceCall → Reply → Option Exc
raised_by i call r = if is_timed_wait call && is_eagain r then None else raised_in i r

-- Values in local variables, in their order.
abbrev pub stored_in : List (Var × ℤ) → List Item → List Item
stored_in [] items = items
stored_in ((Local p, n) ∷ stores) items = stored_in stores (with_local p n items)
stored_in ((Shared name, n) ∷ stores) items = stored_in stores items

-- Values in shared variables, in their order.
abbrev pub shared_in : List (Var × ℤ) → List (NameId × ℤ)
shared_in [] = []
shared_in ((Local p, n) ∷ stores) = shared_in stores
shared_in ((Shared name, n) ∷ stores) = (name, n) ∷ shared_in stores

-- This exception is raised, or nothing changes (docs/machine.md, "Errors").
abbrev pub raised_if : Option Exc → Remainder → Move
raised_if None r = still r
raised_if (Some x) r = raised x r

-- What is left after this statement, which is a call, has its reply (docs/machine.md, "Replies").
abbrev pub replied_by : Setting → Act → Spot → Remainder → Reply → Move
replied_by g (Asks call) h r reply =
    raised_if (raised_by (interface_of g.script) call reply) (record r { items = stored_in (stores call reply) (passed h); err = errno_of reply })
replied_by g _ h r reply = still r

-- The same of the statement at this place, if one is next (docs/machine.md, "Replies").
abbrev pub replied_at : Setting → Place → Remainder → Reply → Move
replied_at g (At h) r reply = replied_by g (act_at h) h r reply
replied_at g _ r reply = still r

-- The call that is next has this reply, which isn't `blocks`: its values are in the call's local variables, `err` is its
-- number, the call is behind, and an error raises where the interface says so (docs/machine.md, "Replies").
unfoldable pub replied : Setting → Reply → Remainder → Move
replied g reply r = replied_at g (place_in r.items) r reply

-- The shared variables that the reply of this call writes, with their values (docs/machine.md, "Replies").
abbrev pub writes_by : Act → Reply → List (NameId × ℤ)
writes_by (Asks call) reply = shared_in (stores call reply)
writes_by _ reply = []

-- The same of the statement at this place, if one is next (docs/machine.md, "Replies").
abbrev pub writes_at : Place → Reply → List (NameId × ℤ)
writes_at (At h) reply = writes_by (act_at h) reply
writes_at _ reply = []

-- The shared variables that the reply of the next call writes, with their values in this order (docs/machine.md, "Replies").
unfoldable pub writes : Remainder → Reply → List (NameId × ℤ)
writes r reply = writes_at (place_in r.items) reply
