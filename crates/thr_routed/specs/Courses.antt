-- The course of a thread: how its open scopes, its unwindings and its lines go together (docs/laws.md, "Routes").
use Rattle.std.specs.Prelude.{◌≡◌, ℕ, ◌+◌, ℤ, false, List, [], ◌∷◌, ◌++◌, Option, Some, None}
use Rattle.thr_values.specs.declared.number.NameId.{NameId}
use Rattle.thr_values.specs.declared.number.Line.{Line}
use Rattle.thr_values.specs.declared.exception.Exc.{Exc}
use Rattle.thr_values.specs.declared.history.What.{What}
use Rattle.thr_values.specs.declared.history.What.TheVariants as what
use Rattle.thr_values.specs.Exceptions.{cancel_e}
use Rattle.thr_syntax.specs.declared.tree.Script.{Script}
use Rattle.thr_remainder.specs.declared.unwinding.Cause.{Cause}
use Rattle.thr_remainder.specs.declared.unwinding.Cause.TheVariants.{Raised, Exit}
use Rattle.thr_remainder.specs.declared.unwinding.Unwinding.{Unwinding}
use Rattle.thr_remainder.specs.Places.{Left, Handler, Ways, Catches, Finally}
use Rattle.thr_remainder.specs.Remainders.{Role, Calling, Trying, Catching, Finishing, Doing, Barrier, Item, Remainder}
use Rattle.thr_remainder.specs.Outward.{Drops, meeting, first_catch, left_value}
use Rattle.thr_laws.specs.Lines.{is_end}
use Rattle.thr_laws.specs.Scopes.{Open, opened_after}
use Rattle.thr_laws.specs.Handlers.{first_clause}
use Rattle.thr_laws.specs.Routes.{Carried, RunsFinally, carried, at_clause}
use Rattle.thr_laws.specs.Routes as Routes
use Rattle.thr_laws.specs.Routed.{made_by, ends_finally, goes_on_from, is_pause}

-- ---- what is open in a thread

-- What is open in a thread: the roles of its open scopes, the innermost first; the unwinding that is under way; and how many scopes
-- and unwindings it has had.
pub record Outline : Type 0 where
  pub roles : List Role
  pub under : Option Unwinding
  pub scopes : ℕ
  pub unwindings : ℕ

-- The role in front, unless it is a call, which opens no scope.
abbrev pub with_role : Role → List Role → List Role
with_role (Calling locals place) roles = roles
with_role (Trying scope ways) roles = Trying scope ways ∷ roles
with_role (Catching scope caught) roles = Catching scope caught ∷ roles
with_role (Finishing scope pending) roles = Finishing scope pending ∷ roles
with_role (Doing scope block routine) roles = Doing scope block routine ∷ roles
with_role (Barrier scope key routine) roles = Barrier scope key routine ∷ roles

-- The roles of the open scopes among these items.
abbrev pub roles_in : List Item → List Role
roles_in [] = []
roles_in (i ∷ items) = with_role i.role (roles_in items)

-- What is open in a thread that has this still to do.
abbrev pub outline : Remainder → Outline
outline r = record { roles = roles_in r.items; under = r.under_way; scopes = r.scopes; unwindings = r.unwindings }

-- No unwinding is under way.
abbrev pub at_rest : List Role → ℕ → ℕ → Outline
at_rest roles scopes unwindings = record { roles = roles; under = None; scopes = scopes; unwindings = unwindings }

-- This unwinding is under way.
abbrev pub on_way : List Role → Unwinding → ℕ → ℕ → Outline
on_way roles u scopes unwindings = record { roles = roles; under = Some u; scopes = scopes; unwindings = unwindings }

abbrev pub unwinding : ℕ → Cause → Unwinding
unwinding n cause = record { number = n; cause = cause }

-- ---- the ways of a try

-- The route at a handler that catches, if one does, and then the rest of the route.
abbrev pub at_handler : ℕ → Option Handler → List Carried → List Carried
at_handler scope None rest = rest
at_handler scope (Some h) rest = Routes.Catches scope h.line ∷ []

-- The route at a try in its body that has these ways, and then the rest of the route.
abbrev pub at_ways : Script → ℕ → Ways → Cause → List Carried → List Carried
at_ways s scope (Finally body) cause rest = RunsFinally scope ∷ rest
at_ways s scope (Catches handlers) (Raised x) rest = at_handler scope (first_catch s x handlers) rest
at_ways s scope (Catches handlers) (Exit v) rest = rest

-- The clauses of the try at this line of the script tell of a route what these ways do.
abbrev pub HasClauses : Script → ℕ → Ways → Type 0
HasClauses s line ways = (scope : ℕ) (cause : Cause) (rest : List Carried) → at_clause scope (first_clause s line cause) rest ≡ at_ways s scope ways cause rest

-- ---- kinds of lines

-- The line opens no scope and closes none, and makes no unwinding and carries none.
pub record IsPassedBy (w : What) : Type 0 where
  pub scopes : (scopes : List Open) → opened_after scopes w ≡ scopes
  pub making : made_by w ≡ None
  pub carrying : carried w ≡ None
  pub closing : (scope : ℕ) → ends_finally scope w ≡ false
  pub going : (n : ℕ) (scopes : List Open) → goes_on_from n scopes w ≡ None
  pub pausing : is_pause w ≡ false
  pub ending : is_end w ≡ false

-- The line by which this unwinding sets out.
pub data SetsOut (n : ℕ) : Cause → What → Type 0 where
  by_raise : (x : Exc) → SetsOut n (Raised x) (what.Raise n x)
  by_reraise : (x : Exc) → SetsOut n (Raised x) (what.Reraise n x)
  by_delivery : (line : Line) → SetsOut n (Raised cancel_e) (what.Deliver n line)
  by_exit : (v : ℤ) → SetsOut n (Exit v) (what.Exit n v)

-- The line by which a scope of this role is opened. A try opens at its line with its ways.
pub data Opens (HasWays : ℕ → Ways → Type 0) (scope : ℕ) : Role → What → Type 0 where
  by_try : (line : Line) (ways : Ways) → HasWays line.0 ways → Opens HasWays scope (Trying scope ways) (what.Try scope line)
  by_once : (block routine : NameId) → Opens HasWays scope (Doing scope block routine) (what.Once scope block)
  by_destructor : (key routine : NameId) (v : ℤ) → Opens HasWays scope (Barrier scope key routine) (what.Destroy scope key v)

-- The line by which a scope of this role ends, and the unwinding that is under way then.
pub data Closes : Role → What → Option Unwinding → Type 0 where
  by_endtry : (scope : ℕ) (handlers : List Handler) → Closes (Trying scope (Catches handlers)) (what.Endtry scope) None
  by_endcatch : (scope : ℕ) (caught : Exc) → Closes (Catching scope caught) (what.Endcatch scope) None
  by_endfin : (scope : ℕ) (pending : Option Unwinding) → Closes (Finishing scope pending) (what.Endfin scope) pending
  by_done : (scope : ℕ) (block routine : NameId) → Closes (Doing scope block routine) (what.Done scope) None
  by_enddes : (scope : ℕ) (key routine : NameId) → Closes (Barrier scope key routine) (what.Enddes scope) None

-- ---- a line of a thread

-- By this line what is open in the thread becomes this.
pub data Change (s : Script) (HasWays : ℕ → Ways → Type 0) : Outline → What → Outline → Type 0 where
  pauses : (a : Outline) → Change s HasWays a what.Pause a
  passes : (roles : List Role) (k n : ℕ) (w : What) → IsPassedBy w → Change s HasWays (at_rest roles k n) w (at_rest roles k n)
  sets_out : (roles : List Role) (k n : ℕ) (cause : Cause) (w : What) → SetsOut (n + 1) cause w
      → Change s HasWays (at_rest roles k n) w (on_way roles (unwinding (n + 1) cause) k (n + 1))
  opens : (roles : List Role) (k n : ℕ) (role : Role) (w : What) → Opens HasWays (k + 1) role w
      → Change s HasWays (at_rest roles k n) w (at_rest (role ∷ roles) (k + 1) n)
  closes : (roles : List Role) (k n : ℕ) (role : Role) (w : What) (pending : Option Unwinding) → Closes role w pending
      → Change s HasWays (at_rest (role ∷ roles) k n) w (record { roles = roles; under = pending; scopes = k; unwindings = n })
  -- a FINALLY body that begins without an unwinding
  finishes : (roles : List Role) (k n scope : ℕ) (body : Left)
      → Change s HasWays (at_rest (Trying scope (Finally body) ∷ roles) k n) (what.Finally scope 0) (at_rest (Finishing scope None ∷ roles) k n)
  -- an unwinding is caught, it is pending in a FINALLY body, it undoes a once block, it is lost in a destructor, or it leaves the
  -- thread
  is_caught : (roles : List Role) (k n scope : ℕ) (handlers : List Handler) (number : ℕ) (x : Exc) (h : Handler) → first_catch s x handlers ≡ Some h
      → Change s HasWays (on_way (Trying scope (Catches handlers) ∷ roles) (unwinding number (Raised x)) k n)
      (what.Catch scope number (record { 0 = h.line })) (at_rest (Catching scope x ∷ roles) k n)
  is_pending : (roles : List Role) (k n scope : ℕ) (body : Left) (u : Unwinding)
      → Change s HasWays (on_way (Trying scope (Finally body) ∷ roles) u k n) (what.Finally scope u.number) (at_rest (Finishing scope (Some u) ∷ roles) k n)
  undoes : (roles : List Role) (k n scope : ℕ) (block routine : NameId) (u : Unwinding)
      → Change s HasWays (on_way (Doing scope block routine ∷ roles) u k n) (what.Undone scope u.number) (on_way roles u k n)
  is_lost : (roles : List Role) (k n scope : ℕ) (key routine : NameId) (u : Unwinding)
      → Change s HasWays (on_way (Barrier scope key routine ∷ roles) u k n) (what.Lost scope u.number) (at_rest roles k n)
  leaves : (k n : ℕ) (u : Unwinding)
      → Change s HasWays (on_way [] u k n) (what.Bottom u.number (left_value u.cause)) (at_rest [] k n)

-- ---- the lines of a thread

-- A thread that has written these lines has this open, or there is no such thread: it was never made, or it has ended. No line tells of a
-- scope that a return leaves.
pub data Course (s : Script) (HasWays : ℕ → Ways → Type 0) (MayReturn : Type 0) : Option Outline → List What → Type 0 where
  never : Course s HasWays MayReturn None []
  begun : Course s HasWays MayReturn (Some (at_rest [] 0 0)) []
  after : {a b : Outline} {lines : List What} {w : What} → Course s HasWays MayReturn (Some a) lines → Change s HasWays a w b → Course s HasWays MayReturn (Some b) (lines ++ w ∷ [])
  -- a scope that the unwinding under way drops
  drops : {roles : List Role} {k n : ℕ} {lines : List What} (role : Role) (u : Unwinding) → meeting s role u ≡ Drops
      → Course s HasWays MayReturn (Some (on_way (role ∷ roles) u k n)) lines → Course s HasWays MayReturn (Some (on_way roles u k n)) lines
  -- a scope that a return leaves, where a script may have such returns
  slips : {roles : List Role} {k n : ℕ} {lines : List What} (role : Role) → MayReturn
      → Course s HasWays MayReturn (Some (at_rest (role ∷ roles) k n)) lines → Course s HasWays MayReturn (Some (at_rest roles k n)) lines
  ended : {k n : ℕ} {lines : List What} (v : ℤ) → Course s HasWays MayReturn (Some (at_rest [] k n)) lines → Course s HasWays MayReturn None (lines ++ what.End v ∷ [])
