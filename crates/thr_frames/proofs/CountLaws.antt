-- How many lines a step writes, and how many scopes and unwindings it counts.
use Rattle.std.proofs.Common.{◌≡◌, ℕ, ◌+◌, ◌≤◌, ℤ, Bool, true, false, List, [], ◌∷◌, ◌++◌, length, length-append, Ok, Err, refl, ap, arith, if◌then◌else◌}
use Rattle.thr_values.specs.declared.exception.Exc.{Exc}
use Rattle.thr_values.specs.declared.history.What.{What}
use Rattle.thr_values.specs.Exceptions.{stackovf_e}
use Rattle.thr_syntax.specs.declared.tree.Script.{Script}
use Rattle.thr_remainder.specs.declared.unwinding.Unwinding.{Unwinding}
use Rattle.thr_remainder.specs.Acts.{Act, Sets, Says, Chooses, Repeats, Tries, Raises, RaisesAgain, Calls, Returns, Exits, Asks}
use Rattle.thr_remainder.specs.Declarations.{exception_value}
use Rattle.thr_remainder.specs.Remainders.{Item, Role, Calling, Trying, Catching, Finishing, Doing, Barrier, Setting, Remainder, Move, Spot, Place, Nowhere, AtEnd, At, act_at, has_room, caught_in}
use Rattle.thr_remainder.specs.Expressions.{Value, SharedValues, value_of}
use Rattle.thr_remainder.specs.Starts.{raised, raised_again, exited, tries, if_room}
use Rattle.thr_remainder.specs.Steps.{told, valued, or_raised, made, ended, step_at}
use Rattle.thr_remainder.specs.Outward.{Meeting, Drops, Begins, Undoes, Loses, meeting, met, outward_from}
use Rattle.thr_stack.specs.declared.context.Context.{Context}
use Rattle.thr_stack.specs.Standing.{Makes, remainder_of}
use Rattle.thr_frames.specs.Stacks.{IsCounted}

-- A move of at most one line, where each scope and each unwinding that it counts has a line.
pub record IsSmall (r : Remainder) (m : Move) : Type 0 where
  pub one : length m.lines ≤ 1
  pub scopes : m.to.scopes ≤ r.scopes + length m.lines
  pub unwindings : m.to.unwindings ≤ r.unwindings + length m.lines

small_if : (b : Bool) (r : Remainder) (x y : Move) → IsSmall r x → IsSmall r y → IsSmall r (if b then x else y)
small_if true r x y h k = h
small_if false r x y h k = k

-- ---- steps at the innermost place

small_raised : (x : Exc) (r : Remainder) → IsSmall r (raised x r)
small_raised x r = record { one = omega arith; scopes = omega arith; unwindings = omega arith }

small_raised_again : (x : Exc) (r : Remainder) → IsSmall r (raised_again x r)
small_raised_again x r = record { one = omega arith; scopes = omega arith; unwindings = omega arith }

small_exited : (n : ℤ) (r : Remainder) → IsSmall r (exited n r)
small_exited n r = record { one = omega arith; scopes = omega arith; unwindings = omega arith }

-- A statement tells at most one line of its value.
one_told : (tells : Bool) (a : Act) (line : ℕ) (n : ℤ) → length (if tells then told a line n else []) ≤ 1
one_told false a line n = omega arith
one_told true (Sets v e) line n = omega arith
one_told true (Says e) line n = omega arith
one_told true (Chooses e body other) line n = omega arith
one_told true (Repeats e again) line n = omega arith
one_told true (Tries body ways) line n = omega arith
one_told true (Raises name) line n = omega arith
one_told true RaisesAgain line n = omega arith
one_told true (Calls routine e place) line n = omega arith
one_told true (Returns e) line n = omega arith
one_told true (Exits e) line n = omega arith
one_told true (Asks call) line n = omega arith

-- A move that counts nothing.
small_same : (r : Remainder) (m : Move) → length m.lines ≤ 1 → m.to.scopes ≡ r.scopes → m.to.unwindings ≡ r.unwindings → IsSmall r m
small_same r m one scopes unwindings = record { one = one; scopes = omega (arith, scopes); unwindings = omega (arith, unwindings) }

small_valued : (g : Setting) (tells : Bool) (a : Act) (h : Spot) (r : Remainder) (n : ℤ) → IsSmall r (valued g tells a h r n)
small_valued g tells (Sets v e) h r n = small_same r (valued g tells (Sets v e) h r n) (one_told tells (Sets v e) h.line n) refl refl
small_valued g tells (Says e) h r n = small_same r (valued g tells (Says e) h r n) (one_told tells (Says e) h.line n) refl refl
small_valued g tells (Chooses e body other) h r n = small_same r (valued g tells (Chooses e body other) h r n) (one_told tells (Chooses e body other) h.line n) refl refl
small_valued g tells (Repeats e again) h r n = small_same r (valued g tells (Repeats e again) h r n) (one_told tells (Repeats e again) h.line n) refl refl
small_valued g tells (Tries body ways) h r n = small_same r (valued g tells (Tries body ways) h r n) (one_told tells (Tries body ways) h.line n) refl refl
small_valued g tells (Raises name) h r n = small_same r (valued g tells (Raises name) h r n) (one_told tells (Raises name) h.line n) refl refl
small_valued g tells RaisesAgain h r n = small_same r (valued g tells RaisesAgain h r n) (one_told tells RaisesAgain h.line n) refl refl
small_valued g tells (Calls routine e place) h r n = small_same r (valued g tells (Calls routine e place) h r n) (one_told tells (Calls routine e place) h.line n) refl refl
small_valued g tells (Returns e) h r n = small_same r (valued g tells (Returns e) h r n) (one_told tells (Returns e) h.line n) refl refl
small_valued g tells (Exits e) h r n = small_exited n r
small_valued g tells (Asks call) h r n = small_same r (valued g tells (Asks call) h r n) (one_told tells (Asks call) h.line n) refl refl

small_or : (v : Value) (g : Setting) (tells : Bool) (a : Act) (h : Spot) (r : Remainder) → IsSmall r (or_raised v (valued g tells a h r) r)
small_or (Ok n) g tells a h r = small_valued g tells a h r n
small_or (Err x) g tells a h r = small_raised x r

small_room : (g : Setting) (r : Remainder) (m : Move) → IsSmall r m → IsSmall r (if_room g r m)
small_room g r m h = small_if (has_room g r 1) r m (raised stackovf_e r) h (small_raised stackovf_e r)

small_made : (g : Setting) (tells : Bool) (shared : SharedValues) (a : Act) (h : Spot) (r : Remainder) → IsSmall r (made g tells shared a h r)
small_made g tells shared (Sets v e) h r = small_or (value_of g shared r e) g tells (Sets v e) h r
small_made g tells shared (Says e) h r = small_or (value_of g shared r e) g tells (Says e) h r
small_made g tells shared (Chooses e body other) h r = small_or (value_of g shared r e) g tells (Chooses e body other) h r
small_made g tells shared (Repeats e again) h r = small_or (value_of g shared r e) g tells (Repeats e again) h r
small_made g tells shared (Tries body ways) h r = small_room g r (tries body ways h r) (record { one = omega arith; scopes = omega arith; unwindings = omega arith })
small_made g tells shared (Raises name) h r = small_raised (exception_value g.script name) r
small_made g tells shared RaisesAgain h r = small_raised_again (caught_in r.items) r
small_made g tells shared (Calls routine e place) h r =
    small_room g r (or_raised (value_of g shared r e) (valued g tells (Calls routine e place) h r) r) (small_or (value_of g shared r e) g tells (Calls routine e place) h r)
small_made g tells shared (Returns e) h r = small_or (value_of g shared r e) g tells (Returns e) h r
small_made g tells shared (Exits e) h r = small_or (value_of g shared r e) g tells (Exits e) h r
small_made g tells shared (Asks call) h r = record { one = omega arith; scopes = omega arith; unwindings = omega arith }

small_ended : (x : Role) (outer : List Item) (r : Remainder) → IsSmall r (ended x outer r)
small_ended (Calling locals place) outer r = record { one = omega arith; scopes = omega arith; unwindings = omega arith }
small_ended (Trying scope ways) outer r = record { one = omega arith; scopes = omega arith; unwindings = omega arith }
small_ended (Catching scope caught) outer r = record { one = omega arith; scopes = omega arith; unwindings = omega arith }
small_ended (Finishing scope pending) outer r = record { one = omega arith; scopes = omega arith; unwindings = omega arith }
small_ended (Doing scope block routine) outer r = record { one = omega arith; scopes = omega arith; unwindings = omega arith }
small_ended (Barrier scope key routine) outer r = record { one = omega arith; scopes = omega arith; unwindings = omega arith }

pub small_step : (g : Setting) (tells : Bool) (shared : SharedValues) (p : Place) (r : Remainder) → IsSmall r (step_at g tells shared p r)
small_step g tells shared Nowhere r = record { one = omega arith; scopes = omega arith; unwindings = omega arith }
small_step g tells shared (AtEnd close x outer) r = small_ended x outer r
small_step g tells shared (At h) r = small_made g tells shared (act_at h) h r

-- ---- outward steps

small_met : (m : Meeting) (i : Item) (outer : List Item) (r : Remainder) (further : Move) → IsSmall r further → IsSmall r (met m i outer r further)
small_met Drops i outer r further h = h
small_met (Begins x body line) i outer r further h = record { one = omega arith; scopes = omega arith; unwindings = omega arith }
small_met Undoes i outer r further h = record { one = omega arith; scopes = omega arith; unwindings = omega arith }
small_met (Loses line) i outer r further h = record { one = omega arith; scopes = omega arith; unwindings = omega arith }

pub small_outward : (s : Script) (u : Unwinding) (items : List Item) (r : Remainder) → IsSmall r (outward_from s u items r)
small_outward s u [] r = record { one = omega arith; scopes = omega arith; unwindings = omega arith }
small_outward s u (i ∷ outer) r = small_met (meeting s i.role u) i outer r (outward_from s u outer r) (small_outward s u outer r)

-- ---- moves that were made

-- One line was written.
pub one_more : (before after : List What) (line : What) → after ≡ before ++ line ∷ [] → length after ≤ length before + 1
one_more before after line e = omega (arith, ap length e, length-append before (line ∷ []))

module _ (s : Script) (m : Move) (old new : Context) (before after : List What) (h : Makes s m old new before after) (c : IsSmall (remainder_of s old) m) where
  pub one_line : length after ≤ length before + 1
  one_line = omega (arith, ap length h.lines, length-append before m.lines, c.one)

  pub is_counted : IsCounted (remainder_of s old) (remainder_of s new) before after
  is_counted = record {
    scopes = omega (arith, ap length h.lines, length-append before m.lines, c.scopes, ap (λ (x : Remainder). x.scopes) h.to);
    unwindings = omega (arith, ap length h.lines, length-append before m.lines, c.unwindings, ap (λ (x : Remainder). x.unwindings) h.to);
  }
