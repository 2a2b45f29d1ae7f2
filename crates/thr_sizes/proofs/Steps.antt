-- What each step of a thread leaves, and its lines, with numbers that are bounded.
use Rattle.std.proofs.Common.{ℕ, ◌+◌, ◌≤◌, ℤ, pos, negsuc, Bool, true, false, List, [], ◌∷◌, length, Option, Some, None, Ok, Err, refl, arith}
use Rattle.std.specs.Prelude.{if◌then◌else◌, unwrap_or}
use Rattle.thr_values.specs.Exceptions.{cancel_e, stackovf_e}
use Rattle.thr_values.specs.Replies.{errno_of, error_exc_of}
use Rattle.thr_values.specs.declared.number.NameId.{NameId}
use Rattle.thr_values.specs.declared.exception.Exc.{Exc}
use Rattle.thr_values.specs.declared.history.What.{What}
use Rattle.thr_values.specs.declared.history.What.TheVariants as what
use Rattle.thr_values.specs.declared.reply.Reply.{Reply}
use Rattle.thr_values.specs.declared.reply.Reply.TheVariants as reply
use Rattle.thr_syntax.specs.declared.dce.DceCall.{DceCall}
use Rattle.thr_syntax.specs.declared.dce.DceCall.TheVariants as dce
use Rattle.thr_syntax.specs.declared.expr.Var.{Var}
use Rattle.thr_syntax.specs.declared.expr.Var.TheVariants.{Local, Shared}
use Rattle.thr_syntax.specs.declared.expr.Expr.{Expr}
use Rattle.thr_syntax.specs.declared.form.Form.{Form}
use Rattle.thr_syntax.specs.declared.tree.Interface.{Interface}
use Rattle.thr_syntax.specs.declared.tree.Interface.TheVariants as interface
use Rattle.thr_syntax.specs.declared.tree.Script.{Script}
use Rattle.thr_syntax.specs.Lines.{lines_of}
use Rattle.thr_text.specs.Numbers.{expr_numbers, call_numbers, AreSigned}
use Rattle.thr_text.specs.Reading.{Formed}
use Rattle.thr_remainder.specs.declared.unwinding.Cause.{Cause}
use Rattle.thr_remainder.specs.declared.unwinding.Cause.TheVariants.{Raised, Exit}
use Rattle.thr_remainder.specs.declared.unwinding.Unwinding.{Unwinding}
use Rattle.thr_remainder.specs.Places.{Placed, Left, Handler, Ways, Catches, Finally}
use Rattle.thr_remainder.specs.Acts.{Act, Sets, Says, Chooses, Repeats, Tries, Raises, RaisesAgain, Calls, Returns, Exits, Asks}
use Rattle.thr_remainder.specs.Declarations.{Entry, interface_of, entry_of, exception_value}
use Rattle.thr_remainder.specs.Remainders.{Item, Role, Calling, Trying, Catching, Finishing, Doing, Barrier, Setting, Remainder, Move, Spot, Place, Nowhere, AtEnd, At, place_in, place_inside, act_at, passed, caught_in, has_room, with_local}
use Rattle.thr_remainder.specs.Expressions.{Value, SharedValues, none_shared, is_same, value_of, sight_of}
use Rattle.thr_remainder.specs.Starts.{at, still, sets_out, raised, raised_again, exited, line_in, line_of_next, delivered, fresh, tries, begins, begins_once, begins_destructor}
use Rattle.thr_remainder.specs.Steps.{stored, kept, place_for, variable_set, items_after, kept_after, after, told, valued, or_raised, made, ended, step_at, quiet, shared_step, write_with, write_by, write_at, written}
use Rattle.thr_remainder.specs.Outward.{Meeting, Drops, Begins, Undoes, Loses, meeting, catches, at_try, caught_by, first_catch, met, left_value, outward_from, outward, undone}
use Rattle.thr_remainder.specs.Calls.{taken, taken_by_read, stores, shape_of, expressions_of}
use Rattle.thr_remainder.specs.Replies.{Values, value_then, values_of, needs_two_frames, asked, raised_in, raised_by, stored_in, shared_in, raised_if, replied_by, replied_at, replied, writes_by, writes_at, writes}
use Rattle.thr_remainder.specs.Standing.{AreHandlers, AreWays}
use Rattle.thr_parts.proofs.EachLaws.{IfThere}
use Rattle.thr_answers.specs.Standing.{IsLeftIn, stands, absent, IsRole, AreItems, StandsIn}
use Rattle.thr_answers.proofs.StepsStand.{IsSpot, IsPlace, place_stands}
use Rattle.thr_sizes.proofs.Values.{Fits, AllFit, ExcFits, ValueFits, SightFits, expression_fits, signed_parts}
use Rattle.thr_sizes.proofs.Literals.{standing_low, act_numbers, spot_numbers, exceptions_fit}
use Rattle.thr_sizes.proofs.Fitting.{CauseFits, UnwindingFits, RoleFits, ItemsFit, LeftFits, ReplyFits, LineFits, LinesFit, MoveFits, items_later, left_later, first_fit, local_set, locals_fit, caught_fits}

-- What stays while a thread runs: the script keeps the rules and has at most so many lines, and the thread's number fits.
pub record SettingFits (k : ℕ) (g : Setting) : Type 0 where
  pub formed : Formed g.script
  pub room : length (lines_of g.script) + 1 ≤ k
  pub me : Fits (pos g.me)

-- The values of shared variables fit.
abbrev pub SharedFit : SharedValues → Type 0
SharedFit shared = (name : NameId) → Fits (shared name)

pub later_setting : (k : ℕ) (g : Setting) → SettingFits k g → SettingFits (k + 1) g
later_setting k g fits = record { formed = fits.formed; room = (let room = fits.room in omega (arith, room)); me = fits.me }

up : (k : ℕ) → k ≤ k + 1
up k = omega arith

-- ---- places

-- The innermost item and those outside it fit.
abbrev pub PlaceFits : ℕ → Place → Type 0
PlaceFits k Nowhere = Unit {0}
PlaceFits k (AtEnd close role outer) = RoleFits k role × ItemsFit k outer
PlaceFits k (At h) = RoleFits k h.role × ItemsFit k h.outer

inside_fits : (k : ℕ) (todo : List Placed) (close : ℕ) (role : Role) (outer : List Item) → RoleFits k role → ItemsFit k outer → PlaceFits k (place_inside todo close role outer)
inside_fits k [] close role outer h i = (h, i)
inside_fits k (p ∷ todo) close role outer h i = (h, i)

pub place_fits : (k : ℕ) (items : List Item) → ItemsFit k items → PlaceFits k (place_in items)
place_fits k [] h = tt
place_fits k (i ∷ outer) h = inside_fits k i.inside.todo i.inside.close i.role outer h.0 h.1

next_inside : (text : List Form) (todo : List Placed) (close : ℕ) (role : Role) (outer : List Item) → (let left : Left = record { todo = todo; close = close } in IsLeftIn text left)
    → unwrap_or (line_in (place_inside todo close role outer)) 0 ≤ length text + 1
next_inside text [] close role outer (stands h) = standing_low text close _ h.close.stands
next_inside text [] close role outer (absent e f) = omega (arith, f)
next_inside text (p ∷ todo) close role outer (stands h) = standing_low text p.line _ h.todo.0
next_inside text (p ∷ todo) close role outer (absent e f) = absurd (cc)

-- The line of what is next is one of the script's.
next_low : (text : List Form) (items : List Item) → AreItems text items → unwrap_or (line_in (place_in items)) 0 ≤ length text + 1
next_low text [] h = omega arith
next_low text (i ∷ outer) h = next_inside text i.inside.todo i.inside.close i.role outer h.1

-- ---- unwindings that set out

pub set_out : (k : ℕ) (cause : Cause) (line : ℕ → What) (r : Remainder) → LeftFits k r → CauseFits cause → ((n : ℕ) → n ≤ k + 1 → LineFits (k + 1) (line n)) → MoveFits (k + 1) (sets_out cause line r)
set_out k cause line r h c says =
    let low : r.unwindings + 1 ≤ k + 1 = (let old = h.unwindings in omega (arith, old)) in
    let same = h.scopes in record {
      to = record {
        items = items_later k (k + 1) (up k) r.items h.items;
        under = (low, c);
        value = h.value;
        err = h.err;
        scopes = omega (arith, same);
        unwindings = low;
      };
      lines = (says (r.unwindings + 1) low, tt);
    }

pub raised_fits : (k : ℕ) (x : Exc) (r : Remainder) → LeftFits k r → ExcFits x → MoveFits (k + 1) (raised x r)
raised_fits k x r h e = set_out k (Raised x) (λ n. what.Raise n x) r h e (λ n low. (low, e))

again_fits : (k : ℕ) (x : Exc) (r : Remainder) → LeftFits k r → ExcFits x → MoveFits (k + 1) (raised_again x r)
again_fits k x r h e = set_out k (Raised x) (λ n. what.Reraise n x) r h e (λ n low. (low, e))

exited_fits : (k : ℕ) (v : ℤ) (r : Remainder) → LeftFits k r → Fits v → MoveFits (k + 1) (exited v r)
exited_fits k v r h e = set_out k (Exit v) (λ n. what.Exit n v) r h e (λ n low. (low, e))

pub delivered_fits : (k : ℕ) (text : List Form) (r : Remainder) → length text + 1 ≤ k → AreItems text r.items → LeftFits k r → MoveFits (k + 1) (delivered r)
delivered_fits k text r room stand h =
    let next = next_low text r.items stand in set_out k (Raised cancel_e) (λ n. what.Deliver n (at (unwrap_or (line_of_next r) 0))) r h tt (λ n low. (low, omega (arith, next, room)))

pub still_fits : (k : ℕ) (r : Remainder) → LeftFits k r → MoveFits (k + 1) (still r)
still_fits k r h = record { to = left_later k (k + 1) (up k) r h; lines = tt }

-- The same but for these items and this value that is kept, and with these lines.
with_items : (k : ℕ) (r : Remainder) (items : List Item) (v : ℤ) (lines : List What) → LeftFits k r → ItemsFit k items → Fits v → LinesFit (k + 1) lines
    → (let m : Move = record { to = record r { items = items; value = v }; lines = lines } in MoveFits (k + 1) m)
with_items k r items v lines h i f l = let whole : LeftFits (k + 1) r = left_later k (k + 1) (up k) r h in record {
  to = record {
    items = items_later k (k + 1) (up k) items i;
    under = whole.under;
    value = f;
    err = h.err;
    scopes = whole.scopes;
    unwindings = whole.unwindings;
  };
  lines = l;
}

-- ---- frames

module _ (k : ℕ) where
  pub fresh_fits : (s : Script) (routine : NameId) (n : ℤ) → Fits n → LeftFits k (fresh s routine n)
  fresh_fits s routine n f = record { items = (first_fit (entry_of s routine).locals n f, tt); under = tt; value = refl; err = refl; scopes = omega arith; unwindings = omega arith }

  begins_fit : (entry : Entry) (role : Role) (n : ℤ) (line : What) (r : Remainder) → LeftFits k r → Fits n → RoleFits (k + 1) role → LineFits (k + 1) line → MoveFits (k + 1) (begins entry role n line r)
  begins_fit entry role n line r h f i l =
      let whole : LeftFits (k + 1) r = left_later k (k + 1) (up k) r h in
      let old = h.scopes in record {
        to = record {
          items = (first_fit entry.locals n f, (i, whole.items));
          under = whole.under;
          value = h.value;
          err = h.err;
          scopes = omega (arith, old);
          unwindings = whole.unwindings;
        };
        lines = (l, tt);
      }

  pub once_fits : (g : Setting) (block routine : NameId) (r : Remainder) → LeftFits k r → MoveFits (k + 1) (begins_once g block routine r)
  once_fits g block routine r h =
      let low : r.scopes + 1 ≤ k + 1 = (let old = h.scopes in omega (arith, old)) in
      begins_fit (entry_of g.script routine) (Doing (r.scopes + 1) block routine) (pos 0) (what.Once (r.scopes + 1) block) r h refl low low

  pub destructor_fits : (g : Setting) (key routine : NameId) (n : ℤ) (r : Remainder) → Fits n → LeftFits k r → MoveFits (k + 1) (begins_destructor g key routine n r)
  destructor_fits g key routine n r f h =
      let low : r.scopes + 1 ≤ k + 1 = (let old = h.scopes in omega (arith, old)) in
      begins_fit (entry_of g.script routine) (Barrier (r.scopes + 1) key routine) n (what.Destroy (r.scopes + 1) key n) r h f low (low, f)

  -- ---- statements

  stored_fits : (place : Option ℕ) (n : ℤ) (items : List Item) → Fits n → ItemsFit k items → ItemsFit k (stored place n items)
  stored_fits None n items f i = i
  stored_fits (Some p) n items f i = local_set k p n items f i

  variable_set_fits : (v : Var) (n : ℤ) (items : List Item) → Fits n → ItemsFit k items → ItemsFit k (variable_set v n items)
  variable_set_fits (Local p) n items f i = local_set k p n items f i
  variable_set_fits (Shared name) n items f i = i

  kept_fits : (outer : List Item) (n v : ℤ) → Fits n → Fits v → Fits (kept outer n v)
  kept_fits [] n v f e = f
  kept_fits (i ∷ outer) n v f e = e

  valued_fits : (value : Value) (step : ℤ → Move) (r : Remainder) → LeftFits k r → ValueFits value → ((n : ℤ) → Fits n → MoveFits (k + 1) (step n)) → MoveFits (k + 1) (or_raised value step r)
  valued_fits (Ok n) step r h v f = f n v
  valued_fits (Err x) step r h v f = raised_fits k x r h v

  either_fits : (b : Bool) (m o : Move) → MoveFits (k + 1) m → MoveFits (k + 1) o → MoveFits (k + 1) (if b then m else o)
  either_fits true m o h i = h
  either_fits false m o h i = i

  either_lines : (b : Bool) (ws : List What) → LinesFit (k + 1) ws → LinesFit (k + 1) (if b then ws else [])
  either_lines true ws h = h
  either_lines false ws h = tt

  told_fits : (act : Act) (line : ℕ) (n : ℤ) → line ≤ k + 1 → Fits n → LinesFit (k + 1) (told act line n)
  told_fits (Sets v e) line n low f = ((low, f), tt)
  told_fits (Says e) line n low f = (f, tt)
  told_fits (Chooses e body other) line n low f = ((low, f), tt)
  told_fits (Repeats e again) line n low f = ((low, f), tt)
  told_fits (Calls routine e place) line n low f = ((low, f), tt)
  told_fits (Returns e) line n low f = ((low, f), tt)
  told_fits _ line n low f = tt

  module _ (g : Setting) (fits : SettingFits k g) (tells : Bool) (shared : SharedValues) (all : SharedFit shared) (r : Remainder) (has : LeftFits k r) where
    sight_fits : SightFits (sight_of g shared r)
    sight_fits = record {
      script = exceptions_fit g.script fits.formed;
      me = fits.me;
      locals = locals_fit k r.items has.items;
      caught = caught_fits k r.items has.items;
      err = has.err;
      shared = all;
    }

    pub value_fits : (e : Expr) → AreSigned (expr_numbers e) → ValueFits (value_of g shared r e)
    value_fits e numbers = expression_fits (sight_of g shared r) sight_fits e numbers

    module _ (h : Spot) (spot : IsSpot (lines_of g.script) h) (place : RoleFits k h.role × ItemsFit k h.outer) where
      low : h.line ≤ k + 1
      low = let here = standing_low (lines_of g.script) h.line _ spot.here in let room = fits.room in omega (arith, here, room)

      items_after_fit : (act : Act) (n : ℤ) → Fits n → ItemsFit k (items_after g act n h)
      items_after_fit (Sets v e) n f = variable_set_fits v n (passed h) f place
      items_after_fit (Says e) n f = place
      items_after_fit (Chooses e body other) n f = place
      items_after_fit (Repeats e again) n f = place
      items_after_fit (Tries body ways) n f = place
      items_after_fit (Raises name) n f = place
      items_after_fit RaisesAgain n f = place
      items_after_fit (Calls routine e to) n f = (first_fit (entry_of g.script routine).locals n f, place)
      items_after_fit (Returns e) n f = stored_fits (place_for h.role) n h.outer f place.1
      items_after_fit (Exits e) n f = place
      items_after_fit (Asks call) n f = place

      kept_after_fits : (act : Act) (n : ℤ) → Fits n → Fits (kept_after act n h.outer r.value)
      kept_after_fits (Returns e) n f = kept_fits h.outer n r.value f has.value
      kept_after_fits _ n f = has.value

      after_fits : (act : Act) (n : ℤ) → Fits n → (let m : Move = record { to = after g act n h r; lines = if tells then told act h.line n else [] } in MoveFits (k + 1) m)
      after_fits act n f =
          with_items k r (items_after g act n h) (kept_after act n h.outer r.value) (if tells then told act h.line n else []) has (items_after_fit act n f) (kept_after_fits act n f)
          (either_lines tells (told act h.line n) (told_fits act h.line n low f))

      overflow_fits : MoveFits (k + 1) (raised stackovf_e r)
      overflow_fits = raised_fits k stackovf_e r has tt

      tries_fit : (body : Left) (ways : Ways) → MoveFits (k + 1) (tries body ways h r)
      tries_fit body ways =
          let whole : LeftFits (k + 1) r = left_later k (k + 1) (up k) r has in
          let more : r.scopes + 1 ≤ k + 1 = (let old = has.scopes in omega (arith, old)) in record {
            to = record {
              items = (more, items_later k (k + 1) (up k) (passed h) place);
              under = whole.under;
              value = has.value;
              err = has.err;
              scopes = more;
              unwindings = whole.unwindings;
            };
            lines = ((more, low), tt);
          }

      made_fits : (act : Act) → AreSigned (act_numbers act) → MoveFits (k + 1) (made g tells shared act h r)
      made_fits (Sets v e) numbers = valued_fits (value_of g shared r e) _ r has (value_fits e numbers) (after_fits (Sets v e))
      made_fits (Says e) numbers = valued_fits (value_of g shared r e) _ r has (value_fits e numbers) (after_fits (Says e))
      made_fits (Chooses e body other) numbers = valued_fits (value_of g shared r e) _ r has (value_fits e numbers) (after_fits (Chooses e body other))
      made_fits (Repeats e again) numbers = valued_fits (value_of g shared r e) _ r has (value_fits e numbers) (after_fits (Repeats e again))
      made_fits (Tries body ways) numbers = either_fits (has_room g r 1) _ _ (tries_fit body ways) overflow_fits
      made_fits (Raises name) numbers = raised_fits k (exception_value g.script name) r has (exceptions_fit g.script fits.formed name)
      made_fits RaisesAgain numbers = again_fits k (caught_in r.items) r has (caught_fits k r.items has.items)
      made_fits (Calls routine e to) numbers =
          either_fits (has_room g r 1) _ _ (valued_fits (value_of g shared r e) (valued g tells (Calls routine e to) h r) r has (value_fits e numbers) (after_fits (Calls routine e to)))
          overflow_fits
      made_fits (Returns e) numbers = valued_fits (value_of g shared r e) _ r has (value_fits e numbers) (after_fits (Returns e))
      made_fits (Exits e) numbers = valued_fits (value_of g shared r e) _ r has (value_fits e numbers) (λ n f. exited_fits k n r has f)
      made_fits (Asks call) numbers = still_fits k r has

  -- ---- ends

  ended_fits : (role : Role) (outer : List Item) (r : Remainder) → LeftFits k r → RoleFits k role × ItemsFit k outer → MoveFits (k + 1) (ended role outer r)
  ended_fits (Calling locals place) outer r h i =
      with_items k r (stored place (pos 0) outer) (kept outer (pos 0) r.value) [] h (stored_fits place (pos 0) outer refl i.1) (kept_fits outer (pos 0) r.value refl h.value) tt
  ended_fits (Trying scope (Catches handlers)) outer r h i =
      let here = i.0 in with_items k r outer r.value (what.Endtry scope ∷ []) h i.1 h.value (omega (arith, here), tt)
  ended_fits (Trying scope (Finally body)) outer r h i =
      let here = i.0 in with_items k r (record { role = Finishing scope None; inside = body } ∷ outer) r.value (what.Finally scope 0 ∷ []) h ((i.0, tt), i.1) h.value ((omega (arith, here), omega arith), tt)
  ended_fits (Catching scope caught) outer r h i =
      let here = i.0.0 in with_items k r outer r.value (what.Endcatch scope ∷ []) h i.1 h.value (omega (arith, here), tt)
  ended_fits (Finishing scope pending) outer r h i =
      let here = i.0.0 in
      let again : Remainder = record r { under_way = pending } in
      with_items k again outer r.value (what.Endfin scope ∷ [])
      (record { items = h.items; under = i.0.1; value = h.value; err = h.err; scopes = h.scopes; unwindings = h.unwindings }) i.1 h.value (omega (arith, here), tt)
  ended_fits (Doing scope block routine) outer r h i =
      let here = i.0 in with_items k r outer r.value (what.Done scope ∷ []) h i.1 h.value (omega (arith, here), tt)
  ended_fits (Barrier scope key routine) outer r h i =
      let here = i.0 in with_items k r outer r.value (what.Enddes scope ∷ []) h i.1 h.value (omega (arith, here), tt)

  step_fits : (g : Setting) (tells : Bool) (shared : SharedValues) (p : Place) (r : Remainder) → SettingFits k g → SharedFit shared → LeftFits k r → IsPlace (lines_of g.script) p → PlaceFits k p
      → MoveFits (k + 1) (step_at g tells shared p r)
  step_fits g tells shared Nowhere r fits all has stand place = still_fits k r has
  step_fits g tells shared (AtEnd close role outer) r fits all has stand place = ended_fits role outer r has place
  step_fits g tells shared (At h) r fits all has stand place = made_fits g fits tells shared all r has h stand place (act_at h) (spot_numbers g.script fits.formed h stand)

  pub quiet_fits : (g : Setting) (r : Remainder) → SettingFits k g → StandsIn g.script r → LeftFits k r → MoveFits (k + 1) (quiet g r)
  unfolding quiet
  quiet_fits g r fits stand has =
      step_fits g false none_shared (place_in r.items) r fits (λ name. refl) has (place_stands (lines_of g.script) r.items stand.items) (place_fits k r.items has.items)

  pub shared_fits : (g : Setting) (shared : SharedValues) (r : Remainder) → SettingFits k g → SharedFit shared → StandsIn g.script r → LeftFits k r → MoveFits (k + 1) (shared_step g shared r)
  unfolding shared_step
  shared_fits g shared r fits all stand has =
      step_fits g true shared (place_in r.items) r fits all has (place_stands (lines_of g.script) r.items stand.items) (place_fits k r.items has.items)

  -- ---- unwindings

  abbrev MeetingFits : Meeting → Type 0
  MeetingFits Drops = Unit {0}
  MeetingFits (Begins role body line) = RoleFits k role × LineFits k line
  MeetingFits Undoes = Unit {0}
  MeetingFits (Loses line) = LineFits k line

  module _ (s : Script) (room : length (lines_of s) + 1 ≤ k) where
    -- The clause that is there stands at a line of the script.
    abbrev IsLow : Handler → Type 0
    IsLow c = c.line ≤ k

    low_if : (b : Bool) (c : Handler) (o : Option Handler) → IsLow c → IfThere IsLow o → IfThere IsLow (if b then Some c else o)
    low_if true c o h i = h
    low_if false c o h i = i

    catch_low : (x : Exc) (handlers : List Handler) → AreHandlers (lines_of s) handlers → IfThere IsLow (first_catch s x handlers)
    catch_low x [] h = tt
    catch_low x (c ∷ handlers) h =
        let here = standing_low (lines_of s) c.line _ h.0 in low_if (catches s x c.names) c (first_catch s x handlers) (omega (arith, here, room)) (catch_low x handlers h.2)

    caught_there : (scope n : ℕ) (x : Exc) (c : Option Handler) → scope ≤ k → n ≤ k → ExcFits x → IfThere IsLow c → MeetingFits (caught_by scope n x c)
    caught_there scope n x None o u e h = tt
    caught_there scope n x (Some c) o u e h = ((o, e), (o, (u, h)))

    try_fits : (scope : ℕ) (ways : Ways) (u : Unwinding) (cause : Cause) → scope ≤ k → UnwindingFits k u → CauseFits cause → AreWays (lines_of s) ways → MeetingFits (at_try s scope ways u cause)
    try_fits scope (Finally body) u cause o h c w = ((o, h), (o, h.0))
    try_fits scope (Catches clauses) u (Raised x) o h c w = caught_there scope u.number x (first_catch s x clauses) o h.0 c (catch_low x clauses w)
    try_fits scope (Catches clauses) u (Exit v) o h c w = tt

    meeting_fits : (role : Role) (u : Unwinding) → RoleFits k role → UnwindingFits k u → IsRole (lines_of s) role → MeetingFits (meeting s role u)
    meeting_fits (Calling locals place) u i h w = tt
    meeting_fits (Trying scope ways) u i h w = try_fits scope ways u u.cause i h h.1 w
    meeting_fits (Catching scope caught) u i h w = tt
    meeting_fits (Finishing scope pending) u i h w = tt
    meeting_fits (Doing scope block routine) u i h w = tt
    meeting_fits (Barrier scope key routine) u i h w = (i, h.0)

    left_value_fits : (cause : Cause) → CauseFits cause → Fits (left_value cause)
    left_value_fits (Exit v) h = h
    left_value_fits (Raised x) h = by (is_same x cancel_e)
      where
        by : (b : Bool) → Fits (if b then negsuc 0 else negsuc 1)
        by true = refl
        by false = refl

    met_fits : (meets : Meeting) (i : Item) (outer : List Item) (r : Remainder) (further : Move) → LeftFits k r → MeetingFits meets → ItemsFit k (i ∷ outer) → MoveFits k further → MoveFits k (met meets i outer r further)
    met_fits Drops i outer r further h m is f = f
    met_fits (Begins role body line) i outer r further h m is f = record {
      to = record { items = (m.0, is.1); under = tt; value = h.value; err = h.err; scopes = h.scopes; unwindings = h.unwindings };
      lines = (m.1, tt);
    }
    met_fits Undoes i outer r further h m is f = record {
      to = record { items = is; under = h.under; value = h.value; err = h.err; scopes = h.scopes; unwindings = h.unwindings };
      lines = tt;
    }
    met_fits (Loses line) i outer r further h m is f = record {
      to = record { items = is.1; under = tt; value = h.value; err = h.err; scopes = h.scopes; unwindings = h.unwindings };
      lines = (m, tt);
    }

    outward_from_fits : (u : Unwinding) (items : List Item) (r : Remainder) → UnwindingFits k u → LeftFits k r → AreItems (lines_of s) items → ItemsFit k items → MoveFits k (outward_from s u items r)
    outward_from_fits u [] r w h stand i =
        let v = left_value_fits u.cause w.1 in record {
          to = record { items = tt; under = tt; value = v; err = h.err; scopes = h.scopes; unwindings = h.unwindings };
          lines = ((w.0, v), tt);
        }
    outward_from_fits u (x ∷ outer) r w h stand i =
        met_fits (meeting s x.role u) x outer r (outward_from s u outer r) h (meeting_fits x.role u i.0 w stand.0) i (outward_from_fits u outer r w h stand.2 i.1)

  pub outward_fits : (g : Setting) (u : Unwinding) (r : Remainder) → SettingFits k g → UnwindingFits k u → StandsIn g.script r → LeftFits k r → MoveFits k (outward g u r)
  unfolding outward
  outward_fits g u r fits w stand has = outward_from_fits g.script fits.room u r.items r w has stand.items has.items

  pub undone_fits : (scope : ℕ) (u : Unwinding) (outer : List Item) (r : Remainder) → scope ≤ k → UnwindingFits k u → ItemsFit k outer → LeftFits k r → MoveFits k (undone scope u outer r)
  undone_fits scope u outer r o w i h = record {
    to = record { items = i; under = h.under; value = h.value; err = h.err; scopes = h.scopes; unwindings = h.unwindings };
    lines = ((o, w.0), tt);
  }

-- ---- replies

-- The values that a call stores fit.
abbrev pub StoresFit : List (Var × ℤ) → Type 0
StoresFit [] = Unit {0}
StoresFit (x ∷ xs) = Fits x.1 × StoresFit xs

taken_fits : (v : Var) (y : Reply) → ReplyFits y → StoresFit (taken v y)
taken_fits v (reply.Value n) h = (h, tt)
taken_fits v _ h = tt

read_fits : (v w : Var) (y : Reply) → ReplyFits y → StoresFit (taken_by_read v w y)
read_fits v w (reply.Value n) h = (h, (refl, tt))
read_fits v w reply.Eof h = (refl, (refl, tt))
read_fits v w _ h = tt

pub stores_fit : (call : DceCall) (y : Reply) → ReplyFits y → StoresFit (stores call y)
unfolding stores
stores_fit (dce.Create v attr n e) y h = taken_fits v y h
stores_fit (dce.Join e v) y h = taken_fits v y h
stores_fit (dce.Setcancel on v) y h = taken_fits v y h
stores_fit (dce.Setasynccancel on v) y h = taken_fits v y h
stores_fit (dce.Setprio e f v) y h = taken_fits v y h
stores_fit (dce.Getprio e v) y h = taken_fits v y h
stores_fit (dce.Setscheduler e policy f v) y h = taken_fits v y h
stores_fit (dce.Getscheduler e v) y h = taken_fits v y h
stores_fit (dce.GetExpirationNp e v) y h = taken_fits v y h
stores_fit (dce.MutexTrylock n v) y h = taken_fits v y h
stores_fit (dce.Getspecific n v) y h = taken_fits v y h
stores_fit (dce.Read n v w) y h = read_fits v w y h
stores_fit _ y h = tt

errno_fits : (y : Reply) → Fits (errno_of y)
errno_fits reply.Eperm = refl
errno_fits reply.Esrch = refl
errno_fits reply.Eagain = refl
errno_fits reply.Ebusy = refl
errno_fits reply.Einval = refl
errno_fits reply.Epipe = refl
errno_fits reply.Edeadlk = refl
errno_fits reply.Done = refl
errno_fits (reply.Value n) = refl
errno_fits reply.Eof = refl
errno_fits (reply.Effect e) = refl
errno_fits reply.Blocks = refl

error_fits : (y : Reply) → IfThere ExcFits (error_exc_of y)
error_fits reply.Eperm = tt
error_fits reply.Esrch = tt
error_fits reply.Eagain = tt
error_fits reply.Ebusy = tt
error_fits reply.Einval = tt
error_fits reply.Epipe = tt
error_fits reply.Edeadlk = tt
error_fits reply.Done = tt
error_fits (reply.Value n) = tt
error_fits reply.Eof = tt
error_fits (reply.Effect e) = tt
error_fits reply.Blocks = tt

none_if : (b : Bool) (o : Option Exc) → IfThere ExcFits o → IfThere ExcFits (if b then None else o)
none_if true o h = tt
none_if false o h = h

raised_in_fits : (i : Interface) (y : Reply) → IfThere ExcFits (raised_in i y)
raised_in_fits interface.Exc y = error_fits y
raised_in_fits interface.Status y = tt

module _ (k : ℕ) where
  stored_in_fits : (xs : List (Var × ℤ)) (items : List Item) → StoresFit xs → ItemsFit k items → ItemsFit k (stored_in xs items)
  stored_in_fits [] items h i = i
  stored_in_fits ((Local p, n) ∷ xs) items h i = stored_in_fits xs (with_local p n items) h.1 (local_set k p n items h.0 i)
  stored_in_fits ((Shared name, n) ∷ xs) items h i = stored_in_fits xs items h.1 i

  raised_if_fits : (x : Option Exc) (r : Remainder) → IfThere ExcFits x → LeftFits k r → MoveFits (k + 1) (raised_if x r)
  raised_if_fits None r e h = still_fits k r h
  raised_if_fits (Some x) r e h = raised_fits k x r h e

  replied_by_fits : (g : Setting) (act : Act) (h : Spot) (r : Remainder) (y : Reply) → ReplyFits y → LeftFits k r → RoleFits k h.role × ItemsFit k h.outer → MoveFits (k + 1) (replied_by g act h r y)
  replied_by_fits g (Asks call) h r y f has place =
      raised_if_fits (raised_by (interface_of g.script) call y) _ (none_if _ (raised_in (interface_of g.script) y) (raised_in_fits (interface_of g.script) y)) (record {
        items = stored_in_fits (stores call y) (passed h) (stores_fit call y f) place;
        under = has.under;
        value = has.value;
        err = errno_fits y;
        scopes = has.scopes;
        unwindings = has.unwindings;
      })
  replied_by_fits g (Sets v e) h r y f has place = still_fits k r has
  replied_by_fits g (Says e) h r y f has place = still_fits k r has
  replied_by_fits g (Chooses e body other) h r y f has place = still_fits k r has
  replied_by_fits g (Repeats e again) h r y f has place = still_fits k r has
  replied_by_fits g (Tries body ways) h r y f has place = still_fits k r has
  replied_by_fits g (Raises name) h r y f has place = still_fits k r has
  replied_by_fits g RaisesAgain h r y f has place = still_fits k r has
  replied_by_fits g (Calls routine e to) h r y f has place = still_fits k r has
  replied_by_fits g (Returns e) h r y f has place = still_fits k r has
  replied_by_fits g (Exits e) h r y f has place = still_fits k r has

  replied_at_fits : (g : Setting) (p : Place) (r : Remainder) (y : Reply) → ReplyFits y → LeftFits k r → PlaceFits k p → MoveFits (k + 1) (replied_at g p r y)
  replied_at_fits g Nowhere r y f has place = still_fits k r has
  replied_at_fits g (AtEnd close role outer) r y f has place = still_fits k r has
  replied_at_fits g (At h) r y f has place = replied_by_fits g (act_at h) h r y f has place

  pub replied_fits : (g : Setting) (y : Reply) (r : Remainder) → ReplyFits y → LeftFits k r → MoveFits (k + 1) (replied g y r)
  unfolding replied
  replied_fits g y r f has = replied_at_fits g (place_in r.items) r y f has (place_fits k r.items has.items)

-- ---- what is written

-- Values for shared variables that fit.
abbrev pub WritesFit : List (NameId × ℤ) → Type 0
WritesFit [] = Unit {0}
WritesFit (x ∷ xs) = Fits x.1 × WritesFit xs

shared_in_fits : (xs : List (Var × ℤ)) → StoresFit xs → WritesFit (shared_in xs)
shared_in_fits [] h = tt
shared_in_fits ((Local p, n) ∷ xs) h = shared_in_fits xs h.1
shared_in_fits ((Shared name, n) ∷ xs) h = (h.0, shared_in_fits xs h.1)

writes_by_fit : (act : Act) (y : Reply) → ReplyFits y → WritesFit (writes_by act y)
writes_by_fit (Asks call) y h = shared_in_fits (stores call y) (stores_fit call y h)
writes_by_fit _ y h = tt

writes_at_fit : (p : Place) (y : Reply) → ReplyFits y → WritesFit (writes_at p y)
writes_at_fit (At h) y f = writes_by_fit (act_at h) y f
writes_at_fit _ y f = tt

-- What a reply writes into shared variables.
pub writes_fit : (r : Remainder) (y : Reply) → ReplyFits y → WritesFit (writes r y)
unfolding writes
writes_fit r y h = writes_at_fit (place_in r.items) y h

-- The values fit, or the number of what is raised in their place.
abbrev pub ValuesFit : Values → Type 0
ValuesFit (Ok ns) = AllFit ns
ValuesFit (Err x) = ExcFits x

module _ (k : ℕ) (g : Setting) (fits : SettingFits k g) (shared : SharedValues) (all : SharedFit shared) (r : Remainder) (has : LeftFits k r) where
  -- The value for a shared variable that is there.
  abbrev WriteFits : Option (NameId × ℤ) → Type 0
  WriteFits o = IfThere (λ (x : NameId × ℤ). Fits x.1) o

  write_with_fits : (v : Var) (value : Value) → ValueFits value → WriteFits (write_with v value)
  write_with_fits (Shared name) (Ok n) h = h
  write_with_fits (Shared name) (Err x) h = tt
  write_with_fits (Local p) value h = tt

  write_by_fits : (act : Act) → AreSigned (act_numbers act) → WriteFits (write_by g shared act r)
  write_by_fits (Sets v e) numbers = write_with_fits v (value_of g shared r e) (value_fits k g fits false shared all r has e numbers)
  write_by_fits _ numbers = tt

  write_at_fits : (p : Place) → IsPlace (lines_of g.script) p → WriteFits (write_at g shared p r)
  write_at_fits (At h) stand = write_by_fits (act_at h) (spot_numbers g.script fits.formed h stand)
  write_at_fits _ stand = tt

  -- What a shared statement writes.
  pub written_fits : StandsIn g.script r → WriteFits (written g shared r)
  unfolding written
  written_fits stand = write_at_fits (place_in r.items) (place_stands (lines_of g.script) r.items stand.items)

  -- ---- the values of a call's expressions

  abbrev AreWritten : List Expr → Type 0
  AreWritten [] = Unit {0}
  AreWritten (e ∷ es) = AreSigned (expr_numbers e) × AreWritten es

  then_fits : (v : Value) (vs : Values) → ValueFits v → ValuesFit vs → ValuesFit (value_then v vs)
  then_fits (Err x) vs h i = h
  then_fits (Ok n) (Err x) h i = i
  then_fits (Ok n) (Ok ns) h i = (h, i)

  values_fit : (es : List Expr) → AreWritten es → ValuesFit (values_of g shared r es)
  values_fit [] h = tt
  values_fit (e ∷ es) h = then_fits (value_of g shared r e) (values_of g shared r es) (value_fits k g fits false shared all r has e h.0) (values_fit es h.1)

  expressions_written : (call : DceCall) → AreSigned (call_numbers call) → AreWritten (expressions_of call)
  unfolding shape_of
  expressions_written (dce.AttrSetprio n e) h = (h, tt)
  expressions_written (dce.AttrSetstacksize n e) h = (h, tt)
  expressions_written (dce.Create v None n e) h = (h, tt)
  expressions_written (dce.Create v (Some a) n e) h = (h, tt)
  expressions_written (dce.Join e v) h = (h, tt)
  expressions_written (dce.Detach e) h = (h, tt)
  expressions_written (dce.Cancel e) h = (h, tt)
  expressions_written (dce.Setprio e f v) h = let p = signed_parts (expr_numbers e) (expr_numbers f) h in (p.0, (p.1, tt))
  expressions_written (dce.Getprio e v) h = (h, tt)
  expressions_written (dce.Setscheduler e policy f v) h = let p = signed_parts (expr_numbers e) (expr_numbers f) h in (p.0, (p.1, tt))
  expressions_written (dce.Getscheduler e v) h = (h, tt)
  expressions_written (dce.DelayNp e) h = (h, tt)
  expressions_written (dce.GetExpirationNp e v) h = (h, tt)
  expressions_written (dce.CondTimedwait c m e) h = (h, tt)
  expressions_written (dce.Setspecific n e) h = (h, tt)
  expressions_written (dce.Write n e) h = (h, tt)
  expressions_written (dce.MutexInit n None) h = tt
  expressions_written (dce.MutexInit n (Some a)) h = tt
  expressions_written (dce.Keycreate n None) h = tt
  expressions_written (dce.Keycreate n (Some d)) h = tt
  expressions_written _ h = tt

  frames_fit : (a b : Bool) (vs : Values) → ValuesFit vs → ValuesFit (if a then (if b then vs else Err stackovf_e) else vs)
  frames_fit true true vs h = h
  frames_fit true false vs h = tt
  frames_fit false b vs h = h

  -- The values with which a call asks.
  pub asked_fit : (call : DceCall) → AreSigned (call_numbers call) → ValuesFit (asked g shared call r)
  unfolding asked
  asked_fit call numbers = frames_fit (needs_two_frames call) (has_room g r 2) (values_of g shared r (expressions_of call)) (values_fit (expressions_of call) (expressions_written call numbers))
