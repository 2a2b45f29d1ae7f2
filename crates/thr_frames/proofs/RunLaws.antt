-- Quiet parts of turns.
use Rattle.std.proofs.Common.{◌≡◌, ℕ, suc, ◌+◌, ◌≤◌, Bool, true, false, List, [], ◌∷◌, ◌++◌, length, length-append, append_assoc, append-nil, Option, Some, None, refl, ap, sym, ◌∙◌, subst, arith, if◌then◌else◌}
use Rattle.std.proofs.lemmas.Bool.{false≢true}
use Rattle.thr_values.specs.declared.history.What.{What}
use Rattle.thr_values.specs.declared.history.What.TheVariants as what
use Rattle.thr_values.specs.declared.scheduling.Mode.{Mode}
use Rattle.thr_syntax.specs.declared.tree.Script.{Script}
use Rattle.thr_syntax.specs.Shared.{is_shared}
use Rattle.thr_remainder.specs.declared.unwinding.Unwinding.{Unwinding}
use Rattle.thr_remainder.specs.Acts.{Act, Sets, Says, Chooses, Repeats, Tries, Raises, RaisesAgain, Calls, Returns, Exits, Asks}
use Rattle.thr_remainder.specs.Remainders.{Item, Role, Calling, Trying, Catching, Finishing, Doing, Barrier, Setting, Remainder, Move, Spot, Place, Nowhere, AtEnd, At, place_in, act_at}
use Rattle.thr_remainder.specs.Calls.{is_point, shape_of}
use Rattle.thr_remainder.specs.Expressions.{none_shared}
use Rattle.thr_remainder.specs.Starts.{at, still, line_in, line_of_next}
use Rattle.thr_remainder.specs.Steps.{quiet}
use Rattle.thr_remainder.specs.Outward.{Meeting, Drops, Begins, Undoes, Loses, meeting, met, outward_from, outward}
use Rattle.thr_remainder.specs.Next.{Next, GoesOutward, UndoesOnce, EndsThread, EndsOnce, Shares, IsAtPoint, StepsQuietly, next_by, outward_or_undone, next_outward, next_at, next_end, next_shared, next}
use Rattle.thr_remainder.specs.Runs as runs
use Rattle.thr_remainder.specs.Runs.{is_deliverable, outward_move}
use Rattle.thr_stack.specs.declared.frame.Frame.{Frame}
use Rattle.thr_stack.specs.declared.context.Context.{Context}
use Rattle.thr_stack.specs.declared.next.Stood.TheVariants as stood
use Rattle.thr_stack.specs.FrameLists.{AtOnce}
use Rattle.thr_stack.specs.Sights.{shared_of}
use Rattle.thr_stack.specs.Standing.{IsGood, Makes, Steps, items_of, remainder_of, setting_of}
use Rattle.thr_stack.specs.Unwinds.{GoesOut}
use Rattle.thr_stack.specs.Nexts.{IsNext}
use Rattle.thr_stack.proofs.NextLaws.{next_undoes, goes_outward}
use Rattle.thr_frames.specs.declared.stopped.Stopped.{Stopped}
use Rattle.thr_frames.specs.declared.stopped.Stopped.TheVariants as stopped
use Rattle.thr_frames.specs.Runs.{is_at_point, IsDelivered, IsHalt, RanTo}
use Rattle.thr_frames.specs.Passes.{pass, Passed}
use Rattle.thr_frames.specs.Stacks.{IsCounted, HasNoOnce}
use Rattle.thr_frames.proofs.CountLaws.{IsSmall, small_step, small_outward, one_line, is_counted}
use Rattle.thr_frames.proofs.OnceLaws.{leaves_step, leaves_outward, is_next_once, next_outside}

-- ---- no unwinding under way

still_end : (x : Role) (outer : List Item) (r : Remainder) (m : Move) → outward_move (next_end x outer r m) r ≡ still r
still_end (Calling locals place) outer r m = refl
still_end (Trying scope ways) outer r m = refl
still_end (Catching scope caught) outer r m = refl
still_end (Finishing scope pending) outer r m = refl
still_end (Doing scope block routine) outer r m = refl
still_end (Barrier scope key routine) outer r m = refl

still_point : (b : Bool) (h : Spot) (r : Remainder) → outward_move (if b then IsAtPoint h else Shares h) r ≡ still r
still_point true h r = refl
still_point false h r = refl

still_shared : (a : Act) (h : Spot) (r : Remainder) → outward_move (next_shared a h) r ≡ still r
still_shared (Sets v e) h r = refl
still_shared (Says e) h r = refl
still_shared (Chooses e body other) h r = refl
still_shared (Repeats e again) h r = refl
still_shared (Tries body ways) h r = refl
still_shared (Raises name) h r = refl
still_shared RaisesAgain h r = refl
still_shared (Calls routine e place) h r = refl
still_shared (Returns e) h r = refl
still_shared (Exits e) h r = refl
still_shared (Asks call) h r = still_point (is_point (shape_of call).word) h r

still_if : (b : Bool) (a : Act) (h : Spot) (r : Remainder) (m : Move) → outward_move (if b then next_shared a h else StepsQuietly m) r ≡ still r
still_if true a h r m = still_shared a h r
still_if false a h r m = refl

still_at : (p : Place) (r : Remainder) (m : Move) → outward_move (next_at p r m) r ≡ still r
still_at Nowhere r m = refl
still_at (AtEnd close x outer) r m = still_end x outer r m
still_at (At h) r m = still_if (is_shared h.stmt) (act_at h) h r m

-- Nothing was done where the move is none.
stays : (s : Script) (k : Context) (before : List What) (m : Move) → IsGood s k → m ≡ still (remainder_of s k) → Makes s m k k before before
stays s k before m good e =
    subst (λ (x : Move). Makes s x k k before before) (sym e) (record { to = refl; lines = sym (append-nil before); setting = refl; good = good })

pub stays_quiet : (s : Script) (k : Context) (before : List What) → IsGood s k → k.under_way ≡ None → Makes s (outward_move (next (setting_of s k) (remainder_of s k)) (remainder_of s k)) k k before before
unfolding next
stays_quiet s k before good free =
    let g = setting_of s k in
    let r = remainder_of s k in
    stays s k before (outward_move (next g r) r) good (ap (λ (o : Option Unwinding). outward_move (next_by g o r) r) free ∙ still_at (place_in r.items) r (quiet g r))

-- ---- an unwinding under way

pub stays_undone : (s : Script) (k : Context) (u : Unwinding) (before : List What) → IsGood s k → k.under_way ≡ Some u → AtOnce k.frames.items true → Makes s (outward_move (next (setting_of s k) (remainder_of s k)) (remainder_of s k)) k k before before
stays_undone s k u before good under h =
    stays s k before (outward_move (next (setting_of s k) (remainder_of s k)) (remainder_of s k)) good (ap (λ (x : Next). outward_move x (remainder_of s k)) (next_undoes s k u under h).2)

pub goes_out : (s : Script) (k new : Context) (u : Unwinding) (before after : List What) → k.under_way ≡ Some u → AtOnce k.frames.items false → GoesOut s u k new before after →
    Makes s (outward_move (next (setting_of s k) (remainder_of s k)) (remainder_of s k)) k new before after
goes_out s k new u before after under once h =
    subst (λ (m : Move). Makes s m k new before after) (sym (ap (λ (x : Next). outward_move x (remainder_of s k)) (goes_outward s k u under once))) h

-- ---- what an outward step keeps

-- An outward step writes at most one line, counts nothing, and opens no once block.
record IsSteady (r : Remainder) (m : Move) : Type 0 where
  small : IsSmall r m
  scopes : m.to.scopes ≡ r.scopes
  unwindings : m.to.unwindings ≡ r.unwindings
  once : HasNoOnce r → HasNoOnce m.to

steady_still : (r : Remainder) (m : Move) → m ≡ still r → IsSteady r m
steady_still r m e =
    subst (IsSteady r) (sym e) (record { small = record { one = omega arith; scopes = omega arith; unwindings = omega arith }; scopes = refl; unwindings = refl; once = λ h. h })

counts_met : (m : Meeting) (i : Item) (outer : List Item) (r : Remainder) (further : Move) → (further.to.scopes ≡ r.scopes) × (further.to.unwindings ≡ r.unwindings) →
    ((met m i outer r further).to.scopes ≡ r.scopes) × ((met m i outer r further).to.unwindings ≡ r.unwindings)
counts_met Drops i outer r further h = h
counts_met (Begins x body line) i outer r further h = (refl, refl)
counts_met Undoes i outer r further h = (refl, refl)
counts_met (Loses line) i outer r further h = (refl, refl)

counts_from : (s : Script) (u : Unwinding) (items : List Item) (r : Remainder) → ((outward_from s u items r).to.scopes ≡ r.scopes) × ((outward_from s u items r).to.unwindings ≡ r.unwindings)
counts_from s u [] r = (refl, refl)
counts_from s u (i ∷ outer) r = counts_met (meeting s i.role u) i outer r (outward_from s u outer r) (counts_from s u outer r)

steady_outward : (g : Setting) (u : Unwinding) (r : Remainder) → IsSteady r (outward g u r)
unfolding outward
steady_outward g u r =
    let c = counts_from g.script u r.items r in
    record { small = small_outward g.script u r.items r; scopes = c.0; unwindings = c.1; once = leaves_outward g.script u r.items r }

steady_role : (x : Role) (u : Unwinding) (outer : List Item) (r : Remainder) (m : Move) → IsSteady r m → IsSteady r (outward_move (outward_or_undone x u outer r m) r)
steady_role (Calling locals place) u outer r m h = h
steady_role (Trying scope ways) u outer r m h = h
steady_role (Catching scope caught) u outer r m h = h
steady_role (Finishing scope pending) u outer r m h = h
steady_role (Doing scope block routine) u outer r m h = steady_still r (still r) refl
steady_role (Barrier scope key routine) u outer r m h = h

steady_items : (u : Unwinding) (items : List Item) (r : Remainder) (m : Move) → IsSteady r m → IsSteady r (outward_move (next_outward u items r m) r)
steady_items u [] r m h = h
steady_items u (i ∷ outer) r m h = steady_role i.role u outer r m h

steady_by : (g : Setting) (o : Option Unwinding) (r : Remainder) → IsSteady r (outward_move (next_by g o r) r)
steady_by g (Some u) r = steady_items u r.items r (outward g u r) (steady_outward g u r)
steady_by g None r = steady_still r (outward_move (next_at (place_in r.items) r (quiet g r)) r) (still_at (place_in r.items) r (quiet g r))

steady_next : (g : Setting) (r : Remainder) → IsSteady r (outward_move (next g r) r)
unfolding next
steady_next g r = steady_by g r.under_way r

module _ (s : Script) (old mid : Context) (before between : List What) (h : Makes s (outward_move (next (setting_of s old) (remainder_of s old)) (remainder_of s old)) old mid before between) where
  steady : IsSteady (remainder_of s old) (outward_move (next (setting_of s old) (remainder_of s old)) (remainder_of s old))
  steady = steady_next (setting_of s old) (remainder_of s old)

  pub out_lines : length between ≤ length before + 1
  out_lines = one_line s (outward_move (next (setting_of s old) (remainder_of s old)) (remainder_of s old)) old mid before between h steady.small

  pub out_counted : IsCounted (remainder_of s old) (remainder_of s mid) before between
  out_counted = is_counted s (outward_move (next (setting_of s old) (remainder_of s old)) (remainder_of s old)) old mid before between h steady.small

  pub out_once : HasNoOnce (remainder_of s old) → HasNoOnce (remainder_of s mid)
  out_once all = subst HasNoOnce (sym h.to) (steady.once all)

  pub ready_scopes : mid.scopes ≡ old.scopes
  ready_scopes = ap (λ (x : Remainder). x.scopes) h.to ∙ steady.scopes

  pub ready_unwindings : mid.unwindings ≡ old.unwindings
  ready_unwindings = ap (λ (x : Remainder). x.unwindings) h.to ∙ steady.unwindings

-- ---- counts

pub counted_then : (r between_r after_r : Remainder) (before between after : List What) → IsCounted r between_r before between → IsCounted between_r after_r between after → IsCounted r after_r before after
counted_then r between_r after_r before between after h k = record { scopes = omega (arith, h.scopes, k.scopes); unwindings = omega (arith, h.unwindings, k.unwindings) }

-- One more line counts nothing.
pub counted_more : (r after_r : Remainder) (before after last : List What) → IsCounted r after_r before after → last ≡ after ++ what.Pause ∷ [] → IsCounted r after_r before last
counted_more r after_r before after last h e =
    record { scopes = omega (arith, h.scopes, ap length e, length-append after (what.Pause ∷ [])); unwindings = omega (arith, h.unwindings, ap length e, length-append after (what.Pause ∷ [])) }

-- ---- a quiet step

module _ (s : Script) (mid new : Context) (between after : List What) (h : Steps s false (shared_of []) mid new between after) where
  -- A step with no values of shared variables is a quiet one.
  pub makes_quiet : Makes s (quiet (setting_of s mid) (remainder_of s mid)) mid new between after
  unfolding quiet
  makes_quiet = h

  small : IsSmall (remainder_of s mid) (quiet (setting_of s mid) (remainder_of s mid))
  unfolding quiet
  small = small_step (setting_of s mid) false none_shared (place_in (remainder_of s mid).items) (remainder_of s mid)

  pub quiet_lines : length after ≤ length between + 1
  quiet_lines = one_line s (quiet (setting_of s mid) (remainder_of s mid)) mid new between after makes_quiet small

  pub quiet_counted : IsCounted (remainder_of s mid) (remainder_of s new) between after
  quiet_counted = is_counted s (quiet (setting_of s mid) (remainder_of s mid)) mid new between after makes_quiet small

  pub quiet_once : HasNoOnce (remainder_of s mid) → HasNoOnce (remainder_of s new)
  quiet_once all = subst HasNoOnce (sym h.to) (leaves_step (setting_of s mid) false (shared_of []) (remainder_of s mid) all)

-- ---- where no once block is open

pub not_undone : (s : Script) (k : Context) → IsNext s k stood.Undoes → HasNoOnce (remainder_of s k) → ⊥
not_undone s k f all = false≢true (sym (next_outside (setting_of s k) (remainder_of s k) all) ∙ ap is_next_once f.2)

pub not_done : (s : Script) (k : Context) → IsNext s k stood.EndsOnce → HasNoOnce (remainder_of s k) → ⊥
not_done s k f all = false≢true (sym (next_outside (setting_of s k) (remainder_of s k) all) ∙ ap is_next_once f.1)

-- ---- one step of a run

-- A cancel is delivered where the next step is known.
delivers : (s : Script) (k : Context) (x : Next) (point : Bool) → next (setting_of s k) (remainder_of s k) ≡ x → is_at_point x ≡ point → line_of_next (remainder_of s k) ≡ Some k.line → IsDelivered (setting_of s k) (remainder_of s k) point k.line runs.Delivers
delivers s k x point e p l = record { halt = refl; line_is = l; point_is = ap is_at_point e ∙ p }

-- The line of a statement that is next.
line_of_spot : (r : Remainder) (line : ℕ) (h : Spot) → h.line ≡ line → place_in r.items ≡ At h → line_of_next r ≡ Some line
line_of_spot r line h l p = ap line_in p ∙ ap Some l

module _ (s : Script) (mode : Mode) (old mid : Context) (before between : List What) (h : Makes s (outward_move (next (setting_of s old) (remainder_of s old)) (remainder_of s old)) old mid before between) where
  passed_to : (more : Remainder → runs.Run) (x : Next) → next (setting_of s mid) (remainder_of s mid) ≡ x → runs.after_lines before (pass (setting_of s old) mode more (remainder_of s old)) ≡ runs.after_lines between (runs.at_next mode more (remainder_of s mid) x)
  passed_to more x e =
      let g = setting_of s old in
      let r = remainder_of s old in
      let out = outward_move (next g r) r in
      let run : Setting → Remainder → runs.Run = λ g2 r2. runs.at_next mode more r2 (next g2 r2) in
      (λ i. record { to = (run g out.to).to; lines = sym (append_assoc before out.lines (run g out.to).lines) i; halt = (run g out.to).halt })
      ∙ (λ i. runs.after_lines (sym h.lines i) (run (sym h.setting i) (sym h.to i)))
      ∙ ap (λ (y : Next). runs.after_lines between (runs.at_next mode more (remainder_of s mid) y)) e

  halted : (x : Next) (halt : runs.Halt) (y : Stopped) → next (setting_of s mid) (remainder_of s mid) ≡ x → ((more : Remainder → runs.Run) → runs.at_next mode more (remainder_of s mid) x ≡ runs.halts (remainder_of s mid) halt) →
      IsHalt (setting_of s mid) (remainder_of s mid) y halt → Passed s mode old mid before between (Some y)
  halted x halt y e step is = record {
    run = (halt, is, λ more. passed_to more x e ∙ ap (runs.after_lines between) (step more) ∙ ap (λ (l : List What). let z : runs.Run = record { to = remainder_of s mid; lines = l; halt = halt } in z) (append-nil between));
    setting = h.setting;
    good = h.good;
  }

  -- The step is made, or a cancel that can be delivered comes before it.
  settled : (x : Next) (halt : runs.Halt) (point deliverable : Bool) → is_deliverable mode point ≡ deliverable → ((more : Remainder → runs.Run) → runs.at_next mode more (remainder_of s mid) x ≡ runs.halts (remainder_of s mid) (runs.or_delivers (is_deliverable mode point) halt)) →
      (more : Remainder → runs.Run) → runs.at_next mode more (remainder_of s mid) x ≡ runs.halts (remainder_of s mid) (runs.or_delivers deliverable halt)
  settled x halt point deliverable d step more = step more ∙ ap (λ (b : Bool). runs.halts (remainder_of s mid) (runs.or_delivers b halt)) d

  pub pass_outward : (after : List What) → IsNext s mid stood.Outward → after ≡ between ++ what.Pause ∷ [] → Passed s mode old mid before after (Some stopped.Paused)
  pass_outward after f w = record {
    run = (runs.Pauses, refl, λ more. passed_to more (GoesOutward f.0) f.1 ∙ ap (λ (l : List What). let z : runs.Run = record { to = remainder_of s mid; lines = l; halt = runs.Pauses } in z) (sym w));
    setting = h.setting;
    good = h.good;
  }

  pub pass_undoes : IsNext s mid stood.Undoes → Passed s mode old mid before between (Some stopped.OnceUndone)
  pass_undoes f = halted (UndoesOnce f.0 f.1) (runs.Undoes f.0 f.1) stopped.OnceUndone f.2 (λ more. refl) (f.0, f.1, f.2, refl)

  pub pass_ended : IsNext s mid stood.Ended → Passed s mode old mid before between (Some (stopped.Ended mid.value))
  pass_ended f = halted EndsThread runs.Ends (stopped.Ended mid.value) f.0 (λ more. refl) (refl, refl, ap (λ (is : List Frame). items_of s mid.line mid.frames.calls is) f.1)

  module _ (f : IsNext s mid stood.EndsOnce) where
    pub pass_once : is_deliverable mode false ≡ false → Passed s mode old mid before between (Some stopped.OnceDone)
    pass_once d =
        let m = quiet (setting_of s mid) (remainder_of s mid) in
        halted (EndsOnce f.0 m) (runs.Completes f.0 m) stopped.OnceDone f.1 (settled (EndsOnce f.0 m) (runs.Completes f.0 m) false false d (λ more. refl)) (f.0, m, f.1, refl)

    pub deliver_once : is_deliverable mode false ≡ true → Passed s mode old mid before between (Some (stopped.Async (at mid.line)))
    deliver_once d =
        let m = quiet (setting_of s mid) (remainder_of s mid) in
        halted (EndsOnce f.0 m) runs.Delivers (stopped.Async (at mid.line)) f.1 (settled (EndsOnce f.0 m) (runs.Completes f.0 m) false true d (λ more. refl)) (delivers s mid (EndsOnce f.0 m) false f.1 refl f.2)

  module _ (f : IsNext s mid stood.Shared) where
    pub pass_shared : is_deliverable mode false ≡ false → Passed s mode old mid before between (Some (stopped.Shared (at mid.line)))
    pass_shared d = halted (Shares f.0) (runs.Shares f.0) (stopped.Shared (at mid.line)) f.3 (settled (Shares f.0) (runs.Shares f.0) false false d (λ more. refl)) (f.0, f.1, f.2, refl)

    pub deliver_shared : is_deliverable mode false ≡ true → Passed s mode old mid before between (Some (stopped.Async (at mid.line)))
    deliver_shared d =
        halted (Shares f.0) runs.Delivers (stopped.Async (at mid.line)) f.3 (settled (Shares f.0) (runs.Shares f.0) false true d (λ more. refl))
        (delivers s mid (Shares f.0) false f.3 refl (line_of_spot (remainder_of s mid) mid.line f.0 f.1 f.2))

  module _ (f : IsNext s mid stood.Point) where
    pub pass_point : is_deliverable mode true ≡ false → Passed s mode old mid before between (Some (stopped.Shared (at mid.line)))
    pass_point d = halted (IsAtPoint f.0) (runs.Shares f.0) (stopped.Shared (at mid.line)) f.3 (settled (IsAtPoint f.0) (runs.Shares f.0) true false d (λ more. refl)) (f.0, f.1, f.2, refl)

    pub deliver_point : is_deliverable mode true ≡ true → Passed s mode old mid before between (Some (stopped.Point (at mid.line)))
    deliver_point d =
        halted (IsAtPoint f.0) runs.Delivers (stopped.Point (at mid.line)) f.3 (settled (IsAtPoint f.0) (runs.Shares f.0) true true d (λ more. refl))
        (delivers s mid (IsAtPoint f.0) true f.3 refl (line_of_spot (remainder_of s mid) mid.line f.0 f.1 f.2))

  module _ (f : IsNext s mid stood.Quiet) where
    pub deliver_quiet : is_deliverable mode false ≡ true → Passed s mode old mid before between (Some (stopped.Async (at mid.line)))
    deliver_quiet d =
        let m = quiet (setting_of s mid) (remainder_of s mid) in
        halted (StepsQuietly m) runs.Delivers (stopped.Async (at mid.line)) f.0 (λ more. ap (λ (b : Bool). runs.quiet_or_delivers b mode more (remainder_of s mid) m) d) (delivers s mid (StepsQuietly m) false f.0 refl f.1)

    steps : (more : Remainder → runs.Run) (asynchronous : Bool) → is_deliverable mode false ≡ false → runs.is_asynchronous mode ≡ asynchronous →
        runs.after_lines before (pass (setting_of s old) mode more (remainder_of s old)) ≡ runs.after_lines between (runs.goes_on asynchronous more (quiet (setting_of s mid) (remainder_of s mid)))
    steps more asynchronous d a =
        let m = quiet (setting_of s mid) (remainder_of s mid) in
        passed_to more (StepsQuietly m) f.0
        ∙ ap (λ (b : Bool). runs.after_lines between (runs.quiet_or_delivers b mode more (remainder_of s mid) m)) d
        ∙ ap (λ (b : Bool). runs.after_lines between (runs.goes_on b more m)) a

    module _ (new : Context) (after : List What) (d : is_deliverable mode false ≡ false) (v : Makes s (quiet (setting_of s mid) (remainder_of s mid)) mid new between after) where
      pub pass_quiet : runs.is_asynchronous mode ≡ false → Passed s mode old new before after None
      pass_quiet a = record {
        run = λ more. steps more false d a
            ∙ (let m = quiet (setting_of s mid) (remainder_of s mid) in
            (λ i. let z : runs.Run = record { to = (more m.to).to; lines = sym (append_assoc between m.lines (more m.to).lines) i; halt = (more m.to).halt } in z)
            ∙ (λ i. runs.after_lines (sym v.lines i) (more (sym v.to i))));
        setting = v.setting ∙ h.setting;
        good = v.good;
      }

      pub pass_paused : (last : List What) → runs.is_asynchronous mode ≡ true → last ≡ after ++ what.Pause ∷ [] → Passed s mode old new before last (Some stopped.Paused)
      pass_paused last a w = record {
        run = (
          runs.Pauses,
          refl,
          λ more. steps more true d a
              ∙ (let m = quiet (setting_of s mid) (remainder_of s mid) in
              (λ i. let z : runs.Run = record { to = sym v.to i; lines = sym (append_assoc between m.lines (what.Pause ∷ [])) i; halt = runs.Pauses } in z)
              ∙ (λ i. let z : runs.Run = record { to = remainder_of s new; lines = (ap (λ (l : List What). l ++ what.Pause ∷ []) (sym v.lines) ∙ sym w) i; halt = runs.Pauses } in z)),
        );
        setting = v.setting ∙ h.setting;
        good = v.good;
      }

-- ---- a run

module _ (s : Script) (mode : Mode) (first now new : Context) (before after : List What) (n : ℕ) (setting : setting_of s now ≡ setting_of s first)
    (inv : runs.after_lines before (runs.run_of n (setting_of s first) mode (remainder_of s now)) ≡ runs.run_of runs.most_steps (setting_of s first) mode (remainder_of s first)) where
  module _ (m : ℕ) (e : n ≡ suc m) where
    step_is : runs.after_lines before (runs.run_of n (setting_of s first) mode (remainder_of s now)) ≡ runs.after_lines before (pass (setting_of s now) mode (runs.run_of m (setting_of s first) mode) (remainder_of s now))
    unfolding runs.run_of
    step_is =
        (λ i. runs.after_lines before (runs.run_of (e i) (setting_of s first) mode (remainder_of s now)))
        ∙ (λ i. runs.after_lines before (pass (sym setting i) mode (runs.run_of m (setting_of s first) mode) (remainder_of s now)))

    pub run_ends : (x : Stopped) → Passed s mode now new before after (Some x) → RanTo s mode first new after x
    run_ends x p = record { halt = p.run.0; is = p.run.1; run = sym inv ∙ step_is ∙ p.run.2 (runs.run_of m (setting_of s first) mode); setting = p.setting ∙ setting; stack = p.good }

    pub run_goes : Passed s mode now new before after None → runs.after_lines after (runs.run_of m (setting_of s first) mode (remainder_of s new)) ≡ runs.run_of runs.most_steps (setting_of s first) mode (remainder_of s first)
    run_goes p = sym (step_is ∙ p.run (runs.run_of m (setting_of s first) mode)) ∙ inv

  pub run_pauses : n ≡ 0 → IsGood s now → after ≡ before ++ what.Pause ∷ [] → RanTo s mode first now after stopped.Paused
  unfolding runs.run_of
  run_pauses e good w = record {
    halt = runs.Pauses;
    is = refl;
    run = sym inv ∙ (λ i. runs.after_lines before (runs.run_of (e i) (setting_of s first) mode (remainder_of s now))) ∙ (λ i. let z : runs.Run = record { to = remainder_of s now; lines = sym w i; halt = runs.Pauses } in z);
    setting = setting;
    stack = good;
  }
