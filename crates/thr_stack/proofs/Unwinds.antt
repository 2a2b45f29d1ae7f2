-- Unwindings over frames.
use Rattle.std.proofs.Common.{◌≡◌, ℕ, ◌+◌, ◌<◌, ℤ, Bool, true, false, List, [], ◌∷◌, ◌++◌, Some, None, refl, ap, sym, ◌∙◌, subst, arith, append-nil, if◌then◌else◌}
use Rattle.thr_values.specs.declared.number.NameId.{NameId}
use Rattle.thr_values.specs.declared.exception.Exc.{Exc}
use Rattle.thr_values.specs.declared.history.What.{What}
use Rattle.thr_values.specs.declared.history.What.TheVariants as what
use Rattle.thr_syntax.specs.declared.form.Form.{Form}
use Rattle.thr_syntax.specs.declared.form.Form.TheVariants as form
use Rattle.thr_syntax.specs.declared.tree.Script.{Script}
use Rattle.thr_remainder.specs.Declarations.{exception_value}
use Rattle.thr_remainder.specs.Places.{Left, Handler, Ways, Catches, Finally}
use Rattle.thr_remainder.specs.Expressions.{is_same}
use Rattle.thr_remainder.specs.declared.unwinding.Cause.TheVariants as cause
use Rattle.thr_remainder.specs.declared.unwinding.Unwinding.{Unwinding}
use Rattle.thr_remainder.specs.Remainders.{Item, Finishing, Move}
use Rattle.thr_remainder.specs.Outward.{catches, first_catch, caught_by, at_try, Meeting, Drops, Begins, Undoes, Loses, meeting, left_value, outward_from, outward}
use Rattle.thr_remainder.specs.Outward as outward_steps
use Rattle.thr_remainder.specs.Starts.{at}
use Rattle.thr_lines.specs.declared.row.Row.{Row}
use Rattle.thr_lines.specs.Layout.{line_at, last_line}
use Rattle.thr_lines.specs.AtLines.{EndsTryBody, FormAt}
use Rattle.thr_stack.specs.declared.frame.Kind.{Kind}
use Rattle.thr_stack.specs.declared.frame.Kind.TheVariants as kind
use Rattle.thr_stack.specs.declared.frame.Met.TheVariants as met
use Rattle.thr_stack.specs.declared.frame.Frame.{Frame}
use Rattle.thr_stack.specs.declared.context.Context.{Context}
use Rattle.thr_stack.specs.FrameLists.{FramesView, below}
use Rattle.thr_stack.specs.Standing.{IsLine, IsKind, AreFrames, IsGood, role_of, items_of, remainder_of, setting_of, Ends}
use Rattle.thr_stack.specs.Unwinds.{Catching, NoCatch, GoesOut, Meets, HasDropped}
use Rattle.thr_stack.proofs.FitLaws.{below_no_call}
use Rattle.thr_stack.proofs.Sites.{some_line, good_with}

-- ---- the first clause that catches

-- No clause above this line catches.
pub record IsSought (s : Script) (x : Exc) (first l : ℕ) : Type 0 where
  pub line : IsLine s l
  pub way : EndsTryBody (line_at s l).row.form
  pub handlers : List Handler
  pub ways : (line_at s first).ways ≡ Catches handlers
  pub left : List Handler
  pub here : (line_at s l).ways ≡ Catches left
  pub same : first_catch s x handlers ≡ first_catch s x left

handlers_of : Ways → List Handler
handlers_of (Catches handlers) = handlers
handlers_of (Finally body) = []

same_handlers : (a b : List Handler) → Catches a ≡ Catches b → a ≡ b
unfolding handlers_of
same_handlers a b e = ap handlers_of e

is_catches : Ways → Type 0
is_catches (Catches handlers) = Unit {0}
is_catches (Finally body) = ⊥

not_finally : (a : List Handler) (body : Left) → Catches a ≡ Finally body → ⊥
unfolding is_catches
not_finally a body e = subst is_catches e tt

pub sought_first : (s : Script) (x : Exc) (first : ℕ) → IsLine s first → EndsTryBody (line_at s first).row.form → Ends s first false → IsSought s x first first
sought_first s x first line way h = record { line = line; way = way; handlers = h.0; ways = h.1; left = h.0; here = h.1; same = refl }

module _ (s : Script) (x : Exc) (first l : ℕ) (h : IsSought s x first l) (row : Row) where
  caught_here : (h2 : Handler) (more : List Handler) → (line_at s l).ways ≡ Catches (h2 ∷ more) → first_catch s x h.handlers ≡ first_catch s x (h2 ∷ more)
  caught_here h2 more e = h.same ∙ ap (first_catch s x) (same_handlers h.left (h2 ∷ more) (sym h.here ∙ e))

  pub sought_all : FormAt (line_at s) (last_line s) l row form.CatchAll → Catching s x first l
  sought_all a = record {
    inside = (omega arith, omega (arith, a.above, a.inside));
    handlers = h.handlers;
    ways = h.ways;
    names = None;
    first_is = caught_here _ _ a.ways;
  }

  pub sought_here : (name : NameId) → FormAt (line_at s) (last_line s) l row (form.Catch name) → is_same x (exception_value s name) ≡ true → Catching s x first l
  sought_here name a is = record {
    inside = (omega arith, omega (arith, a.above, a.inside));
    handlers = h.handlers;
    ways = h.ways;
    names = Some name;
    first_is = caught_here _ _ a.ways ∙ ap (λ (b : Bool). if b then Some (record { line = l; names = Some name; body = (line_at s (l + 1)).left }) else first_catch s x a.handlers) is;
  }

  pub sought_next : (name : NameId) (next : ℕ) → FormAt (line_at s) (last_line s) l row (form.Catch name) → is_same x (exception_value s name) ≡ false → row.next ≡ Some (at next) → IsSought s x first next × (l < next)
  sought_next name next a is e =
      let same : a.next ≡ next = some_line a.next next (sym a.next_is ∙ e) in (
        record {
          line = (omega (arith, a.above, same), omega (arith, a.inside, same));
          way = subst (λ n. EndsTryBody (line_at s n).row.form) same a.way;
          handlers = h.handlers;
          ways = h.ways;
          left = a.handlers;
          here = ap (λ n. (line_at s n).ways) (sym same) ∙ a.others;
          same = caught_here _ _ a.ways ∙ ap (λ (b : Bool). if b then Some (record { line = l; names = Some name; body = (line_at s (l + 1)).left }) else first_catch s x a.handlers) is;
        },
        omega (arith, a.above, same),
      )

  pub sought_none : (f : Form) → FormAt (line_at s) (last_line s) l row f → EndsTryBody f → ((name : NameId) → f ≡ form.Catch name → ⊥) → (f ≡ form.CatchAll → ⊥) → NoCatch s x first
  sought_none form.Header a w one all = absurd w
  sought_none (form.Interface i) a w one all = absurd w
  sought_none (form.Limit n) a w one all = absurd w
  sought_none (form.Shared y n) a w one all = absurd w
  sought_none (form.Exception y) a w one all = absurd w
  sought_none (form.Status y n) a w one all = absurd w
  sought_none (form.Mutex y) a w one all = absurd w
  sought_none (form.MutexAttr y) a w one all = absurd w
  sought_none (form.Cond y) a w one all = absurd w
  sought_none (form.Attr y) a w one all = absurd w
  sought_none (form.Key y) a w one all = absurd w
  sought_none (form.Once y) a w one all = absurd w
  sought_none (form.Pipe y n) a w one all = absurd w
  sought_none (form.Routine y p) a w one all = absurd w
  sought_none (form.Local p) a w one all = absurd w
  sought_none (form.Set v e) a w one all = absurd w
  sought_none (form.Say e) a w one all = absurd w
  sought_none (form.If e) a w one all = absurd w
  sought_none form.Else a w one all = absurd w
  sought_none (form.While e) a w one all = absurd w
  sought_none form.Try a w one all = absurd w
  sought_none (form.Catch name) a w one all = absurd (one name refl)
  sought_none form.CatchAll a w one all = absurd (all refl)
  sought_none form.Finally a w one all = absurd (not_finally h.left (line_at s (l + 1)).left (sym h.here ∙ a.ways))
  sought_none form.Endtry a w one all = record { handlers = h.handlers; ways = h.ways; first_is = h.same ∙ ap (first_catch s x) (same_handlers h.left [] (sym h.here ∙ a.ways)) }
  sought_none (form.Raise y) a w one all = absurd w
  sought_none form.Reraise a w one all = absurd w
  sought_none (form.Call y e p) a w one all = absurd w
  sought_none (form.Return e) a w one all = absurd w
  sought_none (form.Exit e) a w one all = absurd w
  sought_none (form.Dce c) a w one all = absurd w
  sought_none form.End a w one all = absurd w

-- ---- what an unwinding does at a try

meets_finally : (s : Script) (scope first : ℕ) (u : Unwinding) → Ends s first true → (calls : List (List ℤ)) → meeting s (role_of s calls (kind.Try scope first)) u ≡ Begins (Finishing scope (Some u)) (line_at s (first + 1)).left (what.Finally scope u.number)
meets_finally s scope first u h calls = ap (λ (w : Ways). at_try s scope w u u.cause) h.1

pub met_finally : (s : Script) (scope first : ℕ) (u : Unwinding) → Ends s first true → Meets s (kind.Try scope first) u (met.Begins (kind.Finally scope (Some u)) (first + 1) (what.Finally scope u.number))
unfolding meets_finally
met_finally s scope first u h = (meets_finally s scope first u h, h.0, tt, λ calls. refl, tt)

pub met_exit : (s : Script) (scope first : ℕ) (u : Unwinding) (v : ℤ) → Ends s first false → u.cause ≡ cause.Exit v → Meets s (kind.Try scope first) u met.Drops
met_exit s scope first u v h is calls = ap (at_try s scope (line_at s first).ways u) is ∙ ap (λ (w : Ways). at_try s scope w u (cause.Exit v)) h.1

pub met_none : (s : Script) (scope first : ℕ) (u : Unwinding) (x : Exc) → u.cause ≡ cause.Raised x → NoCatch s x first → Meets s (kind.Try scope first) u met.Drops
met_none s scope first u x is h calls =
    ap (at_try s scope (line_at s first).ways u) is ∙ ap (λ (w : Ways). at_try s scope w u (cause.Raised x)) h.ways ∙ ap (caught_by scope u.number x) h.first_is

pub met_catch : (s : Script) (scope first line : ℕ) (u : Unwinding) (x : Exc) → u.cause ≡ cause.Raised x → Catching s x first line →
    Meets s (kind.Try scope first) u (met.Begins (kind.Catch scope x) (line + 1) (what.Catch scope u.number (at line)))
met_catch s scope first line u x is h = (
  (λ calls. ap (at_try s scope (line_at s first).ways u) is ∙ ap (λ (w : Ways). at_try s scope w u (cause.Raised x)) h.ways ∙ ap (caught_by scope u.number x) h.first_is),
  h.inside,
  tt,
  λ calls. refl,
  tt,
)

-- ---- outward

module _ (s : Script) (u : Unwinding) (k now : Context) (n : List What) (h : HasDropped s u k now) where
  -- The unwinding ends with this move.
  out_by : (m : Move) (new : Context) (more : List What) → outward_from s u (items_of s now.line now.frames.calls now.frames.items) (remainder_of s k) ≡ m → remainder_of s new ≡ m.to → more ≡ n ++ m.lines → setting_of s new ≡ setting_of s k → IsGood s new →
      GoesOut s u k new n more
  unfolding outward
  out_by m new more q e w t g =
      let same : outward (setting_of s k) u (remainder_of s k) ≡ m = sym h.goes ∙ q in
      record { to = e ∙ sym (ap (λ (x : Move). x.to) same); lines = w ∙ sym (ap (λ (x : Move). n ++ x.lines) same); setting = t; good = g }

  pub out_bottom : (more : List What) (v : ℤ) (frames : FramesView) → now.frames.items ≡ [] → frames ≡ now.frames → v ≡ left_value u.cause → more ≡ n ++ what.Bottom u.number v ∷ [] →
      GoesOut s u k (record now { frames = frames; under_way = None; value = v }) n more
  out_bottom more v frames none same is w =
      let r = remainder_of s k in
      let new : Context → FramesView → Context = λ x p. record { frames = p; line = now.line; under_way = None; value = v; err = x.err; scopes = x.scopes; unwindings = x.unwindings; me = x.me } in
      let empty : frames.items ≡ [] = ap (λ (p : FramesView). p.items) same ∙ none in
      let size : frames.size ≡ k.frames.size = ap (λ (p : FramesView). p.size) same ∙ h.size in
      let moved : GoesOut s u k (new k frames) n more =
      out_by (record { to = record r { items = []; under_way = None; value = v }; lines = what.Bottom u.number v ∷ [] }) (new k frames) more
      (ap (λ (fs : List Frame). outward_from s u (items_of s now.line now.frames.calls fs) r) none ∙ ap (λ (z : ℤ). let m : Move = record { to = record r { items = []; under_way = None; value = z }; lines = what.Bottom u.number z ∷ [] } in m) (sym is))
      (ap (λ (fs : List Frame). record r { items = items_of s now.line frames.calls fs; under_way = None; value = v }) empty) w (ap (λ z. record (setting_of s k) { size = z }) size)
      (subst (λ (p : FramesView). AreFrames s now.line p.calls p.items) (sym same) h.good) in
      subst (λ (x : Context). GoesOut s u k (new x frames) n more) (sym h.same) moved

  module _ (f : Frame) (frames : FramesView) (items : now.frames.items ≡ f ∷ frames.items) (size : frames.size ≡ now.frames.size) (calls : frames.calls ≡ below now.frames.calls f.kind) where
    good_here : AreFrames s now.line now.frames.calls (f ∷ frames.items)
    good_here = subst (AreFrames s now.line now.frames.calls) items h.good

    -- The frames below.
    good_below : AreFrames s f.back frames.calls frames.items
    unfolding good_here
    good_below = good_with s f.back (below now.frames.calls f.kind) frames.calls frames.items calls good_here.2

    outer : List Item
    outer = items_of s f.back (below now.frames.calls f.kind) frames.items

    met_by : Meeting → Move
    met_by m = outward_steps.met m (record { role = role_of s now.frames.calls f.kind; inside = (line_at s now.line).left }) outer (remainder_of s k) (outward_from s u outer (remainder_of s k))

    met_here : (m : Meeting) → meeting s (role_of s now.frames.calls f.kind) u ≡ m → outward_from s u (items_of s now.line now.frames.calls now.frames.items) (remainder_of s k) ≡ met_by m
    unfolding outer met_by
    met_here m is = ap (λ (fs : List Frame). outward_from s u (items_of s now.line now.frames.calls fs) (remainder_of s k)) items ∙ ap met_by is

    whole_size : frames.size ≡ k.frames.size
    whole_size = size ∙ h.size

    pub kind_here : IsKind s f.kind
    unfolding good_here
    kind_here = good_here.1

    pub out_begins : (x : Kind) (line : ℕ) (w : What) (all : FramesView) (more : List What) → Meets s f.kind u (met.Begins x line w) → all ≡ record frames { items = record { kind = x; back = f.back } ∷ frames.items } → more ≡ n ++ w ∷ [] →
        GoesOut s u k (record now { frames = all; line = line; under_way = None }) n more
    unfolding good_below outer met_by whole_size
    out_begins x line w all more m all_is e =
        let r = remainder_of s k in
        let new : Context → FramesView → Context = λ y p. record { frames = p; line = line; under_way = None; value = y.value; err = y.err; scopes = y.scopes; unwindings = y.unwindings; me = y.me } in
        let whole : FramesView = record frames { items = record { kind = x; back = f.back } ∷ frames.items } in
        let moved : GoesOut s u k (new k whole) n more =
        out_by (met_by (Begins (role_of s now.frames.calls x) (line_at s line).left w)) (new k whole) more (met_here (Begins (role_of s now.frames.calls x) (line_at s line).left w) (m.0 now.frames.calls))
        (λ i. record r { items = record { role = role_of s ((calls ∙ m.3 now.frames.calls) i) x; inside = (line_at s line).left } ∷ items_of s f.back ((below_no_call x m.4 frames.calls ∙ calls) i) frames.items; under_way = None })
        e (ap (λ z. record (setting_of s k) { size = z }) whole_size) (m.1, m.2, good_with s f.back frames.calls (below frames.calls x) frames.items (below_no_call x m.4 frames.calls) good_below) in
        subst (λ (y : Context). GoesOut s u k (record y { frames = all; line = line; under_way = None }) n more) (sym h.same) (subst (λ (p : FramesView). GoesOut s u k (new k p) n more) (sym all_is) moved)

    pub out_loses : (w : What) (more : List What) → Meets s f.kind u (met.Loses w) → more ≡ n ++ w ∷ [] → GoesOut s u k (record now { frames = frames; line = f.back; under_way = None }) n more
    unfolding good_below outer met_by whole_size
    out_loses w more m e =
        let r = remainder_of s k in
        let new : Context → Context = λ y. record { frames = frames; line = f.back; under_way = None; value = y.value; err = y.err; scopes = y.scopes; unwindings = y.unwindings; me = y.me } in
        let moved : GoesOut s u k (new k) n more =
        out_by (met_by (Loses w)) (new k) more (met_here (Loses w) (m.0 now.frames.calls))
        (λ i. record r { items = items_of s f.back (calls i) frames.items; under_way = None })
        e (ap (λ z. record (setting_of s k) { size = z }) whole_size) good_below in
        subst (λ (y : Context). GoesOut s u k (record y { frames = frames; line = f.back; under_way = None }) n more) (sym h.same) moved

    pub out_undoes : (all : FramesView) → Meets s f.kind u met.Undoes → all ≡ record frames { items = f ∷ frames.items } → GoesOut s u k (record now { frames = all }) n n
    unfolding good_here outer met_by whole_size
    out_undoes all m all_is =
        let r = remainder_of s k in
        let new : Context → FramesView → Context = λ y p. record { frames = p; line = now.line; under_way = y.under_way; value = y.value; err = y.err; scopes = y.scopes; unwindings = y.unwindings; me = y.me } in
        let whole : FramesView = record frames { items = f ∷ frames.items } in
        let same : frames.calls ≡ now.frames.calls = calls ∙ below_no_call f.kind m.1 now.frames.calls in
        let moved : GoesOut s u k (new k whole) n n =
        out_by (met_by Undoes) (new k whole) n (met_here Undoes (m.0 now.frames.calls))
        (ap (λ (cs : List (List ℤ)). remainder_of s (new k (record whole { calls = cs }))) same) (sym (append-nil n)) (ap (λ z. record (setting_of s k) { size = z }) whole_size)
        (good_with s now.line now.frames.calls frames.calls (f ∷ frames.items) same good_here) in
        subst (λ (y : Context). GoesOut s u k (record y { frames = all }) n n) (sym h.same) (subst (λ (p : FramesView). GoesOut s u k (new k p) n n) (sym all_is) moved)

    pub out_drops : Meets s f.kind u met.Drops → HasDropped s u k (record now { frames = frames; line = f.back })
    unfolding good_below outer met_by whole_size
    out_drops m =
        let r = remainder_of s k in
        let there : Context → Context = λ y. record { frames = frames; line = f.back; under_way = y.under_way; value = y.value; err = y.err; scopes = y.scopes; unwindings = y.unwindings; me = y.me } in
        let moved : HasDropped s u k (there k) = record {
          same = refl;
          size = whole_size;
          good = good_below;
          goes = ap (λ (cs : List (List ℤ)). outward_from s u (items_of s f.back cs frames.items) r) calls ∙ sym (met_here Drops (m now.frames.calls)) ∙ h.goes;
        } in
        subst (λ (y : Context). HasDropped s u k (there y)) (sym h.same) moved

pub dropped_none : (s : Script) (u : Unwinding) (k : Context) → IsGood s k → HasDropped s u k k
dropped_none s u k g = record { same = refl; size = refl; good = g; goes = refl }
