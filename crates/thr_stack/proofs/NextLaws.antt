-- What is next where a context stands.
use Rattle.std.proofs.Common.{◌≡◌, ◌≢◌, ℕ, ℤ, List, [], ◌∷◌, Bool, true, false, if◌then◌else◌, Option, Some, None, is_some, refl, ap, sym, ◌∙◌, subst}
use Rattle.std.proofs.lemmas.Bool.{false≢true}
use Rattle.thr_values.specs.declared.number.NameId.{NameId}
use Rattle.thr_syntax.specs.declared.dce.DceCall.{DceCall}
use Rattle.thr_syntax.specs.declared.expr.Expr.{Expr}
use Rattle.thr_syntax.specs.declared.form.Form.{Form}
use Rattle.thr_syntax.specs.declared.form.Form.TheVariants as form
use Rattle.thr_syntax.specs.declared.tree.Script.{Script}
use Rattle.thr_remainder.specs.declared.unwinding.Unwinding.{Unwinding}
use Rattle.thr_remainder.specs.Places.{Left, nothing}
use Rattle.thr_remainder.specs.Acts.{Act, Asks}
use Rattle.thr_remainder.specs.Remainders.{Item, Remainder, Move, Place, place_in, place_inside}
use Rattle.thr_remainder.specs.Calls.{is_point, shape_of}
use Rattle.thr_remainder.specs.Starts.{line_of_next}
use Rattle.thr_remainder.specs.Expressions.{SharedValues}
use Rattle.thr_remainder.specs.Steps.{quiet, write_at}
use Rattle.thr_remainder.specs.Outward.{outward, undone}
use Rattle.thr_remainder.specs.Next.{GoesOutward, Shares, IsAtPoint, StepsQuietly, next_by, next_at, next_end, next_shared, next_outward, outward_or_undone, next}
use Rattle.thr_lines.specs.declared.row.Row.{Row}
use Rattle.thr_lines.specs.Layout.{line_at, last_line}
use Rattle.thr_lines.specs.AtLines.{ActsAt, FormAt}
use Rattle.thr_stack.specs.declared.frame.Kind.{Kind}
use Rattle.thr_stack.specs.declared.frame.Kind.TheVariants as kind
use Rattle.thr_stack.specs.declared.frame.Frame.{Frame}
use Rattle.thr_stack.specs.declared.context.Context.{Context}
use Rattle.thr_stack.specs.declared.next.Stood.TheVariants as stood
use Rattle.thr_stack.specs.FrameLists.{AtOnce}
use Rattle.thr_stack.specs.Forms.{expression_of, shares, ends}
use Rattle.thr_stack.specs.FrameLists.{below}
use Rattle.thr_stack.specs.Standing.{role_of, items_of, remainder_of, setting_of, IsPlace}
use Rattle.thr_stack.specs.Nexts.{IsNext}
use Rattle.thr_stack.proofs.PlaceLaws.{closes_here, first_here, line_is}
use Rattle.thr_stack.proofs.Sites.{site, spot, place_is, write_is, top}

-- ---- an unwinding under way

module _ (s : Script) (k : Context) (u : Unwinding) (under : k.under_way ≡ Some u) where
  pub by_unwinding : next (setting_of s k) (remainder_of s k) ≡ next_outward u (items_of s k.line k.frames.calls k.frames.items) (remainder_of s k) (outward (setting_of s k) u (remainder_of s k))
  unfolding next
  by_unwinding = ap (λ (o : Option Unwinding). next_by (setting_of s k) o (remainder_of s k)) under

  pub next_undoes : AtOnce k.frames.items true → IsNext s k stood.Undoes
  next_undoes h =
      let r = remainder_of s k in
      let m = outward (setting_of s k) u r in
      let f = h.0 in
      let outer = items_of s f.back (below k.frames.calls f.kind) h.1 in (
        h.3,
        undone h.2 u outer r,
        by_unwinding ∙ ap (λ (x : List Frame). next_outward u (items_of s k.line k.frames.calls x) r m) h.5
            ∙ ap (λ (x : Kind). outward_or_undone (role_of s k.frames.calls x) u outer r m) h.6,
      )

  out_or : (x : Kind) → ((scope : ℕ) (block routine : NameId) → x ≡ kind.Once scope block routine → ⊥) → (outer : List Item) (m : Move) → outward_or_undone (role_of s k.frames.calls x) u outer (remainder_of s k) m ≡ GoesOutward m
  out_or (kind.Call place count) h outer m = refl
  out_or (kind.Try scope first) h outer m = refl
  out_or (kind.Catch scope caught) h outer m = refl
  out_or (kind.Finally scope pending) h outer m = refl
  out_or (kind.Once scope block routine) h outer m = absurd (h scope block routine refl)
  out_or (kind.Barrier scope key routine) h outer m = refl

  pub goes_outward : AtOnce k.frames.items false → next (setting_of s k) (remainder_of s k) ≡ GoesOutward (outward (setting_of s k) u (remainder_of s k))
  goes_outward h = by k.frames.items refl
    where
      by : (items : List Frame) → k.frames.items ≡ items → next (setting_of s k) (remainder_of s k) ≡ GoesOutward (outward (setting_of s k) u (remainder_of s k))
      by [] e = by_unwinding ∙ ap (λ (x : List Frame). next_outward u (items_of s k.line k.frames.calls x) (remainder_of s k) (outward (setting_of s k) u (remainder_of s k))) e
      by (f ∷ fs) e =
          let r = remainder_of s k in
          let m = outward (setting_of s k) u r in
          by_unwinding ∙ ap (λ (x : List Frame). next_outward u (items_of s k.line k.frames.calls x) r m) e ∙ out_or f.kind (h f fs e) (items_of s f.back (below k.frames.calls f.kind) fs) m

-- ---- no unwinding under way

module _ (s : Script) (k : Context) (free : k.under_way ≡ None) where
  pub free_next : next (setting_of s k) (remainder_of s k) ≡ next_at (place_in (remainder_of s k).items) (remainder_of s k) (quiet (setting_of s k) (remainder_of s k))
  unfolding next
  free_next = ap (λ (u : Option Unwinding). next_by (setting_of s k) u (remainder_of s k)) free

  pub next_none : k.frames.items ≡ [] → IsNext s k stood.Ended
  next_none e = (free_next ∙ ap (λ (fs : List Frame). next_at (place_in (items_of s k.line k.frames.calls fs)) (remainder_of s k) (quiet (setting_of s k) (remainder_of s k))) e, e)

  module _ (some : k.frames.items ≢ []) where
    next_stmt : (rest : Left) (act : Act) (shared : Bool) → (d : ActsAt (line_at s) k.line rest act shared) →
        next (setting_of s k) (remainder_of s k) ≡ (if shared then next_shared act (spot s k rest act (site s k rest act shared some d)) else StepsQuietly (quiet (setting_of s k) (remainder_of s k)))
    unfolding site
    next_stmt rest act shared d =
        let t = site s k rest act shared some d in
        let q = quiet (setting_of s k) (remainder_of s k) in
        free_next ∙ ap (λ (p : Place). next_at p (remainder_of s k) q) (place_is s k rest act t) ∙ (λ i. if d.shares i then next_shared (t.acts i) (spot s k rest act t) else StepsQuietly q)

    next_call : (row : Row) (call : DceCall) (point : Bool) → (a : FormAt (line_at s) (last_line s) k.line row (form.Dce call)) → is_point (shape_of call).word ≡ point →
        next (setting_of s k) (remainder_of s k) ≡ (if point then IsAtPoint (spot s k _ (Asks call) (site s k _ (Asks call) true some a.does)) else Shares (spot s k _ (Asks call) (site s k _ (Asks call) true some a.does)))
    next_call row call point a p =
        let h = spot s k _ (Asks call) (site s k _ (Asks call) true some a.does) in next_stmt _ (Asks call) true a.does ∙ ap (λ (b : Bool). if b then IsAtPoint h else Shares h) p

    pub next_point : (row : Row) (call : DceCall) → FormAt (line_at s) (last_line s) k.line row (form.Dce call) → is_point (shape_of call).word ≡ true → IsNext s k stood.Point
    next_point row call a p = let t = site s k _ (Asks call) true some a.does in (spot s k _ (Asks call) t, refl, place_is s k _ (Asks call) t, next_call row call true a p)

    pub next_asks : (row : Row) (call : DceCall) → FormAt (line_at s) (last_line s) k.line row (form.Dce call) → is_point (shape_of call).word ≡ false → IsNext s k stood.Shared
    next_asks row call a p = let t = site s k _ (Asks call) true some a.does in (spot s k _ (Asks call) t, refl, place_is s k _ (Asks call) t, next_call row call false a p)

    shared_stmt : (rest : Left) (act : Act) (shared : Bool) → (d : ActsAt (line_at s) k.line rest act shared) → ((h : _) → next_shared act h ≡ Shares h) → shared ≡ true → IsNext s k stood.Shared
    shared_stmt rest act shared d e is =
        let t = site s k rest act shared some d in
        let h = spot s k rest act t in
        (h, refl, place_is s k rest act t, next_stmt rest act shared d ∙ ap (λ (b : Bool). if b then next_shared act h else StepsQuietly (quiet (setting_of s k) (remainder_of s k))) is ∙ e h)

    pub next_shares : (row : Row) (x : Form) → FormAt (line_at s) (last_line s) k.line row x → ((call : DceCall) → x ≡ form.Dce call → ⊥) → shares x ≡ true → IsNext s k stood.Shared
    next_shares row form.Header a non is = absurd (false≢true is)
    next_shares row (form.Interface v0) a non is = absurd (false≢true is)
    next_shares row (form.Limit v0) a non is = absurd (false≢true is)
    next_shares row (form.Shared v0 v1) a non is = absurd (false≢true is)
    next_shares row (form.Exception v0) a non is = absurd (false≢true is)
    next_shares row (form.Status v0 v1) a non is = absurd (false≢true is)
    next_shares row (form.Mutex v0) a non is = absurd (false≢true is)
    next_shares row (form.MutexAttr v0) a non is = absurd (false≢true is)
    next_shares row (form.Cond v0) a non is = absurd (false≢true is)
    next_shares row (form.Attr v0) a non is = absurd (false≢true is)
    next_shares row (form.Key v0) a non is = absurd (false≢true is)
    next_shares row (form.Once v0) a non is = absurd (false≢true is)
    next_shares row (form.Pipe v0 v1) a non is = absurd (false≢true is)
    next_shares row (form.Routine v0 v1) a non is = absurd (false≢true is)
    next_shares row (form.Local v0) a non is = absurd (false≢true is)
    next_shares row (form.Set v0 v1) a non is = shared_stmt _ _ _ a.does (λ h. refl) is
    next_shares row (form.Say v0) a non is = shared_stmt _ _ _ a.does (λ h. refl) is
    next_shares row (form.If v0) a non is = shared_stmt _ _ _ a.does (λ h. refl) is
    next_shares row form.Else a non is = absurd (false≢true is)
    next_shares row (form.While v0) a non is = shared_stmt _ _ _ a.does (λ h. refl) is
    next_shares row form.Try a non is = absurd (false≢true is)
    next_shares row (form.Catch v0) a non is = absurd (false≢true is)
    next_shares row form.CatchAll a non is = absurd (false≢true is)
    next_shares row form.Finally a non is = absurd (false≢true is)
    next_shares row form.Endtry a non is = absurd (false≢true is)
    next_shares row (form.Raise v0) a non is = absurd (false≢true is)
    next_shares row form.Reraise a non is = absurd (false≢true is)
    next_shares row (form.Call v0 v1 v2) a non is = shared_stmt _ _ _ a.does (λ h. refl) is
    next_shares row (form.Return v0) a non is = shared_stmt _ _ _ a.does (λ h. refl) is
    next_shares row (form.Exit v0) a non is = shared_stmt _ _ _ a.does (λ h. refl) is
    next_shares row (form.Dce v0) a non is = absurd (non v0 refl)
    next_shares row form.End a non is = absurd (false≢true is)

    quiet_by : (rest : Left) (act : Act) (shared : Bool) → (d : ActsAt (line_at s) k.line rest act shared) → shared ≡ false → next (setting_of s k) (remainder_of s k) ≡ StepsQuietly (quiet (setting_of s k) (remainder_of s k))
    quiet_by rest act shared d is =
        next_stmt rest act shared d ∙ ap (λ (b : Bool). if b then next_shared act (spot s k rest act (site s k rest act shared some d)) else StepsQuietly (quiet (setting_of s k) (remainder_of s k))) is

    quiet_stmt : (row : Row) (x : Form) → FormAt (line_at s) (last_line s) k.line row x → ends x ≡ false → shares x ≡ false → next (setting_of s k) (remainder_of s k) ≡ StepsQuietly (quiet (setting_of s k) (remainder_of s k))
    quiet_stmt row form.Header a e is = absurd (false≢true (sym e))
    quiet_stmt row (form.Interface v0) a e is = absurd (false≢true (sym e))
    quiet_stmt row (form.Limit v0) a e is = absurd (false≢true (sym e))
    quiet_stmt row (form.Shared v0 v1) a e is = absurd (false≢true (sym e))
    quiet_stmt row (form.Exception v0) a e is = absurd (false≢true (sym e))
    quiet_stmt row (form.Status v0 v1) a e is = absurd (false≢true (sym e))
    quiet_stmt row (form.Mutex v0) a e is = absurd (false≢true (sym e))
    quiet_stmt row (form.MutexAttr v0) a e is = absurd (false≢true (sym e))
    quiet_stmt row (form.Cond v0) a e is = absurd (false≢true (sym e))
    quiet_stmt row (form.Attr v0) a e is = absurd (false≢true (sym e))
    quiet_stmt row (form.Key v0) a e is = absurd (false≢true (sym e))
    quiet_stmt row (form.Once v0) a e is = absurd (false≢true (sym e))
    quiet_stmt row (form.Pipe v0 v1) a e is = absurd (false≢true (sym e))
    quiet_stmt row (form.Routine v0 v1) a e is = absurd (false≢true (sym e))
    quiet_stmt row (form.Local v0) a e is = absurd (false≢true (sym e))
    quiet_stmt row (form.Set v0 v1) a e is = quiet_by _ _ _ a.does is
    quiet_stmt row (form.Say v0) a e is = quiet_by _ _ _ a.does is
    quiet_stmt row (form.If v0) a e is = quiet_by _ _ _ a.does is
    quiet_stmt row form.Else a e is = absurd (false≢true (sym e))
    quiet_stmt row (form.While v0) a e is = quiet_by _ _ _ a.does is
    quiet_stmt row form.Try a e is = quiet_by _ _ _ a.does is
    quiet_stmt row (form.Catch v0) a e is = absurd (false≢true (sym e))
    quiet_stmt row form.CatchAll a e is = absurd (false≢true (sym e))
    quiet_stmt row form.Finally a e is = absurd (false≢true (sym e))
    quiet_stmt row form.Endtry a e is = absurd (false≢true (sym e))
    quiet_stmt row (form.Raise v0) a e is = quiet_by _ _ _ a.does is
    quiet_stmt row form.Reraise a e is = quiet_by _ _ _ a.does is
    quiet_stmt row (form.Call v0 v1 v2) a e is = quiet_by _ _ _ a.does is
    quiet_stmt row (form.Return v0) a e is = quiet_by _ _ _ a.does is
    quiet_stmt row (form.Exit v0) a e is = quiet_by _ _ _ a.does is
    quiet_stmt row (form.Dce v0) a e is = quiet_by _ _ _ a.does is
    quiet_stmt row form.End a e is = absurd (false≢true (sym e))

    module _ (row : Row) (x : Form) (a : FormAt (line_at s) (last_line s) k.line row x) (p : IsPlace s k.line x) where
      at_line : line_of_next (remainder_of s k) ≡ Some k.line
      at_line = line_is s k some (first_here s k.line row x a p)

      pub next_quiet : ends x ≡ false → shares x ≡ false → IsNext s k stood.Quiet
      next_quiet e is = (quiet_stmt row x a e is, at_line, some)

      next_close : (f : Frame) (fs : List Frame) → k.frames.items ≡ f ∷ fs → ends x ≡ true →
          next (setting_of s k) (remainder_of s k) ≡ next_end (role_of s k.frames.calls f.kind) (items_of s f.back (below k.frames.calls f.kind) fs) (remainder_of s k) (quiet (setting_of s k) (remainder_of s k))
      next_close f fs items e =
          let r = remainder_of s k in
          let q = quiet (setting_of s k) r in
          let role = role_of s k.frames.calls f.kind in
          let outer = items_of s f.back (below k.frames.calls f.kind) fs in
          free_next
          ∙ ap (λ (is : List Frame). next_at (place_in (items_of s k.line k.frames.calls is)) r q) items
          ∙ ap (λ (l : Left). next_at (place_inside l.todo l.close role outer) r q) (closes_here s k.line row x a p e)

      once_or : (y : Kind) → ((scope : ℕ) (block routine : NameId) → y ≡ kind.Once scope block routine → ⊥) → (calls : List (List ℤ)) (outer : List Item) (r : Remainder) (m : Move) → next_end (role_of s calls y) outer r m ≡ StepsQuietly m
      once_or (kind.Call place count) non calls outer r m = refl
      once_or (kind.Try scope first) non calls outer r m = refl
      once_or (kind.Catch scope caught) non calls outer r m = refl
      once_or (kind.Finally scope pending) non calls outer r m = refl
      once_or (kind.Once scope block routine) non calls outer r m = absurd (non scope block routine refl)
      once_or (kind.Barrier scope key routine) non calls outer r m = refl

      pub next_once : ends x ≡ true → AtOnce k.frames.items true → IsNext s k stood.EndsOnce
      next_once e h =
          let f = h.0 in
          let r = remainder_of s k in
          (h.3, next_close f h.1 h.5 e ∙ ap (λ (y : Kind). next_end (role_of s k.frames.calls y) (items_of s f.back (below k.frames.calls f.kind) h.1) r (quiet (setting_of s k) r)) h.6, at_line)

      pub next_end_quiet : ends x ≡ true → AtOnce k.frames.items false → IsNext s k stood.Quiet
      next_end_quiet e h =
          let t = top k some in
          let r = remainder_of s k in (
            next_close t.0 t.1 t.2 e ∙ once_or t.0.kind (h t.0 t.1 t.2) k.frames.calls (items_of s t.0.back (below k.frames.calls t.0.kind) t.1) r (quiet (setting_of s k) r),
            at_line,
            some,
          )

-- ---- a thread with an unwinding, and without

pub under_some : (o : Option Unwinding) → is_some o ≡ true → (u : Unwinding) × (o ≡ Some u)
under_some None e = absurd (false≢true e)
under_some (Some u) e = (u, refl)

pub under_none : (o : Option Unwinding) → is_some o ≡ false → o ≡ None
under_none None e = refl
under_none (Some u) e = absurd (false≢true (sym e))

-- ---- statements without an expression write no shared variable

is_none : Option Expr → Type 0
is_none None = Unit {0}
is_none (Some e) = ⊥

some_not_none : {e : Expr} → Some e ≡ None → ⊥
unfolding is_none
some_not_none e = subst is_none (sym e) tt

no_write_at : (s : Script) (k : Context) (values : SharedValues) (some : k.frames.items ≢ []) → (line_at s k.line).left ≡ nothing k.line → write_at (setting_of s k) values (place_in (remainder_of s k).items) (remainder_of s k) ≡ None
no_write_at s k values some e =
    let t = top k some in
    let g = setting_of s k in
    let r = remainder_of s k in
    ap (λ (is : List Frame). write_at g values (place_in (items_of s k.line k.frames.calls is)) r) t.2
    ∙ ap (λ (l : Left). write_at g values (place_inside l.todo l.close (role_of s k.frames.calls t.0.kind) (items_of s t.0.back (below k.frames.calls t.0.kind) t.1)) r) e

pub no_write : (s : Script) (k : Context) (values : SharedValues) (row : Row) (f : Form) → k.frames.items ≢ [] → FormAt (line_at s) (last_line s) k.line row f → IsPlace s k.line f → expression_of f ≡ None →
    write_at (setting_of s k) values (place_in (remainder_of s k).items) (remainder_of s k) ≡ None
no_write s k values row f some a p e = by f a p e (ends f) refl
  where
    by : (f : Form) → FormAt (line_at s) (last_line s) k.line row f → IsPlace s k.line f → expression_of f ≡ None → (b : Bool) → ends f ≡ b → write_at (setting_of s k) values (place_in (remainder_of s k).items) (remainder_of s k) ≡ None
    by f a p e true is = no_write_at s k values some (closes_here s k.line row f a p is)
    by form.Header a p e false is = absurd (false≢true (sym is))
    by (form.Interface v0) a p e false is = absurd (false≢true (sym is))
    by (form.Limit v0) a p e false is = absurd (false≢true (sym is))
    by (form.Shared v0 v1) a p e false is = absurd (false≢true (sym is))
    by (form.Exception v0) a p e false is = absurd (false≢true (sym is))
    by (form.Status v0 v1) a p e false is = absurd (false≢true (sym is))
    by (form.Mutex v0) a p e false is = absurd (false≢true (sym is))
    by (form.MutexAttr v0) a p e false is = absurd (false≢true (sym is))
    by (form.Cond v0) a p e false is = absurd (false≢true (sym is))
    by (form.Attr v0) a p e false is = absurd (false≢true (sym is))
    by (form.Key v0) a p e false is = absurd (false≢true (sym is))
    by (form.Once v0) a p e false is = absurd (false≢true (sym is))
    by (form.Pipe v0 v1) a p e false is = absurd (false≢true (sym is))
    by (form.Routine v0 v1) a p e false is = absurd (false≢true (sym is))
    by (form.Local v0) a p e false is = absurd (false≢true (sym is))
    by (form.Set v0 v1) a p e false is = absurd (some_not_none e)
    by (form.Say v0) a p e false is = absurd (some_not_none e)
    by (form.If v0) a p e false is = absurd (some_not_none e)
    by form.Else a p e false is = absurd (false≢true (sym is))
    by (form.While v0) a p e false is = absurd (some_not_none e)
    by form.Try a p e false is = let t = site s k _ _ _ some a.does in write_is s k _ _ t values
    by (form.Catch v0) a p e false is = absurd (false≢true (sym is))
    by form.CatchAll a p e false is = absurd (false≢true (sym is))
    by form.Finally a p e false is = absurd (false≢true (sym is))
    by form.Endtry a p e false is = absurd (false≢true (sym is))
    by (form.Raise v0) a p e false is = let t = site s k _ _ _ some a.does in write_is s k _ _ t values
    by form.Reraise a p e false is = let t = site s k _ _ _ some a.does in write_is s k _ _ t values
    by (form.Call v0 v1 v2) a p e false is = absurd (some_not_none e)
    by (form.Return v0) a p e false is = absurd (some_not_none e)
    by (form.Exit v0) a p e false is = absurd (some_not_none e)
    by (form.Dce v0) a p e false is = let t = site s k _ _ _ some a.does in write_is s k _ _ t values
    by form.End a p e false is = absurd (false≢true (sym is))
