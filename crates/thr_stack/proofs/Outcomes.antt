-- Statements with an expression, once it is valued.
use Rattle.std.proofs.Common.{◌≡◌, ◌≢◌, ℕ, ◌<◌, ℤ, List, [], ◌++◌, length, Bool, true, false, if◌then◌else◌, Option, Some, None, Ok, Err, IfSome, refl, ap, sym, ◌∙◌, subst}
use Rattle.thr_values.specs.declared.exception.Exc.{Exc}
use Rattle.thr_values.specs.declared.history.What.{What}
use Rattle.thr_values.specs.Exceptions.{stackovf_e}
use Rattle.thr_syntax.specs.declared.expr.Expr.{Expr}
use Rattle.thr_syntax.specs.declared.expr.Var.TheVariants as variable
use Rattle.thr_syntax.specs.declared.form.Form.{Form}
use Rattle.thr_syntax.specs.declared.form.Form.TheVariants as form
use Rattle.thr_syntax.specs.declared.tree.Script.{Script}
use Rattle.thr_remainder.specs.Places.{Left}
use Rattle.thr_remainder.specs.Acts.{Act, Calls, Exits}
use Rattle.thr_remainder.specs.Remainders.{Setting, Remainder, Move, Spot, has_room, place_in}
use Rattle.thr_remainder.specs.Expressions.{Value, SharedValues, value_of}
use Rattle.thr_remainder.specs.Starts.{raised, exited}
use Rattle.thr_remainder.specs.Steps.{made, or_raised, valued, told, write_at, write_by, step_at}
use Rattle.thr_remainder.specs.Steps as steps
use Rattle.thr_lines.specs.declared.row.Row.{Row}
use Rattle.thr_lines.specs.Layout.{line_at, last_line}
use Rattle.thr_lines.specs.AtLines.{ActsAt, FormAt}
use Rattle.thr_stack.specs.declared.context.Context.{Context}
use Rattle.thr_stack.specs.Forms.{expression_of, needs_frame, told_by, write_from}
use Rattle.thr_stack.specs.Standing.{remainder_of, setting_of, Stands, Makes, Steps}
use Rattle.thr_stack.specs.Statements.{outcome, valued_at, Carries, GoesOn, IsCarried}
use Rattle.thr_stack.proofs.Sites.{Site, site, spot, step_is, write_is, valued_is, after_is, steps_by, has_room_is, no_room_is}

-- What is known of a statement with this expression, on a line of this form.
pub record Valued (s : Script) (l : ℕ) (f : Form) (e : Expr) : Type 0 where
  pub rest : Left
  pub act : Act
  pub shared : Bool
  pub does : ActsAt (line_at s) l rest act shared
  pub made_is : (g : Setting) (tells : Bool) (values : SharedValues) (h : Spot) (r : Remainder) → made g tells values act h r ≡ or_raised (outcome g values r (needs_frame f) e) (valued g tells act h r) r
  pub carried : IsCarried f → (g : Setting) (tells : Bool) (h : Spot) (r : Remainder) (n : ℤ) → valued g tells act h r n ≡ record { to = steps.after g act n h r; lines = if tells then told act h.line n else [] }
  pub told_is : (line : ℕ) (n : ℤ) → told act line n ≡ told_by f line n
  pub written : (g : Setting) (values : SharedValues) (r : Remainder) → write_by g values act r ≡ write_from f (value_of g values r e)

-- Whether a frame fits is asked first.
room_first : (b : Bool) (v : Value) (step : ℤ → Move) (r : Remainder) → (if b then or_raised v step r else raised stackovf_e r) ≡ or_raised (if b then v else Err stackovf_e) step r
room_first true v step r = refl
room_first false v step r = refl

-- What is known by the form of the line.
abbrev Known : Script → ℕ → Form → Type 0
Known s l f = IfSome (expression_of f) (λ e. Valued s l f e)

by_form : (s : Script) (l : ℕ) (row : Row) (f : Form) → FormAt (line_at s) (last_line s) l row f → Known s l f
by_form s l row form.Header a = tt
by_form s l row (form.Interface v0) a = tt
by_form s l row (form.Limit v0) a = tt
by_form s l row (form.Shared v0 v1) a = tt
by_form s l row (form.Exception v0) a = tt
by_form s l row (form.Status v0 v1) a = tt
by_form s l row (form.Mutex v0) a = tt
by_form s l row (form.MutexAttr v0) a = tt
by_form s l row (form.Cond v0) a = tt
by_form s l row (form.Attr v0) a = tt
by_form s l row (form.Key v0) a = tt
by_form s l row (form.Once v0) a = tt
by_form s l row (form.Pipe v0 v1) a = tt
by_form s l row (form.Routine v0 v1) a = tt
by_form s l row (form.Local v0) a = tt
by_form s l row (form.Set v0 v1) a = record {
  rest = _;
  act = _;
  shared = _;
  does = a.does;
  made_is = λ g tells values h r. refl;
  carried = λ c g tells h r n. refl;
  told_is = λ line n. refl;
  written = λ g values r. refl;
}
by_form s l row (form.Say v0) a = record {
  rest = _;
  act = _;
  shared = _;
  does = a.does;
  made_is = λ g tells values h r. refl;
  carried = λ c g tells h r n. refl;
  told_is = λ line n. refl;
  written = λ g values r. refl;
}
by_form s l row (form.If v0) a = record {
  rest = _;
  act = _;
  shared = _;
  does = a.does;
  made_is = λ g tells values h r. refl;
  carried = λ c g tells h r n. refl;
  told_is = λ line n. refl;
  written = λ g values r. refl;
}
by_form s l row form.Else a = tt
by_form s l row (form.While v0) a = record {
  rest = _;
  act = _;
  shared = _;
  does = a.does;
  made_is = λ g tells values h r. refl;
  carried = λ c g tells h r n. refl;
  told_is = λ line n. refl;
  written = λ g values r. refl;
}
by_form s l row form.Try a = tt
by_form s l row (form.Catch v0) a = tt
by_form s l row form.CatchAll a = tt
by_form s l row form.Finally a = tt
by_form s l row form.Endtry a = tt
by_form s l row (form.Raise v0) a = tt
by_form s l row form.Reraise a = tt
by_form s l row (form.Call v0 v1 v2) a = record {
  rest = _;
  act = _;
  shared = _;
  does = a.does;
  made_is = λ g tells values h r. room_first (has_room g r 1) (value_of g values r v1) (valued g tells (Calls v0 v1 v2) h r) r;
  carried = λ c g tells h r n. refl;
  told_is = λ line n. refl;
  written = λ g values r. refl;
}
by_form s l row (form.Return v0) a = record {
  rest = _;
  act = _;
  shared = _;
  does = a.does;
  made_is = λ g tells values h r. refl;
  carried = λ c g tells h r n. refl;
  told_is = λ line n. refl;
  written = λ g values r. refl;
}
by_form s l row (form.Exit v0) a = record {
  rest = _;
  act = _;
  shared = _;
  does = a.does;
  made_is = λ g tells values h r. refl;
  carried = λ c. absurd c;
  told_is = λ line n. refl;
  written = λ g values r. refl;
}
by_form s l row (form.Dce v0) a = tt
by_form s l row form.End a = tt

pub valued_by : (s : Script) (l : ℕ) (row : Row) (f : Form) (e : Expr) → FormAt (line_at s) (last_line s) l row f → expression_of f ≡ Some e → Valued s l f e
valued_by s l row f e a is = subst (λ (o : Option Expr). IfSome o (λ e. Valued s l f e)) is (by_form s l row f a)

pub any_expression : (f : Form) → expression_of f ≢ None → (e : Expr) × (expression_of f ≡ Some e)
any_expression f some = by (expression_of f) refl
  where
    by : (o : Option Expr) → expression_of f ≡ o → (e : Expr) × (expression_of f ≡ Some e)
    by None is = absurd (some is)
    by (Some e) is = (e, is)

-- A statement with an expression is carried out or is an exit.
pub is_carried : (f : Form) → expression_of f ≢ None → ((e : Expr) → f ≡ form.Exit e → ⊥) → IsCarried f
is_carried form.Header some non = absurd (some refl)
is_carried (form.Interface v0) some non = absurd (some refl)
is_carried (form.Limit v0) some non = absurd (some refl)
is_carried (form.Shared v0 v1) some non = absurd (some refl)
is_carried (form.Exception v0) some non = absurd (some refl)
is_carried (form.Status v0 v1) some non = absurd (some refl)
is_carried (form.Mutex v0) some non = absurd (some refl)
is_carried (form.MutexAttr v0) some non = absurd (some refl)
is_carried (form.Cond v0) some non = absurd (some refl)
is_carried (form.Attr v0) some non = absurd (some refl)
is_carried (form.Key v0) some non = absurd (some refl)
is_carried (form.Once v0) some non = absurd (some refl)
is_carried (form.Pipe v0 v1) some non = absurd (some refl)
is_carried (form.Routine v0 v1) some non = absurd (some refl)
is_carried (form.Local v0) some non = absurd (some refl)
is_carried (form.Set v0 v1) some non = tt
is_carried (form.Say v0) some non = tt
is_carried (form.If v0) some non = tt
is_carried form.Else some non = absurd (some refl)
is_carried (form.While v0) some non = tt
is_carried form.Try some non = absurd (some refl)
is_carried (form.Catch v0) some non = absurd (some refl)
is_carried form.CatchAll some non = absurd (some refl)
is_carried form.Finally some non = absurd (some refl)
is_carried form.Endtry some non = absurd (some refl)
is_carried (form.Raise v0) some non = absurd (some refl)
is_carried form.Reraise some non = absurd (some refl)
is_carried (form.Call v0 v1 v2) some non = tt
is_carried (form.Return v0) some non = tt
is_carried (form.Exit v0) some non = absurd (non v0 refl)
is_carried (form.Dce v0) some non = absurd (some refl)
is_carried form.End some non = absurd (some refl)

-- ---- what was carried out

pub carries : (s : Script) (k new : Context) (before after : List What) (row : Row) (f : Form) (tells : Bool) (n : ℤ) → Stands s k → FormAt (line_at s) (last_line s) k.line row f → expression_of f ≢ None → IsCarried f →
    GoesOn s n k new → after ≡ before ++ (if tells then told_by f k.line n else []) → Carries s tells n k new before after
carries s k new before after row f tells n h a some c goes w =
    let x = any_expression f some in
    let v = valued_by s k.line row f x.0 a x.1 in
    let t = site s k v.rest v.act v.shared h.some v.does in
    let g = setting_of s k in
    let r = remainder_of s k in
    let is : valued_at g tells (place_in r.items) r n ≡ record { to = steps.after g v.act n (spot s k v.rest v.act t) r; lines = if tells then told v.act k.line n else [] } =
    valued_is s k v.rest v.act t tells n ∙ v.carried c g tells (spot s k v.rest v.act t) r n in
    record {
      to = goes.to ∙ after_is s k v.rest v.act t n ∙ sym (ap (λ (m : Move). m.to) is);
      lines = w ∙ ap (λ (ls : List What). before ++ (if tells then ls else [])) (sym (v.told_is k.line n)) ∙ sym (ap (λ (m : Move). before ++ m.lines) is);
      setting = goes.setting;
      good = goes.good;
    }

pub carries_exit : (s : Script) (k new : Context) (before after : List What) (row : Row) (e : Expr) (tells : Bool) (n : ℤ) → Stands s k → FormAt (line_at s) (last_line s) k.line row (form.Exit e) →
    Makes s (exited n (remainder_of s k)) k new before after → Carries s tells n k new before after
carries_exit s k new before after row e tells n h a m =
    let t = site s k _ (Exits e) _ h.some a.does in subst (λ (x : Move). Makes s x k new before after) (sym (valued_is s k _ (Exits e) t tells n)) m

-- ---- the whole step

-- A statement that needs a frame writes no shared variable.
same_write : (f : Form) (g : Setting) (values : SharedValues) (r : Remainder) (e : Expr) → write_from f (value_of g values r e) ≡ write_from f (outcome g values r (needs_frame f) e)
same_write form.Header g values r e = refl
same_write (form.Interface v0) g values r e = refl
same_write (form.Limit v0) g values r e = refl
same_write (form.Shared v0 v1) g values r e = refl
same_write (form.Exception v0) g values r e = refl
same_write (form.Status v0 v1) g values r e = refl
same_write (form.Mutex v0) g values r e = refl
same_write (form.MutexAttr v0) g values r e = refl
same_write (form.Cond v0) g values r e = refl
same_write (form.Attr v0) g values r e = refl
same_write (form.Key v0) g values r e = refl
same_write (form.Once v0) g values r e = refl
same_write (form.Pipe v0 v1) g values r e = refl
same_write (form.Routine v0 v1) g values r e = refl
same_write (form.Local v0) g values r e = refl
same_write (form.Set v0 v1) g values r e = refl
same_write (form.Say v0) g values r e = refl
same_write (form.If v0) g values r e = refl
same_write form.Else g values r e = refl
same_write (form.While v0) g values r e = refl
same_write form.Try g values r e = refl
same_write (form.Catch v0) g values r e = refl
same_write form.CatchAll g values r e = refl
same_write form.Finally g values r e = refl
same_write form.Endtry g values r e = refl
same_write (form.Raise v0) g values r e = refl
same_write form.Reraise g values r e = refl
same_write (form.Call v0 v1 v2) g values r e = refl
same_write (form.Return v0) g values r e = refl
same_write (form.Exit v0) g values r e = refl
same_write (form.Dce v0) g values r e = refl
same_write form.End g values r e = refl

module _ (s : Script) (k new : Context) (before after : List What) (row : Row) (f : Form) (e : Expr) (tells : Bool) (values : SharedValues) (h : Stands s k) (a : FormAt (line_at s) (last_line s) k.line row f) (some : expression_of f ≡ Some e) where
  known : Valued s k.line f e
  known = valued_by s k.line row f e a some

  stands_at : Site s k known.rest known.act
  stands_at = site s k known.rest known.act known.shared h.some known.does

  by_outcome : (v : Value) → outcome (setting_of s k) values (remainder_of s k) (needs_frame f) e ≡ v →
      step_at (setting_of s k) tells values (place_in (remainder_of s k).items) (remainder_of s k) ≡ or_raised v (valued_at (setting_of s k) tells (place_in (remainder_of s k).items) (remainder_of s k)) (remainder_of s k)
  by_outcome v is =
      let g = setting_of s k in
      let r = remainder_of s k in
      let t = stands_at in
      step_is s k known.rest known.act t tells values ∙ known.made_is g tells values (spot s k known.rest known.act t) r
      ∙ ap (λ (o : Value). or_raised o (valued g tells known.act (spot s k known.rest known.act t) r) r) is
      ∙ ap (λ (step : ℤ → Move). or_raised v step r) (λ i n. sym (valued_is s k known.rest known.act t tells n) i)

  pub valued_raises : (x : Exc) → outcome (setting_of s k) values (remainder_of s k) (needs_frame f) e ≡ Err x → Makes s (raised x (remainder_of s k)) k new before after → Steps s tells values k new before after
  valued_raises x is m = steps_by s k new before after tells values _ (by_outcome (Err x) is) m

  pub valued_goes : (n : ℤ) → outcome (setting_of s k) values (remainder_of s k) (needs_frame f) e ≡ Ok n → Carries s tells n k new before after → Steps s tells values k new before after
  valued_goes n is m = steps_by s k new before after tells values _ (by_outcome (Ok n) is) m

  pub valued_writes : (v : Value) → outcome (setting_of s k) values (remainder_of s k) (needs_frame f) e ≡ v → write_at (setting_of s k) values (place_in (remainder_of s k).items) (remainder_of s k) ≡ write_from f v
  valued_writes v is =
      let g = setting_of s k in
      let r = remainder_of s k in
      write_is s k known.rest known.act stands_at values ∙ known.written g values r ∙ same_write f g values r e ∙ ap (write_from f) is

-- ---- whether a frame fits

module _ (s : Script) (k : Context) (values : SharedValues) (needs : Bool) (e : Expr) where
  pub outcome_full : needs ≡ true → length k.frames.items ≡ k.frames.size → (let v : Value = Err stackovf_e in v) ≡ outcome (setting_of s k) values (remainder_of s k) needs e
  outcome_full is full =
      let g = setting_of s k in
      let r = remainder_of s k in
      sym (ap (λ (b : Bool). outcome g values r b e) is ∙ ap (λ (b : Bool). if b then value_of g values r e else Err stackovf_e) (no_room_is s k full))

  pub outcome_room : needs ≡ true → length k.frames.items < k.frames.size → value_of (setting_of s k) values (remainder_of s k) e ≡ outcome (setting_of s k) values (remainder_of s k) needs e
  outcome_room is room =
      let g = setting_of s k in
      let r = remainder_of s k in
      sym (ap (λ (b : Bool). outcome g values r b e) is ∙ ap (λ (b : Bool). if b then value_of g values r e else Err stackovf_e) (has_room_is s k room))

  pub outcome_plain : needs ≡ false → value_of (setting_of s k) values (remainder_of s k) e ≡ outcome (setting_of s k) values (remainder_of s k) needs e
  outcome_plain is = sym (ap (λ (b : Bool). outcome (setting_of s k) values (remainder_of s k) b e) is)

-- A fault writes nothing.
pub fault_writes : (f : Form) (x : Exc) → write_from f (Err x) ≡ None
fault_writes form.Header x = refl
fault_writes (form.Interface v0) x = refl
fault_writes (form.Limit v0) x = refl
fault_writes (form.Shared v0 v1) x = refl
fault_writes (form.Exception v0) x = refl
fault_writes (form.Status v0 v1) x = refl
fault_writes (form.Mutex v0) x = refl
fault_writes (form.MutexAttr v0) x = refl
fault_writes (form.Cond v0) x = refl
fault_writes (form.Attr v0) x = refl
fault_writes (form.Key v0) x = refl
fault_writes (form.Once v0) x = refl
fault_writes (form.Pipe v0 v1) x = refl
fault_writes (form.Routine v0 v1) x = refl
fault_writes (form.Local v0) x = refl
fault_writes (form.Set (variable.Local p) e) x = refl
fault_writes (form.Set (variable.Shared name) e) x = refl
fault_writes (form.Say v0) x = refl
fault_writes (form.If v0) x = refl
fault_writes form.Else x = refl
fault_writes (form.While v0) x = refl
fault_writes form.Try x = refl
fault_writes (form.Catch v0) x = refl
fault_writes form.CatchAll x = refl
fault_writes form.Finally x = refl
fault_writes form.Endtry x = refl
fault_writes (form.Raise v0) x = refl
fault_writes form.Reraise x = refl
fault_writes (form.Call v0 v1 v2) x = refl
fault_writes (form.Return v0) x = refl
fault_writes (form.Exit v0) x = refl
fault_writes (form.Dce v0) x = refl
fault_writes form.End x = refl
