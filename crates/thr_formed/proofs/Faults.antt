-- What is raised in place of a value is built in, and what a name stands for is an exception of the script.
use Rattle.std.proofs.Common.{◌≡◌, ℤ, Bool, true, false, List, [], ◌∷◌, Option, Some, None, Ok, Err, refl, sym, subst}
use Rattle.std.specs.Prelude.{if◌then◌else◌, nat_lt, unwrap_or, int_div, int_rem, ◌+ℤ◌, ◌-ℤ◌, ◌*ℤ◌}
use Rattle.std.specs.Option.{option_or}
use Rattle.thr_values.specs.Exceptions.{intovf_e, intdiv_e}
use Rattle.thr_values.specs.Replies.{error_exc_of}
use Rattle.thr_values.specs.declared.number.NameId.{NameId}
use Rattle.thr_values.specs.declared.exception.Exc.{Exc}
use Rattle.thr_values.specs.declared.exception.Exc.TheVariants.{Address, Status}
use Rattle.thr_values.specs.declared.reply.Reply.{Reply}
use Rattle.thr_values.specs.declared.reply.Reply.TheVariants as reply
use Rattle.thr_syntax.specs.declared.dce.DceCall.{DceCall}
use Rattle.thr_syntax.specs.declared.expr.Op.{Op}
use Rattle.thr_syntax.specs.declared.expr.Op.TheVariants as op
use Rattle.thr_syntax.specs.declared.expr.Expr.{Expr}
use Rattle.thr_syntax.specs.declared.tree.Interface.{Interface}
use Rattle.thr_syntax.specs.declared.tree.Interface.TheVariants as interface
use Rattle.thr_syntax.specs.declared.tree.Item.{Item}
use Rattle.thr_syntax.specs.declared.tree.Item.TheVariants as item
use Rattle.thr_syntax.specs.declared.tree.Script.{Script}
use Rattle.thr_syntax.specs.Folds.{each_expr}
use Rattle.thr_syntax.proofs.FoldLaws.{each_expr-Num, each_expr-Var, each_expr-Me, each_expr-Err, each_expr-Two, each_expr-Not, each_expr-GetStatus, each_expr-Matches}
use Rattle.thr_syntax.proofs.TreeInduction.{ExprCases, expr_induction}
use Rattle.thr_text.specs.declared.object.Object.TheVariants as object
use Rattle.thr_trees.specs.Kinds.{is_name_of}
use Rattle.thr_remainder.specs.Declarations.{is_same_name, exception_here, exception_in, exception_of, exception_value}
use Rattle.thr_remainder.specs.Expressions.{Value, SharedValues, is_true, fits, if_fits, applied, two_values, opposite, Sight, sight_of, value_of, value_step, value_in}
use Rattle.thr_remainder.specs.Remainders.{Setting, Remainder, has_room}
use Rattle.thr_remainder.specs.Calls.{expressions_of}
use Rattle.thr_remainder.specs.Replies.{Values, value_then, values_of, needs_two_frames, asked, raised_in, raised_by}
use Rattle.thr_parts.proofs.EachLaws.{IfThere}
use Rattle.thr_formed.proofs.Named.{ExcNamed}

module _ (s : Script) where
  -- ---- values

  -- A value, or an exception of the script in its place.
  abbrev pub ValueNamed : Value → Type 0
  ValueNamed (Ok n) = Unit {0}
  ValueNamed (Err x) = ExcNamed s x

  fitting : (b : Bool) (n : ℤ) → (let v : Value = if b then Ok n else Err intovf_e in ValueNamed v)
  fitting true n = tt
  fitting false n = refl

  dividing : (b : Bool) (q n : ℤ) → (let v : Value = if b then if_fits q n else Err intdiv_e in ValueNamed v)
  dividing true q n = fitting (fits q) n
  dividing false q n = refl

  applied_named : (o : Op) (a b : ℤ) → ValueNamed (applied o a b)
  applied_named op.Add a b = fitting (fits (a +ℤ b)) (a +ℤ b)
  applied_named op.Sub a b = fitting (fits (a -ℤ b)) (a -ℤ b)
  applied_named op.Mul a b = fitting (fits (a *ℤ b)) (a *ℤ b)
  applied_named op.Div a b = dividing (is_true b) (int_div a b) (int_div a b)
  applied_named op.Rem a b = dividing (is_true b) (int_div a b) (int_rem a b)
  applied_named op.Equal a b = tt
  applied_named op.Differs a b = tt
  applied_named op.Less a b = tt
  applied_named op.AtMost a b = tt
  applied_named op.Greater a b = tt
  applied_named op.AtLeast a b = tt
  applied_named op.And a b = tt
  applied_named op.Or a b = tt

  two_named : (o : Op) (x y : Value) → ValueNamed x → ValueNamed y → ValueNamed (two_values o x y)
  two_named o (Err x) y h k = h
  two_named o (Ok m) (Err y) h k = k
  two_named o (Ok m) (Ok n) h k = applied_named o m n

  opposite_named : (x : Value) → ValueNamed x → ValueNamed (opposite x)
  opposite_named (Ok n) h = tt
  opposite_named (Err x) h = h

  module _ (sight : Sight) where
    abbrev Valued : Expr → Type 0
    Valued e = ValueNamed (each_expr (value_step sight) e)

    cases : ExprCases Valued
    cases = record {
      num = λ n. subst ValueNamed (sym (each_expr-Num (value_step sight) n)) tt;
      var = λ v. subst ValueNamed (sym (each_expr-Var (value_step sight) v)) tt;
      me = subst ValueNamed (sym (each_expr-Me (value_step sight))) tt;
      err = subst ValueNamed (sym (each_expr-Err (value_step sight))) tt;
      two = λ o a b f g. subst ValueNamed (sym (each_expr-Two (value_step sight) o a b)) (two_named o (each_expr (value_step sight) a) (each_expr (value_step sight) b) f g);
      negation = λ a f. subst ValueNamed (sym (each_expr-Not (value_step sight) a)) (opposite_named (each_expr (value_step sight) a) f);
      get_status = λ x. subst ValueNamed (sym (each_expr-GetStatus (value_step sight) x)) tt;
      matches = λ x y. subst ValueNamed (sym (each_expr-Matches (value_step sight) x y)) tt;
    }

    expression_named : (e : Expr) → ValueNamed (value_in sight e)
    unfolding value_in
    expression_named e = expr_induction Valued cases e

  pub value_named : (g : Setting) (shared : SharedValues) (r : Remainder) (e : Expr) → ValueNamed (value_of g shared r e)
  value_named g shared r e = expression_named (sight_of g shared r) e

  -- ---- the values of a call

  -- Values, or an exception of the script in their place.
  abbrev pub ValuesNamed : Values → Type 0
  ValuesNamed (Ok ns) = Unit {0}
  ValuesNamed (Err x) = ExcNamed s x

  then_named : (v : Value) (vs : Values) → ValueNamed v → ValuesNamed vs → ValuesNamed (value_then v vs)
  then_named (Err x) vs h i = h
  then_named (Ok n) (Err x) h i = i
  then_named (Ok n) (Ok ns) h i = tt

  values_named : (g : Setting) (shared : SharedValues) (r : Remainder) (es : List Expr) → ValuesNamed (values_of g shared r es)
  values_named g shared r [] = tt
  values_named g shared r (e ∷ es) = then_named (value_of g shared r e) (values_of g shared r es) (value_named g shared r e) (values_named g shared r es)

  frames_named : (a b : Bool) (vs : Values) (x : Exc) → ValuesNamed vs → ExcNamed s x → ValuesNamed (if a then (if b then vs else Err x) else vs)
  frames_named true true vs x h i = h
  frames_named true false vs x h i = i
  frames_named false b vs x h i = h

  pub asked_named : (g : Setting) (shared : SharedValues) (call : DceCall) (r : Remainder) → ValuesNamed (asked g shared call r)
  unfolding asked
  asked_named g shared call r = frames_named (needs_two_frames call) (has_room g r 2) (values_of g shared r (expressions_of call)) _ (values_named g shared r (expressions_of call)) refl

  -- ---- replies

  error_named : (y : Reply) → IfThere (ExcNamed s) (error_exc_of y)
  error_named reply.Eperm = refl
  error_named reply.Esrch = refl
  error_named reply.Eagain = refl
  error_named reply.Ebusy = refl
  error_named reply.Einval = refl
  error_named reply.Epipe = refl
  error_named reply.Edeadlk = refl
  error_named reply.Done = tt
  error_named (reply.Value n) = tt
  error_named reply.Eof = tt
  error_named (reply.Effect e) = tt
  error_named reply.Blocks = tt

  raised_in_named : (i : Interface) (y : Reply) → IfThere (ExcNamed s) (raised_in i y)
  raised_in_named interface.Exc y = error_named y
  raised_in_named interface.Status y = tt

  unless_timed : (b : Bool) (o : Option Exc) → IfThere (ExcNamed s) o → IfThere (ExcNamed s) (if b then None else o)
  unless_timed true o h = tt
  unless_timed false o h = h

  pub raised_by_named : (i : Interface) (call : DceCall) (y : Reply) → IfThere (ExcNamed s) (raised_by i call y)
  raised_by_named i call y = unless_timed _ (raised_in i y) (raised_in_named i y)

  -- ---- what a name stands for

  either_there : (b : Bool) (x : Exc) → ExcNamed s x → IfThere (ExcNamed s) (if b then Some x else None)
  either_there true x h = h
  either_there false x h = tt

  module _ (x : NameId) (k : is_name_of s object.Exception x ≡ true) where
    here_named : (i : Item) → IfThere (ExcNamed s) (exception_here i x)
    here_named (item.Exception name) = either_there (is_same_name name x) (Address x) k
    here_named (item.Status name n) = either_there (is_same_name name x) (Status n) tt
    here_named _ = tt

    or_there : (o p : Option Exc) → IfThere (ExcNamed s) o → IfThere (ExcNamed s) p → IfThere (ExcNamed s) (option_or o p)
    or_there None p h i = i
    or_there (Some y) p h i = h

    among_named : (items : List Item) → IfThere (ExcNamed s) (exception_in items x)
    among_named [] = tt
    among_named (i ∷ items) = or_there (exception_here i x) (exception_in items x) (here_named i) (among_named items)

    found_named : (b : Bool) (o : Option Exc) → IfThere (ExcNamed s) o → ExcNamed s (unwrap_or (if b then Some (Address x) else o) (Address x))
    found_named true o h = k
    found_named false None h = k
    found_named false (Some y) h = h

    pub exception_named : ExcNamed s (exception_value s x)
    unfolding exception_of
    exception_named = found_named (nat_lt x.0 10) (exception_in s.items x) (among_named s.items)
