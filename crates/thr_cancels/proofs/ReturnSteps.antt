-- The lines of a return's own step are those of its call and its reply.
use Rattle.std.proofs.Common.{◌≡◌, ℤ, Bool, true, false, ◌&&◌, List, [], ◌∷◌, ◌++◌, Option, Some, None, refl, sym, ◌∙◌, ap, subst}
use Rattle.std.specs.Prelude.{if◌then◌else◌}
use Rattle.std.specs.List.{list_all}
use Rattle.std.specs.Cmp.{signed_Decides}
use Rattle.thr_values.specs.declared.exception.Exc.{Exc}
use Rattle.thr_values.specs.declared.exception.Exc.TheVariants.{Address, Status}
use Rattle.thr_values.specs.declared.history.What.{What}
use Rattle.thr_values.specs.declared.reply.Reply.{Reply}
use Rattle.thr_values.specs.declared.reply.Reply.TheVariants as reply
use Rattle.thr_syntax.specs.declared.dce.DceCall.{DceCall}
use Rattle.thr_syntax.specs.declared.dce.DceCall.TheVariants as dce
use Rattle.thr_syntax.specs.declared.tree.Interface.{Interface}
use Rattle.thr_syntax.specs.declared.tree.Script.{Script}
use Rattle.thr_remainder.specs.Acts.{Act, Asks}
use Rattle.thr_remainder.specs.Calls.{shape_of, arguments}
use Rattle.thr_remainder.specs.Declarations.{interface_of}
use Rattle.thr_remainder.specs.Expressions.{is_same}
use Rattle.thr_remainder.specs.Remainders.{Setting, Remainder, Move, Spot, Place, At, place_in, act_at}
use Rattle.thr_remainder.specs.Replies as replies
use Rattle.thr_remainder.specs.Replies.{is_eagain, raised_in, raised_if, replied_by, replied_at, replied}
use Rattle.thr_parts.proofs.EntryLaws.{itself}
use Rattle.thr_laws.specs.CancelLaw as laws
use Rattle.thr_laws.specs.CancelLaw.{is_exception, is_of_step}
use Rattle.thr_model.specs.Turns.{runs_routine, begun_by, begun_at}

-- The lines are of the step in which this call returns with this reply.
abbrev pub AreOfStep : Script → DceCall → List ℤ → Reply → List What → Type 0
AreOfStep s call ns y lines = list_all (is_of_step s (shape_of call).word (arguments call ns) y) lines ≡ true

timed_same : (call : DceCall) → laws.is_timed_wait (shape_of call).word ≡ replies.is_timed_wait call
unfolding shape_of
timed_same (dce.CondTimedwait c m e) = refl
timed_same _ = refl

raised_same : (i : Interface) (call : DceCall) (y : Reply) → laws.raised_by i (shape_of call).word y ≡ replies.raised_by i call y
raised_same i call y = ap (λ b. if b && is_eagain y then None else raised_in i y) (timed_same call)

same_itself : (x : Exc) → is_same x x ≡ true
same_itself (Address a) = itself a.0
same_itself (Status n) = (signed_Decides n n).1 refl

raised_step : (s : Script) (call : DceCall) (ns : List ℤ) (y : Reply) (o : Option Exc) (r : Remainder) → replies.raised_by (interface_of s) call y ≡ o → AreOfStep s call ns y (raised_if o r).lines
raised_step s call ns y None r e = refl
raised_step s call ns y (Some x) r e =
    ap (λ b. b && true) (ap (is_exception x) (raised_same (interface_of s) call y ∙ e) ∙ same_itself x)

by_step : (g : Setting) (act : Act) (h : Spot) (r : Remainder) (y : Reply) (call : DceCall) (ns : List ℤ) → act ≡ Asks call → AreOfStep g.script call ns y (replied_by g act h r y).lines
by_step g act h r y call ns e =
    subst (λ (a : Act). AreOfStep g.script call ns y (replied_by g a h r y).lines) (sym e) (raised_step g.script call ns y (replies.raised_by (interface_of g.script) call y) _ refl)

-- What a call does with the reply that it returns with.
pub replied_step : (g : Setting) (r : Remainder) (y : Reply) (h : Spot) (call : DceCall) (ns : List ℤ) → place_in r.items ≡ At h → act_at h ≡ Asks call → AreOfStep g.script call ns y (replied g y r).lines
unfolding replied
replied_step g r y h call ns e f =
    subst (λ (p : Place). AreOfStep g.script call ns y (replied_at g p r y).lines) (sym e) (by_step g (act_at h) h r y call ns f)

all_append : (p : What → Bool) (ws vs : List What) → list_all p ws ≡ true → list_all p vs ≡ true → list_all p (ws ++ vs) ≡ true
all_append p [] vs e f = f
all_append p (w ∷ ws) vs e f = head_all (p w) ws (λ g. all_append p ws vs g f) e
  where
    head_all : (b : Bool) (ws : List What) → (list_all p ws ≡ true → list_all p (ws ++ vs) ≡ true) → (b && list_all p ws) ≡ true → (b && list_all p (ws ++ vs)) ≡ true
    head_all true ws k x = k x
    head_all false ws k x = x

routine_step : (g : Setting) (call : DceCall) (ns : List ℤ) (m : Move) → AreOfStep g.script call ns reply.Done m.lines → AreOfStep g.script call ns reply.Done (runs_routine g call m).lines
unfolding shape_of
routine_step g (dce.Once block routine) ns m e = all_append _ m.lines _ e (ap (λ b. b && true) (itself block.0))
routine_step g _ ns m e = e

begun_step : (g : Setting) (act : Act) (call : DceCall) (ns : List ℤ) (m : Move) → act ≡ Asks call → AreOfStep g.script call ns reply.Done m.lines → AreOfStep g.script call ns reply.Done (begun_by g act m).lines
begun_step g act call ns m e f = subst (λ (a : Act). AreOfStep g.script call ns reply.Done (begun_by g a m).lines) (sym e) (routine_step g call ns m f)

-- What it does where it begins the routine of its once block.
pub begun_at_step : (g : Setting) (r : Remainder) (h : Spot) (call : DceCall) (ns : List ℤ) → place_in r.items ≡ At h → act_at h ≡ Asks call
    → AreOfStep g.script call ns reply.Done (begun_at g (place_in r.items) (replied g reply.Done r)).lines
begun_at_step g r h call ns e f =
    subst (λ (p : Place). AreOfStep g.script call ns reply.Done (begun_at g p (replied g reply.Done r)).lines) (sym e)
    (begun_step g (act_at h) call ns (replied g reply.Done r) f (replied_step g r reply.Done h call ns e f))
