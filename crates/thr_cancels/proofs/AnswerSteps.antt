-- What a thread does as its call returns is read as a step of the line that the return answers.
use Rattle.std.proofs.Common.{◌≡◌, ℕ, ◌==◌, ℤ, Bool, true, false, ◌&&◌, List, [], ◌∷◌, ◌++◌, Option, Some, None, refl, sym, ◌∙◌, ap, subst}
use Rattle.std.proofs.lemmas.Bool.{eqb-true, false≢true}
use Rattle.std.specs.Prelude.{if◌then◌else◌, nat_eq, unwrap_or}
use Rattle.std.specs.Cmp.Lexicographic.{pointwise}
use Rattle.std.specs.List.{list_all}
use Rattle.thr_values.specs.declared.exception.Exc.{Exc}
use Rattle.thr_values.specs.declared.call.Arg.{Arg}
use Rattle.thr_values.specs.declared.call.Arg.TheVariants as arg
use Rattle.thr_values.specs.declared.call.CallWord.{CallWord}
use Rattle.thr_values.specs.declared.call.CallWord.TheVariants as word
use Rattle.thr_values.specs.declared.history.What.{What}
use Rattle.thr_values.specs.declared.history.What.TheVariants as what
use Rattle.thr_values.specs.declared.reply.Reply.{Reply}
use Rattle.thr_values.specs.declared.reply.Reply.TheVariants as reply
use Rattle.thr_values.specs.Words.{call_word}
use Rattle.thr_syntax.specs.declared.dce.DceCall.{DceCall}
use Rattle.thr_syntax.specs.declared.dce.DceCall.TheVariants as dce
use Rattle.thr_syntax.specs.declared.tree.Interface.{Interface}
use Rattle.thr_syntax.specs.declared.tree.Script.{Script}
use Rattle.thr_syntax.specs.Lines.{lines_of}
use Rattle.thr_remainder.specs.Acts.{Act, Asks}
use Rattle.thr_values.specs.declared.number.NameId.{NameId}
use Rattle.thr_values.specs.Replies.{errno_of}
use Rattle.thr_syntax.specs.declared.tree.Interface.TheVariants as interface
use Rattle.thr_remainder.specs.Calls.{Name, stores, shape_of, arguments}
use Rattle.thr_remainder.specs.Declarations.{interface_of}
use Rattle.thr_remainder.specs.Remainders.{Setting, Remainder, Move, Spot, Place, At, place_in, passed, act_at}
use Rattle.thr_remainder.specs.Starts.{line_in, line_of_next, begins_once}
use Rattle.thr_remainder.specs.Replies.{stored_in, is_eagain, raised_in, raised_if, replied_by, replied_at, replied}
use Rattle.thr_remainder.specs.Replies as replies
use Rattle.thr_laws.specs.CallsOnce.{is_same_word, are_arguments, is_of_shape, is_of_form, is_of_line}
use Rattle.thr_laws.specs.CancelLaw as laws
use Rattle.thr_laws.specs.CancelLaw.{is_exception, is_once_of, is_done, is_of_step, is_of_answer}
use Rattle.thr_laws.specs.Lines.{is_some_line}
use Rattle.thr_laws.proofs.ReadingLaws.{both, and_both}
use Rattle.thr_model.specs.Turns.{runs_routine, begun_by, begun_at}
use Rattle.thr_answers.specs.Standing.{StandsIn}
use Rattle.thr_answers.proofs.CallLines.{stands_as}
use Rattle.thr_answers.proofs.StepsStand.{IsSpot, IsPlace, place_stands}
use Rattle.thr_cancels.proofs.ReturnSteps.{replied_step, begun_at_step}

-- ---- the words of calls

same_lists : (xs ys : List ℕ) → pointwise nat_eq xs ys ≡ true → xs ≡ ys
same_lists [] [] e = refl
same_lists [] (y ∷ ys) e = absurd (false≢true e)
same_lists (x ∷ xs) [] e = absurd (false≢true e)
same_lists (x ∷ xs) (y ∷ ys) e =
    let p : (nat_eq x y ≡ true) × (pointwise nat_eq xs ys ≡ true) = both (nat_eq x y) (pointwise nat_eq xs ys) e in
    ap (λ z. z ∷ xs) (eqb-true x y p.0) ∙ ap (λ zs. y ∷ zs) (same_lists xs ys p.1)

timed_by_word : (a : CallWord) → laws.is_timed_wait a ≡ pointwise nat_eq (call_word a) (call_word word.CondTimedwait)
unfolding call_word
timed_by_word word.CondTimedwait = refl
timed_by_word _ = refl

-- Both or neither are the timed wait.
same_timed : (a b : CallWord) → is_same_word a b ≡ true → laws.is_timed_wait a ≡ laws.is_timed_wait b
same_timed a b e =
    timed_by_word a ∙ ap (λ l. pointwise nat_eq l (call_word word.CondTimedwait)) (same_lists (call_word a) (call_word b) e) ∙ sym (timed_by_word b)

-- ---- once blocks

same_block : (block other : ℕ) (n : ℕ) → (block == other) ≡ true → (block == n) ≡ true → (other == n) ≡ true
same_block block other n e f = subst (λ m. (m == n) ≡ true) (eqb-true block other e) f

once_word : (b : CallWord) → is_same_word word.Once b ≡ true → b ≡ word.Once
unfolding call_word
once_word word.Once e = refl
once_word _ e = absurd (false≢true e)

once_with : (block other : NameId) (w : CallWord) (args : List Arg) (routine : NameId) → (block.0 == other.0) ≡ true → is_same_word word.Once w ≡ true → are_arguments (Name block ∷ Name routine ∷ []) args ≡ true → is_once_of other w args ≡ true
once_with block other w (arg.Name name ∷ args) routine e f h =
    subst (λ x. is_once_of other x (arg.Name name ∷ args) ≡ true) (sym (once_word w f))
    (same_block block.0 name.0 other.0 (both (block.0 == name.0) (are_arguments (Name routine ∷ []) args) h).0 e)
once_with block other w [] routine e f h = absurd (false≢true h)
once_with block other w (_ ∷ args) routine e f h = absurd (false≢true h)

once_args : (call : DceCall) (ns : List ℤ) (other : NameId) (w : CallWord) (args : List Arg) → is_once_of other (shape_of call).word (arguments call ns) ≡ true → is_same_word (shape_of call).word w ≡ true → are_arguments (shape_of call).parts args ≡ true
    → is_once_of other w args ≡ true
unfolding shape_of
once_args (dce.Once block routine) ns other w args e f h = once_with block other w args routine e f h
once_args _ ns other w args e f h = absurd (false≢true e)

-- ---- steps of the answered line

step_answers : (s : Script) (call : DceCall) (ns : List ℤ) (y : Reply) (last w : What) → is_of_shape (shape_of call) last ≡ true → is_of_step s (shape_of call).word (arguments call ns) y w ≡ true → is_of_answer s y (Some last) w ≡ true
step_answers s call ns y (what.Call c args b) (what.Raise n x) h e =
    ap (λ b. is_exception x (if b && is_eagain y then None else raised_in (interface_of s) y)) (sym (same_timed (shape_of call).word c (both (is_same_word (shape_of call).word c) (are_arguments (shape_of call).parts args) h).0)) ∙ e
step_answers s call ns y (what.Call c args b) (what.Once scope block) h e =
    let p : (is_done y ≡ true) × (is_once_of block (shape_of call).word (arguments call ns) ≡ true) = both (is_done y) (is_once_of block (shape_of call).word (arguments call ns)) e in
    let q : (is_same_word (shape_of call).word c ≡ true) × (are_arguments (shape_of call).parts args ≡ true) = both (is_same_word (shape_of call).word c) (are_arguments (shape_of call).parts args) h in
    and_both (is_done y) (is_once_of block c args) p.0 (once_args call ns block c args p.1 q.0 q.1)
step_answers s call ns y (what.Call c args b) _ h e = absurd (false≢true e)
step_answers s call ns y _ w h e = absurd (false≢true h)

steps_answer : (s : Script) (call : DceCall) (ns : List ℤ) (y : Reply) (last : What) (ws : List What) → is_of_shape (shape_of call) last ≡ true → list_all (is_of_step s (shape_of call).word (arguments call ns) y) ws ≡ true
    → list_all (is_of_answer s y (Some last)) ws ≡ true
steps_answer s call ns y last [] h e = refl
steps_answer s call ns y last (w ∷ ws) h e =
    let p : (is_of_step s (shape_of call).word (arguments call ns) y w ≡ true) × (list_all (is_of_step s (shape_of call).word (arguments call ns) y) ws ≡ true) =
    both (is_of_step s (shape_of call).word (arguments call ns) y w) (list_all (is_of_step s (shape_of call).word (arguments call ns) y) ws) e in
    and_both (is_of_answer s y (Some last) w) (list_all (is_of_answer s y (Some last)) ws) (step_answers s call ns y last w h p.0) (steps_answer s call ns y last ws h p.1)

some_answer : (s : Script) (call : DceCall) (ns : List ℤ) (y : Reply) (last : Option What) (ws : List What) → is_some_line (is_of_shape (shape_of call)) last ≡ true → list_all (is_of_step s (shape_of call).word (arguments call ns) y) ws ≡ true
    → list_all (is_of_answer s y last) ws ≡ true
some_answer s call ns y None ws h e = absurd (false≢true h)
some_answer s call ns y (Some last) ws h e = steps_answer s call ns y last ws h e

-- ---- short lists of lines

-- There is at most one line.
abbrev pub IsShort : List What → Type 0
IsShort [] = Unit {0}
IsShort (w ∷ []) = Unit {0}
IsShort (w ∷ v ∷ ws) = ⊥

raised_short : (o : Option Exc) (r : Remainder) → IsShort (raised_if o r).lines
raised_short None r = tt
raised_short (Some x) r = tt

by_short : (g : Setting) (act : Act) (h : Spot) (r : Remainder) (y : Reply) → IsShort (replied_by g act h r y).lines
by_short g (Asks call) h r y = raised_short (replies.raised_by (interface_of g.script) call y) _
by_short g _ h r y = tt

at_short : (g : Setting) (p : Place) (r : Remainder) (y : Reply) → IsShort (replied_at g p r y).lines
at_short g (At h) r y = by_short g (act_at h) h r y
at_short g _ r y = tt

pub replied_short : (g : Setting) (r : Remainder) (y : Reply) → IsShort (replied g y r).lines
unfolding replied
replied_short g r y = at_short g (place_in r.items) r y

-- ---- replies that raise nothing

-- The reply raises nothing, whatever the call.
abbrev pub IsCalmReply : Reply → Type 0
IsCalmReply y = (i : Interface) → raised_in i y ≡ None

if_none : (b : Bool) (o : Option Exc) → o ≡ None → (if b then None else o) ≡ None
if_none true o e = refl
if_none false o e = e

by_none : (g : Setting) (act : Act) (h : Spot) (r : Remainder) (y : Reply) → IsCalmReply y → (replied_by g act h r y).lines ≡ []
by_none g (Asks call) h r y c =
    let i : Interface = interface_of g.script in
    ap (λ (o : Option Exc). (raised_if o (record r { items = stored_in (stores call y) (passed h); err = errno_of y })).lines) (if_none (replies.is_timed_wait call && is_eagain y) (raised_in i y) (c i))
by_none g _ h r y c = refl

at_none : (g : Setting) (p : Place) (r : Remainder) (y : Reply) → IsCalmReply y → (replied_at g p r y).lines ≡ []
at_none g (At h) r y c = by_none g (act_at h) h r y c
at_none g _ r y c = refl

pub replied_none : (g : Setting) (r : Remainder) (y : Reply) → IsCalmReply y → (replied g y r).lines ≡ []
unfolding replied
replied_none g r y c = at_none g (place_in r.items) r y c

pub done_calm : IsCalmReply reply.Done
done_calm interface.Exc = refl
done_calm interface.Status = refl

routine_short : (g : Setting) (call : DceCall) (m : Move) → m.lines ≡ [] → IsShort (runs_routine g call m).lines
routine_short g (dce.Once block routine) m e = subst (λ (ws : List What). IsShort (ws ++ (begins_once g block routine m.to).lines)) (sym e) tt
routine_short g _ m e = subst IsShort (sym e) tt

begun_by_short : (g : Setting) (act : Act) (m : Move) → m.lines ≡ [] → IsShort (begun_by g act m).lines
begun_by_short g (Asks call) m e = routine_short g call m e
begun_by_short g _ m e = subst IsShort (sym e) tt

begun_at_short : (g : Setting) (p : Place) (m : Move) → m.lines ≡ [] → IsShort (begun_at g p m).lines
begun_at_short g (At h) m e = begun_by_short g (act_at h) m e
begun_at_short g _ m e = subst IsShort (sym e) tt

pub begun_short : (g : Setting) (r : Remainder) → IsShort (begun_at g (place_in r.items) (replied g reply.Done r)).lines
begun_short g r = begun_at_short g (place_in r.items) (replied g reply.Done r) (replied_none g r reply.Done done_calm)

-- ---- what is next when the call returns

at_spot : (s : Script) (r : Remainder) (h : Spot) → StandsIn s r → place_in r.items ≡ At h → IsSpot (lines_of s) h
at_spot s r h has e = subst (IsPlace (lines_of s)) e (place_stands (lines_of s) r.items has.items)

line_is : (r : Remainder) (h : Spot) → place_in r.items ≡ At h → unwrap_or (line_of_next r) 0 ≡ h.line
line_is r h e = ap (λ p. unwrap_or (line_in p) 0) e

module _ (g : Setting) (r : Remainder) (last : Option What) (has : StandsIn g.script r) (at : is_some_line (is_of_line g.script (unwrap_or (line_of_next r) 0)) last ≡ true) where
  -- The answered line is one of the call that is next.
  of_shape : (h : Spot) (call : DceCall) → place_in r.items ≡ At h → act_at h ≡ Asks call → is_some_line (is_of_shape (shape_of call)) last ≡ true
  of_shape h call e a =
      sym (ap (λ o. is_some_line (is_of_form o) last) (stands_as g.script h.line h.stmt h.rest call (at_spot g.script r h has e).here a))
      ∙ sym (ap (λ n. is_some_line (is_of_line g.script n) last) (line_is r h e)) ∙ at

  abbrev AreOfAnswer : Reply → List What → Type 0
  AreOfAnswer y ws = list_all (is_of_answer g.script y last) ws ≡ true

  act_answers : (y : Reply) (h : Spot) (act : Act) → place_in r.items ≡ At h → act_at h ≡ act → AreOfAnswer y (replied g y r).lines
  unfolding replied
  act_answers y h (Asks call) e a = some_answer g.script call [] y last _ (of_shape h call e a) (replied_step g r y h call [] e a)
  act_answers y h _ e a = subst (λ (p : Place). AreOfAnswer y (replied_at g p r y).lines) (sym e) (subst (λ (x : Act). AreOfAnswer y (replied_by g x h r y).lines) (sym a) refl)

  place_answers : (y : Reply) (p : Place) → place_in r.items ≡ p → AreOfAnswer y (replied g y r).lines
  unfolding replied
  place_answers y (At h) e = act_answers y h (act_at h) e refl
  place_answers y _ e = subst (λ (p : Place). AreOfAnswer y (replied_at g p r y).lines) (sym e) refl

  -- What the thread does with the reply is a step of the answered line.
  pub replied_answers : (y : Reply) → AreOfAnswer y (replied g y r).lines
  replied_answers y = place_answers y (place_in r.items) refl

  act_begun : (h : Spot) (act : Act) → place_in r.items ≡ At h → act_at h ≡ act → AreOfAnswer reply.Done (begun_at g (place_in r.items) (replied g reply.Done r)).lines
  act_begun h (Asks call) e a = some_answer g.script call [] reply.Done last _ (of_shape h call e a) (begun_at_step g r h call [] e a)
  act_begun h _ e a =
      subst (λ (p : Place). AreOfAnswer reply.Done (begun_at g p (replied g reply.Done r)).lines) (sym e)
      (subst (λ (x : Act). AreOfAnswer reply.Done (begun_by g x (replied g reply.Done r)).lines) (sym a) (replied_answers reply.Done))

  place_begun : (p : Place) → place_in r.items ≡ p → AreOfAnswer reply.Done (begun_at g (place_in r.items) (replied g reply.Done r)).lines
  place_begun (At h) e = act_begun h (act_at h) e refl
  place_begun _ e = subst (λ (p : Place). AreOfAnswer reply.Done (begun_at g p (replied g reply.Done r)).lines) (sym e) (replied_answers reply.Done)

  -- So is what the runner of a once block does.
  pub begun_answers : AreOfAnswer reply.Done (begun_at g (place_in r.items) (replied g reply.Done r)).lines
  begun_answers = place_begun (place_in r.items) refl
