-- Calls of the thread service as steps of a turn.
use Rattle.std.proofs.Common.{◌≡◌, ℤ, List, [], ◌∷◌, ◌++◌, map, append_assoc, refl, sym, ap, ◌∙◌, Option, Some, None, Ok, Err}
use Rattle.thr_values.specs.declared.number.NameId.{NameId}
use Rattle.thr_values.specs.declared.number.Tid.{Tid}
use Rattle.thr_values.specs.declared.exception.Exc.{Exc}
use Rattle.thr_values.specs.declared.history.What.{What}
use Rattle.thr_values.specs.declared.history.What.TheVariants as what
use Rattle.thr_values.specs.declared.history.Entry.{Entry}
use Rattle.thr_syntax.specs.declared.dce.DceCall.{DceCall}
use Rattle.thr_syntax.specs.declared.dce.DceCall.TheVariants as dce
use Rattle.thr_syntax.specs.declared.tree.Script.{Script}
use Rattle.thr_remainder.specs.Calls.{shape_of, arguments}
use Rattle.thr_remainder.specs.Expressions.{SharedValues}
use Rattle.thr_remainder.specs.Remainders.{Remainder, Setting, Move}
use Rattle.thr_remainder.specs.Replies.{Values, asked}
use Rattle.thr_remainder.specs.Starts.{raised}
use Rattle.thr_parts.specs.Tables.{Table, put}
use Rattle.thr_model.specs.States.{shared_values, with_writes}
use Rattle.thr_model.specs.Calls.{Gifts, answered}
use Rattle.thr_model.specs.Turns.{Made, thread_line, gift_lines, after_reply, stores_of, call_made, called}
use Rattle.thr_services.specs.declared.answer.Answer.{Answer}
use Rattle.thr_services.specs.Views.{ServicesView, state_with}
use Rattle.thr_services.specs.Answers.{Answers, begun}
use Rattle.thr_shared.specs.Shared.{values_in}
use Rattle.thr_frames.specs.Stacks.{StackView, remainder_of, setting_of, IsRoutine, IsNextCall}
use Rattle.thr_turns.specs.declared.workings.Left.{Left}
use Rattle.thr_turns.specs.declared.workings.Left.TheVariants.{Goes}
use Rattle.thr_turns.specs.Steps.{HasMoved, StepsTo, left_in, IsOver}
use Rattle.thr_turns.specs.Replies.{created_by, left_of, left_by}
use Rattle.thr_turns.proofs.NameLaws.{CreateLaw, create-routine}
use Rattle.thr_turns.proofs.AnswerLaws.{left-after, begun-after}
use Rattle.thr_turns.proofs.StepLaws.{step-moved, as-step}

-- ---- what the call that is next creates

created-by : (s : Script) (r : Remainder) (call : DceCall) → CreateLaw s → IsNextCall s r call → (name : NameId) → created_by call ≡ Some name → IsRoutine s name
created-by s r (dce.Create v attr routine e) law next name h = subst_name routine name (some-name routine name h) (create-routine s r v attr routine e law next)
  where
    some-name : (a b : NameId) → (let o : Option NameId = Some a in o) ≡ Some b → a ≡ b
    some-name a b e = cc

    subst_name : (a b : NameId) → a ≡ b → IsRoutine s a → IsRoutine s b
    subst_name a b e x = rw (← e) x
created-by s r _ law next name h = absurd (cc)

-- ---- the answer

call-lines : (before : List Entry) (l : Entry) (gs ms : List Entry) → ((before ++ l ∷ []) ++ gs) ++ ms ≡ before ++ ((l ∷ gs) ++ ms)
call-lines before l gs ms = ap (λ (es : List Entry). es ++ ms) (append_assoc before (l ∷ []) gs) ∙ append_assoc before (l ∷ gs) ms

three-written : (before first second after : List Entry) (l : Entry) (gs ms : List Entry) → first ≡ before ++ l ∷ [] → second ≡ first ++ gs → after ≡ second ++ ms → after ≡ before ++ ((l ∷ gs) ++ ms)
three-written before first second after l gs ms e f g = g ∙ ap (λ (es : List Entry). es ++ ms) (f ∙ ap (λ (es : List Entry). es ++ gs) e) ∙ call-lines before l gs ms

same-state : (v : ServicesView) (rs rs' : Table Remainder) (shared shared' : Table ℤ) (ls : List Entry) → rs ≡ rs' → shared ≡ shared'
    → (let m : Made = record { state = state_with v rs shared; lines = ls } in m) ≡ record { state = state_with v rs' shared'; lines = ls }
same-state v rs rs' shared shared' ls e f = rw (e, f) refl

-- A call that was answered, whose line and gifts were written, and whose caller went on.
pub call-step : (s : Script) (t : Tid) (old mid new : ServicesView) (shared shared' : Table ℤ) (k k' : StackView) (before first second after : List Entry) (call : DceCall) (ns : List ℤ) (a : Answer) (gifts : Gifts)
    (line : What) (left : Left) → CreateLaw s → IsNextCall s (remainder_of s k) call → Answers old mid a gifts (λ s st. answered s st t call ns) → new ≡ mid
    → line ≡ what.Call (shape_of call).word (arguments call ns) a.reply → first ≡ before ++ thread_line t line ∷ [] → second ≡ first ++ gift_lines gifts
    → HasMoved s t (after_reply (setting_of s k) call a.runs (remainder_of s k) a.reply) k k' second after → shared' ≡ with_writes shared (stores_of (remainder_of s k) a.reply)
    → left ≡ left_by call ns a.begins
    → StepsTo s t old new shared shared' k k' before after left (λ st. call_made t (setting_of s k) call ns (remainder_of s k) (answered s st t call ns))
call-step s t old mid new shared shared' k k' before first second after call ns a gifts line left law next h same said wrote gave m stored is =
    let g = setting_of s k in
    let r = remainder_of s k in
    let move : Move = after_reply g call a.runs r a.reply in
    let l : Entry = thread_line t (what.Call (shape_of call).word (arguments call ns) a.reply) in
    rw (is, same) (record {
      lines = (l ∷ gift_lines gifts) ++ map (thread_line t) move.lines;
      written = three-written before first second after l (gift_lines gifts) (map (thread_line t) move.lines) (wrote ∙ ap (λ (w : What). before ++ thread_line t w ∷ []) said) gave m.written;
      made = λ rs. ap (call_made t g call ns r) (h s rs shared)
          ∙ same-state mid (put (begun s rs a.begins) t.0 move.to) (left_in s rs t (remainder_of s k') (left_by call ns a.begins)) (with_writes shared (stores_of r a.reply)) shared' _
          (ap (put (begun s rs a.begins) t.0) (sym m.to) ∙ left-after s old mid a gifts t call ns (remainder_of s k') rs h) (sym stored);
      setting = m.setting;
      stack = m.stack;
      begun = begun-after s old mid a gifts t call ns h (created-by s r call law next);
      over = over-left (created_by call) _ a.begins;
    })
  where
    over-left : (routine : Option NameId) (n : ℤ) (begins : Option (Tid × NameId × ℤ)) → IsOver k' (left_of routine n begins)
    over-left routine n None = tt
    over-left None n (Some b) = tt
    over-left (Some routine) n (Some b) = tt

-- ---- the expressions

-- Values that agree at each name are the same.
pub same-values : (f g : SharedValues) → ((name : NameId) → f name ≡ g name) → f ≡ g
same-values f g h = λ i name. h name i

-- The values of shared variables in a state are those of its table.
asked-in : (s : Script) (t : Tid) (g : Setting) (call : DceCall) (r : Remainder) (v : ServicesView) (shared : Table ℤ) (seen : SharedValues) (x : Values) → seen ≡ values_in shared → asked g seen call r ≡ x
    → (rs : Table Remainder) → called s (state_with v rs shared) t g call r (asked g (shared_values (state_with v rs shared)) call r) ≡ called s (state_with v rs shared) t g call r x
asked-in s t g call r v shared seen x same is rs = ap (called s (state_with v rs shared) t g call r) (ap (λ (f : SharedValues). asked g f call r) (sym same) ∙ is)

-- A call whose expressions have values.
pub call-valued : (s : Script) (t : Tid) (v v' : ServicesView) (shared shared' : Table ℤ) (k k' : StackView) (before after : List Entry) (left : Left) (call : DceCall) (seen : SharedValues) (ns : List ℤ)
    → ((name : NameId) → seen name ≡ values_in shared name) → (let x : Values = Ok ns in x) ≡ asked (setting_of s k) seen call (remainder_of s k)
    → StepsTo s t v v' shared shared' k k' before after left (λ st. call_made t (setting_of s k) call ns (remainder_of s k) (answered s st t call ns))
    → StepsTo s t v v' shared shared' k k' before after left (λ st. called s st t (setting_of s k) call (remainder_of s k) (asked (setting_of s k) (shared_values st) call (remainder_of s k)))
call-valued s t v v' shared shared' k k' before after left call seen ns same is h =
    as-step s t v v' shared shared' k k' before after left _ _ (asked-in s t (setting_of s k) call (remainder_of s k) v shared seen (Ok ns) (same-values seen (values_in shared) same) (sym is)) h

-- A call in whose place an exception is raised.
pub call-raised : (s : Script) (t : Tid) (v : ServicesView) (shared : Table ℤ) (k k' : StackView) (before after : List Entry) (call : DceCall) (seen : SharedValues) (x : Exc)
    → ((name : NameId) → seen name ≡ values_in shared name) → (let v : Values = Err x in v) ≡ asked (setting_of s k) seen call (remainder_of s k) → HasMoved s t (raised x (remainder_of s k)) k k' before after
    → StepsTo s t v v shared shared k k' before after Goes (λ st. called s st t (setting_of s k) call (remainder_of s k) (asked (setting_of s k) (shared_values st) call (remainder_of s k)))
call-raised s t v shared k k' before after call seen x same is m =
    step-moved s t v v shared shared k k' before after _ (λ rs. state_with v rs shared) (raised x (remainder_of s k))
    (asked-in s t (setting_of s k) call (remainder_of s k) v shared seen (Err x) (same-values seen (values_in shared) same) (sym is)) (λ rs. refl) m
