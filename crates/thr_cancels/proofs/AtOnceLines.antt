-- Cancels that can be delivered at once are delivered before the thread's next step, by the lines.
use Rattle.std.proofs.Common.{◌≡◌, ℕ, ◌==◌, ℤ, pos, Bool, true, false, not, ◌&&◌, ◌||◌, List, [], ◌∷◌, ◌++◌, map, Option, Some, None, refl, sym, ◌∙◌, ap, subst}
use Rattle.std.proofs.lemmas.Bool.{false≢true}
use Rattle.std.specs.List.{list_all, fold}
use Rattle.std.specs.Ordering.{int_eq}
use Rattle.thr_values.specs.declared.number.Tid.{Tid}
use Rattle.thr_values.specs.declared.call.Arg.{Arg}
use Rattle.thr_values.specs.declared.call.Arg.TheVariants as arg
use Rattle.thr_values.specs.declared.call.CallWord.TheVariants as word
use Rattle.thr_values.specs.declared.history.What.{What}
use Rattle.thr_values.specs.declared.history.What.TheVariants as what
use Rattle.thr_values.specs.declared.history.Entry.{Entry}
use Rattle.thr_values.specs.declared.reply.Reply.{Reply}
use Rattle.thr_values.specs.declared.reply.Reply.TheVariants as reply
use Rattle.thr_syntax.specs.declared.expr.Expr.{Expr}
use Rattle.thr_syntax.specs.declared.dce.DceCall.{DceCall}
use Rattle.thr_syntax.specs.declared.dce.DceCall.TheVariants as dce
use Rattle.thr_syntax.specs.declared.tree.Interface.TheVariants as interface
use Rattle.thr_syntax.specs.declared.tree.Script.{Script}
use Rattle.thr_remainder.specs.Calls.{shape_of, arguments}
use Rattle.thr_remainder.specs.Remainders.{Setting, Remainder, Move}
use Rattle.thr_remainder.specs.Replies.{replied}
use Rattle.thr_parts.specs.Cancels as cancels
use Rattle.thr_laws.specs.Lines.{implies, fits, own_line, line_but_gift, is_delivery, is_some_line}
use Rattle.thr_laws.specs.Known.{Known, general_after, asynchronous_after, known_with, known_after, cancel_of, cancel_by, reply_if, is_to_deliver}
use Rattle.thr_laws.specs.CancelLaw.{is_owed_or_outward, is_of_return, is_of_answer, can_deliver, delivers_at_once}
use Rattle.thr_laws.proofs.ReadingLaws.{both, and_both, AllLines, fits_keeping, fits_always}
use Rattle.thr_model.specs.States.{State}
use Rattle.thr_model.specs.Calls.{Gifts, Answered, answered}
use Rattle.thr_model.specs.Turns.{thread_line, gift_lines, runs_routine, runs_if, after_reply, call_made}
use Rattle.thr_answers.proofs.AnswerReading.{but_gift, IsSilent, gifts_silent, silent_append}
use Rattle.thr_cancels.proofs.InnerLines.{is_inner, AreInner, replied_inner, routine_inner}
use Rattle.thr_cancels.proofs.AnswerSteps.{IsShort, IsCalmReply, replied_none}

-- ---- lines that pass

-- The thread has to deliver a cancel.
abbrev pub must : Known → Bool
must k = can_deliver k && k.asynchronous

module _ (s : Script) (u : ℕ) where
  -- Each of these lines passes, by what is known before the first.
  abbrev pub AllPass : Known → List Entry → Type 0
  AllPass k es = fits (known_after u) (λ j e. delivers_at_once s j (own_line u e)) k es ≡ true

  pub pass_append : (k : Known) (xs ys : List Entry) → AllPass k xs → AllPass (fold (known_after u) k xs) ys → AllPass k (xs ++ ys)
  pass_append k [] ys h i = i
  pass_append k (x ∷ xs) ys h i =
      let test : Bool = delivers_at_once s k (own_line u x) in
      let next : Known = known_after u k x in
      let rest : Bool = fits (known_after u) (λ j e. delivers_at_once s j (own_line u e)) next xs in
      let p : (test ≡ true) × (rest ≡ true) = both test rest h in
      and_both test (fits (known_after u) (λ j e. delivers_at_once s j (own_line u e)) next (xs ++ ys)) p.0 (pass_append next xs ys p.1 i)

  none_passes : (k : Known) (own : Option What) → own ≡ None → delivers_at_once s k own ≡ true
  none_passes k own e = ap (delivers_at_once s k) e

  -- Lines in which the thread does nothing.
  pub silent_pass : (k : Known) (es : List Entry) → IsSilent u es → AllPass k es
  silent_pass k es h = fits_always (known_after u) (λ j e. delivers_at_once s j (own_line u e)) (λ e. own_line u e ≡ None) (λ j e i. none_passes j (own_line u e) i) k es h

  implied : (a b c : Bool) → b ≡ true → implies a (b || c) ≡ true
  implied false b c e = refl
  implied true b c e = ap (λ x. x || c) e

  owed_passes : (k : Known) (b : Bool) (w : What) → is_owed_or_outward w ≡ true → delivers_at_once s k (line_but_gift b w) ≡ true
  owed_passes k false w e = refl
  owed_passes k true (what.Gift m) e = refl
  owed_passes k true w e = implied (must k) (is_owed_or_outward w) (is_of_return s k.last k.earlier w) e

  -- Lines that may come where a cancel is to be delivered.
  pub owed_pass : (t : Tid) (k : Known) (ws : List What) → list_all is_owed_or_outward ws ≡ true → AllPass k (map (thread_line t) ws)
  owed_pass t k [] h = refl
  owed_pass t k (w ∷ ws) h =
      let p : (is_owed_or_outward w ≡ true) × (list_all is_owed_or_outward ws ≡ true) = both (is_owed_or_outward w) (list_all is_owed_or_outward ws) h in
      and_both (delivers_at_once s k (own_line u (thread_line t w))) (fits (known_after u) (λ j e. delivers_at_once s j (own_line u e)) (known_after u k (thread_line t w)) (map (thread_line t) ws))
      (owed_passes k (t.0 == u) w p.0) (owed_pass t (known_after u k (thread_line t w)) ws p.1)

  free_passes : (k : Known) (own : Option What) → must k ≡ false → delivers_at_once s k own ≡ true
  free_passes k None e = refl
  free_passes k (Some w) e = ap (λ b. implies b (is_owed_or_outward w || is_of_return s k.last k.earlier w)) e

  -- ---- lines that leave what has to be done

  abbrev pub is_call_line : What → Bool
  is_call_line (what.Call word args r) = true
  is_call_line _ = false

  no_cancel : (w : What) → is_call_line w ≡ false → cancel_of u w ≡ None
  no_cancel (what.Call word args r) e = absurd (false≢true (sym e))
  no_cancel _ e = refl

  less : (a b c d : Bool) → ((a && c) && d) ≡ false → (((a && b) && c) && d) ≡ false
  less true true c d e = e
  less true false c d e = refl
  less false b c d e = refl

  own_free : (k : Known) (own : Option What) → is_some_line is_call_line own ≡ false → must k ≡ false → must (known_with k own None) ≡ false
  own_free k None e f = less k.outstanding true k.general k.asynchronous f
  own_free k (Some (what.Call word args r)) e f = absurd (false≢true (sym e))
  own_free k (Some w) e f = less k.outstanding (not (is_delivery w)) k.general k.asynchronous f

  pub line_free : (k : Known) (e : Entry) → is_call_line e.what ≡ false → must k ≡ false → must (known_after u k e) ≡ false
  line_free k e c f =
      subst (λ (o : Option Reply). must (known_with k (own_line u e) o) ≡ false) (sym (no_cancel e.what c)) (own_free k (own_line u e) (but_gift is_call_line _ e.what c) f)

  -- Lines that are no calls, where no cancel is to be delivered.
  pub free_pass : (k : Known) (es : List Entry) → must k ≡ false → AllLines (λ e. is_call_line e.what ≡ false) es → AllPass k es
  free_pass k es f h =
      fits_keeping (known_after u) (λ j e. delivers_at_once s j (own_line u e)) (λ j. must j ≡ false) (λ e. is_call_line e.what ≡ false)
      (λ j e i c. line_free j e c i) (λ j e i c. free_passes j (own_line u e) i) k es f h

  pub free_after : (k : Known) (es : List Entry) → must k ≡ false → AllLines (λ e. is_call_line e.what ≡ false) es → must (fold (known_after u) k es) ≡ false
  free_after k [] f h = f
  free_after k (e ∷ es) f h = free_after (known_after u k e) es (line_free k e h.0 f) h.1

  inner_no_call : (w : What) → is_inner w ≡ true → is_call_line w ≡ false
  inner_no_call (what.Call word args r) e = absurd (false≢true e)
  inner_no_call _ e = refl

  pub inner_no_calls : (t : Tid) (ws : List What) → AreInner ws → AllLines (λ e. is_call_line e.what ≡ false) (map (thread_line t) ws)
  inner_no_calls t [] h = tt
  inner_no_calls t (w ∷ ws) h =
      let p : (is_inner w ≡ true) × (list_all is_inner ws ≡ true) = both (is_inner w) (list_all is_inner ws) h in (inner_no_call w p.0, inner_no_calls t ws p.1)

  pub gifts_no_calls : (gs : Gifts) → AllLines (λ e. is_call_line e.what ≡ false) (gift_lines gs)
  gifts_no_calls [] = tt
  gifts_no_calls (g ∷ gs) = (refl, gifts_no_calls gs)

  -- ---- calls

  -- After the line either no cancel is to be delivered, or the thread does nothing more in the turn.
  data After (k : Known) (ws : List What) : Type 0 where
    free : must k ≡ false → After k ws
    silent : ws ≡ [] → After k ws

  -- A line that sets no cancelability, after which no cancel waits for its delivery.
  call_free : (k : Known) (b : Bool) (w : What) → is_to_deliver (cancel_of u w) ≡ false → ((x : Bool) → general_after (Some w) x ≡ x) → ((x : Bool) → asynchronous_after (Some w) x ≡ x) → must k ≡ false
      → must (known_with k (line_but_gift b w) (cancel_of u w)) ≡ false
  call_free k b w c g a f =
      ap (λ x. ((x || (k.outstanding && not (is_some_line is_delivery (line_but_gift b w)))) && general_after (line_but_gift b w) k.general) && asynchronous_after (line_but_gift b w) k.asynchronous) c ∙ either_line b w g a
    where
      some_line : (w : What) → ((x : Bool) → general_after (Some w) x ≡ x) → ((x : Bool) → asynchronous_after (Some w) x ≡ x) → must (known_with k (Some w) None) ≡ false
      some_line w g a =
          ap (λ x. ((k.outstanding && not (is_delivery w)) && x) && asynchronous_after (Some w) k.asynchronous) (g k.general)
          ∙ ap (λ x. ((k.outstanding && not (is_delivery w)) && k.general) && x) (a k.asynchronous)
          ∙ less k.outstanding (not (is_delivery w)) k.general k.asynchronous f

      either_line : (b : Bool) (w : What) → ((x : Bool) → general_after (Some w) x ≡ x) → ((x : Bool) → asynchronous_after (Some w) x ≡ x) → must (known_with k (line_but_gift b w) None) ≡ false
      either_line false w g a = less k.outstanding true k.general k.asynchronous f
      either_line true (what.Gift m) g a = less k.outstanding true k.general k.asynchronous f
      either_line true w g a = some_line w g a

  not_to_deliver : (args : List Arg) (y : Reply) → is_to_deliver (Some y) ≡ false → is_to_deliver (cancel_by u word.Cancel args y) ≡ false
  not_to_deliver (arg.Num n ∷ args) y e = either (int_eq n (pos u))
    where
      either : (b : Bool) → is_to_deliver (reply_if b y) ≡ false
      either true = e
      either false = refl
  not_to_deliver _ y e = refl

  runs_same : (b : Bool) (g : Setting) (call : DceCall) (m : Move) → runs_routine g call m ≡ m → m.lines ≡ [] → (runs_if b g call m).lines ≡ []
  runs_same true g call m e f = ap (λ (x : Move). x.lines) e ∙ f
  runs_same false g call m e f = f

  cancel_after : (t : Tid) (g : Setting) (r : Remainder) (x : Expr) (runs : Bool) (args : List Arg) (y : Reply) (k : Known) → must k ≡ false
      → After (known_after u k (thread_line t (what.Call word.Cancel args y))) (after_reply g (dce.Cancel x) runs r y).lines
  cancel_after t g r x runs args reply.Blocks k f = silent refl
  cancel_after t g r x runs args (reply.Effect e) k f = silent (runs_same runs g (dce.Cancel x) (replied g (reply.Effect e) r) refl (replied_none g r (reply.Effect e) calm))
    where
      calm : IsCalmReply (reply.Effect e)
      calm interface.Exc = refl
      calm interface.Status = refl
  cancel_after t g r x runs args y k f = free (call_free k (t.0 == u) (what.Call word.Cancel args y) (not_to_deliver args y refl) (λ b. refl) (λ b. refl) f)

  value_after : (g : Setting) (r : Remainder) (call : DceCall) (runs : Bool) (n : ℤ) → ((m : Move) → runs_routine g call m ≡ m) → (after_reply g call runs r (reply.Value n)).lines ≡ []
  value_after g r call runs n e = runs_same runs g call (replied g (reply.Value n) r) (e (replied g (reply.Value n) r)) (replied_none g r (reply.Value n) calm)
    where
      calm : IsCalmReply (reply.Value n)
      calm interface.Exc = refl
      calm interface.Status = refl

  call_after : (st : State) (t : Tid) (g : Setting) (r : Remainder) (call : DceCall) (ns : List ℤ) (k : Known) → must k ≡ false
      → (let o : Answered = answered s st t call ns in After (known_after u k (thread_line t (what.Call (shape_of call).word (arguments call ns) o.reply))) (after_reply g call o.runs r o.reply).lines)
  unfolding answered shape_of
  call_after st t g r (dce.Cancel x) ns k f = let o : Answered = answered s st t (dce.Cancel x) ns in cancel_after t g r x o.runs (arguments (dce.Cancel x) ns) o.reply k f
  call_after st t g r (dce.Setcancel on v) ns k f = silent (value_after g r (dce.Setcancel on v) (answered s st t (dce.Setcancel on v) ns).runs (cancels.state_number (cancels.mode_at st.threads t).general) (λ m. refl))
  call_after st t g r (dce.Setasynccancel on v) ns k f = silent (value_after g r (dce.Setasynccancel on v) (answered s st t (dce.Setasynccancel on v) ns).runs (cancels.state_number (cancels.mode_at st.threads t).asynchronous) (λ m. refl))
  call_after st t g r call ns k f = free (call_free k (t.0 == u) (what.Call (shape_of call).word (arguments call ns) (answered s st t call ns).reply) refl (λ b. refl) (λ b. refl) f)

  runs_inner : (b : Bool) (g : Setting) (call : DceCall) (m : Move) → AreInner m.lines → AreInner (runs_if b g call m).lines
  runs_inner true g call m h = routine_inner g call m h
  runs_inner false g call m h = h

  reply_inner : (g : Setting) (call : DceCall) (runs : Bool) (r : Remainder) (y : Reply) → AreInner (after_reply g call runs r y).lines
  reply_inner g call runs r reply.Blocks = refl
  reply_inner g call runs r y = runs_inner runs g call (replied g y r) (replied_inner g y r)

  all_both : (es fs : List Entry) → AllLines (λ e. is_call_line e.what ≡ false) es → AllLines (λ e. is_call_line e.what ≡ false) fs → AllLines (λ e. is_call_line e.what ≡ false) (es ++ fs)
  all_both [] fs h i = i
  all_both (e ∷ es) fs h i = (h.0, all_both es fs h.1 i)

  rest_pass : (t : Tid) (k : Known) (gs : Gifts) (ws : List What) → AreInner ws → After k ws → AllPass k (gift_lines gs ++ map (thread_line t) ws)
  rest_pass t k gs ws h (free f) = free_pass k (gift_lines gs ++ map (thread_line t) ws) f (all_both (gift_lines gs) (map (thread_line t) ws) (gifts_no_calls gs) (inner_no_calls t ws h))
  rest_pass t k gs ws h (silent e) =
      silent_pass k (gift_lines gs ++ map (thread_line t) ws) (silent_append u (gift_lines gs) (map (thread_line t) ws) (gifts_silent u gs) (subst (λ (vs : List What). IsSilent u (map (thread_line t) vs)) (sym e) tt))

  pub call_pass : (st : State) (t : Tid) (g : Setting) (r : Remainder) (call : DceCall) (ns : List ℤ) (k : Known) → must k ≡ false → AllPass k (call_made t g call ns r (answered s st t call ns)).lines
  call_pass st t g r call ns k f =
      let o : Answered = answered s st t call ns in
      let e : Entry = thread_line t (what.Call (shape_of call).word (arguments call ns) o.reply) in
      let ws : List What = (after_reply g call o.runs r o.reply).lines in
      and_both (delivers_at_once s k (own_line u e)) (fits (known_after u) (λ j e. delivers_at_once s j (own_line u e)) (known_after u k e) (gift_lines o.gifts ++ map (thread_line t) ws))
      (free_passes k (own_line u e) f) (rest_pass t (known_after u k e) o.gifts ws (reply_inner g call o.runs r o.reply) (call_after st t g r call ns k f))

  -- ---- returns

  ret_then : (b : Bool) (y : Reply) (w : What) (k : Known) → is_of_answer s y k.last w ≡ true → delivers_at_once s (known_with k (line_but_gift b (what.Ret y)) None) (line_but_gift b w) ≡ true
  ret_then false y w k e = refl
  ret_then true y (what.Gift m) k e = refl
  ret_then true y w k e = then_implied (must (known_with k (Some (what.Ret y)) None)) (is_owed_or_outward w) (is_of_answer s y k.last w) e
    where
      then_implied : (a b c : Bool) → c ≡ true → implies a (b || c) ≡ true
      then_implied false b c e = refl
      then_implied true true c e = refl
      then_implied true false c e = e

  -- A return, and what its step does.
  pub return_pass : (t : Tid) (y : Reply) (ws : List What) (k : Known) → IsShort ws → list_all (is_of_answer s y k.last) ws ≡ true → AllPass k (map (thread_line t) (what.Ret y ∷ ws))
  return_pass t y [] k short e = owed_pass t k (what.Ret y ∷ []) refl
  return_pass t y (w ∷ []) k short e =
      let ret : Entry = thread_line t (what.Ret y) in
      and_both (delivers_at_once s k (own_line u ret)) _ (owed_passes k (t.0 == u) (what.Ret y) refl)
      (and_both (delivers_at_once s (known_after u k ret) (own_line u (thread_line t w))) true (ret_then (t.0 == u) y w k (both (is_of_answer s y k.last w) true e).0) refl)
  return_pass t y (w ∷ v ∷ ws) k short e = absurd short
