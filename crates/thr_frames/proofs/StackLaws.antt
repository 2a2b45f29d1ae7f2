-- What stacks answer, and moves from the line of the step.
use Rattle.std.proofs.Common.{◌≡◌, ◌≢◌, ◌+◌, ◌-◌, ◌≤◌, nat_le, ℕ, List, [], ◌++◌, length, slice_get, true, Option, Some, None, refl, ap, sym, ◌∙◌, subst, arith}
use Rattle.std.proofs.lemmas.Bool.Decides.{nat_tests}
use Rattle.thr_values.specs.declared.history.What.{What}
use Rattle.thr_syntax.specs.declared.dce.DceCall.{DceCall}
use Rattle.thr_syntax.specs.declared.form.Form.{Form}
use Rattle.thr_syntax.specs.declared.form.Form.TheVariants as form
use Rattle.thr_syntax.specs.declared.tree.Script.{Script}
use Rattle.thr_syntax.specs.Lines.{lines_of}
use Rattle.thr_remainder.specs.Places.{Left, nothing}
use Rattle.thr_remainder.specs.Acts.{Act, Asks}
use Rattle.thr_remainder.specs.Remainders.{Setting, Remainder, Move, Place, Nowhere, AtEnd, At, place_in, place_inside, act_at, free, has_room}
use Rattle.thr_lines.specs.declared.row.Row.{Row}
use Rattle.thr_lines.specs.Layout.{line_at, last_line}
use Rattle.thr_lines.specs.AtLines.{ActsAt, FormAt}
use Rattle.thr_stack.specs.declared.frame.Frame.{Frame}
use Rattle.thr_stack.specs.declared.context.Context.{Context}
use Rattle.thr_stack.specs.FrameLists.{below}
use Rattle.thr_stack.specs.Places.{IsStepLine, IsAtStep}
use Rattle.thr_stack.specs.Standing.{IsGood, IsPlace, Makes, role_of, items_of, remainder_of, setting_of}
use Rattle.thr_stack.proofs.LocalLaws.{length_items}
use Rattle.thr_stack.proofs.PlaceLaws.{goes_to}
use Rattle.thr_stack.proofs.Sites.{site, spot, place_is, top}
use Rattle.thr_frames.specs.Stacks.{asked_by, HasNoCall, IsNextCall}

pub free_is : (s : Script) (k : Context) (n : ℕ) → n + length k.frames.items ≡ k.frames.size → n ≡ free (setting_of s k) (remainder_of s k)
free_is s k n e = omega (arith, e, length_items s k.line k.frames.calls k.frames.items)

room_for_two : (size count : ℕ) → nat_le 2 (size - count) ≡ true → count + 2 ≤ size
room_for_two size count h = grind (arith, nat_tests)

-- Where two frames more fit, there is room for them.
pub fits_two : (s : Script) (k : Context) → has_room (setting_of s k) (remainder_of s k) 2 ≡ true → length k.frames.items + 2 ≤ k.frames.size
fits_two s k h =
    let items = items_of s k.line k.frames.calls k.frames.items in
    omega (arith, room_for_two k.frames.size (length items) h, length_items s k.line k.frames.calls k.frames.items)

-- ---- moves from the line of the step

pub same_setting : (s : Script) (old mid : Context) → IsAtStep s old mid → setting_of s mid ≡ setting_of s old
same_setting s old mid at = ap (setting_of s) at.same

-- What a context makes at the line of its step is made from where it was.
pub made_from : (s : Script) (old mid new : Context) (before after : List What) → IsAtStep s old mid → (f : Setting → Remainder → Move) → Makes s (f (setting_of s mid) (remainder_of s mid)) mid new before after →
    Makes s (f (setting_of s old) (remainder_of s old)) old new before after
made_from s old mid new before after at f m =
    let g = same_setting s old mid at in
    let e : f (setting_of s mid) (remainder_of s mid) ≡ f (setting_of s old) (remainder_of s old) = λ i. f (g i) (at.to i) in
    record { to = m.to ∙ ap (λ (x : Move). x.to) e; lines = m.lines ∙ ap (λ (x : Move). before ++ x.lines) e; setting = m.setting ∙ g; good = m.good }

-- ---- calls

-- The call that is asked at this place, if one is.
abbrev pub asked_at : Place → Option DceCall
asked_at Nowhere = None
asked_at (AtEnd close x outer) = None
asked_at (At h) = asked_by (act_at h)

pub has_no_call : (r : Remainder) → asked_at (place_in r.items) ≡ None → HasNoCall r
has_no_call r none h is = ap asked_at (sym is) ∙ none

pub nowhere_asks : (s : Script) (k : Context) → k.frames.items ≡ [] → asked_at (place_in (remainder_of s k).items) ≡ None
nowhere_asks s k e = ap (λ (is : List Frame). asked_at (place_in (items_of s k.line k.frames.calls is))) e

-- ---- the line of a call, and other lines

module _ (s : Script) (k : Context) (some : k.frames.items ≢ []) where
  asks_by : (rest : Left) (act : Act) (shared : _) → ActsAt (line_at s) k.line rest act shared → asked_at (place_in (remainder_of s k).items) ≡ asked_by act
  asks_by rest act shared d = let t = site s k rest act shared some d in ap asked_at (place_is s k rest act t) ∙ ap asked_by t.acts

  asks_nothing : (line_at s k.line).left ≡ nothing k.line → asked_at (place_in (remainder_of s k).items) ≡ None
  asks_nothing e =
      let t = top k some in
      ap (λ (is : List Frame). asked_at (place_in (items_of s k.line k.frames.calls is))) t.2
      ∙ ap (λ (l : Left). asked_at (place_inside l.todo l.close (role_of s k.frames.calls t.0.kind) (items_of s t.0.back (below k.frames.calls t.0.kind) t.1))) e

  -- A line where a step stands asks nothing, unless it is a call's.
  pub none_asked : (row : Row) (f : Form) → FormAt (line_at s) (last_line s) k.line row f → IsPlace s k.line f → ((call : DceCall) → f ≡ form.Dce call → ⊥) → asked_at (place_in (remainder_of s k).items) ≡ None
  none_asked row form.Header a p non = asks_nothing a
  none_asked row (form.Interface v0) a p non = asks_nothing a
  none_asked row (form.Limit v0) a p non = asks_nothing a
  none_asked row (form.Shared v0 v1) a p non = asks_nothing a
  none_asked row (form.Exception v0) a p non = asks_nothing a
  none_asked row (form.Status v0 v1) a p non = asks_nothing a
  none_asked row (form.Mutex v0) a p non = asks_nothing a
  none_asked row (form.MutexAttr v0) a p non = asks_nothing a
  none_asked row (form.Cond v0) a p non = asks_nothing a
  none_asked row (form.Attr v0) a p non = asks_nothing a
  none_asked row (form.Key v0) a p non = asks_nothing a
  none_asked row (form.Once v0) a p non = asks_nothing a
  none_asked row (form.Pipe v0 v1) a p non = asks_nothing a
  none_asked row (form.Routine v0 v1) a p non = absurd p
  none_asked row (form.Local v0) a p non = absurd p
  none_asked row (form.Set v0 v1) a p non = asks_by _ _ _ a.does
  none_asked row (form.Say v0) a p non = asks_by _ _ _ a.does
  none_asked row (form.If v0) a p non = asks_by _ _ _ a.does
  none_asked row form.Else a p non = absurd p
  none_asked row (form.While v0) a p non = asks_by _ _ _ a.does
  none_asked row form.Try a p non = asks_by _ _ _ a.does
  none_asked row (form.Catch v0) a p non = asks_nothing a.here
  none_asked row form.CatchAll a p non = asks_nothing a.here
  none_asked row form.Finally a p non = asks_nothing a.here
  none_asked row form.Endtry a p non = asks_nothing a.here
  none_asked row (form.Raise v0) a p non = asks_by _ _ _ a.does
  none_asked row form.Reraise a p non = asks_by _ _ _ a.does
  none_asked row (form.Call v0 v1 v2) a p non = asks_by _ _ _ a.does
  none_asked row (form.Return v0) a p non = asks_by _ _ _ a.does
  none_asked row (form.Exit v0) a p non = asks_by _ _ _ a.does
  none_asked row (form.Dce v0) a p non = absurd (non v0 refl)
  none_asked row form.End a p non = asks_nothing p

-- ---- the next call

module _ (s : Script) (k : Context) (l : ℕ) (row : Row) (good : IsGood s k) (some : k.frames.items ≢ []) (h : IsStepLine s k l) where
  pub is_next_call : (call : DceCall) → FormAt (line_at s) (last_line s) l row (form.Dce call) → slice_get (lines_of s) (l - 1) ≡ Some (form.Dce call) → IsNextCall s (remainder_of s k) call
  is_next_call call a is =
      let there : Context = record k { line = l } in
      let t = site s there _ (Asks call) true some a.does in
      subst (λ (r : Remainder). IsNextCall s r call) (goes_to s k l good h).to (record { spot = spot s there _ (Asks call) t; here = place_is s there _ (Asks call) t; asks = t.acts; stands = is })

  pub is_no_call : row ≡ (line_at s l).row → FormAt (line_at s) (last_line s) l row row.form → ((call : DceCall) → row.form ≡ form.Dce call → ⊥) → HasNoCall (remainder_of s k)
  is_no_call same a non =
      subst HasNoCall (goes_to s k l good h).to
      (has_no_call (remainder_of s (record k { line = l })) (none_asked s (record k { line = l }) some row row.form a (subst (λ (x : Row). IsPlace s l x.form) (sym same) h.place) non))
