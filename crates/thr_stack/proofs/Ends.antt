-- The lines that end a body of a try, and the ends of bodies.
use Rattle.std.proofs.Common.{◌≡◌, ℕ, ◌+◌, ℤ, pos, true, false, List, [], ◌∷◌, ◌++◌, Option, None, refl, ap, sym, ◌∙◌, subst, arith, append-nil}
use Rattle.thr_values.specs.declared.number.NameId.{NameId}
use Rattle.thr_values.specs.declared.exception.Exc.{Exc}
use Rattle.thr_values.specs.declared.history.What.{What}
use Rattle.thr_values.specs.declared.history.What.TheVariants as what
use Rattle.thr_syntax.specs.declared.form.Form.{Form}
use Rattle.thr_syntax.specs.declared.form.Form.TheVariants as form
use Rattle.thr_syntax.specs.declared.tree.Script.{Script}
use Rattle.thr_remainder.specs.declared.unwinding.Unwinding.{Unwinding}
use Rattle.thr_remainder.specs.Places.{nothing, Ways}
use Rattle.thr_remainder.specs.Remainders.{Item, Finishing, Move}
use Rattle.thr_remainder.specs.Starts.{still}
use Rattle.thr_remainder.specs.Steps.{ended, stored, kept, items_tried, line_tried, leaves}
use Rattle.thr_lines.specs.declared.row.Row.{Row}
use Rattle.thr_lines.specs.Layout.{line_at, last_line}
use Rattle.thr_lines.specs.AtLines.{EndsTryBody, FormAt}
use Rattle.thr_stack.specs.declared.frame.Kind.{Kind}
use Rattle.thr_stack.specs.declared.frame.Kind.TheVariants as kind
use Rattle.thr_stack.specs.declared.frame.Frame.{Frame}
use Rattle.thr_stack.specs.declared.context.Context.{Context}
use Rattle.thr_stack.specs.FrameLists.{FramesView, outside, below}
use Rattle.thr_stack.specs.Standing.{role_of, items_of, remainder_of, setting_of, IsLine, IsKind, AreFrames, Stands, StepsAnyhow, stored_calls, kept_by, Ends}
use Rattle.thr_stack.specs.Statements.{IsReturned}
use Rattle.thr_stack.proofs.LocalLaws.{stored_is, kept_is}
use Rattle.thr_stack.proofs.Sites.{ends_is, steps_by, good_stored, good_with}

-- ---- lines

pub ends_finally : (s : Script) (first : ℕ) (row : Row) (f : Form) → FormAt (line_at s) (last_line s) first row f → f ≡ form.Finally → Ends s first true
ends_finally s first row f a e =
    let b : FormAt (line_at s) (last_line s) first row form.Finally = subst (FormAt (line_at s) (last_line s) first row) e a in
    ((omega arith, omega (arith, b.inside)), b.ways)

pub ends_catches : (s : Script) (first : ℕ) (row : Row) (f : Form) → FormAt (line_at s) (last_line s) first row f → EndsTryBody f → (f ≡ form.Finally → ⊥) → Ends s first false
ends_catches s first row form.Header a w none = absurd w
ends_catches s first row (form.Interface i) a w none = absurd w
ends_catches s first row (form.Limit n) a w none = absurd w
ends_catches s first row (form.Shared x n) a w none = absurd w
ends_catches s first row (form.Exception x) a w none = absurd w
ends_catches s first row (form.Status x n) a w none = absurd w
ends_catches s first row (form.Mutex x) a w none = absurd w
ends_catches s first row (form.MutexAttr x) a w none = absurd w
ends_catches s first row (form.Cond x) a w none = absurd w
ends_catches s first row (form.Attr x) a w none = absurd w
ends_catches s first row (form.Key x) a w none = absurd w
ends_catches s first row (form.Once x) a w none = absurd w
ends_catches s first row (form.Pipe x n) a w none = absurd w
ends_catches s first row (form.Routine x p) a w none = absurd w
ends_catches s first row (form.Local p) a w none = absurd w
ends_catches s first row (form.Set v e) a w none = absurd w
ends_catches s first row (form.Say e) a w none = absurd w
ends_catches s first row (form.If e) a w none = absurd w
ends_catches s first row form.Else a w none = absurd w
ends_catches s first row (form.While e) a w none = absurd w
ends_catches s first row form.Try a w none = absurd w
ends_catches s first row (form.Catch x) a w none = (_, a.ways)
ends_catches s first row form.CatchAll a w none = (_, a.ways)
ends_catches s first row form.Finally a w none = absurd (none refl)
ends_catches s first row form.Endtry a w none = ([], a.ways)
ends_catches s first row (form.Raise x) a w none = absurd w
ends_catches s first row form.Reraise a w none = absurd w
ends_catches s first row (form.Call x e p) a w none = absurd w
ends_catches s first row (form.Return e) a w none = absurd w
ends_catches s first row (form.Exit e) a w none = absurd w
ends_catches s first row (form.Dce c) a w none = absurd w
ends_catches s first row form.End a w none = absurd w

-- ---- ends

module _ (s : Script) (k : Context) (n : List What) (h : Stands s k) (here : (line_at s k.line).left ≡ nothing k.line) (f : Frame) (frames : FramesView) (items : k.frames.items ≡ f ∷ frames.items) (size : frames.size ≡ k.frames.size) (calls : frames.calls ≡ below k.frames.calls f.kind) where
  frames_good : AreFrames s k.line k.frames.calls (f ∷ frames.items)
  frames_good = subst (AreFrames s k.line k.frames.calls) items h.good

  -- The frames below.
  below_good : AreFrames s f.back frames.calls frames.items
  unfolding frames_good
  below_good = good_with s f.back (below k.frames.calls f.kind) frames.calls frames.items calls frames_good.2

  -- A frame is left.
  left_frame : (x : Kind) (pending : Option Unwinding) (line : What) (more : List What) → f.kind ≡ x →
      ended (role_of s k.frames.calls x) (items_of s f.back (below k.frames.calls x) frames.items) (remainder_of s k) ≡
      record { to = record (remainder_of s k) { items = items_of s f.back (below k.frames.calls x) frames.items; under_way = pending }; lines = line ∷ [] } →
      more ≡ n ++ line ∷ [] → StepsAnyhow s k (record k { frames = frames; line = f.back; under_way = pending }) n more
  unfolding below_good
  left_frame x pending line more is step w tells shared =
      let r = remainder_of s k in
      let move : List Item → Move = λ is. record { to = record r { items = is; under_way = pending }; lines = line ∷ [] } in
      steps_by s k (record k { frames = frames; line = f.back; under_way = pending }) n more tells shared (move (items_of s f.back frames.calls frames.items))
      (ends_is s k f frames.items tells shared items here ∙ ap (λ (y : Kind). ended (role_of s k.frames.calls y) (items_of s f.back (below k.frames.calls y) frames.items) r) is
      ∙ step ∙ ap (λ cs. move (items_of s f.back cs frames.items)) (sym (calls ∙ ap (below k.frames.calls) is)))
      (record { to = refl; lines = w; setting = ap (λ z. record (setting_of s k) { size = z }) size; good = below_good })

  pub leave_catch : (scope : ℕ) (caught : Exc) (more : List What) → f.kind ≡ kind.Catch scope caught → more ≡ n ++ what.Endcatch scope ∷ [] → StepsAnyhow s k (record k { frames = frames; line = f.back }) n more
  leave_catch scope caught more is w = left_frame (kind.Catch scope caught) k.under_way (what.Endcatch scope) more is refl w

  pub leave_finally : (scope : ℕ) (pending : Option Unwinding) (more : List What) → f.kind ≡ kind.Finally scope pending → more ≡ n ++ what.Endfin scope ∷ [] →
      StepsAnyhow s k (record k { frames = frames; line = f.back; under_way = pending }) n more
  leave_finally scope pending more is w = left_frame (kind.Finally scope pending) pending (what.Endfin scope) more is refl w

  pub leave_once : (scope : ℕ) (block routine : NameId) (more : List What) → f.kind ≡ kind.Once scope block routine → more ≡ n ++ what.Done scope ∷ [] → StepsAnyhow s k (record k { frames = frames; line = f.back }) n more
  leave_once scope block routine more is w = left_frame (kind.Once scope block routine) k.under_way (what.Done scope) more is refl w

  pub leave_barrier : (scope : ℕ) (key routine : NameId) (more : List What) → f.kind ≡ kind.Barrier scope key routine → more ≡ n ++ what.Enddes scope ∷ [] → StepsAnyhow s k (record k { frames = frames; line = f.back }) n more
  leave_barrier scope key routine more is w = left_frame (kind.Barrier scope key routine) k.under_way (what.Enddes scope) more is refl w

  pub leave_try : (scope first : ℕ) (more : List What) → f.kind ≡ kind.Try scope first → Ends s first false → more ≡ n ++ what.Endtry scope ∷ [] → StepsAnyhow s k (record k { frames = frames; line = f.back }) n more
  leave_try scope first more is ways w =
      left_frame (kind.Try scope first) k.under_way (what.Endtry scope) more is
      (ap (λ (x : Ways). leaves (items_tried scope x (items_of s f.back k.frames.calls frames.items)) (line_tried scope x) (remainder_of s k)) ways.1) w

  pub leave_into_finally : (scope first : ℕ) (all : FramesView) (more : List What) → f.kind ≡ kind.Try scope first → Ends s first true → all ≡ record frames { items = record { kind = kind.Finally scope None; back = f.back } ∷ frames.items } →
      more ≡ n ++ what.Finally scope 0 ∷ [] → StepsAnyhow s k (record k { frames = all; line = first + 1 }) n more
  unfolding below_good
  leave_into_finally scope first all more is ways all_is w =
      let r = remainder_of s k in
      let outer = items_of s f.back k.frames.calls frames.items in
      let whole : FramesView = record frames { items = record { kind = kind.Finally scope None; back = f.back } ∷ frames.items } in
      let moved : StepsAnyhow s k (record k { frames = whole; line = first + 1 }) n more = λ tells shared.
      steps_by s k (record k { frames = whole; line = first + 1 }) n more tells shared
      (leaves (record { role = Finishing scope None; inside = (line_at s (first + 1)).left } ∷ outer) (what.Finally scope 0) r)
      (ends_is s k f frames.items tells shared items here ∙ ap (λ (y : Kind). ended (role_of s k.frames.calls y) (items_of s f.back (below k.frames.calls y) frames.items) r) is
      ∙ ap (λ (x : Ways). leaves (items_tried scope x outer) (line_tried scope x) r) ways.1)
      (record {
        to = ap (λ cs. record r { items = record { role = Finishing scope None; inside = (line_at s (first + 1)).left } ∷ items_of s f.back cs frames.items }) (calls ∙ ap (below k.frames.calls) is);
        lines = w;
        setting = ap (λ z. record (setting_of s k) { size = z }) size;
        good = (ways.0, tt, below_good);
      }) in
      subst (λ (p : FramesView). StepsAnyhow s k (record k { frames = p; line = first + 1 }) n more) (sym all_is) moved

  pub leave_call : (place : Option ℕ) (count : ℕ) (new : Context) → f.kind ≡ kind.Call place count → IsReturned (record k { frames = frames }) new place f.back (pos 0) → StepsAnyhow s k new n n
  unfolding below_good
  leave_call place count new is ret =
      let r = remainder_of s k in
      let move : List Item → ℤ → Move = λ is v. still (record r { items = is; value = v }) in
      let outer = items_of s f.back (outside k.frames.calls) frames.items in
      let there : Context = record k { frames = record frames { calls = stored_calls place (pos 0) frames.calls }; line = f.back; value = kept_by frames.items (pos 0) k.value } in
      let rest : frames.calls ≡ outside k.frames.calls = calls ∙ ap (below k.frames.calls) is in
      let moved : StepsAnyhow s k there n n = λ tells shared.
      steps_by s k there n n tells shared (move (stored place (pos 0) outer) (kept outer (pos 0) k.value))
      (ends_is s k f frames.items tells shared items here ∙ ap (λ (y : Kind). ended (role_of s k.frames.calls y) (items_of s f.back (below k.frames.calls y) frames.items) r) is)
      (record {
        to = ((λ i. (move (items_of s f.back (stored_calls place (pos 0) (rest i)) frames.items) (sym (kept_is s f.back (outside k.frames.calls) frames.items (pos 0) k.value) i)).to)
            ∙ ap (λ (x : List Item). (move x (kept outer (pos 0) k.value)).to) (sym (stored_is s place (pos 0) f.back (outside k.frames.calls) frames.items)));
        lines = sym (append-nil n);
        setting = ap (λ z. record (setting_of s k) { size = z }) size;
        good = good_stored s place (pos 0) f.back frames.calls frames.items below_good;
      }) in
      subst (λ (x : Context). StepsAnyhow s k x n n) (sym ret) moved

  pub try_line : (scope first : ℕ) → f.kind ≡ kind.Try scope first → IsLine s first × EndsTryBody (line_at s first).row.form
  unfolding frames_good
  try_line scope first is = subst (IsKind s) is frames_good.1
