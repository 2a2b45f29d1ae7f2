-- Unwindings that set out, and statements without an expression.
use Rattle.std.proofs.Common.{◌≡◌, ℕ, ◌+◌, ◌<◌, List, [], ◌∷◌, ◌++◌, length, Some, Bool, true, false, if◌then◌else◌, refl, ap, sym, ◌∙◌, subst, arith, append-nil}
use Rattle.thr_values.specs.declared.number.NameId.{NameId}
use Rattle.thr_values.specs.declared.exception.Exc.{Exc}
use Rattle.thr_values.specs.declared.history.What.{What}
use Rattle.thr_values.specs.declared.history.What.TheVariants as what
use Rattle.thr_values.specs.Exceptions.{stackovf_e}
use Rattle.thr_syntax.specs.declared.dce.DceCall.{DceCall}
use Rattle.thr_syntax.specs.declared.tree.Script.{Script}
use Rattle.thr_remainder.specs.declared.unwinding.Cause.{Cause}
use Rattle.thr_remainder.specs.Acts.{Act, Tries, Raises, RaisesAgain, Asks}
use Rattle.thr_remainder.specs.Declarations.{exception_value}
use Rattle.thr_remainder.specs.Remainders.{Item, Trying, Move}
use Rattle.thr_remainder.specs.Starts.{at, raised, raised_again, tries}
use Rattle.thr_lines.specs.declared.row.Row.{Row}
use Rattle.thr_lines.specs.Layout.{line_at, last_line}
use Rattle.thr_lines.specs.AtLines.{StatementAt, TryAt}
use Rattle.thr_stack.specs.declared.frame.Kind.TheVariants as kind
use Rattle.thr_stack.specs.declared.frame.Frame.{Frame}
use Rattle.thr_stack.specs.declared.context.Context.{Context}
use Rattle.thr_stack.specs.FrameLists.{FramesView, caught_among}
use Rattle.thr_stack.specs.Standing.{remainder_of, items_of, IsGood, Stands, Makes, StepsAnyhow, set_out}
use Rattle.thr_stack.proofs.LocalLaws.{caught_is}
use Rattle.thr_stack.proofs.Sites.{site, spot, step_is, steps_by, good_at, some_line, has_room_is, no_room_is}

-- ---- unwindings

-- The next unwinding is under way, and its line is written.
pub makes_unwinding : (s : Script) (k new : Context) (c : Cause) (line : What) (before after : List What) → IsGood s k → new ≡ set_out c k → after ≡ before ++ line ∷ [] →
    Makes s (record { to = remainder_of s (set_out c k); lines = line ∷ [] }) k new before after
makes_unwinding s k new c line before after good is w =
    let moved : Makes s (record { to = remainder_of s (set_out c k); lines = line ∷ [] }) k (set_out c k) before after = record { to = refl; lines = w; setting = refl; good = good } in
    subst (λ (x : Context). Makes s (record { to = remainder_of s (set_out c k); lines = line ∷ [] }) k x before after) (sym is) moved

-- ---- statements

module _ (s : Script) (k : Context) (h : Stands s k) (before : List What) where
  pub raises_named : (new : Context) (after : List What) (name : NameId) (x : Exc) → StatementAt (line_at s) (last_line s) k.line (Raises name) false → x ≡ exception_value s name → Makes s (raised x (remainder_of s k)) k new before after →
      StepsAnyhow s k new before after
  raises_named new after name x a is m tells shared =
      let t = site s k _ (Raises name) false h.some a.does in
      steps_by s k new before after tells shared _ (step_is s k _ (Raises name) t tells shared ∙ ap (λ (y : Exc). raised y (remainder_of s k)) (sym is)) m

  pub reraises : (new : Context) (after : List What) (x : Exc) → StatementAt (line_at s) (last_line s) k.line RaisesAgain false → x ≡ caught_among k.frames.items → Makes s (raised_again x (remainder_of s k)) k new before after →
      StepsAnyhow s k new before after
  reraises new after x a is m tells shared =
      let t = site s k _ RaisesAgain false h.some a.does in
      steps_by s k new before after tells shared _
      (step_is s k _ RaisesAgain t tells shared ∙ ap (λ (y : Exc). raised_again y (remainder_of s k)) (caught_is s k.line k.frames.calls k.frames.items ∙ sym is)) m

  pub asks : (call : DceCall) → StatementAt (line_at s) (last_line s) k.line (Asks call) true → StepsAnyhow s k k before before
  asks call a tells shared =
      let t = site s k _ (Asks call) true h.some a.does in
      steps_by s k k before before tells shared _ (step_is s k _ (Asks call) t tells shared) (record { to = refl; lines = sym (append-nil before); setting = refl; good = h.good })

  module _ (row : Row) (a : TryAt (line_at s) (last_line s) k.line row) where
    abbrev tries_here : Act
    tries_here = Tries (line_at s (k.line + 1)).left (line_at s a.next).ways

    pub enters_full : (new : Context) (after : List What) → length k.frames.items ≡ k.frames.size → Makes s (raised stackovf_e (remainder_of s k)) k new before after → StepsAnyhow s k new before after
    enters_full new after full m tells shared =
        let t = site s k _ tries_here false h.some a.does in
        let r = remainder_of s k in
        steps_by s k new before after tells shared _
        (step_is s k _ tries_here t tells shared
        ∙ ap (λ (b : Bool). if b then tries (line_at s (k.line + 1)).left (line_at s a.next).ways (spot s k _ tries_here t) r else raised stackovf_e r) (no_room_is s k full)) m

    abbrev entered : ℕ → ℕ → FramesView
    entered first back = record k.frames { items = record { kind = kind.Try (k.scopes + 1) first; back = back } ∷ k.frames.items }

    enters_at : (after : List What) → length k.frames.items < k.frames.size → after ≡ before ++ what.Try (k.scopes + 1) (at k.line) ∷ [] →
        StepsAnyhow s k (record k { frames = entered a.next a.after; line = k.line + 1; scopes = k.scopes + 1 }) before after
    enters_at after room w tells shared =
        let t = site s k _ tries_here false h.some a.does in
        let r = remainder_of s k in
        let new : Context = record k { frames = entered a.next a.after; line = k.line + 1; scopes = k.scopes + 1 } in
        let move : List Item → Move = λ is. record {
          to = record r { items = record { role = Trying (r.scopes + 1) (line_at s a.next).ways; inside = (line_at s (k.line + 1)).left } ∷ is; scopes = r.scopes + 1 };
          lines = what.Try (r.scopes + 1) (at k.line) ∷ [];
        } in
        let rest : List Frame → List Item = λ fs. items_of s a.after k.frames.calls fs in
        steps_by s k new before after tells shared (move (rest (t.frame ∷ t.outer)))
        (step_is s k _ tries_here t tells shared ∙ ap (λ (b : Bool). if b then move (rest (t.frame ∷ t.outer)) else raised stackovf_e r) (has_room_is s k room))
        (record {
          to = ap (λ (fs : List Frame). (move (rest fs)).to) t.items;
          lines = w;
          setting = refl;
          good = (
            (omega arith, omega (arith, a.below, a.above, a.inside)),
            ((omega (arith, a.below), omega (arith, a.above, a.inside)), a.way),
            good_at s k.line a.after k.frames.calls k.frames.items (omega (arith, a.above), a.inside) h.good,
          );
        })

    pub enters : (after : List What) (first back : ℕ) (frames : FramesView) → length k.frames.items < k.frames.size → row.next ≡ Some (at first) → row.after ≡ Some (at back) → frames ≡ entered first back →
        after ≡ before ++ what.Try (k.scopes + 1) (at k.line) ∷ [] → StepsAnyhow s k (record k { frames = frames; line = k.line + 1; scopes = k.scopes + 1 }) before after
    enters after first back frames room next after_is is w =
        let i : a.next ≡ first = some_line a.next first (sym a.next_is ∙ next) in
        let j : a.after ≡ back = some_line a.after back (sym a.after_is ∙ after_is) in
        let same : entered a.next a.after ≡ frames = (λ x. entered (i x) (j x)) ∙ sym is in
        subst (λ (f : FramesView). StepsAnyhow s k (record k { frames = f; line = k.line + 1; scopes = k.scopes + 1 }) before after) same (enters_at after room w)
