-- Ends of once blocks.
use Rattle.std.proofs.Common.{◌≡◌, ℕ, ◌<◌, ℤ, Bool, true, false, List, [], ◌∷◌, ◌++◌, if◌then◌else◌, Option, Some, None, refl, ap, sym, ◌∙◌, subst, arith}
use Rattle.thr_values.specs.declared.number.NameId.{NameId}
use Rattle.thr_values.specs.declared.history.What.{What}
use Rattle.thr_values.specs.declared.history.What.TheVariants as what
use Rattle.thr_syntax.specs.declared.tree.Script.{Script}
use Rattle.thr_syntax.specs.Shared.{is_shared}
use Rattle.thr_remainder.specs.declared.unwinding.Unwinding.{Unwinding}
use Rattle.thr_remainder.specs.Places.{Placed}
use Rattle.thr_remainder.specs.Acts.{Act, Sets, Says, Chooses, Repeats, Tries, Raises, RaisesAgain, Calls, Returns, Exits, Asks}
use Rattle.thr_remainder.specs.Remainders.{Item, Role, Calling, Trying, Catching, Finishing, Doing, Barrier, Remainder, Move, Spot, Place, AtEnd, place_in, place_inside, act_at}
use Rattle.thr_remainder.specs.Calls.{is_point, shape_of}
use Rattle.thr_remainder.specs.Expressions.{none_shared}
use Rattle.thr_remainder.specs.Steps.{leaves, step_at, quiet}
use Rattle.thr_remainder.specs.Outward.{outward, undone}
use Rattle.thr_remainder.specs.Next.{Next, GoesOutward, UndoesOnce, EndsThread, EndsOnce, Shares, IsAtPoint, StepsQuietly, next_at, next_end, next_shared, next_outward, outward_or_undone, next}
use Rattle.thr_lines.specs.Layout.{line_at}
use Rattle.thr_stack.specs.declared.frame.Kind.{Kind}
use Rattle.thr_stack.specs.declared.frame.Kind.TheVariants as kind
use Rattle.thr_stack.specs.declared.frame.Frame.{Frame}
use Rattle.thr_stack.specs.declared.context.Context.{Context}
use Rattle.thr_stack.specs.FrameLists.{AtOnce, below}
use Rattle.thr_stack.specs.Standing.{role_of, items_of, remainder_of, setting_of, AreFrames, IsGood, Makes}
use Rattle.thr_stack.specs.Onces.{HasLeft}
use Rattle.thr_stack.proofs.NextLaws.{by_unwinding, free_next}
use Rattle.thr_stack.proofs.Sites.{good_with}

-- ---- next steps of once blocks

-- 1 where a once routine ends, 2 where a once block is undone.
abbrev sign : Next → ℕ
sign (GoesOutward move) = 0
sign (UndoesOnce block move) = 2
sign EndsThread = 0
sign (EndsOnce block move) = 1
sign (Shares h) = 0
sign (IsAtPoint h) = 0
sign (StepsQuietly move) = 0

-- This number at a once block's item, and 0 at others.
abbrev doing : Role → ℕ → ℕ
doing (Calling locals place) n = 0
doing (Trying scope ways) n = 0
doing (Catching scope caught) n = 0
doing (Finishing scope pending) n = 0
doing (Doing scope block routine) n = n
doing (Barrier scope key routine) n = 0

sign_end : (x : Role) (outer : List Item) (r : Remainder) (m : Move) → sign (next_end x outer r m) ≡ doing x 1
sign_end (Calling locals place) outer r m = refl
sign_end (Trying scope ways) outer r m = refl
sign_end (Catching scope caught) outer r m = refl
sign_end (Finishing scope pending) outer r m = refl
sign_end (Doing scope block routine) outer r m = refl
sign_end (Barrier scope key routine) outer r m = refl

sign_out : (x : Role) (u : Unwinding) (outer : List Item) (r : Remainder) (m : Move) → sign (outward_or_undone x u outer r m) ≡ doing x 2
sign_out (Calling locals place) u outer r m = refl
sign_out (Trying scope ways) u outer r m = refl
sign_out (Catching scope caught) u outer r m = refl
sign_out (Finishing scope pending) u outer r m = refl
sign_out (Doing scope block routine) u outer r m = refl
sign_out (Barrier scope key routine) u outer r m = refl

sign_point : (b : Bool) (h : Spot) → sign (if b then IsAtPoint h else Shares h) ≡ 0
sign_point true h = refl
sign_point false h = refl

sign_shared : (a : Act) (h : Spot) → sign (next_shared a h) ≡ 0
sign_shared (Sets v e) h = refl
sign_shared (Says e) h = refl
sign_shared (Chooses e body other) h = refl
sign_shared (Repeats e again) h = refl
sign_shared (Tries body ways) h = refl
sign_shared (Raises name) h = refl
sign_shared RaisesAgain h = refl
sign_shared (Calls routine e place) h = refl
sign_shared (Returns e) h = refl
sign_shared (Exits e) h = refl
sign_shared (Asks call) h = sign_point (is_point (shape_of call).word) h

sign_if : (b : Bool) (a : Act) (h : Spot) (m : Move) → sign (if b then next_shared a h else StepsQuietly m) ≡ 0
sign_if true a h m = sign_shared a h
sign_if false a h m = refl

not_doing : (x : Role) (n m : ℕ) → 0 < n → 0 < m → (n ≡ m → ⊥) → doing x n ≡ m → ⊥
not_doing (Calling locals place) n m i j d e = absurd (omega (arith, j, e))
not_doing (Trying scope ways) n m i j d e = absurd (omega (arith, j, e))
not_doing (Catching scope caught) n m i j d e = absurd (omega (arith, j, e))
not_doing (Finishing scope pending) n m i j d e = absurd (omega (arith, j, e))
not_doing (Doing scope block routine) n m i j d e = d e
not_doing (Barrier scope key routine) n m i j d e = absurd (omega (arith, j, e))

-- A frame whose item is a once block's is one's.
doing_kind : (s : Script) (calls : List (List ℤ)) (x : Kind) (n : ℕ) → 0 < n → doing (role_of s calls x) n ≡ n → (scope : ℕ) × (block : NameId) × (routine : NameId) × (x ≡ kind.Once scope block routine)
doing_kind s calls (kind.Call place count) n i e = absurd (omega (arith, i, e))
doing_kind s calls (kind.Try scope first) n i e = absurd (omega (arith, i, e))
doing_kind s calls (kind.Catch scope caught) n i e = absurd (omega (arith, i, e))
doing_kind s calls (kind.Finally scope pending) n i e = absurd (omega (arith, i, e))
doing_kind s calls (kind.Once scope block routine) n i e = (scope, block, routine, refl)
doing_kind s calls (kind.Barrier scope key routine) n i e = absurd (omega (arith, i, e))

-- ---- where no unwinding is under way

-- At a place, a once block can only end, and nothing is left in it.
sign_inside : (todo : List Placed) (close : ℕ) (x : Role) (outer : List Item) (r : Remainder) (m : Move) (n : ℕ) → 0 < n → sign (next_at (place_inside todo close x outer) r m) ≡ n → (todo ≡ []) × (doing x 1 ≡ n)
sign_inside [] close x outer r m n i e = (refl, sym (sign_end x outer r m) ∙ e)
sign_inside (p ∷ todo) close x outer r m n i e =
    let h : Spot = record { line = p.line; stmt = p.stmt; rest = record { todo = todo; close = close }; role = x; outer = outer } in
    let zero_is : 0 ≡ n = sym (sign_if (is_shared h.stmt) (act_at h) h m) ∙ e in
    absurd (omega (arith, i, zero_is))

-- The once block whose routine ends where a context stands.
pub record EndsHere (s : Script) (k : Context) : Type 0 where
  pub free : k.under_way ≡ None
  pub todo : (line_at s k.line).left.todo ≡ []
  pub at_once : AtOnce k.frames.items true

module _ (s : Script) (k : Context) where
  sign_under : (u : Unwinding) (items : List Item) (m : Move) → sign (next_outward u items (remainder_of s k) m) ≡ 1 → ⊥
  sign_under u [] m e = absurd (omega (arith, e))
  sign_under u (i ∷ outer) m e = not_doing i.role 2 1 (omega arith) (omega arith) (λ z. absurd (omega (arith, z))) (sym (sign_out i.role u outer (remainder_of s k) m) ∙ e)

  free_sign : (items : List Frame) (n : ℕ) → k.under_way ≡ None → k.frames.items ≡ items → sign (next (setting_of s k) (remainder_of s k)) ≡ n →
      sign (next_at (place_in (items_of s k.line k.frames.calls items)) (remainder_of s k) (quiet (setting_of s k) (remainder_of s k))) ≡ n
  free_sign items n free same e =
      let r = remainder_of s k in
      let q = quiet (setting_of s k) r in
      sym (ap (λ (is : List Frame). sign (next_at (place_in (items_of s k.line k.frames.calls is)) r q)) same) ∙ (ap sign (sym (free_next s k free)) ∙ e)

  sign_free : (n : ℕ) → k.under_way ≡ None → 0 < n → sign (next (setting_of s k) (remainder_of s k)) ≡ n →
      (f : Frame) × (fs : List Frame) × (k.frames.items ≡ f ∷ fs) × ((line_at s k.line).left.todo ≡ []) × (doing (role_of s k.frames.calls f.kind) 1 ≡ n)
  sign_free n free i e = by k.frames.items refl
    where
      by : (items : List Frame) → k.frames.items ≡ items → (f : Frame) × (fs : List Frame) × (k.frames.items ≡ f ∷ fs) × ((line_at s k.line).left.todo ≡ []) × (doing (role_of s k.frames.calls f.kind) 1 ≡ n)
      by [] same = let none : 0 ≡ n = free_sign [] n free same e in absurd (omega (arith, i, none))
      by (f ∷ fs) same =
          let left = (line_at s k.line).left in
          let t = sign_inside left.todo left.close (role_of s k.frames.calls f.kind) (items_of s f.back (below k.frames.calls f.kind) fs) (remainder_of s k) (quiet (setting_of s k) (remainder_of s k)) n i (free_sign (f ∷ fs) n free same e) in
          (f, fs, same, t.0, t.1)

  pub ends_here : (block : NameId) (move : Move) → next (setting_of s k) (remainder_of s k) ≡ EndsOnce block move → EndsHere s k
  ends_here block move e = by k.under_way refl
    where
      by : (o : Option Unwinding) → k.under_way ≡ o → EndsHere s k
      by (Some u) under = absurd (sign_under u (items_of s k.line k.frames.calls k.frames.items) (outward (setting_of s k) u (remainder_of s k)) (ap sign (sym (by_unwinding s k u under) ∙ e)))
      by None free =
          let t = sign_free 1 free (omega arith) (ap sign e) in
          let x = doing_kind s k.frames.calls t.0.kind 1 (omega arith) t.4 in
          record { free = free; todo = t.3; at_once = (t.0, t.1, x.0, x.1, x.2, t.2, x.3) }

  -- ---- where an unwinding is under way

  pub undoes_under : (block : NameId) (move : Move) → next (setting_of s k) (remainder_of s k) ≡ UndoesOnce block move → k.under_way ≡ None → ⊥
  undoes_under block move e free =
      let t = sign_free 2 free (omega arith) (ap sign e) in
      not_doing (role_of s k.frames.calls t.0.kind) 1 2 (omega arith) (omega arith) (λ z. absurd (omega (arith, z))) t.4

  under_sign : (items : List Frame) (u : Unwinding) → k.under_way ≡ Some u → k.frames.items ≡ items → sign (next (setting_of s k) (remainder_of s k)) ≡ 2 →
      sign (next_outward u (items_of s k.line k.frames.calls items) (remainder_of s k) (outward (setting_of s k) u (remainder_of s k))) ≡ 2
  under_sign items u under same e =
      let r = remainder_of s k in
      let m = outward (setting_of s k) u r in
      sym (ap (λ (is : List Frame). sign (next_outward u (items_of s k.line k.frames.calls is) r m)) same) ∙ (ap sign (sym (by_unwinding s k u under)) ∙ e)

  pub undoes_here : (block : NameId) (move : Move) (u : Unwinding) → next (setting_of s k) (remainder_of s k) ≡ UndoesOnce block move → k.under_way ≡ Some u → AtOnce k.frames.items true
  undoes_here block move u e under = by k.frames.items refl
    where
      by : (items : List Frame) → k.frames.items ≡ items → AtOnce k.frames.items true
      by [] same = let none : 0 ≡ 2 = under_sign [] u under same (ap sign e) in absurd (omega (arith, none))
      by (f ∷ fs) same =
          let r = remainder_of s k in
          let role = role_of s k.frames.calls f.kind in
          let outer = items_of s f.back (below k.frames.calls f.kind) fs in
          let x = doing_kind s k.frames.calls f.kind 2 (omega arith) (sym (sign_out role u outer r (outward (setting_of s k) u r)) ∙ under_sign (f ∷ fs) u under same (ap sign e)) in
          (f, fs, x.0, x.1, x.2, same, x.3)

  -- ---- the moves

  module _ (new : Context) (before after : List What) (scope : ℕ) (block : NameId) (good : IsGood s k) (h : HasLeft k new scope block) where
    below_same : below k.frames.calls h.frame.kind ≡ k.frames.calls
    below_same = ap (below k.frames.calls) h.is_once

    abbrev outer : List Item
    outer = items_of s h.frame.back k.frames.calls new.frames.items

    -- The items, of which the innermost is the once block's.
    items_are : (remainder_of s k).items ≡ record { role = Doing scope block h.routine; inside = (line_at s k.line).left } ∷ outer
    items_are =
        ap (items_of s k.line k.frames.calls) h.items
        ∙ (λ i. record { role = role_of s k.frames.calls (h.is_once i); inside = (line_at s k.line).left } ∷ items_of s h.frame.back (below_same i) new.frames.items)

    left_makes : (line : What) → after ≡ before ++ line ∷ [] → Makes s (leaves outer line (remainder_of s k)) k new before after
    left_makes line w =
        let frames = subst (AreFrames s k.line k.frames.calls) h.items good in
        let there : Context = record k { frames = new.frames; line = h.frame.back } in
        let made : Makes s (leaves outer line (remainder_of s k)) k there before after = record {
          to = ap (λ (cs : List (List ℤ)). record (remainder_of s k) { items = items_of s h.frame.back cs new.frames.items }) (h.calls ∙ below_same);
          lines = w;
          setting = ap (λ (z : ℕ). record (setting_of s k) { size = z }) h.size;
          good = good_with s h.frame.back (below k.frames.calls h.frame.kind) new.frames.calls new.frames.items h.calls frames.2;
        } in
        subst (λ (x : Context). Makes s (leaves outer line (remainder_of s k)) k x before after) (sym h.same) made

    pub ends_once : EndsHere s k → after ≡ before ++ what.Done scope ∷ [] →
        (move : Move) × (next (setting_of s k) (remainder_of s k) ≡ EndsOnce block move) × Makes s move k new before after
    unfolding quiet
    ends_once e w =
        let g = setting_of s k in
        let r = remainder_of s k in
        let left = (line_at s k.line).left in
        let place_is : place_in r.items ≡ AtEnd left.close (Doing scope block h.routine) outer =
        ap place_in items_are ∙ ap (λ (todo : List Placed). place_inside todo left.close (Doing scope block h.routine) outer) e.todo in (
          leaves outer (what.Done scope) r,
          free_next s k e.free ∙ ap (λ (p : Place). next_at p r (step_at g false none_shared p r)) place_is,
          left_makes (what.Done scope) w,
        )

    pub undoes_once : (u : Unwinding) → k.under_way ≡ Some u → after ≡ before ++ what.Undone scope u.number ∷ [] →
        (move : Move) × (next (setting_of s k) (remainder_of s k) ≡ UndoesOnce block move) × Makes s move k new before after
    undoes_once u under w =
        let r = remainder_of s k in (
          undone scope u outer r,
          by_unwinding s k u under ∙ ap (λ (is : List Item). next_outward u is r (outward (setting_of s k) u r)) items_are,
          left_makes (what.Undone scope u.number) w,
        )
