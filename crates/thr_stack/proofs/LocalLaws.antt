-- Locals, and what expressions see of frames.
use Rattle.std.proofs.Common.{◌≡◌, ℕ, suc, ℤ, List, [], ◌∷◌, length, Option, Some, None, refl, ap, sym, ◌∙◌}
use Rattle.thr_values.specs.declared.exception.Exc.{Exc}
use Rattle.thr_syntax.specs.declared.tree.Script.{Script}
use Rattle.thr_remainder.specs.Remainders.{Item, locals_or, locals_in, with_local, caught_or, caught_in}
use Rattle.thr_remainder.specs.Steps.{stored, kept}
use Rattle.thr_lines.specs.Layout.{line_at}
use Rattle.thr_stack.specs.declared.frame.Kind.{Kind}
use Rattle.thr_stack.specs.declared.frame.Kind.TheVariants as kind
use Rattle.thr_stack.specs.declared.frame.Frame.{Frame}
use Rattle.thr_stack.specs.FrameLists as lists
use Rattle.thr_stack.specs.FrameLists.{caught_among, innermost, below, set_in}
use Rattle.thr_remainder.specs.Expressions.{SharedValues, sight_of}
use Rattle.thr_stack.specs.declared.context.Context.{Context}
use Rattle.thr_stack.specs.Sights.{seen}
use Rattle.thr_stack.specs.Standing.{role_of, items_of, remainder_of, setting_of, AreFrames, IsGood, stored_calls, kept_by}

module _ (s : Script) where
  with_local_by : (p : ℕ) (n : ℤ) (line : ℕ) (calls : List (List ℤ)) (fs : List Frame) (k : Kind) (back : ℕ) → with_local p n (items_of s back calls fs) ≡ items_of s back (set_in calls p n) fs →
      with_local p n (items_of s line calls (record { kind = k; back = back } ∷ fs)) ≡ items_of s line (set_in calls p n) (record { kind = k; back = back } ∷ fs)
  with_local_by p n line [] fs (kind.Call place count) back h = refl
  with_local_by p n line (locals ∷ calls) fs (kind.Call place count) back h = refl
  with_local_by p n line calls fs (kind.Try scope first) back h = ap (λ (is : List Item). record { role = role_of s calls (kind.Try scope first); inside = (line_at s line).left } ∷ is) h
  with_local_by p n line calls fs (kind.Catch scope caught) back h = ap (λ (is : List Item). record { role = role_of s calls (kind.Catch scope caught); inside = (line_at s line).left } ∷ is) h
  with_local_by p n line calls fs (kind.Finally scope pending) back h = ap (λ (is : List Item). record { role = role_of s calls (kind.Finally scope pending); inside = (line_at s line).left } ∷ is) h
  with_local_by p n line calls fs (kind.Once scope block routine) back h = ap (λ (is : List Item). record { role = role_of s calls (kind.Once scope block routine); inside = (line_at s line).left } ∷ is) h
  with_local_by p n line calls fs (kind.Barrier scope key routine) back h = ap (λ (is : List Item). record { role = role_of s calls (kind.Barrier scope key routine); inside = (line_at s line).left } ∷ is) h

  pub with_local_is : (p : ℕ) (n : ℤ) (line : ℕ) (calls : List (List ℤ)) (fs : List Frame) → with_local p n (items_of s line calls fs) ≡ items_of s line (set_in calls p n) fs
  with_local_is p n line calls [] = refl
  with_local_is p n line calls (f ∷ fs) = with_local_by p n line calls fs f.kind f.back (with_local_is p n f.back calls fs)

  pub stored_is : (place : Option ℕ) (n : ℤ) (line : ℕ) (calls : List (List ℤ)) (fs : List Frame) → stored place n (items_of s line calls fs) ≡ items_of s line (stored_calls place n calls) fs
  stored_is None n line calls fs = refl
  stored_is (Some p) n line calls fs = with_local_is p n line calls fs

  pub kept_is : (line : ℕ) (calls : List (List ℤ)) (fs : List Frame) (n v : ℤ) → kept (items_of s line calls fs) n v ≡ kept_by fs n v
  kept_is line calls [] n v = refl
  kept_is line calls (f ∷ fs) n v = refl

  -- The innermost call has the locals of the context.
  locals_by : (k : Kind) (calls : List (List ℤ)) (outer : List Item) → locals_in outer ≡ innermost (below calls k) → locals_or (role_of s calls k) (locals_in outer) ≡ innermost calls
  locals_by (kind.Call place count) calls outer h = refl
  locals_by (kind.Try scope first) calls outer h = h
  locals_by (kind.Catch scope caught) calls outer h = h
  locals_by (kind.Finally scope pending) calls outer h = h
  locals_by (kind.Once scope block routine) calls outer h = h
  locals_by (kind.Barrier scope key routine) calls outer h = h

  pub locals_are : (line : ℕ) (calls : List (List ℤ)) (fs : List Frame) → AreFrames s line calls fs → locals_in (items_of s line calls fs) ≡ innermost calls
  locals_are line calls [] h = sym (ap innermost h)
  locals_are line calls (f ∷ fs) h = locals_by f.kind calls (items_of s f.back (below calls f.kind) fs) (locals_are f.back (below calls f.kind) fs h.2)

  caught_by : (k : Kind) (calls : List (List ℤ)) (x : Exc) → caught_or (role_of s calls k) x ≡ lists.caught_or k x
  caught_by (kind.Call place count) calls x = refl
  caught_by (kind.Try scope first) calls x = refl
  caught_by (kind.Catch scope caught) calls x = refl
  caught_by (kind.Finally scope pending) calls x = refl
  caught_by (kind.Once scope block routine) calls x = refl
  caught_by (kind.Barrier scope key routine) calls x = refl

  pub caught_is : (line : ℕ) (calls : List (List ℤ)) (fs : List Frame) → caught_in (items_of s line calls fs) ≡ caught_among fs
  caught_is line calls [] = refl
  caught_is line calls (f ∷ fs) = ap (caught_or (role_of s calls f.kind)) (caught_is f.back (below calls f.kind) fs) ∙ caught_by f.kind calls (caught_among fs)

  pub length_items : (line : ℕ) (calls : List (List ℤ)) (fs : List Frame) → length (items_of s line calls fs) ≡ length fs
  length_items line calls [] = refl
  length_items line calls (f ∷ fs) = ap suc (length_items f.back (below calls f.kind) fs)

-- ---- what an expression sees

pub sight_is : (s : Script) (k : Context) (shared : SharedValues) → IsGood s k → seen s k shared ≡ sight_of (setting_of s k) shared (remainder_of s k)
sight_is s k shared good =
    λ i. record { script = s; me = k.me; locals = sym (locals_are s k.line k.frames.calls k.frames.items good) i; caught = sym (caught_is s k.line k.frames.calls k.frames.items) i; err = k.err; shared = shared }
