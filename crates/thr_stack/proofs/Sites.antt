-- The statement at the innermost place, and what its step is.
use Rattle.std.proofs.Common.{◌≡◌, ◌≢◌, ℕ, ◌-◌, ◌<◌, ℤ, List, [], ◌∷◌, length, Option, Some, None, Bool, true, false, nat_le, refl, ap, sym, ◌∙◌, subst, arith}
use Rattle.std.proofs.lemmas.Bool.Decides.{nat_tests}
use Rattle.thr_values.specs.declared.number.Line.{Line}
use Rattle.thr_values.specs.declared.history.What.{What}
use Rattle.thr_syntax.specs.declared.tree.Stmt.{Stmt}
use Rattle.thr_syntax.specs.declared.tree.Script.{Script}
use Rattle.thr_remainder.specs.Places.{Left, stmt_then, nothing}
use Rattle.thr_remainder.specs.Acts.{Act, act_of}
use Rattle.thr_remainder.specs.Remainders.{Move, Spot, Place, At, place_in, place_inside, has_room}
use Rattle.thr_remainder.specs.Expressions.{SharedValues}
use Rattle.thr_remainder.specs.Starts.{at}
use Rattle.thr_remainder.specs.Steps.{step_at, made, ended, after, valued, write_at, write_by}
use Rattle.thr_lines.specs.Layout.{line_at}
use Rattle.thr_lines.specs.AtLines.{ActsAt}
use Rattle.thr_stack.specs.declared.frame.Kind.{Kind}
use Rattle.thr_stack.specs.declared.frame.Kind.TheVariants as kind
use Rattle.thr_stack.specs.declared.frame.Frame.{Frame}
use Rattle.thr_stack.specs.declared.context.Context.{Context}
use Rattle.thr_stack.specs.FrameLists.{below, set_in}
use Rattle.thr_stack.specs.Standing.{role_of, items_of, remainder_of, setting_of, IsLine, AreFrames, IsGood, Makes, Steps, stored_calls}
use Rattle.thr_stack.specs.Statements.{valued_at, after_at}
use Rattle.thr_stack.proofs.LocalLaws.{length_items}

-- ---- frames

-- The innermost frame.
pub top : (k : Context) → k.frames.items ≢ [] → (f : Frame) × (fs : List Frame) × (k.frames.items ≡ f ∷ fs)
top k some = by k.frames.items refl
  where
    by : (items : List Frame) → k.frames.items ≡ items → (f : Frame) × (fs : List Frame) × (k.frames.items ≡ f ∷ fs)
    by [] e = absurd (some e)
    by (f ∷ fs) e = (f, fs, e)

-- The frames are good at another line too.
pub good_at : (s : Script) (l m : ℕ) (calls : List (List ℤ)) (items : List Frame) → IsLine s m → AreFrames s l calls items → AreFrames s m calls items
good_at s l m calls [] i h = h
good_at s l m calls (f ∷ fs) i h = (i, h.1, h.2)

pub line_here : (s : Script) (k : Context) → IsGood s k → k.frames.items ≢ [] → IsLine s k.line
line_here s k good some = by k.frames.items refl good
  where
    by : (items : List Frame) → k.frames.items ≡ items → AreFrames s k.line k.frames.calls items → IsLine s k.line
    by [] e h = absurd (some e)
    by (f ∷ fs) e h = h.0

-- The frames are good with another value of a local too.
below_set : (s : Script) (p : ℕ) (n : ℤ) (l : ℕ) (calls : List (List ℤ)) (x : Kind) (items : List Frame) → (AreFrames s l calls items → AreFrames s l (set_in calls p n) items) → AreFrames s l (below calls x) items →
    AreFrames s l (below (set_in calls p n) x) items
below_set s p n l [] (kind.Call place count) items keeps h = h
below_set s p n l (locals ∷ calls) (kind.Call place count) items keeps h = h
below_set s p n l calls (kind.Try scope first) items keeps h = keeps h
below_set s p n l calls (kind.Catch scope caught) items keeps h = keeps h
below_set s p n l calls (kind.Finally scope pending) items keeps h = keeps h
below_set s p n l calls (kind.Once scope block routine) items keeps h = keeps h
below_set s p n l calls (kind.Barrier scope key routine) items keeps h = keeps h

pub good_set : (s : Script) (p : ℕ) (n : ℤ) (l : ℕ) (calls : List (List ℤ)) (items : List Frame) → AreFrames s l calls items → AreFrames s l (set_in calls p n) items
good_set s p n l calls [] h = ap (λ (cs : List (List ℤ)). set_in cs p n) h
good_set s p n l calls (f ∷ fs) h = (h.0, h.1, below_set s p n f.back calls f.kind fs (good_set s p n f.back calls fs) h.2)

pub good_stored : (s : Script) (place : Option ℕ) (n : ℤ) (l : ℕ) (calls : List (List ℤ)) (items : List Frame) → AreFrames s l calls items → AreFrames s l (stored_calls place n calls) items
good_stored s None n l calls items h = h
good_stored s (Some p) n l calls items h = good_set s p n l calls items h

-- The frames are good with the same locals.
pub good_with : (s : Script) (l : ℕ) (old new : List (List ℤ)) (items : List Frame) → new ≡ old → AreFrames s l old items → AreFrames s l new items
good_with s l old new items same h = subst (λ (cs : List (List ℤ)). AreFrames s l cs items) (sym same) h

-- ---- tests

room_for : (size count : ℕ) → count < size → nat_le 1 (size - count) ≡ true
room_for size count h = grind (arith, nat_tests)

no_room : (size count : ℕ) → count ≡ size → nat_le 1 (size - count) ≡ false
no_room size count h = grind (arith, nat_tests)

pub has_room_is : (s : Script) (k : Context) → length k.frames.items < k.frames.size → has_room (setting_of s k) (remainder_of s k) 1 ≡ true
has_room_is s k h = room_for k.frames.size (length (items_of s k.line k.frames.calls k.frames.items)) (omega (arith, h, length_items s k.line k.frames.calls k.frames.items))

pub no_room_is : (s : Script) (k : Context) → length k.frames.items ≡ k.frames.size → has_room (setting_of s k) (remainder_of s k) 1 ≡ false
no_room_is s k h = no_room k.frames.size (length (items_of s k.line k.frames.calls k.frames.items)) (length_items s k.line k.frames.calls k.frames.items ∙ h)

pub some_line : (m n : ℕ) → (let x : Option Line = Some (at m) in x) ≡ Some (at n) → m ≡ n
some_line m n h = ap number h
  where
    number : Option Line → ℕ
    number None = 0
    number (Some line) = line.0

-- ---- sites

-- The statement where a context stands: what it does first, and what is left after it.
pub record Site (s : Script) (k : Context) (rest : Left) (act : Act) : Type 0 where
  pub frame : Frame
  pub outer : List Frame
  pub items : k.frames.items ≡ frame ∷ outer
  pub stmt : Stmt
  pub here : (line_at s k.line).left ≡ stmt_then k.line stmt rest
  pub acts : act_of k.line stmt rest ≡ act

unfoldable pub site : (s : Script) (k : Context) (rest : Left) (act : Act) (shared : Bool) → k.frames.items ≢ [] → ActsAt (line_at s) k.line rest act shared → Site s k rest act
site s k rest act shared some d = let t = top k some in record { frame = t.0; outer = t.1; items = t.2; stmt = d.stmt; here = d.here; acts = d.acts }

module _ (s : Script) (k : Context) (rest : Left) (act : Act) (t : Site s k rest act) where
  abbrev pub spot : Spot
  spot = record {
    line = k.line;
    stmt = t.stmt;
    rest = rest;
    role = role_of s k.frames.calls t.frame.kind;
    outer = items_of s t.frame.back (below k.frames.calls t.frame.kind) t.outer;
  }

  pub place_is : place_in (remainder_of s k).items ≡ At spot
  place_is =
      let role = role_of s k.frames.calls t.frame.kind in
      let outer = items_of s t.frame.back (below k.frames.calls t.frame.kind) t.outer in
      ap (λ (is : List Frame). place_in (items_of s k.line k.frames.calls is)) t.items ∙ ap (λ (l : Left). place_inside l.todo l.close role outer) t.here

  pub step_is : (tells : Bool) (shared : SharedValues) → step_at (setting_of s k) tells shared (place_in (remainder_of s k).items) (remainder_of s k) ≡ made (setting_of s k) tells shared act spot (remainder_of s k)
  step_is tells shared =
      let g = setting_of s k in
      let r = remainder_of s k in
      ap (λ (p : Place). step_at g tells shared p r) place_is ∙ ap (λ (a : Act). made g tells shared a spot r) t.acts

  pub write_is : (shared : SharedValues) → write_at (setting_of s k) shared (place_in (remainder_of s k).items) (remainder_of s k) ≡ write_by (setting_of s k) shared act (remainder_of s k)
  write_is shared =
      let g = setting_of s k in
      let r = remainder_of s k in
      ap (λ (p : Place). write_at g shared p r) place_is ∙ ap (λ (a : Act). write_by g shared a r) t.acts

  pub valued_is : (tells : Bool) (n : ℤ) → valued_at (setting_of s k) tells (place_in (remainder_of s k).items) (remainder_of s k) n ≡ valued (setting_of s k) tells act spot (remainder_of s k) n
  valued_is tells n =
      let g = setting_of s k in
      let r = remainder_of s k in
      ap (λ (p : Place). valued_at g tells p r n) place_is ∙ ap (λ (a : Act). valued g tells a spot r n) t.acts

  pub after_is : (n : ℤ) → after_at (setting_of s k) (place_in (remainder_of s k).items) (remainder_of s k) n ≡ after (setting_of s k) act n spot (remainder_of s k)
  after_is n =
      let g = setting_of s k in
      let r = remainder_of s k in
      ap (λ (p : Place). after_at g p r n) place_is ∙ ap (λ (a : Act). after g a n spot r) t.acts

-- ---- steps

-- A step that is known was made.
pub steps_by : (s : Script) (k new : Context) (before after : List What) (tells : Bool) (shared : SharedValues) (m : Move) →
    step_at (setting_of s k) tells shared (place_in (remainder_of s k).items) (remainder_of s k) ≡ m → Makes s m k new before after → Steps s tells shared k new before after
steps_by s k new before after tells shared m q h = subst (λ (x : Move). Makes s x k new before after) (sym q) h

-- Where nothing is left the step is the end of the innermost item.
pub ends_is : (s : Script) (k : Context) (f : Frame) (fs : List Frame) (tells : Bool) (shared : SharedValues) → k.frames.items ≡ f ∷ fs → (line_at s k.line).left ≡ nothing k.line →
    step_at (setting_of s k) tells shared (place_in (remainder_of s k).items) (remainder_of s k) ≡ ended (role_of s k.frames.calls f.kind) (items_of s f.back (below k.frames.calls f.kind) fs) (remainder_of s k)
ends_is s k f fs tells shared e here =
    let g = setting_of s k in
    let r = remainder_of s k in
    let role = role_of s k.frames.calls f.kind in
    let outer = items_of s f.back (below k.frames.calls f.kind) fs in
    ap (λ (is : List Frame). step_at g tells shared (place_in (items_of s k.line k.frames.calls is)) r) e
    ∙ ap (λ (l : Left). step_at g tells shared (place_inside l.todo l.close role outer) r) here
