-- What is left after statements that are no exit.
use Rattle.std.proofs.Common.{◌≡◌, ℕ, ◌+◌, ℤ, List, ◌∷◌, Option, Some, None, Bool, true, false, if◌then◌else◌, unwrap_or, refl, ap, sym, ◌∙◌, subst, arith}
use Rattle.thr_values.specs.declared.number.NameId.{NameId}
use Rattle.thr_syntax.specs.declared.expr.Var.TheVariants as variable
use Rattle.thr_syntax.specs.declared.expr.Expr.{Expr}
use Rattle.thr_syntax.specs.declared.tree.Script.{Script}
use Rattle.thr_remainder.specs.Places.{Left}
use Rattle.thr_remainder.specs.Acts.{Act, Sets, Says, Chooses, Repeats, Calls, Returns}
use Rattle.thr_remainder.specs.Declarations.{Entry, no_entry, entry_of}
use Rattle.thr_remainder.specs.Remainders.{Item, Calling, Remainder}
use Rattle.thr_remainder.specs.Expressions.{is_true}
use Rattle.thr_remainder.specs.Starts.{at, calling, first_locals}
use Rattle.thr_remainder.specs.Steps.{after, kept, place_for}
use Rattle.thr_lines.specs.declared.row.Row.{Row}
use Rattle.thr_lines.specs.Layout.{line_at, last_line}
use Rattle.thr_lines.specs.AtLines.{StatementAt, IfAt, WhileAt}
use Rattle.thr_stack.specs.declared.frame.Kind.{Kind}
use Rattle.thr_stack.specs.declared.frame.Kind.TheVariants as kind
use Rattle.thr_stack.specs.declared.frame.Frame.{Frame}
use Rattle.thr_stack.specs.declared.context.Context.{Context}
use Rattle.thr_stack.specs.FrameLists.{FramesView, below, set_in}
use Rattle.thr_stack.specs.Standing.{role_of, items_of, remainder_of, setting_of, IsLine, AreFrames, Stands, stored_calls, kept_by}
use Rattle.thr_stack.specs.Statements.{GoesOn, IsEntered, IsReturned, HasReturned}
use Rattle.thr_stack.proofs.LocalLaws.{with_local_is, stored_is, kept_is}
use Rattle.thr_stack.proofs.Sites.{Site, site, spot, after_is, good_at, good_set, good_stored, good_with, some_line}

module _ (s : Script) (k : Context) (h : Stands s k) (n : ℤ) where
  -- A step that stays in its frame.
  stays : (rest : Left) (act : Act) (shared : Bool) (l : ℕ) (calls : List (List ℤ)) → (t : Site s k rest act) → IsLine s l → AreFrames s k.line calls k.frames.items →
      after (setting_of s k) act n (spot s k rest act t) (remainder_of s k) ≡ record (remainder_of s k) { items = items_of s l calls (t.frame ∷ t.outer) } → GoesOn s n k (record k { line = l; frames = record k.frames { calls = calls } })
  stays rest act shared l calls t i good does = record {
    to = ap (λ (is : List Frame). record (remainder_of s k) { items = items_of s l calls is }) t.items ∙ sym (after_is s k rest act t n ∙ does);
    setting = refl;
    good = good_at s k.line l calls k.frames.items i good;
  }

  pub goes_local : (p : ℕ) (e : Expr) (shared : Bool) (frames : FramesView) → StatementAt (line_at s) (last_line s) k.line (Sets (variable.Local p) e) shared → frames ≡ record k.frames { calls = set_in k.frames.calls p n } →
      GoesOn s n k (record k { line = k.line + 1; frames = frames })
  goes_local p e shared frames a is =
      let t = site s k _ (Sets (variable.Local p) e) shared h.some a.does in
      subst (λ (x : FramesView). GoesOn s n k (record k { line = k.line + 1; frames = x })) (sym is)
      (stays _ (Sets (variable.Local p) e) shared (k.line + 1) (set_in k.frames.calls p n) t (omega arith, omega (arith, a.inside)) (good_set s p n k.line k.frames.calls k.frames.items h.good)
      (ap (λ (is : List Item). record (remainder_of s k) { items = is }) (with_local_is s p n (k.line + 1) k.frames.calls (t.frame ∷ t.outer))))

  pub goes_shared : (name : NameId) (e : Expr) (shared : Bool) → StatementAt (line_at s) (last_line s) k.line (Sets (variable.Shared name) e) shared → GoesOn s n k (record k { line = k.line + 1 })
  goes_shared name e shared a =
      let t = site s k _ (Sets (variable.Shared name) e) shared h.some a.does in
      stays _ (Sets (variable.Shared name) e) shared (k.line + 1) k.frames.calls t (omega arith, omega (arith, a.inside)) h.good refl

  pub goes_say : (e : Expr) (shared : Bool) → StatementAt (line_at s) (last_line s) k.line (Says e) shared → GoesOn s n k (record k { line = k.line + 1 })
  goes_say e shared a =
      let t = site s k _ (Says e) shared h.some a.does in stays _ (Says e) shared (k.line + 1) k.frames.calls t (omega arith, omega (arith, a.inside)) h.good refl

  -- ---- if and while

  module _ (e : Expr) (row : Row) (a : IfAt (line_at s) (last_line s) k.line e row) where
    abbrev chooses : Act
    chooses = Chooses e (line_at s (k.line + 1)).left (line_at s (a.next + 1)).left

    chosen : (b : Bool) (l : ℕ) → is_true n ≡ b → IsLine s l → (if b then (line_at s (k.line + 1)).left else (line_at s (a.next + 1)).left) ≡ (line_at s l).left → GoesOn s n k (record k { line = l })
    chosen b l test i left =
        let t = site s k _ chooses _ h.some a.does in
        stays _ chooses true l k.frames.calls t i h.good
        (ap (λ (x : Left). record (remainder_of s k) { items = record { role = role_of s k.frames.calls t.frame.kind; inside = x } ∷ items_of s t.frame.back (below k.frames.calls t.frame.kind) t.outer })
        (ap (λ (c : Bool). if c then (line_at s (k.line + 1)).left else (line_at s (a.next + 1)).left) test ∙ left))

    pub goes_then : is_true n ≡ true → GoesOn s n k (record k { line = k.line + 1 })
    goes_then some = chosen true (k.line + 1) some (omega arith, omega (arith, a.below, a.above, a.inside)) refl

    pub goes_else : (half : ℕ) → is_true n ≡ false → row.next ≡ Some (at half) → GoesOn s n k (record k { line = half + 1 })
    goes_else half none next =
        let same : a.next ≡ half = some_line a.next half (sym a.next_is ∙ next) in
        chosen false (half + 1) none (omega arith, omega (arith, a.above, a.inside, same)) (ap (λ m. (line_at s (m + 1)).left) same)

  module _ (e : Expr) (row : Row) (a : WhileAt (line_at s) (last_line s) k.line e row) where
    abbrev repeats : Act
    repeats = Repeats e (line_at s (k.line + 1)).left

    repeated : (b : Bool) (l : ℕ) → is_true n ≡ b → IsLine s l → (if b then (line_at s (k.line + 1)).left else (line_at s a.after).left) ≡ (line_at s l).left → GoesOn s n k (record k { line = l })
    repeated b l test i left =
        let t = site s k _ repeats _ h.some a.does in
        stays _ repeats true l k.frames.calls t i h.good
        (ap (λ (x : Left). record (remainder_of s k) { items = record { role = role_of s k.frames.calls t.frame.kind; inside = x } ∷ items_of s t.frame.back (below k.frames.calls t.frame.kind) t.outer })
        (ap (λ (c : Bool). if c then (line_at s (k.line + 1)).left else (line_at s a.after).left) test ∙ left))

    pub goes_again : is_true n ≡ true → GoesOn s n k (record k { line = k.line + 1 })
    goes_again some = repeated true (k.line + 1) some (omega arith, omega (arith, a.above, a.inside)) refl

    pub goes_past : (after : ℕ) → is_true n ≡ false → row.after ≡ Some (at after) → GoesOn s n k (record k { line = after })
    goes_past after none next =
        let same : a.after ≡ after = some_line a.after after (sym a.after_is ∙ next) in
        repeated false after none (omega (arith, a.above, same), omega (arith, a.inside, same)) (ap (λ m. (line_at s m).left) same)

  -- ---- call

  pub goes_call : (name : NameId) (e : Expr) (place : Option ℕ) (shared : Bool) (new : Context) → StatementAt (line_at s) (last_line s) k.line (Calls name e place) shared → IsEntered s name place (k.line + 1) n k new → GoesOn s n k new
  goes_call name e place shared new a entered =
      let t = site s k _ (Calls name e place) shared h.some a.does in
      let r = remainder_of s k in
      let entry = entered.entry in
      let first = entry.line + entry.locals in
      let callers = entered.called.callers in
      let rest : List Frame → List Item = λ fs. items_of s (k.line + 1) k.frames.calls fs in
      let entry_is : entry_of s name ≡ entry = ap (λ (o : Option Entry). unwrap_or o no_entry) entered.routine in
      let new_item : record { role = Calling (first_locals entry.locals n) place; inside = (line_at s first).left } ≡ calling (entry_of s name) n place =
      (λ i. record { role = Calling (first_locals entry.locals n) place; inside = entered.body.here i }) ∙ sym (ap (λ (x : Entry). calling x n place) entry_is) in
      let all : FramesView = record k.frames { items = record { kind = kind.Call place callers; back = k.line + 1 } ∷ k.frames.items; calls = first_locals entry.locals n ∷ k.frames.calls } in
      let there : FramesView → Context = λ f. record k { frames = f; line = first } in
      let made_here : GoesOn s n k (there all) = record {
        to = (λ i. record r { items = new_item i ∷ rest (t.items i) }) ∙ sym (after_is s k _ (Calls name e place) t n);
        setting = refl;
        good = ((entered.body.from, omega (arith, entered.body.to, entered.body.inside)), tt, good_at s k.line (k.line + 1) k.frames.calls k.frames.items (omega arith, omega (arith, a.inside)) h.good);
      } in
      subst (GoesOn s n k) (sym entered.same) (subst (λ (f : FramesView). GoesOn s n k (there f)) (sym entered.called.same) made_here)

  -- ---- return

  pub goes_return : (e : Expr) (shared : Bool) (new : Context) → StatementAt (line_at s) (last_line s) k.line (Returns e) shared → HasReturned n k new → GoesOn s n k new
  goes_return e shared new a ret =
      let r = remainder_of s k in
      let f = ret.frame in
      let fs = new.frames.items in
      let t : Site s k (line_at s (k.line + 1)).left (Returns e) = record { frame = f; outer = fs; items = ret.items; stmt = a.does.stmt; here = a.does.here; acts = a.does.acts } in
      let place = place_for (role_of s k.frames.calls f.kind) in
      let outer = items_of s f.back (below k.frames.calls f.kind) fs in
      let move : List Item → ℤ → Remainder = λ is v. record r { items = is; value = v } in
      let there : Context = record k { frames = new.frames; line = f.back; value = kept_by fs n k.value } in
      let good : AreFrames s k.line k.frames.calls (f ∷ fs) = subst (AreFrames s k.line k.frames.calls) ret.items h.good in
      let moved : GoesOn s n k there = record {
        to = (λ i. move (items_of s f.back (ret.calls s i) fs) (sym (kept_is s f.back (below k.frames.calls f.kind) fs n k.value) i))
            ∙ ap (λ (x : List Item). move x (kept outer n k.value)) (sym (stored_is s place n f.back (below k.frames.calls f.kind) fs))
            ∙ sym (after_is s k _ (Returns e) t n);
        setting = ap (λ (z : ℕ). record (setting_of s k) { size = z }) ret.size;
        good = good_with s f.back (stored_calls place n (below k.frames.calls f.kind)) new.frames.calls fs (ret.calls s) (good_stored s place n f.back (below k.frames.calls f.kind) fs good.2);
      } in
      subst (GoesOn s n k) (sym ret.same) moved

-- ---- a frame that is off

pub place_none : (s : Script) (calls : List (List ℤ)) (x : Kind) → ((place : Option ℕ) (count : ℕ) → x ≡ kind.Call place count → ⊥) → place_for (role_of s calls x) ≡ None
place_none s calls (kind.Call place count) h = absurd (h place count refl)
place_none s calls (kind.Try scope first) h = refl
place_none s calls (kind.Catch scope caught) h = refl
place_none s calls (kind.Finally scope pending) h = refl
place_none s calls (kind.Once scope block routine) h = refl
place_none s calls (kind.Barrier scope key routine) h = refl

pub has_returned : (k new : Context) (f : Frame) (frames : FramesView) (place : Option ℕ) (n : ℤ) → k.frames.items ≡ f ∷ frames.items → frames.size ≡ k.frames.size → frames.calls ≡ below k.frames.calls f.kind →
    ((s : Script) → place_for (role_of s k.frames.calls f.kind) ≡ place) → IsReturned (record k { frames = frames }) new place f.back n → HasReturned n k new
has_returned k new f frames place n items size calls place_is ret =
    let same_frames : new.frames ≡ record frames { calls = stored_calls place n frames.calls } = ap (λ (x : Context). x.frames) ret in
    record {
      frame = f;
      items = items ∙ ap (λ (x : FramesView). f ∷ x.items) (sym same_frames);
      size = ap (λ (x : FramesView). x.size) same_frames ∙ size;
      same = ret ∙ ap (λ (x : FramesView). record k { frames = x; line = f.back; value = kept_by x.items n k.value }) (sym same_frames);
      calls = λ s. ap (λ (x : FramesView). x.calls) same_frames ∙ (λ i. stored_calls (sym (place_is s) i) n (calls i));
    }
