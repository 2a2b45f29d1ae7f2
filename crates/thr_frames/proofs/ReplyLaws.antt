-- What a thread does with replies.
use Rattle.std.proofs.Common.{◌≡◌, ℕ, ◌+◌, ℤ, List, [], ◌∷◌, true, Option, None, refl, ap, sym, ◌∙◌, subst, arith, append-nil}
use Rattle.std.proofs.lemmas.Option.{none-some}
use Rattle.thr_values.specs.declared.exception.Exc.{Exc}
use Rattle.thr_values.specs.declared.history.What.{What}
use Rattle.thr_values.specs.declared.reply.Reply.{Reply}
use Rattle.thr_values.specs.Replies.{errno_of}
use Rattle.thr_syntax.specs.declared.expr.Var.{Var}
use Rattle.thr_syntax.specs.declared.expr.Var.TheVariants.{Local, Shared}
use Rattle.thr_syntax.specs.declared.dce.DceCall.{DceCall}
use Rattle.thr_syntax.specs.declared.tree.Script.{Script}
use Rattle.thr_remainder.specs.Acts.{Act, Sets, Says, Chooses, Repeats, Tries, Raises, RaisesAgain, Calls, Returns, Exits, Asks}
use Rattle.thr_remainder.specs.Calls.{stores}
use Rattle.thr_remainder.specs.Declarations.{interface_of}
use Rattle.thr_remainder.specs.Remainders.{Item, Setting, Remainder, Move, Spot, Place, Nowhere, AtEnd, At, place_in, act_at}
use Rattle.thr_remainder.specs.Replies.{stored_in, shared_in, raised_by, raised_if, replied_by, replied_at, replied, writes_by, writes_at, writes}
use Rattle.thr_remainder.specs.Starts.{still}
use Rattle.thr_lines.specs.Layout.{line_at, last_line}
use Rattle.thr_lines.specs.AtLines.{StatementAt}
use Rattle.thr_stack.specs.declared.frame.Frame.{Frame}
use Rattle.thr_stack.specs.declared.context.Context.{Context}
use Rattle.thr_stack.specs.FrameLists.{FramesView, set_in}
use Rattle.thr_stack.specs.Standing.{AreFrames, IsGood, Stands, Makes, items_of, remainder_of, setting_of}
use Rattle.thr_stack.proofs.LocalLaws.{with_local_is}
use Rattle.thr_stack.proofs.Sites.{site, spot, place_is, good_at, good_set}
use Rattle.thr_frames.specs.Replies.{stores_by, stores_at, calls_with, IsBehind}
use Rattle.thr_frames.specs.Stacks.{asked_by}
use Rattle.thr_frames.proofs.StackLaws.{asked_at}

-- ---- local variables

stored_items : (s : Script) (xs : List (Var × ℤ)) (line : ℕ) (calls : List (List ℤ)) (fs : List Frame) → stored_in xs (items_of s line calls fs) ≡ items_of s line (calls_with xs calls) fs
stored_items s [] line calls fs = refl
stored_items s ((Local p, n) ∷ xs) line calls fs = ap (stored_in xs) (with_local_is s p n line calls fs) ∙ stored_items s xs line (set_in calls p n) fs
stored_items s ((Shared name, n) ∷ xs) line calls fs = stored_items s xs line calls fs

good_calls : (s : Script) (xs : List (Var × ℤ)) (line : ℕ) (calls : List (List ℤ)) (fs : List Frame) → AreFrames s line calls fs → AreFrames s line (calls_with xs calls) fs
good_calls s [] line calls fs h = h
good_calls s ((Local p, n) ∷ xs) line calls fs h = good_calls s xs line (set_in calls p n) fs (good_set s p n line calls fs h)
good_calls s ((Shared name, n) ∷ xs) line calls fs h = good_calls s xs line calls fs h

-- The call is behind, where its values are in the locals.
pub goes_past : (s : Script) (k : Context) (call : DceCall) (reply : Reply) (xs : List (Var × ℤ)) (frames : FramesView) (err : ℤ) → Stands s k → StatementAt (line_at s) (last_line s) k.line (Asks call) true →
    xs ≡ stores call reply → frames ≡ record k.frames { calls = calls_with xs k.frames.calls } → err ≡ errno_of reply → IsBehind s call reply k (record k { line = k.line + 1; frames = frames; err = err })
goes_past s k call reply xs frames err h a xs_are frames_are err_is =
    let t = site s k _ (Asks call) true h.some a.does in
    let r = remainder_of s k in
    let there : FramesView = record k.frames { calls = calls_with (stores call reply) k.frames.calls } in
    let same : frames ≡ there = frames_are ∙ ap (λ (ys : List (Var × ℤ)). let f : FramesView = record k.frames { calls = calls_with ys k.frames.calls } in f) xs_are in
    let moved : IsBehind s call reply k (record k { line = k.line + 1; frames = there; err = err }) =
    record {
      spot = spot s k _ (Asks call) t;
      here = place_is s k _ (Asks call) t;
      acts = t.acts;
      to = (λ i. record r { items = items_of s (k.line + 1) (calls_with (stores call reply) k.frames.calls) (t.items i); err = err_is i })
          ∙ ap (λ (is : List Item). record r { items = is; err = errno_of reply }) (sym (stored_items s (stores call reply) (k.line + 1) k.frames.calls (t.frame ∷ t.outer)));
      setting = refl;
      good = good_at s k.line (k.line + 1) (calls_with (stores call reply) k.frames.calls) k.frames.items (omega arith, omega (arith, a.inside)) (good_calls s (stores call reply) k.line k.frames.calls k.frames.items h.good);
    } in
    subst (λ (f : FramesView). IsBehind s call reply k (record k { line = k.line + 1; frames = f; err = err })) (sym same) moved

-- ---- the call

module _ (s : Script) (k mid : Context) (call : DceCall) (reply : Reply) (h : IsBehind s call reply k mid) where
  replied_is : replied (setting_of s k) reply (remainder_of s k) ≡ raised_if (raised_by (interface_of s) call reply) (remainder_of s mid)
  unfolding replied
  replied_is =
      let g = setting_of s k in
      let r = remainder_of s k in
      ap (λ (p : Place). replied_at g p r reply) h.here ∙ ap (λ (a : Act). replied_by g a h.spot r reply) h.acts ∙ ap (raised_if (raised_by (interface_of s) call reply)) (sym h.to)

  pub gives : (new : Context) (before after : List What) (o : Option Exc) → raised_by (interface_of s) call reply ≡ o → Makes s (raised_if o (remainder_of s mid)) mid new before after →
      Makes s (replied (setting_of s k) reply (remainder_of s k)) k new before after
  gives new before after o is m =
      let e : raised_if o (remainder_of s mid) ≡ replied (setting_of s k) reply (remainder_of s k) = ap (λ (x : Option Exc). raised_if x (remainder_of s mid)) (sym is) ∙ sym replied_is in
      let n = subst (λ (x : Move). Makes s x mid new before after) e m in
      record { to = n.to; lines = n.lines; setting = n.setting ∙ h.setting; good = n.good }

  pub gives_quietly : (notes : List What) → raised_by (interface_of s) call reply ≡ None → Makes s (replied (setting_of s k) reply (remainder_of s k)) k mid notes notes
  gives_quietly notes none = gives mid notes notes None none (record { to = refl; lines = sym (append-nil notes); setting = refl; good = h.good })

  pub stores_are : stores_at (place_in (remainder_of s k).items) reply ≡ stores call reply
  stores_are = ap (λ (p : Place). stores_at p reply) h.here ∙ ap (λ (a : Act). stores_by a reply) h.acts

-- ---- shared variables

-- What a statement writes to shared variables is what it stores in them.
by_stores : (a : Act) (reply : Reply) → writes_by a reply ≡ shared_in (stores_by a reply)
by_stores (Sets v e) reply = refl
by_stores (Says e) reply = refl
by_stores (Chooses e body other) reply = refl
by_stores (Repeats e again) reply = refl
by_stores (Tries body ways) reply = refl
by_stores (Raises name) reply = refl
by_stores RaisesAgain reply = refl
by_stores (Calls routine e place) reply = refl
by_stores (Returns e) reply = refl
by_stores (Exits e) reply = refl
by_stores (Asks call) reply = refl

at_stores : (p : Place) (reply : Reply) → writes_at p reply ≡ shared_in (stores_at p reply)
at_stores Nowhere reply = refl
at_stores (AtEnd close x outer) reply = refl
at_stores (At h) reply = by_stores (act_at h) reply

pub writes_are : (r : Remainder) (reply : Reply) (xs : List (Var × ℤ)) → stores_at (place_in r.items) reply ≡ xs → shared_in xs ≡ writes r reply
unfolding writes
writes_are r reply xs e = sym (at_stores (place_in r.items) reply ∙ ap shared_in e)

-- ---- no call

no_reply : (g : Setting) (a : Act) (h : Spot) (r : Remainder) (reply : Reply) → asked_by a ≡ None → replied_by g a h r reply ≡ still r
no_reply g (Sets v e) h r reply none = refl
no_reply g (Says e) h r reply none = refl
no_reply g (Chooses e body other) h r reply none = refl
no_reply g (Repeats e again) h r reply none = refl
no_reply g (Tries body ways) h r reply none = refl
no_reply g (Raises name) h r reply none = refl
no_reply g RaisesAgain h r reply none = refl
no_reply g (Calls routine e place) h r reply none = refl
no_reply g (Returns e) h r reply none = refl
no_reply g (Exits e) h r reply none = refl
no_reply g (Asks call) h r reply none = absurd (none-some call (sym none))

no_stores : (a : Act) (reply : Reply) → asked_by a ≡ None → stores_by a reply ≡ []
no_stores (Sets v e) reply none = refl
no_stores (Says e) reply none = refl
no_stores (Chooses e body other) reply none = refl
no_stores (Repeats e again) reply none = refl
no_stores (Tries body ways) reply none = refl
no_stores (Raises name) reply none = refl
no_stores RaisesAgain reply none = refl
no_stores (Calls routine e place) reply none = refl
no_stores (Returns e) reply none = refl
no_stores (Exits e) reply none = refl
no_stores (Asks call) reply none = absurd (none-some call (sym none))

replied_still : (g : Setting) (p : Place) (r : Remainder) (reply : Reply) → asked_at p ≡ None → replied_at g p r reply ≡ still r
replied_still g Nowhere r reply none = refl
replied_still g (AtEnd close x outer) r reply none = refl
replied_still g (At h) r reply none = no_reply g (act_at h) h r reply none

pub stores_nothing : (p : Place) (reply : Reply) → asked_at p ≡ None → stores_at p reply ≡ []
stores_nothing Nowhere reply none = refl
stores_nothing (AtEnd close x outer) reply none = refl
stores_nothing (At h) reply none = no_stores (act_at h) reply none

pub gives_nothing : (s : Script) (k : Context) (reply : Reply) (notes : List What) → IsGood s k → asked_at (place_in (remainder_of s k).items) ≡ None → Makes s (replied (setting_of s k) reply (remainder_of s k)) k k notes notes
unfolding replied
gives_nothing s k reply notes good none =
    let r = remainder_of s k in
    subst (λ (m : Move). Makes s m k k notes notes) (sym (replied_still (setting_of s k) (place_in r.items) r reply none)) (record { to = refl; lines = sym (append-nil notes); setting = refl; good = good })
