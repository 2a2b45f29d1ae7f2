-- Where the journal or the machine ends.
use Rattle.std.proofs.Common.{◌≡◌, ℕ, suc, ◌+◌, ◌<◌, ◌≤◌, Bool, true, false, List, [], ◌∷◌, length, drop, length-drop, zero, Option, Some, None, refl, sym, ◌∙◌, ap, arith}
use Rattle.std.specs.Prelude.{◌&&◌, if◌then◌else◌, IfSome}
use Rattle.std.specs.Option.{option_map}
use Rattle.thr_values.specs.declared.event.Stop.{Stop}
use Rattle.thr_values.specs.declared.event.Stop.TheVariants as stops
use Rattle.thr_values.specs.declared.history.Entry.{Entry}
use Rattle.thr_syntax.specs.declared.journal.Journal.{Journal}
use Rattle.thr_syntax.specs.declared.tree.Script.{Script}
use Rattle.thr_model.specs.Histories.{stop_at}
use Rattle.thr_verdict.specs.Verdicts.{Stopped}
use Rattle.thr_verdict.specs.FirstWrong as verdict
use Rattle.thr_verdict.specs.FirstWrong.{wrong_after, is_same_stop, wrong_in, wrong_of}
use Rattle.thr_machine.specs.Views.{BookView}
use Rattle.thr_machine.specs.Books.{stop_of}
use Rattle.thr_comparing.specs.declared.wrong.Wrong.{Wrong}
use Rattle.thr_comparing.specs.Wrongs.{told}
use Rattle.thr_verify.specs.Replays.{IsReplayed, left_wrong, GoesOn, IsPlaced, EndsWith, IsLeft}
use Rattle.thr_verify.proofs.Boundaries.{stop_at_end, stop_before, early_end}
use Rattle.thr_verify.proofs.Drops.{drop_end}

module _ (j : Journal) (b : BookView) (r : IsReplayed j b) where
  stop_is : (o : Option Stop) → stop_of b ≡ o → stop_at j.script b.state (length b.entries) ≡ o
  stop_is o e = sym (ap (λ (s : Script). stop_at s b.state (length b.entries)) r.script) ∙ e

  placed_at : (w : Option Wrong) → IfSome w (λ x. x.place ≡ length b.entries + 1) → IsPlaced j w
  placed_at None h = tt
  placed_at (Some x) h = (
    omega (arith, h),
    (let f : length b.entries ≤ length j.entries = r.fits in omega (arith, h, f)),
    (let f : length b.entries ≤ 1001160 = r.few in omega (arith, h, f)),
  )

  -- The journal ends, where a stop holds.
  ends_with_stop : (holds : Stop) (w : Option Wrong) → Some holds ≡ stop_of b → length j.entries ≤ length b.entries
      → option_map told w ≡ (let o : Option verdict.Wrong = if is_same_stop holds j.stop then None else Some (wrong_after (length b.entries) (Some (Stopped holds))) in o)
      → IfSome w (λ x. x.place ≡ length b.entries + 1) → EndsWith j b w
  ends_with_stop holds w is end wrong placed = record {
    wrong = λ k.
        ap (wrong_in (suc k) j.script j.workers j.stop (length b.entries) b.state) (drop_end j.entries (length b.entries) end)
        ∙ stop_at_end k j.script j.workers j.stop (length b.entries) b.state holds (stop_is (Some holds) (sym is)) ∙ sym wrong;
    placed = placed_at w placed;
  }

  -- Another line stands where a stop holds.
  behind_stop : (holds : Stop) (rest : List Entry) → 0 < length rest → stop_of b ≡ Some holds → (k : ℕ)
      → wrong_in (suc k) j.script j.workers j.stop (length b.entries) b.state rest ≡ Some (wrong_after (length b.entries) (Some (Stopped holds)))
  behind_stop holds [] some is k = absurd (omega (arith, some))
  behind_stop holds (e ∷ rest) some is k = stop_before k j.script j.workers j.stop (length b.entries) b.state holds e rest (stop_is (Some holds) is)

  some_left : length b.entries < length j.entries → 0 < length (drop (length b.entries) j.entries)
  some_left more = let e = length-drop (length b.entries) j.entries in omega (arith, e, more)

  goes_behind_stop : (holds : Stop) (w : Option Wrong) → Some holds ≡ stop_of b → length b.entries < length j.entries
      → option_map told w ≡ Some (wrong_after (length b.entries) (Some (Stopped holds))) → IfSome w (λ x. x.place ≡ length b.entries + 1) → EndsWith j b w
  goes_behind_stop holds w is more wrong placed = record {
    wrong = λ k. behind_stop holds (drop (length b.entries) j.entries) (some_left more) (sym is) k ∙ sym wrong;
    placed = placed_at w placed;
  }

  -- A stop holds, and the journal ends or goes on.
  stop_holds : (holds : Stop) (w : Option Wrong) (end : Bool) → (end ≡ true → length j.entries ≤ length b.entries) → (end ≡ false → length b.entries < length j.entries) → Some holds ≡ stop_of b
      → option_map told w ≡ (let o : Option verdict.Wrong = if end && is_same_stop holds j.stop then None else Some (wrong_after (length b.entries) (Some (Stopped holds))) in o)
      → IfSome w (λ x. x.place ≡ length b.entries + 1) → EndsWith j b w
  stop_holds holds w true ends goes is wrong placed = ends_with_stop holds w is (ends refl) wrong placed
  stop_holds holds w false ends goes is wrong placed = goes_behind_stop holds w is (goes refl) wrong placed

  -- The journal ends where no stop holds.
  ends_early : (w : Option Wrong) → None ≡ stop_of b → length j.entries ≤ length b.entries
      → option_map told w ≡ (let o : Option verdict.Wrong = if is_same_stop stops.Memory j.stop then None else Some (wrong_after (length b.entries) None) in o)
      → IfSome w (λ x. x.place ≡ length b.entries + 1) → EndsWith j b w
  ends_early w is end wrong placed = record {
    wrong = λ k.
        ap (wrong_in (suc k) j.script j.workers j.stop (length b.entries) b.state) (drop_end j.entries (length b.entries) end)
        ∙ early_end k j.script j.workers j.stop (length b.entries) b.state (stop_is None (sym is)) ∙ sym wrong;
    placed = placed_at w placed;
  }

-- ---- the same by how many lines the code counts

module _ (j : Journal) (b : BookView) (r : IsReplayed j b) (lines : List Entry) (n : ℕ) (as_book : lines ≡ b.entries) (as_journal : n ≡ length j.entries) where
  same_place : (w : Option Wrong) → IfSome w (λ x. x.place ≡ length lines + 1) → IfSome w (λ x. x.place ≡ length b.entries + 1)
  same_place None h = h
  same_place (Some x) h = h ∙ ap (λ (es : List Entry). length es + 1) as_book

  pub stop_here : (holds : Stop) (w : Option Wrong) (end : Bool) → Some holds ≡ stop_of b
      → option_map told w ≡ (let o : Option verdict.Wrong = if end && is_same_stop holds j.stop then None else Some (wrong_after (length lines) (Some (Stopped holds))) in o)
      → IfSome w (λ x. x.place ≡ length lines + 1) → (end ≡ true → n ≤ length lines) → (end ≡ false → length lines < n) → EndsWith j b w
  stop_here holds w end is wrong placed ends goes =
      let l : length lines ≡ length b.entries = ap length as_book in
      stop_holds j b r holds w end (λ e. let h : n ≤ length lines = ends e in omega (arith, h, l, as_journal)) (λ e. let h : length lines < n = goes e in omega (arith, h, l, as_journal)) is
      (wrong ∙ ap (λ k. let o : Option verdict.Wrong = if end && is_same_stop holds j.stop then None else Some (wrong_after k (Some (Stopped holds))) in o) l) (same_place w placed)

  pub early_here : (w : Option Wrong) → None ≡ stop_of b
      → option_map told w ≡ (let o : Option verdict.Wrong = if is_same_stop stops.Memory j.stop then None else Some (wrong_after (length lines) None) in o)
      → IfSome w (λ x. x.place ≡ length lines + 1) → n ≤ length lines → EndsWith j b w
  early_here w is wrong placed h =
      let l : length lines ≡ length b.entries = ap length as_book in
      ends_early j b r w is (omega (arith, h, l, as_journal))
      (wrong ∙ ap (λ k. let o : Option verdict.Wrong = if is_same_stop stops.Memory j.stop then None else Some (wrong_after k None) in o) l) (same_place w placed)

-- ---- what is left

one_less : (k a b : ℕ) → a < k + b → b ≤ a → (n : ℕ) × (k ≡ suc n)
one_less zero a b h le = absurd (omega (arith, h, le))
one_less (suc n) a b h le = (n, refl)

-- After an event the same is left.
pub left_after : (j : Journal) (old new : BookView) → IsReplayed j old → IsLeft j old → GoesOn j old new → IsLeft j new
left_after j old new r left g =
    let fits : length old.entries ≤ length j.entries = r.fits in
    let enough : length j.entries < left.events + length old.entries = left.enough in
    let less : (n : ℕ) × (left.events ≡ suc n) = one_less left.events (length j.entries) (length old.entries) enough fits in
    let is : left.events ≡ suc less.0 = less.1 in
    let more : length old.entries < length new.entries = g.more in record {
      events = less.0;
      enough = omega (arith, enough, is, more);
      same = left.same ∙ ap (left_wrong j old) is ∙ g.same less.0;
    }

-- Where a book ends that is what is wrong first in the journal.
pub left_ends : (j : Journal) (b : BookView) (w : Option Wrong) → IsReplayed j b → IsLeft j b → EndsWith j b w → wrong_of j.script j.workers j.entries j.stop ≡ option_map told w
left_ends j b w r left g =
    let fits : length b.entries ≤ length j.entries = r.fits in
    let enough : length j.entries < left.events + length b.entries = left.enough in
    let less : (n : ℕ) × (left.events ≡ suc n) = one_less left.events (length j.entries) (length b.entries) enough fits in
    left.same ∙ ap (left_wrong j b) less.1 ∙ g.wrong less.0
