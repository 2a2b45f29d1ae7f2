-- Lines that meet the law on cancels leave cancels pending over returns.
use Rattle.std.proofs.Common.{◌≡◌, ℕ, Bool, true, false, not, ◌&&◌, ◌||◌, List, [], ◌∷◌, Option, Some, None, refl, sym, ◌∙◌}
use Rattle.std.proofs.lemmas.Bool.{false≢true}
use Rattle.std.specs.List.{list_all}
use Rattle.thr_values.specs.declared.history.What.{What}
use Rattle.thr_values.specs.declared.history.What.TheVariants as what
use Rattle.thr_values.specs.declared.history.Entry.{Entry}
use Rattle.thr_values.specs.declared.reply.Effect.TheVariants as effect
use Rattle.thr_values.specs.declared.reply.Reply.{Reply}
use Rattle.thr_values.specs.declared.reply.Reply.TheVariants as reply
use Rattle.thr_syntax.specs.declared.tree.Script.{Script}
use Rattle.thr_laws.specs.Lines.{fits, implies, own_line}
use Rattle.thr_laws.specs.Known.{Known, known_at_first, cancel_of, known_with, known_after, is_to_deliver, is_wakes}
use Rattle.thr_laws.specs.CancelLaw.{CancelLaw, is_effect, has_effect, delivers_when_woken}
use Rattle.thr_laws.proofs.ReadingLaws.{both, and_both}
use Rattle.thr_ports.specs.Returning.{replies_after, Cancelled, cancelled_after, is_left, leaves_cancels, returns_leave_cancels}

-- The cancel with this reply shows in what is known: it woke the thread, or is outstanding.
abbrev shows : Known → Reply → Bool
shows k (reply.Effect effect.Pending) = k.outstanding
shows k (reply.Effect effect.Merged) = k.outstanding
shows k (reply.Effect effect.Wakes) = k.woken
shows k _ = true

second_holds : (a b : Bool) → b ≡ true → (a || (b && true)) ≡ true
second_holds true b e = refl
second_holds false true e = refl
second_holds false false e = absurd (false≢true e)

-- It shows after a line in which the thread does nothing.
goes_on_showing : (k : Known) (cancel : Option Reply) (r : Reply) → shows k r ≡ true → shows (known_with k None cancel) r ≡ true
goes_on_showing k cancel (reply.Effect effect.Pending) h = second_holds (is_to_deliver cancel) k.outstanding h
goes_on_showing k cancel (reply.Effect effect.Merged) h = second_holds (is_to_deliver cancel) k.outstanding h
goes_on_showing k cancel (reply.Effect effect.Wakes) h = second_holds (is_wakes cancel) k.woken h
goes_on_showing k cancel _ h = refl

all_go_on : (k : Known) (cancel : Option Reply) (rs : List Reply) → list_all (shows k) rs ≡ true → list_all (shows (known_with k None cancel)) rs ≡ true
all_go_on k cancel [] h = refl
all_go_on k cancel (r ∷ rs) h =
    let b = both (shows k r) (list_all (shows k) rs) h in
    and_both (shows (known_with k None cancel) r) (list_all (shows (known_with k None cancel)) rs) (goes_on_showing k cancel r b.0) (all_go_on k cancel rs b.1)

-- And right after its own line.
shows_at_once : (k : Known) (r : Reply) → is_effect k r ≡ true → shows (known_with k None (Some r)) r ≡ true
shows_at_once k (reply.Effect effect.Pending) h = refl
shows_at_once k (reply.Effect effect.Merged) h = second_holds false k.outstanding (both (not k.ended) k.outstanding h).1
shows_at_once k (reply.Effect effect.Wakes) h = refl
shows_at_once k _ h = refl

all_show : (k : Known) (own : Option What) (cancel : Option Reply) (rs : List Reply) → has_effect k cancel ≡ true → list_all (shows k) rs ≡ true
    → list_all (shows (known_with k own cancel)) (replies_after own cancel rs) ≡ true
all_show k None None rs e h = all_go_on k None rs h
all_show k None (Some r) rs e h =
    and_both (shows (known_with k None (Some r)) r) (list_all (shows (known_with k None (Some r))) rs) (shows_at_once k r e) (all_go_on k (Some r) rs h)
all_show k (Some w) cancel rs e h = refl

-- What shows in a thread that nobody woke is left.
left : (k : Known) (r : Reply) → k.woken ≡ false → shows k r ≡ true → is_left k r ≡ true
left k (reply.Effect effect.Pending) w h = h
left k (reply.Effect effect.Merged) w h = h
left k (reply.Effect effect.Wakes) w h = sym w ∙ h
left k _ w h = refl

all_left : (k : Known) (rs : List Reply) → k.woken ≡ false → list_all (shows k) rs ≡ true → list_all (is_left k) rs ≡ true
all_left k [] w h = refl
all_left k (r ∷ rs) w h =
    let b = both (shows k r) (list_all (shows k) rs) h in and_both (is_left k r) (list_all (is_left k) rs) (left k r w b.0) (all_left k rs w b.1)

not_woken : (b : Bool) → implies b false ≡ true → b ≡ false
not_woken true e = absurd (false≢true e)
not_woken false e = refl

-- A return comes to a thread that nobody woke.
passes : (k : Known) (rs : List Reply) (own : Option What) → delivers_when_woken k own ≡ true → list_all (shows k) rs ≡ true
    → leaves_cancels (record { known = k; replies = rs }) own ≡ true
passes k rs None w h = refl
passes k rs (Some (what.Ret r)) w h = all_left k rs (not_woken k.woken w) h
passes k rs (Some _) w h = refl

module _ (t : ℕ) where
  abbrev woken_test : Known → Entry → Bool
  woken_test k e = delivers_when_woken k (own_line t e)

  abbrev effect_test : Known → Entry → Bool
  effect_test k e = has_effect k (cancel_of t e.what)

  abbrev left_test : Cancelled → Entry → Bool
  left_test c e = leaves_cancels c (own_line t e)

  all_pass : (k : Known) (rs : List Reply) (es : List Entry) → fits (known_after t) woken_test k es ≡ true → fits (known_after t) effect_test k es ≡ true
      → list_all (shows k) rs ≡ true → fits (cancelled_after t) left_test (record { known = k; replies = rs }) es ≡ true
  all_pass k rs [] w f h = refl
  all_pass k rs (e ∷ es) w f h =
      let next : Known = known_after t k e in
      let more : List Reply = replies_after (own_line t e) (cancel_of t e.what) rs in
      let woken = both (woken_test k e) (fits (known_after t) woken_test next es) w in
      let effects = both (effect_test k e) (fits (known_after t) effect_test next es) f in
      and_both (left_test (record { known = k; replies = rs }) e) (fits (cancelled_after t) left_test (record { known = next; replies = more }) es)
      (passes k rs (own_line t e) woken.0 h)
      (all_pass next more es woken.1 effects.1 (all_show k (own_line t e) (cancel_of t e.what) rs effects.0 h))

pub left_pending : (s : Script) (entries : List Entry) → CancelLaw s entries → (t : ℕ) → returns_leave_cancels t entries ≡ true
left_pending s entries law t = all_pass t known_at_first [] entries (law.woken t) (law.effects t) refl
