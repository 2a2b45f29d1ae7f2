-- The owner of a lock stays its owner over lines in which the thread does nothing of its own.
use Rattle.std.proofs.Common.{◌≡◌, ℕ, ◌+◌, ◌==◌, Bool, true, false, not, ◌&&◌, ◌||◌, eqb, is_none, List, [], ◌∷◌, ◌++◌, Option, Some, None, refl, sym, ap, ◌∙◌}
use Rattle.std.proofs.lemmas.Bool.{eqb-true, eq-eqb, false≢true}
use Rattle.std.proofs.lemmas.List.Sums.{fold-append}
use Rattle.std.specs.Prelude.{if◌then◌else◌}
use Rattle.std.specs.List.{fold}
use Rattle.thr_values.specs.declared.history.Entry.{Entry}
use Rattle.thr_values.specs.declared.history.What.{What}
use Rattle.thr_values.specs.declared.history.What.TheVariants as what
use Rattle.thr_values.specs.declared.history.Who.{Who}
use Rattle.thr_values.specs.declared.history.Who.TheVariants as who
use Rattle.thr_values.specs.declared.reply.Kind.{Kind}
use Rattle.thr_laws.specs.Lines.{fits, line_but_gift, is_by}
use Rattle.thr_laws.specs.Owners.{Lock, is_same_lock, Use, Locks, Gives, Unlocks, GivesUp, Nothing, use_of, Owner, owned, is_owner, is_recursive, locked_by, owner_if, owner_after, at_first, held_after, owner_by, owner, may_use, may_use_by, has_one_owner}
use Rattle.thr_laws.specs.Owners as told
use Rattle.thr_laws.proofs.ReadingLaws.{both}
use Rattle.thr_answers.proofs.AnswerReading.{IsSilent}

-- The use takes a lock from its owner.
abbrev takes_away : Use → Bool
takes_away (Unlocks m) = true
takes_away (GivesUp m) = true
takes_away _ = false

locked_again : (o : Owner) (t u : ℕ) (kind : Kind) (b : Bool) → (o.thread == t) ≡ b → (is_none (let x : Option Owner = Some o in x) || (is_recursive kind && b)) ≡ true → (o.thread == u) ≡ true
    → is_owner u (if b then owned t (o.depth + 1) else owned t 1) ≡ true
locked_again o t u kind true is may e = eq-eqb t u (sym (eqb-true o.thread t is) ∙ eqb-true o.thread u e)
locked_again o t u kind false is may e = absurd (never (is_recursive kind) may)
  where
    never : (r : Bool) → (false || (r && false)) ≡ true → ⊥
    never true f = false≢true f
    never false f = false≢true f

by_lock : (kind : Kind) (o : Option Owner) (t u : ℕ) → (is_none o || (is_recursive kind && is_owner t o)) ≡ true → is_owner u o ≡ true → is_owner u (locked_by t o) ≡ true
by_lock kind None t u may e = absurd (false≢true e)
by_lock kind (Some o) t u may e = locked_again o t u kind (o.thread == t) refl may e

not_none : (o : Option Owner) (u : ℕ) → is_none o ≡ true → is_owner u o ≡ true → ⊥
not_none None u n e = false≢true e
not_none (Some o) u n e = false≢true n

same_owner : (o : Option Owner) (t u : ℕ) → is_owner t o ≡ true → is_owner u o ≡ true → eqb t u ≡ true
same_owner None t u f e = absurd (false≢true e)
same_owner (Some o) t u f e = eq-eqb t u (sym (eqb-true o.thread t f) ∙ eqb-true o.thread u e)

only_if : (b may : Bool) (u : ℕ) (before after : Option Owner) → (not b || may) ≡ true → (may ≡ true → is_owner u after ≡ true) → is_owner u before ≡ true → is_owner u (owner_if b after before) ≡ true
only_if true may u before after m f e = f m
only_if false may u before after m f e = e

use_keeps : (lock : Lock) (kind : Kind) (o : Option Owner) (t u : ℕ) (x : Use) → may_use lock kind o t x ≡ true → (takes_away x ≡ true → eqb t u ≡ true → ⊥) → is_owner u o ≡ true → is_owner u (owner_after lock t x o) ≡ true
use_keeps lock kind o t u (Locks m) may n e = only_if (is_same_lock m lock) (is_none o || (is_recursive kind && is_owner t o)) u o (locked_by t o) may (λ f. by_lock kind o t u f e) e
use_keeps lock kind o t u (Gives m) may n e = only_if (is_same_lock m lock) (is_none o) u o (owned t 1) may (λ f. absurd (not_none o u f e)) e
use_keeps lock kind o t u (Unlocks m) may n e = only_if (is_same_lock m lock) (is_owner t o) u o (told.unlocked o) may (λ f. absurd (n refl (same_owner o t u f e))) e
use_keeps lock kind o t u (GivesUp m) may n e = only_if (is_same_lock m lock) (is_owner t o) u o None may (λ f. absurd (n refl (same_owner o t u f e))) e
use_keeps lock kind o t u Nothing may n e = e

own_takes : (w : What) (b : Bool) → line_but_gift b w ≡ None → takes_away (use_of w) ≡ true → b ≡ true → ⊥
own_takes w false e f i = false≢true i
own_takes (what.Gift m) true e f i = false≢true f
own_takes _ true e f i = absurd (cc)

module _ (u : ℕ) (lock : Lock) where
  pub line_keeps : (h : told.Held) (by : Who) (w : What) → may_use_by lock h by w ≡ true → line_but_gift (is_by u by) w ≡ None → is_owner u h.owner ≡ true → is_owner u (owner_by lock by w h.owner) ≡ true
  line_keeps h (who.Thread t) w may own e = use_keeps lock h.kind h.owner t.0 u (use_of w) may (λ f i. own_takes w (t.0 == u) own f i) e
  line_keeps h (who.Proc p) w may own e = e
  line_keeps h who.Clock w may own e = e

  -- Each line fits what is known of the lock.
  abbrev pub AllFit : told.Held → List Entry → Type 0
  AllFit h es = fits (held_after lock) (λ (x : told.Held) (e : Entry). may_use_by lock x e.who e.what) h es ≡ true

  silent_keeps : (h : told.Held) (es : List Entry) → AllFit h es → IsSilent u es → is_owner u h.owner ≡ true → is_owner u (fold (held_after lock) h es).owner ≡ true
  silent_keeps h [] f q e = e
  silent_keeps h (x ∷ xs) f q e =
      let p = both (may_use_by lock h x.who x.what) (fits (held_after lock) (λ (y : told.Held) (e : Entry). may_use_by lock y e.who e.what) (held_after lock h x) xs) f in
      silent_keeps (held_after lock h x) xs p.1 q.1 (line_keeps h x.who x.what p.0 q.0 e)

  last_fit : (h : told.Held) (xs ys : List Entry) → AllFit h (xs ++ ys) → AllFit (fold (held_after lock) h xs) ys
  last_fit h [] ys f = f
  last_fit h (x ∷ xs) ys f =
      last_fit (held_after lock h x) xs ys (both (may_use_by lock h x.who x.what) (fits (held_after lock) (λ (y : told.Held) (e : Entry). may_use_by lock y e.who e.what) (held_after lock h x) (xs ++ ys)) f).1

-- The thread keeps a lock that it owns over more lines in which it does nothing of its own.
pub lines_keep : (u : ℕ) (lock : Lock) (entries lines : List Entry) → has_one_owner lock (entries ++ lines) ≡ true → IsSilent u lines → is_owner u (owner entries lock) ≡ true → is_owner u (owner (entries ++ lines) lock) ≡ true
lines_keep u lock entries lines one q e =
    let first : told.Held = at_first lock in
    ap (λ (x : told.Held). is_owner u x.owner) (fold-append (held_after lock) first entries lines)
    ∙ silent_keeps u lock (fold (held_after lock) first entries) lines (last_fit u lock first entries lines one) q e
