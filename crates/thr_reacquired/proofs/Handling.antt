-- Lines that meet the laws on owners, on cancels and on routes keep a cancelled waiter's mutex up to the first entry of its route.
use Rattle.std.proofs.Common.{◌≡◌, ℕ, Bool, true, false, ◌&&◌, ◌||◌, cond, List, [], ◌∷◌, Option, Some, None, refl, sym, ap, ◌∙◌, subst}
use Rattle.std.proofs.lemmas.Bool.{false≢true}
use Rattle.std.specs.Prelude.{if◌then◌else◌, is_some, unwrap_or}
use Rattle.std.specs.List.{list_all}
use Rattle.thr_values.specs.declared.event.Stop.{Stop}
use Rattle.thr_values.specs.declared.history.Entry.{Entry}
use Rattle.thr_values.specs.declared.history.What.{What}
use Rattle.thr_values.specs.declared.history.What.TheVariants as what
use Rattle.thr_values.specs.declared.history.Who.{Who}
use Rattle.thr_values.specs.declared.history.Who.TheVariants as who
use Rattle.thr_syntax.specs.declared.tree.Script.{Script}
use Rattle.thr_text.specs.Reading.{Formed}
use Rattle.thr_values.specs.Exceptions.{cancel_e}
use Rattle.thr_remainder.specs.declared.unwinding.Cause.TheVariants.{Raised}
use Rattle.thr_remainder.specs.declared.unwinding.Unwinding.{Unwinding}
use Rattle.thr_laws.specs.Lines.{fits, is_by, with_line, lines_of_thread, line_but_gift, own_line, is_return, is_delivery, is_some_line, implies}
use Rattle.thr_laws.specs.Known.{Known, known_at_first}
use Rattle.thr_laws.specs.Owners.{Lock, Owner, OneOwner, Held, at_first, held_after, owner_by, is_owner, may_use_by}
use Rattle.thr_laws.specs.Routes.{Carried, carried_by}
use Rattle.thr_laws.specs.Scopes.{Open, opened_after}
use Rattle.thr_laws.specs.Routed.{Routed, made_by, Making, with_making, makings_from, route_of, is_pause, is_head, comes_next, goes_on}
use Rattle.thr_laws.specs.CancelLaw.{Both, both_after, is_wait_with, has_its_mutex, waits_end_with_the_mutex}
use Rattle.thr_laws.proofs.ReadingLaws.{both, and_both}
use Rattle.thr_model.specs.Histories.{Legal}
use Rattle.thr_model.proofs.Legality.{of-legal}
use Rattle.thr_owners.proofs.Owning.{one-owner}
use Rattle.thr_routed.proofs.ReturnSteps.{returns_leave_none}
use Rattle.thr_routed.proofs.Histories.{legal_routed}
use Rattle.thr_routed.proofs.Tries.{tries_clean}
use Rattle.thr_reacquired.specs.Handling.{delivery_in, ended_by, delivered_after, Delivered, delivered_with, handles, is_handled, handlers_find_the_mutex}
use Rattle.thr_reacquired.proofs.OwnersStay.{line_keeps}
use Rattle.thr_reacquired.proofs.Histories.{legal_ends_with_mutex}

-- The delivery is still to be handled: its thread owns the lock, and the next line other than `pause` carries its unwinding.
data Pending (t : ℕ) (o : Option Owner) (lines : List What) : Option ℕ → Type 0 where
  nothing : Pending t o lines None
  comes : (n : ℕ) (route : List Carried) → is_owner t o ≡ true → comes_next n route lines ≡ true → Pending t o lines (Some n)

pending_as : (t : ℕ) (o p : Option Owner) (lines more : List What) (d : Option ℕ) → (is_owner t o ≡ true → is_owner t p ≡ true) → ((n : ℕ) (route : List Carried) → comes_next n route lines ≡ true → comes_next n route more ≡ true)
    → Pending t o lines d → Pending t p more d
pending_as t o p lines more d f g nothing = nothing
pending_as t o p lines more d f g (comes n route e i) = comes n route (f e) (g n route i)

-- ---- lines that carry nothing

no_head : (route : List Carried) → is_head route None ≡ true → ⊥
no_head [] e = false≢true e
no_head (r ∷ route) e = false≢true e

head_some : (route : List Carried) (c : Option Carried) → is_head route c ≡ true → is_some c ≡ true
head_some route None e = absurd (no_head route e)
head_some route (Some c) e = refl

nothing_owns : (lock : Lock) (by : Who) (o : Option Owner) → owner_by lock by what.Pause o ≡ o
nothing_owns lock (who.Thread t) o = refl
nothing_owns lock (who.Proc p) o = refl
nothing_owns lock who.Clock o = refl

delivery_owns : (lock : Lock) (by : Who) (w : What) (o : Option Owner) → is_delivery w ≡ true → owner_by lock by w o ≡ o
delivery_owns lock (who.Thread t) (what.Deliver n line) o e = refl
delivery_owns lock (who.Thread t) _ o e = absurd (false≢true e)
delivery_owns lock (who.Proc p) w o e = refl
delivery_owns lock who.Clock w o e = refl

none_either : (b : Bool) → (let x : Option ℕ = None in if b then x else None) ≡ None
none_either true = refl
none_either false = refl

module _ (t : ℕ) (lock : Lock) where
  -- The line passes, and what is pending then.
  record Goes (k : Known) (h : Held) (by : Who) (w : What) (rest : List What) (d : Option ℕ) (own : Option What) : Type 0 where
    passes : is_handled t h d own ≡ true
    pends : Pending t (owner_by lock by w h.owner) rest (delivered_after lock k own d)

  silent_goes : (k : Known) (h : Held) (by : Who) (w : What) (rest : List What) (d : Option ℕ) → may_use_by lock h by w ≡ true → line_but_gift (is_by t by) w ≡ None → Pending t h.owner rest d → Goes k h by w rest d None
  silent_goes k h by w rest d may own p = record { passes = refl; pends = pending_as t h.owner (owner_by lock by w h.owner) rest rest d (line_keeps t lock h by w may own) (λ n route i. i) p }

  pause_goes : (k : Known) (h : Held) (by : Who) (rest : List What) (d : Option ℕ) → Pending t h.owner (what.Pause ∷ rest) d → Goes k h by what.Pause rest d (Some what.Pause)
  pause_goes k h by rest d p = record {
    passes = pass d;
    pends = pending_as t h.owner (owner_by lock by what.Pause h.owner) (what.Pause ∷ rest) rest d (λ e. ap (is_owner t) (nothing_owns lock by h.owner) ∙ e) (λ n route i. i) p;
  }
    where
      pass : (x : Option ℕ) → handles t h x what.Pause ≡ true
      pass None = refl
      pass (Some n) = refl

  -- A line of the thread's own, unless it is `pause`.
  own_passes : (h : Held) (w : What) (rest : List What) (d : Option ℕ) → is_pause w ≡ false → Pending t h.owner (w ∷ rest) d → handles t h d w ≡ true
  own_passes h w rest d n nothing = refl
  own_passes h w rest d n (comes x route e i) =
      let head : is_head route (carried_by x w) ≡ true = sym (ap (λ b. if b then comes_next x route rest else is_head route (carried_by x w)) n) ∙ i in
      ap (λ b. b || (is_some (carried_by x w) && is_owner t h.owner)) n ∙ and_both (is_some (carried_by x w)) (is_owner t h.owner) (head_some route (carried_by x w) head) e

  other_goes : (k : Known) (h : Held) (by : Who) (w : What) (rest : List What) (d : Option ℕ) → is_pause w ≡ false → delivery_in w ≡ None → Pending t h.owner (w ∷ rest) d → Goes k h by w rest d (Some w)
  other_goes k h by w rest d n f p = record {
    passes = own_passes h w rest d n p;
    pends = subst (Pending t (owner_by lock by w h.owner) rest) (sym (ap (λ b. if b then d else ended_by lock k.last w) n ∙ ap (λ o. if is_some_line (is_wait_with lock) k.last then o else None) f ∙ none_either (is_some_line (is_wait_with lock) k.last))) nothing;
  }

  delivery_goes : (k : Known) (h : Held) (by : Who) (n : ℕ) (w : What) (rest : List What) (d : Option ℕ) → is_pause w ≡ false → delivery_in w ≡ Some n → is_delivery w ≡ true → has_its_mutex t lock k h (Some w) ≡ true
      → (route : List Carried) → comes_next n route rest ≡ true → Pending t h.owner (w ∷ rest) d → Goes k h by w rest d (Some w)
  delivery_goes k h by n w rest d i f e mutex route next p = record {
    passes = own_passes h w rest d i p;
    pends = subst (Pending t (owner_by lock by w h.owner) rest) (sym (ap (λ b. if b then d else ended_by lock k.last w) i ∙ ap (λ o. if is_some_line (is_wait_with lock) k.last then o else None) f)) (either (is_some_line (is_wait_with lock) k.last) refl);
  }
    where
      owns : (a b c : Bool) → b ≡ true → implies ((a || b) && true) c ≡ true → c ≡ true
      owns true b c x y = y
      owns false true c x y = y
      owns false false c x y = absurd (false≢true x)

      either : (b : Bool) → is_some_line (is_wait_with lock) k.last ≡ b → Pending t (owner_by lock by w h.owner) rest (if b then Some n else None)
      either false x = nothing
      either true x =
          comes n route (ap (is_owner t) (delivery_owns lock by w h.owner e)
          ∙ owns (is_return w) (is_delivery w) (is_owner t h.owner) e (sym (ap (λ b. implies ((is_return w || is_delivery w) && b) (is_owner t h.owner)) x) ∙ mutex)) next

  -- The unwinding of a delivery goes on with these lines.
  abbrev Next : Bool → What → List What → Type 0
  Next b w rest = (n : ℕ) → b ≡ true → delivery_in w ≡ Some n → (route : List Carried) × (comes_next n route rest ≡ true)

  step : (k : Known) (h : Held) (by : Who) (w : What) (rest : List What) (d : Option ℕ) (b : Bool) → is_by t by ≡ b → has_its_mutex t lock k h (line_but_gift b w) ≡ true → may_use_by lock h by w ≡ true → Next b w rest
      → Pending t h.owner (with_line b w rest) d → Goes k h by w rest d (line_but_gift b w)
  step k h by w rest d false is mutex may next p = silent_goes k h by w rest d may (ap (λ b. line_but_gift b w) is) p
  step k h by (what.Gift m) rest d true is mutex may next p =
      silent_goes k h by (what.Gift m) rest d may (ap (λ b. line_but_gift b (what.Gift m)) is) (pending_as t h.owner h.owner (what.Gift m ∷ rest) rest d (λ e. e) (λ n route i. absurd (no_head route i)) p)
  step k h by what.Pause rest d true is mutex may next p = pause_goes k h by rest d p
  step k h by (what.Deliver n line) rest d true is mutex may next p =
      let x : (route : List Carried) × (comes_next n route rest ≡ true) = next n refl refl in delivery_goes k h by n (what.Deliver n line) rest d refl refl refl mutex x.0 x.1 p
  step k h by w rest d true is mutex may next p = other_goes k h by w rest d refl refl p

-- ---- unwindings that are made

module _ (s : Script) (t : ℕ) (lock : Lock) where
  -- What is made goes straight on.
  abbrev goes_straight : Making → Bool
  goes_straight m = comes_next m.number (route_of s m) m.after && goes_on m.number (route_of s m) m.scopes m.after

  abbrev AllStraight : List Open → List What → Type 0
  AllStraight scopes lines = list_all goes_straight (makings_from scopes lines) ≡ true

  made_rest : (o : Option Unwinding) (scopes : List Open) (after : List What) (ms : List Making) → list_all goes_straight (with_making o scopes after ms) ≡ true → list_all goes_straight ms ≡ true
  made_rest None scopes after ms e = e
  made_rest (Some u) scopes after ms e = (both (goes_straight (record { number = u.number; cause = u.cause; scopes = scopes; after = after })) (list_all goes_straight ms) e).1

  straight_rest : (scopes : List Open) (b : Bool) (w : What) (rest : List What) → AllStraight scopes (with_line b w rest) → AllStraight (cond b (opened_after scopes w) scopes) rest
  straight_rest scopes false w rest e = e
  straight_rest scopes true w rest e = made_rest (made_by w) scopes rest (makings_from (opened_after scopes w) rest) e

  straight_next : (scopes : List Open) (b : Bool) (w : What) (rest : List What) → AllStraight scopes (with_line b w rest) → Next t lock b w rest
  straight_next scopes false w rest e n i f = absurd (false≢true i)
  straight_next scopes true (what.Deliver m line) rest e n i f =
      let made : Making = record { number = m; cause = Raised cancel_e; scopes = scopes; after = rest } in
      let first : goes_straight made ≡ true = (both (goes_straight made) (list_all goes_straight (makings_from (opened_after scopes (what.Deliver m line)) rest)) e).0 in
      (route_of s made, subst (λ (x : ℕ). comes_next x (route_of s made) rest ≡ true) (ap (λ (o : Option ℕ). unwrap_or o m) f) (both (comes_next m (route_of s made) rest) (goes_on m (route_of s made) scopes rest) first).0)
  straight_next scopes true _ rest e n i f = absurd (cc)

  -- ---- along the lines

  -- What is known of the thread, of the lock, and of the delivery that is still to be handled.
  abbrev at : Both → Option ℕ → Delivered
  at k d = record { both = k; number = d }

  abbrev mutex_test : Both → Entry → Bool
  mutex_test k e = has_its_mutex t lock k.thread k.lock (own_line t e)

  abbrev handling_test : Delivered → Entry → Bool
  handling_test d e = is_handled t d.both.lock d.number (own_line t e)

  abbrev owner_test : Held → Entry → Bool
  owner_test h e = may_use_by lock h e.who e.what

  all_handled : (scopes : List Open) (k : Both) (d : Option ℕ) (es : List Entry) → fits (both_after t lock) mutex_test k es ≡ true → fits (held_after lock) owner_test k.lock es ≡ true → AllStraight scopes (lines_of_thread t es)
      → Pending t k.lock.owner (lines_of_thread t es) d → fits (delivered_with t lock) handling_test (at k d) es ≡ true
  all_handled scopes k d [] m o a p = refl
  all_handled scopes k d (e ∷ es) m o a p =
      let b : Bool = is_by t e.who in
      let rest : List What = lines_of_thread t es in
      let next : Both = both_after t lock k e in
      let mutex : (mutex_test k e ≡ true) × (fits (both_after t lock) mutex_test next es ≡ true) = both (mutex_test k e) (fits (both_after t lock) mutex_test next es) m in
      let owners : (owner_test k.lock e ≡ true) × (fits (held_after lock) owner_test next.lock es ≡ true) = both (owner_test k.lock e) (fits (held_after lock) owner_test next.lock es) o in
      let x : Goes t lock k.thread k.lock e.who e.what rest d (own_line t e) = step t lock k.thread k.lock e.who e.what rest d b refl mutex.0 owners.0 (straight_next scopes b e.what rest a) p in
      let after : Option ℕ = delivered_after lock k.thread (own_line t e) d in
      and_both (handling_test (at k d) e) (fits (delivered_with t lock) handling_test (at next after) es) x.passes
      (all_handled (cond b (opened_after scopes e.what) scopes) next after es mutex.1 owners.1 (straight_rest scopes b e.what rest a) x.pends)

-- So do all lines that meet the three laws.
pub lines_handled : {s : Script} {entries : List Entry} (t : ℕ) (lock : Lock) → OneOwner entries → waits_end_with_the_mutex t lock entries ≡ true → Routed s entries → handlers_find_the_mutex t lock entries ≡ true
lines_handled {s} {entries} t lock owners mutexes routed = all_handled s t lock [] (record { thread = known_at_first; lock = at_first lock }) None entries mutexes (owners.one lock) (routed.straight t) nothing

-- And so do all legal histories of a script that keeps the rules.
pub history_handled : {s : Script} {n : ℕ} {entries : List Entry} {stop : Stop} → Formed s → Legal s n entries stop → (t : ℕ) (lock : Lock) → handlers_find_the_mutex t lock entries ≡ true
history_handled {s} {n} {entries} {stop} formed legal t lock =
    lines_handled t lock (of-legal OneOwner (λ x h. one-owner h) legal) (legal_ends_with_mutex legal t lock) (legal_routed s n entries stop (returns_leave_none s (tries_clean s formed)) legal)
