-- One more event of a book.
use Rattle.std.proofs.Common.{◌≡◌, ℕ, ◌+◌, ◌<◌, ◌≤◌, List, ◌++◌, ◌∷◌, length, refl, sym, ◌∙◌, ap, subst, None, Some, Bool, true, false, cond, eqb, arith}
use Rattle.std.specs.Prelude.{IsSome, IfSome, Option, is_some, vec_len}
use Rattle.std.specs.Option.{option_map}
use Rattle.thr_values.specs.declared.event.Event.{Event}
use Rattle.thr_values.specs.declared.event.Event.TheVariants as event
use Rattle.thr_values.specs.declared.event.Stop.{Stop}
use Rattle.thr_values.specs.declared.history.Entry.{Entry}
use Rattle.thr_values.specs.declared.number.Tid.{Tid}
use Rattle.thr_syntax.specs.declared.tree.Script.{Script}
use Rattle.thr_remainder.specs.Remainders.{Remainder, Setting}
use Rattle.thr_parts.specs.Tables.{Table, get, has, put, cut, IsCanonical}
use Rattle.thr_parts.specs.Dispatch.{running}
use Rattle.thr_parts.specs.Threads.{Threads}
use Rattle.std.proofs.lemmas.Bool.Decides.{nat_tests}
use Rattle.thr_parts.proofs.TableLaws.{has_get, get_put, get_cut}
use Rattle.thr_model.specs.States.{State}
use Rattle.thr_model.specs.Turns.{Made, turn_of}
use Rattle.thr_model.specs.Events.{made_by}
use Rattle.thr_model.specs.Histories.{Execution, then_event, turn_count}
use Rattle.thr_services.specs.Views.{ServicesView, state_with}
use Rattle.thr_frames.specs.Stacks.{StackView, remainder_of, setting_of, IsStack}
use Rattle.thr_stacks.specs.Stacks.{remainders_of, StacksStand}
use Rattle.thr_turns.specs.declared.workings.Workings.{Workings}
use Rattle.thr_turns.specs.declared.workings.Left.{Left}
use Rattle.thr_turns.specs.declared.workings.Left.TheVariants as left
use Rattle.thr_turns.specs.Steps.{left_in, IsBegun}
use Rattle.thr_machine.specs.Views.{BookView}
use Rattle.thr_machine.specs.Books.{state_of, view_of, stop_of, settings_in, most_lines, IsReached, IsOpen, Makes, IsKept, IsSpare}
use Rattle.thr_machine.specs.Stepping.{TurnsInPlace, StacksAfter}
use Rattle.thr_machine.specs.declared.book.Book.TheInside.{Inside}
use Rattle.thr_machine.proofs.Tables.{put-swap, cut-put, get-here, has-some}

-- ---- events

-- an event that was made leads on from a book that is reached
reached-next : (old new : BookView) (e : Event) → IsReached old → stop_of old ≡ None → Makes old new e → IsReached new
reached-next old new e r open_ m =
    subst IsReached (sym m.after) (record { events = e ∷ r.events; history = then_event r.history open_ e m.made m.is_made })

-- a book that goes on has no stop
pub none-kept : (o : Option Stop) (P : Stop → Type 0) → o ≡ None → IfSome o P
none-kept o P e = rw e tt

-- The book after an event, from what changed in the fields.
abbrev pub next_of : Inside → Workings → Table StackView → Option StackView → ℕ → Inside
next_of a w stacks spare turns = record a { workings = w; stacks = stacks; spare = spare; turns = turns }

-- an event with these lines, from what changed in the fields
pub makes-event : (a : Inside) (w : Workings) (stacks : Table StackView) (spare : Option StackView) (turns : ℕ) (e : Event) (ls : List Entry)
    → made_by a.lines a.workers (state_of a.lines a.workings a.stacks) e ≡ Some (record { state = state_of a.lines w stacks; lines = ls }) → 0 < length ls → length ls ≤ most_lines
    → w.entries.items ≡ a.workings.entries.items ++ ls → turns ≡ a.turns + turn_count e → Makes (view_of a) (view_of (next_of a w stacks spare turns)) e
makes-event a w stacks spare turns e ls m some few lines count = record {
  made = record { state = state_of a.lines w stacks; lines = ls };
  is_made = m;
  some = some;
  few = few;
  after =
      ap (λ (es : List Entry). let v : BookView = record (view_of (next_of a w stacks spare turns)) { entries = es } in v) lines
      ∙ ap (λ (n : ℕ). let v : BookView = record (view_of (next_of a w stacks spare turns)) { entries = a.workings.entries.items ++ ls; turns = n } in v) count;
}

-- what a book keeps after an event
pub kept-next : (a : Inside) (w : Workings) (stacks : Table StackView) (spare : Option StackView) (turns : ℕ) (e : Event) → IsKept a → stop_of (view_of a) ≡ None → a.stopped ≡ None
    → Makes (view_of a) (view_of (next_of a w stacks spare turns)) e → StacksStand a.lines stacks (settings_in a.lines (state_of a.lines w stacks)) → w.interface ≡ a.workings.interface → IfSome spare IsSpare
    → turns ≤ vec_len w.entries → IsKept (next_of a w stacks spare turns)
kept-next a w stacks spare turns e k open_ going m stand interface spares counted = record {
  formed = k.formed;
  limit = k.limit;
  some = k.some;
  few = k.few;
  stand = stand;
  interface = interface ∙ k.interface;
  spare = spares;
  reached = reached-next (view_of a) (view_of (next_of a w stacks spare turns)) e k.reached open_ m;
  counted = counted;
  stopped = none-kept a.stopped _ going;
}

-- the premises of an event, at the fields
pub is-open : (a : Inside) (b : BookView) → view_of a ≡ b → IsOpen b → IsOpen (view_of a)
is-open a b e o = subst IsOpen (sym e) o

pub is-running : (a : Inside) (b : BookView) (p : ℕ) → view_of a ≡ b → IsSome (running b.state.rows p) → IsSome (running a.workings.services.rows p)
is-running a b p e h = subst (λ (v : BookView). IsSome (running v.state.rows p)) (sym e) h

-- The execution to which a book has come.
abbrev pub execution_of : (b : BookView) → IsReached b → Execution
execution_of b r = record { state = b.state; events = r.events; entries = b.entries; turns = b.turns }

-- ---- what is left after a turn

-- What is left to do in threads follows their stacks.
pub record FollowStacks (s : Script) : Type 0 where
  pub put_left : (m : Table StackView) (t : ℕ) (k : StackView) → remainders_of s (put m t k) ≡ put (remainders_of s m) t (remainder_of s k)
  pub cut_left : (m : Table StackView) (t : ℕ) → remainders_of s (cut m t) ≡ cut (remainders_of s m) t
  pub get_left : (m : Table StackView) (t : ℕ) → get (remainders_of s m) t ≡ option_map (remainder_of s) (get m t)
  pub has_left : (m : Table StackView) (t : ℕ) → has (remainders_of s m) t ≡ has m t

-- A thread that begins isn't the one that made it.
abbrev pub ApartFrom : Tid → Left → Type 0
ApartFrom t (left.Begins u routine n) = u.0 ≡ t.0 → ⊥
ApartFrom t _ = Unit {0}

left-is : (s : Script) (ths : Threads) (stacks mid new : Table StackView) (t : Tid) (k : StackView) (l : Left) → FollowStacks s → IsCanonical (remainders_of s stacks) → mid ≡ put stacks t.0 k
    → StacksAfter s ths t mid new l → ApartFrom t l → remainders_of s new ≡ left_in s (remainders_of s stacks) t (remainder_of s k) l
left-is s ths stacks mid new t k left.Goes f rises turned after apart = ap (remainders_of s) (after ∙ turned) ∙ f.put_left stacks t.0 k
left-is s ths stacks mid new t k (left.Begins u routine n) f rises turned after apart =
    ap (remainders_of s) (after.puts ∙ ap (λ (m : Table StackView). put m u.0 after.its) turned)
    ∙ f.put_left (put stacks t.0 k) u.0 after.its
    ∙ ap (λ (m : Table Remainder). put m u.0 (remainder_of s after.its)) (f.put_left stacks t.0 k)
    ∙ ap (put (put (remainders_of s stacks) t.0 (remainder_of s k)) u.0) after.begun.begins
    ∙ put-swap (remainders_of s stacks) t.0 u.0 (remainder_of s k) _ rises (λ e. apart (sym e))
left-is s ths stacks mid new t k left.Ended f rises turned after apart =
    ap (remainders_of s) (after ∙ ap (λ (m : Table StackView). cut m t.0) turned)
    ∙ f.cut_left (put stacks t.0 k) t.0
    ∙ ap (λ (m : Table Remainder). cut m t.0) (f.put_left stacks t.0 k)
    ∙ cut-put (remainders_of s stacks) t.0 (remainder_of s k) rises

not-its : (t u next : ℕ) → t < next → u ≡ next → u ≡ t → ⊥
not-its t u next less e same = omega arith

-- A thread that was made has the next number, and so not the number of the one that made it.
pub apart-from : (s : Script) (t : Tid) (v : ServicesView) (l : Left) → t.0 < v.threads.next → IsBegun s v l → ApartFrom t l
apart-from s t v left.Goes less h = tt
apart-from s t v (left.Begins u routine n) less h = λ same. not-its t.0 u.0 v.threads.next less h.0 same
apart-from s t v left.Ended less h = tt

turn-event : (s : Script) (n p : ℕ) (st : State) (t : Tid) (made : Made) → running st.rows p ≡ Some t → turn_of s st t ≡ made → made_by s n st (event.Turn p) ≡ Some made
unfolding made_by
turn-event s n p st t made runs is = ap (option_map (turn_of s st)) runs ∙ ap (λ (m : Made). Some m) is

-- What a turn makes, before the table of stacks follows it.
pub turn-made : (s : Script) (n p : ℕ) (t : Tid) (old new : Workings) (stacks mid : Table StackView) (l : Left) → FollowStacks s → running old.services.rows p ≡ Some t → (turned : TurnsInPlace s t old new stacks mid l)
    → made_by s n (state_of s old stacks) (event.Turn p)
    ≡ Some (record { state = state_with new.services (left_in s (remainders_of s stacks) t (remainder_of s turned.after) l) new.shared; lines = turned.turn.lines })
turn-made s n p t old new stacks mid l f runs turned =
    turn-event s n p (state_of s old stacks) t _ runs
    (turned.turn.made (remainders_of s stacks) (f.get_left stacks t.0 ∙ ap (option_map (remainder_of s)) turned.is))

-- The same once it has followed.
pub turn-settled : (s : Script) (n p : ℕ) (t : Tid) (old new : Workings) (stacks mid after : Table StackView) (l : Left) → FollowStacks s → IsCanonical (remainders_of s stacks) → running old.services.rows p ≡ Some t → t.0 < old.services.threads.next
    → (turned : TurnsInPlace s t old new stacks mid l) → StacksAfter s new.services.threads t mid after l
    → made_by s n (state_of s old stacks) (event.Turn p) ≡ Some (record { state = state_of s new after; lines = turned.turn.lines })
turn-settled s n p t old new stacks mid after l f rises runs less turned settled =
    turn-made s n p t old new stacks mid l f runs turned
    ∙ ap (λ (rs : Table Remainder). let o : Option Made = Some (record { state = state_with new.services rs new.shared; lines = turned.turn.lines }) in o)
    (sym (left-is s new.services.threads stacks mid after t turned.after l f rises turned.puts settled (apart-from s t old.services l less turned.turn.begun)))

-- ---- which threads have stacks

known-by : {A : Type 0} (b : Bool) (v : A) (o : Option A) (here : Bool) → (b ≡ true → here ≡ true) → (is_some o ≡ true → here ≡ true) → is_some (cond b (Some v) o) ≡ true → here ≡ true
known-by true v o here f g h = f refl
known-by false v o here f g h = g h

same-number : (k q : ℕ) → eqb k q ≡ true → k ≡ q
same-number k q e = grind (arith, nat_tests)

-- where a number was there, no other number comes with it
put-known : {A : Type 0} (m : Table A) (t q : ℕ) (v : A) → has m t ≡ true → has (put m t v) q ≡ true → has m q ≡ true
put-known m t q v there h =
    known-by (eqb t q) v (get m q) (has m q) (λ e. ap (has m) (sym (same-number t q e)) ∙ there) (λ e. has_get m q ∙ e) (sym (has_get (put m t v) q ∙ ap is_some (get_put m t q v)) ∙ h)

still-by : {A : Type 0} (b : Bool) (v : A) (o : Option A) → is_some o ≡ true → is_some (cond b (Some v) o) ≡ true
still-by true v o h = refl
still-by false v o h = h

pub put-still : {A : Type 0} (m : Table A) (t q : ℕ) (v : A) → has m q ≡ true → has (put m t v) q ≡ true
put-still m t q v h = has_get (put m t v) q ∙ ap is_some (get_put m t q v) ∙ still-by (eqb t q) v (get m q) (sym (has_get m q) ∙ h)

pub put-here : {A : Type 0} (m : Table A) (t : ℕ) (v : A) → has (put m t v) t ≡ true
put-here m t v = has-some (put m t v) t v (get-here m t v)

gone-by : {A : Type 0} (b : Bool) (o : Option A) → is_some (cond b None o) ≡ true → is_some o ≡ true
gone-by true o h = absurd (cc)
gone-by false o h = h

cut-known : {A : Type 0} (m : Table A) (t q : ℕ) → has (cut m t) q ≡ true → has m q ≡ true
cut-known m t q h = has_get m q ∙ gone-by (eqb t q) (get m q) (sym (has_get (cut m t) q ∙ ap is_some (get_cut m t q)) ∙ h)

-- ---- stacks that stand

-- That stacks go on standing where one is put and one is taken out.
pub record StandOn (s : Script) : Type 0 where
  pub put_stands : (m : Table StackView) (setting : ℕ → Setting) (t : ℕ) (k : StackView) → StacksStand s m setting → IsStack s k → setting_of s k ≡ setting t → StacksStand s (put m t k) setting
  pub cut_stands : (m : Table StackView) (setting : ℕ → Setting) (t : ℕ) → StacksStand s m setting → StacksStand s (cut m t) setting

-- That stacks of threads in which something was and is left to do go on standing.
abbrev pub Restand : Script → State → State → Type 0
Restand s old new =
    (stacks : Table StackView) → ((t : ℕ) → has stacks t ≡ true → has old.remainders t ≡ true) → ((t : ℕ) → has stacks t ≡ true → has new.remainders t ≡ true)
    → StacksStand s stacks (settings_in s old) → StacksStand s stacks (settings_in s new)

-- The stacks stand after the turn alone.
turned-stands : (s : Script) (t : Tid) (old new : Workings) (stacks mid : Table StackView) (l : Left) (settings : ℕ → Setting) → StandOn s → (turned : TurnsInPlace s t old new stacks mid l)
    → StacksStand s stacks settings → StacksStand s mid settings
turned-stands s t old new stacks mid l settings on turned stand =
    subst (λ (m : Table StackView). StacksStand s m settings) (sym turned.puts)
    (on.put_stands stacks settings t.0 turned.after stand turned.turn.stack (turned.turn.setting ∙ stand.set t.0 turned.own turned.is))

-- only threads that had stacks have them after the turn alone
pub turned-known : (s : Script) (t : Tid) (old new : Workings) (stacks mid : Table StackView) (l : Left) (turned : TurnsInPlace s t old new stacks mid l) → (q : ℕ) → has mid q ≡ true → has stacks q ≡ true
turned-known s t old new stacks mid l turned q h =
    put-known stacks t.0 q turned.after (has-some stacks t.0 turned.own turned.is) (subst (λ (m : Table StackView). has m q ≡ true) turned.puts h)

module _ (s : Script) (old : State) (new : Workings) (after : Table StackView) (f : FollowStacks s) (on : StandOn s) (again : Restand s old (state_of s new after)) where
  has-left : (q : ℕ) → has after q ≡ true → has (remainders_of s after) q ≡ true
  has-left q h = f.has_left after q ∙ h

  settled-stands : (t : Tid) (mid : Table StackView) (l : Left) → StacksAfter s new.services.threads t mid after l → ((q : ℕ) → has mid q ≡ true → has old.remainders q ≡ true)
      → StacksStand s mid (settings_in s old) → StacksStand s after (settings_in s (state_of s new after))
  settled-stands t mid left.Goes settled before stand =
      again after (λ q h. before q (subst (λ (m : Table StackView). has m q ≡ true) settled h)) has-left (subst (λ (m : Table StackView). StacksStand s m (settings_in s old)) (sym settled) stand)
  settled-stands t mid (left.Begins u routine n) settled before stand =
      let kept : StacksStand s mid (settings_in s (state_of s new after)) =
      again mid before (λ q h. has-left q (subst (λ (m : Table StackView). has m q ≡ true) (sym settled.puts) (put-still mid u.0 q settled.its h))) stand in
      subst (λ (m : Table StackView). StacksStand s m (settings_in s (state_of s new after))) (sym settled.puts)
      (on.put_stands mid (settings_in s (state_of s new after)) u.0 settled.its kept settled.begun.stack settled.begun.setting)
  settled-stands t mid left.Ended settled before stand =
      let there : StacksStand s after (settings_in s old) = subst (λ (m : Table StackView). StacksStand s m (settings_in s old)) (sym settled) (on.cut_stands mid (settings_in s old) t.0 stand) in
      again after (λ q h. before q (cut-known mid t.0 q (subst (λ (m : Table StackView). has m q ≡ true) settled h))) has-left there

-- The stacks stand after the turn.
pub stands-after : (s : Script) (t : Tid) (old new : Workings) (stacks mid after : Table StackView) (l : Left) → FollowStacks s → StandOn s → Restand s (state_of s old stacks) (state_of s new after)
    → (turned : TurnsInPlace s t old new stacks mid l) → StacksAfter s new.services.threads t mid after l → StacksStand s stacks (settings_in s (state_of s old stacks))
    → StacksStand s after (settings_in s (state_of s new after))
stands-after s t old new stacks mid after l f on again turned settled stand =
    settled-stands s (state_of s old stacks) new after f on again t mid l settled (λ q h. f.has_left stacks q ∙ turned-known s t old new stacks mid l turned q h)
    (turned-stands s t old new stacks mid l (settings_in s (state_of s old stacks)) on turned stand)
