-- The setting of a thread that has not ended, and in which something is left to do, stays at each event.
use Rattle.std.proofs.Common.{◌≡◌, ℕ, ◌<◌, ℤ, pos, negsuc, Bool, true, false, cond, eqb, Option, Some, None, refl, sym, ◌∙◌, ap, arith}
use Rattle.std.proofs.lemmas.Bool.{eqb-true, false≢true}
use Rattle.std.proofs.lemmas.Bool.Decides.{nat_tests}
use Rattle.std.specs.Prelude.{if◌then◌else◌, is_some}
use Rattle.std.specs.Option.{option_map}
use Rattle.thr_values.specs.declared.number.Tid.{Tid}
use Rattle.thr_values.specs.declared.event.Event.{Event}
use Rattle.thr_syntax.specs.declared.tree.Script.{Script}
use Rattle.thr_remainder.specs.Remainders.{Remainder, Setting}
use Rattle.thr_parts.specs.declared.thread.Thread.{Thread}
use Rattle.thr_parts.specs.Tables.{Table, get, has, put, put_if, cut, keep_if}
use Rattle.thr_parts.specs.Replies.{is_value}
use Rattle.thr_parts.specs.Rows.{thread}
use Rattle.thr_parts.specs.Threads.{Threads, natural, record_of, record_at, attr_at, create, created_by, as_detached, records_detached, as_ended, records_ended}
use Rattle.thr_parts.proofs.TableLaws.{has_get, get_put, get_cut}
use Rattle.thr_model.specs.States.{frames_in, setting_of}
use Rattle.thr_model.specs.Turns.{Made}
use Rattle.thr_model.specs.Events.{made_by}
use Rattle.thr_model.specs.Histories.{Execution, History}
use Rattle.thr_counts.proofs.ThreadsMade.{AfterCalls, threads_made}
use Rattle.thr_counts.proofs.Numbered.{numbers_given}

-- The thread has a record, and has not ended.
pub record IsLiving (m : Table Thread) (u : ℕ) : Type 0 where
  pub record_there : Thread
  pub at : get m u ≡ Some record_there
  pub going : record_there.ended ≡ None

put_frames : (b : Bool) (th : Thread) (o : Option Thread) → (b ≡ true → th.frames ≡ frames_in o) → frames_in (cond b (Some th) o) ≡ frames_in o
put_frames true th o h = h refl
put_frames false th o h = refl

frames_put : (m : Table Thread) (k u : ℕ) (th : Thread) → (eqb k u ≡ true → th.frames ≡ frames_in (get m u)) → frames_in (get (put m k th) u) ≡ frames_in (get m u)
frames_put m k u th h = ap frames_in (get_put m k u th) ∙ put_frames (eqb k u) th (get m u) h

frames_cut : (m : Table Thread) (k u : ℕ) → eqb k u ≡ false → frames_in (get (cut m k) u) ≡ frames_in (get m u)
frames_cut m k u e = ap frames_in (get_cut m k u ∙ ap (λ b. cond b None (get m u)) e)

found_frames : (m : Table Thread) (k u : ℕ) (th : Thread) → get m k ≡ Some th → eqb k u ≡ true → th.frames ≡ frames_in (get m u)
found_frames m k u th at e = ap frames_in (sym at ∙ ap (get m) (eqb-true k u e))

changed_at : (m : Table Thread) (k u : ℕ) (b : Bool) (change : Thread → Thread) (o : Option Thread) → get m k ≡ o → ((th : Thread) → (change th).frames ≡ th.frames)
    → frames_in (get (put_if m k (keep_if b (option_map change o))) u) ≡ frames_in (get m u)
changed_at m k u true change None at same = refl
changed_at m k u true change (Some th) at same = frames_put m k u (change th) (λ e. same th ∙ found_frames m k u th at e)
changed_at m k u false change o at same = refl

nothing_kept : (m : Table Thread) (u : ℕ) (b : Bool) → frames_in (get (put_if m 0 (keep_if b None)) u) ≡ frames_in (get m u)
nothing_kept m u true = refl
nothing_kept m u false = refl

changed : (base : Threads) (target : ℤ) (u : ℕ) (b : Bool) (change : Thread → Thread) → ((th : Thread) → (change th).frames ≡ th.frames)
    → frames_in (get (put_if base.records (natural target) (keep_if b (option_map change (record_of base target)))) u) ≡ frames_in (get base.records u)
changed base (pos n) u b change same = changed_at base.records n u b change (get base.records n) refl same
changed base (negsuc n) u b change same = nothing_kept base.records u b

-- ---- create

not_here : (n u : ℕ) → u < n → eqb n u ≡ true → ⊥
not_here n u less e = grind (arith, nat_tests)

created : (m : Table Thread) (n u : ℕ) (b : Bool) (o : Option Thread) → u < n → frames_in (get (put_if m n (keep_if b o)) u) ≡ frames_in (get m u)
created m n u true None less = refl
created m n u true (Some th) less = frames_put m n u th (λ e. absurd (not_here n u less e))
created m n u false o less = refl

-- ---- detach

over_is : (o : Option ℤ) → is_some o ≡ true → o ≡ None → ⊥
over_is None e none = false≢true e
over_is (Some v) e none = absurd (cc)

living_apart : (m : Table Thread) (k u : ℕ) (th : Thread) (b : Bool) → eqb k u ≡ b → get m k ≡ Some th → is_some th.ended ≡ true → IsLiving m u → eqb k u ≡ false
living_apart m k u th false is at over live = is
living_apart m k u th true is at over live =
    let same : Some th ≡ Some live.record_there = sym at ∙ ap (get m) (eqb-true k u is) ∙ live.at in absurd (over_is live.record_there.ended (ap ended_in (sym same) ∙ over) live.going)
  where
    ended_in : Option Thread → Bool
    ended_in None = false
    ended_in (Some th) = is_some th.ended

detached_if : (m : Table Thread) (k u : ℕ) (th : Thread) (is_detached is_over : Bool) → get m k ≡ Some th → is_some th.ended ≡ is_over → IsLiving m u
    → frames_in (get (if is_detached then m else (if is_over then cut m k else put m k (as_detached th))) u) ≡ frames_in (get m u)
detached_if m k u th true is_over at over live = refl
detached_if m k u th false true at over live = frames_cut m k u (living_apart m k u th (eqb k u) refl at over live)
detached_if m k u th false false at over live = frames_put m k u (as_detached th) (found_frames m k u th at)

detached_at : (base : Threads) (n u : ℕ) (o : Option Thread) → get base.records n ≡ o → IsLiving base.records u → frames_in (get (records_detached base (pos n) o) u) ≡ frames_in (get base.records u)
detached_at base n u None at live = refl
detached_at base n u (Some th) at live = detached_if base.records n u th th.detached (is_some th.ended) at refl live

detached : (base : Threads) (target : ℤ) (u : ℕ) → IsLiving base.records u → frames_in (get (records_detached base target (record_of base target)) u) ≡ frames_in (get base.records u)
detached base (pos n) u live = detached_at base n u (get base.records n) refl live
detached base (negsuc n) u live = refl

-- ---- the end

left_apart : (b : Bool) (o : Option Remainder) → is_some (cond b None o) ≡ true → b ≡ false
left_apart true o e = absurd (false≢true e)
left_apart false o e = refl

ended_if : (m : Table Thread) (k u : ℕ) (value : ℤ) (th : Thread) (is_detached : Bool) → eqb k u ≡ false
    → frames_in (get (if is_detached then cut m k else put m k (as_ended value th)) u) ≡ frames_in (get m u)
ended_if m k u value th true apart = frames_cut m k u apart
ended_if m k u value th false apart = frames_put m k u (as_ended value th) (λ e. absurd (false≢true (sym apart ∙ e)))

ended : (base : Threads) (t : Tid) (u : ℕ) (value : ℤ) (o : Option Thread) → eqb t.0 u ≡ false → frames_in (get (records_ended base t value o) u) ≡ frames_in (get base.records u)
ended base t u value None apart = refl
ended base t u value (Some th) apart = ended_if base.records t.0 u value th th.detached apart

-- ---- events

-- Where something is left in the thread, its frames are the same.
abbrev KeepsFrames : ℕ → Threads → Threads → Table Remainder → Type 0
KeepsFrames u base ths left = has left u ≡ true → frames_in (get ths.records u) ≡ frames_in (get base.records u)

frames_after : (u : ℕ) (base : Threads) (t : Tid) → u < base.next → IsLiving base.records u → AfterCalls base t (KeepsFrames u base)
frames_after u base t less live = record {
  same = λ left has_left. refl;
  cells = λ attrs right left has_left. refl;
  changes = λ target b change frames over left has_left. changed base target u b change frames;
  creates = λ a left has_left. created base.records base.next u (is_value (create base t a).reply) (option_map (created_by base.next (record_at base t)) (attr_at base a)) less;
  detaches = λ target left has_left. detached base target u live;
  ends = λ value left has_left. ended base t u value (record_at base t) (left_apart (eqb t.0 u) (get left u) (sym (has_get (cut left t.0) u ∙ ap is_some (get_cut left t.0 u)) ∙ has_left));
}

living_below : {s : Script} {n : ℕ} {x : Execution} → History s n x → (u : ℕ) → IsLiving x.state.threads.records u → u < x.state.threads.next
living_below h u live = numbers_given h u (ap is_some live.at)

pub setting_stays : (s : Script) (n : ℕ) (x : Execution) → History s n x → (e : Event) (made : Made) → made_by s n x.state e ≡ Some made → (t : ℕ) (th : Thread) → get x.state.threads.records t ≡ Some th → th.ended ≡ None
    → has made.state.remainders t ≡ true → setting_of s made.state (thread t) ≡ setting_of s x.state (thread t)
setting_stays s n x h e made m t th at going has_left =
    let live : IsLiving x.state.threads.records t = record { record_there = th; at = at; going = going } in
    let frames : KeepsFrames t x.state.threads made.state.threads made.state.remainders =
    threads_made (KeepsFrames t x.state.threads) s n x.state e made (λ u. frames_after t x.state.threads u (living_below h t live) live) m in
    ap (λ (size : ℕ). (let g : Setting = record { script = s; me = t; size = size } in g)) (frames has_left)
