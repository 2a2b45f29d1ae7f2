-- The numbers that the parts of the machine keep are bounded, and so are their replies.
use Rattle.std.proofs.Common.{◌≡◌, ℕ, ◌≤◌, ◌<◌, ◌^◌, ℤ, pos, negsuc, Bool, true, false, not, ◌||◌, List, [], ◌∷◌, ◌++◌, length, Option, Some, None, refl, sym, ap, ◌∙◌, subst, cond, arith}
use Rattle.std.specs.Prelude.{if◌then◌else◌, nat_lt, unwrap_or, int_lt, ◌+ℤ◌, is_some}
use Rattle.std.specs.List.{filter}
use Rattle.std.specs.Fmt.{decimal, signed_decimal}
use Rattle.std.specs.Option.{option_map, option_or}
use Rattle.std.specs.Ordering.{nat_cmp}
use Rattle.std.specs.FinMap.Entries as entries
use Rattle.std.proofs.lemmas.Fmt.{length-decimal-le, length_signed_le}
use Rattle.std.proofs.lemmas.Bool.{false≢true}
use Rattle.std.proofs.lemmas.Bool.Decides.{nat_tests}
use Rattle.thr_values.specs.declared.number.NameId.{NameId}
use Rattle.thr_values.specs.declared.number.Tid.{Tid}
use Rattle.thr_values.specs.declared.reply.Effect.{Effect}
use Rattle.thr_values.specs.declared.reply.Effect.TheVariants as effect
use Rattle.thr_values.specs.declared.reply.Kind.{Kind}
use Rattle.thr_values.specs.declared.reply.Kind.TheVariants as kinds
use Rattle.thr_values.specs.declared.reply.Reply.{Reply}
use Rattle.thr_values.specs.declared.reply.Reply.TheVariants as reply
use Rattle.thr_values.specs.declared.scheduling.Policy.{Policy}
use Rattle.thr_values.specs.declared.scheduling.Policy.TheVariants as policy
use Rattle.thr_text.specs.Journals.{reply_word}
use Rattle.thr_parts.specs.declared.mutex.Held.{Held}
use Rattle.thr_parts.specs.declared.mutex.Mutex.{Mutex}
use Rattle.thr_parts.specs.declared.once.OnceBlock.{OnceBlock}
use Rattle.thr_parts.specs.declared.once.OnceBlock.TheVariants as blocks
use Rattle.thr_parts.specs.declared.pipe.Writing.{Writing}
use Rattle.thr_parts.specs.declared.thread.Attr.{Attr}
use Rattle.thr_parts.specs.declared.thread.Thread.{Thread}
use Rattle.thr_parts.specs.declared.wait.Wait.{Wait}
use Rattle.thr_parts.specs.declared.wait.Wait.TheVariants.{Delay}
use Rattle.thr_parts.specs.Tables.{Table, get, at, put, put_if, cut, keep_if, IsCanonical}
use Rattle.thr_parts.specs.Replies.{is_blocks, making_reply, made_reply}
use Rattle.thr_parts.specs.Threads.{Threads, natural, record_of, attr_at, create_reply, prio_from, created_by, ended_reply, join_reply, detach_reply, as_detached, records_detached, as_ended, records_ended, record_at}
use Rattle.thr_parts.specs.Scheduling.{policy_number, prio_reply, policy_reply, set_reply, with_prio, with_policy}
use Rattle.thr_parts.specs.Cancels.{state_number, cancel_reply}
use Rattle.thr_parts.specs.Mutexes.{init_reply, destroy_reply}
use Rattle.thr_parts.specs.Locking.{relock_reply, held_reply, is_owner, lock_reply, trylock_reply, unlock_reply, is_held_by}
use Rattle.thr_parts.specs.Times.{is_time, is_negative, is_no_interval, expiration}
use Rattle.thr_parts.specs.Conditions.{time_of, cond_destroy_reply, owner_reply, timedwait_reply, delay_reply}
use Rattle.thr_parts.specs.Expiry.{sooner, earliest_in}
use Rattle.thr_parts.specs.Keys.{Key, DestructorCall, is_zero, as_valued, value_in, value_reply, called_with, call_for, first_call}
use Rattle.thr_parts.specs.OnceBlocks.{enter_reply}
use Rattle.thr_parts.specs.Pipes.{Pipe, Pipes, no_pipe, pipe_at, behind, item_in, item_of, writing_without, read_reply, has_room, write_reply}
use Rattle.thr_parts.specs.Closing.{close_reply, writing_elsewhere}
use Rattle.thr_parts.proofs.TableLaws.{at_get}
use Rattle.thr_parts.proofs.EntryLaws.{both_true, get_first, get_behind, get_filter, pass, pass_none, pass_some}
use Rattle.thr_parts.proofs.EachLaws.{Each, IfThere, each_put, each_put_if, each_cut, if_there}
use Rattle.thr_sizes.proofs.Values.{Fits, AllFit, small_fits}
use Rattle.thr_sizes.proofs.Fitting.{ReplyFits}

-- ---- tables

-- What stands at a number, or else what stands for it.
pub at_each : {A : Type 0} (P : A → Type 0) (m : Table A) (k : ℕ) (d : A) → Each P m → P d → P (at m k d)
at_each P m k d h e = subst P (sym (at_get m k d)) (or_else (get m k) (if_there P m k (get m k) refl h))
  where
    or_else : (o : Option _) → IfThere P o → P (unwrap_or o d)
    or_else None i = e
    or_else (Some v) i = i

pub keep_there : {A : Type 0} (P : A → Type 0) (b : Bool) (o : Option A) → IfThere P o → IfThere P (keep_if b o)
keep_there P true o h = h
keep_there P false o h = tt

pub map_there : {A : Type 0} (P : A → Type 0) (f : A → A) (o : Option A) → ((v : A) → P v → P (f v)) → IfThere P o → IfThere P (option_map f o)
map_there P f None keeps h = tt
map_there P f (Some v) keeps h = keeps v h

-- The entries behind the first.
pub each_behind : {A : Type 0} (P : A → Type 0) (e : ℕ × A) (es : Table A) → entries.below_all nat_cmp e.0 es ≡ true → Each P (e ∷ es) → Each P es
each_behind P e es below h = λ q v is. h q v (get_behind e es q v below is)

pub sorted_parts : {A : Type 0} (e : ℕ × A) (es : Table A) → IsCanonical (e ∷ es) → (entries.below_all nat_cmp e.0 es ≡ true) × IsCanonical es
sorted_parts e es h = both_true (entries.below_all nat_cmp e.0 es) (entries.is_sorted nat_cmp es) h

passed_each : {A : Type 0} (P : A → Type 0) (p : ℕ × A → Bool) (q : ℕ) (o : Option A) (v : A) → IfThere P o → pass p q o ≡ Some v → P v
passed_each P p q None v h e = absurd (cc (pass_none p q))
passed_each P p q (Some x) v h e = either (p (q, x)) (sym (pass_some p q x) ∙ e)
  where
    either : (b : Bool) → cond b (Some x) None ≡ Some v → P v
    either true i = subst P (ap (λ o. unwrap_or o x) i) h
    either false i = absurd (cc)

pub each_filter : {A : Type 0} (P : A → Type 0) (p : ℕ × A → Bool) (m : Table A) → IsCanonical m → Each P m → Each P (filter p m)
each_filter P p m sorted h = λ q v e. passed_each P p q (get m q) v (if_there P m q (get m q) refl h) (sym (get_filter p q m sorted) ∙ e)

-- ---- replies

-- The reply is no number.
abbrev pub SaysNone : Reply → Type 0
SaysNone (reply.Value n) = ⊥
SaysNone _ = Unit {0}

pub none_fits : (y : Reply) → SaysNone y → ReplyFits y
none_fits (reply.Value n) h = absurd h
none_fits _ h = tt

effect_seven : (e : Effect) → length (reply_word (reply.Effect e)) ≤ 7
effect_seven effect.Ended = omega arith
effect_seven effect.Merged = omega arith
effect_seven effect.Pending = omega arith
effect_seven effect.Wakes = omega arith

pub none_seven : (y : Reply) → SaysNone y → length (reply_word y) ≤ 7
none_seven (reply.Value n) h = absurd h
none_seven (reply.Effect e) h = effect_seven e
none_seven reply.Done h = omega arith
none_seven _ h = omega arith

at_most : (n k : ℕ) → nat_lt n k ≡ true → n < k
at_most n k h = grind (arith, nat_tests)

pub short_number : (n : ℤ) → Fits n → length (signed_decimal n) ≤ 20
short_number (pos n) h = let below : n < 9223372036854775808 = at_most n 9223372036854775808 h in length_signed_le 19 (pos n) (omega arith) (omega arith)
short_number (negsuc n) h = let below : n < 9223372036854775808 = at_most n 9223372036854775808 h in length_signed_le 19 (negsuc n) (omega arith) (omega arith)

pub any_twenty : (y : Reply) → ReplyFits y → length (reply_word y) ≤ 20
any_twenty (reply.Value n) h = short_number n h
any_twenty (reply.Effect e) h = let few = effect_seven e in omega (arith, few)
any_twenty reply.Done h = omega arith
any_twenty _ h = omega arith

pub making_none : (b : Bool) → SaysNone (making_reply b)
making_none true = tt
making_none false = tt

pub made_none : (b : Bool) → SaysNone (made_reply b)
made_none true = tt
made_none false = tt

either_none : (b : Bool) (x y : Reply) → SaysNone x → SaysNone y → SaysNone (if b then x else y)
either_none true x y h i = h
either_none false x y h i = i

either_reply : (b : Bool) (x y : Reply) → ReplyFits x → ReplyFits y → ReplyFits (if b then x else y)
either_reply true x y h i = h
either_reply false x y h i = i

-- ---- threads

-- The priority in a record and the value of an ended thread fit.
abbrev pub ThreadFits : Thread → Type 0
ThreadFits th = Fits (pos th.prio) × IfThere Fits th.ended

abbrev pub AttrFits : Attr → Type 0
AttrFits a = Fits (pos a.prio)

-- So they do in all records and cells.
pub record ThreadsFit (ths : Threads) : Type 0 where
  pub records : Each ThreadFits ths.records
  pub attrs : Each AttrFits ths.attrs

natural_fits : (n : ℤ) → Fits n → Fits (pos (natural n))
natural_fits (pos n) h = h
natural_fits (negsuc n) h = refl

pub named_there : (ths : Threads) (target : ℤ) → ThreadsFit ths → IfThere ThreadFits (record_of ths target)
named_there ths (pos n) h = if_there ThreadFits ths.records n (get ths.records n) refl h.records
named_there ths (negsuc n) h = tt

-- A record is changed, or isn't.
pub changed_fit : (ths : Threads) (target : ℤ) (b : Bool) (change : Thread → Thread) → ((th : Thread) → ThreadFits th → ThreadFits (change th)) → ThreadsFit ths
    → (let after : Threads = record { records = put_if ths.records (natural target) (keep_if b (option_map change (record_of ths target))); next = ths.next; attrs = ths.attrs } in ThreadsFit after)
changed_fit ths target b change keeps h = record {
  records = each_put_if ThreadFits ths.records (natural target) _ (keep_there ThreadFits b _ (map_there ThreadFits change (record_of ths target) keeps (named_there ths target h))) h.records;
  attrs = h.attrs;
}

-- The same of the record of a thread.
pub mode_fit : (ths : Threads) (t : Tid) (change : Thread → Thread) → ((th : Thread) → ThreadFits th → ThreadFits (change th)) → ThreadsFit ths
    → (let after : Threads = record { records = put_if ths.records t.0 (option_map change (record_at ths t)); next = ths.next; attrs = ths.attrs } in ThreadsFit after)
mode_fit ths t change keeps h = record {
  records = each_put_if ThreadFits ths.records t.0 _ (map_there ThreadFits change (record_at ths t) keeps (if_there ThreadFits ths.records t.0 (get ths.records t.0) refl h.records)) h.records;
  attrs = h.attrs;
}

pub prio_kept : (prio : ℤ) → Fits prio → (th : Thread) → ThreadFits th → ThreadFits (with_prio prio th)
prio_kept prio f th h = (natural_fits prio f, h.1)

pub policy_kept : (p : Policy) (prio : ℤ) → Fits prio → (th : Thread) → ThreadFits th → ThreadFits (with_policy p prio th)
policy_kept p prio f th h = (natural_fits prio f, h.1)

-- The cells with the one that is there.
pub cells_fit : (ths : Threads) (a : ℕ) (o : Option Attr) → IfThere AttrFits o → ThreadsFit ths → (let after : Threads = record { records = ths.records; next = ths.next; attrs = put_if ths.attrs a o } in ThreadsFit after)
cells_fit ths a o f h = record { records = h.records; attrs = each_put_if AttrFits ths.attrs a o f h.attrs }

pub changed_cell : (ths : Threads) (a : ℕ) (b : Bool) (change : Attr → Attr) → ((c : Attr) → AttrFits c → AttrFits (change c)) → ThreadsFit ths → IfThere AttrFits (keep_if b (option_map change (get ths.attrs a)))
changed_cell ths a b change keeps h = keep_there AttrFits b _ (map_there AttrFits change (get ths.attrs a) keeps (if_there AttrFits ths.attrs a (get ths.attrs a) refl h.attrs))

pub prio_cell : (n : ℤ) → Fits n → Fits (pos (natural n))
prio_cell n f = natural_fits n f

cell_there : (ths : Threads) (a : Option NameId) → ThreadsFit ths → IfThere AttrFits (attr_at ths a)
cell_there ths None h = refl
cell_there ths (Some a) h = if_there AttrFits ths.attrs a.0 (get ths.attrs a.0) refl h.attrs

either_prio : (b : Bool) (m n : ℕ) → Fits (pos m) → Fits (pos n) → Fits (pos (if b then m else n))
either_prio true m n h i = h
either_prio false m n h i = i

from_maker : (maker : Option Thread) (a : Attr) → IfThere ThreadFits maker → AttrFits a → Fits (pos (prio_from maker a))
from_maker None a h i = i
from_maker (Some m) a h i = either_prio a.inherits m.prio a.prio h.0 i

created_there : (next : ℕ) (maker : Option Thread) (o : Option Attr) → IfThere ThreadFits maker → IfThere AttrFits o → IfThere ThreadFits (option_map (created_by next maker) o)
created_there next maker None h i = tt
created_there next maker (Some a) h i = (from_maker maker a h i, tt)

-- The new record that is there fits.
pub created_fits : (ths : Threads) (t : Tid) (a : Option NameId) (b : Bool) → ThreadsFit ths → IfThere ThreadFits (keep_if b (option_map (created_by ths.next (record_at ths t)) (attr_at ths a)))
created_fits ths t a b h =
    keep_there ThreadFits b _ (created_there ths.next (record_at ths t) (attr_at ths a) (if_there ThreadFits ths.records t.0 (get ths.records t.0) refl h.records) (cell_there ths a h))

nine_digits : (n : ℕ) → n < 10 ^ 9 → length (decimal n) ≤ 9
nine_digits n h = length-decimal-le 9 n (omega arith) h (omega (arith, h))

either_short : (b : Bool) (x y : Reply) (k : ℕ) → length (reply_word x) ≤ k → length (reply_word y) ≤ k → length (reply_word (if b then x else y)) ≤ k
either_short true x y k h i = h
either_short false x y k h i = i

-- A creation replies the number of the new thread, which fits and is short.
pub create_says : (ths : Threads) (o : Option Attr) → ths.next < 10 ^ 9 → ReplyFits (create_reply ths o) × (length (reply_word (create_reply ths o)) ≤ 9)
create_says ths None h = (tt, omega arith)
create_says ths (Some a) h =
    (either_reply _ (reply.Value (pos ths.next)) reply.Eagain (small_fits ths.next (omega (arith, h))) tt, either_short _ (reply.Value (pos ths.next)) reply.Eagain 9 (nine_digits ths.next h) (omega arith))

pub join_says : (b : Bool) (o : Option Thread) → IfThere ThreadFits o → ReplyFits (join_reply b o)
join_says b None h = tt
join_says true (Some th) h = tt
join_says false (Some th) h = either_reply th.detached reply.Einval (ended_reply th.ended) tt (of_ended th.ended h.1)
  where
    of_ended : (o : Option ℤ) → IfThere Fits o → ReplyFits (ended_reply o)
    of_ended None i = tt
    of_ended (Some v) i = i

pub detach_says : (o : Option Thread) → SaysNone (detach_reply o)
detach_says None = tt
detach_says (Some th) = either_none th.detached reply.Einval reply.Done tt tt

detached_records : (ths : Threads) (target : ℤ) (o : Option Thread) → IfThere ThreadFits o → ThreadsFit ths → Each ThreadFits (records_detached ths target o)
detached_records ths target None i h = h.records
detached_records ths target (Some th) i h = marked th.detached
  where
    ended : (b : Bool) → Each ThreadFits (if b then cut ths.records (natural target) else put ths.records (natural target) (as_detached th))
    ended true = each_cut ThreadFits ths.records (natural target) h.records
    ended false = each_put ThreadFits ths.records (natural target) (as_detached th) i h.records

    marked : (b : Bool) → Each ThreadFits (if b then ths.records else (if is_some th.ended then cut ths.records (natural target) else put ths.records (natural target) (as_detached th)))
    marked true = h.records
    marked false = ended (is_some th.ended)

pub detached_fit : (ths : Threads) (target : ℤ) → ThreadsFit ths → Each ThreadFits (records_detached ths target (record_of ths target))
detached_fit ths target h = detached_records ths target (record_of ths target) (named_there ths target h) h

ended_records : (ths : Threads) (t : Tid) (v : ℤ) (o : Option Thread) → IfThere ThreadFits o → Fits v → ThreadsFit ths → Each ThreadFits (records_ended ths t v o)
ended_records ths t v None i f h = h.records
ended_records ths t v (Some th) i f h = either th.detached
  where
    either : (b : Bool) → Each ThreadFits (if b then cut ths.records t.0 else put ths.records t.0 (as_ended v th))
    either true = each_cut ThreadFits ths.records t.0 h.records
    either false = each_put ThreadFits ths.records t.0 (as_ended v th) (i.0, f) h.records

pub ended_fit : (ths : Threads) (t : Tid) (v : ℤ) → Fits v → ThreadsFit ths → Each ThreadFits (records_ended ths t v (record_at ths t))
ended_fit ths t v f h = ended_records ths t v (record_at ths t) (if_there ThreadFits ths.records t.0 (get ths.records t.0) refl h.records) f h

pub prio_says : (o : Option Thread) → IfThere ThreadFits o → ReplyFits (prio_reply o)
prio_says None h = tt
prio_says (Some th) h = h.0

pub policy_says : (o : Option Thread) → ReplyFits (policy_reply o) × (length (reply_word (policy_reply o)) ≤ 9)
policy_says None = (tt, omega arith)
policy_says (Some th) = of_policy th.policy
  where
    of_policy : (p : Policy) → Fits (policy_number p) × (length (reply_word (reply.Value (policy_number p))) ≤ 9)
    of_policy policy.Fifo = (refl, nine_digits 0 (omega arith))
    of_policy policy.Rr = (refl, nine_digits 1 (omega arith))
    of_policy policy.Fg = (refl, nine_digits 2 (omega arith))
    of_policy policy.Bg = (refl, nine_digits 3 (omega arith))

pub set_says : (o : Option Thread) (b : Bool) (old : Reply) → ReplyFits old → ReplyFits (set_reply o b old)
set_says None b old h = tt
set_says (Some th) false old h = tt
set_says (Some th) true old h = h

pub set_short : (o : Option Thread) (b : Bool) (old : Reply) → length (reply_word old) ≤ 9 → length (reply_word (set_reply o b old)) ≤ 9
set_short None b old h = omega arith
set_short (Some th) false old h = omega arith
set_short (Some th) true old h = h

pub state_fits : (b : Bool) → Fits (state_number b)
state_fits true = refl
state_fits false = refl

pub cancel_says : (o : Option Thread) (b : Bool) → SaysNone (cancel_reply o b)
cancel_says None b = tt
cancel_says (Some th) b = tt

-- ---- mutexes

pub init_says : (o : Option Kind) (b : Bool) → SaysNone (init_reply o b)
init_says None b = tt
init_says (Some k) b = making_none b

pub destroy_says : (a b : Bool) → SaysNone (destroy_reply a b)
destroy_says false b = tt
destroy_says true true = tt
destroy_says true false = tt

relock_says : (k : Kind) → SaysNone (relock_reply k)
relock_says kinds.Fast = tt
relock_says kinds.Recursive = tt
relock_says kinds.Nonrecursive = tt

held_says : (k : Kind) (o : Option Held) (t : Tid) → SaysNone (held_reply k o t)
held_says k None t = tt
held_says k (Some h) t = either_none (is_owner h t) (relock_reply k) reply.Blocks (relock_says k) tt

pub lock_says : (o : Option Mutex) (t : Tid) → SaysNone (lock_reply o t)
lock_says None t = tt
lock_says (Some x) t = held_says x.kind x.held t

pub trylock_says : (y : Reply) → ReplyFits (trylock_reply y)
trylock_says reply.Done = refl
trylock_says reply.Einval = tt
trylock_says _ = refl

pub unlock_says : (o : Option Mutex) (t : Tid) → SaysNone (unlock_reply o t)
unlock_says None t = tt
unlock_says (Some x) t = either_none (is_held_by x.held t) reply.Done reply.Eperm tt tt

-- ---- conditions and times

pub cond_destroy_says : (a b : Bool) → SaysNone (cond_destroy_reply a b)
cond_destroy_says false b = tt
cond_destroy_says true true = tt
cond_destroy_says true false = tt

-- The reply of a wait is short.
abbrev pub IsWaitReply : Reply → Type 0
IsWaitReply y = SaysNone y × (length (reply_word y) ≤ 6)

owner_says : (a b : Bool) → IsWaitReply (owner_reply a b)
owner_says false b = (tt, omega arith)
owner_says true true = (tt, omega arith)
owner_says true false = (tt, omega arith)

pub wait_says : (a b c : Bool) → IsWaitReply (if a then owner_reply b c else reply.Einval)
wait_says true b c = owner_says b c
wait_says false b c = (tt, omega arith)

pub timed_says : (y : Reply) (past : Bool) → IsWaitReply y → IsWaitReply (timedwait_reply y past)
timed_says reply.Blocks true h = (tt, omega arith)
timed_says reply.Blocks false h = h
timed_says reply.Done past h = h
timed_says (reply.Value n) past h = h
timed_says reply.Eof past h = h
timed_says (reply.Effect e) past h = h
timed_says reply.Einval past h = h
timed_says reply.Eperm past h = h
timed_says reply.Edeadlk past h = h
timed_says reply.Ebusy past h = h
timed_says reply.Esrch past h = h
timed_says reply.Eagain past h = h
timed_says reply.Epipe past h = h

no_interval : (a b : Bool) → (a || not b) ≡ false → b ≡ true
no_interval true b h = absurd (false≢true (sym h))
no_interval false true h = refl
no_interval false false h = absurd (false≢true (sym h))

time_fits : (n : ℤ) → is_time n ≡ true → Fits n
time_fits (pos n) h = h
time_fits (negsuc n) h = h

interval_fits : (ticks now : ℤ) → is_no_interval ticks now ≡ false → Fits (now +ℤ ticks)
interval_fits ticks now h = time_fits (now +ℤ ticks) (no_interval (is_negative ticks) (is_time (now +ℤ ticks)) h)

pub expiration_says : (ticks now : ℤ) → ReplyFits (expiration ticks now)
expiration_says ticks now = by (is_no_interval ticks now) refl
  where
    by : (b : Bool) → is_no_interval ticks now ≡ b → ReplyFits (if b then reply.Einval else reply.Value (now +ℤ ticks))
    by true e = tt
    by false e = interval_fits ticks now e

pub delay_says : (ticks now : ℤ) → SaysNone (delay_reply ticks now)
delay_says ticks now = either_none (is_no_interval ticks now) reply.Einval _ tt (either_none (int_lt (pos 0) ticks) reply.Blocks reply.Done tt tt)

-- The time until which a wait is fits.
abbrev pub WaitFits : Wait → Type 0
WaitFits w = IfThere Fits (time_of w)

-- So does the time of a delay that blocks.
pub delay_fits : (ticks now : ℤ) → IfThere WaitFits (keep_if (is_blocks (delay_reply ticks now)) (Some (Delay (now +ℤ ticks))))
delay_fits ticks now = by (is_no_interval ticks now) refl (int_lt (pos 0) ticks)
  where
    by : (b : Bool) → is_no_interval ticks now ≡ b → (c : Bool) → IfThere WaitFits (keep_if (is_blocks (if b then reply.Einval else (if c then reply.Blocks else reply.Done))) (Some (Delay (now +ℤ ticks))))
    by true e c = tt
    by false e true = interval_fits ticks now e
    by false e false = tt

sooner_fits : (a b : Option ℤ) → IfThere Fits a → IfThere Fits b → IfThere Fits (sooner a b)
sooner_fits None b h i = i
sooner_fits (Some a) None h i = h
sooner_fits (Some a) (Some b) h i = either (int_lt b a)
  where
    either : (c : Bool) → Fits (if c then b else a)
    either true = i
    either false = h

-- The earliest time fits.
pub earliest_fits : (waits : Table Wait) → IsCanonical waits → Each WaitFits waits → IfThere Fits (earliest_in waits)
unfolding earliest_in
earliest_fits [] sorted h = tt
earliest_fits (e ∷ es) sorted h =
    let parts = sorted_parts e es sorted in
    sooner_fits (time_of e.1) (earliest_in es) (h e.0 e.1 (get_first e es)) (earliest_fits es parts.1 (each_behind WaitFits e es parts.0 h))

-- ---- keys

-- The values of a key fit.
abbrev pub KeyFits : Key → Type 0
KeyFits k = Each Fits k.values

valued_table : (b : Bool) (values : Table ℤ) (t : Tid) (v : ℤ) → Fits v → Each Fits values → Each Fits (if b then cut values t.0 else put values t.0 v)
valued_table true values t v f h = each_cut Fits values t.0 h
valued_table false values t v f h = each_put Fits values t.0 v f h

pub valued_key : (t : Tid) (v : ℤ) → Fits v → (k : Key) → KeyFits k → KeyFits (as_valued t v k)
valued_key t v f k h = valued_table (is_zero v) k.values t v f h

pub set_keys : (keys : Table Key) (k : ℕ) (t : Tid) (v : ℤ) → Fits v → Each KeyFits keys → Each KeyFits (put_if keys k (option_map (as_valued t v) (get keys k)))
set_keys keys k t v f h = each_put_if KeyFits keys k _ (map_there KeyFits (as_valued t v) (get keys k) (valued_key t v f) (if_there KeyFits keys k (get keys k) refl h)) h

pub key_value : (k : Key) (t : Tid) → KeyFits k → Fits (value_in k t)
key_value k t h = at_each Fits k.values t.0 (pos 0) h refl

pub value_says : (o : Option Key) (t : Tid) → IfThere KeyFits o → ReplyFits (value_reply o t)
value_says None t h = tt
value_says (Some k) t h = key_value k t h

-- The value with which a destructor is called.
abbrev pub DestructorFits : DestructorCall → Type 0
DestructorFits c = Fits c.2

called_fits : (k : ℕ) (d : Option NameId) (v : ℤ) → Fits v → IfThere DestructorFits (called_with k d v)
called_fits k None v f = tt
called_fits k (Some routine) v f = by (is_zero v)
  where
    by : (b : Bool) → (let o : Option DestructorCall = if b then None else Some (record { 0 = k }, routine, v) in IfThere DestructorFits o)
    by true = tt
    by false = f

either_call : (o p : Option DestructorCall) → IfThere DestructorFits o → IfThere DestructorFits p → IfThere DestructorFits (option_or o p)
either_call None p h i = i
either_call (Some c) p h i = h

pub first_call_fits : (t : Tid) (keys : Table Key) → IsCanonical keys → Each KeyFits keys → IfThere DestructorFits (first_call t keys)
unfolding first_call
first_call_fits t [] sorted h = tt
first_call_fits t (e ∷ es) sorted h =
    let parts = sorted_parts e es sorted in
    either_call (call_for t e) (first_call t es) (called_fits e.0 e.1.destructor (value_in e.1 t) (key_value e.1 t (h e.0 e.1 (get_first e es))))
    (first_call_fits t es parts.1 (each_behind KeyFits e es parts.0 h))

pub enter_says : (o : Option OnceBlock) (t : Tid) → SaysNone (enter_reply o t)
enter_says None t = tt
enter_says (Some blocks.Done) t = tt
enter_says (Some (blocks.Running u)) t = either_none _ reply.Edeadlk reply.Blocks tt tt

-- ---- pipes

abbrev pub PipeFits : Pipe → Type 0
PipeFits x = AllFit x.items

abbrev pub WritingFits : Writing → Type 0
WritingFits w = Fits w.item

-- The items in pipes, and those of waiting writers, fit.
pub record PipesFit (ps : Pipes) : Type 0 where
  pub pipes : Each PipeFits ps.pipes
  pub writing : Each WritingFits ps.writing

pub fit_append : (ms ns : List ℤ) → AllFit ms → AllFit ns → AllFit (ms ++ ns)
fit_append [] ns h i = i
fit_append (m ∷ ms) ns h i = (h.0, fit_append ms ns h.1 i)

pub pipe_fits : (ps : Pipes) (p : NameId) → PipesFit ps → PipeFits (pipe_at ps p)
pipe_fits ps p h = at_each PipeFits ps.pipes p.0 no_pipe h.pipes tt

pub behind_fit : (ns : List ℤ) → AllFit ns → AllFit (behind ns)
behind_fit [] h = tt
behind_fit (n ∷ ns) h = h.1

item_fits : (o : Option Writing) → IfThere WritingFits o → AllFit (item_in o)
item_fits None h = tt
item_fits (Some w) h = (h, tt)

pub item_of_fits : (ps : Pipes) (t : Option Tid) → PipesFit ps → AllFit (item_of ps t)
item_of_fits ps None h = tt
item_of_fits ps (Some t) h = item_fits (get ps.writing t.0) (if_there WritingFits ps.writing t.0 (get ps.writing t.0) refl h.writing)

pub without_fits : (writing : Table Writing) (o : Option Tid) → Each WritingFits writing → Each WritingFits (writing_without writing o)
without_fits writing None h = h
without_fits writing (Some t) h = each_cut WritingFits writing t.0 h

pub read_says : (ns : List ℤ) (b : Bool) → AllFit ns → ReplyFits (read_reply ns b)
read_says [] true h = tt
read_says [] false h = tt
read_says (n ∷ ns) b h = h.0

pub write_says : (x : Pipe) (o : Option Tid) → SaysNone (write_reply x o)
write_says x o =
    either_none (not x.is_open) reply.Epipe (if is_some o || has_room x then reply.Done else reply.Blocks) tt (either_none (is_some o || has_room x) reply.Done reply.Blocks tt tt)

pub close_says : (b : Bool) → SaysNone (close_reply b)
close_says true = tt
close_says false = tt

pub elsewhere_fits : (writing : Table Writing) (p : NameId) → IsCanonical writing → Each WritingFits writing → Each WritingFits (writing_elsewhere writing p)
unfolding writing_elsewhere
elsewhere_fits writing p sorted h = each_filter WritingFits _ writing sorted h
