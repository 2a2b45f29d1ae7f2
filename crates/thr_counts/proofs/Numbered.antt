-- In every history the thread records have numbers that were given.
use Rattle.std.proofs.Common.{◌≡◌, ℕ, ◌+◌, ◌<◌, ℤ, pos, negsuc, Bool, true, false, cond, eqb, Option, Some, None, refl, sym, ◌∙◌, ap, arith}
use Rattle.std.proofs.lemmas.Bool.{false≢true}
use Rattle.std.proofs.lemmas.Bool.Decides.{nat_tests}
use Rattle.std.specs.Prelude.{if◌then◌else◌, is_some}
use Rattle.std.specs.Option.{option_map}
use Rattle.thr_values.specs.declared.number.Tid.{Tid}
use Rattle.thr_syntax.specs.declared.tree.Script.{Script}
use Rattle.thr_remainder.specs.Remainders.{Remainder}
use Rattle.thr_parts.specs.declared.thread.Thread.{Thread}
use Rattle.thr_parts.specs.Tables.{Table, none, get, put, put_if, cut, keep_if}
use Rattle.thr_parts.specs.Replies.{is_value}
use Rattle.thr_parts.specs.Threads.{Threads, natural, record_of, record_at, attr_at, create, created_by, as_detached, records_detached, as_ended, records_ended}
use Rattle.thr_parts.proofs.TableLaws.{get_none, get_put, get_cut}
use Rattle.thr_model.specs.Histories.{Execution, History, opened, then_event}
use Rattle.thr_counts.proofs.ThreadsMade.{AfterCalls, threads_made}

-- A record stands only at a number below this one.
abbrev pub AreBelow : ℕ → Table Thread → Type 0
AreBelow n m = (q : ℕ) → is_some (get m q) ≡ true → q < n

same_below : (n k q : ℕ) → eqb k q ≡ true → k < n → q < n
same_below n k q is here = grind (arith, nat_tests)

put_test : (n k q : ℕ) (b : Bool) (th : Thread) (o : Option Thread) → eqb k q ≡ b → k < n → (is_some o ≡ true → q < n) → is_some (cond b (Some th) o) ≡ true → q < n
put_test n k q true th o is here rest e = same_below n k q is here
put_test n k q false th o is here rest e = rest e

below_put : (n k : ℕ) (th : Thread) (m : Table Thread) → k < n → AreBelow n m → AreBelow n (put m k th)
below_put n k th m here h = λ q e. put_test n k q (eqb k q) th (get m q) refl here (h q) (sym (ap is_some (get_put m k q th)) ∙ e)

cut_test : (n q : ℕ) (b : Bool) (o : Option Thread) → (is_some o ≡ true → q < n) → is_some (cond b None o) ≡ true → q < n
cut_test n q true o rest e = absurd (false≢true e)
cut_test n q false o rest e = rest e

below_cut : (n k : ℕ) (m : Table Thread) → AreBelow n m → AreBelow n (cut m k)
below_cut n k m h = λ q e. cut_test n q (eqb k q) (get m q) (h q) (sym (ap is_some (get_cut m k q)) ∙ e)

-- The record that is there stands at this number.
abbrev StandsAt : Table Thread → ℕ → Option Thread → Type 0
StandsAt m k None = Unit {0}
StandsAt m k (Some th) = is_some (get m k) ≡ true

stands_at : (m : Table Thread) (k : ℕ) (o : Option Thread) → get m k ≡ o → StandsAt m k o
stands_at m k None e = tt
stands_at m k (Some th) e = ap is_some e

named : (ths : Threads) (target : ℤ) → StandsAt ths.records (natural target) (record_of ths target)
named ths (pos n) = stands_at ths.records n (get ths.records n) refl
named ths (negsuc n) = tt

changed : (n k : ℕ) (m : Table Thread) (b : Bool) (change : Thread → Thread) (o : Option Thread) → StandsAt m k o → AreBelow n m → AreBelow n (put_if m k (keep_if b (option_map change o)))
changed n k m true change None at h = h
changed n k m true change (Some th) at h = below_put n k (change th) m (h k at) h
changed n k m false change o at h = h

detached_if : (n k : ℕ) (m : Table Thread) (th : Thread) (is_detached is_over : Bool) → is_some (get m k) ≡ true → AreBelow n m
    → AreBelow n (if is_detached then m else (if is_over then cut m k else put m k (as_detached th)))
detached_if n k m th true is_over at h = h
detached_if n k m th false true at h = below_cut n k m h
detached_if n k m th false false at h = below_put n k (as_detached th) m (h k at) h

detached : (ths : Threads) (target : ℤ) (o : Option Thread) → StandsAt ths.records (natural target) o → AreBelow ths.next ths.records → AreBelow ths.next (records_detached ths target o)
detached ths target None at h = h
detached ths target (Some th) at h = detached_if ths.next (natural target) ths.records th th.detached (is_some th.ended) at h

ended_if : (n k : ℕ) (m : Table Thread) (value : ℤ) (th : Thread) (is_detached : Bool) → is_some (get m k) ≡ true → AreBelow n m → AreBelow n (if is_detached then cut m k else put m k (as_ended value th))
ended_if n k m value th true at h = below_cut n k m h
ended_if n k m value th false at h = below_put n k (as_ended value th) m (h k at) h

ended : (ths : Threads) (t : Tid) (value : ℤ) (o : Option Thread) → StandsAt ths.records t.0 o → AreBelow ths.next ths.records → AreBelow ths.next (records_ended ths t value o)
ended ths t value None at h = h
ended ths t value (Some th) at h = ended_if ths.next t.0 ths.records value th th.detached at h

one_more : (n q : ℕ) → q < n → q < n + 1
one_more n q h = omega (arith, h)

created : (b : Bool) (n : ℕ) (m : Table Thread) (o : Option Thread) → AreBelow n m → AreBelow (if b then n + 1 else n) (put_if m n (keep_if b o))
created true n m None h = λ q e. one_more n q (h q e)
created true n m (Some th) h = below_put (n + 1) n th m (omega arith) (λ q e. one_more n q (h q e))
created false n m o h = h

-- The records have numbers below the next.
abbrev AreGiven : Threads → Table Remainder → Type 0
AreGiven ths left = AreBelow ths.next ths.records

given_after : (base : Threads) (t : Tid) → AreBelow base.next base.records → AfterCalls base t AreGiven
given_after base t h = record {
  same = λ left. h;
  cells = λ attrs right left. h;
  changes = λ target b change frames ended left. changed base.next (natural target) base.records b change (record_of base target) (named base target) h;
  creates = λ a left. created (is_value (create base t a).reply) base.next base.records (option_map (created_by base.next (record_at base t)) (attr_at base a)) h;
  detaches = λ target left. detached base target (record_of base target) (named base target) h;
  ends = λ value left. ended base t value (record_at base t) (stands_at base.records t.0 (get base.records t.0) refl) h;
}

first_below : (q : ℕ) → is_some (get (none {A = Thread}) q) ≡ true → q < 2
first_below q e = absurd (false≢true (sym (ap is_some (get_none q)) ∙ e))

pub numbers_given : {s : Script} {n : ℕ} {x : Execution} → History s n x → AreBelow x.state.threads.next x.state.threads.records
numbers_given opened = below_put 2 1 _ none (omega arith) first_below
numbers_given {s} {n} (then_event {x} h open_ e made m) = threads_made AreGiven s n x.state e made (λ t. given_after x.state.threads t (numbers_given h)) m
