-- In every history the next thread number is at most two more than the lines.
use Rattle.std.proofs.Common.{ℕ, ◌+◌, ◌≤◌, Bool, true, false, length, arith}
use Rattle.std.specs.Prelude.{if◌then◌else◌}
use Rattle.thr_values.specs.declared.number.Tid.{Tid}
use Rattle.thr_syntax.specs.declared.tree.Script.{Script}
use Rattle.thr_remainder.specs.Remainders.{Remainder}
use Rattle.thr_parts.specs.Tables.{Table}
use Rattle.thr_parts.specs.Replies.{is_value}
use Rattle.thr_parts.specs.Threads.{Threads, create}
use Rattle.thr_model.specs.Histories.{Execution, History, opened, then_event}
use Rattle.thr_counts.proofs.EventLines.{made_line, rises}
use Rattle.thr_counts.proofs.ThreadsMade.{AfterCalls, threads_made}

-- The next number is the old one, or the one after it.
abbrev IsNext : Threads → Threads → Table Remainder → Type 0
IsNext base ths left = ths.next ≤ base.next + 1

next_if : (b : Bool) (n : ℕ) → (if b then n + 1 else n) ≤ n + 1
next_if true n = omega arith
next_if false n = omega arith

next_after : (base : Threads) (t : Tid) → AfterCalls base t (IsNext base)
next_after base t = record {
  same = λ left. omega arith;
  cells = λ attrs right left. omega arith;
  changes = λ target b change frames ended left. omega arith;
  creates = λ a left. next_if (is_value (create base t a).reply) base.next;
  detaches = λ target left. omega arith;
  ends = λ value left. omega arith;
}

pub numbers : {s : Script} {n : ℕ} {x : Execution} → History s n x → x.state.threads.next ≤ 2 + length x.entries
numbers opened = omega arith
numbers {s} {n} (then_event {x} h open_ e made m) =
    rises 2 x.state.threads.next made.state.threads.next x.entries made.lines (made_line s n x.state e made m) (numbers h)
    (threads_made (IsNext x.state.threads) s n x.state e made (next_after x.state.threads) m)
