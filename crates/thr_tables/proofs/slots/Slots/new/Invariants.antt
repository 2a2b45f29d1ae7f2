use Rattle.std.proofs.Common.{◌≡◌, ◌-◌, ◌≤◌, vec_len, vec_capacity}
use Rattle.thr_parts.specs.Tables.{names, none, present}
use Rattle.thr_tables.proofs.slots.Slots.new.Given as goal

abbrev pub invariant-loop-items : goal.invariant-loop-items
invariant-loop-items g l = record {
  within : vec_len l.items ≤ names;
  capacity : names ≤ vec_capacity l.items;
  empty : none ≡ present 0 l.items.items;
}

abbrev pub decreases-loop-items : goal.decreases-loop-items
decreases-loop-items g l = names - vec_len l.items
