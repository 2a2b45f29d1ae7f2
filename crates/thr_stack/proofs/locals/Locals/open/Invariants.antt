use Rattle.std.proofs.Common.{◌≡◌, ◌++◌, pos, replicate, vec_capacity}
use Rattle.thr_stack.proofs.locals.Locals.open.Given as goal

abbrev pub invariant-loop : goal.invariant-loop
invariant-loop l = record {
  items : l.self-inside.values.items ≡ l.initial.self-inside.values.items ++ replicate l.counter (pos 0);
  capacity : vec_capacity l.self-inside.values ≡ vec_capacity l.initial.self-inside.values;
  begin : l.self-inside.first ≡ l.initial.self-inside.first;
  most : l.self-inside.most ≡ l.initial.self-inside.most;
}
