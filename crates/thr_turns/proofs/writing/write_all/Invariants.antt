use Rattle.std.proofs.Common.{◌≡◌, ◌+◌, ◌++◌, map, take}
use Rattle.std.specs.Prelude.{vec_len, vec_capacity}
use Rattle.thr_model.specs.Turns.{thread_line}
use Rattle.thr_turns.proofs.writing.write_all.Given as goal

abbrev pub invariant-loop-what : goal.invariant-loop-what
invariant-loop-what l = record {
  items : l.entries.items ≡ l.initial.entries.items ++ map (thread_line l.t) (take l.what-index l.lines);
  len : vec_len l.entries ≡ vec_len l.initial.entries + l.what-index;
  capacity : vec_capacity l.entries ≡ vec_capacity l.initial.entries;
}
