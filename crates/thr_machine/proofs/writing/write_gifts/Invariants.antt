use Rattle.std.proofs.Common.{◌≡◌, ◌+◌, ◌++◌, take}
use Rattle.std.specs.Prelude.{vec_len, vec_capacity}
use Rattle.thr_model.specs.Turns.{gift_lines}
use Rattle.thr_machine.proofs.writing.write_gifts.Given as goal

abbrev pub invariant-loop-gift : goal.invariant-loop-gift
invariant-loop-gift l = record {
  items : l.entries.items ≡ l.initial.entries.items ++ gift_lines (take l.gift-index l.gifts);
  len : vec_len l.entries ≡ vec_len l.initial.entries + l.gift-index;
  capacity : vec_capacity l.entries ≡ vec_capacity l.initial.entries;
}
