use Rattle.std.proofs.Common.{◌≡◌, ◌+◌, ◌++◌, length, drop}
use Rattle.std.specs.Option.{option_or}
use Rattle.thr_values.specs.declared.number.NameId.{NameId}
use Rattle.thr_remainder.specs.Declarations.{exception_in}
use Rattle.thr_lines.specs.Layout.{items_rows}
use Rattle.thr_lines.specs.Tables.{found, start_in}
use Rattle.thr_lines.proofs.script.add_items.Given as goal

abbrev pub invariant-loop-i : goal.invariant-loop-i
invariant-loop-i l =
    record {
      rows : l.rows ++ items_rows (length l.rows + 1) (drop l.i l.items) ≡ l.fn.rows ++ items_rows (length l.fn.rows + 1) l.items;
      routines : (k : NameId) → option_or (found l.names.routines.slots.items k.0) (start_in (length l.rows + 1) (drop l.i l.items) k)
          ≡ option_or (found l.fn.names.routines.slots.items k.0) (start_in (length l.fn.rows + 1) l.items k);
      exceptions : (k : NameId) → option_or (found l.names.exceptions.slots.items k.0) (exception_in (drop l.i l.items) k)
          ≡ option_or (found l.fn.names.exceptions.slots.items k.0) (exception_in l.items k);
    }
