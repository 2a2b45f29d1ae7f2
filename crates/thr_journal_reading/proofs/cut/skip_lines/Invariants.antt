use Rattle.std.proofs.Common.{◌≡◌, ◌≤◌, ◌+◌, ◌-◌, ◌++◌, length, drop}
use Rattle.thr_journals.specs.Faults.{parts_of, script_text}
use Rattle.thr_journal_reading.proofs.cut.skip_lines.Given as goal

abbrev pub invariant-lines : goal.invariant-lines
invariant-lines l = record {
  parts : drop l.done (parts_of l.text) ≡ parts_of l.rest;
  whole : l.text ≡ script_text l.done (parts_of l.text) ++ l.rest;
  room : l.done + length l.rest ≤ length l.text;
  within : l.done ≤ l.count;
}

abbrev pub decreases-lines : goal.decreases-lines
decreases-lines l = l.count - l.done
