use Rattle.std.proofs.Common.{◌≡◌, ◌≤◌, ◌+◌, ◌++◌, length, false}
use Rattle.std.specs.Str.Lines.{lines}
use Rattle.thr_text.specs.Reading.{scan_faults, lines_from}
use Rattle.thr_forms.proofs.scan.read_lines.Given as goal

abbrev pub invariant-loop-line : goal.invariant-loop-line
invariant-loop-line l = record {
  faults : scan_faults l.at l.seen (lines l.rest) ≡ scan_faults 1 false (lines l.bytes);
  kept : l.kept.items ++ lines_from l.at l.seen (lines l.rest) ≡ lines_from 1 false (lines l.bytes);
  count : l.at + length (lines l.rest) ≡ 1 + length (lines l.bytes);
  room : l.at + length l.rest ≤ length l.bytes + 1;
}

abbrev pub decreases-loop-line : goal.decreases-loop-line
decreases-loop-line l = length l.rest
