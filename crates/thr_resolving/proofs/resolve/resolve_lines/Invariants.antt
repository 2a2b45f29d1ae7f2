use Rattle.std.proofs.Common.{◌≡◌, ◌++◌, [], drop}
use Rattle.std.specs.Map.{keys_of}
use Rattle.thr_text.specs.NameFaults.{words_in}
use Rattle.thr_resolving.specs.Resolving.{resolved_lines}
use Rattle.thr_resolving.proofs.resolve.resolve_lines.Given as goal

abbrev pub invariant-loop-line : goal.invariant-loop-line
invariant-loop-line l = l.forms.items ++ resolved_lines (keys_of l.table) l.locals (words_in (drop l.line-index l.lines)) ≡ resolved_lines (keys_of l.table) [] (words_in l.lines)
