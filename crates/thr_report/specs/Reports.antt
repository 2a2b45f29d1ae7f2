-- Reports as contracts see them (docs/journal.md, "The report").
use Rattle.std.specs.Prelude.{ℕ, List, ◌++◌, codes}
use Rattle.thr_verdict.specs.Report.{Counts, count_line}
use Rattle.thr_report.specs.declared.counts.Report.{Report}

-- The counts in a report.
abbrev pub counts_in : Report → Counts
counts_in r = record {
  lines = r.lines;
  threads = r.threads;
  ended = r.ended;
  calls = r.calls;
  blocked = r.blocked;
  raised = r.raised;
  delivered = r.delivered;
  caught = r.caught;
  acquired = r.acquired;
}

-- The lines of the counts, those of mutexes apart.
abbrev pub numbers_text : Counts → List ℕ
numbers_text c =
    count_line (codes "lines") c.lines
    ++ (count_line (codes "threads") c.threads
    ++ (count_line (codes "ended") c.ended
    ++ (count_line (codes "calls") c.calls
    ++ (count_line (codes "blocked") c.blocked
    ++ (count_line (codes "raised") c.raised
    ++ (count_line (codes "delivered") c.delivered
    ++ count_line (codes "caught") c.caught))))))
