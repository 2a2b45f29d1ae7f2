use Rattle.std.proofs.Common.{rules, ◌≡◌, ◌+◌, Some, subst, sym, ◌∙◌, arith}
use Rattle.std.proofs.lemmas.Result.{err_from_is_err_and}
use Rattle.thr_journals.specs.Lines.{Stopped, below}
use Rattle.thr_journals.specs.Faults.{parts_of}
use Rattle.thr_journals.specs.Reading.{history_in}
use Rattle.thr_journal_lines.specs.Known.{entries_in}
use Rattle.thr_journal_reading.specs.declared.history.Judged.{Judged}
use Rattle.thr_journal_reading.specs.declared.history.Judged.TheVariants as judged
use Rattle.thr_journal_reading.specs.Judging.{IsLine}
use Rattle.thr_journal_reading.proofs.CutLaws.{some_part}
use Rattle.thr_journal_reading.proofs.HistoryLaws.{stops_by_line, stops_by_end, ends_there, goes_on, cut_short, reads_on, reads_stop}
use Rattle.thr_journal_reading.proofs.history.read_history.Goals as goal

pub returns-in_err-entry-clause-fault : goal.returns-in_err-entry-clause-fault
returns-in_err-entry-clause-fault c =
    let p = err_from_is_err_and c.from_residual.result c.from_residual.ensures.1 in
    let part = some_part c.in-Some.behind.now in
    rw (p.1, p.2) (stops_by_line (entries_in c.args.known.now) c.lines.at c.lines.number c.in-Some.line.now part.0 (parts_of c.lines.rest.now) (parts_of c.in-Some.behind.now) part.1 c.in_err-entry.field-0.0 _
    c.in-Some.ensures.parts part.2 c.in_err-entry.ensures.fault c.lines.invariant.faults)

pub returns-in_err-judge_end-in-Stopped-clause-fault : goal.returns-in_err-judge_end-in-Stopped-clause-fault
returns-in_err-judge_end-in-Stopped-clause-fault c =
    let p = err_from_is_err_and c.from_residual-in_err-judge_end-in-Stopped.result c.from_residual-in_err-judge_end-in-Stopped.ensures.1 in
    let part = some_part c.in-Some.behind.now in
    let names = entries_in c.args.known.now in
    let stops : below names c.in-Some.line.now ≡ Some (Stopped c.in-Stopped.stop) = subst (λ (j : Judged). IsLine names c.lines.number c.in-Some.line.now j) c.in-Stopped.is c.in_ok-entry.ensures.line in
    rw (p.1, p.2) (stops_by_end names c.lines.at c.lines.number c.in-Some.line.now part.0 (parts_of c.lines.rest.now) (parts_of c.in-Some.behind.now) part.1 c.in-Stopped.stop c.in_err-judge_end-in-Stopped.field-0.0 _
    c.in-Some.ensures.parts part.2 stops c.in_err-judge_end-in-Stopped.ensures.fault c.lines.invariant.faults)

pub returns-in-Stopped-clause-faultless : goal.returns-in-Stopped-clause-faultless
returns-in-Stopped-clause-faultless c =
    let part = some_part c.in-Some.behind.now in
    let names = entries_in c.args.known.now in
    let stops : below names c.in-Some.line.now ≡ Some (Stopped c.in-Stopped.stop) = subst (λ (j : Judged). IsLine names c.lines.number c.in-Some.line.now j) c.in-Stopped.is c.in_ok-entry.ensures.line in
    ends_there names c.lines.at c.lines.number c.in-Some.line.now part.0 (parts_of c.lines.rest.now) (parts_of c.in-Some.behind.now) part.1 c.in-Stopped.stop _
    c.in-Some.ensures.parts part.2 stops c.in_ok-judge_end-in-Stopped.ensures.ok c.lines.invariant.faults

pub returns-in-Stopped-clause-history : goal.returns-in-Stopped-clause-history
returns-in-Stopped-clause-history c =
    let names = entries_in c.args.known.now in
    let stops : below names c.in-Some.line.now ≡ Some (Stopped c.in-Stopped.stop) = subst (λ (j : Judged). IsLine names c.lines.number c.in-Some.line.now j) c.in-Stopped.is c.in_ok-entry.ensures.line in
    reads_stop names c.in-Some.line.now c.in-Stopped.stop (parts_of c.lines.rest.now) (parts_of c.in-Some.behind.now) c.lines.entries _ c.in-Some.ensures.parts stops c.lines.invariant.told

pub lines-preserved : goal.lines-preserved
lines-preserved c =
    let part = some_part c.in-Some.behind.now in
    let names = entries_in c.args.known.now in
    let told : IsLine names c.lines.number c.in-Some.line.now (judged.Told c.in-Told.entry) = subst (λ (j : Judged). IsLine names c.lines.number c.in-Some.line.now j) c.in-Told.is c.in_ok-entry.ensures.line in
    record {
      faults = goes_on names c.lines.at c.lines.number c.in-Some.line.now part.0 told.0 c.in-Told.entry (parts_of c.lines.rest.now) (parts_of c.in-Some.behind.now) part.1 _
          c.in-Some.ensures.parts part.2 told.1 told.2 c.lines.invariant.faults;
      told = reads_on names c.in-Some.line.now told.0 c.in-Told.entry (parts_of c.lines.rest.now) (parts_of c.in-Some.behind.now) c.lines.entries c.push.new.self _
          c.in-Some.ensures.parts told.1 c.in_ok-push-in-Told.ensures.ok c.lines.invariant.told;
      room = omega (arith, c.in-Some.ensures.less, c.lines.invariant.room);
      count = omega (arith, c.lines.invariant.count);
    }

pub returns-clause-fault : goal.returns-clause-fault
returns-clause-fault c = cut_short (entries_in c.args.known.now) c.lines.at c.lines.number c.lines.rest.now (parts_of c.lines.rest.now) c.cut_short.result _ c.in_default.ensures.parts c.cut_short.ensures c.lines.invariant.faults
