use Rattle.std.proofs.Common.{◌≡◌, sym, ◌∙◌, ap}
use Rattle.std.proofs.lemmas.Result.{err_from_is_err_and}
use Rattle.thr_journals.specs.Faults.{parts_of}
use Rattle.thr_journal_lines.specs.Known.{entries_in}
use Rattle.thr_journal_reading.proofs.WholeLaws.{title_stops, no_script, script_stops, history_stops, whole_read}
use Rattle.thr_journal_reading.proofs.reading.read_bytes.Goals as goal

pub returns-in_err-workers-clause-fault : goal.returns-in_err-workers-clause-fault
returns-in_err-workers-clause-fault c =
    let p = err_from_is_err_and c.from_residual.result c.from_residual.ensures.1 in
    rw (p.1, p.2) (title_stops c.args.bytes.now c.in_err-workers.field-0.0 c.in_err-workers.ensures.fault)

pub returns-in_default-clause-fault : goal.returns-in_default-clause-fault
returns-in_default-clause-fault c =
    rw c.refused.ensures (no_script c.args.bytes.now (parts_of c.in_ok-workers.rest.now) (record { faultless = c.in_ok-workers.ensures.faultless; parts = c.in_ok-workers.ensures.parts }) c.in_default.ensures.part)

pub returns-in_err-script-clause-fault : goal.returns-in_err-script-clause-fault
returns-in_err-script-clause-fault c =
    let p = err_from_is_err_and c.from_residual-in_err-script.result c.from_residual-in_err-script.ensures.1 in
    let part = c.in-Some.part in
    rw (p.1, p.2) (script_stops c.args.bytes.now (parts_of c.in_ok-workers.rest.now) part.size part.text.now (parts_of part.behind.now) c.in_err-script.field-0.0
    (record { faultless = c.in_ok-workers.ensures.faultless; parts = c.in_ok-workers.ensures.parts }) c.in-Some.ensures.part c.in_err-script.ensures.fault)

pub returns-in_err-entries-clause-fault : goal.returns-in_err-entries-clause-fault
returns-in_err-entries-clause-fault c =
    let p = err_from_is_err_and c.from_residual-in_err-entries.result c.from_residual-in_err-entries.ensures.1 in
    let part = c.in-Some.part in
    rw (p.1, p.2) (history_stops c.args.bytes.now (parts_of c.in_ok-workers.rest.now) part.size part.text.now (parts_of part.behind.now) c.in_ok-script.script (entries_in c.as_slice.result.now) c.in_err-entries.field-0.0
    (record { faultless = c.in_ok-workers.ensures.faultless; parts = c.in_ok-workers.ensures.parts }) c.in-Some.ensures.part
    (record { faultless = c.in_ok-script.ensures.faultless; reads = c.in_ok-script.ensures.reads; known = ap entries_in c.as_slice.ensures.value ∙ c.in_ok-known.ensures.names }) c.in_err-entries.ensures.fault)

pub returns-clause-reads : goal.returns-clause-reads
returns-clause-reads c =
    let part = c.in-Some.part in
    whole_read c.args.bytes.now (parts_of c.in_ok-workers.rest.now) part.size part.text.now (parts_of part.behind.now) c.in_ok-script.script (entries_in c.as_slice.result.now) c.in_ok-workers.workers _ _
    (record { faultless = c.in_ok-workers.ensures.faultless; parts = c.in_ok-workers.ensures.parts }) c.in-Some.ensures.part
    (record { faultless = c.in_ok-script.ensures.faultless; reads = c.in_ok-script.ensures.reads; known = ap entries_in c.as_slice.ensures.value ∙ c.in_ok-known.ensures.names })
    c.in_ok-workers.ensures.workers c.in_ok-entries.ensures.faultless c.in_ok-entries.ensures.history
