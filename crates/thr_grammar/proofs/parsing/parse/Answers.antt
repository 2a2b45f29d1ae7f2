use Rattle.std.proofs.Common.{sym, subst, ◌∙◌}
use Rattle.std.proofs.lemmas.Result.{err_from_is_err_and}
use Rattle.thr_text.specs.Refusals.{IsFirst}
use Rattle.thr_reading.proofs.ReadLaws.{no_faults}
use Rattle.thr_reading.proofs.OneScript.{one_script}
use Rattle.thr_grammar.proofs.ParseLaws.{scan_stated, blocks_stated, names_stated, blocks_never, names_never, same_blocks, same_names, forms_nesting, forms_are_own, script_read, passed_of}
use Rattle.thr_grammar.proofs.parsing.parse.Goals as goal

pub returns-in_err-reading-clause-fault : goal.returns-in_err-reading-clause-fault
returns-in_err-reading-clause-fault c =
    let p = err_from_is_err_and c.from_residual.result c.from_residual.ensures.1 in
    rw (p.1, p.2) (scan_stated c.args.bytes.now c.in_err-reading.field-0.0 c.in_err-reading.ensures.fault)

pub returns-in_err-check_blocks-clause-fault : goal.returns-in_err-check_blocks-clause-fault
returns-in_err-check_blocks-clause-fault c =
    let p = err_from_is_err_and c.from_residual-in_err-check_blocks.result c.from_residual-in_err-check_blocks.ensures.1 in
    let r = c.in_ok-reading in
    let e = c.in_err-check_blocks.field-0.0 in
    rw (p.1, p.2) (blocks_stated c.args.bytes.now e r.ensures.plain
    (subst (IsFirst e) (same_blocks c.args.bytes.now r.reading.end r.reading.lines.items c.as_slice-lines.result.now c.as_slice-lines.ensures.value r.ensures.lines r.ensures.end) c.in_err-check_blocks.ensures.fault))

pub returns-in_err-check_blocks-clause-refused : goal.returns-in_err-check_blocks-clause-refused
returns-in_err-check_blocks-clause-refused c = λ s reads.
    let p = err_from_is_err_and c.from_residual-in_err-check_blocks.result c.from_residual-in_err-check_blocks.ensures.1 in
    let r = c.in_ok-reading in
    let e = c.in_err-check_blocks.field-0.0 in
    rw (p.1, p.2) (blocks_never c.args.bytes.now s e reads
    (subst (IsFirst e) (same_blocks c.args.bytes.now r.reading.end r.reading.lines.items c.as_slice-lines.result.now c.as_slice-lines.ensures.value r.ensures.lines r.ensures.end) c.in_err-check_blocks.ensures.fault))

pub returns-in_err-table-clause-fault : goal.returns-in_err-table-clause-fault
returns-in_err-table-clause-fault c =
    let p = err_from_is_err_and c.from_residual-in_err-table.result c.from_residual-in_err-table.ensures.1 in
    let r = c.in_ok-reading in
    let e = c.in_err-table.field-0.0 in
    let blocks = same_blocks c.args.bytes.now r.reading.end r.reading.lines.items c.as_slice-lines.result.now c.as_slice-lines.ensures.value r.ensures.lines r.ensures.end in
    rw (p.1, p.2) (names_stated c.args.bytes.now e r.ensures.plain (sym blocks ∙ c.in_ok-check_blocks.ensures.ok)
    (subst (IsFirst e) (same_names c.args.bytes.now r.reading.end r.reading.lines.items c.as_slice-lines.result.now c.as_slice-lines.ensures.value r.ensures.lines r.ensures.end) c.in_err-table.ensures.fault))

pub returns-in_err-table-clause-refused : goal.returns-in_err-table-clause-refused
returns-in_err-table-clause-refused c = λ s reads.
    let p = err_from_is_err_and c.from_residual-in_err-table.result c.from_residual-in_err-table.ensures.1 in
    let r = c.in_ok-reading in
    let e = c.in_err-table.field-0.0 in
    rw (p.1, p.2) (names_never c.args.bytes.now s e reads
    (subst (IsFirst e) (same_names c.args.bytes.now r.reading.end r.reading.lines.items c.as_slice-lines.result.now c.as_slice-lines.ensures.value r.ensures.lines r.ensures.end) c.in_err-table.ensures.fault))

pub build_items-requires : goal.build_items-requires
build_items-requires c = forms_nesting c.args.bytes.now c.as_slice-lines.result.now c.in_ok-table.table c.in_ok-forms.forms.items
    (passed_of c.args.bytes.now c.in_ok-reading.reading.end c.in_ok-reading.reading.lines.items c.as_slice-lines.result.now c.in_ok-table.table c.in_ok-forms.forms.items c.in_ok-reading.ensures.plain c.in_ok-reading.ensures.lines c.in_ok-reading.ensures.end c.as_slice-lines.ensures.value c.in_ok-check_blocks.ensures.ok c.in_ok-table.ensures.ok c.in_ok-table.ensures.names c.in_ok-forms.ensures.ok)

pub returns-clause-reads : goal.returns-clause-reads
returns-clause-reads c =
    let p = (passed_of c.args.bytes.now c.in_ok-reading.reading.end c.in_ok-reading.reading.lines.items c.as_slice-lines.result.now c.in_ok-table.table c.in_ok-forms.forms.items c.in_ok-reading.ensures.plain c.in_ok-reading.ensures.lines c.in_ok-reading.ensures.end c.as_slice-lines.ensures.value c.in_ok-check_blocks.ensures.ok c.in_ok-table.ensures.ok c.in_ok-table.ensures.names c.in_ok-forms.ensures.ok) in
    script_read c.args.bytes.now c.as_slice-lines.result.now c.in_ok-table.table c.in_ok-forms.forms.items c.in_ok-items.items c.in_ok-names.names p
    (c.in_ok-items.ensures.own (forms_are_own c.args.bytes.now c.as_slice-lines.result.now c.in_ok-table.table c.in_ok-forms.forms.items p)) c.in_ok-names.ensures.names

pub returns-clause-only : goal.returns-clause-only
returns-clause-only c = λ s reads.
    let p = (passed_of c.args.bytes.now c.in_ok-reading.reading.end c.in_ok-reading.reading.lines.items c.as_slice-lines.result.now c.in_ok-table.table c.in_ok-forms.forms.items c.in_ok-reading.ensures.plain c.in_ok-reading.ensures.lines c.in_ok-reading.ensures.end c.as_slice-lines.ensures.value c.in_ok-check_blocks.ensures.ok c.in_ok-table.ensures.ok c.in_ok-table.ensures.names c.in_ok-forms.ensures.ok) in
    one_script c.args.bytes.now _ s
    (script_read c.args.bytes.now c.as_slice-lines.result.now c.in_ok-table.table c.in_ok-forms.forms.items c.in_ok-items.items c.in_ok-names.names p
    (c.in_ok-items.ensures.own (forms_are_own c.args.bytes.now c.as_slice-lines.result.now c.in_ok-table.table c.in_ok-forms.forms.items p)) c.in_ok-names.ensures.names) reads

pub returns-clause-faultless : goal.returns-clause-faultless
returns-clause-faultless c = no_faults c.args.bytes.now (passed_of c.args.bytes.now c.in_ok-reading.reading.end c.in_ok-reading.reading.lines.items c.as_slice-lines.result.now c.in_ok-table.table c.in_ok-forms.forms.items c.in_ok-reading.ensures.plain c.in_ok-reading.ensures.lines c.in_ok-reading.ensures.end c.as_slice-lines.ensures.value c.in_ok-check_blocks.ensures.ok c.in_ok-table.ensures.ok c.in_ok-table.ensures.names c.in_ok-forms.ensures.ok).faultfree
