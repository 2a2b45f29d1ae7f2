use Rattle.std.proofs.Common.{rules}
use Rattle.thr_comparing.proofs.Texts.{entry_told, stop_told}
use Rattle.thr_comparing.proofs.telling.text_at.Goals as goal

pub returns-then-i-entries : goal.returns-then-i-entries
returns-then-i-entries c =
    let j = c.args.j.now in
    entry_told j.script.names c.as_slice-names.result.now j.entries c.as_slice-entries.result.now j.stop c.args.place _ c.entry_text.result c.as_slice-names.ensures c.as_slice-entries.ensures c.requires.some c.if-i-entries.true
    (search rules) c.entry_text.ensures

pub returns-else-i-entries : goal.returns-else-i-entries
returns-else-i-entries c =
    let j = c.args.j.now in
    stop_told j.script.names c.as_slice-names.result.now j.entries c.as_slice-entries.result.now j.stop c.args.place c.stop_text.result c.as_slice-names.ensures c.as_slice-entries.ensures c.if-i-entries.false c.stop_text.ensures
