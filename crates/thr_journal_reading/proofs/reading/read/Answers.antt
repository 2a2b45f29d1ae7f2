use Rattle.std.proofs.Common.{◌<◌, ◌^◌, length, arith}
use Rattle.thr_journal_reading.proofs.JournalTexts.{read_text, read_formed}
use Rattle.thr_journal_reading.proofs.OneJournal.{one_journal, never_refused}
use Rattle.thr_journal_reading.proofs.TextsRead.{text_read}
use Rattle.thr_journal_reading.proofs.WholeLaws.{if_ok, if_err}
use Rattle.thr_journal_reading.proofs.reading.read.Goals as goal

pub returns-clause-formed : goal.returns-clause-formed
returns-clause-formed c =
    let small : length c.args.bytes.now < 2 ^ 32 = omega (arith, c.requires) in
    if_ok c.read_bytes.result _ _ (λ j r. read_formed c.args.bytes.now j small r) c.read_bytes.ensures.reads

pub returns-clause-text : goal.returns-clause-text
returns-clause-text c =
    let small : length c.args.bytes.now < 2 ^ 32 = omega (arith, c.requires) in
    if_ok c.read_bytes.result _ _ (λ j r. read_text c.args.bytes.now j small r) c.read_bytes.ensures.reads

pub returns-clause-only : goal.returns-clause-only
returns-clause-only c = λ j f same.
    let small : length c.args.bytes.now < 2 ^ 32 = omega (arith, c.requires) in
    if_ok c.read_bytes.result _ _ (λ k r. one_journal c.args.bytes.now k j r (text_read c.args.bytes.now j small f same)) c.read_bytes.ensures.reads

pub returns-clause-refused : goal.returns-clause-refused
returns-clause-refused c = λ j f same.
    let small : length c.args.bytes.now < 2 ^ 32 = omega (arith, c.requires) in
    if_err c.read_bytes.result _ _ (λ e h. never_refused c.args.bytes.now j e (text_read c.args.bytes.now j small f same) h) c.read_bytes.ensures.fault
