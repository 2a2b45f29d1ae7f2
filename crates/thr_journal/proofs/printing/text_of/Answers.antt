use Rattle.std.proofs.Common.{◌++◌, ◌∙◌, ap, List, ℕ}
use Rattle.thr_values.specs.declared.history.Entry.{Entry}
use Rattle.thr_text.specs.Journals.{numbered}
use Rattle.thr_journal.proofs.TextLaws.{journal_steps}
use Rattle.thr_journal.proofs.printing.text_of.Goals as goal

pub returns : goal.returns
returns c =
    let j = c.args.journal.now in
    journal_steps j.script j.workers c.line_count.result j.entries j.stop c.new-out.result.items c.extend_from_slice.new.self.items c.add_counted_line.new.out.items
    c.add_counted_line-2.new.out.items c.add_script.new.out.items c.extend_from_slice-2.new.self.items c.add_entries.new.out.items c.add_stop.new.out.items
    (c.line_count.ensures.exact c.requires) c.new-out.ensures.items c.in_ok-extend_from_slice.ensures.items c.in_ok-add_counted_line.ensures c.in_ok-add_counted_line-2.ensures
    c.in_ok-add_script.ensures c.in_ok-extend_from_slice-2.ensures.items
    (c.in_ok-add_entries.ensures
    ∙ ap (λ (names : List (List ℕ)). c.extend_from_slice-2.new.self.items ++ numbered names 1 c.as_slice-2.result.now) c.as_slice.ensures
    ∙ ap (λ (es : List Entry). c.extend_from_slice-2.new.self.items ++ numbered j.script.names 1 es) c.as_slice-2.ensures)
    c.in_ok-add_stop.ensures
