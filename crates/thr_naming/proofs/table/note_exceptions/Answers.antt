use Rattle.std.proofs.Common.{sym, ◌∙◌}
use Rattle.thr_text.specs.Tables.{builtin_entry}
use Rattle.thr_naming.proofs.TableLaws.{noted_one, noted_all}
use Rattle.thr_naming.proofs.table.note_exceptions.Goals as goal

pub loop-text-preserved : goal.loop-text-preserved
loop-text-preserved c = rw (c.in_ok-note.ensures.ok, c.in_ok-name.ensures) (noted_one (λ t. builtin_entry t.now) c.loop-text.table c.args.names.now c.loop-text.text-index _ c.loop-text-test.true ∙ c.loop-text.invariant)

pub returns-clause-ok : goal.returns-clause-ok
returns-clause-ok c = sym (noted_all (λ t. builtin_entry t.now) c.loop-text.table c.args.names.now c.loop-text.text-index c.loop-text-test.false) ∙ c.loop-text.invariant
