use Rattle.std.proofs.Common.{sym, ap, ◌∙◌}
use Rattle.std.specs.Str.{bytes_eq}
use Rattle.thr_journal_reading.proofs.CanonicalLaws.{canonical_is}
use Rattle.thr_journal_reading.proofs.script.is_canonical.Goals as goal

pub returns : goal.returns
returns c = c.eq.ensures ∙ ap (bytes_eq c.args.text.now) (c.requires.written ∙ sym (canonical_is c.args.text.now c.args.script.now c.requires.reads))
