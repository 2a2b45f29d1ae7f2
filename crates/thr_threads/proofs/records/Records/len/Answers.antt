use Rattle.std.proofs.Common.{◌∙◌, ap, sym, length}
use Rattle.thr_threads.proofs.RecordLaws.{length_records}
use Rattle.thr_threads.proofs.records.Records.len.Goals as goal

pub returns : goal.returns
returns c = c.len.ensures.len ∙ sym (length_records c.self.inside.keys c.self.inside.slab) ∙ ap length c.self.view_is
