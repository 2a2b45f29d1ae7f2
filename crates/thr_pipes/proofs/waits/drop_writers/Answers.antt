use Rattle.std.proofs.Common.{◌∙◌, sym, rules}
use Rattle.std.proofs.lemmas.Fn.{filter_same}
use Rattle.thr_pipes.proofs.WriterLaws.{elsewhere_is}
use Rattle.thr_pipes.proofs.waits.drop_writers.Goals as goal

pub returns : goal.returns
returns c = filter_same _ _ _ (λ x b f' k. search rules) _ _ c.retain.ensures ∙ sym (elsewhere_is _ c.args.p)
