use Rattle.std.proofs.Common.{◌∙◌, ap, sym}
use Rattle.thr_parts.specs.Tables.{has}
use Rattle.thr_once.specs.Views.{KeysView}
use Rattle.thr_once.proofs.KeyLaws.{has_keys, not_there}
use Rattle.thr_once.proofs.keys.Keys.is_made.Goals as goal

pub returns-clause-made : goal.returns-clause-made
returns-clause-made c =
    c.is_some.ensures ∙ c.get.ensures.known ∙ sym (has_keys c.self.inside.made c.self.inside.values.items c.args.k.0)
    ∙ ap (λ (v : KeysView). has v.keys c.args.k.0) c.self.view_is

pub returns-clause-unmade : goal.returns-clause-unmade
returns-clause-unmade c = λ e. not_there c.args.self.now.keys c.args.k.0 (sym (returns-clause-made c) ∙ e)
