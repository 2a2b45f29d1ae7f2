use Rattle.std.proofs.Common.{pos, ◌<◌, ◌∙◌, ap}
use Rattle.std.specs.Option.{option_map}
use Rattle.thr_parts.specs.Tables.{names, get, has, put_if}
use Rattle.thr_parts.specs.Keys.{as_valued}
use Rattle.thr_once.specs.Views.{KeysView}
use Rattle.thr_once.proofs.KeyLaws.{changed, made_is_known, keys_changed, kept_changed}
use Rattle.thr_once.proofs.keys.Keys.clear.Goals as goal

pub clear-requires-clause-known : goal.clear-requires-clause-known
clear-requires-clause-known c = made_is_known c.self.inside.made c.self.inside.values.items c.args.k.0 c.self.invariant (ap (λ (v : KeysView). has v.keys c.args.k.0) c.self.view_is ∙ c.requires.made)

pub invariant_of-self : goal.invariant_of-self
invariant_of-self c =
    let there = ap (λ (v : KeysView). has v.keys c.args.k.0) c.self.view_is ∙ c.requires.made in
    let known : c.args.k.0 < names = made_is_known c.self.inside.made c.self.inside.values.items c.args.k.0 c.self.invariant there in
    kept_changed c.self.inside.made c.self.inside.values.items c.clear.new.values.items c.args.k.0 c.args.t (pos 0) c.self.invariant
    (changed c.self.inside.values.items c.clear.new.values.items c.args.k.0 c.args.t (pos 0) known c.self.invariant.ordered c.clear.ensures.ordered c.clear.ensures.values) c.clear.ensures.ordered there

pub returns-clause-keys : goal.returns-clause-keys
returns-clause-keys c =
    let there = ap (λ (v : KeysView). has v.keys c.args.k.0) c.self.view_is ∙ c.requires.made in
    let known : c.args.k.0 < names = made_is_known c.self.inside.made c.self.inside.values.items c.args.k.0 c.self.invariant there in
    keys_changed c.self.inside.made c.self.inside.values.items c.clear.new.values.items c.args.k.0 c.args.t (pos 0) c.self.invariant
    (changed c.self.inside.values.items c.clear.new.values.items c.args.k.0 c.args.t (pos 0) known c.self.invariant.ordered c.clear.ensures.ordered c.clear.ensures.values) there
    ∙ ap (λ (v : KeysView). put_if v.keys c.args.k.0 (option_map (as_valued c.args.t (pos 0)) (get v.keys c.args.k.0))) c.self.view_is
