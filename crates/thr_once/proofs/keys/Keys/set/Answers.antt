use Rattle.std.proofs.Common.{◌<◌, ℤ, ◌∙◌, ap, w64}
use Rattle.std.proofs.lemmas.Int.{to_z-of_z}
use Rattle.std.specs.Option.{option_map}
use Rattle.thr_parts.specs.Tables.{names, get, has, put_if}
use Rattle.thr_parts.specs.Keys.{as_valued}
use Rattle.thr_once.specs.Values.{place_number, by_place, stored}
use Rattle.thr_once.specs.Views.{KeysView}
use Rattle.thr_once.proofs.KeyLaws.{changed, made_is_known, keys_changed, kept_changed}
use Rattle.thr_once.proofs.keys.Keys.set.Goals as goal

pub store-requires-clause-known : goal.store-requires-clause-known
store-requires-clause-known c = made_is_known c.self.inside.made c.self.inside.values.items c.args.k.0 c.self.invariant (ap (λ (v : KeysView). has v.keys c.args.k.0) c.self.view_is ∙ c.requires.made)

pub invariant_of-self : goal.invariant_of-self
invariant_of-self c =
    let there = ap (λ (v : KeysView). has v.keys c.args.k.0) c.self.view_is ∙ c.requires.made in
    let known : c.args.k.0 < names = made_is_known c.self.inside.made c.self.inside.values.items c.args.k.0 c.self.invariant there in
    kept_changed c.self.inside.made c.self.inside.values.items c.store.new.values.items c.args.k.0 c.args.t c.args.value c.self.invariant
    (changed c.self.inside.values.items c.store.new.values.items c.args.k.0 c.args.t c.args.value known c.self.invariant.ordered c.store.ensures.ordered
    (c.store.ensures.values ∙ ap (λ (x : ℤ). stored (by_place c.self.inside.values.items) (place_number c.args.k.0 c.args.t.0) x) (to_z-of_z w64 c.args.value c.ranges.value)))
    c.store.ensures.ordered there

pub returns-clause-keys : goal.returns-clause-keys
returns-clause-keys c =
    let there = ap (λ (v : KeysView). has v.keys c.args.k.0) c.self.view_is ∙ c.requires.made in
    let known : c.args.k.0 < names = made_is_known c.self.inside.made c.self.inside.values.items c.args.k.0 c.self.invariant there in
    keys_changed c.self.inside.made c.self.inside.values.items c.store.new.values.items c.args.k.0 c.args.t c.args.value c.self.invariant
    (changed c.self.inside.values.items c.store.new.values.items c.args.k.0 c.args.t c.args.value known c.self.invariant.ordered c.store.ensures.ordered
    (c.store.ensures.values ∙ ap (λ (x : ℤ). stored (by_place c.self.inside.values.items) (place_number c.args.k.0 c.args.t.0) x) (to_z-of_z w64 c.args.value c.ranges.value)))
    there
    ∙ ap (λ (v : KeysView). put_if v.keys c.args.k.0 (option_map (as_valued c.args.t c.args.value) (get v.keys c.args.k.0))) c.self.view_is
