use Rattle.std.proofs.Common.{pos, List, ◌∙◌, ap, arith, w64, None, Some}
use Rattle.std.proofs.lemmas.Int.{to_z-of_z, ints}
use Rattle.std.specs.Option.{option_map}
use mir.Val.{SFits}
use Rattle.thr_parts.specs.Tables.{at, get}
use Rattle.thr_parts.specs.Keys.{value_in}
use Rattle.thr_once.specs.declared.values.KeyValue.{KeyValue}
use Rattle.thr_once.specs.Values.{place_number, by_place}
use Rattle.thr_once.specs.Views.{KeysView}
use Rattle.thr_once.proofs.ValueLaws.{at_by_place}
use Rattle.thr_once.proofs.KeyLaws.{value_is}
use Rattle.thr_once.proofs.keys.Keys.get.Goals as goal

pub returns-in-None : goal.returns-in-None
returns-in-None c =
    value_is c.self.inside.made c.self.inside.values.items c.args.k.0 c.args.t None c.in-None.ensures.value
    ∙ ap (λ (v : KeysView). option_map (λ key. value_in key c.args.t) (get v.keys c.args.k.0)) c.self.view_is

pub returns-in-Some : goal.returns-in-Some
returns-in-Some c =
    let fits : SFits w64 c.value_of.result = search (arith, ints) in
    ap Some (to_z-of_z w64 c.value_of.result fits ∙ c.value_of.ensures ∙ ap (λ (vs : List KeyValue). at (by_place vs) (place_number c.args.k.0 c.args.t.0) (pos 0)) c.deref.ensures.value
    ∙ at_by_place c.args.k.0 c.args.t.0 c.self.inside.values.items c.requires.known c.self.invariant.ordered.named)
    ∙ value_is c.self.inside.made c.self.inside.values.items c.args.k.0 c.args.t (Some c.in-Some.field-0) c.in-Some.ensures.value
    ∙ ap (λ (v : KeysView). option_map (λ key. value_in key c.args.t) (get v.keys c.args.k.0)) c.self.view_is
