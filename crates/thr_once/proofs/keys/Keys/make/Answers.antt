use Rattle.std.proofs.Common.{◌≡◌, ◌∙◌, ap, sym, subst, None}
use Rattle.thr_values.specs.declared.number.NameId.{NameId}
use Rattle.std.specs.Prelude.{Option}
use Rattle.thr_parts.specs.Tables.{Table, get, has, put}
use Rattle.thr_parts.specs.Keys.{new_key}
use Rattle.thr_once.specs.Values.{keys_of, IsKept}
use Rattle.thr_once.specs.Views.{KeysView}
use Rattle.thr_once.proofs.KeyLaws.{has_keys, not_there, keys_made, kept_made}
use Rattle.thr_once.proofs.keys.Keys.make.Goals as goal

pub invariant_of-self : goal.invariant_of-self
invariant_of-self c =
    subst (λ (made : Table (Option NameId)). IsKept made c.self.inside.values.items) (sym c.put.ensures)
    (kept_made c.self.inside.made c.self.inside.values.items c.args.k.0 c.args.destructor c.self.invariant c.requires.known)

pub returns-clause-keys : goal.returns-clause-keys
returns-clause-keys c =
    let new : get c.self.inside.made c.args.k.0 ≡ None =
    not_there c.self.inside.made c.args.k.0 (sym (has_keys c.self.inside.made c.self.inside.values.items c.args.k.0) ∙ ap (λ (v : KeysView). has v.keys c.args.k.0) c.self.view_is ∙ c.requires.unmade) in
    ap (λ (made : Table (Option NameId)). keys_of made c.self.inside.values.items) c.put.ensures
    ∙ keys_made c.self.inside.made c.self.inside.values.items c.args.k.0 c.args.destructor c.self.invariant new
    ∙ ap (λ (v : KeysView). put v.keys c.args.k.0 (new_key c.args.destructor)) c.self.view_is
