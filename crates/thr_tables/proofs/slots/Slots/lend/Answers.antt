use Rattle.std.proofs.Common.{rules, ◌<◌, ap, ◌∙◌, sym, length, is_some}
use Rattle.thr_parts.proofs.TableLaws.{has_get}
use Rattle.thr_tables.proofs.SlotLaws.{get_slot}
use Rattle.thr_tables.proofs.slots.Slots.lend.Goals as goal

pub returns-clause-value : goal.returns-clause-value
returns-clause-value g c =
    let h : c.args.name.0 < length c.self.inside.items.items = search rules in
    c.as_ref.ensures.value ∙ rw (← c.self.view_is) (get_slot c.self.inside.items.items c.args.name.0 c.index.result.now h c.index.ensures)

pub returns-clause-known : goal.returns-clause-known
returns-clause-known g c =
    let h : c.args.name.0 < length c.self.inside.items.items = search rules in
    c.as_ref.ensures.variant ∙ rw (← c.self.view_is) (ap is_some (get_slot c.self.inside.items.items c.args.name.0 c.index.result.now h c.index.ensures) ∙ sym (has_get _ c.args.name.0))
