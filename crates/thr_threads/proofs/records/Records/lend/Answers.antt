use Rattle.std.proofs.Common.{◌∙◌, ap, sym}
use Rattle.std.specs.Option.{is_some, option_map}
use Rattle.thr_parts.specs.Tables.{get}
use Rattle.thr_parts.proofs.TableLaws.{has_get}
use Rattle.thr_threads.specs.Records.{record_under}
use Rattle.thr_threads.proofs.RecordLaws.{get_records, lent, lent_some, lent_its}
use Rattle.thr_threads.proofs.records.Records.lend.Goals as goal

pub returns-in-None-clause-record : goal.returns-in-None-clause-record
returns-in-None-clause-record c =
    sym (ap (λ m. get m c.args.t.0) (sym c.self.view_is) ∙ get_records c.self.inside.keys c.self.inside.slab c.args.t.0
    ∙ ap (option_map (record_under c.self.inside.slab)) (sym c.in-None.ensures.value))

pub returns-in-None-clause-known : goal.returns-in-None-clause-known
returns-in-None-clause-known c = ap is_some (returns-in-None-clause-record c) ∙ sym (has_get c.args.self.now c.args.t.0)

pub returns-in-Some-clause-record : goal.returns-in-Some-clause-record
returns-in-Some-clause-record c =
    c.get-in-Some.ensures ∙ lent c.self.inside.keys c.self.inside.slab c.args.t.0 c.in-Some.key c.self.invariant (sym c.in-Some.ensures.value)
    ∙ ap (λ m. get m c.args.t.0) c.self.view_is

pub returns-in-Some-clause-known : goal.returns-in-Some-clause-known
returns-in-Some-clause-known c =
    lent_some c.get-in-Some.result _ (returns-in-Some-clause-record c) ∙ sym (has_get c.args.self.now c.args.t.0)

pub returns-in-Some-clause-its : goal.returns-in-Some-clause-its
returns-in-Some-clause-its c =
    lent_its c.self.inside.keys c.self.inside.slab c.args.t.0 c.in-Some.key c.get-in-Some.result c.self.invariant (sym c.in-Some.ensures.value) c.get-in-Some.ensures
