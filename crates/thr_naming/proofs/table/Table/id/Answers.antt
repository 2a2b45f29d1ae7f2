use Rattle.std.proofs.Common.{List, position, sym, ap, ◌∙◌}
use Rattle.std.specs.Map.{keys_of}
use Rattle.std.specs.Str.{bytes_eq}
use Rattle.thr_text.specs.Tables.{Entry}
use Rattle.thr_naming.proofs.TableLaws.{id_name, id_found, no_id}
use Rattle.thr_naming.proofs.table.Table.id.Goals as goal

pub returns-in-Some-clause-name : goal.returns-in-Some-clause-name
returns-in-Some-clause-name c =
    let here = ap (λ (es : List Entry). position (bytes_eq c.args.name.now) (keys_of es)) (sym c.self.view_is) ∙ sym c.place_in.ensures ∙ c.in-Some.is in
    id_name (keys_of c.args.self.now) c.args.name.now c.in-Some.place c.as_id.result here c.as_id.ensures.value

pub returns-in-Some-clause-found : goal.returns-in-Some-clause-found
returns-in-Some-clause-found c =
    let here = ap (λ (es : List Entry). position (bytes_eq c.args.name.now) (keys_of es)) (sym c.self.view_is) ∙ sym c.place_in.ensures ∙ c.in-Some.is in
    id_found c.args.self.now c.args.name.now c.in-Some.place c.as_id.result here c.as_id.ensures.found

pub returns-in-None-clause-found : goal.returns-in-None-clause-found
returns-in-None-clause-found c =
    let none = ap (λ (es : List Entry). position (bytes_eq c.args.name.now) (keys_of es)) (sym c.self.view_is) ∙ sym c.place_in.ensures ∙ c.in-None.is in
    λ few. no_id c.args.self.now c.args.name.now none
