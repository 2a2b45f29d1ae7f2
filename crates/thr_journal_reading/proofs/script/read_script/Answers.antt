use Rattle.std.proofs.Common.{◌≡◌, ◌+◌, ◌<◌, ◌^◌, subst, ap, arith}
use Rattle.thr_text.specs.declared.fault.ParseFault.{ParseFault}
use Rattle.thr_text.specs.declared.fault.Place.{Place}
use Rattle.thr_text.specs.declared.fault.ParseFault.TheVariants.{Refused}
use Rattle.thr_text.specs.Reading.{faults}
use Rattle.thr_grammar.specs.Parsing.{IsFirstStated}
use Rattle.thr_journal_reading.proofs.LineNumbers.{fault_line}
use Rattle.thr_journal_reading.proofs.PartLaws.{script_refused}
use Rattle.thr_journal_reading.proofs.script.read_script.Goals as goal

pub returns-in-Err-Refused-clause-fault : goal.returns-in-Err-Refused-clause-fault
returns-in-Err-Refused-clause-fault c =
    let place = c.in-Err-Refused.place in
    let stated : IsFirstStated (Refused place) (faults c.args.text.now) = subst (λ (f : ParseFault). IsFirstStated f (faults c.args.text.now)) c.in-Err-Refused.field-0-is c.in-Err-Refused.ensures.fault in
    let up = fault_line c.args.text.now (stated.0, place.line, place.number) stated.1 in
    let room : place.line + 3 < 2 ^ 32 = omega (arith, up, c.requires) in
    let sum : c.saturating_add.result ≡ 3 + place.line = omega (arith, c.saturating_add.ensures, room, ap (λ (p : Place). p.line) c.in-Err-Refused.place-is) in
    rw c.refused.ensures (script_refused c.args.text.now stated.0 place.line place.number c.saturating_add.result stated.1 sum)
