use Rattle.std.specs.Prelude.{false}
use Rattle.thr_forms.proofs.FirstFaultLaws.{fault_told, first_faulty_comes, wordless_comes}
use Rattle.thr_forms.proofs.laws.first_faulty_lines_are_told.Goals as goal

pub returns : goal.returns
returns c = record {
  says = λ lines fault. fault_told 1 false lines fault;
  comes = λ lines fault. first_faulty_comes 1 false lines fault;
  comes_at_the_end = λ lines fault. wordless_comes 1 false lines fault;
}
