use Rattle.thr_naming.proofs.MisnamedLaws.{fault_told, first_misnamed_comes, no_main_comes, long_fault_told, misnamed_comes_in_time, too_long_comes}
use Rattle.thr_naming.proofs.laws.first_misnamed_lines_are_told.Goals as goal

pub returns : goal.returns
returns c = record {
  says = fault_told;
  comes = first_misnamed_comes;
  comes_at_the_end = no_main_comes;
  says_too_long = long_fault_told;
  comes_in_time = misnamed_comes_in_time;
  comes_too_long = too_long_comes;
}
