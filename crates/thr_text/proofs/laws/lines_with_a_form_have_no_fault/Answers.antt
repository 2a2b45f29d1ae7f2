use Rattle.thr_text.proofs.FormLaws.{form_passes, passes_form}
use Rattle.thr_text.proofs.laws.lines_with_a_form_have_no_fault.Goals as goal

pub returns : goal.returns
returns c = record { formed_passes = form_passes; passed_is_formed = passes_form }
