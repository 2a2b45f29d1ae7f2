use Rattle.thr_forms.proofs.FillingLaws.{form_of_line, line_has_form, form_once}
use Rattle.thr_forms.proofs.laws.lines_have_one_form.Goals as goal

pub returns : goal.returns
returns c = record { has_one = form_of_line; is_a_form = line_has_form; no_other = form_once }
