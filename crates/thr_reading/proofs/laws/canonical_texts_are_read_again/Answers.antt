use Rattle.std.proofs.Common.{sym, subst}
use Rattle.thr_syntax.specs.Canon.{canon}
use Rattle.thr_text.specs.Reading.{Reads}
use Rattle.thr_reading.proofs.CanonLaws.{canon_again, canon_short}
use Rattle.thr_reading.proofs.OneScript.{one_script}
use Rattle.thr_reading.proofs.laws.canonical_texts_are_read_again.Goals as goal

pub returns-clause-again : goal.returns-clause-again
returns-clause-again c = canon_again

pub returns-clause-formed : goal.returns-clause-formed
returns-clause-formed c bytes s r = r.formed

pub returns-clause-same : goal.returns-clause-same
returns-clause-same c bytes others s t r q is =
    one_script (canon s) s t (canon_again s r.formed) (subst (λ (b : _). Reads b t) (sym is) (canon_again t q.formed))

pub returns-clause-short : goal.returns-clause-short
returns-clause-short c = canon_short
