use Rattle.std.proofs.Common.{sym, ◌∙◌, List, ℕ}
use Rattle.std.specs.Borrow.{Bor}
use Rattle.std.specs.Str.{bytes_eq}
use Rattle.thr_journal_lines.proofs.KnownLaws.{position_map}
use Rattle.thr_journal_lines.proofs.calls.place_of.Goals as goal

pub returns-clause-place : goal.returns-clause-place
returns-clause-place c = c.place_among.ensures.place ∙ sym (position_map (bytes_eq c.args.text.now) (λ (w : Bor (List ℕ)). w.now) c.args.words.now)
