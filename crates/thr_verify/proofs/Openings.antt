-- What is wrong first in a journal is wrong first on a book that was opened on its script.
use Rattle.std.proofs.Common.{◌≡◌, ℕ, ◌+◌, length, drop, sym, ◌∙◌, ap, arith}
use Rattle.std.specs.Prelude.{IfOk, Result, Ok, Err}
use Rattle.thr_values.specs.declared.number.NoMemory.{NoMemory}
use Rattle.thr_syntax.specs.declared.journal.Journal.{Journal}
use Rattle.thr_syntax.specs.declared.tree.Script.{Script}
use Rattle.thr_model.specs.States.{opening}
use Rattle.thr_verdict.specs.FirstWrong.{wrong_in}
use Rattle.thr_machine.specs.Views.{BookView}
use Rattle.thr_machine.specs.Books.{IsOpened}
use Rattle.thr_verify.specs.Replays.{IsLeft}

module _ (j : Journal) (s : Script) (copied : s ≡ j.script) where
  opened_left : (b : BookView) → IsOpened b s j.workers → IsLeft j b
  opened_left b o = record {
    events = length j.entries + 1;
    enough = let none : length b.entries ≡ 0 = ap length o.entries in omega (arith, none);
    same = sym (λ i. wrong_in (length j.entries + 1) j.script j.workers j.stop (length (o.entries i)) ((o.state ∙ ap opening copied) i) (drop (length (o.entries i)) j.entries));
  }

  pub all_left : (r : Result BookView NoMemory) → IfOk r (λ (b : BookView). IsOpened b s j.workers) → IfOk r (IsLeft j)
  all_left (Ok b) o = opened_left b o
  all_left (Err e) o = tt
