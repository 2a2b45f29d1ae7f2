-- Eight lines, one after another.
use Rattle.std.proofs.Common.{◌≡◌, ℕ, List, [], ◌++◌, append_assoc}
use Rattle.std.specs.Prelude.{codes}
use Rattle.thr_values.specs.declared.event.Stop.{Stop}
use Rattle.thr_syntax.specs.Canon.{line}
use Rattle.thr_text.specs.Journals.{Names, stop_words}
use Rattle.thr_verdict.specs.Report.{Counts, count_line, mutex_lines, counts_text}
use Rattle.thr_report.specs.Reports.{numbers_text}

regroup : (o a b c d e f g h : List ℕ) → (((((((o ++ a) ++ b) ++ c) ++ d) ++ e) ++ f) ++ g) ++ h ≡ o ++ (a ++ (b ++ (c ++ (d ++ (e ++ (f ++ (g ++ h)))))))
regroup o a b c d e f g h = simp append_assoc

pub eight : (o p q r s t u v w a b c d e f g h : List ℕ) → p ≡ o ++ a → q ≡ p ++ b → r ≡ q ++ c → s ≡ r ++ d → t ≡ s ++ e → u ≡ t ++ f → v ≡ u ++ g → w ≡ v ++ h
    → w ≡ o ++ (a ++ (b ++ (c ++ (d ++ (e ++ (f ++ (g ++ h)))))))
eight o p q r s t u v w a b c d e f g h hp hq hr hs ht hu hv hw = rw (hw, hv, hu, ht, hs, hr, hq, hp) (regroup o a b c d e f g h)

all_lines : (a b c d e f g h m l : List ℕ) → ((a ++ (b ++ (c ++ (d ++ (e ++ (f ++ (g ++ h))))))) ++ m) ++ l ≡ a ++ (b ++ (c ++ (d ++ (e ++ (f ++ (g ++ (h ++ (m ++ l))))))))
all_lines a b c d e f g h m l = simp append_assoc

-- The counts, the mutexes and the stop make the text.
pub text_steps : (names : Names) (n : Counts) (stop : Stop) (none a b whole : List ℕ) → none ≡ [] → a ≡ none ++ numbers_text n → b ≡ a ++ mutex_lines names n.acquired → whole ≡ b ++ line (stop_words stop)
    → whole ≡ counts_text names n stop
unfolding counts_text
text_steps names n stop none a b whole hn ha hb hw =
    rw (hw, hb, ha, hn)
    (all_lines (count_line (codes "lines") n.lines) (count_line (codes "threads") n.threads) (count_line (codes "ended") n.ended) (count_line (codes "calls") n.calls)
    (count_line (codes "blocked") n.blocked) (count_line (codes "raised") n.raised) (count_line (codes "delivered") n.delivered) (count_line (codes "caught") n.caught)
    (mutex_lines names n.acquired) (line (stop_words stop)))
