-- The parts of a journal make its text.
use Rattle.std.proofs.Common.{◌≡◌, ℕ, List, [], ◌∷◌, ◌++◌, length, append_assoc}
use Rattle.std.specs.Prelude.{codes}
use Rattle.std.specs.Fmt.{decimal}
use Rattle.thr_values.specs.declared.history.Entry.{Entry}
use Rattle.thr_values.specs.declared.event.Stop.{Stop}
use Rattle.thr_syntax.specs.declared.tree.Script.{Script}
use Rattle.thr_syntax.specs.Canon.{line, canon, script_words}
use Rattle.thr_text.specs.Journals.{numbered, stop_words, text}

regroup : (a b c d e f g : List ℕ) → (((((a ++ b) ++ c) ++ d) ++ e) ++ f) ++ g ≡ a ++ (b ++ (c ++ (d ++ (e ++ (f ++ g)))))
regroup a b c d e f g = simp append_assoc

abbrev first_line : List ℕ
first_line = line (codes "dcethr" ∷ codes "journal" ∷ codes "1" ∷ [])

abbrev counted_line : List ℕ → ℕ → List ℕ
counted_line word n = line (word ∷ decimal n ∷ [])

-- A journal is printed in seven steps.
pub journal_steps : (s : Script) (w k : ℕ) (es : List Entry) (stop : Stop) (none a b c d e f g : List ℕ) → k ≡ length (script_words s) → none ≡ []
    → a ≡ none ++ first_line → b ≡ a ++ counted_line (codes "workers") w → c ≡ b ++ counted_line (codes "script") k → d ≡ c ++ canon s
    → e ≡ d ++ line (codes "history" ∷ []) → f ≡ e ++ numbered s.names 1 es → g ≡ f ++ line (stop_words stop) → g ≡ text s w es stop
unfolding text
journal_steps s w k es stop none a b c d e f g count hn ha hb hc hd he hf hg =
    rw (hg, hf, he, hd, hc, hb, ha, hn, count)
    (regroup first_line (counted_line (codes "workers") w) (counted_line (codes "script") (length (script_words s))) (canon s) (line (codes "history" ∷ [])) (numbered s.names 1 es) (line (stop_words stop)))
