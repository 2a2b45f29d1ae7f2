-- The first fault of the first pass is that of the first line with a fault by itself.
use Rattle.std.proofs.Common.{◌≡◌, ◌⊎◌, inl, inr, ℕ, ◌+◌, Bool, true, false, List, [], ◌∷◌, ◌++◌, length, refl, ap, sym, ◌∙◌, arith}
use Rattle.std.specs.Prelude.{Some, ◌||◌}
use Rattle.thr_text.specs.Faults.{first_of}
use Rattle.thr_text.specs.Lexing.{words_of}
use Rattle.thr_text.specs.Blocks.{at_line}
use Rattle.thr_text.specs.Reading.{has_words, scan_faults}
use Rattle.thr_forms.specs.FirstFaults.{faults_of_line, seen_below, AreFaultless, IsFirstFaulty, IsWordless}

abbrev seen_at : Bool → List ℕ → Bool
seen_at seen l = seen || has_words (words_of l)

scan_step : (at : ℕ) (seen : Bool) (l : List ℕ) (ls : List (List ℕ)) → scan_faults at seen (l ∷ ls) ≡ at_line at (faults_of_line seen l) ++ scan_faults (at + 1) (seen_at seen l) ls
unfolding scan_faults
scan_step at seen l ls = refl

faulty_first : (at : ℕ) (seen : Bool) (l : List ℕ) (ls : List (List ℕ)) (n : ℕ) (more : List ℕ) → faults_of_line seen l ≡ n ∷ more → first_of (scan_faults at seen (l ∷ ls)) ≡ Some (at, n)
faulty_first at seen l ls n more e = rw (scan_step at seen l ls, e) refl

faultless_first : (at : ℕ) (seen : Bool) (l : List ℕ) (ls : List (List ℕ)) → faults_of_line seen l ≡ [] → scan_faults at seen (l ∷ ls) ≡ scan_faults (at + 1) (seen_at seen l) ls
faultless_first at seen l ls e = rw (scan_step at seen l ls, e) refl

number_is : (a b n : ℕ) → a ≡ b → (let o : ℕ × ℕ = (a, n) in o) ≡ (b, n)
number_is a b n e = ap (λ (x : ℕ). (let o : ℕ × ℕ = (x, n) in o)) e

comes_at_line : (at : ℕ) (seen : Bool) (above : List (List ℕ)) (l : List ℕ) (below : List (List ℕ)) (n : ℕ) (more : List ℕ) → AreFaultless seen above → faults_of_line (seen_below seen above) l ≡ n ∷ more
    → first_of (scan_faults at seen (above ++ l ∷ below)) ≡ Some (at + length above, n)
comes_at_line at seen [] l below n more none e = faulty_first at seen l below n more e ∙ ap Some (number_is at (at + 0) n (omega arith))
comes_at_line at seen (x ∷ above) l below n more none e =
    ap first_of (faultless_first at seen x (above ++ l ∷ below) none.0) ∙ comes_at_line (at + 1) (seen_at seen x) above l below n more none.1 e
    ∙ ap Some (number_is (at + 1 + length above) (at + length (x ∷ above)) n (omega arith))

same_fault : (a : ℕ) (f : ℕ × ℕ) → f.0 ≡ a → (let o : ℕ × ℕ = (a, f.1) in o) ≡ f
same_fault a f e = ap (λ (x : ℕ). (let o : ℕ × ℕ = (x, f.1) in o)) (sym e)

pub first_faulty_comes : (at : ℕ) (seen : Bool) (lines : List (List ℕ)) (f : ℕ × ℕ) → IsFirstFaulty at seen lines f → first_of (scan_faults at seen lines) ≡ Some f
first_faulty_comes at seen lines f m =
    ap (λ (ls : List (List ℕ)). first_of (scan_faults at seen ls)) m.split
    ∙ comes_at_line at seen m.above m.line m.below f.1 m.greater m.faultless m.faulty
    ∙ ap Some (same_fault (at + length m.above) f m.number)

faultless_all : (at : ℕ) (seen : Bool) (lines : List (List ℕ)) → AreFaultless seen lines → scan_faults at seen lines ≡ scan_faults (at + length lines) (seen_below seen lines) []
faultless_all at seen [] none = ap (λ (x : ℕ). scan_faults x seen []) (let e : at ≡ at + 0 = omega arith in e)
faultless_all at seen (l ∷ ls) none =
    faultless_first at seen l ls none.0 ∙ faultless_all (at + 1) (seen_at seen l) ls none.1
    ∙ ap (λ (x : ℕ). scan_faults x (seen_below seen (l ∷ ls)) []) (let e : at + 1 + length ls ≡ at + length (l ∷ ls) = omega arith in e)

none_seen : (at : ℕ) → first_of (scan_faults at false []) ≡ Some (at, 5)
unfolding scan_faults
none_seen at = refl

five_is : (a : ℕ) (f : ℕ × ℕ) → f.0 ≡ a → f.1 ≡ 5 → (let o : ℕ × ℕ = (a, 5) in o) ≡ f
five_is a f e five = ap (λ (x : ℕ). (let o : ℕ × ℕ = (a, x) in o)) (sym five) ∙ same_fault a f e

pub wordless_comes : (at : ℕ) (seen : Bool) (lines : List (List ℕ)) (f : ℕ × ℕ) → IsWordless at seen lines f → first_of (scan_faults at seen lines) ≡ Some f
wordless_comes at seen lines f w =
    ap first_of (faultless_all at seen lines w.faultless) ∙ ap (λ (b : Bool). first_of (scan_faults (at + length lines) b [])) w.unseen ∙ none_seen (at + length lines)
    ∙ ap Some (five_is (at + length lines) f w.number w.five)

-- ---- the other way

abbrev Told : ℕ → Bool → List (List ℕ) → ℕ × ℕ → Type 0
Told at seen lines f = IsFirstFaulty at seen lines f ⊎ IsWordless at seen lines f

some_is : (a b : ℕ × ℕ) → Some a ≡ Some b → a ≡ b
some_is a b e = cc

wordless : (at : ℕ) (f : ℕ × ℕ) → (let o : ℕ × ℕ = (at, 5) in o) ≡ f → IsWordless at false [] f
wordless at f is = record { faultless = tt; unseen = refl; number = ap (λ (x : ℕ × ℕ). x.0) (sym is) ∙ (let e : at ≡ at + 0 = omega arith in e); five = ap (λ (x : ℕ × ℕ). x.1) (sym is) }

end_told : (at : ℕ) (seen : Bool) (f : ℕ × ℕ) → first_of (scan_faults at seen []) ≡ Some f → Told at seen [] f
unfolding scan_faults
end_told at true f e = absurd (cc)
end_told at false f e = inr (wordless at f (some_is (at, 5) f e))

line_told : (at : ℕ) (seen : Bool) (l : List ℕ) (ls : List (List ℕ)) (n : ℕ) (more : List ℕ) (f : ℕ × ℕ) → faults_of_line seen l ≡ n ∷ more → (let o : ℕ × ℕ = (at, n) in o) ≡ f → IsFirstFaulty at seen (l ∷ ls) f
line_told at seen l ls n more f e is = record {
  above = [];
  line = l;
  below = ls;
  greater = more;
  split = refl;
  faultless = tt;
  faulty = e ∙ ap (λ (x : ℕ × ℕ). x.1 ∷ more) is;
  number = ap (λ (x : ℕ × ℕ). x.0) (sym is) ∙ (let e : at ≡ at + 0 = omega arith in e);
}

later_told : (at : ℕ) (seen : Bool) (l : List ℕ) (ls : List (List ℕ)) (f : ℕ × ℕ) → faults_of_line seen l ≡ [] → Told (at + 1) (seen_at seen l) ls f → Told at seen (l ∷ ls) f
later_told at seen l ls f e (inl m) = inl (record {
  above = l ∷ m.above;
  line = m.line;
  below = m.below;
  greater = m.greater;
  split = ap (λ (x : List (List ℕ)). l ∷ x) m.split;
  faultless = (e, m.faultless);
  faulty = m.faulty;
  number = omega (arith, m.number);
})
later_told at seen l ls f e (inr w) = inr (record { faultless = (e, w.faultless); unseen = w.unseen; number = omega (arith, w.number); five = w.five })

by_faults : (at : ℕ) (seen : Bool) (l : List ℕ) (ls : List (List ℕ)) (f : ℕ × ℕ) (ms : List ℕ) → faults_of_line seen l ≡ ms → first_of (scan_faults at seen (l ∷ ls)) ≡ Some f
    → (first_of (scan_faults (at + 1) (seen_at seen l) ls) ≡ Some f → Told (at + 1) (seen_at seen l) ls f) → Told at seen (l ∷ ls) f
by_faults at seen l ls f [] is e below = later_told at seen l ls f is (below (ap first_of (sym (faultless_first at seen l ls is)) ∙ e))
by_faults at seen l ls f (n ∷ more) is e below = inl (line_told at seen l ls n more f is (some_is (at, n) f (sym (faulty_first at seen l ls n more is) ∙ e)))

pub fault_told : (at : ℕ) (seen : Bool) (lines : List (List ℕ)) (f : ℕ × ℕ) → first_of (scan_faults at seen lines) ≡ Some f → Told at seen lines f
fault_told at seen [] f e = end_told at seen f e
fault_told at seen (l ∷ ls) f e = by_faults at seen l ls f (faults_of_line seen l) refl e (fault_told (at + 1) (seen_at seen l) ls f)
