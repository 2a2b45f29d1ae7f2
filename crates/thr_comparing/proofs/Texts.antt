-- The lines of a journal at their places, and their texts.
use Rattle.std.proofs.Common.{◌≡◌, ℕ, zero, suc, ◌+◌, ◌-◌, ◌<◌, ◌≤◌, List, [], ◌∷◌, length, get_or, slice_get, unwrap_or, Option, Some, refl, sym, ◌∙◌, ap, arith}
use Rattle.std.specs.Prelude.{IfOk, Result, Ok, Err}
use Rattle.thr_values.specs.declared.event.Stop.{Stop}
use Rattle.thr_values.specs.declared.number.NoMemory.{NoMemory}
use Rattle.thr_text.specs.Journals.{Names}
use Rattle.thr_comparing.specs.Verdicts.{line_text}
use Rattle.thr_values.specs.declared.history.Entry.{Entry}
use Rattle.thr_verdict.specs.Verdicts.{JournalLine, Numbered, Stopped, lines_below, line_at}

-- ---- the line at a place

below_at : (n k : ℕ) (entries : List Entry) (stop : Stop) (e : Entry) → k < length entries → e ≡ get_or entries k e → slice_get (lines_below n entries stop) k ≡ Some (Numbered (n + k) e)
unfolding lines_below
below_at n k [] stop e low is = absurd (omega (arith, low))
below_at n zero (x ∷ entries) stop e low is = (λ i. Some (Numbered (first i) (sym is i)))
  where
    first : n ≡ n + 0
    first = omega arith
below_at n (suc k) (x ∷ entries) stop e low is = below_at (n + 1) k entries stop e (omega (arith, low)) is ∙ ap (λ m. Some (Numbered m e)) (next n k)
  where
    next : (n k : ℕ) → n + 1 + k ≡ n + suc k
    next n k = omega arith

below_end : (n k : ℕ) (entries : List Entry) (stop : Stop) → length entries ≤ k → unwrap_or (slice_get (lines_below n entries stop) k) (Stopped stop) ≡ Stopped stop
unfolding lines_below
below_end n zero [] stop high = refl
below_end n (suc k) [] stop high = refl
below_end n zero (x ∷ entries) stop high = absurd (omega (arith, high))
below_end n (suc k) (x ∷ entries) stop high = below_end (n + 1) k entries stop (omega (arith, high))

-- The line at a place.
numbered_at : (entries : List Entry) (stop : Stop) (place : ℕ) (e : Entry) → 1 ≤ place → place - 1 < length entries → e ≡ get_or entries (place - 1) e → line_at entries stop place ≡ Numbered place e
numbered_at entries stop place e some low is =
    let same : 1 + (place - 1) ≡ place = omega arith in
    ap (λ (o : Option JournalLine). unwrap_or o (Stopped stop)) (below_at 1 (place - 1) entries stop e low is) ∙ ap (λ n. Numbered n e) same

stopped_at : (entries : List Entry) (stop : Stop) (place : ℕ) → length entries ≤ place - 1 → line_at entries stop place ≡ Stopped stop
stopped_at entries stop place high = below_end 1 (place - 1) entries stop high

-- The text of a line is that of one that is equal to it.
text_told : (names by : Names) (l m : JournalLine) (r : Result (List ℕ) NoMemory) → by ≡ names → m ≡ l → IfOk r (λ t. t ≡ line_text by m) → IfOk r (λ t. t ≡ line_text names l)
text_told names by l m (Ok t) e f h = h ∙ (λ i. line_text (e i) (f i))
text_told names by l m (Err x) e f h = tt

-- The text of the line of a history that stands at a place.
pub entry_told : (names by : Names) (entries es : List Entry) (stop : Stop) (place : ℕ) (e : Entry) (r : Result (List ℕ) NoMemory) → by ≡ names → es ≡ entries → 1 ≤ place → place - 1 < length es → e ≡ get_or es (place - 1) e
    → IfOk r (λ t. t ≡ line_text by (Numbered place e)) → IfOk r (λ t. t ≡ line_text names (line_at entries stop place))
entry_told names by entries es stop place e r f g some low is h =
    text_told names by (line_at entries stop place) (Numbered place e) r f (sym (numbered_at es stop place e some low is) ∙ ap (λ xs. line_at xs stop place) g) h

-- The text of the stop line, which stands behind the last line of the history.
pub stop_told : (names by : Names) (entries es : List Entry) (stop : Stop) (place : ℕ) (r : Result (List ℕ) NoMemory) → by ≡ names → es ≡ entries → length es ≤ place - 1
    → IfOk r (λ t. t ≡ line_text by (Stopped stop)) → IfOk r (λ t. t ≡ line_text names (line_at entries stop place))
stop_told names by entries es stop place r f g high h =
    text_told names by (line_at entries stop place) (Stopped stop) r f (sym (stopped_at es stop place high) ∙ ap (λ xs. line_at xs stop place) g) h
