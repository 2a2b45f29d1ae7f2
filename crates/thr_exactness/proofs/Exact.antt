-- Where no place of a journal that has its form is wrong, its history is legal.
use Rattle.std.proofs.Common.{◌≡◌, ℕ, zero, suc, ◌+◌, ◌<◌, Bool, true, false, List, [], ◌∷◌, ◌++◌, length, Option, Some, None, Result, Ok, Err, refl, sym, ◌∙◌, ap, subst, append_assoc, append-nil, length-append, arith}
use Rattle.std.specs.Prelude.{◌==◌, if◌then◌else◌}
use Rattle.std.specs.List.{list_all}
use Rattle.std.specs.Option.{option_map, option_and_then}
use Rattle.std.proofs.lemmas.Bool.{and_parts}
use Rattle.std.proofs.lemmas.Bool.Decides.{nat_tests}
use Rattle.thr_values.specs.declared.event.Event.{Event}
use Rattle.thr_values.specs.declared.event.Stop.{Stop}
use Rattle.thr_values.specs.declared.event.Stop.TheVariants as stops
use Rattle.thr_values.specs.declared.history.Entry.{Entry}
use Rattle.thr_syntax.specs.declared.tree.Script.{Script}
use Rattle.thr_syntax.specs.declared.journal.Journal.{Journal}
use Rattle.thr_text.specs.Reading.{Formed}
use Rattle.thr_model.specs.Turns.{Made}
use Rattle.thr_model.specs.Events.{made_by}
use Rattle.thr_model.specs.Histories.{Execution, at_opening, History, opened, then_event, after_event, StopsWith, Legal, stop_at}
use Rattle.thr_verdict.specs.Verdicts.{differs_at}
use Rattle.thr_verdict.specs.Verdicts as verdicts
use Rattle.thr_verdict.specs.FormedJournals.{is_formed_line}
use Rattle.thr_verdict.specs.FirstWrong as verdict
use Rattle.thr_verdict.specs.FirstWrong.{Wrong, event_of, made_at, is_same_line, lines_after, is_same_stop, goes_on, at_boundary, wrong_in, wrong_of, first_wrong, FirstWrongIsExact}
use Rattle.thr_verdict.proofs.LegalLines.{some_line, no_line_differs}
use Rattle.thr_model.proofs.FirstLines.{made_names}
use Rattle.thr_exactness.proofs.InFront.{AllInFront, event_in_front}
use Rattle.thr_exactness.proofs.SameLines.{told_line}

-- ---- stops that are the same

same_stop : (x y : Stop) → is_same_stop x y ≡ true → x ≡ y
same_stop stops.Finished stops.Finished e = refl
same_stop (stops.Deadlock n t) (stops.Deadlock m u) e =
    let x = and_parts (n == m) (t.0 == u.0) e in
    let p : n ≡ m = same n m x.0 in
    let q : t.0 ≡ u.0 = same t.0 u.0 x.1 in λ i. stops.Deadlock (p i) (record { 0 = q i })
  where
    same : (a b : ℕ) → (a == b) ≡ true → a ≡ b
    same a b e = grind (arith, nat_tests)
same_stop stops.Limit stops.Limit e = refl
same_stop stops.Memory stops.Memory e = refl
same_stop _ _ e = absurd (cc)

-- ---- the lines of an event

if_none : (b : Bool) (w : Wrong) → (let o : Option Wrong = if b then None else Some w in o) ≡ None → b ≡ true
if_none true w e = refl
if_none false w e = absurd (cc)

module _ (s : Script) (f : Formed s) where
  ok_is : (a b : List Entry) → (let r : Result (List Entry) Wrong = Ok a in r) ≡ Ok b → a ≡ b
  ok_is a b e = cc

  line_is : (b : Bool) (count : ℕ) (m e : Entry) (lines rest more : List Entry) → (b ≡ true → m ≡ e) → (lines_after s.names (count + 1) lines rest ≡ Ok more → lines ++ more ≡ rest)
      → (let r : Result (List Entry) Wrong = if b then lines_after s.names (count + 1) lines rest else Err (verdict.wrong_after count (Some (verdicts.Numbered (count + 1) m))) in r) ≡ Ok more
      → m ∷ (lines ++ more) ≡ e ∷ rest
  line_is true count m e lines rest more same behind is = λ i. same refl i ∷ behind is i
  line_is false count m e lines rest more same behind is = absurd (cc)

  -- Lines of the machine that stand in the journal are its first lines.
  lines_are : (count : ℕ) (lines rest more : List Entry) → AllInFront lines → list_all (is_formed_line s) rest ≡ true → lines_after s.names count lines rest ≡ Ok more → lines ++ more ≡ rest
  lines_are count [] rest more front h e = sym (ok_is rest more e)
  lines_are count (m ∷ lines) [] more front h e = absurd (cc)
  lines_are count (m ∷ lines) (e ∷ rest) more front h is =
      let x : (is_formed_line s e ≡ true) × (list_all (is_formed_line s) rest ≡ true) = and_parts (is_formed_line s e) (list_all (is_formed_line s) rest) h in
      line_is (is_same_line s.names m e) count m e lines rest more (λ same. told_line s f m e front.0 x.0 same) (λ told. lines_are (count + 1) lines rest more front.1 x.1 told) is

  rest_formed : (lines rest : List Entry) → list_all (is_formed_line s) (lines ++ rest) ≡ true → list_all (is_formed_line s) rest ≡ true
  rest_formed [] rest h = h
  rest_formed (l ∷ lines) rest h = rest_formed lines rest (and_parts (is_formed_line s l) (list_all (is_formed_line s) (lines ++ rest)) h).1

  -- ---- histories

  ends : (n : ℕ) (stop : Stop) (x : Execution) → History s n x → StopsWith (stop_at s x.state (length x.entries)) stop → Legal s n (x.entries ++ []) stop
  ends n stop x h holds = record {
    execution = x;
    history = h;
    lines = sym (append-nil x.entries);
    stops = subst (λ (es : List Entry). StopsWith (stop_at s x.state (length es)) stop) (sym (append-nil x.entries)) holds;
  }

  -- Nothing is wrong in what is left, so it ends the history.
  abbrev GoesOn : ℕ → ℕ → Stop → Type 0
  GoesOn k n stop = (x : Execution) (rest : List Entry) → History s n x → list_all (is_formed_line s) rest ≡ true → wrong_in k s n stop (length x.entries) x.state rest ≡ None
      → length rest < k → Legal s n (x.entries ++ rest) stop

  event_goes : (k n : ℕ) (stop : Stop) → GoesOn k n stop → (x : Execution) (rest : List Entry) → History s n x → list_all (is_formed_line s) rest ≡ true → stop_at s x.state (length x.entries) ≡ None
      → length rest < suc k → (e : Event) (made : Made) → made_by s n x.state e ≡ Some made → 0 < length made.lines
      → (after : Result (List Entry) Wrong) → lines_after s.names (length x.entries) made.lines rest ≡ after
      → goes_on (wrong_in k s n stop) (length x.entries) made after ≡ None → Legal s n (x.entries ++ rest) stop
  event_goes k n stop more x rest h formed open_ few e made is some (Err w) told none = absurd (cc)
  event_goes k n stop more x rest h formed open_ few e made is some (Ok left) told none =
      let lines : made.lines ++ left ≡ rest = lines_are (length x.entries) made.lines rest left (event_in_front s n x.state e made is) formed told in
      let y : Execution = after_event x e made in
      let whole : y.entries ++ left ≡ x.entries ++ rest = append_assoc x.entries made.lines left ∙ ap (λ (es : List Entry). x.entries ++ es) lines in
      let left_formed : list_all (is_formed_line s) left ≡ true = rest_formed made.lines left (ap (list_all (is_formed_line s)) lines ∙ formed) in
      let count : length y.entries ≡ length x.entries + length made.lines = length-append x.entries made.lines in
      let sum : length made.lines + length left ≡ length rest = sym (length-append made.lines left) ∙ ap length lines in
      let none_left : wrong_in k s n stop (length y.entries) made.state left ≡ None = ap (λ c. wrong_in k s n stop c made.state left) count ∙ none in
      subst (λ (es : List Entry). Legal s n es stop) whole (more y left (then_event h open_ e made is) left_formed none_left (omega (arith, sum, some, few)))

  made_goes : (k n : ℕ) (stop : Stop) → GoesOn k n stop → (x : Execution) (e : Entry) (rest : List Entry) → History s n x → list_all (is_formed_line s) (e ∷ rest) ≡ true
      → stop_at s x.state (length x.entries) ≡ None → length (e ∷ rest) < suc k → (v : Option Event) (made : Option Made) → option_and_then (made_by s n x.state) v ≡ made
      → verdict.after_event (wrong_in k s n stop) s.names (length x.entries) (e ∷ rest) made ≡ None → Legal s n (x.entries ++ (e ∷ rest)) stop
  made_goes k n stop more x e rest h formed open_ few v None is none = absurd (cc)
  made_goes k n stop more x e rest h formed open_ few None (Some made) is none = absurd (cc)
  made_goes k n stop more x e rest h formed open_ few (Some v) (Some made) is none =
      event_goes k n stop more x (e ∷ rest) h formed open_ few v made is (some_line x.state.rows v made.lines (made_names s n x.state v made is))
      (lines_after s.names (length x.entries) made.lines (e ∷ rest)) refl none

  boundary_goes : (k n : ℕ) (stop : Stop) → GoesOn k n stop → (x : Execution) (rest : List Entry) → History s n x → list_all (is_formed_line s) rest ≡ true → length rest < suc k
      → (holds : Option Stop) → stop_at s x.state (length x.entries) ≡ holds → at_boundary (wrong_in k s n stop) s n stop holds (length x.entries) x.state rest ≡ None → Legal s n (x.entries ++ rest) stop
  boundary_goes k n stop more x [] h formed few (Some holds) is none =
      let same : holds ≡ stop = same_stop holds stop (if_none (is_same_stop holds stop) _ none) in ends n stop x h (subst (λ (o : Option Stop). StopsWith o stop) (sym is) (sym same))
  boundary_goes k n stop more x (e ∷ rest) h formed few (Some holds) is none = absurd (cc)
  boundary_goes k n stop more x [] h formed few None is none =
      let same : stops.Memory ≡ stop = same_stop stops.Memory stop (if_none (is_same_stop stops.Memory stop) _ none) in ends n stop x h (subst (λ (o : Option Stop). StopsWith o stop) (sym is) (sym same))
  boundary_goes k n stop more x (e ∷ rest) h formed few None is none = made_goes k n stop more x e rest h formed is few (event_of x.state e.who) (made_at s n x.state e.who) refl none

  goes : (k n : ℕ) (stop : Stop) → GoesOn k n stop
  unfolding wrong_in
  goes zero n stop x rest h formed none few = absurd (omega arith)
  goes (suc k) n stop x rest h formed none few = boundary_goes k n stop (goes k n stop) x rest h formed few (stop_at s x.state (length x.entries)) refl none

  pub legal_where_none : (n : ℕ) (entries : List Entry) (stop : Stop) → list_all (is_formed_line s) entries ≡ true → wrong_of s n entries stop ≡ None → Legal s n entries stop
  legal_where_none n entries stop formed none = goes (length entries + 1) n stop (at_opening s) entries opened formed none (omega arith)

-- ---- journals

no_wrong : {A : Type 0} (g : Wrong → A) (o : Option Wrong) → option_map g o ≡ None → o ≡ None
no_wrong g None e = refl
no_wrong g (Some w) e = absurd (cc)

pub exact : (j : Journal) → FirstWrongIsExact j
exact j formed = (
  (λ none. legal_where_none j.script formed.script j.workers j.entries j.stop formed.lines
      (no_wrong (λ (w : Wrong). differs_at j.script j.entries j.stop w.place w.right) (wrong_of j.script j.workers j.entries j.stop) none)),
  no_line_differs j,
)
