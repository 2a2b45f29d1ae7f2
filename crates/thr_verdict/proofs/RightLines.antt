-- Where no place is wrong the journal's text is that of a legal history.
use Rattle.std.proofs.Common.{◌≡◌, ℕ, zero, suc, ◌+◌, ◌<◌, ◌≤◌, ◌⊎◌, inl, inr, Bool, true, false, ◌==◌, if◌then◌else◌, List, [], ◌∷◌, ◌++◌, length, Option, Some, None, Result, Ok, Err, option_map, option_and_then, refl, sym, ◌∙◌, ap, ap₂, subst, arith, append_assoc, append-nil, length-append, decimal}
use Rattle.std.specs.List.{join_with_byte}
use Rattle.std.proofs.lemmas.List.{append_cancel_left}
use Rattle.std.proofs.lemmas.Bool.Decides.{nat_tests}
use Rattle.std.proofs.lemmas.Slice.Eq.{bytes_eq-Decides}
use Rattle.thr_values.specs.declared.event.Event.{Event}
use Rattle.thr_values.specs.declared.event.Stop.{Stop}
use Rattle.thr_values.specs.declared.event.Stop.TheVariants as stops
use Rattle.thr_values.specs.declared.history.Who.{Who}
use Rattle.thr_values.specs.declared.history.Entry.{Entry}
use Rattle.thr_syntax.specs.declared.tree.Script.{Script}
use Rattle.thr_syntax.specs.declared.journal.Journal.{Journal}
use Rattle.thr_syntax.specs.Canon.{line}
use Rattle.thr_text.specs.Journals as journals
use Rattle.thr_text.specs.Journals.{numbered_line, numbered, who_word, what_words, text}
use Rattle.thr_parts.specs.Rows.{thread}
use Rattle.thr_parts.proofs.EntryLaws.{both_true}
use Rattle.thr_model.specs.States.{State}
use Rattle.thr_model.specs.Turns.{Made}
use Rattle.thr_model.specs.Events.{made_by}
use Rattle.thr_model.specs.Histories.{Execution, at_opening, History, opened, then_event, StopsWith, Legal, stop_at}
use Rattle.thr_model.proofs.Plays.{execution-legal}
use Rattle.thr_model.proofs.FirstLines.{made_names}
use Rattle.thr_verdict.specs.Verdicts.{differs_at}
use Rattle.thr_verdict.specs.FirstWrong.{Wrong, event_of, made_at, is_same_line, lines_after, is_same_stop, goes_on, after_event, at_boundary, wrong_in, wrong_of, first_wrong}
use Rattle.thr_verdict.proofs.LegalLines.{some_line}

-- ---- lines that are the same

-- The two lists have the same lines of a journal.
data AreSame (names : journals.Names) : List Entry → List Entry → Type 0 where
  neither : AreSame names [] []
  with_more : {a b : Entry} {ls ms : List Entry} → is_same_line names a b ≡ true → AreSame names ls ms → AreSame names (a ∷ ls) (b ∷ ms)

same_append : {names : journals.Names} {as' bs cs ds : List Entry} → AreSame names as' bs → AreSame names cs ds → AreSame names (as' ++ cs) (bs ++ ds)
same_append neither i = i
same_append (with_more e h) i = with_more e (same_append h i)

behind_number : (number word : List ℕ) (words : List (List ℕ)) → line (number ∷ word ∷ words) ≡ number ++ (32 ∷ (join_with_byte 32 (word ∷ words) ++ 10 ∷ []))
behind_number number word words = append_assoc number (32 ∷ join_with_byte 32 (word ∷ words)) (10 ∷ [])

-- Lines that are the same with one number are so with each.
same_numbered : (names : journals.Names) (k : ℕ) (a b : Entry) → is_same_line names a b ≡ true → numbered_line names k a ≡ numbered_line names k b
same_numbered names k a b h =
    let zeroth : numbered_line names 0 a ≡ numbered_line names 0 b = (bytes_eq-Decides (numbered_line names 0 a) (numbered_line names 0 b)).0 h in
    let behind = append_cancel_left (decimal 0) _ _
    (sym (behind_number (decimal 0) (who_word a.who) (what_words names a.what)) ∙ zeroth ∙ behind_number (decimal 0) (who_word b.who) (what_words names b.what)) in
    behind_number (decimal k) (who_word a.who) (what_words names a.what) ∙ ap (λ ls. decimal k ++ ls) behind ∙ sym (behind_number (decimal k) (who_word b.who) (what_words names b.what))

same_lines : {names : journals.Names} {ls ms : List Entry} → AreSame names ls ms → (k : ℕ) → numbered names k ls ≡ numbered names k ms
unfolding numbered
same_lines neither k = refl
same_lines {names} (with_more {a = a} {b = b} e h) k = ap₂ (λ l more. l ++ more) (same_numbered names k a b e) (same_lines h (k + 1))

same_text : (s : Script) (n : ℕ) (ls ms : List Entry) (stop : Stop) → AreSame s.names ls ms → text s n ls stop ≡ text s n ms stop
unfolding text
same_text s n ls ms stop h = rw (same_lines h 1) refl

-- ---- what the tests say

stop_is : (a b : Stop) → is_same_stop a b ≡ true → b ≡ a
stop_is stops.Finished stops.Finished h = refl
stop_is (stops.Deadlock n t) (stops.Deadlock m u) h =
    let x = both_true (n == m) (t.0 == u.0) h in
    let number : m ≡ n = grind (arith, nat_tests) in
    let first : u.0 ≡ t.0 = grind (arith, nat_tests) in
    ap₂ (λ k l. stops.Deadlock k (thread l)) number first
stop_is stops.Limit stops.Limit h = refl
stop_is stops.Memory stops.Memory h = refl
stop_is _ _ h = absurd (cc)

right_or : (b : Bool) (o : Wrong) → (if b then None else Some o) ≡ None → b ≡ true
right_or true o h = refl
right_or false o h = absurd (cc)

ok_if : (b : Bool) (r : Result (List Entry) Wrong) (o : Wrong) (left : List Entry) → (if b then r else Err o) ≡ Ok left → (b ≡ true) × (r ≡ Ok left)
ok_if true r o left h = (refl, h)
ok_if false r o left h = absurd (cc)

lines_ok : (names : journals.Names) (count : ℕ) (lines rest left : List Entry) → lines_after names count lines rest ≡ Ok left → (same : List Entry) × AreSame names lines same × (rest ≡ same ++ left)
lines_ok names count [] rest left h = ([], neither, cc)
lines_ok names count (l ∷ ls) [] left h = absurd (cc)
lines_ok names count (l ∷ ls) (e ∷ rest) left h =
    let x = ok_if (is_same_line names l e) (lines_after names (count + 1) ls rest) _ left h in
    let y = lines_ok names (count + 1) ls rest left x.1 in
    (e ∷ y.0, with_more x.0 y.1, ap (λ es. e ∷ es) y.2)

-- ---- the first event of what is left

-- An event is legal there, its lines stand first, and nothing is wrong behind them.
record GoesOn (more : ℕ → State → List Entry → Option Wrong) (s : Script) (n : ℕ) (count : ℕ) (st : State) (rest : List Entry) : Type 0 where
  by : Event
  made : Made
  left : List Entry
  is : made_by s n st by ≡ Some made
  stands : lines_after s.names count made.lines rest ≡ Ok left
  right : more (count + length made.lines) made.state left ≡ None

event_at : (s : Script) (n : ℕ) (st : State) (o : Option Event) (made : Made) → option_and_then (made_by s n st) o ≡ Some made → (e : Event) × (made_by s n st e ≡ Some made)
event_at s n st None made h = absurd (cc)
event_at s n st (Some e) made h = (e, h)

lines_go_on : (more : ℕ → State → List Entry → Option Wrong) (s : Script) (n : ℕ) (count : ℕ) (st : State) (rest : List Entry) (w : Who) (made : Made) (r : Result (List Entry) Wrong)
    → made_at s n st w ≡ Some made → lines_after s.names count made.lines rest ≡ r → goes_on more count made r ≡ None → GoesOn more s n count st rest
lines_go_on more s n count st rest w made (Err o) is stands h = absurd (cc)
lines_go_on more s n count st rest w made (Ok left) is stands h =
    let x = event_at s n st (event_of st w) made is in record { by = x.0; made = made; left = left; is = x.1; stands = stands; right = h }

event_goes_on : (more : ℕ → State → List Entry → Option Wrong) (s : Script) (n : ℕ) (count : ℕ) (st : State) (rest : List Entry) (w : Who) (o : Option Made)
    → made_at s n st w ≡ o → after_event more s.names count rest o ≡ None → GoesOn more s n count st rest
event_goes_on more s n count st rest w None is h = absurd (cc)
event_goes_on more s n count st rest w (Some made) is h = lines_go_on more s n count st rest w made (lines_after s.names count made.lines rest) is refl h

-- Where nothing is wrong the history ends as it may, or an event is next.
boundary_is : (more : ℕ → State → List Entry → Option Wrong) (s : Script) (n : ℕ) (stop : Stop) (holds : Option Stop) (count : ℕ) (st : State) (rest : List Entry)
    → at_boundary more s n stop holds count st rest ≡ None → (StopsWith holds stop × (rest ≡ [])) ⊎ ((holds ≡ None) × GoesOn more s n count st rest)
boundary_is more s n stop (Some x) count st [] h = inl (stop_is x stop (right_or (is_same_stop x stop) _ h), refl)
boundary_is more s n stop (Some x) count st (e ∷ rest) h = absurd (cc)
boundary_is more s n stop None count st [] h = inl (stop_is stops.Memory stop (right_or (is_same_stop stops.Memory stop) _ h), refl)
boundary_is more s n stop None count st (e ∷ rest) h = inr (refl, event_goes_on more s n count st (e ∷ rest) e.who (made_at s n st e.who) refl h)

-- ---- histories

-- A legal history that begins with these lines goes on with the same lines as these.
record GoesOnLegally (s : Script) (n : ℕ) (stop : Stop) (before rest : List Entry) : Type 0 where
  behind : List Entry
  legal : Legal s n (before ++ behind) stop
  same : AreSame s.names behind rest

ends_legally : {s : Script} {n : ℕ} {x : Execution} (stop : Stop) → History s n x → (rest : List Entry)
    → StopsWith (stop_at s x.state (length x.entries)) stop → rest ≡ [] → GoesOnLegally s n stop x.entries rest
ends_legally {s} {n} {x} stop h rest ends none = record {
  behind = [];
  legal = subst (λ (es : List Entry). Legal s n es stop) (sym (append-nil x.entries)) (execution-legal s n x stop h ends);
  same = subst (λ (es : List Entry). AreSame s.names [] es) (sym none) neither;
}

event_more : (s : Script) (n : ℕ) (stop : Stop) (count : ℕ) (before lines rest left : List Entry) → lines_after s.names count lines rest ≡ Ok left → GoesOnLegally s n stop (before ++ lines) left
    → GoesOnLegally s n stop before rest
event_more s n stop count before lines rest left stands g =
    let x : (same : List Entry) × AreSame s.names lines same × (rest ≡ same ++ left) = lines_ok s.names count lines rest left stands in
    record {
      behind = lines ++ g.behind;
      legal = subst (λ (es : List Entry). Legal s n es stop) (append_assoc before lines g.behind) g.legal;
      same = subst (λ (es : List Entry). AreSame s.names (lines ++ g.behind) es) (sym x.2) (same_append x.1 g.same);
    }

same_length : {names : journals.Names} {ls ms : List Entry} → AreSame names ls ms → length ls ≡ length ms
same_length neither = refl
same_length (with_more e h) = ap suc (same_length h)

-- Less is left behind an event.
less_left : (names : journals.Names) (count k : ℕ) (lines rest left : List Entry) → lines_after names count lines rest ≡ Ok left → 1 ≤ length lines → length rest < suc k → length left < k
less_left names count k lines rest left stands some fits =
    let x : (same : List Entry) × AreSame names lines same × (rest ≡ same ++ left) = lines_ok names count lines rest left stands in
    let sum : length rest ≡ length x.0 + length left = ap length x.2 ∙ length-append x.0 left in
    let same : length lines ≡ length x.0 = same_length x.1 in
    grind (arith)

right_from : (k : ℕ) {s : Script} {n : ℕ} {x : Execution} (stop : Stop) → History s n x → (rest : List Entry)
    → length rest < k → wrong_in k s n stop (length x.entries) x.state rest ≡ None → GoesOnLegally s n stop x.entries rest
unfolding wrong_in
right_from zero stop h rest fits right = absurd (grind (arith))
right_from (suc k) {s} {n} {x} stop h rest fits right =
    elim (boundary_is (wrong_in k s n stop) s n stop (stop_at s x.state (length x.entries)) (length x.entries) x.state rest right) [
      | inl end_ ↦ ends_legally stop h rest end_.0 end_.1
      | inr on ↦
          let g = on.1 in
          let some : 1 ≤ length g.made.lines = some_line x.state.rows g.by g.made.lines (made_names s n x.state g.by g.made g.is) in
          event_more s n stop (length x.entries) x.entries g.made.lines rest g.left g.stands
          (right_from k stop (then_event h on.0 g.by g.made g.is) g.left (less_left s.names (length x.entries) k g.made.lines rest g.left g.stands some fits)
          (subst (λ count. wrong_in k s n stop count g.made.state g.left ≡ None) (sym (length-append x.entries g.made.lines)) g.right))
    ]

-- Where no place is wrong a legal history has the journal's text.
pub right_text : (s : Script) (n : ℕ) (entries : List Entry) (stop : Stop) → wrong_of s n entries stop ≡ None → (made : List Entry) × Legal s n made stop × (text s n made stop ≡ text s n entries stop)
right_text s n entries stop right =
    let start : History s n (at_opening s) = opened in
    let fits : length entries < length entries + 1 = grind (arith) in
    let g : GoesOnLegally s n stop [] entries = right_from (length entries + 1) stop start entries fits right in
    (g.behind, g.legal, same_text s n g.behind entries stop g.same)

none_mapped : {A B : Type 0} (f : A → B) (o : Option A) → option_map f o ≡ None → o ≡ None
none_mapped f None h = refl
none_mapped f (Some x) h = absurd (cc)

-- The same where no line differs.
pub journal_text : (j : Journal) → first_wrong j ≡ None → (made : List Entry) × Legal j.script j.workers made j.stop × (text j.script j.workers made j.stop ≡ text j.script j.workers j.entries j.stop)
journal_text j h =
    right_text j.script j.workers j.entries j.stop (none_mapped (λ (w : Wrong). differs_at j.script j.entries j.stop w.place w.right) (wrong_of j.script j.workers j.entries j.stop) h)
