-- A history is judged and read line by line.
use Rattle.std.proofs.Common.{◌≡◌, ℕ, ◌+◌, ◌<◌, ◌≤◌, Bool, true, false, List, [], ◌∷◌, ◌++◌, length, Option, Some, None, refl, sym, ap, subst, ◌∙◌, append_assoc, append-nil, arith}
use Rattle.std.specs.Prelude.{◌==◌, not}
use Rattle.std.specs.Option.{option_map}
use Rattle.thr_values.specs.declared.history.Entry.{Entry}
use Rattle.thr_values.specs.declared.event.Stop.{Stop}
use Rattle.thr_text.specs.Faults.{first_of}
use Rattle.thr_journals.specs.declared.fault.JournalFault.{JournalFault}
use Rattle.thr_journals.specs.declared.fault.JournalFault.TheVariants.{Refused, NoMemory}
use Rattle.thr_journals.specs.Numbers.{number_of}
use Rattle.thr_journals.specs.Fields.{Names}
use Rattle.thr_journals.specs.Lines.{Below, Told, Stopped, below}
use Rattle.thr_journals.specs.Faults.{Fault, fault_if, parts_of, end_faults, tail_fault, history_faults}
use Rattle.thr_journals.specs.Reading.{History, with_entry, history_in}
use Rattle.thr_journals.specs.Refusals.{IsFirst}
use Rattle.thr_journal_reading.specs.Judging.{line_faults}
use Rattle.thr_journal_reading.proofs.CutLaws.{some_part}

first_more : (xs ys : List Fault) (f : Fault) → first_of xs ≡ Some f → first_of (xs ++ ys) ≡ Some f
first_more [] ys f e = absurd cc
first_more (x ∷ xs) ys f e = e

pub is_first_more : (e : JournalFault) (xs ys : List Fault) → IsFirst e xs → IsFirst e (xs ++ ys)
is_first_more (Refused p) xs ys h = first_more xs ys (p.line, p.number) h
is_first_more NoMemory xs ys h = tt

-- ---- a line of a history

pub formless : (names : Names) (at number : ℕ) (l p : List ℕ) (parts : List (List ℕ)) → below names l ≡ None → history_faults names at number (l ∷ p ∷ parts) ≡ (at, 4) ∷ []
unfolding history_faults
formless names at number l p parts e = rw e refl

pub stopped : (names : Names) (at number : ℕ) (l p : List ℕ) (parts : List (List ℕ)) (stop : Stop) → below names l ≡ Some (Stopped stop)
    → history_faults names at number (l ∷ p ∷ parts) ≡ end_faults (at + 1) (p ∷ parts)
unfolding history_faults
stopped names at number l p parts stop e = rw e refl

pub told : (names : Names) (at number : ℕ) (l p : List ℕ) (parts : List (List ℕ)) (text : List ℕ) (entry : Entry) → below names l ≡ Some (Told text entry)
    → history_faults names at number (l ∷ p ∷ parts) ≡ fault_if (not (number_of text == number)) at 5 ++ history_faults names (at + 1) (number + 1) (p ∷ parts)
unfolding history_faults
told names at number l p parts text entry e = rw e refl

no_first : (f : JournalFault) (fs : List Fault) → (o : Option Below) → o ≡ o → IsFirst f [] → IsFirst f fs
no_first (Refused p) fs o e h = absurd cc
no_first NoMemory fs o e h = tt

stops_by : (names : Names) (at number : ℕ) (l p : List ℕ) (parts : List (List ℕ)) (f : JournalFault) (o : Option Below) → below names l ≡ o → IsFirst f (line_faults at number o)
    → IsFirst f (history_faults names at number (l ∷ p ∷ parts))
stops_by names at number l p parts f None e h = subst (IsFirst f) (sym (formless names at number l p parts e)) h
stops_by names at number l p parts f (Some (Stopped stop)) e h = no_first f (history_faults names at number (l ∷ p ∷ parts)) None refl h
stops_by names at number l p parts f (Some (Told text entry)) e h =
    subst (IsFirst f) (sym (told names at number l p parts text entry e)) (is_first_more f (fault_if (not (number_of text == number)) at 5) (history_faults names (at + 1) (number + 1) (p ∷ parts)) h)

-- The parts of a text are a line and what follows it.
split_more : (names : Names) (at number : ℕ) (l next : List ℕ) (all more others : List (List ℕ)) (w : List Fault) → all ≡ l ∷ more → more ≡ next ∷ others
    → history_faults names at number all ≡ w → history_faults names at number (l ∷ next ∷ others) ≡ w
split_more names at number l next all more others w whole some so_far = sym (ap (history_faults names at number) (whole ∙ ap (λ (ls : List (List ℕ)). l ∷ ls) some)) ∙ so_far

pub stops_by_line : (names : Names) (at number : ℕ) (l next : List ℕ) (all more others : List (List ℕ)) (f : JournalFault) (w : List Fault) → all ≡ l ∷ more → more ≡ next ∷ others
    → IsFirst f (line_faults at number (below names l)) → history_faults names at number all ≡ w → IsFirst f w
stops_by_line names at number l next all more others f w whole some h so_far =
    subst (IsFirst f) (split_more names at number l next all more others w whole some so_far) (stops_by names at number l next others f (below names l) refl h)

pub stops_by_end : (names : Names) (at number : ℕ) (l next : List ℕ) (all more others : List (List ℕ)) (stop : Stop) (f : JournalFault) (w : List Fault) → all ≡ l ∷ more → more ≡ next ∷ others
    → below names l ≡ Some (Stopped stop) → IsFirst f (end_faults (at + 1) more) → history_faults names at number all ≡ w → IsFirst f w
stops_by_end names at number l next all more others stop f w whole some e h so_far =
    subst (IsFirst f) (sym (stopped names at number l next others stop e) ∙ split_more names at number l next all more others w whole some so_far) (subst (λ (ls : List (List ℕ)). IsFirst f (end_faults (at + 1) ls)) some h)

pub ends_there : (names : Names) (at number : ℕ) (l next : List ℕ) (all more others : List (List ℕ)) (stop : Stop) (w : List Fault) → all ≡ l ∷ more → more ≡ next ∷ others
    → below names l ≡ Some (Stopped stop) → end_faults (at + 1) more ≡ [] → history_faults names at number all ≡ w → w ≡ []
ends_there names at number l next all more others stop w whole some e none so_far =
    sym (split_more names at number l next all more others w whole some so_far) ∙ stopped names at number l next others stop e ∙ ap (end_faults (at + 1)) (sym some) ∙ none

pub goes_on : (names : Names) (at number : ℕ) (l next text : List ℕ) (entry : Entry) (all more others : List (List ℕ)) (w : List Fault) → all ≡ l ∷ more → more ≡ next ∷ others
    → below names l ≡ Some (Told text entry) → (number_of text == number) ≡ true → history_faults names at number all ≡ w → history_faults names (at + 1) (number + 1) more ≡ w
goes_on names at number l next text entry all more others w whole some e right so_far =
    ap (history_faults names (at + 1) (number + 1)) some
    ∙ right_number (history_faults names (at + 1) (number + 1) (next ∷ others)) (number_of text == number) at right
    ∙ sym (told names at number l next others text entry e) ∙ split_more names at number l next all more others w whole some so_far
  where
    right_number : (fs : List Fault) (b : Bool) (at : ℕ) → b ≡ true → fs ≡ fault_if (not b) at 5 ++ fs
    right_number fs true at e = refl
    right_number fs false at e = absurd cc

pub cut_short : (names : Names) (at number : ℕ) (tail : List ℕ) (all : List (List ℕ)) (f : JournalFault) (w : List Fault) → all ≡ tail ∷ [] → IsFirst f (tail_fault tail at ∷ [])
    → history_faults names at number all ≡ w → IsFirst f w
unfolding history_faults
cut_short names at number tail all f w whole h so_far = subst (IsFirst f) (sym (ap (history_faults names at number) whole) ∙ so_far) h

-- ---- behind the stop line

pub more_behind : (at : ℕ) (parts : List (List ℕ)) (l text : List ℕ) → parts ≡ l ∷ parts_of text → first_of (end_faults at parts) ≡ Some (at, 6)
more_behind at parts l text e = let part = some_part text in ap (λ (ls : List (List ℕ)). first_of (end_faults at ls)) (e ∙ ap (λ (ls : List (List ℕ)). l ∷ ls) part.2)

-- ---- what is read

-- These lines, and then the history.
abbrev pub after : List Entry → History → History
after entries h = (entries ++ h.0, h.1)

one_more : (entries more : List Entry) (entry : Entry) (o : Option History) → more ≡ entries ++ entry ∷ [] → option_map (after entries) (option_map (with_entry entry) o) ≡ option_map (after more) o
one_more entries more entry None e = refl
one_more entries more entry (Some h) e = ap (λ (es : List Entry). Some (let x : History = (es, h.1) in x)) (sym (append_assoc entries (entry ∷ []) h.0) ∙ ap (λ (es : List Entry). es ++ h.0) (sym e))

pub no_line : (names : Names) (x : History) → history_in names [] ≡ Some x → ⊥
unfolding history_in
no_line names x e = cc

pub told_read : (names : Names) (l text : List ℕ) (entry : Entry) (parts : List (List ℕ)) → below names l ≡ Some (Told text entry) → history_in names (l ∷ parts) ≡ option_map (with_entry entry) (history_in names parts)
unfolding history_in
told_read names l text entry parts e = rw e refl

pub stop_read : (names : Names) (l : List ℕ) (stop : Stop) (parts : List (List ℕ)) → below names l ≡ Some (Stopped stop) → history_in names (l ∷ parts) ≡ Some ([], stop)
unfolding history_in
stop_read names l stop parts e = rw e refl

pub reads_on : (names : Names) (l text : List ℕ) (entry : Entry) (all parts : List (List ℕ)) (entries more : List Entry) (w : Option History) → all ≡ l ∷ parts
    → below names l ≡ Some (Told text entry) → more ≡ entries ++ entry ∷ [] → option_map (after entries) (history_in names all) ≡ w → option_map (after more) (history_in names parts) ≡ w
reads_on names l text entry all parts entries more w whole e pushed so_far =
    sym (one_more entries more entry (history_in names parts) pushed) ∙ ap (option_map (after entries)) (sym (ap (history_in names) whole ∙ told_read names l text entry parts e)) ∙ so_far

pub reads_stop : (names : Names) (l : List ℕ) (stop : Stop) (all parts : List (List ℕ)) (entries : List Entry) (w : Option History) → all ≡ l ∷ parts
    → below names l ≡ Some (Stopped stop) → option_map (after entries) (history_in names all) ≡ w → w ≡ Some (entries, stop)
reads_stop names l stop all parts entries w whole e so_far =
    sym so_far ∙ ap (option_map (after entries)) (ap (history_in names) whole ∙ stop_read names l stop parts e) ∙ ap (λ (es : List Entry). Some (let x : History = (es, stop) in x)) (append-nil entries)

pub reads_first : (o : Option History) → option_map (after []) o ≡ o
reads_first None = refl
reads_first (Some h) = refl
