-- The texts of histories are those that are read.
use Rattle.std.proofs.Common.{◌≡◌, ℕ, ◌+◌, ◌<◌, ◌^◌, Bool, true, false, List, [], ◌∷◌, ◌++◌, length, Option, Some, None, refl, sym, ap, subst, ◌∙◌, append_assoc, arith}
use Rattle.std.specs.Prelude.{◌==◌, ◌&&◌, not}
use Rattle.std.specs.List.{join_with_byte, list_all}
use Rattle.std.specs.Option.{option_map}
use Rattle.std.specs.Fmt.{decimal}
use Rattle.std.proofs.lemmas.Bool.Decides.{nat_tests}
use Rattle.thr_values.specs.declared.history.Entry.{Entry}
use Rattle.thr_values.specs.declared.event.Stop.{Stop}
use Rattle.thr_syntax.specs.declared.tree.Script.{Script}
use Rattle.thr_syntax.specs.Canon.{line}
use Rattle.thr_text.specs.Reading.{Formed}
use Rattle.thr_text.specs.Journals.{who_word, what_words, stop_words, numbered_line, numbered}
use Rattle.thr_verdict.specs.FormedJournals.{is_formed_line, is_formed_stop}
use Rattle.thr_journals.specs.Numbers.{is_shortest, number_of}
use Rattle.thr_journals.specs.Fields.{Names}
use Rattle.thr_journals.specs.Lines.{Below, Told, Stopped, below}
use Rattle.thr_journals.specs.Faults.{Fault, fault_if, parts_of, end_faults, tail_fault, history_faults}
use Rattle.thr_journals.specs.Reading.{History, with_entry, history_in}
use Rattle.thr_journal_laws.proofs.Shortest.{and_both, map_some, shortest_printed, decimal_number}
use Rattle.thr_journal_laws.proofs.NameLaws.{names_in}
use Rattle.thr_journal_laws.proofs.CleanLaws.{cut_line, line_no_end, stop_clean}
use Rattle.thr_journal_laws.proofs.BelowLaws.{below_taken, below_again, stop_below_again, line_clean}
use Rattle.thr_journal_reading.proofs.CutLaws.{some_part}
use Rattle.thr_journal_reading.proofs.HistoryLaws.{formless, stopped, told, no_line, told_read, stop_read}

-- The text of a history from a line with this number on.
abbrev pub history_text : Script → ℕ → History → List ℕ
history_text s n x = numbered s.names n x.0 ++ line (stop_words x.1)

-- It is this text, and each line has its form.
pub record IsHistory (s : Script) (n : ℕ) (text : List ℕ) (x : History) : Type 0 where
  pub whole : text ≡ history_text s n x
  pub lines : list_all (is_formed_line s) x.0 ≡ true
  pub stop : is_formed_stop x.1 ≡ true

-- ---- what is read

end_at : (at : ℕ) (p : List ℕ) (more : List (List ℕ)) → end_faults at (p ∷ more) ≡ [] → p ∷ more ≡ [] ∷ []
end_at at [] [] e = refl
end_at at (b ∷ p) [] e = absurd (some_left (length (b ∷ p) == 0) (grind (arith, nat_tests)) e)
  where
    some_left : (t : Bool) → t ≡ false → fault_if (not t) at 6 ≡ [] → ⊥
    some_left true f e = cc
    some_left false f e = cc
end_at at p (q ∷ more) e = absurd cc

abbrev stop_history : Stop → History
stop_history st = ([], st)

stop_taken : (s : Script) → Formed s → (at n : ℕ) (l p : List ℕ) (more : List (List ℕ)) (st : Stop) (x : History) → below (names_in s) l ≡ Some (Stopped st) → history_in (names_in s) (l ∷ p ∷ more) ≡ Some x
    → history_faults (names_in s) at n (l ∷ p ∷ more) ≡ [] → IsHistory s n (join_with_byte 10 (l ∷ p ∷ more)) x
unfolding numbered
stop_taken s h at n l p more st x e read none =
    let is : stop_history st ≡ x = some_same (sym (stop_read (names_in s) l st (p ∷ more) e) ∙ read) in
    let t = below_taken s h l (Stopped st) e in
    let end = end_at (at + 1) p more (sym (stopped (names_in s) at n l p more st e) ∙ none) in
    subst (IsHistory s n (join_with_byte 10 (l ∷ p ∷ more))) is
    (record { whole = ap (λ (ls : List (List ℕ)). join_with_byte 10 (l ∷ ls)) end ∙ ap (λ (u : List ℕ). u ++ 10 ∷ []) t.0; lines = refl; stop = t.1 })
  where
    some_same : {a b : History} → Some a ≡ Some b → a ≡ b
    some_same e = cc

no_fault : (b : Bool) (at : ℕ) (more : List Fault) → fault_if (not b) at 5 ++ more ≡ [] → (b ≡ true) × (more ≡ [])
no_fault true at more e = (refl, e)
no_fault false at more e = absurd cc

is_number : (a b : ℕ) → (a == b) ≡ true → a ≡ b
is_number a b e = grind (arith, nat_tests)

history_by : (s : Script) → Formed s → (at n : ℕ) (l p : List ℕ) (more : List (List ℕ)) (x : History) (o : Option Below) → n < 2 ^ 64
    → ((y : History) → history_in (names_in s) (p ∷ more) ≡ Some y → history_faults (names_in s) (at + 1) (n + 1) (p ∷ more) ≡ [] → IsHistory s (n + 1) (join_with_byte 10 (p ∷ more)) y)
    → below (names_in s) l ≡ o → history_in (names_in s) (l ∷ p ∷ more) ≡ Some x → history_faults (names_in s) at n (l ∷ p ∷ more) ≡ [] → IsHistory s n (join_with_byte 10 (l ∷ p ∷ more)) x
unfolding numbered
history_by s h at n l p more x None small rest e read none = absurd (let some_fault : (at, 4) ∷ [] ≡ [] = sym (formless (names_in s) at n l p more e) ∙ none in cc)
history_by s h at n l p more x (Some (Stopped st)) small rest e read none = stop_taken s h at n l p more st x e read none
history_by s h at n l p more x (Some (Told text entry)) small rest e read none =
    let m = map_some (with_entry entry) (history_in (names_in s) (p ∷ more)) x (sym (told_read (names_in s) l text entry (p ∷ more) e) ∙ read) in
    let f = no_fault (number_of text == n) at (history_faults (names_in s) (at + 1) (n + 1) (p ∷ more)) (sym (told (names_in s) at n l p more text entry e) ∙ none) in
    let t = below_taken s h l (Told text entry) e in
    let same : number_of text ≡ n = is_number (number_of text) n f.0 in
    let number : text ≡ decimal n = sym (shortest_printed text t.1 (let eq = same in omega (arith, eq, small))) ∙ ap decimal same in
    let y = rest m.0 m.1 f.1 in
    subst (IsHistory s n (join_with_byte 10 (l ∷ p ∷ more))) m.2 (record {
      whole = ap (λ (u : List ℕ). l ++ 10 ∷ u) y.whole
          ∙ ap (λ (u : List ℕ). u ++ 10 ∷ history_text s (n + 1) m.0) (t.0 ∙ ap (λ (u : List ℕ). join_with_byte 32 (u ∷ who_word entry.who ∷ what_words s.names entry.what)) number)
          ∙ regroup (join_with_byte 32 (decimal n ∷ who_word entry.who ∷ what_words s.names entry.what)) (numbered s.names (n + 1) m.0.0) (line (stop_words m.0.1));
      lines = both_true (is_formed_line s entry) (list_all (is_formed_line s) m.0.0) t.2 y.lines;
      stop = y.stop;
    })
  where
    regroup : (a b c : List ℕ) → a ++ 10 ∷ (b ++ c) ≡ ((a ++ 10 ∷ []) ++ b) ++ c
    regroup a b c = simp append_assoc

    both_true : (a c : Bool) → a ≡ true → c ≡ true → (a && c) ≡ true
    both_true true c e f = f
    both_true false c e f = absurd cc

tail_faulty : (names : Names) (at n : ℕ) (tail : List ℕ) → history_faults names at n (tail ∷ []) ≡ [] → ⊥
unfolding history_faults
tail_faulty names at n tail e = cc

pub history_taken : (s : Script) → Formed s → (at n : ℕ) (parts : List (List ℕ)) (x : History) → n + length parts < 2 ^ 64 → history_in (names_in s) parts ≡ Some x → history_faults (names_in s) at n parts ≡ []
    → IsHistory s n (join_with_byte 10 parts) x
history_taken s h at n [] x small read none = absurd (no_line (names_in s) x read)
history_taken s h at n (tail ∷ []) x small read none = absurd (tail_faulty (names_in s) at n tail none)
history_taken s h at n (l ∷ p ∷ more) x small read none =
    history_by s h at n l p more x (below (names_in s) l) (omega (arith, small)) (λ y r f. history_taken s h (at + 1) (n + 1) (p ∷ more) y (omega (arith, small)) r f) refl read none

-- ---- what is printed

cut_first_line : (ws : List (List ℕ)) (rest : List ℕ) → list_all (λ b. not (b == 10)) (join_with_byte 32 ws) ≡ true → parts_of (join_with_byte 32 ws ++ 10 ∷ rest) ≡ join_with_byte 32 ws ∷ parts_of rest
cut_first_line ws rest h = cut_line (join_with_byte 32 ws) rest h

-- The lines of a text are read as this history, without a fault.
pub record AreRead (s : Script) (at n : ℕ) (parts : List (List ℕ)) (x : History) : Type 0 where
  pub read : history_in (names_in s) parts ≡ Some x
  pub faultless : history_faults (names_in s) at n parts ≡ []

stop_again : (s : Script) (at n : ℕ) (st : Stop) → is_formed_stop st ≡ true → AreRead s at n (join_with_byte 32 (stop_words st) ∷ [] ∷ []) ([], st)
stop_again s at n st is =
    let l = join_with_byte 32 (stop_words st) in
    let e = stop_below_again (names_in s) st is in
    record { read = stop_read (names_in s) l st ([] ∷ []) e; faultless = stopped (names_in s) at n l [] [] st e }

more_again : (s : Script) → Formed s → (at n : ℕ) (e : Entry) (x : History) (parts others : List (List ℕ)) (next : List ℕ) → n < 2 ^ 64 → is_formed_line s e ≡ true → parts ≡ next ∷ others → AreRead s (at + 1) (n + 1) parts x
    → AreRead s at n (join_with_byte 32 (decimal n ∷ who_word e.who ∷ what_words s.names e.what) ∷ parts) (with_entry e x)
more_again s h at n e x parts others next small is some rest =
    let l = join_with_byte 32 (decimal n ∷ who_word e.who ∷ what_words s.names e.what) in
    let below_is = below_again s h n small e is in
    record {
      read = told_read (names_in s) l (decimal n) e parts below_is ∙ ap (option_map (with_entry e)) rest.read;
      faultless = ap (λ (ls : List (List ℕ)). history_faults (names_in s) at n (l ∷ ls)) some ∙ told (names_in s) at n l next others (decimal n) e below_is
          ∙ ap (λ (b : Bool). fault_if (not b) at 5 ++ history_faults (names_in s) (at + 1) (n + 1) (next ∷ others)) (same_number (number_of (decimal n)) n (decimal_number n small))
          ∙ ap (history_faults (names_in s) (at + 1) (n + 1)) (sym some) ∙ rest.faultless;
    }
  where
    same_number : (a b : ℕ) → a ≡ b → (a == b) ≡ true
    same_number a b e = grind (arith, nat_tests)

pub history_again : (s : Script) → Formed s → (at n : ℕ) (es : List Entry) (st : Stop) → n + length es < 2 ^ 64 → list_all (is_formed_line s) es ≡ true → is_formed_stop st ≡ true
    → AreRead s at n (parts_of (history_text s n (es, st))) (es, st)
unfolding numbered
history_again s h at n [] st small lines is =
    subst (λ (ls : List (List ℕ)). AreRead s at n ls ([], st)) (sym (cut_first_line (stop_words st) [] (line_no_end (stop_words st) (stop_clean st is)))) (stop_again s at n st is)
history_again s h at n (e ∷ es) st small lines is =
    let two = and_both (is_formed_line s e) (list_all (is_formed_line s) es) lines in
    let ws : List (List ℕ) = decimal n ∷ who_word e.who ∷ what_words s.names e.what in
    let within : n < 2 ^ 64 = omega (arith, small) in
    let rest = history_text s (n + 1) (es, st) in
    let part = some_part rest in
    let cut : parts_of (history_text s n (e ∷ es, st)) ≡ join_with_byte 32 ws ∷ parts_of rest =
    ap parts_of (regroup (join_with_byte 32 ws) (numbered s.names (n + 1) es) (line (stop_words st))) ∙ cut_first_line ws rest (line_no_end ws (line_clean s h n within e two.0)) in
    subst (λ (ls : List (List ℕ)). AreRead s at n ls (e ∷ es, st)) (sym cut)
    (more_again s h at n e (es, st) (parts_of rest) part.1 part.0 within two.0 part.2 (history_again s h (at + 1) (n + 1) es st (omega (arith, small)) two.1 is))
  where
    regroup : (a b c : List ℕ) → ((a ++ 10 ∷ []) ++ b) ++ c ≡ a ++ 10 ∷ (b ++ c)
    regroup a b c = simp append_assoc
