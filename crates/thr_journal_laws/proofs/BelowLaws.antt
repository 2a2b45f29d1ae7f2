-- The lines below `history` are read from their texts as they are printed.
use Rattle.std.proofs.Common.{◌≡◌, ℕ, ◌<◌, ◌^◌, Bool, true, false, List, [], ◌∷◌, ◌++◌, length, Option, Some, None, refl, sym, ap, subst, ◌∙◌, arith}
use Rattle.std.specs.Prelude.{codes, if◌then◌else◌}
use Rattle.std.specs.List.{join_with_byte, slice_split}
use Rattle.std.specs.Option.{option_map}
use Rattle.std.specs.Str.{bytes_eq}
use Rattle.std.specs.Fmt.{decimal}
use Rattle.std.proofs.lemmas.List.Splits.{join_with_byte-slice_split}
use Rattle.std.proofs.lemmas.Slice.Eq.{bytes_eq-Decides}
use Rattle.thr_values.specs.declared.history.Who.{Who}
use Rattle.thr_values.specs.declared.history.Who.TheVariants as who
use Rattle.thr_values.specs.declared.history.What.{What}
use Rattle.thr_values.specs.declared.history.What.TheVariants as what
use Rattle.thr_values.specs.declared.history.Entry.{Entry}
use Rattle.thr_values.specs.declared.event.Stop.{Stop}
use Rattle.thr_syntax.specs.declared.tree.Script.{Script}
use Rattle.thr_text.specs.Reading.{Formed}
use Rattle.thr_text.specs.Journals.{who_word, what_words, stop_words}
use Rattle.thr_verdict.specs.Places.{fits_32}
use Rattle.thr_verdict.specs.FormedJournals.{is_processor, is_clock, is_thread, fits_what, is_formed_what, is_formed_line, is_formed_stop}
use Rattle.thr_journals.specs.Numbers.{is_shortest}
use Rattle.thr_journals.specs.Fields.{Names}
use Rattle.thr_journals.specs.Lines.{Below, Told, Stopped, is_space, line_words, entry, stop, told, below}
use Rattle.thr_journal_laws.proofs.Shortest.{and_both, map_some, decimal_shortest}
use Rattle.thr_journal_laws.proofs.NameLaws.{names_in}
use Rattle.thr_journal_laws.proofs.SaidLaws.{by_thread}
use Rattle.thr_journal_laws.proofs.EntryLaws.{entry_taken, entry_again, stop_taken, stop_again, stop_rest, stop_split, fits_thread}
use Rattle.thr_journal_laws.proofs.CleanLaws.{IsClean, AllClean, words_again, long_clean, what_clean, proc_clean, thread_who_clean, stop_clean, decimal_clean}

-- ---- a line by its words

abbrev by_words : Names → List ℕ → List (List ℕ) → Option Below
by_words names w ws = if bytes_eq w (codes "stop") then option_map Stopped (stop ws) else told w (entry names ws)

below_words : (names : Names) (text w : List ℕ) (ws : List (List ℕ)) → line_words text ≡ w ∷ ws → below names text ≡ by_words names w ws
unfolding below
below_words names text w ws e = rw e refl

below_nothing : (names : Names) (text : List ℕ) → line_words text ≡ [] → below names text ≡ None
unfolding below
below_nothing names text e = rw e refl

text_of_words : (text w : List ℕ) (ws : List (List ℕ)) → line_words text ≡ w ∷ ws → text ≡ join_with_byte 32 (w ∷ ws)
text_of_words text w ws e = sym (join_with_byte-slice_split 32 text) ∙ ap (join_with_byte 32) e

-- ---- what is read

-- The words that this line of a history has, with the text of its number, and the stop line's.
abbrev words_below : Script → Below → List (List ℕ)
words_below s (Told number e) = number ∷ who_word e.who ∷ what_words s.names e.what
words_below s (Stopped st) = stop_words st

abbrev IsBelow : Script → List ℕ → List (List ℕ) → Below → Type 0
IsBelow s w ws (Told number e) = (w ∷ ws ≡ number ∷ who_word e.who ∷ what_words s.names e.what) × (is_shortest number ≡ true) × (is_formed_line s e ≡ true)
IsBelow s w ws (Stopped st) = (w ∷ ws ≡ stop_words st) × (is_formed_stop st ≡ true)

told_by : (s : Script) → Formed s → (w : List ℕ) (ws : List (List ℕ)) (x : Below) (b : Bool) → is_shortest w ≡ b → told w (entry (names_in s) ws) ≡ Some x → IsBelow s w ws x
told_by s h w ws x true short e =
    let m = map_some (Told w) (entry (names_in s) ws) x (rw short at e) in
    let t = entry_taken s h ws m.0 m.1 in
    subst (IsBelow s w ws) m.2 (ap (λ (vs : List (List ℕ)). w ∷ vs) t.0, short, t.1)
told_by s h w ws x false long e = absurd (let none : None ≡ Some x = rw long at e in cc)

words_by : (s : Script) → Formed s → (w : List ℕ) (ws : List (List ℕ)) (x : Below) (b : Bool) → bytes_eq w (codes "stop") ≡ b → by_words (names_in s) w ws ≡ Some x → IsBelow s w ws x
words_by s h w ws x true stops e =
    let m = map_some Stopped (stop ws) x (rw stops at e) in
    let t = stop_taken ws m.0 m.1 in
    subst (IsBelow s w ws) m.2 (ap (λ (v : List ℕ). v ∷ ws) ((bytes_eq-Decides w (codes "stop")).0 stops) ∙ t.0, t.1)
words_by s h w ws x false other e = told_by s h w ws x (is_shortest w) refl (rw other at e)

-- The text is this line, and the line has its form.
abbrev pub IsLineBelow : Script → List ℕ → Below → Type 0
IsLineBelow s text (Told number e) = (text ≡ join_with_byte 32 (number ∷ who_word e.who ∷ what_words s.names e.what)) × (is_shortest number ≡ true) × (is_formed_line s e ≡ true)
IsLineBelow s text (Stopped st) = (text ≡ join_with_byte 32 (stop_words st)) × (is_formed_stop st ≡ true)

line_is : (s : Script) (text w : List ℕ) (ws : List (List ℕ)) (x : Below) → text ≡ join_with_byte 32 (w ∷ ws) → IsBelow s w ws x → IsLineBelow s text x
line_is s text w ws (Told number e) same i = (same ∙ ap (join_with_byte 32) i.0, i.1, i.2)
line_is s text w ws (Stopped st) same i = (same ∙ ap (join_with_byte 32) i.0, i.1)

taken_by : (s : Script) → Formed s → (text : List ℕ) (x : Below) (all : List (List ℕ)) → line_words text ≡ all → below (names_in s) text ≡ Some x → IsLineBelow s text x
taken_by s h text x [] none e = absurd (let no_line : None ≡ Some x = sym (below_nothing (names_in s) text none) ∙ e in cc)
taken_by s h text x (w ∷ ws) cut e =
    line_is s text w ws x (text_of_words text w ws cut) (words_by s h w ws x (bytes_eq w (codes "stop")) refl (sym (below_words (names_in s) text w ws cut) ∙ e))

pub below_taken : (s : Script) → Formed s → (text : List ℕ) (x : Below) → below (names_in s) text ≡ Some x → IsLineBelow s text x
below_taken s h text x e = taken_by s h text x (line_words text) refl e

-- ---- what is printed

by_who : (w : What) (x : Who) → by_thread w ≡ true → fits_what w x ≡ true → IsClean (who_word x)
by_who w (who.Thread t) by e = thread_who_clean t (sym (fits_thread w (who.Thread t) by) ∙ e)
by_who w (who.Proc p) by e = absurd (let no_thread : false ≡ true = sym (fits_thread w (who.Proc p) by) ∙ e in cc)
by_who w who.Clock by e = refl

run_who : (x : Who) → is_processor x ≡ true → IsClean (who_word x)
run_who (who.Proc p) e = proc_clean p e
run_who (who.Thread t) e = absurd cc
run_who who.Clock e = refl

clock_who : (x : Who) → is_clock x ≡ true → IsClean (who_word x)
clock_who (who.Proc p) e = absurd cc
clock_who (who.Thread t) e = absurd cc
clock_who who.Clock e = refl

who_clean : (w : What) (x : Who) → fits_what w x ≡ true → IsClean (who_word x)
who_clean (what.Run t) x e = run_who x e
who_clean (what.Clock z) x e = clock_who x e
who_clean (what.Call c args r) x e = by_who (what.Call c args r) x refl e
who_clean (what.Ret r) x e = by_who (what.Ret r) x refl e
who_clean (what.Gift m) x e = by_who (what.Gift m) x refl e
who_clean (what.Say z) x e = by_who (what.Say z) x refl e
who_clean (what.Set l z) x e = by_who (what.Set l z) x refl e
who_clean (what.If l z) x e = by_who (what.If l z) x refl e
who_clean (what.While l z) x e = by_who (what.While l z) x refl e
who_clean (what.CallAt l z) x e = by_who (what.CallAt l z) x refl e
who_clean (what.Return l z) x e = by_who (what.Return l z) x refl e
who_clean (what.Raise n exc) x e = by_who (what.Raise n exc) x refl e
who_clean (what.Reraise n exc) x e = by_who (what.Reraise n exc) x refl e
who_clean (what.Deliver n l) x e = by_who (what.Deliver n l) x refl e
who_clean (what.Exit n z) x e = by_who (what.Exit n z) x refl e
who_clean (what.Try n l) x e = by_who (what.Try n l) x refl e
who_clean (what.Endtry n) x e = by_who (what.Endtry n) x refl e
who_clean (what.Catch n m l) x e = by_who (what.Catch n m l) x refl e
who_clean (what.Endcatch n) x e = by_who (what.Endcatch n) x refl e
who_clean (what.Finally n m) x e = by_who (what.Finally n m) x refl e
who_clean (what.Endfin n) x e = by_who (what.Endfin n) x refl e
who_clean (what.Once n id) x e = by_who (what.Once n id) x refl e
who_clean (what.Done n) x e = by_who (what.Done n) x refl e
who_clean (what.Undone n m) x e = by_who (what.Undone n m) x refl e
who_clean (what.Destroy n id z) x e = by_who (what.Destroy n id z) x refl e
who_clean (what.Enddes n) x e = by_who (what.Enddes n) x refl e
who_clean (what.Lost n m) x e = by_who (what.Lost n m) x refl e
who_clean (what.Bottom n z) x e = by_who (what.Bottom n z) x refl e
who_clean what.Pause x e = by_who what.Pause x refl e
who_clean (what.End z) x e = by_who (what.End z) x refl e

entry_clean : (s : Script) → Formed s → (e : Entry) → is_formed_line s e ≡ true → AllClean (who_word e.who ∷ what_words s.names e.what)
entry_clean s h e is = let two = and_both (fits_what e.what e.who) (is_formed_what s e.what) is in (who_clean e.what e.who two.0, what_clean s h e.what two.1)

stop_word : is_shortest (codes "stop") ≡ false
unfolding is_shortest
stop_word = refl

no_stop : (w : List ℕ) → is_shortest w ≡ true → bytes_eq w (codes "stop") ≡ false
no_stop w short = by (bytes_eq w (codes "stop")) refl
  where
    clash : (b : Bool) → b ≡ true → b ≡ false → ⊥
    clash b e f = cc

    by : (b : Bool) → bytes_eq w (codes "stop") ≡ b → b ≡ false
    by true same = absurd (clash (is_shortest w) short (ap is_shortest ((bytes_eq-Decides w (codes "stop")).0 same) ∙ stop_word))
    by false other = refl

told_words : (names : Names) (w : List ℕ) (ws : List (List ℕ)) (e : Entry) → is_shortest w ≡ true → entry names ws ≡ Some e → by_words names w ws ≡ Some (Told w e)
told_words names w ws e short is = rw (no_stop w short, short, is) refl

pub line_clean : (s : Script) → Formed s → (n : ℕ) → n < 2 ^ 64 → (e : Entry) → is_formed_line s e ≡ true → AllClean (decimal n ∷ who_word e.who ∷ what_words s.names e.what)
line_clean s h n small e is = (decimal_clean n small, entry_clean s h e is)

pub below_again : (s : Script) → Formed s → (n : ℕ) → n < 2 ^ 64 → (e : Entry) → is_formed_line s e ≡ true
    → below (names_in s) (join_with_byte 32 (decimal n ∷ who_word e.who ∷ what_words s.names e.what)) ≡ Some (Told (decimal n) e)
below_again s h n small e is =
    let ws : List (List ℕ) = who_word e.who ∷ what_words s.names e.what in
    below_words (names_in s) (join_with_byte 32 (decimal n ∷ ws)) (decimal n) ws (words_again (decimal n) ws (line_clean s h n small e is))
    ∙ told_words (names_in s) (decimal n) ws e (decimal_shortest n small) (entry_again s h e is)

stop_split_again : (names : Names) (st : Stop) → is_formed_stop st ≡ true → by_words names (codes "stop") (stop_rest st) ≡ Some (Stopped st)
stop_split_again names st is = rw (stop_again st is) refl

pub stop_below_again : (names : Names) (st : Stop) → is_formed_stop st ≡ true → below names (join_with_byte 32 (stop_words st)) ≡ Some (Stopped st)
stop_below_again names st is =
    let clean : AllClean (codes "stop" ∷ stop_rest st) = subst AllClean (stop_split st) (stop_clean st is) in
    ap (λ (ws : List (List ℕ)). below names (join_with_byte 32 ws)) (stop_split st)
    ∙ below_words names (join_with_byte 32 (codes "stop" ∷ stop_rest st)) (codes "stop") (stop_rest st) (words_again (codes "stop") (stop_rest st) clean)
    ∙ stop_split_again names st is
