-- The text of a formed journal is read as that journal.
use Rattle.std.proofs.Common.{◌≡◌, ℕ, zero, suc, ◌+◌, ◌-◌, ◌<◌, ◌≤◌, ◌^◌, Bool, true, false, List, [], ◌∷◌, ◌++◌, map, length, take, drop, slice_get, length-append, Option, Some, None, refl, sym, ap, subst, ◌∙◌, append_assoc, arith}
use Rattle.std.specs.Prelude.{◌==◌, ◌&&◌, not, is_none, codes, unwrap_or, if◌then◌else◌}
use Rattle.std.specs.List.{join_with_byte, list_all, slice_split, flat_map}
use Rattle.std.specs.Str.{bytes_eq}
use Rattle.std.specs.Fmt.{decimal}
use Rattle.std.proofs.lemmas.Bool.Decides.{nat_tests}
use Rattle.std.proofs.lemmas.List.{length-map}
use Rattle.std.proofs.lemmas.Slice.Eq.{bytes_eq-Decides}
use Rattle.thr_values.specs.declared.history.Entry.{Entry}
use Rattle.thr_values.specs.declared.event.Stop.{Stop}
use Rattle.thr_syntax.specs.declared.tree.Script.{Script}
use Rattle.thr_syntax.specs.declared.journal.Journal.{Journal}
use Rattle.thr_syntax.specs.Lines.{joined}
use Rattle.thr_syntax.specs.Canon.{canon, line, item_words, script_words}
use Rattle.thr_text.specs.Faults.{first_of}
use Rattle.thr_text.specs.Reading as scripts
use Rattle.thr_text.specs.Reading.{Formed, Reads, own_lines, script_lines}
use Rattle.thr_text.specs.Tables.{entries_of}
use Rattle.thr_text.specs.Journals.{who_word, what_words, stop_words, numbered_line, numbered, text}
use Rattle.thr_reading.proofs.ReadLaws.{read_faultfree, no_faults}
use Rattle.thr_reading.proofs.CanonLaws.{canon_again}
use Rattle.thr_verdict.specs.FormedJournals.{is_formed_line, is_formed_stop, FormedJournal}
use Rattle.thr_journals.specs.Fields.{Names}
use Rattle.thr_journals.specs.Faults.{Fault, fault_if, is_end, parts_of, with_end, is_title, workers_in, title_faults, script_count, script_text, is_history, has_script, canonical, text_faults, names_of, history_faults, faults_below, faults_by, script_faults, faults}
use Rattle.thr_journals.specs.Reading.{History, history_in, line_at, script_size, script_in, history_lines, ReadsJournal}
use Rattle.thr_journal_laws.specs.Numbers.{IsBetween}
use Rattle.thr_journal_laws.proofs.NameLaws.{names_in}
use Rattle.thr_journal_laws.proofs.CleanLaws.{cut_line, line_no_end, decimal_clean}
use Rattle.thr_journal_reading.proofs.CutLaws.{some_part}
use Rattle.thr_journal_reading.proofs.CanonicalLaws.{canonical_is}
use Rattle.thr_journal_reading.proofs.HistoryTexts.{history_text, AreRead, history_again}
use Rattle.thr_journal_reading.proofs.TitleTexts.{number_line_again}
use Rattle.thr_journal_reading.proofs.ScriptTexts.{HaveNoEnd, cut_lines, script_no_end, canon_ended}
use Rattle.thr_journal_reading.proofs.JournalTexts.{first_line, workers_line, script_line, text_parts, names_read}

-- ---- lengths

ended_length : (ls : List (List ℕ)) → length ls ≤ length (flat_map with_end ls)
ended_length [] = omega arith
ended_length (l ∷ ls) = let more = ended_length ls in omega (arith, more, length-append (with_end l) (flat_map with_end ls), length-append l (10 ∷ []))

line_length : (ws : List (List ℕ)) → 1 ≤ length (line ws)
line_length ws = omega (arith, length-append (join_with_byte 32 ws) (10 ∷ []))

numbered_length : (names : List (List ℕ)) (n : ℕ) (es : List Entry) → length es ≤ length (numbered names n es)
unfolding numbered
numbered_length names n [] = omega arith
numbered_length names n (e ∷ es) =
    let more = numbered_length names (n + 1) es in
    omega (arith, more, length-append (numbered_line names n e) (numbered names (n + 1) es), line_length (decimal n ∷ who_word e.who ∷ what_words names e.what))

cut_length : (a b c d e f g bytes : List ℕ) → a ++ 10 ∷ (b ++ 10 ∷ (c ++ 10 ∷ (d ++ (e ++ 10 ∷ (f ++ g))))) ≡ bytes → (length d ≤ length bytes) × (length f ≤ length bytes)
cut_length a b c d e f g bytes same =
    let n : length (a ++ 10 ∷ (b ++ 10 ∷ (c ++ 10 ∷ (d ++ (e ++ 10 ∷ (f ++ g)))))) ≡ length bytes = ap length same in
    let la = length-append a (10 ∷ (b ++ 10 ∷ (c ++ 10 ∷ (d ++ (e ++ 10 ∷ (f ++ g)))))) in
    let lb = length-append b (10 ∷ (c ++ 10 ∷ (d ++ (e ++ 10 ∷ (f ++ g))))) in
    let lc = length-append c (10 ∷ (d ++ (e ++ 10 ∷ (f ++ g)))) in
    let ld = length-append d (e ++ 10 ∷ (f ++ g)) in
    let le = length-append e (10 ∷ (f ++ g)) in
    let lf = length-append f g in
    (omega (arith, n, la, lb, lc, ld), omega (arith, n, la, lb, lc, ld, le, lf))

-- ---- the parts of the text

abbrev own_lines_of : Script → List (List ℕ)
own_lines_of s = map (join_with_byte 32) (script_words s)

number_no_end : (before : List ℕ) (n : ℕ) → n < 2 ^ 64 → list_all (λ b. not (b == 32) && not (b == 10)) before ≡ true → list_all (λ b. not (b == 10)) (join_with_byte 32 (before ∷ decimal n ∷ [])) ≡ true
number_no_end before n small clean = line_no_end (before ∷ decimal n ∷ []) (clean, (decimal_clean n small, tt))

abbrev parts_of_text : Script → ℕ → ℕ → List (List ℕ) → List (List ℕ)
parts_of_text s w k behind = join_with_byte 32 first_line ∷ join_with_byte 32 (workers_line w) ∷ join_with_byte 32 (script_line k) ∷ (own_lines_of s ++ codes "history" ∷ behind)

parts_again : (s : Script) → Formed s → (w k : ℕ) (history bytes : List ℕ) → w < 2 ^ 64 → k < 2 ^ 64
    → join_with_byte 32 first_line ++ 10 ∷ (join_with_byte 32 (workers_line w) ++ 10 ∷ (join_with_byte 32 (script_line k) ++ 10 ∷ (canon s ++ (codes "history" ++ 10 ∷ history)))) ≡ bytes
    → parts_of bytes ≡ parts_of_text s w k (parts_of history)
parts_again s h w k history bytes few small same =
    let own = own_lines_of s in
    let behind = codes "history" ++ 10 ∷ history in
    let third = join_with_byte 32 (script_line k) ++ 10 ∷ (canon s ++ behind) in
    let second = join_with_byte 32 (workers_line w) ++ 10 ∷ third in
    sym (ap parts_of same)
    ∙ cut_line (join_with_byte 32 first_line) second refl
    ∙ ap (λ (ls : List (List ℕ)). join_with_byte 32 first_line ∷ ls) (cut_line (join_with_byte 32 (workers_line w)) third (number_no_end (codes "workers") w few refl)
    ∙ ap (λ (ls : List (List ℕ)). join_with_byte 32 (workers_line w) ∷ ls) (cut_line (join_with_byte 32 (script_line k)) (canon s ++ behind) (number_no_end (codes "script") k small refl)
    ∙ ap (λ (ls : List (List ℕ)). join_with_byte 32 (script_line k) ∷ ls) (ap (λ (t : List ℕ). parts_of (t ++ behind)) (canon_ended s) ∙ cut_lines own behind (script_no_end s h)
    ∙ ap (λ (ls : List (List ℕ)). own ++ ls) (cut_line (codes "history") history refl))))

-- ---- what is read of the parts

get_behind : (xs ys : List (List ℕ)) (y : List ℕ) → slice_get (xs ++ y ∷ ys) (length xs) ≡ Some y
get_behind [] ys y = refl
get_behind (x ∷ xs) ys y = get_behind xs ys y

take_front : (xs ys : List (List ℕ)) → take (length xs) (xs ++ ys) ≡ xs
take_front [] ys = refl
take_front (x ∷ xs) ys = ap (λ (zs : List (List ℕ)). x ∷ zs) (take_front xs ys)

one_up : (k : ℕ) → suc k + 1 ≡ suc (k + 1)
one_up k = omega arith

drop_front : (xs ys : List (List ℕ)) (y : List ℕ) → drop (length xs + 1) (xs ++ y ∷ ys) ≡ ys
drop_front [] ys y = refl
drop_front (x ∷ xs) ys y = ap (λ (n : ℕ). drop n (x ∷ (xs ++ y ∷ ys))) (one_up (length xs)) ∙ drop_front xs ys y

more_lines : (xs ys : List (List ℕ)) (y z : List ℕ) → (length (xs ++ y ∷ z ∷ ys) == length xs + 1) ≡ false
more_lines xs ys y z = by (length (xs ++ y ∷ z ∷ ys)) (length xs) (omega (arith, length-append xs (y ∷ z ∷ ys)))
  where
    by : (n k : ℕ) → k + 2 ≤ n → (n == k + 1) ≡ false
    by n k le = grind (arith, nat_tests)

faultless_text : (s : Script) → Formed s → text_faults (canon s) (first_of (scripts.faults (canon s))) ≡ []
faultless_text s h =
    let reads = canon_again s h in
    let none = no_faults (canon s) (read_faultfree (canon s) s reads) in
    ap (λ (fs : List scripts.Fault). text_faults (canon s) (first_of fs)) none
    ∙ ap (λ (b : Bool). fault_if (not b) 4 3) ((bytes_eq-Decides (canon s) (canonical (canon s))).1 (sym (canonical_is (canon s) s reads)))

script_again : (s : Script) → Formed s → (k : ℕ) (behind : List (List ℕ)) (others : List (List ℕ)) (next : List ℕ) (x : History) → k ≡ length (own_lines_of s) → behind ≡ next ∷ others → AreRead s (k + 5) 1 behind x
    → faults_by (Some k) (own_lines_of s ++ codes "history" ∷ behind) ≡ []
script_again s h k behind others next x size some read =
    let own = own_lines_of s in
    let more = own ++ codes "history" ∷ behind in
    let whole : more ≡ own ++ codes "history" ∷ next ∷ others = ap (λ (ls : List (List ℕ)). own ++ codes "history" ∷ ls) some in
    let stands : has_script k more ≡ true =
    ap (λ (n : ℕ). has_script n more) size ∙ ap (has_script (length own)) whole ∙ rw (get_behind own (next ∷ others) (codes "history"), more_lines own others (codes "history") next) refl in
    let text : script_text k more ≡ canon s = ap (λ (n : ℕ). flat_map with_end (take n more)) size ∙ ap (flat_map with_end) (take_front own (codes "history" ∷ behind)) ∙ sym (canon_ended s) in
    let behind_is : drop (k + 1) more ≡ behind = ap (λ (n : ℕ). drop (n + 1) more) size ∙ drop_front own behind (codes "history") in
    there k more stands
    ∙ ap (λ (t : List ℕ). text_faults t (first_of (scripts.faults t)) ++ history_faults (names_of t) (k + 5) 1 (drop (k + 1) more)) text
    ∙ ap (λ (fs : List Fault). fs ++ history_faults (names_of (canon s)) (k + 5) 1 (drop (k + 1) more)) (faultless_text s h)
    ∙ ap (λ (ns : Names). history_faults ns (k + 5) 1 (drop (k + 1) more)) (names_read (canon s) s (canon_again s h))
    ∙ ap (history_faults (names_in s) (k + 5) 1) behind_is ∙ read.faultless
  where
    there : (k : ℕ) (more : List (List ℕ)) → has_script k more ≡ true → faults_by (Some k) more ≡ faults_below k more
    there k more e = rw e refl

title_again : (w k : ℕ) (s : Script) (behind : List (List ℕ)) → workers_in (join_with_byte 32 (workers_line w)) ≡ Some w → title_faults (parts_of_text s w k behind) ≡ []
title_again w k s behind e = rw e refl

abbrev journal_of : Script → ℕ → List Entry → Stop → Journal
journal_of s w es st = record { workers = w; script = s; entries = es; stop = st }

read_by : (s : Script) → Formed s → (w : ℕ) (es : List Entry) (st : Stop) (bytes : List ℕ) (k : ℕ) → k ≡ length (script_words s) → k < 2 ^ 64 → 1 ≤ k → IsBetween 1 16 w
    → parts_of bytes ≡ parts_of_text s w k (parts_of (history_text s 1 (es, st))) → AreRead s (k + 5) 1 (parts_of (history_text s 1 (es, st))) (es, st) → ReadsJournal bytes (journal_of s w es st)
unfolding faults
read_by s h w es st bytes k size small some range parts read =
    let behind = parts_of (history_text s 1 (es, st)) in
    let part = some_part (history_text s 1 (es, st)) in
    let own = own_lines_of s in
    let lines : k ≡ length own = size ∙ sym (length-map (script_words s) (join_with_byte 32)) in
    let workers = number_line_again (codes "workers") 1 16 w (omega arith) refl range in
    let count = number_line_again (codes "script") 1 18446744073709551615 k (omega arith) refl (record { low = some; high = omega (arith, small) }) in
    let script_size_is : script_size (parts_of bytes) ≡ k = ap script_size parts ∙ ap (λ (o : Option ℕ). unwrap_or o 0) count in
    let more = own ++ codes "history" ∷ behind in
    let script_is : script_in (parts_of bytes) ≡ canon s =
    ap (λ (n : ℕ). script_text n (drop 3 (parts_of bytes))) script_size_is ∙ ap (λ (ls : List (List ℕ)). script_text k (drop 3 ls)) parts
    ∙ ap (λ (n : ℕ). flat_map with_end (take n more)) lines ∙ ap (flat_map with_end) (take_front own (codes "history" ∷ behind)) ∙ sym (canon_ended s) in
    let behind_is : history_lines (parts_of bytes) ≡ behind =
    ap (λ (n : ℕ). drop (n + 4) (parts_of bytes)) script_size_is ∙ ap (drop (k + 4)) parts ∙ ap (λ (n : ℕ). drop n (parts_of_text s w k behind)) (four_is k) ∙ ap (λ (n : ℕ). drop (n + 1) more) lines ∙ drop_front own behind (codes "history") in
    record {
      faultless = ap (λ (ls : List (List ℕ)). title_faults ls ++ script_faults (drop 2 ls)) parts
          ∙ ap (λ (fs : List Fault). fs ++ script_faults (join_with_byte 32 (script_line k) ∷ more)) (title_again w k s behind workers)
          ∙ ap (λ (o : Option ℕ). faults_by o more) count ∙ script_again s h k behind part.1 part.0 (es, st) lines part.2 read;
      workers = ap (λ (ls : List (List ℕ)). workers_in (line_at ls 1)) parts ∙ workers;
      script = subst (λ (t : List ℕ). Reads t s) (sym script_is) (canon_again s h);
      history = ap (λ (t : List ℕ). history_in (names_of t) (history_lines (parts_of bytes))) script_is ∙ ap (λ (ns : Names). history_in ns (history_lines (parts_of bytes))) (names_read (canon s) s (canon_again s h))
          ∙ ap (history_in (names_in s)) behind_is ∙ read.read;
    }
  where
    four_is : (k : ℕ) → k + 4 ≡ suc (suc (suc (k + 1)))
    four_is k = omega arith

some_length : {A : Type 0} (x : A) (xs : List A) → 1 ≤ length (x ∷ xs)
some_length x xs = omega arith

some_header : (s : Script) → 1 ≤ length (script_words s)
some_header s = some_length (codes "dcethr" ∷ codes "1" ∷ []) (joined (map (item_words s.names) s.items))

text_read_by : (s : Script) → Formed s → (w : ℕ) (es : List Entry) (st : Stop) (bytes : List ℕ) → length bytes < 2 ^ 32 → IsBetween 1 16 w → list_all (is_formed_line s) es ≡ true → is_formed_stop st ≡ true
    → bytes ≡ text s w es st → ReadsJournal bytes (journal_of s w es st)
text_read_by s h w es st bytes small range lines stop same =
    let k = length (script_words s) in
    let whole = text_parts s w k (es, st) refl ∙ sym same in
    let cut = cut_length (join_with_byte 32 first_line) (join_with_byte 32 (workers_line w)) (join_with_byte 32 (script_line k)) (canon s) (codes "history") (numbered s.names 1 es) (line (stop_words st)) bytes whole in
    let ended : length (canon s) ≡ length (flat_map with_end (own_lines_of s)) = ap length (canon_ended s) in
    let few : k < 2 ^ 32 = (let n = ended_length (own_lines_of s) in let m = length-map (script_words s) (join_with_byte 32) in let c = cut.0 in omega (arith, n, m, c, ended, small)) in
    let few_entries : 1 + length es < 2 ^ 64 = (let n = numbered_length s.names 1 es in let c = cut.1 in omega (arith, n, c, small)) in
    let few_workers : w < 2 ^ 64 = (let high = range.high in omega (arith, high)) in
    read_by s h w es st bytes k refl (omega (arith, few)) (some_header s) range (parts_again s h w k (history_text s 1 (es, st)) bytes few_workers (omega (arith, few)) whole)
    (history_again s h (k + 5) 1 es st few_entries lines stop)

pub text_read : (bytes : List ℕ) (j : Journal) → length bytes < 2 ^ 32 → FormedJournal j → bytes ≡ text j.script j.workers j.entries j.stop → ReadsJournal bytes j
text_read bytes j small f same = text_read_by j.script f.script j.workers j.entries j.stop bytes small (record { low = f.some_worker; high = f.few_workers }) f.lines f.stop same
