-- The texts of formed journals are those that are read.
use Rattle.std.proofs.Common.{◌≡◌, ℕ, zero, suc, ◌+◌, ◌-◌, ◌<◌, ◌≤◌, ◌^◌, Bool, true, false, List, [], ◌∷◌, ◌++◌, map, length, take, drop, slice_get, length-append, Option, Some, None, refl, sym, ap, subst, ◌∙◌, append_assoc, arith}
use Rattle.std.specs.Prelude.{◌==◌, ◌&&◌, not, is_none, codes, unwrap_or, if◌then◌else◌}
use Rattle.std.specs.List.{join_with_byte, list_all, slice_split, flat_map}
use Rattle.std.specs.Str.{bytes_eq}
use Rattle.std.specs.Fmt.{decimal}
use Rattle.std.proofs.lemmas.Bool.Decides.{nat_tests}
use Rattle.std.proofs.lemmas.List.{length-map, length-take-le, length-drop}
use Rattle.std.proofs.lemmas.List.Splits.{join_with_byte-slice_split}
use Rattle.std.proofs.lemmas.Slice.Eq.{bytes_eq-Decides}
use Rattle.thr_values.specs.declared.history.Entry.{Entry}
use Rattle.thr_values.specs.declared.event.Stop.{Stop}
use Rattle.thr_syntax.specs.declared.tree.Script.{Script}
use Rattle.thr_syntax.specs.declared.journal.Journal.{Journal}
use Rattle.thr_syntax.specs.Canon.{canon, line, script_words}
use Rattle.thr_text.specs.Faults.{first_of}
use Rattle.thr_text.specs.Blocks.{Line}
use Rattle.thr_text.specs.Reading as scripts
use Rattle.thr_text.specs.Reading.{Formed, Reads, own_lines, script_lines}
use Rattle.thr_text.specs.Tables.{entries_of}
use Rattle.thr_text.specs.Journals.{stop_words, numbered, text}
use Rattle.thr_reading.proofs.LineWords.{first_nil, second_nil}
use Rattle.thr_reading.proofs.ReadLaws.{read_faultfree, no_faults}
use Rattle.thr_reading.proofs.CanonLaws.{canon_again}
use Rattle.thr_verdict.specs.FormedJournals.{is_formed_line, is_formed_stop, FormedJournal}
use Rattle.thr_journals.specs.Fields.{Names}
use Rattle.thr_journals.specs.Faults.{Fault, fault_if, is_end, parts_of, with_end, is_title, workers_in, title_faults, workers_faults, script_count, script_text, is_history, has_script, canonical, text_faults, names_of, history_faults, faults_below, faults_by, script_faults, faults}
use Rattle.thr_journals.specs.Reading.{History, history_in, line_at, script_size, script_in, history_lines, ReadsJournal}
use Rattle.thr_journal_laws.specs.Numbers.{IsBetween}
use Rattle.thr_journal_laws.proofs.Shortest.{and_both}
use Rattle.thr_journal_laws.proofs.NameLaws.{names_in}
use Rattle.thr_journal_laws.proofs.CleanLaws.{cut_line, line_no_end, decimal_clean}
use Rattle.thr_journal_reading.proofs.CutLaws.{some_part}
use Rattle.thr_journal_reading.proofs.CanonicalLaws.{canonical_is}
use Rattle.thr_journal_reading.proofs.LineNumbers.{few_parts}
use Rattle.thr_journal_reading.proofs.HistoryTexts.{history_text, IsHistory, history_taken, AreRead, history_again}
use Rattle.thr_journal_reading.proofs.TitleTexts.{number_line_taken, number_line_again}
use Rattle.thr_journal_reading.proofs.ScriptTexts.{HasNoEnd, HaveNoEnd, cut_lines, parts_no_end, take_no_end, drop_no_end, script_no_end, canon_ended, as_many_lines}

-- ---- a text is its parts

join_more : (l : List ℕ) (parts others : List (List ℕ)) (next : List ℕ) → parts ≡ next ∷ others → join_with_byte 10 (l ∷ parts) ≡ l ++ 10 ∷ join_with_byte 10 parts
join_more l parts others next e = ap (λ (ls : List (List ℕ)). join_with_byte 10 (l ∷ ls)) e ∙ ap (λ (ls : List (List ℕ)). l ++ 10 ∷ join_with_byte 10 ls) (sym e)

front_ended : (a : List ℕ) (b c : List ℕ) → a ++ 10 ∷ (b ++ c) ≡ ((a ++ 10 ∷ []) ++ b) ++ c
front_ended a b c = simp append_assoc

some_more : (k : ℕ) (parts others : List (List ℕ)) (hist : List ℕ) → drop k parts ≡ hist ∷ others → (next : List ℕ) × (rest : List (List ℕ)) × (parts ≡ next ∷ rest)
some_more zero [] others hist e = absurd cc
some_more (suc k) [] others hist e = absurd cc
some_more k (p ∷ parts) others hist e = (p, parts, refl)

join_cut : (k : ℕ) (parts others : List (List ℕ)) (hist next : List ℕ) → drop k parts ≡ hist ∷ next ∷ others
    → join_with_byte 10 parts ≡ flat_map with_end (take k parts) ++ (hist ++ 10 ∷ join_with_byte 10 (next ∷ others))
join_cut zero parts others hist next e = ap (join_with_byte 10) e
join_cut (suc k) [] others hist next e = absurd cc
join_cut (suc k) (p ∷ parts) others hist next e =
    let more = some_more k parts (next ∷ others) hist e in
    join_more p parts more.1 more.0 more.2 ∙ ap (λ (u : List ℕ). p ++ 10 ∷ u) (join_cut k parts others hist next e)
    ∙ front_ended p (flat_map with_end (take k parts)) (hist ++ 10 ∷ join_with_byte 10 (next ∷ others))

-- ---- what is read is the text of a formed journal

abbrev pub first_line : List (List ℕ)
first_line = codes "dcethr" ∷ codes "journal" ∷ codes "1" ∷ []

abbrev pub workers_line : ℕ → List (List ℕ)
workers_line w = codes "workers" ∷ decimal w ∷ []

abbrev pub script_line : ℕ → List (List ℕ)
script_line k = codes "script" ∷ decimal k ∷ []

regroup : (a b c d e f : List ℕ) → a ++ 10 ∷ (b ++ 10 ∷ (c ++ 10 ∷ (d ++ (e ++ 10 ∷ f)))) ≡ (a ++ 10 ∷ []) ++ ((b ++ 10 ∷ []) ++ ((c ++ 10 ∷ []) ++ (d ++ ((e ++ 10 ∷ []) ++ f))))
regroup a b c d e f = simp append_assoc

pub text_parts : (s : Script) (w k : ℕ) (x : History) → k ≡ length (script_words s)
    → join_with_byte 32 first_line ++ 10 ∷ (join_with_byte 32 (workers_line w) ++ 10 ∷ (join_with_byte 32 (script_line k) ++ 10 ∷ (canon s ++ (codes "history" ++ 10 ∷ history_text s 1 x)))) ≡ text s w x.0 x.1
unfolding text
text_parts s w k x e =
    regroup (join_with_byte 32 first_line) (join_with_byte 32 (workers_line w)) (join_with_byte 32 (script_line k)) (canon s) (codes "history") (history_text s 1 x)
    ∙ ap (λ (n : ℕ). line first_line ++ (line (workers_line w) ++ (line (script_line n) ++ (canon s ++ (line (codes "history" ∷ []) ++ history_text s 1 x))))) e

-- What stands at the places of a text that is read.
record HasParts (s : Script) (parts : List (List ℕ)) (w : ℕ) (x : History) : Type 0 where
  pub title : List ℕ
  pub second : List ℕ
  pub third : List ℕ
  pub rest : List (List ℕ)
  pub size : ℕ
  pub hist : List ℕ
  pub next : List ℕ
  pub others : List (List ℕ)
  pub whole : parts ≡ title ∷ second ∷ third ∷ rest
  pub titled : is_title title ≡ true
  pub workers : workers_in second ≡ Some w
  pub count : script_count third ≡ Some size
  pub cut : drop size rest ≡ hist ∷ next ∷ others
  pub marked : bytes_eq hist (codes "history") ≡ true
  pub script : script_text size rest ≡ canon s
  pub history : IsHistory s 1 (join_with_byte 10 (next ∷ others)) x

parts_text : (s : Script) → Formed s → (bytes : List ℕ) (w : ℕ) (x : History) → HasParts s (parts_of bytes) w x → bytes ≡ text s w x.0 x.1
parts_text s h bytes w x p =
    let more = some_more p.size p.rest (p.next ∷ p.others) p.hist p.cut in
    let none : HaveNoEnd p.rest = drop_no_end 3 (p.title ∷ p.second ∷ p.third ∷ p.rest) (subst HaveNoEnd p.whole (parts_no_end bytes)) in
    let enough : p.size ≤ length p.rest = (let n : length (drop p.size p.rest) ≡ length (p.hist ∷ p.next ∷ p.others) = ap length p.cut in omega (arith, n, length-drop p.size p.rest)) in
    let size : p.size ≡ length (script_words s) = sym (length-take-le p.size p.rest enough) ∙ as_many_lines s h (take p.size p.rest) (take_no_end p.size p.rest none) p.script in
    let second = number_line_taken (codes "workers") 1 16 (omega arith) p.second w p.workers in
    let third = number_line_taken (codes "script") 1 18446744073709551615 (omega arith) p.third p.size p.count in
    sym (join_with_byte-slice_split 10 bytes) ∙ ap (join_with_byte 10) p.whole
    ∙ ap (λ (u : List ℕ). p.title ++ 10 ∷ (p.second ++ 10 ∷ u)) (join_more p.third p.rest more.1 more.0 more.2)
    ∙ ap (λ (u : List ℕ). p.title ++ 10 ∷ (p.second ++ 10 ∷ (p.third ++ 10 ∷ u))) (join_cut p.size p.rest p.others p.hist p.next p.cut)
    ∙ ap (λ (u : List ℕ). u ++ 10 ∷ (p.second ++ 10 ∷ (p.third ++ 10 ∷ (flat_map with_end (take p.size p.rest) ++ (p.hist ++ 10 ∷ join_with_byte 10 (p.next ∷ p.others)))))) ((bytes_eq-Decides p.title (codes "dcethr journal 1")).0 p.titled)
    ∙ ap (λ (u : List ℕ). codes "dcethr journal 1" ++ 10 ∷ (u ++ 10 ∷ (p.third ++ 10 ∷ (flat_map with_end (take p.size p.rest) ++ (p.hist ++ 10 ∷ join_with_byte 10 (p.next ∷ p.others)))))) second.0
    ∙ ap (λ (u : List ℕ). codes "dcethr journal 1" ++ 10 ∷ (join_with_byte 32 (workers_line w) ++ 10 ∷ (u ++ 10 ∷ (flat_map with_end (take p.size p.rest) ++ (p.hist ++ 10 ∷ join_with_byte 10 (p.next ∷ p.others)))))) third.0
    ∙ ap (λ (u : List ℕ). codes "dcethr journal 1" ++ 10 ∷ (join_with_byte 32 (workers_line w) ++ 10 ∷ (join_with_byte 32 (script_line p.size) ++ 10 ∷ (u ++ (p.hist ++ 10 ∷ join_with_byte 10 (p.next ∷ p.others)))))) p.script
    ∙ ap (λ (u : List ℕ). codes "dcethr journal 1" ++ 10 ∷ (join_with_byte 32 (workers_line w) ++ 10 ∷ (join_with_byte 32 (script_line p.size) ++ 10 ∷ (canon s ++ (u ++ 10 ∷ join_with_byte 10 (p.next ∷ p.others)))))) ((bytes_eq-Decides p.hist (codes "history")).0 p.marked)
    ∙ ap (λ (u : List ℕ). codes "dcethr journal 1" ++ 10 ∷ (join_with_byte 32 (workers_line w) ++ 10 ∷ (join_with_byte 32 (script_line p.size) ++ 10 ∷ (canon s ++ (codes "history" ++ 10 ∷ u))))) p.history.whole
    ∙ text_parts s w p.size x size

-- ---- the parts of a text without a fault

fault_free : (b : Bool) (line number : ℕ) → fault_if (not b) line number ≡ [] → b ≡ true
fault_free true line number e = refl
fault_free false line number e = absurd cc

text_free : (t : List ℕ) (o : Option scripts.Fault) → text_faults t o ≡ [] → bytes_eq t (canonical t) ≡ true
text_free t (Some f) e = absurd cc
text_free t None e = fault_free (bytes_eq t (canonical t)) 4 3 e

one_up : (k : ℕ) → suc k + 1 ≡ suc (k + 1)
one_up k = omega arith

got_here : (parts : List (List ℕ)) (k : ℕ) → is_history (slice_get parts k) ≡ true → (hist : List ℕ) × (drop k parts ≡ hist ∷ drop (k + 1) parts) × (bytes_eq hist (codes "history") ≡ true)
got_here [] zero e = absurd cc
got_here [] (suc k) e = absurd cc
got_here (p ∷ parts) zero e = (p, refl, e)
got_here (p ∷ parts) (suc k) e = let g = got_here parts k e in (g.0, g.1 ∙ ap (λ (n : ℕ). g.0 ∷ drop n (p ∷ parts)) (sym (one_up k)), g.2)

next_there : (parts : List (List ℕ)) (hist : List ℕ) (more : List (List ℕ)) (k : ℕ) → drop k parts ≡ hist ∷ more → (length parts == k + 1) ≡ false → (next : List ℕ) × (others : List (List ℕ)) × (more ≡ next ∷ others)
next_there parts hist [] k e other = absurd (let n : length (drop k parts) ≡ 1 = ap length e in clash (length parts) k (omega (arith, n, length-drop k parts)) other)
  where
    clash : (n k : ℕ) → n ≡ k + 1 → (n == k + 1) ≡ false → ⊥
    clash n k e f = grind (arith, nat_tests)
next_there parts hist (q ∷ more) k e other = (q, more, refl)

is_false : (b : Bool) → not b ≡ true → b ≡ false
is_false true e = absurd cc
is_false false e = refl

-- the script and the history behind the third line
record HasRest (s : Script) (rest : List (List ℕ)) (k : ℕ) (x : History) : Type 0 where
  pub hist : List ℕ
  pub next : List ℕ
  pub others : List (List ℕ)
  pub cut : drop k rest ≡ hist ∷ next ∷ others
  pub marked : bytes_eq hist (codes "history") ≡ true
  pub script : script_text k rest ≡ canon s
  pub history : IsHistory s 1 (join_with_byte 10 (next ∷ others)) x

pub names_read : (t : List ℕ) (s : Script) → Reads t s → names_of t ≡ names_in s
names_read t s r = ap entries_of r.words

rest_by : (s : Script) (rest : List (List ℕ)) (k : ℕ) (x : History) (b : Bool) → length rest + 2 < 2 ^ 64 → has_script k rest ≡ b → Reads (script_text k rest) s
    → history_in (names_of (script_text k rest)) (drop (k + 1) rest) ≡ Some x → faults_by (Some k) rest ≡ [] → HasRest s rest k x
rest_by s rest k x true small there reads read none =
    let t = script_text k rest in
    let below : faults_below k rest ≡ [] = sym (stands k rest there) ∙ none in
    let text_none = first_nil (text_faults t (first_of (scripts.faults t))) (history_faults (names_of t) (k + 5) 1 (drop (k + 1) rest)) below in
    let lines_none = second_nil (text_faults t (first_of (scripts.faults t))) (history_faults (names_of t) (k + 5) 1 (drop (k + 1) rest)) below in
    let two = and_both (is_history (slice_get rest k)) (not (length rest == k + 1)) there in
    let got = got_here rest k two.0 in
    let next = next_there rest got.0 (drop (k + 1) rest) k got.1 (is_false (length rest == k + 1) two.1) in
    let names = names_read t s reads in
    record {
      hist = got.0;
      next = next.0;
      others = next.1;
      cut = got.1 ∙ ap (λ (ls : List (List ℕ)). got.0 ∷ ls) next.2;
      marked = got.2;
      script = (bytes_eq-Decides t (canonical t)).0 (text_free t (first_of (scripts.faults t)) text_none) ∙ canonical_is t s reads;
      history = history_taken s reads.formed (k + 5) 1 (next.0 ∷ next.1) x
          (let n : length (drop (k + 1) rest) ≡ length (next.0 ∷ next.1) = ap length next.2 in omega (arith, n, length-drop (k + 1) rest, small))
          (ap (λ (ls : List (List ℕ)). history_in (names_in s) ls) (sym next.2) ∙ ap (λ (ns : Names). history_in ns (drop (k + 1) rest)) (sym names) ∙ read)
          (ap (λ (ls : List (List ℕ)). history_faults (names_in s) (k + 5) 1 ls) (sym next.2) ∙ ap (λ (ns : Names). history_faults ns (k + 5) 1 (drop (k + 1) rest)) (sym names) ∙ lines_none);
    }
  where
    stands : (k : ℕ) (more : List (List ℕ)) → has_script k more ≡ true → faults_by (Some k) more ≡ faults_below k more
    stands k more e = rw e refl
rest_by s rest k x false small there reads read none = absurd (let some_fault : (3, 2) ∷ [] ≡ [] = sym (gone k rest there) ∙ none in cc)
  where
    gone : (k : ℕ) (more : List (List ℕ)) → has_script k more ≡ false → faults_by (Some k) more ≡ (3, 2) ∷ []
    gone k more e = rw e refl

third_by : (s : Script) (l p q : List ℕ) (rest parts : List (List ℕ)) (w : ℕ) (x : History) (o : Option ℕ) → parts ≡ l ∷ p ∷ q ∷ rest → length rest + 2 < 2 ^ 64 → is_title l ≡ true → workers_in (line_at parts 1) ≡ Some w
    → script_count q ≡ o → Reads (script_in parts) s → history_in (names_of (script_in parts)) (history_lines parts) ≡ Some x → faults_by o rest ≡ [] → HasParts s parts w x
third_by s l p q rest parts w x None whole small title workers count reads read none = absurd cc
third_by s l p q rest parts w x (Some k) whole small title workers count reads read none =
    let size : script_size parts ≡ k = ap script_size whole ∙ ap (λ (o : Option ℕ). unwrap_or o 0) count in
    let own : script_in parts ≡ script_text k rest = ap (λ (n : ℕ). script_text n (drop 3 parts)) size ∙ ap (λ (ls : List (List ℕ)). script_text k (drop 3 ls)) whole in
    let behind : history_lines parts ≡ drop (k + 1) rest = ap (λ (n : ℕ). drop (n + 4) parts) size ∙ ap (drop (k + 4)) whole ∙ ap (λ (n : ℕ). drop n (l ∷ p ∷ q ∷ rest)) (four_is k) in
    let r = rest_by s rest k x (has_script k rest) small refl (subst (λ (t : List ℕ). Reads t s) own reads)
    (ap (λ (t : List ℕ). history_in (names_of t) (drop (k + 1) rest)) (sym own) ∙ ap (history_in (names_of (script_in parts))) (sym behind) ∙ read) none in
    record {
      title = l;
      second = p;
      third = q;
      rest = rest;
      size = k;
      hist = r.hist;
      next = r.next;
      others = r.others;
      whole = whole;
      titled = title;
      workers = ap (λ (ls : List (List ℕ)). workers_in (line_at ls 1)) (sym whole) ∙ workers;
      count = count;
      cut = r.cut;
      marked = r.marked;
      script = r.script;
      history = r.history;
    }
  where
    four_is : (k : ℕ) → k + 4 ≡ suc (suc (suc (k + 1)))
    four_is k = omega arith

parts_by : (s : Script) (all parts : List (List ℕ)) (w : ℕ) (x : History) → all ≡ parts → length parts < 2 ^ 63 → title_faults parts ≡ [] → script_faults (drop 2 parts) ≡ [] → workers_in (line_at all 1) ≡ Some w
    → Reads (script_in all) s → history_in (names_of (script_in all)) (history_lines all) ≡ Some x → HasParts s all w x
parts_by s all [] w x whole small title script workers reads read = absurd cc
parts_by s all (l ∷ []) w x whole small title script workers reads read = absurd cc
parts_by s all (l ∷ p ∷ []) w x whole small title script workers reads read = absurd (no_workers (is_title l) title)
  where
    no_workers : (b : Bool) → fault_if (not b) 1 1 ++ (2, 1) ∷ [] ≡ [] → ⊥
    no_workers true e = cc
    no_workers false e = cc
parts_by s all (l ∷ p ∷ q ∷ rest) w x whole small title script workers reads read =
    third_by s l p q rest all w x (script_count q) whole (omega (arith, small)) (fault_free (is_title l) 1 1 (first_nil (fault_if (not (is_title l)) 1 1) (workers_faults (p ∷ q ∷ rest)) title)) workers refl reads read script

read_parts : (bytes : List ℕ) (j : Journal) → length bytes < 2 ^ 32 → ReadsJournal bytes j → HasParts j.script (parts_of bytes) j.workers (j.entries, j.stop)
unfolding faults
read_parts bytes j small r =
    parts_by j.script (parts_of bytes) (parts_of bytes) j.workers (j.entries, j.stop) refl (let few = few_parts is_end bytes in omega (arith, few, small))
    (first_nil (title_faults (parts_of bytes)) (script_faults (drop 2 (parts_of bytes))) r.faultless) (second_nil (title_faults (parts_of bytes)) (script_faults (drop 2 (parts_of bytes))) r.faultless)
    r.workers r.script r.history

pub read_text : (bytes : List ℕ) (j : Journal) → length bytes < 2 ^ 32 → ReadsJournal bytes j → bytes ≡ text j.script j.workers j.entries j.stop
read_text bytes j small r = parts_text j.script r.script.formed bytes j.workers (j.entries, j.stop) (read_parts bytes j small r)

pub read_formed : (bytes : List ℕ) (j : Journal) → length bytes < 2 ^ 32 → ReadsJournal bytes j → FormedJournal j
read_formed bytes j small r =
    let p = read_parts bytes j small r in
    let second = number_line_taken (codes "workers") 1 16 (omega arith) p.second j.workers p.workers in
    record { some_worker = second.1.low; few_workers = second.1.high; script = r.script.formed; lines = p.history.lines; stop = p.history.stop }
