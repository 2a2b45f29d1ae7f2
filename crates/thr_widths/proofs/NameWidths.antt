-- Names of scripts that keep the rules are short.
use Rattle.std.proofs.Common.{◌≡◌, ℕ, zero, suc, ◌≤◌, Bool, true, false, List, [], ◌∷◌, ◌++◌, length, map, Option, Some, None, refl, arith, subst, sym, if◌then◌else◌}
use Rattle.std.proofs.lemmas.Bool.{leb-true, and_parts}
use Rattle.thr_values.specs.Exceptions.{builtin_names}
use Rattle.thr_syntax.specs.declared.tree.Script.{Script}
use Rattle.thr_syntax.specs.Spelling.{name_at}
use Rattle.thr_text.specs.declared.word.Word.{Word}
use Rattle.thr_text.specs.declared.word.Word.TheVariants.{Num, Name, Mark}
use Rattle.thr_text.specs.declared.head.Slot.{Slot}
use Rattle.thr_text.specs.declared.head.Slot.TheVariants.{Declared}
use Rattle.thr_text.specs.declared.head.Head.{Head}
use Rattle.thr_text.specs.Names.{has_name_form}
use Rattle.thr_text.specs.Lexing.{has_number_form, value_of, word_of}
use Rattle.thr_text.specs.Slots.{slots_of, slots_behind, head_of_line}
use Rattle.thr_text.specs.Tables.{Entry, placed, placed_after, rest_of, declared_at, declared_in_all, declared_in, declarations}
use Rattle.thr_text.specs.Reading.{Formed, own_lines}

-- ---- lists of short texts

abbrev pub AreShort : List (List ℕ) → Type 0
AreShort [] = Unit {0}
AreShort (t ∷ ts) = (length t ≤ 24) × AreShort ts

short_append : (ts us : List (List ℕ)) → AreShort ts → AreShort us → AreShort (ts ++ us)
short_append [] us h k = k
short_append (t ∷ ts) us h k = (h.0, short_append ts us h.1 k)

pub short_at : (ts : List (List ℕ)) (n : ℕ) → AreShort ts → length (name_at ts n) ≤ 24
short_at [] n h = omega arith
short_at (t ∷ ts) zero h = h.0
short_at (t ∷ ts) (suc n) h = short_at ts n h.1

-- ---- words

-- A name among words has the form of one.
abbrev IsShort : Word → Type 0
IsShort (Name text) = length text ≤ 24
IsShort _ = Unit {0}

abbrev AllShort : List Word → Type 0
AllShort [] = Unit {0}
AllShort (w ∷ ws) = IsShort w × AllShort ws

form_short : (text : List ℕ) → has_name_form text ≡ true → length text ≤ 24
unfolding has_name_form
form_short text h =
    let a = and_parts _ _ h in
    let b = and_parts _ _ a.0 in
    let c = and_parts _ _ b.0 in
    leb-true (length text) 24 c.1

unless_number : (text : List ℕ) (b : Bool) → has_name_form text ≡ b → IsShort (if b then Name text else Mark text)
unless_number text true e = form_short text e
unless_number text false e = tt

by_form : (text : List ℕ) (b : Bool) → IsShort (if b then Num (value_of text) else (if has_name_form text then Name text else Mark text))
by_form text true = tt
by_form text false = unless_number text (has_name_form text) refl

word_short : (text : List ℕ) → IsShort (word_of text)
unfolding word_of
word_short text = by_form text (has_number_form text)

words_short : (texts : List (List ℕ)) → AllShort (map word_of texts)
words_short [] = tt
words_short (t ∷ ts) = (word_short t, words_short ts)

-- ---- declared names

abbrev names_of : List Entry → List (List ℕ)
names_of es = map (λ (e : Entry). e.0) es

entry_short : (p : Slot) (w : Word) → IsShort w → AreShort (names_of (declared_at p w))
entry_short (Declared kind) (Name text) h = (h, tt)
entry_short (Declared kind) (Num n) h = tt
entry_short (Declared kind) (Mark text) h = tt
entry_short _ w h = tt

names_append : (es fs : List Entry) → AreShort (names_of es) → AreShort (names_of fs) → AreShort (names_of (es ++ fs))
names_append [] fs h k = k
names_append (e ∷ es) fs h k = (h.0, names_append es fs h.1 k)

placed_short : (slots : List Slot) (ws : List Word) → AllShort ws → AreShort (names_of (declared_in_all (placed slots ws)))
unfolding placed
placed_short slots [] h = tt
placed_short [] (w ∷ ws) h = tt
placed_short (p ∷ slots) (w ∷ ws) h =
    names_append (declared_at p w) (declared_in_all (placed (slots_behind p w ++ slots) ws)) (entry_short p w h.0) (placed_short (slots_behind p w ++ slots) ws h.1)

after_short : (head : Option Head) (ws : List Word) → AllShort ws → AreShort (names_of (declared_in_all (placed_after head ws)))
after_short None ws h = tt
after_short (Some head) ws h = placed_short (slots_of head) ws h

rest_short : (ws : List Word) → AllShort ws → AllShort (rest_of ws)
rest_short [] h = tt
rest_short (w ∷ ws) h = h.1

declared_short : (texts : List (List (List ℕ))) → AreShort (names_of (declarations (map (map word_of) texts)))
unfolding declarations
declared_short [] = tt
declared_short (t ∷ ts) =
    let ws = map word_of t in
    names_append (declared_in ws) (declarations (map (map word_of) ts))
    (after_short (head_of_line ws) (rest_of ws) (rest_short ws (words_short t))) (declared_short ts)

builtin_short : AreShort builtin_names
builtin_short = (omega arith, (omega arith, (omega arith, (omega arith, (omega arith, (omega arith, (omega arith, (omega arith, (omega arith, (omega arith, tt))))))))))

pub names_short : (s : Script) → Formed s → AreShort s.names
names_short s h =
    subst AreShort (sym h.names)
    (short_append builtin_names (map (λ (e : Entry). e.0) (declarations (own_lines s))) builtin_short (declared_short _))
