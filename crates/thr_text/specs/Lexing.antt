-- The words of a line (docs/script.md, "Words").
use Rattle.std.specs.Prelude.{◌≡◌, ℕ, ◌^◌, ◌+◌, Bool, true, false, ◌&&◌, ◌||◌, not, ◌==◌, ◌*◌, ◌-◌, fold, nat_lt, nat_le, if◌then◌else◌, List, [], ◌∷◌, map, filter, length, drop, slice_index, ℤ, pos, neg_ℤ, FitsSigned}
use Rattle.std.specs.List.{slice_split, before_first, list_all, join_with_byte}
use Rattle.std.specs.Char.{is_ascii_digit}
use Rattle.std.specs.Int.{w64}
use Rattle.std.specs.Fmt.{signed_decimal}
use Rattle.thr_text.specs.declared.word.Word.{Word}
use Rattle.thr_text.specs.declared.word.Word.TheVariants.{Num, Name, Mark}
use Rattle.thr_text.specs.Names.{has_name_form}

-- ---- bytes

-- A byte that may stand in a line: a tab, or from space to `~`.
abbrev pub is_plain : ℕ → Bool
is_plain b = (b == 9) || (nat_le 32 b && nat_le b 126)

abbrev pub is_blank : ℕ → Bool
is_blank b = (b == 32) || (b == 9)

abbrev pub is_hash : ℕ → Bool
is_hash b = b == 35

-- ---- words as texts

abbrev pub is_something : List ℕ → Bool
is_something text = not (length text == 0)

-- The pieces between blanks that aren't empty.
abbrev pub pieces_between : List ℕ → List (List ℕ)
pieces_between text = filter is_something (slice_split is_blank text)

-- The texts of a line's words: what stands between blanks before the comment.
abbrev pub pieces_of : List ℕ → List (List ℕ)
pieces_of line = pieces_between (before_first is_hash line)

-- ---- numbers: digits, or `-` and digits

abbrev pub has_minus : List ℕ → Bool
has_minus text = slice_index text 0 == 45

abbrev pub digits_of : List ℕ → List ℕ
digits_of text = if has_minus text then drop 1 text else text

unfoldable pub has_number_form : List ℕ → Bool
has_number_form text = is_something (digits_of text) && list_all is_ascii_digit (digits_of text)

abbrev pub and_digit : ℕ → ℕ → ℕ
and_digit n d = n * 10 + (d - 48)

unfoldable pub magnitude : List ℕ → ℕ
magnitude text = fold and_digit 0 (digits_of text)

abbrev pub value_of : List ℕ → ℤ
value_of text = if has_minus text then neg_ℤ (pos (magnitude text)) else pos (magnitude text)

-- The text is a number outside i64.
unfoldable pub is_too_large : List ℕ → Bool
is_too_large text = has_number_form text && (if has_minus text then nat_lt (2 ^ 63) (magnitude text) else nat_le (2 ^ 63) (magnitude text))

-- ---- words

-- The word of a text: a number where it has the form of one, else a name where it has the form of one, else a mark.
unfoldable pub word_of : List ℕ → Word
word_of text = if has_number_form text then Num (value_of text) else (if has_name_form text then Name text else Mark text)

-- The words of a line.
abbrev pub words_of : List ℕ → List Word
words_of line = map word_of (pieces_of line)

-- ---- the canonical line (docs/script.md, "The canonical text")

-- The text of a word, a number in its shortest form.
abbrev pub word_text : Word → List ℕ
word_text (Num z) = signed_decimal z
word_text (Name text) = text
word_text (Mark text) = text

-- Words parted by one space.
abbrev pub line_text : List Word → List ℕ
line_text words = join_with_byte 32 (map word_text words)

-- A byte that may stand in a word.
abbrev pub is_ink : ℕ → Bool
is_ink b = is_plain b && (not (is_blank b) && not (is_hash b))

-- A word that some line has.
abbrev pub IsOfLine : Word → Type 0
IsOfLine (Num z) = FitsSigned w64 z
IsOfLine (Name text) = (has_number_form text ≡ false) × (has_name_form text ≡ true)
IsOfLine (Mark text) = (has_number_form text ≡ false) × (has_name_form text ≡ false) × (is_something text ≡ true) × (list_all is_ink text ≡ true)

abbrev pub AreOfLine : List Word → Type 0
AreOfLine [] = Unit {0}
AreOfLine (w ∷ ws) = IsOfLine w × AreOfLine ws
