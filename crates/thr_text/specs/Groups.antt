-- How a word is looked for in a table that is parted by the first bytes of its words.
use Rattle.std.specs.Prelude.{ℕ, Bool, false, ◌≡◌, ◌&&◌, ◌||◌, not, ◌==◌, ◌-◌, nat_lt, if◌then◌else◌, List, [], ◌∷◌, length, get_or, slice_index, codes, Option}
use Rattle.std.specs.List.{list_any}
use Rattle.std.specs.Str.{bytes_eq}
use Rattle.thr_text.specs.declared.word.Word.{Word}
use Rattle.thr_text.specs.declared.word.Word.TheVariants.{Num, Name, Mark}
use Rattle.thr_text.specs.declared.head.Head.{Head}
use Rattle.thr_text.specs.Names.{is_letter}
use Rattle.thr_text.specs.Heads.{head_in}
use Rattle.thr_text.specs.Slots.{binary_words, is_one_of}

-- The group of a small letter by its place from `a` on, or else the others.
abbrev pub group_of : {X : Type 0} → List (List X) → List X → ℕ → List X
group_of groups others first = if nat_lt first 97 then others else get_or groups (first - 97) others

-- The word is one of the group of its first byte, each of which is read so.
abbrev pub is_found : {X : Type 0} → (X → List ℕ) → List (List X) → List X → List ℕ → Bool
is_found read groups others word = list_any (λ x. bytes_eq word (read x)) (group_of groups others (slice_index word 0))

unfoldable pub is_in_group : {X : Type 0} → (X → List ℕ) → List (List X) → List X → List ℕ → Bool
is_in_group read groups others word = is_found read groups others word

-- The first word among those in the group of its length.
abbrev pub head_found : List (List Head) → List ℕ → Option Head
head_found groups text = head_in (get_or groups (length text) []) text

unfoldable pub head_in_group : List (List Head) → List ℕ → Option Head
head_in_group groups text = head_found groups text

-- A text that may be an operator (docs/script.md, "Expressions"): it begins with no letter, or is longer and begins as one.
unfoldable pub may_operate_text : List ℕ → Bool
may_operate_text text =
    nat_lt 0 (length text)
    && (not (is_letter (slice_index text 0))
    || (nat_lt 1 (length text)
    && ((slice_index text 0 == 97) || (slice_index text 0 == 101) || (slice_index text 0 == 110) || (slice_index text 0 == 111))))

abbrev pub may_operate : Word → Bool
may_operate (Num n) = false
may_operate (Name text) = may_operate_text text
may_operate (Mark text) = may_operate_text text

-- The word is no operator.
pub record IsNoOperator (w : Word) : Type 0 where
  pub binary : is_one_of binary_words w ≡ false
  pub negation : is_one_of (codes "not" ∷ []) w ≡ false
  pub status : is_one_of (codes "exc_get_status" ∷ []) w ≡ false
  pub matches : is_one_of (codes "exc_matches" ∷ []) w ≡ false
