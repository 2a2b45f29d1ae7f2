-- The lines above a script are those that are read.
use Rattle.std.proofs.Common.{◌≡◌, ℕ, ◌<◌, ◌≤◌, ◌^◌, Bool, true, false, List, [], ◌∷◌, ◌++◌, Option, Some, None, refl, sym, ap, subst, ◌∙◌, arith}
use Rattle.std.specs.Prelude.{codes, if◌then◌else◌}
use Rattle.std.specs.List.{join_with_byte, list_all, slice_split}
use Rattle.std.specs.Str.{bytes_eq}
use Rattle.std.specs.Fmt.{decimal}
use Rattle.std.proofs.lemmas.List.Splits.{join_with_byte-slice_split}
use Rattle.std.proofs.lemmas.Slice.Eq.{bytes_eq-Decides}
use Rattle.thr_journals.specs.Numbers.{number_in}
use Rattle.thr_journals.specs.Fields.{word_as, alone}
use Rattle.thr_journals.specs.Lines.{line_words}
use Rattle.thr_journals.specs.Faults.{number_behind}
use Rattle.thr_journal_laws.specs.Numbers.{IsBetween}
use Rattle.thr_journal_laws.specs.Places.{IsReadAsPrinted}
use Rattle.thr_journal_laws.proofs.Shortest.{number_taken, number_again}
use Rattle.thr_journal_laws.proofs.PlaceLaws.{word_read, alone_taken, alone_again}
use Rattle.thr_journal_laws.proofs.CleanLaws.{IsClean, words_again, decimal_clean}

number_read : (least most : ℕ) → most < 2 ^ 64 → IsReadAsPrinted (word_as (number_in least most)) (λ n. decimal n ∷ []) (IsBetween least most)
number_read least most room = word_read (number_in least most) decimal (IsBetween least most) (λ w n e. number_taken least most n w room e) (λ n fits. number_again least most n room fits)

abbrev by_words : List ℕ → ℕ → ℕ → List (List ℕ) → Option ℕ
by_words before least most [] = None
by_words before least most (w ∷ ws) = if bytes_eq w before then alone (word_as (number_in least most)) ws else None

behind_words : (before : List ℕ) (least most : ℕ) (text : List ℕ) (ws : List (List ℕ)) → line_words text ≡ ws → number_behind before least most text ≡ by_words before least most ws
behind_words before least most text [] e = rw e refl
behind_words before least most text (w ∷ ws) e = rw e refl

-- The line is the word and the number.
abbrev pub IsNumberLine : List ℕ → ℕ → ℕ → List ℕ → ℕ → Type 0
IsNumberLine before least most text n = (text ≡ join_with_byte 32 (before ∷ decimal n ∷ [])) × IsBetween least most n

taken_by : (before : List ℕ) (least most : ℕ) → most < 2 ^ 64 → (text w : List ℕ) (ws : List (List ℕ)) (n : ℕ) (b : Bool) → line_words text ≡ w ∷ ws → bytes_eq w before ≡ b
    → by_words before least most (w ∷ ws) ≡ Some n → IsNumberLine before least most text n
taken_by before least most room text w ws n true cut same e =
    let t = alone_taken (word_as (number_in least most)) (λ n. decimal n ∷ []) (IsBetween least most) (number_read least most room) ws n (rw same at e) in
    (sym (join_with_byte-slice_split 32 text) ∙ ap (join_with_byte 32) (cut ∙ ap (λ (v : List ℕ). v ∷ ws) ((bytes_eq-Decides w before).0 same) ∙ ap (λ (vs : List (List ℕ)). before ∷ vs) t.0), t.1)
taken_by before least most room text w ws n false cut other e = absurd (let none : None ≡ Some n = rw other at e in cc)

number_by : (before : List ℕ) (least most : ℕ) → most < 2 ^ 64 → (text : List ℕ) (ws : List (List ℕ)) (n : ℕ) → line_words text ≡ ws → by_words before least most ws ≡ Some n → IsNumberLine before least most text n
number_by before least most room text [] n cut e = absurd cc
number_by before least most room text (w ∷ ws) n cut e = taken_by before least most room text w ws n (bytes_eq w before) cut refl e

pub number_line_taken : (before : List ℕ) (least most : ℕ) → most < 2 ^ 64 → (text : List ℕ) (n : ℕ) → number_behind before least most text ≡ Some n → IsNumberLine before least most text n
number_line_taken before least most room text n e = number_by before least most room text (line_words text) n refl (sym (behind_words before least most text (line_words text) refl) ∙ e)

pub number_line_again : (before : List ℕ) (least most n : ℕ) → most < 2 ^ 64 → IsClean before → IsBetween least most n → number_behind before least most (join_with_byte 32 (before ∷ decimal n ∷ [])) ≡ Some n
number_line_again before least most n room clean fits =
    let small : n < 2 ^ 64 = let high = fits.high in omega (arith, high, room) in
    let ws : List (List ℕ) = decimal n ∷ [] in
    behind_words before least most (join_with_byte 32 (before ∷ ws)) (before ∷ ws) (words_again before ws (clean, (decimal_clean n small, tt)))
    ∙ rw ((bytes_eq-Decides before before).1 refl) (alone_again (word_as (number_in least most)) (λ n. decimal n ∷ []) (IsBetween least most) (number_read least most room) n fits)
