-- Which fault of form a line has, told from what has a form.
use Rattle.std.proofs.Common.{◌≡◌, ℕ, true, false, pos, List, [], ◌∷◌, ◌++◌, map, Option, Some, None, refl, sym, ap, ◌∙◌, inl, inr, rules}
use Rattle.std.specs.Prelude.{◌⊎◌, codes}
use Rattle.thr_text.specs.declared.word.Word.{Word}
use Rattle.thr_text.specs.declared.word.Word.TheVariants.{Num, Name}
use Rattle.thr_text.specs.declared.head.Head.{Head}
use Rattle.thr_text.specs.declared.head.Head.TheVariants as head
use Rattle.thr_text.specs.declared.head.Choice.{Choice}
use Rattle.thr_text.specs.declared.head.Choice.TheVariants as choice
use Rattle.thr_text.specs.declared.head.Slot.{Slot}
use Rattle.thr_text.specs.declared.head.Slot.TheVariants.{Number, Fixed, Declared, Parameter, Local, Object, ObjectOr, Variable, Receiver, Exception, Expression}
use Rattle.thr_text.specs.Names.{has_name_form, reserved_words, is_reserved}
use Rattle.thr_text.specs.Lexing.{has_number_form, IsOfLine, AreOfLine}
use Rattle.thr_text.specs.Heads.{head_word, all_heads, head_in, head_of}
use Rattle.thr_text.specs.Slots.{may_end, can_stand, slots_behind, slots_of, misplaced, head_at, text_of, fault_after, form_fault}
use Rattle.thr_text.specs.Grammar.{HasForm}
use Rattle.thr_text.proofs.WordTables.{chosen, decided}
use Rattle.thr_text.proofs.FormLaws.{passed, head_decided, form_passes, passes_form}

-- ---- the two faults

some_is : (x y : ℕ) → Some x ≡ Some y → x ≡ y
some_is x y e = cc

some_no_none : (n : ℕ) → Some n ≡ None → ⊥
some_no_none n e = absurd cc

none_no_some : (n : ℕ) → None ≡ Some n → ⊥
none_no_some n e = absurd cc

six_apart : (n : ℕ) → n ≡ 6 → n ≡ 7 → ⊥
six_apart n e f = absurd cc

one_number : (o : Option ℕ) → o ≡ Some 6 → o ≡ Some 7 → ⊥
one_number o e f = six_apart 6 refl (some_is 6 7 (sym e ∙ f))

six_or_seven : (ws : List Word) (slots : List Slot) (n : ℕ) → misplaced slots ws ≡ Some n → (n ≡ 6) ⊎ (n ≡ 7)
unfolding misplaced
six_or_seven [] slots n e = elim (chosen (may_end slots) None (Some 7) (Some n) e) [
  | inl t ↦ absurd (none_no_some n t.1)
  | inr f ↦ inr (sym (some_is 7 n f.1))
]
six_or_seven (w ∷ ws) [] n e = inr (sym (some_is 7 n e))
six_or_seven (w ∷ ws) (s ∷ slots) n e = elim (chosen (can_stand s w) (misplaced (slots_behind s w ++ slots) ws) (Some 6) (Some n) e) [
  | inl t ↦ six_or_seven ws (slots_behind s w ++ slots) n t.1
  | inr f ↦ inl (sym (some_is 6 n f.1))
]

after_two : (o : Option Head) (ws : List Word) (n : ℕ) → fault_after o ws ≡ Some n → (n ≡ 6) ⊎ (n ≡ 7)
after_two None ws n e = inl (sym (some_is 6 n e))
after_two (Some h) ws n e = six_or_seven ws (slots_of h) n e

pub fault_is_two : (ws : List Word) (n : ℕ) → form_fault ws ≡ Some n → (n ≡ 6) ⊎ (n ≡ 7)
fault_is_two [] n e = absurd cc
fault_is_two (w ∷ ws) n e = after_two (head_at (text_of w)) ws n e

-- ---- each slot can be filled

sample_choice : Choice → Word
sample_choice choice.Interface = Name (codes "exc")
sample_choice choice.Policy = Name (codes "SCHED_RR")
sample_choice choice.Inherit = Name (codes "PTHREAD_DEFAULT_SCHED")
sample_choice choice.Cancel = Name (codes "CANCEL_ON")
sample_choice choice.MutexKind = Name (codes "MUTEX_FAST_NP")

sample : Slot → Word
sample Number = Num (pos 0)
sample (Fixed c) = sample_choice c
sample (Declared k) = Name (codes "a")
sample Parameter = Name (codes "a")
sample Local = Name (codes "a")
sample (Object k) = Name (codes "a")
sample (ObjectOr k) = Name (codes "a")
sample Variable = Name (codes "a")
sample Receiver = Name (codes "a")
sample Exception = Name (codes "a")
sample Expression = Num (pos 0)

choice_stands : (c : Choice) → can_stand (Fixed c) (sample_choice c) ≡ true
unfolding sample_choice
choice_stands choice.Interface = refl
choice_stands choice.Policy = refl
choice_stands choice.Inherit = refl
choice_stands choice.Cancel = refl
choice_stands choice.MutexKind = refl

sample_stands : (s : Slot) → can_stand s (sample s) ≡ true
unfolding sample has_name_form reserved_words is_reserved
sample_stands Number = refl
sample_stands (Fixed c) = choice_stands c
sample_stands (Declared k) = refl
sample_stands Parameter = refl
sample_stands Local = refl
sample_stands (Object k) = refl
sample_stands (ObjectOr k) = refl
sample_stands Variable = refl
sample_stands Receiver = refl
sample_stands Exception = refl
sample_stands Expression = refl

sample_opens_none : (s : Slot) → slots_behind s (sample s) ≡ []
unfolding sample
sample_opens_none Number = refl
sample_opens_none (Fixed c) = refl
sample_opens_none (Declared k) = refl
sample_opens_none Parameter = refl
sample_opens_none Local = refl
sample_opens_none (Object k) = refl
sample_opens_none (ObjectOr k) = refl
sample_opens_none Variable = refl
sample_opens_none Receiver = refl
sample_opens_none Exception = refl
sample_opens_none Expression = refl

abbrev filling : List Slot → List Word
filling slots = map sample slots

filling_passes : (slots : List Slot) → misplaced slots (filling slots) ≡ None
unfolding misplaced
filling_passes [] = refl
filling_passes (s ∷ slots) = passed s (sample s) slots (filling slots) (sample_stands s) (sample_opens_none s) ∙ filling_passes slots

choice_of_line : (c : Choice) → IsOfLine (sample_choice c)
unfolding sample_choice has_name_form has_number_form
choice_of_line choice.Interface = (refl, refl)
choice_of_line choice.Policy = (refl, refl)
choice_of_line choice.Inherit = (refl, refl)
choice_of_line choice.Cancel = (refl, refl)
choice_of_line choice.MutexKind = (refl, refl)

sample_of_line : (s : Slot) → IsOfLine (sample s)
unfolding sample has_name_form has_number_form
sample_of_line Number = search rules
sample_of_line (Fixed c) = choice_of_line c
sample_of_line (Declared k) = (refl, refl)
sample_of_line Parameter = (refl, refl)
sample_of_line Local = (refl, refl)
sample_of_line (Object k) = (refl, refl)
sample_of_line (ObjectOr k) = (refl, refl)
sample_of_line Variable = (refl, refl)
sample_of_line Receiver = (refl, refl)
sample_of_line Exception = (refl, refl)
sample_of_line Expression = search rules

filling_of_line : (slots : List Slot) → AreOfLine (filling slots)
filling_of_line [] = tt
filling_of_line (s ∷ slots) = (sample_of_line s, filling_of_line slots)

-- ---- one word

stepped : (s : Slot) (w : Word) (slots : List Slot) (ws : List Word) → can_stand s w ≡ true → misplaced (s ∷ slots) (w ∷ ws) ≡ misplaced (slots_behind s w ++ slots) ws
unfolding misplaced
stepped s w slots ws can = rw can refl

refused : (s : Slot) (w : Word) (slots : List Slot) (ws : List Word) → can_stand s w ≡ false → misplaced (s ∷ slots) (w ∷ ws) ≡ Some 6
unfolding misplaced
refused s w slots ws can = rw can refl

-- A word that can stand, where what begins with it passes.
stands : (s : Slot) (w : Word) (slots : List Slot) (ws : List Word) → misplaced (s ∷ slots) (w ∷ ws) ≡ None → can_stand s w ≡ true
unfolding misplaced
stands s w slots ws e = elim (chosen (can_stand s w) (misplaced (slots_behind s w ++ slots) ws) (Some 6) None e) [
  | inl t ↦ t.0
  | inr f ↦ absurd (some_no_none 6 f.1)
]

over : (w : Word) (ws : List Word) → misplaced [] (w ∷ ws) ≡ Some 7
unfolding misplaced
over w ws = refl

-- ---- F6 at slots: a word stands where another could, and nothing that begins so passes

abbrev Wrong : List Slot → List Word → Type 0
Wrong slots ws =
    (front : List Word) × (w : Word) × (rest : List Word) × (ws ≡ front ++ w ∷ rest)
    × ((v : Word) × (more : List Word) × AreOfLine (v ∷ more) × (misplaced slots (front ++ v ∷ more) ≡ None))
    × ((more : List Word) → misplaced slots (front ++ w ∷ more) ≡ None → ⊥)

wrong_below : (s : Slot) (w : Word) (slots : List Slot) (ws : List Word) → can_stand s w ≡ true → Wrong (slots_behind s w ++ slots) ws → Wrong (s ∷ slots) (w ∷ ws)
wrong_below s w slots ws can i = (
  w ∷ i.0,
  i.1,
  i.2,
  ap (λ (x : List Word). w ∷ x) i.3,
  (i.4.0, i.4.1, i.4.2, stepped s w slots (i.0 ++ i.4.0 ∷ i.4.1) can ∙ i.4.3),
  λ more e. i.5 more (sym (stepped s w slots (i.0 ++ i.1 ∷ more) can) ∙ e),
)

wrong_here : (s : Slot) (w : Word) (slots : List Slot) (ws : List Word) → can_stand s w ≡ false → Wrong (s ∷ slots) (w ∷ ws)
wrong_here s w slots ws can = (
  [],
  w,
  ws,
  refl,
  (sample s, filling slots, filling_of_line (s ∷ slots), filling_passes (s ∷ slots)),
  λ more e. some_no_none 6 (sym (refused s w slots more can) ∙ e),
)

six_is_wrong : (ws : List Word) (slots : List Slot) → misplaced slots ws ≡ Some 6 → Wrong slots ws
unfolding misplaced
six_is_wrong [] slots e = elim (chosen (may_end slots) None (Some 7) (Some 6) e) [
  | inl t ↦ absurd (none_no_some 6 t.1)
  | inr f ↦ absurd (one_number (Some 7) f.1 refl)
]
six_is_wrong (w ∷ ws) [] e = absurd (one_number (Some 7) e refl)
six_is_wrong (w ∷ ws) (s ∷ slots) e = elim (chosen (can_stand s w) (misplaced (slots_behind s w ++ slots) ws) (Some 6) (Some 6) e) [
  | inl t ↦ wrong_below s w slots ws t.0 (six_is_wrong ws (slots_behind s w ++ slots) t.1)
  | inr f ↦ wrong_here s w slots ws f.0
]

wrong_is_six : (front : List Word) (slots : List Slot) (w : Word) (rest : List Word) (v : Word) (more : List Word) → misplaced slots (front ++ v ∷ more) ≡ None → ((others : List Word) → misplaced slots (front ++ w ∷ others) ≡ None → ⊥) → misplaced slots (front ++ w ∷ rest) ≡ Some 6
wrong_is_six [] [] w rest v more can never = absurd (some_no_none 7 (sym (over v more) ∙ can))
wrong_is_six [] (s ∷ slots) w rest v more can never = elim (decided (can_stand s w)) [
  | inl t ↦ absurd (never (filling (slots_behind s w ++ slots)) (stepped s w slots (filling (slots_behind s w ++ slots)) t ∙ filling_passes (slots_behind s w ++ slots)))
  | inr f ↦ refused s w slots rest f
]
wrong_is_six (x ∷ front) [] w rest v more can never = absurd (some_no_none 7 (sym (over x (front ++ v ∷ more)) ∙ can))
wrong_is_six (x ∷ front) (s ∷ slots) w rest v more can never =
    let t = stands s x slots (front ++ v ∷ more) can in
    stepped s x slots (front ++ w ∷ rest) t
    ∙ wrong_is_six front (slots_behind s x ++ slots) w rest v more (sym (stepped s x slots (front ++ v ∷ more) t) ∙ can)
    (λ others e. never others (stepped s x slots (front ++ w ∷ others) t ∙ e))

-- ---- F7 at slots: more is wanted, or what stands after a whole form is too much

abbrev Short : List Slot → List Word → Type 0
Short slots ws = (v : Word) × (more : List Word) × AreOfLine (v ∷ more) × (misplaced slots (ws ++ v ∷ more) ≡ None)

abbrev Long : List Slot → List Word → Type 0
Long slots ws =
    (front : List Word) × (w : Word) × (rest : List Word) × (ws ≡ front ++ w ∷ rest) × (misplaced slots front ≡ None)
    × ((v : Word) (more : List Word) → misplaced slots (front ++ v ∷ more) ≡ None → ⊥)

short_or_long_below : (s : Slot) (w : Word) (slots : List Slot) (ws : List Word) → can_stand s w ≡ true → Short (slots_behind s w ++ slots) ws ⊎ Long (slots_behind s w ++ slots) ws → Short (s ∷ slots) (w ∷ ws) ⊎ Long (s ∷ slots) (w ∷ ws)
short_or_long_below s w slots ws can i = elim i [
  | inl a ↦ inl (a.0, a.1, a.2, stepped s w slots (ws ++ a.0 ∷ a.1) can ∙ a.3)
  | inr b ↦ inr (
    w ∷ b.0,
    b.1,
    b.2,
    ap (λ (x : List Word). w ∷ x) b.3,
    stepped s w slots b.0 can ∙ b.4,
    λ v more e. b.5 v more (sym (stepped s w slots (b.0 ++ v ∷ more) can) ∙ e),
  )
]

ends_short : (slots : List Slot) → misplaced slots [] ≡ Some 7 → Short slots []
unfolding misplaced
ends_short [] e = absurd (none_no_some 7 e)
ends_short (s ∷ slots) e = (sample s, filling slots, filling_of_line (s ∷ slots), filling_passes (s ∷ slots))

goes_over : (w : Word) (ws : List Word) → Long [] (w ∷ ws)
unfolding misplaced
goes_over w ws = ([], w, ws, refl, refl, λ v more e. some_no_none 7 e)

seven_is_short_or_long : (ws : List Word) (slots : List Slot) → misplaced slots ws ≡ Some 7 → Short slots ws ⊎ Long slots ws
unfolding misplaced
seven_is_short_or_long [] slots e = inl (ends_short slots e)
seven_is_short_or_long (w ∷ ws) [] e = inr (goes_over w ws)
seven_is_short_or_long (w ∷ ws) (s ∷ slots) e = elim (chosen (can_stand s w) (misplaced (slots_behind s w ++ slots) ws) (Some 6) (Some 7) e) [
  | inl t ↦ short_or_long_below s w slots ws t.0 (seven_is_short_or_long ws (slots_behind s w ++ slots) t.1)
  | inr f ↦ absurd (one_number (Some 6) refl f.1)
]

ended_short : (slots : List Slot) → (misplaced slots [] ≡ None → ⊥) → misplaced slots [] ≡ Some 7
unfolding misplaced
ended_short slots never = elim (decided (may_end slots)) [
  | inl t ↦ absurd (never (rw t refl))
  | inr f ↦ rw f refl
]

short_is_seven : (ws : List Word) (slots : List Slot) (v : Word) (more : List Word) → misplaced slots (ws ++ v ∷ more) ≡ None → (misplaced slots ws ≡ None → ⊥) → misplaced slots ws ≡ Some 7
short_is_seven [] slots v more can never = ended_short slots never
short_is_seven (w ∷ ws) [] v more can never = over w ws
short_is_seven (w ∷ ws) (s ∷ slots) v more can never =
    let t = stands s w slots (ws ++ v ∷ more) can in
    stepped s w slots ws t
    ∙ short_is_seven ws (slots_behind s w ++ slots) v more (sym (stepped s w slots (ws ++ v ∷ more) t) ∙ can) (λ e. never (stepped s w slots ws t ∙ e))

long_is_seven : (front : List Word) (slots : List Slot) (w : Word) (rest : List Word) → misplaced slots front ≡ None → ((v : Word) (more : List Word) → misplaced slots (front ++ v ∷ more) ≡ None → ⊥) → misplaced slots (front ++ w ∷ rest) ≡ Some 7
long_is_seven [] [] w rest can never = over w rest
long_is_seven [] (s ∷ slots) w rest can never = absurd (never (sample s) (filling slots) (filling_passes (s ∷ slots)))
long_is_seven (x ∷ front) [] w rest can never = over x (front ++ w ∷ rest)
long_is_seven (x ∷ front) (s ∷ slots) w rest can never =
    let t = stands s x slots front can in
    stepped s x slots (front ++ w ∷ rest) t
    ∙ long_is_seven front (slots_behind s x ++ slots) w rest (sym (stepped s x slots front t) ∙ can)
    (λ v more e. never v more (stepped s x slots (front ++ v ∷ more) t ∙ e))

-- ---- lines

line_is : (x : Word) (h : Head) → head_at (text_of x) ≡ Some h → (ws : List Word) → form_fault (x ∷ ws) ≡ misplaced (slots_of h) ws
line_is x h is ws = ap (λ (o : Option Head). fault_after o ws) is

no_line : (x : Word) → head_at (text_of x) ≡ None → (ws : List Word) → form_fault (x ∷ ws) ≡ Some 6
no_line x none ws = ap (λ (o : Option Head). fault_after o ws) none

no_form : (x : Word) → head_at (text_of x) ≡ None → (ws : List Word) → HasForm (x ∷ ws) → ⊥
no_form x none ws h = some_no_none 6 (sym (no_line x none ws) ∙ form_passes (x ∷ ws) h)

reraise_of_line : AreOfLine (Name (codes "reraise") ∷ [])
unfolding has_name_form has_number_form
reraise_of_line = ((refl, refl), tt)

reraise_has_form : HasForm (Name (codes "reraise") ∷ [])
unfolding head_word all_heads head_in head_of slots_of
reraise_has_form = (Name (codes "reraise"), [], head.Reraise, refl, refl, refl)

pub line_six_says : (ws : List Word) → form_fault ws ≡ Some 6 →
    (front : List Word) × (w : Word) × (rest : List Word) × (ws ≡ front ++ w ∷ rest)
    × ((v : Word) × (more : List Word) × AreOfLine (v ∷ more) × HasForm (front ++ v ∷ more))
    × ((more : List Word) → HasForm (front ++ w ∷ more) → ⊥)
line_six_says [] e = absurd (none_no_some 6 e)
line_six_says (x ∷ ws) e = elim (head_decided (head_at (text_of x))) [
  | inl none ↦ ([], x, ws, refl, (Name (codes "reraise"), [], reraise_of_line, reraise_has_form), λ more h. no_form x none more h)
  | inr some ↦
      let line = line_is x some.0 some.1 in
      let i = six_is_wrong ws (slots_of some.0) (sym (line ws) ∙ e) in (
        x ∷ i.0,
        i.1,
        i.2,
        ap (λ (y : List Word). x ∷ y) i.3,
        (i.4.0, i.4.1, i.4.2, passes_form x (i.0 ++ i.4.0 ∷ i.4.1) (line (i.0 ++ i.4.0 ∷ i.4.1) ∙ i.4.3)),
        λ more h. i.5 more (sym (line (i.0 ++ i.1 ∷ more)) ∙ form_passes (x ∷ (i.0 ++ i.1 ∷ more)) h),
      )
]

pub line_six_comes : (front : List Word) (w : Word) (rest : List Word) (v : Word) (more : List Word) → HasForm (front ++ v ∷ more) → ((others : List Word) → HasForm (front ++ w ∷ others) → ⊥) → form_fault (front ++ w ∷ rest) ≡ Some 6
line_six_comes [] w rest v more can never = elim (head_decided (head_at (text_of w))) [
  | inl none ↦ no_line w none rest
  | inr some ↦ absurd (never (filling (slots_of some.0)) (passes_form w (filling (slots_of some.0)) (line_is w some.0 some.1 (filling (slots_of some.0)) ∙ filling_passes (slots_of some.0))))
]
line_six_comes (x ∷ front) w rest v more can never = elim (head_decided (head_at (text_of x))) [
  | inl none ↦ absurd (no_form x none (front ++ v ∷ more) can)
  | inr some ↦
      let line = line_is x some.0 some.1 in
      line (front ++ w ∷ rest)
      ∙ wrong_is_six front (slots_of some.0) w rest v more (sym (line (front ++ v ∷ more)) ∙ form_passes (x ∷ (front ++ v ∷ more)) can)
      (λ others e. never others (passes_form x (front ++ w ∷ others) (line (front ++ w ∷ others) ∙ e)))
]

pub line_seven_says : (ws : List Word) → form_fault ws ≡ Some 7 →
    ((v : Word) × (more : List Word) × AreOfLine (v ∷ more) × HasForm (ws ++ v ∷ more))
    ⊎ ((front : List Word) × (w : Word) × (rest : List Word) × (ws ≡ front ++ w ∷ rest) × HasForm front
    × ((v : Word) (more : List Word) → HasForm (front ++ v ∷ more) → ⊥))
line_seven_says [] e = absurd (none_no_some 7 e)
line_seven_says (x ∷ ws) e = elim (head_decided (head_at (text_of x))) [
  | inl none ↦ absurd (one_number (Some 6) refl (sym (no_line x none ws) ∙ e))
  | inr some ↦
      let line = line_is x some.0 some.1 in
      elim (seven_is_short_or_long ws (slots_of some.0) (sym (line ws) ∙ e)) [
        | inl a ↦ inl (a.0, a.1, a.2, passes_form x (ws ++ a.0 ∷ a.1) (line (ws ++ a.0 ∷ a.1) ∙ a.3))
        | inr b ↦ inr (
          x ∷ b.0,
          b.1,
          b.2,
          ap (λ (y : List Word). x ∷ y) b.3,
          passes_form x b.0 (line b.0 ∙ b.4),
          λ v more h. b.5 v more (sym (line (b.0 ++ v ∷ more)) ∙ form_passes (x ∷ (b.0 ++ v ∷ more)) h),
        )
      ]
]

pub line_short : (x : Word) (ws : List Word) (v : Word) (more : List Word) → HasForm (x ∷ (ws ++ v ∷ more)) → (HasForm (x ∷ ws) → ⊥) → form_fault (x ∷ ws) ≡ Some 7
line_short x ws v more can never = elim (head_decided (head_at (text_of x))) [
  | inl none ↦ absurd (no_form x none (ws ++ v ∷ more) can)
  | inr some ↦
      let line = line_is x some.0 some.1 in
      line ws
      ∙ short_is_seven ws (slots_of some.0) v more (sym (line (ws ++ v ∷ more)) ∙ form_passes (x ∷ (ws ++ v ∷ more)) can)
      (λ e. never (passes_form x ws (line ws ∙ e)))
]

pub line_long : (front : List Word) (w : Word) (rest : List Word) → HasForm front → ((v : Word) (more : List Word) → HasForm (front ++ v ∷ more) → ⊥) → form_fault (front ++ w ∷ rest) ≡ Some 7
line_long [] w rest can never = absurd (let k : [] ≡ can.0 ∷ can.1 = can.3 in cc)
line_long (x ∷ front) w rest can never = elim (head_decided (head_at (text_of x))) [
  | inl none ↦ absurd (no_form x none front can)
  | inr some ↦
      let line = line_is x some.0 some.1 in
      line (front ++ w ∷ rest)
      ∙ long_is_seven front (slots_of some.0) w rest (sym (line front) ∙ form_passes (x ∷ front) can)
      (λ v more e. never v more (passes_form x (front ++ v ∷ more) (line (front ++ v ∷ more) ∙ e)))
]
