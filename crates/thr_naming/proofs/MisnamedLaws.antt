-- The first fault of the third pass is that of the first line that breaks the rules for names or a limit.
use Rattle.std.proofs.Common.{◌≡◌, ◌⊎◌, inl, inr, ℕ, ◌<◌, ◌≤◌, Bool, true, false, List, [], ◌∷◌, ◌++◌, Option, Some, refl, ap, sym, ◌∙◌, arith}
use Rattle.std.specs.Prelude.{◌||◌, ◌&&◌, ◌==◌, not, nat_lt, nat_le, if◌then◌else◌}
use Rattle.std.proofs.lemmas.Bool.Decides.{nat_tests}
use Rattle.thr_text.specs.declared.word.Word.{Word}
use Rattle.thr_text.specs.Faults.{when, first_of}
use Rattle.thr_text.specs.Blocks.{Line, at_line}
use Rattle.thr_text.specs.NameFaults.{Above, above_next, nothing_above, name_misfits, has_main, lines_faults, with_last_line, words_in, own_faults, name_faults}
use Rattle.thr_naming.proofs.EntryLaws.{nil_left, nil_right, none_at}
use Rattle.thr_naming.specs.Misnamed.{AreWellNamed, above_after, IsFirstMisnamed, HasNoMain, IsBeforeLast, IsMisnamedInTime, IsTooLong}

-- ---- lines that keep the rules

-- a line's own faults, and those below it
faults_step : (whole : List (List Word)) (a : Above) (l : Line) (ls : List Line) → lines_faults whole a (l ∷ ls) ≡ at_line l.0 (name_misfits whole a l.1) ++ lines_faults whole (above_next a l.1) ls
unfolding lines_faults
faults_step whole a l ls = refl

named_first : (whole : List (List Word)) (a : Above) (l : Line) (ls : List Line) → name_misfits whole a l.1 ≡ [] → lines_faults whole a (l ∷ ls) ≡ lines_faults whole (above_next a l.1) ls
named_first whole a l ls e = rw (faults_step whole a l ls, e) refl

misnamed_first : (whole : List (List Word)) (a : Above) (l : Line) (ls : List Line) (n : ℕ) (more : List ℕ) → name_misfits whole a l.1 ≡ n ∷ more → first_of (lines_faults whole a (l ∷ ls)) ≡ Some (l.0, n)
misnamed_first whole a l ls n more e = rw (faults_step whole a l ls, e) refl

pub lines_are_named : (whole : List (List Word)) (a : Above) (ls : List Line) → lines_faults whole a ls ≡ [] → AreWellNamed whole a (words_in ls)
lines_are_named whole a [] e = tt
lines_are_named whole a (l ∷ ls) e =
    let own = at_line l.0 (name_misfits whole a l.1) in
    let below = lines_faults whole (above_next a l.1) ls in
    let none : own ++ below ≡ [] = sym (faults_step whole a l ls) ∙ e in
    (none_at l.0 (name_misfits whole a l.1) (nil_left own below none), lines_are_named whole (above_next a l.1) ls (nil_right own below none))

pub named_lines_have_none : (whole : List (List Word)) (a : Above) (ls : List Line) → AreWellNamed whole a (words_in ls) → lines_faults whole a ls ≡ []
unfolding lines_faults
named_lines_have_none whole a [] n = refl
named_lines_have_none whole a (l ∷ ls) n = named_first whole a l ls n.0 ∙ named_lines_have_none whole (above_next a l.1) ls n.1

-- ---- a text of any length, without the fault at line 20,001

abbrev no_main_at : ℕ → Bool → List (ℕ × ℕ)
no_main_at end b = at_line end (when (not b) 18)

main_is : (end : ℕ) (b : Bool) → no_main_at end b ≡ [] → b ≡ true
main_is end true e = refl
main_is end false e = absurd cc

-- the names keep the rules, and there is a `main`
pub own_parts : (end : ℕ) (ls : List Line) → own_faults end ls ≡ [] → AreWellNamed (words_in ls) nothing_above (words_in ls) × (has_main (words_in ls) ≡ true)
own_parts end ls e =
    let own = lines_faults (words_in ls) nothing_above ls in
    let last = no_main_at end (has_main (words_in ls)) in
    (lines_are_named (words_in ls) nothing_above ls (nil_left own last e), main_is end (has_main (words_in ls)) (nil_right own last e))

pub own_from_parts : (end : ℕ) (ls : List Line) → AreWellNamed (words_in ls) nothing_above (words_in ls) → has_main (words_in ls) ≡ true → own_faults end ls ≡ []
own_from_parts end ls n m = rw (named_lines_have_none (words_in ls) nothing_above ls n, m) refl

-- a line of lines below these, as in `IsFirstMisnamed`
record Found (whole : List (List Word)) (a : Above) (lines : List Line) (f : ℕ × ℕ) : Type 0 where
  over : List Line
  line : Line
  below : List Line
  greater : List ℕ
  split : lines ≡ over ++ line ∷ below
  named : AreWellNamed whole a (words_in over)
  misnamed : name_misfits whole (above_after a (words_in over)) line.1 ≡ f.1 ∷ greater
  at : f.0 ≡ line.0

comes_at_line : (whole : List (List Word)) (a : Above) (over : List Line) (l : Line) (below : List Line) (n : ℕ) (more : List ℕ) → AreWellNamed whole a (words_in over)
    → name_misfits whole (above_after a (words_in over)) l.1 ≡ n ∷ more → first_of (lines_faults whole a (over ++ l ∷ below)) ≡ Some (l.0, n)
comes_at_line whole a [] l below n more named e = misnamed_first whole a l below n more e
comes_at_line whole a (x ∷ over) l below n more named e =
    ap first_of (named_first whole a x (over ++ l ∷ below) named.0) ∙ comes_at_line whole (above_next a x.1) over l below n more named.1 e

same_fault : (a : ℕ) (f : ℕ × ℕ) → f.0 ≡ a → (let o : ℕ × ℕ = (a, f.1) in o) ≡ f
same_fault a f e = ap (λ (x : ℕ). (let o : ℕ × ℕ = (x, f.1) in o)) (sym e)

first_before : (xs ys : List (ℕ × ℕ)) (f : ℕ × ℕ) → first_of xs ≡ Some f → first_of (xs ++ ys) ≡ Some f
first_before [] ys f e = absurd cc
first_before (x ∷ xs) ys f e = e

own_comes : (end : ℕ) (lines : List Line) (f : ℕ × ℕ) → IsFirstMisnamed lines f → first_of (own_faults end lines) ≡ Some f
own_comes end lines f m =
    first_before (lines_faults (words_in lines) nothing_above lines) (no_main_at end (has_main (words_in lines))) f
    (ap (λ (ls : List Line). first_of (lines_faults (words_in lines) nothing_above ls)) m.split
    ∙ comes_at_line (words_in lines) nothing_above m.above m.line m.below f.1 m.greater m.named m.misnamed
    ∙ ap Some (same_fault m.line.0 f m.at))

own_comes_last : (end : ℕ) (lines : List Line) (f : ℕ × ℕ) → HasNoMain end lines f → first_of (own_faults end lines) ≡ Some f
own_comes_last end lines f h =
    ap (λ (fs : List (ℕ × ℕ)). first_of (fs ++ no_main_at end (has_main (words_in lines)))) (named_lines_have_none (words_in lines) nothing_above lines h.named)
    ∙ ap (λ (b : Bool). first_of (no_main_at end b)) h.without
    ∙ ap Some (sym h.at)

some_is : (a b : ℕ × ℕ) → Some a ≡ Some b → a ≡ b
some_is a b e = cc

line_found : (whole : List (List Word)) (a : Above) (l : Line) (ls : List Line) (n : ℕ) (more : List ℕ) (f : ℕ × ℕ) → name_misfits whole a l.1 ≡ n ∷ more → (let o : ℕ × ℕ = (l.0, n) in o) ≡ f
    → Found whole a (l ∷ ls) f
line_found whole a l ls n more f e is =
    record { over = []; line = l; below = ls; greater = more; split = refl; named = tt; misnamed = e ∙ ap (λ (x : ℕ × ℕ). x.1 ∷ more) is; at = ap (λ (x : ℕ × ℕ). x.0) (sym is) }

later_found : (whole : List (List Word)) (a : Above) (l : Line) (ls : List Line) (f : ℕ × ℕ) → name_misfits whole a l.1 ≡ [] → Found whole (above_next a l.1) ls f → Found whole a (l ∷ ls) f
later_found whole a l ls f e m =
    record { over = l ∷ m.over; line = m.line; below = m.below; greater = m.greater; split = ap (λ (x : List Line). l ∷ x) m.split; named = (e, m.named); misnamed = m.misnamed; at = m.at }

by_misfits : (whole : List (List Word)) (a : Above) (l : Line) (ls : List Line) (f : ℕ × ℕ) (ms : List ℕ) → name_misfits whole a l.1 ≡ ms → first_of (lines_faults whole a (l ∷ ls)) ≡ Some f
    → (first_of (lines_faults whole (above_next a l.1) ls) ≡ Some f → Found whole (above_next a l.1) ls f) → Found whole a (l ∷ ls) f
by_misfits whole a l ls f [] is e below = later_found whole a l ls f is (below (ap first_of (sym (named_first whole a l ls is)) ∙ e))
by_misfits whole a l ls f (n ∷ more) is e below = line_found whole a l ls n more f is (some_is (l.0, n) f (sym (misnamed_first whole a l ls n more is) ∙ e))

line_told : (whole : List (List Word)) (a : Above) (lines : List Line) (f : ℕ × ℕ) → first_of (lines_faults whole a lines) ≡ Some f → Found whole a lines f
unfolding lines_faults
line_told whole a [] f e = absurd cc
line_told whole a (l ∷ ls) f e = by_misfits whole a l ls f (name_misfits whole a l.1) refl e (line_told whole (above_next a l.1) ls f)

misnamed_found : (lines : List Line) (f : ℕ × ℕ) → Found (words_in lines) nothing_above lines f → IsFirstMisnamed lines f
misnamed_found lines f m = record { above = m.over; line = m.line; below = m.below; greater = m.greater; split = m.split; named = m.named; misnamed = m.misnamed; at = m.at }

abbrev Told : ℕ → List Line → ℕ × ℕ → Type 0
Told end lines f = IsFirstMisnamed lines f ⊎ HasNoMain end lines f

end_told : (end : ℕ) (lines : List Line) (f : ℕ × ℕ) (b : Bool) → lines_faults (words_in lines) nothing_above lines ≡ [] → has_main (words_in lines) ≡ b → first_of (no_main_at end b) ≡ Some f → Told end lines f
end_told end lines f true none is e = absurd cc
end_told end lines f false none is e = inr (record { named = lines_are_named (words_in lines) nothing_above lines none; without = is; at = sym (some_is (end, 18) f e) })

own_told_by : (end : ℕ) (lines : List Line) (f : ℕ × ℕ) (fs : List (ℕ × ℕ)) → lines_faults (words_in lines) nothing_above lines ≡ fs
    → first_of (fs ++ no_main_at end (has_main (words_in lines))) ≡ Some f → Told end lines f
own_told_by end lines f [] is e = end_told end lines f (has_main (words_in lines)) is refl e
own_told_by end lines f (g ∷ gs) is e = inl (misnamed_found lines f (line_told (words_in lines) nothing_above lines f (ap first_of is ∙ e)))

own_told : (end : ℕ) (lines : List Line) (f : ℕ × ℕ) → first_of (own_faults end lines) ≡ Some f → Told end lines f
own_told end lines f e = own_told_by end lines f (lines_faults (words_in lines) nothing_above lines) refl e

-- ---- at most 20,000 lines

within : (end : ℕ) → end ≤ 20001 → nat_le end 20001 ≡ true
within end le = grind (arith, nat_tests)

beyond : (end : ℕ) → 20001 < end → nat_le end 20001 ≡ false
beyond end lt = grind (arith, nat_tests)

pub short_text : (end : ℕ) (ls : List Line) → end ≤ 20001 → name_faults end ls ≡ own_faults end ls
unfolding name_faults
short_text end ls le = ap (λ (b : Bool). if b then own_faults end ls else with_last_line (own_faults end ls)) (within end le)

pub long_text : (end : ℕ) (ls : List Line) → 20001 < end → name_faults end ls ≡ with_last_line (own_faults end ls)
unfolding name_faults
long_text end ls lt = ap (λ (b : Bool). if b then own_faults end ls else with_last_line (own_faults end ls)) (beyond end lt)

pub fault_told : (end : ℕ) (lines : List Line) (f : ℕ × ℕ) → end ≤ 20001 → first_of (name_faults end lines) ≡ Some f → Told end lines f
fault_told end lines f le e = own_told end lines f (ap first_of (sym (short_text end lines le)) ∙ e)

pub first_misnamed_comes : (end : ℕ) (lines : List Line) (f : ℕ × ℕ) → end ≤ 20001 → IsFirstMisnamed lines f → first_of (name_faults end lines) ≡ Some f
first_misnamed_comes end lines f le m = ap first_of (short_text end lines le) ∙ own_comes end lines f m

pub no_main_comes : (end : ℕ) (lines : List Line) (f : ℕ × ℕ) → end ≤ 20001 → HasNoMain end lines f → first_of (name_faults end lines) ≡ Some f
no_main_comes end lines f le h = ap first_of (short_text end lines le) ∙ own_comes_last end lines f h

-- ---- more than 20,000 lines

abbrev is_before : ℕ × ℕ → Bool
is_before f = nat_lt f.0 20001 || ((f.0 == 20001) && nat_lt f.1 18)

numbers_before : (l n : ℕ) → (nat_lt l 20001 || ((l == 20001) && nat_lt n 18)) ≡ true → (l < 20001) ⊎ ((l ≡ 20001) × (n < 18))
numbers_before l n e = grind (arith, nat_tests)

before_numbers : (l n : ℕ) → (l < 20001) ⊎ ((l ≡ 20001) × (n < 18)) → (nat_lt l 20001 || ((l == 20001) && nat_lt n 18)) ≡ true
before_numbers l n e = grind (arith, nat_tests)

never_before : (end : ℕ) → 20001 < end → (nat_lt end 20001 || ((end == 20001) && nat_lt 18 18)) ≡ false
never_before end lt = grind (arith, nat_tests)

before_last : (f : ℕ × ℕ) → is_before f ≡ true → IsBeforeLast f
before_last f e = numbers_before f.0 f.1 e

last_before : (f : ℕ × ℕ) → IsBeforeLast f → is_before f ≡ true
last_before f b = before_numbers f.0 f.1 b

true_false : (b : Bool) → b ≡ true → b ≡ false → ⊥
true_false true t f = absurd cc
true_false false t f = absurd cc

not_last : (end : ℕ) (lines : List Line) (f : ℕ × ℕ) → 20001 < end → HasNoMain end lines f → is_before f ≡ true → ⊥
not_last end lines f lt h b = true_false (is_before f) b (ap is_before h.at ∙ never_before end lt)

in_time : (end : ℕ) (lines : List Line) (f : ℕ × ℕ) → 20001 < end → Told end lines f → is_before f ≡ true → IsFirstMisnamed lines f
in_time end lines f lt (inl m) b = m
in_time end lines f lt (inr h) b = absurd (not_last end lines f lt h b)

with_last : (f : ℕ × ℕ) (fs : List (ℕ × ℕ)) → with_last_line (f ∷ fs) ≡ (if is_before f then f ∷ with_last_line fs else (20001, 18) ∷ f ∷ fs)
unfolding with_last_line
with_last f fs = refl

abbrev first_by : Bool → ℕ × ℕ → List (ℕ × ℕ) → Option (ℕ × ℕ)
first_by b f fs = first_of (if b then f ∷ with_last_line fs else (20001, 18) ∷ f ∷ fs)

kept_first : (f g : ℕ × ℕ) (gs : List (ℕ × ℕ)) → g ≡ f → is_before f ≡ true → first_of (with_last_line (g ∷ gs)) ≡ Some f
kept_first f g gs is b = ap first_of (with_last g gs) ∙ ap (λ (x : Bool). first_by x g gs) (ap is_before is ∙ b) ∙ ap Some is

last_first : (g : ℕ × ℕ) (gs : List (ℕ × ℕ)) → is_before g ≡ false → first_of (with_last_line (g ∷ gs)) ≡ Some (20001, 18)
last_first g gs b = ap first_of (with_last g gs) ∙ ap (λ (x : Bool). first_by x g gs) b

last_alone : first_of (with_last_line []) ≡ Some (20001, 18)
unfolding with_last_line
last_alone = refl

kept : (fs : List (ℕ × ℕ)) (f : ℕ × ℕ) → first_of fs ≡ Some f → is_before f ≡ true → first_of (with_last_line fs) ≡ Some f
kept [] f e b = absurd cc
kept (g ∷ gs) f e b = kept_first f g gs (some_is g f e) b

pub misnamed_comes_in_time : (end : ℕ) (lines : List Line) (f : ℕ × ℕ) → 20001 < end → IsMisnamedInTime lines f → first_of (name_faults end lines) ≡ Some f
misnamed_comes_in_time end lines f lt m = ap first_of (long_text end lines lt) ∙ kept (own_faults end lines) f (own_comes end lines f m.first) (last_before f m.before)

last_comes : (end : ℕ) (lines : List Line) (fs : List (ℕ × ℕ)) → 20001 < end → own_faults end lines ≡ fs → ((g : ℕ × ℕ) → IsFirstMisnamed lines g → IsBeforeLast g → ⊥)
    → first_of (with_last_line fs) ≡ Some (20001, 18)
last_comes end lines [] lt is none = last_alone
last_comes end lines (g ∷ gs) lt is none = by (is_before g) refl
  where
    by : (b : Bool) → is_before g ≡ b → first_of (with_last_line (g ∷ gs)) ≡ Some (20001, 18)
    by true b = absurd (none g (in_time end lines g lt (own_told end lines g (ap first_of is)) b) (before_last g b))
    by false b = last_first g gs b

pub too_long_comes : (end : ℕ) (lines : List Line) (f : ℕ × ℕ) → 20001 < end → IsTooLong lines f → first_of (name_faults end lines) ≡ Some f
too_long_comes end lines f lt t =
    ap first_of (long_text end lines lt) ∙ last_comes end lines (own_faults end lines) lt refl t.none ∙ ap Some (sym t.at)

abbrev ToldLong : List Line → ℕ × ℕ → Type 0
ToldLong lines f = IsMisnamedInTime lines f ⊎ IsTooLong lines f

-- where the first fault isn't before that of line 20,001, no line's is
none_in_time : (end : ℕ) (lines : List Line) (fs : List (ℕ × ℕ)) (g : ℕ × ℕ) → own_faults end lines ≡ fs → ((f : ℕ × ℕ) → first_of fs ≡ Some f → is_before f ≡ false) → IsFirstMisnamed lines g → IsBeforeLast g → ⊥
none_in_time end lines fs g is late m b = true_false (is_before g) (last_before g b) (late g (ap first_of (sym is) ∙ own_comes end lines g m))

long_told_by : (end : ℕ) (lines : List Line) (f : ℕ × ℕ) (fs : List (ℕ × ℕ)) → 20001 < end → own_faults end lines ≡ fs → first_of (with_last_line fs) ≡ Some f → ToldLong lines f
long_told_by end lines f [] lt is e =
    inr (record { none = λ g. none_in_time end lines [] g is (λ h i. absurd cc); at = some_is f (20001, 18) (sym e ∙ last_alone) })
long_told_by end lines f (g ∷ gs) lt is e = by (is_before g) refl
  where
    by : (b : Bool) → is_before g ≡ b → ToldLong lines f
    by true b =
        let same : g ≡ f = some_is g f (sym (kept_first g g gs refl b) ∙ e) in
        let before : is_before f ≡ true = ap is_before (sym same) ∙ b in
        inl (record { first = in_time end lines f lt (own_told end lines f (ap first_of is ∙ ap Some same)) before; before = before_last f before })
    by false b =
        inr (record { none = λ h. none_in_time end lines (g ∷ gs) h is (λ x i. ap is_before (sym (some_is g x i)) ∙ b); at = some_is f (20001, 18) (sym e ∙ last_first g gs b) })

pub long_fault_told : (end : ℕ) (lines : List Line) (f : ℕ × ℕ) → 20001 < end → first_of (name_faults end lines) ≡ Some f → ToldLong lines f
long_fault_told end lines f lt e = long_told_by end lines f (own_faults end lines) lt refl (ap first_of (sym (long_text end lines lt)) ∙ e)
