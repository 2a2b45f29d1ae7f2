-- The walk answers the first of the faults that the definitions list, and nothing where there is none.
use Rattle.std.proofs.Common.{◌≡◌, ℕ, ◌+◌, Bool, true, false, List, [], ◌∷◌, ◌++◌, length, map, Option, Some, None, refl, sym, ap, ◌∙◌, is_some, append_assoc, length-append}
use Rattle.std.specs.Prelude.{◌||◌, ◌&&◌, not, nat_le, codes, if◌then◌else◌}
use Rattle.std.specs.List.{list_any}
use Rattle.std.proofs.lemmas.List.{append-nil}
use Rattle.std.proofs.lemmas.List.Folds.{list_any-append}
use Rattle.thr_values.specs.Exceptions.{builtin_names}
use Rattle.thr_text.specs.declared.word.Word.{Word}
use Rattle.thr_text.specs.declared.word.Word.TheVariants.{Num, Name, Mark}
use Rattle.thr_text.specs.declared.head.Head.{Head}
use Rattle.thr_text.specs.declared.head.Head.TheVariants as head
use Rattle.thr_text.specs.declared.head.Slot.{Slot}
use Rattle.thr_text.specs.declared.head.Slot.TheVariants.{Number, Fixed, Declared, Parameter, Local, Object, ObjectOr, Variable, Receiver, Exception, Expression}
use Rattle.thr_text.specs.declared.object.Object as kinds
use Rattle.thr_text.specs.declared.object.Object.TheVariants as object
use Rattle.thr_text.specs.Faults.{when, first_of}
use Rattle.thr_text.specs.Slots.{is_a_name, head_of_line}
use Rattle.thr_text.specs.Blocks.{Line, at_line}
use Rattle.thr_text.specs.Tables.{Entry, Placed, placed_in, kind_in, entries_of, builtin_entry, declarations, declared_in, is_among}
use Rattle.thr_text.specs.NameFaults.{Sense, Own, sense_of, sense_of_kind, is_unknown, is_of_kind, refers, suits, test_name, is_undeclared, is_misused, is_again_at, is_again_word, same_line, locals_below, Above, above_next, nothing_above, name_misfits, has_main, lines_faults, with_last_line, words_in, own_faults, name_faults}
use Rattle.thr_naming.specs.declared.context.Context.{Context}
use Rattle.thr_naming.specs.Judging.{noted, table_of, start, after, is_interface, is_limit, least, misfit, at_or, first_misfit, or_no_main, not_after_last, or_too_long}
use Rattle.thr_naming.proofs.TableLaws.{noted_append}
use Rattle.thr_naming.proofs.NameLaws.{table_kind}

any_same : {X : Type 0} (p q : X → Bool) → ((x : X) → p x ≡ q x) → (xs : List X) → list_any p xs ≡ list_any q xs
any_same p q h [] = refl
any_same p q h (x ∷ xs) = rw (h x, any_same p q h xs) refl

-- ---- a line against what stands above it

abbrev pub context_of : Above → Context
context_of a = record {
  names = table_of a.lines;
  locals = a.locals;
  depth = a.depth;
  count = length (declarations a.lines);
  has_interface = list_any (λ l. is_interface (head_of_line l)) a.lines;
  has_limit = list_any (λ l. is_limit (head_of_line l)) a.lines;
}

again_at : (p : Slot) (name : List ℕ) (whole above : List (List Word)) (locals : List (List ℕ)) → is_again_at p name (table_of whole) (table_of above) locals ≡ is_again_at p name (entries_of whole) (entries_of above) locals
again_at (Declared kind) name whole above locals = ap is_some (table_kind above name)
again_at Parameter name whole above locals = ap is_some (table_kind whole name)
again_at Local name whole above locals = ap (λ (o : Option kinds.Object). is_some o || is_among locals name) (table_kind whole name)
again_at Number name whole above locals = refl
again_at (Fixed c) name whole above locals = refl
again_at (Object kind) name whole above locals = refl
again_at (ObjectOr kind) name whole above locals = refl
again_at Variable name whole above locals = refl
again_at Receiver name whole above locals = refl
again_at Exception name whole above locals = refl
again_at Expression name whole above locals = refl

again_word : (p : Slot) (w : Word) (whole above : List (List Word)) (locals : List (List ℕ)) → is_again_word p w (table_of whole) (table_of above) locals ≡ is_again_word p w (entries_of whole) (entries_of above) locals
again_word p (Num n) whole above locals = refl
again_word p (Name text) whole above locals = again_at p text whole above locals
again_word p (Mark text) whole above locals = refl

sense_same : (whole : List (List Word)) (locals : List (List ℕ)) (name : List ℕ) → sense_of (table_of whole) locals name ≡ sense_of (entries_of whole) locals name
sense_same whole locals name = ap (λ (o : Option kinds.Object). if is_among locals name then Own else sense_of_kind o) (table_kind whole name)

test_same : (test : Sense → Bool) (whole : List (List Word)) (locals : List (List ℕ)) (w : Word) → test_name test (table_of whole) locals w ≡ test_name test (entries_of whole) locals w
test_same test whole locals (Num n) = refl
test_same test whole locals (Name text) = ap test (sense_same whole locals text)
test_same test whole locals (Mark text) = refl

undeclared_same : (whole : List (List Word)) (locals : List (List ℕ)) (x : Placed) → is_undeclared (table_of whole) locals x ≡ is_undeclared (entries_of whole) locals x
undeclared_same whole locals x = ap (λ (b : Bool). (refers x.0 && is_a_name x.1) && b) (test_same is_unknown whole locals x.1)

misused_same : (whole : List (List Word)) (locals : List (List ℕ)) (x : Placed) → is_misused (table_of whole) locals x ≡ is_misused (entries_of whole) locals x
misused_same whole locals x = ap (λ (b : Bool). (refers x.0 && is_a_name x.1) && b) (test_same (λ s. not (suits x.0 s)) whole locals x.1)

-- ---- a further `interface` or `limit` line

none_by : (a b : Bool) → false ≡ ((a && false) || (b && false))
none_by true true = refl
none_by true false = refl
none_by false true = refl
none_by false false = refl

after_interface : (h : Option Head) → same_line (Some head.Interface) h ≡ ((is_interface h && true) || (is_limit h && false))
after_interface None = refl
after_interface (Some head.Interface) = refl
after_interface (Some head.Limit) = refl
after_interface (Some head.Shared) = refl
after_interface (Some head.Exception) = refl
after_interface (Some head.Status) = refl
after_interface (Some head.Mutex) = refl
after_interface (Some head.Mutexattr) = refl
after_interface (Some head.Cond) = refl
after_interface (Some head.Attr) = refl
after_interface (Some head.Key) = refl
after_interface (Some head.Once) = refl
after_interface (Some head.Pipe) = refl
after_interface (Some head.Routine) = refl
after_interface (Some head.Local) = refl
after_interface (Some head.Set) = refl
after_interface (Some head.Say) = refl
after_interface (Some head.If) = refl
after_interface (Some head.Else) = refl
after_interface (Some head.While) = refl
after_interface (Some head.Try) = refl
after_interface (Some head.Catch) = refl
after_interface (Some head.CatchAll) = refl
after_interface (Some head.Finally) = refl
after_interface (Some head.Endtry) = refl
after_interface (Some head.Raise) = refl
after_interface (Some head.Reraise) = refl
after_interface (Some head.Call) = refl
after_interface (Some head.Return) = refl
after_interface (Some head.Exit) = refl
after_interface (Some head.End) = refl
after_interface (Some (head.Dce c)) = refl

after_limit : (h : Option Head) → same_line (Some head.Limit) h ≡ ((is_interface h && false) || (is_limit h && true))
after_limit None = refl
after_limit (Some head.Interface) = refl
after_limit (Some head.Limit) = refl
after_limit (Some head.Shared) = refl
after_limit (Some head.Exception) = refl
after_limit (Some head.Status) = refl
after_limit (Some head.Mutex) = refl
after_limit (Some head.Mutexattr) = refl
after_limit (Some head.Cond) = refl
after_limit (Some head.Attr) = refl
after_limit (Some head.Key) = refl
after_limit (Some head.Once) = refl
after_limit (Some head.Pipe) = refl
after_limit (Some head.Routine) = refl
after_limit (Some head.Local) = refl
after_limit (Some head.Set) = refl
after_limit (Some head.Say) = refl
after_limit (Some head.If) = refl
after_limit (Some head.Else) = refl
after_limit (Some head.While) = refl
after_limit (Some head.Try) = refl
after_limit (Some head.Catch) = refl
after_limit (Some head.CatchAll) = refl
after_limit (Some head.Finally) = refl
after_limit (Some head.Endtry) = refl
after_limit (Some head.Raise) = refl
after_limit (Some head.Reraise) = refl
after_limit (Some head.Call) = refl
after_limit (Some head.Return) = refl
after_limit (Some head.Exit) = refl
after_limit (Some head.End) = refl
after_limit (Some (head.Dce c)) = refl

same_is : (g h : Option Head) → same_line g h ≡ ((is_interface h && is_interface g) || (is_limit h && is_limit g))
same_is None h = none_by (is_interface h) (is_limit h)
same_is (Some head.Interface) h = after_interface h
same_is (Some head.Limit) h = after_limit h
same_is (Some head.Shared) h = none_by (is_interface h) (is_limit h)
same_is (Some head.Exception) h = none_by (is_interface h) (is_limit h)
same_is (Some head.Status) h = none_by (is_interface h) (is_limit h)
same_is (Some head.Mutex) h = none_by (is_interface h) (is_limit h)
same_is (Some head.Mutexattr) h = none_by (is_interface h) (is_limit h)
same_is (Some head.Cond) h = none_by (is_interface h) (is_limit h)
same_is (Some head.Attr) h = none_by (is_interface h) (is_limit h)
same_is (Some head.Key) h = none_by (is_interface h) (is_limit h)
same_is (Some head.Once) h = none_by (is_interface h) (is_limit h)
same_is (Some head.Pipe) h = none_by (is_interface h) (is_limit h)
same_is (Some head.Routine) h = none_by (is_interface h) (is_limit h)
same_is (Some head.Local) h = none_by (is_interface h) (is_limit h)
same_is (Some head.Set) h = none_by (is_interface h) (is_limit h)
same_is (Some head.Say) h = none_by (is_interface h) (is_limit h)
same_is (Some head.If) h = none_by (is_interface h) (is_limit h)
same_is (Some head.Else) h = none_by (is_interface h) (is_limit h)
same_is (Some head.While) h = none_by (is_interface h) (is_limit h)
same_is (Some head.Try) h = none_by (is_interface h) (is_limit h)
same_is (Some head.Catch) h = none_by (is_interface h) (is_limit h)
same_is (Some head.CatchAll) h = none_by (is_interface h) (is_limit h)
same_is (Some head.Finally) h = none_by (is_interface h) (is_limit h)
same_is (Some head.Endtry) h = none_by (is_interface h) (is_limit h)
same_is (Some head.Raise) h = none_by (is_interface h) (is_limit h)
same_is (Some head.Reraise) h = none_by (is_interface h) (is_limit h)
same_is (Some head.Call) h = none_by (is_interface h) (is_limit h)
same_is (Some head.Return) h = none_by (is_interface h) (is_limit h)
same_is (Some head.Exit) h = none_by (is_interface h) (is_limit h)
same_is (Some head.End) h = none_by (is_interface h) (is_limit h)
same_is (Some (head.Dce c)) h = none_by (is_interface h) (is_limit h)

or_both : (a b g l i m : Bool) → (((a && g) || (b && l)) || ((a && i) || (b && m))) ≡ ((a && (g || i)) || (b && (l || m)))
or_both false false g l i m = refl
or_both false true g l i m = refl
or_both true false true l i m = refl
or_both true false false l true m = refl
or_both true false false l false m = refl
or_both true true true l i m = refl
or_both true true false true true m = refl
or_both true true false true false m = refl
or_both true true false false i m = refl

further_is : (above : List (List Word)) (h : Option Head)
    → ((is_interface h && list_any (λ l. is_interface (head_of_line l)) above) || (is_limit h && list_any (λ l. is_limit (head_of_line l)) above)) ≡ list_any (λ l. same_line (head_of_line l) h) above
further_is [] h = sym (none_by (is_interface h) (is_limit h))
further_is (l ∷ ls) h =
    sym (or_both (is_interface h) (is_limit h) (is_interface (head_of_line l)) (is_limit (head_of_line l)) (list_any (λ l. is_interface (head_of_line l)) ls) (list_any (λ l. is_limit (head_of_line l)) ls))
    ∙ ap (λ (b : Bool). b || ((is_interface h && list_any (λ l. is_interface (head_of_line l)) ls) || (is_limit h && list_any (λ l. is_limit (head_of_line l)) ls))) (sym (same_is (head_of_line l) h))
    ∙ ap (λ (b : Bool). same_line (head_of_line l) h || b) (further_is ls h)

-- ---- what stands above the next line

pub declarations_more : (ls : List (List Word)) (l : List Word) → declarations (ls ++ l ∷ []) ≡ declarations ls ++ declared_in l
unfolding declarations
declarations_more [] l = append-nil (declared_in l)
declarations_more (k ∷ ls) l = ap (λ (es : List Entry). declared_in k ++ es) (declarations_more ls l) ∙ sym (append_assoc (declared_in k) (declarations ls) (declared_in l))

table_more : (ls : List (List Word)) (l : List Word) → noted (table_of ls) (declared_in l) ≡ table_of (ls ++ l ∷ [])
table_more ls l =
    sym (noted_append [] (entries_of ls) (declared_in l))
    ∙ ap (noted []) (append_assoc (map builtin_entry builtin_names) (declarations ls) (declared_in l) ∙ ap (λ (es : List Entry). map builtin_entry builtin_names ++ es) (sym (declarations_more ls l)))

count_more : (ls : List (List Word)) (l : List Word) → length (declarations ls) + length (declared_in l) ≡ length (declarations (ls ++ l ∷ []))
count_more ls l = sym (ap length (declarations_more ls l) ∙ length-append (declarations ls) (declared_in l))

or_false : (b : Bool) → (b || false) ≡ b
or_false true = refl
or_false false = refl

any_more : (p : List Word → Bool) (ls : List (List Word)) (l : List Word) → (list_any p ls || p l) ≡ list_any p (ls ++ l ∷ [])
any_more p ls l = sym (list_any-append p ls (l ∷ []) ∙ ap (λ (b : Bool). list_any p ls || b) (or_false (p l)))

context_more : (a : Above) (words : List Word) → after (context_of a) words ≡ context_of (above_next a words)
unfolding after
context_more a words = λ i. record {
  names = table_more a.lines words i;
  locals = (above_next a words).locals;
  depth = (above_next a words).depth;
  count = count_more a.lines words i;
  has_interface = any_more (λ l. is_interface (head_of_line l)) a.lines words i;
  has_limit = any_more (λ l. is_limit (head_of_line l)) a.lines words i;
}

start_is : start ≡ context_of nothing_above
unfolding declarations
start_is = refl

-- ---- one line

least_first : (a u m b : Bool) → least a u m b ≡ first_of (when a 15 ++ (when u 16 ++ (when m 17 ++ when b 18)))
least_first true u m b = refl
least_first false true m b = refl
least_first false false true b = refl
least_first false false false true = refl
least_first false false false false = refl

misfit_is : (whole : List (List Word)) (a : Above) (words : List Word) → misfit (table_of whole) (context_of a) words ≡ first_of (name_misfits whole a words)
unfolding misfit name_misfits
misfit_is whole a words =
    let again = any_same _ _ (λ x. again_word x.0 x.1 whole a.lines a.locals) (placed_in words) in
    let more = further_is a.lines (head_of_line words) in
    let undeclared = any_same _ _ (undeclared_same whole (locals_below a.locals words)) (placed_in words) in
    let misused = any_same _ _ (misused_same whole (locals_below a.locals words)) (placed_in words) in
    rw (again, more, undeclared, misused) (least_first _ _ _ _)

-- ---- the lines

first_at : (n : ℕ) (o : Option ℕ) (ns : List ℕ) (r : Option (ℕ × ℕ)) (rs : List (ℕ × ℕ)) → o ≡ first_of ns → r ≡ first_of rs → at_or n o r ≡ first_of (at_line n ns ++ rs)
first_at n o [] r rs e h = ap (λ (x : Option ℕ). at_or n x r) e ∙ h
first_at n o (k ∷ ks) r rs e h = ap (λ (x : Option ℕ). at_or n x r) e

lines_fault : (whole : List (List Word)) (a : Above) (ls : List Line) → first_misfit (table_of whole) (context_of a) ls ≡ first_of (lines_faults whole a ls)
unfolding first_misfit lines_faults
lines_fault whole a [] = refl
lines_fault whole a (l ∷ ls) =
    first_at l.0 (misfit (table_of whole) (context_of a) l.1) (name_misfits whole a l.1) _ (lines_faults whole (above_next a l.1) ls)
    (misfit_is whole a l.1)
    (ap (λ (c : Context). first_misfit (table_of whole) c ls) (context_more a l.1) ∙ lines_fault whole (above_next a l.1) ls)

-- ---- the whole text

no_main_first : (end : ℕ) (b : Bool) (r : Option (ℕ × ℕ)) (fs : List (ℕ × ℕ)) → r ≡ first_of fs → or_no_main end b r ≡ first_of (fs ++ at_line end (when (not b) 18))
no_main_first end true r [] e = ap (λ (x : Option (ℕ × ℕ)). or_no_main end true x) e
no_main_first end false r [] e = ap (λ (x : Option (ℕ × ℕ)). or_no_main end false x) e
no_main_first end true r (f ∷ fs) e = ap (λ (x : Option (ℕ × ℕ)). or_no_main end true x) e
no_main_first end false r (f ∷ fs) e = ap (λ (x : Option (ℕ × ℕ)). or_no_main end false x) e

last_by : (b : Bool) (f : ℕ × ℕ) (fs gs : List (ℕ × ℕ)) → (let o : Option (ℕ × ℕ) = Some (if b then f else (20001, 18)) in o) ≡ first_of (if b then f ∷ fs else (20001, 18) ∷ gs)
last_by true f fs gs = refl
last_by false f fs gs = refl

last_first : (r : Option (ℕ × ℕ)) (fs : List (ℕ × ℕ)) → r ≡ first_of fs → Some (not_after_last r) ≡ first_of (with_last_line fs)
unfolding with_last_line
last_first r [] e = ap (λ (x : Option (ℕ × ℕ)). Some (not_after_last x)) e
last_first r (f ∷ fs) e = ap (λ (x : Option (ℕ × ℕ)). Some (not_after_last x)) e ∙ last_by _ f (with_last_line fs) (f ∷ fs)

too_long_by : (b : Bool) (r : Option (ℕ × ℕ)) (fs : List (ℕ × ℕ)) → r ≡ first_of fs → (if b then r else Some (not_after_last r)) ≡ first_of (if b then fs else with_last_line fs)
too_long_by true r fs e = e
too_long_by false r fs e = last_first r fs e

pub names_fault : (end : ℕ) (ls : List Line) (b : Bool) → b ≡ is_of_kind object.Routine (sense_of_kind (kind_in (table_of (words_in ls)) (codes "main")))
    → or_too_long end (or_no_main end b (first_misfit (table_of (words_in ls)) start ls)) ≡ first_of (name_faults end ls)
unfolding name_faults
names_fault end ls b is =
    let main : b ≡ has_main (words_in ls) = is ∙ ap (λ (o : Option kinds.Object). is_of_kind object.Routine (sense_of_kind o)) (table_kind (words_in ls) (codes "main")) in
    let own = ap (λ (c : Context). first_misfit (table_of (words_in ls)) c ls) start_is ∙ lines_fault (words_in ls) nothing_above ls in
    too_long_by (nat_le end 20001) _ (own_faults end ls)
    (ap (λ (x : Bool). or_no_main end x (first_misfit (table_of (words_in ls)) start ls)) main ∙ no_main_first end (has_main (words_in ls)) _ _ own)

pub none_left : (fs : List (ℕ × ℕ)) → None ≡ first_of fs → fs ≡ []
none_left [] e = refl
none_left (f ∷ fs) e = absurd cc

pub answered : (end : ℕ) (ls : List Line) (whole : List Entry) (o m f : Option (ℕ × ℕ)) (b : Bool) → o ≡ or_too_long end m → m ≡ or_no_main end b f → f ≡ first_misfit whole start ls
    → b ≡ is_of_kind object.Routine (sense_of_kind (kind_in whole (codes "main"))) → whole ≡ table_of (words_in ls) → o ≡ first_of (name_faults end ls)
answered end ls whole o m f b oi mi fi bi wi =
    oi ∙ ap (or_too_long end) (mi ∙ ap (or_no_main end b) (fi ∙ ap (λ (t : List Entry). first_misfit t start ls) wi))
    ∙ names_fault end ls b (bi ∙ ap (λ (t : List Entry). is_of_kind object.Routine (sense_of_kind (kind_in t (codes "main")))) wi)
