-- What a thread says, calls apart, is read as it is printed.
use Rattle.std.proofs.Common.{◌≡◌, ℕ, Bool, true, false, cond, List, [], ◌∷◌, ◌++◌, length, Option, Some, None, refl, sym, ap, subst, ◌∙◌, arith}
use Rattle.std.specs.Prelude.{ℤ, codes, ◌&&◌, ◌==◌, if◌then◌else◌}
use Rattle.std.specs.List.{find}
use Rattle.std.specs.Option.{option_map}
use Rattle.std.specs.Str.{bytes_eq}
use Rattle.std.specs.Fmt.{decimal, signed_decimal}
use Rattle.std.proofs.lemmas.Bool.Decides.{nat_tests}
use Rattle.std.proofs.lemmas.Slice.Eq.{bytes_eq-Decides}
use Rattle.thr_values.specs.declared.number.NameId.{NameId}
use Rattle.thr_values.specs.declared.number.Line.{Line}
use Rattle.thr_values.specs.declared.exception.Exc.{Exc}
use Rattle.thr_values.specs.declared.reply.Reply.{Reply}
use Rattle.thr_values.specs.declared.history.What.{What}
use Rattle.thr_values.specs.declared.history.What.TheVariants as what
use Rattle.thr_syntax.specs.declared.tree.Script.{Script}
use Rattle.thr_text.specs.declared.object.Object.TheVariants as object
use Rattle.thr_text.specs.Reading.{Formed}
use Rattle.thr_text.specs.Journals.{name_word, exception_words, gift_word, reply_word, what_words}
use Rattle.thr_trees.specs.Kinds.{is_name_of}
use Rattle.thr_verdict.specs.Places.{fits_32, fits_64, fits_signed}
use Rattle.thr_verdict.specs.FormedJournals.{is_formed_reply, is_formed_exception, is_formed_gift, is_formed_what}
use Rattle.thr_journals.specs.declared.word.LineWord.{LineWord}
use Rattle.thr_journals.specs.declared.word.LineWord.TheVariants as word
use Rattle.thr_journals.specs.Fields.{Field, word_as, both, alone, gift_in, exception, equals_reply, count, value, place, name}
use Rattle.thr_journals.specs.Lines.{line_word, said_by}
use Rattle.thr_journal_laws.specs.Places.{IsReadAsPrinted}
use Rattle.thr_journal_laws.proofs.Shortest.{and_both, map_some}
use Rattle.thr_journal_laws.proofs.PlaceLaws.{both_read, alone_taken, alone_again}
use Rattle.thr_journal_laws.proofs.NameLaws.{names_in, name_read}
use Rattle.thr_journal_laws.proofs.FormedPlaces.{count_formed, value_formed, place_formed, gift_formed, exception_formed, reply_formed}

-- ---- one kind of line

-- A thread says it: it is no dispatch and no move of the clock.
abbrev pub by_thread : What → Bool
by_thread (what.Run t) = false
by_thread (what.Clock n) = false
by_thread _ = true

-- Lines with this word say this of what stands at their places, are printed so, and have their form where the places have.
record IsKind {A : Type 0} (s : Script) (field : Field A) (print : A → List (List ℕ)) (Fits : A → Type 0) (make : A → What) (text : List ℕ) : Type 0 where
  pub read : IsReadAsPrinted field print Fits
  pub printed : (a : A) → text ∷ print a ≡ what_words s.names (make a)
  pub formed : (a : A) → Fits a → is_formed_what s (make a) ≡ true
  pub fits : (a : A) → is_formed_what s (make a) ≡ true → Fits a
  pub told : (a : A) → by_thread (make a) ≡ true

-- A thread says it, it has its form, and these are its words.
abbrev pub IsSaid : Script → List (List ℕ) → What → Type 0
IsSaid s ws w = (ws ≡ what_words s.names w) × (is_formed_what s w ≡ true) × (by_thread w ≡ true)

kind_taken : {A : Type 0} (s : Script) (f : Field A) (p : A → List (List ℕ)) (P : A → Type 0) (make : A → What) (text : List ℕ) → IsKind s f p P make text
    → (ws : List (List ℕ)) (w : What) → option_map make (alone f ws) ≡ Some w → IsSaid s (text ∷ ws) w
kind_taken s f p P make text k ws w e =
    let m = map_some make (alone f ws) w e in
    let t = alone_taken f p P k.read ws m.0 m.1 in
    subst (IsSaid s (text ∷ ws)) m.2 (ap (λ (vs : List (List ℕ)). text ∷ vs) t.0 ∙ k.printed m.0, k.formed m.0 t.1, k.told m.0)

kind_again : {A : Type 0} (s : Script) (f : Field A) (p : A → List (List ℕ)) (P : A → Type 0) (make : A → What) (text : List ℕ) → IsKind s f p P make text
    → (a : A) → is_formed_what s (make a) ≡ true → option_map make (alone f (p a)) ≡ Some (make a)
kind_again s f p P make text k a e = ap (option_map make) (alone_again f p P k.read a (k.fits a e))

-- ---- the kinds by their shape

abbrev count_print : ℕ → List (List ℕ)
count_print n = decimal n ∷ []

abbrev value_print : ℤ → List (List ℕ)
value_print z = signed_decimal z ∷ []

abbrev place_print : Line → List (List ℕ)
place_print l = decimal l.0 ∷ []

abbrev IsCount : ℕ → Type 0
IsCount n = fits_64 n ≡ true

abbrev IsValue : ℤ → Type 0
IsValue z = fits_signed z ≡ true

abbrev IsLine : Line → Type 0
IsLine l = fits_32 l.0 ≡ true

pub all_both : (a b : Bool) → a ≡ true → b ≡ true → (a && b) ≡ true
all_both a b e f = rw (e, f) refl

place_value_read : IsReadAsPrinted (both place value) (λ x. place_print x.0 ++ value_print x.1) (λ x. IsLine x.0 × IsValue x.1)
place_value_read = both_read place value place_print value_print IsLine IsValue place_formed value_formed

count_place_read : IsReadAsPrinted (both count place) (λ x. count_print x.0 ++ place_print x.1) (λ x. IsCount x.0 × IsLine x.1)
count_place_read = both_read count place count_print place_print IsCount IsLine count_formed place_formed

count_value_read : IsReadAsPrinted (both count value) (λ x. count_print x.0 ++ value_print x.1) (λ x. IsCount x.0 × IsValue x.1)
count_value_read = both_read count value count_print value_print IsCount IsValue count_formed value_formed

two_counts_read : IsReadAsPrinted (both count count) (λ x. count_print x.0 ++ count_print x.1) (λ x. IsCount x.0 × IsCount x.1)
two_counts_read = both_read count count count_print count_print IsCount IsCount count_formed count_formed

-- a line of the script and a value
at_line_kind : (s : Script) (make : Line → ℤ → What) (text : List ℕ) → ((l : Line) (z : ℤ) → text ∷ decimal l.0 ∷ signed_decimal z ∷ [] ≡ what_words s.names (make l z))
    → ((l : Line) (z : ℤ) → is_formed_what s (make l z) ≡ (fits_32 l.0 && fits_signed z))
    → ((l : Line) (z : ℤ) → by_thread (make l z) ≡ true)
    → IsKind s (both place value) (λ x. place_print x.0 ++ value_print x.1) (λ x. IsLine x.0 × IsValue x.1) (λ x. make x.0 x.1) text
at_line_kind s make text printed form told = record {
  read = place_value_read;
  printed = λ x. printed x.0 x.1;
  formed = λ x fits. form x.0 x.1 ∙ all_both (fits_32 x.0.0) (fits_signed x.1) fits.0 fits.1;
  fits = λ x e. and_both (fits_32 x.0.0) (fits_signed x.1) (sym (form x.0 x.1) ∙ e);
  told = λ x. told x.0 x.1;
}

count_at_kind : (s : Script) (make : ℕ → Line → What) (text : List ℕ) → ((n : ℕ) (l : Line) → text ∷ decimal n ∷ decimal l.0 ∷ [] ≡ what_words s.names (make n l))
    → ((n : ℕ) (l : Line) → is_formed_what s (make n l) ≡ (fits_64 n && fits_32 l.0))
    → ((n : ℕ) (l : Line) → by_thread (make n l) ≡ true)
    → IsKind s (both count place) (λ x. count_print x.0 ++ place_print x.1) (λ x. IsCount x.0 × IsLine x.1) (λ x. make x.0 x.1) text
count_at_kind s make text printed form told = record {
  read = count_place_read;
  printed = λ x. printed x.0 x.1;
  formed = λ x fits. form x.0 x.1 ∙ all_both (fits_64 x.0) (fits_32 x.1.0) fits.0 fits.1;
  fits = λ x e. and_both (fits_64 x.0) (fits_32 x.1.0) (sym (form x.0 x.1) ∙ e);
  told = λ x. told x.0 x.1;
}

count_value_kind : (s : Script) (make : ℕ → ℤ → What) (text : List ℕ) → ((n : ℕ) (z : ℤ) → text ∷ decimal n ∷ signed_decimal z ∷ [] ≡ what_words s.names (make n z))
    → ((n : ℕ) (z : ℤ) → is_formed_what s (make n z) ≡ (fits_64 n && fits_signed z))
    → ((n : ℕ) (z : ℤ) → by_thread (make n z) ≡ true)
    → IsKind s (both count value) (λ x. count_print x.0 ++ value_print x.1) (λ x. IsCount x.0 × IsValue x.1) (λ x. make x.0 x.1) text
count_value_kind s make text printed form told = record {
  read = count_value_read;
  printed = λ x. printed x.0 x.1;
  formed = λ x fits. form x.0 x.1 ∙ all_both (fits_64 x.0) (fits_signed x.1) fits.0 fits.1;
  fits = λ x e. and_both (fits_64 x.0) (fits_signed x.1) (sym (form x.0 x.1) ∙ e);
  told = λ x. told x.0 x.1;
}

two_counts_kind : (s : Script) (make : ℕ → ℕ → What) (text : List ℕ) → ((n m : ℕ) → text ∷ decimal n ∷ decimal m ∷ [] ≡ what_words s.names (make n m))
    → ((n m : ℕ) → is_formed_what s (make n m) ≡ (fits_64 n && fits_64 m))
    → ((n m : ℕ) → by_thread (make n m) ≡ true)
    → IsKind s (both count count) (λ x. count_print x.0 ++ count_print x.1) (λ x. IsCount x.0 × IsCount x.1) (λ x. make x.0 x.1) text
two_counts_kind s make text printed form told = record {
  read = two_counts_read;
  printed = λ x. printed x.0 x.1;
  formed = λ x fits. form x.0 x.1 ∙ all_both (fits_64 x.0) (fits_64 x.1) fits.0 fits.1;
  fits = λ x e. and_both (fits_64 x.0) (fits_64 x.1) (sym (form x.0 x.1) ∙ e);
  told = λ x. told x.0 x.1;
}

count_kind : (s : Script) (make : ℕ → What) (text : List ℕ) → ((n : ℕ) → text ∷ decimal n ∷ [] ≡ what_words s.names (make n)) → ((n : ℕ) → is_formed_what s (make n) ≡ fits_64 n)
    → ((n : ℕ) → by_thread (make n) ≡ true)
    → IsKind s count count_print IsCount make text
count_kind s make text printed form told = record { read = count_formed; printed = printed; formed = λ n fits. form n ∙ fits; fits = λ n e. sym (form n) ∙ e; told = told }

value_kind : (s : Script) (make : ℤ → What) (text : List ℕ) → ((z : ℤ) → text ∷ signed_decimal z ∷ [] ≡ what_words s.names (make z)) → ((z : ℤ) → is_formed_what s (make z) ≡ fits_signed z)
    → ((z : ℤ) → by_thread (make z) ≡ true)
    → IsKind s value value_print IsValue make text
value_kind s make text printed form told = record { read = value_formed; printed = printed; formed = λ z fits. form z ∙ fits; fits = λ z e. sym (form z) ∙ e; told = told }

exception_kind : (s : Script) → Formed s → (make : ℕ → Exc → What) (text : List ℕ) → ((n : ℕ) (x : Exc) → text ∷ decimal n ∷ exception_words s.names x ≡ what_words s.names (make n x))
    → ((n : ℕ) (x : Exc) → is_formed_what s (make n x) ≡ (fits_64 n && is_formed_exception s x))
    → ((n : ℕ) (x : Exc) → by_thread (make n x) ≡ true)
    → IsKind s (both count (exception (names_in s))) (λ x. count_print x.0 ++ exception_words s.names x.1) (λ x. IsCount x.0 × (is_formed_exception s x.1 ≡ true)) (λ x. make x.0 x.1) text
exception_kind s h make text printed form told = record {
  read = both_read count (exception (names_in s)) count_print (exception_words s.names) IsCount (λ x. is_formed_exception s x ≡ true) count_formed (exception_formed s h);
  printed = λ x. printed x.0 x.1;
  formed = λ x fits. form x.0 x.1 ∙ all_both (fits_64 x.0) (is_formed_exception s x.1) fits.0 fits.1;
  fits = λ x e. and_both (fits_64 x.0) (is_formed_exception s x.1) (sym (form x.0 x.1) ∙ e);
  told = λ x. told x.0 x.1;
}

abbrev name_print : Script → NameId → List (List ℕ)
name_print s id = name_word s.names id ∷ []

once_kind : (s : Script) → Formed s → IsKind s (both count (name (names_in s) object.Once)) (λ x. count_print x.0 ++ name_print s x.1) (λ x. IsCount x.0 × (is_name_of s object.Once x.1 ≡ true)) (λ x. what.Once x.0 x.1) (codes "once")
unfolding is_formed_what
once_kind s h = record {
  read = both_read count (name (names_in s) object.Once) count_print (name_print s) IsCount (λ id. is_name_of s object.Once id ≡ true) count_formed (name_read s h object.Once);
  printed = λ x. refl;
  formed = λ x fits. all_both (fits_64 x.0) (is_name_of s object.Once x.1) fits.0 fits.1;
  fits = λ x e. and_both (fits_64 x.0) (is_name_of s object.Once x.1) e;
  told = λ x. refl;
}

destroy_kind : (s : Script) → Formed s
    → IsKind s (both count (both (name (names_in s) object.Key) value)) (λ x. count_print x.0 ++ (name_print s x.1.0 ++ value_print x.1.1)) (λ x. IsCount x.0 × ((is_name_of s object.Key x.1.0 ≡ true) × IsValue x.1.1))
    (λ x. what.Destroy x.0 x.1.0 x.1.1) (codes "destroy")
unfolding is_formed_what
destroy_kind s h = record {
  read = both_read count (both (name (names_in s) object.Key) value) count_print (λ y. name_print s y.0 ++ value_print y.1) IsCount (λ y. (is_name_of s object.Key y.0 ≡ true) × IsValue y.1) count_formed
      (both_read (name (names_in s) object.Key) value (name_print s) value_print (λ id. is_name_of s object.Key id ≡ true) IsValue (name_read s h object.Key) value_formed);
  printed = λ x. refl;
  formed = λ x fits. all_both (fits_64 x.0) (is_name_of s object.Key x.1.0 && fits_signed x.1.1) fits.0 (all_both (is_name_of s object.Key x.1.0) (fits_signed x.1.1) fits.1.0 fits.1.1);
  fits = λ x e. let p = and_both (fits_64 x.0) (is_name_of s object.Key x.1.0 && fits_signed x.1.1) e in (p.0, and_both (is_name_of s object.Key x.1.0) (fits_signed x.1.1) p.1);
  told = λ x. refl;
}

catch_kind : (s : Script)
    → IsKind s (both count (both count place)) (λ x. count_print x.0 ++ (count_print x.1.0 ++ place_print x.1.1)) (λ x. IsCount x.0 × (IsCount x.1.0 × IsLine x.1.1)) (λ x. what.Catch x.0 x.1.0 x.1.1) (codes "catch")
unfolding is_formed_what
catch_kind s = record {
  read = both_read count (both count place) count_print (λ y. count_print y.0 ++ place_print y.1) IsCount (λ y. IsCount y.0 × IsLine y.1) count_formed count_place_read;
  printed = λ x. refl;
  formed = λ x fits. all_both (fits_64 x.0) (fits_64 x.1.0 && fits_32 x.1.1.0) fits.0 (all_both (fits_64 x.1.0) (fits_32 x.1.1.0) fits.1.0 fits.1.1);
  fits = λ x e. let p = and_both (fits_64 x.0) (fits_64 x.1.0 && fits_32 x.1.1.0) e in (p.0, and_both (fits_64 x.1.0) (fits_32 x.1.1.0) p.1);
  told = λ x. refl;
}

ret_kind : (s : Script) → IsKind s equals_reply (λ r. codes "=" ∷ reply_word r ∷ []) (λ r. is_formed_reply r ≡ true) what.Ret (codes "ret")
unfolding is_formed_what
ret_kind s = record { read = reply_formed; printed = λ r. refl; formed = λ r fits. fits; fits = λ r e. e; told = λ r. refl }

gift_kind : (s : Script) → Formed s → IsKind s (word_as (gift_in (names_in s))) (λ m. gift_word s.names m ∷ []) (λ m. is_formed_gift s m ≡ true) what.Gift (codes "gift")
unfolding is_formed_what
gift_kind s h = record { read = gift_formed s h; printed = λ m. refl; formed = λ m fits. fits; fits = λ m e. e; told = λ m. refl }

-- ---- each word

no_words_left : (ws : List (List ℕ)) (w : What) → (if length ws == 0 then Some what.Pause else None) ≡ Some w → (ws ≡ []) × (what.Pause ≡ w)
no_words_left [] w e = (refl, cc)
no_words_left (v ∷ ws) w e = absurd (by (length (v ∷ ws) == 0) (grind (arith, nat_tests)) e)
  where
    by : (b : Bool) → b ≡ false → (if b then Some what.Pause else None) ≡ Some w → ⊥
    by true f e = cc
    by false f e = cc

say_line : (s : Script) → IsKind s value value_print IsValue what.Say (codes "say")
unfolding is_formed_what
say_line s = value_kind s what.Say (codes "say") (λ z. refl) (λ z. refl) (λ z. refl)

set_line : (s : Script) → IsKind s (both place value) (λ x. place_print x.0 ++ value_print x.1) (λ x. IsLine x.0 × IsValue x.1) (λ x. what.Set x.0 x.1) (codes "set")
unfolding is_formed_what
set_line s = at_line_kind s (λ l z. what.Set l z) (codes "set") (λ l z. refl) (λ l z. refl) (λ l z. refl)

if_line : (s : Script) → IsKind s (both place value) (λ x. place_print x.0 ++ value_print x.1) (λ x. IsLine x.0 × IsValue x.1) (λ x. what.If x.0 x.1) (codes "if")
unfolding is_formed_what
if_line s = at_line_kind s (λ l z. what.If l z) (codes "if") (λ l z. refl) (λ l z. refl) (λ l z. refl)

while_line : (s : Script) → IsKind s (both place value) (λ x. place_print x.0 ++ value_print x.1) (λ x. IsLine x.0 × IsValue x.1) (λ x. what.While x.0 x.1) (codes "while")
unfolding is_formed_what
while_line s = at_line_kind s (λ l z. what.While l z) (codes "while") (λ l z. refl) (λ l z. refl) (λ l z. refl)

call_line : (s : Script) → IsKind s (both place value) (λ x. place_print x.0 ++ value_print x.1) (λ x. IsLine x.0 × IsValue x.1) (λ x. what.CallAt x.0 x.1) (codes "call")
unfolding is_formed_what
call_line s = at_line_kind s (λ l z. what.CallAt l z) (codes "call") (λ l z. refl) (λ l z. refl) (λ l z. refl)

return_line : (s : Script) → IsKind s (both place value) (λ x. place_print x.0 ++ value_print x.1) (λ x. IsLine x.0 × IsValue x.1) (λ x. what.Return x.0 x.1) (codes "return")
unfolding is_formed_what
return_line s = at_line_kind s (λ l z. what.Return l z) (codes "return") (λ l z. refl) (λ l z. refl) (λ l z. refl)

raise_line : (s : Script) → Formed s → IsKind s (both count (exception (names_in s))) (λ x. count_print x.0 ++ exception_words s.names x.1) (λ x. IsCount x.0 × (is_formed_exception s x.1 ≡ true)) (λ x. what.Raise x.0 x.1) (codes "raise")
unfolding is_formed_what
raise_line s h = exception_kind s h (λ n x. what.Raise n x) (codes "raise") (λ n x. refl) (λ n x. refl) (λ n x. refl)

reraise_line : (s : Script) → Formed s → IsKind s (both count (exception (names_in s))) (λ x. count_print x.0 ++ exception_words s.names x.1) (λ x. IsCount x.0 × (is_formed_exception s x.1 ≡ true)) (λ x. what.Reraise x.0 x.1) (codes "reraise")
unfolding is_formed_what
reraise_line s h = exception_kind s h (λ n x. what.Reraise n x) (codes "reraise") (λ n x. refl) (λ n x. refl) (λ n x. refl)

deliver_line : (s : Script) → IsKind s (both count place) (λ x. count_print x.0 ++ place_print x.1) (λ x. IsCount x.0 × IsLine x.1) (λ x. what.Deliver x.0 x.1) (codes "deliver")
unfolding is_formed_what
deliver_line s = count_at_kind s (λ n l. what.Deliver n l) (codes "deliver") (λ n l. refl) (λ n l. refl) (λ n l. refl)

exit_line : (s : Script) → IsKind s (both count value) (λ x. count_print x.0 ++ value_print x.1) (λ x. IsCount x.0 × IsValue x.1) (λ x. what.Exit x.0 x.1) (codes "exit")
unfolding is_formed_what
exit_line s = count_value_kind s (λ n z. what.Exit n z) (codes "exit") (λ n z. refl) (λ n z. refl) (λ n z. refl)

try_line : (s : Script) → IsKind s (both count place) (λ x. count_print x.0 ++ place_print x.1) (λ x. IsCount x.0 × IsLine x.1) (λ x. what.Try x.0 x.1) (codes "try")
unfolding is_formed_what
try_line s = count_at_kind s (λ n l. what.Try n l) (codes "try") (λ n l. refl) (λ n l. refl) (λ n l. refl)

endtry_line : (s : Script) → IsKind s count count_print IsCount what.Endtry (codes "endtry")
unfolding is_formed_what
endtry_line s = count_kind s what.Endtry (codes "endtry") (λ n. refl) (λ n. refl) (λ n. refl)

endcatch_line : (s : Script) → IsKind s count count_print IsCount what.Endcatch (codes "endcatch")
unfolding is_formed_what
endcatch_line s = count_kind s what.Endcatch (codes "endcatch") (λ n. refl) (λ n. refl) (λ n. refl)

finally_line : (s : Script) → IsKind s (both count count) (λ x. count_print x.0 ++ count_print x.1) (λ x. IsCount x.0 × IsCount x.1) (λ x. what.Finally x.0 x.1) (codes "finally")
unfolding is_formed_what
finally_line s = two_counts_kind s (λ n m. what.Finally n m) (codes "finally") (λ n m. refl) (λ n m. refl) (λ n m. refl)

endfin_line : (s : Script) → IsKind s count count_print IsCount what.Endfin (codes "endfin")
unfolding is_formed_what
endfin_line s = count_kind s what.Endfin (codes "endfin") (λ n. refl) (λ n. refl) (λ n. refl)

done_line : (s : Script) → IsKind s count count_print IsCount what.Done (codes "done")
unfolding is_formed_what
done_line s = count_kind s what.Done (codes "done") (λ n. refl) (λ n. refl) (λ n. refl)

undone_line : (s : Script) → IsKind s (both count count) (λ x. count_print x.0 ++ count_print x.1) (λ x. IsCount x.0 × IsCount x.1) (λ x. what.Undone x.0 x.1) (codes "undone")
unfolding is_formed_what
undone_line s = two_counts_kind s (λ n m. what.Undone n m) (codes "undone") (λ n m. refl) (λ n m. refl) (λ n m. refl)

enddes_line : (s : Script) → IsKind s count count_print IsCount what.Enddes (codes "enddes")
unfolding is_formed_what
enddes_line s = count_kind s what.Enddes (codes "enddes") (λ n. refl) (λ n. refl) (λ n. refl)

lost_line : (s : Script) → IsKind s (both count count) (λ x. count_print x.0 ++ count_print x.1) (λ x. IsCount x.0 × IsCount x.1) (λ x. what.Lost x.0 x.1) (codes "lost")
unfolding is_formed_what
lost_line s = two_counts_kind s (λ n m. what.Lost n m) (codes "lost") (λ n m. refl) (λ n m. refl) (λ n m. refl)

bottom_line : (s : Script) → IsKind s (both count value) (λ x. count_print x.0 ++ value_print x.1) (λ x. IsCount x.0 × IsValue x.1) (λ x. what.Bottom x.0 x.1) (codes "bottom")
unfolding is_formed_what
bottom_line s = count_value_kind s (λ n z. what.Bottom n z) (codes "bottom") (λ n z. refl) (λ n z. refl) (λ n z. refl)

end_line : (s : Script) → IsKind s value value_print IsValue what.End (codes "end")
unfolding is_formed_what
end_line s = value_kind s what.End (codes "end") (λ z. refl) (λ z. refl) (λ z. refl)

pause_formed : (s : Script) → is_formed_what s what.Pause ≡ true
unfolding is_formed_what
pause_formed s = refl

pub said_taken : (s : Script) → Formed s → (word : LineWord) (ws : List (List ℕ)) (w : What) → said_by (names_in s) word ws ≡ Some w → IsSaid s (line_word word ∷ ws) w
unfolding said_by line_word
said_taken s h word.Ret ws w e = kind_taken s equals_reply (λ r. codes "=" ∷ reply_word r ∷ []) (λ r. is_formed_reply r ≡ true) what.Ret (codes "ret") (ret_kind s) ws w e
said_taken s h word.Gift ws w e = kind_taken s (word_as (gift_in (names_in s))) (λ m. gift_word s.names m ∷ []) (λ m. is_formed_gift s m ≡ true) what.Gift (codes "gift") (gift_kind s h) ws w e
said_taken s h word.Say ws w e = kind_taken s value value_print IsValue what.Say (codes "say") (say_line s) ws w e
said_taken s h word.Set ws w e = kind_taken s (both place value) (λ x. place_print x.0 ++ value_print x.1) (λ x. IsLine x.0 × IsValue x.1) (λ x. what.Set x.0 x.1) (codes "set") (set_line s) ws w e
said_taken s h word.If ws w e = kind_taken s (both place value) (λ x. place_print x.0 ++ value_print x.1) (λ x. IsLine x.0 × IsValue x.1) (λ x. what.If x.0 x.1) (codes "if") (if_line s) ws w e
said_taken s h word.While ws w e = kind_taken s (both place value) (λ x. place_print x.0 ++ value_print x.1) (λ x. IsLine x.0 × IsValue x.1) (λ x. what.While x.0 x.1) (codes "while") (while_line s) ws w e
said_taken s h word.Call ws w e = kind_taken s (both place value) (λ x. place_print x.0 ++ value_print x.1) (λ x. IsLine x.0 × IsValue x.1) (λ x. what.CallAt x.0 x.1) (codes "call") (call_line s) ws w e
said_taken s h word.Return ws w e = kind_taken s (both place value) (λ x. place_print x.0 ++ value_print x.1) (λ x. IsLine x.0 × IsValue x.1) (λ x. what.Return x.0 x.1) (codes "return") (return_line s) ws w e
said_taken s h word.Raise ws w e = kind_taken s (both count (exception (names_in s))) (λ x. count_print x.0 ++ exception_words s.names x.1) (λ x. IsCount x.0 × (is_formed_exception s x.1 ≡ true)) (λ x. what.Raise x.0 x.1) (codes "raise") (raise_line s h) ws w e
said_taken s h word.Reraise ws w e = kind_taken s (both count (exception (names_in s))) (λ x. count_print x.0 ++ exception_words s.names x.1) (λ x. IsCount x.0 × (is_formed_exception s x.1 ≡ true)) (λ x. what.Reraise x.0 x.1) (codes "reraise") (reraise_line s h) ws w e
said_taken s h word.Deliver ws w e = kind_taken s (both count place) (λ x. count_print x.0 ++ place_print x.1) (λ x. IsCount x.0 × IsLine x.1) (λ x. what.Deliver x.0 x.1) (codes "deliver") (deliver_line s) ws w e
said_taken s h word.Exit ws w e = kind_taken s (both count value) (λ x. count_print x.0 ++ value_print x.1) (λ x. IsCount x.0 × IsValue x.1) (λ x. what.Exit x.0 x.1) (codes "exit") (exit_line s) ws w e
said_taken s h word.Try ws w e = kind_taken s (both count place) (λ x. count_print x.0 ++ place_print x.1) (λ x. IsCount x.0 × IsLine x.1) (λ x. what.Try x.0 x.1) (codes "try") (try_line s) ws w e
said_taken s h word.Endtry ws w e = kind_taken s count count_print IsCount what.Endtry (codes "endtry") (endtry_line s) ws w e
said_taken s h word.Catch ws w e = kind_taken s (both count (both count place)) (λ x. count_print x.0 ++ (count_print x.1.0 ++ place_print x.1.1)) (λ x. IsCount x.0 × (IsCount x.1.0 × IsLine x.1.1)) (λ x. what.Catch x.0 x.1.0 x.1.1) (codes "catch") (catch_kind s) ws w e
said_taken s h word.Endcatch ws w e = kind_taken s count count_print IsCount what.Endcatch (codes "endcatch") (endcatch_line s) ws w e
said_taken s h word.Finally ws w e = kind_taken s (both count count) (λ x. count_print x.0 ++ count_print x.1) (λ x. IsCount x.0 × IsCount x.1) (λ x. what.Finally x.0 x.1) (codes "finally") (finally_line s) ws w e
said_taken s h word.Endfin ws w e = kind_taken s count count_print IsCount what.Endfin (codes "endfin") (endfin_line s) ws w e
said_taken s h word.Once ws w e = kind_taken s (both count (name (names_in s) object.Once)) (λ x. count_print x.0 ++ name_print s x.1) (λ x. IsCount x.0 × (is_name_of s object.Once x.1 ≡ true)) (λ x. what.Once x.0 x.1) (codes "once") (once_kind s h) ws w e
said_taken s h word.Done ws w e = kind_taken s count count_print IsCount what.Done (codes "done") (done_line s) ws w e
said_taken s h word.Undone ws w e = kind_taken s (both count count) (λ x. count_print x.0 ++ count_print x.1) (λ x. IsCount x.0 × IsCount x.1) (λ x. what.Undone x.0 x.1) (codes "undone") (undone_line s) ws w e
said_taken s h word.Destroy ws w e = kind_taken s (both count (both (name (names_in s) object.Key) value)) (λ x. count_print x.0 ++ (name_print s x.1.0 ++ value_print x.1.1)) (λ x. IsCount x.0 × ((is_name_of s object.Key x.1.0 ≡ true) × IsValue x.1.1)) (λ x. what.Destroy x.0 x.1.0 x.1.1) (codes "destroy") (destroy_kind s h) ws w e
said_taken s h word.Enddes ws w e = kind_taken s count count_print IsCount what.Enddes (codes "enddes") (enddes_line s) ws w e
said_taken s h word.Lost ws w e = kind_taken s (both count count) (λ x. count_print x.0 ++ count_print x.1) (λ x. IsCount x.0 × IsCount x.1) (λ x. what.Lost x.0 x.1) (codes "lost") (lost_line s) ws w e
said_taken s h word.Bottom ws w e = kind_taken s (both count value) (λ x. count_print x.0 ++ value_print x.1) (λ x. IsCount x.0 × IsValue x.1) (λ x. what.Bottom x.0 x.1) (codes "bottom") (bottom_line s) ws w e
said_taken s h word.End ws w e = kind_taken s value value_print IsValue what.End (codes "end") (end_line s) ws w e
said_taken s h word.Pause ws w e =
    let none = no_words_left ws w e in
    subst (IsSaid s (codes "pause" ∷ ws)) none.1 (ap (λ (vs : List (List ℕ)). codes "pause" ∷ vs) none.0, pause_formed s, refl)

-- What is said begins with a word of these, and is read behind it.
pub record IsWorded (s : Script) (w : What) : Type 0 where
  pub word : LineWord
  pub rest : List (List ℕ)
  pub words : what_words s.names w ≡ line_word word ∷ rest
  pub again : said_by (names_in s) word rest ≡ Some w

pub again_ret : (s : Script) → Formed s → (r : Reply) → is_formed_what s (what.Ret r) ≡ true → IsWorded s (what.Ret r)
unfolding said_by line_word
again_ret s h r e = record { word = word.Ret; rest = codes "=" ∷ reply_word r ∷ []; words = refl; again = kind_again s equals_reply (λ r. codes "=" ∷ reply_word r ∷ []) (λ r. is_formed_reply r ≡ true) what.Ret (codes "ret") (ret_kind s) r e }

pub again_gift : (s : Script) → Formed s → (m : Option NameId) → is_formed_what s (what.Gift m) ≡ true → IsWorded s (what.Gift m)
unfolding said_by line_word
again_gift s h m e = record { word = word.Gift; rest = gift_word s.names m ∷ []; words = refl; again = kind_again s (word_as (gift_in (names_in s))) (λ m. gift_word s.names m ∷ []) (λ m. is_formed_gift s m ≡ true) what.Gift (codes "gift") (gift_kind s h) m e }

pub again_say : (s : Script) → Formed s → (z : ℤ) → is_formed_what s (what.Say z) ≡ true → IsWorded s (what.Say z)
unfolding said_by line_word
again_say s h z e = record { word = word.Say; rest = signed_decimal z ∷ []; words = refl; again = kind_again s value value_print IsValue what.Say (codes "say") (say_line s) z e }

pub again_set : (s : Script) → Formed s → (l : Line) (z : ℤ) → is_formed_what s (what.Set l z) ≡ true → IsWorded s (what.Set l z)
unfolding said_by line_word
again_set s h l z e = record { word = word.Set; rest = decimal l.0 ∷ signed_decimal z ∷ []; words = refl; again = kind_again s (both place value) (λ x. place_print x.0 ++ value_print x.1) (λ x. IsLine x.0 × IsValue x.1) (λ x. what.Set x.0 x.1) (codes "set") (set_line s) (l, z) e }

pub again_if : (s : Script) → Formed s → (l : Line) (z : ℤ) → is_formed_what s (what.If l z) ≡ true → IsWorded s (what.If l z)
unfolding said_by line_word
again_if s h l z e = record { word = word.If; rest = decimal l.0 ∷ signed_decimal z ∷ []; words = refl; again = kind_again s (both place value) (λ x. place_print x.0 ++ value_print x.1) (λ x. IsLine x.0 × IsValue x.1) (λ x. what.If x.0 x.1) (codes "if") (if_line s) (l, z) e }

pub again_while : (s : Script) → Formed s → (l : Line) (z : ℤ) → is_formed_what s (what.While l z) ≡ true → IsWorded s (what.While l z)
unfolding said_by line_word
again_while s h l z e = record { word = word.While; rest = decimal l.0 ∷ signed_decimal z ∷ []; words = refl; again = kind_again s (both place value) (λ x. place_print x.0 ++ value_print x.1) (λ x. IsLine x.0 × IsValue x.1) (λ x. what.While x.0 x.1) (codes "while") (while_line s) (l, z) e }

pub again_call : (s : Script) → Formed s → (l : Line) (z : ℤ) → is_formed_what s (what.CallAt l z) ≡ true → IsWorded s (what.CallAt l z)
unfolding said_by line_word
again_call s h l z e = record { word = word.Call; rest = decimal l.0 ∷ signed_decimal z ∷ []; words = refl; again = kind_again s (both place value) (λ x. place_print x.0 ++ value_print x.1) (λ x. IsLine x.0 × IsValue x.1) (λ x. what.CallAt x.0 x.1) (codes "call") (call_line s) (l, z) e }

pub again_return : (s : Script) → Formed s → (l : Line) (z : ℤ) → is_formed_what s (what.Return l z) ≡ true → IsWorded s (what.Return l z)
unfolding said_by line_word
again_return s h l z e = record { word = word.Return; rest = decimal l.0 ∷ signed_decimal z ∷ []; words = refl; again = kind_again s (both place value) (λ x. place_print x.0 ++ value_print x.1) (λ x. IsLine x.0 × IsValue x.1) (λ x. what.Return x.0 x.1) (codes "return") (return_line s) (l, z) e }

pub again_raise : (s : Script) → Formed s → (n : ℕ) (x : Exc) → is_formed_what s (what.Raise n x) ≡ true → IsWorded s (what.Raise n x)
unfolding said_by line_word
again_raise s h n x e = record { word = word.Raise; rest = decimal n ∷ exception_words s.names x; words = refl; again = kind_again s (both count (exception (names_in s))) (λ x. count_print x.0 ++ exception_words s.names x.1) (λ x. IsCount x.0 × (is_formed_exception s x.1 ≡ true)) (λ x. what.Raise x.0 x.1) (codes "raise") (raise_line s h) (n, x) e }

pub again_reraise : (s : Script) → Formed s → (n : ℕ) (x : Exc) → is_formed_what s (what.Reraise n x) ≡ true → IsWorded s (what.Reraise n x)
unfolding said_by line_word
again_reraise s h n x e = record { word = word.Reraise; rest = decimal n ∷ exception_words s.names x; words = refl; again = kind_again s (both count (exception (names_in s))) (λ x. count_print x.0 ++ exception_words s.names x.1) (λ x. IsCount x.0 × (is_formed_exception s x.1 ≡ true)) (λ x. what.Reraise x.0 x.1) (codes "reraise") (reraise_line s h) (n, x) e }

pub again_deliver : (s : Script) → Formed s → (n : ℕ) (l : Line) → is_formed_what s (what.Deliver n l) ≡ true → IsWorded s (what.Deliver n l)
unfolding said_by line_word
again_deliver s h n l e = record { word = word.Deliver; rest = decimal n ∷ decimal l.0 ∷ []; words = refl; again = kind_again s (both count place) (λ x. count_print x.0 ++ place_print x.1) (λ x. IsCount x.0 × IsLine x.1) (λ x. what.Deliver x.0 x.1) (codes "deliver") (deliver_line s) (n, l) e }

pub again_exit : (s : Script) → Formed s → (n : ℕ) (z : ℤ) → is_formed_what s (what.Exit n z) ≡ true → IsWorded s (what.Exit n z)
unfolding said_by line_word
again_exit s h n z e = record { word = word.Exit; rest = decimal n ∷ signed_decimal z ∷ []; words = refl; again = kind_again s (both count value) (λ x. count_print x.0 ++ value_print x.1) (λ x. IsCount x.0 × IsValue x.1) (λ x. what.Exit x.0 x.1) (codes "exit") (exit_line s) (n, z) e }

pub again_try : (s : Script) → Formed s → (n : ℕ) (l : Line) → is_formed_what s (what.Try n l) ≡ true → IsWorded s (what.Try n l)
unfolding said_by line_word
again_try s h n l e = record { word = word.Try; rest = decimal n ∷ decimal l.0 ∷ []; words = refl; again = kind_again s (both count place) (λ x. count_print x.0 ++ place_print x.1) (λ x. IsCount x.0 × IsLine x.1) (λ x. what.Try x.0 x.1) (codes "try") (try_line s) (n, l) e }

pub again_endtry : (s : Script) → Formed s → (n : ℕ) → is_formed_what s (what.Endtry n) ≡ true → IsWorded s (what.Endtry n)
unfolding said_by line_word
again_endtry s h n e = record { word = word.Endtry; rest = decimal n ∷ []; words = refl; again = kind_again s count count_print IsCount what.Endtry (codes "endtry") (endtry_line s) n e }

pub again_catch : (s : Script) → Formed s → (n : ℕ) (m : ℕ) (l : Line) → is_formed_what s (what.Catch n m l) ≡ true → IsWorded s (what.Catch n m l)
unfolding said_by line_word
again_catch s h n m l e = record { word = word.Catch; rest = decimal n ∷ decimal m ∷ decimal l.0 ∷ []; words = refl; again = kind_again s (both count (both count place)) (λ x. count_print x.0 ++ (count_print x.1.0 ++ place_print x.1.1)) (λ x. IsCount x.0 × (IsCount x.1.0 × IsLine x.1.1)) (λ x. what.Catch x.0 x.1.0 x.1.1) (codes "catch") (catch_kind s) (n, (m, l)) e }

pub again_endcatch : (s : Script) → Formed s → (n : ℕ) → is_formed_what s (what.Endcatch n) ≡ true → IsWorded s (what.Endcatch n)
unfolding said_by line_word
again_endcatch s h n e = record { word = word.Endcatch; rest = decimal n ∷ []; words = refl; again = kind_again s count count_print IsCount what.Endcatch (codes "endcatch") (endcatch_line s) n e }

pub again_finally : (s : Script) → Formed s → (n : ℕ) (m : ℕ) → is_formed_what s (what.Finally n m) ≡ true → IsWorded s (what.Finally n m)
unfolding said_by line_word
again_finally s h n m e = record { word = word.Finally; rest = decimal n ∷ decimal m ∷ []; words = refl; again = kind_again s (both count count) (λ x. count_print x.0 ++ count_print x.1) (λ x. IsCount x.0 × IsCount x.1) (λ x. what.Finally x.0 x.1) (codes "finally") (finally_line s) (n, m) e }

pub again_endfin : (s : Script) → Formed s → (n : ℕ) → is_formed_what s (what.Endfin n) ≡ true → IsWorded s (what.Endfin n)
unfolding said_by line_word
again_endfin s h n e = record { word = word.Endfin; rest = decimal n ∷ []; words = refl; again = kind_again s count count_print IsCount what.Endfin (codes "endfin") (endfin_line s) n e }

pub again_once : (s : Script) → Formed s → (n : ℕ) (id : NameId) → is_formed_what s (what.Once n id) ≡ true → IsWorded s (what.Once n id)
unfolding said_by line_word
again_once s h n id e = record { word = word.Once; rest = decimal n ∷ name_word s.names id ∷ []; words = refl; again = kind_again s (both count (name (names_in s) object.Once)) (λ x. count_print x.0 ++ name_print s x.1) (λ x. IsCount x.0 × (is_name_of s object.Once x.1 ≡ true)) (λ x. what.Once x.0 x.1) (codes "once") (once_kind s h) (n, id) e }

pub again_done : (s : Script) → Formed s → (n : ℕ) → is_formed_what s (what.Done n) ≡ true → IsWorded s (what.Done n)
unfolding said_by line_word
again_done s h n e = record { word = word.Done; rest = decimal n ∷ []; words = refl; again = kind_again s count count_print IsCount what.Done (codes "done") (done_line s) n e }

pub again_undone : (s : Script) → Formed s → (n : ℕ) (m : ℕ) → is_formed_what s (what.Undone n m) ≡ true → IsWorded s (what.Undone n m)
unfolding said_by line_word
again_undone s h n m e = record { word = word.Undone; rest = decimal n ∷ decimal m ∷ []; words = refl; again = kind_again s (both count count) (λ x. count_print x.0 ++ count_print x.1) (λ x. IsCount x.0 × IsCount x.1) (λ x. what.Undone x.0 x.1) (codes "undone") (undone_line s) (n, m) e }

pub again_destroy : (s : Script) → Formed s → (n : ℕ) (id : NameId) (z : ℤ) → is_formed_what s (what.Destroy n id z) ≡ true → IsWorded s (what.Destroy n id z)
unfolding said_by line_word
again_destroy s h n id z e = record { word = word.Destroy; rest = decimal n ∷ name_word s.names id ∷ signed_decimal z ∷ []; words = refl; again = kind_again s (both count (both (name (names_in s) object.Key) value)) (λ x. count_print x.0 ++ (name_print s x.1.0 ++ value_print x.1.1)) (λ x. IsCount x.0 × ((is_name_of s object.Key x.1.0 ≡ true) × IsValue x.1.1)) (λ x. what.Destroy x.0 x.1.0 x.1.1) (codes "destroy") (destroy_kind s h) (n, (id, z)) e }

pub again_enddes : (s : Script) → Formed s → (n : ℕ) → is_formed_what s (what.Enddes n) ≡ true → IsWorded s (what.Enddes n)
unfolding said_by line_word
again_enddes s h n e = record { word = word.Enddes; rest = decimal n ∷ []; words = refl; again = kind_again s count count_print IsCount what.Enddes (codes "enddes") (enddes_line s) n e }

pub again_lost : (s : Script) → Formed s → (n : ℕ) (m : ℕ) → is_formed_what s (what.Lost n m) ≡ true → IsWorded s (what.Lost n m)
unfolding said_by line_word
again_lost s h n m e = record { word = word.Lost; rest = decimal n ∷ decimal m ∷ []; words = refl; again = kind_again s (both count count) (λ x. count_print x.0 ++ count_print x.1) (λ x. IsCount x.0 × IsCount x.1) (λ x. what.Lost x.0 x.1) (codes "lost") (lost_line s) (n, m) e }

pub again_bottom : (s : Script) → Formed s → (n : ℕ) (z : ℤ) → is_formed_what s (what.Bottom n z) ≡ true → IsWorded s (what.Bottom n z)
unfolding said_by line_word
again_bottom s h n z e = record { word = word.Bottom; rest = decimal n ∷ signed_decimal z ∷ []; words = refl; again = kind_again s (both count value) (λ x. count_print x.0 ++ value_print x.1) (λ x. IsCount x.0 × IsValue x.1) (λ x. what.Bottom x.0 x.1) (codes "bottom") (bottom_line s) (n, z) e }

pub again_end : (s : Script) → Formed s → (z : ℤ) → is_formed_what s (what.End z) ≡ true → IsWorded s (what.End z)
unfolding said_by line_word
again_end s h z e = record { word = word.End; rest = signed_decimal z ∷ []; words = refl; again = kind_again s value value_print IsValue what.End (codes "end") (end_line s) z e }

pub again_pause : (s : Script) → IsWorded s what.Pause
unfolding said_by line_word
again_pause s = record { word = word.Pause; rest = []; words = refl; again = refl }
