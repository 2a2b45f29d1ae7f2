-- A line of a journal that has its form is told by its text, from each line whose arguments stand in front.
use Rattle.std.proofs.Common.{◌≡◌, ℕ, ◌^◌, ◌<◌, Bool, true, false, List, [], ◌∷◌, ◌++◌, length, suc, length-append, refl, sym, ◌∙◌, ap, arith}
use Rattle.std.specs.Prelude.{◌==◌, ◌&&◌, codes}
use Rattle.std.specs.Fmt.{decimal}
use Rattle.std.proofs.lemmas.Bool.{and_parts}
use Rattle.std.proofs.lemmas.Bool.Decides.{nat_tests}
use Rattle.std.proofs.lemmas.Slice.Eq.{bytes_eq-Decides}
use Rattle.thr_values.specs.declared.number.Line.{Line}
use Rattle.thr_values.specs.declared.number.Tid.{Tid}
use Rattle.thr_values.specs.declared.call.Arg.{Arg}
use Rattle.thr_values.specs.declared.call.Arg.TheVariants as arg
use Rattle.thr_values.specs.declared.history.What.{What}
use Rattle.thr_values.specs.declared.history.What.TheVariants as what
use Rattle.thr_values.specs.declared.history.Who.{Who}
use Rattle.thr_values.specs.declared.history.Who.TheVariants as who
use Rattle.thr_values.specs.declared.history.Entry.{Entry}
use Rattle.thr_syntax.specs.declared.tree.Script.{Script}
use Rattle.thr_text.specs.declared.head.Slot.{Slot}
use Rattle.thr_text.specs.declared.object.Object.TheVariants as object
use Rattle.thr_text.specs.Reading.{Formed}
use Rattle.thr_text.specs.Journals.{reply_word, args_words, what_words, who_word, numbered_line}
use Rattle.thr_verdict.specs.Places.{fits_32, fits_64, places_of, suits, fill, have_their_form}
use Rattle.thr_verdict.specs.FormedJournals.{fits_what, is_formed_reply, is_formed_what, is_formed_line}
use Rattle.thr_verdict.specs.FirstWrong.{is_same_line}
use Rattle.thr_exactness.specs.Arguments.{stand_in_front, has_arguments_in_front}
use Rattle.thr_exactness.proofs.Decimals.{decimal_one, signed_one, below_64}
use Rattle.thr_exactness.proofs.Joins.{same_words}
use Rattle.thr_exactness.proofs.FormedNames.{are_names, same_name}
use Rattle.thr_exactness.proofs.LineKinds.{Kind, Fields, build, kind_of, fields_of, like, same_kind}
use Rattle.thr_exactness.proofs.LineKinds as kind
use Rattle.thr_exactness.proofs.SameWords.{same_reply, same_exception, same_gift, same_thread, is_formed_who, same_who}
use Rattle.thr_exactness.proofs.Spaces.{spaceless, who_spaceless, what_spaceless}
use Rattle.thr_exactness.proofs.SameArguments.{nothing_suits, same_arguments}

-- ---- words at their places

abbrev at_0 : List (List ℕ) → List ℕ
at_0 [] = []
at_0 (w ∷ ws) = w

abbrev behind : List (List ℕ) → List (List ℕ)
behind [] = []
behind (w ∷ ws) = ws

abbrev at_1 : List (List ℕ) → List ℕ
at_1 ws = at_0 (behind ws)

abbrev at_2 : List (List ℕ) → List ℕ
at_2 ws = at_0 (behind (behind ws))

abbrev at_3 : List (List ℕ) → List ℕ
at_3 ws = at_0 (behind (behind (behind ws)))

-- ---- the end of a call's line

-- Lists with two words behind them are the same up to there, and so are these words.
record SameEnds (as' bs : List (List ℕ)) (v w : List ℕ) : Type 0 where
  fronts : as' ≡ bs
  lasts : v ≡ w

longer : (v w x : List ℕ) (y : List ℕ) (ys : List (List ℕ)) → x ∷ v ∷ [] ≡ y ∷ (ys ++ x ∷ w ∷ []) → ⊥
longer v w x y ys e = let same : 2 ≡ suc (length (ys ++ x ∷ w ∷ [])) = ap length e in omega (arith, same, length-append ys (x ∷ w ∷ []))

same_end : (v w x : List ℕ) → x ∷ v ∷ [] ≡ x ∷ w ∷ [] → v ≡ w
same_end v w x e = cc

one_more : (y z : List ℕ) (ys zs as' bs : List (List ℕ)) → y ∷ as' ≡ z ∷ bs → (y ≡ z) × (as' ≡ bs)
one_more y z ys zs as' bs e = (cc, cc)

same_ends : (as' bs : List (List ℕ)) (v w x : List ℕ) → as' ++ x ∷ v ∷ [] ≡ bs ++ x ∷ w ∷ [] → SameEnds as' bs v w
same_ends [] [] v w x e = record { fronts = refl; lasts = same_end v w x e }
same_ends [] (z ∷ zs) v w x e = absurd (longer v w x z zs e)
same_ends (y ∷ ys) [] v w x e = absurd (longer w v x y ys (sym e))
same_ends (y ∷ ys) (z ∷ zs) v w x e =
    let p : (y ≡ z) × (ys ++ x ∷ v ∷ [] ≡ zs ++ x ∷ w ∷ []) = one_more y z ys zs (ys ++ x ∷ v ∷ []) (zs ++ x ∷ w ∷ []) e in
    let rest : SameEnds ys zs v w = same_ends ys zs v w x p.1 in
    record { fronts = (λ i. p.0 i ∷ rest.fronts i); lasts = rest.lasts }

same_number : (m n : ℕ) → fits_64 n ≡ true → decimal m ≡ decimal n → m ≡ n
same_number m n h e = decimal_one m n (below_64 n h) e

wider : (n : ℕ) → fits_32 n ≡ true → n < 2 ^ 64
wider n e = let h : n < 4294967296 = grind (arith, nat_tests) in omega arith

same_place : (k l : Line) → fits_32 l.0 ≡ true → decimal k.0 ≡ decimal l.0 → k ≡ l
same_place k l h e = let same : k.0 ≡ l.0 = decimal_one k.0 l.0 (wider l.0 h) e in λ i. record { 0 = same i }

-- ---- what lines say

module _ (s : Script) (f : Formed s) where
  -- The words of two lines are the same, and the second has its form.
  abbrev Same : What → What → Type 0
  Same m e = what_words s.names m ≡ what_words s.names e

  kind_same : (m e : What) (k : Kind) → kind_of e ≡ k → Same m e → m ≡ build k (fields_of m)
  kind_same m e k is w = like m k (same_kind s.names m e w ∙ is)

  words_same : (m e : What) (k : Kind) → m ≡ build k (fields_of m) → Same m e → what_words s.names (build k (fields_of m)) ≡ what_words s.names e
  words_same m e k i w = sym (ap (what_words s.names) i) ∙ w

  -- A line that has its form is told by what it says.
  same_what : (m e : What) → has_arguments_in_front m ≡ true → is_formed_what s e ≡ true → Same m e → m ≡ e
  unfolding is_formed_what
  same_what m (what.Run t) front h e =
      let i : m ≡ what.Run (record { 0 = (fields_of m).count }) = kind_same m (what.Run t) kind.Run refl e in
      let w = words_same m (what.Run t) kind.Run i e in
      let u : Tid = record { 0 = (fields_of m).count } in
      let p : u ≡ t = same_thread u t h (ap at_1 w) in
      i ∙ (λ j. what.Run (p j))
  same_what m (what.Clock v) front h e =
      let i : m ≡ what.Clock (fields_of m).value = kind_same m (what.Clock v) kind.Clock refl e in
      let w = words_same m (what.Clock v) kind.Clock i e in
      let p : (fields_of m).value ≡ v = signed_one (fields_of m).value v (h) (ap at_0 w) in
      i ∙ (λ j. what.Clock (p j))
  same_what m (what.Call c args r) front h e =
      let i : m ≡ what.Call c (fields_of m).args (fields_of m).reply = kind_same m (what.Call c args r) (kind.Call c) refl e in
      let w = words_same m (what.Call c args r) (kind.Call c) i e in
      let ends : SameEnds (args_words s.names c (fields_of m).args) (args_words s.names c args) (reply_word (fields_of m).reply) (reply_word r) =
      same_ends (args_words s.names c (fields_of m).args) (args_words s.names c args) (reply_word (fields_of m).reply) (reply_word r) (codes "=") (ap behind w) in
      let x = and_parts (have_their_form s c args) (is_formed_reply r) h in
      let p : (fields_of m).args ≡ args = same_arguments s f c (fields_of m).args args (sym (ap has_arguments_in_front i) ∙ front) x.0 ends.fronts in
      let q : (fields_of m).reply ≡ r = same_reply (fields_of m).reply r x.1 ends.lasts in
      i ∙ (λ j. what.Call c (p j) (q j))
  same_what m (what.Ret r) front h e =
      let i : m ≡ what.Ret (fields_of m).reply = kind_same m (what.Ret r) kind.Ret refl e in
      let w = words_same m (what.Ret r) kind.Ret i e in
      let p : (fields_of m).reply ≡ r = same_reply (fields_of m).reply r (h) (ap at_2 w) in
      i ∙ (λ j. what.Ret (p j))
  same_what m (what.Gift m') front h e =
      let i : m ≡ what.Gift (fields_of m).gift = kind_same m (what.Gift m') kind.Gift refl e in
      let w = words_same m (what.Gift m') kind.Gift i e in
      let p : (fields_of m).gift ≡ m' = same_gift s f (fields_of m).gift m' (h) (ap at_1 w) in
      i ∙ (λ j. what.Gift (p j))
  same_what m (what.Say v) front h e =
      let i : m ≡ what.Say (fields_of m).value = kind_same m (what.Say v) kind.Say refl e in
      let w = words_same m (what.Say v) kind.Say i e in
      let p : (fields_of m).value ≡ v = signed_one (fields_of m).value v (h) (ap at_1 w) in
      i ∙ (λ j. what.Say (p j))
  same_what m (what.Set l v) front h e =
      let i : m ≡ what.Set (fields_of m).line (fields_of m).value = kind_same m (what.Set l v) kind.Set refl e in
      let w = words_same m (what.Set l v) kind.Set i e in
      let p : (fields_of m).line ≡ l = same_place (fields_of m).line l ((and_parts _ _ h).0) (ap at_1 w) in
      let q : (fields_of m).value ≡ v = signed_one (fields_of m).value v ((and_parts _ _ h).1) (ap at_2 w) in
      i ∙ (λ j. what.Set (p j) (q j))
  same_what m (what.If l v) front h e =
      let i : m ≡ what.If (fields_of m).line (fields_of m).value = kind_same m (what.If l v) kind.If refl e in
      let w = words_same m (what.If l v) kind.If i e in
      let p : (fields_of m).line ≡ l = same_place (fields_of m).line l ((and_parts _ _ h).0) (ap at_1 w) in
      let q : (fields_of m).value ≡ v = signed_one (fields_of m).value v ((and_parts _ _ h).1) (ap at_2 w) in
      i ∙ (λ j. what.If (p j) (q j))
  same_what m (what.While l v) front h e =
      let i : m ≡ what.While (fields_of m).line (fields_of m).value = kind_same m (what.While l v) kind.While refl e in
      let w = words_same m (what.While l v) kind.While i e in
      let p : (fields_of m).line ≡ l = same_place (fields_of m).line l ((and_parts _ _ h).0) (ap at_1 w) in
      let q : (fields_of m).value ≡ v = signed_one (fields_of m).value v ((and_parts _ _ h).1) (ap at_2 w) in
      i ∙ (λ j. what.While (p j) (q j))
  same_what m (what.CallAt l v) front h e =
      let i : m ≡ what.CallAt (fields_of m).line (fields_of m).value = kind_same m (what.CallAt l v) kind.CallAt refl e in
      let w = words_same m (what.CallAt l v) kind.CallAt i e in
      let p : (fields_of m).line ≡ l = same_place (fields_of m).line l ((and_parts _ _ h).0) (ap at_1 w) in
      let q : (fields_of m).value ≡ v = signed_one (fields_of m).value v ((and_parts _ _ h).1) (ap at_2 w) in
      i ∙ (λ j. what.CallAt (p j) (q j))
  same_what m (what.Return l v) front h e =
      let i : m ≡ what.Return (fields_of m).line (fields_of m).value = kind_same m (what.Return l v) kind.Return refl e in
      let w = words_same m (what.Return l v) kind.Return i e in
      let p : (fields_of m).line ≡ l = same_place (fields_of m).line l ((and_parts _ _ h).0) (ap at_1 w) in
      let q : (fields_of m).value ≡ v = signed_one (fields_of m).value v ((and_parts _ _ h).1) (ap at_2 w) in
      i ∙ (λ j. what.Return (p j) (q j))
  same_what m (what.Raise o x) front h e =
      let i : m ≡ what.Raise (fields_of m).count (fields_of m).exception = kind_same m (what.Raise o x) kind.Raise refl e in
      let w = words_same m (what.Raise o x) kind.Raise i e in
      let p : (fields_of m).count ≡ o = same_number (fields_of m).count o ((and_parts _ _ h).0) (ap at_1 w) in
      let q : (fields_of m).exception ≡ x = same_exception s f (fields_of m).exception x ((and_parts _ _ h).1) (ap (λ (ws : List (List ℕ)). behind (behind ws)) w) in
      i ∙ (λ j. what.Raise (p j) (q j))
  same_what m (what.Reraise o x) front h e =
      let i : m ≡ what.Reraise (fields_of m).count (fields_of m).exception = kind_same m (what.Reraise o x) kind.Reraise refl e in
      let w = words_same m (what.Reraise o x) kind.Reraise i e in
      let p : (fields_of m).count ≡ o = same_number (fields_of m).count o ((and_parts _ _ h).0) (ap at_1 w) in
      let q : (fields_of m).exception ≡ x = same_exception s f (fields_of m).exception x ((and_parts _ _ h).1) (ap (λ (ws : List (List ℕ)). behind (behind ws)) w) in
      i ∙ (λ j. what.Reraise (p j) (q j))
  same_what m (what.Deliver o l) front h e =
      let i : m ≡ what.Deliver (fields_of m).count (fields_of m).line = kind_same m (what.Deliver o l) kind.Deliver refl e in
      let w = words_same m (what.Deliver o l) kind.Deliver i e in
      let p : (fields_of m).count ≡ o = same_number (fields_of m).count o ((and_parts _ _ h).0) (ap at_1 w) in
      let q : (fields_of m).line ≡ l = same_place (fields_of m).line l ((and_parts _ _ h).1) (ap at_2 w) in
      i ∙ (λ j. what.Deliver (p j) (q j))
  same_what m (what.Exit o v) front h e =
      let i : m ≡ what.Exit (fields_of m).count (fields_of m).value = kind_same m (what.Exit o v) kind.Exit refl e in
      let w = words_same m (what.Exit o v) kind.Exit i e in
      let p : (fields_of m).count ≡ o = same_number (fields_of m).count o ((and_parts _ _ h).0) (ap at_1 w) in
      let q : (fields_of m).value ≡ v = signed_one (fields_of m).value v ((and_parts _ _ h).1) (ap at_2 w) in
      i ∙ (λ j. what.Exit (p j) (q j))
  same_what m (what.Try o l) front h e =
      let i : m ≡ what.Try (fields_of m).count (fields_of m).line = kind_same m (what.Try o l) kind.Try refl e in
      let w = words_same m (what.Try o l) kind.Try i e in
      let p : (fields_of m).count ≡ o = same_number (fields_of m).count o ((and_parts _ _ h).0) (ap at_1 w) in
      let q : (fields_of m).line ≡ l = same_place (fields_of m).line l ((and_parts _ _ h).1) (ap at_2 w) in
      i ∙ (λ j. what.Try (p j) (q j))
  same_what m (what.Endtry o) front h e =
      let i : m ≡ what.Endtry (fields_of m).count = kind_same m (what.Endtry o) kind.Endtry refl e in
      let w = words_same m (what.Endtry o) kind.Endtry i e in
      let p : (fields_of m).count ≡ o = same_number (fields_of m).count o (h) (ap at_1 w) in
      i ∙ (λ j. what.Endtry (p j))
  same_what m (what.Catch o n l) front h e =
      let i : m ≡ what.Catch (fields_of m).count (fields_of m).number (fields_of m).line = kind_same m (what.Catch o n l) kind.Catch refl e in
      let w = words_same m (what.Catch o n l) kind.Catch i e in
      let p : (fields_of m).count ≡ o = same_number (fields_of m).count o ((and_parts _ _ h).0) (ap at_1 w) in
      let q : (fields_of m).number ≡ n = same_number (fields_of m).number n ((and_parts _ _ (and_parts _ _ h).1).0) (ap at_2 w) in
      let r : (fields_of m).line ≡ l = same_place (fields_of m).line l ((and_parts _ _ (and_parts _ _ h).1).1) (ap at_3 w) in
      i ∙ (λ j. what.Catch (p j) (q j) (r j))
  same_what m (what.Endcatch o) front h e =
      let i : m ≡ what.Endcatch (fields_of m).count = kind_same m (what.Endcatch o) kind.Endcatch refl e in
      let w = words_same m (what.Endcatch o) kind.Endcatch i e in
      let p : (fields_of m).count ≡ o = same_number (fields_of m).count o (h) (ap at_1 w) in
      i ∙ (λ j. what.Endcatch (p j))
  same_what m (what.Finally o n) front h e =
      let i : m ≡ what.Finally (fields_of m).count (fields_of m).number = kind_same m (what.Finally o n) kind.Finally refl e in
      let w = words_same m (what.Finally o n) kind.Finally i e in
      let p : (fields_of m).count ≡ o = same_number (fields_of m).count o ((and_parts _ _ h).0) (ap at_1 w) in
      let q : (fields_of m).number ≡ n = same_number (fields_of m).number n ((and_parts _ _ h).1) (ap at_2 w) in
      i ∙ (λ j. what.Finally (p j) (q j))
  same_what m (what.Endfin o) front h e =
      let i : m ≡ what.Endfin (fields_of m).count = kind_same m (what.Endfin o) kind.Endfin refl e in
      let w = words_same m (what.Endfin o) kind.Endfin i e in
      let p : (fields_of m).count ≡ o = same_number (fields_of m).count o (h) (ap at_1 w) in
      i ∙ (λ j. what.Endfin (p j))
  same_what m (what.Once o name) front h e =
      let i : m ≡ what.Once (fields_of m).count (fields_of m).name = kind_same m (what.Once o name) kind.Once refl e in
      let w = words_same m (what.Once o name) kind.Once i e in
      let p : (fields_of m).count ≡ o = same_number (fields_of m).count o ((and_parts _ _ h).0) (ap at_1 w) in
      let q : (fields_of m).name ≡ name = same_name s f object.Once (fields_of m).name name ((and_parts _ _ h).1) (ap at_2 w) in
      i ∙ (λ j. what.Once (p j) (q j))
  same_what m (what.Done o) front h e =
      let i : m ≡ what.Done (fields_of m).count = kind_same m (what.Done o) kind.Done refl e in
      let w = words_same m (what.Done o) kind.Done i e in
      let p : (fields_of m).count ≡ o = same_number (fields_of m).count o (h) (ap at_1 w) in
      i ∙ (λ j. what.Done (p j))
  same_what m (what.Undone o n) front h e =
      let i : m ≡ what.Undone (fields_of m).count (fields_of m).number = kind_same m (what.Undone o n) kind.Undone refl e in
      let w = words_same m (what.Undone o n) kind.Undone i e in
      let p : (fields_of m).count ≡ o = same_number (fields_of m).count o ((and_parts _ _ h).0) (ap at_1 w) in
      let q : (fields_of m).number ≡ n = same_number (fields_of m).number n ((and_parts _ _ h).1) (ap at_2 w) in
      i ∙ (λ j. what.Undone (p j) (q j))
  same_what m (what.Destroy o name v) front h e =
      let i : m ≡ what.Destroy (fields_of m).count (fields_of m).name (fields_of m).value = kind_same m (what.Destroy o name v) kind.Destroy refl e in
      let w = words_same m (what.Destroy o name v) kind.Destroy i e in
      let p : (fields_of m).count ≡ o = same_number (fields_of m).count o ((and_parts _ _ h).0) (ap at_1 w) in
      let q : (fields_of m).name ≡ name = same_name s f object.Key (fields_of m).name name ((and_parts _ _ (and_parts _ _ h).1).0) (ap at_2 w) in
      let r : (fields_of m).value ≡ v = signed_one (fields_of m).value v ((and_parts _ _ (and_parts _ _ h).1).1) (ap at_3 w) in
      i ∙ (λ j. what.Destroy (p j) (q j) (r j))
  same_what m (what.Enddes o) front h e =
      let i : m ≡ what.Enddes (fields_of m).count = kind_same m (what.Enddes o) kind.Enddes refl e in
      let w = words_same m (what.Enddes o) kind.Enddes i e in
      let p : (fields_of m).count ≡ o = same_number (fields_of m).count o (h) (ap at_1 w) in
      i ∙ (λ j. what.Enddes (p j))
  same_what m (what.Lost o n) front h e =
      let i : m ≡ what.Lost (fields_of m).count (fields_of m).number = kind_same m (what.Lost o n) kind.Lost refl e in
      let w = words_same m (what.Lost o n) kind.Lost i e in
      let p : (fields_of m).count ≡ o = same_number (fields_of m).count o ((and_parts _ _ h).0) (ap at_1 w) in
      let q : (fields_of m).number ≡ n = same_number (fields_of m).number n ((and_parts _ _ h).1) (ap at_2 w) in
      i ∙ (λ j. what.Lost (p j) (q j))
  same_what m (what.Bottom o v) front h e =
      let i : m ≡ what.Bottom (fields_of m).count (fields_of m).value = kind_same m (what.Bottom o v) kind.Bottom refl e in
      let w = words_same m (what.Bottom o v) kind.Bottom i e in
      let p : (fields_of m).count ≡ o = same_number (fields_of m).count o ((and_parts _ _ h).0) (ap at_1 w) in
      let q : (fields_of m).value ≡ v = signed_one (fields_of m).value v ((and_parts _ _ h).1) (ap at_2 w) in
      i ∙ (λ j. what.Bottom (p j) (q j))
  same_what m what.Pause front h e = kind_same m what.Pause kind.Pause refl e
  same_what m (what.End v) front h e =
      let i : m ≡ what.End (fields_of m).value = kind_same m (what.End v) kind.End refl e in
      let w = words_same m (what.End v) kind.End i e in
      let p : (fields_of m).value ≡ v = signed_one (fields_of m).value v (h) (ap at_1 w) in
      i ∙ (λ j. what.End (p j))

  -- ---- lines

  who_has_form : (w : What) (o : Who) → fits_what w o ≡ true → is_formed_who o ≡ true
  who_has_form (what.Run t) (who.Proc p) h = h
  who_has_form (what.Run t) _ h = absurd (cc)
  who_has_form (what.Clock n) who.Clock h = refl
  who_has_form (what.Clock n) _ h = absurd (cc)
  who_has_form _ (who.Thread t) h = h
  who_has_form _ _ h = absurd (cc)

  abbrev line_says : ℕ → Entry → List (List ℕ)
  line_says k e = decimal k ∷ who_word e.who ∷ what_words s.names e.what

  same_says : (k : ℕ) (m e : Entry) → numbered_line s.names k m ≡ numbered_line s.names k e → line_says k m ≡ line_says k e
  same_says k m e same =
      same_words (decimal k) (decimal k) (who_word m.who ∷ what_words s.names m.what) (who_word e.who ∷ what_words s.names e.what)
      (spaceless k, (who_spaceless m.who, what_spaceless s.names (are_names s f) m.what)) (spaceless k, (who_spaceless e.who, what_spaceless s.names (are_names s f) e.what)) same

  same_entry : (m e : Entry) → m.who ≡ e.who → m.what ≡ e.what → m ≡ e
  same_entry m e p q = λ j. record { who = p j; what = q j }

  -- A line that has its form is told by its text with some number.
  pub same_line : (k : ℕ) (m e : Entry) → has_arguments_in_front m.what ≡ true → is_formed_line s e ≡ true → numbered_line s.names k m ≡ numbered_line s.names k e → m ≡ e
  same_line k m e front h same =
      let says : line_says k m ≡ line_says k e = same_says k m e same in
      let x = and_parts (fits_what e.what e.who) (is_formed_what s e.what) h in
      same_entry m e (same_who m.who e.who (who_has_form e.what e.who x.0) (ap at_1 says)) (same_what m.what e.what front x.1 (ap (λ (ws : List (List ℕ)). behind (behind ws)) says))

  -- Lines that are the same as lines of a journal are the same.
  pub told_line : (m e : Entry) → has_arguments_in_front m.what ≡ true → is_formed_line s e ≡ true → is_same_line s.names m e ≡ true → m ≡ e
  told_line m e front h same = same_line 0 m e front h ((bytes_eq-Decides (numbered_line s.names 0 m) (numbered_line s.names 0 e)).0 same)

  -- ---- both have their form

  places_some : (places : List Slot) (args : List Arg) → fill s places args ≡ true → stand_in_front args ≡ true
  places_some [] [] h = refl
  places_some [] (arg.Nothing ∷ args) h = h
  places_some [] (arg.Name n ∷ args) h = absurd (cc)
  places_some [] (arg.Num v ∷ args) h = absurd (cc)
  places_some [] (arg.Word k ∷ args) h = absurd (cc)
  places_some (p ∷ places) [] h = absurd (cc)
  places_some (p ∷ places) (arg.Nothing ∷ args) h = absurd (nothing_suits s p (and_parts (suits s p arg.Nothing) (fill s places args) h).0)
  places_some (p ∷ places) (arg.Name n ∷ args) h = places_some places args (and_parts (suits s p (arg.Name n)) (fill s places args) h).1
  places_some (p ∷ places) (arg.Num v ∷ args) h = places_some places args (and_parts (suits s p (arg.Num v)) (fill s places args) h).1
  places_some (p ∷ places) (arg.Word k ∷ args) h = places_some places args (and_parts (suits s p (arg.Word k)) (fill s places args) h).1

  both_hold : (a b : Bool) → a ≡ true → b ≡ true → (a && b) ≡ true
  both_hold true b h k = k
  both_hold false b h k = absurd (cc)

  -- The arguments of a line that has its form stand in front.
  formed_in_front : (w : What) → is_formed_what s w ≡ true → has_arguments_in_front w ≡ true
  unfolding is_formed_what
  formed_in_front (what.Call c args r) h =
      let x = and_parts (have_their_form s c args) (is_formed_reply r) h in
      let y = and_parts (length args == 4) (fill s (places_of c) args) x.0 in both_hold (length args == 4) (stand_in_front args) y.0 (places_some (places_of c) args y.1)
  formed_in_front _ h = refl

  pub formed_lines_told : (k : ℕ) (a b : Entry) → is_formed_line s a ≡ true → is_formed_line s b ≡ true → numbered_line s.names k a ≡ numbered_line s.names k b → a ≡ b
  formed_lines_told k a b h i same = same_line k a b (formed_in_front a.what (and_parts (fits_what a.what a.who) (is_formed_what s a.what) h).1) i same
