-- A line without faults, once its names are resolved, is spelled with just its words.
use Rattle.std.proofs.Common.{◌≡◌, ℕ, ℤ, ◌<◌, ◌^◌, true, false, List, [], ◌∷◌, pos, negsuc, map, Option, Some, refl, sym, ap, subst, ◌∙◌, inl, inr, arith}
use Rattle.std.specs.Prelude.{not}
use Rattle.std.specs.Map.{keys_of}
use Rattle.std.specs.Str.{bytes_eq}
use Rattle.std.proofs.lemmas.Bool.Decides.{nat_tests}
use Rattle.std.proofs.lemmas.Slice.Eq.{bytes_eq-Decides}
use Rattle.thr_values.specs.declared.call.CallWord.{CallWord}
use Rattle.thr_values.specs.declared.call.CallWord.TheVariants as call
use Rattle.thr_syntax.specs.declared.form.Form.{Form}
use Rattle.thr_syntax.specs.declared.form.Form.TheVariants as form
use Rattle.thr_syntax.specs.Spelling.{Scope, form_words}
use Rattle.thr_text.specs.declared.word.Word.{Word}
use Rattle.thr_text.specs.declared.word.Word.TheVariants.{Num, Name, Mark}
use Rattle.thr_text.specs.declared.head.Head.{Head}
use Rattle.thr_text.specs.declared.head.Head.TheVariants as head
use Rattle.thr_text.specs.Blocks.{shape_of, form_shape, shape_at, shape_of_line}
use Rattle.thr_text.specs.Grammar.{Fills}
use Rattle.thr_text.specs.Heads.{head_word, all_heads, head_in, head_of}
use Rattle.thr_text.specs.Lexing.{word_of, word_text, IsOfLine}
use Rattle.thr_text.specs.NameFaults.{is_within, is_out_of_range}
use Rattle.thr_text.specs.Numbers.{AreSigned, form_numbers}
use Rattle.thr_text.specs.Slots.{text_of, head_at, call_slots, slots_of, is_a_name, is_a_number}
use Rattle.thr_text.specs.Tables.{Entry, placed, placed_after, placed_in}
use Rattle.thr_text.proofs.FormLaws.{passes_form}
use Rattle.thr_text.proofs.WordTables.{chosen}
use Rattle.thr_resolving.specs.Resolving.{size_of, Piece, Raw, pieces_of, with_word, values_in, value_in, form_of, resolved, resolved_after, scope_of}
use Rattle.thr_resolving.specs.Scopes.{IsFaultless}
use Rattle.thr_resolving.specs.declared.value.Value.{Value}
use Rattle.thr_resolving.proofs.FixedWords.{word_again}
use Rattle.thr_resolving.proofs.FormTables.{spelled, form_head_of, AreSized, form_values_of, own_of, shape_same}
use Rattle.thr_resolving.proofs.NumberTables.{numbers_of, numbers_same}
use Rattle.thr_resolving.proofs.Parts.{form_head, form_values, words_in_slots, AreIn}
use Rattle.thr_resolving.proofs.PieceLaws.{name_no_operator, raw_first}
use Rattle.thr_resolving.proofs.PlacedWords.{AreGood, good_words}
use Rattle.thr_resolving.proofs.SlotLaws.{AreOuter, slots_told}
use Rattle.thr_resolving.proofs.TermWords.{cons_same}

-- ---- the first word

text_in : (hs : List Head) (text : List ℕ) (h : Head) → head_in hs text ≡ Some h → head_word h ≡ text
unfolding head_in
text_in [] text h e = absurd cc
text_in (x ∷ hs) text h e = elim (chosen (bytes_eq text (head_word x)) (Some x) (head_in hs text) (Some h) e) [
  | inl this ↦ let same : x ≡ h = inside x h this.1 in ap head_word (sym same) ∙ sym ((bytes_eq-Decides text (head_word x)).0 this.0)
  | inr other ↦ text_in hs text h other.1
]
  where
    inside : (x h : Head) → Some x ≡ Some h → x ≡ h
    inside x h e = cc

head_text : (w : Word) (h : Head) → head_at (text_of w) ≡ Some h → head_word h ≡ word_text w
unfolding head_of
head_text (Num n) h e = absurd cc
head_text (Name text) h e = text_in all_heads text h e
head_text (Mark text) h e = text_in all_heads text h e

-- ---- the numbers of `limit` and `pipe` lines

within_sized : (n : ℤ) (low high : ℕ) → high < 2 ^ 32 → not (is_within n low high) ≡ false → pos (size_of n) ≡ n
within_sized (pos n) low high small e = grind (arith, nat_tests)
within_sized (negsuc n) low high small e = absurd cc

abbrev SizedLine : Scope → Head → List Word → Type 0
SizedLine scope h ws = AreSized h (values_in scope (slots_of h) (pieces_of scope ws))

limit_sized : (scope : Scope) (w : Word) → is_a_number w ≡ true → is_out_of_range (Some head.Limit) (w ∷ []) ≡ false → SizedLine scope head.Limit (w ∷ [])
unfolding pieces_of with_word values_in value_in slots_of
limit_sized scope (Num n) can e = within_sized n 1 1000000 (omega arith) e
limit_sized scope (Name t) can e = absurd cc
limit_sized scope (Mark t) can e = absurd cc

pipe_pieces : (scope : Scope) (v : Word) (n : ℤ) → is_a_name v ≡ true → pieces_of scope (v ∷ Num n ∷ []) ≡ Raw v ∷ Raw (Num n) ∷ []
unfolding pieces_of with_word
pipe_pieces scope v n name = raw_first scope v (Num n ∷ []) (name_no_operator v name)

pipe_values : (scope : Scope) (v : Word) (n : ℤ) → not (is_within n 1 4096) ≡ false → AreSized head.Pipe (values_in scope (slots_of head.Pipe) (Raw v ∷ Raw (Num n) ∷ []))
unfolding values_in value_in slots_of
pipe_values scope v n e = within_sized n 1 4096 (omega arith) e

pipe_sized : (scope : Scope) (v w : Word) → is_a_name v ≡ true → is_a_number w ≡ true → is_out_of_range (Some head.Pipe) (v ∷ w ∷ []) ≡ false → SizedLine scope head.Pipe (v ∷ w ∷ [])
pipe_sized scope (Num m) w name can e = absurd cc
pipe_sized scope (Mark t) w name can e = absurd cc
pipe_sized scope (Name t) (Name u) name can e = absurd cc
pipe_sized scope (Name t) (Mark u) name can e = absurd cc
pipe_sized scope (Name t) (Num n) name can e =
    subst (λ (ps : List Piece). AreSized head.Pipe (values_in scope (slots_of head.Pipe) ps)) (sym (pipe_pieces scope (Name t) n name)) (pipe_values scope (Name t) n e)

call_outer : (c : CallWord) → AreOuter (call_slots c)
unfolding call_slots
call_outer call.AttrCreate = tt
call_outer _ = tt

outer : (h : Head) → AreOuter (slots_of h)
unfolding slots_of
outer (head.Dce c) = call_outer c
outer _ = tt

sized_line : (scope : Scope) (h : Head) (ws : List Word) → Fills (slots_of h) ws → is_out_of_range (Some h) ws ≡ false → SizedLine scope h ws
unfolding slots_of
sized_line scope head.Limit ws f e =
    let all : ws ≡ f.0 ∷ [] = f.3 ∙ ap (λ (xs : List Word). f.0 ∷ xs) f.4 in
    subst (SizedLine scope head.Limit) (sym all) (limit_sized scope f.0 f.2 (subst (λ (xs : List Word). is_out_of_range (Some head.Limit) xs ≡ false) all e))
sized_line scope head.Pipe ws f e =
    let g = f.4 in
    let all : ws ≡ f.0 ∷ g.0 ∷ [] = f.3 ∙ ap (λ (xs : List Word). f.0 ∷ xs) (g.3 ∙ ap (λ (xs : List Word). g.0 ∷ xs) g.4) in
    subst (SizedLine scope head.Pipe) (sym all) (pipe_sized scope f.0 g.0 f.2 g.2 (subst (λ (xs : List Word). is_out_of_range (Some head.Pipe) xs ≡ false) all e))
sized_line scope _ ws f e = tt

-- ---- lines

pub record LineTells (scope : Scope) (line : List Word) : Type 0 where
  pub words : map word_of (form_words scope (resolved scope line)) ≡ line
  pub numbers : AreSigned (form_numbers (resolved scope line))
  pub shape : form_shape (resolved scope line) ≡ shape_of_line line
  pub own : resolved scope line ≡ form.Header → ⊥

-- The same of the line that is made of this head and these values.
pub record FormTells (scope : Scope) (f : Form) (h : Head) (line : List Word) : Type 0 where
  pub words : map word_of (form_words scope f) ≡ line
  pub numbers : AreSigned (form_numbers f)
  pub shape : form_shape f ≡ shape_of h
  pub own : f ≡ form.Header → ⊥

form_tells : (scope : Scope) (h : Head) (w : Word) (ws : List Word) (vs : List Value) → head_word h ≡ word_text w → IsOfLine w → AreSized h vs
    → map word_of (words_in_slots scope (slots_of h) vs) ≡ ws → AreIn (slots_of h) vs → AreSigned (numbers_of vs) → FormTells scope (form_of h vs) h (w ∷ ws)
form_tells scope h w ws vs is of_line sized words fit numbers =
    let own = own_of h vs fit in
    let same_head = form_head_of h vs fit in
    let same_values = form_values_of h vs fit sized in
    record {
      words =
          ap (map word_of) (spelled scope (form_of h vs) own)
          ∙ cons_same (word_of (head_word (form_head (form_of h vs)))) w (map word_of (words_in_slots scope (slots_of (form_head (form_of h vs))) (form_values (form_of h vs)))) ws
          (ap (λ (x : Head). word_of (head_word x)) same_head ∙ ap word_of is ∙ word_again w of_line)
          (ap (λ (x : Head). map word_of (words_in_slots scope (slots_of x) (form_values (form_of h vs)))) same_head ∙ ap (λ (xs : List Value). map word_of (words_in_slots scope (slots_of h) xs)) same_values ∙ words);
      numbers = subst AreSigned (sym (numbers_same (form_of h vs) ∙ ap numbers_of same_values)) numbers;
      shape = shape_same (form_of h vs) own ∙ ap shape_of same_head;
      own = own;
    }

line_tells : (scope : Scope) (h : Head) (w : Word) (ws : List Word) → head_at (text_of w) ≡ Some h → FormTells scope (form_of h (values_in scope (slots_of h) (pieces_of scope ws))) h (w ∷ ws) → LineTells scope (w ∷ ws)
unfolding resolved
line_tells scope h w ws e t =
    let same : resolved scope (w ∷ ws) ≡ form_of h (values_in scope (slots_of h) (pieces_of scope ws)) = ap (λ (o : Option Head). resolved_after scope o ws) e in
    record {
      words = ap (λ (f : Form). map word_of (form_words scope f)) same ∙ t.words;
      numbers = subst (λ (f : Form). AreSigned (form_numbers f)) (sym same) t.numbers;
      shape = ap form_shape same ∙ t.shape ∙ sym (ap shape_at e);
      own = λ g. t.own (sym same ∙ g);
    }

module _ (entries : List Entry) (locals : List (List ℕ)) where
  -- The names by which the lines are resolved.
  abbrev here : Scope
  here = scope_of (keys_of entries) locals

  formed_tells : (h : Head) (w : Word) (ws : List Word) → head_at (text_of w) ≡ Some h → Fills (slots_of h) ws → IsFaultless entries locals (w ∷ ws) → LineTells here (w ∷ ws)
  formed_tells h w ws e f k =
      let good : AreGood entries locals (placed (slots_of h) ws) =
      subst (AreGood entries locals) (ap (λ (o : Option Head). placed_after o ws) e) (good_words entries locals (placed_in (w ∷ ws)) k.declares k.declared k.suited) in
      let told = slots_told entries locals k.few k.few_locals (slots_of h) (outer h) ws f k.of_line.1 good in
      let sized = sized_line here h ws f (subst (λ (o : Option Head). is_out_of_range o ws ≡ false) e k.range) in
      line_tells here h w ws e (
      form_tells here h w ws (values_in here (slots_of h) (pieces_of here ws)) (head_text w h e) k.of_line.0 sized told.words told.fit told.numbers
      )

  pub faultless_tells : (line : List Word) → IsFaultless entries locals line → LineTells here line
  faultless_tells [] k = absurd (k.some refl)
  faultless_tells (w ∷ ws) k =
      let g = passes_form w ws k.form in
      subst (LineTells here) (sym g.3) (formed_tells g.2 g.0 g.1 g.4 g.5 (subst (IsFaultless entries locals) g.3 k))
