-- The shapes of the words of a script's lines, and the returns among them.
use Rattle.std.proofs.Common.{◌≡◌, ℕ, ◌+◌, Bool, true, false, List, [], ◌∷◌, ◌++◌, map, length, Some, None, inl, inr, refl, sym, ap, subst, ◌∙◌}
use Rattle.std.specs.Prelude.{codes}
use Rattle.std.proofs.lemmas.List.{map-append}
use Rattle.std.proofs.lemmas.Bool.{cases_Bool}
use Rattle.thr_values.specs.Words.{call_word}
use Rattle.thr_values.specs.declared.call.CallWord.{CallWord}
use Rattle.thr_values.specs.declared.call.CallWord.TheVariants as word
use Rattle.thr_syntax.specs.declared.dce.DceCall.{DceCall}
use Rattle.thr_syntax.specs.declared.dce.DceCall.TheVariants as dce
use Rattle.thr_syntax.specs.declared.form.Form.{Form}
use Rattle.thr_syntax.specs.declared.form.Form.TheVariants as form
use Rattle.thr_syntax.specs.declared.tree.Item.{Item}
use Rattle.thr_syntax.specs.declared.tree.Script.{Script}
use Rattle.thr_syntax.specs.Canon.{scope_in, item_words}
use Rattle.thr_syntax.specs.Lines.{joined, item_lines, lines_of}
use Rattle.thr_syntax.specs.Spelling.{Scope, dce_words, form_words}
use Rattle.thr_text.specs.declared.block.Block.{Block}
use Rattle.thr_text.specs.declared.block.Shape.{Shape}
use Rattle.thr_text.specs.declared.block.Shape.TheVariants.{IsPlain}
use Rattle.thr_text.specs.declared.head.Head.{Head}
use Rattle.thr_text.specs.declared.head.Head.TheVariants as head
use Rattle.thr_text.specs.declared.word.Word.{Word}
use Rattle.thr_text.specs.Blocks.{shape_of, form_shape, is_inside, is_outside, is_after_catch_all, is_beside_finally, is_without_clause, leaves_a_try, is_uncaught, misfits, blocks_below, shape_at, shape_of_line, mentions_this, at_line, block_faults}
use Rattle.thr_text.specs.Faults.{when}
use Rattle.thr_text.specs.Heads.{head_word, all_heads, head_in, head_of}
use Rattle.thr_text.specs.Lexing.{has_number_form, word_of}
use Rattle.thr_text.specs.Names.{has_name_form}
use Rattle.thr_text.specs.Reading.{Formed, own_lines, numbered_lines}
use Rattle.thr_text.specs.Slots.{text_of, head_at}

-- ---- what a line is, by its first word

text_told : (text : List ℕ) → has_number_form text ≡ false → text_of (word_of text) ≡ Some text
unfolding word_of
text_told text n = elim (cases_Bool (has_name_form text)) [
  | inl h ↦ rw (n, h) refl
  | inr h ↦ rw (n, h) refl
]

call_is_no_number : (c : CallWord) → has_number_form (call_word c) ≡ false
unfolding call_word has_number_form
call_is_no_number word.Close = refl
call_is_no_number _ = refl

head_is_no_number : (h : Head) → has_number_form (head_word h) ≡ false
unfolding head_word has_number_form
head_is_no_number (head.Dce c) = call_is_no_number c
head_is_no_number _ = refl

call_again : (c : CallWord) → head_of (call_word c) ≡ Some (head.Dce c)
unfolding head_of head_in all_heads head_word call_word
call_again word.Close = refl
call_again _ = refl

head_again : (h : Head) → head_of (head_word h) ≡ Some h
unfolding head_of head_in all_heads head_word call_word
head_again (head.Dce c) = call_again c
head_again _ = refl

shape_told : (h : Head) → shape_at (head_at (text_of (word_of (head_word h)))) ≡ shape_of h
shape_told h = ap shape_at (ap head_at (text_told (head_word h) (head_is_no_number h)) ∙ head_again h)

no_number : has_number_form (codes "dcethr") ≡ false
unfolding has_number_form
no_number = refl

no_head : head_of (codes "dcethr") ≡ None
unfolding head_of head_in all_heads head_word call_word
no_head = refl

header_shape : shape_at (head_at (text_of (word_of (codes "dcethr")))) ≡ IsPlain
header_shape = ap shape_at (ap head_at (text_told (codes "dcethr") no_number) ∙ no_head)

-- The shape of a line by its words: the first line of a script has no head.
abbrev pub words_shape : Form → Shape
words_shape form.Header = IsPlain
words_shape f = form_shape f

call_shape : (scope : Scope) (call : DceCall) → shape_of_line (map word_of (dce_words scope call)) ≡ IsPlain
unfolding head_word shape_of
call_shape scope (dce.AttrCreate n) = shape_told (head.Dce word.AttrCreate)
call_shape scope (dce.AttrDelete n) = shape_told (head.Dce word.AttrDelete)
call_shape scope (dce.AttrSetsched n policy) = shape_told (head.Dce word.AttrSetsched)
call_shape scope (dce.AttrSetprio n e) = shape_told (head.Dce word.AttrSetprio)
call_shape scope (dce.AttrSetinheritsched n inherits) = shape_told (head.Dce word.AttrSetinheritsched)
call_shape scope (dce.AttrSetstacksize n e) = shape_told (head.Dce word.AttrSetstacksize)
call_shape scope (dce.Create v attr n e) = shape_told (head.Dce word.Create)
call_shape scope (dce.Join e v) = shape_told (head.Dce word.Join)
call_shape scope (dce.Detach e) = shape_told (head.Dce word.Detach)
call_shape scope dce.Yield = shape_told (head.Dce word.Yield)
call_shape scope (dce.Cancel e) = shape_told (head.Dce word.Cancel)
call_shape scope dce.Testcancel = shape_told (head.Dce word.Testcancel)
call_shape scope (dce.Setcancel on v) = shape_told (head.Dce word.Setcancel)
call_shape scope (dce.Setasynccancel on v) = shape_told (head.Dce word.Setasynccancel)
call_shape scope (dce.Setprio e1 e2 v) = shape_told (head.Dce word.Setprio)
call_shape scope (dce.Getprio e v) = shape_told (head.Dce word.Getprio)
call_shape scope (dce.Setscheduler e1 policy e2 v) = shape_told (head.Dce word.Setscheduler)
call_shape scope (dce.Getscheduler e v) = shape_told (head.Dce word.Getscheduler)
call_shape scope (dce.DelayNp e) = shape_told (head.Dce word.DelayNp)
call_shape scope (dce.GetExpirationNp e v) = shape_told (head.Dce word.GetExpirationNp)
call_shape scope (dce.MutexattrCreate n) = shape_told (head.Dce word.MutexattrCreate)
call_shape scope (dce.MutexattrSetkindNp n kind) = shape_told (head.Dce word.MutexattrSetkindNp)
call_shape scope (dce.MutexattrDelete n) = shape_told (head.Dce word.MutexattrDelete)
call_shape scope (dce.MutexInit n attr) = shape_told (head.Dce word.MutexInit)
call_shape scope (dce.MutexDestroy n) = shape_told (head.Dce word.MutexDestroy)
call_shape scope (dce.MutexLock n) = shape_told (head.Dce word.MutexLock)
call_shape scope (dce.MutexTrylock n v) = shape_told (head.Dce word.MutexTrylock)
call_shape scope (dce.MutexUnlock n) = shape_told (head.Dce word.MutexUnlock)
call_shape scope dce.LockGlobalNp = shape_told (head.Dce word.LockGlobalNp)
call_shape scope dce.UnlockGlobalNp = shape_told (head.Dce word.UnlockGlobalNp)
call_shape scope (dce.CondInit n) = shape_told (head.Dce word.CondInit)
call_shape scope (dce.CondDestroy n) = shape_told (head.Dce word.CondDestroy)
call_shape scope (dce.CondWait n1 n2) = shape_told (head.Dce word.CondWait)
call_shape scope (dce.CondTimedwait n1 n2 e) = shape_told (head.Dce word.CondTimedwait)
call_shape scope (dce.CondSignal n) = shape_told (head.Dce word.CondSignal)
call_shape scope (dce.CondBroadcast n) = shape_told (head.Dce word.CondBroadcast)
call_shape scope (dce.Once n1 n2) = shape_told (head.Dce word.Once)
call_shape scope (dce.Keycreate n destructor) = shape_told (head.Dce word.Keycreate)
call_shape scope (dce.Setspecific n e) = shape_told (head.Dce word.Setspecific)
call_shape scope (dce.Getspecific n v) = shape_told (head.Dce word.Getspecific)
call_shape scope (dce.Read n v1 v2) = shape_told (head.Dce word.Read)
call_shape scope (dce.Write n e) = shape_told (head.Dce word.Write)
call_shape scope (dce.Close n) = shape_told (head.Dce word.Close)

same_shape : (scope : Scope) (f : Form) → shape_of_line (map word_of (form_words scope f)) ≡ words_shape f
unfolding head_word shape_of form_shape
same_shape scope form.Header = header_shape
same_shape scope (form.Interface i) = shape_told head.Interface
same_shape scope (form.Limit n) = shape_told head.Limit
same_shape scope (form.Shared name n) = shape_told head.Shared
same_shape scope (form.Exception name) = shape_told head.Exception
same_shape scope (form.Status name n) = shape_told head.Status
same_shape scope (form.Mutex name) = shape_told head.Mutex
same_shape scope (form.MutexAttr name) = shape_told head.Mutexattr
same_shape scope (form.Cond name) = shape_told head.Cond
same_shape scope (form.Attr name) = shape_told head.Attr
same_shape scope (form.Key name) = shape_told head.Key
same_shape scope (form.Once name) = shape_told head.Once
same_shape scope (form.Pipe name n) = shape_told head.Pipe
same_shape scope (form.Routine name parameter) = shape_told head.Routine
same_shape scope (form.Local name) = shape_told head.Local
same_shape scope (form.Set v e) = shape_told head.Set
same_shape scope (form.Say e) = shape_told head.Say
same_shape scope (form.If e) = shape_told head.If
same_shape scope form.Else = shape_told head.Else
same_shape scope (form.While e) = shape_told head.While
same_shape scope form.Try = shape_told head.Try
same_shape scope (form.Catch x) = shape_told head.Catch
same_shape scope form.CatchAll = shape_told head.CatchAll
same_shape scope form.Finally = shape_told head.Finally
same_shape scope form.Endtry = shape_told head.Endtry
same_shape scope (form.Raise x) = shape_told head.Raise
same_shape scope form.Reraise = shape_told head.Reraise
same_shape scope (form.Call r e v) = shape_told head.Call
same_shape scope (form.Return e) = shape_told head.Return
same_shape scope (form.Exit e) = shape_told head.Exit
same_shape scope (form.Dce call) = call_shape scope call
same_shape scope form.End = shape_told head.End

same_shapes : (scope : Scope) (fs : List Form) → map shape_of_line (map (map word_of) (map (form_words scope) fs)) ≡ map words_shape fs
same_shapes scope [] = refl
same_shapes scope (f ∷ fs) =
    ap (λ (x : Shape). x ∷ map shape_of_line (map (map word_of) (map (form_words scope) fs))) (same_shape scope f) ∙ ap (λ (xs : List Shape). words_shape f ∷ xs) (same_shapes scope fs)

items_shapes : (names : List (List ℕ)) (items : List Item) → map shape_of_line (map (map word_of) (joined (map (item_words names) items))) ≡ map words_shape (joined (map item_lines items))
items_shapes names [] = refl
items_shapes names (i ∷ items) =
    let more : List (List (List ℕ)) = joined (map (item_words names) items) in
    ap (map shape_of_line) (map-append (map word_of) (item_words names i) more)
    ∙ map-append shape_of_line (map (map word_of) (item_words names i)) (map (map word_of) more)
    ∙ ap (λ (xs : List Shape). xs ++ map shape_of_line (map (map word_of) more)) (same_shapes (scope_in names i) (item_lines i))
    ∙ ap (λ (xs : List Shape). map words_shape (item_lines i) ++ xs) (items_shapes names items)
    ∙ sym (map-append words_shape (item_lines i) (joined (map item_lines items)))

-- ---- lines without faults

-- No line of these shapes is a return in a try, below these open blocks.
abbrev pub ShapesKept : List Block → List Shape → Type 0
ShapesKept bs [] = Unit {0}
ShapesKept bs (shape ∷ shapes) = (leaves_a_try bs shape ≡ false) × ShapesKept (blocks_below bs shape) shapes

-- No line of these is a return in a try, below these open blocks.
abbrev pub Kept : List Block → List Form → Type 0
Kept bs forms = ShapesKept bs (map words_shape forms)

first_nil : {A : Type 0} (xs ys : List A) → xs ++ ys ≡ [] → xs ≡ []
first_nil [] ys e = refl
first_nil (x ∷ xs) ys e = absurd cc

second_nil : {A : Type 0} (xs ys : List A) → xs ++ ys ≡ [] → ys ≡ []
second_nil [] ys e = e
second_nil (x ∷ xs) ys e = absurd cc

none_at : (line : ℕ) (ns : List ℕ) → at_line line ns ≡ [] → ns ≡ []
none_at line [] e = refl
none_at line (n ∷ ns) e = absurd cc

sixth_nil : (a b c d e f g : List ℕ) → a ++ (b ++ (c ++ (d ++ (e ++ (f ++ g))))) ≡ [] → f ≡ []
sixth_nil a b c d e f g h =
    first_nil f g (second_nil e (f ++ g) (second_nil d (e ++ (f ++ g)) (second_nil c (d ++ (e ++ (f ++ g))) (second_nil b (c ++ (d ++ (e ++ (f ++ g)))) (second_nil a (b ++ (c ++ (d ++ (e ++ (f ++ g))))) h)))))

not_when : (b : Bool) (n : ℕ) → when b n ≡ [] → b ≡ false
not_when true n e = absurd cc
not_when false n e = refl

stays_in : (bs : List Block) (shape : Shape) (this : Bool) → misfits bs shape this ≡ [] → leaves_a_try bs shape ≡ false
unfolding misfits
stays_in bs shape this h =
    not_when (leaves_a_try bs shape) 13 (sixth_nil (when (is_inside bs shape) 8) (when (is_outside bs shape) 9) (when (is_after_catch_all bs shape) 10) (when (is_beside_finally bs shape) 11) (when (is_without_clause bs shape) 12)
    (when (leaves_a_try bs shape) 13) (when (is_uncaught bs shape this) 14) h)

of_numbered : (end at : ℕ) (bs : List Block) (ls : List (List Word)) → block_faults end bs (numbered_lines at ls) ≡ [] → ShapesKept bs (map shape_of_line ls)
unfolding numbered_lines block_faults
of_numbered end at bs [] h = tt
of_numbered end at bs (l ∷ ls) h =
    let own : List (ℕ × ℕ) = at_line at (misfits bs (shape_of_line l) (mentions_this l)) in
    let rest : List (ℕ × ℕ) = block_faults end (blocks_below bs (shape_of_line l)) (numbered_lines (at + 1) ls) in
    (stays_in bs (shape_of_line l) (mentions_this l) (none_at at (misfits bs (shape_of_line l) (mentions_this l)) (first_nil own rest h)), of_numbered end (at + 1) (blocks_below bs (shape_of_line l)) ls (second_nil own rest h))

-- No line of a script that keeps the rules is a return in a try.
pub script_kept : (s : Script) → Formed s → Kept [] (lines_of s)
unfolding blocks_below
script_kept s h = (refl, subst (ShapesKept []) (items_shapes s.names s.items) (of_numbered (length (own_lines s) + 2) 2 [] (own_lines s) h.blocks))
