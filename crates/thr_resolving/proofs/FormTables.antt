-- Tables over all lines: a line as its head and its values, and back.
use Rattle.std.proofs.Common.{◌≡◌, ℕ, ℤ, ◌<◌, ◌^◌, Bool, true, false, List, [], ◌∷◌, pos, Option, Some, refl, sym, ap, subst, ◌∙◌, arith, rules}
use Rattle.std.proofs.lemmas.Bool.{false≢true}
use Rattle.std.proofs.lemmas.Bool.Decides.{nat_tests}
use Rattle.std.proofs.lemmas.List.{append-nil}
use Rattle.thr_values.specs.Words.{call_word}
use Rattle.thr_values.specs.declared.number.NameId.{NameId}
use Rattle.thr_values.specs.declared.reply.Kind.{Kind}
use Rattle.thr_values.specs.declared.scheduling.Policy.{Policy}
use Rattle.thr_values.specs.declared.call.CallWord.{CallWord}
use Rattle.thr_values.specs.declared.call.CallWord.TheVariants as call
use Rattle.thr_syntax.specs.declared.expr.Var.{Var}
use Rattle.thr_syntax.specs.declared.expr.Expr.{Expr}
use Rattle.thr_syntax.specs.declared.dce.DceCall.{DceCall}
use Rattle.thr_syntax.specs.declared.dce.DceCall.TheVariants as dce
use Rattle.thr_syntax.specs.declared.form.Form.{Form}
use Rattle.thr_syntax.specs.declared.form.Form.TheVariants as form
use Rattle.thr_syntax.specs.declared.tree.Interface.{Interface}
use Rattle.thr_syntax.specs.Spelling.{Scope, expr_words, value_words, dce_words, form_words}
use Rattle.thr_text.specs.declared.head.Head.{Head}
use Rattle.thr_text.specs.declared.head.Head.TheVariants as head
use Rattle.thr_text.specs.declared.head.Choice.TheVariants as choice
use Rattle.thr_text.specs.declared.head.Slot.{Slot}
use Rattle.thr_text.specs.declared.head.Slot.TheVariants as slot
use Rattle.thr_text.specs.Faults.{first_of}
use Rattle.thr_text.specs.Heads.{head_word, all_heads, head_in, head_of}
use Rattle.thr_text.specs.Blocks.{shape_of, form_shape}
use Rattle.thr_text.specs.Slots.{call_slots, slots_of}
use Rattle.thr_resolving.specs.declared.value.Value.{Value}
use Rattle.thr_resolving.specs.declared.value.Value.TheVariants as value
use Rattle.thr_resolving.specs.Resolving.{second_of, as_number, size_of, as_size, call_of, form_of}
use Rattle.thr_resolving.proofs.Parts.{call_head, form_head, call_values, form_values, words_in_slots, IsIn, AreIn}

-- A line that has a head.
abbrev pub IsOwn : Form → Type 0
IsOwn f = f ≡ form.Header → ⊥

-- ---- the words of a line are those of its head and of what stands in its slots

call_spelled : (scope : Scope) (c : DceCall) → dce_words scope c ≡ call_word (call_head c) ∷ words_in_slots scope (call_slots (call_head c)) (call_values c)
unfolding call_head call_values call_slots words_in_slots
call_spelled scope (dce.AttrSetprio n e) = rw (append-nil (expr_words scope e)) refl
call_spelled scope (dce.AttrSetstacksize n e) = rw (append-nil (expr_words scope e)) refl
call_spelled scope (dce.Create v attr n e) = rw (append-nil (expr_words scope e)) refl
call_spelled scope (dce.Detach e) = rw (append-nil (expr_words scope e)) refl
call_spelled scope (dce.Cancel e) = rw (append-nil (expr_words scope e)) refl
call_spelled scope (dce.DelayNp e) = rw (append-nil (expr_words scope e)) refl
call_spelled scope (dce.CondTimedwait n1 n2 e) = rw (append-nil (expr_words scope e)) refl
call_spelled scope (dce.Setspecific n e) = rw (append-nil (expr_words scope e)) refl
call_spelled scope (dce.Write n e) = rw (append-nil (expr_words scope e)) refl
call_spelled scope _ = refl

pub spelled : (scope : Scope) (f : Form) → IsOwn f → form_words scope f ≡ head_word (form_head f) ∷ words_in_slots scope (slots_of (form_head f)) (form_values f)
unfolding form_head form_values slots_of words_in_slots head_word
spelled scope form.Header own = absurd (own refl)
spelled scope (form.Set v e) own = rw (append-nil (expr_words scope e)) refl
spelled scope (form.Say e) own = rw (append-nil (expr_words scope e)) refl
spelled scope (form.If e) own = rw (append-nil (expr_words scope e)) refl
spelled scope (form.While e) own = rw (append-nil (expr_words scope e)) refl
spelled scope (form.Call r e v) own = rw (append-nil (value_words scope v)) refl
spelled scope (form.Return e) own = rw (append-nil (expr_words scope e)) refl
spelled scope (form.Exit e) own = rw (append-nil (expr_words scope e)) refl
spelled scope (form.Dce c) own = call_spelled scope c
spelled scope _ own = refl

-- ---- the values of a line stand in its slots

call_values_fit : (c : DceCall) → AreIn (call_slots (call_head c)) (call_values c)
unfolding call_head call_values call_slots
call_values_fit (dce.AttrCreate n) = (tt, tt)
call_values_fit _ = search rules

pub values_fit : (f : Form) → IsOwn f → AreIn (slots_of (form_head f)) (form_values f)
unfolding form_head form_values slots_of
values_fit form.Header own = absurd (own refl)
values_fit (form.Dce c) own = call_values_fit c
values_fit _ own = search rules

-- ---- a line is made again of its head and its values

call_again : (c : DceCall) → call_of (call_head c) (call_values c) ≡ c
unfolding call_head call_values call_of
call_again (dce.AttrCreate n) = refl
call_again _ = refl

pub size_again : (n : ℕ) → n < 2 ^ 32 → size_of (pos n) ≡ n
size_again n small = grind (arith, nat_tests)

-- The number of a `limit` or `pipe` line has 32 bits.
abbrev pub SizesFit : Form → Type 0
SizesFit (form.Limit n) = n < 2 ^ 32
SizesFit (form.Pipe name n) = n < 2 ^ 32
SizesFit _ = Unit {0}

pub form_again : (f : Form) → IsOwn f → SizesFit f → form_of (form_head f) (form_values f) ≡ f
unfolding form_head form_values form_of
form_again form.Header own fit = absurd (own refl)
form_again (form.Limit n) own fit = ap form.Limit (size_again n fit)
form_again (form.Pipe name n) own fit = ap (form.Pipe name) (size_again n fit)
form_again (form.Dce c) own fit = ap form.Dce (call_again c)
form_again _ own fit = refl

-- ---- the head and the values of a line that is made of them

-- What a slot holds, and the value of it.
abbrev pub Held : Slot → Type 0
Held slot.Number = ℤ
Held (slot.Fixed choice.Interface) = Interface
Held (slot.Fixed choice.Policy) = Policy
Held (slot.Fixed choice.Inherit) = Bool
Held (slot.Fixed choice.Cancel) = Bool
Held (slot.Fixed choice.MutexKind) = Kind
Held (slot.Declared k) = NameId
Held slot.Parameter = List ℕ
Held slot.Local = List ℕ
Held (slot.Object k) = NameId
Held (slot.ObjectOr k) = Option NameId
Held slot.Variable = Var
Held slot.Receiver = Option ℕ
Held slot.Exception = ⊥
Held slot.Expression = Expr

abbrev pub held_value : (s : Slot) → Held s → Value
held_value slot.Number x = value.Number x
held_value (slot.Fixed choice.Interface) x = value.Interface x
held_value (slot.Fixed choice.Policy) x = value.Policy x
held_value (slot.Fixed choice.Inherit) x = value.Inherit x
held_value (slot.Fixed choice.Cancel) x = value.Cancel x
held_value (slot.Fixed choice.MutexKind) x = value.Kind x
held_value (slot.Declared k) x = value.Id x
held_value slot.Parameter x = value.Own (Some x)
held_value slot.Local x = value.Own (Some x)
held_value (slot.Object k) x = value.Id x
held_value (slot.ObjectOr k) x = value.Maybe x
held_value slot.Variable x = value.Variable x
held_value slot.Receiver x = value.Receiver x
held_value slot.Exception x = absurd x
held_value slot.Expression x = value.Expression x

value_held : (s : Slot) (v : Value) → IsIn s v → (x : Held s) × (held_value s x ≡ v)
value_held slot.Number (value.Number n) is = (n, refl)
value_held (slot.Fixed choice.Interface) (value.Interface i) is = (i, refl)
value_held (slot.Fixed choice.Policy) (value.Policy p) is = (p, refl)
value_held (slot.Fixed choice.Inherit) (value.Inherit b) is = (b, refl)
value_held (slot.Fixed choice.Cancel) (value.Cancel b) is = (b, refl)
value_held (slot.Fixed choice.MutexKind) (value.Kind k) is = (k, refl)
value_held (slot.Declared k) (value.Id id) is = (id, refl)
value_held slot.Parameter (value.Own (Some name)) is = (name, refl)
value_held slot.Local (value.Own (Some name)) is = (name, refl)
value_held (slot.Object k) (value.Id id) is = (id, refl)
value_held (slot.ObjectOr k) (value.Maybe o) is = (o, refl)
value_held slot.Variable (value.Variable v) is = (v, refl)
value_held slot.Receiver (value.Receiver o) is = (o, refl)
value_held slot.Expression (value.Expression e) is = (e, refl)
value_held _ _ is = absurd is

abbrev pub AllHeld : List Slot → Type 0
AllHeld [] = Unit {0}
AllHeld (s ∷ slots) = Held s × AllHeld slots

abbrev pub held_values : (slots : List Slot) → AllHeld slots → List Value
held_values [] x = []
held_values (s ∷ slots) x = held_value s x.0 ∷ held_values slots x.1

held_back : (slots : List Slot) (vs : List Value) → AreIn slots vs → (x : AllHeld slots) × (held_values slots x ≡ vs)
held_back [] [] are = (tt, refl)
held_back (s ∷ slots) (v ∷ vs) are =
    let one = value_held s v are.0 in
    let more = held_back slots vs are.1 in
    ((one.0, more.0), ap (λ (y : Value). y ∷ held_values slots more.0) one.1 ∙ ap (λ (ys : List Value). v ∷ ys) more.1)
held_back _ _ are = absurd are

call_head_from : (c : CallWord) (x : AllHeld (call_slots c)) → call_head (call_of c (held_values (call_slots c) x)) ≡ c
unfolding call_head call_of call_slots
call_head_from call.AttrCreate x = refl
call_head_from _ x = refl

head_from : (h : Head) (x : AllHeld (slots_of h)) → form_head (form_of h (held_values (slots_of h) x)) ≡ h
unfolding form_head form_of slots_of
head_from (head.Dce c) x = ap head.Dce (call_head_from c x)
head_from _ x = refl

pub form_head_of : (h : Head) (vs : List Value) → AreIn (slots_of h) vs → form_head (form_of h vs) ≡ h
form_head_of h vs are = let back = held_back (slots_of h) vs are in ap (λ (xs : List Value). form_head (form_of h xs)) (sym back.1) ∙ head_from h back.0

call_values_from : (c : CallWord) (x : AllHeld (call_slots c)) → call_values (call_of c (held_values (call_slots c) x)) ≡ held_values (call_slots c) x
unfolding call_values call_of call_slots
call_values_from call.AttrCreate x = refl
call_values_from _ x = refl

-- The number of a `limit` or `pipe` line has 32 bits.
abbrev pub AreSized : Head → List Value → Type 0
AreSized head.Limit vs = pos (as_size (first_of vs)) ≡ as_number (first_of vs)
AreSized head.Pipe vs = pos (as_size (second_of vs)) ≡ as_number (second_of vs)
AreSized _ vs = Unit {0}

values_from : (h : Head) (x : AllHeld (slots_of h)) → AreSized h (held_values (slots_of h) x) → form_values (form_of h (held_values (slots_of h) x)) ≡ held_values (slots_of h) x
unfolding form_values form_of slots_of
values_from head.Limit x sized = ap (λ (n : ℤ). value.Number n ∷ []) sized
values_from head.Pipe x sized = ap (λ (n : ℤ). value.Id x.0 ∷ value.Number n ∷ []) sized
values_from (head.Dce c) x sized = call_values_from c x
values_from _ x sized = refl

pub form_values_of : (h : Head) (vs : List Value) → AreIn (slots_of h) vs → AreSized h vs → form_values (form_of h vs) ≡ vs
form_values_of h vs are sized =
    let back = held_back (slots_of h) vs are in
    ap (λ (xs : List Value). form_values (form_of h xs)) (sym back.1)
    ∙ values_from h back.0 (subst (AreSized h) (sym back.1) sized)
    ∙ back.1

abbrev is_first_line : Form → Bool
is_first_line form.Header = true
is_first_line _ = false

own_from : (h : Head) (x : AllHeld (slots_of h)) → is_first_line (form_of h (held_values (slots_of h) x)) ≡ false
unfolding form_of slots_of
own_from head.Interface x = refl
own_from _ x = refl

pub own_of : (h : Head) (vs : List Value) → AreIn (slots_of h) vs → form_of h vs ≡ form.Header → ⊥
own_of h vs are e =
    let back = held_back (slots_of h) vs are in
    false≢true (sym (own_from h back.0) ∙ ap (λ (xs : List Value). is_first_line (form_of h xs)) back.1 ∙ ap is_first_line e)

-- ---- blocks and first words

pub shape_same : (f : Form) → IsOwn f → form_shape f ≡ shape_of (form_head f)
unfolding form_head form_shape shape_of
shape_same form.Header own = absurd (own refl)
shape_same _ own = refl

call_word_again : (c : CallWord) → head_of (call_word c) ≡ Some (head.Dce c)
unfolding head_of head_in all_heads head_word call_word
call_word_again call.AttrCreate = refl
call_word_again _ = refl

pub head_again : (h : Head) → head_of (head_word h) ≡ Some h
unfolding head_of head_in all_heads head_word call_word
head_again (head.Dce c) = call_word_again c
head_again _ = refl
