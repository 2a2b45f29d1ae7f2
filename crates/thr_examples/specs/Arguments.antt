-- The arguments of a line: the words after its first, each expression taken together (docs/script.md, "Expressions").
use Rattle.std.specs.Prelude.{ℕ, ◌+◌, List, [], ◌∷◌, codes, if◌then◌else◌, Option, Some, None}
use Rattle.std.specs.Str.{bytes_eq}
use Rattle.thr_values.specs.declared.number.NameId.{NameId}
use Rattle.thr_syntax.specs.declared.expr.Var.{Var}
use Rattle.thr_syntax.specs.declared.expr.Var.TheVariants.{Local, Shared}
use Rattle.thr_syntax.specs.declared.expr.ExcRef.{ExcRef}
use Rattle.thr_syntax.specs.declared.expr.ExcRef.TheVariants.{Named, This}
use Rattle.thr_syntax.specs.declared.expr.Op.{Op}
use Rattle.thr_syntax.specs.declared.expr.Op.TheVariants as op
use Rattle.thr_syntax.specs.declared.expr.Expr.{Expr}
use Rattle.thr_syntax.specs.declared.expr.Expr.TheVariants as expr
use Rattle.thr_syntax.specs.Spelling.{Scope, operator_word}
use Rattle.thr_text.specs.declared.word.Word.{Word}
use Rattle.thr_text.specs.declared.word.Word.TheVariants.{Num, Name, Mark}
use Rattle.thr_text.specs.Tables.{is_among}

-- An argument by its first word, and as an expression where it is one.
pub record Argument : Type 0 where
  pub word : Word
  pub value : Expr

abbrev pub argument : Word → Expr → Argument
argument w e = record { word = w; value = e }

-- ---- names

-- The place of a name among these.
unfoldable pub place_in : List (List ℕ) → List ℕ → ℕ
place_in [] name = 0
place_in (n ∷ ns) name = if bytes_eq name n then 0 else place_in ns name + 1

abbrev pub name_in : Scope → List ℕ → NameId
name_in scope name = record { 0 = place_in scope.names name }

-- A parameter or local of the routine, or else a shared variable.
abbrev pub variable_in : Scope → List ℕ → Var
variable_in scope name = if is_among scope.locals name then Local (place_in scope.locals name) else Shared (name_in scope name)

abbrev pub exception_in : Scope → List ℕ → ExcRef
exception_in scope name = if bytes_eq name (codes "this") then This else Named (name_in scope name)

-- ---- expressions

-- The text of a word that is no number.
abbrev pub text_in : Word → List ℕ
text_in (Num n) = []
text_in (Name text) = text
text_in (Mark text) = text

abbrev pub operators : List Op
operators =
    op.Add ∷ op.Sub ∷ op.Mul ∷ op.Div ∷ op.Rem ∷ op.Equal ∷ op.Differs
    ∷ op.Less ∷ op.AtMost ∷ op.Greater ∷ op.AtLeast ∷ op.And ∷ op.Or ∷ []

-- The first of these operators that has this word.
unfoldable pub operator_in : List Op → List ℕ → Option Op
operator_in [] text = None
operator_in (o ∷ os) text = if bytes_eq text (operator_word o) then Some o else operator_in os text

-- The operator takes the next two arguments.
abbrev pub operation : Word → Op → List Argument → List Argument
operation w o (a ∷ b ∷ rest) = argument w (expr.Two o a.value b.value) ∷ rest
operation w o rest = rest

abbrev pub negation : Word → List Argument → List Argument
negation w (a ∷ rest) = argument w (expr.Not a.value) ∷ rest
negation w rest = rest

abbrev pub status_of : Scope → Word → List Argument → List Argument
status_of scope w (a ∷ rest) = argument w (expr.GetStatus (exception_in scope (text_in a.word))) ∷ rest
status_of scope w rest = rest

abbrev pub match_of : Scope → Word → List Argument → List Argument
match_of scope w (a ∷ b ∷ rest) = argument w (expr.Matches (exception_in scope (text_in a.word)) (exception_in scope (text_in b.word))) ∷ rest
match_of scope w rest = rest

-- A word that takes no argument; as an expression it is `self`, `err` or a variable.
abbrev pub atom : Scope → List ℕ → Expr
atom scope text =
    if bytes_eq text (codes "self") then expr.Me
    else (if bytes_eq text (codes "err") then expr.Err else expr.Var (variable_in scope text))

abbrev pub with_text : Scope → Word → List ℕ → Option Op → List Argument → List Argument
with_text scope w text (Some o) rest = operation w o rest
with_text scope w text None rest =
    if bytes_eq text (codes "not") then negation w rest
    else (if bytes_eq text (codes "exc_get_status") then status_of scope w rest
    else (if bytes_eq text (codes "exc_matches") then match_of scope w rest
    else argument w (atom scope text) ∷ rest))

-- A word before these arguments, of which it takes those that are its operands.
abbrev pub with_word : Scope → Word → List Argument → List Argument
with_word scope (Num n) rest = argument (Num n) (expr.Num n) ∷ rest
with_word scope (Name text) rest = with_text scope (Name text) text (operator_in operators text) rest
with_word scope (Mark text) rest = with_text scope (Mark text) text (operator_in operators text) rest

unfoldable pub arguments : Scope → List Word → List Argument
arguments scope [] = []
arguments scope (w ∷ ws) = with_word scope w (arguments scope ws)
