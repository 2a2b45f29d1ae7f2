-- What stands at the places of calls.
use Rattle.std.proofs.Common.{◌≡◌, ℤ, List, [], ◌∷◌, ◌++◌, take, replicate, Option, Some, None, refl, ap, sym, ◌∙◌}
use Rattle.thr_values.specs.declared.number.NameId.{NameId}
use Rattle.thr_values.specs.declared.call.Arg.{Arg}
use Rattle.thr_values.specs.declared.call.Arg.TheVariants as arg
use Rattle.thr_values.specs.declared.reply.Reply.{Reply}
use Rattle.thr_values.specs.declared.history.What.TheVariants as what
use Rattle.thr_syntax.specs.declared.dce.DceCall.{DceCall}
use Rattle.thr_remainder.specs.Calls.{Part, Name, Value, Word, name_part, shape_of, expressions_in, filled, arguments}
use Rattle.thr_services.specs.declared.answer.Numbers.{Numbers}
use Rattle.thr_services.specs.declared.answer.Numbers.TheVariants as numbers
use Rattle.thr_services.specs.Answers.{listed}
use Rattle.thr_asking.specs.declared.places.Said.{Said}
use Rattle.thr_asking.specs.Saying.{name_argument, first_argument, second_argument, said_as, placed}

-- No expression stands at the place of a name, or of the word in its place.
pub named_expressions : (o : Option NameId) (parts : List Part) → expressions_in (name_part o ∷ parts) ≡ expressions_in parts
named_expressions None parts = refl
named_expressions (Some name) parts = refl

pub named_arguments : (x y : Arg) (o : Option NameId) (parts : List Part) → placed x y (name_part o ∷ parts) ≡ name_argument o ∷ placed x y parts
named_arguments x y None parts = refl
named_arguments x y (Some name) parts = refl

-- ---- the values at their places

filled_none : (parts : List Part) → filled parts [] ≡ placed arg.Nothing arg.Nothing parts
filled_none [] = refl
filled_none (Name name ∷ parts) = ap (λ (l : List Arg). arg.Name name ∷ l) (filled_none parts)
filled_none (Word place ∷ parts) = ap (λ (l : List Arg). arg.Word place ∷ l) (filled_none parts)
filled_none (Value e ∷ parts) = ap (λ (l : List Arg). arg.Nothing ∷ l) (filled_none parts)

filled_one : (n : ℤ) (parts : List Part) → filled parts (n ∷ []) ≡ placed (arg.Num n) arg.Nothing parts
filled_one n [] = refl
filled_one n (Name name ∷ parts) = ap (λ (l : List Arg). arg.Name name ∷ l) (filled_one n parts)
filled_one n (Word place ∷ parts) = ap (λ (l : List Arg). arg.Word place ∷ l) (filled_one n parts)
filled_one n (Value e ∷ parts) = ap (λ (l : List Arg). arg.Num n ∷ l) (filled_none parts)

filled_two : (n k : ℤ) (parts : List Part) → filled parts (n ∷ k ∷ []) ≡ placed (arg.Num n) (arg.Num k) parts
filled_two n k [] = refl
filled_two n k (Name name ∷ parts) = ap (λ (l : List Arg). arg.Name name ∷ l) (filled_two n k parts)
filled_two n k (Word place ∷ parts) = ap (λ (l : List Arg). arg.Word place ∷ l) (filled_two n k parts)
filled_two n k (Value e ∷ parts) = ap (λ (l : List Arg). arg.Num n ∷ l) (filled_one k parts)

-- The values of a call's expressions stand at their places.
pub filled_is : (ns : Numbers) (parts : List Part) → filled parts (listed ns) ≡ placed (first_argument (listed ns)) (second_argument (listed ns)) parts
filled_is numbers.Nothing parts = filled_none parts
filled_is (numbers.One n) parts = filled_one n parts
filled_is (numbers.Two n k) parts = filled_two n k parts

-- The line of a call.
pub line_is : (call : DceCall) (ns : Numbers) (x y : Arg) (s : Said) (reply : Reply) → x ≡ first_argument (listed ns) → y ≡ second_argument (listed ns)
    → s ≡ said_as (shape_of call).word (placed x y (shape_of call).parts)
    → what.Call s.call s.args reply ≡ what.Call (shape_of call).word (arguments call (listed ns)) reply
line_is call ns x y s reply first second is =
    ap (λ (t : Said). what.Call t.call t.args reply) is
    ∙ ap (λ (l : List Arg). what.Call (shape_of call).word (take 4 (l ++ replicate 4 arg.Nothing)) reply)
    ((λ i. placed (first i) (second i) (shape_of call).parts) ∙ sym (filled_is ns (shape_of call).parts))
