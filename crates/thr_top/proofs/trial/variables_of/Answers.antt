use Rattle.std.proofs.Common.{◌≡◌, ◌∙◌, ap, List, ℕ, ℤ, ◌++◌, ◌∷◌, [], codes, arith, w64, to_z, of_z}
use Rattle.std.proofs.lemmas.Int.{to_z-of_z, ints}
use mir.Val.{SFits}
use Rattle.std.specs.Prelude.{string_bytes}
use Rattle.std.specs.Fmt.{signed_decimal}
use Rattle.thr_model.specs.States.{shared_values}
use Rattle.thr_verdict.specs.Made.{total, caught}
use Rattle.thr_endings.specs.Endings.{one_line}
use Rattle.thr_top.proofs.Endings.{variables_told}
use Rattle.thr_top.proofs.trial.variables_of.Goals as goal

pub returns : goal.returns
returns c = λ number same.
    let fits1 : SFits w64 c.value_of.result = search (arith, ints) in
    let fits2 : SFits w64 c.value_of-2.result = search (arith, ints) in
    let is1 : to_z w64 (of_z w64 c.value_of.result) ≡ shared_values c.args.book.now.state total = to_z-of_z w64 c.value_of.result fits1 ∙ c.value_of.ensures in
    let is2 : to_z w64 (of_z w64 c.value_of-2.result) ≡ shared_values c.args.book.now.state caught = to_z-of_z w64 c.value_of-2.result fits2 ∙ c.value_of-2.ensures in
    let none : string_bytes c.new-text.result ≡ [] = c.new-text.ensures.bytes in
    let first : string_bytes c.add_variable.new.text ≡ [] ++ one_line (codes "total" ++ 32 ∷ signed_decimal (shared_values c.args.book.now.state total)) =
    c.in_ok-add_variable.ensures ∙ ap (λ (z : ℤ). string_bytes c.new-text.result ++ one_line (codes "total" ++ 32 ∷ signed_decimal z)) is1
    ∙ ap (λ (x : List ℕ). x ++ one_line (codes "total" ++ 32 ∷ signed_decimal (shared_values c.args.book.now.state total))) none in
    let second : string_bytes c.add_variable-2.new.text
    ≡ ([] ++ one_line (codes "total" ++ 32 ∷ signed_decimal (shared_values c.args.book.now.state total))) ++ one_line (codes "caught" ++ 32 ∷ signed_decimal (shared_values c.args.book.now.state caught)) =
    c.in_ok-add_variable-2.ensures ∙ ap (λ (z : ℤ). string_bytes c.add_variable.new.text ++ one_line (codes "caught" ++ 32 ∷ signed_decimal z)) is2
    ∙ ap (λ (x : List ℕ). x ++ one_line (codes "caught" ++ 32 ∷ signed_decimal (shared_values c.args.book.now.state caught))) first in
    variables_told number c.args.book.now.state _ second
