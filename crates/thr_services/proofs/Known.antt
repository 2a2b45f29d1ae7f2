-- The answer to a call that is known.
use Rattle.std.proofs.Common.{◌≡◌, ℤ, List, sym, subst}
use Rattle.thr_values.specs.declared.number.Tid.{Tid}
use Rattle.thr_syntax.specs.declared.dce.DceCall.{DceCall}
use Rattle.thr_model.specs.Calls.{Gifts, answered}
use Rattle.thr_services.specs.declared.answer.Answer.{Answer}
use Rattle.thr_services.specs.Views.{ServicesView}
use Rattle.thr_services.specs.Answers.{Answers}

-- The call is this one, and this is what was given.
pub as_call : (old new : ServicesView) (a : Answer) (gifts more : Gifts) (t : Tid) (ns : List ℤ) (call known : DceCall) → call ≡ known → more ≡ gifts
    → Answers old new a gifts (λ s st. answered s st t known ns) → Answers old new a more (λ s st. answered s st t call ns)
as_call old new a gifts more t ns call known e same h =
    subst (λ (x : DceCall). Answers old new a more (λ s st. answered s st t x ns)) (sym e) (subst (λ (l : Gifts). Answers old new a l (λ s st. answered s st t known ns)) (sym same) h)
