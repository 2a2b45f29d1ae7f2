-- The values with which a thread asks, and what is raised where frames are lacking.
use Rattle.std.proofs.Common.{◌≡◌, Bool, true, false, not, ◌&&◌, Err, refl, sym, ◌∙◌, if◌then◌else◌}
use Rattle.std.proofs.lemmas.Bool.{false≢true}
use Rattle.thr_values.specs.Exceptions.{stackovf_e}
use Rattle.thr_syntax.specs.declared.dce.DceCall.{DceCall}
use Rattle.thr_remainder.specs.Calls.{expressions_of}
use Rattle.thr_remainder.specs.Remainders.{Setting, Remainder, has_room}
use Rattle.thr_remainder.specs.Expressions.{SharedValues}
use Rattle.thr_remainder.specs.Replies.{Values, values_of, needs_two_frames, asked}

lacking : (a b : Bool) (vs : Values) → (a && not b) ≡ true → (let raised : Values = Err stackovf_e in raised) ≡ (if a then (if b then vs else Err stackovf_e) else vs)
lacking true true vs e = absurd (false≢true e)
lacking true false vs e = refl
lacking false b vs e = absurd (false≢true e)

enough : (a b : Bool) (vs : Values) → (a && not b) ≡ false → vs ≡ (if a then (if b then vs else Err stackovf_e) else vs)
enough true true vs e = refl
enough true false vs e = absurd (false≢true (sym e))
enough false b vs e = refl

module _ (g : Setting) (shared : SharedValues) (call : DceCall) (r : Remainder) where
  pub lacks : (needs_two_frames call && not (has_room g r 2)) ≡ true → (let raised : Values = Err stackovf_e in raised) ≡ asked g shared call r
  unfolding asked
  lacks e = lacking (needs_two_frames call) (has_room g r 2) (values_of g shared r (expressions_of call)) e

  pub asks : (vs : Values) → (needs_two_frames call && not (has_room g r 2)) ≡ false → vs ≡ values_of g shared r (expressions_of call) → vs ≡ asked g shared call r
  unfolding asked
  asks vs e is = is ∙ enough (needs_two_frames call) (has_room g r 2) (values_of g shared r (expressions_of call)) e
