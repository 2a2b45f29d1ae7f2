-- The arguments of call lines and their places (docs/journal.md, "Calls").
use Rattle.std.specs.Prelude.{ℕ, ◌==◌, nat_lt, Bool, true, false, ◌&&◌, ℤ, pos, negsuc, List, [], ◌∷◌, length}
use Rattle.std.specs.List.{filter, list_all}
use Rattle.thr_values.specs.declared.call.CallWord.{CallWord}
use Rattle.thr_values.specs.declared.call.Arg.{Arg}
use Rattle.thr_values.specs.declared.call.Arg.TheVariants as arg
use Rattle.thr_syntax.specs.declared.tree.Script.{Script}
use Rattle.thr_text.specs.declared.head.Slot.{Slot}
use Rattle.thr_text.specs.declared.head.Slot.TheVariants.{Fixed, Object, ObjectOr, Variable, Expression}
use Rattle.thr_text.specs.Slots.{call_slots, choice_words}
use Rattle.thr_trees.specs.Kinds.{is_name_of}

-- ---- numbers

-- A number of 32 bits.
abbrev pub fits_32 : ℕ → Bool
fits_32 n = nat_lt n 4294967296

-- A number of 64 bits.
abbrev pub fits_64 : ℕ → Bool
fits_64 n = nat_lt n 18446744073709551616

-- A number of 64 bits with a sign.
abbrev pub fits_signed : ℤ → Bool
fits_signed (pos n) = nat_lt n 9223372036854775808
fits_signed (negsuc n) = nat_lt n 9223372036854775808

-- ---- places

-- The place has an argument in a call's line: it isn't that of a variable, which takes the reply's value.
abbrev pub has_argument : Slot → Bool
has_argument Variable = false
has_argument _ = true

-- The places of a call's line: those of the call in a script, without its variables (docs/journal.md, "Calls").
abbrev pub places_of : CallWord → List Slot
places_of c = filter has_argument (call_slots c)

-- ---- arguments at their places

-- The argument has the form that its place asks: a name of the place's kind, the number of one of its fixed words, or the
-- value of an expression. In the stead of some names one fixed word may stand (docs/journal.md, "Formed journals").
abbrev pub suits : Script → Slot → Arg → Bool
suits s (Object kind) (arg.Name name) = is_name_of s kind name
suits s (ObjectOr kind) (arg.Name name) = is_name_of s kind name
suits s (ObjectOr kind) (arg.Word place) = place == 0
suits s (Fixed choice) (arg.Word place) = nat_lt place (length (choice_words choice))
suits s Expression (arg.Num n) = fits_signed n
suits s _ _ = false

-- No argument stands there.
abbrev pub is_absent : Arg → Bool
is_absent arg.Nothing = true
is_absent _ = false

-- Each place has an argument that suits it, and nothing stands behind the last place.
abbrev pub fill : Script → List Slot → List Arg → Bool
fill s [] args = list_all is_absent args
fill s (p ∷ places) [] = false
fill s (p ∷ places) (a ∷ args) = suits s p a && fill s places args

-- The four arguments of a call's line have the form of their places (docs/journal.md, "Formed journals").
abbrev pub have_their_form : Script → CallWord → List Arg → Bool
have_their_form s c args = (length args == 4) && fill s (places_of c) args
