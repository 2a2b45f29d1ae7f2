-- What is left to do in a thread, and its lines, where each exception is one of the script and each name is of the kind that its place asks.
use Rattle.std.proofs.Common.{◌≡◌, true, ℤ, List, [], ◌∷◌, ◌++◌, Option, Some, None}
use Rattle.thr_values.specs.declared.number.NameId.{NameId}
use Rattle.thr_values.specs.declared.call.Arg.{Arg}
use Rattle.thr_values.specs.declared.call.CallWord.{CallWord}
use Rattle.thr_values.specs.declared.exception.Exc.{Exc}
use Rattle.thr_values.specs.declared.exception.Exc.TheVariants.{Address, Status}
use Rattle.thr_values.specs.declared.history.Entry.{Entry}
use Rattle.thr_values.specs.declared.history.What.{What}
use Rattle.thr_values.specs.declared.history.What.TheVariants as what
use Rattle.thr_values.specs.declared.history.Who.{Who}
use Rattle.thr_values.specs.declared.history.Who.TheVariants as who
use Rattle.thr_syntax.specs.declared.dce.DceCall.{DceCall}
use Rattle.thr_syntax.specs.declared.tree.Script.{Script}
use Rattle.thr_text.specs.declared.object.Object.TheVariants as object
use Rattle.thr_trees.specs.Kinds.{is_name_of}
use Rattle.thr_trees.specs.Names.{named_in_call, AreOfKinds}
use Rattle.thr_remainder.specs.declared.unwinding.Cause.{Cause}
use Rattle.thr_remainder.specs.declared.unwinding.Cause.TheVariants.{Raised, Exit}
use Rattle.thr_remainder.specs.declared.unwinding.Unwinding.{Unwinding}
use Rattle.thr_remainder.specs.Calls.{shape_of, arguments}
use Rattle.thr_remainder.specs.Remainders.{Role, Calling, Trying, Catching, Finishing, Doing, Barrier, Item, Remainder, Move}
use Rattle.thr_parts.proofs.EachLaws.{IfThere}
use Rattle.thr_answers.proofs.CallLines.{AreValues}

-- ---- what is left

-- An exception by its name, built in or declared, or by a number.
abbrev pub ExcNamed : Script → Exc → Type 0
ExcNamed s (Address name) = is_name_of s object.Exception name ≡ true
ExcNamed s (Status n) = Unit {0}

abbrev pub CauseNamed : Script → Cause → Type 0
CauseNamed s (Raised x) = ExcNamed s x
CauseNamed s (Exit v) = Unit {0}

abbrev pub UnwindingNamed : Script → Unwinding → Type 0
UnwindingNamed s u = CauseNamed s u.cause

abbrev pub RoleNamed : Script → Role → Type 0
RoleNamed s (Calling locals place) = Unit {0}
RoleNamed s (Trying scope ways) = Unit {0}
RoleNamed s (Catching scope caught) = ExcNamed s caught
RoleNamed s (Finishing scope pending) = IfThere (UnwindingNamed s) pending
RoleNamed s (Doing scope block routine) = Unit {0}
RoleNamed s (Barrier scope key routine) = Unit {0}

abbrev pub ItemsNamed : Script → List Item → Type 0
ItemsNamed s [] = Unit {0}
ItemsNamed s (i ∷ items) = RoleNamed s i.role × ItemsNamed s items

-- The exceptions in all that is left in a thread are such.
pub record LeftNamed (s : Script) (r : Remainder) : Type 0 where
  pub items : ItemsNamed s r.items
  pub under : IfThere (UnwindingNamed s) r.under_way

-- ---- lines

-- The line of a call is that of one whose names are of the kinds that their places ask, with a value for each expression.
pub record CallNamed (s : Script) (c : CallWord) (args : List Arg) : Type 0 where
  pub call : DceCall
  pub values : List ℤ
  pub is_word : (shape_of call).word ≡ c
  pub are_arguments : arguments call values ≡ args
  pub are_values : AreValues call values
  pub names : AreOfKinds s (named_in_call call)

-- A mutex, or the global lock.
abbrev pub GiftNamed : Script → Option NameId → Type 0
GiftNamed s None = Unit {0}
GiftNamed s (Some m) = is_name_of s object.Mutex m ≡ true

-- The line is one of a thread, and its names are of their kinds.
abbrev pub LineNamed : Script → What → Type 0
LineNamed s (what.Run t) = ⊥
LineNamed s (what.Clock n) = ⊥
LineNamed s (what.Call c args y) = CallNamed s c args
LineNamed s (what.Gift m) = GiftNamed s m
LineNamed s (what.Raise n x) = ExcNamed s x
LineNamed s (what.Reraise n x) = ExcNamed s x
LineNamed s (what.Once o name) = is_name_of s object.Once name ≡ true
LineNamed s (what.Destroy o name v) = is_name_of s object.Key name ≡ true
LineNamed s _ = Unit {0}

abbrev pub LinesNamed : Script → List What → Type 0
LinesNamed s [] = Unit {0}
LinesNamed s (w ∷ ws) = LineNamed s w × LinesNamed s ws

pub lines_append : (s : Script) (ws vs : List What) → LinesNamed s ws → LinesNamed s vs → LinesNamed s (ws ++ vs)
lines_append s [] vs h i = i
lines_append s (w ∷ ws) vs h i = (h.0, lines_append s ws vs h.1 i)

-- What is left after a move, and its lines.
pub record MoveNamed (s : Script) (m : Move) : Type 0 where
  pub to : LeftNamed s m.to
  pub lines : LinesNamed s m.lines

-- ---- lines of histories

abbrev pub IsRun : What → Type 0
IsRun (what.Run t) = Unit {0}
IsRun _ = ⊥

abbrev pub IsMove : What → Type 0
IsMove (what.Clock n) = Unit {0}
IsMove _ = ⊥

-- A dispatch is of a processor, a move of the clock of the clock, and each other line of a thread.
abbrev pub WhoNamed : Script → Who → What → Type 0
WhoNamed s (who.Proc p) w = IsRun w
WhoNamed s (who.Thread t) w = LineNamed s w
WhoNamed s who.Clock w = IsMove w

abbrev pub EntriesNamed : Script → List Entry → Type 0
EntriesNamed s [] = Unit {0}
EntriesNamed s (e ∷ es) = WhoNamed s e.who e.what × EntriesNamed s es

pub entries_append : (s : Script) (es fs : List Entry) → EntriesNamed s es → EntriesNamed s fs → EntriesNamed s (es ++ fs)
entries_append s [] fs h i = i
entries_append s (e ∷ es) fs h i = (h.0, entries_append s es fs h.1 i)
