-- What is left in a thread stands at its lines of the script (docs/machine.md, "What is left to do").
use Rattle.std.specs.Prelude.{◌≡◌, List, [], ◌∷◌}
use Rattle.thr_syntax.specs.declared.form.Form.{Form}
use Rattle.thr_syntax.specs.declared.tree.Script.{Script}
use Rattle.thr_syntax.specs.Lines.{lines_of}
use Rattle.thr_remainder.specs.Places.{Left}
use Rattle.thr_remainder.specs.Remainders.{Role, Calling, Trying, Catching, Finishing, Doing, Barrier, Item, Remainder}
use Rattle.thr_remainder.specs.Standing.{IsLeft, AreWays}

-- What is left of a body stands at its lines; a routine that isn't there leaves nothing, and line 0 is said to close it
-- (docs/machine.md, "What is left to do").
pub data IsLeftIn (text : List Form) (left : Left) : Type 0 where
  stands : IsLeft text left → IsLeftIn text left
  absent : left.todo ≡ [] → left.close ≡ 0 → IsLeftIn text left

-- The ways in which a try ends stand at their lines.
abbrev pub IsRole : List Form → Role → Type 0
IsRole text (Trying scope ways) = AreWays text ways
IsRole text (Calling locals place) = Unit {0}
IsRole text (Catching scope caught) = Unit {0}
IsRole text (Finishing scope pending) = Unit {0}
IsRole text (Doing scope block routine) = Unit {0}
IsRole text (Barrier scope key routine) = Unit {0}

-- What is left of each item stands at its lines.
abbrev pub AreItems : List Form → List Item → Type 0
AreItems text [] = Unit {0}
AreItems text (i ∷ items) = IsRole text i.role × IsLeftIn text i.inside × AreItems text items

-- All that is left in a thread stands at its lines of the script (docs/machine.md, "What is left to do").
pub record StandsIn (s : Script) (r : Remainder) : Type 0 where
  pub items : AreItems (lines_of s) r.items
