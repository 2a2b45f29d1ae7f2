-- Unwindings that set out, and frames that are pushed (docs/machine.md, "Unwindings" and "Frames").
use Rattle.std.specs.Prelude.{ℕ, ◌+◌, ℤ, pos, List, [], ◌∷◌, slice_set, replicate, if◌then◌else◌, Option, Some, None, unwrap_or}
use Rattle.thr_values.specs.declared.number.NameId.{NameId}
use Rattle.thr_values.specs.declared.number.Line.{Line}
use Rattle.thr_values.specs.declared.exception.Exc.{Exc}
use Rattle.thr_values.specs.declared.history.What.{What}
use Rattle.thr_values.specs.declared.history.What.TheVariants as what
use Rattle.thr_values.specs.Exceptions.{cancel_e, stackovf_e}
use Rattle.thr_syntax.specs.declared.tree.Script.{Script}
use Rattle.thr_remainder.specs.declared.unwinding.Cause.{Cause}
use Rattle.thr_remainder.specs.declared.unwinding.Cause.TheVariants.{Raised, Exit}
use Rattle.thr_remainder.specs.Places.{Left, Ways, nothing}
use Rattle.thr_remainder.specs.Declarations.{Entry, entry_of}
use Rattle.thr_remainder.specs.Remainders.{Item, Role, Calling, Trying, Doing, Barrier, Setting, Remainder, Move, Spot, Place, Nowhere, AtEnd, At, place_in, passed, has_room}

-- The line of the script with this number.
abbrev pub at : ℕ → Line
at line = record { 0 = line }

-- Nothing changes.
abbrev pub still : Remainder → Move
still r = record { to = r; lines = [] }

-- ---- unwindings

-- The next unwinding is under way, and this is its line (docs/machine.md, "Unwindings").
abbrev pub sets_out : Cause → (ℕ → What) → Remainder → Move
sets_out cause line r = record {
  to = record r { under_way = Some (record { number = r.unwindings + 1; cause = cause }); unwindings = r.unwindings + 1 };
  lines = line (r.unwindings + 1) ∷ [];
}

-- An exception is raised (docs/machine.md, "Unwindings").
abbrev pub raised : Exc → Remainder → Move
raised x = sets_out (Raised x) (λ n. what.Raise n x)

-- What was caught is raised again.
abbrev pub raised_again : Exc → Remainder → Move
raised_again x = sets_out (Raised x) (λ n. what.Reraise n x)

-- The thread exits with this value.
abbrev pub exited : ℤ → Remainder → Move
exited v = sets_out (Exit v) (λ n. what.Exit n v)

-- The line of a place, if anything is next (docs/machine.md, "The next step").
abbrev pub line_in : Place → Option ℕ
line_in Nowhere = None
line_in (AtEnd close role outer) = Some close
line_in (At h) = Some h.line

-- The line of the next step: the statement's, or the line that closes the body which ends; nothing where no item is left
-- (docs/machine.md, "The next step").
abbrev pub line_of_next : Remainder → Option ℕ
line_of_next r = line_in (place_in r.items)

-- A cancel is delivered in place of the next step, where an item is left (docs/machine.md, "Cancels").
abbrev pub delivered : Remainder → Move
delivered r = sets_out (Raised cancel_e) (λ n. what.Deliver n (at (unwrap_or (line_of_next r) 0))) r

-- The frame doesn't fit (docs/machine.md, "Frames").
abbrev pub overflows : Remainder → Move
overflows = raised stackovf_e

-- The move, where a frame more fits, and else `stackovf_e` in its place (docs/machine.md, "Frames").
abbrev pub if_room : Setting → Remainder → Move → Move
if_room g r move = if has_room g r 1 then move else overflows r

-- ---- frames

-- The locals of a routine that has so many: the argument for its parameter, and 0.
abbrev pub first_locals : ℕ → ℤ → List ℤ
first_locals count n = slice_set (replicate count (pos 0)) 0 n

-- A routine is called with this argument, and its value goes to this local of the caller (docs/machine.md, "Routines").
abbrev pub calling : Entry → ℤ → Option ℕ → Item
calling entry n place = record { role = Calling (first_locals entry.locals n) place; inside = entry.body }

-- A thread that begins at this routine with this argument (docs/machine.md, "What is left to do").
abbrev pub fresh : Script → NameId → ℤ → Remainder
fresh s routine n = record { items = calling (entry_of s routine) n None ∷ []; under_way = None; value = pos 0; err = pos 0; scopes = 0; unwindings = 0 }

-- A try opens the next scope (docs/machine.md, "Handlers").
abbrev pub tries : Left → Ways → Spot → Remainder → Move
tries body ways h r = record {
  to = record r { items = record { role = Trying (r.scopes + 1) ways; inside = body } ∷ passed h; scopes = r.scopes + 1 };
  lines = what.Try (r.scopes + 1) (at h.line) ∷ [];
}

-- A scope is opened in which this routine runs with this argument. Nothing else is left in it, and the end of the routine
-- closes it.
abbrev pub begins : Entry → Role → ℤ → What → Remainder → Move
begins entry role n line r = record {
  to = record r { items = calling entry n None ∷ record { role = role; inside = nothing entry.body.close } ∷ r.items; scopes = r.scopes + 1 };
  lines = line ∷ [];
}

-- The routine of a once block begins, with argument 0 (docs/machine.md, "Once blocks").
abbrev pub begins_once : Setting → NameId → NameId → Remainder → Move
begins_once g block routine r =
    begins (entry_of g.script routine) (Doing (r.scopes + 1) block routine) (pos 0) (what.Once (r.scopes + 1) block) r

-- The destructor of a key begins, with the thread's value (docs/machine.md, "Keys").
abbrev pub begins_destructor : Setting → NameId → NameId → ℤ → Remainder → Move
begins_destructor g key routine n r =
    begins (entry_of g.script routine) (Barrier (r.scopes + 1) key routine) n (what.Destroy (r.scopes + 1) key n) r
