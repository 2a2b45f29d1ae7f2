-- What is left to do in a thread, and its lines, with numbers that are bounded.
use Rattle.std.proofs.Common.{◌≡◌, ℕ, zero, suc, ◌≤◌, ℤ, pos, Bool, true, false, List, [], ◌∷◌, ◌++◌, Option, Some, None, refl, arith}
use Rattle.std.specs.Prelude.{if◌then◌else◌, length, replicate, slice_set}
use Rattle.thr_values.specs.declared.call.Arg.{Arg}
use Rattle.thr_values.specs.declared.call.CallWord.{CallWord}
use Rattle.thr_values.specs.declared.call.CallWord.TheVariants as word
use Rattle.thr_values.specs.declared.exception.Exc.{Exc}
use Rattle.thr_values.specs.declared.history.What.{What}
use Rattle.thr_values.specs.declared.history.What.TheVariants as what
use Rattle.thr_values.specs.declared.reply.Reply.{Reply}
use Rattle.thr_values.specs.declared.reply.Reply.TheVariants as reply
use Rattle.thr_syntax.specs.declared.dce.DceCall.{DceCall}
use Rattle.thr_text.specs.Journals.{reply_word}
use Rattle.thr_remainder.specs.declared.unwinding.Cause.{Cause}
use Rattle.thr_remainder.specs.declared.unwinding.Cause.TheVariants.{Raised, Exit}
use Rattle.thr_remainder.specs.declared.unwinding.Unwinding.{Unwinding}
use Rattle.thr_remainder.specs.Calls.{shape_of, arguments}
use Rattle.thr_remainder.specs.Remainders.{Role, Calling, Trying, Catching, Finishing, Doing, Barrier, Item, Remainder, Move, locals_or, locals_in, caught_or, caught_in, role_with, is_call, with_local}
use Rattle.thr_parts.proofs.EachLaws.{IfThere}
use Rattle.thr_sizes.proofs.Values.{Fits, AllFit, ExcFits}

-- ---- what is left

abbrev pub CauseFits : Cause → Type 0
CauseFits (Raised x) = ExcFits x
CauseFits (Exit v) = Fits v

-- The unwinding's number is at most this, and the number of its cause fits.
abbrev pub UnwindingFits : ℕ → Unwinding → Type 0
UnwindingFits k u = (u.number ≤ k) × CauseFits u.cause

-- The numbers of scopes and unwindings are at most this, and values fit.
abbrev pub RoleFits : ℕ → Role → Type 0
RoleFits k (Calling locals place) = AllFit locals
RoleFits k (Trying scope ways) = scope ≤ k
RoleFits k (Catching scope caught) = (scope ≤ k) × ExcFits caught
RoleFits k (Finishing scope pending) = (scope ≤ k) × IfThere (UnwindingFits k) pending
RoleFits k (Doing scope block routine) = scope ≤ k
RoleFits k (Barrier scope key routine) = scope ≤ k

abbrev pub ItemsFit : ℕ → List Item → Type 0
ItemsFit k [] = Unit {0}
ItemsFit k (i ∷ items) = RoleFits k i.role × ItemsFit k items

-- The same of all that is left in a thread.
pub record LeftFits (k : ℕ) (r : Remainder) : Type 0 where
  pub items : ItemsFit k r.items
  pub under : IfThere (UnwindingFits k) r.under_way
  pub value : Fits r.value
  pub err : Fits r.err
  pub scopes : r.scopes ≤ k
  pub unwindings : r.unwindings ≤ k

-- ---- lines

-- The number of a reply fits.
abbrev pub ReplyFits : Reply → Type 0
ReplyFits (reply.Value n) = Fits n
ReplyFits _ = Unit {0}

-- How many bytes a reply of this call has at most: a call that makes a thread replies the number of one, and some the number of a
-- policy; a timed wait has no reply of seven bytes.
abbrev pub reply_bytes : CallWord → ℕ
reply_bytes word.Create = 9
reply_bytes word.Setscheduler = 9
reply_bytes word.Join = 20
reply_bytes word.Setcancel = 20
reply_bytes word.Setasynccancel = 20
reply_bytes word.Setprio = 20
reply_bytes word.Getprio = 20
reply_bytes word.Getscheduler = 20
reply_bytes word.GetExpirationNp = 20
reply_bytes word.MutexTrylock = 20
reply_bytes word.Getspecific = 20
reply_bytes word.Read = 20
reply_bytes word.CondTimedwait = 6
reply_bytes _ = 7

-- The line of a call is that of one with values that fit, and its reply fits and is as short as those of the call are.
pub record CallFits (c : CallWord) (args : List Arg) (y : Reply) : Type 0 where
  pub call : DceCall
  pub values : List ℤ
  pub is_word : (shape_of call).word ≡ c
  pub are_arguments : arguments call values ≡ args
  pub fit : AllFit values
  pub says : ReplyFits y
  pub short : length (reply_word y) ≤ reply_bytes c

-- The numbers of scopes, unwindings and lines are at most this, values fit, and so do the arguments and the reply of a call.
abbrev pub LineFits : ℕ → What → Type 0
LineFits k (what.Run t) = t.0 ≤ k
LineFits k (what.Clock n) = Fits n
LineFits k (what.Call c args y) = CallFits c args y
LineFits k (what.Ret y) = ReplyFits y
LineFits k (what.Gift m) = Unit {0}
LineFits k (what.Say v) = Fits v
LineFits k (what.Set l v) = (l.0 ≤ k) × Fits v
LineFits k (what.If l v) = (l.0 ≤ k) × Fits v
LineFits k (what.While l v) = (l.0 ≤ k) × Fits v
LineFits k (what.CallAt l v) = (l.0 ≤ k) × Fits v
LineFits k (what.Return l v) = (l.0 ≤ k) × Fits v
LineFits k (what.Raise n x) = (n ≤ k) × ExcFits x
LineFits k (what.Reraise n x) = (n ≤ k) × ExcFits x
LineFits k (what.Deliver n l) = (n ≤ k) × (l.0 ≤ k)
LineFits k (what.Exit n v) = (n ≤ k) × Fits v
LineFits k (what.Try o l) = (o ≤ k) × (l.0 ≤ k)
LineFits k (what.Endtry o) = o ≤ k
LineFits k (what.Catch o n l) = (o ≤ k) × ((n ≤ k) × (l.0 ≤ k))
LineFits k (what.Endcatch o) = o ≤ k
LineFits k (what.Finally o n) = (o ≤ k) × (n ≤ k)
LineFits k (what.Endfin o) = o ≤ k
LineFits k (what.Once o name) = o ≤ k
LineFits k (what.Done o) = o ≤ k
LineFits k (what.Undone o n) = (o ≤ k) × (n ≤ k)
LineFits k (what.Destroy o name v) = (o ≤ k) × Fits v
LineFits k (what.Enddes o) = o ≤ k
LineFits k (what.Lost o n) = (o ≤ k) × (n ≤ k)
LineFits k (what.Bottom n v) = (n ≤ k) × Fits v
LineFits k what.Pause = Unit {0}
LineFits k (what.End v) = Fits v

abbrev pub LinesFit : ℕ → List What → Type 0
LinesFit k [] = Unit {0}
LinesFit k (w ∷ ws) = LineFits k w × LinesFit k ws

-- What is left after a move, and its lines.
pub record MoveFits (k : ℕ) (m : Move) : Type 0 where
  pub to : LeftFits k m.to
  pub lines : LinesFit k m.lines

-- ---- greater bounds

far : (n j k : ℕ) → j ≤ k → n ≤ j → n ≤ k
far n j k le h = omega (arith, le, h)

module _ (j k : ℕ) (le : j ≤ k) where
  there_later : (o : Option Unwinding) → IfThere (UnwindingFits j) o → IfThere (UnwindingFits k) o
  there_later None h = tt
  there_later (Some u) h = (far u.number j k le h.0, h.1)

  role_later : (role : Role) → RoleFits j role → RoleFits k role
  role_later (Calling locals place) h = h
  role_later (Trying scope ways) h = far scope j k le h
  role_later (Catching scope caught) h = (far scope j k le h.0, h.1)
  role_later (Finishing scope pending) h = (far scope j k le h.0, there_later pending h.1)
  role_later (Doing scope block routine) h = far scope j k le h
  role_later (Barrier scope key routine) h = far scope j k le h

  pub items_later : (items : List Item) → ItemsFit j items → ItemsFit k items
  items_later [] h = tt
  items_later (i ∷ items) h = (role_later i.role h.0, items_later items h.1)

  pub left_later : (r : Remainder) → LeftFits j r → LeftFits k r
  left_later r h = record {
    items = items_later r.items h.items;
    under = there_later r.under_way h.under;
    value = h.value;
    err = h.err;
    scopes = far r.scopes j k le h.scopes;
    unwindings = far r.unwindings j k le h.unwindings;
  }

  pub line_later : (w : What) → LineFits j w → LineFits k w
  line_later (what.Run t) h = far t.0 j k le h
  line_later (what.Clock n) h = h
  line_later (what.Call c args y) h = h
  line_later (what.Ret y) h = h
  line_later (what.Gift m) h = h
  line_later (what.Say v) h = h
  line_later (what.Set l v) h = (far l.0 j k le h.0, h.1)
  line_later (what.If l v) h = (far l.0 j k le h.0, h.1)
  line_later (what.While l v) h = (far l.0 j k le h.0, h.1)
  line_later (what.CallAt l v) h = (far l.0 j k le h.0, h.1)
  line_later (what.Return l v) h = (far l.0 j k le h.0, h.1)
  line_later (what.Raise n x) h = (far n j k le h.0, h.1)
  line_later (what.Reraise n x) h = (far n j k le h.0, h.1)
  line_later (what.Deliver n l) h = (far n j k le h.0, far l.0 j k le h.1)
  line_later (what.Exit n v) h = (far n j k le h.0, h.1)
  line_later (what.Try o l) h = (far o j k le h.0, far l.0 j k le h.1)
  line_later (what.Endtry o) h = far o j k le h
  line_later (what.Catch o n l) h = (far o j k le h.0, (far n j k le h.1.0, far l.0 j k le h.1.1))
  line_later (what.Endcatch o) h = far o j k le h
  line_later (what.Finally o n) h = (far o j k le h.0, far n j k le h.1)
  line_later (what.Endfin o) h = far o j k le h
  line_later (what.Once o name) h = far o j k le h
  line_later (what.Done o) h = far o j k le h
  line_later (what.Undone o n) h = (far o j k le h.0, far n j k le h.1)
  line_later (what.Destroy o name v) h = (far o j k le h.0, h.1)
  line_later (what.Enddes o) h = far o j k le h
  line_later (what.Lost o n) h = (far o j k le h.0, far n j k le h.1)
  line_later (what.Bottom n v) h = (far n j k le h.0, h.1)
  line_later what.Pause h = h
  line_later (what.End v) h = h

  pub lines_later : (ws : List What) → LinesFit j ws → LinesFit k ws
  lines_later [] h = tt
  lines_later (w ∷ ws) h = (line_later w h.0, lines_later ws h.1)

  pub move_later : (m : Move) → MoveFits j m → MoveFits k m
  move_later m h = record { to = left_later m.to h.to; lines = lines_later m.lines h.lines }

pub lines_append : (k : ℕ) (ws vs : List What) → LinesFit k ws → LinesFit k vs → LinesFit k (ws ++ vs)
lines_append k [] vs h i = i
lines_append k (w ∷ ws) vs h i = (h.0, lines_append k ws vs h.1 i)

-- ---- items

pub set_fits : (ns : List ℤ) (p : ℕ) (n : ℤ) → AllFit ns → Fits n → AllFit (slice_set ns p n)
set_fits [] p n h i = tt
set_fits (m ∷ ns) zero n h i = (i, h.1)
set_fits (m ∷ ns) (suc p) n h i = (h.0, set_fits ns p n h.1 i)

zeros_fit : (n : ℕ) → AllFit (replicate n (pos 0))
zeros_fit zero = tt
zeros_fit (suc n) = (refl, zeros_fit n)

pub first_fit : (count : ℕ) (n : ℤ) → Fits n → AllFit (slice_set (replicate count (pos 0)) 0 n)
first_fit count n h = set_fits (replicate count (pos 0)) 0 n (zeros_fit count) h

module _ (k : ℕ) where
  role_set : (p : ℕ) (n : ℤ) (role : Role) → Fits n → RoleFits k role → RoleFits k (role_with p n role)
  role_set p n (Calling locals place) h i = set_fits locals p n i h
  role_set p n (Trying scope ways) h i = i
  role_set p n (Catching scope caught) h i = i
  role_set p n (Finishing scope pending) h i = i
  role_set p n (Doing scope block routine) h i = i
  role_set p n (Barrier scope key routine) h i = i

  either_items : (b : Bool) (xs ys : List Item) → ItemsFit k xs → ItemsFit k ys → ItemsFit k (if b then xs else ys)
  either_items true xs ys h i = h
  either_items false xs ys h i = i

  pub local_set : (p : ℕ) (n : ℤ) (items : List Item) → Fits n → ItemsFit k items → ItemsFit k (with_local p n items)
  local_set p n [] h i = tt
  local_set p n (x ∷ items) h i = (role_set p n x.role h i.0, either_items (is_call x.role) items (with_local p n items) i.1 (local_set p n items h i.1))

  role_locals : (role : Role) (outer : List ℤ) → RoleFits k role → AllFit outer → AllFit (locals_or role outer)
  role_locals (Calling locals place) outer r h = r
  role_locals _ outer r h = h

  pub locals_fit : (items : List Item) → ItemsFit k items → AllFit (locals_in items)
  locals_fit [] h = tt
  locals_fit (i ∷ items) h = role_locals i.role (locals_in items) h.0 (locals_fit items h.1)

  role_caught : (role : Role) (outer : Exc) → RoleFits k role → ExcFits outer → ExcFits (caught_or role outer)
  role_caught (Calling locals place) outer r h = tt
  role_caught (Catching scope caught) outer r h = r.1
  role_caught _ outer r h = h

  pub caught_fits : (items : List Item) → ItemsFit k items → ExcFits (caught_in items)
  caught_fits [] h = tt
  caught_fits (i ∷ items) h = role_caught i.role (caught_in items) h.0 (caught_fits items h.1)
