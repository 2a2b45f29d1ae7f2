-- Journals whose lines have their form (docs/journal.md, "Formed journals").
use Rattle.std.specs.Prelude.{◌≡◌, ◌≤◌, Bool, true, false, ◌&&◌, Option, Some, None}
use Rattle.std.specs.List.{list_all}
use Rattle.thr_values.specs.declared.number.NameId.{NameId}
use Rattle.thr_values.specs.declared.exception.Exc.{Exc}
use Rattle.thr_values.specs.declared.exception.Exc.TheVariants.{Address, Status}
use Rattle.thr_values.specs.declared.reply.Reply.{Reply}
use Rattle.thr_values.specs.declared.reply.Reply.TheVariants as reply
use Rattle.thr_values.specs.declared.history.Who.{Who}
use Rattle.thr_values.specs.declared.history.Who.TheVariants as who
use Rattle.thr_values.specs.declared.history.What.{What}
use Rattle.thr_values.specs.declared.history.What.TheVariants as what
use Rattle.thr_values.specs.declared.history.Entry.{Entry}
use Rattle.thr_values.specs.declared.event.Stop.{Stop}
use Rattle.thr_values.specs.declared.event.Stop.TheVariants as stops
use Rattle.thr_syntax.specs.declared.tree.Script.{Script}
use Rattle.thr_syntax.specs.declared.journal.Journal.{Journal}
use Rattle.thr_text.specs.declared.object.Object.TheVariants as object
use Rattle.thr_text.specs.Reading.{Formed}
use Rattle.thr_trees.specs.Kinds.{is_name_of}
use Rattle.thr_verdict.specs.Places.{fits_32, fits_64, fits_signed, have_their_form}

-- ---- who

-- A processor, with a number of its type.
abbrev pub is_processor : Who → Bool
is_processor (who.Proc p) = fits_32 p
is_processor _ = false

-- The clock.
abbrev pub is_clock : Who → Bool
is_clock who.Clock = true
is_clock _ = false

-- A thread, with a number of its type.
abbrev pub is_thread : Who → Bool
is_thread (who.Thread t) = fits_32 t.0
is_thread _ = false

-- Who fits what a line says: a dispatch is of a processor, a move of the clock of the clock, and each other line of a thread
-- (docs/journal.md, "Formed journals").
abbrev pub fits_what : What → Who → Bool
fits_what (what.Run t) w = is_processor w
fits_what (what.Clock n) w = is_clock w
fits_what _ w = is_thread w

-- ---- what

-- The number of a reply is of its type. Every call and every return may have every reply.
abbrev pub is_formed_reply : Reply → Bool
is_formed_reply (reply.Value n) = fits_signed n
is_formed_reply _ = true

-- An exception by the name of one, be it built in or declared by `exception` or by `status`, or by a number.
abbrev pub is_formed_exception : Script → Exc → Bool
is_formed_exception s (Address name) = is_name_of s object.Exception name
is_formed_exception s (Status n) = fits_signed n

-- A mutex, or the global lock.
abbrev pub is_formed_gift : Script → Option NameId → Bool
is_formed_gift s None = true
is_formed_gift s (Some m) = is_name_of s object.Mutex m

-- The numbers of a line are of their types, the arguments of a call have the form of their places, and each name is of the
-- kind that its place asks (docs/journal.md, "Formed journals").
unfoldable pub is_formed_what : Script → What → Bool
is_formed_what s (what.Run t) = fits_32 t.0
is_formed_what s (what.Clock n) = fits_signed n
is_formed_what s (what.Call c args r) = have_their_form s c args && is_formed_reply r
is_formed_what s (what.Ret r) = is_formed_reply r
is_formed_what s (what.Gift m) = is_formed_gift s m
is_formed_what s (what.Say v) = fits_signed v
is_formed_what s (what.Set l v) = fits_32 l.0 && fits_signed v
is_formed_what s (what.If l v) = fits_32 l.0 && fits_signed v
is_formed_what s (what.While l v) = fits_32 l.0 && fits_signed v
is_formed_what s (what.CallAt l v) = fits_32 l.0 && fits_signed v
is_formed_what s (what.Return l v) = fits_32 l.0 && fits_signed v
is_formed_what s (what.Raise n x) = fits_64 n && is_formed_exception s x
is_formed_what s (what.Reraise n x) = fits_64 n && is_formed_exception s x
is_formed_what s (what.Deliver n l) = fits_64 n && fits_32 l.0
is_formed_what s (what.Exit n v) = fits_64 n && fits_signed v
is_formed_what s (what.Try o l) = fits_64 o && fits_32 l.0
is_formed_what s (what.Endtry o) = fits_64 o
is_formed_what s (what.Catch o n l) = fits_64 o && (fits_64 n && fits_32 l.0)
is_formed_what s (what.Endcatch o) = fits_64 o
is_formed_what s (what.Finally o n) = fits_64 o && fits_64 n
is_formed_what s (what.Endfin o) = fits_64 o
is_formed_what s (what.Once o name) = fits_64 o && is_name_of s object.Once name
is_formed_what s (what.Done o) = fits_64 o
is_formed_what s (what.Undone o n) = fits_64 o && fits_64 n
is_formed_what s (what.Destroy o name v) = fits_64 o && (is_name_of s object.Key name && fits_signed v)
is_formed_what s (what.Enddes o) = fits_64 o
is_formed_what s (what.Lost o n) = fits_64 o && fits_64 n
is_formed_what s (what.Bottom n v) = fits_64 n && fits_signed v
is_formed_what s what.Pause = true
is_formed_what s (what.End v) = fits_signed v

-- ---- journals

-- A line of the history has its form (docs/journal.md, "Formed journals").
abbrev pub is_formed_line : Script → Entry → Bool
is_formed_line s e = fits_what e.what e.who && is_formed_what s e.what

-- The numbers of the stop are of their types.
abbrev pub is_formed_stop : Stop → Bool
is_formed_stop (stops.Deadlock n t) = fits_32 n && fits_32 t.0
is_formed_stop _ = true

-- A journal of 1 to 16 workers over a script that keeps the rules, each of whose lines has its form (docs/journal.md, "Formed
-- journals").
pub record FormedJournal (j : Journal) : Type 0 where
  pub some_worker : 1 ≤ j.workers
  pub few_workers : j.workers ≤ 16
  pub script : Formed j.script
  pub lines : list_all (is_formed_line j.script) j.entries ≡ true
  pub stop : is_formed_stop j.stop ≡ true
