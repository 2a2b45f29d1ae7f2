-- Worked scripts with their histories.
use Rattle.std.specs.Prelude.{◌≡◌, ℕ, ℤ, List, [], ◌∷◌}
use Prim.Native.String.{String}
use Rattle.thr_values.specs.declared.event.Event.{Event}
use Rattle.thr_values.specs.declared.event.Stop.{Stop}
use Rattle.thr_values.specs.declared.history.Who.{Who}
use Rattle.thr_values.specs.declared.history.Who.TheVariants as who
use Rattle.thr_values.specs.declared.history.What.{What}
use Rattle.thr_values.specs.declared.history.What.TheVariants as what
use Rattle.thr_values.specs.declared.history.Entry.{Entry}
use Rattle.thr_syntax.specs.declared.tree.Script.{Script}
use Rattle.thr_syntax.specs.Canon.{canon}
use Rattle.thr_model.specs.Histories.{Execution, at_opening, Legal}
use Rattle.thr_model.specs.Play.{execution_by, alone}
use Rattle.thr_laws.specs.Routed.{Routed}
use Rattle.thr_laws.specs.Owners.{OneOwner}
use Rattle.thr_laws.specs.CancelLaw.{CancelLaw}
use Rattle.thr_laws.specs.CallsOnce.{CallsOnce}
use Rattle.thr_examples.specs.OneLine.{text_in_lines}
use Rattle.thr_examples.specs.Pasted.{script_of, history_text}

-- The history meets the four laws.
pub record MeetsLaws (s : Script) (entries : List Entry) (stop : Stop) : Type 0 where
  pub routed : Routed s entries
  pub owners : OneOwner entries
  pub cancels : CancelLaw s entries
  pub calls : CallsOnce s entries stop

-- Where this is the execution on so many processors, its lines are this history, they are legal and stop so, and they meet the laws.
-- Script and history are written in one line; the script is canonical.
pub record Runs (source : String) (workers : ℕ) (x : Execution) (history : String) (stop : Stop) : Type 0 where
  pub script : canon (script_of source) ≡ text_in_lines source
  pub legal : Legal (script_of source) workers x.entries stop
  pub text : history_text (script_of source) x.entries stop ≡ text_in_lines history
  pub laws : MeetsLaws (script_of source) x.entries stop

-- How many events a worked history has at most.
abbrev pub most_events : ℕ
most_events = 400

-- What one processor makes of a script.
abbrev pub execution_alone : Script → Execution
execution_alone s = alone most_events s (at_opening s)

-- On one processor the script has this history, and stops so.
abbrev pub RunsAlone : String → String → Stop → Type 0
RunsAlone source history stop = Runs source 1 (execution_alone (script_of source)) history stop

-- By these events of so many processors the script has this history, and stops so.
abbrev pub RunsBy : String → ℕ → List Event → String → Stop → Type 0
RunsBy source workers events history stop = Runs source workers (execution_by (script_of source) workers events) history stop

-- ---- what threads say

abbrev pub said_by : Who → What → List (ℕ × ℤ) → List (ℕ × ℤ)
said_by (who.Thread t) (what.Say n) said = (t.0, n) ∷ said
said_by _ _ said = said

-- What threads say, each with its number, in their order.
abbrev pub said : List Entry → List (ℕ × ℤ)
said [] = []
said (e ∷ entries) = said_by e.who e.what (said entries)

-- By these events of so many processors the script has a history in which threads say this. It is legal and stops so, and it meets
-- the laws. This is for histories that are too long to be written out.
pub record SaysBy (source : String) (workers : ℕ) (events : List Event) (says : List (ℕ × ℤ)) (stop : Stop) : Type 0 where
  pub script : canon (script_of source) ≡ text_in_lines source
  pub legal : Legal (script_of source) workers (execution_by (script_of source) workers events).entries stop
  pub said_then : said (execution_by (script_of source) workers events).entries ≡ says
  pub laws : MeetsLaws (script_of source) (execution_by (script_of source) workers events).entries stop
