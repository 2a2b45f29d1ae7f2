-- What shows a worked history.
use Rattle.std.proofs.Common.{◌≡◌, ℕ, ℤ, List, [], length}
use Prim.Native.String.{String}
use Rattle.thr_values.specs.declared.event.Event.{Event}
use Rattle.thr_values.specs.declared.event.Stop.{Stop}
use Rattle.thr_values.specs.declared.history.Entry.{Entry}
use Rattle.thr_syntax.specs.declared.tree.Script.{Script}
use Rattle.thr_syntax.specs.Canon.{canon}
use Rattle.thr_model.specs.Histories.{Execution, StopsWith, stop_at}
use Rattle.thr_model.specs.Play.{execution_by}
use Rattle.thr_model.proofs.Plays.{alone-legal, by-legal}
use Rattle.thr_laws.specs.Passing.{failing}
use Rattle.thr_laws.proofs.PassingLaws.{all_met}
use Rattle.thr_examples.specs.OneLine.{text_in_lines}
use Rattle.thr_examples.specs.Pasted.{script_of, history_text}
use Rattle.thr_histories.specs.Runs.{MeetsLaws, most_events, execution_alone, RunsAlone, RunsBy, said, SaysBy}

-- a history that no part of a law refuses meets the laws
pub meets-laws : (s : Script) (entries : List Entry) (stop : Stop) → failing s entries stop ≡ [] → MeetsLaws s entries stop
meets-laws s entries stop e =
    let laws = (all_met s entries stop).0 e in record { routed = laws.0; owners = laws.1; cancels = laws.2; calls = laws.3 }

pub runs-alone : (source history : String) (stop : Stop) → (let x : Execution = execution_alone (script_of source) in canon (script_of source) ≡ text_in_lines source → StopsWith (stop_at (script_of source) x.state (length x.entries)) stop
    → history_text (script_of source) x.entries stop ≡ text_in_lines history → failing (script_of source) x.entries stop ≡ [] → RunsAlone source history stop)
runs-alone source history stop script stops text laws = record {
  script = script;
  legal = alone-legal (script_of source) most_events stop stops;
  text = text;
  laws = meets-laws (script_of source) (execution_alone (script_of source)).entries stop laws;
}

pub runs-by : (source : String) (n : ℕ) (events : List Event) (history : String) (stop : Stop) → (let x : Execution = execution_by (script_of source) n events in canon (script_of source) ≡ text_in_lines source
    → StopsWith (stop_at (script_of source) x.state (length x.entries)) stop → history_text (script_of source) x.entries stop ≡ text_in_lines history → failing (script_of source) x.entries stop ≡ []
    → RunsBy source n events history stop)
runs-by source n events history stop script stops text laws = record {
  script = script;
  legal = by-legal (script_of source) n events stop stops;
  text = text;
  laws = meets-laws (script_of source) (execution_by (script_of source) n events).entries stop laws;
}

pub says-by : (source : String) (n : ℕ) (events : List Event) (says : List (ℕ × ℤ)) (stop : Stop) → (let x : Execution = execution_by (script_of source) n events in canon (script_of source) ≡ text_in_lines source
    → StopsWith (stop_at (script_of source) x.state (length x.entries)) stop → said x.entries ≡ says → failing (script_of source) x.entries stop ≡ [] → SaysBy source n events says stop)
says-by source n events says stop script stops said_then laws = record {
  script = script;
  legal = by-legal (script_of source) n events stop stops;
  said_then = said_then;
  laws = meets-laws (script_of source) (execution_by (script_of source) n events).entries stop laws;
}
