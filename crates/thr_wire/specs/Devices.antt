-- Devices in memory, and the schedules by which they fail.
use Rattle.std.specs.Prelude.{ℕ, List, Contains}
use Rattle.thr_wire.specs.Causes.{next_count}

-- The bytes that a sink holds, how often it has failed, and its room: how many bytes more it holds without taking memory
-- (docs/theorems.md, "Devices").
pub record SinkDevice : Type 0 where
  pub bytes : List ℕ
  pub faults : ℕ
  pub room : ℕ

-- The numbers of the calls that are to fail, from 0 on, how many bytes a call moves at most, and how many calls there were
-- (docs/theorems.md, "Devices").
pub record CallSchedule : Type 0 where
  pub failing : List ℕ
  pub most : ℕ
  pub calls : ℕ

-- A source with a schedule, by the bytes that it has left (docs/theorems.md, "Devices").
pub record MemSourceDevice : Type 0 where
  pub bytes : List ℕ
  pub faults : ℕ
  pub schedule : CallSchedule

-- A sink with a schedule, by the bytes that it holds and its room (docs/theorems.md, "Devices").
pub record MemSinkDevice : Type 0 where
  pub bytes : List ℕ
  pub faults : ℕ
  pub room : ℕ
  pub schedule : CallSchedule

-- The next call is listed as one that is to fail (docs/theorems.md, "Devices").
abbrev pub IsToFail : CallSchedule → Type 0
IsToFail s = Contains s.failing s.calls

-- The schedule after one more call (docs/theorems.md, "Devices").
abbrev pub after_call : CallSchedule → CallSchedule
after_call s = record { failing = s.failing; most = s.most; calls = next_count s.calls }
