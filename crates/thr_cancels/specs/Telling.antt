-- What the lines of a history tell of a thread's cancels, and what the state keeps of them (docs/laws.md, "Cancels").
use Rattle.std.specs.Prelude.{◌≡◌, is_some}
use Rattle.thr_parts.specs.declared.thread.Thread.{Thread}
use Rattle.thr_laws.specs.Known.{Known}

-- What is known of a thread is what its record says: whether a cancel is outstanding, both cancelabilities, and whether it has
-- ended (docs/laws.md, "Cancels").
pub record IsRecorded (k : Known) (th : Thread) : Type 0 where
  pub outstanding : k.outstanding ≡ th.mode.pending
  pub general : k.general ≡ th.mode.general
  pub asynchronous : k.asynchronous ≡ th.mode.asynchronous
  pub ended : k.ended ≡ is_some th.ended
