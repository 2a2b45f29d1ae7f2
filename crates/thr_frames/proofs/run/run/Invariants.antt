use Rattle.std.proofs.Common.{◌≡◌, ◌≤◌, ◌-◌, ◌*◌, length}
use Rattle.thr_remainder.specs.Runs.{after_lines, run_of, most_steps}
use Rattle.thr_stack.specs.Standing.{IsGood, setting_of, remainder_of}
use Rattle.thr_frames.specs.Stacks.{IsCounted, HasNoOnce}
use Rattle.thr_frames.proofs.run.run.Given as goal

abbrev pub invariant-loop-i : goal.invariant-loop-i
invariant-loop-i l =
    record {
      good : IsGood l.lines l.context;
      room : length l.notes ≤ 2 * l.i;
      counted : IsCounted (remainder_of l.lines l.fn.context) (remainder_of l.lines l.context) l.fn.notes l.notes;
      once : HasNoOnce (remainder_of l.lines l.fn.context) → HasNoOnce (remainder_of l.lines l.context);
      setting : setting_of l.lines l.context ≡ setting_of l.lines l.fn.context;
      run : after_lines l.notes (run_of (64 - l.i) (setting_of l.lines l.fn.context) l.mode (remainder_of l.lines l.context)) ≡ run_of most_steps (setting_of l.lines l.fn.context) l.mode (remainder_of l.lines l.fn.context);
    }
