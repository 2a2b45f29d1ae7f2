-- Ranks of threads.
use Rattle.std.specs.Prelude.{ℕ, ◌+◌}
use Rattle.thr_values.specs.declared.scheduling.Policy.{Policy}
use Rattle.thr_values.specs.declared.scheduling.Policy.TheVariants.{Fifo, Rr, Fg, Bg}

-- The rank of a thread by its policy and its priority (docs/machine.md, "Ranks and arrivals").
abbrev pub rank_of : Policy → ℕ → ℕ
rank_of Fifo prio = 200 + prio
rank_of Rr prio = 200 + prio
rank_of Fg prio = 100 + prio
rank_of Bg prio = prio
