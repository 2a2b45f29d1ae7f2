-- A mutex that is handed over (docs/machine.md, "Mutexes").
use Rattle.std.specs.Prelude.{Option}
use Rattle.std.specs.Option.{option_map}
use Rattle.thr_values.specs.declared.number.Tid.{Tid}
use Rattle.thr_values.specs.declared.reply.Kind.{Kind}
use Rattle.thr_parts.specs.declared.mutex.Mutex.{Mutex}
use Rattle.thr_parts.specs.Locking.{owned_by}

-- The mutex of this kind, owned by the thread that is there, or free (docs/machine.md, "Mutexes").
abbrev pub handed : Kind → Option Tid → Mutex
handed kind next = record { kind = kind; held = option_map owned_by next }
