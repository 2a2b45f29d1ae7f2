-- Error replies: their numbers, and the exceptions that stand for them.
use Rattle.std.specs.Prelude.{ℤ, pos, Option, None, Some}
use Rattle.thr_values.specs.declared.exception.Exc.{Exc}
use Rattle.thr_values.specs.declared.reply.Reply.{Reply}
use Rattle.thr_values.specs.declared.reply.Reply.TheVariants.{Done, Value, Eof, Effect, Blocks, Einval, Eperm, Edeadlk, Ebusy, Esrch, Eagain, Epipe}
use Rattle.thr_values.specs.Exceptions.{badparam_e, use_error_e, existence_e, in_use_e, exhaust_e, pipe_e}

-- The number of an error reply, and 0 of what is no error (docs/machine.md, "Errors").
abbrev pub errno_of : Reply → ℤ
errno_of Eperm = pos 1
errno_of Esrch = pos 3
errno_of Eagain = pos 11
errno_of Ebusy = pos 16
errno_of Einval = pos 22
errno_of Epipe = pos 32
errno_of Edeadlk = pos 35
errno_of Done = pos 0
errno_of (Value n) = pos 0
errno_of Eof = pos 0
errno_of (Effect e) = pos 0
errno_of Blocks = pos 0

-- The exception that an error reply raises where the interface is `exc` (docs/machine.md, "Errors").
abbrev pub error_exc_of : Reply → Option Exc
error_exc_of Eperm = Some use_error_e
error_exc_of Esrch = Some existence_e
error_exc_of Eagain = Some exhaust_e
error_exc_of Ebusy = Some in_use_e
error_exc_of Einval = Some badparam_e
error_exc_of Epipe = Some pipe_e
error_exc_of Edeadlk = Some use_error_e
error_exc_of Done = None
error_exc_of (Value n) = None
error_exc_of Eof = None
error_exc_of (Effect e) = None
error_exc_of Blocks = None
