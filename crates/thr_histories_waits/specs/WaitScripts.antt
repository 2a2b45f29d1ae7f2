-- Worked scripts of waits, conditions and asynchronous cancels, with ` ; ` for the end of a line.
use Rattle.std.specs.Prelude.{List, [], ◌∷◌}
use Prim.Native.String.{String}
use Rattle.thr_values.specs.declared.event.Event.{Event}
use Rattle.thr_values.specs.declared.event.Event.TheVariants.{Dispatch, Turn}

-- A delay, a join, a read and a write that are cancelled while they wait.
abbrev pub cancels_at_points : String
cancels_at_points = "dcethr 1 ; pipe p 2 ; pipe q 1 ; routine sleeps a ; pthread_delay_np 5 ; end ; routine joins a ; local v ; pthread_join 1 v ; end ; routine reads a ; local v ; local g ; read p v g ; end ; routine writes a ; write q a ; end ; routine main a ; local t ; write q 8 ; pthread_create t default sleeps 0 ; pthread_create t default joins 0 ; pthread_create t default reads 0 ; pthread_create t default writes 9 ; pthread_yield ; pthread_cancel 5 ; pthread_cancel 3 ; pthread_cancel 4 ; pthread_cancel 2 ; pthread_cancel 3 ; write p 1 ; read p t a ; read q t a ; write q 3 ; read q t a ; pthread_cancel 3 ; end"

-- A wait and a timed wait on one condition that are cancelled.
abbrev pub cancels_at_conditions : String
cancels_at_conditions = "dcethr 1 ; mutex m ; cond c ; routine waits a ; pthread_mutex_lock m ; try ; pthread_cond_wait c m ; finally ; pthread_mutex_unlock m ; endtry ; end ; routine timed a ; pthread_mutex_lock m ; try ; pthread_cond_timedwait c m 9 ; catch cancel_e ; pthread_mutex_unlock m ; endtry ; end ; routine main a ; pthread_mutex_init m default ; pthread_cond_init c ; pthread_create a default waits 0 ; pthread_create a default timed 0 ; pthread_yield ; pthread_cancel 2 ; pthread_cancel 3 ; pthread_cancel 3 ; pthread_delay_np 20 ; pthread_cond_signal c ; end"

-- A cancelled wait whose mutex another thread already waits for.
abbrev pub cancelled_waiter_behind_locker : String
cancelled_waiter_behind_locker = "dcethr 1 ; mutex m ; cond c ; routine waits a ; pthread_mutex_lock m ; pthread_cond_wait c m ; end ; routine locks a ; pthread_mutex_lock m ; pthread_mutex_unlock m ; end ; routine main a ; pthread_mutex_init m default ; pthread_cond_init c ; pthread_create a default waits 0 ; pthread_yield ; pthread_mutex_lock m ; pthread_create a default locks 0 ; pthread_yield ; pthread_cancel 2 ; pthread_mutex_unlock m ; end"

-- Waits for a mutex, the global lock and a once block that are cancelled.
abbrev pub cancels_at_locks : String
cancels_at_locks = "dcethr 1 ; mutex m ; once o ; routine init a ; pthread_yield ; end ; routine locks a ; pthread_mutex_lock m ; pthread_testcancel ; end ; routine globals a ; pthread_lock_global_np ; pthread_unlock_global_np ; pthread_testcancel ; end ; routine onces a ; pthread_once o init ; pthread_testcancel ; end ; routine main a ; pthread_mutex_init m default ; pthread_mutex_lock m ; pthread_lock_global_np ; pthread_create a default onces 0 ; pthread_create a default onces 0 ; pthread_create a default locks 0 ; pthread_create a default globals 0 ; pthread_yield ; pthread_cancel 3 ; pthread_cancel 4 ; pthread_cancel 5 ; pthread_mutex_unlock m ; pthread_unlock_global_np ; end"

-- A delay, a join and a timed wait that are cancelled with general cancelability off.
abbrev pub waits_with_cancelability_off : String
waits_with_cancelability_off = "dcethr 1 ; mutex m ; cond c ; routine sleeps a ; local x ; pthread_setcancel CANCEL_OFF x ; pthread_delay_np a ; pthread_setcancel CANCEL_ON x ; pthread_delay_np 0 ; end ; routine joins a ; local x ; pthread_setcancel CANCEL_OFF x ; pthread_join a x ; pthread_setcancel CANCEL_ON a ; say x ; pthread_join a x ; end ; routine timed a ; local x ; pthread_mutex_lock m ; pthread_setcancel CANCEL_OFF x ; pthread_cond_timedwait c m a ; pthread_setcancel CANCEL_ON x ; pthread_cond_wait c m ; end ; routine main a ; pthread_mutex_init m default ; pthread_cond_init c ; pthread_create a default sleeps 3 ; pthread_create a default joins 2 ; pthread_create a default timed 6 ; pthread_yield ; pthread_cancel 4 ; pthread_cancel 3 ; pthread_cancel 2 ; end"

-- A read and a write that are cancelled with general cancelability off.
abbrev pub pipes_with_cancelability_off : String
pipes_with_cancelability_off = "dcethr 1 ; pipe p 1 ; pipe q 1 ; routine reads a ; local x ; pthread_setcancel CANCEL_OFF x ; read p a x ; pthread_setcancel CANCEL_ON x ; read p a x ; end ; routine writes a ; local x ; pthread_setcancel CANCEL_OFF x ; write q a ; pthread_setcancel CANCEL_ON x ; write q / a 0 ; end ; routine main a ; local v ; write q 1 ; pthread_create a default reads 0 ; pthread_create a default writes 2 ; pthread_yield ; pthread_cancel 2 ; pthread_cancel 3 ; write p 5 ; write p 6 ; read q v a ; pthread_yield ; read p v a ; read q v a ; end"

-- A wait on a condition, for a mutex in a once routine and for its block, cancelled with general cancelability off.
abbrev pub locks_with_cancelability_off : String
locks_with_cancelability_off = "dcethr 1 ; mutex m ; cond c ; once o ; routine init a ; pthread_mutex_lock m ; pthread_mutex_unlock m ; end ; routine waits a ; pthread_setcancel CANCEL_OFF a ; pthread_mutex_lock m ; pthread_cond_wait c m ; pthread_setcancel CANCEL_ON a ; pthread_mutex_unlock m ; pthread_testcancel ; end ; routine onces a ; pthread_setcancel CANCEL_OFF a ; pthread_once o init ; pthread_testcancel ; pthread_setcancel CANCEL_ON a ; pthread_testcancel ; end ; routine main a ; pthread_mutex_init m default ; pthread_cond_init c ; pthread_create a default waits 0 ; pthread_yield ; pthread_mutex_lock m ; pthread_create a default onces 0 ; pthread_create a default onces 0 ; pthread_yield ; pthread_cancel 2 ; pthread_cancel 3 ; pthread_cancel 4 ; pthread_cond_signal c ; pthread_mutex_unlock m ; end"

-- A reader, a writer and a sleeper that are cancelled once their reply is there.
abbrev pub replies_kept_under_cancels : String
replies_kept_under_cancels = "dcethr 1 ; pipe p 1 ; pipe q 1 ; routine sleeps a ; pthread_delay_np 3 ; say a ; pthread_testcancel ; end ; routine reads a ; local v ; read p a v ; say a ; pthread_testcancel ; end ; routine writes a ; write q a ; say a ; end ; routine main a ; local v ; write q 1 ; pthread_create a default reads 0 ; pthread_create a default writes 6 ; pthread_create a default sleeps 7 ; pthread_delay_np 3 ; write p 5 ; pthread_cancel 2 ; read q v a ; pthread_cancel 3 ; pthread_cancel 4 ; pthread_cancel 4 ; read q v a ; end"

-- A once routine that is cancelled while nobody waits for its block, and that another thread runs again.
abbrev pub once_run_again : String
once_run_again = "dcethr 1 ; once o ; routine init a ; pthread_delay_np 4 ; end ; routine w a ; try ; pthread_once o init ; catch cancel_e ; pthread_yield ; pthread_once o init ; endtry ; end ; routine main a ; pthread_create a default w 0 ; pthread_yield ; pthread_cancel 2 ; pthread_cancel 2 ; pthread_yield ; pthread_once o init ; pthread_once o init ; end"

-- Two waiters of which the first is cancelled and then one is signalled.
abbrev pub signal_after_cancel : String
signal_after_cancel = "dcethr 1 ; mutex m ; cond c ; routine waits a ; pthread_mutex_lock m ; try ; pthread_cond_wait c m ; say a ; finally ; pthread_mutex_unlock m ; endtry ; end ; routine main a ; pthread_mutex_init m default ; pthread_cond_init c ; pthread_create a default waits 8 ; pthread_create a default waits 9 ; pthread_yield ; pthread_cancel 2 ; pthread_cond_signal c ; end"

-- Two waiters of which the one of greater rank is signalled and then both are cancelled.
abbrev pub signal_before_cancel : String
signal_before_cancel = "dcethr 1 ; mutex m ; cond c ; routine waits a ; pthread_mutex_lock m ; try ; pthread_cond_wait c m ; say a ; finally ; pthread_mutex_unlock m ; endtry ; end ; routine main a ; pthread_mutex_init m default ; pthread_cond_init c ; pthread_create a default waits 8 ; pthread_create a default waits 9 ; pthread_yield ; pthread_mutex_lock m ; pthread_setprio 3 20 a ; pthread_cond_signal c ; pthread_cancel 3 ; pthread_cancel 2 ; pthread_mutex_unlock m ; end"

-- Timed waits whose time is past.
abbrev pub time_is_past : String
time_is_past = "dcethr 1 ; mutex m ; cond c ; routine main a ; pthread_mutex_init m default ; pthread_cond_init c ; pthread_mutex_lock m ; pthread_delay_np 4 ; pthread_cond_timedwait c m 4 ; say err ; pthread_mutex_trylock m a ; pthread_mutex_unlock m ; pthread_cond_timedwait c m 3 ; end"

-- Two delays and a timed wait that times out while a sleeper holds its mutex.
abbrev pub three_times : String
three_times = "dcethr 1 ; mutex m ; cond c ; routine sleeps a ; pthread_delay_np a ; say a ; end ; routine holds a ; pthread_delay_np 3 ; pthread_mutex_lock m ; pthread_delay_np a ; pthread_mutex_unlock m ; end ; routine timed a ; pthread_mutex_lock m ; pthread_cond_timedwait c m a ; say err ; pthread_mutex_unlock m ; end ; routine main a ; pthread_mutex_init m default ; pthread_cond_init c ; pthread_create a default sleeps 7 ; pthread_create a default holds 5 ; pthread_create a default timed 5 ; end"

-- Two timed waits of which the first is signalled before its time.
abbrev pub signalled_before_its_time : String
signalled_before_its_time = "dcethr 1 ; mutex m ; cond c ; routine timed a ; pthread_mutex_lock m ; pthread_cond_timedwait c m a ; say err ; pthread_mutex_unlock m ; end ; routine main a ; pthread_mutex_init m default ; pthread_cond_init c ; pthread_create a default timed 6 ; pthread_create a default timed 4 ; pthread_delay_np 2 ; pthread_cond_signal c ; pthread_delay_np 6 ; pthread_cond_signal c ; end"

-- Two timed waits of different ranks and a delay that end at one time.
abbrev pub ranks_at_one_time : String
ranks_at_one_time = "dcethr 1 ; mutex m ; cond c ; routine timed a ; pthread_mutex_lock m ; pthread_cond_timedwait c m 5 ; pthread_mutex_unlock m ; end ; routine main a ; pthread_mutex_init m default ; pthread_cond_init c ; pthread_create a default timed 0 ; pthread_create a default timed 0 ; pthread_yield ; pthread_setprio 3 20 a ; pthread_delay_np 5 ; end"

-- Three waiters and a broadcast by the owner of their mutex, with a rank that is lowered again.
abbrev pub broadcast_with_held_mutex : String
broadcast_with_held_mutex = "dcethr 1 ; mutex m ; cond c ; routine waits a ; pthread_mutex_lock m ; pthread_cond_wait c m ; say a ; pthread_mutex_unlock m ; end ; routine main a ; pthread_mutex_init m default ; pthread_cond_init c ; pthread_create a default waits 1 ; pthread_create a default waits 2 ; pthread_create a default waits 3 ; pthread_yield ; pthread_setprio 3 20 a ; pthread_mutex_lock m ; pthread_cond_broadcast c ; pthread_setprio 3 16 a ; pthread_mutex_unlock m ; end"

-- Three waiters of three ranks and a broadcast while their mutex is free.
abbrev pub broadcast_with_free_mutex : String
broadcast_with_free_mutex = "dcethr 1 ; mutex m ; cond c ; routine waits a ; pthread_mutex_lock m ; pthread_cond_wait c m ; say a ; pthread_mutex_unlock m ; end ; routine main a ; pthread_mutex_init m default ; pthread_cond_init c ; pthread_create a default waits 1 ; pthread_create a default waits 2 ; pthread_create a default waits 3 ; pthread_yield ; pthread_setprio 3 20 a ; pthread_setprio 4 18 a ; pthread_cond_broadcast c ; say 4 ; end"

-- A mutex that is handed over in the last turn of a slice.
abbrev pub woken_before_its_waker : String
woken_before_its_waker = "dcethr 1 ; mutex m ; routine locks a ; pthread_mutex_lock m ; end ; routine main a ; pthread_mutex_init m default ; pthread_mutex_lock m ; pthread_create a default locks 0 ; pthread_yield ; say 1 ; say 2 ; say 3 ; say 4 ; say 5 ; say 6 ; say 7 ; pthread_mutex_unlock m ; say 8 ; end"

-- Waits and destroys that are refused, in the interface `status`.
abbrev pub refused_waits : String
refused_waits = "dcethr 1 ; interface status ; mutex m ; mutex n ; mutexattr k ; cond c ; routine waits a ; pthread_mutex_lock m ; pthread_cond_wait c m ; pthread_mutex_unlock m ; end ; routine main a ; pthread_mutexattr_create k ; pthread_mutexattr_setkind_np k MUTEX_RECURSIVE_NP ; pthread_mutex_init m default ; pthread_mutex_init n k ; pthread_cond_init c ; pthread_create a default waits 0 ; pthread_yield ; pthread_mutex_destroy m ; pthread_cond_wait c n ; pthread_mutex_lock n ; pthread_cond_wait c n ; pthread_cond_signal c ; pthread_mutex_lock n ; pthread_cond_timedwait c n 0 ; pthread_mutex_destroy m ; say err ; pthread_mutex_destroy m ; pthread_cond_wait c m ; pthread_mutex_unlock n ; pthread_cond_timedwait c n 0 ; say err ; end"

-- Quiet and shared steps with both cancelabilities on.
abbrev pub pauses : String
pauses = "dcethr 1 ; exception e ; routine f a ; return a ; end ; routine main a ; pthread_setasynccancel CANCEL_ON a ; try ; call f 3 a ; say a ; try ; raise e ; finally ; set a 4 ; endtry ; catch e ; try ; say / a 0 ; catch intdiv_e ; pthread_setcancel CANCEL_OFF a ; set a 6 ; endtry ; endtry ; end"

-- Ends of bodies and an exit with both cancelabilities on.
abbrev pub pauses_at_ends : String
pauses_at_ends = "dcethr 1 ; routine main a ; pthread_setasynccancel CANCEL_ON a ; try ; catch_all ; endtry ; try ; finally ; endtry ; if a ; else ; set a 2 ; end ; pthread_exit a ; end"

-- A thread that is cancelled at the end of each of its bodies, with both cancelabilities on.
abbrev pub deliveries_at_ends : String
deliveries_at_ends = "dcethr 1 ; routine w a ; local x ; pthread_setasynccancel CANCEL_ON x ; try ; try ; try ; pthread_yield ; catch cancel_e ; pthread_yield ; endtry ; finally ; pthread_yield ; endtry ; catch_all ; endtry ; pthread_yield ; end ; routine main a ; local t ; pthread_create t default w 0 ; while < a 4 ; pthread_yield ; pthread_cancel t ; set a + a 1 ; end ; end"

-- A thread that is cancelled at the end of a loop and at the end of a catch body before another clause.
abbrev pub deliveries_at_loops : String
deliveries_at_loops = "dcethr 1 ; routine w a ; pthread_setasynccancel CANCEL_ON a ; try ; while 1 ; if 1 ; pthread_yield ; else ; say 1 ; end ; end ; catch cancel_e ; pthread_yield ; catch_all ; say 2 ; endtry ; end ; routine main a ; pthread_create a default w 0 ; pthread_yield ; pthread_cancel 2 ; pthread_yield ; pthread_cancel 2 ; end"

-- A thread that is cancelled between the last step of a once routine and its end.
abbrev pub delivery_before_done : String
delivery_before_done = "dcethr 1 ; once o ; routine init a ; set a 1 ; set a 2 ; set a 3 ; set a 4 ; set a 5 ; end ; routine w a ; pthread_setasynccancel CANCEL_ON a ; pthread_once o init ; end ; routine main a ; pthread_create a default w 0 ; pthread_yield ; pthread_cancel 2 ; pthread_yield ; pthread_once o init ; end"

-- A thread that cancels itself at the end of a try body and of a destructor.
abbrev pub deliveries_to_oneself : String
deliveries_to_oneself = "dcethr 1 ; key k ; routine gone a ; pthread_cancel self ; end ; routine main a ; pthread_keycreate k gone ; pthread_setspecific k 3 ; pthread_setasynccancel CANCEL_ON a ; try ; pthread_cancel self ; finally ; say a ; endtry ; end"

-- A thread that is cancelled with both cancelabilities on while it waits for a mutex.
abbrev pub delivery_after_lock : String
delivery_after_lock = "dcethr 1 ; mutex m ; routine locks a ; pthread_setasynccancel CANCEL_ON a ; pthread_mutex_lock m ; say 5 ; end ; routine main a ; pthread_mutex_init m default ; pthread_mutex_lock m ; pthread_create a default locks 0 ; pthread_yield ; pthread_cancel 2 ; pthread_mutex_unlock m ; end"

-- A thread without an end that is cancelled while it runs.
abbrev pub cancel_of_running_thread : String
cancel_of_running_thread = "dcethr 1 ; routine spins a ; pthread_setasynccancel CANCEL_ON a ; while 1 ; end ; end ; routine main a ; pthread_create a default spins 0 ; pthread_cancel a ; pthread_cancel a ; end"

-- Its events on two processors.
abbrev pub cancel_of_running_thread_events : List Event
cancel_of_running_thread_events = Dispatch 0 ∷ Turn 0 ∷ Dispatch 1 ∷ Turn 1 ∷ Turn 1 ∷ Turn 0 ∷ Turn 0 ∷ Turn 1 ∷ Turn 1 ∷ Turn 0 ∷ []

-- Turns of 63, 64 and 65 quiet steps before a shared one.
abbrev pub sixty_four_quiet_steps : String
sixty_four_quiet_steps = "dcethr 1 ; routine main a ; while < a 30 ; set a + a 1 ; end ; set a 0 ; try ; say 63 ; catch_all ; endtry ; while < a 30 ; set a + a 1 ; end ; set a 0 ; try ; say 64 ; catch_all ; endtry ; while < a 30 ; set a + a 1 ; end ; set a 0 ; set a 0 ; try ; say 65 ; catch_all ; endtry ; end"

-- An unwinding through many calls in a turn of 63 and of 64 quiet steps.
abbrev pub outward_steps_not_counted : String
outward_steps_not_counted = "dcethr 1 ; exception e ; routine deep a ; if == a 0 ; raise e ; end ; call deep - a 1 ; end ; routine main a ; try ; call deep 20 ; catch e ; while < a 9 ; set a + a 1 ; end ; say 63 ; endtry ; try ; call deep 20 ; catch e ; while < a 18 ; set a + a 1 ; end ; say 64 ; endtry ; end"

-- Two sleepers of different ranks that are cancelled.
abbrev pub wakes_by_rank : String
wakes_by_rank = "dcethr 1 ; routine sleeps a ; pthread_delay_np 9 ; end ; routine main a ; pthread_create a default sleeps 0 ; pthread_create a default sleeps 0 ; pthread_yield ; pthread_setprio 3 20 a ; pthread_cancel 2 ; pthread_cancel 3 ; say 1 ; end"

-- A wait that is cancelled by an owner that ends without an unlock.
abbrev pub cancelled_wait_without_mutex : String
cancelled_wait_without_mutex = "dcethr 1 ; mutex m ; cond c ; routine waits a ; pthread_mutex_lock m ; pthread_cond_wait c m ; end ; routine main a ; pthread_mutex_init m default ; pthread_cond_init c ; pthread_create a default waits 0 ; pthread_yield ; pthread_mutex_lock m ; pthread_cancel a ; pthread_cancel a ; end"

-- A once block that is undone and handed on, cancelled before it runs, and handed on again.
abbrev pub once_handed_on_twice : String
once_handed_on_twice = "dcethr 1 ; once o ; routine init a ; pthread_delay_np 10 ; end ; routine first a ; try ; pthread_once o init ; catch cancel_e ; pthread_cancel 3 ; pthread_cancel 3 ; endtry ; end ; routine second a ; pthread_setasynccancel CANCEL_ON a ; pthread_once o init ; end ; routine main a ; pthread_create a default first 0 ; pthread_create a default second 0 ; pthread_yield ; pthread_cancel 2 ; pthread_once o init ; end"

-- A wait and a timed wait that give up a mutex for which another thread waits.
abbrev pub wait_hands_over : String
wait_hands_over = "dcethr 1 ; mutex m ; cond c ; routine waits a ; pthread_mutex_lock m ; pthread_yield ; pthread_cond_wait c m ; pthread_mutex_unlock m ; end ; routine signals a ; pthread_mutex_lock m ; pthread_cond_signal c ; pthread_cond_timedwait c m a ; pthread_mutex_unlock m ; end ; routine main a ; pthread_mutex_init m default ; pthread_cond_init c ; pthread_create a default waits 0 ; pthread_create a default signals 7 ; end"

-- A timed wait that is signalled in time and gets its mutex after its time.
abbrev pub signalled_and_late : String
signalled_and_late = "dcethr 1 ; mutex m ; cond c ; routine timed a ; pthread_mutex_lock m ; pthread_cond_timedwait c m 5 ; say err ; pthread_mutex_unlock m ; end ; routine main a ; pthread_mutex_init m default ; pthread_cond_init c ; pthread_create a default timed 0 ; pthread_yield ; pthread_mutex_lock m ; pthread_cond_signal c ; pthread_get_expiration_np 9 a ; pthread_delay_np a ; pthread_mutex_unlock m ; end"

-- A timed wait that timed out, is then signalled and cancelled, and gets its mutex at last.
abbrev pub timed_out_then_signalled : String
timed_out_then_signalled = "dcethr 1 ; mutex m ; cond c ; routine timed a ; pthread_mutex_lock m ; try ; pthread_cond_timedwait c m 5 ; pthread_cond_wait c m ; catch cancel_e ; say err ; pthread_mutex_unlock m ; endtry ; end ; routine main a ; pthread_mutex_init m default ; pthread_cond_init c ; pthread_create a default timed 0 ; pthread_yield ; pthread_mutex_lock m ; pthread_delay_np 6 ; pthread_cond_signal c ; pthread_cancel 2 ; pthread_mutex_unlock m ; end"

-- A condition that is destroyed once its waiter is cancelled, and a mutex whose owner has ended.
abbrev pub destroyed_condition : String
destroyed_condition = "dcethr 1 ; interface status ; mutex m ; cond c ; routine waits a ; pthread_mutex_lock m ; pthread_cond_wait c m ; end ; routine main a ; pthread_mutex_init m default ; pthread_cond_init c ; pthread_create a default waits 0 ; pthread_yield ; pthread_mutex_lock m ; pthread_cond_destroy c ; pthread_cancel 2 ; pthread_cond_destroy c ; pthread_cond_broadcast c ; pthread_cond_init c ; pthread_mutex_unlock m ; pthread_mutex_destroy m ; pthread_mutex_unlock m ; pthread_mutex_destroy m ; end"

-- Delays and expirations that are negative or come to a time out of range.
abbrev pub times_out_of_range : String
times_out_of_range = "dcethr 1 ; interface status ; routine main a ; pthread_delay_np -1 ; pthread_delay_np 1 ; pthread_delay_np 9223372036854775807 ; say err ; pthread_get_expiration_np 9223372036854775806 a ; say a ; pthread_get_expiration_np -1 a ; pthread_get_expiration_np 9223372036854775807 a ; say a ; end"

-- A writer whose pipe is closed and which is cancelled, with both cancelabilities on.
abbrev pub delivery_after_catch : String
delivery_after_catch = "dcethr 1 ; pipe p 1 ; routine writes a ; pthread_setasynccancel CANCEL_ON a ; try ; try ; write p 2 ; catch pipe_e ; say 1 ; endtry ; finally ; say 2 ; endtry ; end ; routine main a ; write p 1 ; pthread_create a default writes 0 ; pthread_yield ; close p ; pthread_cancel 2 ; end"

-- A thread that is cancelled after its last frame, with both cancelabilities on and a destructor to call.
abbrev pub end_step_before_delivery : String
end_step_before_delivery = "dcethr 1 ; key k ; routine frees a ; say a ; end ; routine w a ; pthread_setspecific k 3 ; pthread_setasynccancel CANCEL_ON a ; set a 1 ; set a 2 ; set a 3 ; set a 4 ; set a 5 ; return 5 ; end ; routine main a ; pthread_keycreate k frees ; pthread_create a default w 0 ; pthread_yield ; pthread_cancel 2 ; pthread_join 2 a ; end"

-- A thread that is cancelled between its last frame and its end step, with both cancelabilities on.
abbrev pub cancel_before_end_step : String
cancel_before_end_step = "dcethr 1 ; routine w a ; pthread_setasynccancel CANCEL_ON a ; set a 1 ; set a 2 ; set a 3 ; set a 4 ; set a 5 ; set a 6 ; return 5 ; end ; routine main a ; pthread_create a default w 0 ; pthread_yield ; pthread_cancel 2 ; pthread_join 2 a ; pthread_cancel 2 ; end"

-- A cancel that is pending when asynchronous cancelability goes on, and one at the end of a called routine.
abbrev pub delivery_before_try : String
delivery_before_try = "dcethr 1 ; routine f a ; pthread_cancel self ; end ; routine main a ; try ; pthread_cancel self ; say 1 ; pthread_setasynccancel CANCEL_ON a ; try ; say 2 ; catch_all ; say 3 ; endtry ; catch cancel_e ; call f 0 ; endtry ; end"

-- A running thread that is cancelled with asynchronous cancelability off.
abbrev pub cancel_waits_for_point : String
cancel_waits_for_point = "dcethr 1 ; routine counts a ; while < a 40 ; set a + a 1 ; end ; pthread_testcancel ; end ; routine main a ; pthread_create a default counts 0 ; pthread_cancel a ; pthread_join a a ; say a ; end"

-- Its events on two processors.
abbrev pub cancel_waits_for_point_events : List Event
cancel_waits_for_point_events = Dispatch 0 ∷ Turn 0 ∷ Dispatch 1 ∷ Turn 1 ∷ Turn 0 ∷ Turn 0 ∷ Turn 1 ∷ Turn 1 ∷ Dispatch 1 ∷ Turn 1 ∷ Turn 1 ∷ Turn 1 ∷ []

-- A once block that is done while two threads of different ranks wait, whose ranks are made equal then.
abbrev pub once_wakes_best_first : String
once_wakes_best_first = "dcethr 1 ; once o ; routine init a ; pthread_yield ; pthread_setprio 2 10 a ; pthread_setprio 3 12 a ; end ; routine onces a ; pthread_once o init ; say a ; end ; routine main a ; pthread_create a default onces 2 ; pthread_create a default onces 3 ; pthread_once o init ; pthread_setprio 2 16 a ; pthread_setprio 3 16 a ; end"

-- A pipe that is closed while two readers of different ranks wait, whose ranks are made equal then.
abbrev pub close_wakes_best_first : String
close_wakes_best_first = "dcethr 1 ; pipe p 1 ; routine reads a ; local v ; local g ; read p v g ; say a ; end ; routine main a ; pthread_create a default reads 2 ; pthread_create a default reads 3 ; pthread_yield ; pthread_setprio 2 10 a ; pthread_setprio 3 12 a ; close p ; pthread_setprio 2 16 a ; pthread_setprio 3 16 a ; end"

-- Three delays of three ranks that end at one time, two of which are made equal then.
abbrev pub clock_wakes_best_first : String
clock_wakes_best_first = "dcethr 1 ; routine sleeps a ; pthread_delay_np 5 ; say a ; end ; routine main a ; pthread_create a default sleeps 2 ; pthread_create a default sleeps 3 ; pthread_yield ; pthread_setprio 2 10 a ; pthread_setprio 3 12 a ; pthread_delay_np 5 ; pthread_setprio 2 16 a ; pthread_setprio 3 16 a ; end"

-- Two timed waits of different ranks that time out while a sleeper holds their mutex.
abbrev pub times_with_held_mutex : String
times_with_held_mutex = "dcethr 1 ; mutex m ; cond c ; routine timed a ; pthread_mutex_lock m ; pthread_cond_timedwait c m 5 ; say a ; pthread_mutex_unlock m ; end ; routine main a ; pthread_mutex_init m default ; pthread_cond_init c ; pthread_create a default timed 2 ; pthread_create a default timed 3 ; pthread_yield ; pthread_setprio 3 20 a ; pthread_mutex_lock m ; pthread_delay_np 6 ; pthread_setprio 3 16 a ; pthread_mutex_unlock m ; end"

-- A writer in a try with `finally` whose pipe is closed and which is cancelled, with both cancelabilities on.
abbrev pub delivery_replaces_error : String
delivery_replaces_error = "dcethr 1 ; pipe p 1 ; routine writes a ; pthread_setasynccancel CANCEL_ON a ; try ; write p 2 ; finally ; say 1 ; endtry ; end ; routine main a ; write p 1 ; pthread_create a default writes 0 ; pthread_yield ; close p ; pthread_cancel 2 ; pthread_join 2 a ; end"

-- A thread that is created by one with other cancelabilities than at its start.
abbrev pub starting_cancelabilities : String
starting_cancelabilities = "dcethr 1 ; routine w a ; pthread_setcancel CANCEL_OFF a ; pthread_setasynccancel CANCEL_ON a ; pthread_setasynccancel CANCEL_OFF a ; pthread_setcancel CANCEL_OFF a ; end ; routine main a ; pthread_setasynccancel CANCEL_ON a ; pthread_setcancel CANCEL_OFF a ; pthread_create a default w 0 ; pthread_join a a ; end"

-- A once routine that cancels its own thread.
abbrev pub once_end_is_no_point : String
once_end_is_no_point = "dcethr 1 ; once o ; routine init a ; pthread_cancel self ; end ; routine main a ; pthread_once o init ; pthread_yield ; pthread_join 1 a ; end"

-- Two timed waits that are ended by a broadcast, and get their mutex after their times.
abbrev pub broadcast_ends_times : String
broadcast_ends_times = "dcethr 1 ; mutex m ; cond c ; routine timed a ; pthread_mutex_lock m ; pthread_cond_timedwait c m a ; say err ; pthread_mutex_unlock m ; end ; routine main a ; pthread_mutex_init m default ; pthread_cond_init c ; pthread_create a default timed 5 ; pthread_create a default timed 3 ; pthread_yield ; pthread_mutex_lock m ; pthread_cond_broadcast c ; pthread_delay_np 9 ; pthread_mutex_unlock m ; end"

-- A thread that is cancelled while an exception goes on behind a FINALLY body.
abbrev pub unwinding_before_delivery : String
unwinding_before_delivery = "dcethr 1 ; exception e ; routine w a ; pthread_setasynccancel CANCEL_ON a ; try ; try ; raise e ; finally ; endtry ; catch e ; endtry ; end ; routine main a ; pthread_create a default w 0 ; pthread_cancel a ; end"

-- Its events on two processors.
abbrev pub unwinding_before_delivery_events : List Event
unwinding_before_delivery_events = Dispatch 0 ∷ Turn 0 ∷ Dispatch 1 ∷ Turn 1 ∷ Turn 1 ∷ Turn 1 ∷ Turn 1 ∷ Turn 1 ∷ Turn 0 ∷ Turn 1 ∷ Turn 1 ∷ Turn 0 ∷ []

-- Two threads with a destructor, of which the second is cancelled when its destructor has returned.
abbrev pub delivery_at_destructor_end : String
delivery_at_destructor_end = "dcethr 1 ; key k ; routine frees a ; say a ; return a ; end ; routine w a ; pthread_setspecific k 3 ; pthread_setasynccancel CANCEL_ON a ; end ; routine main a ; pthread_keycreate k frees ; pthread_create a default w 0 ; pthread_create a default w 0 ; pthread_join 2 a ; pthread_cancel 3 ; end"

-- Its events on two processors.
abbrev pub delivery_at_destructor_end_events : List Event
delivery_at_destructor_end_events = Dispatch 0 ∷ Turn 0 ∷ Turn 0 ∷ Turn 0 ∷ Dispatch 1 ∷ Turn 1 ∷ Turn 1 ∷ Turn 1 ∷ Turn 1 ∷ Turn 1 ∷ Turn 1 ∷ Turn 1 ∷ Turn 1 ∷ Turn 0 ∷ Dispatch 1 ∷ Turn 1 ∷ Turn 1 ∷ Turn 1 ∷ Turn 1 ∷ Turn 1 ∷ Turn 1 ∷ Turn 0 ∷ Turn 1 ∷ Turn 1 ∷ Turn 0 ∷ []

-- A joiner that is cancelled after its target has ended.
abbrev pub join_kept_under_cancel : String
join_kept_under_cancel = "dcethr 1 ; routine ends a ; return 7 ; end ; routine joins a ; pthread_join 3 a ; say a ; pthread_join 3 a ; end ; routine main a ; pthread_create a default joins 0 ; pthread_create a default ends 0 ; pthread_yield ; pthread_cancel 2 ; end"

-- Three timed waits with two mutexes that end at one time.
abbrev pub gifts_at_one_time : String
gifts_at_one_time = "dcethr 1 ; mutex m ; mutex n ; cond c ; cond d ; routine first a ; pthread_mutex_lock m ; pthread_cond_timedwait c m 5 ; pthread_mutex_unlock m ; end ; routine second a ; pthread_mutex_lock n ; pthread_cond_timedwait d n 5 ; end ; routine main a ; pthread_mutex_init m default ; pthread_mutex_init n default ; pthread_cond_init c ; pthread_cond_init d ; pthread_create a default first 0 ; pthread_create a default second 0 ; pthread_create a default first 0 ; pthread_yield ; pthread_setprio 3 20 a ; end"

-- Shared statements with both cancelabilities on.
abbrev pub shared_steps_without_pause : String
shared_steps_without_pause = "dcethr 1 ; shared x 0 ; routine f a ; return a ; end ; routine main a ; pthread_setasynccancel CANCEL_ON a ; while < x 1 ; set x + x 1 ; end ; if x ; call f x a ; end ; set a x ; return x ; end"

-- Threads that end, or raise, in the 63rd or 64th quiet step of a turn.
abbrev pub ends_as_quiet_steps : String
ends_as_quiet_steps = "dcethr 1 ; exception e ; routine three a ; while < a 30 ; set a + a 1 ; end ; set a 0 ; end ; routine four a ; while < a 30 ; set a + a 1 ; end ; set a 0 ; set a 0 ; end ; routine raises a ; while < a 30 ; set a + a 1 ; end ; set a 0 ; set a 0 ; raise e ; end ; routine main a ; pthread_create a default three 0 ; pthread_create a default four 0 ; pthread_create a default raises 0 ; end"

-- A wait for the global lock that is cancelled twice with general cancelability off.
abbrev pub global_lock_with_cancelability_off : String
global_lock_with_cancelability_off = "dcethr 1 ; routine locks a ; pthread_setcancel CANCEL_OFF a ; pthread_lock_global_np ; pthread_testcancel ; pthread_setcancel CANCEL_ON a ; pthread_unlock_global_np ; pthread_testcancel ; end ; routine main a ; pthread_lock_global_np ; pthread_lock_global_np ; pthread_create a default locks 0 ; pthread_yield ; pthread_cancel 2 ; pthread_cancel 2 ; pthread_unlock_global_np ; pthread_unlock_global_np ; end"

-- Two waiters of a mutex, of which the one of lesser rank comes first.
abbrev pub mutex_by_rank : String
mutex_by_rank = "dcethr 1 ; mutex m ; attr f ; routine w x ; pthread_mutex_lock m ; pthread_mutex_unlock m ; say self ; end ; routine main x ; local t ; pthread_mutex_init m default ; pthread_mutex_lock m ; pthread_create t default w 0 ; pthread_yield ; pthread_attr_create f ; pthread_attr_setinheritsched f PTHREAD_DEFAULT_SCHED ; pthread_attr_setprio f 20 ; pthread_create t f w 0 ; pthread_mutex_unlock m ; end"

-- The same with the global lock.
abbrev pub global_lock_by_rank : String
global_lock_by_rank = "dcethr 1 ; attr f ; routine w x ; pthread_lock_global_np ; pthread_unlock_global_np ; say self ; end ; routine main x ; local t ; pthread_lock_global_np ; pthread_create t default w 0 ; pthread_yield ; pthread_attr_create f ; pthread_attr_setinheritsched f PTHREAD_DEFAULT_SCHED ; pthread_attr_setprio f 20 ; pthread_create t f w 0 ; pthread_unlock_global_np ; end"

-- Two waiters of a condition, of which the one of lesser rank comes first.
abbrev pub condition_by_rank : String
condition_by_rank = "dcethr 1 ; mutex m ; cond c ; attr f ; routine w x ; pthread_mutex_lock m ; pthread_cond_wait c m ; pthread_mutex_unlock m ; say self ; end ; routine main x ; local t ; pthread_mutex_init m default ; pthread_cond_init c ; pthread_create t default w 0 ; pthread_yield ; pthread_attr_create f ; pthread_attr_setinheritsched f PTHREAD_DEFAULT_SCHED ; pthread_attr_setprio f 20 ; pthread_create t f w 0 ; pthread_cond_signal c ; pthread_cond_signal c ; end"

-- The same with timed waits.
abbrev pub timed_waiters_by_rank : String
timed_waiters_by_rank = "dcethr 1 ; mutex m ; cond c ; attr f ; routine w x ; pthread_mutex_lock m ; pthread_cond_timedwait c m 9 ; say err ; pthread_mutex_unlock m ; end ; routine main x ; local t ; pthread_mutex_init m default ; pthread_cond_init c ; pthread_create t default w 0 ; pthread_yield ; pthread_attr_create f ; pthread_attr_setinheritsched f PTHREAD_DEFAULT_SCHED ; pthread_attr_setprio f 20 ; pthread_create t f w 0 ; pthread_cond_signal c ; end"

-- Two readers of an empty pipe, of which the one of lesser rank comes first.
abbrev pub readers_by_rank : String
readers_by_rank = "dcethr 1 ; pipe p 1 ; attr f ; routine r x ; local g ; read p x g ; say x ; end ; routine main x ; local t ; pthread_create t default r 0 ; pthread_yield ; pthread_attr_create f ; pthread_attr_setinheritsched f PTHREAD_DEFAULT_SCHED ; pthread_attr_setprio f 20 ; pthread_create t f r 0 ; write p 5 ; write p 6 ; end"

-- Two writers of a full pipe, of which the one of lesser rank comes first.
abbrev pub writers_by_rank : String
writers_by_rank = "dcethr 1 ; pipe p 1 ; attr f ; routine w x ; write p self ; end ; routine main x ; local t ; write p 1 ; pthread_create t default w 0 ; pthread_yield ; pthread_attr_create f ; pthread_attr_setinheritsched f PTHREAD_DEFAULT_SCHED ; pthread_attr_setprio f 20 ; pthread_create t f w 0 ; read p x t ; read p x t ; say x ; read p x t ; say x ; end"

-- Two threads that wait for a once block, of which the one of lesser rank comes first.
abbrev pub once_by_rank : String
once_by_rank = "dcethr 1 ; exception e ; once o ; attr f ; routine i x ; local t ; pthread_create t default w 0 ; pthread_yield ; pthread_attr_create f ; pthread_attr_setinheritsched f PTHREAD_DEFAULT_SCHED ; pthread_attr_setprio f 20 ; pthread_create t f w 0 ; raise e ; end ; routine j x ; say self ; end ; routine w x ; pthread_once o j ; end ; routine main x ; pthread_once o i ; end"

-- Threads that wait for a mutex, as a reader and as a writer, and are cancelled twice.
abbrev pub cancels_merge_at_waits : String
cancels_merge_at_waits = "dcethr 1 ; mutex m ; pipe p 1 ; pipe q 1 ; routine l x ; pthread_mutex_lock m ; end ; routine r x ; local g ; pthread_setcancel CANCEL_OFF g ; read p x g ; end ; routine w x ; local g ; pthread_setcancel CANCEL_OFF g ; write q 2 ; end ; routine main x ; local t ; pthread_mutex_init m default ; pthread_mutex_lock m ; write q 1 ; pthread_create t default l 0 ; pthread_create t default r 0 ; pthread_create t default w 0 ; pthread_yield ; pthread_cancel 2 ; pthread_cancel 2 ; pthread_cancel 3 ; pthread_cancel 3 ; pthread_cancel 4 ; pthread_cancel 4 ; end"
