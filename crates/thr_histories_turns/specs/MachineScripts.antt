-- Worked scripts of slices, unwindings, once routines, joins, pipes and several processors, with ` ; ` for the end of a line.
use Prim.Native.String.{String}
use Rattle.std.specs.Prelude.{List, [], ◌∷◌}
use Rattle.thr_values.specs.declared.event.Event.{Event}
use Rattle.thr_values.specs.declared.event.Event.TheVariants as events

-- A SCHED_RR and a SCHED_FIFO thread of one rank, and a maker that goes to the background.
abbrev pub round_robin_beside_fifo : String
round_robin_beside_fifo = "dcethr 1 ; attr a ; routine loop x ; local i ; while < i x ; say i ; set i + i 1 ; end ; end ; routine main x ; local t ; pthread_attr_create a ; pthread_attr_setinheritsched a PTHREAD_DEFAULT_SCHED ; pthread_attr_setsched a SCHED_RR ; pthread_setscheduler self SCHED_FIFO 20 t ; pthread_create t a loop 9 ; pthread_attr_setsched a SCHED_FIFO ; pthread_create t a loop 9 ; pthread_setscheduler self SCHED_BG_NP 31 t ; end"

-- A thread that runs alone for more than a slice and then creates another of its rank.
abbrev pub slice_renewed : String
slice_renewed = "dcethr 1 ; routine w x ; say x ; end ; routine main x ; local t ; while < x 9 ; say x ; set x + x 1 ; end ; pthread_create t default w 50 ; while < x 18 ; say x ; set x + x 1 ; end ; end"

-- Two FIFO threads of one rank, the first of which creates a thread of greater rank.
abbrev pub fifo_put_back : String
fifo_put_back = "dcethr 1 ; attr f ; routine high x ; say x ; end ; routine low x ; local t ; if == x 2 ; pthread_attr_setprio f 15 ; pthread_create t f high 4 ; end ; say x ; end ; routine main x ; local t ; pthread_attr_create f ; pthread_attr_setinheritsched f PTHREAD_DEFAULT_SCHED ; pthread_attr_setsched f SCHED_FIFO ; pthread_attr_setprio f 10 ; pthread_setscheduler self SCHED_FIFO 20 t ; pthread_create t f low 2 ; pthread_create t f low 3 ; pthread_setprio self 5 t ; say t ; end"

-- A background thread that is a FIFO thread for some turns, beside an equal background thread.
abbrev pub slice_kept_under_fifo : String
slice_kept_under_fifo = "dcethr 1 ; routine w x ; say x ; end ; routine main x ; local t ; pthread_setscheduler self SCHED_BG_NP 16 t ; pthread_create t default w 50 ; pthread_setscheduler self SCHED_FIFO 0 t ; set t 1 ; while <= t 12 ; if == t 4 ; pthread_setscheduler self SCHED_BG_NP 16 x ; end ; say t ; set t + t 1 ; end ; end"

-- Threads of one rank that yield, and changes of the priority of a ready and of the running one.
abbrev pub ranks_changed : String
ranks_changed = "dcethr 1 ; routine w x ; say x ; pthread_yield ; say x ; end ; routine main x ; local t ; pthread_create t default w 20 ; pthread_create t default w 30 ; pthread_setprio 2 3 x ; pthread_setprio 2 16 x ; pthread_yield ; say x ; pthread_setprio 3 17 x ; say x ; pthread_setprio self 1 x ; say x ; end"

-- An exit from a called routine, with CATCH_ALL around it and FINALLY between.
abbrev pub exit_through_finally : String
exit_through_finally = "dcethr 1 ; shared g 7 ; routine inner x ; try ; pthread_exit + g x ; catch_all ; say 1 ; endtry ; end ; routine main x ; try ; try ; call inner 2 ; finally ; say 2 ; endtry ; catch_all ; say 3 ; endtry ; say 4 ; end"

-- A RERAISE in a catch body that stands in the catch body of another try.
abbrev pub raise_in_catch_body : String
raise_in_catch_body = "dcethr 1 ; status a 5 ; status b 8 ; exception p ; routine main x ; try ; try ; raise a ; catch_all ; say exc_get_status this ; try ; raise b ; catch b ; say exc_matches this b ; reraise ; endtry ; say 0 ; endtry ; catch p ; say 1 ; catch b ; say + exc_get_status this exc_get_status p ; endtry ; end"

-- Catch bodies in one another, each of which says what it has caught.
abbrev pub this_of_nested_catch_bodies : String
this_of_nested_catch_bodies = "dcethr 1 ; status a 5 ; status b 8 ; exception p ; routine main x ; try ; try ; raise a ; catch_all ; try ; raise b ; catch a ; say 0 ; catch b ; say exc_get_status this ; endtry ; say exc_get_status this ; reraise ; endtry ; catch p ; say 1 ; catch_all ; try ; raise p ; finally ; say exc_get_status this ; endtry ; endtry ; end"

-- A FINALLY body with a try of its own, inside one that exits.
abbrev pub finally_replaced_by_exit : String
finally_replaced_by_exit = "dcethr 1 ; exception p ; exception q ; routine main x ; try ; try ; try ; raise p ; finally ; try ; raise q ; catch_all ; say 1 ; endtry ; endtry ; finally ; pthread_exit 6 ; endtry ; catch_all ; say 2 ; endtry ; end"

-- Calls inside tries, from a first frame and from a second one, on stacks of 16 frames.
abbrev pub stack_overflow : String
stack_overflow = "dcethr 1 ; interface status ; attr a ; routine deep x ; try ; call deep + 1 + x % 0 - 7 x ; catch stackovf_e ; say x ; say err ; endtry ; end ; routine above x ; pthread_detach 9 ; call deep 0 ; end ; routine main x ; local t ; pthread_attr_create a ; pthread_attr_setstacksize a 16 ; pthread_create t a deep 0 ; pthread_create t a above 0 ; end"

-- Faults of a shared and of two quiet statements, with asynchronous cancelability on.
abbrev pub faults_of_expressions : String
faults_of_expressions = "dcethr 1 ; interface status ; shared g 4 ; routine main x ; pthread_setasynccancel CANCEL_ON x ; pthread_detach 9 ; try ; set g / g x ; catch_all ; say exc_matches this intdiv_e ; endtry ; try ; set x + / 1 0 + 9223372036854775807 1 ; catch intovf_e ; say 1 ; catch intdiv_e ; say g ; endtry ; try ; set x + % -9223372036854775808 -1 / 1 0 ; catch intdiv_e ; say 2 ; catch intovf_e ; say err ; endtry ; end"

-- Calls whose expressions have faults, first with a cancel pending.
abbrev pub faults_before_replies : String
faults_before_replies = "dcethr 1 ; routine main x ; pthread_cancel self ; try ; pthread_join / 1 0 x ; catch cancel_e ; try ; pthread_join / 1 0 x ; catch_all ; say err ; endtry ; endtry ; pthread_setprio 7 32 x ; end"

-- Replies of several calls, each with a look at `err`.
abbrev pub errors_in_status : String
errors_in_status = "dcethr 1 ; interface status ; mutex m ; cond c ; pipe p 1 ; routine main x ; local g ; pthread_mutex_init m default ; pthread_mutex_init m default ; say err ; pthread_cond_wait c m ; say err ; pthread_cond_init c ; pthread_cond_wait c m ; say err ; close p ; say err ; write p 1 ; say err ; close p ; read p x g ; say err ; pthread_delay_np -1 ; pthread_setprio self 32 x ; pthread_setprio 7 32 x ; say err ; pthread_getprio self x ; say + err x ; end"

-- Three keys, made and set in another order than declared.
abbrev pub destructors_in_order : String
destructors_in_order = "dcethr 1 ; key n ; key k ; key j ; routine again x ; say x ; if > x 1 ; pthread_setspecific k - x 1 ; end ; return 70 ; end ; routine leave x ; try ; pthread_exit + x 40 ; finally ; pthread_getspecific n x ; say x ; endtry ; end ; routine main x ; pthread_keycreate j leave ; pthread_keycreate k again ; pthread_keycreate n none ; pthread_setspecific j 5 ; pthread_setspecific k 2 ; pthread_setspecific n 3 ; return 9 ; end"

-- A once routine that enters its own block, while another thread waits for the block.
abbrev pub once_entered_again : String
once_entered_again = "dcethr 1 ; once o ; routine init x ; pthread_yield ; try ; pthread_once o init ; catch use_error_e ; say err ; endtry ; pthread_setasynccancel CANCEL_ON x ; end ; routine w x ; pthread_once o init ; say x ; end ; routine main x ; local t ; pthread_create t default w 4 ; pthread_once o init ; say 3 ; pthread_once o init ; end"

-- A once routine that enters its own block, and two callers that name different routines.
abbrev pub once_entered_again_unwound : String
once_entered_again_unwound = "dcethr 1 ; once o ; routine init x ; pthread_yield ; pthread_once o init ; end ; routine other x ; say + x 6 ; end ; routine w x ; pthread_once o other ; say x ; end ; routine main x ; local t ; pthread_create t default w 4 ; try ; pthread_once o init ; catch_all ; pthread_once o init ; say err ; endtry ; end"

-- Detaches and joins of threads that run, that have ended, and of the caller.
abbrev pub detached_threads : String
detached_threads = "dcethr 1 ; interface status ; routine w x ; return x ; end ; routine main x ; local v ; pthread_create v default w 20 ; pthread_create v default w 30 ; pthread_detach 2 ; pthread_detach 2 ; pthread_join 2 v ; pthread_join self v ; pthread_detach 9 ; pthread_yield ; pthread_join 2 v ; pthread_detach 3 ; pthread_join 3 v ; pthread_create v default w 40 ; say v ; pthread_detach self ; pthread_join self v ; end"

-- A thread that is detached while another waits for its end.
abbrev pub detached_while_joined : String
detached_while_joined = "dcethr 1 ; interface status ; routine target x ; pthread_yield ; return 7 ; end ; routine joiner x ; pthread_join x x ; say x ; pthread_join 2 x ; say err ; end ; routine main x ; local t ; pthread_create t default target 0 ; pthread_create t default joiner 2 ; pthread_yield ; pthread_detach 2 ; pthread_join 2 t ; end"

-- Four joiners of one thread, of which one is raised while it waits.
abbrev pub joiners_by_rank : String
joiners_by_rank = "dcethr 1 ; routine target x ; return 7 ; end ; routine joiner x ; pthread_join 2 x ; say + x self ; end ; routine main x ; local t ; pthread_create t default target 0 ; pthread_setprio 2 1 x ; pthread_create t default joiner 0 ; pthread_create t default joiner 0 ; pthread_create t default joiner 0 ; pthread_yield ; pthread_setprio 5 20 x ; pthread_setprio self 31 x ; pthread_join 2 x ; pthread_setprio 5 16 x ; end"

-- Two readers that wait for an empty pipe, which is then closed.
abbrev pub closed_with_readers : String
closed_with_readers = "dcethr 1 ; pipe p 2 ; routine r x ; local v ; local g ; set v 8 ; set g 9 ; read p v g ; say v ; say g ; end ; routine main x ; local t ; pthread_create t default r 0 ; pthread_create t default r 0 ; pthread_yield ; pthread_setprio self 31 t ; pthread_setprio 3 20 t ; close p ; pthread_setprio 3 16 t ; end"

-- Two writers that wait for a full pipe, which is then closed.
abbrev pub closed_with_writers : String
closed_with_writers = "dcethr 1 ; pipe p 1 ; routine w x ; try ; write p x ; catch pipe_e ; say err ; endtry ; end ; routine main x ; local v ; local g ; write p 5 ; pthread_create v default w 20 ; pthread_create v default w 30 ; pthread_yield ; pthread_setprio self 31 v ; pthread_setprio 3 20 v ; close p ; pthread_setprio 3 16 v ; read p v g ; say + v g ; read p v g ; say + v g ; end"

-- Two writers of a pipe with one place, and a reader of greater rank.
abbrev pub writers_relieved : String
writers_relieved = "dcethr 1 ; pipe p 1 ; routine w x ; write p x ; write p + x 1 ; end ; routine main x ; local v ; local g ; pthread_create v default w 20 ; pthread_create v default w 30 ; pthread_yield ; pthread_setprio self 31 v ; pthread_setprio 3 17 v ; read p v g ; say v ; read p v v ; say v ; read p v g ; say v ; read p v v ; say v ; end"

-- Two threads with one mutex.
abbrev pub mutex_between_processors : String
mutex_between_processors = "dcethr 1 ; mutex m ; routine w x ; pthread_mutex_lock m ; say x ; pthread_mutex_unlock m ; end ; routine main x ; local t ; pthread_mutex_init m default ; pthread_mutex_lock m ; pthread_create t default w 4 ; say 1 ; pthread_mutex_unlock m ; say 2 ; pthread_mutex_lock m ; end"

-- Turns of two processors in turn, with the mutex given away twice.
abbrev pub mutex_between_processors_events : List Event
mutex_between_processors_events = events.Dispatch 0 ∷ events.Turn 0 ∷ events.Turn 0 ∷ events.Turn 0 ∷ events.Dispatch 1 ∷ events.Turn 1 ∷ events.Turn 0 ∷ events.Turn 0 ∷ events.Dispatch 1 ∷ events.Turn 0 ∷ events.Turn 1 ∷ events.Turn 0 ∷ events.Turn 1 ∷ events.Turn 1 ∷ events.Dispatch 0 ∷ events.Turn 1 ∷ events.Turn 0 ∷ events.Turn 0 ∷ []

-- Two threads that wait for one time.
abbrev pub clock_with_idle_processors : String
clock_with_idle_processors = "dcethr 1 ; routine w x ; pthread_delay_np x ; say x ; end ; routine main x ; local t ; pthread_create t default w 10 ; pthread_setprio t 20 x ; pthread_delay_np 10 ; say 1 ; end"

-- The second processor first, then both, the clock, and both the other way round.
abbrev pub clock_with_idle_processors_events : List Event
clock_with_idle_processors_events = events.Dispatch 1 ∷ events.Turn 1 ∷ events.Turn 1 ∷ events.Dispatch 0 ∷ events.Dispatch 1 ∷ events.Turn 0 ∷ events.Turn 1 ∷ events.Clock ∷ events.Dispatch 1 ∷ events.Dispatch 0 ∷ events.Turn 0 ∷ events.Turn 1 ∷ events.Turn 0 ∷ events.Turn 1 ∷ events.Turn 1 ∷ events.Turn 0 ∷ []

-- A maker and a thread of one rank, and a thread of greater rank.
abbrev pub greater_rank_takes_one_processor : String
greater_rank_takes_one_processor = "dcethr 1 ; attr f ; routine high x ; say x ; end ; routine w x ; while < x 4 ; say x ; set x + x 1 ; end ; end ; routine main x ; local t ; pthread_attr_create f ; pthread_attr_setinheritsched f PTHREAD_DEFAULT_SCHED ; pthread_attr_setsched f SCHED_FIFO ; pthread_create t default w 0 ; pthread_create t f high 9 ; say 8 ; end"

-- The new thread is dispatched right after the turn that makes it.
abbrev pub greater_rank_takes_one_processor_events : List Event
greater_rank_takes_one_processor_events = events.Dispatch 0 ∷ events.Turn 0 ∷ events.Turn 0 ∷ events.Turn 0 ∷ events.Turn 0 ∷ events.Dispatch 1 ∷ events.Turn 1 ∷ events.Turn 0 ∷ events.Dispatch 0 ∷ events.Turn 1 ∷ events.Turn 0 ∷ events.Turn 1 ∷ events.Turn 0 ∷ events.Dispatch 0 ∷ events.Turn 0 ∷ events.Turn 1 ∷ events.Turn 0 ∷ events.Turn 1 ∷ []

-- The same script with a turn of the other processor before the new thread is dispatched.
abbrev pub greater_rank_frees_two_processors_events : List Event
greater_rank_frees_two_processors_events = events.Dispatch 0 ∷ events.Turn 0 ∷ events.Turn 0 ∷ events.Turn 0 ∷ events.Turn 0 ∷ events.Dispatch 1 ∷ events.Turn 1 ∷ events.Turn 0 ∷ events.Turn 1 ∷ events.Dispatch 1 ∷ events.Dispatch 0 ∷ events.Turn 0 ∷ events.Turn 1 ∷ events.Turn 1 ∷ events.Turn 0 ∷ events.Dispatch 0 ∷ events.Turn 0 ∷ events.Turn 0 ∷ events.Turn 0 ∷ []

-- A thread that ends with a mutex, one that waits for the mutex and one that joins the waiter.
abbrev pub deadlock_at_the_limit : String
deadlock_at_the_limit = "dcethr 1 ; limit 11 ; mutex m ; routine joins x ; pthread_join x x ; end ; routine locks x ; say x ; pthread_mutex_lock m ; end ; routine main x ; local t ; pthread_mutex_init m default ; pthread_mutex_lock m ; pthread_create t default joins 3 ; pthread_create t default locks 5 ; end"

-- The maker ends before the joiner waits.
abbrev pub deadlock_at_the_limit_events : List Event
deadlock_at_the_limit_events = events.Dispatch 0 ∷ events.Turn 0 ∷ events.Turn 0 ∷ events.Turn 0 ∷ events.Turn 0 ∷ events.Dispatch 1 ∷ events.Turn 0 ∷ events.Dispatch 0 ∷ events.Turn 1 ∷ events.Turn 0 ∷ events.Turn 0 ∷ []

-- A turn of several lines near the limit.
abbrev pub limit_passed_in_a_turn : String
limit_passed_in_a_turn = "dcethr 1 ; limit 5 ; exception p ; routine w x ; try ; raise p ; catch_all ; say x ; endtry ; end ; routine main x ; local t ; pthread_create t default w 3 ; say 1 ; end"

-- One turn of each of two processors.
abbrev pub limit_passed_in_a_turn_events : List Event
limit_passed_in_a_turn_events = events.Dispatch 1 ∷ events.Turn 1 ∷ events.Dispatch 0 ∷ events.Turn 0 ∷ []

-- Two threads that exit through FINALLY, one with a shared variable.
abbrev pub exits_quiet_and_shared : String
exits_quiet_and_shared = "dcethr 1 ; shared g 7 ; routine w x ; try ; pthread_exit 5 ; finally ; say x ; endtry ; end ; routine main x ; local t ; pthread_create t default w 2 ; try ; pthread_exit g ; finally ; say 1 ; endtry ; end"

-- Turns of the first and the last of four processors in turn.
abbrev pub exits_quiet_and_shared_events : List Event
exits_quiet_and_shared_events = events.Dispatch 0 ∷ events.Turn 0 ∷ events.Dispatch 3 ∷ events.Turn 0 ∷ events.Turn 3 ∷ events.Turn 0 ∷ events.Turn 3 ∷ events.Turn 0 ∷ []

-- A division by zero in `say` and one in `set`.
abbrev pub faults_quiet_and_shared : String
faults_quiet_and_shared = "dcethr 1 ; routine w x ; try ; set x / x 0 ; catch intdiv_e ; say x ; endtry ; end ; routine main x ; local t ; pthread_create t default w 2 ; try ; say / t 0 ; catch_all ; say exc_matches this intdiv_e ; endtry ; end"

-- Turns of two processors in turn after the second dispatch.
abbrev pub faults_quiet_and_shared_events : List Event
faults_quiet_and_shared_events = events.Dispatch 0 ∷ events.Turn 0 ∷ events.Dispatch 1 ∷ events.Turn 0 ∷ events.Turn 1 ∷ events.Turn 0 ∷ events.Turn 1 ∷ events.Turn 0 ∷ []

-- A once routine that raises, and a second caller that names another routine.
abbrev pub once_undone_between_processors : String
once_undone_between_processors = "dcethr 1 ; exception p ; once o ; routine bad x ; say 1 ; raise p ; end ; routine good x ; say 2 ; end ; routine w x ; pthread_once o good ; end ; routine main x ; local t ; pthread_create t default w 0 ; try ; pthread_once o bad ; catch p ; pthread_once o bad ; endtry ; end"

-- The waiter is dispatched and runs while the unwinding is under way.
abbrev pub once_undone_between_processors_events : List Event
once_undone_between_processors_events = events.Dispatch 1 ∷ events.Turn 1 ∷ events.Dispatch 0 ∷ events.Turn 1 ∷ events.Turn 0 ∷ events.Turn 1 ∷ events.Turn 1 ∷ events.Dispatch 0 ∷ events.Turn 0 ∷ events.Turn 1 ∷ events.Turn 0 ∷ events.Turn 0 ∷ events.Dispatch 1 ∷ events.Turn 0 ∷ events.Turn 1 ∷ events.Turn 1 ∷ []

-- Calls down to the last two frames and then a once block, and calls down to the last frame and then the block again.
abbrev pub once_without_two_frames : String
once_without_two_frames = "dcethr 1 ; interface status ; attr a ; once o ; routine init x ; say 7 ; end ; routine down x ; if x ; call down - x 1 ; else ; try ; pthread_detach 9 ; pthread_once o init ; catch_all ; say exc_matches this stackovf_e ; say err ; endtry ; end ; end ; routine main x ; local t ; pthread_attr_create a ; pthread_attr_setstacksize a 15 ; say err ; pthread_attr_setstacksize a 16 ; pthread_create t a down 12 ; pthread_create t a down 13 ; end"

-- A thread that yields to a lesser one and then makes it its equal.
abbrev pub yield_renews_slice : String
yield_renews_slice = "dcethr 1 ; routine w x ; say x ; end ; routine main x ; local t ; pthread_create t default w 50 ; pthread_setprio 2 1 t ; pthread_yield ; pthread_setprio 2 16 t ; while < x 9 ; say x ; set x + x 1 ; end ; end"

-- A reader that waits, and a writer whose eighth turn is the write.
abbrev pub woken_before_the_caller : String
woken_before_the_caller = "dcethr 1 ; pipe p 1 ; routine r x ; read p x x ; say x ; end ; routine main x ; local t ; pthread_create t default r 0 ; pthread_yield ; while < x 7 ; say x ; set x + x 1 ; end ; write p 9 ; say 50 ; end"

-- Threads that are created with an attribute cell in several states.
abbrev pub attributes_of_new_threads : String
attributes_of_new_threads = "dcethr 1 ; interface status ; attr a ; routine w x ; end ; routine main x ; local t ; pthread_attr_setprio a 3 ; pthread_create t a w 0 ; pthread_attr_create a ; pthread_attr_create a ; pthread_attr_setprio a 32 ; pthread_attr_setprio a 3 ; pthread_attr_setsched a SCHED_RR ; pthread_setscheduler self SCHED_FIFO 9 x ; pthread_create t a w 0 ; pthread_getprio t x ; pthread_getscheduler t x ; pthread_attr_setinheritsched a PTHREAD_DEFAULT_SCHED ; pthread_create t a w 0 ; pthread_getprio t x ; pthread_getscheduler t x ; pthread_attr_delete a ; pthread_attr_create a ; pthread_create t a w 0 ; pthread_getscheduler t x ; pthread_create t default w 0 ; pthread_getprio t x ; end"

-- Two threads that wait for a mutex, the later of which is raised.
abbrev pub mutex_to_best_waiter : String
mutex_to_best_waiter = "dcethr 1 ; mutex m ; routine w x ; pthread_mutex_lock m ; say x ; pthread_mutex_unlock m ; end ; routine main x ; local t ; pthread_mutex_init m default ; pthread_mutex_lock m ; pthread_create t default w 20 ; pthread_create t default w 30 ; pthread_yield ; pthread_setprio 3 20 t ; pthread_mutex_unlock m ; pthread_mutex_lock m ; say t ; end"

-- A once routine that exits, and a later caller of the block.
abbrev pub exit_in_once_routine : String
exit_in_once_routine = "dcethr 1 ; once o ; routine leave x ; pthread_exit 8 ; end ; routine good x ; say 2 ; end ; routine w x ; pthread_once o good ; end ; routine main x ; local t ; pthread_create t default w 0 ; try ; pthread_once o leave ; catch_all ; say 1 ; endtry ; end"

-- Two threads that wait for a once block whose routine changes their ranks.
abbrev pub done_wakes_best_first : String
done_wakes_best_first = "dcethr 1 ; once o ; routine init x ; pthread_yield ; pthread_setprio self 31 x ; pthread_setprio 3 20 x ; end ; routine w x ; pthread_once o init ; say x ; end ; routine main x ; local t ; pthread_create t default w 4 ; pthread_create t default w 5 ; pthread_once o init ; pthread_setprio 3 16 x ; end"

-- A destructor that sets the value of a lesser key and once its own again.
abbrev pub destructor_sets_lesser_key : String
destructor_sets_lesser_key = "dcethr 1 ; exception p ; key k ; key j ; routine sets x ; pthread_setspecific k + x 1 ; if == x 5 ; pthread_setspecific j 4 ; end ; end ; routine plain x ; say x ; end ; routine main x ; pthread_keycreate k plain ; pthread_keycreate j sets ; pthread_setspecific j 5 ; raise p ; end"

-- A thread that cancels itself and returns, with two destructors.
abbrev pub cancel_in_destructor : String
cancel_in_destructor = "dcethr 1 ; key k ; key j ; routine point x ; try ; pthread_testcancel ; finally ; say x ; endtry ; say 0 ; end ; routine main x ; pthread_keycreate k point ; pthread_keycreate j point ; pthread_setspecific k 3 ; pthread_setspecific j 4 ; pthread_cancel self ; return 9 ; end"

-- A routine that calls itself, one that returns out of a loop, and one that only ends.
abbrev pub calls_and_returns : String
calls_and_returns = "dcethr 1 ; shared g 3 ; routine fact x ; local v ; if <= x 1 ; return 1 ; end ; call fact - x 1 v ; return * x v ; end ; routine find x ; while 1 ; if > x g ; return g ; end ; set x + x 2 ; end ; say 0 ; end ; routine nothing x ; end ; routine main x ; local v ; call fact g v ; say v ; call find 0 v ; say v ; call nothing 7 v ; say v ; call find 9 ; while < g 5 ; set g + g 1 ; end ; end"

-- Changes of a thread that has ended, before and after it is detached.
abbrev pub ended_thread_changed : String
ended_thread_changed = "dcethr 1 ; interface status ; routine w x ; end ; routine main x ; local v ; pthread_create v default w 0 ; pthread_yield ; pthread_setprio 2 20 v ; pthread_getprio 2 v ; pthread_setscheduler 2 SCHED_RR 5 v ; pthread_getscheduler 2 v ; say v ; pthread_setprio 2 -1 v ; pthread_setscheduler 2 SCHED_FIFO 32 v ; pthread_detach 2 ; pthread_setscheduler 2 SCHED_FIFO 32 v ; pthread_getprio 2 v ; say v ; end"

-- Delays and expirations near the greatest number, on a clock that has moved.
abbrev pub times_at_the_bounds : String
times_at_the_bounds = "dcethr 1 ; interface status ; routine main x ; pthread_delay_np 0 ; pthread_delay_np 5 ; pthread_delay_np 9223372036854775803 ; say err ; pthread_get_expiration_np 9223372036854775803 x ; say x ; pthread_get_expiration_np 9223372036854775802 x ; say x ; pthread_get_expiration_np -1 x ; pthread_delay_np 9223372036854775802 ; pthread_delay_np 1 ; pthread_get_expiration_np 0 x ; end"

-- A thread that returns with a destructor, and a thread that cancels it twice.
abbrev pub cancel_before_the_end_step : String
cancel_before_the_end_step = "dcethr 1 ; key k ; routine d x ; say x ; end ; routine w x ; pthread_cancel 1 ; pthread_cancel 1 ; end ; routine main x ; local t ; pthread_create t default w 0 ; pthread_keycreate k d ; pthread_setspecific k 3 ; pthread_setasynccancel CANCEL_ON x ; return 9 ; end"

-- The cancel comes after the turn that ends the last frame.
abbrev pub cancel_before_the_end_step_events : List Event
cancel_before_the_end_step_events = events.Dispatch 0 ∷ events.Turn 0 ∷ events.Dispatch 1 ∷ events.Turn 0 ∷ events.Turn 0 ∷ events.Turn 0 ∷ events.Turn 0 ∷ events.Turn 1 ∷ events.Turn 0 ∷ events.Turn 0 ∷ events.Turn 0 ∷ events.Turn 1 ∷ events.Turn 1 ∷ []

-- Three threads of one rank, of which one is lowered while it runs.
abbrev pub lowered_on_another_processor : String
lowered_on_another_processor = "dcethr 1 ; routine w x ; say x ; say + x 1 ; end ; routine main x ; local t ; pthread_create t default w 20 ; pthread_create t default w 30 ; pthread_setprio 2 1 t ; say t ; end"

-- The lowered thread runs on the second processor and later on the first.
abbrev pub lowered_on_another_processor_events : List Event
lowered_on_another_processor_events = events.Dispatch 0 ∷ events.Turn 0 ∷ events.Dispatch 1 ∷ events.Turn 0 ∷ events.Turn 0 ∷ events.Turn 0 ∷ events.Turn 1 ∷ events.Dispatch 1 ∷ events.Turn 0 ∷ events.Turn 1 ∷ events.Dispatch 0 ∷ events.Turn 0 ∷ events.Turn 0 ∷ events.Turn 1 ∷ events.Turn 1 ∷ []

-- Calls down to a full stack and then a shared call.
abbrev pub overflow_of_shared_call : String
overflow_of_shared_call = "dcethr 1 ; attr a ; shared g 1 ; routine leaf x ; end ; routine down x ; if x ; call down - x 1 ; else ; try ; call leaf g ; catch stackovf_e ; say 5 ; endtry ; end ; end ; routine main x ; local t ; pthread_attr_create a ; pthread_attr_setstacksize a 16 ; pthread_create t a down 14 ; say 1 ; say 2 ; end"

-- A turn of the maker stands between each two of the new thread.
abbrev pub overflow_of_shared_call_events : List Event
overflow_of_shared_call_events = events.Dispatch 0 ∷ events.Turn 0 ∷ events.Turn 0 ∷ events.Turn 0 ∷ events.Dispatch 1 ∷ events.Turn 1 ∷ events.Turn 0 ∷ events.Turn 1 ∷ events.Turn 0 ∷ events.Turn 1 ∷ events.Turn 0 ∷ []

-- A routine of three lines of history with a limit of three.
abbrev pub finished_at_the_limit : String
finished_at_the_limit = "dcethr 1 ; limit 3 ; routine main x ; say 7 ; end"

-- The second processor alone.
abbrev pub finished_at_the_limit_events : List Event
finished_at_the_limit_events = events.Dispatch 1 ∷ events.Turn 1 ∷ events.Turn 1 ∷ []

-- A thread beside a lesser one, which it makes its equal after its first slice.
abbrev pub slice_beside_a_lesser_thread : String
slice_beside_a_lesser_thread = "dcethr 1 ; routine w x ; say x ; end ; routine main x ; local t ; pthread_create t default w 50 ; pthread_setprio 2 15 t ; while < x 8 ; say x ; set x + x 1 ; end ; pthread_setprio 2 16 t ; while < x 16 ; say x ; set x + x 1 ; end ; end"

-- A thread that raises `cancel_e`, and one that raises a delivered cancel again.
abbrev pub raised_cancel : String
raised_cancel = "dcethr 1 ; routine w x ; raise cancel_e ; end ; routine main x ; local t ; pthread_create t default w 0 ; pthread_join t x ; say x ; try ; pthread_cancel self ; pthread_testcancel ; catch cancel_e ; say exc_get_status this ; reraise ; endtry ; end"

-- A key that two threads set, one of them back to 0.
abbrev pub values_of_each_thread : String
values_of_each_thread = "dcethr 1 ; interface status ; key k ; routine d x ; say + x self ; end ; routine w x ; pthread_getspecific k x ; pthread_setspecific k 60 ; end ; routine main x ; local t ; pthread_setspecific k 4 ; pthread_getspecific k t ; pthread_keycreate k d ; pthread_keycreate k none ; pthread_setspecific k 4 ; pthread_create t default w 5 ; pthread_join t t ; pthread_getspecific k t ; pthread_setspecific k 0 ; end"

-- A destructor that calls a once routine, which raises.
abbrev pub once_in_destructor : String
once_in_destructor = "dcethr 1 ; exception p ; once o ; key k ; routine bad x ; raise p ; end ; routine d x ; try ; pthread_once o bad ; finally ; say x ; endtry ; end ; routine main x ; pthread_keycreate k d ; pthread_setspecific k 3 ; end"

-- Two mutexes of two kinds, locked again by their owner and tried by another thread.
abbrev pub mutex_replies : String
mutex_replies = "dcethr 1 ; interface status ; mutex m ; mutex n ; mutexattr b ; routine w x ; pthread_mutex_trylock m x ; say x ; end ; routine main x ; local v ; pthread_mutexattr_setkind_np b MUTEX_RECURSIVE_NP ; pthread_mutex_init m b ; pthread_mutexattr_create b ; pthread_mutexattr_create b ; pthread_mutexattr_setkind_np b MUTEX_RECURSIVE_NP ; pthread_mutex_init m b ; pthread_mutexattr_delete b ; pthread_mutexattr_delete b ; pthread_mutex_trylock n v ; pthread_mutex_init n default ; pthread_mutex_trylock m v ; pthread_mutex_trylock m v ; pthread_mutex_trylock n v ; pthread_mutex_trylock n v ; say v ; pthread_create v default w 5 ; pthread_mutex_unlock m ; pthread_mutex_destroy m ; pthread_mutex_unlock m ; pthread_mutex_destroy m ; pthread_mutex_unlock m ; end"

-- A pipe with two places, two items and a writer that waits.
abbrev pub items_in_order : String
items_in_order = "dcethr 1 ; pipe p 2 ; shared s 7 ; routine w x ; write p x ; end ; routine main x ; local v ; local g ; write p 1 ; write p 2 ; pthread_create v default w 3 ; pthread_yield ; read p v g ; read p s g ; say + s g ; close p ; read p v g ; say + v g ; read p s g ; say + s g ; end"

-- Two threads that lock the global lock twice.
abbrev pub global_lock_between_processors : String
global_lock_between_processors = "dcethr 1 ; routine w x ; pthread_lock_global_np ; pthread_lock_global_np ; say x ; pthread_unlock_global_np ; pthread_unlock_global_np ; end ; routine main x ; local t ; pthread_create t default w 4 ; call w 1 ; end"

-- The second thread waits between the two locks of the first.
abbrev pub global_lock_between_processors_events : List Event
global_lock_between_processors_events = events.Dispatch 0 ∷ events.Turn 0 ∷ events.Turn 0 ∷ events.Dispatch 1 ∷ events.Turn 1 ∷ events.Turn 0 ∷ events.Turn 0 ∷ events.Turn 0 ∷ events.Turn 0 ∷ events.Dispatch 1 ∷ events.Turn 1 ∷ events.Turn 0 ∷ events.Turn 1 ∷ events.Turn 1 ∷ events.Turn 1 ∷ events.Turn 1 ∷ events.Turn 1 ∷ []

-- Two once routines that enter each other's blocks.
abbrev pub deadlock_of_once_blocks : String
deadlock_of_once_blocks = "dcethr 1 ; once o ; once q ; routine first x ; pthread_once q second ; end ; routine second x ; pthread_once o first ; end ; routine w x ; pthread_once q second ; end ; routine main x ; local t ; pthread_create t default w 0 ; pthread_once o first ; end"

-- Each thread enters its own block before it enters the other's.
abbrev pub deadlock_of_once_blocks_events : List Event
deadlock_of_once_blocks_events = events.Dispatch 0 ∷ events.Turn 0 ∷ events.Dispatch 1 ∷ events.Turn 1 ∷ events.Turn 0 ∷ events.Turn 0 ∷ events.Turn 1 ∷ []

-- A thread that yields.
abbrev pub yield_to_another_processor : String
yield_to_another_processor = "dcethr 1 ; routine main x ; pthread_yield ; say 1 ; end"

-- A dispatch of the first processor and one of the last.
abbrev pub yield_to_another_processor_events : List Event
yield_to_another_processor_events = events.Dispatch 0 ∷ events.Turn 0 ∷ events.Dispatch 15 ∷ events.Turn 15 ∷ events.Turn 15 ∷ []

-- A reader that is cancelled, after an error of another call.
abbrev pub err_after_cancelled_wait : String
err_after_cancelled_wait = "dcethr 1 ; interface status ; pipe p 1 ; routine w x ; pthread_detach 9 ; try ; read p x x ; catch_all ; say err ; say x ; endtry ; end ; routine main x ; local t ; pthread_create t default w 5 ; pthread_yield ; pthread_cancel 2 ; end"

-- An exit whose FINALLY body raises.
abbrev pub exit_replaced_by_raise : String
exit_replaced_by_raise = "dcethr 1 ; exception p ; routine main x ; try ; try ; pthread_exit 5 ; finally ; raise p ; endtry ; catch_all ; say 1 ; endtry ; return 2 ; end"

-- A once routine that raises, and a waiter whose own routine has a point.
abbrev pub cancelled_runner_of_once : String
cancelled_runner_of_once = "dcethr 1 ; once o ; exception p ; routine bad x ; pthread_yield ; raise p ; end ; routine point x ; say 1 ; pthread_testcancel ; end ; routine w x ; pthread_once o point ; end ; routine main x ; local t ; pthread_create t default w 4 ; try ; pthread_once o bad ; catch_all ; pthread_cancel 2 ; endtry ; end"

-- Two threads that change each other's policy.
abbrev pub policies_changed : String
policies_changed = "dcethr 1 ; routine w x ; say x ; pthread_setscheduler 1 SCHED_RR 1 x ; say x ; end ; routine main x ; local t ; pthread_create t default w 50 ; pthread_setscheduler 2 SCHED_FIFO 0 t ; say t ; pthread_setscheduler self SCHED_BG_NP 0 t ; say t ; end"

-- Three FIFO threads of one rank that yield.
abbrev pub fifo_yields : String
fifo_yields = "dcethr 1 ; routine w x ; say x ; pthread_yield ; say x ; end ; routine main x ; local t ; pthread_setscheduler self SCHED_FIFO 3 t ; pthread_create t default w 20 ; pthread_create t default w 30 ; say t ; pthread_yield ; say 1 ; end"

-- Shared variables that are read before they are written, and a read that stores into one variable twice.
abbrev pub shared_by_calls : String
shared_by_calls = "dcethr 1 ; shared s 7 ; shared u -2 ; pipe p 2 ; routine main a ; say s ; say u ; write p 4 ; read p u u ; say u ; write p 5 ; read p s u ; say + * 10 s u ; end"

-- A read that stores into a shared variable when it returns.
abbrev pub shared_at_return : String
shared_at_return = "dcethr 1 ; shared s 3 ; pipe p 1 ; routine w a ; write p 9 ; say s ; end ; routine main a ; local t ; pthread_create t default w 0 ; read p s s ; say s ; end"

-- Joiners of two ranks, the lesser of which waits first and is equal to the other when both are ready.
abbrev pub joiners_keep_their_ranks : String
joiners_keep_their_ranks = "dcethr 1 ; attr f ; routine e x ; pthread_delay_np 5 ; end ; routine w x ; pthread_join 2 x ; say self ; end ; routine main x ; local t ; pthread_create t default e 0 ; pthread_create t default w 0 ; pthread_yield ; pthread_attr_create f ; pthread_attr_setinheritsched f PTHREAD_DEFAULT_SCHED ; pthread_attr_setprio f 20 ; pthread_create t f w 0 ; pthread_setprio self 31 x ; pthread_join 2 x ; pthread_setprio 4 16 x ; end"
