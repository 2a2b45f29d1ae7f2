-- Worked scripts, with ` ; ` for the end of a line.
use Prim.Native.String.{String}

-- A routine that says a number.
abbrev pub saying_seven : String
saying_seven = "dcethr 1 ; routine main a ; say 7 ; end"

-- A bounded buffer with two producers and two consumers.
abbrev pub buffer : String
buffer = "dcethr 1 ; mutex m ; cond ne ; cond nf ; shared n 0 ; shared s0 0 ; shared s1 0 ; shared total 0 ; routine producer a ; local i ; set i 1 ; while <= i 5 ; pthread_mutex_lock m ; try ; while == n 2 ; pthread_cond_wait nf m ; end ; if == n 0 ; set s0 i ; else ; set s1 i ; end ; set n + n 1 ; pthread_cond_signal ne ; finally ; pthread_mutex_unlock m ; endtry ; set i + i 1 ; end ; end ; routine consumer a ; local i ; local v ; set i 1 ; while <= i 5 ; pthread_mutex_lock m ; try ; while == n 0 ; pthread_cond_wait ne m ; end ; set n - n 1 ; if == n 0 ; set v s0 ; else ; set v s1 ; end ; set total + total v ; pthread_cond_signal nf ; finally ; pthread_mutex_unlock m ; endtry ; set i + i 1 ; end ; end ; routine main a ; local p ; local q ; local r ; local s ; local v ; pthread_mutex_init m default ; pthread_cond_init ne ; pthread_cond_init nf ; pthread_create p default producer 0 ; pthread_create q default producer 0 ; pthread_create r default consumer 0 ; pthread_create s default consumer 0 ; pthread_join p v ; pthread_detach p ; pthread_join q v ; pthread_detach q ; pthread_join r v ; pthread_detach r ; pthread_join s v ; pthread_detach s ; say total ; end"

-- A status exception that is caught by its number, across a call.
abbrev pub match_by_number : String
match_by_number = "dcethr 1 ; status a 5 ; status b 5 ; routine inner x ; try ; raise a ; finally ; say 1 ; endtry ; end ; routine main x ; try ; try ; call inner 0 ; finally ; say 2 ; endtry ; catch b ; say exc_get_status this ; endtry ; end"

-- A cancel that is caught and raised again.
abbrev pub cancel_raised_again : String
cancel_raised_again = "dcethr 1 ; routine main a ; try ; try ; pthread_cancel self ; pthread_testcancel ; catch_all ; reraise ; endtry ; catch cancel_e ; say 3 ; endtry ; end"

-- A FINALLY body that raises.
abbrev pub finally_raises : String
finally_raises = "dcethr 1 ; exception p ; exception q ; routine main a ; try ; try ; raise p ; finally ; raise q ; endtry ; catch q ; say 1 ; endtry ; end"

-- A wait that is cancelled while the canceller holds the mutex.
abbrev pub cancelled_wait : String
cancelled_wait = "dcethr 1 ; mutex m ; cond c ; shared t 0 ; routine waiter a ; pthread_mutex_lock m ; try ; pthread_cond_wait c m ; finally ; pthread_mutex_unlock m ; endtry ; end ; routine main a ; local v ; pthread_mutex_init m default ; pthread_cond_init c ; pthread_create t default waiter 0 ; pthread_yield ; pthread_mutex_lock m ; pthread_cancel t ; pthread_mutex_unlock m ; pthread_join t v ; say v ; end"

-- A wait that is signalled and then cancelled, with a point after it.
abbrev pub signalled_wait : String
signalled_wait = "dcethr 1 ; mutex m ; cond c ; shared t 0 ; routine waiter a ; pthread_mutex_lock m ; try ; pthread_cond_wait c m ; pthread_testcancel ; finally ; pthread_mutex_unlock m ; endtry ; end ; routine main a ; local v ; pthread_mutex_init m default ; pthread_cond_init c ; pthread_create t default waiter 0 ; pthread_yield ; pthread_mutex_lock m ; pthread_cond_signal c ; pthread_cancel t ; pthread_mutex_unlock m ; pthread_join t v ; say v ; end"

-- Cancels of one thread that merge, and of one that has ended.
abbrev pub cancels_merge : String
cancels_merge = "dcethr 1 ; routine w a ; pthread_yield ; try ; pthread_testcancel ; catch cancel_e ; pthread_testcancel ; endtry ; end ; routine main a ; local t ; local v ; pthread_create t default w 0 ; pthread_cancel t ; pthread_cancel t ; pthread_join t v ; pthread_cancel t ; pthread_detach t ; try ; pthread_cancel t ; catch existence_e ; say v ; endtry ; end"

-- A cancel that is delivered at a quiet statement.
abbrev pub asynchronous_delivery : String
asynchronous_delivery = "dcethr 1 ; routine main a ; local x ; pthread_setcancel CANCEL_OFF x ; pthread_setasynccancel CANCEL_ON x ; pthread_cancel self ; pthread_testcancel ; pthread_setcancel CANCEL_ON x ; set x 9 ; say x ; end"

-- A fast mutex that is locked twice.
abbrev pub fast_mutex_twice : String
fast_mutex_twice = "dcethr 1 ; mutex m ; routine main a ; pthread_mutex_init m default ; pthread_mutex_lock m ; pthread_mutex_lock m ; end"

-- A nonrecursive mutex that is locked twice.
abbrev pub nonrecursive_mutex_twice : String
nonrecursive_mutex_twice = "dcethr 1 ; mutex m ; mutexattr k ; routine main a ; pthread_mutexattr_create k ; pthread_mutexattr_setkind_np k MUTEX_NONRECURSIVE_NP ; pthread_mutex_init m k ; pthread_mutex_lock m ; pthread_mutex_lock m ; end"

-- A recursive mutex that is locked twice and unlocked three times.
abbrev pub recursive_mutex_twice : String
recursive_mutex_twice = "dcethr 1 ; mutex m ; mutexattr k ; routine main a ; pthread_mutexattr_create k ; pthread_mutexattr_setkind_np k MUTEX_RECURSIVE_NP ; pthread_mutex_init m k ; pthread_mutex_lock m ; pthread_mutex_lock m ; pthread_mutex_unlock m ; pthread_mutex_unlock m ; pthread_mutex_unlock m ; end"

-- An error reply where no error raises.
abbrev pub error_in_status : String
error_in_status = "dcethr 1 ; interface status ; mutex m ; routine main a ; pthread_mutex_init m default ; pthread_mutex_unlock m ; say err ; end"

-- An error reply where errors raise.
abbrev pub error_in_exc : String
error_in_exc = "dcethr 1 ; mutex m ; routine main a ; pthread_mutex_init m default ; pthread_mutex_unlock m ; say err ; end"

-- A once routine that is unwound while two threads wait.
abbrev pub once_undone : String
once_undone = "dcethr 1 ; once o ; routine init a ; pthread_delay_np 10 ; end ; routine w a ; pthread_once o init ; say a ; end ; routine main a ; local t ; local u ; local x ; pthread_create t default w 1 ; pthread_yield ; pthread_create u default w 2 ; pthread_create u default w 3 ; pthread_yield ; pthread_setprio u 20 x ; pthread_cancel t ; end"

-- A destructor that raises.
abbrev pub destructor_raises : String
destructor_raises = "dcethr 1 ; exception e ; key k ; key j ; routine bad a ; raise e ; end ; routine good a ; say a ; end ; routine main a ; pthread_keycreate k bad ; pthread_keycreate j good ; pthread_setspecific k 4 ; pthread_setspecific j 5 ; return 9 ; end"

-- A reader that is cancelled while it waits, and a closed pipe.
abbrev pub cancelled_reader : String
cancelled_reader = "dcethr 1 ; pipe p 4 ; routine r a ; local v ; local g ; read p v g ; say v ; end ; routine main a ; local t ; local u ; local v ; pthread_create t default r 0 ; pthread_create u default r 0 ; pthread_yield ; pthread_cancel t ; write p 7 ; pthread_join u v ; close p ; write p 8 ; end"

-- Two timed waits that end at one time.
abbrev pub equal_times : String
equal_times = "dcethr 1 ; mutex m ; cond c ; routine w a ; pthread_mutex_lock m ; pthread_cond_timedwait c m 20 ; say err ; pthread_mutex_unlock m ; end ; routine main a ; local t ; pthread_mutex_init m default ; pthread_cond_init c ; pthread_create t default w 0 ; pthread_create t default w 0 ; pthread_delay_np 0 ; end"

-- A loop that reaches the limit of a history.
abbrev pub limit_reached : String
limit_reached = "dcethr 1 ; limit 3 ; routine main a ; while 1 ; end ; end"

-- A thread of a greater rank than its maker.
abbrev pub ranks : String
ranks = "dcethr 1 ; attr f ; routine w a ; say a ; end ; routine main a ; local t ; pthread_attr_create f ; pthread_attr_setinheritsched f PTHREAD_DEFAULT_SCHED ; pthread_attr_setsched f SCHED_FIFO ; pthread_create t f w 5 ; say 6 ; end"

-- A sum outside 64 bits.
abbrev pub overflow : String
overflow = "dcethr 1 ; routine main a ; say + 9223372036854775807 1 ; end"

-- A shared variable that is set.
abbrev pub shared_variable : String
shared_variable = "dcethr 1 ; shared x 2 ; routine main a ; set x 5 ; say x ; end"

-- A thread that is joined twice.
abbrev pub joined_twice : String
joined_twice = "dcethr 1 ; routine w a ; return + a 1 ; end ; routine main a ; local t ; local v ; pthread_create t default w 4 ; pthread_join t v ; pthread_join t v ; say v ; end"

-- The global lock, which is unlocked once too often.
abbrev pub global_lock : String
global_lock = "dcethr 1 ; interface status ; routine main a ; pthread_lock_global_np ; pthread_lock_global_np ; pthread_unlock_global_np ; pthread_unlock_global_np ; pthread_unlock_global_np ; say err ; end"

-- Two threads that lock two mutexes in opposite order.
abbrev pub deadlock_of_two : String
deadlock_of_two = "dcethr 1 ; mutex m ; mutex n ; routine w a ; pthread_mutex_lock n ; pthread_mutex_lock m ; end ; routine main a ; local t ; pthread_mutex_init m default ; pthread_mutex_init n default ; pthread_create t default w 0 ; pthread_mutex_lock m ; pthread_yield ; pthread_mutex_lock n ; end"

-- Each declaration, statement and operator.
abbrev pub every_statement : String
every_statement = "dcethr 1 ; interface status ; limit 5 ; shared x -7 ; exception e ; status y 5 ; mutex m ; mutexattr b ; cond c ; attr f ; key k ; once o ; pipe p 4 ; routine r a ; return / a 2 ; end ; routine main a ; local v ; local w ; set v % 7 2 ; set x w ; say and < v 1 or <= v 2 not > v 3 ; if >= err != v 4 ; say exc_get_status y ; else ; say == self -1 ; end ; while x ; try ; if 1 ; raise e ; end ; catch e ; reraise ; catch_all ; say exc_matches e this ; say exc_get_status this ; endtry ; end ; try ; try ; finally ; say 1 ; endtry ; finally ; endtry ; call r 1 ; call r + 1 1 w ; pthread_exit 1 ; end"

-- Each call of the thread service.
abbrev pub every_call : String
every_call = "dcethr 1 ; shared x 0 ; mutex m ; mutexattr b ; cond c ; attr f ; key k ; once o ; pipe p 4 ; routine r a ; end ; routine main a ; local v ; local w ; pthread_attr_create f ; pthread_attr_delete f ; pthread_attr_setsched f SCHED_RR ; pthread_attr_setprio f + v 1 ; pthread_attr_setinheritsched f PTHREAD_INHERIT_SCHED ; pthread_attr_setstacksize f 16 ; pthread_create v f r - v 1 ; pthread_create v default r 1 ; pthread_join v w ; pthread_detach v ; pthread_yield ; pthread_cancel self ; pthread_testcancel ; pthread_setcancel CANCEL_ON v ; pthread_setasynccancel CANCEL_OFF v ; pthread_setprio v * v 2 w ; pthread_getprio v w ; pthread_setscheduler v SCHED_BG_NP 1 w ; pthread_getscheduler v w ; pthread_delay_np 1 ; pthread_get_expiration_np 1 v ; pthread_mutexattr_create b ; pthread_mutexattr_setkind_np b MUTEX_FAST_NP ; pthread_mutexattr_delete b ; pthread_mutex_init m b ; pthread_mutex_init m default ; pthread_mutex_destroy m ; pthread_mutex_lock m ; pthread_mutex_trylock m v ; pthread_mutex_unlock m ; pthread_lock_global_np ; pthread_unlock_global_np ; pthread_cond_init c ; pthread_cond_destroy c ; pthread_cond_wait c m ; pthread_cond_timedwait c m 1 ; pthread_cond_signal c ; pthread_cond_broadcast c ; pthread_once o r ; pthread_keycreate k r ; pthread_keycreate k none ; pthread_setspecific k 1 ; pthread_getspecific k x ; read p v w ; write p 1 ; close p ; end"
