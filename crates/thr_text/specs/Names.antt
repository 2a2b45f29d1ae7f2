-- Which words can be names (docs/script.md, "Names").
use Rattle.std.specs.Prelude.{ℕ, Bool, ◌&&◌, ◌||◌, not, ◌==◌, nat_lt, nat_le, List, [], ◌∷◌, length, codes, slice_index}
use Rattle.std.specs.List.{list_all, list_any}
use Rattle.std.specs.Str.{bytes_eq}

abbrev pub is_letter : ℕ → Bool
is_letter b = (b == 95) || (nat_le 65 b && nat_le b 90) || (nat_le 97 b && nat_le b 122)

abbrev pub is_letter_or_digit : ℕ → Bool
is_letter_or_digit b = is_letter b || (nat_le 48 b && nat_le b 57)

-- A letter or `_`, and then letters, digits or `_`: 1 to 24 bytes.
unfoldable pub has_name_form : List ℕ → Bool
has_name_form word = nat_lt 0 (length word) && nat_le (length word) 24 && is_letter (slice_index word 0) && list_all is_letter_or_digit word

-- The words that stand in some line by themselves.
unfoldable pub reserved_words : List (List ℕ)
reserved_words =
    -- heads of declarations
    codes "interface" ∷ codes "limit" ∷ codes "shared" ∷ codes "exception" ∷
    codes "status" ∷ codes "mutex" ∷ codes "mutexattr" ∷ codes "cond" ∷
    codes "attr" ∷ codes "key" ∷ codes "once" ∷ codes "pipe" ∷
    codes "routine" ∷ codes "local" ∷
    -- heads of statements and clauses, and the words that close blocks
    codes "set" ∷ codes "say" ∷ codes "if" ∷ codes "else" ∷
    codes "while" ∷ codes "try" ∷ codes "catch" ∷ codes "catch_all" ∷
    codes "finally" ∷ codes "endtry" ∷ codes "raise" ∷ codes "reraise" ∷
    codes "call" ∷ codes "return" ∷ codes "pthread_exit" ∷ codes "end" ∷
    -- words of expressions
    codes "this" ∷ codes "self" ∷ codes "err" ∷ codes "and" ∷
    codes "or" ∷ codes "not" ∷ codes "exc_get_status" ∷ codes "exc_matches" ∷
    -- calls of the thread service
    codes "pthread_attr_create" ∷ codes "pthread_attr_delete" ∷ codes "pthread_attr_setsched" ∷ codes "pthread_attr_setprio" ∷
    codes "pthread_attr_setinheritsched" ∷ codes "pthread_attr_setstacksize" ∷ codes "pthread_create" ∷ codes "pthread_join" ∷
    codes "pthread_detach" ∷ codes "pthread_yield" ∷ codes "pthread_cancel" ∷ codes "pthread_testcancel" ∷
    codes "pthread_setcancel" ∷ codes "pthread_setasynccancel" ∷ codes "pthread_setprio" ∷ codes "pthread_getprio" ∷
    codes "pthread_setscheduler" ∷ codes "pthread_getscheduler" ∷ codes "pthread_delay_np" ∷ codes "pthread_get_expiration_np" ∷
    codes "pthread_mutexattr_create" ∷ codes "pthread_mutexattr_setkind_np" ∷ codes "pthread_mutexattr_delete" ∷ codes "pthread_mutex_init" ∷
    codes "pthread_mutex_destroy" ∷ codes "pthread_mutex_lock" ∷ codes "pthread_mutex_trylock" ∷ codes "pthread_mutex_unlock" ∷
    codes "pthread_lock_global_np" ∷ codes "pthread_unlock_global_np" ∷ codes "pthread_cond_init" ∷ codes "pthread_cond_destroy" ∷
    codes "pthread_cond_wait" ∷ codes "pthread_cond_timedwait" ∷ codes "pthread_cond_signal" ∷ codes "pthread_cond_broadcast" ∷
    codes "pthread_once" ∷ codes "pthread_keycreate" ∷ codes "pthread_setspecific" ∷ codes "pthread_getspecific" ∷
    codes "read" ∷ codes "write" ∷ codes "close" ∷
    -- words that stand in a call
    codes "SCHED_FIFO" ∷ codes "SCHED_RR" ∷ codes "SCHED_FG_NP" ∷ codes "SCHED_BG_NP" ∷
    codes "PTHREAD_INHERIT_SCHED" ∷ codes "PTHREAD_DEFAULT_SCHED" ∷ codes "CANCEL_ON" ∷ codes "CANCEL_OFF" ∷
    codes "MUTEX_FAST_NP" ∷ codes "MUTEX_RECURSIVE_NP" ∷ codes "MUTEX_NONRECURSIVE_NP" ∷ codes "default" ∷
    codes "none" ∷
    -- others
    codes "dcethr" ∷ codes "exc" ∷ codes "global" ∷ []

unfoldable pub is_reserved : List ℕ → Bool
is_reserved word = list_any (λ w. bytes_eq word w) reserved_words

abbrev pub is_name : List ℕ → Bool
is_name word = has_name_form word && not (is_reserved word)
