use Rattle.std.proofs.Common.{[], refl, Some, None}
use Rattle.thr_model.specs.Calls.{answered}
use Rattle.thr_services.specs.Answers.{listed}
use Rattle.thr_services.proofs.Known.{as_call}
use Rattle.thr_services.proofs.services.Services.answer_on_locks.Goals as goal

pub lock-requires-clause-depth : goal.lock-requires-clause-depth
lock-requires-clause-depth c = c.requires.sound.depths (Some c.in-MutexLock.m)

pub mutex_trylock-requires-clause-depth : goal.mutex_trylock-requires-clause-depth
mutex_trylock-requires-clause-depth c = c.requires.sound.depths (Some c.in-MutexTrylock.m)

pub lock-requires-in-LockGlobalNp-clause-depth : goal.lock-requires-in-LockGlobalNp-clause-depth
lock-requires-in-LockGlobalNp-clause-depth c = c.requires.sound.depths None

pub returns-in-MutexLock : goal.returns-in-MutexLock
unfolding answered
returns-in-MutexLock c =
    as_call c.args.self.now c.lock.new.self _ [] _ c.args.t (listed c.args.ns) _ _ c.in-MutexLock.is c.requires.gifts c.lock.ensures

pub returns-in-MutexTrylock : goal.returns-in-MutexTrylock
unfolding answered
returns-in-MutexTrylock c =
    as_call c.args.self.now c.mutex_trylock.new.self _ [] _ c.args.t (listed c.args.ns) _ _ c.in-MutexTrylock.is c.requires.gifts c.mutex_trylock.ensures

pub returns-in-MutexUnlock : goal.returns-in-MutexUnlock
unfolding answered
returns-in-MutexUnlock c =
    as_call c.args.self.now c.unlock.new.self _ c.unlock.new.gifts _ c.args.t (listed c.args.ns) _ _ c.in-MutexUnlock.is refl c.unlock.ensures

pub returns-in-LockGlobalNp : goal.returns-in-LockGlobalNp
unfolding answered
returns-in-LockGlobalNp c =
    as_call c.args.self.now c.lock-in-LockGlobalNp.new.self _ [] _ c.args.t (listed c.args.ns) _ _ c.in-LockGlobalNp.is c.requires.gifts c.lock-in-LockGlobalNp.ensures

pub returns-in-UnlockGlobalNp : goal.returns-in-UnlockGlobalNp
unfolding answered
returns-in-UnlockGlobalNp c =
    as_call c.args.self.now c.unlock-in-UnlockGlobalNp.new.self _ c.unlock-in-UnlockGlobalNp.new.gifts _ c.args.t (listed c.args.ns) _ _ c.in-UnlockGlobalNp.is refl c.unlock-in-UnlockGlobalNp.ensures
