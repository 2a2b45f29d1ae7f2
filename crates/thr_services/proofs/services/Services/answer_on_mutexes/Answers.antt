use Rattle.std.proofs.Common.{[], refl}
use Rattle.thr_model.specs.Calls.{answered}
use Rattle.thr_services.specs.Answers.{listed}
use Rattle.thr_services.proofs.Known.{as_call}
use Rattle.thr_services.proofs.services.Services.answer_on_mutexes.Goals as goal

pub returns-in-MutexattrCreate : goal.returns-in-MutexattrCreate
unfolding answered
returns-in-MutexattrCreate c =
    as_call c.args.self.now c.mutexattr_create.new.self _ [] _ c.args.t (listed c.args.ns) _ _ c.in-MutexattrCreate.is refl c.mutexattr_create.ensures

pub returns-in-MutexattrSetkindNp : goal.returns-in-MutexattrSetkindNp
unfolding answered
returns-in-MutexattrSetkindNp c =
    as_call c.args.self.now c.mutexattr_setkind.new.self _ [] _ c.args.t (listed c.args.ns) _ _ c.in-MutexattrSetkindNp.is refl c.mutexattr_setkind.ensures

pub returns-in-MutexattrDelete : goal.returns-in-MutexattrDelete
unfolding answered
returns-in-MutexattrDelete c =
    as_call c.args.self.now c.mutexattr_delete.new.self _ [] _ c.args.t (listed c.args.ns) _ _ c.in-MutexattrDelete.is refl c.mutexattr_delete.ensures

pub returns-in-MutexInit : goal.returns-in-MutexInit
unfolding answered
returns-in-MutexInit c =
    as_call c.args.self.now c.mutex_init.new.self _ [] _ c.args.t (listed c.args.ns) _ _ c.in-MutexInit.is refl c.mutex_init.ensures

pub returns-in-MutexDestroy : goal.returns-in-MutexDestroy
unfolding answered
returns-in-MutexDestroy c =
    as_call c.args.self.now c.mutex_destroy.new.self _ [] _ c.args.t (listed c.args.ns) _ _ c.in-MutexDestroy.is refl c.mutex_destroy.ensures
