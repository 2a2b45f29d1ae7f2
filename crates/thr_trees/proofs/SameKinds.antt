-- Two kinds are the same where the test says so.
use Rattle.std.proofs.Common.{◌≡◌, true, refl}
use Rattle.thr_text.specs.declared.object.Object.{Object}
use Rattle.thr_text.specs.declared.object.Object.TheVariants as object
use Rattle.thr_text.specs.NameFaults.{same_kind}

shared_is : (k : Object) → same_kind object.Shared k ≡ true → object.Shared ≡ k
shared_is object.Shared e = refl
shared_is _ e = absurd cc

exception_is : (k : Object) → same_kind object.Exception k ≡ true → object.Exception ≡ k
exception_is object.Exception e = refl
exception_is _ e = absurd cc

mutex_is : (k : Object) → same_kind object.Mutex k ≡ true → object.Mutex ≡ k
mutex_is object.Mutex e = refl
mutex_is _ e = absurd cc

mutexattr_is : (k : Object) → same_kind object.Mutexattr k ≡ true → object.Mutexattr ≡ k
mutexattr_is object.Mutexattr e = refl
mutexattr_is _ e = absurd cc

cond_is : (k : Object) → same_kind object.Cond k ≡ true → object.Cond ≡ k
cond_is object.Cond e = refl
cond_is _ e = absurd cc

attr_is : (k : Object) → same_kind object.Attr k ≡ true → object.Attr ≡ k
attr_is object.Attr e = refl
attr_is _ e = absurd cc

key_is : (k : Object) → same_kind object.Key k ≡ true → object.Key ≡ k
key_is object.Key e = refl
key_is _ e = absurd cc

once_is : (k : Object) → same_kind object.Once k ≡ true → object.Once ≡ k
once_is object.Once e = refl
once_is _ e = absurd cc

pipe_is : (k : Object) → same_kind object.Pipe k ≡ true → object.Pipe ≡ k
pipe_is object.Pipe e = refl
pipe_is _ e = absurd cc

routine_is : (k : Object) → same_kind object.Routine k ≡ true → object.Routine ≡ k
routine_is object.Routine e = refl
routine_is _ e = absurd cc

pub same_is : (k l : Object) → same_kind k l ≡ true → k ≡ l
same_is object.Shared l e = shared_is l e
same_is object.Exception l e = exception_is l e
same_is object.Mutex l e = mutex_is l e
same_is object.Mutexattr l e = mutexattr_is l e
same_is object.Cond l e = cond_is l e
same_is object.Attr l e = attr_is l e
same_is object.Key l e = key_is l e
same_is object.Once l e = once_is l e
same_is object.Pipe l e = pipe_is l e
same_is object.Routine l e = routine_is l e

pub is_same : (k : Object) → same_kind k k ≡ true
is_same object.Shared = refl
is_same _ = refl
