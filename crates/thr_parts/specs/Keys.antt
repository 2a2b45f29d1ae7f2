-- Keys: their destructors, and the values of threads (docs/machine.md, "Keys").
use Rattle.std.specs.Prelude.{ℕ, ◌==◌, Bool, false, not, if◌then◌else◌, ℤ, pos, negsuc, [], ◌∷◌, Option, Some, None}
use Rattle.std.specs.Option.{option_map, option_or}
use Rattle.thr_values.specs.declared.number.Tid.{Tid}
use Rattle.thr_values.specs.declared.number.NameId.{NameId}
use Rattle.thr_values.specs.declared.reply.Reply.{Reply}
use Rattle.thr_values.specs.declared.reply.Reply.TheVariants as reply
use Rattle.thr_parts.specs.declared.once.OnceBlock.{OnceBlock}
use Rattle.thr_parts.specs.Tables.{Table, none, get, at, has, put, put_if, cut, keep_if}
use Rattle.thr_parts.specs.Replies.{making_reply, made_reply}

-- A key that is made: its destructor, and the values of threads, of which 0 isn't kept (docs/machine.md, "Keys").
pub record Key : Type 0 where
  pub destructor : Option NameId
  pub values : Table ℤ

-- The once blocks that are run or done, and the keys that are made (docs/machine.md, "Once blocks" and "Keys").
pub record Onces : Type 0 where
  pub blocks : Table OnceBlock
  pub keys : Table Key

-- No once block is run, and no key is made (docs/machine.md, "The opening").
abbrev pub no_onces : Onces
no_onces = record { blocks = none; keys = none }

-- A reply, and once blocks and keys after it (docs/machine.md, "Keys").
pub record OncesReply : Type 0 where
  pub reply : Reply
  pub onces : Onces

-- The same once blocks with these keys.
abbrev pub with_keys : Onces → Table Key → Onces
with_keys os keys = record { blocks = os.blocks; keys = keys }

-- A key with no values.
abbrev pub new_key : Option NameId → Key
new_key destructor = record { destructor = destructor; values = none }

-- A key is made, with the destructor that is there (docs/machine.md, "Keys").
abbrev pub keycreate : Onces → NameId → Option NameId → OncesReply
keycreate os k destructor = record {
  reply = making_reply (has os.keys k.0);
  onces = with_keys os (put_if os.keys k.0 (keep_if (not (has os.keys k.0)) (Some (new_key destructor))));
}

-- ---- values

-- The number is 0.
abbrev pub is_zero : ℤ → Bool
is_zero (pos n) = n == 0
is_zero (negsuc n) = false

-- The values with this one for the thread.
abbrev pub with_value : Table ℤ → Tid → ℤ → Table ℤ
with_value values t v = if is_zero v then cut values t.0 else put values t.0 v

-- The key with this value for the thread.
abbrev pub as_valued : Tid → ℤ → Key → Key
as_valued t v k = record { destructor = k.destructor; values = with_value k.values t v }

-- A thread gives a key its value (docs/machine.md, "Keys").
abbrev pub setspecific : Onces → NameId → Tid → ℤ → OncesReply
setspecific os k t v = record {
  reply = made_reply (has os.keys k.0);
  onces = with_keys os (put_if os.keys k.0 (option_map (as_valued t v) (get os.keys k.0)));
}

-- The thread's value, which is 0 at first (docs/machine.md, "Keys").
abbrev pub value_in : Key → Tid → ℤ
value_in k t = at k.values t.0 (pos 0)

-- What asking for the thread's value replies.
abbrev pub value_reply : Option Key → Tid → Reply
value_reply None t = reply.Einval
value_reply (Some k) t = reply.Value (value_in k t)

-- A thread asks for its value of a key (docs/machine.md, "Keys").
abbrev pub getspecific : Onces → NameId → Tid → Reply
getspecific os k t = value_reply (get os.keys k.0) t

-- ---- destructors

-- A key, its destructor, and the value with which that is called.
abbrev pub DestructorCall : Type 0
DestructorCall = NameId × NameId × ℤ

-- The call of the destructor that is there with this value, unless that is 0.
abbrev pub called_with : ℕ → Option NameId → ℤ → Option DestructorCall
called_with k None v = None
called_with k (Some routine) v = if is_zero v then None else Some (record { 0 = k }, routine, v)

-- The call of a key's destructor for a thread, where it has one and the thread's value isn't 0 (docs/machine.md, "Keys").
abbrev pub call_for : Tid → ℕ × Key → Option DestructorCall
call_for t e = called_with e.0 e.1.destructor (value_in e.1 t)

-- The call of the key of least number that has one (docs/machine.md, "Keys").
unfoldable pub first_call : Tid → Table Key → Option DestructorCall
first_call t [] = None
first_call t (e ∷ es) = option_or (call_for t e) (first_call t es)

-- The keys with the value 0 for the thread at the key that is called.
abbrev pub keys_called : Table Key → Tid → Option DestructorCall → Table Key
keys_called keys t None = keys
keys_called keys t (Some c) = put_if keys c.0.0 (option_map (as_valued t (pos 0)) (get keys c.0.0))

-- Once blocks and keys after an ending thread was to call a destructor, and the call (docs/machine.md, "Keys").
pub record NextDestructor : Type 0 where
  pub onces : Onces
  pub call : Option DestructorCall

-- The destructor that an ending thread calls next; its value becomes 0 (docs/machine.md, "Keys").
abbrev pub next_destructor : Onces → Tid → NextDestructor
next_destructor os t =
    let next : Option DestructorCall = first_call t os.keys in record {
      onces = with_keys os (keys_called os.keys t next);
      call = next;
    }
