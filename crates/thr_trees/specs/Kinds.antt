-- What a script's names are the names of (docs/script.md, "Names").
use Rattle.std.specs.Prelude.{◌==◌, nat_lt, Bool, true, false, if◌then◌else◌, List, [], ◌∷◌, Option, Some, None}
use Rattle.thr_values.specs.declared.number.NameId.{NameId}
use Rattle.thr_syntax.specs.declared.tree.Item.{Item}
use Rattle.thr_syntax.specs.declared.tree.Item.TheVariants as item
use Rattle.thr_syntax.specs.declared.tree.Script.{Script}
use Rattle.thr_text.specs.declared.object.Object.{Object}
use Rattle.thr_text.specs.declared.object.Object.TheVariants as object
use Rattle.thr_text.specs.NameFaults.{same_kind}

-- The name that a declaration declares, and its kind (docs/script.md, "Names").
abbrev pub declared_by : Item → Option (NameId × Object)
declared_by (item.Interface i) = None
declared_by (item.Limit n) = None
declared_by (item.Shared name n) = Some (name, object.Shared)
declared_by (item.Exception name) = Some (name, object.Exception)
declared_by (item.Status name n) = Some (name, object.Exception)
declared_by (item.Mutex name) = Some (name, object.Mutex)
declared_by (item.MutexAttr name) = Some (name, object.Mutexattr)
declared_by (item.Cond name) = Some (name, object.Cond)
declared_by (item.Attr name) = Some (name, object.Attr)
declared_by (item.Key name) = Some (name, object.Key)
declared_by (item.Once name) = Some (name, object.Once)
declared_by (item.Pipe name n) = Some (name, object.Pipe)
declared_by (item.Routine r) = Some (r.name, object.Routine)

-- The declaration declares this name as a name of this kind.
abbrev pub declares : NameId → Object → Option (NameId × Object) → Bool
declares name kind None = false
declares name kind (Some d) = if name.0 == d.0.0 then same_kind kind d.1 else false

-- One of the declarations declares it so.
abbrev pub is_declared_as : List Item → NameId → Object → Bool
is_declared_as [] name kind = false
is_declared_as (i ∷ items) name kind = if declares name kind (declared_by i) then true else is_declared_as items name kind

-- The name is one of this kind. The first ten are the built-in exceptions (docs/script.md, "Names").
abbrev pub is_name_of : Script → Object → NameId → Bool
is_name_of s kind name = if nat_lt name.0 10 then same_kind kind object.Exception else is_declared_as s.items name kind
