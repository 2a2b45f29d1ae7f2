-- The lines of workers have no fault of names and limits.
use Rattle.std.proofs.Common.{◌≡◌, ℕ, ◌+◌, ◌-◌, false, List, [], ◌∷◌, ◌++◌, map, length, nat_le, codes, Some, None, refl, ap, ◌∙◌}
use Rattle.std.specs.Prelude.{nat_lt}
use Rattle.thr_values.specs.Words.{call_word}
use Rattle.thr_values.specs.declared.call.CallWord.TheVariants as call
use Rattle.thr_text.specs.declared.word.Word.{Word}
use Rattle.thr_text.specs.declared.word.Word.TheVariants.{Name, Mark}
use Rattle.thr_text.specs.declared.head.Head.TheVariants as head
use Rattle.thr_text.specs.declared.object.Object.TheVariants as object
use Rattle.thr_text.specs.Names.{has_name_form, reserved_words, is_reserved}
use Rattle.thr_text.specs.Heads.{head_word, all_heads, head_in, head_of}
use Rattle.thr_text.specs.Slots.{call_slots, slots_of}
use Rattle.thr_text.specs.Blocks.{shape_of}
use Rattle.thr_values.specs.Exceptions.{builtin_names}
use Rattle.thr_text.specs.Tables.{Entry, builtin_entry, placed, kind_in, entries_of, declarations}
use Rattle.thr_made.proofs.Words.{number, routine_line, while_line, add_line}
use Rattle.thr_made.proofs.Lines.{word, named, worker_lines}
use Rattle.thr_made.proofs.Clean.{HasNoFault, Clean, clean_line, clean_plain, no_second}

-- What names stand for in the whole script.
pub record Known (whole : List (List Word)) : Type 0 where
  pub m : kind_in (entries_of whole) (codes "m") ≡ Some object.Mutex
  pub odd : kind_in (entries_of whole) (codes "odd") ≡ Some object.Exception
  pub total : kind_in (entries_of whole) (codes "total") ≡ Some object.Shared
  pub caught : kind_in (entries_of whole) (codes "caught") ≡ Some object.Shared
  pub a : kind_in (entries_of whole) (codes "a") ≡ None
  pub i : kind_in (entries_of whole) (codes "i") ≡ None
  pub v : kind_in (entries_of whole) (codes "v") ≡ None

abbrev own : List (List ℕ)
own = codes "a" ∷ codes "i" ∷ []

-- Lines that declare nothing, between the blocks of a routine.
module _ (whole : List (List Word)) (k : Known whole) (above : List (List Word)) (depth : ℕ) (few : nat_lt 32 depth ≡ false) where
  abbrev IsPlain : List Word → Type 0
  IsPlain words = HasNoFault whole (record { lines = above; locals = own; depth = depth }) words

  lock_line : IsPlain (named (codes "pthread_mutex_lock") (codes "m"))
  unfolding call_word has_name_form reserved_words is_reserved head_word all_heads head_in head_of call_slots slots_of shape_of placed
  lock_line = record {
    again = refl;
    second = no_second (head.Dce call.MutexLock) refl refl _ refl above;
    declared = rw k.m refl;
    used = rw k.m refl;
    within = rw few refl;
  }

  unlock_line : IsPlain (named (codes "pthread_mutex_unlock") (codes "m"))
  unfolding call_word has_name_form reserved_words is_reserved head_word all_heads head_in head_of call_slots slots_of shape_of placed
  unlock_line = record {
    again = refl;
    second = no_second (head.Dce call.MutexUnlock) refl refl _ refl above;
    declared = rw k.m refl;
    used = rw k.m refl;
    within = rw few refl;
  }

  add_total : (q : ℕ) → IsPlain (add_line (codes "total") q)
  unfolding call_word has_name_form reserved_words is_reserved head_word all_heads head_in head_of call_slots slots_of shape_of placed
  add_total q = record {
    again = refl;
    second = no_second (head.Set) refl refl _ refl above;
    declared = rw k.total refl;
    used = rw k.total refl;
    within = rw few refl;
  }

  add_caught : (q : ℕ) → IsPlain (add_line (codes "caught") q)
  unfolding call_word has_name_form reserved_words is_reserved head_word all_heads head_in head_of call_slots slots_of shape_of placed
  add_caught q = record {
    again = refl;
    second = no_second (head.Set) refl refl _ refl above;
    declared = rw k.caught refl;
    used = rw k.caught refl;
    within = rw few refl;
  }

  add_i : (q : ℕ) → IsPlain (add_line (codes "i") q)
  unfolding call_word has_name_form reserved_words is_reserved head_word all_heads head_in head_of call_slots slots_of shape_of placed
  add_i q = record {
    again = refl;
    second = no_second (head.Set) refl refl _ refl above;
    declared = refl;
    used = refl;
    within = rw few refl;
  }

  set_i : (q : ℕ) → IsPlain (Name (codes "set") ∷ Name (codes "i") ∷ number q ∷ [])
  unfolding call_word has_name_form reserved_words is_reserved head_word all_heads head_in head_of call_slots slots_of shape_of placed
  set_i q = record {
    again = refl;
    second = no_second (head.Set) refl refl _ refl above;
    declared = refl;
    used = refl;
    within = rw few refl;
  }

  raise_odd : IsPlain (named (codes "raise") (codes "odd"))
  unfolding call_word has_name_form reserved_words is_reserved head_word all_heads head_in head_of call_slots slots_of shape_of placed
  raise_odd = record {
    again = refl;
    second = no_second (head.Raise) refl refl _ refl above;
    declared = rw k.odd refl;
    used = rw k.odd refl;
    within = rw few refl;
  }

  catch_odd : IsPlain (named (codes "catch") (codes "odd"))
  unfolding call_word has_name_form reserved_words is_reserved head_word all_heads head_in head_of call_slots slots_of shape_of placed
  catch_odd = record {
    again = refl;
    second = no_second (head.Catch) refl refl _ refl above;
    declared = rw k.odd refl;
    used = rw k.odd refl;
    within = rw few refl;
  }

-- Lines that open blocks.
module _ (whole : List (List Word)) (k : Known whole) (above : List (List Word)) (depth : ℕ) (few : nat_lt 32 (depth + 1) ≡ false) where
  abbrev Opens : List Word → Type 0
  Opens words = HasNoFault whole (record { lines = above; locals = own; depth = depth }) words

  while_less : (r : ℕ) → Opens (while_line (codes "<") r)
  unfolding call_word has_name_form reserved_words is_reserved head_word all_heads head_in head_of call_slots slots_of shape_of placed
  while_less r = record {
    again = refl;
    second = no_second (head.While) refl refl _ refl above;
    declared = refl;
    used = refl;
    within = rw few refl;
  }

  try_line : Opens (word (codes "try"))
  unfolding call_word has_name_form reserved_words is_reserved head_word all_heads head_in head_of call_slots slots_of shape_of placed
  try_line = record {
    again = refl;
    second = no_second (head.Try) refl refl _ refl above;
    declared = refl;
    used = refl;
    within = rw few refl;
  }

  if_seventh : Opens (Name (codes "if") ∷ Mark (codes "==") ∷ Mark (codes "%") ∷ Name (codes "i") ∷ number 7 ∷ number 0 ∷ [])
  unfolding call_word has_name_form reserved_words is_reserved head_word all_heads head_in head_of call_slots slots_of shape_of placed
  if_seventh = record {
    again = refl;
    second = no_second (head.If) refl refl _ refl above;
    declared = refl;
    used = refl;
    within = rw few refl;
  }

-- Lines that close blocks.
module _ (whole : List (List Word)) (k : Known whole) (above : List (List Word)) (depth : ℕ) (few : nat_lt 32 (depth - 1) ≡ false) where
  abbrev Closes : List Word → Type 0
  Closes words = HasNoFault whole (record { lines = above; locals = own; depth = depth }) words

  end_line : Closes (word (codes "end"))
  unfolding call_word has_name_form reserved_words is_reserved head_word all_heads head_in head_of call_slots slots_of shape_of placed
  end_line = record {
    again = refl;
    second = no_second (head.End) refl refl _ refl above;
    declared = refl;
    used = refl;
    within = rw few refl;
  }

  endtry_line : Closes (word (codes "endtry"))
  unfolding call_word has_name_form reserved_words is_reserved head_word all_heads head_in head_of call_slots slots_of shape_of placed
  endtry_line = record {
    again = refl;
    second = no_second (head.Endtry) refl refl _ refl above;
    declared = refl;
    used = refl;
    within = rw few refl;
  }

-- The lines that begin a routine.
module _ (whole : List (List Word)) (k : Known whole) (above : List (List Word)) (locals : List (List ℕ)) where
  pub routine_of : (w : List ℕ) → kind_in (entries_of above) w ≡ None → nat_le 1000 (length (declarations above)) ≡ false → HasNoFault whole (record { lines = above; locals = locals; depth = 0 }) (routine_line w)
  unfolding call_word has_name_form reserved_words is_reserved head_word all_heads head_in head_of call_slots slots_of shape_of placed
  routine_of w new few = record {
    again = rw (new, k.a) refl;
    second = no_second head.Routine refl refl _ refl above;
    declared = refl;
    used = refl;
    within = rw few refl;
  }

pub local_i : (whole : List (List Word)) (k : Known whole) (above : List (List Word)) → HasNoFault whole (record { lines = above; locals = codes "a" ∷ []; depth = 1 }) (named (codes "local") (codes "i"))
unfolding call_word has_name_form reserved_words is_reserved head_word all_heads head_in head_of call_slots slots_of shape_of placed
local_i whole k above = record {
  again = rw k.i refl;
  second = no_second head.Local refl refl _ refl above;
  declared = refl;
  used = refl;
  within = refl;
}

-- ---- a worker

module _ (whole : List (List Word)) (k : Known whole) (declared : List Entry) (w : List ℕ) (r q : ℕ) (rest : List (List Word)) where
  pub clean_worker : (locals : List (List ℕ)) → kind_in (map builtin_entry builtin_names ++ declared) w ≡ None → nat_le 1000 (length declared) ≡ false → Clean whole own 0 (declared ++ (w, object.Routine) ∷ []) rest
      → Clean whole locals 0 declared (worker_lines w r q ++ rest)
  unfolding call_word has_name_form reserved_words is_reserved head_word all_heads head_in head_of call_slots slots_of shape_of placed
  clean_worker locals new few below =
      clean_line whole locals 0 declared _ _ (λ above e. routine_of whole k above locals w (ap (λ (d : List Entry). kind_in (map builtin_entry builtin_names ++ d) w) e ∙ new) (ap (λ (d : List Entry). nat_le 1000 (length d)) e ∙ few))
      (clean_plain whole (codes "a" ∷ []) 1 (declared ++ (w, object.Routine) ∷ []) _ _ refl (λ above. local_i whole k above)
      (clean_plain whole own 1 (declared ++ (w, object.Routine) ∷ []) _ _ refl (λ above. set_i whole k above 1 refl 0)
      (clean_plain whole own 1 (declared ++ (w, object.Routine) ∷ []) _ _ refl (λ above. while_less whole k above 1 refl r)
      (clean_plain whole own 2 (declared ++ (w, object.Routine) ∷ []) _ _ refl (λ above. try_line whole k above 2 refl)
      (clean_plain whole own 3 (declared ++ (w, object.Routine) ∷ []) _ _ refl (λ above. lock_line whole k above 3 refl)
      (clean_plain whole own 3 (declared ++ (w, object.Routine) ∷ []) _ _ refl (λ above. add_total whole k above 3 refl q)
      (clean_plain whole own 3 (declared ++ (w, object.Routine) ∷ []) _ _ refl (λ above. unlock_line whole k above 3 refl)
      (clean_plain whole own 3 (declared ++ (w, object.Routine) ∷ []) _ _ refl (λ above. if_seventh whole k above 3 refl)
      (clean_plain whole own 4 (declared ++ (w, object.Routine) ∷ []) _ _ refl (λ above. raise_odd whole k above 4 refl)
      (clean_plain whole own 4 (declared ++ (w, object.Routine) ∷ []) _ _ refl (λ above. end_line whole k above 4 refl)
      (clean_plain whole own 3 (declared ++ (w, object.Routine) ∷ []) _ _ refl (λ above. catch_odd whole k above 3 refl)
      (clean_plain whole own 3 (declared ++ (w, object.Routine) ∷ []) _ _ refl (λ above. lock_line whole k above 3 refl)
      (clean_plain whole own 3 (declared ++ (w, object.Routine) ∷ []) _ _ refl (λ above. add_caught whole k above 3 refl 1)
      (clean_plain whole own 3 (declared ++ (w, object.Routine) ∷ []) _ _ refl (λ above. unlock_line whole k above 3 refl)
      (clean_plain whole own 3 (declared ++ (w, object.Routine) ∷ []) _ _ refl (λ above. endtry_line whole k above 3 refl)
      (clean_plain whole own 2 (declared ++ (w, object.Routine) ∷ []) _ _ refl (λ above. add_i whole k above 2 refl 1)
      (clean_plain whole own 2 (declared ++ (w, object.Routine) ∷ []) _ _ refl (λ above. end_line whole k above 2 refl)
      (clean_plain whole own 1 (declared ++ (w, object.Routine) ∷ []) _ _ refl (λ above. end_line whole k above 1 refl)
      below))))))))))))))))))
