-- The lines of `main`, and those above all routines, have no fault of names and limits.
use Rattle.std.proofs.Common.{◌≡◌, ℕ, zero, suc, ◌+◌, ◌<◌, ◌≤◌, true, false, List, [], ◌∷◌, ◌++◌, map, length, nat_le, codes, Some, None, refl, ap, ◌∙◌, arith}
use Rattle.thr_values.specs.Words.{call_word}
use Rattle.thr_values.specs.declared.call.CallWord.TheVariants as call
use Rattle.thr_text.specs.declared.word.Word.{Word}
use Rattle.thr_text.specs.declared.word.Word.TheVariants.{Name}
use Rattle.thr_text.specs.declared.head.Head.TheVariants as head
use Rattle.thr_text.specs.declared.object.Object.TheVariants as object
use Rattle.thr_text.specs.Names.{is_name, has_name_form, reserved_words, is_reserved}
use Rattle.thr_text.specs.Heads.{head_word, all_heads, head_in, head_of}
use Rattle.thr_text.specs.Slots.{call_slots, slots_of}
use Rattle.thr_text.specs.Blocks.{shape_of}
use Rattle.thr_values.specs.Exceptions.{builtin_names}
use Rattle.thr_text.specs.Tables.{Entry, builtin_entry, placed, kind_in, entries_of, is_among}
use Rattle.thr_verdict.specs.Made.{worker_text}
use Rattle.thr_made.proofs.Words.{number, create_line, while_line, add_line}
use Rattle.thr_made.proofs.Lines.{word, named, main_rest, main_lines, creates_above}
use Rattle.thr_made.proofs.Workers.{Known, routine_of, local_i}
use Rattle.thr_made.proofs.Clean.{HasNoFault, Clean, clean_line, clean_plain, clean_end, no_second}

abbrev own : List (List ℕ)
own = codes "a" ∷ codes "i" ∷ codes "v" ∷ []

local_v : (whole : List (List Word)) (k : Known whole) (above : List (List Word)) → HasNoFault whole (record { lines = above; locals = codes "a" ∷ codes "i" ∷ []; depth = 1 }) (named (codes "local") (codes "v"))
unfolding call_word has_name_form reserved_words is_reserved head_word all_heads head_in head_of call_slots slots_of shape_of placed
local_v whole k above = record {
  again = rw k.v refl;
  second = no_second head.Local refl refl _ refl above;
  declared = refl;
  used = refl;
  within = refl;
}

init_m : (whole : List (List Word)) (k : Known whole) (above : List (List Word)) → HasNoFault whole (record { lines = above; locals = own; depth = 1 }) (Name (codes "pthread_mutex_init") ∷ Name (codes "m") ∷ Name (codes "default") ∷ [])
unfolding call_word has_name_form reserved_words is_reserved head_word all_heads head_in head_of call_slots slots_of shape_of placed
init_m whole k above = record {
  again = refl;
  second = no_second (head.Dce call.MutexInit) refl refl _ refl above;
  declared = rw k.m refl;
  used = rw k.m refl;
  within = refl;
}

set_i : (whole : List (List Word)) (k : Known whole) (above : List (List Word)) → HasNoFault whole (record { lines = above; locals = own; depth = 1 }) (Name (codes "set") ∷ Name (codes "i") ∷ number 2 ∷ [])
unfolding call_word has_name_form reserved_words is_reserved head_word all_heads head_in head_of call_slots slots_of shape_of placed
set_i whole k above = record {
  again = refl;
  second = no_second (head.Set) refl refl _ refl above;
  declared = refl;
  used = refl;
  within = refl;
}

while_at_most : (whole : List (List Word)) (k : Known whole) (above : List (List Word)) (z : ℕ) → HasNoFault whole (record { lines = above; locals = own; depth = 1 }) (while_line (codes "<=") z)
unfolding call_word has_name_form reserved_words is_reserved head_word all_heads head_in head_of call_slots slots_of shape_of placed
while_at_most whole k above z = record {
  again = refl;
  second = no_second (head.While) refl refl _ refl above;
  declared = refl;
  used = refl;
  within = refl;
}

join_i : (whole : List (List Word)) (k : Known whole) (above : List (List Word)) → HasNoFault whole (record { lines = above; locals = own; depth = 2 }) (Name (codes "pthread_join") ∷ Name (codes "i") ∷ Name (codes "v") ∷ [])
unfolding call_word has_name_form reserved_words is_reserved head_word all_heads head_in head_of call_slots slots_of shape_of placed
join_i whole k above = record {
  again = refl;
  second = no_second (head.Dce call.Join) refl refl _ refl above;
  declared = refl;
  used = refl;
  within = refl;
}

detach_i : (whole : List (List Word)) (k : Known whole) (above : List (List Word)) → HasNoFault whole (record { lines = above; locals = own; depth = 2 }) (Name (codes "pthread_detach") ∷ Name (codes "i") ∷ [])
unfolding call_word has_name_form reserved_words is_reserved head_word all_heads head_in head_of call_slots slots_of shape_of placed
detach_i whole k above = record {
  again = refl;
  second = no_second (head.Dce call.Detach) refl refl _ refl above;
  declared = refl;
  used = refl;
  within = refl;
}

add_i : (whole : List (List Word)) (k : Known whole) (above : List (List Word)) → HasNoFault whole (record { lines = above; locals = own; depth = 2 }) (add_line (codes "i") 1)
unfolding call_word has_name_form reserved_words is_reserved head_word all_heads head_in head_of call_slots slots_of shape_of placed
add_i whole k above = record {
  again = refl;
  second = no_second (head.Set) refl refl _ refl above;
  declared = refl;
  used = refl;
  within = refl;
}

end_while : (whole : List (List Word)) (k : Known whole) (above : List (List Word)) → HasNoFault whole (record { lines = above; locals = own; depth = 2 }) (word (codes "end"))
unfolding call_word has_name_form reserved_words is_reserved head_word all_heads head_in head_of call_slots slots_of shape_of placed
end_while whole k above = record {
  again = refl;
  second = no_second (head.End) refl refl _ refl above;
  declared = refl;
  used = refl;
  within = refl;
}

end_main : (whole : List (List Word)) (k : Known whole) (above : List (List Word)) → HasNoFault whole (record { lines = above; locals = own; depth = 1 }) (word (codes "end"))
unfolding call_word has_name_form reserved_words is_reserved head_word all_heads head_in head_of call_slots slots_of shape_of placed
end_main whole k above = record {
  again = refl;
  second = no_second (head.End) refl refl _ refl above;
  declared = refl;
  used = refl;
  within = refl;
}

create_one : (whole : List (List Word)) (k : Known whole) (above : List (List Word)) (w : List ℕ) → is_name w ≡ true → is_among own w ≡ false → kind_in (entries_of whole) w ≡ Some object.Routine
    → HasNoFault whole (record { lines = above; locals = own; depth = 1 }) (create_line w)
unfolding call_word has_name_form reserved_words is_reserved head_word all_heads head_in head_of call_slots slots_of shape_of placed
create_one whole k above w n o e = record {
  again = refl;
  second = no_second (head.Dce call.Create) refl refl _ refl above;
  declared = rw (n, o, e) refl;
  used = rw (n, o, e) refl;
  within = refl;
}

-- ---- `main`

-- Names of workers as `main` finds them.
pub record IsOfWorkers (whole : List (List Word)) (w : List ℕ) : Type 0 where
  pub name : is_name w ≡ true
  pub other : is_among own w ≡ false
  pub kind : kind_in (entries_of whole) w ≡ Some object.Routine

abbrev pub AreOfWorkers : List (List Word) → ℕ → ℕ → Type 0
AreOfWorkers whole i count = (n : ℕ) → i ≤ n → n < i + count → IsOfWorkers whole (worker_text n)

module _ (whole : List (List Word)) (k : Known whole) (declared : List Entry) where
  clean_rest : (z : ℕ) → Clean whole own 1 declared (main_rest z)
  unfolding call_word has_name_form reserved_words is_reserved head_word all_heads head_in head_of call_slots slots_of shape_of placed
  clean_rest z =
      clean_plain whole own 1 declared _ _ refl (λ above. set_i whole k above)
      (clean_plain whole own 1 declared _ _ refl (λ above. while_at_most whole k above z)
      (clean_plain whole own 2 declared _ _ refl (λ above. join_i whole k above)
      (clean_plain whole own 2 declared _ _ refl (λ above. detach_i whole k above)
      (clean_plain whole own 2 declared _ _ refl (λ above. add_i whole k above)
      (clean_plain whole own 2 declared _ _ refl (λ above. end_while whole k above)
      (clean_plain whole own 1 declared _ _ refl (λ above. end_main whole k above)
      (clean_end whole own 0 declared)))))))

  clean_creates : (i count : ℕ) (rest : List (List Word)) → AreOfWorkers whole i count → Clean whole own 1 declared rest → Clean whole own 1 declared (creates_above i count rest)
  unfolding creates_above call_word head_word all_heads head_in head_of call_slots slots_of shape_of placed
  clean_creates i zero rest h below = below
  clean_creates i (suc count) rest h below =
      let w = h i (omega arith) (omega arith) in
      clean_plain whole own 1 declared (create_line (worker_text i)) (creates_above (i + 1) count rest) refl
      (λ above. create_one whole k above (worker_text i) w.name w.other w.kind)
      (clean_creates (i + 1) count rest (λ n a b. h n (omega arith) (omega arith)) below)

pub clean_main : (whole : List (List Word)) (k : Known whole) (declared : List Entry) (locals : List (List ℕ)) (threads : ℕ) → kind_in (map builtin_entry builtin_names ++ declared) (codes "main") ≡ None → nat_le 1000 (length declared) ≡ false
    → AreOfWorkers whole 1 threads → Clean whole locals 0 declared (main_lines threads)
unfolding call_word has_name_form reserved_words is_reserved head_word all_heads head_in head_of call_slots slots_of shape_of placed
clean_main whole k declared locals threads new few workers =
    let now : List Entry = declared ++ (codes "main", object.Routine) ∷ [] in
    clean_line whole locals 0 declared _ _ (λ above e. routine_of whole k above locals (codes "main") (ap (λ (d : List Entry). kind_in (map builtin_entry builtin_names ++ d) (codes "main")) e ∙ new) (ap (λ (d : List Entry). nat_le 1000 (length d)) e ∙ few))
    (clean_plain whole (codes "a" ∷ []) 1 now _ _ refl (λ above. local_i whole k above)
    (clean_plain whole (codes "a" ∷ codes "i" ∷ []) 1 now _ _ refl (λ above. local_v whole k above)
    (clean_plain whole own 1 now _ _ refl (λ above. init_m whole k above)
    (clean_creates whole k now 1 threads (main_rest (threads + 1)) workers (clean_rest whole k now (threads + 1))))))
