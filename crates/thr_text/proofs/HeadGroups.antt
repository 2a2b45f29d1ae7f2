-- First words are found by the lengths of their texts.
use Rattle.std.proofs.Common.{◌≡◌, ℕ, Bool, true, List, [], ◌∷◌, length, get_or, Option, Some, None, refl, sym, ap, ◌∙◌, inl, inr}
use Rattle.std.specs.Prelude.{is_some}
use Rattle.std.specs.List.{list_all}
use Rattle.std.specs.Str.{bytes_eq}
use Rattle.std.proofs.lemmas.Slice.Eq.{bytes_eq-Decides}
use Rattle.thr_values.specs.declared.call.CallWord.{CallWord}
use Rattle.thr_values.specs.declared.call.CallWord.TheVariants as call
use Rattle.thr_values.specs.Words.{call_word}
use Rattle.thr_text.specs.declared.head.Head.{Head}
use Rattle.thr_text.specs.declared.head.Head.TheVariants as head
use Rattle.thr_text.specs.Heads.{head_word, all_heads, head_in, head_of}
use Rattle.thr_text.specs.Groups.{head_found, head_in_group}
use Rattle.thr_text.proofs.WordTables.{chosen, both}

-- ---- each first word is found again

call_again : (c : CallWord) → head_of (call_word c) ≡ Some (head.Dce c)
unfolding call_word head_word all_heads head_in head_of
call_again call.AttrCreate = refl
call_again call.AttrDelete = refl
call_again call.AttrSetsched = refl
call_again call.AttrSetprio = refl
call_again call.AttrSetinheritsched = refl
call_again call.AttrSetstacksize = refl
call_again call.Create = refl
call_again call.Join = refl
call_again call.Detach = refl
call_again call.Yield = refl
call_again call.Cancel = refl
call_again call.Testcancel = refl
call_again call.Setcancel = refl
call_again call.Setasynccancel = refl
call_again call.Setprio = refl
call_again call.Getprio = refl
call_again call.Setscheduler = refl
call_again call.Getscheduler = refl
call_again call.DelayNp = refl
call_again call.GetExpirationNp = refl
call_again call.MutexattrCreate = refl
call_again call.MutexattrSetkindNp = refl
call_again call.MutexattrDelete = refl
call_again call.MutexInit = refl
call_again call.MutexDestroy = refl
call_again call.MutexLock = refl
call_again call.MutexTrylock = refl
call_again call.MutexUnlock = refl
call_again call.LockGlobalNp = refl
call_again call.UnlockGlobalNp = refl
call_again call.CondInit = refl
call_again call.CondDestroy = refl
call_again call.CondWait = refl
call_again call.CondTimedwait = refl
call_again call.CondSignal = refl
call_again call.CondBroadcast = refl
call_again call.Once = refl
call_again call.Keycreate = refl
call_again call.Setspecific = refl
call_again call.Getspecific = refl
call_again call.Read = refl
call_again call.Write = refl
call_again call.Close = refl

again : (h : Head) → head_of (head_word h) ≡ Some h
unfolding head_word all_heads head_in head_of
again head.Interface = refl
again head.Limit = refl
again head.Shared = refl
again head.Exception = refl
again head.Status = refl
again head.Mutex = refl
again head.Mutexattr = refl
again head.Cond = refl
again head.Attr = refl
again head.Key = refl
again head.Once = refl
again head.Pipe = refl
again head.Routine = refl
again head.Local = refl
again head.Set = refl
again head.Say = refl
again head.If = refl
again head.Else = refl
again head.While = refl
again head.Try = refl
again head.Catch = refl
again head.CatchAll = refl
again head.Finally = refl
again head.Endtry = refl
again head.Raise = refl
again head.Reraise = refl
again head.Call = refl
again head.Return = refl
again head.Exit = refl
again head.End = refl
again (head.Dce c) = call_again c

-- ---- what is found has the text

word_of_found : (hs : List Head) (text : List ℕ) (h : Head) → head_in hs text ≡ Some h → text ≡ head_word h
unfolding head_in
word_of_found [] text h e = absurd cc
word_of_found (g ∷ hs) text h e = elim (chosen (bytes_eq text (head_word g)) (Some g) (head_in hs text) (Some h) e) [
  | inl t ↦ let s : g ≡ h = cc in (bytes_eq-Decides text (head_word g)).0 t.0 ∙ ap head_word s
  | inr f ↦ word_of_found hs text h f.1
]

found_in_all : (hs : List Head) (p : Head → Bool) → list_all p hs ≡ true → (text : List ℕ) (h : Head) → head_in hs text ≡ Some h → p h ≡ true
unfolding head_in
found_in_all [] p all text h e = absurd cc
found_in_all (g ∷ hs) p all text h e =
    let a = both (p g) (list_all p hs) all in
    elim (chosen (bytes_eq text (head_word g)) (Some g) (head_in hs text) (Some h) e) [
      | inl t ↦ let s : g ≡ h = cc in sym (ap p s) ∙ a.0
      | inr f ↦ found_in_all hs p a.1 text h f.1
    ]

abbrev pub has_each : List (List Head) → Bool
has_each groups = list_all (λ h. is_some (head_found groups (head_word h))) all_heads

told : (text : List ℕ) (quick : Option Head) → ((h : Head) → quick ≡ Some h → text ≡ head_word h) → ((h : Head) → head_of text ≡ Some h → is_some quick ≡ true) → (all : Option Head) → head_of text ≡ all → quick ≡ all
told text None only each None e = refl
told text None only each (Some h) e = absurd (let s = each h e in cc)
told text (Some g) only each all e = sym (again g) ∙ sym (ap head_of (only g refl)) ∙ e

pub found_by_length : (groups : List (List Head)) → has_each groups ≡ true → (text : List ℕ) → head_in_group groups text ≡ head_of text
unfolding head_of head_in_group
found_by_length groups each text =
    told text (head_found groups text) (λ h e. word_of_found (get_or groups (length text) []) text h e)
    (λ h e. let w = word_of_found all_heads text h e in ap (λ (t : List ℕ). is_some (head_found groups t)) w ∙ found_in_all all_heads (λ g. is_some (head_found groups (head_word g))) each text h e)
    (head_of text) refl

pub head_told : (groups : List (List Head)) (text : List ℕ) (r : Option Head) → r ≡ head_in_group groups text → has_each groups ≡ true → r ≡ head_of text
head_told groups text r answer each = answer ∙ found_by_length groups each text
