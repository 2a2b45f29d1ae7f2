-- The lines of a history, and the stop line, are read from their words as they are printed.
use Rattle.std.proofs.Common.{◌≡◌, ℕ, ◌<◌, ◌^◌, Bool, true, false, cond, List, [], ◌∷◌, ◌++◌, length, Option, Some, None, refl, sym, ap, subst, ◌∙◌, arith}
use Rattle.std.specs.Prelude.{ℤ, codes, ◌&&◌, ◌==◌, if◌then◌else◌}
use Rattle.std.specs.List.{find}
use Rattle.std.specs.Option.{option_map, option_or}
use Rattle.std.specs.Str.{bytes_eq}
use Rattle.std.specs.Fmt.{decimal, signed_decimal}
use Rattle.std.proofs.lemmas.Bool.Decides.{nat_tests}
use Rattle.std.proofs.lemmas.Slice.Eq.{bytes_eq-Decides}
use Rattle.thr_values.specs.Words.{call_word}
use Rattle.thr_values.specs.declared.number.NameId.{NameId}
use Rattle.thr_values.specs.declared.number.Line.{Line}
use Rattle.thr_values.specs.declared.number.Tid.{Tid}
use Rattle.thr_values.specs.declared.call.CallWord.{CallWord}
use Rattle.thr_values.specs.declared.call.CallWord.TheVariants as call
use Rattle.thr_values.specs.declared.call.Arg.{Arg}
use Rattle.thr_values.specs.declared.reply.Reply.{Reply}
use Rattle.thr_values.specs.declared.history.Who.{Who}
use Rattle.thr_values.specs.declared.history.Who.TheVariants as who
use Rattle.thr_values.specs.declared.history.What.{What}
use Rattle.thr_values.specs.declared.history.What.TheVariants as what
use Rattle.thr_values.specs.declared.history.Entry.{Entry}
use Rattle.thr_values.specs.declared.event.Stop.{Stop}
use Rattle.thr_values.specs.declared.event.Stop.TheVariants as stops
use Rattle.thr_syntax.specs.declared.tree.Script.{Script}
use Rattle.thr_text.specs.declared.head.Head.{Head}
use Rattle.thr_text.specs.declared.head.Head.TheVariants as head
use Rattle.thr_text.specs.Heads.{head_word, all_heads, head_in, head_of}
use Rattle.thr_text.specs.Reading.{Formed}
use Rattle.thr_text.specs.Journals.{thread_word, who_word, what_words, args_words, reply_word, stop_words}
use Rattle.thr_resolving.proofs.FormTables.{head_again}
use Rattle.thr_verdict.specs.Places.{fits_32, fits_signed}
use Rattle.thr_verdict.specs.FormedJournals.{is_processor, is_clock, is_thread, fits_what, is_formed_what, is_formed_line, is_formed_stop}
use Rattle.thr_journals.specs.declared.word.LineWord.{LineWord}
use Rattle.thr_journals.specs.declared.word.LineWord.TheVariants as word
use Rattle.thr_journals.specs.Numbers.{is_shortest, short_in}
use Rattle.thr_journals.specs.Fields.{Names, Field, word_as, both, alone, lettered, thread_in, numbered_who, who_in, value, thread}
use Rattle.thr_journals.specs.Lines.{line_word, all_words, word_in, call_of_head, call_in, said_by, called, said_with, said, dispatched, said_of, entry_of, entry, deadlock, stop}
use Rattle.thr_journal_laws.specs.Places.{IsReadAsPrinted}
use Rattle.thr_journal_laws.proofs.Shortest.{and_both, map_some}
use Rattle.thr_journal_laws.proofs.PlaceLaws.{word_read, both_read, alone_taken, alone_again, then_some, lettered_taken, lettered_again}
use Rattle.thr_journal_laws.proofs.NameLaws.{names_in}
use Rattle.thr_journal_laws.proofs.FormedPlaces.{value_formed, thread_formed, short_is, is_short, short_formed}
use Rattle.thr_journal_laws.proofs.SaidLaws.{by_thread, IsSaid, IsWorded, all_both, said_taken, again_ret, again_gift, again_say, again_set, again_if, again_while, again_call, again_return, again_raise, again_reraise, again_deliver, again_exit, again_try, again_endtry, again_catch, again_endcatch, again_finally, again_endfin, again_once, again_done, again_undone, again_destroy, again_enddes, again_lost, again_bottom, again_pause, again_end}
use Rattle.thr_journal_laws.proofs.CallLaws.{called_taken, called_again}

-- ---- the first word of what a thread says

word_by : (text : List ℕ) (x w : LineWord) (more : Option LineWord) (b : Bool) → bytes_eq text (line_word x) ≡ b → (more ≡ Some w → text ≡ line_word w) → cond b (Some x) more ≡ Some w → text ≡ line_word w
word_by text x w more true same rest f = let here : x ≡ w = cc in (bytes_eq-Decides text (line_word x)).0 same ∙ ap line_word here
word_by text x w more false other rest f = rest f

found_word : (text : List ℕ) (all : List LineWord) (w : LineWord) → find (λ x. bytes_eq text (line_word x)) all ≡ Some w → text ≡ line_word w
found_word text [] w e = absurd cc
found_word text (x ∷ all) w e = word_by text x w (find (λ y. bytes_eq text (line_word y)) all) (bytes_eq text (line_word x)) refl (found_word text all w) e

head_by : (text : List ℕ) (x h : Head) (more : Option Head) (b : Bool) → bytes_eq text (head_word x) ≡ b → (more ≡ Some h → text ≡ head_word h) → (if b then Some x else more) ≡ Some h → text ≡ head_word h
head_by text x h more true same rest f = let here : x ≡ h = cc in (bytes_eq-Decides text (head_word x)).0 same ∙ ap head_word here
head_by text x h more false other rest f = rest f

found_head : (text : List ℕ) (all : List Head) (h : Head) → head_in all text ≡ Some h → text ≡ head_word h
unfolding head_in
found_head text [] h e = absurd cc
found_head text (x ∷ all) h e = head_by text x h (head_in all text) (bytes_eq text (head_word x)) refl (found_head text all h) e

of_head : (o : Option Head) (c : CallWord) → call_of_head o ≡ Some c → o ≡ Some (head.Dce c)
of_head None c e = absurd cc
of_head (Some (head.Dce d)) c e = let same : d ≡ c = cc in ap (λ (x : CallWord). Some (head.Dce x)) same
of_head (Some head.Interface) c e = absurd cc
of_head (Some head.Limit) c e = absurd cc
of_head (Some head.Shared) c e = absurd cc
of_head (Some head.Exception) c e = absurd cc
of_head (Some head.Status) c e = absurd cc
of_head (Some head.Mutex) c e = absurd cc
of_head (Some head.Mutexattr) c e = absurd cc
of_head (Some head.Cond) c e = absurd cc
of_head (Some head.Attr) c e = absurd cc
of_head (Some head.Key) c e = absurd cc
of_head (Some head.Once) c e = absurd cc
of_head (Some head.Pipe) c e = absurd cc
of_head (Some head.Routine) c e = absurd cc
of_head (Some head.Local) c e = absurd cc
of_head (Some head.Set) c e = absurd cc
of_head (Some head.Say) c e = absurd cc
of_head (Some head.If) c e = absurd cc
of_head (Some head.Else) c e = absurd cc
of_head (Some head.While) c e = absurd cc
of_head (Some head.Try) c e = absurd cc
of_head (Some head.Catch) c e = absurd cc
of_head (Some head.CatchAll) c e = absurd cc
of_head (Some head.Finally) c e = absurd cc
of_head (Some head.Endtry) c e = absurd cc
of_head (Some head.Raise) c e = absurd cc
of_head (Some head.Reraise) c e = absurd cc
of_head (Some head.Call) c e = absurd cc
of_head (Some head.Return) c e = absurd cc
of_head (Some head.Exit) c e = absurd cc
of_head (Some head.End) c e = absurd cc

found_call : (text : List ℕ) (c : CallWord) → call_in text ≡ Some c → text ≡ call_word c
unfolding head_of head_word
found_call text c e = found_head text all_heads (head.Dce c) (of_head (head_of text) c e)

call_again : (c : CallWord) → call_in (call_word c) ≡ Some c
unfolding head_word
call_again c = ap call_of_head (head_again (head.Dce c))

no_line_word : (c : CallWord) → word_in (call_word c) ≡ None
unfolding line_word call_word
no_line_word call.AttrCreate = refl
no_line_word call.AttrDelete = refl
no_line_word call.AttrSetsched = refl
no_line_word call.AttrSetprio = refl
no_line_word call.AttrSetinheritsched = refl
no_line_word call.AttrSetstacksize = refl
no_line_word call.Create = refl
no_line_word call.Join = refl
no_line_word call.Detach = refl
no_line_word call.Yield = refl
no_line_word call.Cancel = refl
no_line_word call.Testcancel = refl
no_line_word call.Setcancel = refl
no_line_word call.Setasynccancel = refl
no_line_word call.Setprio = refl
no_line_word call.Getprio = refl
no_line_word call.Setscheduler = refl
no_line_word call.Getscheduler = refl
no_line_word call.DelayNp = refl
no_line_word call.GetExpirationNp = refl
no_line_word call.MutexattrCreate = refl
no_line_word call.MutexattrSetkindNp = refl
no_line_word call.MutexattrDelete = refl
no_line_word call.MutexInit = refl
no_line_word call.MutexDestroy = refl
no_line_word call.MutexLock = refl
no_line_word call.MutexTrylock = refl
no_line_word call.MutexUnlock = refl
no_line_word call.LockGlobalNp = refl
no_line_word call.UnlockGlobalNp = refl
no_line_word call.CondInit = refl
no_line_word call.CondDestroy = refl
no_line_word call.CondWait = refl
no_line_word call.CondTimedwait = refl
no_line_word call.CondSignal = refl
no_line_word call.CondBroadcast = refl
no_line_word call.Once = refl
no_line_word call.Keycreate = refl
no_line_word call.Setspecific = refl
no_line_word call.Getspecific = refl
no_line_word call.Read = refl
no_line_word call.Write = refl
no_line_word call.Close = refl

word_again : (w : LineWord) → word_in (line_word w) ≡ Some w
unfolding line_word
word_again word.Ret = refl
word_again word.Gift = refl
word_again word.Say = refl
word_again word.Set = refl
word_again word.If = refl
word_again word.While = refl
word_again word.Call = refl
word_again word.Return = refl
word_again word.Raise = refl
word_again word.Reraise = refl
word_again word.Deliver = refl
word_again word.Exit = refl
word_again word.Try = refl
word_again word.Endtry = refl
word_again word.Catch = refl
word_again word.Endcatch = refl
word_again word.Finally = refl
word_again word.Endfin = refl
word_again word.Once = refl
word_again word.Done = refl
word_again word.Undone = refl
word_again word.Destroy = refl
word_again word.Enddes = refl
word_again word.Lost = refl
word_again word.Bottom = refl
word_again word.Pause = refl
word_again word.End = refl

said_by_words : (s : Script) → Formed s → (v : List ℕ) (ws : List (List ℕ)) (w : What) (o : Option LineWord) (c : Option CallWord) → word_in v ≡ o → call_in v ≡ c → said_with (names_in s) o c ws ≡ Some w
    → IsSaid s (v ∷ ws) w
said_by_words s h v ws w (Some x) c e f is = subst (λ (u : List ℕ). IsSaid s (u ∷ ws) w) (sym (found_word v all_words x e)) (said_taken s h x ws w is)
said_by_words s h v ws w None (Some c) e f is = subst (λ (u : List ℕ). IsSaid s (u ∷ ws) w) (sym (found_call v c f)) (called_taken s h c ws w is)
said_by_words s h v ws w None None e f is = absurd cc

said_of_thread : (s : Script) → Formed s → (ws : List (List ℕ)) (w : What) → said (names_in s) ws ≡ Some w → IsSaid s ws w
said_of_thread s h [] w e = absurd cc
said_of_thread s h (v ∷ ws) w e = said_by_words s h v ws w (word_in v) (call_in v) refl refl e

worded : (s : Script) (w : What) → IsWorded s w → said (names_in s) (what_words s.names w) ≡ Some w
worded s w i = ap (said (names_in s)) i.words ∙ ap (λ (o : Option LineWord). said_with (names_in s) o (call_in (line_word i.word)) i.rest) (word_again i.word) ∙ i.again

said_again : (s : Script) → Formed s → (w : What) → by_thread w ≡ true → is_formed_what s w ≡ true → said (names_in s) (what_words s.names w) ≡ Some w
said_again s h (what.Run t) by e = absurd cc
said_again s h (what.Clock n) by e = absurd cc
said_again s h (what.Call c args r) by e =
    let behind : List (List ℕ) = args_words s.names c args ++ codes "=" ∷ reply_word r ∷ [] in
    ap (λ (o : Option LineWord). said_with (names_in s) o (call_in (call_word c)) behind) (no_line_word c)
    ∙ ap (λ (o : Option CallWord). said_with (names_in s) None o behind) (call_again c) ∙ called_again s h c args r e
said_again s h (what.Ret r) by e = worded s (what.Ret r) (again_ret s h r e)
said_again s h (what.Gift m) by e = worded s (what.Gift m) (again_gift s h m e)
said_again s h (what.Say z) by e = worded s (what.Say z) (again_say s h z e)
said_again s h (what.Set l z) by e = worded s (what.Set l z) (again_set s h l z e)
said_again s h (what.If l z) by e = worded s (what.If l z) (again_if s h l z e)
said_again s h (what.While l z) by e = worded s (what.While l z) (again_while s h l z e)
said_again s h (what.CallAt l z) by e = worded s (what.CallAt l z) (again_call s h l z e)
said_again s h (what.Return l z) by e = worded s (what.Return l z) (again_return s h l z e)
said_again s h (what.Raise n x) by e = worded s (what.Raise n x) (again_raise s h n x e)
said_again s h (what.Reraise n x) by e = worded s (what.Reraise n x) (again_reraise s h n x e)
said_again s h (what.Deliver n l) by e = worded s (what.Deliver n l) (again_deliver s h n l e)
said_again s h (what.Exit n z) by e = worded s (what.Exit n z) (again_exit s h n z e)
said_again s h (what.Try n l) by e = worded s (what.Try n l) (again_try s h n l e)
said_again s h (what.Endtry n) by e = worded s (what.Endtry n) (again_endtry s h n e)
said_again s h (what.Catch n m l) by e = worded s (what.Catch n m l) (again_catch s h n m l e)
said_again s h (what.Endcatch n) by e = worded s (what.Endcatch n) (again_endcatch s h n e)
said_again s h (what.Finally n m) by e = worded s (what.Finally n m) (again_finally s h n m e)
said_again s h (what.Endfin n) by e = worded s (what.Endfin n) (again_endfin s h n e)
said_again s h (what.Once n id) by e = worded s (what.Once n id) (again_once s h n id e)
said_again s h (what.Done n) by e = worded s (what.Done n) (again_done s h n e)
said_again s h (what.Undone n m) by e = worded s (what.Undone n m) (again_undone s h n m e)
said_again s h (what.Destroy n id z) by e = worded s (what.Destroy n id z) (again_destroy s h n id z e)
said_again s h (what.Enddes n) by e = worded s (what.Enddes n) (again_enddes s h n e)
said_again s h (what.Lost n m) by e = worded s (what.Lost n m) (again_lost s h n m e)
said_again s h (what.Bottom n z) by e = worded s (what.Bottom n z) (again_bottom s h n z e)
said_again s h what.Pause by e = worded s what.Pause (again_pause s)
said_again s h (what.End z) by e = worded s (what.End z) (again_end s h z e)

-- ---- who

abbrev IsWho : List ℕ → Who → Type 0
IsWho w (who.Proc p) = (w ≡ who_word (who.Proc p)) × (fits_32 p ≡ true)
IsWho w (who.Thread t) = (w ≡ who_word (who.Thread t)) × (fits_32 t.0 ≡ true)
IsWho w who.Clock = w ≡ who_word who.Clock

thread_who : (w : List ℕ) (x : Who) → option_map who.Thread (thread_in w) ≡ Some x → IsWho w x
thread_who w x e =
    let m = map_some who.Thread (thread_in w) x e in
    let n = map_some (λ (n : ℕ). let made : Tid = record { 0 = n } in made) (lettered 116 w) m.0 m.1 in
    let t = lettered_taken 116 w n.0 n.1 in
    let same : n.0 ≡ m.0.0 = ap (λ (y : Tid). y.0) n.2 in
    subst (IsWho w) m.2 (t.0 ∙ ap (λ (k : ℕ). 116 ∷ decimal k) same, subst (λ (k : ℕ). fits_32 k ≡ true) same (is_short n.0 t.1))

numbered_by : (w : List ℕ) (x : Who) (o : Option ℕ) → lettered 112 w ≡ o → numbered_who w ≡ Some x → IsWho w x
numbered_by w x (Some p) e is =
    let t = lettered_taken 112 w p e in
    let same : who.Proc p ≡ x = some_same (rw e at is) in
    subst (IsWho w) same (t.0, is_short p t.1)
  where
    some_same : {a b : Who} → Some a ≡ Some b → a ≡ b
    some_same e = cc
numbered_by w x None e is = thread_who w x (rw e at is)

who_by : (w : List ℕ) (x : Who) (b : Bool) → bytes_eq w (codes "clock") ≡ b → who_in w ≡ Some x → IsWho w x
who_by w x true clock e =
    let same : who.Clock ≡ x = some_same (rw clock at e) in
    subst (IsWho w) same ((bytes_eq-Decides w (codes "clock")).0 clock)
  where
    some_same : {a b : Who} → Some a ≡ Some b → a ≡ b
    some_same e = cc
who_by w x false other e = numbered_by w x (lettered 112 w) refl (rw other at e)

who_taken : (w : List ℕ) (x : Who) → who_in w ≡ Some x → IsWho w x
who_taken w x e = who_by w x (bytes_eq w (codes "clock")) refl e

no_clock : (letter : ℕ) (text : List ℕ) → (letter == 99) ≡ false → bytes_eq (letter ∷ text) (codes "clock") ≡ false
no_clock letter text e = by (bytes_eq (letter ∷ text) (codes "clock")) refl
  where
    is_first : (a b : ℕ) (xs ys : List ℕ) → a ∷ xs ≡ b ∷ ys → a ≡ b
    is_first a b xs ys e = cc

    clash : (a : ℕ) → a ≡ 99 → (a == 99) ≡ false → ⊥
    clash a e f = grind (arith, nat_tests)

    by : (b : Bool) → bytes_eq (letter ∷ text) (codes "clock") ≡ b → b ≡ false
    by true same = absurd (clash letter (is_first letter 99 text (codes "lock") ((bytes_eq-Decides (letter ∷ text) (codes "clock")).0 same)) e)
    by false other = refl

proc_again : (p : ℕ) → fits_32 p ≡ true → who_in (who_word (who.Proc p)) ≡ Some (who.Proc p)
proc_again p e = rw (no_clock 112 (decimal p) refl, lettered_again 112 p (short_is p e)) refl

thread_again : (t : Tid) → fits_32 t.0 ≡ true → who_in (who_word (who.Thread t)) ≡ Some (who.Thread t)
thread_again t e = rw (no_clock 116 (decimal t.0) refl, lettered_again 116 t.0 (short_is t.0 e)) refl

-- ---- a line behind its number

abbrev pub IsEntry : Script → List (List ℕ) → Entry → Type 0
IsEntry s ws e = (ws ≡ who_word e.who ∷ what_words s.names e.what) × (is_formed_line s e ≡ true)

dispatched_by : (s : Script) (v : List ℕ) (ws : List (List ℕ)) (w : What) (b : Bool) → bytes_eq v (codes "run") ≡ b → dispatched (v ∷ ws) ≡ Some w
    → (t : Tid) × (what.Run t ≡ w) × (v ∷ ws ≡ codes "run" ∷ thread_word t ∷ []) × (fits_32 t.0 ≡ true)
dispatched_by s v ws w true run e =
    let m = map_some what.Run (alone thread ws) w (rw run at e) in
    let t = alone_taken thread (λ t. thread_word t ∷ []) (λ t. fits_32 t.0 ≡ true) thread_formed ws m.0 m.1 in
    (m.0, m.2, ap (λ (u : List ℕ). u ∷ ws) ((bytes_eq-Decides v (codes "run")).0 run) ∙ ap (λ (us : List (List ℕ)). codes "run" ∷ us) t.0, t.1)
dispatched_by s v ws w false other e = absurd (let none : None ≡ Some w = rw other at e in cc)

-- who says what a thread says
pub fits_thread : (w : What) (x : Who) → by_thread w ≡ true → fits_what w x ≡ is_thread x
fits_thread (what.Run t) x e = absurd cc
fits_thread (what.Clock n) x e = absurd cc
fits_thread (what.Call c args r) x e = refl
fits_thread (what.Ret r) x e = refl
fits_thread (what.Gift m) x e = refl
fits_thread (what.Say z) x e = refl
fits_thread (what.Set l z) x e = refl
fits_thread (what.If l z) x e = refl
fits_thread (what.While l z) x e = refl
fits_thread (what.CallAt l z) x e = refl
fits_thread (what.Return l z) x e = refl
fits_thread (what.Raise n exc) x e = refl
fits_thread (what.Reraise n exc) x e = refl
fits_thread (what.Deliver n l) x e = refl
fits_thread (what.Exit n z) x e = refl
fits_thread (what.Try n l) x e = refl
fits_thread (what.Endtry n) x e = refl
fits_thread (what.Catch n m l) x e = refl
fits_thread (what.Endcatch n) x e = refl
fits_thread (what.Finally n m) x e = refl
fits_thread (what.Endfin n) x e = refl
fits_thread (what.Once n id) x e = refl
fits_thread (what.Done n) x e = refl
fits_thread (what.Undone n m) x e = refl
fits_thread (what.Destroy n id z) x e = refl
fits_thread (what.Enddes n) x e = refl
fits_thread (what.Lost n m) x e = refl
fits_thread (what.Bottom n z) x e = refl
fits_thread what.Pause x e = refl
fits_thread (what.End z) x e = refl

run_formed : (s : Script) (p : ℕ) (t : Tid) → fits_32 p ≡ true → fits_32 t.0 ≡ true → is_formed_line s (record { who = who.Proc p; what = what.Run t }) ≡ true
unfolding is_formed_what
run_formed s p t e f = all_both (fits_32 p) (fits_32 t.0) e f

clock_formed : (s : Script) (z : ℤ) → fits_signed z ≡ true → is_formed_line s (record { who = who.Clock; what = what.Clock z }) ≡ true
unfolding is_formed_what
clock_formed s z e = e

thread_formed_line : (s : Script) (t : Tid) (w : What) → by_thread w ≡ true → fits_32 t.0 ≡ true → is_formed_what s w ≡ true → is_formed_line s (record { who = who.Thread t; what = w }) ≡ true
thread_formed_line s t w by e f = all_both (fits_what w (who.Thread t)) (is_formed_what s w) (fits_thread w (who.Thread t) by ∙ e) f

dispatch_entry : (s : Script) (v : List ℕ) (p : ℕ) (ws : List (List ℕ)) (w : What) → IsWho v (who.Proc p) → dispatched ws ≡ Some w → IsEntry s (v ∷ ws) (record { who = who.Proc p; what = w })
dispatch_entry s v p [] w i e = absurd cc
dispatch_entry s v p (u ∷ us) w i e =
    let t = dispatched_by s u us w (bytes_eq u (codes "run")) refl e in
    subst (λ (y : What). IsEntry s (v ∷ u ∷ us) (record { who = who.Proc p; what = y })) t.1
    (ap (λ (a : List ℕ). a ∷ u ∷ us) i.0 ∙ ap (λ (vs : List (List ℕ)). who_word (who.Proc p) ∷ vs) t.2, run_formed s p t.0 i.1 t.3)

said_entry : (s : Script) → Formed s → (v : List ℕ) (x : Who) (ws : List (List ℕ)) (w : What) → IsWho v x → said_of (names_in s) x ws ≡ Some w → IsEntry s (v ∷ ws) (record { who = x; what = w })
said_entry s h v (who.Proc p) ws w i e = dispatch_entry s v p ws w i e
said_entry s h v who.Clock ws w i e =
    let m = map_some what.Clock (alone value ws) w e in
    let t = alone_taken value (λ z. signed_decimal z ∷ []) (λ z. fits_signed z ≡ true) value_formed ws m.0 m.1 in
    subst (λ (y : What). IsEntry s (v ∷ ws) (record { who = who.Clock; what = y })) m.2
    (ap (λ (a : List ℕ). a ∷ ws) i ∙ ap (λ (vs : List (List ℕ)). who_word who.Clock ∷ vs) t.0, clock_formed s m.0 t.1)
said_entry s h v (who.Thread t) ws w i e =
    let said = said_of_thread s h ws w e in
    (ap (λ (a : List ℕ). a ∷ ws) i.0 ∙ ap (λ (vs : List (List ℕ)). who_word (who.Thread t) ∷ vs) said.0, thread_formed_line s t w said.2 i.1 said.1)

entry_by : (s : Script) → Formed s → (v : List ℕ) (ws : List (List ℕ)) (o : Option Who) (e : Entry) → who_in v ≡ o → entry_of (names_in s) o ws ≡ Some e → IsEntry s (v ∷ ws) e
entry_by s h v ws None e f is = absurd cc
entry_by s h v ws (Some x) e f is =
    let m = map_some (λ (w : What). let made : Entry = record { who = x; what = w } in made) (said_of (names_in s) x ws) e is in
    subst (IsEntry s (v ∷ ws)) m.2 (said_entry s h v x ws m.0 (who_taken v x f) m.1)

pub entry_taken : (s : Script) → Formed s → (ws : List (List ℕ)) (e : Entry) → entry (names_in s) ws ≡ Some e → IsEntry s ws e
entry_taken s h [] e is = absurd cc
entry_taken s h (v ∷ ws) e is = entry_by s h v ws (who_in v) e refl is

made_entry : (names : Names) (x : Who) (w : What) (ws : List (List ℕ)) → who_in (who_word x) ≡ Some x → said_of names x ws ≡ Some w → entry names (who_word x ∷ ws) ≡ Some (record { who = x; what = w })
made_entry names x w ws e f = rw (e, f) refl

run_again : (s : Script) (x : Who) (t : Tid) → is_formed_line s (record { who = x; what = what.Run t }) ≡ true → entry (names_in s) (who_word x ∷ what_words s.names (what.Run t)) ≡ Some (record { who = x; what = what.Run t })
unfolding is_formed_what
run_again s (who.Proc p) t e =
    let two = and_both (fits_32 p) (fits_32 t.0) e in
    made_entry (names_in s) (who.Proc p) (what.Run t) (codes "run" ∷ thread_word t ∷ []) (proc_again p two.0)
    (ap (option_map what.Run) (alone_again thread (λ u. thread_word u ∷ []) (λ u. fits_32 u.0 ≡ true) thread_formed t two.1))
run_again s (who.Thread u) t e = absurd cc
run_again s who.Clock t e = absurd cc

clock_again : (s : Script) (x : Who) (z : ℤ) → is_formed_line s (record { who = x; what = what.Clock z }) ≡ true → entry (names_in s) (who_word x ∷ what_words s.names (what.Clock z)) ≡ Some (record { who = x; what = what.Clock z })
unfolding is_formed_what
clock_again s who.Clock z e =
    made_entry (names_in s) who.Clock (what.Clock z) (signed_decimal z ∷ []) refl
    (ap (option_map what.Clock) (alone_again value (λ y. signed_decimal y ∷ []) (λ y. fits_signed y ≡ true) value_formed z e))
clock_again s (who.Proc p) z e = absurd cc
clock_again s (who.Thread u) z e = absurd cc

by_who : (s : Script) → Formed s → (x : Who) (w : What) → by_thread w ≡ true → is_thread x ≡ true → is_formed_what s w ≡ true → entry (names_in s) (who_word x ∷ what_words s.names w) ≡ Some (record { who = x; what = w })
by_who s h (who.Thread t) w by e f = made_entry (names_in s) (who.Thread t) w (what_words s.names w) (thread_again t e) (said_again s h w by f)
by_who s h (who.Proc p) w by e f = absurd cc
by_who s h who.Clock w by e f = absurd cc

said_line_again : (s : Script) → Formed s → (x : Who) (w : What) → by_thread w ≡ true → is_formed_line s (record { who = x; what = w }) ≡ true → entry (names_in s) (who_word x ∷ what_words s.names w) ≡ Some (record { who = x; what = w })
said_line_again s h x w by e =
    let two = and_both (fits_what w x) (is_formed_what s w) e in
    by_who s h x w by (sym (fits_thread w x by) ∙ two.0) two.1

line_again : (s : Script) → Formed s → (x : Who) (w : What) → is_formed_line s (record { who = x; what = w }) ≡ true → entry (names_in s) (who_word x ∷ what_words s.names w) ≡ Some (record { who = x; what = w })
line_again s h x (what.Run t) e = run_again s x t e
line_again s h x (what.Clock z) e = clock_again s x z e
line_again s h x (what.Call c args r) e = said_line_again s h x (what.Call c args r) refl e
line_again s h x (what.Ret r) e = said_line_again s h x (what.Ret r) refl e
line_again s h x (what.Gift m) e = said_line_again s h x (what.Gift m) refl e
line_again s h x (what.Say z) e = said_line_again s h x (what.Say z) refl e
line_again s h x (what.Set l z) e = said_line_again s h x (what.Set l z) refl e
line_again s h x (what.If l z) e = said_line_again s h x (what.If l z) refl e
line_again s h x (what.While l z) e = said_line_again s h x (what.While l z) refl e
line_again s h x (what.CallAt l z) e = said_line_again s h x (what.CallAt l z) refl e
line_again s h x (what.Return l z) e = said_line_again s h x (what.Return l z) refl e
line_again s h x (what.Raise n exc) e = said_line_again s h x (what.Raise n exc) refl e
line_again s h x (what.Reraise n exc) e = said_line_again s h x (what.Reraise n exc) refl e
line_again s h x (what.Deliver n l) e = said_line_again s h x (what.Deliver n l) refl e
line_again s h x (what.Exit n z) e = said_line_again s h x (what.Exit n z) refl e
line_again s h x (what.Try n l) e = said_line_again s h x (what.Try n l) refl e
line_again s h x (what.Endtry n) e = said_line_again s h x (what.Endtry n) refl e
line_again s h x (what.Catch n m l) e = said_line_again s h x (what.Catch n m l) refl e
line_again s h x (what.Endcatch n) e = said_line_again s h x (what.Endcatch n) refl e
line_again s h x (what.Finally n m) e = said_line_again s h x (what.Finally n m) refl e
line_again s h x (what.Endfin n) e = said_line_again s h x (what.Endfin n) refl e
line_again s h x (what.Once n id) e = said_line_again s h x (what.Once n id) refl e
line_again s h x (what.Done n) e = said_line_again s h x (what.Done n) refl e
line_again s h x (what.Undone n m) e = said_line_again s h x (what.Undone n m) refl e
line_again s h x (what.Destroy n id z) e = said_line_again s h x (what.Destroy n id z) refl e
line_again s h x (what.Enddes n) e = said_line_again s h x (what.Enddes n) refl e
line_again s h x (what.Lost n m) e = said_line_again s h x (what.Lost n m) refl e
line_again s h x (what.Bottom n z) e = said_line_again s h x (what.Bottom n z) refl e
line_again s h x what.Pause e = said_line_again s h x what.Pause refl e
line_again s h x (what.End z) e = said_line_again s h x (what.End z) refl e

pub entry_again : (s : Script) → Formed s → (e : Entry) → is_formed_line s e ≡ true → entry (names_in s) (who_word e.who ∷ what_words s.names e.what) ≡ Some e
entry_again s h e is = line_again s h e.who e.what is

-- ---- the stop line

abbrev pub IsStop : List (List ℕ) → Stop → Type 0
IsStop ws st = (codes "stop" ∷ ws ≡ stop_words st) × (is_formed_stop st ≡ true)

deadlock_read : IsReadAsPrinted (both (word_as short_in) thread) (λ x. (decimal x.0 ∷ []) ++ thread_word x.1 ∷ []) (λ x. (fits_32 x.0 ≡ true) × (fits_32 x.1.0 ≡ true))
deadlock_read = both_read (word_as short_in) thread (λ n. decimal n ∷ []) (λ t. thread_word t ∷ []) (λ n. fits_32 n ≡ true) (λ t. fits_32 t.0 ≡ true) short_formed thread_formed

deadlock_taken : (ws : List (List ℕ)) (st : Stop) → deadlock ws ≡ Some st → (codes "stop" ∷ codes "deadlock" ∷ ws ≡ stop_words st) × (is_formed_stop st ≡ true)
deadlock_taken ws st e =
    let m = map_some (λ (x : ℕ × Tid). stops.Deadlock x.0 x.1) (alone (both (word_as short_in) thread) ws) st e in
    let t = alone_taken (both (word_as short_in) thread) (λ x. (decimal x.0 ∷ []) ++ thread_word x.1 ∷ []) (λ x. (fits_32 x.0 ≡ true) × (fits_32 x.1.0 ≡ true)) deadlock_read ws m.0 m.1 in
    subst (λ (y : Stop). (codes "stop" ∷ codes "deadlock" ∷ ws ≡ stop_words y) × (is_formed_stop y ≡ true)) m.2
    (ap (λ (vs : List (List ℕ)). codes "stop" ∷ codes "deadlock" ∷ vs) t.0, all_both (fits_32 m.0.0) (fits_32 m.0.1.0) t.1.0 t.1.1)

one_word : (v w : List ℕ) (x st : Stop) → bytes_eq v w ≡ true → Some x ≡ Some st → codes "stop" ∷ w ∷ [] ≡ stop_words x → is_formed_stop x ≡ true → IsStop (v ∷ []) st
one_word v w x st same e words formed =
    let is : x ≡ st = cc in
    subst (IsStop (v ∷ [])) is (ap (λ (u : List ℕ). codes "stop" ∷ u ∷ []) ((bytes_eq-Decides v w).0 same) ∙ words, formed)

bare_taken : (v : List ℕ) (st : Stop) (f l m : Bool) → bytes_eq v (codes "finished") ≡ f → bytes_eq v (codes "limit") ≡ l → bytes_eq v (codes "memory") ≡ m
    → (if f then Some stops.Finished else (if l then Some stops.Limit else (if m then Some stops.Memory else None))) ≡ Some st → IsStop (v ∷ []) st
bare_taken v st true l m ef el em e = one_word v (codes "finished") stops.Finished st ef e refl refl
bare_taken v st false true m ef el em e = one_word v (codes "limit") stops.Limit st el e refl refl
bare_taken v st false false true ef el em e = one_word v (codes "memory") stops.Memory st em e refl refl
bare_taken v st false false false ef el em e = absurd cc

stop_by : (v : List ℕ) (ws : List (List ℕ)) (st : Stop) (b : Bool) → bytes_eq v (codes "deadlock") ≡ b → stop (v ∷ ws) ≡ Some st → IsStop (v ∷ ws) st
stop_by v ws st true same e =
    let t = deadlock_taken ws st (rw same at e) in
    (ap (λ (u : List ℕ). codes "stop" ∷ u ∷ ws) ((bytes_eq-Decides v (codes "deadlock")).0 same) ∙ t.0, t.1)
stop_by v [] st false other e = bare_taken v st (bytes_eq v (codes "finished")) (bytes_eq v (codes "limit")) (bytes_eq v (codes "memory")) refl refl refl (rw other at e)
stop_by v (w ∷ ws) st false other e = absurd (some_left _ (length (w ∷ ws) == 0) (grind (arith, nat_tests)) (rw other at e))
  where
    some_left : (o : Option Stop) (b : Bool) → b ≡ false → (if b then o else None) ≡ Some st → ⊥
    some_left o true f e = cc
    some_left o false f e = cc

pub stop_taken : (ws : List (List ℕ)) (st : Stop) → stop ws ≡ Some st → IsStop ws st
stop_taken [] st e = absurd cc
stop_taken (v ∷ ws) st e = stop_by v ws st (bytes_eq v (codes "deadlock")) refl e

-- what stands behind the word `stop`
abbrev pub stop_rest : Stop → List (List ℕ)
stop_rest stops.Finished = codes "finished" ∷ []
stop_rest (stops.Deadlock n t) = codes "deadlock" ∷ decimal n ∷ thread_word t ∷ []
stop_rest stops.Limit = codes "limit" ∷ []
stop_rest stops.Memory = codes "memory" ∷ []

pub stop_split : (st : Stop) → stop_words st ≡ codes "stop" ∷ stop_rest st
stop_split stops.Finished = refl
stop_split (stops.Deadlock n t) = refl
stop_split stops.Limit = refl
stop_split stops.Memory = refl

pub stop_again : (st : Stop) → is_formed_stop st ≡ true → stop (stop_rest st) ≡ Some st
stop_again stops.Finished e = refl
stop_again (stops.Deadlock n t) e =
    ap (option_map (λ (x : ℕ × Tid). stops.Deadlock x.0 x.1))
    (alone_again (both (word_as short_in) thread) (λ x. (decimal x.0 ∷ []) ++ thread_word x.1 ∷ []) (λ x. (fits_32 x.0 ≡ true) × (fits_32 x.1.0 ≡ true)) deadlock_read (n, t) (and_both (fits_32 n) (fits_32 t.0) e))
stop_again stops.Limit e = refl
stop_again stops.Memory e = refl
