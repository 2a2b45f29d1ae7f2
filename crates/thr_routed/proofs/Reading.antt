-- In every history the lines of each thread are a course of it.
use Rattle.std.proofs.Common.{◌≡◌, ℕ, ◌≤◌, ◌<◌, ◌==◌, eqb, cond, Bool, true, false, List, [], ◌∷◌, ◌++◌, map, Option, Some, None, refl, sym, ap, ◌∙◌, arith, subst, append_assoc, append-nil}
use Rattle.std.proofs.lemmas.Bool.Decides.{nat_tests}
use Rattle.std.specs.Option.{unwrap_or}
use Rattle.thr_values.specs.declared.number.NameId.{NameId}
use Rattle.thr_values.specs.declared.number.Tid.{Tid}
use Rattle.thr_values.specs.declared.reply.Reply.{Reply}
use Rattle.thr_values.specs.declared.history.What.{What}
use Rattle.thr_values.specs.declared.history.What.TheVariants as what
use Rattle.thr_values.specs.declared.history.Entry.{Entry}
use Rattle.thr_syntax.specs.declared.tree.Script.{Script}
use Rattle.thr_remainder.specs.Places.{Ways}
use Rattle.thr_remainder.specs.Remainders.{Remainder, Move}
use Rattle.thr_laws.specs.Lines.{is_by, with_line, lines_of_thread}
use Rattle.thr_parts.specs.Tables.{Table, none, get, put, cut}
use Rattle.thr_parts.proofs.TableLaws.{get_put, get_cut}
use Rattle.thr_model.specs.States.{State}
use Rattle.thr_model.specs.Turns.{thread_line, moved}
use Rattle.thr_routed.specs.Courses.{Outline, outline, IsPassedBy, Course}
use Rattle.thr_routed.specs.Reaching.{Reached, IsRight}
use Rattle.thr_routed.specs.Sound.{of_clock, to_thread, AreCalmGifts}
use Rattle.thr_routed.proofs.Moves.{passed_line, no_line}
use Rattle.thr_routed.proofs.QuietParts.{Steps}

-- ---- lines of a thread

pub lines_append : (u : ℕ) (es fs : List Entry) → lines_of_thread u (es ++ fs) ≡ lines_of_thread u es ++ lines_of_thread u fs
lines_append u [] fs = refl
lines_append u (e ∷ es) fs = ap (with_line (is_by u e.who) e.what) (lines_append u es fs) ∙ by_line (is_by u e.who) e.what (lines_of_thread u es) (lines_of_thread u fs)
  where
    by_line : (b : Bool) (w : What) (l m : List What) → with_line b w (l ++ m) ≡ with_line b w l ++ m
    by_line true w l m = refl
    by_line false w l m = refl

same : (a b : ℕ) → a ≡ b → (a == b) ≡ true
same a b e = grind (arith, nat_tests)

differ : (a b : ℕ) → (a ≡ b → ⊥) → (a == b) ≡ false
differ a b h = grind (arith, nat_tests)

pub own_lines : (t : Tid) (ws : List What) → lines_of_thread t.0 (map (thread_line t) ws) ≡ ws
own_lines t [] = refl
own_lines t (w ∷ ws) = ap (λ b. with_line b w (lines_of_thread t.0 (map (thread_line t) ws))) (same t.0 t.0 refl) ∙ ap (λ l. w ∷ l) (own_lines t ws)

pub no_lines : (u : ℕ) (t : Tid) (ws : List What) → (u ≡ t.0 → ⊥) → lines_of_thread u (map (thread_line t) ws) ≡ []
no_lines u t [] ne = refl
no_lines u t (w ∷ ws) ne = ap (λ b. with_line b w (lines_of_thread u (map (thread_line t) ws))) (differ t.0 u (λ e. ne (sym e))) ∙ no_lines u t ws ne

equal : (a b : ℕ) (c : Bool) → eqb a b ≡ c → c ≡ true → b ≡ a
equal a b c e f = grind (arith, nat_tests)

unequal : (a b : ℕ) (c : Bool) → eqb a b ≡ c → c ≡ false → b ≡ a → ⊥
unequal a b c e f g = grind (arith, nat_tests)

same_test_true : (a b : ℕ) → (a == b) ≡ true → a ≡ b
same_test_true a b e = grind (arith, nat_tests)

pub gift_is_passed : (m : Option NameId) → IsPassedBy (what.Gift m)
gift_is_passed m = record { scopes = λ ss. refl; making = refl; carrying = refl; closing = λ i. refl; going = λ i ss. refl; pausing = refl; ending = refl }

pub call_is_passed : (word : _) (args : _) (y : Reply) → IsPassedBy (what.Call word args y)
call_is_passed word args y = record { scopes = λ ss. refl; making = refl; carrying = refl; closing = λ i. refl; going = λ i ss. refl; pausing = refl; ending = refl }

pub return_is_passed : (y : Reply) → IsPassedBy (what.Ret y)
return_is_passed y = record { scopes = λ ss. refl; making = refl; carrying = refl; closing = λ i. refl; going = λ i ss. refl; pausing = refl; ending = refl }

module _ (s : Script) (HasWays : ℕ → Ways → Type 0) (MayReturn : Type 0) (right : IsRight s HasWays MayReturn) where
  abbrev pub Ran : Option Outline → List What → Type 0
  Ran o lines = Course s HasWays MayReturn o lines

  -- A thread with this number, where this is the next one, has this left after these lines of its own.
  abbrev pub IsLife : ℕ → ℕ → Option Remainder → List What → Type 0
  IsLife next u None lines = Ran None lines × (next ≤ u → lines ≡ [])
  IsLife next u (Some r) lines = Ran (Some (outline r)) lines × Reached s r × (u < next)

  abbrev pub LivesIn : ℕ → Table Remainder → List Entry → Type 0
  LivesIn next rs entries = (u : ℕ) → IsLife next u (get rs u) (lines_of_thread u entries)

  abbrev pub Lives : State → List Entry → Type 0
  Lives st entries = LivesIn st.threads.next st.remainders entries

  -- The same of threads but this one.
  abbrev pub OthersIn : ℕ → Table Remainder → List Entry → ℕ → Type 0
  OthersIn next rs entries t = (u : ℕ) → (u ≡ t → ⊥) → IsLife next u (get rs u) (lines_of_thread u entries)

  abbrev pub Others : State → List Entry → ℕ → Type 0
  Others st entries t = OthersIn st.threads.next st.remainders entries t

  -- ---- gifts

  pub pass_one : (r : Remainder) (w : What) (lines : List What) → r.under_way ≡ None → IsPassedBy w → Ran (Some (outline r)) lines → Ran (Some (outline r)) (lines ++ w ∷ [])
  pass_one r w lines none p c = passed_line s HasWays MayReturn _ r.under_way r.scopes r.unwindings w lines none p c

  gift_more : (b : Bool) (m : Option NameId) (r : Remainder) (lines rest : List What) → (b ≡ true → r.under_way ≡ None) → ((l : List What) → Ran (Some (outline r)) l → Ran (Some (outline r)) (l ++ rest)) → Ran (Some (outline r)) lines
      → Ran (Some (outline r)) (lines ++ with_line b (what.Gift m) rest)
  gift_more true m r lines rest none more c =
      subst (λ l. Ran (Some (outline r)) l) (append_assoc lines (what.Gift m ∷ []) rest) (more (lines ++ what.Gift m ∷ []) (pass_one r (what.Gift m) lines (none refl) (gift_is_passed m) c))
  gift_more false m r lines rest none more c = more lines c

  found_same : (o : Option Remainder) (r q : Remainder) → o ≡ Some r → o ≡ Some q → q ≡ r
  found_same o r q e f = ap (λ x. unwrap_or x q) (sym f ∙ e)

  -- Gifts pass a thread by.
  pub gifts_pass : (st : State) (entries : List Entry) (u : ℕ) (r : Remainder) → get st.remainders u ≡ Some r → AreCalmGifts st entries → (lines : List What) → Ran (Some (outline r)) lines → Ran (Some (outline r)) (lines ++ lines_of_thread u entries)
  gifts_pass st [] u r e gs lines c = no_line s HasWays MayReturn (Some (outline r)) lines c
  gifts_pass st (x ∷ entries) u r e (of_clock n, gs) lines c = gifts_pass st entries u r e gs lines c
  gifts_pass st (x ∷ entries) u r e (to_thread t m calm, gs) lines c =
      gift_more (t.0 == u) m r lines (lines_of_thread u entries)
      (λ b. let q = found_same (get st.remainders u) r calm.0 e (ap (get st.remainders) (sym (same_test_true t.0 u b)) ∙ calm.1) in ap (λ (x : Remainder). x.under_way) (sym q) ∙ calm.2)
      (λ l d. gifts_pass st entries u r e gs l d) c

  -- They pass the thread by that makes them, whatever it has left.
  pub gifts_pass_by : (st : State) (entries : List Entry) (u : ℕ) (r : Remainder) → r.under_way ≡ None → AreCalmGifts st entries → (lines : List What) → Ran (Some (outline r)) lines → Ran (Some (outline r)) (lines ++ lines_of_thread u entries)
  gifts_pass_by st [] u r none gs lines c = no_line s HasWays MayReturn (Some (outline r)) lines c
  gifts_pass_by st (x ∷ entries) u r none (of_clock n, gs) lines c = gifts_pass_by st entries u r none gs lines c
  gifts_pass_by st (x ∷ entries) u r none (to_thread t m calm, gs) lines c =
      gift_more (t.0 == u) m r lines (lines_of_thread u entries) (λ b. none) (λ l d. gifts_pass_by st entries u r none gs l d) c

  nothing_there : (o : Option Remainder) (q : Remainder) → o ≡ None → o ≡ Some q → ⊥
  nothing_there o q e f = cc

  gift_none : (b : Bool) (m : Option NameId) (rest : List What) → (b ≡ true → ⊥) → rest ≡ [] → with_line b (what.Gift m) rest ≡ []
  gift_none true m rest h e = absurd (h refl)
  gift_none false m rest h e = e

  no_gifts : (st : State) (entries : List Entry) (u : ℕ) → get st.remainders u ≡ None → AreCalmGifts st entries → lines_of_thread u entries ≡ []
  no_gifts st [] u e gs = refl
  no_gifts st (x ∷ entries) u e (of_clock n, gs) = no_gifts st entries u e gs
  no_gifts st (x ∷ entries) u e (to_thread t m calm, gs) =
      gift_none (t.0 == u) m (lines_of_thread u entries) (λ b. nothing_there (get st.remainders u) calm.0 e (ap (get st.remainders) (sym (same_test_true t.0 u b)) ∙ calm.1)) (no_gifts st entries u e gs)

  same_life : (next u : ℕ) (o : Option Remainder) (l m : List What) → l ≡ m → IsLife next u o l → IsLife next u o m
  same_life next u o l m e h = subst (λ x. IsLife next u o x) e h

  gifts_life : (st : State) (more : List Entry) (next u : ℕ) (o : Option Remainder) (lines : List What) → get st.remainders u ≡ o → AreCalmGifts st more → IsLife next u o lines → IsLife next u o (lines ++ lines_of_thread u more)
  gifts_life st more next u None lines e gs h = same_life next u None lines (lines ++ lines_of_thread u more) (sym (ap (λ l. lines ++ l) (no_gifts st more u e gs) ∙ append-nil lines)) h
  gifts_life st more next u (Some r) lines e gs h = (gifts_pass st more u r e gs lines h.0, h.1, h.2)

  -- Gifts leave the lives of threads as they are.
  pub gifts_live : (st : State) (entries more : List Entry) (u : ℕ) → AreCalmGifts st more → IsLife st.threads.next u (get st.remainders u) (lines_of_thread u entries) → IsLife st.threads.next u (get st.remainders u) (lines_of_thread u (entries ++ more))
  gifts_live st entries more u gs h =
      same_life st.threads.next u (get st.remainders u) (lines_of_thread u entries ++ lines_of_thread u more) (lines_of_thread u (entries ++ more)) (sym (lines_append u entries more)) (gifts_life st more st.threads.next u (get st.remainders u) (lines_of_thread u entries) refl gs h)

  -- So do lines of another thread.
  pub others_live : (next : ℕ) (rs : Table Remainder) (entries : List Entry) (t : Tid) (ws : List What) → OthersIn next rs entries t.0 → OthersIn next rs (entries ++ map (thread_line t) ws) t.0
  others_live next rs entries t ws h u ne =
      same_life next u (get rs u) (lines_of_thread u entries) (lines_of_thread u (entries ++ map (thread_line t) ws))
      (sym (lines_append u entries (map (thread_line t) ws) ∙ ap (λ l. lines_of_thread u entries ++ l) (no_lines u t ws ne) ∙ append-nil (lines_of_thread u entries))) (h u ne)

  -- ---- a thread that moves

  put_life : (b : Bool) (next u : ℕ) (o : Option Remainder) (r : Remainder) (lines : List What) → (b ≡ true → IsLife next u (Some r) lines) → (b ≡ false → IsLife next u o lines) → IsLife next u (cond b (Some r) o) lines
  put_life true next u o r lines h k = h refl
  put_life false next u o r lines h k = k refl

  pub put_lives : (next : ℕ) (rs : Table Remainder) (entries : List Entry) (t : ℕ) (r : Remainder) → OthersIn next rs entries t → IsLife next t (Some r) (lines_of_thread t entries) → LivesIn next (put rs t r) entries
  put_lives next rs entries t r others own u =
      subst (λ o. IsLife next u o (lines_of_thread u entries)) (sym (get_put rs t u r))
      (put_life (eqb t u) next u (get rs u) r (lines_of_thread u entries)
      (λ e. subst (λ v. IsLife next v (Some r) (lines_of_thread v entries)) (sym (equal t u (eqb t u) refl e)) own)
      (λ e. others u (unequal t u (eqb t u) refl e)))

  pub cut_lives : (next : ℕ) (rs : Table Remainder) (entries : List Entry) (t : ℕ) → OthersIn next rs entries t → IsLife next t None (lines_of_thread t entries) → LivesIn next (cut rs t) entries
  cut_lives next rs entries t others own u =
      subst (λ o. IsLife next u o (lines_of_thread u entries)) (sym (get_cut rs t u))
      (cut_life (eqb t u) (get rs u)
      (λ e. subst (λ v. IsLife next v None (lines_of_thread v entries)) (sym (equal t u (eqb t u) refl e)) own)
      (λ e. others u (unequal t u (eqb t u) refl e)))
    where
      cut_life : (b : Bool) (o : Option Remainder) → (b ≡ true → IsLife next u None (lines_of_thread u entries)) → (b ≡ false → IsLife next u o (lines_of_thread u entries)) → IsLife next u (cond b None o) (lines_of_thread u entries)
      cut_life true o h k = h refl
      cut_life false o h k = k refl

  -- The thread moves on, and the others have their lives.
  pub moved_lives : (st : State) (entries : List Entry) (t : Tid) (r : Remainder) (m : Move) → Others st entries t.0 → Steps s HasWays MayReturn right r m → Ran (Some (outline r)) (lines_of_thread t.0 entries) → t.0 < st.threads.next
      → Lives (moved st t m).state (entries ++ (moved st t m).lines)
  moved_lives st entries t r m others step c lt =
      put_lives st.threads.next st.remainders (entries ++ map (thread_line t) m.lines) t.0 m.to (others_live st.threads.next st.remainders entries t m.lines others)
      (subst (λ l. Ran (Some (outline m.to)) l) (sym (lines_append t.0 entries (map (thread_line t) m.lines) ∙ ap (λ l. lines_of_thread t.0 entries ++ l) (own_lines t m.lines))) (step.goes (lines_of_thread t.0 entries) c), step.reached, lt)
