-- How many lines a legal history has, which threads they are of, and how long its journal's text is.
use Rattle.std.proofs.Common.{◌≡◌, ℕ, zero, suc, ◌+◌, ◌*◌, ◌≤◌, ◌<◌, ℤ, Bool, true, false, ◌&&◌, List, [], ◌∷◌, ◌++◌, map, take, replicate, length, length-append, codes, Option, Some, None, refl, sym, ap, subst, cond, arith}
use Rattle.std.specs.Prelude.{nat_lt, nat_le, ◌==◌, is_some}
use Rattle.std.specs.List.{list_all, filter}
use Rattle.std.specs.Fmt.{decimal, signed_decimal}
use Rattle.std.proofs.lemmas.Bool.{and_parts, leb-true, false≢true}
use Rattle.std.proofs.lemmas.Bool.Decides.{nat_tests}
use Rattle.std.proofs.lemmas.List.{length-map}
use Rattle.thr_values.specs.Words.{call_word}
use Rattle.thr_values.specs.declared.number.NameId.{NameId}
use Rattle.thr_values.specs.declared.number.Tid.{Tid}
use Rattle.thr_values.specs.declared.call.Arg.{Arg}
use Rattle.thr_values.specs.declared.call.Arg.TheVariants as arg
use Rattle.thr_values.specs.declared.call.CallWord.{CallWord}
use Rattle.thr_values.specs.declared.event.Stop.{Stop}
use Rattle.thr_values.specs.declared.exception.Exc.{Exc}
use Rattle.thr_values.specs.declared.exception.Exc.TheVariants.{Address, Status}
use Rattle.thr_values.specs.declared.history.Entry.{Entry}
use Rattle.thr_values.specs.declared.history.What.{What}
use Rattle.thr_values.specs.declared.history.What.TheVariants as what
use Rattle.thr_values.specs.declared.history.Who.{Who}
use Rattle.thr_values.specs.declared.history.Who.TheVariants as who
use Rattle.thr_values.specs.declared.reply.Reply.{Reply}
use Rattle.thr_syntax.specs.declared.dce.DceCall.{DceCall}
use Rattle.thr_syntax.specs.declared.dce.DceCall.TheVariants as dce
use Rattle.thr_syntax.specs.declared.tree.Item.{Item}
use Rattle.thr_syntax.specs.declared.tree.Script.{Script}
use Rattle.thr_syntax.specs.Canon.{scope_in, item_words, script_words}
use Rattle.thr_syntax.specs.Lines.{joined, item_lines, lines_of}
use Rattle.thr_syntax.specs.Spelling.{form_words}
use Rattle.thr_text.specs.Journals.{Names, reply_word, exception_words, gift_word, arg_words, args_words, what_words, who_word, numbered_line, numbered, text}
use Rattle.thr_text.specs.Reading.{Formed}
use Rattle.thr_limits.specs.Limits.{is_shallow, has_few_locals, is_in_range, has_few_names, has_few_lines, has_short_lines}
use Rattle.thr_limits.proofs.FormedLimits.{formed_within}
use Rattle.thr_verdict.specs.Places.{fits_32}
use Rattle.thr_verdict.specs.FormedJournals.{is_formed_stop}
use Rattle.thr_widths.proofs.LineWidths.{width, line_width, width_append, short_decimal}
use Rattle.thr_widths.proofs.NameWidths.{AreShort, short_at, names_short}
use Rattle.thr_widths.proofs.CallWidths.{fixed_short}
use Rattle.thr_widths.proofs.JournalWidths.{text_width}
use Rattle.thr_remainder.specs.Calls.{Part, Name, Value, Word, shape_of, filled, arguments}
use Rattle.thr_remainder.specs.Remainders.{Remainder}
use Rattle.thr_parts.specs.declared.thread.Thread.{Thread}
use Rattle.thr_parts.specs.Tables.{Table, get, IsCanonical}
use Rattle.thr_parts.specs.Rows.{most, thread}
use Rattle.thr_parts.specs.Threads.{is_live, live}
use Rattle.thr_parts.proofs.EntryLaws.{get_first, get_behind}
use Rattle.thr_model.specs.Canonical.{IsCanonicalState}
use Rattle.thr_model.specs.States.{State}
use Rattle.thr_model.specs.Histories.{Execution, History, opened, then_event, StopsWith, Legal, stop_with, goes_on, limit_of, stop_at}
use Rattle.thr_model.proofs.StateTables.{canonical-state}
use Rattle.thr_laws.specs.Lines.{is_by, with_line, lines_of_thread}
use Rattle.thr_counts.proofs.Limits.{formed_below}
use Rattle.thr_counts.proofs.Numbered.{AreBelow, numbers_given}
use Rattle.thr_counts.proofs.ThreadNumbers.{numbers}
use Rattle.thr_waiting.proofs.Few.{history_few}
use Rattle.thr_event_lines.proofs.FewLines.{event_few}
use Rattle.thr_routed.specs.Courses.{HasClauses}
use Rattle.thr_routed.specs.Reaching.{IsRight}
use Rattle.thr_routed.proofs.Reading.{IsLife}
use Rattle.thr_routed.proofs.ReturnSteps.{returns_leave_none}
use Rattle.thr_routed.proofs.Standing.{right_ways}
use Rattle.thr_routed.proofs.StaySound.{history_lives}
use Rattle.thr_routed.proofs.Tries.{tries_clean}
use Rattle.thr_sizes.proofs.Values.{Fits, AllFit, ExcFits}
use Rattle.thr_sizes.proofs.Fitting.{reply_bytes, CallFits, LineFits}
use Rattle.thr_sizes.proofs.Parts.{short_number, any_twenty, sorted_parts}
use Rattle.thr_sizes.proofs.Turns.{WhoFits, EntriesFit}
use Rattle.thr_sizes.proofs.Histories.{bound, HistoryFits, history_fits}

-- ---- the threads of lines

-- The thread of a line has a number of at most seven digits.
abbrev pub IsLow : Who → Type 0
IsLow (who.Thread t) = t.0 < 10000000
IsLow (who.Proc p) = Unit {0}
IsLow who.Clock = Unit {0}

abbrev pub AreLow : List Entry → Type 0
AreLow [] = Unit {0}
AreLow (e ∷ es) = IsLow e.who × AreLow es

-- ---- arguments

-- What stands at a place of a call takes so many bytes at most, with a space.
abbrev part_room : Part → ℕ
part_room (Name name) = 25
part_room (Value e) = 21
part_room (Word place) = 22

abbrev part_rooms : List Part → ℕ
part_rooms [] = 0
part_rooms (p ∷ ps) = part_room p + part_rooms ps

-- A call's line, from its word on, takes at most 103 bytes with its end, whatever it replies.
call_room : (call : DceCall) → nat_le (length (call_word (shape_of call).word) + part_rooms (shape_of call).parts + reply_bytes (shape_of call).word) 99 ≡ true
unfolding call_word shape_of
call_room (dce.AttrCreate n) = refl
call_room (dce.AttrDelete n) = refl
call_room (dce.AttrSetsched n policy) = refl
call_room (dce.AttrSetprio n e) = refl
call_room (dce.AttrSetinheritsched n inherits) = refl
call_room (dce.AttrSetstacksize n e) = refl
call_room (dce.Create v None n e) = refl
call_room (dce.Create v (Some a) n e) = refl
call_room (dce.Join e v) = refl
call_room (dce.Detach e) = refl
call_room dce.Yield = refl
call_room (dce.Cancel e) = refl
call_room dce.Testcancel = refl
call_room (dce.Setcancel on v) = refl
call_room (dce.Setasynccancel on v) = refl
call_room (dce.Setprio e f v) = refl
call_room (dce.Getprio e v) = refl
call_room (dce.Setscheduler e policy f v) = refl
call_room (dce.Getscheduler e v) = refl
call_room (dce.DelayNp e) = refl
call_room (dce.GetExpirationNp e v) = refl
call_room (dce.MutexattrCreate n) = refl
call_room (dce.MutexattrSetkindNp n kind) = refl
call_room (dce.MutexattrDelete n) = refl
call_room (dce.MutexInit n None) = refl
call_room (dce.MutexInit n (Some a)) = refl
call_room (dce.MutexDestroy n) = refl
call_room (dce.MutexLock n) = refl
call_room (dce.MutexTrylock n v) = refl
call_room (dce.MutexUnlock n) = refl
call_room dce.LockGlobalNp = refl
call_room dce.UnlockGlobalNp = refl
call_room (dce.CondInit n) = refl
call_room (dce.CondDestroy n) = refl
call_room (dce.CondWait c m) = refl
call_room (dce.CondTimedwait c m e) = refl
call_room (dce.CondSignal n) = refl
call_room (dce.CondBroadcast n) = refl
call_room (dce.Once block routine) = refl
call_room (dce.Keycreate n None) = refl
call_room (dce.Keycreate n (Some d)) = refl
call_room (dce.Setspecific n e) = refl
call_room (dce.Getspecific n v) = refl
call_room (dce.Read n v w) = refl
call_room (dce.Write n e) = refl
call_room (dce.Close n) = refl

module _ (names : Names) (short : AreShort names) where
  filled_width : (c : CallWord) (ps : List Part) (ns : List ℤ) (rest : List Arg) → AllFit ns → width (args_words names c (filled ps ns ++ rest)) ≤ part_rooms ps + width (args_words names c rest)
  filled_width c [] ns rest h = omega arith
  filled_width c (Name name ∷ ps) ns rest h = let named = short_at names name.0 short in omega (arith, named, filled_width c ps ns rest h)
  filled_width c (Word place ∷ ps) ns rest h = omega (arith, fixed_short c place, filled_width c ps ns rest h)
  filled_width c (Value e ∷ ps) (n ∷ ns) rest h = omega (arith, short_number n h.0, filled_width c ps ns rest h.1)
  filled_width c (Value e ∷ ps) [] rest h = omega (arith, filled_width c ps [] rest tt)

  taken_width : (c : CallWord) (k : ℕ) (xs : List Arg) → width (args_words names c (take k xs)) ≤ width (args_words names c xs)
  taken_width c zero xs = omega arith
  taken_width c (suc k) [] = omega arith
  taken_width c (suc k) (x ∷ xs) =
      omega (arith, width_append (arg_words names c x) (args_words names c (take k xs)), width_append (arg_words names c x) (args_words names c xs), taken_width c k xs)

  absent_width : (c : CallWord) → width (args_words names c (replicate 4 arg.Nothing)) ≡ 0
  absent_width c = refl

  arguments_width : (call : DceCall) (ns : List ℤ) → AllFit ns → width (args_words names (shape_of call).word (arguments call ns)) ≤ part_rooms (shape_of call).parts
  arguments_width call ns h =
      let c : CallWord = (shape_of call).word in
      let xs : List Arg = filled (shape_of call).parts ns ++ replicate 4 arg.Nothing in
      omega (arith, taken_width c 4 xs, filled_width c (shape_of call).parts ns (replicate 4 arg.Nothing) h, absent_width c)

  -- What a line says takes so many bytes, each word with a space or the end.
  abbrev IsWide : What → Type 0
  IsWide w = width (what_words names w) ≤ 103

  own_call : (call : DceCall) (ns : List ℤ) (y : Reply) → AllFit ns → length (reply_word y) ≤ reply_bytes (shape_of call).word → IsWide (what.Call (shape_of call).word (arguments call ns) y)
  own_call call ns y h few =
      let c : CallWord = (shape_of call).word in
      omega (
        arith,
        width_append (args_words names c (arguments call ns)) (codes "=" ∷ reply_word y ∷ []),
        arguments_width call ns h,
        leb-true (length (call_word c) + part_rooms (shape_of call).parts + reply_bytes c) 99 (call_room call),
        few,
      )

  call_wide : (c : CallWord) (args : List Arg) (y : Reply) → CallFits c args y → IsWide (what.Call c args y)
  call_wide c args y h =
      let few : length (reply_word y) ≤ reply_bytes (shape_of h.call).word = subst (λ w. length (reply_word y) ≤ reply_bytes w) (sym h.is_word) h.short in
      subst (λ a. IsWide (what.Call c a y)) h.are_arguments (subst (λ w. IsWide (what.Call w (arguments h.call h.values) y)) h.is_word (own_call h.call h.values y h.fit few))

  -- ---- other lines

  digits : (n k : ℕ) → k < 1000000000 → n ≤ k → length (decimal n) ≤ 9
  digits n k small h = short_decimal 9 n (omega arith) (omega (arith, small, h)) (omega (arith, small, h))

  exception_wide : (x : Exc) → ExcFits x → width (exception_words names x) ≤ 28
  exception_wide (Address name) h = let named = short_at names name.0 short in omega (arith, named)
  exception_wide (Status n) h = let number = short_number n h in omega (arith, number)

  gift_wide : (m : Option NameId) → length (gift_word names m) ≤ 24
  gift_wide None = omega arith
  gift_wide (Some name) = short_at names name.0 short

  thread_wide : (t k : ℕ) → k < 1000000000 → t ≤ k → length (codes "t" ++ decimal t) ≤ 10
  thread_wide t k small h = let number = digits t k small h in omega (arith, length-append (codes "t") (decimal t))

  at_line_wide : (word : List ℕ) (l k : ℕ) (v : ℤ) → length word ≤ 6 → k < 1000000000 → l ≤ k → Fits v → width (word ∷ decimal l ∷ signed_decimal v ∷ []) ≤ 103
  at_line_wide word l k v few small h f = omega (arith, few, digits l k small h, short_number v f)

  line_wide : (w : What) (k : ℕ) → k < 1000000000 → LineFits k w → IsWide w
  line_wide (what.Run t) k small h = omega (arith, thread_wide t.0 k small h)
  line_wide (what.Clock n) k small h = omega (arith, short_number n h)
  line_wide (what.Call c args y) k small h = call_wide c args y h
  line_wide (what.Ret y) k small h = omega (arith, any_twenty y h)
  line_wide (what.Gift m) k small h = omega (arith, gift_wide m)
  line_wide (what.Say v) k small h = omega (arith, short_number v h)
  line_wide (what.Set l v) k small h = at_line_wide (codes "set") l.0 k v (omega arith) small h.0 h.1
  line_wide (what.If l v) k small h = at_line_wide (codes "if") l.0 k v (omega arith) small h.0 h.1
  line_wide (what.While l v) k small h = at_line_wide (codes "while") l.0 k v (omega arith) small h.0 h.1
  line_wide (what.CallAt l v) k small h = at_line_wide (codes "call") l.0 k v (omega arith) small h.0 h.1
  line_wide (what.Return l v) k small h = at_line_wide (codes "return") l.0 k v (omega arith) small h.0 h.1
  line_wide (what.Raise n x) k small h = omega (arith, digits n k small h.0, exception_wide x h.1)
  line_wide (what.Reraise n x) k small h = omega (arith, digits n k small h.0, exception_wide x h.1)
  line_wide (what.Deliver n l) k small h = omega (arith, digits n k small h.0, digits l.0 k small h.1)
  line_wide (what.Exit n v) k small h = omega (arith, digits n k small h.0, short_number v h.1)
  line_wide (what.Try o l) k small h = omega (arith, digits o k small h.0, digits l.0 k small h.1)
  line_wide (what.Endtry o) k small h = omega (arith, digits o k small h)
  line_wide (what.Catch o n l) k small h = omega (arith, digits o k small h.0, digits n k small h.1.0, digits l.0 k small h.1.1)
  line_wide (what.Endcatch o) k small h = omega (arith, digits o k small h)
  line_wide (what.Finally o n) k small h = omega (arith, digits o k small h.0, digits n k small h.1)
  line_wide (what.Endfin o) k small h = omega (arith, digits o k small h)
  line_wide (what.Once o name) k small h = let named = short_at names name.0 short in omega (arith, digits o k small h, named)
  line_wide (what.Done o) k small h = omega (arith, digits o k small h)
  line_wide (what.Undone o n) k small h = omega (arith, digits o k small h.0, digits n k small h.1)
  line_wide (what.Destroy o name v) k small h = let named = short_at names name.0 short in omega (arith, digits o k small h.0, named, short_number v h.1)
  line_wide (what.Enddes o) k small h = omega (arith, digits o k small h)
  line_wide (what.Lost o n) k small h = omega (arith, digits o k small h.0, digits n k small h.1)
  line_wide (what.Bottom n v) k small h = omega (arith, digits n k small h.0, short_number v h.1)
  line_wide what.Pause k small h = omega arith
  line_wide (what.End v) k small h = omega (arith, short_number v h)

  -- ---- lines with their numbers

  who_wide : (w : Who) (n : ℕ) → n ≤ 16 → WhoFits n w → IsLow w → length (who_word w) ≤ 8
  who_wide (who.Proc p) n few h low =
      let number = short_decimal 2 p (omega arith) (omega (arith, few, h)) (omega (arith, few, h)) in omega (arith, number, length-append (codes "p") (decimal p))
  who_wide (who.Thread t) n few h low =
      let number = short_decimal 7 t.0 (omega arith) (omega (arith, low)) (omega (arith, low)) in omega (arith, number, length-append (codes "t") (decimal t.0))
  who_wide who.Clock n few h low = omega arith

  numbered_wide : (number : ℕ) (e : Entry) (n k : ℕ) → number < 10000000 → n ≤ 16 → k < 1000000000 → WhoFits n e.who × LineFits k e.what → IsLow e.who → length (numbered_line names number e) ≤ 120
  numbered_wide number e n k low few small h by =
      let count = short_decimal 7 number (omega arith) (omega (arith, low)) (omega (arith, low)) in
      omega (arith, line_width (decimal number) (who_word e.who ∷ what_words names e.what), count, who_wide e.who n few h.0 by, line_wide e.what k small h.1)

  pub all_short : (number n k : ℕ) (es : List Entry) → number < 10000000 → n ≤ 16 → k < 1000000000 → EntriesFit n k es → AreLow es → list_all (λ (e : Entry). nat_le (length (numbered_line names number e)) 120) es ≡ true
  all_short number n k [] low few small h by = refl
  all_short number n k (e ∷ es) low few small h by =
      both (nat_le (length (numbered_line names number e)) 120) _ (at_most (length (numbered_line names number e)) (numbered_wide number e n k low few small h.0 by.0))
      (all_short number n k es low few small h.1 by.1)
    where
      both : (a b : Bool) → a ≡ true → b ≡ true → (a && b) ≡ true
      both true b x y = y
      both false b x y = absurd (cc)

      at_most : (m : ℕ) → m ≤ 120 → nat_le m 120 ≡ true
      at_most m le = grind (arith, nat_tests)

  pub numbered_short : (number n k : ℕ) (es : List Entry) → number + length es ≤ 10000000 → n ≤ 16 → k < 1000000000 → EntriesFit n k es → AreLow es → length (numbered names number es) ≤ 120 * length es
  unfolding numbered
  numbered_short number n k [] low few small h by = omega arith
  numbered_short number n k (e ∷ es) low few small h by =
      omega (
        arith,
        length-append (numbered_line names number e) (numbered names (number + 1) es),
        numbered_wide number e n k (omega (arith, low)) few small h.0 by.0,
        numbered_short (number + 1) n k es (omega (arith, low)) few small h.1 by.1,
      )

-- ---- the lines of a script

words_counted : (names : List (List ℕ)) (items : List Item) → length (joined (map (item_words names) items)) ≡ length (joined (map item_lines items))
words_counted names [] = refl
words_counted names (i ∷ items) =
    omega (
      arith,
      length-append (item_words names i) (joined (map (item_words names) items)),
      length-append (item_lines i) (joined (map item_lines items)),
      length-map (item_lines i) (form_words (scope_in names i)),
      words_counted names items,
    )

fourth : (a b c d e f : Bool) → (a && (b && (c && (d && (e && f))))) ≡ true → e ≡ true
fourth true true true true true f h = refl
fourth true true true true false f h = absurd (cc)
fourth true true true false e f h = absurd (cc)
fourth true true false d e f h = absurd (cc)
fourth true false c d e f h = absurd (cc)
fourth false b c d e f h = absurd (cc)

pub few_lines : (s : Script) → Formed s → length (lines_of s) ≤ 20000
few_lines s h =
    let few : length (script_words s) ≤ 20000 =
    leb-true (length (script_words s)) 20000
    (fourth (list_all is_shallow s.items) (list_all has_few_locals s.items) (list_all is_in_range s.items) (has_few_names s) (has_few_lines s) (has_short_lines s) (formed_within s h)) in
    omega (arith, few, words_counted s.names s.items)

-- ---- how many lines

pub count_few : {s : Script} {n : ℕ} {x : Execution} → Formed s → History s n x → length x.entries ≤ 1001100
count_few formed opened = omega arith
count_few {s} {n} formed (then_event {x} h open_ e made m) =
    omega (arith, formed_below s x.state (length x.entries) formed open_, event_few s n x h e made m, length-append x.entries made.lines)

-- ---- the threads of lines

life_low : (s : Script) (right : IsRight s (HasClauses s) ⊥) (next u : ℕ) (o : Option Remainder) (lines : List What) → IsLife s (HasClauses s) ⊥ right next u o lines → next ≤ u → lines ≡ []
life_low s right next u None lines h le = h.1 le
life_low s right next u (Some r) lines h le = absurd (let less = h.2 in omega (arith, less, le))

no_line : (b : Bool) (w : What) (ws : List What) → with_line b w ws ≡ [] → (b ≡ false) × (ws ≡ [])
no_line true w ws e = absurd (cc)
no_line false w ws e = (refl, e)

itself : (n : ℕ) → (n == n) ≡ true
itself n = grind (arith, nat_tests)

who_low : (next most : ℕ) → next ≤ most → (w : Who) → ((u : ℕ) → next ≤ u → is_by u w ≡ false) → (t : ℕ) → is_by t w ≡ true → t < most
who_low next most le w none t by = decide (nat_lt t next) refl
  where
    below : (m n : ℕ) → nat_lt m n ≡ true → m < n
    below m n e = grind (arith, nat_tests)

    above : (m n : ℕ) → nat_lt m n ≡ false → n ≤ m
    above m n e = grind (arith, nat_tests)

    decide : (b : Bool) → nat_lt t next ≡ b → t < most
    decide true e = let less = below t next e in omega (arith, less, le)
    decide false e = absurd (false≢true (subst (λ c. c ≡ true) (none t (above t next e)) by))

low_who : (next : ℕ) → next ≤ 10000000 → (w : Who) → ((u : ℕ) → next ≤ u → is_by u w ≡ false) → IsLow w
low_who next le (who.Thread t) none = who_low next 10000000 le (who.Thread t) none t.0 (itself t.0)
low_who next le (who.Proc p) none = tt
low_who next le who.Clock none = tt

all_low : (next : ℕ) (es : List Entry) → next ≤ 10000000 → ((u : ℕ) → next ≤ u → lines_of_thread u es ≡ []) → AreLow es
all_low next [] le none = tt
all_low next (e ∷ es) le none = (
  low_who next le e.who (λ u h. (no_line (is_by u e.who) e.what (lines_of_thread u es) (none u h)).0),
  all_low next es le (λ u h. (no_line (is_by u e.who) e.what (lines_of_thread u es) (none u h)).1),
)

-- ---- the stop

abbrev FirstIsLow : List Tid → Type 0
FirstIsLow [] = Unit {0}
FirstIsLow (t ∷ ts) = t.0 < 10000000

some_there : {A : Type 0} (o : Option A) → is_some o ≡ true → (v : A) × (o ≡ Some v)
some_there None e = absurd (false≢true e)
some_there (Some v) e = (v, refl)

below_behind : (m : ℕ) (e : ℕ × Thread) (es : Table Thread) → IsCanonical (e ∷ es) → AreBelow m (e ∷ es) → AreBelow m es
below_behind m e es sorted h q is =
    let v : (th : Thread) × (get es q ≡ Some th) = some_there (get es q) is in h q (ap is_some (get_behind e es q v.0 (sorted_parts e es sorted).0 v.1))

abbrev threads_of : Table Thread → List Tid
threads_of es = map (λ (e : ℕ × Thread). thread e.0) es

either_low : (b : Bool) (e : ℕ × Thread) (rest : Table Thread) → e.0 < 10000000 → FirstIsLow (threads_of rest) → FirstIsLow (threads_of (cond b (e ∷ rest) rest))
either_low true e rest low h = low
either_low false e rest low h = h

first_low : (m : ℕ) (es : Table Thread) → m ≤ 10000000 → IsCanonical es → AreBelow m es → FirstIsLow (threads_of (filter is_live es))
first_low m [] le sorted h = tt
first_low m (e ∷ es) le sorted h =
    let less : e.0 < m = h e.0 (ap is_some (get_first e es)) in
    either_low (is_live e) e (filter is_live es) (omega (arith, less, le)) (first_low m es le (sorted_parts e es sorted).1 (below_behind m e es sorted h))

either_few : {A : Type 0} (b : Bool) (x : A) (rest : List A) (n : ℕ) → length rest ≤ n → length (cond b (x ∷ rest) rest) ≤ suc n
either_few true x rest n h = omega (arith, h)
either_few false x rest n h = omega (arith, h)

filter_few : {A : Type 0} (p : A → Bool) (xs : List A) → length (filter p xs) ≤ length xs
filter_few p [] = omega arith
filter_few p (x ∷ xs) = either_few (p x) x (filter p xs) (length xs) (filter_few p xs)

small_32 : (n : ℕ) → n < 10000000 → fits_32 n ≡ true
small_32 n h = grind (arith, nat_tests)

stop_formed : (ts : List Tid) (going full : Bool) (stop : Stop) → length ts ≤ 1024 → FirstIsLow ts → StopsWith (stop_with ts going full) stop → is_formed_stop stop ≡ true
stop_formed [] going full stop few low e = ap is_formed_stop e
stop_formed (t ∷ ts) false full stop few low e =
    subst (λ (x : Stop). is_formed_stop x ≡ true) (sym e) (both (fits_32 (length ts + 1)) (fits_32 t.0) (small_32 (length ts + 1) (omega (arith, few))) (small_32 t.0 low))
  where
    both : (a b : Bool) → a ≡ true → b ≡ true → (a && b) ≡ true
    both true b x y = y
    both false b x y = absurd (cc)
stop_formed (t ∷ ts) true true stop few low e = ap is_formed_stop e
stop_formed (t ∷ ts) true false stop few low e = ap is_formed_stop e

holds_formed : (s : Script) (st : State) (count : ℕ) (stop : Stop) → length (live st.threads) ≤ 1024 → FirstIsLow (live st.threads) → StopsWith (stop_at s st count) stop → is_formed_stop stop ≡ true
unfolding stop_at
holds_formed s st count stop few low e = stop_formed (live st.threads) (goes_on st) (nat_le (limit_of s) count) stop few low e

-- ---- legal histories

next_low : {s : Script} {n : ℕ} {x : Execution} → Formed s → History s n x → x.state.threads.next ≤ 10000000
next_low formed h = omega (arith, count_few formed h, numbers h)

entries_low : (s : Script) {n : ℕ} {x : Execution} → Formed s → History s n x → AreLow x.entries
entries_low s {x = x} formed h =
    let right : IsRight s (HasClauses s) ⊥ = right_ways s (returns_leave_none s (tries_clean s formed)) in
    all_low x.state.threads.next x.entries (next_low formed h)
    (λ u le. life_low s right x.state.threads.next u (get x.state.remainders u) (lines_of_thread u x.entries) (history_lives s (HasClauses s) ⊥ right h u) le)

low_bound : (lines count : ℕ) → lines ≤ 20000 → count ≤ 1001100 → bound lines count < 1000000000
low_bound lines count few low = omega (arith, few, low)

pub legal_few : (s : Script) (n : ℕ) (entries : List Entry) (stop : Stop) → Formed s → Legal s n entries stop → length entries ≤ 1001100
legal_few s n entries stop formed legal = subst (λ (es : List Entry). length es ≤ 1001100) legal.lines (count_few formed legal.history)

pub legal_lines : (s : Script) (n : ℕ) (entries : List Entry) (stop : Stop) → Formed s → n ≤ 16 → Legal s n entries stop → (number : ℕ) → number < 10000000
    → list_all (λ (e : Entry). nat_le (length (numbered_line s.names number e)) 120) entries ≡ true
legal_lines s n entries stop formed few legal number low =
    let x : Execution = legal.execution in
    let k : ℕ = bound (length (lines_of s)) (length x.entries) in
    let fits : HistoryFits s n x = history_fits s formed (few_lines s formed) legal.history in
    subst (λ (es : List Entry). list_all (λ (e : Entry). nat_le (length (numbered_line s.names number e)) 120) es ≡ true) legal.lines
    (all_short s.names (names_short s formed) number n k x.entries low few (low_bound (length (lines_of s)) (length x.entries) (few_lines s formed) (count_few formed legal.history)) fits.lines
    (entries_low s formed legal.history))

-- Where all pass the test, so does each.
all_at : (test : Entry → Bool) (before after : List Entry) (e : Entry) → list_all test (before ++ e ∷ after) ≡ true → test e ≡ true
all_at test [] after e h = (and_parts (test e) (list_all test after) h).0
all_at test (b ∷ before) after e h = all_at test before after e (and_parts (test b) (list_all test (before ++ e ∷ after)) h).1

low_place : (before after : List Entry) (e : Entry) → length (before ++ e ∷ after) ≤ 1001100 → length before + 1 < 10000000
low_place before after e few = omega (arith, few, length-append before (e ∷ after))

-- Each line of a legal history with its own number.
pub legal_line : (s : Script) (n : ℕ) (entries : List Entry) (stop : Stop) → Formed s → n ≤ 16 → Legal s n entries stop
    → (before after : List Entry) (e : Entry) → entries ≡ before ++ e ∷ after → length (numbered_line s.names (length before + 1) e) ≤ 120
legal_line s n entries stop formed few legal before after e parts =
    let number : ℕ = length before + 1 in
    let test = λ (x : Entry). nat_le (length (numbered_line s.names number x)) 120 in
    let low : number < 10000000 = low_place before after e (subst (λ (es : List Entry). length es ≤ 1001100) parts (legal_few s n entries stop formed legal)) in
    let all : list_all test (before ++ e ∷ after) ≡ true = subst (λ (es : List Entry). list_all test es ≡ true) parts (legal_lines s n entries stop formed few legal number low) in
    leb-true (length (numbered_line s.names number e)) 120 (all_at test before after e all)

bytes_few : (n k : ℕ) → k ≤ 120 * n → n ≤ 1001100 → k ≤ 129149640
bytes_few n k h few = omega (arith, h, few)

-- The numbers of the stop fit.
legal_ends : (s : Script) (n : ℕ) (entries : List Entry) (stop : Stop) → Formed s → Legal s n entries stop → is_formed_stop stop ≡ true
legal_ends s n entries stop formed legal =
    let x : Execution = legal.execution in
    let h : History s n x = legal.history in
    let tables : IsCanonicalState x.state = canonical-state h in
    holds_formed s x.state (length entries) stop
    (omega (arith, length-map (filter is_live x.state.threads.records) (λ (e : ℕ × Thread). thread e.0), filter_few is_live x.state.threads.records, history_few h))
    (first_low x.state.threads.next x.state.threads.records (next_low formed h) tables.records (numbers_given h)) legal.stops

-- The numbers of the lines and of the stop are bounded.
pub record LegalFits (n : ℕ) (entries : List Entry) (stop : Stop) : Type 0 where
  pub highest : ℕ
  pub small : highest < 1000000000
  pub lines : EntriesFit n highest entries
  pub low : AreLow entries
  pub ends : is_formed_stop stop ≡ true

pub legal_fits : (s : Script) (n : ℕ) (entries : List Entry) (stop : Stop) → Formed s → Legal s n entries stop → LegalFits n entries stop
legal_fits s n entries stop formed legal =
    let x : Execution = legal.execution in
    let h : History s n x = legal.history in
    let k : ℕ = bound (length (lines_of s)) (length x.entries) in
    let fits : HistoryFits s n x = history_fits s formed (few_lines s formed) h in record {
      highest = k;
      small = low_bound (length (lines_of s)) (length x.entries) (few_lines s formed) (count_few formed h);
      lines = subst (EntriesFit n k) legal.lines fits.lines;
      low = subst AreLow legal.lines (entries_low s formed h);
      ends = legal_ends s n entries stop formed legal;
    }

pub legal_text : (s : Script) (n : ℕ) (entries : List Entry) (stop : Stop) → Formed s → n ≤ 16 → Legal s n entries stop → length (text s n entries stop) ≤ 134217728
legal_text s n entries stop formed few legal =
    let x : Execution = legal.execution in
    let h : History s n x = legal.history in
    let k : ℕ = bound (length (lines_of s)) (length x.entries) in
    let count : length x.entries ≤ 1001100 = count_few formed h in
    let fits : HistoryFits s n x = history_fits s formed (few_lines s formed) h in
    let wide : length (numbered s.names 1 x.entries) ≤ 120 * length x.entries =
    numbered_short s.names (names_short s formed) 1 n k x.entries (omega (arith, count)) few (low_bound (length (lines_of s)) (length x.entries) (few_lines s formed) count) fits.lines
    (entries_low s formed h) in
    text_width s n entries stop formed few (legal_ends s n entries stop formed legal)
    (subst (λ (es : List Entry). length (numbered s.names 1 es) ≤ 129149640) legal.lines (bytes_few (length x.entries) (length (numbered s.names 1 x.entries)) wide count))
