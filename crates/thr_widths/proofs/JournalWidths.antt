-- How many bytes the lines of a history take, and its journal.
use Rattle.std.proofs.Common.{◌≡◌, ℕ, ℤ, ◌+◌, ◌*◌, ◌<◌, ◌≤◌, Bool, true, false, ◌&&◌, List, [], ◌∷◌, ◌++◌, length, map, codes, Option, Some, None, refl, arith, length-append, if◌then◌else◌}
use Rattle.std.specs.List.{list_all, join_with_byte}
use Rattle.std.specs.Fmt.{decimal, signed_decimal}
use Rattle.std.proofs.lemmas.Bool.{leb-true, and_parts, false≢true}
use Rattle.thr_values.specs.declared.number.NameId.{NameId}
use Rattle.thr_values.specs.declared.call.CallWord.{CallWord}
use Rattle.thr_values.specs.declared.call.Arg.{Arg}
use Rattle.thr_values.specs.declared.event.Stop.{Stop}
use Rattle.thr_values.specs.declared.event.Stop.TheVariants as stops
use Rattle.thr_values.specs.declared.exception.Exc.{Exc}
use Rattle.thr_values.specs.declared.exception.Exc.TheVariants.{Address, Status}
use Rattle.thr_values.specs.declared.reply.Reply.{Reply}
use Rattle.thr_values.specs.declared.reply.Reply.TheVariants as reply
use Rattle.thr_values.specs.declared.history.Who.{Who}
use Rattle.thr_values.specs.declared.history.Who.TheVariants as who
use Rattle.thr_values.specs.declared.history.What.{What}
use Rattle.thr_values.specs.declared.history.What.TheVariants as what
use Rattle.thr_values.specs.declared.history.Entry.{Entry}
use Rattle.thr_syntax.specs.declared.tree.Script.{Script}
use Rattle.thr_syntax.specs.declared.journal.Journal.{Journal}
use Rattle.thr_syntax.specs.Lines.{joined}
use Rattle.thr_syntax.specs.Canon.{line, script_words, canon}
use Rattle.thr_text.specs.Journals.{thread_word, exception_words, reply_word, args_words, gift_word, what_words, who_word, numbered_line, numbered, stop_words, text}
use Rattle.thr_text.specs.declared.object.Object.TheVariants as object
use Rattle.thr_trees.specs.Kinds.{is_name_of}
use Rattle.thr_text.specs.Reading.{Formed}
use Rattle.thr_reading.proofs.CanonLaws.{canon_short}
use Rattle.thr_verdict.specs.Places.{places_of, fits_32, fits_64, fits_signed, have_their_form}
use Rattle.thr_verdict.specs.FormedJournals.{is_processor, is_clock, is_thread, fits_what, is_formed_reply, is_formed_exception, is_formed_what, is_formed_line, is_formed_stop, FormedJournal}
use Rattle.thr_widths.specs.Replies.{takes_a_value, may_reply, replies_so, has_its_reply}
use Rattle.thr_widths.proofs.LineWidths.{width, line_width, width_append, short_decimal, short_32, short_64, short_signed}
use Rattle.thr_widths.proofs.NameWidths.{AreShort, short_at, names_short}
use Rattle.thr_widths.proofs.CallWidths.{arguments_short, most, greatest, call_fits, reply_short, any_room}

-- ---- calls

call_width : (s : Script) (c : CallWord) (args : List Arg) (r : Reply) → AreShort s.names → have_their_form s c args ≡ true
    → width (what_words s.names (what.Call c args r)) ≤ most c + 2 + (length (reply_word r) + 1)
call_width s c args r short h =
    let filled = (and_parts _ _ h).1 in
    omega (arith, width_append (args_words s.names c args) (codes "=" ∷ reply_word r ∷ []), arguments_short s c (places_of c) args short filled)

most_of : (c : CallWord) → most c ≤ greatest (takes_a_value c)
most_of c = leb-true (most c) (greatest (takes_a_value c)) (call_fits c)

greatest_of : (b : Bool) → greatest b ≤ 94
greatest_of true = omega arith
greatest_of false = omega arith

greatest_with : (b : Bool) → b ≡ true → greatest b ≤ 86
greatest_with true e = omega arith
greatest_with false e = absurd (false≢true e)

any_call : (s : Script) (c : CallWord) (args : List Arg) (r : Reply) → AreShort s.names → have_their_form s c args ≡ true → is_formed_reply r ≡ true
    → width (what_words s.names (what.Call c args r)) ≤ 117
any_call s c args r short h f = omega (arith, call_width s c args r short h, most_of c, greatest_of (takes_a_value c), reply_short r f, any_room r)

own_reply : (s : Script) (c : CallWord) (args : List Arg) (r : Reply) → AreShort s.names → have_their_form s c args ≡ true → is_formed_reply r ≡ true
    → may_reply c r ≡ true → width (what_words s.names (what.Call c args r)) ≤ 109
own_reply s c args (reply.Value n) short h f m =
    omega (arith, call_width s c args (reply.Value n) short h, most_of c, greatest_with (takes_a_value c) m, reply_short (reply.Value n) f)
own_reply s c args r short h f m = omega (arith, call_width s c args r short h, most_of c, greatest_of (takes_a_value c), reply_short r f)

-- ---- other lines

exception_width : (s : Script) (x : Exc) → AreShort s.names → is_formed_exception s x ≡ true → width (exception_words s.names x) ≤ 28
exception_width s (Address name) short h = let named = short_at s.names name.0 short in omega (arith, named)
exception_width s (Status n) short h = let number = short_signed n h in omega (arith, number)

gift_width : (s : Script) (m : Option NameId) → AreShort s.names → length (gift_word s.names m) ≤ 24
gift_width s None short = omega arith
gift_width s (Some name) short = short_at s.names name.0 short

thread_width : (t : ℕ) → fits_32 t ≡ true → length (codes "t" ++ decimal t) ≤ 11
thread_width t h = let number = short_32 t h in omega (arith, length-append (codes "t") (decimal t))

processor_width : (p : ℕ) → fits_32 p ≡ true → length (codes "p" ++ decimal p) ≤ 11
processor_width p h = let number = short_32 p h in omega (arith, length-append (codes "p") (decimal p))

at_line_width : (word : List ℕ) (l : ℕ) (v : ℤ) → length word ≤ 6 → (fits_32 l && fits_signed v) ≡ true → width (word ∷ decimal l ∷ signed_decimal v ∷ []) ≤ 109
at_line_width word l v small h = let b = and_parts (fits_32 l) (fits_signed v) h in let a = short_32 l b.0 in let c = short_signed v b.1 in omega (arith, small, a, c)

-- What a line says takes at most 109 bytes with its end, where a call has its reply.
own_width : (s : Script) (w : What) → AreShort s.names → is_formed_what s w ≡ true → replies_so w ≡ true → width (what_words s.names w) ≤ 109
unfolding is_formed_what
own_width s (what.Run t) short h r = let a = thread_width t.0 h in omega (arith, a)
own_width s (what.Clock n) short h r = let a = short_signed n h in omega (arith, a)
own_width s (what.Call c args y) short h r = let b = and_parts (have_their_form s c args) (is_formed_reply y) h in own_reply s c args y short b.0 b.1 r
own_width s (what.Ret y) short h r = let a = reply_short y h in let b = any_room y in omega (arith, a, b)
own_width s (what.Gift m) short h r = let a = gift_width s m short in omega (arith, a)
own_width s (what.Say v) short h r = let a = short_signed v h in omega (arith, a)
own_width s (what.Set l v) short h r = at_line_width (codes "set") l.0 v (omega arith) h
own_width s (what.If l v) short h r = at_line_width (codes "if") l.0 v (omega arith) h
own_width s (what.While l v) short h r = at_line_width (codes "while") l.0 v (omega arith) h
own_width s (what.CallAt l v) short h r = at_line_width (codes "call") l.0 v (omega arith) h
own_width s (what.Return l v) short h r = at_line_width (codes "return") l.0 v (omega arith) h
own_width s (what.Raise n x) short h r =
    let b = and_parts (fits_64 n) (is_formed_exception s x) h in let a = short_64 n b.0 in let c = exception_width s x short b.1 in omega (arith, a, c)
own_width s (what.Reraise n x) short h r =
    let b = and_parts (fits_64 n) (is_formed_exception s x) h in let a = short_64 n b.0 in let c = exception_width s x short b.1 in omega (arith, a, c)
own_width s (what.Deliver n l) short h r = let b = and_parts (fits_64 n) (fits_32 l.0) h in let a = short_64 n b.0 in let c = short_32 l.0 b.1 in omega (arith, a, c)
own_width s (what.Exit n v) short h r = let b = and_parts (fits_64 n) (fits_signed v) h in let a = short_64 n b.0 in let c = short_signed v b.1 in omega (arith, a, c)
own_width s (what.Try o l) short h r = let b = and_parts (fits_64 o) (fits_32 l.0) h in let a = short_64 o b.0 in let c = short_32 l.0 b.1 in omega (arith, a, c)
own_width s (what.Endtry o) short h r = let a = short_64 o h in omega (arith, a)
own_width s (what.Catch o n l) short h r =
    let b = and_parts (fits_64 o) (fits_64 n && fits_32 l.0) h in let d = and_parts (fits_64 n) (fits_32 l.0) b.1 in
    let a = short_64 o b.0 in let c = short_64 n d.0 in let e = short_32 l.0 d.1 in omega (arith, a, c, e)
own_width s (what.Endcatch o) short h r = let a = short_64 o h in omega (arith, a)
own_width s (what.Finally o n) short h r = let b = and_parts (fits_64 o) (fits_64 n) h in let a = short_64 o b.0 in let c = short_64 n b.1 in omega (arith, a, c)
own_width s (what.Endfin o) short h r = let a = short_64 o h in omega (arith, a)
own_width s (what.Once o name) short h r =
    let b = and_parts (fits_64 o) (is_name_of s object.Once name) h in let a = short_64 o b.0 in let c = short_at s.names name.0 short in omega (arith, a, c)
own_width s (what.Done o) short h r = let a = short_64 o h in omega (arith, a)
own_width s (what.Undone o n) short h r = let b = and_parts (fits_64 o) (fits_64 n) h in let a = short_64 o b.0 in let c = short_64 n b.1 in omega (arith, a, c)
own_width s (what.Destroy o name v) short h r =
    let b = and_parts (fits_64 o) (is_name_of s object.Key name && fits_signed v) h in let d = and_parts (is_name_of s object.Key name) (fits_signed v) b.1 in
    let a = short_64 o b.0 in let c = short_at s.names name.0 short in let e = short_signed v d.1 in omega (arith, a, c, e)
own_width s (what.Enddes o) short h r = let a = short_64 o h in omega (arith, a)
own_width s (what.Lost o n) short h r = let b = and_parts (fits_64 o) (fits_64 n) h in let a = short_64 o b.0 in let c = short_64 n b.1 in omega (arith, a, c)
own_width s (what.Bottom n v) short h r = let b = and_parts (fits_64 n) (fits_signed v) h in let a = short_64 n b.0 in let c = short_signed v b.1 in omega (arith, a, c)
own_width s what.Pause short h r = omega arith
own_width s (what.End v) short h r = let a = short_signed v h in omega (arith, a)

up : (n : ℕ) → n ≤ 109 → n ≤ 117
up n h = omega (arith, h)

-- And at most 117 whatever the reply.
any_width : (s : Script) (w : What) → AreShort s.names → is_formed_what s w ≡ true → width (what_words s.names w) ≤ 117
unfolding is_formed_what
any_width s (what.Call c args y) short h = let b = and_parts (have_their_form s c args) (is_formed_reply y) h in any_call s c args y short b.0 b.1
any_width s what.Pause short h = omega arith
any_width s w short h = up (width (what_words s.names w)) (own_width s w short h refl)

-- ---- lines

thread_only : (w : Who) → is_thread w ≡ true → length (who_word w) ≤ 11
thread_only (who.Thread t) h = thread_width t.0 h
thread_only (who.Proc p) h = absurd (false≢true h)
thread_only who.Clock h = absurd (false≢true h)

processor_only : (w : Who) → is_processor w ≡ true → length (who_word w) ≤ 11
processor_only (who.Proc p) h = processor_width p h
processor_only (who.Thread t) h = absurd (false≢true h)
processor_only who.Clock h = absurd (false≢true h)

clock_only : (w : Who) → is_clock w ≡ true → length (who_word w) ≤ 11
clock_only who.Clock h = omega arith
clock_only (who.Thread t) h = absurd (false≢true h)
clock_only (who.Proc p) h = absurd (false≢true h)

who_width : (w : What) (a : Who) → fits_what w a ≡ true → length (who_word a) ≤ 11
who_width (what.Run t) a h = processor_only a h
who_width (what.Clock n) a h = clock_only a h
who_width _ a h = thread_only a h

line_with : (s : Script) (n : ℕ) (e : Entry) (most : ℕ) → n < 10000000 → length (who_word e.who) ≤ 11 → width (what_words s.names e.what) ≤ most
    → length (numbered_line s.names n e) ≤ 20 + most
line_with s n e most small by says =
    let number = short_decimal 7 n (omega arith) (omega arith) (omega arith) in
    omega (arith, line_width (decimal n) (who_word e.who ∷ what_words s.names e.what), number, by, says)

pub any_line : (s : Script) (n : ℕ) (e : Entry) → Formed s → n < 10000000 → is_formed_line s e ≡ true → length (numbered_line s.names n e) ≤ 137
any_line s n e formed small h =
    let b = and_parts (fits_what e.what e.who) (is_formed_what s e.what) h in
    line_with s n e 117 small (who_width e.what e.who b.0) (any_width s e.what (names_short s formed) b.1)

pub own_line : (s : Script) (n : ℕ) (e : Entry) → Formed s → n < 10000000 → is_formed_line s e ≡ true → has_its_reply e ≡ true
    → length (numbered_line s.names n e) ≤ 129
own_line s n e formed small h r =
    let b = and_parts (fits_what e.what e.who) (is_formed_what s e.what) h in
    line_with s n e 109 small (who_width e.what e.who b.0) (own_width s e.what (names_short s formed) b.1 r)

-- ---- journals

lines_width : (s : Script) (n : ℕ) (es : List Entry) → Formed s → n + length es ≤ 10000000 → list_all (is_formed_line s) es ≡ true → list_all has_its_reply es ≡ true
    → length (numbered s.names n es) ≤ 129 * length es
unfolding numbered
lines_width s n [] formed small h r = omega arith
lines_width s n (e ∷ es) formed small h r =
    let a = and_parts (is_formed_line s e) (list_all (is_formed_line s) es) h in
    let b = and_parts (has_its_reply e) (list_all has_its_reply es) r in
    omega (
      arith,
      length-append (numbered_line s.names n e) (numbered s.names (n + 1) es),
      own_line s n e formed (omega arith) a.0 b.0,
      lines_width s (n + 1) es formed (omega arith) a.1 b.1,
    )

few_lines : (tss : List (List (List ℕ))) → length tss ≤ length (joined (map line tss))
few_lines [] = omega arith
few_lines (ts ∷ tss) =
    omega (arith, length-append (line ts) (joined (map line tss)), length-append (join_with_byte 32 ts) (10 ∷ []), few_lines tss)

stop_width : (stop : Stop) → is_formed_stop stop ≡ true → length (line (stop_words stop)) ≤ 40
stop_width stops.Finished h = omega arith
stop_width (stops.Deadlock n t) h =
    let b = and_parts (fits_32 n) (fits_32 t.0) h in
    omega (arith, line_width (codes "stop") (codes "deadlock" ∷ decimal n ∷ thread_word t ∷ []), short_32 n b.0, thread_width t.0 b.1)
stop_width stops.Limit h = omega arith
stop_width stops.Memory h = omega arith

-- Seven texts one behind the other.
seven : (a b c d e f g : List ℕ) → length (a ++ (b ++ (c ++ (d ++ (e ++ (f ++ g)))))) ≡ length a + (length b + (length c + (length d + (length e + (length f + length g)))))
seven a b c d e f g =
    omega (
      arith,
      length-append a (b ++ (c ++ (d ++ (e ++ (f ++ g))))),
      length-append b (c ++ (d ++ (e ++ (f ++ g)))),
      length-append c (d ++ (e ++ (f ++ g))),
      length-append d (e ++ (f ++ g)),
      length-append e (f ++ g),
      length-append f g,
    )

workers_width : (n : ℕ) → n ≤ 16 → length (line (codes "workers" ∷ decimal n ∷ [])) ≤ 11
workers_width n few = omega (arith, line_width (codes "workers") (decimal n ∷ []), short_decimal 2 n (omega arith) (omega arith) (omega arith))

script_width : (n : ℕ) → n ≤ 4820000 → length (line (codes "script" ∷ decimal n ∷ [])) ≤ 15
script_width n few = omega (arith, line_width (codes "script") (decimal n ∷ []), short_decimal 7 n (omega arith) (omega arith) (omega arith))

first_width : length (line (codes "dcethr" ∷ codes "journal" ∷ codes "1" ∷ [])) ≡ 17
first_width = refl

history_width : length (line (codes "history" ∷ [])) ≡ 8
history_width = refl

-- The text of a journal whose lines take so many bytes.
pub text_width : (s : Script) (n : ℕ) (es : List Entry) (stop : Stop) → Formed s → n ≤ 16 → is_formed_stop stop ≡ true → length (numbered s.names 1 es) ≤ 129149640
    → length (text s n es stop) ≤ 134217728
unfolding text
text_width s n es stop formed few_workers ends wide =
    let short : length (canon s) ≤ 4820000 = canon_short s formed in
    let counted : length (script_words s) ≤ length (canon s) = few_lines (script_words s) in
    omega (
      arith,
      seven (line (codes "dcethr" ∷ codes "journal" ∷ codes "1" ∷ [])) (line (codes "workers" ∷ decimal n ∷ []))
          (line (codes "script" ∷ decimal (length (script_words s)) ∷ [])) (canon s) (line (codes "history" ∷ [])) (numbered s.names 1 es) (line (stop_words stop)),
      first_width,
      workers_width n few_workers,
      script_width (length (script_words s)) (omega arith),
      short,
      history_width,
      wide,
      stop_width stop ends,
    )

few_bytes : (n k : ℕ) → k ≤ 129 * n → n ≤ 1001160 → k ≤ 129149640
few_bytes n k h few = omega (arith, h, few)

pub journal_width : (j : Journal) → FormedJournal j → length j.entries ≤ 1001160 → list_all has_its_reply j.entries ≡ true
    → length (text j.script j.workers j.entries j.stop) ≤ 134217728
journal_width j h few r =
    text_width j.script j.workers j.entries j.stop h.script h.few_workers h.stop
    (few_bytes (length j.entries) (length (numbered j.script.names 1 j.entries)) (lines_width j.script 1 j.entries h.script (omega (arith, few)) h.lines r) few)
