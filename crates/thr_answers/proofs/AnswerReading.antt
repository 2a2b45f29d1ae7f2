-- Reading which calls of a thread wait: lines that say nothing of it, quiet lines, calls that wait, and what answers them.
use Rattle.std.proofs.Common.{◌≡◌, ℕ, ◌==◌, Bool, true, false, ◌&&◌, ◌||◌, List, [], ◌∷◌, ◌++◌, map, Option, Some, None, refl, sym, ap, ◌∙◌, subst}
use Rattle.std.proofs.lemmas.Bool.{eq-eqb}
use Rattle.std.specs.Prelude.{is_none}
use Rattle.thr_syntax.specs.declared.tree.Script.{Script}
use Rattle.std.specs.List.{fold}
use Rattle.std.specs.Option.{option_or}
use Rattle.thr_values.specs.declared.call.Arg.{Arg}
use Rattle.thr_values.specs.declared.call.CallWord.{CallWord}
use Rattle.thr_values.specs.declared.history.What.{What}
use Rattle.thr_values.specs.declared.history.What.TheVariants as what
use Rattle.thr_values.specs.declared.history.Entry.{Entry}
use Rattle.thr_values.specs.declared.number.NameId.{NameId}
use Rattle.thr_values.specs.declared.number.Tid.{Tid}
use Rattle.thr_values.specs.declared.reply.Reply.TheVariants as reply
use Rattle.thr_laws.specs.Lines.{implies, line_but_gift, own_line, is_waiting_call, is_return, is_delivery, is_some_line, fits}
use Rattle.thr_laws.specs.Known.{Known, known_at_first, known_after, is_wakes, cancel_of}
use Rattle.thr_laws.specs.CancelLaw.{each_own_line}
use Rattle.thr_laws.specs.CallsOnce.{waits, is_answered, answers_a_call, names_its_statement, is_woken_from_it, is_of_line}
use Rattle.thr_laws.proofs.ReadingLaws.{and_both, implied_by_false, AllLines}
use Rattle.thr_model.specs.Calls.{Gifts}
use Rattle.thr_model.specs.Turns.{thread_line, gift_lines}
use Rattle.thr_answers.proofs.QuietLines.{AreQuiet}

-- ---- tests along the lines

-- The line is an answer where the last one is a call that waits, and a return only there; a delivery names the statement of
-- that call, and comes after a cancel that woke the thread.
pub record Passes (s : Script) (k : Known) (own : Option What) : Type 0 where
  pub answered : is_answered k own ≡ true
  pub returns : answers_a_call k own ≡ true
  pub statements : names_its_statement s k own ≡ true
  pub woken : is_woken_from_it k own ≡ true

-- So is each of these lines.
abbrev pub AllPass : Script → ℕ → Known → List Entry → Type 0
AllPass s t k [] = Unit {0}
AllPass s t k (e ∷ es) = Passes s k (own_line t e) × AllPass s t (known_after t k e) es

-- What is known after these lines.
abbrev pub after : ℕ → Known → List Entry → Known
after t k es = fold (known_after t) k es

pub after_append : (t : ℕ) (k : Known) (xs ys : List Entry) → after t k (xs ++ ys) ≡ after t (after t k xs) ys
after_append t k [] ys = refl
after_append t k (x ∷ xs) ys = after_append t (known_after t k x) xs ys

pub pass_append : (s : Script) (t : ℕ) (k : Known) (xs ys : List Entry) → AllPass s t k xs → AllPass s t (after t k xs) ys → AllPass s t k (xs ++ ys)
pass_append s t k [] ys h i = i
pass_append s t k (x ∷ xs) ys h i = (h.0, pass_append s t (known_after t k x) xs ys h.1 i)

passes_each : (s : Script) (test : Known → Option What → Bool) → ((k : Known) (own : Option What) → Passes s k own → test k own ≡ true) → (t : ℕ) (k : Known) (es : List Entry) → AllPass s t k es
    → fits (known_after t) (λ k e. test k (own_line t e)) k es ≡ true
passes_each s test p t k [] h = refl
passes_each s test p t k (e ∷ es) h = and_both (test k (own_line t e)) (fits (known_after t) (λ k e. test k (own_line t e)) (known_after t k e) es) (p k (own_line t e) h.0) (passes_each s test p t (known_after t k e) es h.1)

pub all_answered : (s : Script) (t : ℕ) (es : List Entry) → AllPass s t known_at_first es → each_own_line is_answered t es ≡ true
all_answered s t es h = passes_each s is_answered (λ k own p. p.answered) t known_at_first es h

pub all_return : (s : Script) (t : ℕ) (es : List Entry) → AllPass s t known_at_first es → each_own_line answers_a_call t es ≡ true
all_return s t es h = passes_each s answers_a_call (λ k own p. p.returns) t known_at_first es h

pub all_named : (s : Script) (t : ℕ) (es : List Entry) → AllPass s t known_at_first es → each_own_line (names_its_statement s) t es ≡ true
all_named s t es h = passes_each s (names_its_statement s) (λ k own p. p.statements) t known_at_first es h

pub all_woken : (s : Script) (t : ℕ) (es : List Entry) → AllPass s t known_at_first es → each_own_line is_woken_from_it t es ≡ true
all_woken s t es h = passes_each s is_woken_from_it (λ k own p. p.woken) t known_at_first es h

-- ---- lines in which the thread does nothing

-- The thread does nothing in these lines.
abbrev pub IsSilent : ℕ → List Entry → Type 0
IsSilent t es = AllLines (λ e. own_line t e ≡ None) es

none_passes : (s : Script) (k : Known) (own : Option What) → own ≡ None → Passes s k own
none_passes s k own e = subst (Passes s k) (sym e) (record { answered = refl; returns = refl; statements = refl; woken = refl })

pub silent_passes : (s : Script) (t : ℕ) (k : Known) (es : List Entry) → IsSilent t es → AllPass s t k es
silent_passes s t k [] h = tt
silent_passes s t k (e ∷ es) h = (none_passes s k (own_line t e) h.0, silent_passes s t (known_after t k e) es h.1)

pub silent_last : (t : ℕ) (k : Known) (es : List Entry) → IsSilent t es → (after t k es).last ≡ k.last
silent_last t k [] h = refl
silent_last t k (e ∷ es) h = silent_last t (known_after t k e) es h.1 ∙ ap (λ o. option_or o k.last) h.0

pub silent_waits : (t : ℕ) (k : Known) (es : List Entry) → IsSilent t es → waits (after t k es) ≡ waits k
silent_waits t k es h = ap (is_some_line is_waiting_call) (silent_last t k es h)

still_woken : (a b c : Bool) → b ≡ true → c ≡ true → (a || (b && c)) ≡ true
still_woken true b c e f = refl
still_woken false b c e f = and_both b c e f

pub silent_woken : (t : ℕ) (k : Known) (es : List Entry) → IsSilent t es → k.woken ≡ true → (after t k es).woken ≡ true
silent_woken t k [] h w = w
silent_woken t k (e ∷ es) h w = silent_woken t (known_after t k e) es h.1 (still_woken (is_wakes (cancel_of t e.what)) k.woken (is_none (own_line t e)) w (ap is_none h.0))

-- ---- quiet lines

-- The thread neither waits nor returns in the line.
pub record IsCalm (t : ℕ) (e : Entry) : Type 0 where
  pub waiting : is_some_line is_waiting_call (own_line t e) ≡ false
  pub returning : is_some_line is_return (own_line t e) ≡ false

answered_when_calm : (k : Known) (own : Option What) → waits k ≡ false → is_answered k own ≡ true
answered_when_calm k None e = refl
answered_when_calm k (Some w) e = ap (λ b. implies b (is_return w || is_delivery w)) e

named_when_calm : (s : Script) (k : Known) (own : Option What) → waits k ≡ false → names_its_statement s k own ≡ true
named_when_calm s k None e = refl
named_when_calm s k (Some (what.Deliver n line)) e = ap (λ b. implies b (is_some_line (is_of_line s line.0) k.last)) e
named_when_calm s k (Some _) e = refl

woken_when_calm : (k : Known) (own : Option What) → waits k ≡ false → is_woken_from_it k own ≡ true
woken_when_calm k own e = ap (λ b. implies (is_some_line is_delivery own && b) k.woken) e ∙ implied_by_false (is_some_line is_delivery own) k.woken

calm_passes : (s : Script) (t : ℕ) (k : Known) (e : Entry) → IsCalm t e → waits k ≡ false → Passes s k (own_line t e)
calm_passes s t k e c w = record { answered = answered_when_calm k (own_line t e) w; returns = ap (λ b. implies b (waits k)) c.returning; statements = named_when_calm s k (own_line t e) w; woken = woken_when_calm k (own_line t e) w }

still_calm : (own last : Option What) → is_some_line is_waiting_call own ≡ false → is_some_line is_waiting_call last ≡ false → is_some_line is_waiting_call (option_or own last) ≡ false
still_calm None last h k = k
still_calm (Some w) last h k = h

-- Calm lines are read where no call waits.
pub record ReadsCalmly (s : Script) (t : ℕ) (k : Known) (es : List Entry) : Type 0 where
  pub pass : AllPass s t k es
  pub calm : waits (after t k es) ≡ false

pub calm_reads : (s : Script) (t : ℕ) (k : Known) (es : List Entry) → waits k ≡ false → AllLines (IsCalm t) es → ReadsCalmly s t k es
calm_reads s t k [] w h = record { pass = tt; calm = w }
calm_reads s t k (e ∷ es) w h =
    let rest : ReadsCalmly s t (known_after t k e) es = calm_reads s t (known_after t k e) es (still_calm (own_line t e) k.last h.0.waiting w) h.1 in
    record { pass = (calm_passes s t k e h.0 w, rest.pass); calm = rest.calm }

pub but_gift : (test : What → Bool) (b : Bool) (w : What) → test w ≡ false → is_some_line test (line_but_gift b w) ≡ false
but_gift test false w h = refl
but_gift test true (what.Gift m) h = refl
but_gift test true _ h = h

pub calm_append : (t : ℕ) (xs ys : List Entry) → AllLines (IsCalm t) xs → AllLines (IsCalm t) ys → AllLines (IsCalm t) (xs ++ ys)
calm_append t [] ys h k = k
calm_append t (x ∷ xs) ys h k = (h.0, calm_append t xs ys h.1 k)

-- Quiet lines of any thread are calm for each.
pub quiet_calm : (u : ℕ) (t : Tid) (ws : List What) → AreQuiet ws → AllLines (IsCalm u) (map (thread_line t) ws)
quiet_calm u t [] h = tt
quiet_calm u t (w ∷ ws) h =
    (record { waiting = but_gift is_waiting_call (t.0 == u) w h.0.waiting; returning = but_gift is_return (t.0 == u) w h.0.returning }, quiet_calm u t ws h.1)

silent_calm : (t : ℕ) (e : Entry) → own_line t e ≡ None → IsCalm t e
silent_calm t e h = record { waiting = ap (is_some_line is_waiting_call) h; returning = ap (is_some_line is_return) h }

pub all_silent_calm : (t : ℕ) (es : List Entry) → IsSilent t es → AllLines (IsCalm t) es
all_silent_calm t [] h = tt
all_silent_calm t (e ∷ es) h = (silent_calm t e h.0, all_silent_calm t es h.1)

gift_silent : (b : Bool) (m : Option NameId) → line_but_gift b (what.Gift m) ≡ None
gift_silent true m = refl
gift_silent false m = refl

pub gifts_silent : (u : ℕ) (gs : Gifts) → IsSilent u (gift_lines gs)
gifts_silent u [] = tt
gifts_silent u (g ∷ gs) = (gift_silent (g.0.0 == u) g.1, gifts_silent u gs)

pub others_silent : (u : ℕ) (t : Tid) (ws : List What) → (t.0 == u) ≡ false → IsSilent u (map (thread_line t) ws)
others_silent u t [] e = tt
others_silent u t (w ∷ ws) e = (ap (λ b. line_but_gift b w) e, others_silent u t ws e)

pub silent_append : (t : ℕ) (xs ys : List Entry) → IsSilent t xs → IsSilent t ys → IsSilent t (xs ++ ys)
silent_append t [] ys h k = k
silent_append t (x ∷ xs) ys h k = (h.0, silent_append t xs ys h.1 k)

-- ---- a call that waits

own_itself : (t : Tid) (w : What) → own_line t.0 (thread_line t w) ≡ line_but_gift true w
own_itself t w = ap (λ b. line_but_gift b w) (eq-eqb t.0 t.0 refl)

-- The last line is a call that waits, and all lines pass.
pub record ReadsWaiting (s : Script) (t : ℕ) (k : Known) (es : List Entry) (w : What) : Type 0 where
  pub pass : AllPass s t k es
  pub last : (after t k es).last ≡ Some w
  pub waiting : waits (after t k es) ≡ true

blocks_passes : (s : Script) (k : Known) (own : Option What) (word : CallWord) (args : List Arg) → own ≡ Some (what.Call word args reply.Blocks) → waits k ≡ false → Passes s k own
blocks_passes s k own word args e w = record { answered = answered_when_calm k own w; returns = ap (λ o. implies (is_some_line is_return o) (waits k)) e; statements = named_when_calm s k own w; woken = woken_when_calm k own w }

pub blocks_reads : (s : Script) (t : Tid) (k : Known) (word : CallWord) (args : List Arg) (es : List Entry) → waits k ≡ false → IsSilent t.0 es
    → ReadsWaiting s t.0 k (thread_line t (what.Call word args reply.Blocks) ∷ es) (what.Call word args reply.Blocks)
blocks_reads s t k word args es w h =
    let e : Entry = thread_line t (what.Call word args reply.Blocks) in
    let own : own_line t.0 e ≡ Some (what.Call word args reply.Blocks) = own_itself t (what.Call word args reply.Blocks) in
    let last : (after t.0 k (e ∷ es)).last ≡ Some (what.Call word args reply.Blocks) = silent_last t.0 (known_after t.0 k e) es h ∙ ap (λ o. option_or o k.last) own in
    record { pass = (blocks_passes s k (own_line t.0 e) word args own w, silent_passes s t.0 (known_after t.0 k e) es h); last = last; waiting = ap (is_some_line is_waiting_call) last }

-- ---- answers

answers_pass : (s : Script) (k : Known) (own : Option What) (w : What) → own ≡ Some w → waits k ≡ true → (is_return w || is_delivery w) ≡ true → names_its_statement s k (Some w) ≡ true → is_woken_from_it k (Some w) ≡ true → Passes s k own
answers_pass s k own w e i a m o =
    subst (Passes s k) (sym e) (record {
      answered = ap (λ b. implies b (is_return w || is_delivery w)) i ∙ a;
      returns = ap (λ b. implies (is_return w) b) i ∙ always (is_return w);
      statements = m;
      woken = o;
    })
  where
    always : (b : Bool) → implies b true ≡ true
    always true = refl
    always false = refl

-- A return or a delivery, and then calm lines.
pub answer_reads : (s : Script) (t : Tid) (k : Known) (w : What) (es : List Entry) → line_but_gift true w ≡ Some w → (is_return w || is_delivery w) ≡ true → is_waiting_call w ≡ false → waits k ≡ true → names_its_statement s k (Some w) ≡ true → is_woken_from_it k (Some w) ≡ true → AllLines (IsCalm t.0) es
    → ReadsCalmly s t.0 k (thread_line t w ∷ es)
answer_reads s t k w es g a n i m o h =
    let e : Entry = thread_line t w in
    let own : own_line t.0 e ≡ Some w = own_itself t w ∙ g in
    let rest : ReadsCalmly s t.0 (known_after t.0 k e) es = calm_reads s t.0 (known_after t.0 k e) es (ap (λ o. is_some_line is_waiting_call (option_or o k.last)) own ∙ n) h in
    record { pass = (answers_pass s k (own_line t.0 e) w own i a m o, rest.pass); calm = rest.calm }
