-- The numbers that the state keeps are bounded after each call of the thread service, and its reply is short.
use Rattle.std.proofs.Common.{ℕ, ◌+◌, ◌≤◌, ◌<◌, ℤ, Bool, true, false, not, ◌&&◌, List, [], ◌∷◌, ◌++◌, length, map, Option, Some, None, refl, arith}
use Rattle.std.specs.Prelude.{if◌then◌else◌, ◌==◌, is_none, int_le}
use Rattle.std.specs.Option.{option_map}
use Rattle.thr_values.specs.declared.number.NameId.{NameId}
use Rattle.thr_values.specs.declared.number.Tid.{Tid}
use Rattle.thr_values.specs.declared.call.CallWord.{CallWord}
use Rattle.thr_values.specs.declared.call.CallWord.TheVariants as word
use Rattle.thr_values.specs.declared.reply.Effect.TheVariants as effect
use Rattle.thr_values.specs.declared.reply.Reply.{Reply}
use Rattle.thr_values.specs.declared.reply.Reply.TheVariants as reply
use Rattle.thr_syntax.specs.declared.dce.DceCall.{DceCall}
use Rattle.thr_syntax.specs.declared.dce.DceCall.TheVariants as dce
use Rattle.thr_syntax.specs.declared.tree.Script.{Script}
use Rattle.thr_text.specs.Journals.{reply_word}
use Rattle.thr_remainder.specs.Remainders.{Remainder}
use Rattle.thr_remainder.specs.Calls.{shape_of}
use Rattle.thr_remainder.specs.Starts.{fresh}
use Rattle.thr_parts.specs.declared.thread.Attr.{Attr}
use Rattle.thr_parts.specs.declared.wait.Wait.{Wait}
use Rattle.thr_parts.specs.declared.wait.Wait.TheVariants.{Cond}
use Rattle.thr_parts.specs.Tables.{Table, get, has, put, put_if, keep_if, IsCanonical}
use Rattle.thr_parts.specs.Replies.{is_done, is_blocks, is_value, made_reply}
use Rattle.thr_parts.specs.Rows.{Rows, best, thread}
use Rattle.thr_parts.specs.declared.row.RowId.TheVariants as row
use Rattle.thr_parts.specs.Threads as threads
use Rattle.thr_parts.specs.Threads.{Threads, ThreadsReply, new_attr, natural, record_of, attr_at, create_reply}
use Rattle.thr_parts.specs.Scheduling.{is_prio, is_stack_size, getprio, getscheduler, with_prio, with_policy}
use Rattle.thr_parts.specs.Cancels.{mode_at, waits_at_point, is_marked, as_pending, with_mode}
use Rattle.thr_parts.specs.Cancels as cancels
use Rattle.thr_parts.specs.Mutexes.{kind_at, is_used, mutex_at, owner}
use Rattle.thr_parts.specs.Locking.{unlock, lock_reply, is_held_by, is_last}
use Rattle.thr_parts.specs.Conditions.{Conds, is_waited_on, wait, timedwait, wait_reply, timedwait_reply, waits_otherwise, waits_with}
use Rattle.thr_parts.specs.Waking.{LeftWait, Signalled, Notified, signal, waits_without, pull_out, mutex_with, resume, wake_all, broadcast}
use Rattle.thr_parts.specs.Keys.{Key, new_key}
use Rattle.thr_parts.specs.Pipes.{Pipe, Pipes, ReadReply, WriteReply, pipe_at, with_items, behind, item_of, read, read_reply, write, write_reply}
use Rattle.thr_parts.specs.Closing.{Closed, close_out, as_closed, writing_elsewhere}
use Rattle.thr_parts.proofs.EachLaws.{Each, IfThere, each_none, each_put, each_put_if, each_cut, each_cut_if, if_there}
use Rattle.thr_model.specs.States.{State, Debt, Return, Delivery, Running, rank_of, owes_more, all_owe}
use Rattle.thr_model.specs.Calls.{Answered, answered, cancelled, given_state, signals_one, woken_state, first, second}
use Rattle.thr_sizes.proofs.Values.{Fits, AllFit}
use Rattle.thr_sizes.proofs.Fitting.{LeftFits, ReplyFits, reply_bytes}
use Rattle.thr_sizes.proofs.Steps.{fresh_fits}
use Rattle.thr_sizes.proofs.Parts.{ThreadFits, AttrFits, ThreadsFit, WaitFits, KeyFits, PipeFits, WritingFits, PipesFit, SaysNone, keep_there, none_fits, none_seven, any_twenty, making_none, made_none, changed_fit, mode_fit, prio_kept, policy_kept, cells_fit, changed_cell, prio_cell, created_fits, create_says, join_says, detach_says, detached_fit, prio_says, policy_says, set_says, set_short, state_fits, cancel_says, named_there, init_says, destroy_says, lock_says, trylock_says, unlock_says, cond_destroy_says, IsWaitReply, wait_says, timed_says, expiration_says, delay_says, delay_fits, set_keys, value_says, enter_says, fit_append, pipe_fits, behind_fit, item_of_fits, without_fits, read_says, write_says, close_says, elsewhere_fits}

-- ---- what the state keeps

-- The number of a return that is owed fits.
abbrev pub DebtFits : Debt → Type 0
DebtFits (Return y) = ReplyFits y
DebtFits Delivery = Unit {0}
DebtFits Running = Unit {0}

-- The numbers in these parts fit, and those of threads, scopes and unwindings are at most this.
pub record HoldsIn (k : ℕ) (ths : Threads) (rs : Table Remainder) (ds : Table Debt) (ws : Table Wait) (ks : Table Key) (ps : Pipes) (vs : Table ℤ) : Type 0 where
  pub threads : ThreadsFit ths
  pub next : ths.next ≤ k
  pub left : Each (LeftFits k) rs
  pub debts : Each DebtFits ds
  pub waits : Each WaitFits ws
  pub keys : Each KeyFits ks
  pub pipes : PipesFit ps
  pub shared : Each Fits vs

-- So it is in this state.
abbrev pub Holds : ℕ → State → Type 0
Holds k st = HoldsIn k st.threads st.remainders st.debts st.conds.waits st.onces.keys st.pipes st.shared

module _ (k : ℕ) (st : State) (h : Holds k st) where
  pub with_ths : (ths : Threads) → ThreadsFit ths → ths.next ≤ k → Holds k (record st { threads = ths })
  with_ths ths f le = record { threads = f; next = le; left = h.left; debts = h.debts; waits = h.waits; keys = h.keys; pipes = h.pipes; shared = h.shared }

  pub with_left : (rs : Table Remainder) → Each (LeftFits k) rs → Holds k (record st { remainders = rs })
  with_left rs f = record { threads = h.threads; next = h.next; left = f; debts = h.debts; waits = h.waits; keys = h.keys; pipes = h.pipes; shared = h.shared }

  pub with_debts : (ds : Table Debt) → Each DebtFits ds → Holds k (record st { debts = ds })
  with_debts ds f = record { threads = h.threads; next = h.next; left = h.left; debts = f; waits = h.waits; keys = h.keys; pipes = h.pipes; shared = h.shared }

  pub with_waits : (ws : Table Wait) → Each WaitFits ws → HoldsIn k st.threads st.remainders st.debts ws st.onces.keys st.pipes st.shared
  with_waits ws f = record { threads = h.threads; next = h.next; left = h.left; debts = h.debts; waits = f; keys = h.keys; pipes = h.pipes; shared = h.shared }

  pub with_keys : (ks : Table Key) → Each KeyFits ks → HoldsIn k st.threads st.remainders st.debts st.conds.waits ks st.pipes st.shared
  with_keys ks f = record { threads = h.threads; next = h.next; left = h.left; debts = h.debts; waits = h.waits; keys = f; pipes = h.pipes; shared = h.shared }

  pub with_pipes : (ps : Pipes) → PipesFit ps → Holds k (record st { pipes = ps })
  with_pipes ps f = record { threads = h.threads; next = h.next; left = h.left; debts = h.debts; waits = h.waits; keys = h.keys; pipes = f; shared = h.shared }

  pub with_shared : (vs : Table ℤ) → Each Fits vs → Holds k (record st { shared = vs })
  with_shared vs f = record { threads = h.threads; next = h.next; left = h.left; debts = h.debts; waits = h.waits; keys = h.keys; pipes = h.pipes; shared = f }

-- ---- what is owed

pub all_owe_fits : (debts : Table Debt) (d : Debt) (ts : List Tid) → DebtFits d → Each DebtFits debts → Each DebtFits (all_owe debts d ts)
all_owe_fits debts d [] f h = h
all_owe_fits debts d (t ∷ ts) f h = all_owe_fits (put debts t.0 d) d ts f (each_put DebtFits debts t.0 d f h)

more_fits : (debts : Table Debt) (earlier : Option Debt) (t : Tid) → Each DebtFits debts → Each DebtFits (owes_more debts earlier (Return reply.Done) t)
more_fits debts None t h = each_put DebtFits debts t.0 (Return reply.Done) tt h
more_fits debts (Some earlier) t h = h

pub given_holds : (k : ℕ) (st : State) (rs : Rows) (o : Option Tid) → Holds k st → Holds k (given_state st rs o)
given_holds k st rs None h = h
given_holds k st rs (Some t) h = with_debts k st h _ (more_fits st.debts (get st.debts t.0) t h.debts)

woken_holds : (k : ℕ) (st : State) (rs : Rows) (y : Reply) (o : Option Tid) → ReplyFits y → Holds k st → Holds k (woken_state st rs y o)
woken_holds k st rs y None f h = h
woken_holds k st rs y (Some t) f h = with_debts k st h _ (each_put DebtFits st.debts t.0 (Return y) f h.debts)

-- ---- waits

waits_left : (waits : Table Wait) (o : Option Tid) → Each WaitFits waits → Each WaitFits (waits_without waits o)
waits_left waits None h = h
waits_left waits (Some t) h = each_cut WaitFits waits t.0 h

pub woken_waits : (rank : Tid → ℕ) (cs : Conds) (ls : _) (rs : Rows) (ts : List Tid) → Each WaitFits cs.waits → Each WaitFits (wake_all rank cs ls rs ts).conds.waits
unfolding wake_all
woken_waits rank cs ls rs [] h = h
woken_waits rank cs ls rs (t ∷ ts) h =
    let left : LeftWait = pull_out cs rs t in
    let o = resume rank ls left.rows t (mutex_with cs t) in woken_waits rank left.conds o.locks o.rows ts (waits_left cs.waits _ h)

-- ---- answers

-- The numbers in the state and the reply fit, and the reply is short.
pub record AnswerFits (k : ℕ) (c : CallWord) (o : Answered) : Type 0 where
  pub state : Holds k o.state
  pub says : ReplyFits o.reply
  pub short : length (reply_word o.reply) ≤ reply_bytes c

low : (n a b : ℕ) → a ≤ b → n ≤ a → n ≤ b
low n a b le h = omega (arith, le, h)

-- An answer that is no number, and one that may be one.
plain : (k : ℕ) (c : CallWord) (o : Answered) → 7 ≤ reply_bytes c → SaysNone o.reply → Holds k o.state → AnswerFits k c o
plain k c o le n h = record { state = h; says = none_fits o.reply n; short = low (length (reply_word o.reply)) 7 (reply_bytes c) le (none_seven o.reply n) }

number : (k : ℕ) (c : CallWord) (o : Answered) → 20 ≤ reply_bytes c → ReplyFits o.reply → Holds k o.state → AnswerFits k c o
number k c o le f h = record { state = h; says = f; short = low (length (reply_word o.reply)) 20 (reply_bytes c) le (any_twenty o.reply f) }

first_fits : (ns : List ℤ) → AllFit ns → Fits (first ns)
first_fits [] h = refl
first_fits (n ∷ ns) h = h.0

second_fits : (ns : List ℤ) → AllFit ns → Fits (second ns)
second_fits [] h = refl
second_fits (n ∷ ns) h = first_fits ns h.1

cancelled_holds : (k : ℕ) (st : State) (target : Tid) (o : ThreadsReply) (y : Reply) → ThreadsFit o.threads → o.threads.next ≤ k → Holds k st → Holds k (cancelled st target o y).state
cancelled_holds k st target o (reply.Effect effect.Wakes) f le h = record {
  threads = f;
  next = le;
  left = h.left;
  debts = each_put DebtFits st.debts target.0 Delivery tt h.debts;
  waits = waits_left st.conds.waits _ h.waits;
  keys = h.keys;
  pipes = record { pipes = (let p = h.pipes in p.pipes); writing = without_fits st.pipes.writing _ (let p = h.pipes in p.writing) };
  shared = h.shared;
}
cancelled_holds k st target o (reply.Effect effect.Ended) f le h = with_ths k st h o.threads f le
cancelled_holds k st target o (reply.Effect effect.Merged) f le h = with_ths k st h o.threads f le
cancelled_holds k st target o (reply.Effect effect.Pending) f le h = with_ths k st h o.threads f le
cancelled_holds k st target o (reply.Value n) f le h = with_ths k st h o.threads f le
cancelled_holds k st target o reply.Done f le h = with_ths k st h o.threads f le
cancelled_holds k st target o reply.Eof f le h = with_ths k st h o.threads f le
cancelled_holds k st target o reply.Blocks f le h = with_ths k st h o.threads f le
cancelled_holds k st target o reply.Einval f le h = with_ths k st h o.threads f le
cancelled_holds k st target o reply.Eperm f le h = with_ths k st h o.threads f le
cancelled_holds k st target o reply.Edeadlk f le h = with_ths k st h o.threads f le
cancelled_holds k st target o reply.Ebusy f le h = with_ths k st h o.threads f le
cancelled_holds k st target o reply.Esrch f le h = with_ths k st h o.threads f le
cancelled_holds k st target o reply.Eagain f le h = with_ths k st h o.threads f le
cancelled_holds k st target o reply.Epipe f le h = with_ths k st h o.threads f le

cancelled_says : (st : State) (target : Tid) (o : ThreadsReply) (y : Reply) → SaysNone o.reply → SaysNone (cancelled st target o y).reply
cancelled_says st target o (reply.Effect effect.Wakes) h = h
cancelled_says st target o (reply.Effect _) h = h
cancelled_says st target o _ h = h

signals_hold : (k : ℕ) (st : State) (o : Signalled) (w : Option (Tid × NameId)) → Each WaitFits o.conds.waits → Holds k st → Holds k (signals_one st o w).state
signals_hold k st o None f h = with_waits k st h o.conds.waits f
signals_hold k st o (Some w) f h = record {
  threads = h.threads;
  next = h.next;
  left = h.left;
  debts = each_put DebtFits st.debts w.0.0 (Return reply.Done) tt h.debts;
  waits = f;
  keys = h.keys;
  pipes = h.pipes;
  shared = h.shared;
}

signals_say : (st : State) (o : Signalled) (w : Option (Tid × NameId)) → SaysNone o.reply → SaysNone (signals_one st o w).reply
signals_say st o None h = h
signals_say st o (Some w) h = h

next_if : (b : Bool) (n k : ℕ) → n + 1 ≤ k → (if b then n + 1 else n) ≤ k
next_if true n k h = h
next_if false n k h = omega (arith, h)

new_key_fits : (b : Bool) (d : Option NameId) → IfThere KeyFits (keep_if b (Some (new_key d)))
new_key_fits true d = each_none Fits
new_key_fits false d = tt

-- ---- the calls

module _ (k : ℕ) (small : k < 1000000000) (s : Script) (st : State) (t : Tid) (room : st.threads.next + 1 ≤ k) (sorted : IsCanonical st.pipes.writing) (h : Holds k st) where
  pipes_of : PipesFit st.pipes
  pipes_of = h.pipes

  -- Threads and cells after a call on them.
  on_threads_fits : (c : CallWord) (o : ThreadsReply) → 7 ≤ reply_bytes c → SaysNone o.reply → ThreadsFit o.threads → o.threads.next ≤ k
      → AnswerFits k c (record { reply = o.reply; state = record st { threads = o.threads }; gifts = []; runs = false })
  on_threads_fits c o le n f next = plain k c _ le n (with_ths k st h o.threads f next)

  cell_fits : (c : CallWord) (a : ℕ) (b : Bool) (is_right : Bool) (change : Attr → Attr) → 7 ≤ reply_bytes c
      → ((x : Attr) → AttrFits x → AttrFits (change x))
      → (let o : Answered = record {
        reply = made_reply b;
        state = record st { threads = record { records = st.threads.records; next = st.threads.next; attrs = put_if st.threads.attrs a (keep_if is_right (option_map change (get st.threads.attrs a))) } };
        gifts = [];
        runs = false;
      } in AnswerFits k c o)
  cell_fits c a b is_right change le keeps =
      plain k c _ le (made_none b) (with_ths k st h _ (cells_fit st.threads a _ (changed_cell st.threads a is_right change keeps h.threads) h.threads) h.next)

  read_fits : (p : NameId) (rank : ℕ) → PipesFit (read st.pipes st.rows p t rank).pipes
  read_fits p rank =
      let x : Pipe = pipe_at st.pipes p in
      let items : AllFit x.items = pipe_fits st.pipes p pipes_of in
      let is_read : Bool = is_value (read_reply x.items x.is_open) in
      let writer : Option Tid = keep_if is_read (best st.rows (row.Writer p)) in
      let entered : List ℤ = item_of st.pipes writer in
      let i = pipes_of in record {
        pipes = each_put_if PipeFits st.pipes.pipes p.0 _
            (keep_there PipeFits is_read (Some (with_items x (behind x.items ++ entered))) (fit_append (behind x.items) entered (behind_fit x.items items) (item_of_fits st.pipes writer pipes_of))) i.pipes;
        writing = without_fits st.pipes.writing writer i.writing;
      }

  write_fits : (p : NameId) (v : ℤ) (rank : ℕ) → Fits v → PipesFit (write st.pipes st.rows p v t rank).pipes
  write_fits p v rank f =
      let x : Pipe = pipe_at st.pipes p in
      let items : AllFit x.items = pipe_fits st.pipes p pipes_of in
      let reader : Option Tid = keep_if x.is_open (best st.rows (row.Reader p)) in
      let said : Reply = write_reply x reader in
      let i = pipes_of in record {
        pipes = each_put_if PipeFits st.pipes.pipes p.0 _
            (keep_there PipeFits (is_done said && is_none reader) (Some (with_items x (x.items ++ v ∷ []))) (fit_append x.items (v ∷ []) items (f, tt))) i.pipes;
        writing = each_put_if WritingFits st.pipes.writing t.0 _ (keep_there WritingFits (is_blocks said) (Some (record { pipe = p; item = v })) f) i.writing;
      }

  elsewhere_if : (b : Bool) (p : NameId) → Each WritingFits (if b then writing_elsewhere st.pipes.writing p else st.pipes.writing)
  elsewhere_if true p = elsewhere_fits st.pipes.writing p sorted (let i = pipes_of in i.writing)
  elsewhere_if false p = let i = pipes_of in i.writing

  close_fits : (p : NameId) → PipesFit (close_out (rank_of st) st.pipes st.rows p).pipes
  close_fits p = record {
    pipes = each_put_if PipeFits st.pipes.pipes p.0 _ (keep_there PipeFits (pipe_at st.pipes p).is_open (Some (as_closed (pipe_at st.pipes p))) (pipe_fits st.pipes p pipes_of)) (let i = pipes_of in i.pipes);
    writing = elsewhere_if (pipe_at st.pipes p).is_open p;
  }

  pub answered_fits : (call : DceCall) (ns : List ℤ) → AllFit ns → AnswerFits k (shape_of call).word (answered s st t call ns)
  unfolding answered shape_of
  answered_fits (dce.AttrCreate a) ns f =
      plain k word.AttrCreate _ (omega arith) (making_none (has st.threads.attrs a.0))
      (with_ths k st h _ (cells_fit st.threads a.0 _ (keep_there AttrFits (not (has st.threads.attrs a.0)) (Some new_attr) refl) h.threads) h.next)
  answered_fits (dce.AttrDelete a) ns f =
      plain k word.AttrDelete _ (omega arith) (made_none (has st.threads.attrs a.0))
      (with_ths k st h _ (record { records = (let i = h.threads in i.records); attrs = each_cut_if AttrFits (has st.threads.attrs a.0) st.threads.attrs a.0 (let i = h.threads in i.attrs) }) h.next)
  answered_fits (dce.AttrSetsched a p) ns f = cell_fits word.AttrSetsched a.0 _ true _ (omega arith) (λ x i. i)
  answered_fits (dce.AttrSetprio a e) ns f = cell_fits word.AttrSetprio a.0 _ (is_prio (first ns)) _ (omega arith) (λ x i. prio_cell (first ns) (first_fits ns f))
  answered_fits (dce.AttrSetinheritsched a b) ns f = cell_fits word.AttrSetinheritsched a.0 _ true _ (omega arith) (λ x i. i)
  answered_fits (dce.AttrSetstacksize a e) ns f = cell_fits word.AttrSetstacksize a.0 _ (is_stack_size (first ns)) _ (omega arith) (λ x i. i)
  answered_fits (dce.Create v a routine e) ns f =
      let said : Reply = create_reply st.threads (attr_at st.threads a) in
      let says = create_says st.threads (attr_at st.threads a) (omega (arith, room, small)) in record {
        state = record {
          threads = record {
            records = each_put_if ThreadFits st.threads.records st.threads.next _ (created_fits st.threads t a (is_value said) h.threads) (let i = h.threads in i.records);
            attrs = (let i = h.threads in i.attrs);
          };
          next = next_if (is_value said) st.threads.next k room;
          left = each_put_if (LeftFits k) st.remainders st.threads.next _ (keep_there (LeftFits k) (is_value said) (Some (fresh s routine (first ns))) (fresh_fits k s routine (first ns) (first_fits ns f))) h.left;
          debts = h.debts;
          waits = h.waits;
          keys = h.keys;
          pipes = h.pipes;
          shared = h.shared;
        };
        says = says.0;
        short = says.1;
      }
  answered_fits (dce.Join e v) ns f = number k word.Join _ (omega arith) (join_says (natural (first ns) == t.0) (record_of st.threads (first ns)) (named_there st.threads (first ns) h.threads)) h
  answered_fits (dce.Detach e) ns f =
      on_threads_fits word.Detach (threads.detach st.threads (first ns)) (omega arith) (detach_says (record_of st.threads (first ns)))
      (record { records = detached_fit st.threads (first ns) h.threads; attrs = (let i = h.threads in i.attrs) }) h.next
  answered_fits dce.Yield ns f = plain k word.Yield _ (omega arith) tt h
  answered_fits (dce.Cancel e) ns f =
      let who : Tid = thread (natural (first ns)) in
      let o : ThreadsReply = cancels.cancel st.threads (first ns) (waits_at_point st.rows who) in
      plain k word.Cancel (cancelled st who o o.reply) (omega arith) (cancelled_says st who o o.reply (cancel_says (record_of st.threads (first ns)) (waits_at_point st.rows who)))
      (cancelled_holds k st who o o.reply (changed_fit st.threads (first ns) (is_marked (record_of st.threads (first ns)) (waits_at_point st.rows who)) as_pending (λ th i. i) h.threads) h.next h)
  answered_fits dce.Testcancel ns f = plain k word.Testcancel _ (omega arith) tt h
  answered_fits (dce.Setcancel on v) ns f =
      number k word.Setcancel _ (omega arith) (state_fits (mode_at st.threads t).general) (with_ths k st h _ (mode_fit st.threads t (with_mode (record (mode_at st.threads t) { general = on })) (λ th i. i) h.threads) h.next)
  answered_fits (dce.Setasynccancel on v) ns f =
      number k word.Setasynccancel _ (omega arith) (state_fits (mode_at st.threads t).asynchronous) (with_ths k st h _ (mode_fit st.threads t (with_mode (record (mode_at st.threads t) { asynchronous = on })) (λ th i. i) h.threads) h.next)
  answered_fits (dce.Setprio e1 e2 v) ns f =
      number k word.Setprio _ (omega arith)
      (set_says (record_of st.threads (first ns)) (is_prio (second ns)) (getprio st.threads (first ns)) (prio_says (record_of st.threads (first ns)) (named_there st.threads (first ns) h.threads)))
      (with_ths k st h _ (changed_fit st.threads (first ns) (is_prio (second ns)) (with_prio (second ns)) (prio_kept (second ns) (second_fits ns f)) h.threads) h.next)
  answered_fits (dce.Getprio e v) ns f = number k word.Getprio _ (omega arith) (prio_says (record_of st.threads (first ns)) (named_there st.threads (first ns) h.threads)) h
  answered_fits (dce.Setscheduler e1 p e2 v) ns f =
      let says = policy_says (record_of st.threads (first ns)) in record {
        state = with_ths k st h _ (changed_fit st.threads (first ns) (is_prio (second ns)) (with_policy p (second ns)) (policy_kept p (second ns) (second_fits ns f)) h.threads) h.next;
        says = set_says (record_of st.threads (first ns)) (is_prio (second ns)) (getscheduler st.threads (first ns)) says.0;
        short = set_short (record_of st.threads (first ns)) (is_prio (second ns)) (getscheduler st.threads (first ns)) says.1;
      }
  answered_fits (dce.Getscheduler e v) ns f = number k word.Getscheduler _ (omega arith) (policy_says (record_of st.threads (first ns))).0 h
  answered_fits (dce.DelayNp e) ns f =
      plain k word.DelayNp _ (omega arith) (delay_says (first ns) st.clock) (with_waits k st h _ (each_put_if WaitFits st.conds.waits t.0 _ (delay_fits (first ns) st.clock) h.waits))
  answered_fits (dce.GetExpirationNp e v) ns f = number k word.GetExpirationNp _ (omega arith) (expiration_says (first ns) st.clock) h
  answered_fits (dce.MutexattrCreate a) ns f = plain k word.MutexattrCreate _ (omega arith) (making_none (has st.locks.kinds a.0)) h
  answered_fits (dce.MutexattrSetkindNp a kind) ns f = plain k word.MutexattrSetkindNp _ (omega arith) (made_none (has st.locks.kinds a.0)) h
  answered_fits (dce.MutexattrDelete a) ns f = plain k word.MutexattrDelete _ (omega arith) (made_none (has st.locks.kinds a.0)) h
  answered_fits (dce.MutexInit m a) ns f = plain k word.MutexInit _ (omega arith) (init_says (kind_at st.locks a) (has st.locks.mutexes m.0)) h
  answered_fits (dce.MutexDestroy m) ns f =
      plain k word.MutexDestroy _ (omega arith) (destroy_says (has st.locks.mutexes m.0) (is_used st.locks st.rows m (waits_with st.conds m))) h
  answered_fits (dce.MutexLock m) ns f = plain k word.MutexLock _ (omega arith) (lock_says (mutex_at st.locks (Some m)) t) h
  answered_fits (dce.MutexTrylock m v) ns f = number k word.MutexTrylock _ (omega arith) (trylock_says (lock_reply (mutex_at st.locks (Some m)) t)) h
  answered_fits (dce.MutexUnlock m) ns f =
      let o = unlock st.locks st.rows (Some m) t in
      plain k word.MutexUnlock _ (omega arith) (unlock_says (mutex_at st.locks (Some m)) t) (given_holds k (record st { locks = o.locks }) o.rows o.given h)
  answered_fits dce.LockGlobalNp ns f = plain k word.LockGlobalNp _ (omega arith) (lock_says (mutex_at st.locks None) t) h
  answered_fits dce.UnlockGlobalNp ns f =
      let o = unlock st.locks st.rows None t in
      plain k word.UnlockGlobalNp _ (omega arith) (unlock_says (mutex_at st.locks None) t) (given_holds k (record st { locks = o.locks }) o.rows o.given h)
  answered_fits (dce.CondInit c) ns f = plain k word.CondInit _ (omega arith) (making_none (has st.conds.made c.0)) (with_waits k st h _ h.waits)
  answered_fits (dce.CondDestroy c) ns f = plain k word.CondDestroy _ (omega arith) (cond_destroy_says (has st.conds.made c.0) (is_waited_on st.conds c)) (with_waits k st h _ h.waits)
  answered_fits (dce.CondWait c m) ns f =
      let o = wait st.conds st.locks st.rows c m t (rank_of st t) in
      let said : Reply = wait_reply st.conds st.locks c m t in
      let says : IsWaitReply said = wait_says (has st.conds.made c.0 && has st.locks.mutexes m.0) (is_held_by (owner st.locks (Some m)) t) (is_last (owner st.locks (Some m)) && not (waits_otherwise st.conds c m)) in
      plain k word.CondWait _ (omega arith) says.0
      (given_holds k (record st { conds = o.conds; locks = o.locks }) o.rows o.given
      (with_waits k st h o.conds.waits (each_put_if WaitFits st.conds.waits t.0 _ (keep_there WaitFits (is_blocks said) (Some (Cond c m None)) tt) h.waits)))
  answered_fits (dce.CondTimedwait c m e) ns f =
      let o = timedwait st.conds st.locks st.rows c m (first ns) st.clock t (rank_of st t) in
      let plainly : Reply = wait_reply st.conds st.locks c m t in
      let said : Reply = timedwait_reply plainly (int_le (first ns) st.clock) in
      let says : IsWaitReply said =
      timed_says plainly (int_le (first ns) st.clock) (wait_says (has st.conds.made c.0 && has st.locks.mutexes m.0) (is_held_by (owner st.locks (Some m)) t) (is_last (owner st.locks (Some m)) && not (waits_otherwise st.conds c m))) in record {
        state = given_holds k (record st { conds = o.conds; locks = o.locks }) o.rows o.given
            (with_waits k st h o.conds.waits (each_put_if WaitFits st.conds.waits t.0 _ (keep_there WaitFits (is_blocks said) (Some (Cond c m (Some (first ns)))) (first_fits ns f)) h.waits));
        says = none_fits said says.0;
        short = says.1;
      }
  answered_fits (dce.CondSignal c) ns f =
      let o : Signalled = signal st.conds st.rows c in
      plain k word.CondSignal (signals_one st o o.waiter) (omega arith) (signals_say st o o.waiter (made_none (has st.conds.made c.0))) (signals_hold k st o o.waiter (waits_left st.conds.waits _ h.waits) h)
  answered_fits (dce.CondBroadcast c) ns f =
      let o : Notified = broadcast (rank_of st) st.conds st.locks st.rows c in
      plain k word.CondBroadcast _ (omega arith) (made_none (has st.conds.made c.0)) (record {
        threads = h.threads;
        next = h.next;
        left = h.left;
        debts = all_owe_fits st.debts (Return reply.Done) (map (λ w. w.0) o.woken.woken) tt h.debts;
        waits = woken_waits (rank_of st) st.conds st.locks st.rows _ h.waits;
        keys = h.keys;
        pipes = h.pipes;
        shared = h.shared;
      })
  answered_fits (dce.Once o routine) ns f = plain k word.Once _ (omega arith) (enter_says (get st.onces.blocks o.0) t) (with_keys k st h _ h.keys)
  answered_fits (dce.Keycreate key d) ns f =
      plain k word.Keycreate _ (omega arith) (making_none (has st.onces.keys key.0)) (with_keys k st h _ (each_put_if KeyFits st.onces.keys key.0 _ (new_key_fits (not (has st.onces.keys key.0)) d) h.keys))
  answered_fits (dce.Setspecific key e) ns f =
      plain k word.Setspecific _ (omega arith) (made_none (has st.onces.keys key.0)) (with_keys k st h _ (set_keys st.onces.keys key.0 t (first ns) (first_fits ns f) h.keys))
  answered_fits (dce.Getspecific key v) ns f = number k word.Getspecific _ (omega arith) (value_says (get st.onces.keys key.0) t (if_there KeyFits st.onces.keys key.0 (get st.onces.keys key.0) refl h.keys)) h
  answered_fits (dce.Read p v w) ns f =
      let o : ReadReply = read st.pipes st.rows p t (rank_of st t) in
      let x : Pipe = pipe_at st.pipes p in
      number k word.Read _ (omega arith) (read_says x.items x.is_open (pipe_fits st.pipes p pipes_of))
      (woken_holds k (record st { pipes = o.pipes }) o.rows reply.Done o.relieved tt (with_pipes k st h o.pipes (read_fits p (rank_of st t))))
  answered_fits (dce.Write p e) ns f =
      let o : WriteReply = write st.pipes st.rows p (first ns) t (rank_of st t) in
      plain k word.Write _ (omega arith) (write_says (pipe_at st.pipes p) o.reader)
      (woken_holds k (record st { pipes = o.pipes }) o.rows (reply.Value (first ns)) o.reader (first_fits ns f) (with_pipes k st h o.pipes (write_fits p (first ns) (rank_of st t) (first_fits ns f))))
  answered_fits (dce.Close p) ns f =
      let o : Closed = close_out (rank_of st) st.pipes st.rows p in
      plain k word.Close _ (omega arith) (close_says (pipe_at st.pipes p).is_open) (record {
        threads = h.threads;
        next = h.next;
        left = h.left;
        debts = all_owe_fits (all_owe st.debts (Return reply.Eof) o.readers) (Return reply.Epipe) o.writers tt (all_owe_fits st.debts (Return reply.Eof) o.readers tt h.debts);
        waits = h.waits;
        keys = h.keys;
        pipes = close_fits p;
        shared = h.shared;
      })
