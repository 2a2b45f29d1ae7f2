-- Lines that lead from what the state keeps of a lock to what it keeps after them.
use Rattle.std.proofs.Common.{◌≡◌, ℕ, ℤ, Bool, true, List, [], ◌∷◌, ◌++◌, map, Option, Some, None, refl, sym, ap, ◌∙◌, subst}
use Rattle.std.specs.Prelude.{⊤}
use Rattle.std.specs.List.{fold}
use Rattle.std.proofs.lemmas.List.Sums.{fold-append}
use Rattle.thr_values.specs.declared.number.Tid.{Tid}
use Rattle.thr_values.specs.declared.call.Arg.{Arg}
use Rattle.thr_values.specs.declared.call.CallWord.{CallWord}
use Rattle.thr_values.specs.declared.call.CallWord.TheVariants as word
use Rattle.thr_values.specs.declared.history.What.{What}
use Rattle.thr_values.specs.declared.history.What.TheVariants as what
use Rattle.thr_values.specs.declared.history.Entry.{Entry}
use Rattle.thr_values.specs.declared.reply.Kind.{Kind}
use Rattle.thr_values.specs.declared.reply.Reply.{Reply}
use Rattle.thr_values.specs.declared.reply.Reply.TheVariants as reply
use Rattle.thr_parts.specs.declared.mutex.Mutex.{Mutex}
use Rattle.thr_parts.specs.Tables.{Table, get}
use Rattle.thr_model.specs.Turns.{thread_line}
use Rattle.thr_model.specs.Events.{run_line, clock_line}
use Rattle.thr_laws.specs.Lines.{fits}
use Rattle.thr_laws.specs.Owners.{Lock, Use, Nothing, use_of, use_by_call, use_done, use_valued, use_blocked, Cells, cells_after, cells_done, kind_after, kind_done, kind_in, Owner, owner_after, held_after, may_use, may_use_by}
use Rattle.thr_laws.specs.Owners as told
use Rattle.thr_laws.proofs.ReadingLaws.{both, and_both}
use Rattle.thr_owners.specs.Told.{IsKind, IsTold, View, Agrees}

-- ---- along the lines

-- Each line fits, and what is known after them agrees with this.
pub record Carried (lock : Lock) (h : told.Held) (after : View) (lines : List Entry) : Type 0 where
  pub fit : fits (held_after lock) (λ h e. may_use_by lock h e.who e.what) h lines ≡ true
  pub agrees : Agrees after (fold (held_after lock) h lines)

-- The lines lead from this to that, whatever is known before that agrees.
abbrev pub Carries : Lock → View → View → List Entry → Type 0
Carries lock before after lines = (h : told.Held) → Agrees before h → Carried lock h after lines

fits_append : {A B : Type 0} (next : A → B → A) (test : A → B → Bool) (a : A) (xs ys : List B) → fits next test a xs ≡ true → fits next test (fold next a xs) ys ≡ true → fits next test a (xs ++ ys) ≡ true
fits_append next test a [] ys p q = q
fits_append next test a (x ∷ xs) ys p q =
    let b = both (test a x) (fits next test (next a x) xs) p in
    and_both (test a x) (fits next test (next a x) (xs ++ ys)) b.0 (fits_append next test (next a x) xs ys b.1 q)

-- No line.
pub no_line : (lock : Lock) (v : View) → Carries lock v v []
no_line lock v h g = record { fit = refl; agrees = g }

-- Lines, and lines after them.
pub then_lines : (lock : Lock) (a b c : View) (xs ys : List Entry) → Carries lock a b xs → Carries lock b c ys → Carries lock a c (xs ++ ys)
then_lines lock a b c xs ys p q h g =
    let one : Carried lock h b xs = p h g in
    let two : Carried lock (fold (held_after lock) h xs) c ys = q (fold (held_after lock) h xs) one.agrees in record {
      fit = fits_append (held_after lock) (λ h e. may_use_by lock h e.who e.what) h xs ys one.fit two.fit;
      agrees = subst (λ k. Agrees c k) (sym (fold-append (held_after lock) h xs ys)) two.agrees;
    }

-- ---- one line of a thread

-- What a line does with locks; it tells of no kind.
pub record Does (w : What) (u : Use) : Type 0 where
  pub using : use_of w ≡ u
  pub cells : (cells : Cells) → cells_after w cells ≡ cells
  pub kind : (lock : Lock) (cells : Cells) (kind : Kind) → kind_after lock w cells kind ≡ kind

-- The thread may do this with the lock, and what is told then is this.
pub record Uses (lock : Lock) (t : ℕ) (u : Use) (kind : Kind) (owner : Option Owner) (after : Option Mutex) : Type 0 where
  pub may : may_use lock kind owner t u ≡ true
  pub lock_told : IsTold after kind (owner_after lock t u owner)

-- Whatever is told before that is so.
abbrev pub AllUse : Lock → ℕ → Use → Option Mutex → Option Mutex → Type 0
AllUse lock t u before after = (kind : Kind) (owner : Option Owner) → IsTold before kind owner → Uses lock t u kind owner after

pub line_carries : (lock : Lock) (t : Tid) (w : What) (u : Use) (kinds : Table Kind) (before after : Option Mutex) → Does w u → AllUse lock t.0 u before after
    → (let a : View = record { kinds = kinds; mutex = before } in let b : View = record { kinds = kinds; mutex = after } in Carries lock a b (thread_line t w ∷ []))
line_carries lock t w u kinds before after d all h g =
    let x : Uses lock t.0 u h.kind h.owner after = all h.kind h.owner g.lock in record {
      fit = and_both (may_use lock h.kind h.owner t.0 (use_of w)) true (ap (may_use lock h.kind h.owner t.0) d.using ∙ x.may) refl;
      agrees = record {
        cells = λ c. subst (λ cs. IsKind (get kinds c) (kind_in cs c)) (sym (d.cells h.cells)) (g.cells c);
        lock =
            subst (λ k. IsTold after k (owner_after lock t.0 (use_of w) h.owner)) (sym (d.kind lock h.cells h.kind))
            (subst (λ v. IsTold after h.kind (owner_after lock t.0 v h.owner)) (sym d.using) x.lock_told);
      };
    }

-- ---- lines that do nothing with locks

-- The call does nothing with locks, and tells of no kind.
abbrev pub IsAsideCall : CallWord → Type 0
IsAsideCall word.MutexattrCreate = ⊥
IsAsideCall word.MutexattrSetkindNp = ⊥
IsAsideCall word.MutexInit = ⊥
IsAsideCall word.MutexLock = ⊥
IsAsideCall word.MutexTrylock = ⊥
IsAsideCall word.MutexUnlock = ⊥
IsAsideCall word.LockGlobalNp = ⊥
IsAsideCall word.UnlockGlobalNp = ⊥
IsAsideCall word.CondWait = ⊥
IsAsideCall word.CondTimedwait = ⊥
IsAsideCall _ = ⊤

-- The line does nothing with locks, and tells of no kind.
abbrev pub IsAside : What → Type 0
IsAside (what.Call call args r) = IsAsideCall call
IsAside (what.Gift lock) = ⊥
IsAside _ = ⊤

done : (call : CallWord) (args : List Arg) → IsAsideCall call → use_done call args ≡ Nothing
done word.MutexLock args h = absurd h
done word.MutexUnlock args h = absurd h
done word.LockGlobalNp args h = absurd h
done word.UnlockGlobalNp args h = absurd h
done _ args h = refl

valued : (b : Bool) (call : CallWord) (args : List Arg) → IsAsideCall call → use_valued b call args ≡ Nothing
valued b word.MutexTrylock args h = absurd h
valued b _ args h = refl

blocked : (call : CallWord) (args : List Arg) → IsAsideCall call → use_blocked call args ≡ Nothing
blocked word.CondWait args h = absurd h
blocked word.CondTimedwait args h = absurd h
blocked _ args h = refl

no_use : (r : Reply) (call : CallWord) (args : List Arg) → IsAsideCall call → use_by_call r call args ≡ Nothing
no_use reply.Done call args h = done call args h
no_use (reply.Value v) call args h = valued _ call args h
no_use reply.Blocks call args h = blocked call args h
no_use _ call args h = refl

no_cell : (call : CallWord) (args : List Arg) (cells : Cells) → IsAsideCall call → cells_done call args cells ≡ cells
no_cell word.MutexattrCreate args cells h = absurd h
no_cell word.MutexattrSetkindNp args cells h = absurd h
no_cell _ args cells h = refl

no_kind : (lock : Lock) (call : CallWord) (args : List Arg) (cells : Cells) (kind : Kind) → IsAsideCall call → kind_done lock call args cells kind ≡ kind
no_kind None call args cells kind h = refl
no_kind (Some m) word.MutexInit args cells kind h = absurd h
no_kind (Some m) _ args cells kind h = refl

no_cell_after : (r : Reply) (call : CallWord) (args : List Arg) (cells : Cells) → IsAsideCall call → cells_after (what.Call call args r) cells ≡ cells
no_cell_after reply.Done call args cells h = no_cell call args cells h
no_cell_after _ call args cells h = refl

no_kind_after : (r : Reply) (lock : Lock) (call : CallWord) (args : List Arg) (cells : Cells) (kind : Kind) → IsAsideCall call → kind_after lock (what.Call call args r) cells kind ≡ kind
no_kind_after reply.Done lock call args cells kind h = no_kind lock call args cells kind h
no_kind_after _ lock call args cells kind h = refl

aside_does : (w : What) → IsAside w → Does w Nothing
aside_does (what.Call call args r) h = record {
  using = no_use r call args h;
  cells = λ cells. no_cell_after r call args cells h;
  kind = λ lock cells kind. no_kind_after r lock call args cells kind h;
}
aside_does (what.Gift lock) h = absurd h
aside_does _ h = record { using = refl; cells = λ cells. refl; kind = λ lock cells kind. refl }

pub aside_carries : (lock : Lock) (v : View) (t : Tid) (w : What) → IsAside w → Carries lock v v (thread_line t w ∷ [])
aside_carries lock v t w h =
    line_carries lock t w Nothing v.kinds v.mutex v.mutex (aside_does w h) (λ kind owner a. record { may = refl; lock_told = a })

-- Each of these lines does nothing with locks.
abbrev pub AreAside : List What → Type 0
AreAside [] = ⊤
AreAside (w ∷ ws) = IsAside w × AreAside ws

pub all_aside : (lock : Lock) (v : View) (t : Tid) (ws : List What) → AreAside ws → Carries lock v v (map (thread_line t) ws)
all_aside lock v t [] h = no_line lock v
all_aside lock v t (w ∷ ws) h =
    then_lines lock v v v (thread_line t w ∷ []) (map (thread_line t) ws) (aside_carries lock v t w h.0) (all_aside lock v t ws h.1)

-- ---- lines of processors and of the clock

pub run_carries : (lock : Lock) (v : View) (p : ℕ) (t : Tid) → Carries lock v v (run_line p t ∷ [])
run_carries lock v p t h g = record { fit = refl; agrees = record { cells = g.cells; lock = g.lock } }

pub clock_carries : (lock : Lock) (v : View) (now : ℤ) → Carries lock v v (clock_line now ∷ [])
clock_carries lock v now h g = record { fit = refl; agrees = record { cells = g.cells; lock = g.lock } }
