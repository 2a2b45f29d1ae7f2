-- The journal of a legal history has the form of a journal.
use Rattle.std.proofs.Common.{◌≡◌, ℕ, ◌≤◌, ◌<◌, true, ◌&&◌, List, [], ◌∷◌, Some, None, refl, subst, arith}
use Rattle.std.specs.List.{list_all}
use Rattle.thr_laws.proofs.ReadingLaws.{and_both}
use Rattle.std.proofs.lemmas.Bool.Decides.{nat_tests}
use Rattle.thr_values.specs.declared.call.Arg.{Arg}
use Rattle.thr_values.specs.declared.call.CallWord.{CallWord}
use Rattle.thr_values.specs.declared.event.Stop.{Stop}
use Rattle.thr_values.specs.declared.exception.Exc.{Exc}
use Rattle.thr_values.specs.declared.exception.Exc.TheVariants.{Address, Status}
use Rattle.thr_values.specs.declared.history.Entry.{Entry}
use Rattle.thr_values.specs.declared.history.What.{What}
use Rattle.thr_values.specs.declared.history.What.TheVariants as what
use Rattle.thr_values.specs.declared.history.Who.{Who}
use Rattle.thr_values.specs.declared.history.Who.TheVariants as who
use Rattle.thr_values.specs.declared.number.Tid.{Tid}
use Rattle.thr_values.specs.declared.reply.Reply.{Reply}
use Rattle.thr_values.specs.declared.reply.Reply.TheVariants as reply
use Rattle.thr_syntax.specs.declared.journal.Journal.{Journal}
use Rattle.thr_syntax.specs.declared.tree.Script.{Script}
use Rattle.thr_text.specs.declared.object.Object.TheVariants as object
use Rattle.thr_text.specs.Reading.{Formed}
use Rattle.thr_trees.specs.Kinds.{is_name_of}
use Rattle.thr_model.specs.Histories.{Legal}
use Rattle.thr_verdict.specs.Places.{fits_32, fits_64, fits_signed, have_their_form}
use Rattle.thr_verdict.specs.FormedJournals.{fits_what, is_formed_reply, is_formed_exception, is_formed_what, is_formed_line, FormedJournal}
use Rattle.thr_sizes.proofs.Values.{ExcFits}
use Rattle.thr_sizes.proofs.Fitting.{ReplyFits, CallFits, LineFits}
use Rattle.thr_sizes.proofs.Turns.{WhoFits, EntriesFit}
use Rattle.thr_sizes.proofs.Lengths.{IsLow, AreLow, LegalFits, legal_fits}
use Rattle.thr_formed.proofs.Named.{ExcNamed, LineNamed, WhoNamed, EntriesNamed}
use Rattle.thr_formed.proofs.Arguments.{signed, ArgsFit, arguments_fit, call_formed}
use Rattle.thr_formed.proofs.Histories.{history_named}

low_32 : (n k : ℕ) → n ≤ k → k < 1000000000 → fits_32 n ≡ true
low_32 n k h less = grind (arith, nat_tests)

low_64 : (n k : ℕ) → n ≤ k → k < 1000000000 → fits_64 n ≡ true
low_64 n k h less = grind (arith, nat_tests)

few_32 : (p n : ℕ) → p < n → n ≤ 16 → fits_32 p ≡ true
few_32 p n h few = grind (arith, nat_tests)

below_32 : (n : ℕ) → n < 10000000 → fits_32 n ≡ true
below_32 n h = grind (arith, nat_tests)

reply_formed : (y : Reply) → ReplyFits y → is_formed_reply y ≡ true
reply_formed (reply.Value n) h = signed n h
reply_formed _ h = refl

call_numbers : (c : CallWord) (args : List Arg) (y : Reply) → CallFits c args y → ArgsFit args
call_numbers c args y h = subst ArgsFit h.are_arguments (arguments_fit h.call h.values h.fit)

module _ (s : Script) where
  exception_formed : (x : Exc) → ExcNamed s x → ExcFits x → is_formed_exception s x ≡ true
  exception_formed (Address name) h f = h
  exception_formed (Status n) h f = signed n f

  thread_fits : (t : Tid) (w : What) → LineNamed s w → fits_32 t.0 ≡ true → fits_what w (who.Thread t) ≡ true
  thread_fits t (what.Run u) h low = absurd h
  thread_fits t (what.Clock n) h low = absurd h
  thread_fits t _ h low = low

  module _ (k : ℕ) (small : k < 1000000000) where
    -- The numbers and the names of a thread's line.
    what_formed : (w : What) → LineNamed s w → LineFits k w → is_formed_what s w ≡ true
    unfolding is_formed_what
    what_formed (what.Run t) h f = absurd h
    what_formed (what.Clock n) h f = absurd h
    what_formed (what.Call c args y) h f = and_both (have_their_form s c args) (is_formed_reply y) (call_formed s c args h (call_numbers c args y f)) (reply_formed y f.says)
    what_formed (what.Ret y) h f = reply_formed y f
    what_formed (what.Gift None) h f = refl
    what_formed (what.Gift (Some m)) h f = h
    what_formed (what.Say v) h f = signed v f
    what_formed (what.Set l v) h f = and_both (fits_32 l.0) (fits_signed v) (low_32 l.0 k f.0 small) (signed v f.1)
    what_formed (what.If l v) h f = and_both (fits_32 l.0) (fits_signed v) (low_32 l.0 k f.0 small) (signed v f.1)
    what_formed (what.While l v) h f = and_both (fits_32 l.0) (fits_signed v) (low_32 l.0 k f.0 small) (signed v f.1)
    what_formed (what.CallAt l v) h f = and_both (fits_32 l.0) (fits_signed v) (low_32 l.0 k f.0 small) (signed v f.1)
    what_formed (what.Return l v) h f = and_both (fits_32 l.0) (fits_signed v) (low_32 l.0 k f.0 small) (signed v f.1)
    what_formed (what.Raise n x) h f = and_both (fits_64 n) (is_formed_exception s x) (low_64 n k f.0 small) (exception_formed x h f.1)
    what_formed (what.Reraise n x) h f = and_both (fits_64 n) (is_formed_exception s x) (low_64 n k f.0 small) (exception_formed x h f.1)
    what_formed (what.Deliver n l) h f = and_both (fits_64 n) (fits_32 l.0) (low_64 n k f.0 small) (low_32 l.0 k f.1 small)
    what_formed (what.Exit n v) h f = and_both (fits_64 n) (fits_signed v) (low_64 n k f.0 small) (signed v f.1)
    what_formed (what.Try o l) h f = and_both (fits_64 o) (fits_32 l.0) (low_64 o k f.0 small) (low_32 l.0 k f.1 small)
    what_formed (what.Endtry o) h f = low_64 o k f small
    what_formed (what.Catch o n l) h f =
        and_both (fits_64 o) (fits_64 n && fits_32 l.0) (low_64 o k f.0 small) (and_both (fits_64 n) (fits_32 l.0) (low_64 n k f.1.0 small) (low_32 l.0 k f.1.1 small))
    what_formed (what.Endcatch o) h f = low_64 o k f small
    what_formed (what.Finally o n) h f = and_both (fits_64 o) (fits_64 n) (low_64 o k f.0 small) (low_64 n k f.1 small)
    what_formed (what.Endfin o) h f = low_64 o k f small
    what_formed (what.Once o name) h f = and_both (fits_64 o) (is_name_of s object.Once name) (low_64 o k f small) h
    what_formed (what.Done o) h f = low_64 o k f small
    what_formed (what.Undone o n) h f = and_both (fits_64 o) (fits_64 n) (low_64 o k f.0 small) (low_64 n k f.1 small)
    what_formed (what.Destroy o name v) h f =
        and_both (fits_64 o) (is_name_of s object.Key name && fits_signed v) (low_64 o k f.0 small) (and_both (is_name_of s object.Key name) (fits_signed v) h (signed v f.1))
    what_formed (what.Enddes o) h f = low_64 o k f small
    what_formed (what.Lost o n) h f = and_both (fits_64 o) (fits_64 n) (low_64 o k f.0 small) (low_64 n k f.1 small)
    what_formed (what.Bottom n v) h f = and_both (fits_64 n) (fits_signed v) (low_64 n k f.0 small) (signed v f.1)
    what_formed what.Pause h f = refl
    what_formed (what.End v) h f = signed v f

    line_formed : (n : ℕ) → n ≤ 16 → (w : Who) (x : What) → WhoNamed s w x → WhoFits n w → LineFits k x → IsLow w → (fits_what x w && is_formed_what s x) ≡ true
    unfolding is_formed_what
    line_formed n few (who.Proc p) (what.Run t) h i f low = and_both (fits_32 p) (fits_32 t.0) (few_32 p n i few) (low_32 t.0 k f small)
    line_formed n few (who.Proc p) _ h i f low = absurd h
    line_formed n few (who.Thread t) x h i f low = and_both (fits_what x (who.Thread t)) (is_formed_what s x) (thread_fits t x h (below_32 t.0 low)) (what_formed x h f)
    line_formed n few who.Clock (what.Clock m) h i f low = signed m f
    line_formed n few who.Clock _ h i f low = absurd h

    lines_formed : (n : ℕ) → n ≤ 16 → (es : List Entry) → EntriesNamed s es → EntriesFit n k es → AreLow es → list_all (is_formed_line s) es ≡ true
    lines_formed n few [] h f low = refl
    lines_formed n few (e ∷ es) h f low =
        and_both (is_formed_line s e) (list_all (is_formed_line s) es) (line_formed n few e.who e.what h.0 f.0.0 f.0.1 low.0) (lines_formed n few es h.1 f.1 low.1)

-- The journal with these fields.
abbrev pub journal_of : Script → ℕ → List Entry → Stop → Journal
journal_of s n entries stop = record { workers = n; script = s; entries = entries; stop = stop }

pub legal_formed : (s : Script) (n : ℕ) (entries : List Entry) (stop : Stop) → Formed s → 1 ≤ n → n ≤ 16 → Legal s n entries stop → FormedJournal (journal_of s n entries stop)
legal_formed s n entries stop formed some few legal =
    let fits : LegalFits n entries stop = legal_fits s n entries stop formed legal in record {
      some_worker = some;
      few_workers = few;
      script = formed;
      lines = lines_formed s fits.highest fits.small n few entries (subst (EntriesNamed s) legal.lines (history_named s formed legal.history)) fits.lines fits.low;
      stop = fits.ends;
    }
