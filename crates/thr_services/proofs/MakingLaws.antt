-- Threads that are created.
use Rattle.std.proofs.Common.{◌≡◌, ℕ, ◌<◌, ◌≤◌, Bool, true, false, cond, eqb, ltb, ℤ, pos, length, Option, Some, None, refl, sym, arith, ◌∙◌, ap}
use Rattle.std.proofs.lemmas.Bool.Decides.{nat_tests}
use Rattle.std.specs.Option.{option_map}
use Rattle.thr_values.specs.declared.number.Tid.{Tid}
use Rattle.thr_values.specs.declared.number.NameId.{NameId}
use Rattle.thr_values.specs.declared.reply.Reply.{Reply}
use Rattle.thr_values.specs.declared.reply.Reply.TheVariants as reply
use Rattle.thr_parts.specs.declared.thread.Attr.{Attr}
use Rattle.thr_parts.specs.declared.thread.Thread.{Thread}
use Rattle.thr_parts.specs.Tables.{get, put_if, keep_if, IsCanonical}
use Rattle.thr_parts.specs.Replies.{is_value}
use Rattle.thr_parts.specs.Rows.{Rows, most}
use Rattle.thr_parts.specs.Threads.{Threads, ThreadsReply, record_of, record_at, attr_at, create_reply, created_by, create}
use Rattle.thr_parts.proofs.TableLaws.{get_put}
use Rattle.thr_parts.proofs.LengthLaws.{not_longer}
use Rattle.thr_services.specs.Cancelling.{SeatsHaveRecords}

same_value : (n k : ℤ) → reply.Value n ≡ reply.Value k → n ≡ k
same_value n k e = cc

made_if : (b : Bool) (k : ℕ) (n : ℤ) → cond b (reply.Value (pos k)) reply.Eagain ≡ reply.Value n → (b ≡ true) × (pos k ≡ n)
made_if true k n e = (refl, same_value (pos k) n e)
made_if false k n e = absurd (cc)

-- Where a thread was made, there was room for its record, and the reply is its number.
made : (ths : Threads) (o : Option Attr) (n : ℤ) → create_reply ths o ≡ reply.Value n → (ltb (length ths.records) most ≡ true) × (pos ths.next ≡ n)
made ths None n e = absurd (cc)
made ths (Some a) n e = made_if (ltb (length ths.records) most) ths.next n e

itself : (x : ℕ) → eqb x x ≡ true
itself x = grind (arith, nat_tests)

there : {A : Type 0} (b : Bool) (v : A) (o : Option A) → b ≡ true → cond b (Some v) o ≡ None → ⊥
there true v o is e = absurd (cc)
there false v o is e = absurd (cc)

known_by : (ths : Threads) (maker : Option Thread) (o : Option Attr) (n : ℤ) → create_reply ths o ≡ reply.Value n
    → get (put_if ths.records ths.next (keep_if (is_value (create_reply ths o)) (option_map (created_by ths.next maker) o))) ths.next ≡ None → ⊥
known_by ths maker None n e h = absurd (cc)
known_by ths maker (Some a) n e h =
    there (eqb ths.next ths.next) (created_by ths.next maker a) (get ths.records ths.next) (itself ths.next)
    (sym (get_put ths.records ths.next ths.next (created_by ths.next maker a))
    ∙ ap (λ y. get (put_if ths.records ths.next (keep_if (is_value y) (Some (created_by ths.next maker a)))) ths.next) (sym e) ∙ h)

-- The thread that was made has a record.
pub made_is_known : (ths after : Threads) (t : Tid) (a : Option NameId) (y : Reply) (n : ℤ) → (let o : ThreadsReply = record { reply = y; threads = after } in o) ≡ create ths t a → y ≡ reply.Value n
    → record_of after n ≡ None → ⊥
made_is_known ths after t a y n e value h =
    let said : create_reply ths (attr_at ths a) ≡ reply.Value n = sym (ap (λ (o : ThreadsReply). o.reply) e) ∙ value in
    let number : pos ths.next ≡ n = (made ths (attr_at ths a) n said).1 in
    known_by ths (record_at ths t) (attr_at ths a) n said
    (sym (ap (λ (o : ThreadsReply). get o.threads.records ths.next) e) ∙ ap (record_of after) number ∙ h)

less_from : (n k : ℕ) → ltb n k ≡ true → n < k
less_from n k h = grind (arith, nat_tests)

below : (n k l : ℕ) → n ≤ k → k < l → n < l
below n k l h g = omega (arith, h, g)

-- There is room for it in the rows.
pub made_has_room : (ths after : Threads) (rs : Rows) (t : Tid) (a : Option NameId) (y : Reply) (n : ℤ) → (let o : ThreadsReply = record { reply = y; threads = after } in o) ≡ create ths t a → y ≡ reply.Value n
    → SeatsHaveRecords ths rs → IsCanonical rs.seats → length rs.seats < most
made_has_room ths after rs t a y n e value recorded h =
    below (length rs.seats) (length ths.records) most (not_longer rs.seats ths.records h recorded.recorded)
    (less_from (length ths.records) most (made ths (attr_at ths a) n (sym (ap (λ (o : ThreadsReply). o.reply) e) ∙ value)).0)
