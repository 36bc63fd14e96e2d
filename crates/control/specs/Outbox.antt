-- The messages of one call, and what sending one more does to them.
use Rattle.std.specs.Prelude.{List, [], ◌∷◌, ◌++◌, ◌≡◌, refl, ℕ, suc, ◌+◌, ◌<◌, ◌≤◌, ltb, length, set, take, replicate}
use Rattle.std.proofs.Common.{append-nil, append_assoc, sym, ◌∙◌, arith, add-one, lt-ltb, length-set, take-suc-set}
use Rattle.std.proofs.lemmas.List.{length-replicate}
use Rattle.base.specs.Choice.{pick}
use Rattle.config.specs.declared.PidPriority.TheVariants.{Fast}
use Rattle.control.specs.declared.DongleMessage.{DongleMessage}
use Rattle.control.specs.declared.DongleMessage.TheVariants.{SetPidPriority}
use Rattle.control.specs.declared.outbox.Outbox.{Outbox}

unfoldable pub empty_of : Outbox
empty_of = record { slots = replicate 257 (SetPidPriority 0 Fast); count = 0 }

unfoldable pub push_of : Outbox → DongleMessage → Outbox
push_of o m =
    pick (ltb o.count 257)
    (record { slots = set o.slots o.count m; count = o.count + 1 })
    o

-- Several messages, the first first.
unfoldable pub send_all : Outbox → List DongleMessage → Outbox
send_all o [] = o
send_all o (m ∷ ms) = send_all (push_of o m) ms

-- What an outbox says: its messages, in order.
unfoldable pub messages : Outbox → List DongleMessage
messages o = take o.count o.slots

pub send_append : (o : Outbox) (ms ns : List DongleMessage) → send_all o (ms ++ ns) ≡ send_all (send_all o ms) ns
unfolding send_all
send_append o [] ns = refl
send_append o (m ∷ ms) ns = send_append (push_of o m) ms ns

pub send_one : (o : Outbox) (m : DongleMessage) → send_all o (m ∷ []) ≡ push_of o m
unfolding send_all
send_one o m = refl

pub send_none : (o : Outbox) → send_all o [] ≡ o
unfolding send_all
send_none o = refl

-- An outbox whose array is whole and that holds n messages.
pub record Holds (o : Outbox) (n : ℕ) : Type 0 where
  pub whole : length o.slots ≡ 257
  pub many : o.count ≡ n

push_holds : (o : Outbox) (m : DongleMessage) (n : ℕ) → n < 257 → Holds o n → Holds (push_of o m) (suc n)
unfolding push_of
push_holds o m n h k =
    let a = k.many in
    let b = k.whole in
    rw (lt-ltb o.count 257 (omega arith)) (record { whole = simp length-set b; many = omega arith })

push_messages : (o : Outbox) (m : DongleMessage) (n : ℕ) → n < 257 → Holds o n → messages (push_of o m) ≡ messages o ++ (m ∷ [])
unfolding push_of messages
push_messages o m n h k =
    let a = k.many in
    let b = k.whole in
    rw (lt-ltb o.count 257 (omega arith), add-one, take-suc-set o.slots o.count m (omega arith))

-- Where there is room for them, messages sent stand behind those that were there.
pub send_messages : (ms : List DongleMessage) (o : Outbox) (n : ℕ) → n + length ms ≤ 257 → Holds o n → messages (send_all o ms) ≡ messages o ++ ms
unfolding send_all
send_messages [] o n h k = sym (append-nil (messages o))
send_messages (m ∷ ms) o n h k =
    send_messages ms (push_of o m) (suc n) (omega arith) (push_holds o m n (omega arith) k)
    ∙ (rw (push_messages o m n (omega arith) k) (append_assoc (messages o) (m ∷ []) ms))

pub send_holds : (ms : List DongleMessage) (o : Outbox) (n : ℕ) → n + length ms ≤ 257 → Holds o n → Holds (send_all o ms) (n + length ms)
unfolding send_all
send_holds [] o n h k = let e : n + 0 ≡ n = omega arith in rw e k
send_holds (m ∷ ms) o n h k =
    let e : n + suc (length ms) ≡ suc n + length ms = omega arith in
    rw e (send_holds ms (push_of o m) (suc n) (omega arith) (push_holds o m n (omega arith) k))

pub empty_holds : Holds empty_of 0
unfolding empty_of
empty_holds = record { whole = length-replicate 257 (SetPidPriority 0 Fast); many = refl }

pub empty_messages : messages empty_of ≡ []
unfolding messages empty_of
empty_messages = refl

-- What an outbox says into which these were sent from the start: all of them, and how many.
module _ (ms : List DongleMessage) (h : length ms ≤ 257) where
  pub sent_messages : messages (send_all empty_of ms) ≡ ms
  sent_messages = rw (send_messages ms empty_of 0 (omega arith) empty_holds, empty_messages)

  pub sent_count : (send_all empty_of ms).count ≡ length ms
  sent_count = let a = (send_holds ms empty_of 0 (omega arith) empty_holds).many in omega arith
