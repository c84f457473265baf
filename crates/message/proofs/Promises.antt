-- Promises on both messages, for any bus: a refused message changes nothing; an accepted one is the run of its events, each of them done; a well-formed bus stays well formed;
-- of the lent buffer only the part from the place on changes.
use Rattle.std.specs.Prelude.{◌≡◌, true, List, map, ℕ, ◌+◌, ◌≤◌, eqb, length, take, drop}
use Rattle.std.proofs.Math.Path.{refl, sym}
use Rattle.std.proofs.Common.{eqb-true}
use Rattle.basics.specs.First.{all}
use Rattle.basics.specs.laws.Logic.{tested, holds, fails}
use Rattle.refusals.specs.laws.Refusals.{NoneHolds, Exact}
use Rattle.bus.specs.Devices.{bus_ok}
use Rattle.bus.specs.Replies.{refused_with}
use Rattle.bus.specs.Events.{run_bus, run_replies}
use Rattle.bus.proofs.Promises.{run_well}
use Rattle.bus.proofs.laws.Replies.{answer_bus, answer_exact, answer_done, answer_refused}
use Rattle.bus.specs.declared.Bus.{Bus}
use Rattle.bus.specs.declared.Event.TheVariants.{Signal}
use Rattle.message.specs.Message.{message_done}
use Rattle.message.specs.Write.{write_events, write_refusals, write_reply}
use Rattle.message.specs.Read.{read_head, read_events, read_refusals, read_reply, bytes_got, stored, buffer_after}
use Rattle.message.proofs.laws.Gets.{got_length}
use Rattle.message.proofs.laws.Buffer.{read_fits, buffer_stored, buffer_kept, placed_length, placed_before, placed_after, placed_there}
use Rattle.message.proofs.laws.Turns.{is_done, is_byte, write_done, read_done}

-- ---- the write

module _ (b : Bus) (address : ℕ) (bytes : List ℕ) where
  -- a code other than 0 is given exactly when its condition holds and no smaller one's does
  pub write_exact : Exact (write_refusals b address) (write_reply b address bytes).code
  unfolding write_reply
  write_exact = answer_exact (write_refusals b address) b _ refl

  write_accepted : (write_reply b address bytes).code ≡ 0 → NoneHolds (write_refusals b address) × (write_reply b address bytes ≡ message_done b (write_events address bytes))
  unfolding write_reply
  write_accepted = answer_done (write_refusals b address) b _ refl refl

  pub write_is_run : (write_reply b address bytes).code ≡ 0 → write_reply b address bytes ≡ message_done b (write_events address bytes)
  write_is_run z = (write_accepted z).1

  -- no event inside it is refused; the lent bytes are bytes
  pub write_all_done : all is_byte bytes ≡ true → (write_reply b address bytes).code ≡ 0 → all is_done (run_replies b (map Signal (write_events address bytes))) ≡ true
  write_all_done h z = write_done b address bytes h (write_accepted z).0

  pub write_refused : ((write_reply b address bytes).code ≡ 0 → ⊥) → write_reply b address bytes ≡ refused_with b (write_reply b address bytes).code
  unfolding write_reply
  write_refused = answer_refused (write_refusals b address) b _ refl

  pub write_well : bus_ok b ≡ true → bus_ok (write_reply b address bytes).bus ≡ true
  unfolding write_reply
  write_well ok =
      answer_bus (write_refusals b address) b _ (λ (x : Bus). bus_ok x ≡ true) refl ok
      (λ none. run_well b (map Signal (write_events address bytes)) ok)

-- ---- the read

module _ (b : Bus) (address control n place : ℕ) (buffer : List ℕ) where
  pub read_exact : Exact (read_refusals b address control n place (length buffer)) (read_reply b address control n place (length buffer)).code
  unfolding read_reply
  read_exact = answer_exact (read_refusals b address control n place (length buffer)) b _ refl

  read_accepted : (read_reply b address control n place (length buffer)).code ≡ 0 → NoneHolds (read_refusals b address control n place (length buffer)) × (read_reply b address control n place (length buffer) ≡ message_done b (read_events address control n))
  unfolding read_reply
  read_accepted = answer_done (read_refusals b address control n place (length buffer)) b _ refl refl

  pub read_is_run : (read_reply b address control n place (length buffer)).code ≡ 0 → read_reply b address control n place (length buffer) ≡ message_done b (read_events address control n)
  read_is_run z = (read_accepted z).1

  pub read_all_done : (read_reply b address control n place (length buffer)).code ≡ 0 → all is_done (run_replies b (map Signal (read_events address control n))) ≡ true
  read_all_done z = read_done b address control n place buffer (read_accepted z).0

  -- the bus and every lent byte as before
  pub read_refused : ((read_reply b address control n place (length buffer)).code ≡ 0 → ⊥) → (read_reply b address control n place (length buffer) ≡ refused_with b (read_reply b address control n place (length buffer)).code) × (buffer_after b address control n place buffer ≡ buffer)
  unfolding read_reply
  read_refused m = (
    answer_refused (read_refusals b address control n place (length buffer)) b _ refl m,
    sym (buffer_kept b address control n place buffer (read_reply b address control n place (length buffer)) refl m),
  )

  pub read_well : bus_ok b ≡ true → bus_ok (read_reply b address control n place (length buffer)).bus ≡ true
  unfolding read_reply
  read_well ok =
      answer_bus (read_refusals b address control n place (length buffer)) b _ (λ (x : Bus). bus_ok x ≡ true) refl ok
      (λ none. run_well b (map Signal (read_events address control n)) ok)

  -- ---- the lent buffer

  accepted_fits : (read_reply b address control n place (length buffer)).code ≡ 0 → place + n ≤ length buffer
  accepted_fits z = (read_fits b address control n place buffer (read_accepted z).0).inside

  -- what holds of the buffer as it was, and with the bytes got stored in it, holds of it afterwards
  afterwards : (P : List ℕ → Type 0) → P buffer → (place + n ≤ length buffer → P (stored b address control n place buffer)) → P (buffer_after b address control n place buffer)
  unfolding buffer_after
  afterwards P p q =
      let code = (read_reply b address control n place (length buffer)).code in
      elim (tested (eqb code 0)) [ holds e ↦ rw e (q (accepted_fits (eqb-true code 0 e))) | fails e ↦ rw e p ]

  got_n : length (bytes_got b address control n) ≡ n
  got_n = got_length (run_bus b (map Signal (read_head address control))) n n

  pub length_kept : length (buffer_after b address control n place buffer) ≡ length buffer
  length_kept =
      afterwards (λ (x : List ℕ). length x ≡ length buffer) refl (λ h. placed_length buffer _ place n h got_n)

  pub before_kept : take place (buffer_after b address control n place buffer) ≡ take place buffer
  before_kept =
      afterwards (λ (x : List ℕ). take place x ≡ take place buffer) refl (λ h. placed_before buffer _ place n h got_n)

  pub after_kept : drop (place + n) (buffer_after b address control n place buffer) ≡ drop (place + n) buffer
  after_kept =
      afterwards (λ (x : List ℕ). drop (place + n) x ≡ drop (place + n) buffer) refl
      (λ h. placed_after buffer _ place n h got_n)

  -- the part from the place on holds the bytes got, in order
  pub part_got : (read_reply b address control n place (length buffer)).code ≡ 0 → take n (drop place (buffer_after b address control n place buffer)) ≡ bytes_got b address control n
  part_got z =
      rw (← buffer_stored b address control n place buffer _ refl z)
      (placed_there buffer (bytes_got b address control n) place n (accepted_fits z) got_n)
