-- What the master hears from the device alone and from all: the value of an event on both.
use Rattle.std.specs.Prelude.{◌≡◌, Bool, false, ◌&&◌, ℕ, ◌≤◌, ◌<◌, length, take, refl, true, cond, eqb}
use Rattle.std.proofs.Common.{sym, ap, ◌∙◌, true≢false, arith, add-zero, eqb-true, lt-ltb, ne_eqb}
use Rattle.std.proofs.Math.Bool.{and_assoc}
use Rattle.std.proofs.lemmas.Bool.{false≢true}
use Rattle.basics.specs.Below.{all_below}
use Rattle.basics.specs.Bits.{bit, mask_first}
use Rattle.basics.specs.First.{and_first}
use Rattle.basics.specs.laws.Below.{below_at, below_and, below_alike}
use Rattle.basics.specs.laws.Bits.{first_bit, and_bit, no_bit}
use Rattle.basics.specs.laws.First.{and_bits, all_places}
use Rattle.chip.specs.declared.Chip.TheVariants.{Pca9635}
use Rattle.device.specs.Reset.{fresh}
use Rattle.totals.specs.declared.Record.{Record}
use Rattle.protocol.specs.Put.{acks_to}
use Rattle.protocol.specs.Read.{talk_of}
use Rattle.bus.specs.Devices.{has_device, device_at}
use Rattle.bus.specs.Place.{value_of}
use Rattle.bus.specs.Signals.{ack_set}
use Rattle.bus.specs.Events.{step_reply, step_done, put_reply}
use Rattle.bus.proofs.Promises.{refused_same}
use Rattle.bus.proofs.laws.Replies.{ok_count}
use Rattle.bus.proofs.laws.Steps.{done, below_count}
use Rattle.bus.specs.declared.Bus.{Bus}
use Rattle.bus.specs.declared.Event.{Event}
use Rattle.bus.specs.declared.Event.TheVariants as E
use Rattle.bus.specs.declared.SignalEvent.TheVariants as S
use Rattle.replay.proofs.laws.Timed.{step_by}
use Rattle.alone.specs.Alone.{only, alone, Present, concerns, renamed, is_transfer, get_reply}
use Rattle.alone.proofs.laws.Step.{alone_record, code_alone}

-- a bit of the byte that a get brings back; none where it is refused
get_bit : (x : Bus) (ack k : ℕ) → bit k (get_reply x ack).value ≡ (eqb (get_reply x ack).code 0 && bit k (and_first x.count talk_of x.devices))
unfolding step_done
get_bit x ack k =
    step_by x (E.Signal (S.Get ack)) (λ r. bit k r.value ≡ (eqb r.code 0 && bit k (and_first x.count talk_of x.devices))) (λ z n. refl)
    (λ n. rw (ne_eqb _ 0 n) (no_bit k))

module _ (i : ℕ) (b : Bus) (p : Present i b) where
  wide : b.count ≤ length b.devices
  wide = omega (arith, p.1.1, ok_count b (rw p.0 refl))

  -- what holds of 0 and 0, and of both values where the event is done, holds of both
  values_alone : (P : ℕ → ℕ → Type 0) (e : Event) → concerns i e ≡ true → P 0 0 → P (step_done (alone i b) (renamed e)).value (step_done b e).value → P (step_reply (alone i b) (renamed e)).value (step_reply b e).value
  values_alone P e o z d =
      let same = code_alone b i p.0 p.1.0 e o in
      step_by b e (λ r. P (step_reply (alone i b) (renamed e)).value r.value) (λ c n. rw (done (alone i b) (renamed e) (same ∙ c)).1 d)
      (λ n. rw (refused_same (alone i b) (renamed e) (λ c. n (sym same ∙ c))) z)

  -- ---- a put

  own_set : (byte : ℕ) → ack_set (alone i b) byte ≡ cond (acks_to b.phase byte (device_at b i)) 1 0
  unfolding only mask_first
  own_set byte = add-zero _

  in_set : (byte : ℕ) → bit i (ack_set b byte) ≡ acks_to b.phase byte (device_at b i)
  in_set byte =
      first_bit (acks_to b.phase byte) (fresh Pca9635 0) b.devices b.count i wide ∙ rw (lt-ltb i b.count (below_count b i p.1.0)) refl

  pub put_value : (byte : ℕ) → (put_reply (alone i b) byte).value ≡ cond (bit i (put_reply b byte).value) 1 0
  unfolding step_done
  put_value byte =
      values_alone (λ v w. v ≡ cond (bit i w) 1 0) (E.Signal (S.Put byte)) refl (rw (no_bit i) refl)
      (own_set byte ∙ ap (λ (x : Bool). cond x 1 0) (sym (in_set byte)))

  -- ---- a get

  module _ (ack k : ℕ) where
    abbrev answered : Bool
    answered = eqb (get_reply b ack).code 0 && bit k 255

    abbrev talked : ℕ → Bool
    talked j = bit k (talk_of (device_at b j))

    all_talk : bit k (get_reply b ack).value ≡ (answered && all_below b.count talked)
    unfolding and_first
    all_talk =
        get_bit b ack k
        ∙ ap (λ (t : Bool). eqb (get_reply b ack).code 0 && t) (and_bits talk_of k (take b.count b.devices) 255 ∙ ap (λ (t : Bool). bit k 255 && t) (sym (all_places (λ d. bit k (talk_of d)) _ b.count b.devices wide)))
        ∙ sym (and_assoc (eqb (get_reply b ack).code 0) (bit k 255) (all_below b.count talked))

    one_talks : (j : ℕ) → j < b.count → bit k (get_reply (alone j b) ack).value ≡ (answered && talked j)
    unfolding only and_first
    one_talks j l =
        let there : has_device b j ≡ true = rw (lt-ltb j b.count l, lt-ltb j 8 (omega (arith, ok_count b (rw p.0 refl)))) refl in
        get_bit (alone j b) ack k
        ∙ rw (code_alone b j p.0 there (E.Signal (S.Get ack)) refl, and_bit k 255 (talk_of (device_at b j))) (sym (and_assoc (eqb (get_reply b ack).code 0) (bit k 255) (talked j)))

    pub get_all : bit k (get_reply b ack).value ≡ all_below b.count (λ j. bit k (get_reply (alone j b) ack).value)
    get_all =
        all_talk ∙ sym (below_and answered talked b.count (omega (arith, below_count b i p.1.0))) ∙ sym (below_alike _ _ b.count one_talks)

    pub get_value : bit k (get_reply b ack).value ≡ true → bit k (get_reply (alone i b) ack).value ≡ true
    get_value e = below_at (λ j. bit k (get_reply (alone j b) ack).value) i b.count (below_count b i p.1.0) (sym get_all ∙ e)

  -- ---- any other event

  done_same : (e : Event) → concerns i e ≡ true → is_transfer e ≡ false → (step_done (alone i b) (renamed e)).value ≡ (step_done b e).value
  unfolding step_done
  done_same (E.Add chip addr) o n = absurd (false≢true o)
  done_same (E.Signal S.Start) o n = refl
  done_same (E.Signal S.Stop) o n = refl
  done_same (E.Signal (S.Put byte)) o n = absurd (true≢false n)
  done_same (E.Signal (S.Get ack)) o n = absurd (true≢false n)
  done_same (E.Change dev c) o n = refl
  done_same (E.Ask dev q) o n =
      ap (λ (r : Record). value_of r.device q) (alone_record b i p.0 p.1.0)
      ∙ ap (λ (j : ℕ). value_of (device_at b j) q) (sym (eqb-true dev i o))

  pub other_value : (e : Event) → concerns i e ≡ true → is_transfer e ≡ false → (step_reply (alone i b) (renamed e)).value ≡ (step_reply b e).value
  other_value e o n = values_alone (λ v w. v ≡ w) e o refl (done_same e o n)
