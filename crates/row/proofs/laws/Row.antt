-- A signal on a row, from the phase and the records alone: what a bus answers depends on its phase, its count and its records, and not on the places past the count.
use Rattle.std.specs.Prelude.{◌≡◌, Bool, true, false, not, ◌&&◌, cond, List, [], ◌∷◌, ◌++◌, map, ltb, eqb, length, take, drop, get_or}
use Rattle.std.proofs.Math.Path.{refl, sym, ap}
use Rattle.std.proofs.Common.{◌∙◌, ⊎_elim, arith, length-append, take-suc, le-ltb, le-leb, ltb-false, eqb-true, eq-eqb, ne_eqb}
use Rattle.std.proofs.Math.Bool.{and-false}
use Rattle.std.proofs.lemmas.List.{map-append, length-map, get_or-replicate}
use Prim.Native.Nat.{ℕ, zero, suc, ◌+◌, ◌*◌, ◌≤◌}
use Rattle.std.proofs.Math.ListN.{get_or-eq_default}
use Rattle.std.proofs.Math.Seq.{take-append_seam}
use Rattle.basics.specs.Below.{all_below}
use Rattle.basics.specs.Bits.{bit, mask_first}
use Rattle.basics.specs.First.{all_first, and_first, all}
use Rattle.basics.specs.Parts.{part}
use Rattle.basics.specs.laws.Below.{below_all}
use Rattle.basics.specs.laws.Bits.{mask_bit}
use Rattle.basics.specs.laws.First.{map_there, all_behind}
use Rattle.basics.specs.laws.Logic.{holds, fails, tested, lt_or_ge, cond_of}
use Rattle.basics.specs.laws.Parts.{part_long, part_at}
use Rattle.chip.specs.declared.Chip.TheVariants.{Pca9635}
use Rattle.device.specs.Reset.{fresh}
use Rattle.device.specs.WellFormed.{well_formed}
use Rattle.device.specs.declared.Device.{Device}
use Rattle.device.specs.declared.Phase.{Phase}
use Rattle.totals.specs.Totals.{record_of, totals_within, totals_fit, legal_in}
use Rattle.totals.specs.declared.Record.{Record}
use Rattle.protocol.specs.Put.{acks_to}
use Rattle.protocol.specs.Signals.{in_turn, phase_after_signal, after_signal}
use Rattle.refusals.specs.Refusals.{refuse, least, code_of}
use Rattle.refusals.specs.laws.Refusals.{exact}
use Rattle.bus.specs.Devices.{bus_ok, record_at, bus_after, empty_bus}
use Rattle.bus.specs.Replies.{answer}
use Rattle.bus.specs.Signals.{signal_of, is_too_large}
use Rattle.bus.specs.Events.{step_reply, step_refusals, step_done}
use Rattle.bus.specs.laws.Records.{fits_at}
use Rattle.bus.proofs.laws.Records.{fits_below}
use Rattle.bus.specs.declared.Bus.{Bus}
use Rattle.bus.specs.declared.Event.TheVariants.{Signal}
use Rattle.bus.specs.declared.Reply.{Reply}
use Rattle.bus.specs.declared.SignalEvent.{SignalEvent}
use Rattle.bus.specs.declared.SignalEvent.TheVariants.{Start, Stop, Put, Get}
use Rattle.row.specs.Row.{devices_of, all_fit, refitted, row_bus, refused_row, row_replied, row_reply, row_after}
use Rattle.row.specs.Records.{record_after, row_value, row_refusals, RowIs, records_below, records_of}
use Rattle.row.proofs.laws.Refitted.{get_or_device, refit_own, refit_done}
use Rattle.row.specs.declared.RowReply.{RowReply}

-- ---- what a bus answers

abbrev firsts : Bus → List Device
firsts b = take b.count b.devices

module _ (p : Phase) (e : SignalEvent) where
  -- its code, where it is well formed or not
  abbrev seen : Bool → ℕ
  seen ok = code_of (refuse 4 (not ok) ∷ refuse 5 (not (in_turn p (signal_of e))) ∷ refuse 7 (is_too_large e) ∷ [])

  abbrev done_on : List Device → RowReply
  done_on ds = record { code = 0; value = row_value ds p e; phase = phase_after_signal p (signal_of e) }

  abbrev reply_on : Bool → List Device → RowReply
  reply_on ok ds = cond (eqb (seen ok) 0) (done_on ds) (refused_row p (seen ok))

  abbrev row_on : Bool → List Record → List Record
  row_on ok rs = cond (eqb (seen ok) 0) (map (record_after p e) rs) rs

value_seen : (b : Bus) (e : SignalEvent) → (step_done b (Signal e)).value ≡ row_value (firsts b) b.phase e
unfolding step_done mask_first and_first
value_seen b Start = refl
value_seen b Stop = refl
value_seen b (Put byte) = refl
value_seen b (Get ack) = refl

module _ (b : Bus) (e : SignalEvent) where
  code_seen : code_of (step_refusals b (Signal e)) ≡ seen b.phase e (bus_ok b)
  unfolding step_refusals
  code_seen = refl

  done_seen : row_replied (step_done b (Signal e)) ≡ done_on b.phase e (firsts b)
  unfolding step_done
  done_seen = ap (λ (v : ℕ). record { code = 0; value = v; phase = phase_after_signal b.phase (signal_of e) }) (value_seen b e)

  reply_seen : row_replied (step_reply b (Signal e)) ≡ reply_on b.phase e (bus_ok b) (firsts b)
  unfolding step_reply answer
  reply_seen = cond_of row_replied (eqb (code_of (step_refusals b (Signal e))) 0) _ _ ∙ rw (code_seen, done_seen) refl

-- ---- a row of up to eight records

-- where it is not well formed, that is the least number
seen_false : (p : Phase) (e : SignalEvent) → seen p e false ≡ 4
unfolding code_of least
seen_false p e =
    elim (tested (in_turn p (signal_of e))) [
      | holds t ↦ rw t (elim (tested (is_too_large e)) [ holds l ↦ rw l refl | fails l ↦ rw l refl ])
      | fails t ↦ rw t (elim (tested (is_too_large e)) [ holds l ↦ rw l refl | fails l ↦ rw l refl ])
    ]

-- a record is legal where its device is and its totals fit
all_legal : (p : Phase) (rs : List Record) → all (legal_in p) rs ≡ (all (well_formed p) (devices_of rs) && all_fit rs)
all_legal p [] = refl
all_legal p (r ∷ rs) = rw (all_legal p rs) (both (well_formed p r.device) (totals_fit r 0) (all (well_formed p) (devices_of rs)) (all_fit rs))
  where
    both : (a b c d : Bool) → (a && b && (c && d)) ≡ (a && c && (b && d))
    both true true c d = refl
    both true false c d = sym (and-false c)
    both false b c d = refl

-- totals of 0 fit
nought : (k : ℕ) → get_or empty_bus.lit k 0 ≡ 0
nought k = ⊎_elim (λ h. get_or-replicate 128 k 0 0 h) (λ h. get_or-eq_default empty_bus.lit 0 h) (lt_or_ge k 128)

nought_at : (i out : ℕ) → get_or (part 16 i empty_bus.lit) out 0 ≡ 0
nought_at i out =
    ⊎_elim (λ h. part_at 16 i out empty_bus.lit h ∙ nought (16 * i + out))
    (λ h. get_or-eq_default (part 16 i empty_bus.lit) 0 (rw (part_long 16 i empty_bus.lit) h)) (lt_or_ge out 16)

zeros_fit : (ds : List Device) (n : ℕ) → all_below n (fits_at ds empty_bus.lit empty_bus.unlit) ≡ true
unfolding totals_within
zeros_fit ds n = below_all _ n (λ i h. below_all _ _ (λ out l. rw (nought_at i out) refl))

module _ (rs : List Record) (p : Phase) (e : SignalEvent) (short : ltb 8 (length rs) ≡ false) where
  abbrev legal : Bool
  legal = all (legal_in p) rs

  firsts_are : firsts (row_bus p rs) ≡ devices_of rs
  firsts_are =
      ap (λ (n : ℕ). take n (row_bus p rs).devices) (sym (length-map rs (λ (r : Record). r.device)))
      ∙ take-append_seam (devices_of rs) (drop (length rs) empty_bus.devices)

  bus_is : all_fit rs ≡ true → bus_ok (row_bus p rs) ≡ legal
  unfolding bus_ok all_first
  bus_is fit =
      rw (le-leb (length rs) 8 (ltb-false 8 (length rs) short), firsts_are, zeros_fit (row_bus p rs).devices (length rs), all_legal p rs, fit) refl

  illegal : all_fit rs ≡ false → legal ≡ false
  illegal t = all_legal p rs ∙ rw t (and-false (all (well_formed p) (devices_of rs)))

  reply_at : row_reply rs p e ≡ reply_on p e legal (devices_of rs)
  unfolding row_reply
  reply_at =
      elim (tested (all_fit rs)) [
        | holds t ↦ rw (short, t) (reply_seen (row_bus p rs) e ∙ rw (bus_is t, firsts_are) refl)
        | fails t ↦ rw (short, t, illegal t, seen_false p e) refl
      ]

  done_at : all_fit rs ≡ true → refitted rs (step_reply (row_bus p rs) (Signal e)).bus.devices ≡ row_on p e legal rs
  unfolding step_reply step_done answer
  done_at t =
      cond_of (λ (r : Reply). refitted rs r.bus.devices) (eqb (code_of (step_refusals (row_bus p rs) (Signal e))) 0) _ _
      ∙ rw (code_seen (row_bus p rs) e, bus_is t, refit_done (after_signal p (signal_of e)) rs (drop (length rs) empty_bus.devices), refit_own rs (drop (length rs) empty_bus.devices)) refl

  row_at : row_after rs p e ≡ row_on p e legal rs
  unfolding row_after
  row_at =
      elim (tested (all_fit rs)) [
        | holds t ↦ rw (short, t) (done_at t)
        | fails t ↦ rw (short, t, illegal t, seen_false p e) (refit_own rs (drop (length rs) empty_bus.devices))
      ]

  code_at : seen p e legal ≡ code_of (row_refusals rs p e)
  unfolding code_of least
  code_at = rw short refl

pub is_row : (rs : List Record) (p : Phase) (e : SignalEvent) → RowIs rs p e (code_of (row_refusals rs p e))
unfolding row_reply row_after
is_row rs p e =
    elim (tested (ltb 8 (length rs))) [
      | holds h ↦ rw (long h, h) (refl, refl)
      | fails h ↦ rw (sym (code_at rs p e h)) (reply_at rs p e h, row_at rs p e h)
    ]
  where
    long : ltb 8 (length rs) ≡ true → code_of (row_refusals rs p e) ≡ 3
    long h =
        (exact (row_refusals rs p e) (code_of (row_refusals rs p e)) refl 3 (omega arith)).1
        (rw h refl, λ j q lt. rw (ne_eqb 3 j (λ z. omega arith), ne_eqb 4 j (λ z. omega arith), ne_eqb 5 j (λ z. omega arith), ne_eqb 7 j (λ z. omega arith)) refl)

pub is_code : (rs : List Record) (p : Phase) (e : SignalEvent) → (row_reply rs p e).code ≡ code_of (row_refusals rs p e)
is_code rs p e =
    let k = code_of (row_refusals rs p e) in
    ap (λ (r : RowReply). r.code) (is_row rs p e).0 ∙ elim (tested (eqb k 0)) [ holds q ↦ rw q (sym (eqb-true k 0 q)) | fails q ↦ rw q refl ]

pub is_set : (rs : List Record) (p : Phase) (byte i : ℕ) (z : Record) → (row_reply rs p (Put byte)).code ≡ 0 → bit i (row_reply rs p (Put byte)).value ≡ (ltb i (length rs) && acks_to p byte (get_or rs i z).device)
is_set rs p byte i z c =
    let k = code_of (row_refusals rs p (Put byte)) in
    let done : eqb k 0 ≡ true = eq-eqb k 0 (sym (is_code rs p (Put byte)) ∙ c) in
    rw ((is_row rs p (Put byte)).0, done, sym (get_or_device rs i z), sym (length-map rs (λ (r : Record). r.device))) (mask_bit (acks_to p byte) z.device (devices_of rs) i)

-- ---- the records of a bus

abbrev none : Device
none = fresh Pca9635 0

module _ (b : Bus) where
  many : (n : ℕ) → length (records_below b n) ≡ n
  many zero = refl
  many (suc n) = rw (length-append (records_below b n) (record_at b n ∷ []), many n) (omega arith)

  devices_are : (n : ℕ) → n ≤ length b.devices → devices_of (records_below b n) ≡ take n b.devices
  devices_are zero h = refl
  devices_are (suc n) h =
      map-append (λ (r : Record). r.device) (records_below b n) (record_at b n ∷ [])
      ∙ ap (λ (ds : List Device). ds ++ get_or b.devices n none ∷ []) (devices_are n (omega arith))
      ∙ sym (take-suc b.devices n none h)

  fits_are : (n : ℕ) → all_fit (records_below b n) ≡ fits_below b n
  unfolding all_below
  fits_are zero = refl
  fits_are (suc n) = all_behind (λ (r : Record). totals_fit r 0) (records_below b n) (record_at b n) ∙ ap (λ (t : Bool). t && totals_fit (record_at b n) 0) (fits_are n)

  module _ (e : SignalEvent) (wide : b.count ≤ length b.devices) where
    after_are : (n : ℕ) → n ≤ b.count → records_below (bus_after (signal_of e) b) n ≡ map (record_after b.phase e) (records_below b n)
    after_are zero h = refl
    after_are (suc n) h =
        ap (λ (rs : List Record). rs ++ record_at (bus_after (signal_of e) b) n ∷ []) (after_are n (omega arith))
        ∙ ap (λ (d : Device). map (record_after b.phase e) (records_below b n) ++ record_of d (part 16 n b.lit) (part 16 n b.unlit) ∷ []) (map_there (after_signal b.phase (signal_of e)) none b.count b.devices n h (omega arith))
        ∙ sym (map-append (record_after b.phase e) (records_below b n) (record_at b n ∷ []))

    module _ (few : b.count ≤ 8) where
      legal_are : all (legal_in b.phase) (records_of b) ≡ bus_ok b
      unfolding bus_ok all_first
      legal_are =
          all_legal b.phase (records_of b) ∙ rw (le-leb b.count 8 few, devices_are b.count wide, fits_are b.count) refl

      row_seen : row_on b.phase e (bus_ok b) (records_of b) ≡ records_of (step_reply b (Signal e)).bus
      unfolding step_reply step_done answer
      row_seen =
          rw (sym (after_are b.count (omega arith)), sym (code_seen b e)) (sym (cond_of (λ (r : Reply). records_of r.bus) (eqb (code_of (step_refusals b (Signal e))) 0) _ _))

pub is_bus : (b : Bus) (e : SignalEvent) → b.count ≤ 8 → b.count ≤ length b.devices
    → (row_reply (records_of b) b.phase e ≡ row_replied (step_reply b (Signal e))) × (row_after (records_of b) b.phase e ≡ records_of (step_reply b (Signal e)).bus)
is_bus b e few wide =
    let rs = records_of b in
    let short : ltb 8 (length rs) ≡ false = le-ltb 8 (length rs) (omega (arith, many b b.count)) in (
      reply_at rs b.phase e short ∙ rw (legal_are b e wide few, devices_are b b.count wide) (sym (reply_seen b e)),
      row_at rs b.phase e short ∙ ap (λ (ok : Bool). row_on b.phase e ok rs) (legal_are b e wide few) ∙ row_seen b e wide few,
    )
