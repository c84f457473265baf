-- One position of lent state: what a wait leaves of a device, and a record as it is lent and put back.
use Rattle.std.specs.Prelude.{ℕ, ◌+◌, ◌-◌, ◌*◌, ◌<◌, ◌≡◌, refl, false, List, ◌++◌, [], ◌∷◌, length, get_or, set, take, drop}
use Rattle.std.proofs.Common.{sym, ap, ◌∙◌}
use Rattle.basics.specs.laws.Logic.{tested, holds, fails}
use Rattle.basics.specs.Parts.{part, with_part}
use Rattle.basics.specs.laws.Parts.{part_long}
use Rattle.lamp.specs.declared.Duration.{Duration}
use Rattle.device.specs.Fields.{with_count}
use Rattle.device.specs.Registers.{is_awake}
use Rattle.device.specs.Wait.{is_own, own_duration, after_wait, after_wait_for}
use Rattle.totals.proofs.laws.Wait.{bare_exceeds, waited_long}
use Rattle.device.specs.declared.Device.{Device}
use Rattle.totals.specs.Totals.{record_of, zeros}
use Rattle.totals.specs.Wait.{exceeds, waited, exceeds_for, waited_for}
use Rattle.totals.specs.declared.Record.{Record}
use Rattle.refusals.specs.Refusals.{refuse, code_of}
use Rattle.refusals.specs.laws.Refusals.{accepted}
use Rattle.bus.specs.Devices.{device_at, record_at, with_device, with_record, with_added}
use Rattle.bus.specs.declared.Bus.{Bus}
use Rattle.bus.specs.Place.{change_refusals, with_chip}
use Rattle.bus.specs.declared.Change.TheVariants.{Wait}
use Rattle.bus.proofs.laws.Records as records
use Rattle.engine.specs.Lens.{bus_of, lent_bus}
use Rattle.engine.specs.laws.Lens.{lens_get, lens_count, devices_long, other_count, none}
use Rattle.engine.specs.declared.Lent.{Lent}

-- ---- a wait

-- one that no number holds of exceeds nothing
pub wait_fits : (r : Record) (n : ℕ) → code_of (change_refusals r (Wait n)) ≡ 0 → exceeds_for r (own_duration r.device.chip n) ≡ false
unfolding change_refusals
wait_fits r n e = bare_exceeds r n ∙ (accepted (refuse 6 (exceeds r n) ∷ []) refl e).0

-- it changes the count alone
count_alone : (d : Device) (w : Duration) → with_count d (after_wait_for d w).count ≡ after_wait_for d w
unfolding after_wait
count_alone d w =
    elim (tested (is_own d.chip w)) [
      | holds e ↦ rw e (elim (tested (is_awake d)) [ holds a ↦ rw a refl | fails a ↦ rw a refl ])
      | fails e ↦ rw e refl
    ]

waited_device : (d : Device) (l u : List ℕ) (w : Duration) → (waited_for (record_of d l u) w).device ≡ after_wait_for d w
unfolding waited
waited_device d l u w =
    elim (tested (is_own d.chip w)) [
      | holds e ↦ rw e refl
      | fails e ↦ rw e refl
    ]

-- so the count of the device afterwards is all that is to be kept of it
pub counted : (d next : Device) (w : Duration) (l u l' u' : List ℕ) → record_of next l' u' ≡ waited_for (record_of d l u) w → with_count d next.count ≡ next
counted d next w l u l' u' is =
    let e : next ≡ after_wait_for d w = ap (λ (x : Record). x.device) is ∙ waited_device d l u w in
    ap (λ (x : Device). with_count d x.count) e ∙ count_alone d w ∙ sym e

-- ---- a record as it is lent

module _ (l : Lent) (i : ℕ) (h : i < 8) where
  -- its totals
  abbrev pub lit_lent : List ℕ
  lit_lent = records.lent l.lit.now i l.lit_long h

  abbrev pub unlit_lent : List ℕ
  unlit_lent = records.lent l.unlit.now i l.unlit_long h

  pub lit_lent_long : length lit_lent ≡ 16
  lit_lent_long = records.lent_long l.lit.now i l.lit_long h

  pub unlit_lent_long : length unlit_lent ≡ 16
  unlit_lent_long = records.lent_long l.unlit.now i l.unlit_long h

  pub record_lent : record_of (device_at (lent_bus l) i) lit_lent unlit_lent ≡ record_at (lent_bus l) i
  record_lent = records.record_lent none (lent_bus l) i l.lit_long l.unlit_long h (rw (devices_long l.bytes.now l.counts.now) h)

  -- what is read of it by its device as it was loaded
  pub record_loaded : (d : Device) → d ≡ device_at (lent_bus l) i → record_of d lit_lent unlit_lent ≡ record_at (lent_bus l) i
  record_loaded d e = ap (λ (x : Device). record_of x lit_lent unlit_lent) e ∙ record_lent

  -- another device, its totals as they are
  pub device_back : (d : Device) → with_device (lent_bus l) i d ≡ with_record (lent_bus l) i (with_chip (record_at (lent_bus l) i) d)
  device_back d = records.with_device_is (lent_bus l) i d l.lit_long l.unlit_long

  -- a device after a wait, whose count alone is kept
  pub wait_back : (d next : Device) (w : Duration) (p q : List ℕ) → d ≡ device_at (lent_bus l) i → record_of next p q ≡ waited_for (record_of d lit_lent unlit_lent) w
      → bus_of l.phase l.count l.bytes.now (set l.counts.now i next.count) (take (16 * i) l.lit.now ++ (p ++ drop (16 * i + 16 - 16 * i) (drop (16 * i) l.lit.now))) (take (16 * i) l.unlit.now ++ (q ++ drop (16 * i + 16 - 16 * i) (drop (16 * i) l.unlit.now))) ≡ with_record (lent_bus l) i (waited_for (record_at (lent_bus l) i) w)
  wait_back d next w p q e is =
      let there = sym (lens_get none l.bytes.now l.counts.now i h) ∙ sym e in
      let device = other_count (part 64 i l.bytes.now) (get_or l.counts.now i 0) next.count ∙ ap (λ (x : Device). with_count x next.count) there ∙ counted d next w lit_lent unlit_lent p q is in
      rw (lens_count l.bytes.now l.counts.now i next.count next h l.counts_long device)
      (records.record_back (lent_bus l) i h l.lit_long l.unlit_long next p q (waited_for (record_at (lent_bus l) i) w) (waited_long (record_at (lent_bus l) i) w (part_long 16 i l.lit.now) (part_long 16 i l.unlit.now))
      (is ∙ ap (λ (r : Record). waited_for r w) (record_loaded d e)))

-- a further device, its totals cleared: of the position that is free only they are still to be seen to
pub add_back : (l m : Lent) (d : Device) (p q : List ℕ) → l.count < 8 → lent_bus m ≡ with_device (lent_bus l) l.count d → p ≡ zeros → q ≡ zeros
    → bus_of m.phase (m.count + 1) m.bytes.now m.counts.now (take (16 * l.count) m.lit.now ++ (p ++ drop (16 * l.count + 16 - 16 * l.count) (drop (16 * l.count) m.lit.now))) (take (16 * l.count) m.unlit.now ++ (q ++ drop (16 * l.count + 16 - 16 * l.count) (drop (16 * l.count) m.unlit.now))) ≡ with_added (lent_bus l) d
add_back l m d p q h e z w =
    rw (z, w, records.given_back m.lit.now l.count m.lit_long h zeros refl, records.given_back m.unlit.now l.count m.unlit_long h zeros refl)
    (ap (λ (b : Bus). record { phase = b.phase; count = b.count + 1; devices = b.devices; lit = with_part 8 16 l.count zeros b.lit; unlit = with_part 8 16 l.count zeros b.unlit }) e)

-- what a wait is lent, and what it gives back
pub ruleset waits = (lit_lent_long, unlit_lent_long, record_loaded, wait_back)
