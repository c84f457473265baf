-- A well-formed bus: what it is, and that what an accepted event makes of it is one too.
use Rattle.std.specs.Prelude.{Option, Some, None, ◌≡◌, true, false, not, ◌&&◌, ℕ, ◌+◌, leb, ltb, eqb, length}
use Rattle.std.proofs.Math.Path.{refl}
use Rattle.std.proofs.Common.{sym, ap, ◌∙◌, true≢false, add-one, arith, length-set, leb-true, leb-false, le-leb, ltb-true}
use Rattle.std.proofs.Math.Bool.{or-false}
use Rattle.std.proofs.lemmas.Bool.{not-false}
use Rattle.basics.specs.laws.Logic.{holds, fails, tested, and_left, and_right}
use Rattle.chip.specs.declared.Chip.{Chip}
use Rattle.chip.specs.Kinds.{chip_numbered}
use Rattle.chip.specs.Addresses.{address_allowed, is_barred}
use Rattle.chip.specs.declared.Chip.TheVariants.{Pca9635}
use Rattle.device.specs.Reset.{fresh}
use Rattle.device.specs.WellFormed.{well_formed}
use Rattle.device.proofs.Promises.{fresh_well, reset_well, reset_kind, oe_well, levels_well, waited_shape}
use Rattle.device.proofs.laws.WellFormed.{well_formed_ok}
use Rattle.device.specs.declared.Device.{Device}
use Rattle.device.specs.declared.Phase.{Phase}
use Rattle.protocol.specs.Signals.{in_turn, phase_after_signal, after_signal}
use Rattle.protocol.proofs.Promises.{signal_well}
use Rattle.protocol.proofs.laws.Kind.{signal_kind}
use Rattle.protocol.specs.declared.Signal.{Signal}
use Rattle.totals.specs.Totals.{totals_fit}
use Rattle.totals.specs.Wait.{exceeds, waited}
use Rattle.totals.proofs.Promises.{waited_kind, after_fits}
use Rattle.totals.proofs.laws.Raised.{raised_long}
use Rattle.totals.specs.declared.Record.{Record}
use Rattle.refusals.specs.Refusals.{holds_at}
use Rattle.refusals.specs.laws.Refusals.{positive, NoneHolds, none_at}
use Rattle.basics.specs.First.{all_first}
use Rattle.basics.specs.laws.Below.{below_at}
use Rattle.basics.specs.laws.First.{map_long, map_keeps, all_at, all_set, all_added, all_mapped}
use Rattle.basics.specs.laws.Parts.{part_long}
use Rattle.bus.specs.Devices.{bus_ok, has_device, device_at, record_at, with_record, with_added, bus_after}
use Rattle.bus.specs.Add.{added_to}
use Rattle.bus.specs.Signals.{signal_of}
use Rattle.bus.specs.Place.{change_refusals, with_chip, after_change, question_refusals}
use Rattle.bus.specs.Events.{step_refusals, step_done, step_reply}
use Rattle.bus.specs.laws.Records.{fits_at}
use Rattle.bus.proofs.laws.Records.{fits_below, fits_kinds, with_record_fits, added_fits}
use Rattle.bus.proofs.laws.Replies.{answer_bus}
use Rattle.bus.specs.declared.Bus.{Bus}
use Rattle.bus.specs.declared.Change.{Change}
use Rattle.bus.specs.declared.Change.TheVariants as C
use Rattle.bus.specs.declared.Event.{Event}
use Rattle.bus.specs.declared.Event.TheVariants as E
use Rattle.bus.specs.declared.Question.{Question}
use Rattle.bus.specs.declared.Question.TheVariants as Q

-- ---- what a well-formed bus is

record Well (b : Bus) : Type 0 where
  few : leb b.count 8 ≡ true
  each : all_first b.count (well_formed b.phase) b.devices ≡ true
  totals : fits_below b b.count ≡ true

well : (b : Bus) → bus_ok b ≡ true → Well b
unfolding bus_ok
well b h =
    let rest = and_right (leb b.count 8) (all_first b.count (well_formed b.phase) b.devices && fits_below b b.count) h in
    record {
      few = and_left (leb b.count 8) (all_first b.count (well_formed b.phase) b.devices && fits_below b b.count) h;
      each = and_left (all_first b.count (well_formed b.phase) b.devices) (fits_below b b.count) rest;
      totals = and_right (all_first b.count (well_formed b.phase) b.devices) (fits_below b b.count) rest;
    }

is_well : (b : Bus) → Well b → bus_ok b ≡ true
unfolding bus_ok
is_well b w = rw (w.few, w.each, w.totals) refl

spare_well : (p : Phase) → well_formed p (fresh Pca9635 0) ≡ true
unfolding address_allowed
spare_well p = fresh_well p Pca9635 0 refl

-- a device of a well-formed bus is well formed
pub device_well : (b : Bus) (dev : ℕ) → bus_ok b ≡ true → has_device b dev ≡ true → well_formed b.phase (device_at b dev) ≡ true
device_well b dev h there =
    all_at (well_formed b.phase) (fresh Pca9635 0) b.devices dev b.count
    (ltb-true dev b.count (and_left (ltb dev b.count) (ltb dev 8) there)) (spare_well b.phase) (well b h).each

-- ---- the bus after an accepted event

with_record_well : (b : Bus) (dev : ℕ) (r : Record) → length r.lit ≡ 16 → length r.unlit ≡ 16 → r.device.chip ≡ (device_at b dev).chip → bus_ok b ≡ true → well_formed b.phase r.device ≡ true → totals_fit r 0 ≡ true → bus_ok (with_record b dev r) ≡ true
with_record_well b dev r l u e h k f =
    is_well (with_record b dev r)
    (record {
      few = (well b h).few;
      each = all_set (well_formed b.phase) b.devices dev b.count r.device k (well b h).each;
      totals = with_record_fits b dev r l u b.count (leb-true b.count 8 (well b h).few) e f (well b h).totals;
    })

after_well : (s : Signal) (b : Bus) → in_turn b.phase s ≡ true → bus_ok b ≡ true → bus_ok (bus_after s b) ≡ true
after_well s b t h =
    is_well (bus_after s b)
    (record {
      few = (well b h).few;
      each = all_mapped (well_formed b.phase) (well_formed (phase_after_signal b.phase s)) (after_signal b.phase s) (λ d k. signal_well b.phase s d t k) b.count b.devices (well b h).each;
      totals = fits_kinds (bus_after s b).devices b.devices b.lit b.unlit b.count (λ i. map_keeps (after_signal b.phase s) (λ (d : Device). d.chip) (signal_kind b.phase s) _ b.count b.devices i) ∙ (well b h).totals;
    })

added_well : (b : Bus) (found : Option Chip) (address : ℕ) → bus_ok b ≡ true → is_barred found address ≡ false → leb 8 b.count ≡ false → bus_ok (added_to b found address) ≡ true
added_well b None address h k f = h
added_well b (Some chip) address h k f =
    is_well (with_added b (fresh chip address))
    (record {
      few = le-leb (b.count + 1) 8 (omega (arith, leb-false 8 b.count f));
      each = rw (add-one b.count) (all_added (well_formed b.phase) b.devices b.count (fresh chip address) (fresh_well b.phase chip address (not-false (address_allowed chip address) k)) (well b h).each);
      totals = rw (add-one b.count) (added_fits b (fresh chip address) (omega (arith, leb-false 8 b.count f)) (well b h).totals);
    })

-- a change that is not refused keeps a record's kind, its 16 totals, and what can be handed in
pub record Kept (p : Phase) (r next : Record) : Type 0 where
  pub kind : next.device.chip ≡ r.device.chip
  pub lit_long : length next.lit ≡ 16
  pub unlit_long : length next.unlit ≡ 16
  pub device : well_formed p next.device ≡ true
  pub totals : totals_fit next 0 ≡ true

module _ (b : Bus) (dev : ℕ) (h : bus_ok b ≡ true) (there : has_device b dev ≡ true) where
  abbrev pub at : Record
  at = record_at b dev

  at_well : well_formed b.phase at.device ≡ true
  at_well = device_well b dev h there

  pub at_fits : totals_fit at 0 ≡ true
  at_fits =
      below_at (fits_at b.devices b.lit b.unlit) dev b.count
      (ltb-true dev b.count (and_left (ltb dev b.count) (ltb dev 8) there)) (well b h).totals

  chip_kept : (d : Device) → d.chip ≡ at.device.chip → well_formed b.phase d ≡ true → Kept b.phase at (with_chip at d)
  chip_kept d e k =
      record { kind = e; lit_long = part_long 16 dev b.lit; unlit_long = part_long 16 dev b.unlit; device = k; totals = rw e at_fits }

  waited_kept : (w : ℕ) → exceeds at w ≡ false → Kept b.phase at (waited at w)
  unfolding waited
  waited_kept w e =
      record {
        kind = waited_kind at.device w;
        lit_long = raised_long _ at.lit _;
        unlit_long = raised_long _ at.unlit _;
        device = waited_shape b.phase w at.device ∙ at_well;
        totals = after_fits at w e;
      }

  pub change_kept : (c : Change) → NoneHolds (change_refusals at c) → Kept b.phase at (after_change at c)
  unfolding after_change change_refusals
  change_kept (C.Wait ticks) n = waited_kept ticks n.0
  change_kept (C.Oe level) n = chip_kept _ refl (oe_well b.phase (eqb level 1) at.device at_well)
  change_kept (C.Ext level) n = chip_kept _ refl (levels_well b.phase level at.device at_well)
  change_kept C.Reset n = chip_kept _ (reset_kind at.device) (reset_well b.phase at.device (well_formed_ok b.phase at.device at_well))

  kept_well : (next : Record) → Kept b.phase at next → bus_ok (with_record b dev next) ≡ true
  kept_well next k = with_record_well b dev next k.lit_long k.unlit_long k.kind h k.device k.totals

pub done_well : (b : Bus) (e : Event) → bus_ok b ≡ true → NoneHolds (step_refusals b e) → bus_ok (step_done b e).bus ≡ true
unfolding step_refusals step_done
done_well b (E.Add chip addr) h n = added_well b (chip_numbered chip) addr h n.1.0 n.1.1.0
done_well b (E.Signal s) h n = after_well (signal_of s) b (not-false (in_turn b.phase (signal_of s)) n.1.0) h
done_well b (E.Change dev c) h n =
    let there = not-false (has_device b dev) n.0 in
    kept_well b dev h there (after_change (record_at b dev) c) (change_kept b dev h there c n.1.1)
done_well b (E.Ask dev q) h n = h

-- ---- the refusals of an event

-- no number of them is 0
change_positive : (r : Record) (c : Change) → positive (change_refusals r c) ≡ true
unfolding change_refusals
change_positive r (C.Wait ticks) = refl
change_positive r (C.Oe level) = refl
change_positive r (C.Ext level) = refl
change_positive r C.Reset = refl

question_positive : (d : Device) (q : Question) → positive (question_refusals d q) ≡ true
unfolding question_refusals
question_positive d (Q.Lit out ticks) = refl
question_positive d (Q.Pin out) = refl

pub step_positive : (b : Bus) (e : Event) → positive (step_refusals b e) ≡ true
unfolding step_refusals
step_positive b (E.Add chip addr) = refl
step_positive b (E.Signal s) = refl
step_positive b (E.Change dev c) = change_positive (record_at b dev) c
step_positive b (E.Ask dev q) = question_positive (device_at b dev) q

-- 4 holds of every event exactly where the bus is not well formed
change_shape : (r : Record) (c : Change) → holds_at (change_refusals r c) 4 ≡ false
unfolding change_refusals
change_shape r (C.Wait ticks) = refl
change_shape r (C.Oe level) = refl
change_shape r (C.Ext level) = refl
change_shape r C.Reset = refl

question_shape : (d : Device) (q : Question) → holds_at (question_refusals d q) 4 ≡ false
unfolding question_refusals
question_shape d (Q.Lit out ticks) = refl
question_shape d (Q.Pin out) = refl

pub shape_holds : (b : Bus) (e : Event) → holds_at (step_refusals b e) 4 ≡ not (bus_ok b)
unfolding step_refusals
shape_holds b (E.Add chip addr) = or-false (not (bus_ok b))
shape_holds b (E.Signal s) = or-false (not (bus_ok b))
shape_holds b (E.Change dev c) = rw (change_shape (record_at b dev) c) (or-false (not (bus_ok b)))
shape_holds b (E.Ask dev q) = rw (question_shape (device_at b dev) q) (or-false (not (bus_ok b)))

-- so an accepted event leaves a bus as well formed as it was
pub done_shape : (b : Bus) (e : Event) → NoneHolds (step_refusals b e) → bus_ok (step_done b e).bus ≡ bus_ok b
done_shape b e n =
    elim (tested (bus_ok b)) [
      | holds h ↦ done_well b e h n ∙ sym h
      | fails h ↦ absurd (true≢false (ap not (sym h) ∙ sym (shape_holds b e) ∙ none_at (step_refusals b e) n 4))
    ]

pub done_code : (b : Bus) (e : Event) → (step_done b e).code ≡ 0
unfolding step_done
done_code b (E.Add chip addr) = refl
done_code b (E.Signal s) = refl
done_code b (E.Change dev c) = refl
done_code b (E.Ask dev q) = refl

-- no event changes how many places there are
added_places : (b : Bus) (found : Option Chip) (address : ℕ) → length (added_to b found address).devices ≡ length b.devices
added_places b None address = refl
added_places b (Some chip) address = length-set b.devices b.count (fresh chip address)

pub done_places : (b : Bus) (e : Event) → length (step_done b e).bus.devices ≡ length b.devices
unfolding step_done
done_places b (E.Add chip addr) = added_places b (chip_numbered chip) addr
done_places b (E.Signal s) = map_long _ b.count b.devices
done_places b (E.Change dev c) = length-set b.devices _ _
done_places b (E.Ask dev q) = refl

pub step_places : (b : Bus) (e : Event) → length (step_reply b e).bus.devices ≡ length b.devices
unfolding step_reply
step_places b e =
    answer_bus (step_refusals b e) b (step_done b e) (λ (x : Bus). length x.devices ≡ length b.devices) (step_positive b e) refl (λ n. done_places b e)
