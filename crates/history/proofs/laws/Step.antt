-- One event: what it adds to an output's totals, and which leave them.
use Rattle.std.specs.Prelude.{Option, Some, None, ◌≡◌, true, false, List, ℕ, ◌+◌, ◌-◌, ◌≤◌, ◌<◌, leb, eqb, length, get_or, refl}
use Rattle.std.proofs.Common.{sym, ap, subst, ◌∙◌, true≢false, add-zero, arith, eqb-true, eq-eqb, ne_eqb}
use Rattle.std.proofs.Math.Bool.{and-false}
use Rattle.std.proofs.lemmas.Bool.{eqb-false, not-false, lt-leb}
use Rattle.basics.specs.laws.Logic.{holds, fails, tested, neither}
use Rattle.lamp.specs.Window.{lit_ticks, counted_ticks, count_limit}
use Rattle.chip.specs.declared.Chip.{Chip}
use Rattle.chip.specs.Kinds.{chip_numbered, outputs_of}
use Rattle.device.specs.Output.{lit_now, lit_of}
use Rattle.device.proofs.laws.Output.{lit_few}
use Rattle.device.specs.Registers.{is_awake}
use Rattle.device.specs.Wait.{is_too_long}
use Rattle.device.specs.declared.Device.{Device}
use Rattle.refusals.specs.laws.Refusals.{NoneHolds, none_code}
use Rattle.totals.specs.Wait.{exceeds}
use Rattle.totals.proofs.Promises.{lit_grows, unlit_grows}
use Rattle.totals.specs.declared.Record.{Record}
use Rattle.bus.specs.Devices.{bus_ok, has_device, device_at, record_at, with_record, bus_after}
use Rattle.bus.specs.Add.{added_to}
use Rattle.bus.specs.Signals.{signal_of}
use Rattle.bus.specs.Place.{change_refusals, after_change, question_refusals, value_of}
use Rattle.bus.specs.Events.{step_reply, step_refusals, step_done, lit_reply}
use Rattle.bus.proofs.Promises.{step_code}
use Rattle.bus.proofs.laws.Records.{lit_here, unlit_here, record_other, added_at}
use Rattle.bus.proofs.laws.Steps.{done, below_count, below_eight}
use Rattle.bus.proofs.laws.WellFormed.{change_kept}
use Rattle.bus.specs.declared.Bus.{Bus}
use Rattle.bus.specs.declared.Change.{Change}
use Rattle.bus.specs.declared.Change.TheVariants as C
use Rattle.bus.specs.declared.Event.{Event}
use Rattle.bus.specs.declared.Event.TheVariants as E
use Rattle.bus.specs.declared.Question.TheVariants as Q
use Rattle.bus.specs.declared.Reply.{Reply}
use Rattle.replay.proofs.laws.Timed.{step_by}
use Rattle.history.specs.History.{lit_total, unlit_total, wait_of, wait_share, lit_share, is_waiting, is_wait_at}

-- ---- the lit question

-- no tick of none is lit
none_lit : (d : Device) (out : ℕ) → lit_of d out 0 ≡ 0
unfolding lit_of counted_ticks lit_ticks
none_lit d out =
    elim (tested (is_awake d)) [
      | holds e ↦ rw e (elim (tested (leb (d.count + 0) count_limit)) [ holds t ↦ rw t | fails t ↦ rw t ])
      | fails e ↦ rw e (elim (tested (lit_now d out)) [ holds l ↦ rw l | fails l ↦ rw l ])
    ]

-- it is answered where a wait as long is accepted, by the device's own count
module _ (b : Bus) (dev out w : ℕ) where
  abbrev question : Event
  question = E.Ask dev (Q.Lit out w)

  free : bus_ok b ≡ true → has_device b dev ≡ true → out < outputs_of (device_at b dev).chip → is_too_long (device_at b dev) w ≡ false → NoneHolds (step_refusals b question)
  unfolding step_refusals question_refusals
  free h there k long = (rw there, (rw h, (long, (lt-leb (outputs_of (device_at b dev).chip) out k, tt))))

  pub lit_answer : bus_ok b ≡ true → has_device b dev ≡ true → out < outputs_of (device_at b dev).chip → is_too_long (device_at b dev) w ≡ false → ((lit_reply b dev out w).code ≡ 0) × ((lit_reply b dev out w).value ≡ lit_of (device_at b dev) out w)
  unfolding step_done value_of
  lit_answer h there k long =
      let z : (lit_reply b dev out w).code ≡ 0 = step_code b question ∙ none_code (step_refusals b question) (free h there k long) in
      (z, ap (λ (r : Reply). r.value) (done b question z).1)

-- and nothing where no time is asked for
lit_none : (b : Bus) (dev out : ℕ) → (lit_reply b dev out 0).value ≡ 0
unfolding step_done value_of
lit_none b dev out = step_by b (E.Ask dev (Q.Lit out 0)) (λ r. r.value ≡ 0) (λ z n. none_lit (device_at b dev) out) (λ n. refl)

-- and no more than all of it
pub lit_few_answered : (b : Bus) (dev out w : ℕ) → (lit_reply b dev out w).value ≤ w
unfolding step_done value_of
lit_few_answered b dev out w = step_by b (E.Ask dev (Q.Lit out w)) (λ r. r.value ≤ w) (λ z n. lit_few (device_at b dev) out w) (λ n. omega arith)

-- ---- what an event does to the record at a position where a device stands

module _ (b : Bus) (dev out : ℕ) (h : bus_ok b ≡ true) (there : has_device b dev ≡ true) where
  few : dev < 8
  few = below_eight b dev there

  -- an add leaves it
  added_same : (found : Option Chip) (address : ℕ) → record_at (added_to b found address) dev ≡ record_at b dev
  added_same None address = refl
  added_same (Some chip) address = added_at b _ dev few (λ e. omega (arith, below_count b dev there))

  -- a change of another device does
  other_same : (i : ℕ) (r : Record) → length r.lit ≡ 16 → length r.unlit ≡ 16 → (i ≡ dev → ⊥) → record_at (with_record b i r) dev ≡ record_at b dev
  other_same i r l u n = record_other b i r l u dev few (λ e. n (sym e))

  module _ (k : out < outputs_of (device_at b dev).chip) where
    -- a change of its own: a wait adds to both
    own_lit : (c : Change) → get_or (after_change (record_at b dev) c).lit out 0 ≡ lit_total b dev out + lit_of (device_at b dev) out (wait_of c)
    unfolding after_change
    own_lit (C.Wait w) = lit_grows (record_at b dev) w out k
    own_lit (C.Oe level) = rw (none_lit (device_at b dev) out) (sym (add-zero _))
    own_lit (C.Ext level) = rw (none_lit (device_at b dev) out) (sym (add-zero _))
    own_lit C.Reset = rw (none_lit (device_at b dev) out) (sym (add-zero _))

    own_unlit : (c : Change) → get_or (after_change (record_at b dev) c).unlit out 0 ≡ unlit_total b dev out + (wait_of c - lit_of (device_at b dev) out (wait_of c))
    unfolding after_change
    own_unlit (C.Wait w) = unlit_grows (record_at b dev) w out k
    own_unlit (C.Oe level) = omega arith
    own_unlit (C.Ext level) = omega arith
    own_unlit C.Reset = omega arith

    -- where it is accepted, the lit question is answered
    own_value : (c : Change) → NoneHolds (change_refusals (record_at b dev) c) → (lit_reply b dev out (wait_of c)).value ≡ lit_of (device_at b dev) out (wait_of c)
    unfolding change_refusals exceeds
    own_value (C.Wait w) n = (lit_answer b dev out w h there k (neither (is_too_long (device_at b dev) w) _ n.0).0).1
    own_value (C.Oe level) n = lit_none b dev out ∙ sym (none_lit (device_at b dev) out)
    own_value (C.Ext level) n = lit_none b dev out ∙ sym (none_lit (device_at b dev) out)
    own_value C.Reset n = lit_none b dev out ∙ sym (none_lit (device_at b dev) out)

    -- both totals after an event are those before and its shares
    abbrev Adds : Event → Bus → Type 0
    Adds e x = (lit_total x dev out ≡ lit_total b dev out + lit_share dev out b e) × (unlit_total x dev out ≡ unlit_total b dev out + (wait_share dev b e - lit_share dev out b e))

    -- where both totals stay and the share is 0
    nothing : (e : Event) (x : Bus) → (record_at x dev).lit ≡ (record_at b dev).lit → (record_at x dev).unlit ≡ (record_at b dev).unlit → wait_share dev b e ≡ 0 → Adds e x
    nothing e x p q z =
        let l : lit_share dev out b e ≡ 0 = ap (λ (n : ℕ). (lit_reply b dev out n).value) z ∙ lit_none b dev out in (
          omega (arith, ap (λ (r : List ℕ). get_or r out 0) p, l),
          omega (arith, ap (λ (r : List ℕ). get_or r out 0) q, z),
        )

    same_record : (e : Event) (x : Bus) → record_at x dev ≡ record_at b dev → wait_share dev b e ≡ 0 → Adds e x
    same_record e x same = nothing e x (ap (λ (r : Record). r.lit) same) (ap (λ (r : Record). r.unlit) same)

    -- a change that is accepted, of this device
    own_adds : (c : Change) → (step_reply b (E.Change dev c)).code ≡ 0 → NoneHolds (change_refusals (record_at b dev) c) → Adds (E.Change dev c) (with_record b dev (after_change (record_at b dev) c))
    own_adds c z n =
        let kept = change_kept b dev h there c n in
        let next = after_change (record_at b dev) c in
        let share : wait_share dev b (E.Change dev c) ≡ wait_of c = rw (eq-eqb dev dev refl, eq-eqb _ 0 z) in
        let value : lit_share dev out b (E.Change dev c) ≡ lit_of (device_at b dev) out (wait_of c) = ap (λ (w : ℕ). (lit_reply b dev out w).value) share ∙ own_value c n in (
          ap (λ (l : List ℕ). get_or l out 0) (lit_here b dev next kept.lit_long kept.unlit_long few) ∙ own_lit c ∙ ap (λ (x : ℕ). lit_total b dev out + x) (sym value),
          ap (λ (l : List ℕ). get_or l out 0) (unlit_here b dev next kept.lit_long kept.unlit_long few) ∙ own_unlit c ∙ rw (share, value),
        )

    -- and of another
    other_adds : (i : ℕ) (c : Change) → (i ≡ dev → ⊥) → NoneHolds (step_refusals b (E.Change i c)) → Adds (E.Change i c) (with_record b i (after_change (record_at b i) c))
    unfolding step_refusals
    other_adds i c n m =
        let kept = change_kept b i h (not-false (has_device b i) m.0) c m.1.1 in
        same_record (E.Change i c) (with_record b i (after_change (record_at b i) c)) (other_same i (after_change (record_at b i) c) kept.lit_long kept.unlit_long n) (rw (ne_eqb i dev n))

    change_adds : (i : ℕ) (c : Change) → (step_reply b (E.Change i c)).code ≡ 0 → NoneHolds (step_refusals b (E.Change i c)) → Adds (E.Change i c) (with_record b i (after_change (record_at b i) c))
    unfolding step_refusals
    change_adds i c z m =
        elim (tested (eqb i dev)) [
          | holds t ↦ subst (λ (j : ℕ). (step_reply b (E.Change j c)).code ≡ 0 → NoneHolds (change_refusals (record_at b j) c) → Adds (E.Change j c) (with_record b j (after_change (record_at b j) c))) (sym (eqb-true i dev t)) (own_adds c) z m.1.1
          | fails t ↦ other_adds i c (eqb-false i dev t) m
        ]

    accepted_adds : (e : Event) → (step_reply b e).code ≡ 0 → NoneHolds (step_refusals b e) → Adds e (step_done b e).bus
    unfolding step_done
    accepted_adds (E.Add chip addr) z m = same_record (E.Add chip addr) (added_to b (chip_numbered chip) addr) (added_same (chip_numbered chip) addr) refl
    accepted_adds (E.Signal s) z m = nothing (E.Signal s) (bus_after (signal_of s) b) refl refl refl
    accepted_adds (E.Change i c) z m = change_adds i c z m
    accepted_adds (E.Ask i q) z m = same_record (E.Ask i q) b refl refl

    refused_share : (e : Event) → ((step_reply b e).code ≡ 0 → ⊥) → wait_share dev b e ≡ 0
    refused_share (E.Add chip addr) n = refl
    refused_share (E.Signal s) n = refl
    refused_share (E.Change i c) n = rw (ne_eqb _ 0 n, and-false (eqb i dev))
    refused_share (E.Ask i q) n = refl

    pub step_adds : (e : Event) → Adds e (step_reply b e).bus
    step_adds e = step_by b e (λ r. Adds e r.bus) (accepted_adds e) (λ n. same_record e b refl (refused_share e n))

  -- ---- any event but a wait of this device leaves its totals

  abbrev Same : Bus → Type 0
  Same x = ((record_at x dev).lit ≡ (record_at b dev).lit) × ((record_at x dev).unlit ≡ (record_at b dev).unlit)

  same_both : (x : Bus) → record_at x dev ≡ record_at b dev → Same x
  same_both x e = (ap (λ (r : Record). r.lit) e, ap (λ (r : Record). r.unlit) e)

  own_same : (c : Change) → is_waiting c ≡ false → ((after_change (record_at b dev) c).lit ≡ (record_at b dev).lit) × ((after_change (record_at b dev) c).unlit ≡ (record_at b dev).unlit)
  unfolding after_change
  own_same (C.Wait w) e = absurd (true≢false e)
  own_same (C.Oe level) e = (refl, refl)
  own_same (C.Ext level) e = (refl, refl)
  own_same C.Reset e = (refl, refl)

  change_same : (i : ℕ) (c : Change) → is_wait_at dev (E.Change i c) ≡ false → NoneHolds (step_refusals b (E.Change i c)) → Same (with_record b i (after_change (record_at b i) c))
  unfolding step_refusals
  change_same i c w m =
      let kept = change_kept b i h (not-false (has_device b i) m.0) c m.1.1 in
      let next = after_change (record_at b i) c in
      elim (tested (eqb i dev)) [
        | holds t ↦
            let q = eqb-true i dev t in
            let s = subst (λ (j : ℕ). ((after_change (record_at b j) c).lit ≡ (record_at b j).lit) × ((after_change (record_at b j) c).unlit ≡ (record_at b j).unlit)) (sym q) (own_same c (rw t at w)) in
            let p = subst (λ (j : ℕ). j < 8) (sym q) few in
            subst (λ (j : ℕ). ((record_at (with_record b i next) j).lit ≡ (record_at b j).lit) × ((record_at (with_record b i next) j).unlit ≡ (record_at b j).unlit)) q (lit_here b i next kept.lit_long kept.unlit_long p ∙ s.0, unlit_here b i next kept.lit_long kept.unlit_long p ∙ s.1)
        | fails t ↦ same_both (with_record b i next) (other_same i next kept.lit_long kept.unlit_long (eqb-false i dev t))
      ]

  done_same : (e : Event) → is_wait_at dev e ≡ false → NoneHolds (step_refusals b e) → Same (step_done b e).bus
  unfolding step_done
  done_same (E.Add chip addr) w m = same_both (added_to b (chip_numbered chip) addr) (added_same (chip_numbered chip) addr)
  done_same (E.Signal s) w m = (refl, refl)
  done_same (E.Change i c) w m = change_same i c w m
  done_same (E.Ask i q) w m = (refl, refl)

  pub step_same : (e : Event) → is_wait_at dev e ≡ false → Same (step_reply b e).bus
  step_same e w = step_by b e (λ r. Same r.bus) (λ z n. done_same e w n) (λ n. (refl, refl))
