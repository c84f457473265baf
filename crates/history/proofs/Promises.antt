-- Promises on the totals, for any well-formed bus and any sequence of events: each of an output's two is the one before and the sum, wait by wait, of what a lit question just before the wait
-- answers, or of the rest of the wait; from 0 on for a device that is added; the same for a recording. No other event changes a total, and totals change no answer but a wait's 6.
use Rattle.std.specs.Prelude.{Option, Some, None, ◌≡◌, true, false, ℕ, ◌+◌, ◌≤◌, ◌<◌, leb, set, refl, List, [], ◌∷◌}
use Rattle.std.proofs.Common.{ap, sym, ◌∙◌, true≢false, leb-true, leb-false, ne_eqb, arith}
use Rattle.std.proofs.lemmas.Bool.{not-false}
use Rattle.basics.specs.laws.Logic.{neither}
use Rattle.basics.specs.laws.Parts.{part_same}
use Rattle.basics.specs.laws.Below.{below_at}
use Rattle.chip.specs.declared.Chip.{Chip}
use Rattle.chip.specs.Kinds.{chip_numbered, is_unknown, outputs_of}
use Rattle.device.specs.Wait.{is_too_long}
use Rattle.totals.specs.Wait.{exceeds}
use Rattle.totals.specs.Totals.{total_limit, zeros, totals_within}
use Rattle.totals.specs.declared.Record.{Record}
use Rattle.refusals.specs.Refusals.{code_of, holds_at}
use Rattle.bus.specs.Devices.{bus_ok, has_device, device_at, record_at}
use Rattle.bus.specs.Place.{change_refusals, after_change}
use Rattle.bus.specs.Events.{step_reply, step_refusals, step_done, run_bus, wait_reply, lit_reply}
use Rattle.bus.specs.Signals.{signal_value}
use Rattle.bus.specs.Add.{added_to}
use Rattle.bus.proofs.Promises.{step_code, refused_same, step_well}
use Rattle.bus.proofs.laws.Steps.{done, step_stands, added_there}
use Rattle.bus.proofs.laws.WellFormed.{at_fits}
use Rattle.bus.proofs.laws.Records.{nought}
use Rattle.bus.specs.declared.Event.TheVariants as E
use Rattle.bus.specs.declared.SignalEvent.{SignalEvent}
use Rattle.bus.specs.declared.SignalEvent.TheVariants as S
use Rattle.bus.specs.declared.Change.{Change}
use Rattle.bus.specs.declared.Change.TheVariants as C
use Rattle.bus.specs.declared.Bus.{Bus}
use Rattle.bus.specs.declared.Event.{Event}
use Rattle.replay.specs.Time.{Clock, since, after_time}
use Rattle.replay.specs.Replay.{stamped, replayed, replay_bus}
use Rattle.replay.specs.ByHand.{all_by_hand, flat}
use Rattle.replay.proofs.Promises.{replay_event, replay_bus_lem, replay_on, replay_shape, recording_by_hand}
use Rattle.replay.proofs.laws.Alike.{time_count}
use Rattle.replay.proofs.laws.Timed.{step_by}
use Rattle.replay.specs.declared.Entry.{Entry}
use Rattle.history.specs.History.{lit_total, unlit_total, wait_share, wait_sum, lit_sum, rest_sum, is_waiting, is_wait, is_wait_at, with_totals}
use Rattle.history.proofs.laws.Step.{lit_answer, lit_few_answered, step_adds, step_same}

-- ---- any sequence of events

module _ (dev out : ℕ) where
  -- the lit total and the unlit one
  pub lit_history : (b : Bus) (l : List Event) → bus_ok b ≡ true → has_device b dev ≡ true → out < outputs_of (device_at b dev).chip → lit_total (run_bus b l) dev out ≡ lit_total b dev out + lit_sum dev out b l
  unfolding lit_sum
  lit_history b [] h there k = omega arith
  lit_history b (e ∷ l) h there k =
      let s = step_stands b dev h there e in
      let on = lit_history (step_reply b e).bus l (step_well b e h) s.0 (rw s.1 k) in
      omega (arith, on, (step_adds b dev out h there k e).0)

  pub unlit_history : (b : Bus) (l : List Event) → bus_ok b ≡ true → has_device b dev ≡ true → out < outputs_of (device_at b dev).chip → unlit_total (run_bus b l) dev out ≡ unlit_total b dev out + rest_sum dev out b l
  unfolding rest_sum
  unlit_history b [] h there k = omega arith
  unlit_history b (e ∷ l) h there k =
      let s = step_stands b dev h there e in
      let on = unlit_history (step_reply b e).bus l (step_well b e h) s.0 (rw s.1 k) in
      omega (arith, on, (step_adds b dev out h there k e).1)

  -- so both together grow by exactly the time waited, asleep included
  shares_all : (b : Bus) (l : List Event) → lit_sum dev out b l + rest_sum dev out b l ≡ wait_sum dev b l
  unfolding lit_sum rest_sum wait_sum
  shares_all b [] = refl
  shares_all b (e ∷ l) = omega (arith, shares_all (step_reply b e).bus l, lit_few_answered b dev out (wait_share dev b e))

  pub both_history : (b : Bus) (l : List Event) → bus_ok b ≡ true → has_device b dev ≡ true → out < outputs_of (device_at b dev).chip → lit_total (run_bus b l) dev out + unlit_total (run_bus b l) dev out ≡ lit_total b dev out + unlit_total b dev out + wait_sum dev b l
  both_history b l h there k = omega (arith, lit_history b l h there k, unlit_history b l h there k, shares_all b l)

-- the lit question just before an accepted wait is never refused
pub wait_asked : (b : Bus) (dev out w : ℕ) → (wait_reply b dev w).code ≡ 0 → out < outputs_of (device_at b dev).chip → (lit_reply b dev out w).code ≡ 0
unfolding step_refusals change_refusals exceeds
wait_asked b dev out w z k =
    let n = (done b (E.Change dev (C.Wait w)) z).0 in
    (lit_answer b dev out w (not-false (bus_ok b) n.1.0) (not-false (has_device b dev) n.0) k (neither (is_too_long (device_at b dev) w) _ n.1.1.0).0).0

-- ---- the limit

-- on a well-formed bus, which every event leaves well formed, an output's two totals are together at most 2^56
pub totals_within_lem : (b : Bus) (dev out : ℕ) → bus_ok b ≡ true → has_device b dev ≡ true → out < outputs_of (device_at b dev).chip → lit_total b dev out + unlit_total b dev out ≤ total_limit
unfolding totals_within
totals_within_lem b dev out h there k =
    omega (arith, leb-true (lit_total b dev out + unlit_total b dev out + 0) total_limit (below_at (λ i. leb (lit_total b dev i + unlit_total b dev i + 0) total_limit) out (outputs_of (device_at b dev).chip) k (at_fits b dev h there)))

-- ---- a device that is added

-- its totals are 0, whatever stood there
zero_at : (b : Bus) (found : Option Chip) (address out : ℕ) → is_unknown found ≡ false → b.count < 8 → (lit_total (added_to b found address) b.count out ≡ 0) × (unlit_total (added_to b found address) b.count out ≡ 0)
zero_at b None address out u h = absurd (true≢false u)
zero_at b (Some chip) address out u h =
    (rw (part_same 8 16 b.count zeros b.lit h refl) (nought out), rw (part_same 8 16 b.count zeros b.unlit h refl) (nought out))

pub added_zero : (b : Bus) (chip addr out : ℕ) → (step_reply b (E.Add chip addr)).code ≡ 0 → (lit_total (step_reply b (E.Add chip addr)).bus b.count out ≡ 0) × (unlit_total (step_reply b (E.Add chip addr)).bus b.count out ≡ 0)
unfolding step_done step_refusals
added_zero b chip addr out z =
    let d = done b (E.Add chip addr) z in
    let n = d.0 in
    rw d.1 (zero_at b (chip_numbered chip) addr out n.0 (leb-false 8 b.count n.1.1.0))

-- so its sums start at 0
pub added_history : (b : Bus) (chip addr out : ℕ) (l : List Event) → bus_ok b ≡ true → (step_reply b (E.Add chip addr)).code ≡ 0 → out < outputs_of (device_at (step_reply b (E.Add chip addr)).bus b.count).chip
    → (lit_total (run_bus b (E.Add chip addr ∷ l)) b.count out ≡ lit_sum b.count out (step_reply b (E.Add chip addr)).bus l)
    × ((unlit_total (run_bus b (E.Add chip addr ∷ l)) b.count out ≡ rest_sum b.count out (step_reply b (E.Add chip addr)).bus l)
    × (lit_total (run_bus b (E.Add chip addr ∷ l)) b.count out + unlit_total (run_bus b (E.Add chip addr ∷ l)) b.count out ≡ wait_sum b.count (step_reply b (E.Add chip addr)).bus l))
added_history b chip addr out l h z k =
    let there = added_there b chip addr z in
    let x = (step_reply b (E.Add chip addr)).bus in
    let w = step_well b (E.Add chip addr) h in
    let o = added_zero b chip addr out z in
    let lit = lit_history b.count out x l w there k in
    let rest = unlit_history b.count out x l w there k in
    (omega (arith, lit, o.0), (omega (arith, rest, o.1), omega (arith, both_history b.count out x l w there k, o.0, o.1)))

-- ---- a recording, its time included: its waits and events by hand

module _ (b : Bus) (clock : Clock) (l : List (Option Entry)) (dev out : ℕ) (h : bus_ok b ≡ true) (there : has_device b dev ≡ true) (k : out < outputs_of (device_at b dev).chip) where
  abbrev hand : List Event
  hand = flat (all_by_hand b clock l)

  same_bus : run_bus b hand ≡ replay_bus b clock l
  same_bus = (recording_by_hand b clock l h).2

  pub recording_history : (lit_total (replay_bus b clock l) dev out ≡ lit_total b dev out + lit_sum dev out b (flat (all_by_hand b clock l)))
      × ((unlit_total (replay_bus b clock l) dev out ≡ unlit_total b dev out + rest_sum dev out b (flat (all_by_hand b clock l)))
      × (lit_total (replay_bus b clock l) dev out + unlit_total (replay_bus b clock l) dev out ≡ lit_total b dev out + unlit_total b dev out + wait_sum dev b (flat (all_by_hand b clock l))))
  recording_history = (
    rw same_bus at (lit_history dev out b hand h there k),
    (rw same_bus at (unlit_history dev out b hand h there k), rw same_bus at (both_history dev out b hand h there k)),
  )

-- a device that an entry adds: from 0 on, by the waits and events of the entries behind it
module _ (b : Bus) (clock : Clock) (at chip addr out : ℕ) (l : List (Option Entry)) (h : bus_ok b ≡ true) (z : (replayed b clock (stamped at (E.Add chip addr))).reply.code ≡ 0) where
  abbrev passed : Bus
  passed = after_time (since clock at) b

  abbrev pub grown : Bus
  grown = (replayed b clock (stamped at (E.Add chip addr))).reply.bus

  taken : (step_reply passed (E.Add chip addr)).code ≡ 0
  taken = replay_event b clock at (E.Add chip addr) z

  grown_is : (step_reply passed (E.Add chip addr)).bus ≡ grown
  grown_is = sym (replay_bus_lem b clock at (E.Add chip addr) z)

  grown_zero : (lit_total grown b.count out ≡ 0) × (unlit_total grown b.count out ≡ 0)
  grown_zero = rw (grown_is, time_count (since clock at) b) at (added_zero passed chip addr out taken)

  grown_there : has_device grown b.count ≡ true
  grown_there = rw (grown_is, time_count (since clock at) b) at (added_there passed chip addr taken)

  pub recording_added : out < outputs_of (device_at grown b.count).chip
      → (lit_total (replay_bus b clock (stamped at (E.Add chip addr) ∷ l)) b.count out ≡ lit_sum b.count out grown (flat (all_by_hand grown (Some at) l)))
      × ((unlit_total (replay_bus b clock (stamped at (E.Add chip addr) ∷ l)) b.count out ≡ rest_sum b.count out grown (flat (all_by_hand grown (Some at) l)))
      × (lit_total (replay_bus b clock (stamped at (E.Add chip addr) ∷ l)) b.count out + unlit_total (replay_bus b clock (stamped at (E.Add chip addr) ∷ l)) b.count out ≡ wait_sum b.count grown (flat (all_by_hand grown (Some at) l))))
  recording_added k =
      let o = grown_zero in
      let r = recording_history grown (Some at) l b.count out (replay_shape b clock (stamped at (E.Add chip addr)) ∙ h) grown_there k in
      rw (replay_on b clock at (E.Add chip addr) l z) (omega (arith, r.0, o.0), (omega (arith, r.1.0, o.1), omega (arith, r.1.1, o.0, o.1)))

-- ---- no other event changes a total

pub others_keep : (b : Bus) (e : Event) (dev : ℕ) → bus_ok b ≡ true → has_device b dev ≡ true → is_wait_at dev e ≡ false → ((record_at (step_reply b e).bus dev).lit ≡ (record_at b dev).lit) × ((record_at (step_reply b e).bus dev).unlit ≡ (record_at b dev).unlit)
others_keep b e dev h there w = step_same b dev 0 h there e w

-- ---- totals change no answer but a wait's 6

module _ (b : Bus) (lit unlit : List ℕ) (h : bus_ok b ≡ true) (g : bus_ok (with_totals b lit unlit) ≡ true) where
  abbrev other : Bus
  other = with_totals b lit unlit

  changes_alike : (r s : Record) (c : Change) → r.device ≡ s.device → is_waiting c ≡ false → change_refusals r c ≡ change_refusals s c
  unfolding change_refusals
  changes_alike r s (C.Wait w) e n = absurd (true≢false n)
  changes_alike r s (C.Oe level) e n = rw e
  changes_alike r s (C.Ext level) e n = rw e
  changes_alike r s C.Reset e n = refl

  after_alike : (r s : Record) (c : Change) → r.device ≡ s.device → is_waiting c ≡ false → (after_change r c).device ≡ (after_change s c).device
  unfolding after_change
  after_alike r s (C.Wait w) e n = absurd (true≢false n)
  after_alike r s (C.Oe level) e n = rw e
  after_alike r s (C.Ext level) e n = rw e
  after_alike r s C.Reset e n = rw e

  refusals_alike : (e : Event) → is_wait e ≡ false → step_refusals other e ≡ step_refusals b e
  unfolding step_refusals
  refusals_alike (E.Add chip addr) n = rw (h, g)
  refusals_alike (E.Signal s) n = rw (h, g)
  refusals_alike (E.Change i c) n = rw (h, g, changes_alike (record_at other i) (record_at b i) c refl n)
  refusals_alike (E.Ask i q) n = rw (h, g)

  -- two buses that differ in totals at most
  abbrev pub Alike : Bus → Bus → Type 0
  Alike x y = (x.phase ≡ y.phase) × ((x.count ≡ y.count) × (x.devices ≡ y.devices))

  added_alike : (found : Option Chip) (address : ℕ) → Alike (added_to other found address) (added_to b found address)
  added_alike None address = (refl, (refl, refl))
  added_alike (Some chip) address = (refl, (refl, refl))

  value_alike : (s : SignalEvent) → signal_value other s ≡ signal_value b s
  value_alike S.Start = refl
  value_alike S.Stop = refl
  value_alike (S.Put byte) = refl
  value_alike (S.Get ack) = refl

  done_alike : (e : Event) → is_wait e ≡ false → ((step_done other e).value ≡ (step_done b e).value) × Alike (step_done other e).bus (step_done b e).bus
  unfolding step_done
  done_alike (E.Add chip addr) n = (refl, added_alike (chip_numbered chip) addr)
  done_alike (E.Signal s) n = (value_alike s, (refl, (refl, refl)))
  done_alike (E.Change i c) n = (refl, (refl, (refl, ap (set b.devices i) (after_alike (record_at other i) (record_at b i) c refl n))))
  done_alike (E.Ask i q) n = (refl, (refl, (refl, refl)))

  code_alike : (e : Event) → is_wait e ≡ false → (step_reply other e).code ≡ (step_reply b e).code
  code_alike e n = step_code other e ∙ ap code_of (refusals_alike e n) ∙ sym (step_code b e)

  -- any event but a wait has the same code and value, and leaves the same devices
  pub totals_unseen : (e : Event) → is_wait e ≡ false → ((step_reply other e).code ≡ (step_reply b e).code) × (((step_reply other e).value ≡ (step_reply b e).value) × Alike (step_reply other e).bus (step_reply b e).bus)
  totals_unseen e n = (
    code_alike e n,
    step_by b e (λ r. ((step_reply other e).value ≡ r.value) × Alike (step_reply other e).bus r.bus) (λ z m. rw (done other e (code_alike e n ∙ z)).1 (done_alike e n))
        (λ m. rw (refused_same other e (λ z. m (sym (code_alike e n) ∙ z))) (refl, (refl, (refl, refl)))),
  )

  -- and of a wait's conditions only that of 6 depends on them
  waiting_unseen : (k : ℕ) → (k ≡ 6 → ⊥) → (r s : Record) (c : Change) → r.device ≡ s.device → holds_at (change_refusals r c) k ≡ holds_at (change_refusals s c) k
  unfolding change_refusals
  waiting_unseen k o r s (C.Wait w) e = rw (ne_eqb 6 k (λ q. o (sym q)))
  waiting_unseen k o r s (C.Oe level) e = rw e
  waiting_unseen k o r s (C.Ext level) e = rw e
  waiting_unseen k o r s C.Reset e = refl

  pub only_six : (k : ℕ) → (k ≡ 6 → ⊥) → (e : Event) → holds_at (step_refusals other e) k ≡ holds_at (step_refusals b e) k
  unfolding step_refusals
  only_six k o (E.Add chip addr) = rw (h, g)
  only_six k o (E.Signal s) = rw (h, g)
  only_six k o (E.Change i c) = rw (h, g, waiting_unseen k o (record_at other i) (record_at b i) c refl)
  only_six k o (E.Ask i q) = rw (h, g)
