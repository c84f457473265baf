-- Promises that a device on a bus behaves as if it were alone there: with every other device removed, the events for others dropped and the rest turned to position 0, it has the same record
-- after any sequence of events, any message and any recording. What the master hears may differ, and it is said how.
use Rattle.std.specs.Prelude.{Option, Some, ◌≡◌, refl, true, false, cond, List, ◌∷◌, ◌++◌, map, ℕ, ◌≤◌, length, get_or}
use Rattle.std.proofs.Common.{sym, ap, subst, ◌∙◌, le_refl, arith, eq-eqb}
use Rattle.basics.specs.Below.{all_below}
use Rattle.basics.specs.Bits.{bit}
use Rattle.basics.specs.First.{all}
use Rattle.basics.specs.Tabulate.{tabulate}
use Rattle.bus.specs.Devices.{bus_ok, record_at, empty_bus}
use Rattle.bus.specs.Events.{step_reply, run_bus, put_reply}
use Rattle.bus.proofs.Promises.{empty_well, run_well}
use Rattle.bus.proofs.laws.Runs.{run_both, run_places}
use Rattle.bus.specs.declared.Bus.{Bus}
use Rattle.bus.specs.declared.Event.{Event}
use Rattle.bus.specs.declared.Event.TheVariants.{Add, Signal, Ask}
use Rattle.bus.specs.declared.Question.{Question}
use Rattle.message.specs.Write.{write_events, write_refusals, write_reply}
use Rattle.message.specs.Read.{read_head, ack_at, gets_of, read_events, read_refusals, read_reply, bytes_got}
use Rattle.replay.specs.Time.{Clock, since, after_time}
use Rattle.replay.specs.Replay.{stamped, replayed, replay_bus}
use Rattle.replay.specs.ByHand.{waits_below, by_hand, all_by_hand, flat, AllAccepted}
use Rattle.replay.proofs.Promises.{replay_event, replay_bus_lem, replay_on, replay_shape, recording_by_hand}
use Rattle.replay.proofs.laws.Alike.{time_shape, time_count, time_places}
use Rattle.replay.proofs.laws.Waits.{accepted_parts}
use Rattle.replay.specs.declared.Entry.{Entry}
use Rattle.alone.specs.Alone.{only, alone, Present, concerns, renamed, shortened, is_silent, AsAlone, is_add, is_transfer, get_reply}
use Rattle.alone.proofs.laws.Step.{alone_record, alone_well}
use Rattle.alone.proofs.laws.Run.{run_present, kept, dropped, run, accepted, shortened_both}
use Rattle.alone.proofs.laws.Added.{add_accepted, add_alone, add_present, early_dropped, adds_silent, adds_count}
use Rattle.alone.proofs.laws.Values.{put_value, get_all, get_value, other_value}
use Rattle.alone.proofs.laws.Entries.{hand_kept, hand_dropped}
use Rattle.alone.proofs.laws.Messages.{signals_run, gets_alone, message_alone, write_refusals_lem, read_refusals_lem}

module _ (i : ℕ) (b : Bus) (p : Present i b) where
  -- ---- the bus with the device alone

  pub alone_is : ((alone i b).phase ≡ b.phase) × (((alone i b).count ≡ 1) × ((record_at (alone i b) 0 ≡ record_at b i) × (bus_ok (alone i b) ≡ true)))
  unfolding only
  alone_is = (refl, (refl, (alone_record b i p.0 p.1.0, alone_well b i p.0 p.1.0)))

  -- ---- one event, accepted or refused

  pub event_kept : (e : Event) → concerns i e ≡ true → AsAlone i (step_reply (alone i b) (renamed e)) (step_reply b e)
  event_kept e o = kept i b e p o

  pub event_dropped : (e : Event) → concerns i e ≡ false → alone i (step_reply b e).bus ≡ alone i b
  event_dropped e o = dropped i b e p o

  -- ---- any sequence of events

  -- the device stays where it is, so that what is said here holds at every moment of a run
  pub present_stays : (l : List Event) → Present i (run_bus b l)
  present_stays l = run_present i b l p

  pub run_alone : (l : List Event) → run_bus (alone i b) (shortened i l) ≡ alone i (run_bus b l)
  run_alone l = run i b l p

  -- accepted throughout, it is accepted throughout, and leaves the same record
  pub record_alone : (l : List Event) → AllAccepted b l → AllAccepted (alone i b) (shortened i l) × (record_at (run_bus (alone i b) (shortened i l)) 0 ≡ record_at (run_bus b l) i)
  record_alone l a =
      let q = present_stays l in
      (accepted i b l p a, ap (λ (x : Bus). record_at x 0) (run_alone l) ∙ alone_record (run_bus b l) i q.0 q.1.0)

  -- ---- both messages, accepted or refused: alone, no more puts are acknowledged, and each byte got has every bit of the common one

  pub write_alone : (address : ℕ) (bytes : List ℕ) → AsAlone i (write_reply (alone i b) address bytes) (write_reply b address bytes) × ((write_reply (alone i b) address bytes).value ≤ (write_reply b address bytes).value)
  unfolding write_reply
  write_alone address bytes = rw (write_refusals_lem i b address p) (message_alone i b (write_refusals b address) (write_events address bytes) p)

  pub read_alone : (address control n place size : ℕ) → AsAlone i (read_reply (alone i b) address control n place size) (read_reply b address control n place size) × ((read_reply (alone i b) address control n place size).value ≤ (read_reply b address control n place size).value)
  unfolding read_reply
  read_alone address control n place size =
      rw (read_refusals_lem i b address control n place size p) (message_alone i b (read_refusals b address control n place size) (read_events address control n) p)

  pub bytes_alone : (address control n k at : ℕ) → bit k (get_or (bytes_got b address control n) at 0) ≡ true → bit k (get_or (bytes_got (alone i b) address control n) at 0) ≡ true
  unfolding gets_of
  bytes_alone address control n k at e =
      rw (signals_run i b (read_head address control) p) (gets_alone i (run_bus b (map Signal (read_head address control))) (tabulate n (ack_at n)) at k (run_present i b (map Signal (read_head address control)) p) e)

  -- ---- a recording, by its waits and events by hand

  -- what is left of an accepted entry: the same entry by hand for the device alone, or, where its event is for others, the wait of its time
  pub entry_kept : (clock : Clock) (at : ℕ) (e : Event) → concerns i e ≡ true → shortened i (by_hand b clock (stamped at e)) ≡ by_hand (alone i b) clock (stamped at (renamed e))
  entry_kept clock at e o = hand_kept i b p clock at e o

  pub entry_dropped : (clock : Clock) (at : ℕ) (e : Event) → concerns i e ≡ false → shortened i (by_hand b clock (stamped at e)) ≡ waits_below (since clock at) (alone i b) (alone i b).count
  entry_dropped clock at e o = hand_dropped i b p clock at e o

  pub recording_alone : (clock : Clock) (l : List (Option Entry)) → AllAccepted (alone i b) (shortened i (flat (all_by_hand b clock l))) × (record_at (run_bus (alone i b) (shortened i (flat (all_by_hand b clock l)))) 0 ≡ record_at (replay_bus b clock l) i)
  recording_alone clock l =
      let r = recording_by_hand b clock l p.0 in
      let s = record_alone (flat (all_by_hand b clock l)) r.0 in
      (s.0, s.1 ∙ ap (λ (x : Bus). record_at x i) r.2)

  -- ---- what the master hears

  -- a put's set alone is bit 0 exactly where bit i stood
  pub put_alone : (byte : ℕ) → (put_reply (alone i b) byte).value ≡ cond (bit i (put_reply b byte).value) 1 0
  put_alone = put_value i b p

  -- a get's byte alone has every bit that the common one has, which is the AND of what each device has alone
  pub get_alone : (ack k : ℕ) → bit k (get_reply b ack).value ≡ true → bit k (get_reply (alone i b) ack).value ≡ true
  get_alone = get_value i b p

  pub get_together : (ack k : ℕ) → bit k (get_reply b ack).value ≡ all_below b.count (λ j. bit k (get_reply (alone j b) ack).value)
  get_together = get_all i b p

  -- any other event has the same value, and so have lit and pin
  pub value_alone : (e : Event) → concerns i e ≡ true → is_transfer e ≡ false → (step_reply (alone i b) (renamed e)).value ≡ (step_reply b e).value
  value_alone = other_value i b p

  pub asked_alone : (q : Question) → ((step_reply (alone i b) (Ask 0 q)).code ≡ (step_reply b (Ask i q)).code) × ((step_reply (alone i b) (Ask 0 q)).value ≡ (step_reply b (Ask i q)).value)
  asked_alone q = let o = eq-eqb i i refl in ((event_kept (Ask i q) o).0, value_alone (Ask i q) o refl)

-- ---- a device that is added to a bus: it has the record that it would have as the only one added

module _ (b : Bus) (chip addr : ℕ) (h : bus_ok b ≡ true) (places : length b.devices ≡ 8) where
  pub added_alone : (l : List Event) → AllAccepted b (Add chip addr ∷ l) → AllAccepted empty_bus (Add chip addr ∷ shortened b.count l) × (record_at (run_bus empty_bus (Add chip addr ∷ shortened b.count l)) 0 ≡ record_at (run_bus b (Add chip addr ∷ l)) b.count)
  added_alone l a =
      let same = add_alone b chip addr a.0 places in
      let r = record_alone b.count (step_reply b (Add chip addr)).bus (add_present b chip addr a.0 h places) l a.1 in
      ((add_accepted b chip addr a.0, rw same r.0), ap (λ (x : Bus). record_at (run_bus x (shortened b.count l)) 0) same ∙ r.1)

-- by an entry of a recording
module _ (b : Bus) (clock : Clock) (at chip addr : ℕ) (l : List (Option Entry)) (h : bus_ok b ≡ true) (places : length b.devices ≡ 8) (z : (replayed b clock (stamped at (Add chip addr))).reply.code ≡ 0) where
  abbrev pub grown : Bus
  grown = (replayed b clock (stamped at (Add chip addr))).reply.bus

  abbrev passed : Bus
  passed = after_time (since clock at) b

  grown_is : grown ≡ (step_reply passed (Add chip addr)).bus
  grown_is = replay_bus_lem b clock at (Add chip addr) z

  by_hand_lem : AllAccepted passed (Add chip addr ∷ flat (all_by_hand grown (Some at) l)) × (run_bus passed (Add chip addr ∷ flat (all_by_hand grown (Some at) l)) ≡ replay_bus b clock (stamped at (Add chip addr) ∷ l))
  by_hand_lem =
      let r = recording_by_hand grown (Some at) l (replay_shape b clock (stamped at (Add chip addr)) ∙ h) in (
        (replay_event b clock at (Add chip addr) z, subst (λ (x : Bus). AllAccepted x (flat (all_by_hand grown (Some at) l))) grown_is r.0),
        ap (λ (x : Bus). run_bus x (flat (all_by_hand grown (Some at) l))) (sym grown_is) ∙ r.2 ∙ sym (replay_on b clock at (Add chip addr) l z),
      )

  pub recorded_alone : AllAccepted empty_bus (Add chip addr ∷ shortened b.count (flat (all_by_hand grown (Some at) l)))
      × (record_at (run_bus empty_bus (Add chip addr ∷ shortened b.count (flat (all_by_hand grown (Some at) l)))) 0 ≡ record_at (replay_bus b clock (stamped at (Add chip addr) ∷ l)) b.count)
  recorded_alone =
      rw (by_hand_lem.1, time_count (since clock at) b) at (added_alone passed chip addr (time_shape (since clock at) b ∙ h) (time_places (since clock at) b ∙ places) (flat (all_by_hand grown (Some at) l)) by_hand_lem.0)

-- from an empty bus on, added before the first START: the device's own add, and what is left of all else
pub early_alone : (before l : List Event) (chip addr : ℕ) → all is_silent before ≡ true → AllAccepted empty_bus (before ++ Add chip addr ∷ l)
    → AllAccepted empty_bus (Add chip addr ∷ shortened (run_bus empty_bus before).count (before ++ l)) × (record_at (run_bus empty_bus (Add chip addr ∷ shortened (run_bus empty_bus before).count (before ++ l))) 0 ≡ record_at (run_bus empty_bus (before ++ Add chip addr ∷ l)) (run_bus empty_bus before).count)
early_alone before l chip addr o a =
    let parts = accepted_parts empty_bus before (Add chip addr ∷ l) a in
    let i = (run_bus empty_bus before).count in
    let left : shortened i (before ++ l) ≡ shortened i l = shortened_both i before l ∙ ap (λ (t : List Event). t ++ shortened i l) (early_dropped i empty_bus before o parts.0 (le_refl i)) in
    rw (left, run_both empty_bus before (Add chip addr ∷ l)) (added_alone (run_bus empty_bus before) chip addr (run_well empty_bus before empty_well) (run_places empty_bus before) l parts.1)

-- nothing but adds before it: its position is their number
pub adds_alone : (adds l : List Event) (chip addr : ℕ) → all is_add adds ≡ true → AllAccepted empty_bus (adds ++ Add chip addr ∷ l)
    → AllAccepted empty_bus (Add chip addr ∷ shortened (length adds) (adds ++ l)) × (record_at (run_bus empty_bus (Add chip addr ∷ shortened (length adds) (adds ++ l))) 0 ≡ record_at (run_bus empty_bus (adds ++ Add chip addr ∷ l)) (length adds))
adds_alone adds l chip addr o a =
    let n : (run_bus empty_bus adds).count ≡ length adds = omega (arith, adds_count empty_bus adds o (accepted_parts empty_bus adds (Add chip addr ∷ l) a).0) in
    rw (← n) (early_alone adds l chip addr (adds_silent adds o) a)
