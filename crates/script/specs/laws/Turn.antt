-- One line more: its reply is written, and the state goes on.
use Rattle.std.specs.Prelude.{Option, Some, None, ℕ, ◌+◌, ◌-◌, ◌<◌, ◌≡◌, refl, List, take, drop}
use Rattle.std.proofs.Math.Path.{sym, ap}
use Rattle.std.proofs.Common.{◌∙◌}
use Rattle.std.proofs.Math.ListN.{length}
use Rattle.bus.specs.Devices.{bus_ok}
use Rattle.bus.specs.Events.{request_reply}
use Rattle.bus.specs.declared.Bus.{Bus}
use Rattle.bus.specs.declared.Event.{Event}
use Rattle.bus.specs.declared.Reply.{Reply}
use Rattle.bus.proofs.laws.WellFormed.{step_places}
use Rattle.replay.specs.Replay.{replayed}
use Rattle.replay.proofs.laws.Alike.{replay_places}
use Rattle.replay.specs.Time.{Clock}
use Rattle.replay.specs.declared.Entry.{Entry}
use Rattle.replay.specs.declared.Replayed.{Replayed}
use Rattle.text.specs.Lines.{end_of}
use Rattle.text.specs.Write.{Written}
use Rattle.text.specs.laws.Run.{Did, did_more}
use Rattle.script.specs.Parser.{parsed, parsed_entry}
use Rattle.script.specs.Answer.{answer_line}
use Rattle.script.specs.Twin.{reply_to, form_after, next_number, after_line, answer_to, twin}
use Rattle.script.specs.Promises.{reply_shape}
use Rattle.script.specs.declared.twin.Form.{Form}
use Rattle.script.specs.declared.twin.Form.TheVariants.{Plain, Stamped}
use Rattle.script.specs.declared.twin.State.{State}

-- no line changes how many places there are
reply_places : (b : Bus) (form : Form) (l : List ℕ) → length (reply_to b form l).bus.devices ≡ length b.devices
unfolding reply_to
reply_places b Plain l = go (parsed l)
  where
    go : (q : Option Event) → length (request_reply b q).bus.devices ≡ length b.devices
    go (Some event) = step_places b event
    go None = refl
reply_places b (Stamped clock) l = replay_places b clock (parsed_entry l)

module _ {first : State} {input old new : List ℕ} {read wrote lines : ℕ} {bus : Bus} {form : Form} (end n : ℕ)
    (so_far : Did twin first input old new read wrote (record { lines = lines; bus = bus; form = form }))
    (ends : end ≡ read + end_of (drop read input)) (whole : end < length input) (next : n ≡ next_number lines) where
  -- what a turn leaves: the line answered too, on a bus as well formed as it was, with as many places
  abbrev Turned : List ℕ → ℕ → Bus → Form → Type 0
  Turned new' at after form' =
      Did twin first input old new' (end + 1) at (record { lines = n; bus = after; form = form' }) × (bus_ok bus ≡ bus_ok after) × (length after.devices ≡ length bus.devices)

  turn : (new' : List ℕ) (at : ℕ) (reply : Reply) (form' : Form)
      → reply ≡ reply_to bus form (take (end - read) (drop read input))
      → form' ≡ form_after bus form (take (end - read) (drop read input))
      → Written new wrote (answer_line n reply.code reply.value) new' at → Turned new' at reply.bus form'
  unfolding after_line answer_to
  turn new' at reply form' r f w = (
    did_more twin end so_far ends whole (rw (next, r, f)) (rw (← r, ← next) w),
    sym (reply_shape bus form _) ∙ sym (ap (λ (x : Reply). bus_ok x.bus) r),
    ap (λ (x : Reply). length x.bus.devices) r ∙ reply_places bus form _,
  )

  -- of a plain line, with the reply to its request
  pub turn_plain : (new' : List ℕ) (at : ℕ) (reply : Reply) (request : Option Event) → form ≡ Plain → request ≡ parsed (take (end - read) (drop read input)) → reply ≡ request_reply bus request
      → Written new wrote (answer_line n reply.code reply.value) new' at → Turned new' at reply.bus form
  unfolding reply_to form_after
  turn_plain new' at reply request p q r w = turn new' at reply form (rw p (r ∙ ap (request_reply bus) q)) (rw p refl) w

  -- of a stamped one, with its entry replayed
  pub turn_stamped : (new' : List ℕ) (at : ℕ) (r : Replayed) (clock : Clock) (x : Option Entry) → form ≡ Stamped clock → x ≡ parsed_entry (take (end - read) (drop read input)) → r ≡ replayed bus clock x
      → Written new wrote (answer_line n r.reply.code r.reply.value) new' at → Turned new' at r.reply.bus (Stamped r.clock)
  unfolding reply_to form_after
  turn_stamped new' at r clock x p q e w =
      let f : r ≡ replayed bus clock (parsed_entry (take (end - read) (drop read input))) = e ∙ ap (replayed bus clock) q in
      turn new' at r.reply (Stamped r.clock) (rw p (ap (λ (y : Replayed). y.reply) f)) (rw p (ap (λ (y : Replayed). Stamped y.clock) f)) w
