-- A message under way: what further events, the loop of the puts and the end of a message make of it.
use Rattle.std.specs.Prelude.{ℕ, ◌+◌, ◌<◌, ◌≡◌, List, [], ◌∷◌, ◌++◌, map, length, take, get_or}
use Rattle.std.proofs.lemmas.List.{map-append}
use Rattle.std.proofs.Common.{add-zero, zero-add, add_assoc, add-one, take-suc}
use Rattle.bus.specs.Events.{run_bus}
use Rattle.bus.specs.declared.Bus.{Bus}
use Rattle.bus.specs.declared.Event.TheVariants.{Signal}
use Rattle.bus.specs.declared.SignalEvent.{SignalEvent}
use Rattle.bus.specs.declared.SignalEvent.TheVariants.{Put}
use Rattle.message.specs.Message.{acked_puts, message_done}
use Rattle.message.specs.Sent.{begun, sent_by, ended}
use Rattle.message.proofs.laws.Runs.{run_append, acked_append}
use Rattle.message.specs.declared.sent.Sent.{Sent}

pub sent_append : (s : Sent) (l m : List SignalEvent) → sent_by (sent_by s l) m ≡ sent_by s (l ++ m)
unfolding sent_by
sent_append s l m = rw (acked_append s.bus l m, run_append s.bus l m, add_assoc)

pub under_way_bus : (b : Bus) (l : List SignalEvent) (s : Sent) → s ≡ sent_by (begun b) l → s.bus ≡ run_bus b (map Signal l)
unfolding sent_by
under_way_bus b l s e = rw e

-- ---- the loop of the puts

pub sent_none : (s : Sent) → s ≡ sent_by s []
unfolding sent_by acked_puts
sent_none s = rw add-zero

pub puts_more : (s now next : Sent) (l : List ℕ) (i : ℕ) → i < length l → now ≡ sent_by s (map Put (take i l)) → next ≡ sent_by now (Put (get_or l i 0) ∷ []) → next ≡ sent_by s (map Put (take (i + 1) l))
puts_more s now next l i h e q = rw (add-one, take-suc l i 0 h, map-append, q, e) (sent_append s (map Put (take i l)) _)

-- ---- the end of a message

pub ended_is : (b : Bus) (l : List SignalEvent) → ended (sent_by (begun b) l) ≡ message_done b l
unfolding sent_by
ended_is b l = rw zero-add
