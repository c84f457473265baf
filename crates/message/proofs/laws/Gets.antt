-- The gets of a read message: what the loop that stores their bytes starts with, what a turn adds, what it ends with.
use Rattle.std.specs.Prelude.{ℕ, suc, ◌+◌, ◌≤◌, ◌<◌, ◌≡◌, refl, List, [], ◌∷◌, ◌++◌, map, length, drop, set}
use Rattle.std.proofs.lemmas.List.{map-append, length-map}
use Rattle.std.proofs.Common.{add-zero, add-one, arith}
use Rattle.basics.specs.Tabulate.{tabulate}
use Rattle.basics.specs.laws.Tabulate.{length-tabulate}
use Rattle.basics.specs.laws.Lists.{filled_more}
use Rattle.bus.specs.Events.{step_reply, run_bus}
use Rattle.bus.specs.declared.Bus.{Bus}
use Rattle.bus.specs.declared.Event.TheVariants.{Signal}
use Rattle.bus.specs.declared.Reply.{Reply}
use Rattle.bus.specs.declared.SignalEvent.TheVariants.{Get}
use Rattle.message.specs.Message.{acked_puts}
use Rattle.message.specs.Read.{ack_at, gets_of, values_of}
use Rattle.message.specs.Sent.{sent_by}
use Rattle.message.proofs.laws.Runs.{run_append, values_append, values_length}
use Rattle.message.specs.declared.sent.Sent.{Sent}

pub gets_suc : (n k : ℕ) → gets_of n (suc k) ≡ gets_of n k ++ Get (ack_at n k) ∷ []
unfolding gets_of tabulate
gets_suc n k = map-append Get (tabulate k (ack_at n)) (ack_at n k ∷ [])

gets_acked : (b : Bus) (n k : ℕ) → acked_puts b (gets_of n k) ≡ 0
unfolding gets_of acked_puts
gets_acked b n k = go b (tabulate k (ack_at n))
  where
    go : (d : Bus) (acks : List ℕ) → acked_puts d (map Get acks) ≡ 0
    go d [] = refl
    go d (a ∷ l) = rw (go (step_reply d (Signal (Get a))).bus l)

pub got_length : (b : Bus) (n k : ℕ) → length (values_of b (gets_of n k)) ≡ k
unfolding gets_of
got_length b n k = rw (values_length, length-map, length-tabulate)

-- ---- the loop

pub run_none : (n : ℕ) (b : Bus) → b ≡ run_bus b (map Signal (gets_of n 0))
unfolding gets_of tabulate
run_none n b = refl

pub got_none : (n : ℕ) (b : Bus) (l : List ℕ) → l ≡ values_of b (gets_of n 0) ++ l
unfolding gets_of tabulate values_of
got_none n b l = refl

module _ (n : ℕ) (first now : Bus) (i ack : ℕ) (r : Reply) (e : now ≡ run_bus first (map Signal (gets_of n i))) (k : ack ≡ ack_at n i) (u : r ≡ step_reply now (Signal (Get ack))) where
  pub run_more : r.bus ≡ run_bus first (map Signal (gets_of n (i + 1)))
  run_more = rw (add-one, gets_suc, run_append, ← e, ← k, u)

  pub got_more : (l cur : List ℕ) → i < length l → cur ≡ values_of first (gets_of n i) ++ drop i l → set cur i r.value ≡ values_of first (gets_of n (i + 1)) ++ drop (i + 1) l
  unfolding values_of
  got_more l cur h q =
      rw (add-one, q, gets_suc, values_append, ← e, ← k, ← u)
      (filled_more (values_of first (gets_of n i)) l i r.value (got_length first n i) h)

pub gets_done : (n : ℕ) (s : Sent) (now : Bus) (i : ℕ) → i ≤ n → n ≤ i → now ≡ run_bus s.bus (map Signal (gets_of n i)) → record { acks = s.acks; bus = now } ≡ sent_by s (gets_of n n)
unfolding sent_by
gets_done n s now i h k e =
    let z : i ≡ n = omega arith in
    rw (rw z at e, gets_acked, add-zero)
