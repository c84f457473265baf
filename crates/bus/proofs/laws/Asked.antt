-- Where a device is asked, the request is that question, and the device stands on the bus.
use Rattle.std.specs.Prelude.{Option, Some, None, ℕ, ◌<◌, ◌≡◌, refl, Bool, true, ◌&&◌}
use Rattle.std.proofs.Common.{arith}
use Rattle.std.proofs.Math.Dec.{ltb}
use borrow.Author.Tests.{ltb-true}
use Rattle.basics.specs.laws.Logic.{holds, fails, tested, and_left, and_right}
use Rattle.bus.specs.Asked.{asked_by, asked_of}
use Rattle.bus.specs.declared.Asked.{Asked}
use Rattle.bus.specs.declared.Event.{Event}
use Rattle.bus.specs.declared.Event.TheVariants.{Add, Signal, Change, Ask}

module _ (ok : Bool) (count : ℕ) (a : Asked) where
  clash : {A : Type 0} → Some a ≡ None → A
  clash e = absurd (let z : ◌≡◌ {A = ℕ} 0 1 = cc in omega arith)

  asked_event : (e : Event) → Some a ≡ asked_by ok count e → (e ≡ Ask a.dev a.question) × (ok ≡ true) × (a.dev < count) × (a.dev < 8)
  unfolding asked_by
  asked_event (Add chip addr) h = clash h
  asked_event (Signal s) h = clash h
  asked_event (Change at c) h = clash h
  asked_event (Ask at p) h =
      elim (tested (ok && (ltb at count && ltb at 8))) [
        | holds t ↦
            let s : Some a ≡ Some (record { dev = at; question = p }) = rw t at h in
            let x : a ≡ record { dev = at; question = p } = cc in
            let r = and_right ok (ltb at count && ltb at 8) t in
            rw x (refl, and_left ok (ltb at count && ltb at 8) t, ltb-true at count (and_left (ltb at count) (ltb at 8) r), ltb-true at 8 (and_right (ltb at count) (ltb at 8) r))
        | fails t ↦ clash (rw t at h)
      ]

  pub asked_device : (r : Option Event) → Some a ≡ asked_of ok count r → (r ≡ Some (Ask a.dev a.question)) × (ok ≡ true) × (a.dev < count) × (a.dev < 8)
  unfolding asked_of
  asked_device (Some e) h = let b = asked_event e h in rw b.0 (refl, b.1, b.2, b.3)
  asked_device None h = clash h
