-- `places`: a store has no more bytes.
use Rattle.std.proofs.Common.{◌≡◌, ℕ, List, length, refl, arith, take_all}
use Rattle.std.specs.Prelude.{take}
use Rattle.store.specs.Layout.{store_size, places_of}
use Rattle.store.proofs.laws.Layout.{ok_long}
use Rattle.store.proofs.places.Places.places.Goals as goal

whole : (store : List ℕ) → length store ≡ store_size → take store_size store ≡ store
whole store long = take_all store_size store (omega (arith, long))

pub slice_bounds-as_chunks-end : goal.slice_bounds-as_chunks-end
slice_bounds-as_chunks-end c =
    let long = ok_long c.args.self.bytes.now c.args.self.sound in
    rw (whole c.args.self.bytes.now long, long) refl

pub returns : goal.returns
unfolding places_of
returns c =
    let long = ok_long c.args.self.bytes.now c.args.self.sound in
    rw (whole c.args.self.bytes.now long, long) at c.as_chunks.ensures.front
