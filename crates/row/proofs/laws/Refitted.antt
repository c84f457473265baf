-- The devices of a row, and a row whose devices are replaced: its totals stay.
use Rattle.std.specs.Prelude.{◌≡◌, refl, List, [], ◌∷◌, ◌++◌, map, ℕ, zero, suc, ◌+◌, ◌≤◌, ◌<◌, ltb, length, get_or, set, take, drop}
use Rattle.std.proofs.Common.{ap, ◌∙◌, arith, add-one, append-nil, take_all, drop_of_length-le, le_of_suc-le-suc}
use Rattle.basics.specs.First.{map_first}
use Rattle.basics.specs.laws.Logic.{holds, fails, tested}
use Rattle.device.specs.declared.Device.{Device}
use Rattle.device.specs.declared.Phase.{Phase}
use Rattle.totals.specs.declared.Record.{Record}
use Rattle.bus.specs.Place.{with_chip}
use Rattle.bus.specs.declared.SignalEvent.{SignalEvent}
use Rattle.row.specs.Row.{devices_of, refitted, row_answer, row_after}

-- the device of what stands at a place
pub get_or_device : (rs : List Record) (i : ℕ) (z : Record) → get_or (devices_of rs) i z.device ≡ (get_or rs i z).device
get_or_device [] i z = refl
get_or_device (r ∷ rs) zero z = refl
get_or_device (r ∷ rs) (suc i) z = get_or_device rs i z

-- with its own devices it is what it was
pub refit_own : (rs : List Record) (ds : List Device) → refitted rs (devices_of rs ++ ds) ≡ rs
refit_own [] ds = refl
refit_own (r ∷ rs) ds = ap (λ (t : List Record). r ∷ t) (refit_own rs ds)

-- with a function at each of them
pub refit_done : (f : Device → Device) (rs : List Record) (ds : List Device) → refitted rs (map_first (length rs) f (devices_of rs ++ ds)) ≡ map (λ (r : Record). with_chip r (f r.device)) rs
unfolding map_first
refit_done f [] ds = refl
refit_done f (r ∷ rs) ds = ap (λ (t : List Record). with_chip r (f r.device) ∷ t) (refit_done f rs ds)

-- ---- the loops that take the devices of a row, and that give it others

-- a further device in its place
pub seated_more : (rs : List Record) (ds : List Device) (i : ℕ) (z : Record) → i < length rs → i < length ds → set (devices_of (take i rs) ++ drop i ds) i (get_or rs i z).device ≡ devices_of (take (i + 1) rs) ++ drop (i + 1) ds
seated_more rs ds i z h l = rw add-one (go rs ds i h l)
  where
    go : (rs : List Record) (ds : List Device) (i : ℕ) → i < length rs → i < length ds → set (devices_of (take i rs) ++ drop i ds) i (get_or rs i z).device ≡ devices_of (take (suc i) rs) ++ drop (suc i) ds
    go [] ds i h l = absurd (omega arith)
    go (r ∷ rs) [] i h l = absurd (omega arith)
    go (r ∷ rs) (d ∷ ds) zero h l = refl
    go (r ∷ rs) (d ∷ ds) (suc i) h l = ap (λ (t : List Device). r.device ∷ t) (go rs ds i (le_of_suc-le-suc h) (le_of_suc-le-suc l))

-- a further record with another device
pub refitted_more : (rs now : List Record) (ds : List Device) (i : ℕ) (z : Record) (d : Device) → i < length rs → i < length ds → now ≡ refitted (take i rs) ds ++ drop i rs → set now i (with_chip (get_or now i z) (get_or ds i d)) ≡ refitted (take (i + 1) rs) ds ++ drop (i + 1) rs
refitted_more rs now ds i z d h l e = rw (e, add-one) (go rs ds i h l)
  where
    so_far : List Record → List Device → ℕ → List Record
    so_far rs ds i = refitted (take i rs) ds ++ drop i rs

    go : (rs : List Record) (ds : List Device) (i : ℕ) → i < length rs → i < length ds → set (so_far rs ds i) i (with_chip (get_or (so_far rs ds i) i z) (get_or ds i d)) ≡ so_far rs ds (suc i)
    go [] ds i h l = absurd (omega arith)
    go (r ∷ rs) [] i h l = absurd (omega arith)
    go (r ∷ rs) (x ∷ ds) zero h l = refl
    go (r ∷ rs) (x ∷ ds) (suc i) h l = ap (λ (t : List Record). with_chip r x ∷ t) (go rs ds i (le_of_suc-le-suc h) (le_of_suc-le-suc l))

pub refitted_all : (rs now : List Record) (ds : List Device) (i : ℕ) → length rs ≤ i → now ≡ refitted (take i rs) ds ++ drop i rs → now ≡ refitted rs ds
refitted_all rs now ds i h e = e ∙ rw (take_all i rs h, drop_of_length-le rs h, append-nil) refl

-- ---- totals

abbrev lits_of : List Record → List (List ℕ)
lits_of = map (λ (r : Record). r.lit)

abbrev unlits_of : List Record → List (List ℕ)
unlits_of = map (λ (r : Record). r.unlit)

refit_lit : (rs : List Record) (ds : List Device) → lits_of (refitted rs ds) ≡ lits_of rs
refit_lit [] ds = refl
refit_lit (r ∷ rs) [] = refl
refit_lit (r ∷ rs) (d ∷ ds) = ap (λ (t : List (List ℕ)). r.lit ∷ t) (refit_lit rs ds)

refit_unlit : (rs : List Record) (ds : List Device) → unlits_of (refitted rs ds) ≡ unlits_of rs
refit_unlit [] ds = refl
refit_unlit (r ∷ rs) [] = refl
refit_unlit (r ∷ rs) (d ∷ ds) = ap (λ (t : List (List ℕ)). r.unlit ∷ t) (refit_unlit rs ds)

pub keeps_totals : (rs : List Record) (p : Phase) (e : SignalEvent)
    → (map (λ (r : Record). r.lit) (row_after rs p e) ≡ map (λ (r : Record). r.lit) rs) × (map (λ (r : Record). r.unlit) (row_after rs p e) ≡ map (λ (r : Record). r.unlit) rs)
unfolding row_after
keeps_totals rs p e =
    let ds = (row_answer rs p e).bus.devices in
    elim (tested (ltb 8 (length rs))) [
      | holds h ↦ rw h (refl, refl)
      | fails h ↦ rw h (refit_lit rs ds, refit_unlit rs ds)
    ]
