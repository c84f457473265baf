-- Lent state: what stands at a position, what one device stored there makes of the devices, and copies.
use Rattle.std.specs.Prelude.{ℕ, ◌+◌, ◌-◌, ◌*◌, ◌<◌, ◌≡◌, refl, Bool, true, false, List, [], ◌∷◌, ◌++◌, eqb, length, get_or, set, take, drop, map}
use Rattle.std.specs.List.{range_with_len}
use Rattle.std.specs.Int.{from_bool}
use Rattle.std.proofs.Common.{sym, ap, ◌∙◌, arith, length-drop, take_at, drop_at, length-take-le, get_or-set_same, get_or-set_other}
use Rattle.std.proofs.lemmas.List.FromFn.{length-map-range_with_len, get_or-map-range_with_len}
use Rattle.basics.specs.Parts.{part, with_part}
use Rattle.basics.specs.First.{map_first}
use Rattle.basics.specs.laws.First.{map_more}
use Rattle.engine.specs.laws.Lists.{map_rest, range-set}
use Rattle.device.specs.Fields.{with_count}
use Rattle.device.specs.Reset.{fresh}
use Rattle.basics.specs.laws.Parts.{part_same, part_other, slice_is, slice_long, slice_back, with_part_long}
use Rattle.chip.specs.Kinds.{chip_of}
use Rattle.chip.specs.declared.Chip.TheVariants.{Pca9635}
use Rattle.device.specs.declared.Device.{Device}
use Rattle.device.specs.declared.Stage.{Stage}
use Rattle.device.specs.declared.Stage.TheVariants.{Unselected, Control, Data, Talking, ResetCall, ResetFirst, ResetBoth}
use Rattle.bus.specs.declared.Bus.{Bus}
use Rattle.engine.specs.Lens.{stage_of, stage_byte, device_of, devices_of, device_in, bus_of}

-- ---- the devices

pub devices_long : (bytes counts : List ℕ) → length (devices_of bytes counts) ≡ 8
unfolding devices_of
devices_long bytes counts = length-map-range_with_len (λ i. device_of (part 64 i bytes) (get_or counts i 0)) 0 8

pub lens_get : (z : Device) (bytes counts : List ℕ) (i : ℕ) → i < 8 → get_or (devices_of bytes counts) i z ≡ device_of (part 64 i bytes) (get_or counts i 0)
unfolding devices_of
lens_get z bytes counts i h = get_or-map-range_with_len (λ i. device_of (part 64 i bytes) (get_or counts i 0)) 0 8 i i z h (omega arith)

pub lens_set : (bytes counts : List ℕ) (i c : ℕ) (p : List ℕ) (d : Device) → i < 8 → length counts ≡ 8 → length p ≡ 64 → device_of p c ≡ d → devices_of (with_part 8 64 i p bytes) (set counts i c) ≡ set (devices_of bytes counts) i d
unfolding devices_of
lens_set bytes counts i c p d h l k e =
    range-set 8 (λ j. device_of (part 64 j bytes) (get_or counts j 0)) (λ j. device_of (part 64 j (with_part 8 64 i p bytes)) (get_or (set counts i c) j 0)) i h
    (λ j m n. rw (part_other 8 64 i j p bytes m n, get_or-set_other counts i j c 0 n) refl)
    ∙ ap (set (map (λ j. device_of (part 64 j bytes) (get_or counts j 0)) (range_with_len 0 8)) i)
    (rw (part_same 8 64 i p bytes h k, get_or-set_same counts i c 0 (omega arith)) e)

-- only its count
pub lens_count : (bytes counts : List ℕ) (i c : ℕ) (d : Device) → i < 8 → length counts ≡ 8 → device_of (part 64 i bytes) c ≡ d → devices_of bytes (set counts i c) ≡ set (devices_of bytes counts) i d
unfolding devices_of
lens_count bytes counts i c d h l e =
    range-set 8 (λ j. device_of (part 64 j bytes) (get_or counts j 0)) (λ j. device_of (part 64 j bytes) (get_or (set counts i c) j 0)) i h
    (λ j m n. rw (get_or-set_other counts i j c 0 n) refl)
    ∙ ap (set (map (λ j. device_of (part 64 j bytes) (get_or counts j 0)) (range_with_len 0 8)) i)
    (rw (get_or-set_same counts i c 0 (omega arith)) e)

-- devices in their bytes are those of the bus
pub bus_is : (b : Bus) (bytes counts : List ℕ) → devices_of bytes counts ≡ b.devices → bus_of b.phase b.count bytes counts b.lit b.unlit ≡ b
bus_is b bytes counts e = rw e refl

-- ---- where code lends the bytes of one device

module _ (l : List ℕ) (i : ℕ) (long : length l ≡ 512) (h : i < 8) where
  abbrev pub lent : List ℕ
  lent = take (64 * i + 64 - 64 * i) (drop (64 * i) l)

  pub lent_is : lent ≡ part 64 i l
  lent_is = slice_is 8 64 i l long h

  pub lent_long : length lent ≡ 64
  lent_long = slice_long 8 64 i l long h

  pub given_back : (p : List ℕ) → length p ≡ 64 → take (64 * i) l ++ (p ++ drop (64 * i + 64 - 64 * i) (drop (64 * i) l)) ≡ with_part 8 64 i p l
  given_back = slice_back 8 64 i l long h

  pub given_long : (p : List ℕ) → length p ≡ 64 → length (take (64 * i) l ++ (p ++ drop (64 * i + 64 - 64 * i) (drop (64 * i) l))) ≡ 512
  given_long p k = rw (given_back p k) (with_part_long 8 64 i p l)

-- the device at a position, as it is lent
module _ (bytes counts : List ℕ) (i : ℕ) (long : length bytes ≡ 512) (h : i < 8) where
  pub device_lent : device_of (lent bytes i long h) (get_or counts i 0) ≡ device_in bytes counts i
  device_lent = rw (lent_is bytes i long h) (sym (lens_get (fresh Pca9635 0) bytes counts i h))

-- ---- a stage as a byte, and back

pub stage_back : (s : Stage) → stage_of (stage_byte s) ≡ s
stage_back Unselected = refl
stage_back Control = refl
stage_back Data = refl
stage_back Talking = refl
stage_back ResetCall = refl
stage_back ResetFirst = refl
stage_back ResetBoth = refl

pub bit_back : (b : Bool) → eqb (from_bool b) 1 ≡ b
bit_back true = refl
bit_back false = refl

-- ---- a device stored in its three parts: eight bytes, and the registers twice

module _ (a b c d f g u v : ℕ) (p : List ℕ) (long : length p ≡ 64) where
  abbrev pub headed : List ℕ
  headed = (a ∷ b ∷ c ∷ d ∷ f ∷ g ∷ u ∷ v ∷ []) ++ drop 8 p

  pub first_long : length (take 28 (drop 8 headed)) ≡ 28
  first_long = length-take-le 28 (drop 8 p) (rw length-drop (omega arith))

  module _ (w : List ℕ) (wl : length w ≡ 28) where
    abbrev pub written : List ℕ
    written = take 8 headed ++ (w ++ drop 28 (drop 8 headed))

    pub second_long : length (take 28 (drop 36 written)) ≡ 28
    second_long = rw (drop_at w (drop 28 (drop 8 p)) 28 wl) (length-take-le 28 (drop 28 (drop 8 p)) (rw (length-drop 28 (drop 8 p), length-drop 8 p) (omega arith)))

    pub stored : (e : List ℕ) (n : ℕ) → length e ≡ 28 → device_of (take 36 written ++ (e ++ drop 28 (drop 36 written))) n ≡ record { chip = chip_of a; stage = stage_of b; address = c; control = d; count = n; oe = eqb f 1; levels = g; written = w; effective = e }
    unfolding device_of
    stored e n el =
        rw (take_at w (drop 28 (drop 8 p)) 28 wl, drop_at w (drop 28 (drop 8 p)) 28 wl, take_at w (e ++ drop 28 (drop 28 (drop 8 p))) 28 wl, drop_at w (e ++ drop 28 (drop 28 (drop 8 p))) 28 wl, take_at e (drop 28 (drop 28 (drop 8 p))) 28 el) refl

-- ---- a loop over the devices, one function at each

abbrev pub none : Device
none = fresh Pca9635 0

module _ (f : Device → Device) (ds : List Device) (bytes counts : List ℕ) (i : ℕ) (long : length bytes ≡ 512) (many : length counts ≡ 8) (h : i < 8) (so_far : devices_of bytes counts ≡ map_first i f ds) where
  -- the device at i, as it is lent, is that of before
  pub turn_at : device_of (lent bytes i long h) (get_or counts i 0) ≡ get_or ds i none
  turn_at = rw (lent_is bytes i long h) (sym (lens_get none bytes counts i h) ∙ ap (λ (l : List Device). get_or l i none) so_far ∙ map_rest f none ds i)

  -- and f of it is put back
  pub turn_set : (p : List ℕ) (c : ℕ) → length p ≡ 64 → device_of p c ≡ f (device_of (lent bytes i long h) (get_or counts i 0)) → devices_of (take (64 * i) bytes ++ (p ++ drop (64 * i + 64 - 64 * i) (drop (64 * i) bytes))) (set counts i c) ≡ map_first (i + 1) f ds
  turn_set p c k e =
      rw (given_back bytes i long h p k)
      (lens_set bytes counts i c p (device_of p c) h many k refl
      ∙ map_more f none ds (devices_of bytes counts) i (device_of p c) so_far (e ∙ ap f (rw (lent_is bytes i long h) (sym (lens_get none bytes counts i h)))))

-- the kind of a device is its first byte
pub chip_there : (p : List ℕ) (c : ℕ) → chip_of (get_or p 0 0) ≡ (device_of p c).chip
unfolding device_of
chip_there p c = refl

-- and its count lies beside them
pub other_count : (p : List ℕ) (c k : ℕ) → device_of p k ≡ with_count (device_of p c) k
unfolding device_of
other_count p c k = refl
