-- The records of a bus: what stands at a position when one record, or every device, is replaced; and that their totals stay such as can be handed in.
use Rattle.std.specs.Prelude.{◌≡◌, refl, Bool, true, List, ◌++◌, ℕ, suc, ◌+◌, ◌-◌, ◌*◌, ◌≤◌, ◌<◌, eqb, length, get_or, set, take, drop}
use Rattle.std.proofs.Common.{ap, ◌∙◌, ⊎_elim, arith, get_or-set_same, get_or-set_other, eqb-true}
use Rattle.std.proofs.lemmas.List.{get_or-replicate}
use Rattle.std.proofs.Math.ListN.{get_or-eq_default}
use Rattle.std.proofs.Math.Seq.{set_out}
use Rattle.std.proofs.lemmas.Bool.{eqb-false}
use Rattle.basics.specs.Below.{all_below}
use Rattle.basics.specs.Parts.{part, with_part}
use Rattle.basics.specs.laws.Below.{below_at, below_all, below_alike}
use Rattle.basics.specs.laws.Lists.{get_or_there}
use Rattle.basics.specs.laws.Logic.{holds, fails, tested, lt_or_ge}
use Rattle.basics.specs.laws.Parts.{part_same, part_other, slice_is, slice_long, slice_back, with_own}
use Rattle.chip.specs.Kinds.{outputs_of}
use Rattle.chip.specs.declared.Chip.{Chip}
use Rattle.device.specs.declared.Device.{Device}
use Rattle.totals.specs.Totals.{record_of, zeros, totals_within, totals_fit}
use Rattle.totals.specs.declared.Record.{Record}
use Rattle.bus.specs.Devices.{device_at, record_at, with_device, with_record, with_added}
use Rattle.bus.specs.declared.Bus.{Bus}
use Rattle.bus.specs.laws.Records.{fits_at, none}

-- ---- the device at a position

-- another device of the same kind at one position leaves the kind at each
pub kind_set : (ds : List Device) (i j : ℕ) (d : Device) → d.chip ≡ (get_or ds i none).chip → (get_or (set ds i d) j none).chip ≡ (get_or ds j none).chip
kind_set ds i j d e =
    elim (tested (eqb j i)) [
      | holds t ↦ rw (eqb-true j i t) (here)
      | fails t ↦ ap (λ (x : Device). x.chip) (get_or-set_other ds i j d none (eqb-false j i t))
    ]
  where
    here : (get_or (set ds i d) i none).chip ≡ (get_or ds i none).chip
    here =
        ⊎_elim (λ h. ap (λ (x : Device). x.chip) (get_or-set_same ds i d none h) ∙ e)
        (λ h. ap (λ (l : List Device). (get_or l i none).chip) (set_out ds i d h)) (lt_or_ge i (length ds))

-- ---- totals that can be handed in, by the lists that hold them

abbrev pub fits_below : Bus → ℕ → Bool
fits_below b n = all_below n (fits_at b.devices b.lit b.unlit)

-- they are judged by the kind of each device alone
pub fits_kinds : (ds es : List Device) (lit unlit : List ℕ) (n : ℕ) → ((i : ℕ) → (get_or ds i none).chip ≡ (get_or es i none).chip) → all_below n (fits_at ds lit unlit) ≡ all_below n (fits_at es lit unlit)
fits_kinds ds es lit unlit n e =
    below_alike (fits_at ds lit unlit) (fits_at es lit unlit) n
    (λ i h. ap (λ (c : Chip). totals_within (outputs_of c) (part 16 i lit) (part 16 i unlit) 0) (e i))

-- with one record replaced
module _ (b : Bus) (dev : ℕ) (r : Record) (lit_long : length r.lit ≡ 16) (unlit_long : length r.unlit ≡ 16) where
  -- at its position, but for a device that is not there
  pub lit_here : dev < 8 → (record_at (with_record b dev r) dev).lit ≡ r.lit
  lit_here h = part_same 8 16 dev r.lit b.lit h lit_long

  pub unlit_here : dev < 8 → (record_at (with_record b dev r) dev).unlit ≡ r.unlit
  unlit_here h = part_same 8 16 dev r.unlit b.unlit h unlit_long

  pub record_here : dev < 8 → dev < length b.devices → record_at (with_record b dev r) dev ≡ r
  record_here h k = rw (lit_here h, unlit_here h, get_or-set_same b.devices dev r.device none k) refl

  -- at every other
  pub record_other : (i : ℕ) → i < 8 → (i ≡ dev → ⊥) → record_at (with_record b dev r) i ≡ record_at b i
  record_other i h n =
      rw (part_other 8 16 dev i r.lit b.lit h n, part_other 8 16 dev i r.unlit b.unlit h n, get_or-set_other b.devices dev i r.device none n) refl

  fits_here : dev < 8 → r.device.chip ≡ (device_at b dev).chip → totals_fit (record_at (with_record b dev r) dev) 0 ≡ totals_fit r 0
  fits_here h e =
      rw (lit_here h, unlit_here h, kind_set b.devices dev dev r.device e, e) refl

  pub with_record_fits : (n : ℕ) → n ≤ 8 → r.device.chip ≡ (device_at b dev).chip → totals_fit r 0 ≡ true → fits_below b n ≡ true → fits_below (with_record b dev r) n ≡ true
  with_record_fits n few e f h =
      below_all _ n (λ i l. elim (tested (eqb i dev)) [
        | holds t ↦ let q = eqb-true i dev t in let m : dev < 8 = omega arith in rw q (fits_here m e ∙ f)
        | fails t ↦
            ap (λ (x : Record). totals_fit x 0) (record_other i (omega arith) (eqb-false i dev t))
            ∙ below_at (fits_at b.devices b.lit b.unlit) i n l h
      ])

-- with a further device, whose totals are 0
pub added_at : (b : Bus) (d : Device) (i : ℕ) → i < 8 → (i ≡ b.count → ⊥) → record_at (with_added b d) i ≡ record_at b i
added_at b d i h n =
    rw (part_other 8 16 b.count i zeros b.lit h n, part_other 8 16 b.count i zeros b.unlit h n, get_or-set_other b.devices b.count i d none n) refl

pub added_record : (b : Bus) (d : Device) → b.count < 8 → b.count < length b.devices → record_at (with_added b d) b.count ≡ record_of d zeros zeros
added_record b d h k =
    rw (part_same 8 16 b.count zeros b.lit h refl, part_same 8 16 b.count zeros b.unlit h refl, get_or-set_same b.devices b.count d none k) refl

pub nought : (i : ℕ) → get_or zeros i 0 ≡ 0
nought i =
    ⊎_elim (λ h. get_or-replicate 16 i 0 0 h) (λ h. get_or-eq_default zeros 0 h) (lt_or_ge i 16)

pub zeros_fit : (n : ℕ) → totals_within n zeros zeros 0 ≡ true
unfolding totals_within
zeros_fit n = below_all _ n (λ i l. rw (nought i) refl)

added_here : (b : Bus) (d : Device) → b.count < 8 → totals_fit (record_at (with_added b d) b.count) 0 ≡ true
added_here b d h =
    rw (part_same 8 16 b.count zeros b.lit h refl, part_same 8 16 b.count zeros b.unlit h refl)
    (zeros_fit (outputs_of (get_or (set b.devices b.count d) b.count none).chip))

pub added_fits : (b : Bus) (d : Device) → b.count < 8 → fits_below b b.count ≡ true → fits_below (with_added b d) (suc b.count) ≡ true
added_fits b d h f =
    below_all _ (suc b.count) (λ i l. elim (tested (eqb i b.count)) [
      | holds t ↦ rw (eqb-true i b.count t) (added_here b d h)
      | fails t ↦
          let n = eqb-false i b.count t in
          ap (λ (x : Record). totals_fit x 0) (added_at b d i (omega arith) n)
          ∙ below_at (fits_at b.devices b.lit b.unlit) i b.count (omega arith) f
    ])

-- ---- the totals of one device, lent from all

module _ (l : List ℕ) (i : ℕ) (long : length l ≡ 128) (h : i < 8) where
  abbrev pub lent : List ℕ
  lent = take (16 * i + 16 - 16 * i) (drop (16 * i) l)

  pub lent_is : lent ≡ part 16 i l
  lent_is = slice_is 8 16 i l long h

  pub lent_long : length lent ≡ 16
  lent_long = slice_long 8 16 i l long h

  -- and given back
  pub given_back : (p : List ℕ) → length p ≡ 16 → take (16 * i) l ++ (p ++ drop (16 * i + 16 - 16 * i) (drop (16 * i) l)) ≡ with_part 8 16 i p l
  given_back = slice_back 8 16 i l long h

-- a device and its totals, lent and given back, are its record
pub record_back : (b : Bus) (dev : ℕ) → dev < 8 → length b.lit ≡ 128 → length b.unlit ≡ 128 → (d : Device) (p q : List ℕ) (r : Record) → (length r.lit ≡ 16) × (length r.unlit ≡ 16) → record_of d p q ≡ r
    → record { phase = b.phase; count = b.count; devices = set b.devices dev d; lit = take (16 * dev) b.lit ++ (p ++ drop (16 * dev + 16 - 16 * dev) (drop (16 * dev) b.lit)); unlit = take (16 * dev) b.unlit ++ (q ++ drop (16 * dev + 16 - 16 * dev) (drop (16 * dev) b.unlit)) } ≡ with_record b dev r
record_back b dev h l u d p q r long e =
    rw (ap (λ (x : Record). x.device) e, ap (λ (x : Record). x.lit) e, ap (λ (x : Record). x.unlit) e, given_back b.lit dev l h r.lit long.0, given_back b.unlit dev u h r.unlit long.1) refl

-- the record of a device that is there, its totals lent
pub record_lent : (z : Device) (b : Bus) (i : ℕ) (l : length b.lit ≡ 128) (u : length b.unlit ≡ 128) (h : i < 8) → i < length b.devices → record_of (get_or b.devices i z) (lent b.lit i l h) (lent b.unlit i u h) ≡ record_at b i
record_lent z b i l u h k = rw (lent_is b.lit i l h, lent_is b.unlit i u h, get_or_there z none b.devices i k) refl

-- and whether they fit
pub fits_lent : (z : Device) (ds : List Device) (lit unlit : List ℕ) (i : ℕ) (l : length lit ≡ 128) (u : length unlit ≡ 128) (h : i < 8) → i < length ds → totals_within (outputs_of (get_or ds i z).chip) (lent lit i l h) (lent unlit i u h) 0 ≡ fits_at ds lit unlit i
fits_lent z ds lit unlit i l u h k =
    rw (lent_is lit i l h, lent_is unlit i u h, get_or_there z none ds i k) refl

-- a device with the totals that it had
pub with_device_is : (b : Bus) (dev : ℕ) (d : Device) → length b.lit ≡ 128 → length b.unlit ≡ 128 → with_device b dev d ≡ with_record b dev (record_of d (part 16 dev b.lit) (part 16 dev b.unlit))
with_device_is b dev d l u = rw (with_own 8 16 dev b.lit l, with_own 8 16 dev b.unlit u) refl
