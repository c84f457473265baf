-- A verdict with one reason more.
use Rattle.std.specs.Prelude.{◌≡◌, refl, Bool, List, ◌++◌, [], ◌∷◌, ℕ, suc, ◌+◌, ◌<◌, take, length, get_or, map}
use Rattle.std.proofs.Common.{◌∙◌, ap, sym, arith}
use Rattle.std.proofs.Math.Seq.{take-suc}
use Rattle.std.proofs.lemmas.List.{map-append}
use Rattle.refusals.specs.Refusals.{Refusal, refuse, least, number_of, code_of}
use Rattle.refusals.specs.Reasons.{number, refusals_of}
use Rattle.refusals.specs.laws.Refusals.{refused_more}
use Rattle.refusals.specs.declared.Reason.{Reason}

module _ (checks : List (Reason × Bool)) (i : ℕ) (d : Reason × Bool) (v k : ℕ) where
  abbrev refused : Reason × Bool → Refusal
  refused c = refuse (number c.0) c.1

  pub judged_more : i < length checks → v ≡ code_of (refusals_of (take i checks)) → k ≡ least v (number_of (refused (get_or checks i d))) → k ≡ code_of (refusals_of (take (i + 1) checks))
  judged_more h e q =
      let n : i + 1 ≡ suc i = omega arith in
      rw n
      (refused_more (refusals_of (take i checks)) (number (get_or checks i d).0) (get_or checks i d).1 v k _ e refl q
      ∙ ap code_of (sym (ap refusals_of (take-suc checks i d h) ∙ map-append refused (take i checks) (get_or checks i d ∷ []))))
