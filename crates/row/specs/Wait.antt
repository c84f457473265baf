-- A wait of one lent record (RULES, Lent forms). The record stands in no message, so its stage is not judged.
use Rattle.std.specs.Prelude.{ℕ, not, cond, List, [], ◌∷◌, eqb, Result, Ok, Err}
use Rattle.totals.specs.Totals.{legal_record}
use Rattle.totals.specs.Wait.{exceeds, waited}
use Rattle.totals.specs.declared.Record.{Record}
use Rattle.refusals.specs.Reasons.{number, code_in, value_in}
use Rattle.refusals.specs.Refusals.{Refusal, refuse, code_of}
use Rattle.refusals.specs.declared.Reason.{Reason}

-- the number of a refusal, or 0, and the value
pub record Answer : Type 0 where
  pub code : ℕ
  pub value : ℕ

pub record Waited : Type 0 where
  pub after : Record
  pub answer : Answer

-- 4 a record that is not legal; 6 a wait that is longer than 2^48, or would bring an awake device's count or an output's totals past their limit
abbrev pub record_refusals : Record → ℕ → List Refusal
record_refusals r ticks = refuse 4 (not (legal_record r)) ∷ refuse 6 (exceeds r ticks) ∷ []

-- the value of a wait is 0
unfoldable pub wait_answer : Record → ℕ → Answer
wait_answer r ticks = record { code = code_of (record_refusals r ticks); value = 0 }

-- refused, the record stays
unfoldable pub wait_record : Record → ℕ → Record
wait_record r ticks = cond (eqb (code_of (record_refusals r ticks)) 0) (waited r ticks) r

abbrev pub waited_record : Record → ℕ → Waited
waited_record r ticks = record { after = wait_record r ticks; answer = wait_answer r ticks }

-- what a result stands for
abbrev pub answer_in : Result ℕ Reason → Answer
answer_in result = record { code = code_in result; value = value_in result }

abbrev pub waited_in : Record → Result Record Reason → Waited
waited_in r (Ok after) = record { after = after; answer = record { code = 0; value = 0 } }
waited_in r (Err reason) = record { after = r; answer = record { code = number reason; value = 0 } }
