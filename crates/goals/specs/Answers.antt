-- What the answers of the calls say, in the words of the definitions. What an array holds past its list's end is not looked at.
use Rattle.std.specs.Prelude.{ℕ, List, Result, Ok, Err}
use Rattle.tokens.specs.Rows.{rows}
use Rattle.goals.specs.declared.branches.Branches.{Branches}
use Rattle.goals.specs.declared.RuleFault.{RuleFault}
use Rattle.goals.specs.declared.RuleFault.TheVariants.{Head, Body, Over}
use Rattle.goals.specs.declared.OrderFault.{OrderFault}
use Rattle.goals.specs.declared.OrderFault.TheVariants.{Order, Over as OrderOver}
use Rattle.goals.specs.declared.OpenedRule.{OpenedRule}
use Rattle.goals.specs.declared.BadRecord.{BadRecord}
use Rattle.goals.specs.Readings.{Reading, read, refused, Program, clauses, refused_at}
use Rattle.rounds.specs.Round.{Rule}

-- the rows that a branch list holds
abbrev pub rows_of : Branches → List (List ℕ)
rows_of b = rows 32 b.count b.sets

-- "4: a head breaks its rule; 5: a body breaks its rule; 6: over 16 branches"
abbrev pub rule_fault_number : RuleFault → ℕ
rule_fault_number Head = 4
rule_fault_number Body = 5
rule_fault_number Over = 6

-- "10: order over 64 bytes, an unknown code, a kind not below n, or an unfinished goal", and 6 as for a rule
abbrev pub order_fault_number : OrderFault → ℕ
order_fault_number Order = 10
order_fault_number OrderOver = 6

-- what an answer says: what a value of it stands for, or the number of its refusal
abbrev pub reading_of : {A B E : Type 0} → (A → B) → (E → ℕ) → Result A E → Reading B
reading_of value number (Ok a) = read (value a)
reading_of value number (Err e) = refused (number e)

-- the answer for a rule record: "the head" as a set, and its body's branches
abbrev pub rule_of : Result OpenedRule RuleFault → Reading Rule
rule_of r = reading_of (λ o. record { head = o.head; branches = rows_of o.list }) rule_fault_number r

-- the answer for an order: its branches
abbrev pub order_of : Result Branches OrderFault → Reading (List (List ℕ))
order_of r = reading_of rows_of order_fault_number r

-- what a check tells of a rule set: that it passes, or the refusal that stops it and "record number from 0"
pub data Told : Type 0 where
  passes : Told
  stops : ℕ → ℕ → Told

-- what is to be told of a rule set
abbrev pub told : Program → Told
told (clauses P) = passes
told (refused_at k i) = stops k i

-- what an answer of the code tells
abbrev pub told_of : Result (Unit {0}) BadRecord → Told
told_of (Ok u) = passes
told_of (Err b) = stops (rule_fault_number b.fault) b.record
