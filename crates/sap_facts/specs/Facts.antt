-- Numbered facts.
use Rattle.std.specs.Prelude.{ℕ, Bool, Option, Some, None, List, slice_get, slice_set, if◌then◌else◌, refl}
use Rattle.std.specs.Coded.{Coded, code_by, coded×, coded_list, coded_option, coded_bool, coded_ℕ}
use Rattle.sap_terms.specs.Tree.{Tree}
use Rattle.sap_terms.specs.Codes.{list_code}
use Rattle.sap_terms.specs.declared.fact.Fact.{Fact}

-- the facts ever put on a pile, at their numbers, None for one that was taken; and how many more are sure to find memory
pub record Facts : Type 0 where
  pub slots : List (Option Fact)
  pub spare : ℕ

-- the fact itself, where there is one and it stands
abbrev pub standing : Option (Option Fact) → Option Fact
standing None = None
standing (Some slot) = slot

-- the fact of this number, unless no fact has it or it was taken
abbrev pub fact_at : List (Option Fact) → ℕ → Option Fact
fact_at slots k = standing (slice_get slots k)

-- the fact, if it may be used up
abbrev pub if_linear : Option Fact → Option Fact
if_linear None = None
if_linear (Some f) = if f.persistent then None else Some f

-- the slots, where a linear fact of this number is taken
abbrev pub slots_without : List (Option Fact) → ℕ → List (Option Fact)
slots_without slots k = without (if_linear (fact_at slots k)) where
  without : Option Fact → List (Option Fact)
  without None = slots
  without (Some f) = slice_set slots k None

-- a fact is stored as the tuple of its parts
abbrev pub fact_code : Coded Fact
fact_code =
    code_by (List ℕ × (Bool × List Tree))
    (coded× (coded_list coded_ℕ) (coded× coded_bool list_code))
    (λ f. (f.name, (f.persistent, f.args)))
    (λ p. record { name = p.0; persistent = p.1.0; args = p.1.1 }) (λ _. refl)

-- and a pile as the pair of its parts
abbrev pub facts_code : Coded Facts
facts_code =
    code_by (List (Option Fact) × ℕ) (coded× (coded_list (coded_option fact_code)) coded_ℕ)
    (λ p. (p.slots, p.spare))
    (λ p. record { slots = p.0; spare = p.1 }) (λ _. refl)
