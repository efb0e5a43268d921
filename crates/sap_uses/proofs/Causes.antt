-- The causes one by one.
use Rattle.std.proofs.Common.{◌≡◌, ◌<◌, ◌≤◌, ℕ, List, [], Some, None, sym, ◌∙◌, ⊎_elim, arith}
use Rattle.std.proofs.lemmas.Bool.{cases_lt}
use Rattle.sap_terms.specs.Signature.{Sig}
use Rattle.sap_terms.specs.declared.limits.TheConstants.{MOST_PROCESS_LEVELS, MOST_PROCESS_PLACES}
use Rattle.sap_process.specs.declared.flaw.Flaw.{Flaw}
use Rattle.sap_process.specs.Proc.{level_count, node_count}
use Rattle.sap_macro.specs.Expansion.{expansion}
use Rattle.sap_macro.specs.MacroCauses.{first_other_count, first_parameter_twice}
use Rattle.sap_macro.specs.Written.{Written, Definition}
use Rattle.sap_uses.specs.FaultCauses.{Holds, IsMacroCause, cause_rank}
use Rattle.sap_uses.specs.ScopeFlaws.{IsFirstFlawedBehind}
use Rattle.sap_uses.specs.UseCauses.{first_large}
use Rattle.sap_uses.specs.code.Checked.{AreAbsent, IsCauseFrom}
use Rattle.sap_uses.specs.declared.fault.MacroFault.{MacroFault}
use Rattle.sap_uses.specs.declared.fault.MacroFault.TheVariants.{Mem, Parameters, Arguments, TooMany, TooDeep, Large, Flawed}

module _ (g : Sig) (ds : List Definition) (p : Written) where
  no_parameters : first_parameter_twice ds ≡ None → (x : List ℕ) → ¬ Holds g ds p (Parameters x)
  no_parameters e x h = let got : None ≡ Some x = sym e ∙ h in absurd (cc)

  no_arguments : first_other_count ds p ≡ None → (x : List ℕ) → ¬ Holds g ds p (Arguments x)
  no_arguments e x h = let got : None ≡ Some x = sym e ∙ h in absurd (cc)

  no_large : first_large ds p ≡ None → (x : List ℕ) → ¬ Holds g ds p (Large x)
  no_large e x h = let got : None ≡ Some x = sym e ∙ h in absurd (cc)

  -- causes of two neighbouring ranks
  pub counts_absent : first_parameter_twice ds ≡ None → first_other_count ds p ≡ None → AreAbsent g ds p 1 3
  counts_absent e k Mem l h x = x
  counts_absent e k (Parameters n) l h x = no_parameters e n x
  counts_absent e k (Arguments n) l h x = no_arguments k n x
  counts_absent e k TooMany l h x = omega (arith, h)
  counts_absent e k TooDeep l h x = omega (arith, h)
  counts_absent e k (Large n) l h x = omega (arith, h)
  counts_absent e k (Flawed n w q) l h x = omega (arith, h)

  abbrev IsSmall : Type 0
  IsSmall =
      (identifiers : List (List ℕ)) → (node_count (expansion ds identifiers p).process ≤ MOST_PROCESS_PLACES) × (level_count (expansion ds identifiers p).process ≤ MOST_PROCESS_LEVELS)

  pub size_absent : IsSmall → AreAbsent g ds p 3 5
  size_absent s Mem l h x = x
  size_absent s (Parameters n) l h x = omega (arith, l)
  size_absent s (Arguments n) l h x = omega (arith, l)
  size_absent s TooMany l h x = let most = (s []).0 in let more = x [] in omega (arith, most, more)
  size_absent s TooDeep l h x = let most = (s []).1 in let more = x [] in omega (arith, most, more)
  size_absent s (Large n) l h x = omega (arith, h)
  size_absent s (Flawed n w q) l h x = omega (arith, h)

  abbrev HasNoFlawed : Type 0
  HasNoFlawed = (n : List ℕ) (w : Flaw) (q : List ℕ) → ¬ IsFirstFlawedBehind g ds p n w q

  pub uses_absent : first_large ds p ≡ None → HasNoFlawed → AreAbsent g ds p 5 7
  uses_absent e k Mem l h x = x
  uses_absent e k (Parameters n) l h x = omega (arith, l)
  uses_absent e k (Arguments n) l h x = omega (arith, l)
  uses_absent e k TooMany l h x = omega (arith, l)
  uses_absent e k TooDeep l h x = omega (arith, l)
  uses_absent e k (Large n) l h x = no_large e n x
  uses_absent e k (Flawed n w q) l h x = k n w q x

  -- the first of two holds, or the second alone
  pub none_below : (n : ℕ) → AreAbsent g ds p n n
  none_below n u l h x = omega (arith, l, h)

  pub parameters_hold : (x : List ℕ) → first_parameter_twice ds ≡ Some x → IsCauseFrom g ds p 1 (Parameters x)
  parameters_hold x is = record { holds = is; first = none_below 1 }

  pub arguments_hold : (x : List ℕ) → first_parameter_twice ds ≡ None → first_other_count ds p ≡ Some x → IsCauseFrom g ds p 1 (Arguments x)
  arguments_hold x e is = record { holds = is; first = before } where
    before : AreAbsent g ds p 1 2
    before Mem l h y = y
    before (Parameters n) l h y = no_parameters e n y
    before (Arguments n) l h y = omega (arith, h)
    before TooMany l h y = omega (arith, h)
    before TooDeep l h y = omega (arith, h)
    before (Large n) l h y = omega (arith, h)
    before (Flawed n w q) l h y = omega (arith, h)

  pub places_hold : Holds g ds p TooMany → IsCauseFrom g ds p 3 TooMany
  places_hold h = record { holds = h; first = none_below 3 }

  pub levels_hold : ((identifiers : List (List ℕ)) → node_count (expansion ds identifiers p).process ≤ MOST_PROCESS_PLACES) → Holds g ds p TooDeep → IsCauseFrom g ds p 3 TooDeep
  levels_hold s is = record { holds = is; first = before } where
    before : AreAbsent g ds p 3 4
    before Mem l h y = y
    before (Parameters n) l h y = omega (arith, l)
    before (Arguments n) l h y = omega (arith, l)
    before TooMany l h y = let most = s [] in let more = y [] in omega (arith, most, more)
    before TooDeep l h y = omega (arith, h)
    before (Large n) l h y = omega (arith, h)
    before (Flawed n w q) l h y = omega (arith, h)

  pub large_holds : (x : List ℕ) → first_large ds p ≡ Some x → IsCauseFrom g ds p 5 (Large x)
  large_holds x is = record { holds = is; first = none_below 5 }

  pub flawed_holds : (n : List ℕ) (w : Flaw) (q : List ℕ) → first_large ds p ≡ None → IsFirstFlawedBehind g ds p n w q → IsCauseFrom g ds p 5 (Flawed n w q)
  flawed_holds n w q e is = record { holds = is; first = before } where
    before : AreAbsent g ds p 5 6
    before Mem l h y = y
    before (Parameters n) l h y = omega (arith, l)
    before (Arguments n) l h y = omega (arith, l)
    before TooMany l h y = omega (arith, l)
    before TooDeep l h y = omega (arith, l)
    before (Large n) l h y = no_large e n y
    before (Flawed n w q) l h y = omega (arith, h)

  -- ---- all of them in order

  any_rank : (u : MacroFault) → ¬ (1 ≤ cause_rank u) → ¬ Holds g ds p u
  any_rank Mem l x = x
  any_rank (Parameters n) l x = omega (arith, l)
  any_rank (Arguments n) l x = omega (arith, l)
  any_rank TooMany l x = omega (arith, l)
  any_rank TooDeep l x = omega (arith, l)
  any_rank (Large n) l x = omega (arith, l)
  any_rank (Flawed n w q) l x = omega (arith, l)

  highest : (u : MacroFault) → cause_rank u < 7
  highest Mem = omega arith
  highest (Parameters n) = omega arith
  highest (Arguments n) = omega arith
  highest TooMany = omega arith
  highest TooDeep = omega arith
  highest (Large n) = omega arith
  highest (Flawed n w q) = omega arith

  pub joined : (low middle high : ℕ) → AreAbsent g ds p low middle → AreAbsent g ds p middle high → AreAbsent g ds p low high
  joined low middle high h k u l m x = ⊎_elim (λ b. h u l b x) (λ b. k u b m x) (cases_lt (cause_rank u) middle)

  pub cause_is : (low : ℕ) (e : MacroFault) → AreAbsent g ds p 1 low → IsCauseFrom g ds p low e → IsMacroCause g ds p e
  cause_is low e h k = record {
    holds = k.holds;
    first = λ u l x. ⊎_elim (λ b. any_rank u (λ m. omega (arith, b, m)) x) (λ b. joined 1 low (cause_rank e) h k.first u b l x) (cases_lt (cause_rank u) 1);
  }

  pub none_holds : AreAbsent g ds p 1 3 → AreAbsent g ds p 3 5 → AreAbsent g ds p 5 7 → (e : MacroFault) → ¬ Holds g ds p e
  none_holds a b c e x =
      ⊎_elim (λ l. any_rank e (λ m. omega (arith, l, m)) x) (λ l. joined 1 5 7 (joined 1 3 5 a b) c e l (highest e) x) (cases_lt (cause_rank e) 1)
