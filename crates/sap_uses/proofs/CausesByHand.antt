-- Which cause counts in small files.
use Rattle.std.proofs.Common.{◌<◌, [], ◌∷◌, refl, arith}
use Rattle.std.specs.Prelude.{codes}
use Rattle.sap_terms.specs.Signature.{Sig}
use Rattle.sap_process.specs.declared.flaw.Flaw.TheVariants.{Unbound}
use Rattle.sap_macro.specs.ExpansionExamples.{a, pairing, twice_two}
use Rattle.sap_uses.specs.FaultCauses.{Holds, IsMacroCause, cause_rank}
use Rattle.sap_uses.specs.UseExamples.{beyond, open_one, right_one, use_of}
use Rattle.sap_uses.specs.declared.fault.MacroFault.{MacroFault}
use Rattle.sap_uses.specs.declared.fault.MacroFault.TheVariants.{Mem, Parameters, Arguments, TooMany, TooDeep, Large, Flawed}
use Rattle.sap_uses.proofs.FlawedByHand.{right_none, unbound_root}

pub parameters_first : (g : Sig) → IsMacroCause g (twice_two ∷ []) (use_of 0 a) (Parameters (codes "x"))
parameters_first g = record { holds = refl; first = before } where
  before : (u : MacroFault) → cause_rank u < 1 → ¬ Holds g (twice_two ∷ []) (use_of 0 a) u
  before Mem l h = h
  before (Parameters x) l h = omega (arith, l)
  before (Arguments x) l h = omega (arith, l)
  before TooMany l h = omega (arith, l)
  before TooDeep l h = omega (arith, l)
  before (Large x) l h = omega (arith, l)
  before (Flawed x w q) l h = omega (arith, l)

pub arguments_first : (g : Sig) → IsMacroCause g (pairing ∷ []) (use_of 0 beyond) (Arguments (codes "A"))
arguments_first g = record { holds = refl; first = before } where
  before : (u : MacroFault) → cause_rank u < 2 → ¬ Holds g (pairing ∷ []) (use_of 0 beyond) u
  before Mem l h = h
  before (Parameters x) l h = absurd (cc)
  before (Arguments x) l h = omega (arith, l)
  before TooMany l h = omega (arith, l)
  before TooDeep l h = omega (arith, l)
  before (Large x) l h = omega (arith, l)
  before (Flawed x w q) l h = omega (arith, l)

pub large_first : (g : Sig) → IsMacroCause g (open_one ∷ []) (use_of 0 beyond) (Large (codes "A"))
large_first g = record { holds = refl; first = before } where
  before : (u : MacroFault) → cause_rank u < 5 → ¬ Holds g (open_one ∷ []) (use_of 0 beyond) u
  before Mem l h = h
  before (Parameters x) l h = absurd (cc)
  before (Arguments x) l h = absurd (cc)
  before TooMany l h = let few = h [] in omega (arith, few)
  before TooDeep l h = let few = h [] in omega (arith, few)
  before (Large x) l h = omega (arith, l)
  before (Flawed x w q) l h = omega (arith, l)

pub flawed_last : (g : Sig) → IsMacroCause g (open_one ∷ []) (use_of 0 a) (Flawed (codes "A") Unbound [])
flawed_last g = record { holds = unbound_root g; first = before } where
  before : (u : MacroFault) → cause_rank u < 6 → ¬ Holds g (open_one ∷ []) (use_of 0 a) u
  before Mem l h = h
  before (Parameters x) l h = absurd (cc)
  before (Arguments x) l h = absurd (cc)
  before TooMany l h = let few = h [] in omega (arith, few)
  before TooDeep l h = let few = h [] in omega (arith, few)
  before (Large x) l h = absurd (cc)
  before (Flawed x w q) l h = omega (arith, l)

none_holds : (g : Sig) (u : MacroFault) → ¬ Holds g (right_one ∷ []) (use_of 0 a) u
none_holds g Mem h = h
none_holds g (Parameters x) h = absurd (cc)
none_holds g (Arguments x) h = absurd (cc)
none_holds g TooMany h = let few = h [] in omega (arith, few)
none_holds g TooDeep h = let few = h [] in omega (arith, few)
none_holds g (Large x) h = absurd (cc)
none_holds g (Flawed x w q) h = right_none g x w q h

pub none_counts : (g : Sig) (e : MacroFault) → ¬ IsMacroCause g (right_one ∷ []) (use_of 0 a) e
none_counts g e h = none_holds g e h.holds
