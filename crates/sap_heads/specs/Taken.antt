-- Terms that are taken by a pattern under what is bound: by the adversary's hand, on a channel, or from a sender.
use Rattle.std.specs.Prelude.{◌≡◌, ◌⊎◌, List, [], ◌∷◌}
use Rattle.sap_terms.specs.Choice.{Choice, instance}
use Rattle.sap_terms.specs.Equal.{IsTheoryEqual}
use Rattle.sap_terms.specs.Equations.{equations, app2, pair_name}
use Rattle.sap_terms.specs.Message.{IsMessageChoice}
use Rattle.sap_terms.specs.Normal.{IsNormalForm}
use Rattle.sap_terms.specs.Tree.{Tree}
use Rattle.sap_terms.specs.Variables.{tree_vars}
use Rattle.sap_process.specs.ProcessSteps.{Fits}
use Rattle.sap_share.specs.Env.{given}
use Rattle.sap_share.specs.Shared.{Shared}
use Rattle.sap_share.specs.declared.env.Bound.{Bound}
use Rattle.sap_lines.specs.Faults.{EvaluateSmall, FitsNothing}
use Rattle.sap_lines.specs.declared.fault.PFault.{PFault}
use Rattle.sap_lines.specs.declared.fault.PFault.TheVariants.{Mem, NoMatch, Unequal}
use Rattle.sap_heads.specs.Bound.{IsExtended}
use Rattle.sap_heads.specs.Values.{IsValueFault}

-- a choice makes what the pattern stands for fit the term, and more is bound by it
pub record IsTaken (s : Shared) (env : List Bound) (n x : Tree) (new : List Bound) : Type 0 where
  pub choice : Choice
  pub fits : Fits s.sig choice (instance (given s.trees env) n) x
  pub bound : IsExtended s env choice (tree_vars n) (tree_vars (instance (given s.trees env) n)) new

-- why not: for want of memory, or since no choice makes it fit
abbrev pub IsUntaken : Shared → List Bound → Tree → Tree → PFault → Type 0
IsUntaken s env n x f = (f ≡ Mem) ⊎ ((f ≡ NoMatch) × FitsNothing s.sig (instance (given s.trees env) n) x)

-- a choice makes the pair of the channel and the pattern theory-equal to the term, and more is bound by it
pub record IsReceived (s : Shared) (env : List Bound) (m n x : Tree) (new : List Bound) : Type 0 where
  pub choice : Choice
  pub messages : IsMessageChoice s.sig choice
  pub equal : IsTheoryEqual (equations s.sig) (app2 pair_name (instance (given s.trees env) m) (instance choice (instance (given s.trees env) n))) x
  pub small : EvaluateSmall s.sig (instance (given s.trees env) m ∷ [])
  pub bound : IsExtended s env choice (tree_vars n) (tree_vars (instance (given s.trees env) n)) new

-- why not: the first test that fails
pub data IsUnreceived (s : Shared) (env : List Bound) (m n x : Tree) : PFault → Type 0 where
  -- the channel isn't evaluated
  unvalued : {f : PFault} → IsValueFault s.sig (instance (given s.trees env) m ∷ []) f → IsUnreceived s env m n x f
  no_memory : IsUnreceived s env m n x Mem
  -- the term is no pair whose second part fits the pattern
  unfitting : EvaluateSmall s.sig (instance (given s.trees env) m ∷ [])
      → ((y z : Tree) → x ≡ app2 pair_name y z → FitsNothing s.sig (instance (given s.trees env) n) z) → IsUnreceived s env m n x NoMatch
  -- it is, and its first part isn't the channel
  other_channel : (σ : Choice) (y z : Tree) → EvaluateSmall s.sig (instance (given s.trees env) m ∷ []) → x ≡ app2 pair_name y z
      → Fits s.sig σ (instance (given s.trees env) n) z → ¬ IsNormalForm (equations s.sig) (instance (given s.trees env) m) y → IsUnreceived s env m n x Unequal

-- under what is bound for each, one sends n on the channel m, the other takes on l what fits p: the channels are equal, a
-- choice makes the pattern fit, and more is bound by it
pub record IsMet (s : Shared) (sends takes : List Bound) (m n l p : Tree) (new : List Bound) : Type 0 where
  pub choice : Choice
  pub channel : IsTheoryEqual (equations s.sig) (instance (given s.trees sends) m) (instance (given s.trees takes) l)
  pub fits : Fits s.sig choice (instance (given s.trees takes) p) (instance (given s.trees sends) n)
  pub small : EvaluateSmall s.sig (instance (given s.trees sends) m ∷ instance (given s.trees sends) n ∷ instance (given s.trees takes) l ∷ [])
  pub bound : IsExtended s takes choice (tree_vars p) (tree_vars (instance (given s.trees takes) p)) new

-- why not: the first test that fails
pub data IsUnmet (s : Shared) (sends takes : List Bound) (m n l p : Tree) : PFault → Type 0 where
  -- the terms aren't evaluated
  unmet_values : {f : PFault} → IsValueFault s.sig (instance (given s.trees sends) m ∷ instance (given s.trees sends) n ∷ instance (given s.trees takes) l ∷ []) f
      → IsUnmet s sends takes m n l p f
  -- what is sent doesn't fit the pattern
  misfit : EvaluateSmall s.sig (instance (given s.trees sends) m ∷ instance (given s.trees sends) n ∷ instance (given s.trees takes) l ∷ [])
      → FitsNothing s.sig (instance (given s.trees takes) p) (instance (given s.trees sends) n) → IsUnmet s sends takes m n l p NoMatch
  -- it does, and the channels differ
  apart : (σ : Choice) → EvaluateSmall s.sig (instance (given s.trees sends) m ∷ instance (given s.trees sends) n ∷ instance (given s.trees takes) l ∷ [])
      → Fits s.sig σ (instance (given s.trees takes) p) (instance (given s.trees sends) n)
      → ¬ IsTheoryEqual (equations s.sig) (instance (given s.trees sends) m) (instance (given s.trees takes) l) → IsUnmet s sends takes m n l p Unequal
