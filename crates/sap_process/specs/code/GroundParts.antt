-- Ground processes over a signature, part by part.
use Rattle.std.specs.Prelude.{◌≡◌, List, [], ◌∷◌, ◌++◌}
use Rattle.sap_terms.specs.Message.{IsOver}
use Rattle.sap_terms.specs.Signature.{Sig}
use Rattle.sap_terms.specs.Tree.{Tree}
use Rattle.sap_terms.specs.declared.var.Var.{Var}
use Rattle.sap_process.specs.Flaws.{unbound_in, unbound_at}
use Rattle.sap_process.specs.Heads.{action_terms}
use Rattle.sap_process.specs.Proc.{Proc, nil, parallel, replicated, act, test, lookup}
use Rattle.sap_process.specs.Sites.{bound_by, message_var}

-- no name is used that nothing binds, where these are in scope
abbrev pub IsGroundIn : List Var → Proc → Type 0
IsGroundIn v nil = Unit {0}
IsGroundIn v (parallel p q) = IsGroundIn v p × IsGroundIn v q
IsGroundIn v (replicated p) = IsGroundIn v p
IsGroundIn v (act a p) = (unbound_at v a ≡ []) × IsGroundIn (v ++ bound_by v a) p
IsGroundIn v (test t u p q) = (unbound_in v (t ∷ u ∷ []) ≡ []) × IsGroundIn v p × IsGroundIn v q
IsGroundIn v (lookup t x p q) = (unbound_in v (t ∷ []) ≡ []) × IsGroundIn (v ++ message_var x ∷ []) p × IsGroundIn v q

abbrev pub AllOver : Sig → List Tree → Type 0
AllOver g [] = Unit {0}
AllOver g (t ∷ ts) = IsOver g t × AllOver g ts

-- each term at each head is over the signature
abbrev pub IsOverProcess : Sig → Proc → Type 0
IsOverProcess g nil = Unit {0}
IsOverProcess g (parallel p q) = IsOverProcess g p × IsOverProcess g q
IsOverProcess g (replicated p) = IsOverProcess g p
IsOverProcess g (act a p) = AllOver g (action_terms a) × IsOverProcess g p
IsOverProcess g (test t u p q) = AllOver g (t ∷ u ∷ []) × IsOverProcess g p × IsOverProcess g q
IsOverProcess g (lookup t x p q) = AllOver g (t ∷ []) × IsOverProcess g p × IsOverProcess g q
