-- What is found by a search that entered terms, said of these terms.
use Rattle.std.proofs.Common.{◌≡◌, [], List, Some, None, subst}
use Rattle.std.specs.Prelude.{Option, Result, Ok, Err, IfOk, IfSome, IfNone}
use Rattle.sap_terms.specs.Deduce.{IsDeducible}
use Rattle.sap_terms.specs.Signature.{Sig}
use Rattle.sap_terms.specs.Tree.{Tree}
use Rattle.sap_derive.specs.Found.{IsFoundBy, IsFoundIn, IsFound}
use Rattle.sap_derive.specs.Searched.{Searched}
use Rattle.sap_derive.specs.declared.derivation.Derivation.{Derivation}

module _ {E : Type 0} (g : Sig) (entries : List Tree) (goal : Tree) (v w : Searched) (sig : v.sig ≡ g) (are : v.entries ≡ entries) where
  pub some-derived : (r : Result (Option Derivation) E) → IfOk r (λ o. IfSome o (λ d. IsFoundIn v goal d w)) → IfOk r (λ o. IfSome o (λ d. IsFound g entries goal d))
  some-derived (Ok (Some d)) f =
      (f.given, subst (λ (h : Sig). IsFoundBy h entries goal d f.given) sig (subst (λ (ts : List Tree). IsFoundBy v.sig ts goal d f.given) are f.found))
  some-derived (Ok None) f = f
  some-derived (Err e) f = f

  pub none-derived : (r : Result (Option Derivation) E) → IfOk r (λ o. IfNone o (¬ IsDeducible v.sig [] v.entries goal)) → IfOk r (λ o. IfNone o (¬ IsDeducible g [] entries goal))
  none-derived (Ok (Some d)) f = f
  none-derived (Ok None) f =
      subst (λ (h : Sig). ¬ IsDeducible h [] entries goal) sig (subst (λ (ts : List Tree). ¬ IsDeducible v.sig [] ts goal) are f)
  none-derived (Err e) f = f
