-- What a pattern makes of what is bound, where it fits a term, and that no choice fits where it doesn't.
use Rattle.std.proofs.Common.{◌≡◌, ◌<◌, ℕ, Bool, true, false, List, [], ◌∷◌, length, if◌then◌else◌, refl, subst, ◌⊎◌, inl, inr}
use Rattle.std.specs.Str.{bytes_eq}
use Rattle.std.proofs.lemmas.List.Elements.{All-head, All-tail}
use Rattle.sap_terms.specs.Choice.{Choice, instance}
use Rattle.sap_terms.specs.Destructors.{HasDestructor}
use Rattle.sap_terms.specs.Equal.{IsTheoryEqual, same}
use Rattle.sap_terms.specs.Equations.{equations}
use Rattle.sap_terms.specs.Ground.{IsGround}
use Rattle.sap_terms.specs.Message.{IsOver}
use Rattle.sap_terms.specs.Normal.{IsNormal}
use Rattle.sap_terms.specs.Signature.{Sig}
use Rattle.sap_terms.specs.Tree.{Tree, variable}
use Rattle.sap_terms.specs.Variables.{tree_vars}
use Rattle.sap_terms.specs.declared.limits.TheConstants.{MOST_TERM_NODES}
use Rattle.sap_terms.specs.declared.var.Var.{Var}
use Rattle.sap_rewrite.specs.Bound.{NamedOnceStay, BindingsGiveChoices}
use Rattle.sap_rewrite.specs.Laws.{PatternsStay}
use Rattle.sap_rewrite.specs.Match.{HaveOneSort, HasNoMatch, IsOnlyMatch}
use Rattle.sap_rewrite.specs.Pattern.{MatchingIsModulo}
use Rattle.sap_process.specs.Instance.{process_instance}
use Rattle.sap_process.specs.Proc.{Proc}
use Rattle.sap_share.specs.Env.{given, bindings_of, AreBound, AreSmallForms, IsSmallForm}
use Rattle.sap_share.specs.Shared.{Shared, tree_at}
use Rattle.sap_share.specs.declared.env.Bound.{Bound}
use Rattle.sap_sides.specs.Messages.{IsSmallMessage}
use Rattle.sap_lines.specs.Faults.{FitsNothing}
use Rattle.sap_heads.specs.Taken.{IsTaken}
use Rattle.sap_heads.specs.Values.{IsSmallNumber}
use Rattle.sap_heads.proofs.Matched.{whole_parts, fits_nothing, fitting, fitting_messages, fitting_turns, fitting_names, fitting_small, fitting_is}

-- what is bound is ground and normal
pub given_fine : (g : Sig) (ts : List Tree) → ((k : ℕ) → k < length ts → IsGround (tree_at ts k)) → (env : List Bound) → AreSmallForms (equations g) MOST_TERM_NODES ts env → (v : Var) → (given ts env v ≡ variable v) ⊎ (IsGround (given ts env v) × IsNormal (equations g) (given ts env v))
given_fine g ts grounds [] small v = inl refl
given_fine g ts grounds (e ∷ es) small v =
    let S : Bound → Type 0 = λ b. IsSmallForm (equations g) MOST_TERM_NODES ts b.id in
    let here = All-head S e es small in
    by (bytes_eq e.var.name v.name) (grounds e.id here.below, here.normal) (given_fine g ts grounds es (All-tail S e es small) v) where
      by : (b : Bool) → IsGround (tree_at ts e.id) × IsNormal (equations g) (tree_at ts e.id) → (given ts es v ≡ variable v) ⊎ (IsGround (given ts es v) × IsNormal (equations g) (given ts es v))
          → ((if b then tree_at ts e.id else given ts es v) ≡ variable v) ⊎ (IsGround (if b then tree_at ts e.id else given ts es v) × IsNormal (equations g) (if b then tree_at ts e.id else given ts es v))
      by true here later = inr here
      by false here later = later

-- the term of a small number is a small message
pub number_message : (s : Shared) → ((k : ℕ) → k < length s.trees → IsGround (tree_at s.trees k)) → ((k : ℕ) → k < length s.trees → IsOver s.sig (tree_at s.trees k)) → (k : ℕ) → IsSmallNumber s k → IsSmallMessage s.sig (tree_at s.trees k)
number_message s grounds overs k h = record { message = record { ground = grounds k h.below; over = overs k h.below; normal = h.normal; sorted = refl }; small = h.within }

module _ (s : Shared) (env : List Bound) (small : AreSmallForms (equations s.sig) MOST_TERM_NODES s.trees env) (grounds : (k : ℕ) → k < length s.trees → IsGround (tree_at s.trees k)) (n : Tree) (one : HaveOneSort (tree_vars n)) where
  -- where no match is found, nothing fits
  pub untaken : MatchingIsModulo → PatternsStay → (HasDestructor s.sig n → ⊥) → (y : Tree) → IsNormal (equations s.sig) y → HasNoMatch n y (bindings_of s.trees env) → FitsNothing s.sig (instance (given s.trees env) n) y
  untaken modulo stay clean y normal none_fits σ fits =
      let pattern = stay s.sig (given s.trees env) n clean (given_fine s.sig s.trees grounds env small) in
      let turns = (modulo (equations s.sig) σ (instance (given s.trees env) n) y (λ v. (fits.messages v).normal) pattern normal).0 fits.equal in
      fits_nothing s.sig s.trees grounds env small n one y none_fits σ fits.messages turns

  -- where one is, a choice fits
  pub taken_is : NamedOnceStay → BindingsGiveChoices → ((p : Proc) (s t : Choice) → ((v : Var) → IsGround (s v) ⊎ (s v ≡ variable v)) → process_instance t (process_instance s p) ≡ process_instance (λ v. instance t (s v)) p)
      → (y : Tree) → IsSmallMessage s.sig y → (new : List Bound) → AreBound (length s.trees) new → IsOnlyMatch n y (bindings_of s.trees env) (bindings_of s.trees new) → IsTaken s env n y new
  taken_is once give twice y fine new below found =
      let parts = whole_parts s.sig n y fine in
      let σ : Choice = fitting s.sig s.trees grounds env small n one y parts new below found once give in
      record {
        choice = σ;
        fits = record {
          messages = fitting_messages s.sig s.trees grounds env small n one y parts new below found once give;
          equal = subst (IsTheoryEqual (equations s.sig) (instance σ (instance (given s.trees env) n))) (fitting_turns s.sig s.trees grounds env small n one y parts new below found once give) same;
        };
        bound = record {
          names = fitting_names s.sig s.trees grounds env small n one y parts new below found once give;
          small = fitting_small s.sig s.trees grounds env small n one y parts new below found once give;
          goes = fitting_is s.sig s.trees grounds env small n one y parts new below found once give twice;
        };
      }
