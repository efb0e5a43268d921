-- A value that was stored and deleted again is never found.
use Rattle.std.proofs.Common.{◌≡◌, List, [], ◌∷◌, Option, Some, None, refl, sym, ap, subst, ◌∙◌}
use Rattle.std.specs.Prelude.{codes}
use Rattle.sap_terms.specs.AdversaryFacts.{k_fact}
use Rattle.sap_terms.specs.Signature.{Sig, HoldsBuiltins}
use Rattle.sap_terms.specs.Tree.{Tree}
use Rattle.sap_terms.specs.declared.fact.Fact.{Fact}
use Rattle.sap_process.specs.Action as action
use Rattle.sap_process.specs.Configuration.{Config, initial, stored}
use Rattle.sap_process.specs.Proc as whole
use Rattle.sap_process.specs.Proc.{Proc, act}
use Rattle.sap_process.specs.ProcessSteps.{ProcessStep, IsProcessTrace}
use Rattle.sap_translate.specs.Examples.{term_k, no_fact, yes_fact, deleted_again}
use Rattle.sap_translate.specs.Faithful.{IsVisibleTrace}
use Rattle.sap_templates.specs.Templates.{rules_of}
use Rattle.sap_translate.proofs.ByHand.Moves.{Moves, past_first, head_name, apart, unlike, Only, only_is, only_becomes, only_item, no_item}
use Rattle.sap_translate.proofs.ByHand.Parts.{rules_show_only, form_is_own}
use Rattle.sap_translate.proofs.ByHand.Traces.{asking, deletes_sound, deletes_over}
use Rattle.sap_translate.proofs.Premises.LowerLaws.{Laws}

-- the process with what the store has at 'k': nothing, when it looks
abbrev Deletes : Option Tree → Proc → Type 0
Deletes o whole.nil = Unit {0}
Deletes o (act (action.insert m n) p) = p ≡ act (action.delete term_k) asking
Deletes o (act (action.delete m) p) = (m ≡ term_k) × (p ≡ asking)
Deletes o (whole.lookup m x p q) = (m ≡ term_k) × (o ≡ None) × (q ≡ act (action.event no_fact) whole.nil)
Deletes o (act (action.event f) p) = (f.name ≡ codes "No") × (p ≡ whole.nil)
Deletes o _ = ⊥

-- one process runs
abbrev Alone : Config → Type 0
Alone c = Only (Deletes (c.store term_k)) c.threads

module _ (laws : Laws) (g : Sig) where
  nothing_at : (c : Config) (k : Tree) → k ≡ term_k → stored c.store k None term_k ≡ None
  nothing_at c k e = subst (λ z. stored c.store z None term_k ≡ None) (sym e) refl

  alone_moves : (l : List Fact) → ((t : Tree) → k_fact t ∷ [] ≡ l → ⊥) → Moves g Alone l (λ d. head_name l ≡ codes "No")
  alone_moves l other c _ _ a (ProcessStep.ends t r) = only_becomes (Deletes (c.store term_k)) a t r None (no_item (Deletes (c.store term_k)))
  alone_moves l other c _ _ a (ProcessStep.splits t r) = absurd (only_is a t r)
  alone_moves l other c _ _ a (ProcessStep.copies t r) = absurd (only_is a t r)
  alone_moves l other c _ _ a (ProcessStep.makes_name t n r u) = absurd (only_is a t r)
  alone_moves l other c _ _ a (ProcessStep.outputs t r f) = absurd (only_is a t r)
  alone_moves l other c _ _ a (ProcessStep.outputs_on t r f k u) = absurd (only_is a t r)
  alone_moves l other c _ _ a (ProcessStep.inputs t σ r k f) = absurd (only_is a t r)
  alone_moves l other c _ _ a (ProcessStep.inputs_on t σ r k m e) = absurd (only_is a t r)
  alone_moves l other c _ _ a (ProcessStep.meets s t σ r z e f) = absurd (only_is a s r)
  alone_moves l other c _ _ a (ProcessStep.agrees t r e) = absurd (only_is a t r)
  alone_moves l other c _ _ a (ProcessStep.differs t r e) = absurd (only_is a t r)
  alone_moves l other c _ _ a (ProcessStep.shows t r form) =
      let here = only_is a t r in
      λ e. sym (ap head_name e) ∙ (form.name ∙ here.0)
  alone_moves l other c _ _ a (ProcessStep.inserts {k = k} {v = v} {p = p} t r f h) =
      let here = only_is a t r in
      let next : Deletes (stored c.store k (Some v) term_k) p = subst (Deletes (stored c.store k (Some v) term_k)) (sym here) (refl, refl) in
      only_becomes (Deletes (stored c.store k (Some v) term_k)) a t r (Some p) (only_item (Deletes (stored c.store k (Some v) term_k)) p next)
  alone_moves l other c _ _ a (ProcessStep.deletes {m = m} {k = k} {p = p} t r f) =
      let here = only_is a t r in
      let empty = nothing_at c k (form_is_own laws g (codes "k") m k here.0 f) in
      let next : Deletes (stored c.store k None term_k) p = subst (Deletes (stored c.store k None term_k)) (sym here.1) (refl, empty, refl) in
      only_becomes (Deletes (stored c.store k None term_k)) a t r (Some p) (only_item (Deletes (stored c.store k None term_k)) p next)
  alone_moves l other c _ _ a (ProcessStep.finds {m = m} {k = k} {v = v} t r f has) =
      let here = only_is a t r in
      let both : Some v ≡ None = sym has ∙ (ap c.store (form_is_own laws g (codes "k") m k here.0 f) ∙ here.1) in
      absurd (cc)
  alone_moves l other c _ _ a (ProcessStep.misses {q = q} t r f has) =
      let here = only_is a t r in
      let next : Deletes (c.store term_k) q = subst (Deletes (c.store term_k)) (sym here.2) (refl, refl) in
      only_becomes (Deletes (c.store term_k)) a t r (Some q) (only_item (Deletes (c.store term_k)) q next)
  alone_moves l other c _ _ a (ProcessStep.locks t r k f) = absurd (only_is a t r)
  alone_moves l other c _ _ a (ProcessStep.unlocks t r k) = absurd (only_is a t r)
  alone_moves l other c _ _ a (ProcessStep.embeds t ks σ left acts right r m e k s z) = absurd (only_is a t r)
  alone_moves l other c _ _ a (ProcessStep.adversary_makes n u) = a
  alone_moves l other _ _ _ a (ProcessStep.knows x k) = λ e. absurd (other x e)

  pub never_found : (t : Tree) → IsProcessTrace g deleted_again ((yes_fact t ∷ []) ∷ []) → ⊥
  never_found t is =
      let start : Alone (initial deleted_again) = record { now = Some deleted_again; only = refl; is = only_item (Deletes None) deleted_again refl } in
      let found = past_first (alone_moves (yes_fact t ∷ []) (λ u. unlike (k_fact u ∷ []) (yes_fact t ∷ []) refl refl)) start is.1 [] refl in
      apart (codes "Yes") (codes "No") refl refl found.is

pub never_found_rules : (laws : Laws) → (g : Sig) (t : Tree) → HoldsBuiltins g → IsVisibleTrace g (rules_of deleted_again) ((yes_fact t ∷ []) ∷ []) → ⊥
never_found_rules laws g t hold w = never_found laws g t ((rules_show_only laws) g deleted_again hold (deletes_sound g) (deletes_over g) _ w)
