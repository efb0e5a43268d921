-- A lock that wasn't given back isn't taken again.
use Rattle.std.proofs.Common.{◌≡◌, ◌⊎◌, inl, inr, Bool, true, false, List, [], ◌∷◌, Some, None, refl, sym, ap, subst, ◌∙◌}
use Rattle.std.specs.Prelude.{codes}
use Rattle.sap_terms.specs.AdversaryFacts.{k_fact}
use Rattle.sap_terms.specs.Choice.{Choice}
use Rattle.sap_terms.specs.Signature.{Sig, HoldsBuiltins}
use Rattle.sap_terms.specs.Tree.{Tree}
use Rattle.sap_terms.specs.Variables.{tree_vars}
use Rattle.sap_terms.specs.declared.fact.Fact.{Fact}
use Rattle.sap_process.specs.Action as action
use Rattle.sap_process.specs.Configuration.{Config, initial, marked}
use Rattle.sap_process.specs.Proc as whole
use Rattle.sap_process.specs.Proc.{Proc, act, test}
use Rattle.sap_process.specs.ProcessSteps.{ProcessStep, IsProcessTrace, with_choice}
use Rattle.sap_translate.specs.Examples.{term_s, x, g_fact, no_fact, locked_twice}
use Rattle.sap_translate.specs.Faithful.{IsVisibleTrace}
use Rattle.sap_templates.specs.Templates.{rules_of}
use Rattle.sap_translate.proofs.ByHand.Channels.{testing_twice, once_more, given_back, kept, locks_sound, locks_over}
use Rattle.sap_translate.proofs.ByHand.Moves.{Moves, past_first, head_name, apart, Only, only_is, only_becomes, only_item, no_item}
use Rattle.sap_translate.proofs.ByHand.Parts.{rules_show_only, form_is_own}
use Rattle.sap_translate.proofs.Premises.LowerLaws.{Laws}

-- the process with whether 's' is held: it is from the first lock to the unlock, and on the way without one
abbrev Locks : Bool → Proc → Type 0
Locks h whole.nil = Unit {0}
Locks h (act (action.input m) p) = act (action.input m) p ≡ locked_twice
Locks h (act (action.lock m i) p) = (m ≡ term_s) × (((t : Tree) × (p ≡ testing_twice t)) ⊎ (p ≡ act (action.event g_fact) whole.nil) ⊎ (h ≡ true))
Locks h (test m n p q) = (h ≡ true) × (p ≡ given_back) × (q ≡ kept)
Locks h (act (action.unlock m i) p) = p ≡ once_more
Locks h (act (action.event f) p) = (f.name ≡ codes "G") × (p ≡ whole.nil)
Locks h _ = ⊥

-- one process runs
abbrev Alone : Config → Type 0
Alone c = Only (Locks (c.held term_s)) c.threads

-- what an input leaves
abbrev served : Choice → Proc → Proc
served σ (act (action.input m) p) = with_choice σ (tree_vars m) p
served σ p = p

abbrev Told : List Fact → Config → Type 0
Told l d = Alone d × ((head_name l ≡ codes "K") ⊎ (head_name l ≡ codes "G"))

module _ (laws : Laws) (g : Sig) where
  held_at : (c : Config) (k : Tree) → k ≡ term_s → marked c.held k true term_s ≡ true
  held_at c k e = subst (λ z. marked c.held z true term_s ≡ true) (sym e) refl

  -- what is behind a lock that was free
  behind_lock : (c : Config) (k : Tree) (p : Proc) → k ≡ term_s → c.held k ≡ false → ((t : Tree) × (p ≡ testing_twice t)) ⊎ (p ≡ act (action.event g_fact) whole.nil) ⊎ (c.held term_s ≡ true)
      → Locks (marked c.held k true term_s) p
  behind_lock c k p at free (inl first) = subst (Locks (marked c.held k true term_s)) (sym first.1) (held_at c k at, refl, refl)
  behind_lock c k p at free (inr (inl second)) = subst (Locks (marked c.held k true term_s)) (sym second) (refl, refl)
  behind_lock c k p at free (inr (inr taken)) = let both : false ≡ true = sym free ∙ (ap c.held at ∙ taken) in absurd (cc)

  alone_moves : (l : List Fact) → Moves g Alone l (Told l)
  alone_moves l c _ _ a (ProcessStep.ends t r) = only_becomes (Locks (c.held term_s)) a t r None (no_item (Locks (c.held term_s)))
  alone_moves l c _ _ a (ProcessStep.splits t r) = absurd (only_is a t r)
  alone_moves l c _ _ a (ProcessStep.copies t r) = absurd (only_is a t r)
  alone_moves l c _ _ a (ProcessStep.makes_name t n r u) = absurd (only_is a t r)
  alone_moves l c _ _ a (ProcessStep.outputs t r f) = absurd (only_is a t r)
  alone_moves l c _ _ a (ProcessStep.outputs_on t r f k u) = absurd (only_is a t r)
  alone_moves l c _ _ a (ProcessStep.inputs {n = n} {p = p} t σ r k f) =
      let here = only_is a t r in
      let next : Locks (c.held term_s) (with_choice σ (tree_vars n) p) = subst (Locks (c.held term_s)) (sym (ap (served σ) here)) (refl, inl (σ x, refl)) in
      λ e. (only_becomes (Locks (c.held term_s)) a t r (Some (with_choice σ (tree_vars n) p)) (only_item (Locks (c.held term_s)) _ next), inl (sym (ap head_name e)))
  alone_moves l c _ _ a (ProcessStep.inputs_on t σ r k m e) = absurd (only_is a t r)
  alone_moves l c _ _ a (ProcessStep.meets s t σ r z e f) = absurd (only_is a s r)
  alone_moves l c _ _ a (ProcessStep.agrees {p = p} t r e) =
      let here = only_is a t r in
      let next : Locks (c.held term_s) p = subst (Locks (c.held term_s)) (sym here.1) refl in
      only_becomes (Locks (c.held term_s)) a t r (Some p) (only_item (Locks (c.held term_s)) p next)
  alone_moves l c _ _ a (ProcessStep.differs {q = q} t r e) =
      let here = only_is a t r in
      let next : Locks (c.held term_s) q = subst (Locks (c.held term_s)) (sym here.2) (refl, inr (inr here.0)) in
      only_becomes (Locks (c.held term_s)) a t r (Some q) (only_item (Locks (c.held term_s)) q next)
  alone_moves l c _ _ a (ProcessStep.shows {p = p} t r form) =
      let here = only_is a t r in
      λ e. (
        only_becomes (Locks (c.held term_s)) a t r (Some p) (only_item (Locks (c.held term_s)) p (subst (Locks (c.held term_s)) (sym here.1) tt)),
        inr (sym (ap head_name e) ∙ (form.name ∙ here.0)),
      )
  alone_moves l c _ _ a (ProcessStep.inserts t r k f) = absurd (only_is a t r)
  alone_moves l c _ _ a (ProcessStep.deletes t r k) = absurd (only_is a t r)
  alone_moves l c _ _ a (ProcessStep.finds t r k s) = absurd (only_is a t r)
  alone_moves l c _ _ a (ProcessStep.misses t r k s) = absurd (only_is a t r)
  alone_moves l c _ _ a (ProcessStep.locks {m = m} {k = k} {p = p} t r f free) =
      let here = only_is a t r in
      let next = behind_lock c k p (form_is_own laws g (codes "s") m k here.0 f) free here.1 in
      only_becomes (Locks (marked c.held k true term_s)) a t r (Some p) (only_item (Locks (marked c.held k true term_s)) p next)
  alone_moves l c _ _ a (ProcessStep.unlocks {k = k} {p = p} t r f) =
      let here = only_is a t r in
      let next : Locks (marked c.held k false term_s) p = subst (Locks (marked c.held k false term_s)) (sym here) (refl, inr (inl refl)) in
      only_becomes (Locks (marked c.held k false term_s)) a t r (Some p) (only_item (Locks (marked c.held k false term_s)) p next)
  alone_moves l c _ _ a (ProcessStep.embeds t ks σ left acts right r m e k s z) = absurd (only_is a t r)
  alone_moves l c _ _ a (ProcessStep.adversary_makes n u) = a
  alone_moves l c _ _ a (ProcessStep.knows x k) = λ e. (a, inl (sym (ap head_name e)))

  by_name : (head_name (no_fact ∷ []) ≡ codes "K") ⊎ (head_name (no_fact ∷ []) ≡ codes "G") → ⊥
  by_name (inl e) = apart (codes "No") (codes "K") refl refl e
  by_name (inr e) = apart (codes "No") (codes "G") refl refl e

  pub never_locked_again : (t : Tree) → IsProcessTrace g locked_twice ((k_fact t ∷ []) ∷ (no_fact ∷ []) ∷ []) → ⊥
  never_locked_again t is =
      let start : Alone (initial locked_twice) = record { now = Some locked_twice; only = refl; is = only_item (Locks false) locked_twice refl } in
      let taken = past_first (alone_moves (k_fact t ∷ [])) start is.1 ((no_fact ∷ []) ∷ []) refl in
      let last = past_first (alone_moves (no_fact ∷ [])) taken.is.0 taken.rest [] refl in
      by_name last.is.1

pub never_locked_again_rules : (laws : Laws) → (g : Sig) (t : Tree) → HoldsBuiltins g → IsVisibleTrace g (rules_of locked_twice) ((k_fact t ∷ []) ∷ (no_fact ∷ []) ∷ []) → ⊥
never_locked_again_rules laws g t hold w = never_locked_again laws g t ((rules_show_only laws) g locked_twice hold (locks_sound g) (locks_over g) _ w)
