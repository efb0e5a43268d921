-- What is evaluated where two threads meet, seen from the table behind.
use Rattle.std.proofs.Common.{◌≡◌, ℕ, List, [], ◌∷◌, length, ap, subst, inl, inr}
use Rattle.sap_process.specs.ProcessSteps.{Fits}
use Rattle.sap_rewrite.specs.Laws.{EqualityIsKept, FormsDecide}
use Rattle.sap_terms.specs.Choice.{Choice, instance}
use Rattle.sap_terms.specs.Destructors.{HasDestructor}
use Rattle.sap_terms.specs.Equations.{equations}
use Rattle.sap_terms.specs.Normal.{IsNormalForm}
use Rattle.sap_terms.specs.Signature.{Sig}
use Rattle.sap_terms.specs.Subterms.{SomeSubtermWithin, here, later}
use Rattle.sap_terms.specs.Tree.{Tree, trees_of}
use Rattle.sap_terms.specs.declared.limits.TheConstants.{MOST_TERM_NODES}
use Rattle.sap_share.specs.Env.{given, AreSmallForms}
use Rattle.sap_share.specs.Shared.{Shared, tree_at, Keeps, HaveOneNumber}
use Rattle.sap_share.specs.declared.env.Bound.{Bound}
use Rattle.sap_lines.specs.Faults.{EvaluateSmall}
use Rattle.sap_heads.specs.Taken.{IsTaken, IsUntaken, IsMet, IsUnmet, unmet_values, misfit, apart}
use Rattle.sap_heads.specs.Values.{IsSmallNumber}
use Rattle.sap_heads.specs.Values.{IsValue, AreValues, IsValueFault}
use Rattle.sap_lines.specs.declared.fault.PFault.{PFault}
use Rattle.sap_lines.specs.declared.fault.PFault.TheVariants as fault
use Rattle.sap_heads.proofs.Formed.{small_more}
use Rattle.sap_heads.proofs.Kept.{given_stays, env_stays, small_stays, tree_stays}
use Rattle.sap_heads.proofs.Numbers.{only_one, keeps_twice}

front : {Q : Tree → Type 0} (x y z : Tree) → SomeSubtermWithin Q (trees_of (x ∷ y ∷ [])) → SomeSubtermWithin Q (trees_of (x ∷ y ∷ z ∷ []))
front x y z (here h) = here h
front x y z (later h) = later (here (only_one y h))

back : {Q : Tree → Type 0} (x y z : Tree) → SomeSubtermWithin Q (trees_of (z ∷ [])) → SomeSubtermWithin Q (trees_of (x ∷ y ∷ z ∷ []))
back x y z h = later (later h)

pub fault_front : (g : Sig) (x y z : Tree) (f : PFault) → IsValueFault g (x ∷ y ∷ []) f → IsValueFault g (x ∷ y ∷ z ∷ []) f
fault_front g x y z f (inl h) = inl h
fault_front g x y z f (inr h) = inr (h.0, front x y z h.1)

pub fault_back : (g : Sig) (x y z : Tree) (f : PFault) → IsValueFault g (z ∷ []) f → IsValueFault g (x ∷ y ∷ z ∷ []) f
fault_back g x y z f (inl h) = inl h
fault_back g x y z f (inr h) = inr (h.0, back x y z h.1)

module _ (s u : Shared) (keeps : Keeps s u) (sends takes : List Bound) (small : AreSmallForms (equations s.sig) MOST_TERM_NODES s.trees sends) (small_takes : AreSmallForms (equations s.sig) MOST_TERM_NODES s.trees takes) (m n l p : Tree) where
  pub met_first_fault : (f : PFault) → IsValueFault s.sig (instance (given s.trees sends) m ∷ instance (given s.trees sends) n ∷ []) f → IsUnmet u sends takes m n l p f
  met_first_fault f h =
      let there : IsValueFault u.sig (instance (given u.trees sends) m ∷ instance (given u.trees sends) n ∷ []) f = rw (keeps.sig, given_stays s u keeps sends small) h in
      unmet_values (fault_front u.sig (instance (given u.trees sends) m) (instance (given u.trees sends) n) (instance (given u.trees takes) l) f there)

  module _ (w : Shared) (onwards : Keeps u w) where
    whole : Keeps s w
    whole = keeps_twice s u w keeps onwards

    pub takes_there : AreSmallForms (equations w.sig) MOST_TERM_NODES w.trees takes
    takes_there = env_stays s w whole takes small_takes

    pub met_plain : (HasDestructor s.sig p → ⊥) → HasDestructor w.sig p → ⊥
    met_plain clean d = clean (subst (λ g. HasDestructor g p) whole.sig d)

    pub met_last_fault : (f : PFault) → IsValueFault u.sig (instance (given u.trees takes) l ∷ []) f → IsUnmet w sends takes m n l p f
    met_last_fault f h =
        let there : IsValueFault w.sig (instance (given w.trees takes) l ∷ []) f = rw (onwards.sig, given_stays u w onwards takes (env_stays s u keeps takes small_takes)) h in
        unmet_values (fault_back w.sig (instance (given w.trees sends) m) (instance (given w.trees sends) n) (instance (given w.trees takes) l) f there)

    module _ (i j h : ℕ) (v : AreValues s u sends m n i j) (k : IsValue u w takes l h) where
      pub met_number : IsSmallNumber w j
      met_number = small_stays u w onwards j v.second_number

      channel_there : IsNormalForm (equations w.sig) (instance (given w.trees sends) m) (tree_at w.trees i)
      channel_there = rw (whole.sig, given_stays s w whole sends small, tree_stays u w onwards i v.first_number.below) v.first_form

      message_there : IsNormalForm (equations w.sig) (instance (given w.trees sends) n) (tree_at w.trees j)
      message_there = rw (whole.sig, given_stays s w whole sends small, tree_stays u w onwards j v.second_number.below) v.second_form

      other_there : IsNormalForm (equations w.sig) (instance (given w.trees takes) l) (tree_at w.trees h)
      other_there = rw (onwards.sig, given_stays u w onwards takes (env_stays s u keeps takes small_takes)) k.form

      small_there : EvaluateSmall w.sig (instance (given w.trees sends) m ∷ instance (given w.trees sends) n ∷ instance (given w.trees takes) l ∷ [])
      small_there =
          let first : EvaluateSmall w.sig (instance (given w.trees sends) m ∷ instance (given w.trees sends) n ∷ []) = rw (whole.sig, given_stays s w whole sends small) v.small in
          let last : EvaluateSmall w.sig (instance (given w.trees takes) l ∷ []) = rw (onwards.sig, given_stays u w onwards takes (env_stays s u keeps takes small_takes)) k.small in
          small_more w.sig (instance (given w.trees sends) m ∷ instance (given w.trees sends) n ∷ []) (instance (given w.trees takes) l ∷ []) first last

      module _ (kept : EqualityIsKept) where
        -- what fits the number's term fits what is sent, and the other way round
        fits_message : (σ : Choice) → Fits w.sig σ (instance (given w.trees takes) p) (tree_at w.trees j) → Fits w.sig σ (instance (given w.trees takes) p) (instance (given w.trees sends) n)
        fits_message σ fit = record { messages = fit.messages; equal = kept.onwards (equations w.sig) (instance σ (instance (given w.trees takes) p)) (tree_at w.trees j) (instance (given w.trees sends) n) fit.equal (kept.back (equations w.sig) (instance (given w.trees sends) n) (tree_at w.trees j) message_there.equal) }

        fits_number : (σ : Choice) → Fits w.sig σ (instance (given w.trees takes) p) (instance (given w.trees sends) n) → Fits w.sig σ (instance (given w.trees takes) p) (tree_at w.trees j)
        fits_number σ fit = record { messages = fit.messages; equal = kept.onwards (equations w.sig) (instance σ (instance (given w.trees takes) p)) (instance (given w.trees sends) n) (tree_at w.trees j) fit.equal message_there.equal }

        pub met_misfit : (f : PFault) → IsUntaken w takes p (tree_at w.trees j) f → IsUnmet w sends takes m n l p f
        met_misfit f (inl h) = unmet_values (inl h)
        met_misfit f (inr h) = rw h.0 (misfit small_there (λ σ fit. h.1 σ (fits_number σ fit)))

        module _ (decide : FormsDecide) (new : List Bound) (taken : IsTaken w takes p (tree_at w.trees j) new) where
          pub met_apart : HaveOneNumber w.trees (length w.trees) → (i ≡ h → ⊥) → IsUnmet w sends takes m n l p fault.Unequal
          met_apart once other =
              apart taken.choice small_there (fits_message taken.choice taken.fits) (λ equal. other (once i h (small_stays u w onwards i v.first_number).below k.number.below ((decide (equations w.sig) _ _ _ _ channel_there other_there).0 equal)))

          pub met_is : i ≡ h → IsMet w sends takes m n l p new
          met_is same = record {
            choice = taken.choice;
            channel = (decide (equations w.sig) _ _ _ _ channel_there other_there).1 (ap (tree_at w.trees) same);
            fits = fits_message taken.choice taken.fits;
            small = small_there;
            bound = taken.bound;
          }
