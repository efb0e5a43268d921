-- What is closed under the clauses is saturated.
use Rattle.std.proofs.Common.{◌≡◌, ℕ, true, List, [], ◌∷◌, length, Some, refl, sym, ap, subst, ◌∙◌, ◌⊎◌, inl, inr, arith}
use Rattle.std.specs.Prelude.{All}
use Rattle.std.proofs.lemmas.List.Elements.{All-nil, All-head}
use Rattle.sap_terms.specs.Tree.{Tree, public, apply, Trees, none, more, trees_of, list_of, list_of-trees_of}
use Rattle.sap_terms.specs.Signature.{Sig, IsPublic, arity_of, HoldsBuiltins}
use Rattle.sap_terms.specs.Equations.{equations, IsInstance, first, second, symmetric, asymmetric, signing, revealing, revealed, app0, app1, app2, pair_name, fst_name, snd_name, senc_name, sdec_name, aenc_name, adec_name, pk_name, reveal_sign_name, get_message_name, true_name}
use Rattle.sap_terms.specs.Normal.{IsNormal, AreNormal, IsNoLeftSide, IsNormalForm}
use Rattle.sap_rewrite.specs.Laws.{FormIsOne, SymbolsReduceOnce}
use Rattle.sap_derive.specs.code.Saturated.{IsSaturated}
use Rattle.sap_derive.specs.code.Clauses.{CanApply, IsOpening, writes, composes, takes_first, takes_second, decrypts, decrypts_by_secret, reads_signed, IsClosedOver}
use Rattle.sap_derive.proofs.Openings.{truth_found, found-public, found-arity}

module _ (one : FormIsOne) (once : SymbolsReduceOnce) (g : Sig) (A K : Tree → Type 0) (builtins : HoldsBuiltins g) (normal : (t : Tree) → A t → IsNormal (equations g) t) (closed : IsClosedOver g A K) where
  truth-known : (equations g).signing ≡ true ⊎ (equations g).revealing ≡ true → A (app0 true_name) → K (app0 true_name)
  truth-known on a =
      let found = truth_found g builtins on in
      closed.made [] (app0 true_name) a (composes true_name [] (record { public_symbol = found-public g true_name 0 found; arity = found-arity g true_name 0 found })) (All-nil K)

  -- what a term is opened to is known, where f on these terms is the symbol d on the term and others
  by : (f d : List ℕ) (ts : List Tree) (h : Tree) (vs : Trees) (r : Tree) → trees_of ts ≡ more h vs → f ≡ d → CanApply g f (length ts) → All A ts → All K ts
      → (CanApply g d (length (h ∷ list_of vs)) → IsOpening g h (list_of vs) r) → K r
  by f d ts h vs r e q can a k c =
      let same_list : ts ≡ h ∷ list_of vs = sym (list_of-trees_of ts) ∙ ap list_of e in
      let can_too : CanApply g d (length (h ∷ list_of vs)) = subst (λ (ws : List Tree). CanApply g d (length ws)) same_list (subst (λ (s : List ℕ). CanApply g s (length ts)) q can) in
      let among = subst (λ (ws : List Tree). All A ws) same_list a in
      closed.opened h (list_of vs) r (All-head A h (list_of vs) among) (c can_too) (subst (λ (ws : List Tree). All K ws) same_list k)

  -- what an equation leaves of terms among A and K, by the equation
  left-known : (l r : Tree) → IsInstance (equations g) l r → (f : List ℕ) (ts : List Tree) → l ≡ apply f (trees_of ts) → CanApply g f (length ts) → All A ts → All K ts → A r → K r
  left-known _ _ (first {x} {y}) f ts e can a k h =
      by f fst_name ts (app2 pair_name x y) none x (cc) (cc) can a k (takes_first x y)
  left-known _ _ (second {x} {y}) f ts e can a k h =
      by f snd_name ts (app2 pair_name x y) none y (cc) (cc) can a k (takes_second x y)
  left-known _ _ (symmetric {m} {k = n} on) f ts e can a k h =
      by f sdec_name ts (app2 senc_name m n) (more n none) m (cc) (cc) can a k (decrypts m n on)
  left-known _ _ (asymmetric {m} {k = n} on) f ts e can a k h =
      by f adec_name ts (app2 aenc_name m (app1 pk_name n)) (more n none) m (cc) (cc) can a k (decrypts_by_secret m n on)
  left-known _ _ (signing on) f ts e can a k h = truth-known (inl on) h
  left-known _ _ (revealing on) f ts e can a k h = truth-known (inr on) h
  left-known _ _ (revealed {m} {k = n} on) f ts e can a k h =
      by f get_message_name ts (app2 reveal_sign_name m n) none m (cc) (cc) can a k (reads_signed m n on)

  -- so the normal form of a public symbol is known, where its terms are and all are among A
  pub applied-known : (f : List ℕ) (ts : List Tree) (t : Tree) → IsPublic g f → arity_of g f ≡ Some (length ts) → All K ts → All A ts → A t
      → IsNormalForm (equations g) (apply f (trees_of ts)) t → K t
  applied-known f ts t p n k a h form = at (once.side (equations g) f (trees_of ts)) where
    can : CanApply g f (length ts)
    can = record { public_symbol = p; arity = n }

    args : AreNormal (equations g) (trees_of ts)
    args = once.of_lists (equations g) ts (λ i d l. normal _ (a i d l))

    at : ((r : Tree) × IsInstance (equations g) (apply f (trees_of ts)) r) ⊎ IsNoLeftSide (equations g) (apply f (trees_of ts)) → K t
    at (inl left) =
        let reduced = once.right_side_is_form (equations g) f (trees_of ts) left.0 args left.1 in
        let here : t ≡ left.0 = one (equations g) (apply f (trees_of ts)) t left.0 form reduced in
        rw here (left-known (apply f (trees_of ts)) left.0 left.1 f ts refl can a k (subst A here h))
    at (inr own) =
        let itself = once.own_form (equations g) f (trees_of ts) args own in
        let here : t ≡ apply f (trees_of ts) = one (equations g) (apply f (trees_of ts)) t (apply f (trees_of ts)) form itself in
        rw here (closed.made ts (apply f (trees_of ts)) (subst A here h) (composes f ts can) k)

  -- what is closed under the clauses, and has the frame, is saturated
  pub closed-saturated : (frame : List Tree) → All K frame → IsSaturated g [] frame A K
  closed-saturated frame f = record {
    publics = λ n a. closed.made [] (public n) a (writes n) (All-nil K);
    names_too = λ k c a. absurd (let l = c.1 in omega arith);
    given = f;
    applied = applied-known;
  }
