-- Which terms stand in others, and which are near, by hand.
use Rattle.std.proofs.Common.{◌≡◌, ℕ, List, [], ◌∷◌, refl, sym, ◌⊎◌, inl, inr, arith, subst}
use Rattle.std.specs.Prelude.{Contains}
use Rattle.sap_terms.proofs.PlainLaws.Items.{first_item, later_item, item_cases, cons_cases}
use Rattle.sap_terms.specs.Tree.{Tree, fresh, apply, Trees, none, more}
use Rattle.sap_terms.specs.Equations.{app1, app2, pair_name, senc_name, pk_name}
use Rattle.sap_derive.specs.Examples.{StandingByHand, NearByHand}
use Rattle.sap_derive.specs.Near.{IsAmong, first_one, other, IsSubterm, whole, within}
use Rattle.sap_derive.proofs.Shaped.{differ}

-- what stands in a name is the name
in-fresh : (t u : Tree) (k : ℕ) → u ≡ fresh k → IsSubterm t u → t ≡ fresh k
in-fresh t _ k e whole = e
in-fresh t _ k e (within i s) = absurd (cc)

-- what stands in a symbol on terms is that, or stands in one of them
in-apply : (t u : Tree) (f : List ℕ) (ts : Trees) → u ≡ apply f ts → IsSubterm t u → (t ≡ apply f ts) ⊎ ((v : Tree) × IsAmong v ts × IsSubterm t v)
in-apply t _ f ts e whole = inl e
in-apply t _ f ts e (within {ts = us} {u = v} i s) = let q : us ≡ ts = cc in inr (v, subst (λ (x : Trees). IsAmong v x) q i, s)

-- of none
of-none : (v : Tree) (ts : Trees) → ts ≡ none → IsAmong v ts → ⊥
of-none v _ e first_one = absurd (cc)
of-none v _ e (other i) = absurd (cc)

-- one of two
of-two : (v a b : Tree) (ts : Trees) → ts ≡ more a (more b none) → IsAmong v ts → (v ≡ a) ⊎ (v ≡ b)
of-two v a b _ e first_one = inl (cc)
of-two v a b _ e (other first_one) = inr (cc)
of-two v a b _ e (other (other {ts = us} i)) = absurd (of-none v us (cc) i)

in-pair : (t a b : Tree) (f : List ℕ) → IsSubterm t (app2 f a b) → (t ≡ app2 f a b) ⊎ (IsSubterm t a ⊎ IsSubterm t b)
in-pair t a b f s = at (in-apply t (app2 f a b) f (more a (more b none)) refl s) where
  at : (t ≡ app2 f a b) ⊎ ((v : Tree) × IsAmong v (more a (more b none)) × IsSubterm t v) → (t ≡ app2 f a b) ⊎ (IsSubterm t a ⊎ IsSubterm t b)
  at (inl e) = inl e
  at (inr v) =
      elim (of-two v.0 a b (more a (more b none)) refl v.1)
      [ inl e ↦ inr (inl (subst (λ (x : Tree). IsSubterm t x) e v.2)) | inr e ↦ inr (inr (subst (λ (x : Tree). IsSubterm t x) e v.2)) ]

-- a symbol on terms stands in no encryption of names but that itself
not-in-secret : (f : List ℕ) (ts : Trees) → ¬ (apply f ts ≡ app2 senc_name (fresh 2) (fresh 3)) → IsSubterm (apply f ts) (app2 senc_name (fresh 2) (fresh 3)) → ⊥
not-in-secret f ts differs s = at (in-pair (apply f ts) (fresh 2) (fresh 3) senc_name s) where
  at : (apply f ts ≡ app2 senc_name (fresh 2) (fresh 3)) ⊎ (IsSubterm (apply f ts) (fresh 2) ⊎ IsSubterm (apply f ts) (fresh 3)) → ⊥
  at (inl e) = differs e
  at (inr (inl i)) = let e = in-fresh (apply f ts) (fresh 2) 2 refl i in absurd (cc)
  at (inr (inr i)) = let e = in-fresh (apply f ts) (fresh 3) 3 refl i in absurd (cc)

pub not-fresh : (i j : ℕ) → ¬ (i ≡ j) → ¬ (fresh i ≡ fresh j)
not-fresh i j n e = n (cc)

pub standing-by_hand : StandingByHand
standing-by_hand = record {
  inside = within (other first_one) (within first_one whole);
  itself = whole;
  no_part = λ s.
      elim (in-pair (app2 pair_name (fresh 1) (fresh 2)) (fresh 1) (app2 senc_name (fresh 2) (fresh 3)) pair_name s) [
        | inl e ↦ (let q : fresh 2 ≡ app2 senc_name (fresh 2) (fresh 3) = cc in absurd (cc))
        | inr h ↦ elim h [
          | inl i ↦ (let e = in-fresh (app2 pair_name (fresh 1) (fresh 2)) (fresh 1) 1 refl i in absurd (cc))
          | inr i ↦ not-in-secret pair_name (more (fresh 1) (more (fresh 2) none)) (λ e. differ pair_name senc_name refl refl (cc)) i
        ]
      ];
  no_leaf = λ s.
      elim (in-pair (fresh 4) (fresh 2) (fresh 3) senc_name s) [
        | inl e ↦ absurd (cc)
        | inr h ↦ elim h [
          | inl i ↦ not-fresh 4 2 (λ e. omega arith) (in-fresh (fresh 4) (fresh 2) 2 refl i)
          | inr i ↦ not-fresh 4 3 (λ e. omega arith) (in-fresh (fresh 4) (fresh 3) 3 refl i)
        ]
      ];
  not_above = λ s. (let e = in-fresh (app1 pk_name (fresh 1)) (fresh 1) 1 refl s in absurd (cc));
}

pub near-by_hand : NearByHand
near-by_hand = record {
  near = record { above = fresh 3; among = later_item (fresh 2) (app2 senc_name (fresh 2) (fresh 3) ∷ fresh 3 ∷ []) (fresh 3) (later_item (app2 senc_name (fresh 2) (fresh 3)) (fresh 3 ∷ []) (fresh 3) (first_item (fresh 3) [])); stands = whole };
  far = λ n. far n.above n.among n.stands;
} where
  far : (u : Tree) → Contains (fresh 2 ∷ app2 senc_name (fresh 2) (fresh 3) ∷ fresh 3 ∷ []) u → IsSubterm (app1 pk_name (fresh 3)) u → ⊥
  far u c s = at (cons_cases (fresh 2) (app2 senc_name (fresh 2) (fresh 3) ∷ fresh 3 ∷ []) u c) where
    in_leaf : (k : ℕ) → u ≡ fresh k → ⊥
    in_leaf k e = let q = in-fresh (app1 pk_name (fresh 3)) u k e s in absurd (cc)

    in_secret : app2 senc_name (fresh 2) (fresh 3) ≡ u → ⊥
    in_secret e = not-in-secret pk_name (more (fresh 3) none) (λ q. differ pk_name senc_name refl refl (cc)) (subst (λ (x : Tree). IsSubterm (app1 pk_name (fresh 3)) x) (sym e) s)

    at : (fresh 2 ≡ u) ⊎ Contains (app2 senc_name (fresh 2) (fresh 3) ∷ fresh 3 ∷ []) u → ⊥
    at (inl e) = in_leaf 2 (sym e)
    at (inr d) =
        elim (cons_cases (app2 senc_name (fresh 2) (fresh 3)) (fresh 3 ∷ []) u d)
        [ inl e ↦ in_secret e | inr d ↦ in_leaf 3 (sym (item_cases (fresh 3) u d)) ]
