-- What is made of saturated terms by symbols alone: all that is deducible, and among the terms asked of nothing new.
use Rattle.std.proofs.Common.{◌≡◌, ℕ, true, List, [], ◌∷◌, length, Some, refl, sym, ap, subst, ◌∙◌, ◌⊎◌, inl, inr}
use Rattle.std.specs.Prelude.{All, Contains}
use Rattle.std.proofs.lemmas.List.Elements.{All-nil, All-cons, All-head, All-tail, All-contains, All-weaker}
use Rattle.sap_terms.specs.Tree.{Tree, public, fresh, apply, Trees, none, more, trees_of, list_of, list_of-trees_of, trees_of-list_of}
use Rattle.sap_terms.specs.Signature.{Sig, IsPublic, arity_of, HoldsBuiltins}
use Rattle.sap_terms.specs.Equations.{equations, IsInstance, app0, true_name}
use Rattle.sap_terms.specs.Equal.{same}
use Rattle.sap_terms.specs.Normal.{IsNormal, AreNormal, IsNoLeftSide, IsNormalForm}
use Rattle.sap_terms.specs.Deduce.{IsDerived, a_public, a_name, given, applied, IsDerivation, IsDeducible}
use Rattle.sap_rewrite.specs.Laws.{FormIsOne, SymbolsReduceOnce}
use Rattle.sap_derive.specs.Near.{IsAmong, first_one, other, IsSubterm, whole, within}
use Rattle.sap_derive.specs.code.Saturated.{HaveParts, IsSaturated}
use Rattle.sap_derive.proofs.Openings.{Opens, part, truth, opening, StandIn, truth_found, found-public, found-arity, constant-own, public-own, fresh-own}

mutual
  -- among A and K; a public name, or one of the names; or a public symbol that no equation reduces, on such terms
  pub data IsMade (g : Sig) (names : List ℕ) (A K : Tree → Type 0) : Tree → Type 0 where
    known : {t : Tree} → A t → K t → IsMade g names A K t
    of_public : (n : List ℕ) → IsMade g names A K (public n)
    of_name : (k : ℕ) → Contains names k → IsMade g names A K (fresh k)
    composed : (f : List ℕ) (ts : Trees) → IsPublic g f → arity_of g f ≡ Some (length (list_of ts)) → IsNoLeftSide (equations g) (apply f ts)
        → AreMade g names A K ts → IsMade g names A K (apply f ts)

  pub data AreMade (g : Sig) (names : List ℕ) (A K : Tree → Type 0) : Trees → Type 0 where
    no_more : AreMade g names A K none
    one_more : {t : Tree} {ts : Trees} → IsMade g names A K t → AreMade g names A K ts → AreMade g names A K (more t ts)

module _ (one : FormIsOne) (once : SymbolsReduceOnce) (g : Sig) (names : List ℕ) (frame : List Tree) (A K : Tree → Type 0) (builtins : HoldsBuiltins g) (parts : HaveParts A) (normal : (t : Tree) → A t → IsNormal (equations g) t) (sent : All A frame) (full : IsSaturated g names frame A K) where
  abbrev Made : Tree → Type 0
  Made = IsMade g names A K

  abbrev AllMade : Trees → Type 0
  AllMade = AreMade g names A K

  -- of each of these
  made-all : (ts : Trees) → AllMade ts → All Made (list_of ts)
  made-all _ no_more = All-nil Made
  made-all _ (one_more {t} {ts} m ms) = All-cons Made t (list_of ts) m (made-all ts ms)

  all-made : (ts : List Tree) → All Made ts → AllMade (trees_of ts)
  all-made [] h = no_more
  all-made (t ∷ ts) h = one_more (All-head Made t ts h) (all-made ts (All-tail Made t ts h))

  among-made : (t : Tree) (ts : Trees) → IsAmong t ts → AllMade ts → Made t
  among-made t _ first_one (one_more m ms) = m
  among-made t _ (other {ts = ts} a) (one_more m ms) = among-made t ts a ms

  -- the parts of what is among A are
  all_parts : (f : List ℕ) (ts us : Trees) → A (apply f ts) → ((u : Tree) → IsAmong u us → IsAmong u ts) → All A (list_of us)
  all_parts f ts none a into = All-nil A
  all_parts f ts (more u us) a into =
      All-cons A u (list_of us) (parts f ts u a (into u first_one)) (all_parts f ts us a (λ v i. into v (other i)))

  subterm-among : (t u : Tree) → IsSubterm t u → A u → A t
  subterm-among t _ whole a = a
  subterm-among t _ (within {f} {ts} {u} i s) a = subterm-among t u s (parts f ts u a i)

  mutual
    -- what is made is normal
    made-normal : (t : Tree) → Made t → IsNormal (equations g) t
    made-normal t (known a k) = normal t a
    made-normal _ (of_public n) = λ b i. public-own (equations g) n (public n) b refl i
    made-normal _ (of_name k c) = λ b i. fresh-own (equations g) k (fresh k) b refl i
    made-normal _ (composed f ts p a n ms) = (n, all_made-normal ts ms)

    all_made-normal : (ts : Trees) → AllMade ts → AreNormal (equations g) ts
    all_made-normal _ no_more = tt
    all_made-normal _ (one_more {t} {ts} m ms) = (made-normal t m, all_made-normal ts ms)

  mutual
    -- among A nothing is made but K
    made-known : (t : Tree) → Made t → A t → K t
    made-known t (known a k) h = k
    made-known _ (of_public n) h = full.publics n h
    made-known _ (of_name k c) h = full.names_too k c h
    made-known _ (composed f ts p a n ms) h =
        let form : IsNormalForm (equations g) (apply f ts) (apply f ts) = record { equal = same; normal = normal (apply f ts) h } in
        let all : All A (list_of ts) = all_parts f ts ts h (λ u i. i) in
        full.applied f (list_of ts) (apply f ts) p a (all_made-known ts ms all) all h (rw (trees_of-list_of ts) form)

    all_made-known : (ts : Trees) → AllMade ts → All A (list_of ts) → All K (list_of ts)
    all_made-known _ no_more h = All-nil K
    all_made-known _ (one_more {t} {ts} m ms) h =
        All-cons K t (list_of ts) (made-known t m (All-head A t (list_of ts) h)) (all_made-known ts ms (All-tail A t (list_of ts) h))

  -- a part of a made term is known where the term is, and else made
  made-part : (t : Tree) → Made t → (c : List ℕ) (vs : Trees) → t ≡ apply c vs → A t × K t ⊎ AllMade vs
  made-part t (known a k) c vs e = inl (a, k)
  made-part _ (of_public n) c vs e = absurd (cc)
  made-part _ (of_name k i) c vs e = absurd (cc)
  made-part _ (composed f ts p a n ms) c vs e = let same_parts : ts ≡ vs = cc in inr (subst AllMade same_parts ms)

  -- `true` is made where an equation leaves it
  truth-made : (equations g).signing ≡ true ⊎ (equations g).revealing ≡ true → Made (app0 true_name)
  truth-made on =
      let found = truth_found g builtins on in
      composed true_name none (found-public g true_name 0 found) (found-arity g true_name 0 found) (constant-own (equations g) true_name) no_more

  -- terms that stand in one that is among A and are made are known
  standing-known : (t : Tree) (us : Trees) → A t → StandIn t us → AllMade us → All A (list_of us) × All K (list_of us)
  standing-known t none a s m = (All-nil A, All-nil K)
  standing-known t (more u us) a s (one_more m ms) =
      let below : A u = subterm-among u t s.0 a in
      let rest = standing-known t us a s.1 ms in
      (All-cons A u (list_of us) below rest.0, All-cons K u (list_of us) (made-known u m below) rest.1)

  -- what an equation leaves of a public symbol on made terms is made
  opened-made : (f : List ℕ) (ts : List Tree) (r : Tree) → IsPublic g f → arity_of g f ≡ Some (length ts) → AllMade (trees_of ts)
      → IsInstance (equations g) (apply f (trees_of ts)) r → IsNormalForm (equations g) (apply f (trees_of ts)) r → Made r
  opened-made f ts r p n ms i form = at (opening (equations g) (apply f (trees_of ts)) r i) where
    at : Opens (equations g) (apply f (trees_of ts)) r → Made r
    at (truth h t us e on q) = rw q (truth-made on)
    at (part h c vs us e a s) =
        let shape : trees_of ts ≡ more (apply c vs) us = cc in
        let list : ts ≡ apply c vs ∷ list_of us = sym (list_of-trees_of ts) ∙ ap list_of shape in
        go list (subst AllMade shape ms) where
          go : ts ≡ apply c vs ∷ list_of us → AllMade (more (apply c vs) us) → Made r
          go list (one_more m rest) = from (made-part (apply c vs) m c vs refl) where
            from : A (apply c vs) × K (apply c vs) ⊎ AllMade vs → Made r
            from (inr made) = among-made r vs a made
            from (inl k) =
                let others = standing-known (apply c vs) us k.0 s rest in
                let here : A r = parts c vs r k.0 a in
                let all_a : All A ts = rw list (All-cons A (apply c vs) (list_of us) k.0 others.0) in
                let all_k : All K ts = rw list (All-cons K (apply c vs) (list_of us) k.1 others.1) in
                known here (full.applied f ts r p n all_k all_a here form)

  -- so is its normal form, whether an equation reduces it or not
  applied-made : (f : List ℕ) (ts : List Tree) (t : Tree) → IsPublic g f → arity_of g f ≡ Some (length ts) → All Made ts
      → IsNormalForm (equations g) (apply f (trees_of ts)) t → Made t
  applied-made f ts t p n m form = at (once.side (equations g) f (trees_of ts)) where
    ms : AllMade (trees_of ts)
    ms = all-made ts m

    at : ((r : Tree) × IsInstance (equations g) (apply f (trees_of ts)) r) ⊎ IsNoLeftSide (equations g) (apply f (trees_of ts)) → Made t
    at (inl left) =
        let reduced = once.right_side_is_form (equations g) f (trees_of ts) left.0 (all_made-normal (trees_of ts) ms) left.1 in
        let same_form : t ≡ left.0 = one (equations g) (apply f (trees_of ts)) t left.0 form reduced in
        rw same_form (opened-made f ts left.0 p n ms left.1 reduced)
    at (inr own) =
        let itself = once.own_form (equations g) f (trees_of ts) (all_made-normal (trees_of ts) ms) own in
        let same_form : t ≡ apply f (trees_of ts) = one (equations g) (apply f (trees_of ts)) t (apply f (trees_of ts)) form itself in
        rw same_form (composed f (trees_of ts) p (n ∙ ap Some (ap length (sym (list_of-trees_of ts)))) own ms)

  -- what is derived from made terms is made
  derived-made : (earlier : List Tree) (t : Tree) → All Made earlier → IsDerived g names frame earlier t → Made t
  derived-made earlier t m (a_public n e) = rw e (of_public n)
  derived-made earlier t m (a_name k c e) = rw e (of_name k c)
  derived-made earlier t m (given c) = known (All-contains A frame t sent c) (All-contains K frame t full.given c)
  derived-made earlier t m (applied f ts p n c form) =
      applied-made f ts t p n (All-weaker (Contains earlier) Made (λ u i. All-contains Made earlier u m i) ts c) form

  derivation-made : (ts : List Tree) → IsDerivation g names frame ts → All Made ts
  derivation-made [] d = All-nil Made
  derivation-made (t ∷ ts) d = let rest = derivation-made ts d.1 in All-cons Made t ts (derived-made ts t rest d.0) rest

  -- among A all that is deducible is K
  pub deduced-known : (t : Tree) → A t → IsDeducible g names frame t → K t
  deduced-known t a d =
      let own : IsNormalForm (equations g) t t = record { equal = same; normal = normal t a } in
      let here : d.form ≡ t = one (equations g) t d.form t d.is_form own in
      made-known t (subst Made here (All-head Made d.form d.earlier (derivation-made (d.form ∷ d.earlier) d.derivation))) a
