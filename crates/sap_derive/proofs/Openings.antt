-- What an equation leaves: a part of the first term under the destructor, all other terms standing in that one; or `true`.
use Rattle.std.proofs.Common.{◌≡◌, ℕ, List, Some, refl, sym, ap, subst, ◌∙◌, ◌⊎◌, inl, inr}
use Rattle.std.specs.Prelude.{IsTrue, MatchOption, option_map, false}
use Rattle.sap_terms.specs.declared.signature.Symbol.{Symbol}
use Rattle.sap_terms.specs.declared.signature.Builtin.TheVariants.{Signing, RevealingSigning}
use Rattle.sap_terms.specs.Tree.{Tree, public, fresh, apply, Trees, none, more}
use Rattle.sap_terms.specs.Signature.{Sig, HoldsBuiltins, IsPublic, arity_of, find_symbol, public_symbol}
use Rattle.sap_terms.specs.Equations.{Equations, IsInstance, first, second, symmetric, asymmetric, signing, revealing, revealed, equations, app0, app1, app2, pair_name, fst_name, snd_name, senc_name, sdec_name, aenc_name, adec_name, pk_name, sign_name, verify_name, reveal_sign_name, reveal_verify_name, get_message_name, true_name}
use Rattle.sap_terms.specs.Normal.{IsNoLeftSide}
use Rattle.sap_derive.specs.Near.{IsAmong, first_one, other, IsSubterm, whole, within}

-- each of these stands in t
abbrev pub StandIn : Tree → Trees → Type 0
StandIn t none = Unit {0}
StandIn t (more u us) = IsSubterm u t × StandIn t us

-- what an instance of an equation does
pub data Opens (e : Equations) (l r : Tree) : Type 0 where
  part : (f c : List ℕ) (vs us : Trees) → l ≡ apply f (more (apply c vs) us) → IsAmong r vs → StandIn (apply c vs) us → Opens e l r
  truth : (f : List ℕ) (t : Tree) (us : Trees) → l ≡ apply f (more t us) → IsTrue e.signing ⊎ IsTrue e.revealing → r ≡ app0 true_name → Opens e l r

pub opening : (e : Equations) (l r : Tree) → IsInstance e l r → Opens e l r
opening e _ _ (first {x} {y}) = part fst_name pair_name (more x (more y none)) none refl first_one tt
opening e _ _ (second {x} {y}) = part snd_name pair_name (more x (more y none)) none refl (other first_one) tt
opening e _ _ (symmetric {m} {k} on) = part sdec_name senc_name (more m (more k none)) (more k none) refl first_one (within (other first_one) whole, tt)
opening e _ _ (asymmetric {m} {k} on) =
    part adec_name aenc_name (more m (more (app1 pk_name k) none)) (more k none) refl first_one (within (other first_one) (within first_one whole), tt)
opening e _ _ (signing {m} {k} on) = truth verify_name (app2 sign_name m k) (more m (more (app1 pk_name k) none)) refl (inl on) refl
opening e _ _ (revealing {m} {k} on) = truth reveal_verify_name (app2 reveal_sign_name m k) (more m (more (app1 pk_name k) none)) refl (inr on) refl
opening e _ _ (revealed {m} {k} on) = part get_message_name reveal_sign_name (more m (more k none)) none refl first_one tt

-- where an equation leaves `true`, it is a public symbol without terms
pub truth_found : (g : Sig) → HoldsBuiltins g → IsTrue (equations g).signing ⊎ IsTrue (equations g).revealing → find_symbol g.symbols true_name ≡ Some (public_symbol true_name 0)
truth_found g h (inl on) = (h Signing on).1.1.1.0
truth_found g h (inr on) = (h RevealingSigning on).1.1.1.1.0

pub found-public : (g : Sig) (n : List ℕ) (k : ℕ) → find_symbol g.symbols n ≡ Some (public_symbol n k) → IsPublic g n
found-public g n k h = subst (λ o. MatchOption o ⊥ (λ (s : Symbol). s.private ≡ false)) (sym h) refl

pub found-arity : (g : Sig) (n : List ℕ) (k : ℕ) → find_symbol g.symbols n ≡ Some (public_symbol n k) → arity_of g n ≡ Some k
found-arity g n k h = ap (option_map (λ (s : Symbol). s.arity)) h

-- a symbol without terms is no left side
no_left_side : (e : Equations) (f : List ℕ) (l r : Tree) → l ≡ app0 f → IsInstance e l r → ⊥
no_left_side e f l r s i = at (opening e l r i) where
  at : Opens e l r → ⊥
  at (part h c vs us p a b) = let q : apply h (more (apply c vs) us) ≡ apply f none = sym p ∙ s in absurd (cc)
  at (truth h t us p on q) = let c : apply h (more t us) ≡ apply f none = sym p ∙ s in absurd (cc)

pub constant-own : (e : Equations) (f : List ℕ) → IsNoLeftSide e (app0 f)
constant-own e f b i = no_left_side e f (app0 f) b refl i

-- nor is a leaf
pub public-own : (e : Equations) (n : List ℕ) (l b : Tree) → l ≡ public n → IsInstance e l b → ⊥
public-own e n l b s i = at (opening e l b i) where
  at : Opens e l b → ⊥
  at (part h c vs us p a q) = let d : apply h (more (apply c vs) us) ≡ public n = sym p ∙ s in absurd (cc)
  at (truth h t us p on q) = let d : apply h (more t us) ≡ public n = sym p ∙ s in absurd (cc)

pub fresh-own : (e : Equations) (k : ℕ) (l b : Tree) → l ≡ fresh k → IsInstance e l b → ⊥
fresh-own e k l b s i = at (opening e l b i) where
  at : Opens e l b → ⊥
  at (part h c vs us p a q) = let d : apply h (more (apply c vs) us) ≡ fresh k = sym p ∙ s in absurd (cc)
  at (truth h t us p on q) = let d : apply h (more t us) ≡ fresh k = sym p ∙ s in absurd (cc)
