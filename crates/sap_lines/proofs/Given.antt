-- What the adversary can give.
use Rattle.std.proofs.Common.{◌≡◌, ℕ, List, [], ◌∷◌, ◌++◌, length, Some, refl, subst}
use Rattle.std.specs.Prelude.{All, Contains, slice_index_or}
use Rattle.std.proofs.Common.{inl, inr}
use Rattle.std.proofs.lemmas.List.Elements.{All-nil, All-cons, All-head, All-tail, Contains-push, Contains-append_left, Contains-append_right, Contains-push_cases}
use Rattle.sap_terms.specs.Deduce.{IsDerived, a_public, a_name, given, applied, IsDerivation}
use Rattle.sap_terms.specs.Equal.{same}
use Rattle.sap_terms.specs.Equations.{equations}
use Rattle.sap_terms.specs.Laws.{LeavesAreNormal}
use Rattle.sap_terms.specs.Normal.{IsNormal, IsNormalForm}
use Rattle.sap_terms.specs.Signature.{Sig, IsPublic, arity_of}
use Rattle.sap_terms.specs.Tree.{Tree, public, fresh, apply, trees_of}
use Rattle.sap_rewrite.specs.Laws.{FormIsOne}
use Rattle.sap_process.specs.Configuration.{Config, CanGive}
use Rattle.sap_lines.specs.Runs.{CanGiveEach}

-- more names, a longer frame, more before
derived_grows : (g : Sig) (names more_names : List ℕ) (frame more_frame earlier more_earlier : List Tree) (t : Tree) → ((n : ℕ) → Contains names n → Contains more_names n) → ((x : Tree) → Contains frame x → Contains more_frame x) → ((x : Tree) → Contains earlier x → Contains more_earlier x) → IsDerived g names frame earlier t → IsDerived g more_names more_frame more_earlier t
derived_grows g names more_names frame more_frame earlier more_earlier t h k l (a_public n e) = a_public n e
derived_grows g names more_names frame more_frame earlier more_earlier t h k l (a_name j m e) = a_name j (h j m) e
derived_grows g names more_names frame more_frame earlier more_earlier t h k l (given m) = given (k t m)
derived_grows g names more_names frame more_frame earlier more_earlier t h k l (applied f ts p a all n) = applied f ts p a (λ j d below. l (slice_index_or ts j d) (all j d below)) n

derivation_grows : (g : Sig) (names more_names : List ℕ) (frame more_frame ts : List Tree) → ((n : ℕ) → Contains names n → Contains more_names n) → ((x : Tree) → Contains frame x → Contains more_frame x) → IsDerivation g names frame ts → IsDerivation g more_names more_frame ts
derivation_grows g names more_names frame more_frame [] h k d = tt
derivation_grows g names more_names frame more_frame (t ∷ ts) h k d =
    (derived_grows g names more_names frame more_frame ts ts t h k (λ x m. m) d.0, derivation_grows g names more_names frame more_frame ts h k d.1)

-- two derivations are one, the second before the first
derivations_join : (g : Sig) (names : List ℕ) (frame ts us : List Tree) → IsDerivation g names frame ts → IsDerivation g names frame us → IsDerivation g names frame (ts ++ us)
derivations_join g names frame [] us d e = e
derivations_join g names frame (t ∷ ts) us d e =
    (derived_grows g names names frame frame ts (ts ++ us) t (λ n m. m) (λ x m. m) (λ x m. Contains-append_left ts us x m) d.0, derivations_join g names frame ts us d.1 e)

-- with more names and a longer frame it can give as much
pub gives_more : (g : Sig) (c d : Config) (es : List Tree) → ((n : ℕ) → Contains c.own n → Contains d.own n) → ((x : Tree) → Contains c.frame x → Contains d.frame x) → CanGiveEach g c es → CanGiveEach g d es
gives_more g c d es h k e x m =
    let old = e x m in
    let r = old.deducible in
    record {
      deducible = record {
        form = r.form;
        is_form = r.is_form;
        earlier = r.earlier;
        derivation = derivation_grows g c.own d.own c.frame d.frame (r.form ∷ r.earlier) h k r.derivation;
      };
      normal = old.normal;
    }

-- a derivation that has these terms
record Derives (g : Sig) (c : Config) (ts : List Tree) : Type 0 where
  all : List Tree
  derivation : IsDerivation g c.own c.frame all
  has : All (Contains all) ts

derive_all : FormIsOne → (g : Sig) (c : Config) (ts : List Tree) → All (CanGive g c) ts → Derives g c ts
derive_all one_form g c [] h = record { all = []; derivation = tt; has = All-nil (Contains []) }
derive_all one_form g c (t ∷ ts) h =
    let first = All-head (CanGive g c) t ts h in
    let rest = derive_all one_form g c ts (All-tail (CanGive g c) t ts h) in
    let r = first.deducible in
    let is : r.form ≡ t = one_form (equations g) t r.form t r.is_form (record { equal = same; normal = first.normal }) in
    let mine : List Tree = r.form ∷ r.earlier in
    record {
      all = mine ++ rest.all;
      derivation = derivations_join g c.own c.frame mine rest.all r.derivation rest.derivation;
      has = All-cons (Contains (mine ++ rest.all)) t ts (Contains-append_left mine rest.all t (subst (Contains mine) is (here r.form r.earlier)))
          (λ k d below. Contains-append_right mine rest.all (slice_index_or ts k d) (rest.has k d below));
    }
  where
    here : (x : Tree) (xs : List Tree) → Contains (x ∷ xs) x
    here x xs = Contains-append_left (x ∷ []) xs x (Contains-push [] x)

-- one entry more, which is derived
pub gives_push : (g : Sig) (c : Config) (es : List Tree) (y : Tree) → CanGiveEach g c es → CanGive g c y → CanGiveEach g c (es ++ y ∷ [])
gives_push g c es y e h x m = elim (Contains-push_cases es y x m) [ inl k ↦ e x k | inr is ↦ subst (CanGive g c) is h ]

gives_derived : (g : Sig) (c : Config) (before : List Tree) (y : Tree) → IsDerivation g c.own c.frame before → IsDerived g c.own c.frame before y → IsNormal (equations g) y → CanGive g c y
gives_derived g c before y d h n =
    record { deducible = record { form = y; is_form = record { equal = same; normal = n }; earlier = before; derivation = (h, d) }; normal = n }

pub gives_public : LeavesAreNormal → (g : Sig) (c : Config) (a : List ℕ) → CanGive g c (public a)
gives_public leaves g c a = gives_derived g c [] (public a) tt (a_public a refl) (leaves.of_public_name (equations g) a)

pub gives_name : LeavesAreNormal → (g : Sig) (c : Config) (n : ℕ) → Contains c.own n → CanGive g c (fresh n)
gives_name leaves g c n m = gives_derived g c [] (fresh n) tt (a_name n m refl) (leaves.of_fresh_name (equations g) n)

pub gives_sent : (g : Sig) (c : Config) (y : Tree) → Contains c.frame y → IsNormal (equations g) y → CanGive g c y
gives_sent g c y m n = gives_derived g c [] y tt (given m) n

pub gives_applied : FormIsOne → (g : Sig) (c : Config) (f : List ℕ) (ts : List Tree) (y : Tree) → IsPublic g f → arity_of g f ≡ Some (length ts) → All (CanGive g c) ts → IsNormalForm (equations g) (apply f (trees_of ts)) y → CanGive g c y
gives_applied one_form g c f ts y p a all form =
    let d = derive_all one_form g c ts all in
    gives_derived g c d.all y d.derivation (applied f ts p a d.has form) form.normal
