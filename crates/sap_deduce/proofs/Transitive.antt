-- What is deducible from terms that are deducible is deducible.
use Rattle.std.proofs.Common.{◌≡◌, ℕ, zero, suc, List, [], ◌∷◌, ◌++◌, Some, slice_get, sym, ap, subst, ◌∙◌, arith}
use Rattle.std.specs.Prelude.{All, Contains}
use Rattle.std.proofs.lemmas.List.Elements.{All-nil, All-cons, All-head, All-tail, All-contains, All-weaker, Contains-append_left, Contains-append_right, Contains-push}
use Rattle.std.proofs.lemmas.Option.{slice_get-get_or}
use Rattle.sap_terms.specs.Tree.{Tree}
use Rattle.sap_terms.specs.Signature.{Sig}
use Rattle.sap_terms.specs.Equations.{equations}
use Rattle.sap_terms.specs.Equal.{same}
use Rattle.sap_terms.specs.Normal.{IsNormal, IsNormalForm}
use Rattle.sap_terms.specs.Deduce.{IsDerived, a_public, a_name, given, applied, IsDerivation, IsDeducible}
use Rattle.sap_rewrite.specs.Laws.{FormIsOne}
use Rattle.sap_deduce.specs.Deducing.{HasAllOf, DeducedIsDeducible, DeducibleFromAll}

-- the term that stands first is contained
first_contained : (ts : List Tree) (t : Tree) → Contains (t ∷ ts) t
first_contained ts t = Contains-append_left (t ∷ []) ts t (Contains-push [] t)

module _ (g : Sig) (names : List ℕ) (frame : List Tree) where
  -- what is derived from some terms is derived from more
  derived_more : (ts us : List Tree) (t : Tree) → ((u : Tree) → Contains ts u → Contains us u) → IsDerived g names frame ts t → IsDerived g names frame us t
  derived_more ts us t into (a_public n e) = a_public n e
  derived_more ts us t into (a_name k c e) = a_name k c e
  derived_more ts us t into (given c) = given c
  derived_more ts us t into (applied f vs p n c form) = applied f vs p n (All-weaker (Contains ts) (Contains us) into vs c) form

  -- two derivations are one
  derivations_join : (ts us : List Tree) → IsDerivation g names frame ts → IsDerivation g names frame us → IsDerivation g names frame (ts ++ us)
  derivations_join [] us d e = e
  derivations_join (t ∷ ts) us d e = (derived_more ts (ts ++ us) t (λ u c. Contains-append_left ts us u c) d.0, derivations_join ts us d.1 e)

module _ (one : FormIsOne) (g : Sig) (names : List ℕ) (frame : List Tree) where
  -- some derivation has all of these
  record Has (ts : List Tree) : Type 0 where
    before : List Tree
    derivation : IsDerivation g names frame before
    here : All (Contains before) ts

  has_more : (t : Tree) (ts : List Tree) → IsNormal (equations g) t → IsDeducible g names frame t → Has ts → Has (t ∷ ts)
  has_more t ts n d h =
      let own : IsNormalForm (equations g) t t = record { equal = same; normal = n } in
      let is : d.form ≡ t = one (equations g) t d.form t d.is_form own in
      let both : List Tree = (d.form ∷ d.earlier) ++ h.before in
      record {
        before = both;
        derivation = derivations_join g names frame (d.form ∷ d.earlier) h.before d.derivation h.derivation;
        here = All-cons (Contains both) t ts
            (subst (Contains both) is (Contains-append_left (d.form ∷ d.earlier) h.before d.form (first_contained d.earlier d.form)))
            (All-weaker (Contains h.before) (Contains both) (λ u c. Contains-append_right (d.form ∷ d.earlier) h.before u c) ts h.here);
      }

  -- some derivation has all of these, where they are normal and deducible
  has_all : (ts : List Tree) → All (IsNormal (equations g)) ts → All (IsDeducible g names frame) ts → Has ts
  has_all [] n d = record { before = []; derivation = tt; here = All-nil (Contains []) }
  has_all (t ∷ ts) n d =
      has_more t ts (All-head (IsNormal (equations g)) t ts n) (All-head (IsDeducible g names frame) t ts d)
      (has_all ts (All-tail (IsNormal (equations g)) t ts n) (All-tail (IsDeducible g names frame) t ts d))

  -- a derivation that has these terms, and those that are derived from them
  record Goes (fs ts : List Tree) : Type 0 where
    all : List Tree
    derivation : IsDerivation g names frame all
    has : All (Contains all) fs
    has_too : All (Contains all) ts

  -- one term more
  goes_more : (fs ts : List Tree) (t : Tree) → IsDerived g [] fs ts t → Goes fs ts → Goes fs (t ∷ ts)
  goes_more fs ts t d h = at d where
    more_of : (us : List Tree) → All (Contains h.all) us → All (Contains (t ∷ h.all)) us
    more_of us c = All-weaker (Contains h.all) (Contains (t ∷ h.all)) (λ u i. Contains-append_right (t ∷ []) h.all u i) us c

    adds : IsDerived g names frame h.all t → Goes fs (t ∷ ts)
    adds e = record {
      all = t ∷ h.all;
      derivation = (e, h.derivation);
      has = more_of fs h.has;
      has_too = All-cons (Contains (t ∷ h.all)) t ts (first_contained h.all t) (more_of ts h.has_too);
    }

    at : IsDerived g [] fs ts t → Goes fs (t ∷ ts)
    at (a_public n e) = adds (a_public n e)
    at (a_name k c e) = absurd (let l = c.1 in omega arith)
    at (given c) = record { all = h.all; derivation = h.derivation; has = h.has; has_too = All-cons (Contains h.all) t ts (All-contains (Contains h.all) fs t h.has c) h.has_too }
    at (applied f vs p n c form) =
        adds (applied f vs p n (All-weaker (Contains ts) (Contains h.all) (λ u i. All-contains (Contains h.all) ts u h.has_too i) vs c) form)

  goes : (fs ts : List Tree) → Has fs → IsDerivation g [] fs ts → Goes fs ts
  goes fs [] h d = record { all = h.before; derivation = h.derivation; has = h.here; has_too = All-nil (Contains h.before) }
  goes fs (t ∷ ts) h d = goes_more fs ts t d.0 (goes fs ts h d.1)

  -- the derivation up to a term that it has
  up_to : (all : List Tree) (k : ℕ) (t : Tree) → slice_get all k ≡ Some t → IsDerivation g names frame all → (before : List Tree) × IsDerivation g names frame (t ∷ before)
  up_to [] k t e d = absurd (cc)
  up_to (u ∷ us) zero t e d = let s : u ≡ t = cc in (us, subst (λ v. IsDerivation g names frame (v ∷ us)) s d)
  up_to (u ∷ us) (suc k) t e d = up_to us k t e d.1

  through : (fs : List Tree) (t : Tree) → All (IsNormal (equations g)) fs → All (IsDeducible g names frame) fs → IsDeducible g [] fs t → IsDeducible g names frame t
  through fs t n d e =
      let h = goes fs (e.form ∷ e.earlier) (has_all fs n d) e.derivation in
      let c = All-head (Contains h.all) e.form e.earlier h.has_too in
      let found = up_to h.all c.0 e.form (slice_get-get_or h.all c.0 e.form c.1 ∙ ap Some c.2) h.derivation in
      record { form = e.form; is_form = e.is_form; earlier = found.0; derivation = found.1 }

pub deduced_is_deducible : FormIsOne → DeducedIsDeducible
deduced_is_deducible one g names frame ts t n d e = through one g names frame ts t n d e

-- the same terms, each of which comes from these as it came from names and a frame
from_all : (g : Sig) (names : List ℕ) (frame fs ts : List Tree) → HasAllOf names frame fs → IsDerivation g names frame ts → IsDerivation g [] fs ts
from_all g names frame fs [] h d = tt
from_all g names frame fs (t ∷ ts) h d = (at d.0, from_all g names frame fs ts h d.1) where
  at : IsDerived g names frame ts t → IsDerived g [] fs ts t
  at (a_public n e) = a_public n e
  at (a_name k c e) = given (subst (Contains fs) (sym e) (h.has_names k c))
  at (given c) = given (All-contains (Contains fs) frame t h.has_frame c)
  at (applied f vs p n c form) = applied f vs p n c form

pub deducible_from_all : DeducibleFromAll
deducible_from_all g names frame ts t h d =
    record { form = d.form; is_form = d.is_form; earlier = d.earlier; derivation = from_all g names frame ts (d.form ∷ d.earlier) h d.derivation }
