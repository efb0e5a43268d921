-- What is deducible is derived near.
use Rattle.std.proofs.Common.{◌≡◌, ℕ, List, [], ◌∷◌, ◌++◌, refl}
use Rattle.std.specs.Prelude.{All, Contains}
use Rattle.std.proofs.lemmas.List.Elements.{All-nil, All-cons, All-head, All-tail, All-append, All-weaker, All-contains, All-contains_itself, Contains-append_left, Contains-append_right, Contains-push}
use Rattle.sap_terms.specs.Tree.{Tree, public, fresh, apply, Trees}
use Rattle.sap_terms.specs.Signature.{Sig}
use Rattle.sap_terms.specs.Equations.{equations}
use Rattle.sap_terms.specs.Normal.{IsNormal, AreNormal}
use Rattle.sap_terms.specs.Deduce.{IsDerived, a_public, a_name, given, applied, IsDerivation}
use Rattle.sap_derive.specs.Near.{IsAmong, first_one, other, IsSubterm, whole, within, IsNear, DerivationsStayNear}
use Rattle.sap_derive.specs.code.Saturated.{HaveParts, IsSaturated}
use Rattle.sap_rewrite.specs.Laws.{FormIsOne, SymbolsReduceOnce}
use Rattle.sap_derive.proofs.Made.{deduced-known}
use Rattle.sap_derive.proofs.Joined.{derivation-append}

-- a part of a subterm is a subterm
pub part-stands : (f : List ℕ) (ts : Trees) (t v u : Tree) → v ≡ apply f ts → IsAmong t ts → IsSubterm v u → IsSubterm t u
part-stands f ts t v u e i whole = rw e (within i whole)
part-stands f ts t v _ e i (within {u = w} j s) = within j (part-stands f ts t v w e i s)

-- subterms of normal terms are normal
among-normal : (e : _) (t : Tree) (ts : Trees) → IsAmong t ts → AreNormal e ts → IsNormal e t
among-normal e t _ first_one n = n.0
among-normal e t _ (other i) n = among-normal e t _ i n.1

pub stands-normal : (e : _) (t u : Tree) → IsSubterm t u → IsNormal e u → IsNormal e t
stands-normal e t _ whole n = n
stands-normal e t _ (within {u = u} i s) n = stands-normal e t u s (among-normal e u _ i n.1)

module _ (g : Sig) (names : List ℕ) (frame : List Tree) (goal : Tree) where
  abbrev Near : Tree → Type 0
  Near = IsNear frame goal

  pub near-parts : HaveParts Near
  near-parts f ts t a i = record { above = a.above; among = a.among; stands = part-stands f ts t (apply f ts) a.above refl i a.stands }

  pub near-frame : All Near frame
  near-frame = All-weaker (Contains frame) Near (λ u c. record { above = u; among = Contains-append_right (goal ∷ []) frame u c; stands = whole }) frame (All-contains_itself frame)

  pub near-goal : Near goal
  near-goal = record { above = goal; among = Contains-append_left (goal ∷ []) frame goal (Contains-push [] goal); stands = whole }

  -- a derivation of near terms that ends in this one
  record Reached (t : Tree) : Type 0 where
    earlier : List Tree
    derivation : IsDerivation g names frame (t ∷ earlier)
    near : All Near (t ∷ earlier)

  -- those of several terms in one
  record AllReached (ts : List Tree) : Type 0 where
    before : List Tree
    derivation : IsDerivation g names frame before
    near : All Near before
    here : All (Contains before) ts

  all-reached : (ts : List Tree) → All Reached ts → AllReached ts
  all-reached [] h = record { before = []; derivation = tt; near = All-nil Near; here = All-nil (Contains []) }
  all-reached (t ∷ ts) h =
      let first = All-head Reached t ts h in
      let rest = all-reached ts (All-tail Reached t ts h) in
      let both : List Tree = (t ∷ first.earlier) ++ rest.before in
      record {
        before = both;
        derivation = derivation-append g names frame (t ∷ first.earlier) rest.before first.derivation rest.derivation;
        near = All-append Near (t ∷ first.earlier) rest.before first.near rest.near;
        here = All-cons (Contains both) t ts
            (Contains-append_left (t ∷ first.earlier) rest.before t (Contains-append_left (t ∷ []) first.earlier t (Contains-push [] t)))
            (All-weaker (Contains rest.before) (Contains both) (λ u c. Contains-append_right (t ∷ first.earlier) rest.before u c) ts rest.here);
      }

  alone : (t : Tree) → Near t → IsDerived g names frame [] t → Reached t
  alone t a d = record { earlier = []; derivation = (d, tt); near = All-cons Near t [] a (All-nil Near) }

  reached-saturated : IsSaturated g names frame Near Reached
  reached-saturated = record {
    publics = λ n a. alone (public n) a (a_public n refl);
    names_too = λ k c a. alone (fresh k) a (a_name k c refl);
    given = All-weaker (Contains frame) Reached (λ u c. alone u (All-contains Near frame u near-frame c) (given c)) frame (All-contains_itself frame);
    applied = λ f ts t p n k a here form.
        let all = all-reached ts k in
        record {
          earlier = all.before;
          derivation = (applied f ts p n all.here form, all.derivation);
          near = All-cons Near t all.before here all.near;
        };
  }

pub derivations-stay-near : FormIsOne → SymbolsReduceOnce → DerivationsStayNear
derivations-stay-near one once g names frame goal builtins sent normal d =
    let reached = deduced-known one once g names frame (IsNear frame goal) (Reached g names frame goal) builtins (near-parts g names frame goal)
    (λ t a. stands-normal (equations g) t a.above a.stands (All-contains (IsNormal (equations g)) (goal ∷ frame) a.above (All-cons (IsNormal (equations g)) goal frame normal sent) a.among))
    (near-frame g names frame goal) (reached-saturated g names frame goal) goal (near-goal g names frame goal) d in
    record { earlier = reached.earlier; derivation = reached.derivation; near = reached.near }
