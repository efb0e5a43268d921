-- Pairs by numbers, and what is received on a channel.
use Rattle.std.proofs.Common.{◌≡◌, ◌<◌, ◌≤◌, ℕ, List, [], ◌∷◌, length, Some, refl, sym, subst, ◌∙◌, arith, inl, inr}
use Rattle.std.specs.Prelude.{slice_get, All}
use Rattle.std.proofs.lemmas.List.Elements.{All-head, All-tail}
use Rattle.sap_terms.specs.Choice.{instance}
use Rattle.sap_terms.specs.Destructors.{HasDestructor}
use Rattle.sap_terms.specs.Equal.{IsTheoryEqual}
use Rattle.sap_terms.specs.Equations.{equations, app2, pair_name}
use Rattle.sap_terms.specs.Normal.{IsNormal, IsNormalForm}
use Rattle.sap_terms.specs.Signature.{Sig}
use Rattle.sap_terms.specs.Tree.{Tree, apply, none, more, trees_of, node_count}
use Rattle.sap_terms.specs.declared.limits.TheConstants.{MOST_TERM_NODES}
use Rattle.sap_rewrite.specs.Laws.{EqualityIsKept, FormIsOne}
use Rattle.sap_share.specs.Env.{given, AreSmallForms}
use Rattle.sap_share.specs.Shared.{Shared, tree_at, trees_at, Keeps, HaveOneNumber}
use Rattle.sap_share.specs.declared.env.Bound.{Bound}
use Rattle.sap_lines.specs.Faults.{EvaluateSmall, FitsNothing}
use Rattle.sap_lines.specs.declared.fault.PFault.{PFault}
use Rattle.sap_lines.specs.declared.fault.PFault.TheVariants as fault
use Rattle.sap_heads.specs.Taken.{IsTaken, IsUntaken, IsReceived, IsUnreceived, unvalued, no_memory, unfitting, other_channel}
use Rattle.sap_heads.specs.Values.{IsSmallNumber, IsValue, IsValueFault}
use Rattle.sap_heads.specs.code.Pairs.{IsPairOf}
use Rattle.sap_heads.proofs.Kept.{given_stays, small_stays}

pub two_numbers : (ts : List Tree) (f ks : List ℕ) (y z : Tree) → apply f (trees_of (trees_at ts ks)) ≡ app2 pair_name y z → length ks ≡ 2
two_numbers ts f [] y z e = cc
two_numbers ts f (a ∷ []) y z e = cc
two_numbers ts f (a ∷ b ∷ []) y z e = refl
two_numbers ts f (a ∷ b ∷ k ∷ ks) y z e = cc

pub pair_of : (ts : List Tree) (e : ℕ) (f ks : List ℕ) (a b : ℕ) → e < length ts → f ≡ pair_name → apply f (trees_of (trees_at ts ks)) ≡ tree_at ts e → length ks ≡ 2 → slice_get ks 0 ≡ Some a → slice_get ks 1 ≡ Some b → All (λ k. k < e) ks
    → IsPairOf ts (tree_at ts e) a b
pair_of ts e f [] a b lt name is two first second below = absurd (omega (arith, two))
pair_of ts e f (j ∷ []) a b lt name is two first second below = absurd (omega (arith, two))
pair_of ts e f (j ∷ k ∷ []) a b lt name is two first second below =
    let Q : ℕ → Type 0 = λ k. k < e in
    let one : j ≡ a = cc in
    let other : k ≡ b = cc in
    let left : j < e = All-head Q j (k ∷ []) below in
    let right : k < e = All-head Q k [] (All-tail Q j (k ∷ []) below) in
    record {
      is = sym is ∙ (λ i. apply (name i) (more (tree_at ts (one i)) (more (tree_at ts (other i)) none)));
      first_below = omega (arith, lt, left, one);
      second_below = omega (arith, lt, right, other);
    }
pair_of ts e f (j ∷ k ∷ l ∷ ks) a b lt name is two first second below = absurd (omega (arith, two))

-- the second part of a pair that is normal and small
second_small : (g : Sig) (x a b : Tree) → x ≡ app2 pair_name a b → IsNormal (equations g) x → node_count x ≤ MOST_TERM_NODES → IsNormal (equations g) b × (node_count b ≤ MOST_TERM_NODES)
second_small g x a b is normal within =
    let n : IsNormal (equations g) (app2 pair_name a b) = subst (IsNormal (equations g)) is normal in
    let w : node_count (app2 pair_name a b) ≤ MOST_TERM_NODES = subst (λ t. node_count t ≤ MOST_TERM_NODES) is within in
    (n.1.1.0, omega (arith, w))

pub second_number : (s u : Shared) → Keeps s u → (e a b : ℕ) → IsSmallNumber s e → IsPairOf u.trees (tree_at u.trees e) a b → IsSmallNumber u b
second_number s u keeps e a b number pair =
    let there = small_stays s u keeps e number in
    let part = second_small u.sig (tree_at u.trees e) (tree_at u.trees a) (tree_at u.trees b) pair.is there.normal there.within in
    record { below = pair.second_below; normal = part.0; within = part.1 }

-- what has no destructor has none at a larger table
pub plain_stays : (s u : Shared) → Keeps s u → (n : Tree) → (HasDestructor s.sig n → ⊥) → HasDestructor u.sig n → ⊥
plain_stays s u keeps n clean d = clean (subst (λ g. HasDestructor g n) keeps.sig d)

-- what is evaluated first, seen from the table behind
module _ (s u : Shared) (keeps : Keeps s u) (env : List Bound) (small : AreSmallForms (equations s.sig) MOST_TERM_NODES s.trees env) (m n x : Tree) where
  pub received_fault : (f : PFault) → IsValueFault s.sig (instance (given s.trees env) m ∷ []) f → IsUnreceived u env m n x f
  received_fault f h = let there : IsValueFault u.sig (instance (given u.trees env) m ∷ []) f = rw (keeps.sig, given_stays s u keeps env small) h in unvalued there

  module _ (j : ℕ) (v : IsValue s u env m j) where
    form_there : IsNormalForm (equations u.sig) (instance (given u.trees env) m) (tree_at u.trees j)
    form_there = rw (keeps.sig, given_stays s u keeps env small) v.form

    small_there : EvaluateSmall u.sig (instance (given u.trees env) m ∷ [])
    small_there = rw (keeps.sig, given_stays s u keeps env small) v.small

    pub received_no_pair : ((y z : Tree) → x ≡ app2 pair_name y z → ⊥) → IsUnreceived u env m n x fault.NoMatch
    received_no_pair none_is = unfitting small_there (λ y z is. absurd (none_is y z is))

    module _ (a b : ℕ) (pair : IsPairOf u.trees x a b) where
      pub received_unfitted : (f : PFault) → IsUntaken u env n (tree_at u.trees b) f → IsUnreceived u env m n x f
      received_unfitted f (inl h) = rw h no_memory
      received_unfitted f (inr h) = rw h.0 (unfitting small_there (λ y z is. (let both : app2 pair_name (tree_at u.trees a) (tree_at u.trees b) ≡ app2 pair_name y z = sym pair.is ∙ is in let second : tree_at u.trees b ≡ z = cc in subst (FitsNothing u.sig (instance (given u.trees env) n)) second h.1)))

      module _ (new : List Bound) (taken : IsTaken u env n (tree_at u.trees b) new) where
        pub received_other : FormIsOne → HaveOneNumber u.trees (length u.trees) → (a ≡ j → ⊥) → IsUnreceived u env m n x fault.Unequal
        received_other one once other =
            other_channel taken.choice (tree_at u.trees a) (tree_at u.trees b) small_there pair.is taken.fits (λ form. other (once a j pair.first_below v.number.below (one (equations u.sig) (instance (given u.trees env) m) (tree_at u.trees a) (tree_at u.trees j) form form_there)))

        pub received_is : EqualityIsKept → a ≡ j → IsReceived u env m n x new
        received_is kept same =
            let g = u.sig in
            let M = instance (given u.trees env) m in
            let N = instance taken.choice (instance (given u.trees env) n) in
            let channel : IsNormalForm (equations g) M (tree_at u.trees a) = subst (λ k. IsNormalForm (equations g) M (tree_at u.trees k)) (sym same) form_there in
            let pairs : IsTheoryEqual (equations g) (app2 pair_name M N) (app2 pair_name (tree_at u.trees a) (tree_at u.trees b)) = kept.under_symbols (equations g) pair_name (M ∷ N ∷ []) (tree_at u.trees a ∷ tree_at u.trees b ∷ []) (channel.equal, (taken.fits.equal, tt)) in
            record {
              choice = taken.choice;
              messages = taken.fits.messages;
              equal = subst (λ z. IsTheoryEqual (equations g) (app2 pair_name M N) z) (sym pair.is) pairs;
              small = small_there;
              bound = taken.bound;
            }
