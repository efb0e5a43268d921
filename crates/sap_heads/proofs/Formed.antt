-- Normal forms of lists of terms.
use Rattle.std.proofs.Common.{◌≡◌, ℕ, zero, suc, ◌+◌, List, [], ◌∷◌, ◌++◌, Some, map, take, inl, inr, ◌⊎◌, refl, subst}
use Rattle.std.specs.Prelude.{slice_get, All}
use Rattle.std.specs.List.{AllZip}
use Rattle.std.proofs.lemmas.List.Elements.{AllZip-push, All-contains, All-nil, All-push}
use Rattle.sap_terms.proofs.PlainLaws.Lists.{map_got}
use Rattle.sap_terms.specs.Choice.{Choice, instance}
use Rattle.sap_terms.specs.Equations.{equations}
use Rattle.sap_terms.specs.Normal.{IsNormalForm}
use Rattle.sap_terms.specs.Signature.{Sig}
use Rattle.sap_terms.specs.Subterms.{SomeSubterm, SomeSubtermWithin, here, later}
use Rattle.sap_terms.specs.Tree.{Tree, trees_of}
use Rattle.sap_terms.specs.declared.limits.TheConstants.{MOST_TERM_NODES}
use Rattle.sap_share.specs.Env.{given, AreSmallForms}
use Rattle.sap_share.specs.Shared.{Shared, Keeps}
use Rattle.sap_share.specs.declared.env.Bound.{Bound}
use Rattle.sap_lines.specs.Faults.{EvaluateSmall}
use Rattle.sap_sides.specs.Messages.{IsSmallMessage}
use Rattle.sap_heads.specs.Values.{CanEvaluate, IsValueFault}
use Rattle.sap_heads.specs.code.Forms.{IsFormed, AreFormed}
use Rattle.sap_lines.specs.declared.fault.PFault.{PFault}
use Rattle.sap_heads.proofs.Kept.{given_stays}
use Rattle.sap_heads.proofs.Numbers.{nothing, only_one, can_stays}
use Rattle.sap_terms.proofs.PlainLaws.Items.{contains_got}

within_cases : {Q : Tree → Type 0} (xs ys : List Tree) → SomeSubtermWithin Q (trees_of (xs ++ ys)) → SomeSubtermWithin Q (trees_of xs) ⊎ SomeSubtermWithin Q (trees_of ys)
within_cases [] ys s = inr s
within_cases (x ∷ xs) ys (here s) = inl (here s)
within_cases (x ∷ xs) ys (later s) = elim (within_cases xs ys s) [ inl a ↦ inl (later a) | inr b ↦ inr b ]

pub small_more : (g : Sig) (xs ys : List Tree) → EvaluateSmall g xs → EvaluateSmall g ys → EvaluateSmall g (xs ++ ys)
small_more g xs ys h i n some = elim (within_cases xs ys some) [ inl a ↦ h n a | inr b ↦ i n b ]

within_at : {Q : Tree → Type 0} (σ : Choice) (ts : List Tree) (k : ℕ) (t : Tree) → slice_get ts k ≡ Some t → SomeSubterm Q (instance σ t) → SomeSubtermWithin Q (trees_of (map (instance σ) ts))
within_at σ [] k t got s = cc
within_at {Q} σ (u ∷ us) zero t got s = let is : t ≡ u = cc in here (subst (λ v. SomeSubterm Q (instance σ v)) is s)
within_at σ (u ∷ us) (suc k) t got s = later (within_at σ us k t got s)

-- what is large alone is large among others
pub fault_at : (g : Sig) (σ : Choice) (ts : List Tree) (k : ℕ) (t : Tree) (f : PFault) → slice_get ts k ≡ Some t → IsValueFault g (instance σ t ∷ []) f → IsValueFault g (map (instance σ) ts) f
fault_at g σ ts k t f got (inl h) = inl h
fault_at g σ ts k t f got (inr h) = inr (h.0, within_at σ ts k t got (only_one (instance σ t) h.1))

pub formed_none : (s : Shared) (env : List Bound) → AreFormed s env [] []
formed_none s env = record { forms = tt; small = λ n some. absurd (nothing (trees_of []) refl some); fine = All-nil (IsSmallMessage s.sig) }

-- one more, at a larger table
pub formed_further : (s u : Shared) (env : List Bound) (ts ns ms : List Tree) (k : ℕ) (t n : Tree) → Keeps s u → AreSmallForms (equations s.sig) MOST_TERM_NODES s.trees env → slice_get ts k ≡ Some t
    → AreFormed s env (take k ts) ns → IsFormed u env t n → ms ≡ ns ++ n ∷ [] → AreFormed s env (take (k + 1) ts) ms
formed_further s u env ts ns ms k t n keeps small got are one is =
    let σ = given s.trees env in
    let form : IsNormalForm (equations s.sig) (instance σ t) n = rw (keeps.sig, given_stays s u keeps env small) at one.form in
    let less : EvaluateSmall s.sig (instance σ t ∷ []) = rw (keeps.sig, given_stays s u keeps env small) at one.small in
    let turn = map_got (instance σ) ts k t got in
    record {
      forms = rw (turn, is) (zip_push (map (instance σ) (take k ts)) ns are.forms form);
      small = rw turn (small_more s.sig (map (instance σ) (take k ts)) (instance σ t ∷ []) are.small less);
      fine = rw is (All-push (IsSmallMessage s.sig) ns n are.fine (rw keeps.sig at one.fine));
    }
  where
    zip_push : {x y : Tree} (xs ys : List Tree) → AllZip (IsNormalForm (equations s.sig)) xs ys → IsNormalForm (equations s.sig) x y → AllZip (IsNormalForm (equations s.sig)) (xs ++ x ∷ []) (ys ++ y ∷ [])
    zip_push {x} {y} xs ys h i = AllZip-push (IsNormalForm (equations s.sig)) xs ys x y h i

-- each of these can be evaluated, at a larger table too
pub can_at : (s u : Shared) (env : List Bound) (ts : List Tree) (k : ℕ) (t : Tree) → Keeps s u → AreSmallForms (equations s.sig) MOST_TERM_NODES s.trees env → All (CanEvaluate s env) ts → slice_get ts k ≡ Some t → CanEvaluate u env t
can_at s u env ts k t keeps small can got = can_stays s u env t keeps small (All-contains (CanEvaluate s env) ts t can (contains_got ts t k got))

pub fault_there : (s u : Shared) (env : List Bound) (ts : List Tree) (k : ℕ) (t : Tree) (f : PFault) → Keeps s u → AreSmallForms (equations s.sig) MOST_TERM_NODES s.trees env → slice_get ts k ≡ Some t
    → IsValueFault u.sig (instance (given u.trees env) t ∷ []) f → IsValueFault s.sig (map (instance (given s.trees env)) ts) f
fault_there s u env ts k t f keeps small got h =
    let back : IsValueFault s.sig (instance (given s.trees env) t ∷ []) f = rw (keeps.sig, given_stays s u keeps env small) at h in
    fault_at s.sig (given s.trees env) ts k t f got back
