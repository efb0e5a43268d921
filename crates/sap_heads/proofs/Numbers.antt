-- Terms that are evaluated one after another.
use Rattle.std.proofs.Common.{◌≡◌, ◌<◌, ◌≤◌, ℕ, List, [], ◌∷◌, ◌++◌, refl, sym, ap, subst, ◌∙◌, length, inl, inr, append_assoc}
use Rattle.std.proofs.lemmas.Bool.{cases_lt}
use Rattle.std.proofs.lemmas.List.{append-nil}
use Rattle.sap_terms.specs.Choice.{instance}
use Rattle.sap_terms.specs.Equations.{equations}
use Rattle.sap_terms.specs.Normal.{IsNormal, IsNormalForm}
use Rattle.sap_terms.specs.Signature.{Sig}
use Rattle.sap_terms.specs.Subterms.{SomeSubterm, SomeSubtermWithin, itself, below, here, later}
use Rattle.sap_terms.specs.Tree.{Tree, apply, Trees, none, more, trees_of, node_count}
use Rattle.sap_terms.specs.declared.limits.TheConstants.{MOST_TERM_NODES}
use Rattle.sap_rewrite.specs.Large.{HasLargeSubterm}
use Rattle.sap_share.specs.Env.{given, AreSmallForms}
use Rattle.sap_share.specs.Shared.{Shared, tree_at, Keeps}
use Rattle.sap_share.specs.declared.env.Bound.{Bound}
use Rattle.sap_lines.specs.Faults.{EvaluateLarge, EvaluateSmall}
use Rattle.sap_heads.specs.Values.{CanEvaluate, IsValue, AreValues, IsValueFault}
use Rattle.sap_lines.specs.declared.fault.PFault.{PFault}
use Rattle.sap_heads.proofs.Kept.{small_stays, tree_stays, given_stays}

module _ {P Q : Tree → Type 0} (f : (t : Tree) → P t → Q t) where
  mutual
    some_weaker : (t : Tree) → SomeSubterm P t → SomeSubterm Q t
    some_weaker t (itself h) = itself (f t h)
    some_weaker (apply g ts) (below h) = below (within_weaker ts h)

    within_weaker : (ts : Trees) → SomeSubtermWithin P ts → SomeSubtermWithin Q ts
    within_weaker none h = elim h [ ]
    within_weaker (more t ts) (here h) = here (some_weaker t h)
    within_weaker (more t ts) (later h) = later (within_weaker ts h)

-- where none is large, all are small
pub small_unless : (g : Sig) (ts : List Tree) → (EvaluateLarge g ts → ⊥) → EvaluateSmall g ts
small_unless g ts never n some =
    elim (cases_lt MOST_TERM_NODES (node_count n)) [
      | inl lt ↦ absurd (never (within_weaker (λ t form. record { form = n; is_form = form; large = lt }) (trees_of ts) some))
      | inr le ↦ le
    ]

pub nothing : {P : Tree → Type 0} (ts : Trees) → ts ≡ none → SomeSubtermWithin P ts → ⊥
nothing none e h = elim h [ ]
nothing (more t ts) e (here h) = cc
nothing (more t ts) e (later h) = cc

pub only_one : {P : Tree → Type 0} (t : Tree) → SomeSubtermWithin P (trees_of (t ∷ [])) → SomeSubterm P t
only_one t (here h) = h
only_one t (later h) = absurd (nothing none refl h)

pub large_one : (g : Sig) (t : Tree) → HasLargeSubterm (equations g) MOST_TERM_NODES t → EvaluateLarge g (t ∷ [])
large_one g t h = here h

pub small_one : (g : Sig) (t : Tree) → (HasLargeSubterm (equations g) MOST_TERM_NODES t → ⊥) → EvaluateSmall g (t ∷ [])
small_one g t h = small_unless g (t ∷ []) (λ large. h (only_one t large))

pub small_two : (g : Sig) (t u : Tree) → EvaluateSmall g (t ∷ []) → EvaluateSmall g (u ∷ []) → EvaluateSmall g (t ∷ u ∷ [])
small_two g t u h i n some = by some where
  by : SomeSubtermWithin (λ x. IsNormalForm (equations g) x n) (more t (more u none)) → node_count n ≤ MOST_TERM_NODES
  by (here x) = h n (here x)
  by (later x) = i n x

-- what is large alone is large beside others
pub fault_first : (g : Sig) (t u : Tree) (f : PFault) → IsValueFault g (t ∷ []) f → IsValueFault g (t ∷ u ∷ []) f
fault_first g t u f (inl h) = inl h
fault_first g t u f (inr h) = inr (h.0, front h.1) where
  front : {P : Tree → Type 0} → SomeSubtermWithin P (trees_of (t ∷ [])) → SomeSubtermWithin P (trees_of (t ∷ u ∷ []))
  front h = here (only_one t h)

pub fault_second : (g : Sig) (t u : Tree) (f : PFault) → IsValueFault g (u ∷ []) f → IsValueFault g (t ∷ u ∷ []) f
fault_second g t u f (inl h) = inl h
fault_second g t u f (inr h) = inr (h.0, later h.1)

-- the value of a term
pub value_is : (s u : Shared) (env : List Bound) (t : Tree) (k : ℕ) → k < length u.trees → Keeps s u → IsNormalForm (equations s.sig) (instance (given s.trees env) t) (tree_at u.trees k)
    → (HasLargeSubterm (equations s.sig) MOST_TERM_NODES (instance (given s.trees env) t) → ⊥) → IsValue s u env t k
value_is s u env t k below_it keeps form small =
    let within : node_count (tree_at u.trees k) ≤ MOST_TERM_NODES = elim (cases_lt MOST_TERM_NODES (node_count (tree_at u.trees k))) [ inl lt ↦ absurd (small (itself (record { form = tree_at u.trees k; is_form = form; large = lt }))) | inr le ↦ le ] in
    record {
      number = record { below = below_it; normal = subst (λ g. IsNormal (equations g) (tree_at u.trees k)) (sym keeps.sig) form.normal; within = within };
      form = form;
      small = small_one s.sig (instance (given s.trees env) t) small;
    }

pub keeps_self : (s : Shared) → Keeps s s
keeps_self s = record { sig = refl; added = []; trees = sym (append-nil s.trees) }

pub keeps_twice : (s u v : Shared) → Keeps s u → Keeps u v → Keeps s v
keeps_twice s u v h i = record { sig = i.sig ∙ h.sig; added = h.added ++ i.added; trees = i.trees ∙ ap (λ ts. ts ++ i.added) h.trees ∙ append_assoc s.trees h.added i.added }

-- what can be evaluated still can
pub can_stays : (s u : Shared) (env : List Bound) (t : Tree) → Keeps s u → AreSmallForms (equations s.sig) MOST_TERM_NODES s.trees env → CanEvaluate s env t → CanEvaluate u env t
can_stays s u env t keeps small can = record { ground = rw (given_stays s u keeps env small) can.ground; over = rw keeps.sig can.over }

pub fault_stays : (s u : Shared) (env : List Bound) (t v : Tree) (f : PFault) → Keeps s u → AreSmallForms (equations s.sig) MOST_TERM_NODES s.trees env → IsValueFault u.sig (instance (given u.trees env) v ∷ []) f
    → IsValueFault s.sig (instance (given s.trees env) t ∷ instance (given s.trees env) v ∷ []) f
fault_stays s u env t v f keeps small h = fault_second s.sig (instance (given s.trees env) t) (instance (given s.trees env) v) f (rw (keeps.sig, given_stays s u keeps env small) at h)

pub values_are : (s u w : Shared) (env : List Bound) (t v : Tree) (j k : ℕ) → Keeps s u → Keeps u w → AreSmallForms (equations s.sig) MOST_TERM_NODES s.trees env → IsValue s u env t j → IsValue u w env v k → AreValues s w env t v j k
values_are s u w env t v j k keeps onwards small first second =
    let same : given u.trees env ≡ given s.trees env = given_stays s u keeps env small in
    let form : IsNormalForm (equations s.sig) (instance (given s.trees env) v) (tree_at w.trees k) = rw (keeps.sig, same) at second.form in
    let less : EvaluateSmall s.sig (instance (given s.trees env) v ∷ []) = rw (keeps.sig, same) at second.small in
    record {
      first_number = small_stays u w onwards j first.number;
      second_number = second.number;
      first_form = rw (tree_stays u w onwards j first.number.below) first.form;
      second_form = form;
      small = small_two s.sig (instance (given s.trees env) t) (instance (given s.trees env) v) first.small less;
    }
