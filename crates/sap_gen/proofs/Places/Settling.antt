-- What the state fact of each place settles to.
use Rattle.std.proofs.Common.{append_assoc, ◌≡◌, ℕ, List, [], ◌∷◌, ◌++◌, Some, None, false, map, refl, sym, ap, subst, ◌∙◌}
use Rattle.std.proofs.lemmas.Option.{same_Some}
use Rattle.std.specs.Str.{bytes_eq}
use Rattle.sap_terms.specs.AdversaryFacts.{out_fact}
use Rattle.sap_terms.specs.Signature.{Sig}
use Rattle.sap_terms.specs.Tree.{variable}
use Rattle.sap_terms.specs.declared.fact.Fact.{Fact}
use Rattle.sap_terms.specs.declared.var.Var.{Var}
use Rattle.sap_process.specs.Action.{out}
use Rattle.sap_process.specs.Places.{place}
use Rattle.sap_process.specs.Proc.{Proc, nil, parallel, replicated, act}
use Rattle.sap_place.specs.StateFacts.{copies_fact}
use Rattle.sap_rule.specs.declared.rule.Rule.{Rule}
use Rattle.sap_translate.specs.Members.{Member, here, later}
use Rattle.sap_templates.specs.Places.{ScopedPlace, root, scoped_place_at}
use Rattle.sap_translate.specs.Scoped.{AllWithin, FactsWithin}
use Rattle.sap_translate.specs.Sound.{SoundPlaces}
use Rattle.sap_templates.specs.Templates.{first_of, second_of, state, nil_rule, out_rule, parallel_rule, rep_start_rule}
use Rattle.sap_translate.specs.relation.Names.{state_name}
use Rattle.sap_translate.proofs.Shared.Names.{state_name_same}
use Rattle.sap_translate.proofs.Shared.Facts.{names_apart}
use Rattle.sap_gen.specs.Settled.{IsSettled, nothing_left, stays, goes_on}
use Rattle.sap_gen.specs.Silent.{silent_rule, IsSilentRule}
use Rattle.sap_gen.specs.code.SettledPlaces.{settled}
use Rattle.sap_gen.proofs.Places.Standing.{child_stands}

-- a silent rule takes the state fact of its place, and shows nothing
pub silent_left : (path : List ℕ) (v : List Var) (b : Proc) (q : Rule) → silent_rule path v b ≡ Some q → q.left ≡ state path v ∷ []
silent_left path v nil q e = ap (λ (r : Rule). r.left) (sym (same_Some (nil_rule path v) q e))
silent_left path v (parallel a b) q e = ap (λ (r : Rule). r.left) (sym (same_Some (parallel_rule path v) q e))
silent_left path v (replicated a) q e = ap (λ (r : Rule). r.left) (sym (same_Some (rep_start_rule path v) q e))
silent_left path v (act (out t) a) q e = ap (λ (r : Rule). r.left) (sym (same_Some (out_rule path v t) q e))
silent_left path v _ q e = cc

pub silent_acts : (path : List ℕ) (v : List Var) (b : Proc) (q : Rule) → silent_rule path v b ≡ Some q → q.acts ≡ []
silent_acts path v nil q e = ap (λ (r : Rule). r.acts) (sym (same_Some (nil_rule path v) q e))
silent_acts path v (parallel a b) q e = ap (λ (r : Rule). r.acts) (sym (same_Some (parallel_rule path v) q e))
silent_acts path v (replicated a) q e = ap (λ (r : Rule). r.acts) (sym (same_Some (rep_start_rule path v) q e))
silent_acts path v (act (out t) a) q e = ap (λ (r : Rule). r.acts) (sym (same_Some (out_rule path v t) q e))
silent_acts path v _ q e = cc

-- what settles side by side
pub settled_join : {Q : Rule → Type 0} {xs hs ys ks : List Fact} → IsSettled Q xs hs → IsSettled Q ys ks → IsSettled Q (xs ++ ys) (hs ++ ks)
settled_join nothing_left t = t
settled_join (stays f u s) t = stays f u (settled_join s t)
settled_join {Q} {ys = ys} {ks = ks} (goes_on {fs = fs} {hs = hs} f q x l s) t =
    goes_on f q x l (subst (λ zs. IsSettled Q zs (hs ++ ks)) (append_assoc q.right fs ys) (settled_join s t))

-- variables are among themselves
vars_within : (v w : List Var) → ((x : Var) → Member x w → Member x v) → AllWithin v (map variable w)
vars_within v [] h = tt
vars_within v (x ∷ w) h = (h x here, vars_within v w (λ y m. h y (later m)))

pub own_vars : (v : List Var) → AllWithin v (map variable v)
own_vars v = vars_within v v (λ x m. m)

facts_join : (v : List Var) (fs hs : List Fact) → FactsWithin v fs → FactsWithin v hs → FactsWithin v (fs ++ hs)
facts_join v [] hs a b = b
facts_join v (f ∷ fs) hs a b = (a.0, facts_join v fs hs a.1 b)

module _ (p : Proc) where
  -- a silent rule that takes a fact takes a state fact
  stays_named : (f : Fact) {fs hs : List Fact} → ((path : List ℕ) → bytes_eq (state_name path) f.name ≡ false) → IsSettled (IsSilentRule p) fs hs → IsSettled (IsSilentRule p) (f ∷ fs) (f ∷ hs)
  stays_named f {fs} {hs} n s = stays f taken s where
    taken : (q : Rule) → IsSilentRule p q → q.left ≡ f ∷ [] → ⊥
    taken q x e =
        let lists : (state x.path x.scope ∷ []) ≡ (f ∷ []) = sym (silent_left x.path x.scope x.body q x.is) ∙ e in
        let one : state x.path x.scope ≡ f = cc in
        names_apart (state_name x.path) f.name (n x.path) (ap (λ (h : Fact). h.name) one)

  -- no silent rule takes the state fact of a place that isn't silent
  pub untaken : (path : List ℕ) (v : List Var) (b : Proc) → scoped_place_at (root p) path ≡ Some (place path v b) → silent_rule path v b ≡ None
      → (q : Rule) → IsSilentRule p q → q.left ≡ state path v ∷ [] → ⊥
  untaken path v b at none q x e =
      let lists : (state x.path x.scope ∷ []) ≡ (state path v ∷ []) = sym (silent_left x.path x.scope x.body q x.is) ∙ e in
      let one : state x.path x.scope ≡ state path v = cc in
      let paths : x.path ≡ path = state_name_same x.path path (ap (λ (h : Fact). h.name) one) in
      let places : Some (place x.path x.scope x.body) ≡ Some (place path v b) = sym x.stands ∙ ap (λ z. scoped_place_at (root p) z) paths ∙ at in
      let same : place x.path x.scope x.body ≡ place path v b = same_Some (place x.path x.scope x.body) (place path v b) places in
      let rules : silent_rule x.path x.scope x.body ≡ silent_rule path v b = ap (λ (a : ScopedPlace). silent_rule a.path a.above a.body) same in
      let clash : Some q ≡ None = sym x.is ∙ rules ∙ none in
      cc

  -- the state fact of a place settles to what the walk gives
  pub place_settles : (path : List ℕ) (v : List Var) (b : Proc) → scoped_place_at (root p) path ≡ Some (place path v b) → IsSettled (IsSilentRule p) (state path v ∷ []) (settled path v b)
  place_settles path v nil at =
      goes_on (state path v) (nil_rule path v) (record { path = path; scope = v; body = nil; stands = at; is = refl }) refl nothing_left
  place_settles path v (parallel a b) at =
      let first = place_settles (first_of path) v a (child_stands p path 1 (place path v (parallel a b)) (place (first_of path) v a) at refl) in
      let second = place_settles (second_of path) v b (child_stands p path 2 (place path v (parallel a b)) (place (second_of path) v b) at refl) in
      goes_on (state path v) (parallel_rule path v) (record { path = path; scope = v; body = parallel a b; stands = at; is = refl }) refl (settled_join first second)
  place_settles path v (replicated a) at =
      goes_on (state path v) (rep_start_rule path v) (record { path = path; scope = v; body = replicated a; stands = at; is = refl }) refl
      (stays_named (copies_fact path (map variable v)) (λ z. refl) nothing_left)
  place_settles path v (act (out t) a) at =
      let rest = place_settles (first_of path) v a (child_stands p path 1 (place path v (act (out t) a)) (place (first_of path) v a) at refl) in
      goes_on (state path v) (out_rule path v t) (record { path = path; scope = v; body = act (out t) a; stands = at; is = refl }) refl (stays_named (out_fact t) (λ z. refl) rest)
  place_settles path v b at = stays (state path v) (untaken path v b at refl) nothing_left

  -- and so does what a silent rule adds
  pub right_settles : (path : List ℕ) (v : List Var) (b : Proc) (q : Rule) → scoped_place_at (root p) path ≡ Some (place path v b) → silent_rule path v b ≡ Some q
      → IsSettled (IsSilentRule p) q.right (settled path v b)
  right_settles path v nil q at e = subst (λ (r : Rule). IsSettled (IsSilentRule p) r.right []) (same_Some (nil_rule path v) q e) nothing_left
  right_settles path v (parallel a b) q at e =
      let first = place_settles (first_of path) v a (child_stands p path 1 (place path v (parallel a b)) (place (first_of path) v a) at refl) in
      let second = place_settles (second_of path) v b (child_stands p path 2 (place path v (parallel a b)) (place (second_of path) v b) at refl) in
      subst (λ (r : Rule). IsSettled (IsSilentRule p) r.right (settled path v (parallel a b))) (same_Some (parallel_rule path v) q e) (settled_join first second)
  right_settles path v (replicated a) q at e =
      subst (λ (r : Rule). IsSettled (IsSilentRule p) r.right (settled path v (replicated a))) (same_Some (rep_start_rule path v) q e)
      (stays_named (copies_fact path (map variable v)) (λ z. refl) nothing_left)
  right_settles path v (act (out t) a) q at e =
      let rest = place_settles (first_of path) v a (child_stands p path 1 (place path v (act (out t) a)) (place (first_of path) v a) at refl) in
      subst (λ (r : Rule). IsSettled (IsSilentRule p) r.right (settled path v (act (out t) a))) (same_Some (out_rule path v t) q e) (stays_named (out_fact t) (λ z. refl) rest)
  right_settles path v _ q at e = cc

  -- its variables are in scope at the place
  pub settled_within : (g : Sig) → SoundPlaces g p → (path : List ℕ) (v : List Var) (b : Proc) → scoped_place_at (root p) path ≡ Some (place path v b) → FactsWithin v (settled path v b)
  settled_within g sound path v nil at = tt
  settled_within g sound path v (parallel a b) at =
      facts_join v (settled (first_of path) v a) (settled (second_of path) v b)
      (settled_within g sound (first_of path) v a (child_stands p path 1 (place path v (parallel a b)) (place (first_of path) v a) at refl))
      (settled_within g sound (second_of path) v b (child_stands p path 2 (place path v (parallel a b)) (place (second_of path) v b) at refl))
  settled_within g sound path v (replicated a) at = (own_vars v, tt)
  settled_within g sound path v (act (out t) a) at = (
    (sound path (place path v (act (out t) a)) at, tt),
    settled_within g sound (first_of path) v a (child_stands p path 1 (place path v (act (out t) a)) (place (first_of path) v a) at refl),
  )
  settled_within g sound path v _ at = (own_vars v, tt)
