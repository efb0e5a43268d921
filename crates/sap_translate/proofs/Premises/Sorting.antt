-- Variables that get the sorts of their binders.
use Rattle.sap_translate.specs.Members.{Member}
use Rattle.std.proofs.Common.{◌≡◌, ℕ, suc, List, [], ◌∷◌, ◌++◌, Option, Some, None, refl, sym, ap, ◌∙◌, Bool, true, false, not, ◌||◌, ◌&&◌, cond, map, subst, length}
use Rattle.std.proofs.lemmas.Bool.Decides.{Decides-eqb}
use Rattle.std.specs.List.{find}
use Rattle.std.specs.Option.{option_map_or}
use Rattle.std.specs.Str.{bytes_eq}
use Rattle.sap_terms.specs.Choice.{Choice, instance, instances}
use Rattle.sap_terms.specs.Message.{IsOver, AreOver}
use Rattle.sap_terms.specs.Modulo.{instance_facts}
use Rattle.sap_terms.specs.Signature.{Sig, arity_of}
use Rattle.sap_terms.specs.Tree.{Tree, variable, public, fresh, apply, Trees, none, more, trees_of, list_of}
use Rattle.sap_terms.specs.Variables.{tree_vars, trees_vars, facts_vars, is_known, new_vars}
use Rattle.sap_terms.specs.declared.fact.Fact.{Fact}
use Rattle.sap_terms.specs.declared.var.Var.{Var}
use Rattle.sap_terms.proofs.PlainLaws.Tests.{and_left, and_right}
use Rattle.sap_process.specs.Flaws.{binder_of}
use Rattle.sap_process.specs.Sites.{var_names}
use Rattle.sap_process.specs.Sorted.{by_binder}
use Rattle.sap_terms.specs.TermTests.{is_over, are_over, has_arity}
use Rattle.sap_translate.specs.Scoped.{Within, EachWithin, AllWithin, FactsWithin}
use Rattle.sap_translate.specs.OpenLocks.{EachVar, EachVarOf, EachVarIn, FactVars}
use Rattle.sap_translate.proofs.Shared.Facts.{same_name_true, same_name_self}
use Rattle.sap_translate.proofs.Shared.Lookups.{member_left, member_right}
use Rattle.sap_translate.proofs.Terms.Substitution.{known-append, known_new, names-append, new_free, map_trees, member_known}

-- the variable with the sort of its binder in the scope
abbrev pub sorted : List Var → Var → Var
sorted w x = option_map_or (λ (b : Var). record { name = x.name; sort = b.sort }) (binder_of w x.name) x

pub by_sorted : (w : List Var) (x : Var) → by_binder w x ≡ variable (sorted w x)
by_sorted w x = go (binder_of w x.name)
  where
    go : (o : Option Var) → option_map_or (λ (b : Var). variable (record { name = x.name; sort = b.sort })) o (variable x) ≡ variable (option_map_or (λ (b : Var). record { name = x.name; sort = b.sort }) o x)
    go None = refl
    go (Some b) = refl

pub sorted_name : (w : List Var) (x : Var) → (sorted w x).name ≡ x.name
sorted_name w x = go (binder_of w x.name)
  where
    go : (o : Option Var) → (option_map_or (λ (b : Var). record { name = x.name; sort = b.sort }) o x).name ≡ x.name
    go None = refl
    go (Some b) = refl

-- a name that is known has a binder
pub record HasBinder (w : List Var) (n : List ℕ) : Type 0 where
  pub binder : Var
  pub found : binder_of w n ≡ Some binder
  pub among : Member binder w
  pub named : binder.name ≡ n

pub has_binder : (w : List Var) (n : List ℕ) → is_known (var_names w) n ≡ true → HasBinder w n
has_binder [] n e = cc
has_binder (v ∷ w) n e = go (bytes_eq v.name n) refl e (has_binder w n)
  where
    go : (b : Bool) → bytes_eq v.name n ≡ b → (b || is_known (var_names w) n) ≡ true → (is_known (var_names w) n ≡ true → HasBinder w n) → HasBinder (v ∷ w) n
    go true h k later = record { binder = v; found = ap (λ c. cond c (Some v) (find (λ (b : Var). bytes_eq b.name n) w)) h; among = Member.here; named = same_name_true v.name n h }
    go false h k later = let r = later k in record { binder = r.binder; found = ap (λ c. cond c (Some v) (find (λ (b : Var). bytes_eq b.name n) w)) h ∙ r.found; among = Member.later r.among; named = r.named }

a_var : (b : Var) (n : List ℕ) → b.name ≡ n → ◌≡◌ {A = Var} (record { name = n; sort = b.sort }) b
a_var b n e = λ i. record { name = sym e i; sort = b.sort }

-- a variable whose name is known becomes its binder
pub sorted_is : (w : List Var) (x : Var) (h : HasBinder w x.name) → sorted w x ≡ h.binder
sorted_is w x h = ap (λ o. option_map_or (λ (b : Var). record { name = x.name; sort = b.sort }) o x) h.found ∙ a_var h.binder x.name h.named

pub sorted_among : (w u : List Var) → ((x : Var) → Member x w → Member x u) → (x : Var) → is_known (var_names w) x.name ≡ true → Member (sorted w x) u
sorted_among w u wide x k = let h = has_binder w x.name k in subst (λ y. Member y u) (sym (sorted_is w x h)) (wide h.binder h.among)

found_left : (v ns : List Var) (n : List ℕ) (b : Var) → binder_of v n ≡ Some b → binder_of (v ++ ns) n ≡ Some b
found_left [] ns n b e = cc
found_left (y ∷ v) ns n b e = go (bytes_eq y.name n) e (found_left v ns n b)
  where
    go : (c : Bool) → cond c (Some y) (binder_of v n) ≡ Some b → (binder_of v n ≡ Some b → binder_of (v ++ ns) n ≡ Some b) → cond c (Some y) (binder_of (v ++ ns) n) ≡ Some b
    go true h later = h
    go false h later = later h

-- so it does where more is bound behind it
pub sorted_left : (v ns u : List Var) → ((x : Var) → Member x v → Member x u) → (x : Var) → is_known (var_names v) x.name ≡ true → Member (sorted (v ++ ns) x) u
sorted_left v ns u wide x k =
    let h = has_binder v x.name k in
    let is : sorted (v ++ ns) x ≡ h.binder = ap (λ o. option_map_or (λ (b : Var). record { name = x.name; sort = b.sort }) o x) (found_left v ns x.name h.binder h.found) ∙ a_var h.binder x.name h.named in
    subst (λ y. Member y u) (sym is) (wide h.binder h.among)

-- each variable of the list is among these once it has its binder's sort
abbrev pub AllAmong : List Var → List Var → List Var → Type 0
AllAmong w u vs = (x : Var) → Member x vs → Member (sorted w x) u

-- each variable of the list is known
abbrev pub AllKnown : List Var → List Var → Type 0
AllKnown w vs = (x : Var) → Member x vs → is_known (var_names w) x.name ≡ true

mutual
  pub within_sorted : (w u : List Var) (t : Tree) → AllAmong w u (tree_vars t) → Within u (instance (by_binder w) t)
  within_sorted w u (variable x) k = subst (λ t. Within u t) (sym (by_sorted w x)) (k x Member.here)
  within_sorted w u (public a) k = tt
  within_sorted w u (fresh n) k = tt
  within_sorted w u (apply f ts) k = each_within_sorted w u ts k

  pub each_within_sorted : (w u : List Var) (ts : Trees) → AllAmong w u (trees_vars ts) → EachWithin u (instances (by_binder w) ts)
  each_within_sorted w u none k = tt
  each_within_sorted w u (more t ts) k = (within_sorted w u t (λ x m. k x (member_left (trees_vars ts) m)), each_within_sorted w u ts (λ x m. k x (member_right (tree_vars t) m)))

pub all_within_sorted : (w u : List Var) (ts : List Tree) → AllAmong w u (trees_vars (trees_of ts)) → AllWithin u (map (instance (by_binder w)) ts)
all_within_sorted w u [] k = tt
all_within_sorted w u (t ∷ ts) k = (within_sorted w u t (λ x m. k x (member_left (trees_vars (trees_of ts)) m)), all_within_sorted w u ts (λ x m. k x (member_right (tree_vars t) m)))

pub facts_within_sorted : (w u : List Var) (fs : List Fact) → AllAmong w u (facts_vars fs) → FactsWithin u (instance_facts (by_binder w) fs)
facts_within_sorted w u [] k = tt
facts_within_sorted w u (f ∷ fs) k = (all_within_sorted w u f.args (λ x m. k x (member_left (facts_vars fs) m)), facts_within_sorted w u fs (λ x m. k x (member_right (trees_vars (trees_of f.args)) m)))

-- the variables of a sorted term
map-append : (f : Var → Var) (xs ys : List Var) → map f (xs ++ ys) ≡ map f xs ++ map f ys
map-append f [] ys = refl
map-append f (x ∷ xs) ys = ap (λ zs. f x ∷ zs) (map-append f xs ys)

mutual
  pub vars_sorted : (w : List Var) (t : Tree) → tree_vars (instance (by_binder w) t) ≡ map (sorted w) (tree_vars t)
  vars_sorted w (variable x) = ap tree_vars (by_sorted w x)
  vars_sorted w (public a) = refl
  vars_sorted w (fresh n) = refl
  vars_sorted w (apply f ts) = vars_each_sorted w ts

  pub vars_each_sorted : (w : List Var) (ts : Trees) → trees_vars (instances (by_binder w) ts) ≡ map (sorted w) (trees_vars ts)
  vars_each_sorted w none = refl
  vars_each_sorted w (more t ts) = (λ i. vars_sorted w t i ++ vars_each_sorted w ts i) ∙ sym (map-append (sorted w) (tree_vars t) (trees_vars ts))

pub vars_facts_sorted : (w : List Var) (fs : List Fact) → facts_vars (instance_facts (by_binder w) fs) ≡ map (sorted w) (facts_vars fs)
vars_facts_sorted w [] = refl
vars_facts_sorted w (f ∷ fs) =
    (λ i. (ap trees_vars (map_trees (by_binder w) f.args) ∙ vars_each_sorted w (trees_of f.args)) i ++ vars_facts_sorted w fs i)
    ∙ sym (map-append (sorted w) (trees_vars (trees_of f.args)) (facts_vars fs))

-- the new variables of a list whose variables get other sorts, where as much is known of their names
pub new_mapped : (f : Var → Var) → ((x : Var) → (f x).name ≡ x.name) → (known known' : List (List ℕ)) (ws : List Var) → ((n : List ℕ) → is_known (var_names ws) n ≡ true → is_known known' n ≡ is_known known n) → new_vars known' (map f ws) ≡ map f (new_vars known ws)
new_mapped f same known known' [] h = refl
new_mapped f same known known' (x ∷ ws) h = go (is_known known x.name) refl (is_known known' (f x).name) (ap (is_known known') (same x) ∙ h x.name (head x.name ws)) (new_mapped f same known known' ws (λ n k. h n (tail x.name ws n k))) (new_mapped f same (known ++ x.name ∷ []) (known' ++ (f x).name ∷ []) ws (λ n k. names-append known' ((f x).name ∷ []) n ∙ (λ i. h n (tail x.name ws n k) i || (bytes_eq (same x i) n || false)) ∙ sym (names-append known (x.name ∷ []) n)))
  where
    head : (n : List ℕ) (vs : List Var) → (bytes_eq n n || is_known (var_names vs) n) ≡ true
    head n vs = ap (λ b. b || is_known (var_names vs) n) (same_name_self n)

    tail : (m : List ℕ) (vs : List Var) (n : List ℕ) → is_known (var_names vs) n ≡ true → (bytes_eq m n || is_known (var_names vs) n) ≡ true
    tail m vs n k = at (bytes_eq m n)
      where
        at : (b : Bool) → (b || is_known (var_names vs) n) ≡ true
        at true = refl
        at false = k

    go : (b : Bool) → is_known known x.name ≡ b → (c : Bool) → c ≡ is_known known x.name → new_vars known' (map f ws) ≡ map f (new_vars known ws) → new_vars (known' ++ (f x).name ∷ []) (map f ws) ≡ map f (new_vars (known ++ x.name ∷ []) ws) → cond c (new_vars known' (map f ws)) (f x ∷ new_vars (known' ++ (f x).name ∷ []) (map f ws)) ≡ map f (cond (is_known known x.name) (new_vars known ws) (x ∷ new_vars (known ++ x.name ∷ []) ws))
    go true e c d one two = rw (d ∙ e, e) one
    go false e c d one two = rw (d ∙ e, e) (ap (λ vs. f x ∷ vs) two)

-- the binder of what is new is itself
binder_left : (v ns : List Var) (n : List ℕ) → is_known (var_names v) n ≡ false → binder_of (v ++ ns) n ≡ binder_of ns n
binder_left [] ns n e = refl
binder_left (y ∷ v) ns n e = go (bytes_eq y.name n) refl e (binder_left v ns n)
  where
    go : (b : Bool) → bytes_eq y.name n ≡ b → (b || is_known (var_names v) n) ≡ false → (is_known (var_names v) n ≡ false → binder_of (v ++ ns) n ≡ binder_of ns n) → cond b (Some y) (binder_of (v ++ ns) n) ≡ binder_of ns n
    go true h k later = cc
    go false h k later = later k

or_right : (b c : Bool) → (b || (c || false)) ≡ false → c ≡ false
or_right true c e = cc
or_right false true e = cc
or_right false false e = refl

binder_first : (y : Var) (ns : List Var) (x : Var) → Member x (y ∷ ns) → (Member x ns → (bytes_eq y.name x.name ≡ false) × (binder_of ns x.name ≡ Some x)) → binder_of (y ∷ ns) x.name ≡ Some x
binder_first y ns x Member.here rest = ap (λ b. cond b (Some x) (binder_of ns x.name)) (same_name_self x.name)
binder_first y ns x (Member.later m) rest = let r = rest m in ap (λ b. cond b (Some y) (binder_of ns x.name)) r.0 ∙ r.1

binder_new : (known : List (List ℕ)) (ws : List Var) (x : Var) → Member x (new_vars known ws) → binder_of (new_vars known ws) x.name ≡ Some x
binder_new known [] x m = elim m [ ]
binder_new known (y ∷ ws) x m = go (is_known known y.name) m (λ k. binder_new known ws x k) (λ k. binder_new (known ++ y.name ∷ []) ws x k)
  where
    go : (b : Bool) → Member x (cond b (new_vars known ws) (y ∷ new_vars (known ++ y.name ∷ []) ws)) → (Member x (new_vars known ws) → binder_of (new_vars known ws) x.name ≡ Some x) → (Member x (new_vars (known ++ y.name ∷ []) ws) → binder_of (new_vars (known ++ y.name ∷ []) ws) x.name ≡ Some x) → binder_of (cond b (new_vars known ws) (y ∷ new_vars (known ++ y.name ∷ []) ws)) x.name ≡ Some x
    go true k one two = one k
    go false k one two = binder_first y (new_vars (known ++ y.name ∷ []) ws) x k (λ j. (or_right (is_known known x.name) (bytes_eq y.name x.name) (sym (names-append known (y.name ∷ []) x.name) ∙ new_free (known ++ y.name ∷ []) ws x j), two j))

pub sorted_new : (v ws : List Var) → map (sorted (v ++ new_vars (var_names v) ws)) (new_vars (var_names v) ws) ≡ new_vars (var_names v) ws
sorted_new v ws = at (new_vars (var_names v) ws) (λ x m. same x m)
  where
    same : (x : Var) → Member x (new_vars (var_names v) ws) → sorted (v ++ new_vars (var_names v) ws) x ≡ x
    same x m = ap (λ o. option_map_or (λ (b : Var). record { name = x.name; sort = b.sort }) o x) (binder_left v (new_vars (var_names v) ws) x.name (new_free (var_names v) ws x m) ∙ binder_new (var_names v) ws x m)

    at : (ns : List Var) → ((x : Var) → Member x ns → sorted (v ++ new_vars (var_names v) ws) x ≡ x) → map (sorted (v ++ new_vars (var_names v) ws)) ns ≡ ns
    at [] h = refl
    at (x ∷ ns) h = (λ i. h x Member.here i ∷ at ns (λ y m. h y (Member.later m)) i)

-- each variable of a list is known where its new ones are
pub new_known : (v ws : List Var) → AllKnown (v ++ new_vars (var_names v) ws) ws
new_known v ws x m = known-append v (new_vars (var_names v) ws) x ∙ ap (λ b. is_known (var_names v) x.name || b) (known_new (var_names v) ws x.name) ∙ go (is_known (var_names v) x.name) (is_known (var_names ws) x.name) (member_known ws x m)
  where
    go : (b c : Bool) → c ≡ true → (b || (not b && c)) ≡ true
    go true c e = refl
    go false c e = e

-- terms over a signature

arity_there : (o : Option ℕ) (k : ℕ) → has_arity o k ≡ true → o ≡ Some k
arity_there None k h = cc
arity_there (Some n) k h = ap Some ((Decides-eqb n k).0 h)

mutual
  pub over_sound : (g : Sig) (t : Tree) → is_over g t ≡ true → IsOver g t
  over_sound g (variable v) h = tt
  over_sound g (public n) h = tt
  over_sound g (fresh k) h = tt
  over_sound g (apply f ts) h = (arity_there (arity_of g f) (length (list_of ts)) (and_left _ _ h), all_over_sound g ts (and_right (has_arity (arity_of g f) (length (list_of ts))) _ h))

  all_over_sound : (g : Sig) (ts : Trees) → are_over g ts ≡ true → AreOver g ts
  all_over_sound g none h = tt
  all_over_sound g (more t ts) h = (over_sound g t (and_left _ _ h), all_over_sound g ts (and_right (is_over g t) _ h))

list_length : (σ : Choice) (ts : Trees) → length (list_of (instances σ ts)) ≡ length (list_of ts)
list_length σ none = refl
list_length σ (more t ts) = ap suc (list_length σ ts)

mutual
  pub over_sorted : (g : Sig) (w : List Var) (t : Tree) → IsOver g t → IsOver g (instance (by_binder w) t)
  over_sorted g w (variable x) o = subst (IsOver g) (sym (by_sorted w x)) tt
  over_sorted g w (public n) o = tt
  over_sorted g w (fresh k) o = tt
  over_sorted g w (apply f ts) o = (o.0 ∙ ap Some (sym (list_length (by_binder w) ts)), each_over_sorted g w ts o.1)

  each_over_sorted : (g : Sig) (w : List Var) (ts : Trees) → AreOver g ts → AreOver g (instances (by_binder w) ts)
  each_over_sorted g w none o = tt
  each_over_sorted g w (more t ts) o = (over_sorted g w t o.0, each_over_sorted g w ts o.1)

-- variables whose names aren't reserved, under another property of names
mutual
  pub each_sorted : (P : Var → Type 0) (w : List Var) (t : Tree) → ((x : Var) → Member x (tree_vars t) → P (sorted w x)) → EachVar P (instance (by_binder w) t)
  each_sorted P w (variable x) h = subst (EachVar P) (sym (by_sorted w x)) (h x Member.here)
  each_sorted P w (public n) h = tt
  each_sorted P w (fresh k) h = tt
  each_sorted P w (apply f ts) h = each_of_sorted P w ts h

  each_of_sorted : (P : Var → Type 0) (w : List Var) (ts : Trees) → ((x : Var) → Member x (trees_vars ts) → P (sorted w x)) → EachVarOf P (instances (by_binder w) ts)
  each_of_sorted P w none h = tt
  each_of_sorted P w (more t ts) h = (each_sorted P w t (λ x m. h x (member_left (trees_vars ts) m)), each_of_sorted P w ts (λ x m. h x (member_right (tree_vars t) m)))

pub each_in_sorted : (P : Var → Type 0) (w : List Var) (ts : List Tree) → ((x : Var) → Member x (trees_vars (trees_of ts)) → P (sorted w x)) → EachVarIn P (map (instance (by_binder w)) ts)
each_in_sorted P w [] h = tt
each_in_sorted P w (t ∷ ts) h = (each_sorted P w t (λ x m. h x (member_left (trees_vars (trees_of ts)) m)), each_in_sorted P w ts (λ x m. h x (member_right (tree_vars t) m)))

pub facts_sorted : (P : Var → Type 0) (w : List Var) (fs : List Fact) → ((x : Var) → Member x (facts_vars fs) → P (sorted w x)) → FactVars P (instance_facts (by_binder w) fs)
facts_sorted P w [] h = tt
facts_sorted P w (f ∷ fs) h = (each_in_sorted P w f.args (λ x m. h x (member_left (facts_vars fs) m)), facts_sorted P w fs (λ x m. h x (member_right (trees_vars (trees_of f.args)) m)))
