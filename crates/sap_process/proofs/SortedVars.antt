-- Variables that get the sorts of their binders.
use Rattle.std.proofs.Common.{◌≡◌, suc, List, [], ◌∷◌, ◌++◌, Option, Some, None, refl, sym, ap, ◌∙◌, Bool, true, false, ◌||◌, cond, map, subst, length}
use Rattle.std.specs.Option.{option_map_or}
use Rattle.std.specs.Str.{bytes_eq}
use Rattle.sap_terms.specs.Choice.{Choice, instance, instances}
use Rattle.sap_terms.specs.Message.{IsOver, AreOver}
use Rattle.sap_terms.specs.Modulo.{instance_facts}
use Rattle.sap_terms.specs.Signature.{Sig}
use Rattle.sap_terms.specs.Tree.{Tree, variable, public, fresh, apply, Trees, none, more, trees_of, list_of}
use Rattle.sap_terms.specs.Variables.{tree_vars, trees_vars, facts_vars, is_known, new_vars}
use Rattle.sap_terms.specs.declared.fact.Fact.{Fact}
use Rattle.sap_terms.specs.declared.var.Var.{Var}
use Rattle.sap_process.specs.Flaws.{binder_of}
use Rattle.sap_process.specs.Sites.{var_names}
use Rattle.sap_process.specs.Sorted.{by_binder}
use Rattle.sap_process.proofs.Instances.{instances-trees_of}
use Rattle.sap_process.proofs.Names.{Name, Member, same_name_self, names-append, new_free}

-- the variable with the sort of its binder in the scope
abbrev pub sorted : List Var → Var → Var
sorted w x = option_map_or (λ (b : Var). record { name = x.name; sort = b.sort }) (binder_of w x.name) x

pub by_sorted : (w : List Var) (x : Var) → by_binder w x ≡ variable (sorted w x)
by_sorted w x = go (binder_of w x.name)
  where
    go : (o : Option Var) → option_map_or (λ (b : Var). variable (record { name = x.name; sort = b.sort })) o (variable x) ≡ variable (option_map_or (λ (b : Var). record { name = x.name; sort = b.sort }) o x)
    go None = refl
    go (Some b) = refl

pub sorted_name : (w : List Var) (x : Var) → (sorted w x).name ≡ x.name
sorted_name w x = go (binder_of w x.name)
  where
    go : (o : Option Var) → (option_map_or (λ (b : Var). record { name = x.name; sort = b.sort }) o x).name ≡ x.name
    go None = refl
    go (Some b) = refl

-- the variables of a sorted term
pub map_joined : {A B : Type 0} (f : A → B) (xs ys : List A) → map f (xs ++ ys) ≡ map f xs ++ map f ys
map_joined f [] ys = refl
map_joined f (x ∷ xs) ys = ap (λ zs. f x ∷ zs) (map_joined f xs ys)

mutual
  pub vars_sorted : (w : List Var) (t : Tree) → tree_vars (instance (by_binder w) t) ≡ map (sorted w) (tree_vars t)
  vars_sorted w (variable x) = ap tree_vars (by_sorted w x)
  vars_sorted w (public a) = refl
  vars_sorted w (fresh n) = refl
  vars_sorted w (apply f ts) = vars_each_sorted w ts

  pub vars_each_sorted : (w : List Var) (ts : Trees) → trees_vars (instances (by_binder w) ts) ≡ map (sorted w) (trees_vars ts)
  vars_each_sorted w none = refl
  vars_each_sorted w (more t ts) = (λ i. vars_sorted w t i ++ vars_each_sorted w ts i) ∙ sym (map_joined (sorted w) (tree_vars t) (trees_vars ts))

pub vars_facts_sorted : (w : List Var) (fs : List Fact) → facts_vars (instance_facts (by_binder w) fs) ≡ map (sorted w) (facts_vars fs)
vars_facts_sorted w [] = refl
vars_facts_sorted w (f ∷ fs) =
    (λ i. (ap trees_vars (sym (instances-trees_of (by_binder w) f.args)) ∙ vars_each_sorted w (trees_of f.args)) i ++ vars_facts_sorted w fs i)
    ∙ sym (map_joined (sorted w) (trees_vars (trees_of f.args)) (facts_vars fs))

-- the new variables of a list whose variables get other sorts, where as much is known of their names
pub new_mapped : (f : Var → Var) → ((x : Var) → (f x).name ≡ x.name) → (known known' : List Name) (ws : List Var) → ((n : Name) → is_known (var_names ws) n ≡ true → is_known known' n ≡ is_known known n) → new_vars known' (map f ws) ≡ map f (new_vars known ws)
new_mapped f same known known' [] h = refl
new_mapped f same known known' (x ∷ ws) h = go (is_known known x.name) refl (is_known known' (f x).name) (ap (is_known known') (same x) ∙ h x.name (head x.name ws)) (new_mapped f same known known' ws (λ n k. h n (tail x.name ws n k))) (new_mapped f same (known ++ x.name ∷ []) (known' ++ (f x).name ∷ []) ws (λ n k. names-append known' ((f x).name ∷ []) n ∙ (λ i. h n (tail x.name ws n k) i || (bytes_eq (same x i) n || false)) ∙ sym (names-append known (x.name ∷ []) n)))
  where
    head : (n : Name) (vs : List Var) → (bytes_eq n n || is_known (var_names vs) n) ≡ true
    head n vs = ap (λ b. b || is_known (var_names vs) n) (same_name_self n)

    tail : (m : Name) (vs : List Var) (n : Name) → is_known (var_names vs) n ≡ true → (bytes_eq m n || is_known (var_names vs) n) ≡ true
    tail m vs n k = at (bytes_eq m n)
      where
        at : (b : Bool) → (b || is_known (var_names vs) n) ≡ true
        at true = refl
        at false = k

    go : (b : Bool) → is_known known x.name ≡ b → (c : Bool) → c ≡ is_known known x.name → new_vars known' (map f ws) ≡ map f (new_vars known ws) → new_vars (known' ++ (f x).name ∷ []) (map f ws) ≡ map f (new_vars (known ++ x.name ∷ []) ws) → cond c (new_vars known' (map f ws)) (f x ∷ new_vars (known' ++ (f x).name ∷ []) (map f ws)) ≡ map f (cond (is_known known x.name) (new_vars known ws) (x ∷ new_vars (known ++ x.name ∷ []) ws))
    go true e c d one two = rw (d ∙ e, e) one
    go false e c d one two = rw (d ∙ e, e) (ap (λ vs. f x ∷ vs) two)

-- the binder of what is new is itself
binder_left : (v ns : List Var) (n : Name) → is_known (var_names v) n ≡ false → binder_of (v ++ ns) n ≡ binder_of ns n
binder_left [] ns n e = refl
binder_left (y ∷ v) ns n e = go (bytes_eq y.name n) refl e (binder_left v ns n)
  where
    go : (b : Bool) → bytes_eq y.name n ≡ b → (b || is_known (var_names v) n) ≡ false → (is_known (var_names v) n ≡ false → binder_of (v ++ ns) n ≡ binder_of ns n) → cond b (Some y) (binder_of (v ++ ns) n) ≡ binder_of ns n
    go true h k later = cc
    go false h k later = later k

or_right : (b c : Bool) → (b || (c || false)) ≡ false → c ≡ false
or_right true c e = cc
or_right false true e = cc
or_right false false e = refl

binder_first : (y : Var) (ns : List Var) (x : Var) → Member x (y ∷ ns) → (Member x ns → (bytes_eq y.name x.name ≡ false) × (binder_of ns x.name ≡ Some x)) → binder_of (y ∷ ns) x.name ≡ Some x
binder_first y ns x Member.here rest = ap (λ b. cond b (Some x) (binder_of ns x.name)) (same_name_self x.name)
binder_first y ns x (Member.later m) rest = let r = rest m in ap (λ b. cond b (Some y) (binder_of ns x.name)) r.0 ∙ r.1

binder_new : (known : List Name) (ws : List Var) (x : Var) → Member x (new_vars known ws) → binder_of (new_vars known ws) x.name ≡ Some x
binder_new known [] x m = elim m [ ]
binder_new known (y ∷ ws) x m = go (is_known known y.name) m (λ k. binder_new known ws x k) (λ k. binder_new (known ++ y.name ∷ []) ws x k)
  where
    go : (b : Bool) → Member x (cond b (new_vars known ws) (y ∷ new_vars (known ++ y.name ∷ []) ws)) → (Member x (new_vars known ws) → binder_of (new_vars known ws) x.name ≡ Some x) → (Member x (new_vars (known ++ y.name ∷ []) ws) → binder_of (new_vars (known ++ y.name ∷ []) ws) x.name ≡ Some x) → binder_of (cond b (new_vars known ws) (y ∷ new_vars (known ++ y.name ∷ []) ws)) x.name ≡ Some x
    go true k one two = one k
    go false k one two = binder_first y (new_vars (known ++ y.name ∷ []) ws) x k (λ j. (or_right (is_known known x.name) (bytes_eq y.name x.name) (sym (names-append known (y.name ∷ []) x.name) ∙ new_free (known ++ y.name ∷ []) ws x j), two j))

pub sorted_new : (v ws : List Var) → map (sorted (v ++ new_vars (var_names v) ws)) (new_vars (var_names v) ws) ≡ new_vars (var_names v) ws
sorted_new v ws = at (new_vars (var_names v) ws) (λ x m. same x m)
  where
    same : (x : Var) → Member x (new_vars (var_names v) ws) → sorted (v ++ new_vars (var_names v) ws) x ≡ x
    same x m = ap (λ o. option_map_or (λ (b : Var). record { name = x.name; sort = b.sort }) o x) (binder_left v (new_vars (var_names v) ws) x.name (new_free (var_names v) ws x m) ∙ binder_new (var_names v) ws x m)

    at : (ns : List Var) → ((x : Var) → Member x ns → sorted (v ++ new_vars (var_names v) ws) x ≡ x) → map (sorted (v ++ new_vars (var_names v) ws)) ns ≡ ns
    at [] h = refl
    at (x ∷ ns) h = (λ i. h x Member.here i ∷ at ns (λ y m. h y (Member.later m)) i)

-- terms over a signature

pub list_length : (σ : Choice) (ts : Trees) → length (list_of (instances σ ts)) ≡ length (list_of ts)
list_length σ none = refl
list_length σ (more t ts) = ap suc (list_length σ ts)

mutual
  pub over_sorted : (g : Sig) (w : List Var) (t : Tree) → IsOver g t → IsOver g (instance (by_binder w) t)
  over_sorted g w (variable x) o = subst (IsOver g) (sym (by_sorted w x)) tt
  over_sorted g w (public n) o = tt
  over_sorted g w (fresh k) o = tt
  over_sorted g w (apply f ts) o = (o.0 ∙ ap Some (sym (list_length (by_binder w) ts)), each_over_sorted g w ts o.1)

  each_over_sorted : (g : Sig) (w : List Var) (ts : Trees) → AreOver g ts → AreOver g (instances (by_binder w) ts)
  each_over_sorted g w none o = tt
  each_over_sorted g w (more t ts) o = (over_sorted g w t o.0, each_over_sorted g w ts o.1)
