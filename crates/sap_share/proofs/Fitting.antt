-- Matching of patterns against numbers: what is found of a variable, of a symbol, and of one pattern after another.
use Rattle.std.proofs.Common.{◌≡◌, ◌<◌, ◌≤◌, ◌+◌, ℕ, zero, suc, drop, List, [], ◌∷◌, ◌++◌, length, map, Some, None, Bool, true, false, if◌then◌else◌, inl, inr, refl, sym, ap, subst, ◌∙◌, arith, append_assoc}
use Rattle.std.specs.Prelude.{Contains, slice_get}
use Rattle.std.specs.Str.{bytes_eq}
use Rattle.std.proofs.lemmas.Bool.{false≢true}
use Rattle.std.proofs.lemmas.List.{append-nil, drop_all, map-append, length-map}
use Rattle.std.proofs.lemmas.List.Elements.{All-head, All-tail, Contains-append_left, Contains-append_right, Contains-append_cases}
use Rattle.std.proofs.lemmas.Slice.Eq.{bytes_eq-Decides}
use Rattle.sap_terms.proofs.PlainLaws.Lists.{drop_got}
use Rattle.sap_terms.proofs.PlainLaws.Tests.{same_name}
use Rattle.sap_terms.specs.Choice.{Choice, fits_sort, instances}
use Rattle.sap_terms.specs.Subst.{bound_to, subst_tree}
use Rattle.sap_terms.specs.Tree.{Tree, variable, apply, Trees, none, more, trees_of}
use Rattle.sap_terms.specs.Variables.{tree_vars, trees_vars, is_known, new_vars}
use Rattle.sap_terms.specs.View.{tree, term, tree-term, term-tree}
use Rattle.sap_terms.specs.declared.var.Var.{Var}
use Rattle.sap_terms.specs.declared.binding.Binding.{Binding}
use Rattle.sap_rewrite.specs.Bound.{ExtensionsJoin}
use Rattle.sap_rewrite.specs.Match.{AllSorted, Extends, Agrees, HaveOneSort, bound_vars, names, IsOnlyMatch, HasNoMatch}
use Rattle.sap_share.specs.Env.{AreBound, bindings_of}
use Rattle.sap_share.specs.Shared.{tree_at, trees_at}
use Rattle.sap_share.specs.code.Found.{number_of_name}
use Rattle.sap_share.specs.code.Matching.{Finds, Fails, FindsAll, FailsAll}
use Rattle.sap_share.specs.declared.env.Bound.{Bound}

-- a name that is bound: what it is bound to, and the entry that does it
record IsBoundTo (b : List Binding) (v : Var) (t : Tree) : Type 0 where
  known : is_known (names b) v.name ≡ true
  to : (d : List Binding) → bound_to (b ++ d) v ≡ t
  entry : (w : Var) × Contains (bound_vars b) w × (w.name ≡ v.name) × ((σ : Choice) → Agrees b σ → σ w ≡ t)

record IsUnbound (b : List Binding) (v : Var) : Type 0 where
  known : is_known (names b) v.name ≡ false
  to : (d : List Binding) → bound_to (b ++ d) v ≡ bound_to d v

bound_here : (e : Binding) (b : List Binding) (v : Var) → bytes_eq e.var.name v.name ≡ true → IsBoundTo (e ∷ b) v (tree e.term)
bound_here e b v h = record {
  known = rw h refl;
  to = λ d. rw h refl;
  entry = (e.var, Contains-append_left (e.var ∷ []) (bound_vars b) e.var (zero, omega arith, refl), (bytes_eq-Decides e.var.name v.name).0 h, λ σ a. a.0);
}

bound_later : (e : Binding) (b : List Binding) (v : Var) (t : Tree) → bytes_eq e.var.name v.name ≡ false → IsBoundTo b v t → IsBoundTo (e ∷ b) v t
bound_later e b v t h r = record {
  known = rw h r.known;
  to = λ d. rw h (r.to d);
  entry = (r.entry.0, Contains-append_right (e.var ∷ []) (bound_vars b) r.entry.0 r.entry.1, r.entry.2, λ σ a. r.entry.3 σ a.1);
}

unbound_later : (e : Binding) (b : List Binding) (v : Var) → bytes_eq e.var.name v.name ≡ false → IsUnbound b v → IsUnbound (e ∷ b) v
unbound_later e b v h r = record { known = rw h r.known; to = λ d. rw h (r.to d) }

found : (ts : List Tree) (env : List Bound) (v : Var) (k : ℕ) → Some k ≡ number_of_name env v.name → IsBoundTo (bindings_of ts env) v (tree_at ts k)
found ts [] v k h = cc
found ts (e ∷ es) v k h = by (bytes_eq e.var.name v.name) refl h (found ts es v k) where
  x : Binding
  x = record { var = e.var; term = term (tree_at ts e.id) }

  by : (b : Bool) → bytes_eq e.var.name v.name ≡ b → Some k ≡ (if b then Some e.id else number_of_name es v.name) → (Some k ≡ number_of_name es v.name → IsBoundTo (bindings_of ts es) v (tree_at ts k)) → IsBoundTo (x ∷ bindings_of ts es) v (tree_at ts k)
  by true t h rest = let same : k ≡ e.id = cc in subst (IsBoundTo (x ∷ bindings_of ts es) v) (tree-term (tree_at ts e.id) ∙ ap (tree_at ts) (sym same)) (bound_here x (bindings_of ts es) v t)
  by false t h rest = bound_later x (bindings_of ts es) v (tree_at ts k) t (rest h)

not_found : (ts : List Tree) (env : List Bound) (v : Var) → None ≡ number_of_name env v.name → IsUnbound (bindings_of ts env) v
not_found ts [] v h = record { known = refl; to = λ d. refl }
not_found ts (e ∷ es) v h = by (bytes_eq e.var.name v.name) refl h (not_found ts es v) where
  x : Binding
  x = record { var = e.var; term = term (tree_at ts e.id) }

  by : (b : Bool) → bytes_eq e.var.name v.name ≡ b → None ≡ (if b then Some e.id else number_of_name es v.name) → (None ≡ number_of_name es v.name → IsUnbound (bindings_of ts es) v) → IsUnbound (x ∷ bindings_of ts es) v
  by true t h rest = cc
  by false t h rest = unbound_later x (bindings_of ts es) v t (rest h)

-- what is found is below the count
pub found_below : (count : ℕ) (env : List Bound) (n : List ℕ) (k : ℕ) → AreBound count env → Some k ≡ number_of_name env n → k < count
found_below count [] n k f h = cc
found_below count (b ∷ bs) n k f h =
    let P : Bound → Type 0 = λ c. c.id < count in
    by (bytes_eq b.var.name n) h (All-head P b bs f) (found_below count bs n k (All-tail P b bs f)) where
      by : (c : Bool) → Some k ≡ (if c then Some b.id else number_of_name bs n) → b.id < count → (Some k ≡ number_of_name bs n → k < count) → k < count
      by true h here later = let same : k ≡ b.id = cc in rw same here
      by false h here later = later h

-- a variable that is bound, to the tree and to another
finds_bound : (b : List Binding) (v : Var) (t : Tree) → IsBoundTo b v t → Finds (variable v) t b b
finds_bound b v t h = record {
  extends = record { added = []; is = sym (append-nil b); on = rw h.known refl; sorted = tt };
  turns = h.to;
  only = λ ws d x _. record { added = x.added; is = x.is; on = x.on ∙ ap (λ r. if r then new_vars (names b) ws else v ∷ new_vars (names b ++ v.name ∷ []) ws) h.known; sorted = x.sorted };
  of_all = λ σ s a _. a;
}

fails_bound : (b : List Binding) (v : Var) (t u : Tree) → IsBoundTo b v u → (u ≡ t → ⊥) → Fails (variable v) t b
fails_bound b v t u h other = record {
  none = λ ws d x turns. other (sym (h.to x.added) ∙ ap (λ e. bound_to e v) (sym x.is) ∙ turns);
  of_none = λ one σ s a turns.
      let w = h.entry.0 in
      let same : w ≡ v = one w v (Contains-append_left (bound_vars b) (v ∷ []) w h.entry.1) (Contains-append_right (bound_vars b) (v ∷ []) v (zero, omega arith, refl)) h.entry.2 in
      other (sym (h.entry.3 σ a) ∙ ap σ same ∙ turns);
}

-- what begins to extend by a variable that isn't bound
record Begins (b : List Binding) (v : Var) (ws : List Var) (d : List Binding) : Type 0 where
  first : Binding
  rest : List Binding
  is : d ≡ b ++ first ∷ rest
  var : first.var ≡ v
  on : map (λ (e : Binding). e.var) rest ≡ new_vars (names b ++ v.name ∷ []) ws
  sorted : fits_sort first.var.sort (tree first.term) ≡ true
  rest_sorted : AllSorted rest
  to : bound_to d v ≡ tree first.term

begins : (b : List Binding) (v : Var) (ws : List Var) (d : List Binding) → IsUnbound b v → Extends b (v ∷ ws) d → Begins b v ws d
begins b v ws d h x = by x.added x.is (x.on ∙ ap (λ r. if r then new_vars (names b) ws else v ∷ new_vars (names b ++ v.name ∷ []) ws) h.known) x.sorted where
  by : (a : List Binding) → d ≡ b ++ a → map (λ (e : Binding). e.var) a ≡ v ∷ new_vars (names b ++ v.name ∷ []) ws → AllSorted a → Begins b v ws d
  by [] is on sorted = cc
  by (e ∷ es) is on sorted =
      let same : e.var ≡ v = cc in
      let own : bytes_eq e.var.name v.name ≡ true = (bytes_eq-Decides e.var.name v.name).1 (ap (λ (w : Var). w.name) same) in
      record {
        first = e;
        rest = es;
        is = is;
        var = same;
        on = cc;
        sorted = sorted.0;
        rest_sorted = sorted.1;
        to = ap (λ c. bound_to c v) is ∙ h.to (e ∷ es) ∙ ap (λ r. if r then tree e.term else bound_to es v) own;
      }

fails_sort : (b : List Binding) (v : Var) (t : Tree) → IsUnbound b v → fits_sort v.sort t ≡ false → Fails (variable v) t b
fails_sort b v t h unfit = record {
  none = λ ws d x turns.
      let y = begins b v ws d h x in
      false≢true (sym unfit ∙ ap (fits_sort v.sort) (sym turns ∙ y.to) ∙ ap (λ (w : Var). fits_sort w.sort (tree y.first.term)) (sym y.var) ∙ y.sorted);
  of_none = λ one σ s a turns. false≢true (sym unfit ∙ ap (fits_sort v.sort) (sym turns) ∙ s v);
}

agrees_more : (b : List Binding) (e : Binding) (σ : Choice) → Agrees b σ → σ e.var ≡ tree e.term → Agrees (b ++ e ∷ []) σ
agrees_more [] e σ a h = (h, tt)
agrees_more (x ∷ xs) e σ a h = (a.0, agrees_more xs e σ a.1 h)

finds_new : (b : List Binding) (v : Var) (t : Tree) → IsUnbound b v → fits_sort v.sort t ≡ true → Finds (variable v) t b (b ++ record { var = v; term = term t } ∷ [])
finds_new b v t h fit =
    let e : Binding = record { var = v; term = term t } in
    let longer : names (b ++ e ∷ []) ≡ names b ++ v.name ∷ [] = map-append (λ (x : Binding). x.var.name) b (e ∷ []) in
    record {
      extends = record { added = e ∷ []; is = refl; on = rw h.known refl; sorted = (ap (fits_sort v.sort) (tree-term t) ∙ fit, tt) };
      turns = λ d. ap (λ c. bound_to c v) (append_assoc b (e ∷ []) d) ∙ h.to (e ∷ d) ∙ ap (λ r. if r then tree (term t) else bound_to d v) (same_name v.name) ∙ tree-term t;
      only = λ ws d x turns.
          let y = begins b v ws d h x in
          let own : y.first.term ≡ term t = sym (term-tree y.first.term) ∙ ap term (sym y.to ∙ turns) in
          let same : y.first ≡ e = λ i. record { var = y.var i; term = own i } in
          record {
            added = y.rest;
            is = y.is ∙ ap (λ z. b ++ z ∷ y.rest) same ∙ sym (append_assoc b (e ∷ []) y.rest);
            on = y.on ∙ ap (λ ns. new_vars ns ws) (sym longer);
            sorted = y.rest_sorted;
          };
      of_all = λ σ s a turns. agrees_more b e σ a (turns ∙ sym (tree-term t));
    }

-- a variable, by what the look-up gave
pub fit_found : (ts : List Tree) (env : List Bound) (v : Var) (k id : ℕ) (r : Bool) → Some k ≡ number_of_name env v.name → ((r ≡ true → tree_at ts k ≡ tree_at ts id) × (tree_at ts k ≡ tree_at ts id → r ≡ true))
    → (r ≡ true → Finds (variable v) (tree_at ts id) (bindings_of ts env) (bindings_of ts env)) × (r ≡ false → Fails (variable v) (tree_at ts id) (bindings_of ts env))
fit_found ts env v k id r h same = (
  λ on. finds_bound (bindings_of ts env) v (tree_at ts id) (subst (IsBoundTo (bindings_of ts env) v) (same.0 on) (found ts env v k h)),
  λ off. fails_bound (bindings_of ts env) v (tree_at ts id) (tree_at ts k) (found ts env v k h) (λ e. false≢true (sym off ∙ same.1 e)),
)

pub fit_unfit : (ts : List Tree) (env : List Bound) (v : Var) (id : ℕ) → None ≡ number_of_name env v.name → fits_sort v.sort (tree_at ts id) ≡ false → Fails (variable v) (tree_at ts id) (bindings_of ts env)
fit_unfit ts env v id h unfit = fails_sort (bindings_of ts env) v (tree_at ts id) (not_found ts env v h) unfit

pub fit_new : (ts : List Tree) (env pushed : List Bound) (v w : Var) (id : ℕ) → None ≡ number_of_name env v.name → fits_sort v.sort (tree_at ts id) ≡ true → w ≡ v → pushed ≡ env ++ record { var = w; id = id } ∷ []
    → Finds (variable v) (tree_at ts id) (bindings_of ts env) (bindings_of ts pushed)
fit_new ts env pushed v w id h fit same is =
    let longer : bindings_of ts pushed ≡ bindings_of ts env ++ record { var = v; term = term (tree_at ts id) } ∷ [] =
    ap (bindings_of ts) is ∙ map-append (λ (b : Bound). record { var = b.var; term = term (tree_at ts b.id) }) env (record { var = w; id = id } ∷ []) ∙ ap (λ u. bindings_of ts env ++ record { var = u; term = term (tree_at ts id) } ∷ []) same in
    subst (Finds (variable v) (tree_at ts id) (bindings_of ts env)) (sym longer) (finds_new (bindings_of ts env) v (tree_at ts id) (not_found ts env v h) fit)

-- patterns that no choice turns into the trees
fails_all_other : (ps ts : Trees) (b : List Binding) → ((σ : Choice) → instances σ ps ≡ ts → ⊥) → FailsAll ps ts b
fails_all_other ps ts b never = record { none = λ ws d x turns. never (bound_to d) turns; of_none = λ one σ s a turns. never σ turns }

-- bindings extend themselves by nothing
extends_self : (b : List Binding) → Extends b [] b
extends_self b = record { added = []; is = sym (append-nil b); on = refl; sorted = tt }

-- a symbol on patterns that fail
pub fails_symbol : (f g : List ℕ) (ps ts : Trees) (b : List Binding) → FailsAll ps ts b → Fails (apply f ps) (apply g ts) b
fails_symbol f g ps ts b x = record {
  none = λ ws d e turns. x.none ws d e (cc);
  of_none = λ one σ s a turns. x.of_none one σ s a (cc);
}

-- lists of other lengths
same_length : (σ : Choice) (ps ts : List Tree) → instances σ (trees_of ps) ≡ trees_of ts → length ps ≡ length ts
same_length σ [] [] h = refl
same_length σ [] (t ∷ ts) h = cc
same_length σ (p ∷ ps) [] h = cc
same_length σ (p ∷ ps) (t ∷ ts) h = let rest : instances σ (trees_of ps) ≡ trees_of ts = cc in ap suc (same_length σ ps ts rest)

pub fails_length : (ts ps : List Tree) (ks : List ℕ) (b : List Binding) → (length ps ≡ length ks → ⊥) → FailsAll (trees_of ps) (trees_of (trees_at ts ks)) b
fails_length ts ps ks b other = fails_all_other (trees_of ps) (trees_of (trees_at ts ks)) b (λ σ e. other (same_length σ ps (trees_at ts ks) e ∙ length-map ks (tree_at ts)))

finds_none : (b : List Binding) → FindsAll none none b b
finds_none b = record { extends = extends_self b; turns = λ d. refl; only = λ ws d x _. x; of_all = λ σ s a _. a }

-- the ends of two lists
pub finds_end : (ts ps : List Tree) (ks : List ℕ) (n : ℕ) (b : List Binding) → length ps ≤ n → length ks ≤ n → FindsAll (trees_of (drop n ps)) (trees_of (trees_at ts (drop n ks))) b b
finds_end ts ps ks n b h k = rw (drop_all n ps h, drop_all n ks k) (finds_none b)

-- one pattern and then the others
one_sort_in : (vs ws : List Var) → ((v : Var) → Contains vs v → Contains ws v) → HaveOneSort ws → HaveOneSort vs
one_sort_in vs ws among one v w hv hw e = one v w (among v hv) (among w hw) e

module _ (join : ExtensionsJoin) (p t : Tree) (ps ts : Trees) (b c : List Binding) where
  again : (ws : List Var) (d : List Binding) → Extends b ((tree_vars p ++ trees_vars ps) ++ ws) d → Extends b (tree_vars p ++ (trees_vars ps ++ ws)) d
  again ws d x = subst (λ vs. Extends b vs d) (append_assoc (tree_vars p) (trees_vars ps) ws) x

  pub finds_more : (d : List Binding) → Finds p t b c → FindsAll ps ts c d → FindsAll (more p ps) (more t ts) b d
  finds_more d x y = record {
    extends = join.in_turn b c d (tree_vars p) (trees_vars ps) x.extends y.extends;
    turns = λ e.
        let longer : d ++ e ≡ c ++ (y.extends.added ++ e) = ap (λ z. z ++ e) y.extends.is ∙ append_assoc c y.extends.added e in
        let head : subst_tree (d ++ e) p ≡ t = ap (λ z. subst_tree z p) longer ∙ x.turns (y.extends.added ++ e) in
        λ i. more (head i) (y.turns e i);
    only = λ ws e z turns. y.only ws e (x.only (trees_vars ps ++ ws) e (again ws e z) (cc)) (cc);
    of_all = λ σ s a turns. y.of_all σ s (x.of_all σ s a (cc)) (cc);
  }

  pub fails_first : Fails p t b → FailsAll (more p ps) (more t ts) b
  fails_first x = record {
    none = λ ws e z turns. x.none (trees_vars ps ++ ws) e (again ws e z) (cc);
    of_none = λ one σ s a turns. x.of_none (one_sort_in _ _ among one) σ s a (cc);
  } where
    among : (v : Var) → Contains (bound_vars b ++ tree_vars p) v → Contains (bound_vars b ++ (tree_vars p ++ trees_vars ps)) v
    among v h = subst (λ vs. Contains vs v) (append_assoc (bound_vars b) (tree_vars p) (trees_vars ps)) (Contains-append_left (bound_vars b ++ tree_vars p) (trees_vars ps) v h)

  pub fails_later : Finds p t b c → FailsAll ps ts c → FailsAll (more p ps) (more t ts) b
  fails_later x y = record {
    none = λ ws e z turns. y.none ws e (x.only (trees_vars ps ++ ws) e (again ws e z) (cc)) (cc);
    of_none = λ one σ s a turns. y.of_none (one_sort_in _ _ among one) σ s (x.of_all σ s a (cc)) (cc);
  } where
    among : (v : Var) → Contains (bound_vars c ++ trees_vars ps) v → Contains (bound_vars b ++ (tree_vars p ++ trees_vars ps)) v
    among v h = subst (λ vs. Contains vs v) (append_assoc (bound_vars b) (tree_vars p) (trees_vars ps)) (elim (Contains-append_cases (bound_vars c) (trees_vars ps) v h) as (λ _. Contains ((bound_vars b ++ tree_vars p) ++ trees_vars ps) v) [
      | inl l ↦ Contains-append_left (bound_vars b ++ tree_vars p) (trees_vars ps) v (join.bind_no_others b c (tree_vars p) x.extends v l)
      | inr r ↦ Contains-append_right (bound_vars b ++ tree_vars p) (trees_vars ps) v r
    ])

-- what is left of two lists, one pair further
pub fit_rest : (ts ps : List Tree) (ks : List ℕ) (i : ℕ) (p : Tree) (k : ℕ) → slice_get ps i ≡ Some p → slice_get ks i ≡ Some k
    → (trees_of (drop i ps) ≡ more p (trees_of (drop (i + 1) ps))) × (trees_of (trees_at ts (drop i ks)) ≡ more (tree_at ts k) (trees_of (trees_at ts (drop (i + 1) ks))))
fit_rest ts ps ks i p k hp hk = (ap trees_of (drop_got ps i p hp), ap (λ js. trees_of (trees_at ts js)) (drop_got ks i k hk))

-- a whole pattern
pub only_match : (p t : Tree) (b c : List Binding) → Finds p t b c → IsOnlyMatch p t b c
only_match p t b c x = record {
  is_match = record { extends = x.extends; turns = subst (λ d. subst_tree d p ≡ t) (append-nil c) (x.turns []) };
  only = λ d m. same d (x.only [] d (subst (λ vs. Extends b vs d) (sym (append-nil (tree_vars p))) m.extends) m.turns);
  of_all = λ _ σ q. x.of_all σ q.sorted q.agrees q.is;
} where
  same : (d : List Binding) → Extends c [] d → d ≡ c
  same d e = e.is ∙ ap (λ z. c ++ z) (nothing e.added e.on) ∙ append-nil c where
    nothing : (a : List Binding) → map (λ (x : Binding). x.var) a ≡ [] → a ≡ []
    nothing [] h = refl
    nothing (x ∷ xs) h = cc

pub no_match : (p t : Tree) (b : List Binding) → Fails p t b → HasNoMatch p t b
no_match p t b x = record {
  none = λ c m. x.none [] c (subst (λ vs. Extends b vs c) (sym (append-nil (tree_vars p))) m.extends) m.turns;
  of_none = λ one σ q. x.of_none one σ q.sorted q.agrees q.is;
}

-- one symbol on patterns and on trees that are matched
pub finds_symbol : (f : List ℕ) (ps ts : Trees) (b c : List Binding) → FindsAll ps ts b c → Finds (apply f ps) (apply f ts) b c
finds_symbol f ps ts b c x = record {
  extends = x.extends;
  turns = λ d. ap (apply f) (x.turns d);
  only = λ ws d e turns. x.only ws d e (cc);
  of_all = λ σ s a turns. x.of_all σ s a (cc);
}

pub ruleset fit_laws = (found_below)
