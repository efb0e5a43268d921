-- The sorts of binders leave a process over the signature printable.
use Rattle.std.proofs.Common.{◌≡◌, ℕ, Bool, true, false, List, [], ◌∷◌, ◌++◌, map, cond, Option, Some, None, refl, sym, ap, subst, ◌∙◌}
use Rattle.std.specs.Prelude.{All, if◌then◌else◌}
use Rattle.std.specs.List.{AllByRecursion}
use Rattle.std.specs.Option.{option_map_or}
use Rattle.std.specs.Str.{bytes_eq}
use Rattle.std.proofs.lemmas.List.Elements.{All-map, recursion_from_All}
use Rattle.std.proofs.lemmas.Slice.Eq.{bytes_eq-Decides}
use Rattle.sap_terms.specs.declared.fact.Fact.{Fact}
use Rattle.sap_terms.specs.declared.var.Var.{Var}
use Rattle.sap_terms.specs.Choice.{Choice, instance, instances}
use Rattle.sap_terms.specs.Modulo.{instance_fact, instance_facts}
use Rattle.sap_terms.specs.Signature.{Sig}
use Rattle.sap_terms.specs.Tree.{Tree, variable, public, fresh, apply, Trees, none, more, trees_of}
use Rattle.sap_terms.specs.Variables.{tree_vars, trees_vars, facts_vars, is_known, new_vars}
use Rattle.sap_grammar.specs.ByteWords.{IsName}
use Rattle.sap_grammar.specs.TermText.{is_pair}
use Rattle.sap_grammar.specs.Printable.{IsTidyVariable, IsTidyUse, IsTidy, AreTidy, HasNames, HaveNames, IsPrintableTerm, IsPrintableFact}
use Rattle.sap_process.specs.Action.{Action, new, out, send, input, receive, event, insert, delete, lock, unlock, embedded}
use Rattle.sap_process.specs.Instance.{action_instance}
use Rattle.sap_process.specs.Proc.{Proc, nil, parallel, replicated, act, test, lookup}
use Rattle.sap_process.specs.Flaws.{binder_of}
use Rattle.sap_process.specs.Sites.{bound_by, var_names, message_var}
use Rattle.sap_process.specs.Sorted.{by_binder, binding_fresh, with_sorts}
use Rattle.sap_draft.specs.Printable.{IsPrintableAct, IsPrintableAction}
use Rattle.sap_read.specs.Printable.{IsPrintableProcess}
use Rattle.sap_read.proofs.EachOf.{both}
use Rattle.sap_read.proofs.ProcessOver.{IsProcessOver}

pub args_instances : (σ : Choice) (ts : List Tree) → trees_of (map (instance σ) ts) ≡ instances σ (trees_of ts)
args_instances σ [] = refl
args_instances σ (t ∷ ts) = ap (λ (us : Trees). more (instance σ t) us) (args_instances σ ts)

pub pair_kept : (σ : Choice) (f : List ℕ) (ts : Trees) → is_pair f (instances σ ts) ≡ is_pair f ts
pair_kept σ f none = refl
pair_kept σ f (more t none) = refl
pair_kept σ f (more t (more u none)) = refl
pair_kept σ f (more t (more u (more w ts))) = refl

module _ (most : ℕ) (g : Sig) where
  -- Choices of terms that can be printed.

  -- what stands for a variable can be printed where the variable can
  record KeepsPrintable (σ : Choice) : Type 0 where
    tidy : (v : Var) → IsTidyVariable g v.sort v.name → IsTidy g (σ v)
    names : (v : Var) → IsName most v.name → HasNames most (σ v)

  use_kept : (σ : Choice) (f : List ℕ) (ts : Trees) → IsTidyUse g f ts → IsTidyUse g f (instances σ ts)
  use_kept σ f none h = h
  use_kept σ f (more t ts) h = h

  module _ (σ : Choice) (keeps : KeepsPrintable σ) where
    mutual
      tidy_kept : (t : Tree) → IsTidy g t → IsTidy g (instance σ t)
      tidy_kept (variable v) h = keeps.tidy v h
      tidy_kept (public n) h = h
      tidy_kept (fresh k) h = h
      tidy_kept (apply f ts) h = (use_kept σ f ts h.0, all_tidy_kept ts h.1)

      all_tidy_kept : (ts : Trees) → AreTidy g ts → AreTidy g (instances σ ts)
      all_tidy_kept none h = h
      all_tidy_kept (more t ts) h = (tidy_kept t h.0, all_tidy_kept ts h.1)

    mutual
      names_kept : (t : Tree) → HasNames most t → HasNames most (instance σ t)
      names_kept (variable v) h = keeps.names v h
      names_kept (public n) h = h
      names_kept (fresh k) h = h
      names_kept (apply f ts) h = (λ e. h.0 (sym (pair_kept σ f ts) ∙ e), all_names_kept ts h.1)

      all_names_kept : (ts : Trees) → HaveNames most ts → HaveNames most (instances σ ts)
      all_names_kept none h = h
      all_names_kept (more t ts) h = (names_kept t h.0, all_names_kept ts h.1)

    term_kept : (t : Tree) → IsPrintableTerm most g t → IsPrintableTerm most g (instance σ t)
    term_kept t h = record { tidy = tidy_kept t h.tidy; names = names_kept t h.names }

    fact_kept : (f : Fact) → IsPrintableFact most g f → IsPrintableFact most g (instance_fact σ f)
    fact_kept f h = record {
      tidy = (h.tidy.0, subst (AreTidy g) (sym (args_instances σ f.args)) (all_tidy_kept (trees_of f.args) h.tidy.1));
      names = (h.names.0, subst (HaveNames most) (sym (args_instances σ f.args)) (all_names_kept (trees_of f.args) h.names.1));
    }

    act_kept : (f : Fact) → IsPrintableAct most g f → IsPrintableAct most g (instance_fact σ f)
    act_kept f h = record { printable = fact_kept f h.printable; linear = h.linear }

    facts_kept : (P : Fact → Type 0) → ((f : Fact) → P f → P (instance_fact σ f)) → (fs : List Fact) → All P fs → All P (instance_facts σ fs)
    facts_kept P keep fs h = All-map P (instance_fact σ) fs (λ k d lt. keep _ (h k d lt))

    -- so it is with an action whose `new` binds a fresh name
    action_kept : (a : Action) → IsPrintableAction most g a → IsPrintableAction most g (binding_fresh (action_instance σ a))
    action_kept (new x) h = record { tidy = tt; names = h.names }
    action_kept (out t) h = term_kept t h
    action_kept (send t u) h = (term_kept t h.0, term_kept u h.1)
    action_kept (input t) h = term_kept t h
    action_kept (receive t u) h = (term_kept t h.0, term_kept u h.1)
    action_kept (event f) h = act_kept f h
    action_kept (insert t u) h = (term_kept t h.0, term_kept u h.1)
    action_kept (delete t) h = term_kept t h
    action_kept (lock t n) h = term_kept t h
    action_kept (unlock t n) h = term_kept t h
    action_kept (embedded l e r) h =
        (facts_kept (IsPrintableFact most g) fact_kept l h.0, facts_kept (IsPrintableAct most g) act_kept e h.1, facts_kept (IsPrintableFact most g) fact_kept r h.2)

  -- Scopes of variables of which none that is plain is a constant.

  abbrev IsTidyVar : Var → Type 0
  IsTidyVar v = IsTidyVariable g v.sort v.name

  abbrev pub IsTidyScope : List Var → Type 0
  IsTidyScope vs = AllByRecursion IsTidyVar vs

  found_tidy : (vs : List Var) (n : List ℕ) (b : Var) → IsTidyScope vs → binder_of vs n ≡ Some b → IsTidyVariable g b.sort n
  found_tidy [] n b h e = absurd (cc (e))
  found_tidy (v ∷ vs) n b h e = by (bytes_eq v.name n) refl e (found_tidy vs n b h.1)
    where
      by : (c : Bool) → bytes_eq v.name n ≡ c → cond c (Some v) (binder_of vs n) ≡ Some b → (binder_of vs n ≡ Some b → IsTidyVariable g b.sort n)
          → IsTidyVariable g b.sort n
      by true s e later =
          let same : v ≡ b = cc (e) in
          subst (λ (u : Var). IsTidyVariable g u.sort n) same (subst (IsTidyVariable g v.sort) ((bytes_eq-Decides v.name n).0 s) h.0)
      by false s e later = later e

  scope_keeps : (vs : List Var) → IsTidyScope vs → KeepsPrintable (by_binder vs)
  scope_keeps vs t = record { tidy = tidy; names = names }
    where
      tidy : (v : Var) → IsTidyVariable g v.sort v.name → IsTidy g (by_binder vs v)
      tidy v h = by (binder_of vs v.name) refl
        where
          by : (o : Option Var) → binder_of vs v.name ≡ o → IsTidy g (option_map_or (λ (b : Var). variable (record { name = v.name; sort = b.sort })) o (variable v))
          by None e = h
          by (Some b) e = found_tidy vs v.name b t e

      names : (v : Var) → IsName most v.name → HasNames most (by_binder vs v)
      names v h = by (binder_of vs v.name)
        where
          by : (o : Option Var) → HasNames most (option_map_or (λ (b : Var). variable (record { name = v.name; sort = b.sort })) o (variable v))
          by None = h
          by (Some b) = h

  mutual
    vars_tidy : (t : Tree) → IsTidy g t → IsTidyScope (tree_vars t)
    vars_tidy (variable v) h = (h, tt)
    vars_tidy (public n) h = tt
    vars_tidy (fresh k) h = tt
    vars_tidy (apply f ts) h = all_vars_tidy ts h.1

    all_vars_tidy : (ts : Trees) → AreTidy g ts → IsTidyScope (trees_vars ts)
    all_vars_tidy none h = tt
    all_vars_tidy (more t ts) h = both IsTidyVar (tree_vars t) (trees_vars ts) (vars_tidy t h.0) (all_vars_tidy ts h.1)

  facts_vars_tidy : (fs : List Fact) → AllByRecursion (IsPrintableFact most g) fs → IsTidyScope (facts_vars fs)
  facts_vars_tidy [] h = tt
  facts_vars_tidy (f ∷ fs) h =
      both IsTidyVar (trees_vars (trees_of f.args)) (facts_vars fs) (all_vars_tidy (trees_of f.args) h.0.tidy.1) (facts_vars_tidy fs h.1)

  new_tidy : (vs : List Var) (known : List (List ℕ)) → IsTidyScope vs → IsTidyScope (new_vars known vs)
  new_tidy [] known h = tt
  new_tidy (v ∷ vs) known h = by (is_known known v.name) (new_tidy vs known h.1) (new_tidy vs (known ++ v.name ∷ []) h.1)
    where
      by : (c : Bool) → IsTidyScope (new_vars known vs) → IsTidyScope (new_vars (known ++ v.name ∷ []) vs)
          → IsTidyScope (if c then new_vars known vs else v ∷ new_vars (known ++ v.name ∷ []) vs)
      by true one two = one
      by false one two = (h.0, two)

  bound_tidy : (scope : List Var) (a : Action) → IsPrintableAction most g a → IsTidyScope (bound_by scope a)
  bound_tidy scope (new x) h = (tt, tt)
  bound_tidy scope (out t) h = tt
  bound_tidy scope (send t u) h = tt
  bound_tidy scope (input t) h = new_tidy (tree_vars t) (var_names scope) (vars_tidy t h.tidy)
  bound_tidy scope (receive t u) h = new_tidy (tree_vars u) (var_names scope) (vars_tidy u h.1.tidy)
  bound_tidy scope (event f) h = tt
  bound_tidy scope (insert t u) h = tt
  bound_tidy scope (delete t) h = tt
  bound_tidy scope (lock t n) h = tt
  bound_tidy scope (unlock t n) h = tt
  bound_tidy scope (embedded l e r) h =
      let P = IsPrintableFact most g in
      let acts = recursion_from_All P e (λ k d lt. (h.1 k d lt).printable) in
      let all = both P l (e ++ r) (recursion_from_All P l h.0) (both P e r acts (recursion_from_All P r h.2)) in
      new_tidy (facts_vars (l ++ (e ++ r))) (var_names scope) (facts_vars_tidy (l ++ (e ++ r)) all)

  pub sorted_printable : (p : Proc) (scope : List Var) → IsTidyScope scope → IsProcessOver g p → IsPrintableProcess most g p
      → IsPrintableProcess most g (with_sorts scope p)
  sorted_printable nil scope t o h = tt
  sorted_printable (parallel p q) scope t o h = (sorted_printable p scope t o.0 h.0, sorted_printable q scope t o.1 h.1)
  sorted_printable (replicated p) scope t o h = sorted_printable p scope t o h
  sorted_printable (act a p) scope t o h =
      let inner = scope ++ bound_by scope a in
      let tidy = both IsTidyVar scope (bound_by scope a) t (bound_tidy scope a h.0) in
      (action_kept (by_binder inner) (scope_keeps inner tidy) a h.0, sorted_printable p inner tidy o.1 h.1)
  sorted_printable (test u w p q) scope t o h =
      let keeps = scope_keeps scope t in
      (term_kept (by_binder scope) keeps u h.0, term_kept (by_binder scope) keeps w h.1, sorted_printable p scope t o.2 h.2, sorted_printable q scope t o.3 h.3)
  sorted_printable (lookup u x p q) scope t o h =
      let inner = both IsTidyVar scope (message_var x ∷ []) t (o.1, tt) in (
        term_kept (by_binder scope) (scope_keeps scope t) u h.0,
        record { tidy = o.1; names = h.1.names },
        sorted_printable p (scope ++ message_var x ∷ []) inner o.2 h.2,
        sorted_printable q scope t o.3 h.3,
      )
