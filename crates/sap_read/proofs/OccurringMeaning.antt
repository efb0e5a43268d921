-- The names that occur in expansions are those of what is written.
use Rattle.std.proofs.Common.{ℕ, Bool, true, false, List, [], ◌∷◌, map, sym, subst}
use Rattle.std.specs.Prelude.{if◌then◌else◌}
use Rattle.std.specs.List.{AllByRecursion}
use Rattle.std.specs.Str.{bytes_eq}
use Rattle.sap_terms.specs.Choice.{Choice, instance, instances}
use Rattle.sap_terms.specs.Modulo.{instance_fact, instance_facts}
use Rattle.sap_terms.specs.Tree.{Tree, variable, public, fresh, apply, Trees, none, more, trees_of}
use Rattle.sap_terms.specs.declared.fact.Fact.{Fact}
use Rattle.sap_terms.specs.declared.var.Var.{Var}
use Rattle.sap_process.specs.Action.{Action, new, out, send, input, receive, event, insert, delete, lock, unlock, embedded}
use Rattle.sap_process.specs.Instance.{action_instance}
use Rattle.sap_macro.specs.Expansion.{Meaning, Plain, binding, by_names, entered, expanded, expansion, meaning_after, meaning_of, no_meaning, own_names, plain, plain_after, plain_bodies, put, same_name, unchanged, where_none, with_definition, with_plain, with_uses}
use Rattle.sap_macro.specs.NewNames.{renamed, taken_after}
use Rattle.sap_macro.specs.Written.{Written, nil, call, parallel, replicated, act, test, lookup, Definition}
use Rattle.sap_read.specs.Occurring.{OfNames, Any, NamesAre, AllNamesAre, FactNamesAre, FactsNamesAre, ActionNamesAre, ProcessNamesAre, WrittenNamesAre}
use Rattle.sap_read.proofs.OccurringWords.{TermsNamesAre}
use Rattle.sap_read.proofs.PrintableSorts.{args_instances}

module _ (N K M : OfNames) where
  -- what stands for a variable
  abbrev pub PutsNames : Choice → Type 0
  PutsNames r = (v : Var) → N v.name → NamesAre K M (r v)

  module _ (r : Choice) (puts : PutsNames r) where
    mutual
      pub instance_names : (t : Tree) → NamesAre N M t → NamesAre K M (instance r t)
      instance_names (variable v) h = puts v h
      instance_names (public n) h = h
      instance_names (fresh k) h = tt
      instance_names (apply f ts) h = instances_names ts h

      pub instances_names : (ts : Trees) → AllNamesAre N M ts → AllNamesAre K M (instances r ts)
      instances_names none h = tt
      instances_names (more t ts) h = (instance_names t h.0, instances_names ts h.1)

    pub args_names : (ts : List Tree) → TermsNamesAre N M ts → TermsNamesAre K M (map (instance r) ts)
    args_names ts h = subst (AllNamesAre K M) (sym (args_instances r ts)) (instances_names (trees_of ts) h)

    pub fact_names : (f : Fact) → FactNamesAre N M f → FactNamesAre K M (instance_fact r f)
    fact_names f h = args_names f.args h

    pub facts_names : (fs : List Fact) → FactsNamesAre N M fs → FactsNamesAre K M (instance_facts r fs)
    facts_names [] h = tt
    facts_names (f ∷ fs) h = (fact_names f h.0, facts_names fs h.1)

    module _ (b : List ℕ → List ℕ) (binds : (x : List ℕ) → N x → K (b x)) where
      pub action_names : (a : Action) → ActionNamesAre N M a → ActionNamesAre K M (binding b (action_instance r a))
      action_names (new x) h = binds x.name h
      action_names (out t) h = instance_names t h
      action_names (send t u) h = (instance_names t h.0, instance_names u h.1)
      action_names (input t) h = instance_names t h
      action_names (receive t u) h = (instance_names t h.0, instance_names u h.1)
      action_names (event f) h = fact_names f h
      action_names (insert t u) h = (instance_names t h.0, instance_names u h.1)
      action_names (delete t) h = instance_names t h
      action_names (lock t n) h = instance_names t h
      action_names (unlock t n) h = instance_names t h
      action_names (embedded l e q) h = (facts_names l h.0, facts_names e h.1, facts_names q h.2)

module _ (N M : OfNames) (empty : M []) where
  -- what is so of a use, of arguments of which it is so
  abbrev pub MeansNames : Meaning → Type 0
  MeansNames m = (f : List ℕ) (ts : List Tree) (taken : List (List ℕ)) → TermsNamesAre Any M ts → ProcessNamesAre Any M (m f ts taken).process

  module _ (m : Meaning) (means : MeansNames m) (r : Choice) (puts : PutsNames N Any M r) (b : List ℕ → List ℕ) where
    expanded_names : (p : Written) (taken : List (List ℕ)) → WrittenNamesAre N M p → ProcessNamesAre Any M (expanded m r b p taken).process
    expanded_names nil taken h = tt
    expanded_names (call f ts) taken h = means f (map (instance r) ts) taken (args_names N Any M r puts ts h.0)
    expanded_names (parallel p q) taken h = (expanded_names p taken h.0, expanded_names q (expanded m r b p taken).taken h.1)
    expanded_names (replicated p) taken h = expanded_names p taken h
    expanded_names (act a p) taken h = (action_names N Any M r puts b (λ x n. tt) a h.0, expanded_names p taken h.1)
    expanded_names (test t u p q) taken h = (
      instance_names N Any M r puts t h.0,
      instance_names N Any M r puts u h.1,
      expanded_names p taken h.2,
      expanded_names q (expanded m r b p taken).taken h.3,
    )
    expanded_names (lookup t x p q) taken h = (
      instance_names N Any M r puts t h.0,
      tt,
      expanded_names p taken h.2,
      expanded_names q (expanded m r b p taken).taken h.3,
    )

  -- arguments for parameters, and '' where one is missing
  put_names : (ys : List (List ℕ)) (ts : List Tree) (other : Choice) → TermsNamesAre Any M ts → PutsNames N Any M other → PutsNames N Any M (put ys ts other)
  put_names [] ts other h k v n = k v n
  put_names (y ∷ ys) [] other h k v n = by (bytes_eq y v.name) (put_names ys [] other h k v n) where
    by : (t : Bool) → NamesAre Any M (put ys [] other v) → NamesAre Any M (if t then public [] else put ys [] other v)
    by true later = empty
    by false later = later
  put_names (y ∷ ys) (t ∷ ts) other h k v n = by (bytes_eq y v.name) (put_names ys ts other h.1 k v n) where
    by : (c : Bool) → NamesAre Any M (put ys ts other v) → NamesAre Any M (if c then t else put ys ts other v)
    by true later = h.0
    by false later = later

  abbrev DefinitionNames : Definition → Type 0
  DefinitionNames d = WrittenNamesAre N M d.body

  with_names : (m : Meaning) → MeansNames m → (d : Definition) → DefinitionNames d → MeansNames (with_definition m d)
  with_names m means d own f ts taken h = by (bytes_eq d.name f) where
    by : (t : Bool) → ProcessNamesAre Any M (if t then entered m d ts taken else m f ts taken).process
    by true =
        expanded_names m means (put d.params ts (by_names (renamed taken (own_names d)))) (put_names d.params ts (by_names (renamed taken (own_names d))) h (λ v n. tt))
        (renamed taken (own_names d)) d.body (taken_after taken (own_names d)) own
    by false = means f ts taken h

  after_names : (ds : List Definition) (m : Meaning) → AllByRecursion DefinitionNames ds → MeansNames m → MeansNames (meaning_after m ds)
  after_names [] m own means = means
  after_names (d ∷ ds) m own means = after_names ds (with_definition m d) own.1 (with_names m means d own.0)

  -- names without parameters, replaced
  abbrev pub PlainNames : Plain → Type 0
  PlainNames m = (f : List ℕ) (ts : List Tree) → TermsNamesAre N M ts → WrittenNamesAre N M (m f ts)

  uses_names : (m : Plain) → PlainNames m → (p : Written) → WrittenNamesAre N M p → WrittenNamesAre N M (with_uses m p)
  uses_names m plain nil h = tt
  uses_names m plain (call f ts) h = plain f ts h.0
  uses_names m plain (parallel p q) h = (uses_names m plain p h.0, uses_names m plain q h.1)
  uses_names m plain (replicated p) h = uses_names m plain p h
  uses_names m plain (act a p) h = (h.0, uses_names m plain p h.1)
  uses_names m plain (test t u p q) h = (h.0, h.1, uses_names m plain p h.2, uses_names m plain q h.3)
  uses_names m plain (lookup t x p q) h = (h.0, h.1, uses_names m plain p h.2, uses_names m plain q h.3)

  none_names : (xs : List (List ℕ)) (p q : Written) → WrittenNamesAre N M p → WrittenNamesAre N M q → WrittenNamesAre N M (where_none xs p q)
  none_names [] p q h k = h
  none_names (x ∷ xs) p q h k = k

  with_plain_names : (m : Plain) → PlainNames m → (d : Definition) → DefinitionNames d → PlainNames (with_plain m d)
  with_plain_names m plain d own f ts h = by (bytes_eq d.name f) where
    by : (t : Bool) → WrittenNamesAre N M (if t then where_none d.params (with_uses m d.body) (call f ts) else m f ts)
    by true = none_names d.params (with_uses m d.body) (call f ts) (uses_names m plain d.body own) (h, tt)
    by false = plain f ts h

  plain_after_names : (ds : List Definition) (m : Plain) → AllByRecursion DefinitionNames ds → PlainNames m → PlainNames (plain_after m ds)
  plain_after_names [] m own plain = plain
  plain_after_names (d ∷ ds) m own plain = plain_after_names ds (with_plain m d) own.1 (with_plain_names m plain d own.0)

  bodies_names : (ds : List Definition) (m : Plain) → AllByRecursion DefinitionNames ds → PlainNames m → AllByRecursion DefinitionNames (plain_bodies m ds)
  bodies_names [] m own plain = tt
  bodies_names (d ∷ ds) m own plain = (uses_names m plain d.body own.0, bodies_names ds (with_plain m d) own.1 (with_plain_names m plain d own.0))

  pub plain_bodies_names : (ds : List Definition) → AllByRecursion DefinitionNames ds → AllByRecursion DefinitionNames (plain_bodies call ds)
  plain_bodies_names ds own = bodies_names ds call own (λ f ts h. (h, tt))

  pub plain_names : (ds : List Definition) (p : Written) → AllByRecursion DefinitionNames ds → WrittenNamesAre N M p → WrittenNamesAre N M (plain ds p)
  plain_names ds p own h = uses_names (plain_after call ds) (plain_after_names ds call own (λ f ts k. (k, tt))) p h

  -- in the expansion
  pub expansion_names : (ds : List Definition) (identifiers : List (List ℕ)) (p : Written) → AllByRecursion DefinitionNames ds → WrittenNamesAre N M p
      → ProcessNamesAre Any M (expansion ds identifiers p).process
  expansion_names ds identifiers p own h =
      expanded_names (meaning_of (plain_bodies call ds)) (after_names (plain_bodies call ds) no_meaning (plain_bodies_names ds own) (λ f ts taken k. tt))
      unchanged (λ v n. tt) same_name (plain ds p) identifiers (plain_names ds p own h)
