-- What a pattern binds that fits a number, and that nothing fits where no match is found.
use Rattle.std.proofs.Common.{◌≡◌, ◌<◌, ◌≤◌, ℕ, List, [], ◌∷◌, ◌++◌, length, if◌then◌else◌, refl, sym, ap, subst, ◌∙◌, ◌⊎◌, inl, inr, arith}
use Rattle.std.specs.Prelude.{All, Contains}
use Rattle.std.proofs.lemmas.List.Elements.{All-nil, All-cons, All-head, All-tail, Contains-append_cases}
use Rattle.sap_terms.specs.Choice.{Choice, instance, instances, fits_sort}
use Rattle.sap_terms.specs.Equations.{equations}
use Rattle.sap_terms.specs.Ground.{IsGround, AreGround}
use Rattle.sap_terms.specs.Message.{IsMessage, IsMessageChoice, AreOver}
use Rattle.sap_terms.specs.Normal.{IsNormal, AreNormal}
use Rattle.sap_terms.specs.Signature.{Sig}
use Rattle.sap_terms.specs.Subst.{bound_to}
use Rattle.sap_terms.specs.Tree.{Tree, variable, public, fresh, apply, Trees, none, more, node_count, trees_count}
use Rattle.sap_terms.specs.Variables.{tree_vars, trees_vars, new_vars}
use Rattle.sap_terms.specs.View.{tree, term, tree-term}
use Rattle.sap_terms.specs.declared.binding.Binding.{Binding}
use Rattle.sap_terms.specs.declared.limits.TheConstants.{MOST_TERM_NODES}
use Rattle.sap_terms.specs.declared.var.Var.{Var}
use Rattle.sap_rewrite.specs.Bound.{NamedOnceStay, BindingsGiveChoices}
use Rattle.sap_rewrite.specs.Match.{Agrees, AllSorted, HaveOneSort, HasNoMatch, IsOnlyMatch, bound_vars, names}
use Rattle.sap_process.specs.Instance.{process_instance}
use Rattle.sap_process.specs.Proc.{Proc}
use Rattle.sap_process.specs.ProcessSteps.{with_choice}
use Rattle.sap_process.specs.Sites.{var_names}
use Rattle.sap_share.specs.Env.{given, bindings_of, AreBound, AreSmallForms, IsSmallForm}
use Rattle.sap_share.specs.Shared.{tree_at}
use Rattle.sap_share.specs.declared.env.Bound.{Bound}
use Rattle.sap_sides.specs.Messages.{IsSmallMessage}
use Rattle.sap_heads.specs.Bound.{names_of}
use Rattle.sap_heads.proofs.Chosen.{new_among}
use Rattle.sap_heads.proofs.Named as named
use Rattle.sap_heads.proofs.Extended.{given_bound, names_bound, turned, given_new, named_once, new_names, new_choice, choice_messages, choice_agrees, choice_is}
use Rattle.sap_terms.proofs.PlainLaws.Items.{first_item, item_cases, later_item}

record AreFine (g : Sig) (ts : Trees) : Type 0 where
  ground : AreGround ts
  over : AreOver g ts
  normal : AreNormal (equations g) ts
  within : trees_count ts ≤ MOST_TERM_NODES

-- what a variable of a pattern stands for is so, where the instance is
module _ (g : Sig) (τ : Choice) where
  mutual
    pub part_fine : (t : Tree) (v : Var) → Contains (tree_vars t) v → IsSmallMessage g (instance τ t) → IsSmallMessage g (τ v)
    part_fine (variable w) v m h = subst (λ u. IsSmallMessage g (τ u)) (item_cases w v m) h
    part_fine (public n) v m h = absurd (omega (arith, m.1))
    part_fine (fresh k) v m h = absurd (omega (arith, m.1))
    part_fine (apply f ts) v m h =
        let w = h.small in
        let less : trees_count (instances τ ts) ≤ MOST_TERM_NODES = omega (arith, w) in
        part_all ts v m (record { ground = h.message.ground; over = h.message.over.1; normal = h.message.normal.1; within = less })

    part_all : (ts : Trees) (v : Var) → Contains (trees_vars ts) v → AreFine g (instances τ ts) → IsSmallMessage g (τ v)
    part_all none v m h = absurd (omega (arith, m.1))
    part_all (more t ts) v m h =
        let w = h.within in
        let first : node_count (instance τ t) ≤ MOST_TERM_NODES = omega (arith, w) in
        let rest : trees_count (instances τ ts) ≤ MOST_TERM_NODES = omega (arith, w) in
        elim (Contains-append_cases (tree_vars t) (trees_vars ts) v m) [
          | inl k ↦ part_fine t v k (record { message = record { ground = h.ground.0; over = h.over.0; normal = h.normal.0; sorted = refl }; small = first })
          | inr k ↦ part_all ts v k (record { ground = h.ground.1; over = h.over.1; normal = h.normal.1; within = rest })
        ]

-- a small term's parts are small
pub whole_parts : (g : Sig) (n x : Tree) → IsSmallMessage g x → (τ : Choice) → instance τ n ≡ x → (w : Var) → Contains (tree_vars n) w → IsSmallMessage g (τ w)
whole_parts g n x fine τ is w m = part_fine g τ n w m (subst (IsSmallMessage g) (sym is) fine)

all_from : (P : Tree → Type 0) (a : List Binding) (τ : Choice) → Agrees a τ → ((w : Var) → Contains (bound_vars a) w → P (τ w)) → All (λ (e : Binding). P (tree e.term)) a
all_from P [] τ h each = All-nil (λ (e : Binding). P (tree e.term))
all_from P (e ∷ es) τ h each =
    All-cons (λ (e : Binding). P (tree e.term)) e es (subst P h.0 (each e.var (first_item e.var (bound_vars es)))) (all_from P es τ h.1 (λ w m. each w (later_item e.var (bound_vars es) w m)))

messages_from : (g : Sig) (a : List Binding) → All (λ (e : Binding). IsSmallMessage g (tree e.term)) a → AllSorted a → All (λ (e : Binding). IsMessage g e.var.sort (tree e.term)) a
messages_from g [] h s = All-nil (λ (e : Binding). IsMessage g e.var.sort (tree e.term))
messages_from g (e ∷ es) h s =
    let f = All-head (λ (e : Binding). IsSmallMessage g (tree e.term)) e es h in
    All-cons (λ (e : Binding). IsMessage g e.var.sort (tree e.term)) e es (record { ground = f.message.ground; over = f.message.over; normal = f.message.normal; sorted = s.0 }) (messages_from g es (All-tail (λ (e : Binding). IsSmallMessage g (tree e.term)) e es h) s.1)

pub all_append : (P : Binding → Type 0) (a b : List Binding) → All P a → All P b → All P (a ++ b)
all_append P [] b h i = i
all_append P (e ∷ es) b h i = All-cons P e (es ++ b) (All-head P e es h) (all_append P es b (All-tail P e es h) i)

-- what is normal and small of bindings is so of numbers
pub small_from : (g : Sig) (ts : List Tree) (env : List Bound) → AreBound (length ts) env → All (λ (e : Binding). IsNormal (equations g) (tree e.term) × (node_count (tree e.term) ≤ MOST_TERM_NODES)) (bindings_of ts env) → AreSmallForms (equations g) MOST_TERM_NODES ts env
small_from g ts [] below h = All-nil (λ (b : Bound). IsSmallForm (equations g) MOST_TERM_NODES ts b.id)
small_from g ts (b ∷ bs) below h =
    let Q : Binding → Type 0 = λ (e : Binding). IsNormal (equations g) (tree e.term) × (node_count (tree e.term) ≤ MOST_TERM_NODES) in
    let B : Bound → Type 0 = λ b. b.id < length ts in
    let e : Binding = record { var = b.var; term = term (tree_at ts b.id) } in
    let here : IsNormal (equations g) (tree_at ts b.id) × (node_count (tree_at ts b.id) ≤ MOST_TERM_NODES) = rw (tree-term (tree_at ts b.id)) at (All-head Q e (bindings_of ts bs) h) in
    All-cons (λ (b : Bound). IsSmallForm (equations g) MOST_TERM_NODES ts b.id) b bs (record { below = All-head B b bs below; normal = here.0; within = here.1 }) (small_from g ts bs (All-tail B b bs below) (All-tail Q e (bindings_of ts bs) h))

pub small_bindings : (g : Sig) (ts : List Tree) (env : List Bound) → AreSmallForms (equations g) MOST_TERM_NODES ts env → All (λ (e : Binding). IsNormal (equations g) (tree e.term) × (node_count (tree e.term) ≤ MOST_TERM_NODES)) (bindings_of ts env)
small_bindings g ts [] h = All-nil (λ (e : Binding). IsNormal (equations g) (tree e.term) × (node_count (tree e.term) ≤ MOST_TERM_NODES))
small_bindings g ts (b ∷ bs) h =
    let S : Bound → Type 0 = λ b. IsSmallForm (equations g) MOST_TERM_NODES ts b.id in
    let here = All-head S b bs h in
    let e : Binding = record { var = b.var; term = term (tree_at ts b.id) } in
    All-cons (λ (e : Binding). IsNormal (equations g) (tree e.term) × (node_count (tree e.term) ≤ MOST_TERM_NODES)) e (bindings_of ts bs) (rw (tree-term (tree_at ts b.id)) (here.normal, here.within)) (small_bindings g ts bs (All-tail S b bs h))

module _ (g : Sig) (ts : List Tree) (grounds : (k : ℕ) → k < length ts → IsGround (tree_at ts k)) (env : List Bound) (small : AreSmallForms (equations g) MOST_TERM_NODES ts env) (n : Tree) (one : HaveOneSort (tree_vars n)) where
  -- where there is no match, no choice of messages turns the pattern's instance into the term
  pub fits_nothing : (x : Tree) → HasNoMatch n x (bindings_of ts env) → (σ : Choice) → IsMessageChoice g σ → instance σ (instance (given ts env) n) ≡ x → ⊥
  fits_nothing x none_fits σ messages is =
      let vs = new_vars (names (bindings_of ts env)) (tree_vars n) in
      let a = named.bindings_of σ vs in
      let on : bound_vars a ≡ new_vars (names_of env) (tree_vars n) = named.bindings_of-vars σ vs ∙ ap (λ ns. new_vars ns (tree_vars n)) (names_bound ts env) in
      none_fits.none (bindings_of ts env ++ a) (record {
        extends = record { added = a; is = refl; on = named.bindings_of-vars σ vs; sorted = sorted vs };
        turns = turned g ts grounds env small n one a σ (named.bindings_of-agrees σ vs) on ∙ is;
      })
    where
      sorted : (vs : List Var) → AllSorted (named.bindings_of σ vs)
      sorted [] = tt
      sorted (v ∷ vs) = (ap (fits_sort v.sort) (tree-term (σ v)) ∙ (messages v).sorted, sorted vs)

  -- where there is one
  module _ (x : Tree) (parts : (τ : Choice) → instance τ n ≡ x → (w : Var) → Contains (tree_vars n) w → IsSmallMessage g (τ w)) (new : List Bound) (below : AreBound (length ts) new) (found : IsOnlyMatch n x (bindings_of ts env) (bindings_of ts new)) (once : NamedOnceStay) (give : BindingsGiveChoices) where
    abbrev pub added : List Binding
    added = found.is_match.extends.added

    pub on : bound_vars added ≡ new_vars (names_of env) (tree_vars n)
    on = found.is_match.extends.on ∙ ap (λ ns. new_vars ns (tree_vars n)) (names_bound ts env)

    whole : instance (bound_to (bindings_of ts new)) n ≡ x
    whole = found.is_match.turns

    each_fine : (w : Var) → Contains (bound_vars added) w → IsSmallMessage g (bound_to added w)
    each_fine w m =
        let here = new_among (names_of env) (tree_vars n) w (subst (λ vs. Contains vs w) on m) in
        let f = parts (bound_to (bindings_of ts new)) whole w here.0 in
        subst (IsSmallMessage g) (given_bound ts new w ∙ given_new g ts grounds env small n one added on new found.is_match.extends.is w ∙ ap (λ b. if b then given ts env w else bound_to added w) here.1) f

    pub all_fine : All (λ (e : Binding). IsSmallMessage g (tree e.term)) added
    all_fine = all_from (IsSmallMessage g) added (bound_to added) (once.agree added (named_once g ts grounds env small n one added on once)) each_fine

    pub all_messages : All (λ (e : Binding). IsMessage g e.var.sort (tree e.term)) added
    all_messages = messages_from g added all_fine found.is_match.extends.sorted

    abbrev pub fitting : Choice
    fitting = new_choice g ts grounds env small n one added on once all_messages give

    pub fitting_messages : IsMessageChoice g fitting
    fitting_messages = choice_messages g ts grounds env small n one added on once all_messages give

    pub fitting_turns : instance fitting (instance (given ts env) n) ≡ x
    fitting_turns = sym (turned g ts grounds env small n one added fitting (choice_agrees g ts grounds env small n one added on once all_messages give) on) ∙ ap (λ b. instance (bound_to b) n) (sym found.is_match.extends.is) ∙ whole

    pub fitting_names : names_of new ≡ names_of env ++ var_names (new_vars (names_of env) (tree_vars n))
    fitting_names = new_names g ts grounds env small n one added on new found.is_match.extends.is

    pub fitting_small : AreSmallForms (equations g) MOST_TERM_NODES ts new
    fitting_small =
        let Q : Binding → Type 0 = λ (e : Binding). IsNormal (equations g) (tree e.term) × (node_count (tree e.term) ≤ MOST_TERM_NODES) in
        small_from g ts new below (subst (All Q) (sym found.is_match.extends.is) (all_append Q (bindings_of ts env) added (small_bindings g ts env small) (λ k d lt. ((all_fine k d lt).message.normal, (all_fine k d lt).small))))

    -- the instance under all that is bound is what `with_choice` says
    pub fitting_is : ((p : Proc) (s t : Choice) → ((v : Var) → IsGround (s v) ⊎ (s v ≡ variable v)) → process_instance t (process_instance s p) ≡ process_instance (λ v. instance t (s v)) p)
        → (p : Proc) → process_instance (given ts new) p ≡ with_choice fitting (tree_vars (instance (given ts env) n)) (process_instance (given ts env) p)
    fitting_is twice p = choice_is g ts grounds env small n one added on new found.is_match.extends.is fitting (choice_agrees g ts grounds env small n one added on once all_messages give) twice p
