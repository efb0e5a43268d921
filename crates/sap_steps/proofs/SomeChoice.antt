-- Some choice of messages turns facts into others around destructors, or none that is sorted does.
use Rattle.std.proofs.Common.{◌≡◌, ℕ, Bool, true, false, List, [], ◌∷◌, ◌++◌, refl, sym, ap, subst, ◌∙◌, ◌⊎◌, inl, inr, if◌then◌else◌}
use Rattle.std.specs.Prelude.{All, Contains, IsTrue}
use Rattle.std.specs.List.{AllZip}
use Rattle.std.proofs.lemmas.List.{map-append}
use Rattle.std.proofs.lemmas.List.Elements.{All-head, All-tail, Contains-append_cases}
use Rattle.sap_terms.specs.Choice.{Choice, IsSorted, fits_sort}
use Rattle.sap_terms.specs.Laws.{NamesAreMessages}
use Rattle.sap_terms.specs.Message.{IsMessage, IsMessageChoice, IsMessageFact, AreMessageFacts}
use Rattle.sap_terms.specs.Signature.{Sig, is_destructor_of}
use Rattle.sap_terms.specs.Tree.{Tree, variable, public, fresh, apply, Trees, none, more, trees_of}
use Rattle.sap_terms.specs.View.{tree, term, tree-term}
use Rattle.sap_terms.specs.declared.binding.Binding.{Binding}
use Rattle.sap_terms.specs.declared.fact.Fact.{Fact}
use Rattle.sap_terms.specs.declared.var.Sort.{Sort}
use Rattle.sap_terms.specs.declared.var.Sort.TheVariants.{Msg, Fresh, Pub}
use Rattle.sap_terms.specs.declared.var.Var.{Var}
use Rattle.sap_rewrite.specs.Around.{outer_vars, all_outer_vars, FitsAround, FitAll, FittingGivesMessages}
use Rattle.sap_rewrite.specs.Laws.{EachHasForm, FormIsOne}
use Rattle.sap_rewrite.specs.Match.{Agrees, bound_vars}
use Rattle.sap_rule.specs.Variables.{facts_outer_vars}
use Rattle.sap_rule.specs.declared.rule.Rule.{Rule}
use Rattle.sap_steps.specs.Faults.{FactFits, AreRight, IsFitting, FitsNothing}
use Rattle.sap_steps.proofs.Decided.{Decided, both, bool_or_not, bytes_or_not, tree_or_not, var_or_not, message_or_not}
use Rattle.sap_steps.proofs.Found.{agrees_before}
use Rattle.sap_steps.proofs.Vars.{nothing_in, first_item, later_item, item_cases}

agrees_behind : (b d : List Binding) (σ : Choice) → Agrees (b ++ d) σ → Agrees d σ
agrees_behind [] d σ h = h
agrees_behind (e ∷ b) d σ h = agrees_behind b d σ h.1

agrees_append : (b d : List Binding) (σ : Choice) → Agrees b σ → Agrees d σ → Agrees (b ++ d) σ
agrees_append [] d σ h k = k
agrees_append (e ∷ b) d σ h k = (h.0, agrees_append b d σ h.1 k)

-- the choices that are as F says are those that agree with these bindings, which are of these variables
record AreGiven (F : Choice → Type 0) (vs : List Var) : Type 0 where
  bindings : List Binding
  vars : bound_vars bindings ≡ vs
  fits : (σ : Choice) → Agrees bindings σ → F σ
  only : (σ : Choice) → F σ → Agrees bindings σ

-- or there are none
abbrev GivenOrNone : (Choice → Type 0) → List Var → Type 0
GivenOrNone F vs = AreGiven F vs ⊎ ((σ : Choice) → F σ → ⊥)

-- all are as F says
all_given : (F : Choice → Type 0) → ((σ : Choice) → F σ) → GivenOrNone F []
all_given F h = inl (record { bindings = []; vars = refl; fits = λ σ a. h σ; only = λ σ f. tt })

-- as F and as H says
both_given : (F H : Choice → Type 0) (vs ws : List Var) → GivenOrNone F vs → GivenOrNone H ws → GivenOrNone (λ σ. F σ × H σ) (vs ++ ws)
both_given F H vs ws (inr n) b = inr (λ σ h. n σ h.0)
both_given F H vs ws (inl a) (inr n) = inr (λ σ h. n σ h.1)
both_given F H vs ws (inl a) (inl b) = inl (record {
  bindings = a.bindings ++ b.bindings;
  vars = map-append (λ (e : Binding). e.var) a.bindings b.bindings ∙ (λ i. a.vars i ++ b.vars i);
  fits = λ σ h. (a.fits σ (agrees_before a.bindings b.bindings σ h), b.fits σ (agrees_behind a.bindings b.bindings σ h));
  only = λ σ h. agrees_append a.bindings b.bindings σ (a.only σ h.0) (b.only σ h.1);
})

module _ (g : Sig) where
  -- a name has to be the same name
  name_given : (p t : Tree) → GivenOrNone (λ σ. p ≡ t) []
  name_given p t = elim (tree_or_not p t) [ inl is ↦ all_given (λ σ. p ≡ t) (λ σ. is) | inr other ↦ inr (λ σ e. other e) ]

  -- what a pattern that a symbol heads has to be where the symbol is no destructor
  abbrev FitsHeaded : List ℕ → Trees → Tree → Choice → Type 0
  FitsHeaded f ps t σ = (is_destructor_of g f ≡ true) ⊎ ((ts : Trees) × (t ≡ apply f ts) × FitAll g σ ps ts)

  headed_fit : (f : List ℕ) (ps ts : Trees) (σ : Choice) → is_destructor_of g f ≡ false → FitsHeaded f ps (apply f ts) σ → FitAll g σ ps ts
  headed_fit f ps ts σ e (inl d) = cc
  headed_fit f ps ts σ e (inr u) = let same : u.0 ≡ ts = (let whole = u.1 in cc) in subst (FitAll g σ ps) same u.2

  other_head : (f h : List ℕ) (ps ts : Trees) (σ : Choice) → is_destructor_of g f ≡ false → (f ≡ h → ⊥) → FitsHeaded f ps (apply h ts) σ → ⊥
  other_head f h ps ts σ e other (inl d) = cc
  other_head f h ps ts σ e other (inr u) = other (let whole = u.1 in cc)

  no_head : (f : List ℕ) (ps : Trees) (t : Tree) (σ : Choice) → is_destructor_of g f ≡ false → ((ts : Trees) → t ≡ apply f ts → ⊥) → FitsHeaded f ps t σ → ⊥
  no_head f ps t σ e other (inl d) = cc
  no_head f ps t σ e other (inr u) = other u.0 u.1

  under_head : (f : List ℕ) (ps ts : Trees) → is_destructor_of g f ≡ false → GivenOrNone (λ σ. FitAll g σ ps ts) (all_outer_vars g ps) → GivenOrNone (FitsHeaded f ps (apply f ts)) (all_outer_vars g ps)
  under_head f ps ts e (inr never) = inr (λ σ h. never σ (headed_fit f ps ts σ e h))
  under_head f ps ts e (inl a) = inl (record {
    bindings = a.bindings;
    vars = a.vars;
    fits = λ σ h. inr (ts, refl, a.fits σ h);
    only = λ σ h. a.only σ (headed_fit f ps ts σ e h);
  })

  headed_given : (f : List ℕ) (ps : Trees) (t : Tree) → is_destructor_of g f ≡ false → ((ts : Trees) → GivenOrNone (λ σ. FitAll g σ ps ts) (all_outer_vars g ps)) → GivenOrNone (FitsHeaded f ps t) (all_outer_vars g ps)
  headed_given f ps (apply h ts) e below = elim (bytes_or_not f h) [
    | inr other ↦ inr (λ σ k. other_head f h ps ts σ e other k)
    | inl is ↦ subst (λ (k : List ℕ). GivenOrNone (FitsHeaded f ps (apply k ts)) (all_outer_vars g ps)) is (under_head f ps ts e (below ts))
  ]
  headed_given f ps (variable v) e below = inr (λ σ k. no_head f ps (variable v) σ e (λ ts is. cc) k)
  headed_given f ps (public n) e below = inr (λ σ k. no_head f ps (public n) σ e (λ ts is. cc) k)
  headed_given f ps (fresh n) e below = inr (λ σ k. no_head f ps (fresh n) σ e (λ ts is. cc) k)

  applied_given : (f : List ℕ) (ps : Trees) (t : Tree) → ((ts : Trees) → GivenOrNone (λ σ. FitAll g σ ps ts) (all_outer_vars g ps)) → GivenOrNone (FitsHeaded f ps t) (outer_vars g (apply f ps))
  applied_given f ps t below = at (is_destructor_of g f) refl where
    at : (d : Bool) → is_destructor_of g f ≡ d → GivenOrNone (FitsHeaded f ps t) (if d then [] else all_outer_vars g ps)
    at true e = all_given (FitsHeaded f ps t) (λ σ. inl e)
    at false e = headed_given f ps t e below

  mutual
    tree_given : (p t : Tree) → GivenOrNone (λ σ. FitsAround g σ p t) (outer_vars g p)
    tree_given (variable v) t = inl (record { bindings = record { var = v; term = term t } ∷ []; vars = refl; fits = λ σ h. h.0 ∙ tree-term t; only = λ σ f. (f ∙ sym (tree-term t), tt) })
    tree_given (public n) t = name_given (public n) t
    tree_given (fresh k) t = name_given (fresh k) t
    tree_given (apply f ps) t = applied_given f ps t (λ ts. trees_given ps ts)

    trees_given : (ps ts : Trees) → GivenOrNone (λ σ. FitAll g σ ps ts) (all_outer_vars g ps)
    trees_given none none = all_given (λ σ. FitAll g σ none none) (λ σ. tt)
    trees_given (more p ps) (more t ts) = both_given (λ σ. FitsAround g σ p t) (λ σ. FitAll g σ ps ts) (outer_vars g p) (all_outer_vars g ps) (tree_given p t) (trees_given ps ts)
    trees_given none (more t ts) = inr (λ σ f. f)
    trees_given (more p ps) none = inr (λ σ f. f)

  fact_given : (f h : Fact) → GivenOrNone (λ σ. FactFits g σ f h) (all_outer_vars g (trees_of f.args))
  fact_given f h = elim (both (bytes_or_not h.name f.name) (bool_or_not h.persistent f.persistent)) [
    | inr other ↦ inr (λ σ k. other (k.name, k.persistent))
    | inl same ↦ elim (trees_given (trees_of f.args) (trees_of h.args)) [
      | inr never ↦ inr (λ σ k. never σ k.args)
      | inl a ↦ inl (record {
        bindings = a.bindings;
        vars = a.vars;
        fits = λ σ k. record { name = same.0; persistent = same.1; args = a.fits σ k };
        only = λ σ k. a.only σ k.args;
      })
    ]
  ]

  facts_given : (fs hs : List Fact) → GivenOrNone (λ σ. AllZip (FactFits g σ) fs hs) (facts_outer_vars g fs)
  facts_given [] [] = all_given (λ σ. AllZip (FactFits g σ) [] []) (λ σ. tt)
  facts_given (f ∷ fs) (h ∷ hs) = both_given (λ σ. FactFits g σ f h) (λ σ. AllZip (FactFits g σ) fs hs) (all_outer_vars g (trees_of f.args)) (facts_outer_vars g fs) (fact_given f h) (facts_given fs hs)
  facts_given [] (h ∷ hs) = inr (λ σ a. a)
  facts_given (f ∷ fs) [] = inr (λ σ a. a)

  -- what fits gives outer variables messages, where the facts are of messages and the sorts allow it
  args_give : FittingGivesMessages → (σ : Choice) (ps ts : List Tree) → FitAll g σ (trees_of ps) (trees_of ts) → All (IsMessage g Msg) ts → (v : Var) → Contains (all_outer_vars g (trees_of ps)) v → IsTrue (fits_sort v.sort (σ v)) → IsMessage g v.sort (σ v)
  args_give gives σ [] [] a h v m s = absurd (nothing_in v m)
  args_give gives σ [] (t ∷ ts) a h v m s = absurd a
  args_give gives σ (p ∷ ps) [] a h v m s = absurd a
  args_give gives σ (p ∷ ps) (t ∷ ts) a h v m s = elim (Contains-append_cases (outer_vars g p) (all_outer_vars g (trees_of ps)) v m) [
    | inl x ↦ gives g σ p t a.0 (All-head (IsMessage g Msg) t ts h) v x s
    | inr y ↦ args_give gives σ ps ts a.1 (All-tail (IsMessage g Msg) t ts h) v y s
  ]

  facts_give : FittingGivesMessages → (σ : Choice) (fs hs : List Fact) → AllZip (FactFits g σ) fs hs → AreMessageFacts g hs → (v : Var) → Contains (facts_outer_vars g fs) v → IsTrue (fits_sort v.sort (σ v)) → IsMessage g v.sort (σ v)
  facts_give gives σ [] [] a h v m s = absurd (nothing_in v m)
  facts_give gives σ [] (k ∷ hs) a h v m s = absurd a
  facts_give gives σ (f ∷ fs) [] a h v m s = absurd a
  facts_give gives σ (f ∷ fs) (k ∷ hs) a h v m s = elim (Contains-append_cases (all_outer_vars g (trees_of f.args)) (facts_outer_vars g fs) v m) [
    | inl x ↦ args_give gives σ f.args k.args a.0.args (All-head (IsMessageFact g) k hs h) v x s
    | inr y ↦ facts_give gives σ fs hs a.1 (All-tail (IsMessageFact g) k hs h) v y s
  ]

  -- so do bindings to messages
  bound_give : (σ : Choice) (b : List Binding) → All (λ (e : Binding). IsMessage g e.var.sort (tree e.term)) b → Agrees b σ → (v : Var) → Contains (bound_vars b) v → IsMessage g v.sort (σ v)
  bound_give σ [] h a v m = absurd (nothing_in v m)
  bound_give σ (x ∷ xs) h a v m = elim (item_cases x.var v (bound_vars xs) m) [
    | inl is ↦ subst (λ (w : Var). IsMessage g w.sort (σ w)) is (subst (IsMessage g x.var.sort) (sym a.0) (All-head (λ (e : Binding). IsMessage g e.var.sort (tree e.term)) x xs h))
    | inr later ↦ bound_give σ xs (All-tail (λ (e : Binding). IsMessage g e.var.sort (tree e.term)) x xs h) a.1 v later
  ]

module _ (each : EachHasForm) (one_form : FormIsOne) (names : NamesAreMessages) (g : Sig) where
  -- some message of each sort
  some_message : (s : Sort) → (t : Tree) × IsMessage g s t
  some_message Msg = (fresh 0, names.fresh_name g Msg 0 refl)
  some_message Fresh = (fresh 0, names.fresh_name g Fresh 0 refl)
  some_message Pub = (public [], names.public_name g Pub [] refl)

  -- the first message of its sort that bindings give a variable, or any
  abbrev chosen_at : (e : Binding) (v : Var) → Decided ((e.var ≡ v) × IsMessage g v.sort (tree e.term)) → (t : Tree) × IsMessage g v.sort t → (t : Tree) × IsMessage g v.sort t
  chosen_at e v (inl h) rest = (tree e.term, h.1)
  chosen_at e v (inr other) rest = rest

  abbrev chosen : List Binding → (v : Var) → (t : Tree) × IsMessage g v.sort t
  chosen [] v = some_message v.sort
  chosen (e ∷ es) v = chosen_at e v (both (var_or_not e.var v) (message_or_not each one_form g v.sort (tree e.term))) (chosen es v)

  abbrev chosen_by : List Binding → Choice
  chosen_by b v = (chosen b v).0

  by_messages : (b : List Binding) → IsMessageChoice g (chosen_by b)
  by_messages b v = (chosen b v).1

  -- what agrees with bindings, and gives their variables messages, gives them these
  by_given : (b : List Binding) (σ : Choice) → Agrees b σ → (v : Var) → IsMessage g v.sort (σ v) → Contains (bound_vars b) v → chosen_by b v ≡ σ v
  by_given [] σ a v is m = absurd (nothing_in v m)
  by_given (e ∷ es) σ a v is m = at (both (var_or_not e.var v) (message_or_not each one_form g v.sort (tree e.term))) (λ later. by_given es σ a.1 v is later)
    where
      at : (d : Decided ((e.var ≡ v) × IsMessage g v.sort (tree e.term))) → (Contains (bound_vars es) v → chosen_by es v ≡ σ v) → (chosen_at e v d (chosen es v)).0 ≡ σ v
      at (inl h) rest = sym a.0 ∙ ap σ h.0
      at (inr other) rest = elim (item_cases e.var v (bound_vars es) m) [
        | inl same ↦ absurd (other (same, subst (IsMessage g v.sort) (sym (ap σ same) ∙ a.0) is))
        | inr later ↦ rest later
      ]

  agrees_moved : (b : List Binding) (σ τ : Choice) → ((v : Var) → Contains (bound_vars b) v → τ v ≡ σ v) → Agrees b σ → Agrees b τ
  agrees_moved [] σ τ h a = tt
  agrees_moved (e ∷ es) σ τ h a = (h e.var (first_item e.var (bound_vars es)) ∙ a.0, agrees_moved es σ τ (λ v m. h v (later_item e.var v (bound_vars es) m)) a.1)

  agrees_or_not : (b : List Binding) (σ : Choice) → Decided (Agrees b σ)
  agrees_or_not [] σ = inl tt
  agrees_or_not (e ∷ es) σ = both (tree_or_not (σ e.var) (tree e.term)) (agrees_or_not es σ)

  -- some choice of messages agrees with right bindings and turns the left side into the cited facts, or none that is sorted does
  pub fits_or_not : FittingGivesMessages → (r : Rule) (b : List Binding) (cited : List Fact) → AreRight g r b → AreMessageFacts g cited → ((σ : Choice) × IsFitting g r b cited σ) ⊎ FitsNothing g r b cited
  fits_or_not gives r b cited right messages = elim (facts_given g r.left cited) [
    | inr never ↦ inr (record { right = right; none = λ σ sorted agrees fits. never σ fits })
    | inl a ↦ elim (agrees_or_not (b ++ a.bindings) (chosen_by (b ++ a.bindings))) [
      | inl h ↦ inl (
        chosen_by (b ++ a.bindings),
        record {
          messages = by_messages (b ++ a.bindings);
          agrees = agrees_before b a.bindings (chosen_by (b ++ a.bindings)) h;
          facts = a.fits (chosen_by (b ++ a.bindings)) (agrees_behind b a.bindings (chosen_by (b ++ a.bindings)) h);
        },
      )
      | inr never ↦ inr (record { right = right; none = λ σ sorted agrees fits. never (agreed a σ sorted agrees fits) })
    ]
  ]
    where
      agreed : (a : AreGiven (λ σ. AllZip (FactFits g σ) r.left cited) (facts_outer_vars g r.left)) (σ : Choice) → IsSorted σ → Agrees b σ → AllZip (FactFits g σ) r.left cited → Agrees (b ++ a.bindings) (chosen_by (b ++ a.bindings))
      agreed a σ sorted agrees fits =
          let all = agrees_append b a.bindings σ agrees (a.only σ fits) in
          let vars : bound_vars (b ++ a.bindings) ≡ bound_vars b ++ facts_outer_vars g r.left = map-append (λ (e : Binding). e.var) b a.bindings ∙ (λ i. bound_vars b ++ a.vars i) in
          let message : (v : Var) → Contains (bound_vars (b ++ a.bindings)) v → IsMessage g v.sort (σ v) =
          λ v m. elim (Contains-append_cases (bound_vars b) (facts_outer_vars g r.left) v (subst (λ vs. Contains vs v) vars m)) [
            | inl x ↦ bound_give g σ b right.terms agrees v x
            | inr y ↦ facts_give g gives σ r.left cited fits messages v y (sorted v)
          ] in
          agrees_moved (b ++ a.bindings) σ (chosen_by (b ++ a.bindings)) (λ v m. by_given (b ++ a.bindings) σ all v (message v m) m) all
