-- What is written means its expansion, and its heads are like what is written there, once arguments are put in.
use Rattle.std.proofs.Common.{◌≡◌, ℕ, Bool, true, false, List, [], ◌∷◌, ◌++◌, Option, Some, map, refl, sym, ap, subst, ◌∙◌}
use Rattle.std.specs.Prelude.{◌||◌, Contains, if◌then◌else◌}
use Rattle.std.specs.Str.{bytes_eq}
use Rattle.std.proofs.lemmas.Slice.Eq.{bytes_eq-Decides}
use Rattle.sap_terms.specs.Choice.{Choice, instance}
use Rattle.sap_terms.specs.Tree.{Tree}
use Rattle.sap_terms.specs.Variables.{is_known}
use Rattle.sap_terms.specs.declared.var.Var.{Var}
use Rattle.sap_terms.proofs.PlainLaws.Items.{first_item, later_item}
use Rattle.sap_process.specs.Action.{Action}
use Rattle.sap_process.specs.Proc as whole
use Rattle.sap_process.specs.Proc.{Proc}
use Rattle.sap_process.specs.Sites.{message_var}
use Rattle.sap_macro.specs.Expansion.{Meaning, Plain, by_names, entered, expanded, expansion, meaning_after, meaning_of, no_meaning, own_names, plain, plain_after, plain_bodies, put, same_name, unchanged, where_none, with_definition, with_plain_body, with_uses}
use Rattle.sap_macro.specs.Indexed.{defined}
use Rattle.sap_macro.specs.Located.{Located, nil_at, call_at, parallel_at, replicated_at, act_at, test_at, lookup_at, without_numbers}
use Rattle.sap_macro.specs.NewNames.{renamed, taken_after}
use Rattle.sap_macro.specs.Order.{AreInOrder, UsesOnly}
use Rattle.sap_macro.specs.Written.{Written, call, Definition}
use Rattle.sap_nodes.specs.HeadNodes.{binder, action_nodes, tree_nodes}
use Rattle.sap_nodes.specs.declared.part.Part.TheVariants.{Given}
use Rattle.sap_origin.specs.Definitions.{LocatedDefinition, plain_definition}
use Rattle.sap_origin.specs.Meant.{definition_of}
use Rattle.sap_stems.proofs.LikeNodes.{AreLikeNodes, Fits, action_like, test_like, lookup_like, nothing_fits, use_fits}
use Rattle.sap_stems.proofs.NodesIn.{NodesPut, nodes_in, nodes_behind}

-- what is written means this, where these stand for parameters: each form one of its kind, with like nodes, and a use what its body means
pub data MeansSo (ds : List LocatedDefinition) : List NodesPut → Located → Proc → Type 0 where
  so_nil : {ps : List NodesPut} {k : ℕ} → MeansSo ds ps (nil_at k) whole.nil
  so_parallel : {ps : List NodesPut} {k : ℕ} {p q : Located} {x y : Proc} → MeansSo ds ps p x → MeansSo ds ps q y → MeansSo ds ps (parallel_at k p q) (whole.parallel x y)
  so_replicated : {ps : List NodesPut} {k : ℕ} {p : Located} {x : Proc} → MeansSo ds ps p x → MeansSo ds ps (replicated_at k p) (whole.replicated x)
  so_act : {ps : List NodesPut} {k : ℕ} {a b : Action} {p : Located} {x : Proc} → AreLikeNodes (nodes_in ps (action_nodes a)) (action_nodes b) → MeansSo ds ps p x → MeansSo ds ps (act_at k a p) (whole.act b x)
  so_test : {ps : List NodesPut} {k : ℕ} {t u v w : Tree} {p q : Located} {x y : Proc} → AreLikeNodes (nodes_in ps (tree_nodes Given t ++ tree_nodes Given u)) (tree_nodes Given v ++ tree_nodes Given w)
      → MeansSo ds ps p x → MeansSo ds ps q y → MeansSo ds ps (test_at k t u p q) (whole.test v w x y)
  so_lookup : {ps : List NodesPut} {k : ℕ} {t v : Tree} {z w : Var} {p q : Located} {x y : Proc}
      → AreLikeNodes (nodes_in ps (tree_nodes Given t ++ binder (message_var z) ∷ [])) (tree_nodes Given v ++ binder (message_var w) ∷ [])
      → MeansSo ds ps p x → MeansSo ds ps q y → MeansSo ds ps (lookup_at k t z p q) (whole.lookup v w x y)
  so_use : {ps : List NodesPut} {k : ℕ} {f : List ℕ} {ts : List Tree} {d : LocatedDefinition} {x : Proc} → definition_of ds f ≡ Some d
      → MeansSo ds (nodes_behind ps d.params ts) d.body x → MeansSo ds ps (call_at k f ts) x

-- what the law of names without parameters says of these definitions
pub record PlainLaw (ds : List Definition) : Type 0 where
  pub stand : (d : Definition) (ts : List Tree) → Contains ds d → plain_after call ds d.name ts ≡ where_none d.params (plain ds d.body) (call d.name ts)
  pub bodies : plain_bodies call ds ≡ map (with_plain_body ds) ds

module _ (ds : List LocatedDefinition) where
  -- the definitions without numbers, and what names stand for that are replaced first
  abbrev plain_ds : List Definition
  plain_ds = map plain_definition ds

  abbrev stands : Plain
  stands = plain_after call plain_ds

  -- what a name with parameters means is what the body of its definition means, where the name is one of these
  abbrev IsRight : Meaning → List (List ℕ) → Type 0
  IsRight m known = (f : List ℕ) → is_known known f ≡ true → (d : LocatedDefinition) → definition_of ds f ≡ Some d → ¬ (d.params ≡ [])
      → (ps : List NodesPut) (r : Choice) → Fits ps r → (ts : List Tree) (taken : List (List ℕ))
      → MeansSo ds (nodes_behind ps d.params ts) d.body (m f (map (instance r) ts) taken).process

  -- a process that uses these alone means what it is expanded to
  abbrev IsMeant : List (List ℕ) → Type 0
  IsMeant known = (m : Meaning) → IsRight m known → (p : Located) → UsesOnly known (without_numbers p)
      → (ps : List NodesPut) (r : Choice) → Fits ps r → (b : List ℕ → List ℕ) (taken : List (List ℕ))
      → MeansSo ds ps p (expanded m r b (with_uses stands (without_numbers p)) taken).process

  -- a use of these means it
  abbrev UsesAreMeant : Meaning → List (List ℕ) → Type 0
  UsesAreMeant m known = (k : ℕ) (f : List ℕ) (ts : List Tree) → is_known known f ≡ true → (ps : List NodesPut) (r : Choice) → Fits ps r
      → (b : List ℕ → List ℕ) (taken : List (List ℕ)) → MeansSo ds ps (call_at k f ts) (expanded m r b (stands f ts) taken).process

  by_uses : (m : Meaning) (known : List (List ℕ)) → UsesAreMeant m known → (p : Located) → UsesOnly known (without_numbers p) → (ps : List NodesPut) (r : Choice) → Fits ps r
      → (b : List ℕ → List ℕ) (taken : List (List ℕ)) → MeansSo ds ps p (expanded m r b (with_uses stands (without_numbers p)) taken).process
  by_uses m known uses (nil_at k) only ps r fits b taken = so_nil
  by_uses m known uses (call_at k f ts) only ps r fits b taken = uses k f ts only ps r fits b taken
  by_uses m known uses (parallel_at k p q) only ps r fits b taken = so_parallel (by_uses m known uses p only.0 ps r fits b taken) (by_uses m known uses q only.1 ps r fits b _)
  by_uses m known uses (replicated_at k p) only ps r fits b taken = so_replicated (by_uses m known uses p only ps r fits b taken)
  by_uses m known uses (act_at k a p) only ps r fits b taken = so_act (action_like ps r fits b a) (by_uses m known uses p only ps r fits b taken)
  by_uses m known uses (test_at k t u p q) only ps r fits b taken = so_test (test_like ps r fits t u) (by_uses m known uses p only.0 ps r fits b taken) (by_uses m known uses q only.1 ps r fits b _)
  by_uses m known uses (lookup_at k t x p q) only ps r fits b taken = so_lookup (lookup_like ps r fits b t x) (by_uses m known uses p only.0 ps r fits b taken) (by_uses m known uses q only.1 ps r fits b _)

  nothing_meant : IsMeant []
  nothing_meant m right p only ps r fits b taken = by_uses m [] (λ k f ts fails. absurd (cc (fails))) p only ps r fits b taken

  module _ (law : PlainLaw plain_ds) where
    -- the definition stands among these
    abbrev Stands : LocatedDefinition → Type 0
    Stands d = Contains plain_ds (plain_definition d)

    -- ---- one more definition

    module _ (d : LocatedDefinition) (known : List (List ℕ)) (is : definition_of ds d.name ≡ Some d) (stands_there : Stands d) (only : UsesOnly known (without_numbers d.body))
        (before : IsMeant known) where
      -- its own use
      own_use : (m : Meaning) → IsRight m (d.name ∷ known) → IsRight m known → (xs : List (List ℕ)) → d.params ≡ xs → (k : ℕ) (ts : List Tree) (ps : List NodesPut) (r : Choice) → Fits ps r
          → (b : List ℕ → List ℕ) (taken : List (List ℕ)) → MeansSo ds (nodes_behind ps xs ts) d.body (expanded m r b (where_none xs (plain plain_ds (without_numbers d.body)) (call d.name ts)) taken).process
      own_use m right old [] e k ts ps r fits b taken = before m old d.body only ps r fits b taken
      own_use m right old (x ∷ xs) e k ts ps r fits b taken =
          subst (λ (ys : List (List ℕ)). MeansSo ds (nodes_behind ps ys ts) d.body (m d.name (map (instance r) ts) taken).process) e
          (right d.name (let same : bytes_eq d.name d.name ≡ true = (bytes_eq-Decides d.name d.name).1 refl in rw same refl) d is (λ none. absurd (cc (e, none))) ps r fits ts taken)

      use_meant : (m : Meaning) → IsRight m (d.name ∷ known) → IsRight m known → UsesAreMeant m (d.name ∷ known)
      use_meant m right old k f ts holds ps r fits b taken = by (bytes_eq d.name f) refl
        where
          by : (t : Bool) → bytes_eq d.name f ≡ t → MeansSo ds ps (call_at k f ts) (expanded m r b (stands f ts) taken).process
          by true e =
              let name_is : d.name ≡ f = (bytes_eq-Decides d.name f).0 e in
              subst (λ (g : List ℕ). MeansSo ds ps (call_at k g ts) (expanded m r b (stands g ts) taken).process) name_is
              (so_use is (subst (λ (w : Written). MeansSo ds (nodes_behind ps d.params ts) d.body (expanded m r b w taken).process) (sym (law.stand (plain_definition d) ts stands_there))
              (own_use m right old d.params refl k ts ps r fits b taken)))
          by false e = before m old (call_at k f ts) (let there : (bytes_eq d.name f || is_known known f) ≡ true = holds in rw e at there) ps r fits b taken

      restricted : (m : Meaning) → IsRight m (d.name ∷ known) → IsRight m known
      restricted m right f holds = right f (more (bytes_eq d.name f))
        where
          more : (t : Bool) → (t || is_known known f) ≡ true
          more true = refl
          more false = holds

      pub more_meant : IsMeant (d.name ∷ known)
      more_meant m right p uses ps r fits b taken = by_uses m (d.name ∷ known) (use_meant m right (restricted m right)) p uses ps r fits b taken

      -- its body, with its arguments put in
      body_meant : (m : Meaning) → IsRight m known → (xs : List (List ℕ)) → ¬ (xs ≡ []) → (ps : List NodesPut) (r : Choice) → Fits ps r → (ts : List Tree) (names : List ℕ → List ℕ) (taken : List (List ℕ))
          → MeansSo ds (nodes_behind ps xs ts) d.body (expanded m (put xs (map (instance r) ts) (by_names names)) names (with_uses stands (without_numbers d.body)) taken).process
      body_meant m right [] some ps r fits ts names taken = absurd (some refl)
      body_meant m right (x ∷ xs) some ps r fits ts names taken =
          before m right d.body only (nodes_behind ps (x ∷ xs) ts) (put (x ∷ xs) (map (instance r) ts) (by_names names)) (use_fits ps r fits names x xs ts) names taken

      -- what it means with its own definition behind these
      pub more_right : (m : Meaning) → IsRight m known → IsRight (with_definition m (with_plain_body plain_ds (plain_definition d))) (d.name ∷ known)
      more_right m right f holds c there some ps r fits ts taken = by (bytes_eq d.name f) refl
        where
          by : (t : Bool) → bytes_eq d.name f ≡ t
              → MeansSo ds (nodes_behind ps c.params ts) c.body (if t then entered m (with_plain_body plain_ds (plain_definition d)) (map (instance r) ts) taken else m f (map (instance r) ts) taken).process
          by true e =
              let name_is : d.name ≡ f = (bytes_eq-Decides d.name f).0 e in
              let same : ◌≡◌ {A = Option LocatedDefinition} (Some d) (Some c) = sym is ∙ ap (definition_of ds) name_is ∙ there in
              let one : d ≡ c = cc (same) in
              let params : ¬ (d.params ≡ []) = subst (λ (a : LocatedDefinition). ¬ (a.params ≡ [])) (sym one) some in
              subst (λ (a : LocatedDefinition). MeansSo ds (nodes_behind ps a.params ts) a.body (entered m (with_plain_body plain_ds (plain_definition d)) (map (instance r) ts) taken).process) one
              (body_meant m right d.params params ps r fits ts (renamed taken (own_names (with_plain_body plain_ds (plain_definition d)))) (taken_after taken (own_names (with_plain_body plain_ds (plain_definition d)))))
          by false e = right f (let all : (bytes_eq d.name f || is_known known f) ≡ true = holds in rw e at all) c there some ps r fits ts taken

    -- ---- all of them

    -- behind these definitions, whose names are known: what is meant, by what, and that they have the names of all
    record AllMeant (m : Meaning) (es : List LocatedDefinition) (known : List (List ℕ)) : Type 0 where
      pub names : List (List ℕ)
      pub meant : IsMeant names
      pub right : IsRight (meaning_after m (map (with_plain_body plain_ds) (map plain_definition es))) names
      pub hold : (f : List ℕ) → is_known known f ≡ true → is_known names f ≡ true
      pub hold_all : (f : List ℕ) → is_known (defined (map plain_definition es)) f ≡ true → is_known names f ≡ true

    all_meant : (es : List LocatedDefinition) (known : List (List ℕ)) (m : Meaning) → AreInOrder known (map plain_definition es)
        → ((f : List ℕ) → is_known known f ≡ false → definition_of ds f ≡ definition_of es f) → ((d : Definition) → Contains (map plain_definition es) d → Contains plain_ds d)
        → IsMeant known → IsRight m known → AllMeant m es known
    all_meant [] known m order found inside meant right = record {
      names = known;
      meant = meant;
      right = right;
      hold = λ f holds. holds;
      hold_all = λ f fails. absurd (cc (fails));
    }
    all_meant (d ∷ es) known m order found inside meant right =
        let same : bytes_eq d.name d.name ≡ true = (bytes_eq-Decides d.name d.name).1 refl in
        let is : definition_of ds d.name ≡ Some d = found d.name order.0 ∙ rw same refl in
        let there : Contains plain_ds (plain_definition d) = inside (plain_definition d) (first_item (plain_definition d) (map plain_definition es)) in
        let rest = all_meant es (d.name ∷ known) (with_definition m (with_plain_body plain_ds (plain_definition d))) order.1.1
        (λ f fails. next f (bytes_eq d.name f) refl fails)
        (λ c among. inside c (later_item (plain_definition d) (map plain_definition es) c among))
        (more_meant d known is there order.1.0 meant) (more_right d known is there order.1.0 meant m right) in
        record {
          names = rest.names;
          meant = rest.meant;
          right = rest.right;
          hold = λ f holds. rest.hold f (more f (bytes_eq d.name f) holds);
          hold_all = λ f holds. either f (bytes_eq d.name f) refl holds rest.names rest.hold rest.hold_all;
        }
      where
        more : (f : List ℕ) (t : Bool) → is_known known f ≡ true → (t || is_known known f) ≡ true
        more f true holds = refl
        more f false holds = holds

        next : (f : List ℕ) (t : Bool) → bytes_eq d.name f ≡ t → (bytes_eq d.name f || is_known known f) ≡ false → definition_of ds f ≡ definition_of es f
        next f true e fails = let never : true ≡ false = rw e at fails in absurd (cc (never))
        next f false e fails =
            let unknown : is_known known f ≡ false = rw e at fails in
            found f unknown ∙ rw e refl

        either : (f : List ℕ) (t : Bool) → bytes_eq d.name f ≡ t → (bytes_eq d.name f || is_known (defined (map plain_definition es)) f) ≡ true
            → (names : List (List ℕ)) → ((g : List ℕ) → (bytes_eq d.name g || is_known known g) ≡ true → is_known names g ≡ true)
            → ((g : List ℕ) → is_known (defined (map plain_definition es)) g ≡ true → is_known names g ≡ true) → is_known names f ≡ true
        either f true e holds names hold all = hold f (rw e refl)
        either f false e holds names hold all = all f (rw e at holds)

    none_right : IsRight no_meaning []
    none_right f fails = absurd (cc (fails))

    pub expansion_meant : AreInOrder [] plain_ds → (p : Located) (identifiers : List (List ℕ)) → UsesOnly (defined plain_ds) (without_numbers p)
        → MeansSo ds [] p (expansion plain_ds identifiers (without_numbers p)).process
    expansion_meant order p identifiers uses =
        let all = all_meant ds [] no_meaning order (λ f fails. refl) (λ d among. among) nothing_meant none_right in
        subst (λ (bs : List Definition). MeansSo ds [] p (expanded (meaning_of bs) unchanged same_name (plain plain_ds (without_numbers p)) identifiers).process) (sym law.bodies)
        (all.meant (meaning_of (map (with_plain_body plain_ds) plain_ds)) all.right p (more_names all.names p uses all.hold_all) [] unchanged nothing_fits same_name identifiers)
      where
        more_names : (names : List (List ℕ)) (q : Located) → UsesOnly (defined plain_ds) (without_numbers q) → ((f : List ℕ) → is_known (defined plain_ds) f ≡ true → is_known names f ≡ true)
            → UsesOnly names (without_numbers q)
        more_names names (nil_at k) uses hold = tt
        more_names names (call_at k f ts) uses hold = hold f uses
        more_names names (parallel_at k p q) uses hold = (more_names names p uses.0 hold, more_names names q uses.1 hold)
        more_names names (replicated_at k p) uses hold = more_names names p uses hold
        more_names names (act_at k a p) uses hold = more_names names p uses hold
        more_names names (test_at k t u p q) uses hold = (more_names names p uses.0 hold, more_names names q uses.1 hold)
        more_names names (lookup_at k t x p q) uses hold = (more_names names p uses.0 hold, more_names names q uses.1 hold)
