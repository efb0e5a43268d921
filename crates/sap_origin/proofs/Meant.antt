-- What is written means its expansion.
use Rattle.std.proofs.Common.{◌≡◌, ℕ, Bool, true, false, List, [], ◌∷◌, Option, Some, map, refl, sym, ap, subst, ◌∙◌}
use Rattle.std.specs.Prelude.{◌||◌, Contains, if◌then◌else◌}
use Rattle.std.specs.Str.{bytes_eq}
use Rattle.std.proofs.lemmas.Slice.Eq.{bytes_eq-Decides}
use Rattle.sap_terms.specs.Choice.{Choice, instance}
use Rattle.sap_terms.specs.Tree.{Tree}
use Rattle.sap_terms.specs.Variables.{is_known}
use Rattle.sap_terms.proofs.PlainLaws.Items.{first_item, later_item}
use Rattle.sap_macro.specs.Expansion.{Meaning, Plain, by_names, entered, expanded, expansion, meaning_after, meaning_of, no_meaning, own_names, plain, plain_after, plain_bodies, put, same_name, unchanged, where_none, with_definition, with_plain_body, with_uses}
use Rattle.sap_macro.specs.Indexed.{defined}
use Rattle.sap_macro.specs.Located.{Located, nil_at, call_at, parallel_at, replicated_at, act_at, test_at, lookup_at, without_numbers}
use Rattle.sap_macro.specs.NewNames.{renamed, taken_after}
use Rattle.sap_macro.specs.Order.{AreInOrder, UsesOnly}
use Rattle.sap_macro.specs.Written.{Written, call, Definition}
use Rattle.sap_origin.specs.Definitions.{LocatedDefinition, plain_definition}
use Rattle.sap_origin.specs.Meant.{Means, means_nil, means_parallel, means_replicated, means_act, means_test, means_lookup, means_use, definition_of}
use Rattle.sap_origin.proofs.Ordered.{uses_more}

-- what the law of names without parameters says of these definitions
pub record PlainLaw (ds : List Definition) : Type 0 where
  pub stand : (d : Definition) (ts : List Tree) → Contains ds d → plain_after call ds d.name ts ≡ where_none d.params (plain ds d.body) (call d.name ts)
  pub bodies : plain_bodies call ds ≡ map (with_plain_body ds) ds

-- there are none
abbrev HasNone : List (List ℕ) → Type 0
HasNone xs = xs ≡ []

module _ (ds : List LocatedDefinition) where
  -- the definitions without numbers, and what names stand for that are replaced first
  abbrev plain_ds : List Definition
  plain_ds = map plain_definition ds

  abbrev stands : Plain
  stands = plain_after call plain_ds

  -- what a name with parameters means is what the body of its definition means, where the name is one of these
  abbrev IsRight : Meaning → List (List ℕ) → Type 0
  IsRight m known = (f : List ℕ) → is_known known f ≡ true → (d : LocatedDefinition) → definition_of ds f ≡ Some d → ¬ (HasNone d.params) → (ts : List Tree) (taken : List (List ℕ))
      → Means ds d.body (m f ts taken).process

  -- a process that uses these alone means what it is expanded to
  abbrev IsMeant : List (List ℕ) → Type 0
  IsMeant known = (m : Meaning) → IsRight m known → (p : Located) → UsesOnly known (without_numbers p) → (r : Choice) (b : List ℕ → List ℕ) (taken : List (List ℕ))
      → Means ds p (expanded m r b (with_uses stands (without_numbers p)) taken).process

  -- a use of these means it
  abbrev UsesAreMeant : Meaning → List (List ℕ) → Type 0
  UsesAreMeant m known = (k : ℕ) (f : List ℕ) (ts : List Tree) → is_known known f ≡ true → (r : Choice) (b : List ℕ → List ℕ) (taken : List (List ℕ))
      → Means ds (call_at k f ts) (expanded m r b (stands f ts) taken).process

  by_uses : (m : Meaning) (known : List (List ℕ)) → UsesAreMeant m known → (p : Located) → UsesOnly known (without_numbers p) → (r : Choice) (b : List ℕ → List ℕ) (taken : List (List ℕ))
      → Means ds p (expanded m r b (with_uses stands (without_numbers p)) taken).process
  by_uses m known uses (nil_at k) only r b taken = means_nil
  by_uses m known uses (call_at k f ts) only r b taken = uses k f ts only r b taken
  by_uses m known uses (parallel_at k p q) only r b taken = means_parallel (by_uses m known uses p only.0 r b taken) (by_uses m known uses q only.1 r b _)
  by_uses m known uses (replicated_at k p) only r b taken = means_replicated (by_uses m known uses p only r b taken)
  by_uses m known uses (act_at k a p) only r b taken = means_act r b refl (by_uses m known uses p only r b taken)
  by_uses m known uses (test_at k t u p q) only r b taken = means_test r refl refl (by_uses m known uses p only.0 r b taken) (by_uses m known uses q only.1 r b _)
  by_uses m known uses (lookup_at k t x p q) only r b taken = means_lookup r b refl refl (by_uses m known uses p only.0 r b taken) (by_uses m known uses q only.1 r b _)

  nothing_meant : IsMeant []
  nothing_meant m right p only r b taken = by_uses m [] (λ k f ts fails. absurd (cc (fails))) p only r b taken

  module _ (law : PlainLaw plain_ds) where
    -- the definition stands among these
    abbrev Stands : LocatedDefinition → Type 0
    Stands d = Contains plain_ds (plain_definition d)

    -- ---- one more definition

    module _ (d : LocatedDefinition) (known : List (List ℕ)) (is : definition_of ds d.name ≡ Some d) (stands_there : Stands d) (only : UsesOnly known (without_numbers d.body))
        (before : IsMeant known) where
      -- its own use
      own_use : (m : Meaning) → IsRight m (d.name ∷ known) → IsRight m known → (xs : List (List ℕ)) → d.params ≡ xs → (k : ℕ) (ts : List Tree) (r : Choice) (b : List ℕ → List ℕ) (taken : List (List ℕ))
          → Means ds d.body (expanded m r b (where_none xs (plain plain_ds (without_numbers d.body)) (call d.name ts)) taken).process
      own_use m right old [] e k ts r b taken = before m old d.body only r b taken
      own_use m right old (x ∷ xs) e k ts r b taken =
          right d.name (let same : bytes_eq d.name d.name ≡ true = (bytes_eq-Decides d.name d.name).1 refl in rw same refl) d is (λ none. absurd (cc (e, none))) (map (instance r) ts) taken

      use_meant : (m : Meaning) → IsRight m (d.name ∷ known) → IsRight m known → UsesAreMeant m (d.name ∷ known)
      use_meant m right old k f ts holds r b taken = by (bytes_eq d.name f) refl
        where
          by : (t : Bool) → bytes_eq d.name f ≡ t → Means ds (call_at k f ts) (expanded m r b (stands f ts) taken).process
          by true e =
              let name_is : d.name ≡ f = (bytes_eq-Decides d.name f).0 e in
              subst (λ (g : List ℕ). Means ds (call_at k g ts) (expanded m r b (stands g ts) taken).process) name_is
              (means_use is (subst (λ (w : Written). Means ds d.body (expanded m r b w taken).process) (sym (law.stand (plain_definition d) ts stands_there))
              (own_use m right old d.params refl k ts r b taken)))
          by false e = before m old (call_at k f ts) (let there : (bytes_eq d.name f || is_known known f) ≡ true = holds in rw e at there) r b taken

      restricted : (m : Meaning) → IsRight m (d.name ∷ known) → IsRight m known
      restricted m right f holds = right f (more (bytes_eq d.name f))
        where
          more : (t : Bool) → (t || is_known known f) ≡ true
          more true = refl
          more false = holds

      pub more_meant : IsMeant (d.name ∷ known)
      more_meant m right p uses r b taken = by_uses m (d.name ∷ known) (use_meant m right (restricted m right)) p uses r b taken

      -- what it means with its own definition behind these
      pub more_right : (m : Meaning) → IsRight m known → IsRight (with_definition m (with_plain_body plain_ds (plain_definition d))) (d.name ∷ known)
      more_right m right f holds c there some ts taken = by (bytes_eq d.name f) refl
        where
          by : (t : Bool) → bytes_eq d.name f ≡ t → Means ds c.body (if t then entered m (with_plain_body plain_ds (plain_definition d)) ts taken else m f ts taken).process
          by true e =
              let name_is : d.name ≡ f = (bytes_eq-Decides d.name f).0 e in
              let same : ◌≡◌ {A = Option LocatedDefinition} (Some d) (Some c) = sym is ∙ ap (definition_of ds) name_is ∙ there in
              let one : d ≡ c = cc (same) in
              subst (λ (a : LocatedDefinition). Means ds a.body (entered m (with_plain_body plain_ds (plain_definition d)) ts taken).process) one
              (before m right d.body only (put d.params ts (by_names (renamed taken (own_names (with_plain_body plain_ds (plain_definition d))))))
              (renamed taken (own_names (with_plain_body plain_ds (plain_definition d)))) (taken_after taken (own_names (with_plain_body plain_ds (plain_definition d)))))
          by false e = right f (let all : (bytes_eq d.name f || is_known known f) ≡ true = holds in rw e at all) c there some ts taken

    -- ---- all of them

    -- behind these definitions, whose names are known: what is meant, by what, and that they have the names of all
    record AllMeant (m : Meaning) (es : List LocatedDefinition) (known : List (List ℕ)) : Type 0 where
      pub names : List (List ℕ)
      pub meant : IsMeant names
      pub right : IsRight (meaning_after m (map (with_plain_body plain_ds) (map plain_definition es))) names
      pub hold : (f : List ℕ) → is_known known f ≡ true → is_known names f ≡ true
      pub hold_all : (f : List ℕ) → is_known (defined (map plain_definition es)) f ≡ true → is_known names f ≡ true

    all_meant : (es : List LocatedDefinition) (known : List (List ℕ)) (m : Meaning) → AreInOrder known (map plain_definition es)
        → ((f : List ℕ) → is_known known f ≡ false → definition_of ds f ≡ definition_of es f) → ((d : Definition) → Contains (map plain_definition es) d → Contains plain_ds d)
        → IsMeant known → IsRight m known → AllMeant m es known
    all_meant [] known m order found inside meant right = record {
      names = known;
      meant = meant;
      right = right;
      hold = λ f holds. holds;
      hold_all = λ f fails. absurd (cc (fails));
    }
    all_meant (d ∷ es) known m order found inside meant right =
        let same : bytes_eq d.name d.name ≡ true = (bytes_eq-Decides d.name d.name).1 refl in
        let is : definition_of ds d.name ≡ Some d = found d.name order.0 ∙ rw same refl in
        let there : Contains plain_ds (plain_definition d) = inside (plain_definition d) (first_item (plain_definition d) (map plain_definition es)) in
        let rest = all_meant es (d.name ∷ known) (with_definition m (with_plain_body plain_ds (plain_definition d))) order.1.1
        (λ f fails. next f (bytes_eq d.name f) refl fails)
        (λ c among. inside c (later_item (plain_definition d) (map plain_definition es) c among))
        (more_meant d known is there order.1.0 meant) (more_right d known is there order.1.0 meant m right) in
        record {
          names = rest.names;
          meant = rest.meant;
          right = rest.right;
          hold = λ f holds. rest.hold f (more f (bytes_eq d.name f) holds);
          hold_all = λ f holds. either f (bytes_eq d.name f) refl holds rest.names rest.hold rest.hold_all;
        }
      where
        more : (f : List ℕ) (t : Bool) → is_known known f ≡ true → (t || is_known known f) ≡ true
        more f true holds = refl
        more f false holds = holds

        next : (f : List ℕ) (t : Bool) → bytes_eq d.name f ≡ t → (bytes_eq d.name f || is_known known f) ≡ false → definition_of ds f ≡ definition_of es f
        next f true e fails = let never : true ≡ false = rw e at fails in absurd (cc (never))
        next f false e fails =
            let unknown : is_known known f ≡ false = rw e at fails in
            found f unknown ∙ rw e refl

        either : (f : List ℕ) (t : Bool) → bytes_eq d.name f ≡ t → (bytes_eq d.name f || is_known (defined (map plain_definition es)) f) ≡ true
            → (names : List (List ℕ)) → ((g : List ℕ) → (bytes_eq d.name g || is_known known g) ≡ true → is_known names g ≡ true)
            → ((g : List ℕ) → is_known (defined (map plain_definition es)) g ≡ true → is_known names g ≡ true) → is_known names f ≡ true
        either f true e holds names hold all = hold f (rw e refl)
        either f false e holds names hold all = all f (rw e at holds)

    none_right : IsRight no_meaning []
    none_right f fails = absurd (cc (fails))

    pub expansion_meant : AreInOrder [] plain_ds → (p : Located) (identifiers : List (List ℕ)) → UsesOnly (defined plain_ds) (without_numbers p)
        → Means ds p (expansion plain_ds identifiers (without_numbers p)).process
    expansion_meant order p identifiers uses =
        let all = all_meant ds [] no_meaning order (λ f fails. refl) (λ d among. among) nothing_meant none_right in
        subst (λ (bs : List Definition). Means ds p (expanded (meaning_of bs) unchanged same_name (plain plain_ds (without_numbers p)) identifiers).process) (sym law.bodies)
        (all.meant (meaning_of (map (with_plain_body plain_ds) plain_ds)) all.right p (uses_more (defined plain_ds) all.names all.hold_all (without_numbers p) uses) unchanged same_name identifiers)
