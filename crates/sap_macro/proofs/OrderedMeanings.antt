-- What uses mean behind definitions in order, of which those of some names are closed.
use Rattle.std.proofs.Common.{◌≡◌, ℕ, true, false, List, [], ◌∷◌, refl, sym, ap, ◌∙◌, subst, ⊎_elim}
use Rattle.std.specs.Prelude.{Contains, if◌then◌else◌}
use Rattle.sap_terms.specs.Choice.{Choice}
use Rattle.sap_terms.specs.Ground.{IsGround}
use Rattle.sap_terms.specs.Tree.{Tree}
use Rattle.sap_terms.specs.Variables.{is_known}
use Rattle.sap_terms.specs.declared.var.Var.{Var}
use Rattle.sap_process.specs.Instance.{process_instance}
use Rattle.sap_process.specs.ProcessSteps.{chosen}
use Rattle.sap_process.specs.Sites.{var_names}
use Rattle.sap_macro.specs.Expansion.{Expanded, Meaning, entered, expanded, meaning_after, meaning_of, no_meaning, same_name, scope_behind, unchanged, with_definition}
use Rattle.sap_macro.specs.Indexed.{defined}
use Rattle.sap_macro.specs.Instances.{AreClosedAmong, IsClosed, written_instance}
use Rattle.sap_macro.specs.Order.{AreInOrder, UsesOnly}
use Rattle.sap_macro.specs.Written.{Written, Definition}
use Rattle.sap_terms.proofs.PlainLaws.Items.{cons_cases, none_contained}
use Rattle.sap_terms.proofs.PlainLaws.Known.{in_head, not_in, own_name}
use Rattle.sap_macro.proofs.Commuting.{IsSteady}
use Rattle.sap_macro.proofs.Continuing.{instance_of_expansion}
use Rattle.sap_macro.proofs.OtherDefinitions.{agree_after, closed_of, entered_agree, instance_uses, of_names}
use Rattle.sap_macro.proofs.Resolving.{apart_from, expanded_agree}
use Rattle.sap_macro.proofs.Scopes.{Among}
use Rattle.sap_macro.proofs.Uses.{all_hold, steady_with}

-- a name that these don't define means what it meant before them
meaning_kept : (ds : List Definition) (m : Meaning) (f : List ℕ) (ts : List Tree) (taken : List (List ℕ)) → is_known (defined ds) f ≡ false → meaning_after m ds f ts taken ≡ m f ts taken
meaning_kept [] m f ts taken h = refl
meaning_kept (d ∷ ds) m f ts taken h =
    let other = not_in f d.name (defined ds) h in
    meaning_kept ds (with_definition m d) f ts taken other.1
    ∙ ap (λ b. if b then entered m d ts taken else m f ts taken) other.0

-- the name of a definition means its body, all of whose names are understood
means_after : (ds : List Definition) (known : List (List ℕ)) (m : Meaning) → AreInOrder known ds → (d : Definition) → Contains ds d → (ts : List Tree) (taken : List (List ℕ))
    → meaning_after m ds d.name ts taken ≡ entered (meaning_after m ds) d ts taken
means_after [] known m h d c ts taken = absurd (none_contained c)
means_after (e ∷ es) known m h d c ts taken =
    ⊎_elim
    (λ same. subst (λ (z : Definition). meaning_after m (e ∷ es) z.name ts taken ≡ entered (meaning_after m (e ∷ es)) z ts taken) same
    (meaning_kept es (with_definition m e) e.name ts taken (apart_from es (e.name ∷ known) h.1.1 e.name (in_head e.name known))
    ∙ ap (λ b. if b then entered m e ts taken else m e.name ts taken) (own_name e.name)
    ∙ entered_agree known m (meaning_after m (e ∷ es)) e h.1.0 (λ f us z k. sym (meaning_kept (e ∷ es) m f us z (apart_from (e ∷ es) known h f k))) ts taken))
    (λ k. means_after es (e.name ∷ known) (with_definition m e) h.1.1 d k ts taken)
    (cons_cases e es d c)

pub means : (ds : List Definition) → AreInOrder [] ds → (d : Definition) → Contains ds d → (ts : List Tree) (taken : List (List ℕ))
    → meaning_of ds d.name ts taken ≡ entered (meaning_of ds) d ts taken
means ds h = means_after ds [] no_meaning h

steady_after : (ds : List Definition) (m : Meaning) → IsSteady m → IsSteady (meaning_after m ds)
steady_after [] m h = h
steady_after (d ∷ ds) m h = steady_after ds (with_definition m d) (steady_with m h d)

-- what is taken behind an expansion grows, whatever the definitions are
pub steady_of : (ds : List Definition) → IsSteady (meaning_of ds)
steady_of ds = steady_after ds no_meaning (record { same = λ f ts us taken. refl; grows = λ f ts taken x h. h })

-- a definition of one of the names is closed, and uses these names alone
pub closed_body : (names : List (List ℕ)) (ds : List Definition) → AreClosedAmong names ds → (d : Definition) → Contains ds d → is_known names d.name ≡ true
    → IsClosed d.params d.body × UsesOnly names d.body
closed_body names [] all d c k = absurd (none_contained c)
closed_body names (e ∷ es) all d c k =
    ⊎_elim (λ same. subst (λ (z : Definition). is_known names z.name ≡ true → IsClosed z.params z.body × UsesOnly names z.body) same all.0 k)
    (λ l. closed_body names es all.1 d l k) (cons_cases e es d c)

-- what goes on where ground terms are put: the expansion of the instance is the instance of the expansion
pub instance_among : (names : List (List ℕ)) (ds : List Definition) → AreClosedAmong names ds → (σ : Choice) (vs : List Var) → ((v : Var) → IsGround (σ v))
    → (w : Written) (taken : List (List ℕ)) → UsesOnly names w → IsClosed (scope_behind [] vs) w → Among (var_names vs) taken
    → (expanded (meaning_of ds) unchanged same_name (written_instance (chosen σ vs) w) taken).process
    ≡ process_instance (chosen σ vs) (expanded (meaning_of ds) unchanged same_name w taken).process
instance_among names ds all σ vs ground w taken uses closed own =
    let es = of_names names ds in
    let h = all_hold es (closed_of names ds all) in
    let agree = agree_after ds names no_meaning no_meaning all (λ f xs z i. refl) in
    let next = written_instance (chosen σ vs) w in
    ap (λ (e : Expanded). e.process) (expanded_agree names next (meaning_of ds) (meaning_of es) (instance_uses names (chosen σ vs) w uses) agree unchanged same_name taken)
    ∙ instance_of_expansion σ vs ground w taken closed own (meaning_of es) h.steady h.commutes
    ∙ sym (ap (λ (e : Expanded). process_instance (chosen σ vs) e.process) (expanded_agree names w (meaning_of ds) (meaning_of es) uses agree unchanged same_name taken))
