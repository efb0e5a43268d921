-- An input of two equal terms as a pair: it takes <'a','a'>, and nothing makes its pattern <'a','b'>.
use Rattle.std.proofs.Common.{◌≡◌, List, [], ◌∷◌, Some, Bool, true, false, refl, sym, ap, ◌∙◌}
use Rattle.std.specs.Prelude.{codes, Contains}
use Rattle.std.specs.Str.{bytes_eq}
use Rattle.sap_terms.specs.AdversaryFacts.{k_fact}
use Rattle.sap_terms.specs.Choice.{Choice}
use Rattle.sap_terms.specs.Deduce.{IsDerived}
use Rattle.sap_terms.specs.Equal.{IsTheoryEqual}
use Rattle.sap_terms.specs.Equations.{Equations, equations, IsInstance, app2, pair_name}
use Rattle.sap_terms.specs.Normal.{IsNormal, IsNormalForm}
use Rattle.sap_terms.specs.Signature.{Sig, HoldsBuiltins, IsPublic, arity_of}
use Rattle.sap_terms.specs.Tree.{Tree, variable, public, fresh, apply, more}
use Rattle.sap_process.specs.Configuration.{Config, CanGive, initial, becomes}
use Rattle.sap_process.specs.Action.{event}
use Rattle.sap_process.specs.Proc.{nil, act}
use Rattle.sap_process.specs.ProcessSteps.{Fits, ProcessStep, ProcessRun, IsProcessTrace}
use Rattle.sap_translate.specs.Examples.{term_a, term_b, x, a_fact, twins, twins_told, twin_pattern}
use Rattle.sap_translate.specs.Faithful.{IsVisibleTrace}
use Rattle.sap_translate.specs.Members.{Member}
use Rattle.sap_translate.specs.Sound.{IsSound}
use Rattle.sap_templates.specs.Templates.{rules_of}
use Rattle.sap_translate.specs.relation.Spelled.{IsProcessOver}
use Rattle.sap_translate.proofs.ByHand.Parts.{sound_by_parts, rules_show, own_form, all_named, names_messages}
use Rattle.sap_translate.proofs.Premises.LowerLaws.{Laws}
use Rattle.sap_translate.proofs.Premises.WellMade.{each_at}
use Rattle.sap_translate.proofs.Terms.Derive.{contains, each_of_members}

abbrev is_pair : Tree → Bool
is_pair (apply f ts) = bytes_eq f pair_name
is_pair (variable v) = false
is_pair (public n) = false
is_pair (fresh k) = false

left_not_pair : (e : Equations) (t r : Tree) → IsInstance e t r → is_pair t ≡ false
left_not_pair e t r IsInstance.first = refl
left_not_pair e t r IsInstance.second = refl
left_not_pair e t r (IsInstance.symmetric s) = refl
left_not_pair e t r (IsInstance.asymmetric s) = refl
left_not_pair e t r (IsInstance.signing s) = refl
left_not_pair e t r (IsInstance.revealing s) = refl
left_not_pair e t r (IsInstance.revealed s) = refl

pair_normal : (e : Equations) (t u : Tree) → IsNormal e t → IsNormal e u → IsNormal e (app2 pair_name t u)
pair_normal e t u h k = (λ b i. (let z : false ≡ true = sym (left_not_pair e (app2 pair_name t u) b i) in cc), (h, (k, tt)))

abbrev first_arg : Tree → Tree
first_arg (apply f (more t ts)) = t
first_arg t = t

abbrev second_arg : Tree → Tree
second_arg (apply f (more t (more u ts))) = u
second_arg t = t

abbrev is_a : Tree → Bool
is_a (public n) = bytes_eq n (codes "a")
is_a t = false

pub no_match : (laws : Laws) → (g : Sig) (σ : Choice) → Fits g σ twin_pattern (app2 pair_name term_a term_b) → ⊥
no_match laws g σ h =
    let e : Equations = equations g in
    let one : IsNormal e (σ x) = (h.messages x).normal in
    let names : IsNormal e (app2 pair_name term_a term_b) = pair_normal e term_a term_b (laws.leaves.of_public_name e (codes "a")) (laws.leaves.of_public_name e (codes "b")) in
    let form : IsNormalForm e (app2 pair_name (σ x) (σ x)) (app2 pair_name (σ x) (σ x)) = record { equal = IsTheoryEqual.same; normal = pair_normal e (σ x) (σ x) one one } in
    let other : IsNormalForm e (app2 pair_name (σ x) (σ x)) (app2 pair_name term_a term_b) = record { equal = h.equal; normal = names } in
    let same : app2 pair_name (σ x) (σ x) ≡ app2 pair_name term_a term_b = laws.one_form e (app2 pair_name (σ x) (σ x)) (app2 pair_name (σ x) (σ x)) (app2 pair_name term_a term_b) form other in
    let ends : term_a ≡ term_b = sym (ap first_arg same) ∙ ap second_arg same in
    let z : true ≡ false = ap is_a ends in
    cc

gives_twins : (laws : Laws) → (g : Sig) (c : Config) → IsPublic g pair_name → arity_of g pair_name ≡ Some 2 → CanGive g c (app2 pair_name term_a term_a)
gives_twins laws g c free two =
    let name : IsNormal (equations g) term_a = laws.leaves.of_public_name (equations g) (codes "a") in
    let form : IsNormalForm (equations g) (app2 pair_name term_a term_a) (app2 pair_name term_a term_a) = record { equal = IsTheoryEqual.same; normal = pair_normal (equations g) term_a term_a name name } in
    let ts : List Tree = term_a ∷ term_a ∷ [] in
    let has : Contains (term_a ∷ []) term_a = contains (Member.here {xs = []}) in
    record {
      deducible = record {
        form = app2 pair_name term_a term_a;
        is_form = form;
        earlier = term_a ∷ [];
        derivation = (
          IsDerived.applied pair_name ts free two (each_of_members ts (λ u m. each_at (Contains (term_a ∷ [])) ts (has, (has, tt)) u m)) form,
          (IsDerived.a_public (codes "a") refl, tt),
        );
      };
      normal = form.normal;
    }

pub twins_taken : (laws : Laws) → (g : Sig) → IsPublic g pair_name → arity_of g pair_name ≡ Some 2 → IsProcessTrace g twins ((k_fact (app2 pair_name term_a term_a) ∷ []) ∷ [])
twins_taken laws g free two = (
  becomes (initial twins) 0 (Some nil),
  ProcessRun.further {c = initial twins} ProcessRun.starts
      (ProcessStep.inputs 0 (all_named (codes "a")) refl ((gives_twins laws) g (initial twins) free two) (record { messages = (names_messages laws) g (codes "a"); equal = IsTheoryEqual.same })),
)

pub pattern_sound : (g : Sig) → IsSound g twins
pattern_sound g = sound_by_parts g twins ((Member.here, (Member.here, tt)), tt) tt

pub twins_taken_rules : (laws : Laws) → (g : Sig) → HoldsBuiltins g → IsPublic g pair_name → arity_of g pair_name ≡ Some 2 → IsVisibleTrace g (rules_of twins) ((k_fact (app2 pair_name term_a term_a) ∷ []) ∷ [])
twins_taken_rules laws g hold free two = (rules_show laws) g twins hold (pattern_sound g) (tt, tt) _ ((twins_taken laws) g free two)

-- behind that it is shown which term the pair is of

abbrev pair_taken : Config
pair_taken = becomes (initial twins_told) 0 (Some (act (event (a_fact term_a)) nil))

pub twins_shown : (laws : Laws) → (g : Sig) → IsPublic g pair_name → arity_of g pair_name ≡ Some 2 → IsProcessTrace g twins_told ((k_fact (app2 pair_name term_a term_a) ∷ []) ∷ (a_fact term_a ∷ []) ∷ [])
twins_shown laws g free two = (
  becomes pair_taken 0 (Some nil),
  ProcessRun.further {c = pair_taken}
      (ProcessRun.further {c = initial twins_told} ProcessRun.starts
      (ProcessStep.inputs 0 (all_named (codes "a")) refl ((gives_twins laws) g (initial twins_told) free two) (record { messages = (names_messages laws) g (codes "a"); equal = IsTheoryEqual.same })))
      (ProcessStep.shows 0 refl (record { name = refl; persistent = refl; args = ((own_form laws) g (codes "a"), tt) })),
)

pub twins_sound : (g : Sig) → IsSound g twins_told
twins_sound g = sound_by_parts g twins_told ((Member.here, (Member.here, tt)), ((refl, (Member.here, tt)), tt)) tt

pub twins_over : (g : Sig) → IsProcessOver g twins_told
twins_over g = (tt, ((refl, (tt, tt)), tt))

pub twins_shown_rules : (laws : Laws) → (g : Sig) → HoldsBuiltins g → IsPublic g pair_name → arity_of g pair_name ≡ Some 2 → IsVisibleTrace g (rules_of twins_told) ((k_fact (app2 pair_name term_a term_a) ∷ []) ∷ (a_fact term_a ∷ []) ∷ [])
twins_shown_rules laws g hold free two = (rules_show laws) g twins_told hold (twins_sound g) (twins_over g) _ ((twins_shown laws) g free two)
