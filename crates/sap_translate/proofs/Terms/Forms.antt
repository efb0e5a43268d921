-- Normal forms of facts: what the steps' premises come to.
use Rattle.sap_translate.proofs.Premises.LowerLaws.{Laws, nf-public, nf-fresh, nf-reached, nf-normal, nf-fixed, has_normal_form, one_normal_form, nf}
use Rattle.sap_translate.specs.Members.{Member}
use Rattle.sap_translate.proofs.Shared.Facts.{made}
use Rattle.sap_translate.specs.relation.Modulo.{AreForms, AreEqual, AreNormalTerms}
use Rattle.sap_terms.specs.Choice.{fits_sort, Choice}
use Rattle.sap_terms.specs.Equal.{IsTheoryEqual}
use Rattle.sap_terms.specs.Message.{IsMessage, IsMessageChoice}
use Rattle.sap_terms.specs.Modulo.{IsFormOfFact, AreFormsOfFacts, AreEqualFacts, instance_facts}
use Rattle.sap_terms.specs.Normal.{IsNormal}
use Rattle.sap_terms.specs.Equations.{Equations, equations}
use Rattle.sap_terms.specs.Signature.{Sig}
use Rattle.sap_terms.specs.Tree.{Tree, variable, public, fresh, apply}
use Rattle.sap_terms.specs.declared.fact.Fact.{Fact}
use Rattle.sap_terms.specs.declared.var.Sort.TheVariants.{Fresh}
use Rattle.sap_terms.specs.declared.var.Var.{Var}
use Rattle.std.proofs.Common.{◌≡◌, ℕ, List, [], ◌∷◌, refl, subst, true, map}

abbrev pub nf_fact : (laws : Laws) → Equations → Fact → Fact
nf_fact laws e f = record { name = f.name; persistent = f.persistent; args = map ((nf laws) e) f.args }

abbrev pub nf_facts : (laws : Laws) → Equations → List Fact → List Fact
nf_facts laws e fs = map ((nf_fact laws) e) fs

-- the facts of a rule, with σ, in normal form
abbrev pub settled : (laws : Laws) → Equations → Choice → List Fact → List Fact
settled laws e σ fs = (nf_facts laws) e (instance_facts σ fs)

-- what is theory-equal to a term and normal is its normal form
pub form_of_equal : (laws : Laws) → (e : Equations) (t u : Tree) → IsTheoryEqual e t u → IsNormal e u → u ≡ (nf laws) e t
form_of_equal laws e t u h n = (one_normal_form laws) e t u (record { equal = h; normal = n })

pub public_normal : (laws : Laws) → (e : Equations) (a : List ℕ) → IsNormal e (public a)
public_normal laws e a = subst (λ t. IsNormal e t) ((nf-public laws) e a) ((nf-normal laws) e (public a))

pub fresh_normal : (laws : Laws) → (e : Equations) (n : ℕ) → IsNormal e (fresh n)
fresh_normal laws e n = subst (λ t. IsNormal e t) ((nf-fresh laws) e n) ((nf-normal laws) e (fresh n))

-- lists of terms

forms_are : (laws : Laws) → (e : Equations) (ts ns : List Tree) → AreForms e ts ns → ns ≡ map ((nf laws) e) ts
forms_are laws e [] [] h = refl
forms_are laws e [] (n ∷ ns) h = absurd h
forms_are laws e (t ∷ ts) [] h = absurd h
forms_are laws e (t ∷ ts) (n ∷ ns) h = λ i. (one_normal_form laws) e t n h.0 i ∷ (forms_are laws) e ts ns h.1 i

pub are_forms : (laws : Laws) → (e : Equations) (ts : List Tree) → AreForms e ts (map ((nf laws) e) ts)
are_forms laws e [] = tt
are_forms laws e (t ∷ ts) = ((has_normal_form laws) e t, (are_forms laws) e ts)

pub are_equal : (laws : Laws) → (e : Equations) (ts : List Tree) → AreEqual e ts (map ((nf laws) e) ts)
are_equal laws e [] = tt
are_equal laws e (t ∷ ts) = ((nf-reached laws) e t, (are_equal laws) e ts)

equal_are : (laws : Laws) → (e : Equations) (ts us : List Tree) → AreEqual e ts us → AreNormalTerms e us → us ≡ map ((nf laws) e) ts
equal_are laws e [] [] h n = refl
equal_are laws e [] (u ∷ us) h n = absurd h
equal_are laws e (t ∷ ts) [] h n = absurd h
equal_are laws e (t ∷ ts) (u ∷ us) h n = λ i. (form_of_equal laws) e t u h.0 n.0 i ∷ (equal_are laws) e ts us h.1 n.1 i

pub nf_all_normal : (laws : Laws) → (e : Equations) (ts : List Tree) → AreNormalTerms e (map ((nf laws) e) ts)
nf_all_normal laws e [] = tt
nf_all_normal laws e (t ∷ ts) = ((nf-normal laws) e t, (nf_all_normal laws) e ts)

pub nf_all_fixed : (laws : Laws) → (e : Equations) (ts : List Tree) → AreNormalTerms e ts → map ((nf laws) e) ts ≡ ts
nf_all_fixed laws e [] n = refl
nf_all_fixed laws e (t ∷ ts) n = λ i. (nf-fixed laws) e t n.0 i ∷ (nf_all_fixed laws) e ts n.1 i

-- facts

pub form_of_fact : (laws : Laws) → (e : Equations) (f : Fact) → IsFormOfFact e f ((nf_fact laws) e f)
form_of_fact laws e f = record { name = refl; persistent = refl; args = (are_forms laws) e f.args }

pub form_is : (laws : Laws) → (e : Equations) (f h : Fact) → IsFormOfFact e f h → h ≡ (nf_fact laws) e f
form_is laws e f h i = made h.name f.name h.persistent f.persistent h.args (map ((nf laws) e) f.args) i.name i.persistent ((forms_are laws) e f.args h.args i.args)

pub forms_of_facts : (laws : Laws) → (e : Equations) (fs : List Fact) → AreFormsOfFacts e fs ((nf_facts laws) e fs)
forms_of_facts laws e [] = tt
forms_of_facts laws e (f ∷ fs) = ((form_of_fact laws) e f, (forms_of_facts laws) e fs)

pub forms_are_facts : (laws : Laws) → (e : Equations) (fs hs : List Fact) → AreFormsOfFacts e fs hs → hs ≡ (nf_facts laws) e fs
forms_are_facts laws e [] [] h = refl
forms_are_facts laws e [] (x ∷ hs) h = absurd h
forms_are_facts laws e (f ∷ fs) [] h = absurd h
forms_are_facts laws e (f ∷ fs) (x ∷ hs) h = λ i. (form_is laws) e f x h.0 i ∷ (forms_are_facts laws) e fs hs h.1 i

pub equal_facts : (laws : Laws) → (e : Equations) (fs : List Fact) → AreEqualFacts e fs ((nf_facts laws) e fs)
equal_facts laws e [] = tt
equal_facts laws e (f ∷ fs) = (record { name = refl; persistent = refl; args = (are_equal laws) e f.args }, (equal_facts laws) e fs)

-- each fact has normal arguments
abbrev pub IsTidy : Equations → Fact → Type 0
IsTidy e f = AreNormalTerms e f.args

pub equal_are_facts : (laws : Laws) → (e : Equations) (fs hs : List Fact) → AreEqualFacts e fs hs → ((h : Fact) → Member h hs → IsTidy e h) → hs ≡ (nf_facts laws) e fs
equal_are_facts laws e [] [] h n = refl
equal_are_facts laws e [] (x ∷ hs) h n = absurd h
equal_are_facts laws e (f ∷ fs) [] h n = absurd h
equal_are_facts laws e (f ∷ fs) (x ∷ hs) h n =
    let one : x ≡ (nf_fact laws) e f = made x.name f.name x.persistent f.persistent x.args (map ((nf laws) e) f.args) h.0.name h.0.persistent ((equal_are laws) e f.args x.args h.0.args (n x Member.here)) in
    let two : hs ≡ (nf_facts laws) e fs = (equal_are_facts laws) e fs hs h.1 (λ y m. n y (Member.later m)) in
    λ i. one i ∷ two i

pub nf_facts_tidy : (laws : Laws) → (e : Equations) (fs : List Fact) (h : Fact) → Member h ((nf_facts laws) e fs) → IsTidy e h
nf_facts_tidy laws e [] h m = elim m [ ]
nf_facts_tidy laws e (f ∷ fs) h m = at ((nf_fact laws) e f) ((nf_facts laws) e fs) m ((nf_all_normal laws) e f.args) (λ k. (nf_facts_tidy laws) e fs h k)
  where
    at : (x : Fact) (xs : List Fact) → Member h (x ∷ xs) → IsTidy e x → (Member h xs → IsTidy e h) → IsTidy e h
    at x xs Member.here n rest = n
    at x xs (Member.later k) n rest = rest k

-- what a choice gives stays
pub chosen_fixed : (laws : Laws) → (g : Sig) (σ : Choice) → IsMessageChoice g σ → (v : List Var) → map ((nf laws) (equations g)) (map σ v) ≡ map σ v
chosen_fixed laws g σ good [] = refl
chosen_fixed laws g σ good (x ∷ v) = λ i. (nf-fixed laws) (equations g) (σ x) (good x).normal i ∷ (chosen_fixed laws) g σ good v i

-- what stands for a fresh variable
pub record IsFresh (t : Tree) : Type 0 where
  pub number : ℕ
  pub is : t ≡ fresh number

pub fresh_fits : (t : Tree) → fits_sort Fresh t ≡ true → IsFresh t
fresh_fits (variable v) h = absurd (cc)
fresh_fits (public a) h = absurd (cc)
fresh_fits (fresh n) h = record { number = n; is = refl }
fresh_fits (apply f ts) h = absurd (cc)

-- a fresh name is a message for a variable of that sort
pub fresh_message : (laws : Laws) → (g : Sig) (n : ℕ) → IsMessage g Fresh (fresh n)
fresh_message laws g n = record { ground = tt; over = tt; normal = (fresh_normal laws) (equations g) n; sorted = refl }
