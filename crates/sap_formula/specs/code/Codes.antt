-- Formulas, restrictions and lemmas as ghost values, so that a proof can tell them apart.
use Rattle.std.specs.Prelude.{◌≡◌, ℕ, zero, suc, Bool, true, false, List, [], ◌∷◌, refl}
use Rattle.std.proofs.Common.{ap}
use Rattle.std.specs.Coded.{Coded, code_by, coded×, coded_ℕ, coded_list}
use Rattle.sap_terms.specs.Tree.{Tree, variable, public, fresh, apply, Trees, none, more, trees_of, list_of, list_of-trees_of}
use Rattle.sap_terms.specs.Codes.{tree_code}
use Rattle.sap_terms.specs.declared.fact.Fact.{Fact}
use Rattle.sap_formula.specs.Form.{Form, truth, falsity, action, equal, same_time, earlier, negation, both, either, implies, equivalent, every, exists, RestrictionForm, LemmaForm}
use Rattle.sap_formula.specs.declared.binder.Binder.{Binder}
use Rattle.sap_formula.specs.declared.binder.Binder.TheVariants.{Message, Time}
use Rattle.sap_formula.specs.declared.lemma.Mode.{Mode}
use Rattle.sap_formula.specs.declared.lemma.Mode.TheVariants.{AllTraces, ExistsTrace}

-- a truth value as a number, and back
abbrev flag_to : Bool → ℕ
flag_to false = 0
flag_to true = 1

-- and back
abbrev flag_from : ℕ → Bool
flag_from zero = false
flag_from (suc n) = true

-- binders as trees, and back
abbrev binders_to : List Binder → Trees
binders_to [] = none
binders_to (Message v ∷ bs) = more (variable v) (binders_to bs)
binders_to (Time n ∷ bs) = more (public n) (binders_to bs)

-- and back
abbrev binders_from : Trees → List Binder
binders_from none = []
binders_from (more (variable v) ts) = Message v ∷ binders_from ts
binders_from (more (public n) ts) = Time n ∷ binders_from ts
binders_from (more (fresh k) ts) = []
binders_from (more (apply f us) ts) = []

-- the name of a leaf
abbrev name_in : Tree → List ℕ
name_in (variable v) = []
name_in (public n) = n
name_in (fresh k) = []
name_in (apply f ts) = []

-- the fact that two trees hold
abbrev fact_in : Tree → Tree → Fact
fact_in (fresh k) (apply n ts) = record { name = n; persistent = flag_from k; args = list_of ts }
fact_in _ _ = record { name = []; persistent = false; args = [] }

-- a form with two parts, by its number, and back
abbrev two_to : ℕ → Tree → Tree → Tree
two_to k a b = apply (k ∷ []) (more a (more b none))

-- and back
abbrev two_from : ℕ → Tree → Tree → Form → Form → Form
two_from zero a b f g = equal a b
two_from (suc zero) a b f g = same_time (name_in a) (name_in b)
two_from (suc (suc zero)) a b f g = earlier (name_in a) (name_in b)
two_from (suc (suc (suc zero))) a b f g = both f g
two_from (suc (suc (suc (suc zero)))) a b f g = either f g
two_from (suc (suc (suc (suc (suc zero))))) a b f g = implies f g
two_from (suc (suc (suc (suc (suc (suc k)))))) a b f g = equivalent f g

-- a formula as a tree, and back
abbrev form_to : Form → Tree
form_to truth = fresh 0
form_to falsity = fresh 1
form_to (action f i) = apply (0 ∷ []) (more (public i) (more (fresh (flag_to f.persistent)) (more (apply f.name (trees_of f.args)) none)))
form_to (equal s t) = two_to 0 s t
form_to (same_time i j) = two_to 1 (public i) (public j)
form_to (earlier i j) = two_to 2 (public i) (public j)
form_to (negation f) = apply (0 ∷ []) (more (form_to f) none)
form_to (both f g) = two_to 3 (form_to f) (form_to g)
form_to (either f g) = two_to 4 (form_to f) (form_to g)
form_to (implies f g) = two_to 5 (form_to f) (form_to g)
form_to (equivalent f g) = two_to 6 (form_to f) (form_to g)
form_to (every bs f) = apply [] (more (form_to f) (binders_to bs))
form_to (exists bs f) = apply (0 ∷ 0 ∷ []) (more (form_to f) (binders_to bs))

-- and back
abbrev form_from : Tree → Form
form_from (variable v) = truth
form_from (public n) = truth
form_from (fresh zero) = truth
form_from (fresh (suc k)) = falsity
form_from (apply [] none) = truth
form_from (apply [] (more t bs)) = every (binders_from bs) (form_from t)
form_from (apply (k ∷ []) none) = truth
form_from (apply (k ∷ []) (more a none)) = negation (form_from a)
form_from (apply (k ∷ []) (more a (more b none))) = two_from k a b (form_from a) (form_from b)
form_from (apply (k ∷ []) (more a (more b (more c ts)))) = action (fact_in b c) (name_in a)
form_from (apply (k ∷ l ∷ ns) none) = truth
form_from (apply (k ∷ l ∷ ns) (more t bs)) = exists (binders_from bs) (form_from t)

-- each comes back as it was
flag_back : (b : Bool) → flag_from (flag_to b) ≡ b
flag_back false = refl
flag_back true = refl

binders_back : (bs : List Binder) → binders_from (binders_to bs) ≡ bs
binders_back [] = refl
binders_back (Message v ∷ bs) = ap (λ cs. Message v ∷ cs) (binders_back bs)
binders_back (Time n ∷ bs) = ap (λ cs. Time n ∷ cs) (binders_back bs)

pub form_back : (f : Form) → form_from (form_to f) ≡ f
form_back truth = refl
form_back falsity = refl
form_back (action f i) =
    λ j. action (record { name = f.name; persistent = flag_back f.persistent j; args = list_of-trees_of f.args j }) i
form_back (equal s t) = refl
form_back (same_time i j) = refl
form_back (earlier i j) = refl
form_back (negation f) = ap negation (form_back f)
form_back (both f g) = λ i. both (form_back f i) (form_back g i)
form_back (either f g) = λ i. either (form_back f i) (form_back g i)
form_back (implies f g) = λ i. implies (form_back f i) (form_back g i)
form_back (equivalent f g) = λ i. equivalent (form_back f i) (form_back g i)
form_back (every bs f) = λ i. every (binders_back bs i) (form_back f i)
form_back (exists bs f) = λ i. exists (binders_back bs i) (form_back f i)

-- so formulas are told apart as trees are
abbrev pub form_code : Coded Form
form_code = code_by Tree tree_code form_to form_from form_back

-- a restriction is stored as the pair of its parts
abbrev pub restriction_code : Coded RestrictionForm
restriction_code =
    code_by (List ℕ × Form) (coded× (coded_list coded_ℕ) form_code) (λ r. (r.name, r.formula)) (λ p. record { name = p.0; formula = p.1 }) (λ _. refl)

-- a mode as a number, and back
abbrev mode_to : Mode → ℕ
mode_to AllTraces = 0
mode_to ExistsTrace = 1

-- and back
abbrev mode_from : ℕ → Mode
mode_from zero = AllTraces
mode_from (suc n) = ExistsTrace

pub mode_back : (m : Mode) → mode_from (mode_to m) ≡ m
mode_back AllTraces = refl
mode_back ExistsTrace = refl

-- so modes are told apart
abbrev mode_code : Coded Mode
mode_code = code_by ℕ coded_ℕ mode_to mode_from mode_back

-- a lemma is stored as its parts
abbrev pub lemma_code : Coded LemmaForm
lemma_code =
    code_by ((List ℕ × List (List ℕ)) × (Mode × Form)) (coded× (coded× (coded_list coded_ℕ) (coded_list (coded_list coded_ℕ))) (coded× mode_code form_code)) (λ l. ((l.name, l.attributes), (l.mode, l.formula))) (λ p. record { name = p.0.0; attributes = p.0.1; mode = p.1.0; formula = p.1.1 }) (λ _. refl)
