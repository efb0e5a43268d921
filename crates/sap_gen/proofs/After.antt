-- What a live fact will be, and that rules are carried by their short ones.
use Rattle.std.proofs.Common.{append_assoc, ◌≡◌, List, [], ◌∷◌, ◌++◌, Option, Some, None, Bool, true, false, map, if◌then◌else◌, ◌↔◌, refl, sym, ap, subst, ◌∙◌, arith, ◌⊎◌, inl, inr}
use Rattle.std.proofs.lemmas.List.{append-nil}
use Rattle.std.proofs.lemmas.Option.{same_Some}
use Rattle.std.specs.Prelude.{All, Contains}
use Rattle.std.specs.List.{AllZip, flat_map}
use Rattle.std.proofs.lemmas.List.Elements.{All-nil, All-cons, All-head, All-tail}
use Rattle.sap_terms.specs.declared.var.Var.{Var}
use Rattle.sap_terms.specs.Signature.{Sig}
use Rattle.sap_terms.specs.Equations.{equations, Equations}
use Rattle.sap_terms.specs.Equal.{IsTheoryEqual}
use Rattle.sap_rewrite.specs.Laws.{EachHasForm, FormIsOne, NormalTermsDecide}
use Rattle.sap_terms.specs.Normal.{IsNormal, IsNormalForm}
use Rattle.sap_terms.specs.Tree.{Tree, variable}
use Rattle.sap_terms.specs.AdversaryFacts.{in_fact, out_fact, fr_fact}
use Rattle.sap_terms.specs.Choice.{Choice, instance}
use Rattle.sap_terms.specs.declared.fact.Fact.{Fact}
use Rattle.sap_rule.specs.declared.rule.Rule.{Rule}
use Rattle.sap_terms.specs.Message.{IsMessageChoice}
use Rattle.sap_terms.specs.Modulo.{instance_fact, instance_facts, IsFormOfFact, AreFormsOfFacts, AreEqualFacts}
use Rattle.sap_rule.specs.RuleSteps.{IsUse, RuleState, RuleRun}
use Rattle.sap_terms.specs.Trace.{Trace}
use Rattle.sap_gen.specs.Carried.{count, counts, AreAlike, Stays, IsSilent, Carries, AreNormalFacts, HoldsNormal, AreCarried, AreExpanded, SettleTo, IsFilledTrace}
use Rattle.sap_gen.specs.Settled.{IsSettled, nothing_left, stays, goes_on}
use Rattle.sap_translate.specs.Members.{Member, here, later}
use Rattle.sap_translate.specs.Scoped.{AllWithin, FactsWithin}
use Rattle.sap_gen.specs.Moves.{IsMove, Move, Moves, IsPlain, IsAsTaken, AreAsTaken, ArePlain, IsShortened, IsShortening}
use Rattle.sap_translate.specs.relation.Names.{same_var}
use Rattle.sap_translate.proofs.Shared.Totals.{total-append}
use Rattle.sap_translate.proofs.Shared.Facts.{same_var_self, same_var_true}
use Rattle.sap_gen.proofs.OneOutcome.{one_outcome}
use Rattle.sap_gen.proofs.Following.{counts-flat, carried-rules-show-the-same}
use Rattle.sap_gen.proofs.Choices.{Agree, on_none, on_more, instance_agrees}
use Rattle.sap_gen.proofs.Expanding.{form_of, use_expands}

-- what the variables stand for, by a list of terms
abbrev chosen : List Var → List Tree → Choice
chosen [] ts v = variable v
chosen (w ∷ vs) [] v = variable v
chosen (w ∷ vs) (t ∷ ts) v = if same_var w v then t else chosen vs ts v

chosen-one : (σ : Choice) (vs : List Var) (v : Var) → Member v vs → chosen vs (map σ vs) v ≡ σ v
chosen-one σ [] v i = elim i [ ]
chosen-one σ (v ∷ vs) _ here = at (same_var v v) (same_var_self v) where
  at : (b : Bool) → b ≡ true → (if b then σ v else chosen vs (map σ vs) v) ≡ σ v
  at true e = refl
  at false e = cc
chosen-one σ (w ∷ vs) v (later i) = at (same_var w v) refl (chosen-one σ vs v i) where
  at : (b : Bool) → same_var w v ≡ b → chosen vs (map σ vs) v ≡ σ v → (if b then σ w else chosen vs (map σ vs) v) ≡ σ v
  at true e r = ap σ (same_var_true w v e)
  at false e r = r

agree_each : (σ τ : Choice) (all vs : List Var) → ((v : Var) → Member v vs → τ v ≡ σ v) → Agree σ τ vs
agree_each σ τ all [] h = on_none
agree_each σ τ all (v ∷ vs) h = on_more (h v here) (agree_each σ τ all vs (λ w i. h w (later i)))

chosen-agrees : (σ : Choice) (vs : List Var) → Agree σ (chosen vs (map σ vs)) vs
chosen-agrees σ vs = agree_each σ (chosen vs (map σ vs)) vs vs (λ v i. chosen-one σ vs v i)

-- instances of facts in scope are the same under choices that agree
args_same : (σ τ : Choice) (vs : List Var) (ts : List Tree) → Agree σ τ vs → AllWithin vs ts → map (instance τ) ts ≡ map (instance σ) ts
args_same σ τ vs [] a w = refl
args_same σ τ vs (t ∷ ts) a w =
    let x = instance_agrees σ τ vs t a w.0 in
    let y = args_same σ τ vs ts a w.1 in
    λ i. x i ∷ y i

facts_same : (σ τ : Choice) (vs : List Var) (fs : List Fact) → Agree σ τ vs → FactsWithin vs fs → instance_facts τ fs ≡ instance_facts σ fs
facts_same σ τ vs [] a w = refl
facts_same σ τ vs (f ∷ fs) a w =
    let x = args_same σ τ vs f.args a w.0 in
    let y = facts_same σ τ vs fs a w.1 in
    λ i. record { name = f.name; persistent = f.persistent; args = x i } ∷ y i

-- forms of facts
forms_of : EachHasForm → (e : Equations) (fs : List Fact) → (hs : List Fact) × AreFormsOfFacts e fs hs
forms_of has e [] = ([], tt)
forms_of has e (f ∷ fs) = let h = form_of has e f in let hs = forms_of has e fs in (h.0 ∷ hs.0, (h.1, hs.1))

args_one : FormIsOne → (e : Equations) (ts ms ns : List Tree) → AllZip (IsNormalForm e) ts ms → AllZip (IsNormalForm e) ts ns → ms ≡ ns
args_one one e [] [] [] a b = refl
args_one one e [] [] (n ∷ ns) a b = absurd b
args_one one e [] (m ∷ ms) ns a b = absurd a
args_one one e (t ∷ ts) [] ns a b = absurd a
args_one one e (t ∷ ts) (m ∷ ms) [] a b = absurd b
args_one one e (t ∷ ts) (m ∷ ms) (n ∷ ns) a b =
    let x = one e t m n a.0 b.0 in
    let y = args_one one e ts ms ns a.1 b.1 in
    λ i. x i ∷ y i

form_one : FormIsOne → (e : Equations) (f h k : Fact) → IsFormOfFact e f h → IsFormOfFact e f k → h ≡ k
form_one one e f h k a b =
    let x : h.name ≡ k.name = a.name ∙ sym b.name in
    let y : h.persistent ≡ k.persistent = a.persistent ∙ sym b.persistent in
    let z : h.args ≡ k.args = args_one one e f.args h.args k.args a.args b.args in
    λ i. record { name = x i; persistent = y i; args = z i }

forms_one : FormIsOne → (e : Equations) (fs hs ks : List Fact) → AreFormsOfFacts e fs hs → AreFormsOfFacts e fs ks → hs ≡ ks
forms_one one e [] [] [] a b = refl
forms_one one e [] [] (k ∷ ks) a b = absurd b
forms_one one e [] (h ∷ hs) ks a b = absurd a
forms_one one e (f ∷ fs) [] ks a b = absurd a
forms_one one e (f ∷ fs) (h ∷ hs) [] a b = absurd b
forms_one one e (f ∷ fs) (h ∷ hs) (k ∷ ks) a b =
    let x = form_one one e f h k a.0 b.0 in
    let y = forms_one one e fs hs ks a.1 b.1 in
    λ i. x i ∷ y i

-- forms of two lists side by side
record Cut (e : Equations) (xs ys : List Fact) (hs : List Fact) : Type 0 where
  first : List Fact
  rest : List Fact
  is : hs ≡ first ++ rest
  first_forms : AreFormsOfFacts e xs first
  rest_forms : AreFormsOfFacts e ys rest

cut : (e : Equations) (σ : Choice) (xs ys hs : List Fact) → AreFormsOfFacts e (instance_facts σ (xs ++ ys)) hs → Cut e (instance_facts σ xs) (instance_facts σ ys) hs
cut e σ [] ys hs h = record { first = []; rest = hs; is = refl; first_forms = tt; rest_forms = h }
cut e σ (x ∷ xs) ys [] h = absurd h
cut e σ (x ∷ xs) ys (k ∷ hs) h =
    let c = cut e σ xs ys hs h.1 in
    record { first = k ∷ c.first; rest = c.rest; is = ap (λ zs. k ∷ zs) c.is; first_forms = (h.0, c.first_forms); rest_forms = c.rest_forms }

module _ (has : EachHasForm) (one : FormIsOne) (decide : NormalTermsDecide) (g : Sig) (Q : Rule → Type 0) (moves : Moves Q) (rules shorts : List Rule) (short : IsShortening Q moves rules shorts) where
  abbrev Forms : List Fact → List Fact → Type 0
  Forms = AreFormsOfFacts (equations g)

  -- what the facts that a move adds settle to, where it takes this one
  abbrev by : Option (Move Q) → Fact → List Fact
  by None h = h ∷ []
  by (Some m) h = (forms_of has (equations g) (instance_facts (chosen m.shape.vars h.args) m.settled)).0

  -- what a live fact will be
  abbrev after : Fact → List Fact
  after h = by (moves h.name) h

  plain-stays : (h : Fact) → IsPlain moves h → Stays after h
  plain-stays h p = ap (λ (o : Option (Move Q)). by o h) p

  -- a message choice gives normal terms, so a form of the state fact has what its variables stand for
  state_args : (σ : Choice) → IsMessageChoice g σ → (vs : List Var) (ts : List Tree) → AllZip (IsTheoryEqual (equations g)) (map (instance σ) (map variable vs)) ts → All (IsNormal (equations g)) ts → ts ≡ map σ vs
  state_args σ m [] [] a n = refl
  state_args σ m [] (t ∷ ts) a n = absurd a
  state_args σ m (v ∷ vs) [] a n = absurd a
  state_args σ m (v ∷ vs) (t ∷ ts) a n =
      let here : σ v ≡ t = (decide (equations g) (σ v) t (m v).normal (All-head (IsNormal (equations g)) t ts n)).0 a.0 in
      let rest = state_args σ m vs ts a.1 (All-tail (IsNormal (equations g)) t ts n) in
      λ i. sym here i ∷ rest i

  -- behind such a fact comes what the move settles to under the choice
  state-after : (σ : Choice) → IsMessageChoice g σ → (m : Move Q) (h : Fact) → moves h.name ≡ Some m → AllZip (IsTheoryEqual (equations g)) (map (instance σ) m.shape.state.args) h.args → All (IsNormal (equations g)) h.args
      → (added : List Fact) → Forms (instance_facts σ m.settled) added → after h ≡ added
  state-after σ c m h e a n added f =
      let args : h.args ≡ map σ m.shape.vars = state_args σ c m.shape.vars h.args (subst (λ ts. AllZip (IsTheoryEqual (equations g)) (map (instance σ) ts) h.args) m.shape.args a) n in
      let agree : Agree σ (chosen m.shape.vars h.args) m.shape.vars = subst (λ ts. Agree σ (chosen m.shape.vars ts) m.shape.vars) (sym args) (chosen-agrees σ m.shape.vars) in
      let same_facts : instance_facts (chosen m.shape.vars h.args) m.settled ≡ instance_facts σ m.settled = facts_same σ (chosen m.shape.vars h.args) m.shape.vars m.settled agree m.scoped in
      let made = forms_of has (equations g) (instance_facts (chosen m.shape.vars h.args) m.settled) in
      ap (λ (o : Option (Move Q)). by o h) e ∙ forms_one one (equations g) (instance_facts σ m.settled) made.0 added (subst (λ fs. Forms fs made.0) same_facts made.1) f

  -- one rule takes a state fact
  one_rule : (q p : Rule) (f : Fact) → Q q → Q p → q.left ≡ f ∷ [] → p.left ≡ f ∷ [] → q ≡ p
  one_rule q p f x y a b =
      let m = short.found q x in
      let n = short.found p y in
      let ma : (m.0.shape.state ∷ []) ≡ (f ∷ []) = sym m.0.shape.left ∙ ap (λ (r : Rule). r.left) m.1 ∙ a in
      let nb : (n.0.shape.state ∷ []) ≡ (f ∷ []) = sym n.0.shape.left ∙ ap (λ (r : Rule). r.left) n.1 ∙ b in
      let states : m.0.shape.state ≡ n.0.shape.state = cc in
      let named : Some m.0 ≡ Some n.0 = sym m.2 ∙ ap (λ (h : Fact). moves h.name) states ∙ n.2 in
      let moves : m.0 ≡ n.0 = same_Some m.0 n.0 named in
      sym m.1 ∙ ap (λ (x : Move Q). x.rule) moves ∙ n.1

  settled-one : (fs hs ks : List Fact) → IsSettled Q fs hs → IsSettled Q fs ks → hs ≡ ks
  settled-one = one_outcome Q one_rule

  -- what settles side by side settles apart; and of the second part each live fact will be what it settles to
  record Apart (σ : Choice) (xs ys hs : List Fact) : Type 0 where
    before : List Fact
    behind : List Fact
    is : hs ≡ before ++ behind
    first : IsSettled Q xs before
    alike : (right added : List Fact) → Forms (instance_facts σ ys) right → Forms (instance_facts σ behind) added → AreAlike (flat_map after right) added

  abbrev NoFacts : (σ : Choice) → Type 0
  NoFacts σ = (right added : List Fact) → Forms [] right → Forms [] added → AreAlike (flat_map after right) added

  no_facts : (σ : Choice) → NoFacts σ
  no_facts σ [] [] a b = λ test. refl
  no_facts σ [] (k ∷ ks) a b = absurd b
  no_facts σ (h ∷ hs) added a b = absurd a

  module _ (σ : Choice) (m : IsMessageChoice g σ) where
    -- a form of a plain fact stays
    plain_form : (f h : Fact) → IsPlain moves f → IsFormOfFact (equations g) (instance_fact σ f) h → Stays after h
    plain_form f h p a = plain-stays h (ap (λ n. moves n) a.name ∙ p)

    -- a fact in front that stays
    in_front : (f : Fact) (ys behind : List Fact) → IsPlain moves f → ((right added : List Fact) → Forms (instance_facts σ ys) right → Forms (instance_facts σ behind) added → AreAlike (flat_map after right) added)
        → (right added : List Fact) → Forms (instance_facts σ (f ∷ ys)) right → Forms (instance_facts σ (f ∷ behind)) added → AreAlike (flat_map after right) added
    in_front f ys behind p alike [] added a b test = absurd a
    in_front f ys behind p alike (h ∷ right) [] a b test = absurd b
    in_front f ys behind p alike (h ∷ right) (k ∷ added) a b test =
        let same_fact_is : h ≡ k = form_one one (equations g) (instance_fact σ f) h k a.0 b.0 in
        let x : counts test (after h) ≡ counts test (h ∷ []) = ap (counts test) (plain_form f h p a.0) in
        let y = total-append (count test) (after h) (flat_map after right) in
        let z = alike right added a.1 b.1 test in
        let w : count test h ≡ count test k = ap (count test) same_fact_is in
        omega arith

    -- a state fact in front, which goes on
    state_front : (f : Fact) (ys before behind : List Fact) (q : Rule) → Q q → q.left ≡ f ∷ [] → IsSettled Q q.right before
        → ((right added : List Fact) → Forms (instance_facts σ ys) right → Forms (instance_facts σ behind) added → AreAlike (flat_map after right) added)
        → (right added : List Fact) → Forms (instance_facts σ (f ∷ ys)) right → Forms (instance_facts σ (before ++ behind)) added → AreAlike (flat_map after right) added
    state_front f ys before behind q x l s alike [] added a b test = absurd a
    state_front f ys before behind q x l s alike (h ∷ right) added a b test =
        let found = short.found q x in
        let move : Move Q = found.0 in
        let states : move.shape.state ≡ f = (let e : (move.shape.state ∷ []) ≡ (f ∷ []) = sym move.shape.left ∙ ap (λ (r : Rule). r.left) found.1 ∙ l in cc) in
        let name : h.name ≡ move.shape.state.name = a.0.name ∙ ap (λ (z : Fact). z.name) (sym states) in
        let named : moves h.name ≡ Some move = ap (λ n. moves n) name ∙ found.2 in
        let settled_same : move.settled ≡ before = settled-one move.rule.right move.settled before move.settles (subst (λ (r : Rule). IsSettled Q r.right before) (sym found.1) s) in
        let c = cut (equations g) σ before behind added b in
        let args : AllZip (IsNormalForm (equations g)) (map (instance σ) move.shape.state.args) h.args = subst (λ (z : Fact). AllZip (IsNormalForm (equations g)) (map (instance σ) z.args) h.args) (sym states) a.0.args in
        let will : after h ≡ c.first = state-after σ m move h named (zip_equal (map (instance σ) move.shape.state.args) h.args args) (zip_normal (map (instance σ) move.shape.state.args) h.args args) c.first
        (subst (λ fs. Forms (instance_facts σ fs) c.first) (sym settled_same) c.first_forms) in
        let u : counts test (after h) ≡ counts test c.first = ap (counts test) will in
        let v = total-append (count test) (after h) (flat_map after right) in
        let w = alike right c.rest a.1 c.rest_forms test in
        let y = total-append (count test) c.first c.rest in
        let z : counts test added ≡ counts test (c.first ++ c.rest) = ap (counts test) c.is in
        omega arith
      where
        zip_equal : (ts ns : List Tree) → AllZip (IsNormalForm (equations g)) ts ns → AllZip (IsTheoryEqual (equations g)) ts ns
        zip_equal [] [] h = tt
        zip_equal [] (n ∷ ns) h = absurd h
        zip_equal (t ∷ ts) [] h = absurd h
        zip_equal (t ∷ ts) (n ∷ ns) h = (h.0.equal, zip_equal ts ns h.1)

        zip_normal : (ts ns : List Tree) → AllZip (IsNormalForm (equations g)) ts ns → All (IsNormal (equations g)) ns
        zip_normal [] [] h = All-nil (IsNormal (equations g))
        zip_normal [] (n ∷ ns) h = absurd h
        zip_normal (t ∷ ts) [] h = absurd h
        zip_normal (t ∷ ts) (n ∷ ns) h = All-cons (IsNormal (equations g)) n ns h.0.normal (zip_normal ts ns h.1)

    apart : (zs hs : List Fact) → IsSettled Q zs hs → (xs ys : List Fact) → zs ≡ xs ++ ys → AreAsTaken moves ys → Apart σ xs ys hs
    apart _ _ nothing_left [] [] e r = record { before = []; behind = []; is = refl; first = nothing_left; alike = no_facts σ }
    apart _ _ nothing_left [] (y ∷ ys) e r = cc
    apart _ _ nothing_left (x ∷ xs) ys e r = cc
    apart _ _ (stays f unasked s) [] [] e r = cc
    apart _ _ (stays {fs} {hs} f unasked s) [] (y ∷ ys) e r =
        let head : y ≡ f = cc in
        let tail : fs ≡ ys = cc in
        let b = apart fs hs s [] ys tail r.1 in
        let none : b.before ≡ [] = settled-one [] b.before [] b.first nothing_left in
        let rest : hs ≡ b.behind = b.is ∙ ap (λ zs. zs ++ b.behind) none in
        let p : IsPlain moves f = plain_of r.0 head in
        let front : (right added : List Fact) → Forms (instance_facts σ (y ∷ ys)) right → Forms (instance_facts σ (f ∷ hs)) added → AreAlike (flat_map after right) added =
        λ right added a d. in_front f ys b.behind p b.alike right added (subst (λ z. Forms (instance_facts σ (z ∷ ys)) right) head a) (subst (λ zs. Forms (instance_facts σ (f ∷ zs)) added) rest d) in
        record { before = []; behind = f ∷ hs; is = refl; first = nothing_left; alike = front }
      where
        plain_of : IsAsTaken moves y → y ≡ f → IsPlain moves f
        plain_of (inl p) h = subst (IsPlain moves) h p
        plain_of (inr m) h =
            absurd (unasked m.0.rule (short.named y.name m.0 m.1).0 (m.0.shape.left ∙ ap (λ z. z ∷ []) (sym m.2 ∙ h)))
    apart _ _ (stays {fs} {hs} f unasked s) (x ∷ xs) ys e r =
        let head : x ≡ f = cc in
        let tail : fs ≡ xs ++ ys = cc in
        let b = apart fs hs s xs ys tail r in
        record {
          before = f ∷ b.before;
          behind = b.behind;
          is = ap (λ zs. f ∷ zs) b.is;
          first = subst (λ z. IsSettled Q (z ∷ xs) (f ∷ b.before)) (sym head) (stays f unasked b.first);
          alike = b.alike;
        }
    apart _ _ (goes_on f q w l s) [] [] e r = cc
    apart _ _ (goes_on {fs} {hs} f q w l s) [] (y ∷ ys) e r =
        let head : y ≡ f = cc in
        let tail : fs ≡ ys = cc in
        let b = apart (q.right ++ fs) hs s q.right ys (ap (λ zs. q.right ++ zs) tail) r.1 in
        let front : (right added : List Fact) → Forms (instance_facts σ (y ∷ ys)) right → Forms (instance_facts σ hs) added → AreAlike (flat_map after right) added =
        λ right added a d. state_front f ys b.before b.behind q w l b.first b.alike right added (subst (λ z. Forms (instance_facts σ (z ∷ ys)) right) head a) (subst (λ zs. Forms (instance_facts σ zs) added) b.is d) in
        record { before = []; behind = hs; is = refl; first = nothing_left; alike = front }
    apart _ _ (goes_on {fs} {hs} f q w l s) (x ∷ xs) ys e r =
        let head : x ≡ f = cc in
        let tail : fs ≡ xs ++ ys = cc in
        let b = apart (q.right ++ fs) hs s (q.right ++ xs) ys (ap (λ zs. q.right ++ zs) tail ∙ sym (append_assoc q.right xs ys)) r in
        record {
          before = b.before;
          behind = b.behind;
          is = b.is;
          first = subst (λ z. IsSettled Q (z ∷ xs) b.before) (sym head) (goes_on f q w l b.first);
          alike = b.alike;
        }

    -- what a rule adds will be what its settled right side adds
    settled-alike : (fs hs : List Fact) → IsSettled Q fs hs → AreAsTaken moves fs → (right added : List Fact) → Forms (instance_facts σ fs) right → Forms (instance_facts σ hs) added → AreAlike (flat_map after right) added
    settled-alike fs hs s r right added a b =
        let p = apart fs hs s [] fs refl r in
        let none : p.before ≡ [] = settled-one [] p.before [] p.first nothing_left in
        let rest : hs ≡ p.behind = p.is ∙ ap (λ zs. zs ++ p.behind) none in
        p.alike right added a (subst (λ zs. Forms (instance_facts σ zs) added) rest b)

  -- plain facts that are taken stay
  plain_left : (σ : Choice) (fs hs : List Fact) → ArePlain moves fs → AreEqualFacts (equations g) (instance_facts σ fs) hs → All (Stays after) hs
  plain_left σ [] [] p e = All-nil (Stays after)
  plain_left σ [] (h ∷ hs) p e = absurd e
  plain_left σ (f ∷ fs) [] p e = absurd e
  plain_left σ (f ∷ fs) (h ∷ hs) p e =
      All-cons (Stays after) h hs (plain-stays h (ap (λ n. moves n) e.0.name ∙ p.0)) (plain_left σ fs hs p.1 e.1)

  -- each rule that isn't silent is carried
  carries : (r s : Rule) → ArePlain moves r.left → AreAsTaken moves r.right → IsShortened Q r s → Carries g after r s
  carries r s p a h σ left acts right n u =
      let added = forms_of has (equations g) (instance_facts σ s.right) in
      let alike = settled-alike σ u.messages r.right s.right h.right a right added.0 u.adds added.1 in (
        plain_left σ r.left left p u.takes,
        (
          added.0,
          record {
            messages = u.messages;
            takes = subst (λ fs. AreEqualFacts (equations g) (instance_facts σ fs) left) (sym h.left) u.takes;
            shows = subst (λ fs. AreFormsOfFacts (equations g) (instance_facts σ fs) acts) (sym h.acts) u.shows;
            adds = added.1;
          },
          λ test. let x = alike test in let y = counts-flat test added.0 in omega arith,
        ),
      )

  -- a silent rule is silent
  silent : (q : Rule) → Q q → Contains rules q → IsSilent g after q
  silent q x c σ left acts right n u = by_left left n (subst (λ fs. AreEqualFacts (equations g) (instance_facts σ fs) left) q_left u.takes)
    where
      found : (m : Move Q) × (m.rule ≡ q) × (moves m.shape.state.name ≡ Some m)
      found = short.found q x

      q_left : q.left ≡ found.0.shape.state ∷ []
      q_left = ap (λ (r : Rule). r.left) (sym found.1) ∙ found.0.shape.left

      no_acts : acts ≡ []
      no_acts = none_shown acts (subst (λ fs. AreFormsOfFacts (equations g) (instance_facts σ fs) acts) (ap (λ (r : Rule). r.acts) (sym found.1) ∙ found.0.shape.acts) u.shows)
        where
          none_shown : (fs : List Fact) → AreFormsOfFacts (equations g) [] fs → fs ≡ []
          none_shown [] h = refl
          none_shown (k ∷ ks) h = absurd h

      by_left : (hs : List Fact) → AreNormalFacts (equations g) hs → AreEqualFacts (equations g) (instance_facts σ (found.0.shape.state ∷ [])) hs
          → (acts ≡ []) × All (λ (f : Fact). f.persistent ≡ false) hs × AreAlike (flat_map after hs) (flat_map after right)
      by_left [] n e = absurd e
      by_left (h ∷ []) n e =
          let move = found.0 in
          let N : Fact → Type 0 = λ (f : Fact). All (IsNormal (equations g)) f.args in
          let name : moves h.name ≡ Some move = ap (λ n. moves n) e.0.name ∙ found.2 in
          let linear : h.persistent ≡ false = e.0.persistent ∙ move.shape.linear in
          let added = forms_of has (equations g) (instance_facts σ move.settled) in
          let will : after h ≡ added.0 = state-after σ u.messages move h name e.0.args (All-head N h [] n) added.0 added.1 in
          let right_is : q.right ≡ move.rule.right = ap (λ (r : Rule). r.right) (sym found.1) in
          let alike = settled-alike σ u.messages q.right move.settled (subst (λ fs. IsSettled Q fs move.settled) (sym right_is) move.settles) (short.all_right q c) right added.0 u.adds added.1 in (
            no_acts,
            All-cons (λ (f : Fact). f.persistent ≡ false) h [] linear (All-nil (λ (f : Fact). f.persistent ≡ false)),
            λ test. let x = alike test in let y : counts test (after h ++ []) ≡ counts test added.0 = ap (counts test) (append-nil (after h) ∙ will) in omega arith,
          )
      by_left (h ∷ k ∷ hs) n e = absurd e.1

  all-carried : AreCarried g after rules shorts
  all-carried = record {
    each = λ r c. at r c (short.each r c);
    in_stays = λ t. plain-stays (in_fact t) short.in_plain;
    out_stays = λ t. plain-stays (out_fact t) short.out_plain;
    fr_stays = λ n. plain-stays (fr_fact n) short.fr_plain;
  } where
    at : (r : Rule) → Contains rules r → Q r ⊎ (ArePlain moves r.left × ((s : Rule) × Contains shorts s × IsShortened Q r s)) → IsSilent g after r ⊎ ((s : Rule) × Contains shorts s × Carries g after r s)
    at r c (inl x) = inl (silent r x c)
    at r c (inr p) = inr (p.1.0, p.1.1, carries r p.1.0 p.0 (short.all_right r c) p.1.2)

  all-expanded : AreExpanded g rules shorts
  all-expanded = record { each = λ s c. at s (short.back s c) } where
    shape : (q : Rule) → Q q → IsMove q
    shape q x = let m = short.found q x in subst IsMove m.1 m.0.shape

    at : (s : Rule) → (r : Rule) × Contains rules r × IsShortened Q r s
        → (r : Rule) × Contains rules r × ((σ : Choice) (left acts added : List Fact) → IsUse g s σ left acts added → (right : List Fact) × IsUse g r σ left acts right × SettleTo g rules right added)
    at s b = (b.0, b.1, use_expands has g Q rules shape short.among b.0 s b.2.left b.2.acts b.2.right)

  -- the rules and the short rules show the same but for empty times
  pub shortenings-show-the-same : ((s : RuleState) (full : Trace) → RuleRun g rules s full → HoldsNormal (equations g) s) → (tr : Trace) → IsFilledTrace g rules tr ↔ IsFilledTrace g shorts tr
  shortenings-show-the-same normal tr = carried-rules-show-the-same g after rules shorts normal all-carried all-expanded tr
