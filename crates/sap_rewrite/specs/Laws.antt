-- What holds of all terms and their normal forms.
use Rattle.std.specs.Prelude.{◌≡◌, ◌↔◌, ◌⊎◌, ℕ, List, All, Contains}
use Rattle.std.specs.List.{AllZip}
use Rattle.sap_terms.specs.Choice.{Choice, instance}
use Rattle.sap_terms.specs.Destructors.{HasDestructor}
use Rattle.sap_terms.specs.Tree.{Tree, variable, apply, Trees, trees_of}
use Rattle.sap_terms.specs.Equations.{Equations, equations, IsInstance}
use Rattle.sap_terms.specs.Equal.{IsTheoryEqual}
use Rattle.sap_terms.specs.Ground.{IsGround}
use Rattle.sap_terms.specs.Message.{IsMessage, IsOver}
use Rattle.sap_terms.specs.Normal.{IsNormal, AreNormal, IsNoLeftSide, IsNormalForm}
use Rattle.sap_terms.specs.Signature.{Sig, HoldsBuiltins}
use Rattle.sap_terms.specs.Variables.{tree_vars}
use Rattle.sap_terms.specs.declared.var.Sort.TheVariants.{Msg}
use Rattle.sap_terms.specs.declared.var.Var.{Var}
use Rattle.sap_rewrite.specs.Pattern.{IsPattern}

-- every term has a normal form
abbrev pub EachHasForm : Type 0
EachHasForm = (e : Equations) (t : Tree) → (n : Tree) × IsNormalForm e t n

-- and no two
abbrev pub FormIsOne : Type 0
FormIsOne = (e : Equations) (t m n : Tree) → IsNormalForm e t m → IsNormalForm e t n → m ≡ n

-- normal forms decide: the theory makes two terms equal if and only if they share a normal form
abbrev pub FormsDecide : Type 0
FormsDecide = (e : Equations) (t u m n : Tree) → IsNormalForm e t m → IsNormalForm e u n → IsTheoryEqual e t u ↔ (m ≡ n)

-- two normal terms are theory-equal exactly where they are the same
abbrev pub NormalTermsDecide : Type 0
NormalTermsDecide = (e : Equations) (t u : Tree) → IsNormal e t → IsNormal e u → IsTheoryEqual e t u ↔ (t ≡ u)

-- theory-equality is an equivalence, which symbols and substitutions respect
pub record EqualityIsKept : Type 0 where
  pub itself : (e : Equations) (t : Tree) → IsTheoryEqual e t t
  pub back : (e : Equations) (t u : Tree) → IsTheoryEqual e t u → IsTheoryEqual e u t
  pub onwards : (e : Equations) (t u v : Tree) → IsTheoryEqual e t u → IsTheoryEqual e u v → IsTheoryEqual e t v
  pub under_symbols : (e : Equations) (f : List ℕ) (ts us : List Tree) → AllZip (IsTheoryEqual e) ts us → IsTheoryEqual e (apply f (trees_of ts)) (apply f (trees_of us))
  pub of_instances : (e : Equations) (σ : Choice) (t u : Tree) → IsTheoryEqual e t u → IsTheoryEqual e (instance σ t) (instance σ u)
  pub of_choices : (e : Equations) (σ τ : Choice) (t : Tree) → ((v : Var) → Contains (tree_vars t) v → IsTheoryEqual e (σ v) (τ v)) → IsTheoryEqual e (instance σ t) (instance τ t)

-- a symbol on normal terms is a left side or isn't; if it is, the one right side is its normal form; if it isn't, it is its own
pub record SymbolsReduceOnce : Type 0 where
  pub side : (e : Equations) (f : List ℕ) (ts : Trees) → ((r : Tree) × IsInstance e (apply f ts) r) ⊎ IsNoLeftSide e (apply f ts)
  pub one_right_side : (e : Equations) (t r s : Tree) → IsInstance e t r → IsInstance e t s → r ≡ s
  pub right_side_is_form : (e : Equations) (f : List ℕ) (ts : Trees) (r : Tree) → AreNormal e ts → IsInstance e (apply f ts) r → IsNormalForm e (apply f ts) r
  pub own_form : (e : Equations) (f : List ℕ) (ts : Trees) → AreNormal e ts → IsNoLeftSide e (apply f ts) → IsNormalForm e (apply f ts) (apply f ts)
  pub of_lists : (e : Equations) (ts : List Tree) → All (IsNormal e) ts → AreNormal e (trees_of ts)

-- a term in which no destructor stands is a pattern, and stays one where ground normal terms are put for some of its variables
abbrev pub PatternsStay : Type 0
PatternsStay =
    (g : Sig) (σ : Choice) (p : Tree) → (HasDestructor g p → ⊥) → ((v : Var) → (σ v ≡ variable v) ⊎ (IsGround (σ v) × IsNormal (equations g) (σ v))) → IsPattern (equations g) (instance σ p)

-- the normal form of a ground term over a signature that holds its builtins' symbols is a message
abbrev pub FormsAreMessages : Type 0
FormsAreMessages = (g : Sig) (t n : Tree) → HoldsBuiltins g → IsGround t → IsOver g t → IsNormalForm (equations g) t n → IsMessage g Msg n
